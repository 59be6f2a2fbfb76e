-- Runs of clients.
use Rattle.std.specs.Prelude.{◌≡◌, ◌⊎◌, ℕ, zero, suc, ◌-◌, ◌<◌, List, [], ◌++◌, length, map, replicate, Bool, ◌==◌, if◌then◌else◌, slice_get, Some, None}
use Rattle.std.specs.List.{AllByRecursion}
use Rattle.spec_model.specs.declared.plan.Setup.{Setup}
use Rattle.run_model.specs.declared.history.History.{History}
use Rattle.run_model.specs.declared.step.Ask.{Ask}
use Rattle.run_model.specs.declared.step.Ask.TheVariants as asks
use Rattle.run_model.specs.declared.step.Outcome.TheVariants as outcomes
use Rattle.run_model.specs.declared.step.StepEntry.{StepEntry}
use Rattle.run_model.specs.Finals.{lasts_from}
use Rattle.run_model.specs.Runs.{InOrder, Runs, entries_at}
use Rattle.run_model.specs.Sound.{AtEachStep, IsSound}
use Rattle.run_model.specs.Worlds.{World, first_world, logs_of}
use Rattle.local_runs.specs.Alone.{IsBareWhereDown, gots_in, numbers_got, puts_in}
use Rattle.local_runs.specs.Handed.{IsPeer}
use Rattle.replica_node.specs.Steps.{plain}
use Rattle.desk_workers.specs.Interleaving.{Interleaves}
use Rattle.client_asks.specs.Asking.{ClientWork, turns_at}

-- which replicas were up at first
abbrev pub ups_of : List History → List Bool
ups_of histories = map (λ h. h.first_up) histories

-- what was asked, without the numbers of messages
abbrev pub asked_in : List StepEntry → List Ask
asked_in entries = map (λ e. plain e.ask) entries

abbrev pub IsNumbered : Ask → Type 0
IsNumbered (asks.Take from (Some number)) = Unit {0}
IsNumbered ask = ⊥

-- takes from the first replicas, by replica: from each but `me` so many
abbrev pub takes_of : (ℕ → ℕ) → ℕ → ℕ → List Ask
takes_of many me zero = []
takes_of many me (suc peer) = takes_of many me peer ++ (if peer == me then [] else replicate (many peer) (asks.Take peer None))

-- a take got a message, or the replica was down
abbrev pub Found : StepEntry → Type 0
Found e = IsNumbered e.ask ⊎ (e.outcome ≡ outcomes.Down)

-- what a replica was asked: the turns of its clients and of its courier, each in their order; and then it took, by peer, as many messages as the others had put for it and it hadn't got; it got each of them, unless it was down. Of each replica it got the messages in the order of their numbers, from the first on
pub record IsServed (setup : Setup) (work : ClientWork) (entries : List StepEntry) (me : ℕ) : Type 0 where
  pub turns : List StepEntry
  pub closing : List StepEntry
  pub parts : entries_at me entries ≡ turns ++ closing
  pub asked : Interleaves (turns_at setup.replicas work me) (asked_in turns)
  pub closing_asked : asked_in closing ≡ takes_of (λ peer. puts_in me (entries_at peer entries) - gots_in peer turns) me setup.replicas
  pub found : AllByRecursion Found closing
  pub got_in_order : (peer k number : ℕ) → IsPeer setup me peer → slice_get (numbers_got peer (entries_at me entries)) k ≡ Some number → number ≡ k

-- the entries are a legal run of the clients' work from the world in which these replicas are up, and leave this world: steps one after the other, in order, each replica asked its own turns, and no message put or got by one that is down
pub record IsLegalService (setup : Setup) (work : ClientWork) (ups : List Bool) (entries : List StepEntry) (world : World) : Type 0 where
  pub all : length ups ≡ setup.replicas
  pub runs : Runs setup (first_world setup.replicas ups) entries world
  pub in_order : InOrder entries
  pub bare : AllByRecursion IsBareWhereDown entries
  pub served : (me : ℕ) → me < setup.replicas → IsServed setup work entries me

-- such a run, which is sound at each step, and leaves the replicas as their histories say
pub record IsServedRun (setup : Setup) (work : ClientWork) (histories : List History) (entries : List StepEntry) (world : World) : Type 0 where
  pub legal : IsLegalService setup work (ups_of histories) entries world
  pub sound : AtEachStep setup (ups_of histories) entries (IsSound setup)
  pub lasts : map (λ h. h.last) histories ≡ lasts_from setup (logs_of world) 0 world
