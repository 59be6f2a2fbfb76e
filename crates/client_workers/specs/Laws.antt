-- How much is asked of a replica.
use Rattle.std.specs.Prelude.{◌≡◌, ℕ, ◌+◌, ◌-◌, ◌*◌, ◌<◌, ◌≤◌, List, length, sum_by}
use Rattle.spec_model.specs.declared.spec.Spec.{Spec}
use Rattle.run_model.specs.declared.step.Ask.{Ask}
use Rattle.scenario_text.specs.WellFormed.{ClientsFit}
use Rattle.desk_workers.specs.Interleaving.{Interleaves}
use Rattle.client_asks.specs.Asking.{ClientWork, courier_asks, sends_in, turns_at}

-- how many turns a replica has: those of its clients, and of its courier
abbrev pub turns_of : ℕ → ClientWork → ℕ → ℕ
turns_of replicas work me = sum_by length (turns_at replicas work me)

-- the turns of a replica in one line: as many as it has, and of them only its courier's are sends
pub record IsLine (replicas : ℕ) (work : ClientWork) (me : ℕ) (line : List Ask) : Type 0 where
  pub long : length line ≡ turns_of replicas work me
  pub sends : (to : ℕ) → sends_in to line ≡ sends_in to (courier_asks replicas me work.turns)

-- a replica has few turns, also with the messages that it takes at the end, of each other replica no more than couriers have turns; and its courier sends to no replica more often than it has turns
pub record HasFewTurns (replicas : ℕ) (work : ClientWork) (me : ℕ) : Type 0 where
  pub few : turns_of replicas work me + work.turns * (replicas - 1) ≤ 100000
  pub lines : (line : List Ask) → Interleaves (turns_at replicas work me) line → IsLine replicas work me line
  pub sends_few : (to : ℕ) → sends_in to (courier_asks replicas me work.turns) ≤ work.turns

-- that holds of each replica, if the work of the clients fits
abbrev pub TurnsAreFew : Type 0
TurnsAreFew = (spec : Spec) (replicas : ℕ) (work : ClientWork) (me : ℕ) → ClientsFit spec replicas work.turns work.homes work.asked → me < replicas → HasFewTurns replicas work me
