-- Runs of replicas by themselves, and what passed on the links between them.
use Rattle.std.specs.Prelude.{◌≡◌, ◌≢◌, ℕ, ◌<◌, List, [], ◌∷◌, ◌++◌, length, map, filter, ◌==◌, if◌then◌else◌, Bool, false, slice_get, Some}
use Rattle.std.specs.List.{AllByRecursion, flat_map}
use Rattle.spec_model.specs.declared.plan.Setup.{Setup}
use Rattle.run_model.specs.declared.message.Message.{Message}
use Rattle.run_model.specs.declared.step.Ask.{Ask}
use Rattle.run_model.specs.declared.step.Ask.TheVariants as asks
use Rattle.run_model.specs.declared.step.Outcome.TheVariants as outcomes
use Rattle.run_model.specs.declared.step.StepEntry.{StepEntry}
use Rattle.run_model.specs.Locals.{Local, first_local}
use Rattle.run_model.specs.Runs.{entries_at}
use Rattle.run_model.specs.Worlds.{sent_to}
use Rattle.local_runs.specs.Handed.{Handed, HandRuns, IsRefused, sending_of, taken_from}

-- replica me, up at first or not, took these steps by itself and came to stand so: it took these messages from each replica, and put those for each
pub record RunsAlone (setup : Setup) (me : ℕ) (up : Bool) (taken put : ℕ → List Message) (entries : List StepEntry) (last : Local) : Type 0 where
  pub steps : List Handed
  pub are : map (λ s. s.entry) steps ≡ entries
  pub runs : HandRuns setup me (first_local setup.replicas up) steps last
  pub took : (from : ℕ) → taken_from from steps ≡ taken from
  pub sent : (to : ℕ) → sent_to to last.standing.sendings ≡ map sending_of (put to)

-- a front of a list
abbrev pub IsFront : {X : Type 0} → List X → List X → Type 0
IsFront front whole = (rest : List _) × (whole ≡ front ++ rest)

-- each replica ran by itself, its entries are among these, no link was full, and from each link it took what was put there, in order, or a front of that
pub record AreAlone (setup : Setup) (ups : List Bool) (taken put : ℕ → ℕ → List Message) (entries : List StepEntry) (lasts : List Local) : Type 0 where
  pub all : length ups ≡ setup.replicas
  pub whole : length lasts ≡ setup.replicas
  pub within : AllByRecursion (λ e. e.replica < setup.replicas) entries
  pub each : (me : ℕ) (up : Bool) (l : Local) → slice_get ups me ≡ Some up → slice_get lasts me ≡ Some l → RunsAlone setup me up (taken me) (put me) (entries_at me entries) l
  pub passed : (me from : ℕ) → me < setup.replicas → from < setup.replicas → from ≢ me → IsFront (taken me from) (put from me)
  pub never_full : AllByRecursion (λ e. (to : ℕ) → IsRefused to e → ⊥) entries

-- ---- messages by their entries

-- an ask that names no message by its number
abbrev pub IsBare : Ask → Type 0
IsBare (asks.Send to (Some number)) = ⊥
IsBare (asks.Take from (Some number)) = ⊥
IsBare ask = Unit {0}

-- a replica that is down puts no message, and gets none
abbrev pub IsBareWhereDown : StepEntry → Type 0
IsBareWhereDown e = e.outcome ≡ outcomes.Down → IsBare e.ask

abbrev pub is_put : ℕ → Ask → Bool
is_put to (asks.Send peer (Some number)) = peer == to
is_put to ask = false

abbrev pub is_got : ℕ → Ask → Bool
is_got from (asks.Take peer (Some number)) = peer == from
is_got from ask = false

-- how many messages were put for that replica
abbrev pub puts_in : ℕ → List StepEntry → ℕ
puts_in to entries = length (filter (λ e. is_put to e.ask) entries)

-- how many messages of that replica were got
abbrev pub gots_in : ℕ → List StepEntry → ℕ
gots_in from entries = length (filter (λ e. is_got from e.ask) entries)

-- the number of the message of that replica that an ask got, if it got one
abbrev pub number_got : ℕ → Ask → List ℕ
number_got from (asks.Take peer (Some number)) = if peer == from then number ∷ [] else []
number_got from ask = []

-- the numbers of the messages of that replica that were got, in order
abbrev pub numbers_got : ℕ → List StepEntry → List ℕ
numbers_got from entries = flat_map (λ e. number_got from e.ask) entries
