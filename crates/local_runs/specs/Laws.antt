-- Runs of replicas by themselves are one run.
use Rattle.std.specs.Prelude.{◌≡◌, ℕ, ◌≤◌, List, length, map, Bool, slice_get, Some}
use Rattle.std.specs.List.{AllByRecursion}
use Rattle.spec_model.specs.declared.plan.Setup.{Setup}
use Rattle.run_model.specs.declared.message.Message.{Message}
use Rattle.run_model.specs.declared.step.StepEntry.{StepEntry}
use Rattle.run_model.specs.Locals.{Local, StandsIn}
use Rattle.run_model.specs.Runs.{InOrder, Runs}
use Rattle.run_model.specs.Sound.{IsSettled}
use Rattle.run_model.specs.Worlds.{World, first_world}
use Rattle.local_runs.specs.Alone.{AreAlone, IsBareWhereDown, RunsAlone, gots_in, numbers_got, puts_in}

-- the world of a run, in which the replicas stand so; one that was down put and got nothing
pub record AreOneRun (setup : Setup) (ups : List Bool) (entries : List StepEntry) (lasts : List Local) (world : World) : Type 0 where
  pub runs : Runs setup (first_world setup.replicas ups) entries world
  pub stand : (me : ℕ) (l : Local) → slice_get lasts me ≡ Some l → StandsIn world me l
  pub bare : AllByRecursion IsBareWhereDown entries

-- what replicas did by themselves, each taking what messages it was given, is one run by a plan that is enough, where all entries stand in order, and each took a front of what was put for it
abbrev pub AloneIsTogether : Type 0
AloneIsTogether = (setup : Setup) (ups : List Bool) (taken put : ℕ → ℕ → List Message) (entries : List StepEntry) (lasts : List Local)
    → IsSettled setup → setup.replicas ≤ 16 → InOrder entries → AreAlone setup ups taken put entries lasts → (world : World) × AreOneRun setup ups entries lasts world

-- the entries of a replica by itself stand in order, and are its own
abbrev pub AloneIsInOrder : Type 0
AloneIsInOrder = (setup : Setup) (me : ℕ) (up : Bool) (taken put : ℕ → List Message) (entries : List StepEntry) (last : Local)
    → RunsAlone setup me up taken put entries last → InOrder entries × AllByRecursion (λ e. e.replica ≡ me) entries

-- a replica by itself has an entry with a number for each message that it put, and for each that it took
abbrev pub AloneIsCounted : Type 0
AloneIsCounted = (setup : Setup) (me : ℕ) (up : Bool) (taken put : ℕ → List Message) (entries : List StepEntry) (last : Local)
    → RunsAlone setup me up taken put entries last → ((to : ℕ) → puts_in to entries ≡ length (put to)) × ((from : ℕ) → gots_in from entries ≡ length (taken from))

-- the messages that a replica by itself put for another are numbered from 0, and its entries have the numbers of those that it took
abbrev pub AloneIsNumbered : Type 0
AloneIsNumbered = (setup : Setup) (me : ℕ) (up : Bool) (taken put : ℕ → List Message) (entries : List StepEntry) (last : Local)
    → RunsAlone setup me up taken put entries last
    → ((to k : ℕ) (m : Message) → slice_get (put to) k ≡ Some m → m.number ≡ k) × ((from : ℕ) → numbers_got from entries ≡ map (λ m. m.number) (taken from))
