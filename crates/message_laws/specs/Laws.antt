-- Laws of what is needed, and of messages in runs.
use Rattle.std.specs.Prelude.{◌≡◌, ℕ, ◌≤◌, Bool, List, length, Some}
use Rattle.std.specs.List.{AllByRecursion}
use Rattle.spec_model.specs.declared.plan.Setup.{Setup}
use Rattle.spec_model.specs.declared.instance.Inst.{Inst}
use Rattle.spec_model.specs.Fits.{InstFits}
use Rattle.spec_model.specs.Needs.{needs}
use Rattle.spec_model.specs.Truths.{Truths}
use Rattle.run_model.specs.declared.message.Message.{Message}
use Rattle.run_model.specs.declared.step.Ask.TheVariants as asks
use Rattle.run_model.specs.declared.step.StepEntry.{StepEntry}
use Rattle.run_model.specs.Fitting.{AsksFit, NeedFits, SetupFits}
use Rattle.run_model.specs.Locals.{Local, StandsIn}
use Rattle.run_model.specs.Logs.{log_at}
use Rattle.run_model.specs.Runs.{Runs}
use Rattle.run_model.specs.Sound.{IsSettled}
use Rattle.run_model.specs.Steps.{Hears, links_of}
use Rattle.run_model.specs.Worlds.{Sending, World, first_world, logs_of}
use Rattle.message_laws.specs.Heeded.{IsHeededWhole}
use Rattle.message_laws.specs.Views.{view_in}

-- what an instance needs fits the setup
abbrev pub NeedsFit : Type 0
NeedsFit = (setup : Setup) (s : Truths) (inst : Inst) → SetupFits setup → InstFits setup.spec inst → AllByRecursion (NeedFits setup) (needs setup s inst)

-- in a run of at most 16 replicas by a plan that is enough, whose asks fit, and whose replicas log at most 2 ^ 22 items each, each replica that is up heeds whole what was sent to it
abbrev pub MessagesAreHeeded : Type 0
MessagesAreHeeded = (setup : Setup) (ups : List Bool) (entries : List StepEntry) (world : World) (me : ℕ) (l : Local) (from number : ℕ) (sent : Sending) (message : Message)
    → IsSettled setup → setup.replicas ≤ 16 → length ups ≡ setup.replicas → AsksFit setup.spec entries → Runs setup (first_world setup.replicas ups) entries world
    → StandsIn world me l → ((j : ℕ) → length (log_at (logs_of world) j) ≤ 4194304)
    → Hears (links_of world) me (asks.Take from (Some number)) l.standing.running (Some sent) → sent.message ≡ Some message
    → IsHeededWhole setup (view_in me l) message
