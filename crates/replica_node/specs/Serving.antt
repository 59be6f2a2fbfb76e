-- A node that serves asks in turns.
use Rattle.std.specs.Prelude.{◌≡◌, ℕ, ◌+◌, ◌-◌, ◌^◌, ◌≤◌, List, map, min}
use Rattle.spec_model.specs.declared.plan.Setup.{Setup}
use Rattle.run_model.specs.declared.batch.Batch.{Batch}
use Rattle.run_model.specs.declared.message.Message.{Message}
use Rattle.run_model.specs.declared.step.Ask.{Ask}
use Rattle.run_model.specs.declared.step.StepEntry.{StepEntry}
use Rattle.run_model.specs.Worlds.{Running}
use Rattle.batch_storage.specs.Shown.{Shown}
use Rattle.local_runs.specs.Handed.{AskFits}
use Rattle.replica_course.specs.Courses.{HasStops}
use Rattle.replica_node.specs.Nodes.{IsNode}
use Rattle.replica_node.specs.Steps.{IsOf, idles_in, plain}
use Rattle.replica_node.specs.declared.node.Node.{Node}
use Rattle.replica_node.specs.declared.served.Opening.{Opening}

-- what was served: each ask, without the number of a message, with the entry of its step
abbrev pub turns_of : List StepEntry → List (Ask × StepEntry)
turns_of entries = map (λ e. (plain e.ask, e)) entries

-- an ask of that replica fits its setup, and has no number
pub record CanServe {S E D M : Type 0} (o : Opening (Node S E D M)) (ask : Ask) : Type 0 where
  pub fits : AskFits o.setup o.first.still.course.me ask
  pub is_plain : plain ask ≡ ask

-- what it runs by, and the node: as it was before its first turn, and as it is
pub record Serving (N : Type 0) : Type 0 where
  pub setup : Setup
  pub first : N
  pub node : N

-- what a node did since its first turn: it is the same replica over the same links. Its disk failed only where a stop was spent, and a take found no message only where a get of its ends found none
pub record HasServed {S E D M : Type 0} (keeps : S → ℕ → List Batch → Running → Type 0) (shows : S → Shown) (mark : E → M) (owner : M → ℕ) (reaches : M → ℕ → Type 0) (room : M → ℕ → ℕ) (puts gots : E → ℕ → List Message) (idles : E → ℕ) (setup : Setup) (first now : Node S E D M) : Type 0 where
  pub own : IsNode keeps mark owner reaches room puts gots setup first.still.course.me now
  pub same : IsOf first.still.course now.still.course
  pub marked : mark now.ends ≡ mark first.ends
  pub stops : (given : ℕ) → HasStops given (shows first.still.storage) first.still.course → HasStops given (shows now.still.storage) now.still.course
  pub found_none : min (idles first.ends + idles_in now.still.course.entries) (2 ^ 64 - 1) ≤ idles now.ends
