-- What each replica served by itself.
use Rattle.std.specs.Prelude.{◌≡◌, ℕ, ◌-◌, List, ◌++◌, length, slice_get, Some}
use Rattle.std.specs.List.{AllByRecursion}
use Rattle.spec_model.specs.declared.plan.Setup.{Setup}
use Rattle.run_model.specs.declared.message.Message.{Message}
use Rattle.run_model.specs.declared.step.StepEntry.{StepEntry}
use Rattle.local_runs.specs.Alone.{gots_in}
use Rattle.replica_course.specs.declared.course.Course.{Course}
use Rattle.client_asks.specs.Asking.{ClientWork, turns_at}
use Rattle.replica_node.specs.Laws.{AreClosed}
use Rattle.desk_workers.specs.Interleaving.{Interleaves}
use Rattle.client_runs.specs.Serving.{Found, asked_in, takes_of}

-- its turns, and behind them its closing takes, where these messages were put for it
pub record ServesAlone (setup : Setup) (work : ClientWork) (put : ℕ → ℕ → List Message) (me : ℕ) (entries : List StepEntry) : Type 0 where
  pub turns : List StepEntry
  pub closing : List StepEntry
  pub parts : entries ≡ turns ++ closing
  pub asked : Interleaves (turns_at setup.replicas work me) (asked_in turns)
  pub closing_asked : asked_in closing ≡ takes_of (λ peer. length (put peer me) - gots_in peer turns) me setup.replicas
  pub found : AllByRecursion Found closing

-- all replicas, whose links were settled
pub record HaveServed (setup : Setup) (work : ClientWork) (courses : List Course) (taken put : ℕ → ℕ → List Message) : Type 0 where
  pub closed : AreClosed setup courses taken put
  pub place : (me : ℕ) (c : Course) → slice_get courses me ≡ Some c → c.me ≡ me
  pub served : (me : ℕ) (c : Course) → slice_get courses me ≡ Some c → ServesAlone setup work put me c.entries
