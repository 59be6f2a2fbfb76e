-- What the program answers to words that ask for a run of clients, and to all words.
use Rattle.std.specs.Prelude.{◌≡◌, ◌⊎◌, ℕ, ◌+◌, ◌≤◌, ◌<◌, Bool, IsTrue, List, [], ◌∷◌, length, codes, Some}
use Rattle.ind_io.specs.Streams.{ConsumesWithin}
use Rattle.spec_model.specs.declared.plan.Setup.{Setup}
use Rattle.run_model.specs.declared.step.StepEntry.{StepEntry}
use Rattle.run_model.specs.Worlds.{World}
use Rattle.run_model.specs.Sound.{AtEachStep, IsSound}
use Rattle.run_model.specs.Trace.{trace_text}
use Rattle.certificate_check.specs.declared.certificate.Certificate.{Certificate}
use Rattle.client_asks.specs.Asking.{ClientWork}
use Rattle.client_runs.specs.Serving.{IsLegalService}
use Rattle.request_workers.specs.Histories.{BayTells, Bays}
use Rattle.scenario_text.specs.declared.document.Document.{Document}
use Rattle.scenario_text.specs.declared.document.StopLine.{StopLine}
use Rattle.plan_answers.specs.Analysing.{HasPlan, IsCertified, IsPlanless}
use Rattle.indigo_program.specs.Headline.{Failed, IsAnswerBy, IsAnswered, IsLeftAlone, IsOwed, IsOwedWhere, IsReplyBy, NamesRefused, Stream, input_limit, setup_of}
use Rattle.indigo_program.specs.Inputs.{IsInputOfRun, IsServable, RefusesToRun}

-- the text is the trace of a legal run of the clients' work, which is sound at each step, from a world in which some replicas are up; and where the bay is telling, it tells so of its disks
pub record IsServedTrace (setup : Setup) (work : ClientWork) (lines : List StopLine) (text : List ℕ) (bays : Bays) : Type 0 where
  pub ups : List Bool
  pub entries : List StepEntry
  pub world : World
  pub legal : IsLegalService setup work ups entries world
  pub sound : AtEachStep setup ups entries (IsSound setup)
  pub written : text ≡ trace_text setup entries world
  pub disks : IsTrue bays.tells → BayTells setup lines ups entries world bays

-- a certificate of the derived plan checks, and the text is the trace of a legal run of the clients by that plan
pub record IsServedByPlan (document : Document) (work : ClientWork) (text : List ℕ) (bays : Bays) : Type 0 where
  pub certificate : Certificate
  pub certified : IsCertified document.spec certificate
  pub trace : IsServedTrace (setup_of document.spec document.replicas) work document.stops text bays

-- what is answered to clients: such a trace, or why there is no plan
abbrev pub IsServedAnswer : Document → ClientWork → ℕ → List ℕ → Bays → Type 0
IsServedAnswer document work status text bays = ((status ≡ 0) × IsServedByPlan document work text bays) ⊎ (IsPlanless document.spec status text × IsLeftAlone bays)

-- the bytes are a document with work of clients, and this is answered to that
pub record IsRun (bytes : List ℕ) (status : ℕ) (text : List ℕ) (bays : Bays) : Type 0 where
  pub document : Document
  pub work : ClientWork
  pub taken : IsServable bytes document work
  pub answer : IsServedAnswer document work status text bays

-- the status and the text that `run` has for an input
abbrev pub IsAnswerToRun : List ℕ → ℕ → List ℕ → Bays → Type 0
IsAnswerToRun bytes status text bays = ((status ≡ 3) × NamesRefused (RefusesToRun bytes) text × IsLeftAlone bays) ⊎ IsRun bytes status text bays

-- the words that ask for a run of clients
abbrev pub AsksRun : List (List ℕ) → Type 0
AsksRun words = words ≡ codes "run" ∷ []

-- the status and the text of `run` for an input that came
abbrev pub IsReplyOfRun : Stream → Bays → ℕ → List ℕ → Type 0
IsReplyOfRun source bays = IsReplyBy (λ bytes status text. IsAnswerToRun bytes status text bays) source bays

-- what is answered to `run`; where memory was wanting at most a little more than the longest input was read
abbrev pub IsRunAnswered : Stream → Stream → Bays → ℕ → Type 0
IsRunAnswered source sink bays status = IsAnswerBy (IsReplyOfRun source bays) (ConsumesWithin source.before source.after (input_limit + 1)) sink status

-- what the program answers to words: to those that ask for a run of clients what that answers, and to all others what is answered without threads
abbrev pub IsIndigoAnswered : List (List ℕ) → Stream → Stream → Bays → ℕ → Type 0
IsIndigoAnswered words source sink bays status =
    (AsksRun words × IsRunAnswered source sink bays status)
    ⊎ ((AsksRun words → ⊥) × IsAnswered words source sink bays status)

-- the inputs for which `run` succeeds: work of clients, and a specification that has a plan
abbrev pub RunSucceeds : List ℕ → Type 0
RunSucceeds bytes = (document : Document) × (work : ClientWork) × IsServable bytes document work × HasPlan document.spec

-- the answer that is owed to an input that the source tells, where nothing fails: for `run` by its length and its lines, for all other words as without threads
pub record IsIndigoOwed (words : List (List ℕ)) (bytes : List ℕ) (status : ℕ) : Type 0 where
  pub others : (AsksRun words → ⊥) → IsOwed words bytes status
  pub long : AsksRun words → input_limit < length bytes → (status ≡ 6) ⊎ (status ≡ 9)
  pub short : AsksRun words → length bytes ≤ input_limit → IsOwedWhere (IsInputOfRun bytes) (RunSucceeds bytes) status

abbrev pub IsIndigoComplete : List (List ℕ) → Stream → Stream → ℕ → Type 0
IsIndigoComplete words source sink status =
    (bytes : List ℕ) → source.before ≡ Some bytes → (Failed source → ⊥) → (Failed sink → ⊥) → IsIndigoOwed words bytes status
