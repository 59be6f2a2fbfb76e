-- Which inputs each command takes, and which line of the others it refuses.
use Rattle.std.specs.Prelude.{◌≡◌, ◌⊎◌, ℕ, List, Result, Ok, Err, Some, None}
use Rattle.run_model.specs.declared.step.Order.{Order}
use Rattle.line_text.specs.declared.cause.Cause.{Cause}
use Rattle.line_text.specs.declared.cause.Cause.TheVariants as causes
use Rattle.line_text.specs.Lines.{lines_of}
use Rattle.scenario_text.specs.declared.document.Document.{Document}
use Rattle.scenario_text.specs.declared.document.Work.{Work}
use Rattle.scenario_text.specs.declared.document.Work.TheVariants as works
use Rattle.scenario_text.specs.Groups.{client_words, first_line, schedule_words}
use Rattle.scenario_text.specs.Reading.{IsDocument, document_of, document_of_draft, draft_of}
use Rattle.client_asks.specs.Asking.{ClientWork, client_work}
use Rattle.plan_answers.specs.Splitting.{document_lines}
use Rattle.indigo_program.specs.declared.command.Command.{Command}
use Rattle.indigo_program.specs.declared.command.Command.TheVariants as commands

-- the bytes are a document with this schedule
pub record IsScheduled (bytes : List ℕ) (document : Document) (orders : List Order) : Type 0 where
  pub read : document_of bytes ≡ Ok document
  pub schedule : document.work ≡ works.Schedule orders

-- the document in front of a plan, or its first refused line and why
abbrev pub document_before : List ℕ → Result Document (ℕ × Cause)
document_before bytes = document_of_draft (draft_of (document_lines (lines_of bytes)))

-- the inputs that a command is for
abbrev pub IsInputOf : Command → List ℕ → Type 0
IsInputOf commands.Simulate bytes = (document : Document) × (orders : List Order) × IsScheduled bytes document orders
IsInputOf commands.Analyse bytes = IsDocument bytes
IsInputOf commands.Check bytes = (document : Document) × (document_before bytes ≡ Ok document)
IsInputOf commands.Print bytes = IsDocument bytes

-- the work is that of clients
abbrev pub IsOfClients : Work → Type 0
IsOfClients (works.Schedule orders) = ⊥
IsOfClients (works.Clients turns homes asks) = Unit {0}

-- the bytes are a document with work that isn't taken, and this is its first line that holds one of these words, which are of such work
pub record IsOutOfPlace (Other : Work → Type 0) (words : List (List ℕ)) (bytes : List ℕ) (line : ℕ) (cause : Cause) : Type 0 where
  pub document : Document
  pub read : document_of bytes ≡ Ok document
  pub other : Other document.work
  pub first : first_line words (lines_of bytes) ≡ Some line
  pub cause_is : cause ≡ causes.OutOfPlace

-- the line that a command refuses, and why: the bytes are no document, or none that it runs
abbrev pub Refuses : Command → List ℕ → ℕ → Cause → Type 0
Refuses commands.Simulate bytes line cause =
    (document_of bytes ≡ Err (line, cause)) ⊎ IsOutOfPlace IsOfClients client_words bytes line cause
Refuses commands.Analyse bytes line cause = document_of bytes ≡ Err (line, cause)
Refuses commands.Check bytes line cause = document_before bytes ≡ Err (line, cause)
Refuses commands.Print bytes line cause = document_of bytes ≡ Err (line, cause)

-- ---- run

-- the bytes are a document with this work of clients
pub record IsServable (bytes : List ℕ) (document : Document) (work : ClientWork) : Type 0 where
  pub read : document_of bytes ≡ Ok document
  pub clients : client_work document.work ≡ Some work

-- the inputs that `run` is for
abbrev pub IsInputOfRun : List ℕ → Type 0
IsInputOfRun bytes = (document : Document) × (work : ClientWork) × IsServable bytes document work

-- the work is a schedule with lines, which is none of clients
abbrev pub IsOfSchedule : Work → Type 0
IsOfSchedule work = client_work work ≡ None

-- the line that `run` refuses, and why: the bytes are no document, or one with a schedule
abbrev pub RefusesToRun : List ℕ → ℕ → Cause → Type 0
RefusesToRun bytes line cause = (document_of bytes ≡ Err (line, cause)) ⊎ IsOutOfPlace IsOfSchedule schedule_words bytes line cause
