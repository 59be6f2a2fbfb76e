-- What the program answers.
use Rattle.std.specs.Prelude.{◌≡◌, ◌⊎◌, ℕ, ◌+◌, ◌^◌, ◌≤◌, ◌<◌, Bool, IsTrue, List, [], ◌∷◌, ◌++◌, length, codes, decimal, Ok, Some}
use Rattle.std.specs.declared.option.Option.{Option}
use Rattle.std.specs.Io.KnownBytes.{Appends, Consumes, IsAtEnd, Keeps}
use Rattle.ind_io.specs.Causes.{Rose}
use Rattle.ind_io.specs.Streams.{ConsumesJust, ConsumesWithin}
use Rattle.spec_model.specs.declared.plan.Setup.{Setup}
use Rattle.spec_model.specs.declared.spec.Spec.{Spec}
use Rattle.run_model.specs.declared.step.Order.{Order}
use Rattle.run_model.specs.declared.step.StepEntry.{StepEntry}
use Rattle.run_model.specs.Worlds.{World}
use Rattle.run_model.specs.Runs.{IsLegal}
use Rattle.run_model.specs.Sound.{AtEachStep, IsSound}
use Rattle.run_model.specs.Trace.{trace_text}
use Rattle.reservation_plan.specs.Derived.{derived_plan}
use Rattle.certificate_check.specs.declared.certificate.Certificate.{Certificate}
use Rattle.line_text.specs.declared.cause.Cause.{Cause}
use Rattle.request_workers.specs.Histories.{BayTells, Bays}
use Rattle.scenario_text.specs.declared.document.Document.{Document}
use Rattle.scenario_text.specs.declared.document.StopLine.{StopLine}
use Rattle.scenario_text.specs.Reading.{IsDocument, document_of}
use Rattle.scenario_text.specs.Saying.{document_text}
use Rattle.soak_documents.specs.Generating.{generated, schedule_of}
use Rattle.soak_documents.specs.Summary.{soak_text}
use Rattle.indigo_program.specs.declared.command.Command.{Command}
use Rattle.indigo_program.specs.declared.command.Command.TheVariants as commands
use Rattle.indigo_program.specs.CauseTexts.{refusal_text}
use Rattle.line_text.specs.Lines.{lines_of}
use Rattle.plan_answers.specs.Analysing as analyses
use Rattle.plan_answers.specs.Analysing.{HasPlan, IsCertified, IsPlanless}
use Rattle.plan_answers.specs.Checking as checks
use Rattle.plan_answers.specs.Checking.{HasYes}
use Rattle.plan_answers.specs.Splitting.{document_lines, plan_lines}
use Rattle.indigo_program.specs.Inputs.{IsInputOf, IsScheduled, Refuses, document_before}

-- what replicas agree on: the specification, the derived plan, and how many they are
abbrev pub setup_of : Spec → ℕ → Setup
setup_of spec replicas = record { spec = spec; plan = derived_plan spec; replicas = replicas }

-- the text is the trace of a legal run of the schedule, which is sound at each step, from a world in which some replicas are up; and where the bay is telling, it tells so of its disks
pub record IsLegalTrace (setup : Setup) (lines : List StopLine) (schedule : List Order) (text : List ℕ) (bays : Bays) : Type 0 where
  pub ups : List Bool
  pub entries : List StepEntry
  pub world : World
  pub legal : IsLegal setup schedule ups entries world
  pub sound : AtEachStep setup ups entries (IsSound setup)
  pub written : text ≡ trace_text setup entries world
  pub disks : IsTrue bays.tells → BayTells setup lines ups entries world bays

-- a certificate of the derived plan checks, and the text is the trace of a legal run by that plan
pub record IsTrace (document : Document) (orders : List Order) (text : List ℕ) (bays : Bays) : Type 0 where
  pub certificate : Certificate
  pub certified : IsCertified document.spec certificate
  pub trace : IsLegalTrace (setup_of document.spec document.replicas) document.stops orders text bays

-- what the bay tells is as it was: no disk was asked for, and none came back
abbrev pub IsLeftAlone : Bays → Type 0
IsLeftAlone bays = ((r : ℕ) → bays.given_after r ≡ bays.given_before r) × ((r : ℕ) → bays.left_after r ≡ bays.left_before r)

-- a command that runs nothing leaves the bay alone
abbrev pub LeavesAlone : Command → Bays → Type 0
LeavesAlone commands.Simulate bays = Unit {0}
LeavesAlone commands.Analyse bays = IsLeftAlone bays
LeavesAlone commands.Check bays = IsLeftAlone bays
LeavesAlone commands.Print bays = IsLeftAlone bays

-- what is answered to a schedule: such a trace, or why there is no plan
abbrev pub IsScheduleAnswer : Document → List Order → ℕ → List ℕ → Bays → Type 0
IsScheduleAnswer document orders status text bays = ((status ≡ 0) × IsTrace document orders text bays) ⊎ (IsPlanless document.spec status text × IsLeftAlone bays)

-- the bytes are a document with a schedule, and this is answered to that
pub record IsSimulated (bytes : List ℕ) (status : ℕ) (text : List ℕ) (bays : Bays) : Type 0 where
  pub document : Document
  pub orders : List Order
  pub taken : IsScheduled bytes document orders
  pub answer : IsScheduleAnswer document orders status text bays

-- the bytes are a document, and the text is its canonical one
pub record IsPrinted (bytes text : List ℕ) : Type 0 where
  pub document : Document
  pub read : document_of bytes ≡ Ok document
  pub written : text ≡ document_text document

-- the bytes are a document, and this is the analysis of its specification
pub record IsAnalysed (bytes : List ℕ) (status : ℕ) (text : List ℕ) : Type 0 where
  pub document : Document
  pub read : document_of bytes ≡ Ok document
  pub answer : analyses.IsAnswer document.spec status text

-- the bytes are a document and a plan behind it, and this is the verdict on that
pub record IsChecked (bytes : List ℕ) (status : ℕ) (text : List ℕ) : Type 0 where
  pub document : Document
  pub read : document_before bytes ≡ Ok document
  pub answer : checks.IsAnswer document.spec (length (document_lines (lines_of bytes))) (plan_lines (lines_of bytes)) status text

-- what a command makes of an input that it is for
abbrev pub Makes : Command → List ℕ → ℕ → List ℕ → Bays → Type 0
Makes commands.Simulate bytes status text bays = IsSimulated bytes status text bays
Makes commands.Analyse bytes status text bays = IsAnalysed bytes status text × IsLeftAlone bays
Makes commands.Check bytes status text bays = IsChecked bytes status text × IsLeftAlone bays
Makes commands.Print bytes status text bays = (status ≡ 0) × IsPrinted bytes text × IsLeftAlone bays

-- the text is the summary of a run of the document of a seed, just as a simulation of that document would trace it
pub record IsSoaked (seed : ℕ) (text : List ℕ) (bays : Bays) : Type 0 where
  pub trace : List ℕ
  pub run : IsTrace (generated seed) (schedule_of seed) trace bays
  pub written : text ≡ soak_text seed run.trace.entries

-- the text names a line that is refused so, and why
pub record NamesRefused (Refused : ℕ → Cause → Type 0) (text : List ℕ) : Type 0 where
  pub line : ℕ
  pub cause : Cause
  pub refused : Refused line cause
  pub written : text ≡ refusal_text line cause

-- the most bytes of an input
abbrev pub input_limit : ℕ
input_limit = 4194304

-- a source or a sink at the start and at the end of a call: the bytes that it tells, and how often it has failed
pub record Stream : Type 0 where
  pub before : Option (List ℕ)
  pub after : Option (List ℕ)
  pub faults_before : ℕ
  pub faults_after : ℕ

-- it failed in this call
abbrev pub Failed : Stream → Type 0
Failed s = Rose s.faults_before s.faults_after

-- the source was read to its end, and this holds of its bytes
pub record WasRead (source : Stream) (P : List ℕ → Type 0) : Type 0 where
  pub bytes : List ℕ
  pub all : Consumes source.before source.after bytes
  pub end : IsAtEnd source.after
  pub short : length bytes ≤ input_limit
  pub holds : P bytes

-- the words of each command
abbrev pub IsNamed : List (List ℕ) → Command → Type 0
IsNamed words commands.Simulate = words ≡ codes "simulate" ∷ []
IsNamed words commands.Analyse = words ≡ codes "analyse" ∷ []
IsNamed words commands.Check = words ≡ codes "check" ∷ []
IsNamed words commands.Print = words ≡ codes "print" ∷ []

-- the words that ask for the soak of a seed
pub record AsksSoak (words : List (List ℕ)) (seed : ℕ) : Type 0 where
  pub small : seed < 2 ^ 64
  pub are : words ≡ codes "soak" ∷ decimal seed ∷ []

-- words that ask for something
abbrev pub AreKnown : List (List ℕ) → Type 0
AreKnown words = ((command : Command) × IsNamed words command) ⊎ ((seed : ℕ) × AsksSoak words seed)

-- the status and the text that a command has for an input
abbrev pub IsAnswerTo : Command → List ℕ → ℕ → List ℕ → Bays → Type 0
IsAnswerTo command bytes status text bays = ((status ≡ 3) × NamesRefused (Refuses command bytes) text × IsLeftAlone bays) ⊎ Makes command bytes status text bays

-- the status and the text for an input that came: it failed within the limit, was too long, or was read and answered so
abbrev pub IsReplyBy : (List ℕ → ℕ → List ℕ → Type 0) → Stream → Bays → ℕ → List ℕ → Type 0
IsReplyBy Answer source bays status text =
    ((status ≡ 4) × (text ≡ codes "read fault\n") × Failed source × ConsumesWithin source.before source.after input_limit × IsLeftAlone bays)
    ⊎ ((status ≡ 6) × (text ≡ codes "input too long\n") × ConsumesJust source.before source.after (input_limit + 1) × IsLeftAlone bays)
    ⊎ WasRead source (λ bytes. Answer bytes status text)

-- the same of a command
abbrev pub IsReplyOf : Command → Stream → Bays → ℕ → List ℕ → Type 0
IsReplyOf command source bays = IsReplyBy (λ bytes status text. IsAnswerTo command bytes status text bays) source bays

-- the status and the text for words and an input; for a soak and for other words nothing is read
abbrev pub IsReply : List (List ℕ) → Stream → Bays → ℕ → List ℕ → Type 0
IsReply words source bays status text =
    ((status ≡ 2) × (text ≡ codes "bad words\n") × (AreKnown words → ⊥) × Keeps source.before source.after × IsLeftAlone bays)
    ⊎ ((command : Command) × IsNamed words command × IsReplyOf command source bays status text)
    ⊎ ((seed : ℕ) × AsksSoak words seed × (status ≡ 0) × IsSoaked seed text bays × Keeps source.before source.after)

-- the whole text of a reply is out
pub record IsWritten (Reply : ℕ → List ℕ → Type 0) (sink : Stream) (status : ℕ) : Type 0 where
  pub text : List ℕ
  pub reply : Reply status text
  pub out : Appends sink.before sink.after text

-- the sink failed, and a front of the text of a reply is out
pub record IsCutOff (Reply : ℕ → List ℕ → Type 0) (sink : Stream) : Type 0 where
  pub status : ℕ
  pub text : List ℕ
  pub front : List ℕ
  pub behind : List ℕ
  pub reply : Reply status text
  pub failed : Failed sink
  pub parts : text ≡ front ++ behind
  pub out : Appends sink.before sink.after front

-- what is answered: 5 where the sink failed, 9 where memory was wanting for what was begun and nothing is written, else a reply
abbrev pub IsAnswerBy : (ℕ → List ℕ → Type 0) → Type 0 → Stream → ℕ → Type 0
IsAnswerBy Reply Begun sink status =
    IsWritten Reply sink status
    ⊎ ((status ≡ 5) × IsCutOff Reply sink)
    ⊎ ((status ≡ 9) × Begun × Keeps sink.before sink.after)

-- what words ask for was begun: at most a little more than the longest input was read for a command, and nothing for a soak
abbrev pub WasBegun : List (List ℕ) → Stream → Bays → Type 0
WasBegun words source bays =
    ((command : Command) × IsNamed words command × ConsumesWithin source.before source.after (input_limit + 1) × LeavesAlone command bays)
    ⊎ ((seed : ℕ) × AsksSoak words seed × Keeps source.before source.after)

-- what the program answers to words
abbrev pub IsAnswered : List (List ℕ) → Stream → Stream → Bays → ℕ → Type 0
IsAnswered words source sink bays status = IsAnswerBy (IsReply words source bays) (WasBegun words source bays) sink status

-- the inputs for which a command succeeds: a schedule that is run and a specification that has a plan, such a specification alone, a plan with a certificate that checks, a document
abbrev pub Succeeds : Command → List ℕ → Type 0
Succeeds commands.Simulate bytes = (document : Document) × (orders : List Order) × IsScheduled bytes document orders × HasPlan document.spec
Succeeds commands.Analyse bytes = (document : Document) × (document_of bytes ≡ Ok document) × HasPlan document.spec
Succeeds commands.Check bytes = (document : Document) × (document_before bytes ≡ Ok document) × HasYes document.spec (plan_lines (lines_of bytes))
Succeeds commands.Print bytes = IsDocument bytes

-- what is owed to an input, where memory isn't wanting: 3 where it is none of those that are taken, and 0 exactly where it succeeds
pub record IsOwedWhere (Taken Success : Type 0) (status : ℕ) : Type 0 where
  pub other : (Taken → ⊥) → (status ≡ 3) ⊎ (status ≡ 9)
  pub succeeds : Success → (status ≡ 0) ⊎ (status ≡ 9)
  pub fails : (Success → ⊥) → status ≡ 0 → ⊥

abbrev pub IsOwedBy : Command → List ℕ → ℕ → Type 0
IsOwedBy command bytes status = IsOwedWhere (IsInputOf command bytes) (Succeeds command bytes) status

-- the answer that is owed to an input that the source tells, where nothing fails: by its words, its length and its lines
pub record IsOwed (words : List (List ℕ)) (bytes : List ℕ) (status : ℕ) : Type 0 where
  pub other_words : (AreKnown words → ⊥) → status ≡ 2
  pub long : (command : Command) → IsNamed words command → input_limit < length bytes → (status ≡ 6) ⊎ (status ≡ 9)
  pub short : (command : Command) → IsNamed words command → length bytes ≤ input_limit → IsOwedBy command bytes status

abbrev pub IsComplete : List (List ℕ) → Stream → Stream → ℕ → Type 0
IsComplete words source sink status =
    (bytes : List ℕ) → source.before ≡ Some bytes → (Failed source → ⊥) → (Failed sink → ⊥) → IsOwed words bytes status

-- what is owed to a soak, whatever the source: its summary, where memory isn't wanting and the sink doesn't fail
abbrev pub IsSoakOwed : List (List ℕ) → Stream → ℕ → Type 0
IsSoakOwed words sink status = (seed : ℕ) → AsksSoak words seed → (Failed sink → ⊥) → (status ≡ 0) ⊎ (status ≡ 9)
