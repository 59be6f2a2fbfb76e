-- The lines that say a document, in order of rank, and its canonical text.
use Rattle.std.specs.Prelude.{ℕ, ◌+◌, List, [], ◌∷◌, ◌++◌, map, Option, Some, None, if◌then◌else◌}
use Rattle.std.specs.List.{flat_map}
use Rattle.ind_base.specs.declared.span.Span.{Span}
use Rattle.spec_model.specs.declared.clause.Var.{Var}
use Rattle.spec_model.specs.declared.operation.Op.{Op}
use Rattle.spec_model.specs.declared.instance.Inst.{Inst}
use Rattle.run_model.specs.declared.step.Ask.{Ask}
use Rattle.run_model.specs.declared.step.Ask.TheVariants as asks
use Rattle.run_model.specs.declared.step.Order.{Order}
use Rattle.scenario_lines.specs.declared.argument.NamedArg.{NamedArg}
use Rattle.scenario_lines.specs.declared.argument.NamedArg.TheVariants as args
use Rattle.scenario_lines.specs.declared.line.RunLine.{RunLine}
use Rattle.scenario_lines.specs.declared.line.RunLine.TheVariants as lines
use Rattle.scenario_lines.specs.Texts.{line_text, request_text}
use Rattle.spec_language.specs.Saying.{op_name, spec_text}
use Rattle.scenario_text.specs.Requests.{params_at}
use Rattle.scenario_text.specs.declared.document.StopLine.{StopLine}
use Rattle.scenario_text.specs.declared.document.ClientAsk.{ClientAsk}
use Rattle.scenario_text.specs.declared.document.Work.{Work}
use Rattle.scenario_text.specs.declared.document.Work.TheVariants as works
use Rattle.scenario_text.specs.declared.document.Document.{Document}

-- a span for an interval parameter, a number for a plain one
unfoldable pub say_arg : Var → Span → NamedArg
say_arg param span = if param.interval then args.Span span.lo span.hi else args.One span.lo

-- the arguments, parameter by parameter
abbrev pub say_args : List Var → List Span → List NamedArg
say_args [] spans = []
say_args (p ∷ ps) [] = []
say_args (p ∷ ps) (s ∷ ss) = say_arg p s ∷ say_args ps ss

-- the arguments of an instance
abbrev pub inst_args : List Op → Inst → List NamedArg
inst_args ops inst = say_args (params_at ops inst.op) inst.args

-- the number of a message; it is always given in a schedule
abbrev pub number_of : Option ℕ → ℕ
number_of None = 0
number_of (Some n) = n

abbrev pub say_do : List Op → ℕ → Inst → RunLine
say_do ops replica inst = lines.Do replica (op_name ops inst.op) (inst_args ops inst)

abbrev pub say_step : List Op → ℕ → Ask → RunLine
say_step ops replica (asks.Do inst) = say_do ops replica inst
say_step ops replica (asks.Send to number) = lines.Send replica to
say_step ops replica (asks.Take from number) = lines.Take replica from (number_of number)
say_step ops replica asks.Crash = lines.Crash replica
say_step ops replica asks.Recover = lines.Recover replica

unfoldable pub say_order : List Op → Order → RunLine
say_order ops order = say_step ops order.replica order.ask

abbrev pub say_ask_do : List Op → ℕ → Inst → RunLine
say_ask_do ops client inst = lines.AskDo client (op_name ops inst.op) (inst_args ops inst)

-- clients ask for operations, crashes and recoveries alone
abbrev pub say_request : List Op → ℕ → Ask → RunLine
say_request ops client (asks.Do inst) = say_ask_do ops client inst
say_request ops client (asks.Send to number) = lines.AskRecover client
say_request ops client (asks.Take from number) = lines.AskRecover client
say_request ops client asks.Crash = lines.AskCrash client
say_request ops client asks.Recover = lines.AskRecover client

unfoldable pub say_ask : List Op → ClientAsk → RunLine
say_ask ops ask = say_request ops ask.client ask.ask

unfoldable pub say_stop : StopLine → RunLine
say_stop line = lines.Stop line.replica line.stop.call line.stop.keep line.stop.fill

-- the clients, counted from this number
abbrev pub say_homes : ℕ → List ℕ → List RunLine
say_homes client [] = []
say_homes client (home ∷ homes) = lines.Client client home ∷ say_homes (client + 1) homes

abbrev pub work_lines : List Op → Work → List RunLine
work_lines ops (works.Schedule orders) = map (say_order ops) orders
work_lines ops (works.Clients turns homes asked) = lines.Turns turns ∷ (say_homes 0 homes ++ map (say_ask ops) asked)

-- all lines behind the specification
unfoldable pub run_lines : Document → List RunLine
run_lines d = lines.Replicas d.replicas ∷ (map say_stop d.stops ++ work_lines d.spec.ops d.work)

-- a line with its end
unfoldable pub ended_text : RunLine → List ℕ
ended_text line = line_text line ++ (10 ∷ [])

-- a word with its space, a number and an instance, with the line's end
abbrev pub inst_text : List Op → List ℕ → ℕ → Inst → List ℕ
inst_text ops word n inst = request_text word n (op_name ops inst.op) (inst_args ops inst) ++ (10 ∷ [])

-- the text of clients and their requests
abbrev pub clients_text : List Op → ℕ → List ℕ → List ClientAsk → List ℕ
clients_text ops turns homes asked = ended_text (lines.Turns turns) ++ (flat_map ended_text (say_homes 0 homes) ++ flat_map ended_text (map (say_ask ops) asked))

-- the text of the work
abbrev pub work_text : List Op → Work → List ℕ
work_text ops (works.Schedule orders) = flat_map ended_text (map (say_order ops) orders)
work_text ops (works.Clients turns homes asked) = clients_text ops turns homes asked

-- the canonical text of a document: its lines in order of rank, each with its end
abbrev pub document_text : Document → List ℕ
document_text d = spec_text d.spec ++ (ended_text (lines.Replicas d.replicas) ++ (flat_map ended_text (map say_stop d.stops) ++ work_text d.spec.ops d.work))
