-- The canonical text of each line of a run, without its end.
use Rattle.std.specs.Prelude.{ℕ, List, ◌++◌, codes, decimal}
use Rattle.line_text.specs.Writing.{listing_text}
use Rattle.scenario_lines.specs.declared.argument.NamedArg.{NamedArg}
use Rattle.scenario_lines.specs.declared.argument.NamedArg.TheVariants as args
use Rattle.scenario_lines.specs.declared.line.RunLine.{RunLine}
use Rattle.scenario_lines.specs.declared.line.RunLine.TheVariants as lines

-- a number, or LO-HI
abbrev pub arg_text : NamedArg → List ℕ
arg_text (args.One n) = decimal n
arg_text (args.Span lo hi) = decimal lo ++ (codes "-" ++ decimal hi)

-- a word with its space, and a number
abbrev pub number_text : List ℕ → ℕ → List ℕ
number_text word n = word ++ decimal n

-- a word with its space, and two numbers
abbrev pub two_text : List ℕ → ℕ → ℕ → List ℕ
two_text word n m = number_text word n ++ (codes " " ++ decimal m)

abbrev pub stop_text : ℕ → ℕ → ℕ → ℕ → List ℕ
stop_text replica call keep fill = two_text (codes "stop ") replica call ++ (codes " " ++ (decimal keep ++ (codes " " ++ decimal fill)))

-- a word with its space, a number, and a name with arguments
abbrev pub request_text : List ℕ → ℕ → List ℕ → List NamedArg → List ℕ
request_text word n op xs = number_text word n ++ (codes " " ++ (op ++ listing_text arg_text xs))

abbrev pub take_text : ℕ → ℕ → ℕ → List ℕ
take_text replica peer number = two_text (codes "take ") replica peer ++ (codes " " ++ decimal number)

abbrev pub client_text : ℕ → ℕ → List ℕ
client_text client home = number_text (codes "client ") client ++ (codes " at " ++ decimal home)

-- a request that is a word, which has its space
abbrev pub ask_text : ℕ → List ℕ → List ℕ
ask_text client word = number_text (codes "ask ") client ++ word

-- the canonical text of a line, without its end
unfoldable pub line_text : RunLine → List ℕ
line_text (lines.Replicas n) = number_text (codes "replicas ") n
line_text (lines.Stop replica call keep fill) = stop_text replica call keep fill
line_text (lines.Do replica op xs) = request_text (codes "do ") replica op xs
line_text (lines.Send replica peer) = two_text (codes "send ") replica peer
line_text (lines.Take replica peer number) = take_text replica peer number
line_text (lines.Crash replica) = number_text (codes "crash ") replica
line_text (lines.Recover replica) = number_text (codes "recover ") replica
line_text (lines.Turns turns) = number_text (codes "turns ") turns
line_text (lines.Client client home) = client_text client home
line_text (lines.AskDo client op xs) = request_text (codes "ask ") client op xs
line_text (lines.AskCrash client) = ask_text client (codes " crash")
line_text (lines.AskRecover client) = ask_text client (codes " recover")
