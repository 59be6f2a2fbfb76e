-- How a refused line is written.
use Rattle.std.specs.Prelude.{ℕ, List, [], ◌∷◌, ◌++◌, codes, decimal}
use Rattle.line_text.specs.declared.cause.Cause.{Cause}
use Rattle.line_text.specs.declared.cause.Cause.TheVariants as causes

abbrev pub cause_text : Cause → List ℕ
cause_text causes.NotAscii = codes "not ascii"
cause_text causes.BadToken = codes "bad token"
cause_text causes.UnknownLine = codes "unknown line"
cause_text causes.BadForm = codes "bad form"
cause_text causes.OutOfPlace = codes "out of place"
cause_text causes.NameTaken = codes "name taken"
cause_text causes.UnknownName = codes "unknown name"
cause_text causes.WrongArguments = codes "wrong arguments"
cause_text causes.OutOfRange = codes "out of range"
cause_text causes.TooMany = codes "too many"
cause_text causes.FalseAtStart = codes "false at start"
cause_text causes.ReplicasMissing = codes "replicas missing"

-- a refused line, and why
abbrev pub refusal_text : ℕ → Cause → List ℕ
refusal_text line cause = codes "line " ++ decimal line ++ codes ": " ++ cause_text cause ++ 10 ∷ []
