use Rattle.std.proofs.Common.{◌≡◌, ◌++◌, drop}
use Rattle.std.specs.List.{flat_map}
use Rattle.op_records.specs.Spelling.{number, args_text}
use Rattle.op_records.proofs.writing.put_args.Given as goal

abbrev pub invariant-loop-n : goal.invariant-loop-n
invariant-loop-n l = l.out ++ flat_map (number 2) (drop l.n-index l.args) ≡ l.fn.out ++ args_text l.args
