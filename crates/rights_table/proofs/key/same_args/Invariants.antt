use Rattle.std.proofs.Common.{◌≡◌, drop}
use Rattle.std.specs.Str.{bytes_eq as same_numbers}
use Rattle.rights_table.proofs.key.same_args.Given as goal

abbrev pub invariant-loop-x : goal.invariant-loop-x
invariant-loop-x l = same_numbers (drop l.x-index l.a) l.left ≡ same_numbers l.a l.b
