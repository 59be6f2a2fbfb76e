use Rattle.std.proofs.Common.{◌≡◌, ◌++◌, drop}
use Rattle.spec_language.specs.Saying as sayings
use Rattle.spec_language.proofs.printing.put_ops.Given as goal

abbrev pub invariant-loop-x : goal.invariant-loop-x
invariant-loop-x l = l.out ++ sayings.ops_text l.sorts l.preds l.nums (drop l.x-index l.ops) ≡ l.fn.out ++ sayings.ops_text l.sorts l.preds l.nums l.ops
