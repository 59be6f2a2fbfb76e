use Rattle.std.proofs.Common.{◌≡◌, ◌++◌, drop}
use Rattle.spec_lines.specs.Texts.{more_text}
use Rattle.spec_lines.proofs.printing.put_more.Given as goal

abbrev pub invariant-loop-x : goal.invariant-loop-x
invariant-loop-x l = l.out ++ more_text l.word (drop l.x-index l.literals) ≡ l.fn.out ++ more_text l.word l.literals
