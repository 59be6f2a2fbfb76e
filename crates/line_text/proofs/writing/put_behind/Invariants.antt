use Rattle.std.proofs.Common.{◌≡◌, ◌++◌, drop}
use Rattle.line_text.specs.Writing.{behind_text}
use Rattle.line_text.proofs.writing.put_behind.Given as goal

abbrev pub invariant-loop-x : goal.invariant-loop-x
invariant-loop-x g l = l.out ++ behind_text g.T.Written.text (drop l.x-index l.items) ≡ l.fn.out ++ behind_text g.T.Written.text l.items
