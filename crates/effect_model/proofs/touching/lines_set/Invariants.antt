use Rattle.std.proofs.Common.{◌≡◌, drop}
use Rattle.spec_model.specs.Truths.{lines_set, or_else, inst_has}
use Rattle.effect_model.proofs.touching.lines_set.Given as goal

abbrev pub invariant-loop-line : goal.invariant-loop-line
invariant-loop-line l = or_else (lines_set (inst_has l.inst) (drop l.line-index l.lines) l.pred l.args) l.found ≡ lines_set (inst_has l.inst) l.lines l.pred l.args
