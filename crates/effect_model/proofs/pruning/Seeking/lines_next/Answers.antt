use Rattle.std.proofs.Common.{◌++◌, ◌∷◌, [], arith}
use Rattle.std.proofs.Math.Nat.{le-min, min-le_left, min-le_right}
use Rattle.effect_model.specs.Pruning.{line_may}
use Rattle.effect_model.proofs.Nexts.{none_all, none_more}
use Rattle.effect_model.proofs.pruning.Seeking.lines_next.Goals as goal

pub loop-line-preserved : goal.loop-line-preserved
loop-line-preserved c =
    let here = c.line_next.result in
    record {
      later = rw c.min-next.ensures (le-min c.loop-line.invariant.later c.line_next.ensures.later);
      untouched = λ x le lt. none_more (line_may c.args.self.now.inst.now (c.args.self.now.front.now ++ x ∷ []) c.args.self.now.sign c.args.pred c.args.vars.now) c.args.self.now.lines.now c.loop-line.line-index c.line-item.result c.loop-line-test.true c.line-item.is
          (c.loop-line.invariant.untouched x le (omega (arith, lt, c.min-next.ensures, min-le_left c.loop-line.next here))) (c.line_next.ensures.untouched x le (omega (arith, lt, c.min-next.ensures, min-le_right c.loop-line.next here)));
    }

pub returns-clause-untouched : goal.returns-clause-untouched
returns-clause-untouched c = λ x le lt. none_all (line_may c.args.self.now.inst.now (c.args.self.now.front.now ++ x ∷ []) c.args.self.now.sign c.args.pred c.args.vars.now) c.args.self.now.lines.now c.loop-line.line-index (omega (arith, c.loop-line-test.false)) (c.loop-line.invariant.untouched x le lt)
