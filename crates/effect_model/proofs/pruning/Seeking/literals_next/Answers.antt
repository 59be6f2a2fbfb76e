use Rattle.std.proofs.Common.{◌++◌, ◌∷◌, [], arith}
use Rattle.std.proofs.Math.Nat.{le-min, min-le_left, min-le_right}
use Rattle.effect_model.specs.Pruning.{literal_may}
use Rattle.effect_model.proofs.Nexts.{none_all, none_more}
use Rattle.effect_model.proofs.pruning.Seeking.literals_next.Goals as goal

pub loop-literal-preserved : goal.loop-literal-preserved
loop-literal-preserved c =
    let here = c.literal_next.result in
    record {
      later = rw c.min-next.ensures (le-min c.loop-literal.invariant.later c.literal_next.ensures.later);
      untouched = λ x le lt. none_more (literal_may c.args.self.now.inst.now c.args.self.now.lines.now (c.args.self.now.front.now ++ x ∷ []) c.args.self.now.sign) c.args.literals.now c.loop-literal.literal-index c.literal-item.result c.loop-literal-test.true c.literal-item.is
          (c.loop-literal.invariant.untouched x le (omega (arith, lt, c.min-next.ensures, min-le_left c.loop-literal.next here))) (c.literal_next.ensures.untouched x le (omega (arith, lt, c.min-next.ensures, min-le_right c.loop-literal.next here)));
    }

pub returns-clause-untouched : goal.returns-clause-untouched
returns-clause-untouched c = λ x le lt. none_all (literal_may c.args.self.now.inst.now c.args.self.now.lines.now (c.args.self.now.front.now ++ x ∷ []) c.args.self.now.sign) c.args.literals.now c.loop-literal.literal-index (omega (arith, c.loop-literal-test.false)) (c.loop-literal.invariant.untouched x le lt)
