use Rattle.std.proofs.Common.{◌<◌, ◌++◌, ◌∷◌, [], inl, inr, sym, subst, arith}
use Rattle.std.proofs.Math.Nat.{le-max_left}
use Rattle.spec_model.specs.Truths.{inst_has}
use Rattle.spec_model.specs.declared.operation.Term.TheVariants.{Param}
use Rattle.effect_model.proofs.Pruned.{below_max, rest_fails, short_vars, term_fails}
use Rattle.effect_model.proofs.pruning.Seeking.terms_next.Goals as goal

pub returns-in_default-clause-untouched : goal.returns-in_default-clause-untouched
returns-in_default-clause-untouched c = λ x le lt.
    c.loop-term.invariant.rest x (sym (short_vars (inst_has c.args.self.now.inst.now) (c.args.self.now.front.now ++ x ∷ []) c.args.terms.now c.loop-term.term-index c.loop-term.left.now c.loop-term-test.true c.in_default.len_below))

pub loop-term-preserved : goal.loop-term-preserved
loop-term-preserved c =
    let has = inst_has c.args.self.now.inst.now in
    let so_far = c.loop-term.invariant in
    record {
      later = omega (arith, so_far.later, c.max-next.ensures, le-max_left c.loop-term.next c.var_next.result);
      untouched = λ x le lt. elim (below_max c.loop-term.next c.var_next.result x (subst (λ n. x < n) c.max-next.ensures lt)) [
        | inl before ↦ so_far.untouched x le before
        | inr here ↦ so_far.rest x (term_fails has (c.args.self.now.front.now ++ x ∷ []) c.args.terms.now c.loop-term.term-index (Param 0) c.loop-term.left.now c.loop-term-test.true c.in-len1-up.len_at_least (c.var_next.ensures.untouched x le here))
      ];
      rest = λ x fails. so_far.rest x (rest_fails has (c.args.self.now.front.now ++ x ∷ []) c.args.terms.now c.loop-term.term-index (Param 0) c.loop-term.left.now c.loop-term-test.true c.in-len1-up.len_at_least fails);
    }
