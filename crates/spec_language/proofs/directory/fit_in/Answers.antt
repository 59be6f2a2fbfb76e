use Rattle.std.proofs.Common.{sym, ◌∙◌}
use Rattle.std.proofs.lemmas.Bool.{eqb-true, eqb-false}
use Rattle.spec_language.specs.Draft.{is_plain}
use Rattle.spec_language.proofs.Fitting.{fit_all-ended, fit_all-short}
use Rattle.spec_language.proofs.directory.fit_in.Goals as goal

pub returns : goal.returns
returns c = c.is_empty-2.ensures ∙ sym (fit_all-ended (is_plain c.args.vars.now) c.fitting.xs.now c.fitting.ss.now (eqb-true _ _ (sym c.is_empty.ensures ∙ c.fitting-test.false))) ∙ c.fitting.invariant

pub returns-then-is_empty : goal.returns-then-is_empty
returns-then-is_empty c = fit_all-short (is_plain c.args.vars.now) c.fitting.xs.now c.fitting.ss.now (eqb-false _ _ (sym c.is_empty.ensures ∙ c.fitting-test.true)) (eqb-true _ _ (sym c.is_empty-in-fitting.ensures ∙ c.if-is_empty.true)) ∙ c.fitting.invariant
