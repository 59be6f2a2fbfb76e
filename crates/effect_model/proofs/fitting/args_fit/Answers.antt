use Rattle.std.proofs.Common.{◌≡◌, ◌∙◌, ◌&&◌, ◌+◌, sym, ap, arith, Bool, true, false, drop}
use Rattle.effect_model.specs.Fitting.{args_fit, arg_at_fits}
use Rattle.effect_model.proofs.Fitted.{arg_step, arg_inside, args_end}
use Rattle.effect_model.proofs.fitting.args_fit.Goals as goal

pub returns-then-not-arg_at_fits : goal.returns-then-not-arg_at_fits
returns-then-not-arg_at_fits c =
    let step = arg_step c.args.spec.now c.args.params.now c.args.inst.now.args c.loop-at.at c.index-params-at.result c.loop-at-test.true c.index-params-at.is in
    let fails : arg_at_fits c.args.spec.now c.index-params-at.result c.args.inst.now.args c.loop-at.at ≡ false = sym c.arg_at_fits.ensures ∙ c.if-not-arg_at_fits.true in
    sym (ap (λ (b : Bool). b && args_fit c.args.spec.now (drop (c.loop-at.at + 1) c.args.params.now) (drop (c.loop-at.at + 1) c.args.inst.now.args)) fails) ∙ sym step ∙ c.loop-at.invariant.0

pub loop-at-preserved : goal.loop-at-preserved
loop-at-preserved c =
    let step = arg_step c.args.spec.now c.args.params.now c.args.inst.now.args c.loop-at.at c.index-params-at.result c.loop-at-test.true c.index-params-at.is in
    let fits : arg_at_fits c.args.spec.now c.index-params-at.result c.args.inst.now.args c.loop-at.at ≡ true = sym c.arg_at_fits.ensures ∙ c.if-not-arg_at_fits.false in
    let inside = arg_inside c.args.spec.now c.index-params-at.result c.args.inst.now.args c.loop-at.at fits in
    (sym (ap (λ (b : Bool). b && args_fit c.args.spec.now (drop (c.loop-at.at + 1) c.args.params.now) (drop (c.loop-at.at + 1) c.args.inst.now.args)) fits) ∙ sym step ∙ c.loop-at.invariant.0, omega (arith, inside))

pub returns : goal.returns
returns c = rw c.len.ensures.value (args_end c.args.spec.now c.args.params.now c.args.inst.now.args c.loop-at.at _ c.loop-at-test.false c.loop-at.auto.at-end c.loop-at.invariant.1 c.loop-at.invariant.0)
