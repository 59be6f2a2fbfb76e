use Rattle.effect_model.proofs.Fitted.{inst_says, op_missing}
use Rattle.effect_model.proofs.fitting.inst_fits.Goals as goal

pub returns-in-Some : goal.returns-in-Some
returns-in-Some c = inst_says c.args.spec.now c.args.inst.now c.in-Some.op.now c.as_slice.result.now c.args_fit.result c.in-Some.ensures.value c.as_slice.ensures.value c.args_fit.ensures

pub returns-in-None : goal.returns-in-None
returns-in-None c = (λ e. absurd cc, λ f. absurd (op_missing c.args.spec.now.ops c.args.inst.now.op c.in-None.ensures.value f.known))
