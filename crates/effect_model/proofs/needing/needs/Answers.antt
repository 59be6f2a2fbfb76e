use Rattle.std.proofs.Common.{◌≡◌, sym, ◌∙◌, true, List}
use Rattle.std.proofs.lemmas.Result.{IfOk-weaker}
use Rattle.spec_model.specs.declared.right.Need.{Need}
use Rattle.effect_model.specs.Masking.{needs_wanted}
use Rattle.effect_model.specs.Plain.{ArePlain}
use Rattle.effect_model.proofs.Plainly.{allows, plain_are}
use Rattle.effect_model.proofs.needing.needs.Goals as goal

pub returns : goal.returns
returns c =
    IfOk-weaker c.needs_with.result (λ (all : List Need). all ≡ needs_wanted allows c.args.plan.now c.args.spec.now c.args.inst.now (λ p xs. true)) (ArePlain c.args.plan.now c.args.spec.now c.args.inst.now)
    (λ all is replicas s. is ∙ sym (plain_are (record { spec = c.args.spec.now; plan = c.args.plan.now; replicas = replicas }) s c.args.inst.now)) c.needs_with.ensures
