use Rattle.std.proofs.Common.{◌∙◌, sym, ap, length, arith}
use Rattle.std.proofs.lemmas.List.{length_push}
use Rattle.spec_model.specs.Masks.{is_falsified}
use Rattle.spec_model.specs.Truths.{literals, signed}
use Rattle.effect_model.specs.Pruning.{LiteralStands}
use Rattle.effect_model.proofs.Masked.{literal_found, places_kept, places_skipped}
use Rattle.effect_model.proofs.masking.falsified_places.Goals as goal
use Rattle.effect_model.proofs.masking.falsified_places.Goals.{then-is_falsified, else-is_falsified}

pub is_falsified-requires-clause-stands : goal.is_falsified-requires-clause-stands
is_falsified-requires-clause-stands g c =
    literal_found (LiteralStands c.args.laid.now.spec.now c.args.xs.now) c.args.clause.now c.loop-at.at (signed c.literal_at-sign.result.0 c.literal_at-sign.result.1) c.requires.stands.premise c.requires.stands.conclusion c.literal_at-sign.ensures

pub loop-at-preserved : goal.loop-at-preserved
loop-at-preserved g c =
    let test = is_falsified c.args.laid.now.spec.now c.args.laid.now.inst.now c.args.xs.now in
    let ls = literals c.args.clause.now in
    let l = signed c.literal_at-sign.result.0 c.literal_at-sign.result.1 in
    elim c.if-is_falsified.branch [
      | then-is_falsified w ↦ (places_kept test ls c.loop-at.at l c.loop-at.places _ _ c.literal_at-sign.ensures (sym c.is_falsified.ensures ∙ w.if-is_falsified.true) (w.places-is ∙ w.push.ensures) c.loop-at.invariant.0, omega (arith, ap length (w.places-is ∙ w.push.ensures), length_push c.loop-at.places c.loop-at.at, c.loop-at.invariant.1))
      | else-is_falsified w ↦ (places_skipped test ls c.loop-at.at l c.loop-at.places _ _ c.literal_at-sign.ensures (sym c.is_falsified.ensures ∙ w.if-is_falsified.false) w.places-is c.loop-at.invariant.0, omega (arith, ap length w.places-is, c.loop-at.invariant.1))
    ]
