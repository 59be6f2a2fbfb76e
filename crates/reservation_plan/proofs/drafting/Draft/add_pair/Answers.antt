use Rattle.std.proofs.Common.{◌∙◌}
use Rattle.reservation_plan.proofs.Reserved.{can_reserve, judged_known}
use Rattle.reservation_plan.proofs.drafting.Draft.add_pair.Goals as goal

pub reserve-requires : goal.reserve-requires
reserve-requires c =
    can_reserve _ c.requires.well_formed c.requires.known_a c.requires.known_b (c.as_slice.ensures.value ∙ c.in_ok-judgements.ensures.ok.conflicts)

pub add_lines-requires : goal.add_lines-requires
add_lines-requires c =
    judged_known c.args.spec.now c.args.pair.a c.args.pair.b c.in_ok-judgements.judgements.judged c.requires.well_formed c.requires.known_a c.requires.known_b c.in_ok-judgements.ensures.ok.cases
