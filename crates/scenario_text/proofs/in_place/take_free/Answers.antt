use Rattle.std.specs.Prelude.{codes}
use Rattle.spec_lines.specs.declared.line.SpecLine.TheVariants.{Free}
use Rattle.scenario_text.specs.Draft.{take_spec}
use Rattle.scenario_text.proofs.InPlaces.{free_answered, failed}
use Rattle.scenario_text.proofs.in_place.take_free.Goals as goal

pub returns-in-Ok : goal.returns-in-Ok
returns-in-Ok c =
    free_answered c.args.draft.now c.in-Some.first.now c.in-Some-word_next.second.now c.args.bytes.now c.in-Some.rest.now c.in-Some-word_next.rest.now _
    c.in-Some.ensures c.in-Some-word_next.ensures (c.none_next.ensures c.if-not-none_next.false) c.in-Ok.ensures

pub returns-in-Err : goal.returns-in-Err
returns-in-Err c =
    failed c.in-Err.error c.args.draft.now _ (codes "free") c.args.bytes.now (take_spec c.args.draft.now (Free c.in-Some.first.now c.in-Some-word_next.second.now)) c.in-Err.ensures
    (λ answer is. free_answered c.args.draft.now c.in-Some.first.now c.in-Some-word_next.second.now c.args.bytes.now c.in-Some.rest.now c.in-Some-word_next.rest.now answer
    c.in-Some.ensures c.in-Some-word_next.ensures (c.none_next.ensures c.if-not-none_next.false) is)
