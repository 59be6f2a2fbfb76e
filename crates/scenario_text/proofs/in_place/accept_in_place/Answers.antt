use Rattle.scenario_text.proofs.InPlaces.{accepted}
use Rattle.scenario_text.proofs.in_place.accept_in_place.Goals as goal

pub returns : goal.returns
returns c =
    accepted c.args.draft.now c.take_behind.new.draft c.args.line.now c.in-Some.word.now c.in-Some.bytes.now c.take_behind.result (c.is_line.ensures c.if-not-is_line.false) c.in-Some.ensures c.take_behind.ensures
