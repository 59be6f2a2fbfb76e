use Rattle.std.proofs.Common.{sym, ◌∙◌}
use Rattle.std.proofs.lemmas.Result.{err_from_is_err_and}
use Rattle.line_text.specs.declared.token.Token.TheVariants.{Mark}
use Rattle.line_text.proofs.Groups.{open_ended, cut_front, cut_split, turn-last, turn-next, turn-refused}
use Rattle.line_text.proofs.forms.items.Goals as goal

pub returns-in_default : goal.returns-in_default
returns-in_default g c = sym c.reading.invariant ∙ open_ended g.I.Item.reads c.reading.found c.reading.rest.now (sym c.end_of.ensures ∙ c.in_default.is)

pub returns-in_err-item : goal.returns-in_err-item
returns-in_err-item g c =
    let p = err_from_is_err_and c.from_residual.result c.from_residual.ensures.1 in
    rw (p.1, p.2) (turn-refused _ g.I.Item.reads c.reading.found c.reading.rest.now c.split_at.result.0.now _ _ _ (cut_front c.in-Some.len c.reading.rest.now c.split_at.result.0.now (Mark 0) (sym c.end_of.ensures ∙ c.in-Some.is) c.split_at.ensures.front) c.in_err-item.ensures c.reading.invariant)

pub returns-then-closed : goal.returns-then-closed
returns-then-closed g c =
    turn-last g.I.Item.reads c.in_ok-item.item c.reading.found c.push.new.self c.reading.rest.now c.split_at.result.0.now c.split_at-in-reading.result.1.now _ _
    (cut_split c.in-Some.len c.reading.rest.now _ c.split_at.result.1.now _ c.index-others-0.result (sym c.end_of.ensures ∙ c.in-Some.is) c.split_at.ensures.front c.split_at.ensures.back c.index-others-0.is c.split_at-in-reading.ensures.back)
    (sym c.is_mark-closed.ensures ∙ c.if-closed.true) c.in_ok-item.ensures c.in_ok-push.ensures.ok c.reading.invariant

pub reading-preserved : goal.reading-preserved
reading-preserved g c =
    turn-next g.I.Item.reads c.in_ok-item.item c.reading.found c.push.new.self c.reading.rest.now c.split_at.result.0.now c.split_at-in-reading.result.1.now _ _
    (cut_split c.in-Some.len c.reading.rest.now _ c.split_at.result.1.now _ c.index-others-0.result (sym c.end_of.ensures ∙ c.in-Some.is) c.split_at.ensures.front c.split_at.ensures.back c.index-others-0.is c.split_at-in-reading.ensures.back)
    (sym c.is_mark-closed.ensures ∙ c.if-closed.false) c.in_ok-item.ensures c.in_ok-push.ensures.ok c.reading.invariant
