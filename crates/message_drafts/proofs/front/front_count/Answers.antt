use Rattle.std.proofs.Common.{◌≡◌, ◌+◌, List, length, take, false, true, sym, subst, ◌∙◌, arith}
use Rattle.std.proofs.lemmas.List.{take_all}
use Rattle.spec_model.specs.declared.log.LogItem.{LogItem}
use Rattle.message_drafts.specs.Fronts.{first_at}
use Rattle.message_drafts.proofs.Looking.{FitFrom, fit_more, longest_front, whole_front}
use Rattle.message_drafts.proofs.front.front_count.Goals as goal

pub returns-then-not-may_follow-clause-front : goal.returns-then-not-may_follow-clause-front
returns-then-not-may_follow-clause-front c =
    let items : List LogItem = c.args.items.now in
    let first : c.from-first.result ≡ first_at items = c.from-first.ensures ∙ c.first_index.ensures in
    longest_front c.args.setup.now c.args.from (c.from-first.result + c.loop-at.at) items c.loop-at.at c.index-items-at.result c.loop-at.invariant c.loop-at-test.true c.index-items-at.is (omega (arith, first))
    (λ may. absurd (let wrong : false ≡ true = sym c.if-not-may_follow.true ∙ c.may_follow.ensures.1 may in cc))

pub loop-at-preserved : goal.loop-at-preserved
loop-at-preserved c =
    let items : List LogItem = c.args.items.now in
    let k = c.loop-at.at in
    let first : c.from-first.result ≡ first_at items = c.from-first.ensures ∙ c.first_index.ensures in
    fit_more c.args.setup.now c.args.from (first_at items) (c.from-first.result + k) k items c.index-items-at.result c.loop-at-test.true c.index-items-at.is c.loop-at.invariant (omega (arith, first)) (c.may_follow.ensures.0 c.if-not-may_follow.false)

pub returns-clause-front : goal.returns-clause-front
returns-clause-front c =
    let items : List LogItem = c.args.items.now in
    let all : take c.loop-at.at items ≡ take (length items) items = take_all c.loop-at.at items c.loop-at-test.false ∙ sym (take_all (length items) items (omega arith)) in
    whole_front c.args.setup.now c.args.from (first_at items) items (take (length items) items) (take_all (length items) items (omega arith)) (subst (FitFrom c.args.setup.now c.args.from (first_at items)) all c.loop-at.invariant)
