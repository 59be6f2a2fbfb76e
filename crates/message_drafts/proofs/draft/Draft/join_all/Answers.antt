use Rattle.std.proofs.Common.{List, take, arith}
use Rattle.spec_model.specs.declared.log.LogItem.{LogItem}
use Rattle.message_drafts.proofs.Joined.{joins_never, joins_yes, next_of, some_all, some_more, some_stop}
use Rattle.message_drafts.proofs.draft.Draft.join_all.Goals as goal

pub join_item-requires-clause-next : goal.join_item-requires-clause-next
join_item-requires-clause-next c =
    let items : List LogItem = c.args.items.now in
    let k = c.loop-at.at in
    let m = c.requires.may in
    let v = m.0 in
    let from = m.1 in
    let so_far = c.loop-at.invariant v from m.2 in
    (v, from, take k items, m.2.me_is, next_of c.args.setup.now v c.args.me from k items c.index-items-at.result c.args.self.now m.2 c.loop-at-test.true c.index-items-at.is, so_far.1)

pub returns-then-not-branch-clause-joined : goal.returns-then-not-branch-clause-joined
returns-then-not-branch-clause-joined c =
    let setup = c.args.setup.now in
    let items : List LogItem = c.args.items.now in
    let item = c.index-items-at.result in
    let k = c.loop-at.at in
    let new = c.join_item.new.self in
    λ v from may.
    let so_far = c.loop-at.invariant v from may in
    let next = next_of setup v c.args.me from k items item c.args.self.now may c.loop-at-test.true c.index-items-at.is in
    let last = joins_never setup v from (take k items) item new c.in_ok-join_item.field-0 c.if-not-branch.true (c.in_ok-join_item.ensures v from (take k items) may.me_is next so_far.1) in
    some_stop setup v from k items item c.loop-at.self new c.loop-at-test.true c.index-items-at.is so_far last.0 last.1

pub loop-at-preserved : goal.loop-at-preserved
loop-at-preserved c =
    let setup = c.args.setup.now in
    let items : List LogItem = c.args.items.now in
    let item = c.index-items-at.result in
    let k = c.loop-at.at in
    let new = c.join_item.new.self in
    λ v from may.
    let so_far = c.loop-at.invariant v from may in
    let next = next_of setup v c.args.me from k items item c.args.self.now may c.loop-at-test.true c.index-items-at.is in
    some_more setup v from k items item c.loop-at.self new c.loop-at-test.true c.index-items-at.is so_far
    (joins_yes setup v from (take k items) item new c.in_ok-join_item.field-0 c.if-not-branch.false (c.in_ok-join_item.ensures v from (take k items) may.me_is next so_far.1))

pub returns-clause-joined : goal.returns-clause-joined
returns-clause-joined c =
    let items : List LogItem = c.args.items.now in
    λ v from may. some_all c.args.setup.now v from c.loop-at.at _ items c.loop-at.self c.loop-at-test.false (omega arith) (c.loop-at.invariant v from may)
