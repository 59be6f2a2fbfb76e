use Rattle.std.proofs.Common.{refl, sym, ◌∙◌}
use Rattle.message_drafts.specs.declared.draft.Draft.{Draft}
use Rattle.message_drafts.proofs.Drafting.{accepted_more, accepted_still, joins_by, joins_not, joins_so, some_overlay}
use Rattle.message_drafts.proofs.draft.Draft.join.Goals as goal

pub can_accept-requires-clause-is : goal.can_accept-requires-clause-is
can_accept-requires-clause-is c =
    let n = c.requires.next in
    some_overlay c.args.setup.now n.0 n.1 n.2 c.args.self.now n.5

pub returns-then-not-can_accept : goal.returns-then-not-can_accept
returns-then-not-can_accept c =
    let setup = c.args.setup.now in
    let right = c.args.right.now in
    let piece = c.args.piece.now in
    λ v from before next gives h.
    (joins_not setup v from before right piece c.args.item.now.body gives (sym c.if-not-can_accept.true ∙ joins_by setup v from before right piece c.args.self.now c.can_accept.result h c.can_accept.ensures), h)

pub touch-requires-clause-is : goal.touch-requires-clause-is
touch-requires-clause-is c =
    let n = c.requires.next in
    some_overlay c.args.setup.now n.0 n.1 n.2 c.args.self.now n.5

pub accept-requires-clause-joins : goal.accept-requires-clause-joins
accept-requires-clause-joins c =
    let n = c.requires.next in
    let o = some_overlay c.args.setup.now n.0 n.1 n.2 c.args.self.now n.5 in
    (o.0, o.1, o.2, c.touch.ensures.same o.0 o.1 o.2 o.3, sym (c.can_accept.ensures o.0 o.1 o.2 o.3) ∙ c.if-not-can_accept.false)

pub returns : goal.returns
returns c =
    let setup = c.args.setup.now in
    let right = c.args.right.now in
    let piece = c.args.piece.now in
    let item = c.args.item.now in
    let mid : Draft = record { held = c.touch.new.self; bodies = c.args.self.now.bodies } in
    let new : Draft = record { held = c.accept.new.self; bodies = c.push.new.self } in
    λ v from before next gives h.
    let h' = accepted_still setup v from before c.args.self.now mid h c.touch.ensures.same refl in (
      joins_so setup v from before right piece item.body gives (sym c.if-not-can_accept.false ∙ joins_by setup v from before right piece c.args.self.now c.can_accept.result h c.can_accept.ensures),
      accepted_more setup v from before item right piece mid new next gives h' c.accept.ensures.accepted c.in_ok-push.ensures.ok,
    )
