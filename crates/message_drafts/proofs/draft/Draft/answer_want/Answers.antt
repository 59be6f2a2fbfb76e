use Rattle.std.proofs.Common.{◌≡◌, refl, sym, ap, ◌∙◌}
use Rattle.std.specs.Prelude.{None, Some}
use Rattle.std.proofs.lemmas.Result.{IfOk-weaker}
use Rattle.rights_transfer.specs.Given.{given_piece}
use Rattle.message_drafts.specs.declared.draft.Draft.{Draft}
use Rattle.message_drafts.proofs.Drafting.{answer_is, answered_still, draft_still, given_none, some_held}
use Rattle.message_drafts.proofs.draft.Draft.answer_want.Goals as goal

pub held-held-requires-clause-is : goal.held-held-requires-clause-is
held-held-requires-clause-is c =
    let n = c.requires.draft in
    some_held c.args.setup.now n.0 n.1 n.2 c.args.self.now n.3

pub touch-requires-clause-is : goal.touch-requires-clause-is
touch-requires-clause-is c =
    let n = c.requires.draft in
    some_held c.args.setup.now n.0 n.1 n.2 c.args.self.now n.3

pub give-requires-clause-wanted : goal.give-requires-clause-wanted
give-requires-clause-wanted c =
    let setup = c.args.setup.now in
    let want = c.args.want.now in
    let n = c.requires.draft in
    let mid : Draft = record { held = c.touch.new.self; bodies = c.args.self.now.bodies } in
    let o : Some c.in-Piece.piece ≡ given_piece c.answer.result = sym (ap given_piece c.in-Piece.is) in (
      n.0,
      n.1,
      n.2,
      draft_still setup n.0 n.1 n.2 c.args.self.now mid n.3 c.touch.ensures.same refl,
      answer_is setup n.0 n.1 n.2 want c.args.self.now c.held-held.result c.need_of.result (Some c.in-Piece.piece) n.3 c.need_of.ensures c.held-held.ensures (o ∙ c.answer.ensures),
    )

pub returns-in-Nothing : goal.returns-in-Nothing
returns-in-Nothing c =
    let setup = c.args.setup.now in
    let want = c.args.want.now in
    let d = c.args.self.now in
    let o : None ≡ given_piece c.answer.result = sym (ap given_piece c.in-Nothing.is) in
    λ v from before h.
    given_none setup v from before c.args.to want d d h refl (answer_is setup v from before want d c.held-held.result c.need_of.result None h c.need_of.ensures c.held-held.ensures (o ∙ c.answer.ensures))

pub returns-in_ok-touch-in-Piece : goal.returns-in_ok-touch-in-Piece
returns-in_ok-touch-in-Piece c =
    let setup = c.args.setup.now in
    let want = c.args.want.now in
    let mid : Draft = record { held = c.touch.new.self; bodies = c.args.self.now.bodies } in
    let o : Some c.in-Piece.piece ≡ given_piece c.answer.result = sym (ap given_piece c.in-Piece.is) in
    IfOk-weaker c.give.result _ _
    (λ done gave v from before h.
    let h' = draft_still setup v from before c.args.self.now mid h c.touch.ensures.same refl in
    let wanted = answer_is setup v from before want c.args.self.now c.held-held.result c.need_of.result (Some c.in-Piece.piece) h c.need_of.ensures c.held-held.ensures (o ∙ c.answer.ensures) in
    answered_still setup v from before c.args.to _ c.args.self.now mid c.give.new.self refl (gave v from before h' wanted))
    c.give.ensures
