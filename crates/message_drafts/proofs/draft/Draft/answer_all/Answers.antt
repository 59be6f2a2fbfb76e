use Rattle.std.proofs.Common.{List, take, sym, subst}
use Rattle.std.proofs.lemmas.List.{take_all}
use Rattle.spec_model.specs.declared.right.Want.{Want}
use Rattle.message_drafts.specs.Drafts.{HasAnswered}
use Rattle.message_drafts.proofs.Drafting.{answered_more}
use Rattle.message_drafts.proofs.Places.{take_more}
use Rattle.message_drafts.proofs.draft.Draft.answer_all.Goals as goal

pub loop-want-preserved : goal.loop-want-preserved
loop-want-preserved c =
    let setup = c.args.setup.now in
    let wants : List Want = c.args.wants.now in
    let k = c.loop-want.want-index in
    let want = c.want-item.result in
    let old = c.args.self.now in
    let new = c.answer_want.new.self in
    λ v from before h.
    let so_far = c.loop-want.invariant v from before h in
    subst (λ (l : List Want). HasAnswered setup v from before c.args.to l old new) (sym (take_more wants k want c.loop-want-test.true c.want-item.is))
    (answered_more setup v from before c.args.to (take k wants) want old c.loop-want.self new so_far (c.in_ok-answer_want.ensures v from before so_far.draft))

pub returns : goal.returns
returns c =
    let wants : List Want = c.args.wants.now in
    λ v from before h. subst (λ (l : List Want). HasAnswered c.args.setup.now v from before c.args.to l c.args.self.now c.loop-want.self) (take_all c.loop-want.want-index wants c.loop-want-test.false) (c.loop-want.invariant v from before h)
