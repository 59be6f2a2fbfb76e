use Rattle.std.proofs.Common.{◌≡◌, ap, ◌∙◌}
use Rattle.run_model.specs.Steps.{accept_of}
use Rattle.message_drafts.proofs.Drafting.{accepted_none, joins_other, out_to_other}
use Rattle.message_drafts.proofs.Joined.{joins_accept, joins_act}
use Rattle.message_drafts.proofs.draft.Draft.join_item.Goals as goal

pub returns-else-to-me : goal.returns-else-to-me
returns-else-to-me c =
    let setup = c.args.setup.now in
    let item = c.args.item.now in
    let out = c.in-Out in
    λ v from before mine next h.
    let other = λ (same : out.to ≡ v.me). c.if-to-me.false (same ∙ mine) in
    (joins_other setup v from before out.to out.right out.piece item.body out.is other, accepted_none setup v from before item c.args.self.now (out_to_other v.me item.origin item.index out.to out.right out.piece item.body out.is other) h)

pub returns-in-Act : goal.returns-in-Act
returns-in-Act c =
    let item = c.args.item.now in
    λ v from before mine next h. (joins_act c.args.setup.now v from before c.in-Act.field-0 item.body c.in-Act.is, accepted_none c.args.setup.now v from before item c.args.self.now (ap (accept_of v.me item.origin item.index) c.in-Act.is) h)

pub returns-in-Accept : goal.returns-in-Accept
returns-in-Accept c =
    let item = c.args.item.now in
    λ v from before mine next h. (joins_accept c.args.setup.now v from before _ _ item.body c.in-Accept.is, accepted_none c.args.setup.now v from before item c.args.self.now (ap (accept_of v.me item.origin item.index) c.in-Accept.is) h)
