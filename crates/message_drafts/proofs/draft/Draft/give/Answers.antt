use Rattle.message_drafts.specs.declared.draft.Draft.{Draft}
use Rattle.message_drafts.proofs.Drafting.{given_more, wanted_held}
use Rattle.message_drafts.proofs.draft.Draft.give.Goals as goal

pub give-requires-clause-held : goal.give-requires-clause-held
give-requires-clause-held c =
    let w = c.requires.wanted in
    wanted_held c.args.setup.now w.0 w.1 w.2 c.args.want.now c.args.self.now c.args.piece w.3 w.4

pub returns : goal.returns
returns c =
    let new : Draft = record { held = c.give.new.self; bodies = c.push.new.self } in
    λ v from before h wanted. given_more c.args.setup.now v from before c.args.to c.args.want.now c.args.piece c.args.self.now new h wanted c.give.ensures.out c.in_ok-push.ensures.ok
