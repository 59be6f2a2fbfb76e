use Rattle.turn_desk.proofs.Splits.{parts_left, parts_given, cut_fresh}
use Rattle.turn_desk.proofs.desk.Desk.split_pass.Goals as goal

pub returns-clause-parts : goal.returns-clause-parts
returns-clause-parts g c =
    let v = c.args.pass.now.hand.me.0 in let said = c.cut.ensures in (
      parts_left c.args.parts v c.cut.new.pass.hand.me.0 c.requires.parts.1 said.left,
      parts_given c.args.parts v c.cut.result.hand.me.0 said.right,
    )

pub returns-clause-fresh : goal.returns-clause-fresh
returns-clause-fresh g c = cut_fresh c.args.parts c.args.pass.now.hand.me.0 c.cut.result.hand.me.0 c.cut.ensures.right
