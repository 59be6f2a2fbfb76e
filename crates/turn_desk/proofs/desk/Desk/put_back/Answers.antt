use Rattle.turn_desk.proofs.Turns.{ends_with}
use Rattle.turn_desk.proofs.desk.Desk.put_back.Goals as goal

pub returns-clause-ends : goal.returns-clause-ends
returns-clause-ends g c =
    ends_with g.V.Turn c.args.hand.now.me c.put_home.new.hand.me c.count.new.hand.me c.args.value c.put_home.ensures.home c.count.ensures.counted
