use Rattle.std.proofs.Common.{◌∙◌, rules, refl}
use Rattle.turn_desk.proofs.Turns.{sees_on, sees_nothing, still_waits, takes_on}
use Rattle.turn_desk.proofs.desk.Desk.wait.Goals as goal

pub loop-init : goal.loop-init
loop-init g c = (refl, c.requires.empty, sees_nothing c.args.hand.now.me.0)

pub look-served-requires-clause-own : goal.look-served-requires-clause-own
look-served-requires-clause-own g c = c.loop.invariant.0 ∙ c.requires.own

pub look-served-requires-clause-waits : goal.look-served-requires-clause-waits
look-served-requires-clause-waits g c =
    still_waits c.args.hand.now.me.0 c.loop.hand.me.0 c.args.ticket c.loop.invariant.2 c.requires.waits

pub look-served-requires-clause-empty : goal.look-served-requires-clause-empty
look-served-requires-clause-empty g c = c.loop.invariant.1

pub loop-preserved : goal.loop-preserved
loop-preserved g c =
    let more = c.look-served.ensures.no (search rules) in
    let seen = sees_on c.args.hand.now.me.0 c.loop.hand.me.0 c.look-served.new.hand.me.0 c.loop.invariant.2 more.0 in
    (search rules, more.1, seen)

pub returns-then-served-clause-takes : goal.returns-then-served-clause-takes
returns-then-served-clause-takes g c =
    let before = c.args.hand.now.me in let takes = c.look-served.ensures.yes (search rules) in
    takes_on g.V.Turn before.0 c.loop.hand.me c.look-served.new.hand.me before.1 c.loop.invariant.2 takes
