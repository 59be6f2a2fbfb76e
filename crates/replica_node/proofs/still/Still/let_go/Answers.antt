use Rattle.std.proofs.Common.{refl, ap}
use Rattle.replica_node.specs.declared.still.Still.{Still}
use Rattle.replica_node.proofs.Held.{lets_go}
use Rattle.replica_node.proofs.still.Still.let_go.Goals as goal

pub returns-clause-stays : goal.returns-clause-stays
returns-clause-stays g c = λ taken put is.
    lets_go g.S.Storage.keeps g.S.Storage.shows c.args.setup.now c.args.from c.args.self.now.course.me c.args.self.now c.act.new.self _ taken put c.act.ensures.stays c.act.ensures.hands c.requires.peer.0
    (ap (λ hs. let s : Still _ _ = record c.act.new.self { hands = hs } in s) c.set.ensures) is
