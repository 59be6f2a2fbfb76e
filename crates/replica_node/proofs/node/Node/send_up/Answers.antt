use Rattle.std.proofs.Common.{◌≡◌, length, ap, refl}
use Rattle.run_model.specs.declared.step.Outcome.TheVariants as outcomes
use Rattle.replica_node.proofs.Noded.{node_rests}
use Rattle.replica_node.proofs.Sent.{costs_less, is_sending}
use Rattle.replica_node.proofs.node.Node.send_up.Goals as goal

pub count_for-number-requires : goal.count_for-number-requires
count_for-number-requires g c = (length (g.E.Ends.puts c.args.self.now.ends c.args.to), c.requires.own.counted c.args.to c.requires.peer)

pub returns-in_err-answer-clause-own : goal.returns-in_err-answer-clause-own
returns-in_err-answer-clause-own g c =
    node_rests g.S.Storage.keeps g.E.Ends.mark g.E.Ends.owner g.E.Ends.reaches g.E.Ends.room g.E.Ends.puts g.E.Ends.gots c.args.setup.now c.args.self.now (record c.args.self.now.still { course = c.step_with.new.course; storage = c.step_with.new.storage }) c.requires.own
    c.in_err-answer.ensures.own c.in_err-answer.ensures.kept c.in_err-answer.ensures.err refl

pub put-requires : goal.put-requires
put-requires g c = record {
  sending = (
    c.args.setup.now,
    c.args.self.now,
    is_sending g.S.Storage.keeps g.E.Ends.mark g.E.Ends.owner g.E.Ends.reaches g.E.Ends.room g.E.Ends.puts g.E.Ends.gots c.args.setup.now c.args.to c.count_for-number.result c.in_ok-answer.answer c.args.self.now
        (record c.args.self.now { still = record c.args.self.now.still { course = c.step_with.new.course; storage = c.step_with.new.storage } }) c.requires.own c.requires.up c.requires.room refl
        c.in_ok-answer.ensures.own c.in_ok-answer.ensures.kept c.requires.peer c.count_for-number.ensures c.in_ok-answer.ensures.adds c.in_ok-answer.ensures.sent c.in_ok-answer.ensures.steps,
  );
}

pub returns-clause-costs : goal.returns-clause-costs
returns-clause-costs g c =
    costs_less (c.in_ok-answer.answer.entry.outcome ≡ outcomes.DiskBroken) (c.put.result.outcome ≡ outcomes.DiskBroken) (g.S.Storage.shows c.args.self.now.still.storage) (g.S.Storage.shows c.step_with.new.storage) (g.S.Storage.shows c.put.new.self.still.storage)
    c.in_ok-answer.ensures.costs (ap g.S.Storage.shows c.put.ensures.storage) c.put.ensures.unbroken
