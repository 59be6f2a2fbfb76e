use Rattle.std.proofs.Common.{take, sym, subst}
use Rattle.replica_world.specs.Worlds.{AreRunning}
use Rattle.request_workers.proofs.Scheduled.{order_at}
use Rattle.request_workers.proofs.simulation.run.Goals as goal

pub step-requires-clause-running : goal.step-requires-clause-running
step-requires-clause-running g c =
    let a = order_at c.args.setup.now c.args.schedule.now c.loop-order.order-index c.order-item.result c.requires.schedule c.loop-order-test.true c.order-item.is in
    (take c.loop-order.order-index c.args.schedule.now, c.loop-order.invariant.0, a.numbered, a.few)

pub loop-order-preserved : goal.loop-order-preserved
loop-order-preserved g c =
    let a = order_at c.args.setup.now c.args.schedule.now c.loop-order.order-index c.order-item.result c.requires.schedule c.loop-order-test.true c.order-item.is in (
      subst (λ done. AreRunning c.args.setup.now done c.step.new.self.courses.items c.step.new.self.links.items) (sym a.split)
          (c.in_ok-step.ensures.running (take c.loop-order.order-index c.args.schedule.now) c.loop-order.invariant.0 a.numbered a.few),
      c.in_ok-step.ensures.kept,
      λ me given has. c.in_ok-step.ensures.stops me given (c.loop-order.invariant.2 me given has),
    )
