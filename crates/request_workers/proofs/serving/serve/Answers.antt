use Rattle.client_asks.specs.Asking.{ClientWork}
use Rattle.request_workers.proofs.Served.{are_served}
use Rattle.request_workers.proofs.serving.serve.Goals as goal

pub returns-clause-legal : goal.returns-clause-legal
returns-clause-legal g c =
    let work : ClientWork = record { turns = c.args.clients.turns; homes = c.args.clients.homes.now; asked = c.args.clients.asked.now } in
    are_served g.B.D.Disk.standing g.B.D.Disk.may_leave g.B.Bay.tells g.B.Bay.has_given g.B.Bay.given g.B.Bay.left c.args.setup.now work c.args.lines.now c.args.bay.now c.disks_of.new.bay c.give_back.new.bay c.in_ok-disks.disks.items c.in_ok-histories.disks.items c.in_ok-histories.histories
    c.in_ok-disks.ensures c.in_ok-histories.ensures c.give_back.ensures c.served_is_legal.ensures c.requires.settled c.requires.few
