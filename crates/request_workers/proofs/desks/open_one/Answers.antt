use Rattle.std.proofs.Common.{ap, arith}
use Rattle.replica_wires.specs.declared.wires.Place.{Place}
use Rattle.request_workers.proofs.DesksOpened.{opened_one, own_place, quiet_ends, reaches_peers}
use Rattle.request_workers.proofs.desks.open_one.Goals as goal

pub begin-requires-clause-place : goal.begin-requires-clause-place
begin-requires-clause-place g c = omega (arith, c.requires.own.place, c.requires.web)

pub begin-requires-clause-owner : goal.begin-requires-clause-owner
begin-requires-clause-owner g c = ap (λ (p : Place). p.me) c.begin-wires.ensures.place

pub begin-requires-clause-reaches : goal.begin-requires-clause-reaches
begin-requires-clause-reaches g c peer peers = reaches_peers c.args.setup.now c.args.web.now c.args.me peer _ c.begin-wires.ensures.place c.requires.web peers

pub begin-requires-clause-quiet : goal.begin-requires-clause-quiet
begin-requires-clause-quiet g c peer = quiet_ends c.begin-wires.result c.args.passes peer c.begin-wires.ensures.passes c.requires.fresh

pub new-requires-clause-own : goal.new-requires-clause-own
new-requires-clause-own g c = own_place g.S.Storage.keeps _ _ _ _ _ _ c.args.setup.now c.args.me c.in_ok-node.node c.in_ok-node.ensures.own

pub returns : goal.returns
returns g c =
    opened_one g.S.D.Disk.standing g.S.Storage.shows c.args.setup.now c.args.web.now c.args.me c.args.disk c.begin-wires.result c.in_ok-node.node _
    c.begin-wires.ensures.place c.in_ok-node.ensures.ends c.in_ok-node.ensures.own.still.own.me_is c.in_ok-node.ensures.first c.in_ok-node.ensures.stops c.new.ensures
