use Rattle.std.proofs.Common.{ap, arith}
use Rattle.replica_wires.specs.declared.wires.Place.{Place}
use Rattle.replica_tests.proofs.Linked.{quiet_ends, reaches_peers}
use Rattle.replica_tests.proofs.links.begin_node.Goals as goal

pub begin-requires-clause-place : goal.begin-requires-clause-place
begin-requires-clause-place g c = omega (arith, c.requires.own.place, c.requires.two, c.requires.web)

pub begin-requires-clause-owner : goal.begin-requires-clause-owner
begin-requires-clause-owner g c = ap (λ (p : Place). p.me) c.begin-wires.ensures.place

pub begin-requires-clause-reaches : goal.begin-requires-clause-reaches
begin-requires-clause-reaches g c peer peers = reaches_peers c.args.setup.now c.args.web.now c.args.me peer _ c.begin-wires.ensures.place c.requires.two c.requires.web peers

pub begin-requires-clause-quiet : goal.begin-requires-clause-quiet
begin-requires-clause-quiet g c peer = quiet_ends c.begin-wires.result c.args.passes peer c.begin-wires.ensures.passes c.requires.fresh
