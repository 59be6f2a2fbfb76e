use Rattle.std.proofs.Common.{refl, subst, arith}
use mir.Syntax.{named}
use denote.Ref.{NamedLft}
use denote.Param.{param}
use denote.Param.Send.{param_send}
use Rattle.replica_wires.specs.contracts.wires.Place.{the_row as place_row}
use Rattle.replica_wires.specs.contracts.wires.Wires.{the_row as wires_row}
use Rattle.replica_wires.specs.contracts.wires.WiresEnds.TheImpl.{ghosts as wires_ends}
use Rattle.request_workers.proofs.serving.serve_over.Lts.{arg-16-0}
use Rattle.client_asks.specs.Asking.{ClientWork}
use Rattle.replica_wires.specs.Webs.{HasRooms}
use Rattle.replica_wires.proofs.wires.Wires.TheSendSync as wires
use Rattle.request_workers.proofs.Moving.{inside_moves}
use Rattle.request_workers.proofs.Over.{can_take}
use Rattle.request_workers.proofs.Serves.{all_empty, are_over, can_serve, has_room, ok_so, theirs, within}
use Rattle.request_workers.proofs.Taken.{can_finish}
use Rattle.request_workers.proofs.Whole.{has_run}
use Rattle.request_workers.proofs.serving.serve_over.Goals as goal

pub serve_all-requires-send-V : goal.serve_all-requires-send-V
serve_all-requires-send-V g c κs _ =
    let served_lives : NamedLft = record { mir = named 8; lft = κs.1.1.1.1.1.1.1.1.0 } in
    let wires_live : NamedLft = record { mir = named 9; lft = κs.1.1.1.1.1.1.1.1.1.0 } in
    param_send 0 (arg-16-0 g.row.R g.row.S g.row.G g.row.S-D g.R.laws g.S.laws g.G.laws g.S.D.laws g.R.Threads g.R.Threads-dict g.R.Wait g.R.Wait-dict g.S.Storage g.S.Storage-dict g.S.D.Disk g.S.D.Disk-dict g.G.Gate g.G.Gate-dict g.S.Destruct-dict g.S.D.Destruct-dict κs)
    (record {
      owned = λ d vs x. ((inside_moves served_lives (param 1 g.row.S) (wires_row wires_live (param 0 g.row.R)) (param 3 g.row.S-D) place_row g.S.Storage g.S.D.Disk (wires_ends (param 0 g.row.R) g.R.Wait g.R.Wait-dict) c.type_bounds.send-S (wires.the_send wires_live (param 0 g.row.R) c.type_bounds.sync-R)).owned x.0 vs, tt);
      leaving = λ k d w. tt;
    })

pub serve_all-requires-clause-empty : goal.serve_all-requires-clause-empty
serve_all-requires-clause-empty g c κs within = all_empty g.S.Storage.keeps g.S.Storage.shows g.S.D.Disk.standing c.args.setup.now (record { turns = c.args.clients.turns; homes = c.args.clients.homes.now; asked = c.args.clients.asked.now }) c.in_ok-web.web c.args.disks.items c.in_ok-nodes.nodes c.requires.whole c.in_ok-nodes.ensures

pub serve_all-requires-clause-desks : goal.serve_all-requires-clause-desks
serve_all-requires-clause-desks g c κs within = λ k d lt. omega (arith, c.in_ok-workers.ensures.desks k d lt, c.in_ok-nodes.ensures.whole, c.requires.whole)

pub serve_all-requires-clause-fit : goal.serve_all-requires-clause-fit
serve_all-requires-clause-fit g c κs within = λ k d lt value at i none less.
    let may = c.in_ok-workers.ensures.fit c.args.setup.now refl c.requires.fit.asks_fit k d lt i none less in
    can_serve g.S.Storage.keeps g.S.Storage.shows g.S.D.Disk.standing c.args.setup.now (record { turns = c.args.clients.turns; homes = c.args.clients.homes.now; asked = c.args.clients.asked.now }) c.in_ok-web.web c.args.disks.items c.in_ok-nodes.nodes c.requires.whole c.in_ok-nodes.ensures
    _ value _ at may.0 may.1

pub serve_all-requires-clause-room : goal.serve_all-requires-clause-room
serve_all-requires-clause-room g c κs _ = λ at value is.
    has_room c.args.setup.now (record { turns = c.args.clients.turns; homes = c.args.clients.homes.now; asked = c.args.clients.asked.now }) c.in_ok-workers.workers at c.turns_are_few.ensures c.requires.fit c.in_ok-workers.ensures.turns
    (within g.S.Storage.keeps g.S.Storage.shows g.S.D.Disk.standing c.args.setup.now (record { turns = c.args.clients.turns; homes = c.args.clients.homes.now; asked = c.args.clients.asked.now }) c.in_ok-web.web c.args.disks.items c.in_ok-nodes.nodes c.requires.whole c.in_ok-nodes.ensures at value is)

pub settle-requires : goal.settle-requires
settle-requires g c = record {
  own = theirs g.S.Storage.keeps g.S.Storage.shows g.S.D.Disk.standing c.args.setup.now (record { turns = c.args.clients.turns; homes = c.args.clients.homes.now; asked = c.args.clients.asked.now }) c.in_ok-web.web c.args.disks.items c.in_ok-nodes.nodes c.requires.whole c.in_ok-nodes.ensures
      c.in_ok-nodes-2.nodes c.in_ok-workers.workers c.in_ok-stills.stills.items c.in_ok-stills.passes c.in_ok-nodes-2.ensures.len c.in_ok-nodes-2.ensures.opening c.in_ok-nodes-2.ensures.order c.in_ok-workers.ensures.turns c.in_ok-stills.ensures c.in_ok-web.ensures.replicas;
}

pub take_all-requires-clause-can : goal.take_all-requires-clause-can
take_all-requires-clause-can g c =
    let work : ClientWork = record { turns = c.args.clients.turns; homes = c.args.clients.homes.now; asked = c.args.clients.asked.now } in
    can_take g.S.Storage.keeps g.S.Storage.shows g.S.D.Disk.standing c.args.setup.now work c.in_ok-web.web c.args.disks.items c.in_ok-stills.stills.items c.in_ok-stills.passes c.in_ok-left.left c.in_ok-web.ensures.replicas c.requires.fit
    (are_over g.S.Storage.keeps g.S.Storage.shows g.S.D.Disk.standing c.args.setup.now work c.in_ok-web.web c.args.disks.items c.in_ok-nodes.nodes c.requires.whole c.in_ok-nodes.ensures
    c.in_ok-nodes-2.nodes c.in_ok-workers.workers c.in_ok-stills.stills.items c.in_ok-stills.passes c.in_ok-nodes-2.ensures.len c.in_ok-nodes-2.ensures.opening c.in_ok-nodes-2.ensures.order c.in_ok-workers.ensures.turns c.in_ok-stills.ensures) c.in_ok-left.ensures

pub finish_all-requires : goal.finish_all-requires
finish_all-requires g c =
    let work : ClientWork = record { turns = c.args.clients.turns; homes = c.args.clients.homes.now; asked = c.args.clients.asked.now } in
    record {
      can = can_finish g.S.Storage.keeps g.S.Storage.shows c.args.setup.now c.in_ok-left.left c.in_ok-stills.stills.items c.take_all.new.stills.items
          (can_take g.S.Storage.keeps g.S.Storage.shows g.S.D.Disk.standing c.args.setup.now work c.in_ok-web.web c.args.disks.items c.in_ok-stills.stills.items c.in_ok-stills.passes c.in_ok-left.left c.in_ok-web.ensures.replicas c.requires.fit
          (are_over g.S.Storage.keeps g.S.Storage.shows g.S.D.Disk.standing c.args.setup.now work c.in_ok-web.web c.args.disks.items c.in_ok-nodes.nodes c.requires.whole c.in_ok-nodes.ensures
          c.in_ok-nodes-2.nodes c.in_ok-workers.workers c.in_ok-stills.stills.items c.in_ok-stills.passes c.in_ok-nodes-2.ensures.len c.in_ok-nodes-2.ensures.opening c.in_ok-nodes-2.ensures.order c.in_ok-workers.ensures.turns c.in_ok-stills.ensures) c.in_ok-left.ensures)
          c.in_ok-take_all.ensures;
    }

pub returns : goal.returns
returns g c =
    let work : ClientWork = record { turns = c.args.clients.turns; homes = c.args.clients.homes.now; asked = c.args.clients.asked.now } in
    let over = are_over g.S.Storage.keeps g.S.Storage.shows g.S.D.Disk.standing c.args.setup.now work c.in_ok-web.web c.args.disks.items c.in_ok-nodes.nodes c.requires.whole c.in_ok-nodes.ensures
    c.in_ok-nodes-2.nodes c.in_ok-workers.workers c.in_ok-stills.stills.items c.in_ok-stills.passes c.in_ok-nodes-2.ensures.len c.in_ok-nodes-2.ensures.opening c.in_ok-nodes-2.ensures.order c.in_ok-workers.ensures.turns c.in_ok-stills.ensures in
    ok_so _ _ c.finish_all.result c.finish_all.ensures (λ ended finished.
    has_run g.S.Storage.keeps g.S.Storage.shows g.S.D.Disk.standing g.S.Storage.comes_back c.args.setup.now work c.in_ok-web.web c.in_ok-rooms.rooms c.args.disks.items c.in_ok-stills.stills.items c.take_all.new.stills.items c.in_ok-stills.passes c.in_ok-left.left
    c.requires.fit (record { replicas = c.in_ok-web.ensures.replicas; rooms_are = subst (λ rooms. HasRooms rooms c.in_ok-web.web) c.as_slice.ensures.value c.in_ok-web.ensures.rooms; enough = c.in_ok-rooms.ensures.enough }) over c.in_ok-left.ensures c.in_ok-take_all.ensures c.alone_is_counted.ensures ended.0 ended.1.items finished)
