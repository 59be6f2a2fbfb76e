use Rattle.std.proofs.Common.{◌∷◌, [], length-append, arith}
use Rattle.request_workers.proofs.Handed.{more_behind}
use Rattle.request_workers.proofs.Taking.{at_next, ready_next, takes_next}
use Rattle.request_workers.proofs.closing.take_left.Goals as goal

pub take_from-requires-clause-own : goal.take_from-requires-clause-own
take_from-requires-clause-own g c =
    let h = c.loop-left.invariant in
    (ready_next g.S.Storage.keeps g.S.Storage.shows c.args.setup.now c.args.me c.args.lists c.loop-left.from c.in-Some.left c.args.still.now c.loop-left.still c.requires.can h.2
    (at_next c.args.lists c.loop-left.yielded _ _ c.in-Some.left c.loop-left.from h.1 h.0 c.in-Some.ensures.steps.0)).own

pub take_from-requires-clause-theirs : goal.take_from-requires-clause-theirs
take_from-requires-clause-theirs g c =
    let h = c.loop-left.invariant in
    (ready_next g.S.Storage.keeps g.S.Storage.shows c.args.setup.now c.args.me c.args.lists c.loop-left.from c.in-Some.left c.args.still.now c.loop-left.still c.requires.can h.2
    (at_next c.args.lists c.loop-left.yielded _ _ c.in-Some.left c.loop-left.from h.1 h.0 c.in-Some.ensures.steps.0)).theirs

pub take_from-requires-clause-room : goal.take_from-requires-clause-room
take_from-requires-clause-room g c =
    let h = c.loop-left.invariant in
    (ready_next g.S.Storage.keeps g.S.Storage.shows c.args.setup.now c.args.me c.args.lists c.loop-left.from c.in-Some.left c.args.still.now c.loop-left.still c.requires.can h.2
    (at_next c.args.lists c.loop-left.yielded _ _ c.in-Some.left c.loop-left.from h.1 h.0 c.in-Some.ensures.steps.0)).room

pub loop-left-preserved : goal.loop-left-preserved
loop-left-preserved g c =
    let h = c.loop-left.invariant in (
      more_behind c.args.lists c.loop-left.yielded _ _ c.in-Some.left h.0 c.in-Some.ensures.steps.0,
      omega (arith, h.1, length-append c.loop-left.yielded (c.in-Some.left ∷ [])),
      takes_next g.S.Storage.keeps g.S.Storage.shows c.args.setup.now c.args.me c.args.lists c.loop-left.from c.in-Some.left c.args.still.now c.loop-left.still c.take_from.new.still c.requires.can h.2
          (at_next c.args.lists c.loop-left.yielded _ _ c.in-Some.left c.loop-left.from h.1 h.0 c.in-Some.ensures.steps.0) c.in_ok-take_from.ensures,
    )
