use Rattle.std.proofs.Common.{◌∷◌, ◌<◌, [], length, length-append, arith}
use Rattle.std.proofs.lemmas.Option.{slice_get_within}
use Rattle.request_workers.proofs.Taken.{found_at, have_next, next_can}
use Rattle.request_workers.proofs.Handed.{more_behind}
use Rattle.request_workers.proofs.Taking.{at_next}
use Rattle.request_workers.proofs.closing.take_all.Goals as goal

pub take_left-requires : goal.take_left-requires
take_left-requires g c =
    let h = c.loop-lists.invariant in
    let left_at = at_next c.args.left c.loop-lists.yielded _ _ c.in-Some.lists c.loop-lists.me h.1 h.0 c.in-Some.ensures.steps.0 in
    let within : c.loop-lists.me < length c.loop-lists.stills.items = omega (arith, slice_get_within c.args.left c.loop-lists.me c.in-Some.lists left_at, c.requires.can.left_whole, c.requires.can.whole, h.2.whole) in
    record {
      can = next_can g.S.Storage.keeps g.S.Storage.shows c.args.setup.now c.args.left c.loop-lists.me c.args.stills.now.items c.loop-lists.stills.items c.index_mut.result.now c.in-Some.lists c.requires.can h.2
          (found_at c.loop-lists.stills.items c.loop-lists.me _ c.index_mut.result.now within c.index_mut.ensures.value) left_at;
    }

pub loop-lists-preserved : goal.loop-lists-preserved
loop-lists-preserved g c =
    let h = c.loop-lists.invariant in
    let left_at = at_next c.args.left c.loop-lists.yielded _ _ c.in-Some.lists c.loop-lists.me h.1 h.0 c.in-Some.ensures.steps.0 in
    let within : c.loop-lists.me < length c.loop-lists.stills.items = omega (arith, slice_get_within c.args.left c.loop-lists.me c.in-Some.lists left_at, c.requires.can.left_whole, c.requires.can.whole, h.2.whole) in (
      more_behind c.args.left c.loop-lists.yielded _ _ c.in-Some.lists h.0 c.in-Some.ensures.steps.0,
      omega (arith, h.1, length-append c.loop-lists.yielded (c.in-Some.lists ∷ [])),
      have_next g.S.Storage.keeps g.S.Storage.shows c.args.setup.now c.args.left c.loop-lists.me c.args.stills.now.items c.loop-lists.stills.items c.index_mut.result.now c.take_left.new.still c.in-Some.lists h.2
          (found_at c.loop-lists.stills.items c.loop-lists.me _ c.index_mut.result.now within c.index_mut.ensures.value) left_at c.in_ok-take_left.ensures,
    )
