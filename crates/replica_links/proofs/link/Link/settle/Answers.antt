use Rattle.std.proofs.Common.{ap, length, length-append, arith}
use Rattle.crossbeam_queue.specs.Passes.{view}
use Rattle.replica_links.specs.Passes.{taken_of}
use Rattle.replica_links.proofs.Kept.{takes_left, holds_just_the_rest}
use Rattle.replica_links.proofs.Joined.{joins_ends}
use Rattle.replica_links.proofs.link.Link.settle.Goals as goal

pub absorb-requires-clause-rule : goal.absorb-requires-clause-rule
absorb-requires-clause-rule g c = joins_ends _ _ _ _ c.args.put.puts.0 c.args.get.gets.1

pub pop_as-requires-clause-rule : goal.pop_as-requires-clause-rule
pop_as-requires-clause-rule g c =
    let both = c.loop.invariant in (takes_left _ _ both.1 both.2, holds_just_the_rest _ _ both.1 both.2)

-- a link that holds nothing has given as many as it held at first
pub unreachable-requires : goal.unreachable-requires
unreachable-requires g c =
    let so_far = c.loop.invariant in let none = c.in-None.ensures.rule.1 in
    omega (
      arith,
      none.1,
      ap length none.2,
      length-append (view c.loop.end).taken none.0,
      ap length so_far.3,
      ap length so_far.4,
      length-append (taken_of c.args.get) c.loop.left.items,
      so_far.6,
      so_far.8,
      c.loop-test.true,
    )
