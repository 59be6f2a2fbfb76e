use Rattle.std.proofs.Common.{◌+◌, ◌*◌, ◌<◌, ◌≤◌, List, ℕ, All, length, slice_index, sym, ap, ◌∙◌, subst, arith}
use Rattle.client_asks.specs.Asking.{courier_asks, sends_in}
use Rattle.client_workers.proofs.Links.{all_added, asks_few, rooms_enough, rooms_long, rooms_some}
use Rattle.client_workers.proofs.rooms.rooms_of.Goals as goal

pub add_row-requires : goal.add_row-requires
add_row-requires c = record { few = asks_few c.args.replicas c.loop-from.from c.args.turns _ (c.as_slice.ensures.value ∙ c.in_ok-asks.ensures) c.requires.few_turns }

pub returns-clause-len : goal.returns-clause-len
returns-clause-len c =
    let all = all_added c.loop-from.rooms c.loop-from.from c.args.replicas c.args.turns c.loop-from.invariant (omega (arith, c.loop-from-test.false, c.loop-from.auto.from-end)) in
    ap (λ (rooms : List ℕ). length rooms) all ∙ rooms_long c.args.replicas c.args.turns

pub returns-clause-some : goal.returns-clause-some
returns-clause-some c =
    let all = all_added c.loop-from.rooms c.loop-from.from c.args.replicas c.args.turns c.loop-from.invariant (omega (arith, c.loop-from-test.false, c.loop-from.auto.from-end)) in
    subst (All (λ room. 0 < room)) (sym all) (rooms_some c.args.replicas c.args.turns)

pub returns-clause-enough : goal.returns-clause-enough
returns-clause-enough c =
    let all = all_added c.loop-from.rooms c.loop-from.from c.args.replicas c.args.turns c.loop-from.invariant (omega (arith, c.loop-from-test.false, c.loop-from.auto.from-end)) in
    λ from to lt less. subst (λ rooms. sends_in to (courier_asks c.args.replicas from c.args.turns) ≤ slice_index rooms (from * c.args.replicas + to)) (sym all) (rooms_enough c.args.replicas c.args.turns from to lt less)
