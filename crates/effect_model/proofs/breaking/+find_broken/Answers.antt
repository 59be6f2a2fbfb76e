use Rattle.std.proofs.Common.{map, true, ◌≡◌, ◌∙◌, refl, sym, ap, subst, List, ℕ, [], ◌++◌, ◌+◌, ◌≤◌, get_or, length, length-drop, arith, rules}
use Rattle.std.proofs.lemmas.Bool.{eqb-false, eqb-true}
use Rattle.std.proofs.lemmas.List.{append-nil, length_push, nil_from_length}
use Rattle.spec_model.specs.Truths.{Within, instance_true, op_at}
use Rattle.effect_model.specs.Laying.{truths_after}
use Rattle.spec_model.specs.Breaks.{breaks_at}
use Rattle.effect_model.specs.Pruning.{ClauseStands}
use Rattle.std.specs.List.{AllByRecursion}
use Rattle.effect_model.proofs.Sizes.{all_left}
use Rattle.effect_model.proofs.Stays.{first_within, none_stays}
use Rattle.effect_model.proofs.Searched.{behind_longer, found_more, none_below, none_more, none_until}
use Rattle.effect_model.proofs.breaking.+find_broken.Goals as goal

pub breaks_here-requires-clause-stands : goal.breaks_here-requires-clause-stands
breaks_here-requires-clause-stands g t c =
    let none : c.args.sizes.now ≡ [] = nil_from_length c.args.sizes.now (eqb-true _ _ (sym c.is_empty.ensures ∙ c.if-is_empty.true)) in
    let stands = subst (λ (ss : List ℕ). Within (λ s. s) ss [] → ClauseStands c.args.laid.now.spec.now (c.args.front ++ []) c.args.clause.now) none (c.requires.stands []) in
    rw c.as_slice.ensures.value (rw (append-nil c.args.front) at (stands tt))

pub find_broken-found-requires : goal.find_broken-found-requires
find_broken-found-requires g t c =
    let some = eqb-false _ _ (sym c.is_empty.ensures ∙ c.if-is_empty.false) in
    let stands : (xs : List ℕ) → Within (λ s. s) c.split_at.result.1.now xs → ClauseStands c.args.laid.now.spec.now (c.push.new.self ++ xs) c.args.clause.now =
    behind_longer (λ xs. ClauseStands c.args.laid.now.spec.now xs c.args.clause.now) c.args.front c.args.sizes.now c.split_at.result.0.now c.split_at.result.1.now c.push.new.self c.next_behind-next.result 0 some c.split_at.ensures.front c.split_at.ensures.back (omega (arith, c.if-next-size.false)) c.push.ensures c.requires.stands in
    let few : length c.push.new.self + length c.split_at.result.1.now ≤ 4 = omega (arith, ap length c.push.ensures, length_push c.args.front c.next_behind-next.result, ap length c.split_at.ensures.back, length-drop 1 c.args.sizes.now, some, c.requires.few) in
    let sizes : AllByRecursion (λ (size : ℕ). 1 ≤ size) c.split_at.result.1.now = subst (AllByRecursion (λ (size : ℕ). 1 ≤ size)) (sym c.split_at.ensures.back) (all_left (λ (size : ℕ). 1 ≤ size) c.args.sizes.now 1 c.requires.some) in
    λ κs lives. (search rules, (search rules, (c.requires.laid, (few, (sizes, stands)))))

pub returns-then-next-size : goal.returns-then-next-size
returns-then-next-size g t c =
    let laid = c.args.laid.now in
    let truths = g.T.Truth.truths laid.state.now in
    let some = eqb-false _ _ (sym c.is_empty.ensures ∙ c.if-is_empty.false) in
    let others = c.split_at.result.1.now in
    let size = get_or c.split_at.result.0.now 0 0 in
    none_below (breaks_at laid.spec.now laid.inst.now truths c.args.clause.now) c.args.front c.args.sizes.now c.split_at.result.0.now others size 0 some c.split_at.ensures.front c.split_at.ensures.back refl
    (none_until laid.spec.now laid.inst.now truths c.args.clause.now c.args.front others (op_at laid.spec.now laid.inst.now.op).lines c.loop-turn.x c.next_behind-next.result size refl (rw c.as_slice-in-loop-turn.ensures.value at c.next_behind-next.ensures.untouched) c.loop-turn.invariant.within c.if-next-size.true c.loop-turn.invariant.none)

pub returns-then-is_some : goal.returns-then-is_some
returns-then-is_some g t c =
    let laid = c.args.laid.now in
    let truths = g.T.Truth.truths laid.state.now in
    let some = eqb-false _ _ (sym c.is_empty.ensures ∙ c.if-is_empty.false) in
    let others = c.split_at.result.1.now in
    let next = c.next_behind-next.result in
    let none = none_until laid.spec.now laid.inst.now truths c.args.clause.now c.args.front others (op_at laid.spec.now laid.inst.now.op).lines c.loop-turn.x next next refl (rw c.as_slice-in-loop-turn.ensures.value at c.next_behind-next.ensures.untouched) c.next_behind-next.ensures.later (omega arith) c.loop-turn.invariant.none in
    found_more (breaks_at laid.spec.now laid.inst.now truths c.args.clause.now) c.args.front c.args.sizes.now c.split_at.result.0.now others c.push.new.self next 0 c.find_broken-found.result
    some c.split_at.ensures.front c.split_at.ensures.back (omega (arith, c.if-next-size.false)) c.push.ensures none c.find_broken-found.ensures (sym c.is_some.ensures ∙ c.if-is_some.true)

pub loop-turn-preserved : goal.loop-turn-preserved
loop-turn-preserved g t c =
    let laid = c.args.laid.now in
    let truths = g.T.Truth.truths laid.state.now in
    let others = c.split_at.result.1.now in
    let next = c.next_behind-next.result in
    let none = none_until laid.spec.now laid.inst.now truths c.args.clause.now c.args.front others (op_at laid.spec.now laid.inst.now.op).lines c.loop-turn.x next next refl (rw c.as_slice-in-loop-turn.ensures.value at c.next_behind-next.ensures.untouched) c.next_behind-next.ensures.later (omega arith) c.loop-turn.invariant.none in
    record {
      none = none_more (breaks_at laid.spec.now laid.inst.now truths c.args.clause.now) c.args.front others c.push.new.self next c.find_broken-found.result c.push.ensures none c.find_broken-found.ensures (sym c.is_some.ensures ∙ c.if-is_some.false);
      below = omega (arith, c.loop-turn.invariant.below, c.next_behind-next.ensures.later);
      within = omega (arith, c.if-next-size.false);
    }

pub clause_stays-requires-clause-stands : goal.clause_stays-requires-clause-stands
clause_stays-requires-clause-stands g t c =
    let zeros : List ℕ = map (λ (size : ℕ). 0) c.args.sizes.now in
    (zeros, subst (λ (front : List ℕ). ClauseStands c.args.laid.now.spec.now (front ++ zeros) c.args.clause.now) (sym c.as_slice-2.ensures.value) (c.requires.stands zeros (first_within c.args.sizes.now c.requires.some)))

pub returns-then-clause_stays : goal.returns-then-clause_stays
returns-then-clause_stays g t c =
    let laid = c.args.laid.now in
    none_stays laid.spec.now laid.inst.now (g.T.Truth.truths laid.state.now) c.args.clause.now c.args.front c.args.sizes.now
    (λ behind. subst (λ (front : List ℕ). instance_true (truths_after g.T.Truth.truths laid) (front ++ behind) c.args.clause.now ≡ true) c.as_slice-2.ensures.value (c.clause_stays.ensures c.if-clause_stays.true behind))
