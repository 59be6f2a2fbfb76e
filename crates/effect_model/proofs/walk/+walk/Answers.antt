use Rattle.std.proofs.Common.{◌≡◌, ◌≤◌, ◌+◌, ◌++◌, ◌∷◌, sym, ap, subst, List, ℕ, [], length, length-drop, arith, rules, ◌∙◌}
use Rattle.std.proofs.lemmas.Bool.{eqb-true, eqb-false}
use Rattle.std.proofs.lemmas.List.{append-nil, length_push, nil_from_length}
use Rattle.spec_model.specs.Truths.{Within}
use Rattle.effect_model.proofs.Searched.{behind_longer}
use Rattle.effect_model.proofs.Walks.{listed_rest, listed_turn}
use Rattle.effect_model.proofs.walk.+walk.Goals as goal

pub list-requires : goal.list-requires
list-requires g t c =
    let none : c.args.sizes.now ≡ [] = nil_from_length c.args.sizes.now (eqb-true _ _ (sym c.is_empty.ensures ∙ c.if-is_empty.true)) in
    let fits = subst (λ (ss : List ℕ). Within (λ s. s) ss [] → g.L.Listing.fits c.args.listing.now (c.args.front ++ [])) none (c.requires.fits []) in
    rw (append-nil c.args.front) at (fits tt)

pub walk-requires : goal.walk-requires
walk-requires g t c =
    let some = eqb-false _ _ (sym c.is_empty.ensures ∙ c.if-is_empty.false) in
    let fits : (xs : List ℕ) → Within (λ s. s) c.split_at.result.1.now xs → g.L.Listing.fits c.args.listing.now (c.push.new.self ++ xs) =
    behind_longer (g.L.Listing.fits c.args.listing.now) c.args.front c.args.sizes.now c.split_at.result.0.now c.split_at.result.1.now c.push.new.self c.next-next.result 0 some c.split_at.ensures.front c.split_at.ensures.back (omega (arith, c.if-next-size.false)) c.push.ensures c.requires.fits in
    let few : length c.push.new.self + length c.split_at.result.1.now ≤ 4 = omega (arith, ap length c.push.ensures, length_push c.args.front c.next-next.result, ap length c.split_at.ensures.back, length-drop 1 c.args.sizes.now, some, c.requires.few) in
    λ κs lives. (search rules, (search rules, (search rules, (fits, few))))

pub returns-then-next-size : goal.returns-then-next-size
returns-then-next-size g t c =
    let f = g.L.Listing.listed c.args.listing.now in
    let some = eqb-false _ _ (sym c.is_empty.ensures ∙ c.if-is_empty.false) in
    listed_rest f c.args.front c.args.sizes.now c.split_at.result.0.now c.split_at.result.1.now c.loop-turn.x c.next-next.result c.args.out.now c.loop-turn.out some c.split_at.ensures.front c.split_at.ensures.back
    c.loop-turn.invariant.listed c.loop-turn.invariant.within c.if-next-size.true (λ y ge lt behind. ap (λ (ls : List ℕ). f (ls ++ y ∷ behind)) (sym c.as_slice.ensures.value) ∙ c.next-next.ensures.untouched y ge lt behind)

pub loop-turn-preserved : goal.loop-turn-preserved
loop-turn-preserved g t c =
    let f = g.L.Listing.listed c.args.listing.now in
    record {
      listed = listed_turn f c.args.front c.split_at.result.1.now c.push.new.self c.loop-turn.x c.next-next.result c.args.out.now c.loop-turn.out c.walk.new.out c.loop-turn.invariant.listed c.next-next.ensures.later
          (λ y ge lt behind. ap (λ (ls : List ℕ). f (ls ++ y ∷ behind)) (sym c.as_slice.ensures.value) ∙ c.next-next.ensures.untouched y ge lt behind) c.push.ensures c.in_ok-walk.ensures;
      below = omega (arith, c.loop-turn.invariant.below, c.next-next.ensures.later);
      within = omega (arith, c.if-next-size.false);
    }
