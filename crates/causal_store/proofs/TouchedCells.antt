-- What a visit of one cell does, and where there is nothing to do.
use Rattle.std.proofs.Common.{◌≡◌, ℕ, ◌+◌, ◌<◌, false, List, [], ◌∷◌, ◌++◌, length, drop, get_or, map, refl, sym, ap, subst, ◌∙◌, arith, append_assoc, Some}
use Rattle.std.specs.Prelude.{slice_get, slice_set, sum_by}
use Rattle.std.specs.List.{list_any}
use Rattle.std.proofs.lemmas.List.{drop_more}
use Rattle.std.proofs.lemmas.Option.{slice_get-get_or, get_or_from_slice_get}
use Rattle.spec_model.specs.declared.spec.Spec.{Spec}
use Rattle.spec_model.specs.declared.spec.Num.{Num}
use Rattle.spec_model.specs.declared.instance.Cell.{Cell}
use Rattle.spec_model.specs.declared.instance.Inst.{Inst}
use Rattle.spec_model.specs.declared.operation.Line.{Line}
use Rattle.spec_model.specs.Changes.{effect_lines, line_adds, line_subtracts, net_fall, net_rise}
use Rattle.spec_model.specs.Truths.{Within, no_num, num_at, op_at, size_of}
use Rattle.spec_model.specs.Universe.{cells, cells_from, sizes_of, tuples}
use Rattle.effect_model.specs.Places.{CellFits, cell_index}
use Rattle.effect_model.specs.Touching.{line_may_change}
use Rattle.effect_model.specs.Visits.{done_all}
use Rattle.effect_model.proofs.Turning.{lines_are}
use Rattle.effect_model.proofs.Untouched.{lines_same}
use Rattle.effect_model.proofs.Visited.{done_append, done_map}
use Rattle.causal_store.specs.Keeping.{changed_at, sum_by_item, sums_after}
use Rattle.causal_store.specs.declared.sums.Sums.{Sums}
use Rattle.causal_store.proofs.Kept.{changed_not, changed_set, done_nothing}
use Rattle.causal_store.proofs.Summed.{cell_place_is}
use Rattle.effect_model.proofs.Sizes.{within_sorts}

-- a cell that isn't changed
unsummed : (spec : Spec) (inst : Inst) (cell : Cell) (kept : List Sums) → net_rise spec inst cell ≡ 0 → net_fall spec inst cell ≡ 0 → sum_by_item spec (net_rise spec inst) (net_fall spec inst) cell kept ≡ kept
unsummed spec inst cell kept rise fall =
    ap (λ n. changed_at (cell_index spec cell) (sums_after n (net_fall spec inst cell)) kept) rise ∙ ap (λ n. changed_at (cell_index spec cell) (sums_after 0 n) kept) fall ∙ changed_not (cell_index spec cell) (sums_after 0 0) kept (λ k. refl)

-- nothing is changed behind these elements
pub unchanged_behind : (spec : Spec) (inst : Inst) (num : ℕ) (front : List ℕ) (x : ℕ) (lines : List Line) (behind : List ℕ) (kept : List Sums) → lines ≡ (op_at spec inst.op).lines → list_any (line_may_change inst num (front ++ x ∷ [])) lines ≡ false
    → sum_by_item spec (net_rise spec inst) (net_fall spec inst) (record { num = num; args = front ++ x ∷ behind }) kept ≡ kept
unchanged_behind spec inst num front x lines behind kept is none =
    let cell : List ℕ → Cell = λ xs. record { num = num; args = xs } in
    let whole : (front ++ x ∷ []) ++ behind ≡ front ++ x ∷ behind = append_assoc front (x ∷ []) behind in
    let same = lines_same inst num (front ++ x ∷ []) behind lines none in
    let lines_is : lines ≡ effect_lines spec inst = is ∙ lines_are spec.ops inst.op in
    let adds : sum_by (line_adds inst (cell (front ++ x ∷ behind))) (effect_lines spec inst) ≡ 0 = ap (λ (ls : List Line). sum_by (line_adds inst (cell (front ++ x ∷ behind))) ls) (sym lines_is) ∙ ap (λ (ys : List ℕ). sum_by (line_adds inst (cell ys)) lines) (sym whole) ∙ same.0 in
    let subs : sum_by (line_subtracts inst (cell (front ++ x ∷ behind))) (effect_lines spec inst) ≡ 0 = ap (λ (ls : List Line). sum_by (line_subtracts inst (cell (front ++ x ∷ behind))) ls) (sym lines_is) ∙ ap (λ (ys : List ℕ). sum_by (line_subtracts inst (cell ys)) lines) (sym whole) ∙ same.1 in
    unsummed spec inst (cell (front ++ x ∷ behind)) kept (omega (arith, adds, subs)) (omega (arith, adds, subs))

pub summed : (spec : Spec) (inst : Inst) (cell : Cell) (kept new : List Sums) (place rise fall : ℕ) (s changed : Sums) → slice_get (cells spec) place ≡ Some cell → slice_get kept place ≡ Some s → rise ≡ net_rise spec inst cell → fall ≡ net_fall spec inst cell
    → changed ≡ sums_after rise fall s → new ≡ slice_set kept place changed → new ≡ sum_by_item spec (net_rise spec inst) (net_fall spec inst) cell kept
summed spec inst cell kept new place rise fall s changed at there up down after is =
    is ∙ ap (slice_set kept place) after ∙ changed_set place (sums_after rise fall) kept s there
    ∙ ap (λ n. changed_at n (sums_after rise fall) kept) (sym (cell_place_is spec place cell at))
    ∙ ap (λ n. changed_at (cell_index spec cell) (sums_after n fall) kept) up ∙ ap (λ n. changed_at (cell_index spec cell) (sums_after (net_rise spec inst cell) n) kept) down

-- an item that is no act changes nothing
pub not_summed : (spec : Spec) (rises falls : Cell → ℕ) (sums : List Sums) → ((cell : Cell) → rises cell ≡ 0) → ((cell : Cell) → falls cell ≡ 0) → sums ≡ done_all (sum_by_item spec rises falls) (cells spec) sums
not_summed spec rises falls sums up down =
    sym (done_nothing (λ (cell : Cell). cell_index spec cell) (λ (cell : Cell). sums_after (rises cell) (falls cell)) (cells spec) sums
    (λ cell s. ap (λ n. sums_after n (falls cell) s) (up cell) ∙ ap (λ n. sums_after 0 n s) (down cell)))

-- a tuple of a number's sorts is a cell
pub cell_known : (spec : Spec) (k : ℕ) (num : Num) (sizes front behind : List ℕ) → k < length spec.nums → num ≡ get_or spec.nums k num → sizes ≡ sizes_of spec num.sorts → front ≡ [] → Within (λ s. s) sizes behind → CellFits spec (record { num = k; args = front ++ behind })
cell_known spec k num sizes front behind lt is sized none within =
    let here : num ≡ num_at spec k = sym (get_or_from_slice_get spec.nums k num no_num (slice_get-get_or spec.nums k num lt ∙ ap Some (sym is))) in
    let all : Within (size_of spec) (num_at spec k).sorts behind = within_sorts spec (num_at spec k).sorts behind (subst (λ (q : Num). Within (λ s. s) (sizes_of spec q.sorts) behind) here (subst (λ (ss : List ℕ). Within (λ s. s) ss behind) sized within)) in
    record { known = lt; within = subst (λ (f : List ℕ). Within (size_of spec) (num_at spec k).sorts (f ++ behind)) (sym none) all }

-- what is done at the cells of one number comes before what is done at those behind it
pub cells_turn : {K : Type 0} (f : Cell → K → K) (spec : Spec) (nums : List Num) (sizes front : List ℕ) (k : ℕ) (p : Num) (before now all : K) → k < length nums → p ≡ get_or nums k p → sizes ≡ sizes_of spec p.sorts → front ≡ []
    → now ≡ done_all (λ behind. f (record { num = k; args = front ++ behind })) (tuples sizes) before
    → done_all f (cells_from spec k (drop k nums)) before ≡ all → done_all f (cells_from spec (k + 1) (drop (k + 1) nums)) now ≡ all
cells_turn f spec nums sizes front k p before now all lt is sized none step so_far =
    let cell : List ℕ → Cell = λ xs. record { num = k; args = xs } in
    let rest : List Cell = cells_from spec (k + 1) (drop (k + 1) nums) in
    let part : List Cell = map cell (tuples (sizes_of spec p.sorts)) in
    let split : cells_from spec k (drop k nums) ≡ part ++ rest = ap (λ (ps : List Num). cells_from spec k ps) (drop_more nums k p lt) ∙ ap (λ (q : Num). map cell (tuples (sizes_of spec q.sorts)) ++ rest) (sym is) in
    let here : now ≡ done_all f part before =
    step ∙ ap (λ (fr : List ℕ). done_all (λ behind. f (record { num = k; args = fr ++ behind })) (tuples sizes) before) none ∙ ap (λ (ss : List ℕ). done_all (λ behind. f (cell behind)) (tuples ss) before) sized ∙ sym (done_map f cell (tuples (sizes_of spec p.sorts)) before) in
    ap (done_all f rest) here ∙ sym (done_append f part rest before) ∙ ap (λ (cs : List Cell). done_all f cs before) (sym split) ∙ so_far
