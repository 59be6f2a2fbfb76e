-- The rights of a setup and pieces of them have a spelling.
use Rattle.std.proofs.Common.{ℕ, suc, ◌+◌, ◌<◌, ◌≤◌, Bool, true, false, get_or, List, [], ◌∷◌, map, filter, length, subst, sym, arith, length-append}
use Rattle.std.specs.Prelude.{is_some}
use Rattle.std.specs.List.{AllByRecursion, flat_map}
use Rattle.std.proofs.lemmas.Bool.{cond_both}
use Rattle.std.proofs.lemmas.List.{length-map}
use Rattle.spec_model.specs.declared.clause.Clause.{Clause}
use Rattle.spec_model.specs.declared.instance.Cell.{Cell}
use Rattle.spec_model.specs.declared.plan.LockKind.{LockKind}
use Rattle.spec_model.specs.declared.plan.Pair.{Pair}
use Rattle.spec_model.specs.declared.plan.Setup.{Setup}
use Rattle.spec_model.specs.declared.right.Piece.{Piece}
use Rattle.spec_model.specs.declared.right.Piece.TheVariants as piece
use Rattle.spec_model.specs.declared.right.Right.{Right}
use Rattle.spec_model.specs.declared.right.Right.TheVariants as right
use Rattle.spec_model.specs.declared.spec.Num.{Num}
use Rattle.spec_model.specs.declared.spec.Spec.{Spec}
use Rattle.spec_model.specs.AllRights.{entry_rights, high_rights, is_atom, key_rights, low_rights, rights_of}
use Rattle.spec_model.specs.Fits.{IsWellFormed, LockFits, NumFits, PartFits, marked_from}
use Rattle.spec_model.specs.Masks.{instances_of, places_from}
use Rattle.spec_model.specs.Separated.{interval_place}
use Rattle.spec_model.specs.Truths.{Signed, clause_in, literals, op_at, signed, sort_of, var_sorts}
use Rattle.spec_model.specs.Universe.{cells, cells_from, keys_of, lower_bound, sizes_of, tuples, upper_bound}
use Rattle.run_model.specs.Fitting.{PieceFits, RightFits, SetupFits}
use Rattle.run_model.specs.Points.{no_kind}
use Rattle.run_model.proofs.Lists.{each_append, each_at, each_filter, each_weaker}
use Rattle.message_laws.proofs.Listed.{in_contained}
use Rattle.op_records.specs.Spelling.{AreArgs, IsNamed, IsOf, IsPiece, IsRight}
use Rattle.op_records.proofs.Small.{HasShortKey, IsSmallClause, clause_small, each_joined, each_mapped, plan_few, short_key, sort_few, tuples_small}

-- ---- cells

abbrev IsNamedCell : Cell → Type 0
IsNamedCell cell = IsNamed cell.num cell.args

cells_named : (spec : Spec) (k : ℕ) (nums : List Num) → IsWellFormed spec → k + length nums ≤ 64 → AllByRecursion (NumFits spec) nums → AllByRecursion IsNamedCell (cells_from spec k nums)
cells_named spec k [] well few fits = tt
cells_named spec k (num ∷ nums) well few fits =
    let args = tuples_small spec num.sorts well (omega (arith, fits.0.few_places)) in
    each_append IsNamedCell _ (cells_from spec (k + 1) nums)
    (each_mapped AreArgs IsNamedCell (λ (xs : List ℕ). record { num = k; args = xs }) (tuples (sizes_of spec num.sorts)) args (λ xs h. (omega (arith, few), h)))
    (cells_named spec (k + 1) nums well (omega (arith, few)) fits.1)

bounds_named : (spec : Spec) (of : Cell → Right) (test : Cell → Bool) → IsWellFormed spec → ((cell : Cell) → IsNamedCell cell → IsRight (of cell)) → AllByRecursion IsRight (map of (filter test (cells spec)))
bounds_named spec of test well so =
    each_mapped _ IsRight of (filter test (cells spec)) (each_filter IsNamedCell test (cells spec) (cells_named spec 0 spec.nums well (omega (arith, well.few_nums)) well.nums)) (λ cell h. so cell h.0)

-- ---- keys

keys_named : (of : ℕ → List ℕ → Right) (spec : Spec) (n : ℕ) (kinds : List LockKind) → IsWellFormed spec → n + length kinds ≤ 4096 → AllByRecursion HasShortKey kinds → ((m : ℕ) (key : List ℕ) → IsNamed m key → IsRight (of m key)) → AllByRecursion IsRight (key_rights of spec n kinds)
keys_named of spec n [] well few short so = tt
keys_named of spec n (kind ∷ kinds) well few short so =
    let sort = λ (k : Pair). sort_of (op_at spec kind.a).params k.a in
    let keys = tuples_small spec (map sort kind.key) well (omega (arith, short.0, length-map kind.key sort)) in
    each_append IsRight (map (of n) (keys_of spec kind)) (key_rights of spec (n + 1) kinds)
    (each_mapped AreArgs IsRight (of n) (keys_of spec kind) keys (λ key h. so n key (omega (arith, few), h)))
    (keys_named of spec (n + 1) kinds well (omega (arith, few)) short.1 so)

-- ---- entries

marked_small : (i : ℕ) (clauses : List Clause) → i + length clauses ≤ 64 → AllByRecursion (λ j. j < 64) (marked_from i clauses)
marked_small i [] few = tt
marked_small i (c ∷ clauses) few =
    let rest = marked_small (suc i) clauses (omega (arith, few)) in
    cond_both c.mask (i ∷ marked_from (suc i) clauses) (marked_from (suc i) clauses) (AllByRecursion (λ j. j < 64)) (λ marked. (omega (arith, few), rest)) (λ not. rest)

places_small : (test : Signed → Bool) (i : ℕ) (ls : List Signed) → i + length ls ≤ 8 → AllByRecursion (λ n. n < 8) (places_from test i ls)
places_small test i [] few = tt
places_small test i (l ∷ ls) few =
    let rest = places_small test (suc i) ls (omega (arith, few)) in
    cond_both (test l) (i ∷ places_from test (suc i) ls) (places_from test (suc i) ls) (AllByRecursion (λ n. n < 8)) (λ passes. (omega (arith, few), rest)) (λ not. rest)

literals_few : (c : Clause) → IsSmallClause c → length (literals c) ≤ 8
literals_few c small =
    omega (arith, small.1, length-append (map (signed false) c.premise) (map (signed true) c.conclusion), length-map c.premise (signed false), length-map c.conclusion (signed true))

entries_named : (spec : Spec) (i : ℕ) → IsWellFormed spec → i < 64 → AllByRecursion IsRight (entry_rights spec i)
entries_named spec i well lt =
    let c : Clause = clause_in spec i in
    let small : IsSmallClause c = clause_small spec spec.clauses i well.clauses in
    let places = places_from (λ l. is_atom l.literal) 0 (literals c) in
    let few = literals_few c small in
    let each = places_small (λ l. is_atom l.literal) 0 (literals c) (omega (arith, few)) in
    let args = tuples_small spec (var_sorts c) well (omega (arith, small.0, length-map c.vars (λ v. v.sort))) in
    each_joined AreArgs IsRight (λ xs. map (λ n. right.Entry i xs n) places) (instances_of spec i) args
    (λ xs h. each_mapped (λ n. n < 8) IsRight (λ n. right.Entry i xs n) places each (λ n le. ((omega (arith, lt), h), omega (arith, le))))

-- ---- each right, each piece

-- a right that there is has a spelling
pub right_spelled : (setup : Setup) (r : Right) → SetupFits setup → RightFits setup r → IsRight r
right_spelled setup r fits there =
    let spec = setup.spec in
    let plan = setup.plan in
    let well : IsWellFormed spec = fits.spec in
    let few = plan_few spec plan well fits.plan in
    let split = length-append plan.locks plan.parts in
    let lows : AllByRecursion IsRight (low_rights spec) = bounds_named spec (λ c. right.Low c) (λ c. is_some (lower_bound spec c)) well (λ c h. h) in
    let highs : AllByRecursion IsRight (high_rights spec) = bounds_named spec (λ c. right.High c) (λ c. is_some (upper_bound spec c)) well (λ c h. h) in
    let locks = keys_named (λ n key. right.Lock n key) spec 0 plan.locks well (omega (arith, few, split)) (each_weaker (LockFits spec) HasShortKey (λ l f. short_key spec l well f) plan.locks fits.plan.locks_fit) (λ n key h. h) in
    let parts = keys_named (λ n key. right.Part n key) spec 0 plan.parts well (omega (arith, few, split)) (each_weaker (PartFits spec) HasShortKey (λ l f. short_key spec l well f.lock) plan.parts fits.plan.parts_fit) (λ n key h. h) in
    let marked : AllByRecursion (λ j. j < 64) plan.masks = subst (AllByRecursion (λ j. j < 64)) (sym fits.plan.masks) (marked_small 0 spec.clauses (omega (arith, well.few_clauses))) in
    let entries : AllByRecursion IsRight (flat_map (entry_rights spec) plan.masks) = each_joined (λ j. j < 64) IsRight (entry_rights spec) plan.masks marked (λ i lt. entries_named spec i well lt) in
    let all : AllByRecursion IsRight (rights_of setup) = each_append IsRight _ _ lows (each_append IsRight _ _ highs (each_append IsRight _ _ locks (each_append IsRight _ _ entries parts))) in
    let at = in_contained (rights_of setup) r there in
    each_at IsRight (rights_of setup) at.0 r all at.1

-- so has a piece of it that fits
pub piece_spelled : (setup : Setup) (r : Right) (given : Piece) → IsWellFormed setup.spec → setup.replicas ≤ 8 → PieceFits setup r given → IsPiece given × IsOf r given
piece_spelled setup (right.Low cell) (piece.Count n) well few fits = ((fits.1, omega (arith, fits.2)), tt)
piece_spelled setup (right.Low cell) (piece.Shares n m) well few fits = absurd cc
piece_spelled setup (right.Low cell) (piece.Points s) well few fits = absurd fits
piece_spelled setup (right.High cell) (piece.Count n) well few fits = ((fits.1, omega (arith, fits.2)), tt)
piece_spelled setup (right.High cell) (piece.Shares n m) well few fits = absurd cc
piece_spelled setup (right.High cell) (piece.Points s) well few fits = absurd fits
piece_spelled setup (right.Lock lock key) (piece.Count n) well few fits = absurd cc
piece_spelled setup (right.Lock lock key) (piece.Shares n m) well few fits = ((fits.1, omega (arith, fits.2, few)), tt)
piece_spelled setup (right.Lock lock key) (piece.Points s) well few fits = absurd fits
piece_spelled setup (right.Entry c args l) (piece.Count n) well few fits = absurd cc
piece_spelled setup (right.Entry c args l) (piece.Shares n m) well few fits = ((fits.1, omega (arith, fits.2, few)), tt)
piece_spelled setup (right.Entry c args l) (piece.Points s) well few fits = absurd fits
piece_spelled setup (right.Part part key) (piece.Count n) well few fits = absurd cc
piece_spelled setup (right.Part part key) (piece.Shares n m) well few fits = absurd cc
piece_spelled setup (right.Part part key) (piece.Points s) well few fits =
    let params = (op_at setup.spec (get_or setup.plan.parts part no_kind).a).params in
    let size = sort_few setup.spec (sort_of params (interval_place params)) well in
    (record { ordered = fits.0; small = omega (arith, fits.1, size) }, tt)
