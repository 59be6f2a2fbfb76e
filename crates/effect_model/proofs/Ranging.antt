-- Rights listed number by number, lock by lock and literal by literal.
use Rattle.std.proofs.Common.{◌≡◌, ℕ, zero, suc, ◌+◌, Bool, true, false, if◌then◌else◌, is_some, List, [], ◌∷◌, ◌++◌, map, length, get_or, refl, sym, ap, ◌∙◌, append_assoc, add-one, subst, arith, Some, None, Option}
use Rattle.std.specs.List.{flat_map, filter, slice_get}
use Rattle.std.specs.Option.{option_map_or}
use Rattle.std.proofs.lemmas.List.{append-nil, map-append}
use Rattle.std.proofs.lemmas.List.Elements.{filter-append}
use Rattle.std.proofs.lemmas.List.Concat.{flat_map_single}
use Rattle.std.proofs.lemmas.Option.{slice_get_within, get_or_from_slice_get}
use Rattle.spec_model.specs.declared.clause.Clause.{Clause}
use Rattle.spec_model.specs.declared.clause.Literal.{Literal}
use Rattle.spec_model.specs.declared.clause.Var.{Var}
use Rattle.spec_model.specs.declared.instance.Cell.{Cell}
use Rattle.spec_model.specs.declared.right.Right.{Right}
use Rattle.spec_model.specs.declared.right.Right.TheVariants as right
use Rattle.spec_model.specs.declared.spec.Num.{Num}
use Rattle.spec_model.specs.declared.spec.Spec.{Spec}
use Rattle.spec_model.specs.AllRights.{low_rights, high_rights, entry_rights, is_atom}
use Rattle.spec_model.specs.Fits.{ClauseFits, IsWellFormed}
use Rattle.spec_model.specs.Masks.{places_from}
use Rattle.spec_model.specs.Truths.{Signed, signed, clause_in, no_clause, var_sorts}
use Rattle.spec_model.specs.Universe.{cells_from, lower_bound, upper_bound, sizes_of, tuples}
use Rattle.effect_model.specs.declared.right_list.Family.{Family}
use Rattle.effect_model.specs.declared.right_list.Family.TheVariants as family
use Rattle.effect_model.specs.Rights.{HasFewLiterals, cell_rights, has_atom, entries_from, entries_of, entry_where, has_bound, right_at, rights_below}
use Rattle.effect_model.proofs.Sizes.{all_at}

-- ---- cells

-- of cells that all pass a test, or all don't
all_alike : (test : Cell → Bool) (make : Cell → Right) (cell : List ℕ → Cell) (g : List ℕ → Right) (b : Bool) → ((xs : List ℕ) → test (cell xs) ≡ b) → ((xs : List ℕ) → make (cell xs) ≡ g xs) → (ts : List (List ℕ))
    → (if b then map g ts else []) ≡ map make (filter test (map cell ts))
all_alike test make cell g true t m [] = refl
all_alike test make cell g false t m [] = refl
all_alike test make cell g true t m (x ∷ ts) = rw (t x, m x) (ap (λ (rs : List Right). g x ∷ rs) (all_alike test make cell g true t m ts))
all_alike test make cell g false t m (x ∷ ts) = rw (t x) (all_alike test make cell g false t m ts)

cells_bounded : (f : Family) (test : Cell → Bool) (make : Cell → Right) (spec : Spec) (k : ℕ) (nums : List Num)
    → ((i n : ℕ) (num : Num) → n ≡ k + i → slice_get nums i ≡ Some num → (xs : List ℕ) → test (record { num = n; args = xs }) ≡ has_bound f num)
    → ((n : ℕ) (xs : List ℕ) → make (record { num = n; args = xs }) ≡ right_at f n xs)
    → cell_rights f spec k nums ≡ map make (filter test (cells_from spec k nums))
cells_bounded f test make spec k [] bounds makes = refl
cells_bounded f test make spec k (num ∷ nums) bounds makes =
    let cell : List ℕ → Cell = λ xs. record { num = k; args = xs } in
    let here = map cell (tuples (sizes_of spec num.sorts)) in
    let rest = cells_from spec (k + 1) nums in
    ap (λ (rs : List Right). rs ++ cell_rights f spec (k + 1) nums) (all_alike test make cell (right_at f k) (has_bound f num) (bounds 0 k num (omega arith) refl) (makes k) (tuples (sizes_of spec num.sorts)))
    ∙ ap (λ (rs : List Right). map make (filter test here) ++ rs) (cells_bounded f test make spec (k + 1) nums (λ i n other is at. bounds (suc i) n other (omega (arith, is)) at) makes)
    ∙ sym (map-append make (filter test here) (filter test rest))
    ∙ ap (map make) (sym (filter-append test here rest))

pub low_are : (spec : Spec) → cell_rights family.Low spec 0 spec.nums ≡ low_rights spec
low_are spec = cells_bounded family.Low (λ cell. is_some (lower_bound spec cell)) (λ cell. right.Low cell) spec 0 spec.nums
    (λ i n num is at xs. ap (λ (j : ℕ). is_some (option_map_or (λ (m : Num). m.min) (slice_get spec.nums j) None)) (omega (arith, is)) ∙ ap (λ (o : Option Num). is_some (option_map_or (λ (m : Num). m.min) o None)) at)
    (λ n xs. refl)

pub high_are : (spec : Spec) → cell_rights family.High spec 0 spec.nums ≡ high_rights spec
high_are spec = cells_bounded family.High (λ cell. is_some (upper_bound spec cell)) (λ cell. right.High cell) spec 0 spec.nums
    (λ i n num is at xs. ap (λ (j : ℕ). is_some (option_map_or (λ (m : Num). m.max) (slice_get spec.nums j) None)) (omega (arith, is)) ∙ ap (λ (o : Option Num). is_some (option_map_or (λ (m : Num). m.max) o None)) at)
    (λ n xs. refl)

-- ---- entries

-- the places of the atoms among some literals, and among those behind them
side_entries : (i : ℕ) (xs : List ℕ) (sign : Bool) (k m : ℕ) (ls : List Literal) (more : List Signed) → m ≡ k + length ls
    → map (λ n. right.Entry i xs n) (places_from (λ l. is_atom l.literal) k (map (signed sign) ls ++ more)) ≡ entries_from i xs k ls ++ map (λ n. right.Entry i xs n) (places_from (λ l. is_atom l.literal) m more)
side_entries i xs sign k m [] more is = ap (λ (j : ℕ). map (λ (n : ℕ). right.Entry i xs n) (places_from (λ l. is_atom l.literal) j more)) (omega (arith, is))
side_entries i xs sign k m (l ∷ ls) more is =
    let make : ℕ → Right = λ n. right.Entry i xs n in
    let rest = places_from (λ (s : Signed). is_atom s.literal) (suc k) (map (signed sign) ls ++ more) in
    by (is_atom l) rest
    ∙ ap (λ (rs : List Right). entry_where (right.Entry i xs k) l ++ rs) (side_entries i xs sign (suc k) m ls more (omega (arith, is)) ∙ ap (λ (j : ℕ). entries_from i xs j ls ++ map make (places_from (λ (s : Signed). is_atom s.literal) m more)) (sym (add-one k)))
    ∙ sym (append_assoc (entry_where (right.Entry i xs k) l) (entries_from i xs (k + 1) ls) (map make (places_from (λ (s : Signed). is_atom s.literal) m more)))
  where
    by : (b : Bool) (rest : List ℕ) → map (λ n. right.Entry i xs n) (if b then k ∷ rest else rest) ≡ (if b then right.Entry i xs k ∷ [] else []) ++ map (λ n. right.Entry i xs n) rest
    by true rest = refl
    by false rest = refl

-- the entries of an instance are those of its premise, and then those of its conclusion
pub both_sides : (i : ℕ) (c : Clause) (xs : List ℕ) → entries_of i c xs ≡ entries_from i xs 0 c.premise ++ entries_from i xs (length c.premise) c.conclusion
both_sides i c xs =
    side_entries i xs false 0 (length c.premise) c.premise (map (signed true) c.conclusion) (omega arith)
    ∙ ap (λ (rs : List Right). entries_from i xs 0 c.premise ++ rs) (
    ap (λ (ss : List Signed). map (λ (n : ℕ). right.Entry i xs n) (places_from (λ l. is_atom l.literal) (length c.premise) ss)) (sym (append-nil (map (signed true) c.conclusion)))
    ∙ side_entries i xs true (length c.premise) (length c.premise + length c.conclusion) c.conclusion [] refl ∙ append-nil (entries_from i xs (length c.premise) c.conclusion))

-- what a walk lists of one number, lock or partition
pub range_walked : (f : Family) (n : ℕ) (any : Bool) (sizes below front : List ℕ) → any ≡ true → below ≡ sizes → front ≡ [] → flat_map (λ behind. right_at f n (front ++ behind) ∷ []) (tuples below) ≡ rights_below f n any sizes
range_walked f n any sizes below front yes_is same none = rw (yes_is, same, none) (flat_map_single (right_at f n) (tuples sizes))

-- premise and conclusion were listed
pub both_listed : (i : ℕ) (c : Clause) (xs : List ℕ) (out before : List Right) (premise conclusion : List Literal) → premise ≡ c.premise → conclusion ≡ c.conclusion → before ≡ out ++ entries_from i xs 0 premise
    → before ++ entries_from i xs (length premise) conclusion ≡ out ++ entries_of i c xs
both_listed i c xs out before premise conclusion p q first =
    ap (λ (rs : List Right). rs ++ entries_from i xs (length premise) conclusion) first
    ∙ ap (λ (ls : List Literal). (out ++ entries_from i xs 0 ls) ++ entries_from i xs (length ls) conclusion) p
    ∙ ap (λ (ls : List Literal). (out ++ entries_from i xs 0 c.premise) ++ entries_from i xs (length c.premise) ls) q
    ∙ append_assoc out (entries_from i xs 0 c.premise) (entries_from i xs (length c.premise) c.conclusion)
    ∙ ap (λ (rs : List Right). out ++ rs) (sym (both_sides i c xs))

-- a clause that is declared
pub clause_is : (spec : Spec) (i : ℕ) (c : Clause) → Some c ≡ slice_get spec.clauses i → c ≡ clause_in spec i
clause_is spec i c at = sym (get_or_from_slice_get spec.clauses i c no_clause (sym at))

pub few_literals : (spec : Spec) (i : ℕ) (c : Clause) → Some c ≡ slice_get spec.clauses i → IsWellFormed spec → HasFewLiterals c
few_literals spec i c at wf =
    let fits = all_at (ClauseFits spec) spec.clauses i c wf.clauses (slice_get_within spec.clauses i c (sym at)) in
    subst HasFewLiterals (get_or_from_slice_get spec.clauses i c c (sym at)) fits.few_literals

pub entries_walked : (spec : Spec) (i : ℕ) (c : Clause) (vars : List Var) (sizes below front : List ℕ) → Some c ≡ slice_get spec.clauses i → vars ≡ c.vars → sizes ≡ sizes_of spec (map (λ v. v.sort) vars) → below ≡ sizes → front ≡ []
    → flat_map (λ behind. entries_of i c (front ++ behind)) (tuples below) ≡ entry_rights spec i
entries_walked spec i c vars sizes below front at vars_are sizes_are same none =
    ap (λ (ys : List ℕ). flat_map (λ behind. entries_of i c (ys ++ behind)) (tuples below)) none
    ∙ ap (λ (ys : List ℕ). flat_map (entries_of i c) (tuples ys)) (same ∙ sizes_are ∙ ap (λ (vs : List Var). sizes_of spec (map (λ v. v.sort) vs)) vars_are)
    ∙ ap (λ (d : Clause). flat_map (entries_of i d) (tuples (sizes_of spec (var_sorts d)))) (clause_is spec i c at)

-- a clause that isn't declared
missing : (clauses : List Clause) (i : ℕ) → None ≡ slice_get clauses i → get_or clauses i no_clause ≡ no_clause
missing [] i none = refl
missing (c ∷ clauses) zero none = absurd cc
missing (c ∷ clauses) (suc i) none = missing clauses i none

pub no_entries : (spec : Spec) (i : ℕ) (out : List Right) → None ≡ slice_get spec.clauses i → out ≡ out ++ entry_rights spec i
no_entries spec i out none = sym (append-nil out) ∙ ap (λ (d : Clause). out ++ flat_map (entries_of i d) (tuples (sizes_of spec (var_sorts d)))) (sym (missing spec.clauses i none))

pub no_atom : (spec : Spec) (i n : ℕ) → None ≡ slice_get spec.clauses i → has_atom (clause_in spec i) n ≡ false
no_atom spec i n none = ap (λ (d : Clause). has_atom d n) (missing spec.clauses i none)
