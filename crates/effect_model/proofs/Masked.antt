-- What an instance needs on the literals of marked clauses, literal by literal and clause by clause.
use Rattle.std.proofs.Common.{◌≡◌, ℕ, zero, suc, ◌+◌, ◌<◌, ◌≤◌, Bool, true, false, not, ◌||◌, if◌then◌else◌, List, [], ◌∷◌, ◌++◌, map, length, get_or, drop, refl, sym, ap, ◌∙◌, subst, add-one, append_assoc, arith, Option, Some, None}
use Rattle.std.specs.List.{list_any, slice_get, AllByRecursion, flat_map}
use Rattle.std.proofs.lemmas.List.{append-nil, drop_more, drop_all}
use Rattle.std.proofs.lemmas.List.Concat.{flat_map-cons}
use Rattle.std.proofs.lemmas.Option.{slice_get_within, get_or_from_slice_get}
use Rattle.spec_model.specs.declared.clause.Clause.{Clause}
use Rattle.spec_model.specs.declared.clause.Literal.{Literal}
use Rattle.spec_model.specs.declared.instance.Inst.{Inst}
use Rattle.spec_model.specs.declared.operation.Line.{Line}
use Rattle.spec_model.specs.declared.spec.Spec.{Spec}
use Rattle.spec_model.specs.Fits.{marked_from}
use Rattle.spec_model.specs.Masks.{falsifies, is_given, places_from}
use Rattle.spec_model.specs.Truths.{Truths, Signed, signed, literals, op_at}
use Rattle.effect_model.specs.declared.masking.Wanted.{Wanted}
use Rattle.effect_model.specs.Masking.{wanted_needs, wanted_parts}
use Rattle.effect_model.specs.Pruning.{clause_may}
use Rattle.effect_model.proofs.Pruned.{none_falsified}

-- ---- where no line may make a literal of the clause false, nothing is needed

nothing_then : {X : Type 0} (a : Bool) (x y : X) → (if a || true then x else y) ≡ x
nothing_then true x y = refl
nothing_then false x y = refl

-- where the effect makes no literal false
pub unneeded : (wanted : Wanted) (spec : Spec) (inst : Inst) (s : Truths) (i : ℕ) (c : Clause) (xs : List ℕ) → falsifies spec inst xs c ≡ false → wanted_needs wanted spec inst s i c xs ≡ []
unneeded wanted spec inst s i c xs none =
    ap (λ b. if is_given xs c || not b then [] else wanted_parts wanted spec inst s i c xs) none ∙ nothing_then (is_given xs c) [] (wanted_parts wanted spec inst s i c xs)

pub nothing_wanted : (wanted : Wanted) (spec : Spec) (inst : Inst) (s : Truths) (i : ℕ) (c : Clause) (front behind : List ℕ) (lines : List Line) → lines ≡ (op_at spec inst.op).lines → clause_may inst lines front c ≡ false → wanted_needs wanted spec inst s i c (front ++ behind) ≡ []
nothing_wanted wanted spec inst s i c front behind lines is e =
    unneeded wanted spec inst s i c (front ++ behind) (none_falsified spec inst c front behind (sym (ap (λ (ls : List Line). clause_may inst ls front c) is) ∙ e))

-- where equalities make the instance true
pub given_unneeded : (wanted : Wanted) (spec : Spec) (inst : Inst) (s : Truths) (i : ℕ) (c : Clause) (xs : List ℕ) → is_given xs c ≡ true → wanted_needs wanted spec inst s i c xs ≡ []
given_unneeded wanted spec inst s i c xs is = ap (λ b. if b || not (falsifies spec inst xs c) then [] else wanted_parts wanted spec inst s i c xs) is

-- and where they don't
pub wanted_are : (wanted : Wanted) (spec : Spec) (inst : Inst) (s : Truths) (i : ℕ) (c : Clause) (xs : List ℕ) → is_given xs c ≡ false → falsifies spec inst xs c ≡ true → wanted_needs wanted spec inst s i c xs ≡ wanted_parts wanted spec inst s i c xs
wanted_are wanted spec inst s i c xs open_is some =
    ap (λ b. if b || not (falsifies spec inst xs c) then [] else wanted_parts wanted spec inst s i c xs) open_is ∙ ap (λ b. if not b then [] else wanted_parts wanted spec inst s i c xs) some

-- ---- places of literals

drop_found : {X : Type 0} (xs : List X) (i : ℕ) (x : X) → slice_get xs i ≡ Some x → drop i xs ≡ x ∷ drop (i + 1) xs
drop_found xs i x e = drop_more xs i x (slice_get_within xs i x e) ∙ ap (λ y. y ∷ drop (i + 1) xs) (get_or_from_slice_get xs i x x e)

places_here : (test : Signed → Bool) (ls : List Signed) (i : ℕ) (l : Signed) → slice_get ls i ≡ Some l → places_from test i (drop i ls) ≡ (if test l then i ∷ places_from test (i + 1) (drop (i + 1) ls) else places_from test (i + 1) (drop (i + 1) ls))
places_here test ls i l e = ap (places_from test i) (drop_found ls i l e) ∙ ap (λ k. if test l then i ∷ places_from test k (drop (i + 1) ls) else places_from test k (drop (i + 1) ls)) (sym (add-one i))

pub places_kept : (test : Signed → Bool) (ls : List Signed) (i : ℕ) (l : Signed) (before now all : List ℕ) → slice_get ls i ≡ Some l → test l ≡ true → now ≡ before ++ i ∷ [] → before ++ places_from test i (drop i ls) ≡ all → now ++ places_from test (i + 1) (drop (i + 1) ls) ≡ all
places_kept test ls i l before now all found yes_is is so_far =
    let rest = places_from test (i + 1) (drop (i + 1) ls) in
    ap (λ xs. xs ++ rest) is ∙ append_assoc before (i ∷ []) rest ∙ ap (λ xs. before ++ xs) (sym (places_here test ls i l found ∙ ap (λ b. if b then i ∷ rest else rest) yes_is)) ∙ so_far

pub places_skipped : (test : Signed → Bool) (ls : List Signed) (i : ℕ) (l : Signed) (before now all : List ℕ) → slice_get ls i ≡ Some l → test l ≡ false → now ≡ before → before ++ places_from test i (drop i ls) ≡ all → now ++ places_from test (i + 1) (drop (i + 1) ls) ≡ all
places_skipped test ls i l before now all found no_is is so_far =
    let rest = places_from test (i + 1) (drop (i + 1) ls) in
    ap (λ xs. xs ++ rest) is ∙ ap (λ xs. before ++ xs) (sym (places_here test ls i l found ∙ ap (λ b. if b then i ∷ rest else rest) no_is)) ∙ so_far

pub places_end : (test : Signed → Bool) (ls : List Signed) (i : ℕ) (places all : List ℕ) → length ls ≤ i → places ++ places_from test i (drop i ls) ≡ all → places ≡ all
places_end test ls i places all le so_far = sym (append-nil places) ∙ ap (λ (ks : List Signed). places ++ places_from test i ks) (sym (drop_all i ls le)) ∙ so_far

pub places_none : (test : Signed → Bool) (i : ℕ) (ls : List Signed) → length (places_from test i ls) ≡ 0 → list_any test ls ≡ false
places_none test i [] e = refl
places_none test i (l ∷ ls) e = by_test (test l) (places_none test (suc i) ls) e
  where
    by_test : (b : Bool) → (length (places_from test (suc i) ls) ≡ 0 → list_any test ls ≡ false) → length (if b then i ∷ places_from test (suc i) ls else places_from test (suc i) ls) ≡ 0 → (b || list_any test ls) ≡ false
    by_test true rest f = absurd (omega arith)
    by_test false rest f = rest f

pub places_some : (test : Signed → Bool) (i : ℕ) (ls : List Signed) → (length (places_from test i ls) ≡ 0 → ⊥) → list_any test ls ≡ true
places_some test i [] some = absurd (some refl)
places_some test i (l ∷ ls) some = by_test (test l) (places_some test (suc i) ls) some
  where
    by_test : (b : Bool) → ((length (places_from test (suc i) ls) ≡ 0 → ⊥) → list_any test ls ≡ true) → (length (if b then i ∷ places_from test (suc i) ls else places_from test (suc i) ls) ≡ 0 → ⊥) → (b || list_any test ls) ≡ true
    by_test true rest f = refl
    by_test false rest f = rest f

-- ---- clauses

marked_here : (cs : List Clause) (i : ℕ) (c : Clause) → i < length cs → c ≡ get_or cs i c → marked_from i (drop i cs) ≡ (if c.mask then i ∷ marked_from (i + 1) (drop (i + 1) cs) else marked_from (i + 1) (drop (i + 1) cs))
marked_here cs i c lt is =
    let rest = drop (i + 1) cs in
    ap (marked_from i) (drop_more cs i c lt ∙ ap (λ (x : Clause). x ∷ rest) (sym is)) ∙ ap (λ k. if c.mask then i ∷ marked_from k rest else marked_from k rest) (sym (add-one i))

pub mask_listed : {X : Type 0} (f : ℕ → List X) (cs : List Clause) (i : ℕ) (c : Clause) (before now all : List X) → i < length cs → c ≡ get_or cs i c → c.mask ≡ true → now ≡ before ++ f i → before ++ flat_map f (marked_from i (drop i cs)) ≡ all → now ++ flat_map f (marked_from (i + 1) (drop (i + 1) cs)) ≡ all
mask_listed f cs i c before now all lt is marked step so_far =
    let rest = marked_from (i + 1) (drop (i + 1) cs) in
    ap (λ xs. xs ++ flat_map f rest) step ∙ append_assoc before (f i) (flat_map f rest)
    ∙ ap (λ xs. before ++ xs) (sym (ap (flat_map f) (marked_here cs i c lt is ∙ ap (λ b. if b then i ∷ rest else rest) marked) ∙ flat_map-cons f i rest)) ∙ so_far

pub mask_passed : {X : Type 0} (f : ℕ → List X) (cs : List Clause) (i : ℕ) (c : Clause) (before now all : List X) → i < length cs → c ≡ get_or cs i c → c.mask ≡ false → now ≡ before → before ++ flat_map f (marked_from i (drop i cs)) ≡ all → now ++ flat_map f (marked_from (i + 1) (drop (i + 1) cs)) ≡ all
mask_passed f cs i c before now all lt is marked step so_far =
    let rest = marked_from (i + 1) (drop (i + 1) cs) in
    ap (λ xs. xs ++ flat_map f rest) step ∙ ap (λ xs. before ++ xs) (sym (ap (flat_map f) (marked_here cs i c lt is ∙ ap (λ b. if b then i ∷ rest else rest) marked))) ∙ so_far

pub masks_end : {X : Type 0} (f : ℕ → List X) (cs : List Clause) (i : ℕ) (out all : List X) → length cs ≤ i → out ++ flat_map f (marked_from i (drop i cs)) ≡ all → out ≡ all
masks_end f cs i out all le so_far = sym (append-nil out) ∙ ap (λ (ks : List Clause). out ++ flat_map f (marked_from i ks)) (sym (drop_all i cs le)) ∙ so_far

-- ---- literals

abbrev holds_if : (Literal → Type 0) → Option Signed → Type 0
holds_if P None = Unit {0}
holds_if P (Some l) = P l.literal

all_found : (P : Literal → Type 0) (sign : Bool) (ls : List Literal) (more : List Signed) (n : ℕ) (l : Signed) → AllByRecursion P ls → ((m : ℕ) → slice_get more m ≡ Some l → P l.literal) → slice_get (map (signed sign) ls ++ more) n ≡ Some l → P l.literal
all_found P sign [] more n l all behind e = behind n e
all_found P sign (k ∷ ls) more zero l all behind e = subst (holds_if P) e all.0
all_found P sign (k ∷ ls) more (suc n) l all behind e = all_found P sign ls more n l all.1 behind e

-- what holds of all literals of a clause holds of each that is found
pub literal_found : (P : Literal → Type 0) (c : Clause) (n : ℕ) (l : Signed) → AllByRecursion P c.premise → AllByRecursion P c.conclusion → slice_get (literals c) n ≡ Some l → P l.literal
literal_found P c n l premise conclusion e =
    all_found P false c.premise (map (signed true) c.conclusion) n l premise (λ m f. all_found P true c.conclusion [] m l conclusion (λ k none. absurd cc) (rw (append-nil (map (signed true) c.conclusion)) f)) e
