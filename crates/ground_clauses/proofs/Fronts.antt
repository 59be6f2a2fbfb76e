-- Cases that aren't touched by their front.
use Rattle.std.proofs.Common.{◌≡◌, ℕ, zero, ◌+◌, ◌*◌, ◌^◌, Bool, true, false, ◌&&◌, not, cond, List, [], ◌∷◌, ◌++◌, map, refl, sym, ap, append-nil, ◌∙◌}
use Rattle.std.specs.Prelude.{Option}
use Rattle.std.proofs.lemmas.Bool.{true≢false}
use Rattle.std.specs.List.{filter}
use Rattle.ground_clauses.proofs.Listed.{first_end}
use Rattle.ground_clauses.specs.Bits.{bits_number}
use Rattle.ground_clauses.specs.Cases.{bit_lists, case_sets, equalities_true, is_touched_case, over, target_classes, target_of, touched_by, touches}
use Rattle.ground_clauses.specs.Fronts.{front_at, front_of, is_front}
use Rattle.ground_clauses.specs.Listing.{first_bits, second_bits}
use Rattle.ground_clauses.specs.declared.case.Case.{Case}
use Rattle.ground_clauses.specs.declared.case.Target.{Target}
use Rattle.ground_clauses.specs.declared.case.Target.TheVariants.{Clause as of_clause, Locked as of_pred}
use Rattle.spec_model.specs.Truths.{clause_in}
use Rattle.spec_model.specs.declared.clause.Clause.{Clause}
use Rattle.spec_model.specs.declared.spec.Spec.{Spec}

abbrev with_b : Case → ℕ → Case
with_b k n = record { a = k.a; b = k.b; target = k.target; classes = k.classes; bits_a = k.bits_a; bits_b = n }

-- the front is that of each second interval
pub front_kept : (spec : Spec) (k : Case) (n : ℕ) → is_front spec (with_b k n) ≡ is_front spec k
front_kept spec k n = of_target k.target
  where
    of_target : (t : Target) → front_of spec (with_b k n) t ≡ front_of spec k t
    of_target (of_clause t) = refl
    of_target (of_pred p) = refl

without : (e a b : Bool) → (not e && a) ≡ false → (a && b && not e) ≡ false
without true true true h = refl
without true true false h = refl
without true false b h = refl
without false true b h = absurd (true≢false h)
without false false b h = refl

with_front : (e a b : Bool) → (not e && a) ≡ true → b ≡ (a && b && not e)
with_front true a b h = absurd (true≢false (sym h))
with_front false true true h = refl
with_front false true false h = refl
with_front false false b h = absurd (true≢false (sym h))

idle_at : (spec : Spec) (k : Case) (n : ℕ) (t : Target) → front_of spec k t ≡ false → touched_by spec (with_b k n) t ≡ false
idle_at spec k n (of_clause t) h = without (equalities_true (target_of spec k t)) (touches (case_sets spec k).one (target_of spec k t)) (touches (case_sets spec (with_b k n)).other (target_of spec k t)) h
idle_at spec k n (of_pred p) h = absurd (true≢false h)

-- whether a clause is touched goes by the second operation, behind the front
pub behind_front : (spec : Spec) (k : Case) (t : ℕ) → k.target ≡ of_clause t → is_front spec k ≡ true → touches (case_sets spec k).other (target_of spec k t) ≡ is_touched_case spec k
behind_front spec k t is h =
    with_front (equalities_true (target_of spec k t)) (touches (case_sets spec k).one (target_of spec k t)) (touches (case_sets spec k).other (target_of spec k t)) (sym (ap (front_of spec k) is) ∙ h)
    ∙ sym (ap (touched_by spec k) is)

none_touched : (spec : Spec) (k : Case) (bss : List (List Bool)) → is_front spec k ≡ false → filter (is_touched_case spec) (map (λ bb. with_b k (k.bits_b + 2 ^ 0 * bits_number bb)) bss) ≡ []
none_touched spec k [] h = refl
none_touched spec k (bs ∷ bss) h =
    let rest : List Case = filter (is_touched_case spec) (map (λ bb. with_b k (k.bits_b + 2 ^ 0 * bits_number bb)) bss) in
    ap (λ b. cond b (with_b k (k.bits_b + 2 ^ 0 * bits_number bs) ∷ rest) rest) (idle_at spec k (k.bits_b + 2 ^ 0 * bits_number bs) k.target h) ∙ none_touched spec k bss h

-- without its front no case is touched
idle_front : (spec : Spec) (k : Case) (class second : ℕ) → is_front spec k ≡ false → filter (is_touched_case spec) (first_bits k class 0 second) ≡ []
idle_front spec k class second h = ap (filter (is_touched_case spec)) (first_end k class second) ∙ none_touched spec k (bit_lists second) h

pub idle_listed : (spec : Spec) (k : Case) (class count second : ℕ) (old : List Case) → count ≡ 0 → is_front spec k ≡ false → old ≡ old ++ filter (is_touched_case spec) (first_bits k class count second)
idle_listed spec k class count second old none idle =
    sym (append-nil old) ∙ ap (λ xs. old ++ xs) (sym (ap (λ n. filter (is_touched_case spec) (first_bits k class n second)) none ∙ idle_front spec k class second idle))

-- ---- a clause at the target's classes

pub touched_at : (sets more : ℕ → List ℕ → Option Bool) (c d : Clause) (cs ds : List ℕ) (r : Bool) → r ≡ touches sets (over c cs) → sets ≡ more → c ≡ d → cs ≡ ds → r ≡ touches more (over d ds)
touched_at sets more c d cs ds r found same clause classes =
    found ∙ ap (λ s. touches s (over c cs)) same ∙ ap (λ x. touches more (over x cs)) clause ∙ ap (λ xs. touches more (over d xs)) classes

pub front_found : (spec : Spec) (k : Case) (t : ℕ) (e r : Bool) (c : Clause) (cs : List ℕ) (one : ℕ → List ℕ → Option Bool) → c ≡ clause_in spec t → cs ≡ target_classes spec k → one ≡ (case_sets spec k).one
    → e ≡ equalities_true (over c cs) → e ≡ false → r ≡ touches one (over c cs) → r ≡ front_at spec k t
front_found spec k t e r c cs one clause classes same is isnt found =
    touched_at one (case_sets spec k).one c (clause_in spec t) cs (target_classes spec k) r found same clause classes
    ∙ ap (λ b. not b && touches (case_sets spec k).one (target_of spec k t))
    (sym isnt ∙ is ∙ ap (λ x. equalities_true (over x cs)) clause ∙ ap (λ xs. equalities_true (over (clause_in spec t) xs)) classes)
