-- What becomes of entries where one is changed, or one is added.
use Rattle.std.proofs.Common.{◌≡◌, inl, inr, ℕ, zero, suc, Bool, true, false, List, [], ◌∷◌, length, map, refl, sym, ap, subst, ◌∙◌}
use Rattle.std.specs.Prelude.{Option, Some, None, IsSome, is_some, slice_get, ◌&&◌, Result, Ok, Err, OnOk, OnErr}
use Rattle.std.specs.Map.{lookup, set_value}
use Rattle.std.proofs.lemmas.Option.{same_Some}
use Rattle.std.proofs.lemmas.Bool.{and_parts, cases_Bool, cond-true, cond-false}
use Rattle.indexmap.specs.IndexMap.{insert_entry, set_value_at}
use Rattle.spec_model.specs.declared.right.Right.{Right}
use Rattle.run_model.specs.Rights.{same_right}
use Rattle.rights_table.specs.declared.holding.Holding.{Holding}
use Rattle.rights_table.specs.Entries.{are_of_kind}
use Rattle.rights_table.specs.Holdings.{is_of}
use Rattle.rights_table.specs.Same.{same_is, same_refl}

pub no_some : (h : Holding) → ◌≡◌ {A = Option Holding} (Some h) None → ⊥
no_some h e = absurd cc

-- ---- whether there is one

pub there_is : (o : Option Holding) → is_some o ≡ true → (h : Holding) × (o ≡ Some h)
there_is (Some h) is = (h, refl)
there_is None is = absurd cc

pub there_is_none : (o : Option Holding) → is_some o ≡ false → o ≡ None
there_is_none (Some h) is = absurd cc
there_is_none None is = refl

pub some_is : (o : Option Holding) (h : Holding) → o ≡ Some h → IsSome o
some_is o h is = ap is_some is

-- without entries there is none
pub empty_has : (es : List (Right × Holding)) (r : Right) → length es ≡ 0 → is_some (lookup (same_right r) es) ≡ false
empty_has [] r none = refl
empty_has (e ∷ es) r none = absurd cc

-- ---- kinds

both : (a b : Bool) → a ≡ true → b ≡ true → (a && b) ≡ true
both true b p q = q
both false b p q = absurd cc

-- the holding of a right is of its kind
pub kind_entered : (all : ℕ) (es : List (Right × Holding)) (r : Right) (h : Holding) → are_of_kind all es ≡ true → lookup (same_right r) es ≡ Some h → is_of all r h ≡ true
kind_entered all [] r h kinds is = absurd cc
kind_entered all (e ∷ es) r h kinds is =
    let parts = and_parts (is_of all e.0 e.1) (are_of_kind all es) kinds in
    elim (cases_Bool (same_right r e.0)) [
      | inl same ↦
          let one : e.1 ≡ h = same_Some e.1 h (sym (cond-true (same_right r e.0) (Some e.1) (lookup (same_right r) es) same) ∙ is) in
          subst (λ (k : Holding). is_of all r k ≡ true) one (subst (λ (q : Right). is_of all q e.1 ≡ true) (sym (same_is r e.0 same)) parts.0)
      | inr other ↦ kind_entered all es r h parts.1 (sym (cond-false (same_right r e.0) (Some e.1) (lookup (same_right r) es) other) ∙ is)
    ]

-- with another holding of its kind
pub kinds_set : (all : ℕ) (es : List (Right × Holding)) (r : Right) (h : Holding) → are_of_kind all es ≡ true → is_of all r h ≡ true → are_of_kind all (set_value (same_right r) es h) ≡ true
kinds_set all [] r h kinds one = kinds
kinds_set all (e ∷ es) r h kinds one =
    let parts = and_parts (is_of all e.0 e.1) (are_of_kind all es) kinds in
    elim (cases_Bool (same_right r e.0)) [
      | inl same ↦
          ap (are_of_kind all) (cond-true (same_right r e.0) ((e.0, h) ∷ es) (e ∷ set_value (same_right r) es h) same)
          ∙ both (is_of all e.0 h) (are_of_kind all es) (subst (λ (q : Right). is_of all q h ≡ true) (same_is r e.0 same) one) parts.1
      | inr other ↦
          ap (are_of_kind all) (cond-false (same_right r e.0) ((e.0, h) ∷ es) (e ∷ set_value (same_right r) es h) other)
          ∙ both (is_of all e.0 e.1) (are_of_kind all (set_value (same_right r) es h)) parts.0 (kinds_set all es r h parts.1 one)
    ]

-- with one more
kinds_more : (all : ℕ) (es : List (Right × Holding)) (r : Right) (h : Holding) → are_of_kind all es ≡ true → is_of all r h ≡ true → are_of_kind all (insert_entry same_right es r h) ≡ true
kinds_more all [] r h kinds one = both (is_of all r h) true one refl
kinds_more all (e ∷ es) r h kinds one =
    let parts = and_parts (is_of all e.0 e.1) (are_of_kind all es) kinds in
    elim (cases_Bool (same_right r e.0)) [
      | inl same ↦
          ap (are_of_kind all) (cond-true (same_right r e.0) ((e.0, h) ∷ es) (e ∷ insert_entry same_right es r h) same)
          ∙ both (is_of all e.0 h) (are_of_kind all es) (subst (λ (q : Right). is_of all q h ≡ true) (same_is r e.0 same) one) parts.1
      | inr other ↦
          ap (are_of_kind all) (cond-false (same_right r e.0) ((e.0, h) ∷ es) (e ∷ insert_entry same_right es r h) other)
          ∙ both (is_of all e.0 e.1) (are_of_kind all (insert_entry same_right es r h)) parts.0 (kinds_more all es r h parts.1 one)
    ]

-- or none more, for want of memory
pub kinds_made : {X E : Type 0} (made : Result X E) (all : ℕ) (es new : List (Right × Holding)) (r : Right) (h : Holding) → OnOk made (new ≡ insert_entry same_right es r h) → OnErr made (new ≡ es) → are_of_kind all es ≡ true → is_of all r h ≡ true → are_of_kind all new ≡ true
kinds_made (Ok x) all es new r h ok err kinds one = ap (are_of_kind all) ok ∙ kinds_more all es r h kinds one
kinds_made (Err e) all es new r h ok err kinds one = ap (are_of_kind all) err ∙ kinds

-- ---- the first one

pub first_is : (es : List (Right × Holding)) (r : Right) (h : Holding) → slice_get es 0 ≡ Some (r, h) → lookup (same_right r) es ≡ Some h
first_is [] r h at = absurd cc
first_is (e ∷ es) r h at =
    subst (λ (x : Right × Holding). lookup (same_right r) (x ∷ es) ≡ Some h) (sym (same_Some e (r, h) at)) (cond-true (same_right r r) (Some h) (lookup (same_right r) es) (same_refl r))

pub first_value : (es : List (Right × Holding)) (r : Right) (h : Holding) → slice_get es 0 ≡ Some (r, h) → slice_get (map (λ (e : Right × Holding). e.1) es) 0 ≡ Some h
first_value [] r h at = absurd cc
first_value (e ∷ es) r h at = ap (λ (x : Right × Holding). Some x.1) (same_Some e (r, h) at)

-- with another holding of its kind
pub kinds_first : (all : ℕ) (es : List (Right × Holding)) (r : Right) (before after : Holding) → slice_get es 0 ≡ Some (r, before) → are_of_kind all es ≡ true → is_of all r after ≡ true → are_of_kind all (set_value_at es 0 after) ≡ true
kinds_first all [] r before after at kinds one = absurd cc
kinds_first all (e ∷ es) r before after at kinds one =
    let parts = and_parts (is_of all e.0 e.1) (are_of_kind all es) kinds in
    let it : r ≡ e.0 = sym (ap (λ (x : Right × Holding). x.0) (same_Some e (r, before) at)) in
    both (is_of all e.0 after) (are_of_kind all es) (subst (λ (q : Right). is_of all q after ≡ true) it one) parts.1
