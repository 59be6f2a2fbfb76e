-- Drawing consequences step by step.
use Rattle.std.proofs.Common.{◌≡◌, ◌≢◌, ℕ, ◌+◌, ◌<◌, List, [], ◌∷◌, length, refl, sym, ap, subst, ◌∙◌, inl, inr, arith}
use Rattle.std.specs.Prelude.{slice_get, Some, None}
use Rattle.std.proofs.lemmas.Bool.{cases_eq, cases_lt}
use Rattle.std.proofs.lemmas.Option.{slice_get_past}
use Rattle.ground_clauses.specs.declared.clauses.Lit.{Lit}
use Rattle.clause_solver.proofs.Steps.{none_undone}
use Rattle.clause_solver.specs.Assigning.{kind_of, left, value_at}
use Rattle.clause_solver.specs.Search.{IsConflict, KnownBelow, Moves}
use Rattle.clause_solver.specs.Trails.{Grows, IsTrail}
use Rattle.clause_solver.specs.declared.assignment.Left.TheVariants.{Nothing, One}
use Rattle.clause_solver.specs.declared.assignment.Trail.{Trail}
use Rattle.clause_solver.specs.declared.assignment.Value.{Value}
use Rattle.clause_solver.specs.declared.assignment.Value.TheVariants.{Open}

pub moves_none : (rows : List (List Lit)) (t : Trail) → IsTrail rows t → Moves rows t t
moves_none rows t is = record { trail = is; grows = record { size = refl; stays = λ u e. e } }

pub moves_then : (rows : List (List Lit)) (a b c : Trail) → Moves rows a b → Moves rows b c → Moves rows a c
moves_then rows a b c m n = record {
  trail = n.trail;
  grows = record { size = n.grows.size ∙ m.grows.size; stays = λ u e. m.grows.stays u (n.grows.stays u e) };
}

-- what is done doesn't matter
pub moves_done : (rows : List (List Lit)) (a b c : Trail) → c.values ≡ b.values → b.entries ≡ c.entries → Moves rows a b → Moves rows a c
moves_done rows a b c values entries m = record {
  trail = none_undone rows b c entries values m.trail;
  grows = record { size = ap length values ∙ m.grows.size; stays = λ u e. m.grows.stays u (ap (λ vs. value_at vs u) (sym values) ∙ e) };
}

pub known_then : (n : ℕ) (a b : Trail) → Grows a b → KnownBelow n a.values → KnownBelow n b.values
known_then n a b grows known u lt e = known u lt (grows.stays u e)

pub known_more : (n : ℕ) (values : List Value) → KnownBelow n values → value_at values n ≢ Open → KnownBelow (n + 1) values
known_more n values known here u lt e = elim (cases_eq u n) [
  | inl same ↦ here (ap (value_at values) (sym same) ∙ e)
  | inr other ↦ known u (omega (arith, other)) e
]

kind_nothing : (xs : List Lit) → kind_of xs ≡ Nothing → xs ≡ []
kind_nothing [] e = refl
kind_nothing (x ∷ []) e = cc
kind_nothing (x ∷ (y ∷ more)) e = cc

kind_one : (xs : List Lit) (x : Lit) → kind_of xs ≡ One x → xs ≡ x ∷ []
kind_one [] x e = cc
kind_one (y ∷ []) x e = cc
kind_one (y ∷ (z ∷ more)) x e = cc

pub conflict_found : (rows : List (List Lit)) (values : List Value) (r : ℕ) (c : List Lit) → slice_get rows r ≡ Some c → kind_of (left values c) ≡ Nothing → IsConflict rows values r
conflict_found rows values r c get is = (c, get, kind_nothing (left values c) is)

pub one_left : (rows : List (List Lit)) (values : List Value) (r : ℕ) (c : List Lit) (x : Lit) → slice_get rows r ≡ Some c → kind_of (left values c) ≡ One x
    → (d : List Lit) × (slice_get rows r ≡ Some d) × (left values d ≡ x ∷ [])
one_left rows values r c x get is = (c, get, kind_one (left values c) x is)

pub conflict_kind : (rows : List (List Lit)) (values : List Value) (r : ℕ) (c : List Lit) → slice_get rows r ≡ Some c → IsConflict rows values r → kind_of (left values c) ≡ Nothing
conflict_kind rows values r c get is = ap kind_of (let e : left values c ≡ left values is.0 = ap (left values) cc in e) ∙ ap kind_of is.2

pub conflict_past : (rows : List (List Lit)) (values : List Value) (r : ℕ) → slice_get rows r ≡ None → IsConflict rows values r → ⊥
conflict_past rows values r get is = cc

pub none_more : (P : ℕ → Type 0) (n : ℕ) → ((r : ℕ) → r < n → P r → ⊥) → (P n → ⊥) → (r : ℕ) → r < n + 1 → P r → ⊥
none_more P n below here r lt is = elim (cases_eq r n) [
  | inl same ↦ here (subst P same is)
  | inr other ↦ below r (omega (arith, other)) is
]

conflict_within : (rows : List (List Lit)) (values : List Value) (r : ℕ) → IsConflict rows values r → r < length rows
conflict_within rows values r is = elim (cases_lt r (length rows)) [
  | inl lt ↦ lt
  | inr le ↦ absurd (let past : slice_get rows r ≡ None = slice_get_past rows r le in conflict_past rows values r past is)
]

pub none_at_all : (rows : List (List Lit)) (values : List Value) → ((r : ℕ) → r < length rows → IsConflict rows values r → ⊥) → (r : ℕ) → IsConflict rows values r → ⊥
none_at_all rows values below r is = below r (conflict_within rows values r is) is
