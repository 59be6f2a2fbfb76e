-- The maximal runs of the numbers that pass.
use Rattle.std.proofs.Common.{filter, ◌≡◌, inl, inr, ℕ, zero, suc, ◌+◌, ◌-◌, ◌<◌, ◌≤◌, Bool, true, false, List, [], ◌∷◌, ◌++◌, refl, sym, ap, subst, ◌∙◌, arith}
use Rattle.std.specs.Prelude.{◌==◌}
use Rattle.std.proofs.lemmas.Bool.{cases_lt, cond_both, cond-true, cond-false, ne_eqb, eq-eqb}
use Rattle.ind_base.specs.declared.span.Span.{Span}
use Rattle.run_model.specs.Points.{with_point, runs_of}
use Rattle.partition_locks.proofs.Rows.{row, between, between_more, between_none, skip, kept}

-- the first, if there is one, is above b
abbrev pub StartsAbove : ℕ → List ℕ → Type 0
StartsAbove b [] = Unit {0}
StartsAbove b (z ∷ zs) = b < z

starts : (P : ℕ → Bool) (a n b : ℕ) → b < a → StartsAbove b (filter P (row a n))
starts P a zero b lt = tt
starts P a (suc n) b lt =
    cond_both (P a) (a ∷ filter P (row (a + 1) n)) (filter P (row (a + 1) n)) (StartsAbove b) (λ yes. lt) (λ no. starts P (a + 1) n b (omega (arith, lt)))

-- those that pass from c on, where c fails
pub starts_behind : (P : ℕ → Bool) (c e : ℕ) → P c ≡ false → StartsAbove c (filter P (between c e))
starts_behind P c e fails =
    elim (cases_lt c e) [
      | inl lt ↦ subst (StartsAbove c) (sym (ap (filter P) (between_more c e lt) ∙ cond-false (P c) (c ∷ filter P (between (c + 1) e)) (filter P (between (c + 1) e)) fails)) (starts P (c + 1) (e - (c + 1)) c (omega arith))
      | inr le ↦ subst (λ (xs : List ℕ). StartsAbove c (filter P xs)) (sym (between_none c e le)) tt
    ]

apart_front : (x z : ℕ) (runs : List Span) → x + 1 < z → with_point x (with_point z runs) ≡ record { lo = x; hi = x } ∷ with_point z runs
apart_front x z [] lt =
    let one : Span = record { lo = x; hi = x } in
    let next : Span = record { lo = z; hi = z } in
    let joined : Span = record { lo = x; hi = z } in
    cond-false (z == x + 1) (joined ∷ []) (one ∷ (next ∷ [])) (ne_eqb z (x + 1) (λ e. omega (arith, e, lt)))
apart_front x z (run ∷ runs) lt =
    let one : Span = record { lo = x; hi = x } in
    let next : Span = record { lo = z; hi = z } in
    let wide : Span = record { lo = z; hi = run.hi } in
    let joined : Span = record { lo = x; hi = z } in
    let more : Span = record { lo = x; hi = run.hi } in
    cond_both (run.lo == z + 1) (wide ∷ runs) (next ∷ (run ∷ runs)) (λ (r : List Span). with_point x r ≡ one ∷ r)
    (λ yes. cond-false (z == x + 1) (more ∷ runs) (one ∷ (wide ∷ runs)) (ne_eqb z (x + 1) (λ e. omega (arith, e, lt))))
    (λ no. cond-false (z == x + 1) (joined ∷ (run ∷ runs)) (one ∷ (next ∷ (run ∷ runs))) (ne_eqb z (x + 1) (λ e. omega (arith, e, lt))))

alone : (x : ℕ) (zs : List ℕ) → StartsAbove (x + 1) zs → with_point x (runs_of zs) ≡ record { lo = x; hi = x } ∷ runs_of zs
alone x [] above = refl
alone x (z ∷ zs) above = apart_front x z (runs_of zs) above

-- numbers in a row, and others behind a gap
block : (d c h : ℕ) (zs : List ℕ) → h ≡ c + d → StartsAbove (h + 1) zs → runs_of (between c (h + 1) ++ zs) ≡ record { lo = c; hi = h } ∷ runs_of zs
block zero c h zs is above =
    let it : c ≡ h = omega (arith, is) in
    let one : between c (h + 1) ≡ c ∷ [] = between_more c (h + 1) (omega (arith, is)) ∙ ap (λ (xs : List ℕ). c ∷ xs) (between_none (c + 1) (h + 1) (omega (arith, is))) in
    let span : ℕ → Span = λ y. record { lo = c; hi = y } in
    ap (λ (xs : List ℕ). runs_of (xs ++ zs)) one
    ∙ (alone c zs (subst (λ (y : ℕ). StartsAbove (y + 1) zs) (sym it) above)
    ∙ ap (λ (y : ℕ). span y ∷ runs_of zs) it)
block (suc d) c h zs is above =
    let whole : Span = record { lo = c; hi = h } in
    let one : Span = record { lo = c; hi = c } in
    let rest : Span = record { lo = c + 1; hi = h } in
    ap (λ (xs : List ℕ). runs_of (xs ++ zs)) (between_more c (h + 1) (omega (arith, is)))
    ∙ (ap (with_point c) (block d (c + 1) h zs (omega (arith, is)) above)
    ∙ cond-true (c + 1 == c + 1) (whole ∷ runs_of zs) (one ∷ (rest ∷ runs_of zs)) (eq-eqb (c + 1) (c + 1) refl))

-- none passes before b, each from there up to h, and then there is a gap
pub first_block : (P : ℕ → Bool) (a e b h : ℕ) → a ≤ b → b ≤ h → h < e → ((y : ℕ) → a ≤ y → y < b → P y ≡ false) → ((y : ℕ) → b ≤ y → y ≤ h → P y ≡ true)
    → StartsAbove (h + 1) (filter P (between (h + 1) e)) → runs_of (filter P (between a e)) ≡ record { lo = b; hi = h } ∷ runs_of (filter P (between (h + 1) e))
first_block P a e b h low wide high gap here above =
    ap runs_of (skip P (b - a) a b e (omega (arith, low)) (omega (arith, wide, high)) gap
    ∙ kept P ((h + 1) - b) b (h + 1) e (omega (arith, wide)) (omega (arith, high)) (λ y l r. here y l (omega (arith, r))))
    ∙ block (h - b) b h (filter P (between (h + 1) e)) (omega (arith, wide)) above
