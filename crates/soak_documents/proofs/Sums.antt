-- Totals of parts.
use Rattle.std.proofs.Common.{◌≡◌, ℕ, ◌+◌, ◌*◌, ◌<◌, ◌≤◌, List, [], ◌∷◌, ◌++◌, length, refl, sym, ap, ◌∙◌, arith, take, get_or}
use Rattle.std.proofs.lemmas.List.{take_more}
use Rattle.std.proofs.lemmas.List.Sums.{sum_by-append, sum_by-cons}
use Rattle.run_model.specs.declared.step.Outcome.{Outcome}
use Rattle.run_model.specs.declared.step.StepEntry.{StepEntry}
use Rattle.soak_documents.specs.declared.totals.Totals.{Totals}
use Rattle.soak_documents.specs.Totals as totals
use Rattle.soak_documents.specs.Totals.{total, AreAtMost}

pub same : (a b c d e f g a' b' c' d' e' f' g' : ℕ) → a ≡ a' → b ≡ b' → c ≡ c' → d ≡ d' → e ≡ e' → f ≡ f' → g ≡ g'
    → let one : Totals = record { done = a; short = b; breaks = c; down = d; applied = e; accepted = f; gave = g } in
    let other : Totals = record { done = a'; short = b'; breaks = c'; down = d'; applied = e'; accepted = f'; gave = g' } in
    one ≡ other
same a b c d e f g a' b' c' d' e' f' g' p q r s t u v = rw (p, q, r, s, t, u, v) refl

pub total-append : (m : Outcome → ℕ) (xs ys : List StepEntry) → total m (xs ++ ys) ≡ total m xs + total m ys
unfolding total
total-append m xs ys = sum_by-append (λ (e : StepEntry). m e.outcome) xs ys

total-one : (m : Outcome → ℕ) (e : StepEntry) → total m (e ∷ []) ≡ m e.outcome
unfolding total
total-one m e = omega (arith, sum_by-cons (λ (x : StepEntry). m x.outcome) e [])

-- of no steps
pub none_total : totals.of_entries [] ≡ totals.none
unfolding total
none_total = refl

pub none_small : AreAtMost (4294967295 * 0) totals.none
none_small = record { done = omega arith; short = omega arith; breaks = omega arith; down = omega arith; applied = omega arith; accepted = omega arith; gave = omega arith }

-- the totals of two parts, one behind the other
pub parts_together : (xs ys : List StepEntry) → totals.of_entries (xs ++ ys) ≡ totals.plus (totals.of_entries xs) (totals.of_entries ys)
parts_together xs ys =
    same _ _ _ _ _ _ _ _ _ _ _ _ _ _
    (total-append (λ o. (totals.of_outcome o).done) xs ys) (total-append (λ o. (totals.of_outcome o).short) xs ys) (total-append (λ o. (totals.of_outcome o).breaks) xs ys) (total-append (λ o. (totals.of_outcome o).down) xs ys)
    (total-append (λ o. (totals.of_outcome o).applied) xs ys) (total-append (λ o. (totals.of_outcome o).accepted) xs ys) (total-append (λ o. (totals.of_outcome o).gave) xs ys)

one_entry : (e : StepEntry) → totals.of_entries (e ∷ []) ≡ totals.of_outcome e.outcome
one_entry e =
    same _ _ _ _ _ _ _ _ _ _ _ _ _ _
    (total-one (λ o. (totals.of_outcome o).done) e) (total-one (λ o. (totals.of_outcome o).short) e) (total-one (λ o. (totals.of_outcome o).breaks) e) (total-one (λ o. (totals.of_outcome o).down) e)
    (total-one (λ o. (totals.of_outcome o).applied) e) (total-one (λ o. (totals.of_outcome o).accepted) e) (total-one (λ o. (totals.of_outcome o).gave) e)

-- the totals of one entry more
pub entry_more : (xs : List StepEntry) (e : StepEntry) → totals.of_entries (xs ++ e ∷ []) ≡ totals.plus (totals.of_entries xs) (totals.of_outcome e.outcome)
entry_more xs e = parts_together xs (e ∷ []) ∙ ap (λ (t : Totals). totals.plus (totals.of_entries xs) t) (one_entry e)

-- bounds add up
pub plus_small : (a b : Totals) (m n k : ℕ) → AreAtMost m a → AreAtMost n b → m + n ≤ k → AreAtMost k (totals.plus a b)
plus_small a b m n k p q le = record {
  done = omega (arith, p.done, q.done, le);
  short = omega (arith, p.short, q.short, le);
  breaks = omega (arith, p.breaks, q.breaks, le);
  down = omega (arith, p.down, q.down, le);
  applied = omega (arith, p.applied, q.applied, le);
  accepted = omega (arith, p.accepted, q.accepted, le);
  gave = omega (arith, p.gave, q.gave, le);
}

-- a bound may rise
pub still_small : (a : Totals) (m k : ℕ) → AreAtMost m a → m ≤ k → AreAtMost k a
still_small a m k p le = record {
  done = omega (arith, p.done, le);
  short = omega (arith, p.short, le);
  breaks = omega (arith, p.breaks, le);
  down = omega (arith, p.down, le);
  applied = omega (arith, p.applied, le);
  accepted = omega (arith, p.accepted, le);
  gave = omega (arith, p.gave, le);
}

-- the totals go on by one entry of a list
pub entry_at : (es : List StepEntry) (i : ℕ) (e : StepEntry) (sum one more : Totals) → i < length es → e ≡ get_or es i e → sum ≡ totals.of_entries (take i es) → one ≡ totals.of_outcome e.outcome → more ≡ totals.plus sum one
    → more ≡ totals.of_entries (take (i + 1) es)
entry_at es i e sum one more lt is sum_is one_is more_is =
    let split : take (i + 1) es ≡ take i es ++ e ∷ [] = take_more es i e lt ∙ ap (λ (k : StepEntry). take i es ++ k ∷ []) (sym is) in
    let joined : totals.plus sum one ≡ totals.plus (totals.of_entries (take i es)) (totals.of_outcome e.outcome) = rw (sum_is, one_is) refl in
    more_is ∙ joined ∙ sym (entry_more (take i es) e) ∙ ap totals.of_entries (sym split)
