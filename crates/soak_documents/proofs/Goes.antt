-- How the schedule goes on, line by line.
use Rattle.std.proofs.Common.{◌≡◌, ℕ, suc, ◌+◌, ◌-◌, ◌<◌, List, [], ◌∷◌, ◌++◌, length, length-append, refl, sym, ap, ◌∙◌, arith}
use Rattle.std.proofs.lemmas.List.{append_assoc, append-nil}
use Rattle.run_model.specs.declared.step.Order.{Order}
use Rattle.soak_documents.specs.Generating.{turn, lines_from, schedule_of}

-- no line was made yet
pub lines_begin : (seed : ℕ) → lines_from 20000 [] 0 seed ≡ schedule_of seed
unfolding schedule_of
lines_begin seed = refl

-- one more line was made
pub lines_next : (number x : ℕ) (before : List Order) (k j : ℕ) → k ≡ suc j
    → (before ++ (turn before number x).order ∷ []) ++ lines_from j (before ++ (turn before number x).order ∷ []) (number + 1) (turn before number x).state ≡ before ++ lines_from k before number x
unfolding lines_from
lines_next number x before k j e =
    append_assoc before ((turn before number x).order ∷ []) (lines_from j (before ++ (turn before number x).order ∷ []) (number + 1) (turn before number x).state)
    ∙ ap (λ (m : ℕ). before ++ lines_from m before number x) (sym e)

-- all lines were made
pub lines_end : (number x : ℕ) (before : List Order) (k : ℕ) → k ≡ 0 → before ++ lines_from k before number x ≡ before
unfolding lines_from
lines_end number x before k e = ap (λ (m : ℕ). before ++ lines_from m before number x) e ∙ append-nil before

-- one more line of a whole schedule
pub schedule_more : (seed number x y : ℕ) (before after : List Order) (order : Order) → number < 20000 → order ≡ (turn before number x).order → y ≡ (turn before number x).state → after ≡ before ++ order ∷ []
    → before ++ lines_from (20000 - number) before number x ≡ schedule_of seed → after ++ lines_from (20000 - (number + 1)) after (number + 1) y ≡ schedule_of seed
schedule_more seed number x y before after order less order_is state_is after_is so_far =
    rw (after_is, order_is, state_is) (lines_next number x before (20000 - number) (20000 - (number + 1)) (omega (arith, less)) ∙ so_far)

pub one_longer : (number : ℕ) (before after : List Order) (order : Order) → after ≡ before ++ order ∷ [] → length before ≡ number → length after ≡ number + 1
one_longer number before after order after_is count = let more = length-append before (order ∷ []) in omega (arith, ap length after_is, more, count)
