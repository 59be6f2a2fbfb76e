-- Runs that are apart, halved by where they end.
use Rattle.std.proofs.Common.{add-one, ℕ, zero, suc, ◌+◌, ◌<◌, ◌≤◌, List, [], ◌∷◌, take, drop, length, get_or, sym, subst, arith}
use Rattle.std.specs.List.{AllByRecursion}
use Rattle.std.proofs.lemmas.List.{drop_more}
use Rattle.ind_base.specs.declared.span.Span.{Span}
use Rattle.partition_locks.specs.Held.{AreApart}
use Rattle.partition_locks.specs.Edits.{ReachesTo}

-- each ends at the point from which they are apart, or behind it
ends_from : (k from : ℕ) (runs : List Span) (d : Span) → AreApart from runs → k < length runs → from ≤ (get_or runs k d).hi
ends_from k from [] d h lt = absurd (omega arith)
ends_from zero from (run ∷ runs) d h lt = omega (arith, h.0, h.1)
ends_from (suc k) from (run ∷ runs) d h lt =
    let rest = ends_from k (run.hi + 2) runs d h.2 (omega arith) in
    omega (arith, h.0, h.1, rest)

-- where one ends before a point, so do all before it
end_before : (k from x : ℕ) (runs : List Span) (d : Span) → AreApart from runs → k < length runs → (get_or runs k d).hi < x → AllByRecursion (λ (run : Span). run.hi < x) (take (suc k) runs)
end_before k from x [] d h lt e = absurd (omega arith)
end_before zero from x (run ∷ runs) d h lt e = (e, tt)
end_before (suc k) from x (run ∷ runs) d h lt e =
    let rest = ends_from k (run.hi + 2) runs d h.2 (omega arith) in
    (omega (arith, rest, e), end_before k (run.hi + 2) x runs d h.2 (omega arith) e)

-- the same, as a loop has it
pub end_before_next : (k x : ℕ) (runs : List Span) (d : Span) → AreApart 0 runs → k < length runs → (get_or runs k d).hi < x → AllByRecursion (λ (run : Span). run.hi < x) (take (k + 1) runs)
end_before_next k x runs d h lt e = rw (add-one k) (end_before k 0 x runs d h lt e)

-- where one reaches to a point, the first of those from it on does
pub reach_from : (k x : ℕ) (runs : List Span) (d : Span) → k < length runs → x ≤ (get_or runs k d).hi → ReachesTo x (drop k runs)
reach_from k x runs d lt le = subst (ReachesTo x) (sym (drop_more runs k d lt)) le
