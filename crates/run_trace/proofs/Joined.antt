-- Joining two lists of entries in order.
use Rattle.std.proofs.Common.{◌≡◌, ◌≢◌, ◌⊎◌, inl, inr, ℕ, ◌+◌, ◌<◌, ◌≤◌, List, [], ◌∷◌, ◌++◌, length, get_or, drop, map, refl, sym, ap, subst, ◌∙◌, append_assoc, arith, Bor}
use Rattle.std.proofs.lemmas.List.{append-nil, drop_all, drop_more, map-append}
use Rattle.run_model.specs.declared.step.StepEntry.{StepEntry}
use Rattle.run_model.specs.Runs.{Precedes, PrecedesFirst, InOrder}
use Rattle.run_trace.specs.Merging.{Merges, AreApart}

-- what is out so far, and what is left of both
pub record IsJoining (a b out xs ys : List StepEntry) : Type 0 where
  pub joins : (c : List StepEntry) → Merges xs ys c → Merges a b (out ++ c)
  pub left : InOrder (out ++ xs)
  pub right : InOrder (out ++ ys)
  pub apart : AreApart xs ys

pub joining_none : (a b : List StepEntry) → InOrder a → InOrder b → AreApart a b → IsJoining a b [] a b
joining_none a b h k apart = record { joins = λ c m. m; left = h; right = k; apart = apart }

-- an entry that comes before what follows may stand between
between : (out : List StepEntry) (x : StepEntry) (xs ys : List StepEntry) → InOrder (out ++ x ∷ xs) → InOrder (out ++ ys) → PrecedesFirst x ys → InOrder (out ++ x ∷ ys)
between [] x xs ys h k first = (first, k)
between (w ∷ []) x xs ys h k first = (h.0, between [] x xs ys h.1 k.1 first)
between (w ∷ v ∷ ws) x xs ys h k first = (h.0, between (v ∷ ws) x xs ys h.1 k.1 first)

moved : (out : List StepEntry) (x : StepEntry) (xs : List StepEntry) → InOrder (out ++ x ∷ xs) → InOrder ((out ++ x ∷ []) ++ xs)
moved out x xs h = rw append_assoc h

pub take_left : (a b out : List StepEntry) (x y : StepEntry) (xs ys : List StepEntry) → IsJoining a b out (x ∷ xs) (y ∷ ys) → Precedes x y → IsJoining a b (out ++ x ∷ []) xs (y ∷ ys)
take_left a b out x y xs ys h first = record {
  joins = λ c m. rw append_assoc (h.joins (x ∷ c) (inl (xs, refl, m)));
  left = moved out x xs h.left;
  right = moved out x (y ∷ ys) (between out x xs (y ∷ ys) h.left h.right first);
  apart = h.apart.1;
}

apart_rest : (xs : List StepEntry) (y : StepEntry) (ys : List StepEntry) → AreApart xs (y ∷ ys) → AreApart xs ys
apart_rest [] y ys h = tt
apart_rest (x ∷ xs) y ys h = (h.0.1, apart_rest xs y ys h.1)

pub take_right : (a b out : List StepEntry) (x y : StepEntry) (xs ys : List StepEntry) → IsJoining a b out (x ∷ xs) (y ∷ ys) → Precedes y x → IsJoining a b (out ++ y ∷ []) (x ∷ xs) ys
take_right a b out x y xs ys h first = record {
  joins = λ c m. rw append_assoc (h.joins (y ∷ c) (inr (ys, refl, m)));
  left = moved out y (x ∷ xs) (between out y ys (x ∷ xs) h.right h.left first);
  right = moved out y ys h.right;
  apart = apart_rest (x ∷ xs) y ys h.apart;
}

only_left : (xs : List StepEntry) → Merges xs [] xs
only_left [] = (refl, refl)
only_left (x ∷ xs) = inl (xs, refl, only_left xs)

only_right : (ys : List StepEntry) → Merges [] ys ys
only_right [] = (refl, refl)
only_right (y ∷ ys) = inr (ys, refl, only_right ys)

-- where one of them has no more, the other is put behind
joined : (a b out xs ys : List StepEntry) → (length xs ≡ 0) ⊎ (length ys ≡ 0) → IsJoining a b out xs ys → Merges a b ((out ++ xs) ++ ys) × InOrder ((out ++ xs) ++ ys)
joined a b out [] ys end h = (subst (λ (o : List StepEntry). Merges a b (o ++ ys)) (sym (append-nil out)) (h.joins ys (only_right ys)), subst (λ (o : List StepEntry). InOrder (o ++ ys)) (sym (append-nil out)) h.right)
joined a b out (x ∷ xs) [] end h = (rw append-nil (h.joins (x ∷ xs) (only_left (x ∷ xs))), rw append-nil h.left)
joined a b out (x ∷ xs) (y ∷ ys) (inl e) h = absurd (omega arith)
joined a b out (x ∷ xs) (y ∷ ys) (inr e) h = absurd (omega arith)

-- ---- the same of entries that are read where they stand

abbrev pub those : List (Bor StepEntry) → List StepEntry
those es = map (λ e. e.now) es

-- what is out, and one more
one_more : (out : List (Bor StepEntry)) (x : Bor StepEntry) → those (out ++ x ∷ []) ≡ those out ++ x.now ∷ []
one_more out x = map-append (λ (e : Bor StepEntry). e.now) out (x ∷ [])

-- those from one on
from_one : (xs : List (Bor StepEntry)) (i : ℕ) (x : Bor StepEntry) → i < length xs → x ≡ get_or xs i x → those (drop i xs) ≡ x.now ∷ those (drop (i + 1) xs)
from_one xs i x lt is = ap those (drop_more xs i x lt ∙ ap (λ (e : Bor StepEntry). e ∷ drop (i + 1) xs) (sym is))

pub took_left : (a b : List StepEntry) (out xs ys : List (Bor StepEntry)) (i j : ℕ) (x y : Bor StepEntry) → i < length xs → j < length ys → x ≡ get_or xs i x → y ≡ get_or ys j y → Precedes x.now y.now → IsJoining a b (those out) (those (drop i xs)) (those (drop j ys)) → IsJoining a b (those (out ++ x ∷ [])) (those (drop (i + 1) xs)) (those (drop j ys))
took_left a b out xs ys i j x y some more is-x is-y first h =
    let split-x = from_one xs i x some is-x in
    let split-y = from_one ys j y more is-y in
    let split : IsJoining a b (those out) (x.now ∷ those (drop (i + 1) xs)) (y.now ∷ those (drop (j + 1) ys)) = subst (λ (zs : List StepEntry). IsJoining a b (those out) (x.now ∷ those (drop (i + 1) xs)) zs) split-y (subst (λ (zs : List StepEntry). IsJoining a b (those out) zs (those (drop j ys))) split-x h) in
    let taken = take_left a b (those out) x.now y.now (those (drop (i + 1) xs)) (those (drop (j + 1) ys)) split first in
    subst (λ (o : List StepEntry). IsJoining a b o (those (drop (i + 1) xs)) (those (drop j ys))) (sym (one_more out x)) (subst (λ (zs : List StepEntry). IsJoining a b (those out ++ x.now ∷ []) (those (drop (i + 1) xs)) zs) (sym split-y) taken)

pub took_right : (a b : List StepEntry) (out xs ys : List (Bor StepEntry)) (i j : ℕ) (x y : Bor StepEntry) → i < length xs → j < length ys → x ≡ get_or xs i x → y ≡ get_or ys j y → (x.now.replica ≢ y.now.replica → Precedes y.now x.now) → IsJoining a b (those out) (those (drop i xs)) (those (drop j ys)) → IsJoining a b (those (out ++ y ∷ [])) (those (drop i xs)) (those (drop (j + 1) ys))
took_right a b out xs ys i j x y some more is-x is-y first h =
    let split-x = from_one xs i x some is-x in
    let split-y = from_one ys j y more is-y in
    let split : IsJoining a b (those out) (x.now ∷ those (drop (i + 1) xs)) (y.now ∷ those (drop (j + 1) ys)) = subst (λ (zs : List StepEntry). IsJoining a b (those out) (x.now ∷ those (drop (i + 1) xs)) zs) split-y (subst (λ (zs : List StepEntry). IsJoining a b (those out) zs (those (drop j ys))) split-x h) in
    let taken = take_right a b (those out) x.now y.now (those (drop (i + 1) xs)) (those (drop (j + 1) ys)) split (first split.apart.0.0) in
    subst (λ (o : List StepEntry). IsJoining a b o (those (drop i xs)) (those (drop (j + 1) ys))) (sym (one_more out y)) (subst (λ (zs : List StepEntry). IsJoining a b (those out ++ y.now ∷ []) zs (those (drop (j + 1) ys))) (sym split-x) taken)

both_behind : (out xs ys : List (Bor StepEntry)) → those ((out ++ xs) ++ ys) ≡ (those out ++ those xs) ++ those ys
both_behind out xs ys = map-append (λ (e : Bor StepEntry). e.now) (out ++ xs) ys ∙ ap (λ (o : List StepEntry). o ++ those ys) (map-append (λ (e : Bor StepEntry). e.now) out xs)

none_from : (xs : List (Bor StepEntry)) (i : ℕ) → length xs ≤ i → length (those (drop i xs)) ≡ 0
none_from xs i le = ap (λ (es : List (Bor StepEntry)). length (those es)) (drop_all i xs le)

pub joined_from : (a b : List StepEntry) (out xs ys : List (Bor StepEntry)) (i j : ℕ) → (length xs ≤ i) ⊎ (length ys ≤ j) → IsJoining a b (those out) (those (drop i xs)) (those (drop j ys))
    → Merges a b (those ((out ++ drop i xs) ++ drop j ys)) × InOrder (those ((out ++ drop i xs) ++ drop j ys))
joined_from a b out xs ys i j end h =
    let ends : (length (those (drop i xs)) ≡ 0) ⊎ (length (those (drop j ys)) ≡ 0) = elim end [ inl e ↦ inl (none_from xs i e) | inr e ↦ inr (none_from ys j e) ] in
    subst (λ (o : List StepEntry). Merges a b o × InOrder o) (sym (both_behind out (drop i xs) (drop j ys))) (joined a b (those out) (those (drop i xs)) (those (drop j ys)) ends h)
