-- What each write of a fresh start leaves.
use Rattle.std.proofs.Common.{◌≡◌, ◌≢◌, inl, inr, ℕ, ◌≤◌, ◌<◌, List, [], ◌∷◌, ◌++◌, length, take, drop, refl, sym, ◌∙◌, ap, subst, arith, length-drop, Result, Ok, Err}
use Rattle.std.specs.Prelude.{OnOk}
use Rattle.std.proofs.lemmas.Bool.{cases_eq}
use Rattle.std.proofs.lemmas.List.{drop_all}
use Rattle.ind_disk.specs.Disk.{Holds, Torn}
use Rattle.rights_journal.specs.Image.{magic, IsUnfinished}
use Rattle.rights_journal.specs.Afresh.{IsFresh, IsShut, IsNew}

-- a write of the first byte leaves any first byte
pub first_torn : (old c : List ℕ) → 1 ≤ length old → Torn 0 1 old c → (x : ℕ) × (c ≡ x ∷ drop 1 old)
first_torn old [] long torn = absurd (omega (arith, long, torn.no_shorter))
first_torn old (x ∷ c) long torn = (x, ap (λ (l : List ℕ). x ∷ l) torn.after)

-- any first byte before the magic and a closed gate
pub headed : (x last : ℕ) → last ≢ 1 → IsFresh ((x ∷ magic) ++ last ∷ [])
headed x last shut = elim (cases_eq x 1) [
  | inl is_open ↦ record { none = inr (last, [], ap (λ (n : ℕ). (n ∷ magic) ++ last ∷ []) is_open, shut); size = omega arith }
  | inr other ↦ record { none = inl (inr (inr (x, last, refl, other, shut))); size = omega arith }
]

pub unfinished_short : (c : List ℕ) → IsUnfinished c → length c ≤ 10
unfinished_short c (inl short) = omega (arith, short)
unfinished_short c (inr (inl (rest, is, short))) = omega (arith, ap length is, short)
unfinished_short c (inr (inr (first, last, is, a, b))) = omega (arith, ap length is)

pub unfinished_fresh : (c : List ℕ) → IsUnfinished c → IsFresh c
unfinished_fresh c un = record { none = inl un; size = unfinished_short c un }

-- the write of a closed gate, where it isn't left out
pub torn_shut : (old c : List ℕ) → IsUnfinished old → ((rest : List ℕ) → old ≡ 0 ∷ rest → length rest ≤ 0) → Torn 0 1 old c → IsFresh c
torn_shut old c (inl short) none torn = unfinished_fresh c (inl (omega (arith, short, torn.no_longer)))
torn_shut old c (inr (inl (rest, is, short))) none torn = unfinished_fresh c (inl (omega (arith, ap length is, none rest is, torn.no_longer)))
torn_shut old c (inr (inr (first, last, is, a, b))) none torn =
    let found = first_torn old c (omega (arith, ap length is)) torn in
    subst IsFresh (sym (found.1 ∙ ap (λ (l : List ℕ). found.0 ∷ drop 1 l) is)) (headed found.0 last b)

pub written_shut : (old c : List ℕ) → IsUnfinished old → Holds old 0 (0 ∷ []) c → IsShut c
written_shut old c un holds = (drop 1 old, holds, omega (arith, length-drop 1 old, unfinished_short old un))

-- the write of the magic behind the closed gate
pub torn_fill : (old c : List ℕ) → IsShut old → Torn 1 9 old c → IsFresh c
torn_fill old [] (rest, is, short) torn = absurd (omega (arith, ap length is, torn.no_shorter))
torn_fill old (x ∷ c) (rest, is, short) torn =
    let front : x ∷ [] ≡ 0 ∷ [] = torn.before ∙ ap (λ (l : List ℕ). take 1 l) is in
    let whole : x ∷ c ≡ 0 ∷ c = ap (λ (l : List ℕ). l ++ c) front in
    let long : length c ≤ 9 = omega (arith, ap length is, short, torn.no_longer) in
    unfinished_fresh (x ∷ c) (inr (inl (c, whole, long)))

pub written_fill : (old c : List ℕ) → IsShut old → Holds old 1 (magic ++ 0 ∷ []) c → IsNew 0 c
written_fill old c (rest, is, short) holds =
    holds ∙ ap (λ (l : List ℕ). take 1 l ++ (magic ++ 0 ∷ []) ++ drop 10 l) is ∙ ap (λ (l : List ℕ). (0 ∷ magic) ++ (0 ∷ []) ++ l) (drop_all 9 rest short)

-- the write of the header's gate
pub torn_open : (old c : List ℕ) → IsNew 0 old → Torn 0 1 old c → IsFresh c
torn_open old c is torn =
    let found = first_torn old c (omega (arith, ap length is)) torn in
    subst IsFresh (sym (found.1 ∙ ap (λ (l : List ℕ). found.0 ∷ drop 1 l) is)) (headed found.0 0 (omega arith))

pub written_open : (old c : List ℕ) → IsNew 0 old → Holds old 0 (1 ∷ []) c → IsNew 1 c
written_open old c is holds = holds ∙ ap (λ (l : List ℕ). 1 ∷ drop 1 l) is

-- where the first write is left out
pub left_out : (old bytes : List ℕ) → old ≡ bytes → IsUnfinished bytes → (rest : List ℕ) × (bytes ≡ 0 ∷ rest) × (0 < length rest) → IsShut old
left_out old bytes same un found = (found.0, same ∙ found.1, omega (arith, unfinished_short bytes un, ap length found.1))

-- what is held of an answer stays, one step on
pub on_ok : {T E P Q : Type 0} (r : Result T E) → (P → Q) → OnOk r P → OnOk r Q
on_ok (Ok x) f p = f p
on_ok (Err e) f p = tt
