-- The line with the turns of two passes.
use Rattle.std.proofs.Common.{◌≡◌, ◌+◌, ◌≤◌, ℕ, zero, suc, Bool, true, false, List, [], ◌∷◌, length, sym, refl, ap, ◌∙◌, arith, subst, inl, inr, ⊎_elim}
use Rattle.std.specs.Prelude.{cond}
use mathlib.Core.List.{IsPrefix}
use Rattle.turn_desk.specs.declared.line.Entry.{Entry}
use Rattle.turn_desk.specs.declared.line.Noted.{Noted}
use Rattle.turn_desk.specs.Line.{entries, own, owns_at, noted, Merges}
use Rattle.turn_desk.proofs.Notes.{kept_if, counted, own_cons}

abbrev pub either : Bool → Bool → Bool
either i j = cond i true j

counted_either : (i j : Bool) → counted i + counted j ≤ 1 → counted (either i j) ≡ counted i + counted j
counted_either true true le = absurd (omega arith)
counted_either true false le = refl
counted_either false true le = refl
counted_either false false le = refl

merges_more : {X : Type 0} (i j : Bool) (e : X) (a b c : List X) → counted i + counted j ≤ 1 → Merges a b c
    → Merges (kept_if i e a) (kept_if j e b) (kept_if (either i j) e c)
merges_more true true e a b c le h = absurd (omega arith)
merges_more true false e a b c le h = inl (a, refl, h)
merges_more false true e a b c le h = inr (b, refl, h)
merges_more false false e a b c le h = h

pub merges_length : {X : Type 0} (a b c : List X) → Merges a b c → length c ≡ length a + length b
merges_length a b [] h = omega (arith, ap length h.0, ap length h.1)
merges_length a b (e ∷ c) h = ⊎_elim
    (λ (x : (rest : List _) × (a ≡ e ∷ rest) × Merges rest b c). omega (arith, ap length x.1, merges_length x.0 b c x.2))
    (λ (x : (rest : List _) × (b ≡ e ∷ rest) × Merges a rest c). omega (arith, ap length x.1, merges_length a x.0 c x.2)) h

module _ {A B : Type 0} where
  abbrev pub first_mine : List (Noted A B) → Bool
  first_mine [] = false
  first_mine (n ∷ ns) = n.mine

  abbrev pub later : List (Noted A B) → List (Noted A B)
  later [] = []
  later (n ∷ ns) = ns

  -- the line, where each turn of either is its own
  abbrev pub united : List (Entry A B) → List (Noted A B) → List (Noted A B) → List (Noted A B)
  united [] a b = []
  united (e ∷ es) a b = noted (either (first_mine a) (first_mine b)) e ∷ united es (later a) (later b)

  pub entries_united : (es : List (Entry A B)) (a b : List (Noted A B)) → entries (united es a b) ≡ es
  entries_united [] a b = refl
  entries_united (e ∷ es) a b = ap (λ (fs : List (Entry A B)). e ∷ fs) (entries_united es (later a) (later b))

  own_first : (e : Entry A B) (es : List (Entry A B)) (a : List (Noted A B)) → IsPrefix (entries a) (e ∷ es)
      → own a ≡ kept_if (first_mine a) e (own (later a))
  own_first e es [] p = refl
  own_first e es (x ∷ a) p =
      let same : x.entry ≡ e = cc (p.1) in
      own_cons x a ∙ ap (λ (f : Entry A B). kept_if x.mine f (own a)) same

  later_prefix : (e : Entry A B) (es : List (Entry A B)) (a : List (Noted A B)) → IsPrefix (entries a) (e ∷ es)
      → IsPrefix (entries (later a)) es
  later_prefix e es [] p = (es, refl)
  later_prefix e es (x ∷ a) p = (p.0, cc (p.1))

  first_owned : (a : List (Noted A B)) → owns_at 0 a ≡ counted (first_mine a)
  first_owned [] = refl
  first_owned (x ∷ a) = refl

  later_owned : (p : ℕ) (a : List (Noted A B)) → owns_at (suc p) a ≡ owns_at p (later a)
  later_owned p [] = refl
  later_owned p (x ∷ a) = refl

  -- no turn is of both
  abbrev pub AreApart : List (Noted A B) → List (Noted A B) → Type 0
  AreApart a b = (p : ℕ) → owns_at p a + owns_at p b ≤ 1

  later_apart : (a b : List (Noted A B)) → AreApart a b → AreApart (later a) (later b)
  later_apart a b apart p = omega (arith, apart (suc p), later_owned p a, later_owned p b)

  pub owns_united : (p : ℕ) (es : List (Entry A B)) (a b : List (Noted A B))
      → IsPrefix (entries a) es → IsPrefix (entries b) es → AreApart a b
      → owns_at p (united es a b) ≡ owns_at p a + owns_at p b
  owns_united p [] [] [] f g apart = refl
  owns_united p [] (x ∷ a) b f g apart = absurd (cc (f.1))
  owns_united p [] [] (y ∷ b) f g apart = absurd (cc (g.1))
  owns_united zero (e ∷ es) a b f g apart =
      let x = first_owned a in let y = first_owned b in
      counted_either (first_mine a) (first_mine b) (omega (arith, apart 0, x, y)) ∙ omega (arith, x, y)
  owns_united (suc p) (e ∷ es) a b f g apart =
      owns_united p es (later a) (later b) (later_prefix e es a f) (later_prefix e es b g) (later_apart a b apart)
      ∙ omega (arith, later_owned p a, later_owned p b)

  pub merges_united : (es : List (Entry A B)) (a b : List (Noted A B))
      → IsPrefix (entries a) es → IsPrefix (entries b) es → AreApart a b
      → Merges (own a) (own b) (own (united es a b))
  merges_united [] [] [] f g apart = (refl, refl)
  merges_united [] (x ∷ a) b f g apart = absurd (cc (f.1))
  merges_united [] [] (y ∷ b) f g apart = absurd (cc (g.1))
  merges_united (e ∷ es) a b f g apart =
      let i = first_mine a in let j = first_mine b in
      let rest = united es (later a) (later b) in
      let inner = merges_united es (later a) (later b) (later_prefix e es a f) (later_prefix e es b g) (later_apart a b apart) in
      let one = merges_more i j e (own (later a)) (own (later b)) (own rest) (omega (arith, apart 0, first_owned a, first_owned b)) inner in
      let a_first = own_first e es a f in
      let b_first = own_first e es b g in
      let all_first = own_cons (noted (either i j) e) rest in
      subst (λ (xs : List (Entry A B)). Merges xs (own b) (own (united (e ∷ es) a b))) (sym a_first)
      (subst (λ (ys : List (Entry A B)). Merges (kept_if i e (own (later a))) ys (own (united (e ∷ es) a b))) (sym b_first)
      (subst (λ (zs : List (Entry A B)). Merges (kept_if i e (own (later a))) (kept_if j e (own (later b))) zs) (sym all_first) one))
