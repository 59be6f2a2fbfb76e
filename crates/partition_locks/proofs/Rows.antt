-- Numbers one after the other, and which of them pass.
use Rattle.std.proofs.Common.{filter, ◌≡◌, ℕ, zero, suc, ◌+◌, ◌-◌, ◌<◌, ◌≤◌, Bool, true, false, not, cond, List, [], ◌∷◌, ◌++◌, length, map, refl, sym, ap, ◌∙◌, arith}
use Rattle.std.specs.Prelude.{Some}
use Rattle.std.specs.List.{find}
use Rattle.std.proofs.lemmas.Bool.{cond-true, cond-false}
use Rattle.ind_base.specs.declared.span.Span.{Span}
use Rattle.spec_model.specs.Universe.{below}
use Rattle.run_model.specs.Points.{points_of}

-- so many numbers from a on
abbrev pub row : ℕ → ℕ → List ℕ
row a zero = []
row a (suc n) = a ∷ row (a + 1) n

-- the numbers from a on that are below e
abbrev pub between : ℕ → ℕ → List ℕ
between a e = row a (e - a)

row_push : (a n : ℕ) → row a n ++ (a + n) ∷ [] ≡ row a (suc n)
row_push a zero = let e : a + 0 ≡ a = omega arith in ap (λ (x : ℕ). x ∷ []) e
row_push a (suc n) =
    let e : a + suc n ≡ (a + 1) + n = omega arith in
    ap (λ (xs : List ℕ). a ∷ xs) (ap (λ (x : ℕ). row (a + 1) n ++ x ∷ []) e ∙ row_push (a + 1) n)

below_row : (n : ℕ) → below n ≡ row 0 n
below_row zero = refl
below_row (suc n) =
    let e : n ≡ 0 + n = omega arith in
    ap (λ (xs : List ℕ). xs ++ n ∷ []) (below_row n) ∙ (ap (λ (x : ℕ). row 0 n ++ x ∷ []) e ∙ row_push 0 n)

map_row : (lo a b n : ℕ) → lo + a ≡ b → map (λ i. lo + i) (row a n) ≡ row b n
map_row lo a b zero is = refl
map_row lo a b (suc n) is =
    ap (λ (x : ℕ). x ∷ map (λ i. lo + i) (row (a + 1) n)) is ∙ ap (λ (xs : List ℕ). b ∷ xs) (map_row lo (a + 1) (b + 1) n (omega (arith, is)))

-- the points of a span
pub points_between : (span : Span) → points_of span ≡ between span.lo (span.hi + 1)
points_between span =
    let n : ℕ = (span.hi + 1) - span.lo in
    ap (λ (xs : List ℕ). map (λ i. span.lo + i) xs) (below_row n) ∙ map_row span.lo 0 span.lo n (omega arith)

pub below_between : (n : ℕ) → below n ≡ between 0 n
below_between n = let e : n ≡ n - 0 = omega arith in below_row n ∙ ap (row 0) e

pub row_long : (a n : ℕ) → length (row a n) ≡ n
row_long a zero = refl
row_long a (suc n) = ap suc (row_long (a + 1) n)

pub between_more : (a e : ℕ) → a < e → between a e ≡ a ∷ between (a + 1) e
between_more a e lt = let n : e - a ≡ suc (e - (a + 1)) = omega (arith, lt) in ap (row a) n

pub between_none : (a e : ℕ) → e ≤ a → between a e ≡ []
between_none a e le = let n : e - a ≡ 0 = omega (arith, le) in ap (row a) n

-- ---- those that pass

-- where none passes up to c
pub skip : (P : ℕ → Bool) (d a c e : ℕ) → c ≡ a + d → c ≤ e → ((y : ℕ) → a ≤ y → y < c → P y ≡ false) → filter P (between a e) ≡ filter P (between c e)
skip P zero a c e is le fails = let it : a ≡ c = omega (arith, is) in ap (λ (x : ℕ). filter P (between x e)) it
skip P (suc d) a c e is le fails =
    ap (filter P) (between_more a e (omega (arith, is, le)))
    ∙ (cond-false (P a) (a ∷ filter P (between (a + 1) e)) (filter P (between (a + 1) e)) (fails a (omega arith) (omega (arith, is)))
    ∙ skip P d (a + 1) c e (omega (arith, is)) le (λ y low high. fails y (omega (arith, low)) high))

-- where each passes up to c
pub kept : (P : ℕ → Bool) (d a c e : ℕ) → c ≡ a + d → c ≤ e → ((y : ℕ) → a ≤ y → y < c → P y ≡ true) → filter P (between a e) ≡ between a c ++ filter P (between c e)
kept P zero a c e is le passes =
    let it : a ≡ c = omega (arith, is) in
    ap (λ (x : ℕ). filter P (between x e)) it ∙ ap (λ (xs : List ℕ). xs ++ filter P (between c e)) (sym (between_none a c (omega (arith, is))))
kept P (suc d) a c e is le passes =
    let rest = kept P d (a + 1) c e (omega (arith, is)) le (λ y low high. passes y (omega (arith, low)) high) in
    ap (filter P) (between_more a e (omega (arith, is, le)))
    ∙ (cond-true (P a) (a ∷ filter P (between (a + 1) e)) (filter P (between (a + 1) e)) (passes a (omega arith) (omega (arith, is)))
    ∙ (ap (λ (xs : List ℕ). a ∷ xs) rest ∙ ap (λ (xs : List ℕ). xs ++ filter P (between c e)) (sym (between_more a c (omega (arith, is))))))

-- two tests that agree from a on
pub agree : (P Q : ℕ → Bool) (a n : ℕ) → ((y : ℕ) → a ≤ y → P y ≡ Q y) → filter P (row a n) ≡ filter Q (row a n)
agree P Q a zero same = refl
agree P Q a (suc n) same =
    ap (λ (b : Bool). cond b (a ∷ filter P (row (a + 1) n)) (filter P (row (a + 1) n))) (same a (omega arith))
    ∙ ap (λ (xs : List ℕ). cond (Q a) (a ∷ xs) xs) (agree P Q (a + 1) n (λ y low. same y (omega (arith, low))))

-- the first that fails, where each passes up to c
pub find_skip : (P : ℕ → Bool) (d a c e : ℕ) → c ≡ a + d → c ≤ e → ((y : ℕ) → a ≤ y → y < c → P y ≡ true) → find (λ x. not (P x)) (between a e) ≡ find (λ x. not (P x)) (between c e)
find_skip P zero a c e is le passes = let it : a ≡ c = omega (arith, is) in ap (λ (x : ℕ). find (λ y. not (P y)) (between x e)) it
find_skip P (suc d) a c e is le passes =
    ap (find (λ x. not (P x))) (between_more a e (omega (arith, is, le)))
    ∙ (cond-false (not (P a)) (Some a) (find (λ x. not (P x)) (between (a + 1) e)) (ap not (passes a (omega arith) (omega (arith, is))))
    ∙ find_skip P d (a + 1) c e (omega (arith, is)) le (λ y low high. passes y (omega (arith, low)) high))

pub find_here : (P : ℕ → Bool) (a e : ℕ) → a < e → P a ≡ false → find (λ x. not (P x)) (between a e) ≡ Some a
find_here P a e lt fails =
    ap (find (λ x. not (P x))) (between_more a e lt) ∙ cond-true (not (P a)) (Some a) (find (λ x. not (P x)) (between (a + 1) e)) (ap not fails)
