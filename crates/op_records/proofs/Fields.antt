-- A field that is read is the field that was written, and what was written is read again.
use Rattle.std.proofs.Common.{◌≡◌, ℕ, zero, suc, ◌^◌, ◌<◌, ◌≤◌, Bool, true, false, cond, ltb, List, [], ◌∷◌, ◌++◌, length, slice_index, take, drop, Some, None, refl, sym, ap, subst, ◌∙◌, append_assoc, arith}
use Rattle.std.specs.List.{flat_map, AllByRecursion}
use Rattle.std.proofs.lemmas.Bool.{ltb-false, le-ltb}
use Rattle.std.proofs.lemmas.List.{take-append-drop, drop_at, length-append, length-take}
use Rattle.std.proofs.lemmas.List.Concat.{flat_map-cons}
use Rattle.byteorder.specs.Endian.{big_from}
use Rattle.byteorder.specs.Numbers.{big_from-take, big_number-reads_back, length-bytes_high_first, big_from-lt}
use Rattle.op_records.specs.Spelling.{number}
use Rattle.op_records.specs.Reading.{Reader, ◌>>=◌, made_at, both_at, kept_at, many_at, number_at}
use Rattle.op_records.proofs.Choices.{bind_some, passed, not_short, some_is}
use Rattle.op_records.proofs.Numbers.{IsBytes, later_bytes, same_bytes}

-- a reader and the text of each value that fits undo each other
pub record IsField {A : Type 0} (fits : A → Type 0) (text : A → List ℕ) (at : Reader A) : Type 0 where
  pub takes : (bytes : List ℕ) (x : A) (rest : List ℕ) → IsBytes bytes → at bytes ≡ Some (x, rest) → (bytes ≡ text x ++ rest) × fits x
  pub again : (x : A) (rest : List ℕ) → fits x → at (text x ++ rest) ≡ Some (x, rest)

rest_are_of : (text rest : List ℕ) → IsBytes (text ++ rest) → IsBytes rest
rest_are_of [] rest are = are
rest_are_of (b ∷ text) rest are = rest_are_of text rest (later_bytes b (text ++ rest) are)

-- what stands behind a text are bytes too
pub rest_are : (bytes text rest : List ℕ) → IsBytes bytes → bytes ≡ text ++ rest → IsBytes rest
rest_are bytes text rest are is = rest_are_of text rest (subst IsBytes is are)

front_each : (b : ℕ) (bytes : List ℕ) → b < 256 → IsBytes bytes → (i : ℕ) → slice_index (b ∷ bytes) i < 256
front_each b bytes byte are zero = byte
front_each b bytes byte are (suc i) = are.each i

front_are : (n : ℕ) (bytes : List ℕ) → IsBytes bytes → IsBytes (take n bytes)
front_are zero bytes are = record { each = λ i. omega arith }
front_are (suc n) [] are = are
front_are (suc n) (b ∷ bytes) are = record { each = front_each b (take n bytes) (are.each 0) (front_are n bytes (later_bytes b bytes are)) }

-- ---- numbers

number_takes : (n : ℕ) (bytes : List ℕ) (x : ℕ) (rest : List ℕ) → IsBytes bytes → number_at n bytes ≡ Some (x, rest) → (bytes ≡ number n x ++ rest) × (x < 256 ^ n)
unfolding number number_at
number_takes n bytes x rest are e =
    let g = not_short (ltb (length bytes) n) (big_from 0 n bytes, drop n bytes) (x, rest) e in
    let long : n ≤ length bytes = ltb-false _ _ g.0 in
    let x_is : big_from 0 n bytes ≡ x = ap (λ (p : ℕ × List ℕ). p.0) g.1 in
    let rest_is : drop n bytes ≡ rest = ap (λ (p : ℕ × List ℕ). p.1) g.1 in
    let front = same_bytes n (take n bytes) (omega (arith, long, length-take n bytes)) (front_are n bytes are) in
    let same = big_from-take 0 n n bytes (omega arith) in
    (rw (← x_is, ← rest_is, ← same, front) (sym (take-append-drop n bytes)), rw (← x_is) (big_from-lt 0 n bytes are.each))

number_again : (n x : ℕ) (rest : List ℕ) → x < 256 ^ n → number_at n (number n x ++ rest) ≡ Some (x, rest)
unfolding number number_at
number_again n x rest lt =
    let count = length-bytes_high_first n x in
    let long : ltb (length (Rattle.std.specs.Int.bytes_high_first n x ++ rest)) n ≡ false = le-ltb _ _ (omega (arith, count, length-append (Rattle.std.specs.Int.bytes_high_first n x) rest)) in
    rw (long, big_number-reads_back n x rest lt, drop_at (Rattle.std.specs.Int.bytes_high_first n x) rest n count) refl

pub number_field : (n : ℕ) → IsField (λ x. x < 256 ^ n) (number n) (number_at n)
number_field n = record { takes = number_takes n; again = number_again n }

-- ---- fields of fields

module _ {A : Type 0} {fits : A → Type 0} {text : A → List ℕ} {at : Reader A} (field : IsField fits text at) where
  -- the same under another condition
  pub under : (other : A → Type 0) → ((x : A) → fits x → other x) → ((x : A) → other x → fits x) → IsField other text at
  under other to back = record {
    takes = λ bytes x rest are e. let t = field.takes bytes x rest are e in (t.0, to x t.1);
    again = λ x rest fine. field.again x rest (back x fine);
  }

  kept_takes : (test : A → Bool) (bytes : List ℕ) (x : A) (rest : List ℕ) → IsBytes bytes → kept_at test at bytes ≡ Some (x, rest) → (bytes ≡ text x ++ rest) × (fits x × (test x ≡ true))
  kept_takes test bytes x rest are e =
      let a = bind_some (at bytes) (λ y. cond (test y.0) (Some (y.0, y.1)) None) (x, rest) e in
      let p = passed (test a.0.0) (a.0.0, a.0.1) (x, rest) a.2 in
      let t = field.takes bytes a.0.0 a.0.1 are a.1 in
      subst (λ (y : A × List ℕ). (bytes ≡ text y.0 ++ y.1) × (fits y.0 × (test y.0 ≡ true))) p.1 (t.0, (t.1, p.0))

  kept_again : (test : A → Bool) (x : A) (rest : List ℕ) → fits x × (test x ≡ true) → kept_at test at (text x ++ rest) ≡ Some (x, rest)
  kept_again test x rest fine = rw (field.again x rest fine.0, fine.1) refl

  pub kept : (test : A → Bool) → IsField (λ x. fits x × (test x ≡ true)) text (kept_at test at)
  kept test = record { takes = kept_takes test; again = kept_again test }

  -- a made value was made of one that was read
  pub made_of : {B : Type 0} (make : A → B) (bytes : List ℕ) (y : B) (rest : List ℕ) → IsBytes bytes → made_at make at bytes ≡ Some (y, rest)
      → (x : A) × (make x ≡ y) × (bytes ≡ text x ++ rest) × fits x
  made_of {B} make bytes y rest are e =
      let a = bind_some (at bytes) (λ x. Some (make x.0, x.1)) (y, rest) e in
      let is = some_is (make a.0.0, a.0.1) (y, rest) a.2 in
      let t = field.takes bytes a.0.0 a.0.1 are a.1 in
      let rest_is : a.0.1 ≡ rest = ap (λ (p : B × List ℕ). p.1) is in
      (a.0.0, ap (λ (p : B × List ℕ). p.0) is, subst (λ (r : List ℕ). bytes ≡ text a.0.0 ++ r) rest_is t.0, t.1)

  pub made_again : {B : Type 0} (make : A → B) (x : A) (rest : List ℕ) → fits x → made_at make at (text x ++ rest) ≡ Some (make x, rest)
  made_again make x rest fine = rw (field.again x rest fine) refl

  many_takes : (n : ℕ) (bytes : List ℕ) (xs : List A) (rest : List ℕ) → IsBytes bytes → many_at at n bytes ≡ Some (xs, rest) → (bytes ≡ flat_map text xs ++ rest) × ((length xs ≡ n) × AllByRecursion fits xs)
  many_takes zero bytes xs rest are e =
      subst (λ (y : List A × List ℕ). (bytes ≡ flat_map text y.0 ++ y.1) × ((length y.0 ≡ 0) × AllByRecursion fits y.0)) (some_is ([], bytes) (xs, rest) e) (refl, (refl, tt))
  many_takes (suc n) bytes xs rest are e =
      let a = bind_some (at bytes) (λ x. many_at at n x.1 >>= λ ys. Some (x.0 ∷ ys.0, ys.1)) (xs, rest) e in
      let b = bind_some (many_at at n a.0.1) (λ ys. Some (a.0.0 ∷ ys.0, ys.1)) (xs, rest) a.2 in
      let first = field.takes bytes a.0.0 a.0.1 are a.1 in
      let others = many_takes n a.0.1 b.0.0 b.0.1 (rest_are bytes (text a.0.0) a.0.1 are first.0) b.1 in
      let whole : bytes ≡ flat_map text (a.0.0 ∷ b.0.0) ++ b.0.1 =
      first.0 ∙ ap (λ (l : List ℕ). text a.0.0 ++ l) others.0 ∙ sym (append_assoc (text a.0.0) (flat_map text b.0.0) b.0.1) ∙ ap (λ (l : List ℕ). l ++ b.0.1) (sym (flat_map-cons text a.0.0 b.0.0)) in
      subst (λ (y : List A × List ℕ). (bytes ≡ flat_map text y.0 ++ y.1) × ((length y.0 ≡ suc n) × AllByRecursion fits y.0)) (some_is (a.0.0 ∷ b.0.0, b.0.1) (xs, rest) b.2)
      (whole, (ap suc others.1.0, (first.1, others.1.1)))

  many_again : (n : ℕ) (xs : List A) (rest : List ℕ) → (length xs ≡ n) × AllByRecursion fits xs → many_at at n (flat_map text xs ++ rest) ≡ Some (xs, rest)
  many_again zero [] rest fine = refl
  many_again zero (x ∷ xs) rest fine = absurd (omega (arith, fine.0))
  many_again (suc n) [] rest fine = absurd (omega (arith, fine.0))
  many_again (suc n) (x ∷ xs) rest fine =
      let split : flat_map text (x ∷ xs) ++ rest ≡ text x ++ (flat_map text xs ++ rest) =
      ap (λ (l : List ℕ). l ++ rest) (flat_map-cons text x xs) ∙ append_assoc (text x) (flat_map text xs) rest in
      let first = field.again x (flat_map text xs ++ rest) fine.1.0 in
      let others = many_again n xs rest (omega (arith, fine.0), fine.1.1) in
      ap (many_at at (suc n)) split ∙ rw (first, others) refl

  pub many : (n : ℕ) → IsField (λ xs. (length xs ≡ n) × AllByRecursion fits xs) (flat_map text) (many_at at n)
  many n = record { takes = many_takes n; again = many_again n }

  both_takes : {B : Type 0} {fit : B → Type 0} {words : B → List ℕ} {next : Reader B} (second : IsField fit words next) (bytes : List ℕ) (p : A × B) (rest : List ℕ) → IsBytes bytes
      → both_at at next bytes ≡ Some (p, rest) → (bytes ≡ (text p.0 ++ words p.1) ++ rest) × (fits p.0 × fit p.1)
  both_takes {B} {fit} {words} {next} second bytes p rest are e =
      let a = bind_some (at bytes) (λ x. next x.1 >>= λ y. Some ((x.0, y.0), y.1)) (p, rest) e in
      let b = bind_some (next a.0.1) (λ y. Some ((a.0.0, y.0), y.1)) (p, rest) a.2 in
      let first = field.takes bytes a.0.0 a.0.1 are a.1 in
      let then = second.takes a.0.1 b.0.0 b.0.1 (rest_are bytes (text a.0.0) a.0.1 are first.0) b.1 in
      let whole : bytes ≡ (text a.0.0 ++ words b.0.0) ++ b.0.1 = first.0 ∙ ap (λ (l : List ℕ). text a.0.0 ++ l) then.0 ∙ sym (append_assoc (text a.0.0) (words b.0.0) b.0.1) in
      subst (λ (y : (A × B) × List ℕ). (bytes ≡ (text y.0.0 ++ words y.0.1) ++ y.1) × (fits y.0.0 × fit y.0.1)) (some_is ((a.0.0, b.0.0), b.0.1) (p, rest) b.2) (whole, (first.1, then.1))

  pub both : {B : Type 0} {fit : B → Type 0} {words : B → List ℕ} {next : Reader B} → IsField fit words next → IsField (λ p. fits p.0 × fit p.1) (λ p. text p.0 ++ words p.1) (both_at at next)
  both {B} {fit} {words} {next} second = record {
    takes = both_takes second;
    again = λ p rest fine. ap (both_at at next) (append_assoc (text p.0) (words p.1) rest) ∙ rw (field.again p.0 (words p.1 ++ rest) fine.0, second.again p.1 rest fine.1) refl;
  }
