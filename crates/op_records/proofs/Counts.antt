-- Counts, arguments and spans.
use Rattle.std.proofs.Common.{◌≡◌, ℕ, ◌^◌, ◌<◌, ◌≤◌, true, List, ◌++◌, length, Some, refl, sym, ap, subst, ◌∙◌, append_assoc, arith}
use Rattle.std.specs.Prelude.{nat_le, nat_lt}
use Rattle.std.specs.List.{flat_map, AllByRecursion}
use Rattle.std.proofs.lemmas.Bool.{ltb-true, lt-ltb}
use Rattle.ind_base.specs.declared.span.Span.{Span}
use Rattle.op_records.specs.Spelling.{number, args_text, span_text, spans_text, AreArgs, IsSpan, AreSpans, IsSome}
use Rattle.op_records.specs.Reading.{Reader, both_at, kept_at, many_at, number_at, below_at, few_at, args_at, span_at, some_at}
use Rattle.op_records.proofs.Numbers.{IsBytes}
use Rattle.op_records.proofs.Choices.{bind_some}
use Rattle.op_records.proofs.Fields.{IsField, rest_are, number_field, under, kept, made_of, made_again, many, both}

pub below_field : (bound : ℕ) → bound ≤ 256 → IsField (λ n. n < bound) (number 1) (below_at bound)
below_field bound le = under (kept (number_field 1) (λ n. nat_lt n bound)) (λ n. n < bound)
    (λ n fine. ltb-true n bound fine.1) (λ n lt. (omega (arith, lt, le), lt-ltb n bound lt))

pub some_field : (n : ℕ) → IsField (IsSome n) (number n) (some_at n)
some_field n = under (kept (number_field n) (nat_le 1)) (IsSome n) (λ x fine. (grind (arith, fine.1), fine.0)) (λ x fine. (fine.1, grind (arith, fine.0)))

-- up to four values behind their count
module _ {A : Type 0} {fits : A → Type 0} {text : A → List ℕ} {at : Reader A} (field : IsField fits text at) where
  few_takes : (bytes : List ℕ) (xs : List A) (rest : List ℕ) → IsBytes bytes → few_at at bytes ≡ Some (xs, rest)
      → (bytes ≡ (number 1 (length xs) ++ flat_map text xs) ++ rest) × ((length xs ≤ 4) × AllByRecursion fits xs)
  few_takes bytes xs rest are e =
      let a = bind_some (below_at 5 bytes) (λ n. many_at at n.0 n.1) (xs, rest) e in
      let count = (below_field 5 (omega arith)).takes bytes a.0.0 a.0.1 are a.1 in
      let all = (many field a.0.0).takes a.0.1 xs rest (rest_are bytes (number 1 a.0.0) a.0.1 are count.0) a.2 in
      let whole : bytes ≡ (number 1 a.0.0 ++ flat_map text xs) ++ rest =
      count.0 ∙ ap (λ (l : List ℕ). number 1 a.0.0 ++ l) all.0 ∙ sym (append_assoc (number 1 a.0.0) (flat_map text xs) rest) in
      (subst (λ (n : ℕ). bytes ≡ (number 1 n ++ flat_map text xs) ++ rest) (sym all.1.0) whole, (omega (arith, all.1.0, count.1), all.1.1))

  few_again : (xs : List A) (rest : List ℕ) → (length xs ≤ 4) × AllByRecursion fits xs → few_at at ((number 1 (length xs) ++ flat_map text xs) ++ rest) ≡ Some (xs, rest)
  few_again xs rest fine =
      ap (few_at at) (append_assoc (number 1 (length xs)) (flat_map text xs) rest)
      ∙ rw ((below_field 5 (omega arith)).again (length xs) (flat_map text xs ++ rest) (omega (arith, fine.0)), (many field (length xs)).again xs rest (refl, fine.1)) refl

  few : IsField (λ xs. (length xs ≤ 4) × AllByRecursion fits xs) (λ xs. number 1 (length xs) ++ flat_map text xs) (few_at at)
  few = record { takes = few_takes; again = few_again }

pub args_field : IsField AreArgs args_text args_at
args_field = under (few (number_field 2)) AreArgs (λ xs fine. record { few = fine.0; small = fine.1 }) (λ xs fine. (fine.few, fine.small))

-- ---- spans

ends_field : IsField (λ (p : ℕ × ℕ). ((p.0 < 256 ^ 2) × (p.1 < 256 ^ 2)) × (nat_le p.0 p.1 ≡ true)) (λ p. number 2 p.0 ++ number 2 p.1) (kept_at (λ p. nat_le p.0 p.1) (both_at (number_at 2) (number_at 2)))
ends_field = kept (both (number_field 2) (number_field 2)) (λ p. nat_le p.0 p.1)

span_takes : (bytes : List ℕ) (span : Span) (rest : List ℕ) → IsBytes bytes → span_at bytes ≡ Some (span, rest) → (bytes ≡ span_text span ++ rest) × IsSpan span
span_takes bytes span rest are e =
    let m = made_of ends_field (λ p. record { lo = p.0; hi = p.1 }) bytes span rest are e in
    subst (λ (s : Span). (bytes ≡ span_text s ++ rest) × IsSpan s) m.1 (m.2, record { ordered = grind (arith, m.3.1); small = m.3.0.1 })

pub span_field : IsField IsSpan span_text span_at
span_field = record {
  takes = span_takes;
  again = λ span rest fine. made_again ends_field (λ p. record { lo = p.0; hi = p.1 }) (span.lo, span.hi) rest ((omega (arith, fine.ordered, fine.small), fine.small), grind (arith, fine.ordered));
}

pub spans_field : IsField AreSpans spans_text (few_at span_at)
spans_field = under (few span_field) AreSpans (λ xs fine. record { few = fine.0; each = fine.1 }) (λ xs fine. (fine.few, fine.each))
