-- The two laws of a batch: what is read is spelled so, and what is spelled so is read.
use Rattle.std.proofs.Common.{◌≡◌, ℕ, ◌^◌, ◌<◌, ◌≤◌, true, cond, eqb, List, [], ◌++◌, length, Option, Some, None, refl, sym, ap, subst, ◌∙◌, arith}
use Rattle.std.specs.Prelude.{nat_le, ◌&&◌, IfSome, IfNone}
use Rattle.std.specs.Option.{option_map}
use Rattle.run_model.specs.declared.batch.Batch.{Batch}
use Rattle.std.specs.List.{flat_map}
use Rattle.std.proofs.lemmas.Bool.{eqb-true}
use Rattle.std.proofs.lemmas.List.{append-nil, nil_from_length}
use Rattle.spec_model.specs.declared.log.LogItem.{LogItem}
use Rattle.op_records.specs.Spelling.{number, item_text, batch_text, IsBatch, Spells}
use Rattle.op_records.specs.Reading.{then_at, many_at, item_at, counts_at, batch_at}
use Rattle.op_records.proofs.Numbers.{IsBytes}
use Rattle.op_records.proofs.Choices.{bind_some, passed, some_is, then_again}
use Rattle.op_records.proofs.Fields.{IsField, rest_are, number_field, kept, many, both}
use Rattle.op_records.proofs.Bodies.{item_field}

counts_field : IsField (λ (p : ℕ × ℕ). ((p.0 < 256 ^ 2) × (p.1 < 256 ^ 1)) × ((nat_le 1 p.0 && nat_le p.0 40 && nat_le 1 p.1 && nat_le p.1 8) ≡ true)) (λ p. number 2 p.0 ++ number 1 p.1) counts_at
counts_field = kept (both (number_field 2) (number_field 1)) (λ p. nat_le 1 p.0 && nat_le p.0 40 && nat_le 1 p.1 && nat_le p.1 8)

-- counts that pass their test
record AreCounts (items replicas : ℕ) : Type 0 where
  some : 1 ≤ items
  few : items ≤ 40
  some_replicas : 1 ≤ replicas
  few_replicas : replicas ≤ 8

counts_are : (n k : ℕ) → (nat_le 1 n && nat_le n 40 && nat_le 1 k && nat_le k 8) ≡ true → AreCounts n k
counts_are n k e = record { some = grind (arith, e); few = grind (arith, e); some_replicas = grind (arith, e); few_replicas = grind (arith, e) }

are_counts : (n k : ℕ) → 1 ≤ n → n ≤ 40 → 1 ≤ k → k ≤ 8 → (nat_le 1 n && nat_le n 40 && nat_le 1 k && nat_le k 8) ≡ true
are_counts n k some few some_replicas few_replicas = grind (arith, some, few, some_replicas, few_replicas)

pub batch_takes : (bytes : List ℕ) (items : List LogItem) → IsBytes bytes → batch_at bytes ≡ Some items → Spells bytes items
batch_takes bytes items are e =
    let a = bind_some (then_at counts_at (λ p. many_at (item_at p.1) p.0) bytes) (λ x. cond (eqb (length x.1) 0) (Some x.0) None) items e in
    let c = bind_some (counts_at bytes) (λ p. many_at (item_at p.0.1) p.0.0 p.1) a.0 a.1 in
    let n = c.0.0.0 in
    let replicas = c.0.0.1 in
    let end = passed (eqb (length a.0.1) 0) a.0.0 items a.2 in
    let counts = counts_field.takes bytes c.0.0 c.0.1 are c.1 in
    let fine = counts_are n replicas counts.1.1 in
    let all = (many (item_field replicas fine.few_replicas) n).takes c.0.1 a.0.0 a.0.1 (rest_are bytes (number 2 n ++ number 1 replicas) c.0.1 are counts.0) c.2 in
    let none : a.0.1 ≡ [] = nil_from_length a.0.1 (eqb-true (length a.0.1) 0 end.0) in
    let whole : bytes ≡ (number 2 n ++ number 1 replicas) ++ flat_map item_text a.0.0 =
    counts.0 ∙ ap (λ (l : List ℕ). (number 2 n ++ number 1 replicas) ++ l) (all.0 ∙ ap (λ (l : List ℕ). flat_map item_text a.0.0 ++ l) none ∙ append-nil (flat_map item_text a.0.0)) in
    let counted : bytes ≡ batch_text replicas a.0.0 = subst (λ (k : ℕ). bytes ≡ (number 2 k ++ number 1 replicas) ++ flat_map item_text a.0.0) (sym all.1.0) whole in
    subst (λ (l : List LogItem). Spells bytes l) end.1 (
      replicas,
      record {
        some = omega (arith, all.1.0, fine.some);
        few = omega (arith, all.1.0, fine.few);
        some_replicas = fine.some_replicas;
        few_replicas = fine.few_replicas;
        each = all.1.1;
      },
      counted,
    )

pub batch_again : (replicas : ℕ) (items : List LogItem) → IsBatch replicas items → batch_at (batch_text replicas items) ≡ Some items
batch_again replicas items fine =
    let texts = flat_map item_text items in
    let counts = counts_field.again (length items, replicas) texts ((omega (arith, fine.few), omega (arith, fine.few_replicas)), are_counts (length items) replicas fine.some fine.few fine.some_replicas fine.few_replicas) in
    let all = (many (item_field replicas fine.few_replicas) (length items)).again items [] (refl, fine.each) in
    let items_read : many_at (item_at replicas) (length items) texts ≡ Some (items, []) = ap (many_at (item_at replicas) (length items)) (sym (append-nil texts)) ∙ all in
    let both_read : then_at counts_at (λ p. many_at (item_at p.1) p.0) (batch_text replicas items) ≡ Some (items, []) =
    then_again (counts_at (batch_text replicas items)) (λ p. many_at (item_at p.0.1) p.0.0 p.1) ((length items, replicas), texts) counts ∙ items_read in
    then_again (then_at counts_at (λ p. many_at (item_at p.1) p.0) (batch_text replicas items)) (λ x. cond (eqb (length x.1) 0) (Some x.0) None) (items, []) both_read

-- each list of bytes spells at most one batch
pub spells_one : (bytes : List ℕ) (xs ys : List LogItem) → Spells bytes xs → Spells bytes ys → xs ≡ ys
spells_one bytes xs ys a b =
    some_is xs ys (sym (batch_again a.0 xs a.1) ∙ ap batch_at (sym a.2 ∙ b.2) ∙ batch_again b.0 ys b.1)

-- what a reader answered
pub found : (bytes : List ℕ) (read : Option Batch) → IsBytes bytes → option_map (λ b. b.items) read ≡ batch_at bytes → IfSome read (λ b. Spells bytes b.items)
found bytes None are is = tt
found bytes (Some b) are is = batch_takes bytes b.items are (sym is)

pub nothing : (bytes : List ℕ) (read : Option Batch) → option_map (λ b. b.items) read ≡ batch_at bytes → IfNone read ((items : List LogItem) → Spells bytes items → ⊥)
nothing bytes (Some b) is = tt
nothing bytes None is = λ items spells. nowhere items (is ∙ ap batch_at spells.2 ∙ batch_again spells.0 items spells.1)
  where
    nowhere : (items : List LogItem) → None ≡ Some items → ⊥
    nowhere items e = absurd cc
