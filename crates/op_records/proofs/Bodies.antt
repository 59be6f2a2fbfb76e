-- Bodies and items.
use Rattle.std.proofs.Common.{◌≡◌, inl, inr, ℕ, ◌^◌, ◌<◌, ◌≤◌, true, List, ◌++◌, length, Option, Some, None, refl, sym, ap, subst, ◌∙◌, append_assoc, arith}
use Rattle.std.specs.Prelude.{slice_get}
use Rattle.std.specs.List.{flat_map, AllByRecursion}
use Rattle.std.proofs.lemmas.Bool.{eqb-true, eq-eqb}
use Rattle.ind_base.specs.declared.span.Span.{Span}
use Rattle.spec_model.specs.declared.log.Body.{Body}
use Rattle.spec_model.specs.declared.log.Body.TheVariants as body
use Rattle.spec_model.specs.declared.log.LogItem.{LogItem}
use Rattle.spec_model.specs.declared.right.Piece.{Piece}
use Rattle.spec_model.specs.declared.right.Right.{Right}
use Rattle.op_records.specs.Spelling.{number, spans_text, right_text, piece_text, body_text, item_text, AreSpans, IsRight, IsBody, IsItem}
use Rattle.op_records.specs.Reading.{made_at, both_at, number_at, below_at, few_at, span_at, right_at, piece_at, act_at, out_at, accept_at, body_of, body_at, is_count, place_at, item_at}
use Rattle.op_records.proofs.Numbers.{IsBytes}
use Rattle.op_records.proofs.Choices.{bind_some, then_again, either}
use Rattle.op_records.proofs.Fields.{IsField, rest_are, number_field, kept, made_of, made_again, many, both}
use Rattle.op_records.proofs.Counts.{below_field, spans_field}
use Rattle.op_records.proofs.Rights.{right_field, piece_field}

act_field : IsField (λ (p : ℕ × List Span). (p.0 < 256 ^ 2) × AreSpans p.1) (λ p. number 2 p.0 ++ spans_text p.1) (both_at (number_at 2) (few_at span_at))
act_field = both (number_field 2) spans_field

module _ (replicas : ℕ) (few_replicas : replicas ≤ 8) where
  someone : IsField (λ n. n < replicas) (number 1) (below_at replicas)
  someone = below_field replicas (omega (arith, few_replicas))

  accept_field : IsField (λ (p : ℕ × ℕ). (p.0 < replicas) × (p.1 < 256 ^ 4)) (λ p. number 1 p.0 ++ number 4 p.1) (both_at (below_at replicas) (number_at 4))
  accept_field = both someone (number_field 4)

  given_field : IsField (λ (p : ℕ × Right). (p.0 < replicas) × IsRight p.1) (λ p. number 1 p.0 ++ right_text p.1) (both_at (below_at replicas) right_at)
  given_field = both someone right_field

  -- behind the kind of a body
  abbrev IsBehind : ℕ → List ℕ → Body × List ℕ → Type 0
  IsBehind kind bytes y = (number 1 kind ++ bytes ≡ body_text y.0 ++ y.1) × IsBody replicas y.0

  act_takes : (bytes : List ℕ) (y : Body × List ℕ) → IsBytes bytes → act_at bytes ≡ Some y → IsBehind 1 bytes y
  act_takes bytes y are e =
      let m = made_of act_field (λ p. body.Act (record { op = p.0; args = p.1 })) bytes y.0 y.1 are e in
      let text : number 1 1 ++ bytes ≡ (number 1 1 ++ (number 2 m.0.0 ++ spans_text m.0.1)) ++ y.1 =
      ap (λ (l : List ℕ). number 1 1 ++ l) m.2 ∙ sym (append_assoc (number 1 1) (number 2 m.0.0 ++ spans_text m.0.1) y.1) in
      subst (λ (b : Body). (number 1 1 ++ bytes ≡ body_text b ++ y.1) × IsBody replicas b) m.1 (text, m.3)

  accept_takes : (bytes : List ℕ) (y : Body × List ℕ) → IsBytes bytes → accept_at replicas bytes ≡ Some y → IsBehind 3 bytes y
  accept_takes bytes y are e =
      let m = made_of accept_field (λ p. body.Accept p.0 p.1) bytes y.0 y.1 are e in
      let text : number 1 3 ++ bytes ≡ (number 1 3 ++ (number 1 m.0.0 ++ number 4 m.0.1)) ++ y.1 =
      ap (λ (l : List ℕ). number 1 3 ++ l) m.2 ∙ sym (append_assoc (number 1 3) (number 1 m.0.0 ++ number 4 m.0.1) y.1) in
      subst (λ (b : Body). (number 1 3 ++ bytes ≡ body_text b ++ y.1) × IsBody replicas b) m.1 (text, m.3)

  -- the text of an Out, its parts in another order of brackets
  out_parts : (to : ℕ) (r : Right) (p : Piece) (rest : List ℕ) → body_text (body.Out to r p) ++ rest ≡ number 1 2 ++ ((number 1 to ++ right_text r) ++ (piece_text p ++ rest))
  out_parts to r p rest = simp append_assoc

  out_takes : (bytes : List ℕ) (y : Body × List ℕ) → IsBytes bytes → out_at replicas bytes ≡ Some y → IsBehind 2 bytes y
  out_takes bytes y are e =
      let a = bind_some (both_at (below_at replicas) right_at bytes) (λ p. made_at (body.Out p.0.0 p.0.1) (piece_at p.0.1) p.1) y e in
      let to = a.0.0.0 in
      let r = a.0.0.1 in
      let g = given_field.takes bytes a.0.0 a.0.1 are a.1 in
      let m = made_of (piece_field r) (body.Out to r) a.0.1 y.0 y.1 (rest_are bytes (number 1 to ++ right_text r) a.0.1 are g.0) a.2 in
      let text : number 1 2 ++ bytes ≡ body_text (body.Out to r m.0) ++ y.1 =
      ap (λ (l : List ℕ). number 1 2 ++ l) (g.0 ∙ ap (λ (l : List ℕ). (number 1 to ++ right_text r) ++ l) m.2) ∙ sym (out_parts to r m.0 y.1) in
      subst (λ (b : Body). (number 1 2 ++ bytes ≡ body_text b ++ y.1) × IsBody replicas b) m.1 (text, (g.1.0, g.1.1, m.3.0, m.3.1))

  body_of_takes : (kind : ℕ) (bytes : List ℕ) (y : Body × List ℕ) → IsBytes bytes → body_of replicas kind bytes ≡ Some y → IsBehind kind bytes y
  body_of_takes kind bytes y are e = elim (either kind 1 _ _ _ e) [
    | inl act ↦ subst (λ k. IsBehind k bytes y) (sym act.0) (act_takes bytes y are act.1)
    | inr e ↦ elim (either kind 2 _ _ _ e) [
      | inl out ↦ subst (λ k. IsBehind k bytes y) (sym out.0) (out_takes bytes y are out.1)
      | inr e ↦ elim (either kind 3 _ _ _ e) [
        | inl accept ↦ subst (λ k. IsBehind k bytes y) (sym accept.0) (accept_takes bytes y are accept.1)
        | inr e ↦ absurd (cc e)
      ]
    ]
  ]

  body_takes : (bytes : List ℕ) (b : Body) (rest : List ℕ) → IsBytes bytes → body_at replicas bytes ≡ Some (b, rest) → (bytes ≡ body_text b ++ rest) × IsBody replicas b
  body_takes bytes b rest are e =
      let a = bind_some (number_at 1 bytes) (λ k. body_of replicas k.0 k.1) (b, rest) e in
      let kind = (number_field 1).takes bytes a.0.0 a.0.1 are a.1 in
      let t = body_of_takes a.0.0 a.0.1 (b, rest) (rest_are bytes (number 1 a.0.0) a.0.1 are kind.0) a.2 in
      (kind.0 ∙ t.0, t.1)

  -- a body is read by its kind
  of_kind : (kind : ℕ) (text rest : List ℕ) → kind < 256 → body_at replicas ((number 1 kind ++ text) ++ rest) ≡ body_of replicas kind (text ++ rest)
  of_kind kind text rest small =
      ap (body_at replicas) (append_assoc (number 1 kind) text rest)
      ∙ then_again (number_at 1 (number 1 kind ++ (text ++ rest))) (λ k. body_of replicas k.0 k.1) (kind, text ++ rest) ((number_field 1).again kind (text ++ rest) small)

  out_again : (to : ℕ) (r : Right) (p : Piece) (rest : List ℕ) → IsBody replicas (body.Out to r p) → out_at replicas ((number 1 to ++ (right_text r ++ piece_text p)) ++ rest) ≡ Some (body.Out to r p, rest)
  out_again to r p rest fine =
      let parts : (number 1 to ++ (right_text r ++ piece_text p)) ++ rest ≡ (number 1 to ++ right_text r) ++ (piece_text p ++ rest) = simp append_assoc in
      ap (out_at replicas) parts
      ∙ then_again (both_at (below_at replicas) right_at ((number 1 to ++ right_text r) ++ (piece_text p ++ rest))) (λ q. made_at (body.Out q.0.0 q.0.1) (piece_at q.0.1) q.1) ((to, r), piece_text p ++ rest)
      (given_field.again (to, r) (piece_text p ++ rest) (fine.0, fine.1))
      ∙ made_again (piece_field r) (body.Out to r) p rest (fine.2, fine.3)

  body_again : (b : Body) (rest : List ℕ) → IsBody replicas b → body_at replicas (body_text b ++ rest) ≡ Some (b, rest)
  body_again (body.Act inst) rest fine =
      of_kind 1 (number 2 inst.op ++ spans_text inst.args) rest (omega arith) ∙ made_again act_field (λ p. body.Act (record { op = p.0; args = p.1 })) (inst.op, inst.args) rest fine
  body_again (body.Out to r p) rest fine = of_kind 2 (number 1 to ++ (right_text r ++ piece_text p)) rest (omega arith) ∙ out_again to r p rest fine
  body_again (body.Accept from index) rest fine =
      of_kind 3 (number 1 from ++ number 4 index) rest (omega arith) ∙ made_again accept_field (λ p. body.Accept p.0 p.1) (from, index) rest fine

  body_field : IsField (IsBody replicas) body_text (body_at replicas)
  body_field = record { takes = body_takes; again = body_again }

  -- ---- items

  own_is : (n : ℕ) (o : Option ℕ) → is_count n o ≡ true → o ≡ Some n
  own_is n None is = absurd cc
  own_is n (Some count) is = ap Some (eqb-true count n is)

  is_own : (n : ℕ) (o : Option ℕ) → o ≡ Some n → is_count n o ≡ true
  is_own n o is = ap (is_count n) is ∙ eq-eqb n n refl

  place_field : IsField (λ (p : (ℕ × ℕ) × List ℕ). (((p.0.0 < replicas) × (p.0.1 < 256 ^ 4)) × ((length p.1 ≡ replicas) × AllByRecursion (λ n. n < 256 ^ 4) p.1)) × (is_count p.0.1 (slice_get p.1 p.0.0) ≡ true))
      (λ p. (number 1 p.0.0 ++ number 4 p.0.1) ++ flat_map (number 4) p.1) (place_at replicas)
  place_field = kept (both (both someone (number_field 4)) (many (number_field 4) replicas)) (λ p. is_count p.0.1 (slice_get p.1 p.0.0))

  abbrev made_item : ((ℕ × ℕ) × List ℕ) × Body → LogItem
  made_item p = record { origin = p.0.0.0; index = p.0.0.1; deps = p.0.1; body = p.1 }

  item_takes : (bytes : List ℕ) (item : LogItem) (rest : List ℕ) → IsBytes bytes → item_at replicas bytes ≡ Some (item, rest) → (bytes ≡ item_text item ++ rest) × IsItem replicas item
  item_takes bytes item rest are e =
      let m = made_of (both place_field body_field) made_item bytes item rest are e in
      let p = m.0 in
      subst (λ (i : LogItem). (bytes ≡ item_text i ++ rest) × IsItem replicas i) m.1 (
        m.2,
        record {
          origin = m.3.0.0.0.0;
          index = m.3.0.0.0.1;
          past = m.3.0.0.1.0;
          small = m.3.0.0.1.1;
          own = own_is p.0.0.1 (slice_get p.0.1 p.0.0.0) m.3.0.1;
          body = m.3.1;
        },
      )

  item_again : (item : LogItem) (rest : List ℕ) → IsItem replicas item → item_at replicas (item_text item ++ rest) ≡ Some (item, rest)
  item_again item rest fine = made_again (both place_field body_field) made_item (((item.origin, item.index), item.deps), item.body) rest
      ((((fine.origin, fine.index), (fine.past, fine.small)), is_own item.index (slice_get item.deps item.origin) fine.own), fine.body)

  pub item_field : IsField (IsItem replicas) item_text (item_at replicas)
  item_field = record { takes = item_takes; again = item_again }
