-- The text of a plan and a certificate is read as that plan and certificate.
use Rattle.std.proofs.Common.{◌≡◌, ℕ, zero, suc, ◌+◌, ◌≤◌, true, eqb, leb, ◌&&◌, ◌||◌, inl, inr, List, [], ◌∷◌, ◌++◌, length, map, get_or, refl, sym, ap, subst, ◌∙◌, arith}
use Rattle.std.specs.Prelude.{Option, Some, Result, Ok}
use Rattle.std.specs.List.{AllByRecursion, flat_map}
use Rattle.std.proofs.lemmas.Bool.{eqb-true, leb-true}
use Rattle.certificate_check.specs.Draft.{fresh, is_end, step}
use Rattle.certificate_check.specs.Printed.{certificate_text, op_name, word_line}
use Rattle.certificate_check.specs.Reading.{go_on, outcome, read_from, read_of, taken}
use Rattle.certificate_check.specs.Texts.{HasNames, KeepsLimits, LineKeepsLimits, IsReadAgain}
use Rattle.certificate_check.specs.declared.certificate.CertLine.{CertLine}
use Rattle.certificate_check.specs.declared.certificate.CertLine.TheVariants.{Refuted, SepLock, SepPart}
use Rattle.certificate_check.specs.declared.certificate.Certificate.{Certificate}
use Rattle.certificate_check.specs.declared.draft.Draft.{Draft}
use Rattle.certificate_check.specs.declared.reading.Read.TheVariants.{Parts}
use Rattle.certificate_check.proofs.Retaken.{all_taken, at_end, steps}
use Rattle.certificate_check.proofs.Saying.{all_said, all_written, cases_said, form_said, kind_said, kinds_said, lock_line, part_line, step_line, texts_map}
use Rattle.certificate_lines.specs.Texts.{IsNeat, IsSmall, IsSpelt, KindSpelt, line_text}
use Rattle.certificate_lines.specs.declared.line.KindLine.{KindLine}
use Rattle.certificate_lines.specs.declared.line.TextLine.{TextLine}
use Rattle.certificate_lines.specs.declared.line.TextLine.TheVariants as lines
use Rattle.certificate_lines.proofs.Again.{line_again, line_plain}
use Rattle.ground_clauses.proofs.Lists.{each_append, each_map, each_weaker}
use Rattle.line_text.specs.Bytes.{all_plain}
use Rattle.line_text.specs.Lines.{lines_of}
use Rattle.line_text.specs.Reads.{◌>>=◌}
use Rattle.line_text.specs.Spelling.{all_word}
use Rattle.line_text.specs.Tokens.{is_digit, is_lower, is_upper, is_word_byte}
use Rattle.line_text.proofs.Again.{lines_again}
use Rattle.line_text.proofs.Guards.{and_true}
use Rattle.line_text.proofs.Inverse.{bind_some, some_same}
use Rattle.line_text.proofs.Spelling.{or_true}
use Rattle.spec_model.specs.Fits.{IsWellFormed, KeyFits, LockFits, OpFits, PartFits, PlanFits}
use Rattle.spec_model.specs.Truths.{no_op, op_at}
use Rattle.spec_model.specs.declared.clause.Var.{Var}
use Rattle.spec_model.specs.declared.operation.Op.{Op}
use Rattle.spec_model.specs.declared.plan.LockKind.{LockKind}
use Rattle.spec_model.specs.declared.plan.Pair.{Pair}
use Rattle.spec_model.specs.declared.plan.Plan.{Plan}
use Rattle.spec_model.specs.declared.spec.Spec.{Spec}

-- ---- lines that can be written are taken from their text

abbrev good : Draft → Result Draft ℕ
good d = Ok d

ended : (spec : Spec) (n : ℕ) (d e : Draft) → d ≡ e → is_end e.stage ≡ true → read_from spec n d [] ≡ Ok e
ended spec n d e same is = subst (λ (f : Draft). read_from spec n f [] ≡ Ok e) (sym same) (rw is refl)

lines_read : (spec : Spec) (n : ℕ) (d e : Draft) (ls : List TextLine) → AllByRecursion IsSpelt ls → steps spec d ls ≡ Some e → is_end e.stage ≡ true → read_from spec n d (map line_text ls) ≡ Ok e
unfolding taken
lines_read spec n d e [] spelt is end' = ended spec n d e (some_same d e is) end'
lines_read spec n d e (l ∷ ls) spelt is end' =
    let b = bind_some (step spec d l) (λ (f : Draft). steps spec f ls) e is in
    ap (λ (o : Option TextLine). go_on n (o >>= step spec d) (λ f. read_from spec (suc n) f (map line_text ls))) (line_again l spelt.0)
    ∙ ap (λ (o : Option Draft). go_on n o (λ f. read_from spec (suc n) f (map line_text ls))) b.1
    ∙ lines_read spec (suc n) b.0 e ls spelt.1 b.2 end'

-- ---- they can be written

word_seen : (b : ℕ) → is_word_byte b ≡ true → (33 ≤ b) × (b ≤ 126)
word_seen b e = elim (or_true (is_lower b || is_upper b || is_digit b) (eqb b 95) e) [ inl three ↦ letters three | inr line ↦ (let is = eqb-true b 95 line in (omega (arith, is), omega (arith, is))) ]
  where
    between : (low high : ℕ) → 33 ≤ low → high ≤ 126 → (leb low b && leb b high) ≡ true → (33 ≤ b) × (b ≤ 126)
    between low high l h e =
        let k = and_true (leb low b) (leb b high) e in
        let above = leb-true low b k.0 in
        let below = leb-true b high k.1 in
        (omega (arith, l, above), omega (arith, h, below))

    two : (is_lower b || is_upper b) ≡ true → (33 ≤ b) × (b ≤ 126)
    two h = elim (or_true (is_lower b) (is_upper b) h) [ inl l ↦ between 97 122 (omega arith) (omega arith) l | inr u ↦ between 65 90 (omega arith) (omega arith) u ]

    letters : (is_lower b || is_upper b || is_digit b) ≡ true → (33 ≤ b) × (b ≤ 126)
    letters h = elim (or_true (is_lower b || is_upper b) (is_digit b) h) [ inl l ↦ two l | inr d ↦ between 48 57 (omega arith) (omega arith) d ]

name_neat : (w : List ℕ) → all_word w ≡ true → IsNeat w
name_neat [] e = tt
name_neat (b ∷ w) e = let h = and_true (is_word_byte b) (all_word w) e in (word_seen b h.0, name_neat w h.1)

-- an operation, or none
of_op : (P : Op → Type 0) (ops : List Op) (i : ℕ) → P no_op → AllByRecursion P ops → P (get_or ops i no_op)
of_op P [] i none h = none
of_op P (o ∷ ops) zero none h = h.0
of_op P (o ∷ ops) (suc i) none h = of_op P ops i none h.1

few_places : (spec : Spec) (i : ℕ) → IsWellFormed spec → length (op_at spec i).params ≤ 4
few_places spec i formed = of_op (λ (o : Op). length o.params ≤ 4) spec.ops i (omega arith) (each_weaker (OpFits spec) (λ (o : Op). length o.params ≤ 4) spec.ops (λ o fits. fits.few_params) formed.ops)

op_neat : (spec : Spec) (i : ℕ) → HasNames spec → IsNeat (op_name spec i)
op_neat spec i names = of_op (λ (o : Op). IsNeat o.name) spec.ops i tt (each_weaker (λ (o : Op). all_word o.name ≡ true) (λ (o : Op). IsNeat o.name) spec.ops (λ o word. name_neat o.name word) names.words)

pair_small : (pa pb : List Var) (k : Pair) → length pa ≤ 4 → length pb ≤ 4 → KeyFits pa pb k → IsSmall k.a × IsSmall k.b
pair_small pa pb k few_a few_b fits =
    let a = fits.within_a in
    let b = fits.within_b in
    (omega (arith, few_a, a), omega (arith, few_b, b))

kind_spelt : (spec : Spec) (n : ℕ) (l : LockKind) → IsWellFormed spec → HasNames spec → LockFits spec l → IsSmall n → KindSpelt (kind_said spec n l)
kind_spelt spec n l formed names fits small = record {
  number = small;
  first = op_neat spec l.a names;
  second = op_neat spec l.b names;
  key = each_weaker (KeyFits (op_at spec l.a).params (op_at spec l.b).params) (λ (k : Pair). IsSmall k.a × IsSmall k.b) l.key (λ k f. pair_small (op_at spec l.a).params (op_at spec l.b).params k (few_places spec l.a formed) (few_places spec l.b formed) f) fits.key_fits;
}

kinds_spelt : (spec : Spec) (line : KindLine → TextLine) → ((k : KindLine) → KindSpelt k → IsSpelt (line k)) → (n : ℕ) (kinds : List LockKind) → IsWellFormed spec → HasNames spec → AllByRecursion (LockFits spec) kinds → n + length kinds ≤ 4294967296
    → AllByRecursion IsSpelt (kinds_said spec line n kinds)
kinds_spelt spec line so n [] formed names fit small = tt
kinds_spelt spec line so n (l ∷ kinds) formed names fit small = (so (kind_said spec n l) (kind_spelt spec n l formed names fit.0 (omega (arith, small))), kinds_spelt spec line so (suc n) kinds formed names fit.1 (omega (arith, small)))

form_spelt : (n : ℕ) (l : CertLine) → IsSmall n → LineKeepsLimits l → AllByRecursion IsSpelt (form_said n l)
form_spelt n (SepLock i) small h = ((small, h), tt)
form_spelt n (SepPart i) small h = ((small, h), tt)
form_spelt n (Refuted d) small h = ((small, h.0), each_map IsSpelt step_line d.steps h.1)

cases_spelt : (n : ℕ) (ls : List CertLine) → n + length ls ≤ 4294967296 → AllByRecursion LineKeepsLimits ls → AllByRecursion IsSpelt (cases_said n ls)
cases_spelt n [] small h = tt
cases_spelt n (l ∷ ls) small h = each_append IsSpelt (form_said n l) (cases_said (suc n) ls) (form_spelt n l (omega (arith, small)) h.0) (cases_spelt (suc n) ls (omega (arith, small)) h.1)

all_spelt : (spec : Spec) (plan : Plan) (c : Certificate) → IsWellFormed spec → HasNames spec → PlanFits spec plan → KeepsLimits plan c → AllByRecursion IsSpelt (all_said spec plan.locks plan.parts c.lines)
all_spelt spec plan c formed names fits limits =
    let few_locks = limits.locks in
    let few_parts = limits.parts in
    let few_cases = limits.cases in
    let parts_fit = each_weaker (PartFits spec) (LockFits spec) plan.parts (λ l f. f.lock) fits.parts_fit in
    let locks_spelt = kinds_spelt spec lock_line (λ k h. h) 0 plan.locks formed names fits.locks_fit (omega (arith, few_locks)) in
    let parts_spelt = kinds_spelt spec part_line (λ k h. h) 0 plan.parts formed names parts_fit (omega (arith, few_parts)) in
    let cases_are = cases_spelt 0 c.lines (omega (arith, few_cases)) limits.lines in (
      tt,
      each_append IsSpelt (kinds_said spec lock_line 0 plan.locks ++ kinds_said spec part_line 0 plan.parts) (lines.Certificate ∷ (cases_said 0 c.lines ++ lines.End ∷ []))
          (each_append IsSpelt (kinds_said spec lock_line 0 plan.locks) (kinds_said spec part_line 0 plan.parts) locks_spelt parts_spelt)
          (tt, each_append IsSpelt (cases_said 0 c.lines) (lines.End ∷ []) cases_are (tt, tt)),
    )

-- ---- the whole

ends_same : (spec : Spec) (bytes : List (List ℕ)) (plan : Plan) (c : Certificate) → PlanFits spec plan → read_from spec 1 fresh bytes ≡ Ok (at_end plan.locks plan.parts c.lines) → read_of spec bytes ≡ Parts plan c
ends_same spec bytes plan c fits is = ap (outcome spec) is ∙ ap (λ (ms : List ℕ). Parts (record { locks = plan.locks; masks = ms; parts = plan.parts }) c) (sym fits.masks)

texts_apart : (ls : List TextLine) → AllByRecursion IsSpelt ls → lines_of (flat_map word_line (map line_text ls)) ≡ map line_text ls
texts_apart ls spelt = lines_again (map line_text ls) (each_map (λ (line : List ℕ). all_plain line ≡ true) line_text ls (each_weaker IsSpelt (λ (l : TextLine). all_plain (line_text l) ≡ true) ls line_plain spelt))

-- the lines of the text say it
pub lines_said : (spec : Spec) (plan : Plan) (c : Certificate) → IsWellFormed spec → HasNames spec → PlanFits spec plan → KeepsLimits plan c → lines_of (certificate_text spec plan c) ≡ map line_text (all_said spec plan.locks plan.parts c.lines)
lines_said spec plan c formed names fits limits =
    let said = all_said spec plan.locks plan.parts c.lines in
    let text : certificate_text spec plan c ≡ flat_map word_line (map line_text said) = sym (all_written spec plan c) ∙ sym (texts_map said) in
    ap lines_of text ∙ texts_apart said (all_spelt spec plan c formed names fits limits)

-- and are taken
pub lines_taken : (spec : Spec) (plan : Plan) (c : Certificate) → IsWellFormed spec → HasNames spec → PlanFits spec plan → KeepsLimits plan c
    → read_from spec 1 fresh (lines_of (certificate_text spec plan c)) ≡ Ok (at_end plan.locks plan.parts c.lines)
lines_taken spec plan c formed names fits limits =
    let said = all_said spec plan.locks plan.parts c.lines in
    ap (read_from spec 1 fresh) (lines_said spec plan c formed names fits limits)
    ∙ lines_read spec 1 fresh (at_end plan.locks plan.parts c.lines) said (all_spelt spec plan c formed names fits limits) (all_taken spec plan.locks plan.parts c.lines names fits.locks_fit fits.parts_fit fits.once) refl

pub text_again : (spec : Spec) (plan : Plan) (c : Certificate) → PlanFits spec plan → IsReadAgain spec plan c (certificate_text spec plan c)
text_again spec plan c fits formed names limits = ends_same spec (lines_of (certificate_text spec plan c)) plan c fits (lines_taken spec plan c formed names fits limits)

-- what is printed is read again
pub printed_again : (spec : Spec) (plan : Plan) (c : Certificate) (text : List ℕ) → PlanFits spec plan → text ≡ certificate_text spec plan c → IsReadAgain spec plan c text
printed_again spec plan c text fits is = subst (IsReadAgain spec plan c) (sym is) (text_again spec plan c fits)
