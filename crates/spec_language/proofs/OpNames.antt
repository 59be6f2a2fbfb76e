-- The names of operations that are read tell them apart.
use Rattle.std.proofs.Common.{◌≡◌, ℕ, zero, suc, ◌<◌, Bool, true, false, cond, not, ◌||◌, ◌⊎◌, inl, inr, List, [], ◌∷◌, ◌++◌, length, map, get_or, refl, sym, ap, subst, ◌∙◌, arith}
use Rattle.std.specs.Prelude.{Result, Ok, Err}
use Rattle.std.specs.List.{AllByRecursion}
use Rattle.std.specs.Str.{bytes_eq}
use Rattle.std.proofs.lemmas.Slice.Eq.{bytes_eq-Decides}
use Rattle.line_text.specs.declared.cause.Cause.{Cause}
use Rattle.line_text.specs.declared.token.Token.TheVariants.{Word}
use Rattle.line_text.specs.Spelling.{IsSpelt, all_word}
use Rattle.line_text.proofs.Again.{line_read}
use Rattle.line_text.proofs.Guards.{and_true, bind_ok, not_true, ok_same}
use Rattle.spec_lines.specs.declared.item.NamedParam.{NamedParam}
use Rattle.spec_lines.specs.declared.line.SpecLine.{SpecLine}
use Rattle.spec_lines.specs.declared.line.SpecLine.TheVariants as lines
use Rattle.spec_lines.proofs.Back.{line_back}
use Rattle.spec_lines.proofs.Spoken.{IsSpoken}
use Rattle.spec_language.specs.declared.draft.SpecDraft.{SpecDraft}
use Rattle.spec_language.specs.Again.{steps}
use Rattle.spec_language.specs.Draft as drafts
use Rattle.spec_language.specs.Names.{is_known, is_taken, place_in}
use Rattle.spec_language.specs.Naming.{HasOpNames, OpsAreNamed}
use Rattle.spec_language.specs.Reading.{draft_of, spec_of_draft}
use Rattle.spec_language.proofs.Limits.{all_one}
use Rattle.spec_language.proofs.SaidAgain.{Said, map_one, read_said}
use Rattle.spec_language.proofs.Taken as takens
use Rattle.spec_model.specs.Truths.{no_op}
use Rattle.spec_model.specs.declared.operation.Op.{Op}
use Rattle.spec_model.specs.declared.spec.Spec.{Spec}

-- ---- names alone

abbrev own : List ℕ → List ℕ
own w = w

abbrev name_of : Op → List ℕ
name_of o = o.name

-- each is that of no earlier one
abbrev AreApart : List (List ℕ) → Type 0
AreApart ws = (i : ℕ) → i < length ws → place_in own ws (get_or ws i []) ≡ i

record AreNames (ws : List (List ℕ)) : Type 0 where
  words : AllByRecursion (λ w. all_word w ≡ true) ws
  apart : AreApart ws

equal : (w : List ℕ) → bytes_eq w w ≡ true
equal w = (bytes_eq-Decides w w).1 refl

-- a place among the first stays
place_first : (w v : List ℕ) (ws more : List (List ℕ)) (t : Bool) → (place_in own ws v < length ws → place_in own (ws ++ more) v ≡ place_in own ws v)
    → cond t zero (suc (place_in own ws v)) < suc (length ws) → cond t zero (suc (place_in own (ws ++ more) v)) ≡ cond t zero (suc (place_in own ws v))
place_first w v ws more true rest lt = refl
place_first w v ws more false rest lt = ap suc (rest (omega arith))

place_stays : (v : List ℕ) (ws more : List (List ℕ)) → place_in own ws v < length ws → place_in own (ws ++ more) v ≡ place_in own ws v
place_stays v [] more lt = absurd (omega arith)
place_stays v (w ∷ ws) more lt = place_first w v ws more (bytes_eq w v) (λ h. place_stays v ws more h) lt

or_false : (a b : Bool) → (a || b) ≡ false → (a ≡ false) × (b ≡ false)
or_false true b e = absurd cc
or_false false b e = (refl, e)

-- a new name stands behind the others
place_last : (v : List ℕ) (ws : List (List ℕ)) → is_known own ws v ≡ false → place_in own (ws ++ v ∷ []) v ≡ length ws
place_last v [] e = rw (equal v) refl
place_last v (w ∷ ws) e =
    let h = or_false (bytes_eq w v) (is_known own ws v) e in
    rw (h.0) (ap suc (place_last v ws h.1))

get_first : (ws : List (List ℕ)) (v : List ℕ) (i : ℕ) → i < length ws → get_or (ws ++ v ∷ []) i [] ≡ get_or ws i []
get_first [] v i lt = absurd (omega arith)
get_first (w ∷ ws) v zero lt = refl
get_first (w ∷ ws) v (suc i) lt = get_first ws v i (omega arith)

get_last : (ws : List (List ℕ)) (v : List ℕ) → get_or (ws ++ v ∷ []) (length ws) [] ≡ v
get_last [] v = refl
get_last (w ∷ ws) v = get_last ws v

length_one : (ws : List (List ℕ)) (v : List ℕ) → length (ws ++ v ∷ []) ≡ suc (length ws)
length_one [] v = refl
length_one (w ∷ ws) v = ap suc (length_one ws v)

later : (m n : ℕ) → (m < n) ⊎ (m ≡ n) → (suc m < suc n) ⊎ (suc m ≡ suc n)
later m n (inl lt) = inl (omega (arith, lt))
later m n (inr same) = inr (ap suc same)

below_or_at : (m n : ℕ) → m < suc n → (m < n) ⊎ (m ≡ n)
below_or_at zero zero lt = inr refl
below_or_at zero (suc n) lt = inl (omega arith)
below_or_at (suc m) zero lt = absurd (omega (arith, lt))
below_or_at (suc m) (suc n) lt = later m n (below_or_at m n (omega (arith, lt)))

more_at : (ws : List (List ℕ)) (v : List ℕ) → AreApart ws → is_known own ws v ≡ false → (i : ℕ) → (i < length ws) ⊎ (i ≡ length ws) → place_in own (ws ++ v ∷ []) (get_or (ws ++ v ∷ []) i []) ≡ i
more_at ws v apart new i (inl before) =
    let here = apart i before in
    ap (place_in own (ws ++ v ∷ [])) (get_first ws v i before) ∙ place_stays (get_or ws i []) ws (v ∷ []) (omega (arith, here, before)) ∙ here
more_at ws v apart new i (inr last) =
    ap (λ (k : ℕ). place_in own (ws ++ v ∷ []) (get_or (ws ++ v ∷ []) k [])) last ∙ ap (place_in own (ws ++ v ∷ [])) (get_last ws v) ∙ place_last v ws new ∙ sym last

apart_more : (ws : List (List ℕ)) (v : List ℕ) → AreApart ws → is_known own ws v ≡ false → AreApart (ws ++ v ∷ [])
apart_more ws v apart new i lt = let size = length_one ws v in more_at ws v apart new i (below_or_at i (length ws) (omega (arith, lt, size)))

-- ---- operations

abbrev op_names : List Op → List (List ℕ)
op_names ops = map name_of ops

known_same : (ops : List Op) (w : List ℕ) → is_known own (op_names ops) w ≡ is_known name_of ops w
known_same [] w = refl
known_same (o ∷ ops) w = ap (λ (t : Bool). bytes_eq o.name w || t) (known_same ops w)

place_same : (ops : List Op) (w : List ℕ) → place_in name_of ops w ≡ place_in own (op_names ops) w
place_same [] w = refl
place_same (o ∷ ops) w = ap (λ (n : ℕ). cond (bytes_eq o.name w) zero (suc n)) (place_same ops w)

name_same : (ops : List Op) (i : ℕ) → (get_or ops i no_op).name ≡ get_or (op_names ops) i []
name_same [] i = refl
name_same (o ∷ ops) zero = refl
name_same (o ∷ ops) (suc i) = name_same ops i

count_same : (ops : List Op) → length (op_names ops) ≡ length ops
count_same [] = refl
count_same (o ∷ ops) = ap suc (count_same ops)

words_same : (ops : List Op) → AllByRecursion (λ w. all_word w ≡ true) (op_names ops) → AllByRecursion (λ o. all_word o.name ≡ true) ops
words_same [] h = tt
words_same (o ∷ ops) h = (h.0, words_same ops h.1)

-- effect lines leave names as they are
names_stay : (f : Op → Result Op Cause) → ((o p : Op) → f o ≡ Ok p → p.name ≡ o.name) → (ops new : List Op) → drafts.change_last f ops ≡ Ok new → op_names new ≡ op_names ops
names_stay f same [] new is = absurd cc
names_stay f same (op ∷ []) new is =
    let h = bind_ok (f op) (λ (o : Op). Ok (o ∷ [])) new is in
    ap op_names (sym (ok_same (h.0 ∷ []) new h.2)) ∙ ap (λ (w : List ℕ). w ∷ []) (same op h.0 h.1)
names_stay f same (op ∷ p ∷ ops) new is =
    let h = bind_ok (drafts.change_last f (p ∷ ops)) (λ (os : List Op). Ok (op ∷ os)) new is in
    ap op_names (sym (ok_same (op ∷ h.0) new h.2)) ∙ ap (λ (ws : List (List ℕ)). op.name ∷ ws) (names_stay f same (p ∷ ops) h.0 h.1)

abbrev NamesOf : SpecDraft → Type 0
NamesOf d = AreNames (op_names d.spec.ops)

stays : (d e : SpecDraft) → op_names e.spec.ops ≡ op_names d.spec.ops → NamesOf d → NamesOf e
stays d e same h = subst AreNames (sym same) h

effect_names : (d e : SpecDraft) (f : Op → Result Op Cause) → ((o p : Op) → f o ≡ Ok p → p.name ≡ o.name) → takens.EffectTaken d e f → NamesOf d → NamesOf e
effect_names d e f same t h = stays d e (ap (λ (x : SpecDraft). op_names x.spec.ops) (sym t.whole) ∙ names_stay f same d.spec.ops t.ops t.last) h

-- the name of a line of an operation is a word
name_word : (name : List ℕ) (params : List NamedParam) → IsSpoken (lines.Op name params) → all_word name ≡ true
name_word name params s =
    let r = line_read (_) (Word s.word ∷ s.tokens) s.said.read in
    let same = line_back s.word s.tokens (lines.Op name params) s.formed in
    (subst (AllByRecursion IsSpelt) same r.spelt).1.0.0

not_known : (spec : Spec) (w : List ℕ) → is_taken spec w ≡ false → is_known (λ o. o.name) spec.ops w ≡ false
unfolding is_taken
not_known spec w e = (or_false _ (is_known (λ o. o.name) spec.ops w) e).1

op_names_more : (d e : SpecDraft) (name : List ℕ) (params : List NamedParam) → all_word name ≡ true → takens.OpTaken d e name params → NamesOf d → NamesOf e
op_names_more d e name params word t h =
    let new = and_true (not (is_taken d.spec name)) _ t.new in
    let unknown = known_same d.spec.ops name ∙ not_known d.spec name (not_true (is_taken d.spec name) new.0) in
    let grown : op_names e.spec.ops ≡ op_names d.spec.ops ++ name ∷ [] = ap (λ (x : SpecDraft). op_names x.spec.ops) (sym t.whole) ∙ map_one name_of d.spec.ops _ in
    subst AreNames (sym grown) (record { words = all_one (λ (w : List ℕ). all_word w ≡ true) (op_names d.spec.ops) name h.words word; apart = apart_more (op_names d.spec.ops) name h.apart unknown })

step_names : (d e : SpecDraft) (line : SpecLine) → IsSpoken line → drafts.step d line ≡ Ok e → NamesOf d → NamesOf e
unfolding drafts.step
step_names d e (lines.Sort name size) s is = stays d e (ap (λ (x : SpecDraft). op_names x.spec.ops) (sym (takens.sort_taken d e name size is).whole))
step_names d e (lines.Pred name sorts rule first) s is = stays d e (ap (λ (x : SpecDraft). op_names x.spec.ops) (sym (takens.pred_taken d e name sorts rule first is).whole))
step_names d e (lines.Num name sorts init min max) s is = stays d e (ap (λ (x : SpecDraft). op_names x.spec.ops) (sym (takens.num_taken d e name sorts init min max is).whole))
step_names d e (lines.Clause vars premise conclusion mask) s is = stays d e (ap (λ (x : SpecDraft). op_names x.spec.ops) (sym (takens.clause_taken d e vars premise conclusion mask is).literals.whole))
step_names d e (lines.Op name params) s is = op_names_more d e name params (name_word name params s) (takens.op_taken d e name params is)
step_names d e (lines.Touch truth pred terms) s is = effect_names d e _ (λ o p q. sym (ap name_of (takens.touched d.spec.preds truth pred terms o p q).whole)) (takens.touch_taken d e truth pred terms is)
step_names d e (lines.Change raises amount num names) s is = effect_names d e _ (λ o p q. sym (ap name_of (takens.changed d.spec.nums raises amount num names o p q).whole)) (takens.change_taken d e raises amount num names is)
step_names d e (lines.Free first second) s is = stays d e (ap (λ (x : SpecDraft). op_names x.spec.ops) (sym (takens.free_taken d e first second is).whole))

steps_names : (d e : SpecDraft) (ls : List SpecLine) → AllByRecursion IsSpoken ls → steps d ls ≡ Ok e → NamesOf d → NamesOf e
steps_names d e [] s is h = subst NamesOf (ok_same d e is) h
steps_names d e (l ∷ ls) s is h =
    let b = bind_ok (drafts.step d l) (λ (f : SpecDraft). steps f ls) e is in
    steps_names b.0 e ls s.1 b.2 (step_names d b.0 l s.0 b.1 h)

-- the operations of a draft that was read are named
pub said_names : (d : SpecDraft) → Said d → HasOpNames d.spec
said_names d s =
    let h = steps_names drafts.fresh d _ s.spoken s.said (record { words = tt; apart = λ i lt. absurd (omega (arith, lt)) }) in
    let size = count_same d.spec.ops in
    record {
      words = words_same d.spec.ops h.words;
      apart = λ i lt. place_same d.spec.ops (get_or d.spec.ops i no_op).name ∙ ap (place_in own (op_names d.spec.ops)) (name_same d.spec.ops i) ∙ h.apart i (omega (arith, lt, size));
    }

abbrev good : Spec → Result Spec (ℕ × Cause)
good s = Ok s

same_spec : (a b : Spec) → good a ≡ good b → a ≡ b
same_spec a b e = cc

of_draft : (texts : List (List ℕ)) (r : Result SpecDraft (ℕ × Cause)) (s : Spec) → draft_of texts ≡ r → spec_of_draft r ≡ Ok s → HasOpNames s
of_draft texts (Ok d) s is e = subst HasOpNames (same_spec d.spec s e) (said_names d (read_said texts d is))
of_draft texts (Err c) s is e = absurd cc

-- the operations of a specification that is read are named
pub ops_named : OpsAreNamed
ops_named texts s is = of_draft texts (draft_of texts) s refl is
