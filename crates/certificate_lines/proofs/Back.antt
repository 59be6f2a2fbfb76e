-- A line is the text of what was read from it.
use Rattle.std.proofs.Common.{◌≡◌, ℕ, ◌^◌, Bool, true, false, cond, leb, eqb, ◌&&◌, List, [], ◌∷◌, ◌++◌, map, refl, sym, ap, subst, ◌∙◌}
use Rattle.std.specs.Prelude.{Option, Some, None, Result, Ok, Err, IfOk, codes, decimal, nat_lt}
use Rattle.std.specs.Str.{bytes_eq}
use Rattle.std.proofs.lemmas.Bool.{eqb-true, ltb-true}
use Rattle.ind_base.specs.Numbers.{num_of, value_after, is_canonical}
use Rattle.ind_base.proofs.Numerals.{canonical_is}
use Rattle.line_text.specs.Reads.{◌>>=◌, Gives}
use Rattle.line_text.specs.declared.cause.FormError.{FormError}
use Rattle.line_text.proofs.Guards.{and_true}
use Rattle.line_text.proofs.Inverse.{bind_some, some_same, same_bytes, there, tested}
use Rattle.ground_clauses.specs.declared.clauses.Lit.{Lit}
use Rattle.ground_clauses.specs.declared.clauses.Step.{Step}
use Rattle.spec_model.specs.declared.plan.Pair.{Pair}
use Rattle.certificate_lines.specs.declared.line.KindLine.{KindLine}
use Rattle.certificate_lines.specs.declared.line.TextLine.{TextLine}
use Rattle.certificate_lines.specs.declared.line.TextLine.TheVariants as lines
use Rattle.certificate_lines.specs.Words.{cut_at, cut_words, is_byte, is_semicolon, spaced, words_of}
use Rattle.certificate_lines.specs.Forms.{alone, case_form, each, ended, form, kind_form, line_of, lit_of, narrow, number_at, number_of, pair_of, plan_form, refuted_form, sep_form, sign_of, step_form, word_at}
use Rattle.certificate_lines.specs.Texts.{kind_words, line_text, lit_word, pair_word, step_words, words_said}
use Rattle.certificate_lines.proofs.Cuts.{cut_joined, words_spaced}

-- ---- words

narrow_back : (o : Option ℕ) (n : ℕ) → narrow o ≡ Some n → o ≡ Some n
narrow_back None n e = absurd cc
narrow_back (Some m) n e = ap (λ (k : ℕ). there k) (tested (leb m 4294967295) m n e).1

number_back : (w : List ℕ) (n : ℕ) → number_of w ≡ Some n → w ≡ decimal n
unfolding number_of
number_back w n e =
    let h = tested (is_canonical w && nat_lt (value_after 0 w) (2 ^ 64)) (value_after 0 w) n (narrow_back (num_of w) n e) in
    let k = and_true (is_canonical w) (nat_lt (value_after 0 w) (2 ^ 64)) h.0 in
    sym (canonical_is w k.0 (ltb-true (value_after 0 w) (2 ^ 64) k.1)) ∙ ap decimal h.1

abbrev pub sign_byte : Bool → ℕ
sign_byte s = cond s 43 45

minus_back : (b : ℕ) (s t : Bool) → eqb b 45 ≡ t → cond t (Some false) None ≡ Some s → b ≡ sign_byte s
minus_back b s true is e = eqb-true b 45 is ∙ ap sign_byte (some_same false s e)
minus_back b s false is e = absurd cc

sign_back : (b : ℕ) (s t : Bool) → eqb b 43 ≡ t → cond t (Some true) (cond (eqb b 45) (Some false) None) ≡ Some s → b ≡ sign_byte s
sign_back b s true is e = eqb-true b 43 is ∙ ap sign_byte (some_same true s e)
sign_back b s false is e = minus_back b s (eqb b 45) refl e

both_same : (b c : ℕ) (bs cs : List ℕ) → b ≡ c → bs ≡ cs → b ∷ bs ≡ c ∷ cs
both_same b c bs cs e f = cc

lit_back : (w : List ℕ) (x : Lit) → lit_of w ≡ Some x → w ≡ lit_word x
unfolding lit_of
lit_back [] x e = absurd cc
lit_back (b ∷ bs) x e =
    let s = bind_some (sign_of b) _ x e in
    let n = bind_some (number_of bs) _ x s.2 in
    subst (λ (y : Lit). b ∷ bs ≡ lit_word y) (some_same _ x n.2) (both_same b (sign_byte s.0) bs (decimal n.0) (sign_back b s.0 (eqb b 43) refl s.1) (number_back bs n.0 n.1))

sides_joined : (left right : List ℕ) (m : ℕ) (i j : ℕ) → m ≡ 61 → left ≡ decimal i → right ≡ decimal j → left ++ m ∷ right ≡ decimal i ++ 61 ∷ decimal j
sides_joined left right m i j e f g = rw (e, f, g) refl

pair_back : (w : List ℕ) (p : Pair) → pair_of w ≡ Some p → w ≡ pair_word p
unfolding pair_of cut_at
pair_back w p e =
    let c = bind_some (cut_at 61 w) _ p e in
    let i = bind_some (number_of c.0.0) _ p c.2 in
    let j = bind_some (number_of c.0.1) _ p i.2 in
    let h = cut_joined (is_byte 61) w c.0 c.1 in
    subst (λ (q : Pair). w ≡ pair_word q) (some_same _ p j.2) (h.2 ∙ sides_joined c.0.0 c.0.1 h.0 i.0 j.0 (eqb-true h.0 61 h.1) (number_back c.0.0 i.0 i.1) (number_back c.0.1 j.0 j.1))

each_back : {A : Type 0} → (read : List ℕ → Option A) (text : A → List ℕ) → ((w : List ℕ) (x : A) → read w ≡ Some x → w ≡ text x) → (ws : List (List ℕ)) (xs : List A) → each read ws ≡ Some xs → ws ≡ map text xs
each_back read text back [] xs e = ap (map text) (some_same [] xs e)
each_back {A} read text back (w ∷ ws) xs e =
    let h = bind_some (read w) (λ (x : A). each read ws >>= λ ys. Some (x ∷ ys)) xs e in
    let k = bind_some (each read ws) (λ (ys : List A). Some (h.0 ∷ ys)) xs h.2 in
    subst (λ (zs : List A). w ∷ ws ≡ map text zs) (some_same (h.0 ∷ k.0) xs k.2) (ap (λ (v : List ℕ). v ∷ ws) (back w h.0 h.1) ∙ ap (λ (us : List (List ℕ)). text h.0 ∷ us) (each_back read text back ws k.0 k.1))

abbrev first_word : List ℕ × List (List ℕ) → List (List ℕ)
first_word p = p.0 ∷ p.1

word_back : (ws : List (List ℕ)) (p : List ℕ × List (List ℕ)) → word_at ws ≡ Some p → ws ≡ p.0 ∷ p.1
unfolding word_at
word_back [] p e = absurd cc
word_back (w ∷ ws) p e = ap first_word (some_same (w, ws) p e)

number_first : (ws : List (List ℕ)) (p : ℕ × List (List ℕ)) → number_at ws ≡ Some p → ws ≡ decimal p.0 ∷ p.1
unfolding number_at
number_first ws p e =
    let w = bind_some (word_at ws) _ p e in
    let n = bind_some (number_of w.0.0) _ p w.2 in
    word_back ws w.0 w.1 ∙ ap (λ (v : List ℕ). v ∷ w.0.1) (number_back w.0.0 n.0 n.1) ∙ ap (λ (q : ℕ × List (List ℕ)). decimal q.0 ∷ q.1) (some_same (n.0, w.0.1) p n.2)

ended_back : (ws : List (List ℕ)) (u : Unit {0}) → ended ws ≡ Some u → ws ≡ []
unfolding ended
ended_back [] u e = refl
ended_back (w ∷ ws) u e = absurd cc

-- a word, and what is known of those behind it
word_then : (ws : List (List ℕ)) (p : List ℕ × List (List ℕ)) (us : List (List ℕ)) → word_at ws ≡ Some p → p.1 ≡ us → ws ≡ p.0 ∷ us
word_then ws p us e f = word_back ws p e ∙ ap (λ (vs : List (List ℕ)). p.0 ∷ vs) f

number_then : (ws : List (List ℕ)) (p : ℕ × List (List ℕ)) (us : List (List ℕ)) → number_at ws ≡ Some p → p.1 ≡ us → ws ≡ decimal p.0 ∷ us
number_then ws p us e f = number_first ws p e ∙ ap (λ (vs : List (List ℕ)). decimal p.0 ∷ vs) f

-- ---- lines

kind_back : (ws : List (List ℕ)) (k : KindLine) → kind_form ws ≡ Some k → ws ≡ kind_words k
unfolding kind_form
kind_back ws k e =
    let n = bind_some (number_at ws) _ k e in
    let a = bind_some (word_at n.0.1) _ k n.2 in
    let b = bind_some (word_at a.0.1) _ k a.2 in
    let c = bind_some (each pair_of b.0.1) _ k b.2 in
    subst (λ (x : KindLine). ws ≡ kind_words x) (some_same _ k c.2) (number_then ws n.0 _ n.1 (word_then n.0.1 a.0 _ a.1 (word_then a.0.1 b.0 _ b.1 (each_back pair_of pair_word pair_back b.0.1 c.0 c.1))))

abbrev verbed : ℕ → List ℕ → List (List ℕ) → List (List ℕ)
verbed case verb ws = codes "case" ∷ decimal case ∷ verb ∷ ws

part_back : (case place : ℕ) (kind : List ℕ) (l : TextLine) (t : Bool) → bytes_eq kind (codes "part") ≡ t → cond t (Some (lines.SepPart case place)) None ≡ Some l → verbed case (codes "sep") (kind ∷ decimal place ∷ []) ≡ words_said l
part_back case place kind l true is e = ap (λ (w : List ℕ). verbed case (codes "sep") (w ∷ decimal place ∷ [])) (same_bytes kind (codes "part") is) ∙ ap words_said (some_same (lines.SepPart case place) l e)
part_back case place kind l false is e = absurd cc

lock_back : (case place : ℕ) (kind : List ℕ) (l : TextLine) (t : Bool) → bytes_eq kind (codes "lock") ≡ t → cond t (Some (lines.SepLock case place)) (cond (bytes_eq kind (codes "part")) (Some (lines.SepPart case place)) None) ≡ Some l
    → verbed case (codes "sep") (kind ∷ decimal place ∷ []) ≡ words_said l
lock_back case place kind l true is e = ap (λ (w : List ℕ). verbed case (codes "sep") (w ∷ decimal place ∷ [])) (same_bytes kind (codes "lock") is) ∙ ap words_said (some_same (lines.SepLock case place) l e)
lock_back case place kind l false is e = part_back case place kind l (bytes_eq kind (codes "part")) refl e

sep_back : (case : ℕ) (ws : List (List ℕ)) (l : TextLine) → sep_form case ws ≡ Some l → verbed case (codes "sep") ws ≡ words_said l
unfolding sep_form
sep_back case ws l e =
    let k = bind_some (word_at ws) _ l e in
    let n = bind_some (number_at k.0.1) _ l k.2 in
    let z = bind_some (ended n.0.1) _ l n.2 in
    ap (verbed case (codes "sep")) (word_then ws k.0 _ k.1 (number_then k.0.1 n.0 [] n.1 (ended_back n.0.1 z.0 z.1))) ∙ lock_back case n.0.0 k.0.0 l (bytes_eq k.0.0 (codes "lock")) refl z.2

refuted_back : (case : ℕ) (ws : List (List ℕ)) (l : TextLine) → refuted_form case ws ≡ Some l → verbed case (codes "refuted") ws ≡ words_said l
unfolding refuted_form
refuted_back case ws l e =
    let n = bind_some (number_at ws) _ l e in
    let z = bind_some (ended n.0.1) _ l n.2 in
    ap (verbed case (codes "refuted")) (number_then ws n.0 [] n.1 (ended_back n.0.1 z.0 z.1)) ∙ ap words_said (some_same (lines.Refuted case n.0.0) l z.2)

counted_back : (case : ℕ) (verb : List ℕ) (ws : List (List ℕ)) (l : TextLine) (t : Bool) → bytes_eq verb (codes "refuted") ≡ t → cond t (refuted_form case ws) None ≡ Some l → verbed case verb ws ≡ words_said l
counted_back case verb ws l true is e = ap (λ (w : List ℕ). verbed case w ws) (same_bytes verb (codes "refuted") is) ∙ refuted_back case ws l e
counted_back case verb ws l false is e = absurd cc

verb_back : (case : ℕ) (verb : List ℕ) (ws : List (List ℕ)) (l : TextLine) (t : Bool) → bytes_eq verb (codes "sep") ≡ t → cond t (sep_form case ws) (cond (bytes_eq verb (codes "refuted")) (refuted_form case ws) None) ≡ Some l → verbed case verb ws ≡ words_said l
verb_back case verb ws l true is e = ap (λ (w : List ℕ). verbed case w ws) (same_bytes verb (codes "sep") is) ∙ sep_back case ws l e
verb_back case verb ws l false is e = counted_back case verb ws l (bytes_eq verb (codes "refuted")) refl e

case_back : (ws : List (List ℕ)) (l : TextLine) → case_form ws ≡ Some l → codes "case" ∷ ws ≡ words_said l
unfolding case_form
case_back ws l e =
    let n = bind_some (number_at ws) _ l e in
    let v = bind_some (word_at n.0.1) _ l n.2 in
    ap (λ (us : List (List ℕ)). codes "case" ∷ us) (number_then ws n.0 _ n.1 (word_back n.0.1 v.0 v.1)) ∙ verb_back n.0.0 v.0.0 v.0.1 l (bytes_eq v.0.0 (codes "sep")) refl v.2

step_parts : (front behind' : List (List ℕ)) (m : List ℕ) (lits : List (List ℕ)) (hints : List (List ℕ)) → m ≡ codes ";" → front ≡ lits → behind' ≡ hints → front ++ m ∷ behind' ≡ lits ++ codes ";" ∷ hints
step_parts front behind' m lits hints e f g = rw (e, f, g) refl

step_back : (ws : List (List ℕ)) (s : Step) → step_form ws ≡ Some s → ws ≡ step_words s
unfolding step_form cut_words
step_back ws s e =
    let c = bind_some (cut_words ws) _ s e in
    let x = bind_some (each lit_of c.0.0) _ s c.2 in
    let y = bind_some (each number_of c.0.1) _ s x.2 in
    let h = cut_joined is_semicolon ws c.0 c.1 in
    subst (λ (z : Step). ws ≡ step_words z) (some_same _ s y.2) (h.2 ∙ step_parts c.0.0 c.0.1 h.0 (map lit_word x.0) (map decimal y.0) (same_bytes h.0 (codes ";") h.1) (each_back lit_of lit_word lit_back c.0.0 x.0 x.1) (each_back number_of decimal number_back c.0.1 y.0 y.1))

alone_back : (line : TextLine) (w : List ℕ) (ws : List (List ℕ)) (l : TextLine) → w ∷ [] ≡ words_said line → alone line ws ≡ Some l → w ∷ ws ≡ words_said l
unfolding alone
alone_back line w ws l one e =
    let z = bind_some (ended ws) _ l e in
    ap (λ (us : List (List ℕ)). w ∷ us) (ended_back ws z.0 z.1) ∙ one ∙ ap words_said (some_same line l z.2)

-- the words of the line that a form gives, where it is the form of this word
abbrev Said : List ℕ → List (List ℕ) → Option TextLine → Type 0
Said w ws read = (l : TextLine) → read ≡ Some l → w ∷ ws ≡ words_said l

-- one word or another
either_word : (w expected : List ℕ) (ws : List (List ℕ)) (one other : Option TextLine) (t : Bool) → bytes_eq w expected ≡ t → Said expected ws one → Said w ws other → Said w ws (cond t one other)
either_word w expected ws one other true is yes' no' = λ l e. ap (λ (v : List ℕ). v ∷ ws) (same_bytes w expected is) ∙ yes' l e
either_word w expected ws one other false is yes' no' = no'

lock_said : (ws : List (List ℕ)) → Said (codes "lock") ws (kind_form ws >>= λ k. Some (lines.Lock k))
lock_said ws l e =
    let k = bind_some (kind_form ws) _ l e in
    ap (λ (us : List (List ℕ)). codes "lock" ∷ us) (kind_back ws k.0 k.1) ∙ ap words_said (some_same (lines.Lock k.0) l k.2)

part_said : (ws : List (List ℕ)) → Said (codes "part") ws (kind_form ws >>= λ k. Some (lines.Part k))
part_said ws l e =
    let k = bind_some (kind_form ws) _ l e in
    ap (λ (us : List (List ℕ)). codes "part" ∷ us) (kind_back ws k.0 k.1) ∙ ap words_said (some_same (lines.Part k.0) l k.2)

step_said : (ws : List (List ℕ)) → Said (codes "step") ws (step_form ws >>= λ s. Some (lines.Step s))
step_said ws l e =
    let s = bind_some (step_form ws) _ l e in
    ap (λ (us : List (List ℕ)). codes "step" ∷ us) (step_back ws s.0 s.1) ∙ ap words_said (some_same (lines.Step s.0) l s.2)

none_said : (w : List ℕ) (ws : List (List ℕ)) → Said w ws None
none_said w ws l e = absurd cc

plan_said : (w : List ℕ) (ws : List (List ℕ)) → Said w ws (plan_form w ws)
unfolding plan_form
plan_said w ws =
    either_word w (codes "lock") ws _ _ (bytes_eq w (codes "lock")) refl (lock_said ws)
    (either_word w (codes "part") ws _ _ (bytes_eq w (codes "part")) refl (part_said ws)
    (either_word w (codes "plan") ws _ _ (bytes_eq w (codes "plan")) refl (λ l e. alone_back lines.Plan (codes "plan") ws l refl e)
    (either_word w (codes "certificate") ws _ _ (bytes_eq w (codes "certificate")) refl (λ l e. alone_back lines.Certificate (codes "certificate") ws l refl e) (none_said w ws))))

form_said : (w : List ℕ) (ws : List (List ℕ)) → Said w ws (form w ws)
unfolding form
form_said w ws =
    either_word w (codes "step") ws _ _ (bytes_eq w (codes "step")) refl (step_said ws)
    (either_word w (codes "case") ws _ _ (bytes_eq w (codes "case")) refl (case_back ws)
    (either_word w (codes "end") ws _ _ (bytes_eq w (codes "end")) refl (λ l e. alone_back lines.End (codes "end") ws l refl e) (plan_said w ws)))

-- the bytes of a line are the text of what was read from it
pub line_back : (line : List ℕ) (l : TextLine) → line_of line ≡ Some l → line ≡ line_text l
unfolding line_of
line_back line l e =
    let w = bind_some (word_at (words_of line)) _ l e in
    sym (words_spaced line) ∙ ap spaced (word_back (words_of line) w.0 w.1 ∙ form_said w.0.0 w.0.1 l w.2)

-- the same of what a call gave
pub its_text : (line : List ℕ) (r : Result TextLine FormError) → Gives (λ x. x) r (line_of line) → IfOk r (λ x. line ≡ line_text x)
its_text line (Ok l) e = line_back line l e
its_text line (Err f) e = tt
