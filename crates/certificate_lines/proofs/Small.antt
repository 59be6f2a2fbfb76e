-- The numbers of a line that is read have at most 32 bits.
use Rattle.std.proofs.Common.{◌≡◌, ℕ, Bool, true, false, cond, leb, List, [], ◌∷◌, subst}
use Rattle.std.specs.Prelude.{Option, Some, None, codes}
use Rattle.std.specs.List.{AllByRecursion}
use Rattle.std.specs.Str.{bytes_eq}
use Rattle.std.proofs.lemmas.Bool.{leb-true}
use Rattle.ind_base.specs.Numbers.{num_of}
use Rattle.ground_clauses.specs.declared.clauses.Lit.{Lit}
use Rattle.line_text.specs.Reads.{◌>>=◌}
use Rattle.line_text.proofs.Inverse.{bind_some, some_same, tested}
use Rattle.certificate_lines.specs.declared.line.KindLine.{KindLine}
use Rattle.certificate_lines.specs.declared.line.TextLine.{TextLine}
use Rattle.certificate_lines.specs.declared.line.TextLine.TheVariants as lines
use Rattle.certificate_lines.specs.Words.{cut_words, words_of}
use Rattle.certificate_lines.specs.Forms.{alone, case_form, each, ended, form, kind_form, line_of, lit_of, narrow, number_at, number_of, pair_of, plan_form, refuted_form, sep_form, sign_of, step_form, word_at}
use Rattle.certificate_lines.specs.Texts.{IsSmall, StepSpelt}

-- its numbers outside of keys have at most 32 bits
abbrev pub HasSmall : TextLine → Type 0
HasSmall lines.Plan = Unit {0}
HasSmall (lines.Lock k) = IsSmall k.number
HasSmall (lines.Part k) = IsSmall k.number
HasSmall lines.Certificate = Unit {0}
HasSmall (lines.SepLock case lock) = IsSmall case × IsSmall lock
HasSmall (lines.SepPart case part) = IsSmall case × IsSmall part
HasSmall (lines.Refuted case count) = IsSmall case × IsSmall count
HasSmall (lines.Step s) = StepSpelt s
HasSmall lines.End = Unit {0}

-- all that is read is so
abbrev Shows : {A : Type 0} → (A → Type 0) → Option A → Type 0
Shows {A} P read = (x : A) → read ≡ Some x → P x

either_small : {A : Type 0} (P : A → Type 0) (one other : Option A) (t : Bool) → Shows P one → Shows P other → Shows P (cond t one other)
either_small P one other true h k = h
either_small P one other false h k = k

none_small : {A : Type 0} (P : A → Type 0) → Shows P None
none_small P x e = absurd cc

some_small : {A : Type 0} (P : A → Type 0) (y : A) → P y → Shows P (Some y)
some_small P y h x e = subst P (some_same y x e) h

narrow_small : (o : Option ℕ) → Shows IsSmall (narrow o)
narrow_small None n e = absurd cc
narrow_small (Some m) n e = let h = tested (leb m 4294967295) m n e in subst IsSmall h.1 (leb-true m 4294967295 h.0)

number_small : (w : List ℕ) → Shows IsSmall (number_of w)
unfolding number_of
number_small w = narrow_small (num_of w)

lit_small : (w : List ℕ) → Shows (λ x. IsSmall x.var) (lit_of w)
unfolding lit_of
lit_small [] x e = absurd cc
lit_small (b ∷ bs) x e =
    let s = bind_some (sign_of b) _ x e in
    let n = bind_some (number_of bs) _ x s.2 in
    subst (λ (y : Lit). IsSmall y.var) (some_same _ x n.2) (number_small bs n.0 n.1)

each_small : {A : Type 0} (P : A → Type 0) (read : List ℕ → Option A) → ((w : List ℕ) → Shows P (read w)) → (ws : List (List ℕ)) → Shows (AllByRecursion P) (each read ws)
each_small P read so [] xs e = subst (AllByRecursion P) (some_same [] xs e) tt
each_small {A} P read so (w ∷ ws) xs e =
    let h = bind_some (read w) (λ (x : A). each read ws >>= λ ys. Some (x ∷ ys)) xs e in
    let k = bind_some (each read ws) (λ (ys : List A). Some (h.0 ∷ ys)) xs h.2 in
    subst (AllByRecursion P) (some_same (h.0 ∷ k.0) xs k.2) (so w h.0 h.1, each_small P read so ws k.0 k.1)

abbrev FirstSmall : ℕ × List (List ℕ) → Type 0
FirstSmall p = IsSmall p.0

number_at_small : (ws : List (List ℕ)) → Shows FirstSmall (number_at ws)
unfolding number_at
number_at_small ws p e =
    let w = bind_some (word_at ws) _ p e in
    let n = bind_some (number_of w.0.0) _ p w.2 in
    subst FirstSmall (some_same (n.0, w.0.1) p n.2) (number_small w.0.0 n.0 n.1)

kind_small : (ws : List (List ℕ)) → Shows (λ k. IsSmall k.number) (kind_form ws)
unfolding kind_form
kind_small ws k e =
    let n = bind_some (number_at ws) _ k e in
    let a = bind_some (word_at n.0.1) _ k n.2 in
    let b = bind_some (word_at a.0.1) _ k a.2 in
    let c = bind_some (each pair_of b.0.1) _ k b.2 in
    subst (λ (x : KindLine). IsSmall x.number) (some_same _ k c.2) (number_at_small ws n.0 n.1)

sep_small : (case : ℕ) (ws : List (List ℕ)) → IsSmall case → Shows HasSmall (sep_form case ws)
unfolding sep_form
sep_small case ws small l e =
    let k = bind_some (word_at ws) _ l e in
    let n = bind_some (number_at k.0.1) _ l k.2 in
    let z = bind_some (ended n.0.1) _ l n.2 in
    let place = number_at_small k.0.1 n.0 n.1 in
    either_small HasSmall (Some (lines.SepLock case n.0.0)) (cond (bytes_eq k.0.0 (codes "part")) (Some (lines.SepPart case n.0.0)) None) (bytes_eq k.0.0 (codes "lock")) (some_small HasSmall (lines.SepLock case n.0.0) (small, place))
    (either_small HasSmall (Some (lines.SepPart case n.0.0)) None (bytes_eq k.0.0 (codes "part")) (some_small HasSmall (lines.SepPart case n.0.0) (small, place)) (none_small HasSmall)) l z.2

refuted_small : (case : ℕ) (ws : List (List ℕ)) → IsSmall case → Shows HasSmall (refuted_form case ws)
unfolding refuted_form
refuted_small case ws small l e =
    let n = bind_some (number_at ws) _ l e in
    let z = bind_some (ended n.0.1) _ l n.2 in
    some_small HasSmall (lines.Refuted case n.0.0) (small, number_at_small ws n.0 n.1) l z.2

case_small : (ws : List (List ℕ)) → Shows HasSmall (case_form ws)
unfolding case_form
case_small ws l e =
    let n = bind_some (number_at ws) _ l e in
    let v = bind_some (word_at n.0.1) _ l n.2 in
    let small = number_at_small ws n.0 n.1 in
    either_small HasSmall (sep_form n.0.0 v.0.1) (cond (bytes_eq v.0.0 (codes "refuted")) (refuted_form n.0.0 v.0.1) None) (bytes_eq v.0.0 (codes "sep")) (sep_small n.0.0 v.0.1 small)
    (either_small HasSmall (refuted_form n.0.0 v.0.1) None (bytes_eq v.0.0 (codes "refuted")) (refuted_small n.0.0 v.0.1 small) (none_small HasSmall)) l v.2

step_small : (ws : List (List ℕ)) → Shows StepSpelt (step_form ws)
unfolding step_form
step_small ws s e =
    let c = bind_some (cut_words ws) _ s e in
    let x = bind_some (each lit_of c.0.0) _ s c.2 in
    let y = bind_some (each number_of c.0.1) _ s x.2 in
    subst StepSpelt (some_same _ s y.2) (record { lits = each_small (λ (z : Lit). IsSmall z.var) lit_of lit_small c.0.0 x.0 x.1; hints = each_small IsSmall number_of number_small c.0.1 y.0 y.1 })

alone_small : (line : TextLine) (ws : List (List ℕ)) → HasSmall line → Shows HasSmall (alone line ws)
unfolding alone
alone_small line ws small l e =
    let z = bind_some (ended ws) _ l e in
    some_small HasSmall line small l z.2

kinds_small : (line : KindLine → TextLine) (ws : List (List ℕ)) → ((k : KindLine) → IsSmall k.number → HasSmall (line k)) → Shows HasSmall (kind_form ws >>= λ k. Some (line k))
kinds_small line ws so l e =
    let k = bind_some (kind_form ws) (λ (x : KindLine). Some (line x)) l e in
    some_small HasSmall (line k.0) (so k.0 (kind_small ws k.0 k.1)) l k.2

abbrev lock_line : KindLine → TextLine
lock_line k = lines.Lock k

abbrev part_line : KindLine → TextLine
part_line k = lines.Part k

plan_small : (w : List ℕ) (ws : List (List ℕ)) → Shows HasSmall (plan_form w ws)
unfolding plan_form
plan_small w ws =
    either_small HasSmall _ _ (bytes_eq w (codes "lock")) (kinds_small lock_line ws (λ k h. h))
    (either_small HasSmall _ _ (bytes_eq w (codes "part")) (kinds_small part_line ws (λ k h. h))
    (either_small HasSmall _ _ (bytes_eq w (codes "plan")) (alone_small lines.Plan ws tt)
    (either_small HasSmall _ _ (bytes_eq w (codes "certificate")) (alone_small lines.Certificate ws tt) (none_small HasSmall))))

steps_small : (ws : List (List ℕ)) → Shows HasSmall (step_form ws >>= λ s. Some (lines.Step s))
steps_small ws l e =
    let s = bind_some (step_form ws) _ l e in
    some_small HasSmall (lines.Step s.0) (step_small ws s.0 s.1) l s.2

form_small : (w : List ℕ) (ws : List (List ℕ)) → Shows HasSmall (form w ws)
unfolding form
form_small w ws =
    either_small HasSmall _ _ (bytes_eq w (codes "step")) (steps_small ws)
    (either_small HasSmall _ _ (bytes_eq w (codes "case")) (case_small ws)
    (either_small HasSmall _ _ (bytes_eq w (codes "end")) (alone_small lines.End ws tt) (plan_small w ws)))

pub line_small : (line : List ℕ) (l : TextLine) → line_of line ≡ Some l → HasSmall l
unfolding line_of
line_small line l e =
    let w = bind_some (word_at (words_of line)) _ l e in
    form_small w.0.0 w.0.1 l w.2
