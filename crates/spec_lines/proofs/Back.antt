-- A line of a specification has the tokens that it was read from.
use Rattle.std.proofs.Common.{◌≡◌, ℕ, zero, suc, Bool, true, false, cond, List, [], ◌∷◌, ◌++◌, length, refl, sym, ap, subst, ◌∙◌, append_assoc, append-nil}
use Rattle.std.specs.Prelude.{Option, Some, None, Result, Ok, Err, codes}
use Rattle.std.specs.Str.{bytes_eq}
use Rattle.line_text.specs.declared.cause.Cause.{Cause}
use Rattle.line_text.specs.declared.token.Token.{Token}
use Rattle.line_text.specs.declared.token.Token.TheVariants.{Word, Number, Mark, Arrow}
use Rattle.line_text.specs.Reads.{◌>>=◌}
use Rattle.line_text.specs.Forms.{is_mark, after_mark, after_arrow, after_word, flag_at, word_at, number_at, ended, list_at, name_item}
use Rattle.line_text.proofs.Inverse.{bind_some, some_same, same_bytes, both, word_read, number_read, arrow_read, this_word_read, mark_is, word_is, flag_tokens, ended_read, listing_tokens, list_read, word_then, number_then, mark_then, list_then, list_last, flag_last, flag_there}
use Rattle.spec_model.specs.declared.spec.Rule.{Rule}
use Rattle.spec_model.specs.declared.spec.Rule.TheVariants as rules
use Rattle.spec_lines.specs.declared.item.NamedVar.{NamedVar}
use Rattle.spec_lines.specs.declared.item.NamedParam.{NamedParam}
use Rattle.spec_lines.specs.declared.item.NamedTerm.{NamedTerm}
use Rattle.spec_lines.specs.declared.item.NamedTerm.TheVariants as terms
use Rattle.spec_lines.specs.declared.line.NamedLiteral.{NamedLiteral}
use Rattle.spec_lines.specs.declared.line.NamedLiteral.TheVariants as literals
use Rattle.spec_lines.specs.declared.line.SpecLine.{SpecLine}
use Rattle.spec_lines.specs.declared.line.SpecLine.TheVariants as lines
use Rattle.spec_lines.specs.Texts.{rule_text}
use Rattle.spec_lines.specs.Items as items
use Rattle.spec_lines.specs.Literals as readers
use Rattle.spec_lines.specs.Forms as forms
use Rattle.spec_lines.proofs.Shapes.{name_tokens, var_tokens, param_tokens, term_tokens, literal_tokens, more_tokens, literals_tokens, bound_tokens, touch_word, change_word, tokens_of_line}

-- ---- items

name_back : (g : List Token) (w : List ℕ) → name_item g ≡ Some w → g ≡ name_tokens w
unfolding name_item
name_back g w e =
    let a = bind_some (word_at g) _ w e in
    let b = bind_some (ended a.0.1) _ w a.2 in
    subst (λ (v : List ℕ). g ≡ name_tokens v) (some_same a.0.0 w b.2) (word_then g a.0 [] a.1 (ended_read a.0.1 b.0 b.1))

var_back : (g : List Token) (v : NamedVar) → items.var_item g ≡ Some v → g ≡ var_tokens v
unfolding items.var_item
var_back g v e =
    let a = bind_some (word_at g) _ v e in
    let b = bind_some (after_mark 58 a.0.1) _ v a.2 in
    let c = bind_some (word_at b.0) _ v b.2 in
    let d = bind_some (ended c.0.1) _ v c.2 in
    subst (λ (x : NamedVar). g ≡ var_tokens x) (some_same _ v d.2) (word_then g a.0 _ a.1 (mark_then 58 a.0.1 b.0 _ b.1 (word_then b.0 c.0 [] c.1 (ended_read c.0.1 d.0 d.1))))

param_back : (g : List Token) (p : NamedParam) → items.param_item g ≡ Some p → g ≡ param_tokens p
unfolding items.param_item
param_back g p e =
    let a = bind_some (word_at g) _ p e in
    let b = bind_some (after_mark 58 a.0.1) _ p a.2 in
    let c = bind_some (word_at b.0) _ p b.2 in
    let d = bind_some (ended (flag_at (codes "interval") c.0.1).1) _ p c.2 in
    subst (λ (x : NamedParam). g ≡ param_tokens x) (some_same _ p d.2) (word_then g a.0 _ a.1 (mark_then 58 a.0.1 b.0 _ b.1 (word_then b.0 c.0 _ c.1 (flag_last (codes "interval") c.0.1 d.0 d.1))))

term_first : (t : Token) (x : NamedTerm) (star : Bool) → is_mark 42 t ≡ star → cond star (Some terms.Every) (word_at (t ∷ []) >>= λ w. Some (terms.Param w.0)) ≡ Some x → t ∷ [] ≡ term_tokens x
term_first t x true is e = subst (λ (y : NamedTerm). t ∷ [] ≡ term_tokens y) (some_same terms.Every x e) (both t (Mark 42) [] [] (mark_is 42 t is) refl)
term_first t x false is e =
    let h = bind_some (word_at (t ∷ [])) _ x e in
    let cut = word_read (t ∷ []) h.0 h.1 in
    let one : t ∷ [] ≡ Word h.0.0 ∷ [] = cc in
    subst (λ (y : NamedTerm). t ∷ [] ≡ term_tokens y) (some_same (terms.Param h.0.0) x h.2) one

term_back : (g : List Token) (x : NamedTerm) → items.term_item g ≡ Some x → g ≡ term_tokens x
unfolding items.term_item
term_back [] x e = absurd cc
term_back (t ∷ []) x e = term_first t x (is_mark 42 t) refl e
term_back (t ∷ u ∷ ts) x e = absurd cc

-- ---- literals

abbrev LiteralRead : List Token → NamedLiteral × List Token → Type 0
LiteralRead ts p = ts ≡ literal_tokens p.0 ++ p.1

atom_back : (name : List ℕ) (ts : List Token) (p : NamedLiteral × List Token) → readers.atom_behind name ts ≡ Some p → LiteralRead (Word name ∷ ts) p
unfolding readers.atom_behind
atom_back name ts p e =
    let h = bind_some (list_at name_item ts) _ p e in
    subst (LiteralRead (Word name ∷ ts)) (some_same (literals.Atom name h.0.0, h.0.1) p h.2) (ap (λ (us : List Token). Word name ∷ us) (list_read name_item name_tokens name_back ts h.0 h.1))

equal_back : (left : List ℕ) (ts : List Token) (p : NamedLiteral × List Token) → readers.equal_behind left ts ≡ Some p → LiteralRead (Word left ∷ ts) p
unfolding readers.equal_behind
equal_back left ts p e =
    let a = bind_some (after_mark 61 ts) _ p e in
    let b = bind_some (word_at a.0) _ p a.2 in
    subst (LiteralRead (Word left ∷ ts)) (some_same (literals.Equal left b.0.0, b.0.1) p b.2) (ap (λ (us : List Token). Word left ∷ us) (mark_then 61 ts a.0 _ a.1 (word_read a.0 b.0 b.1)))

either_back : (name : List ℕ) (ts : List Token) (p : NamedLiteral × List Token) (atom : Bool) → cond atom (readers.atom_behind name ts) (readers.equal_behind name ts) ≡ Some p → LiteralRead (Word name ∷ ts) p
either_back name ts p true e = atom_back name ts p e
either_back name ts p false e = equal_back name ts p e

literal_back : (ts : List Token) (p : NamedLiteral × List Token) → readers.literal_at ts ≡ Some p → LiteralRead ts p
unfolding readers.literal_at
literal_back ts p e =
    let h = bind_some (word_at ts) _ p e in
    word_read ts h.0 h.1 ∙ either_back h.0.0 h.0.1 p (readers.has_mark_next 40 h.0.1) h.2

-- some literals, and what stands behind them
abbrev Among : List ℕ → List Token → List NamedLiteral → List Token → Type 0
Among word ts [] rest = ⊥
Among word ts (x ∷ xs) rest = ts ≡ (literal_tokens x ++ more_tokens word xs) ++ rest

abbrev LiteralsRead : List ℕ → List Token → List NamedLiteral × List Token → Type 0
LiteralsRead word ts p = Among word ts p.0 p.1

literals_more : (word : List ℕ) (x : NamedLiteral) (ts behind others : List Token) (ys : List NamedLiteral) (rest : List Token) → ts ≡ literal_tokens x ++ behind → behind ≡ Word word ∷ others → Among word others ys rest → ts ≡ (literal_tokens x ++ more_tokens word ys) ++ rest
literals_more word x ts behind others [] rest e f h = absurd h
literals_more word x ts behind others (y ∷ ys) rest e f h =
    e ∙ ap (λ (us : List Token). literal_tokens x ++ us) (f ∙ ap (λ (us : List Token). Word word ∷ us) h) ∙ sym (append_assoc (literal_tokens x) (more_tokens word (y ∷ ys)) rest)

literals_turn : (n : ℕ) (word : List ℕ) (ts : List Token) (first : NamedLiteral × List Token) (p : List NamedLiteral × List Token) (more : Bool) → (flag_at word first.1).0 ≡ more → LiteralRead ts first
    → ((us : List Token) (q : List NamedLiteral × List Token) → readers.literals_within n word us ≡ Some q → LiteralsRead word us q)
    → cond more (readers.literals_within n word (flag_at word first.1).1 >>= λ found. Some (first.0 ∷ found.0, found.1)) (Some (first.0 ∷ [], first.1)) ≡ Some p → LiteralsRead word ts p
literals_turn n word ts first p true is read rest e =
    let h = bind_some (readers.literals_within n word (flag_at word first.1).1) _ p e in
    subst (LiteralsRead word ts) (some_same (first.0 ∷ h.0.0, h.0.1) p h.2) (literals_more word first.0 ts first.1 (flag_at word first.1).1 h.0.0 h.0.1 read (flag_there word first.1 is) (rest (flag_at word first.1).1 h.0 h.1))
literals_turn n word ts first p false is read rest e =
    subst (LiteralsRead word ts) (some_same (first.0 ∷ [], first.1) p e) (read ∙ ap (λ (us : List Token). us ++ first.1) (sym (append-nil (literal_tokens first.0))))

literals_back : (fuel : ℕ) (word : List ℕ) (ts : List Token) (p : List NamedLiteral × List Token) → readers.literals_within fuel word ts ≡ Some p → LiteralsRead word ts p
unfolding readers.literals_within
literals_back zero word ts p e = absurd cc
literals_back (suc n) word ts p e =
    let h = bind_some (readers.literal_at ts) _ p e in
    literals_turn n word ts h.0 p (flag_at word h.0.1).0 refl (literal_back ts h.0 h.1) (λ us q k. literals_back n word us q k) h.2

literals_said : (word : List ℕ) (ts : List Token) (xs : List NamedLiteral) (rest : List Token) → Among word ts xs rest → ts ≡ literals_tokens word xs ++ rest
literals_said word ts [] rest h = absurd h
literals_said word ts (x ∷ xs) rest h = h

abbrev PremiseRead : List Token → List NamedLiteral × List Token → Type 0
PremiseRead ts p = ts ≡ literals_tokens (codes "and") p.0 ++ (Arrow ∷ p.1)

premise_kind : (ts : List Token) (p : List NamedLiteral × List Token) (none : Bool)
    → cond none (after_arrow ts >>= λ behind. Some ([], behind)) (readers.literals_at (codes "and") ts >>= λ found. (after_arrow found.1 >>= λ behind. Some (found.0, behind))) ≡ Some p → PremiseRead ts p
premise_kind ts p true e =
    let h = bind_some (after_arrow ts) _ p e in
    subst (PremiseRead ts) (some_same ([], h.0) p h.2) (arrow_read ts h.0 h.1)
premise_kind ts p false e =
    let h = bind_some (readers.literals_at (codes "and") ts) _ p e in
    let k = bind_some (after_arrow h.0.1) _ p h.2 in
    subst (PremiseRead ts) (some_same (h.0.0, k.0) p k.2)
    (literals_said (codes "and") ts h.0.0 h.0.1 (literals_back (length ts) (codes "and") ts h.0 h.1) ∙ ap (λ (us : List Token). literals_tokens (codes "and") h.0.0 ++ us) (arrow_read h.0.1 k.0 k.1))

premise_back : (ts : List Token) (p : List NamedLiteral × List Token) → readers.premise_at ts ≡ Some p → PremiseRead ts p
unfolding readers.premise_at
premise_back ts p e = premise_kind ts p (readers.has_arrow_next ts) e

conclusion_back : (ts : List Token) (xs : List NamedLiteral) → readers.conclusion_of ts ≡ Some xs → ts ≡ literals_tokens (codes "or") xs
unfolding readers.conclusion_of
conclusion_back [] xs e = ap (literals_tokens (codes "or")) (some_same [] xs e)
conclusion_back (t ∷ ts) xs e =
    let h = bind_some (readers.literals_at (codes "or") (t ∷ ts)) _ xs e in
    let k = bind_some (ended h.0.1) _ xs h.2 in
    let read = literals_said (codes "or") (t ∷ ts) h.0.0 h.0.1 (literals_back (length (t ∷ ts)) (codes "or") (t ∷ ts) h.0 h.1) in
    subst (λ (ys : List NamedLiteral). t ∷ ts ≡ literals_tokens (codes "or") ys) (some_same h.0.0 xs k.2)
    (read ∙ ap (λ (us : List Token). literals_tokens (codes "or") h.0.0 ++ us) (ended_read h.0.1 k.0 k.1) ∙ append-nil (literals_tokens (codes "or") h.0.0))

mask_last : (t : Token) (b : Bool) → readers.is_mask t ≡ b → t ∷ [] ≡ cond b [] (t ∷ []) ++ flag_tokens b (codes "mask")
unfolding readers.is_mask
mask_last t true is = both t (Word (codes "mask")) [] [] (word_is (codes "mask") t is) refl
mask_last t false is = refl

mask_back : (ts : List Token) → ts ≡ readers.without_mask ts ++ flag_tokens (readers.has_mask ts) (codes "mask")
mask_back [] = refl
mask_back (t ∷ []) = mask_last t (readers.is_mask t) refl
mask_back (t ∷ u ∷ ts) = ap (λ (us : List Token). t ∷ us) (mask_back (u ∷ ts))

-- ---- lines

abbrev Read : List ℕ → List Token → SpecLine → Type 0
Read word ts line = Word word ∷ ts ≡ tokens_of_line line

abbrev behind : List ℕ → List Token → List Token
behind word ts = Word word ∷ ts

sort_back : (ts : List Token) (line : SpecLine) → forms.sort_form ts ≡ Some line → Read (codes "sort") ts line
unfolding forms.sort_form
sort_back ts line e =
    let a = bind_some (word_at ts) _ line e in
    let b = bind_some (number_at a.0.1) _ line a.2 in
    let c = bind_some (ended b.0.1) _ line b.2 in
    subst (Read (codes "sort") ts) (some_same _ line c.2) (ap (behind (codes "sort")) (word_then ts a.0 _ a.1 (number_then a.0.1 b.0 [] b.1 (ended_read b.0.1 c.0 c.1))))

rule_tested : (w v : List ℕ) (r s : Rule) (t : Bool) (rest : Option Rule) → bytes_eq w v ≡ t → rule_text r ≡ v → (rest ≡ Some s → w ≡ rule_text s) → cond t (Some r) rest ≡ Some s → w ≡ rule_text s
rule_tested w v r s true rest is text later e = same_bytes w v is ∙ sym text ∙ ap rule_text (some_same r s e)
rule_tested w v r s false rest is text later e = later e

rule_back : (w : List ℕ) (r : Rule) → forms.rule_of w ≡ Some r → w ≡ rule_text r
rule_back w r e =
    rule_tested w (codes "add_wins") rules.AddWins r (bytes_eq w (codes "add_wins")) _ refl refl
    (λ f. rule_tested w (codes "remove_wins") rules.RemoveWins r (bytes_eq w (codes "remove_wins")) _ refl refl
    (λ g. rule_tested w (codes "locked") rules.Locked r (bytes_eq w (codes "locked")) None refl refl (λ h. absurd (nothing h)) g) f) e
  where
    nothing : {A : Type 0} {x : A} → None ≡ Some x → ⊥
    nothing h = absurd cc

pred_back : (ts : List Token) (line : SpecLine) → forms.pred_form ts ≡ Some line → Read (codes "pred") ts line
unfolding forms.pred_form
pred_back ts line e =
    let a = bind_some (word_at ts) _ line e in
    let b = bind_some (list_at name_item a.0.1) _ line a.2 in
    let c = bind_some (word_at b.0.1) _ line b.2 in
    let r = bind_some (forms.rule_of c.0.0) _ line c.2 in
    let d = bind_some (ended (flag_at (codes "true") c.0.1).1) _ line r.2 in
    let rule = ap (λ (w : List ℕ). Word w ∷ flag_tokens (flag_at (codes "true") c.0.1).0 (codes "true")) (rule_back c.0.0 r.0 r.1) in
    subst (Read (codes "pred") ts) (some_same _ line d.2) (ap (behind (codes "pred")) (word_then ts a.0 _ a.1 (list_then name_item name_tokens name_back a.0.1 b.0 _ b.1 (word_then b.0.1 c.0 _ c.1 (flag_last (codes "true") c.0.1 d.0 d.1) ∙ rule))))

abbrev BoundRead : List ℕ → List Token → Option ℕ × List Token → Type 0
BoundRead word ts p = ts ≡ bound_tokens word p.0 ++ p.1

bound_kind : (word : List ℕ) (ts : List Token) (p : Option ℕ × List Token) (given : Bool) → (flag_at word ts).0 ≡ given → cond given (number_at (flag_at word ts).1 >>= λ n. Some (Some n.0, n.1)) (Some (None, ts)) ≡ Some p → BoundRead word ts p
bound_kind word ts p true is e =
    let h = bind_some (number_at (flag_at word ts).1) _ p e in
    subst (BoundRead word ts) (some_same (Some h.0.0, h.0.1) p h.2) (flag_there word ts is ∙ ap (behind word) (number_read (flag_at word ts).1 h.0 h.1))
bound_kind word ts p false is e = subst (BoundRead word ts) (some_same (None, ts) p e) refl

bound_back : (word : List ℕ) (ts : List Token) (p : Option ℕ × List Token) → forms.bound_at word ts ≡ Some p → BoundRead word ts p
unfolding forms.bound_at
bound_back word ts p e = bound_kind word ts p (flag_at word ts).0 refl e

bounds_last : (ts : List Token) (low high : Option ℕ × List Token) (u : Unit {0}) → BoundRead (codes "min") ts low → BoundRead (codes "max") low.1 high → ended high.1 ≡ Some u → ts ≡ bound_tokens (codes "min") low.0 ++ bound_tokens (codes "max") high.0
bounds_last ts low high u a b e =
    a ∙ ap (λ (us : List Token). bound_tokens (codes "min") low.0 ++ us) (b ∙ ap (λ (us : List Token). bound_tokens (codes "max") high.0 ++ us) (ended_read high.1 u e) ∙ append-nil (bound_tokens (codes "max") high.0))

num_back : (ts : List Token) (line : SpecLine) → forms.num_form ts ≡ Some line → Read (codes "num") ts line
unfolding forms.num_form
num_back ts line e =
    let a = bind_some (word_at ts) _ line e in
    let b = bind_some (list_at name_item a.0.1) _ line a.2 in
    let c = bind_some (after_word (codes "init") b.0.1) _ line b.2 in
    let i = bind_some (number_at c.0) _ line c.2 in
    let low = bind_some (forms.bound_at (codes "min") i.0.1) _ line i.2 in
    let high = bind_some (forms.bound_at (codes "max") low.0.1) _ line low.2 in
    let d = bind_some (ended high.0.1) _ line high.2 in
    let bounds = bounds_last i.0.1 low.0 high.0 d.0 (bound_back (codes "min") i.0.1 low.0 low.1) (bound_back (codes "max") low.0.1 high.0 high.1) d.1 in
    subst (Read (codes "num") ts) (some_same _ line d.2) (ap (behind (codes "num")) (word_then ts a.0 _ a.1 (list_then name_item name_tokens name_back a.0.1 b.0 _ b.1 (this_word_read (codes "init") b.0.1 c.0 c.1 ∙ ap (behind (codes "init")) (number_then c.0 i.0 _ i.1 bounds)))))

clause_back : (ts : List Token) (line : SpecLine) → forms.clause_form ts ≡ Some line → Read (codes "clause") ts line
unfolding forms.clause_form
clause_back ts line e =
    let a = bind_some (list_at items.var_item ts) _ line e in
    let b = bind_some (readers.premise_at a.0.1) _ line a.2 in
    let c = bind_some (readers.conclusion_of (readers.without_mask b.0.1)) _ line b.2 in
    let end = mask_back b.0.1 ∙ ap (λ (us : List Token). us ++ flag_tokens (readers.has_mask b.0.1) (codes "mask")) (conclusion_back (readers.without_mask b.0.1) c.0 c.1) in
    let premise = premise_back a.0.1 b.0 b.1 ∙ ap (λ (us : List Token). literals_tokens (codes "and") b.0.0 ++ (Arrow ∷ us)) end in
    subst (Read (codes "clause") ts) (some_same _ line c.2) (ap (behind (codes "clause")) (list_then items.var_item var_tokens var_back ts a.0 _ a.1 premise))

op_back : (ts : List Token) (line : SpecLine) → forms.op_form ts ≡ Some line → Read (codes "op") ts line
unfolding forms.op_form
op_back ts line e =
    let a = bind_some (word_at ts) _ line e in
    let b = bind_some (list_at items.param_item a.0.1) _ line a.2 in
    let c = bind_some (ended b.0.1) _ line b.2 in
    subst (Read (codes "op") ts) (some_same _ line c.2) (ap (behind (codes "op")) (word_then ts a.0 _ a.1 (list_last items.param_item param_tokens param_back a.0.1 b.0 c.0 b.1 c.1)))

touch_back : (truth : Bool) (ts : List Token) (line : SpecLine) → forms.touch_form truth ts ≡ Some line → Read (touch_word truth) ts line
unfolding forms.touch_form
touch_back truth ts line e =
    let a = bind_some (word_at ts) _ line e in
    let b = bind_some (list_at items.term_item a.0.1) _ line a.2 in
    let c = bind_some (ended b.0.1) _ line b.2 in
    subst (Read (touch_word truth) ts) (some_same _ line c.2) (ap (behind (touch_word truth)) (word_then ts a.0 _ a.1 (list_last items.term_item term_tokens term_back a.0.1 b.0 c.0 b.1 c.1)))

change_back : (raises : Bool) (ts : List Token) (line : SpecLine) → forms.change_form raises ts ≡ Some line → Read (change_word raises) ts line
unfolding forms.change_form
change_back raises ts line e =
    let n = bind_some (number_at ts) _ line e in
    let a = bind_some (word_at n.0.1) _ line n.2 in
    let b = bind_some (list_at name_item a.0.1) _ line a.2 in
    let c = bind_some (ended b.0.1) _ line b.2 in
    subst (Read (change_word raises) ts) (some_same _ line c.2) (ap (behind (change_word raises)) (number_then ts n.0 _ n.1 (word_then n.0.1 a.0 _ a.1 (list_last name_item name_tokens name_back a.0.1 b.0 c.0 b.1 c.1))))

free_back : (ts : List Token) (line : SpecLine) → forms.free_form ts ≡ Some line → Read (codes "free") ts line
unfolding forms.free_form
free_back ts line e =
    let a = bind_some (word_at ts) _ line e in
    let b = bind_some (word_at a.0.1) _ line a.2 in
    let c = bind_some (ended b.0.1) _ line b.2 in
    subst (Read (codes "free") ts) (some_same _ line c.2) (ap (behind (codes "free")) (word_then ts a.0 _ a.1 (word_then a.0.1 b.0 [] b.1 (ended_read b.0.1 c.0 c.1))))

abbrev found : SpecLine → Result (Option SpecLine) Cause
found line = Ok (Some line)

formed_back : (w : List ℕ) (ts : List Token) (o : Option SpecLine) (line : SpecLine) → (o ≡ Some line → Read w ts line) → forms.formed o ≡ Ok (Some line) → Read w ts line
formed_back w ts None line back e = absurd cc
formed_back w ts (Some x) line back e = back cc

-- the form of this word, or else a later one
chosen : (w v : List ℕ) (ts : List Token) (o : Option SpecLine) (rest : Result (Option SpecLine) Cause) (line : SpecLine) (this : Bool) → bytes_eq w v ≡ this → (o ≡ Some line → Read v ts line) → (rest ≡ Ok (Some line) → Read w ts line) → cond this (forms.formed o) rest ≡ Ok (Some line) → Read w ts line
chosen w v ts o rest line true is back later e = ap (λ (u : List ℕ). Word u ∷ ts) (same_bytes w v is) ∙ formed_back v ts o line back e
chosen w v ts o rest line false is back later e = later e

none_found : (line : SpecLine) → Ok None ≡ found line → ⊥
none_found line e = absurd cc

-- a line of a specification has the tokens that it was read from
pub line_back : (w : List ℕ) (ts : List Token) (line : SpecLine) → forms.spec_line w ts ≡ Ok (Some line) → Word w ∷ ts ≡ tokens_of_line line
unfolding forms.spec_line
line_back w ts line e =
    chosen w (codes "sort") ts (forms.sort_form ts) _ line (bytes_eq w (codes "sort")) refl (sort_back ts line)
    (chosen w (codes "pred") ts (forms.pred_form ts) _ line (bytes_eq w (codes "pred")) refl (pred_back ts line)
    (chosen w (codes "num") ts (forms.num_form ts) _ line (bytes_eq w (codes "num")) refl (num_back ts line)
    (chosen w (codes "clause") ts (forms.clause_form ts) _ line (bytes_eq w (codes "clause")) refl (clause_back ts line)
    (chosen w (codes "op") ts (forms.op_form ts) _ line (bytes_eq w (codes "op")) refl (op_back ts line)
    (chosen w (codes "set") ts (forms.touch_form true ts) _ line (bytes_eq w (codes "set")) refl (touch_back true ts line)
    (chosen w (codes "clear") ts (forms.touch_form false ts) _ line (bytes_eq w (codes "clear")) refl (touch_back false ts line)
    (chosen w (codes "add") ts (forms.change_form true ts) _ line (bytes_eq w (codes "add")) refl (change_back true ts line)
    (chosen w (codes "sub") ts (forms.change_form false ts) _ line (bytes_eq w (codes "sub")) refl (change_back false ts line)
    (chosen w (codes "free") ts (forms.free_form ts) _ line (bytes_eq w (codes "free")) refl (free_back ts line)
    (λ f. absurd (none_found line f))))))))))) e
