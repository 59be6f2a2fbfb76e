-- Literals that are made true and taken back, one after the other.
use Rattle.std.proofs.Common.{◌≡◌, ◌≢◌, ℕ, zero, suc, ◌+◌, ◌<◌, ◌≤◌, Bool, true, false, not, cond, List, [], ◌∷◌, ◌++◌, length, get_or, set, take, drop, refl, sym, ap, subst, ◌∙◌, inl, inr}
use Rattle.std.specs.Prelude.{slice_get, Some, None}
use Rattle.std.proofs.lemmas.Bool.{cases_eq}
use Rattle.std.proofs.lemmas.Option.{slice_get-get_or}
use Rattle.std.proofs.lemmas.List.{drop_more, get_or-set_other, get_or-set_same, length-replicate, length-set, set-get_or, set-set, take-append-drop}
use Rattle.std.proofs.lemmas.List.Elements.{filter-append}
use Rattle.ground_clauses.specs.declared.clauses.Lit.{Lit}
use Rattle.clause_solver.specs.Assigning.{is_yes, kind_of, left, lit_false, value_at, value_of, with_lit}
use Rattle.clause_solver.specs.Trails.{Follow, Grows, IsEntry, IsTrail, blank, values_after}
use Rattle.clause_solver.specs.declared.assignment.Entry.{Entry}
use Rattle.clause_solver.specs.declared.assignment.Left.TheVariants.{Nothing, Many}
use Rattle.clause_solver.specs.declared.assignment.Trail.{Trail}
use Rattle.clause_solver.specs.declared.assignment.Value.{Value}
use Rattle.clause_solver.specs.declared.assignment.Value.TheVariants.{Open, No, Yes}

pub value_not_open : (b : Bool) → value_of b ≢ Open
value_not_open true e = cc
value_not_open false e = cc

pub values_after-push : (vs : List Value) (es : List Entry) (e : Entry) → values_after vs (es ++ e ∷ []) ≡ with_lit (values_after vs es) e.lit
values_after-push vs [] e = refl
values_after-push vs (d ∷ es) e = values_after-push (with_lit vs d.lit) es e

pub length-values_after : (vs : List Value) (es : List Entry) → length (values_after vs es) ≡ length vs
length-values_after vs [] = refl
length-values_after vs (e ∷ es) = length-values_after (with_lit vs e.lit) es ∙ length-set vs e.lit.var (value_of e.lit.yes)

pub follow-push : (rows : List (List Lit)) (vs : List Value) (es : List Entry) (e : Entry) → Follow rows vs es → IsEntry rows (values_after vs es) e → Follow rows vs (es ++ e ∷ [])
follow-push rows vs [] e f is = (is, tt)
follow-push rows vs (d ∷ es) e f is = (f.0, follow-push rows (with_lit vs d.lit) es e f.1 is)

pub follow-front : (rows : List (List Lit)) (vs : List Value) (es more : List Entry) → Follow rows vs (es ++ more) → Follow rows vs es
follow-front rows vs [] more f = tt
follow-front rows vs (d ∷ es) more f = (f.0, follow-front rows (with_lit vs d.lit) es more f.1)

pub follow-next : (rows : List (List Lit)) (vs : List Value) (es : List Entry) (e : Entry) (more : List Entry) → Follow rows vs (es ++ e ∷ more) → IsEntry rows (values_after vs es) e
follow-next rows vs [] e more f = f.0
follow-next rows vs (d ∷ es) e more f = follow-next rows (with_lit vs d.lit) es e more f.1

-- a variable that is open once a literal is made true was open, and isn't the literal's
pub open_before : (vs : List Value) (x : Lit) (u : ℕ) → x.var < length vs → value_at (with_lit vs x) u ≡ Open → (value_at vs u ≡ Open) × (u ≢ x.var)
open_before vs x u lt is = elim (cases_eq u x.var) [
  | inl same ↦ absurd (value_not_open x.yes (sym (get_or-set_same vs x.var (value_of x.yes) Open lt) ∙ ap (λ n. value_at (with_lit vs x) n) (sym same) ∙ is))
  | inr other ↦ (sym (get_or-set_other vs x.var u (value_of x.yes) Open other) ∙ is, other)
]

pub push_keeps : (rows : List (List Lit)) (old new : Trail) (e : Entry) → new.entries ≡ old.entries ++ e ∷ [] → new.values ≡ with_lit old.values e.lit
    → IsTrail rows old → IsEntry rows old.values e → IsTrail rows new × Grows old new
push_keeps rows old new e entries values was is =
    let size : length new.values ≡ length old.values = ap length values ∙ length-set old.values e.lit.var (value_of e.lit.yes) in
    let start : blank (length old.values) ≡ blank (length new.values) = ap blank (sym size) in
    let made : new.values ≡ values_after (blank (length old.values)) new.entries =
    values ∙ ap (λ vs. with_lit vs e.lit) was.values ∙ sym (values_after-push (blank (length old.values)) old.entries e) ∙ ap (values_after (blank (length old.values))) (sym entries) in
    let follow : Follow rows (blank (length old.values)) new.entries =
    subst (Follow rows (blank (length old.values))) (sym entries)
    (follow-push rows (blank (length old.values)) old.entries e was.follow (subst (λ vs. IsEntry rows vs e) was.values is)) in (
      record {
        few = subst (λ n. n ≤ 128) (sym size) was.few;
        values = made ∙ ap (λ vs. values_after vs new.entries) start;
        follow = subst (λ vs. Follow rows vs new.entries) start follow;
      },
      record {
        size = size;
        stays = λ u open'. (open_before old.values e.lit u is.known (ap (λ vs. value_at vs u) (sym values) ∙ open')).0;
      },
    )

pub undo_keeps : (rows : List (List Lit)) (old new : Trail) (e : Entry) → old.entries ≡ new.entries ++ e ∷ [] → new.values ≡ set old.values e.lit.var Open → IsTrail rows old → IsTrail rows new
undo_keeps rows old new e entries values was =
    let b = blank (length old.values) in
    let size : length new.values ≡ length old.values = ap length values ∙ length-set old.values e.lit.var Open in
    let start : blank (length old.values) ≡ blank (length new.values) = ap blank (sym size) in
    let follow : Follow rows (blank (length old.values)) (new.entries ++ e ∷ []) = subst (Follow rows (blank (length old.values))) entries was.follow in
    let free : value_at (values_after (blank (length old.values)) new.entries) e.lit.var ≡ Open = (follow-next rows (blank (length old.values)) new.entries e [] follow).free in
    let made : new.values ≡ values_after (blank (length old.values)) new.entries =
    values
    ∙ ap (λ vs. set vs e.lit.var Open) (was.values ∙ ap (values_after (blank (length old.values))) entries ∙ values_after-push (blank (length old.values)) new.entries e)
    ∙ set-set (values_after (blank (length old.values)) new.entries) e.lit.var (value_of e.lit.yes) Open
    ∙ ap (set (values_after (blank (length old.values)) new.entries) e.lit.var) (sym free)
    ∙ set-get_or (values_after (blank (length old.values)) new.entries) e.lit.var Open in
    record {
      few = subst (λ n. n ≤ 128) (sym size) was.few;
      values = made ∙ ap (λ vs. values_after vs new.entries) start;
      follow = subst (λ vs. Follow rows vs new.entries) start (follow-front rows (blank (length old.values)) new.entries (e ∷ []) follow);
    }

pub none_undone : (rows : List (List Lit)) (old new : Trail) → old.entries ≡ new.entries → new.values ≡ old.values → IsTrail rows old → IsTrail rows new
none_undone rows old new entries values was = record {
  few = subst (λ (vs : List Value). length vs ≤ 128) (sym values) was.few;
  values = values ∙ was.values ∙ ap (λ (vs : List Value). values_after (blank (length vs)) old.entries) (sym values) ∙ ap (values_after (blank (length new.values))) entries;
  follow = subst (Follow rows (blank (length new.values))) entries (subst (λ (vs : List Value). Follow rows (blank (length vs)) old.entries) (sym values) was.follow);
}

pub blank_trail : (rows : List (List Lit)) (n : ℕ) (t : Trail) → n ≤ 128 → t.values ≡ blank n → t.entries ≡ [] → IsTrail rows t
blank_trail rows n t le values entries =
    let size : length t.values ≡ n = ap length values ∙ length-replicate n Open in
    record {
      few = subst (λ m. m ≤ 128) (sym size) le;
      values = values ∙ ap blank (sym size) ∙ ap (values_after (blank (length t.values))) (sym entries);
      follow = subst (Follow rows (blank (length t.values))) (sym entries) tt;
    }

-- a variable past the values is open
pub past_open : (vs : List Value) (v : ℕ) → slice_get vs v ≡ None → value_at vs v ≡ Open
past_open [] v is = refl
past_open (x ∷ vs) zero is = cc
past_open (x ∷ vs) (suc v) is = past_open vs v is

pub is_yes-cases : (v : Value) → is_yes v ≡ true → v ≡ Yes
is_yes-cases Open e = cc
is_yes-cases No e = cc
is_yes-cases Yes e = refl

pub entry_read : (es : List Entry) (at : ℕ) (d : Entry) → at < length es → slice_get es at ≡ Some (get_or es at d)
entry_read es at d lt = slice_get-get_or es at d lt

many_behind : (xs ys : List Lit) (x : Lit) → (kind_of xs ≡ Nothing → ⊥) → kind_of (xs ++ x ∷ ys) ≡ Many
many_behind [] ys x some = absurd (some refl)
many_behind (y ∷ []) ys x some = refl
many_behind (y ∷ (z ∷ more)) ys x some = refl

-- one more literal behind those that are left
pub many_left : (vs : List Value) (c : List Lit) (i : ℕ) (d : Lit) → i < length c → (kind_of (left vs (take i c)) ≡ Nothing → ⊥) → lit_false vs (get_or c i d) ≡ false → kind_of (left vs c) ≡ Many
many_left vs c i d lt some stays =
    ap (λ ys. kind_of (left vs ys)) (sym (take-append-drop i c) ∙ ap (λ ys. take i c ++ ys) (drop_more c i d lt))
    ∙ ap kind_of (filter-append (λ x. not (lit_false vs x)) (take i c) (get_or c i d ∷ drop (i + 1) c))
    ∙ ap (λ b. kind_of (left vs (take i c) ++ cond (not b) (get_or c i d ∷ left vs (drop (i + 1) c)) (left vs (drop (i + 1) c)))) stays
    ∙ many_behind (left vs (take i c)) (left vs (drop (i + 1) c)) (get_or c i d) some
