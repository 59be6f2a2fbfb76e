-- One more item keeps what is kept of each atom.
use mathlib.Core.Bool.{beq}
use Rattle.std.proofs.Common.{◌≡◌, inl, inr, ℕ, zero, suc, ◌+◌, ◌<◌, max, Bool, true, false, cond, not, ◌&&◌, ◌||◌, List, [], ◌∷◌, ◌++◌, length, replicate, refl, sym, ap, subst, ◌∙◌, arith, length-set, eq-eqb, ne_eqb}
use Rattle.std.specs.Prelude.{slice_get, slice_index, slice_set, ◌==◌, Option, Some, None}
use Rattle.std.specs.Option.{option_map_or}
use Rattle.std.specs.List.{list_any}
use Rattle.std.proofs.lemmas.List.{get_or-set_same, get_or-set_other, length-replicate}
use Rattle.std.proofs.lemmas.List.Folds.{list_any-append}
use Rattle.std.proofs.lemmas.Bool.{cases_eq}
use Rattle.spec_model.specs.declared.spec.Spec.{Spec}
use Rattle.spec_model.specs.declared.instance.Atom.{Atom}
use Rattle.spec_model.specs.declared.log.LogItem.{LogItem}
use Rattle.spec_model.specs.Truths.{wins}
use Rattle.spec_model.specs.Universe.{atoms}
use Rattle.effect_model.specs.Places.{AtomFits, atom_index}
use Rattle.effect_model.specs.Visits.{done_all}
use Rattle.effect_model.proofs.Blocked.{atom_there}
use Rattle.effect_model.proofs.Whole.{among, atoms_all}
use Rattle.run_model.specs.Logs.{Logs, log_at}
use Rattle.run_model.specs.States.{is_setter}
use Rattle.causal_store.specs.Folds.{all_items, known_by}
use Rattle.causal_store.specs.Keeping.{AreTags, KeepsTags, item_sets, last_by, no_tags, tag_by, tags_after, tags_set}
use Rattle.causal_store.specs.declared.tags.Tags.{Tags}
use Rattle.causal_store.proofs.Kept.{done_at, done_long, joined_at, joined_long, of_mapped, with_one_more}
use Rattle.causal_store.proofs.Stored.{known_append}

-- ---- the last setters of two lists

last_append : (spec : Spec) (p : ℕ) (xs : List ℕ) (v : Bool) (items others : List LogItem) (o : ℕ) → last_by spec p xs v (items ++ others) o ≡ max (last_by spec p xs v items o) (last_by spec p xs v others o)
last_append spec p xs v [] others o = omega arith
last_append spec p xs v (y ∷ items) others o = by_test (is_setter spec p xs v y && y.origin == o) (last_append spec p xs v items others o)
  where
    by_test : (b : Bool) → last_by spec p xs v (items ++ others) o ≡ max (last_by spec p xs v items o) (last_by spec p xs v others o)
        → cond b (max (y.index + 1) (last_by spec p xs v (items ++ others) o)) (last_by spec p xs v (items ++ others) o)
        ≡ max (cond b (max (y.index + 1) (last_by spec p xs v items o)) (last_by spec p xs v items o)) (last_by spec p xs v others o)
    by_test true is = omega (arith, is)
    by_test false is = is

-- ---- one more item

abbrev sets_it : Option Bool → Bool → Bool
sets_it o v = option_map_or (λ b. beq b v) o false

-- what the definitions see of one more item, by what it sets the atom to
record IsMore (w : Bool) (x : LogItem) (o : Option Bool) (last past new_last new_past : ℕ → ℕ) (followed new_followed : Bool) : Type 0 where
  more_last : (i : ℕ) → new_last i ≡ max (last i) (cond (sets_it o w && x.origin == i) (max (x.index + 1) 0) 0)
  more_past : (i : ℕ) → new_past i ≡ max (past i) (cond (sets_it o (not w)) (max (slice_index x.deps i) 0) 0)
  more_followed : new_followed ≡ (followed || (sets_it o (not w) || false))

-- tags that say this
record Say (n : ℕ) (last past : ℕ → ℕ) (followed : Bool) (t : Tags) : Type 0 where
  says_last : (i : ℕ) → slice_index t.last i ≡ last i
  says_past : (i : ℕ) → slice_index t.past i ≡ past i
  says_followed : t.followed ≡ followed
  last_long : length t.last ≡ n
  past_long : length t.past ≡ n

or_true : (a : Bool) → (a || true) ≡ true
or_true true = refl
or_true false = refl

pub or_false : (a : Bool) → (a || false) ≡ a
or_false true = refl
or_false false = refl

winner : (x : LogItem) (n : ℕ) (last past new_last new_past : ℕ → ℕ) (followed new_followed : Bool) (t : Tags) → x.origin < n
    → ((i : ℕ) → new_last i ≡ max (last i) (cond (x.origin == i) (max (x.index + 1) 0) 0)) → ((i : ℕ) → new_past i ≡ max (past i) 0) → new_followed ≡ (followed || false)
    → Say n last past followed t → Say n new_last new_past new_followed (tags_after x true t)
winner x n last past new_last new_past followed new_followed t lt lasts pasts follow s =
    let value = max (slice_index t.last x.origin) (x.index + 1) in
    record {
      says_last = λ i.
          elim (cases_eq x.origin i) [
            | inl same ↦
                let here : slice_index (slice_set t.last x.origin value) x.origin ≡ value = get_or-set_same t.last x.origin value 0 (omega (arith, lt, s.last_long)) in
                let now : new_last i ≡ max (last i) (max (x.index + 1) 0) = lasts i ∙ ap (λ b. max (last i) (cond b (max (x.index + 1) 0) 0)) (eq-eqb x.origin i same) in
                let there : slice_index (slice_set t.last x.origin value) i ≡ value = ap (slice_index (slice_set t.last x.origin value)) (sym same) ∙ here in
                let was : slice_index t.last x.origin ≡ last i = ap (slice_index t.last) same ∙ s.says_last i in
                omega (arith, now, there, was)
            | inr other ↦
                let here : slice_index (slice_set t.last x.origin value) i ≡ slice_index t.last i = get_or-set_other t.last x.origin i value 0 (λ same. other (sym same)) in
                let now : new_last i ≡ max (last i) 0 = lasts i ∙ ap (λ b. max (last i) (cond b (max (x.index + 1) 0) 0)) (ne_eqb x.origin i other) in
                omega (arith, here, now, s.says_last i)
          ];
      says_past = λ i. omega (arith, s.says_past i, pasts i);
      says_followed = s.says_followed ∙ sym (follow ∙ or_false followed);
      last_long = length-set t.last x.origin value ∙ s.last_long;
      past_long = s.past_long;
    }

other : (x : LogItem) (n : ℕ) (last past new_last new_past : ℕ → ℕ) (followed new_followed : Bool) (t : Tags) → length x.deps ≡ n
    → ((i : ℕ) → new_last i ≡ max (last i) 0) → ((i : ℕ) → new_past i ≡ max (past i) (max (slice_index x.deps i) 0)) → new_followed ≡ (followed || true)
    → Say n last past followed t → Say n new_last new_past new_followed (tags_after x false t)
other x n last past new_last new_past followed new_followed t long lasts pasts follow s =
    record {
      says_last = λ i. omega (arith, s.says_last i, lasts i);
      says_past = λ i. omega (arith, joined_at t.past x.deps i (omega (arith, long, s.past_long)), s.says_past i, pasts i);
      says_followed = sym (follow ∙ or_true followed);
      last_long = s.last_long;
      past_long = joined_long t.past x.deps ∙ s.past_long;
    }

more_said : (w : Bool) (x : LogItem) (o : Option Bool) (n : ℕ) (last past new_last new_past : ℕ → ℕ) (followed new_followed : Bool) (t : Tags) → x.origin < n → length x.deps ≡ n → IsMore w x o last past new_last new_past followed new_followed
    → Say n last past followed t → Say n new_last new_past new_followed (tags_set w x o t)
more_said w x None n last past new_last new_past followed new_followed t lt long m s = record {
  says_last = λ i. omega (arith, s.says_last i, m.more_last i);
  says_past = λ i. omega (arith, s.says_past i, m.more_past i);
  says_followed = s.says_followed ∙ sym (m.more_followed ∙ or_false followed);
  last_long = s.last_long;
  past_long = s.past_long;
}
more_said true x (Some true) n last past new_last new_past followed new_followed t lt long m s = winner x n last past new_last new_past followed new_followed t lt m.more_last m.more_past m.more_followed s
more_said false x (Some false) n last past new_last new_past followed new_followed t lt long m s = winner x n last past new_last new_past followed new_followed t lt m.more_last m.more_past m.more_followed s
more_said true x (Some false) n last past new_last new_past followed new_followed t lt long m s = other x n last past new_last new_past followed new_followed t long m.more_last m.more_past m.more_followed s
more_said false x (Some true) n last past new_last new_past followed new_followed t lt long m s = other x n last past new_last new_past followed new_followed t long m.more_last m.more_past m.more_followed s

-- what one more item adds, among the items of all logs
or_assoc : (a b c : Bool) → (a || (b || c)) ≡ ((a || b) || c)
or_assoc true b c = refl
or_assoc false b c = refl

or_swap : (a b c : Bool) → ((a || b) || c) ≡ ((a || c) || b)
or_swap true b c = refl
or_swap false true true = refl
or_swap false true false = refl
or_swap false false true = refl
or_swap false false false = refl

abbrev pub with_item_in : Logs → LogItem → List LogItem
with_item_in logs x = all_items (slice_set logs x.origin (log_at logs x.origin ++ x ∷ []))

one_more_is : (spec : Spec) (atom : Atom) (logs : Logs) (x : LogItem) → x.origin < length logs
    → IsMore (wins spec atom.pred) x (item_sets spec x atom) (last_by spec atom.pred atom.args (wins spec atom.pred) (all_items logs)) (known_by spec atom.pred atom.args (not (wins spec atom.pred)) (all_items logs))
    (last_by spec atom.pred atom.args (wins spec atom.pred) (with_item_in logs x)) (known_by spec atom.pred atom.args (not (wins spec atom.pred)) (with_item_in logs x))
    (list_any (is_setter spec atom.pred atom.args (not (wins spec atom.pred))) (all_items logs)) (list_any (is_setter spec atom.pred atom.args (not (wins spec atom.pred))) (with_item_in logs x))
one_more_is spec atom logs x lt =
    let p = atom.pred in
    let xs = atom.args in
    let w = wins spec p in
    record {
      more_last = λ i. with_one_more max (λ l. last_by spec p xs w l i) (λ a b. last_append spec p xs w a b i) (λ a b c. omega arith) (λ a b c. omega arith) logs x.origin x lt;
      more_past = λ i. with_one_more max (λ l. known_by spec p xs (not w) l i) (λ a b. known_append spec p xs (not w) a b i) (λ a b c. omega arith) (λ a b c. omega arith) logs x.origin x lt;
      more_followed = with_one_more (λ a b. a || b) (list_any (is_setter spec p xs (not w))) (λ a b. list_any-append (is_setter spec p xs (not w)) a b) or_assoc or_swap logs x.origin x lt;
    }

tags_more : (spec : Spec) (n : ℕ) (atom : Atom) (logs : Logs) (x : LogItem) (t : Tags) → x.origin < length logs → length logs ≡ n → length x.deps ≡ n → AreTags spec n atom (all_items logs) t → AreTags spec n atom (with_item_in logs x) (tags_set (wins spec atom.pred) x (item_sets spec x atom) t)
tags_more spec n atom logs x t lt whole long a =
    let s = more_said (wins spec atom.pred) x (item_sets spec x atom) n _ _ _ _ _ _ t (omega (arith, lt, whole)) long (one_more_is spec atom logs x lt)
    (record { says_last = a.last; says_past = a.past; says_followed = a.followed; last_long = a.last_long; past_long = a.past_long }) in
    record { last = s.says_last; past = s.says_past; followed = s.says_followed; last_long = s.last_long; past_long = s.past_long }

-- the place of an atom
pub atom_place_is : (spec : Spec) (i : ℕ) (atom : Atom) → slice_get (atoms spec) i ≡ Some atom → atom_index spec atom.pred atom.args ≡ i
atom_place_is spec i atom is =
    let fits : AtomFits spec atom = ((atoms_all spec atom).those_that_fit).0 (among (atoms spec) i atom is) in
    (atoms_all spec atom).once (atom_index spec atom.pred atom.args) i (atom_there spec atom (atom_index spec atom.pred atom.args) fits refl) is

-- the tags of all atoms, once one more item came
pub keeps_more : (spec : Spec) (n : ℕ) (logs : Logs) (x : LogItem) (tags new : List Tags) → x.origin < length logs → length logs ≡ n → length x.deps ≡ n → new ≡ done_all (tag_by spec x (item_sets spec x)) (atoms spec) tags
    → KeepsTags spec n (all_items logs) tags → KeepsTags spec n (with_item_in logs x) new
keeps_more spec n logs x tags new lt whole long is k =
    let place : Atom → ℕ = λ atom. atom_index spec atom.pred atom.args in
    let change : Atom → Tags → Tags = λ atom. tags_set (wins spec atom.pred) x (item_sets spec x atom) in
    record {
      whole = ap length is ∙ done_long place change (atoms spec) tags ∙ k.whole;
      each = λ i atom t at there.
          let got = of_mapped (change atom) (slice_get tags i) t (sym (done_at place change (atoms spec) tags i atom (λ j b is. atom_place_is spec j b is) at) ∙ sym (ap (λ (l : List Tags). slice_get l i) is) ∙ there) in
          subst (AreTags spec n atom (with_item_in logs x)) got.2 (tags_more spec n atom logs x got.0 lt whole long (k.each i atom got.0 at got.1));
    }

-- ---- no item yet

zeros_at : (n i : ℕ) → slice_index (replicate n 0) i ≡ 0
zeros_at zero i = refl
zeros_at (suc n) zero = refl
zeros_at (suc n) (suc i) = zeros_at n i

pub same_of : {X : Type 0} (n : ℕ) (x y : X) (i : ℕ) → slice_get (replicate n x) i ≡ Some y → x ≡ y
same_of zero x y i is = absurd cc
same_of (suc n) x y zero is = let e : Some x ≡ Some y = is in cc
same_of (suc n) x y (suc i) is = same_of n x y i is

pub keeps_none : (spec : Spec) (n count : ℕ) (items : List LogItem) (tags : List Tags) → items ≡ [] → count ≡ length (atoms spec) → tags ≡ replicate count (no_tags n) → KeepsTags spec n items tags
keeps_none spec n count items tags none long is = record {
  whole = ap length is ∙ length-replicate count (no_tags n) ∙ long;
  each = λ i atom t at there.
      subst (AreTags spec n atom items) (same_of count (no_tags n) t i (sym (ap (λ (l : List Tags). slice_get l i) is) ∙ there))
      (subst (λ (l : List LogItem). AreTags spec n atom l (no_tags n)) (sym none)
      (record { last = zeros_at n; past = zeros_at n; followed = refl; last_long = length-replicate n 0; past_long = length-replicate n 0 }));
}
