-- What a visit of one atom does, and where there is nothing to do.
use mathlib.Core.Bool.{beq}
use Rattle.std.proofs.Common.{◌≡◌, ℕ, suc, ◌+◌, ◌<◌, Bool, true, false, List, [], ◌∷◌, ◌++◌, length, drop, get_or, map, refl, sym, ap, subst, ◌∙◌, arith, append_assoc, length-set, Option, Some, None}
use Rattle.std.specs.Prelude.{slice_get, slice_set}
use Rattle.std.specs.List.{AllByRecursion, list_any}
use Rattle.std.proofs.lemmas.List.{drop_more}
use Rattle.std.proofs.lemmas.Option.{slice_get-get_or, slice_get_within, get_or_from_slice_get}
use Rattle.spec_model.specs.declared.spec.Spec.{Spec}
use Rattle.spec_model.specs.declared.spec.Pred.{Pred}
use Rattle.spec_model.specs.declared.instance.Atom.{Atom}
use Rattle.spec_model.specs.declared.instance.Inst.{Inst}
use Rattle.spec_model.specs.declared.operation.Line.{Line}
use Rattle.spec_model.specs.declared.log.LogItem.{LogItem}
use Rattle.spec_model.specs.Truths.{Within, inst_has, inst_sets, lines_set, no_pred, op_at, pred_at, size_of, wins}
use Rattle.spec_model.specs.Universe.{atoms, atoms_from, sizes_of, tuples}
use Rattle.effect_model.specs.Places.{AtomFits, atom_index}
use Rattle.effect_model.specs.Touching.{line_may_set}
use Rattle.effect_model.specs.Visits.{done_all}
use Rattle.effect_model.proofs.Untouched.{lines_unset}
use Rattle.effect_model.proofs.Visited.{done_append, done_map}
use Rattle.causal_store.specs.Keeping.{item_sets, AreLong, CanTag, KeepsTags, changed_at, tag_by, tags_after, tags_set}
use Rattle.causal_store.specs.declared.tags.Tags.{Tags}
use Rattle.causal_store.proofs.Kept.{changed_each, changed_long, changed_not, changed_set, done_nothing, joined_long}
use Rattle.causal_store.proofs.Tagged.{atom_place_is}
use Rattle.effect_model.proofs.Sizes.{within_sorts}

abbrev pub sets_by : Spec → Inst → Atom → Option Bool
sets_by spec inst atom = inst_sets spec inst atom.pred atom.args

-- an atom that isn't set
pub untagged : (spec : Spec) (inst : Inst) (item : LogItem) (p : ℕ) (xs : List ℕ) (kept : List Tags) → inst_sets spec inst p xs ≡ None → tag_by spec item (sets_by spec inst) (record { pred = p; args = xs }) kept ≡ kept
untagged spec inst item p xs kept none =
    ap (λ (o : Option Bool). changed_at (atom_index spec p xs) (tags_set (wins spec p) item o) kept) none ∙ changed_not (atom_index spec p xs) (tags_set (wins spec p) item None) kept (λ k. refl)

-- nothing is set behind these elements
pub unset_behind : (spec : Spec) (inst : Inst) (item : LogItem) (p : ℕ) (front : List ℕ) (x : ℕ) (lines : List Line) (behind : List ℕ) (kept : List Tags) → lines ≡ (op_at spec inst.op).lines → list_any (line_may_set inst p (front ++ x ∷ [])) lines ≡ false
    → tag_by spec item (sets_by spec inst) (record { pred = p; args = front ++ x ∷ behind }) kept ≡ kept
unset_behind spec inst item p front x lines behind kept is none =
    let whole : (front ++ x ∷ []) ++ behind ≡ front ++ x ∷ behind = append_assoc front (x ∷ []) behind in
    let unset : lines_set (inst_has inst) lines p (front ++ x ∷ behind) ≡ None = ap (lines_set (inst_has inst) lines p) (sym whole) ∙ lines_unset inst p (front ++ x ∷ []) behind lines none in
    untagged spec inst item p (front ++ x ∷ behind) kept (ap (λ (ls : List Line). lines_set (inst_has inst) ls p (front ++ x ∷ behind)) (sym is) ∙ unset)

-- an atom that is set
pub tagged : (spec : Spec) (inst : Inst) (item : LogItem) (p : ℕ) (xs : List ℕ) (kept new : List Tags) (place : ℕ) (truth : Bool) (t changed : Tags) → inst_sets spec inst p xs ≡ Some truth → slice_get (atoms spec) place ≡ Some (record { pred = p; args = xs }) → slice_get kept place ≡ Some t
    → changed ≡ tags_after item (beq truth (wins spec p)) t → new ≡ slice_set kept place changed → new ≡ tag_by spec item (sets_by spec inst) (record { pred = p; args = xs }) kept
tagged spec inst item p xs kept new place truth t changed sets at there after is =
    is ∙ ap (slice_set kept place) after ∙ changed_set place (λ k. tags_after item (beq truth (wins spec p)) k) kept t there
    ∙ ap (λ n. changed_at n (λ k. tags_after item (beq truth (wins spec p)) k) kept) (sym (atom_place_is spec place (record { pred = p; args = xs }) at))
    ∙ sym (ap (λ (o : Option Bool). changed_at (atom_index spec p xs) (tags_set (wins spec p) item o) kept) sets)

-- tags stay as long as they are
long_after : (n : ℕ) (item : LogItem) (b : Bool) (t : Tags) → AreLong n t → AreLong n (tags_after item b t)
long_after n item true t h = (length-set t.last item.origin _ ∙ h.0, h.1)
long_after n item false t h = (h.0, joined_long t.past item.deps ∙ h.1)

long_set : (n : ℕ) (w : Bool) (item : LogItem) (o : Option Bool) (t : Tags) → AreLong n t → AreLong n (tags_set w item o t)
long_set n w item None t h = h
long_set n w item (Some v) t h = long_after n item (beq v w) t h

pub can_still : (spec : Spec) (item : LogItem) (sets : Atom → Option Bool) (atom : Atom) (tags new : List Tags) → new ≡ tag_by spec item sets atom tags → CanTag spec item tags → CanTag spec item new
can_still spec item sets atom tags new is can =
    let place = atom_index spec atom.pred atom.args in
    let change = tags_set (wins spec atom.pred) item (sets atom) in
    subst (CanTag spec item) (sym is) (record {
      origin = can.origin;
      whole = changed_long place change tags ∙ can.whole;
      long = changed_each (AreLong (length item.deps)) place change tags (λ t h. long_set (length item.deps) (wins spec atom.pred) item (sets atom) t h) can.long;
    })

-- of each by its place
each_of : {X : Type 0} (P : X → Type 0) (xs : List X) → ((i : ℕ) (x : X) → slice_get xs i ≡ Some x → P x) → AllByRecursion P xs
each_of P [] all = tt
each_of P (x ∷ xs) all = (all 0 x refl, each_of P xs (λ i y is. all (suc i) y is))

-- a store's tags may take an item that fits
pub can_tag : (spec : Spec) (n : ℕ) (items : List LogItem) (item : LogItem) (tags : List Tags) → KeepsTags spec n items tags → item.origin < n → length item.deps ≡ n → CanTag spec item tags
can_tag spec n items item tags k lt long = record {
  origin = omega (arith, lt, long);
  whole = k.whole;
  long = each_of (AreLong (length item.deps)) tags (λ i t is.
      let no_atom : Atom = record { pred = 0; args = [] } in
      let atom : Atom = get_or (atoms spec) i no_atom in
      let within = slice_get_within tags i t is in
      let a = k.each i atom t (slice_get-get_or (atoms spec) i no_atom (omega (arith, within, k.whole))) is in
      (a.last_long ∙ sym long, a.past_long ∙ sym long));
}

-- a tuple of a predicate's sorts is an atom
pub atom_known : (spec : Spec) (k : ℕ) (pred : Pred) (sizes front behind : List ℕ) → k < length spec.preds → pred ≡ get_or spec.preds k pred → sizes ≡ sizes_of spec pred.sorts → front ≡ [] → Within (λ s. s) sizes behind → AtomFits spec (record { pred = k; args = front ++ behind })
atom_known spec k pred sizes front behind lt is sized none within =
    let here : pred ≡ pred_at spec k = sym (get_or_from_slice_get spec.preds k pred no_pred (slice_get-get_or spec.preds k pred lt ∙ ap Some (sym is))) in
    let all : Within (size_of spec) (pred_at spec k).sorts behind = within_sorts spec (pred_at spec k).sorts behind (subst (λ (q : Pred). Within (λ s. s) (sizes_of spec q.sorts) behind) here (subst (λ (ss : List ℕ). Within (λ s. s) ss behind) sized within)) in
    record { known = lt; within = subst (λ (f : List ℕ). Within (size_of spec) (pred_at spec k).sorts (f ++ behind)) (sym none) all }

-- what is done at the atoms of one predicate comes before what is done at those behind it
pub atoms_turn : {K : Type 0} (f : Atom → K → K) (spec : Spec) (preds : List Pred) (sizes front : List ℕ) (k : ℕ) (p : Pred) (before now all : K) → k < length preds → p ≡ get_or preds k p → sizes ≡ sizes_of spec p.sorts → front ≡ []
    → now ≡ done_all (λ behind. f (record { pred = k; args = front ++ behind })) (tuples sizes) before
    → done_all f (atoms_from spec k (drop k preds)) before ≡ all → done_all f (atoms_from spec (k + 1) (drop (k + 1) preds)) now ≡ all
atoms_turn f spec preds sizes front k p before now all lt is sized none step so_far =
    let atom : List ℕ → Atom = λ xs. record { pred = k; args = xs } in
    let rest : List Atom = atoms_from spec (k + 1) (drop (k + 1) preds) in
    let part : List Atom = map atom (tuples (sizes_of spec p.sorts)) in
    let split : atoms_from spec k (drop k preds) ≡ part ++ rest = ap (λ (ps : List Pred). atoms_from spec k ps) (drop_more preds k p lt) ∙ ap (λ (q : Pred). map atom (tuples (sizes_of spec q.sorts)) ++ rest) (sym is) in
    let here : now ≡ done_all f part before =
    step ∙ ap (λ (fr : List ℕ). done_all (λ behind. f (record { pred = k; args = fr ++ behind })) (tuples sizes) before) none ∙ ap (λ (ss : List ℕ). done_all (λ behind. f (atom behind)) (tuples ss) before) sized ∙ sym (done_map f atom (tuples (sizes_of spec p.sorts)) before) in
    ap (done_all f rest) here ∙ sym (done_append f part rest before) ∙ ap (λ (as' : List Atom). done_all f as' before) (sym split) ∙ so_far

-- an item that is no act changes nothing
pub not_tagged : (spec : Spec) (item : LogItem) (tags : List Tags) → ((atom : Atom) → item_sets spec item atom ≡ None) → tags ≡ done_all (tag_by spec item (item_sets spec item)) (atoms spec) tags
not_tagged spec item tags none =
    sym (done_nothing (λ (atom : Atom). atom_index spec atom.pred atom.args) (λ (atom : Atom). tags_set (wins spec atom.pred) item (item_sets spec item atom)) (atoms spec) tags
    (λ atom t. ap (λ (o : Option Bool). tags_set (wins spec atom.pred) item o t) (none atom)))
