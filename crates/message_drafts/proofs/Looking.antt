-- The wants and items that are looked at.
use Rattle.std.proofs.Common.{◌≡◌, inl, inr, ℕ, suc, ◌+◌, ◌<◌, ◌≤◌, List, [], ◌∷◌, ◌++◌, length, get_or, take, drop, refl, sym, ap, subst, ◌∙◌, arith, length-take}
use Rattle.std.specs.List.{AllByRecursion}
use Rattle.std.proofs.lemmas.List.{append-nil, take-append-drop}
use Rattle.spec_model.specs.declared.plan.Setup.{Setup}
use Rattle.spec_model.specs.declared.right.Want.{Want}
use Rattle.spec_model.specs.declared.log.LogItem.{LogItem}
use Rattle.run_model.specs.Fitting.{AreInRow, ItemFits, WantFits}
use Rattle.run_model.proofs.Lists.{each_append, get_last}
use Rattle.run_model.proofs.Own.{own_append, own_at}
use Rattle.message_laws.specs.Heeded.{AreFitting}
use Rattle.message_drafts.specs.Fronts.{IsFront, MayFollow, first_at}
use Rattle.message_drafts.proofs.Places.{drop_at_item, take_more}

-- ---- wants

-- a want that fits is kept, and those behind it
pub wants_kept : (setup : Setup) (wants : List Want) (k : ℕ) (want : Want) (rest : List Want) → k < length wants → want ≡ get_or wants k want → WantFits setup want → AreFitting setup (drop (k + 1) wants) rest → AreFitting setup (drop k wants) (want ∷ rest)
wants_kept setup wants k want rest lt is fits behind = subst (λ (l : List Want). AreFitting setup l (want ∷ rest)) (sym (drop_at_item wants k want lt is)) (inl (fits, rest, refl, behind))

-- and one that doesn't is passed over
pub wants_passed : (setup : Setup) (wants : List Want) (k : ℕ) (want : Want) (rest : List Want) → k < length wants → want ≡ get_or wants k want → (WantFits setup want → ⊥) → AreFitting setup (drop (k + 1) wants) rest → AreFitting setup (drop k wants) rest
wants_passed setup wants k want rest lt is misfit behind = subst (λ (l : List Want). AreFitting setup l rest) (sym (drop_at_item wants k want lt is)) (inr (misfit, behind))

-- those that are kept fit, and are no more
pub fitting_fit : (setup : Setup) (wants fitting : List Want) → AreFitting setup wants fitting → AllByRecursion (WantFits setup) fitting × (length fitting ≤ length wants)
fitting_fit setup [] fitting none = (subst (AllByRecursion (WantFits setup)) (sym none) tt, omega (arith, ap length none))
fitting_fit setup (want ∷ wants) fitting (inl (fits, rest, is, behind)) =
    let all = fitting_fit setup wants rest behind in
    (subst (AllByRecursion (WantFits setup)) (sym is) (fits, all.0), omega (arith, ap length is, all.1))
fitting_fit setup (want ∷ wants) fitting (inr (misfit, behind)) =
    let all = fitting_fit setup wants fitting behind in
    (all.0, omega (arith, all.1))

-- ---- items

-- these items fit, and stand in a row from this one on
pub record FitFrom (setup : Setup) (from first : ℕ) (items : List LogItem) : Type 0 where
  pub row : AreInRow from first items
  pub fits : AllByRecursion (ItemFits setup) items

-- one item more
pub fit_more : (setup : Setup) (from first index k : ℕ) (items : List LogItem) (item : LogItem) → k < length items → item ≡ get_or items k item → FitFrom setup from first (take k items) → index ≡ first + k → MayFollow setup from index item
    → FitFrom setup from first (take (k + 1) items)
fit_more setup from first index k items item lt is h at may = subst (FitFrom setup from first) (sym (take_more items k item lt is)) (record {
  row = own_append from first (take k items) (item ∷ []) index (omega (arith, at, length-take k items, lt)) h.row (may.is.origin, may.is.index_is, may.is.past, tt);
  fits = each_append (ItemFits setup) (take k items) (item ∷ []) h.fits (may.fits, tt);
})

-- a row begins with the index of its first item
row_first : (from first : ℕ) (items : List LogItem) (n : ℕ) → AreInRow from first (take (n + 1) items) → n < length items → first_at items ≡ first
row_first from first [] n row lt = absurd (omega (arith, lt))
row_first from first (x ∷ items) n row lt = (subst (AreInRow from first) (one_more x items n) row).1
  where
    one_more : (x : LogItem) (items : List LogItem) (n : ℕ) → take (n + 1) (x ∷ items) ≡ x ∷ take n items
    one_more x items n = ap (λ k. take k (x ∷ items)) (let same : n + 1 ≡ suc n = omega arith in same)

-- where the next may not follow, the items up to it are the longest front
pub longest_front : (setup : Setup) (from index : ℕ) (items : List LogItem) (n : ℕ) (item : LogItem) → FitFrom setup from (first_at items) (take n items) → n < length items → item ≡ get_or items n item → index ≡ first_at items + n
    → (MayFollow setup from index item → ⊥) → IsFront setup from items (take n items)
longest_front setup from index items n item h lt is at stuck = record {
  rest = drop n items;
  whole = sym (take-append-drop n items);
  first = first_at items;
  row = h.row;
  fits = h.fits;
  longest = λ x behind begin rest row fits.
      let next : x ≡ item = first_is x item behind (drop (n + 1) items) (sym rest ∙ drop_at_item items n item lt is) in
      let row' : AreInRow from begin (take n items ++ item ∷ []) = subst (λ (i : LogItem). AreInRow from begin (take n items ++ i ∷ [])) next row in
      let front : AreInRow from begin (take (n + 1) items) = subst (AreInRow from begin) (sym (take_more items n item lt is)) row' in
      let first = row_first from begin items n front lt in
      let long : length (take n items) ≡ n = omega (arith, length-take n items, lt) in
      let place = own_at from begin (take n items ++ item ∷ []) n item row' (get_last (take n items) item n (sym long)) in
      stuck (record {
        fits = subst (ItemFits setup) next fits;
        is = record { origin = place.0; index_is = omega (arith, place.1, at, first); past = omega (arith, place.2, at, first) };
      });
}
  where
    first_is : (x y : LogItem) (xs ys : List LogItem) → x ∷ xs ≡ y ∷ ys → x ≡ y
    first_is x y xs ys h = cc

-- and where none is left they are all
pub whole_front : (setup : Setup) (from first : ℕ) (items front : List LogItem) → front ≡ items → FitFrom setup from first front → IsFront setup from items front
whole_front setup from first items front is h = record {
  rest = [];
  whole = sym is ∙ sym (append-nil front);
  first = first;
  row = h.row;
  fits = h.fits;
  longest = λ x behind begin none row fits. absurd cc;
}
