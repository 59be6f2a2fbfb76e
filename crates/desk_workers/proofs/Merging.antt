-- Merges of merges, and the asks of a line that was merged.
use Rattle.std.proofs.Common.{inl, inr, List, [], ◌∷◌, ◌++◌, All, ap, sym, refl, subst}
use Rattle.std.proofs.lemmas.List.Elements.{All-nil, All-cons, All-head, All-tail}
use Rattle.turn_desk.specs.declared.line.Entry.{Entry}
use Rattle.turn_desk.specs.declared.line.Entry.TheVariants.{Served, Blank}
use Rattle.turn_desk.specs.Line.{Merges, served}
use Rattle.desk_workers.specs.Interleaving.{Interleaves}
use Rattle.desk_workers.specs.Standing.{asks_in}

-- a list alone
pub merges_alone : {A : Type 0} (xs : List A) → Merges xs [] xs
merges_alone [] = (refl, refl)
merges_alone (x ∷ xs) = inl (xs, refl, merges_alone xs)

pub merges_after_none : {A : Type 0} (xs : List A) → Merges [] xs xs
merges_after_none [] = (refl, refl)
merges_after_none (x ∷ xs) = inr (xs, refl, merges_after_none xs)

merges_sides : {A : Type 0} (c xs ys : List A) → Merges xs ys c → Merges ys xs c
merges_sides [] xs ys (xs_is, ys_is) = (ys_is, xs_is)
merges_sides (e ∷ c) xs ys (inl (rest, is, more)) = inr (rest, is, merges_sides c rest ys more)
merges_sides (e ∷ c) xs ys (inr (rest, is, more)) = inl (rest, is, merges_sides c xs rest more)

-- what was merged first may be merged last; the step where a member is of the first merge
regroup_step : {A : Type 0} (e : A) (c xs ys zs rest : List A) → ((xs ys : List A) → Merges xs ys rest → (others : List A) × Merges ys zs others × Merges xs others c)
    → Merges xs ys (e ∷ rest) → (others : List A) × Merges ys zs others × Merges xs others (e ∷ c)
regroup_step e c xs ys zs rest again (inl (xs', xs_is, f)) = let r = again xs' ys f in (r.0, r.1, inl (xs', xs_is, r.2))
regroup_step e c xs ys zs rest again (inr (ys', ys_is, f)) = let r = again xs ys' f in (e ∷ r.0, inl (ys', ys_is, r.1), inr (r.0, refl, r.2))

pub merges_regroup : {A : Type 0} (c xs ys zs b : List A) → Merges xs ys b → Merges b zs c → (rest : List A) × Merges ys zs rest × Merges xs rest c
merges_regroup [] xs ys zs b first (b_is, zs_is) =
    let f : Merges xs ys [] = subst (λ l. Merges xs ys l) b_is first in
    ([], (f.1, zs_is), (f.0, refl))
merges_regroup (e ∷ c) xs ys zs b first (inl (rest, b_is, more)) =
    regroup_step e c xs ys zs rest (λ xs' ys' f. merges_regroup c xs' ys' zs rest f more) (subst (λ l. Merges xs ys l) b_is first)
merges_regroup (e ∷ c) xs ys zs b first (inr (zs', zs_is, more)) =
    let r = merges_regroup c xs ys zs' b first more in (e ∷ r.0, inr (zs', zs_is, r.1), inr (r.0, refl, r.2))

-- a list more, merged with an interleaving of those before it
pub interleaves_more : {A : Type 0} (lists : List (List A)) (xs b c : List A) → Interleaves lists b → Merges b xs c → Interleaves (lists ++ xs ∷ []) c
interleaves_more [] xs b c before merged =
    let alone : Merges [] xs c = subst (λ l. Merges l xs c) before merged in
    ([], refl, merges_sides c [] xs alone)
interleaves_more (first ∷ lists) xs b c (rest, before, front) merged =
    let r = merges_regroup c first rest xs b front merged in
    (r.0, interleaves_more lists xs rest r.0 before r.1, r.2)

module _ {A B : Type 0} where
  -- the asks that were served are merged as the turns are
  pub merged_asks : (c a b : List (Entry A B)) → Merges a b c → Merges (asks_in a) (asks_in b) (asks_in c)
  merged_asks [] a b (a_is, b_is) = (ap asks_in a_is, ap asks_in b_is)
  merged_asks (Served ask answer ∷ c) a b (inl (rest, is, more)) = inl (asks_in rest, ap asks_in is, merged_asks c rest b more)
  merged_asks (Served ask answer ∷ c) a b (inr (rest, is, more)) = inr (asks_in rest, ap asks_in is, merged_asks c a rest more)
  merged_asks (Blank ∷ c) a b (inl (rest, is, more)) = subst (λ l. Merges l (asks_in b) (asks_in c)) (sym (ap asks_in is)) (merged_asks c rest b more)
  merged_asks (Blank ∷ c) a b (inr (rest, is, more)) = subst (λ l. Merges (asks_in a) l (asks_in c)) (sym (ap asks_in is)) (merged_asks c a rest more)

  -- what holds of each served turn of both holds of each of the merge
  pub merged_all : (P : A × B → Type 0) (c a b : List (Entry A B)) → Merges a b c → All P (served a) → All P (served b) → All P (served c)
  merged_all P [] a b merged of_a of_b = All-nil P
  merged_all P (Served ask answer ∷ c) a b (inl (rest, is, more)) of_a of_b =
      let all : All P ((ask, answer) ∷ served rest) = subst (λ l. All P (served l)) is of_a in
      All-cons P (ask, answer) (served c) (All-head P (ask, answer) (served rest) all) (merged_all P c rest b more (All-tail P (ask, answer) (served rest) all) of_b)
  merged_all P (Served ask answer ∷ c) a b (inr (rest, is, more)) of_a of_b =
      let all : All P ((ask, answer) ∷ served rest) = subst (λ l. All P (served l)) is of_b in
      All-cons P (ask, answer) (served c) (All-head P (ask, answer) (served rest) all) (merged_all P c a rest more of_a (All-tail P (ask, answer) (served rest) all))
  merged_all P (Blank ∷ c) a b (inl (rest, is, more)) of_a of_b = merged_all P c rest b more (subst (λ l. All P (served l)) is of_a) of_b
  merged_all P (Blank ∷ c) a b (inr (rest, is, more)) of_a of_b = merged_all P c a rest more of_a (subst (λ l. All P (served l)) is of_b)
