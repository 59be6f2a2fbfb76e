-- One entry more.
use Rattle.std.proofs.Common.{◌≡◌, ◌≢◌, inl, ℕ, zero, suc, ◌<◌, ◌≤◌, Bool, true, false, eqb, List, [], ◌∷◌, ◌++◌, length, refl, sym, ap, subst, ◌∙◌, arith}
use Rattle.std.specs.Prelude.{slice_get, slice_set, Some, None, Option, map, filter, if◌then◌else◌}
use Rattle.std.specs.List.{AllByRecursion}
use Rattle.std.proofs.lemmas.Bool.{eq-eqb, ne_eqb}
use Rattle.std.proofs.lemmas.List.{map-append, append-nil, length-map}
use Rattle.std.proofs.lemmas.List.Elements.{filter-append}
use Rattle.spec_model.specs.declared.plan.Setup.{Setup}
use Rattle.run_model.specs.declared.step.Ask.{Ask}
use Rattle.run_model.specs.declared.step.Order.{Order}
use Rattle.run_model.specs.declared.step.StepEntry.{StepEntry}
use Rattle.run_model.specs.Worlds.{Sending, World}
use Rattle.run_model.specs.Steps.{next_stamp}
use Rattle.run_model.specs.Runs.{InOrder, Runs, WorldSteps, asks_in, asks_of, entries_at}

if_map : {X Y : Type 0} (f : X → Y) (b : Bool) (x : X) → map f (if b then x ∷ [] else []) ≡ (if b then f x ∷ [] else [])
if_map f true x = refl
if_map f false x = refl

asks_more : (me : ℕ) (orders : List Order) (o : Order) → asks_of me (orders ++ o ∷ []) ≡ asks_of me orders ++ (if eqb o.replica me then o.ask ∷ [] else [])
asks_more me orders o =
    ap (map (λ (p : Order). p.ask)) (filter-append (λ (p : Order). eqb p.replica me) orders (o ∷ []))
    ∙ map-append (λ (p : Order). p.ask) (filter (λ p. eqb p.replica me) orders) (if eqb o.replica me then o ∷ [] else [])
    ∙ ap (λ (xs : List Ask). asks_of me orders ++ xs) (if_map (λ (p : Order). p.ask) (eqb o.replica me) o)

entries_more : (me : ℕ) (es : List StepEntry) (e : StepEntry) → entries_at me (es ++ e ∷ []) ≡ entries_at me es ++ (if eqb e.replica me then e ∷ [] else [])
entries_more me es e = filter-append (λ (f : StepEntry). eqb f.replica me) es (e ∷ [])

pub entries_same : (me : ℕ) (es : List StepEntry) (e : StepEntry) → e.replica ≡ me → entries_at me (es ++ e ∷ []) ≡ entries_at me es ++ e ∷ []
entries_same me es e is = entries_more me es e ∙ ap (λ b. entries_at me es ++ (if b then e ∷ [] else [])) (eq-eqb e.replica me is)

pub entries_other : (me : ℕ) (es : List StepEntry) (e : StepEntry) → e.replica ≢ me → entries_at me (es ++ e ∷ []) ≡ entries_at me es
entries_other me es e other = entries_more me es e ∙ ap (λ b. entries_at me es ++ (if b then e ∷ [] else [])) (ne_eqb e.replica me other) ∙ append-nil (entries_at me es)

-- what was asked is what the lines ask
pub asked_more : (me : ℕ) (es : List StepEntry) (e : StepEntry) (done : List Order) (o : Order) → e.replica ≡ o.replica → e.ask ≡ o.ask → asks_in (entries_at me es) ≡ asks_of me done → asks_in (entries_at me (es ++ e ∷ [])) ≡ asks_of me (done ++ o ∷ [])
asked_more me es e done o at is h =
    ap asks_in (entries_more me es e)
    ∙ map-append (λ (f : StepEntry). f.ask) (entries_at me es) (if eqb e.replica me then e ∷ [] else [])
    ∙ ap (λ (xs : List Ask). asks_in (entries_at me es) ++ xs) (if_map (λ (f : StepEntry). f.ask) (eqb e.replica me) e)
    ∙ ap (λ (xs : List Ask). xs ++ (if eqb e.replica me then e.ask ∷ [] else [])) h
    ∙ ap (λ i. asks_of me done ++ (if eqb i me then e.ask ∷ [] else [])) at
    ∙ ap (λ (a : Ask). asks_of me done ++ (if eqb o.replica me then a ∷ [] else [])) is
    ∙ sym (asks_more me done o)

few_kept : {X : Type 0} (p : X → Bool) (xs : List X) → length (filter p xs) ≤ length xs
few_kept p [] = omega arith
few_kept p (x ∷ xs) = one (p x) (few_kept p xs)
  where
    one : (b : Bool) → length (filter p xs) ≤ length xs → length (if b then x ∷ filter p xs else filter p xs) ≤ length (x ∷ xs)
    one true le = omega (arith, le)
    one false le = omega (arith, le)

-- a replica has no more entries than there are lines
pub entries_few : (me : ℕ) (es : List StepEntry) (done : List Order) → asks_in (entries_at me es) ≡ asks_of me done → length (entries_at me es) ≤ length done
entries_few me es done is =
    omega (
      arith,
      length-map (entries_at me es) (λ (f : StepEntry). f.ask),
      ap length is,
      length-map (filter (λ (p : Order). eqb p.replica me) done) (λ (p : Order). p.ask),
      few_kept (λ (p : Order). eqb p.replica me) done,
    )

pub runs_more : (setup : Setup) (a : World) (es : List StepEntry) (b : World) (e : StepEntry) (c : World) → Runs setup a es b → WorldSteps setup b e c → Runs setup a (es ++ e ∷ []) c
runs_more setup a [] b e c runs step = (c, subst (λ w. WorldSteps setup w e c) runs step, refl)
runs_more setup a (f ∷ es) b e c runs step = (runs.0, runs.1, runs_more setup runs.0 es b e c runs.2 step)

-- an entry with a later stamp stands behind the others
pub order_more : (es : List StepEntry) (e : StepEntry) (last : ℕ) → InOrder es → AllByRecursion (λ f. f.stamp ≤ last) es → last < e.stamp → InOrder (es ++ e ∷ [])
order_more [] e last order before lt = (tt, tt)
order_more (f ∷ []) e last order before lt = (inl (omega (arith, before.0, lt)), (tt, tt))
order_more (f ∷ g ∷ es) e last order before lt = (order.0, order_more (g ∷ es) e last order.1 before.1 lt)

pub later_stamp : (last : ℕ) (heard : Option Sending) → last < next_stamp last heard
later_stamp last None = omega arith
later_stamp last (Some sending) = omega arith

-- what doesn't change at one place is the same at all
pub map_set : {X Y : Type 0} (f : X → Y) (xs : List X) (i : ℕ) (old new : X) → slice_get xs i ≡ Some old → f new ≡ f old → map f (slice_set xs i new) ≡ map f xs
map_set f [] i old new is same = refl
map_set f (x ∷ xs) zero old new is same = let here : x ≡ old = cc in ap (λ y. y ∷ map f xs) (same ∙ ap f (sym here))
map_set f (x ∷ xs) (suc i) old new is same = ap (λ ys. f x ∷ ys) (map_set f xs i old new is same)
