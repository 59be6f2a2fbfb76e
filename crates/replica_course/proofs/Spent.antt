-- What is spent of a disk's stops.
use Rattle.std.proofs.Common.{◌≡◌, ◌⊎◌, inl, inr, ℕ, ◌+◌, ◌≤◌, Bool, true, false, List, [], ◌∷◌, ◌++◌, length, refl, sym, ap, subst, ◌∙◌, arith}
use Rattle.std.specs.Prelude.{filter, if◌then◌else◌, IsTrue}
use Rattle.std.proofs.lemmas.List.{length-append}
use Rattle.std.proofs.lemmas.List.Elements.{filter-append}
use Rattle.spec_model.specs.declared.plan.Setup.{Setup}
use Rattle.run_model.specs.declared.step.Outcome.{Outcome}
use Rattle.run_model.specs.declared.step.Outcome.TheVariants as outcomes
use Rattle.run_model.specs.declared.step.StepEntry.{StepEntry}
use Rattle.batch_storage.specs.Shown.{Costs, Shown}
use Rattle.replica_course.specs.Courses.{HasStops, IsFirst, failures, is_broken}
use Rattle.replica_course.specs.Steps.{IsBroken}
use Rattle.replica_course.specs.declared.course.Course.{Course}

-- whether an answer is that the disk failed
broken_or_not : (o : Outcome) → (o ≡ outcomes.DiskBroken) ⊎ (is_broken o ≡ false)
broken_or_not (outcomes.Done index) = inr refl
broken_or_not (outcomes.Breaks broken) = inr refl
broken_or_not (outcomes.Short lacking) = inr refl
broken_or_not (outcomes.Sent number entries wants) = inr refl
broken_or_not (outcomes.Took number applied accepted gave) = inr refl
broken_or_not outcomes.Unsent = inr refl
broken_or_not outcomes.Idle = inr refl
broken_or_not outcomes.Full = inr refl
broken_or_not outcomes.Stopped = inr refl
broken_or_not outcomes.Kept = inr refl
broken_or_not outcomes.Lost = inr refl
broken_or_not outcomes.Same = inr refl
broken_or_not outcomes.Up = inr refl
broken_or_not outcomes.Down = inr refl
broken_or_not outcomes.DiskBroken = inl refl

failures_more : (up : Bool) (es : List StepEntry) (e : StepEntry) → failures up (es ++ e ∷ []) ≡ failures up es + length (if is_broken e.outcome then e ∷ [] else [])
failures_more up es e =
    omega (
      arith,
      ap length (filter-append (λ (f : StepEntry). is_broken f.outcome) es (e ∷ [])),
      length-append (filter (λ (f : StepEntry). is_broken f.outcome) es) (if is_broken e.outcome then e ∷ [] else []),
    )

-- a step at which the disk fails spends a stop
pub stops_more : (given : ℕ) (old new : Shown) (c after : Course) (e : StepEntry) → Costs old new (IsBroken e.outcome) → after.entries ≡ c.entries ++ e ∷ [] → after.first_up ≡ c.first_up → HasStops given old c → HasStops given new after
stops_more given old new c after e costs entries up h = record {
  tells = subst (λ (b : Bool). IsTrue b) (sym costs.tells) h.tells;
  tells_stops = subst (λ (b : Bool). IsTrue b) (sym costs.tells_stops) h.tells_stops;
  few = elim (broken_or_not e.outcome) [
    | inl broken ↦ omega (arith, same, more, ap (λ o. length (if is_broken o then e ∷ [] else [])) broken, costs.spent broken h.tells h.tells_stops, h.few)
    | inr other ↦ omega (arith, same, more, ap (λ b. length (if b then e ∷ [] else [])) other, costs.no_more_stops, h.few)
  ];
}
  where
    same : failures after.first_up after.entries ≡ failures c.first_up (c.entries ++ e ∷ [])
    same = ap (λ b. failures b after.entries) up ∙ ap (failures c.first_up) entries

    more : failures c.first_up (c.entries ++ e ∷ []) ≡ failures c.first_up c.entries + length (if is_broken e.outcome then e ∷ [] else [])
    more = failures_more c.first_up c.entries e

-- without a step none comes back
pub stops_same : (P : Type 0) (given : ℕ) (old new : Shown) (c after : Course) → Costs old new P → after.entries ≡ c.entries → after.first_up ≡ c.first_up → HasStops given old c → HasStops given new after
stops_same P given old new c after costs entries up h = record {
  tells = subst (λ (b : Bool). IsTrue b) (sym costs.tells) h.tells;
  tells_stops = subst (λ (b : Bool). IsTrue b) (sym costs.tells_stops) h.tells_stops;
  few = omega (arith, same, costs.no_more_stops, h.few);
}
  where
    same : failures after.first_up after.entries ≡ failures c.first_up c.entries
    same = ap (λ b. failures b after.entries) up ∙ ap (failures c.first_up) entries

-- a replica that began down has spent a stop
pub first_stops : (given : ℕ) (setup : Setup) (me : ℕ) (up : Bool) (c : Course) (d s : Shown) → IsTrue d.tells → IsTrue d.tells_stops → d.stops_left ≤ given → IsFirst setup me up c → Costs d s (up ≡ false) → HasStops given s c
first_stops given setup me up c d s tells tells_stops enough first costs = record {
  tells = subst (λ (b : Bool). IsTrue b) (sym costs.tells) tells;
  tells_stops = subst (λ (b : Bool). IsTrue b) (sym costs.tells_stops) tells_stops;
  few = subst (λ n. n + s.stops_left ≤ given) (sym none) (by_up up refl);
}
  where
    none : failures c.first_up c.entries ≡ failures up []
    none = ap (λ b. failures b c.entries) first.first_up ∙ ap (failures up) first.entries

    by_up : (b : Bool) → up ≡ b → failures up [] + s.stops_left ≤ given
    by_up true is = omega (arith, ap (λ b. failures b []) is, costs.no_more_stops, enough)
    by_up false is = omega (arith, ap (λ b. failures b []) is, costs.spent is tells tells_stops, enough)
