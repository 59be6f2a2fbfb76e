-- A line of a schedule, behind those before it.
use Rattle.std.proofs.Common.{◌≡◌, ℕ, zero, suc, ◌+◌, ◌<◌, List, [], ◌∷◌, ◌++◌, length, get_or, take, sym, ap, subst, ◌∙◌, arith}
use Rattle.std.specs.Prelude.{slice_get, Some}
use Rattle.std.proofs.lemmas.List.{append-nil, append_assoc, take_more, length-take-le}
use Rattle.std.proofs.lemmas.Option.{slice_get-get_or}
use Rattle.spec_model.specs.declared.plan.Setup.{Setup}
use Rattle.run_model.specs.declared.step.Order.{Order}
use Rattle.run_model.proofs.Lists.{each_at}
use Rattle.scenario_text.specs.WellFormed.{OrderFits, ScheduleFits}
use Rattle.scenario_text.specs.Numbered.{AreNumbered, IsNumbered}

numbered_at : (before orders : List Order) (at : ℕ) (o : Order) → AreNumbered before orders → slice_get orders at ≡ Some o → IsNumbered (before ++ take at orders) o
numbered_at before [] at o h is = absurd cc
numbered_at before (x ∷ orders) zero o h is =
    let same : x ≡ o = cc in
    subst (λ (l : List Order). IsNumbered l o) (sym (append-nil before)) (subst (IsNumbered before) same h.0)
numbered_at before (x ∷ orders) (suc at) o h is = subst (λ (l : List Order). IsNumbered l o) (append_assoc before (x ∷ []) (take at orders)) (numbered_at (before ++ x ∷ []) orders at o h.1 is)

-- it may follow the lines before it
pub record IsAt (setup : Setup) (schedule : List Order) (at : ℕ) (o : Order) : Type 0 where
  pub split : take (at + 1) schedule ≡ take at schedule ++ o ∷ []
  pub fits : OrderFits setup.spec setup.replicas o
  pub numbered : IsNumbered (take at schedule) o
  pub few : length (take at schedule) < 100000

pub order_at : (setup : Setup) (schedule : List Order) (at : ℕ) (o : Order) → ScheduleFits setup.spec setup.replicas schedule → at < length schedule → o ≡ get_or schedule at o → IsAt setup schedule at o
order_at setup schedule at o h lt is =
    let there : slice_get schedule at ≡ Some o = slice_get-get_or schedule at o lt ∙ ap (λ (z : Order). Some z) (sym is) in
    record {
      split = take_more schedule at o lt ∙ ap (λ (p : Order). take at schedule ++ p ∷ []) (sym is);
      fits = each_at (OrderFits setup.spec setup.replicas) schedule at o h.orders_fit there;
      numbered = numbered_at [] schedule at o h.numbered there;
      few = omega (arith, length-take-le at schedule (omega (arith, lt)), lt, h.few_orders);
    }
