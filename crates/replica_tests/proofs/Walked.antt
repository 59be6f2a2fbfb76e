-- Specifications without marked clauses, and stores of two replicas.
use Rattle.std.proofs.Common.{◌≡◌, ℕ, suc, ◌≤◌, cond, false, List, [], ◌∷◌, ◌++◌, length, map, refl, sym, ap, subst, ◌∙◌, arith}
use Rattle.std.specs.List.{AllByRecursion}
use Rattle.spec_model.specs.declared.clause.Clause.{Clause}
use Rattle.spec_model.specs.declared.plan.LockKind.{LockKind}
use Rattle.spec_model.specs.declared.plan.Setup.{Setup}
use Rattle.spec_model.specs.declared.spec.Spec.{Spec}
use Rattle.spec_model.specs.Fits.{EachPairOnce, IsWellFormed, LockFits, PartFits, marked_from}
use Rattle.run_model.specs.Fitting.{SetupFits}
use Rattle.run_model.specs.Logs.{Logs, log_at}
use Rattle.run_model.proofs.Lists.{each_append}
use Rattle.causal_store.specs.Stores.{IsStore, logs_in}
use Rattle.causal_store.specs.declared.store.Store.{Store}

pub each_push : {X : Type 0} (P : X → Type 0) (xs : List X) (x : X) → AllByRecursion P xs → P x → AllByRecursion P (xs ++ x ∷ [])
each_push P xs x h k = each_append P xs (x ∷ []) h (k, tt)

-- no place of a marked clause where none is marked
none_marked : (i : ℕ) (clauses : List Clause) → AllByRecursion (λ (c : Clause). c.mask ≡ false) clauses → marked_from i clauses ≡ []
none_marked i [] none = refl
none_marked i (c ∷ clauses) none = ap (λ b. cond b (i ∷ marked_from (suc i) clauses) (marked_from (suc i) clauses)) none.0 ∙ none_marked (suc i) clauses none.1

-- so an empty plan fits
pub bare_fits : (setup : Setup) → IsWellFormed setup.spec → AllByRecursion (λ (c : Clause). c.mask ≡ false) setup.spec.clauses → setup.plan.locks ≡ [] → setup.plan.masks ≡ [] → setup.plan.parts ≡ [] → setup.replicas ≡ 2 → SetupFits setup
bare_fits setup formed none locks masks parts two = record {
  some = omega (arith, two);
  spec = formed;
  plan = record {
    locks_fit = subst (AllByRecursion (LockFits setup.spec)) (sym locks) tt;
    parts_fit = subst (AllByRecursion (PartFits setup.spec)) (sym parts) tt;
    once = subst EachPairOnce (sym (ap (λ (kinds : List LockKind). kinds ++ setup.plan.parts) locks ∙ parts)) tt;
    masks = masks ∙ sym (none_marked 0 setup.spec.clauses none);
  };
}

-- two short logs
pub short_logs : (logs : Logs) → length logs ≡ 2 → length (log_at logs 0) ≤ 1000 → length (log_at logs 1) ≤ 1000 → AllByRecursion (λ log. length log ≤ 4194304) logs
short_logs [] two a b = tt
short_logs (x ∷ []) two a b = (omega (arith, a), tt)
short_logs (x ∷ y ∷ []) two a b = (omega (arith, a), (omega (arith, b), tt))
short_logs (x ∷ y ∷ z ∷ logs) two a b = absurd (omega (arith, two))

-- a store, by how many logs it has
pub as_whole : (spec : Spec) (n : ℕ) (s : Store) → IsStore spec n s → IsStore spec (length (logs_in s)) s
as_whole spec n s own = subst (λ k. IsStore spec k s) (sym own.whole) own
