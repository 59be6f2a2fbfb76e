-- Wants that are dropped one by one, from the last one on.
use Rattle.std.proofs.Common.{◌≡◌, ℕ, zero, suc, ◌+◌, ◌-◌, ◌<◌, Bool, List, [], ◌∷◌, ◌++◌, length, take, drop, filter, refl, sym, ap, ◌∙◌, arith, length-append, length-take, length-drop}
use Rattle.std.specs.Prelude.{not}
use Rattle.std.proofs.lemmas.List.Elements.{filter-append}
use Rattle.spec_model.specs.declared.plan.Setup.{Setup}
use Rattle.spec_model.specs.declared.right.Want.{Want}
use Rattle.run_model.specs.Fitting.{WantFits}
use Rattle.run_model.specs.Levels.{is_met}
use Rattle.run_model.specs.Wants.{need_of, still_wanted}
use Rattle.run_model.proofs.Lists.{each_append, each_take}
use Rattle.message_laws.proofs.Lists.{each_dropped}
use Rattle.message_laws.proofs.Wanted.{still_few, still_fit}
use Rattle.replica_core.specs.Decisions.{kept_at}
use Rattle.replica_core.specs.Replicas.{IsReplica, holds_of}
use Rattle.replica_core.specs.declared.replica.Replica.{Replica}
use Rattle.replica_core.proofs.Needed.{heard_replica}

-- those in front, and of those behind the ones that pass
abbrev pub passed : {X : Type 0} → (X → Bool) → List X → ℕ → List X
passed p xs m = take m xs ++ filter p (drop m xs)

pub pass_one : {X : Type 0} (p : X → Bool) (xs : List X) (m : ℕ) → m < length xs → take m (passed p xs (m + 1)) ++ (filter p (take 1 (drop m (passed p xs (m + 1)))) ++ drop (m + 1) (passed p xs (m + 1))) ≡ passed p xs m
pass_one p [] m lt = absurd (omega (arith, lt))
pass_one p (x ∷ xs) zero lt = sym (filter-append p (x ∷ []) xs)
pass_one {X} p (x ∷ xs) (suc m) lt =
    let one : suc m + 1 ≡ suc (m + 1) = omega arith in
    ap (λ n. take (suc m) (passed p (x ∷ xs) n) ++ (filter p (take 1 (drop (suc m) (passed p (x ∷ xs) n))) ++ drop n (passed p (x ∷ xs) n))) one ∙ ap (λ (l : List X). x ∷ l) (pass_one p xs m (omega (arith, lt)))

-- with those it is a replica still
pub passed_own : (setup : Setup) (old : Replica) (m : ℕ) → IsReplica setup old.me old → IsReplica setup old.me (record old { wants = take m old.wants ++ still_wanted setup.replicas (holds_of setup old) (drop m old.wants) })
passed_own setup old m own =
    let behind : List Want = still_wanted setup.replicas (holds_of setup old) (drop m old.wants) in
    heard_replica setup old.me old (record old { wants = take m old.wants ++ behind }) own (record {
      wants = take m old.wants ++ behind;
      told = old.told;
      is = refl;
      fit = each_append (WantFits setup) (take m old.wants) behind (each_take (WantFits setup) m old.wants own.wants) (still_fit setup setup.replicas (holds_of setup old) (drop m old.wants) (each_dropped (WantFits setup) m old.wants own.wants));
      few = omega (arith, length-append (take m old.wants) behind, length-take m old.wants, still_few setup.replicas (holds_of setup old) (drop m old.wants), length-drop m old.wants, own.few_wants);
      whole = own.told;
      each = own.told_each;
    })

-- once one more was looked at
pub dropped_one : (setup : Setup) (old mid new : Replica) (place k : ℕ) → mid ≡ record old { wants = take (length old.wants - k) old.wants ++ still_wanted setup.replicas (holds_of setup old) (drop (length old.wants - k) old.wants) } → new ≡ record mid { wants = kept_at setup mid place } → place + 1 ≡ length old.wants - k
    → new ≡ record old { wants = take (length old.wants - (k + 1)) old.wants ++ still_wanted setup.replicas (holds_of setup old) (drop (length old.wants - (k + 1)) old.wants) }
dropped_one setup old mid new place k mid_is new_is place_is =
    let p : Want → Bool = λ want. not (is_met setup.replicas (holds_of setup old) (need_of want)) in
    let with : List Want → Replica = λ wants. record old { wants = wants } in
    new_is ∙ ap (λ (r : Replica). let q : Replica = record r { wants = kept_at setup r place } in q) mid_is
    ∙ ap (λ n. with (take place (passed p old.wants n) ++ (filter p (take 1 (drop place (passed p old.wants n))) ++ drop (place + 1) (passed p old.wants n)))) (sym place_is) ∙ ap with (pass_one p old.wants place (omega (arith, place_is)))
    ∙ ap (λ n. with (passed p old.wants n)) (let same : place ≡ length old.wants - (k + 1) = omega (arith, place_is) in same)
