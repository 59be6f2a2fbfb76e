-- How many turns a replica has.
use Rattle.std.proofs.Common.{◌≡◌, ℕ, ◌+◌, ◌-◌, ◌*◌, ◌<◌, ◌≤◌, List, [], ◌∷◌, length, refl, sym, ap, ◌∙◌, arith}
use Rattle.std.specs.List.{sum_by}
use Rattle.std.proofs.Math.Nat.{le-mul_of_pos_right, mul-one, mul-sub, mul_assoc}
use Rattle.std.proofs.lemmas.List.Sums.{sum_by-cons}
use Rattle.spec_model.specs.declared.spec.Spec.{Spec}
use Rattle.scenario_text.specs.WellFormed.{ClientsFit}
use Rattle.client_asks.specs.Asking.{ClientWork, turns_at}
use Rattle.client_runs.proofs.Counted.{interleaves_long, lengths, sends_are, sends_few, turns_few}
use Rattle.client_workers.specs.Laws.{TurnsAreFew, turns_of}

lengths_are : {X : Type 0} (lists : List (List X)) → sum_by length lists ≡ lengths lists
lengths_are [] = refl
lengths_are (xs ∷ lists) = sum_by-cons length xs lists ∙ ap (λ n. length xs + n) (lengths_are lists)

-- a courier's turns, and as many for each other replica, are those of all couriers
couriers_turns : (turns replicas : ℕ) → 0 < replicas → turns + turns * (replicas - 1) ≡ turns * replicas
couriers_turns turns replicas some =
    let parted = mul-sub turns replicas 1 in
    let one = mul-one turns in
    let le = le-mul_of_pos_right turns some in
    omega (arith, parted, one, le)

few_turns : (spec : Spec) (replicas : ℕ) (work : ClientWork) (me : ℕ) → ClientsFit spec replicas work.turns work.homes work.asked → me < replicas → turns_of replicas work me + work.turns * (replicas - 1) ≤ 100000
few_turns spec replicas work me fit lt =
    let same = lengths_are (turns_at replicas work me) in
    let few = turns_few replicas work me in
    let couriers = couriers_turns work.turns replicas (omega (arith, lt)) in
    let twice = mul_assoc 2 work.turns replicas in
    omega (arith, same, few, couriers, twice, fit.few_asks)

pub turns_fit : TurnsAreFew
turns_fit spec replicas work me fit lt = record {
  few = few_turns spec replicas work me fit lt;
  lines = λ line h. record {
    long = interleaves_long (turns_at replicas work me) line h ∙ sym (lengths_are (turns_at replicas work me));
    sends = λ to. sends_are spec replicas work me to line fit h;
  };
  sends_few = λ to. sends_few replicas me work.turns to;
}
