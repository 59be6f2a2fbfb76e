-- What clients and couriers ask fits, and how much it is.
use Rattle.std.proofs.Common.{◌≡◌, ℕ, zero, suc, ◌+◌, ◌-◌, ◌<◌, ◌≤◌, ◌/◌, ◌%◌, Bool, true, false, List, [], ◌∷◌, filter, length, map, refl, ◌∙◌, arith, mod-lt}
use Rattle.std.specs.Prelude.{◌==◌, nat_lt, if◌then◌else◌, None}
use Rattle.std.specs.List.{AllByRecursion}
use Rattle.std.proofs.lemmas.Bool.{cond_both, ltb-true, ltb-false}
use Rattle.std.proofs.lemmas.List.{length-append}
use Rattle.spec_model.specs.declared.plan.Setup.{Setup}
use Rattle.spec_model.specs.declared.spec.Spec.{Spec}
use Rattle.run_model.specs.declared.step.Ask.{Ask}
use Rattle.run_model.specs.declared.step.Ask.TheVariants as asks
use Rattle.run_model.proofs.Lists.{each_append}
use Rattle.scenario_text.specs.WellFormed.{ClientsFit, RequestFits}
use Rattle.scenario_text.specs.WellFormed as formed
use Rattle.scenario_text.specs.declared.document.ClientAsk.{ClientAsk}
use Rattle.local_runs.specs.Handed.{AskFits, IsPeer}
use Rattle.client_asks.specs.Asking.{ClientWork, asks_by, courier_ask, courier_asks, courier_peer, first_turns, lists_from, other_at, turns_at}
use Rattle.replica_node.specs.Steps.{plain}

-- an ask fits, and has no number
pub record IsTurn (setup : Setup) (me : ℕ) (ask : Ask) : Type 0 where
  pub fits : AskFits setup me ask
  pub is_plain : plain ask ≡ ask

-- ---- couriers

-- the other replica at a place
other_peer : (setup : Setup) (me place : ℕ) → me < setup.replicas → place < setup.replicas - 1 → IsPeer setup me (other_at me place)
other_peer setup me place lt less = by_test (nat_lt place me) refl
  where
    by_test : (b : Bool) → nat_lt place me ≡ b → IsPeer setup me (if b then place else place + 1)
    by_test true is = let before = ltb-true place me is in (omega (arith, before, lt), λ same. absurd (omega (arith, before, same)))
    by_test false is = let behind = ltb-false place me is in (omega (arith, less), λ same. absurd (omega (arith, behind, same)))

courier_fits : (setup : Setup) (me turn : ℕ) → me < setup.replicas → 1 < setup.replicas → IsTurn setup me (courier_ask setup.replicas me turn)
courier_fits setup me turn lt many = by_test (turn % 2 == 0)
  where
    peer : IsPeer setup me (courier_peer setup.replicas me turn)
    peer = other_peer setup me (turn / 2 % (setup.replicas - 1)) lt (mod-lt (turn / 2) (omega (arith, many)))

    by_test : (b : Bool) → IsTurn setup me (if b then asks.Take (courier_peer setup.replicas me turn) None else asks.Send (courier_peer setup.replicas me turn) None)
    by_test true = record { fits = peer; is_plain = refl }
    by_test false = record { fits = peer; is_plain = refl }

turns_fit : (setup : Setup) (me turns : ℕ) → me < setup.replicas → 1 < setup.replicas → AllByRecursion (IsTurn setup me) (first_turns setup.replicas me turns)
turns_fit setup me zero lt many = tt
turns_fit setup me (suc turns) lt many = each_append (IsTurn setup me) (first_turns setup.replicas me turns) (courier_ask setup.replicas me turns ∷ []) (turns_fit setup me turns lt many) (courier_fits setup me turns lt many, tt)

-- all that a courier is asked fits
pub couriers_fit : (setup : Setup) (me turns : ℕ) → me < setup.replicas → AllByRecursion (IsTurn setup me) (courier_asks setup.replicas me turns)
couriers_fit setup me turns lt = by_test (nat_lt 1 setup.replicas) refl
  where
    by_test : (b : Bool) → nat_lt 1 setup.replicas ≡ b → AllByRecursion (IsTurn setup me) (if b then first_turns setup.replicas me turns else [])
    by_test true is = turns_fit setup me turns lt (ltb-true 1 setup.replicas is)
    by_test false is = tt

turns_long : (replicas me turns : ℕ) → length (first_turns replicas me turns) ≡ turns
turns_long replicas me zero = refl
turns_long replicas me (suc turns) = let before = turns_long replicas me turns in length-append (first_turns replicas me turns) (courier_ask replicas me turns ∷ []) ∙ omega (arith, before)

-- and is no more than its turns
pub couriers_few : (replicas me turns : ℕ) → length (courier_asks replicas me turns) ≤ turns
couriers_few replicas me turns = by_test (nat_lt 1 replicas)
  where
    by_test : (b : Bool) → length (if b then first_turns replicas me turns else []) ≤ turns
    by_test true = let long = turns_long replicas me turns in omega (arith, long)
    by_test false = omega arith

-- ---- clients

request_turn : (setup : Setup) (me : ℕ) (ask : Ask) → RequestFits setup.spec ask → IsTurn setup me ask
request_turn setup me (asks.Do inst) fits = record { fits = fits; is_plain = refl }
request_turn setup me (asks.Send to number) fits = absurd fits
request_turn setup me (asks.Take from number) fits = absurd fits
request_turn setup me asks.Crash fits = record { fits = tt; is_plain = refl }
request_turn setup me asks.Recover fits = record { fits = tt; is_plain = refl }

-- what holds of each request that fits holds of what one client asks
of_client : (P : Ask → Type 0) (spec : Spec) (clients client : ℕ) (asked : List ClientAsk) → ((ask : Ask) → RequestFits spec ask → P ask) → AllByRecursion (formed.AskFits spec clients) asked → AllByRecursion P (asks_by client asked)
of_client P spec clients client [] each fit = tt
of_client P spec clients client (a ∷ asked) each fit =
    let rest : List ClientAsk = filter (λ (b : ClientAsk). b.client == client) asked in
    cond_both (a.client == client) (a ∷ rest) rest (λ kept. AllByRecursion P (map (λ (b : ClientAsk). b.ask) kept))
    (λ mine. (each a.ask fit.0.request, of_client P spec clients client asked each fit.1)) (λ other. of_client P spec clients client asked each fit.1)

-- and of what the clients of one replica ask
pub of_clients : (P : Ask → Type 0) (spec : Spec) (clients me client : ℕ) (homes : List ℕ) (asked : List ClientAsk) → ((ask : Ask) → RequestFits spec ask → P ask) → AllByRecursion (formed.AskFits spec clients) asked
    → AllByRecursion (AllByRecursion P) (lists_from me client homes asked)
of_clients P spec clients me client [] asked each fit = tt
of_clients P spec clients me client (home ∷ homes) asked each fit =
    cond_both (home == me) (asks_by client asked ∷ lists_from me (client + 1) homes asked) (lists_from me (client + 1) homes asked) (AllByRecursion (AllByRecursion P))
    (λ mine. (of_client P spec clients client asked each fit, of_clients P spec clients me (client + 1) homes asked each fit)) (λ other. of_clients P spec clients me (client + 1) homes asked each fit)

-- the turns of a replica fit
pub all_fit : (setup : Setup) (work : ClientWork) (me : ℕ) → me < setup.replicas → ClientsFit setup.spec setup.replicas work.turns work.homes work.asked → AllByRecursion (AllByRecursion (IsTurn setup me)) (turns_at setup.replicas work me)
all_fit setup work me lt fit =
    each_append (AllByRecursion (IsTurn setup me)) (lists_from me 0 work.homes work.asked) (courier_asks setup.replicas me work.turns ∷ [])
    (of_clients (IsTurn setup me) setup.spec (length work.homes) me 0 work.homes work.asked (request_turn setup me) fit.asks_fit) (couriers_fit setup me work.turns lt, tt)
