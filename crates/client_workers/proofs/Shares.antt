-- What each replica's workers have of the turns.
use Rattle.std.proofs.Common.{◌≡◌, inl, inr, ℕ, zero, suc, ◌+◌, ◌<◌, ◌≤◌, Bool, true, false, cond, List, [], ◌∷◌, ◌++◌, All, filter, length, map, refl, ap, subst, ◌∙◌, arith}
use Rattle.std.specs.Prelude.{◌==◌, if◌then◌else◌, Some, None}
use Rattle.std.specs.List.{AllByRecursion}
use Rattle.std.proofs.lemmas.Bool.{cases_lt, eq-eqb, ne_eqb}
use Rattle.std.proofs.lemmas.List.Elements.{All-from_recursion}
use Rattle.spec_model.specs.declared.plan.Setup.{Setup}
use Rattle.run_model.specs.declared.step.Ask.{Ask}
use Rattle.run_model.specs.declared.step.Ask.TheVariants as asks
use Rattle.run_model.proofs.Lists.{each_append, each_weaker}
use Rattle.scenario_text.specs.WellFormed.{RequestFits}
use Rattle.scenario_text.specs.WellFormed as formed
use Rattle.scenario_text.specs.declared.document.ClientAsk.{ClientAsk}
use Rattle.desk_workers.specs.declared.worker.Worker.{Worker}
use Rattle.desk_workers.specs.Workers.{lists_at}
use Rattle.desk_workers.proofs.Loads.{lists_at-append}
use Rattle.client_asks.specs.Asking.{asks_by, courier_asks, lists_from, turns_at}
use Rattle.client_runs.proofs.Asked.{IsTurn, couriers_fit, of_clients}
use Rattle.client_workers.specs.Workers.{MayAsk, all_workers, clients_from, first_couriers}

abbrev asks_of : Worker Ask → List Ask
asks_of w = w.asks

abbrev is_at : ℕ → Worker Ask → Bool
is_at me w = w.desk == me

abbrev courier_of : ℕ → ℕ → ℕ → Worker Ask
courier_of replicas me turns = record { desk = me; client = None; asks = courier_asks replicas me turns }

-- ---- all workers

-- those of the clients, and then those of the couriers
pub both_added : (replicas turns : ℕ) (homes : List ℕ) (asked : List ClientAsk) (none clients all : List (Worker Ask)) → none ≡ [] → clients ≡ none ++ clients_from 0 homes asked → all ≡ clients ++ first_couriers replicas turns replicas → all ≡ all_workers replicas turns homes asked
both_added replicas turns homes asked none clients all empty some more =
    more ∙ ap (λ workers. workers ++ first_couriers replicas turns replicas) (some ∙ ap (λ workers. workers ++ clients_from 0 homes asked) empty)

-- ---- whose turns they have

clients_share : (me client : ℕ) (homes : List ℕ) (asked : List ClientAsk) → lists_at me (clients_from client homes asked) ≡ lists_from me client homes asked
clients_share me client [] asked = refl
clients_share me client (home ∷ homes) asked = by_test (home == me) (clients_share me (client + 1) homes asked)
  where
    worker : Worker Ask
    worker = record { desk = home; client = Some client; asks = asks_by client asked }

    rest : List (Worker Ask)
    rest = filter (is_at me) (clients_from (client + 1) homes asked)

    by_test : (b : Bool) → map asks_of rest ≡ lists_from me (client + 1) homes asked
        → map asks_of (cond b (worker ∷ rest) rest) ≡ (if b then asks_by client asked ∷ lists_from me (client + 1) homes asked else lists_from me (client + 1) homes asked)
    by_test true same = ap (λ (lists : List (List Ask)). asks_by client asked ∷ lists) same
    by_test false same = same

-- a courier that is at this replica, and one that isn't
courier_here : (replicas n turns me : ℕ) → n ≡ me → lists_at me (courier_of replicas n turns ∷ []) ≡ courier_asks replicas me turns ∷ []
courier_here replicas n turns me is =
    ap (λ b. map asks_of (cond b (courier_of replicas n turns ∷ []) [])) (eq-eqb n me is) ∙ ap (λ k. courier_asks replicas k turns ∷ []) is

courier_apart : (replicas n turns me : ℕ) → (n ≡ me → ⊥) → lists_at me (courier_of replicas n turns ∷ []) ≡ []
courier_apart replicas n turns me other = ap (λ b. map asks_of (cond b (courier_of replicas n turns ∷ []) [])) (ne_eqb n me other)

-- of the first replicas' couriers none is at a later one
couriers_apart : (n replicas turns me : ℕ) → n ≤ me → lists_at me (first_couriers replicas turns n) ≡ []
couriers_apart zero replicas turns me le = refl
couriers_apart (suc n) replicas turns me le =
    lists_at-append me (first_couriers replicas turns n) (courier_of replicas n turns ∷ [])
    ∙ ap (λ (lists : List (List Ask)). lists ++ lists_at me (courier_of replicas n turns ∷ [])) (couriers_apart n replicas turns me (omega (arith, le)))
    ∙ courier_apart replicas n turns me (λ is. omega (arith, is, le))

-- and one is at each of them
couriers_share : (n replicas turns me : ℕ) → me < n → lists_at me (first_couriers replicas turns n) ≡ courier_asks replicas me turns ∷ []
couriers_share zero replicas turns me lt = absurd (omega (arith, lt))
couriers_share (suc n) replicas turns me lt =
    lists_at-append me (first_couriers replicas turns n) (courier_of replicas n turns ∷ [])
    ∙ elim (cases_lt me n) [
      | inl before ↦
          ap (λ (lists : List (List Ask)). lists ++ lists_at me (courier_of replicas n turns ∷ [])) (couriers_share n replicas turns me before)
          ∙ ap (λ (lists : List (List Ask)). courier_asks replicas me turns ∷ lists) (courier_apart replicas n turns me (λ is. omega (arith, is, before)))
      | inr behind ↦
          ap (λ (lists : List (List Ask)). lists ++ lists_at me (courier_of replicas n turns ∷ [])) (couriers_apart n replicas turns me behind)
          ∙ courier_here replicas n turns me (omega (arith, behind, lt))
    ]

pub workers_share : (replicas turns me : ℕ) (homes : List ℕ) (asked : List ClientAsk) → me < replicas → lists_at me (all_workers replicas turns homes asked) ≡ turns_at replicas (record { turns = turns; homes = homes; asked = asked }) me
workers_share replicas turns me homes asked lt =
    lists_at-append me (clients_from 0 homes asked) (first_couriers replicas turns replicas)
    ∙ ap (λ (lists : List (List Ask)). lists ++ lists_at me (first_couriers replicas turns replicas)) (clients_share me 0 homes asked)
    ∙ ap (λ (lists : List (List Ask)). lists_from me 0 homes asked ++ lists) (couriers_share replicas replicas turns me lt)

-- ---- where they are

clients_placed : (n client : ℕ) (homes : List ℕ) (asked : List ClientAsk) → AllByRecursion (λ home. home < n) homes → AllByRecursion (λ (w : Worker Ask). w.desk < n) (clients_from client homes asked)
clients_placed n client [] asked within = tt
clients_placed n client (home ∷ homes) asked within = (within.0, clients_placed n (client + 1) homes asked within.1)

couriers_placed : (n replicas turns : ℕ) → n ≤ replicas → AllByRecursion (λ (w : Worker Ask). w.desk < replicas) (first_couriers replicas turns n)
couriers_placed zero replicas turns le = tt
couriers_placed (suc n) replicas turns le =
    each_append (λ (w : Worker Ask). w.desk < replicas) (first_couriers replicas turns n) (courier_of replicas n turns ∷ []) (couriers_placed n replicas turns (omega (arith, le))) (omega (arith, le), tt)

pub workers_placed : (replicas turns : ℕ) (homes : List ℕ) (asked : List ClientAsk) → AllByRecursion (λ home. home < replicas) homes → All (λ (w : Worker Ask). w.desk < replicas) (all_workers replicas turns homes asked)
workers_placed replicas turns homes asked within =
    All-from_recursion (λ (w : Worker Ask). w.desk < replicas) (all_workers replicas turns homes asked)
    (each_append (λ (w : Worker Ask). w.desk < replicas) (clients_from 0 homes asked) (first_couriers replicas turns replicas) (clients_placed replicas 0 homes asked within) (couriers_placed replicas replicas turns (omega arith)))

-- ---- what they ask

request_may : (setup : Setup) (me : ℕ) (ask : Ask) → RequestFits setup.spec ask → MayAsk setup me ask
request_may setup me (asks.Do inst) fits = (fits, refl)
request_may setup me (asks.Send to number) fits = absurd fits
request_may setup me (asks.Take from number) fits = absurd fits
request_may setup me asks.Crash fits = (tt, refl)
request_may setup me asks.Recover fits = (tt, refl)

abbrev MayAskAll : Setup → Worker Ask → Type 0
MayAskAll setup w = All (MayAsk setup w.desk) w.asks

-- the asks of one client are those of all clients of a replica that has no other
client_may : (setup : Setup) (clients me client : ℕ) (asked : List ClientAsk) → AllByRecursion (formed.AskFits setup.spec clients) asked → AllByRecursion (MayAsk setup me) (asks_by client asked)
client_may setup clients me client asked fit = (of_clients (MayAsk setup me) setup.spec clients 0 client (0 ∷ []) asked (request_may setup me) fit).0

clients_may : (setup : Setup) (clients client : ℕ) (homes : List ℕ) (asked : List ClientAsk) → AllByRecursion (formed.AskFits setup.spec clients) asked → AllByRecursion (MayAskAll setup) (clients_from client homes asked)
clients_may setup clients client [] asked fit = tt
clients_may setup clients client (home ∷ homes) asked fit =
    (All-from_recursion (MayAsk setup home) (asks_by client asked) (client_may setup clients home client asked fit), clients_may setup clients (client + 1) homes asked fit)

courier_may : (setup : Setup) (turns me : ℕ) → me < setup.replicas → AllByRecursion (MayAsk setup me) (courier_asks setup.replicas me turns)
courier_may setup turns me lt =
    each_weaker (IsTurn setup me) (MayAsk setup me) (λ ask is. (is.fits, is.is_plain)) (courier_asks setup.replicas me turns) (couriers_fit setup me turns lt)

couriers_may : (setup : Setup) (n turns : ℕ) → n ≤ setup.replicas → AllByRecursion (MayAskAll setup) (first_couriers setup.replicas turns n)
couriers_may setup zero turns le = tt
couriers_may setup (suc n) turns le =
    each_append (MayAskAll setup) (first_couriers setup.replicas turns n) (courier_of setup.replicas n turns ∷ []) (couriers_may setup n turns (omega (arith, le)))
    (All-from_recursion (MayAsk setup n) (courier_asks setup.replicas n turns) (courier_may setup turns n (omega (arith, le))), tt)

pub workers_may : (setup : Setup) (replicas turns : ℕ) (homes : List ℕ) (asked : List ClientAsk) → setup.replicas ≡ replicas → AllByRecursion (formed.AskFits setup.spec (length homes)) asked → All (MayAskAll setup) (all_workers replicas turns homes asked)
workers_may setup replicas turns homes asked are fit =
    subst (λ n. All (MayAskAll setup) (all_workers n turns homes asked)) are
    (All-from_recursion (MayAskAll setup) (all_workers setup.replicas turns homes asked)
    (each_append (MayAskAll setup) (clients_from 0 homes asked) (first_couriers setup.replicas turns setup.replicas)
    (clients_may setup (length homes) 0 homes asked fit) (couriers_may setup setup.replicas turns (omega arith))))
