-- The turns of each replica: what its clients ask, and where its courier goes.
use Rattle.std.specs.Prelude.{ℕ, zero, suc, ◌+◌, ◌-◌, ◌/◌, ◌%◌, List, [], ◌∷◌, ◌++◌, length, map, filter, Bool, false, ◌==◌, if◌then◌else◌, nat_lt, Option, Some, None}
use Rattle.run_model.specs.declared.step.Ask.{Ask}
use Rattle.run_model.specs.declared.step.Ask.TheVariants as asks
use Rattle.scenario_text.specs.declared.document.ClientAsk.{ClientAsk}
use Rattle.scenario_text.specs.declared.document.Work.{Work}
use Rattle.scenario_text.specs.declared.document.Work.TheVariants as works

-- what a client asks, in order
abbrev pub asks_by : ℕ → List ClientAsk → List Ask
asks_by client asked = map (λ a. a.ask) (filter (λ a. a.client == client) asked)

-- the other replicas in ascending order: the one at this place
abbrev pub other_at : ℕ → ℕ → ℕ
other_at me place = if nat_lt place me then place else place + 1

-- the peer of a courier's turn: each two turns go to the next of the others, around and around
abbrev pub courier_peer : ℕ → ℕ → ℕ → ℕ
courier_peer replicas me turn = other_at me (turn / 2 % (replicas - 1))

-- a courier takes in its turns with even numbers, and sends in those with odd ones
abbrev pub courier_ask : ℕ → ℕ → ℕ → Ask
courier_ask replicas me turn = if turn % 2 == 0 then asks.Take (courier_peer replicas me turn) None else asks.Send (courier_peer replicas me turn) None

-- its first turns
abbrev pub first_turns : ℕ → ℕ → ℕ → List Ask
first_turns replicas me zero = []
first_turns replicas me (suc turns) = first_turns replicas me turns ++ courier_ask replicas me turns ∷ []

-- all turns of a replica's courier; with one replica there is none
abbrev pub courier_asks : ℕ → ℕ → ℕ → List Ask
courier_asks replicas me turns = if nat_lt 1 replicas then first_turns replicas me turns else []

abbrev pub asks_send : ℕ → Ask → Bool
asks_send to (asks.Send peer number) = peer == to
asks_send to ask = false

-- how many of these asks are sends to that replica
abbrev pub sends_in : ℕ → List Ask → ℕ
sends_in to asked = length (filter (asks_send to) asked)

-- the work of clients: how many turns each courier has, at which replica each client is at home, and what they ask
pub record ClientWork : Type 0 where
  pub turns : ℕ
  pub homes : List ℕ
  pub asked : List ClientAsk

-- the work of a document for clients, if it has no schedule
abbrev pub client_work : Work → Option ClientWork
client_work (works.Clients turns homes asked) = Some (record { turns = turns; homes = homes; asked = asked })
client_work (works.Schedule []) = Some (record { turns = 0; homes = []; asked = [] })
client_work (works.Schedule (order ∷ orders)) = None

-- what the clients that are at home at this replica ask, each in a list of its own: those from this number on
abbrev pub lists_from : ℕ → ℕ → List ℕ → List ClientAsk → List (List Ask)
lists_from me client [] asked = []
lists_from me client (home ∷ homes) asked = if home == me then asks_by client asked ∷ lists_from me (client + 1) homes asked else lists_from me (client + 1) homes asked

-- the turns of a replica: those of its clients, and of its courier
abbrev pub turns_at : ℕ → ClientWork → ℕ → List (List Ask)
turns_at replicas work me = lists_from me 0 work.homes work.asked ++ courier_asks replicas me work.turns ∷ []
