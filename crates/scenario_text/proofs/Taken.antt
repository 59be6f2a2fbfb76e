-- What holds where a line of a run is taken.
use Rattle.std.proofs.Common.{◌≡◌, ℕ, ◌+◌, true, not, ◌&&◌, eqb, List, length}
use Rattle.std.specs.Prelude.{Ok, Some, nat_le, nat_lt}
use Rattle.line_text.proofs.Guards.{guard_ok, bind_ok, ok_same}
use Rattle.run_model.specs.declared.step.Ask.{Ask}
use Rattle.run_model.specs.declared.step.Ask.TheVariants as asks
use Rattle.spec_lines.specs.declared.line.SpecLine.{SpecLine}
use Rattle.scenario_lines.specs.declared.argument.NamedArg.{NamedArg}
use Rattle.spec_language.specs.declared.draft.SpecDraft.{SpecDraft}
use Rattle.spec_language.specs.Draft.{step as spec_step}
use Rattle.scenario_text.specs.declared.draft.Draft.{Draft}
use Rattle.scenario_text.specs.Requests.{is_op, request_fits, request_within, inst_of}
use Rattle.scenario_text.specs.Draft as drafts

abbrev pub with_spec : Draft → SpecDraft → Draft
with_spec d spec = record { spec = spec; rank = d.rank; replicas = d.replicas; stops = d.stops; orders = d.orders; sent = d.sent; turns = d.turns; homes = d.homes; asks = d.asks }

pub record SpecTaken (d e : Draft) (line : SpecLine) : Type 0 where
  pub low : eqb d.rank 0 ≡ true
  pub spec : SpecDraft
  pub taken : spec_step d.spec line ≡ Ok spec
  pub whole : with_spec d spec ≡ e

pub spec_taken : (d e : Draft) (line : SpecLine) → drafts.take_spec d line ≡ Ok e → SpecTaken d e line
unfolding drafts.take_spec
spec_taken d e line is =
    let a = guard_ok (eqb d.rank 0) _ _ e is in
    let b = bind_ok (spec_step d.spec line) _ e a.1 in
    record { low = a.0; spec = b.0; taken = b.1; whole = ok_same _ e b.2 }

abbrev pub with_replicas : Draft → ℕ → Draft
with_replicas d n = record { spec = d.spec; rank = 7; replicas = n; stops = d.stops; orders = d.orders; sent = d.sent; turns = d.turns; homes = d.homes; asks = d.asks }

pub record ReplicasTaken (d e : Draft) (n : ℕ) : Type 0 where
  pub low : eqb d.rank 0 ≡ true
  pub ranged : (nat_le 1 n && nat_le n 8) ≡ true
  pub whole : with_replicas d n ≡ e

pub replicas_taken : (d e : Draft) (n : ℕ) → drafts.take_replicas d n ≡ Ok e → ReplicasTaken d e n
unfolding drafts.take_replicas
replicas_taken d e n is =
    let a = guard_ok (eqb d.rank 0) _ _ e is in
    let b = guard_ok (nat_le 1 n && nat_le n 8) _ _ e a.1 in
    record { low = a.0; ranged = b.0; whole = ok_same _ e b.1 }

pub record StopTaken (d e : Draft) (replica call keep fill : ℕ) : Type 0 where
  pub low : (nat_le 7 d.rank && nat_le d.rank 8) ≡ true
  pub ranged : (drafts.is_replica d replica && nat_le call 4294967295 && nat_le keep 4294967295 && nat_le fill 255) ≡ true
  pub room : nat_lt (length d.stops) 1000 ≡ true
  pub whole : drafts.add_stop d (record { replica = replica; stop = record { call = call; keep = keep; fill = fill } }) ≡ e

pub stop_taken : (d e : Draft) (replica call keep fill : ℕ) → drafts.take_stop d replica call keep fill ≡ Ok e → StopTaken d e replica call keep fill
unfolding drafts.take_stop
stop_taken d e replica call keep fill is =
    let a = guard_ok (nat_le 7 d.rank && nat_le d.rank 8) _ _ e is in
    let b = guard_ok (drafts.is_replica d replica && nat_le call 4294967295 && nat_le keep 4294967295 && nat_le fill 255) _ _ e a.1 in
    let c = guard_ok (nat_lt (length d.stops) 1000) _ _ e b.1 in
    record { low = a.0; ranged = b.0; room = c.0; whole = ok_same _ e c.1 }

-- a line of the schedule that counts no send line
pub record OrderTaken (d e : Draft) (replica : ℕ) (ask : Ask) : Type 0 where
  pub low : drafts.schedule_next d ≡ true
  pub room : nat_lt (length d.orders) 100000 ≡ true
  pub whole : drafts.add_order d replica ask ≡ e

pub record DoTaken (d e : Draft) (replica : ℕ) (op : List ℕ) (args : List NamedArg) : Type 0 where
  pub known : is_op d.spec.spec.ops op ≡ true
  pub fits : request_fits d.spec.spec.ops op args ≡ true
  pub within : (drafts.is_replica d replica && request_within d.spec.spec.sorts d.spec.spec.ops op args) ≡ true
  pub order : OrderTaken d e replica (asks.Do (inst_of d.spec.spec.ops op args))

pub do_taken : (d e : Draft) (replica : ℕ) (op : List ℕ) (args : List NamedArg) → drafts.take_do d replica op args ≡ Ok e → DoTaken d e replica op args
unfolding drafts.take_do
do_taken d e replica op args is =
    let a = guard_ok (drafts.schedule_next d) _ _ e is in
    let b = guard_ok (is_op d.spec.spec.ops op) _ _ e a.1 in
    let c = guard_ok (request_fits d.spec.spec.ops op args) _ _ e b.1 in
    let f = guard_ok (drafts.is_replica d replica && request_within d.spec.spec.sorts d.spec.spec.ops op args) _ _ e c.1 in
    let g = guard_ok (nat_lt (length d.orders) 100000) _ _ e f.1 in
    record { known = b.0; fits = c.0; within = f.0; order = record { low = a.0; room = g.0; whole = ok_same _ e g.1 } }

pub record SendTaken (d e : Draft) (replica peer : ℕ) : Type 0 where
  pub low : drafts.schedule_next d ≡ true
  pub peers : drafts.are_peers d replica peer ≡ true
  pub room : nat_lt (length d.orders) 100000 ≡ true
  pub whole : drafts.count_send (drafts.add_order d replica (asks.Send peer (Some (drafts.sent_before d replica peer)))) replica peer ≡ e

pub send_taken : (d e : Draft) (replica peer : ℕ) → drafts.take_send d replica peer ≡ Ok e → SendTaken d e replica peer
unfolding drafts.take_send
send_taken d e replica peer is =
    let a = guard_ok (drafts.schedule_next d) _ _ e is in
    let b = guard_ok (drafts.are_peers d replica peer) _ _ e a.1 in
    let c = guard_ok (nat_lt (length d.orders) 100000) _ _ e b.1 in
    record { low = a.0; peers = b.0; room = c.0; whole = ok_same _ e c.1 }

pub record TakeTaken (d e : Draft) (replica peer number : ℕ) : Type 0 where
  pub sent : drafts.was_sent d replica peer number ≡ true
  pub order : OrderTaken d e replica (asks.Take peer (Some number))

pub take_taken : (d e : Draft) (replica peer number : ℕ) → drafts.take_take d replica peer number ≡ Ok e → TakeTaken d e replica peer number
unfolding drafts.take_take
take_taken d e replica peer number is =
    let a = guard_ok (drafts.schedule_next d) _ _ e is in
    let b = guard_ok (drafts.was_sent d replica peer number) _ _ e a.1 in
    let c = guard_ok (nat_lt (length d.orders) 100000) _ _ e b.1 in
    record { sent = b.0; order = record { low = a.0; room = c.0; whole = ok_same _ e c.1 } }

pub record AloneTaken (d e : Draft) (replica : ℕ) (ask : Ask) : Type 0 where
  pub ranged : drafts.is_replica d replica ≡ true
  pub order : OrderTaken d e replica ask

pub alone_taken : (d e : Draft) (replica : ℕ) (ask : Ask) → drafts.take_alone d replica ask ≡ Ok e → AloneTaken d e replica ask
unfolding drafts.take_alone
alone_taken d e replica ask is =
    let a = guard_ok (drafts.schedule_next d) _ _ e is in
    let b = guard_ok (drafts.is_replica d replica) _ _ e a.1 in
    let c = guard_ok (nat_lt (length d.orders) 100000) _ _ e b.1 in
    record { ranged = b.0; order = record { low = a.0; room = c.0; whole = ok_same _ e c.1 } }

abbrev pub with_turns : Draft → ℕ → Draft
with_turns d turns = record { spec = d.spec; rank = 10; replicas = d.replicas; stops = d.stops; orders = d.orders; sent = d.sent; turns = turns; homes = d.homes; asks = d.asks }

pub record TurnsTaken (d e : Draft) (turns : ℕ) : Type 0 where
  pub low : (nat_le 7 d.rank && nat_le d.rank 8) ≡ true
  pub ranged : nat_le turns 10000 ≡ true
  pub room : nat_le (length d.asks + drafts.courier_turns turns d.replicas) 100000 ≡ true
  pub whole : with_turns d turns ≡ e

pub turns_taken : (d e : Draft) (turns : ℕ) → drafts.take_turns d turns ≡ Ok e → TurnsTaken d e turns
unfolding drafts.take_turns
turns_taken d e turns is =
    let a = guard_ok (nat_le 7 d.rank && nat_le d.rank 8) _ _ e is in
    let b = guard_ok (nat_le turns 10000) _ _ e a.1 in
    let c = guard_ok (nat_le (length d.asks + drafts.courier_turns turns d.replicas) 100000) _ _ e b.1 in
    record { low = a.0; ranged = b.0; room = c.0; whole = ok_same _ e c.1 }

pub record ClientTaken (d e : Draft) (client home : ℕ) : Type 0 where
  pub low : (nat_le 7 d.rank && nat_le d.rank 11 && not (eqb d.rank 9)) ≡ true
  pub ranged : (eqb client (length d.homes) && drafts.is_replica d home) ≡ true
  pub room : nat_lt (length d.homes) 32 ≡ true
  pub whole : drafts.add_client d home ≡ e

pub client_taken : (d e : Draft) (client home : ℕ) → drafts.take_client d client home ≡ Ok e → ClientTaken d e client home
unfolding drafts.take_client
client_taken d e client home is =
    let a = guard_ok (nat_le 7 d.rank && nat_le d.rank 11 && not (eqb d.rank 9)) _ _ e is in
    let b = guard_ok (eqb client (length d.homes) && drafts.is_replica d home) _ _ e a.1 in
    let c = guard_ok (nat_lt (length d.homes) 32) _ _ e b.1 in
    record { low = a.0; ranged = b.0; room = c.0; whole = ok_same _ e c.1 }

-- a request of a client
pub record AskTaken (d e : Draft) (client : ℕ) (ask : Ask) : Type 0 where
  pub low : drafts.ask_next d ≡ true
  pub room : drafts.has_room d ≡ true
  pub whole : drafts.add_ask d client ask ≡ e

pub record RequestTaken (d e : Draft) (client : ℕ) (op : List ℕ) (args : List NamedArg) : Type 0 where
  pub known : is_op d.spec.spec.ops op ≡ true
  pub fits : request_fits d.spec.spec.ops op args ≡ true
  pub within : (drafts.is_client d client && request_within d.spec.spec.sorts d.spec.spec.ops op args) ≡ true
  pub ask : AskTaken d e client (asks.Do (inst_of d.spec.spec.ops op args))

pub request_taken : (d e : Draft) (client : ℕ) (op : List ℕ) (args : List NamedArg) → drafts.take_request d client op args ≡ Ok e → RequestTaken d e client op args
unfolding drafts.take_request
request_taken d e client op args is =
    let a = guard_ok (drafts.ask_next d) _ _ e is in
    let b = guard_ok (is_op d.spec.spec.ops op) _ _ e a.1 in
    let c = guard_ok (request_fits d.spec.spec.ops op args) _ _ e b.1 in
    let f = guard_ok (drafts.is_client d client && request_within d.spec.spec.sorts d.spec.spec.ops op args) _ _ e c.1 in
    let g = guard_ok (drafts.has_room d) _ _ e f.1 in
    record { known = b.0; fits = c.0; within = f.0; ask = record { low = a.0; room = g.0; whole = ok_same _ e g.1 } }

pub record AskAloneTaken (d e : Draft) (client : ℕ) (ask : Ask) : Type 0 where
  pub ranged : drafts.is_client d client ≡ true
  pub ask_taken : AskTaken d e client ask

pub ask_alone_taken : (d e : Draft) (client : ℕ) (ask : Ask) → drafts.take_ask d client ask ≡ Ok e → AskAloneTaken d e client ask
unfolding drafts.take_ask
ask_alone_taken d e client ask is =
    let a = guard_ok (drafts.ask_next d) _ _ e is in
    let b = guard_ok (drafts.is_client d client) _ _ e a.1 in
    let c = guard_ok (drafts.has_room d) _ _ e b.1 in
    record { ranged = b.0; ask_taken = record { low = a.0; room = c.0; whole = ok_same _ e c.1 } }
