-- What a document is so far, and what each line adds to it or why it is refused.
use Rattle.std.specs.Prelude.{ℕ, ◌+◌, ◌*◌, List, [], ◌∷◌, ◌++◌, length, Some, Result, Ok, Err, if◌then◌else◌, ◌==◌, ◌&&◌, Bool, nat_le, nat_lt, not, replicate, slice_get, slice_set}
use Rattle.std.specs.Option.{option_map_or}
use Rattle.line_text.specs.declared.cause.Cause.{Cause}
use Rattle.line_text.specs.declared.cause.Cause.TheVariants.{OutOfPlace, UnknownName, WrongArguments, OutOfRange, TooMany, ReplicasMissing}
use Rattle.line_text.specs.Causes.{◌>>=◌, guard}
use Rattle.run_model.specs.declared.step.Ask.{Ask}
use Rattle.run_model.specs.declared.step.Ask.TheVariants as asks
use Rattle.spec_lines.specs.declared.line.SpecLine.{SpecLine}
use Rattle.scenario_lines.specs.declared.argument.NamedArg.{NamedArg}
use Rattle.scenario_lines.specs.declared.line.RunLine.{RunLine}
use Rattle.scenario_lines.specs.declared.line.RunLine.TheVariants as lines
use Rattle.spec_language.specs.Draft.{step as spec_step, fresh as spec_fresh}
use Rattle.scenario_text.specs.declared.document.StopLine.{StopLine}
use Rattle.scenario_text.specs.declared.document.Work.{Work}
use Rattle.scenario_text.specs.declared.document.Work.TheVariants as works
use Rattle.scenario_text.specs.declared.document.Document.{Document}
use Rattle.scenario_text.specs.declared.draft.Draft.{Draft}
use Rattle.scenario_text.specs.Requests.{is_op, request_fits, request_within, inst_of}

-- no line was taken yet
abbrev pub fresh : Draft
fresh = record { spec = spec_fresh; rank = 0; replicas = 0; stops = []; orders = []; sent = replicate 64 0; turns = 0; homes = []; asks = [] }

-- ---- the lines of the specification, of ranks 1 to 6

unfoldable pub take_spec : Draft → SpecLine → Result Draft Cause
take_spec d line = do
  a ← guard (d.rank == 0) OutOfPlace
  spec ← spec_step d.spec line
  Ok (record { spec = spec; rank = d.rank; replicas = d.replicas; stops = d.stops; orders = d.orders; sent = d.sent; turns = d.turns; homes = d.homes; asks = d.asks })

-- ---- replicas N

unfoldable pub take_replicas : Draft → ℕ → Result Draft Cause
take_replicas d n = do
  a ← guard (d.rank == 0) OutOfPlace
  b ← guard (nat_le 1 n && nat_le n 8) OutOfRange
  Ok (record { spec = d.spec; rank = 7; replicas = n; stops = d.stops; orders = d.orders; sent = d.sent; turns = d.turns; homes = d.homes; asks = d.asks })

-- ---- stop R CALL KEEP FILL

-- a replica of the document
abbrev pub is_replica : Draft → ℕ → Bool
is_replica d replica = nat_lt replica d.replicas

abbrev pub add_stop : Draft → StopLine → Draft
add_stop d line = record { spec = d.spec; rank = 8; replicas = d.replicas; stops = d.stops ++ line ∷ []; orders = d.orders; sent = d.sent; turns = d.turns; homes = d.homes; asks = d.asks }

unfoldable pub take_stop : Draft → ℕ → ℕ → ℕ → ℕ → Result Draft Cause
take_stop d replica call keep fill = do
  a ← guard (nat_le 7 d.rank && nat_le d.rank 8) OutOfPlace
  b ← guard (is_replica d replica && nat_le call 4294967295 && nat_le keep 4294967295 && nat_le fill 255) OutOfRange
  c ← guard (nat_lt (length d.stops) 1000) TooMany
  Ok (add_stop d (record { replica = replica; stop = record { call = call; keep = keep; fill = fill } }))

-- ---- the schedule

-- a line of the schedule may stand here
abbrev pub schedule_next : Draft → Bool
schedule_next d = nat_le 7 d.rank && nat_le d.rank 9

abbrev pub add_order : Draft → ℕ → Ask → Draft
add_order d replica ask = record { spec = d.spec; rank = 9; replicas = d.replicas; stops = d.stops; orders = d.orders ++ record { replica = replica; ask = ask } ∷ []; sent = d.sent; turns = d.turns; homes = d.homes; asks = d.asks }

-- the same as an answer of the code
abbrev pub add_order_ok : Draft → ℕ → Ask → Result Draft Cause
add_order_ok d replica ask = Ok (add_order d replica ask)

-- ---- do R NAME(ARG,ARG)

unfoldable pub take_do : Draft → ℕ → List ℕ → List NamedArg → Result Draft Cause
take_do d replica op args = do
  a ← guard (schedule_next d) OutOfPlace
  b ← guard (is_op d.spec.spec.ops op) UnknownName
  c ← guard (request_fits d.spec.spec.ops op args) WrongArguments
  e ← guard (is_replica d replica && request_within d.spec.spec.sorts d.spec.spec.ops op args) OutOfRange
  f ← guard (nat_lt (length d.orders) 100000) TooMany
  Ok (add_order d replica (asks.Do (inst_of d.spec.spec.ops op args)))

-- ---- send R PEER

-- where the send lines of a pair of replicas are counted
abbrev pub link : ℕ → ℕ → ℕ
link from to = 8 * from + to

-- how many send lines from one replica to another there are so far
abbrev pub sent_before : Draft → ℕ → ℕ → ℕ
sent_before d from to = option_map_or (λ n. n) (slice_get d.sent (link from to)) 0

-- a replica and another one
abbrev pub are_peers : Draft → ℕ → ℕ → Bool
are_peers d replica peer = is_replica d replica && is_replica d peer && not (peer == replica)

-- one more send line of this pair
abbrev pub count_send : Draft → ℕ → ℕ → Draft
count_send d from to = record { spec = d.spec; rank = d.rank; replicas = d.replicas; stops = d.stops; orders = d.orders; sent = slice_set d.sent (link from to) (sent_before d from to + 1); turns = d.turns; homes = d.homes; asks = d.asks }

unfoldable pub take_send : Draft → ℕ → ℕ → Result Draft Cause
take_send d replica peer = do
  a ← guard (schedule_next d) OutOfPlace
  b ← guard (are_peers d replica peer) OutOfRange
  c ← guard (nat_lt (length d.orders) 100000) TooMany
  Ok (count_send (add_order d replica (asks.Send peer (Some (sent_before d replica peer)))) replica peer)

-- ---- take R PEER K

-- so many send lines from the peer to the replica came before
abbrev pub was_sent : Draft → ℕ → ℕ → ℕ → Bool
was_sent d replica peer number = are_peers d replica peer && nat_lt number (sent_before d peer replica)

unfoldable pub take_take : Draft → ℕ → ℕ → ℕ → Result Draft Cause
take_take d replica peer number = do
  a ← guard (schedule_next d) OutOfPlace
  b ← guard (was_sent d replica peer number) OutOfRange
  c ← guard (nat_lt (length d.orders) 100000) TooMany
  Ok (add_order d replica (asks.Take peer (Some number)))

-- ---- crash R, recover R

unfoldable pub take_alone : Draft → ℕ → Ask → Result Draft Cause
take_alone d replica ask = do
  a ← guard (schedule_next d) OutOfPlace
  b ← guard (is_replica d replica) OutOfRange
  c ← guard (nat_lt (length d.orders) 100000) TooMany
  Ok (add_order d replica ask)

-- ---- turns T

-- the turns of all couriers, each twice
abbrev pub courier_turns : ℕ → ℕ → ℕ
courier_turns turns replicas = 2 * turns * replicas

unfoldable pub take_turns : Draft → ℕ → Result Draft Cause
take_turns d turns = do
  a ← guard (nat_le 7 d.rank && nat_le d.rank 8) OutOfPlace
  b ← guard (nat_le turns 10000) OutOfRange
  c ← guard (nat_le (length d.asks + courier_turns turns d.replicas) 100000) TooMany
  Ok (record { spec = d.spec; rank = 10; replicas = d.replicas; stops = d.stops; orders = d.orders; sent = d.sent; turns = turns; homes = d.homes; asks = d.asks })

-- ---- client C at R

abbrev pub add_client : Draft → ℕ → Draft
add_client d home = record { spec = d.spec; rank = 11; replicas = d.replicas; stops = d.stops; orders = d.orders; sent = d.sent; turns = d.turns; homes = d.homes ++ home ∷ []; asks = d.asks }

unfoldable pub take_client : Draft → ℕ → ℕ → Result Draft Cause
take_client d client home = do
  a ← guard (nat_le 7 d.rank && nat_le d.rank 11 && not (d.rank == 9)) OutOfPlace
  b ← guard (client == length d.homes && is_replica d home) OutOfRange
  c ← guard (nat_lt (length d.homes) 32) TooMany
  Ok (add_client d home)

-- ---- the requests of clients

-- a request of a client may stand here
abbrev pub ask_next : Draft → Bool
ask_next d = nat_le 7 d.rank && nat_le d.rank 12 && not (d.rank == 9)

-- one more request keeps the limit
abbrev pub has_room : Draft → Bool
has_room d = nat_lt (length d.asks + courier_turns d.turns d.replicas) 100000

abbrev pub add_ask : Draft → ℕ → Ask → Draft
add_ask d client ask = record { spec = d.spec; rank = 12; replicas = d.replicas; stops = d.stops; orders = d.orders; sent = d.sent; turns = d.turns; homes = d.homes; asks = d.asks ++ record { client = client; ask = ask } ∷ [] }

-- the same as an answer of the code
abbrev pub add_ask_ok : Draft → ℕ → Ask → Result Draft Cause
add_ask_ok d client ask = Ok (add_ask d client ask)

-- a client that is declared
abbrev pub is_client : Draft → ℕ → Bool
is_client d client = nat_lt client (length d.homes)

-- ---- ask C NAME(ARG,ARG)

unfoldable pub take_request : Draft → ℕ → List ℕ → List NamedArg → Result Draft Cause
take_request d client op args = do
  a ← guard (ask_next d) OutOfPlace
  b ← guard (is_op d.spec.spec.ops op) UnknownName
  c ← guard (request_fits d.spec.spec.ops op args) WrongArguments
  e ← guard (is_client d client && request_within d.spec.spec.sorts d.spec.spec.ops op args) OutOfRange
  f ← guard (has_room d) TooMany
  Ok (add_ask d client (asks.Do (inst_of d.spec.spec.ops op args)))

-- ---- ask C crash, ask C recover

unfoldable pub take_ask : Draft → ℕ → Ask → Result Draft Cause
take_ask d client ask = do
  a ← guard (ask_next d) OutOfPlace
  b ← guard (is_client d client) OutOfRange
  c ← guard (has_room d) TooMany
  Ok (add_ask d client ask)

-- ---- all lines

-- what a line of a run adds, or its first cause
unfoldable pub run_step : Draft → RunLine → Result Draft Cause
run_step d (lines.Replicas n) = take_replicas d n
run_step d (lines.Stop replica call keep fill) = take_stop d replica call keep fill
run_step d (lines.Do replica op args) = take_do d replica op args
run_step d (lines.Send replica peer) = take_send d replica peer
run_step d (lines.Take replica peer number) = take_take d replica peer number
run_step d (lines.Crash replica) = take_alone d replica asks.Crash
run_step d (lines.Recover replica) = take_alone d replica asks.Recover
run_step d (lines.Turns turns) = take_turns d turns
run_step d (lines.Client client home) = take_client d client home
run_step d (lines.AskDo client op args) = take_request d client op args
run_step d (lines.AskCrash client) = take_ask d client asks.Crash
run_step d (lines.AskRecover client) = take_ask d client asks.Recover

-- ---- the end

-- the work of a document is a schedule, unless lines of clients stand in it
abbrev pub work_of : Draft → Work
work_of d = if nat_le 10 d.rank then works.Clients d.turns d.homes d.asks else works.Schedule d.orders

-- the document without its counts
abbrev pub document_from : Draft → Document
document_from d = record { spec = d.spec.spec; replicas = d.replicas; stops = d.stops; work = work_of d }

-- a document has a line `replicas`
abbrev pub ends : Draft → Result Draft Cause
ends d = if d.replicas == 0 then Err ReplicasMissing else Ok d
