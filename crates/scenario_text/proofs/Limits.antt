-- Each line that is taken keeps the limits.
use Rattle.std.proofs.Common.{◌≡◌, ℕ, zero, suc, ◌+◌, ◌<◌, ◌≤◌, true, List, [], ◌∷◌, ◌++◌, length, refl, subst, ◌∙◌, arith, length-append, length-set}
use Rattle.std.specs.Prelude.{Ok, Some, nat_le, nat_lt, slice_set, slice_get, replicate}
use Rattle.std.specs.Option.{option_map_or}
use Rattle.std.specs.List.{AllByRecursion}
use Rattle.std.proofs.lemmas.Bool.{leb-true, ltb-true}
use Rattle.run_model.specs.declared.step.Ask.{Ask}
use Rattle.run_model.specs.declared.step.Ask.TheVariants as asks
use Rattle.run_model.specs.declared.step.Order.{Order}
use Rattle.line_text.specs.declared.token.Token.{Token}
use Rattle.line_text.proofs.Guards.{and_true}
use Rattle.spec_lines.specs.declared.line.SpecLine.{SpecLine}
use Rattle.scenario_lines.specs.declared.line.RunLine.{RunLine}
use Rattle.scenario_lines.specs.declared.line.RunLine.TheVariants as lines
use Rattle.spec_language.proofs.Limits.{fresh_bounds as fresh_spec_bounds, step_keeps as spec_step_keeps}
use Rattle.scenario_text.specs.declared.document.StopLine.{StopLine}
use Rattle.scenario_text.specs.declared.document.ClientAsk.{ClientAsk}
use Rattle.scenario_text.specs.declared.draft.Draft.{Draft}
use Rattle.scenario_text.specs.Draft as drafts
use Rattle.scenario_text.specs.Bounds.{Bounds}
use Rattle.scenario_text.specs.Reading.{accept}
use Rattle.scenario_text.proofs.LineByLine.{line_keeps_with}
use Rattle.scenario_text.proofs.Taken as takens

spec_keeps : (d e : Draft) (line : SpecLine) → Bounds d → takens.SpecTaken d e line → Bounds e
spec_keeps d e line h t =
    subst Bounds t.whole (record { spec = spec_step_keeps d.spec t.spec line h.spec t.taken; replicas = h.replicas; stops = h.stops; orders = h.orders; links = h.links; sent = h.sent; few = h.few; turns = h.turns; homes = h.homes; asks = h.asks })

replicas_keeps : (d e : Draft) (n : ℕ) → Bounds d → takens.ReplicasTaken d e n → Bounds e
replicas_keeps d e n h t =
    let small = leb-true n 8 (and_true (nat_le 1 n) (nat_le n 8) t.ranged).1 in
    subst Bounds t.whole (record { spec = h.spec; replicas = small; stops = h.stops; orders = h.orders; links = h.links; sent = h.sent; few = h.few; turns = h.turns; homes = h.homes; asks = h.asks })

stop_keeps : (d e : Draft) (replica call keep fill : ℕ) → Bounds d → takens.StopTaken d e replica call keep fill → Bounds e
stop_keeps d e replica call keep fill h t =
    let room : length d.stops < 1000 = ltb-true (length d.stops) 1000 t.room in
    subst Bounds t.whole (record { spec = h.spec; replicas = h.replicas; stops = omega (arith, length-append {A = StopLine}); orders = h.orders; links = h.links; sent = h.sent; few = h.few; turns = h.turns; homes = h.homes; asks = h.asks })

all_weaker : (n m : ℕ) (xs : List ℕ) → n ≤ m → AllByRecursion (λ (x : ℕ). x ≤ n) xs → AllByRecursion (λ (x : ℕ). x ≤ m) xs
all_weaker n m [] le all = tt
all_weaker n m (x ∷ xs) le all = (omega (arith, le, all.0), all_weaker n m xs le all.1)

one_more : (orders : List Order) (order : Order) → length (orders ++ order ∷ []) ≡ length orders + 1
one_more orders order = omega (arith, length-append {A = Order})

order_bounds : (d : Draft) (replica : ℕ) (ask : Ask) → Bounds d → nat_lt (length d.orders) 100000 ≡ true → Bounds (drafts.add_order d replica ask)
order_bounds d replica ask h room =
    let less : length d.orders < 100000 = ltb-true (length d.orders) 100000 room in
    let order : Order = record { replica = replica; ask = ask } in
    let longer = one_more d.orders order in
    record { spec = h.spec; replicas = h.replicas; stops = h.stops; orders = omega (arith, less, longer); links = h.links; sent = all_weaker (length d.orders) (length (d.orders ++ order ∷ [])) d.sent (omega (arith, longer)) h.sent; few = h.few; turns = h.turns; homes = h.homes; asks = h.asks }

order_keeps : (d e : Draft) (replica : ℕ) (ask : Ask) → Bounds d → takens.OrderTaken d e replica ask → Bounds e
order_keeps d e replica ask h t = subst Bounds t.whole (order_bounds d replica ask h t.room)

all_set : (n i x : ℕ) (xs : List ℕ) → x ≤ n → AllByRecursion (λ (y : ℕ). y ≤ n) xs → AllByRecursion (λ (y : ℕ). y ≤ n) (slice_set xs i x)
all_set n i x [] le all = tt
all_set n zero x (y ∷ ys) le all = (le, all.1)
all_set n (suc i) x (y ∷ ys) le all = (all.0, all_set n i x ys le all.1)

all_get : (n i : ℕ) (xs : List ℕ) → AllByRecursion (λ (y : ℕ). y ≤ n) xs → option_map_or (λ (k : ℕ). k) (slice_get xs i) 0 ≤ n
all_get n i [] all = omega arith
all_get n zero (x ∷ xs) all = all.0
all_get n (suc i) (x ∷ xs) all = all_get n i xs all.1

send_keeps : (d e : Draft) (replica peer : ℕ) → Bounds d → takens.SendTaken d e replica peer → Bounds e
send_keeps d e replica peer h t =
    let less : length d.orders < 100000 = ltb-true (length d.orders) 100000 t.room in
    let order : Order = record { replica = replica; ask = asks.Send peer (Some (drafts.sent_before d replica peer)) } in
    let longer = one_more d.orders order in
    let few : drafts.sent_before d replica peer ≤ length d.orders = all_get (length d.orders) (drafts.link replica peer) d.sent h.sent in
    let more = order_bounds d replica (asks.Send peer (Some (drafts.sent_before d replica peer))) h t.room in
    let place = drafts.link replica peer in
    let next = drafts.sent_before d replica peer + 1 in
    subst Bounds t.whole (record {
      spec = h.spec;
      replicas = h.replicas;
      stops = h.stops;
      orders = more.orders;
      links = length-set d.sent place next ∙ h.links;
      sent = all_set (length (d.orders ++ order ∷ [])) place next d.sent (omega (arith, few, longer)) more.sent;
      few = all_set 100000 place next d.sent (omega (arith, few, less)) h.few;
      turns = h.turns;
      homes = h.homes;
      asks = h.asks;
    })

turns_keeps : (d e : Draft) (turns : ℕ) → Bounds d → takens.TurnsTaken d e turns → Bounds e
turns_keeps d e turns h t =
    let small = leb-true turns 10000 t.ranged in
    subst Bounds t.whole (record { spec = h.spec; replicas = h.replicas; stops = h.stops; orders = h.orders; links = h.links; sent = h.sent; few = h.few; turns = small; homes = h.homes; asks = h.asks })

client_keeps : (d e : Draft) (client home : ℕ) → Bounds d → takens.ClientTaken d e client home → Bounds e
client_keeps d e client home h t =
    let room : length d.homes < 32 = ltb-true (length d.homes) 32 t.room in
    subst Bounds t.whole (record { spec = h.spec; replicas = h.replicas; stops = h.stops; orders = h.orders; links = h.links; sent = h.sent; few = h.few; turns = h.turns; homes = omega (arith, length-append {A = ℕ}); asks = h.asks })

ask_keeps : (d e : Draft) (client : ℕ) (ask : Ask) → Bounds d → takens.AskTaken d e client ask → Bounds e
ask_keeps d e client ask h t =
    let room : length d.asks + drafts.courier_turns d.turns d.replicas < 100000 = ltb-true (length d.asks + drafts.courier_turns d.turns d.replicas) 100000 t.room in
    subst Bounds t.whole (record { spec = h.spec; replicas = h.replicas; stops = h.stops; orders = h.orders; links = h.links; sent = h.sent; few = h.few; turns = h.turns; homes = h.homes; asks = omega (arith, room, length-append {A = ClientAsk}) })

pub run_step_keeps : (d e : Draft) (line : RunLine) → Bounds d → drafts.run_step d line ≡ Ok e → Bounds e
unfolding drafts.run_step
run_step_keeps d e (lines.Replicas n) h is = replicas_keeps d e n h (takens.replicas_taken d e n is)
run_step_keeps d e (lines.Stop replica call keep fill) h is = stop_keeps d e replica call keep fill h (takens.stop_taken d e replica call keep fill is)
run_step_keeps d e (lines.Do replica op args) h is = order_keeps d e replica _ h (takens.do_taken d e replica op args is).order
run_step_keeps d e (lines.Send replica peer) h is = send_keeps d e replica peer h (takens.send_taken d e replica peer is)
run_step_keeps d e (lines.Take replica peer number) h is = order_keeps d e replica _ h (takens.take_taken d e replica peer number is).order
run_step_keeps d e (lines.Crash replica) h is = order_keeps d e replica asks.Crash h (takens.alone_taken d e replica asks.Crash is).order
run_step_keeps d e (lines.Recover replica) h is = order_keeps d e replica asks.Recover h (takens.alone_taken d e replica asks.Recover is).order
run_step_keeps d e (lines.Turns turns) h is = turns_keeps d e turns h (takens.turns_taken d e turns is)
run_step_keeps d e (lines.Client client home) h is = client_keeps d e client home h (takens.client_taken d e client home is)
run_step_keeps d e (lines.AskDo client op args) h is = ask_keeps d e client _ h (takens.request_taken d e client op args is).ask
run_step_keeps d e (lines.AskCrash client) h is = ask_keeps d e client asks.Crash h (takens.ask_alone_taken d e client asks.Crash is).ask_taken
run_step_keeps d e (lines.AskRecover client) h is = ask_keeps d e client asks.Recover h (takens.ask_alone_taken d e client asks.Recover is).ask_taken

-- what each step keeps
pub record Keeps (P : Draft → Type 0) : Type 0 where
  pub spec : (d e : Draft) (line : SpecLine) → P d → drafts.take_spec d line ≡ Ok e → P e
  pub run : (d e : Draft) (line : RunLine) → P d → drafts.run_step d line ≡ Ok e → P e

abbrev Anything : List Token → Type 0
Anything ts = Unit {0}

-- what is kept by each step is kept by each line
pub line_keeps : (P : Draft → Type 0) → Keeps P → (d e : Draft) (line : List ℕ) → P d → accept d line ≡ Ok e → P e
line_keeps P keeps d e line h is =
    line_keeps_with Anything P (record { spec = λ d e w ts line q from h is. keeps.spec d e line h is; run = λ d e w ts line q from h is. keeps.run d e line h is }) d e line (λ ts read. tt) h is

pub bounds_kept : Keeps Bounds
bounds_kept = record { spec = λ d e line h is. spec_keeps d e line h (takens.spec_taken d e line is); run = run_step_keeps }

pub accept_keeps : (d e : Draft) (line : List ℕ) → Bounds d → accept d line ≡ Ok e → Bounds e
accept_keeps d e line h is = line_keeps Bounds bounds_kept d e line h is

none_sent : (n k : ℕ) → AllByRecursion (λ (y : ℕ). y ≤ n) (replicate k 0)
none_sent n zero = tt
none_sent n (suc k) = (omega arith, none_sent n k)

pub fresh_bounds : Bounds drafts.fresh
fresh_bounds = record { spec = fresh_spec_bounds; replicas = omega arith; stops = omega arith; orders = omega arith; links = refl; sent = none_sent 0 64; few = none_sent 100000 64; turns = omega arith; homes = omega arith; asks = omega arith }
