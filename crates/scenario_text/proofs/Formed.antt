-- Every document that is read is well formed.
use Rattle.std.proofs.Common.{◌≡◌, ℕ, ◌+◌, ◌<◌, ◌≤◌, Bool, true, false, cond, not, ◌&&◌, eqb, List, [], ◌∷◌, length, map, refl, sym, ap, subst, ◌∙◌, arith, length-append}
use Rattle.std.specs.Prelude.{Result, Ok, Err, Some, nat_le, nat_lt}
use Rattle.std.specs.List.{AllByRecursion, AllZip, list_all}
use Rattle.std.proofs.lemmas.Bool.{leb-true, ltb-true, eqb-true, eqb-false, ne_eqb}
use Rattle.spec_model.specs.declared.spec.Spec.{Spec}
use Rattle.spec_model.specs.declared.clause.Var.{Var}
use Rattle.spec_model.specs.declared.operation.Op.{Op}
use Rattle.run_model.specs.declared.step.Ask.{Ask}
use Rattle.run_model.specs.declared.step.Ask.TheVariants as asks
use Rattle.run_model.specs.declared.step.Order.{Order}
use Rattle.line_text.specs.declared.cause.Cause.{Cause}
use Rattle.line_text.proofs.Guards.{and_true, not_true, ok_same}
use Rattle.line_text.proofs.Readings.{read_kept}
use Rattle.spec_lines.specs.declared.line.SpecLine.{SpecLine}
use Rattle.scenario_lines.specs.declared.argument.NamedArg.{NamedArg}
use Rattle.scenario_lines.specs.declared.argument.NamedArg.TheVariants as args
use Rattle.scenario_lines.specs.declared.line.RunLine.{RunLine}
use Rattle.scenario_lines.specs.declared.line.RunLine.TheVariants as lines
use Rattle.spec_model.specs.Fits.{ArgFits, InstFits}
use Rattle.spec_language.specs.AtStart.{size_at}
use Rattle.spec_language.proofs.Formed.{Formed as SpecFormed, step_formed as spec_step_formed, fresh_formed as fresh_spec_formed}
use Rattle.spec_language.proofs.Declared.{known_place}
use Rattle.spec_language.proofs.Limits.{all_one}
use Rattle.scenario_text.specs.declared.document.StopLine.{StopLine}
use Rattle.scenario_text.specs.declared.document.ClientAsk.{ClientAsk}
use Rattle.scenario_text.specs.declared.document.Work.TheVariants as works
use Rattle.line_text.specs.Texts.{numbered}
use Rattle.scenario_text.specs.declared.draft.Draft.{Draft}
use Rattle.scenario_text.specs.Requests as requests
use Rattle.scenario_text.specs.Draft as drafts
use Rattle.scenario_text.specs.Reading.{accept, draft_of}
use Rattle.scenario_text.specs.WellFormed as formed
use Rattle.scenario_text.proofs.Limits.{Keeps, line_keeps}
use Rattle.scenario_text.proofs.Numbered.{Counted, counted_kept, fresh_counted}
use Rattle.scenario_text.proofs.Taken as takens

arg_fits : (spec : Spec) (p : Var) (a : NamedArg) → requests.arg_fits p a ≡ true → requests.is_ordered a ≡ true → (requests.span_of a).hi < size_at spec.sorts p.sort → ArgFits spec p (requests.span_of a)
unfolding requests.is_ordered
arg_fits spec p (args.One n) fits ordered within = record { ordered = leb-true n n (and_true (nat_le n n) (nat_lt n 1024) ordered).0; fits = within; plain = λ e. refl }
arg_fits spec p (args.Span lo hi) fits ordered within = record { ordered = leb-true lo hi (and_true (nat_le lo hi) (nat_lt hi 1024) ordered).0; fits = within; plain = λ e. absurd (differ p.interval fits e) }
  where
    differ : (t : Bool) → t ≡ true → t ≡ false → ⊥
    differ true y n = absurd cc
    differ false y n = absurd cc

args_fit : (spec : Spec) (ps : List Var) (xs : List NamedArg) → requests.args_fit ps xs ≡ true → list_all requests.is_ordered xs ≡ true → requests.args_within spec.sorts ps xs ≡ true → AllZip (ArgFits spec) ps (map requests.span_of xs)
args_fit spec [] [] fit ordered within = tt
args_fit spec [] (x ∷ xs) fit ordered within = absurd cc
args_fit spec (p ∷ ps) [] fit ordered within = absurd cc
args_fit spec (p ∷ ps) (x ∷ xs) fit ordered within =
    let f = and_true (requests.arg_fits p x) (requests.args_fit ps xs) fit in
    let o = and_true (requests.is_ordered x) (list_all requests.is_ordered xs) ordered in
    let w = and_true (nat_lt (requests.span_of x).hi (size_at spec.sorts p.sort)) (requests.args_within spec.sorts ps xs) within in
    (arg_fits spec p x f.0 o.0 (ltb-true (requests.span_of x).hi (size_at spec.sorts p.sort) w.0), args_fit spec ps xs f.1 o.1 w.1)

inst_fits : (spec : Spec) (op : List ℕ) (xs : List NamedArg) → requests.is_op spec.ops op ≡ true → requests.request_fits spec.ops op xs ≡ true → requests.request_within spec.sorts spec.ops op xs ≡ true → InstFits spec (requests.inst_of spec.ops op xs)
unfolding requests.is_op requests.op_place requests.request_fits requests.request_within requests.inst_of
inst_fits spec op xs known fits within =
    let f = and_true (nat_le (length xs) 4) _ fits in
    let w = and_true (list_all requests.is_ordered xs) _ within in
    record { known = known_place (λ (x : Op). x.name) spec.ops op known; args_fit = args_fit spec _ xs f.1 w.0 w.1 }

-- before the line `replicas` nothing of a run is there
pub record Early (d : Draft) : Type 0 where
  pub stops : d.stops ≡ []
  pub orders : d.orders ≡ []
  pub turns : d.turns ≡ 0
  pub homes : d.homes ≡ []

pub record Formed (d : Draft) : Type 0 where
  pub early : d.rank ≡ 0 → Early d
  pub late : d.rank < 12 → d.asks ≡ []
  pub spec : SpecFormed d.spec
  pub replicas : d.replicas ≤ 8
  pub stops : AllByRecursion (λ (line : StopLine). line.replica < d.replicas) d.stops
  pub few_stops : length d.stops ≤ 1000
  pub orders : AllByRecursion (formed.OrderFits d.spec.spec d.replicas) d.orders
  pub few_orders : length d.orders ≤ 100000
  pub turns : d.turns ≤ 10000
  pub homes : AllByRecursion (λ (home : ℕ). home < d.replicas) d.homes
  pub few_homes : length d.homes ≤ 32
  pub asks : AllByRecursion (formed.AskFits d.spec.spec (length d.homes)) d.asks
  pub few_asks : length d.asks + drafts.courier_turns d.turns d.replicas ≤ 100000

all_none : {A : Type 0} → (P : A → Type 0) (xs : List A) → xs ≡ [] → AllByRecursion P xs
all_none P [] e = tt
all_none P (x ∷ xs) e = absurd cc

spec_formed : (d e : Draft) (line : SpecLine) → Formed d → takens.SpecTaken d e line → Formed e
spec_formed d e line f t =
    let zero_rank : d.rank ≡ 0 = eqb-true d.rank 0 t.low in
    let early = f.early zero_rank in
    subst Formed t.whole (record {
      early = λ h. record { stops = early.stops; orders = early.orders; turns = early.turns; homes = early.homes };
      late = f.late;
      spec = spec_step_formed d.spec t.spec line f.spec t.taken;
      replicas = f.replicas;
      stops = f.stops;
      few_stops = f.few_stops;
      orders = all_none _ d.orders early.orders;
      few_orders = f.few_orders;
      turns = f.turns;
      homes = f.homes;
      few_homes = f.few_homes;
      asks = all_none _ d.asks (f.late (omega (arith, zero_rank)));
      few_asks = f.few_asks;
    })

pub no_turns : (asked : List ClientAsk) (turns n : ℕ) → asked ≡ [] → turns ≡ 0 → length asked + drafts.courier_turns turns n ≤ 100000
no_turns asked turns n none zero_turns = rw (none, zero_turns) (omega arith)

replicas_formed : (d e : Draft) (n : ℕ) → Formed d → takens.ReplicasTaken d e n → Formed e
replicas_formed d e n f t =
    let zero_rank : d.rank ≡ 0 = eqb-true d.rank 0 t.low in
    let early = f.early zero_rank in
    let none = f.late (omega (arith, zero_rank)) in
    let ranged = and_true (nat_le 1 n) (nat_le n 8) t.ranged in
    subst Formed t.whole (record {
      early = λ h. absurd (omega (arith, h));
      late = λ h. none;
      spec = f.spec;
      replicas = leb-true n 8 ranged.1;
      stops = all_none _ d.stops early.stops;
      few_stops = f.few_stops;
      orders = all_none _ d.orders early.orders;
      few_orders = f.few_orders;
      turns = f.turns;
      homes = all_none _ d.homes early.homes;
      few_homes = f.few_homes;
      asks = f.asks;
      few_asks = no_turns d.asks d.turns n none early.turns;
    })

stop_formed : (d e : Draft) (replica call keep fill : ℕ) → Formed d → takens.StopTaken d e replica call keep fill → Formed e
stop_formed d e replica call keep fill f t =
    let low = and_true (nat_le 7 d.rank) (nat_le d.rank 8) t.low in
    let before = leb-true d.rank 8 low.1 in
    let none = f.late (omega (arith, before)) in
    let r1 = and_true (drafts.is_replica d replica && nat_le call 4294967295 && nat_le keep 4294967295) (nat_le fill 255) t.ranged in
    let r2 = and_true (drafts.is_replica d replica && nat_le call 4294967295) (nat_le keep 4294967295) r1.0 in
    let r3 = and_true (drafts.is_replica d replica) (nat_le call 4294967295) r2.0 in
    let room = ltb-true (length d.stops) 1000 t.room in
    subst Formed t.whole (record {
      early = λ h. absurd (omega (arith, h));
      late = λ h. none;
      spec = f.spec;
      replicas = f.replicas;
      stops = all_one _ d.stops _ f.stops (ltb-true replica d.replicas r3.0);
      few_stops = omega (arith, room, length-append {A = StopLine});
      orders = f.orders;
      few_orders = f.few_orders;
      turns = f.turns;
      homes = f.homes;
      few_homes = f.few_homes;
      asks = f.asks;
      few_asks = f.few_asks;
    })

order_formed : (d e : Draft) (replica : ℕ) (ask : Ask) → Formed d → replica < d.replicas → formed.StepFits d.spec.spec d.replicas replica ask → takens.OrderTaken d e replica ask → Formed e
order_formed d e replica ask f within fits t =
    let low = and_true (nat_le 7 d.rank) (nat_le d.rank 9) t.low in
    let before = leb-true d.rank 9 low.1 in
    let none = f.late (omega (arith, before)) in
    let room = ltb-true (length d.orders) 100000 t.room in
    subst Formed t.whole (record {
      early = λ h. absurd (omega (arith, h));
      late = λ h. none;
      spec = f.spec;
      replicas = f.replicas;
      stops = f.stops;
      few_stops = f.few_stops;
      orders = all_one _ d.orders _ f.orders (record { within = within; step = fits });
      few_orders = omega (arith, room, length-append {A = Order});
      turns = f.turns;
      homes = f.homes;
      few_homes = f.few_homes;
      asks = f.asks;
      few_asks = f.few_asks;
    })

do_formed : (d e : Draft) (replica : ℕ) (op : List ℕ) (xs : List NamedArg) → Formed d → takens.DoTaken d e replica op xs → Formed e
do_formed d e replica op xs f t =
    let w = and_true (drafts.is_replica d replica) (requests.request_within d.spec.spec.sorts d.spec.spec.ops op xs) t.within in
    order_formed d e replica _ f (ltb-true replica d.replicas w.0) (inst_fits d.spec.spec op xs t.known t.fits w.1) t.order

peer_fits : (d : Draft) (replica peer n : ℕ) → drafts.are_peers d replica peer ≡ true → (replica < d.replicas) × formed.PeerFits d.replicas replica peer (Some n)
peer_fits d replica peer n peers =
    let a = and_true (drafts.is_replica d replica && drafts.is_replica d peer) (not (eqb peer replica)) peers in
    let b = and_true (drafts.is_replica d replica) (drafts.is_replica d peer) a.0 in
    (ltb-true replica d.replicas b.0, record { within = ltb-true peer d.replicas b.1; other = eqb-false peer replica (not_true (eqb peer replica) a.1); given = n; is_given = refl })

send_formed : (d e : Draft) (replica peer : ℕ) → Formed d → takens.SendTaken d e replica peer → Formed e
send_formed d e replica peer f t =
    let low = and_true (nat_le 7 d.rank) (nat_le d.rank 9) t.low in
    let before = leb-true d.rank 9 low.1 in
    let none = f.late (omega (arith, before)) in
    let room = ltb-true (length d.orders) 100000 t.room in
    let p = peer_fits d replica peer (drafts.sent_before d replica peer) t.peers in
    subst Formed t.whole (record {
      early = λ h. absurd (omega (arith, h));
      late = λ h. none;
      spec = f.spec;
      replicas = f.replicas;
      stops = f.stops;
      few_stops = f.few_stops;
      orders = all_one _ d.orders _ f.orders (record { within = p.0; step = p.1 });
      few_orders = omega (arith, room, length-append {A = Order});
      turns = f.turns;
      homes = f.homes;
      few_homes = f.few_homes;
      asks = f.asks;
      few_asks = f.few_asks;
    })

take_formed : (d e : Draft) (replica peer number : ℕ) → Formed d → takens.TakeTaken d e replica peer number → Formed e
take_formed d e replica peer number f t =
    let a = and_true (drafts.are_peers d replica peer) _ t.sent in
    let p = peer_fits d replica peer number a.0 in
    order_formed d e replica _ f p.0 p.1 t.order

turns_formed : (d e : Draft) (turns : ℕ) → Formed d → takens.TurnsTaken d e turns → Formed e
turns_formed d e turns f t =
    let low = and_true (nat_le 7 d.rank) (nat_le d.rank 8) t.low in
    let before = leb-true d.rank 8 low.1 in
    let none = f.late (omega (arith, before)) in
    subst Formed t.whole (record {
      early = λ h. absurd (omega (arith, h));
      late = λ h. none;
      spec = f.spec;
      replicas = f.replicas;
      stops = f.stops;
      few_stops = f.few_stops;
      orders = f.orders;
      few_orders = f.few_orders;
      turns = leb-true turns 10000 t.ranged;
      homes = f.homes;
      few_homes = f.few_homes;
      asks = f.asks;
      few_asks = leb-true (length d.asks + drafts.courier_turns turns d.replicas) 100000 t.room;
    })

client_formed : (d e : Draft) (client home : ℕ) → Formed d → takens.ClientTaken d e client home → Formed e
client_formed d e client home f t =
    let a = and_true (nat_le 7 d.rank && nat_le d.rank 11) (not (eqb d.rank 9)) t.low in
    let b = and_true (nat_le 7 d.rank) (nat_le d.rank 11) a.0 in
    let before = leb-true d.rank 11 b.1 in
    let none = f.late (omega (arith, before)) in
    let r = and_true (eqb client (length d.homes)) (drafts.is_replica d home) t.ranged in
    let room = ltb-true (length d.homes) 32 t.room in
    subst Formed t.whole (record {
      early = λ h. absurd (omega (arith, h));
      late = λ h. none;
      spec = f.spec;
      replicas = f.replicas;
      stops = f.stops;
      few_stops = f.few_stops;
      orders = f.orders;
      few_orders = f.few_orders;
      turns = f.turns;
      homes = all_one _ d.homes home f.homes (ltb-true home d.replicas r.1);
      few_homes = omega (arith, room, length-append {A = ℕ});
      asks = all_none _ d.asks none;
      few_asks = f.few_asks;
    })

ask_formed : (d e : Draft) (client : ℕ) (ask : Ask) → Formed d → drafts.is_client d client ≡ true → formed.RequestFits d.spec.spec ask → takens.AskTaken d e client ask → Formed e
ask_formed d e client ask f declared fits t =
    let room = ltb-true (length d.asks + drafts.courier_turns d.turns d.replicas) 100000 t.room in
    subst Formed t.whole (record {
      early = λ h. absurd (omega (arith, h));
      late = λ h. absurd (omega (arith, h));
      spec = f.spec;
      replicas = f.replicas;
      stops = f.stops;
      few_stops = f.few_stops;
      orders = f.orders;
      few_orders = f.few_orders;
      turns = f.turns;
      homes = f.homes;
      few_homes = f.few_homes;
      asks = all_one _ d.asks _ f.asks (record { within = ltb-true client (length d.homes) declared; request = fits });
      few_asks = omega (arith, room, length-append {A = ClientAsk});
    })

request_formed : (d e : Draft) (client : ℕ) (op : List ℕ) (xs : List NamedArg) → Formed d → takens.RequestTaken d e client op xs → Formed e
request_formed d e client op xs f t =
    let w = and_true (drafts.is_client d client) (requests.request_within d.spec.spec.sorts d.spec.spec.ops op xs) t.within in
    ask_formed d e client _ f w.0 (inst_fits d.spec.spec op xs t.known t.fits w.1) t.ask

run_formed : (d e : Draft) (line : RunLine) → Formed d → drafts.run_step d line ≡ Ok e → Formed e
unfolding drafts.run_step
run_formed d e (lines.Replicas n) f is = replicas_formed d e n f (takens.replicas_taken d e n is)
run_formed d e (lines.Stop replica call keep fill) f is = stop_formed d e replica call keep fill f (takens.stop_taken d e replica call keep fill is)
run_formed d e (lines.Do replica op xs) f is = do_formed d e replica op xs f (takens.do_taken d e replica op xs is)
run_formed d e (lines.Send replica peer) f is = send_formed d e replica peer f (takens.send_taken d e replica peer is)
run_formed d e (lines.Take replica peer number) f is = take_formed d e replica peer number f (takens.take_taken d e replica peer number is)
run_formed d e (lines.Crash replica) f is =
    let t = takens.alone_taken d e replica asks.Crash is in
    order_formed d e replica asks.Crash f (ltb-true replica d.replicas t.ranged) tt t.order
run_formed d e (lines.Recover replica) f is =
    let t = takens.alone_taken d e replica asks.Recover is in
    order_formed d e replica asks.Recover f (ltb-true replica d.replicas t.ranged) tt t.order
run_formed d e (lines.Turns turns) f is = turns_formed d e turns f (takens.turns_taken d e turns is)
run_formed d e (lines.Client client home) f is = client_formed d e client home f (takens.client_taken d e client home is)
run_formed d e (lines.AskDo client op xs) f is = request_formed d e client op xs f (takens.request_taken d e client op xs is)
run_formed d e (lines.AskCrash client) f is =
    let t = takens.ask_alone_taken d e client asks.Crash is in
    ask_formed d e client asks.Crash f t.ranged tt t.ask_taken
run_formed d e (lines.AskRecover client) f is =
    let t = takens.ask_alone_taken d e client asks.Recover is in
    ask_formed d e client asks.Recover f t.ranged tt t.ask_taken

formed_kept : Keeps Formed
formed_kept = record { spec = λ d e line f is. spec_formed d e line f (takens.spec_taken d e line is); run = run_formed }

fresh_formed : Formed drafts.fresh
fresh_formed = record {
  early = λ h. record { stops = refl; orders = refl; turns = refl; homes = refl };
  late = λ h. refl;
  spec = fresh_spec_formed;
  replicas = omega arith;
  stops = tt;
  few_stops = omega arith;
  orders = tt;
  few_orders = omega arith;
  turns = omega arith;
  homes = tt;
  few_homes = omega arith;
  asks = tt;
  few_asks = omega arith;
}

ended_same : (d e : Draft) (none : Bool) (c : Cause) → cond none (Err c) (Ok d) ≡ Ok e → (none ≡ false) × (d ≡ e)
ended_same d e true c is = absurd cc
ended_same d e false c is = (refl, ok_same d e is)

read_formed : (lines : List (List ℕ)) (d : Draft) → draft_of lines ≡ Ok d → Formed d
read_formed lines d is = read_kept Formed accept drafts.ends (λ a b line f e. line_keeps Formed formed_kept a b line f e) (λ a b f e. subst Formed (ended_same a b (eqb a.replicas 0) _ e).1 f) lines 1 drafts.fresh d fresh_formed is

read_counted : (lines : List (List ℕ)) (d : Draft) → draft_of lines ≡ Ok d → Counted d
read_counted lines d is = read_kept Counted accept drafts.ends (λ a b line c e. line_keeps Counted counted_kept a b line c e) (λ a b c e. subst Counted (ended_same a b (eqb a.replicas 0) _ e).1 c) lines 1 drafts.fresh d fresh_counted is

work_fits : (d : Draft) (late : Bool) → Formed d → Counted d → formed.WorkFits d.spec.spec d.replicas (cond late (works.Clients d.turns d.homes d.asks) (works.Schedule d.orders))
work_fits d true f c = record { few_turns = f.turns; homes_fit = f.homes; few_homes = f.few_homes; asks_fit = f.asks; few_asks = f.few_asks }
work_fits d false f c = record { orders_fit = f.orders; few_orders = f.few_orders; numbered = c.numbered }

document_fits : (d : Draft) → Formed d → Counted d → 1 ≤ d.replicas → formed.IsWellFormedDocument (drafts.document_from d)
document_fits d f c some = record { spec = f.spec.whole; some_replicas = some; few_replicas = f.replicas; stops = f.stops; few_stops = f.few_stops; work = work_fits d (nat_le 10 d.rank) f c }

-- a document that was read to its end
pub ended_formed : (number : ℕ) (d : Draft) (total : Result Draft (ℕ × Cause)) (texts : List (List ℕ)) → draft_of texts ≡ total → numbered number (drafts.ends d) ≡ total → (d.replicas ≡ 0 → ⊥) → formed.IsWellFormedDocument (drafts.document_from d)
ended_formed number d total texts read last some =
    let good : drafts.ends d ≡ Ok d = rw (ne_eqb d.replicas 0 some) refl in
    let done : draft_of texts ≡ Ok d = read ∙ sym last ∙ ap (numbered number) good in
    let one : 1 ≤ d.replicas = omega (arith, some) in
    document_fits d (read_formed texts d done) (read_counted texts d done) one
