-- The sends and takes of a schedule that is read are numbered, since the draft counts the sends of each pair.
use Rattle.std.proofs.Common.{◌≡◌, ℕ, zero, suc, ◌+◌, ◌<◌, ◌≤◌, Bool, true, false, cond, not, ◌&&◌, eqb, List, [], ◌∷◌, ◌++◌, length, refl, sym, ap, subst, ◌∙◌, arith, length-append}
use Rattle.std.specs.Prelude.{Ok, Some, nat_lt, replicate, slice_set, slice_get}
use Rattle.std.specs.Option.{option_map_or}
use Rattle.std.specs.List.{filter}
use Rattle.std.proofs.lemmas.Bool.{ltb-true, eqb-true, eq-eqb}
use Rattle.std.proofs.lemmas.List.{append-nil, append_assoc}
use Rattle.std.proofs.lemmas.List.Elements.{filter-append}
use Rattle.run_model.specs.declared.step.Ask.{Ask}
use Rattle.run_model.specs.declared.step.Ask.TheVariants as asks
use Rattle.run_model.specs.declared.step.Order.{Order}
use Rattle.line_text.proofs.Guards.{and_true}
use Rattle.scenario_lines.specs.declared.line.RunLine.{RunLine}
use Rattle.scenario_lines.specs.declared.line.RunLine.TheVariants as lines
use Rattle.scenario_text.specs.declared.draft.Draft.{Draft}
use Rattle.scenario_text.specs.Draft as drafts
use Rattle.scenario_text.specs.Bounds.{Bounds}
use Rattle.scenario_text.specs.Numbered.{sends_to, is_send, sends_of, IsAskNumbered, IsNumbered, AreNumbered}
use Rattle.scenario_text.proofs.Limits.{Keeps, bounds_kept, fresh_bounds}
use Rattle.scenario_text.proofs.Taken as takens

-- the count at a place; past the end 0
count_at : List ℕ → ℕ → ℕ
count_at xs i = option_map_or (λ (n : ℕ). n) (slice_get xs i) 0

count_set : (xs : List ℕ) (i x : ℕ) → i < length xs → count_at (slice_set xs i x) i ≡ x
unfolding count_at
count_set [] i x within = absurd (omega (arith, within))
count_set (y ∷ ys) zero x within = refl
count_set (y ∷ ys) (suc i) x within = count_set ys i x (omega (arith, within))

count_kept : (xs : List ℕ) (i j x : ℕ) → (j ≡ i → ⊥) → count_at (slice_set xs i x) j ≡ count_at xs j
unfolding count_at
count_kept [] i j x other = refl
count_kept (y ∷ ys) zero zero x other = absurd (other refl)
count_kept (y ∷ ys) zero (suc j) x other = refl
count_kept (y ∷ ys) (suc i) zero x other = refl
count_kept (y ∷ ys) (suc i) (suc j) x other = count_kept ys i j x (λ same. other (ap suc same))

none_counted : (k i : ℕ) → count_at (replicate k 0) i ≡ 0
unfolding count_at
none_counted zero i = refl
none_counted (suc k) zero = refl
none_counted (suc k) (suc i) = none_counted k i

-- one more order behind the others
all_numbered : (before orders : List Order) (order : Order) → AreNumbered before orders → IsNumbered (before ++ orders) order → AreNumbered before (orders ++ order ∷ [])
all_numbered before [] order all one = (subst (λ (b : List Order). IsNumbered b order) (append-nil before) one, tt)
all_numbered before (o ∷ orders) order all one =
    (all.0, all_numbered (before ++ o ∷ []) orders order all.1 (subst (λ (b : List Order). IsNumbered b order) (sym (append_assoc before (o ∷ []) orders)) one))

-- how many sends one order is
abbrev one_if : Bool → ℕ
one_if true = 1
one_if false = 0

sends_more : (from to : ℕ) (orders : List Order) (order : Order) → sends_of from to (orders ++ order ∷ []) ≡ sends_of from to orders + one_if (is_send from to order)
sends_more from to orders order =
    ap length (filter-append (is_send from to) orders (order ∷ [])) ∙ length-append (filter (is_send from to) orders) (filter (is_send from to) (order ∷ [])) ∙ ap (λ (n : ℕ). sends_of from to orders + n) (last (is_send from to) order)
  where
    of_test : (b : Bool) (o : Order) → length (cond b (o ∷ []) []) ≡ one_if b
    of_test true o = refl
    of_test false o = refl

    last : (p : Order → Bool) (o : Order) → length (filter p (o ∷ [])) ≡ one_if (p o)
    last p o = of_test (p o) o

-- a draft's orders are numbered, and the sends of each pair are counted
pub record Counted (d : Draft) : Type 0 where
  pub bounds : Bounds d
  pub numbered : AreNumbered [] d.orders
  pub counts : (from to : ℕ) → from < 8 → to < 8 → drafts.sent_before d from to ≡ sends_of from to d.orders

no_send_more : (b c : Bool) → c ≡ false → one_if (b && c) ≡ 0
no_send_more true true no_send = absurd cc
no_send_more true false no_send = refl
no_send_more false c no_send = refl

-- a line of the schedule that is no send
order_counted : (d e : Draft) (replica : ℕ) (ask : Ask) → Counted d → Bounds e → IsAskNumbered d.orders replica ask → ((peer : ℕ) → sends_to peer ask ≡ false) → takens.OrderTaken d e replica ask → Counted e
order_counted d e replica ask c bounds one no_send t =
    let order : Order = record { replica = replica; ask = ask } in
    record {
      bounds = bounds;
      numbered = subst (λ (x : Draft). AreNumbered [] x.orders) t.whole (all_numbered [] d.orders order c.numbered one);
      counts = λ from to f g. subst (λ (x : Draft). drafts.sent_before x from to ≡ sends_of from to x.orders) t.whole (
          let more = sends_more from to d.orders order in
          let none : one_if (is_send from to order) ≡ 0 = no_send_more (eqb replica from) (sends_to to ask) (no_send to) in
          c.counts from to f g ∙ omega (arith, more, none));
    }

not_both : (b c : Bool) → (b && c) ≡ false → b ≡ true → c ≡ true → ⊥
not_both true true none first second = absurd cc
not_both true false none first second = absurd cc
not_both false c none first second = absurd cc

-- the count of a pair behind a send from one replica to another
one_counted : (d : Draft) (replica peer from to : ℕ) (b : Bool) → Counted d → replica < 8 → peer < 8 → from < 8 → to < 8 → (eqb replica from && eqb peer to) ≡ b
    → drafts.sent_before (drafts.count_send d replica peer) from to ≡ sends_of from to d.orders + one_if b
unfolding count_at
one_counted d replica peer from to true c r p f t is =
    let both = and_true (eqb replica from) (eqb peer to) is in
    let from_is = eqb-true replica from both.0 in
    let to_is = eqb-true peer to both.1 in
    let place : drafts.link replica peer < length d.sent = rw c.bounds.links (omega (arith, r, p)) in
    let set : drafts.sent_before (drafts.count_send d replica peer) replica peer ≡ sends_of replica peer d.orders + 1
    = count_set d.sent (drafts.link replica peer) (drafts.sent_before d replica peer + 1) place ∙ ap (λ (n : ℕ). n + 1) (c.counts replica peer r p) in
    subst (λ (x : ℕ). drafts.sent_before (drafts.count_send d replica peer) x to ≡ sends_of x to d.orders + 1) from_is
    (subst (λ (y : ℕ). drafts.sent_before (drafts.count_send d replica peer) replica y ≡ sends_of replica y d.orders + 1) to_is set)
one_counted d replica peer from to false c r p f t is =
    let other : drafts.link from to ≡ drafts.link replica peer → ⊥
    = λ same. not_both (eqb replica from) (eqb peer to) is (eq-eqb replica from (omega (arith, same, r, p, f, t))) (eq-eqb peer to (omega (arith, same, r, p, f, t))) in
    count_kept d.sent (drafts.link replica peer) (drafts.link from to) (drafts.sent_before d replica peer + 1) other ∙ c.counts from to f t ∙ omega arith

peers_small : (d : Draft) (replica peer : ℕ) → d.replicas ≤ 8 → drafts.are_peers d replica peer ≡ true → (replica < 8) × (peer < 8)
peers_small d replica peer few peers =
    let a = and_true (drafts.is_replica d replica && drafts.is_replica d peer) (not (eqb peer replica)) peers in
    let b = and_true (drafts.is_replica d replica) (drafts.is_replica d peer) a.0 in
    let first = ltb-true replica d.replicas b.0 in
    let second = ltb-true peer d.replicas b.1 in
    (omega (arith, few, first), omega (arith, few, second))

send_counted : (d e : Draft) (replica peer : ℕ) → Counted d → Bounds e → takens.SendTaken d e replica peer → Counted e
send_counted d e replica peer c bounds t =
    let small = peers_small d replica peer c.bounds.replicas t.peers in
    let order : Order = record { replica = replica; ask = asks.Send peer (Some (drafts.sent_before d replica peer)) } in
    record {
      bounds = bounds;
      numbered = subst (λ (x : Draft). AreNumbered [] x.orders) t.whole (all_numbered [] d.orders order c.numbered (c.counts replica peer small.0 small.1));
      counts = λ from to f g. subst (λ (x : Draft). drafts.sent_before x from to ≡ sends_of from to x.orders) t.whole
          (one_counted d replica peer from to (eqb replica from && eqb peer to) c small.0 small.1 f g refl ∙ sym (sends_more from to d.orders order));
    }

take_counted : (d e : Draft) (replica peer number : ℕ) → Counted d → Bounds e → takens.TakeTaken d e replica peer number → Counted e
take_counted d e replica peer number c bounds t =
    let a = and_true (drafts.are_peers d replica peer) (nat_lt number (drafts.sent_before d peer replica)) t.sent in
    let small = peers_small d replica peer c.bounds.replicas a.0 in
    let less = ltb-true number (drafts.sent_before d peer replica) a.1 in
    let counted = c.counts peer replica small.1 small.0 in
    order_counted d e replica (asks.Take peer (Some number)) c bounds (omega (arith, less, counted)) (λ to. refl) t.order

-- where a draft becomes one with the same schedule
same_counted : (d m e : Draft) → Counted d → Bounds e → d.orders ≡ m.orders → d.sent ≡ m.sent → m ≡ e → Counted e
same_counted d m e c bounds orders sent whole =
    record {
      bounds = bounds;
      numbered = subst (λ (x : Draft). AreNumbered [] x.orders) whole (subst (AreNumbered []) orders c.numbered);
      counts = λ from to f g. subst (λ (x : Draft). drafts.sent_before x from to ≡ sends_of from to x.orders) whole
          (subst (λ (xs : List ℕ). option_map_or (λ (n : ℕ). n) (slice_get xs (drafts.link from to)) 0 ≡ sends_of from to m.orders) sent (c.counts from to f g ∙ ap (sends_of from to) orders));
    }

run_counted : (d e : Draft) (line : RunLine) → Counted d → Bounds e → drafts.run_step d line ≡ Ok e → Counted e
unfolding drafts.run_step
run_counted d e (lines.Replicas n) c b is = same_counted d _ e c b refl refl (takens.replicas_taken d e n is).whole
run_counted d e (lines.Stop replica call keep fill) c b is = same_counted d _ e c b refl refl (takens.stop_taken d e replica call keep fill is).whole
run_counted d e (lines.Do replica op args) c b is = order_counted d e replica _ c b tt (λ to. refl) (takens.do_taken d e replica op args is).order
run_counted d e (lines.Send replica peer) c b is = send_counted d e replica peer c b (takens.send_taken d e replica peer is)
run_counted d e (lines.Take replica peer number) c b is = take_counted d e replica peer number c b (takens.take_taken d e replica peer number is)
run_counted d e (lines.Crash replica) c b is = order_counted d e replica asks.Crash c b tt (λ to. refl) (takens.alone_taken d e replica asks.Crash is).order
run_counted d e (lines.Recover replica) c b is = order_counted d e replica asks.Recover c b tt (λ to. refl) (takens.alone_taken d e replica asks.Recover is).order
run_counted d e (lines.Turns turns) c b is = same_counted d _ e c b refl refl (takens.turns_taken d e turns is).whole
run_counted d e (lines.Client client home) c b is = same_counted d _ e c b refl refl (takens.client_taken d e client home is).whole
run_counted d e (lines.AskDo client op args) c b is = same_counted d _ e c b refl refl (takens.request_taken d e client op args is).ask.whole
run_counted d e (lines.AskCrash client) c b is = same_counted d _ e c b refl refl (takens.ask_alone_taken d e client asks.Crash is).ask_taken.whole
run_counted d e (lines.AskRecover client) c b is = same_counted d _ e c b refl refl (takens.ask_alone_taken d e client asks.Recover is).ask_taken.whole

pub counted_kept : Keeps Counted
counted_kept = record {
  spec = λ d e line c is. same_counted d _ e c (bounds_kept.spec d e line c.bounds is) refl refl (takens.spec_taken d e line is).whole;
  run = λ d e line c is. run_counted d e line c (bounds_kept.run d e line c.bounds is) is;
}

pub fresh_counted : Counted drafts.fresh
unfolding count_at
fresh_counted = record { bounds = fresh_bounds; numbered = tt; counts = λ from to f g. none_counted 64 (drafts.link from to) }
