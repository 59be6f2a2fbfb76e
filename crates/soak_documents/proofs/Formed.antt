-- Every generated document is well formed.
use Rattle.std.proofs.Common.{◌≡◌, ℕ, zero, suc, ◌+◌, ◌/◌, ◌%◌, ◌<◌, Bool, true, false, cond, eqb, ltb, leb, List, [], ◌∷◌, ◌++◌, length, refl, ap, arith}
use Rattle.std.specs.Prelude.{Some}
use Rattle.std.specs.List.{AllByRecursion}
use Rattle.std.proofs.lemmas.Bool.{ltb-true, ltb-false, eqb-false}
use Rattle.std.proofs.lemmas.Nat.{mod_below}
use Rattle.spec_model.specs.Fits.{IsWellFormed}
use Rattle.run_model.specs.declared.step.Ask.TheVariants as asks
use Rattle.run_model.specs.declared.step.Order.{Order}
use Rattle.scenario_text.specs.Numbered.{IsNumbered, AreNumbered, sends_of}
use Rattle.scenario_text.specs.WellFormed.{OrderFits, IsWellFormedDocument}
use Rattle.soak_documents.specs.Stock.{stock_spec}
use Rattle.soak_documents.specs.Counting.{IsWithin}
use Rattle.soak_documents.specs.Generating.{Turn, peer_of, request, send, take_of, line_of_kind, chosen, crashing, turn, lines_from, schedule_of, generated}

-- ---- the specification

pub stock_formed : IsWellFormed stock_spec
stock_formed = record {
  sorts = (record { some = omega arith; few = omega arith }, tt);
  preds = tt;
  nums = (record { sorts_known = (omega arith, tt); few_places = omega arith; init = 40; init_is = refl; init_small = omega arith; min_fits = (0, refl, omega arith); max_fits = (80, refl, omega arith); not_below = omega arith; not_above = omega arith }, tt);
  clauses = tt;
  ops = (
    record { lines_fit = (record { known = omega arith; places_fit = (record { within = omega arith; sort_is = refl; plain = refl }, tt); some = omega arith; small = omega arith }, tt); one_interval = tt; sorts_known = (omega arith, tt); few_params = omega arith; few_lines = omega arith },
    (
      record { lines_fit = (record { known = omega arith; places_fit = (record { within = omega arith; sort_is = refl; plain = refl }, tt); some = omega arith; small = omega arith }, tt); one_interval = tt; sorts_known = (omega arith, tt); few_params = omega arith; few_lines = omega arith },
      tt,
    ),
  );
  free = tt;
  few_sorts = omega arith;
  few_preds = omega arith;
  few_nums = omega arith;
  few_clauses = omega arith;
  few_ops = omega arith;
  small_universe = omega arith;
  few_instances = omega arith;
  starts = λ c has. absurd (omega (arith, has.1));
}

-- ---- one line

-- a line fits the document behind the lines before it
pub record LineFits (before : List Order) (order : Order) : Type 0 where
  pub fits : OrderFits stock_spec 4 order
  pub numbered : IsNumbered before order
  pub within : IsWithin order

-- what holds of both holds of the one that is taken
of_either : {A : Type 0} (P : A → Type 0) (b : Bool) (x y : A) → P x → P y → P (cond b x y)
of_either P true x y p q = p
of_either P false x y p q = q

-- the other replica is another one
record IsOther (replica peer : ℕ) : Type 0 where
  pub below : peer < 4
  pub other : peer ≡ replica → ⊥

other_by : (replica number : ℕ) (b : Bool) → ltb number replica ≡ b → replica < 4 → number < 3 → IsOther replica (cond b number (number + 1))
other_by replica number true is r n = let less = ltb-true number replica is in record { below = omega (arith, n); other = λ same. omega (arith, same, less) }
other_by replica number false is r n = let more = ltb-false number replica is in record { below = omega (arith, n); other = λ same. omega (arith, same, more) }

peer_is : (replica number : ℕ) → replica < 4 → number < 3 → IsOther replica (peer_of replica number)
peer_is replica number r n = other_by replica number (ltb number replica) refl r n

buy_fits : (before : List Order) (replica i : ℕ) → replica < 4 → i < 8 → LineFits before (request replica 0 i)
buy_fits before replica i r small = record {
  fits = record { within = r; step = record { known = omega arith; args_fit = (record { ordered = omega arith; fits = small; plain = λ e. refl }, tt) } };
  numbered = tt;
  within = record { replica = r; peer = tt };
}

refill_fits : (before : List Order) (replica i : ℕ) → replica < 4 → i < 8 → LineFits before (request replica 1 i)
refill_fits before replica i r small = record {
  fits = record { within = r; step = record { known = omega arith; args_fit = (record { ordered = omega arith; fits = small; plain = λ e. refl }, tt) } };
  numbered = tt;
  within = record { replica = r; peer = tt };
}

send_fits : (before : List Order) (replica peer : ℕ) → replica < 4 → IsOther replica peer → LineFits before (send before replica peer)
send_fits before replica peer r p = record {
  fits = record { within = r; step = record { within = p.below; other = p.other; given = sends_of replica peer before; is_given = refl } };
  numbered = refl;
  within = record { replica = r; peer = p.below };
}

taken_fits : (before : List Order) (replica peer draw : ℕ) → replica < 4 → IsOther replica peer → 0 < sends_of peer replica before
    → LineFits before (record { replica = replica; ask = asks.Take peer (Some (draw % sends_of peer replica before)) })
taken_fits before replica peer draw r p some = record {
  fits = record { within = r; step = record { within = p.below; other = p.other; given = draw % sends_of peer replica before; is_given = refl } };
  numbered = mod_below draw (sends_of peer replica before) some;
  within = record { replica = r; peer = tt };
}

take_by : (before : List Order) (replica peer draw : ℕ) (b : Bool) → eqb (sends_of peer replica before) 0 ≡ b → replica < 4 → IsOther replica peer
    → LineFits before (cond b (send before replica peer) (record { replica = replica; ask = asks.Take peer (Some (draw % sends_of peer replica before)) }))
take_by before replica peer draw true is r p = send_fits before replica peer r p
take_by before replica peer draw false is r p =
    let some = eqb-false (sends_of peer replica before) 0 is in
    taken_fits before replica peer draw r p (positive (sends_of peer replica before) some)
  where
    positive : (n : ℕ) → (n ≡ 0 → ⊥) → 0 < n
    positive zero some = absurd (some refl)
    positive (suc n) some = omega arith

take_fits : (before : List Order) (replica peer draw : ℕ) → replica < 4 → IsOther replica peer → LineFits before (take_of before replica peer draw (sends_of peer replica before))
take_fits before replica peer draw r p = take_by before replica peer draw (eqb (sends_of peer replica before) 0) refl r p

kind_fits : (before : List Order) (kind replica d3 d4 : ℕ) → replica < 4 → LineFits before (line_of_kind before kind replica d3 d4)
kind_fits before kind replica d3 d4 r =
    let small : d3 % 8 < 8 = mod_below d3 8 (omega arith) in
    let peer : IsOther replica (peer_of replica (d3 % 3)) = peer_is replica (d3 % 3) r (mod_below d3 3 (omega arith)) in
    let P : Order → Type 0 = LineFits before in
    of_either P (leb kind 4) _ _ (buy_fits before replica (d3 % 8) r small)
    (of_either P (eqb kind 5) _ _ (refill_fits before replica (d3 % 8) r small)
    (of_either P (leb kind 7) _ _ (send_fits before replica (peer_of replica (d3 % 3)) r peer)
    (take_fits before replica (peer_of replica (d3 % 3)) d4 r peer)))

chosen_fits : (before : List Order) (d1 d2 d3 d4 : ℕ) → LineFits before (chosen before d1 d2 d3 d4)
unfolding chosen
chosen_fits before d1 d2 d3 d4 = kind_fits before (d1 % 10) (d2 % 4) d3 d4 (mod_below d2 4 (omega arith))

crash_fits : (before : List Order) (replica : ℕ) → replica < 4 → LineFits before (record { replica = replica; ask = asks.Crash })
crash_fits before replica r = record { fits = record { within = r; step = tt }; numbered = tt; within = record { replica = r; peer = tt } }

recover_fits : (before : List Order) (replica : ℕ) → replica < 4 → LineFits before (record { replica = replica; ask = asks.Recover })
recover_fits before replica r = record { fits = record { within = r; step = tt }; numbered = tt; within = record { replica = r; peer = tt } }

pub turn_fits : (before : List Order) (number x : ℕ) → LineFits before (turn before number x).order
unfolding turn
turn_fits before number x =
    let r : crashing number < 4 = mod_below (number / 500) 4 (omega arith) in
    let P : Turn → Type 0 = λ t. LineFits before t.order in
    of_either P (eqb (number % 500) 498) _ _ (crash_fits before (crashing number) r)
    (of_either P (eqb (number % 500) 499) _ _ (recover_fits before (crashing number) r) (chosen_fits before _ _ _ _))

-- ---- all lines

lines_fit : (count : ℕ) (before : List Order) (number x : ℕ) → AllByRecursion (OrderFits stock_spec 4) (lines_from count before number x)
unfolding lines_from
lines_fit zero before number x = tt
lines_fit (suc count) before number x = ((turn_fits before number x).fits, lines_fit count (before ++ (turn before number x).order ∷ []) (number + 1) (turn before number x).state)

lines_numbered : (count : ℕ) (before : List Order) (number x : ℕ) → AreNumbered before (lines_from count before number x)
unfolding lines_from
lines_numbered zero before number x = tt
lines_numbered (suc count) before number x = ((turn_fits before number x).numbered, lines_numbered count (before ++ (turn before number x).order ∷ []) (number + 1) (turn before number x).state)

lines_count : (count : ℕ) (before : List Order) (number x : ℕ) → length (lines_from count before number x) ≡ count
unfolding lines_from
lines_count zero before number x = refl
lines_count (suc count) before number x = ap suc (lines_count count (before ++ (turn before number x).order ∷ []) (number + 1) (turn before number x).state)

pub generated_formed : (seed : ℕ) → IsWellFormedDocument (generated seed)
unfolding schedule_of
generated_formed seed = record {
  spec = stock_formed;
  some_replicas = omega arith;
  few_replicas = omega arith;
  stops = tt;
  few_stops = omega arith;
  work = record {
    orders_fit = lines_fit 20000 [] 0 seed;
    few_orders = let count = lines_count 20000 [] 0 seed in omega (arith, count);
    numbered = lines_numbered 20000 [] 0 seed;
  };
}
