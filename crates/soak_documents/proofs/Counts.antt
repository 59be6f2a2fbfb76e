-- The counts of sends go on with the lines.
use Rattle.std.proofs.Common.{◌≡◌, ℕ, zero, suc, ◌+◌, ◌*◌, ◌<◌, ◌≤◌, Bool, true, false, cond, ◌&&◌, eqb, List, [], ◌∷◌, ◌++◌, length, refl, sym, ap, subst, ◌∙◌, arith, length-append, replicate}
use Rattle.std.specs.Prelude.{Option, Some, None, slice_set, slice_get}
use Rattle.std.specs.List.{filter}
use Rattle.std.proofs.lemmas.Bool.{eqb-true, eq-eqb}
use Rattle.std.proofs.lemmas.List.Elements.{filter-append}
use Rattle.std.proofs.lemmas.List.Sums.{length-filter, count_by-le-length}
use Rattle.run_model.specs.declared.step.Ask.{Ask}
use Rattle.run_model.specs.declared.step.Ask.TheVariants as asks
use Rattle.run_model.specs.declared.step.Order.{Order}
use Rattle.scenario_text.specs.Numbered.{sends_to, is_send, sends_of}
use Rattle.soak_documents.specs.Counting.{AreCounted, SendsWithin, IsWithin}

get_set : (xs : List ℕ) (i x : ℕ) → i < length xs → slice_get (slice_set xs i x) i ≡ Some x
get_set [] i x within = absurd (omega (arith, within))
get_set (y ∷ ys) zero x within = refl
get_set (y ∷ ys) (suc i) x within = get_set ys i x (omega (arith, within))

get_kept : (xs : List ℕ) (i j x : ℕ) → (j ≡ i → ⊥) → slice_get (slice_set xs i x) j ≡ slice_get xs j
get_kept [] i j x other = refl
get_kept (y ∷ ys) zero zero x other = absurd (other refl)
get_kept (y ∷ ys) zero (suc j) x other = refl
get_kept (y ∷ ys) (suc i) zero x other = refl
get_kept (y ∷ ys) (suc i) (suc j) x other = get_kept ys i j x (λ same. other (ap suc same))

set_length : (xs : List ℕ) (i x : ℕ) → length (slice_set xs i x) ≡ length xs
set_length [] i x = refl
set_length (y ∷ ys) zero x = refl
set_length (y ∷ ys) (suc i) x = ap suc (set_length ys i x)

none_at : (k i : ℕ) → i < k → slice_get {X = ℕ} (replicate k 0) i ≡ Some 0
none_at zero i within = absurd (omega (arith, within))
none_at (suc k) zero within = refl
none_at (suc k) (suc i) within = none_at k i (omega (arith, within))

-- no lines, no sends
pub none_counted : AreCounted [] (replicate 16 0)
none_counted = record { sixteen = refl; each = λ from to f t. none_at 16 (4 * from + to) (omega (arith, f, t)) }

-- there are no more sends than lines
pub sends_few : (from to : ℕ) (orders : List Order) → sends_of from to orders ≤ length orders
sends_few from to orders = omega (arith, length-filter (is_send from to) orders, count_by-le-length (is_send from to) orders)

-- how many sends one line is
abbrev one_if : Bool → ℕ
one_if true = 1
one_if false = 0

last_of : (b : Bool) (o : Order) → length (cond b (o ∷ []) []) ≡ one_if b
last_of true o = refl
last_of false o = refl

sends_more : (from to : ℕ) (orders : List Order) (order : Order) → sends_of from to (orders ++ order ∷ []) ≡ sends_of from to orders + one_if (is_send from to order)
sends_more from to orders order =
    let last : length (filter (is_send from to) (order ∷ [])) ≡ one_if (is_send from to order) = last_of (is_send from to order) order in
    ap length (filter-append (is_send from to) orders (order ∷ [])) ∙ length-append (filter (is_send from to) orders) (filter (is_send from to) (order ∷ [])) ∙ ap (λ (n : ℕ). sends_of from to orders + n) last

both_true : (a b : Bool) → (a && b) ≡ true → (a ≡ true) × (b ≡ true)
both_true true b e = (refl, e)
both_true false b e = absurd cc

not_both : (a b : Bool) → (a && b) ≡ false → a ≡ true → b ≡ true → ⊥
not_both true true none first second = absurd cc
not_both true false none first second = absurd cc
not_both false b none first second = absurd cc

some_count : (m n : ℕ) → m ≡ n → Some m ≡ Some n
some_count m n e = rw e refl

-- the count of a pair behind a send from one replica to another
one_counted : (orders : List Order) (counts : List ℕ) (replica peer from to : ℕ) (b : Bool) → AreCounted orders counts → replica < 4 → peer < 4 → from < 4 → to < 4 → (eqb replica from && eqb peer to) ≡ b
    → slice_get (slice_set counts (4 * replica + peer) (sends_of replica peer orders + 1)) (4 * from + to) ≡ Some (sends_of from to orders + one_if b)
one_counted orders counts replica peer from to true c r p f t is =
    let both = both_true (eqb replica from) (eqb peer to) is in
    let from_is : replica ≡ from = eqb-true replica from both.0 in
    let to_is : peer ≡ to = eqb-true peer to both.1 in
    let place : 4 * replica + peer < length counts = rw c.sixteen (omega (arith, r, p)) in
    let set : slice_get (slice_set counts (4 * replica + peer) (sends_of replica peer orders + 1)) (4 * replica + peer) ≡ Some (sends_of replica peer orders + 1) = get_set counts (4 * replica + peer) (sends_of replica peer orders + 1) place in
    subst (λ (x : ℕ). slice_get (slice_set counts (4 * replica + peer) (sends_of replica peer orders + 1)) (4 * x + to) ≡ Some (sends_of x to orders + 1)) from_is
    (subst (λ (y : ℕ). slice_get (slice_set counts (4 * replica + peer) (sends_of replica peer orders + 1)) (4 * replica + y) ≡ Some (sends_of replica y orders + 1)) to_is set)
one_counted orders counts replica peer from to false c r p f t is =
    let other : 4 * from + to ≡ 4 * replica + peer → ⊥
    = λ same. not_both (eqb replica from) (eqb peer to) is (eq-eqb replica from (omega (arith, same, r, p, f, t))) (eq-eqb peer to (omega (arith, same, r, p, f, t))) in
    get_kept counts (4 * replica + peer) (4 * from + to) (sends_of replica peer orders + 1) other ∙ c.each from to f t ∙ some_count (sends_of from to orders) (sends_of from to orders + 0) (omega arith)

-- one more line that is a send
pub send_counted : (orders : List Order) (counts : List ℕ) (replica peer : ℕ) (number : Option ℕ) → AreCounted orders counts → replica < 4 → peer < 4
    → AreCounted (orders ++ record { replica = replica; ask = asks.Send peer number } ∷ []) (slice_set counts (4 * replica + peer) (sends_of replica peer orders + 1))
send_counted orders counts replica peer number c r p =
    let order : Order = record { replica = replica; ask = asks.Send peer number } in
    record {
      sixteen = set_length counts (4 * replica + peer) (sends_of replica peer orders + 1) ∙ c.sixteen;
      each = λ from to f t. one_counted orders counts replica peer from to (eqb replica from && eqb peer to) c r p f t refl ∙ some_count _ _ (sym (sends_more from to orders order));
    }

no_send_more : (b c : Bool) → c ≡ false → one_if (b && c) ≡ 0
no_send_more true true no_send = absurd cc
no_send_more true false no_send = refl
no_send_more false c no_send = refl

-- one more line that is none
pub rest_counted : (orders : List Order) (counts : List ℕ) (order : Order) → AreCounted orders counts → ((peer : ℕ) → sends_to peer order.ask ≡ false) → AreCounted (orders ++ order ∷ []) counts
rest_counted orders counts order c no_send = record {
  sixteen = c.sixteen;
  each = λ from to f t.
      let none : one_if (is_send from to order) ≡ 0 = no_send_more (eqb order.replica from) (sends_to to order.ask) (no_send to) in
      let more = sends_more from to orders order in
      c.each from to f t ∙ some_count _ _ (omega (arith, more, none));
}

-- the peer of a send that is within
pub peer_within : (order : Order) (peer : ℕ) (number : Option ℕ) → IsWithin order → order.ask ≡ asks.Send peer number → peer < 4
peer_within order peer number within is = subst SendsWithin is within.peer

-- a send of the code, as a line with what it asks
pub send_counted_of : (orders : List Order) (counts found : List ℕ) (order : Order) (peer : ℕ) (number : Option ℕ) → AreCounted orders counts → IsWithin order → order.ask ≡ asks.Send peer number
    → found ≡ slice_set counts (4 * order.replica + peer) (sends_of order.replica peer orders + 1) → AreCounted (orders ++ order ∷ []) found
send_counted_of orders counts found order peer number c within is found_is =
    subst (λ (a : Ask). AreCounted (orders ++ record { replica = order.replica; ask = a } ∷ []) found) (sym is)
    (subst (AreCounted (orders ++ record { replica = order.replica; ask = asks.Send peer number } ∷ [])) (sym found_is)
    (send_counted orders counts order.replica peer number c within.replica (peer_within order peer number within is)))

some_same : (m n : ℕ) → Some m ≡ Some n → m ≡ n
some_same m n e = cc

-- what stands in the counts
pub count_is : (orders : List Order) (counts : List ℕ) (from to n : ℕ) → AreCounted orders counts → from < 4 → to < 4 → slice_get counts (4 * from + to) ≡ Some n → n ≡ sends_of from to orders
count_is orders counts from to n c f t is = some_same n (sends_of from to orders) (sym is ∙ c.each from to f t)

pub count_there : (orders : List Order) (counts : List ℕ) (from to : ℕ) → AreCounted orders counts → from < 4 → to < 4 → slice_get counts (4 * from + to) ≡ None → ⊥
count_there orders counts from to c f t is = let some = c.each from to f t in absurd cc
