-- How many there are of a right.
use Rattle.std.proofs.Common.{◌≡◌, ℕ, zero, suc, ◌+◌, ◌*◌, ◌≤◌, ◌^◌, ℤ, pos, negsuc, ◌-ℤ◌, ◌≤ℤ◌, List, [], ◌∷◌, length, take, refl, arith, length-take, length-append}
use Rattle.std.specs.Prelude.{slice_get, Option, Some, None, sum_by, is_some, if◌then◌else◌}
use Rattle.std.specs.List.{AllByRecursion}
use Rattle.std.specs.Option.{option_map_or}
use Rattle.std.proofs.Math.Nat.{mul-suc}
use Rattle.std.proofs.lemmas.Int.{ints}
use Rattle.std.proofs.lemmas.Bool.{cond_both}
use Rattle.std.proofs.lemmas.List.Sums.{sum_by-cons}
use Rattle.spec_model.specs.declared.plan.Setup.{Setup}
use Rattle.spec_model.specs.declared.spec.Spec.{Spec}
use Rattle.spec_model.specs.declared.spec.Num.{Num}
use Rattle.spec_model.specs.declared.right.Right.{Right}
use Rattle.spec_model.specs.declared.right.Right.TheVariants as right
use Rattle.spec_model.specs.declared.log.Body.{Body}
use Rattle.spec_model.specs.declared.log.Body.TheVariants as body
use Rattle.spec_model.specs.declared.log.LogItem.{LogItem}
use Rattle.spec_model.specs.Changes.{net_fall, net_rise}
use Rattle.spec_model.specs.Fits.{BoundFits, IsWellFormed, NumFits}
use Rattle.spec_model.specs.Universe.{lower_bound, upper_bound}
use Rattle.run_model.specs.Balance.{IsConserved, body_creates, held_in}
use Rattle.run_model.specs.Logs.{IsConsistent, Logs, items_in, log_at}
use Rattle.run_model.specs.Rights.{first_count, first_total, flight_of, is_shared, natural, out_gives}
use Rattle.run_model.proofs.Balanced.{balanced}
use Rattle.run_model.proofs.OneMode.{all_shares}
use Rattle.run_model.proofs.Premises.{AreHeld}
use Rattle.message_laws.proofs.Spent.{added_small, subtracted_small}

-- ---- how many there are at the start

-- a number up to some natural is itself at most that
natural_at_most : (z : ℤ) (i : ℕ) → z ≤ℤ pos i → natural z ≤ i
natural_at_most (pos n) i le = omega (arith, ints, le)
natural_at_most (negsuc n) i le = omega arith

low_distance : (init : ℤ) (i : ℕ) (min : Option ℤ) → init ≡ pos i → i ≤ 1000000000000 → BoundFits min → option_map_or (λ low. natural (init -ℤ low)) min 0 ≤ 1000000000000
low_distance init i None is small fits = omega arith
low_distance init i (Some low) is small fits =
    let up : natural (init -ℤ low) ≤ i = natural_at_most (init -ℤ low) i (omega (arith, ints, is, fits.1)) in
    omega (arith, up, small)

high_distance : (init : ℤ) (i : ℕ) (max : Option ℤ) → init ≡ pos i → BoundFits max → option_map_or (λ high. natural (high -ℤ init)) max 0 ≤ 1000000000000
high_distance init i None is fits = omega arith
high_distance init i (Some high) is fits =
    let up : natural (high -ℤ init) ≤ fits.0 = natural_at_most (high -ℤ init) fits.0 (omega (arith, ints, is, fits.1)) in
    omega (arith, up, fits.2)

low_first : (nums : List Num) (spec : Spec) (k : ℕ) → AllByRecursion (NumFits spec) nums
    → option_map_or (λ low. natural (option_map_or (λ n. n.init) (slice_get nums k) (pos 0) -ℤ low)) (option_map_or (λ n. n.min) (slice_get nums k) None) 0 ≤ 1000000000000
low_first [] spec k all = omega arith
low_first (n ∷ nums) spec zero all = low_distance n.init all.0.init n.min all.0.init_is all.0.init_small all.0.min_fits
low_first (n ∷ nums) spec (suc k) all = low_first nums spec k all.1

high_first : (nums : List Num) (spec : Spec) (k : ℕ) → AllByRecursion (NumFits spec) nums
    → option_map_or (λ high. natural (high -ℤ option_map_or (λ n. n.init) (slice_get nums k) (pos 0))) (option_map_or (λ n. n.max) (slice_get nums k) None) 0 ≤ 1000000000000
high_first [] spec k all = omega arith
high_first (n ∷ nums) spec zero all = high_distance n.init all.0.init n.max all.0.init_is all.0.max_fits
high_first (n ∷ nums) spec (suc k) all = high_first nums spec k all.1

pub first_small : (spec : Spec) (r : Right) → IsWellFormed spec → first_count spec r ≤ 1000000000000
first_small spec (right.Low cell) well = low_first spec.nums spec cell.num well.nums
first_small spec (right.High cell) well = high_first spec.nums spec cell.num well.nums
first_small spec (right.Lock lock key) well = omega arith
first_small spec (right.Entry clause args literal) well = omega arith
first_small spec (right.Part part key) well = omega arith

-- ---- how many are created

-- by one item
creates_small : (spec : Spec) (r : Right) (b : Body) → IsWellFormed spec → body_creates spec r b ≤ 16000000000
creates_small spec (right.Low cell) (body.Act inst) well =
    let small = added_small spec inst cell well in
    cond_both (is_some (lower_bound spec cell)) (net_rise spec inst cell) 0 (λ n. n ≤ 16000000000) (λ is. omega (arith, small)) (λ not. omega arith)
creates_small spec (right.High cell) (body.Act inst) well =
    let small = subtracted_small spec inst cell well in
    cond_both (is_some (upper_bound spec cell)) (net_fall spec inst cell) 0 (λ n. n ≤ 16000000000) (λ is. omega (arith, small)) (λ not. omega arith)
creates_small spec (right.Lock lock key) (body.Act inst) well = omega arith
creates_small spec (right.Entry clause args literal) (body.Act inst) well = omega arith
creates_small spec (right.Part part key) (body.Act inst) well = omega arith
creates_small spec r (body.Out to given piece) well = omega arith
creates_small spec r (body.Accept from at) well = omega arith

-- by all items
all_created : (spec : Spec) (r : Right) (items : List LogItem) → IsWellFormed spec → sum_by (λ item. body_creates spec r item.body) items ≤ 16000000000 * length items
all_created spec r [] well = omega arith
all_created spec r (item ∷ items) well =
    omega (arith, creates_small spec r item.body well, all_created spec r items well, sum_by-cons (λ (i : LogItem). body_creates spec r i.body) item items)

-- no more items lie in a cut than there are
few_items : (bound : ℕ) (cut : List ℕ) (logs : Logs) → ((j : ℕ) → length (log_at logs j) ≤ bound) → length (items_in cut logs) ≤ bound * length logs
few_items bound [] logs short = omega arith
few_items bound (c ∷ cut) [] short = omega arith
few_items bound (c ∷ cut) (log ∷ logs) short =
    let here : length log ≤ bound = short 0 in
    let rest = few_items bound cut logs (λ j. short (suc j)) in
    let wide : bound * suc (length logs) ≡ bound * length logs + bound = mul-suc bound (length logs) in
    omega (arith, here, rest, wide, length-take c log, length-append (take c log) (items_in cut logs))

-- ---- how many there are

-- no more than these are held and in flight
abbrev pub limit : Setup → Right → ℕ
limit setup r = if is_shared r then setup.replicas else 2 ^ 62

-- a setup that is small enough, and logs that are short enough
pub record AreSmall (setup : Setup) (logs : Logs) : Type 0 where
  pub well : IsWellFormed setup.spec
  pub few : setup.replicas ≤ 16
  pub short : (j : ℕ) → length (log_at logs j) ≤ 4194304

escrow_few : (setup : Setup) (logs : Logs) (cut : List ℕ) (r : Right) → AreSmall setup logs → AreHeld setup logs → IsConsistent logs cut → IsConserved setup.spec r → first_total setup r ≡ first_count setup.spec r
    → held_in setup logs cut r + flight_of (out_gives r) (items_in cut logs) ≤ 2 ^ 62
escrow_few setup logs cut r small held c conserved is =
    let spec = setup.spec in
    let items : List LogItem = items_in cut logs in
    let balance = balanced setup logs cut r held c conserved in
    let count = few_items 4194304 cut logs small.short in
    omega (arith, balance, is, first_small spec r small.well, all_created spec r items small.well, count, held.many, small.few)

pub there_are : (setup : Setup) (logs : Logs) (cut : List ℕ) (r : Right) → AreSmall setup logs → AreHeld setup logs → IsConsistent logs cut → IsConserved setup.spec r
    → held_in setup logs cut r + flight_of (out_gives r) (items_in cut logs) ≤ limit setup r
there_are setup logs cut (right.Low cell) small held c conserved = escrow_few setup logs cut (right.Low cell) small held c conserved refl
there_are setup logs cut (right.High cell) small held c conserved = escrow_few setup logs cut (right.High cell) small held c conserved refl
there_are setup logs cut (right.Lock lock key) small held c conserved = omega (arith, all_shares setup logs cut (right.Lock lock key) held c refl)
there_are setup logs cut (right.Entry clause args literal) small held c conserved = omega (arith, all_shares setup logs cut (right.Entry clause args literal) held c refl)
there_are setup logs cut (right.Part part key) small held c conserved = absurd cc
