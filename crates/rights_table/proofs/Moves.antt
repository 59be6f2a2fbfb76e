-- Counts that change.
use Rattle.std.proofs.Common.{◌≡◌, ℕ, ◌+◌, ◌≤◌, Bool, true, false, cond, refl, sym, ◌∙◌, arith}
use Rattle.spec_model.specs.declared.plan.Setup.{Setup}
use Rattle.spec_model.specs.declared.right.Mode.TheVariants as mode
use Rattle.spec_model.specs.declared.right.Right.{Right}
use Rattle.spec_model.specs.declared.right.Right.TheVariants as right
use Rattle.spec_model.specs.declared.right.WantAsk.TheVariants as asked
use Rattle.run_model.specs.Rights.{same_right, is_escrow}
use Rattle.rights_table.specs.declared.holding.Holding.{Holding}
use Rattle.rights_table.specs.declared.holding.Holding.TheVariants as holding
use Rattle.rights_table.specs.declared.table.Table.{Table}
use Rattle.rights_table.specs.Holdings.{count_of, mode_of, point_of, is_of, is_count, spent, permits}
use Rattle.rights_table.specs.Tables.{Becomes}
use Rattle.rights_table.specs.Cells.{MovesBy, of_right}
use Rattle.rights_table.proofs.Stepped.{count_by, mode_stays, points_stay}
use Rattle.rights_table.proofs.Pieces.{becomes_kept}

-- an escrow right is counted
pub escrow_counts : (all : ℕ) (r : Right) (h : Holding) → is_escrow r ≡ true → is_of all r h ≡ true → is_count h ≡ true
escrow_counts all (right.Low cell) (holding.Count e) escrow kind = refl
escrow_counts all (right.High cell) (holding.Count e) escrow kind = refl
escrow_counts all (right.Low cell) (holding.Shares s) escrow kind = absurd cc
escrow_counts all (right.High cell) (holding.Shares s) escrow kind = absurd cc
escrow_counts all (right.Low cell) (holding.Points k) escrow kind = absurd cc
escrow_counts all (right.High cell) (holding.Points k) escrow kind = absurd cc
escrow_counts all (right.Lock l key) h escrow kind = absurd cc
escrow_counts all (right.Entry c args i) h escrow kind = absurd cc
escrow_counts all (right.Part p key) h escrow kind = absurd cc

count_mode : (h : Holding) → is_count h ≡ true → mode_of h ≡ mode.Forbid
count_mode (holding.Count e) is = refl
count_mode (holding.Shares s) is = absurd cc
count_mode (holding.Points k) is = absurd cc

-- a count has no points
count_points : (h : Holding) (x : ℕ) → is_count h ≡ true → point_of h x ≡ 0
count_points (holding.Count e) x is = refl
count_points (holding.Shares s) x is = absurd cc
count_points (holding.Points k) x is = absurd cc

-- so many may be spent of as many
pub count_permits : (h : Holding) (n : ℕ) → is_count h ≡ true → n ≤ count_of h → permits h (asked.Count n) ≡ true
count_permits (holding.Count e) n is le = search (arith, le)
count_permits (holding.Shares s) n is le = absurd cc
count_permits (holding.Points k) n is le = absurd cc

count_spent : (h : Holding) (n : ℕ) → is_count h ≡ true → n ≤ count_of h → (count_of (spent h (asked.Count n)) + n ≡ count_of h) × (is_count (spent h (asked.Count n)) ≡ true)
count_spent (holding.Count e) n is le = (omega (arith, le), refl)
count_spent (holding.Shares s) n is le = absurd cc
count_spent (holding.Points k) n is le = absurd cc

-- one right moves
moved : (setup : Setup) (r : Right) (n m : ℕ) (before after : Holding) (old new : Table) → Becomes r before after old new → is_count before ≡ true → is_count after ≡ true → count_of after + m ≡ count_of before + n
    → MovesBy setup (of_right r n) (of_right r m) old new
moved setup r n m before after old new becomes was is sum = record {
  me = becomes.me;
  replicas = becomes.replicas;
  counts = λ q. count_by setup r q before after old new m n becomes sum;
  modes = λ q. mode_stays r q before after old new becomes (count_mode after is ∙ sym (count_mode before was));
  points = λ q x. points_stay setup r q x before after old new becomes (count_points after x is ∙ sym (count_points before x was));
  kept = λ q has. becomes_kept r q before after old new becomes has;
}

none_of : (r : Right) (q : Right) → of_right r 0 q ≡ 0
none_of r q = nothing (same_right r q)
  where
    nothing : (b : Bool) → ◌≡◌ {A = ℕ} (cond b 0 0) 0
    nothing true = refl
    nothing false = refl

pub gained : (setup : Setup) (r : Right) (n : ℕ) (before after : Holding) (old new : Table) → Becomes r before after old new → is_count before ≡ true → is_count after ≡ true → count_of after ≡ count_of before + n → MovesBy setup (of_right r n) (λ q. 0) old new
gained setup r n before after old new becomes was is sum =
    let by = moved setup r n 0 before after old new becomes was is (omega (arith, sum)) in
    record { me = by.me; replicas = by.replicas; counts = λ q. (let at = by.counts q in let none = none_of r q in omega (arith, at, none)); modes = by.modes; points = by.points; kept = by.kept }

pub lost : (setup : Setup) (r : Right) (n : ℕ) (before : Holding) (old new : Table) → Becomes r before (spent before (asked.Count n)) old new → is_count before ≡ true → n ≤ count_of before → MovesBy setup (λ q. 0) (of_right r n) old new
lost setup r n before old new becomes was le =
    let sum = count_spent before n was le in
    let by = moved setup r 0 n before (spent before (asked.Count n)) old new becomes was sum.1 (let at = sum.0 in omega (arith, at)) in
    record { me = by.me; replicas = by.replicas; counts = λ q. (let at = by.counts q in let none = none_of r q in omega (arith, at, none)); modes = by.modes; points = by.points; kept = by.kept }
