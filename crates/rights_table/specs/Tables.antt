-- A table of rights: what a replica holds of each after the items of its own log.
use Rattle.std.specs.Prelude.{◌≡◌, true, ℕ, ◌+◌, ◌≤◌, ◌&&◌, List, Bool, if◌then◌else◌, Option, Some, None, slice_get, sum_by, nat_lt}
use Rattle.std.specs.Option.{option_map_or}
use Rattle.ind_base.specs.declared.span.Span.{Span}
use Rattle.spec_model.specs.declared.plan.Setup.{Setup}
use Rattle.spec_model.specs.declared.right.Right.{Right}
use Rattle.spec_model.specs.declared.right.Need.{Need}
use Rattle.spec_model.specs.declared.right.Held.{Held}
use Rattle.spec_model.specs.declared.right.Held.TheVariants as held
use Rattle.spec_model.specs.declared.right.Right.TheVariants as right
use Rattle.spec_model.specs.declared.right.Mode.{Mode}
use Rattle.spec_model.specs.declared.right.Mode.TheVariants as mode
use Rattle.spec_model.specs.declared.log.LogItem.{LogItem}
use Rattle.run_model.specs.Logs.{Logs}
use Rattle.run_model.specs.Rights.{same_right, is_shared, even_share, first_total, held_count, body_gains, body_loses, accept_brings}
use Rattle.run_model.specs.Holding.{mode_of, span_in}
use Rattle.run_model.specs.Points.{first_point, missing_of, out_point, point_count, run_of}
use Rattle.rights_table.specs.declared.holding.Holding.{Holding}
use Rattle.rights_table.specs.declared.table.Table.{Table}
use Rattle.rights_table.specs.Holdings as holdings
use Rattle.rights_table.specs.Entries.{entry_of}

-- the holding of a right that was touched
abbrev pub entered : Table → Right → Option Holding
entered t r = entry_of t.entries r

-- how many replicas there are
abbrev pub replicas_of : Table → ℕ
replicas_of t = t.replicas

-- how many are held of a right: of one that wasn't touched its share at the start
abbrev pub count_in : Setup → Table → Right → ℕ
count_in setup t r = option_map_or holdings.count_of (entered t r) (even_share (first_total setup r) setup.replicas t.me)

-- in which mode: of one that wasn't touched forbid
abbrev pub mode_in : Table → Right → Mode
mode_in t r = option_map_or holdings.mode_of (entered t r) mode.Forbid

-- how often a point is held: of a partition that wasn't touched those of the run at the start
abbrev pub point_in : Setup → Table → Right → ℕ → ℕ
point_in setup t r x = option_map_or (λ h. holdings.point_of h x) (entered t r) (first_point setup t.me r x)

abbrev pub has_point : Setup → Table → Right → ℕ → Bool
has_point setup t r x = nat_lt 0 (point_in setup t r x)

-- what it tells of a right: of a cell a count, of a lock or an entry shares in their mode, of a partition the points of a span
abbrev pub held_in : Setup → Table → Right → Span → Held
held_in setup t (right.Low cell) span = held.Count (count_in setup t (right.Low cell))
held_in setup t (right.High cell) span = held.Count (count_in setup t (right.High cell))
held_in setup t (right.Lock lock key) span = held.Shares (count_in setup t (right.Lock lock key)) (mode_in t (right.Lock lock key))
held_in setup t (right.Entry clause args literal) span = held.Shares (count_in setup t (right.Entry clause args literal)) (mode_in t (right.Entry clause args literal))
held_in setup t (right.Part part key) span = held.Points (missing_of (has_point setup t (right.Part part key)) span) (run_of (has_point setup t (right.Part part key)) span)

-- what it tells of what is needed
abbrev pub holding_in : Setup → Table → Need → Held
holding_in setup t need = held_in setup t need.right (span_in need.amount)

-- it is a replica's table by this setup
pub record IsOf (setup : Setup) (replica : ℕ) (t : Table) : Type 0 where
  pub me : t.me ≡ replica
  pub replicas : t.replicas ≡ setup.replicas

-- the table has what replica me holds after these items of its own log, of each of these rights: how many, in which mode, and which points
pub record IsTable (setup : Setup) (logs : Logs) (me : ℕ) (own : List LogItem) (among : Right → Bool) (t : Table) : Type 0 where
  pub of : IsOf setup me t
  pub counts : (r : Right) → among r ≡ true → count_in setup t r ≡ held_count setup logs me own r
  pub modes : (r : Right) → among r ≡ true → is_shared r ≡ true → mode_in t r ≡ mode_of setup logs me own r
  pub covered : (r : Right) → among r ≡ true → sum_by (λ item. body_loses setup.spec r item.body) own ≤ even_share (first_total setup r) setup.replicas me + sum_by (λ item. body_gains setup.spec logs r item.body) own
  pub points : (r : Right) → among r ≡ true → (x : ℕ) → point_in setup t r x ≡ point_count setup logs me own r x
  pub points_covered : (r : Right) → among r ≡ true → (x : ℕ) → sum_by (λ item. out_point r x item.body) own ≤ first_point setup me r x + sum_by (λ item. accept_brings logs (out_point r x) item.body) own

-- ---- changes

-- the right has an entry, for which there is room
abbrev pub IsEntered : Table → Right → Type 0
IsEntered t r = (h : Holding) × (entered t r ≡ Some h)

-- and it is the first of all
abbrev pub IsFirst : Table → Right → Type 0
IsFirst t r = (h : Holding) × (slice_get t.entries.entries 0 ≡ Some (r, h))

-- both tell the same of all rights
pub record TellTheSame (setup : Setup) (old new : Table) : Type 0 where
  pub me : new.me ≡ old.me
  pub replicas : new.replicas ≡ old.replicas
  pub counts : (r : Right) → count_in setup new r ≡ count_in setup old r
  pub modes : (r : Right) → mode_in new r ≡ mode_in old r
  pub points : (r : Right) (x : ℕ) → point_in setup new r x ≡ point_in setup old r x

-- rights that have an entry keep one
abbrev pub KeepsEntries : Table → Table → Type 0
KeepsEntries old new = (r : Right) → IsEntered old r → IsEntered new r

-- the holding of this right becomes another, and all else stays
pub record Becomes (r : Right) (before after : Holding) (old new : Table) : Type 0 where
  pub me : new.me ≡ old.me
  pub replicas : new.replicas ≡ old.replicas
  pub was : entered old r ≡ Some before
  pub is : (q : Right) → entered new q ≡ (if same_right r q then Some after else entered old q)

-- a right that has no entry gets one with this holding, where there is the memory, and all else stays
pub record Enters (enough : Bool) (r : Right) (h : Holding) (old new : Table) : Type 0 where
  pub me : new.me ≡ old.me
  pub replicas : new.replicas ≡ old.replicas
  pub was : entered old r ≡ None
  pub is : (q : Right) → entered new q ≡ (if enough && same_right r q then Some h else entered old q)

-- the holding is what the table tells of the right
pub record IsHeldBy (setup : Setup) (t : Table) (r : Right) (h : Holding) : Type 0 where
  pub count : holdings.count_of h ≡ count_in setup t r
  pub mode : holdings.mode_of h ≡ mode_in t r
  pub points : (x : ℕ) → holdings.point_of h x ≡ point_in setup t r x
  pub kind : holdings.is_of setup.replicas r h ≡ true

-- rights that have an entry keep it, and one that gets an entry is held as the other table tells
pub record TakesOver (setup : Setup) (from old new : Table) : Type 0 where
  pub me : new.me ≡ old.me
  pub replicas : new.replicas ≡ old.replicas
  pub kept : (q : Right) (h : Holding) → entered old q ≡ Some h → entered new q ≡ Some h
  pub more : (q : Right) (h : Holding) → entered old q ≡ None → entered new q ≡ Some h → (holdings.count_of h ≡ count_in setup from q) × (holdings.mode_of h ≡ mode_in from q) × ((x : ℕ) → holdings.point_of h x ≡ point_in setup from q x)
