-- What a table tells is what is held.
use Rattle.std.proofs.Common.{◌≡◌, ℕ, Bool, true, false, cond, List, refl, sym, ap, ◌∙◌}
use Rattle.std.specs.Prelude.{Option, Some, nat_lt}
use Rattle.std.proofs.Math.Path.{fun_ext}
use Rattle.std.specs.Option.{option_map_or}
use Rattle.ind_base.specs.declared.span.Span.{Span}
use Rattle.spec_model.specs.declared.plan.Setup.{Setup}
use Rattle.spec_model.specs.declared.right.Mode.{Mode}
use Rattle.spec_model.specs.declared.right.Mode.TheVariants as mode
use Rattle.spec_model.specs.declared.right.Right.{Right}
use Rattle.spec_model.specs.declared.right.Right.TheVariants as right
use Rattle.spec_model.specs.declared.right.Held.TheVariants as held
use Rattle.spec_model.specs.declared.log.LogItem.{LogItem}
use Rattle.run_model.specs.Logs.{Logs}
use Rattle.run_model.specs.Rights.{even_share, first_total}
use Rattle.run_model.specs.Holding.{held_right}
use Rattle.partition_locks.specs.Held.{holds}
use Rattle.run_model.specs.Points.{first_point, holds_point, missing_of, run_of}
use Rattle.rights_table.specs.declared.holding.Holding.{Holding}
use Rattle.rights_table.specs.declared.holding.Holding.TheVariants as holding
use Rattle.rights_table.specs.declared.table.Table.{Table}
use Rattle.rights_table.specs.Holdings.{count_of, mode_of, point_of, told, is_of}
use Rattle.rights_table.specs.Tables.{entered, count_in, mode_in, point_in, has_point, held_in, IsTable}

-- what an entry has
pub count_entered : (setup : Setup) (t : Table) (r : Right) (h : Holding) → entered t r ≡ Some h → count_in setup t r ≡ count_of h
count_entered setup t r h is = ap (λ (o : Option Holding). option_map_or count_of o (even_share (first_total setup r) setup.replicas t.me)) is

pub mode_entered : (t : Table) (r : Right) (h : Holding) → entered t r ≡ Some h → mode_in t r ≡ mode_of h
mode_entered t r h is = ap (λ (o : Option Holding). option_map_or mode_of o mode.Forbid) is

pub point_entered : (setup : Setup) (t : Table) (r : Right) (h : Holding) (x : ℕ) → entered t r ≡ Some h → point_in setup t r x ≡ point_of h x
point_entered setup t r h x is = ap (λ (o : Option Holding). option_map_or (λ (k : Holding). point_of k x) o (first_point setup t.me r x)) is

-- points that are held alike
pub points_told : (P Q : ℕ → Bool) (span : Span) → ((x : ℕ) → P x ≡ Q x) → held.Points (missing_of P span) (run_of P span) ≡ held.Points (missing_of Q span) (run_of Q span)
points_told P Q span same = ap (λ (T : ℕ → Bool). held.Points (missing_of T span) (run_of T span)) (fun_ext same)

-- a point is held where it is held once
once : (b : Bool) → nat_lt 0 (cond b 1 0) ≡ b
once true = refl
once false = refl

-- so many in a mode
with_mode : (n k : ℕ) (m l : Mode) → n ≡ k → m ≡ l → held.Shares n m ≡ held.Shares k l
with_mode n k m l e f = ap (λ x. held.Shares x m) e ∙ ap (held.Shares k) f

-- an entry tells it
pub told_held : (setup : Setup) (t : Table) (all : ℕ) (r : Right) (h : Holding) (span : Span) → entered t r ≡ Some h → is_of all r h ≡ true → told h span ≡ held_in setup t r span
told_held setup t all (right.Low cell) (holding.Count e) span is kind = sym (ap (λ n. held.Count n) (count_entered setup t (right.Low cell) (holding.Count e) is))
told_held setup t all (right.High cell) (holding.Count e) span is kind = sym (ap (λ n. held.Count n) (count_entered setup t (right.High cell) (holding.Count e) is))
told_held setup t all (right.Low cell) (holding.Shares s) span is kind = absurd cc
told_held setup t all (right.High cell) (holding.Shares s) span is kind = absurd cc
told_held setup t all (right.Lock l key) (holding.Count e) span is kind = absurd cc
told_held setup t all (right.Entry c args i) (holding.Count e) span is kind = absurd cc
told_held setup t all (right.Lock l key) (holding.Shares s) span is kind =
    let r : Right = right.Lock l key in
    let h : Holding = holding.Shares s in
    sym (with_mode (count_in setup t r) s.shares (mode_in t r) s.mode (count_entered setup t r h is) (mode_entered t r h is))
told_held setup t all (right.Entry c args i) (holding.Shares s) span is kind =
    let r : Right = right.Entry c args i in
    let h : Holding = holding.Shares s in
    sym (with_mode (count_in setup t r) s.shares (mode_in t r) s.mode (count_entered setup t r h is) (mode_entered t r h is))
told_held setup t all (right.Part p key) (holding.Count e) span is kind = absurd cc
told_held setup t all (right.Part p key) (holding.Shares s) span is kind = absurd cc
told_held setup t all (right.Low cell) (holding.Points h) span is kind = absurd cc
told_held setup t all (right.High cell) (holding.Points h) span is kind = absurd cc
told_held setup t all (right.Lock l key) (holding.Points h) span is kind = absurd cc
told_held setup t all (right.Entry c args i) (holding.Points h) span is kind = absurd cc
told_held setup t all (right.Part p key) (holding.Points h) span is kind =
    points_told (holds h) (has_point setup t (right.Part p key)) span (λ x. sym (ap (nat_lt 0) (point_entered setup t (right.Part p key) (holding.Points h) x is) ∙ once (holds h x)))

-- a replica's table tells what it holds
pub table_tells : (setup : Setup) (logs : Logs) (me : ℕ) (own : List LogItem) (among : Right → Bool) (t : Table) (r : Right) (span : Span) → IsTable setup logs me own among t → among r ≡ true
    → held_in setup t r span ≡ held_right setup logs me own r span
table_tells setup logs me own among t (right.Low cell) span is one = ap (λ n. held.Count n) (is.counts (right.Low cell) one)
table_tells setup logs me own among t (right.High cell) span is one = ap (λ n. held.Count n) (is.counts (right.High cell) one)
table_tells setup logs me own among t (right.Lock l key) span is one = let r : Right = right.Lock l key in with_mode _ _ _ _ (is.counts r one) (is.modes r one refl)
table_tells setup logs me own among t (right.Entry c args i) span is one = let r : Right = right.Entry c args i in with_mode _ _ _ _ (is.counts r one) (is.modes r one refl)
table_tells setup logs me own among t (right.Part p key) span is one =
    let r : Right = right.Part p key in
    points_told (has_point setup t r) (holds_point setup logs me own r) span (λ x. ap (nat_lt 0) (is.points r one x))
