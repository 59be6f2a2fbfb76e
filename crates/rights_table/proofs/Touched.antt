-- An overlay stays one where a right is touched, and where a touched right moves.
use Rattle.std.proofs.Common.{◌≡◌, inl, inr, ℕ, ◌+◌, ◌≤◌, Bool, true, false, not, List, refl, sym, ap, subst, ◌∙◌}
use Rattle.std.specs.Prelude.{Option, Some, None, is_some, sum_by}
use Rattle.std.proofs.lemmas.Bool.{cases_Bool}
use Rattle.spec_model.specs.declared.plan.Setup.{Setup}
use Rattle.spec_model.specs.declared.right.Right.{Right}
use Rattle.spec_model.specs.declared.log.LogItem.{LogItem}
use Rattle.run_model.specs.Logs.{Logs}
use Rattle.run_model.specs.Rights.{same_right, is_shared, even_share, first_total, body_gains, body_loses, held_count, accept_brings}
use Rattle.run_model.specs.Points.{first_point, out_point, point_count}
use Rattle.run_model.specs.Holding.{mode_of as mode_held}
use Rattle.rights_table.specs.declared.holding.Holding.{Holding}
use Rattle.rights_table.specs.declared.overlay.Overlay.{Overlay}
use Rattle.rights_table.specs.declared.table.Table.{Table}
use Rattle.rights_table.specs.Overlays.{IsOverlay}
use Rattle.rights_table.specs.Tables.{entered, count_in, mode_in, point_in, IsEntered, IsTable, KeepsEntries, TakesOver}
use Rattle.rights_table.specs.Whole.{AreFew, HasAll}
use Rattle.rights_table.specs.Same.{same_is}
use Rattle.rights_table.proofs.Telling.{count_entered, mode_entered, point_entered}

pub clash : (b : Bool) → b ≡ true → b ≡ false → ⊥
clash b p q = absurd cc

-- fewer rights
pub among_fewer : (setup : Setup) (logs : Logs) (me : ℕ) (own : List LogItem) (among fewer : Right → Bool) (t : Table) → ((q : Right) → fewer q ≡ true → among q ≡ true) → IsTable setup logs me own among t → IsTable setup logs me own fewer t
among_fewer setup logs me own among fewer t less is = record {
  of = is.of;
  counts = λ q one. is.counts q (less q one);
  modes = λ q one shared. is.modes q (less q one) shared;
  covered = λ q one. is.covered q (less q one);
  points = λ q one x. is.points q (less q one) x;
  points_covered = λ q one x. is.points_covered q (less q one) x;
}

-- ---- touching

-- at first all is told by the table
pub none_touched : (setup : Setup) (logs : Logs) (me : ℕ) (own : List LogItem) (o : Overlay) → o.touched.me ≡ o.under.now.me → o.touched.replicas ≡ o.under.now.replicas → ((q : Right) → entered o.touched q ≡ None) → HasAll setup logs me own o.under.now → IsOverlay setup logs me own o
none_touched setup logs me own o same replicas none all =
    let never : (q : Right) → is_some (entered o.touched q) ≡ true → ⊥ = λ q one. clash (is_some (entered o.touched q)) one (ap (λ (h : Option Holding). is_some h) (none q)) in
    record {
      touched = record {
        of = record { me = same ∙ all.table.of.me; replicas = replicas ∙ all.table.of.replicas };
        counts = λ q one. absurd (never q one);
        modes = λ q one shared. absurd (never q one);
        covered = λ q one. absurd (never q one);
        points = λ q one x. absurd (never q one);
        points_covered = λ q one x. absurd (never q one);
      };
      rest = among_fewer setup logs me own (λ q. true) (λ q. not (is_some (entered o.touched q))) o.under.now (λ q one. refl) all.table;
      few = all.few;
    }

-- what is entered stays so
some_kept : (old new : Table) (q : Right) → ((h : Holding) → entered old q ≡ Some h → entered new q ≡ Some h) → is_some (entered old q) ≡ true → is_some (entered new q) ≡ true
some_kept old new q kept one = by (entered old q) refl one
  where
    by : (o : Option Holding) → entered old q ≡ o → is_some o ≡ true → is_some (entered new q) ≡ true
    by (Some h) is one = ap (λ (n : Option Holding). is_some n) (kept h is)
    by None is one = absurd cc

-- what isn't entered wasn't
none_kept : (a b : Bool) → (a ≡ true → b ≡ true) → not b ≡ true → not a ≡ true
none_kept true b h none = absurd (clash b (h refl) (not_true b none))
  where
    not_true : (b : Bool) → not b ≡ true → b ≡ false
    not_true true none = absurd cc
    not_true false none = refl
none_kept false b h none = refl

-- a right more is told by the one table as the other told it
pub touched_more : (setup : Setup) (logs : Logs) (me : ℕ) (own : List LogItem) (o p : Overlay) → p.under.now ≡ o.under.now → TakesOver setup o.under.now o.touched p.touched → IsOverlay setup logs me own o → IsOverlay setup logs me own p
touched_more setup logs me own o p same over is = record {
  touched = record {
    of = record { me = over.me ∙ is.touched.of.me; replicas = over.replicas ∙ is.touched.of.replicas };
    counts = λ q one. count (entered o.touched q) (entered p.touched q) q refl refl one;
    modes = λ q one shared. mode (entered o.touched q) (entered p.touched q) q refl refl one shared;
    covered = λ q one. covers (entered o.touched q) q refl;
    points = λ q one x. point (entered o.touched q) (entered p.touched q) q x refl refl one;
    points_covered = λ q one x. covers_points (entered o.touched q) q x refl;
  };
  rest = among_fewer setup logs me own (λ q. not (is_some (entered o.touched q))) (λ q. not (is_some (entered p.touched q))) p.under.now
      (λ q. none_kept (is_some (entered o.touched q)) (is_some (entered p.touched q)) (some_kept o.touched p.touched q (over.kept q)))
      (subst (IsTable setup logs me own (λ q. not (is_some (entered o.touched q)))) (sym same) is.rest);
  few = is.few;
}
  where
    was : (q : Right) (h : Holding) → entered o.touched q ≡ Some h → is_some (entered o.touched q) ≡ true
    was q h at = ap (λ (n : Option Holding). is_some n) at

    was_none : (q : Right) → entered o.touched q ≡ None → not (is_some (entered o.touched q)) ≡ true
    was_none q at = ap (λ (n : Option Holding). not (is_some n)) at

    count : (old new : Option Holding) (q : Right) → entered o.touched q ≡ old → entered p.touched q ≡ new → is_some new ≡ true → count_in setup p.touched q ≡ held_count setup logs me own q
    count (Some h) new q before now one = count_entered setup p.touched q h (over.kept q h before) ∙ sym (count_entered setup o.touched q h before) ∙ is.touched.counts q (was q h before)
    count None (Some h) q before now one = count_entered setup p.touched q h now ∙ (over.more q h before now).0 ∙ is.rest.counts q (was_none q before)
    count None None q before now one = absurd cc

    mode : (old new : Option Holding) (q : Right) → entered o.touched q ≡ old → entered p.touched q ≡ new → is_some new ≡ true → is_shared q ≡ true → mode_in p.touched q ≡ mode_held setup logs me own q
    mode (Some h) new q before now one shared = mode_entered p.touched q h (over.kept q h before) ∙ sym (mode_entered o.touched q h before) ∙ is.touched.modes q (was q h before) shared
    mode None (Some h) q before now one shared = mode_entered p.touched q h now ∙ (over.more q h before now).1 ∙ is.rest.modes q (was_none q before) shared
    mode None None q before now one shared = absurd cc

    point : (old new : Option Holding) (q : Right) (x : ℕ) → entered o.touched q ≡ old → entered p.touched q ≡ new → is_some new ≡ true → point_in setup p.touched q x ≡ point_count setup logs me own q x
    point (Some h) new q x before now one = point_entered setup p.touched q h x (over.kept q h before) ∙ sym (point_entered setup o.touched q h x before) ∙ is.touched.points q (was q h before) x
    point None (Some h) q x before now one = point_entered setup p.touched q h x now ∙ (over.more q h before now).2 x ∙ is.rest.points q (was_none q before) x
    point None None q x before now one = absurd cc

    covers_points : (old : Option Holding) (q : Right) (x : ℕ) → entered o.touched q ≡ old
        → sum_by (λ item. out_point q x item.body) own ≤ first_point setup me q x + sum_by (λ item. accept_brings logs (out_point q x) item.body) own
    covers_points (Some h) q x before = is.touched.points_covered q (was q h before) x
    covers_points None q x before = is.rest.points_covered q (was_none q before) x

    covers : (old : Option Holding) (q : Right) → entered o.touched q ≡ old
        → sum_by (λ item. body_loses setup.spec q item.body) own ≤ even_share (first_total setup q) setup.replicas me + sum_by (λ item. body_gains setup.spec logs q item.body) own
    covers (Some h) q before = is.touched.covered q (was q h before)
    covers None q before = is.rest.covered q (was_none q before)

-- ---- a touched right moves

-- one that isn't touched is another
pub touched_other : (t : Table) (r q : Right) → IsEntered t r → not (is_some (entered t q)) ≡ true → same_right r q ≡ false
touched_other t r q has none =
    elim (cases_Bool (same_right r q)) [
      | inl same ↦ let one : is_some (entered t q) ≡ true = ap (λ (k : Right). is_some (entered t k)) (sym (same_is r q same)) ∙ ap (λ (n : Option Holding). is_some n) has.1 in absurd (clash (not (is_some (entered t q))) none (ap not one))
      | inr other ↦ other
    ]

-- what is entered is told of
pub entered_some : (t : Table) (r : Right) → IsEntered t r → is_some (entered t r) ≡ true
entered_some t r has = ap (λ (n : Option Holding). is_some n) has.1

-- the same rights stay touched
pub overlay_moved : (setup : Setup) (logs : Logs) (me : ℕ) (own : List LogItem) (o p : Overlay) → p.under.now ≡ o.under.now → KeepsEntries o.touched p.touched → KeepsEntries p.touched o.touched
    → IsTable setup logs me own (λ r. is_some (entered o.touched r)) p.touched → IsTable setup logs me own (λ r. not (is_some (entered o.touched r))) o.under.now → AreFew setup logs me own → IsOverlay setup logs me own p
overlay_moved setup logs me own o p same kept no_more touched rest few = record {
  touched = among_fewer setup logs me own (λ q. is_some (entered o.touched q)) (λ q. is_some (entered p.touched q)) p.touched (λ q. still p.touched o.touched q (no_more q)) touched;
  rest = among_fewer setup logs me own (λ q. not (is_some (entered o.touched q))) (λ q. not (is_some (entered p.touched q))) p.under.now
      (λ q. none_kept (is_some (entered o.touched q)) (is_some (entered p.touched q)) (still o.touched p.touched q (kept q)))
      (subst (IsTable setup logs me own (λ q. not (is_some (entered o.touched q)))) (sym same) rest);
  few = few;
}
  where
    still : (old new : Table) (q : Right) → (IsEntered old q → IsEntered new q) → is_some (entered old q) ≡ true → is_some (entered new q) ≡ true
    still old new q kept one = by (entered old q) refl one
      where
        by : (o : Option Holding) → entered old q ≡ o → is_some o ≡ true → is_some (entered new q) ≡ true
        by (Some h) is one = entered_some new q (kept (h, is))
        by None is one = absurd cc
