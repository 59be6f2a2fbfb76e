-- A store once it applied one more item, and what a store knows of one atom and one cell.
use mathlib.Core.Bool.{beq}
use Rattle.std.proofs.Common.{◌≡◌, ℕ, zero, suc, ◌+◌, ◌<◌, ◌≤◌, Bool, not, ◌&&◌, ◌||◌, List, [], ◌∷◌, ◌++◌, length, map, get_or, replicate, refl, sym, ap, subst, ◌∙◌, arith, length-set, Some}
use Rattle.std.specs.Prelude.{slice_get, slice_set}
use Rattle.std.specs.List.{AllByRecursion}
use Rattle.std.proofs.lemmas.List.{length_push, map-set}
use Rattle.spec_model.specs.declared.spec.Spec.{Spec}
use Rattle.spec_model.specs.declared.instance.Atom.{Atom}
use Rattle.spec_model.specs.declared.instance.Cell.{Cell}
use Rattle.spec_model.specs.declared.log.LogItem.{LogItem}
use Rattle.spec_model.specs.Truths.{pred_at, wins}
use Rattle.spec_model.specs.Universe.{atoms, cells}
use Rattle.effect_model.specs.Visits.{done_all}
use Rattle.run_model.specs.Logs.{Logs, log_at}
use Rattle.run_model.specs.Fitting.{IsPlaced}
use Rattle.run_model.specs.States.{body_lowers, body_raises, lowered_by, prevails, raised_by}
use Rattle.run_model.proofs.Lists.{each_append}
use Rattle.causal_store.specs.Folds.{all_items}
use Rattle.causal_store.specs.Keeping.{AreSums, AreTags, KeepsSums, KeepsTags, item_sets, no_sums, some_above, sum_by_item, tag_by}
use Rattle.causal_store.specs.Stores.{IsShort, IsStore, cut_in, logs_in}
use Rattle.causal_store.specs.declared.store.Store.{Store}
use Rattle.causal_store.specs.declared.sums.Sums.{Sums}
use Rattle.causal_store.specs.declared.tags.Tags.{Tags}
use Rattle.causal_store.proofs.Kept.{got_at}
use Rattle.causal_store.proofs.Stored.{each_log, each_set}
use Rattle.causal_store.proofs.Summed.{counted_whole, lowered_small, raised_small, sums_keep}
use Rattle.causal_store.proofs.Prevailing.{live_prevails}
use Rattle.causal_store.proofs.Tagged.{keeps_more}

-- one more item of one log
pub one_more : (spec : Spec) (n : ℕ) (s new : Store) (x : LogItem) → IsStore spec n s → IsPlaced n x → x.index ≡ length (log_at (logs_in s) x.origin) → logs_in new ≡ slice_set (logs_in s) x.origin (log_at (logs_in s) x.origin ++ x ∷ []) → cut_in new ≡ slice_set (cut_in s) x.origin (x.index + 1)
    → new.tags ≡ done_all (tag_by spec x (item_sets spec x)) (atoms spec) s.tags → new.sums ≡ done_all (sum_by_item spec (λ cell. body_raises spec cell x.body) (λ cell. body_lowers spec cell x.body)) (cells spec) s.sums
    → IsStore spec n new
one_more spec n s new x own fits next logs cut tags sums =
    let log : List LogItem = log_at (logs_in s) x.origin in
    let counted : x.index + 1 ≡ length (log ++ x ∷ []) = omega (arith, next, length_push log x) in
    let lt : x.origin < length (logs_in s) = omega (arith, fits.origin, own.whole) in
    record {
      whole = ap length logs ∙ length-set (logs_in s) x.origin (log ++ x ∷ []) ∙ own.whole;
      few = own.few;
      counts = cut ∙ ap (λ (c : List ℕ). slice_set c x.origin (x.index + 1)) own.counts ∙ ap (slice_set (map (λ (l : List LogItem). length l) (logs_in s)) x.origin) counted
          ∙ sym (ap (map (λ (l : List LogItem). length l)) logs ∙ map-set (λ (l : List LogItem). length l) (logs_in s) x.origin (log ++ x ∷ []));
      fits = subst (AllByRecursion (AllByRecursion (IsPlaced n))) (sym logs)
          (each_set (AllByRecursion (IsPlaced n)) (logs_in s) x.origin (log ++ x ∷ []) own.fits (each_append (IsPlaced n) log (x ∷ []) (each_log (IsPlaced n) (logs_in s) x.origin own.fits) (fits, tt)));
      formed = own.formed;
      tags = subst (λ (l : List LogItem). KeepsTags spec n l new.tags) (ap all_items (sym logs)) (keeps_more spec n (logs_in s) x s.tags new.tags lt own.whole fits.past tags own.tags);
      sums = subst (λ (l : List LogItem). KeepsSums spec l new.sums) (ap all_items (sym logs)) (sums_keep spec (logs_in s) x s.sums new.sums lt sums own.sums);
    }

-- the items of all logs are of its replicas
origins_of : (spec : Spec) (n : ℕ) (logs : Logs) → AllByRecursion (AllByRecursion (IsPlaced n)) logs → AllByRecursion (λ (y : LogItem). y.origin < n) (all_items logs)
origins_of spec n [] all = tt
origins_of spec n (log ∷ logs) all = each_append (λ (y : LogItem). y.origin < n) log (all_items logs) (each log all.0) (origins_of spec n logs all.1)
  where
    each : (log : List LogItem) → AllByRecursion (IsPlaced n) log → AllByRecursion (λ (y : LogItem). y.origin < n) log
    each [] a = tt
    each (y ∷ log) a = (a.0.origin, each log a.1)

-- whether the winning value prevails, by the tags of the atom
pub prevails_is : (spec : Spec) (n : ℕ) (s : Store) (atom : Atom) (place : ℕ) (t : Tags) (w first live : Bool) → IsStore spec n s → slice_get (atoms spec) place ≡ Some atom → slice_get s.tags place ≡ Some t → w ≡ wins spec atom.pred
    → first ≡ (beq (pred_at spec atom.pred).first w && not t.followed) → live ≡ some_above t.last t.past → (first || live) ≡ prevails spec atom.pred atom.args w (all_items (logs_in s))
prevails_is spec n s atom place t w first live own at there winning first_is live_is =
    let a : AreTags spec n atom (all_items (logs_in s)) t = own.tags.each place atom t at there in
    let main = live_prevails spec n atom (all_items (logs_in s)) t (origins_of spec n (logs_in s) own.fits) a in
    ap (λ b. b || live) first_is ∙ ap (λ b. (beq (pred_at spec atom.pred).first w && not t.followed) || b) live_is
    ∙ ap (λ v. (beq (pred_at spec atom.pred).first v && not t.followed) || some_above t.last t.past) winning ∙ main ∙ ap (λ v. prevails spec atom.pred atom.args v (all_items (logs_in s))) (sym winning)

-- the tags of an atom are as long as there are replicas
pub tags_long : (spec : Spec) (n : ℕ) (s : Store) (atom : Atom) (place : ℕ) (t : Tags) → IsStore spec n s → slice_get (atoms spec) place ≡ Some atom → slice_get s.tags place ≡ Some t → length t.last ≤ length t.past
tags_long spec n s atom place t own at there = let a = own.tags.each place atom t at there in omega (arith, a.last_long, a.past_long)

-- the sums of a cell are those of all items, where the logs are short
pub record AreWhole (spec : Spec) (s : Store) (cell : Cell) (kept : Sums) : Type 0 where
  pub raised : kept.raised ≡ raised_by spec cell (all_items (logs_in s))
  pub lowered : kept.lowered ≡ lowered_by spec cell (all_items (logs_in s))
  pub raised_small : kept.raised ≤ 1073741824000000000
  pub lowered_small : kept.lowered ≤ 1073741824000000000

pub sums_whole : (spec : Spec) (n : ℕ) (s : Store) (cell : Cell) (place : ℕ) (kept : Sums) → IsStore spec n s → IsShort s → slice_get (cells spec) place ≡ Some cell → slice_get s.sums place ≡ Some kept → AreWhole spec s cell kept
sums_whole spec n s cell place kept own short at there =
    let a : AreSums spec cell (all_items (logs_in s)) kept = own.sums.each place cell kept at there in
    let few : length (logs_in s) ≤ 16 = omega (arith, own.whole, own.few) in
    let up = raised_small spec cell (logs_in s) own.formed few short in
    let down = lowered_small spec cell (logs_in s) own.formed few short in
    let ups = counted_whole kept.raised (raised_by spec cell (all_items (logs_in s))) a.raised up in
    let downs = counted_whole kept.lowered (lowered_by spec cell (all_items (logs_in s))) a.lowered down in
    record { raised = ups; lowered = downs; raised_small = omega (arith, ups, up); lowered_small = omega (arith, downs, down) }

-- no logs have no items
all_none : (n : ℕ) → all_items (replicate n []) ≡ []
all_none zero = refl
all_none (suc n) = all_none n

pub none_of : (n : ℕ) (logs : Logs) → logs ≡ replicate n [] → all_items logs ≡ []
none_of n logs is = ap all_items is ∙ all_none n

-- as they are read
pub read_whole : (spec : Spec) (n : ℕ) (s : Store) (cell : Cell) (place : ℕ) (kept : List Sums) → IsStore spec n s → IsShort s → slice_get (cells spec) place ≡ Some cell → place < length (cells spec) → kept ≡ s.sums → AreWhole spec s cell (get_or kept place no_sums)
read_whole spec n s cell place kept own short at within same =
    let lt : place < length s.sums = omega (arith, within, own.sums.whole) in
    sums_whole spec n s cell place (get_or kept place no_sums) own short at (got_at s.sums kept place (get_or kept place no_sums) no_sums lt same refl)

-- a store with more room
pub own_still : (spec : Spec) (n : ℕ) (s new : Store) → logs_in new ≡ logs_in s → cut_in new ≡ cut_in s → new.tags ≡ s.tags → new.sums ≡ s.sums → IsStore spec n s → IsStore spec n new
own_still spec n s new logs cut tags sums own = record {
  whole = ap length logs ∙ own.whole;
  few = own.few;
  counts = cut ∙ own.counts ∙ ap (map (λ (l : List LogItem). length l)) (sym logs);
  fits = subst (AllByRecursion (AllByRecursion (IsPlaced n))) (sym logs) own.fits;
  formed = own.formed;
  tags = subst (λ (l : List LogItem). KeepsTags spec n l new.tags) (ap all_items (sym logs)) (subst (KeepsTags spec n (all_items (logs_in s))) (sym tags) own.tags);
  sums = subst (λ (l : List LogItem). KeepsSums spec l new.sums) (ap all_items (sym logs)) (subst (KeepsSums spec (all_items (logs_in s))) (sym sums) own.sums);
}
