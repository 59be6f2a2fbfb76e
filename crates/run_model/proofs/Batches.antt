-- The batches that a replica kept tell how it stands, in each world of a run.
use Rattle.std.proofs.Common.{◌≡◌, inl, inr, ℕ, ◌<◌, List, [], ◌∷◌, ◌++◌, length, set, drop, take, replicate, refl, sym, ap, subst, ◌∙◌, arith}
use Rattle.std.specs.Prelude.{slice_get, slice_index, slice_set, Bool, Some, ◌==◌}
use Rattle.std.proofs.lemmas.Option.{same_Some, slice_get_within}
use Rattle.std.proofs.lemmas.List.{append-nil, drop_at, take_all}
use Rattle.std.proofs.lemmas.List.Elements.{filter-append}
use Rattle.std.proofs.lemmas.Grind.{flat_map-append}
use Rattle.std.proofs.lemmas.Bool.{cases_eq}
use Rattle.spec_model.specs.declared.plan.Setup.{Setup}
use Rattle.spec_model.specs.declared.log.LogItem.{LogItem}
use Rattle.run_model.specs.declared.batch.Batch.{Batch}
use Rattle.run_model.specs.declared.step.StepEntry.{StepEntry}
use Rattle.run_model.specs.Logs.{Logs, log_at, with_all, cut_after}
use Rattle.run_model.specs.Fitting.{AreInRow}
use Rattle.run_model.specs.Worlds.{World, Standing, logs_of, no_cut, own_of, batch_of, items_between, first_world}
use Rattle.run_model.specs.Runs.{WorldSteps, Runs}
use Rattle.run_model.specs.Locals.{Knows}
use Rattle.run_model.specs.Batches.{items_of, AreTold, BatchesTell}
use Rattle.run_model.proofs.Lists.{get_set_same, get_set_other}
use Rattle.run_model.proofs.WorldLogs.{logs_there}
use Rattle.run_model.proofs.Own.{own_behind}
use Rattle.run_model.proofs.Batched.{CanGrow, can_grow, cut_twice}
use Rattle.run_model.proofs.Changed.{IsKept}
use Rattle.run_model.proofs.Beginning.{kept_first, first_of}
use Rattle.run_model.proofs.Known.{with_row, learns_taken, learns_long, knows_here, knows_there}
use Rattle.run_model.proofs.Stepped.{step_took, step_later, step_stepped, step_kept}
use Rattle.run_model.proofs.Joined.{knows_nothing, no_logs_long}

-- ---- the items of a step

-- how a replica stands after these items, by how it stood before them
record AreAdded (me : ℕ) (items : List LogItem) (before : Standing) (known : Logs) (world : World) (after : Standing) : Type 0 where
  log : after.log ≡ before.log ++ own_of me items
  cut : after.cut ≡ cut_after before.cut items
  knows : Knows (logs_of world) after.cut (with_all items known)

-- items one after the other
with_twice : (xs ys : List LogItem) (known : Logs) → with_all (xs ++ ys) known ≡ with_all ys (with_all xs known)
with_twice [] ys known = refl
with_twice (x ∷ xs) ys known = with_twice xs ys (set known x.origin (log_at known x.origin ++ x ∷ []))

-- what a step brings in is added
step_adds : (setup : Setup) (w : World) (e : StepEntry) (new : World) (known : Logs) → IsKept setup.replicas w → (s : WorldSteps setup w e new) → length known ≡ length s.before.cut → Knows (logs_of w) s.before.cut known
    → AreAdded e.replica (items_between s.applied s.before s.after) s.before known new s.after
step_adds setup w e new known kept s long knows =
    let n = setup.replicas in
    let me = e.replica in
    let p : Standing = s.before in
    let q : Standing = s.after in
    let items : List LogItem = items_between s.applied p q in
    let well = kept.each me p s.was in
    let took = (step_took setup n w e new kept s).took in
    let later = (step_later setup n w e new kept s).0 in
    let grown = (step_stepped setup n w e new kept s).grown in
    let can : CanGrow (logs_of w) me p.log p.cut items = record { items = s.applied; taken = took; draft = q; grown = grown; is = refl } in
    let is = can_grow (logs_of w) me p.log p.cut items well.stands well.within can in
    let learned : Logs = with_all s.applied known in
    let now = learns_taken (logs_of w) me p.cut s.applied known took long knows in
    let lt : me < length learned = omega (arith, learns_long s.applied known, long, well.stands.place) in
    let rest : drop (length p.log) q.log ≡ grown.more = ap (drop (length p.log)) grown.is ∙ drop_at p.log grown.more (length p.log) refl in
    let row : AreInRow me (length p.log) grown.more = own_behind me 0 p.log grown.more (length p.log) (omega arith) (subst (λ (l : List LogItem). AreInRow me 0 l) grown.is grown.stands.own) in
    let own : log_at learned me ≡ p.log =
    now me ∙ ap (λ k. take k (log_at (logs_of w) me)) later.mine ∙ ap (take (slice_index p.cut me)) (logs_there w me p s.was) ∙ take_all (slice_index p.cut me) p.log (omega (arith, well.stands.whole)) in
    let all : with_all items known ≡ set learned me q.log =
    with_twice s.applied (drop (length p.log) q.log) known ∙ ap (λ (l : List LogItem). with_all l learned) rest ∙ with_row me (length p.log) grown.more learned row lt
    ∙ ap (λ (l : List LogItem). set learned me (l ++ grown.more)) own ∙ ap (set learned me) (sym grown.is) in
    let there : Knows (logs_of (slice_set w me q)) q.cut (with_all items known) =
    knows_here w me p.log (cut_after p.cut s.applied) learned (with_all items known) q (slice_get_within w me p s.was) lt now grown all in
    record { log = sym is.log_is; cut = sym is.cut_is; knows = subst (λ (v : World). Knows (logs_of v) q.cut (with_all items known)) (sym s.becomes) there }

-- ---- what is kept

-- the items of the batch of some items
items_of_batch : (items : List LogItem) → items_of (batch_of items) ≡ items
items_of_batch [] = refl
items_of_batch (x ∷ xs) = append-nil (x ∷ xs)

-- those that a replica kept, once it has stepped
step_keeps : (setup : Setup) (w : World) (e : StepEntry) (new : World) → (s : WorldSteps setup w e new) → items_of s.after.kept ≡ items_of s.before.kept ++ items_between s.applied s.before s.after
step_keeps setup w e new s =
    let old : List LogItem = items_of s.before.kept in
    let between : List LogItem = items_between s.applied s.before s.steps.after in
    ap (λ (p : Standing). items_of p.kept) s.steps.becomes ∙ flat_map-append (λ (b : Batch). b.items) s.before.kept (batch_of between) ∙ ap (λ (l : List LogItem). old ++ l) (items_of_batch between)
    ∙ ap (λ (l : List LogItem). old ++ (s.applied ++ drop (length s.before.log) l)) (sym (ap (λ (p : Standing). p.log) s.steps.becomes))

-- of each replica what it kept tells how it stands
abbrev AllTold : Setup → World → Type 0
AllTold setup w = (me : ℕ) (p : Standing) → slice_get w me ≡ Some p → AreTold setup w me p

-- of the one that steps
own_told : (setup : Setup) (w : World) (e : StepEntry) (new : World) → IsKept setup.replicas w → (s : WorldSteps setup w e new) → AreTold setup w e.replica s.before → AreTold setup new e.replica s.after
own_told setup w e new kept s told =
    let n = setup.replicas in
    let me = e.replica in
    let first : Logs = replicate n [] in
    let old : List LogItem = items_of s.before.kept in
    let more : List LogItem = items_between s.applied s.before s.after in
    let known : Logs = with_all old first in
    let added = step_adds setup w e new known kept s (learns_long old first ∙ no_logs_long n first refl ∙ sym (kept.each me s.before s.was).wide) told.knows in
    let all : old ++ more ≡ items_of s.after.kept = sym (step_keeps setup w e new s) in
    record {
      log = added.log ∙ ap (λ (l : List LogItem). l ++ own_of me more) told.log ∙ sym (filter-append (λ (i : LogItem). i.origin == me) old more) ∙ ap (own_of me) all;
      cut = added.cut ∙ ap (λ (c : List ℕ). cut_after c more) told.cut ∙ sym (cut_twice (no_cut n) old more) ∙ ap (cut_after (no_cut n)) all;
      knows = subst (Knows (logs_of new) s.after.cut) (sym (with_twice old more first) ∙ ap (λ (items : List LogItem). with_all items first) all) added.knows;
    }

-- of another
other_told : (setup : Setup) (w : World) (e : StepEntry) (new : World) (me : ℕ) (p : Standing) → IsKept setup.replicas w → WorldSteps setup w e new → slice_get w me ≡ Some p → AreTold setup w me p → AreTold setup new me p
other_told setup w e new me p kept s was told =
    let grown = (step_stepped setup setup.replicas w e new kept s).grown in
    let known : Logs = with_all (items_of p.kept) (replicate setup.replicas []) in
    record {
      log = told.log;
      cut = told.cut;
      knows = subst (λ (v : World). Knows (logs_of v) p.cut known) (sym s.becomes) (knows_there w e.replica s.before s.after grown.more p.cut known s.was grown.is ((kept.each me p was).within e.replica) told.knows);
    }

-- a step keeps it
step_tells : (setup : Setup) (w : World) (e : StepEntry) (new : World) → IsKept setup.replicas w → AllTold setup w → WorldSteps setup w e new → AllTold setup new
step_tells setup w e new kept told s i p is =
    let me = e.replica in
    let there : slice_get (slice_set w me s.after) i ≡ Some p = ap (λ (v : World). slice_get v i) (sym s.becomes) ∙ is in
    elim (cases_eq i me) [
      | inl mine ↦
          let it : s.after ≡ p = same_Some s.after p (sym (get_set_same w me s.after (slice_get_within w me s.before s.was)) ∙ ap (slice_get (slice_set w me s.after)) (sym mine) ∙ there) in
          subst (λ (k : ℕ). AreTold setup new k p) (sym mine) (subst (AreTold setup new me) it (own_told setup w e new kept s (told me s.before s.was)))
      | inr other ↦
          let was : slice_get w i ≡ Some p = get_set_other w me i s.after p other there in
          other_told setup w e new i p kept s was (told i p was)
    ]

-- a run keeps it
run_tells : (setup : Setup) (w : World) (es : List StepEntry) (new : World) → IsKept setup.replicas w → AllTold setup w → Runs setup w es new → AllTold setup new
run_tells setup w [] new kept told runs = subst (AllTold setup) (sym runs) told
run_tells setup w (e ∷ es) new kept told runs =
    run_tells setup runs.0 es new (step_kept setup setup.replicas w e runs.0 kept runs.1) (step_tells setup w e runs.0 kept told runs.1) runs.2

-- at first nothing is kept, and nothing was seen
first_told : (setup : Setup) (ups : List Bool) → AllTold setup (first_world setup.replicas ups)
first_told setup ups me p is =
    let n = setup.replicas in
    subst (AreTold setup (first_world n ups) me) (first_of n ups me p is).1 (record { log = refl; cut = refl; knows = knows_nothing n (logs_of (first_world n ups)) })

-- so in the world of every run
pub batches_tell : BatchesTell
batches_tell setup ups entries world me p all runs is =
    let n = setup.replicas in
    run_tells setup (first_world n ups) entries world (kept_first n ups all) (first_told setup ups) runs me p is
