-- Room for an act for which room was made before.
use Rattle.std.proofs.Common.{◌≡◌, ℕ, zero, suc, Bool, true, false, List, [], ◌∷◌, ◌++◌, refl, sym, ap, subst, ◌∙◌, arith}
use Rattle.std.specs.Prelude.{Contains, None, Some, ◌==◌}
use Rattle.std.specs.List.{AllByRecursion}
use Rattle.std.proofs.lemmas.Bool.{cond-true, cond-false, eqb-true}
use Rattle.std.proofs.lemmas.Option.{same_Some}
use Rattle.spec_model.specs.declared.plan.Setup.{Setup}
use Rattle.spec_model.specs.declared.instance.Inst.{Inst}
use Rattle.spec_model.specs.declared.right.Need.{Need}
use Rattle.spec_model.specs.declared.right.Piece.{Piece}
use Rattle.spec_model.specs.declared.right.Right.{Right}
use Rattle.spec_model.specs.declared.log.Body.{Body}
use Rattle.spec_model.specs.declared.log.Body.TheVariants as body
use Rattle.spec_model.specs.declared.log.LogItem.{LogItem}
use Rattle.spec_model.specs.Changes.{effect_lines}
use Rattle.spec_model.specs.Masks.{mask_needs}
use Rattle.spec_model.specs.Needs.{escrow_needs, key_needs, lock_need, needs, part_need}
use Rattle.spec_model.specs.Truths.{Truths}
use Rattle.run_model.specs.Fitting.{NeedFits}
use Rattle.run_model.specs.States.{truths_in}
use Rattle.causal_store.specs.Stores.{HasRoomFor, logs_in}
use Rattle.causal_store.specs.declared.store.Store.{Store}
use Rattle.rights_table.specs.Cells.{AreCellsEntered}
use Rattle.rights_table.specs.Whole.{AreNeedsEntered}
use Rattle.replica_core.specs.Decisions.{IsReadyFor}
use Rattle.replica_core.specs.Next.{HasPut, act_among, done_by}
use Rattle.replica_core.specs.Recovered.{IsReadied, IsReadiedBy}
use Rattle.replica_core.specs.Replicas.{HasLearned, IsReplica}
use Rattle.replica_core.specs.declared.replica.Replica.{Replica}

-- these are one item of replica me, which is this act
pub record IsOne (me : ℕ) (items : List LogItem) (inst : Inst) : Type 0 where
  pub item : LogItem
  pub is : items ≡ item ∷ []
  pub mine : item.origin ≡ me
  pub act : item.body ≡ body.Act inst

nowhere : (inst : Inst) → None ≡ Some inst → ⊥
nowhere inst e = absurd cc

act_of : (b : Body) (inst : Inst) → done_by b ≡ Some inst → b ≡ body.Act inst
act_of (body.Act i) inst e = ap body.Act (same_Some i inst e)
act_of (body.Out to r piece) inst e = absurd (nowhere inst e)
act_of (body.Accept from at) inst e = absurd (nowhere inst e)

one_act : (me : ℕ) (items : List LogItem) (inst : Inst) → act_among me items ≡ Some inst → IsOne me items inst
one_act me [] inst e = absurd (nowhere inst e)
one_act me (x ∷ y ∷ items) inst e = absurd (nowhere inst e)
one_act me (x ∷ []) inst e = by_test (x.origin == me) refl
  where
    by_test : (b : Bool) → (x.origin == me) ≡ b → IsOne me (x ∷ []) inst
    by_test true is = record { item = x; is = refl; mine = eqb-true x.origin me is; act = act_of x.body inst (sym (cond-true (x.origin == me) (done_by x.body) None is) ∙ e) }
    by_test false is = absurd (nowhere inst (sym (cond-false (x.origin == me) (done_by x.body) None is) ∙ e))

-- each of the items is that act
each_act : (me : ℕ) (items : List LogItem) (inst : Inst) → IsOne me items inst → (item : LogItem) → Contains items item → item.body ≡ body.Act inst
each_act me items inst one item there = ap (λ (i : LogItem). i.body) (of_one one.item item (subst (λ (l : List LogItem). Contains l item) one.is there)) ∙ one.act
  where
    of_one : (x y : LogItem) → Contains (x ∷ []) y → y ≡ x
    of_one x y (zero, lt, is) = sym is
    of_one x y (suc k, lt, is) = absurd (omega (arith, lt))

act_is : (a b : Inst) → body.Act a ≡ body.Act b → a ≡ b
act_is a b h = cc

-- without masks what an act needs is the same whatever the truths are
needs_same : (setup : Setup) (s t : Truths) (inst : Inst) → setup.plan.masks ≡ [] → needs setup s inst ≡ needs setup t inst
needs_same setup s t inst none =
    let nothing : (u : Truths) → mask_needs setup.spec setup.plan.masks inst u ≡ [] = λ u. ap (λ (m : List ℕ). mask_needs setup.spec m inst u) none in
    ap (λ (all : List Need). escrow_needs setup.spec inst ++ (key_needs (lock_need inst) inst 0 setup.plan.locks ++ (all ++ key_needs (part_need setup.spec inst) inst 0 setup.plan.parts))) (nothing s ∙ sym (nothing t))

-- once it was done, room was made for the same act
pub readied_by : (setup : Setup) (items : List LogItem) (mid new : Replica) → IsReplica setup mid.me mid → IsReadyFor setup mid items → HasPut mid new → new.me ≡ mid.me → IsReadiedBy setup items new
readied_by setup items mid new own ready put me = λ none inst alone.
    let one = one_act new.me items inst alone in
    let there : Contains items one.item = subst (λ (l : List LogItem). Contains l one.item) (sym one.is) (0, omega arith, refl) in
    let mine : one.item.origin ≡ mid.me = one.mine ∙ me in
    record {
      cells = λ q moves. put.kept q (ready.entries.acts one.item inst there (mine ∙ sym own.all.table.of.me) one.act q moves);
      needed = subst (λ (n : List Need). AreNeedsEntered n new.table) (sym put.needs) (λ need choice here among shared. put.kept choice.right (ready.entries.needed need choice here among shared));
      fits = subst (AllByRecursion (NeedFits setup)) (sym put.needs) ready.fits;
      needs = λ s. put.needs ∙ ready.needs one.item inst there mine one.act ∙ needs_same setup (truths_in setup.spec (logs_in mid.store) one.item.deps) s inst none;
    }

-- so the store alone wants room for it
pub ready_again : (setup : Setup) (r : Replica) (s : Store) (items : List LogItem) (inst : Inst) → act_among r.me items ≡ Some inst → IsReadied setup inst r → HasRoomFor s items → IsReadyFor setup (record r { store = s }) items
ready_again setup r s items inst alone readied room =
    let all = each_act r.me items inst (one_act r.me items inst alone) in
    let same : (item : LogItem) (other : Inst) → Contains items item → item.body ≡ body.Act other → inst ≡ other = λ item other there act. act_is inst other (sym (all item there) ∙ act) in
    record {
      room = room;
      entries = record {
        outs = λ item to right piece there gives. absurd (no_out inst to right piece (sym (all item there) ∙ gives));
        acts = λ item other there mine act. subst (λ (i : Inst). AreCellsEntered setup.spec i (effect_lines setup.spec i) r.table) (same item other there act) readied.cells;
        needed = readied.needed;
      };
      fits = readied.fits;
      needs = λ item other there mine act. subst (λ (i : Inst). r.needs ≡ needs setup (truths_in setup.spec (logs_in s) item.deps) i) (same item other there act) (readied.needs (truths_in setup.spec (logs_in s) item.deps));
    }
  where
    no_out : (i : Inst) (to : ℕ) (r : Right) (piece : Piece) → body.Act i ≡ body.Out to r piece → ⊥
    no_out i to r piece e = absurd cc

-- what was learned of others changes neither needs nor entries
pub learned_put : (setup : Setup) (items : List LogItem) (old learned : Replica) → HasLearned setup.spec items old learned → HasPut old learned
learned_put setup items old learned h = subst (λ (x : Replica). HasPut old x) (sym h.kept) (record { needs = refl; kept = λ q entered. entered })
