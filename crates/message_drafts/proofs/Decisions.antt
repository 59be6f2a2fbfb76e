-- What is decided is what is taken of what is heeded.
use Rattle.std.proofs.Common.{◌≡◌, inl, inr, ℕ, ◌+◌, ◌<◌, ◌≤◌, Bool, true, false, cond, List, [], ◌∷◌, ◌++◌, length, take, refl, sym, ap, subst, ◌∙◌, arith, length-append, length-take}
use Rattle.std.specs.Prelude.{slice_index, IsTrue, ◌==◌}
use Rattle.std.proofs.lemmas.List.Concat.{flat_map-cons}
use Rattle.std.specs.List.{AllByRecursion}
use Rattle.std.proofs.lemmas.List.{append-nil}
use Rattle.spec_model.specs.declared.plan.Setup.{Setup}
use Rattle.spec_model.specs.declared.right.Want.{Want}
use Rattle.spec_model.specs.declared.log.Body.{Body}
use Rattle.spec_model.specs.declared.log.Body.TheVariants as body
use Rattle.spec_model.specs.declared.log.LogItem.{LogItem}
use Rattle.run_model.specs.declared.message.Message.{Message}
use Rattle.run_model.specs.declared.step.Outcome.TheVariants as outcomes
use Rattle.run_model.specs.Fitting.{AreInRow, IsPlaced, ItemFits}
use Rattle.run_model.specs.Logs.{Logs, cut_after, log_at}
use Rattle.run_model.specs.Steps.{accept_of, accepts_of, answered, dropped, received}
use Rattle.run_model.specs.Wants.{still_wanted}
use Rattle.run_model.specs.Worlds.{Standing, holding, logged, logged_all}
use Rattle.run_model.proofs.Lists.{each_take, each_weaker}
use Rattle.run_model.proofs.Own.{cut_after_own}
use Rattle.rights_table.specs.declared.table.Table.{Table}
use Rattle.message_laws.specs.Heeded.{AreFitting, IsAddressed, silent, with_items}
use Rattle.message_laws.specs.Views.{View, own_items, standing_in}
use Rattle.message_drafts.specs.Drafts.{HasAccepted, HasAnswered, HasJoined, IsBatched, IsDecided, MayJoin}
use Rattle.message_drafts.specs.Fronts.{AreReadyOf}
use Rattle.message_drafts.specs.Taking.{IsTaken, Sees, TakesHeeded}
use Rattle.message_drafts.specs.declared.deciding.Decided.{Decided}
use Rattle.message_drafts.specs.declared.draft.Draft.{Draft}
use Rattle.message_drafts.specs.declared.taken.Taken.{Taken}
use Rattle.message_drafts.proofs.Drafting.{logged_length}
use Rattle.message_drafts.proofs.Heeding.{heeds_some, ready_fits, ready_row, row_taken}

-- ---- what is ready

-- the ready items are placed
pub ready_placed : (setup : Setup) (cut : List ℕ) (from n : ℕ) (items ready : List LogItem) → AreReadyOf setup cut from items ready → AllByRecursion (IsPlaced setup.replicas) (take n ready)
ready_placed setup cut from n items ready h = each_take (IsPlaced setup.replicas) n ready (each_weaker (ItemFits setup) (IsPlaced setup.replicas) (λ i fits. fits.placed) ready (ready_fits setup cut from items ready h))

-- they may be given to the replica
pub may_join : (setup : Setup) (v : View) (me from : ℕ) (cut : List ℕ) (t : Table) (items ready : List LogItem) (d : Draft) → Sees setup v me cut t → from < setup.replicas → AreReadyOf setup cut from items ready → HasAccepted setup v from [] d → MayJoin setup v me from ready d
may_join setup v me from cut t items ready d sees sender h none = record {
  me_is = sees.me_is;
  place = omega (arith, sender, sees.view.whole);
  row =
      let there : slice_index cut from ≡ length (log_at v.known from) = sym (ap (λ (c : List ℕ). slice_index c from) sees.cut_is) ∙ sees.view.counts from in
      subst (λ n. AreInRow from n ready) there (ready_row setup cut from items ready h);
  none = none;
}

-- what is applied of them changes no count of the own log
pub own_count : (setup : Setup) (v : View) (me from n : ℕ) (cut : List ℕ) (t : Table) (items ready : List LogItem) → Sees setup v me cut t → from < setup.replicas → (from ≡ me → ⊥) → AreReadyOf setup cut from items ready
    → (slice_index (cut_after cut (take n ready)) me ≡ length (own_items v)) × (length (cut_after cut (take n ready)) ≡ setup.replicas)
own_count setup v me from n cut t items ready sees sender other h =
    let long : length cut ≡ setup.replicas = sym (ap length sees.cut_is) ∙ sees.view.cut in
    let on = cut_after_own from cut (take n ready) (slice_index cut from) (row_taken from (slice_index cut from) n ready (ready_row setup cut from items ready h)) (omega (arith, sender, long)) refl in
    let mine : slice_index cut me ≡ length (own_items v) = sym (ap (λ (c : List ℕ). slice_index c me) sees.cut_is) ∙ ap (slice_index v.cut) (sym sees.me_is) ∙ sees.view.counts v.me in
    (on.others me (λ same. other (sym same)) ∙ mine, on.long ∙ long)

-- ---- the whole take

logged_wants : (me : ℕ) (bodies : List Body) (p : Standing) (w : List Want) → logged_all me bodies (record p { wants = w }) ≡ record (logged_all me bodies p) { wants = w }
logged_wants me [] p w = refl
logged_wants me (b ∷ bodies) p w = logged_wants me bodies (logged me b p) w

-- what was decided is what is taken of the message that is heeded
pub takes_heeded : (setup : Setup) (v : View) (me : ℕ) (cut : List ℕ) (t : Table) (message : Message) (ready : List LogItem) (d : Decided) (taken : Taken) → Sees setup v me cut t → IsAddressed setup me message → AreReadyOf setup cut message.from (take 16 message.items) ready
    → IsDecided setup v message ready d → IsBatched me (cut_after cut (take d.applied ready)) (take d.applied ready) d taken → TakesHeeded setup v message taken
takes_heeded setup v me cut t message ready d taken sees addressed h decided batch =
    let from : ℕ = message.from in
    let applied : List LogItem = take d.applied ready in
    let ready_of : AreReadyOf setup v.cut from (take 16 message.items) ready = subst (λ (c : List ℕ). AreReadyOf setup c from (take 16 message.items) ready) (sym sees.cut_is) h in
    let some = heeds_some setup v from d.applied (take 16 message.items) ready ready_of decided.can decided.stuck in
    let heeded : Message = record message { items = some.heeded; wants = decided.wants } in
    let old : Standing = standing_in v in
    let logs : Logs = with_items from applied v.known in
    let accepts : List Body = accepts_of v.me applied in
    let start : Standing = record old { cut = cut_after v.cut applied } in
    let all : Standing = received v.me heeded applied old in
    let wants : List Want = still_wanted setup.replicas (holding setup logs v.me all) all.wants in
    let before : Standing = dropped setup logs v.me all in
    let after : Standing = answered setup logs v.me from decided.wants before in
    let left : Standing = record start { wants = wants } in
    let then_before : logged_all v.me accepts left ≡ before = logged_wants v.me accepts start wants in
    let then_after : logged_all v.me d.bodies left ≡ after = decided.stands left refl ∙ ap (answered setup logs v.me from decided.wants) then_before in
    let count : slice_index (cut_after cut applied) me ≡ length (own_items v) = (own_count setup v me from d.applied cut t (take 16 message.items) ready sees addressed.sender addressed.other h).0 in
    let cut_is : left.cut ≡ cut_after cut applied = ap (λ (c : List ℕ). cut_after c applied) sees.cut_is in
    let longer : after.log ≡ own_items v ++ batch.own = sym (ap (λ (p : Standing). p.log) then_after) ∙ ap (λ i. (logged_all i d.bodies left).log) sees.me_is ∙ batch.logs left cut_is (sym count) in
    let mid : length before.log ≡ length (own_items v) + length accepts = ap (λ (p : Standing). length p.log) (sym then_before) ∙ logged_length v.me accepts left in
    let last : length after.log ≡ length (own_items v) + length d.bodies = ap (λ (p : Standing). length p.log) (sym then_after) ∙ logged_length v.me d.bodies left in
    record {
      heeded = heeded;
      heeds = inl (subst (λ i. IsAddressed setup i message) (sym sees.me_is) addressed, record { items = some.are; wants = decided.fitting; all_else = refl });
      takes = record {
        applied = applied;
        own = batch.own;
        after = after;
        takes = record {
          gave = taken.gave;
          before_answers = before;
          admitted = some.admitted;
          before_is = refl;
          becomes = refl;
          gave_is = omega (arith, mid, last, decided.accepted, batch.gave_is);
          outcome_is = ap (λ n. outcomes.Took message.number n taken.accepted taken.gave) batch.applied_is ∙ ap (λ n. outcomes.Took message.number (length applied) n taken.gave) (batch.accepted_is ∙ decided.accepted);
        };
        longer = longer;
        batch = batch.batch;
      };
    }

-- of one that isn't addressed nothing is
pub takes_nothing : (setup : Setup) (v : View) (message : Message) (taken : Taken) → taken.batch.items ≡ [] → taken.applied ≡ 0 → taken.accepted ≡ 0 → taken.gave ≡ 0 → IsTaken setup (silent setup.replicas message) v taken
takes_nothing setup v message taken none applied accepted gave = record {
  applied = [];
  own = [];
  after = standing_in v;
  takes = record {
    gave = 0;
    before_answers = standing_in v;
    admitted = record { rest = []; prefix = refl; ready = tt; longest = tt };
    before_is = refl;
    becomes = refl;
    gave_is = omega arith;
    outcome_is = ap (λ n. outcomes.Took message.number n taken.accepted taken.gave) applied ∙ ap (λ n. outcomes.Took message.number 0 n taken.gave) accepted ∙ ap (outcomes.Took message.number 0 0) gave;
  };
  longer = sym (append-nil (own_items v));
  batch = none;
}

pub takes_silent : (setup : Setup) (v : View) (me : ℕ) (cut : List ℕ) (t : Table) (message : Message) (taken : Taken) (test : Bool) → Sees setup v me cut t → (IsTrue test → IsAddressed setup me message) × (IsAddressed setup me message → IsTrue test) → test ≡ false
    → IsTaken setup (silent setup.replicas message) v taken → TakesHeeded setup v message taken
takes_silent setup v me cut t message taken test sees tests never takes = record {
  heeded = silent setup.replicas message;
  heeds = inr (λ addressed. let wrong : false ≡ true = sym never ∙ tests.1 (subst (λ i. IsAddressed setup i message) sees.me_is addressed) in absurd cc, refl);
  takes = takes;
}

-- ---- what is decided

-- at most one Accept for each item
accept_few : (me origin index : ℕ) (b : Body) → length (accept_of me origin index b) ≤ 1
accept_few me origin index (body.Act inst) = omega arith
accept_few me origin index (body.Out to r piece) = by_test (to == me)
  where
    by_test : (t : Bool) → length (cond t (body.Accept origin index ∷ []) []) ≤ 1
    by_test true = omega arith
    by_test false = omega arith
accept_few me origin index (body.Accept from at) = omega arith

accepts_few : (me : ℕ) (items : List LogItem) → length (accepts_of me items) ≤ length items
accepts_few me [] = omega arith
accepts_few me (x ∷ items) =
    let one = accept_few me x.origin x.index x.body in
    let rest = accepts_few me items in
    let long = ap length (flat_map-cons (λ (i : LogItem). accept_of me i.origin i.index i.body) x items) in
    omega (arith, one, rest, long, length-append (accept_of me x.origin x.index x.body) (accepts_of me items))

pub accepted_few : (setup : Setup) (v : View) (from n : ℕ) (ready : List LogItem) (d : Draft) → HasAccepted setup v from (take n ready) d → length d.bodies ≤ length ready
accepted_few setup v from n ready d h = let few = accepts_few v.me (take n ready) in omega (arith, ap length h.bodies, few, length-take n ready)

-- where so many can be accepted, and these wants were answered then, that is decided
pub is_decided : (setup : Setup) (v : View) (message : Message) (ready : List LogItem) (wants : List Want) (mid last : Draft) (d : Decided) → HasJoined setup v message.from ready d.applied mid → AreFitting setup (take 8 message.wants) wants
    → HasAnswered setup v message.from (take d.applied ready) message.from wants mid last → d.accepted ≡ length mid.bodies → d.bodies ≡ last.bodies → IsDecided setup v message ready d
is_decided setup v message ready wants mid last d joined fitting answered_all accepted bodies = record {
  can = joined.can;
  stuck = joined.stuck;
  wants = wants;
  fitting = fitting;
  accepted = accepted ∙ ap length joined.accepted.bodies;
  stands = λ p is.
      ap (λ (bs : List Body). logged_all v.me bs p) bodies ∙ answered_all.stands p is
      ∙ ap (λ (bs : List Body). answered setup (with_items message.from (take d.applied ready) v.known) v.me message.from wants (logged_all v.me bs p)) joined.accepted.bodies;
}

pub batched_as : (me : ℕ) (cut seen : List ℕ) (items applied : List LogItem) (d : Decided) (taken : Taken) → cut ≡ seen → items ≡ applied → IsBatched me cut items d taken → IsBatched me seen applied d taken
batched_as me cut seen items applied d taken cut_is items_are h = subst (λ (c : List ℕ). IsBatched me c applied d taken) cut_is (subst (λ (l : List LogItem). IsBatched me cut l d taken) items_are h)
