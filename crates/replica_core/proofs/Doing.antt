-- What a replica does with a message that it heeds, from the first to the last.
use Rattle.std.proofs.Common.{◌≡◌, ℕ, zero, suc, ◌+◌, ◌-◌, ◌<◌, List, [], ◌∷◌, ◌++◌, length, map, refl, sym, ap, subst, ◌∙◌, arith, length-append, length-set}
use Rattle.std.specs.Prelude.{slice_index, slice_index_or, slice_set}
use Rattle.std.specs.List.{AllByRecursion}
use Rattle.std.proofs.lemmas.List.{length-map, map-set}
use Rattle.spec_model.specs.declared.plan.Setup.{Setup}
use Rattle.spec_model.specs.declared.right.Held.{Held}
use Rattle.spec_model.specs.declared.right.Need.{Need}
use Rattle.spec_model.specs.declared.right.Want.{Want}
use Rattle.spec_model.specs.declared.log.Body.{Body}
use Rattle.spec_model.specs.declared.log.LogItem.{LogItem}
use Rattle.run_model.specs.declared.batch.Batch.{Batch}
use Rattle.run_model.specs.declared.message.Message.{Message}
use Rattle.run_model.specs.declared.step.Outcome.TheVariants as outcomes
use Rattle.run_model.specs.Logs.{Logs, cut_after, log_at, with_all}
use Rattle.run_model.specs.Worlds.{Standing, Sending, Up, holding, joined, logged_all}
use Rattle.run_model.specs.Steps.{Takes, accepts_of, dropped, received}
use Rattle.run_model.specs.Wants.{still_wanted}
use Rattle.run_model.proofs.Alike.{AllAlike, held_alike}
use Rattle.run_model.proofs.Known.{with_row}
use Rattle.run_model.specs.Holding.{held_of}
use Rattle.rights_table.specs.Whole.{HasEntryFor}
use Rattle.message_laws.proofs.Lists.{each_parts}
use Rattle.causal_store.specs.Stores.{cut_in}
use Rattle.causal_store.proofs.Stored.{each_set}
use Rattle.message_laws.specs.Heeded.{with_items}
use Rattle.message_laws.proofs.Logged.{answered_gives, gives_for}
use Rattle.message_laws.proofs.Wanted.{still_few, still_fit}
use Rattle.message_drafts.specs.declared.taken.Taken.{Taken}
use Rattle.replica_core.specs.Decisions.{IsReadyFor, Splits}
use Rattle.replica_core.specs.Next.{AreEntered, AreNext, AreOthers, HasPut, taken_by}
use Rattle.replica_core.specs.Replicas.{HasLearned, HasLoggedAll, HasTaken, IsReplica, KnowsOwn, holds_of, known_to, own_log, standing_of}
use Rattle.replica_core.specs.declared.replica.Replica.{Replica}
use Rattle.replica_core.proofs.Applied.{Admitted, are_others, cut_applied, part_of, start_of, told_of}
use Rattle.replica_core.proofs.Changes.{knows_both, longer_by, own_again}
use Rattle.replica_core.proofs.Committed.{before_of, gives_of, plans_of}
use Rattle.replica_core.proofs.Entered.{plans_entered}
use Rattle.replica_core.proofs.Items.{bodies_back, gives_stamped, items_for, logged_items, with_all_append, with_all_of}
use Rattle.replica_core.proofs.Logged.{learned_logs, own_stays}
use Rattle.replica_core.proofs.Needed.{heard_replica}
use Rattle.replica_core.proofs.Next.{entered_on, next_items, next_like, next_set, then_same}
use Rattle.replica_core.proofs.Passing.{goes_alike}

-- ---- the logs that are known

-- once it has logged its next items
pub logged_known : (setup : Setup) (needs : List Need) (items : List LogItem) (old new : Replica) → IsReplica setup old.me old → AreNext setup (known_to old) old.me needs (standing_of 0 [] [] old) items → HasLoggedAll setup (map (λ (i : LogItem). i.body) items) old new
    → known_to new ≡ with_all items (known_to old)
logged_known setup needs items old new own next logged =
    let me : ℕ = old.me in
    let known : Logs = known_to old in
    let bodies : List Body = map (λ (i : LogItem). i.body) items in
    let p : Standing = standing_of 0 [] [] old in
    let made : items_for me bodies p ≡ items = next_items setup known me needs p items next in
    let log : own_log new ≡ own_log old ++ items = ap (λ (q : Standing). q.log) (logged.stands 0 [] []) ∙ logged_items me bodies p ∙ ap (λ (l : List LogItem). own_log old ++ l) made in
    logged.knows ∙ ap (λ i. slice_set known i (own_log new)) logged.own.me_is ∙ ap (slice_set known me) log
    ∙ sym (with_all_of me items known (subst (AllByRecursion (λ (i : LogItem). i.origin ≡ me)) made (own_origin me bodies p)) (omega (arith, own.store.whole, own.view.within)))
  where
    own_origin : (me : ℕ) (bodies : List Body) (p : Standing) → AllByRecursion (λ i. i.origin ≡ me) (items_for me bodies p)
    own_origin me [] p = tt
    own_origin me (b ∷ bodies) p = (refl, own_origin me bodies (logged_all me (b ∷ []) p))

-- once it has applied those of another log
pub learned_known : (setup : Setup) (old new : Replica) (from : ℕ) (items : List LogItem) → IsReplica setup old.me old → AreOthers setup old from items → HasLearned setup.spec items old new → known_to new ≡ with_all items (known_to old)
learned_known setup old new from items own h learned =
    learned_logs setup old new from items own h learned ∙ sym (with_row from (length (log_at (known_to old) from)) items (known_to old) h.row (omega (arith, h.place, own.store.whole)))

-- ---- it hears

joined_whole : (xs ys : List ℕ) (n : ℕ) → length xs ≡ n → length ys ≡ n → length (joined xs ys) ≡ n
joined_whole [] ys n a b = a
joined_whole (x ∷ xs) [] n a b = absurd (omega (arith, a, b))
joined_whole (x ∷ xs) (y ∷ ys) n a b = let rest = joined_whole xs ys (n - 1) (omega (arith, a)) (omega (arith, b)) in omega (arith, rest, a)

pub told_at : (P : List ℕ → Type 0) (xs : List (List ℕ)) (i : ℕ) → i < length xs → AllByRecursion P xs → P (slice_index_or xs i [])
told_at P [] i lt all = absurd (omega (arith, lt))
told_at P (x ∷ xs) zero lt all = all.0
told_at P (x ∷ xs) (suc i) lt all = told_at P xs i (omega (arith, lt)) all.1

-- that may be said by its sender and cut
pub heard_so : (message : Message) (old new : Replica) (from : ℕ) (cut : List ℕ) → message.from ≡ from → message.cut ≡ cut → new ≡ record old { told = slice_set old.told from (joined (slice_index_or old.told from []) cut) } → new ≡ record old { told = told_of message old }
heard_so message old new from cut from_is cut_is heard =
    heard ∙ ap (λ i. let r : Replica = record old { told = slice_set old.told i (joined (slice_index_or old.told i []) cut) } in r) (sym from_is)
    ∙ ap (λ (k : List ℕ). let r : Replica = record old { told = slice_set old.told message.from (joined (slice_index_or old.told message.from []) k) } in r) (sym cut_is)

pub record AtHeard (setup : Setup) (message : Message) (taken : Taken) (old heard : Replica) (front accepts outs : List LogItem) : Type 0 where
  pub splits : Splits setup message old taken front accepts outs
  pub ready : IsReadyFor setup old (front ++ (accepts ++ outs))
  pub is : heard ≡ record old { told = told_of message old }

pub heard_own : (setup : Setup) (message : Message) (taken : Taken) (old heard : Replica) (front accepts outs : List LogItem) → AtHeard setup message taken old heard front accepts outs → IsReplica setup old.me heard
heard_own setup message taken old heard front accepts outs h =
    let own = h.splits.own in
    let fits = h.splits.heeded.fits in
    let Whole : List ℕ → Type 0 = λ c. length c ≡ setup.replicas in
    let here : length (slice_index_or old.told message.from []) ≡ setup.replicas = told_at Whole old.told message.from (omega (arith, own.told, fits.sender)) own.told_each in
    heard_replica setup old.me old heard own (record {
      wants = old.wants;
      told = told_of message old;
      is = h.is;
      fit = own.wants;
      few = own.few_wants;
      whole = length-set old.told message.from (joined (slice_index_or old.told message.from []) message.cut) ∙ own.told;
      each = each_set Whole old.told message.from (joined (slice_index_or old.told message.from []) message.cut) own.told_each (joined_whole (slice_index_or old.told message.from []) message.cut setup.replicas here fits.cut);
    })

-- what is applied is the next of another log still
pub heard_others : (setup : Setup) (message : Message) (taken : Taken) (old heard : Replica) (front accepts outs : List LogItem) → AtHeard setup message taken old heard front accepts outs → AreOthers setup heard message.from front
heard_others setup message taken old heard front accepts outs h =
    let others = are_others setup message old front (plans_of setup message old taken front accepts outs h.splits).admits in
    subst (λ (r : Replica). AreOthers setup r message.from front) (sym h.is) (record { place = others.place; others = others.others; row = others.row; fits = others.fits })

-- ---- it applies

-- its cut counts the new items
pub learned_cut : (setup : Setup) (message : Message) (old learned : Replica) (front : List LogItem) (me : ℕ) → Admitted setup message old front → IsReplica setup me learned → known_to learned ≡ with_items message.from front (known_to old) → cut_in learned.store ≡ cut_after (cut_in old.store) front
learned_cut setup message old learned front me admits own logs =
    let known : Logs = known_to old in
    let from : ℕ = message.from in
    let cut : List ℕ = cut_in old.store in
    let c : ℕ = slice_index cut from in
    let part = part_of setup message old front admits in
    let more : length (log_at known from ++ front) ≡ c + length front = omega (arith, length-append (log_at known from) front, admits.own.view.counts from) in
    own.store.counts ∙ ap (map (λ (l : List LogItem). length l)) logs ∙ map-set (λ (l : List LogItem). length l) known from (log_at known from ++ front)
    ∙ ap (λ (k : List ℕ). slice_set k from (length (log_at known from ++ front))) (sym admits.own.store.counts) ∙ ap (slice_set cut from) more
    ∙ sym (cut_applied from c cut front part.row refl (omega (arith, admits.heeded.fits.sender, admits.own.view.cut)))

pub record AtLearned (setup : Setup) (message : Message) (taken : Taken) (old heard learned : Replica) (front accepts outs : List LogItem) : Type 0 where
  pub at : AtHeard setup message taken old heard front accepts outs
  pub own : IsReplica setup heard.me learned
  pub by : HasLearned setup.spec front heard learned

-- which of its parts are which
pub record IsAfter (setup : Setup) (message : Message) (old learned : Replica) (front : List LogItem) : Type 0 where
  pub own : IsReplica setup learned.me learned
  pub mine : learned.me ≡ old.me
  pub logs : known_to learned ≡ with_items message.from front (known_to old)
  pub stands : (stamp : ℕ) (sendings : List Sending) (kept : List Batch) → standing_of stamp sendings kept learned ≡ record (standing_of stamp sendings kept old) { told = told_of message old; cut = cut_after (cut_in old.store) front }
  pub needs : learned.needs ≡ old.needs
  pub table : learned.table ≡ old.table

pub is_after : (setup : Setup) (message : Message) (taken : Taken) (old heard learned : Replica) (front accepts outs : List LogItem) → AtLearned setup message taken old heard learned front accepts outs → IsAfter setup message old learned front
is_after setup message taken old heard learned front accepts outs h =
    let plans = plans_of setup message old taken front accepts outs h.at.splits in
    let own : IsReplica setup old.me heard = heard_own setup message taken old heard front accepts outs h.at in
    let heard_known : known_to heard ≡ known_to old = ap known_to h.at.is in
    let logs : known_to learned ≡ with_items message.from front (known_to old) =
    learned_logs setup heard learned message.from front (own_again setup old.me heard own) (heard_others setup message taken old heard front accepts outs h.at) h.by ∙ ap (with_items message.from front) heard_known in
    let mine : learned.me ≡ old.me = ap (λ (r : Replica). r.me) h.by.kept ∙ ap (λ (r : Replica). r.me) h.at.is in
    let log : own_log learned ≡ own_log old = ap (log_at (known_to learned)) mine ∙ ap (λ (l : Logs). log_at l old.me) logs ∙ own_stays setup old message.from front (are_others setup message old front plans.admits) in
    let cut : cut_in learned.store ≡ cut_after (cut_in old.store) front = learned_cut setup message old learned front heard.me plans.admits h.own logs in
    record {
      own = own_again setup heard.me learned h.own;
      mine = mine;
      logs = logs;
      stands = λ stamp sendings kept.
          ap (λ (l : List LogItem). let p : Standing = record (standing_of stamp sendings kept learned) { log = l } in p) log
          ∙ ap (λ (c : List ℕ). let p : Standing = record (standing_of stamp sendings kept learned) { log = own_log old; cut = c } in p) cut
          ∙ ap (λ (r : Replica). let p : Standing = record { log = own_log old; cut = cut_after (cut_in old.store) front; stamp = stamp; wants = r.wants; told = r.told; sendings = sendings; running = Up; kept = kept } in p) (h.by.kept)
          ∙ ap (λ (r : Replica). let p : Standing = record { log = own_log old; cut = cut_after (cut_in old.store) front; stamp = stamp; wants = r.wants; told = r.told; sendings = sendings; running = Up; kept = kept } in p) h.at.is;
      needs = ap (λ (r : Replica). r.needs) h.by.kept ∙ ap (λ (r : Replica). r.needs) h.at.is;
      table = ap (λ (r : Replica). r.table) h.by.kept ∙ ap (λ (r : Replica). r.table) h.at.is;
    }

-- the Accepts are next, and have their entries
pub learned_next : (setup : Setup) (message : Message) (taken : Taken) (old heard learned : Replica) (front accepts outs : List LogItem) (needs : List Need) → AtLearned setup message taken old heard learned front accepts outs → AreNext setup (known_to learned) learned.me needs (standing_of 0 [] [] learned) accepts
learned_next setup message taken old heard learned front accepts outs needs h =
    let plans = plans_of setup message old taken front accepts outs h.at.splits in
    let after = is_after setup message taken old heard learned front accepts outs h in
    subst (λ (l : Logs). AreNext setup l learned.me needs (standing_of 0 [] [] learned) accepts) (sym after.logs)
    (subst (λ i. AreNext setup (with_items message.from front (known_to old)) i needs (standing_of 0 [] [] learned) accepts) (sym after.mine)
    (subst (λ (p : Standing). AreNext setup (with_items message.from front (known_to old)) old.me needs p accepts) (sym (after.stands 0 [] [])) (plans.accept needs)))

pub learned_entered : (setup : Setup) (message : Message) (taken : Taken) (old heard learned : Replica) (front accepts outs : List LogItem) → AtLearned setup message taken old heard learned front accepts outs → AreEntered setup (known_to learned) learned.needs learned.table (accepts ++ outs)
learned_entered setup message taken old heard learned front accepts outs h =
    let plans = plans_of setup message old taken front accepts outs h.at.splits in
    let after = is_after setup message taken old heard learned front accepts outs h in
    let there : AreEntered setup (with_items message.from front (known_to old)) old.needs old.table (accepts ++ outs) = plans_entered setup message old taken front accepts outs plans h.at.ready in
    subst (λ (l : Logs). AreEntered setup l learned.needs learned.table (accepts ++ outs)) (sym after.logs)
    (subst (λ (n : List Need). AreEntered setup (with_items message.from front (known_to old)) n learned.table (accepts ++ outs)) (sym after.needs)
    (subst (λ t. AreEntered setup (with_items message.from front (known_to old)) old.needs t (accepts ++ outs)) (sym after.table) there))

-- ---- it accepts

pub record AtMid (setup : Setup) (message : Message) (taken : Taken) (old heard learned mid : Replica) (front accepts outs : List LogItem) : Type 0 where
  pub at : AtLearned setup message taken old heard learned front accepts outs
  pub logged : HasLoggedAll setup (map (λ (i : LogItem). i.body) accepts) learned mid
  pub put : HasPut learned mid

pub record IsAccepted (setup : Setup) (message : Message) (old mid : Replica) (front : List LogItem) : Type 0 where
  pub own : IsReplica setup mid.me mid
  pub mine : mid.me ≡ old.me
  pub knows : KnowsOwn (with_items message.from front (known_to old)) mid
  pub stands : (stamp : ℕ) (sendings : List Sending) (kept : List Batch) → standing_of stamp sendings kept mid ≡ received old.me message front (standing_of stamp sendings kept old)
  pub holds : (stamp : ℕ) (sendings : List Sending) (kept : List Batch) → holds_of setup mid ≡ holding setup (with_items message.from front (known_to old)) old.me (standing_of stamp sendings kept mid)

pub is_accepted : (setup : Setup) (message : Message) (taken : Taken) (old heard learned mid : Replica) (front accepts outs : List LogItem) → AtMid setup message taken old heard learned mid front accepts outs → IsAccepted setup message old mid front
is_accepted setup message taken old heard learned mid front accepts outs h =
    let me : ℕ = old.me in
    let logs : Logs = with_items message.from front (known_to old) in
    let plans = plans_of setup message old taken front accepts outs h.at.at.splits in
    let after = is_after setup message taken old heard learned front accepts outs h.at in
    let bodies : List Body = accepts_of me front in
    let these : map (λ (i : LogItem). i.body) accepts ≡ bodies = ap (map (λ (i : LogItem). i.body)) plans.accepts_are ∙ bodies_back me bodies (start_of message old front) in
    let mine : mid.me ≡ me = h.logged.own.me_is ∙ after.mine in
    let knows : KnowsOwn logs mid = h.logged.knows ∙ ap (λ (l : Logs). slice_set l mid.me (own_log mid)) after.logs in
    let stands : (stamp : ℕ) (sendings : List Sending) (kept : List Batch) → standing_of stamp sendings kept mid ≡ received me message front (standing_of stamp sendings kept old) =
    λ stamp sendings kept. h.logged.stands stamp sendings kept ∙ ap (λ (bs : List Body). logged_all learned.me bs (standing_of stamp sendings kept learned)) these ∙ ap (λ i. logged_all i bodies (standing_of stamp sendings kept learned)) after.mine ∙ ap (logged_all me bodies) (after.stands stamp sendings kept) in
    record {
      own = own_again setup learned.me mid h.logged.own;
      mine = mine;
      knows = knows;
      stands = stands;
      holds = λ stamp sendings kept.
          let log : (logged_all me bodies (start_of message old front)).log ≡ own_log mid = sym (ap (λ (p : Standing). p.log) (stands 0 [] [])) in
          let known : known_to mid ≡ slice_set logs me (own_log mid) = knows ∙ ap (λ i. slice_set logs i (own_log mid)) mine in
          let alike = subst (λ (l : List LogItem). AllAlike logs (slice_set logs me l) l) log (goes_alike setup logs me (logged_all me bodies (start_of message old front)) plans.goes) in
          ap (λ i. held_of setup (known_to mid) i (own_log mid)) mine ∙ ap (λ (l : Logs). held_of setup l me (own_log mid)) known ∙ sym (held_alike setup logs (slice_set logs me (own_log mid)) me (own_log mid) alike);
    }

-- ---- it drops what is met

pub record AtLeft (setup : Setup) (message : Message) (taken : Taken) (old heard learned mid left : Replica) (front accepts outs : List LogItem) : Type 0 where
  pub at : AtMid setup message taken old heard learned mid front accepts outs
  pub is : left ≡ record mid { wants = still_wanted setup.replicas (holds_of setup mid) mid.wants }

-- without the wants that are met it is a replica still
pub dropped_own : (setup : Setup) (mid left : Replica) → IsReplica setup mid.me mid → left ≡ record mid { wants = still_wanted setup.replicas (holds_of setup mid) mid.wants } → IsReplica setup mid.me left
dropped_own setup mid left own is =
    let wants : List Want = still_wanted setup.replicas (holds_of setup mid) mid.wants in
    heard_replica setup mid.me mid left own (record {
      wants = wants;
      told = mid.told;
      is = is;
      fit = still_fit setup setup.replicas (holds_of setup mid) mid.wants own.wants;
      few = omega (arith, still_few setup.replicas (holds_of setup mid) mid.wants, own.few_wants);
      whole = own.told;
      each = own.told_each;
    })

-- the Outs are next, and have their entries
pub left_next : (setup : Setup) (message : Message) (taken : Taken) (old heard learned mid left : Replica) (front accepts outs : List LogItem) (needs : List Need) → AtLeft setup message taken old heard learned mid left front accepts outs → AreNext setup (known_to left) left.me needs (standing_of 0 [] [] left) outs
left_next setup message taken old heard learned mid left front accepts outs needs h =
    let logs : Logs = with_items message.from front (known_to old) in
    let plans = plans_of setup message old taken front accepts outs h.at.at.at.splits in
    let accepted = is_accepted setup message taken old heard learned mid front accepts outs h.at in
    let p : Standing = logged_all old.me (accepts_of old.me front) (start_of message old front) in
    let q : Standing = standing_of 0 [] [] mid in
    let first : AreNext setup logs old.me needs q outs = subst (λ (s : Standing). AreNext setup logs old.me needs s outs) (sym (accepted.stands 0 [] [])) (plans.give needs) in
    let here : AreNext setup logs mid.me needs q outs = subst (λ i. AreNext setup logs i needs q outs) (sym accepted.mine) first in
    let there : AreNext setup (known_to mid) mid.me needs q outs = next_set setup logs (known_to mid) mid.me needs q outs (then_same logs mid accepted.knows) here in
    let same : AreNext setup (known_to mid) mid.me needs (record q { wants = still_wanted setup.replicas (holds_of setup mid) mid.wants }) outs =
    next_like setup (known_to mid) mid.me needs q (record q { wants = still_wanted setup.replicas (holds_of setup mid) mid.wants }) outs refl refl there in
    subst (λ (r : Replica). AreNext setup (known_to r) r.me needs (standing_of 0 [] [] r) outs) (sym h.is) same

pub left_entered : (setup : Setup) (message : Message) (taken : Taken) (old heard learned mid left : Replica) (front accepts outs : List LogItem) → AtLeft setup message taken old heard learned mid left front accepts outs → AreEntered setup (known_to left) left.needs left.table outs
left_entered setup message taken old heard learned mid left front accepts outs h =
    let after = learned_entered setup message taken old heard learned front accepts outs h.at.at in
    let accepted = is_accepted setup message taken old heard learned mid front accepts outs h.at in
    let both = (each_parts (λ (i : LogItem). HasEntryFor setup i.body (taken_by (known_to learned) i.body) learned.needs learned.table) accepts outs after).1 in
    let next = subst (λ (r : Replica). AreNext setup (known_to r) r.me learned.needs (standing_of 0 [] [] r) outs) h.is (left_next setup message taken old heard learned mid left front accepts outs learned.needs h) in
    let there : AreEntered setup (known_to mid) learned.needs mid.table outs = entered_on setup (known_to learned) learned.needs learned mid (standing_of 0 [] [] (record mid { wants = still_wanted setup.replicas (holds_of setup mid) mid.wants })) (known_to mid) outs h.at.logged.knows h.at.put.kept next both in
    let now : AreEntered setup (known_to mid) mid.needs mid.table outs = subst (λ (n : List Need). AreEntered setup (known_to mid) n mid.table outs) (sym h.at.put.needs) there in
    subst (λ (r : Replica). AreEntered setup (known_to r) r.needs r.table outs) (sym h.is) now

-- ---- and gives

-- a message was taken
pub has_taken : (setup : Setup) (message : Message) (taken : Taken) (old heard learned mid left new : Replica) (front accepts outs : List LogItem) → AtLeft setup message taken old heard learned mid left front accepts outs → HasLoggedAll setup (map (λ (i : LogItem). i.body) outs) left new
    → HasTaken setup message old (outcomes.Took message.number taken.applied taken.accepted taken.gave) new
has_taken setup message taken old heard learned mid left new front accepts outs h given =
    let me : ℕ = old.me in
    let logs : Logs = with_items message.from front (known_to old) in
    let plans = plans_of setup message old taken front accepts outs h.at.at.at.splits in
    let accepted = is_accepted setup message taken old heard learned mid front accepts outs h.at in
    let gives : List Body = gives_of setup message old front in
    let these : map (λ (i : LogItem). i.body) outs ≡ gives = ap (map (λ (i : LogItem). i.body)) plans.outs_are ∙ bodies_back me gives (before_of setup message old front) in
    let mine : left.me ≡ me = ap (λ (r : Replica). r.me) h.is ∙ accepted.mine in
    let knows : KnowsOwn logs left = subst (KnowsOwn logs) (sym h.is) accepted.knows in
    let before : (stamp : ℕ) (sendings : List Sending) (kept : List Batch) → standing_of stamp sendings kept left ≡ dropped setup logs me (received me message front (standing_of stamp sendings kept old)) =
    λ stamp sendings kept.
    let q : Standing = standing_of stamp sendings kept mid in
    ap (standing_of stamp sendings kept) h.is ∙ ap (λ (f : Need → Held). let p : Standing = record q { wants = still_wanted setup.replicas f mid.wants } in p) (accepted.holds stamp sendings kept) ∙ ap (dropped setup logs me) (accepted.stands stamp sendings kept) in
    let long = longer_by setup (map (λ (i : LogItem). i.body) outs) left new given in
    let accepts_long = longer_by setup (map (λ (i : LogItem). i.body) accepts) learned mid h.at.logged in
    let start_long = ap (λ (p : Standing). length p.log) ((is_after setup message taken old heard learned front accepts outs h.at.at).stands 0 [] []) in
    let outcome : outcomes.Took message.number (length front) (length (accepts_of me front)) (length outs) ≡ outcomes.Took message.number taken.applied taken.accepted taken.gave =
    ap (λ n. outcomes.Took message.number n (length (accepts_of me front)) (length outs)) (sym plans.applied_is) ∙ ap (λ n. outcomes.Took message.number taken.applied n (length outs)) (sym plans.accepted_is) ∙ ap (outcomes.Took message.number taken.applied taken.accepted) (sym plans.gave_is) in
    let all : logs ≡ with_all front (known_to old) = sym (with_row message.from (length (log_at (known_to old) message.from)) front (known_to old) (are_others setup message old front plans.admits).row (omega (arith, plans.admits.own.store.whole, plans.admits.heeded.fits.sender))) in
    record {
      own = subst (λ i. IsReplica setup i new) mine given.own;
      applied = front;
      takes = λ stamp sendings kept.
          let q : Standing = standing_of stamp sendings kept left in
          let same : gives_for setup logs me message.from message.wants q ≡ gives = gives_stamped setup logs me message.from message.wants (standing_of 0 [] [] left) stamp sendings kept ∙ ap (gives_for setup logs me message.from message.wants) (before 0 [] []) in
          subst (λ (l : Logs). Takes setup l me message front (standing_of stamp sendings kept old) (outcomes.Took message.number taken.applied taken.accepted taken.gave) (standing_of stamp sendings kept new)) all (record {
            gave = length outs;
            before_answers = q;
            admitted = plans.admits.admitted;
            before_is = before stamp sendings kept;
            becomes = given.stands stamp sendings kept ∙ ap (λ i. logged_all i (map (λ (x : LogItem). x.body) outs) q) mine ∙ ap (λ (bs : List Body). logged_all me bs q) (these ∙ sym same) ∙ sym (answered_gives setup logs me message.from message.wants q);
            gave_is = omega (arith, long, length-map outs (λ (i : LogItem). i.body));
            outcome_is = sym outcome;
          });
      knows = subst (λ (l : Logs). KnowsOwn l new) all (knows_both logs left new given.own.me_is knows given.knows);
      grown = omega (arith, long, length-map outs (λ (i : LogItem). i.body), accepts_long, length-map accepts (λ (i : LogItem). i.body), start_long, plans.few_accepts, plans.few_outs, ap (λ (r : Replica). length (own_log r)) h.is);
    }

-- and then all of it is known
pub taken_known : (setup : Setup) (message : Message) (taken : Taken) (old heard learned mid left new : Replica) (front accepts outs : List LogItem) → AtLeft setup message taken old heard learned mid left front accepts outs → HasLoggedAll setup (map (λ (i : LogItem). i.body) outs) left new
    → known_to new ≡ with_all (front ++ (accepts ++ outs)) (known_to old)
taken_known setup message taken old heard learned mid left new front accepts outs h given =
    let after = is_after setup message taken old heard learned front accepts outs h.at.at in
    let accepted = is_accepted setup message taken old heard learned mid front accepts outs h.at in
    let own : IsReplica setup heard.me heard = own_again setup old.me heard (heard_own setup message taken old heard front accepts outs h.at.at.at) in
    let one = learned_known setup heard learned message.from front own (heard_others setup message taken old heard front accepts outs h.at.at.at) h.at.at.by ∙ ap (with_all front) (ap known_to h.at.at.at.is) in
    let two = logged_known setup [] accepts learned mid after.own (learned_next setup message taken old heard learned front accepts outs [] h.at.at) h.at.logged in
    let three = logged_known setup [] outs left new (own_again setup mid.me left (dropped_own setup mid left accepted.own h.is)) (left_next setup message taken old heard learned mid left front accepts outs [] h) given in
    three ∙ ap (with_all outs) (ap known_to h.is ∙ two ∙ ap (with_all accepts) one) ∙ sym (with_all_append front (accepts ++ outs) (known_to old) ∙ with_all_append accepts outs (with_all front (known_to old)))
