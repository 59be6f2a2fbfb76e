-- What a replica applies, logs and hears, one after the other.
use Rattle.std.proofs.Common.{◌≡◌, ℕ, zero, suc, ◌+◌, ◌<◌, ◌≤◌, max, List, [], ◌∷◌, ◌++◌, length, take, refl, sym, ap, subst, ◌∙◌, arith, length-set}
use Rattle.std.specs.Prelude.{slice_index, slice_set}
use Rattle.std.specs.List.{AllByRecursion}
use Rattle.std.proofs.lemmas.List.{get_or-set_same, length_push}
use Rattle.spec_model.specs.declared.plan.Setup.{Setup}
use Rattle.spec_model.specs.declared.spec.Spec.{Spec}
use Rattle.spec_model.specs.declared.log.Body.{Body}
use Rattle.spec_model.specs.declared.log.LogItem.{LogItem}
use Rattle.run_model.specs.Logs.{Logs, log_at}
use Rattle.run_model.specs.Worlds.{Standing, joined, logged_all}
use Rattle.run_model.specs.Fitting.{AreInRow, IsPlaced}
use Rattle.run_model.proofs.Own.{own_front}
use Rattle.causal_store.specs.Stores.{IsStore}
use Rattle.message_laws.proofs.Logged.{logged_append, logged_length}
use Rattle.replica_core.specs.Next.{HasPut}
use Rattle.replica_core.specs.Replicas.{CanLearn, HasLearned, HasLogged, HasLoggedAll, IsReplica, KnowsOwn, known_to, own_log, standing_of}
use Rattle.replica_core.specs.declared.replica.Replica.{Replica}
use Rattle.replica_core.proofs.Items.{set_again, set_back, with_more, with_none}

-- ---- joined cuts

pub joined_short : (xs ys : List ℕ) → length (joined xs ys) ≤ length xs
joined_short [] ys = omega arith
joined_short (x ∷ xs) [] = omega arith
joined_short (x ∷ xs) (y ∷ ys) = let rest = joined_short xs ys in omega (arith, rest)

pub take_short : (k : ℕ) (xs : List ℕ) → length (take k xs) ≤ k
take_short zero xs = omega arith
take_short (suc k) [] = omega arith
take_short (suc k) (x ∷ xs) = let rest = take_short k xs in omega (arith, rest)

pub joined_more : (xs ys : List ℕ) (k : ℕ) → k < length xs → k < length ys → joined (take (k + 1) xs) (take (k + 1) ys) ≡ joined (take k xs) (take k ys) ++ max (slice_index xs k) (slice_index ys k) ∷ []
joined_more [] ys k a b = absurd (omega (arith, a))
joined_more (x ∷ xs) [] k a b = absurd (omega (arith, b))
joined_more (x ∷ xs) (y ∷ ys) zero a b = refl
joined_more (x ∷ xs) (y ∷ ys) (suc k) a b =
    let one : suc k + 1 ≡ suc (k + 1) = omega arith in
    ap (λ n. joined (take n (x ∷ xs)) (take n (y ∷ ys))) one ∙ ap (λ (l : List ℕ). max x y ∷ l) (joined_more xs ys k (omega (arith, a)) (omega (arith, b)))

-- ---- one body

pub logged_alone : (setup : Setup) (b : Body) (old new : Replica) → HasLogged setup b old new → HasLoggedAll setup (b ∷ []) old new
logged_alone setup b old new h = record { own = h.own; stands = h.stands; knows = h.knows }

pub logged_these : (setup : Setup) (bs cs : List Body) (old new : Replica) → bs ≡ cs → HasLoggedAll setup bs old new → HasLoggedAll setup cs old new
logged_these setup bs cs old new same = subst (λ (xs : List Body). HasLoggedAll setup xs old new) same

-- the own log is longer by as many
pub longer_by : (setup : Setup) (bodies : List Body) (old new : Replica) → HasLoggedAll setup bodies old new → length (own_log new) ≡ length (own_log old) + length bodies
longer_by setup bodies old new h = ap (λ (p : Standing). length p.log) (h.stands 0 [] []) ∙ logged_length old.me bodies (standing_of 0 [] [] old)

-- what is known after both is known but for the own log
pub knows_both : (known : Logs) (mid new : Replica) → new.me ≡ mid.me → KnowsOwn known mid → KnowsOwn (known_to mid) new → KnowsOwn known new
knows_both known mid new b first second =
    let same : mid.me ≡ new.me = sym b in
    second ∙ ap (λ (l : Logs). slice_set l new.me (own_log new)) (first ∙ ap (λ i. slice_set known i (own_log mid)) same) ∙ set_again known new.me (own_log mid) (own_log new)

-- first these bodies and then those
pub logged_both : (setup : Setup) (bs cs : List Body) (old mid new : Replica) → HasLoggedAll setup bs old mid → HasLoggedAll setup cs mid new → HasLoggedAll setup (bs ++ cs) old new
logged_both setup bs cs old mid new first second =
    let me : mid.me ≡ old.me = first.own.me_is in
    record {
      own = subst (λ i. IsReplica setup i new) me second.own;
      stands = λ stamp sendings kept. second.stands stamp sendings kept ∙ ap (λ i. logged_all i cs (standing_of stamp sendings kept mid)) me ∙ ap (logged_all old.me cs) (first.stands stamp sendings kept) ∙ sym (logged_append old.me bs cs (standing_of stamp sendings kept old));
      knows = knows_both (known_to old) mid new second.own.me_is first.knows second.knows;
    }

-- the own number stays
pub own_again : (setup : Setup) (me : ℕ) (r : Replica) → IsReplica setup me r → IsReplica setup r.me r
own_again setup me r h = subst (λ i. IsReplica setup i r) (sym h.me_is) h

-- nothing is logged at first
pub logged_nothing : (setup : Setup) (r : Replica) → IsReplica setup r.me r → HasLoggedAll setup [] r r
logged_nothing setup r own = record { own = own; stands = λ stamp sendings kept. refl; knows = sym (set_back (known_to r) r.me) }

-- nothing is learned at first
pub learned_nothing : (spec : Spec) (r : Replica) → IsStore spec (length (known_to r)) r.store → HasLearned spec [] r r
learned_nothing spec r store = record { kept = refl; store = store; logs = λ from row lt. sym (with_none from (known_to r)) }

-- the first item of a row
pub first_in_row : (from at : ℕ) (x : LogItem) (items : List LogItem) → AreInRow from at (x ∷ items) → (x.origin ≡ from) × (x.index ≡ at)
first_in_row from at x items row = (row.0, row.1)

-- one item more was learned
pub learned_more : (spec : Spec) (front rest : List LogItem) (x : LogItem) (old mid new : Replica) → HasLearned spec front old mid → CanLearn spec mid (x ∷ rest) → new ≡ record mid { store = new.store } → IsStore spec (length (known_to mid)) new.store
    → known_to new ≡ slice_set (known_to mid) x.origin (log_at (known_to mid) x.origin ++ x ∷ []) → length (known_to mid) ≡ length (known_to old) → HasLearned spec (front ++ x ∷ []) old new × CanLearn spec new rest
learned_more spec front rest x old mid new learned can kept store logs whole =
    let size : length (known_to new) ≡ length (known_to mid) = ap length logs ∙ length-set (known_to mid) x.origin (log_at (known_to mid) x.origin ++ x ∷ []) in (
      record {
        kept = kept ∙ ap (λ (r : Replica). let q : Replica = record r { store = new.store } in q) learned.kept;
        store = subst (λ n. IsStore spec n new.store) whole store;
        logs = λ from row lt.
            let before = learned.logs from (own_front from (length (log_at (known_to old) from)) front (x ∷ []) row) lt in
            let here : x.origin ≡ from = last_origin from (length (log_at (known_to old) from)) front x row in
            logs ∙ ap (λ o. slice_set (known_to mid) o (log_at (known_to mid) o ++ x ∷ [])) here ∙ ap (λ (l : Logs). slice_set l from (log_at l from ++ x ∷ [])) before ∙ with_more from (known_to old) front x lt;
      },
      record {
        from = can.from;
        store = subst (λ n. IsStore spec n new.store) (sym size) store;
        place = omega (arith, can.place, size);
        row =
            let here : x.origin ≡ can.from = can.row.0 in
            let there : log_at (known_to new) can.from ≡ log_at (known_to mid) can.from ++ x ∷ [] =
            ap (λ (l : Logs). log_at l can.from) (logs ∙ ap (λ o. slice_set (known_to mid) o (log_at (known_to mid) o ++ x ∷ [])) here) ∙ get_or-set_same (known_to mid) can.from (log_at (known_to mid) can.from ++ x ∷ []) [] can.place in
            let long : length (log_at (known_to mid) can.from) + 1 ≡ length (log_at (known_to new) can.from) = omega (arith, ap length there, length_push (log_at (known_to mid) can.from) x) in
            subst (λ n. AreInRow can.from n rest) long can.row.3;
        fits = subst (λ n. AllByRecursion (IsPlaced n) rest) (sym size) can.fits.1;
      },
    )
  where
    last_origin : (from at : ℕ) (front : List LogItem) (x : LogItem) → AreInRow from at (front ++ x ∷ []) → x.origin ≡ from
    last_origin from at [] x row = row.0
    last_origin from at (y ∷ front) x row = last_origin from (at + 1) front x row.3

-- entries are kept where they were kept before
pub put_both : (old mid new : Replica) → HasPut old mid → HasPut mid new → HasPut old new
put_both old mid new first second = record { needs = second.needs ∙ first.needs; kept = λ r entered. second.kept r (first.kept r entered) }

pub put_nothing : (r : Replica) → HasPut r r
put_nothing r = record { needs = refl; kept = λ q entered. entered }
