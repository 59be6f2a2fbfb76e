-- What a replica applies of a message that it heeds, and that it may accept what that gives to it.
use Rattle.std.proofs.Common.{◌≡◌, ◌≢◌, inl, inr, ℕ, zero, suc, ◌+◌, ◌-◌, ◌<◌, ◌≤◌, Bool, true, false, cond, List, [], ◌∷◌, ◌++◌, length, set, take, drop, refl, sym, ap, subst, ◌∙◌, arith, length-append, length-drop, length-set, ltb-false, eqb-true}
use Rattle.std.specs.Prelude.{Some, not, nat_lt, slice_get, slice_index, slice_index_or, slice_set, ◌==◌}
use Rattle.std.specs.List.{AllByRecursion}
use Rattle.std.proofs.lemmas.Bool.{cases_Bool}
use Rattle.std.proofs.lemmas.List.{append-nil, append_assoc, get_or-set_same, get_or-set_other}
use Rattle.std.proofs.lemmas.Grind.{flat_map-append}
use Rattle.std.proofs.lemmas.Option.{slice_get_within}
use Rattle.spec_model.specs.declared.plan.Setup.{Setup}
use Rattle.spec_model.specs.declared.right.Held.{Held}
use Rattle.spec_model.specs.declared.right.Need.{Need}
use Rattle.spec_model.specs.declared.right.Piece.{Piece}
use Rattle.spec_model.specs.declared.right.Right.{Right}
use Rattle.spec_model.specs.declared.log.Body.{Body}
use Rattle.spec_model.specs.declared.log.Body.TheVariants as body
use Rattle.spec_model.specs.declared.log.LogItem.{LogItem}
use Rattle.run_model.specs.declared.message.Message.{Message}
use Rattle.run_model.specs.Allowed.{span_given}
use Rattle.run_model.specs.Fitting.{AreInRow, ItemFits}
use Rattle.run_model.specs.Holding.{held_right}
use Rattle.run_model.specs.Logs.{Logs, cut_after, item_at, log_at, with_item}
use Rattle.run_model.specs.Passing.{can_accept}
use Rattle.run_model.specs.Steps.{AreAdmitted, AreReady, accept_of, accepts_of, unseen}
use Rattle.run_model.specs.Worlds.{Standing, joined, logged, logged_all}
use Rattle.run_model.proofs.Alike.{counts_alike}
use Rattle.run_model.proofs.Lists.{each_append, each_filter, each_weaker, get_behind, get_drop}
use Rattle.run_model.proofs.Own.{applied_one, own_at, own_drop, own_front, unseen_own}
use Rattle.causal_store.specs.Stores.{cut_in}
use Rattle.message_laws.specs.Heeded.{JoinsAfter, with_items}
use Rattle.message_laws.specs.Views.{standing_in}
use Rattle.message_laws.proofs.Lists.{each_dropped, each_parts, each_place}
use Rattle.message_laws.proofs.Logged.{logged_append}
use Rattle.message_laws.proofs.Onway.{front_ready}
use Rattle.replica_core.specs.Decisions.{IsHeeded}
use Rattle.replica_core.specs.Next.{AreNext, AreOthers, IsNext}
use Rattle.replica_core.specs.Replicas.{IsReplica, known_to, own_log, standing_of, view_of}
use Rattle.replica_core.specs.declared.replica.Replica.{Replica}
use Rattle.replica_core.proofs.Grown.{AllRest, GrowsTo, RestsOn, all_alike, all_rest_more, all_seen_rest, grows_with, held_grown, own_seen}
use Rattle.replica_core.proofs.Items.{accepts_no_act, items_for, logged_items, set_again}
use Rattle.replica_core.proofs.Lists.{front_of}
use Rattle.replica_core.proofs.Logged.{own_stays}
use Rattle.replica_core.proofs.Passing.{Goes, accept_few, goes_held, goes_on}
use Rattle.replica_core.proofs.Pasts.{held_same, same_logged}

-- ---- rows of items

-- what stands in a row from one place stands in a row from the same place, by another name
row_from : (from a b : ℕ) (items : List LogItem) → a ≡ b → AreInRow from a items → AreInRow from b items
row_from from a b items same = subst (λ n. AreInRow from n items) same

-- the items in front of a row are a row
pub row_taken : (from at n : ℕ) (items : List LogItem) → AreInRow from at items → AreInRow from at (take n items)
row_taken from at zero items row = tt
row_taken from at (suc n) [] row = tt
row_taken from at (suc n) (x ∷ items) row = (row.0, row.1, row.2, row_taken from (at + 1) n items row.3)

pub row_origin : (from at : ℕ) (items : List LogItem) → AreInRow from at items → AllByRecursion (λ i. i.origin ≡ from) items
row_origin from at [] row = tt
row_origin from at (x ∷ items) row = (row.0, row_origin from (at + 1) items row.3)

-- an item that wasn't seen
abbrev IsNew : List ℕ → LogItem → Type 0
IsNew cut i = not (nat_lt i.index (slice_index cut i.origin)) ≡ true

-- none of those that are applied was seen
all_new : (cut : List ℕ) (items applied : List LogItem) → AreAdmitted cut items applied → AllByRecursion (IsNew cut) applied
all_new cut items applied admitted =
    let kept = each_filter (λ (i : LogItem). Unit {0}) (λ (i : LogItem). not (nat_lt i.index (slice_index cut i.origin))) items (any items) in
    each_weaker (λ (i : LogItem). Unit {0} × IsNew cut i) (IsNew cut) (λ i h. h.1) applied (each_parts (λ (i : LogItem). Unit {0} × IsNew cut i) applied admitted.rest (subst (AllByRecursion (λ (i : LogItem). Unit {0} × IsNew cut i)) admitted.prefix kept)).0
  where
    any : (items : List LogItem) → AllByRecursion (λ (i : LogItem). Unit {0}) items
    any [] = tt
    any (i ∷ items) = (tt, any items)

is_new : (a b : ℕ) → not (nat_lt a b) ≡ true → nat_lt a b ≡ false
is_new a b h = elim (cases_Bool (nat_lt a b)) [
  | inl less ↦ absurd (let wrong : false ≡ true = sym (ap not less) ∙ h in cc)
  | inr not_so ↦ not_so
]

-- where a first item was not seen, and its past was, its row goes on where the cut ends
pub row_goes_on : (from at : ℕ) (cut : List ℕ) (items applied : List LogItem) → AreInRow from at applied → AreAdmitted cut items applied → AreInRow from (slice_index cut from) applied
row_goes_on from at cut items [] row admitted = tt
row_goes_on from at cut items (x ∷ applied) row admitted =
    let new = (all_new cut items (x ∷ applied) admitted).0 in
    let here : slice_index cut x.origin ≡ slice_index cut from = ap (slice_index cut) row.0 in
    let behind : slice_index cut x.origin ≤ x.index = ltb-false x.index (slice_index cut x.origin) (is_new x.index (slice_index cut x.origin) new) in
    let seen : slice_index x.deps from ≤ slice_index cut from = admitted.ready.0 from in
    row_from from at (slice_index cut from) (x ∷ applied) (omega (arith, here, behind, seen, row.1, row.2)) row

-- the cut once a row of items is applied
pub cut_applied : (from c : ℕ) (cut : List ℕ) (applied : List LogItem) → AreInRow from c applied → slice_index cut from ≡ c → from < length cut → cut_after cut applied ≡ slice_set cut from (c + length applied)
cut_applied from c cut [] row is lt = sym (set_to (cut) from (c + 0) (omega (arith, is)))
  where
    set_to : (xs : List ℕ) (i x : ℕ) → x ≡ slice_index xs i → set xs i x ≡ xs
    set_to [] i x is = refl
    set_to (y ∷ xs) zero x is = ap (λ z. z ∷ xs) is
    set_to (y ∷ xs) (suc i) x is = ap (λ (l : List ℕ). y ∷ l) (set_to xs i x is)
cut_applied from c cut (x ∷ applied) row is lt =
    let one : with_item cut x ≡ set cut from (c + 1) = applied_one from c cut x row.0 row.1 in
    let there : slice_index (set cut from (c + 1)) from ≡ c + 1 = get_or-set_same cut from (c + 1) 0 lt in
    ap (λ (k : List ℕ). cut_after k applied) one ∙ cut_applied from (c + 1) (set cut from (c + 1)) applied row.3 there (omega (arith, lt, length-set cut from (c + 1))) ∙ set_twice cut from (c + 1) ((c + 1) + length applied)
    ∙ ap (set cut from) (let more : (c + 1) + length applied ≡ c + suc (length applied) = omega arith in more)
  where
    set_twice : (xs : List ℕ) (i x y : ℕ) → set (set xs i x) i y ≡ set xs i y
    set_twice [] i x y = refl
    set_twice (z ∷ xs) zero x y = refl
    set_twice (z ∷ xs) (suc i) x y = ap (λ (l : List ℕ). z ∷ l) (set_twice xs i x y)

-- each of them stands at its place
pub items_placed : (from c : ℕ) (known : Logs) (applied : List LogItem) → AreInRow from c applied → c ≡ length (log_at known from) → from < length known → AllByRecursion (λ x. item_at (with_items from applied known) x.origin x.index ≡ Some x) applied
items_placed from c known applied row is lt = each_place (λ (x : LogItem). item_at (with_items from applied known) x.origin x.index ≡ Some x) applied each
  where
    each : (k : ℕ) (x : LogItem) → slice_get applied k ≡ Some x → item_at (with_items from applied known) x.origin x.index ≡ Some x
    each k x there =
        let place = own_at from c applied k x row there in
        let log : List LogItem = log_at known from in
        let at : x.index ≡ length log + k = omega (arith, place.1, is) in
        ap (λ o. item_at (with_items from applied known) o x.index) place.0 ∙ ap (λ (l : List LogItem). slice_get l x.index) (get_or-set_same known from (log ++ applied) [] lt) ∙ ap (slice_get (log ++ applied)) at ∙ get_behind log applied k ∙ there

-- with these items, and then with those
with_both : (from : ℕ) (known : Logs) (done todo : List LogItem) → from < length known → with_items from todo (with_items from done known) ≡ with_items from (done ++ todo) known
with_both from known done todo lt =
    let log : List LogItem = log_at known from in
    set_again known from (log ++ done) (log_at (with_items from done known) from ++ todo) ∙ ap (λ (l : List LogItem). slice_set known from (l ++ todo)) (get_or-set_same known from (log ++ done) [] lt) ∙ ap (slice_set known from) (append_assoc log done todo)

-- ---- what is applied

-- of a message that a replica heeds, the items that are admitted
pub record Admitted (setup : Setup) (message : Message) (r : Replica) (front : List LogItem) : Type 0 where
  pub own : IsReplica setup r.me r
  pub heeded : IsHeeded setup r message
  pub admitted : AreAdmitted (cut_in r.store) message.items front

-- they stand in a row behind what was seen, fit, and are few
pub record IsPart (setup : Setup) (message : Message) (cut : List ℕ) (applied : List LogItem) : Type 0 where
  pub row : AreInRow message.from (slice_index cut message.from) applied
  pub fits : AllByRecursion (ItemFits setup) applied
  pub few : length applied ≤ 16

pub part_of : (setup : Setup) (message : Message) (r : Replica) (front : List LogItem) → Admitted setup message r front → IsPart setup message (cut_in r.store) front
part_of setup message r front h =
    let fits = h.heeded.fits in
    let cut : List ℕ = cut_in r.store in
    let from : ℕ = message.from in
    let rest : List LogItem = h.admitted.rest in
    let n : ℕ = slice_index cut from - fits.first in
    let is : front ++ rest ≡ drop n message.items = sym h.admitted.prefix ∙ unseen_own from (slice_index cut from) fits.first cut message.items fits.row refl in
    let row : AreInRow from (fits.first + n) (front ++ rest) = subst (AreInRow from (fits.first + n)) (sym is) (own_drop from fits.first n message.items (fits.first + n) refl fits.row) in
    record {
      row = row_goes_on from (fits.first + n) cut message.items front (own_front from (fits.first + n) front rest row) h.admitted;
      fits = (each_parts (ItemFits setup) front rest (subst (AllByRecursion (ItemFits setup)) (sym is) (each_dropped (ItemFits setup) n message.items fits.items))).0;
      few = omega (arith, ap length is, length-append front rest, length-drop n message.items, fits.few_items);
    }

-- they are the next of another log
pub are_others : (setup : Setup) (message : Message) (r : Replica) (front : List LogItem) → Admitted setup message r front → AreOthers setup r message.from front
are_others setup message r front h =
    let part = part_of setup message r front h in
    let row : AreInRow message.from (length (log_at (known_to r) message.from)) front = row_from message.from (slice_index (cut_in r.store) message.from) (length (log_at (known_to r) message.from)) front (h.own.view.counts message.from) part.row in
    record {
      place = h.heeded.fits.sender;
      others = each_weaker (λ (i : LogItem). i.origin ≡ message.from) (λ (i : LogItem). i.origin ≢ r.me) (λ i is same. h.heeded.fits.other (sym is ∙ same)) front (row_origin message.from (length (log_at (known_to r) message.from)) front row);
      row = row;
      fits = part.fits;
    }

-- what each of them gives joins what is held once those before it are applied
drop_front : (n m : ℕ) (xs : List LogItem) → drop n (take (n + m) xs) ≡ take m (drop n xs)
drop_front zero m xs = ap (λ k. take k xs) (let same : 0 + m ≡ m = omega arith in same)
drop_front (suc n) m [] = ap (λ k. drop (suc n) (take k [])) (let same : suc n + m ≡ suc (n + m) = omega arith in same) ∙ sym (none m)
  where
    none : (m : ℕ) → take {A = LogItem} m [] ≡ []
    none zero = refl
    none (suc m) = refl
drop_front (suc n) m (x ∷ xs) = ap (λ k. drop (suc n) (take k (x ∷ xs))) (let same : suc n + m ≡ suc (n + m) = omega arith in same) ∙ drop_front n m xs

pub joins_each : (setup : Setup) (message : Message) (r : Replica) (front done rest : List LogItem) (x : LogItem) → Admitted setup message r front → front ≡ done ++ x ∷ rest → JoinsAfter setup (view_of r) message.from done x.body
joins_each setup message r front done rest x h is =
    let fits = h.heeded.fits in
    let cut : List ℕ = cut_in r.store in
    let from : ℕ = message.from in
    let items : List LogItem = message.items in
    let n : ℕ = slice_index cut from - fits.first in
    let m : ℕ = length done in
    let more : List LogItem = rest ++ h.admitted.rest in
    let all : drop n items ≡ done ++ x ∷ more =
    sym (unseen_own from (slice_index cut from) fits.first cut items fits.row refl) ∙ h.admitted.prefix ∙ ap (λ (l : List LogItem). l ++ h.admitted.rest) is ∙ append_assoc done (x ∷ rest) h.admitted.rest in
    let there : slice_get items (n + m) ≡ Some x =
    sym (get_drop n items m) ∙ ap (λ (l : List LogItem). slice_get l m) all ∙ ap (slice_get (done ++ x ∷ more)) (let same : m ≡ length done + 0 = omega arith in same) ∙ get_behind done (x ∷ more) 0 in
    let before : unseen cut (take (n + m) items) ≡ done =
    unseen_own from (slice_index cut from) fits.first cut (take (n + m) items) (row_taken from fits.first (n + m) items fits.row) refl ∙ drop_front n m items ∙ ap (take m) all ∙ front_of done (x ∷ more) m refl in
    let new : AllByRecursion (IsNew cut) (done ++ x ∷ rest) = subst (AllByRecursion (IsNew cut)) is (all_new cut items front h.admitted) in
    let ready : AreReady cut (done ++ x ∷ []) = front_ready cut (done ++ x ∷ []) rest (subst (AreReady cut) (is ∙ sym (append_assoc done (x ∷ []) rest)) h.admitted.ready) in
    let can = h.heeded.may.accepted (n + m) x there in
    let now = subst (λ (l : List LogItem). nat_lt x.index (slice_index cut x.origin) ≡ false → AreReady cut (l ++ x ∷ []) → JoinsAfter setup (view_of r) from l x.body) before can in
    now (is_new x.index (slice_index cut x.origin) (each_parts (IsNew cut) done (x ∷ rest) new).1.0) ready

-- ---- what is accepted

-- what the sender has seen is told
abbrev pub told_of : Message → Replica → List (List ℕ)
told_of message r = slice_set r.told message.from (joined (slice_index_or r.told message.from []) message.cut)

-- how it stands once it has heard and applied
abbrev pub start_of : Message → Replica → List LogItem → Standing
start_of message r applied = record (standing_of 0 [] [] r) { told = told_of message r; cut = cut_after (cut_in r.store) applied }

-- the Accepts of one item more
accepts_push : (me : ℕ) (done : List LogItem) (x : LogItem) → accepts_of me (done ++ x ∷ []) ≡ accepts_of me done ++ accept_of me x.origin x.index x.body
accepts_push me done x =
    flat_map-append (λ (i : LogItem). accept_of me i.origin i.index i.body) done (x ∷ []) ∙ ap (λ (bs : List Body). accepts_of me done ++ bs) (append-nil (accept_of me x.origin x.index x.body))

-- what Accepts rest on is known once their items are applied
accept_rests : (me : ℕ) (logs : Logs) (x : LogItem) (b : Body) (bodies : List Body) (p : Standing) → item_at logs x.origin x.index ≡ Some x → ((q : Standing) → AllRest logs (items_for me bodies q)) → AllRest logs (items_for me (accept_of me x.origin x.index b ++ bodies) p)
accept_rests me logs x (body.Act inst) bodies p there rest = rest p
accept_rests me logs x (body.Accept from at) bodies p there rest = rest p
accept_rests me logs x (body.Out to r pc) bodies p there rest = by_test (to == me)
  where
    by_test : (t : Bool) → AllRest logs (items_for me (cond t (body.Accept x.origin x.index ∷ []) [] ++ bodies) p)
    by_test true = (slice_get_within (log_at logs x.origin) x.index x there, rest (logged me (body.Accept x.origin x.index) p))
    by_test false = rest p

accepts_rest : (me : ℕ) (logs : Logs) (items : List LogItem) (p : Standing) → AllByRecursion (λ x. item_at logs x.origin x.index ≡ Some x) items → AllRest logs (items_for me (accepts_of me items) p)
accepts_rest me logs [] p all = tt
accepts_rest me logs (x ∷ items) p all = accept_rests me logs x x.body (accepts_of me items) p all.0 (λ q. accepts_rest me logs items q all.1)

-- a replica that has accepted what the first of these items give to it
pub record Accepting (setup : Setup) (message : Message) (r : Replica) (front done : List LogItem) (p : Standing) : Type 0 where
  pub admits : Admitted setup message r front
  pub is : p ≡ logged_all r.me (accepts_of r.me done) (start_of message r front)
  pub goes : Goes setup (with_items message.from front (known_to r)) r.me p

-- what an item gives joins what is held then, by the logs with all that is applied
joins_here : (setup : Setup) (message : Message) (r : Replica) (front done rest : List LogItem) (p : Standing) (x : LogItem) (right : Right) (pc : Piece) → Accepting setup message r front done p → front ≡ done ++ x ∷ rest → x.body ≡ body.Out r.me right pc
    → can_accept setup.replicas (held_right setup (with_items message.from front (known_to r)) r.me p.log right (span_given pc)) pc ≡ true
joins_here setup message r front done rest p x right pc h is gives =
    let me : ℕ = r.me in
    let from : ℕ = message.from in
    let known : Logs = known_to r in
    let own : List LogItem = own_log r in
    let before : Logs = with_items from done known in
    let logs : Logs = with_items from front known in
    let bodies : List Body = accepts_of me done in
    let then' : Standing = record (standing_in (view_of r)) { cut = cut_after (cut_in r.store) done } in
    let start : Standing = start_of message r front in
    let place : from < length known = omega (arith, h.admits.heeded.fits.sender, h.admits.own.store.whole) in
    let row : AreInRow from (length (log_at known from)) done = own_front from (length (log_at known from)) done (x ∷ rest) (subst (AreInRow from (length (log_at known from))) is (are_others setup message r front h.admits).row) in
    let seen : AllRest known own = all_seen_rest known me own (own_seen setup (view_of r) h.admits.own.view) in
    let rests : AllRest before (own ++ items_for me bodies then') = each_append (λ (i : LogItem). RestsOn before i.deps i.body) own (items_for me bodies then') (all_rest_more known before own (grows_with from done known) seen)
    (accepts_rest me before done then' (items_placed from (length (log_at known from)) known done row refl place)) in
    let grown : GrowsTo before logs = subst (GrowsTo before) (with_both from known done (x ∷ rest) place ∙ ap (λ (l : List LogItem). with_items from l known) (sym is)) (grows_with from (x ∷ rest) before) in
    let log : p.log ≡ own ++ items_for me bodies start = ap (λ (q : Standing). q.log) h.is ∙ logged_items me bodies start in
    let same : held_right setup before me (logged_all me bodies then').log right (span_given pc) ≡ held_right setup logs me p.log right (span_given pc) =
    ap (λ (l : List LogItem). held_right setup before me l right (span_given pc)) (logged_items me bodies then') ∙ held_grown setup before logs me (own ++ items_for me bodies then') right (span_given pc) grown rests
    ∙ held_same setup logs me (own ++ items_for me bodies then') (own ++ items_for me bodies start) right (span_given pc) (same_logged me own bodies then' start (accepts_no_act me done)) ∙ ap (λ (l : List LogItem). held_right setup logs me l right (span_given pc)) (sym log) in
    let joins = subst (JoinsAfter setup (view_of r) from done) gives (joins_each setup message r front done rest x h.admits is) in
    subst (λ (have : Held). can_accept setup.replicas have pc ≡ true) same (joins refl)

-- once it has accepted that
accepted_one : (setup : Setup) (message : Message) (r : Replica) (front done rest : List LogItem) (p : Standing) (x : LogItem) (right : Right) (pc : Piece) → Accepting setup message r front done p → front ≡ done ++ x ∷ rest → x.body ≡ body.Out r.me right pc
    → item_at (with_items message.from front (known_to r)) x.origin x.index ≡ Some x → accept_of r.me x.origin x.index x.body ≡ body.Accept x.origin x.index ∷ [] → Accepting setup message r front (done ++ x ∷ []) (logged r.me (body.Accept x.origin x.index) p)
accepted_one setup message r front done rest p x right pc h is gives there accepts =
    let me : ℕ = r.me in
    let a : Body = body.Accept x.origin x.index in
    let logs : Logs = with_items message.from front (known_to r) in
    let start : Standing = start_of message r front in
    let item : LogItem = record { origin = me; index = length p.log; deps = p.cut; body = a } in
    record {
      admits = h.admits;
      is = ap (logged me a) h.is ∙ sym (ap (λ (bs : List Body). logged_all me bs start) (accepts_push me done x ∙ ap (λ (bs : List Body). accepts_of me done ++ bs) accepts) ∙ logged_append me (accepts_of me done) (a ∷ []) start);
      goes = goes_on setup logs me p a h.goes (slice_get_within (log_at logs x.origin) x.index x there)
          (accept_few setup logs me p.log item x x.origin x.index me right (span_given pc) pc h.goes.few refl there gives (joins_here setup message r front done rest p x right pc h is gives));
    }

-- where nothing is given
accepted_none : (setup : Setup) (message : Message) (r : Replica) (front done : List LogItem) (p : Standing) (x : LogItem) → Accepting setup message r front done p → accept_of r.me x.origin x.index x.body ≡ [] → Accepting setup message r front (done ++ x ∷ []) p
accepted_none setup message r front done p x h none =
    let start : Standing = start_of message r front in
    record {
      admits = h.admits;
      is = h.is ∙ sym (ap (λ (bs : List Body). logged_all r.me bs start) (accepts_push r.me done x ∙ ap (λ (bs : List Body). accepts_of r.me done ++ bs) none ∙ append-nil (accepts_of r.me done)));
      goes = h.goes;
    }

-- the Accept of it is next
accept_next : (setup : Setup) (message : Message) (r : Replica) (needs : List Need) (front done rest : List LogItem) (p : Standing) (x : LogItem) (right : Right) (pc : Piece) → Accepting setup message r front done p → front ≡ done ++ x ∷ rest → x.body ≡ body.Out r.me right pc
    → item_at (with_items message.from front (known_to r)) x.origin x.index ≡ Some x → ItemFits setup x → x.origin ≢ r.me
    → IsNext setup (slice_set (with_items message.from front (known_to r)) r.me p.log) r.me needs p (record { origin = r.me; index = length p.log; deps = p.cut; body = body.Accept x.origin x.index })
accept_next setup message r needs front done rest p x right pc h is gives there fits other =
    let me : ℕ = r.me in
    let logs : Logs = with_items message.from front (known_to r) in
    record {
      is = refl;
      fits = (fits.placed.origin, fits.placed.small);
      allowed = tt;
      along = record {
        other = other;
        out = x;
        right = right;
        piece = pc;
        there = ap (λ (l : List LogItem). slice_get l x.index) (get_or-set_other logs me x.origin p.log [] other) ∙ there;
        gives = gives;
        joins = subst (λ (have : Held). can_accept setup.replicas have pc ≡ true) (goes_held setup logs me p right (span_given pc) h.goes) (joins_here setup message r front done rest p x right pc h is gives);
      };
    }

-- an item of those that are applied
pub record IsApplied (setup : Setup) (logs : Logs) (me : ℕ) (x : LogItem) : Type 0 where
  pub there : item_at logs x.origin x.index ≡ Some x
  pub fits : ItemFits setup x
  pub other : x.origin ≢ me

pub all_applied : (setup : Setup) (message : Message) (r : Replica) (front : List LogItem) → Admitted setup message r front → AllByRecursion (IsApplied setup (with_items message.from front (known_to r)) r.me) front
all_applied setup message r front h =
    let others = are_others setup message r front h in
    let known : Logs = known_to r in
    let place : message.from < length known = omega (arith, h.heeded.fits.sender, h.own.store.whole) in
    both (with_items message.from front known) front (items_placed message.from (length (log_at known message.from)) known front others.row refl place) others.fits others.others
  where
    both : (logs : Logs) (items : List LogItem) → AllByRecursion (λ x. item_at logs x.origin x.index ≡ Some x) items → AllByRecursion (ItemFits setup) items → AllByRecursion (λ x. x.origin ≢ r.me) items → AllByRecursion (IsApplied setup logs r.me) items
    both logs [] there fits other = tt
    both logs (x ∷ items) there fits other = (record { there = there.0; fits = fits.0; other = other.0 }, both logs items there.1 fits.1 other.1)

-- what an item gives is accepted, in front of what is next then
record Accepts (setup : Setup) (message : Message) (r : Replica) (needs : List Need) (front done : List LogItem) (x : LogItem) (p : Standing) (accepts : List Body) : Type 0 where
  q : Standing
  now : Accepting setup message r front (done ++ x ∷ []) q
  next : (bodies : List Body) → AreNext setup (with_items message.from front (known_to r)) r.me needs q (items_for r.me bodies q) → AreNext setup (with_items message.from front (known_to r)) r.me needs p (items_for r.me (accepts ++ bodies) p)

accepts_one : (setup : Setup) (message : Message) (r : Replica) (needs : List Need) (front done todo : List LogItem) (x : LogItem) (p : Standing) → Accepting setup message r front done p → front ≡ done ++ x ∷ todo → IsApplied setup (with_items message.from front (known_to r)) r.me x
    → Accepts setup message r needs front done x p (accept_of r.me x.origin x.index x.body)
accepts_one setup message r needs front done todo x p h is applied = of_body x.body refl
  where
    of_none : (b : Body) → x.body ≡ b → accept_of r.me x.origin x.index b ≡ [] → Accepts setup message r needs front done x p []
    of_none b gives none = record { q = p; now = accepted_none setup message r front done p x h (ap (accept_of r.me x.origin x.index) gives ∙ none); next = λ bodies rest. rest }

    of_test : (to : ℕ) (right : Right) (pc : Piece) (t : Bool) → x.body ≡ body.Out to right pc → (to == r.me) ≡ t → Accepts setup message r needs front done x p (cond t (body.Accept x.origin x.index ∷ []) [])
    of_test to right pc false gives test = of_none (body.Out to right pc) gives (ap (λ (t : Bool). cond t (body.Accept x.origin x.index ∷ []) []) test)
    of_test to right pc true gives test =
        let mine : x.body ≡ body.Out r.me right pc = gives ∙ ap (λ n. body.Out n right pc) (eqb-true to r.me test) in
        let one : accept_of r.me x.origin x.index x.body ≡ body.Accept x.origin x.index ∷ [] = ap (accept_of r.me x.origin x.index) gives ∙ ap (λ (t : Bool). cond t (body.Accept x.origin x.index ∷ []) []) test in
        record {
          q = logged r.me (body.Accept x.origin x.index) p;
          now = accepted_one setup message r front done todo p x right pc h is mine applied.there one;
          next = λ bodies rest. (accept_next setup message r needs front done todo p x right pc h is mine applied.there applied.fits applied.other, rest);
        }

    of_body : (b : Body) → x.body ≡ b → Accepts setup message r needs front done x p (accept_of r.me x.origin x.index b)
    of_body (body.Act inst) gives = of_none (body.Act inst) gives refl
    of_body (body.Accept from at) gives = of_none (body.Accept from at) gives refl
    of_body (body.Out to right pc) gives = of_test to right pc (to == r.me) gives refl

-- so are the Accepts of all of them, and then the replica stands as it should
pub accepts_next : (setup : Setup) (message : Message) (r : Replica) (needs : List Need) (front done todo : List LogItem) (p : Standing) → Accepting setup message r front done p → front ≡ done ++ todo → AllByRecursion (IsApplied setup (with_items message.from front (known_to r)) r.me) todo
    → AreNext setup (with_items message.from front (known_to r)) r.me needs p (items_for r.me (accepts_of r.me todo) p) × Goes setup (with_items message.from front (known_to r)) r.me (logged_all r.me (accepts_of r.me front) (start_of message r front))
accepts_next setup message r needs front done [] p h is all =
    (tt, subst (Goes setup (with_items message.from front (known_to r)) r.me) (h.is ∙ ap (λ (l : List LogItem). logged_all r.me (accepts_of r.me l) (start_of message r front)) (sym (is ∙ append-nil done))) h.goes)
accepts_next setup message r needs front done (x ∷ todo) p h is all =
    let one = accepts_one setup message r needs front done todo x p h is all.0 in
    let rest = accepts_next setup message r needs front (done ++ x ∷ []) todo one.q one.now (is ∙ sym (append_assoc done (x ∷ []) todo)) all.1 in
    (one.next (accepts_of r.me todo) rest.0, rest.1)

-- it begins with what it holds
pub accepts_begin : (setup : Setup) (message : Message) (r : Replica) (front : List LogItem) → Admitted setup message r front → Accepting setup message r front [] (start_of message r front)
accepts_begin setup message r front h =
    let known : Logs = known_to r in
    let logs : Logs = with_items message.from front known in
    let own : List LogItem = own_log r in
    let grown : GrowsTo known logs = grows_with message.from front known in
    let seen : AllRest known own = all_seen_rest known r.me own (own_seen setup (view_of r) h.own.view) in
    record {
      admits = h;
      is = refl;
      goes = record {
        more = [];
        log = sym (own_stays setup r message.from front (are_others setup message r front h)) ∙ sym (append-nil (log_at logs r.me));
        rest = all_rest_more known logs own grown seen;
        few = λ q shared. let was = h.own.all.few.shares q shared in omega (arith, was, ap (λ (f : Right → ℕ). f q) (counts_alike setup known logs r.me own (all_alike known logs own grown seen)));
      };
    }
