-- Items that a replica may log next, one after the other.
use Rattle.std.proofs.Common.{◌≡◌, ◌≢◌, ℕ, List, [], ◌∷◌, ◌++◌, map, refl, sym, ap, subst, ◌∙◌, arith}
use Rattle.std.specs.Prelude.{Option, slice_get, slice_set}
use Rattle.std.specs.List.{AllByRecursion}
use Rattle.std.proofs.lemmas.List.{get_or-set_other}
use Rattle.spec_model.specs.declared.plan.Setup.{Setup}
use Rattle.spec_model.specs.declared.right.Need.{Need}
use Rattle.spec_model.specs.declared.log.Body.{Body}
use Rattle.spec_model.specs.declared.log.Body.TheVariants as body
use Rattle.spec_model.specs.declared.log.LogItem.{LogItem}
use Rattle.run_model.specs.Allowed.{IsAllowed}
use Rattle.run_model.specs.Fitting.{BodyFits, ItemFits, NeedFits}
use Rattle.run_model.specs.Logs.{Logs, log_at}
use Rattle.run_model.specs.States.{truths_in}
use Rattle.run_model.specs.Worlds.{Standing, logged, logged_all}
use Rattle.run_model.proofs.Lists.{each_at}
use Rattle.causal_store.proofs.Stored.{each_log}
use Rattle.rights_table.specs.declared.table.Table.{Table}
use Rattle.rights_table.specs.Tables.{KeepsEntries}
use Rattle.rights_table.specs.Whole.{GoesWith, HasEntryFor, MayOwn}
use Rattle.message_laws.specs.Laws.{NeedsFit}
use Rattle.message_laws.specs.Views.{IsKnown}
use Rattle.replica_core.specs.Next.{AreEntered, AreNext, GoesAlong, HasPut, IsNext, body_of, taken_by}
use Rattle.replica_core.specs.Replicas.{HasLogged, HasRoom, IsReplica, KnowsOwn, known_to, own_log, standing_of, view_of}
use Rattle.replica_core.specs.declared.replica.Replica.{Replica}
use Rattle.replica_core.proofs.Items.{items_for, set_again, set_back}
use Rattle.std.proofs.lemmas.Option.{slice_get_within}

-- ---- one item

-- what an item of a replica's own log may accept is known
pub along_known : (setup : Setup) (logs : Logs) (me : ℕ) (needs : List Need) (p : Standing) (b : Body) → GoesAlong setup logs me needs p b → IsKnown logs me b
along_known setup logs me needs p (body.Act inst) h = tt
along_known setup logs me needs p (body.Out to r piece) h = tt
along_known setup logs me needs p (body.Accept from at) h = (h.other, slice_get_within (log_at logs from) at h.out h.there)

-- the table may do what it does
goes_with : NeedsFit → (setup : Setup) (r : Replica) (b : Body) → IsReplica setup r.me r → BodyFits setup b → GoesAlong setup (known_to r) r.me r.needs (standing_of 0 [] [] r) b
    → GoesWith setup (known_to r) r.me (own_log r) (view_of r).cut (taken_by (known_to r) b) r.needs b
goes_with need setup r (body.Act inst) own fits h = (h, subst (AllByRecursion (NeedFits setup)) (sym h) (need setup (truths_in setup.spec (known_to r) (view_of r).cut) inst own.setup_fits fits))
goes_with need setup r (body.Out to right piece) own fits h = tt
goes_with need setup r (body.Accept from at) own fits h =
    let known : Logs = known_to r in
    let there : BodyFits setup h.out.body = (each_at (ItemFits setup) (log_at known from) at h.out (each_log (ItemFits setup) known from own.view.fits) h.there).body in
    let out = subst (BodyFits setup) h.gives there in
    record {
      out = h.out;
      to = r.me;
      right = h.right;
      piece = h.piece;
      there = h.there;
      of_is = ap body_of h.there;
      gives = h.gives;
      right_fits = out.1;
      piece_fits = out.2;
      joins = h.joins;
    }

may_own : NeedsFit → (setup : Setup) (r : Replica) (item : LogItem) → IsReplica setup r.me r → IsNext setup (known_to r) r.me r.needs (standing_of 0 [] [] r) item → HasRoom 1 r → MayOwn setup (known_to r) r.me (own_log r) item (taken_by (known_to r) item.body) r.needs
may_own need setup r item own next room =
    let deps : item.deps ≡ (view_of r).cut = ap (λ (i : LogItem). i.deps) next.is in
    record {
      fits = next.fits;
      allowed = subst (λ (d : List ℕ). IsAllowed setup (known_to r) r.me (own_log r) d item.body) (sym deps) next.allowed;
      with = subst (λ (d : List ℕ). GoesWith setup (known_to r) r.me (own_log r) d (taken_by (known_to r) item.body) r.needs item.body) (sym deps) (goes_with need setup r item.body own next.fits next.along);
      few = omega (arith, room);
    }

-- by what goes with it in the code
pub may_own_with : NeedsFit → (setup : Setup) (r : Replica) (item : LogItem) (of : Option Body) (needs : List Need) → IsReplica setup r.me r → IsNext setup (known_to r) r.me r.needs (standing_of 0 [] [] r) item → HasRoom 1 r → of ≡ taken_by (known_to r) item.body → needs ≡ r.needs
    → MayOwn setup (known_to r) r.me (own_log r) item of needs
may_own_with need setup r item of needs own next room of_is needs_are =
    subst (λ o. MayOwn setup (known_to r) r.me (own_log r) item o needs) (sym of_is) (subst (MayOwn setup (known_to r) r.me (own_log r) item (taken_by (known_to r) item.body)) (sym needs_are) (may_own need setup r item own next room))

-- ---- one after the other

-- they are next by logs that are the same but for the own one
pub next_set : (setup : Setup) (a b : Logs) (me : ℕ) (needs : List Need) (p : Standing) (items : List LogItem) → ((l : List LogItem) → slice_set a me l ≡ slice_set b me l) → AreNext setup a me needs p items → AreNext setup b me needs p items
next_set setup a b me needs p [] same next = tt
next_set setup a b me needs p (x ∷ items) same next = (subst (λ (l : Logs). IsNext setup l me needs p x) (same p.log) next.0, next_set setup a b me needs (logged me x.body p) items same next.1)

-- what is known then is known but for the own log
pub then_same : (known : Logs) (new : Replica) → KnowsOwn known new → (l : List LogItem) → slice_set known new.me l ≡ slice_set (known_to new) new.me l
then_same known new knows l = sym (ap (λ (k : Logs). slice_set k new.me l) knows ∙ set_again known new.me (own_log new) l)

-- once the first item was logged the others are next
pub next_then : (setup : Setup) (needs : List Need) (b : Body) (old new : Replica) (items : List LogItem) → HasLogged setup b old new → AreNext setup (known_to old) old.me needs (logged old.me b (standing_of 0 [] [] old)) items → AreNext setup (known_to new) new.me needs (standing_of 0 [] [] new) items
next_then setup needs b old new items h next =
    let there : AreNext setup (known_to old) new.me needs (standing_of 0 [] [] new) items =
    subst (λ i. AreNext setup (known_to old) i needs (standing_of 0 [] [] new) items) (sym h.own.me_is) (subst (λ (q : Standing). AreNext setup (known_to old) old.me needs q items) (sym (h.stands 0 [] [])) next) in
    next_set setup (known_to old) (known_to new) new.me needs (standing_of 0 [] [] new) items (then_same (known_to old) new h.knows) there

-- the first one is next by what is known
pub next_first : (setup : Setup) (r : Replica) (needs : List Need) (x : LogItem) (items : List LogItem) → AreNext setup (known_to r) r.me needs (standing_of 0 [] [] r) (x ∷ items) → IsNext setup (known_to r) r.me needs (standing_of 0 [] [] r) x
next_first setup r needs x items next = subst (λ (l : Logs). IsNext setup l r.me needs (standing_of 0 [] [] r) x) (set_back (known_to r) r.me) next.0

pub next_one : (setup : Setup) (r : Replica) (needs : List Need) (x : LogItem) → IsNext setup (known_to r) r.me needs (standing_of 0 [] [] r) x → AreNext setup (known_to r) r.me needs (standing_of 0 [] [] r) (x ∷ [])
next_one setup r needs x next = (subst (λ (l : Logs). IsNext setup l r.me needs (standing_of 0 [] [] r) x) (sym (set_back (known_to r) r.me)) next, tt)

-- by the same log and cut the same items are next
pub next_like : (setup : Setup) (logs : Logs) (me : ℕ) (needs : List Need) (p q : Standing) (items : List LogItem) → p.log ≡ q.log → p.cut ≡ q.cut → AreNext setup logs me needs p items → AreNext setup logs me needs q items
next_like setup logs me needs p q items log cut next =
    subst (λ (l : List LogItem). AreNext setup logs me needs (record q { log = l }) items) log (subst (λ (k : List ℕ). AreNext setup logs me needs (record q { log = p.log; cut = k }) items) cut (bare items p q next))
  where
    along : (logs : Logs) (p q : Standing) (b : Body) → GoesAlong setup logs me needs p b → GoesAlong setup logs me needs (record q { log = p.log; cut = p.cut }) b
    along logs p q (body.Act inst) h = h
    along logs p q (body.Out to r piece) h = h
    along logs p q (body.Accept from at) h = h

    bare : (items : List LogItem) (p q : Standing) → AreNext setup logs me needs p items → AreNext setup logs me needs (record q { log = p.log; cut = p.cut }) items
    bare [] p q next = tt
    bare (x ∷ items) p q next = (record { is = next.0.is; fits = next.0.fits; allowed = next.0.allowed; along = along (slice_set logs me p.log) p q x.body next.0.along }, bare items (logged me x.body p) q next.1)

-- items that are next are those that their bodies make
pub next_items : (setup : Setup) (logs : Logs) (me : ℕ) (needs : List Need) (p : Standing) (items : List LogItem) → AreNext setup logs me needs p items → items_for me (map (λ (i : LogItem). i.body) items) p ≡ items
next_items setup logs me needs p [] next = refl
next_items setup logs me needs p (x ∷ items) next =
    ap (λ (i : LogItem). i ∷ items_for me (map (λ (j : LogItem). j.body) items) (logged me x.body p)) (sym next.0.is) ∙ ap (λ (l : List LogItem). x ∷ l) (next_items setup logs me needs (logged me x.body p) items next.1)

-- first those of these bodies, and then others
pub next_both : (setup : Setup) (logs : Logs) (me : ℕ) (needs : List Need) (bodies : List Body) (p : Standing) (items : List LogItem) → AreNext setup logs me needs p (items_for me bodies p) → AreNext setup logs me needs (logged_all me bodies p) items → AreNext setup logs me needs p (items_for me bodies p ++ items)
next_both setup logs me needs [] p items first then' = then'
next_both setup logs me needs (b ∷ bodies) p items first then' = (first.0, next_both setup logs me needs bodies (logged me b p) items first.1 then')

pub next_front : (setup : Setup) (logs : Logs) (me : ℕ) (needs : List Need) (bodies : List Body) (p : Standing) (items : List LogItem) → AreNext setup logs me needs p (items_for me bodies p ++ items) → AreNext setup logs me needs p (items_for me bodies p) × AreNext setup logs me needs (logged_all me bodies p) items
next_front setup logs me needs [] p items next = (tt, next)
next_front setup logs me needs (b ∷ bodies) p items next = let rest = next_front setup logs me needs bodies (logged me b p) items next.1 in ((next.0, rest.0), rest.1)

-- each of them fits
pub next_fit : (setup : Setup) (logs : Logs) (me : ℕ) (needs : List Need) (p : Standing) (items : List LogItem) → AreNext setup logs me needs p items → AllByRecursion (λ i. BodyFits setup i.body) items
next_fit setup logs me needs p [] next = tt
next_fit setup logs me needs p (x ∷ items) next = (next.0.fits, next_fit setup logs me needs (logged me x.body p) items next.1)

-- ---- entries

-- an entry that there was is one still
entry_then : (setup : Setup) (me : ℕ) (logs a b : Logs) (needs : List Need) (p : Standing) (s t : Table) (what : Body) → ((j : ℕ) → j ≢ me → log_at a j ≡ log_at b j) → KeepsEntries s t → GoesAlong setup logs me needs p what
    → HasEntryFor setup what (taken_by a what) needs s → HasEntryFor setup what (taken_by b what) needs t
entry_then setup me logs a b needs p s t (body.Act inst) same keeps along h = ((λ q is. keeps q (h.0 q is)), (λ need choice here one shared. keeps choice.right (h.1 need choice here one shared)))
entry_then setup me logs a b needs p s t (body.Out to r piece) same keeps along h = keeps r h
entry_then setup me logs a b needs p s t (body.Accept from at) same keeps along h = λ to r piece is. keeps r (h to r piece (ap (λ (l : List LogItem). body_of (slice_get l at)) (same from along.other) ∙ is))

entered_then : (setup : Setup) (me : ℕ) (logs a b : Logs) (needs : List Need) (p : Standing) (s t : Table) (items : List LogItem) → ((j : ℕ) → j ≢ me → log_at a j ≡ log_at b j) → KeepsEntries s t → AreNext setup logs me needs p items
    → AreEntered setup a needs s items → AreEntered setup b needs t items
entered_then setup me logs a b needs p s t [] same keeps next h = tt
entered_then setup me logs a b needs p s t (x ∷ items) same keeps next h =
    (entry_then setup me (slice_set logs me p.log) a b needs p s t x.body same keeps next.0.along h.0, entered_then setup me logs a b needs (logged me x.body p) s t items same keeps next.1 h.1)

-- once more was logged, those that are next still have their entries
pub entered_on : (setup : Setup) (known : Logs) (needs : List Need) (old new : Replica) (p : Standing) (logs : Logs) (items : List LogItem) → KnowsOwn known new → KeepsEntries old.table new.table → AreNext setup logs new.me needs p items
    → AreEntered setup known needs old.table items → AreEntered setup (known_to new) needs new.table items
entered_on setup known needs old new p logs items knows keeps next h =
    entered_then setup new.me logs known (known_to new) needs p old.table new.table items (λ j ne. sym (ap (λ (l : Logs). log_at l j) knows ∙ get_or-set_other known new.me j (own_log new) [] ne)) keeps next h

pub entered_next : (setup : Setup) (b : Body) (old new : Replica) (items : List LogItem) → HasLogged setup b old new → HasPut old new → AreNext setup (known_to new) new.me old.needs (standing_of 0 [] [] new) items → AreEntered setup (known_to old) old.needs old.table items
    → AreEntered setup (known_to new) new.needs new.table items
entered_next setup b old new items h put next entered =
    subst (λ (n : List Need). AreEntered setup (known_to new) n new.table items) (sym put.needs) (entered_on setup (known_to old) old.needs old new (standing_of 0 [] [] new) (known_to new) items h.knows put.kept next entered)
