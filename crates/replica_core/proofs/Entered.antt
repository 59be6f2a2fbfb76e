-- Room was made for all that is logged of a message.
use Rattle.std.proofs.Common.{◌≡◌, ℕ, Bool, true, false, cond, List, [], ◌∷◌, ◌++◌, refl, sym, ap, subst, ◌∙◌}
use Rattle.std.specs.Prelude.{Contains, None, Option, Some, ◌==◌}
use Rattle.std.specs.List.{AllByRecursion}
use Rattle.std.proofs.lemmas.Option.{same_Some}
use Rattle.spec_model.specs.declared.plan.Setup.{Setup}
use Rattle.spec_model.specs.declared.right.Need.{Need}
use Rattle.spec_model.specs.declared.right.Piece.{Piece}
use Rattle.spec_model.specs.declared.right.Right.{Right}
use Rattle.spec_model.specs.declared.right.Want.{Want}
use Rattle.spec_model.specs.declared.log.Body.{Body}
use Rattle.spec_model.specs.declared.log.Body.TheVariants as body
use Rattle.spec_model.specs.declared.log.LogItem.{LogItem}
use Rattle.run_model.specs.declared.message.Message.{Message}
use Rattle.run_model.specs.Logs.{Logs, item_at}
use Rattle.run_model.specs.Steps.{accept_of, accepts_of, given}
use Rattle.run_model.specs.Wants.{need_of, piece_for}
use Rattle.run_model.specs.Worlds.{Standing, holding, logged, logged_all}
use Rattle.run_model.proofs.Lists.{each_append, each_weaker}
use Rattle.rights_table.specs.declared.table.Table.{Table}
use Rattle.rights_table.specs.Tables.{IsEntered}
use Rattle.rights_table.specs.Whole.{HasEntryFor}
use Rattle.message_laws.specs.Heeded.{with_items}
use Rattle.message_laws.proofs.Lists.{each_among, each_parts}
use Rattle.message_laws.proofs.Logged.{gives_for}
use Rattle.message_drafts.specs.declared.taken.Taken.{Taken}
use Rattle.replica_core.specs.Decisions.{IsReadyFor}
use Rattle.replica_core.specs.Next.{AreEntered, body_of, taken_by}
use Rattle.replica_core.specs.Replicas.{known_to}
use Rattle.replica_core.specs.declared.replica.Replica.{Replica}
use Rattle.replica_core.proofs.Applied.{IsApplied, all_applied, start_of}
use Rattle.replica_core.proofs.Committed.{Plans, before_of, gives_of}
use Rattle.replica_core.proofs.Items.{items_for}

-- where the item gives a right, that has an entry
abbrev pub HasOut : Table → LogItem → Type 0
HasOut t x = (to : ℕ) (r : Right) (pc : Piece) → x.body ≡ body.Out to r pc → IsEntered t r

-- an Accept of such an item has its entry
accept_entry : (setup : Setup) (logs : Logs) (needs : List Need) (t : Table) (x : LogItem) → HasOut t x → item_at logs x.origin x.index ≡ Some x → HasEntryFor setup (body.Accept x.origin x.index) (taken_by logs (body.Accept x.origin x.index)) needs t
accept_entry setup logs needs t x out there = λ to r pc is. out to r pc (same_Some x.body (body.Out to r pc) (sym (ap body_of there) ∙ is))

accept_entered : (setup : Setup) (me : ℕ) (logs : Logs) (needs : List Need) (t : Table) (x : LogItem) (b : Body) (bodies : List Body) (p : Standing) → HasOut t x → item_at logs x.origin x.index ≡ Some x → ((q : Standing) → AreEntered setup logs needs t (items_for me bodies q))
    → AreEntered setup logs needs t (items_for me (accept_of me x.origin x.index b ++ bodies) p)
accept_entered setup me logs needs t x (body.Act inst) bodies p out there rest = rest p
accept_entered setup me logs needs t x (body.Accept from at) bodies p out there rest = rest p
accept_entered setup me logs needs t x (body.Out to r pc) bodies p out there rest = by_test (to == me)
  where
    by_test : (b : Bool) → AreEntered setup logs needs t (items_for me (cond b (body.Accept x.origin x.index ∷ []) [] ++ bodies) p)
    by_test true = (accept_entry setup logs needs t x out there, rest (logged me (body.Accept x.origin x.index) p))
    by_test false = rest p

accepts_entered : (setup : Setup) (me : ℕ) (logs : Logs) (needs : List Need) (t : Table) (items : List LogItem) (p : Standing) → AllByRecursion (HasOut t) items → AllByRecursion (IsApplied setup logs me) items → AreEntered setup logs needs t (items_for me (accepts_of me items) p)
accepts_entered setup me logs needs t [] p outs there = tt
accepts_entered setup me logs needs t (x ∷ items) p outs there = accept_entered setup me logs needs t x x.body (accepts_of me items) p outs.0 there.0.there (λ q. accepts_entered setup me logs needs t items q outs.1 there.1)

-- what is given has its entry
given_entered : (setup : Setup) (me to : ℕ) (logs : Logs) (needs : List Need) (t : Table) (r : Right) (o : Option Piece) (bodies : List Body) (p : Standing) → (AllByRecursion (HasOut t) (items_for me bodies (logged_all me (given o to r) p)) → AreEntered setup logs needs t (items_for me bodies (logged_all me (given o to r) p)))
    → AllByRecursion (HasOut t) (items_for me (given o to r ++ bodies) p) → AreEntered setup logs needs t (items_for me (given o to r ++ bodies) p)
given_entered setup me to logs needs t r None bodies p rest outs = rest outs
given_entered setup me to logs needs t r (Some pc) bodies p rest outs = (outs.0 to r pc refl, rest outs.1)

gives_entered : (setup : Setup) (me to : ℕ) (logs : Logs) (needs : List Need) (t : Table) (wants : List Want) (p : Standing) → AllByRecursion (HasOut t) (items_for me (gives_for setup logs me to wants p) p) → AreEntered setup logs needs t (items_for me (gives_for setup logs me to wants p) p)
gives_entered setup me to logs needs t [] p outs = tt
gives_entered setup me to logs needs t (w ∷ wants) p outs =
    let o : Option Piece = piece_for (holding setup logs me p (need_of w)) w.ask in
    let q : Standing = logged_all me (given o to w.right) p in
    given_entered setup me to logs needs t w.right o (gives_for setup logs me to wants q) p (gives_entered setup me to logs needs t wants q) outs

pub plans_entered : (setup : Setup) (message : Message) (r : Replica) (taken : Taken) (front accepts outs : List LogItem) → Plans setup message r taken front accepts outs → IsReadyFor setup r (front ++ (accepts ++ outs)) → AreEntered setup (with_items message.from front (known_to r)) r.needs r.table (accepts ++ outs)
plans_entered setup message r taken front accepts outs plans ready =
    let logs : Logs = with_items message.from front (known_to r) in
    let items : List LogItem = front ++ (accepts ++ outs) in
    let Entry : LogItem → Type 0 = λ i. HasEntryFor setup i.body (taken_by logs i.body) r.needs r.table in
    let all : AllByRecursion (HasOut r.table) items = each_weaker (Contains items) (HasOut r.table) (λ x there to right pc is. ready.entries.outs x to right pc there is) items (each_among items) in
    let halves = each_parts (HasOut r.table) front (accepts ++ outs) all in
    let given_outs = (each_parts (HasOut r.table) accepts outs halves.1).1 in
    let before = before_of setup message r front in
    let these : AllByRecursion (HasOut r.table) (items_for r.me (gives_of setup message r front) before) = subst (AllByRecursion (HasOut r.table)) plans.outs_are given_outs in
    each_append Entry accepts outs (subst (AllByRecursion Entry) (sym plans.accepts_are) (accepts_entered setup r.me logs r.needs r.table front (start_of message r front) halves.0 (all_applied setup message r front plans.admits)))
    (subst (AllByRecursion Entry) (sym plans.outs_are) (gives_entered setup r.me message.from logs r.needs r.table message.wants before these))
