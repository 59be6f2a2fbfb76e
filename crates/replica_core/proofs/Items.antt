-- The items of bodies that a replica logs one after the other, and the logs that it then knows.
use Rattle.std.proofs.Common.{◌≡◌, ℕ, zero, suc, ◌<◌, List, [], ◌∷◌, ◌++◌, length, map, set, refl, sym, ap, ◌∙◌, arith, length-set}
use Rattle.std.specs.Prelude.{None, Option, Some, slice_set}
use Rattle.std.specs.List.{AllByRecursion}
use Rattle.std.proofs.lemmas.List.{append-nil, append_assoc, get_or-set_same}
use Rattle.spec_model.specs.declared.plan.Setup.{Setup}
use Rattle.spec_model.specs.declared.instance.Inst.{Inst}
use Rattle.spec_model.specs.declared.right.Piece.{Piece}
use Rattle.spec_model.specs.declared.right.Right.{Right}
use Rattle.spec_model.specs.declared.right.Want.{Want}
use Rattle.spec_model.specs.declared.log.Body.{Body}
use Rattle.spec_model.specs.declared.log.Body.TheVariants as body
use Rattle.spec_model.specs.declared.log.LogItem.{LogItem}
use Rattle.run_model.specs.declared.batch.Batch.{Batch}
use Rattle.run_model.specs.Logs.{Logs, log_at, with_all}
use Rattle.run_model.specs.Steps.{accepts_of, given}
use Rattle.run_model.specs.Wants.{need_of, piece_for}
use Rattle.run_model.specs.Worlds.{Standing, Sending, holding, logged, logged_all}
use Rattle.run_model.proofs.Lists.{each_append}
use Rattle.message_laws.specs.Heeded.{with_items}
use Rattle.message_laws.proofs.Logged.{accepts_each, gives_for}

-- the items of these bodies, logged one after the other
abbrev pub items_for : ℕ → List Body → Standing → List LogItem
items_for me [] p = []
items_for me (b ∷ bodies) p = record { origin = me; index = length p.log; deps = p.cut; body = b } ∷ items_for me bodies (logged me b p)

pub logged_items : (me : ℕ) (bodies : List Body) (p : Standing) → (logged_all me bodies p).log ≡ p.log ++ items_for me bodies p
logged_items me [] p = sym (append-nil p.log)
logged_items me (b ∷ bodies) p =
    let item : LogItem = record { origin = me; index = length p.log; deps = p.cut; body = b } in
    logged_items me bodies (logged me b p) ∙ append_assoc p.log (item ∷ []) (items_for me bodies (logged me b p))

pub bodies_back : (me : ℕ) (bodies : List Body) (p : Standing) → map (λ (i : LogItem). i.body) (items_for me bodies p) ≡ bodies
bodies_back me [] p = refl
bodies_back me (b ∷ bodies) p = ap (λ (l : List Body). b ∷ l) (bodies_back me bodies (logged me b p))

pub items_long : (me : ℕ) (bodies : List Body) (p : Standing) → length (items_for me bodies p) ≡ length bodies
items_long me [] p = refl
items_long me (b ∷ bodies) p = let rest = items_long me bodies (logged me b p) in omega (arith, rest)

pub items_both : (me : ℕ) (bs cs : List Body) (p : Standing) → items_for me (bs ++ cs) p ≡ items_for me bs p ++ items_for me cs (logged_all me bs p)
items_both me [] cs p = refl
items_both me (b ∷ bs) cs p = let item : LogItem = record { origin = me; index = length p.log; deps = p.cut; body = b } in ap (λ (l : List LogItem). item ∷ l) (items_both me bs cs (logged me b p))

pub items_origin : (me : ℕ) (bodies : List Body) (p : Standing) → AllByRecursion (λ i. i.origin ≡ me) (items_for me bodies p)
items_origin me [] p = tt
items_origin me (b ∷ bodies) p = (refl, items_origin me bodies (logged me b p))

-- whatever is wanted, was told, was sent and was kept
pub logged_stamped : (me : ℕ) (bodies : List Body) (p : Standing) (stamp : ℕ) (sendings : List Sending) (kept : List Batch) → logged_all me bodies (record p { stamp = stamp; sendings = sendings; kept = kept }) ≡ record (logged_all me bodies p) { stamp = stamp; sendings = sendings; kept = kept }
logged_stamped me [] p stamp sendings kept = refl
logged_stamped me (b ∷ bodies) p stamp sendings kept = logged_stamped me bodies (logged me b p) stamp sendings kept

pub gives_stamped : (setup : Setup) (logs : Logs) (me to : ℕ) (wants : List Want) (p : Standing) (stamp : ℕ) (sendings : List Sending) (kept : List Batch) → gives_for setup logs me to wants (record p { stamp = stamp; sendings = sendings; kept = kept }) ≡ gives_for setup logs me to wants p
gives_stamped setup logs me to [] p stamp sendings kept = refl
gives_stamped setup logs me to (w ∷ wants) p stamp sendings kept =
    let bodies : List Body = given (piece_for (holding setup logs me p (need_of w)) w.ask) to w.right in
    ap (λ (q : Standing). bodies ++ gives_for setup logs me to wants q) (logged_stamped me bodies p stamp sendings kept) ∙ ap (λ (l : List Body). bodies ++ l) (gives_stamped setup logs me to wants (logged_all me bodies p) stamp sendings kept)

-- ---- no acts

abbrev pub IsNoAct : Body → Type 0
IsNoAct b = (inst : Inst) → b ≡ body.Act inst → ⊥

pub accepts_no_act : (me : ℕ) (items : List LogItem) → AllByRecursion IsNoAct (accepts_of me items)
accepts_no_act me items = accepts_each IsNoAct me items (none items)
  where
    none : (xs : List LogItem) → AllByRecursion (λ x. IsNoAct (body.Accept x.origin x.index)) xs
    none [] = tt
    none (x ∷ xs) = ((λ inst wrong. cc), none xs)

given_no_act : (o : Option Piece) (to : ℕ) (r : Right) → AllByRecursion IsNoAct (given o to r)
given_no_act None to r = tt
given_no_act (Some pc) to r = ((λ inst wrong. cc), tt)

pub gives_no_act : (setup : Setup) (logs : Logs) (me to : ℕ) (wants : List Want) (p : Standing) → AllByRecursion IsNoAct (gives_for setup logs me to wants p)
gives_no_act setup logs me to [] p = tt
gives_no_act setup logs me to (w ∷ wants) p =
    let o : Option Piece = piece_for (holding setup logs me p (need_of w)) w.ask in
    let q : Standing = logged_all me (given o to w.right) p in
    each_append IsNoAct (given o to w.right) (gives_for setup logs me to wants q) (given_no_act o to w.right) (gives_no_act setup logs me to wants q)

-- ---- logs

-- setting a place twice
pub set_again : (logs : Logs) (i : ℕ) (x y : List LogItem) → set (set logs i x) i y ≡ set logs i y
set_again [] i x y = refl
set_again (z ∷ logs) zero x y = refl
set_again (z ∷ logs) (suc i) x y = ap (λ (l : Logs). z ∷ l) (set_again logs i x y)

-- setting a place to what it has
pub set_back : (logs : Logs) (i : ℕ) → set logs i (log_at logs i) ≡ logs
set_back [] i = refl
set_back (x ∷ logs) zero = refl
set_back (x ∷ logs) (suc i) = ap (λ (l : Logs). x ∷ l) (set_back logs i)

-- no items leave the logs as they are
pub with_none : (from : ℕ) (known : Logs) → with_items from [] known ≡ known
with_none from known = ap (set known from) (append-nil (log_at known from)) ∙ set_back known from

-- with one item more
pub with_more : (from : ℕ) (known : Logs) (items : List LogItem) (x : LogItem) → from < length known
    → slice_set (with_items from items known) from (log_at (with_items from items known) from ++ x ∷ []) ≡ with_items from (items ++ x ∷ []) known
with_more from known items x lt =
    set_again known from (log_at known from ++ items) (log_at (with_items from items known) from ++ x ∷ [])
    ∙ ap (λ (l : List LogItem). slice_set known from (l ++ x ∷ [])) (get_or-set_same known from (log_at known from ++ items) [] lt) ∙ ap (slice_set known from) (append_assoc (log_at known from) items (x ∷ []))

pub with_all_append : (xs ys : List LogItem) (logs : Logs) → with_all (xs ++ ys) logs ≡ with_all ys (with_all xs logs)
with_all_append [] ys logs = refl
with_all_append (x ∷ xs) ys logs = with_all_append xs ys (slice_set logs x.origin (log_at logs x.origin ++ x ∷ []))

-- items of one log go to its end
pub with_all_of : (o : ℕ) (items : List LogItem) (logs : Logs) → AllByRecursion (λ i. i.origin ≡ o) items → o < length logs → with_all items logs ≡ with_items o items logs
with_all_of o [] logs all lt = sym (with_none o logs)
with_all_of o (x ∷ items) logs all lt =
    let next : Logs = slice_set logs o (log_at logs o ++ x ∷ []) in
    ap (λ i. with_all items (slice_set logs i (log_at logs i ++ x ∷ []))) all.0 ∙ with_all_of o items next all.1 (omega (arith, lt, length-set logs o (log_at logs o ++ x ∷ [])))
    ∙ ap (λ (l : List LogItem). slice_set next o (l ++ items)) (get_or-set_same logs o (log_at logs o ++ x ∷ []) [] lt) ∙ set_again logs o (log_at logs o ++ x ∷ []) ((log_at logs o ++ x ∷ []) ++ items)
    ∙ ap (slice_set logs o) (append_assoc (log_at logs o) (x ∷ []) items)
