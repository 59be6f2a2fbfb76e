-- The items that a replica logs name what there is: replicas, rights and instances that fit.
use Rattle.std.proofs.Common.{◌≡◌, ℕ, ◌+◌, ◌<◌, ◌≤◌, ◌^◌, List, [], ◌∷◌, ◌++◌, length, refl, sym, ◌∙◌, arith, length-append, length-set}
use Rattle.std.specs.Prelude.{Some, None, Option, ◌==◌}
use Rattle.std.specs.List.{AllByRecursion}
use Rattle.std.proofs.lemmas.Bool.{cond_both}
use Rattle.std.proofs.lemmas.List.{length_push}
use Rattle.spec_model.specs.declared.plan.Setup.{Setup}
use Rattle.spec_model.specs.declared.right.Piece.{Piece}
use Rattle.spec_model.specs.declared.right.Right.{Right}
use Rattle.spec_model.specs.declared.right.Want.{Want}
use Rattle.spec_model.specs.declared.log.Body.{Body}
use Rattle.spec_model.specs.declared.log.Body.TheVariants as body
use Rattle.spec_model.specs.declared.log.LogItem.{LogItem}
use Rattle.spec_model.specs.Fits.{InstFits}
use Rattle.run_model.specs.Logs.{Logs}
use Rattle.run_model.specs.Fitting.{IsPlaced, RightFits, WantFits}
use Rattle.run_model.specs.Steps.{accept_of, accepts_of, answered, given}
use Rattle.run_model.specs.Wants.{need_of, piece_for}
use Rattle.run_model.specs.Worlds.{Standing, holding, logged, logged_all}
use Rattle.run_model.proofs.Lists.{each_append}
use Rattle.message_laws.proofs.Runs.{IsInOrder, piece_ordered}

-- ---- what is named

-- as where it fits, but for the size of a piece, whose points are in order
abbrev pub BodyNames : Setup → Body → Type 0
BodyNames setup (body.Act inst) = InstFits setup.spec inst
BodyNames setup (body.Out to r given) = (to < setup.replicas) × RightFits setup r × IsInOrder given
BodyNames setup (body.Accept from index) = (from < setup.replicas) × (index + 1 < 2 ^ 32)

pub record ItemNames (setup : Setup) (item : LogItem) : Type 0 where
  pub placed : IsPlaced setup.replicas item
  pub body : BodyNames setup item.body

-- what a replica logged names what there is, and its cut counts the items of each replica
pub record LogNames (setup : Setup) (me : ℕ) (p : Standing) : Type 0 where
  pub place : me < setup.replicas
  pub wide : length p.cut ≡ setup.replicas
  pub log : AllByRecursion (ItemNames setup) p.log

-- so does the item that it logs, where its body does
pub logged_names : (setup : Setup) (me : ℕ) (b : Body) (p : Standing) → BodyNames setup b → length p.log + 1 < 2 ^ 32 → LogNames setup me p → LogNames setup me (logged me b p)
logged_names setup me b p fits room h = record {
  place = h.place;
  wide = length-set p.cut me (length p.log + 1) ∙ h.wide;
  log = each_append (ItemNames setup) p.log _ h.log (record { placed = record { origin = h.place; small = room; past = h.wide }; body = fits }, tt);
}

-- and so do several
pub all_logged_names : (setup : Setup) (me : ℕ) (bodies : List Body) (p : Standing) → AllByRecursion (BodyNames setup) bodies → length p.log + length bodies < 2 ^ 32 → LogNames setup me p → LogNames setup me (logged_all me bodies p)
all_logged_names setup me [] p fit room h = h
all_logged_names setup me (b ∷ bodies) p fit room h =
    all_logged_names setup me bodies (logged me b p) fit.1 (omega (arith, room, length_push p.log (record { origin = me; index = length p.log; deps = p.cut; body = b })))
    (logged_names setup me b p fit.0 (omega (arith, room)) h)

-- ---- several bodies

pub logged_length : (me : ℕ) (bodies : List Body) (p : Standing) → length (logged_all me bodies p).log ≡ length p.log + length bodies
logged_length me [] p = omega arith
logged_length me (b ∷ bodies) p = let rest = logged_length me bodies (logged me b p) in omega (arith, rest, length_push p.log (record { origin = me; index = length p.log; deps = p.cut; body = b }))

pub logged_append : (me : ℕ) (bs cs : List Body) (p : Standing) → logged_all me (bs ++ cs) p ≡ logged_all me cs (logged_all me bs p)
logged_append me [] cs p = refl
logged_append me (b ∷ bs) cs p = logged_append me bs cs (logged me b p)

-- wants, what was told and what was sent stay as they are
pub logged_keeps : (me : ℕ) (bodies : List Body) (p : Standing) → ((logged_all me bodies p).wants ≡ p.wants) × ((logged_all me bodies p).told ≡ p.told) × ((logged_all me bodies p).sendings ≡ p.sendings)
logged_keeps me [] p = (refl, refl, refl)
logged_keeps me (b ∷ bodies) p = logged_keeps me bodies (logged me b p)

-- ---- Accepts

-- what holds of an Accept of each item holds of the Accepts of those that are given to this replica
pub accepts_each : (P : Body → Type 0) (me : ℕ) (items : List LogItem) → AllByRecursion (λ x. P (body.Accept x.origin x.index)) items → AllByRecursion P (accepts_of me items)
accepts_each P me [] all = tt
accepts_each P me (x ∷ items) all = each_append P (accept_of me x.origin x.index x.body) (accepts_of me items) (of_body x.body) (accepts_each P me items all.1)
  where
    of_body : (b : Body) → AllByRecursion P (accept_of me x.origin x.index b)
    of_body (body.Act inst) = tt
    of_body (body.Out to r given) = cond_both (to == me) (body.Accept x.origin x.index ∷ []) [] (AllByRecursion P) (λ mine. (all.0, tt)) (λ others. tt)
    of_body (body.Accept from at) = tt

pub accepts_name : (setup : Setup) (me : ℕ) (items : List LogItem) → AllByRecursion (IsPlaced setup.replicas) items → AllByRecursion (BodyNames setup) (accepts_of me items)
accepts_name setup me items placed = accepts_each (BodyNames setup) me items (both items placed)
  where
    both : (items : List LogItem) → AllByRecursion (IsPlaced setup.replicas) items → AllByRecursion (λ x. BodyNames setup (body.Accept x.origin x.index)) items
    both [] all = tt
    both (x ∷ items) all = ((all.0.origin, all.0.small), both items all.1)

-- of each item at most one thing is accepted
accept_few : (me origin index : ℕ) (b : Body) → length (accept_of me origin index b) ≤ 1
accept_few me origin index (body.Act inst) = omega arith
accept_few me origin index (body.Out to r given) = cond_both (to == me) (body.Accept origin index ∷ []) [] (λ (l : List Body). length l ≤ 1) (λ mine. omega arith) (λ others. omega arith)
accept_few me origin index (body.Accept from at) = omega arith

pub accepts_few : (me : ℕ) (items : List LogItem) → length (accepts_of me items) ≤ length items
accepts_few me [] = omega arith
accepts_few me (x ∷ items) =
    let one = accept_few me x.origin x.index x.body in
    let rest = accepts_few me items in
    omega (arith, one, rest, length-append (accept_of me x.origin x.index x.body) (accepts_of me items))

-- ---- answers to wants

-- what is given to each want in turn
abbrev pub gives_for : Setup → Logs → ℕ → ℕ → List Want → Standing → List Body
gives_for setup logs me to [] p = []
gives_for setup logs me to (w ∷ wants) p =
    given (piece_for (holding setup logs me p (need_of w)) w.ask) to w.right
    ++ gives_for setup logs me to wants (logged_all me (given (piece_for (holding setup logs me p (need_of w)) w.ask) to w.right) p)

pub answered_gives : (setup : Setup) (logs : Logs) (me to : ℕ) (wants : List Want) (p : Standing) → answered setup logs me to wants p ≡ logged_all me (gives_for setup logs me to wants p) p
answered_gives setup logs me to [] p = refl
answered_gives setup logs me to (w ∷ wants) p =
    let bodies : List Body = given (piece_for (holding setup logs me p (need_of w)) w.ask) to w.right in
    answered_gives setup logs me to wants (logged_all me bodies p) ∙ sym (logged_append me bodies (gives_for setup logs me to wants (logged_all me bodies p)) p)

given_names : (setup : Setup) (to : ℕ) (r : Right) (o : Option Piece) → to < setup.replicas → RightFits setup r → ((pc : Piece) → o ≡ Some pc → IsInOrder pc) → AllByRecursion (BodyNames setup) (given o to r)
given_names setup to r None peer fits ordered = tt
given_names setup to r (Some pc) peer fits ordered = ((peer, fits, ordered pc refl), tt)

pub gives_name : (setup : Setup) (logs : Logs) (me to : ℕ) (wants : List Want) (p : Standing) → to < setup.replicas → AllByRecursion (WantFits setup) wants → AllByRecursion (BodyNames setup) (gives_for setup logs me to wants p)
gives_name setup logs me to [] p peer all = tt
gives_name setup logs me to (w ∷ wants) p peer all =
    let o : Option Piece = piece_for (holding setup logs me p (need_of w)) w.ask in
    let q : Standing = logged_all me (given o to w.right) p in
    each_append (BodyNames setup) (given o to w.right) (gives_for setup logs me to wants q) (given_names setup to w.right o peer all.0.of (λ pc is. piece_ordered setup logs me p.log w.right w.ask pc is)) (gives_name setup logs me to wants q peer all.1)

-- at most one piece is given to each want
given_few : (o : Option Piece) (to : ℕ) (r : Right) → length (given o to r) ≤ 1
given_few None to r = omega arith
given_few (Some pc) to r = omega arith

pub gives_few : (setup : Setup) (logs : Logs) (me to : ℕ) (wants : List Want) (p : Standing) → length (gives_for setup logs me to wants p) ≤ length wants
gives_few setup logs me to [] p = omega arith
gives_few setup logs me to (w ∷ wants) p =
    let o : Option Piece = piece_for (holding setup logs me p (need_of w)) w.ask in
    let q : Standing = logged_all me (given o to w.right) p in
    let one = given_few o to w.right in
    let rest = gives_few setup logs me to wants q in
    omega (arith, one, rest, length-append (given o to w.right) (gives_for setup logs me to wants q))
