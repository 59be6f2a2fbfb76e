-- What a draft holds, once one item more was accepted or one piece more was given.
use Rattle.std.proofs.Common.{◌≡◌, ◌≢◌, inl, inr, ℕ, zero, suc, ◌+◌, ◌<◌, Bool, true, false, List, [], ◌∷◌, ◌++◌, length, refl, sym, ap, subst, ◌∙◌, arith, length-set}
use Rattle.std.specs.Prelude.{slice_get, slice_index, Some, None, Option, ◌==◌}
use Rattle.std.specs.List.{AllByRecursion}
use Rattle.std.proofs.lemmas.Bool.{cases_eq, cond-true, cond-false, eq-eqb, ne_eqb}
use Rattle.std.proofs.lemmas.List.{append-nil, append_assoc, get_or-set_same, get_or-set_other, length_push}
use Rattle.std.proofs.lemmas.List.Concat.{flat_map-cons}
use Rattle.std.proofs.lemmas.Grind.{flat_map-append}
use Rattle.spec_model.specs.declared.plan.Setup.{Setup}
use Rattle.spec_model.specs.declared.right.Right.{Right}
use Rattle.spec_model.specs.declared.right.Piece.{Piece}
use Rattle.spec_model.specs.declared.right.Want.{Want}
use Rattle.spec_model.specs.declared.right.Need.{Need}
use Rattle.spec_model.specs.declared.right.Held.{Held}
use Rattle.spec_model.specs.declared.log.Body.{Body}
use Rattle.spec_model.specs.declared.log.Body.TheVariants as body
use Rattle.spec_model.specs.declared.log.LogItem.{LogItem}
use Rattle.run_model.specs.Allowed.{IsHeldPiece, span_given}
use Rattle.run_model.specs.Holding.{held_of, held_right}
use Rattle.run_model.specs.Logs.{LiesWithin, Logs, cut_after, item_at, log_at}
use Rattle.run_model.specs.Passing.{can_accept}
use Rattle.run_model.specs.Steps.{accept_of, accepts_of, answered, given}
use Rattle.run_model.specs.Wants.{need_of, piece_for}
use Rattle.run_model.specs.Worlds.{Standing, holding, logged, logged_all}
use Rattle.run_model.proofs.Lists.{get_behind}
use Rattle.run_model.proofs.Pieces.{piece_held}
use Rattle.rights_table.specs.Overlays.{IsOverlay}
use Rattle.rights_table.specs.Whole.{HasAll, SpeaksOfTheSame, TablesLearn}
use Rattle.rights_table.specs.declared.overlay.Overlay.{Overlay}
use Rattle.rights_table.specs.declared.table.Table.{Table}
use Rattle.message_laws.specs.Heeded.{JoinsAfter, held_after, standing_after, with_items}
use Rattle.message_laws.specs.Views.{IsKnown, View, own_items, standing_in}
use Rattle.message_drafts.specs.Drafts.{HasAccepted, HasAnswered, Holds, IsDraft, IsNext, IsWanted}
use Rattle.message_drafts.specs.Taking.{Sees}
use Rattle.message_drafts.specs.declared.draft.Draft.{Draft}

-- ---- logs that grow

-- an item that is known is known where more is
pub item_stays : (from at origin : ℕ) (known : Logs) (applied : List LogItem) → at < length (log_at known origin) → item_at (with_items from applied known) origin at ≡ item_at known origin at
item_stays from at origin known applied lt = sym (elim (cases_eq origin from) [
  | inl same ↦
      let there : from < length known = inside known from at (omega (arith, lt, ap (λ i. length (log_at known i)) same)) in
      ap (λ i. item_at known i at) same ∙ front (log_at known from) applied at (omega (arith, lt, ap (λ i. length (log_at known i)) same)) ∙ sym (ap (λ (l : List LogItem). slice_get l at) (get_or-set_same known from (log_at known from ++ applied) [] there)) ∙ sym (ap (λ i. item_at (with_items from applied known) i at) same)
  | inr other ↦ sym (ap (λ (l : List LogItem). slice_get l at) (get_or-set_other known from origin (log_at known from ++ applied) [] other))
])
  where
    inside : (logs : Logs) (i k : ℕ) → k < length (log_at logs i) → i < length logs
    inside [] i k h = absurd (omega (arith, h))
    inside (x ∷ logs) zero k h = omega arith
    inside (x ∷ logs) (suc i) k h = let rest = inside logs i k h in omega (arith, rest)

    front : (xs ys : List LogItem) (k : ℕ) → k < length xs → slice_get xs k ≡ slice_get (xs ++ ys) k
    front [] ys k h = absurd (omega (arith, h))
    front (x ∷ xs) ys zero h = refl
    front (x ∷ xs) ys (suc k) h = front xs ys k (omega (arith, h))

-- so the own log speaks of the same
speaks_same : (v : View) (from : ℕ) (more : List LogItem) (items : List LogItem) → ((j : ℕ) → slice_index v.cut j ≡ length (log_at v.known j)) → AllByRecursion (λ item. IsKnown v.known v.me item.body) items → AllByRecursion (λ item. LiesWithin item.deps v.cut) items
    → AllByRecursion (SpeaksOfTheSame v.known (with_items from more v.known)) items
speaks_same v from more [] counts known pasts = tt
speaks_same v from more (x ∷ items) counts known pasts = (
  record {
    past = λ j k there. let within = pasts.0 j in item_stays from k j v.known more (omega (arith, there, within, counts j));
    accepted = λ origin at is. let it : IsKnown v.known v.me (body.Accept origin at) = subst (IsKnown v.known v.me) is known.0 in item_stays from at origin v.known more it.1;
  },
  speaks_same v from more items counts known.1 pasts.1,
)

-- ---- the beginning

pub begun : (setup : Setup) (v : View) (me from : ℕ) (cut : List ℕ) (t : Table) (d : Draft) → TablesLearn → Sees setup v me cut t → d.bodies ≡ [] → ((logs : Logs) (me : ℕ) (own : List LogItem) → HasAll setup logs me own t → IsOverlay setup logs me own d.held)
    → HasAccepted setup v from [] d
begun setup v me from cut t d learn sees none begins = record {
  draft = λ rest p is.
      let more : Logs = with_items from rest v.known in
      let all : HasAll setup more v.me (own_items v) t =
      learn setup v.known more v.me (own_items v) t (length-set v.known from (log_at v.known from ++ rest)) (speaks_same v from rest (own_items v) sees.view.counts sees.view.accepted sees.view.pasts) sees.all in
      let same : own_items v ≡ (logged_all v.me d.bodies p).log = sym is ∙ sym (ap (λ (bs : List Body). (logged_all v.me bs p).log) none) in
      subst (λ (own : List LogItem). IsOverlay setup more v.me own d.held) same (begins more v.me (own_items v) all);
  bodies = none;
}

-- ---- overlays

-- what holds by all logs holds by those without what comes behind
pub holds_now : (setup : Setup) (v : View) (from : ℕ) (before : List LogItem) (bs : List Body) (o : Overlay) (p : Standing) → Holds setup v from before bs o → p.log ≡ own_items v → IsOverlay setup (with_items from before v.known) v.me (logged_all v.me bs p).log o
holds_now setup v from before bs o p h is = subst (λ (l : List LogItem). IsOverlay setup (with_items from l v.known) v.me (logged_all v.me bs p).log o) (append-nil before) (h [] p is)

-- another overlay that tells the same
pub holds_still : (setup : Setup) (v : View) (from : ℕ) (before : List LogItem) (bs : List Body) (old new : Overlay) → ((logs : Logs) (me : ℕ) (own : List LogItem) → IsOverlay setup logs me own old → IsOverlay setup logs me own new)
    → Holds setup v from before bs old → Holds setup v from before bs new
holds_still setup v from before bs old new same h = λ rest p is. same (with_items from (before ++ rest) v.known) v.me (logged_all v.me bs p).log (h rest p is)

pub logged_append : (me : ℕ) (bs cs : List Body) (p : Standing) → logged_all me (bs ++ cs) p ≡ logged_all me cs (logged_all me bs p)
logged_append me [] cs p = refl
logged_append me (b ∷ bs) cs p = logged_append me bs cs (logged me b p)

pub logged_length : (me : ℕ) (bodies : List Body) (p : Standing) → length (logged_all me bodies p).log ≡ length p.log + length bodies
logged_length me [] p = omega arith
logged_length me (b ∷ bodies) p = let rest = logged_length me bodies (logged me b p) in omega (arith, rest, length_push p.log (record { origin = me; index = length p.log; deps = p.cut; body = b }))

-- one item of the sender more, of which nothing is logged
pub holds_passed : (setup : Setup) (v : View) (from : ℕ) (before : List LogItem) (item : LogItem) (bs : List Body) (o : Overlay) → Holds setup v from before bs o → Holds setup v from (before ++ item ∷ []) bs o
holds_passed setup v from before item bs o h =
    λ rest p is. subst (λ (l : List LogItem). IsOverlay setup (with_items from l v.known) v.me (logged_all v.me bs p).log o) (sym (append_assoc before (item ∷ []) rest)) (h (item ∷ rest) p is)

-- one body more of its own
pub holds_logged : (setup : Setup) (v : View) (from : ℕ) (before : List LogItem) (bs : List Body) (b : Body) (old new : Overlay)
    → ((rest own : List LogItem) (x : LogItem) → x.body ≡ b → IsOverlay setup (with_items from (before ++ rest) v.known) v.me own old → IsOverlay setup (with_items from (before ++ rest) v.known) v.me (own ++ x ∷ []) new)
    → Holds setup v from before bs old → Holds setup v from before (bs ++ b ∷ []) new
holds_logged setup v from before bs b old new step h = λ rest p is.
    let q : Standing = logged_all v.me bs p in
    let x : LogItem = record { origin = v.me; index = length q.log; deps = q.cut; body = b } in
    let one : logged v.me b q ≡ logged_all v.me (bs ++ b ∷ []) p = sym (logged_append v.me bs (b ∷ []) p) in
    subst (λ (s : Standing). IsOverlay setup (with_items from (before ++ rest) v.known) v.me s.log new) one (step rest q.log x refl (h rest p is))

-- ---- accepting

-- the next item stands in the logs that have it
item_there : (v : View) (from : ℕ) (before : List LogItem) (item : LogItem) (rest : List LogItem) → IsNext v from before item → item_at (with_items from (before ++ item ∷ rest) v.known) item.origin item.index ≡ Some item
item_there v from before item rest next =
    let log : List LogItem = log_at v.known from in
    let more : List LogItem = before ++ item ∷ rest in
    let logs : Logs = with_items from more v.known in
    ap (λ i. item_at logs i item.index) next.origin ∙ ap (λ k. item_at logs from k) next.index_is
    ∙ ap (λ (l : List LogItem). slice_get l (length log + length before)) (get_or-set_same v.known from (log ++ more) [] next.place)
    ∙ get_behind log more (length before) ∙ ap (slice_get more) (let same : length before ≡ length before + 0 = omega arith in same) ∙ get_behind before (item ∷ rest) 0

-- what is accepted of one item more
accepts_push : (me : ℕ) (before : List LogItem) (item : LogItem) → accepts_of me (before ++ item ∷ []) ≡ accepts_of me before ++ accept_of me item.origin item.index item.body
accepts_push me before item =
    let f : LogItem → List Body = λ i. accept_of me i.origin i.index i.body in
    flat_map-append f before (item ∷ []) ∙ ap (λ (l : List Body). accepts_of me before ++ l) (flat_map-cons f item [] ∙ append-nil (f item))

-- what is given to the replica is accepted
accepts_own : (me origin index : ℕ) (r : Right) (pc : Piece) (b : Body) → b ≡ body.Out me r pc → accept_of me origin index b ≡ body.Accept origin index ∷ []
accepts_own me origin index r pc b is = ap (accept_of me origin index) is ∙ cond-true (me == me) (body.Accept origin index ∷ []) [] (eq-eqb me me refl)

-- whether a piece can be accepted once all before it was
pub joins_by : (setup : Setup) (v : View) (from : ℕ) (before : List LogItem) (r : Right) (pc : Piece) (d : Draft) (result : Bool) → HasAccepted setup v from before d
    → ((logs : Logs) (me : ℕ) (own : List LogItem) → IsOverlay setup logs me own d.held → result ≡ can_accept setup.replicas (held_right setup logs me own r (span_given pc)) pc)
    → result ≡ can_accept setup.replicas (held_after setup v from before r (span_given pc)) pc
joins_by setup v from before r pc d result h is =
    let p : Standing = record (standing_in v) { cut = cut_after v.cut before } in
    let same : logged_all v.me d.bodies p ≡ standing_after v before = ap (λ (bs : List Body). logged_all v.me bs p) h.bodies in
    is (with_items from before v.known) v.me (standing_after v before).log
    (subst (λ (s : Standing). IsOverlay setup (with_items from before v.known) v.me s.log d.held) same (holds_now setup v from before d.bodies d.held p h.draft refl))

-- where it can't the item can't be applied, and where it can it can
pub joins_not : (setup : Setup) (v : View) (from : ℕ) (before : List LogItem) (r : Right) (pc : Piece) (b : Body) → b ≡ body.Out v.me r pc → false ≡ can_accept setup.replicas (held_after setup v from before r (span_given pc)) pc → JoinsAfter setup v from before b → ⊥
joins_not setup v from before r pc b is never joins =
    let out : JoinsAfter setup v from before (body.Out v.me r pc) = subst (JoinsAfter setup v from before) is joins in
    let wrong : false ≡ true = never ∙ out refl in absurd cc

pub joins_so : (setup : Setup) (v : View) (from : ℕ) (before : List LogItem) (r : Right) (pc : Piece) (b : Body) → b ≡ body.Out v.me r pc → true ≡ can_accept setup.replicas (held_after setup v from before r (span_given pc)) pc → JoinsAfter setup v from before b
joins_so setup v from before r pc b is so =
    let out : JoinsAfter setup v from before (body.Out v.me r pc) = λ mine. sym so in
    subst (JoinsAfter setup v from before) (sym is) out

-- it is accepted
pub accepted_more : (setup : Setup) (v : View) (from : ℕ) (before : List LogItem) (item : LogItem) (r : Right) (pc : Piece) (d new : Draft) → IsNext v from before item → item.body ≡ body.Out v.me r pc → HasAccepted setup v from before d
    → ((logs : Logs) (me : ℕ) (own : List LogItem) (x out : LogItem) (origin at to : ℕ) → x.body ≡ body.Accept origin at → item_at logs origin at ≡ Some out → out.body ≡ body.Out to r pc → IsOverlay setup logs me own d.held → IsOverlay setup logs me (own ++ x ∷ []) new.held)
    → new.bodies ≡ d.bodies ++ body.Accept item.origin item.index ∷ [] → HasAccepted setup v from (before ++ item ∷ []) new
accepted_more setup v from before item r pc d new next gives h step longer =
    let b : Body = body.Accept item.origin item.index in
    let more : List LogItem = before ++ item ∷ [] in
    let holds : Holds setup v from more (d.bodies ++ b ∷ []) new.held =
    holds_logged setup v from more d.bodies b d.held new.held
    (λ rest own x is overlay.
    let logs : Logs = with_items from (more ++ rest) v.known in
    let there : item_at logs item.origin item.index ≡ Some item = ap (λ (l : List LogItem). item_at (with_items from l v.known) item.origin item.index) (append_assoc before (item ∷ []) rest) ∙ item_there v from before item rest next in
    step logs v.me own x item item.origin item.index v.me is there gives overlay)
    (holds_passed setup v from before item d.bodies d.held h.draft) in
    record {
      draft = subst (λ (bs : List Body). Holds setup v from more bs new.held) (sym longer) holds;
      bodies = longer ∙ ap (λ (bs : List Body). bs ++ b ∷ []) h.bodies ∙ sym (accepts_push v.me before item ∙ ap (λ (bs : List Body). accepts_of v.me before ++ bs) (accepts_own v.me item.origin item.index r pc item.body gives));
    }

-- an item that gives nothing to the replica
pub accepted_none : (setup : Setup) (v : View) (from : ℕ) (before : List LogItem) (item : LogItem) (d : Draft) → accept_of v.me item.origin item.index item.body ≡ [] → HasAccepted setup v from before d → HasAccepted setup v from (before ++ item ∷ []) d
accepted_none setup v from before item d none h = record {
  draft = holds_passed setup v from before item d.bodies d.held h.draft;
  bodies = h.bodies ∙ sym (accepts_push v.me before item ∙ ap (λ (bs : List Body). accepts_of v.me before ++ bs) none ∙ append-nil (accepts_of v.me before));
}

-- one that gives to another replica
pub out_to_other : (me origin index to : ℕ) (r : Right) (pc : Piece) (b : Body) → b ≡ body.Out to r pc → to ≢ me → accept_of me origin index b ≡ []
out_to_other me origin index to r pc b is other = ap (accept_of me origin index) is ∙ cond-false (to == me) (body.Accept origin index ∷ []) [] (ne_eqb to me other)

pub joins_other : (setup : Setup) (v : View) (from : ℕ) (before : List LogItem) (to : ℕ) (r : Right) (pc : Piece) (b : Body) → b ≡ body.Out to r pc → to ≢ v.me → JoinsAfter setup v from before b
joins_other setup v from before to r pc b is other =
    let out : JoinsAfter setup v from before (body.Out to r pc) = λ mine. absurd (other mine) in
    subst (JoinsAfter setup v from before) (sym is) out

-- the overlay alone is another
pub accepted_still : (setup : Setup) (v : View) (from : ℕ) (before : List LogItem) (d new : Draft) → HasAccepted setup v from before d → ((logs : Logs) (me : ℕ) (own : List LogItem) → IsOverlay setup logs me own d.held → IsOverlay setup logs me own new.held)
    → new.bodies ≡ d.bodies → HasAccepted setup v from before new
accepted_still setup v from before d new h same bodies = record {
  draft = subst (λ (bs : List Body). Holds setup v from before bs new.held) (sym bodies) (holds_still setup v from before d.bodies d.held new.held same h.draft);
  bodies = bodies ∙ h.bodies;
}

-- ---- answering

-- a piece that is wanted is held
pub wanted_held : (setup : Setup) (v : View) (from : ℕ) (before : List LogItem) (want : Want) (d : Draft) (pc : Piece) → IsDraft setup v from before d → IsWanted setup v from before want d pc
    → (logs : Logs) × (me : ℕ) × (own : List LogItem) × IsOverlay setup logs me own d.held × IsHeldPiece (held_right setup logs me own want.right (span_given pc)) pc
wanted_held setup v from before want d pc h wanted =
    let p : Standing = standing_in v in
    let logs : Logs = with_items from before v.known in
    let own : List LogItem = (logged_all v.me d.bodies p).log in
    (logs, v.me, own, holds_now setup v from before d.bodies d.held p h refl, piece_held setup logs v.me own want.right want.ask pc (wanted p refl))

-- it is given
pub given_more : (setup : Setup) (v : View) (from : ℕ) (before : List LogItem) (to : ℕ) (want : Want) (pc : Piece) (d new : Draft) → IsDraft setup v from before d → IsWanted setup v from before want d pc
    → ((logs : Logs) (me : ℕ) (own : List LogItem) (x : LogItem) (to : ℕ) → x.body ≡ body.Out to want.right pc → IsOverlay setup logs me own d.held → IsOverlay setup logs me (own ++ x ∷ []) new.held)
    → new.bodies ≡ d.bodies ++ body.Out to want.right pc ∷ [] → HasAnswered setup v from before to (want ∷ []) d new
given_more setup v from before to want pc d new h wanted step longer =
    let b : Body = body.Out to want.right pc in
    let logs : Logs = with_items from before v.known in
    let long : length new.bodies ≡ length d.bodies + 1 = ap length longer ∙ length_push d.bodies b in
    record {
      draft = subst (λ (bs : List Body). Holds setup v from before bs new.held) (sym longer)
          (holds_logged setup v from before d.bodies b d.held new.held (λ rest own x is overlay. step (with_items from (before ++ rest) v.known) v.me own x to is overlay) h);
      stands = λ p is.
          let q : Standing = logged_all v.me d.bodies p in
          ap (λ (bs : List Body). logged_all v.me bs p) longer ∙ logged_append v.me d.bodies (b ∷ []) p ∙ sym (ap (λ (o : Option Piece). logged_all v.me (given o to want.right) q) (wanted p is));
      few = omega (arith, long);
      least = omega (arith, long);
    }

-- nothing is given
pub given_none : (setup : Setup) (v : View) (from : ℕ) (before : List LogItem) (to : ℕ) (want : Want) (d new : Draft) → IsDraft setup v from before d → new ≡ d
    → ((p : Standing) → p.log ≡ own_items v → piece_for (held_of setup (with_items from before v.known) v.me (logged_all v.me d.bodies p).log (need_of want)) want.ask ≡ None) → HasAnswered setup v from before to (want ∷ []) d new
given_none setup v from before to want d new h same none = record {
  draft = subst (IsDraft setup v from before) (sym same) h;
  stands = λ p is.
      let q : Standing = logged_all v.me d.bodies p in
      ap (λ (e : Draft). logged_all v.me e.bodies p) same ∙ sym (ap (λ (o : Option Piece). logged_all v.me (given o to want.right) q) (none p is));
  few = omega (arith, ap (λ (e : Draft). length e.bodies) same);
  least = omega (arith, ap (λ (e : Draft). length e.bodies) same);
}

-- an answer from a draft with the same bodies
pub answered_still : (setup : Setup) (v : View) (from : ℕ) (before : List LogItem) (to : ℕ) (wants : List Want) (old mid new : Draft) → mid.bodies ≡ old.bodies → HasAnswered setup v from before to wants mid new → HasAnswered setup v from before to wants old new
answered_still setup v from before to wants old mid new same h = record {
  draft = h.draft;
  stands = λ p is. h.stands p is ∙ ap (λ (bs : List Body). answered setup (with_items from before v.known) v.me to wants (logged_all v.me bs p)) same;
  few = (let f = h.few in omega (arith, f, ap length same));
  least = (let l = h.least in omega (arith, l, ap length same));
}

answered_append : (setup : Setup) (logs : Logs) (me to : ℕ) (front : List Want) (w : Want) (p : Standing) → answered setup logs me to (front ++ w ∷ []) p ≡ answered setup logs me to (w ∷ []) (answered setup logs me to front p)
answered_append setup logs me to [] w p = refl
answered_append setup logs me to (v ∷ front) w p = answered_append setup logs me to front w (logged_all me (given (piece_for (holding setup logs me p (need_of v)) v.ask) to v.right) p)

-- one want more
pub answered_more : (setup : Setup) (v : View) (from : ℕ) (before : List LogItem) (to : ℕ) (front : List Want) (want : Want) (old mid new : Draft) → HasAnswered setup v from before to front old mid → HasAnswered setup v from before to (want ∷ []) mid new
    → HasAnswered setup v from before to (front ++ want ∷ []) old new
answered_more setup v from before to front want old mid new first second =
    let logs : Logs = with_items from before v.known in
    record {
      draft = second.draft;
      stands = λ p is. second.stands p is ∙ ap (answered setup logs v.me to (want ∷ [])) (first.stands p is) ∙ sym (answered_append setup logs v.me to front want (logged_all v.me old.bodies p));
      few = (let a = first.few in let b = second.few in omega (arith, a, b, length_push front want));
      least = (let a = first.least in let b = second.least in omega (arith, a, b));
    }

-- ---- some view

-- what a draft holds is what some replica would
pub some_held : (setup : Setup) (v : View) (from : ℕ) (before : List LogItem) (d : Draft) → IsDraft setup v from before d → (logs : Logs) × (me : ℕ) × (own : List LogItem) × IsOverlay setup logs me own d.held
some_held setup v from before d h =
    let p : Standing = standing_in v in
    (with_items from before v.known, v.me, (logged_all v.me d.bodies p).log, holds_now setup v from before d.bodies d.held p h refl)

pub some_overlay : (setup : Setup) (v : View) (from : ℕ) (before : List LogItem) (d : Draft) → HasAccepted setup v from before d → (logs : Logs) × (me : ℕ) × (own : List LogItem) × IsOverlay setup logs me own d.held
some_overlay setup v from before d h = some_held setup v from before d h.draft

-- a draft with an overlay that tells the same
pub draft_still : (setup : Setup) (v : View) (from : ℕ) (before : List LogItem) (d new : Draft) → IsDraft setup v from before d → ((logs : Logs) (me : ℕ) (own : List LogItem) → IsOverlay setup logs me own d.held → IsOverlay setup logs me own new.held) → new.bodies ≡ d.bodies
    → IsDraft setup v from before new
draft_still setup v from before d new h same bodies = subst (λ (bs : List Body). Holds setup v from before bs new.held) (sym bodies) (holds_still setup v from before d.bodies d.held new.held same h)

-- what is given to one who wants, by what is held
pub answer_is : (setup : Setup) (v : View) (from : ℕ) (before : List LogItem) (want : Want) (d : Draft) (have : Held) (need : Need) (o : Option Piece) → IsDraft setup v from before d → need ≡ need_of want
    → ((logs : Logs) (me : ℕ) (own : List LogItem) → IsOverlay setup logs me own d.held → have ≡ held_of setup logs me own need) → o ≡ piece_for have want.ask
    → (p : Standing) → p.log ≡ own_items v → piece_for (held_of setup (with_items from before v.known) v.me (logged_all v.me d.bodies p).log (need_of want)) want.ask ≡ o
answer_is setup v from before want d have need o h need_is held answered_is p is =
    let logs : Logs = with_items from before v.known in
    let own : List LogItem = (logged_all v.me d.bodies p).log in
    let same : have ≡ held_of setup logs v.me own (need_of want) = held logs v.me own (holds_now setup v from before d.bodies d.held p h is) ∙ ap (held_of setup logs v.me own) need_is in
    sym (answered_is ∙ ap (λ (x : Held). piece_for x want.ask) same)
