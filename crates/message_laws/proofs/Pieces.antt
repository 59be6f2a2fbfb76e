-- In a run each item of a log fits.
use Rattle.std.proofs.Common.{◌≡◌, inl, inr, ℕ, zero, suc, ◌<◌, ◌≤◌, true, List, [], ◌∷◌, length, take, refl, sym, ap, subst, ◌∙◌, arith, le-leb, le-ltb}
use Rattle.std.specs.Prelude.{slice_index, Some, nat_lt}
use Rattle.std.proofs.lemmas.Bool.{and_from, cases_lt, cond-false, ltb-true}
use Rattle.std.proofs.lemmas.Option.{slice_get_within}
use Rattle.ind_base.specs.declared.span.Span.{Span}
use Rattle.spec_model.specs.declared.plan.Setup.{Setup}
use Rattle.spec_model.specs.declared.right.Right.{Right}
use Rattle.spec_model.specs.declared.right.Right.TheVariants as right
use Rattle.spec_model.specs.declared.right.Piece.{Piece}
use Rattle.spec_model.specs.declared.right.Piece.TheVariants as piece
use Rattle.spec_model.specs.declared.log.Body.{Body}
use Rattle.spec_model.specs.declared.log.Body.TheVariants as body
use Rattle.spec_model.specs.declared.log.LogItem.{LogItem}
use Rattle.spec_model.specs.Truths.{span_has}
use Rattle.run_model.specs.Allowed.{IsAllowed, IsHeldPiece, span_given}
use Rattle.run_model.specs.Balance.{IsConserved}
use Rattle.run_model.specs.Fitting.{BodyFits, ItemFits, PieceFits}
use Rattle.run_model.specs.Holding.{held_right}
use Rattle.run_model.specs.Logs.{IsConsistent, Logs, item_at, log_at, own_in}
use Rattle.run_model.specs.Points.{holds_point, point_count, points_all}
use Rattle.run_model.specs.Rights.{held_count}
use Rattle.run_model.proofs.Points.{points_were_held}
use Rattle.run_model.proofs.Premises.{AreHeld}
use Rattle.run_model.proofs.Standing.{points_balance}
use Rattle.message_laws.proofs.Lists.{term_small}
use Rattle.message_laws.proofs.Logged.{BodyNames, ItemNames}
use Rattle.message_laws.proofs.Limits.{AreSmall, limit, there_are}
use Rattle.message_laws.proofs.Rights.{right_kind}
use Rattle.message_laws.proofs.Runs.{IsInOrder}

log_inside : (logs : Logs) (i k : ℕ) → k < length (log_at logs i) → i < length logs
log_inside [] i k h = absurd (omega (arith, h))
log_inside (x ∷ logs) zero k h = omega arith
log_inside (x ∷ logs) (suc i) k h = let rest = log_inside logs i k h in omega (arith, rest)

-- a replica holds no more in a cut than there are
pub one_holds : (setup : Setup) (logs : Logs) (cut : List ℕ) (i : ℕ) (r : Right) → AreSmall setup logs → AreHeld setup logs → IsConsistent logs cut → IsConserved setup.spec r → i < length logs → held_count setup logs i (own_in cut logs i) r ≤ limit setup r
one_holds setup logs cut i r small held c conserved lt =
    let term = term_small (λ (k : ℕ). held_count setup logs k (take (slice_index cut k) (log_at logs k)) r) (length logs) i lt in
    omega (arith, term, there_are setup logs cut r small held c conserved)

-- a piece of what is held fits
piece_fits : (setup : Setup) (logs : Logs) (i : ℕ) (own : List LogItem) (r : Right) (span : Span) (pc : Piece) → IsConserved setup.spec r → held_count setup logs i own r ≤ limit setup r → IsHeldPiece (held_right setup logs i own r span) pc → PieceFits setup r pc
piece_fits setup logs i own (right.Low cell) span (piece.Count n) conserved le h = (refl, omega (arith, h.0), omega (arith, h.1, le))
piece_fits setup logs i own (right.Low cell) span (piece.Shares n m) conserved le h = absurd h
piece_fits setup logs i own (right.Low cell) span (piece.Points s) conserved le h = absurd h
piece_fits setup logs i own (right.High cell) span (piece.Count n) conserved le h = (refl, omega (arith, h.0), omega (arith, h.1, le))
piece_fits setup logs i own (right.High cell) span (piece.Shares n m) conserved le h = absurd h
piece_fits setup logs i own (right.High cell) span (piece.Points s) conserved le h = absurd h
piece_fits setup logs i own (right.Lock lock key) span (piece.Count n) conserved le h = absurd h
piece_fits setup logs i own (right.Lock lock key) span (piece.Shares n m) conserved le h = (refl, omega (arith, h.0), omega (arith, h.1, le))
piece_fits setup logs i own (right.Lock lock key) span (piece.Points s) conserved le h = absurd h
piece_fits setup logs i own (right.Entry c args l) span (piece.Count n) conserved le h = absurd h
piece_fits setup logs i own (right.Entry c args l) span (piece.Shares n m) conserved le h = (refl, omega (arith, h.0), omega (arith, h.1, le))
piece_fits setup logs i own (right.Entry c args l) span (piece.Points s) conserved le h = absurd h
piece_fits setup logs i own (right.Part part key) span pc conserved le h = absurd cc

-- ---- of a partition

-- a point that is held is one of its points
held_within : (setup : Setup) (logs : Logs) (cut : List ℕ) (i part : ℕ) (key : List ℕ) (x : ℕ) → AreHeld setup logs → IsConsistent logs cut → i < length logs → holds_point setup logs i (own_in cut logs i) (right.Part part key) x ≡ true → x < points_all setup part
held_within setup logs cut i part key x held c lt holds =
    let r : Right = right.Part part key in
    let all : ℕ = points_all setup part in
    let term = term_small (λ (k : ℕ). point_count setup logs k (own_in cut logs k) r x) (length logs) i lt in
    let some = ltb-true 0 (point_count setup logs i (own_in cut logs i) r x) holds in
    let balance = points_balance setup logs cut part key x held c in
    elim (cases_lt x all) [
      | inl less ↦ less
      | inr le ↦ absurd (omega (arith, term, some, balance, cond-false {A = ℕ} (nat_lt x all) 1 0 (le-ltb x all le)))
    ]

-- points in order that are given were held, so they fit
points_fit : (setup : Setup) (logs : Logs) (i k to part : ℕ) (key : List ℕ) (item : LogItem) (pc : Piece) → AreHeld setup logs → item_at logs i k ≡ Some item → item.body ≡ body.Out to (right.Part part key) pc → IsInOrder pc
    → IsHeldPiece (held_right setup logs i (take k (log_at logs i)) (right.Part part key) (span_given pc)) pc → PieceFits setup (right.Part part key) pc
points_fit setup logs i k to part key item (piece.Count n) held at is ordered h = absurd h
points_fit setup logs i k to part key item (piece.Shares n m) held at is ordered h = absurd h
points_fit setup logs i k to part key item (piece.Points s) held at is ordered h =
    let r : Right = right.Part part key in
    let has : span_has s s.hi ≡ true = and_from _ _ (le-leb s.lo s.hi ordered) (le-leb s.hi s.hi (omega arith)) in
    let was = points_were_held setup logs held.rights i k to item r s s.hi at is has in
    let there = subst (λ n. holds_point setup logs i (take n (log_at logs i)) r s.hi ≡ true) (sym (held.named.before i k item at)) was in
    let inside = log_inside logs i k (slice_get_within (log_at logs i) k item at) in
    (ordered, held_within setup logs item.deps i part key s.hi held (held.named.past i k item at) inside there)

-- ---- each item

pub item_fits : (setup : Setup) (logs : Logs) (i k : ℕ) (item : LogItem) → AreSmall setup logs → AreHeld setup logs → item_at logs i k ≡ Some item → ItemNames setup item → ItemFits setup item
item_fits setup logs i k item small held at names = record { placed = names.placed; body = by_body item.body refl names.body }
  where
    by_body : (b : Body) → item.body ≡ b → BodyNames setup b → BodyFits setup b
    by_body (body.Act inst) is named = named
    by_body (body.Accept from index) is named = named
    by_body (body.Out to r given) is named =
        let own : List LogItem = take k (log_at logs i) in
        let allowed : IsHeldPiece (held_right setup logs i own r (span_given given)) given = subst (IsAllowed setup logs i own item.deps) is (held.rights i k item at) in
        elim (right_kind setup r named.1) [
          | inl conserved ↦
              let inside = log_inside logs i k (slice_get_within (log_at logs i) k item at) in
              let there = one_holds setup logs item.deps i r small held (held.named.past i k item at) conserved inside in
              let few : held_count setup logs i own r ≤ limit setup r = subst (λ n. held_count setup logs i (take n (log_at logs i)) r ≤ limit setup r) (held.named.before i k item at) there in
              (named.0, named.1, piece_fits setup logs i own r (span_given given) given conserved few allowed)
          | inr of_part ↦
              let body_is : item.body ≡ body.Out to (right.Part of_part.0 of_part.1) given = is ∙ ap (λ q. body.Out to q given) of_part.2 in
              let held_piece = subst (λ (q : Right). IsHeldPiece (held_right setup logs i own q (span_given given)) given) of_part.2 allowed in
              (named.0, named.1, subst (λ (q : Right). PieceFits setup q given) (sym of_part.2) (points_fit setup logs i k to of_part.0 of_part.1 item given held at body_is named.2 held_piece))
        ]
