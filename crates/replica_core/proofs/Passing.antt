-- A replica that accepts what was given to it, and then gives of what it holds, may log that.
use Rattle.std.proofs.Common.{◌≡◌, inl, inr, ℕ, ◌+◌, ◌/◌, ◌<◌, ◌≤◌, ◌^◌, true, false, Bool, List, [], ◌∷◌, ◌++◌, length, refl, sym, ap, subst, ◌∙◌, arith, leb-true, cond, min}
use Rattle.std.specs.Prelude.{None, Option, Some, nat_le, slice_set, ◌==◌, if◌then◌else◌}
use Rattle.std.specs.List.{AllByRecursion}
use Rattle.std.specs.Option.{option_map_or}
use Rattle.std.proofs.lemmas.Bool.{and_parts, cases_Bool, cond-false, cond-true, eqb-false}
use Rattle.std.proofs.lemmas.List.{append_assoc}
use Rattle.std.proofs.lemmas.List.Sums.{sum_by_push}
use Rattle.std.proofs.lemmas.Option.{same_Some}
use Rattle.ind_base.specs.declared.span.Span.{Span}
use Rattle.spec_model.specs.declared.plan.Setup.{Setup}
use Rattle.spec_model.specs.declared.right.Held.{Held}
use Rattle.spec_model.specs.declared.right.Held.TheVariants as held
use Rattle.spec_model.specs.declared.right.Need.{Need}
use Rattle.spec_model.specs.declared.right.Mode.{Mode}
use Rattle.spec_model.specs.declared.right.Piece.{Piece}
use Rattle.spec_model.specs.declared.right.Piece.TheVariants as piece
use Rattle.spec_model.specs.declared.right.Right.{Right}
use Rattle.spec_model.specs.declared.right.Right.TheVariants as right
use Rattle.spec_model.specs.declared.right.Want.{Want}
use Rattle.spec_model.specs.declared.right.WantAsk.{WantAsk}
use Rattle.spec_model.specs.declared.right.WantAsk.TheVariants as asked
use Rattle.spec_model.specs.declared.log.Body.{Body}
use Rattle.spec_model.specs.declared.log.Body.TheVariants as body
use Rattle.spec_model.specs.declared.log.LogItem.{LogItem}
use Rattle.run_model.specs.Allowed.{IsHeldPiece, span_given}
use Rattle.run_model.specs.Fitting.{AskFits, PieceFits, WantFits}
use Rattle.run_model.specs.Holding.{held_right, mode_of, span_in}
use Rattle.run_model.specs.Logs.{Logs, item_at, log_at}
use Rattle.run_model.specs.Passing.{can_accept}
use Rattle.run_model.specs.Points.{holds_point, missing_of}
use Rattle.run_model.specs.Rights.{body_gains, body_loses, held_count, is_escrow, is_shared, out_gives, piece_count, same_right}
use Rattle.run_model.specs.Steps.{given}
use Rattle.run_model.specs.Wants.{amount_of, need_of, piece_for}
use Rattle.run_model.specs.Worlds.{Standing, holding, logged, logged_all}
use Rattle.run_model.proofs.Alike.{AllAlike, right_alike}
use Rattle.run_model.proofs.Escrow.{same_right_is}
use Rattle.run_model.proofs.Lists.{each_append}
use Rattle.run_model.proofs.Modes.{shared_conserved}
use Rattle.run_model.proofs.Pieces.{piece_held}
use Rattle.message_laws.proofs.Logged.{gives_for}
use Rattle.message_laws.proofs.Runs.{points_given}
use Rattle.replica_core.specs.Next.{AreNext, IsNext}
use Rattle.replica_core.proofs.Grown.{AllRest, GrowsTo, RestsOn, all_alike, grows_with}
use Rattle.replica_core.proofs.Items.{items_for}

-- ---- how a replica stands as it logs

-- at most all shares of a right are held
abbrev pub HoldsFew : Setup → Logs → ℕ → List LogItem → Type 0
HoldsFew setup logs me own = (r : Right) → is_shared r ≡ true → held_count setup logs me own r ≤ setup.replicas

-- its log has grown beyond what is known of it, rests on what is known, and holds at most all shares
pub record Goes (setup : Setup) (logs : Logs) (me : ℕ) (p : Standing) : Type 0 where
  pub more : List LogItem
  pub log : p.log ≡ log_at logs me ++ more
  pub rest : AllRest logs p.log
  pub few : HoldsFew setup logs me p.log

-- all that is held rests alike on the logs with the own one
pub goes_alike : (setup : Setup) (logs : Logs) (me : ℕ) (p : Standing) → Goes setup logs me p → AllAlike logs (slice_set logs me p.log) p.log
goes_alike setup logs me p h =
    let grown : GrowsTo logs (slice_set logs me p.log) = subst (λ (l : List LogItem). GrowsTo logs (slice_set logs me l)) (sym h.log) (grows_with me h.more logs) in
    all_alike logs (slice_set logs me p.log) p.log grown h.rest

-- and is held alike
pub goes_held : (setup : Setup) (logs : Logs) (me : ℕ) (p : Standing) (r : Right) (span : Span) → Goes setup logs me p → held_right setup logs me p.log r span ≡ held_right setup (slice_set logs me p.log) me p.log r span
goes_held setup logs me p r span h = right_alike setup logs (slice_set logs me p.log) me p.log r span (goes_alike setup logs me p h)

pub goes_on : (setup : Setup) (logs : Logs) (me : ℕ) (p : Standing) (b : Body) → Goes setup logs me p → RestsOn logs p.cut b → HoldsFew setup logs me (logged me b p).log → Goes setup logs me (logged me b p)
goes_on setup logs me p b h rests few =
    let item : LogItem = record { origin = me; index = length p.log; deps = p.cut; body = b } in
    record {
      more = h.more ++ item ∷ [];
      log = ap (λ (l : List LogItem). l ++ item ∷ []) h.log ∙ append_assoc (log_at logs me) h.more (item ∷ []);
      rest = each_append (λ (i : LogItem). RestsOn logs i.deps i.body) p.log (item ∷ []) h.rest (rests, tt);
      few = few;
    }

-- ---- what is accepted

le_all : (a b : ℕ) → nat_le a b ≡ true → a ≤ b
le_all a b h = leb-true a b h

-- shares that join are at most all
shares_join : (setup : Setup) (logs : Logs) (me : ℕ) (own : List LogItem) (r : Right) (span : Span) (pc : Piece) → is_shared r ≡ true → can_accept setup.replicas (held_right setup logs me own r span) pc ≡ true → held_count setup logs me own r + piece_count pc ≤ setup.replicas
shares_join setup logs me own (right.Low cell) span pc shared can = absurd cc
shares_join setup logs me own (right.High cell) span pc shared can = absurd cc
shares_join setup logs me own (right.Part part key) span pc shared can = absurd cc
shares_join setup logs me own (right.Lock lock key) span (piece.Count n) shared can = absurd cc
shares_join setup logs me own (right.Lock lock key) span (piece.Shares n m) shared can = let few = le_all (held_count setup logs me own (right.Lock lock key) + n) setup.replicas (and_parts _ _ can).0 in omega (arith, few)
shares_join setup logs me own (right.Lock lock key) span (piece.Points s) shared can = absurd cc
shares_join setup logs me own (right.Entry clause args literal) span (piece.Count n) shared can = absurd cc
shares_join setup logs me own (right.Entry clause args literal) span (piece.Shares n m) shared can = let few = le_all (held_count setup logs me own (right.Entry clause args literal) + n) setup.replicas (and_parts _ _ can).0 in omega (arith, few)
shares_join setup logs me own (right.Entry clause args literal) span (piece.Points s) shared can = absurd cc

-- with an item more
count_more : (setup : Setup) (logs : Logs) (me : ℕ) (own : List LogItem) (x : LogItem) (r : Right) → held_count setup logs me (own ++ x ∷ []) r ≤ held_count setup logs me own r + body_gains setup.spec logs r x.body
count_more setup logs me own x r =
    omega (arith, sum_by_push (λ (i : LogItem). body_gains setup.spec logs r i.body) own x, sum_by_push (λ (i : LogItem). body_loses setup.spec r i.body) own x)

pub accept_few : (setup : Setup) (logs : Logs) (me : ℕ) (own : List LogItem) (x out : LogItem) (from at to : ℕ) (r : Right) (span : Span) (pc : Piece) → HoldsFew setup logs me own → x.body ≡ body.Accept from at → item_at logs from at ≡ Some out → out.body ≡ body.Out to r pc
    → can_accept setup.replicas (held_right setup logs me own r span) pc ≡ true → HoldsFew setup logs me (own ++ x ∷ [])
accept_few setup logs me own x out from at to r span pc few is there gives can = λ q shared.
    let gain : body_gains setup.spec logs q x.body ≡ (if same_right r q then piece_count pc else 0) =
    ap (body_gains setup.spec logs q) is ∙ ap (λ (o : Option LogItem). option_map_or (λ (y : LogItem). out_gives q y.body) o 0) there ∙ ap (out_gives q) gives in
    let more = count_more setup logs me own x q in
    elim (cases_Bool (same_right r q)) [
      | inl same ↦
          let one : r ≡ q = same_right_is setup.spec r q (shared_conserved setup.spec q shared) same in
          let all = shares_join setup logs me own r span pc (subst (λ (s : Right). is_shared s ≡ true) (sym one) shared) can in
          omega (arith, more, gain, cond-true (same_right r q) (piece_count pc) 0 same, all, ap (held_count setup logs me own) one)
      | inr other ↦ let was = few q shared in omega (arith, more, gain, cond-false (same_right r q) (piece_count pc) 0 other, was)
    ]

-- ---- what is given

-- some of a count, as many as were asked for at most
count_fits : (setup : Setup) (r : Right) (have n : ℕ) (pc : Piece) → is_escrow r ≡ true → n < 2 ^ 64 → piece_for (held.Count have) (asked.Count n) ≡ Some pc → PieceFits setup r pc
count_fits setup r have n pc escrow small is = by_test (g == 0) refl is
  where
    g : ℕ
    g = min n ((have + 1) / 2)

    by_test : (b : Bool) → (g == 0) ≡ b → cond b None (Some (piece.Count g)) ≡ Some pc → PieceFits setup r pc
    by_test true test h = absurd cc
    by_test false test h =
        let some = eqb-false g 0 test in
        let more : 1 ≤ g = omega (arith, some) in
        let less : g < 2 ^ 64 = omega (arith, small) in
        subst (PieceFits setup r) (same_Some (piece.Count g) pc h) (escrow, more, less)

-- some shares, all of them at most
shares_fit : (setup : Setup) (r : Right) (have : ℕ) (m : Mode) (pc : Piece) → is_shared r ≡ true → have ≤ setup.replicas → IsHeldPiece (held.Shares have m) pc → PieceFits setup r pc
shares_fit setup r have m (piece.Count n) shared few h = absurd h
shares_fit setup r have m (piece.Shares n given) shared few h = (shared, omega (arith, h.0), omega (arith, h.1, few))
shares_fit setup r have m (piece.Points span) shared few h = absurd h

-- what is given to one who asks fits
given_fits : (setup : Setup) (logs : Logs) (me : ℕ) (own : List LogItem) (r : Right) (ask : WantAsk) (pc : Piece) → AskFits setup r ask → HoldsFew setup logs me own
    → piece_for (held_right setup logs me own r (span_in (amount_of ask))) ask ≡ Some pc → PieceFits setup r pc
given_fits setup logs me own (right.Low cell) (asked.Count n) pc asks few is = count_fits setup (right.Low cell) (held_count setup logs me own (right.Low cell)) n pc refl asks.1 is
given_fits setup logs me own (right.Low cell) (asked.Level l) pc asks few is = absurd cc
given_fits setup logs me own (right.Low cell) (asked.Points span) pc asks few is = absurd cc
given_fits setup logs me own (right.High cell) (asked.Count n) pc asks few is = count_fits setup (right.High cell) (held_count setup logs me own (right.High cell)) n pc refl asks.1 is
given_fits setup logs me own (right.High cell) (asked.Level l) pc asks few is = absurd cc
given_fits setup logs me own (right.High cell) (asked.Points span) pc asks few is = absurd cc
given_fits setup logs me own (right.Lock lock key) ask pc asks few is =
    shares_fit setup (right.Lock lock key) (held_count setup logs me own (right.Lock lock key)) (mode_of setup logs me own (right.Lock lock key)) pc refl (few (right.Lock lock key) refl) (piece_held setup logs me own (right.Lock lock key) ask pc is)
given_fits setup logs me own (right.Entry clause args literal) ask pc asks few is =
    shares_fit setup (right.Entry clause args literal) (held_count setup logs me own (right.Entry clause args literal)) (mode_of setup logs me own (right.Entry clause args literal)) pc refl (few (right.Entry clause args literal) refl) (piece_held setup logs me own (right.Entry clause args literal) ask pc is)
given_fits setup logs me own (right.Part part key) (asked.Count n) pc asks few is = absurd cc
given_fits setup logs me own (right.Part part key) (asked.Level l) pc asks few is = absurd cc
given_fits setup logs me own (right.Part part key) (asked.Points span) pc asks few is =
    let run = points_given (holds_point setup logs me own (right.Part part key)) (missing_of (holds_point setup logs me own (right.Part part key)) span) span pc is in
    subst (PieceFits setup (right.Part part key)) (sym run.1) (run.2, omega (arith, run.3, asks.1))

-- an Out is next, in front of others that are
out_next : (setup : Setup) (logs : Logs) (me to : ℕ) (needs : List Need) (p : Standing) (w : Want) (pc : Piece) → to < setup.replicas → WantFits setup w → Goes setup logs me p
    → piece_for (holding setup logs me p (need_of w)) w.ask ≡ Some pc → IsNext setup (slice_set logs me p.log) me needs p (record { origin = me; index = length p.log; deps = p.cut; body = body.Out to w.right pc })
out_next setup logs me to needs p w pc peer fits h is = record {
  is = refl;
  fits = (peer, fits.of, given_fits setup logs me p.log w.right w.ask pc fits.much h.few is);
  allowed = subst (λ (have : Held). IsHeldPiece have pc) (goes_held setup logs me p w.right (span_given pc) h) (piece_held setup logs me p.log w.right w.ask pc is);
  along = tt;
}

-- then no more is held
out_goes : (setup : Setup) (logs : Logs) (me to : ℕ) (p : Standing) (r : Right) (pc : Piece) → Goes setup logs me p → Goes setup logs me (logged me (body.Out to r pc) p)
out_goes setup logs me to p r pc h =
    let item : LogItem = record { origin = me; index = length p.log; deps = p.cut; body = body.Out to r pc } in
    goes_on setup logs me p (body.Out to r pc) h tt (λ q shared. let was = h.few q shared in omega (arith, count_more setup logs me p.log item q, was))

-- what is given to one want is next, in front of others that are
given_next : (setup : Setup) (logs : Logs) (me to : ℕ) (needs : List Need) (p : Standing) (w : Want) (o : Option Piece) (bodies : List Body) → to < setup.replicas → WantFits setup w → Goes setup logs me p → piece_for (holding setup logs me p (need_of w)) w.ask ≡ o
    → AreNext setup logs me needs (logged_all me (given o to w.right) p) (items_for me bodies (logged_all me (given o to w.right) p)) → AreNext setup logs me needs p (items_for me (given o to w.right ++ bodies) p)
given_next setup logs me to needs p w None bodies peer fits h is rest = rest
given_next setup logs me to needs p w (Some pc) bodies peer fits h is rest = (out_next setup logs me to needs p w pc peer fits h is, rest)

given_goes : (setup : Setup) (logs : Logs) (me to : ℕ) (p : Standing) (r : Right) (o : Option Piece) → Goes setup logs me p → Goes setup logs me (logged_all me (given o to r) p)
given_goes setup logs me to p r None h = h
given_goes setup logs me to p r (Some pc) h = out_goes setup logs me to p r pc h

-- what is given to each want in turn is next
pub gives_next : (setup : Setup) (logs : Logs) (me to : ℕ) (needs : List Need) (wants : List Want) (p : Standing) → to < setup.replicas → AllByRecursion (WantFits setup) wants → Goes setup logs me p
    → AreNext setup logs me needs p (items_for me (gives_for setup logs me to wants p) p)
gives_next setup logs me to needs [] p peer all h = tt
gives_next setup logs me to needs (w ∷ wants) p peer all h =
    let o : Option Piece = piece_for (holding setup logs me p (need_of w)) w.ask in
    let q : Standing = logged_all me (given o to w.right) p in
    given_next setup logs me to needs p w o (gives_for setup logs me to wants q) peer all.0 h refl (gives_next setup logs me to needs wants q peer all.1 (given_goes setup logs me to p w.right o h))
