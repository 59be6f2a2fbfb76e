-- In a run a replica can accept all that is on its way to it, and heeds whole what was sent to it.
use Rattle.std.proofs.Common.{◌≡◌, inl, inr, ℕ, ◌+◌, ◌<◌, ◌≤◌, true, cond, nat_lt, List, [], ◌∷◌, ◌++◌, length, take, drop, refl, sym, ap, subst, ◌∙◌, arith, eqb-true, eq-eqb, le-ltb}
use Rattle.std.specs.Prelude.{slice_get, slice_index, Some}
use Rattle.std.specs.List.{AllByRecursion}
use Rattle.std.proofs.lemmas.Bool.{cond_both, ltb-false}
use Rattle.std.proofs.lemmas.Option.{slice_get_within}
use Rattle.std.proofs.lemmas.List.{append_assoc, take-append-drop}
use Rattle.spec_model.specs.declared.plan.Setup.{Setup}
use Rattle.spec_model.specs.declared.right.Piece.{Piece}
use Rattle.spec_model.specs.declared.right.Piece.TheVariants as piece
use Rattle.spec_model.specs.declared.right.Right.{Right}
use Rattle.spec_model.specs.declared.right.Right.TheVariants as right
use Rattle.spec_model.specs.declared.log.Body.{Body}
use Rattle.spec_model.specs.declared.log.Body.TheVariants as body
use Rattle.spec_model.specs.declared.log.LogItem.{LogItem}
use Rattle.run_model.specs.Allowed.{span_given}
use Rattle.run_model.specs.Balance.{IsConserved}
use Rattle.run_model.specs.Fitting.{BodyFits, ItemFits}
use Rattle.run_model.specs.Holding.{held_right, mode_of}
use Rattle.run_model.specs.Logs.{IsIn, Logs, cut_after, item_at, log_at}
use Rattle.run_model.specs.Passing.{can_accept}
use Rattle.run_model.specs.Points.{piece_point, point_count, points_all}
use Rattle.run_model.specs.Rights.{held_count, piece_count}
use Rattle.run_model.specs.Shares.{GivesIn, HasOneMode}
use Rattle.run_model.specs.Steps.{unseen}
use Rattle.run_model.specs.Worlds.{Standing}
use Rattle.run_model.proofs.Alike.{right_alike}
use Rattle.run_model.proofs.Answers.{IsPart}
use Rattle.run_model.proofs.Lists.{each_at, each_weaker, get_behind, get_front}
use Rattle.run_model.proofs.OneMode.{one_mode}
use Rattle.run_model.proofs.Standing.{points_balance}
use Rattle.message_laws.specs.Heeded.{CanAccept, JoinsAfter, held_after, with_items}
use Rattle.message_laws.specs.Views.{View, standing_in}
use Rattle.message_laws.proofs.Accepting.{GivesToIn, count_accept, mode_after, point_accept}
use Rattle.message_laws.proofs.Flight.{all_consistent, count_at, full_cut, not_accepted}
use Rattle.message_laws.proofs.Given.{IsGiven, IsHere, applied_there, holds_given, own_after, own_known, own_whole}
use Rattle.message_laws.proofs.Joining.{joins, part_joins}
use Rattle.message_laws.proofs.Lists.{take_at}
use Rattle.message_laws.proofs.Onway.{IsApplied, IsNew, IsSender, each_new, front_ready, known_alike, next_of}
use Rattle.message_laws.proofs.Limits.{limit, there_are}
use Rattle.message_laws.proofs.Rights.{right_kind, right_self}

-- ---- in which mode

-- what a new item gives to it is in the one mode of all shares
new_gives : (setup : Setup) (logs : Logs) (me from : ℕ) (p : Standing) (known : Logs) (r : Right) (x : LogItem) → IsHere setup logs me p known → (one : HasOneMode setup logs (full_cut logs) r) → IsNew logs from p.cut x → GivesToIn me r one.mode x.body
new_gives setup logs me from p known r x h one new = by_body x.body refl
  where
    by_body : (b : Body) → x.body ≡ b → GivesToIn me r one.mode b
    by_body (body.Act inst) is = tt
    by_body (body.Accept origin index) is = tt
    by_body (body.Out to s pc) is = λ mine.
        let out : x.body ≡ body.Out me s pc = is ∙ ap (λ n. body.Out n s pc) (eqb-true to me mine) in
        let free = not_accepted logs me from x.index p.cut (full_cut logs) x s pc h.seen new.there new.fresh out in
        let within : IsIn (full_cut logs) from x.index = omega (arith, count_at logs from, slice_get_within (log_at logs from) x.index x new.there) in
        subst (GivesIn r one.mode) is (one.in_flight from x.index x new.there within free)

-- ---- an item

-- of a right that is conserved it can be accepted
whole_joins : (setup : Setup) (logs : Logs) (me from : ℕ) (p : Standing) (known : Logs) (before : List LogItem) (item : LogItem) (r : Right) (pc : Piece) → IsHere setup logs me p known → IsGiven setup logs me from p before item r pc → IsConserved setup.spec r
    → can_accept setup.replicas (held_right setup logs me (own_after me known p (unseen p.cut before)) r (span_given pc)) pc ≡ true
whole_joins setup logs me from p known before item r pc h g conserved =
    let v : View = record { me = me; known = known; cut = p.cut } in
    let applied : List LogItem = unseen p.cut before in
    let q : Standing = record (standing_in v) { cut = cut_after p.cut applied } in
    let own : List LogItem = own_after me known p applied in
    let same : q.log ≡ p.log = own_known setup logs me p known h in
    let full = all_consistent logs h.held.named in
    let fits = subst (BodyFits setup) g.gives g.fits.body in
    let le : held_count setup logs me own r + piece_count pc ≤ limit setup r =
    holds_given setup logs me from p known before item r pc piece_count (λ (k : ℕ) (l : List LogItem). held_count setup logs k l r) (limit setup r) h g (count_accept setup logs me r) (there_are setup logs (full_cut logs) r h.small h.held full conserved) in
    joins setup logs me own r (span_given pc) pc conserved fits.2 le (λ shared some.
    let one = one_mode setup logs (full_cut logs) r h.held shared full in
    let all = each_weaker (IsApplied logs from p.cut (length applied)) (λ (x : LogItem). GivesToIn me r one.mode x.body) (λ x new. new_gives setup logs me from p known r x h one new.new) applied (each_new logs me from p.cut applied g.next) in
    let first : 0 < held_count setup logs me q.log r → mode_of setup logs me q.log r ≡ one.mode =
    subst (λ (l : List LogItem). 0 < held_count setup logs me l r → mode_of setup logs me l r ≡ one.mode) (own_whole setup logs me p known h ∙ sym same) (one.held me h.among) in
    let last = mode_after setup logs me q applied r one.mode (applied_there logs me from p.cut applied g.next) all first some in
    let mine = subst (GivesToIn me r one.mode) g.gives (new_gives setup logs me from p known r item h one g.new) in
    mine (eq-eqb me me refl) (right_self r) ∙ ap (piece.Shares (piece_count pc)) (sym last))

-- and of a partition: none of its points is held, since each stands once
parted_joins : (setup : Setup) (logs : Logs) (me from : ℕ) (p : Standing) (known : Logs) (before : List LogItem) (item : LogItem) (part : ℕ) (key : List ℕ) (pc : Piece) → IsHere setup logs me p known → IsGiven setup logs me from p before item (right.Part part key) pc
    → can_accept setup.replicas (held_right setup logs me (own_after me known p (unseen p.cut before)) (right.Part part key) (span_given pc)) pc ≡ true
parted_joins setup logs me from p known before item part key pc h g =
    let r : Right = right.Part part key in
    let own : List LogItem = own_after me known p (unseen p.cut before) in
    let fits = subst (BodyFits setup) g.gives g.fits.body in
    part_joins setup logs me own part key pc fits.2 (λ x some.
    let all : ℕ = points_all setup part in
    let balance = points_balance setup logs (full_cut logs) part key x h.held (all_consistent logs h.held.named) in
    let one : cond (nat_lt x all) 1 0 ≤ 1 = cond_both (nat_lt x all) 1 0 (λ n. n ≤ 1) (λ y. omega arith) (λ y. omega arith) in
    let le : point_count setup logs me own r x + piece_point x pc ≤ 1 =
    holds_given setup logs me from p known before item r pc (piece_point x) (λ (k : ℕ) (l : List LogItem). point_count setup logs k l r x) 1 h g (point_accept setup logs me r x) (omega (arith, balance, one)) in
    le-ltb 0 (point_count setup logs me own r x) (omega (arith, le, some)))

-- by the logs, and so by what it knows
given_joins : (setup : Setup) (logs : Logs) (me from : ℕ) (p : Standing) (known : Logs) (before : List LogItem) (item : LogItem) (r : Right) (pc : Piece) → IsHere setup logs me p known → IsGiven setup logs me from p before item r pc
    → can_accept setup.replicas (held_after setup (record { me = me; known = known; cut = p.cut }) from (unseen p.cut before) r (span_given pc)) pc ≡ true
given_joins setup logs me from p known before item r pc h g =
    let v : View = record { me = me; known = known; cut = p.cut } in
    let applied : List LogItem = unseen p.cut before in
    let q : Standing = record (standing_in v) { cut = cut_after p.cut applied } in
    let own : List LogItem = own_after me known p applied in
    let fits = subst (BodyFits setup) g.gives g.fits.body in
    let alike = right_alike setup (with_items from applied known) logs me own r (span_given pc) (known_alike logs me from known applied p q h.stands h.knows h.long g.next (own_known setup logs me p known h)) in
    ap (λ x. can_accept setup.replicas x pc) alike
    ∙ elim (right_kind setup r fits.1) [
      | inl conserved ↦ whole_joins setup logs me from p known before item r pc h g conserved
      | inr of_part ↦
          subst (λ (s : Right). IsGiven setup logs me from p before item s pc → can_accept setup.replicas (held_right setup logs me own s (span_given pc)) pc ≡ true) (sym of_part.2)
          (parted_joins setup logs me from p known before item of_part.0 of_part.1 pc h) g
    ]

-- ---- each item of a part

pub accepts_part : (setup : Setup) (logs : Logs) (me from : ℕ) (p : Standing) (known : Logs) (items : List LogItem) → IsHere setup logs me p known → IsSender logs me from p.cut → IsPart (log_at logs from) items → AllByRecursion (ItemFits setup) items
    → (k : ℕ) (item : LogItem) → slice_get items k ≡ Some item → CanAccept setup (record { me = me; known = known; cut = p.cut }) from (take k items) item
accepts_part setup logs me from p known items h s is fit k item at fresh ready = by_body item.body refl
  where
    before : List LogItem
    before = take k items

    v : View
    v = record { me = me; known = known; cut = p.cut }

    part : IsPart (log_at logs from) (before ++ item ∷ [])
    part =
        let halves : items ≡ (before ++ item ∷ []) ++ drop (k + 1) items = sym (take-append-drop (k + 1) items) ∙ ap (λ (l : List LogItem). l ++ drop (k + 1) items) (take_at items k item at) in
        record {
          front = is.front;
          behind = drop (k + 1) items ++ is.behind;
          is = is.is ∙ ap (λ (l : List LogItem). is.front ++ (l ++ is.behind)) halves ∙ ap (λ (l : List LogItem). is.front ++ l) (append_assoc (before ++ item ∷ []) (drop (k + 1) items) is.behind);
        }

    front : IsPart (log_at logs from) before
    front = record {
      front = part.front;
      behind = (item ∷ []) ++ part.behind;
      is = part.is ∙ ap (λ (l : List LogItem). part.front ++ l) (append_assoc before (item ∷ []) part.behind);
    }

    there : item_at logs from (length part.front + k) ≡ Some item
    there = ap (λ (l : List LogItem). slice_get l (length is.front + k)) is.is ∙ get_behind is.front (items ++ is.behind) k ∙ get_front items is.behind k item at

    new : IsNew logs from p.cut item
    new =
        let named = h.held.named.named from (length is.front + k) item there in
        record {
          origin = named.0;
          there = ap (item_at logs from) named.1 ∙ there;
          fresh = let le : slice_index p.cut item.origin ≤ item.index = ltb-false item.index (slice_index p.cut item.origin) fresh in omega (arith, le, ap (slice_index p.cut) named.0);
        }

    by_body : (b : Body) → item.body ≡ b → JoinsAfter setup v from (unseen p.cut before) b
    by_body (body.Act inst) gives = tt
    by_body (body.Accept origin index) gives = tt
    by_body (body.Out to r pc) gives = λ mine. given_joins setup logs me from p known before item r pc h (record {
      part = part;
      next = next_of logs me from p.cut before s front (front_ready p.cut (unseen p.cut before) (item ∷ []) ready);
      fresh = fresh;
      new = new;
      fits = each_at (ItemFits setup) items k item fit at;
      gives = gives ∙ ap (λ n. body.Out n r pc) mine;
    })
