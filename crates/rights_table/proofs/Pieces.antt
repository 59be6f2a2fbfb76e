-- Pieces that are given and accepted, by the holding of their right.
use Rattle.std.proofs.Common.{◌≡◌, inl, inr, ℕ, ◌+◌, ◌<◌, ◌≤◌, ◌^◌, Bool, true, false, cond, List, [], ◌∷◌, ◌++◌, refl, sym, ap, ◌∙◌, subst, arith, eqb-true}
use Rattle.std.specs.Prelude.{not, is_some, Option, Some, nat_le, ◌==◌, ◌||◌}
use Rattle.std.specs.Option.{option_map_or}
use Rattle.std.proofs.lemmas.Bool.{cases_Bool, cond-true, cond-false, and_parts}
use Rattle.spec_model.specs.declared.plan.Setup.{Setup}
use Rattle.spec_model.specs.declared.right.Mode.{Mode}
use Rattle.spec_model.specs.declared.right.Mode.TheVariants as mode
use Rattle.spec_model.specs.declared.right.Right.{Right}
use Rattle.spec_model.specs.declared.right.Right.TheVariants as right
use Rattle.spec_model.specs.declared.right.Piece.{Piece}
use Rattle.spec_model.specs.declared.right.Piece.TheVariants as piece
use Rattle.spec_model.specs.declared.log.Body.{Body}
use Rattle.spec_model.specs.declared.log.Body.TheVariants as body
use Rattle.spec_model.specs.declared.log.LogItem.{LogItem}
use Rattle.run_model.specs.Logs.{Logs, item_at}
use Rattle.run_model.specs.Allowed.{IsHeldPiece, span_given}
use Rattle.run_model.specs.Points.{out_point, piece_point}
use Rattle.partition_locks.specs.Held.{HeldPoints, is_roomy}
use Rattle.partition_locks.proofs.Frees.{none_held}
use Rattle.run_model.specs.Rights.{same_right, is_shared, piece_count, body_gains, body_loses, held_count, accept_brings, out_gives}
use Rattle.run_model.specs.Holding.{mode_of as mode_held, next_mode, piece_mode, out_mode}
use Rattle.rights_table.specs.declared.holding.Holding.{Holding}
use Rattle.rights_table.specs.declared.holding.Holding.TheVariants as holding
use Rattle.rights_table.specs.declared.table.Table.{Table}
use Rattle.rights_table.specs.Holdings.{count_of, mode_of, point_of, told, is_of, MayGive, MayAccept, Given, Accepted}
use Rattle.run_model.specs.Passing.{can_accept, same_mode}
use Rattle.rights_table.specs.Tables.{entered, count_in, mode_in, point_in, IsTable, Becomes}
use Rattle.spec_model.specs.Fits.{IsWellFormed}
use Rattle.run_model.specs.Fitting.{PieceFits}
use Rattle.rights_table.proofs.Started.{points_few}
use Rattle.rights_table.specs.Same.{same_is}
use Rattle.rights_table.proofs.Telling.{count_entered, mode_entered}
use Rattle.rights_table.proofs.Stepped.{table_step, count_by, mode_stays, mode_becomes, point_by}

-- the points that it has
pub points_roomy : (all : ℕ) (r : Right) (h : HeldPoints) → is_of all r (holding.Points h) ≡ true → is_roomy h ≡ true
points_roomy all (right.Low c) h kind = absurd cc
points_roomy all (right.High c) h kind = absurd cc
points_roomy all (right.Lock l key) h kind = absurd cc
points_roomy all (right.Entry c args i) h kind = absurd cc
points_roomy all (right.Part q key) h kind = kind

-- a piece of what is told may be given
pub held_may : (all : ℕ) (r : Right) (h : Holding) (p : Piece) → is_of all r h ≡ true → IsHeldPiece (told h (span_given p)) p → MayGive h p
held_may all r (holding.Count e) (piece.Count n) kind is = is.1
held_may all r (holding.Count e) (piece.Shares n m) kind is = absurd is
held_may all r (holding.Count e) (piece.Points span) kind is = absurd is
held_may all r (holding.Shares s) (piece.Shares n m) kind is = (is.2, is.1)
held_may all r (holding.Shares s) (piece.Count n) kind is = absurd is
held_may all r (holding.Shares s) (piece.Points span) kind is = absurd is
held_may all r (holding.Points h) (piece.Points span) kind is = (points_roomy all r h kind, ap (λ (o : Option ℕ). not (is_some o)) is)
held_may all r (holding.Points h) (piece.Count n) kind is = absurd is
held_may all r (holding.Points h) (piece.Shares n m) kind is = absurd is

same_mode_is : (a b : Mode) → same_mode a b ≡ true → a ≡ b
same_mode_is mode.Forbid mode.Forbid h = refl
same_mode_is mode.Allow mode.Allow h = refl
same_mode_is mode.Forbid mode.Allow h = absurd cc
same_mode_is mode.Allow mode.Forbid h = absurd cc

-- points of a piece are below 1024
abbrev pub IsLow : Piece → Type 0
IsLow (piece.Points span) = span.hi < 1024
IsLow p = Unit {0}

-- so are those of a piece that fits
pub piece_low : (setup : Setup) (r : Right) (p : Piece) → IsWellFormed setup.spec → PieceFits setup r p → IsLow p
piece_low setup r (piece.Count n) well fits = tt
piece_low setup r (piece.Shares n m) well fits = tt
piece_low setup (right.Part part key) (piece.Points span) well fits = let few = points_few setup part well in omega (arith, few, fits.1)
piece_low setup (right.Low c) (piece.Points span) well fits = absurd fits
piece_low setup (right.High c) (piece.Points span) well fits = absurd fits
piece_low setup (right.Lock l key) (piece.Points span) well fits = absurd fits
piece_low setup (right.Entry c args i) (piece.Points span) well fits = absurd fits

-- a piece that can be accepted joins the holding
pub joins_may : (all : ℕ) (r : Right) (h : Holding) (p : Piece) → is_of all r h ≡ true → IsLow p → can_accept all (told h (span_given p)) p ≡ true → MayAccept h p
joins_may all r (holding.Count e) (piece.Count n) kind low can = let few : e.count + n ≤ 2 ^ 62 = le_is (e.count + n) (2 ^ 62) can in omega (arith, few)
  where
    le_is : (a b : ℕ) → nat_le a b ≡ true → a ≤ b
    le_is a b h = search (arith)
joins_may all r (holding.Count e) (piece.Shares n m) kind low can = absurd cc
joins_may all r (holding.Shares s) (piece.Shares n m) kind low can =
    let parts = and_parts (nat_le (s.shares + n) all) ((s.shares == 0) || same_mode m s.mode) can in
    let of_all : s.all ≡ all = all_of r kind in
    record { few = (let few : s.shares + n ≤ all = le_is (s.shares + n) all parts.0 in omega (arith, few, of_all)); one_mode = λ some. either (s.shares == 0) m s.mode parts.1 (λ none. some (eqb-true s.shares 0 none)) }
  where
    le_is : (a b : ℕ) → nat_le a b ≡ true → a ≤ b
    le_is a b h = search (arith)

    either : (b : Bool) (m k : Mode) → (b || same_mode m k) ≡ true → (b ≡ true → ⊥) → m ≡ k
    either true m k h never = absurd (never refl)
    either false m k h never = same_mode_is m k h

    all_of : (q : Right) → is_of all q (holding.Shares s) ≡ true → s.all ≡ all
    all_of (right.Low cell) k = absurd cc
    all_of (right.High cell) k = absurd cc
    all_of (right.Lock l key) k = eqb-true s.all all k
    all_of (right.Entry c args i) k = eqb-true s.all all k
    all_of (right.Part q key) k = absurd cc
joins_may all r (holding.Shares s) (piece.Count n) kind low can = absurd cc
joins_may all r (holding.Count e) (piece.Points span) kind low can = absurd cc
joins_may all r (holding.Shares s) (piece.Points span) kind low can = absurd cc
joins_may all r (holding.Points h) (piece.Count n) kind low can = absurd cc
joins_may all r (holding.Points h) (piece.Shares n m) kind low can = absurd cc
joins_may all r (holding.Points h) (piece.Points span) kind low can = (points_roomy all r h kind, none_held h span can, low)

-- ---- giving

-- so many fewer, in the same mode
given_sum : (before : Holding) (p : Piece) (after : Holding) → Given before p after → (count_of after + piece_count p ≡ count_of before) × (mode_of after ≡ mode_of before) × ((y : ℕ) → point_of after y + piece_point y p ≡ point_of before y)
given_sum (holding.Count e) (piece.Count n) (holding.Count f) h = (h, refl, λ y. refl)
given_sum (holding.Shares s) (piece.Shares n m) (holding.Shares t) h = (h.shares, h.mode, λ y. refl)
given_sum (holding.Count e) (piece.Count n) (holding.Shares t) h = absurd h
given_sum (holding.Shares s) (piece.Shares n m) (holding.Count f) h = absurd h
given_sum (holding.Count e) (piece.Shares n m) after h = absurd h
given_sum (holding.Shares s) (piece.Count n) after h = absurd h
given_sum (holding.Count e) (piece.Points span) after h = absurd h
given_sum (holding.Shares s) (piece.Points span) after h = absurd h
given_sum (holding.Count e) (piece.Count n) (holding.Points k) h = absurd h
given_sum (holding.Shares s) (piece.Shares n m) (holding.Points k) h = absurd h
given_sum (holding.Points b) (piece.Points span) (holding.Points k) h = (refl, refl, λ y. sym (h.1 y))
given_sum (holding.Points b) (piece.Points span) (holding.Count f) h = absurd h
given_sum (holding.Points b) (piece.Points span) (holding.Shares t) h = absurd h
given_sum (holding.Points b) (piece.Count n) after h = absurd h
given_sum (holding.Points b) (piece.Shares n m) after h = absurd h

pub gives : (setup : Setup) (logs : Logs) (me : ℕ) (own : List LogItem) (among : Right → Bool) (x : LogItem) (to : ℕ) (r : Right) (p : Piece) (before after : Holding) (old new : Table) → Becomes r before after old new → Given before p after
    → x.body ≡ body.Out to r p → IsTable setup logs me own among old → IsTable setup logs me (own ++ x ∷ []) among new
gives setup logs me own among x to r p before after old new becomes given out is =
    let sum = given_sum before p after given in
    table_step setup logs me own among x old new is
    (record {
      me = becomes.me;
      replicas = becomes.replicas;
      counts = λ q one. subst (λ (b : Body). count_in setup new q + body_loses setup.spec q b ≡ count_in setup old q + body_gains setup.spec logs q b) (sym out) (let by = count_by setup r q before after old new (piece_count p) 0 becomes (omega (arith, sum.0)) in let none = nothing (same_right r q) in omega (arith, by, none));
      points = λ q one y. subst (λ (b : Body). point_in setup new q y + out_point q y b ≡ point_in setup old q y + accept_brings logs (out_point q y) b) (sym out) (let by = point_by setup r q y before after old new (piece_point y p) 0 becomes (let at = sum.2 y in omega (arith, at)) in let none = nothing (same_right r q) in omega (arith, by, none));
      modes = λ q one shared. subst (λ (b : Body). mode_in new q ≡ next_mode setup logs (held_count setup logs me own) (mode_held setup logs me own) x.deps b q) (sym out) (mode_stays r q before after old new becomes sum.1 ∙ is.modes q one shared);
    })
  where
    nothing : (b : Bool) → ◌≡◌ {A = ℕ} (cond b 0 0) 0
    nothing true = refl
    nothing false = refl

-- ---- accepting

-- so many more; it brings its mode where there were none
accepted_sum : (before : Holding) (p : Piece) (after : Holding) → Accepted before p after → (count_of after ≡ count_of before + piece_count p) × (mode_of after ≡ cond (count_of before == 0) (piece_mode p (mode_of before)) (mode_of before)) × ((y : ℕ) → point_of after y ≡ point_of before y + piece_point y p)
accepted_sum (holding.Count e) (piece.Count n) (holding.Count f) h = (h, both (e.count == 0), λ y. refl)
  where
    both : (b : Bool) → mode.Forbid ≡ cond b mode.Forbid mode.Forbid
    both true = refl
    both false = refl
accepted_sum (holding.Shares s) (piece.Shares n m) (holding.Shares t) h = (h.shares, h.mode, λ y. refl)
accepted_sum (holding.Count e) (piece.Count n) (holding.Shares t) h = absurd h
accepted_sum (holding.Shares s) (piece.Shares n m) (holding.Count f) h = absurd h
accepted_sum (holding.Count e) (piece.Shares n m) after h = absurd h
accepted_sum (holding.Shares s) (piece.Count n) after h = absurd h
accepted_sum (holding.Count e) (piece.Points span) after h = absurd h
accepted_sum (holding.Shares s) (piece.Points span) after h = absurd h
accepted_sum (holding.Count e) (piece.Count n) (holding.Points k) h = absurd h
accepted_sum (holding.Shares s) (piece.Shares n m) (holding.Points k) h = absurd h
accepted_sum (holding.Points b) (piece.Points span) (holding.Points k) h = (refl, refl, λ y. h.1 y)
accepted_sum (holding.Points b) (piece.Points span) (holding.Count f) h = absurd h
accepted_sum (holding.Points b) (piece.Points span) (holding.Shares t) h = absurd h
accepted_sum (holding.Points b) (piece.Count n) after h = absurd h
accepted_sum (holding.Points b) (piece.Shares n m) after h = absurd h

pub accepts : (setup : Setup) (logs : Logs) (me : ℕ) (own : List LogItem) (among : Right → Bool) (x out : LogItem) (from at to : ℕ) (r : Right) (p : Piece) (before after : Holding) (old new : Table) → Becomes r before after old new → Accepted before p after
    → x.body ≡ body.Accept from at → item_at logs from at ≡ Some out → out.body ≡ body.Out to r p → IsTable setup logs me own among old → IsTable setup logs me (own ++ x ∷ []) among new
accepts setup logs me own among x out from at to r p before after old new becomes accepted accept there gave is =
    let sum = accepted_sum before p after accepted in
    table_step setup logs me own among x old new is
    (record {
      me = becomes.me;
      replicas = becomes.replicas;
      counts = λ q one. subst (λ (b : Body). count_in setup new q + body_loses setup.spec q b ≡ count_in setup old q + body_gains setup.spec logs q b) (sym accept)
          (let by = count_by setup r q before after old new 0 (piece_count p) becomes (omega (arith, sum.0)) in
          let none = nothing (same_right r q) in
          let brings : accept_brings logs (out_gives q) (body.Accept from at) ≡ cond (same_right r q) (piece_count p) 0 = ap (λ (o : Option LogItem). option_map_or (λ (i : LogItem). out_gives q i.body) o 0) there ∙ ap (out_gives q) gave in
          omega (arith, by, none, brings));
      points = λ q one y. subst (λ (b : Body). point_in setup new q y + out_point q y b ≡ point_in setup old q y + accept_brings logs (out_point q y) b) (sym accept)
          (let by = point_by setup r q y before after old new 0 (piece_point y p) becomes (let at = sum.2 y in omega (arith, at)) in
          let none = nothing (same_right r q) in
          let brings : accept_brings logs (out_point q y) (body.Accept from at) ≡ cond (same_right r q) (piece_point y p) 0 = ap (λ (o : Option LogItem). option_map_or (λ (i : LogItem). out_point q y i.body) o 0) there ∙ ap (out_point q y) gave in
          omega (arith, by, none, brings));
      modes = λ q one shared. subst (λ (b : Body). mode_in new q ≡ next_mode setup logs (held_count setup logs me own) (mode_held setup logs me own) x.deps b q) (sym accept)
          (mode_becomes r q before after old new becomes ∙ there_mode q one shared sum.1);
    })
  where
    nothing : (b : Bool) → ◌≡◌ {A = ℕ} (cond b 0 0) 0
    nothing true = refl
    nothing false = refl

    both : (b : Bool) (m : Mode) → cond b m m ≡ m
    both true m = refl
    both false m = refl

    -- the mode by what the model says of it
    there_mode : (q : Right) → among q ≡ true → is_shared q ≡ true → mode_of after ≡ cond (count_of before == 0) (piece_mode p (mode_of before)) (mode_of before)
        → cond (same_right r q) (mode_of after) (mode_in old q) ≡ next_mode setup logs (held_count setup logs me own) (mode_held setup logs me own) x.deps (body.Accept from at) q
    there_mode q one shared now =
        let n : ℕ = held_count setup logs me own q in
        let m : Mode = mode_held setup logs me own q in
        let brought : next_mode setup logs (held_count setup logs me own) (mode_held setup logs me own) x.deps (body.Accept from at) q ≡ cond (n == 0) (cond (same_right r q) (piece_mode p m) m) m =
        ap (λ (o : Option LogItem). cond (n == 0) (option_map_or (λ (i : LogItem). out_mode q i.body m) o m) m) there ∙ ap (λ (b : Body). cond (n == 0) (out_mode q b m) m) gave in
        elim (cases_Bool (same_right r q)) [
          | inl same ↦
              let here : r ≡ q = same_is r q same in
              let counted : count_of before ≡ n = sym (count_entered setup old r before becomes.was) ∙ ap (count_in setup old) here ∙ is.counts q one in
              let moded : mode_of before ≡ m = sym (mode_entered old r before becomes.was) ∙ ap (mode_in old) here ∙ is.modes q one shared in
              cond-true (same_right r q) (mode_of after) (mode_in old q) same ∙ now
              ∙ ap (λ k. cond (k == 0) (piece_mode p (mode_of before)) (mode_of before)) counted ∙ ap (λ (k : Mode). cond (n == 0) (piece_mode p k) k) moded
              ∙ sym (brought ∙ ap (λ (k : Mode). cond (n == 0) k m) (cond-true (same_right r q) (piece_mode p m) m same))
          | inr other ↦
              cond-false (same_right r q) (mode_of after) (mode_in old q) other ∙ is.modes q one shared
              ∙ sym (brought ∙ ap (λ (k : Mode). cond (n == 0) k m) (cond-false (same_right r q) (piece_mode p m) m other) ∙ both (n == 0) m)
        ]

-- ---- entries

-- an entry that becomes another is there still
pub becomes_kept : (r q : Right) (before after : Holding) (old new : Table) → Becomes r before after old new → (h : Holding) × (entered old q ≡ Some h) → (h : Holding) × (entered new q ≡ Some h)
becomes_kept r q before after old new becomes has =
    elim (cases_Bool (same_right r q)) [
      | inl same ↦ (after, becomes.is q ∙ cond-true (same_right r q) (Some after) (entered old q) same)
      | inr other ↦ (has.0, becomes.is q ∙ cond-false (same_right r q) (Some after) (entered old q) other ∙ has.1)
    ]

-- and none was made
pub becomes_no_more : (r q : Right) (before after : Holding) (old new : Table) → Becomes r before after old new → (h : Holding) × (entered new q ≡ Some h) → (h : Holding) × (entered old q ≡ Some h)
becomes_no_more r q before after old new becomes has =
    elim (cases_Bool (same_right r q)) [
      | inl same ↦ (before, ap (entered old) (sym (same_is r q same)) ∙ becomes.was)
      | inr other ↦ (has.0, sym (becomes.is q ∙ cond-false (same_right r q) (Some after) (entered old q) other) ∙ has.1)
    ]
