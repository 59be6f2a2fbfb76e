-- What a replica holds once it has accepted what items give to it: no more than before and all that, and in one mode.
use Rattle.std.proofs.Common.{◌≡◌, ℕ, ◌+◌, ◌-◌, ◌<◌, ◌≤◌, Bool, true, false, cond, if◌then◌else◌, ◌==◌, List, [], ◌∷◌, ◌++◌, length, refl, sym, ap, subst, ◌∙◌, arith, eqb-true}
use Rattle.std.specs.Prelude.{Some, Option, sum_by}
use Rattle.std.specs.List.{AllByRecursion}
use Rattle.std.specs.Option.{option_map_or}
use Rattle.std.proofs.lemmas.Bool.{eqb-false}
use Rattle.std.proofs.lemmas.List.Sums.{sum_by-cons, sum_by_push}
use Rattle.spec_model.specs.declared.plan.Setup.{Setup}
use Rattle.spec_model.specs.declared.right.Right.{Right}
use Rattle.spec_model.specs.declared.right.Mode.{Mode}
use Rattle.spec_model.specs.declared.right.Piece.{Piece}
use Rattle.spec_model.specs.declared.right.Piece.TheVariants as piece
use Rattle.spec_model.specs.declared.log.Body.{Body}
use Rattle.spec_model.specs.declared.log.Body.TheVariants as body
use Rattle.spec_model.specs.declared.log.LogItem.{LogItem}
use Rattle.run_model.specs.Holding.{mode_of, out_mode, piece_mode}
use Rattle.run_model.specs.Logs.{Logs, item_at}
use Rattle.run_model.specs.Points.{first_point, out_point, piece_point, point_count}
use Rattle.run_model.specs.Rights.{accept_brings, body_gains, body_loses, even_share, first_total, held_count, out_gives, out_of, piece_count, same_right}
use Rattle.run_model.specs.Shares.{GivesIn}
use Rattle.run_model.specs.Steps.{accept_of, accepts_of}
use Rattle.run_model.specs.Worlds.{Standing, logged, logged_all}
use Rattle.run_model.proofs.Modes.{mode_push}
use Rattle.message_laws.proofs.Flight.{gives_to}
use Rattle.message_laws.proofs.Logged.{logged_append}

-- each of these is an item of these logs, at its place
abbrev pub AreThere : Logs → List LogItem → Type 0
AreThere logs items = AllByRecursion (λ x. item_at logs x.origin x.index ≡ Some x) items

-- ---- how many

-- of what is held after items of its own, by what is counted of a piece, an Accept adds no more than its Out gives
abbrev pub AddsAtMost : Logs → ℕ → (Piece → ℕ) → Right → (List LogItem → ℕ) → Type 0
AddsAtMost logs me counted r have = (p : Standing) (from at : ℕ) (x : LogItem) → item_at logs from at ≡ Some x → have (logged me (body.Accept from at) p).log ≤ have p.log + out_of counted r x.body

-- what is there at the start and gained, less what is lost
more_held : (first gained lost more less g : ℕ) → more ≡ gained + g → less ≡ lost + 0 → (first + more) - less ≤ ((first + gained) - lost) + g
more_held first gained lost more less g a b = omega (arith, a, b)

-- so of counts and shares
pub count_accept : (setup : Setup) (logs : Logs) (me : ℕ) (r : Right) → AddsAtMost logs me piece_count r (λ own. held_count setup logs me own r)
count_accept setup logs me r p from at x there =
    let item : LogItem = record { origin = me; index = length p.log; deps = p.cut; body = body.Accept from at } in
    let gains = λ (i : LogItem). body_gains setup.spec logs r i.body in
    let loses = λ (i : LogItem). body_loses setup.spec r i.body in
    let brings : gains item ≡ out_gives r x.body = ap (λ (o : Option LogItem). option_map_or (λ (out : LogItem). out_gives r out.body) o 0) there in
    more_held (even_share (first_total setup r) setup.replicas me) (sum_by gains p.log) (sum_by loses p.log) (sum_by gains (p.log ++ item ∷ [])) (sum_by loses (p.log ++ item ∷ [])) (out_gives r x.body)
    (sum_by_push gains p.log item ∙ ap (λ n. sum_by gains p.log + n) brings) (sum_by_push loses p.log item)

-- and of each point
pub point_accept : (setup : Setup) (logs : Logs) (me : ℕ) (r : Right) (point : ℕ) → AddsAtMost logs me (piece_point point) r (λ own. point_count setup logs me own r point)
point_accept setup logs me r point p from at x there =
    let item : LogItem = record { origin = me; index = length p.log; deps = p.cut; body = body.Accept from at } in
    let gains = λ (i : LogItem). accept_brings logs (out_point r point) i.body in
    let loses = λ (i : LogItem). out_point r point i.body in
    let brings : gains item ≡ out_point r point x.body = ap (λ (o : Option LogItem). option_map_or (λ (out : LogItem). out_point r point out.body) o 0) there in
    more_held (first_point setup me r point) (sum_by gains p.log) (sum_by loses p.log) (sum_by gains (p.log ++ item ∷ [])) (sum_by loses (p.log ++ item ∷ [])) (out_point r point x.body)
    (sum_by_push gains p.log item ∙ ap (λ n. sum_by gains p.log + n) brings) (sum_by_push loses p.log item)

-- after the Accept of one item, if it is an Out to this replica
count_one : (logs : Logs) (me : ℕ) (counted : Piece → ℕ) (r : Right) (have : List LogItem → ℕ) → AddsAtMost logs me counted r have → (p : Standing) (x : LogItem) (b : Body) → x.body ≡ b → item_at logs x.origin x.index ≡ Some x
    → have (logged_all me (accept_of me x.origin x.index b) p).log ≤ have p.log + gives_to me counted r b
count_one logs me counted r have adds p x (body.Act inst) is there = omega arith
count_one logs me counted r have adds p x (body.Accept from at) is there = omega arith
count_one logs me counted r have adds p x (body.Out to s pc) is there = by_test (to == me)
  where
    by_test : (t : Bool) → have (logged_all me (cond t (body.Accept x.origin x.index ∷ []) []) p).log ≤ have p.log + cond t (out_of counted r (body.Out to s pc)) 0
    by_test true = let one = adds p x.origin x.index x there in omega (arith, one, ap (out_of counted r) is)
    by_test false = omega arith

-- after those of several
pub count_after : (logs : Logs) (me : ℕ) (counted : Piece → ℕ) (r : Right) (have : List LogItem → ℕ) → AddsAtMost logs me counted r have → (p : Standing) (items : List LogItem) → AreThere logs items
    → have (logged_all me (accepts_of me items) p).log ≤ have p.log + sum_by (λ item. gives_to me counted r item.body) items
count_after logs me counted r have adds p [] there = omega arith
count_after logs me counted r have adds p (x ∷ xs) there =
    let first : List Body = accept_of me x.origin x.index x.body in
    let q : Standing = logged_all me first p in
    let one = count_one logs me counted r have adds p x x.body refl there.0 in
    let rest = count_after logs me counted r have adds q xs there.1 in
    let parts = logged_append me first (accepts_of me xs) p in
    omega (arith, one, rest, ap (λ (s : Standing). have s.log) parts, sum_by-cons (λ (i : LogItem). gives_to me counted r i.body) x xs)

-- ---- in which mode

-- what a body gives of this right to replica me are shares in this mode
abbrev pub GivesToIn : ℕ → Right → Mode → Body → Type 0
GivesToIn me r m (body.Act inst) = Unit {0}
GivesToIn me r m (body.Out to s pc) = (to == me) ≡ true → GivesIn r m (body.Out to s pc)
GivesToIn me r m (body.Accept from at) = Unit {0}

-- after these items of its own what it holds of the right, if anything, is in this mode
abbrev pub HoldsIn : Setup → Logs → ℕ → Right → Mode → Standing → Type 0
HoldsIn setup logs me r m p = 0 < held_count setup logs me p.log r → mode_of setup logs me p.log r ≡ m

-- an Accept of shares in this mode leaves it so
mode_accept : (setup : Setup) (logs : Logs) (me : ℕ) (p : Standing) (from at : ℕ) (x : LogItem) (to : ℕ) (s r : Right) (pc : Piece) (m : Mode) → item_at logs from at ≡ Some x → x.body ≡ body.Out to s pc
    → GivesIn r m (body.Out to s pc) → HoldsIn setup logs me r m p → HoldsIn setup logs me r m (logged me (body.Accept from at) p)
mode_accept setup logs me p from at x to s r pc m there is gives holds some =
    let item : LogItem = record { origin = me; index = length p.log; deps = p.cut; body = body.Accept from at } in
    let have : ℕ = held_count setup logs me p.log r in
    let old : Mode = mode_of setup logs me p.log r in
    let count = count_accept setup logs me r p from at x there in
    mode_push setup logs me p.log item r ∙ ap (λ (o : Option LogItem). if have == 0 then option_map_or (λ (out : LogItem). out_mode r out.body old) o old else old) there ∙ ap (λ (b : Body). if have == 0 then out_mode r b old else old) is
    ∙ by_count have (have == 0) refl old holds (omega (arith, count, some, ap (out_gives r) is))
  where
    of_piece : (t : Bool) (old : Mode) → (t ≡ true → pc ≡ piece.Shares (piece_count pc) m) → 0 < cond t (piece_count pc) 0 → cond t (piece_mode pc old) old ≡ m
    of_piece true old so lt = ap (λ (q : Piece). piece_mode q old) (so refl)
    of_piece false old so lt = absurd (omega (arith, lt))

    by_count : (have : ℕ) (t : Bool) → (have == 0) ≡ t → (old : Mode) → (0 < have → old ≡ m) → 0 < have + out_gives r (body.Out to s pc) → cond t (out_mode r (body.Out to s pc) old) old ≡ m
    by_count have true none old was lt = of_piece (same_right s r) old gives (omega (arith, lt, eqb-true have 0 none))
    by_count have false any old was lt = was (let no = eqb-false have 0 any in omega (arith, no))

-- so does that of one item, if it is an Out to this replica
mode_one : (setup : Setup) (logs : Logs) (me : ℕ) (p : Standing) (x : LogItem) (r : Right) (m : Mode) (b : Body) → x.body ≡ b → item_at logs x.origin x.index ≡ Some x → GivesToIn me r m b
    → HoldsIn setup logs me r m p → HoldsIn setup logs me r m (logged_all me (accept_of me x.origin x.index b) p)
mode_one setup logs me p x r m (body.Act inst) is there gives holds = holds
mode_one setup logs me p x r m (body.Accept from at) is there gives holds = holds
mode_one setup logs me p x r m (body.Out to s pc) is there gives holds = by_test (to == me) gives
  where
    by_test : (t : Bool) → (t ≡ true → GivesIn r m (body.Out to s pc)) → HoldsIn setup logs me r m (logged_all me (cond t (body.Accept x.origin x.index ∷ []) []) p)
    by_test true mine = mode_accept setup logs me p x.origin x.index x to s r pc m there is (mine refl) holds
    by_test false mine = holds

-- and those of several
pub mode_after : (setup : Setup) (logs : Logs) (me : ℕ) (p : Standing) (items : List LogItem) (r : Right) (m : Mode) → AreThere logs items → AllByRecursion (λ x. GivesToIn me r m x.body) items
    → HoldsIn setup logs me r m p → HoldsIn setup logs me r m (logged_all me (accepts_of me items) p)
mode_after setup logs me p [] r m there gives holds = holds
mode_after setup logs me p (x ∷ xs) r m there gives holds =
    let first : List Body = accept_of me x.origin x.index x.body in
    let q : Standing = logged_all me first p in
    let one = mode_one setup logs me p x r m x.body refl there.0 gives.0 holds in
    subst (HoldsIn setup logs me r m) (sym (logged_append me first (accepts_of me xs) p)) (mode_after setup logs me q xs r m there.1 gives.1 one)
