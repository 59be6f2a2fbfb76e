-- What is held doesn't depend on the pasts of items that aren't acts.
use Rattle.std.proofs.Common.{◌≡◌, ℕ, zero, suc, ◌+◌, ◌-◌, Bool, List, [], ◌∷◌, ◌++◌, length, take, refl, ap, ◌∙◌, arith}
use Rattle.std.specs.Prelude.{nat_lt, slice_get, sum_by}
use Rattle.std.specs.List.{AllByRecursion}
use Rattle.std.proofs.lemmas.List.Sums.{sum_by-cons}
use Rattle.std.proofs.Math.Path.{fun_ext}
use Rattle.ind_base.specs.declared.span.Span.{Span}
use Rattle.spec_model.specs.declared.plan.Setup.{Setup}
use Rattle.spec_model.specs.declared.instance.Inst.{Inst}
use Rattle.spec_model.specs.declared.right.Mode.{Mode}
use Rattle.spec_model.specs.declared.right.Right.{Right}
use Rattle.spec_model.specs.declared.right.Right.TheVariants as right
use Rattle.spec_model.specs.declared.right.Held.TheVariants as held
use Rattle.spec_model.specs.declared.log.Body.{Body}
use Rattle.spec_model.specs.declared.log.Body.TheVariants as body
use Rattle.spec_model.specs.declared.log.LogItem.{LogItem}
use Rattle.run_model.specs.Holding.{held_right, mode_of, modes_after, next_mode}
use Rattle.run_model.specs.Logs.{Logs}
use Rattle.run_model.specs.Points.{first_point, holds_point, missing_of, out_point, run_of}
use Rattle.run_model.specs.Rights.{accept_brings, body_gains, body_loses, even_share, first_total, held_count}
use Rattle.run_model.specs.Worlds.{Standing, logged}
use Rattle.run_model.proofs.Modes.{placed}
use Rattle.replica_core.proofs.Items.{IsNoAct, items_for}

-- the same but for the past of one that is no act
abbrev pub IsSame : LogItem → LogItem → Type 0
IsSame x y = (x.body ≡ y.body) × ((inst : Inst) → y.body ≡ body.Act inst → x.deps ≡ y.deps)

abbrev pub AreSame : List LogItem → List LogItem → Type 0
AreSame [] [] = Unit {0}
AreSame [] (y ∷ ys) = ⊥
AreSame (x ∷ xs) [] = ⊥
AreSame (x ∷ xs) (y ∷ ys) = IsSame x y × AreSame xs ys

same_sum : (f : Body → ℕ) (xs ys : List LogItem) → AreSame xs ys → sum_by (λ i. f i.body) xs ≡ sum_by (λ i. f i.body) ys
same_sum f [] [] h = refl
same_sum f [] (y ∷ ys) h = absurd h
same_sum f (x ∷ xs) [] h = absurd h
same_sum f (x ∷ xs) (y ∷ ys) h = omega (arith, sum_by-cons (λ (i : LogItem). f i.body) x xs, sum_by-cons (λ (i : LogItem). f i.body) y ys, ap f h.0.0, same_sum f xs ys h.1)

same_take : (k : ℕ) (xs ys : List LogItem) → AreSame xs ys → AreSame (take k xs) (take k ys)
same_take zero xs ys h = tt
same_take (suc k) [] [] h = tt
same_take (suc k) [] (y ∷ ys) h = absurd h
same_take (suc k) (x ∷ xs) [] h = absurd h
same_take (suc k) (x ∷ xs) (y ∷ ys) h = (h.0, same_take k xs ys h.1)

same_long : (xs ys : List LogItem) → AreSame xs ys → length xs ≡ length ys
same_long [] [] h = refl
same_long [] (y ∷ ys) h = absurd h
same_long (x ∷ xs) [] h = absurd h
same_long (x ∷ xs) (y ∷ ys) h = let rest = same_long xs ys h.1 in omega (arith, rest)

-- so many are held
same_count : (setup : Setup) (logs : Logs) (me : ℕ) (xs ys : List LogItem) → AreSame xs ys → held_count setup logs me xs ≡ held_count setup logs me ys
same_count setup logs me xs ys h = fun_ext (λ (r : Right). ap (λ g. (even_share (first_total setup r) setup.replicas me + g) - sum_by (λ (i : LogItem). body_loses setup.spec r i.body) xs) (same_sum (body_gains setup.spec logs r) xs ys h)
    ∙ ap (λ l. (even_share (first_total setup r) setup.replicas me + sum_by (λ (i : LogItem). body_gains setup.spec logs r i.body) ys) - l) (same_sum (body_loses setup.spec r) xs ys h))

-- in the same mode
same_next : (setup : Setup) (logs : Logs) (have : Right → ℕ) (modes : Right → Mode) (a b : List ℕ) (what : Body) (r : Right) → ((inst : Inst) → what ≡ body.Act inst → a ≡ b) → next_mode setup logs have modes a what r ≡ next_mode setup logs have modes b what r
same_next setup logs have modes a b (body.Act inst) r h = ap (λ (deps : List ℕ). next_mode setup logs have modes deps (body.Act inst) r) (h inst refl)
same_next setup logs have modes a b (body.Out to given piece) r h = refl
same_next setup logs have modes a b (body.Accept from at) r h = refl

same_placed : (setup : Setup) (logs : Logs) (have : Right → ℕ) (modes : Right → Mode) (xs ys : List LogItem) (k : ℕ) (r : Right) → AreSame xs ys → placed setup logs have modes (slice_get xs k) r ≡ placed setup logs have modes (slice_get ys k) r
same_placed setup logs have modes [] [] k r h = refl
same_placed setup logs have modes [] (y ∷ ys) k r h = absurd h
same_placed setup logs have modes (x ∷ xs) [] k r h = absurd h
same_placed setup logs have modes (x ∷ xs) (y ∷ ys) zero r h = ap (λ (b : Body). next_mode setup logs have modes x.deps b r) h.0.0 ∙ same_next setup logs have modes x.deps y.deps y.body r h.0.1
same_placed setup logs have modes (x ∷ xs) (y ∷ ys) (suc k) r h = same_placed setup logs have modes xs ys k r h.1

same_modes : (setup : Setup) (logs : Logs) (me : ℕ) (xs ys : List LogItem) (k : ℕ) → AreSame xs ys → ◌≡◌ {A = Right → Mode} (λ q. modes_after setup logs me xs k q) (λ q. modes_after setup logs me ys k q)
same_modes setup logs me xs ys zero h = refl
same_modes setup logs me xs ys (suc k) h =
    let count = same_count setup logs me (take k xs) (take k ys) (same_take k xs ys h) in
    let old : Right → Mode = λ q. modes_after setup logs me xs k q in
    let new : Right → Mode = λ q. modes_after setup logs me ys k q in
    let have : Right → ℕ = held_count setup logs me (take k ys) in
    fun_ext (λ (r : Right).
    ap (λ (f : Right → ℕ). placed setup logs f old (slice_get xs k) r) count ∙ ap (λ (m : Right → Mode). placed setup logs have m (slice_get xs k) r) (same_modes setup logs me xs ys k h)
    ∙ same_placed setup logs have new xs ys k r h)

same_shares : (setup : Setup) (logs : Logs) (me : ℕ) (xs ys : List LogItem) (r : Right) → AreSame xs ys → held.Shares (held_count setup logs me xs r) (mode_of setup logs me xs r) ≡ held.Shares (held_count setup logs me ys r) (mode_of setup logs me ys r)
same_shares setup logs me xs ys r h =
    ap (λ (f : Right → ℕ). held.Shares (f r) (mode_of setup logs me xs r)) (same_count setup logs me xs ys h)
    ∙ ap (λ (m : Right → Mode). held.Shares (held_count setup logs me ys r) (m r)) (same_modes setup logs me xs ys (length xs) h)
    ∙ ap (λ n. held.Shares (held_count setup logs me ys r) (modes_after setup logs me ys n r)) (same_long xs ys h)

same_point : (setup : Setup) (logs : Logs) (me : ℕ) (xs ys : List LogItem) (r : Right) (x : ℕ) → AreSame xs ys → holds_point setup logs me xs r x ≡ holds_point setup logs me ys r x
same_point setup logs me xs ys r x h =
    ap (λ n. nat_lt 0 ((first_point setup me r x + n) - sum_by (λ (i : LogItem). out_point r x i.body) xs)) (same_sum (accept_brings logs (out_point r x)) xs ys h)
    ∙ ap (λ n. nat_lt 0 ((first_point setup me r x + sum_by (λ (i : LogItem). accept_brings logs (out_point r x) i.body) ys) - n)) (same_sum (out_point r x) xs ys h)

-- all is held alike
pub held_same : (setup : Setup) (logs : Logs) (me : ℕ) (xs ys : List LogItem) (r : Right) (span : Span) → AreSame xs ys → held_right setup logs me xs r span ≡ held_right setup logs me ys r span
held_same setup logs me xs ys (right.Low c) span h = ap (λ (f : Right → ℕ). held.Count (f (right.Low c))) (same_count setup logs me xs ys h)
held_same setup logs me xs ys (right.High c) span h = ap (λ (f : Right → ℕ). held.Count (f (right.High c))) (same_count setup logs me xs ys h)
held_same setup logs me xs ys (right.Lock l key) span h = same_shares setup logs me xs ys (right.Lock l key) h
held_same setup logs me xs ys (right.Entry c args i) span h = same_shares setup logs me xs ys (right.Entry c args i) h
held_same setup logs me xs ys (right.Part q key) span h =
    ap (λ (holds : ℕ → Bool). held.Points (missing_of holds span) (run_of holds span)) (fun_ext (λ (x : ℕ). same_point setup logs me xs ys (right.Part q key) x h))

-- ---- bodies that are logged

same_both : (xs ys us vs : List LogItem) → AreSame xs ys → AreSame us vs → AreSame (xs ++ us) (ys ++ vs)
same_both [] [] us vs h g = g
same_both [] (y ∷ ys) us vs h g = absurd h
same_both (x ∷ xs) [] us vs h g = absurd h
same_both (x ∷ xs) (y ∷ ys) us vs h g = (h.0, same_both xs ys us vs h.1 g)

same_self : (xs : List LogItem) → AreSame xs xs
same_self [] = tt
same_self (x ∷ xs) = ((refl, λ inst act. refl), same_self xs)

same_items : (me : ℕ) (bodies : List Body) (p q : Standing) → AllByRecursion IsNoAct bodies → AreSame (items_for me bodies p) (items_for me bodies q)
same_items me [] p q none = tt
same_items me (b ∷ bodies) p q none = ((refl, λ inst act. absurd (none.0 inst act)), same_items me bodies (logged me b p) (logged me b q) none.1)

-- whatever was seen then
pub same_logged : (me : ℕ) (own : List LogItem) (bodies : List Body) (p q : Standing) → AllByRecursion IsNoAct bodies → AreSame (own ++ items_for me bodies p) (own ++ items_for me bodies q)
same_logged me own bodies p q none = same_both own own (items_for me bodies p) (items_for me bodies q) (same_self own) (same_items me bodies p q none)
