-- Acting by one need after another.
use Rattle.std.proofs.Common.{◌≡◌, ℕ, zero, suc, ◌+◌, ◌<◌, Bool, true, false, cond, List, [], ◌∷◌, length, get_or, take, drop, refl, sym, ap, ◌∙◌, subst, arith}
use Rattle.std.specs.Prelude.{◌&&◌, ◌||◌, ◌==◌, nat_lt}
use Rattle.std.specs.List.{list_any, find, AllByRecursion}
use Rattle.std.specs.Option.{option_map_or}
use Rattle.std.proofs.Math.Path.{fun_ext}
use Rattle.std.proofs.lemmas.Bool.{cond-false}
use Rattle.spec_model.specs.declared.plan.Setup.{Setup}
use Rattle.spec_model.specs.declared.right.Right.{Right}
use Rattle.spec_model.specs.declared.right.Need.{Need}
use Rattle.spec_model.specs.declared.right.Held.TheVariants as held
use Rattle.spec_model.specs.declared.right.Amount.{Amount}
use Rattle.spec_model.specs.declared.right.Amount.TheVariants as amount
use Rattle.spec_model.specs.declared.right.Mode.{Mode}
use Rattle.spec_model.specs.declared.right.Level.{Level}
use Rattle.spec_model.specs.declared.right.Level.TheVariants as level
use Rattle.run_model.specs.Levels.{permits, is_permitted, mode_permits, acts_on, acts_at, is_at, choices}
use Rattle.run_model.specs.Holding.{mode_set as modes_set}
use Rattle.multilevel_locks.specs.Shares.{mode_set}
use Rattle.rights_table.specs.declared.table.Table.{Table}
use Rattle.rights_table.specs.Tables.{count_in, mode_in}
use Rattle.rights_table.specs.Acting.{ActsBy, SetsModes, shares_in}

-- ---- what is permitted stays permitted

-- with all shares the mode doesn't matter
permits_alike : (all n : ℕ) (m k : Mode) (a : Amount) → ((n == all) ≡ false → m ≡ k) → permits all (held.Shares n m) a ≡ permits all (held.Shares n k) a
permits_alike all n m k (amount.Count c) same = refl
permits_alike all n m k (amount.Points span) same = refl
permits_alike all n m k (amount.AnyForbid literals) same = refl
permits_alike all n m k (amount.Level l) same = either (n == all) same
  where
    either : (b : Bool) → (b ≡ false → m ≡ k) → (b || (nat_lt 0 n && mode_permits m l)) ≡ (b || (nat_lt 0 n && mode_permits k l))
    either true h = refl
    either false h = ap (λ x. nat_lt 0 n && mode_permits x l) (h refl)

-- a mode changes only where all shares are held
other_mode : (setup : Setup) (l : Level) (acts : Right → Bool) (old new : Table) → ActsBy setup l acts old new → (q : Right) → (count_in setup old q == setup.replicas) ≡ false → mode_in new q ≡ mode_in old q
other_mode setup l acts old new by q less = by.modes q ∙ cond-false ((count_in setup old q == setup.replicas) && acts q) (mode_set (mode_in old q) l) (mode_in old q) (first (count_in setup old q == setup.replicas) (acts q) less)
  where
    first : (a b : Bool) → a ≡ false → (a && b) ≡ false
    first true b h = absurd cc
    first false b h = refl

pub permitted_still : (setup : Setup) (l : Level) (acts : Right → Bool) (old new : Table) → ActsBy setup l acts old new → is_permitted setup.replicas (shares_in setup new) ≡ is_permitted setup.replicas (shares_in setup old)
permitted_still setup l acts old new by = fun_ext (λ (need : Need).
    let r : Right = need.right in
    ap (λ n. permits setup.replicas (held.Shares n (mode_in new r)) need.amount) (by.counts r)
    ∙ permits_alike setup.replicas (count_in setup old r) (mode_in new r) (mode_in old r) need.amount (other_mode setup l acts old new by r))

-- so the same is acted on
pub acts_still : (setup : Setup) (l m : Level) (acts : Right → Bool) (old new : Table) (needs : List Need) (q : Right) → ActsBy setup l acts old new → acts_at setup.replicas (shares_in setup new) needs q m ≡ acts_at setup.replicas (shares_in setup old) needs q m
acts_still setup l m acts old new needs q by = ap (λ (P : Need → Bool). list_any (λ need. option_map_or (is_at q m) (find P (choices need)) false) needs) (permitted_still setup l acts old new by)

pub acts_on_still : (setup : Setup) (l m : Level) (acts : Right → Bool) (old new : Table) (need : Need) (q : Right) → ActsBy setup l acts old new → acts_on setup.replicas (shares_in setup new) q m need ≡ acts_on setup.replicas (shares_in setup old) q m need
acts_on_still setup l m acts old new need q by = ap (λ (P : Need → Bool). option_map_or (is_at q m) (find P (choices need)) false) (permitted_still setup l acts old new by)

-- ---- one after another

-- nothing is acted on
pub acts_none : (setup : Setup) (l : Level) (acts : Right → Bool) (t : Table) → ((q : Right) → acts q ≡ false) → ActsBy setup l acts t t
acts_none setup l acts t none = record {
  me = refl;
  replicas = refl;
  counts = λ q. refl;
  points = λ q x. refl;
  modes = λ q. sym (cond-false ((count_in setup t q == setup.replicas) && acts q) (mode_set (mode_in t q) l) (mode_in t q) (second (count_in setup t q == setup.replicas) (acts q) (none q)));
  kept = λ q has. has;
}
  where
    second : (a b : Bool) → b ≡ false → (a && b) ≡ false
    second true b h = h
    second false b h = refl

-- both
pub acts_both : (setup : Setup) (l : Level) (f g h : Right → Bool) (old mid new : Table) → ActsBy setup l f old mid → ActsBy setup l g mid new → ((q : Right) → h q ≡ (f q || g q)) → ActsBy setup l h old new
acts_both setup l f g h old mid new one two sum = record {
  me = two.me ∙ one.me;
  replicas = two.replicas ∙ one.replicas;
  counts = λ q. two.counts q ∙ one.counts q;
  points = λ q x. two.points q x ∙ one.points q x;
  modes = λ q.
      two.modes q
      ∙ ap (λ n. cond ((n == setup.replicas) && g q) (mode_set (mode_in mid q) l) (mode_in mid q)) (one.counts q)
      ∙ ap (λ (m : Mode). cond ((count_in setup old q == setup.replicas) && g q) (mode_set m l) m) (one.modes q)
      ∙ join (count_in setup old q == setup.replicas) (f q) (g q) (mode_in old q)
      ∙ ap (λ b. cond ((count_in setup old q == setup.replicas) && b) (mode_set (mode_in old q) l) (mode_in old q)) (sym (sum q));
  kept = λ q has. two.kept q (one.kept q has);
}
  where
    twice : (l : Level) (m : Mode) → mode_set (mode_set m l) l ≡ mode_set m l
    twice level.Forbid m = refl
    twice level.Allow m = refl
    twice level.Exclusive m = refl

    join : (a f g : Bool) (m : Mode) → (let k : Mode = cond (a && f) (mode_set m l) m in cond (a && g) (mode_set k l) k) ≡ cond (a && (f || g)) (mode_set m l) m
    join false f g m = refl
    join true true true m = twice l m
    join true true false m = refl
    join true false true m = refl
    join true false false m = refl

-- the same acts by another name
pub acts_like : (setup : Setup) (l : Level) (f g : Right → Bool) (old new : Table) → ((q : Right) → f q ≡ g q) → ActsBy setup l f old new → ActsBy setup l g old new
acts_like setup l f g old new same by = subst (λ (h : Right → Bool). ActsBy setup l h old new) (fun_ext same) by

-- ---- lists

-- a test of one element more
pub any_more : {X : Type 0} (P : X → Bool) (xs : List X) (k : ℕ) (x : X) → k < length xs → x ≡ get_or xs k x → list_any P (take (k + 1) xs) ≡ (list_any P (take k xs) || P x)
any_more P [] k x lt is = absurd (omega (arith, lt))
any_more P (y ∷ xs) zero x lt is = ap (λ z. P z || false) (sym is) ∙ right_false (P x)
  where
    right_false : (b : Bool) → (b || false) ≡ (false || b)
    right_false true = refl
    right_false false = refl
any_more {X} P (y ∷ xs) (suc k) x lt is =
    ap (λ n. list_any P (take n (y ∷ xs))) (let one : suc k + 1 ≡ suc (k + 1) = omega arith in one)
    ∙ ap (λ b. P y || b) (any_more P xs k x (omega (arith, lt)) is) ∙ regroup (P y) (list_any P (take k xs)) (P x)
  where
    regroup : (a b c : Bool) → (a || (b || c)) ≡ ((a || b) || c)
    regroup true b c = refl
    regroup false b c = refl

-- one that passes is among them
pub any_at : {X : Type 0} (P : X → Bool) (xs : List X) (k : ℕ) (x : X) → k < length xs → x ≡ get_or xs k x → P x ≡ true → list_any P xs ≡ true
any_at P [] k x lt is passes = absurd (omega (arith, lt))
any_at P (y ∷ xs) zero x lt is passes = ap (λ b. b || list_any P xs) (ap P (sym is) ∙ passes)
any_at P (y ∷ xs) (suc k) x lt is passes = either (P y) (list_any P xs) (any_at P xs k x (omega (arith, lt)) is passes)
  where
    either : (a b : Bool) → b ≡ true → (a || b) ≡ true
    either true b h = refl
    either false b h = h

-- ---- both levels

pub sets_modes : (setup : Setup) (needs : List Need) (old mid new : Table)
    → ActsBy setup level.Allow (λ q. acts_at setup.replicas (shares_in setup old) needs q level.Allow) old mid
    → ActsBy setup level.Forbid (λ q. acts_at setup.replicas (shares_in setup mid) needs q level.Forbid) mid new
    → SetsModes setup needs old new
sets_modes setup needs old mid new allow forbid = record {
  me = forbid.me ∙ allow.me;
  replicas = forbid.replicas ∙ allow.replicas;
  counts = λ q. forbid.counts q ∙ allow.counts q;
  points = λ q x. forbid.points q x ∙ allow.points q x;
  modes = λ q.
      let acts : Level → Bool = acts_at setup.replicas (shares_in setup old) needs q in
      forbid.modes q
      ∙ ap (λ n. cond ((n == setup.replicas) && acts_at setup.replicas (shares_in setup mid) needs q level.Forbid) (mode_set (mode_in mid q) level.Forbid) (mode_in mid q)) (allow.counts q)
      ∙ ap (λ b. cond ((count_in setup old q == setup.replicas) && b) (mode_set (mode_in mid q) level.Forbid) (mode_in mid q)) (acts_still setup level.Allow level.Forbid (λ r. acts_at setup.replicas (shares_in setup old) needs r level.Allow) old mid needs q allow)
      ∙ ap (λ (m : Mode). cond ((count_in setup old q == setup.replicas) && acts level.Forbid) (mode_set m level.Forbid) m) (allow.modes q)
      ∙ join (count_in setup old q == setup.replicas) acts (mode_in old q);
  kept = λ q has. forbid.kept q (allow.kept q has);
}
  where
    inner : (f a : Bool) (m : Mode) → (let k : Mode = cond a (mode_set m level.Allow) m in cond f (mode_set k level.Forbid) k) ≡ cond f (mode_set m level.Forbid) (cond a (mode_set m level.Allow) m)
    inner true a m = refl
    inner false a m = refl

    join : (all : Bool) (acts : Level → Bool) (m : Mode) → (let k : Mode = cond (all && acts level.Allow) (mode_set m level.Allow) m in cond (all && acts level.Forbid) (mode_set k level.Forbid) k) ≡ cond all (modes_set acts m) m
    join true acts m = inner (acts level.Forbid) (acts level.Allow) m
    join false acts m = refl

-- what holds of all that are left holds of those behind the first of them
pub rest_of : {X : Type 0} (P : X → Type 0) (xs : List X) (k : ℕ) → k < length xs → AllByRecursion P (drop k xs) → AllByRecursion P (drop (k + 1) xs)
rest_of P [] k lt all = absurd (omega (arith, lt))
rest_of P (x ∷ xs) zero lt all = all.1
rest_of {X} P (x ∷ xs) (suc k) lt all =
    subst (λ n. AllByRecursion P (drop n (x ∷ xs))) (let one : suc (k + 1) ≡ suc k + 1 = omega arith in one) (rest_of P xs k (omega (arith, lt)) all)
