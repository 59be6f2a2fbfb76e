-- A table stays one with an item more of the own log.
use Rattle.std.proofs.Common.{◌≡◌, inl, inr, ℕ, ◌+◌, ◌-◌, ◌≤◌, Bool, true, false, cond, List, [], ◌∷◌, ◌++◌, refl, sym, ap, ◌∙◌, arith}
use Rattle.std.specs.Prelude.{Option, Some, sum_by}
use Rattle.std.specs.Option.{option_map_or}
use Rattle.std.proofs.lemmas.Bool.{cases_Bool, cond-true, cond-false}
use Rattle.std.proofs.lemmas.List.Sums.{sum_by_push}
use Rattle.spec_model.specs.declared.plan.Setup.{Setup}
use Rattle.spec_model.specs.declared.right.Mode.TheVariants as mode
use Rattle.spec_model.specs.declared.right.Right.{Right}
use Rattle.spec_model.specs.declared.log.LogItem.{LogItem}
use Rattle.run_model.specs.Logs.{Logs}
use Rattle.run_model.specs.Rights.{same_right, is_shared, even_share, first_total, body_gains, body_loses, held_count, accept_brings}
use Rattle.run_model.specs.Holding.{mode_of as mode_held, next_mode}
use Rattle.run_model.specs.Points.{first_point, out_point, point_count}
use Rattle.run_model.proofs.Modes.{mode_push}
use Rattle.rights_table.specs.declared.holding.Holding.{Holding}
use Rattle.rights_table.specs.declared.table.Table.{Table}
use Rattle.rights_table.specs.Holdings.{count_of, mode_of, point_of}
use Rattle.rights_table.specs.Tables.{entered, count_in, mode_in, point_in, IsTable, Becomes}
use Rattle.rights_table.specs.Same.{same_is}
use Rattle.rights_table.proofs.Telling.{count_entered, mode_entered, point_entered}

-- what an item does to the table, right by right
pub record StepsBy (setup : Setup) (logs : Logs) (replica : ℕ) (own : List LogItem) (among : Right → Bool) (x : LogItem) (old new : Table) : Type 0 where
  pub me : new.me ≡ old.me
  pub replicas : new.replicas ≡ old.replicas
  pub counts : (q : Right) → among q ≡ true → count_in setup new q + body_loses setup.spec q x.body ≡ count_in setup old q + body_gains setup.spec logs q x.body
  pub modes : (q : Right) → among q ≡ true → is_shared q ≡ true → mode_in new q ≡ next_mode setup logs (held_count setup logs replica own) (mode_held setup logs replica own) x.deps x.body q
  pub points : (q : Right) → among q ≡ true → (y : ℕ) → point_in setup new q y + out_point q y x.body ≡ point_in setup old q y + accept_brings logs (out_point q y) x.body

-- the sums with an item more
sums : (share gained lost more less g l old new : ℕ) → lost ≤ share + gained → more ≡ gained + g → less ≡ lost + l → old ≡ (share + gained) - lost → new + l ≡ old + g → (new ≡ (share + more) - less) × (less ≤ share + more)
sums share gained lost more less g l old new covered a b was now = (omega (arith, covered, a, b, was, now), omega (arith, covered, a, b, was, now))

pub table_step : (setup : Setup) (logs : Logs) (me : ℕ) (own : List LogItem) (among : Right → Bool) (x : LogItem) (old new : Table) → IsTable setup logs me own among old → StepsBy setup logs me own among x old new → IsTable setup logs me (own ++ x ∷ []) among new
table_step setup logs me own among x old new is by = record {
  of = record { me = by.me ∙ is.of.me; replicas = by.replicas ∙ is.of.replicas };
  counts = λ q one. (at q one).0;
  modes = λ q one shared. by.modes q one shared ∙ sym (mode_push setup logs me own x q);
  covered = λ q one. (at q one).1;
  points = λ q one y. (point q one y).0;
  points_covered = λ q one y. (point q one y).1;
}
  where
    at : (q : Right) → among q ≡ true → (count_in setup new q ≡ held_count setup logs me (own ++ x ∷ []) q) × (sum_by (λ item. body_loses setup.spec q item.body) (own ++ x ∷ []) ≤ even_share (first_total setup q) setup.replicas me + sum_by (λ item. body_gains setup.spec logs q item.body) (own ++ x ∷ []))
    at q one =
        let gains = λ (i : LogItem). body_gains setup.spec logs q i.body in
        let loses = λ (i : LogItem). body_loses setup.spec q i.body in
        sums (even_share (first_total setup q) setup.replicas me) (sum_by gains own) (sum_by loses own) (sum_by gains (own ++ x ∷ [])) (sum_by loses (own ++ x ∷ [])) (gains x) (loses x) (count_in setup old q) (count_in setup new q)
        (is.covered q one) (sum_by_push gains own x) (sum_by_push loses own x) (is.counts q one) (by.counts q one)

    point : (q : Right) → among q ≡ true → (y : ℕ) → (point_in setup new q y ≡ point_count setup logs me (own ++ x ∷ []) q y) × (sum_by (λ item. out_point q y item.body) (own ++ x ∷ []) ≤ first_point setup me q y + sum_by (λ item. accept_brings logs (out_point q y) item.body) (own ++ x ∷ []))
    point q one y =
        let gains = λ (i : LogItem). accept_brings logs (out_point q y) i.body in
        let loses = λ (i : LogItem). out_point q y i.body in
        sums (first_point setup me q y) (sum_by gains own) (sum_by loses own) (sum_by gains (own ++ x ∷ [])) (sum_by loses (own ++ x ∷ [])) (gains x) (loses x) (point_in setup old q y) (point_in setup new q y)
        (is.points_covered q one y) (sum_by_push gains own x) (sum_by_push loses own x) (is.points q one y) (by.points q one y)

-- ---- one holding that becomes another

-- how many are held of each right
pub count_becomes : (setup : Setup) (r q : Right) (before after : Holding) (old new : Table) → Becomes r before after old new → count_in setup new q ≡ cond (same_right r q) (count_of after) (count_in setup old q)
count_becomes setup r q before after old new becomes =
    ap (λ m. option_map_or count_of (entered new q) (even_share (first_total setup q) setup.replicas m)) becomes.me
    ∙ ap (λ (o : Option Holding). option_map_or count_of o (even_share (first_total setup q) setup.replicas old.me)) (becomes.is q)
    ∙ inside (same_right r q) after (entered old q) (even_share (first_total setup q) setup.replicas old.me)
  where
    inside : (b : Bool) (h : Holding) (o : Option Holding) (n : ℕ) → option_map_or count_of (cond b (Some h) o) n ≡ cond b (count_of h) (option_map_or count_of o n)
    inside true h o n = refl
    inside false h o n = refl

-- and in which mode
pub mode_becomes : (r q : Right) (before after : Holding) (old new : Table) → Becomes r before after old new → mode_in new q ≡ cond (same_right r q) (mode_of after) (mode_in old q)
mode_becomes r q before after old new becomes =
    ap (λ (o : Option Holding). option_map_or mode_of o mode.Forbid) (becomes.is q) ∙ inside (same_right r q) after (entered old q)
  where
    inside : (b : Bool) (h : Holding) (o : Option Holding) → option_map_or mode_of (cond b (Some h) o) mode.Forbid ≡ cond b (mode_of h) (option_map_or mode_of o mode.Forbid)
    inside true h o = refl
    inside false h o = refl

-- so many fewer and more of the right
pub count_by : (setup : Setup) (r q : Right) (before after : Holding) (old new : Table) (less more : ℕ) → Becomes r before after old new → count_of after + less ≡ count_of before + more
    → count_in setup new q + cond (same_right r q) less 0 ≡ count_in setup old q + cond (same_right r q) more 0
count_by setup r q before after old new less more becomes sum =
    elim (cases_Bool (same_right r q)) [
      | inl same ↦
          let was : count_in setup old q ≡ count_of before = ap (count_in setup old) (sym (same_is r q same)) ∙ count_entered setup old r before becomes.was in
          let now : count_in setup new q ≡ count_of after = count_becomes setup r q before after old new becomes ∙ cond-true (same_right r q) (count_of after) (count_in setup old q) same in
          let l = cond-true (same_right r q) less 0 same in
          let m = cond-true (same_right r q) more 0 same in
          omega (arith, was, now, l, m, sum)
      | inr other ↦
          let now : count_in setup new q ≡ count_in setup old q = count_becomes setup r q before after old new becomes ∙ cond-false (same_right r q) (count_of after) (count_in setup old q) other in
          let l = cond-false (same_right r q) less 0 other in
          let m = cond-false (same_right r q) more 0 other in
          omega (arith, now, l, m)
    ]

-- a mode that stays there stays everywhere
pub mode_stays : (r q : Right) (before after : Holding) (old new : Table) → Becomes r before after old new → mode_of after ≡ mode_of before → mode_in new q ≡ mode_in old q
mode_stays r q before after old new becomes same_mode =
    mode_becomes r q before after old new becomes
    ∙ elim (cases_Bool (same_right r q)) [
      | inl same ↦ cond-true (same_right r q) (mode_of after) (mode_in old q) same ∙ same_mode ∙ sym (ap (mode_in old) (sym (same_is r q same)) ∙ mode_entered old r before becomes.was)
      | inr other ↦ cond-false (same_right r q) (mode_of after) (mode_in old q) other
    ]

-- how often a point is held of each right
point_becomes : (setup : Setup) (r q : Right) (y : ℕ) (before after : Holding) (old new : Table) → Becomes r before after old new → point_in setup new q y ≡ cond (same_right r q) (point_of after y) (point_in setup old q y)
point_becomes setup r q y before after old new becomes =
    let f : Holding → ℕ = λ h. point_of h y in
    ap (λ m. option_map_or f (entered new q) (first_point setup m q y)) becomes.me
    ∙ ap (λ (o : Option Holding). option_map_or f o (first_point setup old.me q y)) (becomes.is q)
    ∙ inside (same_right r q) (entered old q) (first_point setup old.me q y)
  where
    inside : (b : Bool) (o : Option Holding) (n : ℕ) → option_map_or (λ (h : Holding). point_of h y) (cond b (Some after) o) n ≡ cond b (point_of after y) (option_map_or (λ (h : Holding). point_of h y) o n)
    inside true o n = refl
    inside false o n = refl

-- so often fewer and more of the right
pub point_by : (setup : Setup) (r q : Right) (y : ℕ) (before after : Holding) (old new : Table) (less more : ℕ) → Becomes r before after old new → point_of after y + less ≡ point_of before y + more
    → point_in setup new q y + cond (same_right r q) less 0 ≡ point_in setup old q y + cond (same_right r q) more 0
point_by setup r q y before after old new less more becomes sum =
    elim (cases_Bool (same_right r q)) [
      | inl same ↦
          let was : point_in setup old q y ≡ point_of before y = ap (λ (p : Right). point_in setup old p y) (sym (same_is r q same)) ∙ point_entered setup old r before y becomes.was in
          let now : point_in setup new q y ≡ point_of after y = point_becomes setup r q y before after old new becomes ∙ cond-true (same_right r q) (point_of after y) (point_in setup old q y) same in
          let l = cond-true (same_right r q) less 0 same in
          let m = cond-true (same_right r q) more 0 same in
          omega (arith, was, now, l, m, sum)
      | inr other ↦
          let now : point_in setup new q y ≡ point_in setup old q y = point_becomes setup r q y before after old new becomes ∙ cond-false (same_right r q) (point_of after y) (point_in setup old q y) other in
          let l = cond-false (same_right r q) less 0 other in
          let m = cond-false (same_right r q) more 0 other in
          omega (arith, now, l, m)
    ]

-- points that stay there stay everywhere
pub points_stay : (setup : Setup) (r q : Right) (y : ℕ) (before after : Holding) (old new : Table) → Becomes r before after old new → point_of after y ≡ point_of before y → point_in setup new q y ≡ point_in setup old q y
points_stay setup r q y before after old new becomes same =
    point_becomes setup r q y before after old new becomes
    ∙ elim (cases_Bool (same_right r q)) [
      | inl it ↦ cond-true (same_right r q) (point_of after y) (point_in setup old q y) it ∙ same ∙ sym (ap (λ (p : Right). point_in setup old p y) (sym (same_is r q it)) ∙ point_entered setup old r before y becomes.was)
      | inr other ↦ cond-false (same_right r q) (point_of after y) (point_in setup old q y) other
    ]
