-- The right that an act acts on.
use Rattle.std.proofs.Common.{◌≡◌, ℕ, Bool, true, false, cond, List, [], ◌∷◌, map, refl, sym, ap, ◌∙◌, subst, inl, inr, arith, eqb-true}
use Rattle.std.specs.Prelude.{Option, Some, ◌&&◌, ◌==◌}
use Rattle.std.proofs.lemmas.Bool.{cases_Bool, cond-true, cond-false}
use Rattle.std.specs.List.{find}
use Rattle.std.specs.Option.{option_map_or}
use Rattle.spec_model.specs.declared.plan.Setup.{Setup}
use Rattle.spec_model.specs.declared.right.Right.{Right}
use Rattle.spec_model.specs.declared.right.Right.TheVariants as right
use Rattle.spec_model.specs.declared.right.Need.{Need}
use Rattle.spec_model.specs.declared.right.Amount.TheVariants as amount
use Rattle.spec_model.specs.declared.right.Level.{Level}
use Rattle.spec_model.specs.declared.right.Level.TheVariants as level
use Rattle.run_model.specs.Rights.{same_right, is_shared}
use Rattle.run_model.specs.Levels.{permits, is_permitted, at_literal, is_at, forbid_at, same_level}
use Rattle.spec_model.specs.declared.right.Mode.{Mode}
use Rattle.spec_model.specs.declared.right.Mode.TheVariants as mode
use Rattle.spec_model.specs.declared.right.Held.TheVariants as held
use Rattle.spec_model.specs.declared.right.WantAsk.TheVariants as asked
use Rattle.multilevel_locks.specs.declared.shares.Shares.{Shares}
use Rattle.multilevel_locks.specs.Shares.{mode_set, permits as shares_permitted}
use Rattle.multilevel_locks.specs.Holdings.{acted}
use Rattle.rights_table.specs.declared.holding.Holding.{Holding}
use Rattle.rights_table.specs.declared.holding.Holding.TheVariants as holding
use Rattle.rights_table.specs.Holdings.{count_of, mode_of, point_of, is_of, spent, permits as holding_permits}
use Rattle.rights_table.specs.declared.table.Table.{Table}
use Rattle.rights_table.specs.Tables.{holding_in, entered, count_in, mode_in, Becomes}
use Rattle.rights_table.specs.Same.{same_is}
use Rattle.rights_table.proofs.Telling.{count_entered, mode_entered}
use Rattle.rights_table.proofs.Stepped.{count_by, mode_becomes, points_stay}
use Rattle.rights_table.proofs.Pieces.{becomes_kept}
use Rattle.rights_table.specs.Acting.{shares_in, ActsBy}

-- another literal's entry is shared
pub literal_shared : (r : Right) (n : ℕ) → is_shared r ≡ true → is_shared (at_literal r n) ≡ true
literal_shared (right.Low cell) n h = h
literal_shared (right.High cell) n h = h
literal_shared (right.Lock l key) n h = h
literal_shared (right.Entry c args i) n h = refl
literal_shared (right.Part p key) n h = h

-- of a shared right the table tells its shares
pub level_permitted : (setup : Setup) (t : Table) (r : Right) (l : Level) → is_shared r ≡ true
    → is_permitted setup.replicas (holding_in setup t) (record { right = r; amount = amount.Level l }) ≡ is_permitted setup.replicas (shares_in setup t) (record { right = r; amount = amount.Level l })
level_permitted setup t (right.Low cell) l h = absurd cc
level_permitted setup t (right.High cell) l h = absurd cc
level_permitted setup t (right.Lock k key) l h = refl
level_permitted setup t (right.Entry c args i) l h = refl
level_permitted setup t (right.Part p key) l h = absurd cc

-- forbid on a literal acts at no other level
pub other_level : (P : Need → Bool) (r q : Right) (l : Level) (literals : List ℕ) → same_level level.Forbid l ≡ false → false ≡ option_map_or (is_at q l) (find P (map (forbid_at r) literals)) false
other_level P r q l [] other = refl
other_level P r q l (n ∷ literals) other =
    either (P (forbid_at r n)) (find P (map (forbid_at r) literals)) (other_level P r q l literals other)
  where
    apart : (a b : Bool) → b ≡ false → false ≡ (a && b)
    apart true b h = sym h
    apart false b h = refl

    either : (b : Bool) (rest : Option Need) → false ≡ option_map_or (is_at q l) rest false → false ≡ option_map_or (is_at q l) (cond b (Some (forbid_at r n)) rest) false
    either true rest h = apart (same_right (at_literal r n) q) (same_level level.Forbid l) other
    either false rest h = h

-- ---- one right

-- the holding of a shared right
abbrev pub IsSharesOf : ℕ → Holding → Type 0
IsSharesOf all h = (s : Shares) × (h ≡ holding.Shares s) × (s.all ≡ all)

pub shares_of_kind : (all : ℕ) (r : Right) (h : Holding) → is_shared r ≡ true → is_of all r h ≡ true → IsSharesOf all h
shares_of_kind all (right.Low cell) h shared kind = absurd cc
shares_of_kind all (right.High cell) h shared kind = absurd cc
shares_of_kind all (right.Lock l key) (holding.Count e) shared kind = absurd cc
shares_of_kind all (right.Lock l key) (holding.Points k) shared kind = absurd cc
shares_of_kind all (right.Entry c args i) (holding.Points k) shared kind = absurd cc
shares_of_kind all (right.Lock l key) (holding.Shares s) shared kind = (s, refl, eqb-true s.all all kind)
shares_of_kind all (right.Entry c args i) (holding.Count e) shared kind = absurd cc
shares_of_kind all (right.Entry c args i) (holding.Shares s) shared kind = (s, refl, eqb-true s.all all kind)
shares_of_kind all (right.Part p key) h shared kind = absurd cc

-- it permits what the table tells is permitted
pub shares_permit : (setup : Setup) (t : Table) (r : Right) (l : Level) (h : Holding) → entered t r ≡ Some h → IsSharesOf setup.replicas h
    → is_permitted setup.replicas (shares_in setup t) (record { right = r; amount = amount.Level l }) ≡ true → holding_permits h (asked.Level l) ≡ true
shares_permit setup t r l h is kind permitted =
    let s : Shares = kind.0 in
    subst (λ (k : Holding). holding_permits k (asked.Level l) ≡ true) (sym kind.1)
    (subst (λ n. shares_permitted n s.shares s.mode l ≡ true) (sym kind.2)
    (subst (λ n. shares_permitted setup.replicas n s.mode l ≡ true) (count_entered setup t r h is ∙ ap count_of kind.1)
    (subst (λ (m : Mode). shares_permitted setup.replicas (count_in setup t r) m l ≡ true) (mode_entered t r h is ∙ ap mode_of kind.1) (same (count_in setup t r) (mode_in t r) l permitted))))
  where
    same : (n : ℕ) (m : Mode) (l : Level) → permits setup.replicas (held.Shares n m) (amount.Level l) ≡ true → shares_permitted setup.replicas n m l ≡ true
    same n mode.Forbid level.Forbid h = h
    same n mode.Forbid level.Allow h = h
    same n mode.Forbid level.Exclusive h = h
    same n mode.Allow level.Forbid h = h
    same n mode.Allow level.Allow h = h
    same n mode.Allow level.Exclusive h = h

-- acting with it sets its mode where it is all shares
pub acts_one : (setup : Setup) (old new : Table) (r : Right) (l : Level) (before : Holding) → Becomes r before (spent before (asked.Level l)) old new → IsSharesOf setup.replicas before
    → ActsBy setup l (λ q. same_right r q) old new
acts_one setup old new r l before becomes kind =
    let s : Shares = kind.0 in
    let after : Holding = spent before (asked.Level l) in
    let becomes_shares : after ≡ holding.Shares (acted s l) = ap (λ (h : Holding). spent h (asked.Level l)) kind.1 in
    let same_count : count_of after ≡ count_of before = ap count_of becomes_shares ∙ acted_count (s.shares == s.all) s l ∙ sym (ap count_of kind.1) in
    let its_mode : mode_of after ≡ cond (s.shares == setup.replicas) (mode_set s.mode l) s.mode = ap mode_of becomes_shares ∙ acted_mode (s.shares == s.all) s l ∙ ap (λ n. cond (s.shares == n) (mode_set s.mode l) s.mode) kind.2 in
    let was : count_in setup old r ≡ s.shares = count_entered setup old r before becomes.was ∙ ap count_of kind.1 in
    let mode_was : mode_in old r ≡ s.mode = mode_entered old r before becomes.was ∙ ap mode_of kind.1 in
    record {
      me = becomes.me;
      replicas = becomes.replicas;
      counts = λ q. (let by = count_by setup r q before after old new 0 0 becomes (omega (arith, same_count)) in let none = nothing (same_right r q) in omega (arith, by, none));
      points = λ q x. points_stay setup r q x before after old new becomes (ap (λ (h : Holding). point_of h x) becomes_shares ∙ sym (ap (λ (h : Holding). point_of h x) kind.1));
      modes = λ q. mode_becomes r q before after old new becomes ∙ elim (cases_Bool (same_right r q)) [
        | inl same ↦
            let one : r ≡ q = same_is r q same in
            cond-true (same_right r q) (mode_of after) (mode_in old q) same ∙ its_mode
            ∙ ap (λ n. cond (n == setup.replicas) (mode_set s.mode l) s.mode) (sym was ∙ ap (count_in setup old) one)
            ∙ ap (λ (m : Mode). cond (count_in setup old q == setup.replicas) (mode_set m l) m) (sym mode_was ∙ ap (mode_in old) one)
            ∙ ap (λ b. cond b (mode_set (mode_in old q) l) (mode_in old q)) (sym (with_true (count_in setup old q == setup.replicas) (same_right r q) same))
        | inr other ↦
            cond-false (same_right r q) (mode_of after) (mode_in old q) other
            ∙ sym (cond-false ((count_in setup old q == setup.replicas) && same_right r q) (mode_set (mode_in old q) l) (mode_in old q) (with_false (count_in setup old q == setup.replicas) (same_right r q) other))
      ];
      kept = λ q has. becomes_kept r q before after old new becomes has;
    }
  where
    nothing : (b : Bool) → ◌≡◌ {A = ℕ} (cond b 0 0) 0
    nothing true = refl
    nothing false = refl

    with_true : (a b : Bool) → b ≡ true → (a && b) ≡ a
    with_true true b h = h
    with_true false b h = refl

    with_false : (a b : Bool) → b ≡ false → (a && b) ≡ false
    with_false true b h = h
    with_false false b h = refl

    acted_count : (b : Bool) (s : Shares) (l : Level) → count_of (holding.Shares (cond b (record s { mode = mode_set s.mode l }) s)) ≡ s.shares
    acted_count true s l = refl
    acted_count false s l = refl

    acted_mode : (b : Bool) (s : Shares) (l : Level) → mode_of (holding.Shares (cond b (record s { mode = mode_set s.mode l }) s)) ≡ cond b (mode_set s.mode l) s.mode
    acted_mode true s l = refl
    acted_mode false s l = refl
