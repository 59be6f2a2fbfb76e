-- Acting at levels: what the needs of an act do to the modes of a table.
use Rattle.std.specs.Prelude.{◌≡◌, true, false, ℕ, List, Bool, ◌==◌, ◌&&◌, if◌then◌else◌, Option}
use Rattle.std.specs.List.{AllByRecursion}
use Rattle.std.specs.Option.{option_map_or}
use Rattle.spec_model.specs.declared.plan.Setup.{Setup}
use Rattle.spec_model.specs.declared.right.Right.{Right}
use Rattle.spec_model.specs.declared.right.Need.{Need}
use Rattle.spec_model.specs.declared.right.Held.{Held}
use Rattle.spec_model.specs.declared.right.Level.{Level}
use Rattle.spec_model.specs.declared.right.Amount.{Amount}
use Rattle.spec_model.specs.declared.right.Amount.TheVariants as amount
use Rattle.run_model.specs.Rights.{same_right, is_shared}
use Rattle.run_model.specs.Levels.{acts_at}
use Rattle.run_model.specs.Holding.{shares_of, mode_set as modes_set}
use Rattle.multilevel_locks.specs.Shares.{mode_set}
use Rattle.rights_table.specs.declared.table.Table.{Table}
use Rattle.rights_table.specs.Tables.{count_in, mode_in, point_in, IsEntered}

-- the shares that a table has of each right
abbrev pub shares_in : Setup → Table → Need → Held
shares_in setup t = shares_of (count_in setup t) (mode_in t)

-- the right is the one, if there is one
abbrev pub is_it : Right → Option Right → Bool
is_it q found = option_map_or (λ r. same_right r q) found false

-- where this acts on a right at the level and all shares are held, the level sets the mode; all else stays
pub record ActsBy (setup : Setup) (l : Level) (acts : Right → Bool) (old new : Table) : Type 0 where
  pub me : new.me ≡ old.me
  pub replicas : new.replicas ≡ old.replicas
  pub counts : (q : Right) → count_in setup new q ≡ count_in setup old q
  pub points : (q : Right) (x : ℕ) → point_in setup new q x ≡ point_in setup old q x
  pub modes : (q : Right) → mode_in new q ≡ (if (count_in setup old q == setup.replicas) && acts q then mode_set (mode_in old q) l else mode_in old q)
  pub kept : (q : Right) → IsEntered old q → IsEntered new q

-- what is acted on by these needs has an entry
abbrev pub AreEntered : Setup → Table → List Need → Type 0
AreEntered setup t needs = (q : Right) (l : Level) → acts_at setup.replicas (shares_in setup t) needs q l ≡ true → IsEntered t q

-- levels are needed of shared rights alone
abbrev pub IsOnShares : Right → Amount → Type 0
IsOnShares r (amount.Level l) = is_shared r ≡ true
IsOnShares r (amount.AnyForbid literals) = is_shared r ≡ true
IsOnShares r a = Unit {0}

abbrev pub AreOnShares : List Need → Type 0
AreOnShares needs = AllByRecursion (λ need. IsOnShares need.right need.amount) needs

-- the modes once an act with these needs was done, and all else as before
pub record SetsModes (setup : Setup) (needs : List Need) (old new : Table) : Type 0 where
  pub me : new.me ≡ old.me
  pub replicas : new.replicas ≡ old.replicas
  pub counts : (q : Right) → count_in setup new q ≡ count_in setup old q
  pub points : (q : Right) (x : ℕ) → point_in setup new q x ≡ point_in setup old q x
  pub modes : (q : Right) → mode_in new q ≡ (if count_in setup old q == setup.replicas then modes_set (acts_at setup.replicas (shares_in setup old) needs q) (mode_in old q) else mode_in old q)
  pub kept : (q : Right) → IsEntered old q → IsEntered new q
