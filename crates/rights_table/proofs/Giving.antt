-- A piece that is held is given.
use Rattle.std.proofs.Common.{◌≡◌, ℕ, ◌<◌, ◌≤◌, arith}
use Rattle.std.specs.Prelude.{◌↔◌, Result, Err}
use Rattle.ind_base.specs.declared.right_kind.GiveError.{GiveError}
use Rattle.ind_base.specs.declared.right_kind.GiveError.TheVariants.{Lacks, Memory}

-- with enough held and room for a piece it isn't refused
pub never_refused : {X : Type 0} (result : Result X GiveError) (why : GiveError) (held size : ℕ) → ((have : ℕ) → (result ≡ Err (Lacks have)) ↔ (have ≡ held) × (have < size)) → (result ≡ Err Memory → ◌≡◌ {A = ℕ} 1 0) → size ≤ held → result ≡ Err why → ⊥
never_refused result (Lacks have) held size lacks memory enough is = let h = (lacks have).0 is in absurd (omega (arith, h.0, h.1, enough))
never_refused result Memory held size lacks memory enough is = absurd (omega (arith, memory is))
