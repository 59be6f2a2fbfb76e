-- What an instance needs whatever the truths are, and its witnesses.
use Rattle.std.specs.Prelude.{◌≡◌, ℕ, Bool, true, false, not, List, filter}
use Rattle.spec_model.specs.declared.instance.Inst.{Inst}
use Rattle.spec_model.specs.declared.plan.Plan.{Plan}
use Rattle.spec_model.specs.declared.plan.Setup.{Setup}
use Rattle.spec_model.specs.declared.right.Amount.{Amount}
use Rattle.spec_model.specs.declared.right.Amount.TheVariants as amount
use Rattle.spec_model.specs.declared.right.Need.{Need}
use Rattle.spec_model.specs.declared.spec.Spec.{Spec}
use Rattle.spec_model.specs.Fits.{marked_from}
use Rattle.spec_model.specs.Masks.{mask_needs}
use Rattle.spec_model.specs.Needs.{needs}
use Rattle.spec_model.specs.Truths.{Truths}

-- forbid on one of several literals
abbrev pub is_any_forbid : Amount → Bool
is_any_forbid (amount.Count n) = false
is_any_forbid (amount.Level level) = false
is_any_forbid (amount.Points span) = false
is_any_forbid (amount.AnyForbid literals) = true

-- the need of a forbid witness
abbrev pub is_witness : Need → Bool
is_witness need = is_any_forbid need.amount

abbrev pub is_plain : Need → Bool
is_plain need = not (is_witness need)

-- all needs but the witnesses, in their order
abbrev pub plain_needs : Setup → Truths → Inst → List Need
plain_needs setup s inst = filter is_plain (needs setup s inst)

-- these are the plain needs, for each number of replicas and whatever the truths are
abbrev pub ArePlain : Plan → Spec → Inst → List Need → Type 0
ArePlain plan spec inst all = (replicas : ℕ) (s : Truths) → all ≡ plain_needs (record { spec = spec; plan = plan; replicas = replicas }) s inst

-- the witnesses of the marked clauses, where these are the truths before the instance
abbrev pub witness_needs : Spec → Truths → Inst → List Need
witness_needs spec s inst = filter is_witness (mask_needs spec (marked_from 0 spec.clauses) inst s)

-- plain needs depend on no truths
abbrev pub PlainNeedsAreFixed : Type 0
PlainNeedsAreFixed = (setup : Setup) (s t : Truths) (inst : Inst) → plain_needs setup s inst ≡ plain_needs setup t inst
