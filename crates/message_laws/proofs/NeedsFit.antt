-- What an instance that fits needs fits the setup: escrow, locks, entries of masks and partitions.
use Rattle.std.proofs.Common.{◌≡◌, inl, inr, ℕ, ◌<◌, ◌^◌, Bool, true, false, List, [], ◌∷◌, ◌++◌, length, get_or, refl, sym, ap, subst, ◌∙◌, arith, ltb-true}
use Rattle.std.specs.Prelude.{slice_get, Some, is_some, nat_lt, if◌then◌else◌}
use Rattle.std.specs.List.{AllByRecursion}
use Rattle.std.proofs.lemmas.Option.{get_or_from_slice_get}
use Rattle.std.proofs.lemmas.Bool.{cond_both}
use Rattle.spec_model.specs.declared.instance.Cell.{Cell}
use Rattle.spec_model.specs.declared.instance.Inst.{Inst}
use Rattle.spec_model.specs.declared.plan.LockKind.{LockKind}
use Rattle.spec_model.specs.declared.plan.Setup.{Setup}
use Rattle.spec_model.specs.declared.right.Amount.TheVariants as amount
use Rattle.spec_model.specs.declared.right.Need.{Need}
use Rattle.spec_model.specs.declared.right.Right.{Right}
use Rattle.spec_model.specs.declared.right.Right.TheVariants as right
use Rattle.spec_model.specs.declared.spec.Spec.{Spec}
use Rattle.spec_model.specs.Changes.{added, net_fall, net_rise, subtracted}
use Rattle.spec_model.specs.Fits.{ArgFits, InstFits, LockFits, PartFits}
use Rattle.spec_model.specs.Masks.{mask_needs}
use Rattle.spec_model.specs.Needs.{escrow_need, escrow_needs, key_at, key_needs, lock_need, part_need, spends}
use Rattle.spec_model.specs.Separated.{interval_arg, interval_place}
use Rattle.spec_model.specs.Truths.{arg, no_var, op_at, size_of, sort_of}
use Rattle.spec_model.specs.Universe.{cells, lower_bound, upper_bound}
use Rattle.run_model.specs.Fitting.{NeedFits, PointsFit, RightFits, SetupFits}
use Rattle.run_model.specs.Points.{no_kind, points_all}
use Rattle.run_model.specs.Rights.{is_escrow}
use Rattle.run_model.proofs.Lists.{each_append, each_at}
use Rattle.run_model.proofs.Members.{In}
use Rattle.message_laws.specs.Laws.{NeedsFit}
use Rattle.message_laws.proofs.Keyed.{arg_at, args_of, each_key_need, interval_within, key_by, key_known}
use Rattle.message_laws.proofs.Listed.{each_flat_map}
use Rattle.message_laws.proofs.Masked.{masks_fit}
use Rattle.message_laws.proofs.Sections.{high_there, lock_there, low_there, part_there}
use Rattle.message_laws.proofs.Spent.{added_small, difference_small, subtracted_small}

-- ---- escrow

-- where some is spent of it, it is there, and what is spent is small
count_fits : (setup : Setup) (inst : Inst) (r : Right) → is_escrow r ≡ true → (0 < spends setup.spec inst r → RightFits setup r × (spends setup.spec inst r < 2 ^ 64)) → AllByRecursion (NeedFits setup) (escrow_need setup.spec inst r)
count_fits setup inst r escrow h =
    let n = spends setup.spec inst r in
    let need : Need = record { right = r; amount = amount.Count n } in
    cond_both (nat_lt 0 n) (need ∷ []) [] (AllByRecursion (NeedFits setup))
    (λ some. let fits = h (ltb-true 0 n some) in (record { of = fits.0; much = (escrow, fits.1) }, tt))
    (λ none. tt)

-- what is spent only where there is a bound
where_bound : (b : Bool) (change limit : ℕ) → change < limit → 0 < (if b then change else 0) → (b ≡ true) × ((if b then change else 0) < limit)
where_bound true change limit small some = (refl, small)
where_bound false change limit small some = absurd (omega (arith, some))

-- of both rights of a cell
cell_fits : (setup : Setup) (inst : Inst) → SetupFits setup → (cell : Cell) → In (cells setup.spec) cell → AllByRecursion (NeedFits setup) (escrow_need setup.spec inst (right.Low cell) ++ escrow_need setup.spec inst (right.High cell))
cell_fits setup inst fits cell there =
    let spec = setup.spec in
    let fall = difference_small (subtracted spec inst cell) (added spec inst cell) (subtracted_small spec inst cell fits.spec) in
    let rise = difference_small (added spec inst cell) (subtracted spec inst cell) (added_small spec inst cell fits.spec) in
    each_append (NeedFits setup) (escrow_need spec inst (right.Low cell)) (escrow_need spec inst (right.High cell))
    (count_fits setup inst (right.Low cell) refl (λ some.
    let bound = where_bound (is_some (lower_bound spec cell)) (net_fall spec inst cell) (2 ^ 64) fall some in
    (low_there setup cell there bound.0, bound.1)))
    (count_fits setup inst (right.High cell) refl (λ some.
    let bound = where_bound (is_some (upper_bound spec cell)) (net_rise spec inst cell) (2 ^ 64) rise some in
    (high_there setup cell there bound.0, bound.1)))

-- ---- locks and partitions

-- of a lock at the instance's key
lock_fits : (setup : Setup) (inst : Inst) → SetupFits setup → InstFits setup.spec inst → (n : ℕ) (kind : LockKind) (key : List ℕ) → slice_get setup.plan.locks n ≡ Some kind → key_at kind inst ≡ Some key → NeedFits setup (lock_need inst n kind key)
lock_fits setup inst fits inst_fits n kind key at has =
    let lock : LockFits setup.spec kind = each_at (LockFits setup.spec) setup.plan.locks n kind fits.plan.locks_fit at in
    record { of = lock_there setup n kind key at (key_known setup.spec kind inst key lock inst_fits has); much = refl }

-- the interval of an operation with an interval parameter lies in its sort
interval_fits : (spec : Spec) (inst : Inst) (op : ℕ) → InstFits spec inst → inst.op ≡ op → interval_place (op_at spec op).params < length (op_at spec op).params
    → ArgFits spec (get_or (op_at spec op).params (interval_place (op_at spec op).params) no_var) (interval_arg spec inst)
interval_fits spec inst op fits is lt =
    let place = λ (i : ℕ). interval_place (op_at spec i).params in
    subst (λ i. ArgFits spec (get_or (op_at spec op).params (place op) no_var) (arg inst (place i))) (sym is) (arg_at spec (op_at spec op).params inst.args (place op) (args_of spec inst op fits is) lt)

-- of a partition: there the interval's points are those of the partition's sort, by whichever operation it is
part_fits : (setup : Setup) (inst : Inst) → SetupFits setup → InstFits setup.spec inst → (n : ℕ) (kind : LockKind) (key : List ℕ) → slice_get setup.plan.parts n ≡ Some kind → key_at kind inst ≡ Some key → NeedFits setup (part_need setup.spec inst n kind key)
part_fits setup inst fits inst_fits n kind key at has =
    let spec = setup.spec in
    let part : PartFits spec kind = each_at (PartFits spec) setup.plan.parts n kind fits.plan.parts_fit at in
    let sort = λ (op : ℕ). sort_of (op_at spec op).params (interval_place (op_at spec op).params) in
    let span = interval_arg spec inst in
    let all : size_of spec (sort kind.a) ≡ points_all setup n = ap (λ (k : LockKind). size_of spec (sort k.a)) (sym (get_or_from_slice_get setup.plan.parts n kind no_kind at)) in
    let points : PointsFit setup (right.Part n key) span = elim (key_by kind inst key has) [
      | inl first ↦
          let a = interval_fits spec inst kind.a inst_fits first.0 (interval_within (op_at spec kind.a).params part.interval_a) in
          (a.ordered, subst (λ size. span.hi < size) all a.fits)
      | inr second ↦
          let b = interval_fits spec inst kind.b inst_fits second.0 (interval_within (op_at spec kind.b).params part.interval_b) in
          (b.ordered, subst (λ size. span.hi < size) (ap (size_of spec) (sym part.one_sort) ∙ all) b.fits)
    ] in
    record { of = part_there setup n kind key at (key_known spec kind inst key part.lock inst_fits has); much = points }

-- ---- all needs

-- joined
pub needs_fit : NeedsFit
needs_fit setup s inst fits inst_fits =
    let P = NeedFits setup in
    let locks = key_needs (lock_need inst) inst 0 setup.plan.locks in
    let masks = mask_needs setup.spec setup.plan.masks inst s in
    let parts = key_needs (part_need setup.spec inst) inst 0 setup.plan.parts in
    let escrow = each_flat_map P (λ (cell : Cell). escrow_need setup.spec inst (right.Low cell) ++ escrow_need setup.spec inst (right.High cell)) (cells setup.spec) (cell_fits setup inst fits) in
    let lock = each_key_need P (lock_need inst) inst 0 setup.plan.locks
    (λ k m kind key is at has. lock_fits setup inst fits inst_fits m kind key (ap (slice_get setup.plan.locks) (omega (arith, is)) ∙ at) has) in
    let part = each_key_need P (part_need setup.spec inst) inst 0 setup.plan.parts
    (λ k m kind key is at has. part_fits setup inst fits inst_fits m kind key (ap (slice_get setup.plan.parts) (omega (arith, is)) ∙ at) has) in
    each_append P (escrow_needs setup.spec inst) (locks ++ (masks ++ parts)) escrow (each_append P locks (masks ++ parts) lock (each_append P masks parts (masks_fit setup inst s) part))
