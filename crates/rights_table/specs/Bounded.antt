-- Numbers with bounds.
use Rattle.std.specs.Prelude.{ℕ, Bool, None, is_some, slice_get}
use Rattle.std.specs.Option.{option_map_or}
use Rattle.spec_model.specs.declared.spec.Spec.{Spec}

abbrev pub has_lower : Spec → ℕ → Bool
has_lower spec n = is_some (option_map_or (λ num. num.min) (slice_get spec.nums n) None)

abbrev pub has_upper : Spec → ℕ → Bool
has_upper spec n = is_some (option_map_or (λ num. num.max) (slice_get spec.nums n) None)
