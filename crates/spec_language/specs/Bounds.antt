-- The limits that every specification keeps, also while it is read.
use Rattle.std.specs.Prelude.{◌≤◌, length}
use Rattle.std.specs.List.{AllByRecursion}
use Rattle.spec_language.specs.declared.draft.SpecDraft.{SpecDraft}

pub record Bounds (d : SpecDraft) : Type 0 where
  pub sorts : length d.spec.sorts ≤ 64
  pub sizes : AllByRecursion (λ s. s.size ≤ 1024) d.spec.sorts
  pub preds : length d.spec.preds ≤ 64
  pub nums : length d.spec.nums ≤ 64
  pub ops : length d.spec.ops ≤ 64
  pub params : AllByRecursion (λ op. length op.params ≤ 4) d.spec.ops
  pub universe : d.universe ≤ 65536
  pub instances : d.instances ≤ 1000000
