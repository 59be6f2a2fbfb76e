-- The rights of a setup are those that fit.
use Rattle.std.proofs.Common.{◌≡◌, inl, inr, ℕ, ◌+◌, List, ◌++◌, is_some, ap, ◌∙◌, subst, arith}
use Rattle.std.specs.List.{flat_map, filter, Contains}
use Rattle.spec_model.specs.declared.instance.Cell.{Cell}
use Rattle.spec_model.specs.declared.plan.Setup.{Setup}
use Rattle.spec_model.specs.declared.right.Right.{Right}
use Rattle.spec_model.specs.declared.right.Right.TheVariants as right
use Rattle.spec_model.specs.AllRights.{low_rights, high_rights, key_rights, entry_rights, rights_of}
use Rattle.spec_model.specs.Universe.{cells, lower_bound, upper_bound}
use Rattle.effect_model.specs.Rights.{RightFits}
use Rattle.effect_model.proofs.Whole.{cells_all}
use Rattle.effect_model.proofs.Members.{Member, contains, member, on_left, on_right, on_either, mapped, from_map, flat, from_flat, kept, from_kept}
use Rattle.effect_model.proofs.Named.{key_there, key_found, entry_there, entry_found}

abbrev locks_of : Setup → List Right
locks_of setup = key_rights (λ n key. right.Lock n key) setup.spec 0 setup.plan.locks

abbrev parts_of : Setup → List Right
parts_of setup = key_rights (λ n key. right.Part n key) setup.spec 0 setup.plan.parts

abbrev masked_of : Setup → List Right
masked_of setup = flat_map (entry_rights setup.spec) setup.plan.masks

fitting_right : (setup : Setup) (r : Right) → Member (rights_of setup) r → RightFits setup r
fitting_right setup r m = elim (on_either (low_rights setup.spec) (high_rights setup.spec ++ (locks_of setup ++ (masked_of setup ++ parts_of setup))) r m) [
  | inl low ↦
      let t = from_map (λ (cell : Cell). right.Low cell) (filter (λ cell. is_some (lower_bound setup.spec cell)) (cells setup.spec)) r low in
      let k = from_kept (λ (cell : Cell). is_some (lower_bound setup.spec cell)) (cells setup.spec) t.0 t.1 in
      subst (RightFits setup) t.2 ((cells_all setup.spec t.0).those_that_fit.0 (contains (cells setup.spec) t.0 k.0), k.1)
  | inr rest ↦ behind_low rest
]
  where
    behind_masks : Member (masked_of setup ++ parts_of setup) r → RightFits setup r
    behind_masks m = elim (on_either (masked_of setup) (parts_of setup) r m) [
      | inl masked ↦
          let t = from_flat (entry_rights setup.spec) setup.plan.masks r masked in
          let e = entry_found setup.spec t.0 r t.2 in
          subst (RightFits setup) e.3 (contains setup.plan.masks t.0 t.1, e.2)
      | inr part ↦
          let t = key_found (λ n key. right.Part n key) setup.spec 0 setup.plan.parts r part in
          let number : t.0 ≡ 0 + t.0 = omega arith in
          subst (RightFits setup) (ap (λ (n : ℕ). right.Part n t.1) number ∙ t.3) t.2
    ]

    behind_high : Member (locks_of setup ++ (masked_of setup ++ parts_of setup)) r → RightFits setup r
    behind_high m = elim (on_either (locks_of setup) (masked_of setup ++ parts_of setup) r m) [
      | inl lock ↦
          let t = key_found (λ n key. right.Lock n key) setup.spec 0 setup.plan.locks r lock in
          let number : t.0 ≡ 0 + t.0 = omega arith in
          subst (RightFits setup) (ap (λ (n : ℕ). right.Lock n t.1) number ∙ t.3) t.2
      | inr rest ↦ behind_masks rest
    ]

    behind_low : Member (high_rights setup.spec ++ (locks_of setup ++ (masked_of setup ++ parts_of setup))) r → RightFits setup r
    behind_low m = elim (on_either (high_rights setup.spec) (locks_of setup ++ (masked_of setup ++ parts_of setup)) r m) [
      | inl high ↦
          let t = from_map (λ (cell : Cell). right.High cell) (filter (λ cell. is_some (upper_bound setup.spec cell)) (cells setup.spec)) r high in
          let k = from_kept (λ (cell : Cell). is_some (upper_bound setup.spec cell)) (cells setup.spec) t.0 t.1 in
          subst (RightFits setup) t.2 ((cells_all setup.spec t.0).those_that_fit.0 (contains (cells setup.spec) t.0 k.0), k.1)
      | inr rest ↦ behind_high rest
    ]

right_there : (setup : Setup) (r : Right) → RightFits setup r → Member (rights_of setup) r
right_there setup (right.Low cell) f =
    on_left (low_rights setup.spec) (high_rights setup.spec ++ (locks_of setup ++ (masked_of setup ++ parts_of setup))) (right.Low cell)
    (mapped (λ (c : Cell). right.Low c) (filter (λ c. is_some (lower_bound setup.spec c)) (cells setup.spec)) cell
    (kept (λ (c : Cell). is_some (lower_bound setup.spec c)) (cells setup.spec) cell (member (cells setup.spec) cell ((cells_all setup.spec cell).those_that_fit.1 f.0)) f.1))
right_there setup (right.High cell) f =
    on_right (low_rights setup.spec) (high_rights setup.spec ++ (locks_of setup ++ (masked_of setup ++ parts_of setup))) (right.High cell)
    (on_left (high_rights setup.spec) (locks_of setup ++ (masked_of setup ++ parts_of setup)) (right.High cell)
    (mapped (λ (c : Cell). right.High c) (filter (λ c. is_some (upper_bound setup.spec c)) (cells setup.spec)) cell
    (kept (λ (c : Cell). is_some (upper_bound setup.spec c)) (cells setup.spec) cell (member (cells setup.spec) cell ((cells_all setup.spec cell).those_that_fit.1 f.0)) f.1)))
right_there setup (right.Lock n key) f =
    on_right (low_rights setup.spec) (high_rights setup.spec ++ (locks_of setup ++ (masked_of setup ++ parts_of setup))) (right.Lock n key)
    (on_right (high_rights setup.spec) (locks_of setup ++ (masked_of setup ++ parts_of setup)) (right.Lock n key)
    (on_left (locks_of setup) (masked_of setup ++ parts_of setup) (right.Lock n key)
    (key_there (λ m k. right.Lock m k) setup.spec 0 setup.plan.locks n n key (omega arith) f)))
right_there setup (right.Entry i xs n) f =
    on_right (low_rights setup.spec) (high_rights setup.spec ++ (locks_of setup ++ (masked_of setup ++ parts_of setup))) (right.Entry i xs n)
    (on_right (high_rights setup.spec) (locks_of setup ++ (masked_of setup ++ parts_of setup)) (right.Entry i xs n)
    (on_right (locks_of setup) (masked_of setup ++ parts_of setup) (right.Entry i xs n)
    (on_left (masked_of setup) (parts_of setup) (right.Entry i xs n)
    (flat (entry_rights setup.spec) setup.plan.masks i (right.Entry i xs n) (member setup.plan.masks i f.0) (entry_there setup.spec i xs n f.1)))))
right_there setup (right.Part n key) f =
    on_right (low_rights setup.spec) (high_rights setup.spec ++ (locks_of setup ++ (masked_of setup ++ parts_of setup))) (right.Part n key)
    (on_right (high_rights setup.spec) (locks_of setup ++ (masked_of setup ++ parts_of setup)) (right.Part n key)
    (on_right (locks_of setup) (masked_of setup ++ parts_of setup) (right.Part n key)
    (on_right (masked_of setup) (parts_of setup) (right.Part n key)
    (key_there (λ m k. right.Part m k) setup.spec 0 setup.plan.parts n n key (omega arith) f))))

pub right_fits_is : (setup : Setup) (r : Right) → Contains (rights_of setup) r → RightFits setup r
right_fits_is setup r c = fitting_right setup r (member (rights_of setup) r c)

pub right_contained : (setup : Setup) (r : Right) → RightFits setup r → Contains (rights_of setup) r
right_contained setup r f = contains (rights_of setup) r (right_there setup r f)
