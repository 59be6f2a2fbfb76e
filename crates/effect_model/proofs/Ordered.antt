-- All rights are listed family after family.
use Rattle.std.proofs.Common.{◌≡◌, ℕ, List, [], ◌++◌, ap, ◌∙◌, append_assoc}
use Rattle.std.specs.List.{flat_map}
use Rattle.spec_model.specs.declared.plan.LockKind.{LockKind}
use Rattle.spec_model.specs.declared.plan.Setup.{Setup}
use Rattle.spec_model.specs.declared.right.Right.{Right}
use Rattle.spec_model.specs.declared.right.Right.TheVariants as right
use Rattle.spec_model.specs.AllRights.{low_rights, high_rights, key_rights, entry_rights, rights_of}
use Rattle.effect_model.specs.declared.right_list.Family.TheVariants as family
use Rattle.effect_model.specs.Rights.{cell_rights, right_at}
use Rattle.effect_model.proofs.Ranging.{low_are, high_are}

-- five lists joined, from either end
in_order : (a b c d e : List Right) → (((a ++ b) ++ c) ++ d) ++ e ≡ a ++ (b ++ (c ++ (d ++ e)))
in_order a b c d e = append_assoc ((a ++ b) ++ c) d e ∙ append_assoc (a ++ b) c (d ++ e) ∙ append_assoc a b (c ++ (d ++ e))

-- family after family was listed
pub all_listed : (setup : Setup) (start low high lock entry part : List Right) (locks : List LockKind) (masks : List ℕ) (parts : List LockKind) → locks ≡ setup.plan.locks → masks ≡ setup.plan.masks → parts ≡ setup.plan.parts
    → start ≡ [] → low ≡ start ++ cell_rights family.Low setup.spec 0 setup.spec.nums → high ≡ low ++ cell_rights family.High setup.spec 0 setup.spec.nums
    → lock ≡ high ++ key_rights (λ n key. right_at family.Lock n key) setup.spec 0 locks → entry ≡ lock ++ flat_map (entry_rights setup.spec) masks → part ≡ entry ++ key_rights (λ n key. right_at family.Part n key) setup.spec 0 parts
    → part ≡ rights_of setup
all_listed setup start low high lock entry part locks masks parts locks_are masks_are parts_are none lows highs keys entries points =
    let spec = setup.spec in
    let a = low_rights spec in
    let b = high_rights spec in
    let c = key_rights (λ n key. right.Lock n key) spec 0 setup.plan.locks in
    let d = flat_map (entry_rights spec) setup.plan.masks in
    let e = key_rights (λ n key. right.Part n key) spec 0 setup.plan.parts in
    let to_low : low ≡ a = lows ∙ ap (λ (rs : List Right). rs ++ cell_rights family.Low spec 0 spec.nums) none ∙ low_are spec in
    let to_high : high ≡ a ++ b = highs ∙ ap (λ (rs : List Right). rs ++ cell_rights family.High spec 0 spec.nums) to_low ∙ ap (λ (rs : List Right). a ++ rs) (high_are spec) in
    let to_lock : lock ≡ (a ++ b) ++ c = keys ∙ ap (λ (ls : List LockKind). high ++ key_rights (λ n key. right.Lock n key) spec 0 ls) locks_are ∙ ap (λ (rs : List Right). rs ++ c) to_high in
    let to_entry : entry ≡ ((a ++ b) ++ c) ++ d = entries ∙ ap (λ (ms : List ℕ). lock ++ flat_map (entry_rights spec) ms) masks_are ∙ ap (λ (rs : List Right). rs ++ d) to_lock in
    points ∙ ap (λ (ls : List LockKind). entry ++ key_rights (λ n key. right.Part n key) spec 0 ls) parts_are ∙ ap (λ (rs : List Right). rs ++ e) to_entry ∙ in_order a b c d e
