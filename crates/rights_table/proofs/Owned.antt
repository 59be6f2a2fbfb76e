-- What an act of the own log wants of the table.
use Rattle.std.proofs.Common.{◌≡◌, ℕ, zero, suc, ◌+◌, ◌<◌, ◌≤◌, ◌*◌, ◌^◌, Bool, true, false, cond, List, [], ◌∷◌, map, refl, subst, arith}
use Rattle.std.specs.Prelude.{Some, is_some}
use Rattle.std.specs.List.{AllByRecursion, find}
use Rattle.std.specs.Option.{option_map_or}
use Rattle.std.proofs.lemmas.Bool.{and_parts}
use Rattle.std.proofs.lemmas.Option.{same_Some}
use Rattle.spec_model.specs.declared.plan.Setup.{Setup}
use Rattle.spec_model.specs.declared.spec.Spec.{Spec}
use Rattle.spec_model.specs.declared.instance.Inst.{Inst}
use Rattle.spec_model.specs.declared.right.Right.{Right}
use Rattle.spec_model.specs.declared.right.Right.TheVariants as right
use Rattle.spec_model.specs.declared.right.Need.{Need}
use Rattle.spec_model.specs.declared.right.Level.{Level}
use Rattle.spec_model.specs.declared.right.Amount.{Amount}
use Rattle.spec_model.specs.declared.right.Amount.TheVariants as amount
use Rattle.spec_model.specs.Changes.{added, subtracted, effect_lines, line_adds, line_subtracts}
use Rattle.spec_model.specs.Fits.{IsWellFormed}
use Rattle.spec_model.specs.Universe.{lower_bound, upper_bound}
use Rattle.effect_model.proofs.Sums.{changes_small}
use Rattle.effect_model.proofs.Whole.{among}
use Rattle.run_model.specs.Fitting.{AmountFits, NeedFits}
use Rattle.run_model.specs.Levels.{acts_on, choices, choices_of, forbid_at, is_at, is_level, is_permitted}
use Rattle.run_model.specs.Rights.{is_shared}
use Rattle.run_model.proofs.Lists.{each_at}
use Rattle.run_model.proofs.Members.{In, any_in, in_cons}
use Rattle.rights_table.specs.declared.table.Table.{Table}
use Rattle.rights_table.specs.Acting.{AreEntered, AreOnShares, IsOnShares, shares_in}
use Rattle.rights_table.specs.Cells.{all_gain}
use Rattle.rights_table.specs.Tables.{IsEntered}
use Rattle.rights_table.specs.Whole.{AreNeedsEntered}
use Rattle.rights_table.proofs.ActedOn.{literal_shared}
use Rattle.rights_table.specs.Same.{same_is}
use Rattle.rights_table.proofs.Sums.{none, sum_tested}

-- ---- entries

-- one that is found stands in the list
found_in : {X : Type 0} (P f : X → Bool) (xs : List X) → option_map_or f (find P xs) false ≡ true → (x : X) × In xs x × (f x ≡ true)
found_in P f [] h = absurd cc
found_in {X} P f (x ∷ xs) h = either (P x) (found_in P f xs) h
  where
    either : (b : Bool) → (option_map_or f (find P xs) false ≡ true → (y : X) × In xs y × (f y ≡ true)) → option_map_or f (cond b (Some x) (find P xs)) false ≡ true → (y : X) × In (x ∷ xs) y × (f y ≡ true)
    either true later h = (x, (0, refl), h)
    either false later h = let rest = later h in (rest.0, in_cons x xs rest.0 rest.1, rest.2)

literals_shared : (r : Right) (literals : List ℕ) (choice : Need) → is_shared r ≡ true → In (map (forbid_at r) literals) choice → is_shared choice.right ≡ true
literals_shared r [] choice shared there = absurd (let no = there.1 in cc)
literals_shared r (n ∷ literals) choice shared (zero, is) = subst (λ (c : Need). is_shared c.right ≡ true) (same_Some (forbid_at r n) choice is) (literal_shared r n shared)
literals_shared r (n ∷ literals) choice shared (suc k, is) = literals_shared r literals choice shared (k, is)

-- a level is on a shared right alone
only : (need choice : Need) (l : Level) → (is_level l need.amount ≡ true → is_shared need.right ≡ true) → In (need ∷ []) choice → is_level l choice.amount ≡ true → is_shared choice.right ≡ true
only need choice l so (zero, is) at = subst (λ (c : Need). is_level l c.amount ≡ true → is_shared c.right ≡ true) (same_Some need choice is) so at
only need choice l so (suc k, is) at = absurd cc

choice_shared : (r : Right) (a : Amount) (choice : Need) (l : Level) → IsOnShares r a → In (choices_of r a) choice → is_level l choice.amount ≡ true → is_shared choice.right ≡ true
choice_shared r (amount.Count n) choice l on there at = only (record { right = r; amount = amount.Count n }) choice l (λ h. absurd (let no : false ≡ true = h in cc)) there at
choice_shared r (amount.Level m) choice l on there at = only (record { right = r; amount = amount.Level m }) choice l (λ h. on) there at
choice_shared r (amount.Points span) choice l on there at = only (record { right = r; amount = amount.Points span }) choice l (λ h. absurd (let no : false ≡ true = h in cc)) there at
choice_shared r (amount.AnyForbid literals) choice l on there at = literals_shared r literals choice on there

-- needs that fit are of levels of shared rights alone
pub on_shares : (setup : Setup) (needs : List Need) → AllByRecursion (NeedFits setup) needs → AreOnShares needs
on_shares setup [] fits = tt
on_shares setup (need ∷ needs) fits = (on need.right need.amount fits.0.much, on_shares setup needs fits.1)
  where
    on : (r : Right) (a : Amount) → AmountFits setup r a → IsOnShares r a
    on r (amount.Count n) fit = tt
    on r (amount.Level l) fit = fit
    on r (amount.Points span) fit = tt
    on r (amount.AnyForbid literals) fit = fit.0

-- what is acted on is a choice of a need
pub acts_entered : (setup : Setup) (t : Table) (needs : List Need) → AreOnShares needs → AreNeedsEntered needs t → AreEntered setup t needs
acts_entered setup t needs on entered q l acts =
    let P : Need → Bool = is_permitted setup.replicas (shares_in setup t) in
    let need = any_in (acts_on setup.replicas (shares_in setup t) q l) needs acts in
    let choice = found_in P (is_at q l) (choices need.0) need.2 in
    let parts = and_parts _ _ choice.2 in
    let shared = choice_shared need.0.right need.0.amount choice.0 l (each_at (λ (n : Need). IsOnShares n.right n.amount) needs need.1.0 need.0 on need.1.1) choice.1 parts.1 in
    subst (IsEntered t) (same_is choice.0.right q parts.0)
    (entered need.0 choice.0 (among needs need.1.0 need.0 need.1.1) (among (choices need.0) choice.1.0 choice.0 choice.1.1) shared)

-- ---- counts

tested_small : (b : Bool) (n : ℕ) → n ≤ 16000000000 → cond b n 0 ≤ 16000000000
tested_small true n le = le
tested_small false n le = omega arith

-- all lines add little
pub gain_small : (spec : Spec) (inst : Inst) (r : Right) → IsWellFormed spec → all_gain spec inst r ≤ 16000000000
gain_small spec inst (right.Low cell) well =
    let b : Bool = is_some (lower_bound spec cell) in
    let all = sum_tested b (line_adds inst cell) (effect_lines spec inst) in
    let small = tested_small b (added spec inst cell) (changes_small spec inst cell well).0 in
    omega (arith, all, small)
gain_small spec inst (right.High cell) well =
    let b : Bool = is_some (upper_bound spec cell) in
    let all = sum_tested b (line_subtracts inst cell) (effect_lines spec inst) in
    let small = tested_small b (subtracted spec inst cell) (changes_small spec inst cell well).1 in
    omega (arith, all, small)
gain_small spec inst (right.Lock l key) well = let z = none (effect_lines spec inst) in omega (arith, z)
gain_small spec inst (right.Entry c args i) well = let z = none (effect_lines spec inst) in omega (arith, z)
gain_small spec inst (right.Part p key) well = let z = none (effect_lines spec inst) in omega (arith, z)

-- a number of 64 bits counts what few items leave and what one more adds
pub within : (n held gain : ℕ) → n < 4194304 → held ≤ 2 ^ 62 + n * 2 ^ 34 → gain ≤ 16000000000 → held + gain < 2 ^ 64
within n held gain lt le small = omega (arith, lt, le, small)
