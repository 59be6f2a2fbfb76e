-- The atoms of a clause that fits, at elements of its variables' sorts, are atoms of the universe.
use Rattle.std.proofs.Common.{ℕ, zero, suc, ◌<◌, List, [], ◌∷◌, ◌++◌, map, length, get_or, Bool, true, false, sym, subst, arith}
use Rattle.std.specs.List.{AllByRecursion, AllZip}
use Rattle.std.proofs.lemmas.List.{append-nil}
use Rattle.spec_model.specs.declared.clause.Clause.{Clause}
use Rattle.spec_model.specs.declared.clause.Literal.{Literal}
use Rattle.spec_model.specs.declared.clause.Literal.TheVariants.{Atom, Equal}
use Rattle.spec_model.specs.declared.spec.Spec.{Spec}
use Rattle.spec_model.specs.Fits.{LiteralFits, ClauseFits, PlaceFits}
use Rattle.spec_model.specs.Truths.{Within, size_of, pred_at, values, var_sorts, Signed, signed}
use Rattle.effect_model.specs.Pruning.{LiteralStands, ClauseStands}

within_at : (size : ℕ → ℕ) (sorts xs : List ℕ) (i : ℕ) → Within size sorts xs → i < length sorts → get_or xs i 0 < size (get_or sorts i 0)
within_at size [] xs i w lt = absurd (omega arith)
within_at size (s ∷ sorts) [] i w lt = absurd w
within_at size (s ∷ sorts) (x ∷ xs) zero w lt = w.0
within_at size (s ∷ sorts) (x ∷ xs) (suc i) w lt = within_at size sorts xs i w.1 (omega arith)

values_within : (spec : Spec) (sorts xs vars wanted : List ℕ) → Within (size_of spec) sorts xs → AllZip (PlaceFits sorts) vars wanted → Within (size_of spec) wanted (values xs vars)
values_within spec sorts xs [] [] w f = tt
values_within spec sorts xs [] (s ∷ wanted) w f = absurd f
values_within spec sorts xs (v ∷ vars) [] w f = absurd f
values_within spec sorts xs (v ∷ vars) (s ∷ wanted) w f =
    (subst (λ (k : ℕ). get_or xs v 0 < size_of spec k) f.0.sort_is (within_at (size_of spec) sorts xs v w f.0.within), values_within spec sorts xs vars wanted w f.1)

literal_stands : (spec : Spec) (sorts xs : List ℕ) (l : Literal) → Within (size_of spec) sorts xs → LiteralFits spec sorts l → LiteralStands spec xs l
literal_stands spec sorts xs (Atom p vars) w f = record { known = f.0; within = values_within spec sorts xs vars (pred_at spec p).sorts w f.1 }
literal_stands spec sorts xs (Equal l r) w f = tt

literals_stand : (spec : Spec) (sorts xs : List ℕ) (sign : Bool) (ls : List Literal) (more : List Signed) → Within (size_of spec) sorts xs → AllByRecursion (λ (l : Signed). LiteralFits spec sorts l.literal) (map (signed sign) ls ++ more)
    → AllByRecursion (LiteralStands spec xs) ls × AllByRecursion (λ (l : Signed). LiteralFits spec sorts l.literal) more
literals_stand spec sorts xs sign [] more w f = (tt, f)
literals_stand spec sorts xs sign (l ∷ ls) more w f =
    let rest = literals_stand spec sorts xs sign ls more w f.1 in
    ((literal_stands spec sorts xs l w f.0, rest.0), rest.1)

pub clause_stands : (spec : Spec) (c : Clause) (xs : List ℕ) → ClauseFits spec c → Within (size_of spec) (var_sorts c) xs → ClauseStands spec xs c
clause_stands spec c xs f w =
    let premise = literals_stand spec (var_sorts c) xs false c.premise (map (signed true) c.conclusion) w f.literals_fit in
    let conclusion = literals_stand spec (var_sorts c) xs true c.conclusion [] w (subst (AllByRecursion (λ (l : Signed). LiteralFits spec (var_sorts c) l.literal)) (sym (append-nil (map (signed true) c.conclusion))) premise.1) in
    record { premise = premise.0; conclusion = conclusion.0 }
