-- What an instance needs on the literals of marked clauses fits the setup.
use Rattle.std.proofs.Common.{◌≡◌, ℕ, Bool, true, not, List, [], ◌∷◌, ◌++◌, map, refl, sym, subst}
use Rattle.std.specs.Prelude.{◌||◌}
use Rattle.std.specs.List.{AllByRecursion}
use Rattle.std.proofs.lemmas.Bool.{cond_both}
use Rattle.spec_model.specs.declared.clause.Literal.{Literal}
use Rattle.spec_model.specs.declared.clause.Literal.TheVariants.{Atom, Equal}
use Rattle.spec_model.specs.declared.instance.Inst.{Inst}
use Rattle.spec_model.specs.declared.plan.Setup.{Setup}
use Rattle.spec_model.specs.declared.right.Right.TheVariants as right
use Rattle.spec_model.specs.declared.spec.Spec.{Spec}
use Rattle.spec_model.specs.AllRights.{is_atom}
use Rattle.spec_model.specs.Breaks.{laid_over}
use Rattle.spec_model.specs.Masks.{allow_need, atom_falsified, atom_true, clause_needs, falsified_places, falsifies, instance_needs, instances_of, is_falsified, is_given, mask_needs, places_from, true_places, witness_need}
use Rattle.spec_model.specs.Truths.{Signed, Truths, clause_in, literals}
use Rattle.run_model.specs.Fitting.{NeedFits, RightFits}
use Rattle.run_model.specs.Levels.{at_literal}
use Rattle.run_model.proofs.Lists.{each_append}
use Rattle.run_model.proofs.Members.{In}
use Rattle.run_model.proofs.Witnessed.{place_at, place_passes}
use Rattle.message_laws.proofs.Listed.{each_flat_map, each_in, each_map}
use Rattle.message_laws.proofs.Sections.{entry_there}

-- a literal that is made false, or is true without an equality, is an atom
falsified_atom : (spec : Spec) (inst : Inst) (xs : List ℕ) (sign : Bool) (l : Literal) → atom_falsified spec inst xs sign l ≡ true → is_atom l ≡ true
falsified_atom spec inst xs sign (Atom p vars) h = refl
falsified_atom spec inst xs sign (Equal l r) h = absurd cc

true_atom : (s : Truths) (xs : List ℕ) (sign : Bool) (l : Literal) → atom_true s xs sign l ≡ true → is_atom l ≡ true
true_atom s xs sign (Atom p vars) h = refl
true_atom s xs sign (Equal l r) h = absurd cc

-- a place by a test is one by a weaker test
weaker_place : (test other : Signed → Bool) (ls : List Signed) (n : ℕ) → ((l : Signed) → test l ≡ true → other l ≡ true) → In (places_from test 0 ls) n → In (places_from other 0 ls) n
weaker_place test other ls n so there =
    let p = place_at test 0 ls n there in
    subst (In (places_from other 0 ls)) (sym p.is) (place_passes other 0 ls p.k p.literal p.at (so p.literal p.passes))

-- the witness is on rights that there are, where its literals are
witness_fits : (setup : Setup) (i : ℕ) (xs ns : List ℕ) → ((n : ℕ) → In ns n → RightFits setup (right.Entry i xs n)) → AllByRecursion (NeedFits setup) (witness_need i xs ns)
witness_fits setup i xs [] h = tt
witness_fits setup i xs (n ∷ ns) h = (record { of = h n (0, refl); much = (refl, each_in (λ m. RightFits setup (at_literal (right.Entry i xs n) m)) (n ∷ ns) h) }, tt)

-- of one instance of a marked clause
instance_fits : (setup : Setup) (inst : Inst) (s : Truths) (i : ℕ) (xs : List ℕ) → In setup.plan.masks i → In (instances_of setup.spec i) xs → AllByRecursion (NeedFits setup) (instance_needs setup.spec inst s i (clause_in setup.spec i) xs)
instance_fits setup inst s i xs marked instance =
    let spec = setup.spec in
    let c = clause_in spec i in
    let after = laid_over spec inst s in
    let atom = λ (l : Signed). is_atom l.literal in
    let allows = map (allow_need i xs) (falsified_places spec inst xs c) in
    let witness = witness_need i xs (true_places after xs c) in
    cond_both (is_given xs c || not (falsifies spec inst xs c)) [] (allows ++ witness) (AllByRecursion (NeedFits setup)) (λ none. tt)
    (λ some. each_append (NeedFits setup) allows witness
    (each_map (NeedFits setup) (allow_need i xs) (falsified_places spec inst xs c) (λ n there. record {
      of = entry_there setup i xs n marked instance (weaker_place (is_falsified spec inst xs) atom (literals c) n (λ l h. falsified_atom spec inst xs l.sign l.literal h) there);
      much = refl;
    }))
    (witness_fits setup i xs (true_places after xs c) (λ n there.
    entry_there setup i xs n marked instance (weaker_place (λ l. atom_true after xs l.sign l.literal) atom (literals c) n (λ l h. true_atom after xs l.sign l.literal h) there))))

-- over all instances of all marked clauses
pub masks_fit : (setup : Setup) (inst : Inst) (s : Truths) → AllByRecursion (NeedFits setup) (mask_needs setup.spec setup.plan.masks inst s)
masks_fit setup inst s =
    each_flat_map (NeedFits setup) (clause_needs setup.spec inst s) setup.plan.masks
    (λ i marked. each_flat_map (NeedFits setup) (instance_needs setup.spec inst s i (clause_in setup.spec i)) (instances_of setup.spec i)
    (λ xs instance. instance_fits setup inst s i xs marked instance))
