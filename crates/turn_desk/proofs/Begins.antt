-- The table as it is made.
use Rattle.std.proofs.Common.{◌≡◌, ◌<◌, ◌≤◌, ◌^◌, ℕ, zero, suc, true≢false, List, [], ◌∷◌, sym, refl, ap, arith, subst, inl, Some, Option}
use Rattle.std.proofs.lemmas.Bool.Decides.{nat_tests}
use mathlib.Core.Option.{some, some-injective, some-ne-none}
use lib.ListN.{get_elem?}
use Rattle.atomic_table.specs.Table.{opening as at_start}
use Rattle.turn_desk.specs.declared.pass.Key.{Key}
use Rattle.turn_desk.specs.declared.pass.View.{View}
use Rattle.turn_desk.specs.declared.turn.Turn.{Ghosts}
use Rattle.turn_desk.specs.Rule.{Fits, once_below}
use Rattle.turn_desk.specs.Views.{newcomer}
use Rattle.turn_desk.proofs.Kept.{Kept, first_of}
use Rattle.turn_desk.proofs.Options.{none_is_no}

never_below : (p : ℕ) → 0 ≡ once_below p 0
never_below p = grind (arith, nat_tests)

the_one : {X : Type 0} (x y : X) (j : ℕ) → get_elem? (x ∷ []) j ≡ some y → x ≡ y
the_one x y zero e = some-injective x y e
the_one x y (suc j) e = absurd (some-ne-none y (sym e))

module _ {V A B O : Type 0} (g : Ghosts V A B O) (key : Key V) where
  pub beginning : (x : V) (slots : List (Option V)) → slots ≡ Some x ∷ [] → x ≡ key.first.value → g.history x ≡ []
      → key.parts < 2 ^ 32 → key.parts ≤ g.room (first_of g key)
      → Kept g key (at_start (0 ∷ 0 ∷ []) slots (newcomer key.parts (first_of g key)))
  beginning x slots filled same empty small fits =
      let first : View A B O = newcomer key.parts (first_of g key) in
      subst (λ (xs : List (Option V)). Kept g key (at_start (0 ∷ 0 ∷ []) xs first)) (sym filled) (record {
        line = [];
        words = refl;
        parts = omega arith;
        small = (small, fits);
        turns = refl;
        once = never_below;
        each = λ j u there. subst (Fits (first_of g key) []) (the_one first u j there) (record {
          opens = λ _. refl;
          seen = ([], refl);
          beside = ([], refl);
          waits = λ t is. absurd (none_is_no t is);
          served_now = λ yes. absurd (true≢false (sym yes));
          room = omega arith;
        });
        value = inl (x, refl, empty, ap g.opening same, λ j u there. ap (λ (z : View A B O). z.serves) (sym (the_one first u j there)));
      })
