-- When all links are made, each replica has its passes, and nothing passed.
use Rattle.std.proofs.Common.{◌≡◌, ℕ, ◌+◌, ◌*◌, ◌<◌, zero, suc, List, [], ◌∷◌, length, slice_get, Some, refl, sym, ap, ◌∙◌, subst, arith}
use Rattle.std.specs.List.{AllByRecursion, sum_by}
use Rattle.std.specs.Option.{option_map_or}
use Rattle.std.proofs.lemmas.List.Sums.{sum_by-cons}
use Rattle.std.proofs.lemmas.Option.{same_Some, slice_get_within}
use Rattle.replica_links.specs.declared.link.Link.{Link}
use Rattle.replica_links.specs.declared.pass.PutPass.{PutPass}
use Rattle.replica_links.specs.declared.pass.GetPass.{GetPass}
use Rattle.replica_links.specs.Passes.{IsPutOf, IsGetOf, put_of, taken_of, idle_of}
use Rattle.replica_wires.specs.declared.letter.Letter.{Letter}
use Rattle.replica_wires.specs.declared.passes.Passes.{Passes}
use Rattle.replica_wires.specs.declared.begun.Begun.{Begun}
use Rattle.replica_wires.specs.declared.web.Web.{Web}
use Rattle.replica_wires.specs.Beginning.{IsBegun, gets_at, puts_at}
use Rattle.replica_wires.specs.Letters.{all_addressed}
use Rattle.replica_wires.specs.Passing.{AreUnused, ArePassesOf, HaveTheirs}

none_listed : {X Y : Type 0} (f : X → List Y) (xs : List X) (k : ℕ) → ((x : X) → slice_get xs k ≡ Some x → f x ≡ []) → option_map_or f (slice_get xs k) [] ≡ []
none_listed f [] k h = refl
none_listed f (x ∷ xs) zero h = h x refl
none_listed f (x ∷ xs) (suc k) h = none_listed f xs k h

none_summed : {X : Type 0} (f : X → ℕ) (xs : List X) → ((k : ℕ) (x : X) → slice_get xs k ≡ Some x → f x ≡ 0) → sum_by f xs ≡ 0
none_summed f [] h = refl
none_summed f (x ∷ xs) h = omega (arith, sum_by-cons f x xs, h 0 x refl, none_summed f xs (λ k. h (suc k)))

each_of : {X : Type 0} (F : X → Type 0) (xs : List X) → ((k : ℕ) (x : X) → slice_get xs k ≡ Some x → F x) → AllByRecursion F xs
each_of F [] h = tt
each_of F (x ∷ xs) h = (h 0 x refl, each_of F xs (λ k. h (suc k)))

module _ (rooms : List ℕ) (n i : ℕ) (b : Begun) (ended : i ≡ n) (begun : IsBegun rooms n i 0 b) where
  is : IsBegun rooms n n 0 b
  is = subst (λ k. IsBegun rooms n k 0 b) ended begun

  puts_are : (me : ℕ) (passes : Passes) → slice_get b.all.items me ≡ Some passes → puts_at b.all.items me ≡ passes.puts.items
  puts_are me passes there = ap (λ o. option_map_or (λ (p : Passes). p.puts.items) o []) there

  gets_are : (me : ℕ) (passes : Passes) → slice_get b.all.items me ≡ Some passes → gets_at b.all.items me ≡ passes.gets.items
  gets_are me passes there = ap (λ o. option_map_or (λ (p : Passes). p.gets.items) o []) there

  are_of : (web : Web) → web.replicas ≡ n → web.links.items ≡ b.links.items → (me : ℕ) (passes : Passes) → slice_get b.all.items me ≡ Some passes → ArePassesOf web me passes
  are_of web size links me passes there =
      let place : me < n = omega (arith, slice_get_within b.all.items me passes there, is.whole) in
      record {
        place = omega (arith, place, size);
        puts_whole = ap length (sym (puts_are me passes there)) ∙ is.rows me place ∙ sym size;
        gets_whole = ap length (sym (gets_are me passes there)) ∙ is.unreached me place (omega arith) ∙ sym size;
        puts = λ to pass link at has.
            let first = is.put me to pass (ap (λ (l : List (PutPass Letter)). slice_get l to) (puts_are me passes there) ∙ at) in
            subst (λ (l : Link Letter). IsPutOf l pass)
            (same_Some first.link link (sym first.there ∙ ap (λ (l : List (Link Letter)). slice_get l (me * n + to)) (sym links) ∙ ap (λ k. slice_get web.links.items (me * k + to)) (sym size) ∙ has)) first.own;
        gets = λ from pass link at has.
            let first = is.get me from pass (ap (λ (l : List (GetPass Letter)). slice_get l from) (gets_are me passes there) ∙ at) in
            subst (λ (l : Link Letter). IsGetOf l pass)
            (same_Some first.link link (sym first.there ∙ ap (λ (l : List (Link Letter)). slice_get l (from * n + me)) (sym links) ∙ ap (λ k. slice_get web.links.items (from * k + me)) (sym size) ∙ has)) first.own;
      }

  pub have_theirs : (web : Web) (all : List Passes) → web.replicas ≡ n → web.links.items ≡ b.links.items → all ≡ b.all.items → HaveTheirs web all
  have_theirs web all size links same = subst (HaveTheirs web) (sym same) (record { whole = is.whole ∙ sym size; each = are_of web size links })

  are_unused : (me : ℕ) (passes : Passes) → slice_get b.all.items me ≡ Some passes → AreUnused passes
  are_unused me passes there = record {
    put = λ by to. none_listed (λ (p : PutPass Letter). all_addressed by to (put_of p)) passes.puts.items to
        (λ pass at. ap (all_addressed by to) (is.put me to pass (ap (λ (l : List (PutPass Letter)). slice_get l to) (puts_are me passes there) ∙ at)).fresh);
    got = λ by from. none_listed (λ (p : GetPass Letter). all_addressed from by (taken_of p)) passes.gets.items from
        (λ pass at. ap (all_addressed from by) (is.get me from pass (ap (λ (l : List (GetPass Letter)). slice_get l from) (gets_are me passes there) ∙ at)).fresh);
    idle = none_summed (λ (p : GetPass Letter). idle_of p) passes.gets.items
        (λ k pass at. (is.get me k pass (ap (λ (l : List (GetPass Letter)). slice_get l k) (gets_are me passes there) ∙ at)).idle);
  }

  pub all_unused : (all : List Passes) → all ≡ b.all.items → AllByRecursion AreUnused all
  all_unused all same = subst (AllByRecursion AreUnused) (sym same) (each_of AreUnused b.all.items are_unused)
