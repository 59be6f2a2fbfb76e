-- A new link keeps its rule, and so does each put and each get; what they tell.
use Rattle.std.proofs.Common.{◌≡◌, ◌≢◌, ℕ, true, List, [], ◌∷◌, ◌++◌, length, sym, refl, ap, ◌∙◌, subst, append_assoc, length-append, arith}
use mathlib.Core.List.{IsPrefix}
use mathlib.Core.Option.{some, some-ne-none}
use lib.ListN.{get_elem?}
use Rattle.crossbeam_queue.specs.Fifo.{Pushes, Pops, Learns}
use Rattle.replica_links.specs.declared.pass.View.{View}
use Rattle.replica_links.specs.Rule.{Fits, IsInOrder}
use Rattle.replica_links.specs.Views.{newcomer, putting, taking, taking_left, HoldsAtMost, HoldsTheRest, HoldsJustTheRest, TookWhatWasPut}
use Rattle.replica_links.proofs.Lists.{prefix_same, prefix_longer, prefix_length, at_end, each_set}

module _ {M : Type 0} where
  pub begins : IsInOrder {M = M} [] (newcomer ∷ [])
  begins = record {
    putter = 0;
    getter = 0;
    put = [];
    taken = [];
    order = refl;
    each = each_set (Fits 0 0 [] []) (newcomer ∷ []) 0 newcomer (record {
      knows_put = ([], refl);
      knows_taken = ([], refl);
      puts = λ _. (refl, refl);
      gets = λ _. (refl, refl);
    }) (λ j u other there. absurd (other (at_end [] newcomer u j (λ x. some-ne-none u (sym x)) there)));
  }

  pub puts : (n number : ℕ) (v : View M) (x : M) → v.puts ≡ true → Pushes IsInOrder n number v x (putting v x)
  puts n number v x may items views _ h at =
      let w : View M = record v { put = v.put ++ x ∷ [] } in
      let mine = h.each number v at in let here = mine.puts may in
      let put : List M = h.put ++ x ∷ [] in
      let same : w.put ≡ put = ap (λ (l : List M). l ++ x ∷ []) here.1 in
      let w_fits : Fits h.putter h.getter put h.taken number w = record {
        knows_put = prefix_same w.put put same;
        knows_taken = mine.knows_taken;
        puts = λ _. (here.0, same);
        gets = mine.gets;
      } in
      let others_fit : (j : ℕ) (u : View M) → j ≢ number → get_elem? views j ≡ some u → Fits h.putter h.getter put h.taken j u =
      λ j u other there. let old = h.each j u there in record {
        knows_put = prefix_longer u.put h.put (x ∷ []) old.knows_put;
        knows_taken = old.knows_taken;
        puts = λ yes. absurd (other ((old.puts yes).0 ∙ sym here.0));
        gets = old.gets;
      } in (
        w,
        record {
          putter = h.putter;
          getter = h.getter;
          put = put;
          taken = h.taken;
          order = ap (λ (l : List M). l ++ x ∷ []) h.order ∙ append_assoc h.taken items (x ∷ []);
          each = each_set (Fits h.putter h.getter put h.taken) views number w w_fits others_fit;
        },
        refl,
      )

  -- a pass that takes x, and tells what is true of it
  takes_so : (number : ℕ) (v : View M) (then : M → View M → Type 0) → v.gets ≡ true
      → ((x : M) (items : List M) (views : List (View M)) → IsInOrder (x ∷ items) views → get_elem? views number ≡ some v → then x (record v { taken = v.taken ++ x ∷ [] }))
      → Pops IsInOrder number v then
  takes_so number v then may tells x items views h at =
      let w : View M = record v { taken = v.taken ++ x ∷ [] } in
      let mine = h.each number v at in let here = mine.gets may in
      let taken : List M = h.taken ++ x ∷ [] in
      let same : w.taken ≡ taken = ap (λ (l : List M). l ++ x ∷ []) here.1 in
      let w_fits : Fits h.putter h.getter h.put taken number w = record {
        knows_put = mine.knows_put;
        knows_taken = prefix_same w.taken taken same;
        puts = mine.puts;
        gets = λ _. (here.0, same);
      } in
      let others_fit : (j : ℕ) (u : View M) → j ≢ number → get_elem? views j ≡ some u → Fits h.putter h.getter h.put taken j u =
      λ j u other there. let old = h.each j u there in record {
        knows_put = old.knows_put;
        knows_taken = prefix_longer u.taken h.taken (x ∷ []) old.knows_taken;
        puts = old.puts;
        gets = λ yes. absurd (other ((old.gets yes).0 ∙ sym here.0));
      } in (
        w,
        record {
          putter = h.putter;
          getter = h.getter;
          put = h.put;
          taken = taken;
          order = h.order ∙ sym (append_assoc h.taken (x ∷ []) items);
          each = each_set (Fits h.putter h.getter h.put taken) views number w w_fits others_fit;
        },
        tells x items views h at,
      )

  pub takes : (number : ℕ) (v : View M) → v.gets ≡ true → Pops IsInOrder number v (taking v)
  takes number v may = takes_so number v (taking v) may (λ x items views h at. refl)

  pub takes_left : (number : ℕ) (v : View M) → v.puts ≡ true → v.gets ≡ true → Pops IsInOrder number v (taking_left v)
  takes_left number v a b = takes_so number v (taking_left v) b (λ x items views h at.
      let mine = h.each number v at in
      let whole : v.taken ++ x ∷ items ≡ v.put = ap (λ (l : List M). l ++ x ∷ items) (mine.gets b).1 ∙ sym h.order ∙ sym (mine.puts a).1 in
      (refl, (items, append_assoc v.taken (x ∷ []) items ∙ whole)))

  -- what the link holds was put with the pass that puts
  pub holds_at_most : (number : ℕ) (v : View M) → v.puts ≡ true → Learns IsInOrder number v (HoldsAtMost v)
  holds_at_most number v may items views h at =
      let mine = h.each number v at in
      omega (arith, ap length ((mine.puts may).1 ∙ h.order), length-append h.taken items, prefix_length v.taken h.taken mine.knows_taken)

  pub holds_the_rest : (number : ℕ) (v : View M) → v.gets ≡ true → Learns IsInOrder number v (HoldsTheRest v)
  holds_the_rest number v may items views h at =
      let mine = h.each number v at in
      subst (IsPrefix v.put) (h.order ∙ ap (λ (l : List M). l ++ items) (sym (mine.gets may).1)) mine.knows_put

  pub holds_just_the_rest : (number : ℕ) (v : View M) → v.puts ≡ true → v.gets ≡ true → Learns IsInOrder number v (HoldsJustTheRest v)
  holds_just_the_rest number v a b items views h at =
      let mine = h.each number v at in (mine.puts a).1 ∙ h.order ∙ ap (λ (l : List M). l ++ items) (sym (mine.gets b).1)

  pub took_what_was_put : (number : ℕ) (v : View M) → v.puts ≡ true → Learns IsInOrder number v (TookWhatWasPut v)
  took_what_was_put number v may items views h at =
      let mine = h.each number v at in
      subst (IsPrefix v.taken) (sym h.order ∙ sym (mine.puts may).1) (prefix_longer v.taken h.taken items mine.knows_taken)
