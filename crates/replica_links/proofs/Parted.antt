-- A new pass of a link keeps its rule.
use Rattle.std.proofs.Common.{◌≡◌, ◌≢◌, ℕ, true, false, true≢false, List, [], ◌∷◌, ◌++◌, length, set, sym, refl, ap, ◌∙◌, subst, ⊎_elim}
use mathlib.Core.List.{IsPrefix}
use mathlib.Core.Option.{some}
use lib.ListN.{get_elem?}
use Rattle.atomic_table.proofs.Lists.{at_snoc}
use Rattle.crossbeam_queue.specs.Fifo.{Forks}
use Rattle.replica_links.specs.declared.pass.View.{View}
use Rattle.replica_links.specs.Rule.{Fits, IsInOrder}
use Rattle.replica_links.specs.Views.{nobody, putter, getter, witness, once_more_idle}
use Rattle.replica_links.proofs.Lists.{at_end, Each, each_set}

module _ {M : Type 0} where
  -- a pass with no end that knows what is true
  knowing : (p g : ℕ) (put taken : List M) (v : View M) → v.puts ≡ false → v.gets ≡ false → IsPrefix v.put put → IsPrefix v.taken taken
      → (number : ℕ) → Fits p g put taken number v
  knowing p g put taken v no_put no_get a b number = record {
    knows_put = a;
    knows_taken = b;
    puts = λ yes. absurd (true≢false (sym yes ∙ no_put));
    gets = λ yes. absurd (true≢false (sym yes ∙ no_get));
  }

  pub nobody_fits : (p g : ℕ) (put taken : List M) (number : ℕ) → Fits p g put taken number nobody
  nobody_fits p g put taken number = knowing p g put taken nobody refl refl (put, refl) (taken, refl) number

  pub parts_ends : (number : ℕ) (v : View M) → v.puts ≡ true → v.gets ≡ true → Forks IsInOrder number v (putter v) (getter v)
  parts_ends number v a b items views h at =
      let left : View M = putter v in let right : View M = getter v in
      let mine = h.each number v at in
      let vs : List (View M) = set views number left in
      let Left : ℕ → View M → Type 0 = λ j u. Fits h.putter (length vs) h.put h.taken j u × (u.gets ≢ true) in
      let left_fits : Left number left = (
        record {
          knows_put = mine.knows_put;
          knows_taken = mine.knows_taken;
          puts = mine.puts;
          gets = λ yes. absurd (true≢false (sym yes));
        },
        λ yes. true≢false (sym yes),
      ) in
      let none_gets : (j : ℕ) (u : View M) → j ≢ number → get_elem? views j ≡ some u → u.gets ≢ true =
      λ j u other there yes. other (((h.each j u there).gets yes).0 ∙ sym (mine.gets b).0) in
      let others_fit : (j : ℕ) (u : View M) → j ≢ number → get_elem? views j ≡ some u → Left j u =
      λ j u other there. let old = h.each j u there in (
        record {
          knows_put = old.knows_put;
          knows_taken = old.knows_taken;
          puts = old.puts;
          gets = λ yes. absurd (none_gets j u other there yes);
        },
        none_gets j u other there,
      ) in
      let left_all : Each Left vs = each_set Left views number left left_fits others_fit in
      let right_fits : (j : ℕ) → get_elem? (vs ++ right ∷ []) j ≡ some right → Fits h.putter (length vs) h.put h.taken j right =
      λ j there. record {
        knows_put = mine.knows_put;
        knows_taken = mine.knows_taken;
        puts = λ yes. absurd (true≢false (sym yes));
        gets = λ _. (at_end vs right right j (λ x. (left_all j right x).1 b) there, (mine.gets b).1);
      } in
      record {
        putter = h.putter;
        getter = length vs;
        put = h.put;
        taken = h.taken;
        order = h.order;
        each = λ j u there. ⊎_elim (λ x. (left_all j u x).0)
            (λ (same : right ≡ u). subst (Fits h.putter (length vs) h.put h.taken j) same (right_fits j (there ∙ ap some (sym same)))) (at_snoc vs right u j there);
      }

  -- a new pass without an end, beside a pass whose ends stay
  parts_so : (number : ℕ) (v left right : View M)
      → ((p g : ℕ) (put taken : List M) → Fits p g put taken number v → Fits p g put taken number left)
      → ((p g : ℕ) (put taken : List M) → Fits p g put taken number v → (j : ℕ) → Fits p g put taken j right)
      → Forks IsInOrder number v left right
  parts_so number v left right left_fits right_fits items views h at =
      let F : ℕ → View M → Type 0 = Fits h.putter h.getter h.put h.taken in
      let mine = h.each number v at in
      let vs : List (View M) = set views number left in
      let left_all : Each F vs = each_set F views number left (left_fits h.putter h.getter h.put h.taken mine) (λ j u other there. h.each j u there) in
      record {
        putter = h.putter;
        getter = h.getter;
        put = h.put;
        taken = h.taken;
        order = h.order;
        each = λ j u there. ⊎_elim (λ x. left_all j u x)
            (λ (same : right ≡ u). subst (F j) same (right_fits h.putter h.getter h.put h.taken mine j)) (at_snoc vs right u j there);
      }

  pub tells : (number : ℕ) (v : View M) → Forks IsInOrder number v v (witness v)
  tells number v = parts_so number v v (witness v) (λ p g put taken old. old)
      (λ p g put taken old j. knowing p g put taken (witness v) refl refl old.knows_put old.knows_taken j)

  pub counts_idle : (number : ℕ) (v : View M) → Forks IsInOrder number v (once_more_idle v) nobody
  counts_idle number v = parts_so number v (once_more_idle v) nobody
      (λ p g put taken old. record { knows_put = old.knows_put; knows_taken = old.knows_taken; puts = old.puts; gets = old.gets })
      (λ p g put taken old j. nobody_fits p g put taken j)
