-- A pass of a link takes another one in, and the rule is kept.
use Rattle.std.proofs.Common.{◌≡◌, ◌≢◌, ℕ, true, true≢false, List, set, sym, refl, ◌∙◌, ⊎_elim}
use mathlib.Core.Option.{some}
use lib.ListN.{get_elem?}
use Rattle.atomic_table.proofs.Lists.{at_set}
use Rattle.crossbeam_queue.specs.Fifo.{Merges}
use Rattle.replica_links.specs.declared.pass.View.{View}
use Rattle.replica_links.specs.Rule.{Fits, IsInOrder}
use Rattle.replica_links.specs.Views.{nobody, with_both, hearing_put, hearing_taken, IsPutter, IsGetter}
use Rattle.replica_links.proofs.Lists.{Each, each_set}
use Rattle.replica_links.proofs.Parted.{nobody_fits}

module _ {M : Type 0} where
  -- a pass that takes another one in; g is where messages are taken then
  joins_so : (number other : ℕ) (v u both : View M) (g : ℕ → ℕ)
      → ((p c : ℕ) (put taken : List M) → Fits p c put taken number v → Fits p c put taken other u → Fits p (g c) put taken number both)
      → ((p c : ℕ) (put taken : List M) (j : ℕ) (z : View M) → Fits p c put taken other u → j ≢ other → Fits p c put taken j z → Fits p (g c) put taken j z)
      → Merges IsInOrder number v other u both nobody
  joins_so number other v u both g both_fits others_fit items views h at apart there =
      let F : ℕ → View M → Type 0 = Fits h.putter (g h.getter) h.put h.taken in
      let mine = h.each number v at in
      let vs : List (View M) = set views number both in
      let was : get_elem? views other ≡ some u = ⊎_elim (λ x. absurd (apart x.0)) (λ x. x.1) (at_set views number other both u there) in
      let theirs = h.each other u was in
      let Apart : ℕ → View M → Type 0 = λ j z. j ≢ other → F j z in
      let vs_fit : Each Apart vs = each_set Apart views number both (λ _. both_fits h.putter h.getter h.put h.taken mine theirs)
      (λ j z _ in_it not_other. others_fit h.putter h.getter h.put h.taken j z theirs not_other (h.each j z in_it)) in
      record {
        putter = h.putter;
        getter = g h.getter;
        put = h.put;
        taken = h.taken;
        order = h.order;
        each = each_set F vs other nobody (nobody_fits h.putter (g h.getter) h.put h.taken other) (λ j z not_other in_it. vs_fit j z in_it not_other);
      }

  pub joins_ends : (number other : ℕ) (v u : View M) → v.puts ≡ true → u.gets ≡ true → Merges IsInOrder number v other u (with_both v u) nobody
  joins_ends number other v u a b = joins_so number other v u (with_both v u) (λ _. number)
      (λ p c put taken mine theirs. record {
        knows_put = mine.knows_put;
        knows_taken = theirs.knows_taken;
        puts = λ _. mine.puts a;
        gets = λ _. (refl, (theirs.gets b).1);
      })
      (λ p c put taken j z theirs not_other old. record {
        knows_put = old.knows_put;
        knows_taken = old.knows_taken;
        puts = old.puts;
        gets = λ yes. absurd (not_other ((old.gets yes).0 ∙ sym (theirs.gets b).0));
      })

  pub hears_put : (number other : ℕ) (v u : View M) → IsGetter v → Merges IsInOrder number v other u (hearing_put v u) nobody
  hears_put number other v u ends = joins_so number other v u (hearing_put v u) (λ c. c)
      (λ p c put taken mine theirs. record {
        knows_put = theirs.knows_put;
        knows_taken = mine.knows_taken;
        puts = λ yes. absurd (true≢false (sym yes ∙ ends.0));
        gets = mine.gets;
      }) (λ p c put taken j z theirs not_other old. old)

  pub hears_taken : (number other : ℕ) (v u : View M) → IsPutter v → Merges IsInOrder number v other u (hearing_taken v u) nobody
  hears_taken number other v u ends = joins_so number other v u (hearing_taken v u) (λ c. c)
      (λ p c put taken mine theirs. record {
        knows_put = mine.knows_put;
        knows_taken = theirs.knows_taken;
        puts = mine.puts;
        gets = λ yes. absurd (true≢false (sym yes ∙ ends.1));
      }) (λ p c put taken j z theirs not_other old. old)
