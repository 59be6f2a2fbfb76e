-- Links and passes that are made, link by link.
use Rattle.std.proofs.Common.{◌≡◌, ◌≢◌, ℕ, ◌+◌, ◌*◌, ◌<◌, List, [], ◌∷◌, ◌++◌, length, length-append, length-set, set, get_or, slice_get, slice_index, Some, sym, ap, ◌∙◌, subst, ⊎_elim, arith}
use Rattle.std.proofs.lemmas.Bool.{cases_eq}
use Rattle.replica_links.specs.declared.link.Link.{Link}
use Rattle.replica_links.specs.declared.pass.PutPass.{PutPass}
use Rattle.replica_links.specs.declared.pass.GetPass.{GetPass}
use Rattle.replica_links.specs.Passes.{room_of}
use Rattle.replica_wires.specs.declared.letter.Letter.{Letter}
use Rattle.replica_wires.specs.declared.passes.Passes.{Passes}
use Rattle.replica_wires.specs.declared.begun.Begun.{Begun}
use Rattle.replica_wires.specs.Beginning.{AddsLink, GetsFirst, IsBegun, PutsFirst, gets_at, puts_at}
use Rattle.replica_wires.proofs.Rows.{here, there, none_more, at_snoc, still_there, at_last}

-- ---- one pass put into its row

abbrev pub puts_in : ℕ → Passes → List (PutPass Letter)
puts_in a passes = passes.puts.items

abbrev pub gets_in : ℕ → Passes → List (GetPass Letter)
gets_in a passes = passes.gets.items

-- two places change: of the first the puts, of the second the gets
module _ (xs : List Passes) (i j : ℕ) (p p' q q' : Passes) (in_i : i < length xs) (in_j : j < length xs) (at_i : p ≡ get_or xs i p) (at_j : q ≡ get_or (set xs i p') j q) where
  within : j < length (set xs i p')
  within = omega (arith, length-set xs i p', in_j)

  pub puts_here : (h : List (PutPass Letter) → List (PutPass Letter)) → p'.puts.items ≡ h p.puts.items → q'.puts.items ≡ q.puts.items → puts_at (set (set xs i p') j q') i ≡ h (puts_at xs i)
  puts_here h is same = none_more puts_in (set xs i p') j q q' within at_j same i ∙ here puts_in xs i p p' h in_i at_i is

  pub puts_there : q'.puts.items ≡ q.puts.items → (a : ℕ) → a ≢ i → puts_at (set (set xs i p') j q') a ≡ puts_at xs a
  puts_there same a other = none_more puts_in (set xs i p') j q q' within at_j same a ∙ there puts_in xs i p' a other

  pub gets_here : (h : List (GetPass Letter) → List (GetPass Letter)) → p'.gets.items ≡ p.gets.items → q'.gets.items ≡ h q.gets.items → gets_at (set (set xs i p') j q') j ≡ h (gets_at xs j)
  gets_here h same is = here gets_in (set xs i p') j q q' h within at_j is ∙ ap h (none_more gets_in xs i p p' in_i at_i same j)

  pub gets_there : p'.gets.items ≡ p.gets.items → (a : ℕ) → a ≢ j → gets_at (set (set xs i p') j q') a ≡ gets_at xs a
  gets_there same a other = there gets_in (set xs i p') j q' a other ∙ none_more gets_in xs i p p' in_i at_i same a

-- ---- one link more

puts_still : (links more : List (Link Letter)) (at : ℕ) (pass : PutPass Letter) → PutsFirst links at pass → PutsFirst (links ++ more) at pass
puts_still links more at pass is = record { link = is.link; there = still_there links more at is.link is.there; own = is.own; fresh = is.fresh }

gets_still : (links more : List (Link Letter)) (at : ℕ) (pass : GetPass Letter) → GetsFirst links at pass → GetsFirst (links ++ more) at pass
gets_still links more at pass is = record { link = is.link; there = still_there links more at is.link is.there; own = is.own; fresh = is.fresh; idle = is.idle }

pub link_more : (rooms : List ℕ) (n i j : ℕ) (old new : Begun) → j < n → IsBegun rooms n i j old → AddsLink i j (slice_index rooms (i * n + j)) old new → IsBegun rooms n i (j + 1) new
link_more rooms n i j old new within was h =
    let links : List (Link Letter) = old.links.items in
    let all = old.all.items in
    let here_is : slice_get (links ++ h.link ∷ []) (i * n + j) ≡ Some h.link = subst (λ k. slice_get (links ++ h.link ∷ []) k ≡ Some h.link) was.count (at_last links h.link) in
    record {
      count = omega (arith, ap length h.links, length-append links (h.link ∷ []), was.count);
      has_rooms = λ k link there.
          ⊎_elim (λ before. was.has_rooms k link before)
          (λ (last : (k ≡ length links) × (h.link ≡ link)). ap (λ (l : Link Letter). room_of l) (sym last.1) ∙ h.room_is ∙ ap (slice_index rooms) (sym was.count ∙ sym last.0))
          (at_snoc links h.link link k (ap (λ (l : List (Link Letter)). slice_get l k) (sym h.links) ∙ there));
      whole = h.whole ∙ was.whole;
      rows = λ a lt. ap length (h.other_puts a (λ same. absurd (omega (arith, same, lt)))) ∙ was.rows a lt;
      row = omega (arith, ap length h.puts, length-append (puts_at all i) (h.put ∷ []), was.row);
      later = λ a lt. ap length (h.other_puts a (λ same. absurd (omega (arith, same, lt)))) ∙ was.later a lt;
      reached = λ a lt.
          ⊎_elim
          (λ (same : a ≡ j). subst (λ b. length (gets_at new.all.items b) ≡ i + 1) (sym same) (omega (arith, ap length h.gets, length-append (gets_at all j) (h.get ∷ []), was.unreached j within (omega arith))))
          (λ (other : a ≢ j). ap length (h.other_gets a other) ∙ was.reached a (omega (arith, lt, other))) (cases_eq a j);
      unreached = λ a few past. ap length (h.other_gets a (λ same. absurd (omega (arith, same, past)))) ∙ was.unreached a few (omega (arith, past));
      put = λ a k pass there. subst (λ (l : List (Link Letter)). PutsFirst l (a * n + k) pass) (sym h.links)
          (⊎_elim
          (λ (same : a ≡ i).
          ⊎_elim (λ before. puts_still links (h.link ∷ []) (a * n + k) pass (was.put a k pass (subst (λ b. slice_get (puts_at all b) k ≡ Some pass) (sym same) before)))
          (λ (last : (k ≡ length (puts_at all i)) × (h.put ≡ pass)).
          subst (PutsFirst (links ++ h.link ∷ []) (a * n + k)) last.1
          (record { link = h.link; there = subst (λ m. slice_get (links ++ h.link ∷ []) m ≡ Some h.link) (sym (ap (λ b. b * n + k) same ∙ ap (λ b. i * n + b) (last.0 ∙ was.row))) here_is; own = h.put_own; fresh = h.put_fresh }))
          (at_snoc (puts_at all i) h.put pass k (ap (λ (l : List (PutPass Letter)). slice_get l k) (sym h.puts) ∙ ap (λ b. slice_get (puts_at new.all.items b) k) (sym same) ∙ there)))
          (λ (other : a ≢ i). puts_still links (h.link ∷ []) (a * n + k) pass (was.put a k pass (ap (λ (l : List (PutPass Letter)). slice_get l k) (sym (h.other_puts a other)) ∙ there)))
          (cases_eq a i));
      get = λ a k pass there. subst (λ (l : List (Link Letter)). GetsFirst l (k * n + a) pass) (sym h.links)
          (⊎_elim
          (λ (same : a ≡ j).
          ⊎_elim (λ before. gets_still links (h.link ∷ []) (k * n + a) pass (was.get a k pass (subst (λ b. slice_get (gets_at all b) k ≡ Some pass) (sym same) before)))
          (λ (last : (k ≡ length (gets_at all j)) × (h.get ≡ pass)).
          subst (GetsFirst (links ++ h.link ∷ []) (k * n + a)) last.1
          (record { link = h.link; there = subst (λ m. slice_get (links ++ h.link ∷ []) m ≡ Some h.link) (sym (ap (λ b. k * n + b) same ∙ ap (λ b. b * n + j) (last.0 ∙ was.unreached j within (omega arith)))) here_is; own = h.get_own; fresh = h.get_fresh; idle = h.idle }))
          (at_snoc (gets_at all j) h.get pass k (ap (λ (l : List (GetPass Letter)). slice_get l k) (sym h.gets) ∙ ap (λ b. slice_get (gets_at new.all.items b) k) (sym same) ∙ there)))
          (λ (other : a ≢ j). gets_still links (h.link ∷ []) (k * n + a) pass (was.get a k pass (ap (λ (l : List (GetPass Letter)). slice_get l k) (sym (h.other_gets a other)) ∙ there)))
          (cases_eq a j));
    }

-- ---- one row more

next_row : (i n : ℕ) → i * n + n ≡ (i + 1) * n
next_row i n = grind arith

pub row_more : (rooms : List ℕ) (n i : ℕ) (b : Begun) → i < n → IsBegun rooms n i n b → IsBegun rooms n (i + 1) 0 b
row_more rooms n i b within is = record {
  count = omega (arith, is.count, next_row i n);
  has_rooms = is.has_rooms;
  whole = is.whole;
  rows = λ a lt. ⊎_elim (λ (same : a ≡ i). subst (λ k. length (puts_at b.all.items k) ≡ n) (sym same) is.row) (λ (other : a ≢ i). is.rows a (omega (arith, lt, other))) (cases_eq a i);
  row = is.later (i + 1) (omega arith);
  later = λ a lt. is.later a (omega (arith, lt));
  reached = λ a lt. absurd (omega (arith, lt));
  unreached = λ a few past. is.reached a few;
  put = is.put;
  get = is.get;
}
