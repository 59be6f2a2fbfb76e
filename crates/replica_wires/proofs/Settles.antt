-- Passes that are joined, link by link.
use Rattle.std.proofs.Common.{◌≡◌, ◌≢◌, ℕ, ◌+◌, ◌<◌, ◌≤◌, zero, suc, List, [], ◌∷◌, ◌++◌, length, length-append, drop, length-drop, slice_get, Some, refl, sym, ap, ◌∙◌, subst, ⊎_elim, arith}
use Rattle.std.specs.List.{AllByRecursion}
use Rattle.std.specs.Option.{option_map_or}
use Rattle.std.proofs.lemmas.Bool.{cases_eq, cases_lt}
use Rattle.run_model.specs.declared.message.Message.{Message}
use Rattle.replica_links.specs.declared.link.Link.{Link}
use Rattle.replica_links.specs.declared.pass.PutPass.{PutPass}
use Rattle.replica_links.specs.declared.pass.GetPass.{GetPass}
use Rattle.replica_links.specs.Passes.{IsPutOf, IsGetOf, put_of, taken_of}
use Rattle.replica_wires.specs.declared.letter.Letter.{Letter}
use Rattle.replica_wires.specs.declared.passes.Passes.{Passes}
use Rattle.replica_wires.specs.declared.settling.Both.{Both}
use Rattle.replica_wires.specs.declared.web.Web.{Web}
use Rattle.replica_wires.specs.Beginning.{gets_at, puts_at}
use Rattle.replica_wires.specs.Letters.{all_addressed}
use Rattle.replica_wires.specs.Passing.{AreLeft, HaveTheirs, got_from, put_for}
use Rattle.replica_wires.specs.Settling.{AreSoFar, IsJoining, IsSettling, TakesOut}
use Rattle.replica_wires.specs.Webs.{HasLink}
use Rattle.replica_wires.proofs.Rows.{at_snoc}

-- each message has the sender of its link
pub senders_of : (from to : ℕ) (letters : List Letter) → AllByRecursion (λ (m : Message). m.from ≡ from) (all_addressed from to letters)
senders_of from to [] = tt
senders_of from to (x ∷ xs) = (refl, senders_of from to xs)

there_is : {X : Type 0} (xs : List X) (k : ℕ) → k < length xs → (x : X) × (slice_get xs k ≡ Some x)
there_is [] k lt = absurd (omega (arith, lt))
there_is (x ∷ xs) zero lt = (x, refl)
there_is (x ∷ xs) (suc k) lt = there_is xs k (omega (arith, lt))

-- what follows the first of a rest
rest_of : {X : Type 0} (xs : List X) (k : ℕ) (x : X) (ys : List X) → drop k xs ≡ x ∷ ys → ys ≡ drop (k + 1) xs
rest_of [] zero x ys is = absurd cc
rest_of [] (suc k) x ys is = absurd cc
rest_of (z ∷ xs) zero x ys is = cc
rest_of (z ∷ xs) (suc k) x ys is = let e : suc (k + 1) ≡ suc k + 1 = omega arith in subst (λ (m : ℕ). ys ≡ drop m (z ∷ xs)) e (rest_of xs k x ys is)

first_of : {X : Type 0} (xs : List X) (k : ℕ) (x : X) (ys : List X) → drop k xs ≡ x ∷ ys → slice_get xs k ≡ Some x
first_of [] zero x ys is = absurd cc
first_of [] (suc k) x ys is = absurd cc
first_of (z ∷ xs) zero x ys is = cc
first_of (z ∷ xs) (suc k) x ys is = first_of xs k x ys is

puts_are : (all : List Passes) (me : ℕ) (passes : Passes) → slice_get all me ≡ Some passes → puts_at all me ≡ passes.puts.items
puts_are all me passes there = ap (λ o. option_map_or (λ (p : Passes). p.puts.items) o []) there

gets_are : (all : List Passes) (me : ℕ) (passes : Passes) → slice_get all me ≡ Some passes → gets_at all me ≡ passes.gets.items
gets_are all me passes there = ap (λ o. option_map_or (λ (p : Passes). p.gets.items) o []) there

none_dropped : (n : ℕ) (l : List (PutPass Letter)) → l ≡ [] → drop n l ≡ l
none_dropped zero l is = refl
none_dropped (suc n) [] is = refl
none_dropped (suc n) (x ∷ l) is = absurd cc

none_past : (all : List Passes) (a : ℕ) → length all ≤ a → puts_at all a ≡ []
none_past [] a past = refl
none_past (p ∷ all) zero past = absurd (omega (arith, past))
none_past (p ∷ all) (suc a) past = none_past all a (omega (arith, past))

module _ (web : Web) (all : List Passes) (theirs : HaveTheirs web all) where
  pub puts_count : (a : ℕ) → a < web.replicas → length (puts_at all a) ≡ web.replicas
  puts_count a lt = let p = there_is all a (omega (arith, theirs.whole, lt)) in ap length (puts_are all a p.0 p.1) ∙ (theirs.each a p.0 p.1).puts_whole

  pub gets_count : (a : ℕ) → a < web.replicas → length (gets_at all a) ≡ web.replicas
  gets_count a lt = let p = there_is all a (omega (arith, theirs.whole, lt)) in ap length (gets_are all a p.0 p.1) ∙ (theirs.each a p.0 p.1).gets_whole

  -- there are passes of the next link
  pub some_left : (me from : ℕ) (now : List Passes) → me < web.replicas → from < web.replicas → IsSettling me from all now → (0 < length (puts_at now from)) × (0 < length (gets_at now me))
  some_left me from now in_me in_from h = (
    omega (arith, ap length (h.puts_left from (omega arith)), length-drop me (puts_at all from), puts_count from in_from, in_me),
    omega (arith, ap length h.gets_here, length-drop from (gets_at all me), gets_count me in_me, in_from),
  )

  module _ (me from : ℕ) (both : Both) (old new : List Passes) (in_me : me < web.replicas) (in_from : from < web.replicas) (was : IsSettling me from all old) (h : TakesOut from me both old new) where
    put_rest : drop me (puts_at all from) ≡ both.put ∷ puts_at new from
    put_rest = sym (was.puts_left from (omega arith)) ∙ h.puts

    get_rest : drop from (gets_at all me) ≡ both.get ∷ gets_at new me
    get_rest = sym was.gets_here ∙ h.gets

    pub settling_more : IsSettling me (from + 1) all new
    settling_more = record {
      whole = h.whole ∙ was.whole;
      puts_done = λ a lt. ⊎_elim
          (λ (same : a ≡ from). subst (λ b. puts_at new b ≡ drop (me + 1) (puts_at all b)) (sym same) (rest_of (puts_at all from) me both.put (puts_at new from) put_rest))
          (λ (other : a ≢ from). h.other_puts a other ∙ was.puts_done a (omega (arith, lt, other))) (cases_eq a from);
      puts_left = λ a past. h.other_puts a (λ same. absurd (omega (arith, same, past))) ∙ was.puts_left a (omega (arith, past));
      gets_here = rest_of (gets_at all me) from both.get (gets_at new me) get_rest;
      gets_left = λ a past. h.other_gets a (λ same. absurd (omega (arith, same, past))) ∙ was.gets_left a past;
    }

    -- they are the passes of that link
    put_there : (p : Passes) → slice_get all from ≡ Some p → slice_get p.puts.items me ≡ Some both.put
    put_there p there = ap (λ (l : List (PutPass Letter)). slice_get l me) (sym (puts_are all from p there)) ∙ first_of (puts_at all from) me both.put (puts_at new from) put_rest

    get_there : (p : Passes) → slice_get all me ≡ Some p → slice_get p.gets.items from ≡ Some both.get
    get_there p there = ap (λ (l : List (GetPass Letter)). slice_get l from) (sym (gets_are all me p there)) ∙ first_of (gets_at all me) from both.get (gets_at new me) get_rest

    pub are_own : (link : Link Letter) → HasLink web from me link → IsPutOf link both.put × IsGetOf link both.get
    are_own link has =
        let p = there_is all from (omega (arith, theirs.whole, in_from)) in let q = there_is all me (omega (arith, theirs.whole, in_me)) in
        ((theirs.each from p.0 p.1).puts me both.put link (put_there p.0 p.1) has, (theirs.each me q.0 q.1).gets from both.get link (get_there q.0 q.1) has)

    pub left_more : (lists : List (List Message)) (left : List Message) → length lists ≡ from → AreLeft all me lists
        → all_addressed from me (put_of both.put) ≡ all_addressed from me (taken_of both.get) ++ left → AllByRecursion (λ (m : Message). m.from ≡ from) left
        → AreLeft all me (lists ++ left ∷ [])
    left_more lists left count are is senders = record {
      passed = λ k l p q at there mine. ⊎_elim (λ before. are.passed k l p q before there mine)
          (λ (last : (k ≡ length lists) × (left ≡ l)).
          let same : from ≡ k = sym (last.0 ∙ count) in
          let put : put_for from p me ≡ all_addressed from me (put_of both.put) = ap (λ o. option_map_or (λ (x : PutPass Letter). all_addressed from me (put_of x)) o []) (put_there p (ap (slice_get all) same ∙ there)) in
          let got : got_from me q from ≡ all_addressed from me (taken_of both.get) = ap (λ o. option_map_or (λ (x : GetPass Letter). all_addressed from me (taken_of x)) o []) (get_there q mine) in
          let whole : put_for from p me ≡ got_from me q from ++ left = put ∙ is ∙ ap (λ (ms : List Message). ms ++ left) (sym got) in
          subst (λ n. put_for n p me ≡ got_from me q n ++ l) same (subst (λ ms. put_for from p me ≡ got_from me q from ++ ms) last.1 whole))
          (at_snoc lists left l k at);
      senders = λ k l at. ⊎_elim (λ before. are.senders k l before)
          (λ (last : (k ≡ length lists) × (left ≡ l)). subst (λ n. AllByRecursion (λ (m : Message). m.from ≡ n) l) (sym (last.0 ∙ count)) (subst (AllByRecursion (λ (m : Message). m.from ≡ from)) last.1 senders))
          (at_snoc lists left l k at);
    }

    pub joins_more : (left : List (List (List Message))) (lists : List (List Message)) (more : List Message) → IsJoining web.replicas me from all old left lists
        → all_addressed from me (put_of both.put) ≡ all_addressed from me (taken_of both.get) ++ more → AllByRecursion (λ (m : Message). m.from ≡ from) more
        → IsJoining web.replicas me (from + 1) all new left (lists ++ more ∷ [])
    joins_more left lists more j is senders = record {
      settling = settling_more;
      so_far = j.so_far;
      count = omega (arith, length-append lists (more ∷ []), j.count);
      are = left_more lists more j.count j.are is senders;
    }

  pub row_settled : (me from : ℕ) (now : List Passes) (left : List (List (List Message))) (lists : List (List Message)) → from ≡ web.replicas → IsJoining web.replicas me from all now left lists
      → IsSettling (me + 1) 0 all now × AreSoFar web.replicas (me + 1) all (left ++ lists ∷ [])
  row_settled me from now left lists ended j = (
    record {
      whole = j.settling.whole;
      puts_done = λ a lt. absurd (omega (arith, lt));
      puts_left = λ a _. ⊎_elim (λ (same : a < from). j.settling.puts_done a same)
          (λ (past : from ≤ a).
          let none : puts_at all a ≡ [] = none_past all a (omega (arith, theirs.whole, ended, past)) in
          j.settling.puts_left a past ∙ none_dropped me (puts_at all a) none ∙ sym (none_dropped (me + 1) (puts_at all a) none))
          (cases_lt a from);
      gets_here = j.settling.gets_left (me + 1) (omega arith);
      gets_left = λ a past. j.settling.gets_left a (omega (arith, past));
    },
    record {
      count = omega (arith, length-append left (lists ∷ []), j.so_far.count);
      whole = λ k l at. ⊎_elim (λ before. j.so_far.whole k l before) (λ (last : (k ≡ length left) × (lists ≡ l)). ap length (sym last.1) ∙ j.count ∙ ended) (at_snoc left lists l k at);
      each = λ k l at. ⊎_elim (λ before. j.so_far.each k l before)
          (λ (last : (k ≡ length left) × (lists ≡ l)). subst (λ n. AreLeft all n l) (sym (last.0 ∙ j.so_far.count)) (subst (AreLeft all me) last.1 j.are)) (at_snoc left lists l k at);
    },
  )
