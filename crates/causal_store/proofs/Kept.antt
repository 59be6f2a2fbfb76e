-- Lists in which the entry at one place after another is changed.
use Rattle.std.proofs.Common.{◌≡◌, ◌≢◌, inl, inr, ℕ, zero, suc, ◌+◌, ◌<◌, ◌≤◌, max, List, [], ◌∷◌, ◌++◌, length, get_or, refl, sym, ap, ◌∙◌, arith, Option, Some, None}
use Rattle.std.specs.Prelude.{slice_get, slice_index, slice_set}
use Rattle.std.specs.List.{AllByRecursion}
use Rattle.std.specs.Option.{option_map}
use Rattle.std.proofs.lemmas.Option.{same_Some, slice_get-get_or}
use Rattle.std.proofs.lemmas.Bool.{cases_lt}
use Rattle.effect_model.specs.Visits.{done_all}
use Rattle.run_model.specs.Logs.{Logs, log_at}
use Rattle.spec_model.specs.declared.log.LogItem.{LogItem}
use Rattle.causal_store.specs.Folds.{all_items}
use Rattle.causal_store.specs.Keeping.{changed_at, joined}

pub changed_long : {K : Type 0} (i : ℕ) (f : K → K) (ks : List K) → length (changed_at i f ks) ≡ length ks
changed_long i f [] = refl
changed_long zero f (k ∷ ks) = refl
changed_long (suc i) f (k ∷ ks) = ap suc (changed_long i f ks)

pub changed_here : {K : Type 0} (i : ℕ) (f : K → K) (ks : List K) → slice_get (changed_at i f ks) i ≡ option_map f (slice_get ks i)
changed_here i f [] = refl
changed_here zero f (k ∷ ks) = refl
changed_here (suc i) f (k ∷ ks) = changed_here i f ks

pub changed_other : {K : Type 0} (i j : ℕ) (f : K → K) (ks : List K) → j ≢ i → slice_get (changed_at i f ks) j ≡ slice_get ks j
changed_other i j f [] ne = refl
changed_other zero zero f (k ∷ ks) ne = absurd (ne refl)
changed_other zero (suc j) f (k ∷ ks) ne = refl
changed_other (suc i) zero f (k ∷ ks) ne = refl
changed_other (suc i) (suc j) f (k ∷ ks) ne = changed_other i j f ks (λ same. ne (ap suc same))

-- a change that changes nothing
pub changed_not : {K : Type 0} (i : ℕ) (f : K → K) (ks : List K) → ((k : K) → f k ≡ k) → changed_at i f ks ≡ ks
changed_not i f [] same = refl
changed_not zero f (k ∷ ks) same = ap (λ x. x ∷ ks) (same k)
changed_not (suc i) f (k ∷ ks) same = ap (λ xs. k ∷ xs) (changed_not i f ks same)

-- a written place
pub changed_set : {K : Type 0} (i : ℕ) (f : K → K) (ks : List K) (k : K) → slice_get ks i ≡ Some k → slice_set ks i (f k) ≡ changed_at i f ks
changed_set i f [] k is = absurd cc
changed_set zero f (x ∷ ks) k is = ap (λ y. f y ∷ ks) (sym (same_Some x k is))
changed_set (suc i) f (x ∷ ks) k is = ap (λ xs. x ∷ xs) (changed_set i f ks k is)

pub changed_each : {K : Type 0} (P : K → Type 0) (i : ℕ) (f : K → K) (ks : List K) → ((k : K) → P k → P (f k)) → AllByRecursion P ks → AllByRecursion P (changed_at i f ks)
changed_each P i f [] keeps all = tt
changed_each P zero f (k ∷ ks) keeps all = (keeps k all.0, all.1)
changed_each P (suc i) f (k ∷ ks) keeps all = (all.0, changed_each P i f ks keeps all.1)

-- ---- all places of a list in their order

pub done_long : {A K : Type 0} (place : A → ℕ) (f : A → K → K) (as' : List A) (ks : List K) → length (done_all (λ a. changed_at (place a) (f a)) as' ks) ≡ length ks
done_long place f [] ks = refl
done_long place f (a ∷ as') ks = done_long place f as' (changed_at (place a) (f a) ks) ∙ changed_long (place a) (f a) ks

done_not : {A K : Type 0} (g : A → K → K) (as' : List A) (k : K) → ((a : A) (k : K) → g a k ≡ k) → done_all g as' k ≡ k
done_not g [] k same = refl
done_not g (a ∷ as') k same = done_not g as' (g a k) same ∙ same a k

-- where no change changes anything
pub done_nothing : {A K : Type 0} (place : A → ℕ) (f : A → K → K) (as' : List A) (ks : List K) → ((a : A) (k : K) → f a k ≡ k) → done_all (λ a. changed_at (place a) (f a)) as' ks ≡ ks
done_nothing place f as' ks same = done_not (λ a. changed_at (place a) (f a)) as' ks (λ a k. changed_not (place a) (f a) k (same a))

next_place : {A : Type 0} (place : A → ℕ) (k : ℕ) (a : A) (as' : List A) → ((j : ℕ) (b : A) → slice_get (a ∷ as') j ≡ Some b → place b ≡ k + j) → (j : ℕ) (b : A) → slice_get as' j ≡ Some b → place b ≡ k + 1 + j
next_place place k a as' at j b is = let there = at (suc j) b is in omega (arith, there)

first_place : {A : Type 0} (place : A → ℕ) (k : ℕ) (a : A) (as' : List A) → ((j : ℕ) (b : A) → slice_get (a ∷ as') j ≡ Some b → place b ≡ k + j) → place a ≡ k
first_place place k a as' at = let here = at 0 a refl in omega (arith, here)

done_before : {A K : Type 0} (place : A → ℕ) (f : A → K → K) (as' : List A) (k : ℕ) (ks : List K) (i : ℕ) → ((j : ℕ) (b : A) → slice_get as' j ≡ Some b → place b ≡ k + j) → i < k → slice_get (done_all (λ a. changed_at (place a) (f a)) as' ks) i ≡ slice_get ks i
done_before place f [] k ks i at lt = refl
done_before place f (a ∷ as') k ks i at lt =
    let first = first_place place k a as' at in
    done_before place f as' (k + 1) (changed_at (place a) (f a) ks) i (next_place place k a as' at) (omega (arith, lt))
    ∙ changed_other (place a) i (f a) ks (λ same. absurd (omega (arith, same, lt, first)))

-- the entry of each is changed once
done_there : {A K : Type 0} (place : A → ℕ) (f : A → K → K) (as' : List A) (k : ℕ) (ks : List K) (j : ℕ) (a : A) → ((i : ℕ) (b : A) → slice_get as' i ≡ Some b → place b ≡ k + i) → slice_get as' j ≡ Some a → slice_get (done_all (λ b. changed_at (place b) (f b)) as' ks) (k + j) ≡ option_map (f a) (slice_get ks (k + j))
done_there place f [] k ks j a at is = absurd cc
done_there place f (b ∷ as') k ks zero a at is =
    let first = first_place place k b as' at in
    let here : k + 0 ≡ place b = omega (arith, first) in
    let same : b ≡ a = same_Some b a is in
    done_before place f as' (k + 1) (changed_at (place b) (f b) ks) (k + 0) (next_place place k b as' at) (omega arith)
    ∙ ap (slice_get (changed_at (place b) (f b) ks)) here
    ∙ changed_here (place b) (f b) ks
    ∙ ap (λ n. option_map (f b) (slice_get ks n)) (sym here)
    ∙ ap (λ c. option_map (f c) (slice_get ks (k + 0))) same
done_there place f (b ∷ as') k ks (suc j) a at is =
    let first = first_place place k b as' at in
    let there : k + suc j ≡ k + 1 + j = omega arith in
    ap (slice_get (done_all (λ c. changed_at (place c) (f c)) as' (changed_at (place b) (f b) ks))) there
    ∙ done_there place f as' (k + 1) (changed_at (place b) (f b) ks) j a (next_place place k b as' at) is
    ∙ ap (option_map (f a)) (changed_other (place b) (k + 1 + j) (f b) ks (λ same. absurd (omega (arith, same, first))))
    ∙ ap (λ n. option_map (f a) (slice_get ks n)) (sym there)

pub done_at : {A K : Type 0} (place : A → ℕ) (f : A → K → K) (as' : List A) (ks : List K) (j : ℕ) (a : A) → ((i : ℕ) (b : A) → slice_get as' i ≡ Some b → place b ≡ i) → slice_get as' j ≡ Some a → slice_get (done_all (λ b. changed_at (place b) (f b)) as' ks) j ≡ option_map (f a) (slice_get ks j)
done_at place f as' ks j a at is =
    let e : 0 + j ≡ j = omega arith in
    ap (slice_get (done_all (λ b. changed_at (place b) (f b)) as' ks)) (sym e)
    ∙ done_there place f as' 0 ks j a (λ i b there. let p = at i b there in omega (arith, p)) is
    ∙ ap (λ n. option_map (f a) (slice_get ks n)) e

-- of what is the change of something, that is there
pub of_mapped : {X Y : Type 0} (f : X → Y) (o : Option X) (y : Y) → option_map f o ≡ Some y → (x : X) × (o ≡ Some x) × (f x ≡ y)
of_mapped f None y is = absurd cc
of_mapped f (Some x) y is = (x, refl, same_Some (f x) y is)

-- ---- what one more item adds to all items of the logs

pub with_one_more : {M : Type 0} (op : M → M → M) (f : List LogItem → M) → ((a b : List LogItem) → f (a ++ b) ≡ op (f a) (f b)) → ((a b c : M) → op a (op b c) ≡ op (op a b) c) → ((a b c : M) → op (op a b) c ≡ op (op a c) b)
    → (logs : Logs) (o : ℕ) (x : LogItem) → o < length logs → f (all_items (slice_set logs o (log_at logs o ++ x ∷ []))) ≡ op (f (all_items logs)) (f (x ∷ []))
with_one_more op f both assoc swap [] o x lt = absurd (omega (arith, lt))
with_one_more op f both assoc swap (l ∷ logs) zero x lt =
    both (l ++ x ∷ []) (all_items logs) ∙ ap (λ m. op m (f (all_items logs))) (both l (x ∷ [])) ∙ swap (f l) (f (x ∷ [])) (f (all_items logs)) ∙ ap (λ m. op m (f (x ∷ []))) (sym (both l (all_items logs)))
with_one_more op f both assoc swap (l ∷ logs) (suc o) x lt =
    both l (all_items (slice_set logs o (log_at logs o ++ x ∷ []))) ∙ ap (op (f l)) (with_one_more op f both assoc swap logs o x (omega (arith, lt))) ∙ assoc (f l) (f (all_items logs)) (f (x ∷ [])) ∙ ap (λ m. op m (f (x ∷ []))) (sym (both l (all_items logs)))

-- ---- counts

pub same_counts : (xs ys : List ℕ) → length xs ≡ length ys → ((i : ℕ) → slice_index xs i ≡ slice_index ys i) → xs ≡ ys
same_counts [] [] long same = refl
same_counts [] (y ∷ ys) long same = absurd (omega (arith, long))
same_counts (x ∷ xs) [] long same = absurd (omega (arith, long))
same_counts (x ∷ xs) (y ∷ ys) long same = ap (λ z. z ∷ xs) (same 0) ∙ ap (λ zs. y ∷ zs) (same_counts xs ys (omega (arith, long)) (λ i. same (suc i)))

pub joined_long : (xs ys : List ℕ) → length (joined xs ys) ≡ length xs
joined_long [] ys = refl
joined_long (x ∷ xs) [] = refl
joined_long (x ∷ xs) (y ∷ ys) = ap suc (joined_long xs ys)

pub joined_at : (xs ys : List ℕ) (i : ℕ) → length ys ≤ length xs → slice_index (joined xs ys) i ≡ max (slice_index xs i) (slice_index ys i)
joined_at [] [] i le = omega arith
joined_at [] (y ∷ ys) i le = absurd (omega (arith, le))
joined_at (x ∷ xs) [] zero le = omega arith
joined_at (x ∷ xs) [] (suc i) le = omega arith
joined_at (x ∷ xs) (y ∷ ys) zero le = refl
joined_at (x ∷ xs) (y ∷ ys) (suc i) le = joined_at xs ys i (omega (arith, le))

-- what is as long and joined at each place is the joined list
pub is_joined : (cut old other : List ℕ) → length other ≤ length old → length cut ≡ length old → ((i : ℕ) → slice_index cut i ≡ max (slice_index old i) (slice_index other i)) → cut ≡ joined old other
is_joined cut old other le long at = same_counts cut (joined old other) (long ∙ sym (joined_long old other)) (λ i. at i ∙ sym (joined_at old other i le))

none_behind : (xs : List ℕ) (i : ℕ) → length xs ≤ i → slice_index xs i ≡ 0
none_behind [] i le = refl
none_behind (x ∷ xs) zero le = absurd (omega (arith, le))
none_behind (x ∷ xs) (suc i) le = none_behind xs i (omega (arith, le))

-- all places of the other were joined
pub join_done : (cut old other : List ℕ) (n : ℕ) → length other ≤ n → ((i : ℕ) → i < n → slice_index cut i ≡ max (slice_index old i) (slice_index other i)) → ((i : ℕ) → n ≤ i → slice_index cut i ≡ slice_index old i)
    → (i : ℕ) → slice_index cut i ≡ max (slice_index old i) (slice_index other i)
join_done cut old other n past joined others i =
    elim (cases_lt i n) [
      | inl lt ↦ joined i lt
      | inr ge ↦ let none = none_behind other i (omega (arith, ge, past)) in omega (arith, others i ge, none)
    ]

-- what is read at a place stands there
pub got_at : {X : Type 0} (xs ys : List X) (i : ℕ) (x d : X) → i < length xs → ys ≡ xs → x ≡ get_or ys i d → slice_get xs i ≡ Some x
got_at xs ys i x d lt same is = slice_get-get_or xs i d lt ∙ ap (λ (l : List _). Some (get_or l i d)) (sym same) ∙ ap Some (sym is)
