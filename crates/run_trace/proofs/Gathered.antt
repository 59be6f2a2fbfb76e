-- The entries of the first histories, joined.
use Rattle.std.proofs.Common.{◌≡◌, ◌≢◌, ◌⊎◌, inl, inr, ℕ, zero, suc, ◌+◌, ◌<◌, cond, eqb, List, [], ◌∷◌, ◌++◌, length, get_or, take, refl, sym, ap, subst, ◌∙◌, arith}
use Rattle.std.specs.Prelude.{slice_get, Some}
use Rattle.std.specs.List.{AllByRecursion}
use Rattle.std.proofs.lemmas.Bool.{eq-eqb, ne_eqb}
use Rattle.std.proofs.lemmas.List.{length-append, take_more, length-take-le}
use Rattle.std.proofs.lemmas.Option.{slice_get-get_or}
use Rattle.run_model.specs.declared.step.StepEntry.{StepEntry}
use Rattle.run_model.specs.declared.history.History.{History}
use Rattle.run_model.specs.Runs.{InOrder, entries_at}
use Rattle.run_trace.specs.Merging.{Merges, AreApart, AreOf, AreHistories, IsMerged}

entries_same : (i : ℕ) (e : StepEntry) (a b : List StepEntry) → entries_at i a ≡ entries_at i b → entries_at i (e ∷ a) ≡ entries_at i (e ∷ b)
entries_same i e a b h = ap (λ (es : List StepEntry). cond (eqb e.replica i) (e ∷ es) es) h

entries_past : (i : ℕ) (e : StepEntry) (a : List StepEntry) → e.replica ≢ i → entries_at i (e ∷ a) ≡ entries_at i a
entries_past i e a ne = ap (λ b. cond b (e ∷ entries_at i a) (entries_at i a)) (ne_eqb e.replica i ne)

-- the entries of a replica that has none in the one list are those in the other
merges_left : (i : ℕ) (a b c : List StepEntry) → Merges a b c → AllByRecursion (λ e. e.replica ≢ i) b → entries_at i c ≡ entries_at i a
merges_left i a b [] m others = ap (entries_at i) (sym m.0)
merges_left i a b (e ∷ c) (inl m) others = entries_same i e c m.0 (merges_left i m.0 b c m.2 others) ∙ ap (entries_at i) (sym m.1)
merges_left i a b (e ∷ c) (inr m) others =
    let h = subst (λ es. AllByRecursion (λ (f : StepEntry). f.replica ≢ i) es) m.1 others in
    entries_past i e c h.0 ∙ merges_left i a m.0 c m.2 h.1

merges_right : (i : ℕ) (a b c : List StepEntry) → Merges a b c → AllByRecursion (λ e. e.replica ≢ i) a → entries_at i c ≡ entries_at i b
merges_right i a b [] m others = ap (entries_at i) (sym m.1)
merges_right i a b (e ∷ c) (inl m) others =
    let h = subst (λ es. AllByRecursion (λ (f : StepEntry). f.replica ≢ i) es) m.1 others in
    entries_past i e c h.0 ∙ merges_right i m.0 b c m.2 h.1
merges_right i a b (e ∷ c) (inr m) others = entries_same i e c m.0 (merges_right i a m.0 c m.2 others) ∙ ap (entries_at i) (sym m.1)

-- what holds of all entries of both lists holds of all of the joined list
merges_all : (P : StepEntry → Type 0) (a b c : List StepEntry) → Merges a b c → AllByRecursion P a → AllByRecursion P b → AllByRecursion P c
merges_all P a b [] m h k = tt
merges_all P a b (e ∷ c) (inl m) h k = let g = subst (λ es. AllByRecursion P es) m.1 h in (g.0, merges_all P m.0 b c m.2 g.1 k)
merges_all P a b (e ∷ c) (inr m) h k = let g = subst (λ es. AllByRecursion P es) m.1 k in (g.0, merges_all P a m.0 c m.2 h g.1)

all_weaker : (P Q : StepEntry → Type 0) (es : List StepEntry) → ((e : StepEntry) → P e → Q e) → AllByRecursion P es → AllByRecursion Q es
all_weaker P Q [] f h = tt
all_weaker P Q (e ∷ es) f h = (f e h.0, all_weaker P Q es f h.1)

own_entries : (i : ℕ) (es : List StepEntry) → AreOf i es → entries_at i es ≡ es
own_entries i [] h = refl
own_entries i (e ∷ es) h = ap (λ b. cond b (e ∷ entries_at i es) (entries_at i es)) (eq-eqb e.replica i h.0) ∙ ap (λ (fs : List StepEntry). e ∷ fs) (own_entries i es h.1)

apart_below : (me : ℕ) (a b : List StepEntry) → AllByRecursion (λ e. e.replica < me) a → AreOf me b → AreApart a b
apart_below me [] b h k = tt
apart_below me (e ∷ a) b h k = (all_weaker (λ f. f.replica ≡ me) (λ f. e.replica ≢ f.replica) b (λ f is same. absurd (omega (arith, h.0, is, same))) k, apart_below me a b h.1 k)

-- the last place of a list, and those before it
last_place : (hs : List History) (h k : History) (i : ℕ) → slice_get (hs ++ h ∷ []) i ≡ Some k → ((i < length hs) × (slice_get hs i ≡ Some k)) ⊎ ((i ≡ length hs) × (h ≡ k))
last_place [] h k zero is = inr (refl, cc)
last_place [] h k (suc i) is = absurd cc
last_place (g ∷ gs) h k zero is = inl (omega arith, is)
last_place (g ∷ gs) h k (suc i) is = elim (last_place gs h k i is) [ inl p ↦ inl (omega (arith, p.0), p.1) | inr p ↦ inr (ap suc p.0, p.1) ]

merged_more : (hs : List History) (h : History) (a c : List StepEntry) → IsMerged hs a → Merges a h.entries c → InOrder c → AreOf (length hs) h.entries → IsMerged (hs ++ h ∷ []) c
merged_more hs h a c merged m order own =
    let me = length hs in
    let one_more : length (hs ++ h ∷ []) ≡ me + 1 = length-append hs (h ∷ []) in
    let here : entries_at me c ≡ h.entries = merges_right me a h.entries c m (all_weaker (λ e. e.replica < me) (λ e. e.replica ≢ me) a (λ e lt same. absurd (omega (arith, lt, same))) merged.below) ∙ own_entries me h.entries own in
    let before : (i : ℕ) → i < me → entries_at i c ≡ entries_at i a = λ i lt. merges_left i a h.entries c m (all_weaker (λ e. e.replica ≡ me) (λ e. e.replica ≢ i) h.entries (λ e is same. absurd (omega (arith, lt, is, same))) own) in
    record {
      in_order = order;
      below = subst (λ n. AllByRecursion (λ (e : StepEntry). e.replica < n) c) (sym one_more)
          (merges_all (λ e. e.replica < me + 1) a h.entries c m (all_weaker (λ e. e.replica < me) (λ e. e.replica < me + 1) a (λ e lt. omega (arith, lt)) merged.below) (all_weaker (λ e. e.replica ≡ me) (λ e. e.replica < me + 1) h.entries (λ e is. omega (arith, is)) own));
      each = λ i k is. elim (last_place hs h k i is) [
        | inl p ↦ before i p.0 ∙ merged.each i k p.1
        | inr p ↦ ap (λ j. entries_at j c) p.0 ∙ here ∙ ap (λ (g : History). g.entries) p.1
      ];
    }

-- the history at a place of the list
at_place : (hs : List History) (i : ℕ) (h : History) → i < length hs → h ≡ get_or hs i h → slice_get hs i ≡ Some h
at_place hs i h lt is = slice_get-get_or hs i h lt ∙ ap (λ (k : History). Some k) (sym is)

pub own_at : (hs : List History) (i : ℕ) (h : History) → AreHistories hs → i < length hs → h ≡ get_or hs i h → AreOf i h.entries
own_at hs i h all lt is = all.own i h (at_place hs i h lt is)

pub in_order_at : (hs : List History) (i : ℕ) (h : History) → AreHistories hs → i < length hs → h ≡ get_or hs i h → InOrder h.entries
in_order_at hs i h all lt is = all.in_order i h (at_place hs i h lt is)

length_before : (hs : List History) (i : ℕ) → i < length hs → length (take i hs) ≡ i
length_before hs i lt = length-take-le i hs (omega arith)

pub apart_at : (hs : List History) (i : ℕ) (h : History) (a : List StepEntry) → AreHistories hs → i < length hs → h ≡ get_or hs i h → IsMerged (take i hs) a → AreApart a h.entries
apart_at hs i h a all lt is merged =
    apart_below i a h.entries (subst (λ n. AllByRecursion (λ (e : StepEntry). e.replica < n) a) (length_before hs i lt) merged.below) (own_at hs i h all lt is)

pub merged_at : (hs : List History) (i : ℕ) (h : History) (a c : List StepEntry) → AreHistories hs → i < length hs → h ≡ get_or hs i h → IsMerged (take i hs) a → Merges a h.entries c → InOrder c → IsMerged (take (i + 1) hs) c
merged_at hs i h a c all lt is merged m order =
    let split : take (i + 1) hs ≡ take i hs ++ h ∷ [] = take_more hs i h lt ∙ ap (λ (k : History). take i hs ++ k ∷ []) (sym is) in
    let own : AreOf (length (take i hs)) h.entries = subst (λ n. AreOf n h.entries) (sym (length_before hs i lt)) (own_at hs i h all lt is) in
    subst (λ (gs : List History). IsMerged gs c) (sym split) (merged_more (take i hs) h a c merged m order own)

pub merged_none : (hs : List History) → IsMerged (take 0 hs) []
merged_none hs = record { in_order = tt; below = tt; each = λ i h is. absurd cc }
