-- How much the clients and the courier of a replica ask.
use Rattle.std.proofs.Common.{◌≡◌, inl, inr, ℕ, ◌+◌, ◌<◌, ◌≤◌, Bool, true, false, List, [], ◌∷◌, ◌++◌, filter, length, refl, ap, ◌∙◌, arith}
use Rattle.std.specs.Prelude.{◌==◌, nat_le, if◌then◌else◌}
use Rattle.std.specs.List.{AllByRecursion}
use Rattle.std.proofs.lemmas.Bool.{cases_eq, cases_lt, eq-eqb, le-leb, lt-leb, ne_eqb}
use Rattle.std.proofs.lemmas.List.{length-map}
use Rattle.run_model.specs.declared.step.Ask.{Ask}
use Rattle.run_model.specs.declared.step.Ask.TheVariants as asks
use Rattle.spec_model.specs.declared.spec.Spec.{Spec}
use Rattle.scenario_text.specs.WellFormed.{ClientsFit, RequestFits}
use Rattle.scenario_text.specs.declared.document.ClientAsk.{ClientAsk}
use Rattle.client_asks.specs.Asking.{ClientWork, asks_by, asks_send, courier_asks, lists_from, sends_in, turns_at}
use Rattle.desk_workers.specs.Interleaving.{Interleaves}
use Rattle.turn_desk.specs.Line.{Merges}
use Rattle.client_runs.proofs.Asked.{couriers_few, of_clients}

-- ---- interleavings

abbrev one_if : Bool → ℕ
one_if true = 1
one_if false = 0

abbrev count : {X : Type 0} → (X → Bool) → List X → ℕ
count keeps xs = length (filter keeps xs)

counted : {X : Type 0} (keeps : X → Bool) (x : X) (xs : List X) → count keeps (x ∷ xs) ≡ one_if (keeps x) + count keeps xs
counted keeps x xs = by_case (keeps x)
  where
    by_case : (b : Bool) → length (if b then x ∷ filter keeps xs else filter keeps xs) ≡ one_if b + length (filter keeps xs)
    by_case true = omega arith
    by_case false = omega arith

merges_count : {X : Type 0} (keeps : X → Bool) (a b c : List X) → Merges a b c → count keeps c ≡ count keeps a + count keeps b
merges_count keeps a b [] h =
    let left : count keeps a ≡ 0 = ap (count keeps) h.0 in
    let right : count keeps b ≡ 0 = ap (count keeps) h.1 in
    omega (arith, left, right)
merges_count keeps a b (e ∷ c) (inl h) =
    let rest = merges_count keeps h.0 b c h.2 in
    let left : count keeps a ≡ one_if (keeps e) + count keeps h.0 = ap (count keeps) h.1 ∙ counted keeps e h.0 in
    let all = counted keeps e c in
    omega (arith, rest, left, all)
merges_count keeps a b (e ∷ c) (inr h) =
    let rest = merges_count keeps a h.0 c h.2 in
    let right : count keeps b ≡ one_if (keeps e) + count keeps h.0 = ap (count keeps) h.1 ∙ counted keeps e h.0 in
    let all = counted keeps e c in
    omega (arith, rest, right, all)

merges_long : {X : Type 0} (a b c : List X) → Merges a b c → length c ≡ length a + length b
merges_long a b [] h =
    let left : length a ≡ 0 = ap length h.0 in
    let right : length b ≡ 0 = ap length h.1 in
    omega (arith, left, right)
merges_long a b (e ∷ c) (inl h) =
    let rest = merges_long h.0 b c h.2 in
    let left : length a ≡ length (e ∷ h.0) = ap length h.1 in
    omega (arith, rest, left)
merges_long a b (e ∷ c) (inr h) =
    let rest = merges_long a h.0 c h.2 in
    let right : length b ≡ length (e ∷ h.0) = ap length h.1 in
    omega (arith, rest, right)

-- how often something stands in all lists
abbrev counts : {X : Type 0} → (X → Bool) → List (List X) → ℕ
counts keeps [] = 0
counts keeps (xs ∷ lists) = count keeps xs + counts keeps lists

-- how much stands in all lists
abbrev pub lengths : {X : Type 0} → List (List X) → ℕ
lengths [] = 0
lengths (xs ∷ lists) = length xs + lengths lists

interleaves_count : {X : Type 0} (keeps : X → Bool) (lists : List (List X)) (line : List X) → Interleaves lists line → count keeps line ≡ counts keeps lists
interleaves_count keeps [] line h = ap (count keeps) h
interleaves_count keeps (xs ∷ lists) line h =
    let rest = interleaves_count keeps lists h.0 h.1 in
    let here = merges_count keeps xs h.0 line h.2 in
    omega (arith, rest, here)

pub interleaves_long : {X : Type 0} (lists : List (List X)) (line : List X) → Interleaves lists line → length line ≡ lengths lists
interleaves_long [] line h = ap length h
interleaves_long (xs ∷ lists) line h =
    let rest = interleaves_long lists h.0 h.1 in
    let here = merges_long xs h.0 line h.2 in
    omega (arith, rest, here)

lengths_append : {X : Type 0} (lists others : List (List X)) → lengths (lists ++ others) ≡ lengths lists + lengths others
lengths_append [] others = omega arith
lengths_append (xs ∷ lists) others = let rest = lengths_append lists others in omega (arith, rest)

counts_append : {X : Type 0} (keeps : X → Bool) (lists others : List (List X)) → counts keeps (lists ++ others) ≡ counts keeps lists + counts keeps others
counts_append keeps [] others = omega arith
counts_append keeps (xs ∷ lists) others = let rest = counts_append keeps lists others in omega (arith, rest)

-- ---- sends

count_none : {X : Type 0} (keeps : X → Bool) (xs : List X) → AllByRecursion (λ x. keeps x ≡ false) xs → count keeps xs ≡ 0
count_none keeps [] none = refl
count_none keeps (x ∷ xs) none =
    let rest = count_none keeps xs none.1 in
    let here = counted keeps x xs in
    let not_it : one_if (keeps x) ≡ 0 = ap one_if none.0 in
    omega (arith, rest, here, not_it)

counts_none : {X : Type 0} (keeps : X → Bool) (lists : List (List X)) → AllByRecursion (AllByRecursion (λ x. keeps x ≡ false)) lists → counts keeps lists ≡ 0
counts_none keeps [] none = refl
counts_none keeps (xs ∷ lists) none =
    let rest = counts_none keeps lists none.1 in
    let here = count_none keeps xs none.0 in
    omega (arith, rest, here)

no_send : (spec : Spec) (to : ℕ) (ask : Ask) → RequestFits spec ask → asks_send to ask ≡ false
no_send spec to (asks.Do inst) fits = refl
no_send spec to (asks.Send peer number) fits = absurd fits
no_send spec to (asks.Take peer number) fits = absurd fits
no_send spec to asks.Crash fits = refl
no_send spec to asks.Recover fits = refl

-- of a replica's turns only its courier's are sends
pub sends_are : (spec : Spec) (replicas : ℕ) (work : ClientWork) (me to : ℕ) (line : List Ask) → ClientsFit spec replicas work.turns work.homes work.asked → Interleaves (turns_at replicas work me) line → sends_in to line ≡ sends_in to (courier_asks replicas me work.turns)
sends_are spec replicas work me to line fit h =
    let mine : List (List Ask) = lists_from me 0 work.homes work.asked in
    let all = interleaves_count (asks_send to) (turns_at replicas work me) line h in
    let parts = counts_append (asks_send to) mine (courier_asks replicas me work.turns ∷ []) in
    let none = counts_none (asks_send to) mine (of_clients (λ ask. asks_send to ask ≡ false) spec (length work.homes) me 0 work.homes work.asked (no_send spec to) fit.asks_fit) in
    omega (arith, all, parts, none)

-- ---- how many

-- the requests of clients from this number on
abbrev from_client : ℕ → List ClientAsk → ℕ
from_client client asked = count (λ a. nat_le client a.client) asked

one_more : (client other : ℕ) → one_if (other == client) + one_if (nat_le (client + 1) other) ≡ one_if (nat_le client other)
one_more client other = elim (cases_lt client other) [
  | inl lt ↦
      let same : one_if (other == client) ≡ 0 = ap one_if (ne_eqb other client (λ is. omega (arith, lt, is))) in
      let more : one_if (nat_le (client + 1) other) ≡ 1 = ap one_if (le-leb (client + 1) other (omega (arith, lt))) in
      let all : one_if (nat_le client other) ≡ 1 = ap one_if (le-leb client other (omega (arith, lt))) in
      omega (arith, same, more, all)
  | inr le ↦ elim (cases_eq other client) [
    | inl is ↦
        let same : one_if (other == client) ≡ 1 = ap one_if (eq-eqb other client is) in
        let more : one_if (nat_le (client + 1) other) ≡ 0 = ap one_if (lt-leb (client + 1) other (omega (arith, is))) in
        let all : one_if (nat_le client other) ≡ 1 = ap one_if (le-leb client other (omega (arith, is))) in
        omega (arith, same, more, all)
    | inr differ ↦
        let same : one_if (other == client) ≡ 0 = ap one_if (ne_eqb other client differ) in
        let less : other < client = omega (arith, le, differ) in
        let more : one_if (nat_le (client + 1) other) ≡ 0 = ap one_if (lt-leb (client + 1) other (omega (arith, less))) in
        let all : one_if (nat_le client other) ≡ 0 = ap one_if (lt-leb client other less) in
        omega (arith, same, more, all)
  ]
]

asks_parted : (client : ℕ) (asked : List ClientAsk) → length (asks_by client asked) + from_client (client + 1) asked ≡ from_client client asked
asks_parted client [] = refl
asks_parted client (a ∷ asked) =
    let rest = asks_parted client asked in
    let kept : length (asks_by client (a ∷ asked)) ≡ count (λ (b : ClientAsk). b.client == client) (a ∷ asked) = length-map (filter (λ (b : ClientAsk). b.client == client) (a ∷ asked)) (λ (b : ClientAsk). b.ask) in
    let kept_rest : length (asks_by client asked) ≡ count (λ (b : ClientAsk). b.client == client) asked = length-map (filter (λ (b : ClientAsk). b.client == client) asked) (λ (b : ClientAsk). b.ask) in
    let here = counted (λ (b : ClientAsk). b.client == client) a asked in
    let more = counted (λ (b : ClientAsk). nat_le (client + 1) b.client) a asked in
    let all = counted (λ (b : ClientAsk). nat_le client b.client) a asked in
    let one = one_more client a.client in
    omega (arith, rest, kept, kept_rest, here, more, all, one)

lists_few : (me client : ℕ) (homes : List ℕ) (asked : List ClientAsk) → lengths (lists_from me client homes asked) ≤ from_client client asked
lists_few me client [] asked = omega arith
lists_few me client (home ∷ homes) asked =
    let rest = lists_few me (client + 1) homes asked in
    let parted = asks_parted client asked in
    by_case (home == me) rest parted
  where
    by_case : (b : Bool) → lengths (lists_from me (client + 1) homes asked) ≤ from_client (client + 1) asked → length (asks_by client asked) + from_client (client + 1) asked ≡ from_client client asked
        → lengths (if b then asks_by client asked ∷ lists_from me (client + 1) homes asked else lists_from me (client + 1) homes asked) ≤ from_client client asked
    by_case true rest parted = omega (arith, rest, parted)
    by_case false rest parted = omega (arith, rest, parted)

count_few : {X : Type 0} (keeps : X → Bool) (xs : List X) → count keeps xs ≤ length xs
count_few keeps [] = omega arith
count_few keeps (x ∷ xs) = let rest = count_few keeps xs in let here = counted keeps x xs in let one = at_most (keeps x) in omega (arith, rest, here, one)
  where
    at_most : (b : Bool) → one_if b ≤ 1
    at_most true = omega arith
    at_most false = omega arith

-- the turns of a replica are no more than all requests, and its courier's
pub turns_few : (replicas : ℕ) (work : ClientWork) (me : ℕ) → lengths (turns_at replicas work me) ≤ length work.asked + work.turns
turns_few replicas work me =
    let parts = lengths_append (lists_from me 0 work.homes work.asked) (courier_asks replicas me work.turns ∷ []) in
    let mine = lists_few me 0 work.homes work.asked in
    let few = count_few (λ (a : ClientAsk). nat_le 0 a.client) work.asked in
    let courier = couriers_few replicas me work.turns in
    omega (arith, parts, mine, few, courier)

-- a courier's sends to one replica are no more than its turns
pub sends_few : (replicas me turns to : ℕ) → sends_in to (courier_asks replicas me turns) ≤ turns
sends_few replicas me turns to =
    let few = count_few (asks_send to) (courier_asks replicas me turns) in
    let courier = couriers_few replicas me turns in
    omega (arith, few, courier)
