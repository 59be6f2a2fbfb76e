-- Items between commas.
use Rattle.std.proofs.Common.{◌≡◌, ℕ, zero, suc, ◌<◌, ◌≤◌, Bool, true, false, cond, ◌||◌, List, [], ◌∷◌, ◌++◌, length, get_or, take, drop, refl, sym, ap, ◌∙◌, arith}
use Rattle.std.specs.Prelude.{Option, Some, None, position}
use Rattle.std.proofs.Common.{append_assoc}
use Rattle.std.proofs.lemmas.List.Quantifiers.{position-Some}
use Rattle.std.proofs.lemmas.List.Sums.{fails_before_first}
use Rattle.std.proofs.lemmas.List.{drop-drop}
use Rattle.std.proofs.Common.{add-one}
use Rattle.line_text.specs.declared.cause.FormError.{FormError}
use Rattle.line_text.specs.declared.cause.FormError.TheVariants as errors
use Rattle.line_text.specs.Reads.{Fails}
use Rattle.std.proofs.lemmas.Grind.{common_steps}
use Rattle.std.specs.List.{position_or_len}
use Rattle.line_text.specs.declared.token.Token.TheVariants.{Mark}
use Rattle.line_text.specs.declared.token.Token.{Token}
use Rattle.line_text.specs.Reads.{◌>>=◌}
use Rattle.line_text.specs.Forms.{is_mark, is_end, groups, onto_first, each, items}

-- none of the first n tokens ends an item
abbrev pub Inside : ℕ → List Token → Token → Type 0
Inside n ts d = (k : ℕ) → k < n → is_end (get_or ts k d) ≡ false

abbrev pub Groups : Type 0
Groups = Option (List (List Token) × List Token)

abbrev pub front_group : Bool → List Token → List Token → Groups
front_group closed g rest = cond closed (Some (g ∷ [], rest)) (groups rest >>= λ gs. Some (g ∷ gs.0, gs.1))

abbrev pub with_token : Token → Groups → Groups
with_token t gs = gs >>= λ g. Some (onto_first t g.0, g.1)

-- what a mark or another token makes of the groups behind it
abbrev mixed : Bool → Token → Groups → Groups
mixed b t gs = gs >>= λ g. Some (cond b ([] ∷ g.0) (onto_first t g.0), g.1)

abbrev closing : Bool → List Token → Groups → Groups
closing b ts gs = cond b (Some ([] ∷ [], ts)) gs

abbrev pub put : List Token → Groups → Groups
put g gs = gs >>= λ k. Some (g ∷ k.0, k.1)

abbrev pub all_of : {A : Type 0} → (List Token → Option A) → Groups → Option (List A × List Token)
all_of read gs = gs >>= λ h. (each read h.0 >>= λ xs. Some (xs, h.1))

at_end : (a b : Bool) (t : Token) (gs : Groups) (ts : List Token) → (a || b) ≡ true → closing a ts (mixed b t gs) ≡ closing a ts (put [] gs)
at_end true b t gs ts e = refl
at_end false true t gs ts e = refl
at_end false false t gs ts e = absurd cc

pub not_end : (a b : Bool) (t : Token) (gs : Groups) (ts : List Token) → (a || b) ≡ false → closing a ts (mixed b t gs) ≡ with_token t gs
not_end true b t gs ts e = absurd cc
not_end false true t gs ts e = absurd cc
not_end false false t gs ts e = refl

longer : (closed : Bool) (t : Token) (g rest : List Token) → with_token t (front_group closed g rest) ≡ front_group closed (t ∷ g) rest
longer true t g rest = refl
longer false t g rest = elim (groups rest) as (λ r. with_token t (put g r) ≡ put (t ∷ g) r) [ None ↦ refl | Some x ↦ refl ]

pub groups-cut : (n : ℕ) (ts : List Token) (d : Token) → n < length ts → Inside n ts d → is_end (get_or ts n d) ≡ true
    → groups ts ≡ front_group (is_mark 41 (get_or ts n d)) (take n ts) (drop (suc n) ts)
unfolding groups
groups-cut n [] d lt inside end = absurd (omega arith)
groups-cut zero (t ∷ ts) d lt inside end = at_end (is_mark 41 t) (is_mark 44 t) t (groups ts) ts end
groups-cut (suc n) (t ∷ ts) d lt inside end =
    let rest = groups-cut n ts d (omega arith) (λ k small. inside (suc k) (omega arith)) end in
    not_end (is_mark 41 t) (is_mark 44 t) t (groups ts) ts (inside 0 (omega arith)) ∙ ap (with_token t) rest ∙ longer (is_mark 41 (get_or ts n d)) t (take n ts) (drop (suc n) ts)

pub groups-open : (ts : List Token) (d : Token) → ((k : ℕ) → k < length ts → is_end (get_or ts k d) ≡ false) → groups ts ≡ None
unfolding groups
groups-open [] d none = refl
groups-open (t ∷ ts) d none =
    let rest = groups-open ts d (λ k small. none (suc k) (omega arith)) in
    not_end (is_mark 41 t) (is_mark 44 t) t (groups ts) ts (none 0 (omega arith)) ∙ ap (with_token t) rest

-- what was read before, and what is still read
abbrev pub with_front : {A : Type 0} → List A → Option (List A × List Token) → Option (List A × List Token)
with_front front read = read >>= λ x. Some (front ++ x.0, x.1)

pub items-last : {A : Type 0} → (read : List Token → Option A) (x : A) (front : List A) (ts g rest : List Token) → groups ts ≡ front_group true g rest → read g ≡ Some x → with_front front (items read ts) ≡ Some (front ++ x ∷ [], rest)
items-last read x front ts g rest cut is = rw (cut, is) refl

append_one : {A : Type 0} → (front : List A) (x : A) (xs : List A) → front ++ x ∷ xs ≡ (front ++ x ∷ []) ++ xs
append_one front x xs = simp append_assoc

abbrev pub ending : {A : Type 0} → List Token → Option (List A) → Option (List A × List Token)
ending rest read = read >>= λ xs. Some (xs, rest)

abbrev pub ahead : {A : Type 0} → A → Option (List A) → Option (List A)
ahead x read = read >>= λ xs. Some (x ∷ xs)

more_after : {A : Type 0} → (x : A) (front : List A) (rest : List Token) (r : Option (List A)) → with_front front (ending rest (ahead x r)) ≡ with_front (front ++ x ∷ []) (ending rest r)
more_after x front rest None = refl
more_after {A} x front rest (Some xs) = ap {A = List A} {B = Option (List A × List Token)} (λ ys. Some (ys, rest)) (append_one front x xs)

one_more : {A : Type 0} → (x : A) (front : List A) (read : List Token → Option A) (gs : Groups) (g : List Token) → read g ≡ Some x
    → with_front front (all_of read (put g gs)) ≡ with_front (front ++ x ∷ []) (all_of read gs)
one_more x front read None g is = refl
one_more x front read (Some h) g is = rw is (more_after x front h.1 (each read h.0))

pub items-next : {A : Type 0} → (read : List Token → Option A) (x : A) (front : List A) (ts g rest : List Token) → groups ts ≡ front_group false g rest → read g ≡ Some x → with_front front (items read ts) ≡ with_front (front ++ x ∷ []) (items read rest)
items-next read x front ts g rest cut is = rw cut (one_more x front read (groups rest) g is)

refused_by : {A : Type 0} → (read : List Token → Option A) (gs : Groups) (g : List Token) → read g ≡ None
    → all_of read (put g gs) ≡ None
refused_by read None g is = refl
refused_by read (Some h) g is = rw is refl

pub items-refused : {A : Type 0} → (read : List Token → Option A) (closed : Bool) (ts g rest : List Token) → groups ts ≡ front_group closed g rest → read g ≡ None → items read ts ≡ None
items-refused read true ts g rest cut is = rw (cut, is) refl
items-refused read false ts g rest cut is = rw cut (refused_by read (groups rest) g is)

pub items-open : {A : Type 0} → (read : List Token → Option A) (front : List A) (ts : List Token) → groups ts ≡ None → with_front front (items read ts) ≡ None
items-open read front ts open_ = rw open_ refl

none_ends : (ts : List Token) → position is_end ts ≡ None → (k : ℕ) → k < length ts → is_end (get_or ts k (Mark 0)) ≡ false
none_ends ts e k lt =
    let past : length ts ≤ position_or_len is_end ts = grind (arith, common_steps) in
    fails_before_first is_end ts k (Mark 0) (omega arith)

pub open_ended : {A : Type 0} → (read : List Token → Option A) (front : List A) (ts : List Token) → position is_end ts ≡ None → with_front front (items read ts) ≡ None
open_ended read front ts e = items-open read front ts (groups-open ts (Mark 0) (none_ends ts e))

pub cut_at : (n : ℕ) (ts : List Token) (d : Token) → position is_end ts ≡ Some n → groups ts ≡ front_group (is_mark 41 (get_or ts n d)) (take n ts) (drop (suc n) ts)
cut_at n ts d e =
    let h = position-Some is_end ts n d e in
    groups-cut n ts d h.0 h.2 h.1

get_or-drop-zero : (n : ℕ) (ts : List Token) (d : Token) → n < length ts → get_or (drop n ts) 0 d ≡ get_or ts n d
get_or-drop-zero n ts d lt = grind (arith, common_steps)

pub cut_split : (n : ℕ) (ts g others rest : List Token) (t : Token) → position is_end ts ≡ Some n → g ≡ take n ts → others ≡ drop n ts → t ≡ get_or others 0 t → rest ≡ drop 1 others → groups ts ≡ front_group (is_mark 41 t) g rest
cut_split n ts g others rest t e front back first behind =
    let h = position-Some is_end ts n t e in
    let same : t ≡ get_or ts n t = first ∙ ap (λ (os : List Token). get_or os 0 t) back ∙ get_or-drop-zero n ts t h.0 in
    let after : rest ≡ drop (suc n) ts = behind ∙ ap (λ (os : List Token). drop 1 os) back ∙ drop-drop 1 n ts ∙ ap (λ (k : ℕ). drop k ts) (add-one n) in
    rw (front, after) (cut_at n ts t e ∙ ap (λ (u : Token). front_group (is_mark 41 u) (take n ts) (drop (suc n) ts)) (sym same))

pub turn-last : {A : Type 0} → (read : List Token → Option A) (x : A) (front new : List A) (ts g rest : List Token) (closed : Bool) (total : Option (List A × List Token))
    → groups ts ≡ front_group closed g rest → closed ≡ true → read g ≡ Some x → new ≡ front ++ x ∷ [] → with_front front (items read ts) ≡ total → total ≡ Some (new, rest)
turn-last read x front new ts g rest closed total cut end is pushed so_far = sym so_far ∙ rw pushed (items-last read x front ts g rest (rw end at cut) is)

pub turn-next : {A : Type 0} → (read : List Token → Option A) (x : A) (front new : List A) (ts g rest : List Token) (closed : Bool) (total : Option (List A × List Token))
    → groups ts ≡ front_group closed g rest → closed ≡ false → read g ≡ Some x → new ≡ front ++ x ∷ [] → with_front front (items read ts) ≡ total → with_front new (items read rest) ≡ total
turn-next read x front new ts g rest closed total cut end is pushed so_far = rw pushed (sym (items-next read x front ts g rest (rw end at cut) is)) ∙ so_far

pub turn-refused : {A : Type 0} → (e : FormError) (read : List Token → Option A) (front : List A) (ts g rest : List Token) (closed : Bool) (total : Option (List A × List Token))
    → groups ts ≡ front_group closed g rest → Fails e (read g) → with_front front (items read ts) ≡ total → Fails e total
turn-refused errors.Memory read front ts g rest closed total cut is so_far = tt
turn-refused errors.Refused read front ts g rest closed total cut is so_far = sym so_far ∙ rw (items-refused read closed ts g rest cut is) refl

pub last_cut : (n : ℕ) (ts : List Token) (d : Token) → position is_end ts ≡ Some n → n < length ts
last_cut n ts d e = (position-Some is_end ts n d e).0

pub cut_front : (n : ℕ) (ts g : List Token) (d : Token) → position is_end ts ≡ Some n → g ≡ take n ts → groups ts ≡ front_group (is_mark 41 (get_or ts n d)) g (drop (suc n) ts)
cut_front n ts g d e front = rw front (cut_at n ts d e)
