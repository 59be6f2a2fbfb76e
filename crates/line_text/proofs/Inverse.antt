-- What the readers of a line's parts have read: the tokens are those of what they give.
use Rattle.std.proofs.Common.{◌≡◌, ℕ, Bool, true, false, cond, List, [], ◌∷◌, ◌++◌, map, refl, ap, subst, ◌∙◌, append-nil, arith}
use Rattle.std.specs.Prelude.{Option, Some, None}
use Rattle.std.specs.Str.{bytes_eq}
use Rattle.std.proofs.lemmas.Bool.{eqb-true}
use Rattle.std.proofs.lemmas.Grind.{common_steps}
use Rattle.std.proofs.lemmas.Slice.Eq.{bytes_eq-Decides}
use Rattle.line_text.specs.declared.token.Token.{Token}
use Rattle.line_text.specs.declared.token.Token.TheVariants.{Word, Number, Mark, Arrow}
use Rattle.line_text.specs.Reads.{◌>>=◌}
use Rattle.line_text.specs.Tokens.{is_word}
use Rattle.line_text.specs.Forms.{is_mark, is_arrow, after_mark, after_arrow, after_word, flag_at, word_at, number_at, ended, onto_first, groups, each, items, list_at}

pub bind_some : {A B : Type 0} → (o : Option A) (f : A → Option B) (y : B) → (o >>= f) ≡ Some y → (x : A) × (o ≡ Some x) × (f x ≡ Some y)
bind_some (Some x) f y e = (x, refl, e)
bind_some None f y e = absurd cc

abbrev pub there : {A : Type 0} → A → Option A
there x = Some x

pub some_same : {A : Type 0} → (x y : A) → there x ≡ there y → x ≡ y
some_same x y e = cc

pub same_bytes : (a b : List ℕ) → bytes_eq a b ≡ true → a ≡ b
same_bytes a b e = grind (arith, common_steps, bytes_eq-Decides a b)

-- a value behind a test that passed
pub tested : {A : Type 0} → (t : Bool) (x y : A) → cond t (Some x) None ≡ Some y → (t ≡ true) × (x ≡ y)
tested true x y e = (refl, some_same x y e)
tested false x y e = absurd cc

abbrev word_first : List ℕ × List Token → List Token
word_first p = Word p.0 ∷ p.1

pub word_read : (ts : List Token) (p : List ℕ × List Token) → word_at ts ≡ Some p → ts ≡ Word p.0 ∷ p.1
unfolding word_at
word_read [] p e = absurd cc
word_read (Word w ∷ ts) p e = ap word_first (some_same (w, ts) p e)
word_read (Number n ∷ ts) p e = absurd cc
word_read (Mark b ∷ ts) p e = absurd cc
word_read (Arrow ∷ ts) p e = absurd cc

abbrev number_first : ℕ × List Token → List Token
number_first p = Number p.0 ∷ p.1

pub number_read : (ts : List Token) (p : ℕ × List Token) → number_at ts ≡ Some p → ts ≡ Number p.0 ∷ p.1
unfolding number_at
number_read [] p e = absurd cc
number_read (Word w ∷ ts) p e = absurd cc
number_read (Number n ∷ ts) p e = ap number_first (some_same (n, ts) p e)
number_read (Mark b ∷ ts) p e = absurd cc
number_read (Arrow ∷ ts) p e = absurd cc

pub mark_is : (c : ℕ) (t : Token) → is_mark c t ≡ true → t ≡ Mark c
mark_is c (Word w) e = absurd cc
mark_is c (Number n) e = absurd cc
mark_is c (Mark b) e = ap (λ (k : ℕ). Mark k) (eqb-true b c e)
mark_is c Arrow e = absurd cc

arrow_is : (t : Token) → is_arrow t ≡ true → t ≡ Arrow
arrow_is (Word w) e = absurd cc
arrow_is (Number n) e = absurd cc
arrow_is (Mark b) e = absurd cc
arrow_is Arrow e = refl

pub word_is : (w : List ℕ) (t : Token) → is_word w t ≡ true → t ≡ Word w
word_is w (Word v) e = ap (λ (u : List ℕ). Word u) (same_bytes v w e)
word_is w (Number n) e = absurd cc
word_is w (Mark b) e = absurd cc
word_is w Arrow e = absurd cc

pub both : (t u : Token) (ts rest : List Token) → t ≡ u → ts ≡ rest → t ∷ ts ≡ u ∷ rest
both t u ts rest e f = cc

pub mark_read : (c : ℕ) (ts rest : List Token) → after_mark c ts ≡ Some rest → ts ≡ Mark c ∷ rest
unfolding after_mark
mark_read c [] rest e = absurd cc
mark_read c (t ∷ ts) rest e =
    let h = tested (is_mark c t) ts rest e in
    both t (Mark c) ts rest (mark_is c t h.0) h.1

pub arrow_read : (ts rest : List Token) → after_arrow ts ≡ Some rest → ts ≡ Arrow ∷ rest
unfolding after_arrow
arrow_read [] rest e = absurd cc
arrow_read (t ∷ ts) rest e =
    let h = tested (is_arrow t) ts rest e in
    both t Arrow ts rest (arrow_is t h.0) h.1

pub this_word_read : (w : List ℕ) (ts rest : List Token) → after_word w ts ≡ Some rest → ts ≡ Word w ∷ rest
unfolding after_word
this_word_read w [] rest e = absurd cc
this_word_read w (t ∷ ts) rest e =
    let h = tested (is_word w t) ts rest e in
    both t (Word w) ts rest (word_is w t h.0) h.1

-- a word where it is said
abbrev pub flag_tokens : Bool → List ℕ → List Token
flag_tokens true w = Word w ∷ []
flag_tokens false w = []

abbrev FlagRead : List ℕ → List Token → Bool × List Token → Type 0
FlagRead w ts p = ts ≡ flag_tokens p.0 w ++ p.1

flag_first : (w : List ℕ) (t : Token) (ts : List Token) (b : Bool) → is_word w t ≡ b → FlagRead w (t ∷ ts) (cond b (true, ts) (false, t ∷ ts))
flag_first w t ts true e = both t (Word w) ts ts (word_is w t e) refl
flag_first w t ts false e = refl

pub flag_read : (w : List ℕ) (ts : List Token) → ts ≡ flag_tokens (flag_at w ts).0 w ++ (flag_at w ts).1
unfolding flag_at
flag_read w [] = refl
flag_read w (t ∷ ts) = flag_first w t ts (is_word w t) refl

pub ended_read : (ts : List Token) (u : Unit {0}) → ended ts ≡ Some u → ts ≡ []
unfolding ended
ended_read [] u e = refl
ended_read (t ∷ ts) u e = absurd cc

-- ---- lists in brackets

-- items behind the first one, and the bracket that closes
abbrev pub behind_tokens : {A : Type 0} → (A → List Token) → List A → List Token
behind_tokens toks [] = Mark 41 ∷ []
behind_tokens toks (x ∷ xs) = Mark 44 ∷ (toks x ++ behind_tokens toks xs)

-- a list in brackets
abbrev pub listing_tokens : {A : Type 0} → (A → List Token) → List A → List Token
listing_tokens toks [] = Mark 40 ∷ Mark 41 ∷ []
listing_tokens toks (x ∷ xs) = Mark 40 ∷ (toks x ++ behind_tokens toks xs)

-- some items, and what stands behind the bracket
abbrev ItemsRead : {A : Type 0} → (A → List Token) → List Token → List A → List Token → Type 0
ItemsRead toks ts [] rest = ⊥
ItemsRead toks ts (x ∷ xs) rest = ts ≡ (toks x ++ behind_tokens toks xs) ++ rest

abbrev own : List Token → List Token
own ts = ts

group_more : (t : Token) (ts : List Token) (gs : List (List Token)) (rest : List Token) (comma : Bool) → is_mark 44 t ≡ comma → ItemsRead own ts gs rest → ItemsRead own (t ∷ ts) (cond comma ([] ∷ gs) (onto_first t gs)) rest
group_more t ts [] rest comma e h = absurd h
group_more t ts (g ∷ gs) rest true e h = both t (Mark 44) ts ((g ++ behind_tokens own gs) ++ rest) (mark_is 44 t e) h
group_more t ts (g ∷ gs) rest false e h = ap (λ (us : List Token). t ∷ us) h

abbrev Cut : List Token → List (List Token) × List Token → Type 0
Cut ts p = ItemsRead own ts p.0 p.1

group_first : (t : Token) (ts : List Token) (p : List (List Token) × List Token) (closed : Bool) → is_mark 41 t ≡ closed → ((q : List (List Token) × List Token) → groups ts ≡ Some q → Cut ts q)
    → cond closed (Some ([] ∷ [], ts)) (groups ts >>= λ g. Some (cond (is_mark 44 t) ([] ∷ g.0) (onto_first t g.0), g.1)) ≡ Some p → Cut (t ∷ ts) p
group_first t ts p true e rest is = subst (Cut (t ∷ ts)) (some_same ([] ∷ [], ts) p is) (both t (Mark 41) ts ts (mark_is 41 t e) refl)
group_first t ts p false e rest is =
    let h = bind_some (groups ts) (λ (g : List (List Token) × List Token). Some (cond (is_mark 44 t) ([] ∷ g.0) (onto_first t g.0), g.1)) p is in
    subst (Cut (t ∷ ts)) (some_same (cond (is_mark 44 t) ([] ∷ h.0.0) (onto_first t h.0.0), h.0.1) p h.2) (group_more t ts h.0.0 h.0.1 (is_mark 44 t) refl (rest h.0 h.1))

groups_read : (ts : List Token) (p : List (List Token) × List Token) → groups ts ≡ Some p → Cut ts p
unfolding groups
groups_read [] p e = absurd cc
groups_read (t ∷ ts) p e = group_first t ts p (is_mark 41 t) refl (λ q h. groups_read ts q h) e

each_read : {A : Type 0} → (read : List Token → Option A) (toks : A → List Token) → ((g : List Token) (x : A) → read g ≡ Some x → g ≡ toks x) → (gs : List (List Token)) (xs : List A) → each read gs ≡ Some xs → gs ≡ map toks xs
each_read read toks back [] xs e = ap (map toks) (some_same [] xs e)
each_read {A} read toks back (g ∷ gs) xs e =
    let h = bind_some (read g) (λ (x : A). each read gs >>= λ ys. Some (x ∷ ys)) xs e in
    let k = bind_some (each read gs) (λ (ys : List A). Some (h.0 ∷ ys)) xs h.2 in
    subst (λ (zs : List A). g ∷ gs ≡ map toks zs) (some_same (h.0 ∷ k.0) xs k.2) (ap (λ (us : List Token). us ∷ gs) (back g h.0 h.1) ∙ ap (λ (us : List (List Token)). toks h.0 ∷ us) (each_read read toks back gs k.0 k.1))

behind_map : {A : Type 0} → (toks : A → List Token) (xs : List A) → behind_tokens own (map toks xs) ≡ behind_tokens toks xs
behind_map toks [] = refl
behind_map toks (x ∷ xs) = ap (λ (us : List Token). Mark 44 ∷ (toks x ++ us)) (behind_map toks xs)

items_map : {A : Type 0} → (toks : A → List Token) (ts : List Token) (xs : List A) (rest : List Token) → ItemsRead own ts (map toks xs) rest → ItemsRead toks ts xs rest
items_map toks ts [] rest h = absurd h
items_map toks ts (x ∷ xs) rest h = h ∙ ap (λ (us : List Token). (toks x ++ us) ++ rest) (behind_map toks xs)

abbrev Listed : {A : Type 0} → (A → List Token) → List Token → List A × List Token → Type 0
Listed toks ts p = ItemsRead toks ts p.0 p.1

items_read : {A : Type 0} → (read : List Token → Option A) (toks : A → List Token) → ((g : List Token) (x : A) → read g ≡ Some x → g ≡ toks x) → (ts : List Token) (p : List A × List Token) → items read ts ≡ Some p → Listed toks ts p
items_read {A} read toks back ts p e =
    let h = bind_some (groups ts) (λ (g : List (List Token) × List Token). each read g.0 >>= λ xs. Some (xs, g.1)) p e in
    let k = bind_some (each read h.0.0) (λ (xs : List A). Some (xs, h.0.1)) p h.2 in
    let cut = groups_read ts h.0 h.1 in
    let same = each_read read toks back h.0.0 k.0 k.1 in
    subst (Listed toks ts) (some_same (k.0, h.0.1) p k.2) (items_map toks ts k.0 h.0.1 (subst (λ (gs : List (List Token)). ItemsRead own ts gs h.0.1) same cut))

opened : {A : Type 0} → (toks : A → List Token) (t : Token) (ts : List Token) (xs : List A) (rest : List Token) → t ≡ Mark 40 → ItemsRead toks ts xs rest → t ∷ ts ≡ listing_tokens toks xs ++ rest
opened toks t ts [] rest e h = absurd h
opened toks t ts (x ∷ xs) rest e h = both t (Mark 40) ts ((toks x ++ behind_tokens toks xs) ++ rest) e h

empty : {A : Type 0} → (toks : A → List Token) (t u : Token) (ts : List Token) (p : List A × List Token) → t ≡ Mark 40 → u ≡ Mark 41 → there ([], ts) ≡ Some p → t ∷ u ∷ ts ≡ listing_tokens toks p.0 ++ p.1
empty {A} toks t u ts p e f is = subst (λ (q : List A × List Token). t ∷ u ∷ ts ≡ listing_tokens toks q.0 ++ q.1) (some_same ([], ts) p is) (both t (Mark 40) (u ∷ ts) (Mark 41 ∷ ts) e (both u (Mark 41) ts ts f refl))

second : {A : Type 0} → (read : List Token → Option A) (toks : A → List Token) → ((g : List Token) (x : A) → read g ≡ Some x → g ≡ toks x) → (t u : Token) (ts : List Token) (p : List A × List Token) (closed : Bool) → t ≡ Mark 40 → is_mark 41 u ≡ closed
    → cond closed (Some ([], ts)) (items read (u ∷ ts)) ≡ Some p → t ∷ u ∷ ts ≡ listing_tokens toks p.0 ++ p.1
second read toks back t u ts p true e f is = empty toks t u ts p e (mark_is 41 u f) is
second read toks back t u ts p false e f is = opened toks t (u ∷ ts) p.0 p.1 e (items_read read toks back (u ∷ ts) p is)

first : {A : Type 0} → (read : List Token → Option A) (toks : A → List Token) → ((g : List Token) (x : A) → read g ≡ Some x → g ≡ toks x) → (t u : Token) (ts : List Token) (p : List A × List Token) (open' : Bool) → is_mark 40 t ≡ open'
    → cond open' (cond (is_mark 41 u) (Some ([], ts)) (items read (u ∷ ts))) None ≡ Some p → t ∷ u ∷ ts ≡ listing_tokens toks p.0 ++ p.1
first read toks back t u ts p true e is = second read toks back t u ts p (is_mark 41 u) (mark_is 40 t e) refl is
first read toks back t u ts p false e is = absurd cc

pub list_read : {A : Type 0} → (read : List Token → Option A) (toks : A → List Token) → ((g : List Token) (x : A) → read g ≡ Some x → g ≡ toks x) → (ts : List Token) (p : List A × List Token) → list_at read ts ≡ Some p → ts ≡ listing_tokens toks p.0 ++ p.1
list_read read toks back [] p e = absurd cc
list_read read toks back (t ∷ []) p e = absurd cc
list_read read toks back (t ∷ u ∷ ts) p e = first read toks back t u ts p (is_mark 40 t) refl e

-- ---- a part, and what is known of the tokens behind it

pub word_then : (ts : List Token) (p : List ℕ × List Token) (us : List Token) → word_at ts ≡ Some p → p.1 ≡ us → ts ≡ Word p.0 ∷ us
word_then ts p us e f = word_read ts p e ∙ ap (λ (rest : List Token). Word p.0 ∷ rest) f

pub number_then : (ts : List Token) (p : ℕ × List Token) (us : List Token) → number_at ts ≡ Some p → p.1 ≡ us → ts ≡ Number p.0 ∷ us
number_then ts p us e f = number_read ts p e ∙ ap (λ (rest : List Token). Number p.0 ∷ rest) f

pub mark_then : (c : ℕ) (ts rest us : List Token) → after_mark c ts ≡ Some rest → rest ≡ us → ts ≡ Mark c ∷ us
mark_then c ts rest us e f = mark_read c ts rest e ∙ ap (λ (more : List Token). Mark c ∷ more) f

pub list_then : {A : Type 0} → (read : List Token → Option A) (toks : A → List Token) → ((g : List Token) (x : A) → read g ≡ Some x → g ≡ toks x) → (ts : List Token) (p : List A × List Token) (us : List Token) → list_at read ts ≡ Some p → p.1 ≡ us → ts ≡ listing_tokens toks p.0 ++ us
list_then read toks back ts p us e f = list_read read toks back ts p e ∙ ap (λ (rest : List Token). listing_tokens toks p.0 ++ rest) f

pub list_last : {A : Type 0} → (read : List Token → Option A) (toks : A → List Token) → ((g : List Token) (x : A) → read g ≡ Some x → g ≡ toks x) → (ts : List Token) (p : List A × List Token) (u : Unit {0}) → list_at read ts ≡ Some p → ended p.1 ≡ Some u → ts ≡ listing_tokens toks p.0
list_last read toks back ts p u e f = list_then read toks back ts p [] e (ended_read p.1 u f) ∙ append-nil (listing_tokens toks p.0)

pub flag_last : (w : List ℕ) (ts : List Token) (u : Unit {0}) → ended (flag_at w ts).1 ≡ Some u → ts ≡ flag_tokens (flag_at w ts).0 w
flag_last w ts u e = flag_read w ts ∙ ap (λ (rest : List Token). flag_tokens (flag_at w ts).0 w ++ rest) (ended_read (flag_at w ts).1 u e) ∙ append-nil (flag_tokens (flag_at w ts).0 w)

pub flag_there : (w : List ℕ) (ts : List Token) → (flag_at w ts).0 ≡ true → ts ≡ Word w ∷ (flag_at w ts).1
flag_there w ts is = flag_read w ts ∙ ap (λ (b : Bool). flag_tokens b w ++ (flag_at w ts).1) is
