-- Where a list is cut, and the words of a line.
use Rattle.std.proofs.Common.{◌≡◌, ◌≢◌, ℕ, zero, suc, ◌<◌, ◌≤◌, Bool, true, false, cond, eqb, List, [], ◌∷◌, ◌++◌, length, get_or, take, drop, refl, sym, ap, subst, ◌∙◌, arith, add-one, append-nil, append_assoc}
use Rattle.std.specs.Prelude.{Option, Some, None, position}
use Rattle.std.specs.List.{AllByRecursion, position_or_len}
use Rattle.std.proofs.lemmas.Bool.{ne_eqb, eqb-true}
use Rattle.std.proofs.lemmas.Grind.{common_steps}
use Rattle.std.proofs.lemmas.List.{drop-drop}
use Rattle.std.proofs.lemmas.List.Quantifiers.{position-Some}
use Rattle.std.proofs.lemmas.List.Sums.{fails_before_first}
use Rattle.line_text.specs.Lines.{onto_first}
use Rattle.line_text.specs.Reads.{◌>>=◌}
use Rattle.line_text.proofs.Inverse.{bind_some, some_same}
use Rattle.certificate_lines.specs.Words.{behind, cut, is_byte, is_none, spaced, words_left, words_of}

-- ---- where the code cuts

cut_found : {X : Type 0} → (p : X → Bool) (xs : List X) (n : ℕ) (d : X) → n < length xs → p (get_or xs n d) ≡ true → ((k : ℕ) → k < n → p (get_or xs k d) ≡ false) → cut p xs ≡ Some (take n xs, drop (suc n) xs)
cut_found p [] n d lt is before = absurd (omega arith)
cut_found p (x ∷ xs) zero d lt is before = rw is refl
cut_found p (x ∷ xs) (suc n) d lt is before =
    let rest = cut_found p xs n d (omega arith) is (λ k small. before (suc k) (omega arith)) in
    rw (before 0 (omega arith), rest) refl

cut_nowhere : {X : Type 0} → (p : X → Bool) (xs : List X) (d : X) → ((k : ℕ) → k < length xs → p (get_or xs k d) ≡ false) → cut p xs ≡ None
cut_nowhere p [] d none = refl
cut_nowhere p (x ∷ xs) d none =
    let rest = cut_nowhere p xs d (λ k small. none (suc k) (omega arith)) in
    rw (none 0 (omega arith), rest) refl

-- it is cut where the first that passes stands
pub cut_here : {X : Type 0} → (p : X → Bool) (xs front back behind' : List X) (n : ℕ) (d : X) → position p xs ≡ Some n → front ≡ take n xs → back ≡ drop n xs → behind' ≡ drop 1 back → cut p xs ≡ Some (front, behind')
cut_here p xs front back behind' n d e is_front is_back is_behind =
    let h = position-Some p xs n d e in
    let after : behind' ≡ drop (suc n) xs = is_behind ∙ ap (drop 1) is_back ∙ drop-drop 1 n xs ∙ ap (λ (k : ℕ). drop k xs) (add-one n) in
    rw (is_front, after) (cut_found p xs n d h.0 h.1 h.2)

-- it isn't cut where none passes
pub cut_never : {X : Type 0} → (p : X → Bool) (xs : List X) (d : X) → position p xs ≡ None → cut p xs ≡ None
cut_never p xs d e = cut_nowhere p xs d (λ k lt. none k lt)
  where
    none : (k : ℕ) → k < length xs → p (get_or xs k d) ≡ false
    none k lt =
        let past : length xs ≤ position_or_len p xs = grind (arith, common_steps) in
        fails_before_first p xs k d (omega arith)

-- ---- what a cut shows

abbrev Joined : {X : Type 0} → (X → Bool) → List X → List X × List X → Type 0
Joined {X} p xs r = (m : X) × (p m ≡ true) × (xs ≡ r.0 ++ m ∷ r.1)

joined_first : {X : Type 0} → (p : X → Bool) (x : X) (xs : List X) (r : List X × List X) (t : Bool) → p x ≡ t → ((q : List X × List X) → cut p xs ≡ Some q → Joined p xs q)
    → cond t (Some ([], xs)) (cut p xs >>= λ q. Some (x ∷ q.0, q.1)) ≡ Some r → Joined p (x ∷ xs) r
joined_first {X} p x xs r true is rest e = subst (Joined p (x ∷ xs)) (some_same ([], xs) r e) (x, is, refl)
joined_first {X} p x xs r false is rest e =
    let h = bind_some (cut p xs) (λ (q : List X × List X). Some (x ∷ q.0, q.1)) r e in
    let k = rest h.0 h.1 in
    subst (Joined p (x ∷ xs)) (some_same (x ∷ h.0.0, h.0.1) r h.2) (k.0, k.1, ap (λ (ys : List X). x ∷ ys) k.2)

-- one that passes stands between the parts
pub cut_joined : {X : Type 0} → (p : X → Bool) (xs : List X) (r : List X × List X) → cut p xs ≡ Some r → Joined p xs r
cut_joined p [] r e = absurd cc
cut_joined p (x ∷ xs) r e = joined_first p x xs r (p x) refl (λ q is. cut_joined p xs q is) e

shorter : {X : Type 0} → (xs front : List X) (m : X) (rest : List X) → xs ≡ front ++ m ∷ rest → length rest < length xs
shorter xs front m rest e = rw e (more front m rest)
  where
    more : {Y : Type 0} → (ys : List Y) (y : Y) (zs : List Y) → length zs < length (ys ++ y ∷ zs)
    more [] y zs = omega arith
    more (z ∷ ys) y zs = let h = more ys y zs in omega arith

pub cut_shorter : {X : Type 0} → (p : X → Bool) (xs : List X) (r : List X × List X) → cut p xs ≡ Some r → length r.1 < length xs
cut_shorter p xs r e =
    let h = cut_joined p xs r e in
    shorter xs r.0 h.0 r.1 h.2

-- what is cut apart was joined
pub cut_again : {X : Type 0} → (p : X → Bool) (front : List X) (m : X) (rest : List X) → AllByRecursion (λ x. p x ≡ false) front → p m ≡ true → cut p (front ++ m ∷ rest) ≡ Some (front, rest)
cut_again p [] m rest h is = rw is refl
cut_again p (x ∷ front) m rest h is = rw (h.0, cut_again p front m rest h.1 is) refl

-- ---- the words of a line

-- no blank stands in it
abbrev pub IsWhole : List ℕ → Type 0
IsWhole w = AllByRecursion (λ b. b ≢ 32) w

words_first : (b : ℕ) (bs : List ℕ) (r : List ℕ × List ℕ) (t : Bool) → ((q : List ℕ × List ℕ) → cut (is_byte 32) bs ≡ Some q → words_of bs ≡ q.0 ∷ words_of q.1)
    → cond t (Some ([], bs)) (cut (is_byte 32) bs >>= λ q. Some (b ∷ q.0, q.1)) ≡ Some r → cond t ([] ∷ words_of bs) (onto_first b (words_of bs)) ≡ r.0 ∷ words_of r.1
words_first b bs r true rest e = ap (λ (q : List ℕ × List ℕ). q.0 ∷ words_of q.1) (some_same ([], bs) r e)
words_first b bs r false rest e =
    let h = bind_some (cut (is_byte 32) bs) (λ (q : List ℕ × List ℕ). Some (b ∷ q.0, q.1)) r e in
    ap (onto_first b) (rest h.0 h.1) ∙ ap (λ (q : List ℕ × List ℕ). q.0 ∷ words_of q.1) (some_same (b ∷ h.0.0, h.0.1) r h.2)

pub words_cut : (line : List ℕ) (r : List ℕ × List ℕ) → cut (is_byte 32) line ≡ Some r → words_of line ≡ r.0 ∷ words_of r.1
words_cut [] r e = absurd cc
words_cut (b ∷ bs) r e = words_first b bs r (eqb b 32) (λ q is. words_cut bs q is) e

-- a cut behind this byte, or at it
abbrev cut_from : ℕ → List ℕ → Bool → Option (List ℕ × List ℕ) → Option (List ℕ × List ℕ)
cut_from b bs t o = cond t (Some ([], bs)) (o >>= λ q. Some (b ∷ q.0, q.1))

words_alone : (b : ℕ) (bs : List ℕ) (t : Bool) → (cut (is_byte 32) bs ≡ None → words_of bs ≡ bs ∷ []) → (o : Option (List ℕ × List ℕ)) → cut (is_byte 32) bs ≡ o
    → cut_from b bs t o ≡ None → cond t ([] ∷ words_of bs) (onto_first b (words_of bs)) ≡ (b ∷ bs) ∷ []
words_alone b bs true rest o is e = absurd cc
words_alone b bs false rest None is e = ap (onto_first b) (rest is)
words_alone b bs false rest (Some q) is e = absurd cc

pub words_last : (line : List ℕ) → cut (is_byte 32) line ≡ None → words_of line ≡ line ∷ []
words_last [] e = refl
words_last (b ∷ bs) e = words_alone b bs (eqb b 32) (λ none. words_last bs none) (cut (is_byte 32) bs) refl e

onto_spaced : (b : ℕ) (ws : List (List ℕ)) → spaced (onto_first b ws) ≡ b ∷ spaced ws
onto_spaced b [] = refl
onto_spaced b (w ∷ ws) = refl

either_behind : (t : Bool) (b : ℕ) (ws : List (List ℕ)) → behind (cond t ([] ∷ ws) (onto_first b ws)) ≡ 32 ∷ spaced (cond t ([] ∷ ws) (onto_first b ws))
either_behind true b ws = refl
either_behind false b [] = refl
either_behind false b (w ∷ ws) = refl

words_behind : (line : List ℕ) → behind (words_of line) ≡ 32 ∷ spaced (words_of line)
words_behind [] = refl
words_behind (b ∷ bs) = either_behind (eqb b 32) b (words_of bs)

either_spaced : (b : ℕ) (bs : List ℕ) (t : Bool) → eqb b 32 ≡ t → spaced (words_of bs) ≡ bs → spaced (cond t ([] ∷ words_of bs) (onto_first b (words_of bs))) ≡ b ∷ bs
either_spaced b bs true is rest = words_behind bs ∙ ap (λ (ds : List ℕ). 32 ∷ ds) rest ∙ ap (λ (c : ℕ). c ∷ bs) (sym (eqb-true b 32 is))
either_spaced b bs false is rest = onto_spaced b (words_of bs) ∙ ap (λ (ds : List ℕ). b ∷ ds) rest

-- a line is the text of its words
pub words_spaced : (line : List ℕ) → spaced (words_of line) ≡ line
words_spaced [] = refl
words_spaced (b ∷ bs) = either_spaced b bs (eqb b 32) refl (words_spaced bs)

word_alone : (w : List ℕ) → IsWhole w → words_of w ≡ w ∷ []
word_alone [] h = refl
word_alone (b ∷ bs) h = rw (ne_eqb b 32 h.0, word_alone bs h.1) refl

word_more : (w rest : List ℕ) → IsWhole w → words_of (w ++ 32 ∷ rest) ≡ w ∷ words_of rest
word_more [] rest h = refl
word_more (b ∷ bs) rest h = rw (ne_eqb b 32 h.0, word_more bs rest h.1) refl

-- the words of what words were written as
pub words_again : (w : List ℕ) (ws : List (List ℕ)) → IsWhole w → AllByRecursion IsWhole ws → words_of (w ++ behind ws) ≡ w ∷ ws
words_again w [] h all = ap words_of (append-nil w) ∙ word_alone w h
words_again w (v ∷ ws) h all = word_more w (v ++ behind ws) h ∙ ap (λ (vs : List (List ℕ)). w ∷ vs) (words_again v ws all.0 all.1)

-- ---- a word is taken

pub next_word : (line : List ℕ) (r : List ℕ × List ℕ) (all_read : Bool) → all_read ≡ false → cut (is_byte 32) line ≡ Some r → words_left all_read line ≡ r.0 ∷ words_left all_read r.1
next_word line r all_read e cut_here = rw e (words_cut line r cut_here)

pub last_word : (line : List ℕ) (all_read : Bool) → all_read ≡ false → cut (is_byte 32) line ≡ None → words_left all_read line ≡ line ∷ []
last_word line all_read e never = rw e (words_last line never)

either_some : (t : Bool) (b : ℕ) (ws : List (List ℕ)) → is_none (cond t ([] ∷ ws) (onto_first b ws)) ≡ false
either_some true b ws = refl
either_some false b [] = refl
either_some false b (w ∷ ws) = refl

-- a line has a word, and so only what was read whole has none left
pub none_left : (line : List ℕ) (all_read : Bool) → is_none (words_left all_read line) ≡ all_read
none_left line true = refl
none_left [] false = refl
none_left (b ∷ bs) false = either_some (eqb b 32) b (words_of bs)
