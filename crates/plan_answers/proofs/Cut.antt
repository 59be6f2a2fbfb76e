-- A text that is cut between two of its lines.
use Rattle.std.proofs.Common.{◌≡◌, ◌≢◌, ◌⊎◌, inl, inr, ℕ, zero, suc, ◌+◌, ◌<◌, ◌≤◌, Bool, true, false, cond, List, [], ◌∷◌, ◌++◌, length, get_or, take, drop, refl, sym, ap, subst, ◌∙◌, arith}
use Rattle.std.specs.List.{AllByRecursion}
use Rattle.std.proofs.lemmas.List.{append-nil, append_assoc, take-append-drop, drop-drop, length-append, length-take, length-drop}
use Rattle.std.proofs.Math.Seq.{take-add, take-length, drop-length}
use Rattle.std.proofs.Math.ListN.{drop_of_length-le}
use Rattle.line_text.specs.Lines.{lines_of, without_return}
use Rattle.line_text.proofs.LineCuts.{lines_of-cut, lines_of-last}
use Rattle.plan_answers.specs.Splitting.{HasNoEnd, IsFirstLine, document_lines, has_plan_first, is_plan, plan_lines}

-- ---- the first line

take_front : (m : ℕ) (bytes more : List ℕ) → m < length bytes → take m (take (suc m) bytes ++ more) ≡ take m bytes
take_front m [] more lt = absurd (omega (arith, lt))
take_front zero (b ∷ bs) more lt = refl
take_front (suc m) (b ∷ bs) more lt = ap (λ (xs : List ℕ). b ∷ xs) (take_front m bs more (omega (arith, lt)))

drop_front : (m : ℕ) (bytes more : List ℕ) → m < length bytes → drop (suc m) (take (suc m) bytes ++ more) ≡ more
drop_front m [] more lt = absurd (omega (arith, lt))
drop_front zero (b ∷ bs) more lt = refl
drop_front (suc m) (b ∷ bs) more lt = drop_front m bs more (omega (arith, lt))

get_front : (m : ℕ) (bytes more : List ℕ) (k : ℕ) → m < length bytes → k < suc m → get_or (take (suc m) bytes ++ more) k 0 ≡ get_or bytes k 0
get_front m [] more k lt small = absurd (omega (arith, lt))
get_front m (b ∷ bs) more zero lt small = refl
get_front zero (b ∷ bs) more (suc k) lt small = absurd (omega (arith, small))
get_front (suc m) (b ∷ bs) more (suc k) lt small = get_front m bs more k (omega (arith, lt)) (omega (arith, small))

long_front : (m : ℕ) (bytes more : List ℕ) → m < length bytes → m < length (take (suc m) bytes ++ more)
long_front m [] more lt = absurd (omega (arith, lt))
long_front zero (b ∷ bs) more lt = omega arith
long_front (suc m) (b ∷ bs) more lt = omega (arith, long_front m bs more (omega (arith, lt)))

-- a line with its line feed goes before the lines of all that follows
cut_front : (m : ℕ) (bytes more : List ℕ) → m < length bytes → HasNoEnd m bytes → get_or bytes m 0 ≡ 10 → lines_of (take (suc m) bytes ++ more) ≡ without_return (take m bytes) ∷ lines_of more
cut_front m bytes more lt none is =
    let whole : List ℕ = take (suc m) bytes ++ more in
    lines_of-cut m whole (long_front m bytes more lt) (λ k small at. none k small (sym (get_front m bytes more k lt (omega (arith, small))) ∙ at)) (get_front m bytes more m lt (omega arith) ∙ is)
    ∙ ap (λ (line : List ℕ). without_return line ∷ lines_of (drop (suc m) whole)) (take_front m bytes more lt)
    ∙ ap (λ (rest : List ℕ). without_return (take m bytes) ∷ lines_of rest) (drop_front m bytes more lt)

-- the lines of what stands before, and of all that may follow it
abbrev pub EndsLine : List ℕ → Type 0
EndsLine front = (more : List ℕ) → lines_of (front ++ more) ≡ lines_of front ++ lines_of more

record FirstLine (bytes : List ℕ) (n : ℕ) : Type 0 where
  line : List ℕ
  front : lines_of (take n bytes) ≡ line ∷ []
  whole : lines_of bytes ≡ line ∷ lines_of (drop n bytes)
  ends : n < length bytes → EndsLine (take n bytes)

first_line : (bytes : List ℕ) (n : ℕ) → 0 < length bytes → IsFirstLine bytes n → FirstLine bytes n
first_line bytes n some (inl (all, none)) =
    let last : lines_of bytes ≡ bytes ∷ [] = lines_of-last bytes some (subst (λ k. HasNoEnd k bytes) all none) in
    record {
      line = bytes;
      front = ap (λ k. lines_of (take k bytes)) all ∙ ap lines_of (take-length bytes) ∙ last;
      whole = last ∙ sym (ap (λ (rest : List ℕ). bytes ∷ lines_of rest) (ap (λ k. drop k bytes) all ∙ drop-length bytes));
      ends = λ lt. absurd (omega (arith, lt, all));
    }
first_line bytes n some (inr (m, is, lt, none, feed)) =
    let line : List ℕ = without_return (take m bytes) in
    let at : n ≡ suc m = omega (arith, is) in
    let alone : lines_of (take (suc m) bytes) ≡ line ∷ [] = ap lines_of (sym (append-nil (take (suc m) bytes))) ∙ cut_front m bytes [] lt none feed in
    record {
      line = line;
      front = ap (λ k. lines_of (take k bytes)) at ∙ alone;
      whole = ap lines_of (sym (take-append-drop (suc m) bytes)) ∙ cut_front m bytes (drop (suc m) bytes) lt none feed ∙ ap (λ k. line ∷ lines_of (drop k bytes)) (sym at);
      ends = λ more_left more. ap (λ k. lines_of (take k bytes ++ more)) at ∙ cut_front m bytes more lt none feed ∙ ap (λ (ls : List (List ℕ)). ls ++ lines_of more) (sym (ap (λ k. lines_of (take k bytes)) at ∙ alone));
    }

-- ---- lines before the plan

-- no line of the first so many bytes is `plan`
pub record IsBefore (bytes : List ℕ) (at : ℕ) : Type 0 where
  pub within : at ≤ length bytes
  pub lines : lines_of bytes ≡ lines_of (take at bytes) ++ lines_of (drop at bytes)
  pub none : AllByRecursion (λ line. is_plan line ≡ false) (lines_of (take at bytes))
  pub ends : at < length bytes → EndsLine (take at bytes)

pub before_none : (bytes : List ℕ) → IsBefore bytes 0
before_none bytes = record { within = omega arith; lines = refl; none = tt; ends = λ lt more. refl }

first_other : (line : List ℕ) (lines rest : List (List ℕ)) → lines ≡ line ∷ rest → has_plan_first lines ≡ false → is_plan line ≡ false
first_other line lines rest is other = ap has_plan_first (sym is) ∙ other

all_append : (xs ys : List (List ℕ)) → AllByRecursion (λ line. is_plan line ≡ false) xs → AllByRecursion (λ line. is_plan line ≡ false) ys → AllByRecursion (λ line. is_plan line ≡ false) (xs ++ ys)
all_append [] ys h k = k
all_append (x ∷ xs) ys h k = (h.0, all_append xs ys h.1 k)

line_within : (bytes : List ℕ) (n : ℕ) → IsFirstLine bytes n → n ≤ length bytes
line_within bytes n (inl (all, none)) = omega (arith, all)
line_within bytes n (inr (m, is, lt, none, feed)) = omega (arith, is, lt)

pub before_more : (bytes : List ℕ) (at n : ℕ) → at < length bytes → IsBefore bytes at → IsFirstLine (drop at bytes) n → has_plan_first (lines_of (drop at bytes)) ≡ false → IsBefore bytes (at + n)
before_more bytes at n lt h first other =
    let rest : List ℕ = drop at bytes in
    let long : length rest + at ≡ length bytes = omega (arith, length-drop at bytes, lt) in
    let one : FirstLine rest n = first_line rest n (omega (arith, long, lt)) first in
    let ends : EndsLine (take at bytes) = h.ends lt in
    let front : lines_of (take (at + n) bytes) ≡ lines_of (take at bytes) ++ one.line ∷ [] = ap lines_of (take-add at n bytes) ∙ ends (take n rest) ∙ ap (λ (ls : List (List ℕ)). lines_of (take at bytes) ++ ls) one.front in
    let behind : drop n rest ≡ drop (at + n) bytes = drop-drop n at bytes in
    record {
      within = omega (arith, line_within rest n first, long);
      lines = h.lines ∙ ap (λ (ls : List (List ℕ)). lines_of (take at bytes) ++ ls) (one.whole ∙ ap (λ (r : List ℕ). one.line ∷ lines_of r) behind)
          ∙ sym (append_assoc (lines_of (take at bytes)) (one.line ∷ []) (lines_of (drop (at + n) bytes))) ∙ ap (λ (ls : List (List ℕ)). ls ++ lines_of (drop (at + n) bytes)) (sym front);
      none = subst (AllByRecursion (λ line. is_plan line ≡ false)) (sym front)
          (all_append (lines_of (take at bytes)) (one.line ∷ []) h.none (first_other one.line (lines_of rest) (lines_of (drop n rest)) one.whole other, tt));
      ends = λ left more.
          let whole : EndsLine (take n rest) = one.ends (omega (arith, left, long)) in
          ap (λ (f : List ℕ). lines_of (f ++ more)) (take-add at n bytes) ∙ ap lines_of (append_assoc (take at bytes) (take n rest) more) ∙ ends (take n rest ++ more)
          ∙ ap (λ (ls : List (List ℕ)). lines_of (take at bytes) ++ ls) (whole more)
          ∙ sym (append_assoc (lines_of (take at bytes)) (lines_of (take n rest)) (lines_of more))
          ∙ ap (λ (ls : List (List ℕ)). ls ++ lines_of more) (sym (ap lines_of (take-add at n bytes) ∙ ends (take n rest)));
    }

-- ---- what stands before the plan, and from it on

front_of : (xs ys : List (List ℕ)) → AllByRecursion (λ line. is_plan line ≡ false) xs → document_lines (xs ++ ys) ≡ xs ++ document_lines ys
front_of [] ys none = refl
front_of (x ∷ xs) ys none = ap (λ b. cond b [] (x ∷ document_lines (xs ++ ys))) none.0 ∙ ap (λ (ls : List (List ℕ)). x ∷ ls) (front_of xs ys none.1)

rest_of : (xs ys : List (List ℕ)) → AllByRecursion (λ line. is_plan line ≡ false) xs → plan_lines (xs ++ ys) ≡ plan_lines ys
rest_of [] ys none = refl
rest_of (x ∷ xs) ys none = ap (λ b. cond b (x ∷ (xs ++ ys)) (plan_lines (xs ++ ys))) none.0 ∙ rest_of xs ys none.1

-- the rest begins with the line `plan`, or there is none
abbrev pub IsPlanFirst : List (List ℕ) → Type 0
IsPlanFirst lines = (lines ≡ []) ⊎ (has_plan_first lines ≡ true)

document_none : (lines : List (List ℕ)) → IsPlanFirst lines → document_lines lines ≡ []
document_none [] h = refl
document_none (x ∷ lines) (inl no_line) = absurd cc
document_none (x ∷ lines) (inr is) = ap (λ b. cond b [] (x ∷ document_lines lines)) is

plan_all : (lines : List (List ℕ)) → IsPlanFirst lines → plan_lines lines ≡ lines
plan_all [] h = refl
plan_all (x ∷ lines) (inl no_line) = absurd cc
plan_all (x ∷ lines) (inr is) = ap (λ b. cond b (x ∷ lines) (plan_lines lines)) is

pub split_front : (bytes : List ℕ) (at : ℕ) → IsBefore bytes at → IsPlanFirst (lines_of (drop at bytes)) → lines_of (take at bytes) ≡ document_lines (lines_of bytes)
split_front bytes at h first =
    sym (ap document_lines h.lines ∙ front_of (lines_of (take at bytes)) (lines_of (drop at bytes)) h.none ∙ ap (λ (ls : List (List ℕ)). lines_of (take at bytes) ++ ls) (document_none (lines_of (drop at bytes)) first)
    ∙ append-nil (lines_of (take at bytes)))

pub split_rest : (bytes : List ℕ) (at : ℕ) → IsBefore bytes at → IsPlanFirst (lines_of (drop at bytes)) → lines_of (drop at bytes) ≡ plan_lines (lines_of bytes)
split_rest bytes at h first =
    sym (ap plan_lines h.lines ∙ rest_of (lines_of (take at bytes)) (lines_of (drop at bytes)) h.none ∙ plan_all (lines_of (drop at bytes)) first)

-- nothing is left
pub none_left : (bytes : List ℕ) (at : ℕ) → length bytes ≤ at → IsPlanFirst (lines_of (drop at bytes))
none_left bytes at le = inl (ap lines_of (drop_of_length-le bytes le))
