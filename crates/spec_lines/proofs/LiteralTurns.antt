-- Literals one after the other, and the mark behind them.
use Rattle.std.proofs.Common.{◌≡◌, ℕ, zero, suc, ◌<◌, true, false, List, [], ◌∷◌, ◌++◌, length, get_or, take, refl, sym, ap, ◌∙◌, arith, append_assoc}
use Rattle.std.specs.Prelude.{Option, Some, None}
use Rattle.line_text.specs.declared.cause.FormError.{FormError}
use Rattle.line_text.specs.declared.cause.FormError.TheVariants as errors
use Rattle.line_text.specs.declared.token.Token.{Token}
use Rattle.line_text.specs.Reads.{◌>>=◌, Fails}
use Rattle.line_text.specs.Forms.{flag_at}
use Rattle.spec_lines.specs.declared.line.NamedLiteral.{NamedLiteral}
use Rattle.spec_lines.specs.Literals.{literal_at, literals_within, is_mask, has_mask, without_mask}

-- what was read before, and what is still read
abbrev pub with_front : List NamedLiteral → Option (List NamedLiteral × List Token) → Option (List NamedLiteral × List Token)
with_front front read = read >>= λ x. Some (front ++ x.0, x.1)

pub literal-refused : (e : FormError) (fuel : ℕ) (word : List ℕ) (ts : List Token) (front : List NamedLiteral) (total : Option (List NamedLiteral × List Token)) → 0 < fuel
    → Fails e (literal_at ts) → with_front front (literals_within fuel word ts) ≡ total → Fails e total
unfolding literals_within
literal-refused errors.Memory fuel word ts front total some is so_far = tt
literal-refused errors.Refused zero word ts front total some is so_far = absurd (omega arith)
literal-refused errors.Refused (suc n) word ts front total some is so_far = sym so_far ∙ rw is refl

pub literal-last : (fuel : ℕ) (word : List ℕ) (ts behind : List Token) (x : NamedLiteral) (front new : List NamedLiteral) (total : Option (List NamedLiteral × List Token)) → 0 < fuel
    → literal_at ts ≡ Some (x, behind) → (flag_at word behind).0 ≡ false → new ≡ front ++ x ∷ [] → with_front front (literals_within fuel word ts) ≡ total → total ≡ Some (new, behind)
unfolding literals_within
literal-last zero word ts behind x front new total some is last pushed so_far = absurd (omega arith)
literal-last (suc n) word ts behind x front new total some is last pushed so_far = sym so_far ∙ rw (is, last, pushed) refl

abbrev ahead : NamedLiteral → Option (List NamedLiteral × List Token) → Option (List NamedLiteral × List Token)
ahead x read = read >>= λ more. Some (x ∷ more.0, more.1)

abbrev put : List Token → List NamedLiteral → Option (List NamedLiteral × List Token)
put rest xs = Some (xs, rest)

front_more : (x : NamedLiteral) (front : List NamedLiteral) (read : Option (List NamedLiteral × List Token)) → with_front front (ahead x read) ≡ with_front (front ++ x ∷ []) read
front_more x front None = refl
front_more x front (Some r) = ap (put r.1) (simp append_assoc)

pub literal-next : (fuel n : ℕ) (word : List ℕ) (ts behind others : List Token) (x : NamedLiteral) (front new : List NamedLiteral) (total : Option (List NamedLiteral × List Token)) → fuel ≡ suc n
    → literal_at ts ≡ Some (x, behind) → (flag_at word behind).0 ≡ true → others ≡ (flag_at word behind).1 → new ≡ front ++ x ∷ []
    → with_front front (literals_within fuel word ts) ≡ total → with_front new (literals_within n word others) ≡ total
unfolding literals_within
literal-next zero n word ts behind others x front new total one is more rest pushed so_far = absurd (omega arith)
literal-next (suc m) n word ts behind others x front new total one is more rest pushed so_far =
    let same : m ≡ n = omega arith in
    rw (pushed, rest, ← same) (sym (front_more x front (literals_within m word (flag_at word behind).1)) ∙ unrolled) ∙ so_far
  where
    unrolled : with_front front (ahead x (literals_within m word (flag_at word behind).1)) ≡ with_front front (literals_within (suc m) word ts)
    unrolled = rw (is, more) refl

pub literal-none : (fuel : ℕ) (word : List ℕ) (ts : List Token) (front : List NamedLiteral) (total : Option (List NamedLiteral × List Token)) → fuel ≡ 0 → with_front front (literals_within fuel word ts) ≡ total → total ≡ None
unfolding literals_within
literal-none zero word ts front total e so_far = sym so_far
literal-none (suc n) word ts front total e so_far = absurd (omega arith)

-- where a last token is `mask`
mask_cut : (n : ℕ) (ts : List Token) (d : Token) → length ts ≡ suc n → is_mask (get_or ts n d) ≡ true → (has_mask ts ≡ true) × (without_mask ts ≡ take n ts)
mask_cut n [] d len is = absurd (omega arith)
mask_cut zero (t ∷ []) d len is = (is, rw is refl)
mask_cut (suc n) (t ∷ []) d len is = absurd (omega arith)
mask_cut zero (t ∷ u ∷ ts) d len is = absurd (omega arith)
mask_cut (suc n) (t ∷ u ∷ ts) d len is =
    let rest = mask_cut n (u ∷ ts) d (omega arith) is in
    (rest.0, ap (λ (xs : List Token). t ∷ xs) rest.1)

mask_keep : (n : ℕ) (ts : List Token) (d : Token) → length ts ≡ suc n → is_mask (get_or ts n d) ≡ false → (has_mask ts ≡ false) × (without_mask ts ≡ ts)
mask_keep n [] d len is = absurd (omega arith)
mask_keep zero (t ∷ []) d len is = (is, rw is refl)
mask_keep (suc n) (t ∷ []) d len is = absurd (omega arith)
mask_keep zero (t ∷ u ∷ ts) d len is = absurd (omega arith)
mask_keep (suc n) (t ∷ u ∷ ts) d len is =
    let rest = mask_keep n (u ∷ ts) d (omega arith) is in
    (rest.0, ap (λ (xs : List Token). t ∷ xs) rest.1)

pub mask_cut_at : (n : ℕ) (ts : List Token) (t : Token) → length ts ≡ suc n → t ≡ get_or ts n t → is_mask t ≡ true → (has_mask ts ≡ true) × (without_mask ts ≡ take n ts)
mask_cut_at n ts t len at is = mask_cut n ts t len (rw (← at) is)

pub mask_keep_at : (n : ℕ) (ts : List Token) (t : Token) → length ts ≡ suc n → t ≡ get_or ts n t → is_mask t ≡ false → (has_mask ts ≡ false) × (without_mask ts ≡ ts)
mask_keep_at n ts t len at is = mask_keep n ts t len (rw (← at) is)
