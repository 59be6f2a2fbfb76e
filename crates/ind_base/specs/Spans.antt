-- Spans, by the lists of their ends.
use Rattle.std.specs.Prelude.{◌≡◌, ℕ, ◌+◌, List, [], ◌∷◌, ◌++◌, length, map, slice_get, Option, Some, None}
use Rattle.std.proofs.Common.{refl, sym, ap, ◌∙◌, arith, zero, suc}
use Rattle.ind_base.specs.declared.span.Span.{Span}

abbrev pub paired : List ℕ → List ℕ → List Span
paired [] highs = []
paired (lo ∷ lows) [] = []
paired (lo ∷ lows) (hi ∷ highs) = record { lo = lo; hi = hi } ∷ paired lows highs

pub lows_back : (lows highs : List ℕ) → length lows ≡ length highs → map (λ (p : Span). p.lo) (paired lows highs) ≡ lows
lows_back [] highs e = refl
lows_back (lo ∷ lows) [] e = absurd cc
lows_back (lo ∷ lows) (hi ∷ highs) e = ap (λ (xs : List ℕ). lo ∷ xs) (lows_back lows highs cc)

pub highs_back : (lows highs : List ℕ) → length lows ≡ length highs → map (λ (p : Span). p.hi) (paired lows highs) ≡ highs
highs_back [] [] e = refl
highs_back [] (hi ∷ highs) e = absurd cc
highs_back (lo ∷ lows) [] e = absurd cc
highs_back (lo ∷ lows) (hi ∷ highs) e = ap (λ (xs : List ℕ). hi ∷ xs) (highs_back lows highs cc)

pub paired-push : (lows highs : List ℕ) (lo hi : ℕ) → length lows ≡ length highs → paired (lows ++ lo ∷ []) (highs ++ hi ∷ []) ≡ paired lows highs ++ record { lo = lo; hi = hi } ∷ []
paired-push [] [] lo hi e = refl
paired-push [] (h ∷ highs) lo hi e = absurd cc
paired-push (l ∷ lows) [] lo hi e = absurd cc
paired-push (l ∷ lows) (h ∷ highs) lo hi e = ap (λ (ps : List Span). record { lo = l; hi = h } ∷ ps) (paired-push lows highs lo hi cc)

pub length-paired : (lows highs : List ℕ) → length lows ≡ length highs → length (paired lows highs) ≡ length lows
length-paired [] highs e = refl
length-paired (l ∷ lows) [] e = absurd cc
length-paired (l ∷ lows) (h ∷ highs) e = ap suc (length-paired lows highs cc)

-- the span between two ends, where both are there
abbrev pub span_between : Option ℕ → Option ℕ → Option Span
span_between None hi = None
span_between (Some lo) None = None
span_between (Some lo) (Some hi) = Some (record { lo = lo; hi = hi })

pub slice_get-paired : (lows highs : List ℕ) (at : ℕ) → length lows ≡ length highs → slice_get (paired lows highs) at ≡ span_between (slice_get lows at) (slice_get highs at)
slice_get-paired [] highs at e = refl
slice_get-paired (l ∷ lows) [] at e = absurd cc
slice_get-paired (l ∷ lows) (h ∷ highs) zero e = refl
slice_get-paired (l ∷ lows) (h ∷ highs) (suc at) e = slice_get-paired lows highs at cc
