-- Arguments fit parameters just where the tests of them say so.
use Rattle.std.proofs.Common.{◌≡◌, inl, inr, ℕ, zero, suc, ◌+◌, ◌<◌, ◌≤◌, Bool, true, false, ◌&&◌, ◌||◌, nat_eq, nat_le, nat_lt, List, [], ◌∷◌, drop, length, get_or, refl, sym, ap, ◌∙◌, subst, arith, Some, None}
use Rattle.std.specs.List.{slice_get, AllZip}
use Rattle.std.proofs.lemmas.Bool.{cases_eq, eq-eqb, ne_eqb, eqb-true, leb-true, ltb-true, le-leb, lt-ltb}
use Rattle.std.proofs.lemmas.Option.{slice_get_within, slice_get-get_or, get_or_from_slice_get}
use Rattle.std.proofs.lemmas.List.{drop_more, drop_all}
use Rattle.ind_base.specs.declared.span.Span.{Span}
use Rattle.spec_model.specs.declared.clause.Var.{Var}
use Rattle.spec_model.specs.declared.instance.Inst.{Inst}
use Rattle.spec_model.specs.declared.operation.Op.{Op}
use Rattle.spec_model.specs.declared.spec.Spec.{Spec}
use Rattle.spec_model.specs.Fits.{ArgFits, InstFits}
use Rattle.spec_model.specs.Truths.{Within, size_of, op_at, no_span, no_op}
use Rattle.effect_model.specs.Fitting.{arg_fits, args_fit, arg_at_fits}

-- the next argument, and those behind it
next_arg : (spec : Spec) (p : Var) (params : List Var) (args : List Span) (i k : ℕ) → k ≡ i + 1 → args_fit spec (p ∷ params) (drop i args) ≡ (arg_at_fits spec p args i && args_fit spec params (drop k args))
next_arg spec p params [] zero k is = refl
next_arg spec p params [] (suc i) k is = refl
next_arg spec p params (a ∷ args) zero k is = ap (λ n. arg_fits spec p a && args_fit spec params (drop n (a ∷ args))) (sym is)
next_arg spec p params (a ∷ args) (suc i) zero is = absurd (omega arith)
next_arg spec p params (a ∷ args) (suc i) (suc k) is = next_arg spec p params args i k (omega arith)

pub arg_step : (spec : Spec) (params : List Var) (args : List Span) (i : ℕ) (p : Var) → i < length params → p ≡ get_or params i p
    → args_fit spec (drop i params) (drop i args) ≡ (arg_at_fits spec p args i && args_fit spec (drop (i + 1) params) (drop (i + 1) args))
arg_step spec params args i p lt is =
    ap (λ (ps : List Var). args_fit spec ps (drop i args)) (drop_more params i p lt ∙ ap (λ (q : Var). q ∷ drop (i + 1) params) (sym is)) ∙ next_arg spec p (drop (i + 1) params) args i (i + 1) refl

pub arg_inside : (spec : Spec) (p : Var) (args : List Span) (i : ℕ) → arg_at_fits spec p args i ≡ true → i < length args
arg_inside spec p [] i e = absurd cc
arg_inside spec p (a ∷ args) zero e = omega arith
arg_inside spec p (a ∷ args) (suc i) e = let less = arg_inside spec p args i e in omega arith

none_left : (spec : Spec) (args : List Span) (i : ℕ) → i ≤ length args → nat_eq (length args) i ≡ args_fit spec [] (drop i args)
none_left spec args i inside = elim (cases_eq (length args) i) [
  | inl same ↦ eq-eqb (length args) i same ∙ ap (args_fit spec []) (sym (drop_all i args (omega arith)))
  | inr other ↦ ne_eqb (length args) i other ∙ ap (args_fit spec []) (sym (drop_more args i no_span (omega arith)))
]

-- no parameter is left
pub args_end : (spec : Spec) (params : List Var) (args : List Span) (i : ℕ) (all : Bool) → length params ≤ i → i ≤ length params → i ≤ length args → args_fit spec (drop i params) (drop i args) ≡ all → nat_eq (length args) (length params) ≡ all
args_end spec params args i all past upto inside so_far =
    let ends : length params ≡ i = omega arith in
    ap (nat_eq (length args)) ends ∙ none_left spec args i inside ∙ ap (λ (ps : List Var). args_fit spec ps (drop i args)) (sym (drop_all i params past)) ∙ so_far

-- ---- what the tests mean

both_true : (a b : Bool) → (a && b) ≡ true → (a ≡ true) × (b ≡ true)
both_true true b e = (refl, e)
both_true false b e = absurd cc

and_true : (a b : Bool) → a ≡ true → b ≡ true → (a && b) ≡ true
and_true a b p q = rw (p, q) refl

plain_same : (interval : Bool) (lo hi : ℕ) → (interval || nat_eq lo hi) ≡ true → interval ≡ false → lo ≡ hi
plain_same true lo hi e plain = absurd cc
plain_same false lo hi e plain = eqb-true lo hi e

same_plain : (interval : Bool) (lo hi : ℕ) → (interval ≡ false → lo ≡ hi) → (interval || nat_eq lo hi) ≡ true
same_plain true lo hi f = refl
same_plain false lo hi f = eq-eqb lo hi (f refl)

arg_sound : (spec : Spec) (p : Var) (a : Span) → arg_fits spec p a ≡ true → ArgFits spec p a
unfolding arg_fits
arg_sound spec p a e =
    let whole = both_true (nat_le a.lo a.hi && nat_lt a.hi (size_of spec p.sort)) (p.interval || nat_eq a.lo a.hi) e in
    let ends = both_true (nat_le a.lo a.hi) (nat_lt a.hi (size_of spec p.sort)) whole.0 in
    record { ordered = leb-true a.lo a.hi ends.0; fits = ltb-true a.hi (size_of spec p.sort) ends.1; plain = plain_same p.interval a.lo a.hi whole.1 }

arg_complete : (spec : Spec) (p : Var) (a : Span) → ArgFits spec p a → arg_fits spec p a ≡ true
unfolding arg_fits
arg_complete spec p a f =
    and_true (nat_le a.lo a.hi && nat_lt a.hi (size_of spec p.sort)) (p.interval || nat_eq a.lo a.hi)
    (and_true (nat_le a.lo a.hi) (nat_lt a.hi (size_of spec p.sort)) (le-leb a.lo a.hi f.ordered) (lt-ltb a.hi (size_of spec p.sort) f.fits)) (same_plain p.interval a.lo a.hi f.plain)

pub args_sound : (spec : Spec) (params : List Var) (args : List Span) → args_fit spec params args ≡ true → AllZip (ArgFits spec) params args
args_sound spec [] [] e = tt
args_sound spec [] (a ∷ args) e = absurd cc
args_sound spec (p ∷ params) [] e = absurd cc
args_sound spec (p ∷ params) (a ∷ args) e = let both = both_true (arg_fits spec p a) (args_fit spec params args) e in (arg_sound spec p a both.0, args_sound spec params args both.1)

pub args_complete : (spec : Spec) (params : List Var) (args : List Span) → AllZip (ArgFits spec) params args → args_fit spec params args ≡ true
args_complete spec [] [] f = refl
args_complete spec [] (a ∷ args) f = absurd f
args_complete spec (p ∷ params) [] f = absurd f
args_complete spec (p ∷ params) (a ∷ args) f = and_true (arg_fits spec p a) (args_fit spec params args) (arg_complete spec p a f.0) (args_complete spec params args f.1)

-- an operation that is there, or isn't
pub op_there : (ops : List Op) (i : ℕ) (op : Op) → Some op ≡ slice_get ops i → (i < length ops) × (get_or ops i no_op ≡ op)
op_there ops i op at = (slice_get_within ops i op (sym at), get_or_from_slice_get ops i op no_op (sym at))

pub op_missing : (ops : List Op) (i : ℕ) → None ≡ slice_get ops i → i < length ops → ⊥
op_missing ops i none lt = let there : None ≡ Some (get_or ops i no_op) = none ∙ slice_get-get_or ops i no_op lt in absurd cc

-- the test of a declared operation's arguments is that of the instance
pub inst_says : (spec : Spec) (inst : Inst) (op : Op) (params : List Var) (test : Bool) → Some op ≡ slice_get spec.ops inst.op → params ≡ op.params → test ≡ args_fit spec params inst.args
    → (test ≡ true → InstFits spec inst) × (InstFits spec inst → test ≡ true)
inst_says spec inst op params test at params_are test_is =
    let there = op_there spec.ops inst.op op at in
    let declared : params ≡ (op_at spec inst.op).params = params_are ∙ sym (ap (λ (o : Op). o.params) there.1) in (
      λ yes_is. record {
        known = there.0;
        args_fit = subst (λ (ps : List Var). AllZip (ArgFits spec) ps inst.args) declared (args_sound spec params inst.args (sym test_is ∙ yes_is));
      },
      λ fits. test_is ∙ args_complete spec params inst.args (subst (λ (ps : List Var). AllZip (ArgFits spec) ps inst.args) (sym declared) fits.args_fit),
    )

-- ---- elements of sorts

-- where a sort is left, and no element, they are no elements of these sorts
pub short_elements : (size : ℕ → ℕ) (args sorts : List ℕ) (i : ℕ) → i < length sorts → length args < 1 → Within size (drop i sorts) args → ⊥
short_elements size (x ∷ args) sorts i lt none within = absurd (omega (arith, none))
short_elements size [] [] i lt none within = absurd (omega (arith, lt))
short_elements size [] (s ∷ sorts) zero lt none within = within
short_elements size [] (s ∷ sorts) (suc i) lt none within = short_elements size [] sorts i (omega (arith, lt)) none within
