-- Literals, clauses and rows at four states.
use Rattle.std.proofs.Common.{◌≡◌, inl, inr, ℕ, Bool, true, false, ◌||◌, cond, not, List, [], ◌∷◌, map, refl, sym, ap, ◌∙◌}
use Rattle.std.specs.List.{list_any, AllByRecursion, flat_map}
use mathlib.Core.Bool.{beq}
use Rattle.std.proofs.lemmas.Bool.{or_cases, or_left, or_right, true≢false}
use Rattle.ground_clauses.proofs.Lists.{any_dedup, any_map, any_same, each_map, each_weaker}
use Rattle.ground_clauses.specs.Laws.{IsQuadrupleOf}
use Rattle.ground_clauses.specs.Query.{Sets, atom_clauses, atom_form, atom_of, clause_of, dedup, denial, entry_at, form_lits, has_both_signs, is_certain, literal_form, opposite, rise_clause, rises_at, same_lit, signed_form, state_lit, variable, winner}
use Rattle.ground_clauses.specs.declared.state_lit.Form.{Form}
use Rattle.ground_clauses.specs.declared.state_lit.Form.TheVariants.{Constant, Open}
use Rattle.ground_clauses.specs.declared.state_lit.StateLit.{StateLit}
use Rattle.ground_clauses.specs.declared.state_lit.Variable.{Variable}
use Rattle.spec_model.specs.Stable.{Reads, entry, rises, touch_of}
use Rattle.spec_model.specs.Truths.{Signed, Truths, literal_true, signed_true, values}
use Rattle.spec_model.specs.declared.clause.Literal.{Literal}
use Rattle.spec_model.specs.declared.clause.Literal.TheVariants.{Atom, Equal}
use Rattle.spec_model.specs.declared.instance.Atom.{Atom as ClassAtom}
use Rattle.spec_model.specs.declared.spec.Spec.{Spec}
use Rattle.spec_model.specs.declared.state.Entry.{Entry}
use Rattle.spec_model.specs.declared.state.Entry.TheVariants.{Always, Same}
use Rattle.spec_model.specs.declared.state.Moment.{Moment}
use Rattle.spec_model.specs.declared.state.Moment.TheVariants.{Both, First, Second, Start}
use Rattle.spec_model.specs.declared.state.Rise.{Rise}
use Rattle.spec_model.specs.declared.state.Touch.{Touch}
use Rattle.spec_model.specs.declared.state.Touch.TheVariants.{Leaves, Loses, Wins}

-- a variable's value: whether its atom has the winning value in its state
abbrev pub value : Spec → (Moment → Truths) → Variable → Bool
value spec q x = beq (q x.moment x.atom.pred x.atom.args) (winner spec x.atom)

abbrev pub form_true : (StateLit → Bool) → Form → Bool
form_true g (Constant b) = b
form_true g (Open x) = g x

-- ---- the table's own variables
abbrev pub IsOwn : Touch → Touch → Entry → Type 0
IsOwn a b (Same k) = entry a b k ≡ Same k
IsOwn a b Always = Unit {0}

pub entry_own : (a b : Touch) (m : Moment) → IsOwn a b (entry a b m)
entry_own a b Start = refl
entry_own Leaves b First = refl
entry_own Wins b First = tt
entry_own Loses b First = refl
entry_own a Leaves Second = refl
entry_own a Wins Second = tt
entry_own a Loses Second = refl
entry_own Leaves Leaves Both = refl
entry_own Leaves Loses Both = refl
entry_own Loses Leaves Both = refl
entry_own Loses Loses Both = refl
entry_own Leaves Wins Both = tt
entry_own Wins Leaves Both = tt
entry_own Wins Wins Both = tt
entry_own Wins Loses Both = tt
entry_own Loses Wins Both = tt

abbrev pub RiseOwn : Touch → Touch → Rise → Type 0
RiseOwn a b r = (entry a b r.from ≡ Same r.from) × (entry a b r.to ≡ Same r.to)

pub rises_own : (a b : Touch) → AllByRecursion (RiseOwn a b) (rises a b)
rises_own Wins Loses = ((refl, refl), tt)
rises_own Loses Wins = ((refl, refl), tt)
rises_own Loses Leaves = ((refl, refl), tt)
rises_own Leaves Loses = ((refl, refl), tt)
rises_own Loses Loses = ((refl, refl), ((refl, refl), ((refl, refl), ((refl, refl), tt))))
rises_own Leaves Leaves = tt
rises_own Leaves Wins = tt
rises_own Wins Leaves = tt
rises_own Wins Wins = tt

-- ---- literals

-- g tells the truth on the variables of this atom that stand for themselves
abbrev pub TellsAtom : Spec → Sets → (Moment → Truths) → (StateLit → Bool) → ClassAtom → Type 0
TellsAtom spec sets q g a = (k : Moment) (b : Bool) → entry_at spec sets a k ≡ Same k → g (state_lit (variable a k) b) ≡ beq (value spec q (variable a k)) b

bools : (t w s : Bool) → beq (beq t w) (beq w s) ≡ beq t s
bools true true true = refl
bools true true false = refl
bools true false true = refl
bools true false false = refl
bools false true true = refl
bools false true false = refl
bools false false true = refl
bools false false false = refl

atom_says : (spec : Spec) (sets : Sets) (q : Moment → Truths) (g : StateLit → Bool) (a : ClassAtom) (m : Moment) (sign : Bool) (e : Entry)
    → TellsAtom spec sets q g a
    → Reads (winner spec a) (λ k. q k a.pred a.args) m e
    → IsOwn (touch_of (winner spec a) (sets.one a.pred a.args)) (touch_of (winner spec a) (sets.other a.pred a.args)) e
    → form_true g (atom_form spec sign a e) ≡ beq (q m a.pred a.args) sign
atom_says spec sets q g a m sign (Same k) tells reads own =
    tells k (beq (winner spec a) sign) own ∙ bools (q k a.pred a.args) (winner spec a) sign ∙ ap (λ t. beq t sign) (sym reads)
atom_says spec sets q g a m sign Always tells reads own = ap (λ t. beq t sign) (sym reads)

abbrev pub TellsLiteral : Spec → Sets → (Moment → Truths) → (StateLit → Bool) → List ℕ → Literal → Type 0
TellsLiteral spec sets q g cs (Atom p vars) = TellsAtom spec sets q g (atom_of p (values cs vars))
TellsLiteral spec sets q g cs (Equal l r) = Unit {0}

pub literal_says : (spec : Spec) (sets : Sets) (q : Moment → Truths) (g : StateLit → Bool) (m : Moment) (cs : List ℕ) (sign : Bool) (l : Literal)
    → IsQuadrupleOf spec sets.one sets.other q
    → TellsLiteral spec sets q g cs l
    → form_true g (literal_form spec sets m cs sign l) ≡ literal_true (q m) cs sign l
literal_says spec sets q g m cs sign (Atom p vars) row tells =
    atom_says spec sets q g (atom_of p (values cs vars)) m sign (entry_at spec sets (atom_of p (values cs vars)) m) tells
    ((row p (values cs vars)).entries m)
    (entry_own (touch_of (winner spec (atom_of p (values cs vars))) (sets.one p (values cs vars))) (touch_of (winner spec (atom_of p (values cs vars))) (sets.other p (values cs vars))) m)
literal_says spec sets q g m cs sign (Equal l r) row tells = refl

-- the forms of an instance have a true one exactly where the instance is true
pub forms_say : (spec : Spec) (sets : Sets) (q : Moment → Truths) (g : StateLit → Bool) (m : Moment) (cs : List ℕ) (ls : List Signed)
    → IsQuadrupleOf spec sets.one sets.other q
    → AllByRecursion (λ l. TellsLiteral spec sets q g cs l.literal) ls
    → list_any (form_true g) (map (signed_form spec sets m cs) ls) ≡ list_any (signed_true (q m) cs) ls
forms_say spec sets q g m cs ls row tells =
    any_map (form_true g) (signed_form spec sets m cs) ls
    ∙ any_same (λ l. form_true g (signed_form spec sets m cs l)) (signed_true (q m) cs) ls
    (each_weaker (λ l. TellsLiteral spec sets q g cs l.literal) (λ l. form_true g (signed_form spec sets m cs l) ≡ signed_true (q m) cs l) ls
    (λ l t. literal_says spec sets q g m cs l.sign l.literal row t) tells)

-- ---- clauses

abbrev pub ClauseTrue : (StateLit → Bool) → List StateLit → Type 0
ClauseTrue g c = list_any g c ≡ true

lits_true : (g : StateLit → Bool) (fs : List Form) → list_any is_certain fs ≡ false → list_any (form_true g) fs ≡ true → list_any g (flat_map form_lits fs) ≡ true
lits_true g [] c h = h
lits_true g (Constant true ∷ fs) c h = absurd (true≢false c)
lits_true g (Constant false ∷ fs) c h = lits_true g fs c h
lits_true g (Open x ∷ fs) c h = elim (or_cases (g x) (list_any (form_true g) fs) h) [
  | inl here ↦ or_left (g x) (list_any g (flat_map form_lits fs)) here
  | inr there ↦ or_right (g x) (list_any g (flat_map form_lits fs)) (lits_true g fs c there)
]

clause_kept : (g : StateLit → Bool) (fs : List Form) (certain twice : Bool) → list_any is_certain fs ≡ certain → ((x y : StateLit) → same_lit x y ≡ true → g x ≡ g y)
    → list_any (form_true g) fs ≡ true → AllByRecursion (ClauseTrue g) (cond (certain || twice) [] (dedup same_lit (flat_map form_lits fs) ∷ []))
clause_kept g fs true twice c f h = tt
clause_kept g fs false true c f h = tt
clause_kept g fs false false c f h = (any_dedup same_lit g (flat_map form_lits fs) f (lits_true g fs c h), tt)

pub clause_of_true : (g : StateLit → Bool) (fs : List Form) → ((x y : StateLit) → same_lit x y ≡ true → g x ≡ g y) → list_any (form_true g) fs ≡ true → AllByRecursion (ClauseTrue g) (clause_of fs)
clause_of_true g fs f h = clause_kept g fs (list_any is_certain fs) (has_both_signs (flat_map form_lits fs)) refl f h

-- ---- rows

rise_bools : (x y w : Bool) → (x ≡ w → y ≡ w) → (beq (beq x w) false || (beq (beq y w) true || false)) ≡ true
rise_bools true true true h = refl
rise_bools true false true h = absurd (true≢false (sym (h refl)))
rise_bools false y true h = refl
rise_bools true y false h = refl
rise_bools false true false h = absurd (true≢false (h refl))
rise_bools false false false h = refl

pub rises_true : (spec : Spec) (sets : Sets) (q : Moment → Truths) (g : StateLit → Bool) (a : ClassAtom) → IsQuadrupleOf spec sets.one sets.other q → TellsAtom spec sets q g a → AllByRecursion (ClauseTrue g) (atom_clauses spec sets a)
rises_true spec sets q g a row tells =
    let w : Bool = winner spec a in
    let ta : Touch = touch_of w (sets.one a.pred a.args) in
    let tb : Touch = touch_of w (sets.other a.pred a.args) in
    each_map (ClauseTrue g) (rise_clause a) (rises_at spec sets a)
    (rises_each spec sets q g a (rises_at spec sets a) tells (row a.pred a.args).rising (rises_own (touch_of (winner spec a) (sets.one a.pred a.args)) (touch_of (winner spec a) (sets.other a.pred a.args))))
  where
    rises_each : (spec : Spec) (sets : Sets) (q : Moment → Truths) (g : StateLit → Bool) (a : ClassAtom) (rs : List Rise) → TellsAtom spec sets q g a
        → AllByRecursion (λ r. q r.from a.pred a.args ≡ winner spec a → q r.to a.pred a.args ≡ winner spec a) rs
        → AllByRecursion (RiseOwn (touch_of (winner spec a) (sets.one a.pred a.args)) (touch_of (winner spec a) (sets.other a.pred a.args))) rs
        → AllByRecursion (λ r. ClauseTrue g (rise_clause a r)) rs
    rises_each spec sets q g a [] tells h k = tt
    rises_each spec sets q g a (r ∷ rs) tells h k = (
      ap (λ b. b || (g (state_lit (variable a r.to) true) || false)) (tells r.from false k.0.0)
          ∙ ap (λ b. beq (value spec q (variable a r.from)) false || (b || false)) (tells r.to true k.0.1)
          ∙ rise_bools (q r.from a.pred a.args) (q r.to a.pred a.args) (winner spec a) h.0,
      rises_each spec sets q g a rs tells h.1 k.1,
    )

-- ---- the denied target

pub denial_true : (g : StateLit → Bool) (f : Form) → ((x : StateLit) → g (opposite x) ≡ not (g x)) → form_true g f ≡ false → AllByRecursion (ClauseTrue g) (denial f)
denial_true g (Constant true) o h = absurd (true≢false h)
denial_true g (Constant false) o h = tt
denial_true g (Open x) o h = (or_left (g (opposite x)) false (o x ∙ ap not h), tt)
