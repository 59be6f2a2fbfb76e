-- The numbers of variables.
use Rattle.std.proofs.Common.{◌≡◌, ℕ, Bool, true, false, cond, not, eqb, List, [], ◌∷◌, refl, sym, ap, subst, ◌∙◌}
use Rattle.std.specs.List.{list_any, AllByRecursion, flat_map}
use mathlib.Core.Bool.{beq}
use Rattle.std.proofs.lemmas.Bool.{or_left, and_parts, and_from, true≢false, eqb-true, eq-eqb}
use Rattle.ground_clauses.proofs.Forms.{TellsAtom, TellsLiteral, value}
use Rattle.ground_clauses.proofs.Lists.{any_dedup, any_flat_map, each_weaker, each_within, flat_map_each, value_at_index}
use Rattle.ground_clauses.proofs.Values.{value_at}
use Rattle.ground_clauses.specs.Derivations.{lit_true}
use Rattle.ground_clauses.specs.Query.{Hypothesis, Sets, atom_of, atom_variables, atoms_of, entry_at, entry_variables, index_of, instance_atoms, literal_atoms, numbered, opposite, same_atom, same_list, same_lit, same_moment, same_variable, state_lit, variable, variables_of}
use Rattle.ground_clauses.specs.declared.state_lit.StateLit.{StateLit}
use Rattle.ground_clauses.specs.declared.state_lit.Variable.{Variable}
use Rattle.spec_model.specs.Truths.{Truths, literals, values}
use Rattle.spec_model.specs.declared.clause.Literal.{Literal}
use Rattle.spec_model.specs.declared.clause.Literal.TheVariants.{Atom, Equal}
use Rattle.spec_model.specs.declared.instance.Atom.{Atom as ClassAtom}
use Rattle.spec_model.specs.declared.spec.Spec.{Spec}
use Rattle.spec_model.specs.declared.state.Entry.TheVariants.{Same}
use Rattle.spec_model.specs.declared.state.Moment.{Moment}
use Rattle.spec_model.specs.declared.state.Moment.TheVariants.{Both, First, Second, Start}

pub same_list-true : (xs ys : List ℕ) → same_list xs ys ≡ true → xs ≡ ys
same_list-true [] [] h = refl
same_list-true [] (y ∷ ys) h = absurd (true≢false (sym h))
same_list-true (x ∷ xs) [] h = absurd (true≢false (sym h))
same_list-true (x ∷ xs) (y ∷ ys) h =
    let k = and_parts (eqb x y) (same_list xs ys) h in
    let a : x ≡ y = eqb-true x y k.0 in
    let b : xs ≡ ys = same_list-true xs ys k.1 in cc

pub same_list_itself : (xs : List ℕ) → same_list xs xs ≡ true
same_list_itself [] = refl
same_list_itself (x ∷ xs) = and_from (eqb x x) (same_list xs xs) (eq-eqb x x refl) (same_list_itself xs)

pub same_atom-true : (a b : ClassAtom) → same_atom a b ≡ true → a ≡ b
same_atom-true a b h =
    let k = and_parts (eqb a.pred b.pred) (same_list a.args b.args) h in
    ap (λ p. atom_of p a.args) (eqb-true a.pred b.pred k.0) ∙ ap (λ xs. atom_of b.pred xs) (same_list-true a.args b.args k.1)

pub same_atom_itself : (a : ClassAtom) → same_atom a a ≡ true
same_atom_itself a = and_from (eqb a.pred a.pred) (same_list a.args a.args) (eq-eqb a.pred a.pred refl) (same_list_itself a.args)

same_moment_itself : (m : Moment) → same_moment m m ≡ true
same_moment_itself Start = refl
same_moment_itself First = refl
same_moment_itself Second = refl
same_moment_itself Both = refl

pub same_moment-true : (m k : Moment) → same_moment m k ≡ true → m ≡ k
same_moment-true Start Start h = refl
same_moment-true First First h = refl
same_moment-true Second Second h = refl
same_moment-true Both Both h = refl
same_moment-true Start First h = absurd (true≢false (sym h))
same_moment-true Start Second h = absurd (true≢false (sym h))
same_moment-true Start Both h = absurd (true≢false (sym h))
same_moment-true First Start h = absurd (true≢false (sym h))
same_moment-true First Second h = absurd (true≢false (sym h))
same_moment-true First Both h = absurd (true≢false (sym h))
same_moment-true Second Start h = absurd (true≢false (sym h))
same_moment-true Second First h = absurd (true≢false (sym h))
same_moment-true Second Both h = absurd (true≢false (sym h))
same_moment-true Both Start h = absurd (true≢false (sym h))
same_moment-true Both First h = absurd (true≢false (sym h))
same_moment-true Both Second h = absurd (true≢false (sym h))

pub same_variable-true : (x y : Variable) → same_variable x y ≡ true → x ≡ y
same_variable-true x y h =
    let k = and_parts (same_atom x.atom y.atom) (same_moment x.moment y.moment) h in
    ap (λ a. variable a x.moment) (same_atom-true x.atom y.atom k.0) ∙ ap (λ m. variable y.atom m) (same_moment-true x.moment y.moment k.1)

beq-true : (x y : Bool) → beq x y ≡ true → x ≡ y
beq-true true true h = refl
beq-true false false h = refl
beq-true true false h = absurd (true≢false (sym h))
beq-true false true h = absurd (true≢false (sym h))

pub same_lit-true : (x y : StateLit) → same_lit x y ≡ true → x ≡ y
same_lit-true x y h =
    let k = and_parts (same_variable x.var y.var) (beq x.yes y.yes) h in
    ap (λ v. state_lit v x.yes) (same_variable-true x.var y.var k.0) ∙ ap (λ b. state_lit y.var b) (beq-true x.yes y.yes k.1)

pub same_variable_itself : (x : Variable) → same_variable x x ≡ true
same_variable_itself x = and_from (same_atom x.atom x.atom) (same_moment x.moment x.moment) (same_atom_itself x.atom) (same_moment_itself x.moment)

-- an atom's own variable is among its variables
own_here : (spec : Spec) (sets : Sets) (a : ClassAtom) (k : Moment) → entry_at spec sets a k ≡ Same k → list_any (same_variable (variable a k)) (entry_variables a k (entry_at spec sets a k)) ≡ true
own_here spec sets a k own =
    subst (λ e. list_any (same_variable (variable a k)) (entry_variables a k e) ≡ true) (sym own)
    (subst (λ b. list_any (same_variable (variable a k)) (cond b (variable a k ∷ []) []) ≡ true) (sym (same_moment_itself k))
    (or_left (same_variable (variable a k) (variable a k)) false (same_variable_itself (variable a k))))

four : (k : Moment) → list_any (same_moment k) (Start ∷ First ∷ Second ∷ Both ∷ []) ≡ true
four Start = refl
four First = refl
four Second = refl
four Both = refl

pub own_listed : (spec : Spec) (sets : Sets) (atoms : List ClassAtom) (a : ClassAtom) (k : Moment) → list_any (same_atom a) atoms ≡ true → entry_at spec sets a k ≡ Same k
    → list_any (same_variable (variable a k)) (flat_map (atom_variables spec sets) atoms) ≡ true
own_listed spec sets atoms a k listed own =
    any_flat_map (same_atom a) (same_variable (variable a k)) (atom_variables spec sets) atoms
    (λ b is. subst (λ c. list_any (same_variable (variable a k)) (atom_variables spec sets c) ≡ true) (same_atom-true a b is)
    (any_flat_map (same_moment k) (same_variable (variable a k)) (λ m. entry_variables a m (entry_at spec sets a m)) (Start ∷ First ∷ Second ∷ Both ∷ [])
    (λ m same_m. subst (λ n. list_any (same_variable (variable a k)) (entry_variables a n (entry_at spec sets a n)) ≡ true) (same_moment-true k m same_m) (own_here spec sets a k own))
    (four k)))
    listed

-- the values of the numbers
abbrev pub values_by : Spec → Sets → (Moment → Truths) → List Hypothesis → ℕ → Bool
values_by spec sets q hs n = value_at (value spec q) (variables_of spec sets hs) n

abbrev pub numbered_true : Spec → Sets → (Moment → Truths) → List Hypothesis → StateLit → Bool
numbered_true spec sets q hs x = lit_true (values_by spec sets q hs) (numbered (variables_of spec sets hs) x)

pub tells_atom : (spec : Spec) (sets : Sets) (q : Moment → Truths) (hs : List Hypothesis) (a : ClassAtom) → list_any (same_atom a) (atoms_of hs) ≡ true → TellsAtom spec sets q (numbered_true spec sets q hs) a
tells_atom spec sets q hs a listed k b own =
    ap (λ t. beq t b) (value_at_index (value spec q) (same_variable (variable a k)) (value spec q (variable a k)) (variables_of spec sets hs)
    (λ y is. ap (value spec q) (sym (same_variable-true (variable a k) y is)))
    (own_listed spec sets (atoms_of hs) a k listed own))

pub respects : (spec : Spec) (sets : Sets) (q : Moment → Truths) (hs : List Hypothesis) (x y : StateLit) → same_lit x y ≡ true → numbered_true spec sets q hs x ≡ numbered_true spec sets q hs y
respects spec sets q hs x y is = ap (numbered_true spec sets q hs) (same_lit-true x y is)

pub beq_not : (t b : Bool) → beq t (not b) ≡ not (beq t b)
beq_not true true = refl
beq_not true false = refl
beq_not false true = refl
beq_not false false = refl

pub opposite_says : (spec : Spec) (sets : Sets) (q : Moment → Truths) (hs : List Hypothesis) (x : StateLit) → numbered_true spec sets q hs (opposite x) ≡ not (numbered_true spec sets q hs x)
opposite_says spec sets q hs x = beq_not (values_by spec sets q hs (index_of (same_variable x.var) (variables_of spec sets hs))) x.yes

-- ---- each atom of a hypothesis is listed

abbrev pub Listed : List Hypothesis → ClassAtom → Type 0
Listed hs a = list_any (same_atom a) (atoms_of hs) ≡ true

pub atoms_listed : (hs : List Hypothesis) → AllByRecursion (λ h. AllByRecursion (Listed hs) (instance_atoms h)) hs
atoms_listed hs =
    flat_map_each (Listed hs) instance_atoms hs
    (each_within same_atom (atoms_of hs) (flat_map instance_atoms hs) same_atom_itself
    (λ a is. any_dedup same_atom (same_atom a) (flat_map instance_atoms hs) (λ x y e. ap (same_atom a) (same_atom-true x y e)) is))

literal_tells : (spec : Spec) (sets : Sets) (q : Moment → Truths) (hs : List Hypothesis) (cs : List ℕ) (l : Literal) → AllByRecursion (Listed hs) (literal_atoms cs l) → TellsLiteral spec sets q (numbered_true spec sets q hs) cs l
literal_tells spec sets q hs cs (Atom p vars) h = tells_atom spec sets q hs (atom_of p (values cs vars)) h.0
literal_tells spec sets q hs cs (Equal l r) h = tt

pub instance_tells : (spec : Spec) (sets : Sets) (q : Moment → Truths) (hs : List Hypothesis) (h : Hypothesis) → AllByRecursion (Listed hs) (instance_atoms h)
    → AllByRecursion (λ l. TellsLiteral spec sets q (numbered_true spec sets q hs) h.classes l.literal) (literals h.clause)
instance_tells spec sets q hs h listed =
    each_weaker (λ l. AllByRecursion (Listed hs) (literal_atoms h.classes l.literal)) (λ l. TellsLiteral spec sets q (numbered_true spec sets q hs) h.classes l.literal) (literals h.clause)
    (λ l k. literal_tells spec sets q hs h.classes l.literal k)
    (flat_map_each (Listed hs) (λ l. literal_atoms h.classes l.literal) (literals h.clause) listed)
