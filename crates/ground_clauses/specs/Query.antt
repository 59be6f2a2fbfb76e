-- The query of a target: its hypotheses in three states, the table of each atom, and the target denied with both.
use Rattle.std.specs.Prelude.{ℕ, suc, Bool, true, false, ◌&&◌, ◌||◌, not, if◌then◌else◌, eqb, List, [], ◌∷◌, ◌++◌, get_or, map, filter, flat_map, Option}
use Rattle.std.specs.List.{list_any}
use mathlib.Core.Bool.{beq}
use Rattle.ground_clauses.specs.declared.clauses.Lit.{Lit}
use Rattle.ground_clauses.specs.declared.state_lit.Form.{Form}
use Rattle.ground_clauses.specs.declared.state_lit.Form.TheVariants.{Constant, Open}
use Rattle.ground_clauses.specs.declared.state_lit.StateLit.{StateLit}
use Rattle.ground_clauses.specs.declared.state_lit.Variable.{Variable}
use Rattle.spec_model.specs.Stable.{entry, rises, touch_of}
use Rattle.spec_model.specs.Truths.{Signed, literals, values, wins}
use Rattle.spec_model.specs.declared.clause.Clause.{Clause}
use Rattle.spec_model.specs.declared.clause.Literal.{Literal}
use Rattle.spec_model.specs.declared.clause.Literal.TheVariants.{Atom, Equal}
use Rattle.spec_model.specs.declared.instance.Atom.{Atom as ClassAtom}
use Rattle.spec_model.specs.declared.spec.Spec.{Spec}
use Rattle.spec_model.specs.declared.state.Entry.{Entry}
use Rattle.spec_model.specs.declared.state.Entry.TheVariants.{Always, Same}
use Rattle.spec_model.specs.declared.state.Moment.{Moment}
use Rattle.spec_model.specs.declared.state.Moment.TheVariants.{Both, First, Second, Start}
use Rattle.spec_model.specs.declared.state.Rise.{Rise}

-- what the two operations of a case set at classes
pub record Sets : Type 0 where
  pub one : ℕ → List ℕ → Option Bool
  pub other : ℕ → List ℕ → Option Bool

abbrev pub atom_of : ℕ → List ℕ → ClassAtom
atom_of p xs = record { pred = p; args = xs }

-- whether an atom has its winning value in one of the four states
abbrev pub variable : ClassAtom → Moment → Variable
variable a m = record { atom = a; moment = m }

abbrev pub state_lit : Variable → Bool → StateLit
state_lit x b = record { var = x; yes = b }

abbrev pub winner : Spec → ClassAtom → Bool
winner spec a = wins spec a.pred

abbrev pub entry_at : Spec → Sets → ClassAtom → Moment → Entry
entry_at spec sets a m = entry (touch_of (winner spec a) (sets.one a.pred a.args)) (touch_of (winner spec a) (sets.other a.pred a.args)) m

abbrev pub rises_at : Spec → Sets → ClassAtom → List Rise
rises_at spec sets a = rises (touch_of (winner spec a) (sets.one a.pred a.args)) (touch_of (winner spec a) (sets.other a.pred a.args))

-- ---- literals in a state

abbrev pub atom_form : Spec → Bool → ClassAtom → Entry → Form
atom_form spec sign a (Same k) = Open (state_lit (variable a k) (beq (winner spec a) sign))
atom_form spec sign a Always = Constant (beq (winner spec a) sign)

abbrev pub literal_form : Spec → Sets → Moment → List ℕ → Bool → Literal → Form
literal_form spec sets m cs sign (Atom p vars) = atom_form spec sign (atom_of p (values cs vars)) (entry_at spec sets (atom_of p (values cs vars)) m)
literal_form spec sets m cs sign (Equal l r) = Constant (beq (eqb (get_or cs l 0) (get_or cs r 0)) sign)

abbrev pub signed_form : Spec → Sets → Moment → List ℕ → Signed → Form
signed_form spec sets m cs l = literal_form spec sets m cs l.sign l.literal

abbrev pub forms : Spec → Sets → Moment → List ℕ → Clause → List Form
forms spec sets m cs c = map (signed_form spec sets m cs) (literals c)

-- ---- tests

abbrev pub same_list : List ℕ → List ℕ → Bool
same_list [] [] = true
same_list [] (y ∷ ys) = false
same_list (x ∷ xs) [] = false
same_list (x ∷ xs) (y ∷ ys) = eqb x y && same_list xs ys

abbrev pub same_atom : ClassAtom → ClassAtom → Bool
same_atom a b = eqb a.pred b.pred && same_list a.args b.args

abbrev pub same_moment : Moment → Moment → Bool
same_moment Start Start = true
same_moment First First = true
same_moment Second Second = true
same_moment Both Both = true
same_moment _ _ = false

abbrev pub same_variable : Variable → Variable → Bool
same_variable x y = same_atom x.atom y.atom && same_moment x.moment y.moment

abbrev pub same_lit : StateLit → StateLit → Bool
same_lit x y = same_variable x.var y.var && beq x.yes y.yes

abbrev pub opposite : StateLit → StateLit
opposite x = state_lit x.var (not x.yes)

-- ---- clauses

abbrev pub is_certain : Form → Bool
is_certain (Constant truth) = truth
is_certain (Open x) = false

abbrev pub form_lits : Form → List StateLit
form_lits (Constant truth) = []
form_lits (Open x) = x ∷ []

abbrev pub has_both_signs : List StateLit → Bool
has_both_signs [] = false
has_both_signs (x ∷ xs) = list_any (same_lit (opposite x)) xs || has_both_signs xs

-- each element once, where it stands first, but for those already seen
abbrev pub dedup_after : {X : Type 0} → (X → X → Bool) → List X → List X → List X
dedup_after eq seen [] = []
dedup_after eq seen (x ∷ xs) = if list_any (eq x) seen then dedup_after eq seen xs else x ∷ dedup_after eq (seen ++ x ∷ []) xs

abbrev pub dedup : {X : Type 0} → (X → X → Bool) → List X → List X
dedup eq xs = dedup_after eq [] xs

-- the clause of these forms; none, where one is certain or a variable stands in both signs
abbrev pub clause_of : List Form → List (List StateLit)
clause_of fs = let xs = flat_map form_lits fs in if list_any is_certain fs || has_both_signs xs then [] else dedup same_lit xs ∷ []

-- a clause of the specification at classes
pub record Hypothesis : Type 0 where
  pub clause : Clause
  pub classes : List ℕ

abbrev pub literal_atoms : List ℕ → Literal → List ClassAtom
literal_atoms cs (Atom p vars) = atom_of p (values cs vars) ∷ []
literal_atoms cs (Equal l r) = []

abbrev pub instance_atoms : Hypothesis → List ClassAtom
instance_atoms h = flat_map (λ l. literal_atoms h.classes l.literal) (literals h.clause)

abbrev pub hypothesis_clauses : Spec → Sets → Hypothesis → List (List StateLit)
hypothesis_clauses spec sets h = clause_of (forms spec sets Start h.classes h.clause) ++ (clause_of (forms spec sets First h.classes h.clause) ++ clause_of (forms spec sets Second h.classes h.clause))

abbrev pub rise_clause : ClassAtom → Rise → List StateLit
rise_clause a r = state_lit (variable a r.from) false ∷ state_lit (variable a r.to) true ∷ []

abbrev pub atom_clauses : Spec → Sets → ClassAtom → List (List StateLit)
atom_clauses spec sets a = map (rise_clause a) (rises_at spec sets a)

-- the literal is false: no clause where it is so anyway, and the empty one where it can't be
abbrev pub denial : Form → List (List StateLit)
denial (Constant true) = [] ∷ []
denial (Constant false) = []
denial (Open x) = (opposite x ∷ []) ∷ []

abbrev pub literal_is_atom : Literal → Bool
literal_is_atom (Atom p vars) = true
literal_is_atom (Equal l r) = false

abbrev pub is_atom : Signed → Bool
is_atom l = literal_is_atom l.literal

abbrev pub denials : Spec → Sets → Hypothesis → List (List StateLit)
denials spec sets t = flat_map denial (map (signed_form spec sets Both t.classes) (filter is_atom (literals t.clause)))

-- the atoms by their first appearance
abbrev pub atoms_of : List Hypothesis → List ClassAtom
atoms_of hs = dedup same_atom (flat_map instance_atoms hs)

abbrev pub query_clauses : Spec → Sets → Hypothesis → List Hypothesis → List (List StateLit)
query_clauses spec sets t hs = flat_map (hypothesis_clauses spec sets) hs ++ (flat_map (atom_clauses spec sets) (atoms_of hs) ++ denials spec sets t)

-- ---- numbers of variables

abbrev pub entry_variables : ClassAtom → Moment → Entry → List Variable
entry_variables a m Always = []
entry_variables a m (Same k) = if same_moment m k then variable a m ∷ [] else []

-- the states in which the atom has a variable of its own
abbrev pub atom_variables : Spec → Sets → ClassAtom → List Variable
atom_variables spec sets a = flat_map (λ m. entry_variables a m (entry_at spec sets a m)) (Start ∷ First ∷ Second ∷ Both ∷ [])

abbrev pub variables_of : Spec → Sets → List Hypothesis → List Variable
variables_of spec sets hs = flat_map (atom_variables spec sets) (atoms_of hs)

-- the place of the first element that passes
abbrev pub index_of : {X : Type 0} → (X → Bool) → List X → ℕ
index_of test [] = 0
index_of test (x ∷ xs) = if test x then 0 else suc (index_of test xs)

abbrev pub numbered : List Variable → StateLit → Lit
numbered xs x = record { var = index_of (same_variable x.var) xs; yes = x.yes }

-- the clauses over numbered variables
abbrev pub numbered_clauses : Spec → Sets → Hypothesis → List Hypothesis → List (List Lit)
numbered_clauses spec sets t hs = map (map (numbered (variables_of spec sets hs))) (query_clauses spec sets t hs)
