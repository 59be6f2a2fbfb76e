-- What a query says of its atoms, and literals with the numbers of their variables.
use Rattle.std.specs.Prelude.{◌≡◌, Bool, true, false, ◌&&◌, ◌||◌, eqb, List, [], ◌∷◌, map}
use Rattle.std.specs.List.{list_any, flat_map, AllByRecursion}
use mathlib.Core.Bool.{beq}
use Rattle.ground_clauses.specs.Asking.{CanAsk, sets_in}
use Rattle.ground_clauses.specs.Query.{Sets, entry_at, entry_variables, index_of, opposite, same_lit, same_variable, state_lit, variable, winner}
use Rattle.ground_clauses.specs.declared.clauses.Lit.{Lit}
use Rattle.ground_clauses.specs.declared.literals.KnownLit.{KnownLit}
use Rattle.ground_clauses.specs.declared.literals.KnownForm.{KnownForm}
use Rattle.ground_clauses.specs.declared.literals.KnownForm.TheVariants.{Certain, Open as KnownOpen}
use Rattle.ground_clauses.specs.declared.queries.Asked.{Asked}
use Rattle.ground_clauses.specs.declared.rows.Looking.{Looking}
use Rattle.ground_clauses.specs.declared.rows.Row.{Row}
use Rattle.ground_clauses.specs.declared.rows.Seen.{Seen}
use Rattle.ground_clauses.specs.declared.rows.Seen.TheVariants.{Always as SeenAlways, Same as SeenSame}
use Rattle.ground_clauses.specs.declared.state_lit.Form.{Form}
use Rattle.ground_clauses.specs.declared.state_lit.Form.TheVariants.{Constant, Open}
use Rattle.ground_clauses.specs.declared.state_lit.StateLit.{StateLit}
use Rattle.ground_clauses.specs.declared.state_lit.Variable.{Variable}
use Rattle.ground_clauses.specs.declared.table.Touches.{Touches}
use Rattle.spec_model.specs.Stable.{entry, touch_of}
use Rattle.spec_model.specs.declared.spec.Spec.{Spec}
use Rattle.spec_model.specs.declared.instance.Atom.{Atom as ClassAtom}
use Rattle.spec_model.specs.declared.state.Entry.{Entry}
use Rattle.spec_model.specs.declared.state.Entry.TheVariants.{Always, Same}
use Rattle.spec_model.specs.declared.state.Moment.{Moment}
use Rattle.spec_model.specs.declared.state.Moment.TheVariants.{Both, First, Second, Start}

-- no variable stands twice
abbrev pub AreApart : List Variable → Type 0
AreApart [] = Unit {0}
AreApart (x ∷ xs) = (list_any (same_variable x) xs ≡ false) × AreApart xs

abbrev pub entry_seen : Seen → Entry
entry_seen SeenAlways = Always
entry_seen (SeenSame m n) = Same m

-- the variable of an atom in this state has this number
abbrev pub HasNumber : List Variable → ClassAtom → Seen → Type 0
HasNumber vs a SeenAlways = Unit {0}
HasNumber vs a (SeenSame m n) = n ≡ index_of (same_variable (variable a m)) vs

abbrev pub seen_at : Row → Moment → Seen
seen_at r Start = r.start
seen_at r First = r.first
seen_at r Second = r.second
seen_at r Both = r.both

-- what is seen of an atom in a state is the table's entry, with the number of its variable
pub record IsSeen (q : Asked) (a : ClassAtom) (m : Moment) (s : Seen) : Type 0 where
  pub entry : entry_seen s ≡ entry_at q.spec.now (sets_in q) a m
  pub number : HasNumber q.variables.now a s

-- what two operations do to an atom
abbrev pub touches_at : Spec → Sets → ClassAtom → Touches
touches_at spec sets a = record { first = touch_of (winner spec a) (sets.one a.pred a.args); second = touch_of (winner spec a) (sets.other a.pred a.args) }

pub record IsRow (q : Asked) (r : Row) : Type 0 where
  pub one : r.touches.first ≡ touch_of (winner q.spec.now r.atom) ((sets_in q).one r.atom.pred r.atom.args)
  pub other : r.touches.second ≡ touch_of (winner q.spec.now r.atom) ((sets_in q).other r.atom.pred r.atom.args)
  pub wins : r.wins ≡ winner q.spec.now r.atom
  pub start : IsSeen q r.atom Start r.start
  pub first : IsSeen q r.atom First r.first
  pub second : IsSeen q r.atom Second r.second
  pub both : IsSeen q r.atom Both r.both

abbrev pub row_atom : Row → ClassAtom
row_atom r = r.atom

pub record CanLook (k : Looking) : Type 0 where
  pub can : CanAsk k.asked
  pub apart : AreApart k.asked.variables.now
  pub rows : AllByRecursion (IsRow k.asked) k.rows.now

-- the variables of an atom to which the operations do this
abbrev pub touched_variables : ClassAtom → Touches → List Variable
touched_variables a t = flat_map (λ m. entry_variables a m (entry t.first t.second m)) (Start ∷ First ∷ Second ∷ Both ∷ [])

-- ---- literals with their numbers

abbrev pub lit_in : KnownLit → StateLit
lit_in k = k.lit

abbrev pub lit_of : KnownLit → Lit
lit_of k = record { var = k.number; yes = k.lit.yes }

-- the atom of a row with this truth, where this is seen of it
abbrev pub row_form : Row → Bool → Seen → KnownForm
row_form r sign SeenAlways = Certain (beq r.wins sign)
row_form r sign (SeenSame m n) = KnownOpen (record { lit = state_lit (variable r.atom m) (beq r.wins sign); number = n })

abbrev pub form_of : KnownForm → Form
form_of (Certain b) = Constant b
form_of (KnownOpen k) = Open k.lit

abbrev pub IsNumbered : List Variable → KnownLit → Type 0
IsNumbered vs k = k.number ≡ index_of (same_variable k.lit.var) vs

abbrev pub IsNumberedForm : List Variable → KnownForm → Type 0
IsNumberedForm vs (Certain b) = Unit {0}
IsNumberedForm vs (KnownOpen k) = IsNumbered vs k

abbrev pub same_known : KnownLit → KnownLit → Bool
same_known x y = eqb x.number y.number && same_lit x.lit y.lit

abbrev pub denied : KnownLit → KnownLit
denied k = record { lit = opposite k.lit; number = k.number }

abbrev pub known_both_signs : List KnownLit → Bool
known_both_signs [] = false
known_both_signs (x ∷ xs) = list_any (same_known (denied x)) xs || known_both_signs xs

abbrev pub made_clause : Bool → List KnownLit → List (List StateLit)
made_clause true ks = map lit_in ks ∷ []
made_clause false ks = []
