-- A refuted query_of makes its target true with both.
use Rattle.std.proofs.Common.{◌≡◌, inl, inr, true, false, List, ◌++◌, map, refl, ◌∙◌}
use Rattle.std.specs.List.{list_any, AllByRecursion, flat_map, filter}
use Rattle.std.proofs.lemmas.Bool.{cases_Bool}
use Rattle.std.proofs.lemmas.List.Elements.{All-contains, All-from_recursion}
use Rattle.ground_clauses.proofs.Forms.{ClauseTrue, TellsLiteral, clause_of_true, denial_true, forms_say, literal_says, rises_true}
use Rattle.ground_clauses.proofs.Lists.{any_map, each_append, each_both, each_filter, each_flat_map, each_itself, each_map, each_weaker, none_each}
use Rattle.ground_clauses.proofs.Numbers.{Listed, atoms_listed, instance_tells, numbered_true, opposite_says, respects, same_atom_itself, tells_atom, values_by}
use Rattle.ground_clauses.specs.Derivations.{lit_true}
use Rattle.ground_clauses.specs.Laws.{IsQuadrupleOf, RefutedHolds, before_both}
use Rattle.ground_clauses.specs.Query.{Hypothesis, Sets, atom_clauses, atoms_of, clause_of, denial, denials, forms, hypothesis_clauses, instance_atoms, is_atom, numbered, query_clauses, same_atom, signed_form, variables_of}
use Rattle.spec_model.specs.Truths.{Truths, instance_true, literals, signed_true}
use Rattle.spec_model.specs.declared.spec.Spec.{Spec}
use Rattle.spec_model.specs.declared.state.Moment.{Moment}
use Rattle.spec_model.specs.declared.state.Moment.TheVariants.{Both, First, Second, Start}

abbrev pub TrueBefore : (Moment → Truths) → Hypothesis → Type 0
TrueBefore q h = (m : Moment) → before_both m ≡ true → instance_true (q m) h.classes h.clause ≡ true

hypothesis_holds : (spec : Spec) (sets : Sets) (q : Moment → Truths) (hs : List Hypothesis) (h : Hypothesis) → IsQuadrupleOf spec sets.one sets.other q
    → AllByRecursion (Listed hs) (instance_atoms h) → TrueBefore q h → AllByRecursion (ClauseTrue (numbered_true spec sets q hs)) (hypothesis_clauses spec sets h)
hypothesis_holds spec sets q hs h row listed holds =
    let one = λ (m : Moment) (b : before_both m ≡ true).
    clause_of_true (numbered_true spec sets q hs) (forms spec sets m h.classes h.clause) (respects spec sets q hs)
    (forms_say spec sets q (numbered_true spec sets q hs) m h.classes (literals h.clause) row (instance_tells spec sets q hs h listed) ∙ holds m b) in
    each_append (ClauseTrue (numbered_true spec sets q hs)) (clause_of (forms spec sets Start h.classes h.clause)) (clause_of (forms spec sets First h.classes h.clause) ++ clause_of (forms spec sets Second h.classes h.clause)) (one Start refl)
    (each_append (ClauseTrue (numbered_true spec sets q hs)) (clause_of (forms spec sets First h.classes h.clause)) (clause_of (forms spec sets Second h.classes h.clause)) (one First refl) (one Second refl))

denials_hold : (spec : Spec) (sets : Sets) (q : Moment → Truths) (hs : List Hypothesis) (t : Hypothesis) → IsQuadrupleOf spec sets.one sets.other q
    → AllByRecursion (Listed hs) (instance_atoms t) → instance_true (q Both) t.classes t.clause ≡ false → AllByRecursion (ClauseTrue (numbered_true spec sets q hs)) (denials spec sets t)
denials_hold spec sets q hs t row listed denied =
    each_flat_map (ClauseTrue (numbered_true spec sets q hs)) denial (map (signed_form spec sets Both t.classes) (filter is_atom (literals t.clause)))
    (each_map (λ f. AllByRecursion (ClauseTrue (numbered_true spec sets q hs)) (denial f)) (signed_form spec sets Both t.classes) (filter is_atom (literals t.clause))
    (each_filter (λ l. AllByRecursion (ClauseTrue (numbered_true spec sets q hs)) (denial (signed_form spec sets Both t.classes l))) is_atom (literals t.clause)
    (each_weaker (λ l. TellsLiteral spec sets q (numbered_true spec sets q hs) t.classes l.literal × (signed_true (q Both) t.classes l ≡ false))
    (λ l. AllByRecursion (ClauseTrue (numbered_true spec sets q hs)) (denial (signed_form spec sets Both t.classes l))) (literals t.clause)
    (λ l h. denial_true (numbered_true spec sets q hs) (signed_form spec sets Both t.classes l) (opposite_says spec sets q hs)
    (literal_says spec sets q (numbered_true spec sets q hs) Both t.classes l.sign l.literal row h.0 ∙ h.1))
    (each_both (λ l. TellsLiteral spec sets q (numbered_true spec sets q hs) t.classes l.literal) (λ l. signed_true (q Both) t.classes l ≡ false) (literals t.clause)
    (instance_tells spec sets q hs t listed) (none_each (signed_true (q Both) t.classes) (literals t.clause) denied)))))

rows_hold : (spec : Spec) (sets : Sets) (q : Moment → Truths) (hs : List Hypothesis) → IsQuadrupleOf spec sets.one sets.other q
    → AllByRecursion (ClauseTrue (numbered_true spec sets q hs)) (flat_map (atom_clauses spec sets) (atoms_of hs))
rows_hold spec sets q hs row =
    each_flat_map (ClauseTrue (numbered_true spec sets q hs)) (atom_clauses spec sets) (atoms_of hs)
    (each_weaker (Listed hs) (λ a. AllByRecursion (ClauseTrue (numbered_true spec sets q hs)) (atom_clauses spec sets a)) (atoms_of hs)
    (λ a listed. rises_true spec sets q (numbered_true spec sets q hs) a row (tells_atom spec sets q hs a listed))
    (each_itself same_atom (atoms_of hs) same_atom_itself))

clauses_hold : (spec : Spec) (sets : Sets) (t : Hypothesis) (hs : List Hypothesis) (q : Moment → Truths) → IsQuadrupleOf spec sets.one sets.other q
    → AllByRecursion (Listed hs) (instance_atoms t) → AllByRecursion (TrueBefore q) hs → instance_true (q Both) t.classes t.clause ≡ false
    → AllByRecursion (ClauseTrue (numbered_true spec sets q hs)) (query_clauses spec sets t hs)
clauses_hold spec sets t hs q row listed holds denied =
    each_append (ClauseTrue (numbered_true spec sets q hs)) (flat_map (hypothesis_clauses spec sets) hs) (flat_map (atom_clauses spec sets) (atoms_of hs) ++ denials spec sets t)
    (each_flat_map (ClauseTrue (numbered_true spec sets q hs)) (hypothesis_clauses spec sets) hs
    (each_weaker (λ h. AllByRecursion (Listed hs) (instance_atoms h) × TrueBefore q h) (λ h. AllByRecursion (ClauseTrue (numbered_true spec sets q hs)) (hypothesis_clauses spec sets h)) hs
    (λ h k. hypothesis_holds spec sets q hs h row k.0 k.1)
    (each_both (λ h. AllByRecursion (Listed hs) (instance_atoms h)) (TrueBefore q) hs (atoms_listed hs) holds)))
    (each_append (ClauseTrue (numbered_true spec sets q hs)) (flat_map (atom_clauses spec sets) (atoms_of hs)) (denials spec sets t) (rows_hold spec sets q hs row) (denials_hold spec sets q hs t row listed denied))

pub refuted_holds : RefutedHolds
refuted_holds spec sets t hs q row within holds none =
    elim (cases_Bool (instance_true (q Both) t.classes t.clause)) [
      | inl is ↦ is
      | inr denied ↦
          let listed : AllByRecursion (Listed hs) (instance_atoms t) =
          All-contains (λ h. AllByRecursion (Listed hs) (instance_atoms h)) hs t (All-from_recursion (λ h. AllByRecursion (Listed hs) (instance_atoms h)) hs (atoms_listed hs)) within in
          absurd (none (values_by spec sets q hs)
          (each_map (λ c. list_any (lit_true (values_by spec sets q hs)) c ≡ true) (map (numbered (variables_of spec sets hs))) (query_clauses spec sets t hs)
          (each_weaker (ClauseTrue (numbered_true spec sets q hs)) (λ c. list_any (lit_true (values_by spec sets q hs)) (map (numbered (variables_of spec sets hs)) c) ≡ true) (query_clauses spec sets t hs)
          (λ c h. any_map (lit_true (values_by spec sets q hs)) (numbered (variables_of spec sets hs)) c ∙ h)
          (clauses_hold spec sets t hs q row listed holds denied))))
    ]
