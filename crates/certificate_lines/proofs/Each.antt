-- Words read one after the other.
use Rattle.std.proofs.Common.{◌≡◌, ℕ, ◌<◌, Bool, true, false, cond, List, [], ◌∷◌, ◌++◌, length, refl, sym, ap, ◌∙◌, append_assoc, append-nil, arith}
use Rattle.std.specs.Prelude.{Option, Some, None, codes}
use Rattle.std.specs.Str.{bytes_eq}
use Rattle.line_text.specs.Reads.{◌>>=◌}
use Rattle.ground_clauses.specs.declared.clauses.Lit.{Lit}
use Rattle.ground_clauses.specs.declared.clauses.Step.{Step}
use Rattle.certificate_lines.specs.Words.{cut, cut_words, is_semicolon}
use Rattle.certificate_lines.specs.Forms.{each, lit_of, lits_before, number_of, step_form}

-- what was read before, and what is still read
abbrev pub with_front : {A : Type 0} → List A → Option (List A) → Option (List A)
with_front front read = read >>= λ xs. Some (front ++ xs)

-- the same of literals, with the words behind them
abbrev pub with_lits : List Lit → Option (List Lit × List (List ℕ)) → Option (List Lit × List (List ℕ))
with_lits front read = read >>= λ r. Some (front ++ r.0, r.1)

pub word_shorter : (ws : List (List ℕ)) (w : List ℕ) (vs : List (List ℕ)) → ws ≡ w ∷ vs → length vs < length ws
word_shorter ws w vs e = rw e (omega arith)

-- ---- what each of the words says

pub each_begins : {A : Type 0} → (found : List A) (read : Option (List A)) → found ≡ [] → with_front found read ≡ read
each_begins found None e = refl
each_begins found (Some xs) e = rw e refl

front_more : {A : Type 0} → (found : List A) (x : A) (read : Option (List A)) → with_front (found ++ x ∷ []) read ≡ with_front found (read >>= λ xs. Some (x ∷ xs))
front_more found x None = refl
front_more found x (Some xs) = ap Some (append_assoc found (x ∷ []) xs)

pub each_turn : {A : Type 0} → (read : List ℕ → Option A) (found new : List A) (ws vs : List (List ℕ)) (w : List ℕ) (x : A) (all : Option (List A))
    → ws ≡ w ∷ vs → read w ≡ Some x → new ≡ found ++ x ∷ [] → with_front found (each read ws) ≡ all → with_front new (each read vs) ≡ all
each_turn {A} read found new ws vs w x all e said pushed so_far =
    let here : each read ws ≡ (each read vs >>= λ xs. Some (x ∷ xs)) = rw (e, said) refl in
    ap (λ (front : List A). with_front front (each read vs)) pushed ∙ front_more found x (each read vs) ∙ ap (with_front found) (sym here) ∙ so_far

pub each_stops : {A : Type 0} → (read : List ℕ → Option A) (found : List A) (ws vs : List (List ℕ)) (w : List ℕ) (all : Option (List A))
    → ws ≡ w ∷ vs → read w ≡ None → with_front found (each read ws) ≡ all → all ≡ None
each_stops {A} read found ws vs w all e said so_far =
    let here : each read ws ≡ None = rw (e, said) refl in
    sym so_far ∙ ap (with_front found) here

-- ---- literals before `;`

pub lits_begin : (found : List Lit) (read : Option (List Lit × List (List ℕ))) → found ≡ [] → with_lits found read ≡ read
lits_begin found None e = refl
lits_begin found (Some r) e = rw e refl

lits_more : (found : List Lit) (x : Lit) (read : Option (List Lit × List (List ℕ))) → with_lits (found ++ x ∷ []) read ≡ with_lits found (with_lits (x ∷ []) read)
lits_more found x None = refl
lits_more found x (Some r) = ap (λ (xs : List Lit). Some (xs, r.1)) (append_assoc found (x ∷ []) r.0)

-- what is read of the words before a cut
abbrev cut_lits : Option (List (List ℕ) × List (List ℕ)) → Option (List Lit × List (List ℕ))
cut_lits sides = sides >>= λ s. (each lit_of s.0 >>= λ xs. Some (xs, s.1))

one_more : (x : Lit) (read : Option (List Lit)) (vs : List (List ℕ)) → ((read >>= λ xs. Some (x ∷ xs)) >>= λ xs. Some (xs, vs)) ≡ with_lits (x ∷ []) (read >>= λ xs. Some (xs, vs))
one_more x None vs = refl
one_more x (Some xs) vs = refl

lits_here : (w : List ℕ) (x : Lit) (sides : Option (List (List ℕ) × List (List ℕ))) → lit_of w ≡ Some x → cut_lits (sides >>= λ s. Some (w ∷ s.0, s.1)) ≡ with_lits (x ∷ []) (cut_lits sides)
lits_here w x None said = refl
lits_here w x (Some s) said = rw said (one_more x (each lit_of s.0) s.1)

lits_never : (w : List ℕ) (sides : Option (List (List ℕ) × List (List ℕ))) → lit_of w ≡ None → cut_lits (sides >>= λ s. Some (w ∷ s.0, s.1)) ≡ None
lits_never w None said = refl
lits_never w (Some s) said = rw said refl

pub lits_turn : (found new : List Lit) (ws vs : List (List ℕ)) (w : List ℕ) (x : Lit) (all : Option (List Lit × List (List ℕ)))
    → ws ≡ w ∷ vs → false ≡ bytes_eq w (codes ";") → lit_of w ≡ Some x → new ≡ found ++ x ∷ [] → with_lits found (lits_before ws) ≡ all → with_lits new (lits_before vs) ≡ all
unfolding lits_before cut_words
lits_turn found new ws vs w x all e other said pushed so_far =
    let here : cut_lits (cut is_semicolon ws) ≡ with_lits (x ∷ []) (cut_lits (cut is_semicolon vs)) = rw (e, sym other) (lits_here w x (cut is_semicolon vs) said) in
    ap (λ (front : List Lit). with_lits front (cut_lits (cut is_semicolon vs))) pushed ∙ lits_more found x (cut_lits (cut is_semicolon vs)) ∙ ap (with_lits found) (sym here) ∙ so_far

pub lits_stop : (found : List Lit) (ws vs : List (List ℕ)) (w : List ℕ) (all : Option (List Lit × List (List ℕ)))
    → ws ≡ w ∷ vs → false ≡ bytes_eq w (codes ";") → lit_of w ≡ None → with_lits found (lits_before ws) ≡ all → all ≡ None
unfolding lits_before cut_words
lits_stop found ws vs w all e other said so_far =
    let here : cut_lits (cut is_semicolon ws) ≡ None = rw (e, sym other) (lits_never w (cut is_semicolon vs) said) in
    sym so_far ∙ ap (with_lits found) here

pub lits_end : (found : List Lit) (ws vs : List (List ℕ)) (w : List ℕ) (all : Option (List Lit × List (List ℕ)))
    → ws ≡ w ∷ vs → true ≡ bytes_eq w (codes ";") → with_lits found (lits_before ws) ≡ all → all ≡ Some (found, vs)
unfolding lits_before cut_words
lits_end found ws vs w all e mark so_far =
    let here : cut_lits (cut is_semicolon ws) ≡ Some ([], vs) = rw (e, sym mark) refl in
    sym so_far ∙ ap (with_lits found) here ∙ ap (λ (xs : List Lit). Some (xs, vs)) (append-nil found)

pub lits_none : (found : List Lit) (ws : List (List ℕ)) (all : Option (List Lit × List (List ℕ))) → ws ≡ [] → with_lits found (lits_before ws) ≡ all → all ≡ None
unfolding lits_before cut_words
lits_none found ws all e so_far =
    let here : cut_lits (cut is_semicolon ws) ≡ None = rw e refl in
    sym so_far ∙ ap (with_lits found) here

pub each_ends : {A : Type 0} → (read : List ℕ → Option A) (found : List A) (ws : List (List ℕ)) (all : Option (List A)) → ws ≡ [] → with_front found (each read ws) ≡ all → all ≡ Some found
each_ends {A} read found ws all e so_far =
    let here : each read ws ≡ Some [] = rw e refl in
    sym so_far ∙ ap (with_front found) here ∙ ap Some (append-nil found)

-- ---- a step

-- the hints behind the literals
abbrev with_hints : Option (List Lit × List (List ℕ)) → Option Step
with_hints read = read >>= λ r. (each number_of r.1 >>= λ hints. Some (record { lits = r.0; hints = hints }))

hints_behind : (sides : Option (List (List ℕ) × List (List ℕ))) → (sides >>= λ s. (each lit_of s.0 >>= λ lits. (each number_of s.1 >>= λ hints. Some (record { lits = lits; hints = hints })))) ≡ with_hints (cut_lits sides)
hints_behind None = refl
hints_behind (Some s) = behind_them (each lit_of s.0) s.1
  where
    behind_them : (read : Option (List Lit)) (ws : List (List ℕ)) → (read >>= λ lits. (each number_of ws >>= λ hints. Some (record { lits = lits; hints = hints }))) ≡ with_hints (read >>= λ xs. Some (xs, ws))
    behind_them None ws = refl
    behind_them (Some xs) ws = refl

-- its literals are read, and then its hints
pub step_parts : (ws : List (List ℕ)) → step_form ws ≡ (lits_before ws >>= λ r. (each number_of r.1 >>= λ hints. Some (record { lits = r.0; hints = hints })))
unfolding step_form lits_before cut_words
step_parts ws = hints_behind (cut is_semicolon ws)
