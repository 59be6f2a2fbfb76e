-- A worker in the midst of its asks.
use Rattle.std.proofs.Common.{◌≡◌, ◌+◌, ◌<◌, ◌^◌, ℕ, List, [], ◌∷◌, ◌++◌, Bool, true, Result, Ok, Err, IfOk, All, length, ap, ◌∙◌, sym, refl, subst, arith}
use Rattle.std.proofs.lemmas.Grind.{common_steps}
use Rattle.std.proofs.lemmas.List.Elements.{All-push, All-head, All-tail, All-nil}
use Rattle.turn_desk.specs.declared.desk.Desk.{Desk}
use Rattle.turn_desk.specs.declared.line.Entry.{Entry}
use Rattle.turn_desk.specs.declared.line.Entry.TheVariants.{Served, Blank}
use Rattle.turn_desk.specs.declared.pass.Pass.{Pass}
use Rattle.turn_desk.specs.declared.turn.Turn.{Ghosts}
use Rattle.turn_desk.specs.Line.{served, entry_of}
use Rattle.turn_desk.specs.Passes.{IsPassOf, opening_of, parts_of, turns}
use Rattle.desk_workers.specs.Interleaving.{asks_of}
use Rattle.desk_workers.specs.Standing.{asks_in, Answered, MayWork, HasWorked, still}

module _ {A B : Type 0} where
  pub served_last : (line : List (Entry A B)) (ask : A) (answer : B) → served (line ++ Served ask answer ∷ []) ≡ served line ++ (ask, answer) ∷ []
  served_last [] ask answer = refl
  served_last (Served a b ∷ line) ask answer = ap (λ l. (a, b) ∷ l) (served_last line ask answer)
  served_last (Blank ∷ line) ask answer = served_last line ask answer

  pub asked_last : (history : List (A × B)) (ask : A) (answer : B) → asks_of (history ++ (ask, answer) ∷ []) ≡ asks_of history ++ ask ∷ []
  asked_last [] ask answer = refl
  asked_last (turn ∷ history) ask answer = ap (λ l. turn.0 ∷ l) (asked_last history ask answer)

-- what holds of all holds of the next one
pub all_next : {X : Type 0} (P : X → Type 0) (before : List X) (x : X) (rest all : List X) → before ++ x ∷ rest ≡ all → All P all → P x
all_next P before x rest all is h = at before (subst (λ l. All P l) (sym is) h) where
  at : (before : List _) → All P (before ++ x ∷ rest) → P x
  at [] h = All-head P x rest h
  at (y ∷ before) h = at before (All-tail P y (before ++ x ∷ rest) h)

pub whole_next : {X : Type 0} (before : List X) (x : X) (rest all items : List X) → before ++ items ≡ all → items ≡ x ∷ rest → (before ++ x ∷ []) ++ rest ≡ all
whole_next before x rest all items is next = grind (arith, common_steps)

module _ {V A B O : Type 0} {g : Ghosts V A B O} (is_answer : O → B → Type 0) (opening : V → O) where
  pub record IsAtWork (desk : Desk V A B O) (asks : List A) (pass : Pass V A B O g) (put rest : List A) (request : ℕ) (all_served : Bool) : Type 0 where
    pub whole : put ++ rest ≡ asks
    pub own : IsPassOf desk pass
    pub parts : parts_of pass ≡ length asks
    pub taken : (length (turns pass) ≡ length put) × (request ≡ length put)
    pub served_so_far : all_served ≡ true → (asks_in (turns pass) ≡ put) × Answered is_answer (opening_of opening desk) (turns pass)

  -- no ask is put yet
  pub work_begins : (fits : O → A → Type 0) (desk : Desk V A B O) (asks : List A) (pass : Pass V A B O g) → MayWork fits opening desk asks pass → IsAtWork desk asks pass [] asks 0 true
  work_begins fits desk asks pass may =
      let none : served (turns pass) ≡ [] = ap served may.fresh in
      record {
        whole = refl;
        own = may.own;
        parts = may.parts.0;
        taken = (ap length may.fresh, refl);
        served_so_far = λ _. (ap asks_of none, subst (λ l. All (λ (turn : A × B). is_answer (opening_of opening desk) turn.1) l) (sym none) (All-nil (λ (turn : A × B). is_answer (opening_of opening desk) turn.1)));
      }

  still_served : {E : Type 0} (desk : Desk V A B O) (pass pass' : Pass V A B O g) (put : List A) (ask : A) (result : Result B E) (before : Bool) → turns pass' ≡ turns pass ++ entry_of ask result ∷ []
      → IfOk result (λ answer. is_answer (opening_of opening desk) answer)
      → (before ≡ true → (asks_in (turns pass) ≡ put) × Answered is_answer (opening_of opening desk) (turns pass))
      → still before result ≡ true → (asks_in (turns pass') ≡ put ++ ask ∷ []) × Answered is_answer (opening_of opening desk) (turns pass')
  still_served desk pass pass' put ask (Ok answer) before is fits so_far all_yes =
      let more : served (turns pass') ≡ served (turns pass) ++ (ask, answer) ∷ [] = ap served is ∙ served_last (turns pass) ask answer in
      let earlier = so_far all_yes in
      let P : A × B → Type 0 = λ turn. is_answer (opening_of opening desk) turn.1 in (
        ap asks_of more ∙ (asked_last (served (turns pass)) ask answer ∙ ap (λ l. l ++ ask ∷ []) earlier.0),
        subst (λ l. All P l) (sym more) (All-push P (served (turns pass)) (ask, answer) earlier.1 fits),
      )
  still_served desk pass pass' put ask (Err e) before is fits so_far all_yes = absurd (cc all_yes)

  pub works_on : {E : Type 0} (desk : Desk V A B O) (asks : List A) (pass pass' : Pass V A B O g) (put items rest : List A) (ask : A) (request : ℕ) (before after : Bool) (result : Result B E) → after ≡ still before result
      → IsAtWork desk asks pass put items request before → items ≡ ask ∷ rest → IsPassOf desk pass' → parts_of pass' ≡ parts_of pass
      → turns pass' ≡ turns pass ++ entry_of ask result ∷ [] → IfOk result (λ answer. is_answer (opening_of opening desk) answer)
      → IsAtWork desk asks pass' (put ++ ask ∷ []) rest (request + 1) after
  works_on desk asks pass pass' put items rest ask request before after result after_is at next own parts is fits =
      record {
        whole = whole_next put ask rest asks items at.whole next;
        own = own;
        parts = parts ∙ at.parts;
        taken =
            (let t = at.taken in let l : length (turns pass') ≡ length (turns pass) + 1 = ap length is ∙ grind (arith, common_steps) in
            let p : length (put ++ ask ∷ []) ≡ length put + 1 = grind (arith, common_steps) in
            (omega (arith, t, l, p), omega (arith, t, p)));
        served_so_far = λ yes'. still_served desk pass pass' put ask result before is fits at.served_so_far (sym after_is ∙ yes');
      }

  -- there is a part left for the next ask, and the ask fits
  pub may_turn : (fits : O → A → Type 0) (desk : Desk V A B O) (asks : List A) (first pass : Pass V A B O g) (put items rest : List A) (ask : A) (request : ℕ) (before : Bool)
      → MayWork fits opening desk asks first → IsAtWork desk asks pass put items request before → items ≡ ask ∷ rest
      → (length (turns pass) < parts_of pass) × fits (opening_of opening desk) ask × (request + 1 < 2 ^ 32 + 1)
  may_turn fits desk asks first pass put items rest ask request before may at next =
      let whole : put ++ ask ∷ rest ≡ asks = ap (λ l. put ++ l) (sym next) ∙ at.whole in
      let l : length put + (length rest + 1) ≡ length asks = sym (grind (arith, common_steps)) ∙ ap length whole in
      let t = at.taken in let p = at.parts in let small = may.parts in
      (omega (arith, t, l, p), all_next (fits (opening_of opening desk)) put ask rest asks whole may.fit, omega (arith, t, l, small))

  -- all were put
  pub work_ends : (desk : Desk V A B O) (asks : List A) (pass : Pass V A B O g) (put items : List A) (request : ℕ) → IsAtWork desk asks pass put items request true → items ≡ []
      → HasWorked is_answer opening desk asks pass
  work_ends desk asks pass put items request at none =
      let all : put ≡ asks = (let w = at.whole in grind (arith, common_steps)) in
      let s = at.served_so_far refl in
      record { own = at.own; parts = at.parts; asked = s.0 ∙ all; answered = s.1 }
