-- Names and what they stand for.
use Rattle.std.specs.Prelude.{ℕ, zero, suc, List, [], ◌∷◌, if◌then◌else◌, ◌&&◌, ◌||◌, Bool, true, codes, not}
use Rattle.std.specs.Str.{bytes_eq}
use Rattle.std.specs.List.{list_any}
use Rattle.spec_model.specs.declared.spec.Spec.{Spec}

-- the line words, which are no names
abbrev pub is_line_word : List ℕ → Bool
is_line_word w = list_any (bytes_eq w) (codes "sort" ∷ codes "pred" ∷ codes "num" ∷ codes "clause" ∷ codes "op" ∷ codes "set" ∷ codes "clear" ∷ codes "add" ∷ codes "sub" ∷ codes "free" ∷ codes "replicas" ∷ codes "stop" ∷ [])

-- the words of a run, which are no names
abbrev pub is_run_word : List ℕ → Bool
is_run_word w = list_any (bytes_eq w) (codes "do" ∷ codes "send" ∷ codes "take" ∷ codes "crash" ∷ codes "recover" ∷ codes "turns" ∷ codes "client" ∷ codes "at" ∷ codes "ask" ∷ [])

-- the words inside lines, which are no names
abbrev pub is_inner_word : List ℕ → Bool
is_inner_word w = list_any (bytes_eq w) (codes "init" ∷ codes "min" ∷ codes "max" ∷ codes "and" ∷ codes "or" ∷ codes "mask" ∷ codes "interval" ∷ codes "true" ∷ codes "add_wins" ∷ codes "remove_wins" ∷ codes "locked" ∷ [])

-- the words of reports and plans, which are no names
abbrev pub is_report_word : List ℕ → Bool
is_report_word w = list_any (bytes_eq w) (codes "drop" ∷ codes "twice" ∷ codes "late" ∷ codes "plan" ∷ codes "certificate" ∷ [])

-- the reserved words
unfoldable pub is_reserved : List ℕ → Bool
is_reserved w = is_line_word w || is_run_word w || is_inner_word w || is_report_word w

-- one of them has this name
abbrev pub is_known : {X : Type 0} → (X → List ℕ) → List X → List ℕ → Bool
is_known name xs w = list_any (λ x. bytes_eq (name x) w) xs

-- the place of the first one with this name; behind the last, where there is none
abbrev pub place_in : {X : Type 0} → (X → List ℕ) → List X → List ℕ → ℕ
place_in name [] w = zero
place_in name (x ∷ xs) w = if bytes_eq (name x) w then zero else suc (place_in name xs w)

-- no name of a declaration: it is reserved or was declared before
unfoldable pub is_taken : Spec → List ℕ → Bool
is_taken spec w =
    is_reserved w || is_known (λ x. x.name) spec.sorts w || is_known (λ x. x.name) spec.preds w
    || is_known (λ x. x.name) spec.nums w || is_known (λ x. x.name) spec.ops w

-- no name is reserved, none stands twice
abbrev pub are_free : {X : Type 0} → (X → List ℕ) → List X → Bool
are_free name [] = true
are_free name (x ∷ xs) = not (is_reserved (name x)) && not (is_known name xs (name x)) && are_free name xs
