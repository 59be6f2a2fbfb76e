-- A name is known exactly where its place is before the end.
use Rattle.std.proofs.Common.{◌≡◌, ℕ, suc, Bool, true, false, cond, ltb, ◌||◌, List, [], ◌∷◌, length, refl, arith}
use Rattle.std.specs.Str.{bytes_eq}
use Rattle.std.proofs.lemmas.Bool.{lt-ltb, le-ltb, ltb-true, ltb-false}
use Rattle.spec_language.specs.Names.{is_known, place_in}

next : (p n : ℕ) (t : Bool) → ltb p n ≡ t → ltb (suc p) (suc n) ≡ t
next p n true e = lt-ltb (suc p) (suc n) (let h = ltb-true p n e in omega arith)
next p n false e = le-ltb (suc p) (suc n) (let h = ltb-false p n e in omega arith)

pub placed_known : {X : Type 0} (name : X → List ℕ) (xs : List X) (w : List ℕ) → ltb (place_in name xs w) (length xs) ≡ is_known name xs w
placed_known name [] w = refl
placed_known name (x ∷ xs) w = either (bytes_eq (name x) w) (placed_known name xs w)
  where
    either : (t : Bool) → ltb (place_in name xs w) (length xs) ≡ is_known name xs w → ltb (cond t 0 (suc (place_in name xs w))) (suc (length xs)) ≡ (t || is_known name xs w)
    either true e = lt-ltb 0 (suc (length xs)) (omega arith)
    either false e = next (place_in name xs w) (length xs) (is_known name xs w) e
