-- What is done at one element after another.
use Rattle.std.specs.Prelude.{List, [], ◌∷◌}

abbrev pub done_all : {X K : Type 0} → (X → K → K) → List X → K → K
done_all f [] kept = kept
done_all f (x ∷ xs) kept = done_all f xs (f x kept)
