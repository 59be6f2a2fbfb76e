-- The rule of a link, which holds between any two steps.
use Rattle.std.specs.Prelude.{◌≡◌, ℕ, true, List, ◌++◌}
use mathlib.Core.List.{IsPrefix}
use mathlib.Core.Option.{some}
use lib.ListN.{get_elem?}
use Rattle.replica_links.specs.declared.pass.View.{View}

module _ {M : Type 0} where
  -- what a pass knows is true, and one pass has each end: it knows all that was put, or all that was taken
  pub record Fits (putter getter : ℕ) (put taken : List M) (number : ℕ) (v : View M) : Type 0 where
    pub knows_put : IsPrefix v.put put
    pub knows_taken : IsPrefix v.taken taken
    pub puts : v.puts ≡ true → (number ≡ putter) × (v.put ≡ put)
    pub gets : v.gets ≡ true → (number ≡ getter) × (v.taken ≡ taken)

  -- what was put is what was taken, followed by what the link holds
  pub record IsInOrder (items : List M) (views : List (View M)) : Type 0 where
    pub putter : ℕ
    pub getter : ℕ
    pub put : List M
    pub taken : List M
    pub order : put ≡ taken ++ items
    pub each : (number : ℕ) (v : View M) → get_elem? views number ≡ some v → Fits putter getter put taken number v
