-- A pass that comes back to its desk.
use Rattle.std.proofs.Common.{◌≡◌, ◌+◌, [], Some, None, arith}
use Rattle.turn_desk.specs.declared.desk.Desk.{Desk}
use Rattle.turn_desk.specs.declared.pass.Pass.{Pass}
use Rattle.turn_desk.specs.declared.turn.Turn.{Ghosts}
use Rattle.turn_desk.specs.Line.{Merges}
use Rattle.turn_desk.specs.Passes.{IsPassOf, opening_of, parts_of, turns}
use Rattle.desk_workers.specs.Standing.{asks_in, Answered, TakesBack}
use Rattle.desk_workers.proofs.Merging.{interleaves_more, merges_after_none, merged_asks, merged_all}

module _ {V A B O : Type 0} {g : Ghosts V A B O} (is_answer : O → B → Type 0) (opening : V → O) where
  -- it is the first that comes back
  pub back_first : (desk : Desk V A B O) (from : Pass V A B O g) → IsPassOf desk from → Answered is_answer (opening_of opening desk) (turns from)
      → TakesBack is_answer opening desk from None (Some from)
  back_first desk from own answered out lists (all, before) =
      (own, all, interleaves_more lists (asks_in (turns from)) [] (asks_in (turns from)) before (merges_after_none (asks_in (turns from))), answered)

  -- it is joined into the one at hand
  pub back_more : (desk : Desk V A B O) (into from joined : Pass V A B O g) → IsPassOf desk joined → parts_of joined ≡ parts_of into + parts_of from
      → Merges (turns into) (turns from) (turns joined) → Answered is_answer (opening_of opening desk) (turns from)
      → TakesBack is_answer opening desk from (Some into) (Some joined)
  back_more desk into from joined own parts merged answered out lists (into_own, all, before, into_answered) = (
    own,
    omega (arith, parts, all),
    interleaves_more lists (asks_in (turns from)) (asks_in (turns into)) (asks_in (turns joined)) before (merged_asks (turns joined) (turns into) (turns from) merged),
    merged_all (λ (turn : A × B). is_answer (opening_of opening desk) turn.1) (turns joined) (turns into) (turns from) merged into_answered answered,
  )
