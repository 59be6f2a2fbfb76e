use Rattle.std.proofs.Common.{◌≡◌, take}
use Rattle.reservation_plan.specs.Drafting.{Drafts}
use Rattle.reservation_plan.proofs.planning.draft_all.Given as goal

abbrev pub invariant-loop-pair : goal.invariant-loop-pair
invariant-loop-pair l = record {
  drafts : Drafts l.spec (take l.pair-index l.pair-items) l.draft;
  over : l.queries.over ≡ l.spec;
}
