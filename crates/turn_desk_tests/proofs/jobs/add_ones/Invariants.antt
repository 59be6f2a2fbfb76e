use Rattle.std.proofs.Common.{◌≡◌, length}
use Rattle.turn_desk.specs.Passes.{IsPassOf, parts_of, turns}
use Rattle.turn_desk_tests.proofs.jobs.add_ones.Given as goal

abbrev pub invariant-loop : goal.invariant-loop
invariant-loop g l =
    IsPassOf l.desk l.pass × (parts_of l.pass ≡ parts_of l.initial.pass) × (length (turns l.pass) ≡ l.counter)
