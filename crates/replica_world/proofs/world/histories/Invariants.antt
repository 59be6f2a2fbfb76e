use Rattle.std.proofs.Common.{◌≡◌, ◌++◌}
use Rattle.std.specs.Prelude.{map}
use Rattle.replica_course.specs.Courses.{history_of}
use Rattle.replica_world.proofs.world.histories.Given as goal

abbrev pub invariant-loop-course : goal.invariant-loop-course
invariant-loop-course l = (l.yielded ++ l.course-iterator.rest.items ≡ l.fn.courses.items) × (l.histories ≡ map (history_of l.setup) l.yielded)
