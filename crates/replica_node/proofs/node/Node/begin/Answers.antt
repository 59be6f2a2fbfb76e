use Rattle.batch_storage.specs.Shown.{shown_of}
use Rattle.replica_course.proofs.Spent.{first_stops}
use Rattle.replica_node.proofs.Begun.{begun, first_kept}
use Rattle.replica_node.proofs.node.Node.begin.Goals as goal

pub returns-clause-own : goal.returns-clause-own
returns-clause-own g c =
    begun g.S.Storage.keeps g.E.Ends.mark g.E.Ends.owner g.E.Ends.reaches g.E.Ends.room g.E.Ends.puts g.E.Ends.gots c.args.setup.now c.args.me c.in_ok-storage.up
    (record { still = record { course = c.in_ok-course.course; storage = c.in_ok-storage.storage; hands = c.in_ok-hands.hands }; ends = c.args.ends; counts = c.no_counts.result }) c.in_ok-course.ensures
    (first_kept g.S.Storage.keeps c.args.setup.now c.args.me c.in_ok-storage.up c.in_ok-storage.storage c.in_ok-course.course c.in_ok-course.ensures c.in_ok-storage.ensures.kept) c.in_ok-hands.ensures c.no_counts.ensures
    c.requires.owner c.requires.reaches c.requires.quiet

pub returns-clause-stops : goal.returns-clause-stops
returns-clause-stops g c = λ given told.
    first_stops given c.args.setup.now c.args.me c.in_ok-storage.up c.in_ok-course.course (shown_of (g.S.D.Disk.standing c.args.disk)) (g.S.Storage.shows c.in_ok-storage.storage) told.tells told.tells_stops told.few c.in_ok-course.ensures
    (c.in_ok-storage.ensures.costs (λ tells. told.awake))
