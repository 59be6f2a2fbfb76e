use Rattle.std.proofs.Common.{subst, sym}
use Rattle.replica_links.specs.Views.{IsPutter, IsGetter}
use Rattle.replica_links.proofs.Parted.{tells}
use Rattle.replica_links.proofs.Joined.{hears_put, hears_taken}
use Rattle.replica_links.proofs.link.Link.inform.Goals as goal

pub another-of_put-requires-clause-rule : goal.another-of_put-requires-clause-rule
another-of_put-requires-clause-rule g c = tells _ _

pub another-of_taken-requires-clause-rule : goal.another-of_taken-requires-clause-rule
another-of_taken-requires-clause-rule g c = tells _ _

pub absorb-requires-clause-rule : goal.absorb-requires-clause-rule
absorb-requires-clause-rule g c =
    hears_put _ _ _ _ (subst (IsGetter {M = g.row.M.Denot}) (sym c.another-of_taken.ensures.rule.0) c.args.get.now.gets)

pub absorb-requires-2-clause-rule : goal.absorb-requires-2-clause-rule
absorb-requires-2-clause-rule g c =
    hears_taken _ _ _ _ (subst (IsPutter {M = g.row.M.Denot}) (sym c.another-of_put.ensures.rule.0) c.args.put.now.puts)
