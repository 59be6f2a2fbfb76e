use Rattle.spec_language.proofs.OpNames.{ops_named}
use Rattle.spec_language.proofs.law.ops_are_named.Goals as goal

pub returns : goal.returns
returns c = ops_named
