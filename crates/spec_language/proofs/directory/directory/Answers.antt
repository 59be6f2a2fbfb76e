use Rattle.std.proofs.Common.{arith}
use Rattle.spec_language.proofs.Directories.{leads_none, leads_more, leads_all}
use Rattle.spec_language.proofs.directory.directory.Goals as goal

pub going-init : goal.going-init
going-init c = leads_none c.new-by_name.result c.args.vars.now c.new-by_name.ensures.empty

pub going-smaller : goal.going-smaller
going-smaller c = let fewer = c.in-Some.ensures.cases.1 in omega arith

pub returns : goal.returns
returns c = leads_all c.going.by_name c.args.vars.now c.going.front.now c.going.invariant c.in_default.ensures.cases

pub going-preserved : goal.going-preserved
going-preserved c =
    leads_more c.going.by_name c.insert.new.self c.args.vars.now c.going.front.now c.in-Some.others.now c.in-Some.last.now c.as_slice.result c.going.invariant c.in-Some.ensures.cases.0 c.as_slice.ensures.value c.in_ok-insert.ensures.updates
