use Rattle.std.proofs.Common.{sym, ◌∙◌, subst}
use Rattle.std.proofs.lemmas.Result.{on_ok_weaker}
use Rattle.clause_solver.proofs.Refutations.{entry_here, expanded, kept_more, refuting_here, skipped}
use Rattle.clause_solver.specs.Refuting.{IsRefuting, values_before}
use Rattle.clause_solver.specs.Trails.{IsCause}
use Rattle.clause_solver.proofs.learning.Analysis.go_back.Goals as goal

pub returns-then-not-is_marked : goal.returns-then-not-is_marked
returns-then-not-is_marked c =
    skipped c.args.rows.now (values_before c.args.trail.now c.args.at) c.entry-entry.result c.args.self.now
    (entry_here c.args.rows.now c.args.trail.now c.args.at c.entry-entry.result c.requires.trail c.requires.place c.entry-entry.ensures)
    (sym c.is_marked.ensures ∙ c.if-not-is_marked.true)
    (refuting_here c.args.rows.now c.args.trail.now c.args.at c.entry-entry.result c.args.self.now c.requires.place c.entry-entry.ensures c.requires.refutes)

pub returns-in-Row : goal.returns-in-Row
returns-in-Row c =
    let is = entry_here c.args.rows.now c.args.trail.now c.args.at c.entry-entry.result c.requires.trail c.requires.place c.entry-entry.ensures in
    on_ok_weaker c.expand.result
    (λ hints. expanded c.args.rows.now (values_before c.args.trail.now c.args.at) c.entry-entry.result.lit c.in-Row.row c.args.self.now c.expand.new.self is.known is.free
    (subst (IsCause c.args.rows.now (values_before c.args.trail.now c.args.at) c.entry-entry.result.lit) c.in-Row.is is.cause)
    c.expand.ensures.lits hints c.expand.ensures.marks
    (refuting_here c.args.rows.now c.args.trail.now c.args.at c.entry-entry.result c.args.self.now c.requires.place c.entry-entry.ensures c.requires.refutes))
    c.expand.ensures.hints

pub returns-in_default : goal.returns-in_default
returns-in_default c =
    on_ok_weaker c.keep.result
    (λ new. subst (IsRefuting c.args.rows.now (values_before c.args.trail.now c.args.at)) (sym new)
    (kept_more c.args.rows.now (values_before c.args.trail.now c.args.at) c.entry-entry.result c.args.self.now
    (entry_here c.args.rows.now c.args.trail.now c.args.at c.entry-entry.result c.requires.trail c.requires.place c.entry-entry.ensures)
    (refuting_here c.args.rows.now c.args.trail.now c.args.at c.entry-entry.result c.args.self.now c.requires.place c.entry-entry.ensures c.requires.refutes)))
    c.keep.ensures
