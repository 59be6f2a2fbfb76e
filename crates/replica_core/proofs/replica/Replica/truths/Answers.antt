use Rattle.std.proofs.Common.{List, ◌++◌, ◌∷◌, [], filter, sym, ap, ◌∙◌}
use Rattle.spec_model.specs.declared.instance.Atom.{Atom}
use Rattle.spec_model.specs.Universe.{atoms}
use Rattle.replica_core.specs.Shown.{is_true_now}
use Rattle.effect_model.proofs.Whole.{among}
use Rattle.replica_core.proofs.Lists.{filter_at}
use Rattle.replica_core.proofs.replica.Replica.truths.Goals as goal

pub loop-place-preserved : goal.loop-place-preserved
loop-place-preserved c =
    let spec = c.args.spec.now in
    let test = is_true_now spec c.args.self.now in
    c.in_ok-push_truth.ensures ∙ ap (λ (l : List Atom). l ++ filter test (c.atom_at.result ∷ [])) c.loop-place.invariant ∙ sym (filter_at test (atoms spec) c.loop-place.place c.atom_at.result c.atom_at.ensures)

pub push_truth-requires-clause-fits : goal.push_truth-requires-clause-fits
push_truth-requires-clause-fits c =
    let spec = c.args.spec.now in
    (((c.universe_is_all.ensures spec).0 c.atom_at.result).those_that_fit).0 (among (atoms spec) c.loop-place.place c.atom_at.result c.atom_at.ensures)
