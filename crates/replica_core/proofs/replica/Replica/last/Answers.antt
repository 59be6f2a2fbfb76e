use Rattle.std.proofs.Common.{ℕ, List, ap, ◌∙◌}
use Rattle.spec_model.specs.declared.instance.Atom.{Atom}
use Rattle.run_model.specs.declared.history.CellValue.{CellValue}
use Rattle.run_model.specs.declared.history.Hold.{Hold}
use Rattle.run_model.specs.declared.history.Final.{Final}
use Rattle.causal_store.specs.Stores.{cut_in}
use Rattle.replica_core.specs.Replicas.{known_to, own_log}
use Rattle.replica_core.proofs.Showing.{truths_now, values_now}
use Rattle.replica_core.proofs.replica.Replica.last.Goals as goal

pub returns : goal.returns
returns c =
    let setup = c.args.setup.now in
    let r = c.args.self.now in
    ap (λ (k : List ℕ). let f : Final = record { cut = k; truths = c.in_ok-truths.field-0; values = c.in_ok-values.field-0; holds = c.in_ok-holds.field-0 } in f) c.cut.ensures
    ∙ ap (λ (t : List Atom). let f : Final = record { cut = cut_in r.store; truths = t; values = c.in_ok-values.field-0; holds = c.in_ok-holds.field-0 } in f) c.in_ok-truths.ensures
    ∙ ap (λ (v : List CellValue). let f : Final = record { cut = cut_in r.store; truths = truths_now setup r; values = v; holds = c.in_ok-holds.field-0 } in f) c.in_ok-values.ensures
    ∙ ap (λ (h : List Hold). let f : Final = record { cut = cut_in r.store; truths = truths_now setup r; values = values_now setup r; holds = h } in f) (c.in_ok-holds.ensures (known_to r) r.me (own_log r) c.requires.own.all)
