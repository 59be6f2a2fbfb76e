use Rattle.std.proofs.Common.{◌≡◌, List, sym, ap, ◌∙◌}
use Rattle.std.specs.Prelude.{None, Some}
use Rattle.std.specs.Option.{option_copied, option_map}
use Rattle.spec_model.specs.declared.right.Need.{Need}
use Rattle.run_model.specs.Levels.{first_lacking}
use Rattle.rights_table.specs.Lacks.{lacking_of}
use Rattle.rights_table.specs.Tables.{holding_in}
use Rattle.replica_core.specs.Replicas.{holds_of}
use Rattle.replica_core.proofs.Needed.{lacks, short_here}
use Rattle.replica_core.proofs.replica.Replica.act_or_short.Goals as goal

pub returns-in-Some : goal.returns-in-Some
returns-in-Some c =
    let setup = c.args.setup.now in
    let r = c.args.self.now in
    let all : List Need = c.in_ok-needs.needs in
    let told = holding_in setup r.table in
    let found : first_lacking setup.replicas (holds_of setup r) all ≡ Some (lacking_of told c.in-Some.need.now) =
    sym (lacks c.tables_tell.ensures setup r all c.as_slice.result.now c.requires.own c.as_slice.ensures.value) ∙ sym c.first_lacking.ensures ∙ ap (λ o. option_map (lacking_of told) (option_copied o)) c.in-Some.is in
    let short = short_here c.tables_tell.ensures setup r c.args.inst.now all c.in-Some.need.now c.in_ok-lacking-in-Some.field-0 c.requires.own c.in_ok-needs.ensures.value c.in_ok-needs.ensures.fit found c.in_ok-lacking-in-Some.ensures in
    λ whole. (short.0, short.1, whole)

pub returns : goal.returns
returns c =
    let setup = c.args.setup.now in
    let r = c.args.self.now in
    let all : List Need = c.in_ok-needs.needs in
    let told = holding_in setup r.table in
    let none : first_lacking setup.replicas (holds_of setup r) all ≡ None =
    sym (lacks c.tables_tell.ensures setup r all c.as_slice.result.now c.requires.own c.as_slice.ensures.value) ∙ sym c.first_lacking.ensures ∙ ap (λ o. option_map (lacking_of told) (option_copied o)) c.in-None.is in
    λ whole. (ap (first_lacking setup.replicas (holds_of setup r)) (sym c.in_ok-needs.ensures.value) ∙ none, c.in_ok-act_of-in-None.ensures, whole)
