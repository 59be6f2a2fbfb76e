use Rattle.std.proofs.Common.{◌≡◌, List, false, true, sym, ap, subst, ◌∙◌}
use Rattle.spec_model.specs.declared.log.LogItem.{LogItem}
use Rattle.run_model.specs.Logs.{with_all}
use Rattle.run_model.specs.declared.message.Message.{Message}
use Rattle.run_model.specs.declared.step.Outcome.TheVariants as outcomes
use Rattle.message_drafts.specs.Taking.{IsTaken}
use Rattle.replica_core.specs.Replicas.{HasTaken, known_to, view_of}
use Rattle.replica_core.proofs.Silent.{heeded_nothing, heeded_part, nothing_done, nothing_taken}
use Rattle.replica_core.proofs.replica.Replica.commit_take.Goals as goal

pub commit_heeded-requires-clause-decided : goal.commit_heeded-requires-clause-decided
commit_heeded-requires-clause-decided c =
    let decided = c.requires.decided in
    let part = heeded_part c.args.setup.now c.args.self.now c.args.message.now decided.heeded (c.is_addressed.ensures.0 c.if-is_addressed.true) decided.heeds in
    (decided.heeded, part.0, part.1, part.3, decided.takes)

pub returns-then-is_addressed-clause-taken : goal.returns-then-is_addressed-clause-taken
returns-then-is_addressed-clause-taken c =
    let setup = c.args.setup.now in
    let r = c.args.self.now in
    let taken = c.args.taken.now in
    λ heeded heeds decided.
    let part = heeded_part setup r c.args.message.now heeded (c.is_addressed.ensures.0 c.if-is_addressed.true) heeds in
    subst (λ n. HasTaken setup heeded r (outcomes.Took n taken.applied taken.accepted taken.gave) c.commit_heeded.new.self) part.2 (c.commit_heeded.ensures.taken heeded part.0 part.1 part.3 decided)

pub returns-else-is_addressed-clause-taken : goal.returns-else-is_addressed-clause-taken
returns-else-is_addressed-clause-taken c =
    let setup = c.args.setup.now in
    let r = c.args.self.now in
    let message = c.args.message.now in
    let taken = c.args.taken.now in
    λ heeded heeds decided.
    let is = heeded_nothing setup r message heeded (λ addressed. absurd (let wrong : false ≡ true = sym c.if-is_addressed.false ∙ c.is_addressed.ensures.1 addressed in cc)) heeds in
    subst (λ (m : Message). HasTaken setup m r (outcomes.Took message.number taken.applied taken.accepted taken.gave) c.drop_met.new.self) (sym is)
    (nothing_done setup message r c.drop_met.new.self taken c.requires.own c.drop_met.ensures (subst (λ (m : Message). IsTaken setup m (view_of r) taken) is decided))

pub returns-else-is_addressed-clause-known : goal.returns-else-is_addressed-clause-known
returns-else-is_addressed-clause-known c =
    let setup = c.args.setup.now in
    let r = c.args.self.now in
    let taken = c.args.taken.now in
    let decided = c.requires.decided in
    let is = heeded_nothing setup r c.args.message.now decided.heeded (λ addressed. absurd (let wrong : false ≡ true = sym c.if-is_addressed.false ∙ c.is_addressed.ensures.1 addressed in cc)) decided.heeds in
    let none = (nothing_taken setup c.args.message.now (view_of r) taken (subst (λ (m : Message). IsTaken setup m (view_of r) taken) is decided.takes)).0 in
    ap known_to c.drop_met.ensures ∙ ap (λ (l : List LogItem). with_all l (known_to r)) (sym none)
