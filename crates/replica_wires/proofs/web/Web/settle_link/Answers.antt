use Rattle.std.proofs.Common.{◌≡◌, sym, subst}
use Rattle.std.specs.List.{AllByRecursion}
use Rattle.std.proofs.lemmas.Result.{IfOk-weaker}
use Rattle.run_model.specs.declared.message.Message.{Message}
use Rattle.replica_wires.proofs.Settles.{senders_of}
use Rattle.replica_wires.proofs.web.Web.settle_link.Goals as goal

pub returns-clause-senders : goal.returns-clause-senders
returns-clause-senders g c =
    IfOk-weaker c.messages_of.result _ _ (λ messages is. subst (AllByRecursion (λ (m : Message). m.from ≡ c.args.from)) (sym is) (senders_of c.args.from c.args.to c.in_ok-letters.letters)) c.messages_of.ensures
