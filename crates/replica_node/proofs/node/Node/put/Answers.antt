use Rattle.std.proofs.Common.{◌≡◌, ap, sym, ◌∙◌, arith}
use Rattle.std.proofs.lemmas.Option.{slice_get_within}
use Rattle.run_model.specs.declared.step.Outcome.TheVariants as outcomes
use Rattle.run_model.specs.declared.step.StepEntry.{StepEntry}
use Rattle.replica_node.proofs.Sent.{full_done, has_count, number_few, put_done}
use Rattle.replica_node.proofs.node.Node.put.Goals as goal

pub overflow_add-number : goal.overflow_add-number
overflow_add-number g c =
    let h = c.requires.sending in
    let few = number_few g.S.Storage.keeps g.E.Ends.mark g.E.Ends.owner g.E.Ends.reaches g.E.Ends.room g.E.Ends.puts g.E.Ends.gots h.0 c.args.to c.args.number c.args.answer h.1 c.args.self.now h.2 in
    omega (arith, few)

pub set-requires : goal.set-requires
set-requires g c =
    let h = c.requires.sending in
    (omega arith, slice_get_within c.args.self.now.counts c.args.to c.args.number (has_count g.S.Storage.keeps g.E.Ends.mark g.E.Ends.owner g.E.Ends.reaches g.E.Ends.room g.E.Ends.puts g.E.Ends.gots h.0 c.args.to c.args.number c.args.answer h.1 c.args.self.now h.2))

pub returns-in-Ok-clause-own : goal.returns-in-Ok-clause-own
returns-in-Ok-clause-own g c = λ setup old h.
    put_done g.S.Storage.keeps g.E.Ends.mark g.E.Ends.owner g.E.Ends.reaches g.E.Ends.room g.E.Ends.puts g.E.Ends.gots setup c.args.to c.args.number c.args.answer old c.args.self.now c.message_of.result c.put.new.self c.set.new.self h c.message_of.ensures
    c.in-Ok.ensures.mark c.in-Ok.ensures.puts c.in-Ok.ensures.gots c.set.ensures

pub returns-in-Err-clause-own : goal.returns-in-Err-clause-own
returns-in-Err-clause-own g c = λ setup old h.
    full_done g.S.Storage.keeps g.E.Ends.mark g.E.Ends.owner g.E.Ends.reaches g.E.Ends.room g.E.Ends.puts g.E.Ends.gots setup c.args.to c.args.number c.args.answer old c.args.self.now c.message_of.result c.put.new.self c.find_full.result c.find_full.new.self h c.message_of.ensures
    c.find_full.ensures.entry c.find_full.ensures.becomes c.in-Err.ensures.mark c.in-Err.ensures.puts.0 c.in-Err.ensures.puts.1 c.in-Err.ensures.gots

pub returns-in-Err-clause-unbroken : goal.returns-in-Err-clause-unbroken
returns-in-Err-clause-unbroken g c = λ broken. absurd (let wrong : outcomes.Full ≡ outcomes.DiskBroken = sym (ap (λ (e : StepEntry). e.outcome) c.find_full.ensures.entry) ∙ broken in cc)
