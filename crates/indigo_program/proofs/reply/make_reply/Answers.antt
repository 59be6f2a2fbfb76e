use Rattle.std.proofs.Common.{refl}
use Rattle.indigo_program.proofs.Runs.{alone_of, answer_of}
use Rattle.indigo_program.proofs.reply.make_reply.Goals as goal

pub returns-in-Simulate-clause-memory : goal.returns-in-Simulate-clause-memory
returns-in-Simulate-clause-memory g c = alone_of c.args.command _ _ c.simulated.result c.in-Simulate.is tt

pub returns-in-Analyse-clause-answer : goal.returns-in-Analyse-clause-answer
returns-in-Analyse-clause-answer g c = answer_of c.args.command _ c.args.bytes.now _ c.analysed.result c.in-Analyse.is (λ r. refl, λ r. refl) c.analysed.ensures

pub returns-in-Analyse-clause-memory : goal.returns-in-Analyse-clause-memory
returns-in-Analyse-clause-memory g c = alone_of c.args.command _ _ c.analysed.result c.in-Analyse.is (λ r. refl, λ r. refl)

pub returns-in-Check-clause-answer : goal.returns-in-Check-clause-answer
returns-in-Check-clause-answer g c = answer_of c.args.command _ c.args.bytes.now _ c.checked.result c.in-Check.is (λ r. refl, λ r. refl) c.checked.ensures

pub returns-in-Check-clause-memory : goal.returns-in-Check-clause-memory
returns-in-Check-clause-memory g c = alone_of c.args.command _ _ c.checked.result c.in-Check.is (λ r. refl, λ r. refl)

pub returns-in-Print-clause-answer : goal.returns-in-Print-clause-answer
returns-in-Print-clause-answer g c = answer_of c.args.command _ c.args.bytes.now _ c.printed.result c.in-Print.is (λ r. refl, λ r. refl) c.printed.ensures

pub returns-in-Print-clause-memory : goal.returns-in-Print-clause-memory
returns-in-Print-clause-memory g c = alone_of c.args.command _ _ c.printed.result c.in-Print.is (λ r. refl, λ r. refl)
