use Rattle.std.proofs.Common.{◌<◌, length, ap, arith}
use Rattle.replica_wires.proofs.Passed.{gets_one, gets_none}
use Rattle.replica_wires.proofs.wires.WiresEnds.get.Goals as goal

pub returns-in-Some-clause-gots : goal.returns-in-Some-clause-gots
returns-in-Some-clause-gots g c =
    let wires = c.args.self.now in
    let within : c.args.from < length wires.passes.gets.items = omega (arith, wires.own.gets_whole, c.requires.reaches.0) in (
      ap (λ m. m.from) c.message_of.ensures,
      gets_one wires.me c.args.from wires.passes.gets.items c.in-Some.letter c.message_of.result c.index_mut-pass.result.now c.get.new.pass c.message_of.ensures within c.index_mut-pass.ensures.value c.in-Some.ensures.some,
    )

pub returns-in-None-clause-gots : goal.returns-in-None-clause-gots
returns-in-None-clause-gots g c =
    let wires = c.args.self.now in
    gets_none wires.me c.args.from wires.passes.gets.items c.index_mut-pass.result.now c.get.new.pass (omega (arith, wires.own.gets_whole, c.requires.reaches.0)) c.index_mut-pass.ensures.value c.in-None.ensures.none
