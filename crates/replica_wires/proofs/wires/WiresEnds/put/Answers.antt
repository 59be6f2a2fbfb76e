use Rattle.std.proofs.Common.{◌<◌, length, ap, ◌∙◌, ◌++◌, ◌∷◌, [], arith}
use Rattle.replica_links.specs.Passes.{put_of}
use Rattle.replica_wires.proofs.Passed.{puts_one, puts_none, is_full}
use Rattle.replica_wires.proofs.wires.WiresEnds.put.Goals as goal

pub returns-in-Ok-clause-puts : goal.returns-in-Ok-clause-puts
returns-in-Ok-clause-puts g c =
    let wires = c.args.self.now in let old = c.index_mut-pass.result.now in
    puts_one wires.me wires.passes.puts.items c.args.message old c.put.new.pass c.requires.own (omega (arith, wires.own.puts_whole, c.requires.reaches.0)) c.index_mut-pass.ensures.value
    (c.in-Ok.ensures.ok ∙ ap (λ letter. put_of old ++ letter ∷ []) c.letter_of.ensures)

pub returns-in-Err-clause-puts : goal.returns-in-Err-clause-puts
returns-in-Err-clause-puts g c =
    let wires = c.args.self.now in let old = c.index_mut-pass.result.now in
    let within : c.args.message.to < length wires.passes.puts.items = omega (arith, wires.own.puts_whole, c.requires.reaches.0) in (
      puts_none wires.me c.args.message.to wires.passes.puts.items old c.put.new.pass within c.index_mut-pass.ensures.value c.in-Err.ensures.same,
      is_full wires.web.now wires.me c.args.message.to c.link-link.result.now wires.passes.puts.items old c.link-link.ensures within c.index_mut-pass.ensures.value c.in-Err.ensures.full,
    )
