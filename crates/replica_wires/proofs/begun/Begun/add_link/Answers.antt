use Rattle.std.proofs.Common.{refl, length-set, ◌∙◌, ◌++◌, ◌∷◌, [], set}
use Rattle.replica_wires.specs.declared.passes.Passes.{Passes}
use Rattle.replica_wires.proofs.Begins.{puts_here, puts_there, gets_here, gets_there}
use Rattle.replica_wires.proofs.begun.Begun.add_link.Goals as goal

pub returns : goal.returns
returns c =
    let made = c.in_ok-link.field-0 in let is = c.in_ok-link.ensures in let xs = c.args.self.now.all.items in let i = c.args.from in let j = c.args.to in
    let p = c.index_mut.result.now in let q = c.index_mut-2.result.now in
    let p' : Passes = record { puts = c.push-2.new.self; gets = p.gets } in let q' : Passes = record { puts = q.puts; gets = c.push-3.new.self } in
    let in_i = c.requires.within.0 in let in_j = c.requires.within.1 in let at_i = c.index_mut.ensures.value in let at_j = c.index_mut-2.ensures.value in
    record {
      link = made.link;
      put = made.put;
      get = made.get;
      links = c.in_ok-push.ensures.items;
      room_is = is.room;
      put_own = is.own.0;
      get_own = is.own.1;
      put_fresh = is.fresh.0;
      get_fresh = is.fresh.1;
      idle = is.fresh.2;
      whole = length-set (set xs i p') j q' ∙ length-set xs i p';
      puts = puts_here xs i j p p' q q' in_i in_j at_i at_j (λ l. l ++ made.put ∷ []) c.in_ok-push-2.ensures.items refl;
      other_puts = puts_there xs i j p p' q q' in_i in_j at_i at_j refl;
      gets = gets_here xs i j p p' q q' in_i in_j at_i at_j (λ l. l ++ made.get ∷ []) refl c.in_ok-push-3.ensures.items;
      other_gets = gets_there xs i j p p' q q' in_i in_j at_i at_j refl;
    }
