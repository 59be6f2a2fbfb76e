use Rattle.std.proofs.Common.{◌≡◌, sym, ◌∙◌, Some, None, subst, IfSome}
use Rattle.desk_workers.proofs.Returns.{back_first, back_more}
use Rattle.desk_workers.specs.Standing.{TakesBack}
use Rattle.turn_desk.specs.Passes.{IsPassOf}
use Rattle.desk_workers.proofs.slot.Slot.take_back.Goals as goal
use Rattle.desk_workers.proofs.slot.Slot.take_back.Goals.{in-None, in-Some}

pub join_pass-requires : goal.join_pass-requires
join_pass-requires g c =
    let is : c.args.self.now.pass ≡ Some c.in-Some.pass = sym c.take.ensures.value ∙ c.in-Some.is in
    record { own = (subst (λ slot. IfSome slot (λ p. IsPassOf c.args.desk.now p)) is c.requires.own.1, c.requires.own.0) }

pub returns : goal.returns
returns g c =
    let answer = g.V.Turn.is_answer in let opening = g.V.Turn.opening in let desk = c.args.desk.now in let from = c.args.from in
    record {
      back =
          elim c.match-take.branch [
            | in-None w ↦
                (let old : c.args.self.now.pass ≡ None = sym c.take.ensures.value ∙ w.in-None.is in
                subst (λ slot. TakesBack answer opening desk from slot (Some c.match-take.pass)) (sym old)
                (subst (λ p. TakesBack answer opening desk from None (Some p)) (sym w.pass-is) (back_first answer opening desk from c.requires.own.0 c.requires.answers)))
            | in-Some w ↦
                (let old : c.args.self.now.pass ≡ Some w.in-Some.pass = sym c.take.ensures.value ∙ w.in-Some.is in
                let j = w.join_pass.ensures in
                subst (λ slot. TakesBack answer opening desk from slot (Some c.match-take.pass)) (sym old)
                (subst (λ p. TakesBack answer opening desk from (Some w.in-Some.pass) (Some p)) (sym w.pass-is)
                (back_more answer opening desk w.in-Some.pass from w.join_pass.new.into j.own j.parts j.turns c.requires.answers)))
          ];
    }
