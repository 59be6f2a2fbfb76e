use Rattle.std.proofs.Common.{◌≡◌, ◌≤◌, List, [], ◌∷◌, ◌++◌, Some, Option, ap, ◌∙◌, sym, subst, rules, arith}
use Rattle.turn_desk.proofs.Begins.{beginning}
use Rattle.turn_desk.proofs.desk.Desk.begin.Goals as goal

pub new-requires : goal.new-requires
new-requires g c =
    let pushed : c.push.new.self.items ≡ Some c.args.value ∷ [] =
    c.in_ok-push.ensures.items ∙ ap (λ (xs : List (Option g.row.V.Denot)). xs ++ Some c.args.value ∷ []) c.new-slots.ensures.items in
    let has_room = subst (λ (x : g.row.V.Denot). c.args.parts ≤ g.V.Turn.room (g.V.Turn.opening x)) (sym c.of.ensures) c.requires.room.1 in
    beginning g.V.Turn (record { parts = c.args.parts; first = c.of.result }) c.args.value c.push.new.self.items pushed (sym c.of.ensures)
    c.requires.empty (first_of (search rules, omega (arith, c.ranges.parts.fits))) has_room
