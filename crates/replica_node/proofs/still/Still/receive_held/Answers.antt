use Rattle.std.proofs.Common.{◌≡◌, true, false, sym, ◌∙◌}
use Rattle.replica_node.proofs.Held.{held_gone, held_room, held_taken}
use Rattle.replica_node.proofs.still.Still.receive_held.Goals as goal

pub take_held-requires-clause-room : goal.take_held-requires-clause-room
take_held-requires-clause-room g c =
    held_room g.S.Storage.keeps g.S.Storage.shows c.args.setup.now c.args.from c.args.self.now c.requires.own c.requires.peer.0
    (λ none. absurd (let wrong : true ≡ false = sym (c.is_free.ensures.1 none) ∙ c.if-is_free.false in cc)) c.requires.room

pub let_go-requires-clause-room : goal.let_go-requires-clause-room
let_go-requires-clause-room g c =
    held_room g.S.Storage.keeps g.S.Storage.shows c.args.setup.now c.args.from c.args.self.now c.requires.own c.requires.peer.0
    (λ none. absurd (let wrong : true ≡ false = sym (c.is_free.ensures.1 none) ∙ c.if-is_free.false in cc)) c.requires.room

pub returns-in_ok-take_held : goal.returns-in_ok-take_held
returns-in_ok-take_held g c =
    held_taken g.S.Storage.keeps g.S.Storage.shows c.args.setup.now c.args.from c.args.self.now c.take_held.new.self c.in_ok-take_held.field-0 c.requires.own c.requires.peer.0
    (λ none. absurd (let wrong : true ≡ false = sym (c.is_free.ensures.1 none) ∙ c.if-is_free.false in cc))
    c.take_held.ensures.stays c.in_ok-take_held.ensures.hands c.in_ok-take_held.ensures.asked c.in_ok-take_held.ensures.answers c.in_ok-take_held.ensures.costs

pub returns-in_ok-let_go : goal.returns-in_ok-let_go
returns-in_ok-let_go g c =
    held_gone g.S.Storage.keeps g.S.Storage.shows c.args.setup.now c.args.from c.args.self.now c.let_go.new.self _ c.requires.own c.requires.peer.0
    (λ none. absurd (let wrong : true ≡ false = sym (c.is_free.ensures.1 none) ∙ c.if-is_free.false in cc))
    (λ up. absurd (let wrong : true ≡ false = sym (c.is_up.ensures.1 up) ∙ c.if-is_up.false in cc))
    c.in_ok-let_go.ensures.stays c.in_ok-let_go.ensures.hands c.in_ok-let_go.ensures.rests c.in_ok-let_go.ensures.answers c.in_ok-let_go.ensures.costs
