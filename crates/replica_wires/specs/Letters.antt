-- Messages, and what of them goes over a link.
use Rattle.std.specs.Prelude.{ℕ, List, map}
use Rattle.run_model.specs.declared.message.Message.{Message}
use Rattle.replica_wires.specs.declared.letter.Letter.{Letter}

-- a message without its sender and its receiver
abbrev pub letter_in : Message → Letter
letter_in message = record { number = message.number; stamp = message.stamp; cut = message.cut; items = message.items; wants = message.wants }

-- the message that a letter is on the link from one replica to another
abbrev pub addressed : ℕ → ℕ → Letter → Message
addressed from to letter = record { from = from; to = to; number = letter.number; stamp = letter.stamp; cut = letter.cut; items = letter.items; wants = letter.wants }

-- the messages that letters are on that link
abbrev pub all_addressed : ℕ → ℕ → List Letter → List Message
all_addressed from to letters = map (addressed from to) letters
