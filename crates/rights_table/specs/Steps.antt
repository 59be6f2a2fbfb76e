-- Steps with the holding of a right.
use Rattle.std.specs.Prelude.{◌≡◌, true, ◌+◌, ◌<◌, ◌^◌}
use Rattle.rights_table.specs.declared.holding.Holding.{Holding}
use Rattle.rights_table.specs.declared.step.Step.{Step}
use Rattle.rights_table.specs.declared.step.Step.TheVariants as step
use Rattle.rights_table.specs.Holdings.{count_of, is_count, permits, spent, MayGive, MayAccept, Given, Accepted}

-- what is given is held, what is accepted joins it, what is spent is permitted, and a count stays within 64 bits
abbrev pub MayStep : Holding → Step → Type 0
MayStep h (step.Give piece) = MayGive h piece
MayStep h (step.Accept piece) = MayAccept h piece
MayStep h (step.Spend ask) = permits h ask ≡ true
MayStep h (step.Create n) = (is_count h ≡ true) × (count_of h + n < 2 ^ 64)

abbrev pub IsStep : Holding → Step → Holding → Type 0
IsStep h (step.Give piece) new = Given h piece new
IsStep h (step.Accept piece) new = Accepted h piece new
IsStep h (step.Spend ask) new = new ≡ spent h ask
IsStep h (step.Create n) new = (is_count new ≡ true) × (count_of new ≡ count_of h + n)
