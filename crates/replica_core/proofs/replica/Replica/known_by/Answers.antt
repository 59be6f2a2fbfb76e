use Rattle.std.proofs.Common.{◌≡◌, ℕ, List, [], sym, ap, ◌∙◌}
use Rattle.std.specs.Prelude.{slice_get, slice_index, Some, Option}
use Rattle.std.specs.Option.{option_copied, unwrap_or}
use Rattle.std.proofs.lemmas.Option.{get_or_from_slice_get, unwrap_or-slice_get}
use Rattle.replica_core.proofs.Told.{none_told}
use Rattle.replica_core.proofs.replica.Replica.known_by.Goals as goal

pub returns-in-Some : goal.returns-in-Some
returns-in-Some c =
    let there : slice_get c.args.self.now.told c.args.to ≡ Some c.in-Some.cut.now = sym c.get.ensures.value ∙ ap option_copied c.in-Some.is in
    c.unwrap_or.ensures ∙ ap (λ (o : Option ℕ). unwrap_or o 0) c.get-in-Some.ensures ∙ unwrap_or-slice_get c.in-Some.cut.now c.args.self.now.me 0
    ∙ ap (λ (cut : List ℕ). slice_index cut c.args.self.now.me) (sym (get_or_from_slice_get c.args.self.now.told c.args.to c.in-Some.cut.now [] there))

pub returns-in-None : goal.returns-in-None
returns-in-None c = none_told c.args.self.now.told c.args.to c.args.self.now.me (sym c.get.ensures.value ∙ ap option_copied c.in-None.is)
