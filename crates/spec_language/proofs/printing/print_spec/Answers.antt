use Rattle.std.proofs.Common.{◌≡◌, ℕ, List, ◌++◌, ap, ◌∙◌}
use Rattle.spec_language.specs.Saying.{spec_text}
use Rattle.spec_language.proofs.SaidAgain.{spec_again}
use Rattle.spec_language.proofs.printing.print_spec.Goals as goal

pub returns-clause-again : goal.returns-clause-again
returns-clause-again c =
    let text : c.put_spec.new.out ≡ spec_text c.args.spec.now = c.in_ok-put_spec.ensures ∙ ap (λ (front : List ℕ). front ++ spec_text c.args.spec.now) c.new-out.ensures in
    λ lines is. rw text (spec_again lines c.args.spec.now is)
