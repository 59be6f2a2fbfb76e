use Rattle.std.proofs.Common.{◌≡◌, ℕ, List, ◌++◌, ap, ◌∙◌}
use Rattle.scenario_text.specs.Saying.{document_text}
use Rattle.scenario_text.proofs.DocumentAgain.{document_again}
use Rattle.scenario_text.proofs.printing.print_document.Goals as goal

pub returns-clause-again : goal.returns-clause-again
returns-clause-again c =
    let text : c.put_document.new.out ≡ document_text c.args.document.now = c.in_ok-put_document.ensures ∙ ap (λ (front : List ℕ). front ++ document_text c.args.document.now) c.new-out.ensures in
    λ bytes is. rw text (document_again bytes c.args.document.now is)
