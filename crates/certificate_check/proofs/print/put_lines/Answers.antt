use Rattle.std.proofs.Common.{◌++◌, [], ◌∷◌, ap, append_assoc, ◌∙◌}
use Rattle.std.specs.Prelude.{codes}
use Rattle.certificate_check.specs.Printed.{cases_text}
use Rattle.certificate_check.proofs.print.put_lines.Goals as goal

pub returns-clause-text : goal.returns-clause-text
returns-clause-text c =
    let head = codes "certificate" ++ 10 ∷ [] in
    let tail = codes "end" ++ 10 ∷ [] in
    let middle = cases_text 0 c.args.certificate.now.lines in
    c.in_ok-extend-2.ensures.ok ∙ ap (λ xs. xs ++ tail) (c.in_ok-put_cases.ensures.text ∙ ap (λ ls. c.extend.new.self ++ cases_text 0 ls) c.as_slice.ensures.value)
    ∙ ap (λ xs. (xs ++ middle) ++ tail) c.in_ok-extend.ensures.ok
    ∙ append_assoc (c.args.out.now ++ head) middle tail ∙ append_assoc c.args.out.now head (middle ++ tail)
