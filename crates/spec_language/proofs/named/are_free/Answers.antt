use Rattle.std.proofs.Common.{arith, refl, sym, ◌∙◌}
use Rattle.std.proofs.lemmas.Bool.{not-true, not-false}
use Rattle.spec_language.proofs.Twins.{holds_none, holds_more, not_free, or_last, all_free}
use Rattle.spec_language.proofs.named.are_free.Goals as goal
use Rattle.spec_language.proofs.named.are_free.Goals.{then-is_reserved-via-then-is_reserved, then-is_reserved-via-else-is_reserved+in_ok-insert+then-not-branch}

pub going-init : goal.going-init
going-init g c = holds_none g.T.Named.name_of c.new-behind.result c.args.items.now c.new-behind.ensures.empty

pub returns-then-is_reserved : goal.returns-then-is_reserved
returns-then-is_reserved g c =
    let free = not_free g.T.Named.name_of c.going.behind c.args.items.now c.going.front.now c.in-Some.others.now c.in-Some.last.now c.name-name.result c.going.invariant c.in-Some.ensures.cases.0 c.name-name.ensures in
    elim c.then-is_reserved.branch [ then-is_reserved-via-then-is_reserved w ↦ sym (free (rw (sym w.if-is_reserved.ensures) refl)) | then-is_reserved-via-else-is_reserved+in_ok-insert+then-not-branch w ↦ sym (free (rw (not-false _ (sym w.in_ok-insert.ensures.added ∙ w.if-not-branch.true)) (or_last _))) ]

pub going-smaller : goal.going-smaller
going-smaller g c = let fewer = c.in-Some.ensures.cases.1 in omega arith

pub going-preserved : goal.going-preserved
going-preserved g c = holds_more g.T.Named.name_of c.going.behind c.insert.new.self c.args.items.now c.going.front.now c.in-Some.others.now c.in-Some.last.now c.name-name.result c.going.invariant c.in-Some.ensures.cases.0 c.name-name.ensures (sym c.if-is_reserved.ensures) (not-true _ (sym c.in_ok-insert.ensures.added ∙ c.if-not-branch.false)) c.in_ok-insert.ensures.updates

pub returns : goal.returns
returns g c = sym (all_free g.T.Named.name_of c.going.behind c.args.items.now c.going.front.now c.going.invariant c.in_default.ensures.cases)
