use Rattle.std.proofs.Common.{◌≡◌, ◌++◌, ◌∷◌, [], List, false, true, refl, sym, ap, subst, ◌∙◌}
use Rattle.std.proofs.lemmas.List.{append_assoc, append-nil, drop_all}
use Rattle.spec_model.specs.declared.right.Want.{Want}
use Rattle.message_laws.specs.Heeded.{AreFitting}
use Rattle.message_drafts.proofs.Looking.{wants_kept, wants_passed}
use Rattle.message_drafts.proofs.fitting.fitting_wants.Goals as goal
use Rattle.message_drafts.proofs.fitting.fitting_wants.Goals.{then-want_fits+in_ok-push, else-want_fits}

pub loop-want-preserved : goal.loop-want-preserved
loop-want-preserved c =
    let setup = c.args.setup.now in
    let wants : List Want = c.args.wants.now in
    let k = c.loop-want.want-index in
    let want : Want = c.want-item.result in
    λ rest behind.
    elim c.if-want_fits.branch [
      | then-want_fits+in_ok-push w ↦
          let fits = c.want_fits.ensures.0 w.if-want_fits.true in
          let all = c.loop-want.invariant (want ∷ rest) (wants_kept setup wants k want rest c.loop-want-test.true c.want-item.is fits behind) in
          subst (AreFitting setup wants) (sym (append_assoc c.loop-want.fitting (want ∷ []) rest) ∙ sym (ap (λ (l : List Want). l ++ rest) (w.fitting-is ∙ w.in_ok-push.ensures.ok))) all
      | else-want_fits w ↦
          let all = c.loop-want.invariant rest (wants_passed setup wants k want rest c.loop-want-test.true c.want-item.is (λ fits. absurd (let wrong : false ≡ true = w.if-want_fits.ensures.1 fits in cc)) behind) in
          subst (λ (l : List Want). AreFitting setup wants (l ++ rest)) (sym w.fitting-is) all
    ]

pub returns : goal.returns
returns c =
    let wants : List Want = c.args.wants.now in
    let none = c.loop-want.invariant [] (subst (λ (l : List Want). AreFitting c.args.setup.now l []) (sym (drop_all c.loop-want.want-index wants c.loop-want-test.false)) refl) in
    subst (AreFitting c.args.setup.now wants) (append-nil c.loop-want.fitting) none
