-- The lines that say a plan and a certificate are taken, and give them again.
use Rattle.std.proofs.Common.{◌≡◌, ℕ, suc, ◌-◌, Bool, true, false, eqb, not, ◌&&◌, ◌||◌, List, [], ◌∷◌, ◌++◌, length, map, refl, sym, ap, subst, ◌∙◌, arith, append_assoc, append-nil}
use Rattle.std.specs.Prelude.{Option, Some, None}
use Rattle.std.specs.List.{AllByRecursion}
use Rattle.std.proofs.lemmas.Bool.{eq-eqb, lt-ltb, ne_eqb}
use Rattle.certificate_check.specs.Draft.{closed, fresh, kind_of, passes, step, take_certificate, take_end, take_line, take_lock, take_part, take_plan, take_refuted, take_step}
use Rattle.certificate_check.specs.Fitting.{has_pair, kind_fits, kind_named}
use Rattle.certificate_check.specs.Texts.{HasNames}
use Rattle.certificate_check.specs.declared.certificate.CertLine.{CertLine}
use Rattle.certificate_check.specs.declared.certificate.CertLine.TheVariants.{Refuted, SepLock, SepPart}
use Rattle.certificate_check.specs.declared.draft.Draft.{Draft}
use Rattle.certificate_check.specs.declared.draft.Stage.TheVariants as stages
use Rattle.certificate_check.proofs.Reservations.{is_new, lock_passes, part_passes}
use Rattle.certificate_check.proofs.Saying.{all_said, cases_said, form_said, kind_said, kinds_said, lock_line, part_line, plan_said, step_line}
use Rattle.certificate_lines.specs.declared.line.TextLine.{TextLine}
use Rattle.certificate_lines.specs.declared.line.TextLine.TheVariants as lines
use Rattle.ground_clauses.specs.declared.clauses.Step.{Step}
use Rattle.line_text.specs.Reads.{◌>>=◌}
use Rattle.spec_model.specs.Fits.{EachPairOnce, LockFits, PartFits}
use Rattle.spec_model.specs.declared.plan.LockKind.{LockKind}
use Rattle.spec_model.specs.declared.spec.Spec.{Spec}

-- what lines add, one after the other
abbrev pub steps : Spec → Draft → List TextLine → Option Draft
steps spec d [] = Some d
steps spec d (l ∷ ls) = step spec d l >>= λ e. steps spec e ls

steps_one : (spec : Spec) (d e : Draft) (l : TextLine) (ls : List TextLine) → step spec d l ≡ Some e → steps spec d (l ∷ ls) ≡ steps spec e ls
steps_one spec d e l ls is = ap (λ (o : Option Draft). o >>= λ f. steps spec f ls) is

bound : (spec : Spec) (ks ls : List TextLine) (o : Option Draft) → ((f : Draft) → steps spec f (ks ++ ls) ≡ (steps spec f ks >>= λ e. steps spec e ls))
    → (o >>= λ f. steps spec f (ks ++ ls)) ≡ ((o >>= λ f. steps spec f ks) >>= λ f. steps spec f ls)
bound spec ks ls None h = refl
bound spec ks ls (Some f) h = h f

steps_append : (spec : Spec) (d : Draft) (ks ls : List TextLine) → steps spec d (ks ++ ls) ≡ (steps spec d ks >>= λ e. steps spec e ls)
steps_append spec d [] ls = refl
steps_append spec d (k ∷ ks) ls = bound spec ks ls (step spec d k) (λ f. steps_append spec f ks ls)

steps_then : (spec : Spec) (d e : Draft) (ks ls : List TextLine) → steps spec d ks ≡ Some e → steps spec d (ks ++ ls) ≡ steps spec e ls
steps_then spec d e ks ls is = steps_append spec d ks ls ∙ ap (λ (o : Option Draft). o >>= λ f. steps spec f ls) is

-- ---- the plan

abbrev in_plan : List LockKind → List LockKind → Draft
in_plan locks parts = record { stage = stages.Plan; locks = locks; parts = parts; lines = []; steps = []; missing = 0 }

abbrev just : Draft → Option Draft
just d = Some d

same : (n : ℕ) → eqb n n ≡ true
same n = eq-eqb n n refl

-- the operations of a reservation are found by their names
named_again : (spec : Spec) (n : ℕ) (l : LockKind) → HasNames spec → LockFits spec l → kind_named spec (kind_said spec n l) ≡ l
named_again spec n l names fits =
    let ordered = fits.ordered in
    let known = fits.known in
    rw (names.apart l.a (omega (arith, ordered, known)), names.apart l.b known) refl

or_false : (a b : Bool) → (a || b) ≡ false → (a ≡ false) × (b ≡ false)
or_false true b e = absurd cc
or_false false b e = (refl, e)

pairs_append : (locks parts : List LockKind) (l : LockKind) → has_pair (locks ++ parts) l ≡ (has_pair locks l || has_pair parts l)
pairs_append [] parts l = refl
pairs_append (m ∷ locks) parts l = ap (λ (t : Bool). (eqb m.a l.a && eqb m.b l.b) || t) (pairs_append locks parts l) ∙ moved (eqb m.a l.a && eqb m.b l.b) (has_pair locks l) (has_pair parts l)
  where
    moved : (a b c : Bool) → (a || (b || c)) ≡ ((a || b) || c)
    moved true b c = refl
    moved false b c = refl

-- a reservation that fits and is new
abbrev kind_tested : Spec → Draft → LockKind → Option LockKind
kind_tested spec d m = passes (kind_fits spec m && not (has_pair d.locks m) && not (has_pair d.parts m)) >>= λ e. Some m

kind_passes : (spec : Spec) (d : Draft) (m : LockKind) → kind_fits spec m ≡ true → has_pair d.locks m ≡ false → has_pair d.parts m ≡ false → kind_tested spec d m ≡ Some m
kind_passes spec d m fits first second = rw (fits, first, second) refl

kind_again : (spec : Spec) (d : Draft) (n : ℕ) (l : LockKind) (behind : List LockKind) → HasNames spec → LockFits spec l → EachPairOnce ((d.locks ++ d.parts) ++ l ∷ behind) → kind_of spec d (kind_said spec n l) ≡ Some l
unfolding kind_of
kind_again spec d n l behind names fits once =
    let none = or_false (has_pair d.locks l) (has_pair d.parts l) (sym (pairs_append d.locks d.parts l) ∙ is_new (d.locks ++ d.parts) l behind once) in
    ap (kind_tested spec d) (named_again spec n l names fits) ∙ kind_passes spec d l (lock_passes spec l fits) none.0 none.1

lock_taken : (spec : Spec) (front : List LockKind) (l : LockKind) (behind : List LockKind) → HasNames spec → LockFits spec l → EachPairOnce (front ++ l ∷ behind)
    → step spec (in_plan front []) (lines.Lock (kind_said spec (length front) l)) ≡ Some (in_plan (front ++ l ∷ []) [])
unfolding take_lock
lock_taken spec front l behind names fits once =
    let again = kind_again spec (in_plan front []) (length front) l behind names fits (subst (λ (ks : List LockKind). EachPairOnce (ks ++ l ∷ behind)) (sym (append-nil front)) once) in
    rw (same (length front)) (rw again refl)

part_taken : (spec : Spec) (locks front : List LockKind) (l : LockKind) (behind : List LockKind) → HasNames spec → PartFits spec l → EachPairOnce ((locks ++ front) ++ l ∷ behind)
    → step spec (in_plan locks front) (lines.Part (kind_said spec (length front) l)) ≡ Some (in_plan locks (front ++ l ∷ []))
unfolding take_part
part_taken spec locks front l behind names fits once =
    let again = kind_again spec (in_plan locks front) (length front) l behind names fits.lock once in
    rw (same (length front)) (rw again (rw (part_passes spec l fits) refl))

longer : {X : Type 0} (xs : List X) (x : X) → length (xs ++ x ∷ []) ≡ suc (length xs)
longer [] x = refl
longer (y ∷ xs) x = ap suc (longer xs x)

next_one : (front : List LockKind) (l : LockKind) (ks : List LockKind) → front ++ l ∷ ks ≡ (front ++ l ∷ []) ++ ks
next_one front l ks = sym (append_assoc front (l ∷ []) ks)

locks_taken : (spec : Spec) (front ks rest : List LockKind) → HasNames spec → AllByRecursion (LockFits spec) ks → EachPairOnce (front ++ (ks ++ rest))
    → steps spec (in_plan front []) (kinds_said spec lock_line (length front) ks) ≡ Some (in_plan (front ++ ks) [])
locks_taken spec front [] rest names fit once = ap (λ (ls : List LockKind). just (in_plan ls [])) (sym (append-nil front))
locks_taken spec front (l ∷ ks) rest names fit once =
    let more = locks_taken spec (front ++ l ∷ []) ks rest names fit.1 (subst EachPairOnce (next_one front l (ks ++ rest)) once) in
    steps_one spec (in_plan front []) (in_plan (front ++ l ∷ []) []) (lines.Lock (kind_said spec (length front) l)) (kinds_said spec lock_line (suc (length front)) ks) (lock_taken spec front l (ks ++ rest) names fit.0 once)
    ∙ ap (λ (n : ℕ). steps spec (in_plan (front ++ l ∷ []) []) (kinds_said spec lock_line n ks)) (sym (longer front l)) ∙ more ∙ ap (λ (ls : List LockKind). just (in_plan ls [])) (sym (next_one front l ks))

parts_taken : (spec : Spec) (locks front ks : List LockKind) → HasNames spec → AllByRecursion (PartFits spec) ks → EachPairOnce ((locks ++ front) ++ ks)
    → steps spec (in_plan locks front) (kinds_said spec part_line (length front) ks) ≡ Some (in_plan locks (front ++ ks))
parts_taken spec locks front [] names fit once = ap (λ (ls : List LockKind). just (in_plan locks ls)) (sym (append-nil front))
parts_taken spec locks front (l ∷ ks) names fit once =
    let moved : EachPairOnce ((locks ++ (front ++ l ∷ [])) ++ ks) = subst EachPairOnce (next_one (locks ++ front) l ks ∙ ap (λ (ls : List LockKind). ls ++ ks) (append_assoc locks front (l ∷ []))) once in
    let more = parts_taken spec locks (front ++ l ∷ []) ks names fit.1 moved in
    steps_one spec (in_plan locks front) (in_plan locks (front ++ l ∷ [])) (lines.Part (kind_said spec (length front) l)) (kinds_said spec part_line (suc (length front)) ks) (part_taken spec locks front l ks names fit.0 once)
    ∙ ap (λ (n : ℕ). steps spec (in_plan locks (front ++ l ∷ [])) (kinds_said spec part_line n ks)) (sym (longer front l)) ∙ more ∙ ap (λ (ls : List LockKind). just (in_plan locks ls)) (sym (next_one front l ks))

-- ---- the certificate

abbrev in_cases : List LockKind → List LockKind → List CertLine → List Step → ℕ → Draft
in_cases locks parts ls done missing = record { stage = stages.Certificate; locks = locks; parts = parts; lines = ls; steps = done; missing = missing }

abbrev between_cases : List LockKind → List LockKind → List CertLine → Draft
between_cases locks parts ls = in_cases locks parts ls [] 0

abbrev whole : List Step → CertLine
whole done = Refuted (record { steps = done })

-- a derivation that lacks steps stays open
open_still : (locks parts : List LockKind) (ls : List CertLine) (done : List Step) (n : ℕ) → closed (in_cases locks parts ls done (suc n)) ≡ in_cases locks parts ls done (suc n)
open_still locks parts ls done n = rw (ne_eqb (suc n) 0 (λ e. omega (arith, e))) refl

step_taken : (spec : Spec) (locks parts : List LockKind) (ls : List CertLine) (done : List Step) (s : Step) (n : ℕ) → step spec (in_cases locks parts ls done (suc n)) (lines.Step s) ≡ Some (closed (in_cases locks parts ls (done ++ s ∷ []) n))
unfolding take_step
step_taken spec locks parts ls done s n =
    let less : suc n - 1 ≡ n = omega arith in
    rw (lt-ltb 0 (suc n) (omega arith)) (ap (λ (m : ℕ). just (closed (in_cases locks parts ls (done ++ s ∷ []) m))) less)

steps_taken : (spec : Spec) (locks parts : List LockKind) (ls : List CertLine) (done rest : List Step) → steps spec (closed (in_cases locks parts ls done (length rest))) (map step_line rest) ≡ Some (between_cases locks parts (ls ++ whole (done ++ rest) ∷ []))
steps_taken spec locks parts ls done [] = ap (λ (ss : List Step). just (between_cases locks parts (ls ++ whole ss ∷ []))) (sym (append-nil done))
steps_taken spec locks parts ls done (s ∷ rest) =
    ap (λ (d : Draft). steps spec d (lines.Step s ∷ map step_line rest)) (open_still locks parts ls done (length rest))
    ∙ steps_one spec (in_cases locks parts ls done (suc (length rest))) (closed (in_cases locks parts ls (done ++ s ∷ []) (length rest))) (lines.Step s) (map step_line rest) (step_taken spec locks parts ls done s (length rest))
    ∙ steps_taken spec locks parts ls (done ++ s ∷ []) rest
    ∙ ap (λ (ss : List Step). just (between_cases locks parts (ls ++ whole ss ∷ []))) (append_assoc done (s ∷ []) rest)

line_taken : (spec : Spec) (locks parts : List LockKind) (ls : List CertLine) (line : CertLine) → take_line (between_cases locks parts ls) (length ls) line ≡ Some (between_cases locks parts (ls ++ line ∷ []))
unfolding take_line
line_taken spec locks parts ls line = rw (same (length ls)) refl

refuted_taken : (spec : Spec) (locks parts : List LockKind) (ls : List CertLine) (count : ℕ) → step spec (between_cases locks parts ls) (lines.Refuted (length ls) count) ≡ Some (closed (in_cases locks parts ls [] count))
unfolding take_refuted
refuted_taken spec locks parts ls count = rw (same (length ls)) refl

form_taken : (spec : Spec) (locks parts : List LockKind) (ls : List CertLine) (l : CertLine) → steps spec (between_cases locks parts ls) (form_said (length ls) l) ≡ Some (between_cases locks parts (ls ++ l ∷ []))
form_taken spec locks parts ls (SepLock i) = rw (line_taken spec locks parts ls (SepLock i)) refl
form_taken spec locks parts ls (SepPart i) = rw (line_taken spec locks parts ls (SepPart i)) refl
form_taken spec locks parts ls (Refuted d) =
    steps_one spec (between_cases locks parts ls) (closed (in_cases locks parts ls [] (length d.steps))) (lines.Refuted (length ls) (length d.steps)) (map step_line d.steps) (refuted_taken spec locks parts ls (length d.steps))
    ∙ steps_taken spec locks parts ls [] d.steps

cases_taken : (spec : Spec) (locks parts : List LockKind) (front ls : List CertLine) → steps spec (between_cases locks parts front) (cases_said (length front) ls) ≡ Some (between_cases locks parts (front ++ ls))
cases_taken spec locks parts front [] = ap (λ (ks : List CertLine). just (between_cases locks parts ks)) (sym (append-nil front))
cases_taken spec locks parts front (l ∷ ls) =
    steps_then spec (between_cases locks parts front) (between_cases locks parts (front ++ l ∷ [])) (form_said (length front) l) (cases_said (suc (length front)) ls) (form_taken spec locks parts front l)
    ∙ ap (λ (n : ℕ). steps spec (between_cases locks parts (front ++ l ∷ [])) (cases_said n ls)) (sym (longer front l))
    ∙ cases_taken spec locks parts (front ++ l ∷ []) ls ∙ ap (λ (ks : List CertLine). just (between_cases locks parts ks)) (append_assoc front (l ∷ []) ls)

-- ---- the whole

abbrev pub at_end : List LockKind → List LockKind → List CertLine → Draft
at_end locks parts ls = record { stage = stages.End; locks = locks; parts = parts; lines = ls; steps = []; missing = 0 }

plan_taken : (spec : Spec) (locks parts : List LockKind) → HasNames spec → AllByRecursion (LockFits spec) locks → AllByRecursion (PartFits spec) parts → EachPairOnce (locks ++ parts)
    → steps spec fresh (plan_said spec locks parts) ≡ Some (in_plan locks parts)
unfolding take_plan
plan_taken spec locks parts names lock_fit part_fit once =
    steps_then spec (in_plan [] []) (in_plan locks []) (kinds_said spec lock_line 0 locks) (kinds_said spec part_line 0 parts) (locks_taken spec [] locks parts names lock_fit once)
    ∙ parts_taken spec locks [] parts names part_fit (subst (λ (ks : List LockKind). EachPairOnce (ks ++ parts)) (sym (append-nil locks)) once)

certificate_taken : (spec : Spec) (locks parts : List LockKind) (ls : List CertLine) → steps spec (in_plan locks parts) (lines.Certificate ∷ (cases_said 0 ls ++ lines.End ∷ [])) ≡ Some (at_end locks parts ls)
unfolding take_certificate take_end
certificate_taken spec locks parts ls = steps_then spec (between_cases locks parts []) (between_cases locks parts ls) (cases_said 0 ls) (lines.End ∷ []) (cases_taken spec locks parts [] ls)

pub all_taken : (spec : Spec) (locks parts : List LockKind) (ls : List CertLine) → HasNames spec → AllByRecursion (LockFits spec) locks → AllByRecursion (PartFits spec) parts → EachPairOnce (locks ++ parts)
    → steps spec fresh (all_said spec locks parts ls) ≡ Some (at_end locks parts ls)
all_taken spec locks parts ls names lock_fit part_fit once =
    steps_then spec fresh (in_plan locks parts) (plan_said spec locks parts) (lines.Certificate ∷ (cases_said 0 ls ++ lines.End ∷ [])) (plan_taken spec locks parts names lock_fit part_fit once)
    ∙ certificate_taken spec locks parts ls
