-- Each line that is taken is said at the end, and the plan stays one that fits.
use Rattle.std.proofs.Common.{◌≡◌, ℕ, zero, suc, ◌+◌, ◌-◌, ◌<◌, Bool, true, false, cond, eqb, not, ◌&&◌, List, [], ◌∷◌, ◌++◌, length, map, refl, sym, ap, subst, ◌∙◌, arith, append_assoc, append-nil}
use Rattle.std.specs.Prelude.{Some, nat_lt}
use Rattle.std.proofs.lemmas.Bool.{eqb-true, ltb-true, ne_eqb}
use Rattle.std.proofs.lemmas.List.{map-append, nil_from_length}
use Rattle.certificate_check.specs.Draft.{closed, is_between, is_certificate, is_next, is_plan, is_start, kind_of, step, take_certificate, take_end, take_line, take_lock, take_part, take_plan, take_refuted, take_step}
use Rattle.certificate_check.specs.Fitting.{has_pair, kind_fits, kind_named, shares_points}
use Rattle.certificate_check.specs.declared.certificate.CertLine.{CertLine}
use Rattle.certificate_check.specs.declared.certificate.CertLine.TheVariants.{Refuted, SepLock, SepPart}
use Rattle.certificate_check.specs.declared.draft.Draft.{Draft}
use Rattle.certificate_check.specs.declared.draft.Stage.{Stage}
use Rattle.certificate_check.specs.declared.draft.Stage.TheVariants as stages
use Rattle.certificate_check.proofs.Reservations.{lock_holds, name_found, once_more, part_holds}
use Rattle.certificate_check.proofs.Saying.{cases_said, form_said, kind_said, kinds_said, lock_line, part_line, plan_said, step_line}
use Rattle.certificate_lines.specs.declared.line.KindLine.{KindLine}
use Rattle.certificate_lines.specs.declared.line.TextLine.{TextLine}
use Rattle.certificate_lines.specs.declared.line.TextLine.TheVariants as lines
use Rattle.ground_clauses.proofs.Lists.{each_append}
use Rattle.ground_clauses.specs.declared.clauses.Step.{Step}
use Rattle.line_text.proofs.Guards.{and_true, not_true}
use Rattle.line_text.proofs.Inverse.{bind_some, some_same}
use Rattle.spec_model.specs.Fits.{EachPairOnce, LockFits, PartFits}
use Rattle.spec_model.specs.declared.plan.LockKind.{LockKind}
use Rattle.spec_model.specs.declared.spec.Spec.{Spec}
use Rattle.certificate_check.proofs.SaidSoFar.{Grown, HasPlan, IsEmpty, IsKept, ShapeAt, cases_push_first, certificate_is, kinds_push_first, none_before, open_said, passes_some, plan_is, said, said_at, said_is, shape_back, shape_is, start_is}

-- ---- the plan

plan_grown : (spec : Spec) (d e : Draft) → IsKept spec d → take_plan d ≡ Some e → Grown spec d e lines.Plan
unfolding take_plan
plan_grown spec d e kept is =
    let a = passes_some (is_start d.stage) _ e is in
    let at = start_is d.stage a.0 in
    let shape = shape_is d stages.Start at kept.shape in
    let new : Draft = record d { stage = stages.Plan } in
    let none : plan_said spec d.locks d.parts ≡ lines.Plan ∷ [] = rw (shape.0, shape.1) refl in
    let more : said spec new ≡ said spec d ++ lines.Plan ∷ [] = none ∙ sym (ap (λ (ls : List TextLine). ls ++ lines.Plan ∷ []) (said_is spec d stages.Start at)) in
    subst (λ (f : Draft). Grown spec d f lines.Plan) (some_same new e a.1) (record { more = more; kept = record { plan = kept.plan; shape = record { lines = shape.2.lines; steps = shape.2.steps; missing = shape.2.missing } } })

-- the reservation of a line, and what is known of it
record Named (spec : Spec) (d : Draft) (k : KindLine) (l : LockKind) : Type 0 where
  fits : LockFits spec l
  once : EachPairOnce ((d.locks ++ d.parts) ++ l ∷ [])
  says : kind_said spec k.number l ≡ k

named : (spec : Spec) (d : Draft) (k : KindLine) (l : LockKind) → HasPlan spec d.locks d.parts → kind_of spec d k ≡ Some l → Named spec d k l
unfolding kind_of
named spec d k l plan is =
    let m = kind_named spec k in
    let a = passes_some (kind_fits spec m && not (has_pair d.locks m) && not (has_pair d.parts m)) _ l is in
    let b = and_true (kind_fits spec m && not (has_pair d.locks m)) (not (has_pair d.parts m)) a.0 in
    let c = and_true (kind_fits spec m) (not (has_pair d.locks m)) b.0 in
    let fits = lock_holds spec m c.0 in
    let ordered = fits.ordered in
    let known = fits.known in
    let first = name_found spec.ops k.first (omega (arith, ordered, known)) in
    let second = name_found spec.ops k.second known in
    subst (Named spec d k) (some_same m l a.1)
    (record { fits = fits; once = once_more m d.locks d.parts plan.once (not_true (has_pair d.locks m) c.1) (not_true (has_pair d.parts m) b.1); says = rw (first, second) refl })

lock_grown : (spec : Spec) (d e : Draft) (k : KindLine) → IsKept spec d → take_lock spec d k ≡ Some e → Grown spec d e (lines.Lock k)
unfolding take_lock
lock_grown spec d e k kept is =
    let a = passes_some (is_plan d.stage && eqb (length d.parts) 0) _ e is in
    let t = and_true (is_plan d.stage) (eqb (length d.parts) 0) a.0 in
    let b = passes_some (eqb k.number (length d.locks)) _ e a.1 in
    let c = bind_some (kind_of spec d k) _ e b.1 in
    let l = c.0 in
    let n = named spec d k l kept.plan c.1 in
    let at = plan_is d.stage t.0 in
    let none : d.parts ≡ [] = nil_from_length d.parts (eqb-true (length d.parts) 0 t.1) in
    let number = eqb-true k.number (length d.locks) b.0 in
    let shape = shape_is d stages.Plan at kept.shape in
    let new : Draft = record d { locks = d.locks ++ l ∷ [] } in
    let pushed : kinds_said spec lock_line 0 (d.locks ++ l ∷ []) ≡ kinds_said spec lock_line 0 d.locks ++ lines.Lock k ∷ [] =
    kinds_push_first spec lock_line d.locks l ∙ ap (λ (i : ℕ). kinds_said spec lock_line 0 d.locks ++ lines.Lock (kind_said spec i l) ∷ []) (sym number) ∙ ap (λ (j : KindLine). kinds_said spec lock_line 0 d.locks ++ lines.Lock j ∷ []) n.says in
    let said_now : plan_said spec (d.locks ++ l ∷ []) d.parts ≡ plan_said spec d.locks d.parts ++ lines.Lock k ∷ [] = lock_said spec d.locks d.parts l k none pushed in
    let more : said spec new ≡ said spec d ++ lines.Lock k ∷ [] =
    ap (λ (s : Stage). said_at spec s new) at ∙ said_now ∙ sym (ap (λ (ls : List TextLine). ls ++ lines.Lock k ∷ []) (said_is spec d stages.Plan at)) in
    let once : EachPairOnce ((d.locks ++ l ∷ []) ++ d.parts) = subst (λ (ps : List LockKind). EachPairOnce ((d.locks ++ l ∷ []) ++ ps)) (sym none) (moved d.locks d.parts l none n.once) in
    let plan : HasPlan spec (d.locks ++ l ∷ []) d.parts = record { locks_fit = each_append (LockFits spec) d.locks (l ∷ []) kept.plan.locks_fit (n.fits, tt); parts_fit = kept.plan.parts_fit; once = once } in
    let empty : IsEmpty new = record { lines = shape.lines; steps = shape.steps; missing = shape.missing } in
    subst (λ (f : Draft). Grown spec d f (lines.Lock k)) (some_same new e c.2) (record { more = more; kept = record { plan = plan; shape = shape_back new stages.Plan at empty } })
  where
    lock_said : (spec : Spec) (locks parts : List LockKind) (l : LockKind) (k : KindLine) → parts ≡ [] → kinds_said spec lock_line 0 (locks ++ l ∷ []) ≡ kinds_said spec lock_line 0 locks ++ lines.Lock k ∷ []
        → plan_said spec (locks ++ l ∷ []) parts ≡ plan_said spec locks parts ++ lines.Lock k ∷ []
    lock_said spec locks parts l k none pushed =
        ap (λ (ps : List LockKind). plan_said spec (locks ++ l ∷ []) ps) none
        ∙ ap (λ (ls : List TextLine). lines.Plan ∷ ls) (append-nil (kinds_said spec lock_line 0 (locks ++ l ∷ [])) ∙ pushed ∙ sym (ap (λ (ls : List TextLine). ls ++ lines.Lock k ∷ []) (append-nil (kinds_said spec lock_line 0 locks))))
        ∙ sym (ap (λ (ps : List LockKind). plan_said spec locks ps ++ lines.Lock k ∷ []) none)

    moved : (locks parts : List LockKind) (l : LockKind) → parts ≡ [] → EachPairOnce ((locks ++ parts) ++ l ∷ []) → EachPairOnce ((locks ++ l ∷ []) ++ [])
    moved locks parts l none h = subst EachPairOnce (ap (λ (ps : List LockKind). (locks ++ ps) ++ l ∷ []) none ∙ ap (λ (ks : List LockKind). ks ++ l ∷ []) (append-nil locks) ∙ sym (append-nil (locks ++ l ∷ []))) h

part_grown : (spec : Spec) (d e : Draft) (k : KindLine) → IsKept spec d → take_part spec d k ≡ Some e → Grown spec d e (lines.Part k)
unfolding take_part
part_grown spec d e k kept is =
    let a = passes_some (is_plan d.stage) _ e is in
    let b = passes_some (eqb k.number (length d.parts)) _ e a.1 in
    let c = bind_some (kind_of spec d k) _ e b.1 in
    let l = c.0 in
    let p = passes_some (shares_points spec l) _ e c.2 in
    let n = named spec d k l kept.plan c.1 in
    let at = plan_is d.stage a.0 in
    let number = eqb-true k.number (length d.parts) b.0 in
    let shape = shape_is d stages.Plan at kept.shape in
    let new : Draft = record d { parts = d.parts ++ l ∷ [] } in
    let pushed : kinds_said spec part_line 0 (d.parts ++ l ∷ []) ≡ kinds_said spec part_line 0 d.parts ++ lines.Part k ∷ [] =
    kinds_push_first spec part_line d.parts l ∙ ap (λ (i : ℕ). kinds_said spec part_line 0 d.parts ++ lines.Part (kind_said spec i l) ∷ []) (sym number) ∙ ap (λ (j : KindLine). kinds_said spec part_line 0 d.parts ++ lines.Part j ∷ []) n.says in
    let said_now : plan_said spec d.locks (d.parts ++ l ∷ []) ≡ plan_said spec d.locks d.parts ++ lines.Part k ∷ [] =
    ap (λ (ls : List TextLine). lines.Plan ∷ (kinds_said spec lock_line 0 d.locks ++ ls)) pushed ∙ ap (λ (ls : List TextLine). lines.Plan ∷ ls) (sym (append_assoc (kinds_said spec lock_line 0 d.locks) (kinds_said spec part_line 0 d.parts) (lines.Part k ∷ []))) in
    let more : said spec new ≡ said spec d ++ lines.Part k ∷ [] =
    ap (λ (s : Stage). said_at spec s new) at ∙ said_now ∙ sym (ap (λ (ls : List TextLine). ls ++ lines.Part k ∷ []) (said_is spec d stages.Plan at)) in
    let once : EachPairOnce (d.locks ++ (d.parts ++ l ∷ [])) = subst EachPairOnce (append_assoc d.locks d.parts (l ∷ [])) n.once in
    let plan : HasPlan spec d.locks (d.parts ++ l ∷ []) = record { locks_fit = kept.plan.locks_fit; parts_fit = each_append (PartFits spec) d.parts (l ∷ []) kept.plan.parts_fit (part_holds spec l n.fits p.0, tt); once = once } in
    let empty : IsEmpty new = record { lines = shape.lines; steps = shape.steps; missing = shape.missing } in
    subst (λ (f : Draft). Grown spec d f (lines.Part k)) (some_same new e p.1) (record { more = more; kept = record { plan = plan; shape = shape_back new stages.Plan at empty } })

certificate_grown : (spec : Spec) (d e : Draft) → IsKept spec d → take_certificate d ≡ Some e → Grown spec d e lines.Certificate
unfolding take_certificate
certificate_grown spec d e kept is =
    let a = passes_some (is_plan d.stage) _ e is in
    let at = plan_is d.stage a.0 in
    let shape = shape_is d stages.Plan at kept.shape in
    let new : Draft = record d { stage = stages.Certificate } in
    let none : said spec new ≡ plan_said spec d.locks d.parts ++ lines.Certificate ∷ [] = rw (shape.lines, shape.missing) refl in
    let more : said spec new ≡ said spec d ++ lines.Certificate ∷ [] = none ∙ sym (ap (λ (ls : List TextLine). ls ++ lines.Certificate ∷ []) (said_is spec d stages.Plan at)) in
    subst (λ (f : Draft). Grown spec d f lines.Certificate) (some_same new e a.1) (record { more = more; kept = record { plan = kept.plan; shape = λ zero'. shape.steps } })

-- ---- the certificate

-- where a case may follow
pub record Between (d : Draft) (case : ℕ) : Type 0 where
  pub at : d.stage ≡ stages.Certificate
  pub missing : d.missing ≡ 0
  pub steps : d.steps ≡ []
  pub number : case ≡ length d.lines

between : (d : Draft) → ShapeAt d.stage d → is_between d ≡ true → Between d (length d.lines)
between d shape e =
    let t = and_true (is_certificate d.stage) (eqb d.missing 0) e in
    let at = certificate_is d.stage t.0 in
    let missing = eqb-true d.missing 0 t.1 in
    record { at = at; missing = missing; steps = shape_is d stages.Certificate at shape missing; number = refl }

pub next : (d : Draft) (case : ℕ) → ShapeAt d.stage d → is_next d case ≡ true → Between d case
next d case shape e =
    let t = and_true (is_between d) (eqb case (length d.lines)) e in
    let b = between d shape t.0 in
    record { at = b.at; missing = b.missing; steps = b.steps; number = eqb-true case (length d.lines) t.1 }

-- what is said where no derivation is open
said_between : (spec : Spec) (d : Draft) (case : ℕ) → Between d case → said spec d ≡ plan_said spec d.locks d.parts ++ (lines.Certificate ∷ cases_said 0 d.lines)
said_between spec d case b =
    said_is spec d stages.Certificate b.at
    ∙ ap (λ (m : ℕ). plan_said spec d.locks d.parts ++ (lines.Certificate ∷ (cases_said 0 d.lines ++ open_said (length d.lines) d.steps m))) b.missing
    ∙ ap (λ (ls : List TextLine). plan_said spec d.locks d.parts ++ (lines.Certificate ∷ ls)) (append-nil (cases_said 0 d.lines))

-- lines move to the end of all
lines_behind : (plan cases more : List TextLine) (c : TextLine) → plan ++ (c ∷ (cases ++ more)) ≡ (plan ++ (c ∷ cases)) ++ more
lines_behind plan cases more c = simp append_assoc

line_grown : (spec : Spec) (d e : Draft) (case : ℕ) (line : CertLine) (l : TextLine) → form_said case line ≡ l ∷ [] → IsKept spec d → take_line d case line ≡ Some e → Grown spec d e l
unfolding take_line
line_grown spec d e case line l form kept is =
    let a = passes_some (is_next d case) _ e is in
    let b = next d case kept.shape a.0 in
    let new : Draft = record d { lines = d.lines ++ line ∷ [] } in
    let pushed : cases_said 0 (d.lines ++ line ∷ []) ≡ cases_said 0 d.lines ++ l ∷ [] =
    cases_push_first d.lines line ∙ ap (λ (i : ℕ). cases_said 0 d.lines ++ form_said i line) (sym b.number) ∙ ap (λ (ls : List TextLine). cases_said 0 d.lines ++ ls) form in
    let still : Between new (length new.lines) = record { at = b.at; missing = b.missing; steps = b.steps; number = refl } in
    let more : said spec new ≡ said spec d ++ l ∷ [] =
    said_between spec new (length new.lines) still ∙ ap (λ (ls : List TextLine). plan_said spec d.locks d.parts ++ (lines.Certificate ∷ ls)) pushed
    ∙ lines_behind (plan_said spec d.locks d.parts) (cases_said 0 d.lines) (l ∷ []) lines.Certificate ∙ sym (ap (λ (ls : List TextLine). ls ++ l ∷ []) (said_between spec d case b)) in
    subst (λ (f : Draft). Grown spec d f l) (some_same new e a.1) (record { more = more; kept = record { plan = kept.plan; shape = shape_back new stages.Certificate b.at (λ zero'. b.steps) } })

-- a draft in its certificate, by its parts
abbrev in_certificate : Draft → List CertLine → List Step → ℕ → Draft
in_certificate d ls steps missing = record d { stage = stages.Certificate; lines = ls; steps = steps; missing = missing }

-- what is said of cases and of a derivation that may be whole
abbrev body : List CertLine → List Step → ℕ → List TextLine
body ls steps missing = cases_said 0 ls ++ (lines.Refuted (length ls) (length steps + missing) ∷ map step_line steps)

record ClosedSaid (spec : Spec) (d : Draft) (ls : List CertLine) (steps : List Step) (missing : ℕ) : Type 0 where
  more : said spec (closed (in_certificate d ls steps missing)) ≡ plan_said spec d.locks d.parts ++ (lines.Certificate ∷ body ls steps missing)
  kept : HasPlan spec d.locks d.parts → IsKept spec (closed (in_certificate d ls steps missing))

-- a derivation says its steps, whole or not
closed_said : (spec : Spec) (d : Draft) (ls : List CertLine) (steps : List Step) (missing : ℕ) → ClosedSaid spec d ls steps missing
closed_said spec d ls steps zero = record {
  more = ap (λ (ts : List TextLine). plan_said spec d.locks d.parts ++ (lines.Certificate ∷ ts)) (append-nil (cases_said 0 (ls ++ Refuted (record { steps = steps }) ∷ [])) ∙ cases_push_first ls (Refuted (record { steps = steps }))
      ∙ ap (λ (n : ℕ). cases_said 0 ls ++ (lines.Refuted (length ls) n ∷ map step_line steps)) (let z : length steps ≡ length steps + 0 = omega arith in z));
  kept = λ plan. record { plan = plan; shape = λ none. refl };
}
closed_said spec d ls steps (suc m) = let some : eqb (suc m) 0 ≡ false = ne_eqb (suc m) 0 (λ e. omega (arith, e)) in record {
  more = rw some (ap (λ (t : Bool). plan_said spec d.locks d.parts ++ (lines.Certificate ∷ (cases_said 0 ls ++ cond t [] (lines.Refuted (length ls) (length steps + suc m) ∷ map step_line steps)))) some);
  kept = λ plan. rw some (record { plan = plan; shape = λ none. absurd (omega (arith, none)) });
}

refuted_grown : (spec : Spec) (d e : Draft) (case count : ℕ) → IsKept spec d → take_refuted d case count ≡ Some e → Grown spec d e (lines.Refuted case count)
unfolding take_refuted
refuted_grown spec d e case count kept is =
    let a = passes_some (is_next d case) _ e is in
    let b = next d case kept.shape a.0 in
    let c = closed_said spec d d.lines d.steps count in
    let same : in_certificate d d.lines d.steps count ≡ record d { missing = count } = ap (λ (s : Stage). record d { stage = s; missing = count }) (sym b.at) in
    let whole : closed (in_certificate d d.lines d.steps count) ≡ e = ap closed same ∙ some_same (closed (record d { missing = count })) e a.1 in
    let steps_none : body d.lines d.steps count ≡ cases_said 0 d.lines ++ lines.Refuted case count ∷ [] = rw (b.steps, b.number, none_before count) refl in
    let more : said spec (closed (in_certificate d d.lines d.steps count)) ≡ said spec d ++ lines.Refuted case count ∷ [] =
    c.more ∙ ap (λ (ts : List TextLine). plan_said spec d.locks d.parts ++ (lines.Certificate ∷ ts)) steps_none
    ∙ lines_behind (plan_said spec d.locks d.parts) (cases_said 0 d.lines) (lines.Refuted case count ∷ []) lines.Certificate ∙ sym (ap (λ (ls : List TextLine). ls ++ lines.Refuted case count ∷ []) (said_between spec d case b)) in
    subst (λ (f : Draft). Grown spec d f (lines.Refuted case count)) whole (record { more = more; kept = c.kept kept.plan })

-- one step more of a derivation that lacks some
open_more : (ls : List CertLine) (steps : List Step) (s : Step) (missing : ℕ) → 0 < missing → body ls (steps ++ s ∷ []) (missing - 1) ≡ (cases_said 0 ls ++ open_said (length ls) steps missing) ++ lines.Step s ∷ []
open_more ls steps s zero some = absurd (omega (arith, some))
open_more ls steps s (suc m) some =
    ap (λ (n : ℕ). cases_said 0 ls ++ (lines.Refuted (length ls) n ∷ map step_line (steps ++ s ∷ []))) (counted steps)
    ∙ ap (λ (ts : List TextLine). cases_said 0 ls ++ (lines.Refuted (length ls) (length steps + suc m) ∷ ts)) (map-append step_line steps (s ∷ []))
    ∙ sym (append_assoc (cases_said 0 ls) (lines.Refuted (length ls) (length steps + suc m) ∷ map step_line steps) (lines.Step s ∷ []))
    ∙ ap (λ (t : Bool). (cases_said 0 ls ++ cond t [] (lines.Refuted (length ls) (length steps + suc m) ∷ map step_line steps)) ++ lines.Step s ∷ []) (sym (ne_eqb (suc m) 0 (λ e. omega (arith, e))))
  where
    longer : (xs : List Step) → length (xs ++ s ∷ []) ≡ suc (length xs)
    longer [] = refl
    longer (x ∷ xs) = ap suc (longer xs)

    counted : (xs : List Step) → length (xs ++ s ∷ []) + (suc m - 1) ≡ length xs + suc m
    counted xs = let h = longer xs in omega (arith, h)

step_grown : (spec : Spec) (d e : Draft) (s : Step) → IsKept spec d → take_step d s ≡ Some e → Grown spec d e (lines.Step s)
unfolding take_step
step_grown spec d e s kept is =
    let a = passes_some (is_certificate d.stage && nat_lt 0 d.missing) _ e is in
    let t = and_true (is_certificate d.stage) (nat_lt 0 d.missing) a.0 in
    let at = certificate_is d.stage t.0 in
    let some = ltb-true 0 d.missing t.1 in
    let c = closed_said spec d d.lines (d.steps ++ s ∷ []) (d.missing - 1) in
    let same : in_certificate d d.lines (d.steps ++ s ∷ []) (d.missing - 1) ≡ record d { steps = d.steps ++ s ∷ []; missing = d.missing - 1 } = ap (λ (g : Stage). record d { stage = g; steps = d.steps ++ s ∷ []; missing = d.missing - 1 }) (sym at) in
    let whole : closed (in_certificate d d.lines (d.steps ++ s ∷ []) (d.missing - 1)) ≡ e = ap closed same ∙ some_same (closed (record d { steps = d.steps ++ s ∷ []; missing = d.missing - 1 })) e a.1 in
    let more : said spec (closed (in_certificate d d.lines (d.steps ++ s ∷ []) (d.missing - 1))) ≡ said spec d ++ lines.Step s ∷ [] =
    c.more ∙ ap (λ (ts : List TextLine). plan_said spec d.locks d.parts ++ (lines.Certificate ∷ ts)) (open_more d.lines d.steps s d.missing some)
    ∙ lines_behind (plan_said spec d.locks d.parts) (cases_said 0 d.lines ++ open_said (length d.lines) d.steps d.missing) (lines.Step s ∷ []) lines.Certificate
    ∙ sym (ap (λ (ls : List TextLine). ls ++ lines.Step s ∷ []) (said_is spec d stages.Certificate at)) in
    subst (λ (f : Draft). Grown spec d f (lines.Step s)) whole (record { more = more; kept = c.kept kept.plan })

end_grown : (spec : Spec) (d e : Draft) → IsKept spec d → take_end d ≡ Some e → Grown spec d e lines.End
unfolding take_end
end_grown spec d e kept is =
    let a = passes_some (is_between d) _ e is in
    let b = between d kept.shape a.0 in
    let new : Draft = record d { stage = stages.End } in
    let more : said spec new ≡ said spec d ++ lines.End ∷ [] =
    lines_behind (plan_said spec d.locks d.parts) (cases_said 0 d.lines) (lines.End ∷ []) lines.Certificate ∙ sym (ap (λ (ls : List TextLine). ls ++ lines.End ∷ []) (said_between spec d (length d.lines) b)) in
    subst (λ (f : Draft). Grown spec d f lines.End) (some_same new e a.1) (record { more = more; kept = record { plan = kept.plan; shape = b.missing } })

-- each line that is taken is said at the end
pub grown : (spec : Spec) (d e : Draft) (l : TextLine) → IsKept spec d → step spec d l ≡ Some e → Grown spec d e l
grown spec d e lines.Plan kept is = plan_grown spec d e kept is
grown spec d e (lines.Lock k) kept is = lock_grown spec d e k kept is
grown spec d e (lines.Part k) kept is = part_grown spec d e k kept is
grown spec d e lines.Certificate kept is = certificate_grown spec d e kept is
grown spec d e (lines.SepLock case lock) kept is = line_grown spec d e case (SepLock lock) (lines.SepLock case lock) refl kept is
grown spec d e (lines.SepPart case part) kept is = line_grown spec d e case (SepPart part) (lines.SepPart case part) refl kept is
grown spec d e (lines.Refuted case count) kept is = refuted_grown spec d e case count kept is
grown spec d e (lines.Step s) kept is = step_grown spec d e s kept is
grown spec d e lines.End kept is = end_grown spec d e kept is
