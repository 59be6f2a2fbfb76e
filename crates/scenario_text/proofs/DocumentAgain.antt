-- The canonical text of a document that was read is that document.
use Rattle.std.proofs.Common.{◌≡◌, inl, inr, ℕ, ◌+◌, ◌≤◌, Bool, true, false, cond, eqb, List, [], ◌∷◌, ◌++◌, map, refl, sym, ap, subst, ◌∙◌, arith}
use Rattle.std.specs.Prelude.{Result, Ok, Err, Option, None, codes}
use Rattle.std.specs.List.{AllByRecursion, flat_map}
use Rattle.std.proofs.lemmas.Bool.{eqb-true, eqb-false, eq-eqb}
use Rattle.line_text.specs.declared.cause.Cause.{Cause}
use Rattle.line_text.specs.declared.cause.Cause.TheVariants.{ReplicasMissing}
use Rattle.line_text.specs.declared.token.Token.{Token}
use Rattle.line_text.specs.declared.token.Token.TheVariants.{Word}
use Rattle.line_text.specs.Bytes.{all_plain}
use Rattle.line_text.specs.Causes.{◌>>=◌}
use Rattle.line_text.specs.Lines.{lines_of}
use Rattle.line_text.specs.Texts.{line_tokens, read_lines, numbered, go_on}
use Rattle.line_text.proofs.Again.{with_end, lines_again}
use Rattle.line_text.proofs.Guards.{bind_ok, ok_same}
use Rattle.line_text.proofs.Readings.{read_kept}
use Rattle.spec_model.specs.declared.operation.Op.{Op}
use Rattle.spec_lines.specs.declared.line.SpecLine.{SpecLine}
use Rattle.spec_lines.specs.Forms.{spec_line}
use Rattle.spec_lines.specs.Texts.{line_text as spec_line_text}
use Rattle.spec_lines.proofs.Spoken.{IsSpoken as IsSpecSpoken, spoken as spec_spoken}
use Rattle.scenario_lines.specs.declared.line.RunLine.{RunLine}
use Rattle.scenario_lines.specs.declared.line.RunLine.TheVariants as lines
use Rattle.scenario_lines.specs.Texts.{line_text as run_line_text}
use Rattle.scenario_lines.proofs.Back.{line_back}
use Rattle.scenario_lines.proofs.Shapes.{tokens_of_line}
use Rattle.scenario_lines.proofs.Spoken.{IsSpoken, spoken}
use Rattle.spec_language.specs.declared.draft.SpecDraft.{SpecDraft}
use Rattle.spec_language.specs.Again.{steps as draft_steps}
use Rattle.spec_language.specs.Draft.{step as spec_step}
use Rattle.spec_language.specs.Saying.{spec_lines}
use Rattle.spec_language.proofs.SaidAgain.{fresh_said, step_said, text_lines, ended_lines, plain_texts, flat_both}
use Rattle.scenario_text.specs.declared.document.Document.{Document}
use Rattle.scenario_text.specs.declared.document.Work.{Work}
use Rattle.scenario_text.specs.declared.document.Work.TheVariants as works
use Rattle.scenario_text.specs.declared.draft.Draft.{Draft}
use Rattle.scenario_text.specs.Draft as drafts
use Rattle.scenario_text.specs.Reading.{accept, taken, draft_of, document_of, document_of_draft}
use Rattle.scenario_text.specs.Saying as sayings
use Rattle.scenario_text.proofs.LineByLine.{KeepsWith, line_keeps_with}
use Rattle.scenario_text.proofs.SaidAgain.{run_steps, runs_of, start, Late, Said, run_late}
use Rattle.scenario_text.proofs.Taken.{with_spec, spec_taken}

-- ---- every line keeps what is said

spec_said : (d e : Draft) (line : SpecLine) → IsSpecSpoken line → Said d → drafts.take_spec d line ≡ Ok e → Said e
spec_said d e line one s is =
    let t = spec_taken d e line is in
    let none = eqb-true d.rank 0 t.low in
    let early : d ≡ start d.spec = elim s.state [ inl early ↦ early | inr late ↦ absurd (both d.rank none late.seven) ] in
    subst Said t.whole (record { spec = step_said d.spec t.spec line one s.spec t.taken; state = inl (ap (λ (x : Draft). with_spec x t.spec) early) })
  where
    both : (n : ℕ) → n ≡ 0 → 7 ≤ n → ⊥
    both n e h = omega (arith, e, h)

-- the tokens of a line of text
abbrev IsRead : List Token → Type 0
IsRead ts = (text : List ℕ) × (line_tokens text ≡ Ok ts)

run_said : (d e : Draft) (line : RunLine) → IsSpoken line → Said d → drafts.run_step d line ≡ Ok e → Said e
run_said d e line one s is =
    let late = run_late d e line s one is in
    record { spec = late.spec; state = inr late }

said_kept : KeepsWith IsRead Said
said_kept = record {
  spec = λ d e w ts line read from s is. spec_said d e line (spec_spoken read.0 w ts line read.1 from) s is;
  run = λ d e w ts line read from s is. run_said d e line (spoken read.0 w ts line read.1 from) s is;
}

ended_same : (d e : Draft) (none : Bool) (c : Cause) → cond none (Err c) (Ok d) ≡ Ok e → (none ≡ false) × (d ≡ e)
ended_same d e true c is = absurd cc
ended_same d e false c is = (refl, ok_same d e is)

abbrev good : Draft → Result Draft Cause
good d = Ok d

read_said : (texts : List (List ℕ)) (d : Draft) → draft_of texts ≡ Ok d → Said d
read_said texts d is =
    read_kept Said accept drafts.ends (λ a b line s e. line_keeps_with IsRead Said said_kept a b line (λ ts read. (line, read)) s e) (λ a b s e. subst Said (ended_same a b (eqb a.replicas 0) _ e).1 s) texts 1 drafts.fresh d (record { spec = fresh_said; state = inl refl }) is

-- ---- lines of a specification in a document

abbrev spec_steps : Draft → List SpecLine → Result Draft Cause
spec_steps d [] = Ok d
spec_steps d (line ∷ rest) = drafts.take_spec d line >>= λ e. spec_steps e rest

step_lifted : (d : Draft) (line : SpecLine) (s : SpecDraft) → d.rank ≡ 0 → spec_step d.spec line ≡ Ok s → drafts.take_spec d line ≡ Ok (with_spec d s)
unfolding drafts.take_spec
step_lifted d line s none taken = rw (eq-eqb d.rank 0 none, taken) refl

steps_lifted : (rest : List SpecLine) (d : Draft) (s : SpecDraft) → d.rank ≡ 0 → draft_steps d.spec rest ≡ Ok s → spec_steps d rest ≡ Ok (with_spec d s)
steps_lifted [] d s none is = ap (λ (x : SpecDraft). good (with_spec d x)) (ok_same d.spec s is)
steps_lifted (line ∷ rest) d s none is =
    let h = bind_ok (spec_step d.spec line) (λ (x : SpecDraft). draft_steps x rest) s is in
    let one = step_lifted d line h.0 none h.1 in
    rw one (steps_lifted rest (with_spec d h.0) s none h.2)

-- ---- the texts of lines are taken as the lines

spec_taken_again : (d : Draft) (line : SpecLine) → IsSpecSpoken line → accept d (spec_line_text line) ≡ drafts.take_spec d line
unfolding accept taken
spec_taken_again d line one = rw (one.said.read, one.formed) refl

abbrev nothing : Result (Option SpecLine) Cause
nothing = Ok None

by_word : (w v : List ℕ) (ts us : List Token) → Word w ∷ ts ≡ Word v ∷ us → spec_line v ts ≡ nothing → spec_line w ts ≡ nothing
by_word w v ts us e none =
    let same : w ≡ v = cc in
    subst (λ (u : List ℕ). spec_line u ts ≡ nothing) (sym same) none

-- the line word of a run is none of a specification
other_word : (w : List ℕ) (ts : List Token) (line : RunLine) → Word w ∷ ts ≡ tokens_of_line line → spec_line w ts ≡ nothing
unfolding spec_line
other_word w ts (lines.Replicas n) e = by_word w (codes "replicas") ts _ e refl
other_word w ts (lines.Stop replica call keep fill) e = by_word w (codes "stop") ts _ e refl
other_word w ts (lines.Do replica op xs) e = by_word w (codes "do") ts _ e refl
other_word w ts (lines.Send replica peer) e = by_word w (codes "send") ts _ e refl
other_word w ts (lines.Take replica peer number) e = by_word w (codes "take") ts _ e refl
other_word w ts (lines.Crash replica) e = by_word w (codes "crash") ts _ e refl
other_word w ts (lines.Recover replica) e = by_word w (codes "recover") ts _ e refl
other_word w ts (lines.Turns turns) e = by_word w (codes "turns") ts _ e refl
other_word w ts (lines.Client client home) e = by_word w (codes "client") ts _ e refl
other_word w ts (lines.AskDo client op xs) e = by_word w (codes "ask") ts _ e refl
other_word w ts (lines.AskCrash client) e = by_word w (codes "ask") ts _ e refl
other_word w ts (lines.AskRecover client) e = by_word w (codes "ask") ts _ e refl

run_taken_again : (d : Draft) (line : RunLine) → IsSpoken line → accept d (run_line_text line) ≡ drafts.run_step d line
unfolding accept taken
run_taken_again d line one =
    let other = other_word one.word one.tokens line (line_back one.word one.tokens line one.formed) in
    rw (one.said.read, other, one.formed) refl

abbrev whole : Draft → Result Draft (ℕ × Cause)
whole d = Ok d

runs_taken : (rest : List RunLine) (number : ℕ) (d e : Draft) → AllByRecursion IsSpoken rest → run_steps d rest ≡ Ok e → drafts.ends e ≡ Ok e → read_lines accept drafts.ends number d (map run_line_text rest) ≡ Ok e
unfolding read_lines
runs_taken [] number d e all is end =
    let same = ok_same d e is in
    rw same (ap (numbered number) end)
runs_taken (line ∷ rest) number d e all is end =
    let h = bind_ok (drafts.run_step d line) (λ (f : Draft). run_steps f rest) e is in
    let one = run_taken_again d line all.0 in
    rw (one, h.1) (runs_taken rest (number + 1) h.0 e all.1 h.2 end)

specs_taken : (rest : List SpecLine) (runs : List RunLine) (number : ℕ) (d f e : Draft) → AllByRecursion IsSpecSpoken rest → spec_steps d rest ≡ Ok f → AllByRecursion IsSpoken runs → run_steps f runs ≡ Ok e → drafts.ends e ≡ Ok e
    → read_lines accept drafts.ends number d (map spec_line_text rest ++ map run_line_text runs) ≡ Ok e
unfolding read_lines
specs_taken [] runs number d f e all is spoke are end =
    let same = ok_same d f is in
    runs_taken runs number d e spoke (rw same are) end
specs_taken (line ∷ rest) runs number d f e all is spoke are end =
    let h = bind_ok (drafts.take_spec d line) (λ (x : Draft). spec_steps x rest) f is in
    let one = spec_taken_again d line all.0 in
    rw (one, h.1) (specs_taken rest runs (number + 1) h.0 f e all.1 h.2 spoke are end)

-- ---- the canonical text is that of the lines

run_ended : (rest : List RunLine) → flat_map sayings.ended_text rest ≡ flat_map with_end (map run_line_text rest)
unfolding sayings.ended_text
run_ended [] = refl
run_ended (line ∷ rest) = ap (λ (bs : List ℕ). with_end (run_line_text line) ++ bs) (run_ended rest)

work_ended : (ops : List Op) (work : Work) → sayings.work_text ops work ≡ flat_map sayings.ended_text (sayings.work_lines ops work)
work_ended ops (works.Schedule orders) = refl
work_ended ops (works.Clients turns homes asked) =
    ap (λ (bs : List ℕ). sayings.ended_text (lines.Turns turns) ++ bs) (sym (flat_both sayings.ended_text (sayings.say_homes 0 homes) (map (sayings.say_ask ops) asked)))

document_lines : (d : Document) → sayings.document_text d ≡ flat_map with_end (map spec_line_text (spec_lines d.spec) ++ map run_line_text (sayings.run_lines d))
unfolding sayings.run_lines
document_lines d =
    let specs = map spec_line_text (spec_lines d.spec) in
    let stops = map sayings.say_stop d.stops in
    let runs = lines.Replicas d.replicas ∷ (stops ++ sayings.work_lines d.spec.ops d.work) in
    let front = text_lines d.spec ∙ ended_lines (spec_lines d.spec) in
    let back : sayings.ended_text (lines.Replicas d.replicas) ++ (flat_map sayings.ended_text stops ++ sayings.work_text d.spec.ops d.work) ≡ flat_map with_end (map run_line_text runs) =
    ap (λ (bs : List ℕ). sayings.ended_text (lines.Replicas d.replicas) ++ (flat_map sayings.ended_text stops ++ bs)) (work_ended d.spec.ops d.work)
    ∙ ap (λ (bs : List ℕ). sayings.ended_text (lines.Replicas d.replicas) ++ bs) (sym (flat_both sayings.ended_text stops (sayings.work_lines d.spec.ops d.work)))
    ∙ run_ended runs in
    rw (front, back) (sym (flat_both with_end specs (map run_line_text runs)))

plain_runs : (rest : List RunLine) → AllByRecursion IsSpoken rest → AllByRecursion (λ text. all_plain text ≡ true) (map run_line_text rest)
plain_runs [] all = tt
plain_runs (line ∷ rest) all = (all.0.said.plain, plain_runs rest all.1)

both_plain : (P : List ℕ → Type 0) (xs ys : List (List ℕ)) → AllByRecursion P xs → AllByRecursion P ys → AllByRecursion P (xs ++ ys)
both_plain P [] ys h k = k
both_plain P (x ∷ xs) ys h k = (h.0, both_plain P xs ys h.1 k)

-- ---- whole documents

abbrev IsPlain : List ℕ → Type 0
IsPlain text = all_plain text ≡ true

late_again : (d : Draft) → Said d → Late d → drafts.ends d ≡ Ok d → draft_of (lines_of (sayings.document_text (drafts.document_from d))) ≡ Ok d
late_again d s l end =
    let specs = spec_lines d.spec.spec in
    let runs = runs_of d in
    let texts = map spec_line_text specs ++ map run_line_text runs in
    let plain = both_plain IsPlain (map spec_line_text specs) (map run_line_text runs) (plain_texts specs s.spec.spoken) (plain_runs runs l.spoken) in
    ap (λ (bs : List ℕ). draft_of (lines_of bs)) (document_lines (drafts.document_from d)) ∙ ap draft_of (lines_again texts plain)
    ∙ specs_taken specs runs 1 drafts.fresh (start d.spec) d s.spec.spoken (steps_lifted specs drafts.fresh d.spec refl s.spec.said) l.spoken l.said end

ends_well : (d : Draft) → eqb d.replicas 0 ≡ false → drafts.ends d ≡ Ok d
ends_well d e = rw e refl

last : (d e : Draft) (number : ℕ) (none : Bool) → eqb d.replicas 0 ≡ none → numbered number (cond none (Err ReplicasMissing) (Ok d)) ≡ Ok e → eqb e.replicas 0 ≡ false
last d e number true is end = absurd cc
last d e number false is end =
    let same : d ≡ e = cc in
    subst (λ (x : Draft). eqb x.replicas 0 ≡ false) same is

next : {P : Type 0} → (number : ℕ) (r : Result Draft Cause) (e : Draft) (behind : Draft → Result Draft (ℕ × Cause)) → go_on number r behind ≡ Ok e → ((f : Draft) → behind f ≡ Ok e → P) → P
next number (Err c) e behind is rest = absurd cc
next number (Ok f) e behind is rest = rest f is

draft_ended : (texts : List (List ℕ)) (number : ℕ) (d e : Draft) → read_lines accept drafts.ends number d texts ≡ Ok e → eqb e.replicas 0 ≡ false
unfolding read_lines
draft_ended [] number d e is = last d e number (eqb d.replicas 0) refl is
draft_ended (text ∷ texts) number d e is = next number (accept d text) e (λ (f : Draft). read_lines accept drafts.ends (number + 1) f texts) is (λ f more. draft_ended texts (number + 1) f e more)

draft_again : (texts : List (List ℕ)) (d : Draft) → draft_of texts ≡ Ok d → draft_of (lines_of (sayings.document_text (drafts.document_from d))) ≡ Ok d
draft_again texts d is =
    let s = read_said texts d is in
    let end = draft_ended texts 1 drafts.fresh d is in
    elim s.state [ inl early ↦ absurd (none early end) | inr late ↦ late_again d s late (ends_well d end) ]
  where
    none : d ≡ start d.spec → eqb d.replicas 0 ≡ false → ⊥
    none early end =
        let zero_replicas : d.replicas ≡ 0 = ap (λ (x : Draft). x.replicas) early in
        eqb-false d.replicas 0 end zero_replicas

abbrev given : Document → Result Document (ℕ × Cause)
given d = Ok d

of_draft : (texts : List (List ℕ)) (r : Result Draft (ℕ × Cause)) (d : Document) → draft_of texts ≡ r → document_of_draft r ≡ Ok d → document_of (sayings.document_text d) ≡ Ok d
of_draft texts (Ok x) d is e = subst (λ (y : Document). document_of (sayings.document_text y) ≡ Ok y) (same x d e) (ap document_of_draft (draft_again texts x is))
  where
    same : (a : Draft) (b : Document) → given (drafts.document_from a) ≡ given b → drafts.document_from a ≡ b
    same a b q = cc
of_draft texts (Err c) d is e = absurd cc

-- the canonical text of a document that was read is that document
pub document_again : (bytes : List ℕ) (d : Document) → document_of bytes ≡ Ok d → document_of (sayings.document_text d) ≡ Ok d
document_again bytes d is = of_draft (lines_of bytes) (draft_of (lines_of bytes)) d refl is
