-- The lines that say a plan and a certificate, and their text.
use Rattle.std.proofs.Common.{◌≡◌, ℕ, suc, Bool, true, false, cond, List, [], ◌∷◌, ◌++◌, length, map, refl, sym, ap, ◌∙◌, append_assoc, append-nil}
use Rattle.std.specs.Prelude.{codes, decimal}
use Rattle.std.specs.List.{flat_map}
use Rattle.certificate_check.specs.Printed as printed
use Rattle.certificate_check.specs.declared.certificate.CertLine.{CertLine}
use Rattle.certificate_check.specs.declared.certificate.CertLine.TheVariants.{Refuted, SepLock, SepPart}
use Rattle.certificate_check.specs.declared.certificate.Certificate.{Certificate}
use Rattle.certificate_lines.specs.declared.line.KindLine.{KindLine}
use Rattle.certificate_lines.specs.declared.line.TextLine.{TextLine}
use Rattle.certificate_lines.specs.declared.line.TextLine.TheVariants as lines
use Rattle.certificate_lines.specs.Texts.{line_text, lit_word, pair_word}
use Rattle.certificate_lines.specs.Words.{behind}
use Rattle.ground_clauses.specs.declared.clauses.Lit.{Lit}
use Rattle.ground_clauses.specs.declared.clauses.Step.{Step}
use Rattle.spec_model.specs.declared.plan.LockKind.{LockKind}
use Rattle.spec_model.specs.declared.plan.Pair.{Pair}
use Rattle.spec_model.specs.declared.plan.Plan.{Plan}
use Rattle.spec_model.specs.declared.spec.Spec.{Spec}

-- ---- lines

abbrev pub kind_said : Spec → ℕ → LockKind → KindLine
kind_said spec n l = record { number = n; first = printed.op_name spec l.a; second = printed.op_name spec l.b; key = l.key }

-- locks or partitions, numbered from n
abbrev pub kinds_said : Spec → (KindLine → TextLine) → ℕ → List LockKind → List TextLine
kinds_said spec line n [] = []
kinds_said spec line n (l ∷ kinds) = line (kind_said spec n l) ∷ kinds_said spec line (suc n) kinds

abbrev pub lock_line : KindLine → TextLine
lock_line k = lines.Lock k

abbrev pub part_line : KindLine → TextLine
part_line k = lines.Part k

abbrev pub step_line : Step → TextLine
step_line s = lines.Step s

-- the line of a case, and the steps below it
abbrev pub form_said : ℕ → CertLine → List TextLine
form_said n (SepLock i) = lines.SepLock n i ∷ []
form_said n (SepPart i) = lines.SepPart n i ∷ []
form_said n (Refuted d) = lines.Refuted n (length d.steps) ∷ map step_line d.steps

-- cases, numbered from n
abbrev pub cases_said : ℕ → List CertLine → List TextLine
cases_said n [] = []
cases_said n (l ∷ ls) = form_said n l ++ cases_said (suc n) ls

abbrev pub plan_said : Spec → List LockKind → List LockKind → List TextLine
plan_said spec locks parts = lines.Plan ∷ (kinds_said spec lock_line 0 locks ++ kinds_said spec part_line 0 parts)

-- all lines
abbrev pub all_said : Spec → List LockKind → List LockKind → List CertLine → List TextLine
all_said spec locks parts ls = plan_said spec locks parts ++ (lines.Certificate ∷ (cases_said 0 ls ++ lines.End ∷ []))

-- ---- their text

-- the texts of lines, each with its end
abbrev pub texts : List TextLine → List ℕ
texts [] = []
texts (l ∷ ls) = (line_text l ++ 10 ∷ []) ++ texts ls

texts_append : (ks ls : List TextLine) → texts (ks ++ ls) ≡ texts ks ++ texts ls
texts_append [] ls = refl
texts_append (k ∷ ks) ls = ap (λ (bs : List ℕ). (line_text k ++ 10 ∷ []) ++ bs) (texts_append ks ls) ∙ sym (append_assoc (line_text k ++ 10 ∷ []) (texts ks) (texts ls))

pub texts_map : (ls : List TextLine) → flat_map printed.word_line (map line_text ls) ≡ texts ls
texts_map [] = refl
texts_map (l ∷ ls) = ap (λ (bs : List ℕ). (line_text l ++ 10 ∷ []) ++ bs) (texts_map ls)

behind_append : (vs ws : List (List ℕ)) → behind (vs ++ ws) ≡ behind vs ++ behind ws
behind_append [] ws = refl
behind_append (v ∷ vs) ws = ap (λ (bs : List ℕ). 32 ∷ bs) (ap (λ (bs : List ℕ). v ++ bs) (behind_append vs ws) ∙ sym (append_assoc v (behind vs) (behind ws)))

pair_parts : (a b rest : List ℕ) → 32 ∷ ((a ++ 61 ∷ b) ++ rest) ≡ (codes " " ++ a ++ codes "=" ++ b) ++ rest
pair_parts a b rest = simp append_assoc

behind_pairs : (key : List Pair) → behind (map pair_word key) ≡ flat_map printed.pair_text key
behind_pairs [] = refl
behind_pairs (p ∷ key) = ap (λ (bs : List ℕ). 32 ∷ (pair_word p ++ bs)) (behind_pairs key) ∙ pair_parts (decimal p.a) (decimal p.b) (flat_map printed.pair_text key)

behind_lits : (xs : List Lit) → behind (map lit_word xs) ≡ flat_map printed.lit_text xs
behind_lits [] = refl
behind_lits (x ∷ xs) = ap (λ (bs : List ℕ). 32 ∷ (lit_word x ++ bs)) (behind_lits xs) ∙ ap (λ (bs : List ℕ). bs ++ flat_map printed.lit_text xs) (signed x.yes)
  where
    signed : (s : Bool) → 32 ∷ (cond {A = ℕ} s 43 45 ∷ decimal x.var) ≡ cond {A = List ℕ} s (codes " +") (codes " -") ++ decimal x.var
    signed true = refl
    signed false = refl

behind_hints : (hs : List ℕ) → behind (map decimal hs) ≡ flat_map printed.hint_text hs
behind_hints [] = refl
behind_hints (h ∷ hs) = ap (λ (bs : List ℕ). 32 ∷ (decimal h ++ bs)) (behind_hints hs)

kind_parts : (n a b key : List ℕ) → (n ++ 32 ∷ (a ++ 32 ∷ (b ++ key))) ++ 10 ∷ [] ≡ n ++ (codes " " ++ a ++ codes " " ++ b) ++ key ++ 10 ∷ []
kind_parts n a b key = simp append_assoc

kind_written : (spec : Spec) (n : ℕ) (l : LockKind) → (decimal n ++ 32 ∷ (printed.op_name spec l.a ++ 32 ∷ (printed.op_name spec l.b ++ behind (map pair_word l.key)))) ++ 10 ∷ [] ≡ printed.kind_text spec n l
kind_written spec n l =
    kind_parts (decimal n) (printed.op_name spec l.a) (printed.op_name spec l.b) (behind (map pair_word l.key))
    ∙ ap (λ (bs : List ℕ). decimal n ++ printed.names_text spec l ++ bs ++ 10 ∷ []) (behind_pairs l.key)

kinds_parts : (word first text rest more : List ℕ) → first ++ 10 ∷ [] ≡ text → rest ≡ more → ((word ++ first) ++ 10 ∷ []) ++ rest ≡ word ++ text ++ more
kinds_parts word first text rest more e f = rw (← e, f) (simp append_assoc)

kinds_written : (spec : Spec) (line : KindLine → TextLine) (word : List ℕ) → ((k : KindLine) → line_text (line k) ≡ word ++ (decimal k.number ++ 32 ∷ (k.first ++ 32 ∷ (k.second ++ behind (map pair_word k.key)))))
    → (n : ℕ) (kinds : List LockKind) → texts (kinds_said spec line n kinds) ≡ printed.kinds_text spec word n kinds
kinds_written spec line word is n [] = refl
kinds_written spec line word is n (l ∷ kinds) =
    ap (λ (bs : List ℕ). (bs ++ 10 ∷ []) ++ texts (kinds_said spec line (suc n) kinds)) (is (kind_said spec n l))
    ∙ kinds_parts word (decimal n ++ 32 ∷ (printed.op_name spec l.a ++ 32 ∷ (printed.op_name spec l.b ++ behind (map pair_word l.key)))) (printed.kind_text spec n l)
    (texts (kinds_said spec line (suc n) kinds)) (printed.kinds_text spec word (suc n) kinds) (kind_written spec n l) (kinds_written spec line word is (suc n) kinds)

step_parts : (lits hints : List ℕ) → (codes "step" ++ (lits ++ (codes " ;" ++ hints))) ++ 10 ∷ [] ≡ codes "step" ++ lits ++ codes " ;" ++ hints ++ 10 ∷ []
step_parts lits hints = simp append_assoc

step_written : (s : Step) → line_text (lines.Step s) ++ 10 ∷ [] ≡ printed.step_text s
step_written s =
    ap (λ (bs : List ℕ). (codes "step" ++ bs) ++ 10 ∷ [])
    (behind_append (map lit_word s.lits) (codes ";" ∷ map decimal s.hints) ∙ ap (λ (bs : List ℕ). bs ++ (codes " ;" ++ behind (map decimal s.hints))) (behind_lits s.lits)
    ∙ ap (λ (bs : List ℕ). flat_map printed.lit_text s.lits ++ (codes " ;" ++ bs)) (behind_hints s.hints))
    ∙ step_parts (flat_map printed.lit_text s.lits) (flat_map printed.hint_text s.hints)

steps_written : (steps : List Step) → texts (map step_line steps) ≡ flat_map printed.step_text steps
steps_written [] = refl
steps_written (s ∷ steps) = ap (λ (bs : List ℕ). bs ++ texts (map step_line steps)) (step_written s) ∙ ap (λ (bs : List ℕ). printed.step_text s ++ bs) (steps_written steps)

-- a case's number, its words, its number, and what follows
case_parts : (n word i rest : List ℕ) → ((codes "case " ++ (n ++ (word ++ (i ++ [])))) ++ 10 ∷ []) ++ rest ≡ (codes "case " ++ n) ++ (word ++ i ++ 10 ∷ [] ++ rest)
case_parts n word i rest = simp (append_assoc, append-nil)

form_written : (n : ℕ) (l : CertLine) → texts (form_said n l) ≡ (codes "case " ++ decimal n) ++ printed.form_text l
form_written n (SepLock i) = case_parts (decimal n) (codes " sep lock ") (decimal i) [] ∙ ap (λ (bs : List ℕ). (codes "case " ++ decimal n) ++ bs) (append-nil (codes " sep lock " ++ decimal i ++ 10 ∷ []))
form_written n (SepPart i) = case_parts (decimal n) (codes " sep part ") (decimal i) [] ∙ ap (λ (bs : List ℕ). (codes "case " ++ decimal n) ++ bs) (append-nil (codes " sep part " ++ decimal i ++ 10 ∷ []))
form_written n (Refuted d) =
    case_parts (decimal n) (codes " refuted ") (decimal (length d.steps)) (texts (map step_line d.steps))
    ∙ ap (λ (bs : List ℕ). (codes "case " ++ decimal n) ++ (codes " refuted " ++ decimal (length d.steps) ++ 10 ∷ [] ++ bs)) (steps_written d.steps)

cases_written : (n : ℕ) (ls : List CertLine) → texts (cases_said n ls) ≡ printed.cases_text n ls
cases_written n [] = refl
cases_written n (l ∷ ls) =
    texts_append (form_said n l) (cases_said (suc n) ls) ∙ ap (λ (bs : List ℕ). bs ++ texts (cases_said (suc n) ls)) (form_written n l)
    ∙ ap (λ (bs : List ℕ). ((codes "case " ++ decimal n) ++ printed.form_text l) ++ bs) (cases_written (suc n) ls)

plan_written : (spec : Spec) (locks parts : List LockKind) → texts (plan_said spec locks parts) ≡ printed.word_line (codes "plan") ++ printed.kinds_text spec (codes "lock ") 0 locks ++ printed.kinds_text spec (codes "part ") 0 parts
plan_written spec locks parts =
    ap (λ (bs : List ℕ). printed.word_line (codes "plan") ++ bs)
    (texts_append (kinds_said spec lock_line 0 locks) (kinds_said spec part_line 0 parts)
    ∙ ap (λ (bs : List ℕ). bs ++ texts (kinds_said spec part_line 0 parts)) (kinds_written spec lock_line (codes "lock ") (λ k. refl) 0 locks)
    ∙ ap (λ (bs : List ℕ). printed.kinds_text spec (codes "lock ") 0 locks ++ bs) (kinds_written spec part_line (codes "part ") (λ k. refl) 0 parts))
    ∙ sym (append_assoc (printed.word_line (codes "plan")) (printed.kinds_text spec (codes "lock ") 0 locks) (printed.kinds_text spec (codes "part ") 0 parts))

lines_written : (c : Certificate) → texts (lines.Certificate ∷ (cases_said 0 c.lines ++ lines.End ∷ [])) ≡ printed.lines_text c
lines_written c =
    ap (λ (bs : List ℕ). printed.word_line (codes "certificate") ++ bs)
    (texts_append (cases_said 0 c.lines) (lines.End ∷ []) ∙ ap (λ (bs : List ℕ). bs ++ printed.word_line (codes "end")) (cases_written 0 c.lines))
    ∙ sym (append_assoc (printed.word_line (codes "certificate")) (printed.cases_text 0 c.lines) (printed.word_line (codes "end")))

-- the text of a plan and a certificate is that of the lines that say it
pub all_written : (spec : Spec) (plan : Plan) (c : Certificate) → texts (all_said spec plan.locks plan.parts c.lines) ≡ printed.certificate_text spec plan c
all_written spec plan c =
    texts_append (plan_said spec plan.locks plan.parts) (lines.Certificate ∷ (cases_said 0 c.lines ++ lines.End ∷ []))
    ∙ ap (λ (bs : List ℕ). bs ++ texts (lines.Certificate ∷ (cases_said 0 c.lines ++ lines.End ∷ []))) (plan_written spec plan.locks plan.parts)
    ∙ ap (λ (bs : List ℕ). printed.plan_text spec plan ++ bs) (lines_written c)
