-- The text of a plan and a certificate.
use Rattle.std.specs.Prelude.{ℕ, suc, if◌then◌else◌, List, [], ◌∷◌, ◌++◌, length, codes, decimal}
use Rattle.std.specs.List.{flat_map}
use Rattle.certificate_check.specs.declared.certificate.CertLine.{CertLine}
use Rattle.certificate_check.specs.declared.certificate.CertLine.TheVariants.{Refuted, SepLock, SepPart}
use Rattle.certificate_check.specs.declared.certificate.Certificate.{Certificate}
use Rattle.ground_clauses.specs.declared.clauses.Lit.{Lit}
use Rattle.ground_clauses.specs.declared.clauses.Step.{Step}
use Rattle.spec_model.specs.Truths.{op_at}
use Rattle.spec_model.specs.declared.plan.LockKind.{LockKind}
use Rattle.spec_model.specs.declared.plan.Pair.{Pair}
use Rattle.spec_model.specs.declared.plan.Plan.{Plan}
use Rattle.spec_model.specs.declared.spec.Spec.{Spec}

abbrev pub number : ℕ → List ℕ
number n = decimal n

abbrev pub op_name : Spec → ℕ → List ℕ
op_name spec i = (op_at spec i).name

-- places of two arguments
abbrev pub pair_text : Pair → List ℕ
pair_text p = codes " " ++ number p.a ++ codes "=" ++ number p.b

abbrev pub names_text : Spec → LockKind → List ℕ
names_text spec l = codes " " ++ op_name spec l.a ++ codes " " ++ op_name spec l.b

-- a lock or a partition, behind its first word
abbrev pub kind_text : Spec → ℕ → LockKind → List ℕ
kind_text spec n l = number n ++ names_text spec l ++ flat_map pair_text l.key ++ 10 ∷ []

abbrev pub lit_text : Lit → List ℕ
lit_text x = (if x.yes then codes " +" else codes " -") ++ number x.var

abbrev pub hint_text : ℕ → List ℕ
hint_text h = codes " " ++ number h

abbrev pub step_text : Step → List ℕ
step_text s = codes "step" ++ flat_map lit_text s.lits ++ codes " ;" ++ flat_map hint_text s.hints ++ 10 ∷ []

-- what stands behind a case's number, and the steps below it
abbrev pub form_text : CertLine → List ℕ
form_text (SepLock i) = codes " sep lock " ++ number i ++ 10 ∷ []
form_text (SepPart i) = codes " sep part " ++ number i ++ 10 ∷ []
form_text (Refuted d) = codes " refuted " ++ number (length d.steps) ++ 10 ∷ [] ++ flat_map step_text d.steps

-- locks or partitions, numbered from n, behind their first word
abbrev pub kinds_text : Spec → List ℕ → ℕ → List LockKind → List ℕ
kinds_text spec word n [] = []
kinds_text spec word n (l ∷ kinds) = word ++ kind_text spec n l ++ kinds_text spec word (suc n) kinds

-- cases, numbered from n
abbrev pub cases_text : ℕ → List CertLine → List ℕ
cases_text n [] = []
cases_text n (l ∷ lines) = codes "case " ++ number n ++ form_text l ++ cases_text (suc n) lines

-- a word that is a line of its own
abbrev pub word_line : List ℕ → List ℕ
word_line word = word ++ 10 ∷ []

abbrev pub plan_text : Spec → Plan → List ℕ
plan_text spec plan = word_line (codes "plan") ++ kinds_text spec (codes "lock ") 0 plan.locks ++ kinds_text spec (codes "part ") 0 plan.parts

abbrev pub lines_text : Certificate → List ℕ
lines_text certificate = word_line (codes "certificate") ++ cases_text 0 certificate.lines ++ word_line (codes "end")

abbrev pub certificate_text : Spec → Plan → Certificate → List ℕ
certificate_text spec plan certificate = plan_text spec plan ++ lines_text certificate
