-- Hypotheses that are remembered, and how many classes each sort has.
use Rattle.std.proofs.Common.{◌≡◌, ℕ, zero, suc, ◌+◌, ◌<◌, ◌≤◌, Bool, true, ◌&&◌, eqb, List, [], ◌∷◌, ◌++◌, map, length, get_or, drop, refl, sym, ap, subst, ◌∙◌, arith}
use Rattle.std.specs.Prelude.{bytes_eq, Some, slice_get, slice_set}
use Rattle.std.specs.List.{flat_map, filter, AllByRecursion}
use Rattle.std.proofs.lemmas.Bool.{and_parts, eqb-true, true≢false}
use Rattle.std.proofs.lemmas.List.{map-append}
use Rattle.std.proofs.lemmas.Slice.Eq.{bytes_eq-Decides}
use Rattle.ground_clauses.proofs.Apart.{each_at}
use Rattle.ground_clauses.proofs.Finding.{upto_more}
use Rattle.ground_clauses.proofs.Lists.{each_append, each_map, each_weaker}
use Rattle.ground_clauses.specs.Cases.{assignments, case_hypotheses, class_count, classes_in, clause_hypotheses, hypotheses, is_relevant, over, pattern_sorts, target_classes, target_of, upto_from}
use Rattle.ground_clauses.specs.Instances.{instance_of}
use Rattle.ground_clauses.specs.Topics.{AreOf, AreThose, IsEmpty, IsRight, hypotheses_on, is_on}
use Rattle.ground_clauses.specs.Query.{Hypothesis, atoms_of}
use Rattle.ground_clauses.specs.declared.case.Case.{Case}
use Rattle.ground_clauses.specs.declared.instances.Instance.{Instance}
use Rattle.ground_clauses.specs.declared.memory.Remembered.{Remembered}
use Rattle.ground_clauses.specs.declared.memory.Topic.{Topic}
use Rattle.spec_model.specs.Fits.{ClauseFits, IsWellFormed}
use Rattle.spec_model.specs.Truths.{clause_in, var_sorts}
use Rattle.spec_model.specs.declared.clause.Clause.{Clause}
use Rattle.spec_model.specs.declared.instance.Atom.{Atom as ClassAtom}
use Rattle.spec_model.specs.declared.spec.Spec.{Spec}

-- ---- how many classes each sort has

pub counts_more : (f : ℕ → ℕ) (i : ℕ) → map f (upto_from 0 i) ++ f i ∷ [] ≡ map f (upto_from 0 (i + 1))
counts_more f i =
    sym (map-append f (upto_from 0 i) (i ∷ []))
    ∙ ap (map f) (ap (λ n. upto_from 0 i ++ n ∷ []) (let z : i ≡ 0 + i = omega arith in z) ∙ sym (upto_more 0 i))
    ∙ ap (λ n. map f (upto_from 0 n)) (let z : suc i ≡ i + 1 = omega arith in z)

pub counts_push : (f : ℕ → ℕ) (i : ℕ) (old new : List ℕ) (x : ℕ) → old ≡ map f (upto_from 0 i) → new ≡ old ++ x ∷ [] → x ≡ f i → new ≡ map f (upto_from 0 (i + 1))
counts_push f i old new x h push is = push ∙ ap (λ y. old ++ y ∷ []) is ∙ ap (λ xs. xs ++ f i ∷ []) h ∙ counts_more f i

count_at : (f : ℕ → ℕ) (n k s : ℕ) → s < n → get_or (map f (upto_from k n)) s 0 ≡ f (k + s)
count_at f zero k s lt = absurd (omega (arith, lt))
count_at f (suc n) k zero lt = ap f (let z : k ≡ k + 0 = omega arith in z)
count_at f (suc n) k (suc s) lt = count_at f n (suc k) s (omega (arith, lt)) ∙ ap f (let z : suc k + s ≡ k + suc s = omega arith in z)

-- ---- hypotheses go by how many classes the sorts of the clauses have

assignments_same : (f g : ℕ → ℕ) (sorts : List ℕ) → AllByRecursion (λ s. f s ≡ g s) sorts → assignments f sorts ≡ assignments g sorts
assignments_same f g [] h = refl
assignments_same f g (s ∷ sorts) h =
    ap (λ css. flat_map (λ c. map (λ cs. c ∷ cs) css) (upto_from 0 (f s))) (assignments_same f g sorts h.1)
    ∙ ap (λ n. flat_map (λ c. map (λ cs. c ∷ cs) (assignments g sorts)) (upto_from 0 n)) h.0

clauses_same : (f g : ℕ → ℕ) (t : Hypothesis) (n : ℕ) (clauses : List Clause) → ((s : ℕ) → s < n → f s ≡ g s) → AllByRecursion (λ (c : Clause). AllByRecursion (λ v. v.sort < n) c.vars) clauses
    → flat_map (clause_hypotheses f t) clauses ≡ flat_map (clause_hypotheses g t) clauses
clauses_same f g t n [] same known = refl
clauses_same f g t n (c ∷ clauses) same known =
    ap (λ css. filter (is_relevant t) (map (over c) css) ++ flat_map (clause_hypotheses f t) clauses)
    (assignments_same f g (var_sorts c) (each_map (λ s. f s ≡ g s) (λ v. v.sort) c.vars (each_weaker (λ v. v.sort < n) (λ v. f v.sort ≡ g v.sort) c.vars (λ v lt. same v.sort lt) known.0)))
    ∙ ap (λ hs. clause_hypotheses g t c ++ hs) (clauses_same f g t n clauses same known.1)

-- so the topic of a case has its hypotheses
pub case_topic : (spec : Spec) (k : Case) (place : ℕ) (sorts classes counts : List ℕ) → IsWellFormed spec → sorts ≡ pattern_sorts spec k.a k.b k.target → classes ≡ target_classes spec k
    → counts ≡ map (class_count sorts k.classes) (upto_from 0 (length spec.sorts)) → hypotheses_on spec place classes counts ≡ case_hypotheses spec k place
case_topic spec k place sorts classes counts wf are target counted =
    ap (λ cs. hypotheses_on spec place cs counts) target
    ∙ clauses_same (λ z. get_or counts z 0) (classes_in spec k) (target_of spec k place) (length spec.sorts) spec.clauses
    (λ s lt. ap (λ ns. get_or ns s 0) counted ∙ count_at (class_count sorts k.classes) (length spec.sorts) 0 s lt ∙ ap (class_count sorts k.classes) (let z : 0 + s ≡ s = omega arith in z) ∙ ap (λ ss. class_count ss k.classes s) are)
    (each_weaker (ClauseFits spec) (λ (c : Clause). AllByRecursion (λ v. v.sort < length spec.sorts) c.vars) spec.clauses (λ c h. h.sorts_known) wf.clauses)

-- ---- what is recalled

same_list : (xs ys : List ℕ) → bytes_eq xs ys ≡ true → xs ≡ ys
same_list xs ys h = (bytes_eq-Decides xs ys).0 h

pub on_topic : (spec : Spec) (t : Topic) (r : Remembered) → IsRight spec r → is_on t r ≡ true → AreOf spec t r.found r.atoms
on_topic spec t r right on =
    let a = and_parts r.filled (eqb r.place t.place && (bytes_eq r.classes t.classes.now && bytes_eq r.counts t.counts.now)) on in
    let b = and_parts (eqb r.place t.place) (bytes_eq r.classes t.classes.now && bytes_eq r.counts t.counts.now) a.1 in
    let c = and_parts (bytes_eq r.classes t.classes.now) (bytes_eq r.counts t.counts.now) b.1 in
    let same : hypotheses_on spec r.place r.classes r.counts ≡ hypotheses_on spec t.place t.classes.now t.counts.now =
    ap (λ p. hypotheses_on spec p r.classes r.counts) (eqb-true r.place t.place b.0)
    ∙ ap (λ cs. hypotheses_on spec t.place cs r.counts) (same_list r.classes t.classes.now c.0)
    ∙ ap (λ ns. hypotheses_on spec t.place t.classes.now ns) (same_list r.counts t.counts.now c.1) in
    subst (λ hs. AreThose hs r.found r.atoms) same (right a.0)

pub recalled : (spec : Spec) (t : Topic) (r : Remembered) (found old : List Instance) (atoms before : List ClassAtom) → IsRight spec r → is_on t r ≡ true → old ≡ [] → found ≡ old ++ r.found → before ≡ [] → atoms ≡ before ++ r.atoms
    → AreOf spec t found atoms
recalled spec t r found old atoms before right on none is nil are =
    let found_is : r.found ≡ found = sym (is ∙ ap (λ xs. xs ++ r.found) none) in
    let atoms_are : r.atoms ≡ atoms = sym (are ∙ ap (λ xs. xs ++ r.atoms) nil) in
    subst (λ xs. AreOf spec t found xs) atoms_are (subst (λ xs. AreOf spec t xs r.atoms) found_is (on_topic spec t r right on))

-- ---- places

pub got_right : (spec : Spec) (items : List Remembered) (i : ℕ) (r : Remembered) → slice_get items i ≡ Some r → AllByRecursion (IsRight spec) items → IsRight spec r
got_right spec items i r got h = each_at (IsRight spec) items i r h got

empty_one : (spec : Spec) (r : Remembered) → IsEmpty r → IsRight spec r
empty_one spec r empty = λ filled. absurd (true≢false (sym filled ∙ empty))

pub one_more_empty : (spec : Spec) (old new : List Remembered) (r : Remembered) → AllByRecursion (IsRight spec) old → new ≡ old ++ r ∷ [] → IsEmpty r → AllByRecursion (IsRight spec) new
one_more_empty spec old new r h push empty = subst (AllByRecursion (IsRight spec)) (sym push) (each_append (IsRight spec) old (r ∷ []) h (empty_one spec r empty, tt))

pub set_right : (spec : Spec) (items : List Remembered) (i : ℕ) (r : Remembered) → AllByRecursion (IsRight spec) items → IsRight spec r → AllByRecursion (IsRight spec) (slice_set items i r)
set_right spec [] i r h right = tt
set_right spec (x ∷ items) zero r h right = (right, h.1)
set_right spec (x ∷ items) (suc i) r h right = (h.0, set_right spec items i r h.1 right)

-- the topic of a case, as it is made
pub topic_made : (spec : Spec) (k : Case) (place many : ℕ) (sorts slice whole classes counts listed : List ℕ) → IsWellFormed spec → sorts ≡ pattern_sorts spec k.a k.b k.target → slice ≡ sorts → whole ≡ k.classes
    → classes ≡ target_classes spec k → counts ≡ listed → listed ≡ map (class_count slice whole) (upto_from 0 many) → many ≡ length spec.sorts → hypotheses_on spec place classes counts ≡ case_hypotheses spec k place
topic_made spec k place many sorts slice whole classes counts listed wf are of_sorts of_case target of_listed counted all =
    case_topic spec k place slice classes counts wf (of_sorts ∙ are) target
    (of_listed ∙ counted ∙ ap (λ cs. map (class_count slice cs) (upto_from 0 many)) of_case ∙ ap (λ n. map (class_count slice k.classes) (upto_from 0 n)) all)

-- what was found serves for the topic
pub found_of : (spec over : Spec) (k : Case) (place : ℕ) (classes counts : List ℕ) (found slice : List Instance) (atoms listed : List ClassAtom) → over ≡ spec → hypotheses_on spec place classes counts ≡ case_hypotheses spec k place
    → slice ≡ found → map instance_of found ≡ case_hypotheses spec k place → listed ≡ atoms → atoms ≡ atoms_of (map instance_of found) → AreThose (hypotheses_on over place classes counts) slice listed
found_of spec over k place classes counts found slice atoms listed same topic of_found is of_atoms are =
    let hs : hypotheses_on over place classes counts ≡ case_hypotheses spec k place = ap (λ (s : Spec). hypotheses_on s place classes counts) same ∙ topic in
    subst (λ xs. AreThose xs slice listed) (sym hs) (ap (map instance_of) of_found ∙ is, of_atoms ∙ are ∙ ap atoms_of is)

pub case_of : (spec over : Spec) (k : Case) (place : ℕ) (classes counts : List ℕ) (found : List Instance) (atoms : List ClassAtom) → over ≡ spec → hypotheses_on spec place classes counts ≡ case_hypotheses spec k place
    → AreThose (hypotheses_on over place classes counts) found atoms → AreThose (case_hypotheses spec k place) found atoms
case_of spec over k place classes counts found atoms same topic h = subst (λ xs. AreThose xs found atoms) (ap (λ (s : Spec). hypotheses_on s place classes counts) same ∙ topic) h

pub topic_of : (spec : Spec) (k : Case) (place : ℕ) (classes counts listed : List ℕ) → classes ≡ target_classes spec k → counts ≡ listed → hypotheses_on spec place (target_classes spec k) listed ≡ case_hypotheses spec k place
    → hypotheses_on spec place classes counts ≡ case_hypotheses spec k place
topic_of spec k place classes counts listed are same h = ap (λ cs. hypotheses_on spec place cs counts) are ∙ ap (λ ns. hypotheses_on spec place (target_classes spec k) ns) same ∙ h
