-- Runs of generated documents and their summaries.
use Rattle.std.proofs.Common.{◌≡◌, inl, inr, ℕ, zero, suc, ◌+◌, ◌<◌, ◌≤◌, Bool, true, false, cond, ltb, eqb, List, [], ◌∷◌, ◌++◌, length, refl, sym, ap, subst, ◌∙◌, arith}
use Rattle.std.specs.Prelude.{IsTrue, Option, Some, None, Result, Ok, Err, IfOk}
use Rattle.std.specs.List.{filter, find, AllByRecursion}
use Rattle.std.proofs.lemmas.Bool.{ltb-true, ltb-false, eqb-true, eqb-false, lt-ltb}
use Rattle.std.proofs.lemmas.List.{length-map}
use Rattle.std.proofs.lemmas.List.Sums.{length-filter, count_by-le-length}
use Rattle.ground_clauses.specs.Cases.{touched_cases}
use Rattle.ground_clauses.specs.declared.case.Case.{Case}
use Rattle.plan_answers.specs.Analysing.{IsAnalysed, IsAnalysis, IsCertified, IsPlanless}
use Rattle.plan_answers.specs.declared.analysing.Analysis.TheVariants.{Planless}
use Rattle.plan_answers.specs.declared.answer.Answer.{Answer}
use Rattle.reservation_plan.specs.Derived.{derived_plan}
use Rattle.reservation_plan.specs.Ends.{ends}
use Rattle.reservation_plan.specs.declared.analysed.Analysed.{Analysed}
use Rattle.spec_model.specs.declared.plan.Plan.{Plan}
use Rattle.spec_model.specs.declared.plan.Setup.{Setup}
use Rattle.spec_model.specs.declared.spec.Spec.{Spec}
use Rattle.run_model.specs.declared.history.History.{History}
use Rattle.run_model.specs.declared.step.Order.{Order}
use Rattle.run_model.specs.declared.step.StepEntry.{StepEntry}
use Rattle.run_model.specs.Runs.{asks_in, asks_of, entries_at}
use Rattle.run_model.specs.Trace.{trace_text}
use Rattle.run_model.specs.Worlds.{World}
use Rattle.run_trace.specs.Merging.{IsMerged}
use Rattle.client_runs.specs.Serving.{ups_of}
use Rattle.request_workers.specs.Histories.{AreLegal, BayTells, Bays}
use Rattle.scenario_text.specs.declared.document.ClientAsk.{ClientAsk}
use Rattle.scenario_text.specs.declared.document.Document.{Document}
use Rattle.scenario_text.specs.declared.document.StopLine.{StopLine}
use Rattle.scenario_text.specs.declared.document.Work.TheVariants as works
use Rattle.soak_documents.specs.Generating.{generated, schedule_of}
use Rattle.soak_documents.specs.Stock.{stock_spec}
use Rattle.soak_documents.specs.Summary.{soak_text}
use Rattle.indigo_program.specs.Headline.{IsLegalTrace, IsSoaked}

-- ---- a run has no more entries than its schedule has lines

few_kept : {X : Type 0} (p : X → Bool) (xs : List X) → length (filter p xs) ≤ length xs
few_kept p xs = omega (arith, length-filter p xs, count_by-le-length p xs)

-- one element's part below k + 1 is that below k and that at k
one_more : {X : Type 0} (x : X) (n k : ℕ) (xs ys zs : List X) (a b c : Bool) → ltb n (suc k) ≡ a → ltb n k ≡ b → eqb n k ≡ c → length xs ≡ length ys + length zs
    → length (cond a (x ∷ xs) xs) ≡ length (cond b (x ∷ ys) ys) + length (cond c (x ∷ zs) zs)
one_more x n k xs ys zs true true true p q s rest = let less = ltb-true n k q in let same = eqb-true n k s in absurd (omega (arith, less, same))
one_more x n k xs ys zs true true false p q s rest = omega (arith, rest)
one_more x n k xs ys zs true false true p q s rest = omega (arith, rest)
one_more x n k xs ys zs true false false p q s rest = let within = ltb-true n (suc k) p in let over = ltb-false n k q in absurd (eqb-false n k s (omega (arith, within, over)))
one_more x n k xs ys zs false true c p q s rest = let over = ltb-false n (suc k) p in let less = ltb-true n k q in absurd (omega (arith, over, less))
one_more x n k xs ys zs false false true p q s rest = let over = ltb-false n (suc k) p in let same = eqb-true n k s in absurd (omega (arith, over, same))
one_more x n k xs ys zs false false false p q s rest = rest

more_below : {X : Type 0} (at : X → ℕ) (k : ℕ) (xs : List X) → length (filter (λ x. ltb (at x) (suc k)) xs) ≡ length (filter (λ x. ltb (at x) k) xs) + length (filter (λ x. eqb (at x) k) xs)
more_below at k [] = refl
more_below at k (x ∷ xs) = one_more x (at x) k _ _ _ (ltb (at x) (suc k)) (ltb (at x) k) (eqb (at x) k) refl refl refl (more_below at k xs)

none_more : {X : Type 0} (n : ℕ) (x : X) (ys : List X) (b : Bool) → ltb n 0 ≡ b → length ys ≡ 0 → length (cond b (x ∷ ys) ys) ≡ 0
none_more n x ys true is none = let less = ltb-true n 0 is in absurd (omega (arith, less))
none_more n x ys false is none = none

none_below : {X : Type 0} (at : X → ℕ) (xs : List X) → length (filter (λ x. ltb (at x) 0) xs) ≡ 0
none_below at [] = refl
none_below at (x ∷ xs) = none_more (at x) x (filter (λ y. ltb (at y) 0) xs) (ltb (at x) 0) refl (none_below at xs)

all_below : (n : ℕ) (entries : List StepEntry) → AllByRecursion (λ e. e.replica < n) entries → length (filter (λ (e : StepEntry). ltb e.replica n) entries) ≡ length entries
all_below n [] all = refl
all_below n (e ∷ es) all =
    ap (λ b. length (cond b (e ∷ filter (λ (x : StepEntry). ltb x.replica n) es) (filter (λ (x : StepEntry). ltb x.replica n) es))) (lt-ltb e.replica n all.0) ∙ ap suc (all_below n es all.1)

-- where each replica has its lines' entries, those below k have as many entries as lines
same_below : (k : ℕ) (entries : List StepEntry) (orders : List Order) → ((me : ℕ) → asks_in (entries_at me entries) ≡ asks_of me orders)
    → length (filter (λ (e : StepEntry). ltb e.replica k) entries) ≡ length (filter (λ (o : Order). ltb o.replica k) orders)
same_below zero entries orders asked = none_below (λ (e : StepEntry). e.replica) entries ∙ sym (none_below (λ (o : Order). o.replica) orders)
same_below (suc k) entries orders asked =
    let mine : length (filter (λ (e : StepEntry). ltb e.replica (suc k)) entries) ≡ length (filter (λ (e : StepEntry). ltb e.replica k) entries) + length (entries_at k entries) = more_below (λ (e : StepEntry). e.replica) k entries in
    let lines : length (filter (λ (o : Order). ltb o.replica (suc k)) orders) ≡ length (filter (λ (o : Order). ltb o.replica k) orders) + length (filter (λ (o : Order). eqb o.replica k) orders) = more_below (λ (o : Order). o.replica) k orders in
    let here : length (asks_in (entries_at k entries)) ≡ length (entries_at k entries) = length-map (entries_at k entries) (λ (e : StepEntry). e.ask) in
    let there : length (asks_of k orders) ≡ length (filter (λ (o : Order). eqb o.replica k) orders) = length-map (filter (λ (o : Order). eqb o.replica k) orders) (λ (o : Order). o.ask) in
    let same : length (entries_at k entries) ≡ length (filter (λ (o : Order). eqb o.replica k) orders) = sym here ∙ ap length (asked k) ∙ there in
    mine ∙ ap (λ (n : ℕ). n + length (entries_at k entries)) (same_below k entries orders asked) ∙ ap (λ (n : ℕ). length (filter (λ (o : Order). ltb o.replica k) orders) + n) same ∙ sym lines

pub entries_few : (n : ℕ) (entries : List StepEntry) (orders : List Order) → AllByRecursion (λ e. e.replica < n) entries → ((me : ℕ) → asks_in (entries_at me entries) ≡ asks_of me orders) → length entries ≤ length orders
entries_few n entries orders within asked =
    omega (arith, all_below n entries within, same_below n entries orders asked, few_kept (λ (o : Order). ltb o.replica n) orders)

pub merged_few : (setup : Setup) (orders : List Order) (histories : List History) (world : World) (entries : List StepEntry) → AreLegal setup orders histories world → IsMerged histories entries → length entries ≤ length orders
merged_few setup orders histories world entries legal merged = entries_few (length histories) entries orders merged.below (legal.legal entries merged).asked

-- ---- the summary

-- the text that was put behind none
pub text_is : (seed : ℕ) (start text : List ℕ) (put entries : List StepEntry) → text ≡ start ++ soak_text seed put → start ≡ [] → put ≡ entries → text ≡ soak_text seed entries
text_is seed start text put entries is none same = is ∙ ap (λ (t : List ℕ). t ++ soak_text seed put) none ∙ ap (soak_text seed) same

-- the summary of histories that were merged
pub summary_of : (setup : Setup) (stops : List StopLine) (orders : List Order) (histories : List History) (world : World) (entries : List StepEntry) (seed : ℕ) (text : List ℕ) (bays : Bays) → AreLegal setup orders histories world
    → (IsTrue bays.tells → (es : List StepEntry) → IsMerged histories es → BayTells setup stops (ups_of histories) es world bays) → IsMerged histories entries → text ≡ soak_text seed entries
    → (trace : List ℕ) × (run : IsLegalTrace setup stops orders trace bays) × (text ≡ soak_text seed run.entries)
summary_of setup stops orders histories world entries seed text bays legal tells merged is = (
  trace_text setup entries world,
  record {
    ups = ups_of histories;
    entries = entries;
    world = world;
    legal = legal.legal entries merged;
    sound = legal.sound entries merged;
    written = refl;
    disks = λ telling. tells telling entries merged;
  },
  is,
)

-- ---- the plan

-- no case is the first of none
none_first : (found : Option Case) (k : Case) → found ≡ None → found ≡ Some k → ⊥
none_first found k none first = absurd (let both = sym none ∙ first in cc)

-- the generated specification has a plan
always_planned : (status : ℕ) (text : List ℕ) → IsPlanless stock_spec status text → ⊥
always_planned status text (inl (is, many)) = let over : 100000 < 0 = many.many in absurd (omega (arith, over))
always_planned status text (inr (inl (is, rejection))) = none_first (find (ends stock_spec) (touched_cases stock_spec)) rejection.case refl rejection.rejected.first
always_planned status text (inr (inr (is, hard))) = none_first (find (ends stock_spec) (touched_cases stock_spec)) hard.hard.case refl hard.hard.first

pub is_planned : (spec : Spec) (answer : Answer) → spec ≡ stock_spec → IsAnalysis spec (Planless answer) → ⊥
is_planned spec answer is none = always_planned answer.status answer.text (subst (λ (s : Spec). IsPlanless s answer.status answer.text) is none)

-- the summary of a run of the schedule of a seed
abbrev Sums : Spec → Plan → ℕ → List StopLine → List Order → ℕ → List ℕ → Bays → Type 0
Sums spec plan replicas stops orders seed text bays =
    let setup : Setup = record { spec = spec; plan = plan; replicas = replicas } in
    (trace : List ℕ) × (run : IsLegalTrace setup stops orders trace bays) × (text ≡ soak_text seed run.entries)

-- the summary by the derived plan
pub soaked_by : {E : Type 0} (spec : Spec) (analysed : Analysed) (replicas seed : ℕ) (stops : List StopLine) (orders : List Order) (bays : Bays) (result : Result (List ℕ) E) → spec ≡ stock_spec → replicas ≡ 4 → stops ≡ [] → orders ≡ schedule_of seed → IsAnalysed spec analysed
    → (let setup : Setup = record { spec = spec; plan = analysed.plan; replicas = replicas } in IfOk result (λ text. (trace : List ℕ) × (run : IsLegalTrace setup stops orders trace bays) × (text ≡ soak_text seed run.entries)))
    → IfOk result (λ text. IsSoaked seed text bays)
soaked_by spec analysed replicas seed stops orders bays (Ok text) stock four none lines is summary =
    let by_lines : Sums spec analysed.plan replicas stops (schedule_of seed) seed text bays = subst (λ (os : List Order). Sums spec analysed.plan replicas stops os seed text bays) lines summary in
    let by_stops : Sums spec analysed.plan replicas [] (schedule_of seed) seed text bays = subst (λ (ls : List StopLine). Sums spec analysed.plan replicas ls (schedule_of seed) seed text bays) none by_lines in
    let by_four : Sums spec analysed.plan 4 [] (schedule_of seed) seed text bays = subst (λ (n : ℕ). Sums spec analysed.plan n [] (schedule_of seed) seed text bays) four by_stops in
    let by_plan : Sums spec (derived_plan spec) 4 [] (schedule_of seed) seed text bays = subst (λ (p : Plan). Sums spec p 4 [] (schedule_of seed) seed text bays) is.plan by_four in
    let run : Sums stock_spec (derived_plan stock_spec) 4 [] (schedule_of seed) seed text bays = subst (λ (s : Spec). Sums s (derived_plan s) 4 [] (schedule_of seed) seed text bays) stock by_plan in
    record {
      trace = run.0;
      run = record { certificate = analysed.certificate; certified = subst (λ (s : Spec). IsCertified s analysed.certificate) stock is.certified; trace = run.1 };
      written = run.2;
    }
soaked_by spec analysed replicas seed stops orders bays (Err e) stock four none lines is summary = tt

-- ---- the document

-- a generated document has a schedule
pub no_clients : (d : Document) (seed turns : ℕ) (homes : List ℕ) (asks : List ClientAsk) → d ≡ generated seed → d.work ≡ works.Clients turns homes asks → ⊥
no_clients d seed turns homes asks is clients = absurd (let both : works.Schedule (schedule_of seed) ≡ works.Clients turns homes asks = sym (ap (λ (x : Document). x.work) is) ∙ clients in cc)

same_orders : (some other : List Order) → works.Schedule some ≡ works.Schedule other → some ≡ other
same_orders some other e = cc

-- and it is that of its seed
pub schedule_is : (d : Document) (seed : ℕ) (orders : List Order) → d ≡ generated seed → d.work ≡ works.Schedule orders → orders ≡ schedule_of seed
schedule_is d seed orders is schedule = same_orders orders (schedule_of seed) (sym schedule ∙ ap (λ (x : Document). x.work) is)
