-- Every specification that is read is well formed.
use Rattle.std.proofs.Common.{◌≡◌, inl, inr, ℕ, ◌+◌, ◌<◌, ◌≤◌, Bool, true, false, ◌&&◌, List, [], ◌∷◌, ◌++◌, length, map, refl, sym, subst, ◌∙◌, arith, length-append}
use Rattle.std.specs.Prelude.{Result, Ok, Err, Option, Some, None, nat_le, nat_lt, pos, count_by, Contains}
use Rattle.std.specs.List.{AllByRecursion, list_all}
use Rattle.std.proofs.lemmas.Bool.{leb-true, ltb-true, eqb-true}
use Rattle.std.proofs.lemmas.List.{length-map}
use Rattle.std.proofs.lemmas.Int.{ints}
use Rattle.std.proofs.lemmas.List.Sums.{sum_by_push}
use Rattle.std.proofs.lemmas.List.Elements.{Contains-push_cases}
use Rattle.spec_model.specs.declared.spec.Rule.{Rule}
use Rattle.spec_model.specs.declared.spec.Sort.{Sort}
use Rattle.spec_model.specs.declared.spec.Pred.{Pred}
use Rattle.spec_model.specs.declared.spec.Num.{Num}
use Rattle.spec_model.specs.declared.spec.Spec.{Spec}
use Rattle.spec_model.specs.declared.clause.Var.{Var}
use Rattle.spec_model.specs.declared.clause.Clause.{Clause}
use Rattle.spec_model.specs.declared.clause.Literal.{Literal}
use Rattle.spec_model.specs.declared.plan.Pair.{Pair}
use Rattle.spec_model.specs.declared.operation.Op.{Op}
use Rattle.spec_model.specs.declared.operation.Term.{Term}
use Rattle.spec_model.specs.declared.operation.Line.{Line}
use Rattle.spec_model.specs.declared.operation.Line.TheVariants as effects
use Rattle.spec_lines.specs.declared.item.NamedVar.{NamedVar}
use Rattle.spec_lines.specs.declared.item.NamedParam.{NamedParam}
use Rattle.spec_lines.specs.declared.item.NamedTerm.{NamedTerm}
use Rattle.spec_lines.specs.declared.line.NamedLiteral.{NamedLiteral}
use Rattle.spec_lines.specs.declared.line.SpecLine.{SpecLine}
use Rattle.spec_lines.specs.declared.line.SpecLine.TheVariants as lines
use Rattle.line_text.specs.declared.cause.Cause.{Cause}
use Rattle.line_text.proofs.Guards.{and_true}
use Rattle.line_text.proofs.Readings.{read_kept}
use Rattle.spec_language.specs.declared.draft.SpecDraft.{SpecDraft}
use Rattle.spec_language.specs.Draft as drafts
use Rattle.spec_language.specs.AtStart.{at_least, at_most, size_at, tuple_count, starts_at, clause_starts}
use Rattle.spec_language.specs.Reading.{accept, ends, draft_of, spec_of, spec_of_draft}
use Rattle.spec_model.specs.Fits as fits
use Rattle.spec_model.specs.Truths.{Truths, Holds, ClausesHold, var_sorts, signed}
use Rattle.spec_model.specs.Universe as counts
use Rattle.spec_model.specs.Bounds.{IsAtLeast, IsAtMost}
use Rattle.spec_language.proofs.Declared.{sorts_below, vars_below, params_below, literals_fit, terms_fit, places_fit, pred_below, num_below, op_below, one_interval}
use Rattle.spec_language.proofs.Instances.{within_holds}
use Rattle.spec_language.proofs.Limits.{all_one, last_keeps, line_keeps}
use Rattle.spec_language.proofs.Taken as takens

-- what stands in a later rank isn't there yet
pub record Ranked (d : SpecDraft) : Type 0 where
  pub preds : d.rank < 2 → d.spec.preds ≡ []
  pub nums : d.rank < 3 → d.spec.nums ≡ []
  pub clauses : d.rank < 4 → d.spec.clauses ≡ []
  pub ops : d.rank < 5 → d.spec.ops ≡ []
  pub free : d.rank < 6 → d.spec.free ≡ []

pub record Formed (d : SpecDraft) : Type 0 where
  pub ranks : Ranked d
  pub universe : d.universe ≡ counts.universe_size d.spec
  pub instances : d.instances ≡ counts.instance_count d.spec
  pub whole : fits.IsWellFormed d.spec

all_none : {A : Type 0} → (P : A → Type 0) (xs : List A) → xs ≡ [] → AllByRecursion P xs
all_none P [] e = tt
all_none P (x ∷ xs) e = absurd cc

all_append : {A : Type 0} → (P : A → Type 0) (xs ys : List A) → AllByRecursion P xs → AllByRecursion P ys → AllByRecursion P (xs ++ ys)
all_append P [] ys h k = k
all_append P (x ∷ xs) ys h k = (h.0, all_append P xs ys h.1 k)

all_weaker : {A : Type 0} → (P Q : A → Type 0) → ((x : A) → P x → Q x) → (xs : List A) → AllByRecursion P xs → AllByRecursion Q xs
all_weaker P Q weaker [] h = tt
all_weaker P Q weaker (x ∷ xs) h = (weaker x h.0, all_weaker P Q weaker xs h.1)

-- ---- what fits, fits a specification with more in it

abbrev whole : List Sort → List Pred → List Num → List Clause → List Op → List Pair → Spec
whole sorts preds nums clauses ops free = record { sorts = sorts; preds = preds; nums = nums; clauses = clauses; ops = ops; free = free }

preds_moved : (s : Spec) (preds : List Pred) (nums : List Num) (clauses : List Clause) (ops : List Op) (free : List Pair) (ps : List Pred) → AllByRecursion (fits.PredFits s) ps → AllByRecursion (fits.PredFits (whole s.sorts preds nums clauses ops free)) ps
preds_moved s preds nums clauses ops free ps h = all_weaker _ _ (λ p k. record { sorts_known = k.sorts_known; few_places = k.few_places }) ps h

nums_moved : (s : Spec) (preds : List Pred) (nums : List Num) (clauses : List Clause) (ops : List Op) (free : List Pair) (ns : List Num) → AllByRecursion (fits.NumFits s) ns → AllByRecursion (fits.NumFits (whole s.sorts preds nums clauses ops free)) ns
nums_moved s preds nums clauses ops free ns h = all_weaker _ _ (λ n k. record { sorts_known = k.sorts_known; few_places = k.few_places; init = k.init; init_is = k.init_is; init_small = k.init_small; min_fits = k.min_fits; max_fits = k.max_fits; not_below = k.not_below; not_above = k.not_above }) ns h

clauses_moved : (s : Spec) (nums : List Num) (clauses : List Clause) (ops : List Op) (free : List Pair) (cs : List Clause) → AllByRecursion (fits.ClauseFits s) cs → AllByRecursion (fits.ClauseFits (whole s.sorts s.preds nums clauses ops free)) cs
clauses_moved s nums clauses ops free cs h = all_weaker _ _ (λ c k. record { literals_fit = k.literals_fit; sorts_known = k.sorts_known; few_vars = k.few_vars; few_literals = k.few_literals }) cs h

line_moved : (s : Spec) (clauses : List Clause) (ops : List Op) (free : List Pair) (params : List Var) (l : Line) → fits.LineFits s params l → fits.LineFits (whole s.sorts s.preds s.nums clauses ops free) params l
line_moved s clauses ops free params (effects.Set p ts) k = k
line_moved s clauses ops free params (effects.Clear p ts) k = k
line_moved s clauses ops free params (effects.Add n places amount) k = record { known = k.known; places_fit = k.places_fit; some = k.some; small = k.small }
line_moved s clauses ops free params (effects.Sub n places amount) k = record { known = k.known; places_fit = k.places_fit; some = k.some; small = k.small }

ops_moved : (s : Spec) (clauses : List Clause) (ops : List Op) (free : List Pair) (os : List Op) → AllByRecursion (fits.OpFits s) os → AllByRecursion (fits.OpFits (whole s.sorts s.preds s.nums clauses ops free)) os
ops_moved s clauses ops free os h = all_weaker _ _ (λ o k. record { lines_fit = all_weaker _ _ (line_moved s clauses ops free o.params) o.lines k.lines_fit; one_interval = k.one_interval; sorts_known = k.sorts_known; few_params = k.few_params; few_lines = k.few_lines }) os h

pairs_moved : (s : Spec) (free ps : List Pair) → AllByRecursion (fits.PairFits s) ps → AllByRecursion (fits.PairFits (whole s.sorts s.preds s.nums s.clauses s.ops free)) ps
pairs_moved s free ps h = all_weaker _ _ (λ p k. record { first = k.first; second = k.second }) ps h

-- ---- how many atoms, cells and instances there are

none_there : (s : Spec) → s.preds ≡ [] → s.nums ≡ [] → counts.universe_size s ≡ 0
none_there s p n = rw (p, n) refl

no_instances : (s : Spec) → s.clauses ≡ [] → counts.instance_count s ≡ 0
no_instances s c = rw c refl

named_count : (sorts : List Sort) (names : List (List ℕ)) → drafts.count_named sorts names ≡ counts.tuple_count (map (size_at sorts) (map (drafts.sort_place sorts) names))
unfolding drafts.count_named tuple_count
named_count sorts names = refl

vars_count : (sorts : List Sort) (places : List ℕ) → tuple_count sorts places ≡ counts.tuple_count (map (size_at sorts) places)
unfolding tuple_count
vars_count sorts places = refl

-- no clause is false at first where there is none
nothing_false : (s : Spec) (t : Truths) → s.clauses ≡ [] → ClausesHold s t
nothing_false s t none c has = absurd (none_in s.clauses none has)
  where
    none_in : (cs : List Clause) → cs ≡ [] → Contains cs c → ⊥
    none_in [] e h = absurd (omega (arith, h.1))
    none_in (x ∷ xs) e h = absurd cc

-- ---- sort

sort_formed : (d e : SpecDraft) (name : List ℕ) (size : ℕ) → Formed d → takens.SortTaken d e name size → Formed e
sort_formed d e name size f t =
    let low = leb-true d.rank 1 t.low in
    let small = and_true (nat_le 1 size) (nat_le size 1024) t.sized in
    let room = ltb-true (length d.spec.sorts) 16 t.room in
    let preds = f.ranks.preds (omega (arith, low)) in
    let nums = f.ranks.nums (omega (arith, low)) in
    let clauses = f.ranks.clauses (omega (arith, low)) in
    let ops = f.ranks.ops (omega (arith, low)) in
    let free = f.ranks.free (omega (arith, low)) in
    let new = whole (d.spec.sorts ++ record { name = name; size = size } ∷ []) d.spec.preds d.spec.nums d.spec.clauses d.spec.ops d.spec.free in
    subst Formed t.whole (record {
      ranks = record { preds = λ h. preds; nums = λ h. nums; clauses = λ h. clauses; ops = λ h. ops; free = λ h. free };
      universe = f.universe ∙ none_there d.spec preds nums ∙ sym (none_there new preds nums);
      instances = f.instances ∙ no_instances d.spec clauses ∙ sym (no_instances new clauses);
      whole = record {
        sorts = all_one _ d.spec.sorts _ f.whole.sorts (record { some = leb-true 1 size small.0; few = leb-true size 1024 small.1 });
        preds = all_none _ d.spec.preds preds;
        nums = all_none _ d.spec.nums nums;
        clauses = all_none _ d.spec.clauses clauses;
        ops = all_none _ d.spec.ops ops;
        free = all_none _ d.spec.free free;
        few_sorts = omega (arith, room, length-append {A = Sort});
        few_preds = f.whole.few_preds;
        few_nums = f.whole.few_nums;
        few_clauses = f.whole.few_clauses;
        few_ops = f.whole.few_ops;
        small_universe = rw (none_there new preds nums) (omega arith);
        few_instances = rw (no_instances new clauses) (omega arith);
        starts = nothing_false new (counts.first_truths new) clauses;
      };
    })

-- ---- pred

few_names : (sorts : List Sort) (names : List (List ℕ)) → length names ≤ 3 → length (map (drafts.sort_place sorts) names) ≤ 3
few_names sorts names few = rw (length-map names (drafts.sort_place sorts)) few

-- one more predicate
pred_counted : (s : Spec) (p : Pred) → counts.universe_size (whole s.sorts (s.preds ++ p ∷ []) s.nums s.clauses s.ops s.free) ≡ counts.universe_size s + counts.tuple_count (counts.sizes_of s p.sorts)
pred_counted s p =
    let count : Pred → ℕ = λ q. counts.tuple_count (counts.sizes_of s q.sorts) in
    let more = sum_by_push count s.preds p in
    omega (arith, more)

pred_formed : (d e : SpecDraft) (name : List ℕ) (sorts : List (List ℕ)) (rule : Rule) (first : Bool) → Formed d → takens.PredTaken d e name sorts rule first → Formed e
pred_formed d e name sorts rule first f t =
    let low = leb-true d.rank 2 t.low in
    let both = and_true (nat_le (length sorts) 3) (nat_lt (length d.spec.preds) 64) t.room in
    let room = ltb-true (length d.spec.preds) 64 both.1 in
    let nums = f.ranks.nums (omega (arith, low)) in
    let clauses = f.ranks.clauses (omega (arith, low)) in
    let ops = f.ranks.ops (omega (arith, low)) in
    let free = f.ranks.free (omega (arith, low)) in
    let pred : Pred = record { name = name; sorts = map (drafts.sort_place d.spec.sorts) sorts; rule = rule; first = first } in
    let new = whole d.spec.sorts (d.spec.preds ++ pred ∷ []) d.spec.nums d.spec.clauses d.spec.ops d.spec.free in
    let size : d.universe + drafts.count_named d.spec.sorts sorts ≡ counts.universe_size new = rw (f.universe, named_count d.spec.sorts sorts) (sym (pred_counted d.spec pred)) in
    subst Formed t.whole (record {
      ranks = record { preds = λ h. absurd (omega (arith, h)); nums = λ h. nums; clauses = λ h. clauses; ops = λ h. ops; free = λ h. free };
      universe = size;
      instances = f.instances;
      whole = record {
        sorts = f.whole.sorts;
        preds = all_one _ d.spec.preds _ (preds_moved d.spec _ _ _ _ _ d.spec.preds f.whole.preds) (record { sorts_known = sorts_below d.spec.sorts sorts t.known; few_places = few_names d.spec.sorts sorts (leb-true (length sorts) 3 both.0) });
        nums = all_none _ d.spec.nums nums;
        clauses = all_none _ d.spec.clauses clauses;
        ops = all_none _ d.spec.ops ops;
        free = all_none _ d.spec.free free;
        few_sorts = f.whole.few_sorts;
        few_preds = omega (arith, room, length-append {A = Pred});
        few_nums = f.whole.few_nums;
        few_clauses = f.whole.few_clauses;
        few_ops = f.whole.few_ops;
        small_universe = subst (λ (n : ℕ). n ≤ 65536) size (leb-true (d.universe + drafts.count_named d.spec.sorts sorts) 65536 t.counted);
        few_instances = f.whole.few_instances;
        starts = nothing_false new (counts.first_truths new) clauses;
      };
    })

-- ---- num

-- one more number
num_counted : (s : Spec) (n : Num) → counts.universe_size (whole s.sorts s.preds (s.nums ++ n ∷ []) s.clauses s.ops s.free) ≡ counts.universe_size s + counts.tuple_count (counts.sizes_of s n.sorts)
num_counted s n =
    let count : Num → ℕ = λ m. counts.tuple_count (counts.sizes_of s m.sorts) in
    let more = sum_by_push count s.nums n in
    omega (arith, more)

bound_fits : (o : Option ℕ) → drafts.is_value o ≡ true → fits.BoundFits (drafts.bound_of o)
bound_fits None e = tt
bound_fits (Some n) e = (n, refl, leb-true n 1000000000000 e)

is_at_least : (o : Option ℕ) (n : ℕ) → at_least n o ≡ true → IsAtLeast (drafts.bound_of o) (pos n)
is_at_least None n e = tt
is_at_least (Some m) n e =
    let le = leb-true m n e in
    omega (arith, ints)

is_at_most : (o : Option ℕ) (n : ℕ) → at_most n o ≡ true → IsAtMost (drafts.bound_of o) (pos n)
is_at_most None n e = tt
is_at_most (Some m) n e =
    let le = leb-true n m e in
    omega (arith, ints)

num_formed : (d e : SpecDraft) (name : List ℕ) (sorts : List (List ℕ)) (init : ℕ) (min max : Option ℕ) → Formed d → takens.NumTaken d e name sorts init min max → Formed e
num_formed d e name sorts init min max f t =
    let low = leb-true d.rank 3 t.low in
    let both = and_true (nat_le (length sorts) 3) (nat_lt (length d.spec.nums) 64) t.room in
    let room = ltb-true (length d.spec.nums) 64 both.1 in
    let valued = and_true (nat_le init 1000000000000 && drafts.is_value min) (drafts.is_value max) t.valued in
    let first = and_true (nat_le init 1000000000000) (drafts.is_value min) valued.0 in
    let within = and_true (at_least init min) (at_most init max) t.bounded in
    let clauses = f.ranks.clauses (omega (arith, low)) in
    let ops = f.ranks.ops (omega (arith, low)) in
    let free = f.ranks.free (omega (arith, low)) in
    let num : Num = record { name = name; sorts = map (drafts.sort_place d.spec.sorts) sorts; init = pos init; min = drafts.bound_of min; max = drafts.bound_of max } in
    let new = whole d.spec.sorts d.spec.preds (d.spec.nums ++ num ∷ []) d.spec.clauses d.spec.ops d.spec.free in
    let size : d.universe + drafts.count_named d.spec.sorts sorts ≡ counts.universe_size new = rw (f.universe, named_count d.spec.sorts sorts) (sym (num_counted d.spec num)) in
    subst Formed t.whole (record {
      ranks = record { preds = λ h. absurd (omega (arith, h)); nums = λ h. absurd (omega (arith, h)); clauses = λ h. clauses; ops = λ h. ops; free = λ h. free };
      universe = size;
      instances = f.instances;
      whole = record {
        sorts = f.whole.sorts;
        preds = preds_moved d.spec _ _ _ _ _ d.spec.preds f.whole.preds;
        nums = all_one _ d.spec.nums _ (nums_moved d.spec _ _ _ _ _ d.spec.nums f.whole.nums) (record {
          sorts_known = sorts_below d.spec.sorts sorts t.known;
          few_places = few_names d.spec.sorts sorts (leb-true (length sorts) 3 both.0);
          init = init;
          init_is = refl;
          init_small = leb-true init 1000000000000 first.0;
          min_fits = bound_fits min first.1;
          max_fits = bound_fits max valued.1;
          not_below = is_at_least min init within.0;
          not_above = is_at_most max init within.1;
        });
        clauses = all_none _ d.spec.clauses clauses;
        ops = all_none _ d.spec.ops ops;
        free = all_none _ d.spec.free free;
        few_sorts = f.whole.few_sorts;
        few_preds = f.whole.few_preds;
        few_nums = omega (arith, room, length-append {A = Num});
        few_clauses = f.whole.few_clauses;
        few_ops = f.whole.few_ops;
        small_universe = subst (λ (n : ℕ). n ≤ 65536) size (leb-true (d.universe + drafts.count_named d.spec.sorts sorts) 65536 t.counted);
        few_instances = f.whole.few_instances;
        starts = nothing_false new (counts.first_truths new) clauses;
      };
    })

-- ---- clause

few_both : (preds : List Pred) (vars : List Var) (premise conclusion : List NamedLiteral) → length premise + length conclusion ≤ 8
    → length (map (drafts.literal_of preds vars) premise) + length (map (drafts.literal_of preds vars) conclusion) ≤ 8
few_both preds vars premise conclusion few = rw (length-map premise (drafts.literal_of preds vars), length-map conclusion (drafts.literal_of preds vars)) few

signed_fit : (P : Literal → Type 0) (sign : Bool) (ls : List Literal) → AllByRecursion P ls → AllByRecursion (λ l. P l.literal) (map (signed sign) ls)
signed_fit P sign [] h = tt
signed_fit P sign (l ∷ ls) h = (h.0, signed_fit P sign ls h.1)

-- one more clause
clause_counted : (s : Spec) (c : Clause) → counts.instance_count (whole s.sorts s.preds s.nums (s.clauses ++ c ∷ []) s.ops s.free) ≡ counts.instance_count s + counts.tuple_count (counts.sizes_of s (var_sorts c))
clause_counted s c = sum_by_push (λ (b : Clause). counts.tuple_count (counts.sizes_of s (var_sorts b))) s.clauses c

-- a clause whose instances are all true at first holds at the first truths
clause_holds : (s : Spec) (c : Clause) → clause_starts s.sorts s.preds c ≡ true → Holds s (counts.first_truths s) c
unfolding clause_starts starts_at
clause_holds s c starts xs within = within_holds (size_at s.sorts) (starts_at s.preds c) (var_sorts c) xs within starts

one_more_holds : (s : Spec) (c : Clause) → ClausesHold s (counts.first_truths s) → Holds s (counts.first_truths s) c → (b : Clause) → Contains (s.clauses ++ c ∷ []) b → Holds s (counts.first_truths s) b
one_more_holds s c all one b has = elim (Contains-push_cases s.clauses c b has) [ inl old ↦ all b old | inr same ↦ subst (λ (x : Clause). Holds s (counts.first_truths s) x) same one ]

clause_formed : (d e : SpecDraft) (vars : List NamedVar) (premise conclusion : List NamedLiteral) (mask : Bool) → Formed d → takens.ClauseTaken d e vars premise conclusion mask → Formed e
clause_formed d e vars premise conclusion mask f t =
    let vs = map (drafts.var_of d.spec.sorts) vars in
    let low = leb-true d.rank 4 t.low in
    let l = t.literals in
    let rooms = and_true (nat_le (length vs) 4 && nat_le (length premise + length conclusion) 8) (nat_lt (length d.spec.clauses) 64) l.room in
    let few = and_true (nat_le (length vs) 4) (nat_le (length premise + length conclusion) 8) rooms.0 in
    let room = ltb-true (length d.spec.clauses) 64 rooms.1 in
    let known = and_true (list_all (drafts.is_literal_known d.spec.preds vs) premise) (list_all (drafts.is_literal_known d.spec.preds vs) conclusion) l.known in
    let fit = and_true (list_all (drafts.literal_fits d.spec.preds vs) premise) (list_all (drafts.literal_fits d.spec.preds vs) conclusion) l.fit in
    let ops = f.ranks.ops (omega (arith, low)) in
    let free = f.ranks.free (omega (arith, low)) in
    let c = drafts.clause_of d.spec.preds vs premise conclusion mask in
    let new = whole d.spec.sorts d.spec.preds d.spec.nums (d.spec.clauses ++ c ∷ []) d.spec.ops d.spec.free in
    let size : d.instances + tuple_count d.spec.sorts (drafts.var_sorts vs) ≡ counts.instance_count new = rw (f.instances, vars_count d.spec.sorts (drafts.var_sorts vs)) (sym (clause_counted d.spec c)) in
    subst Formed l.whole (record {
      ranks = record { preds = λ h. absurd (omega (arith, h)); nums = λ h. absurd (omega (arith, h)); clauses = λ h. absurd (omega (arith, h)); ops = λ h. ops; free = λ h. free };
      universe = f.universe;
      instances = size;
      whole = record {
        sorts = f.whole.sorts;
        preds = preds_moved d.spec _ _ _ _ _ d.spec.preds f.whole.preds;
        nums = nums_moved d.spec _ _ _ _ _ d.spec.nums f.whole.nums;
        clauses = all_one _ d.spec.clauses _ (clauses_moved d.spec _ _ _ _ d.spec.clauses f.whole.clauses) (record {
          literals_fit = all_append _ (map (signed false) c.premise) (map (signed true) c.conclusion)
              (signed_fit (fits.LiteralFits d.spec (var_sorts c)) false c.premise (literals_fit d.spec vs premise known.0 fit.0))
              (signed_fit (fits.LiteralFits d.spec (var_sorts c)) true c.conclusion (literals_fit d.spec vs conclusion known.1 fit.1));
          sorts_known = vars_below d.spec.sorts vars t.known;
          few_vars = leb-true (length vs) 4 few.0;
          few_literals = few_both d.spec.preds vs premise conclusion (leb-true (length premise + length conclusion) 8 few.1);
        });
        ops = all_none _ d.spec.ops ops;
        free = all_none _ d.spec.free free;
        few_sorts = f.whole.few_sorts;
        few_preds = f.whole.few_preds;
        few_nums = f.whole.few_nums;
        few_clauses = omega (arith, room, length-append {A = Clause});
        few_ops = f.whole.few_ops;
        small_universe = f.whole.small_universe;
        few_instances = subst (λ (n : ℕ). n ≤ 1000000) size (leb-true (d.instances + tuple_count d.spec.sorts (drafts.var_sorts vs)) 1000000 l.counted);
        starts = one_more_holds d.spec c f.whole.starts (clause_holds d.spec c l.holds);
      };
    })

-- ---- op and its effects

few_params : (sorts : List Sort) (params : List NamedParam) → length params ≤ 4 → length (map (drafts.param_of sorts) params) ≤ 4
few_params sorts params few = rw (length-map params (drafts.param_of sorts)) few

op_formed : (d e : SpecDraft) (name : List ℕ) (params : List NamedParam) → Formed d → takens.OpTaken d e name params → Formed e
op_formed d e name params f t =
    let low = leb-true d.rank 5 t.low in
    let both = and_true (nat_le (length params) 4) (nat_lt (length d.spec.ops) 64) t.room in
    let room = ltb-true (length d.spec.ops) 64 both.1 in
    let one = leb-true (count_by (λ (p : NamedParam). p.interval) params) 1 t.one in
    let free = f.ranks.free (omega (arith, low)) in
    subst Formed t.whole (record {
      ranks = record { preds = λ h. absurd (omega (arith, h)); nums = λ h. absurd (omega (arith, h)); clauses = λ h. absurd (omega (arith, h)); ops = λ h. absurd (omega (arith, h)); free = λ h. free };
      universe = f.universe;
      instances = f.instances;
      whole = record {
        sorts = f.whole.sorts;
        preds = preds_moved d.spec _ _ _ _ _ d.spec.preds f.whole.preds;
        nums = nums_moved d.spec _ _ _ _ _ d.spec.nums f.whole.nums;
        clauses = clauses_moved d.spec _ _ _ _ d.spec.clauses f.whole.clauses;
        ops = all_one _ d.spec.ops _ (ops_moved d.spec _ _ _ d.spec.ops f.whole.ops) (record {
          lines_fit = tt;
          one_interval = one_interval d.spec.sorts params one;
          sorts_known = params_below d.spec.sorts params t.known;
          few_params = few_params d.spec.sorts params (leb-true (length params) 4 both.0);
          few_lines = omega arith;
        });
        free = all_none _ d.spec.free free;
        few_sorts = f.whole.few_sorts;
        few_preds = f.whole.few_preds;
        few_nums = f.whole.few_nums;
        few_clauses = f.whole.few_clauses;
        few_ops = omega (arith, room, length-append {A = Op});
        small_universe = f.whole.small_universe;
        few_instances = f.whole.few_instances;
        starts = f.whole.starts;
      };
    })

with_line_fits : (s : Spec) (o : Op) (line : Line) → nat_lt (length o.lines) 16 ≡ true → fits.LineFits s o.params line → fits.OpFits s o → fits.OpFits s (drafts.with_line o line)
with_line_fits s o line room fit h =
    let less = ltb-true (length o.lines) 16 room in
    record { lines_fit = all_one _ o.lines line h.lines_fit fit; one_interval = h.one_interval; sorts_known = h.sorts_known; few_params = h.few_params; few_lines = omega (arith, less, length-append {A = Line}) }

touch_line_fits : (s : Spec) (params : List Var) (truth : Bool) (p : ℕ) (ts : List Term) → fits.EffectFits s params p ts → fits.LineFits s params (drafts.touch_line truth p ts)
touch_line_fits s params true p ts fit = fit
touch_line_fits s params false p ts fit = fit

touched_fits : (s : Spec) (truth : Bool) (pred : List ℕ) (ts : List NamedTerm) (o p : Op) → takens.Touched s.preds truth pred ts o p → fits.OpFits s o → fits.OpFits s p
touched_fits s truth pred ts o p t h =
    let place = drafts.pred_place s.preds pred in
    let known = and_true (drafts.is_pred s.preds pred) (list_all (drafts.is_term_known o.params) ts) t.known in
    let fit = and_true (drafts.fit_all (drafts.term_fits o.params) ts (drafts.sorts_of_pred s.preds place)) _ t.fit in
    let line = touch_line_fits s o.params truth place (map (drafts.term_of o.params) ts) (pred_below s.preds pred known.0, terms_fit o.params ts (drafts.sorts_of_pred s.preds place) known.1 fit.0) in
    subst (fits.OpFits s) t.whole (with_line_fits s o _ t.room line h)

change_line_fits : (s : Spec) (params : List Var) (raises : Bool) (n : ℕ) (places : List ℕ) (amount : ℕ) → fits.ChangeFits s params n places amount → fits.LineFits s params (drafts.change_line raises n places amount)
change_line_fits s params true n places amount fit = fit
change_line_fits s params false n places amount fit = fit

changed_fits : (s : Spec) (raises : Bool) (amount : ℕ) (num : List ℕ) (names : List (List ℕ)) (o p : Op) → takens.Changed s.nums raises amount num names o p → fits.OpFits s o → fits.OpFits s p
changed_fits s raises amount num names o p t h =
    let place = drafts.num_place s.nums num in
    let known = and_true (drafts.is_num s.nums num) (list_all (drafts.is_var o.params) names) t.known in
    let fit = and_true (nat_le (length names) 3) (drafts.fit_all (drafts.is_plain o.params) names (drafts.sorts_of_num s.nums place)) t.fit in
    let ranged = and_true (nat_le 1 amount) (nat_le amount 1000000000) t.ranged in
    let change : fits.ChangeFits s o.params place (map (drafts.var_place o.params) names) amount = record { known = num_below s.nums num known.0; places_fit = places_fit o.params names (drafts.sorts_of_num s.nums place) known.1 fit.1; some = leb-true 1 amount ranged.0; small = leb-true amount 1000000000 ranged.1 } in
    subst (fits.OpFits s) t.whole (with_line_fits s o _ t.room (change_line_fits s o.params raises place (map (drafts.var_place o.params) names) amount change) h)

effect_formed : (d e : SpecDraft) (g : Op → Result Op Cause) → ((o p : Op) → g o ≡ Ok p → fits.OpFits d.spec o → fits.OpFits d.spec p) → Formed d → takens.EffectTaken d e g → Formed e
effect_formed d e g keeps f t =
    let five : d.rank ≡ 5 = eqb-true d.rank 5 t.at in
    let more = last_keeps g (fits.OpFits d.spec) keeps d.spec.ops t.ops t.last f.whole.ops in
    let free = f.ranks.free (omega (arith, five)) in
    subst Formed t.whole (record {
      ranks = record { preds = λ h. absurd (omega (arith, h, five)); nums = λ h. absurd (omega (arith, h, five)); clauses = λ h. absurd (omega (arith, h, five)); ops = λ h. absurd (omega (arith, h, five)); free = λ h. free };
      universe = f.universe;
      instances = f.instances;
      whole = record {
        sorts = f.whole.sorts;
        preds = preds_moved d.spec _ _ _ _ _ d.spec.preds f.whole.preds;
        nums = nums_moved d.spec _ _ _ _ _ d.spec.nums f.whole.nums;
        clauses = clauses_moved d.spec _ _ _ _ d.spec.clauses f.whole.clauses;
        ops = ops_moved d.spec _ _ _ t.ops more.0;
        free = all_none _ d.spec.free free;
        few_sorts = f.whole.few_sorts;
        few_preds = f.whole.few_preds;
        few_nums = f.whole.few_nums;
        few_clauses = f.whole.few_clauses;
        few_ops = rw more.1 f.whole.few_ops;
        small_universe = f.whole.small_universe;
        few_instances = f.whole.few_instances;
        starts = f.whole.starts;
      };
    })

-- ---- free

free_formed : (d e : SpecDraft) (first second : List ℕ) → Formed d → takens.FreeTaken d e first second → Formed e
free_formed d e first second f t =
    let known = and_true (drafts.is_op d.spec.ops first) (drafts.is_op d.spec.ops second) t.known in
    subst Formed t.whole (record {
      ranks = record { preds = λ h. absurd (omega (arith, h)); nums = λ h. absurd (omega (arith, h)); clauses = λ h. absurd (omega (arith, h)); ops = λ h. absurd (omega (arith, h)); free = λ h. absurd (omega (arith, h)) };
      universe = f.universe;
      instances = f.instances;
      whole = record {
        sorts = f.whole.sorts;
        preds = preds_moved d.spec _ _ _ _ _ d.spec.preds f.whole.preds;
        nums = nums_moved d.spec _ _ _ _ _ d.spec.nums f.whole.nums;
        clauses = clauses_moved d.spec _ _ _ _ d.spec.clauses f.whole.clauses;
        ops = ops_moved d.spec _ _ _ d.spec.ops f.whole.ops;
        free = all_one _ d.spec.free _ (pairs_moved d.spec _ d.spec.free f.whole.free) (record { first = op_below d.spec.ops first known.0; second = op_below d.spec.ops second known.1 });
        few_sorts = f.whole.few_sorts;
        few_preds = f.whole.few_preds;
        few_nums = f.whole.few_nums;
        few_clauses = f.whole.few_clauses;
        few_ops = f.whole.few_ops;
        small_universe = f.whole.small_universe;
        few_instances = f.whole.few_instances;
        starts = f.whole.starts;
      };
    })

-- ---- all lines

pub step_formed : (d e : SpecDraft) (line : SpecLine) → Formed d → drafts.step d line ≡ Ok e → Formed e
unfolding drafts.step
step_formed d e (lines.Sort name size) f is = sort_formed d e name size f (takens.sort_taken d e name size is)
step_formed d e (lines.Pred name sorts rule first) f is = pred_formed d e name sorts rule first f (takens.pred_taken d e name sorts rule first is)
step_formed d e (lines.Num name sorts init min max) f is = num_formed d e name sorts init min max f (takens.num_taken d e name sorts init min max is)
step_formed d e (lines.Clause vars premise conclusion mask) f is = clause_formed d e vars premise conclusion mask f (takens.clause_taken d e vars premise conclusion mask is)
step_formed d e (lines.Op name params) f is = op_formed d e name params f (takens.op_taken d e name params is)
step_formed d e (lines.Touch truth pred terms) f is = effect_formed d e (drafts.op_touch d.spec.preds truth pred terms) (λ o p q. touched_fits d.spec truth pred terms o p (takens.touched d.spec.preds truth pred terms o p q)) f (takens.touch_taken d e truth pred terms is)
step_formed d e (lines.Change raises amount num names) f is = effect_formed d e (drafts.op_change d.spec.nums raises amount num names) (λ o p q. changed_fits d.spec raises amount num names o p (takens.changed d.spec.nums raises amount num names o p q)) f (takens.change_taken d e raises amount num names is)
step_formed d e (lines.Free first second) f is = free_formed d e first second f (takens.free_taken d e first second is)

pub fresh_formed : Formed drafts.fresh
fresh_formed = record {
  ranks = record { preds = λ h. refl; nums = λ h. refl; clauses = λ h. refl; ops = λ h. refl; free = λ h. refl };
  universe = refl;
  instances = refl;
  whole = record { sorts = tt; preds = tt; nums = tt; clauses = tt; ops = tt; free = tt; few_sorts = omega arith; few_preds = omega arith; few_nums = omega arith; few_clauses = omega arith; few_ops = omega arith; small_universe = omega arith; few_instances = omega arith; starts = nothing_false drafts.fresh.spec (counts.first_truths drafts.fresh.spec) refl };
}

-- what is read is well formed
pub read_formed : (lines : List (List ℕ)) (d : SpecDraft) → draft_of lines ≡ Ok d → fits.IsWellFormed d.spec
read_formed lines d is = (read_kept Formed accept ends (λ a b line h e. line_keeps Formed step_formed a b line h e) (λ a b h e. subst Formed (same a b e) h) lines 1 drafts.fresh d fresh_formed is).whole
  where
    same : (a b : SpecDraft) → ends a ≡ Ok b → a ≡ b
    same a b e = cc

of_draft : (lines : List (List ℕ)) (r : Result SpecDraft (ℕ × Cause)) (s : Spec) → draft_of lines ≡ r → spec_of_draft r ≡ Ok s → fits.IsWellFormed s
of_draft lines (Ok d) s is e = subst fits.IsWellFormed (spec_same d s e) (read_formed lines d is)
  where
    spec_same : (a : SpecDraft) (b : Spec) → spec_of_draft (Ok a) ≡ Ok b → a.spec ≡ b
    spec_same a b e = cc
of_draft lines (Err c) s is e = absurd cc

pub spec_formed : (lines : List (List ℕ)) (s : Spec) → spec_of lines ≡ Ok s → fits.IsWellFormed s
spec_formed lines s e = of_draft lines (draft_of lines) s refl e
