-- Each line that is taken keeps the limits.
use Rattle.std.proofs.Common.{◌≡◌, ℕ, suc, ◌+◌, ◌<◌, ◌≤◌, Bool, List, [], ◌∷◌, ◌++◌, length, map, refl, sym, ap, subst, arith, length-append}
use Rattle.std.specs.Prelude.{Result, Ok, Option, Some, None, nat_le, nat_lt}
use Rattle.std.specs.List.{AllByRecursion}
use Rattle.std.proofs.lemmas.Bool.{leb-true, ltb-true}
use Rattle.std.proofs.lemmas.List.{length-map}
use Rattle.spec_model.specs.declared.spec.Sort.{Sort}
use Rattle.spec_model.specs.declared.spec.Pred.{Pred}
use Rattle.spec_model.specs.declared.spec.Num.{Num}
use Rattle.spec_model.specs.declared.clause.Var.{Var}
use Rattle.spec_model.specs.declared.operation.Op.{Op}
use Rattle.spec_lines.specs.declared.item.NamedParam.{NamedParam}
use Rattle.spec_lines.specs.declared.line.SpecLine.{SpecLine}
use Rattle.spec_lines.specs.declared.line.SpecLine.TheVariants as lines
use Rattle.line_text.specs.declared.token.Token.{Token}
use Rattle.line_text.specs.declared.token.Token.TheVariants.{Word, Number, Mark, Arrow}
use Rattle.line_text.specs.declared.cause.Cause.{Cause}
use Rattle.line_text.specs.Texts.{line_tokens}
use Rattle.line_text.proofs.Guards.{and_true, bind_ok, ok_same}
use Rattle.spec_lines.specs.Forms.{spec_line}
use Rattle.spec_language.specs.declared.draft.SpecDraft.{SpecDraft}
use Rattle.spec_language.specs.Draft as drafts
use Rattle.spec_language.specs.Bounds.{Bounds}
use Rattle.spec_language.specs.Reading.{accept, taken, step_or_unknown}
use Rattle.spec_language.proofs.Taken as takens

pub all_one : {A : Type 0} → (P : A → Type 0) (xs : List A) (x : A) → AllByRecursion P xs → P x → AllByRecursion P (xs ++ x ∷ [])
all_one P [] x all h = (h, tt)
all_one P (y ∷ xs) x all h = (all.0, all_one P xs x all.1 h)

sort_keeps : (d e : SpecDraft) (name : List ℕ) (size : ℕ) → Bounds d → takens.SortTaken d e name size → Bounds e
sort_keeps d e name size h t =
    let small = and_true (nat_le 1 size) (nat_le size 1024) t.sized in
    let room : length d.spec.sorts < 16 = ltb-true (length d.spec.sorts) 16 t.room in
    subst Bounds t.whole (record { sorts = omega (arith, length-append {A = Sort}); sizes = all_one _ d.spec.sorts _ h.sizes (leb-true size 1024 small.1); preds = h.preds; nums = h.nums; ops = h.ops; params = h.params; universe = h.universe; instances = h.instances })

pred_keeps : (d e : SpecDraft) (name : List ℕ) (sorts : List (List ℕ)) (rule : _) (first : Bool) → Bounds d → takens.PredTaken d e name sorts rule first → Bounds e
pred_keeps d e name sorts rule first h t =
    let room : length d.spec.preds < 64 = ltb-true (length d.spec.preds) 64 (and_true (nat_le (length sorts) 3) _ t.room).1 in
    let counted = leb-true (d.universe + drafts.count_named d.spec.sorts sorts) 65536 t.counted in
    subst Bounds t.whole (record { sorts = h.sorts; sizes = h.sizes; preds = omega (arith, length-append {A = Pred}); nums = h.nums; ops = h.ops; params = h.params; universe = counted; instances = h.instances })

num_keeps : (d e : SpecDraft) (name : List ℕ) (sorts : List (List ℕ)) (init : ℕ) (min max : Option ℕ) → Bounds d → takens.NumTaken d e name sorts init min max → Bounds e
num_keeps d e name sorts init min max h t =
    let room : length d.spec.nums < 64 = ltb-true (length d.spec.nums) 64 (and_true (nat_le (length sorts) 3) _ t.room).1 in
    let counted = leb-true (d.universe + drafts.count_named d.spec.sorts sorts) 65536 t.counted in
    subst Bounds t.whole (record { sorts = h.sorts; sizes = h.sizes; preds = h.preds; nums = omega (arith, length-append {A = Num}); ops = h.ops; params = h.params; universe = counted; instances = h.instances })

clause_keeps : (d e : SpecDraft) (vars : List Var) (premise conclusion : _) (mask : Bool) → Bounds d → takens.LiteralsTaken d e vars premise conclusion mask → Bounds e
clause_keeps d e vars premise conclusion mask h t =
    let counted = leb-true _ 1000000 t.counted in
    subst Bounds t.whole (record { sorts = h.sorts; sizes = h.sizes; preds = h.preds; nums = h.nums; ops = h.ops; params = h.params; universe = h.universe; instances = counted })

few_params : (sorts : List Sort) (params : List NamedParam) → length params ≤ 4 → length (map (drafts.param_of sorts) params) ≤ 4
few_params sorts params few = rw (length-map params (drafts.param_of sorts)) few

op_keeps : (d e : SpecDraft) (name : List ℕ) (params : List NamedParam) → Bounds d → takens.OpTaken d e name params → Bounds e
op_keeps d e name params h t =
    let few = and_true (nat_le (length params) 4) (nat_lt (length d.spec.ops) 64) t.room in
    let room : length d.spec.ops < 64 = ltb-true (length d.spec.ops) 64 few.1 in
    subst Bounds t.whole (record { sorts = h.sorts; sizes = h.sizes; preds = h.preds; nums = h.nums; ops = omega (arith, length-append {A = Op}); params = all_one _ d.spec.ops _ h.params (few_params d.spec.sorts params (leb-true (length params) 4 few.0)); universe = h.universe; instances = h.instances })

abbrev pub FewParams : Op → Type 0
FewParams op = length op.params ≤ 4

pub last_keeps : (f : Op → Result Op Cause) (P : Op → Type 0) → ((o p : Op) → f o ≡ Ok p → P o → P p) → (ops new : List Op) → drafts.change_last f ops ≡ Ok new → AllByRecursion P ops → AllByRecursion P new × (length new ≡ length ops)
last_keeps f P keeps [] new is all = absurd cc
last_keeps f P keeps (op ∷ []) new is all =
    let h = bind_ok (f op) (λ (o : Op). Ok (o ∷ [])) new is in
    let same : h.0 ∷ [] ≡ new = ok_same _ new h.2 in
    subst (λ (os : List Op). AllByRecursion P os × (length os ≡ 1)) same ((keeps op h.0 h.1 all.0, tt), refl)
last_keeps f P keeps (op ∷ p ∷ ops) new is all =
    let h = bind_ok (drafts.change_last f (p ∷ ops)) (λ (os : List Op). Ok (op ∷ os)) new is in
    let rest = last_keeps f P keeps (p ∷ ops) h.0 h.1 all.1 in
    let same : op ∷ h.0 ≡ new = ok_same _ new h.2 in
    subst (λ (os : List Op). AllByRecursion P os × (length os ≡ suc (suc (length ops)))) same ((all.0, rest.0), ap suc rest.1)

effect_keeps : (d e : SpecDraft) (f : Op → Result Op Cause) → ((o p : Op) → f o ≡ Ok p → p.params ≡ o.params) → Bounds d → takens.EffectTaken d e f → Bounds e
effect_keeps d e f same h t =
    let more = last_keeps f FewParams (λ o p is few. subst (λ (vs : List Var). length vs ≤ 4) (sym (same o p is)) few) d.spec.ops t.ops t.last h.params in
    subst Bounds t.whole (record { sorts = h.sorts; sizes = h.sizes; preds = h.preds; nums = h.nums; ops = rw more.1 h.ops; params = more.0; universe = h.universe; instances = h.instances })

free_keeps : (d e : SpecDraft) (first second : List ℕ) → Bounds d → takens.FreeTaken d e first second → Bounds e
free_keeps d e first second h t =
    subst Bounds t.whole (record { sorts = h.sorts; sizes = h.sizes; preds = h.preds; nums = h.nums; ops = h.ops; params = h.params; universe = h.universe; instances = h.instances })

pub step_keeps : (d e : SpecDraft) (line : SpecLine) → Bounds d → drafts.step d line ≡ Ok e → Bounds e
unfolding drafts.step
step_keeps d e (lines.Sort name size) h is = sort_keeps d e name size h (takens.sort_taken d e name size is)
step_keeps d e (lines.Pred name sorts rule first) h is = pred_keeps d e name sorts rule first h (takens.pred_taken d e name sorts rule first is)
step_keeps d e (lines.Num name sorts init min max) h is = num_keeps d e name sorts init min max h (takens.num_taken d e name sorts init min max is)
step_keeps d e (lines.Clause vars premise conclusion mask) h is = clause_keeps d e _ premise conclusion mask h (takens.clause_taken d e vars premise conclusion mask is).literals
step_keeps d e (lines.Op name params) h is = op_keeps d e name params h (takens.op_taken d e name params is)
step_keeps d e (lines.Touch truth pred terms) h is = effect_keeps d e (drafts.op_touch d.spec.preds truth pred terms) (λ o p q. sym (ap (λ (x : Op). x.params) (takens.touched d.spec.preds truth pred terms o p q).whole)) h (takens.touch_taken d e truth pred terms is)
step_keeps d e (lines.Change raises amount num names) h is = effect_keeps d e (drafts.op_change d.spec.nums raises amount num names) (λ o p q. sym (ap (λ (x : Op). x.params) (takens.changed d.spec.nums raises amount num names o p q).whole)) h (takens.change_taken d e raises amount num names is)
step_keeps d e (lines.Free first second) h is = free_keeps d e first second h (takens.free_taken d e first second is)

-- what each step keeps, where this is known of the line's tokens
abbrev pub KeepsWith : (List Token → Type 0) → (SpecDraft → Type 0) → Type 0
KeepsWith Q P = (d e : SpecDraft) (w : List ℕ) (ts : List Token) (line : SpecLine) → Q (Word w ∷ ts) → spec_line w ts ≡ Ok (Some line) → P d → drafts.step d line ≡ Ok e → P e

found_keeps : (Q : List Token → Type 0) (P : SpecDraft → Type 0) → KeepsWith Q P → (d e : SpecDraft) (w : List ℕ) (ts : List Token) (found : Option SpecLine) → Q (Word w ∷ ts) → spec_line w ts ≡ Ok found → P d → step_or_unknown d found ≡ Ok e → P e
found_keeps Q P keeps d e w ts None q from h is = absurd cc
found_keeps Q P keeps d e w ts (Some line) q from h is = keeps d e w ts line q from h is

taken_keeps : (Q : List Token → Type 0) (P : SpecDraft → Type 0) → KeepsWith Q P → (d e : SpecDraft) (ts : List Token) → Q ts → P d → taken d ts ≡ Ok e → P e
unfolding taken
taken_keeps Q P keeps d e [] q h is = subst P (ok_same d e is) h
taken_keeps Q P keeps d e (Word w ∷ ts) q h is =
    let b = bind_ok (spec_line w ts) (step_or_unknown d) e is in
    found_keeps Q P keeps d e w ts b.0 q b.1 h b.2
taken_keeps Q P keeps d e (Number n ∷ ts) q h is = absurd cc
taken_keeps Q P keeps d e (Mark b ∷ ts) q h is = absurd cc
taken_keeps Q P keeps d e (Arrow ∷ ts) q h is = absurd cc

-- what is kept by each step is kept by each line
pub line_keeps_with : (Q : List Token → Type 0) (P : SpecDraft → Type 0) → KeepsWith Q P → (d e : SpecDraft) (line : List ℕ) → ((ts : List Token) → line_tokens line ≡ Ok ts → Q ts) → P d → accept d line ≡ Ok e → P e
unfolding accept
line_keeps_with Q P keeps d e line known h is =
    let b = bind_ok (line_tokens line) (taken d) e is in
    taken_keeps Q P keeps d e b.0 (known b.0 b.1) h b.2

abbrev Anything : List Token → Type 0
Anything ts = Unit {0}

-- the same where nothing is known of the line
pub line_keeps : (P : SpecDraft → Type 0) → ((d e : SpecDraft) (line : SpecLine) → P d → drafts.step d line ≡ Ok e → P e) → (d e : SpecDraft) (line : List ℕ) → P d → accept d line ≡ Ok e → P e
line_keeps P keeps d e line h is = line_keeps_with Anything P (λ d e w ts line q from h is. keeps d e line h is) d e line (λ ts read. tt) h is

pub accept_keeps : (d e : SpecDraft) (line : List ℕ) → Bounds d → accept d line ≡ Ok e → Bounds e
accept_keeps d e line h is = line_keeps Bounds step_keeps d e line h is

pub fresh_bounds : Bounds drafts.fresh
fresh_bounds = record { sorts = omega arith; sizes = tt; preds = omega arith; nums = omega arith; ops = omega arith; params = tt; universe = omega arith; instances = omega arith }
