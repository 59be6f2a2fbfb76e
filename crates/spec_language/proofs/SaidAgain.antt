-- Each line that is taken is said at the end, so the lines that say a specification give it again.
use Rattle.std.proofs.Common.{◌≡◌, ℕ, suc, ◌+◌, Bool, true, false, cond, ◌&&◌, ◌||◌, List, [], ◌∷◌, ◌++◌, map, refl, sym, ap, subst, ◌∙◌, arith, append_assoc}
use Rattle.std.specs.Prelude.{Result, Ok, Err, Option, Some, None, pos}
use Rattle.std.specs.Str.{bytes_eq}
use Rattle.std.specs.List.{AllByRecursion, list_all, flat_map}
use Rattle.std.proofs.lemmas.Bool.{leb-true, eqb-true}
use Rattle.std.proofs.lemmas.List.{append-nil}
use Rattle.std.proofs.lemmas.Grind.{common_steps}
use Rattle.std.proofs.lemmas.Slice.Eq.{bytes_eq-Decides}
use Rattle.spec_model.specs.declared.spec.Rule.{Rule}
use Rattle.spec_model.specs.declared.spec.Sort.{Sort}
use Rattle.spec_model.specs.declared.spec.Pred.{Pred}
use Rattle.spec_model.specs.declared.spec.Num.{Num}
use Rattle.spec_model.specs.declared.clause.Var.{Var}
use Rattle.spec_model.specs.declared.clause.Clause.{Clause}
use Rattle.spec_model.specs.declared.operation.Op.{Op}
use Rattle.spec_model.specs.declared.operation.Line.{Line}
use Rattle.spec_lines.specs.declared.item.NamedVar.{NamedVar}
use Rattle.spec_lines.specs.declared.item.NamedParam.{NamedParam}
use Rattle.spec_lines.specs.declared.item.NamedTerm.{NamedTerm}
use Rattle.spec_lines.specs.declared.item.NamedTerm.TheVariants as named_terms
use Rattle.spec_lines.specs.declared.line.NamedLiteral.{NamedLiteral}
use Rattle.spec_lines.specs.declared.line.NamedLiteral.TheVariants as named_literals
use Rattle.spec_lines.specs.declared.line.SpecLine.{SpecLine}
use Rattle.spec_lines.specs.declared.line.SpecLine.TheVariants as lines
use Rattle.line_text.specs.declared.cause.Cause.{Cause}
use Rattle.line_text.specs.Causes.{◌>>=◌}
use Rattle.line_text.specs.declared.token.Token.{Token}
use Rattle.line_text.specs.Bytes.{all_plain}
use Rattle.line_text.specs.Lines.{lines_of}
use Rattle.line_text.specs.Texts.{line_tokens, read_lines}
use Rattle.line_text.proofs.Again.{with_end, lines_again}
use Rattle.line_text.proofs.Guards.{and_true, bind_ok, ok_same}
use Rattle.spec_lines.specs.Texts.{line_text}
use Rattle.spec_lines.proofs.Spoken.{IsSpoken, spoken}
use Rattle.spec_model.specs.declared.spec.Spec.{Spec}
use Rattle.line_text.proofs.Readings.{read_kept}
use Rattle.spec_language.specs.declared.draft.SpecDraft.{SpecDraft}
use Rattle.spec_language.specs.Names.{is_known, place_in}
use Rattle.spec_language.specs.Draft as drafts
use Rattle.spec_language.specs.AtStart.{tuple_count}
use Rattle.spec_language.specs.Saying as sayings
use Rattle.spec_language.specs.Again.{steps}
use Rattle.spec_language.specs.Reading.{accept, taken, ends, draft_of, spec_of, spec_of_draft}
use Rattle.spec_language.proofs.Limits.{KeepsWith, line_keeps_with, all_one}
use Rattle.spec_language.proofs.Formed.{Ranked, Formed, step_formed, fresh_formed}
use Rattle.spec_language.proofs.Taken as takens

-- ---- names come back

same_bytes : (a b : List ℕ) → bytes_eq a b ≡ true → a ≡ b
same_bytes a b e = grind (arith, common_steps, bytes_eq-Decides a b)

name_first : {X : Type 0} → (name : X → List ℕ) (x : X) (xs : List X) (w : List ℕ) (n : ℕ) (t : Bool) → bytes_eq (name x) w ≡ t → (is_known name xs w ≡ true → sayings.name_at name xs n ≡ w) → (t || is_known name xs w) ≡ true → sayings.name_at name (x ∷ xs) (cond t 0 (suc n)) ≡ w
name_first name x xs w n true e later known = same_bytes (name x) w e
name_first name x xs w n false e later known = later known

-- what is found by its name has that name
pub name_back : {X : Type 0} → (name : X → List ℕ) (xs : List X) (w : List ℕ) → is_known name xs w ≡ true → sayings.name_at name xs (place_in name xs w) ≡ w
name_back name [] w known = absurd cc
name_back name (x ∷ xs) w known = name_first name x xs w (place_in name xs w) (bytes_eq (name x) w) refl (name_back name xs w) known

sort_back : (sorts : List Sort) (w : List ℕ) → drafts.is_sort sorts w ≡ true → sayings.sort_name sorts (drafts.sort_place sorts w) ≡ w
unfolding drafts.is_sort drafts.sort_place sayings.sort_name
sort_back sorts w known = name_back (λ (x : Sort). x.name) sorts w known

var_back : (vars : List Var) (w : List ℕ) → drafts.is_var vars w ≡ true → sayings.var_name vars (drafts.var_place vars w) ≡ w
unfolding drafts.is_var drafts.var_place sayings.var_name
var_back vars w known = name_back (λ (x : Var). x.name) vars w known

pred_back : (preds : List Pred) (w : List ℕ) → drafts.is_pred preds w ≡ true → sayings.pred_name preds (drafts.pred_place preds w) ≡ w
unfolding drafts.is_pred drafts.pred_place sayings.pred_name
pred_back preds w known = name_back (λ (x : Pred). x.name) preds w known

num_back : (nums : List Num) (w : List ℕ) → drafts.is_num nums w ≡ true → sayings.num_name nums (drafts.num_place nums w) ≡ w
unfolding drafts.is_num drafts.num_place sayings.num_name
num_back nums w known = name_back (λ (x : Num). x.name) nums w known

op_back : (ops : List Op) (w : List ℕ) → drafts.is_op ops w ≡ true → sayings.op_name ops (drafts.op_place ops w) ≡ w
unfolding drafts.is_op drafts.op_place sayings.op_name
op_back ops w known = name_back (λ (x : Op). x.name) ops w known

-- what one of them gives back, all of them do
all_back : {A B : Type 0} → (test : A → Bool) (there : A → B) (back : B → A) → ((x : A) → test x ≡ true → back (there x) ≡ x) → (xs : List A) → list_all test xs ≡ true → map back (map there xs) ≡ xs
all_back test there back one [] known = refl
all_back {A} test there back one (x ∷ xs) known =
    let h = and_true (test x) (list_all test xs) known in
    let head = one x h.0 in
    let tail = all_back test there back one xs h.1 in
    rw (head, tail) refl

var_said : (sorts : List Sort) (v : NamedVar) → drafts.is_var_known sorts v ≡ true → sayings.say_var sorts (drafts.var_of sorts v) ≡ v
unfolding drafts.is_var_known drafts.var_of sayings.say_var
var_said sorts v known = ap {A = List ℕ} {B = NamedVar} (λ w. record { name = v.name; sort = w }) (sort_back sorts v.sort known)

param_said : (sorts : List Sort) (p : NamedParam) → drafts.is_param_known sorts p ≡ true → sayings.say_param sorts (drafts.param_of sorts p) ≡ p
unfolding drafts.is_param_known drafts.param_of sayings.say_param
param_said sorts p known = ap {A = List ℕ} {B = NamedParam} (λ w. record { name = p.name; sort = w; interval = p.interval }) (sort_back sorts p.sort known)

literal_said : (preds : List Pred) (vars : List Var) (x : NamedLiteral) → drafts.is_literal_known preds vars x ≡ true → sayings.say_literal preds vars (drafts.literal_of preds vars x) ≡ x
unfolding drafts.is_literal_known drafts.literal_of sayings.say_literal
literal_said preds vars (named_literals.Atom pred names) known =
    let h = and_true (drafts.is_pred preds pred) (list_all (drafts.is_var vars) names) known in
    let back = all_back (drafts.is_var vars) (drafts.var_place vars) (sayings.var_name vars) (var_back vars) names h.1 in
    rw (pred_back preds pred h.0, back) refl
literal_said preds vars (named_literals.Equal left right) known =
    let h = and_true (drafts.is_var vars left) (drafts.is_var vars right) known in
    rw (var_back vars left h.0, var_back vars right h.1) refl

term_said : (params : List Var) (t : NamedTerm) → drafts.is_term_known params t ≡ true → sayings.say_term params (drafts.term_of params t) ≡ t
unfolding drafts.is_term_known drafts.term_of sayings.say_term
term_said params (named_terms.Param w) known = ap {A = List ℕ} {B = NamedTerm} (λ v. named_terms.Param v) (var_back params w known)
term_said params named_terms.Every known = refl

value_back : (o : Option ℕ) → sayings.value_of_bound (drafts.bound_of o) ≡ o
value_back None = refl
value_back (Some n) = refl

-- ---- each line is said at the end

pub map_one : {A B : Type 0} → (f : A → B) (xs : List A) (x : A) → map f (xs ++ x ∷ []) ≡ map f xs ++ f x ∷ []
map_one f [] x = refl
map_one {A} {B} f (y ∷ xs) x = ap (λ (zs : List B). f y ∷ zs) (map_one f xs x)

abbrev pub Says : SpecDraft → SpecDraft → SpecLine → Type 0
Says d e line = sayings.spec_lines e.spec ≡ sayings.spec_lines d.spec ++ line ∷ []

sort_added : (d : SpecDraft) (name : List ℕ) (size : ℕ) → d.spec.preds ≡ [] → d.spec.nums ≡ [] → d.spec.clauses ≡ [] → d.spec.ops ≡ [] → d.spec.free ≡ [] → Says d (drafts.add_sort d (record { name = name; size = size })) (lines.Sort name size)
unfolding sayings.spec_lines sayings.say_sort
sort_added d name size p n c o f = rw (p, n, c, o, f) (simp (map_one, append-nil))

sort_says : (d e : SpecDraft) (name : List ℕ) (size : ℕ) → Ranked d → takens.SortTaken d e name size → Says d e (lines.Sort name size)
sort_says d e name size r t =
    let low = leb-true d.rank 1 t.low in
    subst (λ (g : SpecDraft). Says d g (lines.Sort name size)) t.whole (sort_added d name size (r.preds (omega (arith, low))) (r.nums (omega (arith, low))) (r.clauses (omega (arith, low))) (r.ops (omega (arith, low))) (r.free (omega (arith, low))))

pred_added : (d : SpecDraft) (name : List ℕ) (names : List (List ℕ)) (sorts : List ℕ) (rule : Rule) (first : Bool) (count : ℕ) → d.spec.nums ≡ [] → d.spec.clauses ≡ [] → d.spec.ops ≡ [] → d.spec.free ≡ [] → map (sayings.sort_name d.spec.sorts) sorts ≡ names
    → Says d (drafts.add_pred d (record { name = name; sorts = sorts; rule = rule; first = first }) count) (lines.Pred name names rule first)
unfolding sayings.spec_lines sayings.say_pred
pred_added d name names sorts rule first count n c o f back = rw (n, c, o, f, ← back) (simp (map_one, append-nil, append_assoc))

pred_says : (d e : SpecDraft) (name : List ℕ) (names : List (List ℕ)) (rule : Rule) (first : Bool) → Ranked d → takens.PredTaken d e name names rule first → Says d e (lines.Pred name names rule first)
pred_says d e name names rule first r t =
    let low = leb-true d.rank 2 t.low in
    let back = all_back (drafts.is_sort d.spec.sorts) (drafts.sort_place d.spec.sorts) (sayings.sort_name d.spec.sorts) (sort_back d.spec.sorts) names t.known in
    subst (λ (g : SpecDraft). Says d g (lines.Pred name names rule first)) t.whole (pred_added d name names _ rule first (drafts.count_named d.spec.sorts names) (r.nums (omega (arith, low))) (r.clauses (omega (arith, low))) (r.ops (omega (arith, low))) (r.free (omega (arith, low))) back)

num_added : (d : SpecDraft) (name : List ℕ) (names : List (List ℕ)) (sorts : List ℕ) (init : ℕ) (min max : Option ℕ) (count : ℕ) → d.spec.clauses ≡ [] → d.spec.ops ≡ [] → d.spec.free ≡ [] → map (sayings.sort_name d.spec.sorts) sorts ≡ names
    → Says d (drafts.add_num d (record { name = name; sorts = sorts; init = pos init; min = drafts.bound_of min; max = drafts.bound_of max }) count) (lines.Num name names init min max)
unfolding sayings.spec_lines sayings.say_num
num_added d name names sorts init min max count c o f back =
    let low = value_back min in
    let high = value_back max in
    rw (c, o, f, ← back) (simp (map_one, append-nil, append_assoc, low, high))

num_says : (d e : SpecDraft) (name : List ℕ) (names : List (List ℕ)) (init : ℕ) (min max : Option ℕ) → Ranked d → takens.NumTaken d e name names init min max → Says d e (lines.Num name names init min max)
num_says d e name names init min max r t =
    let low = leb-true d.rank 3 t.low in
    let back = all_back (drafts.is_sort d.spec.sorts) (drafts.sort_place d.spec.sorts) (sayings.sort_name d.spec.sorts) (sort_back d.spec.sorts) names t.known in
    subst (λ (g : SpecDraft). Says d g (lines.Num name names init min max)) t.whole (num_added d name names _ init min max (drafts.count_named d.spec.sorts names) (r.clauses (omega (arith, low))) (r.ops (omega (arith, low))) (r.free (omega (arith, low))) back)

clause_added : (d : SpecDraft) (c : Clause) (count : ℕ) (line : SpecLine) → d.spec.ops ≡ [] → d.spec.free ≡ [] → sayings.say_clause d.spec.sorts d.spec.preds c ≡ line → Says d (drafts.add_clause d c count) line
unfolding sayings.spec_lines
clause_added d c count line o f back = rw (o, f, ← back) (simp (map_one, append-nil, append_assoc))

clause_said : (d : SpecDraft) (vars : List NamedVar) (premise conclusion : List NamedLiteral) (mask : Bool) → list_all (drafts.is_var_known d.spec.sorts) vars ≡ true
    → (list_all (drafts.is_literal_known d.spec.preds (map (drafts.var_of d.spec.sorts) vars)) premise && list_all (drafts.is_literal_known d.spec.preds (map (drafts.var_of d.spec.sorts) vars)) conclusion) ≡ true
    → sayings.say_clause d.spec.sorts d.spec.preds (drafts.clause_of d.spec.preds (map (drafts.var_of d.spec.sorts) vars) premise conclusion mask) ≡ lines.Clause vars premise conclusion mask
unfolding sayings.say_clause
clause_said d vars premise conclusion mask declared known =
    let vs = map (drafts.var_of d.spec.sorts) vars in
    let h = and_true (list_all (drafts.is_literal_known d.spec.preds vs) premise) (list_all (drafts.is_literal_known d.spec.preds vs) conclusion) known in
    let a = all_back (drafts.is_var_known d.spec.sorts) (drafts.var_of d.spec.sorts) (sayings.say_var d.spec.sorts) (var_said d.spec.sorts) vars declared in
    let b = all_back (drafts.is_literal_known d.spec.preds vs) (drafts.literal_of d.spec.preds vs) (sayings.say_literal d.spec.preds vs) (literal_said d.spec.preds vs) premise h.0 in
    let c = all_back (drafts.is_literal_known d.spec.preds vs) (drafts.literal_of d.spec.preds vs) (sayings.say_literal d.spec.preds vs) (literal_said d.spec.preds vs) conclusion h.1 in
    rw (a, b, c) refl

clause_says : (d e : SpecDraft) (vars : List NamedVar) (premise conclusion : List NamedLiteral) (mask : Bool) → Ranked d → takens.ClauseTaken d e vars premise conclusion mask → Says d e (lines.Clause vars premise conclusion mask)
clause_says d e vars premise conclusion mask r t =
    let low = leb-true d.rank 4 t.low in
    subst (λ (g : SpecDraft). Says d g (lines.Clause vars premise conclusion mask)) t.literals.whole (clause_added d _ (tuple_count d.spec.sorts (drafts.var_sorts (map (drafts.var_of d.spec.sorts) vars))) _ (r.ops (omega (arith, low))) (r.free (omega (arith, low))) (clause_said d vars premise conclusion mask t.known t.literals.known))

flat_one : {A B : Type 0} → (f : A → List B) (xs : List A) (x : A) → flat_map f (xs ++ x ∷ []) ≡ flat_map f xs ++ f x
flat_one f [] x = append-nil (f x)
flat_one {A} {B} f (y ∷ xs) x = ap (λ (zs : List B). f y ++ zs) (flat_one f xs x) ∙ sym (append_assoc (f y) (flat_map f xs) (f x))

op_added : (d : SpecDraft) (name : List ℕ) (params : List Var) (named : List NamedParam) → d.spec.free ≡ [] → map (sayings.say_param d.spec.sorts) params ≡ named → Says d (drafts.add_op d (record { name = name; params = params; lines = [] })) (lines.Op name named)
unfolding sayings.spec_lines sayings.say_op
op_added d name params named f back = rw (f, ← back) (simp (flat_one, append-nil, append_assoc))

op_says : (d e : SpecDraft) (name : List ℕ) (params : List NamedParam) → Ranked d → takens.OpTaken d e name params → Says d e (lines.Op name params)
op_says d e name params r t =
    let low = leb-true d.rank 5 t.low in
    let back = all_back (drafts.is_param_known d.spec.sorts) (drafts.param_of d.spec.sorts) (sayings.say_param d.spec.sorts) (param_said d.spec.sorts) params t.known in
    subst (λ (g : SpecDraft). Says d g (lines.Op name params)) t.whole (op_added d name _ params (r.free (omega (arith, low))) back)

flat_same : (say : Op → List SpecLine) (op : Op) (os rs : List Op) (line : SpecLine) → op ∷ os ≡ rs → (front : List SpecLine) → flat_map say os ≡ front ++ line ∷ [] → flat_map say rs ≡ (say op ++ front) ++ line ∷ []
flat_same say op os rs line e front h = rw (← e, h) (simp append_assoc)

-- what the last operation says more is said at the end
last_says : (f : Op → Result Op Cause) (say : Op → List SpecLine) (line : SpecLine) → ((o p : Op) → f o ≡ Ok p → say p ≡ say o ++ line ∷ [])
    → (ops new : List Op) → drafts.change_last f ops ≡ Ok new → flat_map say new ≡ flat_map say ops ++ line ∷ []
last_says f say line more [] new e = absurd cc
last_says f say line more (op ∷ []) new e =
    let h = bind_ok (f op) (λ (o : Op). Ok (o ∷ [])) new e in
    let q : h.0 ∷ [] ≡ new = ok_same (h.0 ∷ []) new h.2 in
    subst (λ (rs : List Op). flat_map say rs ≡ flat_map say (op ∷ []) ++ line ∷ []) q (rw (append-nil, append-nil) (more op h.0 h.1))
last_says f say line more (op ∷ p ∷ ops) new e =
    let h = bind_ok (drafts.change_last f (p ∷ ops)) (λ (os : List Op). Ok (op ∷ os)) new e in
    let rest = last_says f say line more (p ∷ ops) h.0 h.1 in
    flat_same say op h.0 new line (ok_same (op ∷ h.0) new h.2) (flat_map say (p ∷ ops)) rest

line_added : (sorts : List Sort) (preds : List Pred) (nums : List Num) (o : Op) (effect : Line) (line : SpecLine) → sayings.say_line preds nums o.params effect ≡ line → sayings.say_op sorts preds nums (drafts.with_line o effect) ≡ sayings.say_op sorts preds nums o ++ line ∷ []
unfolding sayings.say_op
line_added sorts preds nums o effect line back = rw (← back) (simp map_one)

touch_said : (preds : List Pred) (nums : List Num) (params : List Var) (truth : Bool) (pred : List ℕ) (ts : List NamedTerm) → (drafts.is_pred preds pred && list_all (drafts.is_term_known params) ts) ≡ true
    → sayings.say_line preds nums params (drafts.touch_line truth (drafts.pred_place preds pred) (map (drafts.term_of params) ts)) ≡ lines.Touch truth pred ts
unfolding sayings.say_line
touch_said preds nums params true pred ts known =
    let h = and_true (drafts.is_pred preds pred) (list_all (drafts.is_term_known params) ts) known in
    let back = all_back (drafts.is_term_known params) (drafts.term_of params) (sayings.say_term params) (term_said params) ts h.1 in
    rw (pred_back preds pred h.0, back) refl
touch_said preds nums params false pred ts known =
    let h = and_true (drafts.is_pred preds pred) (list_all (drafts.is_term_known params) ts) known in
    let back = all_back (drafts.is_term_known params) (drafts.term_of params) (sayings.say_term params) (term_said params) ts h.1 in
    rw (pred_back preds pred h.0, back) refl

change_said : (preds : List Pred) (nums : List Num) (params : List Var) (raises : Bool) (amount : ℕ) (num : List ℕ) (names : List (List ℕ)) → (drafts.is_num nums num && list_all (drafts.is_var params) names) ≡ true
    → sayings.say_line preds nums params (drafts.change_line raises (drafts.num_place nums num) (map (drafts.var_place params) names) amount) ≡ lines.Change raises amount num names
unfolding sayings.say_line
change_said preds nums params true amount num names known =
    let h = and_true (drafts.is_num nums num) (list_all (drafts.is_var params) names) known in
    let back = all_back (drafts.is_var params) (drafts.var_place params) (sayings.var_name params) (var_back params) names h.1 in
    rw (num_back nums num h.0, back) refl
change_said preds nums params false amount num names known =
    let h = and_true (drafts.is_num nums num) (list_all (drafts.is_var params) names) known in
    let back = all_back (drafts.is_var params) (drafts.var_place params) (sayings.var_name params) (var_back params) names h.1 in
    rw (num_back nums num h.0, back) refl

touched_says : (sorts : List Sort) (preds : List Pred) (nums : List Num) (truth : Bool) (pred : List ℕ) (ts : List NamedTerm) (o p : Op) → takens.Touched preds truth pred ts o p → sayings.say_op sorts preds nums p ≡ sayings.say_op sorts preds nums o ++ lines.Touch truth pred ts ∷ []
touched_says sorts preds nums truth pred ts o p t =
    subst (λ (q : Op). sayings.say_op sorts preds nums q ≡ sayings.say_op sorts preds nums o ++ lines.Touch truth pred ts ∷ []) t.whole (line_added sorts preds nums o _ _ (touch_said preds nums o.params truth pred ts t.known))

changed_says : (sorts : List Sort) (preds : List Pred) (nums : List Num) (raises : Bool) (amount : ℕ) (num : List ℕ) (names : List (List ℕ)) (o p : Op) → takens.Changed nums raises amount num names o p → sayings.say_op sorts preds nums p ≡ sayings.say_op sorts preds nums o ++ lines.Change raises amount num names ∷ []
changed_says sorts preds nums raises amount num names o p t =
    subst (λ (q : Op). sayings.say_op sorts preds nums q ≡ sayings.say_op sorts preds nums o ++ lines.Change raises amount num names ∷ []) t.whole (line_added sorts preds nums o _ _ (change_said preds nums o.params raises amount num names t.known))

ops_added : (d : SpecDraft) (ops : List Op) (line : SpecLine) → d.spec.free ≡ [] → flat_map (sayings.say_op d.spec.sorts d.spec.preds d.spec.nums) ops ≡ flat_map (sayings.say_op d.spec.sorts d.spec.preds d.spec.nums) d.spec.ops ++ line ∷ [] → Says d (drafts.with_ops d ops) line
unfolding sayings.spec_lines
ops_added d ops line f more = rw (f, more) (simp (append-nil, append_assoc))

effect_says : (d e : SpecDraft) (g : Op → Result Op Cause) (line : SpecLine) → ((o p : Op) → g o ≡ Ok p → sayings.say_op d.spec.sorts d.spec.preds d.spec.nums p ≡ sayings.say_op d.spec.sorts d.spec.preds d.spec.nums o ++ line ∷ []) → Ranked d → takens.EffectTaken d e g → Says d e line
effect_says d e g line more r t =
    let five : d.rank ≡ 5 = eqb-true d.rank 5 t.at in
    let longer = last_says g (sayings.say_op d.spec.sorts d.spec.preds d.spec.nums) line more d.spec.ops t.ops t.last in
    subst (λ (h : SpecDraft). Says d h line) t.whole (ops_added d t.ops line (r.free (omega (arith, five))) longer)

free_added : (d : SpecDraft) (a b : ℕ) (first second : List ℕ) → sayings.op_name d.spec.ops a ≡ first → sayings.op_name d.spec.ops b ≡ second → Says d (drafts.add_free d (record { a = a; b = b })) (lines.Free first second)
unfolding sayings.spec_lines sayings.say_free
free_added d a b first second x y = rw (← x, ← y) (simp (map_one, append_assoc))

free_says : (d e : SpecDraft) (first second : List ℕ) → takens.FreeTaken d e first second → Says d e (lines.Free first second)
free_says d e first second t =
    let h = and_true (drafts.is_op d.spec.ops first) (drafts.is_op d.spec.ops second) t.known in
    subst (λ (g : SpecDraft). Says d g (lines.Free first second)) t.whole (free_added d _ _ first second (op_back d.spec.ops first h.0) (op_back d.spec.ops second h.1))

step_says : (d e : SpecDraft) (line : SpecLine) → Ranked d → drafts.step d line ≡ Ok e → Says d e line
unfolding drafts.step
step_says d e (lines.Sort name size) r is = sort_says d e name size r (takens.sort_taken d e name size is)
step_says d e (lines.Pred name sorts rule first) r is = pred_says d e name sorts rule first r (takens.pred_taken d e name sorts rule first is)
step_says d e (lines.Num name sorts init min max) r is = num_says d e name sorts init min max r (takens.num_taken d e name sorts init min max is)
step_says d e (lines.Clause vars premise conclusion mask) r is = clause_says d e vars premise conclusion mask r (takens.clause_taken d e vars premise conclusion mask is)
step_says d e (lines.Op name params) r is = op_says d e name params r (takens.op_taken d e name params is)
step_says d e (lines.Touch truth pred ts) r is = effect_says d e (drafts.op_touch d.spec.preds truth pred ts) _ (λ o p q. touched_says d.spec.sorts d.spec.preds d.spec.nums truth pred ts o p (takens.touched d.spec.preds truth pred ts o p q)) r (takens.touch_taken d e truth pred ts is)
step_says d e (lines.Change raises amount num names) r is = effect_says d e (drafts.op_change d.spec.nums raises amount num names) _ (λ o p q. changed_says d.spec.sorts d.spec.preds d.spec.nums raises amount num names o p (takens.changed d.spec.nums raises amount num names o p q)) r (takens.change_taken d e raises amount num names is)
step_says d e (lines.Free first second) r is = free_says d e first second (takens.free_taken d e first second is)

-- ---- the lines that say a specification give it again

then_more : (r : Result SpecDraft Cause) (rs : List SpecLine) (line : SpecLine) → ((e : SpecDraft) → steps e (rs ++ line ∷ []) ≡ (steps e rs >>= λ f. drafts.step f line)) → (r >>= λ e. steps e (rs ++ line ∷ [])) ≡ ((r >>= λ e. steps e rs) >>= λ f. drafts.step f line)
then_more (Ok e) rs line more = more e
then_more (Err c) rs line more = refl

one_step : (r : Result SpecDraft Cause) → (r >>= λ e. steps e []) ≡ r
one_step (Ok e) = refl
one_step (Err c) = refl

steps_one : (rs : List SpecLine) (line : SpecLine) (d : SpecDraft) → steps d (rs ++ line ∷ []) ≡ (steps d rs >>= λ e. drafts.step e line)
steps_one [] line d = one_step (drafts.step d line)
steps_one (r ∷ rs) line d = then_more (drafts.step d r) rs line (steps_one rs line)

again : (d e : SpecDraft) (line : SpecLine) → steps drafts.fresh (sayings.spec_lines d.spec) ≡ Ok d → Says d e line → drafts.step d line ≡ Ok e → steps drafts.fresh (sayings.spec_lines e.spec) ≡ Ok e
again d e line so_far said taken = rw (said, steps_one (sayings.spec_lines d.spec) line drafts.fresh, so_far) taken

pub record Said (d : SpecDraft) : Type 0 where
  pub formed : Formed d
  pub said : steps drafts.fresh (sayings.spec_lines d.spec) ≡ Ok d
  pub spoken : AllByRecursion IsSpoken (sayings.spec_lines d.spec)

pub none_said : steps drafts.fresh (sayings.spec_lines drafts.fresh.spec) ≡ Ok drafts.fresh
unfolding sayings.spec_lines
none_said = refl

none_spoken : AllByRecursion IsSpoken (sayings.spec_lines drafts.fresh.spec)
unfolding sayings.spec_lines
none_spoken = tt

pub fresh_said : Said drafts.fresh
fresh_said = record { formed = fresh_formed; said = none_said; spoken = none_spoken }

pub step_said : (d e : SpecDraft) (line : SpecLine) → IsSpoken line → Said d → drafts.step d line ≡ Ok e → Said e
step_said d e line one s is =
    let says = step_says d e line s.formed.ranks is in
    record {
      formed = step_formed d e line s.formed is;
      said = again d e line s.said says is;
      spoken = subst (AllByRecursion IsSpoken) (sym says) (all_one IsSpoken (sayings.spec_lines d.spec) line s.spoken one);
    }

-- the tokens of a line of text
abbrev pub IsRead : List Token → Type 0
IsRead ts = (text : List ℕ) × (line_tokens text ≡ Ok ts)

said_kept : KeepsWith IsRead Said
said_kept d e w ts line read from s is = step_said d e line (spoken read.0 w ts line read.1 from) s is

pub read_said : (texts : List (List ℕ)) (d : SpecDraft) → draft_of texts ≡ Ok d → Said d
read_said texts d is =
    read_kept Said accept ends (λ a b line h e. line_keeps_with IsRead Said said_kept a b line (λ ts read. (line, read)) h e) (λ a b h e. subst Said (ok_same a b e) h) texts 1 drafts.fresh d fresh_said is

-- ---- their text gives it again

-- a line that was read is taken by its canonical text as by itself
pub spoken_taken : (d : SpecDraft) (line : SpecLine) → IsSpoken line → accept d (line_text line) ≡ drafts.step d line
unfolding accept taken
spoken_taken d line one = rw (one.said.read, one.formed) refl

abbrev whole : SpecDraft → Result SpecDraft (ℕ × Cause)
whole d = Ok d

all_taken : (lines : List SpecLine) (number : ℕ) (d e : SpecDraft) → AllByRecursion IsSpoken lines → steps d lines ≡ Ok e → read_lines accept ends number d (map line_text lines) ≡ Ok e
unfolding read_lines
all_taken [] number d e all is = ap whole (ok_same d e is)
all_taken (line ∷ lines) number d e all is =
    let h = bind_ok (drafts.step d line) (λ (f : SpecDraft). steps f lines) e is in
    let one = spoken_taken d line all.0 in
    rw (one, h.1) (all_taken lines (number + 1) h.0 e all.1 h.2)

-- the texts of its lines are the specification again
pub texts_again : (texts : List (List ℕ)) (d : SpecDraft) → draft_of texts ≡ Ok d → draft_of (map line_text (sayings.spec_lines d.spec)) ≡ Ok d
texts_again texts d is =
    let s = read_said texts d is in
    all_taken (sayings.spec_lines d.spec) 1 drafts.fresh d s.spoken s.said

pub plain_texts : (lines : List SpecLine) → AllByRecursion IsSpoken lines → AllByRecursion (λ text. all_plain text ≡ true) (map line_text lines)
plain_texts [] all = tt
plain_texts (line ∷ lines) all = (all.0.said.plain, plain_texts lines all.1)

-- lines with their ends
pub ended_lines : (lines : List SpecLine) → flat_map sayings.ended_text lines ≡ flat_map with_end (map line_text lines)
unfolding sayings.ended_text
ended_lines [] = refl
ended_lines (line ∷ lines) = ap (λ (bs : List ℕ). with_end (line_text line) ++ bs) (ended_lines lines)

pub flat_both : {A B : Type 0} → (f : A → List B) (xs ys : List A) → flat_map f (xs ++ ys) ≡ flat_map f xs ++ flat_map f ys
flat_both f [] ys = refl
flat_both {A} {B} f (x ∷ xs) ys = ap (λ (zs : List B). f x ++ zs) (flat_both f xs ys) ∙ sym (append_assoc (f x) (flat_map f xs) (flat_map f ys))

ops_lines : (sorts : List Sort) (preds : List Pred) (nums : List Num) (ops : List Op) → sayings.ops_text sorts preds nums ops ≡ flat_map sayings.ended_text (flat_map (sayings.say_op sorts preds nums) ops)
ops_lines sorts preds nums [] = refl
ops_lines sorts preds nums (op ∷ ops) =
    ap (λ (bs : List ℕ). flat_map sayings.ended_text (sayings.say_op sorts preds nums op) ++ bs) (ops_lines sorts preds nums ops) ∙ sym (flat_both sayings.ended_text (sayings.say_op sorts preds nums op) (flat_map (sayings.say_op sorts preds nums) ops))

-- the canonical text is that of its lines
pub text_lines : (s : Spec) → sayings.spec_text s ≡ flat_map sayings.ended_text (sayings.spec_lines s)
unfolding sayings.spec_lines
text_lines s =
    let sorts = map sayings.say_sort s.sorts in
    let preds = map (sayings.say_pred s.sorts) s.preds in
    let nums = map (sayings.say_num s.sorts) s.nums in
    let clauses = map (sayings.say_clause s.sorts s.preds) s.clauses in
    let ops = flat_map (sayings.say_op s.sorts s.preds s.nums) s.ops in
    let free = map (sayings.say_free s.ops) s.free in
    rw (ops_lines s.sorts s.preds s.nums s.ops, flat_both sayings.ended_text sorts (preds ++ (nums ++ (clauses ++ (ops ++ free)))), flat_both sayings.ended_text preds (nums ++ (clauses ++ (ops ++ free))), flat_both sayings.ended_text nums (clauses ++ (ops ++ free)), flat_both sayings.ended_text clauses (ops ++ free), flat_both sayings.ended_text ops free) refl

draft_again : (texts : List (List ℕ)) (d : SpecDraft) → draft_of texts ≡ Ok d → draft_of (lines_of (sayings.spec_text d.spec)) ≡ Ok d
draft_again texts d is =
    let s = read_said texts d is in
    let lines = sayings.spec_lines d.spec in
    ap (λ (bs : List ℕ). draft_of (lines_of bs)) (text_lines d.spec ∙ ended_lines lines) ∙ ap draft_of (lines_again (map line_text lines) (plain_texts lines s.spoken)) ∙ texts_again texts d is

of_draft : (texts : List (List ℕ)) (r : Result SpecDraft (ℕ × Cause)) (s : Spec) → draft_of texts ≡ r → spec_of_draft r ≡ Ok s → spec_of (lines_of (sayings.spec_text s)) ≡ Ok s
of_draft texts (Ok d) s is e = subst (λ (t : Spec). spec_of (lines_of (sayings.spec_text t)) ≡ Ok t) (same d s e) (ap spec_of_draft (draft_again texts d is))
  where
    same : (a : SpecDraft) (b : Spec) → spec_of_draft (Ok a) ≡ Ok b → a.spec ≡ b
    same a b q = cc
of_draft texts (Err c) s is e = absurd cc

-- the canonical text of a specification that was read is that specification
pub spec_again : (texts : List (List ℕ)) (s : Spec) → spec_of texts ≡ Ok s → spec_of (lines_of (sayings.spec_text s)) ≡ Ok s
spec_again texts s is = of_draft texts (draft_of texts) s refl is
