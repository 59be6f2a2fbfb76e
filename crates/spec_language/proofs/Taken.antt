-- What holds where a line is taken.
use Rattle.std.proofs.Common.{◌≡◌, ℕ, ◌+◌, Bool, true, not, ◌&&◌, eqb, List, [], length, map}
use Rattle.std.specs.Prelude.{Result, Ok, Option, nat_le, nat_lt, count_by, pos}
use Rattle.std.specs.List.{list_all}
use Rattle.spec_model.specs.declared.spec.Rule.{Rule}
use Rattle.spec_model.specs.declared.clause.Var.{Var}
use Rattle.spec_model.specs.declared.operation.Op.{Op}
use Rattle.spec_model.specs.declared.spec.Num.{Num}
use Rattle.spec_model.specs.declared.spec.Pred.{Pred}
use Rattle.spec_lines.specs.declared.item.NamedVar.{NamedVar}
use Rattle.spec_lines.specs.declared.item.NamedParam.{NamedParam}
use Rattle.spec_lines.specs.declared.item.NamedTerm.{NamedTerm}
use Rattle.spec_lines.specs.declared.line.NamedLiteral.{NamedLiteral}
use Rattle.line_text.specs.declared.cause.Cause.{Cause}
use Rattle.line_text.proofs.Guards.{guard_ok, bind_ok, ok_same}
use Rattle.spec_language.specs.declared.draft.SpecDraft.{SpecDraft}
use Rattle.spec_language.specs.Names.{is_taken, are_free}
use Rattle.spec_language.specs.AtStart.{tuple_count, clause_starts, at_least, at_most}
use Rattle.spec_language.specs.Draft as drafts

pub record SortTaken (d e : SpecDraft) (name : List ℕ) (size : ℕ) : Type 0 where
  pub low : nat_le d.rank 1 ≡ true
  pub new : not (is_taken d.spec name) ≡ true
  pub sized : (nat_le 1 size && nat_le size 1024) ≡ true
  pub room : nat_lt (length d.spec.sorts) 16 ≡ true
  pub whole : drafts.add_sort d (record { name = name; size = size }) ≡ e

pub sort_taken : (d e : SpecDraft) (name : List ℕ) (size : ℕ) → drafts.take_sort d name size ≡ Ok e → SortTaken d e name size
unfolding drafts.take_sort
sort_taken d e name size is =
    let a = guard_ok (nat_le d.rank 1) _ _ e is in
    let b = guard_ok (not (is_taken d.spec name)) _ _ e a.1 in
    let c = guard_ok (nat_le 1 size && nat_le size 1024) _ _ e b.1 in
    let f = guard_ok (nat_lt (length d.spec.sorts) 16) _ _ e c.1 in
    record { low = a.0; new = b.0; sized = c.0; room = f.0; whole = ok_same _ e f.1 }

pub record PredTaken (d e : SpecDraft) (name : List ℕ) (sorts : List (List ℕ)) (rule : Rule) (first : Bool) : Type 0 where
  pub low : nat_le d.rank 2 ≡ true
  pub new : not (is_taken d.spec name) ≡ true
  pub known : list_all (drafts.is_sort d.spec.sorts) sorts ≡ true
  pub room : (nat_le (length sorts) 3 && nat_lt (length d.spec.preds) 64) ≡ true
  pub counted : nat_le (d.universe + drafts.count_named d.spec.sorts sorts) 65536 ≡ true
  pub whole : drafts.add_pred d (record { name = name; sorts = map (drafts.sort_place d.spec.sorts) sorts; rule = rule; first = first }) (drafts.count_named d.spec.sorts sorts) ≡ e

pub pred_taken : (d e : SpecDraft) (name : List ℕ) (sorts : List (List ℕ)) (rule : Rule) (first : Bool) → drafts.take_pred d name sorts rule first ≡ Ok e → PredTaken d e name sorts rule first
unfolding drafts.take_pred
pred_taken d e name sorts rule first is =
    let a = guard_ok (nat_le d.rank 2) _ _ e is in
    let b = guard_ok (not (is_taken d.spec name)) _ _ e a.1 in
    let c = guard_ok (list_all (drafts.is_sort d.spec.sorts) sorts) _ _ e b.1 in
    let f = guard_ok (nat_le (length sorts) 3 && nat_lt (length d.spec.preds) 64) _ _ e c.1 in
    let g = guard_ok (nat_le (d.universe + drafts.count_named d.spec.sorts sorts) 65536) _ _ e f.1 in
    record { low = a.0; new = b.0; known = c.0; room = f.0; counted = g.0; whole = ok_same _ e g.1 }

pub record NumTaken (d e : SpecDraft) (name : List ℕ) (sorts : List (List ℕ)) (init : ℕ) (min max : Option ℕ) : Type 0 where
  pub low : nat_le d.rank 3 ≡ true
  pub new : not (is_taken d.spec name) ≡ true
  pub known : list_all (drafts.is_sort d.spec.sorts) sorts ≡ true
  pub valued : (nat_le init 1000000000000 && drafts.is_value min && drafts.is_value max) ≡ true
  pub room : (nat_le (length sorts) 3 && nat_lt (length d.spec.nums) 64) ≡ true
  pub counted : nat_le (d.universe + drafts.count_named d.spec.sorts sorts) 65536 ≡ true
  pub bounded : (at_least init min && at_most init max) ≡ true
  pub whole : drafts.add_num d (record { name = name; sorts = map (drafts.sort_place d.spec.sorts) sorts; init = pos init; min = drafts.bound_of min; max = drafts.bound_of max }) (drafts.count_named d.spec.sorts sorts) ≡ e

pub num_taken : (d e : SpecDraft) (name : List ℕ) (sorts : List (List ℕ)) (init : ℕ) (min max : Option ℕ) → drafts.take_num d name sorts init min max ≡ Ok e → NumTaken d e name sorts init min max
unfolding drafts.take_num
num_taken d e name sorts init min max is =
    let a = guard_ok (nat_le d.rank 3) _ _ e is in
    let b = guard_ok (not (is_taken d.spec name)) _ _ e a.1 in
    let c = guard_ok (list_all (drafts.is_sort d.spec.sorts) sorts) _ _ e b.1 in
    let r = guard_ok (nat_le init 1000000000000 && drafts.is_value min && drafts.is_value max) _ _ e c.1 in
    let f = guard_ok (nat_le (length sorts) 3 && nat_lt (length d.spec.nums) 64) _ _ e r.1 in
    let g = guard_ok (nat_le (d.universe + drafts.count_named d.spec.sorts sorts) 65536) _ _ e f.1 in
    let h = guard_ok (at_least init min && at_most init max) _ _ e g.1 in
    record { low = a.0; new = b.0; known = c.0; valued = r.0; room = f.0; counted = g.0; bounded = h.0; whole = ok_same _ e h.1 }

pub record LiteralsTaken (d e : SpecDraft) (vars : List Var) (premise conclusion : List NamedLiteral) (mask : Bool) : Type 0 where
  pub known : (list_all (drafts.is_literal_known d.spec.preds vars) premise && list_all (drafts.is_literal_known d.spec.preds vars) conclusion) ≡ true
  pub fit : (list_all (drafts.literal_fits d.spec.preds vars) premise && list_all (drafts.literal_fits d.spec.preds vars) conclusion) ≡ true
  pub room : (nat_le (length vars) 4 && nat_le (length premise + length conclusion) 8 && nat_lt (length d.spec.clauses) 64) ≡ true
  pub counted : nat_le (d.instances + tuple_count d.spec.sorts (drafts.var_sorts vars)) 1000000 ≡ true
  pub holds : clause_starts d.spec.sorts d.spec.preds (drafts.clause_of d.spec.preds vars premise conclusion mask) ≡ true
  pub whole : drafts.add_clause d (drafts.clause_of d.spec.preds vars premise conclusion mask) (tuple_count d.spec.sorts (drafts.var_sorts vars)) ≡ e

pub literals_taken : (d e : SpecDraft) (vars : List Var) (premise conclusion : List NamedLiteral) (mask : Bool) → drafts.take_literals d vars premise conclusion mask ≡ Ok e → LiteralsTaken d e vars premise conclusion mask
unfolding drafts.take_literals
literals_taken d e vars premise conclusion mask is =
    let a = guard_ok (list_all (drafts.is_literal_known d.spec.preds vars) premise && list_all (drafts.is_literal_known d.spec.preds vars) conclusion) _ _ e is in
    let b = guard_ok (list_all (drafts.literal_fits d.spec.preds vars) premise && list_all (drafts.literal_fits d.spec.preds vars) conclusion) _ _ e a.1 in
    let c = guard_ok (nat_le (length vars) 4 && nat_le (length premise + length conclusion) 8 && nat_lt (length d.spec.clauses) 64) _ _ e b.1 in
    let f = guard_ok (nat_le (d.instances + tuple_count d.spec.sorts (drafts.var_sorts vars)) 1000000) _ _ e c.1 in
    let g = guard_ok (clause_starts d.spec.sorts d.spec.preds (drafts.clause_of d.spec.preds vars premise conclusion mask)) _ _ e f.1 in
    record { known = a.0; fit = b.0; room = c.0; counted = f.0; holds = g.0; whole = ok_same _ e g.1 }

pub record ClauseTaken (d e : SpecDraft) (vars : List NamedVar) (premise conclusion : List NamedLiteral) (mask : Bool) : Type 0 where
  pub low : nat_le d.rank 4 ≡ true
  pub new : are_free (λ x. x.name) vars ≡ true
  pub known : list_all (drafts.is_var_known d.spec.sorts) vars ≡ true
  pub literals : LiteralsTaken d e (map (drafts.var_of d.spec.sorts) vars) premise conclusion mask

clause_parts : (d e : SpecDraft) (vars : List NamedVar) (premise conclusion : List NamedLiteral) (mask : Bool) (vs : List Var) → drafts.take_vars d vars ≡ Ok vs → drafts.take_literals d vs premise conclusion mask ≡ Ok e → ClauseTaken d e vars premise conclusion mask
unfolding drafts.take_vars
clause_parts d e vars premise conclusion mask vs is more =
    let a = guard_ok (nat_le d.rank 4) _ _ vs is in
    let b = guard_ok (are_free (λ (x : NamedVar). x.name) vars) _ _ vs a.1 in
    let c = guard_ok (list_all (drafts.is_var_known d.spec.sorts) vars) _ _ vs b.1 in
    let same : map (drafts.var_of d.spec.sorts) vars ≡ vs = ok_same _ vs c.1 in
    record { low = a.0; new = b.0; known = c.0; literals = literals_taken d e (map (drafts.var_of d.spec.sorts) vars) premise conclusion mask (rw same more) }

pub clause_taken : (d e : SpecDraft) (vars : List NamedVar) (premise conclusion : List NamedLiteral) (mask : Bool) → drafts.take_clause d vars premise conclusion mask ≡ Ok e → ClauseTaken d e vars premise conclusion mask
unfolding drafts.take_clause
clause_taken d e vars premise conclusion mask is =
    let b = bind_ok (drafts.take_vars d vars) (λ (vs : List Var). drafts.take_literals d vs premise conclusion mask) e is in
    clause_parts d e vars premise conclusion mask b.0 b.1 b.2

pub record OpTaken (d e : SpecDraft) (name : List ℕ) (params : List NamedParam) : Type 0 where
  pub low : nat_le d.rank 5 ≡ true
  pub new : (not (is_taken d.spec name) && are_free (λ x. x.name) params) ≡ true
  pub known : list_all (drafts.is_param_known d.spec.sorts) params ≡ true
  pub one : nat_le (count_by (λ p. p.interval) params) 1 ≡ true
  pub room : (nat_le (length params) 4 && nat_lt (length d.spec.ops) 64) ≡ true
  pub whole : drafts.add_op d (record { name = name; params = map (drafts.param_of d.spec.sorts) params; lines = [] }) ≡ e

pub op_taken : (d e : SpecDraft) (name : List ℕ) (params : List NamedParam) → drafts.take_op d name params ≡ Ok e → OpTaken d e name params
unfolding drafts.take_op
op_taken d e name params is =
    let a = guard_ok (nat_le d.rank 5) _ _ e is in
    let b = guard_ok (not (is_taken d.spec name) && are_free (λ (x : NamedParam). x.name) params) _ _ e a.1 in
    let c = guard_ok (list_all (drafts.is_param_known d.spec.sorts) params) _ _ e b.1 in
    let w = guard_ok (nat_le (count_by (λ (p : NamedParam). p.interval) params) 1) _ _ e c.1 in
    let f = guard_ok (nat_le (length params) 4 && nat_lt (length d.spec.ops) 64) _ _ e w.1 in
    record { low = a.0; new = b.0; known = c.0; one = w.0; room = f.0; whole = ok_same _ e f.1 }

pub record Touched (preds : List Pred) (truth : Bool) (pred : List ℕ) (terms : List NamedTerm) (o p : Op) : Type 0 where
  pub known : (drafts.is_pred preds pred && list_all (drafts.is_term_known o.params) terms) ≡ true
  pub fit : (drafts.fit_all (drafts.term_fits o.params) terms (drafts.sorts_of_pred preds (drafts.pred_place preds pred)) && nat_le (count_by (drafts.takes_interval o.params) terms) 1) ≡ true
  pub room : nat_lt (length o.lines) 16 ≡ true
  pub whole : drafts.with_line o (drafts.touch_line truth (drafts.pred_place preds pred) (map (drafts.term_of o.params) terms)) ≡ p

pub touched : (preds : List Pred) (truth : Bool) (pred : List ℕ) (terms : List NamedTerm) (o p : Op) → drafts.op_touch preds truth pred terms o ≡ Ok p → Touched preds truth pred terms o p
unfolding drafts.op_touch
touched preds truth pred terms o p is =
    let a = guard_ok (drafts.is_pred preds pred && list_all (drafts.is_term_known o.params) terms) _ _ p is in
    let b = guard_ok (drafts.fit_all (drafts.term_fits o.params) terms (drafts.sorts_of_pred preds (drafts.pred_place preds pred)) && nat_le (count_by (drafts.takes_interval o.params) terms) 1) _ _ p a.1 in
    let c = guard_ok (nat_lt (length o.lines) 16) _ _ p b.1 in
    record { known = a.0; fit = b.0; room = c.0; whole = ok_same _ p c.1 }

pub record Changed (nums : List Num) (raises : Bool) (amount : ℕ) (num : List ℕ) (names : List (List ℕ)) (o p : Op) : Type 0 where
  pub known : (drafts.is_num nums num && list_all (drafts.is_var o.params) names) ≡ true
  pub fit : (nat_le (length names) 3 && drafts.fit_all (drafts.is_plain o.params) names (drafts.sorts_of_num nums (drafts.num_place nums num))) ≡ true
  pub ranged : (nat_le 1 amount && nat_le amount 1000000000) ≡ true
  pub room : nat_lt (length o.lines) 16 ≡ true
  pub whole : drafts.with_line o (drafts.change_line raises (drafts.num_place nums num) (map (drafts.var_place o.params) names) amount) ≡ p

pub changed : (nums : List Num) (raises : Bool) (amount : ℕ) (num : List ℕ) (names : List (List ℕ)) (o p : Op) → drafts.op_change nums raises amount num names o ≡ Ok p → Changed nums raises amount num names o p
unfolding drafts.op_change
changed nums raises amount num names o p is =
    let a = guard_ok (drafts.is_num nums num && list_all (drafts.is_var o.params) names) _ _ p is in
    let b = guard_ok (nat_le (length names) 3 && drafts.fit_all (drafts.is_plain o.params) names (drafts.sorts_of_num nums (drafts.num_place nums num))) _ _ p a.1 in
    let r = guard_ok (nat_le 1 amount && nat_le amount 1000000000) _ _ p b.1 in
    let c = guard_ok (nat_lt (length o.lines) 16) _ _ p r.1 in
    record { known = a.0; fit = b.0; ranged = r.0; room = c.0; whole = ok_same _ p c.1 }

-- an effect line was taken: the last operation became another
pub record EffectTaken (d e : SpecDraft) (f : Op → Result Op Cause) : Type 0 where
  pub at : eqb d.rank 5 ≡ true
  pub ops : List Op
  pub last : drafts.change_last f d.spec.ops ≡ Ok ops
  pub whole : drafts.with_ops d ops ≡ e

pub touch_taken : (d e : SpecDraft) (truth : Bool) (pred : List ℕ) (terms : List NamedTerm) → drafts.take_touch d truth pred terms ≡ Ok e → EffectTaken d e (drafts.op_touch d.spec.preds truth pred terms)
unfolding drafts.take_touch
touch_taken d e truth pred terms is =
    let a = guard_ok (eqb d.rank 5) _ _ e is in
    let b = bind_ok (drafts.change_last (drafts.op_touch d.spec.preds truth pred terms) d.spec.ops) _ e a.1 in
    record { at = a.0; ops = b.0; last = b.1; whole = ok_same _ e b.2 }

pub change_taken : (d e : SpecDraft) (raises : Bool) (amount : ℕ) (num : List ℕ) (names : List (List ℕ)) → drafts.take_change d raises amount num names ≡ Ok e → EffectTaken d e (drafts.op_change d.spec.nums raises amount num names)
unfolding drafts.take_change
change_taken d e raises amount num names is =
    let a = guard_ok (eqb d.rank 5) _ _ e is in
    let b = bind_ok (drafts.change_last (drafts.op_change d.spec.nums raises amount num names) d.spec.ops) _ e a.1 in
    record { at = a.0; ops = b.0; last = b.1; whole = ok_same _ e b.2 }

pub record FreeTaken (d e : SpecDraft) (first second : List ℕ) : Type 0 where
  pub low : nat_le d.rank 6 ≡ true
  pub known : (drafts.is_op d.spec.ops first && drafts.is_op d.spec.ops second) ≡ true
  pub whole : drafts.add_free d (record { a = drafts.op_place d.spec.ops first; b = drafts.op_place d.spec.ops second }) ≡ e

pub free_taken : (d e : SpecDraft) (first second : List ℕ) → drafts.take_free d first second ≡ Ok e → FreeTaken d e first second
unfolding drafts.take_free
free_taken d e first second is =
    let a = guard_ok (nat_le d.rank 6) _ _ e is in
    let b = guard_ok (drafts.is_op d.spec.ops first && drafts.is_op d.spec.ops second) _ _ e a.1 in
    record { low = a.0; known = b.0; whole = ok_same _ e b.1 }
