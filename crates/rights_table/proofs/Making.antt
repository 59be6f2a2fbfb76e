-- Room that is made, one right after another.
use Rattle.std.proofs.Common.{◌≡◌, inl, inr, ℕ, zero, suc, ◌+◌, ◌<◌, ◌≤◌, Bool, true, false, List, [], ◌∷◌, map, length, get_or, drop, take, refl, arith, subst, sym, ap, ◌∙◌}
use Rattle.std.specs.Prelude.{◌||◌, ◌&&◌, ◌==◌, Result, Ok, Err, OnOk, IsErr, is_ok, is_some}
use Rattle.ind_base.specs.declared.refusal.NoMemory.{NoMemory}
use Rattle.std.specs.List.{AllByRecursion, list_any}
use Rattle.std.proofs.lemmas.Bool.{and_parts, or_cases, or_left, or_right}
use Rattle.spec_model.specs.declared.plan.Setup.{Setup}
use Rattle.spec_model.specs.declared.right.Right.{Right}
use Rattle.spec_model.specs.declared.log.LogItem.{LogItem}
use Rattle.run_model.specs.Logs.{Logs}
use Rattle.rights_table.specs.declared.table.Table.{Table}
use Rattle.rights_table.specs.Tables.{TellTheSame}
use Rattle.rights_table.specs.Bounded.{has_lower, has_upper}
use Rattle.rights_table.specs.Touched.{MakesRoom, body_touches, cell_touches, item_touches, literal_touches, need_touches, shared_touches}
use Rattle.rights_table.specs.Whole.{HasAll, HasEntriesFor}
use Rattle.rights_table.specs.Cells.{line_moves}
use Rattle.run_model.specs.Levels.{at_literal, choices, choices_of, forbid_at}
use Rattle.run_model.specs.Rights.{same_right}
use Rattle.run_model.proofs.Members.{any_from}
use Rattle.effect_model.proofs.Whole.{got}
use Rattle.run_model.proofs.Escrow.{same_cell_is}
use Rattle.spec_model.specs.Changes.{cell_named, effect_lines, same_cell}
use Rattle.spec_model.specs.Universe.{lower_bound, upper_bound}
use Rattle.spec_model.specs.declared.instance.Cell.{Cell}
use Rattle.spec_model.specs.declared.instance.Inst.{Inst}
use Rattle.spec_model.specs.declared.operation.Line.{Line}
use Rattle.spec_model.specs.declared.operation.Line.TheVariants as lines
use Rattle.spec_model.specs.declared.right.Right.TheVariants as right
use Rattle.spec_model.specs.declared.spec.Spec.{Spec}
use Rattle.spec_model.specs.declared.right.Need.{Need}
use Rattle.spec_model.specs.declared.right.Amount.{Amount}
use Rattle.spec_model.specs.declared.right.Amount.TheVariants as amount
use Rattle.spec_model.specs.declared.log.Body.{Body}
use Rattle.spec_model.specs.declared.log.Body.TheVariants as body
use Rattle.rights_table.proofs.Levels.{any_more}
use Rattle.rights_table.specs.Same.{same_refl}

-- two that tell the same as a third
pub same_both : (setup : Setup) (a b c : Table) → TellTheSame setup a b → TellTheSame setup b c → TellTheSame setup a c
same_both setup a b c one two = record {
  me = two.me ∙ one.me;
  replicas = two.replicas ∙ one.replicas;
  counts = λ r. two.counts r ∙ one.counts r;
  modes = λ r. two.modes r ∙ one.modes r;
  points = λ r x. two.points r x ∙ one.points r x;
}

pub same_self : (setup : Setup) (t : Table) → TellTheSame setup t t
same_self setup t = record { me = refl; replicas = refl; counts = λ r. refl; modes = λ r. refl; points = λ r x. refl }

-- one that tells the same has all as well
pub all_same : (setup : Setup) (logs : Logs) (me : ℕ) (own : List LogItem) (old new : Table) → TellTheSame setup old new → HasAll setup logs me own old → HasAll setup logs me own new
all_same setup logs me own old new same has = record {
  table = record {
    of = record { me = same.me ∙ has.table.of.me; replicas = same.replicas ∙ has.table.of.replicas };
    counts = λ r one. same.counts r ∙ has.table.counts r one;
    modes = λ r one shared. same.modes r ∙ has.table.modes r one shared;
    covered = has.table.covered;
    points = λ r one x. same.points r x ∙ has.table.points r one x;
    points_covered = has.table.points_covered;
  };
  few = has.few;
}

-- what is touched by another name
pub room_like : (setup : Setup) (enough : Bool) (f h : Right → Bool) (a b : Table) → ((r : Right) → h r ≡ f r) → MakesRoom setup enough f a b → MakesRoom setup enough h a b
room_like setup enough f h a b like one = record { same = one.same; kept = one.kept; entered = λ done r it. one.entered done r (sym (like r) ∙ it) }

-- one after another
pub room_both : (setup : Setup) (enough : Bool) (f g h : Right → Bool) (a b c : Table) → MakesRoom setup true f a b → MakesRoom setup enough g b c → (enough ≡ true → (r : Right) → h r ≡ true → (f r || g r) ≡ true) → MakesRoom setup enough h a c
room_both setup enough f g h a b c one two sum = record {
  same = same_both setup a b c one.same two.same;
  kept = λ r has. two.kept r (one.kept r has);
  entered = λ done r it. elim (or_cases (f r) (g r) (sum done r it)) [
    | inl first ↦ two.kept r (one.entered refl r first)
    | inr then ↦ two.entered done r then
  ];
}

-- one that fails, by whatever is handed on of it
pub room_stops : {X E : Type 0} (setup : Setup) (f g h : Right → Bool) (a b c : Table) (handed : Result X E) → IsErr handed → MakesRoom setup true f a b → MakesRoom setup false g b c → MakesRoom setup (is_ok handed) h a c
room_stops setup f g h a b c (Ok x) wrong one two = absurd cc
room_stops setup f g h a b c (Err e) err one two = record {
  same = same_both setup a b c one.same two.same;
  kept = λ r has. two.kept r (one.kept r has);
  entered = λ done. absurd (let no : false ≡ true = done in cc);
}

-- in a list one more
pub room_more : {X : Type 0} (setup : Setup) (P : Right → X → Bool) (xs : List X) (k : ℕ) (x : X) (a b c : Table) → k < length xs → x ≡ get_or xs k x
    → MakesRoom setup true (λ r. list_any (P r) (take k xs)) a b → MakesRoom setup true (λ r. P r x) b c → MakesRoom setup true (λ r. list_any (P r) (take (k + 1) xs)) a c
room_more setup P xs k x a b c lt is one two =
    room_both setup true (λ r. list_any (P r) (take k xs)) (λ r. P r x) (λ r. list_any (P r) (take (k + 1) xs)) a b c one two (λ done r it. sym (any_more (P r) xs k x lt is) ∙ it)

-- and of the whole list
pub room_all : {X : Type 0} (setup : Setup) (P : Right → X → Bool) (xs : List X) (k : ℕ) (a b : Table) → length xs ≤ k → MakesRoom setup true (λ r. list_any (P r) (take k xs)) a b → MakesRoom setup true (λ r. list_any (P r) xs) a b
room_all setup P xs k a b whole one = room_like setup true (λ r. list_any (P r) (take k xs)) (λ r. list_any (P r) xs) a b (λ r. ap (list_any (P r)) (sym (take_whole xs k whole))) one
  where
    take_whole : {X : Type 0} (ys : List X) (n : ℕ) → length ys ≤ n → take n ys ≡ ys
    take_whole [] zero le = refl
    take_whole [] (suc n) le = refl
    take_whole (y ∷ ys) zero le = absurd (omega (arith, le))
    take_whole {X = X} (y ∷ ys) (suc n) le = ap (λ (zs : List X). y ∷ zs) (take_whole ys n (omega (arith, le)))

-- within a list what stands for no element doesn't matter
pub any_default : {X : Type 0} (xs : List X) (k : ℕ) (d e : X) → k < length xs → get_or xs k d ≡ get_or xs k e
any_default [] k d e lt = absurd (omega (arith, lt))
any_default (x ∷ xs) zero d e lt = refl
any_default (x ∷ xs) (suc k) d e lt = any_default xs k d e (omega (arith, lt))

-- a witness touches the entries of its literals
pub forbid_touches : (need : Need) (literals xs : List ℕ) (r : Right) → need.amount ≡ amount.AnyForbid literals → xs ≡ literals → need_touches r need ≡ list_any (literal_touches need.right r) xs
forbid_touches need literals xs r is same = ap (λ (a : Amount). list_any (λ choice. shared_touches choice.right r) (choices_of need.right a)) is ∙ mapped literals ∙ ap (list_any (literal_touches need.right r)) (sym same)
  where
    mapped : (ns : List ℕ) → list_any (λ choice. shared_touches choice.right r) (map (forbid_at need.right) ns) ≡ list_any (literal_touches need.right r) ns
    mapped [] = refl
    mapped (n ∷ ns) = ap (λ b. shared_touches (at_literal need.right n) r || b) (mapped ns)

-- ---- of cells and lines

-- a cell's rights are the one to lower it and the one to raise it
pub cell_parts : (spec : Spec) (cell : Cell) (r : Right) → cell_touches spec cell r ≡ true → ((has_lower spec cell.num && same_right (right.Low cell) r) || (has_upper spec cell.num && same_right (right.High cell) r)) ≡ true
cell_parts spec cell (right.Low c) it =
    let one : cell ≡ c = same_cell_is cell c (and_parts (is_some (lower_bound spec c)) (same_cell cell c) it).1 in
    or_left _ _ (ap (λ (d : Cell). is_some (lower_bound spec d) && same_cell cell c) one ∙ it)
cell_parts spec cell (right.High c) it =
    let one : cell ≡ c = same_cell_is cell c (and_parts (is_some (upper_bound spec c)) (same_cell cell c) it).1 in
    or_right _ _ (ap (λ (d : Cell). is_some (upper_bound spec d) && same_cell cell c) one ∙ it)
cell_parts spec cell (right.Lock lock key) it = absurd cc
cell_parts spec cell (right.Entry clause args literal) it = absurd cc
cell_parts spec cell (right.Part part key) it = absurd cc

-- a line that adds changes the rights of its cell
pub add_touches : (spec : Spec) (inst : Inst) (line : Line) (num : ℕ) (params : List ℕ) (amount : ℕ) (cell : Cell) → line ≡ lines.Add num params amount → cell ≡ cell_named inst num params → (r : Right) → line_moves spec inst r line ≡ cell_touches spec cell r
add_touches spec inst line num params amount cell is named r = ap (line_moves spec inst r) is ∙ by r ∙ ap (λ (d : Cell). cell_touches spec d r) (sym named)
  where
    by : (r : Right) → line_moves spec inst r (lines.Add num params amount) ≡ cell_touches spec (cell_named inst num params) r
    by (right.Low c) = refl
    by (right.High c) = refl
    by (right.Lock lock key) = refl
    by (right.Entry clause args literal) = refl
    by (right.Part part key) = refl

-- and so does one that takes away
pub sub_touches : (spec : Spec) (inst : Inst) (line : Line) (num : ℕ) (params : List ℕ) (amount : ℕ) (cell : Cell) → line ≡ lines.Sub num params amount → cell ≡ cell_named inst num params → (r : Right) → line_moves spec inst r line ≡ cell_touches spec cell r
sub_touches spec inst line num params amount cell is named r = ap (line_moves spec inst r) is ∙ by r ∙ ap (λ (d : Cell). cell_touches spec d r) (sym named)
  where
    by : (r : Right) → line_moves spec inst r (lines.Sub num params amount) ≡ cell_touches spec (cell_named inst num params) r
    by (right.Low c) = refl
    by (right.High c) = refl
    by (right.Lock lock key) = refl
    by (right.Entry clause args literal) = refl
    by (right.Part part key) = refl

-- an act of the own log touches what its lines change
pub act_touches : (spec : Spec) (mine : Bool) (inst : Inst) (b : Body) (lines : List Line) → mine ≡ true → b ≡ body.Act inst → lines ≡ effect_lines spec inst → (r : Right) → body_touches spec mine b r ≡ list_any (line_moves spec inst r) lines
act_touches spec mine inst b lines own is same r =
    ap (λ (x : Body). body_touches spec mine x r) is
    ∙ ap (λ m. m && list_any (line_moves spec inst r) (effect_lines spec inst)) own
    ∙ ap (list_any (line_moves spec inst r)) (sym same)

-- ---- entries for all

-- room for items and then for needs is all the room there has to be
pub all_entered : (setup : Setup) (items : List LogItem) (needs : List Need) (old mid new : Table) → MakesRoom setup true (λ r. list_any (item_touches setup.spec old.me r) items) old mid → MakesRoom setup true (λ r. list_any (need_touches r) needs) mid new → HasEntriesFor setup items needs new
all_entered setup items needs old mid new one two = record {
  outs = λ item to r piece there out. two.kept r (one.entered refl r (any_from (item_touches setup.spec old.me r) items item (got items item there)
      (ap (λ (b : Body). body_touches setup.spec (item.origin == old.me) b r) out ∙ same_refl r)));
  acts = λ item inst there mine act r moves. two.kept r (one.entered refl r (any_from (item_touches setup.spec old.me r) items item (got items item there)
      (ap (λ (b : Body). body_touches setup.spec (item.origin == old.me) b r) act
      ∙ ap (λ b. b && list_any (line_moves setup.spec inst r) (effect_lines setup.spec inst)) (ap (λ n. n == old.me) (mine ∙ two.same.me ∙ one.same.me) ∙ itself old.me) ∙ moves)));
  needed = λ need choice there chosen shared. two.entered refl choice.right (any_from (need_touches choice.right) needs need (got needs need there)
      (any_from (λ c. shared_touches c.right choice.right) (choices need) choice (got (choices need) choice chosen) (ap (λ b. b && same_right choice.right choice.right) shared ∙ same_refl choice.right)));
}
  where
    itself : (n : ℕ) → (n == n) ≡ true
    itself n = search (arith)

-- where there was the memory for all of it
pub ready_all : (setup : Setup) (items : List LogItem) (needs : List Need) (old mid new : Table) (r : Result (Unit {0}) NoMemory) → MakesRoom setup true (λ q. list_any (item_touches setup.spec old.me q) items) old mid
    → MakesRoom setup (is_ok r) (λ q. list_any (need_touches q) needs) mid new → OnOk r (HasEntriesFor setup items needs new)
ready_all setup items needs old mid new (Ok x) one two = all_entered setup items needs old mid new one two
ready_all setup items needs old mid new (Err e) one two = tt

-- what holds of all that are left holds of the first of them
pub first_of : {X : Type 0} (P : X → Type 0) (xs : List X) (k : ℕ) (x : X) → k < length xs → x ≡ get_or xs k x → AllByRecursion P (drop k xs) → P x
first_of P [] k x lt is all = absurd (omega (arith, lt))
first_of P (y ∷ xs) zero x lt is all = subst P (sym is) all.0
first_of P (y ∷ xs) (suc k) x lt is all = first_of P xs k x (omega (arith, lt)) is all
