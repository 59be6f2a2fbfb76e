-- What one line does to the counts.
use Rattle.std.proofs.Common.{◌≡◌, ℕ, ◌+◌, Bool, true, false, cond, refl, sym, ap, ◌∙◌, subst, arith, List, eqb-true}
use Rattle.std.specs.Prelude.{is_some}
use Rattle.std.proofs.Math.Path.{fun_ext}
use Rattle.std.proofs.lemmas.Bool.{and_parts}
use Rattle.spec_model.specs.declared.plan.Setup.{Setup}
use Rattle.spec_model.specs.declared.spec.Spec.{Spec}
use Rattle.spec_model.specs.declared.instance.Inst.{Inst}
use Rattle.spec_model.specs.declared.instance.Cell.{Cell}
use Rattle.spec_model.specs.declared.operation.Line.TheVariants as line
use Rattle.spec_model.specs.declared.right.Right.{Right}
use Rattle.spec_model.specs.declared.right.Right.TheVariants as right
use Rattle.spec_model.specs.Universe.{lower_bound, upper_bound}
use Rattle.spec_model.specs.Changes.{same_cell, cell_named}
use Rattle.rights_table.specs.declared.table.Table.{Table}
use Rattle.rights_table.specs.Bounded.{has_lower, has_upper}
use Rattle.rights_table.specs.Cells.{line_gains, line_loses, of_right, MovesBy}

nothing : (b : Bool) → ◌≡◌ {A = ℕ} (cond b 0 0) 0
nothing true = refl
nothing false = refl

-- a test behind another that passes with it
behind : (bounded same : Bool) (n : ℕ) → (same ≡ true → bounded ≡ true) → cond same n 0 ≡ cond bounded (cond same n 0) 0
behind true same n h = refl
behind false true n h = absurd (let no : false ≡ true = h refl in cc)
behind false false n h = refl

never : (bounded same : Bool) (n : ℕ) → (same ≡ true → bounded ≡ false) → cond bounded (cond same n 0) 0 ≡ 0
never false same n h = refl
never true false n h = refl
never true true n h = absurd (let no : true ≡ false = h refl in cc)

-- cells that are tested as the same are of one number
same_number : (c d : Cell) → same_cell c d ≡ true → c.num ≡ d.num
same_number c d h = eqb-true c.num d.num (and_parts _ _ h).0

lower_like : (spec : Spec) (c d : Cell) (b : Bool) → has_lower spec c.num ≡ b → same_cell c d ≡ true → is_some (lower_bound spec d) ≡ b
lower_like spec c d b h same = ap (has_lower spec) (sym (same_number c d same)) ∙ h

upper_like : (spec : Spec) (c d : Cell) (b : Bool) → has_upper spec c.num ≡ b → same_cell c d ≡ true → is_some (upper_bound spec d) ≡ b
upper_like spec c d b h same = ap (has_upper spec) (sym (same_number c d same)) ∙ h

module _ (spec : Spec) (inst : Inst) (num : ℕ) (params : List ℕ) (n : ℕ) where
  abbrev pub cell : Cell
  cell = cell_named inst num params

  -- an addition creates rights to lower
  pub adds_gain : has_lower spec num ≡ true → (q : Right) → of_right (right.Low cell) n q ≡ line_gains spec inst q (line.Add num params n)
  adds_gain h (right.Low d) = behind (is_some (lower_bound spec d)) (same_cell cell d) n (lower_like spec cell d true h)
  adds_gain h (right.High d) = sym (nothing (is_some (upper_bound spec d)))
  adds_gain h (right.Lock l key) = refl
  adds_gain h (right.Entry c args i) = refl
  adds_gain h (right.Part p key) = refl

  pub adds_gain_none : has_lower spec num ≡ false → (q : Right) → line_gains spec inst q (line.Add num params n) ≡ 0
  adds_gain_none h (right.Low d) = never (is_some (lower_bound spec d)) (same_cell cell d) n (lower_like spec cell d false h)
  adds_gain_none h (right.High d) = nothing (is_some (upper_bound spec d))
  adds_gain_none h (right.Lock l key) = refl
  adds_gain_none h (right.Entry c args i) = refl
  adds_gain_none h (right.Part p key) = refl

  -- a subtraction creates rights to raise
  pub subs_gain : has_upper spec num ≡ true → (q : Right) → of_right (right.High cell) n q ≡ line_gains spec inst q (line.Sub num params n)
  subs_gain h (right.High d) = behind (is_some (upper_bound spec d)) (same_cell cell d) n (upper_like spec cell d true h)
  subs_gain h (right.Low d) = sym (nothing (is_some (lower_bound spec d)))
  subs_gain h (right.Lock l key) = refl
  subs_gain h (right.Entry c args i) = refl
  subs_gain h (right.Part p key) = refl

  pub subs_gain_none : has_upper spec num ≡ false → (q : Right) → line_gains spec inst q (line.Sub num params n) ≡ 0
  subs_gain_none h (right.High d) = never (is_some (upper_bound spec d)) (same_cell cell d) n (upper_like spec cell d false h)
  subs_gain_none h (right.Low d) = nothing (is_some (lower_bound spec d))
  subs_gain_none h (right.Lock l key) = refl
  subs_gain_none h (right.Entry c args i) = refl
  subs_gain_none h (right.Part p key) = refl

  -- an addition spends rights to raise
  pub adds_lose : has_upper spec num ≡ true → (q : Right) → of_right (right.High cell) n q ≡ line_loses spec inst q (line.Add num params n)
  adds_lose h (right.High d) = behind (is_some (upper_bound spec d)) (same_cell cell d) n (upper_like spec cell d true h)
  adds_lose h (right.Low d) = sym (nothing (is_some (lower_bound spec d)))
  adds_lose h (right.Lock l key) = refl
  adds_lose h (right.Entry c args i) = refl
  adds_lose h (right.Part p key) = refl

  pub adds_lose_none : has_upper spec num ≡ false → (q : Right) → line_loses spec inst q (line.Add num params n) ≡ 0
  adds_lose_none h (right.High d) = never (is_some (upper_bound spec d)) (same_cell cell d) n (upper_like spec cell d false h)
  adds_lose_none h (right.Low d) = nothing (is_some (lower_bound spec d))
  adds_lose_none h (right.Lock l key) = refl
  adds_lose_none h (right.Entry c args i) = refl
  adds_lose_none h (right.Part p key) = refl

  -- a subtraction spends rights to lower
  pub subs_lose : has_lower spec num ≡ true → (q : Right) → of_right (right.Low cell) n q ≡ line_loses spec inst q (line.Sub num params n)
  subs_lose h (right.Low d) = behind (is_some (lower_bound spec d)) (same_cell cell d) n (lower_like spec cell d true h)
  subs_lose h (right.High d) = sym (nothing (is_some (upper_bound spec d)))
  subs_lose h (right.Lock l key) = refl
  subs_lose h (right.Entry c args i) = refl
  subs_lose h (right.Part p key) = refl

  pub subs_lose_none : has_lower spec num ≡ false → (q : Right) → line_loses spec inst q (line.Sub num params n) ≡ 0
  subs_lose_none h (right.Low d) = never (is_some (lower_bound spec d)) (same_cell cell d) n (lower_like spec cell d false h)
  subs_lose_none h (right.High d) = nothing (is_some (upper_bound spec d))
  subs_lose_none h (right.Lock l key) = refl
  subs_lose_none h (right.Entry c args i) = refl
  subs_lose_none h (right.Part p key) = refl

pub moves_like : (setup : Setup) (f g h k : Right → ℕ) (old new : Table) → ((q : Right) → f q ≡ g q) → ((q : Right) → h q ≡ k q) → MovesBy setup f h old new → MovesBy setup g k old new
moves_like setup f g h k old new a b by =
    subst (λ (m : Right → ℕ). MovesBy setup m k old new) (fun_ext a) (subst (λ (m : Right → ℕ). MovesBy setup f m old new) (fun_ext b) by)

pub moves_none : (setup : Setup) (f g : Right → ℕ) (t : Table) → ((q : Right) → f q ≡ 0) → ((q : Right) → g q ≡ 0) → MovesBy setup f g t t
moves_none setup f g t a b = record { me = refl; replicas = refl; counts = λ q. (let x = a q in let y = b q in omega (arith, x, y)); modes = λ q. refl; points = λ q x. refl; kept = λ q has. has }

-- one after another
pub moves_both : (setup : Setup) (f g h k : Right → ℕ) (fh gk : Right → ℕ) (a b c : Table) → MovesBy setup f g a b → MovesBy setup h k b c → ((q : Right) → fh q ≡ f q + h q) → ((q : Right) → gk q ≡ g q + k q) → MovesBy setup fh gk a c
moves_both setup f g h k fh gk a b c one two more less = record {
  me = two.me ∙ one.me;
  replicas = two.replicas ∙ one.replicas;
  counts = λ q. (let x = one.counts q in let y = two.counts q in let m = more q in let l = less q in omega (arith, x, y, m, l));
  modes = λ q. two.modes q ∙ one.modes q;
  points = λ q x. two.points q x ∙ one.points q x;
  kept = λ q has. two.kept q (one.kept q has);
}
