-- What a table tells of a right without an entry, and what it holds with the first entry.
use Rattle.std.proofs.Common.{◌≡◌, ℕ, ◌+◌, ◌/◌, ◌%◌, Bool, true, false, cond, [], arith, refl, sym, ap, ◌∙◌}
use Rattle.std.specs.Prelude.{Option, None, nat_lt, ◌==◌}
use Rattle.std.proofs.Math.Nat.{zero-div, zero-mod}
use Rattle.std.proofs.lemmas.Bool.{cond-false, le-ltb}
use Rattle.std.specs.Option.{option_map_or}
use Rattle.ind_base.specs.declared.span.Span.{Span}
use Rattle.spec_model.specs.declared.plan.Setup.{Setup}
use Rattle.spec_model.specs.declared.right.Mode.TheVariants as mode
use Rattle.spec_model.specs.declared.right.Right.{Right}
use Rattle.spec_model.specs.declared.right.Right.TheVariants as right
use Rattle.spec_model.specs.declared.right.Held.TheVariants as held
use Rattle.multilevel_locks.specs.declared.shares.Shares.{Shares}
use Rattle.partition_locks.specs.Held.{HeldPoints, held_times, is_roomy, lies_within}
use Rattle.run_model.specs.Points.{first_point, missing_of, points_all, run_of, starts_with}
use Rattle.run_model.specs.Rights.{even_share, first_count, first_total}
use Rattle.rights_table.specs.First.{IsFirst}
use Rattle.rights_table.specs.declared.holding.Holding.{Holding}
use Rattle.rights_table.specs.declared.holding.Holding.TheVariants as holding
use Rattle.rights_table.specs.declared.table.Table.{Table}
use Rattle.rights_table.specs.Holdings.{count_of, mode_of, point_of, told, is_of, is_count}
use Rattle.rights_table.specs.Tables.{entered, count_in, mode_in, point_in, has_point, held_in}
use Rattle.rights_table.proofs.Telling.{points_told}

-- without an entry the share of the start is told
none_count : (setup : Setup) (t : Table) (r : Right) (me : ℕ) → t.me ≡ me → entered t r ≡ None → count_in setup t r ≡ even_share (first_total setup r) setup.replicas me
none_count setup t r me mine none = ap (λ (o : Option Holding). option_map_or count_of o (even_share (first_total setup r) setup.replicas t.me)) none ∙ ap (even_share (first_total setup r) setup.replicas) mine

none_mode : (t : Table) (r : Right) → entered t r ≡ None → mode_in t r ≡ mode.Forbid
none_mode t r none = ap (λ (o : Option Holding). option_map_or mode_of o mode.Forbid) none

none_point : (setup : Setup) (t : Table) (r : Right) (me x : ℕ) → t.me ≡ me → entered t r ≡ None → point_in setup t r x ≡ first_point setup me r x
none_point setup t r me x mine none = ap (λ (o : Option Holding). option_map_or (λ (h : Holding). point_of h x) o (first_point setup t.me r x)) none ∙ ap (λ n. first_point setup n r x) mine

counted_told : (h : Holding) (span : Span) → is_count h ≡ true → told h span ≡ held.Count (count_of h)
counted_told (holding.Count e) span is = refl
counted_told (holding.Shares s) span is = absurd cc
counted_told (holding.Points k) span is = absurd cc

pub low_told : (setup : Setup) (t : Table) (me : ℕ) (r : Right) (c : _) (h : Holding) (span : Span) → r ≡ right.Low c → t.me ≡ me → entered t r ≡ None → is_count h ≡ true → count_of h ≡ even_share (first_count setup.spec (right.Low c)) setup.replicas me
    → told h span ≡ held_in setup t r span
low_told setup t me r c h span is mine none kind count =
    counted_told h span kind ∙ ap (λ n. held.Count n) (count ∙ sym (none_count setup t (right.Low c) me mine (ap (entered t) (sym is) ∙ none))) ∙ ap (λ (q : Right). held_in setup t q span) (sym is)

pub high_told : (setup : Setup) (t : Table) (me : ℕ) (r : Right) (c : _) (h : Holding) (span : Span) → r ≡ right.High c → t.me ≡ me → entered t r ≡ None → is_count h ≡ true → count_of h ≡ even_share (first_count setup.spec (right.High c)) setup.replicas me
    → told h span ≡ held_in setup t r span
high_told setup t me r c h span is mine none kind count =
    counted_told h span kind ∙ ap (λ n. held.Count n) (count ∙ sym (none_count setup t (right.High c) me mine (ap (entered t) (sym is) ∙ none))) ∙ ap (λ (q : Right). held_in setup t q span) (sym is)

-- shares in mode forbid
abbrev pub IsShareOf : ℕ → Holding → Type 0
IsShareOf all h = (s : Shares) × (h ≡ holding.Shares s) × (s.all ≡ all)

shares_told : (h : Holding) (all : ℕ) (span : Span) → IsShareOf all h → told h span ≡ held.Shares (count_of h) (mode_of h)
shares_told h all span is = ap (λ (k : Holding). told k span) is.1 ∙ sym (ap (λ (k : Holding). held.Shares (count_of k) (mode_of k)) is.1)

pub lock_told : (setup : Setup) (t : Table) (me : ℕ) (r : Right) (l : ℕ) (key : _) (h : Holding) (span : Span) → r ≡ right.Lock l key → t.me ≡ me → entered t r ≡ None → IsShareOf setup.replicas h → mode_of h ≡ mode.Forbid → count_of h ≡ even_share setup.replicas setup.replicas me
    → told h span ≡ held_in setup t r span
lock_told setup t me r l key h span is mine none kind moded count =
    let q : Right = right.Lock l key in
    let gone : entered t q ≡ None = ap (entered t) (sym is) ∙ none in
    shares_told h setup.replicas span kind
    ∙ ap (λ n. held.Shares n (mode_of h)) (count ∙ sym (none_count setup t q me mine gone))
    ∙ ap (λ m. held.Shares (count_in setup t q) m) (moded ∙ sym (none_mode t q gone))
    ∙ ap (λ (p : Right). held_in setup t p span) (sym is)

pub entry_told : (setup : Setup) (t : Table) (me : ℕ) (r : Right) (k : ℕ) (args : _) (i : ℕ) (h : Holding) (span : Span) → r ≡ right.Entry k args i → t.me ≡ me → entered t r ≡ None → IsShareOf setup.replicas h → mode_of h ≡ mode.Forbid → count_of h ≡ even_share setup.replicas setup.replicas me
    → told h span ≡ held_in setup t r span
entry_told setup t me r k args i h span is mine none kind moded count =
    let q : Right = right.Entry k args i in
    let gone : entered t q ≡ None = ap (entered t) (sym is) ∙ none in
    shares_told h setup.replicas span kind
    ∙ ap (λ n. held.Shares n (mode_of h)) (count ∙ sym (none_count setup t q me mine gone))
    ∙ ap (λ m. held.Shares (count_in setup t q) m) (moded ∙ sym (none_mode t q gone))
    ∙ ap (λ (p : Right). held_in setup t p span) (sym is)

once : (b : Bool) → nat_lt 0 (cond b 1 0) ≡ b
once true = refl
once false = refl

-- the points of the run at the start
pub part_told : (setup : Setup) (t : Table) (me : ℕ) (r : Right) (p : ℕ) (key : _) (run : Option Span) (span : Span) → r ≡ right.Part p key → t.me ≡ me → entered t r ≡ None
    → ((x : ℕ) → lies_within run x ≡ starts_with (points_all setup p) setup.replicas me x) → held.Points (missing_of (lies_within run) span) (run_of (lies_within run) span) ≡ held_in setup t r span
part_told setup t me r p key run span is mine none same =
    let q : Right = right.Part p key in
    let gone : entered t q ≡ None = ap (entered t) (sym is) ∙ none in
    points_told (lies_within run) (has_point setup t q) span (λ x. same x ∙ sym (ap (nat_lt 0) (none_point setup t q me x mine gone) ∙ once (starts_with (points_all setup p) setup.replicas me x)))
    ∙ ap (λ (k : Right). held_in setup t k span) (sym is)

-- ---- the first entry

counted_first : (h : Holding) (x : ℕ) → is_count h ≡ true → (mode_of h ≡ mode.Forbid) × (point_of h x ≡ 0)
counted_first (holding.Count e) x is = (refl, refl)
counted_first (holding.Shares s) x is = absurd cc
counted_first (holding.Points k) x is = absurd cc

counted_kind : (all : ℕ) (r : Right) (c : _) (h : Holding) → is_count h ≡ true → (is_of all (right.Low c) h ≡ true) × (is_of all (right.High c) h ≡ true)
counted_kind all r c (holding.Count e) is = (refl, refl)
counted_kind all r c (holding.Shares s) is = absurd cc
counted_kind all r c (holding.Points k) is = absurd cc

pub low_first : (setup : Setup) (me : ℕ) (r : Right) (c : _) (h : Holding) → r ≡ right.Low c → is_count h ≡ true → count_of h ≡ even_share (first_count setup.spec (right.Low c)) setup.replicas me → IsFirst setup me r h
low_first setup me r c h is kind count = record {
  count = count ∙ ap (λ (q : Right). even_share (first_total setup q) setup.replicas me) (sym is);
  mode = (counted_first h 0 kind).0;
  points = λ x. (counted_first h x kind).1 ∙ ap (λ (q : Right). first_point setup me q x) (sym is);
  kind = ap (λ (q : Right). is_of setup.replicas q h) is ∙ (counted_kind setup.replicas r c h kind).0;
}

pub high_first : (setup : Setup) (me : ℕ) (r : Right) (c : _) (h : Holding) → r ≡ right.High c → is_count h ≡ true → count_of h ≡ even_share (first_count setup.spec (right.High c)) setup.replicas me → IsFirst setup me r h
high_first setup me r c h is kind count = record {
  count = count ∙ ap (λ (q : Right). even_share (first_total setup q) setup.replicas me) (sym is);
  mode = (counted_first h 0 kind).0;
  points = λ x. (counted_first h x kind).1 ∙ ap (λ (q : Right). first_point setup me q x) (sym is);
  kind = ap (λ (q : Right). is_of setup.replicas q h) is ∙ (counted_kind setup.replicas r c h kind).1;
}

same_number : (n : ℕ) (m : ℕ) → n ≡ m → (n == m) ≡ true
same_number n m e = ap (λ k. k == m) e ∙ itself m
  where
    itself : (k : ℕ) → (k == k) ≡ true
    itself k = search (arith)

pub lock_first : (setup : Setup) (me : ℕ) (r : Right) (l : ℕ) (key : _) (h : Holding) → r ≡ right.Lock l key → IsShareOf setup.replicas h → mode_of h ≡ mode.Forbid → count_of h ≡ even_share setup.replicas setup.replicas me → IsFirst setup me r h
lock_first setup me r l key h is kind moded count = record {
  count = count ∙ ap (λ (q : Right). even_share (first_total setup q) setup.replicas me) (sym is);
  mode = moded;
  points = λ x. ap (λ (k : Holding). point_of k x) kind.1 ∙ ap (λ (q : Right). first_point setup me q x) (sym is);
  kind = ap (λ (q : Right). is_of setup.replicas q h) is ∙ ap (is_of setup.replicas (right.Lock l key)) kind.1 ∙ same_number kind.0.all setup.replicas kind.2;
}

pub entry_first : (setup : Setup) (me : ℕ) (r : Right) (k : ℕ) (args : _) (i : ℕ) (h : Holding) → r ≡ right.Entry k args i → IsShareOf setup.replicas h → mode_of h ≡ mode.Forbid → count_of h ≡ even_share setup.replicas setup.replicas me → IsFirst setup me r h
entry_first setup me r k args i h is kind moded count = record {
  count = count ∙ ap (λ (q : Right). even_share (first_total setup q) setup.replicas me) (sym is);
  mode = moded;
  points = λ x. ap (λ (g : Holding). point_of g x) kind.1 ∙ ap (λ (q : Right). first_point setup me q x) (sym is);
  kind = ap (λ (q : Right). is_of setup.replicas q h) is ∙ ap (is_of setup.replicas (right.Entry k args i)) kind.1 ∙ same_number kind.0.all setup.replicas kind.2;
}

-- of nothing each has none
no_share : (n me : ℕ) → even_share 0 n me ≡ 0
no_share n me =
    let q = zero-div n in
    let m : extra (0 % n) ≡ extra 0 = ap extra (zero-mod n) in
    let z : extra 0 ≡ 0 = cond-false {A = ℕ} (nat_lt me 0) 1 0 (le-ltb me 0 (omega arith)) in
    let whole : even_share 0 n me ≡ 0 / n + extra (0 % n) = refl in
    omega (arith, q, m, z, whole)
  where
    extra : ℕ → ℕ
    extra k = cond (nat_lt me k) 1 0

pub part_first : (setup : Setup) (me : ℕ) (r : Right) (p : ℕ) (key : _) (h : HeldPoints) → r ≡ right.Part p key → is_roomy h ≡ true → ((x : ℕ) → held_times h x ≡ first_point setup me (right.Part p []) x) → IsFirst setup me r (holding.Points h)
part_first setup me r p key h is roomy same = record {
  count = sym (no_share setup.replicas me) ∙ ap (λ (q : Right). even_share (first_total setup q) setup.replicas me) (sym is);
  mode = refl;
  points = λ x. same x ∙ ap (λ (q : Right). first_point setup me q x) (sym is);
  kind = ap (λ (q : Right). is_of setup.replicas q (holding.Points h)) is ∙ roomy;
}
