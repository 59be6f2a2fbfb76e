-- How many are held with an item more of the own log.
use Rattle.std.proofs.Common.{◌≡◌, inl, inr, ℕ, ◌+◌, ◌*◌, ◌-◌, ◌<◌, ◌≤◌, ◌^◌, Bool, true, false, cond, List, [], ◌∷◌, ◌++◌, length, refl, ap, ◌∙◌, arith, leb-true}
use Rattle.std.specs.Prelude.{Option, is_some}
use Rattle.std.specs.Option.{option_map_or}
use Rattle.std.proofs.lemmas.Bool.{cases_Bool, cond-true, cond-false, and_parts}
use Rattle.std.proofs.lemmas.List.Sums.{sum_by_push}
use Rattle.ind_base.specs.declared.span.Span.{Span}
use Rattle.spec_model.specs.declared.plan.Setup.{Setup}
use Rattle.spec_model.specs.declared.spec.Spec.{Spec}
use Rattle.spec_model.specs.declared.instance.Inst.{Inst}
use Rattle.spec_model.specs.declared.right.Right.{Right}
use Rattle.spec_model.specs.declared.right.Right.TheVariants as right
use Rattle.spec_model.specs.declared.right.Piece.{Piece}
use Rattle.spec_model.specs.declared.right.Piece.TheVariants as piece
use Rattle.spec_model.specs.declared.log.Body.{Body}
use Rattle.spec_model.specs.declared.log.Body.TheVariants as body
use Rattle.spec_model.specs.declared.log.LogItem.{LogItem}
use Rattle.spec_model.specs.Changes.{added, subtracted}
use Rattle.spec_model.specs.Fits.{IsWellFormed}
use Rattle.spec_model.specs.Needs.{creates}
use Rattle.spec_model.specs.Universe.{lower_bound, upper_bound}
use Rattle.effect_model.proofs.Sums.{changes_small}
use Rattle.run_model.specs.Logs.{Logs}
use Rattle.run_model.specs.Holding.{held_right}
use Rattle.run_model.specs.Passing.{can_accept}
use Rattle.run_model.specs.Rights.{same_right, is_shared, held_count, body_gains, body_loses, out_gives, piece_count}
use Rattle.rights_table.specs.Whole.{AreFew, Takes}
use Rattle.rights_table.specs.Same.{same_is}

-- at most what the item adds is more
pub held_more : (setup : Setup) (logs : Logs) (me : ℕ) (own : List LogItem) (x : LogItem) (r : Right) → held_count setup logs me (own ++ x ∷ []) r ≤ held_count setup logs me own r + body_gains setup.spec logs r x.body
held_more setup logs me own x r =
    let gains = sum_by_push (λ (i : LogItem). body_gains setup.spec logs r i.body) own x in
    let loses = sum_by_push (λ (i : LogItem). body_loses setup.spec r i.body) own x in
    omega (arith, gains, loses)

one_longer : (own : List LogItem) (x : LogItem) → length (own ++ x ∷ []) ≡ length own + 1
one_longer [] x = refl
one_longer (y ∷ own) x = let rest = one_longer own x in omega (arith, rest)

-- few that grow by as much as an item may add
pub few_more : (setup : Setup) (logs : Logs) (me : ℕ) (own : List LogItem) (x : LogItem) → ((r : Right) → held_count setup logs me (own ++ x ∷ []) r ≤ 2 ^ 62 + length own * 2 ^ 34 + 2 ^ 34)
    → ((r : Right) → is_shared r ≡ true → held_count setup logs me (own ++ x ∷ []) r ≤ setup.replicas) → AreFew setup logs me (own ++ x ∷ [])
few_more setup logs me own x counts shares = record {
  counts = λ r. (let here = counts r in let long = one_longer own x in longer (length own) (length (own ++ x ∷ [])) (held_count setup logs me (own ++ x ∷ []) r) here long);
  shares = shares;
}
  where
    longer : (n m h : ℕ) → h ≤ 2 ^ 62 + n * 2 ^ 34 + 2 ^ 34 → m ≡ n + 1 → h ≤ 2 ^ 62 + m * 2 ^ 34
    longer n m h le is = omega (arith, le, is)

-- an act creates little of each right
creates_few : (b : Bool) (n k : ℕ) → n ≤ 16000000000 → cond b (n - k) 0 ≤ 16000000000
creates_few true n k le = omega (arith, le)
creates_few false n k le = omega arith

pub creates_small : (spec : Spec) (inst : Inst) (r : Right) → IsWellFormed spec → creates spec inst r ≤ 16000000000
creates_small spec inst (right.Low cell) well = creates_few (is_some (lower_bound spec cell)) (added spec inst cell) (subtracted spec inst cell) (changes_small spec inst cell well).0
creates_small spec inst (right.High cell) well = creates_few (is_some (upper_bound spec cell)) (subtracted spec inst cell) (added spec inst cell) (changes_small spec inst cell well).1
creates_small spec inst (right.Lock l key) well = omega arith
creates_small spec inst (right.Entry c args i) well = omega arith
creates_small spec inst (right.Part p key) well = omega arith

-- and nothing of shared ones
pub creates_none : (spec : Spec) (inst : Inst) (r : Right) → is_shared r ≡ true → creates spec inst r ≡ 0
creates_none spec inst (right.Low cell) h = absurd cc
creates_none spec inst (right.High cell) h = absurd cc
creates_none spec inst (right.Lock l key) h = refl
creates_none spec inst (right.Entry c args i) h = refl
creates_none spec inst (right.Part p key) h = refl

module _ (setup : Setup) (logs : Logs) (me : ℕ) (own : List LogItem) (x : LogItem) (few : AreFew setup logs me own) where
  -- few after an act
  pub few_act : (inst : Inst) → IsWellFormed setup.spec → x.body ≡ body.Act inst → AreFew setup logs me (own ++ x ∷ [])
  few_act inst well act = few_more setup logs me own x
      (λ r. (let more = held_more setup logs me own x r in let gains = ap (body_gains setup.spec logs r) act in let small = creates_small setup.spec inst r well in let was = few.counts r in adds (length own) (held_count setup logs me own r) (body_gains setup.spec logs r x.body) (held_count setup logs me (own ++ x ∷ []) r) more (omega (arith, gains, small)) was))
      (λ r shared. (let more = held_more setup logs me own x r in let gains = ap (body_gains setup.spec logs r) act in let none = creates_none setup.spec inst r shared in let was = few.shares r shared in omega (arith, more, gains, none, was)))
    where
      adds : (n h g k : ℕ) → k ≤ h + g → g ≤ 16000000000 → h ≤ 2 ^ 62 + n * 2 ^ 34 → k ≤ 2 ^ 62 + n * 2 ^ 34 + 2 ^ 34
      adds n h g k more small was = omega (arith, more, small, was)

  -- and after an Out
  pub few_out : (to : ℕ) (given : Right) (p : Piece) → x.body ≡ body.Out to given p → AreFew setup logs me (own ++ x ∷ [])
  few_out to given p out = few_more setup logs me own x
      (λ r. (let more = held_more setup logs me own x r in let gains = ap (body_gains setup.spec logs r) out in let was = few.counts r in omega (arith, more, gains, was)))
      (λ r shared. (let more = held_more setup logs me own x r in let gains = ap (body_gains setup.spec logs r) out in let was = few.shares r shared in omega (arith, more, gains, was)))

  -- a piece that joins leaves few
  joined : (r : Right) (span : Span) (p : Piece) → setup.replicas < 2 ^ 32 → can_accept setup.replicas (held_right setup logs me own r span) p ≡ true
      → (held_count setup logs me own r + piece_count p ≤ 2 ^ 62 + length own * 2 ^ 34 + 2 ^ 34) × (is_shared r ≡ true → held_count setup logs me own r + piece_count p ≤ setup.replicas)
  joined (right.Low cell) span (piece.Count n) lt can = (let le = leb-true (held_count setup logs me own (right.Low cell) + n) (2 ^ 62) can in omega (arith, le), λ shared. absurd cc)
  joined (right.Low cell) span (piece.Shares n m) lt can = absurd cc
  joined (right.Low cell) span (piece.Points s) lt can = absurd cc
  joined (right.High cell) span (piece.Count n) lt can = (let le = leb-true (held_count setup logs me own (right.High cell) + n) (2 ^ 62) can in omega (arith, le), λ shared. absurd cc)
  joined (right.High cell) span (piece.Shares n m) lt can = absurd cc
  joined (right.High cell) span (piece.Points s) lt can = absurd cc
  joined (right.Lock l key) span (piece.Count n) lt can = absurd cc
  joined (right.Lock l key) span (piece.Shares n m) lt can =
      let le = leb-true (held_count setup logs me own (right.Lock l key) + n) setup.replicas (and_parts _ _ can).0 in (omega (arith, le, lt), λ shared. le)
  joined (right.Lock l key) span (piece.Points s) lt can = absurd cc
  joined (right.Entry c args i) span (piece.Count n) lt can = absurd cc
  joined (right.Entry c args i) span (piece.Shares n m) lt can =
      let le = leb-true (held_count setup logs me own (right.Entry c args i) + n) setup.replicas (and_parts _ _ can).0 in (omega (arith, le, lt), λ shared. le)
  joined (right.Entry c args i) span (piece.Points s) lt can = absurd cc
  joined (right.Part q key) span (piece.Count n) lt can = absurd cc
  joined (right.Part q key) span (piece.Shares n m) lt can = absurd cc
  joined (right.Part q key) span (piece.Points s) lt can = (let was = few.counts (right.Part q key) in omega (arith, was), λ shared. absurd cc)

  -- and after an Accept of a piece that joins
  pub few_accept : (of : Option Body) (from at : ℕ) → setup.replicas < 2 ^ 32 → x.body ≡ body.Accept from at → Takes setup logs me own of from at → AreFew setup logs me (own ++ x ∷ [])
  few_accept of from at lt accept takes = few_more setup logs me own x (λ r. (each r).0) (λ r. (each r).1)
    where
      given : Right
      given = takes.right

      brings : (r : Right) → body_gains setup.spec logs r x.body ≡ cond (same_right given r) (piece_count takes.piece) 0
      brings r =
          ap (body_gains setup.spec logs r) accept
          ∙ ap (λ (o : Option LogItem). option_map_or (λ (i : LogItem). out_gives r i.body) o 0) takes.there
          ∙ ap (out_gives r) takes.gives

      each : (r : Right) → (held_count setup logs me (own ++ x ∷ []) r ≤ 2 ^ 62 + length own * 2 ^ 34 + 2 ^ 34) × (is_shared r ≡ true → held_count setup logs me (own ++ x ∷ []) r ≤ setup.replicas)
      each r =
          let more = held_more setup logs me own x r in
          let gains = brings r in
          elim (cases_Bool (same_right given r)) [
            | inl same ↦
                let joins = joined given _ takes.piece lt takes.joins in
                let here : given ≡ r = same_is given r same in
                let held_here : held_count setup logs me own given ≡ held_count setup logs me own r = ap (held_count setup logs me own) here in
                let n = cond-true (same_right given r) (piece_count takes.piece) 0 same in (
                  (let all = joins.0 in omega (arith, more, gains, held_here, n, all)),
                  λ shared. (let all = joins.1 (ap is_shared here ∙ shared) in omega (arith, more, gains, held_here, n, all)),
                )
            | inr other ↦
                let n = cond-false (same_right given r) (piece_count takes.piece) 0 other in (
                  (let was = few.counts r in omega (arith, more, gains, n, was)),
                  λ shared. (let was = few.shares r shared in omega (arith, more, gains, n, was)),
                )
          ]
