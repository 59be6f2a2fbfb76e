-- What is held stays few with an Out or an Accept more.
use Rattle.std.proofs.Common.{◌≡◌, inl, inr, ℕ, ◌+◌, ◌-◌, ◌*◌, ◌<◌, ◌≤◌, ◌^◌, true, false, cond, List, [], ◌∷◌, ◌++◌, length, sym, ap, ◌∙◌, arith}
use Rattle.std.specs.Prelude.{Option, Some, sum_by, nat_le, ◌==◌, ◌||◌}
use Rattle.std.specs.Option.{option_map_or}
use Rattle.std.proofs.lemmas.Bool.{cases_Bool, cond-true, cond-false, and_parts}
use Rattle.std.proofs.lemmas.List.{length_push}
use Rattle.std.proofs.lemmas.List.Sums.{sum_by_push}
use Rattle.spec_model.specs.declared.plan.Setup.{Setup}
use Rattle.spec_model.specs.declared.right.Right.{Right}
use Rattle.spec_model.specs.declared.right.Right.TheVariants as right
use Rattle.spec_model.specs.declared.right.Piece.{Piece}
use Rattle.spec_model.specs.declared.right.Piece.TheVariants as piece
use Rattle.spec_model.specs.declared.log.Body.TheVariants as body
use Rattle.spec_model.specs.declared.log.LogItem.{LogItem}
use Rattle.run_model.specs.Logs.{Logs, item_at}
use Rattle.run_model.specs.Allowed.{span_given}
use Rattle.run_model.specs.Rights.{same_right, is_shared, even_share, first_total, piece_count, body_gains, body_loses, held_count, out_gives}
use Rattle.run_model.specs.Holding.{mode_of as mode_held, held_right}
use Rattle.run_model.specs.Passing.{can_accept, same_mode}
use Rattle.rights_table.specs.Whole.{AreFew}
use Rattle.rights_table.specs.Same.{same_is}

-- with an item more at most what it adds is more
count_more : (setup : Setup) (logs : Logs) (me : ℕ) (own : List LogItem) (x : LogItem) (q : Right) → held_count setup logs me (own ++ x ∷ []) q ≤ held_count setup logs me own q + body_gains setup.spec logs q x.body
count_more setup logs me own x q =
    let gains = λ (i : LogItem). body_gains setup.spec logs q i.body in
    let loses = λ (i : LogItem). body_loses setup.spec q i.body in
    sums (even_share (first_total setup q) setup.replicas me) (sum_by gains own) (sum_by loses own) (sum_by gains (own ++ x ∷ [])) (sum_by loses (own ++ x ∷ [])) (gains x) (loses x) (sum_by_push gains own x) (sum_by_push loses own x)
  where
    sums : (share gained lost more less g l : ℕ) → more ≡ gained + g → less ≡ lost + l → (share + more) - less ≤ ((share + gained) - lost) + g
    sums share gained lost more less g l a b = omega (arith, a, b)

-- so many, of which there is room for more with each item
few_more : (n now then' : ℕ) → then' ≡ now + 1 → n ≤ 2 ^ 62 + now * 2 ^ 34 → n ≤ 2 ^ 62 + then' * 2 ^ 34
few_more n now then' long few = omega (arith, long, few)

-- an Out only takes
pub few_given : (setup : Setup) (logs : Logs) (me : ℕ) (own : List LogItem) (x : LogItem) (to : ℕ) (r : Right) (p : Piece) → x.body ≡ body.Out to r p → AreFew setup logs me own → AreFew setup logs me (own ++ x ∷ [])
few_given setup logs me own x to r p out few = record {
  counts = λ q. let more = less q in let old = few_more (held_count setup logs me own q) (length own) (length (own ++ x ∷ [])) (length_push own x) (few.counts q) in omega (arith, more, old);
  shares = λ q shared. let more = less q in let old = few.shares q shared in omega (arith, more, old);
}
  where
    less : (q : Right) → held_count setup logs me (own ++ x ∷ []) q ≤ held_count setup logs me own q
    less q =
        let none : body_gains setup.spec logs q x.body ≡ 0 = ap (body_gains setup.spec logs q) out in
        let more = count_more setup logs me own x q in
        omega (arith, more, none)

-- what can be accepted joins what is held
joined_few : (setup : Setup) (logs : Logs) (me : ℕ) (own : List LogItem) (r : Right) (p : Piece) → AreFew setup logs me own → can_accept setup.replicas (held_right setup logs me own r (span_given p)) p ≡ true
    → (is_shared r ≡ true → held_count setup logs me own r + piece_count p ≤ setup.replicas) × (is_shared r ≡ false → held_count setup logs me own r + piece_count p ≤ 2 ^ 62 + length own * 2 ^ 34)
joined_few setup logs me own r p few can = by r p can
  where
    le_is : (a b : ℕ) → nat_le a b ≡ true → a ≤ b
    le_is a b h = search (arith)

    by : (r : Right) (p : Piece) → can_accept setup.replicas (held_right setup logs me own r (span_given p)) p ≡ true
        → (is_shared r ≡ true → held_count setup logs me own r + piece_count p ≤ setup.replicas) × (is_shared r ≡ false → held_count setup logs me own r + piece_count p ≤ 2 ^ 62 + length own * 2 ^ 34)
    by (right.Low c) (piece.Count n) can = (λ shared. absurd cc, λ counted. (let le = le_is (held_count setup logs me own (right.Low c) + n) (2 ^ 62) can in omega (arith, le)))
    by (right.Low c) (piece.Shares n m) can = absurd cc
    by (right.Low c) (piece.Points span) can = absurd cc
    by (right.High c) (piece.Count n) can = (λ shared. absurd cc, λ counted. (let le = le_is (held_count setup logs me own (right.High c) + n) (2 ^ 62) can in omega (arith, le)))
    by (right.High c) (piece.Shares n m) can = absurd cc
    by (right.High c) (piece.Points span) can = absurd cc
    by (right.Lock l key) (piece.Shares n m) can =
        let have : ℕ = held_count setup logs me own (right.Lock l key) in
        let parts = and_parts (nat_le (have + n) setup.replicas) ((have == 0) || same_mode m (mode_held setup logs me own (right.Lock l key))) can in
        (λ shared. le_is (have + n) setup.replicas parts.0, λ counted. absurd cc)
    by (right.Lock l key) (piece.Count n) can = absurd cc
    by (right.Lock l key) (piece.Points span) can = absurd cc
    by (right.Entry c args i) (piece.Shares n m) can =
        let have : ℕ = held_count setup logs me own (right.Entry c args i) in
        let parts = and_parts (nat_le (have + n) setup.replicas) ((have == 0) || same_mode m (mode_held setup logs me own (right.Entry c args i))) can in
        (λ shared. le_is (have + n) setup.replicas parts.0, λ counted. absurd cc)
    by (right.Entry c args i) (piece.Count n) can = absurd cc
    by (right.Entry c args i) (piece.Points span) can = absurd cc
    by (right.Part q key) (piece.Points span) can = (λ shared. absurd cc, λ counted. (let was = few.counts (right.Part q key) in omega (arith, was)))
    by (right.Part q key) (piece.Count n) can = absurd cc
    by (right.Part q key) (piece.Shares n m) can = absurd cc

-- and stays few
pub few_accepted : (setup : Setup) (logs : Logs) (me : ℕ) (own : List LogItem) (x out : LogItem) (from at to : ℕ) (r : Right) (p : Piece) → setup.replicas < 2 ^ 32
    → can_accept setup.replicas (held_right setup logs me own r (span_given p)) p ≡ true → x.body ≡ body.Accept from at → item_at logs from at ≡ Some out → out.body ≡ body.Out to r p
    → AreFew setup logs me own → AreFew setup logs me (own ++ x ∷ [])
few_accepted setup logs me own x out from at to r p small can accept there gave few = record {
  counts = λ q. few_more (held_count setup logs me (own ++ x ∷ []) q) (length own) (length (own ++ x ∷ [])) (length_push own x) (count q);
  shares = λ q shared. share q shared;
}
  where
    brings : (q : Right) → body_gains setup.spec logs q x.body ≡ cond (same_right r q) (piece_count p) 0
    brings q = ap (body_gains setup.spec logs q) accept ∙ ap (λ (o : Option LogItem). option_map_or (λ (i : LogItem). out_gives q i.body) o 0) there ∙ ap (out_gives q) gave

    -- of another right no more
    other : (q : Right) → same_right r q ≡ false → held_count setup logs me (own ++ x ∷ []) q ≤ held_count setup logs me own q
    other q not_it = let more = count_more setup logs me own x q in let none = brings q ∙ cond-false (same_right r q) (piece_count p) 0 not_it in omega (arith, more, none)

    -- of this one the piece
    it : (q : Right) → same_right r q ≡ true → held_count setup logs me (own ++ x ∷ []) q ≤ held_count setup logs me own r + piece_count p
    it q same =
        let more = count_more setup logs me own x q in
        let some = brings q ∙ cond-true (same_right r q) (piece_count p) 0 same in
        let here : held_count setup logs me own q ≡ held_count setup logs me own r = ap (held_count setup logs me own) (sym (same_is r q same)) in
        omega (arith, more, some, here)

    count : (q : Right) → held_count setup logs me (own ++ x ∷ []) q ≤ 2 ^ 62 + length own * 2 ^ 34
    count q =
        elim (cases_Bool (same_right r q)) [
          | inl same ↦
              let now = it q same in
              let joined = joined_few setup logs me own r p few can in
              elim (cases_Bool (is_shared r)) [
                | inl shared ↦ let most = joined.0 shared in omega (arith, now, most, small)
                | inr counted ↦ let most = joined.1 counted in omega (arith, now, most)
              ]
          | inr not_it ↦ let now = other q not_it in let old = few.counts q in omega (arith, now, old)
        ]

    share : (q : Right) → is_shared q ≡ true → held_count setup logs me (own ++ x ∷ []) q ≤ setup.replicas
    share q shared =
        elim (cases_Bool (same_right r q)) [
          | inl same ↦ let now = it q same in let most = (joined_few setup logs me own r p few can).0 (ap is_shared (same_is r q same) ∙ shared) in omega (arith, now, most)
          | inr not_it ↦ let now = other q not_it in let old = few.shares q shared in omega (arith, now, old)
        ]
