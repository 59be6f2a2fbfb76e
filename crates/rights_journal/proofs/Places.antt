-- What a write leaves behind a gate, and at one.
use Rattle.std.proofs.Common.{◌≡◌, inl, inr, ℕ, suc, ◌+◌, ◌≤◌, max, List, [], ◌∷◌, ◌++◌, length, get_or, take, drop, sym, ◌∙◌, ap, subst, arith, append_assoc, length-append, take-append-drop}
use Rattle.std.proofs.lemmas.List.{take_at, drop_at, drop_more}
use Rattle.ind_disk.specs.Disk.{Holds, Torn, LeavesOnly}
use Rattle.rights_journal.specs.Image.{Behind, IsBetween}
use Rattle.rights_journal.proofs.Moments.{joined, weaker}

module _ (front : List ℕ) (closed : ℕ) (rest : List ℕ) (gate : ℕ) (at_gate : length front ≡ gate) where
  abbrev with_gate : List ℕ
  with_gate = front ++ closed ∷ []

  length-with_gate : length with_gate ≡ gate + 1
  length-with_gate = omega (arith, at_gate, length-append front (closed ∷ []))

  split : front ++ closed ∷ rest ≡ with_gate ++ rest
  split = sym (append_assoc front (closed ∷ []) rest)

  pub torn_behind : (n : ℕ) (c : List ℕ) → Torn (gate + 1) n (front ++ closed ∷ rest) c → Behind front closed c
  torn_behind n c torn =
      let kept : take (gate + 1) c ≡ with_gate = torn.before ∙ ap (λ (l : List ℕ). take (gate + 1) l) split ∙ take_at with_gate rest (gate + 1) length-with_gate in
      let whole : c ≡ front ++ closed ∷ drop (gate + 1) c =
      sym (take-append-drop (gate + 1) c) ∙ ap (λ (l : List ℕ). l ++ drop (gate + 1) c) kept ∙ append_assoc front (closed ∷ []) (drop (gate + 1) c) in
      (drop (gate + 1) c, whole)

  pub written_behind : (frame c : List ℕ) → Holds (front ++ closed ∷ rest) (gate + 1) frame c → c ≡ front ++ closed ∷ (frame ++ drop (gate + 1 + length frame) (front ++ closed ∷ rest))
  written_behind frame c holds =
      let tail = drop (gate + 1 + length frame) (front ++ closed ∷ rest) in
      let kept : take (gate + 1) (front ++ closed ∷ rest) ≡ with_gate = ap (λ (l : List ℕ). take (gate + 1) l) split ∙ take_at with_gate rest (gate + 1) length-with_gate in
      holds ∙ ap (λ (l : List ℕ). l ++ frame ++ tail) kept ∙ append_assoc with_gate frame tail ∙ append_assoc front (closed ∷ []) (frame ++ tail)

  pub torn_gate : (c : List ℕ) → Torn gate 1 (front ++ closed ∷ rest) c → (g : ℕ) × (c ≡ front ++ g ∷ rest)
  torn_gate c torn =
      let long : suc gate ≤ length c = omega (arith, at_gate, torn.no_shorter, length-append front (closed ∷ rest)) in
      let g = get_or c gate 0 in
      let kept : take gate c ≡ front = torn.before ∙ take_at front (closed ∷ rest) gate at_gate in
      let back : drop (gate + 1) (front ++ closed ∷ rest) ≡ rest = ap (λ (l : List ℕ). drop (gate + 1) l) split ∙ drop_at with_gate rest (gate + 1) length-with_gate in
      let tail : drop gate c ≡ g ∷ rest = drop_more c gate 0 long ∙ ap (λ (l : List ℕ). g ∷ l) (torn.after ∙ back) in
      (g, sym (take-append-drop gate c) ∙ ap (λ (l : List ℕ). l ++ drop gate c) kept ∙ ap (λ (l : List ℕ). front ++ l) tail)

  pub written_gate : (open_gate : ℕ) (c : List ℕ) → Holds (front ++ closed ∷ rest) gate (open_gate ∷ []) c → c ≡ front ++ open_gate ∷ rest
  written_gate open_gate c holds =
      let kept : take gate (front ++ closed ∷ rest) ≡ front = take_at front (closed ∷ rest) gate at_gate in
      let back : drop (gate + 1) (front ++ closed ∷ rest) ≡ rest = ap (λ (l : List ℕ). drop (gate + 1) l) split ∙ drop_at with_gate rest (gate + 1) length-with_gate in
      holds ∙ ap (λ (l : List ℕ). l ++ (open_gate ∷ []) ++ drop (gate + 1) (front ++ closed ∷ rest)) kept ∙ ap (λ (l : List ℕ). front ++ (open_gate ∷ []) ++ l) back ∙ append_assoc front (open_gate ∷ []) rest

-- the first write, and then the second
pub leaves_behind : (front rest old frame : List ℕ) (closed gate longest : ℕ) → length front ≡ gate → old ≡ front ++ closed ∷ rest
    → max (length old) (gate + 1 + length frame) ≤ longest → (c : List ℕ) → Torn (gate + 1) (length frame) old c → IsBetween front closed frame longest c
leaves_behind front rest old frame closed gate longest at_gate is long c torn = record {
  size = omega (arith, long, torn.no_longer);
  gate = inl (torn_behind front closed rest gate at_gate (length frame) c (subst (λ (o : List ℕ). Torn (gate + 1) (length frame) o c) is torn));
}

pub leaves_gated : (front rest old mid frame : List ℕ) (closed gate longest : ℕ) → length front ≡ gate → old ≡ front ++ closed ∷ rest → Holds old (gate + 1) frame mid
    → length mid ≤ longest → gate + 1 ≤ longest → (c : List ℕ) → Torn gate 1 mid c → IsBetween front closed frame longest c
leaves_gated front rest old mid frame closed gate longest at_gate is holds long room c torn =
    let mid_is = written_behind front closed rest gate at_gate frame mid (subst (λ (o : List ℕ). Holds o (gate + 1) frame mid) is holds) in
    let more = drop (gate + 1 + length frame) (front ++ closed ∷ rest) in
    let found = torn_gate front closed (frame ++ more) gate at_gate c (subst (λ (m : List ℕ). Torn gate 1 m c) mid_is torn) in
    record { size = omega (arith, long, room, torn.no_longer); gate = inr (found.0, more, found.1) }

module _ {D : Type 0} (moment : D → ℕ) (left_since : D → ℕ → List ℕ → Type 0) (front rest frame : List ℕ) (closed gate longest : ℕ) (at_gate : length front ≡ gate) where
  -- a crash up to the end of the first write and its sync
  pub first_leaves : (old new : D) (old_bytes : List ℕ) → old_bytes ≡ front ++ closed ∷ rest → max (length old_bytes) (gate + 1 + length frame) ≤ longest
      → LeavesOnly moment left_since old new (Torn (gate + 1) (length frame) old_bytes) → LeavesOnly moment left_since old new (IsBetween front closed frame longest)
  first_leaves old new old_bytes is long run =
      weaker moment left_since old new (Torn (gate + 1) (length frame) old_bytes) (IsBetween front closed frame longest)
      (leaves_behind front rest old_bytes frame closed gate longest at_gate is long) run

  -- a crash up to the end of the second
  pub both_leave : (old mid new : D) (old_bytes mid_bytes : List ℕ) → old_bytes ≡ front ++ closed ∷ rest → max (length old_bytes) (gate + 1 + length frame) ≤ longest
      → Holds old_bytes (gate + 1) frame mid_bytes → length mid_bytes ≤ longest
      → LeavesOnly moment left_since old mid (Torn (gate + 1) (length frame) old_bytes) → LeavesOnly moment left_since mid new (Torn gate 1 mid_bytes)
      → LeavesOnly moment left_since old new (IsBetween front closed frame longest)
  both_leave old mid new old_bytes mid_bytes is long holds mid_long first second =
      joined moment left_since old mid new (IsBetween front closed frame longest) (first_leaves old mid old_bytes is long first)
      (weaker moment left_since mid new (Torn gate 1 mid_bytes) (IsBetween front closed frame longest)
      (leaves_gated front rest old_bytes mid_bytes frame closed gate longest at_gate is holds mid_long (omega (arith, long))) second)
