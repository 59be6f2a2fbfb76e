-- Frames one behind another, and what stands behind them.
use Rattle.std.proofs.Common.{◌≡◌, ℕ, ◌*◌, ◌^◌, ◌≤◌, ◌<◌, List, [], ◌∷◌, ◌++◌, length, get_or, take, drop, refl, sym, subst, ◌∙◌, ap, arith, append_assoc, length-append}
use Rattle.std.specs.List.{AllByRecursion}
use Rattle.std.specs.Int.{w32, from_be_bytes}
use Rattle.std.proofs.lemmas.List.{take_at, drop_at, flat_map_more}
use Rattle.std.proofs.lemmas.List.Concat.{flat_map-cons}
use Rattle.std.proofs.lemmas.Nat.{from_be_bytes-to_be_bytes_4}
use Rattle.rights_journal.specs.Image.{magic, sized, frames, opened, NoFrame}
use Rattle.run_model.specs.declared.batch.Batch.{Batch}
use Rattle.rights_journal.specs.Batches.{IsSpelled, text_of}
use Rattle.rights_journal.specs.Reading.{known_and}
use Rattle.rights_journal.proofs.Texts.{short, apart}

-- the length says where the bytes end
pub sized_same : (a b x y : List ℕ) → length a < 2 ^ 32 → length b < 2 ^ 32 → sized a ++ x ≡ sized b ++ y → (a ≡ b) × (x ≡ y)
sized_same a b x y a_short b_short same =
    let counts : length a ≡ length b = sym (from_be_bytes-to_be_bytes_4 (length a) a_short) ∙ ap (λ (l : List ℕ). from_be_bytes w32 (take 4 l)) same ∙ from_be_bytes-to_be_bytes_4 (length b) b_short in
    let behind : a ++ x ≡ b ++ y = ap (λ (l : List ℕ). drop 4 l) same in (
      sym (take_at a x (length a) refl) ∙ ap (λ (l : List ℕ). take (length a) l) behind ∙ take_at b y (length a) (sym counts),
      sym (drop_at a x (length a) refl) ∙ ap (λ (l : List ℕ). drop (length a) l) behind ∙ drop_at b y (length a) (sym counts),
    )

pub all_push : {B : Type 0} (P : B → Type 0) (bs : List B) (b : B) → AllByRecursion P bs → P b → AllByRecursion P (bs ++ b ∷ [])
all_push P [] b all here = (here, tt)
all_push P (c ∷ bs) b all here = (all.0, all_push P bs b all.1 here)

-- one frame more
pub opened_push : (replicas : ℕ) (bs : List Batch) (b : Batch) (rest : List ℕ) → opened replicas bs ++ 1 ∷ (sized (text_of replicas b) ++ rest) ≡ opened replicas (bs ++ b ∷ []) ++ rest
opened_push replicas bs b rest =
    sym (append_assoc (opened replicas bs) (1 ∷ sized (text_of replicas b)) rest) ∙ ap (λ (l : List ℕ). l ++ rest) (flat_map_more (λ c. 1 ∷ sized (text_of replicas c)) (1 ∷ magic) bs b)

-- the first frame
first_frame : (replicas : ℕ) (b : Batch) (bs : List Batch) (rest : List ℕ) → frames replicas (b ∷ bs) ++ rest ≡ 1 ∷ (sized (text_of replicas b) ++ (frames replicas bs ++ rest))
first_frame replicas b bs rest = ap (λ (l : List ℕ). l ++ rest) (flat_map-cons (λ c. 1 ∷ sized (text_of replicas c)) b bs) ∙ append_assoc (1 ∷ sized (text_of replicas b)) (frames replicas bs) rest

-- frames and a gate begin with a gate
pub begins : (replicas : ℕ) (bs : List Batch) (g : ℕ) (x : List ℕ) → (gate : ℕ) × (more : List ℕ) × (frames replicas bs ++ g ∷ x ≡ gate ∷ more)
begins replicas [] g x = (g, x, refl)
begins replicas (b ∷ bs) g x = (1, sized (text_of replicas b) ++ (frames replicas bs ++ g ∷ x), first_frame replicas b bs (g ∷ x))

-- nothing that counts stands at a gate
abbrev pub Ends : ℕ → ℕ → List ℕ → Type 0
Ends replicas gate rest = gate ≡ 1 → NoFrame replicas rest

module _ (replicas : ℕ) where
  no_more : (b : Batch) (bs : List Batch) (g h : ℕ) (x y : List ℕ) → IsSpelled replicas b → Ends replicas g x → g ∷ x ≡ frames replicas (b ∷ bs) ++ h ∷ y → ⊥
  no_more b bs g h x y here ends same =
      let both = same ∙ first_frame replicas b bs (h ∷ y) in
      let next = begins replicas bs h y in
      let behind : x ≡ sized (text_of replicas b) ++ next.0 ∷ next.1 = ap (λ (l : List ℕ). drop 1 l) both ∙ ap (λ (l : List ℕ). sized (text_of replicas b) ++ l) next.2 in
      ends (ap (λ (l : List ℕ). get_or l 0 0) both) b next.0 next.1 here behind

  -- the frames before such a gate are those of one list of batches
  pub same_frames : (xs bs : List Batch) (g h : ℕ) (x y : List ℕ) → AllByRecursion (IsSpelled replicas) xs → AllByRecursion (IsSpelled replicas) bs → Ends replicas g x → Ends replicas h y
      → frames replicas xs ++ g ∷ x ≡ frames replicas bs ++ h ∷ y → xs ≡ bs
  same_frames [] [] g h x y all_a all_b ends_a ends_b same = refl
  same_frames [] (b ∷ bs) g h x y all_a all_b ends_a ends_b same = absurd (no_more b bs g h x y all_b.0 ends_a same)
  same_frames (a ∷ xs) [] g h x y all_a all_b ends_a ends_b same = absurd (no_more a xs h g y x all_a.0 ends_b (sym same))
  same_frames (a ∷ xs) (b ∷ bs) g h x y all_a all_b ends_a ends_b same =
      let both = sym (first_frame replicas a xs (g ∷ x)) ∙ same ∙ first_frame replicas b bs (h ∷ y) in
      let parts = sized_same (text_of replicas a) (text_of replicas b) (frames replicas xs ++ g ∷ x) (frames replicas bs ++ h ∷ y) (omega (arith, (short replicas a all_a.0).1)) (omega (arith, (short replicas b all_b.0).1)) (ap (λ (l : List ℕ). drop 1 l) both) in
      let heads : a ≡ b = apart replicas a b all_a.0 all_b.0 parts.0 in
      let tails : xs ≡ bs = same_frames xs bs g h x y all_a.1 all_b.1 ends_a ends_b parts.1 in
      ap (λ (c : Batch). c ∷ xs) heads ∙ ap (λ (l : List Batch). b ∷ l) tails

  -- with its header
  pub same_opened : (xs bs : List Batch) (g h : ℕ) (x y : List ℕ) → AllByRecursion (IsSpelled replicas) xs → AllByRecursion (IsSpelled replicas) bs → Ends replicas g x → Ends replicas h y
      → opened replicas xs ++ g ∷ x ≡ opened replicas bs ++ h ∷ y → xs ≡ bs
  same_opened xs bs g h x y all_a all_b ends_a ends_b same = same_frames xs bs g h x y all_a all_b ends_a ends_b (ap (λ (l : List ℕ). drop 9 l) same)

-- each frame takes at most 7,000 bytes
pub frames_short : (replicas : ℕ) (bs : List Batch)
    → AllByRecursion (IsSpelled replicas) bs → length (frames replicas bs) ≤ 7000 * length bs
frames_short replicas [] all = omega arith
frames_short replicas (b ∷ bs) all =
    omega (arith, frames_short replicas bs all.1, (short replicas b all.0).1, ap length (flat_map-cons (λ c. 1 ∷ sized (text_of replicas c)) b bs), length-append (1 ∷ sized (text_of replicas b)) (frames replicas bs))

-- where a frame stands, its length gives its bytes
pub found_by_length : (text more bytes : List ℕ) (gate count : ℕ) → length text < 2 ^ 32 → bytes ≡ sized text ++ gate ∷ more → count ≡ from_be_bytes w32 (take 4 bytes) → take count (drop 4 bytes) ≡ text
found_by_length text more bytes gate count short is counted =
    let counts : count ≡ length text = counted ∙ ap (λ (l : List ℕ). from_be_bytes w32 (take 4 l)) is ∙ from_be_bytes-to_be_bytes_4 (length text) short in
    let behind : drop 4 bytes ≡ text ++ gate ∷ more = ap (λ (l : List ℕ). drop 4 l) is in
    rw (behind, counts) (take_at text (gate ∷ more) (length text) refl)

-- one frame more behind those of the batches that were known
pub known_push : (replicas same : ℕ) (known batches : List Batch) (b : Batch) (rest : List ℕ) → opened replicas (known_and same known batches) ++ 1 ∷ (sized (text_of replicas b) ++ rest) ≡ opened replicas (known_and same known (batches ++ b ∷ [])) ++ rest
known_push replicas same known batches b rest =
    opened_push replicas (known_and same known batches) b rest ∙ ap (λ (l : List Batch). opened replicas l ++ rest) (append_assoc (take same known) batches (b ∷ []))

pub all_known_push : (replicas same : ℕ) (known batches : List Batch) (b : Batch) → AllByRecursion (IsSpelled replicas) (known_and same known batches) → IsSpelled replicas b → AllByRecursion (IsSpelled replicas) (known_and same known (batches ++ b ∷ []))
all_known_push replicas same known batches b all here =
    subst (AllByRecursion (IsSpelled replicas)) (append_assoc (take same known) batches (b ∷ [])) (all_push (IsSpelled replicas) (known_and same known batches) b all here)
