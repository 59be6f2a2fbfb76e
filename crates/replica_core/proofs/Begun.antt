-- A replica before its first step.
use Rattle.std.proofs.Common.{◌≡◌, ℕ, zero, suc, ◌+◌, ◌/◌, ◌%◌, ◌<◌, ◌≤◌, true, Bool, cond, List, [], ◌∷◌, length, map, replicate, refl, sym, ap, subst, ◌∙◌, arith}
use Rattle.std.specs.Prelude.{nat_lt}
use Rattle.std.specs.List.{AllByRecursion}
use Rattle.std.proofs.Math.Nat.{div-le_self, div_self, mod_self}
use Rattle.std.proofs.lemmas.Bool.{cond-true, cond_both, le-ltb}
use Rattle.std.proofs.lemmas.List.{length-replicate}
use Rattle.spec_model.specs.declared.plan.Setup.{Setup}
use Rattle.spec_model.specs.declared.log.LogItem.{LogItem}
use Rattle.spec_model.specs.declared.right.Right.{Right}
use Rattle.spec_model.specs.declared.right.Want.{Want}
use Rattle.run_model.specs.Logs.{Logs, log_at}
use Rattle.run_model.specs.Rights.{even_share, first_total, is_shared}
use Rattle.run_model.specs.Worlds.{Standing, Up, first_standing, no_cut}
use Rattle.run_model.specs.Fitting.{ItemFits, SetupFits, WantFits}
use Rattle.causal_store.specs.Stores.{IsStore, cut_in}
use Rattle.causal_store.proofs.Stored.{no_items_fit}
use Rattle.rights_table.specs.Tables.{IsTable}
use Rattle.rights_table.specs.Whole.{AreFew, HasAll}
use Rattle.message_laws.specs.Views.{View, IsView}
use Rattle.message_laws.proofs.Limits.{first_small}
use Rattle.replica_core.specs.Replicas.{IsReplica, known_to, own_log, standing_of}
use Rattle.replica_core.specs.declared.replica.Replica.{Replica}
use Rattle.replica_core.proofs.Grown.{GrowsTo, grows_with}
use Rattle.replica_core.proofs.Items.{with_none}
use Rattle.replica_core.proofs.Logged.{gives_view}

-- each of the first logs is empty
nothing_at : (n j : ℕ) → log_at (replicate n []) j ≡ []
nothing_at zero j = refl
nothing_at (suc n) zero = refl
nothing_at (suc n) (suc j) = nothing_at n j

-- the counts of empty logs
none_counted : (n : ℕ) → map (λ (log : List LogItem). length log) (replicate n []) ≡ replicate n 0
none_counted zero = refl
none_counted (suc n) = ap (λ (xs : List ℕ). 0 ∷ xs) (none_counted n)

-- of equal elements
all_equal : {X : Type 0} (P : X → Type 0) (n : ℕ) (x : X) → P x → AllByRecursion P (replicate n x)
all_equal P zero x h = tt
all_equal P (suc n) x h = (h, all_equal P n x h)

-- ---- shares

-- a share is at most one more than there are
share_small : (all n me : ℕ) → even_share all n me ≤ all + 1
share_small all n me =
    let part = div-le_self all n in
    cond_both (nat_lt me (all % n)) 1 0 (λ k. all / n + k ≤ all + 1) (λ yes. omega (arith, part)) (λ no. omega (arith, part))

-- of as many as replicas each has one
one_share : (n me : ℕ) → 0 < n → even_share n n me ≤ n
one_share n me some =
    let one : n / n ≡ 1 = div_self some in
    let none : even_share n n me ≡ n / n + cond (nat_lt me 0) 1 0 = ap (λ k. n / n + cond (nat_lt me k) 1 0) (mod_self n) in
    let zero_more : n / n + cond (nat_lt me 0) 1 0 ≡ n / n + 0 = ap (λ b. n / n + cond b 1 0) (le-ltb me 0 (omega arith)) in
    omega (arith, one, none, zero_more, some)

first_few : (setup : Setup) (r : Right) → setup.replicas ≤ 16 → SetupFits setup → first_total setup r ≤ 1000000000000
first_few setup r few fits =
    let counts = first_small setup.spec r fits.spec in
    cond_both (is_shared r) setup.replicas _ (λ n. n ≤ 1000000000000) (λ yes. omega (arith, few)) (λ no. omega (arith, counts))

none_few : (setup : Setup) (logs : Logs) (me : ℕ) → setup.replicas ≤ 16 → SetupFits setup → AreFew setup logs me []
none_few setup logs me few fits = record {
  counts = λ r. omega (arith, share_small (first_total setup r) setup.replicas me, first_few setup r few fits);
  shares = λ r shared.
      let share : even_share (first_total setup r) setup.replicas me ≡ even_share setup.replicas setup.replicas me = ap (λ n. even_share n setup.replicas me) (cond-true (is_shared r) setup.replicas _ shared) in
      omega (arith, share, one_share setup.replicas me fits.some);
}

-- ---- a replica that was made, part by part

pub record IsFirst (setup : Setup) (me : ℕ) (r : Replica) : Type 0 where
  pub me_is : r.me ≡ me
  pub within : me < setup.replicas
  pub few : setup.replicas ≤ 16
  pub setup_fits : SetupFits setup
  pub store : IsStore setup.spec setup.replicas r.store
  pub empty : known_to r ≡ replicate setup.replicas []
  pub table : (logs : Logs) (among : Right → Bool) → IsTable setup logs me [] among r.table
  pub wants : r.wants ≡ []
  pub told : r.told ≡ replicate setup.replicas (no_cut setup.replicas)

pub first_replica : (setup : Setup) (me : ℕ) (r : Replica) → IsFirst setup me r → IsReplica setup me r
first_replica setup me r h =
    let own : log_at (known_to r) me ≡ [] = ap (λ (l : Logs). log_at l me) h.empty ∙ nothing_at setup.replicas me in
    let mine : own_log r ≡ [] = ap (log_at (known_to r)) h.me_is ∙ own in
    let view : IsView setup (record { me = me; known = known_to r; cut = cut_in r.store }) = gives_view setup me (known_to r) r.store [] (record {
      within = h.within;
      store = h.store;
      grown = subst (GrowsTo (known_to r)) (with_none me (known_to r)) (grows_with me [] (known_to r));
      there = own;
      fits = subst (AllByRecursion (AllByRecursion (ItemFits setup))) (sym h.empty) (no_items_fit (ItemFits setup) setup.replicas);
      row = tt;
      seen = tt;
    }) in
    let all : HasAll setup (known_to r) me [] r.table = record { table = h.table (known_to r) (λ q. true); few = none_few setup (known_to r) me h.few h.setup_fits } in
    record {
      me_is = h.me_is;
      setup_fits = h.setup_fits;
      store = h.store;
      view = subst (λ i. let v : View = record { me = i; known = known_to r; cut = cut_in r.store } in IsView setup v) (sym h.me_is) view;
      all = subst (λ i. HasAll setup (known_to r) i (own_log r) r.table) (sym h.me_is) (subst (λ (l : List LogItem). HasAll setup (known_to r) me l r.table) (sym mine) all);
      wants = subst (AllByRecursion (WantFits setup)) (sym h.wants) tt;
      few_wants = omega (arith, ap length h.wants);
      told = ap length h.told ∙ length-replicate setup.replicas (no_cut setup.replicas);
      told_each = subst (AllByRecursion (λ (c : List ℕ). length c ≡ setup.replicas)) (sym h.told) (all_equal (λ (c : List ℕ). length c ≡ setup.replicas) setup.replicas (no_cut setup.replicas) (length-replicate setup.replicas 0));
    }

pub first_stands : (setup : Setup) (me : ℕ) (r : Replica) → IsFirst setup me r → standing_of 0 [] [] r ≡ first_standing setup.replicas true
first_stands setup me r h =
    let own : own_log r ≡ [] = ap (λ (l : Logs). log_at l r.me) h.empty ∙ nothing_at setup.replicas r.me in
    let cut : cut_in r.store ≡ no_cut setup.replicas = h.store.counts ∙ ap (map (λ (l : List LogItem). length l)) h.empty ∙ none_counted setup.replicas in
    ap (λ (l : List LogItem). let p : Standing = record (standing_of 0 [] [] r) { log = l } in p) own
    ∙ ap (λ (c : List ℕ). let p : Standing = record (standing_of 0 [] [] r) { log = []; cut = c } in p) cut
    ∙ ap (λ (w : List Want). let p : Standing = record { log = []; cut = no_cut setup.replicas; stamp = 0; wants = w; told = r.told; sendings = []; running = Up; kept = [] } in p) h.wants
    ∙ ap (λ (t : List (List ℕ)). let p : Standing = record { log = []; cut = no_cut setup.replicas; stamp = 0; wants = []; told = t; sendings = []; running = Up; kept = [] } in p) h.told
