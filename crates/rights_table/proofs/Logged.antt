-- An act in the own log.
use Rattle.std.proofs.Common.{◌≡◌, ℕ, ◌+◌, Bool, true, false, cond, List, [], ◌∷◌, ◌++◌, map, refl, sym, ap, ◌∙◌, subst, arith}
use Rattle.std.specs.Prelude.{Option, Some, None, ◌||◌, ◌&&◌, ◌==◌, nat_lt}
use Rattle.std.specs.List.{find}
use Rattle.std.specs.Option.{option_map_or}
use Rattle.std.proofs.Math.Path.{fun_ext}
use Rattle.spec_model.specs.declared.plan.Setup.{Setup}
use Rattle.spec_model.specs.declared.instance.Inst.{Inst}
use Rattle.spec_model.specs.declared.right.Right.{Right}
use Rattle.spec_model.specs.declared.right.Need.{Need}
use Rattle.spec_model.specs.declared.right.Amount.{Amount}
use Rattle.spec_model.specs.declared.right.Amount.TheVariants as amount
use Rattle.spec_model.specs.declared.right.Mode.{Mode}
use Rattle.spec_model.specs.declared.right.Level.{Level}
use Rattle.spec_model.specs.declared.right.Level.TheVariants as level
use Rattle.spec_model.specs.declared.log.Body.{Body}
use Rattle.spec_model.specs.declared.log.Body.TheVariants as body
use Rattle.spec_model.specs.declared.log.LogItem.{LogItem}
use Rattle.spec_model.specs.Needs.{spends, creates}
use Rattle.run_model.specs.Logs.{Logs}
use Rattle.run_model.specs.Rights.{is_shared, held_count, body_gains, body_loses, accept_brings}
use Rattle.run_model.specs.Points.{out_point}
use Rattle.run_model.specs.Holding.{mode_of, next_mode, needs_in, shares_of, mode_set as modes_set}
use Rattle.run_model.specs.Levels.{is_permitted, mode_permits, acts_on, acts_at, is_at, choices_of, forbid_at}
use Rattle.rights_table.specs.declared.table.Table.{Table}
use Rattle.rights_table.specs.Tables.{IsTable, count_in, mode_in, point_in}
use Rattle.rights_table.specs.Cells.{MovesBy}
use Rattle.rights_table.specs.Acting.{SetsModes, IsOnShares, AreOnShares}
use Rattle.rights_table.proofs.ActedOn.{literal_shared}
use Rattle.rights_table.proofs.Stepped.{table_step}

-- modes that are one on shared rights let the same be acted on
module _ (all : ℕ) (n : Right → ℕ) (m k : Right → Mode) (same : (q : Right) → is_shared q ≡ true → m q ≡ k q) where
  permitted_one : (r : Right) (a : Amount) → IsOnShares r a → is_permitted all (shares_of n m) (record { right = r; amount = a }) ≡ is_permitted all (shares_of n k) (record { right = r; amount = a })
  permitted_one r (amount.Count c) on = refl
  permitted_one r (amount.Points span) on = refl
  permitted_one r (amount.AnyForbid literals) on = refl
  permitted_one r (amount.Level l) on = ap (λ (x : Mode). (n r == all) || (nat_lt 0 (n r) && mode_permits x l)) (same r on)

  found_any : (r : Right) → is_shared r ≡ true → (literals : List ℕ) → find (is_permitted all (shares_of n m)) (map (forbid_at r) literals) ≡ find (is_permitted all (shares_of n k)) (map (forbid_at r) literals)
  found_any r shared [] = refl
  found_any r shared (i ∷ literals) =
      ap (λ b. cond b (Some (forbid_at r i)) (find (is_permitted all (shares_of n m)) (map (forbid_at r) literals))) (permitted_one (forbid_at r i).right (amount.Level level.Forbid) (literal_shared r i shared))
      ∙ ap (λ (o : Option Need). cond (is_permitted all (shares_of n k) (forbid_at r i)) (Some (forbid_at r i)) o) (found_any r shared literals)

  found_one : (r : Right) (a : Amount) → IsOnShares r a → (let x : Need = record { right = r; amount = a } in find (is_permitted all (shares_of n m)) (x ∷ []) ≡ find (is_permitted all (shares_of n k)) (x ∷ []))
  found_one r a on = ap (λ b. cond b (Some (let x : Need = record { right = r; amount = a } in x)) None) (permitted_one r a on)

  found : (r : Right) (a : Amount) → IsOnShares r a → find (is_permitted all (shares_of n m)) (choices_of r a) ≡ find (is_permitted all (shares_of n k)) (choices_of r a)
  found r (amount.Count c) on = found_one r (amount.Count c) on
  found r (amount.Points span) on = found_one r (amount.Points span) on
  found r (amount.Level l) on = found_one r (amount.Level l) on
  found r (amount.AnyForbid literals) on = found_any r on literals

  pub acts_same : (needs : List Need) (q : Right) (l : Level) → AreOnShares needs → acts_at all (shares_of n m) needs q l ≡ acts_at all (shares_of n k) needs q l
  acts_same [] q l on = refl
  acts_same (need ∷ needs) q l on =
      ap (λ (o : Option Need). option_map_or (is_at q l) o false || acts_at all (shares_of n m) needs q l) (found need.right need.amount on.0)
      ∙ ap (λ b. acts_on all (shares_of n k) q l need || b) (acts_same needs q l on.1)

-- what the table has once an act was done
pub acted : (setup : Setup) (logs : Logs) (me : ℕ) (own : List LogItem) (x : LogItem) (inst : Inst) (needs : List Need) (old mid new : Table) → AreOnShares needs → SetsModes setup needs old mid → MovesBy setup (creates setup.spec inst) (spends setup.spec inst) mid new
    → x.body ≡ body.Act inst → needs ≡ needs_in setup logs x.deps inst → IsTable setup logs me own (λ r. true) old → IsTable setup logs me (own ++ x ∷ []) (λ r. true) new
acted setup logs me own x inst needs old mid new on sets moves act needed is =
    let have : Right → ℕ = held_count setup logs me own in
    let modes : Right → Mode = mode_of setup logs me own in
    let counted : ◌≡◌ {A = Right → ℕ} (count_in setup old) have = fun_ext (λ q. is.counts q refl) in
    table_step setup logs me own (λ r. true) x old new is
    (record {
      me = moves.me ∙ sets.me;
      replicas = moves.replicas ∙ sets.replicas;
      counts = λ q one. subst (λ (b : Body). count_in setup new q + body_loses setup.spec q b ≡ count_in setup old q + body_gains setup.spec logs q b) (sym act) (let by = moves.counts q in let same = sets.counts q in omega (arith, by, same));
      points = λ q one y. subst (λ (b : Body). point_in setup new q y + out_point q y b ≡ point_in setup old q y + accept_brings logs (out_point q y) b) (sym act) (let by = moves.points q y in let same = sets.points q y in omega (arith, by, same));
      modes = λ q one shared.
          subst (λ (b : Body). mode_in new q ≡ next_mode setup logs have modes x.deps b q) (sym act)
          (moves.modes q ∙ sets.modes q
          ∙ ap (λ (f : Right → ℕ). cond (f q == setup.replicas) (modes_set (acts_at setup.replicas (shares_of f (mode_in old)) needs q) (mode_in old q)) (mode_in old q)) counted
          ∙ ap (λ (acts : Level → Bool). cond (have q == setup.replicas) (modes_set acts (mode_in old q)) (mode_in old q)) (fun_ext (λ l. acts_same setup.replicas have (mode_in old) modes (λ r s. is.modes r refl s) needs q l on))
          ∙ ap (λ (ns : List Need). cond (have q == setup.replicas) (modes_set (acts_at setup.replicas (shares_of have modes) ns q) (mode_in old q)) (mode_in old q)) needed
          ∙ ap (λ (m : Mode). cond (have q == setup.replicas) (modes_set (acts_at setup.replicas (shares_of have modes) (needs_in setup logs x.deps inst) q) m) m) (is.modes q refl shared));
    })
