-- An item that moves one right leaves a table among others as it is.
use Rattle.std.proofs.Common.{◌≡◌, ℕ, ◌+◌, Bool, true, false, cond, List, [], ◌∷◌, ◌++◌, refl, sym, ap, subst, ◌∙◌, arith}
use Rattle.std.specs.Prelude.{Option, Some, ◌==◌}
use Rattle.std.specs.Option.{option_map_or}
use Rattle.std.proofs.lemmas.Bool.{cond-false}
use Rattle.spec_model.specs.declared.plan.Setup.{Setup}
use Rattle.spec_model.specs.declared.right.Mode.{Mode}
use Rattle.spec_model.specs.declared.right.Right.{Right}
use Rattle.spec_model.specs.declared.right.Piece.{Piece}
use Rattle.spec_model.specs.declared.log.Body.{Body}
use Rattle.spec_model.specs.declared.log.Body.TheVariants as body
use Rattle.spec_model.specs.declared.log.LogItem.{LogItem}
use Rattle.run_model.specs.Logs.{Logs, item_at}
use Rattle.run_model.specs.Rights.{same_right, piece_count, body_gains, body_loses, held_count, accept_brings, out_gives}
use Rattle.run_model.specs.Points.{out_point, piece_point}
use Rattle.run_model.specs.Holding.{mode_of as mode_held, next_mode, out_mode, piece_mode}
use Rattle.rights_table.specs.declared.table.Table.{Table}
use Rattle.rights_table.specs.Tables.{count_in, mode_in, point_in, IsTable}
use Rattle.rights_table.proofs.Stepped.{table_step}

-- an Out
pub others_given : (setup : Setup) (logs : Logs) (me : ℕ) (own : List LogItem) (among : Right → Bool) (x : LogItem) (to : ℕ) (r : Right) (p : Piece) (t : Table) → ((q : Right) → among q ≡ true → same_right r q ≡ false)
    → x.body ≡ body.Out to r p → IsTable setup logs me own among t → IsTable setup logs me (own ++ x ∷ []) among t
others_given setup logs me own among x to r p t other out is =
    table_step setup logs me own among x t t is
    (record {
      me = refl;
      replicas = refl;
      counts = λ q one. subst (λ (b : Body). count_in setup t q + body_loses setup.spec q b ≡ count_in setup t q + body_gains setup.spec logs q b) (sym out) (let none = cond-false (same_right r q) (piece_count p) 0 (other q one) in omega (arith, none));
      points = λ q one y. subst (λ (b : Body). point_in setup t q y + out_point q y b ≡ point_in setup t q y + accept_brings logs (out_point q y) b) (sym out) (let none = cond-false (same_right r q) (piece_point y p) 0 (other q one) in omega (arith, none));
      modes = λ q one shared. subst (λ (b : Body). mode_in t q ≡ next_mode setup logs (held_count setup logs me own) (mode_held setup logs me own) x.deps b q) (sym out) (is.modes q one shared);
    })

-- an Accept
pub others_accepted : (setup : Setup) (logs : Logs) (me : ℕ) (own : List LogItem) (among : Right → Bool) (x out : LogItem) (from at to : ℕ) (r : Right) (p : Piece) (t : Table) → ((q : Right) → among q ≡ true → same_right r q ≡ false)
    → x.body ≡ body.Accept from at → item_at logs from at ≡ Some out → out.body ≡ body.Out to r p → IsTable setup logs me own among t → IsTable setup logs me (own ++ x ∷ []) among t
others_accepted setup logs me own among x out from at to r p t other accept there gave is =
    table_step setup logs me own among x t t is
    (record {
      me = refl;
      replicas = refl;
      counts = λ q one. subst (λ (b : Body). count_in setup t q + body_loses setup.spec q b ≡ count_in setup t q + body_gains setup.spec logs q b) (sym accept)
          (let brings : accept_brings logs (out_gives q) (body.Accept from at) ≡ cond (same_right r q) (piece_count p) 0 = ap (λ (o : Option LogItem). option_map_or (λ (i : LogItem). out_gives q i.body) o 0) there ∙ ap (out_gives q) gave in
          let none = cond-false (same_right r q) (piece_count p) 0 (other q one) in
          omega (arith, brings, none));
      points = λ q one y. subst (λ (b : Body). point_in setup t q y + out_point q y b ≡ point_in setup t q y + accept_brings logs (out_point q y) b) (sym accept)
          (let brings : accept_brings logs (out_point q y) (body.Accept from at) ≡ cond (same_right r q) (piece_point y p) 0 = ap (λ (o : Option LogItem). option_map_or (λ (i : LogItem). out_point q y i.body) o 0) there ∙ ap (out_point q y) gave in
          let none = cond-false (same_right r q) (piece_point y p) 0 (other q one) in
          omega (arith, brings, none));
      modes = λ q one shared. subst (λ (b : Body). mode_in t q ≡ next_mode setup logs (held_count setup logs me own) (mode_held setup logs me own) x.deps b q) (sym accept)
          (is.modes q one shared ∙ sym (stays q (other q one)));
    })
  where
    both : (b : Bool) (m : Mode) → cond b m m ≡ m
    both true m = refl
    both false m = refl

    stays : (q : Right) → same_right r q ≡ false → next_mode setup logs (held_count setup logs me own) (mode_held setup logs me own) x.deps (body.Accept from at) q ≡ mode_held setup logs me own q
    stays q not_it =
        let n : ℕ = held_count setup logs me own q in
        let m : Mode = mode_held setup logs me own q in
        ap (λ (o : Option LogItem). cond (n == 0) (option_map_or (λ (i : LogItem). out_mode q i.body m) o m) m) there ∙ ap (λ (b : Body). cond (n == 0) (out_mode q b m) m) gave
        ∙ ap (λ (k : Mode). cond (n == 0) k m) (cond-false (same_right r q) (piece_mode p m) m not_it) ∙ both (n == 0) m
