-- A piece joins what is held, where there are no more than all, and of points where none is held.
use Rattle.std.proofs.Common.{◌≡◌, ℕ, ◌+◌, ◌<◌, ◌≤◌, Bool, true, false, not, ◌==◌, ◌||◌, List, refl, ap, ◌∙◌, arith}
use Rattle.std.specs.Prelude.{Option, is_some}
use Rattle.std.proofs.lemmas.Bool.{and_from, cond-true, eqb-false, le-leb}
use Rattle.ind_base.specs.declared.span.Span.{Span}
use Rattle.spec_model.specs.declared.plan.Setup.{Setup}
use Rattle.spec_model.specs.declared.right.Held.TheVariants as held
use Rattle.spec_model.specs.declared.right.Mode.{Mode}
use Rattle.spec_model.specs.declared.right.Mode.TheVariants as mode
use Rattle.spec_model.specs.declared.right.Piece.{Piece}
use Rattle.spec_model.specs.declared.right.Piece.TheVariants as piece
use Rattle.spec_model.specs.declared.right.Right.{Right}
use Rattle.spec_model.specs.declared.right.Right.TheVariants as right
use Rattle.spec_model.specs.declared.log.LogItem.{LogItem}
use Rattle.spec_model.specs.Truths.{span_has}
use Rattle.run_model.specs.Allowed.{span_given}
use Rattle.run_model.specs.Balance.{IsConserved}
use Rattle.run_model.specs.Fitting.{PieceFits}
use Rattle.run_model.specs.Holding.{held_right, mode_of}
use Rattle.run_model.specs.Logs.{Logs}
use Rattle.run_model.specs.Passing.{can_accept, same_mode}
use Rattle.run_model.specs.Points.{holds_point, piece_point}
use Rattle.run_model.specs.Rights.{held_count, is_shared, piece_count}
use Rattle.message_laws.proofs.Limits.{limit}
use Rattle.message_laws.proofs.Runs.{no_run}

mode_self : (m : Mode) → same_mode m m ≡ true
mode_self mode.Forbid = refl
mode_self mode.Allow = refl

-- shares in one mode, no more than all
shares_join : (all have n : ℕ) (m given : Mode) → have + n ≤ all → (0 < have → piece.Shares n given ≡ piece.Shares n m) → can_accept all (held.Shares have m) (piece.Shares n given) ≡ true
shares_join all have n m given le one = and_from _ _ (le-leb (have + n) all le) (by_test (have == 0) refl)
  where
    given_is : piece.Shares n given ≡ piece.Shares n m → given ≡ m
    given_is same = cc

    by_test : (t : Bool) → (have == 0) ≡ t → (t || same_mode given m) ≡ true
    by_test true none = refl
    by_test false some = let no = eqb-false have 0 some in let same = given_is (one (omega (arith, no))) in ap (λ g. same_mode g m) same ∙ mode_self m

-- a right that is conserved, by its kind
pub joins : (setup : Setup) (logs : Logs) (me : ℕ) (own : List LogItem) (r : Right) (span : Span) (pc : Piece) → IsConserved setup.spec r → PieceFits setup r pc → held_count setup logs me own r + piece_count pc ≤ limit setup r
    → (is_shared r ≡ true → 0 < held_count setup logs me own r → pc ≡ piece.Shares (piece_count pc) (mode_of setup logs me own r)) → can_accept setup.replicas (held_right setup logs me own r span) pc ≡ true
joins setup logs me own (right.Low cell) span (piece.Count n) conserved fits le one = le-leb _ _ le
joins setup logs me own (right.Low cell) span (piece.Shares n m) conserved fits le one = absurd (let wrong : false ≡ true = fits.0 in cc)
joins setup logs me own (right.Low cell) span (piece.Points s) conserved fits le one = absurd fits
joins setup logs me own (right.High cell) span (piece.Count n) conserved fits le one = le-leb _ _ le
joins setup logs me own (right.High cell) span (piece.Shares n m) conserved fits le one = absurd (let wrong : false ≡ true = fits.0 in cc)
joins setup logs me own (right.High cell) span (piece.Points s) conserved fits le one = absurd fits
joins setup logs me own (right.Lock lock key) span (piece.Count n) conserved fits le one = absurd (let wrong : false ≡ true = fits.0 in cc)
joins setup logs me own (right.Lock lock key) span (piece.Shares n m) conserved fits le one = shares_join setup.replicas _ n _ m le (one refl)
joins setup logs me own (right.Lock lock key) span (piece.Points s) conserved fits le one = absurd fits
joins setup logs me own (right.Entry c args l) span (piece.Count n) conserved fits le one = absurd (let wrong : false ≡ true = fits.0 in cc)
joins setup logs me own (right.Entry c args l) span (piece.Shares n m) conserved fits le one = shares_join setup.replicas _ n _ m le (one refl)
joins setup logs me own (right.Entry c args l) span (piece.Points s) conserved fits le one = absurd fits
joins setup logs me own (right.Part part key) span pc conserved fits le one = absurd cc

-- and a partition's
pub part_joins : (setup : Setup) (logs : Logs) (me : ℕ) (own : List LogItem) (part : ℕ) (key : List ℕ) (pc : Piece) → PieceFits setup (right.Part part key) pc → ((x : ℕ) → 0 < piece_point x pc → holds_point setup logs me own (right.Part part key) x ≡ false)
    → can_accept setup.replicas (held_right setup logs me own (right.Part part key) (span_given pc)) pc ≡ true
part_joins setup logs me own part key (piece.Count n) fits none = absurd (let wrong : false ≡ true = fits.0 in cc)
part_joins setup logs me own part key (piece.Shares n m) fits none = absurd (let wrong : false ≡ true = fits.0 in cc)
part_joins setup logs me own part key (piece.Points s) fits none =
    ap (λ (o : Option Span). not (is_some o)) (no_run (holds_point setup logs me own (right.Part part key)) s (λ x has. none x (omega (arith, cond-true {A = ℕ} (span_has s x) 1 0 has))))
