-- A table stays one by logs that are the same in all that its own log speaks of.
use Rattle.std.proofs.Common.{◌≡◌, ℕ, zero, suc, ◌<◌, true, List, [], ◌∷◌, take, refl, sym, ap, ◌∙◌, arith}
use Rattle.std.specs.Option.{option_map_or}
use Rattle.std.proofs.lemmas.List.Sums.{sum_by-cons}
use Rattle.std.specs.Prelude.{sum_by, slice_get, slice_index, Option, Some, None}
use Rattle.std.proofs.lemmas.Option.{same_Some}
use Rattle.spec_model.specs.declared.plan.Setup.{Setup}
use Rattle.spec_model.specs.declared.right.Mode.{Mode}
use Rattle.spec_model.specs.declared.right.Mode.TheVariants as mode
use Rattle.spec_model.specs.declared.right.Held.{Held}
use Rattle.spec_model.specs.declared.right.Held.TheVariants as held
use Rattle.spec_model.specs.declared.right.Right.{Right}
use Rattle.spec_model.specs.declared.right.Right.TheVariants as right
use Rattle.spec_model.specs.declared.log.Body.{Body}
use Rattle.spec_model.specs.declared.log.Body.TheVariants as body
use Rattle.spec_model.specs.declared.log.LogItem.{LogItem}
use Rattle.spec_model.specs.Truths.{no_span}
use Rattle.run_model.specs.Logs.{Logs, log_at, item_at, IsIn}
use Rattle.run_model.specs.Rights.{is_shared, held_count, accept_brings}
use Rattle.run_model.specs.Points.{out_point}
use Rattle.run_model.specs.Holding.{mode_of}
use Rattle.run_model.proofs.Agreed.{Agrees, AllAgree, gains_all_agree}
use Rattle.run_model.proofs.Alike.{Alike, AllAlike, counts_alike, right_alike}
use Rattle.run_model.proofs.Known.{items_fronts}
use Rattle.run_model.proofs.Lists.{each_weaker}
use Rattle.rights_table.specs.Whole.{SpeaksOfTheSame, TablesLearn}

-- ---- logs that are the same

never : {X : Type 0} (x : X) → ◌≡◌ {A = Option X} None (Some x) → ⊥
never x e = absurd cc

-- lists that have the same in front
take_same : {X : Type 0} (n : ℕ) (xs ys : List X) → ((k : ℕ) → k < n → slice_get xs k ≡ slice_get ys k) → take n xs ≡ take n ys
take_same zero xs ys same = refl
take_same (suc n) [] [] same = refl
take_same (suc n) [] (y ∷ ys) same = absurd (never y (same 0 (omega arith)))
take_same (suc n) (x ∷ xs) [] same = absurd (never x (sym (same 0 (omega arith))))
take_same {X} (suc n) (x ∷ xs) (y ∷ ys) same =
    ap (λ (z : X). z ∷ take n xs) (same_Some x y (same 0 (omega arith)))
    ∙ ap (λ (zs : List X). y ∷ zs) (take_same n xs ys (λ k lt. same (suc k) (omega (arith, lt))))

-- an item that speaks of the same rests on the same
rests : (logs more : Logs) (deps : List ℕ) (b : Body) → ((j k : ℕ) → IsIn deps j k → item_at more j k ≡ item_at logs j k) → ((from at : ℕ) → b ≡ body.Accept from at → item_at more from at ≡ item_at logs from at) → Alike more logs deps b
rests logs more deps (body.Act inst) past accepted = items_fronts deps logs more (λ j. take_same (slice_index deps j) (log_at more j) (log_at logs j) (λ k lt. past j k lt))
rests logs more deps (body.Out to r piece) past accepted = tt
rests logs more deps (body.Accept from at) past accepted = accepted from at refl

agrees : (logs more : Logs) (b : Body) → ((from at : ℕ) → b ≡ body.Accept from at → item_at more from at ≡ item_at logs from at) → Agrees more logs b
agrees logs more (body.Act inst) accepted = tt
agrees logs more (body.Out to r piece) accepted = tt
agrees logs more (body.Accept from at) accepted = accepted from at refl

-- ---- what is held is the same

-- what is accepted brings the same
brings_agree : (a b : Logs) (counted : Body → ℕ) (what : Body) → Agrees a b what → accept_brings a counted what ≡ accept_brings b counted what
brings_agree a b counted (body.Act inst) h = refl
brings_agree a b counted (body.Out to given piece) h = refl
brings_agree a b counted (body.Accept from at) h = ap (λ (o : Option LogItem). option_map_or (λ (out : LogItem). counted out.body) o 0) h

brings_all : (a b : Logs) (counted : Body → ℕ) (own : List LogItem) → AllAgree a b own → sum_by (λ item. accept_brings a counted item.body) own ≡ sum_by (λ item. accept_brings b counted item.body) own
brings_all a b counted [] h = refl
brings_all a b counted (item ∷ own) h =
    omega (arith, sum_by-cons (λ (i : LogItem). accept_brings a counted i.body) item own, sum_by-cons (λ (i : LogItem). accept_brings b counted i.body) item own, brings_agree a b counted item.body h.0, brings_all a b counted own h.1)

abbrev mode_told : Held → Mode
mode_told (held.Shares n m) = m
mode_told h = mode.Forbid

mode_alike : (setup : Setup) (a b : Logs) (me : ℕ) (own : List LogItem) (r : Right) → is_shared r ≡ true → AllAlike a b own → mode_of setup a me own r ≡ mode_of setup b me own r
mode_alike setup a b me own (right.Low cell) shared alike = absurd cc
mode_alike setup a b me own (right.High cell) shared alike = absurd cc
mode_alike setup a b me own (right.Lock l key) shared alike = ap mode_told (right_alike setup a b me own (right.Lock l key) no_span alike)
mode_alike setup a b me own (right.Entry c args i) shared alike = ap mode_told (right_alike setup a b me own (right.Entry c args i) no_span alike)
mode_alike setup a b me own (right.Part p key) shared alike = absurd cc

pub table_learns : TablesLearn
table_learns setup logs more me own t long same all =
    let alike : AllAlike more logs own = each_weaker (SpeaksOfTheSame logs more) (λ (i : LogItem). Alike more logs i.deps i.body) (λ i s. rests logs more i.deps i.body s.past s.accepted) own same in
    let agree = each_weaker (SpeaksOfTheSame logs more) (λ (i : LogItem). Agrees more logs i.body) (λ i s. agrees logs more i.body s.accepted) own same in
    let counted : (r : Right) → held_count setup more me own r ≡ held_count setup logs me own r = λ r. ap (λ (f : Right → ℕ). f r) (counts_alike setup more logs me own alike) in
    let is = all.table in
    record {
      table = record {
        of = is.of;
        counts = λ r one. is.counts r one ∙ sym (counted r);
        modes = λ r one shared. is.modes r one shared ∙ sym (mode_alike setup more logs me own r shared alike);
        covered = λ r one. (let old = is.covered r one in let gains = gains_all_agree setup.spec more logs r own agree in omega (arith, old, gains));
        points = λ r one x. (let old = is.points r one x in let brings = brings_all more logs (out_point r x) own agree in omega (arith, old, brings));
        points_covered = λ r one x. (let old = is.points_covered r one x in let brings = brings_all more logs (out_point r x) own agree in omega (arith, old, brings));
      };
      few = record {
        counts = λ r. (let old = all.few.counts r in let now = counted r in omega (arith, old, now));
        shares = λ r shared. (let old = all.few.shares r shared in let now = counted r in omega (arith, old, now));
      };
    }
