-- Each line that is taken is said at the end, so the lines that say a document give it again.
use Rattle.std.proofs.Common.{◌≡◌, ◌⊎◌, inl, inr, ℕ, ◌+◌, ◌<◌, ◌≤◌, Bool, true, false, not, ◌&&◌, eqb, List, [], ◌∷◌, ◌++◌, length, map, refl, sym, ap, subst, ◌∙◌, arith, append_assoc, append-nil}
use Rattle.std.specs.Prelude.{Result, Ok, Err, Some, nat_le, codes}
use Rattle.std.specs.List.{AllByRecursion}
use Rattle.std.proofs.lemmas.Bool.{leb-true, leb-false, le-leb, lt-leb, ltb-true, eqb-true, eqb-false}
use Rattle.line_text.specs.declared.cause.Cause.{Cause}
use Rattle.line_text.specs.declared.token.Token.TheVariants.{Word, Number}
use Rattle.line_text.specs.Causes.{◌>>=◌}
use Rattle.line_text.specs.Texts.{line_tokens}
use Rattle.line_text.specs.Tokens.{tokens_of, are_small}
use Rattle.line_text.specs.Forms.{number_at, ended}
use Rattle.line_text.proofs.Guards.{and_true, not_true}
use Rattle.spec_model.specs.declared.clause.Var.{Var}
use Rattle.spec_model.specs.declared.operation.Op.{Op}
use Rattle.run_model.specs.declared.step.Ask.{Ask}
use Rattle.run_model.specs.declared.step.Ask.TheVariants as asks
use Rattle.run_model.specs.declared.step.Order.{Order}
use Rattle.scenario_lines.specs.declared.argument.NamedArg.{NamedArg}
use Rattle.scenario_lines.specs.declared.argument.NamedArg.TheVariants as args
use Rattle.scenario_lines.specs.declared.line.RunLine.{RunLine}
use Rattle.scenario_lines.specs.declared.line.RunLine.TheVariants as lines
use Rattle.scenario_lines.specs.Forms.{run_line, turns_form, number_alone}
use Rattle.scenario_lines.proofs.Spoken.{IsSpoken, spoken}
use Rattle.spec_language.specs.declared.draft.SpecDraft.{SpecDraft}
use Rattle.spec_language.specs.Saying.{op_name}
use Rattle.spec_language.proofs.SaidAgain.{Said as SpecSaid, name_back, map_one}
use Rattle.spec_language.proofs.Limits.{all_one}
use Rattle.scenario_text.specs.declared.document.ClientAsk.{ClientAsk}
use Rattle.scenario_text.specs.declared.document.Work.{Work}
use Rattle.scenario_text.specs.declared.document.Work.TheVariants as works
use Rattle.scenario_text.specs.declared.draft.Draft.{Draft}
use Rattle.scenario_text.specs.Requests as requests
use Rattle.scenario_text.specs.Draft as drafts
use Rattle.scenario_text.specs.Saying as sayings
use Rattle.scenario_text.proofs.Formed.{no_turns}
use Rattle.scenario_text.proofs.Taken as takens
use Rattle.scenario_text.proofs.Taken.{with_spec, with_replicas, with_turns}

-- ---- lines one after the other

abbrev pub run_steps : Draft → List RunLine → Result Draft Cause
run_steps d [] = Ok d
run_steps d (line ∷ rest) = drafts.run_step d line >>= λ e. run_steps e rest

then_more : (r : Result Draft Cause) (rs : List RunLine) (line : RunLine) → ((e : Draft) → run_steps e (rs ++ line ∷ []) ≡ (run_steps e rs >>= λ f. drafts.run_step f line)) → (r >>= λ e. run_steps e (rs ++ line ∷ [])) ≡ ((r >>= λ e. run_steps e rs) >>= λ f. drafts.run_step f line)
then_more (Ok e) rs line more = more e
then_more (Err c) rs line more = refl

one_step : (r : Result Draft Cause) → (r >>= λ e. run_steps e []) ≡ r
one_step (Ok e) = refl
one_step (Err c) = refl

steps_one : (rs : List RunLine) (line : RunLine) (d : Draft) → run_steps d (rs ++ line ∷ []) ≡ (run_steps d rs >>= λ e. drafts.run_step e line)
steps_one [] line d = one_step (drafts.run_step d line)
steps_one (r ∷ rs) line d = then_more (drafts.run_step d r) rs line (steps_one rs line)

-- the lines of the run that say a draft
abbrev pub runs_of : Draft → List RunLine
runs_of d = sayings.run_lines (drafts.document_from d)

-- nothing but a specification
abbrev pub start : SpecDraft → Draft
start s = with_spec drafts.fresh s

again : (d new : Draft) (line : RunLine) → run_steps (start d.spec) (runs_of d) ≡ Ok d → runs_of new ≡ runs_of d ++ line ∷ [] → drafts.run_step d line ≡ Ok new → run_steps (start d.spec) (runs_of new) ≡ Ok new
again d new line so_far says taken = rw (says, steps_one (runs_of d) line (start d.spec), so_far) taken

-- ---- a request comes back

arg_back : (p : Var) (x : NamedArg) → requests.arg_fits p x ≡ true → sayings.say_arg p (requests.span_of x) ≡ x
unfolding sayings.say_arg
arg_back p (args.One n) fits = rw (not_true p.interval fits) refl
arg_back p (args.Span lo hi) fits = rw fits refl

args_back : (ps : List Var) (xs : List NamedArg) → requests.args_fit ps xs ≡ true → sayings.say_args ps (map requests.span_of xs) ≡ xs
args_back [] [] fit = refl
args_back [] (x ∷ xs) fit = absurd cc
args_back (p ∷ ps) [] fit = absurd cc
args_back (p ∷ ps) (x ∷ xs) fit =
    let h = and_true (requests.arg_fits p x) (requests.args_fit ps xs) fit in
    let head = arg_back p x h.0 in
    let tail = args_back ps xs h.1 in
    rw (head, tail) refl

op_back : (ops : List Op) (w : List ℕ) → requests.is_op ops w ≡ true → op_name ops (requests.op_place ops w) ≡ w
unfolding requests.is_op requests.op_place op_name
op_back ops w known = name_back (λ (x : Op). x.name) ops w known

-- a request is said as it was written
record Back (ops : List Op) (op : List ℕ) (xs : List NamedArg) : Type 0 where
  name : op_name ops (requests.inst_of ops op xs).op ≡ op
  args : sayings.inst_args ops (requests.inst_of ops op xs) ≡ xs

request_back : (ops : List Op) (op : List ℕ) (xs : List NamedArg) → requests.is_op ops op ≡ true → requests.request_fits ops op xs ≡ true → Back ops op xs
unfolding requests.request_fits requests.inst_of
request_back ops op xs known fits = record { name = op_back ops op known; args = args_back (requests.params_at ops (requests.op_place ops op)) xs (and_true (nat_le (length xs) 4) _ fits).1 }

-- ---- what is said so far

-- a run, behind its line `replicas`
pub record Late (d : Draft) : Type 0 where
  pub spec : SpecSaid d.spec
  pub seven : 7 ≤ d.rank
  pub orders : (d.rank ≡ 9 → ⊥) → d.orders ≡ []
  pub turns : d.rank < 10 → d.turns ≡ 0
  pub homes : d.rank < 11 → d.homes ≡ []
  pub asks : d.rank < 12 → d.asks ≡ []
  pub said : run_steps (start d.spec) (runs_of d) ≡ Ok d
  pub spoken : AllByRecursion IsSpoken (runs_of d)

pub record Said (d : Draft) : Type 0 where
  pub spec : SpecSaid d.spec
  pub state : (d ≡ start d.spec) ⊎ Late d

is_late : (d : Draft) → Said d → 7 ≤ d.rank → Late d
is_late d s low = elim s.state [ inl early ↦ absurd (zero_rank early) | inr late ↦ late ]
  where
    zero_rank : d ≡ start d.spec → ⊥
    zero_rank e =
        let none : d.rank ≡ 0 = ap (λ (x : Draft). x.rank) e in
        omega (arith, low, none)

as_schedule : (d : Draft) → d.rank < 10 → drafts.work_of d ≡ works.Schedule d.orders
as_schedule d low = rw (lt-leb 10 d.rank low) refl

as_clients : (d : Draft) → 10 ≤ d.rank → drafts.work_of d ≡ works.Clients d.turns d.homes d.asks
as_clients d high = rw (le-leb 10 d.rank high) refl

-- the lines of the work
abbrev work_said : Draft → List RunLine
work_said d = sayings.work_lines d.spec.spec.ops (drafts.work_of d)

-- a line behind those of the work
work_more : (first line : RunLine) (stops work more : List RunLine) → more ≡ work ++ line ∷ [] → first ∷ (stops ++ more) ≡ (first ∷ (stops ++ work)) ++ line ∷ []
work_more first line stops work more e = ap (λ (ls : List RunLine). first ∷ ls) (ap (λ (ls : List RunLine). stops ++ ls) e ∙ sym (append_assoc stops work (line ∷ [])))

no_work : (d : Draft) → d.rank < 9 → d.orders ≡ [] → work_said d ≡ []
no_work d low none = ap (sayings.work_lines d.spec.spec.ops) (as_schedule d (omega (arith, low))) ∙ rw none refl

-- one more line
late_more : (d new : Draft) (line : RunLine) → Late d → IsSpoken line → runs_of new ≡ runs_of d ++ line ∷ [] → drafts.run_step d line ≡ Ok new → (run_steps (start d.spec) (runs_of new) ≡ Ok new) × AllByRecursion IsSpoken (runs_of new)
late_more d new line l one says taken = (again d new line l.said says taken, subst (AllByRecursion IsSpoken) (sym says) (all_one IsSpoken (runs_of d) line l.spoken one))

abbrev done : Draft → Result Draft Cause
done d = Ok d

-- ---- replicas

replicas_late : (s : SpecDraft) (e : Draft) (n : ℕ) → SpecSaid s → IsSpoken (lines.Replicas n) → drafts.run_step (start s) (lines.Replicas n) ≡ Ok e → Late e
unfolding drafts.run_step sayings.run_lines
replicas_late s e n spec one is =
    let t = takens.replicas_taken (start s) e n is in
    let new = with_replicas (start s) n in
    let made : drafts.take_replicas (start s) n ≡ Ok new = is ∙ ap done (sym t.whole) in
    subst Late t.whole (record {
      spec = spec;
      seven = omega arith;
      orders = λ h. refl;
      turns = λ h. refl;
      homes = λ h. refl;
      asks = λ h. refl;
      said = rw made refl;
      spoken = (one, tt);
    })

-- ---- stops

stop_says : (d : Draft) (replica call keep fill : ℕ) → d.rank < 9 → d.orders ≡ [] → runs_of (drafts.add_stop d (record { replica = replica; stop = record { call = call; keep = keep; fill = fill } })) ≡ runs_of d ++ lines.Stop replica call keep fill ∷ []
unfolding sayings.run_lines sayings.say_stop
stop_says d replica call keep fill low none =
    let line = lines.Stop replica call keep fill in
    let stops = map sayings.say_stop d.stops in
    let one = map_one sayings.say_stop d.stops (record { replica = replica; stop = record { call = call; keep = keep; fill = fill } }) in
    ap (λ (ls : List RunLine). lines.Replicas d.replicas ∷ ls)
    (ap (λ (ls : List RunLine). map sayings.say_stop (d.stops ++ record { replica = replica; stop = record { call = call; keep = keep; fill = fill } } ∷ []) ++ ls) (ap (λ (os : List Order). map (sayings.say_order d.spec.spec.ops) os) none)
    ∙ append-nil _ ∙ one ∙ ap (λ (ls : List RunLine). ls ++ line ∷ []) (sym (append-nil stops) ∙ ap (λ (ls : List RunLine). stops ++ ls) (sym (no_work d low none))))

stop_late : (d e : Draft) (replica call keep fill : ℕ) → Said d → IsSpoken (lines.Stop replica call keep fill) → drafts.run_step d (lines.Stop replica call keep fill) ≡ Ok e → Late e
unfolding drafts.run_step
stop_late d e replica call keep fill s one is =
    let t = takens.stop_taken d e replica call keep fill is in
    let low = and_true (nat_le 7 d.rank) (nat_le d.rank 8) t.low in
    let seven = leb-true 7 d.rank low.0 in
    let eight = leb-true d.rank 8 low.1 in
    let l = is_late d s seven in
    let none = l.orders (λ h. omega (arith, eight, h)) in
    let new = drafts.add_stop d (record { replica = replica; stop = record { call = call; keep = keep; fill = fill } }) in
    let more = late_more d new _ l one (stop_says d replica call keep fill (omega (arith, eight)) none) (is ∙ ap done (sym t.whole)) in
    subst Late t.whole (record {
      spec = s.spec;
      seven = omega arith;
      orders = λ h. none;
      turns = λ h. l.turns (omega (arith, eight));
      homes = λ h. l.homes (omega (arith, eight));
      asks = λ h. l.asks (omega (arith, eight));
      said = more.0;
      spoken = more.1;
    })

-- ---- the schedule

order_says : (d new : Draft) (replica : ℕ) (ask : Ask) (line : RunLine) → d.rank ≤ 9 → drafts.document_from new ≡ drafts.document_from (drafts.add_order d replica ask) → sayings.say_step d.spec.spec.ops replica ask ≡ line → runs_of new ≡ runs_of d ++ line ∷ []
unfolding sayings.run_lines sayings.say_order
order_says d new replica ask line low same said =
    let ops = d.spec.spec.ops in
    let orders = map (sayings.say_order ops) d.orders in
    ap sayings.run_lines same ∙ work_more (lines.Replicas d.replicas) line (map sayings.say_stop d.stops) (work_said d) _
    (map_one (sayings.say_order ops) d.orders (record { replica = replica; ask = ask }) ∙ ap (λ (l : RunLine). orders ++ l ∷ []) said ∙ ap (λ (w : Work). sayings.work_lines ops w ++ line ∷ []) (sym (as_schedule d (omega (arith, low)))))

-- what a line of the schedule makes of a draft
order_late : (d new e : Draft) (replica : ℕ) (ask : Ask) (line : RunLine) → Said d → IsSpoken line → drafts.schedule_next d ≡ true → new ≡ e → new.rank ≡ 9 → new.spec ≡ d.spec → new.turns ≡ d.turns → new.homes ≡ d.homes → new.asks ≡ d.asks
    → drafts.document_from new ≡ drafts.document_from (drafts.add_order d replica ask) → sayings.say_step d.spec.spec.ops replica ask ≡ line → drafts.run_step d line ≡ Ok e → Late e
order_late d new e replica ask line s one next whole rank spec turns homes asked same said is =
    let low = and_true (nat_le 7 d.rank) (nat_le d.rank 9) next in
    let seven = leb-true 7 d.rank low.0 in
    let nine = leb-true d.rank 9 low.1 in
    let l = is_late d s seven in
    let more = late_more d new line l one (order_says d new replica ask line nine same said) (is ∙ ap done (sym whole)) in
    subst Late whole (record {
      spec = subst SpecSaid (sym spec) s.spec;
      seven = omega (arith, rank);
      orders = λ h. absurd (h rank);
      turns = λ h. turns ∙ l.turns (omega (arith, nine));
      homes = λ h. homes ∙ l.homes (omega (arith, nine));
      asks = λ h. asked ∙ l.asks (omega (arith, nine));
      said = subst (λ (x : SpecDraft). run_steps (start x) (runs_of new) ≡ done new) (sym spec) more.0;
      spoken = more.1;
    })

do_said : (ops : List Op) (replica : ℕ) (op : List ℕ) (xs : List NamedArg) → Back ops op xs → sayings.say_do ops replica (requests.inst_of ops op xs) ≡ lines.Do replica op xs
do_said ops replica op xs back = rw (back.name, back.args) refl

-- ---- clients

-- the clients, and one more
homes_one : (at : ℕ) (homes : List ℕ) (home : ℕ) → sayings.say_homes at (homes ++ home ∷ []) ≡ sayings.say_homes at homes ++ lines.Client (at + length homes) home ∷ []
homes_one at [] home = ap (λ (n : ℕ). lines.Client n home ∷ []) (let same : at ≡ at + 0 = omega arith in same)
homes_one at (h ∷ homes) home =
    let next : at + 1 + length homes ≡ at + length (h ∷ homes) = omega arith in
    ap (λ (ls : List RunLine). lines.Client at h ∷ ls) (homes_one (at + 1) homes home ∙ ap (λ (n : ℕ). sayings.say_homes (at + 1) homes ++ lines.Client n home ∷ []) next)

no_clients : (f : ClientAsk → RunLine) (turns : ℕ) (homes : List ℕ) (asked : List ClientAsk) → homes ≡ [] → asked ≡ [] → lines.Turns turns ∷ (sayings.say_homes 0 homes ++ map f asked) ≡ lines.Turns turns ∷ []
no_clients f turns homes asked homeless quiet = rw (homeless, quiet) refl

turns_says : (d : Draft) (turns : ℕ) → d.rank < 9 → d.orders ≡ [] → d.homes ≡ [] → d.asks ≡ [] → runs_of (with_turns d turns) ≡ runs_of d ++ lines.Turns turns ∷ []
unfolding sayings.run_lines
turns_says d turns low none homeless quiet =
    work_more (lines.Replicas d.replicas) (lines.Turns turns) (map sayings.say_stop d.stops) (work_said d) _
    (no_clients (sayings.say_ask d.spec.spec.ops) turns d.homes d.asks homeless quiet ∙ ap (λ (ls : List RunLine). ls ++ lines.Turns turns ∷ []) (sym (no_work d low none)))

turns_late : (d e : Draft) (turns : ℕ) → Said d → IsSpoken (lines.Turns turns) → drafts.run_step d (lines.Turns turns) ≡ Ok e → Late e
unfolding drafts.run_step
turns_late d e turns s one is =
    let t = takens.turns_taken d e turns is in
    let low = and_true (nat_le 7 d.rank) (nat_le d.rank 8) t.low in
    let seven = leb-true 7 d.rank low.0 in
    let eight = leb-true d.rank 8 low.1 in
    let l = is_late d s seven in
    let none = l.orders (λ h. omega (arith, eight, h)) in
    let homeless = l.homes (omega (arith, eight)) in
    let quiet = l.asks (omega (arith, eight)) in
    let more = late_more d (with_turns d turns) _ l one (turns_says d turns (omega (arith, eight)) none homeless quiet) (is ∙ ap done (sym t.whole)) in
    subst Late t.whole (record { spec = s.spec; seven = omega arith; orders = λ h. none; turns = λ h. absurd (omega (arith, h)); homes = λ h. homeless; asks = λ h. quiet; said = more.0; spoken = more.1 })

-- `turns 0` is read from its text
zero_read : line_tokens (codes "turns 0") ≡ Ok (Word (codes "turns") ∷ Number 0 ∷ [])
unfolding line_tokens tokens_of are_small
zero_read = refl

zero_formed : run_line (codes "turns") (Number 0 ∷ []) ≡ Ok (Some (lines.Turns 0))
unfolding run_line turns_form number_alone number_at ended
zero_formed = refl

no_turns_spoken : IsSpoken (lines.Turns 0)
no_turns_spoken = spoken (codes "turns 0") (codes "turns") (Number 0 ∷ []) (lines.Turns 0) zero_read zero_formed

one_client : (f : ClientAsk → RunLine) (turns : ℕ) (homes : List ℕ) (home client : ℕ) (asked : List ClientAsk) → client ≡ length homes → asked ≡ []
    → lines.Turns turns ∷ (sayings.say_homes 0 (homes ++ home ∷ []) ++ map f asked) ≡ (lines.Turns turns ∷ (sayings.say_homes 0 homes ++ map f asked)) ++ lines.Client client home ∷ []
one_client f turns homes home client asked is quiet =
    let at : 0 + length homes ≡ client = omega (arith, is) in
    ap (λ (ls : List RunLine). lines.Turns turns ∷ ls)
    (ap (λ (xs : List ClientAsk). sayings.say_homes 0 (homes ++ home ∷ []) ++ map f xs) quiet ∙ append-nil _ ∙ homes_one 0 homes home ∙ ap (λ (n : ℕ). sayings.say_homes 0 homes ++ lines.Client n home ∷ []) at
    ∙ ap (λ (ls : List RunLine). ls ++ lines.Client client home ∷ []) (sym (append-nil (sayings.say_homes 0 homes)) ∙ ap (λ (xs : List ClientAsk). sayings.say_homes 0 homes ++ map f xs) (sym quiet)))

client_says : (d : Draft) (client home : ℕ) → 10 ≤ d.rank → client ≡ length d.homes → d.asks ≡ [] → runs_of (drafts.add_client d home) ≡ runs_of d ++ lines.Client client home ∷ []
unfolding sayings.run_lines
client_says d client home high is quiet =
    let ops = d.spec.spec.ops in
    work_more (lines.Replicas d.replicas) (lines.Client client home) (map sayings.say_stop d.stops) (work_said d) _
    (one_client (sayings.say_ask ops) d.turns d.homes home client d.asks is quiet ∙ ap (λ (w : Work). sayings.work_lines ops w ++ lines.Client client home ∷ []) (sym (as_clients d high)))

-- a client behind the line `turns`
client_behind : (d e : Draft) (client home : ℕ) → Late d → 10 ≤ d.rank → IsSpoken (lines.Client client home) → takens.ClientTaken d e client home → drafts.run_step d (lines.Client client home) ≡ Ok e → Late e
client_behind d e client home l high one t is =
    let a = and_true (nat_le 7 d.rank && nat_le d.rank 11) (not (eqb d.rank 9)) t.low in
    let b = and_true (nat_le 7 d.rank) (nat_le d.rank 11) a.0 in
    let eleven = leb-true d.rank 11 b.1 in
    let r = and_true (eqb client (length d.homes)) (drafts.is_replica d home) t.ranged in
    let none = l.orders (λ h. omega (arith, high, h)) in
    let quiet = l.asks (omega (arith, eleven)) in
    let more = late_more d (drafts.add_client d home) _ l one (client_says d client home high (eqb-true client (length d.homes) r.0) quiet) (is ∙ ap done (sym t.whole)) in
    subst Late t.whole (record { spec = l.spec; seven = omega arith; orders = λ h. none; turns = λ h. absurd (omega (arith, h)); homes = λ h. absurd (omega (arith, h)); asks = λ h. quiet; said = more.0; spoken = more.1 })

-- without a line `turns` the clients go on as behind `turns 0`
turns_given : (d : Draft) → 7 ≤ d.rank → d.rank ≤ 8 → d.asks ≡ [] → drafts.take_turns d 0 ≡ Ok (with_turns d 0)
unfolding drafts.take_turns
turns_given d seven eight quiet = rw (le-leb 7 d.rank seven, le-leb d.rank 8 eight, le-leb (length d.asks + drafts.courier_turns 0 d.replicas) 100000 (no_turns d.asks 0 d.replicas quiet refl)) refl

client_step : (d e : Draft) (client home : ℕ) → d.turns ≡ 0 → takens.ClientTaken d e client home → drafts.take_client (with_turns d 0) client home ≡ Ok (drafts.add_client d home)
unfolding drafts.take_client
client_step d e client home none t = rw (t.ranged, t.room, none) refl

-- the first client where no line `turns` came
client_first : (d e : Draft) (client home : ℕ) → Late d → d.rank ≤ 8 → IsSpoken (lines.Client client home) → takens.ClientTaken d e client home → Late e
unfolding drafts.run_step
client_first d e client home l eight one t =
    let none = l.orders (λ h. omega (arith, eight, h)) in
    let homeless = l.homes (omega (arith, eight)) in
    let quiet = l.asks (omega (arith, eight)) in
    let made = turns_given d l.seven eight quiet in
    let more = late_more d (with_turns d 0) (lines.Turns 0) l no_turns_spoken (turns_says d 0 (omega (arith, eight)) none homeless quiet) made in
    let mid : Late (with_turns d 0) = record { spec = l.spec; seven = omega arith; orders = λ h. none; turns = λ h. absurd (omega (arith, h)); homes = λ h. homeless; asks = λ h. quiet; said = more.0; spoken = more.1 } in
    let step = client_step d e client home (l.turns (omega (arith, eight))) t ∙ ap done t.whole in
    client_behind (with_turns d 0) e client home mid (omega arith) one (takens.client_taken (with_turns d 0) e client home step) step

client_late : (d e : Draft) (client home : ℕ) → Said d → IsSpoken (lines.Client client home) → drafts.run_step d (lines.Client client home) ≡ Ok e → Late e
unfolding drafts.run_step
client_late d e client home s one is =
    let t = takens.client_taken d e client home is in
    let a = and_true (nat_le 7 d.rank && nat_le d.rank 11) (not (eqb d.rank 9)) t.low in
    let b = and_true (nat_le 7 d.rank) (nat_le d.rank 11) a.0 in
    let other = eqb-false d.rank 9 (not_true (eqb d.rank 9) a.1) in
    let l = is_late d s (leb-true 7 d.rank b.0) in
    elim (near d.rank other (nat_le 10 d.rank) refl) [ inl high ↦ client_behind d e client home l high one t is | inr low ↦ client_first d e client home l low one t ]
  where
    near : (n : ℕ) → (n ≡ 9 → ⊥) → (late : Bool) → nat_le 10 n ≡ late → (10 ≤ n) ⊎ (n ≤ 8)
    near n other true e = inl (leb-true 10 n e)
    near n other false e =
        let less = leb-false 10 n e in
        inr (omega (arith, less, other))

ask_says : (d : Draft) (client : ℕ) (ask : Ask) (line : RunLine) → 10 ≤ d.rank → sayings.say_request d.spec.spec.ops client ask ≡ line → runs_of (drafts.add_ask d client ask) ≡ runs_of d ++ line ∷ []
unfolding sayings.run_lines sayings.say_ask
ask_says d client ask line high said =
    let ops = d.spec.spec.ops in
    let homes = sayings.say_homes 0 d.homes in
    let asked = map (sayings.say_ask ops) d.asks in
    work_more (lines.Replicas d.replicas) line (map sayings.say_stop d.stops) (work_said d) _
    (ap (λ (ls : List RunLine). lines.Turns d.turns ∷ (homes ++ ls)) (map_one (sayings.say_ask ops) d.asks (record { client = client; ask = ask }) ∙ ap (λ (l : RunLine). asked ++ l ∷ []) said)
    ∙ ap (λ (ls : List RunLine). lines.Turns d.turns ∷ ls) (sym (append_assoc homes asked (line ∷ []))) ∙ ap (λ (w : Work). sayings.work_lines ops w ++ line ∷ []) (sym (as_clients d high)))

ask_late : (d e : Draft) (client : ℕ) (ask : Ask) (line : RunLine) → Said d → IsSpoken line → drafts.is_client d client ≡ true → takens.AskTaken d e client ask → sayings.say_request d.spec.spec.ops client ask ≡ line → drafts.run_step d line ≡ Ok e → Late e
ask_late d e client ask line s one declared t said is =
    let a = and_true (nat_le 7 d.rank && nat_le d.rank 12) (not (eqb d.rank 9)) t.low in
    let b = and_true (nat_le 7 d.rank) (nat_le d.rank 12) a.0 in
    let l = is_late d s (leb-true 7 d.rank b.0) in
    let client_there : client < length d.homes = ltb-true client (length d.homes) declared in
    let eleven : 11 ≤ d.rank = behind d.rank d.homes client client_there l.homes (nat_le 11 d.rank) refl in
    let none = l.orders (λ h. omega (arith, eleven, h)) in
    let more = late_more d (drafts.add_ask d client ask) line l one (ask_says d client ask line (omega (arith, eleven)) said) (is ∙ ap done (sym t.whole)) in
    subst Late t.whole (record { spec = l.spec; seven = omega arith; orders = λ h. none; turns = λ h. absurd (omega (arith, h)); homes = λ h. absurd (omega (arith, h)); asks = λ h. absurd (omega (arith, h)); said = more.0; spoken = more.1 })
  where
    behind : (n : ℕ) (homes : List ℕ) (c : ℕ) → c < length homes → (n < 11 → homes ≡ []) → (late : Bool) → nat_le 11 n ≡ late → 11 ≤ n
    behind n homes c there homeless true e = leb-true 11 n e
    behind n homes c there homeless false e =
        let none = homeless (leb-false 11 n e) in
        let short : length homes ≡ 0 = ap (λ (hs : List ℕ). length hs) none in
        absurd (omega (arith, there, short))

ask_do_said : (ops : List Op) (client : ℕ) (op : List ℕ) (xs : List NamedArg) → Back ops op xs → sayings.say_ask_do ops client (requests.inst_of ops op xs) ≡ lines.AskDo client op xs
ask_do_said ops client op xs back = rw (back.name, back.args) refl

-- ---- all lines of a run

pub run_late : (d e : Draft) (line : RunLine) → Said d → IsSpoken line → drafts.run_step d line ≡ Ok e → Late e
run_late d e (lines.Replicas n) s one is = elim s.state [ inl early ↦ replicas_late d.spec e n s.spec one (subst (λ (x : Draft). drafts.run_step x (lines.Replicas n) ≡ Ok e) early is) | inr late ↦ absurd (too_late late) ]
  where
    too_late : Late d → ⊥
    too_late l =
        let t = takens.replicas_taken d e n (unfold drafts.run_step in is) in
        let none = eqb-true d.rank 0 t.low in
        let seven = l.seven in
        omega (arith, none, seven)
run_late d e (lines.Stop replica call keep fill) s one is = stop_late d e replica call keep fill s one is
run_late d e (lines.Do replica op xs) s one is =
    let t = takens.do_taken d e replica op xs (unfold drafts.run_step in is) in
    order_late d _ e replica _ (lines.Do replica op xs) s one t.order.low t.order.whole refl refl refl refl refl refl (do_said d.spec.spec.ops replica op xs (request_back d.spec.spec.ops op xs t.known t.fits)) is
run_late d e (lines.Send replica peer) s one is =
    let t = takens.send_taken d e replica peer (unfold drafts.run_step in is) in
    order_late d _ e replica (asks.Send peer (Some (drafts.sent_before d replica peer))) (lines.Send replica peer) s one t.low t.whole refl refl refl refl refl refl refl is
run_late d e (lines.Take replica peer number) s one is =
    let t = takens.take_taken d e replica peer number (unfold drafts.run_step in is) in
    order_late d _ e replica _ (lines.Take replica peer number) s one t.order.low t.order.whole refl refl refl refl refl refl refl is
run_late d e (lines.Crash replica) s one is =
    let t = takens.alone_taken d e replica asks.Crash (unfold drafts.run_step in is) in
    order_late d _ e replica asks.Crash (lines.Crash replica) s one t.order.low t.order.whole refl refl refl refl refl refl refl is
run_late d e (lines.Recover replica) s one is =
    let t = takens.alone_taken d e replica asks.Recover (unfold drafts.run_step in is) in
    order_late d _ e replica asks.Recover (lines.Recover replica) s one t.order.low t.order.whole refl refl refl refl refl refl refl is
run_late d e (lines.Turns turns) s one is = turns_late d e turns s one is
run_late d e (lines.Client client home) s one is = client_late d e client home s one is
run_late d e (lines.AskDo client op xs) s one is =
    let t = takens.request_taken d e client op xs (unfold drafts.run_step in is) in
    let within = and_true (drafts.is_client d client) (requests.request_within d.spec.spec.sorts d.spec.spec.ops op xs) t.within in
    ask_late d e client _ (lines.AskDo client op xs) s one within.0 t.ask (ask_do_said d.spec.spec.ops client op xs (request_back d.spec.spec.ops op xs t.known t.fits)) is
run_late d e (lines.AskCrash client) s one is =
    let t = takens.ask_alone_taken d e client asks.Crash (unfold drafts.run_step in is) in
    ask_late d e client asks.Crash (lines.AskCrash client) s one t.ranged t.ask_taken refl is
run_late d e (lines.AskRecover client) s one is =
    let t = takens.ask_alone_taken d e client asks.Recover (unfold drafts.run_step in is) in
    ask_late d e client asks.Recover (lines.AskRecover client) s one t.ranged t.ask_taken refl is
