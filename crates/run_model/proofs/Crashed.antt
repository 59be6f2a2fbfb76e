-- The definitions at small runs with a crash, by computing: a take whose batch is pending, and a recovery that finds it or not.
use Rattle.std.proofs.Common.{◌≡◌, inl, inr, ℕ, true, [], ◌∷◌, refl, arith}
use Rattle.std.specs.Prelude.{pos, Some, None}
use Rattle.spec_model.specs.declared.operation.Op.{Op}
use Rattle.spec_model.specs.declared.operation.Line.TheVariants as line
use Rattle.spec_model.specs.declared.plan.Plan.{Plan}
use Rattle.spec_model.specs.declared.plan.Setup.{Setup}
use Rattle.spec_model.specs.declared.spec.Num.{Num}
use Rattle.spec_model.specs.declared.spec.Spec.{Spec}
use Rattle.spec_model.specs.declared.instance.Inst.{Inst}
use Rattle.spec_model.specs.declared.instance.Cell.{Cell}
use Rattle.spec_model.specs.declared.right.Right.TheVariants as right
use Rattle.spec_model.specs.declared.right.Need.{Need}
use Rattle.spec_model.specs.declared.right.Amount.TheVariants as amount
use Rattle.spec_model.specs.declared.right.Held.TheVariants as held
use Rattle.spec_model.specs.declared.right.Piece.TheVariants as piece
use Rattle.spec_model.specs.declared.right.Lacking.{Lacking}
use Rattle.spec_model.specs.declared.right.WantAsk.TheVariants as asked
use Rattle.spec_model.specs.declared.log.Body.TheVariants as body
use Rattle.spec_model.specs.declared.log.LogItem.{LogItem}
use Rattle.run_model.specs.declared.batch.Batch.{Batch}
use Rattle.run_model.specs.declared.message.Message.{Message}
use Rattle.run_model.specs.declared.step.Ask.{Ask}
use Rattle.run_model.specs.declared.step.Ask.TheVariants as asks
use Rattle.run_model.specs.declared.step.Outcome.{Outcome}
use Rattle.run_model.specs.declared.step.Outcome.TheVariants as outcomes
use Rattle.run_model.specs.declared.step.StepEntry.{StepEntry}
use Rattle.run_model.specs.declared.history.Hold.TheVariants as hold
use Rattle.run_model.specs.Logs.{Logs}
use Rattle.run_model.specs.Worlds.{Standing, Sending, World, logs_of, first_standing, first_world, logged, items_between, with_batch, stopped, restarted}
use Rattle.run_model.specs.Steps.{message_of, received, answered, dropped, Takes}
use Rattle.run_model.specs.Runs.{WorldSteps, Runs}
use Rattle.run_model.specs.Finals.{last_of, final_of}

-- ---- two of a stock, and two replicas

abbrev stock_num : Num
stock_num = record { name = []; sorts = []; init = pos 2; min = Some (pos 0); max = None }

abbrev buy_op : Op
buy_op = record { name = []; params = []; lines = line.Sub 0 [] 1 ∷ [] }

abbrev stock_spec : Spec
stock_spec = record { sorts = []; preds = []; nums = stock_num ∷ []; clauses = []; ops = buy_op ∷ []; free = [] }

abbrev no_plan : Plan
no_plan = record { locks = []; masks = []; parts = [] }

abbrev stock : Setup
stock = record { spec = stock_spec; plan = no_plan; replicas = 2 }

abbrev buy : Inst
buy = record { op = 0; args = [] }

abbrev cell : Cell
cell = record { num = 0; args = [] }

abbrev one_more : Need
one_more = record { right = right.Low cell; amount = amount.Count 1 }

abbrev both_up : World
both_up = first_world 2 (true ∷ true ∷ [])

abbrev second_first : Standing
second_first = first_standing 2 true

abbrev at_stamp : ℕ → Standing → Standing
at_stamp n p = record p { stamp = n }

-- ---- what the first replica does: it buys, is short, and sends

-- the item that it logs, which is the batch that it keeps
abbrev act_item : LogItem
act_item = record { origin = 0; index = 0; deps = 0 ∷ 0 ∷ []; body = body.Act buy }

abbrev with_act : Standing
with_act = logged 0 (body.Act buy) (first_standing 2 true)

abbrev bought : Standing
bought = record with_act { stamp = 1; kept = record { items = act_item ∷ [] } ∷ [] }

abbrev short_of : Lacking
short_of = record { need = one_more; held = held.Count 0 }

abbrev short : Standing
short = record bought { stamp = 2; wants = record { right = right.Low cell; ask = asked.Count 1 } ∷ [] }

abbrev its_message : Message
its_message = message_of stock (logs_of (short ∷ second_first ∷ [])) 0 1 0 3 short

abbrev its_sending : Sending
its_sending = record { to = 1; stamp = 3; message = Some its_message }

abbrev sent : Standing
sent = record short { stamp = 3; sendings = its_sending ∷ [] }

abbrev entry : ℕ → ℕ → Ask → Outcome → StepEntry
entry stamp replica ask outcome = record { stamp = stamp; replica = replica; ask = ask; outcome = outcome }

buys : WorldSteps stock both_up (entry 1 0 (asks.Do buy) (outcomes.Done 0)) (bought ∷ second_first ∷ [])
buys = record {
  before = first_standing 2 true;
  after = bought;
  heard = None;
  admitted = [];
  applied = [];
  was = refl;
  hears = refl;
  becomes = refl;
  steps = record {
    replica = refl;
    stamp = refl;
    after = with_act;
    becomes = refl;
    answers = record { would = outcomes.Done 0; draft = with_act; drafts = (refl, (refl, refl)); ends = inl (refl, refl, refl) };
  };
}

is_short : WorldSteps stock (bought ∷ second_first ∷ []) (entry 2 0 (asks.Do buy) (outcomes.Short short_of)) (short ∷ second_first ∷ [])
is_short = record {
  before = bought;
  after = short;
  heard = None;
  admitted = [];
  applied = [];
  was = refl;
  hears = refl;
  becomes = refl;
  steps = record {
    replica = refl;
    stamp = refl;
    after = at_stamp 1 short;
    becomes = refl;
    answers = record { would = outcomes.Short short_of; draft = at_stamp 1 short; drafts = (refl, (refl, refl)); ends = inl (refl, refl, refl) };
  };
}

sends : WorldSteps stock (short ∷ second_first ∷ []) (entry 3 0 (asks.Send 1 (Some 0)) (outcomes.Sent 0 1 1)) (sent ∷ second_first ∷ [])
sends = record {
  before = short;
  after = sent;
  heard = None;
  admitted = [];
  applied = [];
  was = refl;
  hears = refl;
  becomes = refl;
  steps = record {
    replica = refl;
    stamp = refl;
    after = at_stamp 2 sent;
    becomes = refl;
    answers = record {
      would = outcomes.Sent 0 1 1;
      draft = at_stamp 2 sent;
      ends = inl (refl, refl, refl);
      drafts = (refl, record { other = λ same. absurd cc; counted = refl; outcome_is = refl; becomes = refl });
    };
  };
}

-- ---- the second takes it, and its disk fails

abbrev logs_then : Logs
logs_then = logs_of (sent ∷ second_first ∷ [])

-- after the take, if the batch is kept at once
abbrev before_outs : Standing
before_outs = dropped stock logs_then 1 (received 1 its_message its_message.items second_first)

abbrev drafted : Standing
drafted = answered stock logs_then 1 0 its_message.wants before_outs

abbrev batch : Batch
batch = record { items = items_between its_message.items second_first drafted }

-- the item that it applies and an Out of the one that it holds
batch_is : batch.items ≡ (let out : LogItem = record { origin = 1; index = 0; deps = 1 ∷ 0 ∷ []; body = body.Out 0 (right.Low cell) (piece.Count 1) } in act_item ∷ out ∷ [])
batch_is = refl

abbrev waits : Standing
waits = at_stamp 4 (stopped 2 (Some batch) second_first)

takes : Takes stock logs_then 1 its_message its_message.items second_first (outcomes.Took 0 1 0 1) drafted
takes = record {
  gave = 1;
  before_answers = before_outs;
  before_is = refl;
  becomes = refl;
  gave_is = refl;
  outcome_is = refl;
  admitted = record { rest = []; prefix = refl; ready = (λ i. omega arith, tt); longest = tt };
}

breaks : WorldSteps stock (sent ∷ second_first ∷ []) (entry 4 1 (asks.Take 0 (Some 0)) outcomes.DiskBroken) (sent ∷ waits ∷ [])
breaks = record {
  before = second_first;
  after = waits;
  heard = Some its_sending;
  admitted = its_message.items;
  applied = [];
  was = refl;
  hears = (its_sending, refl, refl);
  becomes = refl;
  steps = record {
    replica = refl;
    stamp = refl;
    after = stopped 2 (Some batch) second_first;
    becomes = refl;
    answers = record { would = outcomes.Took 0 1 0 1; draft = drafted; drafts = takes; ends = inr (batch, refl, refl, refl, refl) };
  };
}

-- ---- the recovery

abbrev found : Standing
found = restarted 2 (with_batch 1 batch.items waits)

abbrev with_it : Standing
with_it = record found { stamp = 5; kept = batch ∷ [] }

finds_it : WorldSteps stock (sent ∷ waits ∷ []) (entry 5 1 asks.Recover outcomes.Kept) (sent ∷ with_it ∷ [])
finds_it = record {
  before = waits;
  after = with_it;
  heard = None;
  admitted = [];
  applied = its_message.items;
  was = refl;
  hears = refl;
  becomes = refl;
  steps = record { replica = refl; stamp = refl; after = found; becomes = refl; answers = (refl, inl (inl (refl, refl, refl))) };
}

abbrev without_it : Standing
without_it = at_stamp 5 (restarted 2 waits)

loses_it : WorldSteps stock (sent ∷ waits ∷ []) (entry 5 1 asks.Recover outcomes.Lost) (sent ∷ without_it ∷ [])
loses_it = record {
  before = waits;
  after = without_it;
  heard = None;
  admitted = [];
  applied = [];
  was = refl;
  hears = refl;
  becomes = refl;
  steps = record { replica = refl; stamp = refl; after = restarted 2 waits; becomes = refl; answers = (refl, inl (inr (refl, refl, refl))) };
}

-- it stays pending through a crash
still_waits : WorldSteps stock (sent ∷ waits ∷ []) (entry 5 1 asks.Crash outcomes.Down) (sent ∷ at_stamp 5 waits ∷ [])
still_waits = record {
  before = waits;
  after = at_stamp 5 waits;
  heard = None;
  admitted = [];
  applied = [];
  was = refl;
  hears = refl;
  becomes = refl;
  steps = record { replica = refl; stamp = refl; after = waits; becomes = refl; answers = (refl, (refl, refl, refl)) };
}

-- and through a recovery that fails
cannot_tell : WorldSteps stock (sent ∷ waits ∷ []) (entry 5 1 asks.Recover outcomes.DiskBroken) (sent ∷ at_stamp 5 waits ∷ [])
cannot_tell = record {
  before = waits;
  after = at_stamp 5 waits;
  heard = None;
  admitted = [];
  applied = [];
  was = refl;
  hears = refl;
  becomes = refl;
  steps = record { replica = refl; stamp = refl; after = waits; becomes = refl; answers = (refl, inr (refl, refl, refl)) };
}

-- a take of a replica that is down takes nothing, and its stamp counts on alone
takes_nothing : WorldSteps stock (sent ∷ at_stamp 0 waits ∷ []) (entry 1 1 (asks.Take 0 (Some 0)) outcomes.Down) (sent ∷ at_stamp 1 waits ∷ [])
takes_nothing = record {
  before = at_stamp 0 waits;
  after = at_stamp 1 waits;
  heard = None;
  admitted = [];
  applied = [];
  was = refl;
  hears = refl;
  becomes = refl;
  steps = record { replica = refl; stamp = refl; after = at_stamp 0 waits; becomes = refl; answers = (refl, (refl, refl, refl)) };
}

-- what was wanted is forgotten
forgets : (stopped 2 None short).wants ≡ []
forgets = refl

-- it shows a cut of one item of each, one of the stock, and holds nothing
kept_at_the_end : final_of stock (logs_of (sent ∷ with_it ∷ [])) 1 with_it ≡ record { cut = 1 ∷ 1 ∷ []; truths = []; values = record { cell = cell; value = pos 1 } ∷ []; holds = [] }
kept_at_the_end = refl

-- it shows nothing of it
lost_at_the_end : final_of stock (logs_of (sent ∷ without_it ∷ [])) 1 without_it ≡ record { cut = 0 ∷ 0 ∷ []; truths = []; values = record { cell = cell; value = pos 2 } ∷ []; holds = hold.Count (right.Low cell) 1 ∷ [] }
lost_at_the_end = refl

-- a replica that is down shows no state
down_at_the_end : last_of waits.running (final_of stock (logs_of (sent ∷ waits ∷ [])) 1 waits) ≡ None
down_at_the_end = refl

-- the steps are a run
kept_run : Runs stock both_up (entry 1 0 (asks.Do buy) (outcomes.Done 0) ∷ entry 2 0 (asks.Do buy) (outcomes.Short short_of) ∷ entry 3 0 (asks.Send 1 (Some 0)) (outcomes.Sent 0 1 1) ∷ entry 4 1 (asks.Take 0 (Some 0)) outcomes.DiskBroken ∷ entry 5 1 asks.Recover outcomes.Kept ∷ [])
    (sent ∷ with_it ∷ [])
kept_run = (bought ∷ second_first ∷ [], buys, (short ∷ second_first ∷ [], is_short, (sent ∷ second_first ∷ [], sends, (sent ∷ waits ∷ [], breaks, (sent ∷ with_it ∷ [], finds_it, refl)))))

-- ---- a crash, a send that is down, and a take of what was never sent

abbrev crashed : Standing
crashed = at_stamp 1 (stopped 2 None second_first)

abbrev none_sent : Sending
none_sent = record { to = 1; stamp = 2; message = None }

abbrev sent_none : Standing
sent_none = record crashed { stamp = 2; sendings = none_sent ∷ [] }

stops : WorldSteps stock both_up (entry 1 0 asks.Crash outcomes.Stopped) (crashed ∷ second_first ∷ [])
stops = record {
  before = second_first;
  after = crashed;
  heard = None;
  admitted = [];
  applied = [];
  was = refl;
  hears = refl;
  becomes = refl;
  steps = record {
    replica = refl;
    stamp = refl;
    after = stopped 2 None second_first;
    becomes = refl;
    answers = record { would = outcomes.Stopped; draft = stopped 2 None second_first; drafts = (refl, refl, refl); ends = inl (refl, refl, refl) };
  };
}

is_down : WorldSteps stock (crashed ∷ second_first ∷ []) (entry 2 0 (asks.Send 1 (Some 0)) outcomes.Down) (sent_none ∷ second_first ∷ [])
is_down = record {
  before = crashed;
  after = sent_none;
  heard = None;
  admitted = [];
  applied = [];
  was = refl;
  hears = refl;
  becomes = refl;
  steps = record {
    replica = refl;
    stamp = refl;
    after = at_stamp 1 sent_none;
    becomes = refl;
    answers = (refl, (refl, record { other = λ same. absurd cc; counted = refl; outcome_is = refl; becomes = refl }));
  };
}

-- its stamp comes after that of the step that sent nothing
is_unsent : WorldSteps stock (sent_none ∷ second_first ∷ []) (entry 3 1 (asks.Take 0 (Some 0)) outcomes.Unsent) (sent_none ∷ at_stamp 3 second_first ∷ [])
is_unsent = record {
  before = second_first;
  after = at_stamp 3 second_first;
  heard = Some none_sent;
  admitted = [];
  applied = [];
  was = refl;
  hears = (none_sent, refl, refl);
  becomes = refl;
  steps = record {
    replica = refl;
    stamp = refl;
    after = second_first;
    becomes = refl;
    answers = record { would = outcomes.Unsent; draft = second_first; drafts = (refl, refl, refl); ends = inl (refl, refl, refl) };
  };
}

-- ---- a take without a number, which finds no message

idles : WorldSteps stock both_up (entry 1 1 (asks.Take 0 None) outcomes.Idle) (second_first ∷ at_stamp 1 second_first ∷ [])
idles = record {
  before = second_first;
  after = at_stamp 1 second_first;
  heard = None;
  admitted = [];
  applied = [];
  was = refl;
  hears = refl;
  becomes = refl;
  steps = record {
    replica = refl;
    stamp = refl;
    after = second_first;
    becomes = refl;
    answers = record { would = outcomes.Idle; draft = second_first; drafts = (refl, refl, refl); ends = inl (refl, refl, refl) };
  };
}
