-- The opening calls of an agent that asks of doubts come of steps.
use Rattle.std.proofs.Common.{◌≡◌, ◌≢◌, ◌==◌, ◌&&◌, Bool, true, false, cond, rules, refl, sym, None, Some, option_map}
use Rattle.std.proofs.lemmas.Bool.{true≢false, ne_eqb}
use Rattle.grasp_agent.specs.Calls.{next_call, agent_name, objective_name}
use Rattle.grasp_agent.specs.Replies.{after_reply}
use Rattle.grasp_asa.specs.declared.entry.Registered.{Registered}
use Rattle.grasp_doubter.specs.Questions.{doubt_name, doubter_name}
use Rattle.grasp_laws_questions.specs.Opening.{QuestionsBegin}
use Rattle.grasp_model_network.specs.Openings.{answered_seat, opened_seat}
use Rattle.grasp_model_node.specs.Begin.{begin, expired}
use Rattle.grasp_model_node.specs.Moves.{with_reading, with_registrations, with_sessions, with_discoveries, with_floods, begin_closing}

-- of two objectives the first has another name, and the second another owner
alone_by : (x y : Registered) (a b : Bool) → b ≡ false → option_map (λ (o : Registered). o.flags) (cond (a && false) (Some x) (cond (b && true) (Some y) None)) ≡ None
alone_by x y true true e = absurd (true≢false e)
alone_by x y true false e = refl
alone_by x y false true e = absurd (true≢false e)
alone_by x y false false e = refl

manager : Registered
manager = record { owner = 1; name = objective_name; flags = 3; listening = true; offered = None }

doubter : Registered
doubter = record { owner = 2; name = doubt_name; flags = 2; listening = true; offered = None }

pub questions_begin : QuestionsBegin
unfolding manager doubter answered_seat opened_seat next_call agent_name objective_name doubt_name doubter_name after_reply begin expired with_reading with_registrations with_sessions with_discoveries with_floods begin_closing
questions_begin plan h x = record {
  registers = record { is_coming = tt; acts = search rules };
  declares = record { is_coming = tt; acts = search rules };
  listens = record { is_coming = tt; acts = search rules };
  serves = record { registered = refl; flags = refl; listens = refl; alone = λ other apart. alone_by manager doubter (1 == other) (2 == other) (ne_eqb 2 other (λ e. apart (sym e))) };
  sessions = refl;
  streams = refl;
  queue = refl;
  reading = refl;
  plan_is = refl;
}
