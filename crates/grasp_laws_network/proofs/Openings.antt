-- The opening calls of the agent in a life that begins are answered by steps.
use Rattle.std.proofs.Common.{rules, refl}
use Rattle.grasp_agent.specs.Calls.{next_call, agent_name, objective_name}
use Rattle.grasp_agent.specs.Replies.{after_reply}
use Rattle.grasp_model_node.specs.Begin.{begin, expired}
use Rattle.grasp_model_node.specs.Moves.{with_reading, with_registrations, with_sessions, with_discoveries, with_floods, begin_closing}
use Rattle.grasp_laws_network.specs.Laws.{WorldsBegin}
use Rattle.grasp_model_network.specs.Openings.{answered_seat, opened_seat}

pub worlds_begin : WorldsBegin
unfolding answered_seat opened_seat next_call agent_name objective_name after_reply begin expired with_reading with_registrations with_sessions with_discoveries with_floods begin_closing
worlds_begin plan h x = record {
  registers = record { is_coming = tt; acts = search rules };
  declares = record { is_coming = tt; acts = search rules };
  listens = record { is_coming = tt; acts = search rules };
  number = refl;
  serves = refl;
  pool = refl;
  flags = refl;
  listener = refl;
  quiet = refl;
}
