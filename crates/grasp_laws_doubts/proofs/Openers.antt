-- What each part of an event keeps of who opened the sessions in which agents of prefixes give.
use Rattle.std.proofs.Common.{◌≡◌, refl, sym, ap, ◌∙◌, subst, ℕ, List, Contains, Some}
use Rattle.grasp_agent.specs.Calls.{next_call, objective_name}
use Rattle.grasp_agent.specs.Replies.{after_reply}
use Rattle.grasp_types.specs.declared.objective.Objective.{Objective}
use Rattle.grasp_types.specs.declared.reply.ApiAnswer.TheVariants as answer
use Rattle.grasp_types.specs.declared.reply.Reply.TheVariants as reply
use Rattle.grasp_session.specs.Sessions.{Sessions}
use Rattle.grasp_doubter.specs.Seeing.{after_saw}
use Rattle.grasp_doubter.specs.States.{DoubterState}
use Rattle.grasp_doubter.specs.declared.seen.Opener.{Opener}
use Rattle.grasp_model_node.specs.Begin.{begin}
use Rattle.grasp_model_node.specs.Node.{NodeState}
use Rattle.grasp_model_node.specs.Step.{Calls, NodeStep}
use Rattle.grasp_model_network.specs.EventSteps.{after_agent, agent_input}
use Rattle.grasp_model_network.specs.Runs.{IsReached}
use Rattle.grasp_model_network.specs.Sending.{seat_with}
use Rattle.grasp_model_network.specs.Setting.{Setting, numbered}
use Rattle.grasp_model_network.specs.Visits.{Choice}
use Rattle.grasp_model_network.specs.World.{Seat, WorldState, present_life, seat_at}
use Rattle.grasp_model_doubts.specs.Runs.{IsToldOpeners}
use Rattle.grasp_model_doubts.specs.World.{with_doubter}
use Rattle.grasp_laws_network.proofs.Here.{numbered_within}
use Rattle.grasp_laws_network.proofs.Staying.{put_here}
use Rattle.grasp_laws_node.proofs.PlansStay.{step_plan}
use Rattle.grasp_laws_prefixes.proofs.Standing.{AllStay}
use Rattle.grasp_laws_prefixes.proofs.Places.{same_stay}
use Rattle.grasp_laws_doubts.proofs.Both.{agent_put, put_both, put_doubter}
use Rattle.grasp_laws_doubts.proofs.Calling.{IsCalled, agent_called, incoming_takes}
use Rattle.grasp_laws_doubts.proofs.Changing.{MadeStay, itself}
use Rattle.grasp_laws_doubts.proofs.Cores.{SameCores, cores_plans, put_plans}
use Rattle.grasp_laws_doubts.proofs.Opening.{PlansLast, WasOpener, kept, new_opener, opened_on, saw_openers, told}
use Rattle.grasp_laws_doubts.proofs.Parts.{agent_visit_of}
use Rattle.grasp_laws_doubts.proofs.Taking.{HasSeen}
use Rattle.grasp_laws_doubts.specs.Grounds.{Grounds}
use Rattle.grasp_laws_doubts.specs.Opening.{IsOpenedBy, OpenersStand}

made_still : (z : Sessions) → MadeStay 1 z z
made_still z x made own = (x, made, itself x)

-- only agents and offers are others
pub cores_openers : (w y : WorldState) (ds : List DoubterState) → SameCores w y → OpenersStand w ds → OpenersStand y ds
cores_openers w y ds k all node new there d is o has =
    let f = k.back node new there in
    opened_on w y (cores_plans w y k) (same_stay w.streams y.streams k.streams) node f.0.core.sessions new.core.sessions
    (subst (λ (n : NodeState). MadeStay 1 f.0.core.sessions n.sessions) (sym f.2) (made_still f.0.core.sessions)) o (all node f.0 f.1 d is o has)

-- a doubter is another one, which has seen what it had
pub doubter_openers : (w : WorldState) (ds : List DoubterState) (node : ℕ) (d f : DoubterState) → numbered ds node ≡ Some d → HasSeen d f → OpenersStand w ds → OpenersStand w (with_doubter ds node f)
doubter_openers w ds node d f is seen all =
    put_doubter (λ n seat x. (o : Opener) → Contains x.openers o → IsOpenedBy w n seat.core.sessions o) w ds node f (numbered_within ds node d is).least
    (λ seat here o has. all node seat here d is o (subst (λ os. Contains os o) seen.openers has)) all

-- a call of an agent of prefixes
module _ (l : Grounds) (s : Setting) (told_so : IsToldOpeners s) (w : WorldState) (ds : List DoubterState) (node : ℕ) (seat : Seat) (d : DoubterState) (c : Choice) (r : IsReached s w) (present : present_life w node ≡ node)
    (here : seat_at w node ≡ Some seat) (is : numbered ds node ≡ Some d) (step : NodeStep seat.core seat.core.reading (agent_input seat.agent) c.coming c.reply c.after)
    (q : IsReached s (after_agent w (agent_visit_of w node seat) c)) (stay : AllStay w.streams (after_agent w (agent_visit_of w node seat) c).streams) (all : OpenersStand w ds) where
  abbrev y : WorldState
  y = after_agent w (agent_visit_of w node seat) c

  abbrev new : Seat
  new = seat_with c.after (after_reply seat.agent c.reply)

  abbrev f : DoubterState
  f = after_saw d (after_reply seat.agent c.reply).pool (next_call seat.agent) c.reply

  there : seat_at y node ≡ Some new
  there = ap (λ xs. numbered xs node) (agent_put w node seat c present) ∙ put_here w.seats node seat new here

  pub agent_plans : PlansLast w y
  agent_plans =
      put_plans w y node seat new (numbered_within w.seats node seat here).least here (agent_put w node seat c present)
      (step_plan seat.core c.after seat.core.reading (agent_input seat.agent) c.coming c.reply step)

  call : IsCalled 1 objective_name seat.core c.after (next_call seat.agent) c.reply
  call = agent_called l s w r node seat here c step

  own : (o : Opener) → Contains f.openers o → IsOpenedBy y node c.after.sessions o
  own o has = by_case (saw_openers d (after_reply seat.agent c.reply).pool (next_call seat.agent) c.reply o has) where
    by_case : WasOpener d c.reply o → IsOpenedBy y node c.after.sessions o
    by_case (kept before) = opened_on w y agent_plans stay node seat.core.sessions c.after.sessions call.stay o (all node seat here d is o before)
    by_case (told objective e) =
        let t =
        incoming_takes l.prefixes.means 1 objective_name (begin seat.core call.now) c.after call.sound_begun (next_call seat.agent) o.handle o.address objective call.serves
        (subst (λ x. Calls (begin seat.core call.now) 1 (next_call seat.agent) x c.after) e call.calls) in
        new_opener l s told_so y q node new there (begin seat.core call.now) t.0 o.handle o.address objective t.1 call.sound_begun

  pub agent_openers : OpenersStand y (with_doubter ds node f)
  agent_openers =
      put_both (λ n z x. (o : Opener) → Contains x.openers o → IsOpenedBy y n z.core.sessions o) w y ds node new f (numbered_within w.seats node seat here).least (agent_put w node seat c present) own
      (λ n z apart at x it o has. opened_on w y agent_plans stay n z.core.sessions z.core.sessions (made_still z.core.sessions) o (all n z at x it o has))
