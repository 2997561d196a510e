-- In every network that turns lead to the sessions of each node were made on different streams.
use Rattle.std.proofs.Common.{◌≡◌, refl, subst, ℕ, ◌≤◌, Option, None, Some}
use Rattle.grasp_model_node.specs.Begin.{begin}
use Rattle.grasp_model_node.specs.Draining.{drained, after_drain}
use Rattle.grasp_model_node.specs.Node.{NodeState}
use Rattle.grasp_model_node.specs.declared.plan.NodePlan.{NodePlan}
use Rattle.grasp_pool.specs.Functions.{pool_of, pool_of_image}
use Rattle.grasp_pool.specs.Holdings.{Holding}
use Rattle.grasp_types.specs.declared.reply.Reply.TheVariants.{Outputs}
use Rattle.grasp_types.specs.declared.traffic.Input.TheVariants as input
use Rattle.grasp_laws_network.proofs.EachNode.{drain_steps, nodes_are_sound}
use Rattle.grasp_laws_network.proofs.Here.{visits_are_here}
use Rattle.grasp_laws_network.proofs.Restarted.{restart_seats}
use Rattle.grasp_laws_network.proofs.Telling.{one_agent}
use Rattle.grasp_model_network.specs.Events.{Occurs, visit_of, after_visit}
use Rattle.grasp_laws_network.specs.Keeping.{IsHere}
use Rattle.grasp_model_network.specs.Openings.{opened_seat}
use Rattle.grasp_model_network.specs.Runs.{IsReached, first_world}
use Rattle.grasp_model_network.specs.Sending as network
use Rattle.grasp_model_network.specs.Sending.{drained_at}
use Rattle.grasp_model_network.specs.Setting.{Setting}
use Rattle.grasp_model_network.specs.Visits.{Visit, Choice, MayCome, VisitStep, no_choice}
use Rattle.grasp_model_network.specs.World.{Seat, WorldState, present_life, seat_at}
use Rattle.grasp_model_network.specs.declared.event.Event.{Event}
use Rattle.grasp_laws_delivery.proofs.AfterSteps.{seats_stepped, each_seat, each_drained, agent_keeps}
use Rattle.grasp_laws_delivery.proofs.Holding.{IsStep, parts_keep}
use Rattle.grasp_laws_negotiation.proofs.Drained.{first_of}
use Rattle.grasp_laws_negotiation.proofs.Networks.{network_stands}
use Rattle.grasp_laws_negotiation.specs.Grounds.{Grounds}
use Rattle.grasp_laws_negotiation.specs.Streams.{StreamsDiffer}
use Rattle.grasp_laws_negotiation.proofs.Lasting.{unseen_made}
use Rattle.grasp_laws_negotiation.proofs.Left.{begun_unseen}
use Rattle.grasp_laws_negotiation.proofs.StepsDiffer.{step_differs}

abbrev pub SeatDiffers : ℕ → Seat → Type 0
SeatDiffers node seat = StreamsDiffer seat.core.sessions

abbrev pub AllDiffer : WorldState → Type 0
AllDiffer w = (node : ℕ) (seat : Seat) → seat_at w node ≡ Some seat → SeatDiffers node seat

-- no session was made yet in a life that begins
begun_differ : (plan : NodePlan) (h : Holding) → StreamsDiffer (opened_seat plan h).core.sessions
begun_differ plan h x y a b e = absurd (unseen_made (opened_seat plan h).core.sessions x.stream (begun_unseen plan h x.stream) x a refl)

first_differ : (s : Setting) → AllDiffer (first_world s)
first_differ s node seat found = let f = first_of s node seat found in subst (λ (z : Seat). StreamsDiffer z.core.sessions) f.1 (begun_differ f.0.plan (pool_of f.0.roots))

module _ (l : Grounds) (s : Setting) where
  event_differs : (w : WorldState) (e : Event) (c : Choice) (v : Visit) → IsReached s w → AllDiffer w → Occurs s w e c → visit_of s w e ≡ Some v → IsStep e → AllDiffer (after_visit s w e v c)
  event_differs w e c v r d o is stepping =
      each_seat SeatDiffers w (after_visit s w e v c) v c here.member.least (seats_stepped s w e v c stepping)
      (λ agent agent_is found. step_differs v.seat.core c.after v.now c.coming (nodes_are_sound.sound s w r v.node v.seat here.stands) ((network_stands l s w r).clear v.node v.seat here.stands)
      (d v.node v.seat here.stands) v.input c.reply step.steps)
      (λ node seat apart found. d node seat found)
    where
      here : IsHere w v
      here = visits_are_here s w e v is

      step : VisitStep v c
      step = subst (λ (x : Option Visit). MayCome x c) is o.comes

  drain_differs : (w : WorldState) (node max : ℕ) → IsReached s w → AllDiffer w → 1 ≤ node → AllDiffer (network.drained s w node max)
  unfolding network.drained
  drain_differs w node max r d least = by_seat (seat_at w node) refl where
    by_seat : (o : Option Seat) → seat_at w node ≡ o → AllDiffer (drained_at s w node max o)
    by_seat None here = d
    by_seat (Some seat) here =
        let m : NodeState = begin seat.core seat.core.reading in
        each_drained SeatDiffers s w node seat m max least
        (step_differs seat.core (after_drain m max) seat.core.reading no_choice.coming (nodes_are_sound.sound s w r node seat here) ((network_stands l s w r).clear node seat here)
        (d node seat here) (input.Drain max) (Outputs (drained m max)) (drain_steps seat.core seat.core.reading max no_choice.coming))
        (λ n other apart found. d n other found)

  pub all_differ : (w : WorldState) → IsReached s w → AllDiffer w
  all_differ w r = parts_keep s AllDiffer (record {
    steps = λ w e c v r d o is stepping q. event_differs w e c v r d o is stepping;
    told = λ w x e r t d. agent_keeps (λ ts node seat. SeatDiffers node seat) w x (one_agent s w e x t) (λ k. k) d;
    drains = λ w node max r d least. drain_differs w node max r d least;
    settles = λ w x node p r t d. agent_keeps (λ ts n seat. SeatDiffers n seat) w x t.one (λ k. k) d;
    restarts = λ w x node image r t d. restart_seats SeatDiffers s w node image x t (d (present_life w node) t.seat t.here) (begun_differ t.member.plan (pool_of_image image)) d;
  }) (first_differ s) w r
