-- Each node of a network that turns lead to is fed, and whatever an event brings to it is bytes.
use Rattle.std.proofs.Common.{◌≡◌, refl, sym, subst, arith, ℕ, ◌<◌, ◌≤◌, Bool, Option, None, Some, All}
use Rattle.std.proofs.lemmas.Option.{none-some}
use Rattle.grasp_laws_node.proofs.Divided.Nodes.{fed_nodes_kept}
use Rattle.grasp_laws_node.proofs.Bounded.Nodes.{nodes_kept}
use Rattle.grasp_model_node.specs.Begin.{begin}
use Rattle.grasp_model_node.specs.Draining.{drained, after_drain}
use Rattle.grasp_model_node.specs.Divided.{IsDivided, HasBytes}
use Rattle.grasp_model_node.specs.Node.{NodeState, first_node}
use Rattle.grasp_model_node.specs.Queue.{encoding}
use Rattle.grasp_model_node.specs.BoundedNodes.{IsBoundedNode}
use Rattle.grasp_model_node.specs.Step.{Coming, NodeStep}
use Rattle.grasp_pool.specs.Holdings.{Holding}
use Rattle.grasp_session.specs.Messages.{other}
use Rattle.grasp_types.specs.declared.reply.ApiAnswer.{ApiAnswer}
use Rattle.grasp_types.specs.declared.reply.ApiAnswer.TheVariants as answer
use Rattle.grasp_types.specs.declared.reply.Reply.{Reply}
use Rattle.grasp_types.specs.declared.reply.Reply.TheVariants as reply
use Rattle.grasp_types.specs.declared.traffic.Input.{Input}
use Rattle.grasp_types.specs.declared.traffic.Input.TheVariants as input
use Rattle.grasp_laws_network.proofs.EachNode.{drain_steps}
use Rattle.grasp_laws_network.proofs.Here.{visits_are_here}
use Rattle.grasp_laws_network.proofs.Openings.{worlds_begin}
use Rattle.grasp_model_network.proofs.Facts.{numbered_all}
use Rattle.grasp_model_network.specs.EventSteps.{agent_visit, agent_seat, agent_input, datagram_visit, datagram_at}
use Rattle.grasp_model_network.specs.Events.{visit_of}
use Rattle.grasp_model_network.specs.GoodSetting.{IsGoodMember, IsGoodSetting}
use Rattle.grasp_laws_network.specs.Keeping.{IsFedWhere}
use Rattle.grasp_laws_network.specs.Laws.{IsAnswered}
use Rattle.grasp_model_network.specs.StreamChanges.{side_named}
use Rattle.grasp_model_network.specs.Runs.{IsReached}
use Rattle.grasp_model_network.specs.Openings.{fresh_seat, answered_seat, opened_seat}
use Rattle.grasp_model_network.specs.Setting.{Member, Setting, numbered}
use Rattle.grasp_model_network.specs.Streams.{next_bytes}
use Rattle.grasp_model_network.specs.Visits.{Visit, MayCome, no_choice}
use Rattle.grasp_model_network.specs.World.{Seat, SentDatagram, WorldState, present_life, seat_at}
use Rattle.grasp_model_network.specs.declared.event.Event.{Event}
use Rattle.grasp_model_network.specs.declared.event.Event.TheVariants as event
use Rattle.grasp_laws_delivery.proofs.FitNetworks.{said_fits}
use Rattle.grasp_laws_delivery.proofs.Heard.Steps.{IsReachedSide, reached_is}
use Rattle.grasp_laws_delivery.proofs.Came.Inputs.{IsVisit, IsReaching, seat_visit, at_visit, clock_visit_is, opening_is, piece_is, cut_is}
use Rattle.grasp_laws_delivery.proofs.OnePlace.{Placed, numbered_place}
use Rattle.grasp_laws_delivery.proofs.EachStep.{OfAll, NodesKeep, nodes_keep}
use Rattle.grasp_laws_delivery.proofs.Given.{few_limit}
use Rattle.grasp_laws_delivery.proofs.SentBytes.{datagrams_are_messages, next_are_bytes}
use Rattle.grasp_laws_delivery.specs.Divided.{IsSentMessage, NodesAreFed}

-- ---- what an event brings

as_bytes : (v : Visit) (node : ℕ) (i : Input) → IsVisit v node i → HasBytes i → HasBytes v.input
as_bytes v node i is bytes = subst HasBytes (sym is.input_is) bytes

agent_bytes : (node : ℕ) (v : Visit) (o : Option Seat) → agent_seat node o ≡ Some v → HasBytes v.input
agent_bytes node v None is = absurd (none-some v is)
agent_bytes node v (Some seat) is = as_bytes v node (agent_input seat.agent) (seat_visit node (agent_input seat.agent) v (Some seat) is) tt

datagram_bytes : (w : WorldState) (index : ℕ) (v : Visit) (o : Option SentDatagram) → All (λ d. IsSentMessage d.message) w.datagrams → numbered w.datagrams index ≡ o → datagram_at w o ≡ Some v → HasBytes v.input
datagram_bytes w index v None sent found is = absurd (none-some v is)
datagram_bytes w index v (Some d) sent found is =
    as_bytes v (present_life w d.route.receiver) (input.Datagram d.route.link d.route.from (encoding d.message))
    (at_visit w (present_life w d.route.receiver) (input.Datagram d.route.link d.route.from (encoding d.message)) v is)
    (numbered_all (λ x. IsSentMessage x.message) w.datagrams index d sent found).bytes

piece_bytes : (s : Setting) (w : WorldState) → IsReached s w → (stream count : ℕ) (far hold : Bool) (v : Visit) → visit_of s w (event.Bytes stream far count hold) ≡ Some v → HasBytes v.input
piece_bytes s w r stream count far hold v is = from (piece_is w stream (side_named far) count v is) where
  from : IsReaching w stream (side_named far) v (λ x. input.Bytes x.at.number (next_bytes x.talk (other (side_named far)) count)) → HasBytes v.input
  from x = at_side (reached_is w stream (side_named far) x.reached x.found) where
    at_side : IsReachedSide w stream (side_named far) x.reached → HasBytes v.input
    at_side k = placed (numbered_place stream w.streams x.reached.talk k.found) where
      placed : Placed w.streams x.reached.talk → HasBytes v.input
      placed p =
          subst HasBytes (sym x.is.input_is)
          (next_are_bytes r.good.limit x.reached.talk (other (side_named far)) count (few_limit r.good.limit r.good.most_limit) ((said_fits s w r p.place x.reached.talk p.stands).sent (other (side_named far))))

pub brings_bytes : (s : Setting) (w : WorldState) (e : Event) (v : Visit) → IsReached s w → visit_of s w e ≡ Some v → HasBytes v.input
unfolding agent_visit datagram_visit
brings_bytes s w (event.Clock node millis) v r is = as_bytes v (present_life w node) (input.Drain 0) (clock_visit_is (present_life w node) millis v (seat_at w (present_life w node)) is) tt
brings_bytes s w (event.Want node length longest peer) v r is = absurd (none-some v is)
brings_bytes s w (event.Return node prefix peer) v r is = absurd (none-some v is)
brings_bytes s w (event.Agent node hold) v r is = agent_bytes (present_life w node) v (seat_at w (present_life w node)) is
brings_bytes s w (event.Api node asa call hold) v r is = as_bytes v (present_life w node) (input.Api asa call) (at_visit w (present_life w node) (input.Api asa call) v is) tt
brings_bytes s w (event.Datagram index hold) v r is = datagram_bytes w index v (numbered w.datagrams index) (datagrams_are_messages s w r) refl is
brings_bytes s w (event.Arrive stream hold) v r is = subst HasBytes (sym (opening_is s w stream v is).is.input_is) tt
brings_bytes s w (event.Bytes stream far count hold) v r is = piece_bytes s w r stream count far hold v is
brings_bytes s w (event.Cut stream far hold) v r is = subst HasBytes (sym (cut_is w stream (side_named far) v is).is.input_is) tt
brings_bytes s w (event.Drain node max) v r is = as_bytes v (present_life w node) (input.Drain max) (at_visit w (present_life w node) (input.Drain max) v is) tt

-- ---- each node

record IsSoundFed (n : NodeState) : Type 0 where
  node : IsBoundedNode n
  fed : IsDivided n

step_fed : (n after : NodeState) (now : ℕ) (i : Input) (x : Coming) (r : Reply) → IsSoundFed n → HasBytes i → NodeStep n now i x r after → IsSoundFed after
step_fed n after now i x r k bytes s = record { node = nodes_kept.1 n after now i x r k.node s; fed = fed_nodes_kept.1 n after now i x r k.node k.fed bytes s }

some_limit : (limit least : ℕ) → limit ≡ least → 2048 ≤ least → 0 < limit
some_limit limit least e h = omega (arith, e, h)

answered_fed : (seat : Seat) (x : Coming) (a : ApiAnswer) → IsSoundFed seat.core → IsAnswered seat x a → IsSoundFed (answered_seat seat a).core
answered_fed seat x a k s = step_fed seat.core (answered_seat seat a).core 0 (agent_input seat.agent) x (reply.Api a) k tt s

opened_fed : (limit : ℕ) (m : Member) (h : Holding) → 2048 ≤ limit → IsGoodMember limit m → IsSoundFed (opened_seat m.plan h).core
unfolding opened_seat
opened_fed limit m h least good =
    let o = worlds_begin m.plan h no_choice.coming in
    answered_fed (answered_seat (answered_seat (fresh_seat m.plan h) (answer.Asa 1)) answer.Done) no_choice.coming answer.NotYet
    (answered_fed (answered_seat (fresh_seat m.plan h) (answer.Asa 1)) no_choice.coming answer.Done (answered_fed (fresh_seat m.plan h) no_choice.coming (answer.Asa 1) fresh o.registers) o.declares) o.listens where
      fresh : IsSoundFed (first_node m.plan)
      fresh = record { node = nodes_kept.0 m.plan; fed = fed_nodes_kept.0 m.plan (some_limit m.plan.limit limit good.limit_is least) }

fed_keep : (s : Setting) → IsGoodSetting s → NodesKeep s IsSoundFed
fed_keep s good = record {
  begins = λ node m h is. opened_fed good.limit m h good.least_limit (numbered_all (IsGoodMember good.limit) s.members node m good.members is);
  steps = λ w e c v r k o is here step. step_fed v.seat.core c.after v.now v.input c.coming c.reply k (brings_bytes s w e v r is) (subst (λ (x : Option Visit). MayCome x c) is o.comes).steps;
  drains = λ w node seat max r here k.
      step_fed seat.core (after_drain (begin seat.core seat.core.reading) max) seat.core.reading (input.Drain max) no_choice.coming
      (reply.Outputs (drained (begin seat.core seat.core.reading) max)) k tt (drain_steps seat.core seat.core.reading max no_choice.coming);
}

all_fed : (s : Setting) (w : WorldState) → IsReached s w → OfAll IsSoundFed w
all_fed s w r = nodes_keep s IsSoundFed (fed_keep s r.good) w r

-- ---- the law

fed_where : (s : Setting) (w : WorldState) (e : Event) (o : Option Visit) → IsReached s w → visit_of s w e ≡ o → IsFedWhere o
fed_where s w e None r is = tt
fed_where s w e (Some v) r is = record { node = (all_fed s w r v.node v.seat (visits_are_here s w e v is).stands).fed; bytes = brings_bytes s w e v r is }

pub nodes_are_fed : NodesAreFed
nodes_are_fed = record {
  nodes = λ s w r node seat here. (all_fed s w r node seat here).fed;
  visits = λ s w e r. fed_where s w e (visit_of s w e) r refl;
}
