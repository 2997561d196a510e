-- A step that is neither a call of an agent of prefixes nor of a doubter, and a drain: what each node keeps of both.
use Rattle.std.proofs.Common.{◌≡◌, refl, sym, ap, ◌∙◌, subst, arith, ℕ, ◌-◌, ◌≤◌, List, [], Option, Some, None, slice_set}
use Rattle.grasp_doubter.specs.Questions.{doubt_name}
use Rattle.grasp_types.specs.declared.reply.Reply.{Reply}
use Rattle.grasp_types.specs.declared.reply.Reply.TheVariants as reply
use Rattle.grasp_types.specs.declared.traffic.Input.{Input}
use Rattle.grasp_types.specs.declared.traffic.Input.TheVariants as input
use Rattle.grasp_session.specs.Messages.{other}
use Rattle.grasp_session.specs.Sessions.{Sessions}
use Rattle.grasp_model_node.specs.Begin.{begin}
use Rattle.grasp_model_node.specs.BoundedNodes.{IsBoundedNode}
use Rattle.grasp_model_node.specs.Draining.{after_drain}
use Rattle.grasp_model_node.specs.Draining as core
use Rattle.grasp_model_node.specs.Node.{NodeState}
use Rattle.grasp_model_node.specs.Queue.{encoding}
use Rattle.grasp_model_node.specs.Step.{Coming, NodeStep}
use Rattle.grasp_model_network.specs.EventSteps.{after_agent_call, after_arrival, after_clock, after_cut, after_delivery, after_piece, datagram_visit}
use Rattle.grasp_model_network.specs.Events.{Occurs, visit_of, after_visit}
use Rattle.grasp_model_network.specs.Runs.{IsReached}
use Rattle.grasp_model_network.specs.Sending as network
use Rattle.grasp_model_network.specs.Sending.{drained_at, drained_from, seat_with, stepped}
use Rattle.grasp_model_network.specs.Notes.{noted}
use Rattle.grasp_model_network.specs.Setting.{Setting, numbered}
use Rattle.grasp_model_network.specs.StreamChanges.{arrived, delivered, reached_side, side_named, told}
use Rattle.grasp_model_network.specs.Streams.{next_bytes, stream_numbered}
use Rattle.grasp_model_network.specs.Visits.{Visit, Choice, MayCome, VisitStep, no_choice}
use Rattle.grasp_model_network.specs.World.{Seat, WorldState, present_life, seat_at}
use Rattle.grasp_model_network.specs.declared.event.Event.{Event}
use Rattle.grasp_model_network.specs.declared.event.Event.TheVariants as event
use Rattle.grasp_model_doubts.specs.Events.{IsPlain}
use Rattle.grasp_laws_delivery.proofs.AfterSteps.{each_drained}
use Rattle.grasp_laws_delivery.proofs.Came.Inputs.{at_visit, clock_visit_is, datagram_visit_is, opening_is, piece_is, cut_is}
use Rattle.grasp_laws_delivery.proofs.Worlds.{reached_in_order}
use Rattle.grasp_laws_network.proofs.EachNode.{drain_steps}
use Rattle.grasp_laws_network.proofs.Ended.{put_life}
use Rattle.grasp_laws_network.proofs.Here.{visits_are_here}
use Rattle.grasp_laws_network.proofs.Others.{arrived_keeps, delivered_keeps, told_keeps}
use Rattle.grasp_laws_network.specs.Keeping.{IsHere}
use Rattle.grasp_laws_node.proofs.PlansStay.{step_plan}
use Rattle.grasp_laws_owned.specs.Owned.{GoOnBy}
use Rattle.grasp_laws_owned.specs.Serving.{IsNoCallOf}
use Rattle.grasp_laws_prefixes.proofs.QuietSteps.{IsOthersStep, drains_go_on, others_go_on}
use Rattle.grasp_laws_prefixes.proofs.Standing.{WorldGoesOn}
use Rattle.grasp_laws_doubts.specs.Grounds.{Grounds}
use Rattle.grasp_laws_doubts.specs.Standing.{ServeStand, ServesDoubts}

-- ---- a node

-- the node has the same plan, agent 2 serves at it, and its sessions go on
pub record NodeStays (n after : NodeState) : Type 0 where
  pub plan : after.plan ≡ n.plan
  pub serves : ServesDoubts after
  pub go_on : GoOnBy 2 n.sessions after.sessions

sessions_still : (asa : ℕ) (z : Sessions) → GoOnBy asa z z
sessions_still asa z = record {
  stay = λ place x at own. (x, at, record { number = refl; owner = refl; stream = refl; view = record { deeds = []; heard = tt; after = refl } });
  were = λ place y at own. (y, at, record { number = refl; owner = refl; stream = refl; view = record { deeds = []; heard = tt; after = refl } });
  gone = λ x g. g;
  left = λ x own g. g;
}

pub node_still : (n : NodeState) → ServesDoubts n → NodeStays n n
node_still n serves = record { plan = refl; serves = serves; go_on = sessions_still 2 n.sessions }

-- whatever comes but a call of agent 2
pub node_stays : (l : Grounds) (n after : NodeState) (now : ℕ) (i : Input) (x : Coming) (r : Reply) → IsBoundedNode n → ServesDoubts n → IsNoCallOf 2 i → NodeStep n now i x r after → NodeStays n after
node_stays l n after now i x r sound serves other step =
    let t = l.others 2 doubt_name 2 n after now i x r (omega arith) sound serves.serves other step in
    record { plan = step_plan n after now i x r step; serves = record { serves = t.serves; owned = t.owned serves.owned }; go_on = t.go_on }

-- ---- a seat

-- its agent is the same, and so is its node for agent 2
pub record SeatStays (seat new : Seat) : Type 0 where
  pub agent : new.agent ≡ seat.agent
  pub node : NodeStays seat.core new.core

-- each node was there, and its agents have done nothing
pub record IsQuiet (w y : WorldState) : Type 0 where
  pub goes : WorldGoesOn w y
  pub seats : (node : ℕ) (new : Seat) → seat_at y node ≡ Some new → (seat : Seat) × (seat_at w node ≡ Some seat) × SeatStays seat new

-- and so agent 2 serves still
pub quiet_serves : (w y : WorldState) → IsQuiet w y → ServeStand y
quiet_serves w y q node new there = let f = q.seats node new there in f.2.node.serves

pub seat_still : (w : WorldState) → ServeStand w → (node : ℕ) (seat : Seat) → seat_at w node ≡ Some seat → (z : Seat) × (seat_at w node ≡ Some z) × SeatStays z seat
seat_still w serves node seat here = (seat, here, record { agent = refl; node = node_still seat.core (serves node seat here) })

-- ---- what comes in a step

as_others : (v : Visit) (i : Input) → v.input ≡ i → IsNoCallOf 2 i → IsNoCallOf 2 v.input
as_others v i e o = subst (IsNoCallOf 2) (sym e) o

step_others : (s : Setting) (w : WorldState) (e : Event) (v : Visit) → IsOthersStep e → IsPlain e → visit_of s w e ≡ Some v → IsNoCallOf 2 v.input
unfolding datagram_visit
step_others s w (event.Clock node millis) v o plain is = as_others v (input.Drain 0) (clock_visit_is (present_life w node) millis v (seat_at w (present_life w node)) is).input_is tt
step_others s w (event.Api node asa call hold) v o plain is = as_others v (input.Api asa call) (at_visit w (present_life w node) (input.Api asa call) v is).input_is plain
step_others s w (event.Datagram index hold) v o plain is =
    let d = datagram_visit_is w v (numbered w.datagrams index) is in
    as_others v (input.Datagram d.0.route.link d.0.route.from (encoding d.0.message)) d.1.input_is tt
step_others s w (event.Arrive stream hold) v o plain is =
    let p = opening_is s w stream v is in
    as_others v (input.Opened (s.arrives_as v.node stream) (s.arrives_from stream p.near.core.plan.address)) p.is.input_is tt
step_others s w (event.Bytes stream far count hold) v o plain is =
    let p = piece_is w stream (side_named far) count v is in
    as_others v (input.Bytes p.reached.at.number (next_bytes p.reached.talk (other (side_named far)) count)) p.is.input_is tt
step_others s w (event.Cut stream far hold) v o plain is =
    let p = cut_is w stream (side_named far) v is in
    as_others v (input.Closed p.reached.at.number) p.is.input_is tt
step_others s w _ v o plain is = absurd o

-- ---- what such a step leaves of the seats

seats_put : (w x y : WorldState) (v : Visit) (core : NodeState) → x.seats ≡ w.seats → y.seats ≡ (stepped x v core v.seat.agent).seats → y.seats ≡ slice_set w.seats (v.node - 1) (seat_with core v.seat.agent)
unfolding stepped
seats_put w x y v core e f = f ∙ ap (λ seats. slice_set seats (v.node - 1) (seat_with core v.seat.agent)) e

-- the node of the step is put, with its agent as it was
quiet_seats : (s : Setting) (w : WorldState) (e : Event) (v : Visit) (c : Choice) → IsOthersStep e → (after_visit s w e v c).seats ≡ slice_set w.seats (v.node - 1) (seat_with c.after v.seat.agent)
unfolding after_clock after_agent_call after_delivery after_arrival after_piece after_cut noted
quiet_seats s w (event.Clock node millis) v c o = seats_put w w (after_clock w v c) v c.after refl refl
quiet_seats s w (event.Api node asa call hold) v c o = seats_put w w (after_agent_call w v asa call c) v c.after refl refl
quiet_seats s w (event.Datagram index hold) v c o = seats_put w w (after_delivery w v index c) v c.after refl refl
quiet_seats s w (event.Arrive stream hold) v c o =
    seats_put w (arrived w v (s.arrives_as v.node stream) c.reply (stream_numbered w.streams stream)) (after_arrival s w v stream c) v c.after
    (arrived_keeps w v (s.arrives_as v.node stream) c.reply (stream_numbered w.streams stream)) refl
quiet_seats s w (event.Bytes stream far count hold) v c o =
    seats_put w (delivered w count (reached_side w stream (side_named far))) (after_piece w v stream (side_named far) count c) v c.after
    (delivered_keeps w count (reached_side w stream (side_named far))) refl
quiet_seats s w (event.Cut stream far hold) v c o =
    seats_put w (told w (reached_side w stream (side_named far))) (after_cut w v stream (side_named far) c) v c.after (told_keeps w (reached_side w stream (side_named far))) refl
quiet_seats s w _ v c o = absurd o

-- ---- the two of them

module _ (l : Grounds) (s : Setting) (w : WorldState) (r : IsReached s w) (serves : ServeStand w) where
  pub sound_at : (node : ℕ) (seat : Seat) → seat_at w node ≡ Some seat → IsBoundedNode seat.core
  sound_at node seat here = ((reached_in_order l.prefixes.ties s w r).sound node seat here).0

  abbrev WasSeat : ℕ → Seat → Type 0
  WasSeat node new = (seat : Seat) × (seat_at w node ≡ Some seat) × SeatStays seat new

  pub step_quiet : (e : Event) (c : Choice) (v : Visit) → Occurs s w e c → IsPlain e → visit_of s w e ≡ Some v → IsOthersStep e → IsQuiet w (after_visit s w e v c)
  step_quiet e c v o plain is others =
      let here : IsHere w v = visits_are_here s w e v is in
      let step : VisitStep v c = subst (λ (x : Option Visit). MayCome x c) is o.comes in
      let stays = node_stays l v.seat.core c.after v.now v.input c.coming c.reply (sound_at v.node v.seat here.stands) (serves v.node v.seat here.stands) (step_others s w e v others plain is) step.steps in
      record {
        goes = others_go_on l.prefixes s w e c v r o is others;
        seats = put_life WasSeat w (after_visit s w e v c) v.node (seat_with c.after v.seat.agent) here.member.least (quiet_seats s w e v c others)
            (v.seat, here.stands, record { agent = refl; node = stays }) (seat_still w serves);
      }

  drain_seats : (node max : ℕ) (o : Option Seat) → 1 ≤ node → seat_at w node ≡ o → (n : ℕ) (new : Seat) → seat_at (drained_at s w node max o) n ≡ Some new → WasSeat n new
  drain_seats node max None least here = seat_still w serves
  drain_seats node max (Some seat) least here =
      from (begin seat.core seat.core.reading)
      (node_stays l seat.core (after_drain (begin seat.core seat.core.reading) max) seat.core.reading (input.Drain max) no_choice.coming (reply.Outputs (core.drained (begin seat.core seat.core.reading) max))
      (sound_at node seat here) (serves node seat here) tt (drain_steps seat.core seat.core.reading max no_choice.coming))
    where
      from : (m : NodeState) → NodeStays seat.core (after_drain m max) → (n : ℕ) (new : Seat) → seat_at (drained_from s w node seat m max) n ≡ Some new → WasSeat n new
      from m stays = each_drained WasSeat s w node seat m max least (seat, here, record { agent = refl; node = stays }) (λ n other apart there. seat_still w serves n other there)

  pub drain_quiet : (node max : ℕ) → 1 ≤ node → IsQuiet w (network.drained s w node max)
  unfolding network.drained
  drain_quiet node max least = record { goes = drains_go_on l.prefixes s w node max r least; seats = drain_seats node max (seat_at w node) least refl }
