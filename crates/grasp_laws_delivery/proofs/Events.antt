-- Each event leaves the streams of a network in order.
use Rattle.std.proofs.Common.{◌≡◌, refl, sym, subst, ℕ, true, map, Option, Some, None}
use Rattle.grasp_agent.specs.Replies.{after_reply}
use Rattle.grasp_agent.specs.States.{AgentState}
use Rattle.grasp_laws_node.specs.Consistent.{TiesAreKept}
use Rattle.grasp_session.specs.Messages.{Side}
use Rattle.grasp_types.specs.declared.reply.Reply.{Reply}
use Rattle.grasp_types.specs.declared.traffic.Input.{Input}
use Rattle.grasp_types.specs.declared.traffic.Input.TheVariants as input
use Rattle.grasp_laws_node.specs.Sends.{OpensOne}
use Rattle.grasp_laws_network.proofs.Others.{arrived_keeps, delivered_keeps, told_keeps}
use Rattle.grasp_model_network.proofs.Facts.{number_is}
use Rattle.grasp_model_network.specs.EventSteps.{after_agent_call, after_agent, after_arrival, after_clock, after_cut, after_delivery, after_piece}
use Rattle.grasp_model_network.specs.StreamChanges.{arrival_by, arrived, told, Reached, reached_side, side_named, delivered}
use Rattle.grasp_model_network.specs.Events.{visit_of, after_visit}
use Rattle.grasp_model_network.specs.GoodSetting.{IsGoodSetting}
use Rattle.grasp_laws_network.specs.Keeping.{IsHere}
use Rattle.grasp_model_network.specs.Notes.{noted}
use Rattle.grasp_model_network.specs.Setting.{Setting, numbered}
use Rattle.grasp_model_network.specs.Streams.{StreamEnd, StreamState, told_closed, is_waiting, is_number, stream_numbered, change_at_end, with_side, with_delivered, with_far}
use Rattle.grasp_model_network.specs.Visits.{Visit, Choice, VisitStep}
use Rattle.grasp_model_network.specs.World.{WorldState, present_life, seat_at, end_of}
use Rattle.grasp_model_network.specs.declared.event.Event.{Event}
use Rattle.grasp_model_network.specs.declared.event.Event.TheVariants as event
use Rattle.grasp_laws_delivery.specs.Heads.{head_of, heads}
use Rattle.grasp_laws_delivery.specs.Kept.{IsArrived, AreKept, StreamsKept}
use Rattle.grasp_laws_delivery.specs.Ready.{FarWaits}
use Rattle.grasp_laws_delivery.proofs.Draining.{AreSound, drained_kept}
use Rattle.grasp_laws_delivery.proofs.EndMaps as streams
use Rattle.grasp_laws_delivery.proofs.EndMaps.{KeepsHead, change_keeps, change_opens, opened_head}
use Rattle.grasp_laws_delivery.proofs.HeadApart.{IsIn}
use Rattle.grasp_laws_delivery.proofs.FarSides.{KeepsWaiting, delivered_waits, told_waits, opened_waits, reply_opens, change_waits}
use Rattle.grasp_laws_delivery.proofs.Inputs.{IsPlain, clock_input, agent_plain_input, datagram_input, piece_input, cut_input, Arrives, arrives, visit_input}
use Rattle.grasp_laws_delivery.proofs.Opening.{IsFound, found_in, in_heads, opened, is_arrived}
use Rattle.grasp_laws_delivery.proofs.Stepping.{TakesNone, IsSteppedAs, as_stepped}

-- ---- plain inputs

plain_takes : (i : Input) → IsPlain i → TakesNone i
plain_takes (input.Drain max) p = p
plain_takes _ p = tt

plain_opens : (P : ℕ → Type 0) (i : Input) → IsPlain i → OpensOne P i
plain_opens P (input.Opened stream from) p = absurd p
plain_opens P _ p = tt

-- ---- what an event does before the step

-- the streams are changed at one end, and keep their ends and numbers
changed_kept : (s : Setting) (w : WorldState) (e : StreamEnd) (f : StreamState → Side → StreamState) → KeepsHead f → KeepsWaiting f → StreamsKept s w → StreamsKept s (record w { streams = change_at_end w.streams e f })
changed_kept s w e f heads_stay waits_stay k = record {
  kept = subst (λ hs. AreKept s w.seats hs w.dials) (sym (change_keeps f heads_stay e w.streams)) k.kept;
  waits = change_waits f waits_stay e w.streams k.waits;
}

delivered_kept : (s : Setting) (w : WorldState) (count : ℕ) (o : Option Reached) → StreamsKept s w → StreamsKept s (delivered w count o)
delivered_kept s w count None k = k
delivered_kept s w count (Some x) k = changed_kept s w x.at (with_delivered count) (streams.delivered_keeps count) (delivered_waits count) k

told_kept : (s : Setting) (w : WorldState) (o : Option Reached) → StreamsKept s w → StreamsKept s (told w o)
told_kept s w None k = k
told_kept s w (Some x) k = changed_kept s w x.at (with_side told_closed) (streams.side_keeps told_closed) told_waits k

-- ---- a stream is opened

-- the network in which it is, and that it was opened there
pub record Opened (s : Setting) (x : WorldState) (node number : ℕ) : Type 0 where
  pub kept : StreamsKept s x
  pub arrived : IsArrived (heads x.streams) node number

module _ (s : Setting) (good : IsGoodSetting s) (w : WorldState) (kept : StreamsKept s w) (v : Visit) (here : IsHere w v) (k : ℕ) where
  found_opened : (r : Reply) (t : StreamState) → stream_numbered w.streams k ≡ Some t → is_waiting t.far_side ≡ true
      → Opened s (record w { streams = change_at_end w.streams t.near (with_far (end_of v.node (s.arrives_as v.node k)) (arrival_by r)) }) v.node (s.arrives_as v.node k)
  found_opened r t found waits =
      let far : StreamEnd = end_of v.node (s.arrives_as v.node k) in
      let f : IsFound FarWaits (λ (u : StreamState). is_number k u.number) w.streams t = found_in FarWaits (λ (u : StreamState). is_number k u.number) w.streams t kept.waits found in
      let at : IsIn (head_of t) (heads w.streams) = in_heads t w.streams f.at in
      let number : t.number ≡ Some k = number_is k t.number f.passes in
      let same : heads (change_at_end w.streams t.near (with_far far (arrival_by r))) ≡ map (opened_head t.near far) (heads w.streams) = change_opens t.near far (arrival_by r) w.streams in
      record {
        kept = record {
          kept = subst (λ hs. AreKept s w.seats hs w.dials) (sym same) (opened s good w.seats (heads w.streams) w.dials kept.kept (head_of t) at k number (f.holds waits) v.node here.member);
          waits = change_waits (with_far far (arrival_by r)) (opened_waits far (arrival_by r) (reply_opens r)) t.near w.streams kept.waits;
        };
        arrived = subst (λ hs. IsArrived hs v.node (s.arrives_as v.node k)) (sym same)
            (is_arrived s good w.seats (heads w.streams) w.dials kept.kept (head_of t) at k number (f.holds waits) v.node here.member);
      }

  pub arrived_kept : (r : Reply) → Arrives s w k v → Opened s (arrived w v (s.arrives_as v.node k) r (stream_numbered w.streams k)) v.node (s.arrives_as v.node k)
  arrived_kept r a =
      subst (λ o. Opened s (arrived w v (s.arrives_as v.node k) r o) v.node (s.arrives_as v.node k)) (sym a.found)
      (found_opened r a.talk a.found a.waits)

-- ---- the step of an event, and what comes of it

module _ (ties : TiesAreKept) (s : Setting) (good : IsGoodSetting s) (w : WorldState) (v : Visit) (c : Choice) (kept : StreamsKept s w) (sound : AreSound w) (here : IsHere w v) (step : VisitStep v c) where
  -- a plain step, from a network with the same nodes
  plain : (x y : WorldState) (agent : AgentState) → x.seats ≡ w.seats → StreamsKept s x → IsPlain v.input → IsSteppedAs x y v c.after agent → StreamsKept s y
  plain x y agent seats k p same =
      let both = sound v.node v.seat here.stands in
      as_stepped ties s x y v c agent k (subst (λ l. numbered l v.node ≡ Some v.seat) (sym seats) here.stands) both.0 both.1 (plain_takes v.input p)
      (plain_opens (λ n. IsArrived (heads x.streams) v.node n) v.input p) step same

  arrives_kept : (k : ℕ) → Arrives s w k v → StreamsKept s (after_arrival s w v k c)
  unfolding after_arrival
  arrives_kept k a =
      let x : WorldState = arrived w v (s.arrives_as v.node k) c.reply (stream_numbered w.streams k) in
      let o : Opened s x v.node (s.arrives_as v.node k) = arrived_kept s good w kept v here k c.reply a in
      let both = sound v.node v.seat here.stands in
      let seats : x.seats ≡ w.seats = arrived_keeps w v (s.arrives_as v.node k) c.reply (stream_numbered w.streams k) in
      as_stepped ties s x (after_arrival s w v k c) v c v.seat.agent o.kept (subst (λ l. numbered l v.node ≡ Some v.seat) (sym seats) here.stands) both.0 both.1
      (subst TakesNone (sym a.input_is) tt) (subst (OpensOne (λ n. IsArrived (heads x.streams) v.node n)) (sym a.input_is) o.arrived) step (record { seats = refl; streams = refl; dials = refl })

  pub visit_kept : (e : Event) → visit_of s w e ≡ Some v → StreamsKept s (after_visit s w e v c)
  unfolding after_clock after_agent after_agent_call after_delivery after_piece after_cut noted
  visit_kept (event.Clock node millis) is = plain w (after_clock w v c) v.seat.agent refl kept (clock_input s w node millis v is) (record { seats = refl; streams = refl; dials = refl })
  visit_kept (event.Want node wanted longest peer) is = kept
  visit_kept (event.Return node prefix peer) is = kept
  visit_kept (event.Agent node hold) is = plain w (after_agent w v c) (after_reply v.seat.agent c.reply) refl kept (agent_plain_input s w node hold v is) (record { seats = refl; streams = refl; dials = refl })
  visit_kept (event.Api node asa call hold) is =
      plain w (after_agent_call w v asa call c) v.seat.agent refl kept (subst IsPlain (visit_input (present_life w node) (input.Api asa call) v (seat_at w (present_life w node)) is) tt) (record { seats = refl; streams = refl; dials = refl })
  visit_kept (event.Datagram index hold) is = plain w (after_delivery w v index c) v.seat.agent refl kept (datagram_input s w index hold v is) (record { seats = refl; streams = refl; dials = refl })
  visit_kept (event.Arrive stream hold) is = arrives_kept stream (arrives s w stream hold v is)
  visit_kept (event.Bytes stream far count hold) is =
      plain (delivered w count (reached_side w stream (side_named far))) (after_piece w v stream (side_named far) count c) v.seat.agent (delivered_keeps w count (reached_side w stream (side_named far)))
      (delivered_kept s w count (reached_side w stream (side_named far)) kept) (piece_input s w stream count far hold v is) (record { seats = refl; streams = refl; dials = refl })
  visit_kept (event.Cut stream far hold) is =
      plain (told w (reached_side w stream (side_named far))) (after_cut w v stream (side_named far) c) v.seat.agent (told_keeps w (reached_side w stream (side_named far)))
      (told_kept s w (reached_side w stream (side_named far)) kept) (cut_input s w stream far hold v is) (record { seats = refl; streams = refl; dials = refl })
  visit_kept (event.Drain node max) is = drained_kept ties s good w v.node max kept sound
