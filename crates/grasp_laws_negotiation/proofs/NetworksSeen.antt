-- In every network that turns lead to the sessions on the ends of each stream are those of its two sides.
use Rattle.std.proofs.Common.{◌≡◌, ◌≤◌, ◌%◌, ℕ, List, length, reverse, slice_get, Option, Some, None, take, refl, sym, ap, ◌∙◌, subst}
use Rattle.std.proofs.lemmas.Option.{none-some}
use Rattle.grasp_model_node.specs.Begin.{begin}
use Rattle.grasp_model_node.specs.Draining.{closes, after_drain}
use Rattle.grasp_model_node.specs.Node.{NodeState}
use Rattle.grasp_model_node.specs.declared.plan.NodePlan.{NodePlan}
use Rattle.grasp_model_network.specs.Events.{Occurs, visit_of, after_visit}
use Rattle.grasp_model_network.specs.Openings.{opened_seat}
use Rattle.grasp_model_network.specs.Runs.{IsReached, first_world}
use Rattle.grasp_model_network.specs.Sending as network
use Rattle.grasp_model_network.specs.Sending.{seat_with, drained_at, drained_from}
use Rattle.grasp_model_network.specs.Setting.{Setting}
use Rattle.grasp_model_network.specs.Streams.{StreamEnd, StreamState}
use Rattle.grasp_model_network.specs.Visits.{Visit, Choice}
use Rattle.grasp_model_network.specs.World.{Seat, WorldState, seat_at, with_seat}
use Rattle.grasp_model_network.specs.declared.event.Event.{Event}
use Rattle.grasp_pool.specs.Functions.{pool_of_image}
use Rattle.grasp_pool.specs.Holdings.{Holding}
use Rattle.grasp_pool.specs.declared.image.PoolImage.{PoolImage}
use Rattle.grasp_session.specs.Conversation.{Said, spoken}
use Rattle.grasp_session.specs.Messages.{Near}
use Rattle.grasp_types.specs.declared.message.Message.{Message}
use Rattle.grasp_laws_network.proofs.Restarted.{Restarting, restart_seats}
use Rattle.grasp_laws_network.proofs.Telling.{one_agent}
use Rattle.grasp_laws_network.specs.Telling.{OneAgent}
use Rattle.grasp_laws_delivery.proofs.Holding.{IsStep, parts_keep}
use Rattle.grasp_laws_delivery.specs.Ready.{HasGoodEnds}
use Rattle.grasp_laws_negotiation.proofs.Drained.{drain_is, had, had_stream}
use Rattle.grasp_laws_negotiation.proofs.FirstMoves.{FirstSpeaks}
use Rattle.grasp_laws_negotiation.proofs.Harmless.{IsLike, Was, Harmless, handed_harmless}
use Rattle.grasp_laws_negotiation.proofs.Left.{begun_unseen, begun_closed, restart_harmless}
use Rattle.grasp_laws_negotiation.proofs.Networks.{network_stands, steps}
use Rattle.grasp_laws_negotiation.proofs.Standing.{NetworkStands}
use Rattle.grasp_laws_negotiation.proofs.Steps.{every_at}
use Rattle.grasp_laws_negotiation.specs.Grounds.{Grounds}
use Rattle.grasp_laws_negotiation.proofs.EndsSeen.{NearAt, FarAt}
use Rattle.grasp_laws_negotiation.proofs.TalksSeen.{near_said, TalkSeen, TalksSeen, AreEven, move_seen}

-- ---- the near ends

even_ends : (l : Grounds) (s : Setting) (w : WorldState) → IsReached s w → AreEven w
even_ends l s w r place t is =
    (every_at (λ (x : StreamState). HasGoodEnds s (length w.seats) w.dials x.near x.number x.far) w.streams place t (l.ready.ends s w r) is).even

-- ---- a drain

module _ (l : Grounds) (s : Setting) (w : WorldState) (r : IsReached s w) (each : TalksSeen w) (node max : ℕ) (seat : Seat) (here : seat_at w node ≡ Some seat) (least : 1 ≤ node) where
  abbrev core : NodeState
  core = begin seat.core seat.core.reading

  abbrev y : WorldState
  y = drained_from s w node seat (begin seat.core seat.core.reading) max

  harmless : Harmless w.streams y.streams
  harmless = handed_harmless s (with_seat w node (seat_with (after_drain core max) seat.agent)) node (take max core.queue) (closes core max)

  still_even : AreEven y
  still_even place u is = let m = harmless.back place u is in subst (λ (e : StreamEnd). e.number % 2 ≡ 0) (sym m.like.near) (even_ends l s w r place m.before m.stands)

  drain_seen : TalksSeen y
  drain_seen =
      let k : NetworkStands w = network_stands l s w r in
      move_seen l s w y r still_even (drain_is l s w r k node max seat here least) k each

drained_seen : (l : Grounds) (s : Setting) (w : WorldState) (node max : ℕ) → IsReached s w → TalksSeen w → 1 ≤ node → TalksSeen (network.drained s w node max)
unfolding network.drained
drained_seen l s w node max r each least = by_seat (seat_at w node) refl where
  by_seat : (o : Option Seat) → seat_at w node ≡ o → TalksSeen (drained_at s w node max o)
  by_seat None here = each
  by_seat (Some seat) here = drain_seen l s w r each node max seat here least

-- ---- another agent

one_seen : (w x : WorldState) → OneAgent w x → TalksSeen w → TalksSeen x
one_seen w x o each place t is = record {
  speaks = (each place t before).speaks;
  near = λ seat found. let h = had w x o t.near.node seat found in subst (λ (z : NodeState). NearAt z t.near.number (near_said t)) (sym h.2) ((each place t before).near h.0 h.1);
  far = λ e at seat found. let h = had w x o e.node seat found in subst (λ (z : NodeState). FarAt z e.number (near_said t)) (sym h.2) ((each place t before).far e at h.0 h.1);
} where
  before : slice_get w.streams place ≡ Some t
  before = had_stream w x o place t is

-- ---- a restart

module _ (plan : NodePlan) (h : Holding) (stream : ℕ) (said : List Message) where
  near_begun : NearAt (opened_seat plan h).core stream said
  near_begun = record {
    asked = λ v e. absurd (none-some v (sym (begun_unseen plan h stream) ∙ e));
    seen = λ past e. absurd (none-some past (sym (begun_closed plan h stream) ∙ e));
  }

  far_begun : FarAt (opened_seat plan h).core stream said
  far_begun = record {
    asked = λ v e. absurd (none-some v (sym (begun_unseen plan h stream) ∙ e));
    unheard = λ past e none. absurd (none-some past (sym (begun_closed plan h stream) ∙ e));
  }

like_seen : (x : WorldState) (t u : StreamState) → IsLike t u → TalkSeen x t → TalkSeen x u
like_seen x t u like k = record {
  speaks = subst FirstSpeaks (sym same) k.speaks;
  near = subst (λ (e : StreamEnd). (seat : Seat) → seat_at x e.node ≡ Some seat → NearAt seat.core e.number (near_said u)) (sym like.near)
      (λ seat found. subst (NearAt seat.core t.near.number) (sym same) (k.near seat found));
  far = λ e at seat found. subst (FarAt seat.core e.number) (sym same) (k.far e (sym like.far ∙ at) seat found);
} where
  same : near_said u ≡ near_said t
  same = ap (λ (c : List Said). reverse (spoken Near c)) like.said

restart_seen : (s : Setting) (w : WorldState) (node : ℕ) (image : PoolImage) (x : WorldState) → Restarting s w node image x → TalksSeen w → TalksSeen x
restart_seen s w node image x r each place u is = by_before ((restart_harmless s w node image x r).back place u is) where
  by_before : Was w.streams place u → TalkSeen x u
  by_before m =
      let t : StreamState = m.before in
      let was : TalkSeen w t = each place t m.stands in
      like_seen x t u m.like (record {
        speaks = was.speaks;
        near = λ seat found. restart_seats (λ n z. t.near.node ≡ n → NearAt z.core t.near.number (near_said t)) s w node image x r
            (λ at. was.near r.seat (ap (seat_at w) at ∙ r.here)) (λ at. near_begun r.member.plan (pool_of_image image) t.near.number (near_said t))
            (λ n z here at. was.near z (ap (seat_at w) at ∙ here)) t.near.node seat found refl;
        far = λ e ends seat found. restart_seats (λ n z. e.node ≡ n → FarAt z.core e.number (near_said t)) s w node image x r
            (λ at. was.far e ends r.seat (ap (seat_at w) at ∙ r.here)) (λ at. far_begun r.member.plan (pool_of_image image) e.number (near_said t))
            (λ n z here at. was.far e ends z (ap (seat_at w) at ∙ here)) e.node seat found refl;
      })

-- ---- every network

first_seen : (s : Setting) → TalksSeen (first_world s)
unfolding first_world
first_seen s place t is = absurd (none-some t is)

step_seen : (l : Grounds) (s : Setting) (w : WorldState) (e : Event) (c : Choice) (v : Visit) → IsReached s w → TalksSeen w → Occurs s w e c → visit_of s w e ≡ Some v → IsStep e → IsReached s (after_visit s w e v c)
    → TalksSeen (after_visit s w e v c)
step_seen l s w e c v r each o is stepping q =
    let k : NetworkStands w = network_stands l s w r in
    let y : WorldState = after_visit s w e v c in
    move_seen l s w y r (even_ends l s y q) (steps l s w e c v r k o is stepping q) k each

pub talks_seen : (l : Grounds) (s : Setting) (w : WorldState) → IsReached s w → TalksSeen w
talks_seen l s w r = parts_keep s TalksSeen (record {
  steps = λ w e c v r each o is stepping q. step_seen l s w e c v r each o is stepping q;
  told = λ w x e r t each. one_seen w x (one_agent s w e x t) each;
  drains = λ w node max r each least. drained_seen l s w node max r each least;
  settles = λ w x node p r t each. one_seen w x t.one each;
  restarts = λ w x node image r t each. restart_seen s w node image x t each;
}) (first_seen s) w r
