-- The step of each event, and each drain, keep how the streams of a network stand as talks.
use Rattle.std.proofs.Common.{◌≡◌, ◌≢◌, ◌≤◌, ◌<◌, ◌-◌, ℕ, true, List, [], ◌++◌, ◌⊎◌, inl, inr, Option, Some, None, length, reverse, slice_get, slice_set, refl, sym, ap, ◌∙◌, subst, arith}
use Rattle.std.proofs.lemmas.Option.{none-some, slice_get_within, same_Some}
use Rattle.grasp_agent.specs.States.{AgentState}
use Rattle.grasp_model_node.specs.Queue.{Queued}
use Rattle.grasp_model_node.specs.BoundedNodes.{IsGiven}
use Rattle.grasp_types.specs.declared.message.Message.{Message}
use Rattle.grasp_types.specs.declared.traffic.Input.{Input}
use Rattle.grasp_laws_node_stories.proofs.Parts.{sends_both}
use Rattle.grasp_laws_node_stories.specs.Stories.{gained, OpensIt}
use Rattle.grasp_laws_node_stories.specs.StreamMoves.{is_dial, some_move, sends_on}
use Rattle.grasp_session.specs.Conversation.{Said, spoken}
use Rattle.grasp_session.specs.Messages.{Side, Near, Far}
use Rattle.grasp_laws_network.proofs.EachNode.{is_made}
use Rattle.grasp_laws_network.proofs.Others.{put_elsewhere}
use Rattle.grasp_laws_network.proofs.Staying.{put_here}
use Rattle.grasp_model_network.specs.Runs.{IsReached}
use Rattle.grasp_model_network.specs.Sending.{seat_with, streams_made}
use Rattle.grasp_model_network.specs.Setting.{Setting, numbered}
use Rattle.grasp_model_network.specs.Streams.{StreamEnd, StreamState, Arrival, end_at, sent_by, with_far, side_of_end, changed_by, at_end, change_at_end}
use Rattle.grasp_model_network.specs.Visits.{Visit, Choice, VisitStep}
use Rattle.grasp_model_network.specs.World.{Seat, WorldState, seat_at, end_of}
use Rattle.grasp_laws_delivery.proofs.FromReady.{unqueued}
use Rattle.grasp_laws_delivery.proofs.OnePlace.{has_it}
use Rattle.grasp_laws_delivery.proofs.Sides.{end_found, place_changed}
use Rattle.grasp_laws_delivery.specs.Saying.{said_by, queued_for}
use Rattle.grasp_laws_negotiation.proofs.Harmless.{IsLike, like_end, Harmless}
use Rattle.grasp_laws_negotiation.proofs.NodeMoves.{FarOpens, FromOld, FromNew, NodeMove}
use Rattle.grasp_laws_negotiation.proofs.Standing.{NoStream, NetworkStands}
use Rattle.grasp_laws_negotiation.proofs.Steps.{AddsInOrder, story_of, clear_of, comes_of, is_recorded, dialled_low, dialled_there, ends_apart}
use Rattle.grasp_laws_negotiation.specs.Grounds.{Grounds}
use Rattle.grasp_laws_negotiation.proofs.StreamsMade.{with_voices, MadeOld, MadeNew, made_from, made_stays, voices_onto, same_sends, one_place}
use Rattle.grasp_laws_negotiation.proofs.TalkRuns.{joined, spoken_onto}
use Rattle.grasp_laws_negotiation.proofs.TalkSteps.{onto}
use Rattle.grasp_laws_negotiation.proofs.Voices.{voices}

-- ---- the streams before what a step queues

-- a stream as it was, but that it may be opened now
pub record PreOld (ts : List StreamState) (node : ℕ) (i : Input) (place : ℕ) (u : StreamState) : Type 0 where
  pub before : StreamState
  pub stands : slice_get ts place ≡ Some before
  pub near : u.near ≡ before.near
  pub said : u.said ≡ before.said
  pub far : (u.far ≡ before.far) ⊎ FarOpens node i before u

pub record PreNew (us : List StreamState) (place : ℕ) (t : StreamState) : Type 0 where
  pub after : StreamState
  pub stands : slice_get us place ≡ Some after
  pub ends : (side : Side) (e : StreamEnd) → end_at t side ≡ Some e → end_at after side ≡ Some e

pub record Premade (ts us : List StreamState) (node : ℕ) (i : Input) : Type 0 where
  pub back : (place : ℕ) (u : StreamState) → slice_get us place ≡ Some u → PreOld ts node i place u
  pub forth : (place : ℕ) (t : StreamState) → slice_get ts place ≡ Some t → PreNew us place t

pub like_ends : (t u : StreamState) → IsLike t u → (side : Side) (e : StreamEnd) → end_at t side ≡ Some e → end_at u side ≡ Some e
like_ends t u like side e at = like_end t u like side ∙ at

pub harmless_premade : (ts us : List StreamState) (node : ℕ) (i : Input) → Harmless ts us → Premade ts us node i
harmless_premade ts us node i h = record {
  back = λ place u is. let m = h.back place u is in record { before = m.before; stands = m.stands; near = m.like.near; said = m.like.said; far = inl m.like.far };
  forth = λ place t is. let m = h.forth place t is in record { after = m.after; stands = m.stands; ends = like_ends t m.after m.like };
}

-- a stream that is opened
pub opened_premade : (ts : List StreamState) (node : ℕ) (i : Input) (near : StreamEnd) (number : ℕ) (a : Arrival) → OpensIt i number
    → ((place : ℕ) (t : StreamState) → slice_get ts place ≡ Some t → (side : Side) → end_at t side ≡ Some near → t.far ≡ None)
    → Premade ts (change_at_end ts near (with_far (end_of node number) a)) node i
opened_premade ts node i near number a opens none = record {
  back = λ place u is. let m = is_made (at_end near f) ts place u is in subst (λ x. PreOld ts node i place x) m.made (by_back place m.of m.stands (side_of_end near m.of) refl);
  forth = λ place t is. record { after = at_end near f t; stands = place_changed ts near f place t is; ends = by_forth place t is (side_of_end near t) refl };
} where
  f : StreamState → Side → StreamState
  f = with_far (end_of node number) a

  by_back : (place : ℕ) (t : StreamState) → slice_get ts place ≡ Some t → (o : Option Side) → side_of_end near t ≡ o → PreOld ts node i place (changed_by (with_far (end_of node number) a) t o)
  by_back place t is None e = record { before = t; stands = is; near = refl; said = refl; far = inl refl }
  by_back place t is (Some side) e = record {
    before = t;
    stands = is;
    near = refl;
    said = refl;
    far = inr (record { stream = number; none_before = none place t is side (end_found t near side e); opened = refl; opens = opens });
  }

  by_forth : (place : ℕ) (t : StreamState) → slice_get ts place ≡ Some t → (o : Option Side) → side_of_end near t ≡ o → (side : Side) (e : StreamEnd) → end_at t side ≡ Some e
      → end_at (changed_by (with_far (end_of node number) a) t o) side ≡ Some e
  by_forth place t is None found side e at = at
  by_forth place t is (Some k) found Near e at = at
  by_forth place t is (Some k) found Far e at = absurd (none-some e (sym (none place t is k (end_found t near k found)) ∙ at))

-- ---- a step that isn't a drain

voices_end : (node : ℕ) (qs : List Queued) (t : StreamState) (side : Side) (e : StreamEnd) → end_at t side ≡ Some e → end_at (with_voices node qs t) side ≡ Some e
voices_end node qs t Near e at = at
voices_end node qs t Far e at = at

not_within : (a b : ℕ) → b ≤ a → a < b → ⊥
not_within a b h k = omega arith

module _ (l : Grounds) (s : Setting) (w y : WorldState) (r : IsReached s w) (q : IsReached s y) (k : NetworkStands w) (v : Visit) (c : Choice) (agent : AgentState) (us : List StreamState) (least : 1 ≤ v.node)
    (here : seat_at w v.node ≡ Some v.seat) (seats : y.seats ≡ slice_set w.seats (v.node - 1) (seat_with c.after agent)) (talks : y.streams ≡ streams_made v.node us (gained v.seat.core c.after))
    (pre : Premade w.streams us v.node v.input) (step : VisitStep v c) (grows : c.after.queue ≡ v.seat.core.queue ++ gained v.seat.core c.after)
    (adds : AddsInOrder l s w r v.node v.seat v.now v.input c.coming) (opened : (stream : ℕ) → OpensIt v.input stream → NoStream w.streams (end_of v.node stream))
    (opened_odd : (stream : ℕ) → OpensIt v.input stream → IsGiven v.seat.core.streams.dialled stream) where
  abbrev new : Seat
  new = seat_with c.after agent

  abbrev qs : List Queued
  qs = gained v.seat.core c.after

  there : seat_at y v.node ≡ Some new
  there = ap (λ z. numbered z v.node) seats ∙ put_here w.seats v.node v.seat new here

  others : (n : ℕ) → n ≢ v.node → seat_at y n ≡ seat_at w n
  others n apart = ap (λ z. numbered z n) seats ∙ put_elsewhere w.seats v.node n new least apart

  in_made : (place : ℕ) (u : StreamState) → slice_get y.streams place ≡ Some u → slice_get (streams_made v.node us qs) place ≡ Some u
  in_made place u is = subst (λ z. slice_get z place ≡ Some u) talks is

  -- a stream of before is at its place
  stays : (place : ℕ) (t : StreamState) → slice_get w.streams place ≡ Some t → (side : Side) (e : StreamEnd) → end_at t side ≡ Some e
      → (u : StreamState) × (slice_get y.streams place ≡ Some u) × (end_at u side ≡ Some e) × (place < length us)
  stays place t is side e at =
      let p = pre.forth place t is in (
        with_voices v.node qs p.after,
        subst (λ z. slice_get z place ≡ Some (with_voices v.node qs p.after)) (sym talks) (made_stays v.node qs us place p.after p.stands),
        voices_end v.node qs p.after side e (p.ends side e at),
        slice_get_within us place p.after p.stands,
      )

  ends_stay : (e : StreamEnd) → NoStream y.streams e → NoStream w.streams e
  ends_stay e none place t is side at = let u = stays place t is side e at in none place u.0 u.1 side u.2

  -- ---- where a stream comes from

  old : (place : ℕ) (u : StreamState) → MadeOld v.node qs us place u → FromOld w v.node v.input qs place u
  old place u m = by_pre (pre.back place m.before m.stands) where
    by_pre : PreOld w.streams v.node v.input place m.before → FromOld w v.node v.input qs place u
    by_pre p = subst (λ z. FromOld w v.node v.input qs place z) (sym m.made) (record {
      before = p.before;
      stands = p.stands;
      near = p.near;
      said = ap (λ (x : List Said). joined (voices v.node m.before.near m.before.far qs) x) p.said;
      far = by_far p.far;
    }) where
      by_far : (m.before.far ≡ p.before.far) ⊎ FarOpens v.node v.input p.before m.before
          → ((with_voices v.node qs m.before).far ≡ p.before.far) ⊎ FarOpens v.node v.input p.before (with_voices v.node qs m.before)
      by_far (inl e) = inl e
      by_far (inr o) = inr (record { stream = o.stream; none_before = o.none_before; opened = o.opened; opens = o.opens })

  fresh : (place : ℕ) (u : StreamState) → slice_get y.streams place ≡ Some u → MadeNew v.node qs (length us) place u → FromNew w v.node qs u
  fresh place u is m = record {
    stream = m.stream;
    near = ap (λ (x : StreamState). x.near) m.made;
    far = ap (λ (x : StreamState). x.far) m.made;
    said = own ∙ ap (λ (x : List Message). onto Near x []) all;
    new = none;
  } where
    e : StreamEnd
    e = end_of v.node m.stream

    own : u.said ≡ onto Near (sends_on m.stream m.behind) []
    own = ap (λ (x : StreamState). x.said) m.made ∙ voices_onto v.node m.stream m.behind []

    none : NoStream w.streams (end_of v.node m.stream)
    none p t at side has =
        let z = stays p t at side (end_of v.node m.stream) has in
        let same : p ≡ place = one_place (end_of v.node m.stream) y.streams p place z.0 u (l.ready.apart s y q (end_of v.node m.stream)) z.1 (has_it z.0 (end_of v.node m.stream) side z.2)
        is (has_it u (end_of v.node m.stream) Near (ap (λ (x : StreamState). Some x.near) m.made)) in
        not_within place (length us) m.place_is (subst (λ n. n < length us) same z.3)

    all : sends_on m.stream m.behind ≡ sends_on m.stream qs
    all =
        let said : said_by u Near ≡ (sent_by u Near).sent ++ queued_for m.stream c.after.queue = l.said.said s y q v.node new there place u is Near m.stream (ap (λ (x : StreamState). Some x.near) m.made) in
        let spoke : said_by u Near ≡ sends_on m.stream m.behind = ap (λ (x : List Said). reverse (spoken Near x)) own ∙ spoken_onto Near (sends_on m.stream m.behind) [] in
        let unsent : (sent_by u Near).sent ≡ [] = ap (λ (x : StreamState). x.from_near.sent) m.made in
        let free : queued_for m.stream v.seat.core.queue ≡ [] = unqueued l.ready s w r v.node v.seat here m.stream none in
        sym spoke ∙ (said ∙ (ap (λ (x : List Message). x ++ queued_for m.stream c.after.queue) unsent
        ∙ (same_sends m.stream c.after.queue ∙ (ap (λ z. sends_on m.stream z) grows ∙ (sends_both m.stream v.seat.core.queue qs
        ∙ ap (λ (x : List Message). x ++ sends_on m.stream qs) (sym (same_sends m.stream v.seat.core.queue) ∙ free))))))

  comes_from : (place : ℕ) (u : StreamState) → slice_get y.streams place ≡ Some u → FromOld w v.node v.input qs place u ⊎ FromNew w v.node qs u
  comes_from place u is = by_made (made_from v.node qs us place u (in_made place u is)) where
    by_made : MadeOld v.node qs us place u ⊎ MadeNew v.node qs (length us) place u → FromOld w v.node v.input qs place u ⊎ FromNew w v.node qs u
    by_made (inl m) = inl (old place u m)
    by_made (inr m) = inr (fresh place u is m)

  is_dialled : (stream : ℕ) → some_move is_dial (story_of l s w r k v.node v.seat here c.after v.now v.input c.coming c.reply step.steps stream).moves ≡ true → NoStream y.streams (end_of v.node stream) → ⊥
  is_dialled stream dials none =
      let d = dialled_low l s w r k v.node v.seat here c.after v.now v.input c.coming c.reply step.steps stream dials in
      dialled_there l s y q v.node new there stream d.0 d.1 d.2 none

  pub step_is : NodeMove w y
  step_is = record {
    node = v.node;
    seat = v.seat;
    new = new;
    now = v.now;
    i = v.input;
    x = c.coming;
    here = here;
    there = there;
    others = others;
    story = story_of l s w r k v.node v.seat here c.after v.now v.input c.coming c.reply step.steps;
    clear = clear_of l s w r k v.node v.seat here c.after v.now v.input c.coming c.reply step.steps;
    comes = comes_of l s w r k v.node v.seat here c.after v.now v.input c.coming c.reply step.steps adds;
    opened = opened;
    opened_given = opened_odd;
    dialled = is_dialled;
    recorded = is_recorded l s w r k v.node v.seat here c.after v.now v.input c.coming c.reply step.steps;
    ends_stay = ends_stay;
    stays = λ place t is. let z = stays place t is Near t.near refl in (z.0, z.1, same_Some z.0.near t.near z.2);
    apart = λ place u is e at. ends_apart l s y q place u is e at;
    comes_from = comes_from;
  }
