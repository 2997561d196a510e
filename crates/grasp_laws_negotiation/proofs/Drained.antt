-- A drain, a change of one agent, a restart and the first network.
use Rattle.std.proofs.Common.{◌≡◌, ◌≤◌, ◌-◌, ℕ, ◌==◌, Bool, true, false, cond, List, [], inl, Option, Some, None, length, reverse, slice_get, slice_set, map, take, drop, refl, sym, ap, ◌∙◌, subst, arith}
use Rattle.std.proofs.Math.ListN.{drop_of_length-le}
use Rattle.std.proofs.lemmas.Bool.{true≢false}
use Rattle.std.proofs.lemmas.List.{length-drop}
use Rattle.std.proofs.lemmas.Option.{none-some, same_Some as some_same}
use Rattle.grasp_model_node.specs.Begin.{begin}
use Rattle.grasp_model_node.specs.Draining.{closes, drained, after_drain}
use Rattle.grasp_model_node.specs.Node.{NodeState}
use Rattle.grasp_model_node.specs.Queue.{Queued}
use Rattle.grasp_model_node.specs.BoundedNodes.{IsGiven}
use Rattle.grasp_model_node.specs.Step.{Coming, NodeStep}
use Rattle.grasp_model_node.specs.Streams.{past_of}
use Rattle.grasp_types.specs.declared.reply.Reply.TheVariants.{Outputs}
use Rattle.grasp_types.specs.declared.traffic.Input.TheVariants as input
use Rattle.grasp_laws_node.proofs.Drains.{drains_dial_nothing}
use Rattle.grasp_laws_node_stories.specs.Stories.{came_by, fault_by, gained, IsClear}
use Rattle.grasp_laws_node_stories.specs.StreamMoves.{view_on, is_dial, some_move}
use Rattle.grasp_session.specs.Conversation.{Said, spoken}
use Rattle.grasp_session.specs.Laws.{IsOpened}
use Rattle.grasp_session.specs.Messages.{Near}
use Rattle.grasp_session.specs.Talk.{Party}
use Rattle.grasp_wire.specs.Cutter.{Past}
use Rattle.grasp_laws_network.proofs.EachNode.{IsMade, is_made, drain_steps}
use Rattle.grasp_laws_network.proofs.Others.{put_elsewhere}
use Rattle.grasp_laws_network.proofs.Restarted.{Restarting, restart_seats}
use Rattle.grasp_laws_network.proofs.Sent.{sending_keeps_nodes}
use Rattle.grasp_laws_network.proofs.Staying.{put_here}
use Rattle.grasp_laws_network.specs.Telling.{OneAgent}
use Rattle.grasp_model_network.specs.Runs.{IsReached, first_world}
use Rattle.grasp_model_network.specs.Openings.{first_seat}
use Rattle.grasp_model_network.specs.Sending as network
use Rattle.grasp_model_network.specs.Sending.{seat_with, drained_at, drained_from}
use Rattle.grasp_model_network.specs.Setting.{Member, Setting, numbered}
use Rattle.grasp_model_network.specs.Streams.{StreamEnd, StreamState, is_same_end}
use Rattle.grasp_model_network.specs.Visits.{no_choice}
use Rattle.grasp_model_network.specs.World.{Seat, WorldState, present_life, seat_at, with_seat, end_of}
use Rattle.grasp_pool.specs.Functions.{pool_of, pool_of_image}
use Rattle.grasp_pool.specs.declared.image.PoolImage.{PoolImage}
use Rattle.grasp_laws_delivery.proofs.AfterSteps.{agent_keeps}
use Rattle.grasp_laws_negotiation.proofs.Events.{like_ends}
use Rattle.grasp_laws_negotiation.proofs.Harmless.{IsLike, like_itself, Was, Harmless, handed_harmless}
use Rattle.grasp_laws_negotiation.proofs.Left.{begun_unseen, begun_closed, begun_clear, one_looked, restart_looked, restart_harmless}
use Rattle.grasp_laws_negotiation.proofs.NodeMoves.{FromOld, NodeMove, move_stands, move_goes}
use Rattle.grasp_laws_negotiation.proofs.Standing.{view_seat, OpenStands, EndStands, SideStands, Stands, GoesTo, NoStream, NetworkStands}
use Rattle.grasp_laws_negotiation.proofs.Steps.{story_of, clear_of, comes_of, nothing_added, is_recorded, ends_apart}
use Rattle.grasp_laws_negotiation.specs.Grounds.{Grounds}
use Rattle.grasp_laws_negotiation.proofs.TalkRuns.{joined}
use Rattle.grasp_laws_negotiation.proofs.TalkSteps.{Fits}
use Rattle.grasp_laws_negotiation.proofs.Voices.{voices}
use Rattle.grasp_laws_negotiation.specs.Negotiations.{IsNegotiation}

-- ---- a drain

drain_brings : (max : ℕ) (x : Coming) (stream : ℕ) → (came_by (input.Drain max) x stream ≡ []) × (fault_by (input.Drain max) x stream ≡ false)
drain_brings max x stream = (refl, refl)

module _ (l : Grounds) (s : Setting) (w : WorldState) (r : IsReached s w) (k : NetworkStands w) (node max : ℕ) (seat : Seat) (here : seat_at w node ≡ Some seat) (least : 1 ≤ node) where
  abbrev now_core : NodeState
  now_core = begin seat.core seat.core.reading

  abbrev core : NodeState
  core = after_drain (begin seat.core seat.core.reading) max

  abbrev new : Seat
  new = seat_with (after_drain (begin seat.core seat.core.reading) max) seat.agent

  abbrev y : WorldState
  y = drained_from s w node seat (begin seat.core seat.core.reading) max

  step : NodeStep seat.core seat.core.reading (input.Drain max) no_choice.coming (Outputs (drained (begin seat.core seat.core.reading) max)) (after_drain (begin seat.core seat.core.reading) max)
  step = drain_steps seat.core seat.core.reading max no_choice.coming

  dials : (core.streams.dialled ≡ seat.core.streams.dialled) × (core.queue ≡ drop max seat.core.queue)
  dials = drains_dial_nothing seat.core core seat.core.reading max no_choice.coming (Outputs (drained now_core max)) step

  gains_nothing : gained seat.core core ≡ []
  gains_nothing =
      let a : core.queue ≡ drop max seat.core.queue = dials.1 in
      let b : length core.queue ≡ length (drop max seat.core.queue) = ap (λ (q : List Queued). length q) a in
      let c : length (drop max seat.core.queue) ≡ length seat.core.queue - max = length-drop max seat.core.queue in
      drop_of_length-le core.queue (omega (arith, b, c))

  put : y.seats ≡ slice_set w.seats (node - 1) new
  put = sending_keeps_nodes s (with_seat w node new) node (take max now_core.queue) (closes now_core max)

  harmless : Harmless w.streams y.streams
  harmless = handed_harmless s (with_seat w node new) node (take max now_core.queue) (closes now_core max)

  old : (place : ℕ) (u : StreamState) → slice_get y.streams place ≡ Some u → FromOld w node (input.Drain max) (gained seat.core core) place u
  old place u is =
      let m = harmless.back place u is in
      record {
        before = m.before;
        stands = m.stands;
        near = m.like.near;
        said = m.like.said ∙ sym (ap (λ q. joined (voices node u.near u.far q) m.before.said) gains_nothing);
        far = inl m.like.far;
      }

  -- a drain is a step of one node, in which no stream is new
  pub drain_is : NodeMove w y
  drain_is = record {
    node = node;
    seat = seat;
    new = new;
    now = seat.core.reading;
    i = input.Drain max;
    x = no_choice.coming;
    here = here;
    there = ap (λ z. numbered z node) put ∙ put_here w.seats node seat new here;
    others = λ n apart. ap (λ z. numbered z n) put ∙ put_elsewhere w.seats node n new least apart;
    story = story_of l s w r k node seat here core seat.core.reading (input.Drain max) no_choice.coming (Outputs (drained now_core max)) step;
    clear = clear_of l s w r k node seat here core seat.core.reading (input.Drain max) no_choice.coming (Outputs (drained now_core max)) step;
    comes = comes_of l s w r k node seat here core seat.core.reading (input.Drain max) no_choice.coming (Outputs (drained now_core max)) step
        (nothing_added l s w r k node seat here core seat.core.reading (input.Drain max) no_choice.coming (Outputs (drained now_core max)) step (drain_brings max));
    opened = λ stream o. absurd o;
    opened_given = λ stream o. absurd o;
    dialled = λ stream d none. none_dialled stream d;
    recorded = is_recorded l s w r k node seat here core seat.core.reading (input.Drain max) no_choice.coming (Outputs (drained now_core max)) step;
    ends_stay = λ e none place t is side at. let m = harmless.forth place t is in none place m.after m.stands side (like_ends t m.after m.like side e at);
    stays = λ place t is. let m = harmless.forth place t is in (m.after, m.stands, m.like.near);
    apart = λ place u is e at. let m = harmless.back place u is in ap (λ n. is_same_end e n) m.like.near ∙ ends_apart l s w r place m.before m.stands e (sym m.like.far ∙ at);
    comes_from = λ place u is. inl (old place u is);
  } where
    none_dialled : (stream : ℕ) → some_move is_dial (story_of l s w r k node seat here core seat.core.reading (input.Drain max) no_choice.coming (Outputs (drained now_core max)) step stream).moves ≡ true → ⊥
    none_dialled stream d =
        let q = story_of l s w r k node seat here core seat.core.reading (input.Drain max) no_choice.coming (Outputs (drained now_core max)) step stream in
        true≢false (sym d ∙ q.new (subst (λ n. IsGiven n stream) dials.0 (q.given d)))

  pub drain_stands : NetworkStands y
  drain_stands = move_stands w y drain_is k

  pub drain_goes : (place : ℕ) (t u : StreamState) → slice_get w.streams place ≡ Some t → slice_get y.streams place ≡ Some u → (m : Stands w t) → GoesTo y u m.talk
  drain_goes place t u was there m = move_goes w y drain_is k place t u was there m

pub drained_stands : (l : Grounds) (s : Setting) (w : WorldState) (node max : ℕ) → IsReached s w → NetworkStands w → 1 ≤ node → NetworkStands (network.drained s w node max)
unfolding network.drained
drained_stands l s w node max r k least = by_seat (seat_at w node) refl where
  by_seat : (o : Option Seat) → seat_at w node ≡ o → NetworkStands (drained_at s w node max o)
  by_seat None here = k
  by_seat (Some seat) here = drain_stands l s w r k node max seat here least

-- a stream is the same
pub same_goes : (w : WorldState) (place : ℕ) (t u : StreamState) → slice_get w.streams place ≡ Some t → slice_get w.streams place ≡ Some u → (m : Stands w t) → GoesTo w u m.talk
same_goes w place t u was there m =
    subst (λ z. GoesTo w z m.talk) (some_same t u (sym was ∙ there)) (record { stands = m; moves = []; ran = refl })

pub drained_goes : (l : Grounds) (s : Setting) (w : WorldState) (node max : ℕ) → IsReached s w → NetworkStands w → 1 ≤ node → (place : ℕ) (t u : StreamState) → slice_get w.streams place ≡ Some t
    → slice_get (network.drained s w node max).streams place ≡ Some u → (m : Stands w t) → GoesTo (network.drained s w node max) u m.talk
unfolding network.drained
drained_goes l s w node max r k least place t u was there m = by_seat (seat_at w node) refl there where
  by_seat : (o : Option Seat) → seat_at w node ≡ o → slice_get (drained_at s w node max o).streams place ≡ Some u → GoesTo (drained_at s w node max o) u m.talk
  by_seat None here found = same_goes w place t u was found m
  by_seat (Some seat) here found = drain_goes l s w r k node max seat here least place t u was found m

-- ---- networks in which each node is looked up as it was

-- what came on a stream that is open at a node
abbrev open_seat : ℕ → Option Seat → Option Past
open_seat stream None = None
open_seat stream (Some seat) = past_of seat.core.streams stream

module _ (w x : WorldState) (same_view : (n stream : ℕ) → view_seat stream (seat_at x n) ≡ view_seat stream (seat_at w n)) (same_open : (n stream : ℕ) → open_seat stream (seat_at x n) ≡ open_seat stream (seat_at w n)) where
  opened_before : (e : StreamEnd) (p : Party) (past : Past) (o : Option Seat) → seat_at w e.node ≡ o → open_seat e.number o ≡ Some past → EndStands w e p → OpenStands past p
  opened_before e p past None here is stands = absurd (none-some past is)
  opened_before e p past (Some seat) here is stands = stands.opens seat past here is

  end_still : (e : StreamEnd) (p : Party) → EndStands w e p → EndStands x e p
  end_still e p stands = record {
    fits = subst (λ v. Fits v p.stage) (sym (same_view e.node e.number)) stands.fits;
    opens = λ seat past found is. opened_before e p past (seat_at w e.node) refl (sym (same_open e.node e.number) ∙ (ap (open_seat e.number) found ∙ is)) stands;
  }

  side_still : (e : Option StreamEnd) (p : Party) → SideStands w e p → SideStands x e p
  side_still None p stands = stands
  side_still (Some e) p stands = end_still e p stands

  -- a stream that is like it was stands as it did
  abbrev still : (t u : StreamState) → IsLike t u → Stands w t → Stands x u
  still t u like m = record {
    talk = m.talk;
    reached = m.reached;
    said_is = m.said_is ∙ sym like.said;
    near = subst (λ e. EndStands x e m.talk.near) (sym like.near) (end_still t.near m.talk.near m.near);
    far = subst (λ e. SideStands x e m.talk.far) (sym like.far) (side_still t.far m.talk.far m.far);
  }

-- ---- another agent

module _ (w x : WorldState) (o : OneAgent w x) where
  -- each node has the core that it had
  pub had : (n : ℕ) (other : Seat) → seat_at x n ≡ Some other → (before : Seat) × (seat_at w n ≡ Some before) × (other.core ≡ before.core)
  had =
      agent_keeps (λ ts n other. (before : Seat) × (seat_at w n ≡ Some before) × (other.core ≡ before.core)) w x o (λ k. (o.seat, o.here, refl))
      (λ n seat there. (seat, there, refl))

  -- and each stream is there that was
  pub had_stream : (place : ℕ) (t : StreamState) → slice_get x.streams place ≡ Some t → slice_get w.streams place ≡ Some t
  had_stream place t is = subst (λ (y : WorldState). slice_get y.streams place ≡ Some t) o.after is

  same_view : (n stream : ℕ) → view_seat stream (seat_at x n) ≡ view_seat stream (seat_at w n)
  same_view n stream = one_looked (view_seat stream) w x o refl n

  same_open : (n stream : ℕ) → open_seat stream (seat_at x n) ≡ open_seat stream (seat_at w n)
  same_open n stream = one_looked (open_seat stream) w x o refl n

  abbrev one_still : (t : StreamState) → Stands w t → Stands x t
  one_still t m = still w x same_view same_open t t (like_itself t) m

  pub one_stands : NetworkStands w → NetworkStands x
  one_stands k = record {
    clear = λ n other found stream. let h = had n other found in subst (λ (z : NodeState). IsClear z stream) (sym h.2) (k.clear n h.0 h.1 stream);
    unseen = λ n other found stream none. let h = had n other found in
        let before = subst (λ (y : WorldState). NoStream y.streams (end_of n stream)) o.after none in
        subst (λ (z : NodeState). view_on z stream ≡ None) (sym h.2) (k.unseen n h.0 h.1 stream before);
    streams = λ place t is negotiation. one_still t (k.streams place t (had_stream place t is) negotiation);
  }

  -- a change of the agent of one node leaves each stream as it was, with no move made
  pub one_goes : (place : ℕ) (t u : StreamState) → slice_get w.streams place ≡ Some t → slice_get x.streams place ≡ Some u → (m : Stands w t) → GoesTo x u m.talk
  one_goes place t u was there m = subst (λ z. GoesTo x z m.talk) (some_same t u (sym was ∙ had_stream place u there)) (record { stands = one_still t m; moves = []; ran = refl })

-- ---- a restart

module _ (s : Setting) (w : WorldState) (node : ℕ) (image : PoolImage) (x : WorldState) (r : Restarting s w node image x) where
  restart_view : (n stream : ℕ) → view_seat stream (seat_at x n) ≡ view_seat stream (seat_at w n)
  restart_view n stream = restart_looked s w node image x r (view_seat stream) refl (begun_unseen r.member.plan (pool_of_image image) stream) n

  restart_open : (n stream : ℕ) → open_seat stream (seat_at x n) ≡ open_seat stream (seat_at w n)
  restart_open n stream = restart_looked s w node image x r (open_seat stream) refl (begun_closed r.member.plan (pool_of_image image) stream) n

  -- an end that no stream has now had none before
  none_before : (e : StreamEnd) → NoStream x.streams e → NoStream w.streams e
  none_before e none place t is side at = let m = (restart_harmless s w node image x r).forth place t is in none place m.after m.stands side (like_ends t m.after m.like side e at)

  pub restart_stands : NetworkStands w → NetworkStands x
  restart_stands k = record {
    clear = restart_seats (λ n z. (stream : ℕ) → IsClear z.core stream) s w node image x r (k.clear (present_life w node) r.seat r.here) (begun_clear r.member.plan (pool_of_image image)) k.clear;
    unseen = restart_seats (λ n z. (stream : ℕ) → NoStream x.streams (end_of n stream) → view_on z.core stream ≡ None) s w node image x r
        (λ stream none. k.unseen (present_life w node) r.seat r.here stream (none_before (end_of (present_life w node) stream) none))
        (λ stream none. begun_unseen r.member.plan (pool_of_image image) stream) (λ n z here stream none. k.unseen n z here stream (none_before (end_of n stream) none));
    streams = λ place u is negotiation. by_before place u negotiation ((restart_harmless s w node image x r).back place u is);
  } where
    by_before : (place : ℕ) (u : StreamState) → IsNegotiation u → Was w.streams place u → Stands x u
    by_before place u negotiation m =
        still w x restart_view restart_open m.before u m.like
        (k.streams place m.before m.stands (subst (λ (c : List Said). IsOpened (reverse (spoken Near c))) m.like.said negotiation))

-- ---- the first network

pub first_of : (s : Setting) (node : ℕ) (seat : Seat) → seat_at (first_world s) node ≡ Some seat → (m : Member) × (first_seat m ≡ seat)
unfolding first_world
first_of s node seat found = by_zero (node == 0) refl where
  by_zero : (b : Bool) → (node == 0) ≡ b → (m : Member) × (first_seat m ≡ seat)
  by_zero true is = absurd (none-some seat (subst (λ z. cond z None (slice_get (map first_seat s.members) (node - 1)) ≡ Some seat) is found))
  by_zero false is = made (is_made first_seat s.members (node - 1) seat (subst (λ z. cond z None (slice_get (map first_seat s.members) (node - 1)) ≡ Some seat) is found)) where
    made : IsMade first_seat s.members (node - 1) seat → (m : Member) × (first_seat m ≡ seat)
    made i = (i.of, i.made)

pub first_stands : (s : Setting) → NetworkStands (first_world s)
unfolding first_world
first_stands s = record {
  clear = λ node seat found stream. let f = first_of s node seat found in subst (λ (z : Seat). IsClear z.core stream) f.1 (begun_clear f.0.plan (pool_of f.0.roots) stream);
  unseen = λ node seat found stream none. let f = first_of s node seat found in subst (λ (z : Seat). view_on z.core stream ≡ None) f.1 (begun_unseen f.0.plan (pool_of f.0.roots) stream);
  streams = λ place t is negotiation. absurd (none-some t is);
}
