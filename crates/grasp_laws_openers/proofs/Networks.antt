-- In every network that turns lead to, each record of a node tells of the node that dialled its stream.
use Rattle.std.proofs.Common.{◌≡◌, ◌≢◌, ◌≤◌, ◌-◌, ◌==◌, ◌⊎◌, inl, inr, refl, sym, ap, ◌∙◌, subst, ℕ, Bool, true, false, cond, List, [], map, length, slice_get, slice_set, take, Option, None, Some, All, arith}
use Rattle.std.proofs.lemmas.Bool.Decides.{eqb_tells}
use Rattle.std.proofs.lemmas.List.Elements.{All-weaker}
use Rattle.std.proofs.lemmas.Option.{none-some, same_Some}
use Rattle.grasp_laws_delivery.proofs.AfterSteps.{put_or, seats_stepped, streams_before, streams_stepped}
use Rattle.grasp_laws_delivery.proofs.Ends.{end_itself}
use Rattle.grasp_laws_delivery.proofs.Holding.{IsStep, PartsKeep, parts_keep}
use Rattle.grasp_laws_delivery.proofs.Inputs.{IsPlain, agent_plain_input, clock_input, cut_input, datagram_input, piece_input, visit_input, visit_node}
use Rattle.grasp_laws_delivery.proofs.OnePlace.{numbered_place}
use Rattle.grasp_laws_delivery.proofs.Sides.{place_changed}
use Rattle.grasp_laws_delivery.specs.Ready.{StreamsAreReady}
use Rattle.grasp_laws_negotiation.proofs.StreamsMade.{with_voices, made_stays}
use Rattle.grasp_laws_network.proofs.Appended.{numbered_get}
use Rattle.grasp_laws_network.proofs.Begun.{begun_streams}
use Rattle.grasp_laws_network.proofs.EachNode.{IsMade, drain_steps, is_made}
use Rattle.grasp_laws_network.proofs.Here.{visits_are_here}
use Rattle.grasp_laws_network.proofs.Others.{put_elsewhere}
use Rattle.grasp_laws_network.proofs.Restarted.{IsRestarted, Restarting, begins, begun_seat, ended, goes_on, retired_seat, same_end}
use Rattle.grasp_laws_network.proofs.Sent.{sending_keeps_nodes}
use Rattle.grasp_laws_network.proofs.Staying.{put_here}
use Rattle.grasp_laws_network.proofs.Telling.{one_agent, one_least}
use Rattle.grasp_laws_network.specs.Keeping.{IsHere}
use Rattle.grasp_laws_network.specs.Telling.{OneAgent}
use Rattle.grasp_laws_node.proofs.PlansStay.{step_plan}
use Rattle.grasp_laws_openers.proofs.Records.{NodeTold}
use Rattle.grasp_laws_openers.proofs.Steps.{OpensTold, step_told}
use Rattle.grasp_laws_openers.specs.Laws.{OpenersAreTold}
use Rattle.grasp_laws_openers.specs.Told.{IsOpener, RecordTold, ToldBy}
use Rattle.grasp_laws_prefixes.proofs.Places.{handed_stay, same_stay, step_stays}
use Rattle.grasp_laws_prefixes.proofs.Standing.{AllStay}
use Rattle.grasp_model_network.specs.EventSteps.{arrival_visit, opened_at, opened_stream}
use Rattle.grasp_model_network.specs.Events.{Occurs, after_visit, visit_of}
use Rattle.grasp_model_network.specs.Runs.{IsReached, first_world}
use Rattle.grasp_model_network.specs.Sending.{drained, drained_at, drained_from, gained, seat_with}
use Rattle.grasp_model_network.specs.Setting.{Setting, member_at, numbered}
use Rattle.grasp_model_network.specs.StreamChanges.{arrival_by, arrived}
use Rattle.grasp_model_network.specs.Streams.{Arrival, StreamEnd, StreamState, changed_by, is_same_end, is_at_end, is_waiting, stream_numbered, with_far}
use Rattle.grasp_model_network.specs.Visits.{Choice, MayCome, Visit, VisitStep, no_choice}
use Rattle.grasp_model_network.specs.World.{Seat, WorldState, end_of, present_life, seat_at, with_seat}
use Rattle.grasp_model_network.specs.Openings.{first_seat, opened_seat}
use Rattle.grasp_model_network.specs.declared.event.Event.{Event}
use Rattle.grasp_model_network.specs.declared.event.Event.TheVariants as event
use Rattle.grasp_model_node.specs.Begin.{begin}
use Rattle.grasp_model_node.specs.Draining as draining
use Rattle.grasp_model_node.specs.Draining.{after_drain, closes}
use Rattle.grasp_model_node.specs.Node.{NodeState}
use Rattle.grasp_model_node.specs.Streams.{StreamsState}
use Rattle.grasp_model_node.specs.declared.plan.NodePlan.{NodePlan}
use Rattle.grasp_pool.specs.Functions.{pool_of, pool_of_image}
use Rattle.grasp_pool.specs.Holdings.{Holding}
use Rattle.grasp_pool.specs.declared.image.PoolImage.{PoolImage}
use Rattle.grasp_session.specs.Messages.{Near, Far}
use Rattle.grasp_types.specs.declared.address.Address.{Address}
use Rattle.grasp_types.specs.declared.reply.Reply.TheVariants as reply
use Rattle.grasp_types.specs.declared.traffic.Input.{Input}
use Rattle.grasp_types.specs.declared.traffic.Input.TheVariants as input

-- ---- what is so of more

module _ (P Q : ℕ → Address → Type 0) (wider : (number : ℕ) (a : Address) → P number a → Q number a) where
  told_wider : (number : ℕ) (o : Option Address) → ToldBy P number o → ToldBy Q number o
  told_wider number None t = t
  told_wider number (Some a) t = wider number a t

  node_wider : (n : NodeState) → NodeTold P n → NodeTold Q n
  node_wider n t = All-weaker (RecordTold P) (RecordTold Q) (λ x. told_wider x.number x.from) n.streams.records t

module _ (s : Setting) where
  -- what is told at this end is so in this network
  abbrev At : WorldState → ℕ → ℕ → Address → Type 0
  At w node number a = IsOpener s w (end_of node number) a

  abbrev AreTold : WorldState → Type 0
  AreTold w = (node : ℕ) (seat : Seat) → seat_at w node ≡ Some seat → NodeTold (At w node) seat.core

  -- each life is there, with its plan
  abbrev PlansStay : WorldState → WorldState → Type 0
  PlansStay w x = (node : ℕ) (seat : Seat) → seat_at w node ≡ Some seat → (other : Seat) × (seat_at x node ≡ Some other) × (other.core.plan ≡ seat.core.plan)

  still_opener : (w x : WorldState) → AllStay w.streams x.streams → PlansStay w x → (e : StreamEnd) (a : Address) → IsOpener s w e a → IsOpener s x e a
  still_opener w x stay plans e a o =
      let u = stay o.place o.talk o.stands in
      let near : u.after.near ≡ o.talk.near = same_Some u.after.near o.talk.near (u.ends Near o.talk.near refl) in
      let d = plans o.talk.near.node o.dialler o.dialled in
      record {
        place = o.place;
        talk = u.after;
        stands = u.stands;
        opened = u.ends Far e o.opened;
        number = o.number;
        arrives = o.arrives;
        dialler = d.0;
        dialled = subst (λ (f : StreamEnd). seat_at x f.node ≡ Some d.0) (sym near) d.1;
        told = o.told ∙ ap (λ (p : NodePlan). s.arrives_from o.number p.address) (sym d.2);
      }

  still_told : (w x : WorldState) → AllStay w.streams x.streams → PlansStay w x → (node : ℕ) (n : NodeState) → NodeTold (At w node) n → NodeTold (At x node) n
  still_told w x stay plans node n t = node_wider (At w node) (At x node) (λ number a. still_opener w x stay plans (end_of node number) a) n t

  -- ---- one life is put

  plans_put : (w x : WorldState) (node : ℕ) (seat put : Seat) → 1 ≤ node → seat_at w node ≡ Some seat → x.seats ≡ slice_set w.seats (node - 1) put → put.core.plan ≡ seat.core.plan → PlansStay w x
  plans_put w x node seat put least here seats same n other found = by_node (eqb_tells n node) where
    by_node : (((n == node) ≡ true) × (n ≡ node)) ⊎ (((n == node) ≡ false) × (n ≢ node)) → (z : Seat) × (seat_at x n ≡ Some z) × (z.core.plan ≡ other.core.plan)
    by_node (inl i) = (
      put,
      ap (λ (l : List Seat). numbered l n) seats ∙ subst (λ k. numbered (slice_set w.seats (node - 1) put) k ≡ Some put) (sym i.1) (put_here w.seats node seat put here),
      same ∙ ap (λ (y : Seat). y.core.plan) (same_Some seat other (sym here ∙ subst (λ k. seat_at w k ≡ Some other) i.1 found)),
    )
    by_node (inr i) = (other, ap (λ (l : List Seat). numbered l n) seats ∙ (put_elsewhere w.seats node n put least i.1 ∙ found), refl)

  put_told : (w x : WorldState) (node : ℕ) (seat put : Seat) → 1 ≤ node → seat_at w node ≡ Some seat → x.seats ≡ slice_set w.seats (node - 1) put → put.core.plan ≡ seat.core.plan
      → AllStay w.streams x.streams → (NodeTold (At x node) seat.core → NodeTold (At x node) put.core) → AreTold w → AreTold x
  put_told w x node seat put least here seats same stay own k n other found =
      by_put (put_or w.seats node put n other least (subst (λ (l : List Seat). numbered l n ≡ Some other) seats found)) where
        plans : PlansStay w x
        plans = plans_put w x node seat put least here seats same

        by_put : ((n ≡ node) × (put ≡ other)) ⊎ ((n ≢ node) × (numbered w.seats n ≡ Some other)) → NodeTold (At x n) other.core
        by_put (inl t) = subst (λ m. NodeTold (At x m) other.core) (sym t.0) (subst (λ (y : Seat). NodeTold (At x node) y.core) t.1 (own (still_told w x stay plans node seat.core (k node seat here))))
        by_put (inr t) = still_told w x stay plans n other.core (k n other t.1)

  -- ---- a stream that is opened

  -- the stream, and the node that dialled it, whose address is told
  record Opening (w : WorldState) (k : ℕ) (v : Visit) : Type 0 where
    talk : StreamState
    found : stream_numbered w.streams k ≡ Some talk
    dialler : Seat
    dialled : seat_at w talk.near.node ≡ Some dialler
    input_is : v.input ≡ input.Opened (s.arrives_as v.node k) (s.arrives_from k dialler.core.plan.address)

  opening_by : (w : WorldState) (k : ℕ) (v : Visit) (t : StreamState) → stream_numbered w.streams k ≡ Some t → (to : Option ℕ) (near : Option Seat) → seat_at w t.near.node ≡ near
      → opened_at s w k to near ≡ Some v → Opening w k v
  opening_by w k v t found None near e is = absurd (none-some v is)
  opening_by w k v t found (Some node) None e is = absurd (none-some v is)
  opening_by w k v t found (Some node) (Some near) e is =
      let life : ℕ = present_life w node in
      let i : Input = input.Opened (s.arrives_as life k) (s.arrives_from k near.core.plan.address) in
      record {
        talk = t;
        found = found;
        dialler = near;
        dialled = e;
        input_is =
            subst (λ n. v.input ≡ input.Opened (s.arrives_as n k) (s.arrives_from k near.core.plan.address)) (visit_node life i v (seat_at w life) is)
            (sym (visit_input life i v (seat_at w life) is));
      }

  opening_where : (w : WorldState) (k : ℕ) (v : Visit) (t : StreamState) → stream_numbered w.streams k ≡ Some t → (b : Bool)
      → cond b (opened_at s w k (member_at s t.to) (seat_at w t.near.node)) None ≡ Some v → Opening w k v
  opening_where w k v t found true is = opening_by w k v t found (member_at s t.to) (seat_at w t.near.node) refl is
  opening_where w k v t found false is = absurd (none-some v is)

  opening_of : (w : WorldState) (k : ℕ) (v : Visit) (o : Option StreamState) → stream_numbered w.streams k ≡ o → opened_stream s w k o ≡ Some v → Opening w k v
  opening_of w k v None found is = absurd (none-some v is)
  opening_of w k v (Some t) found is = opening_where w k v t found (is_waiting t.far_side) is

  opening : (w : WorldState) (k : ℕ) (hold : Bool) (v : Visit) → visit_of s w (event.Arrive k hold) ≡ Some v → Opening w k v
  unfolding arrival_visit
  opening w k hold v is = opening_of w k v (stream_numbered w.streams k) refl is

  -- the side that dialled is the near one
  near_side : (t : StreamState) (far : StreamEnd) (a : Arrival) → changed_by (with_far far a) t (cond (is_same_end t.near t.near) (Some Near) (cond (is_at_end t.near t.far) (Some Far) None)) ≡ with_far far a t Near
  near_side t far a = ap (λ b. changed_by (with_far far a) t (cond b (Some Near) (cond (is_at_end t.near t.far) (Some Far) None))) (end_itself t.near)

  module _ (w : WorldState) (k : ℕ) (hold : Bool) (v : Visit) (c : Choice) (o : Opening w k v) where
    abbrev opened_stream_is : StreamState
    opened_stream_is = with_far (end_of v.node (s.arrives_as v.node k)) (arrival_by c.reply) o.talk Near

    opened_there : (place : ℕ) → slice_get w.streams place ≡ Some o.talk → slice_get (streams_before s w (event.Arrive k hold) v c) place ≡ Some opened_stream_is
    opened_there place stands =
        let f = with_far (end_of v.node (s.arrives_as v.node k)) (arrival_by c.reply) in
        ap (λ (z : Option StreamState). slice_get (arrived w v (s.arrives_as v.node k) c.reply z).streams place) o.found
        ∙ (place_changed w.streams o.talk.near f place o.talk stands ∙ ap (λ (u : StreamState). Some u) (near_side o.talk (end_of v.node (s.arrives_as v.node k)) (arrival_by c.reply)))

    opens : PlansStay w (after_visit s w (event.Arrive k hold) v c) → OpensTold (At (after_visit s w (event.Arrive k hold) v c) v.node) v.input
    opens plans =
        let x : WorldState = after_visit s w (event.Arrive k hold) v c in
        let qs = gained v.seat.core c.after in
        let at = numbered_place k w.streams o.talk o.found in
        let d = plans o.talk.near.node o.dialler o.dialled in
        subst (OpensTold (At x v.node)) (sym o.input_is)
        (record {
          place = at.place;
          talk = with_voices v.node qs opened_stream_is;
          stands =
              ap (λ (ts : List StreamState). slice_get ts at.place) (streams_stepped s w (event.Arrive k hold) v c tt)
              ∙ made_stays v.node qs (streams_before s w (event.Arrive k hold) v c) at.place opened_stream_is (opened_there at.place at.stands);
          opened = refl;
          number = k;
          arrives = refl;
          dialler = d.0;
          dialled = d.1;
          told = ap (λ (p : NodePlan). s.arrives_from k p.address) (sym d.2);
        })

  -- ---- a step

  plain_opens : (P : ℕ → Address → Type 0) (i : Input) → IsPlain i → OpensTold P i
  plain_opens P (input.Drain max) p = tt
  plain_opens P (input.Opened stream from) p = absurd p
  plain_opens P (input.Api asa call) p = tt
  plain_opens P (input.Datagram link from bytes) p = tt
  plain_opens P (input.Bytes stream bytes) p = tt
  plain_opens P (input.Closed stream) p = tt

  step_opens : (w : WorldState) (e : Event) (v : Visit) (c : Choice) → IsStep e → visit_of s w e ≡ Some v → PlansStay w (after_visit s w e v c) → OpensTold (At (after_visit s w e v c) v.node) v.input
  step_opens w (event.Want node length longest peer) v c step is plans = absurd step
  step_opens w (event.Return node prefix peer) v c step is plans = absurd step
  step_opens w (event.Drain node max) v c step is plans = absurd step
  step_opens w (event.Clock node millis) v c step is plans = plain_opens (At (after_visit s w (event.Clock node millis) v c) v.node) v.input (clock_input s w node millis v is)
  step_opens w (event.Agent node hold) v c step is plans = plain_opens (At (after_visit s w (event.Agent node hold) v c) v.node) v.input (agent_plain_input s w node hold v is)
  step_opens w (event.Api node asa call hold) v c step is plans =
      subst (OpensTold (At (after_visit s w (event.Api node asa call hold) v c) v.node)) (visit_input (present_life w node) (input.Api asa call) v (seat_at w (present_life w node)) is) tt
  step_opens w (event.Datagram index hold) v c step is plans = plain_opens (At (after_visit s w (event.Datagram index hold) v c) v.node) v.input (datagram_input s w index hold v is)
  step_opens w (event.Arrive stream hold) v c step is plans = opens w stream hold v c (opening w stream hold v is) plans
  step_opens w (event.Bytes stream far count hold) v c step is plans =
      plain_opens (At (after_visit s w (event.Bytes stream far count hold) v c) v.node) v.input (piece_input s w stream count far hold v is)
  step_opens w (event.Cut stream far hold) v c step is plans = plain_opens (At (after_visit s w (event.Cut stream far hold) v c) v.node) v.input (cut_input s w stream far hold v is)

  step_is_told : StreamsAreReady → (w : WorldState) (e : Event) (c : Choice) (v : Visit) → IsReached s w → AreTold w → Occurs s w e c → visit_of s w e ≡ Some v → IsStep e → AreTold (after_visit s w e v c)
  step_is_told ready w e c v r k o is step =
      let x : WorldState = after_visit s w e v c in
      let h : IsHere w v = visits_are_here s w e v is in
      let put = seats_stepped s w e v c step in
      let came : VisitStep v c = subst (λ z. MayCome z c) is o.comes in
      let plan : c.after.plan ≡ v.seat.core.plan = step_plan v.seat.core c.after v.now v.input c.coming c.reply came.steps in
      let plans = plans_put w x v.node v.seat (seat_with c.after put.agent) h.member.least h.stands put.seats plan in
      put_told w x v.node v.seat (seat_with c.after put.agent) h.member.least h.stands put.seats plan (step_stays ready s w r e v c is step)
      (step_told (At x v.node) v.seat.core c.after v.now v.input c.coming c.reply (step_opens w e v c step is plans) came.steps) k

  -- ---- a drain, and another agent

  drain_is_told : (w : WorldState) (node max : ℕ) → 1 ≤ node → AreTold w → (o : Option Seat) → seat_at w node ≡ o → AreTold (drained_at s w node max o)
  drain_is_told w node max least k None here = k
  drain_is_told w node max least k (Some seat) here =
      let m : NodeState = begin seat.core seat.core.reading in
      let x : WorldState = drained_from s w node seat m max in
      let put : Seat = seat_with (after_drain m max) seat.agent in
      let outputs = reply.Outputs (draining.drained m max) in
      let steps = drain_steps seat.core seat.core.reading max no_choice.coming in
      put_told w x node seat put least here (sending_keeps_nodes s (with_seat w node put) node (take max m.queue) (closes m max))
      (step_plan seat.core (after_drain m max) seat.core.reading (input.Drain max) no_choice.coming outputs steps) (handed_stay s (with_seat w node put) node (take max m.queue) (closes m max))
      (step_told (At x node) seat.core (after_drain m max) seat.core.reading (input.Drain max) no_choice.coming outputs tt steps) k

  one_told : (w x : WorldState) → OneAgent w x → AreTold w → AreTold x
  one_told w x o k =
      put_told w x o.node o.seat (seat_with o.seat.core o.agent) (one_least w x o) o.here (ap (λ (y : WorldState). y.seats) o.after) refl
      (same_stay w.streams x.streams (ap (λ (y : WorldState). y.streams) o.after)) (λ t. t) k

  -- ---- the beginning of a life

  nothing_told : (P : ℕ → Address → Type 0) (plan : NodePlan) (h : Holding) → NodeTold P (opened_seat plan h).core
  nothing_told P plan h = subst (λ (t : StreamsState). All (RecordTold P) t.records) (sym (begun_streams plan h)) none where
    none : All (RecordTold P) []
    none i d within = absurd (omega (arith, within))

  restart_is_told : (w x : WorldState) (node : ℕ) (image : PoolImage) → Restarting s w node image x → AreTold w → AreTold x
  restart_is_told w x node image t k n other found = by_each (t.each n other found) where
    stay : AllStay w.streams x.streams
    stay place u stands =
        let y = t.told place u stands in
        record { after = y.0; stands = y.1; ends = λ side e at. same_end s node (present_life w node) u y.0 y.2 side ∙ at; newer = []; said = y.2.same.said }

    plans : PlansStay w x
    plans m seat here = by_life (eqb_tells m (present_life w node)) where
      by_life : (((m == present_life w node) ≡ true) × (m ≡ present_life w node)) ⊎ (((m == present_life w node) ≡ false) × (m ≢ present_life w node))
          → (z : Seat) × (seat_at x m ≡ Some z) × (z.core.plan ≡ seat.core.plan)
      by_life (inl i) = (
        retired_seat t.seat,
        subst (λ l. seat_at x l ≡ Some (retired_seat t.seat)) (sym i.1) t.left,
        ap (λ (y : Seat). y.core.plan) (same_Some t.seat seat (sym t.here ∙ subst (λ l. seat_at w l ≡ Some seat) i.1 here)),
      )
      by_life (inr i) = (seat, t.stays m seat i.1 here, refl)

    by_each : IsRestarted w (present_life w node) (retired_seat t.seat) (begun_seat t.member image) n other → NodeTold (At x n) other.core
    by_each (ended at same) =
        subst (λ (y : Seat). NodeTold (At x n) y.core) same (still_told w x stay plans n t.seat.core (k n t.seat (subst (λ l. seat_at w l ≡ Some t.seat) (sym at) t.here)))
    by_each (goes_on apart there) = still_told w x stay plans n other.core (k n other there)
    by_each (begins at same) = subst (λ (y : Seat). NodeTold (At x n) y.core) same (nothing_told (At x n) t.member.plan (pool_of_image image))

  first_told : AreTold (first_world s)
  unfolding first_world
  first_told node seat found = by_made (is_made first_seat s.members (node - 1) seat (numbered_get (map first_seat s.members) node seat found)) where
    by_made : IsMade first_seat s.members (node - 1) seat → NodeTold (At (first_world s) node) seat.core
    by_made m = subst (λ (y : Seat). NodeTold (At (first_world s) node) y.core) m.made (nothing_told (At (first_world s) node) m.of.plan (pool_of m.of.roots))

  -- ---- all turns

  told_parts : StreamsAreReady → PartsKeep s AreTold
  unfolding drained
  told_parts ready = record {
    steps = λ w e c v r k o is step reached. step_is_told ready w e c v r k o is step;
    told = λ w x e r t k. one_told w x (one_agent s w e x t) k;
    drains = λ w node max r k least. drain_is_told w node max least k (seat_at w node) refl;
    settles = λ w x node p r t k. one_told w x t.one k;
    restarts = λ w x node image r t k. restart_is_told w x node image t k;
  }

pub openers_are_told : StreamsAreReady → OpenersAreTold
openers_are_told ready s w r = parts_keep s (AreTold s) (told_parts s ready) (first_told s) w r
