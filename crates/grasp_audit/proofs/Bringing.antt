-- What a stream brings to a node.
use Rattle.std.proofs.Common.{◌≡◌, refl, sym, ap, ◌∙◌, subst, arith, ℕ, ◌+◌, ◌-◌, ◌*◌, ◌/◌, ◌%◌, ◌==◌, ◌&&◌, Bool, true, false, cond, if◌then◌else◌, List, length, map, Option, Some, None}
use Rattle.std.specs.Cmp.{both_ways}
use Rattle.std.specs.Prelude.{bytes_eq, find}
use Rattle.std.proofs.Math.Bool.{and_assoc}
use Rattle.std.proofs.lemmas.Bool.{eqb-true, eqb-false, eq-eqb, ne_eqb}
use Rattle.std.proofs.lemmas.Option.{none-some, same_Some}
use Rattle.grasp_laws_delivery.proofs.FromReady.{every_at}
use Rattle.grasp_laws_delivery.proofs.Heard.Steps.{IsReachedSide, reached_is}
use Rattle.grasp_laws_delivery.proofs.OnePlace.{numbered_place}
use Rattle.grasp_laws_delivery.specs.Ready.{HasGoodEnds, HasGoodFar, StreamsAreReady}
use Rattle.grasp_laws_network.proofs.EachNode.{nodes_are_sound}
use Rattle.grasp_laws_network.proofs.Lists.{numbered_there}
use Rattle.grasp_laws_network.proofs.Lives.{is_present_life}
use Rattle.grasp_laws_network.proofs.LivesKept.{life_member, lives_are_kept}
use Rattle.grasp_laws_network.specs.Lives.{LivesStand}
use Rattle.grasp_model_audit.specs.Naming.{NamedSide, bytes_event, closing_event, if_brought, is_brought, is_taken, side_in, side_numbered, side_with}
use Rattle.grasp_model_network.specs.EventSteps.{arrival_visit, cut_at, cut_visit, opened_at, opened_stream, piece_at, piece_visit}
use Rattle.grasp_model_network.specs.Events.{visit_of}
use Rattle.grasp_model_network.specs.Plans.{IsNode}
use Rattle.grasp_model_network.specs.Runs.{IsReached}
use Rattle.grasp_model_network.specs.Setting.{Member, Setting, member_at, numbered, numbers_from, script_address, script_member, script_setting}
use Rattle.grasp_model_network.specs.StreamChanges.{Reached, reached_side, side_named}
use Rattle.grasp_model_network.specs.Streams.{StreamEnd, StreamState, end_at, has_end, is_waiting, next_bytes, side_of_end, stream_numbered}
use Rattle.grasp_model_network.specs.Visits.{visit, visit_seat}
use Rattle.grasp_model_network.specs.World.{Seat, WorldState, end_of, member_of, present_life, seat_at}
use Rattle.grasp_model_network.specs.declared.event.Event.{Event}
use Rattle.grasp_model_network.specs.declared.event.Event.TheVariants as event
use Rattle.grasp_model_network.specs.declared.plan.WorldPlan.{WorldPlan}
use Rattle.grasp_model_node.specs.declared.plan.NodePlan.{NodePlan}
use Rattle.grasp_session.specs.Messages.{Side, Near, Far, other}
use Rattle.grasp_types.specs.Same.{same_address}
use Rattle.grasp_types.specs.declared.address.Address.{Address}
use Rattle.grasp_types.specs.declared.traffic.Input.{Input}
use Rattle.grasp_types.specs.declared.traffic.Input.TheVariants as input
use Rattle.grasp_record.specs.declared.line.RecordInput.{RecordInput}
use Rattle.grasp_record.specs.declared.line.RecordInput.TheVariants as took
use Rattle.grasp_simulator.specs.Lending.{LendsNext, LendsSide, StandsFor, TellsStream, TellsWaiting, dialled_at, next_from, numbered_side, side_lent, waiting_at, waiting_for}
use Rattle.grasp_simulator.specs.WorldStands.{HasNode}
use Rattle.grasp_simulator.specs.declared.world.World.{World}
use Rattle.grasp_simulator.specs.declared.world_arrivals.Waiting.{Waiting}
use Rattle.grasp_simulator.specs.declared.world_lends.SideEnd.{SideEnd}
use Rattle.grasp_simulator.proofs.ArrivesGo.{listener_member}
use Rattle.grasp_simulator.proofs.SeatLists.{numbered_from_1}
use Rattle.grasp_audit.specs.Coming.{ArrivesSo, IsSideOf, NamesBrought, arrives_at, bytes_at, closing_at, is_end, is_odd, waits_with}
use Rattle.grasp_audit.proofs.Seats.{IsThere, node_there, plan_members}

-- the node is one of each network for which the code goes on
node_in : (code : World) (node : ℕ) (s : Setting) (w : WorldState) → HasNode code node → StandsFor code s w → IsNode (length s.members) node
node_in code node s w h stands =
    let one : length code.seats.items ≡ length s.members = stands.count in
    let other : length code.seats.items ≡ length h.network.setting.members = h.stands.count in
    subst (λ (n : ℕ). IsNode n node) (sym other ∙ one) h.is_node

-- ---- lives

module _ (s : Setting) (w : WorldState) (stand : LivesStand s w) where
  -- two members have one present life where they are one
  same_member : (m node : ℕ) → IsNode (length s.members) m → IsNode (length s.members) node → (present_life w m == present_life w node) ≡ (m == node)
  same_member m node a b =
      both_ways (present_life w m == present_life w node) (m == node)
      (λ e. eq-eqb m node (sym (stand.own m a) ∙ ap (member_of w) (eqb-true (present_life w m) (present_life w node) e) ∙ stand.own node b))
      (λ e. eq-eqb (present_life w m) (present_life w node) (ap (present_life w) (eqb-true m node e)))

  -- a present life is a member's where it is the member's present one
  same_life : (life node : ℕ) → IsNode (length s.members) node → life ≡ present_life w (member_of w life) → (life == present_life w node) ≡ (member_of w life == node)
  same_life life node b own =
      both_ways (life == present_life w node) (member_of w life == node)
      (λ e. eq-eqb (member_of w life) node (ap (member_of w) (eqb-true life (present_life w node) e) ∙ stand.own node b))
      (λ e. eq-eqb life (present_life w node) (own ∙ ap (present_life w) (eqb-true (member_of w life) node e)))

-- ---- a side that is reached

end_known : (s : Setting) (nodes dials : ℕ) (t : StreamState) (side : Side) (e : StreamEnd) → HasGoodEnds s nodes dials t.near t.number t.far → end_at t side ≡ Some e → IsNode nodes e.node
end_known s nodes dials t Near e h is = subst (λ (x : StreamEnd). IsNode nodes x.node) (same_Some t.near e is) h.member
end_known s nodes dials t Far e h is = far_known t.number t.far h.opened is where
  far_known : (number : Option ℕ) (far : Option StreamEnd) → HasGoodFar s nodes number far → far ≡ Some e → IsNode nodes e.node
  far_known number None g at = absurd (none-some e at)
  far_known None (Some f) g at = absurd g
  far_known (Some k) (Some f) g at = subst (λ (x : StreamEnd). IsNode nodes x.node) (same_Some f e at) g.0

-- the life that has the side
record Reaches (w : WorldState) (x : Reached) : Type 0 where
  seat : Seat
  here : seat_at w x.at.node ≡ Some seat
  own : x.at.node ≡ present_life w (member_of w x.at.node)

module _ (ready : StreamsAreReady) (s : Setting) (w : WorldState) (r : IsReached s w) where
  reaches : (k : ℕ) (side : Side) (x : Reached) → reached_side w k side ≡ Some x → Reaches w x
  reaches k side x found =
      let h : IsReachedSide w k side x = reached_is w k side x found in
      let at = numbered_place k w.streams x.talk h.found in
      let ends = every_at (λ t. HasGoodEnds s (length w.seats) w.dials t.near t.number t.far) w.streams (ready.ends s w r) at.place x.talk at.stands in
      let there = numbered_there w.seats x.at.node (end_known s (length w.seats) w.dials x.talk side x.at ends h.ends) in
      record { seat = there.0; here = there.1; own = is_present_life w x.at.node (ready.present s w r at.place x.talk at.stands side x.at h.alive h.ends) }

  module _ (node : ℕ) (n : IsNode (length s.members) node) where
    abbrev stand : LivesStand s w
    stand = lives_are_kept s w r

    -- what comes at such a side is brought to the node where the side is the node's and it is what the line says
    reached_brought : (k : ℕ) (side : Side) (x : Reached) (i : RecordInput) (come : Input) → reached_side w k side ≡ Some x
        → is_brought w node i (visit w x.at.node come) ≡ ((member_of w x.at.node == node) && is_taken i come)
    reached_brought k side x i come found =
        let h : Reaches w x = reaches k side x found in
        ap (λ (o : Option Seat). is_brought w node i (visit_seat x.at.node come o)) h.here
        ∙ ap (λ (b : Bool). b && is_taken i come) (same_life s w stand x.at.node node n h.own)

    closing_by : (stream k : ℕ) (side : Side) (o : Option Reached) → reached_side w k side ≡ o → is_brought w node (took.Closed stream) (cut_at w o) ≡ is_end node stream (side_lent w o)
    closing_by stream k side None found = refl
    closing_by stream k side (Some x) found = reached_brought k side x (took.Closed stream) (input.Closed x.at.number) found

    pub closing_brought : (stream k : ℕ) (far : Bool) → is_brought w node (took.Closed stream) (visit_of s w (event.Cut k far true)) ≡ is_end node stream (side_lent w (reached_side w k (side_named far)))
    unfolding cut_visit
    closing_brought stream k far = closing_by stream k (side_named far) (reached_side w k (side_named far)) refl

    nothing_next : (b : Bool) → false ≡ (false && b)
    nothing_next b = refl

    bytes_by : (stream k count : ℕ) (side : Side) (bytes : List ℕ) (o : Option Reached) → reached_side w k side ≡ o
        → is_brought w node (took.Bytes stream bytes) (piece_at w side count o) ≡ (is_end node stream (side_lent w o) && bytes_eq (next_from (stream_numbered w.streams k) side count) bytes)
    bytes_by stream k count side bytes None found = refl
    bytes_by stream k count side bytes (Some x) found =
        let h : IsReachedSide w k side x = reached_is w k side x found in
        reached_brought k side x (took.Bytes stream bytes) (input.Bytes x.at.number (next_bytes x.talk (other side) count)) found
        ∙ sym (and_assoc (member_of w x.at.node == node) (x.at.number == stream) (bytes_eq (next_bytes x.talk (other side) count) bytes))
        ∙ ap (λ (t : Option StreamState). ((member_of w x.at.node == node) && (x.at.number == stream)) && bytes_eq (next_from t side count) bytes) (sym h.found)

    pub bytes_brought : (stream k count : ℕ) (far : Bool) (bytes : List ℕ) → is_brought w node (took.Bytes stream bytes) (visit_of s w (event.Bytes k far count true))
        ≡ (is_end node stream (side_lent w (reached_side w k (side_named far))) && bytes_eq (next_from (stream_numbered w.streams k) (side_named far) count) bytes)
    unfolding piece_visit
    bytes_brought stream k count far bytes = bytes_by stream k count (side_named far) bytes (reached_side w k (side_named far)) refl

-- ---- the side of a number

abbrev named_as : Option (ℕ × Bool) → Option NamedSide
named_as None = None
named_as (Some p) = Some (record { stream = p.0; far = p.1 })

side_as : (number : Option ℕ) (side : Option Side) (e : StreamEnd) (t : StreamState) → t.number ≡ number → side_of_end e t ≡ side → side_in e (Some t) ≡ named_as (numbered_side number side)
side_as None side e t a b = (λ i. side_numbered (a i) (side_of_end e t))
side_as (Some k) None e t a b = (λ i. side_numbered (a i) (b i))
side_as (Some k) (Some Near) e t a b = (λ i. side_numbered (a i) (b i))
side_as (Some k) (Some Far) e t a b = (λ i. side_numbered (a i) (b i))

sides_agree : (e : StreamEnd) (o : Option StreamState) → side_in e o ≡ named_as (dialled_at e o)
sides_agree e None = refl
sides_agree e (Some t) = side_as t.number (side_of_end e t) e t refl refl

module _ (code : World) (node stream : ℕ) (h : HasNode code node) (found : Option (ℕ × Bool)) (tells : TellsStream code node stream found) (s : Setting) (w : WorldState) (stands : StandsFor code s w) where
  pub side_told : side_with w node stream ≡ named_as found
  side_told =
      let e : StreamEnd = end_of (present_life w node) stream in
      sides_agree e (find (has_end e) w.streams)
      ∙ ap named_as (sym (tells s w (record { stands = stands; is_node = node_in code node s w h stands })))

-- ---- what the code names of sides

pub names_nothing : (code : World) (node stream : ℕ) → HasNode code node → TellsStream code node stream None → NamesBrought code node (took.Closed stream) (closing_at node stream) None
names_nothing code node stream h tells = λ s w stands.
    ap (λ (o : Option NamedSide). if_brought s w node (took.Closed stream) (closing_event o)) (side_told code node stream h None tells s w stands)

pub names_no_piece : (code : World) (node stream : ℕ) (bytes : List ℕ) → HasNode code node → TellsStream code node stream None → NamesBrought code node (took.Bytes stream bytes) (bytes_at node stream (length bytes)) None
names_no_piece code node stream bytes h tells = λ s w stands.
    ap (λ (o : Option NamedSide). if_brought s w node (took.Bytes stream bytes) (bytes_event (length bytes) o)) (side_told code node stream h None tells s w stands)

module _ (ready : StreamsAreReady) (code : World) (node stream k : ℕ) (far brings : Bool) (h : HasNode code node) (tells : TellsStream code node stream (Some (k, far))) (is : IsSideOf code node stream k far brings) where
  pub names_closing : (named : Option Event) → named ≡ (if brings then Some (event.Cut k far true) else None) → NamesBrought code node (took.Closed stream) (closing_at node stream) named
  names_closing named same = λ s w stands.
      ap (λ (o : Option NamedSide). if_brought s w node (took.Closed stream) (closing_event o)) (side_told code node stream h (Some (k, far)) tells s w stands)
      ∙ ap (λ (b : Bool). if b then Some (event.Cut k far true) else None)
      (closing_brought ready s w stands.stands.goes.reached node (node_in code node s w h stands) stream k far ∙ sym (is s w stands))
      ∙ sym same

  pub names_piece : (bytes next : List ℕ) (count : ℕ) (same_bytes : Bool) (named : Option Event) → count ≡ length bytes → LendsNext code k far count next → same_bytes ≡ bytes_eq next bytes
      → named ≡ (if brings && same_bytes then Some (event.Bytes k far count true) else None) → NamesBrought code node (took.Bytes stream bytes) (bytes_at node stream (length bytes)) named
  names_piece bytes next count same_bytes named count_is lends equal same = λ s w stands.
      ap (λ (n : ℕ). if_brought s w node (took.Bytes stream bytes) (bytes_event n (side_with w node stream))) (sym count_is)
      ∙ ap (λ (o : Option NamedSide). if_brought s w node (took.Bytes stream bytes) (bytes_event count o)) (side_told code node stream h (Some (k, far)) tells s w stands)
      ∙ ap (λ (b : Bool). if b then Some (event.Bytes k far count true) else None)
      (bytes_brought ready s w stands.stands.goes.reached node (node_in code node s w h stands) stream k count far bytes
      ∙ (λ i. sym (is s w stands) i && bytes_eq (sym (lends s w stands) i) bytes)
      ∙ ap (λ (b : Bool). brings && b) (sym equal))
      ∙ sym same

-- ---- streams that wait

odd_false : (b : Bool) → false ≡ (if b then false else false)
odd_false true = refl
odd_false false = refl

odd_both : (a b even : Bool) → (a && (cond even false true && b)) ≡ (if even then false else (a && b))
odd_both true b true = refl
odd_both false b true = refl
odd_both true b false = refl
odd_both false b false = refl

-- a stream's number at the node that opens it is odd
number_by : (stream : ℕ) (even : Bool) → (stream % 2 == 0) ≡ even → (2 * (stream / 2 + 1) - 1 == stream) ≡ cond even false true
number_by stream true test = let none : stream % 2 ≡ 0 = eqb-true (stream % 2) 0 test in ne_eqb (2 * (stream / 2 + 1) - 1) stream (λ e. absurd (omega (arith, none, e)))
number_by stream false test = let some = eqb-false (stream % 2) 0 test in eq-eqb (2 * (stream / 2 + 1) - 1) stream (omega (arith, some))

members_are : (p : WorldPlan) → (script_setting p).members ≡ map (script_member p) (numbers_from 1 p.nodes)
unfolding script_setting
members_are p = refl

arrives_number : (p : WorldPlan) (node k : ℕ) → (script_setting p).arrives_as node k ≡ 2 * k - 1
unfolding script_setting
arrives_number p node k = refl

arrives_address : (p : WorldPlan) (k : ℕ) (a : Address) → (script_setting p).arrives_from k a ≡ a
unfolding script_setting
arrives_address p k a = refl

module _ (ready : StreamsAreReady) (code : World) (s : Setting) (w : WorldState) (stands : StandsFor code s w) where
  abbrev plan : WorldPlan
  plan = code.plan

  setting : s ≡ script_setting plan
  setting = stands.stands.goes.keeps.setting

  reached : IsReached s w
  reached = stands.stands.goes.reached

  lives : LivesStand s w
  lives = lives_are_kept s w reached

  -- who dialled, and the address of that node
  record Dials (t : StreamState) : Type 0 where
    seat : Seat
    here : seat_at w t.near.node ≡ Some seat
    address : seat.core.plan.address ≡ script_address (member_of w t.near.node)

  dials : (k : ℕ) (t : StreamState) → stream_numbered w.streams k ≡ Some t → Dials t
  dials k t found =
      let at = numbered_place k w.streams t found in
      let ends = every_at (λ x. HasGoodEnds s (length w.seats) w.dials x.near x.number x.far) w.streams (ready.ends s w reached) at.place t at.stands in
      let there = numbered_there w.seats t.near.node ends.member in
      let near : ℕ = member_of w t.near.node in
      let is_node : IsNode (length s.members) near = lives.members t.near.node near (life_member s w t.near.node lives ends.member) in
      let within : IsNode plan.nodes near = subst (λ (n : ℕ). IsNode n near) (ap (λ (q : Setting). length q.members) setting ∙ plan_members plan) is_node in
      let member : numbered s.members near ≡ Some (script_member plan near) =
      ap (λ (q : Setting). numbered q.members near) setting ∙ ap (λ (ms : List Member). numbered ms near) (members_are plan) ∙ numbered_from_1 (script_member plan) plan.nodes near within.least within.most in
      record {
        seat = there.0;
        here = there.1;
        address = ap (λ (q : NodePlan). q.address) (nodes_are_sound.plans s w reached t.near.node there.0 (script_member plan near) there.1 member);
      }

  module _ (node : ℕ) (n : IsNode (length s.members) node) (stream : ℕ) (from : Address) where
    abbrev k : ℕ
    k = stream / 2 + 1

    abbrev i : RecordInput
    i = took.Opened stream from

    opened_brought : (t : StreamState) (m : ℕ) → stream_numbered w.streams k ≡ Some t → member_at s t.to ≡ Some m
        → is_brought w node i (opened_at s w k (Some m) (seat_at w t.near.node)) ≡ is_odd stream (waits_with node from (waiting_at w t (Some m)))
    opened_brought t m found listens =
        let d : Dials t = dials k t found in
        let is_node : IsNode (length s.members) m = listener_member s t.to m (script_member plan 0) listens in
        let there : IsThere w m = node_there code s w m stands is_node in
        let life : ℕ = present_life w m in
        let number : s.arrives_as life k ≡ 2 * k - 1 = ap (λ (q : Setting). q.arrives_as life k) setting ∙ arrives_number plan life k in
        let address : s.arrives_from k d.seat.core.plan.address ≡ script_address (member_of w t.near.node) =
        ap (λ (q : Setting). q.arrives_from k d.seat.core.plan.address) setting ∙ arrives_address plan k d.seat.core.plan.address ∙ d.address in
        ap (λ (o : Option Seat). is_brought w node i (opened_at s w k (Some m) o)) d.here
        ∙ ap (λ (o : Option Seat). is_brought w node i (visit_seat life (input.Opened (s.arrives_as life k) (s.arrives_from k d.seat.core.plan.address)) o)) there.here
        ∙ ap (λ (b : Bool). b && (s.arrives_as life k == stream && same_address (s.arrives_from k d.seat.core.plan.address) from)) (same_member s w lives m node is_node n)
        ∙ (λ j. (m == node) && (number j == stream && same_address (address j) from))
        ∙ ap (λ (b : Bool). (m == node) && (b && same_address (script_address (member_of w t.near.node)) from)) (number_by stream (stream % 2 == 0) refl)
        ∙ odd_both (m == node) (same_address (script_address (member_of w t.near.node)) from) (stream % 2 == 0)

    by_listener : (t : StreamState) → stream_numbered w.streams k ≡ Some t → (o : Option ℕ) → member_at s t.to ≡ o
        → is_brought w node i (opened_at s w k o (seat_at w t.near.node)) ≡ is_odd stream (waits_with node from (waiting_at w t o))
    by_listener t found None listens = odd_false (stream % 2 == 0)
    by_listener t found (Some m) listens = opened_brought t m found listens

    by_waiting : (t : StreamState) → stream_numbered w.streams k ≡ Some t → (b : Bool)
        → is_brought w node i (if b then opened_at s w k (member_at s t.to) (seat_at w t.near.node) else None) ≡ is_odd stream (waits_with node from (if b then waiting_at w t (member_at s t.to) else None))
    by_waiting t found true = by_listener t found (member_at s t.to) refl
    by_waiting t found false = odd_false (stream % 2 == 0)

    by_stream : (o : Option StreamState) → stream_numbered w.streams k ≡ o → is_brought w node i (opened_stream s w k o) ≡ is_odd stream (waits_with node from (waiting_for s w o))
    by_stream None found = odd_false (stream % 2 == 0)
    by_stream (Some t) found = by_waiting t found (is_waiting t.far_side)

    pub arrival_brought : is_brought w node i (visit_of s w (event.Arrive k true)) ≡ is_odd stream (waits_with node from (waiting_for s w (stream_numbered w.streams k)))
    unfolding arrival_visit
    arrival_brought = by_stream (stream_numbered w.streams k) refl

pub names_arrival : (ready : StreamsAreReady) (code : World) (node stream : ℕ) (from : Address) (brings : Bool) (named : Option Event) → HasNode code node → ArrivesSo code node stream from brings
    → named ≡ (if brings then Some (event.Arrive (stream / 2 + 1) true) else None) → NamesBrought code node (took.Opened stream from) (arrives_at stream) named
names_arrival ready code node stream from brings named h is same = λ s w stands.
    ap (λ (b : Bool). if b then Some (event.Arrive (stream / 2 + 1) true) else None) (arrival_brought ready code s w stands node (node_in code node s w h stands) stream from ∙ sym (is s w stands))
    ∙ sym same

-- ---- what the code looks at

pub arrives_told : (code : World) (node stream : ℕ) (from : Address) (found : Option Waiting) (brings : Bool) → TellsWaiting code (stream / 2 + 1) found → brings ≡ is_odd stream (waits_with node from found) → ArrivesSo code node stream from brings
arrives_told code node stream from found brings tells is = λ s w stands. is ∙ ap (λ (o : Option Waiting). is_odd stream (waits_with node from o)) (tells s w stands)

pub side_told_of : (code : World) (node stream k : ℕ) (far : Bool) (found : Option SideEnd) (brings : Bool) → LendsSide code k far found → brings ≡ is_end node stream found → IsSideOf code node stream k far brings
side_told_of code node stream k far found brings lends is = λ s w stands. is ∙ ap (is_end node stream) (lends s w stands)
