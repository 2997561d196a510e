-- What an event brings to a node, as the code finds it.
use Rattle.std.proofs.Common.{◌≡◌, refl, sym, ap, ◌∙◌, subst, arith, ℕ, ◌-◌, ◌^◌, ◌≤◌, Bool, true, cond, List, [], length, map, option_map, slice_get, Option, None, Some}
use Rattle.std.proofs.lemmas.Bool.{eqb-true}
use Rattle.std.proofs.lemmas.Option.{get_or_from_slice_get, none-some, same_Some, slice_get_within}
use Rattle.grasp_laws_delivery.proofs.Came.Inputs.{IsOpening, IsReaching, IsVisit, at_visit, cut_is, opening_is, piece_is}
use Rattle.grasp_laws_delivery.proofs.Heard.Steps.{reached_is}
use Rattle.grasp_laws_delivery.specs.Ready.{HasGoodEnds, HasGoodNumber, StreamsAreReady}
use Rattle.grasp_laws_network.proofs.EachNode.{nodes_are_sound}
use Rattle.grasp_laws_network.proofs.GoodPlans.{not_zero}
use Rattle.grasp_laws_network.proofs.Here.{numbered_within, visits_are_here}
use Rattle.grasp_laws_network.proofs.LivesKept.{life_member, lives_are_kept}
use Rattle.grasp_laws_network.specs.Lives.{LivesStand}
use Rattle.grasp_agent.specs.Calls.{next_call}
use Rattle.grasp_agent.specs.States.{AgentState}
use Rattle.grasp_model_node.specs.Queue.{encoding}
use Rattle.grasp_model_node.specs.declared.plan.NodePlan.{NodePlan}
use Rattle.grasp_session.specs.Messages.{other}
use Rattle.grasp_types.specs.declared.address.Address.{Address}
use Rattle.grasp_types.specs.declared.call.Call.{Call}
use Rattle.grasp_types.specs.declared.traffic.Input.TheVariants as input
use Rattle.grasp_model_network.specs.EventSteps.{agent_input, agent_seat, agent_visit, datagram_at, datagram_visit}
use Rattle.grasp_model_network.specs.Events.{visit_of}
use Rattle.grasp_model_network.specs.Plans.{IsNode}
use Rattle.grasp_model_network.specs.Setting.{Member, Setting, member_at, numbered, numbers_from, script_address, script_member, script_setting}
use Rattle.grasp_model_network.specs.StreamChanges.{Reached, reached_side, side_named}
use Rattle.grasp_model_network.specs.Streams.{StreamState, is_number, is_waiting, next_bytes, stream_numbered}
use Rattle.grasp_model_network.specs.Visits.{Visit}
use Rattle.grasp_model_network.specs.World.{Seat, SentDatagram, WorldState, member_of, present_life, seat_at}
use Rattle.grasp_model_network.specs.declared.event.Event.{Event}
use Rattle.grasp_model_network.specs.declared.event.Event.TheVariants as event
use Rattle.grasp_model_network.specs.declared.plan.WorldPlan.{WorldPlan}
use Rattle.grasp_record.specs.declared.line.RecordInput.{RecordInput}
use Rattle.grasp_record.specs.declared.line.RecordInput.TheVariants as took
use Rattle.grasp_model_audit.specs.Recording.{took_by}
use Rattle.grasp_simulator.proofs.ArrivesGo.{arrives_as, listener_member}
use Rattle.grasp_simulator.proofs.Presence.{members_count}
use Rattle.grasp_simulator.proofs.SeatLists.{numbered_from_1}
use Rattle.grasp_simulator.proofs.SideEnds.{number_is}
use Rattle.grasp_simulator.proofs.StreamTalks.{Chosen, found_is}
use Rattle.grasp_simulator.specs.Lending.{LendsNext, LendsParcel, LendsSide, TellsWaiting, next_from, side_lent, waiting_at, waiting_for}
use Rattle.grasp_simulator.specs.StreamParts.{far_number}
use Rattle.grasp_simulator.specs.WorldStands.{GoesToNode, LendsAgent, WorldGoes, WorldKeeps, parcel_of}
use Rattle.grasp_simulator.specs.declared.parcel.Parcel.{Parcel}
use Rattle.grasp_simulator.specs.declared.world.World.{World}
use Rattle.grasp_simulator.specs.declared.world_arrivals.Waiting.{Waiting}
use Rattle.grasp_simulator.specs.declared.world_lends.SideEnd.{SideEnd}
use Rattle.grasp_recorder.specs.Taking.{TellsTaken, asked_by, taken_by}
use Rattle.grasp_recorder.specs.declared.taken.Taken.{Taken}

-- ---- an event that makes a step

-- the node of the step takes this
record Brought (w : WorldState) (e : Event) (o : Option Visit) (t : Taken) : Type 0 where
  visit : Visit
  is : o ≡ Some visit
  taken : record { node = member_of w visit.node; input = took_by e visit.input } ≡ t

brought : (w : WorldState) (e : Event) (o : Option Visit) (t : Taken) → asked_by e ≡ None → taken_by w e o ≡ Some t → Brought w e o t
brought w e None t none is = absurd (none-some t (sym none ∙ is))
brought w e (Some v) t none is = record { visit = v; is = refl; taken = same_Some (record { node = member_of w v.node; input = took_by e v.input }) t is }

-- what the code finds is this
same_taken : (w : WorldState) (e : Event) (o : Option Visit) (t : Taken) (node : ℕ) (i : RecordInput) (b : Brought w e o t) → node ≡ member_of w b.visit.node → i ≡ took_by e b.visit.input → Some (record { node = node; input = i }) ≡ Some t
same_taken w e o t node i b at is = (λ j. Some (record { node = at j; input = is j })) ∙ ap (λ (x : Taken). Some x) b.taken

-- the member of a present life
own_node : (s : Setting) (w : WorldState) (v : Visit) (node : ℕ) → LivesStand s w → IsNode (length s.members) node → v.node ≡ present_life w node → member_of w v.node ≡ node
own_node s w v node stand fit is = ap (λ k. member_of w k) is ∙ stand.own node fit

-- ---- calls

call_taken : (code : World) (node asa : ℕ) (call copied : Call) (hold : Bool) → copied ≡ call → TellsTaken code (event.Api node asa call hold) (Some (record { node = node; input = took.Api asa copied }))
call_taken code node asa call copied hold same s w met t is = by (brought w e (visit_of s w e) t refl is) where
  e : Event
  e = event.Api node asa call hold

  by : Brought w e (visit_of s w e) t → Some (record { node = node; input = took.Api asa copied }) ≡ Some t
  by b =
      let came = at_visit w (present_life w node) (input.Api asa call) b.visit b.is in
      same_taken w e (visit_of s w e) t node (took.Api asa copied) b (sym (own_node s w b.visit node (lives_are_kept s w met.stands.stands.goes.reached) met.fit.0 came.node_is))
      (ap (took.Api asa) same ∙ sym (ap (took_by e) came.input_is))

pub api_taken : (code : World) (e : Event) (node asa : ℕ) (call copied : Call) (hold : Bool) → e ≡ event.Api node asa call hold → copied ≡ call → TellsTaken code e (Some (record { node = node; input = took.Api asa copied }))
api_taken code e node asa call copied hold is same =
    subst (λ (f : Event). TellsTaken code f (Some (record { node = node; input = took.Api asa copied }))) (sym is) (call_taken code node asa call copied hold same)

agent_came : (life : ℕ) (v : Visit) (o : Option Seat) → agent_seat life o ≡ Some v → IsVisit v life (agent_input v.seat.agent)
agent_came life v None is = absurd (none-some v is)
agent_came life v (Some seat) is =
    let same = same_Some (record { node = life; seat = seat; now = seat.core.reading; input = agent_input seat.agent }) v is in
    record { node_is = ap (λ (x : Visit). x.node) (sym same); input_is = ap (λ (x : Visit). x.input) (sym same) ∙ ap (λ (x : Visit). agent_input x.seat.agent) same }

pub own_taken : (code : World) (node : ℕ) (hold : Bool) (agent : AgentState) (call : Call) → LendsAgent code node agent → call ≡ next_call agent
    → TellsTaken code (event.Agent node hold) (Some (record { node = node; input = took.Agent call }))
unfolding agent_visit
own_taken code node hold agent call lends next s w met t is = by (brought w e (visit_of s w e) t refl is) where
  e : Event
  e = event.Agent node hold

  by : Brought w e (visit_of s w e) t → Some (record { node = node; input = took.Agent call }) ≡ Some t
  by b =
      let came = agent_came (present_life w node) b.visit (seat_at w (present_life w node)) b.is in
      let here : seat_at w (present_life w node) ≡ Some b.visit.seat = ap (λ k. seat_at w k) (sym came.node_is) ∙ (visits_are_here s w e b.visit b.is).stands in
      let agent_is : agent ≡ b.visit.seat.agent = lends s w b.visit.seat (record { stands = met.stands; here = here }) in
      same_taken w e (visit_of s w e) t node (took.Agent call) b (sym (own_node s w b.visit node (lives_are_kept s w met.stands.stands.goes.reached) met.fit came.node_is))
      (ap took.Agent (next ∙ ap next_call agent_is) ∙ sym (ap (took_by e) came.input_is))

-- ---- datagrams

record Kept (w : WorldState) (index : ℕ) (parcel : Parcel) : Type 0 where
  sent : SentDatagram
  got : numbered w.datagrams index ≡ Some sent
  is : parcel ≡ parcel_of sent

kept : (w : WorldState) (index : ℕ) (parcel : Parcel) → Some parcel ≡ option_map parcel_of (numbered w.datagrams index) → Kept w index parcel
kept w index parcel is = by (numbered w.datagrams index) refl where
  by : (o : Option SentDatagram) → numbered w.datagrams index ≡ o → Kept w index parcel
  by None got = absurd (none-some parcel (sym (is ∙ ap (option_map parcel_of) got)))
  by (Some d) got = record { sent = d; got = got; is = same_Some parcel (parcel_of d) (is ∙ ap (option_map parcel_of) got) }

none_kept : (w : WorldState) (index : ℕ) → None ≡ option_map parcel_of (numbered w.datagrams index) → numbered w.datagrams index ≡ None
none_kept w index is = by (numbered w.datagrams index) refl where
  by : (o : Option SentDatagram) → numbered w.datagrams index ≡ o → numbered w.datagrams index ≡ None
  by None got = got
  by (Some d) got = absurd (none-some (parcel_of d) (is ∙ ap (option_map parcel_of) got))

at_place : (w : WorldState) (index : ℕ) (d : SentDatagram) → numbered w.datagrams index ≡ Some d → slice_get w.datagrams (index - 1) ≡ Some d
at_place w index d got = subst (λ z. cond z None (slice_get w.datagrams (index - 1)) ≡ Some d) (not_zero index (numbered_within w.datagrams index d got).least) got

receiver_is : (code : World) (s : Setting) (w : WorldState) (index : ℕ) (d : SentDatagram) → WorldKeeps code s w → numbered w.datagrams index ≡ Some d → IsNode (length s.members) d.route.receiver
receiver_is code s w index d keeps got =
    let at : slice_get w.datagrams (index - 1) ≡ Some d = at_place w index d got in
    subst (λ (n : ℕ). IsNode n d.route.receiver) (sym (members_count code s w keeps))
    (subst (GoesToNode code.plan.nodes) (get_or_from_slice_get w.datagrams (index - 1) d d at) (keeps.receivers (index - 1) d (slice_get_within w.datagrams (index - 1) d at)))

pub datagram_taken : (code : World) (index : ℕ) (hold : Bool) (parcel : Parcel) (bytes : List ℕ) → LendsParcel code index (Some parcel) → bytes ≡ parcel.bytes
    → TellsTaken code (event.Datagram index hold) (Some (record { node = parcel.receiver; input = took.Datagram parcel.link parcel.from bytes }))
unfolding datagram_visit
datagram_taken code index hold parcel bytes lends copied s w met t is = by (kept w index parcel (lends s w met.stands)) (brought w e (visit_of s w e) t refl is) where
  e : Event
  e = event.Datagram index hold

  by : Kept w index parcel → Brought w e (visit_of s w e) t → Some (record { node = parcel.receiver; input = took.Datagram parcel.link parcel.from bytes }) ≡ Some t
  by k b =
      let d : SentDatagram = k.sent in
      let came = at_visit w (present_life w d.route.receiver) (input.Datagram d.route.link d.route.from (encoding d.message)) b.visit (sym (ap (datagram_at w) k.got) ∙ b.is) in
      same_taken w e (visit_of s w e) t parcel.receiver (took.Datagram parcel.link parcel.from bytes) b
      (ap (λ (p : Parcel). p.receiver) k.is
      ∙ sym (own_node s w b.visit d.route.receiver (lives_are_kept s w met.stands.stands.goes.reached) (receiver_is code s w index d met.stands.stands.goes.keeps k.got) came.node_is))
      (ap (took.Datagram parcel.link parcel.from) copied ∙ ap (λ (p : Parcel). took.Datagram p.link p.from p.bytes) k.is ∙ sym (ap (took_by e) came.input_is))

pub no_datagram : (code : World) (index : ℕ) (hold : Bool) → LendsParcel code index None → TellsTaken code (event.Datagram index hold) None
unfolding datagram_visit
no_datagram code index hold lends s w met t is = by (brought w e (visit_of s w e) t refl is) where
  e : Event
  e = event.Datagram index hold

  by : Brought w e (visit_of s w e) t → None ≡ Some t
  by b = absurd (none-some b.visit (sym (ap (datagram_at w) (none_kept w index (lends s w met.stands))) ∙ b.is))

-- ---- streams that are opened

-- the stream of a number has good ends, and this number
talk_chosen : StreamsAreReady → (s : Setting) (w : WorldState) (k : ℕ) (t : StreamState) → stream_numbered w.streams k ≡ Some t → (code : World) → WorldGoes code s w
    → Chosen (λ (x : StreamState). HasGoodEnds s (length w.seats) w.dials x.near x.number x.far) (λ (x : StreamState). is_number k x.number) t
talk_chosen law s w k t found code goes =
    found_is (λ (x : StreamState). HasGoodEnds s (length w.seats) w.dials x.near x.number x.far) (λ (x : StreamState). is_number k x.number) w.streams t found (law.ends s w goes.reached)

number_within : (dials k : ℕ) (o : Option ℕ) → HasGoodNumber dials o → is_number k o ≡ true → (1 ≤ k) × (k ≤ dials)
number_within dials k None good is = absurd cc
number_within dials k (Some n) good is = subst (λ m. (1 ≤ m) × (m ≤ dials)) (eqb-true n k is) good

arrival_number : StreamsAreReady → (code : World) (s : Setting) (w : WorldState) (k node : ℕ) (t : StreamState) → WorldGoes code s w → stream_numbered w.streams k ≡ Some t → far_number k ≡ s.arrives_as node k
arrival_number law code s w k node t goes found = by (talk_chosen law s w k t found code goes) where
  by : Chosen (λ (x : StreamState). HasGoodEnds s (length w.seats) w.dials x.near x.number x.far) (λ (x : StreamState). is_number k x.number) t → far_number k ≡ s.arrives_as node k
  by chosen =
      let within = number_within w.dials k t.number chosen.holds.dialled chosen.passes in
      let most : k ≤ w.dials = within.1 in
      let few : w.dials ≤ 2 ^ 62 = goes.keeps.streams.few in
      number_is k within.0 (omega (arith, most, few)) ∙ sym (arrives_as code s w node k goes.keeps)

members_are : (p : WorldPlan) → (script_setting p).members ≡ map (script_member p) (numbers_from 1 p.nodes)
unfolding script_setting
members_are p = refl

opener_is : (p : WorldPlan) (k : ℕ) (a : Address) → (script_setting p).arrives_from k a ≡ a
unfolding script_setting
opener_is p k a = refl

-- a life has the address of its member
life_address : (code : World) (s : Setting) (w : WorldState) (life : ℕ) (seat : Seat) → WorldGoes code s w → seat_at w life ≡ Some seat → seat.core.plan.address ≡ script_address (member_of w life)
life_address code s w life seat goes here =
    let p : WorldPlan = code.plan in
    let node : ℕ = member_of w life in
    let stand : LivesStand s w = lives_are_kept s w goes.reached in
    let is_node : IsNode (length s.members) node = stand.members life node (life_member s w life stand (numbered_within w.seats life seat here)) in
    let within : IsNode p.nodes node = subst (λ (n : ℕ). IsNode n node) (members_count code s w goes.keeps) is_node in
    let member : numbered s.members node ≡ Some (script_member p node) =
    ap (λ (q : Setting). numbered q.members node) goes.keeps.setting ∙ ap (λ (ms : List Member). numbered ms node) (members_are p)
    ∙ numbered_from_1 (script_member p) p.nodes node within.least within.most in
    ap (λ (q : NodePlan). q.address) (nodes_are_sound.plans s w goes.reached life seat (script_member p node) here member)

-- who dialled and who opens
waiting_is : (s : Setting) (w : WorldState) (t : StreamState) (member : ℕ) (o : Option StreamState) (x : Waiting) → o ≡ Some t → is_waiting t.far_side ≡ true → member_at s t.to ≡ Some member → Some x ≡ waiting_for s w o
    → x ≡ record { near = member_of w t.near.node; node = member }
waiting_is s w t member o x found waits listens is =
    same_Some x (record { near = member_of w t.near.node; node = member })
    (is ∙ ap (waiting_for s w) found ∙ ap (λ (b : Bool). cond b (waiting_at w t (member_at s t.to)) None) waits ∙ ap (waiting_at w t) listens)

pub opening_taken : StreamsAreReady → (code : World) (k : ℕ) (hold : Bool) (x : Waiting) (number : ℕ) (from : Address) → TellsWaiting code k (Some x) → number ≡ far_number k → from ≡ script_address x.near
    → TellsTaken code (event.Arrive k hold) (Some (record { node = x.node; input = took.Opened number from }))
opening_taken law code k hold x number from tells number_as from_as s w met t is = by (brought w e (visit_of s w e) t refl is) where
  e : Event
  e = event.Arrive k hold

  goes : WorldGoes code s w
  goes = met.stands.stands.goes

  opened : (b : Brought w e (visit_of s w e) t) → IsOpening s w k b.visit → Some (record { node = x.node; input = took.Opened number from }) ≡ Some t
  opened b o =
      let waits : x ≡ record { near = member_of w o.talk.near.node; node = o.member } =
      waiting_is s w o.talk o.member (stream_numbered w.streams k) x o.found o.waiting o.listens (tells s w met.stands) in
      let any : Member = record { plan = o.near.core.plan; roots = [] } in
      let address : from ≡ s.arrives_from k o.near.core.plan.address =
      from_as ∙ ap (λ (y : Waiting). script_address y.near) waits
      ∙ sym (ap (λ (q : Setting). q.arrives_from k o.near.core.plan.address) goes.keeps.setting ∙ opener_is code.plan k o.near.core.plan.address ∙ life_address code s w o.talk.near.node o.near goes o.dialled) in
      same_taken w e (visit_of s w e) t x.node (took.Opened number from) b
      (ap (λ (y : Waiting). y.node) waits ∙ sym (own_node s w b.visit o.member (lives_are_kept s w goes.reached) (listener_member s o.talk.to o.member any o.listens) o.node_is))
      ((λ i. took.Opened ((number_as ∙ arrival_number law code s w k b.visit.node o.talk goes o.found) i) (address i)) ∙ sym (ap (took_by e) o.is.input_is))

  by : Brought w e (visit_of s w e) t → Some (record { node = x.node; input = took.Opened number from }) ≡ Some t
  by b = opened b (opening_is s w k b.visit b.is)

pub no_opening : (code : World) (k : ℕ) (hold : Bool) → TellsWaiting code k None → TellsTaken code (event.Arrive k hold) None
no_opening code k hold tells s w met t is = by (brought w e (visit_of s w e) t refl is) where
  e : Event
  e = event.Arrive k hold

  opened : (b : Brought w e (visit_of s w e) t) → IsOpening s w k b.visit → None ≡ Some t
  opened b o =
      absurd (none-some (record { near = member_of w o.talk.near.node; node = o.member })
      (tells s w met.stands ∙ ap (waiting_for s w) o.found ∙ ap (λ (z : Bool). cond z (waiting_at w o.talk (member_at s o.talk.to)) None) o.waiting ∙ ap (waiting_at w o.talk) o.listens))

  by : Brought w e (visit_of s w e) t → None ≡ Some t
  by b = opened b (opening_is s w k b.visit b.is)

-- ---- bytes and closings

-- the side that is reached is the one that the code finds
side_found : (w : WorldState) (o : Option Reached) (reached : Reached) (x : SideEnd) → o ≡ Some reached → Some x ≡ side_lent w o → x ≡ record { node = member_of w reached.at.node; number = reached.at.number }
side_found w o reached x found is = same_Some x (record { node = member_of w reached.at.node; number = reached.at.number }) (is ∙ ap (side_lent w) found)

no_side : (w : WorldState) (o : Option Reached) (reached : Reached) → o ≡ Some reached → None ≡ side_lent w o → ⊥
no_side w o reached found is = none-some (record { node = member_of w reached.at.node; number = reached.at.number }) (is ∙ ap (side_lent w) found)

pub piece_taken : (code : World) (k : ℕ) (far : Bool) (count : ℕ) (hold : Bool) (x : SideEnd) (next bytes : List ℕ) → LendsSide code k far (Some x) → LendsNext code k far count next → bytes ≡ next
    → TellsTaken code (event.Bytes k far count hold) (Some (record { node = x.node; input = took.Bytes x.number bytes }))
piece_taken code k far count hold x next bytes side lends copied s w met t is = by (brought w e (visit_of s w e) t refl is) where
  e : Event
  e = event.Bytes k far count hold

  reaches : (b : Brought w e (visit_of s w e) t) → IsReaching w k (side_named far) b.visit (λ y. input.Bytes y.at.number (next_bytes y.talk (other (side_named far)) count))
      → Some (record { node = x.node; input = took.Bytes x.number bytes }) ≡ Some t
  reaches b r =
      let end : x ≡ record { node = member_of w r.reached.at.node; number = r.reached.at.number } = side_found w (reached_side w k (side_named far)) r.reached x r.found (side s w met.stands) in
      let talk : stream_numbered w.streams k ≡ Some r.reached.talk = (reached_is w k (side_named far) r.reached r.found).found in
      let pieces : bytes ≡ next_bytes r.reached.talk (other (side_named far)) count =
      copied ∙ lends s w met.stands ∙ ap (λ (o : Option StreamState). next_from o (side_named far) count) talk in
      same_taken w e (visit_of s w e) t x.node (took.Bytes x.number bytes) b
      (ap (λ (y : SideEnd). y.node) end ∙ ap (λ n. member_of w n) (sym r.is.node_is))
      ((λ i. took.Bytes ((end i).number) (pieces i)) ∙ sym (ap (took_by e) r.is.input_is))

  by : Brought w e (visit_of s w e) t → Some (record { node = x.node; input = took.Bytes x.number bytes }) ≡ Some t
  by b = reaches b (piece_is w k (side_named far) count b.visit b.is)

pub no_piece : (code : World) (k : ℕ) (far : Bool) (count : ℕ) (hold : Bool) → LendsSide code k far None → TellsTaken code (event.Bytes k far count hold) None
no_piece code k far count hold side s w met t is = by (brought w e (visit_of s w e) t refl is) where
  e : Event
  e = event.Bytes k far count hold

  reaches : (b : Brought w e (visit_of s w e) t) → IsReaching w k (side_named far) b.visit (λ y. input.Bytes y.at.number (next_bytes y.talk (other (side_named far)) count)) → None ≡ Some t
  reaches b r = absurd (no_side w (reached_side w k (side_named far)) r.reached r.found (side s w met.stands))

  by : Brought w e (visit_of s w e) t → None ≡ Some t
  by b = reaches b (piece_is w k (side_named far) count b.visit b.is)

pub closing_taken : (code : World) (k : ℕ) (far hold : Bool) (x : SideEnd) → LendsSide code k far (Some x) → TellsTaken code (event.Cut k far hold) (Some (record { node = x.node; input = took.Closed x.number }))
closing_taken code k far hold x side s w met t is = by (brought w e (visit_of s w e) t refl is) where
  e : Event
  e = event.Cut k far hold

  reaches : (b : Brought w e (visit_of s w e) t) → IsReaching w k (side_named far) b.visit (λ y. input.Closed y.at.number) → Some (record { node = x.node; input = took.Closed x.number }) ≡ Some t
  reaches b r =
      let end : x ≡ record { node = member_of w r.reached.at.node; number = r.reached.at.number } = side_found w (reached_side w k (side_named far)) r.reached x r.found (side s w met.stands) in
      same_taken w e (visit_of s w e) t x.node (took.Closed x.number) b
      (ap (λ (y : SideEnd). y.node) end ∙ ap (λ n. member_of w n) (sym r.is.node_is))
      (ap (λ (y : SideEnd). took.Closed y.number) end ∙ sym (ap (took_by e) r.is.input_is))

  by : Brought w e (visit_of s w e) t → Some (record { node = x.node; input = took.Closed x.number }) ≡ Some t
  by b = reaches b (cut_is w k (side_named far) b.visit b.is)

pub no_closing : (code : World) (k : ℕ) (far hold : Bool) → LendsSide code k far None → TellsTaken code (event.Cut k far hold) None
no_closing code k far hold side s w met t is = by (brought w e (visit_of s w e) t refl is) where
  e : Event
  e = event.Cut k far hold

  reaches : (b : Brought w e (visit_of s w e) t) → IsReaching w k (side_named far) b.visit (λ y. input.Closed y.at.number) → None ≡ Some t
  reaches b r = absurd (no_side w (reached_side w k (side_named far)) r.reached r.found (side s w met.stands))

  by : Brought w e (visit_of s w e) t → None ≡ Some t
  by b = reaches b (cut_is w k (side_named far) b.visit b.is)
