-- A stream that is opened at the node that listens where it was dialled to.
use Rattle.grasp_simulator.specs.Listening.{listener_from}
use Rattle.grasp_simulator.specs.Marking.{begins_as}
use Rattle.std.proofs.Common.{◌≡◌, ◌≤◌, ◌<◌, refl, sym, ap, ◌∙◌, subst, arith, ℕ, ◌+◌, ◌-◌, ◌*◌, ◌^◌, cond, Bool, true, false, List, length, map, Option, Some, None, is_some, slice_index_or}
use Rattle.std.specs.List.{position}
use Rattle.std.specs.Vec.{with_item}
use Rattle.std.proofs.lemmas.Option.{none-some, same_Some}
use Rattle.std.proofs.lemmas.List.Quantifiers.{position-Some}
use Rattle.grasp_model_node.specs.declared.plan.NodePlan.{NodePlan}
use Rattle.grasp_types.specs.declared.address.Address.{Address}
use Rattle.grasp_types.specs.declared.address.Locator.{Locator}
use Rattle.grasp_types.specs.declared.reply.Reply.{Reply}
use Rattle.grasp_types.specs.declared.reply.Reply.TheVariants as reply
use Rattle.grasp_types.specs.declared.traffic.Input.TheVariants as input
use Rattle.grasp_laws_network.proofs.EachNode.{nodes_are_sound}
use Rattle.grasp_laws_network.proofs.Here.{numbered_within}
use Rattle.grasp_model_network.specs.EventSteps.{opened_at, opened_stream, arrival_visit, after_arrival}
use Rattle.grasp_model_network.specs.StreamChanges.{arrival_by}
use Rattle.grasp_model_network.specs.Events.{visit_of, after_event}
use Rattle.grasp_model_network.specs.Plans.{IsNode}
use Rattle.grasp_model_network.specs.Reports.{report_of}
use Rattle.grasp_model_network.specs.Sending.{stepped}
use Rattle.grasp_model_network.specs.Setting.{Member, Setting, numbered, numbers_from, is_at, counted_from_1, member_at, script_address, script_member, script_setting}
use Rattle.grasp_model_network.specs.Streams.{StreamEnd, Arrival, StreamState, is_waiting, stream_numbered, change_at_end, with_far}
use Rattle.grasp_model_network.specs.Visits.{Visit, MayCome, no_choice, is_starved, visit, visit_seat}
use Rattle.grasp_model_network.specs.World.{Seat, WorldState, end_of, member_of, present_life, seat_at}
use Rattle.grasp_model_network.specs.declared.event.Event.TheVariants as event
use Rattle.grasp_model_network.specs.declared.plan.WorldPlan.{WorldPlan}
use Rattle.grasp_model_network.specs.declared.report.Report.TheVariants as report
use Rattle.grasp_laws_delivery.specs.Ready.{StreamsAreReady}
use Rattle.grasp_simulator.specs.Arriving.{waiting_by, waiting_in, is_taken, Opens}
use Rattle.grasp_simulator.specs.Seats.{Sitting, SeatMeets, SeatStepped}
use Rattle.grasp_simulator.specs.Sends.{SendsBehind}
use Rattle.grasp_simulator.specs.StreamParts.{standing_by, far_number, is_unopened}
use Rattle.grasp_simulator.specs.StreamsStand.{arrival_of, StreamsStand, IsTalk, Queueing}
use Rattle.grasp_simulator.specs.WorldStands.{WorldKeeps, WorldGoes, owner_in}
use Rattle.grasp_simulator.specs.WorldSteps.{MayRun, HasRun, Runs, MayStarve}
use Rattle.grasp_simulator.specs.declared.seat.Seat.{Seat as SeatCode}
use Rattle.grasp_simulator.specs.declared.stream.Standing.{Standing}
use Rattle.grasp_simulator.specs.declared.stream.Standing.TheVariants as standing
use Rattle.grasp_simulator.specs.declared.stream.Stream.{Stream}
use Rattle.grasp_simulator.specs.declared.streams.Streams.{Streams}
use Rattle.grasp_simulator.specs.declared.world.World.{World}
use Rattle.grasp_simulator.specs.declared.world_arrivals.Waiting.{Waiting}
use Rattle.grasp_simulator.proofs.InputsGo.{own_step, Brings, input_runs, same_notes}
use Rattle.grasp_laws_network.proofs.LivesKept.{lives_are_kept}
use Rattle.grasp_simulator.proofs.Listeners.{listener_is}
use Rattle.grasp_simulator.proofs.Nears.{still_changed}
use Rattle.grasp_simulator.proofs.Presence.{Here, node_is, OwnSeat, own_seat, Owned, owned_life, unowned, code_node, members_count}
use Rattle.grasp_simulator.proofs.SeatLists.{numbered_from_1}
use Rattle.grasp_simulator.proofs.Turns.{with_streams}
use Rattle.grasp_simulator.proofs.SideEnds.{number_is}
use Rattle.grasp_simulator.proofs.StreamTalks.{talk_at}

-- ---- the stream

-- the stream waits, who dialled it and who listens there are these
record Found (code : World) (s : Setting) (w : WorldState) (k : ℕ) (x : Waiting) : Type 0 where
  talk : StreamState
  got : stream_numbered w.streams k ≡ Some talk
  waits : is_waiting talk.far_side ≡ true
  member : member_at s talk.to ≡ Some x.node
  near : Seat
  near_here : seat_at w talk.near.node ≡ Some near
  address : near.core.plan.address ≡ (script_member code.plan x.near).plan.address
  least : 1 ≤ k
  most : k ≤ 2 ^ 62

unopened : (x : Standing) → is_waiting (arrival_of x) ≡ is_unopened x
unopened standing.NotYet = refl
unopened _ = refl

-- what is kept of a stream that waits
record IsWaiting (lives : List ℕ) (p : WorldPlan) (code : Stream) (x : Waiting) : Type 0 where
  side : is_unopened code.far_side ≡ true
  near : numbered lives code.near ≡ Some x.near
  node : listener_from 1 p.nodes code.to ≡ Some x.node

waiting_is : (lives : List ℕ) (p : WorldPlan) (code : Stream) (x : Waiting) → waiting_in lives p.nodes (Some code) ≡ Some x → IsWaiting lives p code x
waiting_is lives p code x is = by_side (is_unopened code.far_side) refl is where
  by_both : (n o : Option ℕ) → numbered lives code.near ≡ n → listener_from 1 p.nodes code.to ≡ o → is_unopened code.far_side ≡ true → waiting_by n o ≡ Some x → IsWaiting lives p code x
  by_both n None known here side e = absurd (none-some x e)
  by_both None (Some node) known here side e = absurd (none-some x e)
  by_both (Some near) (Some node) known here side e =
      let same : record { near = near; node = node } ≡ x = same_Some (record { near = near; node = node }) x e in
      record { side = side; near = known ∙ ap Some (ap (λ (y : Waiting). y.near) same); node = here ∙ ap Some (ap (λ (y : Waiting). y.node) same) }

  by_side : (b : Bool) → is_unopened code.far_side ≡ b → cond b (waiting_by (numbered lives code.near) (listener_from 1 p.nodes code.to)) None ≡ Some x → IsWaiting lives p code x
  by_side true side e = by_both (numbered lives code.near) (listener_from 1 p.nodes code.to) refl refl side e
  by_side false side e = absurd (none-some x e)

abbrev members_of : WorldPlan → List Member
members_of p = map (script_member p) (numbers_from 1 p.nodes)

members_are : (p : WorldPlan) → (script_setting p).members ≡ members_of p
unfolding script_setting
members_are p = refl

-- the node that dialled, and its address
record Dialling (p : WorldPlan) (w : WorldState) (node near : ℕ) : Type 0 where
  seat : Seat
  here : seat_at w node ≡ Some seat
  address : seat.core.plan.address ≡ (script_member p near).plan.address

near_is : (code : World) (s : Setting) (w : WorldState) (near : ℕ) (t : StreamState) → WorldGoes code s w → numbered code.lives t.near.node ≡ Some near → Dialling code.plan w t.near.node near
near_is code s w near t goes is =
    let p : WorldPlan = code.plan in
    let members : s.members ≡ members_of p = ap (λ (q : Setting). q.members) goes.keeps.setting ∙ members_are p in
    let there : Owned w t.near.node near = owned_life code s w t.near.node near goes is in
    let known : numbered w.lives t.near.node ≡ Some near = ap (λ (ks : List ℕ). numbered ks t.near.node) (sym goes.keeps.lives) ∙ is in
    let within : IsNode p.nodes near = subst (λ (n : ℕ). IsNode n near) (members_count code s w goes.keeps) ((lives_are_kept s w goes.reached).members t.near.node near known) in
    let member : numbered s.members (member_of w t.near.node) ≡ Some (script_member p near) =
    ap (numbered s.members) there.member ∙ (ap (λ (ms : List Member). numbered ms near) members ∙ numbered_from_1 (script_member p) p.nodes near within.least within.most) in
    record {
      seat = there.seat;
      here = there.here;
      address = ap (λ (q : NodePlan). q.address) (nodes_are_sound.plans s w goes.reached t.near.node there.seat (script_member p near) there.here member);
    }

found_by : (law : StreamsAreReady) (code : World) (s : Setting) (w : WorldState) (k : ℕ) (x : Waiting) (co : Option Stream) (to : Option StreamState) → WorldGoes code s w → numbered code.streams.list.items k ≡ co → stream_numbered w.streams k ≡ to → IsTalk k co to
    → waiting_in code.lives code.plan.nodes co ≡ Some x → Found code s w k x
found_by law code s w k x None to goes is got talk waits = absurd (none-some x waits)
found_by law code s w k x (Some c) None goes is got talk waits = absurd talk
found_by law code s w k x (Some c) (Some t) goes is got talk waits =
    let h : IsWaiting code.lives code.plan c x = waiting_is code.lives code.plan c x waits in
    let in_list : IsNode (length code.streams.list.items) k = numbered_within code.streams.list.items k c is in
    let most : k ≤ length code.streams.list.items = in_list.most in
    let count : w.dials ≡ length code.streams.list.items = goes.keeps.streams.dialled in
    let few : w.dials ≤ 2 ^ 62 = goes.keeps.streams.few in
    let dialling : Dialling code.plan w t.near.node x.near = near_is code s w x.near t goes (ap (λ (e : StreamEnd). numbered code.lives e.node) talk.near ∙ h.near) in
    record {
      talk = t;
      got = got;
      waits = sym (ap is_waiting talk.far_side) ∙ (unopened c.far_side ∙ h.side);
      member = ap (member_at s) (sym talk.to) ∙ (ap (λ (q : Setting). member_at q c.to) goes.keeps.setting ∙ (sym (listener_is code.plan c.to) ∙ h.node));
      near = dialling.seat;
      near_here = dialling.here;
      address = dialling.address;
      least = in_list.least;
      most = omega (arith, most, count, few);
    }

found : (law : StreamsAreReady) (code : World) (s : Setting) (w : WorldState) (k : ℕ) (x : Waiting) → WorldGoes code s w → waiting_in code.lives code.plan.nodes (numbered code.streams.list.items k) ≡ Some x → Found code s w k x
found law code s w k x goes waits =
    found_by law code s w k x (numbered code.streams.list.items k) (stream_numbered w.streams k) goes refl refl
    (talk_at code.streams.list.items code.streams.near.entries (begins_as w.lives code.marks code.plan.nodes) w.streams w.dials goes.keeps.streams k) waits

-- who listens at a locator is one of the members
pub listener_member : (s : Setting) (to : Locator) (node : ℕ) (d : Member) → member_at s to ≡ Some node → IsNode (length s.members) node
listener_member s to node d e = by_place (position (is_at to) s.members) refl e where
  by_place : (o : Option ℕ) → position (is_at to) s.members ≡ o → counted_from_1 o ≡ Some node → IsNode (length s.members) node
  by_place None is e = absurd (none-some node e)
  by_place (Some i) is e =
      let same : i + 1 ≡ node = same_Some (i + 1) node e in
      let within : i < length s.members = (position-Some (is_at to) s.members i d is).0 in
      record { least = omega (arith, same); most = omega (arith, same, within) }

-- ---- the step

open_is : (s : Setting) (w : WorldState) (k member node number : ℕ) (from : Address) (t : StreamState) (near : Seat) (o : Option Seat) → stream_numbered w.streams k ≡ Some t → is_waiting t.far_side ≡ true → member_at s t.to ≡ Some member
    → seat_at w t.near.node ≡ Some near → present_life w member ≡ node → s.arrives_as node k ≡ number → s.arrives_from k near.core.plan.address ≡ from → seat_at w node ≡ o → arrival_visit s w k ≡ visit_seat node (input.Opened number from) o
unfolding arrival_visit
open_is s w k member node number from t near o got waits member_is near_here present number_as from_as here =
    ap (opened_stream s w k) got
    ∙ (ap (λ (b : Bool). cond b (opened_at s w k (member_at s t.to) (seat_at w t.near.node)) None) waits
    ∙ (ap (λ (q : Option ℕ). opened_at s w k q (seat_at w t.near.node)) member_is
    ∙ (ap (opened_at s w k (Some member)) near_here
    ∙ (ap (λ (n : ℕ). visit w n (input.Opened (s.arrives_as n k) (s.arrives_from k near.core.plan.address))) present
    ∙ (ap (λ (n : ℕ). visit w node (input.Opened n (s.arrives_from k near.core.plan.address))) number_as
    ∙ (ap (λ (a : Address). visit w node (input.Opened number a)) from_as
    ∙ ap (visit_seat node (input.Opened number from)) here))))))

script_number_is : (p : WorldPlan) (node k : ℕ) → (script_setting p).arrives_as node k ≡ 2 * k - 1
unfolding script_setting
script_number_is p node k = refl

script_opener_is : (p : WorldPlan) (k near : ℕ) → (script_setting p).arrives_from k (script_member p near).plan.address ≡ script_address near
unfolding script_setting
script_opener_is p k near = refl

pub arrives_as : (code : World) (s : Setting) (w : WorldState) (node k : ℕ) → WorldKeeps code s w → s.arrives_as node k ≡ 2 * k - 1
arrives_as code s w node k keeps = ap (λ (q : Setting). q.arrives_as node k) keeps.setting ∙ script_number_is code.plan node k

arrives_from : (code : World) (s : Setting) (w : WorldState) (k near : ℕ) → WorldKeeps code s w → s.arrives_from k (script_member code.plan near).plan.address ≡ script_address near
arrives_from code s w k near keeps = ap (λ (q : Setting). q.arrives_from k (script_member code.plan near).plan.address) keeps.setting ∙ script_opener_is code.plan k near

visit_is : (code : World) (s : Setting) (w : WorldState) (k : ℕ) (x : Waiting) (o : Option Seat) (f : Found code s w k x) → WorldKeeps code s w → seat_at w (present_life w x.node) ≡ o
    → arrival_visit s w k ≡ visit_seat (present_life w x.node) (input.Opened (2 * k - 1) (script_address x.near)) o
visit_is code s w k x o f keeps here =
    open_is s w k x.node (present_life w x.node) (2 * k - 1) (script_address x.near) f.talk f.near o f.got f.waits f.member f.near_here refl (arrives_as code s w (present_life w x.node) k keeps)
    (ap (s.arrives_from k) f.address ∙ arrives_from code s w k x.near keeps) here

-- ---- what comes of it

taken : (r : Reply) → arrival_by r ≡ arrival_of (standing_by (is_taken r))
taken (reply.Api a) = refl
taken _ = refl

-- the streams, of which this one is opened by a visit with this reply
abbrev talks_then : Setting → WorldState → ℕ → StreamState → Visit → Reply → List StreamState
talks_then s w k t v r = change_at_end w.streams t.near (with_far (end_of v.node (s.arrives_as v.node k)) (arrival_by r))

arrive_brings : (s : Setting) (w : WorldState) (k : ℕ) (hold : Bool) (t : StreamState) (v : Visit) (r : Reply) → stream_numbered w.streams k ≡ Some t → arrival_visit s w k ≡ Some v
    → Brings s w (record w { streams = talks_then s w k t v r }) (event.Arrive k hold) (event.Arrive k true) hold v r (λ c. w.answers)
unfolding after_event after_arrival report_of stepped
arrive_brings s w k hold t v r got is = record {
  seats = refl;
  lives = refl;
  count = refl;
  comes = λ c step. rw is step;
  comes_held = λ c step. rw is step;
  after = λ c same. rw is (rw got (rw same refl));
  after_held = λ c same. rw is (rw got (rw same refl));
  reports = λ c. rw is refl;
}

pub arrive_runs : (law : StreamsAreReady) (old new : World) (k : ℕ) (hold : Bool) (x : Waiting) (number : ℕ) (from : Address) (streams : Streams) (i : ℕ) (own after : SeatCode) (r : Reply)
    → waiting_in old.lives old.plan.nodes (numbered old.streams.list.items k) ≡ Some x → number ≡ far_number k → from ≡ script_address x.near → Opens old.streams streams k own.life (is_taken r)
    → IsNode (length old.seats.items) x.node → after.life ≡ own.life → i ≡ x.node - 1 → own ≡ slice_index_or old.seats.items i own
    → ((y : Sitting) → SeatMeets own (input.Opened number from) y → SeatStepped after (input.Opened number from) y r) → is_starved r ≡ false → new.notes ≡ old.notes
    → SendsBehind (record old { streams = streams; seats = with_item old.seats i after }) new x.node hold → Runs old new (event.Arrive k hold) (report.Reply r)
arrive_runs law old new k hold x number from streams i own after r waits number_of from_of opens is_node still place got steps fed same_is sends s w may =
    let f : Found old s w k x = found law old s w k x may.goes waits in
    let keeps : WorldKeeps old s w = may.goes.keeps in
    let there : OwnSeat w x.node own = own_seat old s w x.node i own keeps is_node place got in
    let life : ℕ = present_life w x.node in
    let begins : Queueing = begins_as w.lives old.marks old.plan.nodes in
    let v : Visit = own_step life there.seat (input.Opened number from) in
    let number_2 : number ≡ 2 * k - 1 = number_of ∙ number_is k f.least f.most in
    let is : arrival_visit s w k ≡ Some v =
    visit_is old s w k x (Some there.seat) f keeps there.here
    ∙ (ap (λ (n : ℕ). Some (own_step life there.seat (input.Opened n (script_address x.near)))) (sym number_2)
    ∙ ap (λ (a : Address). Some (own_step life there.seat (input.Opened number a))) (sym from_of)) in
    let far : end_of own.life (2 * k - 1) ≡ end_of life (s.arrives_as life k) =
    ap (λ (l : ℕ). end_of l (2 * k - 1)) there.life ∙ ap (end_of life) (sym (arrives_as old s w life k keeps)) in
    let talks : List StreamState = talks_then s w k f.talk v r in
    let same : change_at_end w.streams f.talk.near (with_far (end_of own.life (2 * k - 1)) (arrival_of (standing_by (is_taken r)))) ≡ talks =
    ap (λ (e : StreamEnd). change_at_end w.streams f.talk.near (with_far e (arrival_of (standing_by (is_taken r))))) far
    ∙ ap (λ (a : Arrival). change_at_end w.streams f.talk.near (with_far (end_of life (s.arrives_as life k)) a)) (sym (taken r)) in
    let kept : WorldKeeps (record old { streams = streams }) s (record w { streams = talks }) =
    with_streams old s w streams talks w.dials keeps
    (λ q was. still_changed (with_far (end_of life (s.arrives_as life k)) (arrival_by r)) (λ t side. refl) w.streams f.talk.near q was)
    (subst (λ (ts : List StreamState). StreamsStand streams begins ts w.dials) same (opens begins w.streams w.dials f.talk f.got keeps.streams)) in
    input_runs law old (record old { streams = streams }) new s w (record w { streams = talks }) (event.Arrive k hold) (event.Arrive k true) hold v (λ c. w.answers) x.node i own after r may (record { goes = may.goes; fit = tt })
    (arrive_brings s w k hold f.talk v r f.got is) refl kept there.here refl is_node place got still tt steps fed
    (λ c. record { offers = (same_notes old.notes new.notes same_is).0; accepted = (same_notes old.notes new.notes same_is).1 }) sends

-- memory may be wanted for it
pub arrival_starves : (law : StreamsAreReady) (code : World) (k : ℕ) (hold : Bool) (x : Waiting) → waiting_in code.lives code.plan.nodes (numbered code.streams.list.items k) ≡ Some x → IsNode (length code.seats.items) x.node → MayStarve code (event.Arrive k hold)
arrival_starves law code k hold x waits is_node s w may =
    let f : Found code s w k x = found law code s w k x may.goes waits in
    let there : Here w x.node = node_is code s w x.node may.goes.keeps is_node in
    (refl, ap is_some (visit_is code s w k x (Some there.seat) f may.goes.keeps there.here))

-- ---- nothing comes of it

none_arrived : (s : Setting) (w : WorldState) (k : ℕ) (hold : Bool) → visit_of s w (event.Arrive k hold) ≡ None → (after_event s w (event.Arrive k hold) no_choice ≡ w) × (report_of s w (event.Arrive k hold) no_choice ≡ report.Nothing)
unfolding after_event report_of
none_arrived s w k hold is = (rw is refl, rw is refl)

nothing_arrives : (code : World) (s : Setting) (w : WorldState) (k : ℕ) (hold : Bool) → MayRun code s w (event.Arrive k hold) → arrival_visit s w k ≡ None → HasRun code code s w (event.Arrive k hold) report.Nothing
nothing_arrives code s w k hold may is =
    let h = none_arrived s w k hold is in
    record { choice = no_choice; comes = subst (λ o. MayCome o no_choice) (sym is) tt; report_is = sym h.1; keeps = subst (WorldKeeps code s) (sym h.0) may.goes.keeps; noted = record { offers = refl; accepted = refl } }

open_none : (s : Setting) (w : WorldState) (k : ℕ) (near : Option Seat) → opened_at s w k None near ≡ None
open_none s w k None = refl
open_none s w k (Some seat) = refl

unopened_by : (lives : List ℕ) (p : WorldPlan) (s : Setting) (w : WorldState) (k : ℕ) (co : Option Stream) (to : Option StreamState) → s ≡ script_setting p
    → ((life : ℕ) → numbered lives life ≡ None → seat_at w life ≡ None) → IsTalk k co to → waiting_in lives p.nodes co ≡ None → opened_stream s w k to ≡ None
unopened_by lives p s w k None None setting unknown talk none = refl
unopened_by lives p s w k None (Some t) setting unknown talk none = absurd talk
unopened_by lives p s w k (Some c) None setting unknown talk none = absurd talk
unopened_by lives p s w k (Some c) (Some t) setting unknown talk none = by_side (is_unopened c.far_side) refl none where
  waits : is_waiting t.far_side ≡ is_unopened c.far_side
  waits = sym (ap is_waiting talk.far_side) ∙ unopened c.far_side

  member : member_at s t.to ≡ listener_from 1 p.nodes c.to
  member = ap (member_at s) (sym talk.to) ∙ (ap (λ (q : Setting). member_at q c.to) setting ∙ sym (listener_is p c.to))

  by_both : (n o : Option ℕ) → numbered lives c.near ≡ n → listener_from 1 p.nodes c.to ≡ o → waiting_by n o ≡ None → opened_at s w k (member_at s t.to) (seat_at w t.near.node) ≡ None
  by_both n None known is e = ap (λ (q : Option ℕ). opened_at s w k q (seat_at w t.near.node)) (member ∙ is) ∙ open_none s w k (seat_at w t.near.node)
  by_both None (Some node) known is e =
      ap (λ (q : Option ℕ). opened_at s w k q (seat_at w t.near.node)) (member ∙ is)
      ∙ ap (opened_at s w k (Some node)) (ap (λ (q : StreamEnd). seat_at w q.node) talk.near ∙ unknown c.near known)
  by_both (Some near) (Some node) known is e = absurd (none-some (record { near = near; node = node }) (sym e))

  by_side : (b : Bool) → is_unopened c.far_side ≡ b → cond b (waiting_by (numbered lives c.near) (listener_from 1 p.nodes c.to)) None ≡ None → opened_stream s w k (Some t) ≡ None
  by_side true side e =
      ap (λ (b : Bool). cond b (opened_at s w k (member_at s t.to) (seat_at w t.near.node)) None) (waits ∙ side) ∙ by_both (numbered lives c.near) (listener_from 1 p.nodes c.to) refl refl e
  by_side false side e = ap (λ (b : Bool). cond b (opened_at s w k (member_at s t.to) (seat_at w t.near.node)) None) (waits ∙ side)

-- nothing comes of a stream that doesn't wait
pub no_arrival : (code : World) (k : ℕ) (hold : Bool) → waiting_in code.lives code.plan.nodes (numbered code.streams.list.items k) ≡ None → Runs code code (event.Arrive k hold) report.Nothing
unfolding arrival_visit
no_arrival code k hold none s w may =
    nothing_arrives code s w k hold may
    (unopened_by code.lives code.plan s w k (numbered code.streams.list.items k) (stream_numbered w.streams k) may.goes.keeps.setting
    (λ life none_at. unowned code s w life may.goes (ap (owner_in (length code.seats.items)) none_at))
    (talk_at code.streams.list.items code.streams.near.entries (begins_as w.lives code.marks code.plan.nodes) w.streams w.dials may.goes.keeps.streams k) none)

-- the node where a stream waits to be opened is there
pub unseated_arrival : (law : StreamsAreReady) (code : World) (k : ℕ) (hold : Bool) (x : Waiting) → waiting_in code.lives code.plan.nodes (numbered code.streams.list.items k) ≡ Some x → (IsNode (length code.seats.items) x.node → ⊥) → Runs code code (event.Arrive k hold) report.Nothing
unseated_arrival law code k hold x waits none s w may =
    let f : Found code s w k x = found law code s w k x may.goes waits in
    absurd (none (code_node code s w x.node may.goes.keeps (listener_member s f.talk.to x.node (script_member code.plan 0) f.member)))
