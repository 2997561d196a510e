-- An input that an event brings to a node: its step, and the outputs that are sent behind it.
use Rattle.std.proofs.Common.{◌≡◌, ◌<◌, ◌≤◌, refl, sym, ap, ◌∙◌, subst, arith, ℕ, ◌-◌, ◌^◌, ◌==◌, tests, Bool, false, not, List, length, Some, slice_get, slice_index_or, All}
use Rattle.std.specs.Vec.{with_item}
use Rattle.std.proofs.lemmas.Option.{get_or_from_slice_get, slice_get_within, same_Some}
use Rattle.grasp_model_node.specs.Divided.{HasBytes, Comes}
use Rattle.grasp_model_node.specs.Step.{NodeStep}
use Rattle.grasp_model_node.specs.declared.plan.NodePlan.{NodePlan}
use Rattle.grasp_types.specs.declared.reply.Reply.{Reply}
use Rattle.grasp_types.specs.declared.traffic.Input.{Input}
use Rattle.grasp_simulator.proofs.Comings.{something_comes_to_cores}
use Rattle.grasp_laws_network.proofs.EachNode.{nodes_are_sound}
use Rattle.grasp_laws_network.proofs.Here.{numbered_within}
use Rattle.grasp_laws_network.proofs.LivesKept.{life_member, lives_are_kept}
use Rattle.grasp_laws_network.specs.Lives.{LivesStand}
use Rattle.grasp_model_network.specs.Events.{drained_behind, visit_of, after_event}
use Rattle.grasp_model_network.specs.GoodSetting.{IsGoodMember}
use Rattle.grasp_model_network.specs.Plans.{IsNode}
use Rattle.grasp_model_network.specs.Reports.{report_of}
use Rattle.grasp_model_network.specs.Runs.{IsReached}
use Rattle.grasp_model_network.specs.Sending.{seat_with, stepped}
use Rattle.grasp_model_network.specs.Setting.{Member, Setting, numbered}
use Rattle.grasp_model_network.specs.Visits.{Visit, Choice, MayCome, VisitStep, is_starved}
use Rattle.grasp_model_network.specs.World.{Seat, DiscoveryAnswer, WorldState, last_life, member_of, present_life, seat_at}
use Rattle.grasp_model_network.specs.declared.event.Event.{Event}
use Rattle.grasp_model_network.specs.declared.report.Report.TheVariants as report
use Rattle.grasp_laws_delivery.specs.Ready.{StreamsAreReady}
use Rattle.grasp_simulator.specs.Seats.{SeatStands, Sitting, SeatMeets, SeatStepped}
use Rattle.grasp_simulator.specs.Sends.{SendsBehind}
use Rattle.grasp_simulator.specs.WorldStands.{WorldKeeps}
use Rattle.grasp_simulator.specs.WorldSteps.{MayRun, HasRun}
use Rattle.grasp_simulator.specs.declared.seat.Seat.{Seat as SeatCode}
use Rattle.grasp_simulator.specs.declared.world.World.{World}
use Rattle.grasp_laws_network.proofs.Lists.{numbered_there}
use Rattle.grasp_simulator.specs.Remembering.{HasNoted}
use Rattle.grasp_simulator.specs.declared.notes.Notes.{Notes}
use Rattle.grasp_simulator.proofs.Presence.{At, at_is, OwnSeat, own_seat, got_own}
use Rattle.grasp_simulator.proofs.Turns.{quiet_reached, stepped_keeps, stepped_here}

-- ---- what comes with it

limit_by : (limit : ℕ) (ms : List Member) (i : ℕ) (m : Member) → slice_get ms i ≡ Some m → All (IsGoodMember limit) ms → m.plan.limit ≡ limit
limit_by limit ms i m got all = (subst (IsGoodMember limit) (get_or_from_slice_get ms i m m got) (all i m (slice_get_within ms i m got))).limit_is

member_here : (ms : List Member) (node : ℕ) (m : Member) → 1 ≤ node → slice_get ms (node - 1) ≡ Some m → numbered ms node ≡ Some m
member_here ms node m least got = rw (not_zero node least) got where
  not_zero : (k : ℕ) → 1 ≤ k → (k == 0) ≡ false
  not_zero k h = grind (arith, tests)

-- a node's messages have some bytes, and not too many
limit_of : (s : Setting) (w : WorldState) (node : ℕ) (seat : Seat) → IsReached s w → seat_at w node ≡ Some seat → (0 < seat.core.plan.limit) × (seat.core.plan.limit < 2 ^ 64)
limit_of s w node seat reached here =
    let is_node : IsNode (length w.seats) node = numbered_within w.seats node seat here in
    let lives : LivesStand s w = lives_are_kept s w reached in
    let k : ℕ = member_of w node in
    let member : IsNode (length s.members) k = lives.members node k (life_member s w node lives is_node) in
    let least : 1 ≤ k = member.least in
    let most : k ≤ length s.members = member.most in
    let found : At s.members (k - 1) = at_is s.members (k - 1) (omega (arith, least, most)) in
    let plan : seat.core.plan ≡ found.it.plan = nodes_are_sound.plans s w reached node seat found.it here (member_here s.members k found.it least found.got) in
    let good = reached.good in
    let limit : seat.core.plan.limit ≡ good.limit = ap (λ (p : NodePlan). p.limit) plan ∙ limit_by good.limit s.members (k - 1) found.it found.got good.members in
    let some : 2048 ≤ good.limit = good.least_limit in
    let few : good.limit ≤ 65535 = good.most_limit in
    (omega (arith, limit, some), omega (arith, limit, few))

pub input_comes : (code : SeatCode) (s : Setting) (w : WorldState) (node : ℕ) (seat : Seat) (i : Input) → IsReached s w → seat_at w node ≡ Some seat → SeatStands code seat → HasBytes i → Comes seat.core seat.core.reading i
input_comes code s w node seat i reached here stands bytes =
    let limit = limit_of s w node seat reached here in
    something_comes_to_cores code.core seat.core seat.core.reading i limit.0 limit.1 stands.core bytes

-- a life of this number is there
pub record Life (w : WorldState) (life : ℕ) : Type 0 where
  pub seat : Seat
  pub here : seat_at w life ≡ Some seat

pub life_here : (w : WorldState) (life : ℕ) → IsNode (length w.seats) life → Life w life
life_here w life is = let found = numbered_there w.seats life is in record { seat = found.0; here = found.1 }

-- ---- the event

-- the step of a node at its own reading
abbrev pub own_step : ℕ → Seat → Input → Visit
own_step node seat i = record { node = node; seat = seat; now = seat.core.reading; input = i }

-- the network after the step, with these discoveries answered
abbrev pub after_input : WorldState → Visit → Choice → List DiscoveryAnswer → WorldState
after_input w v c answers = record (stepped w v c.after v.seat.agent) { answers = answers }

-- the event brings this input to the node, which replies so: the streams change, as this network says, and the node steps. Where it is held nothing is sent behind it
pub record Brings (s : Setting) (w changed : WorldState) (e held : Event) (hold : Bool) (v : Visit) (r : Reply) (answers : Choice → List DiscoveryAnswer) : Type 0 where
  pub seats : changed.seats ≡ w.seats
  pub lives : changed.lives ≡ w.lives
  pub count : changed.byte_count ≡ w.byte_count
  pub comes : (c : Choice) → VisitStep v c → MayCome (visit_of s w e) c
  pub comes_held : (c : Choice) → VisitStep v c → MayCome (visit_of s w held) c
  pub after : (c : Choice) → c.reply ≡ r → after_event s w e c ≡ drained_behind (not hold) s (after_input changed v c (answers c)) v.node
  pub after_held : (c : Choice) → c.reply ≡ r → after_event s w held c ≡ after_input changed v c (answers c)
  pub reports : (c : Choice) → report_of s w e c ≡ report.Reply c.reply

answers_keep : (code : World) (s : Setting) (w : WorldState) (answers : List DiscoveryAnswer) → WorldKeeps code s w → WorldKeeps code s (record w { answers = answers })
answers_keep code s w answers keeps = record {
  good = keeps.good;
  setting = keeps.setting;
  count = keeps.count;
  seats = keeps.seats;
  lives = keeps.lives;
  streams = keeps.streams;
  marks = keeps.marks;
  parcels = keeps.parcels;
  receivers = keeps.receivers;
  places = keeps.places;
  sent = keeps.sent;
  goes = keeps.goes;
}

input_count : (w : WorldState) (v : Visit) (c : Choice) (answers : List DiscoveryAnswer) → (after_input w v c answers).byte_count ≡ w.byte_count
unfolding stepped
input_count w v c answers = refl

-- a step begins no life
input_lives : (w : WorldState) (v : Visit) (c : Choice) (answers : List DiscoveryAnswer) → (after_input w v c answers).lives ≡ w.lives
unfolding stepped
input_lives w v c answers = refl

module _ (law : StreamsAreReady) (old mid new : World) (s : Setting) (w changed : WorldState) (e held : Event) (hold : Bool) (v : Visit) (answers : Choice → List DiscoveryAnswer) (node i : ℕ) (own after : SeatCode) (r : Reply)
    (may : MayRun old s w e) (may_held : MayRun old s w held) (brings : Brings s w changed e held hold v r answers) (reading : v.now ≡ v.seat.core.reading) (keeps : WorldKeeps mid s changed)
    (here : seat_at w v.node ≡ Some v.seat) (at : v.node ≡ present_life w node) (is_node : IsNode (length mid.seats.items) node) (place : i ≡ node - 1) (got : own ≡ slice_index_or mid.seats.items i own)
    (still : after.life ≡ own.life) (bytes : HasBytes v.input) (steps : (x : Sitting) → SeatMeets own v.input x → SeatStepped after v.input x r) (fed : is_starved r ≡ false)
    (noted : (c : Choice) → HasNoted old.notes new.notes w e c) (sends : SendsBehind (record mid { seats = with_item mid.seats i after }) new node hold) where
  found : OwnSeat changed node own
  found = own_seat mid s changed node i own keeps is_node place got

  -- the node's life in the network with the changed streams is the one of the step
  life_is : v.node ≡ present_life changed node
  life_is = at ∙ sym (ap (λ (ks : List ℕ). last_life 1 ks node 1) brings.lives)

  seat_is : found.seat ≡ v.seat
  seat_is = same_Some found.seat v.seat (sym found.here ∙ (ap (seat_at changed) (sym life_is) ∙ (ap (λ (seats : List Seat). numbered seats v.node) brings.seats ∙ here)))

  stands : SeatStands own v.seat
  stands = subst (SeatStands own) seat_is found.stands

  pub input_runs : HasRun old new s w e (report.Reply r)
  input_runs =
      let come : Comes v.seat.core v.seat.core.reading v.input = input_comes own s w v.node v.seat v.input may.goes.reached here stands bytes in
      let x : Sitting = record { seat = v.seat; coming = come.coming } in
      let h : SeatStepped after v.input x r = steps x (record { stands = stands; comes = come.is_coming }) in
      let c : Choice = record { coming = come.coming; reply = r; after = h.after } in
      let step : VisitStep v c = record { steps = subst (λ (now : ℕ). NodeStep v.seat.core now v.input come.coming r h.after) (sym reading) h.steps; fed = fed } in
      let next : WorldState = after_input changed v c (answers c) in
      let reached : IsReached s next = subst (IsReached s) (brings.after_held c refl)
      (quiet_reached s w held c old may_held (brings.comes_held c step) (ap (λ (y : WorldState). y.byte_count) (brings.after_held c refl) ∙ (input_count changed v c (answers c) ∙ brings.count))) in
      let then : Seat = seat_with h.after v.seat.agent in
      let mid_then : World = record mid { seats = with_item mid.seats i after } in
      let kept : WorldKeeps mid_then s next =
      answers_keep mid_then s (stepped changed v h.after v.seat.agent) (answers c)
      (stepped_keeps mid s changed keeps (present_life changed node) i own after (got_own mid node i own is_node place got) still (sym found.life) then h.stands law next v h.after v.seat.agent life_is refl reached refl) in
      let there : seat_at changed v.node ≡ Some v.seat = ap (λ (seats : List Seat). numbered seats v.node) brings.seats ∙ here in
      let same : present_life next node ≡ v.node = ap (λ (ks : List ℕ). last_life 1 ks node 1) (input_lives changed v c (answers c)) ∙ sym life_is in
      let last : seat_at next (present_life next node) ≡ Some then = ap (seat_at next) same ∙ stepped_here changed v h.after v.seat.agent there in
      let sent : WorldKeeps new s (drained_behind (not hold) s next v.node) =
      subst (λ (n : ℕ). WorldKeeps new s (drained_behind (not hold) s next n)) same (sends s next then (record { reached = reached; keeps = kept }) last) in
      record {
        choice = c;
        comes = brings.comes c step;
        report_is = sym (brings.reports c);
        keeps = subst (WorldKeeps new s) (sym (brings.after c refl)) sent;
        noted = noted c;
      }

-- notes that stay
pub same_notes : (before after : Notes) → after ≡ before → (after.offers.items ≡ before.offers.items) × (after.accepted ≡ before.accepted)
same_notes before after same = (ap (λ (n : Notes). n.offers.items) same, ap (λ (n : Notes). n.accepted) same)
