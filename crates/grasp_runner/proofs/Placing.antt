-- What a network that goes on has, and the events of lines in it.
use Rattle.std.proofs.Common.{◌≡◌, refl, sym, ap, ◌∙◌, subst, inl, inr, ℕ, Bool, length, Some, Result, Ok, Err}
use Rattle.grasp_types.specs.declared.call.Call.{Call}
use Rattle.grasp_laws_network.proofs.GoodPlans.{member_count}
use Rattle.grasp_laws_network.proofs.Lists.{numbered_there}
use Rattle.grasp_laws_network.proofs.LivesKept.{lives_are_kept}
use Rattle.grasp_model_network.specs.Events.{IsFit, Overflows}
use Rattle.grasp_model_network.specs.Plans.{IsNode}
use Rattle.grasp_model_network.specs.Setting.{Setting, script_setting}
use Rattle.grasp_model_network.specs.World.{Seat, WorldState, present_life, seat_at}
use Rattle.grasp_model_network.specs.declared.event.Event.{Event}
use Rattle.grasp_model_network.specs.declared.event.Event.TheVariants as event
use Rattle.grasp_model_network.specs.declared.plan.WorldPlan.{WorldPlan}
use Rattle.grasp_model_network.specs.declared.report.Report.{Report}
use Rattle.grasp_model_network.specs.declared.report.WorldStop.{WorldStop}
use Rattle.grasp_model_network.specs.declared.report.WorldStop.TheVariants as stop
use Rattle.grasp_script.specs.Acts.{IsAct}
use Rattle.grasp_script.specs.declared.line.LineAct.TheVariants as act
use Rattle.grasp_model_script.specs.LineRuns.{placed_call, placed_event}
use Rattle.grasp_simulator.proofs.SeatLists.{peers_count}
use Rattle.grasp_simulator.specs.Contract.{Standing, going, stopped, Answers, Halted, MeetsEvent}
use Rattle.grasp_simulator.specs.WorldStands.{WorldStands, HasNode, IsSeat}
use Rattle.grasp_simulator.specs.WorldSteps.{IsAsked, Stepped}
use Rattle.grasp_simulator.specs.declared.world.World.{World}
use Rattle.grasp_runner.specs.Lines.{CanRunLine, EventAnswers, EventFails, MeetsLine, RunsEvent, StoppedEventAnswers, network_at, stopped_at}
use Rattle.grasp_runner.proofs.Fitting.{event_fits}

-- ---- how many nodes there are

pub plan_members : (p : WorldPlan) → length (script_setting p).members ≡ p.nodes
unfolding script_setting
plan_members p = member_count p

peers_here : (code : World) (s : Setting) (w : WorldState) → WorldStands code (network_at s w) → length s.peers ≡ length s.members
peers_here code s w h = subst (λ (x : Setting). length x.peers ≡ length x.members) (sym h.stands.goes.keeps.setting) (peers_count code.plan ∙ sym (plan_members code.plan))

-- ---- nodes

-- the present life of the node of a number, among so many
pub record IsThere (w : WorldState) (node : ℕ) : Type 0 where
  pub seat : Seat
  pub here : seat_at w (present_life w node) ≡ Some seat

pub node_there : (code : World) (s : Setting) (w : WorldState) (node : ℕ) → WorldStands code (network_at s w) → IsNode (length s.members) node → IsThere w node
node_there code s w node h n =
    let found = numbered_there w.seats (present_life w node) ((lives_are_kept s w h.stands.goes.reached).present node n) in
    record { seat = found.0; here = found.1 }

pub has_node : (code : World) (s : Setting) (w : WorldState) (node : ℕ) → WorldStands code (network_at s w) → IsNode (length s.members) node → HasNode code node
has_node code s w node h n = record { network = network_at s w; stands = h; is_node = n }

-- ---- events

pub fit_here : (code : World) (s : Setting) (w : WorldState) (e : Event) → MeetsLine code s w (act.Event e) → IsFit s w (placed_event w e)
fit_here code s w e h = event_fits s w e (peers_here code s w h.stands) h.fit

-- the placed event is that of the network
abbrev pub IsPlaced : World → Event → Event → Type 0
IsPlaced code e placed = (s : Setting) (w : WorldState) → MeetsLine code s w (act.Event e) → placed ≡ placed_event w e

meets_placed : (code : World) (s : Setting) (w : WorldState) (e placed : Event) → placed ≡ placed_event w e → MeetsLine code s w (act.Event e) → MeetsEvent (WorldStands code) (network_at s w) placed
meets_placed code s w e placed is h = record { stands = h.stands; fit = subst (λ (x : Event). IsFit s w x) (sym is) (fit_here code s w e h) }

meets_stopped : (code : World) (s : Setting) (why : WorldStop) (placed : Event) → WorldStands code (stopped_at s why) → MeetsEvent (WorldStands code) (stopped_at s why) placed
meets_stopped code s why placed h = record { stands = h; fit = tt }

asked_at : (code : World) (e placed : Event) (s : Setting) (x : Standing) → WorldStands code (record { setting = s; standing = x }) → IsAct (length s.members) (act.Event e) → IsPlaced code e placed → IsAsked code placed
asked_at code e placed s (going w) stands fit is =
    let met : MeetsLine code s w (act.Event e) = record { stands = stands; fit = fit } in
    record { network = network_at s w; meets = meets_placed code s w e placed (is s w met) met }
asked_at code e placed s (stopped why) stands fit is = record { network = stopped_at s why; meets = meets_stopped code s why placed stands }

pub asked_placed : (code : World) (e placed : Event) → CanRunLine code (act.Event e) → IsPlaced code e placed → IsAsked code placed
asked_placed code e placed can is = asked_at code e placed can.setting can.standing can.stands can.fit is

-- what stopped the network at the placed event stopped it at the line
halted : (new : World) (s : Setting) (w : WorldState) (e placed : Event) (why : WorldStop) → placed ≡ placed_event w e → Halted (WorldStands new) s w placed why → EventFails new s w e why
halted new s w e placed stop.TooMuch is h = record { overflows = subst (Overflows s w) is h.may_stop; stands = h.stands }
halted new s w e placed stop.OutOfMemory is h = inr h.stands

answered : (new : World) (s : Setting) (w : WorldState) (e placed : Event) (r : Result Report WorldStop) → placed ≡ placed_event w e → Answers (WorldStands new) s (going w) placed r → EventAnswers new s w e r
answered new s w e placed (Ok report) is h = subst (λ (x : Event). Answers (WorldStands new) s (going w) x (Ok report)) is h
answered new s w e placed (Err why) is h = halted new s w e placed why is h

stays_stopped : (new : World) (s : Setting) (why : WorldStop) (placed : Event) (r : Result Report WorldStop) → Answers (WorldStands new) s (stopped why) placed r → StoppedEventAnswers new s why r
stays_stopped new s why placed (Ok report) h = h
stays_stopped new s why placed (Err again) h = record { why_is = inl h.same; stands = h.stands }

pub runs_placed : (code new : World) (e placed : Event) (r : Result Report WorldStop) → IsPlaced code e placed → Stepped code new placed r → RunsEvent code new e r
runs_placed code new e placed r is stepped = record {
  goes = λ s w h. answered new s w e placed r (is s w h) (stepped (network_at s w) (meets_placed code s w e placed (is s w h) h));
  stays = λ s why h. stays_stopped new s why placed r (stepped (stopped_at s why) (meets_stopped code s why placed h));
}

-- there was no memory for the places
pub runs_nothing : (code : World) (e : Event) → RunsEvent code code e (Err stop.OutOfMemory)
runs_nothing code e = record { goes = λ s w h. inl h.stands; stays = λ s why h. record { why_is = inr refl; stands = h } }

-- a call with the place of its session
pub placed_api : (code : World) (e : Event) (node asa : ℕ) (call placed : Call) (hold : Bool) → e ≡ event.Api node asa call hold
    → ((s : Setting) (w : WorldState) (seat : Seat) → IsSeat code node s w seat → placed ≡ placed_call w (present_life w node) call)
    → (s : Setting) (w : WorldState) → MeetsLine code s w (act.Event e) → event.Api node asa placed hold ≡ placed_event w e
placed_api code e node asa call placed hold is places s w h =
    let met : MeetsLine code s w (act.Event (event.Api node asa call hold)) = subst (λ (x : Event). MeetsLine code s w (act.Event x)) is h in
    let there : IsThere w node = node_there code s w node met.stands met.fit.0 in
    ap (λ (x : Call). event.Api node asa x hold) (places s w there.seat (record { stands = met.stands; here = there.here })) ∙ sym (ap (placed_event w) is)
