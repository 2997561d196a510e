-- Lines that are run, and their reports.
use Rattle.std.proofs.Common.{◌≡◌, sym, ap, ◌∙◌, subst, inl, inr, ℕ, List, Some, Result, Ok, Err, IfErr}
use Rattle.grasp_agent.specs.States.{AgentState}
use Rattle.grasp_model_network.specs.Setting.{Setting}
use Rattle.grasp_model_network.specs.Visits.{no_choice}
use Rattle.grasp_model_network.specs.World.{Seat, WorldState, present_life, seat_at}
use Rattle.grasp_model_network.specs.declared.event.Event.{Event}
use Rattle.grasp_model_network.specs.declared.report.Report.{Report}
use Rattle.grasp_model_network.specs.declared.report.WorldStop.{WorldStop}
use Rattle.grasp_model_network.specs.declared.report.WorldStop.TheVariants as stop
use Rattle.grasp_script.specs.Reports.{told_report, told_state}
use Rattle.grasp_script.specs.declared.line.LineAct.{LineAct}
use Rattle.grasp_script.specs.declared.line.LineAct.TheVariants as act
use Rattle.grasp_model_script.specs.LineRuns.{event_told, seat_told}
use Rattle.grasp_simulator.specs.WorldStands.{LendsAgent}
use Rattle.grasp_simulator.specs.declared.world.World.{World}
use Rattle.grasp_runner.specs.Lines.{EventFails, IsPast, IsStarved, LineFails, MeetsLine, RunsAct, RunsEvent, RunsLook, TellsEvent}
use Rattle.grasp_runner.proofs.Placing.{IsThere, node_there}

-- ---- events

-- there was no memory
starves : (new : World) (s : Setting) (w : WorldState) (a : LineAct) (why : WorldStop) → why ≡ stop.OutOfMemory → IsStarved new s w a → LineFails new s w a why
starves new s w a why is h = subst (λ (x : WorldStop). LineFails new s w a x) (sym is) h

event_fails : (new : World) (s : Setting) (w : WorldState) (e : Event) (why : WorldStop) → EventFails new s w e why → LineFails new s w (act.Event e) why
event_fails new s w e stop.TooMuch h = h
event_fails new s w e stop.OutOfMemory (inl before) = inl before
event_fails new s w e stop.OutOfMemory (inr halted) = inr (inl halted)

event_stop : (code new : World) (text : List ℕ) (e : Event) (why : WorldStop) → RunsEvent code new e (Err why) → RunsAct code new text (act.Event e) (Err why)
event_stop code new text e why runs = record { answers = λ s w h. event_fails new s w e why (runs.goes s w h); still = λ s was h. runs.stays s was h }

-- the event failed
pub event_stops : (code new : World) (text : List ℕ) (a : LineAct) (e : Event) (why : WorldStop) → a ≡ act.Event e → RunsEvent code new e (Err why) → RunsAct code new text a (Err why)
event_stops code new text a e why is runs = subst (λ (x : LineAct). RunsAct code new text x (Err why)) (sym is) (event_stop code new text e why runs)

event_runs : (code new : World) (text : List ℕ) (e : Event) (report : Report) (r : Result (List ℕ) WorldStop) → RunsEvent code new e (Ok report) → TellsEvent text report r → RunsAct code new text (act.Event e) r
event_runs code new text e report (Ok told) runs tells = record {
  answers = λ s w h. let d = runs.goes s w h in record { choice = d.choice; comes = d.occurs; told_is = tells ∙ ap (event_told text) d.report_is; stands = d.stands };
  still = λ s was h. runs.stays s was h;
}
event_runs code new text e report (Err why) runs tells = record {
  answers = λ s w h. starves new s w (act.Event e) why tells (inr (inr (past s w h)));
  still = λ s was h. absurd (runs.stays s was h);
} where
  past : (s : Setting) (w : WorldState) → MeetsLine code s w (act.Event e) → IsPast new s w (act.Event e)
  past s w h = let d = runs.goes s w h in record { choice = d.choice; comes = d.occurs; stands = d.stands }

-- the event of a line came out, and the text reports it, or there was no memory for that
pub event_tells : (code new : World) (text : List ℕ) (a : LineAct) (e : Event) (report : Report) (r : Result (List ℕ) WorldStop) → a ≡ act.Event e → RunsEvent code new e (Ok report) → TellsEvent text report r → RunsAct code new text a r
event_tells code new text a e report r is runs tells = subst (λ (x : LineAct). RunsAct code new text x r) (sym is) (event_runs code new text e report r runs tells)

pub tells_report : (text : List ℕ) (report : Report) (told : List ℕ) → told ≡ told_report text report → TellsEvent text report (Ok told)
unfolding event_told
tells_report text report told is = is

-- ---- looks

pub look_node : (code : World) (s : Setting) (w : WorldState) (node : ℕ) → MeetsLine code s w (act.State node) → IsThere w node
look_node code s w node h = node_there code s w node h.stands h.fit

seat_is : (text told : List ℕ) (w : WorldState) (life : ℕ) (seat : Seat) (agent : AgentState) → seat_at w life ≡ Some seat → agent ≡ seat.agent → told ≡ told_state text agent.pool → told ≡ seat_told text (seat_at w life)
unfolding seat_told
seat_is text told w life seat agent here is e = e ∙ ap (λ (a : AgentState). told_state text a.pool) is ∙ sym (ap (seat_told text) here)

pub looks : (code : World) (text told : List ℕ) (node : ℕ) (agent : AgentState) → LendsAgent code node agent → told ≡ told_state text agent.pool → RunsLook code text node (Ok told)
looks code text told node agent lends e = λ s w h.
    let there : IsThere w node = look_node code s w node h in
    seat_is text told w (present_life w node) there.seat agent there.here (lends s w there.seat (record { stands = h.stands; here = there.here })) e

look_runs : (code : World) (text : List ℕ) (node : ℕ) (r : Result (List ℕ) WorldStop) → RunsLook code text node r → IfErr r (λ why. why ≡ stop.OutOfMemory) → RunsAct code code text (act.State node) r
look_runs code text node (Ok told) runs memory = record {
  answers = λ s w h. record { choice = no_choice; comes = h.fit; told_is = runs s w h; stands = h.stands };
  still = λ s was h. h;
}
look_runs code text node (Err why) runs memory = record {
  answers = λ s w h. starves code s w (act.State node) why memory (inl h.stands);
  still = λ s was h. record { why_is = inr memory; stands = h };
}

-- a node is shown
pub look_tells : (code : World) (text : List ℕ) (a : LineAct) (node : ℕ) (r : Result (List ℕ) WorldStop) → a ≡ act.State node → RunsLook code text node r → IfErr r (λ why. why ≡ stop.OutOfMemory) → RunsAct code code text a r
look_tells code text a node r is runs memory = subst (λ (x : LineAct). RunsAct code code text x r) (sym is) (look_runs code text node r runs memory)
