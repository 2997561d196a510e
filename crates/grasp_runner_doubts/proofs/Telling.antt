-- Lines that are run in a network of doubters, and their reports.
use Rattle.std.proofs.Common.{◌≡◌, ◌≢◌, refl, sym, ap, ◌∙◌, subst, inl, inr, ℕ, ◌==◌, ◌||◌, false, List, [], length, Option, None, Some, Result, Ok, Err, IfOk}
use Rattle.grasp_cbor.specs.declared.memory.OutOfMemory.{OutOfMemory}
use Rattle.grasp_doubter.specs.declared.asking.AskFault.{AskFault}
use Rattle.grasp_types.specs.Prefix.{AddressBlock as Prefix}
use Rattle.grasp_model_network.specs.Plans.{IsNode}
use Rattle.grasp_model_network.specs.Setting.{Setting}
use Rattle.grasp_model_network.specs.Visits.{Choice, no_choice}
use Rattle.grasp_model_network.specs.World.{WorldState}
use Rattle.grasp_model_network.specs.declared.event.Event.{Event}
use Rattle.grasp_model_network.specs.declared.event.Event.TheVariants as event
use Rattle.grasp_model_network.specs.declared.report.Report.{Report}
use Rattle.grasp_model_network.specs.declared.report.WorldStop.{WorldStop}
use Rattle.grasp_model_network.specs.declared.report.WorldStop.TheVariants as stop
use Rattle.grasp_script.specs.Reports.{told_report}
use Rattle.grasp_script.specs.declared.line.LineAct.{LineAct}
use Rattle.grasp_script.specs.declared.line.LineAct.TheVariants as plain
use Rattle.grasp_script_doubts.specs.Lines.{is_own_call}
use Rattle.grasp_script_doubts.specs.Reports.{told_ask}
use Rattle.grasp_script_doubts.specs.declared.line.DoubtLineAct.{DoubtLineAct}
use Rattle.grasp_script_doubts.specs.declared.line.DoubtLineAct.TheVariants as act
use Rattle.grasp_model_script.specs.LineRuns.{event_told, placed_event}
use Rattle.grasp_model_doubts.specs.Events.{IsDoubtFit, IsPlain, doubt_report}
use Rattle.grasp_model_doubts.specs.World.{DoubtState}
use Rattle.grasp_model_doubts.specs.declared.event.DoubtEvent.{DoubtEvent}
use Rattle.grasp_model_doubts.specs.declared.event.DoubtEvent.TheVariants as doubt
use Rattle.grasp_model_doubts.specs.declared.report.DoubtReport.{DoubtReport}
use Rattle.grasp_model_doubts.specs.declared.report.DoubtReport.TheVariants as report
use Rattle.grasp_doubts.specs.Contract.{DoubtHalted, DoubtReported}
use Rattle.grasp_doubts.specs.Stands.{DoubtWorldStands, DoubtWorldStepped, IsDoubtAsked, network_in}
use Rattle.grasp_doubts.specs.declared.doubt_world.DoubtWorld.{DoubtWorld}
use Rattle.grasp_runner.specs.Lines.{CanRun, MeetsLine, RunsLook, network_at}
use Rattle.grasp_runner.proofs.Placing.{IsPlaced, fit_here, has_node, plan_members}
use Rattle.grasp_simulator.proofs.SeatLists.{peers_count}
use Rattle.grasp_simulator.specs.WorldStands.{HasNode, WorldStands}
use Rattle.grasp_simulator.specs.declared.world.World.{World}
use Rattle.grasp_model_script_doubts.specs.LineRuns.{MayHappen, Oversends, act_event, doubt_act_told, doubt_told, state_then}
use Rattle.grasp_runner_doubts.specs.Lines.{CanRunDoubt, DoubtLineAnswers, DoubtLineFails, DoubtLineReported, MeetsDoubtLine, RunsDoubtAct, RunsDoubtLook, RunsStep, StepAnswers, StepFails, StepFits, StepReported, TellsDoubt, doubts_at}

-- ---- the network itself

-- it goes on for the line
pub meets_plain : (code : DoubtWorld) (s : Setting) (x : DoubtState) (a : LineAct) → MeetsDoubtLine code s x (act.Plain a)
    → MeetsLine (network_in code) s x.world a
meets_plain code s x a h = record { stands = h.stands.stands.0.world; fit = h.fit.0 }

can_plain : (code : DoubtWorld) (a : LineAct) → CanRunDoubt code (act.Plain a) → CanRun (network_in code) a
can_plain code a can = record { setting = can.setting; network = can.state.world; meets = meets_plain code can.setting can.state a can.meets }

-- each node is a peer
peers_here : (world : World) (s : Setting) (x : DoubtState) → WorldStands world (network_at s x.world) → length s.peers ≡ length s.members
peers_here world s x h =
    subst (λ (y : Setting). length y.peers ≡ length y.members) (sym h.stands.goes.keeps.setting)
    (peers_count world.plan ∙ sym (plan_members world.plan))

-- ---- the event of a line may be asked for

not_doubter : (asa : ℕ) → ((asa == 1) || (asa == 2)) ≡ false → asa ≢ 2
not_doubter asa h two = absurd (cc (subst (λ (n : ℕ). ((n == 1) || (n == 2)) ≡ false) two h))

is_plain : (w : WorldState) (e : Event) → is_own_call e ≡ false → IsPlain (placed_event w e)
is_plain w (event.Api node asa call hold) h = not_doubter asa h
is_plain w _ h = tt

abbrev FitsWhere : Setting → DoubtState → Option DoubtEvent → Type 0
FitsWhere s x None = Unit {0}
FitsWhere s x (Some e) = IsDoubtFit s x e

act_fits : (code : DoubtWorld) (s : Setting) (x : DoubtState) (a : DoubtLineAct) → MeetsDoubtLine code s x a → FitsWhere s x (act_event x.world a)
act_fits code s x (act.Plain (plain.Event e)) h =
    (fit_here (network_in code) s x.world e (meets_plain code s x (plain.Event e) h), is_plain x.world e h.fit.1)
act_fits code s x (act.Plain (plain.State node)) h = tt
act_fits code s x (act.Doubter node) h = h.fit
act_fits code s x (act.Ask node prefix peer) h =
    (h.fit.0, subst (λ (n : ℕ). IsNode n peer) (sym (peers_here (network_in code) s x h.stands.stands.0.world)) h.fit.2)

-- this is the line's event in each network for which the code goes on
abbrev pub IsEventOf : DoubtWorld → DoubtLineAct → DoubtEvent → Type 0
IsEventOf code a e = (s : Setting) (x : DoubtState) → MeetsDoubtLine code s x a → act_event x.world a ≡ Some e

step_fits : (code : DoubtWorld) (s : Setting) (x : DoubtState) (a : DoubtLineAct) (e : DoubtEvent) → IsEventOf code a e → MeetsDoubtLine code s x a
    → StepFits code s x e
step_fits code s x a e is h =
    record { stands = h.stands; fit = subst (λ (o : Option DoubtEvent). FitsWhere s x o) (is s x h) (act_fits code s x a h) }

pub asked : (code : DoubtWorld) (a : DoubtLineAct) (e : DoubtEvent) → IsEventOf code a e → CanRunDoubt code a → IsDoubtAsked code e
asked code a e is can =
    let f : StepFits code can.setting can.state e = step_fits code can.setting can.state a e is can.meets in
    record { network = doubts_at can.setting can.state; meets = record { stands = f.stands; fit = f.fit } }

-- ---- what comes of the event is what comes of its line

abbrev told_by : Setting → DoubtState → List ℕ → Choice → Option DoubtEvent → List ℕ
told_by s x text c None = []
told_by s x text c (Some e) = doubt_told text (doubt_report s x e c)

told_so : (s : Setting) (x : DoubtState) (text : List ℕ) (a : DoubtLineAct) (e : DoubtEvent) (c : Choice) → act_event x.world a ≡ Some e
    → doubt_act_told s x text a c ≡ doubt_told text (doubt_report s x e c)
unfolding doubt_told
told_so s x text (act.Plain (plain.Event f)) e c is = ap (λ (o : Option DoubtEvent). told_by s x text c o) is
told_so s x text (act.Plain (plain.State node)) e c is = absurd (cc is)
told_so s x text (act.Doubter node) e c is = ap (λ (o : Option DoubtEvent). told_by s x text c o) is
told_so s x text (act.Ask node prefix peer) e c is = ap (λ (o : Option DoubtEvent). told_by s x text c o) is

module _ (new : DoubtWorld) (s : Setting) (x : DoubtState) (text : List ℕ) (a : DoubtLineAct) (e : DoubtEvent)
    (is : act_event x.world a ≡ Some e) where
  comes_so : (c : Choice) → MayHappen s x (Some e) c → MayHappen s x (act_event x.world a) c
  comes_so c h = subst (λ (o : Option DoubtEvent). MayHappen s x o c) (sym is) h

  stands_so : (c : Choice) → DoubtWorldStands new (doubts_at s (state_then s x (Some e) c))
      → DoubtWorldStands new (doubts_at s (state_then s x (act_event x.world a) c))
  stands_so c h = subst (λ (o : Option DoubtEvent). DoubtWorldStands new (doubts_at s (state_then s x o c))) (sym is) h

  line_told : (told : List ℕ) → StepReported new s x text e told → DoubtLineReported new s x text a told
  line_told told h = record {
    choice = h.choice;
    comes = comes_so h.choice h.occurs;
    told_is = h.told_is ∙ sym (told_so s x text a e h.choice is);
    stands = stands_so h.choice h.stands;
  }

  line_fails : (why : WorldStop) → StepFails new s x e why → DoubtLineFails new s x a why
  line_fails stop.TooMuch h = record { overflows = subst (λ (o : Option DoubtEvent). Oversends s x o) (sym is) h.overflows; stands = h.stands }
  line_fails stop.OutOfMemory (inl halted) = inr (inl halted)
  line_fails stop.OutOfMemory (inr past) =
      inr (inr (record { choice = past.choice; comes = comes_so past.choice past.occurs; stands = stands_so past.choice past.stands }))

  line_answers : (r : Result (List ℕ) WorldStop) → StepAnswers new s x text e r → DoubtLineAnswers new s x text a r
  line_answers (Ok told) h = line_told told h
  line_answers (Err why) h = line_fails why h

module _ (code new : DoubtWorld) (text : List ℕ) (a : DoubtLineAct) (e : DoubtEvent) where
  pub act_runs : IsEventOf code a e → (r : Result (List ℕ) WorldStop) → RunsStep code new text e r → RunsDoubtAct code new text a r
  act_runs is r runs s x h = line_answers new s x text a e (is s x h) r (runs s x (step_fits code s x a e is h))

-- ---- an event, and its report

module _ (code new : DoubtWorld) (text : List ℕ) (e : DoubtEvent) where
  reported : (told : DoubtReport) → DoubtWorldStepped code new e (Ok told) → (s : Setting) (x : DoubtState) → StepFits code s x e
      → DoubtReported (DoubtWorldStands new) s x e told
  reported told stepped s x h = stepped (doubts_at s x) (record { stands = h.stands; fit = h.fit })

  halted : (why : WorldStop) → DoubtWorldStepped code new e (Err why) → (s : Setting) (x : DoubtState) → StepFits code s x e
      → DoubtHalted (DoubtWorldStands new) s x e why
  halted why stepped s x h = stepped (doubts_at s x) (record { stands = h.stands; fit = h.fit })

  pub step_tells : (told : DoubtReport) (r : Result (List ℕ) WorldStop) → DoubtWorldStepped code new e (Ok told) → TellsDoubt text told r
      → RunsStep code new text e r
  step_tells told (Ok line) stepped tells s x h =
      let y : DoubtReported (DoubtWorldStands new) s x e told = reported told stepped s x h in
      record { choice = y.choice; occurs = y.occurs; told_is = tells ∙ ap (doubt_told text) y.report_is; stands = y.stands }
  step_tells told (Err why) stepped tells s x h =
      let y : DoubtReported (DoubtWorldStands new) s x e told = reported told stepped s x h in
      subst (λ (w : WorldStop). StepFails new s x e w) (sym tells) (inr (record { choice = y.choice; occurs = y.occurs; stands = y.stands }))

  pub step_stops : (why : WorldStop) → DoubtWorldStepped code new e (Err why) → RunsStep code new text e (Err why)
  step_stops stop.TooMuch stepped s x h =
      let y : DoubtHalted (DoubtWorldStands new) s x e stop.TooMuch = halted stop.TooMuch stepped s x h in
      record { overflows = y.may_stop; stands = y.stands }
  step_stops stop.OutOfMemory stepped s x h = inl (halted stop.OutOfMemory stepped s x h).stands

-- what an event comes to
pub plain_tells : (text : List ℕ) (d : DoubtReport) (r : Report) (told : Result (List ℕ) OutOfMemory) → d ≡ report.Plain r
    → IfOk told (λ line. line ≡ told_report text r) → IfOk told (λ line. line ≡ doubt_told text d)
unfolding doubt_told event_told
plain_tells text d r (Ok line) is h = h ∙ sym (ap (doubt_told text) is)
plain_tells text d r (Err memory) is h = tt

-- whether a doubter takes a question
pub ask_tells : (text : List ℕ) (d : DoubtReport) (asked : Result (Unit {0}) AskFault) (told : Result (List ℕ) OutOfMemory) → d ≡ report.Ask asked
    → IfOk told (λ line. line ≡ told_ask text asked) → IfOk told (λ line. line ≡ doubt_told text d)
unfolding doubt_told
ask_tells text d asked (Ok line) is h = h ∙ sym (ap (doubt_told text) is)
ask_tells text d asked (Err memory) is h = tt

-- ---- an event of any script

module _ (code : DoubtWorld) (world : World) (lent : world ≡ network_in code) (e : Event) where
  -- it may be placed in the network that is lent
  pub lent_can : CanRunDoubt code (act.Plain (plain.Event e)) → CanRun world (plain.Event e)
  lent_can can = subst (λ (w : World). CanRun w (plain.Event e)) (sym lent) (can_plain code (plain.Event e) can)

  pub placed_is : (placed : Event) → IsPlaced world e placed → IsEventOf code (act.Plain (plain.Event e)) (doubt.Plain placed)
  placed_is placed is s x h =
      let places : IsPlaced (network_in code) e placed = subst (λ (w : World). IsPlaced w e placed) lent is in
      let same : placed ≡ placed_event x.world e = places s x.world (meets_plain code s x (plain.Event e) h) in
      ap (λ (y : Event). Some (doubt.Plain y)) (sym same)

-- there was no memory for the places
pub act_starves : (code : DoubtWorld) (text : List ℕ) (a : DoubtLineAct) → RunsDoubtAct code code text a (Err stop.OutOfMemory)
act_starves code text a s x h = inl h.stands

-- ---- looks

module _ (code : DoubtWorld) (text : List ℕ) (node : ℕ) where
  node_here : CanRunDoubt code (act.Plain (plain.State node)) → HasNode (network_in code) node
  node_here can = has_node (network_in code) can.setting can.state.world node can.meets.stands.stands.0.world can.meets.fit.0

  pub lent_node : (world : World) → world ≡ network_in code → CanRunDoubt code (act.Plain (plain.State node)) → HasNode world node
  lent_node world is can = subst (λ (w : World). HasNode w node) (sym is) (node_here can)

  pub lent_looks : (world : World) → world ≡ network_in code → (r : Result (List ℕ) WorldStop) → RunsLook world text node r
      → RunsDoubtLook code text node r
  lent_looks world is r runs s x h =
      subst (λ (w : World). RunsLook w text node r) is runs s x.world (meets_plain code s x (plain.State node) h)

  pub look_starves : RunsDoubtLook code text node (Err stop.OutOfMemory)
  look_starves s x h = refl

  look_told : (r : Result (List ℕ) WorldStop) → RunsDoubtLook code text node r → RunsDoubtAct code code text (act.Plain (plain.State node)) r
  look_told (Ok told) runs s x h = record { choice = no_choice; comes = tt; told_is = runs s x h; stands = h.stands }
  look_told (Err why) runs s x h =
      subst (λ (w : WorldStop). DoubtLineFails code s x (act.Plain (plain.State node)) w) (sym (runs s x h)) (inl h.stands)

  pub look_tells : (a : LineAct) → a ≡ plain.State node → (r : Result (List ℕ) WorldStop) → RunsDoubtLook code text node r
      → RunsDoubtAct code code text (act.Plain a) r
  look_tells a is r runs = subst (λ (y : LineAct). RunsDoubtAct code code text (act.Plain y) r) (sym is) (look_told r runs)

-- ---- the whole line

pub can_so : (code : DoubtWorld) (a b : DoubtLineAct) → a ≡ b → CanRunDoubt code a → CanRunDoubt code b
can_so code a b is can = subst (λ (y : DoubtLineAct). CanRunDoubt code y) is can

module _ (code new : DoubtWorld) (text : List ℕ) where
  pub runs_so : (a b : DoubtLineAct) → a ≡ b → (r : Result (List ℕ) WorldStop) → RunsDoubtAct code new text b r → RunsDoubtAct code new text a r
  runs_so a b is r runs = subst (λ (y : DoubtLineAct). RunsDoubtAct code new text y r) (sym is) runs

  -- where the line's event is one and the same in each network
  pub steps_so : (a b : DoubtLineAct) (e : DoubtEvent) → a ≡ b → IsEventOf code b e → (r : Result (List ℕ) WorldStop) → RunsStep code new text e r
      → RunsDoubtAct code new text a r
  steps_so a b e is of r runs = runs_so a b is r (act_runs code new text b e of r runs)

-- a doubter's call, and a question
pub doubter_event : (code : DoubtWorld) (node : ℕ) → IsEventOf code (act.Doubter node) (doubt.Doubter node)
doubter_event code node s x h = refl

pub ask_event : (code : DoubtWorld) (node : ℕ) (prefix : Prefix) (peer : ℕ) → IsEventOf code (act.Ask node prefix peer) (doubt.Ask node prefix peer)
ask_event code node prefix peer s x h = refl

-- it may be asked for
pub asked_so : (code : DoubtWorld) (a b : DoubtLineAct) (e : DoubtEvent) → a ≡ b → IsEventOf code b e → CanRunDoubt code a → IsDoubtAsked code e
asked_so code a b e is of can = asked code b e of (can_so code a b is can)
