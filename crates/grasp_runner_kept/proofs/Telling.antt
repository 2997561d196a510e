-- Lines that are run in a network whose nodes crash, and their reports.
use Rattle.std.proofs.Common.{rules, ◌≡◌, refl, sym, ap, ◌∙◌, subst, inl, inr, ℕ, List, Result, Ok, Err}
use Rattle.grasp_disk.specs.declared.left.Left.{Left}
use Rattle.grasp_pool.specs.declared.image.PoolImage.{PoolImage}
use Rattle.grasp_model_network.specs.Setting.{Setting}
use Rattle.grasp_model_network.specs.Visits.{no_choice}
use Rattle.grasp_model_network.specs.declared.event.Event.{Event}
use Rattle.grasp_model_network.specs.declared.report.Report.{Report}
use Rattle.grasp_model_network.specs.declared.report.WorldStop.{WorldStop}
use Rattle.grasp_model_network.specs.declared.report.WorldStop.TheVariants as stop
use Rattle.grasp_script.specs.declared.line.Line.{Line}
use Rattle.grasp_script.specs.declared.line.LineAct.{LineAct}
use Rattle.grasp_script.specs.declared.line.LineAct.TheVariants as act
use Rattle.grasp_script_kept.specs.Reports.{told_restart}
use Rattle.grasp_script_kept.specs.declared.line.KeptLine.{KeptLine}
use Rattle.grasp_script_kept.specs.declared.line.KeptLine.TheVariants as line
use Rattle.grasp_model_script.specs.LineRuns.{event_told, placed_event}
use Rattle.grasp_model_kept.specs.Runs.{IsKeptFit, KeptMayStop}
use Rattle.grasp_model_kept.specs.World.{KeptState}
use Rattle.grasp_model_kept.specs.declared.event.KeptEvent.TheVariants as kept
use Rattle.grasp_model_kept.specs.declared.report.KeptReport.{KeptReport}
use Rattle.grasp_model_kept.specs.declared.report.KeptReport.TheVariants as report
use Rattle.grasp_kept.specs.Contract.{KeptReported, MeetsKeptEvent}
use Rattle.grasp_kept.specs.Stands.{IsKeptAsked, KeptWorldStands, KeptWorldStepped, network_in}
use Rattle.grasp_kept.specs.declared.kept_world.KeptWorld.{KeptWorld}
use Rattle.grasp_runner.specs.Lines.{CanRun, MeetsLine, RunsLook, TellsEvent}
use Rattle.grasp_runner.proofs.Placing.{IsPlaced, fit_here, has_node}
use Rattle.grasp_simulator.specs.WorldStands.{HasNode}
use Rattle.grasp_simulator.specs.declared.world.World.{World}
use Rattle.grasp_runner_kept.specs.Lines.{CanRunKept, IsCrashReport, IsPlainReport, KeptLineFails, MeetsKeptLine, RunsCrash, RunsKeptLine, RunsKeptLook, RunsPlain, StepFails, TellsCrash, event_line, kept_at}

-- ---- the network itself

-- it goes on for the line
pub meets_plain : (code : KeptWorld) (s : Setting) (k : KeptState) (x : Line) → MeetsKeptLine code s k (line.Plain x) → MeetsLine (network_in code) s k.world x.act
meets_plain code s k x h = record { stands = h.stands.stands.0.world; fit = h.fit }

pub can_plain : (code : KeptWorld) (x : Line) → CanRunKept code (line.Plain x) → CanRun (network_in code) x.act
can_plain code x can = record { setting = can.setting; network = can.state.world; meets = meets_plain code can.setting can.state x can.meets }

-- ---- what isn't reported

step_fails : (new : KeptWorld) (s : Setting) (k : KeptState) (x : KeptLine) (why : WorldStop) → StepFails new s k x why → KeptLineFails new s k x why
step_fails new s k x stop.TooMuch h = h
step_fails new s k x stop.OutOfMemory (inl before) = inl before
step_fails new s k x stop.OutOfMemory (inr halted) = inr (inl halted)

-- ---- reports

same_plain : (x y : Report) → report.Plain x ≡ report.Plain y → x ≡ y
same_plain x y f = search rules

same_image : (x y : PoolImage) → report.Restarted x ≡ report.Restarted y → x ≡ y
same_image x y f = search rules

-- ---- events

module _ (code : KeptWorld) (text : List ℕ) (e placed : Event) (is : IsPlaced (network_in code) e placed) where
  placed_is : (s : Setting) (k : KeptState) → MeetsKeptLine code s k (event_line text e) → placed ≡ placed_event k.world e
  placed_is s k h = is s k.world (meets_plain code s k (record { text = text; act = act.Event e }) h)

  meets_placed : (s : Setting) (k : KeptState) → MeetsKeptLine code s k (event_line text e) → MeetsKeptEvent (KeptWorldStands code) (kept_at s k) (kept.Plain placed)
  meets_placed s k h = record {
    stands = h.stands;
    fit = subst (λ (x : Event). IsKeptFit s k (kept.Plain x)) (sym (placed_is s k h))
        (fit_here (network_in code) s k.world e (meets_plain code s k (record { text = text; act = act.Event e }) h));
  }

  pub asked_placed : CanRunKept code (event_line text e) → IsKeptAsked code (kept.Plain placed)
  asked_placed can = record { network = kept_at can.setting can.state; meets = meets_placed can.setting can.state can.meets }

  module _ (new : KeptWorld) where
    plain_at : (told : KeptReport) → KeptWorldStepped code new (kept.Plain placed) (Ok told) → (s : Setting) (k : KeptState) → MeetsKeptLine code s k (event_line text e)
        → KeptReported (KeptWorldStands new) s k (kept.Plain (placed_event k.world e)) told
    plain_at told stepped s k h = subst (λ (x : Event). KeptReported (KeptWorldStands new) s k (kept.Plain x) told) (placed_is s k h) (stepped (kept_at s k) (meets_placed s k h))

    pub plain_told : (told : KeptReport) → KeptWorldStepped code new (kept.Plain placed) (Ok told) → CanRunKept code (event_line text e) → IsPlainReport told
    plain_told told stepped can = subst (λ (x : KeptReport). IsPlainReport x) (sym (plain_at told stepped can.setting can.state can.meets).report_is) tt

    pub plain_runs : (told : KeptReport) → KeptWorldStepped code new (kept.Plain placed) (Ok told) → (plain : Report) → told ≡ report.Plain plain → RunsPlain code new text e (Ok plain)
    plain_runs told stepped plain is s k h =
        let a : KeptReported (KeptWorldStands new) s k (kept.Plain (placed_event k.world e)) told = plain_at told stepped s k h in
        record { choice = a.choice; occurs = a.occurs; report_is = same_plain plain _ (sym is ∙ a.report_is); stands = a.stands }

    pub plain_stops : (why : WorldStop) → KeptWorldStepped code new (kept.Plain placed) (Err why) → RunsPlain code new text e (Err why)
    plain_stops stop.TooMuch stepped s k h =
        let a = stepped (kept_at s k) (meets_placed s k h) in
        record { overflows = subst (λ (x : Event). KeptMayStop s k (kept.Plain x) stop.TooMuch) (placed_is s k h) a.may_stop; stands = a.stands }
    plain_stops stop.OutOfMemory stepped s k h = inr (stepped (kept_at s k) (meets_placed s k h)).stands

-- memory may be wanted at any time
pub plain_starves : (code : KeptWorld) (text : List ℕ) (e : Event) → RunsPlain code code text e (Err stop.OutOfMemory)
plain_starves code text e s k h = inl h.stands

-- ---- crashes

module _ (code new : KeptWorld) (text : List ℕ) (node calls : ℕ) (left : Left) where
  meets_crash : (s : Setting) (k : KeptState) → MeetsKeptLine code s k (line.Crash text node calls left) → MeetsKeptEvent (KeptWorldStands code) (kept_at s k) (kept.Crash node calls left)
  meets_crash s k h = record { stands = h.stands; fit = h.fit }

  pub asked_crash : CanRunKept code (line.Crash text node calls left) → IsKeptAsked code (kept.Crash node calls left)
  asked_crash can = record { network = kept_at can.setting can.state; meets = meets_crash can.setting can.state can.meets }

  crash_at : (told : KeptReport) → KeptWorldStepped code new (kept.Crash node calls left) (Ok told) → (s : Setting) (k : KeptState) → MeetsKeptLine code s k (line.Crash text node calls left)
      → KeptReported (KeptWorldStands new) s k (kept.Crash node calls left) told
  crash_at told stepped s k h = stepped (kept_at s k) (meets_crash s k h)

  pub crash_told : (told : KeptReport) → KeptWorldStepped code new (kept.Crash node calls left) (Ok told) → CanRunKept code (line.Crash text node calls left) → IsCrashReport told
  crash_told told stepped can = subst (λ (x : KeptReport). IsCrashReport x) (sym (crash_at told stepped can.setting can.state can.meets).report_is) tt

  pub crash_runs : (told : KeptReport) → KeptWorldStepped code new (kept.Crash node calls left) (Ok told) → (image : PoolImage) → told ≡ report.Restarted image → RunsCrash code new text node calls left (Ok image)
  crash_runs told stepped image is s k h =
      let a : KeptReported (KeptWorldStands new) s k (kept.Crash node calls left) told = crash_at told stepped s k h in
      record { choice = a.choice; occurs = a.occurs; image_is = same_image image _ (sym is ∙ a.report_is); stands = a.stands }

  pub crash_stops : (why : WorldStop) → KeptWorldStepped code new (kept.Crash node calls left) (Err why) → RunsCrash code new text node calls left (Err why)
  crash_stops stop.TooMuch stepped s k h =
      let a = stepped (kept_at s k) (meets_crash s k h) in
      record { overflows = a.may_stop; stands = a.stands }
  crash_stops stop.OutOfMemory stepped s k h = inr (stepped (kept_at s k) (meets_crash s k h)).stands

  -- the report of a crash
  crash_line : (image : PoolImage) (r : Result (List ℕ) WorldStop) → RunsCrash code new text node calls left (Ok image) → TellsCrash text image r → RunsKeptLine code new (line.Crash text node calls left) r
  crash_line image (Ok told) runs tells s k h = let a = runs s k h in record { choice = a.choice; comes = a.occurs; told_is = tells ∙ ap (told_restart text) a.image_is; stands = a.stands }
  crash_line image (Err why) runs tells s k h =
      let a = runs s k h in
      subst (λ (y : WorldStop). KeptLineFails new s k (line.Crash text node calls left) y) (sym tells) (inr (inr (record { choice = a.choice; comes = a.occurs; stands = a.stands })))

  pub crash_tells : (x : KeptLine) → x ≡ line.Crash text node calls left → (image : PoolImage) (r : Result (List ℕ) WorldStop) → RunsCrash code new text node calls left (Ok image) → TellsCrash text image r
      → RunsKeptLine code new x r
  crash_tells x is image r runs tells = subst (λ (y : KeptLine). RunsKeptLine code new y r) (sym is) (crash_line image r runs tells)

  crash_halted : (why : WorldStop) → RunsCrash code new text node calls left (Err why) → RunsKeptLine code new (line.Crash text node calls left) (Err why)
  crash_halted why runs s k h = step_fails new s k (line.Crash text node calls left) why (runs s k h)

  pub crash_halts : (x : KeptLine) → x ≡ line.Crash text node calls left → (why : WorldStop) → RunsCrash code new text node calls left (Err why) → RunsKeptLine code new x (Err why)
  crash_halts x is why runs = subst (λ (y : KeptLine). RunsKeptLine code new y (Err why)) (sym is) (crash_halted why runs)

-- ---- plain lines

module _ (code new : KeptWorld) (x : Line) where
  module _ (e : Event) (is : x.act ≡ act.Event e) where
    same_line : line.Plain x ≡ event_line x.text e
    same_line = ap (λ (a : LineAct). line.Plain (record { text = x.text; act = a })) is

    pub can_event : CanRunKept code (line.Plain x) → CanRunKept code (event_line x.text e)
    can_event can = subst (λ (y : KeptLine). CanRunKept code y) same_line can

    event_line_told : (told : Report) (r : Result (List ℕ) WorldStop) → RunsPlain code new x.text e (Ok told) → TellsEvent x.text told r → RunsKeptLine code new (event_line x.text e) r
    event_line_told told (Ok text) runs tells s k h = let a = runs s k h in record { choice = a.choice; comes = a.occurs; told_is = tells ∙ ap (event_told x.text) a.report_is; stands = a.stands }
    event_line_told told (Err why) runs tells s k h =
        let a = runs s k h in
        subst (λ (y : WorldStop). KeptLineFails new s k (event_line x.text e) y) (sym tells) (inr (inr (record { choice = a.choice; comes = a.occurs; stands = a.stands })))

    pub event_tells : (told : Report) (r : Result (List ℕ) WorldStop) → RunsPlain code new x.text e (Ok told) → TellsEvent x.text told r → RunsKeptLine code new (line.Plain x) r
    event_tells told r runs tells = subst (λ (y : KeptLine). RunsKeptLine code new y r) (sym same_line) (event_line_told told r runs tells)

    event_line_stopped : (why : WorldStop) → RunsPlain code new x.text e (Err why) → RunsKeptLine code new (event_line x.text e) (Err why)
    event_line_stopped why runs s k h = step_fails new s k (event_line x.text e) why (runs s k h)

    pub event_stops : (why : WorldStop) → RunsPlain code new x.text e (Err why) → RunsKeptLine code new (line.Plain x) (Err why)
    event_stops why runs = subst (λ (y : KeptLine). RunsKeptLine code new y (Err why)) (sym same_line) (event_line_stopped why runs)

  -- ---- looks

  module _ (node : ℕ) (is : x.act ≡ act.State node) where
    abbrev look_line : KeptLine
    look_line = line.Plain (record { text = x.text; act = act.State node })

    same_look : line.Plain x ≡ line.Plain (record { text = x.text; act = act.State node })
    same_look = ap (λ (a : LineAct). line.Plain (record { text = x.text; act = a })) is

    pub can_look : CanRunKept code (line.Plain x) → CanRunKept code (line.Plain (record { text = x.text; act = act.State node }))
    can_look can = subst (λ (y : KeptLine). CanRunKept code y) same_look can

    look_told : (r : Result (List ℕ) WorldStop) → RunsKeptLook code x.text node r → RunsKeptLine code code look_line r
    look_told (Ok told) runs s k h = record { choice = no_choice; comes = tt; told_is = runs s k h; stands = h.stands }
    look_told (Err why) runs s k h = subst (λ (y : WorldStop). KeptLineFails code s k look_line y) (sym (runs s k h)) (inl h.stands)

    pub look_tells : (r : Result (List ℕ) WorldStop) → RunsKeptLook code x.text node r → RunsKeptLine code code (line.Plain x) r
    look_tells r runs = subst (λ (y : KeptLine). RunsKeptLine code code y r) (sym same_look) (look_told r runs)

-- a node is shown
module _ (code : KeptWorld) (text : List ℕ) (node : ℕ) where
  pub node_here : CanRunKept code (line.Plain (record { text = text; act = act.State node })) → HasNode (network_in code) node
  node_here can = has_node (network_in code) can.setting can.state.world node can.meets.stands.stands.0.world can.meets.fit

  pub kept_looks : (r : Result (List ℕ) WorldStop) → RunsLook (network_in code) text node r → RunsKeptLook code text node r
  kept_looks r runs s k h = runs s k.world (meets_plain code s k (record { text = text; act = act.State node }) h)

  -- whatever world is lent
  pub lent_looks : (world : World) → world ≡ network_in code → (r : Result (List ℕ) WorldStop) → RunsLook world text node r → RunsKeptLook code text node r
  lent_looks world is r runs = kept_looks r (subst (λ (w : World). RunsLook w text node r) is runs)

  pub lent_node : (world : World) → world ≡ network_in code → CanRunKept code (line.Plain (record { text = text; act = act.State node })) → HasNode world node
  lent_node world is can = subst (λ (w : World). HasNode w node) (sym is) (node_here can)

  pub look_starves : RunsKeptLook code text node (Err stop.OutOfMemory)
  look_starves s k h = refl

-- an event may be placed in the network that is lent
pub lent_can : (code : KeptWorld) (world : World) (text : List ℕ) (e : Event) → world ≡ network_in code → CanRunKept code (event_line text e) → CanRun world (act.Event e)
lent_can code world text e is can = subst (λ (w : World). CanRun w (act.Event e)) (sym is) (can_plain code (record { text = text; act = act.Event e }) can)

pub lent_placed : (code : KeptWorld) (world : World) (e placed : Event) → world ≡ network_in code → IsPlaced world e placed → IsPlaced (network_in code) e placed
lent_placed code world e placed is places = subst (λ (w : World). IsPlaced w e placed) is places
