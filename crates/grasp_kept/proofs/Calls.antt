-- A call of an agent between calls of its disk, and a want or a return before them.
use Rattle.std.proofs.Common.{◌≡◌, sym, subst, ℕ, Bool, List, Some, Ok, Err}
use Rattle.grasp_disk.specs.Calls.{DiskCall}
use Rattle.grasp_disk.specs.Memory.{written_by}
use Rattle.grasp_agent.specs.States.{AgentState}
use Rattle.grasp_laws_network.proofs.Going.{reached_more}
use Rattle.grasp_model_network.specs.Events.{IsFit, after_event}
use Rattle.grasp_model_network.specs.Setting.{Setting}
use Rattle.grasp_model_network.specs.World.{Seat, WorldState}
use Rattle.grasp_model_network.specs.declared.event.Event.{Event}
use Rattle.grasp_model_network.specs.declared.event.Event.TheVariants as event
use Rattle.grasp_model_network.specs.declared.report.Report.{Report}
use Rattle.grasp_model_network.specs.declared.report.WorldStop.{WorldStop}
use Rattle.grasp_model_network.specs.declared.report.WorldStop.TheVariants as stop
use Rattle.grasp_model_kept.specs.Disks.{asked_behind, asked_here, asked_then, present_seat, roots_of}
use Rattle.grasp_model_kept.specs.World.{KeptState, disk_of}
use Rattle.grasp_laws_kept.proofs.Steps.{member_there}
use Rattle.grasp_simulator.specs.Contract.{MeetsEvent, Reported}
use Rattle.grasp_simulator.specs.WorldStands.{HasNode, LendsAgent, WorldStands}
use Rattle.grasp_simulator.specs.WorldSteps.{IsAsked, Stepped}
use Rattle.grasp_simulator.specs.declared.world.World.{World}
use Rattle.grasp_simulator.proofs.Starving.{agent_starves}
use Rattle.grasp_kept.specs.Asking.{AskedBefore, AskedBehind, NeverStops}
use Rattle.grasp_kept.specs.Keepers.{DiskKeeper, KeepsDisk}
use Rattle.grasp_kept.specs.Nodes.{CallMade, HasKeeper, MakesCall, NodeGoes, Tells, TellingDone, network_at}
use Rattle.grasp_kept.proofs.Going.{before_is, behind_is, few, few_then, has_node}
use Rattle.grasp_kept.proofs.Keepers.{written_twice}

-- an event that fits may be asked for, and what comes of it is reported so
pub meets : (world : World) (s : Setting) (w : WorldState) (e : Event) → WorldStands world (network_at s w) → IsFit s w e → MeetsEvent (WorldStands world) (network_at s w) e
meets world s w e stands fit = record { stands = stands; fit = fit }

pub is_asked : (world : World) (s : Setting) (w : WorldState) (e : Event) → WorldStands world (network_at s w) → IsFit s w e → IsAsked world e
is_asked world s w e stands fit = record { network = network_at s w; meets = meets world s w e stands fit }

module _ (before after : World) (old : DiskKeeper) (s : Setting) (k : KeptState) (node most : ℕ) (g : NodeGoes before old s k node most) where
  pub never_stops : NeverStops old
  never_stops = record { roots = roots_of s node; bytes = disk_of k.disks node; keeps = g.keeps; few = few s k node most g.kept g.below g.member }

  -- the member is there afterwards
  module _ (e : Event) (report : Report) (a : Reported (WorldStands after) s k.world e report) where
    abbrev x : WorldState
    x = after_event s k.world e a.choice

    pub seat_then : (seat : Seat) × (present_seat (after_event s k.world e a.choice) node ≡ Some seat)
    seat_then = member_there s x (reached_more s k.world e a.choice g.kept.reached a.occurs) node g.member

    pub node_then : HasNode after node
    node_then = has_node after s x node a.stands g.member

    -- what the disk is asked behind the event
    pub behind_then : (agent : AgentState) → LendsAgent after node agent → (bytes : List ℕ) (mid new : DiskKeeper) → KeepsDisk (roots_of s node) mid bytes → AskedBehind mid new agent
        → KeepsDisk (roots_of s node) new (written_by bytes (asked_behind (roots_of s node) bytes (present_seat (after_event s k.world e a.choice) node)))
    behind_then agent lends bytes mid new keeps asks =
        subst (λ (l : List DiskCall). KeepsDisk (roots_of s node) new (written_by bytes l)) (behind_is after s x node a.stands g.member seat_then.0 seat_then.1 agent lends (roots_of s node) bytes)
        (asks (roots_of s node) bytes keeps)

  -- ---- a call

  module _ (agent : AgentState) (lends : LendsAgent before node agent) (mid : DiskKeeper) (asks : AskedBefore old mid agent) where
    pub mid_keeps : KeepsDisk (roots_of s node) mid (written_by (disk_of k.disks node) (asked_here k node))
    mid_keeps =
        subst (λ (l : List DiskCall). KeepsDisk (roots_of s node) mid (written_by (disk_of k.disks node) l)) (before_is s k node most g.kept g.below g.member before g.stands agent lends)
        (asks (roots_of s node) (disk_of k.disks node) g.keeps)

    pub mid_never_stops : NeverStops mid
    mid_never_stops = record { roots = roots_of s node; bytes = written_by (disk_of k.disks node) (asked_here k node); keeps = mid_keeps; few = few_then s k node most g.kept g.below g.member }

    pub call_made : (hold : Bool) (report : Report) (a : Reported (WorldStands after) s k.world (event.Agent node hold) report) (then : AgentState) → LendsAgent after node then → (new : DiskKeeper)
        → AskedBehind mid new then → CallMade after new s k node hold report
    call_made hold report a then lends_then new asks_then = record {
      choice = a.choice;
      occurs = a.occurs;
      report_is = a.report_is;
      stands = a.stands;
      keeps = subst (λ (b : List ℕ). KeepsDisk (roots_of s node) new b)
          (sym (written_twice (disk_of k.disks node) (asked_then s k node (after_event s k.world (event.Agent node hold) a.choice)) (asked_here k node)))
          (behind_then (event.Agent node hold) report a then lends_then (written_by (disk_of k.disks node) (asked_here k node)) mid new mid_keeps asks_then);
    }

  -- ---- a want or a return

  pub telling_done : (e : Event) (report : Report) (a : Reported (WorldStands after) s k.world e report) (then : AgentState) → LendsAgent after node then → (new : DiskKeeper) → AskedBehind old new then
      → TellingDone after new s k node e report
  telling_done e report a then lends_then new asks_then = record {
    choice = a.choice;
    occurs = a.occurs;
    report_is = a.report_is;
    stands = a.stands;
    keeps = behind_then e report a then lends_then (disk_of k.disks node) old new g.keeps asks_then;
  }

-- ---- what is asked for

module _ (before : World) (old : DiskKeeper) (node : ℕ) (has : HasKeeper before old node) where
  pub keeper_goes : NeverStops old
  keeper_goes = never_stops before before old has.setting has.state node has.most has.goes

  pub node_here : HasNode before node
  node_here = has_node before has.setting has.state.world node has.goes.stands has.goes.member

  pub call_asked : (hold : Bool) → IsAsked before (event.Agent node hold)
  call_asked hold = is_asked before has.setting has.state.world (event.Agent node hold) has.goes.stands has.goes.member

  pub mid_goes : (agent : AgentState) → LendsAgent before node agent → (mid : DiskKeeper) → AskedBefore old mid agent → NeverStops mid
  mid_goes agent lends mid asks = mid_never_stops before before old has.setting has.state node has.most has.goes agent lends mid asks

  pub node_behind : (after : World) (e : Event) (report : Report) → IsFit has.setting has.state.world e → Stepped before after e (Ok report) → HasNode after node
  node_behind after e report fit steps =
      node_then before after old has.setting has.state node has.most has.goes e report
      (steps (network_at has.setting has.state.world) (meets before has.setting has.state.world e has.goes.stands fit))

-- ---- the whole

module _ (before after : World) (old mid new : DiskKeeper) (node : ℕ) (hold : Bool) where
  pub makes_call : (agent : AgentState) → LendsAgent before node agent → AskedBefore old mid agent → (report : Report) → Stepped before after (event.Agent node hold) (Ok report)
      → (then : AgentState) → LendsAgent after node then → AskedBehind mid new then → MakesCall before after old new node hold (Ok report)
  makes_call agent lends asks report steps then lends_then asks_then s k most g =
      call_made before after old s k node most g agent lends mid asks hold report (steps (network_at s k.world) (meets before s k.world (event.Agent node hold) g.stands g.member)) then lends_then new asks_then

  pub call_stops : (why : WorldStop) → Stepped before after (event.Agent node hold) (Err why) → MakesCall before after old new node hold (Err why)
  call_stops why steps s k most g = (steps (network_at s k.world) (meets before s k.world (event.Agent node hold) g.stands g.member)).may_stop

  -- the call that is next takes memory
  pub next_stops : MakesCall before after old new node hold (Err stop.OutOfMemory)
  next_stops s k most g = agent_starves before node hold s k.world (record { goes = g.stands.stands.goes; fit = g.member })

module _ (before after : World) (old new : DiskKeeper) (node : ℕ) (e : Event) where
  pub tells : (report : Report) → Stepped before after e (Ok report) → (then : AgentState) → LendsAgent after node then → AskedBehind old new then → Tells before after old new node e (Ok report)
  tells report steps then lends_then asks_then s k most g fit =
      telling_done before after old s k node most g e report (steps (network_at s k.world) (meets before s k.world e g.stands fit)) then lends_then new asks_then

  pub telling_stops : (why : WorldStop) → Stepped before after e (Err why) → Tells before after old new node e (Err why)
  telling_stops why steps s k most g fit = (steps (network_at s k.world) (meets before s k.world e g.stands fit)).may_stop
