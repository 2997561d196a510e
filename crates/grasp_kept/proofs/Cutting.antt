-- A call of an agent on a disk that stops.
use Rattle.std.proofs.Common.{◌≡◌, inl, inr, refl, sym, ◌∙◌, ap, subst, arith, ℕ, ◌+◌, ◌-◌, ◌<◌, ◌≤◌, Bool, true, false, List, [], ◌++◌, length, drop, Some, Ok, Err, Result, append-nil}
use Rattle.grasp_pool.proofs.Lists.{lt_tells}
use Rattle.grasp_disk.specs.Calls.{DiskCall, DiskLog, after_calls, after_made}
use Rattle.grasp_disk.specs.Memory.{AllSucceed, MemStands, all_kept, left_by, log_from, stopping_after, written_by}
use Rattle.grasp_disk.specs.declared.left.Left.{Left}
use Rattle.grasp_agent.specs.States.{AgentState}
use Rattle.grasp_pool.specs.declared.roots.RootPrefix.{RootPrefix}
use Rattle.grasp_store.specs.Current.{image_on}
use Rattle.grasp_store.specs.Images.{image_behind}
use Rattle.grasp_store.specs.Keeping.{Keeps, kept_before}
use Rattle.grasp_store.specs.Saving.{FailsIn, IsCutShort, IsOldOrNew, behind_calls, before_calls, first_calls}
use Rattle.grasp_laws_network.proofs.Going.{reached_more}
use Rattle.grasp_laws_store.proofs.Stopping.{stops_cut_short, stops_no_earlier}
use Rattle.grasp_model_network.specs.Events.{after_event}
use Rattle.grasp_model_network.specs.Setting.{Setting}
use Rattle.grasp_model_network.specs.Visits.{Choice, no_choice}
use Rattle.grasp_model_network.specs.World.{Seat, WorldState}
use Rattle.grasp_model_network.specs.declared.event.Event.TheVariants as event
use Rattle.grasp_model_network.specs.declared.report.Report.{Report}
use Rattle.grasp_model_network.specs.declared.report.WorldStop.{WorldStop}
use Rattle.grasp_model_network.specs.declared.report.WorldStop.TheVariants as stop
use Rattle.grasp_model_kept.specs.Crashing.{CallOccurs, CallOverflows, is_cut, made_cut, world_cut}
use Rattle.grasp_model_kept.specs.Disks.{asked_behind, asked_here, asked_then, present_seat, roots_of}
use Rattle.grasp_model_kept.specs.World.{KeptState, disk_of}
use Rattle.grasp_laws_kept.proofs.Putting.{behind_puts}
use Rattle.grasp_laws_kept.proofs.Steps.{good_then, member_there}
use Rattle.grasp_simulator.specs.Contract.{Reported}
use Rattle.grasp_simulator.specs.WorldStands.{HasNode, LendsAgent, WorldStands}
use Rattle.grasp_simulator.specs.WorldSteps.{IsAsked, Stepped}
use Rattle.grasp_simulator.specs.declared.world.World.{World}
use Rattle.grasp_kept.specs.Asking.{FailsBefore, FailsBehind, IsGoing, SavesBefore, SavesBehind}
use Rattle.grasp_kept.specs.Crashes.{CallBegun, CallCut, CallEnded, CallsUntil, CutAnswers, EndAnswers, EndsCall, HasBegunCall, begun_log, stopping_log}
use Rattle.grasp_kept.specs.Keepers.{DiskKeeper, DiskLeaves}
use Rattle.grasp_kept.specs.Nodes.{HasKeeper, NodeGoes, network_at}
use Rattle.grasp_kept.proofs.Calls.{is_asked, meets}
use Rattle.grasp_kept.proofs.Going.{before_is, behind_is, few, few_then, has_node, puts_here}

-- ---- whether the disk stops before the call

module _ (k : KeptState) (node calls : ℕ) where
  stops_before : calls < length (asked_here k node) → is_cut k node calls ≡ true
  stops_before lt = elim (lt_tells calls (length (asked_here k node))) [
    | inl h ↦ h.0
    | inr h ↦ absurd (omega (arith, lt, h.1))
  ]

  pub stops_later : length (asked_here k node) ≤ calls → is_cut k node calls ≡ false
  stops_later le = elim (lt_tells calls (length (asked_here k node))) [
    | inl h ↦ absurd (omega (arith, le, h.1))
    | inr h ↦ h.0
  ]

-- the call is cut so, where the disk stops before it or doesn't
cut_by : (world : World) (keeper : DiskKeeper) (s : Setting) (k : KeptState) (node calls : ℕ) (b : Bool) → is_cut k node calls ≡ b → (choice : Choice) → CallOccurs s k.world node choice b
    → WorldStands world (network_at s (world_cut s k.world node choice b)) → ((left : Left) → DiskLeaves keeper.disk left (left_by left (disk_of k.disks node) (made_cut s k node calls choice b)))
    → CallCut world keeper s k node calls
cut_by world keeper s k node calls b is choice comes stands leaves = record {
  choice = choice;
  comes = subst (λ (t : Bool). CallOccurs s k.world node choice t) (sym is) comes;
  stands = subst (λ (t : Bool). WorldStands world (network_at s (world_cut s k.world node choice t))) (sym is) stands;
  leaves = λ left. subst (λ (t : Bool). DiskLeaves keeper.disk left (left_by left (disk_of k.disks node) (made_cut s k node calls choice t))) (sym is) (leaves left);
}

-- what a disk that is told to stop keeps
abbrev pub Stops : DiskKeeper → DiskKeeper → ℕ → Type 0
Stops old new calls = (roots : List RootPrefix) (log : DiskLog) → Keeps MemStands roots old log → AllSucceed log.calls → Keeps MemStands roots new (stopping_after log calls)

-- ---- before the call

module _ (world : World) (old stopping : DiskKeeper) (s : Setting) (k : KeptState) (node most calls : ℕ) (g : NodeGoes world old s k node most) (stops : Stops old stopping calls) where
  abbrev roots : List RootPrefix
  roots = roots_of s node

  abbrev bytes : List ℕ
  bytes = disk_of k.disks node

  abbrev log : DiskLog
  log = stopping_log (disk_of k.disks node) calls []

  no_more : 0 + calls ≡ calls
  no_more = omega arith

  stopping_keeps : Keeps MemStands roots stopping log
  stopping_keeps = subst (λ (n : ℕ). Keeps MemStands roots stopping (stopping_log bytes n [])) no_more (stops roots (log_from bytes) g.keeps tt)

  pub stopping_goes : IsGoing stopping
  stopping_goes = record { roots = roots; log = log; keeps = stopping_keeps; few = few s k node most g.kept g.below g.member }

  succeed : AllSucceed (asked_here k node)
  succeed = (puts_here s k node most g.kept g.below g.member).succeed

  module _ (agent : AgentState) (lends : LendsAgent world node agent) (new : DiskKeeper) where
    asked : before_calls bytes agent ≡ asked_here k node
    asked = before_is s k node most g.kept g.below g.member world g.stands agent lends

    -- it has stopped
    pub call_cut : FailsBefore stopping new agent → CallCut world new s k node calls
    call_cut fails = cut_by world new s k node calls true (stops_before k node calls (law Left.Old).0) no_choice tt g.stands leaves where
      f : FailsIn (MemStands new.disk) log (before_calls bytes agent) (IsOldOrNew bytes (kept_before (image_on roots bytes) agent))
      f = fails roots log stopping_keeps

      law : (left : Left) → (calls < length (asked_here k node)) × (left_by left bytes (f.made ++ []) ≡ left_by left bytes (first_calls calls (asked_here k node) ++ []))
      law left =
          stops_cut_short new.disk log calls (asked_here k node) f.made left (ap Some (sym no_more)) succeed (subst (λ (l : List DiskCall). IsCutShort l f.made) asked f.short) f.makes.stands

      leaves : (left : Left) → DiskLeaves new.disk left (left_by left bytes (first_calls calls (asked_here k node)))
      leaves left = record {
        log = after_made log f.made;
        stands = f.makes.stands;
        same = (law left).1 ∙ ap (λ (l : List DiskCall). left_by left bytes l) (append-nil (first_calls calls (asked_here k node)));
      }

    -- it hasn't
    pub call_begun : SavesBefore stopping new agent → CallBegun world new s k node calls most
    call_begun saves = record {
      stands = g.stands;
      kept = g.kept;
      below = g.below;
      member = g.member;
      keeps = keeps;
      enough = stops_no_earlier new.disk log calls (asked_here k node) (ap Some (sym no_more)) succeed
          (subst (λ (l : List DiskCall). MemStands new.disk (stopping_log bytes calls l)) (sym (append-nil (asked_here k node))) keeps.stands);
    }
      where
        keeps : Keeps MemStands (roots_of s node) new (begun_log k node calls)
        keeps =
            subst (λ (l : List DiskCall). Keeps MemStands roots new (stopping_log bytes calls l)) (append-nil (before_calls bytes agent) ∙ asked)
            (saves roots log stopping_keeps).keeps

-- ---- the call

module _ (before after : World) (old new : DiskKeeper) (s : Setting) (k : KeptState) (node most calls : ℕ) (b : CallBegun before old s k node calls most) where
  abbrev roots_there : List RootPrefix
  roots_there = roots_of s node

  abbrev written : List ℕ
  written = written_by (disk_of k.disks node) (asked_here k node)

  pub begun_goes : IsGoing old
  begun_goes = record { roots = roots_there; log = begun_log k node calls; keeps = b.keeps; few = few_then s k node most b.kept b.below b.member }

  module _ (report : Report) (a : Reported (WorldStands after) s k.world (event.Agent node false) report) where
    abbrev x : WorldState
    x = after_event s k.world (event.Agent node false) a.choice

    seat_x : (seat : Seat) × (present_seat (after_event s k.world (event.Agent node false) a.choice) node ≡ Some seat)
    seat_x = member_there s x (reached_more s k.world (event.Agent node false) a.choice b.kept.reached a.occurs) node b.member

    pub node_x : HasNode after node
    node_x = has_node after s x node a.stands b.member

    abbrev rest : ℕ
    rest = calls - length (asked_here k node)

    stops_so : Some calls ≡ Some (length (asked_here k node) + rest)
    stops_so = let e : calls ≡ length (asked_here k node) + (calls - length (asked_here k node)) = omega (arith, b.enough) in ap Some e

    succeed_then : AllSucceed (asked_then s k node x)
    succeed_then =
        let puts = puts_here s k node most b.kept b.below b.member in
        let good = good_then s k most b.kept b.below (event.Agent node false) a.choice a.occurs node seat_x.0 seat_x.1 in
        subst (λ (l : List DiskCall). AllSucceed l) (ap (λ o. asked_behind roots_there written o) (sym seat_x.1))
        (behind_puts roots_there (after_calls (asked_here k node) (all_kept (disk_of k.disks node))) puts.settled _ puts.holds (most + 1) puts.number (omega (arith, b.below)) seat_x.0.agent good).succeed

    module _ (then : AgentState) (lends : LendsAgent after node then) where
      behind : behind_calls roots_there written then ≡ asked_then s k node x
      behind = behind_is after s x node a.stands b.member seat_x.0 seat_x.1 then lends roots_there written

      -- the disk makes all its calls behind it
      all_left : SavesBehind old new then → (left : Left) → DiskLeaves new.disk left (left_by left (disk_of k.disks node) (first_calls rest (asked_then s k node x) ++ asked_here k node))
      all_left saves left = record {
        log = after_made (begun_log k node calls) (asked_then s k node x);
        stands = stands;
        same = ap (λ (l : List DiskCall). left_by left (disk_of k.disks node) (l ++ asked_here k node)) (sym all_of_them);
      }
        where
          stands : MemStands new.disk (after_made (begun_log k node calls) (asked_then s k node x))
          stands = subst (λ (l : List DiskCall). MemStands new.disk (after_made (begun_log k node calls) l)) behind (saves roots_there (begun_log k node calls) b.keeps).keeps.stands

          enough : length (asked_then s k node x) ≤ rest
          enough = stops_no_earlier new.disk (begun_log k node calls) rest (asked_then s k node x) stops_so succeed_then stands

          none_left : length (asked_then s k node x) - rest ≡ 0
          none_left = omega (arith, enough)

          all_of_them : first_calls rest (asked_then s k node x) ≡ asked_then s k node x
          all_of_them = ap (λ (n : ℕ). drop n (asked_then s k node x)) none_left

      -- it stops among them
      some_left : FailsBehind old new then → (left : Left) → DiskLeaves new.disk left (left_by left (disk_of k.disks node) (first_calls rest (asked_then s k node x) ++ asked_here k node))
      some_left fails left = record {
        log = after_made (begun_log k node calls) f.made;
        stands = f.makes.stands;
        same = (stops_cut_short new.disk (begun_log k node calls) rest (asked_then s k node x) f.made left stops_so succeed_then (subst (λ (l : List DiskCall). IsCutShort l f.made) behind f.short) f.makes.stands).1;
      }
        where
          f : FailsIn (MemStands new.disk) (begun_log k node calls) (behind_calls roots_there written then) (IsOldOrNew written (image_behind then))
          f = fails roots_there (begun_log k node calls) b.keeps

      pub call_ended : (goes : Bool) → (goes ≡ true → SavesBehind old new then) → (goes ≡ false → FailsBehind old new then) → CallEnded after new s k node calls
      call_ended goes done stopped = record { choice = a.choice; occurs = a.occurs; stands = a.stands; leaves = by_end goes done stopped } where
        by_end : (t : Bool) → (t ≡ true → SavesBehind old new then) → (t ≡ false → FailsBehind old new then) → (left : Left)
            → DiskLeaves new.disk left (left_by left (disk_of k.disks node) (first_calls rest (asked_then s k node x) ++ asked_here k node))
        by_end true done stopped = all_left (done refl)
        by_end false done stopped = some_left (stopped refl)

-- ---- what is asked for

module _ (before : World) (old : DiskKeeper) (node calls : ℕ) (has : HasBegunCall before old node calls) where
  pub end_asked : IsAsked before (event.Agent node false)
  end_asked = is_asked before has.setting has.state.world (event.Agent node false) has.begun.stands has.begun.member

  pub end_node : (after : World) (report : Report) → Stepped before after (event.Agent node false) (Ok report) → HasNode after node
  end_node after report steps =
      node_x before after old old has.setting has.state node has.most calls has.begun report
      (steps (network_at has.setting has.state.world) (meets before has.setting has.state.world (event.Agent node false) has.begun.stands has.begun.member))

  pub end_goes : IsGoing old
  end_goes = begun_goes before before old old has.setting has.state node has.most calls has.begun

-- ---- the whole

module _ (before after : World) (old new : DiskKeeper) (node calls : ℕ) where
  pub ends_call : (report : Report) → Stepped before after (event.Agent node false) (Ok report) → (then : AgentState) → LendsAgent after node then → (goes : Bool) → (goes ≡ true → SavesBehind old new then)
      → (goes ≡ false → FailsBehind old new then) → EndsCall before after old new node calls (Ok tt)
  ends_call report steps then lends goes done stopped s k most b =
      call_ended before after old new s k node most calls b report (steps (network_at s k.world) (meets before s k.world (event.Agent node false) b.stands b.member)) then lends goes done stopped

  pub end_stops : (why : WorldStop) → Stepped before after (event.Agent node false) (Err why) → EndsCall before after old new node calls (Err why)
  end_stops stop.TooMuch steps s k most b = (steps (network_at s k.world) (meets before s k.world (event.Agent node false) b.stands b.member)).may_stop
  end_stops stop.OutOfMemory steps s k most b = tt

module _ (before after : World) (old stopping mid new : DiskKeeper) (node calls : ℕ) (stops : Stops old stopping calls) (agent : AgentState) (lends : LendsAgent before node agent) where
  pub cut_answers : FailsBefore stopping mid agent → CallsUntil before before old mid node calls (Ok tt)
  cut_answers fails s k most g = call_cut before old stopping s k node most calls g stops agent lends mid fails

  abbrev begun : SavesBefore stopping mid agent → (s : Setting) (k : KeptState) (most : ℕ) → NodeGoes before old s k node most → CallBegun before mid s k node calls most
  begun saves s k most g = call_begun before old stopping s k node most calls g stops agent lends mid saves

  pub has_begun : SavesBefore stopping mid agent → HasKeeper before old node → HasBegunCall before mid node calls
  has_begun saves has = record { setting = has.setting; state = has.state; most = has.most; begun = begun saves has.setting has.state has.most has.goes }

  pub end_answers : SavesBefore stopping mid agent → (result : Result (Unit {0}) WorldStop) → EndsCall before after mid new node calls result → CallsUntil before after old new node calls result
  end_answers saves result ends s k most g = by_answer result (ends s k most c) where
    c : CallBegun before mid s k node calls most
    c = begun saves s k most g

    later : is_cut k node calls ≡ false
    later = stops_later k node calls c.enough

    by_answer : (result : Result (Unit {0}) WorldStop) → EndAnswers after new s k node calls result → CutAnswers after new s k node calls result
    by_answer (Ok done) e = cut_by after new s k node calls false later e.choice e.occurs e.stands e.leaves
    by_answer (Err stop.TooMuch) e = subst (λ (t : Bool). CallOverflows s k.world node t) (sym later) e
    by_answer (Err stop.OutOfMemory) e = tt

pub stops_goes : (before : World) (old stopping : DiskKeeper) (node calls : ℕ) → Stops old stopping calls → HasKeeper before old node → IsGoing stopping
stops_goes before old stopping node calls stops has = stopping_goes before old stopping has.setting has.state node has.most calls has.goes stops

-- memory may be wanted at any time
pub until_starves : (before after : World) (old new : DiskKeeper) (node calls : ℕ) → CallsUntil before after old new node calls (Err stop.OutOfMemory)
until_starves before after old new node calls s k most g = tt
