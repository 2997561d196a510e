-- Networks whose nodes have doubters: what the code keeps of them through an event.
use Rattle.std.proofs.Common.{◌≡◌, refl, sym, ◌∙◌, ap, subst, arith, ℕ, ◌-◌, ◌<◌, ◌≤◌, List, length, slice_get, slice_index_or, slice_set, Bool, Option, Some, Ok, Err, Result, length-set}
use Rattle.grasp_doubter.specs.States.{DoubterState}
use Rattle.grasp_doubter.specs.declared.asking.AskFault.{AskFault}
use Rattle.grasp_types.specs.Prefix.{AddressBlock as Prefix}
use Rattle.grasp_laws_network.proofs.Appended.{get_numbered}
use Rattle.grasp_model_network.specs.Plans.{IsNode}
use Rattle.grasp_model_network.specs.Setting.{Setting, numbered}
use Rattle.grasp_model_network.specs.Visits.{Choice, no_choice}
use Rattle.grasp_model_network.specs.World.{WorldState}
use Rattle.grasp_model_network.specs.declared.event.Event.{Event}
use Rattle.grasp_model_network.specs.declared.event.Event.TheVariants as event
use Rattle.grasp_model_network.specs.declared.report.Report.{Report}
use Rattle.grasp_model_network.specs.declared.report.WorldStop.{WorldStop}
use Rattle.grasp_model_doubts.specs.Events.{CallMayStop, CallOccurs, DoubtOccurs, call_report, doubt_event}
use Rattle.grasp_model_doubts.specs.Steps.{after_asking, after_doubter, after_plain, doubter_called, doubters_after}
use Rattle.grasp_model_doubts.specs.World.{DoubtState, with_doubter}
use Rattle.grasp_model_doubts.specs.declared.event.DoubtEvent.{DoubtEvent}
use Rattle.grasp_model_doubts.specs.declared.event.DoubtEvent.TheVariants as doubt
use Rattle.grasp_model_doubts.specs.declared.report.DoubtReport.TheVariants as report
use Rattle.grasp_model_script_doubts.proofs.Safely.{led_further}
use Rattle.grasp_simulator.proofs.Presence.{at_index}
use Rattle.grasp_simulator.specs.Contract.{Reported}
use Rattle.grasp_simulator.specs.WorldStands.{WorldStands}
use Rattle.grasp_simulator.specs.WorldSteps.{IsAsked, Stepped}
use Rattle.grasp_simulator.specs.declared.world.World.{World}
use Rattle.grasp_doubts.specs.Nodes.{AskDone, Asks, CallSeen, DoubterCalled, HasDoubter, MakesCall, NodeGoes, SeesCall, network_at}
use Rattle.grasp_doubts.specs.Stands.{CanHappen, DoubtCanRun, DoubtFits, DoubtGoes, DoubtHasRun, DoubtRuns, Happens}
use Rattle.grasp_doubts.specs.declared.doubt_world.DoubtWorld.{DoubtWorld}
use Rattle.grasp_doubts.proofs.Lending.{is_asked, meets}

-- ---- a node of the code

module _ (code : DoubtWorld) (s : Setting) (x : DoubtState) (goes : DoubtGoes code s x) (node : ℕ) (member : IsNode (length s.members) node) where
  pub place : node - 1 < length code.doubters.items
  place = omega (arith, goes.count, member.least, member.most)

  pub node_goes : (d : DoubterState) → slice_get code.doubters.items (node - 1) ≡ Some d → NodeGoes code.world d s x node
  node_goes d got = record {
    stands = goes.world;
    doubted = goes.doubted;
    member = member;
    here = get_numbered x.doubters node (Some d) member.least (ap (λ (l : List DoubterState). slice_get l (node - 1)) (sym goes.doubters) ∙ got);
  }

-- ---- what is asked for

-- an event that names a node: the code keeps a network that has it
pub record HasMember (code : DoubtWorld) (node : ℕ) : Type 0 where
  pub setting : Setting
  pub state : DoubtState
  pub goes : DoubtGoes code setting state
  pub member : IsNode (length setting.members) node

pub agent_member : (code : DoubtWorld) (e : Event) (node : ℕ) (hold : Bool) → e ≡ event.Agent node hold → CanHappen code e → HasMember code node
agent_member code e node hold is can = from (subst (λ (f : Event). CanHappen code f) is can) where
  from : CanHappen code (event.Agent node hold) → HasMember code node
  from c = record { setting = c.setting; state = c.state; goes = c.fits.goes; member = c.fits.fit.0 }

pub doubter_member : (code : DoubtWorld) (e : DoubtEvent) (node : ℕ) → e ≡ doubt.Doubter node → DoubtCanRun code e → HasMember code node
doubter_member code e node is can = from (subst (λ (f : DoubtEvent). DoubtCanRun code f) is can) where
  from : DoubtCanRun code (doubt.Doubter node) → HasMember code node
  from c = record { setting = c.setting; state = c.state; goes = c.fits.goes; member = c.fits.fit }

pub ask_member : (code : DoubtWorld) (e : DoubtEvent) (node : ℕ) (prefix : Prefix) (peer : ℕ) → e ≡ doubt.Ask node prefix peer → DoubtCanRun code e → HasMember code node
ask_member code e node prefix peer is can = from (subst (λ (f : DoubtEvent). DoubtCanRun code f) is can) where
  from : DoubtCanRun code (doubt.Ask node prefix peer) → HasMember code node
  from c = record { setting = c.setting; state = c.state; goes = c.fits.goes; member = c.fits.fit.0 }

module _ (code : DoubtWorld) (node : ℕ) (has : HasMember code node) where
  pub least_node : 1 ≤ node
  least_node = has.member.least

  pub has_place : (i : ℕ) → i ≡ node - 1 → i < length code.doubters.items
  has_place i is = omega (arith, is, place code has.setting has.state has.goes node has.member)

  -- the doubter that stands there
  pub got : (i : ℕ) → i ≡ node - 1 → (d : DoubterState) → d ≡ slice_index_or code.doubters.items i d → slice_get code.doubters.items (node - 1) ≡ Some d
  got i is d read = subst (λ (n : ℕ). slice_get code.doubters.items n ≡ Some d) is (at_index code.doubters.items i d (has_place i is) read)

  pub has_doubter : (d : DoubterState) → slice_get code.doubters.items (node - 1) ≡ Some d → HasDoubter code.world d node
  has_doubter d found = record { setting = has.setting; state = has.state; goes = node_goes code has.setting has.state has.goes node has.member d found }

-- another event may be asked for
pub quiet_asked : (code : DoubtWorld) (e : Event) → CanHappen code e → IsAsked code.world e
quiet_asked code e can = is_asked code.world can.setting can.state.world e can.fits.goes.world can.fits.fit.0

-- ---- what the code keeps after an event

module _ (old new : DoubtWorld) (s : Setting) (x : DoubtState) (goes : DoubtGoes old s x) (e : DoubtEvent) (c : Choice) (o : DoubtOccurs s x e c) (stands : WorldStands new.world (network_at s (doubt_event s x e c).world)) where
  -- a member's doubter is put
  pub put_goes : (node : ℕ) (next : DoubterState) → (doubt_event s x e c).doubters ≡ with_doubter x.doubters node next → new.doubters.items ≡ slice_set old.doubters.items (node - 1) next
      → DoubtGoes new s (doubt_event s x e c)
  put_goes node next are put = record {
    doubted = led_further s x e c goes.doubted o;
    world = stands;
    count = ap (λ (l : List DoubterState). length l) put ∙ length-set old.doubters.items (node - 1) next ∙ goes.count;
    doubters = put ∙ ap (λ (l : List DoubterState). slice_set l (node - 1) next) goes.doubters ∙ sym are;
  }

  -- no doubter changes
  pub same_goes : (doubt_event s x e c).doubters ≡ x.doubters → new.doubters ≡ old.doubters → DoubtGoes new s (doubt_event s x e c)
  same_goes are same = record {
    doubted = led_further s x e c goes.doubted o;
    world = stands;
    count = subst (λ v. length v.items ≡ length s.members) (sym same) goes.count;
    doubters = subst (λ v. v.items ≡ x.doubters) (sym same) goes.doubters ∙ sym are;
  }

-- ---- an event that is neither a doubter's call nor a question

-- but at a call of an agent of prefixes, no doubter is told
pub quiet_doubters : (e : Event) → ((node : ℕ) (hold : Bool) → e ≡ event.Agent node hold → ⊥) → (x : DoubtState) (c : Choice) (w : WorldState) → doubters_after x e c w ≡ x.doubters
quiet_doubters (event.Agent node hold) none x c w = absurd (none node hold refl)
quiet_doubters _ none x c w = refl

module _ (old new : DoubtWorld) where
  pub quiet_happens : (e : Event) → ((x : DoubtState) (c : Choice) (w : WorldState) → doubters_after x e c w ≡ x.doubters) → new.doubters ≡ old.doubters → (result : Result Report WorldStop)
      → Stepped old.world new.world e result → Happens old new e result
  unfolding after_plain
  quiet_happens e quiet same (Ok told) steps s x f =
      let a : Reported (WorldStands new.world) s x.world e told = steps (network_at s x.world) (meets old.world s x.world e f.goes.world f.fit.0) in
      record {
        choice = a.choice;
        occurs = (a.occurs, f.fit.1);
        report_is = a.report_is;
        goes = same_goes old new s x f.goes (doubt.Plain e) a.choice (a.occurs, f.fit.1) a.stands (quiet x a.choice _) same;
      }
  quiet_happens e quiet same (Err why) steps s x f = (steps (network_at s x.world) (meets old.world s x.world e f.goes.world f.fit.0)).may_stop

  module _ (node : ℕ) (d next : DoubterState) (found : slice_get old.doubters.items (node - 1) ≡ Some d) (put : new.doubters.items ≡ slice_set old.doubters.items (node - 1) next) where
    -- a call of an agent of prefixes
    pub agent_happens : (hold : Bool) (result : Result Report WorldStop) → SeesCall old.world new.world d next node hold result → Happens old new (event.Agent node hold) result
    unfolding after_plain
    agent_happens hold (Ok told) sees s x f =
        let m : CallSeen new.world next s x node hold told = sees s x (node_goes old s x f.goes node f.fit.0 d found) in
        record {
          choice = m.choice;
          occurs = (m.occurs, f.fit.1);
          report_is = m.report_is;
          goes = put_goes old new s x f.goes (doubt.Plain (event.Agent node hold)) m.choice (m.occurs, f.fit.1) m.stands node next m.doubters put;
        }
    agent_happens hold (Err why) sees s x f = sees s x (node_goes old s x f.goes node f.fit.0 d found)

    -- ---- a doubter's call

    module _ (s : Setting) (x : DoubtState) (f : DoubtFits old s x (doubt.Doubter node)) where
      at : NodeGoes old.world d s x node
      at = node_goes old s x f.goes node f.fit d found

      -- what is so of the doubter is so of the member's
      of_member : (P : Option DoubterState → Type 0) → P (Some d) → P (numbered x.doubters node)
      of_member P holds = subst P (sym at.here) holds

      event_is : (c : Choice) → doubt_event s x (doubt.Doubter node) c ≡ doubter_called s x node c (Some d)
      unfolding after_doubter
      event_is c = ap (λ (o : Option DoubterState). doubter_called s x node c o) at.here

      doubter_ran : (told : Report) → DoubterCalled new.world d next s x node told → DoubtHasRun new s x (doubt.Doubter node) (report.Plain told)
      doubter_ran told m =
          let o : DoubtOccurs s x (doubt.Doubter node) m.choice = of_member (λ q. CallOccurs s x.world node m.choice q) m.occurs in
          record {
            choice = m.choice;
            occurs = o;
            report_is = ap report.Plain m.report_is ∙ sym (ap (λ (q : Option DoubterState). call_report m.choice q) at.here);
            goes = put_goes old new s x f.goes (doubt.Doubter node) m.choice o (subst (λ (y : DoubtState). WorldStands new.world (network_at s y.world)) (sym (event_is m.choice)) m.stands) node next
                (ap (λ (y : DoubtState). y.doubters) (event_is m.choice) ∙ ap (λ (k : DoubterState). with_doubter x.doubters node k) (sym m.taken)) put;
          }

    pub doubter_runs : (told : Report) → MakesCall old.world new.world d next node (Ok told) → DoubtRuns old new (doubt.Doubter node) (Ok (report.Plain told))
    doubter_runs told makes s x f = doubter_ran s x f told (makes s x (at s x f))

    pub doubter_stops : (why : WorldStop) → MakesCall old.world new.world d next node (Err why) → DoubtRuns old new (doubt.Doubter node) (Err why)
    doubter_stops why makes s x f = of_member s x f (λ q. CallMayStop s x.world node why q) (makes s x (at s x f))

    -- ---- a question

    pub ask_runs : new.world ≡ old.world → (prefix : Prefix) (peer : ℕ) (answer : Result (Unit {0}) AskFault) → Asks old.world d next node prefix peer answer
        → DoubtRuns old new (doubt.Ask node prefix peer) (Ok (report.Ask answer))
    unfolding after_asking
    ask_runs same prefix peer answer asks s x f =
        let m : AskDone d next s x node prefix peer answer = asks s x (node_goes old s x f.goes node f.fit.0 d found) f.fit.1 in
        record {
          choice = no_choice;
          occurs = f.fit;
          report_is = ap report.Ask m.answer_is;
          goes = put_goes old new s x f.goes (doubt.Ask node prefix peer) no_choice f.fit (subst (λ (w : World). WorldStands w (network_at s x.world)) (sym same) f.goes.world) node next m.doubters put;
        }
