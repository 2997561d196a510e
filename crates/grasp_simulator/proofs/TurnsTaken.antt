-- A turn of each kind, by what the code does for it.
use Rattle.std.proofs.Common.{◌≡◌, ◌≤◌, refl, sym, ◌∙◌, ℕ, ◌+◌, Some, None, Ok, Err, Result, length}
use Rattle.std.proofs.lemmas.Option.{none-some, same_Some}
use Rattle.grasp_laws_network.proofs.Here.{numbered_within}
use Rattle.grasp_model_network.specs.Plans.{IsNode, IsGoodPlan}
use Rattle.grasp_model_network.specs.Setting.{Setting}
use Rattle.grasp_model_network.specs.Visits.{no_choice}
use Rattle.grasp_model_network.specs.declared.event.Event.{Event}
use Rattle.grasp_model_network.specs.declared.report.Report.{Report}
use Rattle.grasp_model_network.specs.declared.report.Report.TheVariants as report
use Rattle.grasp_model_network.specs.declared.report.WorldStop.{WorldStop}
use Rattle.grasp_model_network.specs.declared.report.WorldStop.TheVariants as stop
use Rattle.grasp_model_network.specs.declared.turn.Turn.{Turn}
use Rattle.grasp_model_network.specs.declared.turn.Turn.TheVariants as turn
use Rattle.grasp_pool.specs.Listings.{AreDisjoint, all_of}
use Rattle.grasp_pool.specs.declared.image.PoolImage.{PoolImage}
use Rattle.grasp_simulator.specs.Contract.{Standing, going, stopped, Answers, IsFitFor, MayAskFor, TurnAnswers}
use Rattle.grasp_simulator.specs.Restarts.{BeginsAnew}
use Rattle.grasp_simulator.specs.WorldStands.{WorldStands}
use Rattle.grasp_simulator.specs.WorldSteps.{IsAsked, IsAskedFor, Stepped, Turned}
use Rattle.grasp_simulator.specs.declared.world.World.{World}
use Rattle.grasp_simulator.proofs.Presence.{code_node}
use Rattle.grasp_simulator.proofs.Settles.{turn_asked}

-- ---- what was stopped

still : (code : World) (why : WorldStop) (t : Turn) → code.stopped ≡ Some why → (s : Setting) (at : Standing) → WorldStands code (record { setting = s; standing = at })
    → TurnAnswers (WorldStands code) s at t (Err why)
still code why t is s (going w) h = absurd (none-some why (sym h.stands.goes.keeps.goes ∙ is))
still code why t is s (stopped old) h = record { same = same_Some why old (sym is ∙ h.stands); stands = h }

pub stays_stopped_at : (code : World) (why : WorldStop) (t : Turn) → code.stopped ≡ Some why → Turned code code t (Err why)
stays_stopped_at code why t is x met = still code why t is x.setting x.standing met.stands

-- ---- an event

fit_for : (s : Setting) (at : Standing) (e : Event) → MayAskFor s at (turn.Event e) → IsFitFor s at e
fit_for s (going w) e fit = fit
fit_for s (stopped why) e fit = fit

pub event_asked : (code : World) (e : Event) → IsAskedFor code (turn.Event e) → IsAsked code e
event_asked code e asked = record { network = asked.network; meets = record { stands = asked.meets.stands; fit = fit_for asked.network.setting asked.network.standing e asked.meets.fit } }

answers_turn : (code : World) (s : Setting) (at : Standing) (e : Event) (result : Result Report WorldStop) → Answers (WorldStands code) s at e result → TurnAnswers (WorldStands code) s at (turn.Event e) result
answers_turn code s (going w) e (Ok told) a = record { choice = a.choice; taken = a.occurs; report_is = a.report_is; stands = a.stands }
answers_turn code s (going w) e (Err why) a = record { may_stop = a.may_stop; stands = a.stands }
answers_turn code s (stopped old) e (Ok told) a = a
answers_turn code s (stopped old) e (Err why) a = a

pub event_turned : (old new : World) (e : Event) (result : Result Report WorldStop) → Stepped old new e result → Turned old new (turn.Event e) result
event_turned old new e result steps x met =
    answers_turn new x.setting x.standing e result (steps x (record { stands = met.stands; fit = fit_for x.setting x.standing e met.fit }))

-- ---- a restart

module _ (code : World) (node : ℕ) (image : PoolImage) (asked : IsAskedFor code (turn.Restart node image)) (goes : code.stopped ≡ None) where
  pub restart_node : IsNode (length code.seats.items) node
  restart_node =
      turn_asked code (turn.Restart node image) (IsNode (length code.seats.items) node) asked goes
      (λ s w h count may. code_node code s w node h.goes.keeps (numbered_within s.members node may.member may.found))

  pub restart_good : IsGoodPlan code.plan
  restart_good = turn_asked code (turn.Restart node image) (IsGoodPlan code.plan) asked goes (λ s w h count may. h.goes.keeps.good)

  pub restart_planned : length code.seats.items ≡ code.plan.nodes
  restart_planned = turn_asked code (turn.Restart node image) (length code.seats.items ≡ code.plan.nodes) asked goes (λ s w h count may. h.goes.keeps.count)

  pub restart_few : length image.free + length image.doubtful ≤ 4096
  restart_few = turn_asked code (turn.Restart node image) (length image.free + length image.doubtful ≤ 4096) asked goes (λ s w h count may. may.image_is.few)

  pub restart_disjoint : AreDisjoint (all_of image)
  restart_disjoint = turn_asked code (turn.Restart node image) (AreDisjoint (all_of image)) asked goes (λ s w h count may. may.image_is.disjoint)

module _ (old new : World) (node : ℕ) (image : PoolImage) (goes : old.stopped ≡ None) (count : length new.seats.items ≡ length old.seats.items) where
  begun_at : BeginsAnew old new node image → (s : Setting) (at : Standing) → WorldStands old (record { setting = s; standing = at }) → MayAskFor s at (turn.Restart node image)
      → TurnAnswers (WorldStands new) s at (turn.Restart node image) (Ok report.Nothing)
  begun_at begins s (going w) h may = record { choice = no_choice; taken = may; report_is = refl; stands = record { count = count ∙ h.count; stands = begins s w h.stands may } }
  begun_at begins s (stopped why) h may = absurd (none-some why (sym goes ∙ h.stands))

  -- the node has begun anew
  pub restart_ends : BeginsAnew old new node image → Turned old new (turn.Restart node image) (Ok report.Nothing)
  restart_ends begins x met = begun_at begins x.setting x.standing met.stands met.fit

  halted_at : new.stopped ≡ Some stop.OutOfMemory → (s : Setting) (at : Standing) → WorldStands old (record { setting = s; standing = at }) → TurnAnswers (WorldStands new) s at (turn.Restart node image) (Err stop.OutOfMemory)
  halted_at is s (going w) h = record { may_stop = refl; stands = record { count = count ∙ h.count; stands = is } }
  halted_at is s (stopped why) h = absurd (none-some why (sym goes ∙ h.stands))

  -- memory was wanted
  pub restart_stops : new.stopped ≡ Some stop.OutOfMemory → Turned old new (turn.Restart node image) (Err stop.OutOfMemory)
  restart_stops is x met = halted_at is x.setting x.standing met.stands
