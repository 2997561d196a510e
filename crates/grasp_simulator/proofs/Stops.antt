-- A network that is stopped, one that was, and one that goes on.
use Rattle.std.proofs.Common.{◌≡◌, ◌≤◌, ◌<◌, refl, sym, ◌∙◌, subst, arith, tests, ℕ, min, nat_lt, true, false, length, None, Some, Ok, Err, Result}
use Rattle.std.proofs.lemmas.Option.{none-some, same_Some}
use Rattle.grasp_laws_network.proofs.Going.{reached_more}
use Rattle.grasp_laws_node_stories.specs.Acceptances.{AcceptancesAreCalls}
use Rattle.grasp_laws_prefixes.specs.Grounds.{Grounds}
use Rattle.grasp_model_network.specs.Events.{IsFit, Occurs, after_event}
use Rattle.grasp_model_network.specs.Plans.{IsNode}
use Rattle.grasp_model_network.specs.Setting.{Setting}
use Rattle.grasp_model_network.specs.World.{WorldState, most_bytes}
use Rattle.grasp_model_network.specs.declared.event.Event.{Event}
use Rattle.grasp_model_network.specs.declared.report.Report.{Report}
use Rattle.grasp_model_network.specs.declared.report.WorldStop.{WorldStop}
use Rattle.grasp_model_network.specs.declared.report.WorldStop.TheVariants as stop
use Rattle.grasp_simulator.specs.Contract.{Standing, going, stopped, IsFitFor, Answers}
use Rattle.grasp_simulator.specs.Remembering.{Remembers}
use Rattle.grasp_simulator.specs.WorldStands.{WorldStands, most_count}
use Rattle.grasp_simulator.specs.WorldSteps.{IsAsked, MayRun, HasRun, Runs, MayStarve, Ends, Stepped}
use Rattle.grasp_simulator.specs.declared.world.World.{World}
use Rattle.grasp_simulator.proofs.Remembered.{event_remembers}

-- ---- what was stopped

still : (code : World) (why : WorldStop) (e : Event) → code.stopped ≡ Some why → (s : Setting) (at : Standing) → WorldStands code (record { setting = s; standing = at })
    → Answers (WorldStands code) s at e (Err why)
still code why e is s (going w) h = absurd (none-some why (sym h.stands.goes.keeps.goes ∙ is))
still code why e is s (stopped old) h = record { same = same_Some why old (sym is ∙ h.stands); stands = h }

-- what was stopped answers so again
pub stays_stopped : (code : World) (why : WorldStop) (e : Event) → code.stopped ≡ Some why → Stepped code code e (Err why)
stays_stopped code why e is = λ x met. still code why e is x.setting x.standing met.stands

-- ---- want of memory

halted : (old new : World) (e : Event) → old.stopped ≡ None → length new.seats.items ≡ length old.seats.items → MayStarve old e → new.stopped ≡ Some stop.OutOfMemory → (s : Setting) (at : Standing)
    → WorldStands old (record { setting = s; standing = at }) → IsFitFor s at e → Answers (WorldStands new) s at e (Err stop.OutOfMemory)
halted old new e goes count starves is s (going w) h fit = record { may_stop = starves s w (record { goes = h.stands.goes; fit = fit }); stands = record { count = count ∙ h.count; stands = is } }
halted old new e goes count starves is s (stopped why) h fit = absurd (none-some why (sym goes ∙ h.stands))

-- want of memory stops what goes on, where the event may take some
pub stops : (old new : World) (e : Event) → old.stopped ≡ None → length new.seats.items ≡ length old.seats.items → MayStarve old e → new.stopped ≡ Some stop.OutOfMemory → Stepped old new e (Err stop.OutOfMemory)
stops old new e goes count starves is = λ x met. halted old new e goes count starves is x.setting x.standing met.stands met.fit

-- ---- what goes on

few_sent : (sent count : ℕ) → sent ≡ min count most_count → sent ≤ most_bytes → nat_lt most_bytes count ≡ false
few_sent sent count is few = grind (arith, tests)

much_sent : (sent count : ℕ) → sent ≡ min count most_count → most_bytes < sent → nat_lt most_bytes count ≡ true
much_sent sent count is much = grind (arith, tests)

-- the event is reported
goes_on : (l : Grounds) (accepts : AcceptancesAreCalls) (old mid new : World) (e : Event) (report told : Report) → length mid.seats.items ≡ length old.seats.items → Runs old mid e report → told ≡ report → new ≡ mid → mid.sent ≤ most_bytes → (s : Setting) (w : WorldState)
    → MayRun old s w e → Remembers old.notes w → length old.seats.items ≡ length s.members → Answers (WorldStands new) s (going w) e (Ok told)
goes_on l accepts old mid new e report told count runs is same few s w may remembers members =
    let h : HasRun old mid s w e report = runs s w may in
    let occurs : Occurs s w e h.choice = record { fit = may.fit; comes = h.comes; enough = few_sent mid.sent (after_event s w e h.choice).byte_count h.keeps.sent few } in
    record {
      choice = h.choice;
      occurs = occurs;
      report_is = is ∙ h.report_is;
      stands = subst (λ (code : World). WorldStands code (record { setting = s; standing = going (after_event s w e h.choice) })) (sym same)
          (record { count = count ∙ members; stands = record { goes = record { reached = reached_more s w e h.choice may.goes.reached occurs; keeps = h.keeps }; remembers = event_remembers l accepts s w e h.choice may.goes.reached occurs old.notes mid.notes h.noted remembers } });
    }

-- too much was sent
goes_over : (old mid new : World) (e : Event) (report : Report) (why : WorldStop) → length mid.seats.items ≡ length old.seats.items → Runs old mid e report → why ≡ stop.TooMuch → new ≡ record mid { stopped = Some stop.TooMuch }
    → most_bytes < mid.sent → (s : Setting) (w : WorldState) → MayRun old s w e → length old.seats.items ≡ length s.members → Answers (WorldStands new) s (going w) e (Err why)
goes_over old mid new e report why count runs is same much s w may members =
    let h : HasRun old mid s w e report = runs s w may in
    subst (λ (x : WorldStop). Answers (WorldStands new) s (going w) e (Err x)) (sym is)
    (subst (λ (code : World). Answers (WorldStands code) s (going w) e (Err stop.TooMuch)) (sym same)
    (record {
      may_stop = record { choice = h.choice; comes = h.comes; too_much = much_sent mid.sent (after_event s w e h.choice).byte_count h.keeps.sent much };
      stands = record { count = count ∙ members; stands = refl };
    }))

ended : (l : Grounds) (accepts : AcceptancesAreCalls) (old mid new : World) (e : Event) (report : Report) (result : Result Report WorldStop) → old.stopped ≡ None → length mid.seats.items ≡ length old.seats.items → Runs old mid e report → Ends mid new report result → (s : Setting) (at : Standing)
    → WorldStands old (record { setting = s; standing = at }) → IsFitFor s at e → Answers (WorldStands new) s at e result
ended l accepts old mid new e report (Ok told) goes count runs done s (going w) h fit = goes_on l accepts old mid new e report told count runs done.0 done.1 done.2 s w (record { goes = h.stands.goes; fit = fit }) h.stands.remembers h.count
ended l accepts old mid new e report (Err why) goes count runs done s (going w) h fit = goes_over old mid new e report why count runs done.0 done.1 done.2 s w (record { goes = h.stands.goes; fit = fit }) h.count
ended l accepts old mid new e report (Ok told) goes count runs done s (stopped why) h fit = absurd (none-some why (sym goes ∙ h.stands))
ended l accepts old mid new e report (Err x) goes count runs done s (stopped why) h fit = absurd (none-some why (sym goes ∙ h.stands))

-- an event that was run is reported, unless too much was sent
pub ends_so : (l : Grounds) (accepts : AcceptancesAreCalls) (old mid new : World) (e : Event) (report : Report) (result : Result Report WorldStop) → old.stopped ≡ None → length mid.seats.items ≡ length old.seats.items → Runs old mid e report → Ends mid new report result → Stepped old new e result
ends_so l accepts old mid new e report result goes count runs done = λ x met. ended l accepts old mid new e report result goes count runs done x.setting x.standing met.stands met.fit

-- ---- what is asked

asked_at : (code : World) (e : Event) (P : Type 0) → code.stopped ≡ None → (s : Setting) (at : Standing) → WorldStands code (record { setting = s; standing = at }) → IsFitFor s at e
    → ((w : WorldState) → WorldStands code (record { setting = s; standing = going w }) → IsFit s w e → P) → P
asked_at code e P goes s (going w) h fit then = then w h fit
asked_at code e P goes s (stopped why) h fit then = absurd (none-some why (sym goes ∙ h.stands))

-- an event that is asked for names nodes that are there
pub asked_node : (code : World) (e : Event) (node : ℕ) → IsAsked code e → code.stopped ≡ None → ((s : Setting) (w : WorldState) → IsFit s w e → IsNode (length s.members) node) → IsNode (length code.seats.items) node
asked_node code e node asked goes names =
    let s : Setting = asked.network.setting in
    asked_at code e (IsNode (length code.seats.items) node) goes s asked.network.standing asked.meets.stands asked.meets.fit
    (λ w h fit. subst (λ (n : ℕ). IsNode n node) (sym h.count) (names s w fit))

-- what follows wherever an event fits a network follows for an event that is asked for
pub asked_of : (code : World) (e : Event) (P : Type 0) → IsAsked code e → code.stopped ≡ None → ((s : Setting) (w : WorldState) → IsFit s w e → P) → P
asked_of code e P asked goes names = asked_at code e P goes asked.network.setting asked.network.standing asked.meets.stands asked.meets.fit (λ w h fit. names asked.network.setting w fit)
