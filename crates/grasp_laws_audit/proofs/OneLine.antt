-- A line of a record has one verdict in a network that turns lead to.
use Rattle.std.proofs.Common.{◌≡◌, refl, sym, ap, ◌∙◌, subst, ℕ, ◌≤◌, List, [], ◌∷◌, ◌++◌, Some, None}
use Rattle.grasp_laws_network.proofs.Going.{reached_more}
use Rattle.grasp_model_network.specs.Events.{Occurs, Overflows, after_event}
use Rattle.grasp_model_network.specs.Reports.{report_of}
use Rattle.grasp_model_network.specs.Runs.{Happening, IsReached, IsRun, events_of, world_after}
use Rattle.grasp_model_network.specs.Setting.{Setting}
use Rattle.grasp_model_network.specs.Visits.{Choice}
use Rattle.grasp_model_network.specs.World.{WorldState}
use Rattle.grasp_model_network.specs.declared.event.Event.{Event}
use Rattle.grasp_model_network.specs.declared.event.Event.TheVariants as event
use Rattle.grasp_laws_reports.proofs.LongerRuns.{stops_agree}
use Rattle.grasp_laws_reports.proofs.SameRuns.{happenings_agree, heads_same, more_none, runs_agree, tails_same}
use Rattle.grasp_laws_reports.specs.Agree.{IsSameRun}
use Rattle.grasp_script.specs.Reports.{report_words}
use Rattle.grasp_record.specs.Answers.{told_words}
use Rattle.grasp_record.specs.Laws.{RecordLinesMeanOneThing}
use Rattle.grasp_record.specs.declared.line.RecordLine.{RecordLine}
use Rattle.grasp_model_audit.specs.Faults.{Cause, IsNotOfAgent, IsNotSent, IsNotStep, LineFault, LineOverflows, bad_record, not_agent, not_sent, not_step, too_much}
use Rattle.grasp_model_audit.specs.Lines.{Asks, ComesTo, LineHolds, Means, Names, answered_words, last_answered, line_events}
use Rattle.grasp_model_audit.specs.Naming.{IsOfAgent, event_named}

-- ---- events that come out

answers_agree : (s : Setting) (w : WorldState) (e : Event) (c d : Choice) → report_of s w e c ≡ report_of s w e d → answered_words s w e c ≡ answered_words s w e d
answers_agree s w (event.Drain node max) c d same = refl
answers_agree s w _ c d same = ap report_words same

answered_same : (s : Setting) (w : WorldState) (e f : Event) (c d : Choice) → e ≡ f → report_of s w e c ≡ report_of s w f d → answered_words s w e c ≡ answered_words s w f d
answered_same s w e f c d same = subst (λ (g : Event). report_of s w e c ≡ report_of s w g d → answered_words s w e c ≡ answered_words s w g d) same (answers_agree s w e c d)

none_more : (x : Event) (xs : List Event) → [] ≡ x ∷ xs → ⊥
none_more x xs e = more_none x xs (sym e)

-- two runs of the same events end with the same answer
pub same_answer : (s : Setting) (hs gs : List Happening) (w : WorldState) → IsReached s w → IsRun s w hs → IsRun s w gs → events_of hs ≡ events_of gs → last_answered s w hs ≡ last_answered s w gs
unfolding IsRun last_answered
same_answer s [] [] w r a b e = refl
same_answer s [] (g ∷ gs) w r a b e = absurd (none_more g.event (events_of gs) e)
same_answer s (h ∷ hs) [] w r a b e = absurd (more_none h.event (events_of hs) e)
same_answer s (h ∷ []) (g ∷ []) w r a b e =
    let same = heads_same h.event g.event [] [] e in
    answered_same s w h.event g.event h.choice g.choice same (happenings_agree s w h g r a.0 b.0 same).report
same_answer s (h ∷ []) (g ∷ i ∷ gs) w r a b e = absurd (none_more i.event (events_of gs) (tails_same h.event g.event [] (events_of (i ∷ gs)) e))
same_answer s (h ∷ i ∷ hs) (g ∷ []) w r a b e = absurd (more_none i.event (events_of hs) (tails_same h.event g.event (events_of (i ∷ hs)) [] e))
same_answer s (h ∷ i ∷ hs) (g ∷ j ∷ gs) w r a b e =
    let first = happenings_agree s w h g r a.0 b.0 (heads_same h.event g.event (events_of (i ∷ hs)) (events_of (j ∷ gs)) e) in
    same_answer s (i ∷ hs) (j ∷ gs) (after_event s w h.event h.choice) (reached_more s w h.event h.choice r a.0) a.1
    (subst (λ (x : WorldState). IsRun s x (j ∷ gs)) (sym first.after) b.1) (tails_same h.event g.event (events_of (i ∷ hs)) (events_of (j ∷ gs)) e)
    ∙ ap (λ (x : WorldState). last_answered s x (j ∷ gs)) first.after

-- an event that comes out behind a run doesn't send too much behind another run of the same events
pub comes_or_stops : (s : Setting) (ks hs : List Happening) (e : Event) (w : WorldState) → IsReached s w → IsRun s w ks → IsRun s w hs → events_of hs ≡ events_of ks ++ e ∷ []
    → Overflows s (world_after s w ks) e → ⊥
unfolding IsRun world_after
comes_or_stops s [] [] e w r a b same over = none_more e [] same
comes_or_stops s [] (h ∷ hs) e w r a b same over =
    stops_agree s w e h.choice r (subst (λ (f : Event). Occurs s w f h.choice) (heads_same h.event e (events_of hs) [] same) b.0) over
comes_or_stops s (k ∷ ks) [] e w r a b same over = none_more k.event (events_of ks ++ e ∷ []) same
comes_or_stops s (k ∷ ks) (h ∷ hs) e w r a b same over =
    let first = happenings_agree s w h k r b.0 a.0 (heads_same h.event k.event (events_of hs) (events_of ks ++ e ∷ []) same) in
    comes_or_stops s ks hs e (after_event s w k.event k.choice) (reached_more s w k.event k.choice r a.0) a.1
    (subst (λ (x : WorldState). IsRun s x hs) first.after b.1) (tails_same h.event k.event (events_of hs) (events_of ks ++ e ∷ []) same) over

-- ---- what a line names

one_some : (e f : Event) → Some e ≡ Some f → e ≡ f
one_some e f same = cc

some_none : (e : Event) → Some e ≡ None → ⊥
some_none e same = absurd (cc)

-- two that hold in the same network, or fail there
pub record SameLine (s : Setting) (w : WorldState) (x y : RecordLine) (hs gs : List Happening) : Type 0 where
  pub meant : x ≡ y
  pub events : events_of hs ≡ events_of gs
  pub run : IsSameRun s w hs gs

module _ (nodes : ℕ) (few : nodes ≤ 255) (one : RecordLinesMeanOneThing) (s : Setting) (w : WorldState) (line : List ℕ) where
  one_meaning : (x y : RecordLine) → Means nodes w line x → Means nodes w line y → x ≡ y
  one_meaning x y a b = one nodes line x y few a.is_line b.is_line

  one_event : (x y : RecordLine) (e f : Event) → Names nodes s w line x e → Names nodes s w line y f → e ≡ f
  one_event x y e f a b = one_some e f (sym a.named ∙ ap (event_named s w) (one_meaning x y a.means b.means) ∙ b.named)

  same_events : (x y : RecordLine) (e f : Event) → x ≡ y → e ≡ f → line_events w x e ≡ line_events w y f
  same_events x y e f p q = (λ i. line_events w (p i) (q i))

  unsent : IsNotSent nodes s w line → (x : RecordLine) (e : Event) → Names nodes s w line x e → ⊥
  unsent f x e a = some_none e (sym a.named ∙ ap (event_named s w) (one_meaning x f.meant a.means f.means) ∙ f.unsent)

  unasked : IsNotOfAgent nodes s w line → (x : RecordLine) (e : Event) → Asks nodes s w line x e → ⊥
  unasked f x e a = f.other (subst (λ (y : RecordLine). IsOfAgent w y.node y.input) (one_meaning x f.meant a.names.means f.names.means) a.of_agent)

  overflowing : IsReached s w → LineOverflows nodes s w line → (x : RecordLine) (e : Event) (hs : List Happening) → Asks nodes s w line x e → ComesTo s w x e hs → ⊥
  overflowing r f x e hs a comes =
      let meant = one_meaning x f.meant a.names.means f.asks.names.means in
      let same = one_event x f.meant e f.event a.names f.asks.names in
      comes_or_stops s f.clock hs f.event w r f.run comes.run
      (comes.events ∙ same_events x f.meant e f.event meant same ∙ ap (λ (es : List Event). es ++ f.event ∷ []) (sym f.is_clock)) f.overflows

  same_comes : (x y : RecordLine) (e f : Event) (hs gs : List Happening) → Asks nodes s w line x e → Asks nodes s w line y f → ComesTo s w x e hs → ComesTo s w y f gs → events_of hs ≡ events_of gs
  same_comes x y e f hs gs a b c d =
      c.events ∙ same_events x y e f (one_meaning x y a.names.means b.names.means) (one_event x y e f a.names b.names) ∙ sym d.events

  pub holds_once : IsReached s w → (x y : RecordLine) (hs gs : List Happening) → LineHolds nodes s w line x hs → LineHolds nodes s w line y gs → SameLine s w x y hs gs
  holds_once r x y hs gs a b =
      let events = same_comes x y a.event b.event hs gs a.asks b.asks a.comes b.comes in
      record {
        meant = one_meaning x y a.asks.names.means b.asks.names.means;
        events = events;
        run = runs_agree.onward s w hs gs r a.comes.run b.comes.run events;
      }

  not_otherwise : IsReached s w → IsNotStep nodes s w line → (x : RecordLine) (hs : List Happening) → LineHolds nodes s w line x hs → ⊥
  not_otherwise r f x hs h =
      let events = same_comes x f.meant h.event f.event hs f.happened h.asks f.asks h.comes f.comes in
      f.other (sym (same_answer s hs f.happened w r h.comes.run f.comes.run events) ∙ h.answer ∙ ap (λ (y : RecordLine). told_words y.answer) (one_meaning x f.meant h.asks.names.means f.asks.names.means))

  -- a line that holds doesn't fail
  pub holds_or_fails : IsReached s w → (x : RecordLine) (hs : List Happening) → LineHolds nodes s w line x hs → (cause : Cause) → LineFault nodes s w line cause → ⊥
  holds_or_fails r x hs h bad_record f = f x h.asks.names.means
  holds_or_fails r x hs h not_sent f = unsent f x h.event h.asks.names
  holds_or_fails r x hs h not_agent f = unasked f x h.event h.asks
  holds_or_fails r x hs h too_much f = overflowing r f x h.event hs h.asks h.comes
  holds_or_fails r x hs h not_step f = not_otherwise r f x hs h

  -- it fails by one cause
  pub one_cause : IsReached s w → (a b : Cause) → LineFault nodes s w line a → LineFault nodes s w line b → a ≡ b
  one_cause r bad_record bad_record f g = refl
  one_cause r bad_record not_sent f g = absurd (f g.meant g.means)
  one_cause r bad_record not_agent f g = absurd (f g.meant g.names.means)
  one_cause r bad_record too_much f g = absurd (f g.meant g.asks.names.means)
  one_cause r bad_record not_step f g = absurd (f g.meant g.asks.names.means)
  one_cause r not_sent bad_record f g = absurd (g f.meant f.means)
  one_cause r not_sent not_sent f g = refl
  one_cause r not_sent not_agent f g = absurd (unsent f g.meant g.event g.names)
  one_cause r not_sent too_much f g = absurd (unsent f g.meant g.event g.asks.names)
  one_cause r not_sent not_step f g = absurd (unsent f g.meant g.event g.asks.names)
  one_cause r not_agent bad_record f g = absurd (g f.meant f.names.means)
  one_cause r not_agent not_sent f g = absurd (unsent g f.meant f.event f.names)
  one_cause r not_agent not_agent f g = refl
  one_cause r not_agent too_much f g = absurd (unasked f g.meant g.event g.asks)
  one_cause r not_agent not_step f g = absurd (unasked f g.meant g.event g.asks)
  one_cause r too_much bad_record f g = absurd (g f.meant f.asks.names.means)
  one_cause r too_much not_sent f g = absurd (unsent g f.meant f.event f.asks.names)
  one_cause r too_much not_agent f g = absurd (unasked g f.meant f.event f.asks)
  one_cause r too_much too_much f g = refl
  one_cause r too_much not_step f g = absurd (overflowing r f g.meant g.event g.happened g.asks g.comes)
  one_cause r not_step bad_record f g = absurd (g f.meant f.asks.names.means)
  one_cause r not_step not_sent f g = absurd (unsent g f.meant f.event f.asks.names)
  one_cause r not_step not_agent f g = absurd (unasked g f.meant f.event f.asks)
  one_cause r not_step too_much f g = absurd (overflowing r g f.meant f.event f.happened f.asks f.comes)
  one_cause r not_step not_step f g = refl
