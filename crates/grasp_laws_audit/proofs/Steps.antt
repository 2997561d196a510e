-- The record lines of an event's step, and of the drain behind it.
use Rattle.std.proofs.Common.{◌≡◌, refl, sym, ap, ◌∙◌, subst, max, ℕ, ◌≤◌, Bool, true, false, [], ◌∷◌, Option, Some}
use Rattle.std.proofs.lemmas.Bool.{false≢true}
use Rattle.grasp_laws_delivery.proofs.Holding.{IsStep}
use Rattle.grasp_laws_network.proofs.Lives.{same_present}
use Rattle.grasp_laws_network.proofs.SameLives.{event_lives, visit_lives}
use Rattle.grasp_model_node.specs.Begin.{begin}
use Rattle.grasp_model_node.specs.Draining as core
use Rattle.grasp_types.specs.declared.reply.Reply.{Reply}
use Rattle.grasp_types.specs.declared.reply.Reply.TheVariants as reply
use Rattle.grasp_model_network.specs.Events.{Occurs, after_by, after_event, after_visit, drained_behind, drains, visit_of}
use Rattle.grasp_model_network.specs.Runs.{world_after}
use Rattle.grasp_model_network.specs.Sending.{drained, event_drain, seat_with}
use Rattle.grasp_model_network.specs.Setting.{Setting}
use Rattle.grasp_model_network.specs.Visits.{Choice, MayCome, Visit, VisitStep, is_starved}
use Rattle.grasp_model_network.specs.World.{Seat, WorldState, is_too_much, member_of, present_life, seat_at}
use Rattle.grasp_model_network.specs.declared.event.Event.{Event}
use Rattle.grasp_model_network.specs.declared.event.Event.TheVariants as event
use Rattle.grasp_script.specs.Answers.{reply_words}
use Rattle.grasp_record.specs.Answers.{told_words}
use Rattle.grasp_record.specs.Laws.{EachRecordHasOneLine}
use Rattle.grasp_record.specs.Records.{IsRecord}
use Rattle.grasp_model_audit.specs.Lines.{answered_words}
use Rattle.grasp_model_audit.specs.Naming.{IsOfAgent, event_named, reading_of}
use Rattle.grasp_model_audit.specs.Recording.{answer_by, drain_lines, step_line, step_lines, took_by}
use Rattle.grasp_laws_audit.proofs.Holding.{Fits, came, drain_after, drain_choice, drain_fits, drain_line, fits_holds, one_holds, two_hold}
use Rattle.grasp_laws_audit.proofs.Present.{IsNoClock, IsPresent, IsPut, drained_reads, drained_seat, now_is, put_after, reading_at, reading_then, same_twice, step_reads}
use Rattle.grasp_laws_audit.specs.ReadBack.{AreReadable, input_read, read_back}
use Rattle.grasp_laws_audit.specs.Recorded.{HoldAs}

-- ---- answers

-- no outputs are given
abbrev pub IsPlain : Reply → Type 0
IsPlain (reply.Outputs outputs) = ⊥
IsPlain _ = Unit {0}

-- what is told of a reply is what a report tells of it
pub told_as : (r : Reply) → is_starved r ≡ false → IsPlain r → told_words (answer_by r) ≡ reply_words r
told_as (reply.Outputs outputs) fed plain = absurd plain
told_as reply.OutOfMemory fed plain = absurd (false≢true (sym fed))
told_as (reply.Api a) fed plain = refl
told_as (reply.Refused r) fed plain = refl
told_as reply.Taken fed plain = refl
told_as reply.Turned fed plain = refl

-- ---- the event's network

-- an event behind which nothing is sent leaves what its step leaves
pub undrained_after : (s : Setting) (w : WorldState) (e : Event) (v : Visit) (c : Choice) → visit_of s w e ≡ Some v → drains e ≡ false → after_event s w e c ≡ after_visit s w e v c
unfolding after_event
undrained_after s w e v c is none = ap (λ (o : Option Visit). after_by s w e c o) is ∙ ap (λ (b : Bool). drained_behind b s (after_visit s w e v c) v.node) none

pub drained_after : (s : Setting) (w : WorldState) (e : Event) (v : Visit) (c : Choice) → visit_of s w e ≡ Some v → drains e ≡ true → after_event s w e c ≡ drained s (after_visit s w e v c) v.node event_drain
unfolding after_event
drained_after s w e v c is some = ap (λ (o : Option Visit). after_by s w e c o) is ∙ ap (λ (b : Bool). drained_behind b s (after_visit s w e v c) v.node) some

pub step_of : (s : Setting) (w : WorldState) (e : Event) (v : Visit) (c : Choice) → visit_of s w e ≡ Some v → Occurs s w e c → VisitStep v c
step_of s w e v c is o = subst (λ (x : Option Visit). MayCome x c) is o.comes

-- ---- an event that the step's line names

-- it comes out as the event does, but that nothing is sent behind it, and is answered so
pub record StandsIn (s : Setting) (w : WorldState) (e f : Event) (v : Visit) (c : Choice) : Type 0 where
  pub occurs : Occurs s w f c
  pub after : after_event s w f c ≡ after_visit s w e v c
  pub answer : answered_words s w f c ≡ reply_words c.reply

-- what a step's line needs
pub record Steps (nodes : ℕ) (s : Setting) (w : WorldState) (e f : Event) (v : Visit) (c : Choice) : Type 0 where
  pub visits : visit_of s w e ≡ Some v
  pub occurs : Occurs s w e c
  pub is_step : IsStep e
  pub unclocked : IsNoClock e
  pub plain : IsPlain c.reply
  pub present : IsPresent s w v
  pub in_place : StandsIn s w e f v c
  pub named : (now : ℕ) → event_named s w (read_back (step_line (member_of w v.node) now e v c)) ≡ Some f
  pub of_agent : IsOfAgent w (member_of w v.node) (input_read (took_by e v.input))

module _ (nodes : ℕ) (few : nodes ≤ 255) (each : EachRecordHasOneLine) (s : Setting) (w : WorldState) (e f : Event) (v : Visit) (c : Choice) (h : Steps nodes s w e f v c) where
  abbrev node : ℕ
  node = member_of w v.node

  abbrev between : WorldState
  between = after_visit s w e v c

  step : VisitStep v c
  step = step_of s w e v c h.visits h.occurs

  put : IsPut between v c
  put = put_after s w e v c h.is_step h.present.here

  abbrev seat : Seat
  seat = seat_with c.after put.agent

  after_reads : c.after.reading ≡ v.seat.core.reading
  after_reads = step_reads v c step ∙ ap (λ n. max v.seat.core.reading n) (now_is s w e v h.unclocked h.visits) ∙ same_twice v.seat.core.reading

  -- the line of the step, at whatever reading it tells, where that is the node's own
  step_holds : (now : ℕ) → now ≡ v.seat.core.reading → IsRecord nodes (read_back (step_line node now e v c)) → Fits nodes s w (step_line node now e v c) f c
  step_holds now is ranges = record {
    ranges = ranges;
    reads = reading_at s w v h.present ∙ sym is;
    named = h.named now;
    of_agent = h.of_agent;
    occurs = h.in_place.occurs;
    answer = h.in_place.answer ∙ sym (told_as c.reply step.fed h.plain);
  }

  alone : drains e ≡ false → (now : ℕ) → now ≡ reading_of (after_event s w e c) node → IsRecord nodes (read_back (step_line node now e v c)) → HoldAs nodes s w (step_line node now e v c ∷ []) (after_event s w e c)
  unfolding world_after
  alone none now is ranges =
      let left = undrained_after s w e v c h.visits none in
      let reads : now ≡ v.seat.core.reading =
      is ∙ reading_then s w (after_event s w e c) v seat h.present (event_lives s w e c) (ap (λ (x : WorldState). seat_at x v.node) left ∙ put.at) ∙ after_reads in
      one_holds nodes s w (after_event s w e c) (step_line node now e v c) (came f c ∷ []) (fits_holds nodes few each s w (step_line node now e v c) f c (step_holds now reads ranges)) (h.in_place.after ∙ sym left)

  with_drain : drains e ≡ true → (now : ℕ) → now ≡ reading_of (after_event s w e c) node → IsRecord nodes (read_back (step_line node now e v c))
      → IsRecord nodes (read_back (drain_line node now event_drain seat)) → HoldAs nodes s w (step_line node now e v c ∷ drain_line node now event_drain seat ∷ []) (after_event s w e c)
  unfolding world_after
  with_drain some now is ranges behind =
      let left = drained_after s w e v c h.visits some in
      let last = drained_seat s between v.node event_drain seat put.at in
      let same : now ≡ c.after.reading =
      is ∙ reading_then s w (after_event s w e c) v (seat_with (core.after_drain (begin c.after c.after.reading) event_drain) put.agent) h.present (event_lives s w e c) (ap (λ (x : WorldState). seat_at x v.node) left ∙ last)
      ∙ drained_reads c.after event_drain in
      let own : present_life between node ≡ v.node = same_present w between node (visit_lives s w e v c) ∙ h.present.life in
      let enough : is_too_much (drained s between v.node event_drain) ≡ false = subst (λ (x : WorldState). is_too_much x ≡ false) left h.occurs.enough in
      let fits = drain_fits s between node v.node event_drain seat own put.at nodes now behind same h.present.is_node enough in
      two_hold nodes s w between (after_event s w e c) (step_line node now e v c) (drain_line node now event_drain seat) (came f c ∷ []) (came (event.Drain node event_drain) (drain_choice seat event_drain) ∷ [])
      (fits_holds nodes few each s w (step_line node now e v c) f c (step_holds now (same ∙ after_reads) ranges)) h.in_place.after
      (fits_holds nodes few each s between (drain_line node now event_drain seat) (event.Drain node event_drain) (drain_choice seat event_drain) fits)
      (drain_after s between node v.node event_drain seat own put.at (drain_choice seat event_drain) ∙ sym left)

  -- the lines of the event
  pub steps_hold : AreReadable nodes (step_lines node (reading_of (after_event s w e c) node) e v c) → HoldAs nodes s w (step_lines node (reading_of (after_event s w e c) node) e v c) (after_event s w e c)
  steps_hold = by_drain (drains e) refl where
    now : ℕ
    now = reading_of (after_event s w e c) node

    by_drain : (b : Bool) → drains e ≡ b → AreReadable nodes (step_line node now e v c ∷ drain_lines b node now c) → HoldAs nodes s w (step_line node now e v c ∷ drain_lines b node now c) (after_event s w e c)
    by_drain true some r = with_drain some now refl r.0 r.1.0
    by_drain false none r = alone none now refl r.0
