-- Record lines that hold, one or two.
use Rattle.std.proofs.Common.{◌≡◌, refl, sym, ap, ◌∙◌, subst, arith, tests, ℕ, ◌≤◌, ◌++◌, Bool, false, cond, nat_lt, List, [], ◌∷◌, length, Option, Some}
use Rattle.grasp_model_node.specs.Begin.{begin}
use Rattle.grasp_model_node.specs.Draining.{after_drain}
use Rattle.grasp_model_node.specs.Draining as core
use Rattle.grasp_laws_network.proofs.EachNode.{drain_steps}
use Rattle.grasp_types.specs.declared.reply.Reply.TheVariants as reply
use Rattle.grasp_types.specs.declared.traffic.Input.TheVariants as input
use Rattle.grasp_model_network.specs.Events.{Occurs, after_by, after_event}
use Rattle.grasp_model_network.specs.Plans.{IsNode}
use Rattle.grasp_model_network.specs.Runs.{Happening, IsRun, world_after}
use Rattle.grasp_model_network.specs.Sending.{drained}
use Rattle.grasp_model_network.specs.Setting.{Setting}
use Rattle.grasp_model_network.specs.Visits.{Choice, MayCome, Visit, no_choice, visit_seat}
use Rattle.grasp_model_network.specs.World.{Seat, WorldState, is_too_much, present_life, seat_at}
use Rattle.grasp_model_network.specs.declared.event.Event.{Event}
use Rattle.grasp_model_network.specs.declared.event.Event.TheVariants as event
use Rattle.grasp_record.specs.Answers.{drained_words, told_words}
use Rattle.grasp_record.specs.Laws.{EachRecordHasOneLine}
use Rattle.grasp_record.specs.Records.{IsRecord, record_line}
use Rattle.grasp_record.specs.declared.line.RecordAnswer.TheVariants as answer
use Rattle.grasp_record.specs.declared.line.RecordInput.TheVariants as took
use Rattle.grasp_record.specs.declared.line.RecordLine.{RecordLine}
use Rattle.grasp_model_audit.specs.Lines.{AllHold, AuditedLine, LineHolds, after_lines, answered_words, gave_words, last_answered}
use Rattle.grasp_model_audit.specs.Naming.{IsOfAgent, clock_before, event_named, reading_in, reading_of}
use Rattle.grasp_laws_audit.proofs.ReadBack.{answer_same, is_read}
use Rattle.grasp_laws_audit.specs.ReadBack.{input_read, read_back}
use Rattle.grasp_laws_audit.specs.Recorded.{HoldAs}

-- ---- lines

-- an event that came out so
abbrev pub came : Event → Choice → Happening
came e c = record { event = e; choice = c }

-- the line as it is written and read back
abbrev pub audited : RecordLine → List Happening → AuditedLine
audited y hs = record { text = record_line y; meant = read_back y; happened = hs }

-- no line
pub none_hold : (nodes : ℕ) (s : Setting) (w x : WorldState) → w ≡ x → HoldAs nodes s w [] x
unfolding AllHold after_lines
none_hold nodes s w x same = record { audited = []; texts = refl; meant = refl; hold = tt; last = same }

-- one
pub one_holds : (nodes : ℕ) (s : Setting) (w x : WorldState) (y : RecordLine) (hs : List Happening) → LineHolds nodes s w (record_line y) (read_back y) hs → world_after s w hs ≡ x → HoldAs nodes s w (y ∷ []) x
unfolding AllHold after_lines
one_holds nodes s w x y hs h last = record { audited = audited y hs ∷ []; texts = refl; meant = refl; hold = (h, tt); last = last }

-- two
pub two_hold : (nodes : ℕ) (s : Setting) (w u x : WorldState) (y z : RecordLine) (hs gs : List Happening) → LineHolds nodes s w (record_line y) (read_back y) hs → world_after s w hs ≡ u
    → LineHolds nodes s u (record_line z) (read_back z) gs → world_after s u gs ≡ x → HoldAs nodes s w (y ∷ z ∷ []) x
unfolding AllHold after_lines
two_hold nodes s w u x y z hs gs a first b last = record {
  audited = audited y hs ∷ audited z gs ∷ [];
  texts = refl;
  meant = refl;
  hold = (a, (subst (λ (v : WorldState). LineHolds nodes s v (record_line z) (read_back z) gs) (sym first) b, tt));
  last = ap (λ (v : WorldState). world_after s v gs) first ∙ last;
}

-- ---- an event without a clock

not_less : (a b : ℕ) → a ≡ b → nat_lt a b ≡ false
not_less a b e = grind (arith, tests)

no_clock : (w : WorldState) (y : RecordLine) → reading_of w y.node ≡ y.now → clock_before w (read_back y) ≡ []
no_clock w y e = ap (λ (b : Bool). cond b (event.Clock y.node y.now ∷ []) []) (not_less (reading_of w y.node) y.now e)

-- the line is within the ranges of a record, its reading is that of its node, and the event that it names comes out and is answered so
pub record Fits (nodes : ℕ) (s : Setting) (w : WorldState) (y : RecordLine) (e : Event) (c : Choice) : Type 0 where
  pub ranges : IsRecord nodes (read_back y)
  pub reads : reading_of w y.node ≡ y.now
  pub named : event_named s w (read_back y) ≡ Some e
  pub of_agent : IsOfAgent w y.node (input_read y.input)
  pub occurs : Occurs s w e c
  pub answer : answered_words s w e c ≡ told_words y.answer

itself : (n : ℕ) → n ≤ n
itself n = omega arith

module _ (nodes : ℕ) (few : nodes ≤ 255) (each : EachRecordHasOneLine) (s : Setting) where
  pub fits_holds : (w : WorldState) (y : RecordLine) (e : Event) (c : Choice) → Fits nodes s w y e c → LineHolds nodes s w (record_line y) (read_back y) (came e c ∷ [])
  unfolding IsRun last_answered
  fits_holds w y e c f = record {
    event = e;
    asks = record {
      names = record {
        means = record { is_line = is_read each nodes few y f.ranges; in_time = subst (λ n. reading_of w y.node ≤ n) f.reads (itself (reading_of w y.node)) };
        named = f.named;
      };
      of_agent = f.of_agent;
    };
    comes = record { events = ap (λ (es : List Event). es ++ e ∷ []) (sym (no_clock w y f.reads)); run = (f.occurs, tt) };
    answer = f.answer ∙ sym (answer_same y.answer);
  }

-- ---- a drain

-- how a drain of a node that stands so comes out
abbrev pub drain_choice : Seat → ℕ → Choice
drain_choice seat max = record {
  coming = no_choice.coming;
  reply = reply.Outputs (core.drained (begin seat.core seat.core.reading) max);
  after = after_drain (begin seat.core seat.core.reading) max;
}

-- a drain's line
abbrev pub drain_line : ℕ → ℕ → ℕ → Seat → RecordLine
drain_line node now max seat = record { node = node; now = now; input = took.Drain max; answer = answer.Outputs (core.drained (begin seat.core seat.core.reading) max) }

module _ (s : Setting) (w : WorldState) (node life max : ℕ) (seat : Seat) (own : present_life w node ≡ life) (here : seat_at w life ≡ Some seat) where
  visits : visit_seat (present_life w node) (input.Drain max) (seat_at w (present_life w node)) ≡ Some (record { node = life; seat = seat; now = seat.core.reading; input = input.Drain max })
  visits =
      ap (λ k. visit_seat k (input.Drain max) (seat_at w k)) own
      ∙ ap (λ (o : Option Seat). visit_seat life (input.Drain max) o) here

  pub drain_after : (c : Choice) → after_event s w (event.Drain node max) c ≡ drained s w life max
  unfolding after_event
  drain_after c = ap (λ (o : Option Visit). after_by s w (event.Drain node max) c o) visits

  pub drain_answered : (c : Choice) → answered_words s w (event.Drain node max) c ≡ drained_words (core.drained (begin seat.core seat.core.reading) max)
  drain_answered c = ap (gave_words max) visits

  pub drain_occurs : IsNode (length s.members) node → is_too_much (drained s w life max) ≡ false → Occurs s w (event.Drain node max) (drain_choice seat max)
  drain_occurs fit enough = record {
    fit = fit;
    comes = subst (λ (o : Option Visit). MayCome o (drain_choice seat max)) (sym visits) (record { steps = drain_steps seat.core seat.core.reading max no_choice.coming; fed = refl });
    enough = subst (λ (x : WorldState). is_too_much x ≡ false) (sym (drain_after (drain_choice seat max))) enough;
  }

  pub drain_reading : reading_of w node ≡ seat.core.reading
  drain_reading = ap (λ k. reading_in (seat_at w k)) own ∙ ap reading_in here

  pub drain_fits : (nodes now : ℕ) → IsRecord nodes (read_back (drain_line node now max seat)) → now ≡ seat.core.reading → IsNode (length s.members) node
      → is_too_much (drained s w life max) ≡ false → Fits nodes s w (drain_line node now max seat) (event.Drain node max) (drain_choice seat max)
  unfolding event_named
  drain_fits nodes now ranges is fit enough = record {
    ranges = ranges;
    reads = drain_reading ∙ sym is;
    named = refl;
    of_agent = tt;
    occurs = drain_occurs fit enough;
    answer = drain_answered (drain_choice seat max);
  }
