-- The clock of a node begins its step, and changes nothing else; a step that has begun goes on as if it began then.
use Rattle.std.proofs.Common.{◌≡◌, refl, sym, ap, ◌∙◌, subst, max, ℕ, ◌-◌, List, [], ◌∷◌, drop, length, slice_set, Option, Some, false, arith}
use Rattle.std.proofs.lemmas.Bool.{false≢true}
use Rattle.grasp_laws_members.specs.Courses.{clock_choice}
use Rattle.grasp_laws_members.specs.Laws.{ClocksBeginSteps}
use Rattle.grasp_laws_network.proofs.EachNode.{drain_steps}
use Rattle.grasp_laws_node.proofs.Beginning.{beginnings_end, twice, drain_of_nothing}
use Rattle.grasp_model_network.specs.EventSteps.{after_clock, clock_seat}
use Rattle.grasp_model_network.specs.Events.{after_by, after_event}
use Rattle.grasp_model_network.specs.Sending.{gained, seat_with, stepped, streams_made}
use Rattle.grasp_model_network.specs.Setting.{Setting}
use Rattle.grasp_model_network.specs.Visits.{Choice, MayCome, Visit, VisitStep, is_starved, no_choice}
use Rattle.grasp_model_network.specs.World.{Seat, WorldState, present_life, seat_at, with_seat}
use Rattle.grasp_model_network.specs.declared.event.Event.TheVariants as event
use Rattle.grasp_model_node.specs.Begin.{begin, discoveries_expired, expired, floods_expired}
use Rattle.grasp_model_node.specs.BoundedNodes.{IsBoundedNode}
use Rattle.grasp_model_node.specs.Draining as core
use Rattle.grasp_model_node.specs.Moves.{with_reading}
use Rattle.grasp_model_node.specs.Node.{NodeState}
use Rattle.grasp_model_node.specs.Queue.{Queued}
use Rattle.grasp_model_node.specs.Step.{Acts, Coming, Drains, IsComing, NodeStep}
use Rattle.grasp_types.specs.declared.reply.Reply.{Reply}
use Rattle.grasp_types.specs.declared.reply.Reply.TheVariants as reply
use Rattle.grasp_types.specs.declared.traffic.Input.{Input}
use Rattle.grasp_types.specs.declared.traffic.Input.TheVariants as input

-- ---- a beginning

all_gone : {A : Type 0} (xs : List A) → drop (length xs) xs ≡ []
all_gone [] = refl
all_gone (x ∷ xs) = all_gone xs

-- nothing is queued by it
pub nothing_gained : (n : NodeState) (now : ℕ) → gained n (core.after_drain (begin n now) 0) ≡ []
nothing_gained n now =
    ap (λ (m : NodeState). drop (length n.queue) m.queue) (drain_of_nothing n now)
    ∙ (ap (λ (q : List Queued). drop (length n.queue) q) (beginnings_end n now).0.queue ∙ all_gone n.queue)

larger : (a b : ℕ) → max (max a b) (max a b) ≡ max (max a b) b
larger a b = grind arith

same_reading : (n : NodeState) (now : ℕ) → max (begin n now).reading (begin n now).reading ≡ max (begin n now).reading now
same_reading n now =
    ap (λ (r : ℕ). max r r) (beginnings_end n now).0.reading ∙ (larger n.reading now ∙ ap (λ (r : ℕ). max r now) (sym (beginnings_end n now).0.reading))

begins_at : (m : NodeState) (a b : ℕ) → max m.reading a ≡ max m.reading b → begin m a ≡ begin m b
unfolding begin with_reading
begins_at m a b e = ap (λ (r : ℕ). floods_expired (discoveries_expired (expired 64 (record m { reading = r })))) e

-- at the node's own reading it is the same once more
pub begins_same : (n : NodeState) (now : ℕ) → IsBoundedNode n → begin (begin n now) (begin n now).reading ≡ begin n now
begins_same n now bounded = begins_at (begin n now) (begin n now).reading now (same_reading n now) ∙ twice n now bounded

-- a step is one of the node whose step has begun
pub steps_begun : (n : NodeState) (now : ℕ) (i : Input) (x : Coming) (r : Reply) (after : NodeState) → IsBoundedNode n → NodeStep n now i x r after
    → NodeStep (begin n now) (begin n now).reading i x r after
steps_begun n now i x r after bounded s = record {
  is_coming = subst (λ (m : NodeState). IsComing m i x) (sym (begins_same n now bounded)) s.is_coming;
  acts = subst (λ (m : NodeState). Acts m i x r after) (sym (begins_same n now bounded)) s.acts;
}

-- ---- the clock of a node

-- the seat once its step has begun
abbrev pub begun_seat : Seat → ℕ → Seat
begun_seat seat now = seat_with (begin seat.core now) seat.agent

-- the network then
abbrev pub begun_at : WorldState → ℕ → Seat → ℕ → WorldState
begun_at w life seat now = with_seat w life (begun_seat seat now)

abbrev clock_visited : ℕ → Seat → ℕ → Visit
clock_visited life seat now = record { node = life; seat = seat; now = now; input = input.Drain 0 }

pub clock_steps : (life : ℕ) (seat : Seat) (now : ℕ) → VisitStep (clock_visited life seat now) (clock_choice now (Some seat))
clock_steps life seat now = record { steps = drain_steps seat.core now 0 no_choice.coming; fed = refl }

-- a drain for which there is memory leaves this
pub drain_leaves : (n after : NodeState) (max : ℕ) (r : Reply) → is_starved r ≡ false → Drains n max r after → after ≡ core.after_drain n max
drain_leaves n after max (reply.Outputs outputs) fed d = d.1
drain_leaves n after max reply.OutOfMemory fed d = absurd (false≢true (sym fed))
drain_leaves n after max _ fed d = absurd d

-- however the clock comes out
clock_leaves : (life : ℕ) (seat : Seat) (now : ℕ) (c : Choice) → VisitStep (clock_visited life seat now) c → c.after ≡ core.after_drain (begin seat.core now) 0
clock_leaves life seat now c s = drain_leaves (begin seat.core now) c.after 0 c.reply s.fed s.steps.acts

clock_stepped : (w : WorldState) (life : ℕ) (seat : Seat) (now : ℕ) (c : Choice) → c.after ≡ core.after_drain (begin seat.core now) 0 → after_clock w (clock_visited life seat now) c ≡ begun_at w life seat now
unfolding after_clock stepped streams_made
clock_stepped w life seat now c left =
    ap (λ (m : NodeState). record w { seats = slice_set w.seats (life - 1) (seat_with m seat.agent); streams = streams_made life w.streams (gained seat.core m) }) left
    ∙ (ap (λ (q : List Queued). record w {
      seats = slice_set w.seats (life - 1) (seat_with (core.after_drain (begin seat.core now) 0) seat.agent);
      streams = streams_made life w.streams q;
    }) (nothing_gained seat.core now)
    ∙ ap (λ (m : NodeState). with_seat w life (seat_with m seat.agent)) (drain_of_nothing seat.core now))

pub clock_after : (s : Setting) (w : WorldState) (node now : ℕ) (seat : Seat) (c : Choice) → seat_at w (present_life w node) ≡ Some seat → c.after ≡ core.after_drain (begin seat.core now) 0
    → after_event s w (event.Clock node now) c ≡ begun_at w (present_life w node) seat now
unfolding after_event
clock_after s w node now seat c here left =
    ap (λ (o : Option Seat). after_by s w (event.Clock node now) c (clock_seat (present_life w node) now o)) here
    ∙ clock_stepped w (present_life w node) seat now c left

pub clocks_begin_steps : ClocksBeginSteps
clocks_begin_steps s w node now c seat here o =
    clock_after s w node now seat c here
    (clock_leaves (present_life w node) seat now c (subst (λ (x : Option Seat). MayCome (clock_seat (present_life w node) now x) c) here o.comes))
