-- What a member that runs takes is two turns of the network: its clock, and the event that gives it.
use Rattle.std.proofs.Common.{◌≡◌, ◌≢◌, refl, sym, ap, ◌∙◌, subst, ℕ, ◌-◌, Bool, true, false, List, length, take, slice_set, Option, Some, cond}
use Rattle.std.proofs.lemmas.Bool.{false≢true}
use Rattle.grasp_agent.specs.Replies as agent
use Rattle.grasp_agent.specs.Replies.{after_reply}
use Rattle.grasp_agent.specs.States.{AgentState}
use Rattle.grasp_laws_members.proofs.Clock.{begun_at, begun_seat, begins_same, steps_begun, clock_steps, clock_after, drain_leaves}
use Rattle.grasp_laws_members.proofs.Giving.{visited, begun_here, given}
use Rattle.grasp_laws_members.specs.Acts.{Act, IsTaken, Taken, agent_taking, agent_wanting, took, wanted}
use Rattle.grasp_laws_members.specs.Courses.{after_moment, at_node, clock_choice, of_want}
use Rattle.grasp_laws_members.specs.Giving.{Gives}
use Rattle.grasp_laws_network.proofs.EachNode.{nodes_are_sound}
use Rattle.grasp_laws_network.proofs.Going.{not_too_much, reached_more}
use Rattle.grasp_laws_network.proofs.Here.{numbered_within, present_least}
use Rattle.grasp_laws_network.proofs.Others.{others_stay, put_elsewhere, arrived_keeps, delivered_keeps, told_keeps}
use Rattle.grasp_laws_network.proofs.SameLives.{event_lives}
use Rattle.grasp_laws_network.proofs.Sent.{sending_keeps_nodes}
use Rattle.grasp_laws_network.proofs.Staying.{put_here}
use Rattle.grasp_model_network.specs.EventSteps.{after_agent, after_agent_call, after_arrival, after_cut, after_delivery, after_piece, agent_input, clock_seat}
use Rattle.grasp_model_network.specs.Events.{AreLengths, IsFit, Occurs, after_by, after_event, after_visit, drained_behind, drains, visit_of}
use Rattle.grasp_model_network.specs.Notes.{noted}
use Rattle.grasp_model_network.specs.Plans.{IsNode}
use Rattle.grasp_model_network.specs.Runs.{IsReached}
use Rattle.grasp_model_network.specs.Sending as network
use Rattle.grasp_model_network.specs.Sending.{drained_at, seat_with, stepped}
use Rattle.grasp_model_network.specs.Setting.{Setting, numbered}
use Rattle.grasp_model_network.specs.StreamChanges.{reached_side, side_named}
use Rattle.grasp_model_network.specs.Streams.{stream_numbered}
use Rattle.grasp_model_network.specs.Telling.{after_telling, after_told, want_told}
use Rattle.grasp_model_network.specs.Turns.{world_turned}
use Rattle.grasp_model_network.specs.Visits.{MayCome, Visit, no_choice}
use Rattle.grasp_model_network.specs.World.{Seat, WorldState, is_too_much, present_life, seat_at, with_seat}
use Rattle.grasp_model_network.specs.declared.event.Event.{Event}
use Rattle.grasp_model_network.specs.declared.event.Event.TheVariants as event
use Rattle.grasp_model_node.specs.Begin.{begin}
use Rattle.grasp_model_node.specs.BoundedNodes.{IsBoundedNode}
use Rattle.grasp_model_node.specs.Draining.{after_drain, closes}
use Rattle.grasp_model_node.specs.Node.{NodeState}
use Rattle.grasp_model_node.specs.Step.{Acts}
use Rattle.grasp_types.specs.declared.address.Locator.{Locator}
use Rattle.grasp_types.specs.declared.reply.Reply.{Reply}
use Rattle.grasp_types.specs.declared.traffic.Input.{Input}
use Rattle.grasp_types.specs.declared.traffic.Input.TheVariants as input

-- ---- one member goes on

-- the life in the network stands so afterwards, and each other one as it did
pub record Goes (w x : WorldState) (life : ℕ) (new : Seat) : Type 0 where
  pub lives : x.lives ≡ w.lives
  pub own : seat_at x life ≡ Some new
  pub others : (n : ℕ) → n ≢ life → seat_at x n ≡ seat_at w n

-- the seat after what happened
abbrev pub seat_then : Seat → Act → Seat
seat_then seat (took t) = seat_with t.choice.after (agent_taking seat.agent t)
seat_then seat (wanted short longest peer) = seat_with seat.core (agent_wanting seat.agent short longest peer)

-- ---- inputs

abbrev is_call : Input → Bool
is_call (input.Api asa call) = true
is_call _ = false

no_call : {A : Type 0} (i : Input) (a : AgentState) → is_call i ≡ false → i ≡ agent_input a → A
no_call i a not e = absurd (false≢true (sym not ∙ ap is_call e))

abbrev taking : Bool → AgentState → Reply → AgentState
taking own a r = cond own (after_reply a r) a

-- ---- what a member took

module _ (s : Setting) (w : WorldState) (node : ℕ) (seat : Seat) (here : seat_at w (present_life w node) ≡ Some seat) (r : IsReached s w) (member : IsNode (length s.members) node) (t : Taken) (is : IsTaken seat.core seat.agent t) (e : Event) (g : Gives s w node t.own t.input e) where
  abbrev life : ℕ
  life = present_life w node

  abbrev x : WorldState
  x = begun_at w life seat t.now

  bounded : IsBoundedNode seat.core
  bounded = nodes_are_sound.sound s w r life seat here

  abbrev v : Visit
  v = visited life seat t.now t.input

  visit_is : visit_of s x e ≡ Some v
  visit_is = given s w node t.now seat here t.own t.input e is.called g

  comes : MayCome (visit_of s x e) t.choice
  comes = subst (λ (o : Option Visit). MayCome o t.choice) (sym visit_is) (record {
    steps = steps_begun seat.core t.now t.input t.choice.coming t.choice.reply t.choice.after bounded is.steps;
    fed = is.fed;
  })

  -- ---- the clock

  clock_turn_is : after_event s w (event.Clock node t.now) (clock_choice t.now (Some seat)) ≡ x
  clock_turn_is = clock_after s w node t.now seat (clock_choice t.now (Some seat)) here refl

  clock_occurs : Occurs s w (event.Clock node t.now) (clock_choice t.now (Some seat))
  clock_occurs = record {
    fit = member;
    comes = subst (λ (o : Option Seat). MayCome (clock_seat life t.now o) (clock_choice t.now (Some seat))) (sym here) (clock_steps life seat t.now);
    enough = ap is_too_much clock_turn_is ∙ not_too_much s w r;
  }

  begun_reached : IsReached s x
  begun_reached = subst (IsReached s) clock_turn_is (reached_more s w (event.Clock node t.now) (clock_choice t.now (Some seat)) r clock_occurs)

  pub moment_is : after_moment s w (at_node node t e) ≡ after_event s x e t.choice
  unfolding world_turned
  moment_is =
      ap (λ (o : Option Seat). after_event s (after_event s w (event.Clock node t.now) (clock_choice t.now o)) e t.choice) here
      ∙ ap (λ (y : WorldState). after_event s y e t.choice) clock_turn_is

  -- ---- the event

  fits : (own : Bool) (i : Input) (f : Event) → Gives s w node own i f → IsFit s x f
  fits true (input.Api asa call) f h = subst (IsFit s x) (sym h) member
  fits false (input.Api asa call) f h = subst (IsFit s x) (sym h.0) (member, h.1, h.2)
  fits own (input.Datagram link from bytes) f h = subst (IsFit s x) (sym h.1) tt
  fits own (input.Opened stream from) f h = subst (IsFit s x) (sym h.1) tt
  fits own (input.Bytes stream bytes) f h = subst (IsFit s x) (sym h.3) tt
  fits own (input.Closed stream) f h = subst (IsFit s x) (sym h.2) tt
  fits own (input.Drain max) f h = subst (IsFit s x) (sym h) member

  held : (own : Bool) (i : Input) (f : Event) → Gives s w node own i f → drains f ≡ false
  held true (input.Api asa call) f h = ap drains h
  held false (input.Api asa call) f h = ap drains h.0
  held own (input.Datagram link from bytes) f h = ap drains h.1
  held own (input.Opened stream from) f h = ap drains h.1
  held own (input.Bytes stream bytes) f h = ap drains h.3
  held own (input.Closed stream) f h = ap drains h.2
  held own (input.Drain max) f h = ap drains h

  event_is : after_event s x e t.choice ≡ after_visit s x e v t.choice
  unfolding after_event
  event_is =
      ap (after_by s x e t.choice) visit_is
      ∙ ap (λ (b : Bool). drained_behind b s (after_visit s x e v t.choice) life) (held t.own t.input e g)

  -- ---- the seat that it puts

  abbrev Puts : Bool → Input → Event → Type 0
  Puts own i f = (after_visit s x f (visited life seat t.now i) t.choice).seats ≡ slice_set x.seats (life - 1) (seat_with t.choice.after (taking own seat.agent t.choice.reply))

  drain_puts : (max : ℕ) → after_drain (begin seat.core t.now) max ≡ t.choice.after → Puts false (input.Drain max) (event.Drain node max)
  unfolding network.drained
  drain_puts max left =
      ap (λ (o : Option Seat). (drained_at s x life max o).seats) (begun_here s w node t.now seat here)
      ∙ (sending_keeps_nodes s (with_seat x life (seat_with (after_drain again max) seat.agent)) life (take max again.queue) (closes again max)
      ∙ ap (λ (n : NodeState). slice_set x.seats (life - 1) (seat_with n seat.agent)) (ap (λ (n : NodeState). after_drain n max) (begins_same seat.core t.now bounded) ∙ left))
    where
      again : NodeState
      again = begin (begin seat.core t.now) (begin seat.core t.now).reading

  abbrev Acted : Input → Type 0
  Acted i = Acts (begin seat.core t.now) i t.choice.coming t.choice.reply t.choice.after

  puts : (own : Bool) (i : Input) (f : Event) → Acted i → (own ≡ true → i ≡ agent_input seat.agent) → Gives s w node own i f → Puts own i f
  unfolding after_agent after_agent_call after_delivery after_arrival after_piece after_cut noted stepped
  puts true (input.Api asa call) f acts next h = subst (Puts true (input.Api asa call)) (sym h) refl
  puts false (input.Api asa call) f acts next h = subst (Puts false (input.Api asa call)) (sym h.0) refl
  puts true (input.Datagram link from bytes) f acts next h = no_call (input.Datagram link from bytes) seat.agent refl (next refl)
  puts false (input.Datagram link from bytes) f acts next h = subst (Puts false (input.Datagram link from bytes)) (sym h.1) refl
  puts true (input.Opened stream from) f acts next h = no_call (input.Opened stream from) seat.agent refl (next refl)
  puts false (input.Opened stream from) f acts next h =
      subst (Puts false (input.Opened stream from)) (sym h.1)
      (ap (λ (seats : List Seat). slice_set seats (life - 1) (seat_with t.choice.after seat.agent))
      (arrived_keeps x (visited life seat t.now (input.Opened stream from)) (s.arrives_as life h.0) t.choice.reply (stream_numbered x.streams h.0)))
  puts true (input.Bytes stream bytes) f acts next h = no_call (input.Bytes stream bytes) seat.agent refl (next refl)
  puts false (input.Bytes stream bytes) f acts next h =
      subst (Puts false (input.Bytes stream bytes)) (sym h.3)
      (ap (λ (seats : List Seat). slice_set seats (life - 1) (seat_with t.choice.after seat.agent)) (delivered_keeps x h.2 (reached_side x h.0 (side_named h.1))))
  puts true (input.Closed stream) f acts next h = no_call (input.Closed stream) seat.agent refl (next refl)
  puts false (input.Closed stream) f acts next h =
      subst (Puts false (input.Closed stream)) (sym h.2)
      (ap (λ (seats : List Seat). slice_set seats (life - 1) (seat_with t.choice.after seat.agent)) (told_keeps x (reached_side x h.0 (side_named h.1))))
  puts true (input.Drain max) f acts next h = no_call (input.Drain max) seat.agent refl (next refl)
  puts false (input.Drain max) f acts next h =
      subst (Puts false (input.Drain max)) (sym h)
      (drain_puts max (sym (drain_leaves (begin seat.core t.now) t.choice.after max t.choice.reply is.fed acts)))

  -- ---- the network after both turns

  abbrev y : WorldState
  y = after_event s x e t.choice

  abbrev new : Seat
  new = seat_then seat (took t)

  put : seat_at y life ≡ Some new
  put =
      ap (λ (z : WorldState). seat_at z life) event_is
      ∙ (ap (λ (seats : List Seat). numbered seats life) (puts t.own t.input e is.steps.acts is.called g)
      ∙ put_here x.seats life (begun_seat seat t.now) new (begun_here s w node t.now seat here))

  event_goes : Goes w y life new
  event_goes = record {
    lives = event_lives s x e t.choice;
    own = put;
    others = λ n apart. others_stay s x e t.choice v n visit_is apart ∙ put_elsewhere w.seats life n (begun_seat seat t.now) (present_least w node) apart;
  }

  pub taking_goes : Goes w (after_moment s w (at_node node t e)) life (seat_then seat (took t))
  taking_goes = subst (λ (z : WorldState). Goes w z life new) (sym moment_is) event_goes

  pub taking_reached : is_too_much (after_moment s w (at_node node t e)) ≡ false → IsReached s (after_moment s w (at_node node t e))
  taking_reached enough =
      subst (IsReached s) (sym moment_is)
      (reached_more s x e t.choice begun_reached (record {
        fit = fits t.own t.input e g;
        comes = comes;
        enough = ap is_too_much (sym moment_is) ∙ enough;
      }))

-- ---- what a member's agent wants

module _ (s : Setting) (w : WorldState) (node short longest : ℕ) (peer : Locator) (number : ℕ) (seat : Seat) (here : seat_at w (present_life w node) ≡ Some seat) (r : IsReached s w) (found : numbered s.peers number ≡ Some peer) where
  abbrev wanting : WorldState
  wanting = with_seat w (present_life w node) (seat_then seat (wanted short longest peer))

  want_is : after_moment s w (of_want node short longest peer number) ≡ wanting
  unfolding world_turned after_event
  want_is =
      ap (λ (o : Option Locator). after_told w (want_told (present_life w node) short longest o)) found
      ∙ ap (after_telling w (record { node = present_life w node; what = agent.wanted short longest peer })) here

  pub wanting_goes : Goes w (after_moment s w (of_want node short longest peer number)) (present_life w node) (seat_then seat (wanted short longest peer))
  wanting_goes = subst (λ (z : WorldState). Goes w z (present_life w node) (seat_then seat (wanted short longest peer))) (sym want_is) (record {
    lives = refl;
    own = put_here w.seats (present_life w node) seat (seat_then seat (wanted short longest peer)) here;
    others = λ n apart. put_elsewhere w.seats (present_life w node) n (seat_then seat (wanted short longest peer)) (present_least w node) apart;
  })

  want_turn : after_event s w (event.Want node short longest number) no_choice ≡ wanting
  unfolding world_turned
  want_turn = want_is

  pub wanting_reached : IsNode (length s.members) node → AreLengths short longest → IsReached s (after_moment s w (of_want node short longest peer number))
  unfolding world_turned
  wanting_reached member lengths = reached_more s w (event.Want node short longest number) no_choice r (record {
    fit = (member, numbered_within s.peers number peer found, lengths);
    comes = tt;
    enough = ap is_too_much want_turn ∙ not_too_much s w r;
  })
