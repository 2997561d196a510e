-- What the sessions on the ends of each stream of a network are, and that a step of a node keeps it.
use Rattle.std.proofs.Common.{◌≡◌, refl, sym, ap, ◌∙◌, subst, ℕ, ◌==◌, ◌<◌, ◌*◌, ◌/◌, ◌%◌, ◌⊎◌, inl, inr, Bool, true, false, List, [], ◌++◌, Option, None, Some, reverse, slice_get, arith}
use Rattle.std.proofs.lemmas.Bool.{eqb-true, eqb-false}
use Rattle.std.proofs.lemmas.Option.{none-some}
use Rattle.grasp_model_node.specs.Queue.{Queued}
use Rattle.grasp_model_node.specs.BoundedNodes.{IsGiven}
use Rattle.grasp_session.specs.Conversation.{Said, spoken}
use Rattle.grasp_session.specs.Messages.{Side, Near, Far, other}
use Rattle.grasp_session.specs.Transcript.{Transcript}
use Rattle.grasp_types.specs.declared.message.Message.{Message}
use Rattle.grasp_model_network.specs.Runs.{IsReached}
use Rattle.grasp_model_network.specs.Setting.{Setting}
use Rattle.grasp_model_network.specs.Streams.{StreamEnd, StreamState, end_at}
use Rattle.grasp_model_network.specs.World.{Seat, WorldState, seat_at, end_of}
use Rattle.grasp_laws_delivery.proofs.Ends.{some_end}
use Rattle.grasp_laws_delivery.specs.Saying.{OfEachStream}
use Rattle.grasp_laws_negotiation.proofs.NodeMoves.{FarOpens, FromOld, FromNew, NodeMove, spoken_joined}
use Rattle.grasp_laws_negotiation.proofs.Standing.{NoStream, NetworkStands}
use Rattle.grasp_laws_negotiation.proofs.Steps.{dialled_there}
use Rattle.grasp_laws_negotiation.specs.Grounds.{Grounds}
use Rattle.grasp_laws_negotiation.proofs.TalkRuns.{spoken_onto}
use Rattle.grasp_laws_negotiation.proofs.Voices.{voices, near_says, near_silent}
use Rattle.grasp_laws_node_stories.specs.Stories.{gained, OpensIt}
use Rattle.grasp_laws_node_stories.specs.StreamMoves.{view_on, said_in, is_dial, some_move, sends_on}
use Rattle.grasp_laws_negotiation.proofs.FirstMoves.{FirstSpeaks, first_both, asked_some}
use Rattle.grasp_laws_negotiation.proofs.EndsSeen.{NearAt, FarAt, near_more, far_more, near_quiet, near_step, far_step, near_new, far_new}

-- what near said on a stream, oldest first
abbrev pub near_said : StreamState → List Message
near_said t = reverse (spoken Near t.said)

-- how the ends of a stream stand at their nodes
pub record TalkSeen (w : WorldState) (t : StreamState) : Type 0 where
  pub speaks : FirstSpeaks (near_said t)
  pub near : (seat : Seat) → seat_at w t.near.node ≡ Some seat → NearAt seat.core t.near.number (near_said t)
  pub far : (e : StreamEnd) → t.far ≡ Some e → (seat : Seat) → seat_at w e.node ≡ Some seat → FarAt seat.core e.number (near_said t)

abbrev pub TalksSeen : WorldState → Type 0
TalksSeen w = OfEachStream (TalkSeen w) w.streams

-- each stream was dialled on an even number
abbrev pub AreEven : WorldState → Type 0
AreEven w = OfEachStream (λ t. t.near.number % 2 ≡ 0) w.streams

same_seat : (o : Option Seat) (a b : Seat) → o ≡ Some a → o ≡ Some b → a ≡ b
same_seat o a b j k = cc

even_given : (n d : ℕ) → n % 2 ≡ 0 → IsGiven d n → (n ≡ 2 * (n / 2)) × (n / 2 < d)
even_given n d even (inl odd) = absurd (let a = even in let b = odd in omega (arith, a, b))
even_given n d even (inr low) = let a = even in let b = low in (omega (arith, a), omega (arith, a, b))

module _ (l : Grounds) (s : Setting) (w y : WorldState) (r : IsReached s w) (evens : AreEven y) (m : NodeMove w y) (k : NetworkStands w) (each : TalksSeen w) where
  abbrev qs : List Queued
  qs = gained m.seat.core m.new.core

  there_is : (seat : Seat) → seat_at y m.node ≡ Some seat → m.new ≡ seat
  there_is seat found = same_seat (seat_at y m.node) m.new seat m.there found

  -- ---- a stream that was there

  module _ (place : ℕ) (u : StreamState) (f : FromOld w m.node m.i qs place u) where
    said_is : near_said u ≡ near_said f.before ++ spoken Near (voices m.node u.near u.far qs)
    said_is = ap (λ (c : List Said). reverse (spoken Near c)) f.said ∙ spoken_joined Near (voices m.node u.near u.far qs) f.before.said

    was : TalkSeen w f.before
    was = each place f.before f.stands

    unopened : (side : Side) (e : StreamEnd) → end_at f.before side ≡ Some e → e.node ≡ m.node → OpensIt m.i e.number → ⊥
    unopened side e at here opens =
        m.opened e.number opens place f.before f.stands side (at ∙ ap (λ n. Some (end_of n e.number)) here)

    given : (side : Side) (e : StreamEnd) → end_at f.before side ≡ Some e → e.node ≡ m.node → some_move is_dial (m.story e.number).moves ≡ false
    given side e at here = (m.story e.number).new (m.comes place f.before f.stands side e at here (reverse (spoken (other side) f.before.said)) refl).given

    -- the near end
    near_then : (seat : Seat) → seat_at y f.before.near.node ≡ Some seat → NearAt seat.core f.before.near.number (near_said f.before)
    near_then seat found = by_node (m.node == f.before.near.node) refl where
      by_node : (c : Bool) → (m.node == f.before.near.node) ≡ c → NearAt seat.core f.before.near.number (near_said f.before)
      by_node true is =
          let e : StreamEnd = f.before.near in
          let here : e.node ≡ m.node = sym (eqb-true m.node e.node is) in
          subst (λ (z : Seat). NearAt z.core e.number (near_said f.before)) (there_is seat (ap (λ n. seat_at y n) (sym here) ∙ found))
          (near_step m.seat.core m.new.core m.now m.i m.x e.number (m.story e.number) (near_said f.before) (given Near e refl here) (unopened Near e refl here) (was.near m.seat (ap (λ n. seat_at w n) here ∙ m.here)))
      by_node false is = was.near seat (sym (m.others f.before.near.node (λ same. eqb-false m.node f.before.near.node is (sym same))) ∙ found)

    -- who has said nothing says nothing
    quiet : near_said f.before ≡ [] → spoken Near (voices m.node u.near u.far qs) ≡ []
    quiet nothing = ap (λ e. spoken Near (voices m.node e u.far qs)) f.near ∙ by_node (m.node == f.before.near.node) refl where
      by_view : (here : f.before.near.node ≡ m.node) → (o : Option Transcript) → view_on m.seat.core f.before.near.number ≡ o → sends_on f.before.near.number qs ≡ []
      by_view here (Some v) is = absurd (asked_some v.kind (near_said f.before) ((was.near m.seat (ap (λ n. seat_at w n) here ∙ m.here)).asked v is).1 nothing)
      by_view here None is =
          let n = f.before.near.number in
          (m.story n).said ∙ near_quiet m.seat.core m.new.core m.now m.i m.x n (m.story n) (near_said f.before) (given Near f.before.near refl here) (was.near m.seat (ap (λ n. seat_at w n) here ∙ m.here)) is

      by_node : (c : Bool) → (m.node == f.before.near.node) ≡ c → spoken Near (voices m.node f.before.near u.far qs) ≡ []
      by_node true is =
          let here : f.before.near.node ≡ m.node = sym (eqb-true m.node f.before.near.node is) in
          let own : f.before.near ≡ end_of m.node f.before.near.number = ap (λ n. end_of n f.before.near.number) here in
          ap (λ e. spoken Near (voices m.node e u.far qs)) own ∙ (near_says m.node u.far f.before.near.number qs ∙ by_view here (view_on m.seat.core f.before.near.number) refl)
      by_node false is = near_silent m.node f.before.near u.far qs is

    -- a far end that was there
    far_then : (e : StreamEnd) → f.before.far ≡ Some e → (seat : Seat) → seat_at y e.node ≡ Some seat → FarAt seat.core e.number (near_said f.before)
    far_then e at seat found = by_node (m.node == e.node) refl where
      by_node : (c : Bool) → (m.node == e.node) ≡ c → FarAt seat.core e.number (near_said f.before)
      by_node true is =
          let here : e.node ≡ m.node = sym (eqb-true m.node e.node is) in
          subst (λ (z : Seat). FarAt z.core e.number (near_said f.before)) (there_is seat (ap (λ n. seat_at y n) (sym here) ∙ found))
          (far_step m.seat.core m.new.core m.now m.i m.x e.number (m.story e.number) (near_said f.before) was.speaks (given Far e at here) (m.comes place f.before f.stands Far e at here (near_said f.before) refl)
          (was.far e at m.seat (ap (λ n. seat_at w n) here ∙ m.here)))
      by_node false is = was.far e at seat (sym (m.others e.node (λ same. eqb-false m.node e.node is (sym same))) ∙ found)

    -- one that is opened in this step
    far_opened : (o : FarOpens m.node m.i f.before u) → (seat : Seat) → seat_at y m.node ≡ Some seat → FarAt seat.core o.stream (near_said u)
    far_opened o seat found =
        let none : NoStream w.streams (end_of m.node o.stream) = m.opened o.stream o.opens in
        subst (λ (z : Seat). FarAt z.core o.stream (near_said u)) (there_is seat found)
        (far_new m.seat.core m.new.core m.now m.i m.x o.stream (m.story o.stream) (k.unseen m.node m.seat m.here o.stream none) (λ past e. m.recorded o.stream past e none) (near_said u)
        ((m.story o.stream).new (m.opened_given o.stream o.opens)))

    far_end : (e : StreamEnd) → u.far ≡ Some e → (seat : Seat) → seat_at y e.node ≡ Some seat → FarAt seat.core e.number (near_said u)
    far_end e at seat found = by_far f.far where
      by_far : (u.far ≡ f.before.far) ⊎ FarOpens m.node m.i f.before u → FarAt seat.core e.number (near_said u)
      by_far (inl same) =
          subst (FarAt seat.core e.number) (sym said_is)
          (far_more seat.core e.number (near_said f.before) (spoken Near (voices m.node u.near u.far qs)) (far_then e (sym same ∙ at) seat found))
      by_far (inr o) =
          let is : end_of m.node o.stream ≡ e = some_end (end_of m.node o.stream) e (sym o.opened ∙ at) in
          subst (λ (z : StreamEnd). FarAt seat.core z.number (near_said u)) is (far_opened o seat (subst (λ (z : StreamEnd). seat_at y z.node ≡ Some seat) (sym is) found))

    old_seen : TalkSeen y u
    old_seen = record {
      speaks = subst FirstSpeaks (sym said_is) (first_both (near_said f.before) (spoken Near (voices m.node u.near u.far qs)) was.speaks quiet);
      near = subst (λ (e : StreamEnd). (seat : Seat) → seat_at y e.node ≡ Some seat → NearAt seat.core e.number (near_said u)) (sym f.near)
          (λ seat found. subst (NearAt seat.core f.before.near.number) (sym said_is)
          (near_more seat.core f.before.near.number (near_said f.before) (spoken Near (voices m.node u.near u.far qs)) (near_then seat found)));
      far = far_end;
    }

  -- ---- a stream that is dialled

  module _ (place : ℕ) (u : StreamState) (is : slice_get y.streams place ≡ Some u) (f : FromNew w m.node qs u) where
    none : view_on m.seat.core f.stream ≡ None
    none = k.unseen m.node m.seat m.here f.stream f.new

    said_so : near_said u ≡ said_in None (m.story f.stream).moves
    said_so =
        ap (λ (c : List Said). reverse (spoken Near c)) f.said
        ∙ (spoken_onto Near (sends_on f.stream qs) [] ∙ ((m.story f.stream).said ∙ ap (λ v. said_in v (m.story f.stream).moves) none))

    even : f.stream % 2 ≡ 0
    even = subst (λ (e : StreamEnd). e.number % 2 ≡ 0) f.near (evens place u is)

    unopened_new : OpensIt m.i f.stream → ⊥
    unopened_new opens =
        let g = even_given f.stream m.seat.core.streams.dialled even (m.opened_given f.stream opens) in
        dialled_there l s w r m.node m.seat m.here f.stream (f.stream / 2) g.0 g.1 f.new

    new_end : NearAt m.new.core f.stream (said_in None (m.story f.stream).moves) × FirstSpeaks (said_in None (m.story f.stream).moves)
    new_end = near_new m.seat.core m.new.core m.now m.i m.x f.stream (m.story f.stream) none (λ past e. m.recorded f.stream past e f.new) unopened_new

    new_seen : TalkSeen y u
    new_seen = record {
      speaks = subst FirstSpeaks (sym said_so) new_end.1;
      near = subst (λ (e : StreamEnd). (seat : Seat) → seat_at y e.node ≡ Some seat → NearAt seat.core e.number (near_said u)) (sym f.near)
          (λ seat found. subst (λ (z : Seat). NearAt z.core f.stream (near_said u)) (there_is seat found) (subst (NearAt m.new.core f.stream) (sym said_so) new_end.0));
      far = λ e at. absurd (none-some e (sym f.far ∙ at));
    }

  pub move_seen : TalksSeen y
  move_seen place u is = by_from (m.comes_from place u is) where
    by_from : FromOld w m.node m.i qs place u ⊎ FromNew w m.node qs u → TalkSeen y u
    by_from (inl f) = old_seen place u f
    by_from (inr f) = new_seen place u is f
