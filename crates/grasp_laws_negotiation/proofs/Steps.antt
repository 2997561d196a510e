-- The step of each event is a step of one node, on streams in order.
use Rattle.std.proofs.Common.{◌≡◌, ◌≤◌, ◌<◌, ◌%◌, ◌*◌, ◌/◌, ◌-◌, ℕ, zero, suc, ◌==◌, Bool, true, false, cond, List, [], ◌∷◌, ◌++◌, inl, inr, Option, Some, None, length, reverse, slice_get, refl, sym, ap, ◌∙◌, subst, arith, append_assoc}
use Rattle.std.proofs.lemmas.Bool.{eqb-true, true≢false}
use Rattle.std.proofs.lemmas.List.{append-nil}
use Rattle.std.proofs.lemmas.Option.{none-some, same_Some}
use Rattle.grasp_model_node.specs.Begin.{begin}
use Rattle.grasp_model_node.specs.Node.{NodeState}
use Rattle.grasp_model_node.specs.BoundedNodes.{IsGiven, IsBoundedNode}
use Rattle.grasp_model_node.specs.Step.{Coming, NodeStep}
use Rattle.grasp_model_node.specs.Streams.{past_of}
use Rattle.grasp_types.specs.declared.message.Message.{Message}
use Rattle.grasp_types.specs.declared.reply.Reply.{Reply}
use Rattle.grasp_types.specs.declared.traffic.Input.{Input}
use Rattle.grasp_wire.specs.Cutter.{Past}
use Rattle.grasp_laws_node_stories.specs.Stories.{came_by, fault_by, fault_on, Story, IsClear, OpensIt}
use Rattle.grasp_laws_node_stories.specs.StreamMoves.{view_on, is_dial, some_move}
use Rattle.grasp_session.specs.Conversation.{spoken}
use Rattle.grasp_session.specs.Messages.{Side, Near, Far, other}
use Rattle.grasp_laws_network.proofs.EachNode.{nodes_are_sound}
use Rattle.grasp_laws_network.specs.Keeping.{IsLonger}
use Rattle.grasp_laws_network.specs.Nodes.{OfEachNode}
use Rattle.grasp_model_network.specs.Plans as plans
use Rattle.grasp_model_network.specs.Runs.{IsReached}
use Rattle.grasp_model_network.specs.Setting.{Setting}
use Rattle.grasp_model_network.specs.Streams.{StreamEnd, StreamState, end_at, sent_by, is_same_end, count_at_end}
use Rattle.grasp_model_network.specs.World.{Seat, WorldState, seat_at, end_of}
use Rattle.grasp_laws_delivery.proofs.Ends.{same_ends}
use Rattle.grasp_laws_delivery.specs.Saying.{said_by}
use Rattle.grasp_laws_delivery.specs.Ready.{Every, HasGoodEnds, HasGoodNumber, HasGoodFar}
use Rattle.grasp_laws_negotiation.proofs.EndSteps.{ComesInOrder}
use Rattle.grasp_laws_negotiation.proofs.Standing.{NoStream, NetworkStands}
use Rattle.grasp_laws_negotiation.proofs.StreamsMade.{none_counted}
use Rattle.grasp_laws_negotiation.specs.Grounds.{Grounds}

pub every_at : {A : Type 0} (P : A → Type 0) (xs : List A) (place : ℕ) (x : A) → Every P xs → slice_get xs place ≡ Some x → P x
every_at P [] place x each is = absurd (none-some x is)
every_at P (y ∷ ys) zero x each is = subst P (same_Some y x is) each.0
every_at P (y ∷ ys) (suc place) x each is = every_at P ys place x each.1 is

-- a node of a number that is there has a seat
there_is : {A : Type 0} (xs : List A) (i : ℕ) → i < length xs → (x : A) × (slice_get xs i ≡ Some x)
there_is [] i low = absurd (none_low i low) where
  none_low : (k : ℕ) → k < 0 → ⊥
  none_low k h = omega arith
there_is (x ∷ xs) zero low = (x, refl)
there_is (x ∷ xs) (suc i) low = there_is xs i (less i (length xs) low) where
  less : (a b : ℕ) → suc a < suc b → a < b
  less a b h = omega arith

pub seat_of : (w : WorldState) (node : ℕ) → plans.IsNode (length w.seats) node → (seat : Seat) × (seat_at w node ≡ Some seat)
seat_of w node here = by_zero (node == 0) refl where
  not_zero : (k : ℕ) → 1 ≤ k → k ≡ 0 → ⊥
  not_zero k a b = omega arith

  by_zero : (b : Bool) → (node == 0) ≡ b → (seat : Seat) × (seat_at w node ≡ Some seat)
  by_zero true is = absurd (not_zero node here.least (eqb-true node 0 is))
  by_zero false is =
      let least : 1 ≤ node = here.least in
      let most : node ≤ length w.seats = here.most in
      let f = there_is w.seats (node - 1) (omega (arith, least, most)) in
      (f.0, ap (λ b. cond b None (slice_get w.seats (node - 1))) is ∙ f.1)

module _ (l : Grounds) (s : Setting) (w : WorldState) (r : IsReached s w) where
  sound : OfEachNode (λ node n. IsBoundedNode n) w
  sound = nodes_are_sound.sound s w r

  -- ---- ends

  ends_of : (place : ℕ) (t : StreamState) → slice_get w.streams place ≡ Some t → HasGoodEnds s (length w.seats) w.dials t.near t.number t.far
  ends_of place t is = every_at (λ t. HasGoodEnds s (length w.seats) w.dials t.near t.number t.far) w.streams place t (l.ready.ends s w r) is

  odd_far : (nodes dials : ℕ) (number : Option ℕ) (e : StreamEnd) → HasGoodNumber dials number → HasGoodFar s nodes number (Some e) → e.number % 2 ≡ 1
  odd_far nodes dials None e g h = absurd h
  odd_far nodes dials (Some k) e g h = ap (λ n. n % 2) h.1 ∙ r.good.arrivals_odd e.node k g.0

  far_odd : (place : ℕ) (t : StreamState) → slice_get w.streams place ≡ Some t → (e : StreamEnd) → t.far ≡ Some e → e.number % 2 ≡ 1
  far_odd place t is e at =
      let g = ends_of place t is in
      odd_far (length w.seats) w.dials t.number e g.dialled (subst (λ f. HasGoodFar s (length w.seats) t.number f) at g.opened)

  pub ends_apart : (place : ℕ) (t : StreamState) → slice_get w.streams place ≡ Some t → (e : StreamEnd) → t.far ≡ Some e → is_same_end e t.near ≡ false
  ends_apart place t is e at = by_test (is_same_end e t.near) refl where
    odd_even : (a b : ℕ) → a ≡ b → a % 2 ≡ 1 → b % 2 ≡ 0 → ⊥
    odd_even a b e f g = omega arith

    by_test : (b : Bool) → is_same_end e t.near ≡ b → b ≡ false
    by_test true same = absurd (odd_even e.number t.near.number (ap (λ (x : StreamEnd). x.number) (same_ends e t.near same)) (far_odd place t is e at) (ends_of place t is).even)
    by_test false same = refl

  given_end : (place : ℕ) (t : StreamState) → slice_get w.streams place ≡ Some t → (side : Side) (e : StreamEnd) → end_at t side ≡ Some e → (node : ℕ) (seat : Seat) → seat_at w node ≡ Some seat → e.node ≡ node
      → IsGiven seat.core.streams.dialled e.number
  given_end place t is Near e at node seat here same =
      let near : t.near ≡ e = same_Some t.near e at in
      let low : t.near.node ≡ node → t.near.number < 2 * seat.core.streams.dialled = every_at (λ (t : StreamState). t.near.node ≡ node → t.near.number < 2 * seat.core.streams.dialled) w.streams place t (l.ready.next s w r node seat here) is in
      inr (subst (λ (x : StreamEnd). x.number < 2 * seat.core.streams.dialled) near (low (ap (λ (x : StreamEnd). x.node) near ∙ same)))
  given_end place t is Far e at node seat here same = inl (far_odd place t is e at)

  -- ---- what was said

  longer_then : (a b c : List Message) → IsLonger a b → IsLonger b c → IsLonger a c
  longer_then a b c p q = (p.0 ++ q.0, q.1 ∙ (ap (λ (k : List Message). k ++ q.0) p.1 ∙ append_assoc a p.0 q.0))

  none_sent : (sent said : List Message) → sent ≡ [] → IsLonger sent said
  none_sent sent said e = (said, ap (λ (k : List Message). k ++ said) (sym e))

  -- what a side sent is the first that it said
  sent_said : (place : ℕ) (t : StreamState) → slice_get w.streams place ≡ Some t → (side : Side) → IsLonger (sent_by t side).sent (said_by t side)
  sent_said place t is side = by_end side (end_at t side) refl where
    member_of : (k : Side) (e : StreamEnd) → end_at t k ≡ Some e → plans.IsNode (length w.seats) e.node
    member_of Near e at = subst (λ (x : StreamEnd). plans.IsNode (length w.seats) x.node) (same_Some t.near e at) (ends_of place t is).member
    member_of Far e at = by_number t.number (subst (λ f. HasGoodFar s (length w.seats) t.number f) at (ends_of place t is).opened) where
      by_number : (number : Option ℕ) → HasGoodFar s (length w.seats) number (Some e) → plans.IsNode (length w.seats) e.node
      by_number None h = absurd h
      by_number (Some k) h = h.0

    by_end : (k : Side) (o : Option StreamEnd) → end_at t k ≡ o → IsLonger (sent_by t k).sent (said_by t k)
    by_end Near None at = absurd (none-some t.near (sym at))
    by_end Far None at = none_sent (sent_by t Far).sent (said_by t Far) ((l.said.unopened s w r place t is).sent at)
    by_end k (Some e) at =
        let f = seat_of w e.node (member_of k e at) in
        (_, l.said.said s w r e.node f.0 f.1 place t is k e.number at)

  -- ---- what comes

  -- on each stream of the node what an input brings are the next messages that the other side sent, and no fault
  abbrev pub AddsInOrder : ℕ → Seat → ℕ → Input → Coming → Type 0
  AddsInOrder node seat now i x = (place : ℕ) (t : StreamState) → slice_get w.streams place ≡ Some t → (side : Side) (stream : ℕ) → end_at t side ≡ Some (end_of node stream)
      → (past : Past) → past_of (begin seat.core now).streams stream ≡ Some past → IsLonger (past.given ++ came_by i x stream) (sent_by t (other side)).sent × (fault_by i x stream ≡ false)

  -- nothing comes
  abbrev pub BringsNothing : Input → Type 0
  BringsNothing i = (x : Coming) (stream : ℕ) → (came_by i x stream ≡ []) × (fault_by i x stream ≡ false)

  module _ (k : NetworkStands w) (node : ℕ) (seat : Seat) (here : seat_at w node ≡ Some seat) (after : NodeState) (now : ℕ) (i : Input) (x : Coming) (q : Reply) (step : NodeStep seat.core now i x q after) where
    pub story_of : (stream : ℕ) → Story seat.core now i x after stream
    story_of stream = l.stories seat.core after now i x q stream (sound node seat here) (k.clear node seat here stream) step

    pub clear_of : (stream : ℕ) → (OpensIt i stream → view_on seat.core stream ≡ None) → IsClear after stream
    clear_of stream opens = l.clears.1 seat.core after now i x q stream (sound node seat here) (k.clear node seat here stream) opens step

    -- what an open stream was given before is the first that the other side sent
    pub given_before : (place : ℕ) (t : StreamState) → slice_get w.streams place ≡ Some t → (side : Side) (stream : ℕ) → end_at t side ≡ Some (end_of node stream)
        → (past : Past) → past_of (begin seat.core now).streams stream ≡ Some past → IsLonger past.given (sent_by t (other side)).sent
    given_before place t is side stream at past is_open = l.given.given s w r node seat here stream past ((story_of stream).begun past is_open) place t is side at

    pub nothing_added : BringsNothing i → AddsInOrder node seat now i x
    nothing_added none place t is side stream at past is_open =
        let z = none x stream in
        let g : IsLonger past.given (sent_by t (other side)).sent = given_before place t is side stream at past is_open in
        (subst (λ (m : List Message). IsLonger m (sent_by t (other side)).sent) (sym (ap (λ (m : List Message). past.given ++ m) z.0 ∙ append-nil past.given)) g, z.1)

    pub comes_of : AddsInOrder node seat now i x → (place : ℕ) (t : StreamState) → slice_get w.streams place ≡ Some t → (side : Side) (e : StreamEnd) → end_at t side ≡ Some e → e.node ≡ node
        → (said : List Message) → said ≡ reverse (spoken (other side) t.said) → ComesInOrder seat.core now i x e.number said
    comes_of adds place t is side e at same said said_is = record {
      given = given_end place t is side e at node seat here same;
      no_fault = by_past (past_of (begin seat.core now).streams e.number) refl;
      front = λ past is_open.
          longer_then (past.given ++ came_by i x e.number) (sent_by t (other side)).sent said (adds place t is side e.number own past is_open).0
          (subst (λ (m : List Message). IsLonger (sent_by t (other side)).sent m) (sym said_is) (sent_said place t is (other side)));
    } where
      own : end_at t side ≡ Some (end_of node e.number)
      own = at ∙ ap (λ n. Some (end_of n e.number)) same

      by_past : (o : Option Past) → past_of (begin seat.core now).streams e.number ≡ o → fault_on o i x e.number ≡ false
      by_past None is_open = refl
      by_past (Some past) is_open = (adds place t is side e.number own past is_open).1

    pub is_recorded : (stream : ℕ) (past : Past) → past_of seat.core.streams stream ≡ Some past → NoStream w.streams (end_of node stream) → ⊥
    is_recorded stream past is_open none = let h = (l.records s w r node seat here stream past is_open).stream in none h.place h.talk h.stands h.side h.ends

    -- what is dialled is an even number below that of the next stream
    pub dialled_low : (stream : ℕ) → some_move is_dial (story_of stream).moves ≡ true → (d : ℕ) × (stream ≡ 2 * d) × (d < after.streams.dialled)
    dialled_low stream dials = by_given ((story_of stream).given dials) where
      not_given : IsGiven seat.core.streams.dialled stream → ⊥
      not_given g = true≢false (sym dials ∙ (story_of stream).new g)

      odd_even : (n : ℕ) → (n % 2 ≡ 1 → ⊥) → n ≡ 2 * (n / 2)
      odd_even n h = omega arith

      low : (n a : ℕ) → n ≡ 2 * (n / 2) → n < 2 * a → n / 2 < a
      low n a e h = omega arith

      by_given : IsGiven after.streams.dialled stream → (d : ℕ) × (stream ≡ 2 * d) × (d < after.streams.dialled)
      by_given (inl odd) = absurd (not_given (inl odd))
      by_given (inr below) = let even = odd_even stream (λ odd. not_given (inl odd)) in (stream / 2, even, low stream after.streams.dialled even below)

-- what a node dialled is a stream
pub dialled_there : (l : Grounds) (s : Setting) (y : WorldState) → IsReached s y → (node : ℕ) (new : Seat) → seat_at y node ≡ Some new → (stream d : ℕ) → stream ≡ 2 * d → d < new.core.streams.dialled
    → NoStream y.streams (end_of node stream) → ⊥
dialled_there l s y r node new there stream d even low none =
    zero_one (count_at_end y.streams (end_of node (2 * d))) (none_counted (end_of node (2 * d)) y.streams (subst (λ n. NoStream y.streams (end_of node n)) even none)) (l.ready.nears s y r node new there d low) where
      zero_one : (a : ℕ) → a ≡ 0 → a ≡ 1 → ⊥
      zero_one a e f = omega arith
