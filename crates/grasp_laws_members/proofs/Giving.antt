-- What the network gives a member is the input of the step that the event makes, once the member's clock was shown.
use Rattle.std.proofs.Common.{◌≡◌, ◌⊎◌, inl, inr, refl, sym, ap, ◌∙◌, ℕ, Bool, true, false, List, Option, Some, None, cond}
use Rattle.std.proofs.lemmas.Bool.{cases_eq}
use Rattle.std.proofs.lemmas.Option.{same_Some}
use Rattle.grasp_laws_members.proofs.Clock.{begun_at, begun_seat}
use Rattle.grasp_laws_members.specs.Giving.{Gives, IsCalledBy, IsDialledTo, IsNextOf, IsOpenAt, IsSentTo}
use Rattle.grasp_laws_network.proofs.Here.{present_least}
use Rattle.grasp_laws_network.proofs.Others.{put_elsewhere}
use Rattle.grasp_laws_network.proofs.Staying.{put_here}
use Rattle.grasp_laws_node.proofs.Beginning.{beginnings_end}
use Rattle.grasp_model_network.specs.EventSteps.{agent_input, agent_seat, agent_visit, arrival_visit, cut_at, cut_visit, datagram_at, datagram_visit, opened_at, opened_stream, piece_at, piece_visit}
use Rattle.grasp_model_network.specs.Events.{visit_of}
use Rattle.grasp_model_network.specs.Setting.{Setting, member_at}
use Rattle.grasp_model_network.specs.StreamChanges.{reached_at, reached_in, reached_side, side_named}
use Rattle.grasp_model_network.specs.Streams.{end_at, next_bytes}
use Rattle.grasp_model_network.specs.Visits.{Visit, visit, visit_seat}
use Rattle.grasp_model_network.specs.World.{Seat, WorldState, end_of, present_life, seat_at}
use Rattle.grasp_model_network.specs.declared.event.Event.{Event}
use Rattle.grasp_model_network.specs.declared.event.Event.TheVariants as event
use Rattle.grasp_model_node.specs.Begin.{begin}
use Rattle.grasp_model_node.specs.Queue.{encoding}
use Rattle.grasp_model_node.specs.declared.plan.NodePlan.{NodePlan}
use Rattle.grasp_session.specs.Messages.{Side, other}
use Rattle.grasp_types.specs.declared.address.Address.{Address}
use Rattle.grasp_types.specs.declared.call.Call.{Call}
use Rattle.grasp_types.specs.declared.traffic.Input.{Input}
use Rattle.grasp_types.specs.declared.traffic.Input.TheVariants as input

-- the step of a member whose step has begun
abbrev pub visited : ℕ → Seat → ℕ → Input → Visit
visited life seat now i = record { node = life; seat = begun_seat seat now; now = (begin seat.core now).reading; input = i }

module _ (s : Setting) (w : WorldState) (node now : ℕ) (seat : Seat) (here : seat_at w (present_life w node) ≡ Some seat) where
  abbrev life : ℕ
  life = present_life w node

  abbrev x : WorldState
  x = begun_at w life seat now

  pub begun_here : seat_at x life ≡ Some (begun_seat seat now)
  begun_here = put_here w.seats life seat (begun_seat seat now) here

  visits : (i : Input) → visit x life i ≡ Some (visited life seat now i)
  visits i = ap (visit_seat life i) begun_here

  -- each life has the plan that it had
  record IsThere (n : ℕ) (near : Seat) : Type 0 where
    now_there : Seat
    is : seat_at x n ≡ Some now_there
    plan : now_there.core.plan ≡ near.core.plan

  there : (n : ℕ) (near : Seat) → seat_at w n ≡ Some near → IsThere n near
  there n near e = by_case (cases_eq n life) where
    by_case : (n ≡ life) ⊎ (n ≡ life → ⊥) → IsThere n near
    by_case (inl same) = record {
      now_there = begun_seat seat now;
      is = ap (seat_at x) same ∙ begun_here;
      plan = (beginnings_end seat.core now).0.plan ∙ ap (λ (y : Seat). y.core.plan) (same_Some seat near (sym here ∙ (ap (seat_at w) (sym same) ∙ e)));
    }
    by_case (inr apart) = record { now_there = near; is = put_elsewhere w.seats life n (begun_seat seat now) (present_least w node) apart ∙ e; plan = refl }

  called : (own : Bool) (asa : ℕ) (call : Call) (e : Event) → (own ≡ true → input.Api asa call ≡ agent_input seat.agent) → IsCalledBy node own asa call e
      → visit_of s x e ≡ Some (visited life seat now (input.Api asa call))
  unfolding agent_visit
  called true asa call e next is =
      ap (visit_of s x) is
      ∙ (ap (agent_seat life) begun_here ∙ ap (λ (i : Input). Some (visited life seat now i)) (sym (next refl)))
  called false asa call e next is = ap (visit_of s x) is.0 ∙ visits (input.Api asa call)

  delivered : (link from index : ℕ) (bytes : List ℕ) → IsSentTo w node link from bytes index
      → visit_of s x (event.Datagram index true) ≡ Some (visited life seat now (input.Datagram link from bytes))
  unfolding datagram_visit
  delivered link from index bytes d =
      ap (datagram_at x) d.found
      ∙ (ap (λ (n : ℕ). visit x (present_life x n) (input.Datagram d.datagram.route.link d.datagram.route.from (encoding d.datagram.message))) d.receiver
      ∙ (visits (input.Datagram d.datagram.route.link d.datagram.route.from (encoding d.datagram.message))
      ∙ (ap (λ (l : ℕ). Some (visited life seat now (input.Datagram l d.datagram.route.from (encoding d.datagram.message)))) d.link_is
      ∙ (ap (λ (f : ℕ). Some (visited life seat now (input.Datagram link f (encoding d.datagram.message)))) d.from_is
      ∙ ap (λ (b : List ℕ). Some (visited life seat now (input.Datagram link from b))) d.bytes_are))))

  arrives : (stream k : ℕ) (from : Address) → IsDialledTo s w node stream from k → visit_of s x (event.Arrive k true) ≡ Some (visited life seat now (input.Opened stream from))
  unfolding arrival_visit
  arrives stream k from d = at_near (there d.talk.near.node d.near d.dialler) where
    at_near : IsThere d.talk.near.node d.near → visit_of s x (event.Arrive k true) ≡ Some (visited life seat now (input.Opened stream from))
    at_near t =
        ap (opened_stream s x k) d.found
        ∙ (ap (λ (b : Bool). cond b (opened_at s x k (member_at s d.talk.to) (seat_at x d.talk.near.node)) None) d.waits
        ∙ (ap (λ (m : Option ℕ). opened_at s x k m (seat_at x d.talk.near.node)) d.to
        ∙ (ap (opened_at s x k (Some node)) t.is
        ∙ (visits (input.Opened (s.arrives_as life k) (s.arrives_from k t.now_there.core.plan.address))
        ∙ (ap (λ (n : ℕ). Some (visited life seat now (input.Opened n (s.arrives_from k t.now_there.core.plan.address)))) d.number
        ∙ (ap (λ (p : NodePlan). Some (visited life seat now (input.Opened stream (s.arrives_from k p.address)))) t.plan
        ∙ ap (λ (a : Address). Some (visited life seat now (input.Opened stream a))) d.from_is))))))

  reached : (stream k : ℕ) (side : Side) (o : IsOpenAt w node stream k side) → reached_side x k side ≡ Some (record { talk = o.talk; at = end_of life stream })
  unfolding reached_side
  reached stream k side o =
      ap (reached_in side) o.found
      ∙ (ap (λ (b : Bool). reached_at o.talk b (end_at o.talk side)) o.reached ∙ ap (reached_at o.talk true) o.end)

  pieces : (stream k count : ℕ) (far : Bool) (bytes : List ℕ) → IsNextOf w node stream bytes k count (side_named far)
      → visit_of s x (event.Bytes k far count true) ≡ Some (visited life seat now (input.Bytes stream bytes))
  unfolding piece_visit
  pieces stream k count far bytes o =
      ap (piece_at x (side_named far) count) (reached stream k (side_named far) o.at)
      ∙ (visits (input.Bytes stream (next_bytes o.at.talk (other (side_named far)) count)) ∙ ap (λ (b : List ℕ). Some (visited life seat now (input.Bytes stream b))) o.bytes_are)

  cuts : (stream k : ℕ) (far : Bool) → IsOpenAt w node stream k (side_named far) → visit_of s x (event.Cut k far true) ≡ Some (visited life seat now (input.Closed stream))
  unfolding cut_visit
  cuts stream k far o = ap (cut_at x) (reached stream k (side_named far) o) ∙ visits (input.Closed stream)

  -- the event makes the step with this input
  pub given : (own : Bool) (i : Input) (e : Event) → (own ≡ true → i ≡ agent_input seat.agent) → Gives s w node own i e → visit_of s x e ≡ Some (visited life seat now i)
  given own (input.Api asa call) e next g = called own asa call e next g
  given own (input.Datagram link from bytes) e next g = ap (visit_of s x) g.1 ∙ delivered link from g.0 bytes g.2
  given own (input.Opened stream from) e next g = ap (visit_of s x) g.1 ∙ arrives stream g.0 from g.2
  given own (input.Bytes stream bytes) e next g = ap (visit_of s x) g.3 ∙ pieces stream g.0 g.2 g.1 bytes g.4
  given own (input.Closed stream) e next g = ap (visit_of s x) g.2 ∙ cuts stream g.0 g.1 g.3
  given own (input.Drain max) e next g = ap (visit_of s x) g ∙ visits (input.Drain max)
