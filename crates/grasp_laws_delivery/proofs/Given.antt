-- What an open stream was given is the first that the other side sent, and a piece adds the next messages.
use Rattle.std.proofs.Common.{◌≡◌, sym, ap, ◌∙◌, subst, arith, ℕ, ◌<◌, ◌≤◌, ◌^◌, ◌++◌, Bool, List, Option, Some}
use Rattle.std.proofs.lemmas.Option.{same_Some}
use Rattle.grasp_laws_node.proofs.Beginning.{beginnings_end}
use Rattle.grasp_model_node.specs.Begin.{begin}
use Rattle.grasp_model_node.specs.Bytes.{Adds, AddsOn}
use Rattle.grasp_model_node.specs.Node.{first_node}
use Rattle.grasp_model_node.specs.Step.{IsComing}
use Rattle.grasp_model_node.specs.Streams.{past_of}
use Rattle.grasp_model_node.specs.declared.plan.NodePlan.{NodePlan}
use Rattle.grasp_session.specs.Messages.{Side, other}
use Rattle.grasp_types.specs.declared.traffic.Input.{Input}
use Rattle.grasp_types.specs.declared.traffic.Input.TheVariants as input
use Rattle.grasp_wire.specs.Cutter.{Past}
use Rattle.grasp_wire.specs.Stream.{Divides, waiting}
use Rattle.grasp_laws_network.proofs.EachNode.{reached_each}
use Rattle.grasp_laws_network.proofs.Here.{visits_are_here}
use Rattle.grasp_laws_node.proofs.PlansStay.{step_plan}
use Rattle.grasp_model_network.proofs.Facts.{numbered_all}
use Rattle.grasp_model_network.specs.Events.{visit_of}
use Rattle.grasp_model_network.specs.GoodSetting.{IsGoodMember, IsGoodSetting}
use Rattle.grasp_laws_network.specs.Keeping.{IsLonger}
use Rattle.grasp_model_network.specs.StreamChanges.{Reached, reached_side, side_named}
use Rattle.grasp_model_network.specs.Runs.{IsReached}
use Rattle.grasp_model_network.specs.Setting.{Member, Setting, numbered}
use Rattle.grasp_model_network.specs.Streams.{StreamEnd, end_at, sent_by, next_bytes}
use Rattle.grasp_model_network.specs.Visits.{Visit, Choice, VisitStep}
use Rattle.grasp_model_network.specs.World.{Seat, WorldState, seat_at, end_of}
use Rattle.grasp_model_network.specs.declared.event.Event.TheVariants as event
use Rattle.grasp_laws_delivery.specs.Ready.{StreamsAreReady}
use Rattle.grasp_laws_delivery.proofs.FromReady as needs
use Rattle.grasp_laws_delivery.proofs.Fronts.{fronts_are_cut, pieces_add}
use Rattle.grasp_laws_delivery.proofs.Heard.Networks.{HeardOn, all_hear, records_hold_what_came}
use Rattle.grasp_laws_delivery.proofs.Heard.Steps.{IsReachedSide, reached_is, come_at}
use Rattle.grasp_laws_delivery.proofs.Heard.Talks.{IsHeard}
use Rattle.grasp_laws_delivery.proofs.Came.Inputs.{IsReaching, piece_is}
use Rattle.grasp_laws_delivery.proofs.OnePlace.{Placed, numbered_place}
use Rattle.grasp_laws_node.proofs.Records.Nodes.{begin_holds, open_has}
use Rattle.grasp_laws_delivery.proofs.Said.Networks.{same_end_one}
use Rattle.grasp_laws_delivery.specs.Fits.{AllCanBeSent}
use Rattle.grasp_laws_delivery.specs.Pieces.{IsCutInFront}
use Rattle.grasp_laws_delivery.specs.Records.{IsOpenStream}
use Rattle.grasp_laws_delivery.specs.Saying.{OfEachStream}

-- every node has the limit of the network
pub limit_by : (s : Setting) (good : IsGoodSetting s) (w : WorldState) → IsReached s w → (node : ℕ) (seat : Seat) → seat_at w node ≡ Some seat → seat.core.plan.limit ≡ good.limit
limit_by s good w r = reached_each (λ k n. n.plan.limit ≡ good.limit) s w (λ k n after now i x q same step. ap (λ (p : NodePlan). p.limit) (step_plan n after now i x q step) ∙ same) first r where
  first : (life k : ℕ) (m : Member) → numbered s.members k ≡ Some m → (first_node m.plan).plan.limit ≡ good.limit
  first life k m is = (numbered_all (IsGoodMember good.limit) s.members k m good.members is).limit_is

pub limit_is : (s : Setting) (w : WorldState) (r : IsReached s w) → (node : ℕ) (seat : Seat) → seat_at w node ≡ Some seat → seat.core.plan.limit ≡ r.good.limit
limit_is s w r = limit_by s r.good w r

some_limit : (limit : ℕ) → 2048 ≤ limit → 0 < limit
some_limit limit least = omega arith

pub few_limit : (limit : ℕ) → limit ≤ 65535 → limit < 2 ^ 64
few_limit limit most = omega arith

module _ (ready : StreamsAreReady) where
  pub given_first : (s : Setting) (w : WorldState) (r : IsReached s w) → AllCanBeSent r.good.limit w.streams → (node : ℕ) (seat : Seat) → seat_at w node ≡ Some seat
      → (stream : ℕ) (past : Past) → past_of seat.core.streams stream ≡ Some past
      → OfEachStream (λ t. (side : Side) → end_at t side ≡ Some (end_of node stream) → IsLonger past.given (sent_by t (other side)).sent) w.streams
  given_first s w r fits node seat here stream past e place t found side at = from (records_hold_what_came ready s w r node seat here stream past e) where
    from : IsOpenStream w (end_of node stream) seat.core.plan.limit past → IsLonger past.given (sent_by t (other side)).sent
    from o =
        (fronts_are_cut r.good.limit (sent_by t (other side)).delivered (sent_by t (other side)).sent past.given o.waits.rest waiting (some_limit r.good.limit r.good.least_limit)
        (few_limit r.good.limit r.good.most_limit) ((fits place t found).sent (other side))
        (subst (λ (bytes : List ℕ). Divides bytes r.good.limit past.given o.waits.rest waiting) (o.came place t found side at).fed
        (subst (λ n. Divides past.fed n past.given o.waits.rest waiting) (limit_is s w r node seat here) o.waits.divides))).given_first

  pub added_next : (s : Setting) (w : WorldState) (r : IsReached s w) → AllCanBeSent r.good.limit w.streams → (k count : ℕ) (far hold : Bool) (x : Reached) (v : Visit) (c : Choice)
      → reached_side w k (side_named far) ≡ Some x → visit_of s w (event.Bytes k far count hold) ≡ Some v → VisitStep v c
      → (past : Past) → past_of (begin v.seat.core v.now).streams x.at.number ≡ Some past
      → IsCutInFront (sent_by x.talk (other (side_named far))).sent (past.given ++ c.coming.added.messages) c.coming.added.kind
  added_next s w r fits k count far hold x v c found is step past e = from (piece_is w k (side_named far) count v is) where
    here : seat_at w v.node ≡ Some v.seat
    here = (visits_are_here s w (event.Bytes k far count hold) v is).stands

    side_is : IsReachedSide w k (side_named far) x
    side_is = reached_is w k (side_named far) x found

    place : Placed w.streams x.talk
    place = numbered_place k w.streams x.talk side_is.found

    heard : v.node ≡ x.at.node → IsHeard w.streams x.at v.seat.core.plan.limit past
    heard same =
        subst (λ (end : StreamEnd). IsHeard w.streams end v.seat.core.plan.limit past) (ap (λ n. end_of n x.at.number) same)
        (open_has (HeardOn w.streams v.node v.seat.core.plan.limit) (begin v.seat.core v.now) x.at.number past
        (begin_holds (HeardOn w.streams v.node v.seat.core.plan.limit) v.seat.core v.now (all_hear ready s w r v.node v.seat here)) e)

    from : IsReaching w k (side_named far) v (λ y. input.Bytes y.at.number (next_bytes y.talk (other (side_named far)) count))
        → IsCutInFront (sent_by x.talk (other (side_named far))).sent (past.given ++ c.coming.added.messages) c.coming.added.kind
    from o = at_reached (same_Some o.reached x (sym o.found ∙ found)) where
      at_reached : o.reached ≡ x → IsCutInFront (sent_by x.talk (other (side_named far))).sent (past.given ++ c.coming.added.messages) c.coming.added.kind
      at_reached same =
          pieces_add r.good.limit count x.talk (side_named far) past c.coming.added (some_limit r.good.limit r.good.least_limit) (few_limit r.good.limit r.good.most_limit)
          ((fits place.place x.talk place.stands).sent (other (side_named far)))
          (come_at w k (side_named far) x v.seat.core.plan.limit past (same_end_one ready s w r) (needs.distinct ready s w r) side_is (heard (o.is.node_is ∙ ap (λ (y : Reached). y.at.node) same)))
          (subst (λ n. Adds n past (next_bytes x.talk (other (side_named far)) count) c.coming.added) (ap (λ (p : NodePlan). p.limit) (beginnings_end v.seat.core v.now).0.plan ∙ limit_is s w r v.node v.seat here)
          (subst (λ (y : Option Past). AddsOn (begin v.seat.core v.now).plan.limit (next_bytes x.talk (other (side_named far)) count) c.coming.added y) e
          (subst (λ (y : Reached). AddsOn (begin v.seat.core v.now).plan.limit (next_bytes y.talk (other (side_named far)) count) c.coming.added (past_of (begin v.seat.core v.now).streams y.at.number)) same
          (subst (λ (i : Input). IsComing (begin v.seat.core v.now) i c.coming) o.is.input_is step.steps.is_coming))))
