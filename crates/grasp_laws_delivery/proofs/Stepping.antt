-- A network stays in order where a node makes a step that isn't a drain.
use Rattle.std.proofs.Common.{◌≡◌, ◌++◌, ◌-◌, sym, ap, ◌∙◌, subst, ℕ, [], length, drop, Some, slice_set, append-nil}
use Rattle.std.proofs.Math.Seq.{drop-append_seam}
use Rattle.grasp_agent.specs.States.{AgentState}
use Rattle.grasp_model_node.specs.Node.{NodeState}
use Rattle.grasp_laws_node.specs.Relays.{DrainQueues}
use Rattle.grasp_model_node.specs.BoundedNodes.{IsBoundedNode}
use Rattle.grasp_model_node.specs.Step.{NodeStep}
use Rattle.grasp_laws_node.specs.Consistent.{IsConsistent, TiesAreKept}
use Rattle.grasp_types.specs.declared.reply.Reply.{Reply}
use Rattle.grasp_types.specs.declared.reply.Reply.TheVariants as reply
use Rattle.grasp_types.specs.declared.traffic.Input.{Input}
use Rattle.grasp_types.specs.declared.traffic.Input.TheVariants as input
use Rattle.grasp_laws_node.specs.Dials.{IsNoDrain, gained}
use Rattle.grasp_laws_node.specs.Sends.{Follows, RecordsKnown, OpensOne, SendsFollow}
use Rattle.grasp_laws_node.proofs.DialNodes.{dials_counted}
use Rattle.grasp_laws_node.proofs.Drains.{drains_dial_nothing}
use Rattle.grasp_laws_node.proofs.Addressed.Nodes.{sends_follow}
use Rattle.grasp_laws_network.proofs.Here.{numbered_within}
use Rattle.grasp_model_network.specs.Sending.{seat_with, stepped}
use Rattle.grasp_model_network.specs.Setting.{Setting, numbered}
use Rattle.grasp_model_network.specs.Visits.{Visit, Choice, VisitStep}
use Rattle.grasp_model_network.specs.World.{WorldState}
use Rattle.grasp_laws_delivery.specs.Heads.{heads}
use Rattle.grasp_laws_delivery.specs.Kept.{IsArrived, AreKept, StreamsKept}
use Rattle.grasp_laws_delivery.specs.Ready.{Every, FarWaits}
use Rattle.grasp_laws_delivery.proofs.Appending.{appended}
use Rattle.grasp_laws_delivery.proofs.FarSides.{talks_made_wait}
use Rattle.grasp_laws_delivery.proofs.Making.{talks_made_heads}

-- the input takes nothing from the queue: it isn't a drain, or it is a drain of nothing
abbrev pub TakesNone : Input → Type 0
TakesNone (input.Drain max) = max ≡ 0
TakesNone _ = Unit {0}

-- what a step queued stands behind, and is for known streams, and so are the records
pub record Gains (P : ℕ → Type 0) (n after : NodeState) : Type 0 where
  pub queued : after.queue ≡ n.queue ++ gained n after
  pub follows : Follows P n.streams.dialled (gained n after) after.streams.dialled
  pub records : RecordsKnown P after

module _ (ties : TiesAreKept) (P : ℕ → Type 0) where
  nothing_gained : (n after : NodeState) → after.queue ≡ n.queue → gained n after ≡ []
  nothing_gained n after e = ap (drop (length n.queue)) (e ∙ sym (append-nil n.queue)) ∙ drop-append_seam n.queue []

  of_none : (n after : NodeState) (max : ℕ) (r : Reply) → max ≡ 0 → DrainQueues n max r after → after.queue ≡ n.queue
  of_none n after max (reply.Outputs outputs) none q = q ∙ ap (λ k. drop k n.queue) none
  of_none n after max _ none q = q

  by_drain : (n after : NodeState) (i : Input) → after.queue ≡ n.queue → after.streams.dialled ≡ n.streams.dialled → SendsFollow P n i after → Gains P n after
  by_drain n after i q d f =
      let none : gained n after ≡ [] = nothing_gained n after q in record {
        queued = q ∙ (sym (append-nil n.queue) ∙ ap (λ xs. n.queue ++ xs) (sym none));
        follows = subst (λ xs. Follows P n.streams.dialled xs after.streams.dialled) (sym none) d;
        records = f.records;
      }

  pub step_gains : (v : Visit) (c : Choice) → IsBoundedNode v.seat.core → IsConsistent v.seat.core → RecordsKnown P v.seat.core → TakesNone v.input → OpensOne P v.input → VisitStep v c → Gains P v.seat.core c.after
  step_gains v c sound tied known takes opens step = by_input v.input takes opens step.steps where
    plain : (i : Input) → IsNoDrain i → OpensOne P i → NodeStep v.seat.core v.now i c.coming c.reply c.after → Gains P v.seat.core c.after
    plain i none o t =
        let f : SendsFollow P v.seat.core i c.after = sends_follow ties P v.seat.core c.after v.now i c.coming c.reply sound tied known o t in
        record { queued = (dials_counted v.seat.core c.after v.now i c.coming c.reply none t).queued; follows = f.sends none; records = f.records }

    by_input : (i : Input) → TakesNone i → OpensOne P i → NodeStep v.seat.core v.now i c.coming c.reply c.after → Gains P v.seat.core c.after
    by_input (input.Drain max) none o t =
        let d = drains_dial_nothing v.seat.core c.after v.now max c.coming c.reply t in
        by_drain v.seat.core c.after (input.Drain max) (of_none v.seat.core c.after max c.reply none d.1) d.0
        (sends_follow ties P v.seat.core c.after v.now (input.Drain max) c.coming c.reply sound tied known o t)
    by_input (input.Api asa call) takes o t = plain (input.Api asa call) tt o t
    by_input (input.Datagram link from bytes) takes o t = plain (input.Datagram link from bytes) tt o t
    by_input (input.Opened stream from) takes o t = plain (input.Opened stream from) tt o t
    by_input (input.Bytes stream bytes) takes o t = plain (input.Bytes stream bytes) tt o t
    by_input (input.Closed stream) takes o t = plain (input.Closed stream) tt o t

-- a network with these nodes, streams and count of dials
pub record IsSteppedAs (w x : WorldState) (v : Visit) (core : NodeState) (agent : AgentState) : Type 0 where
  pub seats : x.seats ≡ (stepped w v core agent).seats
  pub streams : x.streams ≡ (stepped w v core agent).streams
  pub dials : x.dials ≡ (stepped w v core agent).dials

module _ (ties : TiesAreKept) (s : Setting) (w x : WorldState) (v : Visit) (c : Choice) (agent : AgentState) (kept : StreamsKept s w) (here : numbered w.seats v.node ≡ Some v.seat)
    (sound : IsBoundedNode v.seat.core) (tied : IsConsistent v.seat.core) (takes : TakesNone v.input) (opens : OpensOne (λ n. IsArrived (heads w.streams) v.node n) v.input) (step : VisitStep v c) where
  gains : Gains (λ n. IsArrived (heads w.streams) v.node n) v.seat.core c.after
  gains = step_gains ties (λ n. IsArrived (heads w.streams) v.node n) v c sound tied (kept.kept.nodes v.node v.seat here).records takes opens step

  pub stepped_kept : StreamsKept s (stepped w v c.after agent)
  unfolding stepped
  stepped_kept = record {
    kept = subst (λ hs. AreKept s (slice_set w.seats (v.node - 1) (seat_with c.after agent)) hs w.dials)
        (sym (talks_made_heads v.node (gained v.seat.core c.after) w.streams))
        (appended s w.seats (heads w.streams) w.dials kept.kept v.node v.seat (seat_with c.after agent) (gained v.seat.core c.after) (numbered_within w.seats v.node v.seat here) here
        gains.queued gains.records gains.follows);
    waits = talks_made_wait v.node (gained v.seat.core c.after) w.streams kept.waits;
  }

  pub as_stepped : IsSteppedAs w x v c.after agent → StreamsKept s x
  as_stepped e = record {
    kept = subst (λ d. AreKept s x.seats (heads x.streams) d) (sym e.dials)
        (subst (λ ts. AreKept s x.seats (heads ts) (stepped w v c.after agent).dials) (sym e.streams)
        (subst (λ seats. AreKept s seats (heads (stepped w v c.after agent).streams) (stepped w v c.after agent).dials) (sym e.seats) stepped_kept.kept));
    waits = subst (Every FarWaits) (sym e.streams) stepped_kept.waits;
  }
