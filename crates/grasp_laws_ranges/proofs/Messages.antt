-- What a node queues is messages in range that fit the limit of its plan.
use Rattle.std.proofs.Common.{◌≤◌, ℕ, All, None, slice_index_or, refl, sym, subst}
use Rattle.std.proofs.lemmas.List.Elements.{All-nil, All-replicate}
use Rattle.grasp_laws_delivery.proofs.Fine.Cache.{IsKept}
use Rattle.grasp_laws_delivery.proofs.Fine.Registry.{IsEntry}
use Rattle.grasp_laws_delivery.proofs.Fine.Sessions.{IsFine}
use Rattle.grasp_laws_delivery.proofs.InRange.Moves.{IsInRange, IsRealPlan, CanSend}
use Rattle.grasp_laws_delivery.proofs.InRange.Nodes as real
use Rattle.grasp_laws_delivery.proofs.InRange.Nodes.{begin_real, step_real}
use Rattle.grasp_laws_delivery.proofs.Ranged.{IsRanged, IsQueueRanged, input_queue}
use Rattle.grasp_laws_node.proofs.Beginning.{beginnings_end}
use Rattle.grasp_laws_node.proofs.Remembered.{relays_once}
use Rattle.grasp_laws_ranges.specs.Messages.{IsGoodPlan, IsGoodInput, IsLedTo, begins, goes_on, CanGoOut, QueuedAreMessages}
use Rattle.grasp_laws_sending.proofs.Fitting.Nodes.{queues_fit}
use Rattle.grasp_laws_sending.specs.Fitting.{FitsIn, AllFit}
use Rattle.grasp_model_node.specs.Begin.{begin}
use Rattle.grasp_model_node.specs.Node.{NodeState, first_node}
use Rattle.grasp_model_node.specs.Queue.{Queued, datagram, dial, send}
use Rattle.grasp_model_node.specs.Step.{Coming, NodeStep}
use Rattle.grasp_model_node.specs.declared.plan.NodePlan.{NodePlan}
use Rattle.grasp_types.specs.Address.{IsAddress}
use Rattle.grasp_types.specs.declared.reply.Reply.{Reply}
use Rattle.grasp_types.specs.declared.traffic.Input.{Input}
use Rattle.grasp_types.specs.declared.traffic.Input.TheVariants as input

-- ---- what is so of each node

record IsReal (plan : NodePlan) (n : NodeState) : Type 0 where
  pub real : IsInRange plan n
  pub ranged : IsQueueRanged n
  pub fits : AllFit n

good_plan : (plan : NodePlan) → IsGoodPlan plan → IsRealPlan plan
good_plan plan good = record { address = good.address; locator = good.locator; least = good.least }

good_input : (i : Input) → IsGoodInput i → real.IsGoodInput i
good_input (input.Api asa call) good = good
good_input _ good = tt

first : (plan : NodePlan) → IsReal plan (first_node plan)
first plan = record {
  real = record {
    plan_is = refl;
    registrations = All-nil IsEntry;
    sessions = All-replicate IsFine 64 None tt;
    cached = All-nil IsKept;
    queue = All-nil (CanSend plan.limit);
  };
  ranged = All-nil IsRanged;
  fits = All-nil (FitsIn plan.limit);
}

stepped : (plan : NodePlan) (n after : NodeState) (now : ℕ) (i : Input) (x : Coming) (r : Reply) → IsGoodPlan plan → IsReal plan n → IsGoodInput i → NodeStep n now i x r after → IsReal plan after
stepped plan n after now i x r good k is s = record {
  real = step_real plan n after now i x r (good_plan plan good) (good_input i is) k.real s;
  ranged =
      input_queue (begin n now) i x r after (relays_once n after now i x r s) s.is_coming (good_input i is) address begun.registrations
      (subst (All IsRanged) (sym (beginnings_end n now).0.queue) k.ranged);
  fits = queues_fit.1 n after now i x r least k.fits s;
} where
  begun : IsInRange plan (begin n now)
  begun = begin_real plan n now k.real

  address : IsAddress (begin n now).plan.address
  address = subst (λ (p : NodePlan). IsAddress p.address) (sym begun.plan_is) good.address

  least : 2048 ≤ n.plan.limit
  least = subst (λ (p : NodePlan). 2048 ≤ p.limit) (sym k.real.plan_is) good.least

led : (plan : NodePlan) → IsGoodPlan plan → (n : NodeState) → IsLedTo plan n → IsReal plan n
led plan good _ begins = first plan
led plan good _ (goes_on n after now i x r l is s) = stepped plan n after now i x r good (led plan good n l) is s

-- ---- both at once

one_goes : (limit : ℕ) (q : Queued) → CanSend limit q → IsRanged q → FitsIn limit q → CanGoOut limit q
one_goes limit (datagram link to m) sends ranged fits = (ranged, fits)
one_goes limit (dial stream to) sends ranged fits = tt
one_goes limit (send stream m) sends ranged fits = sends

pub queued_are_messages : QueuedAreMessages
queued_are_messages plan good n l = all (led plan good n l) where
  all : IsReal plan n → All (CanGoOut plan.limit) n.queue
  all k = λ i d within. one_goes plan.limit (slice_index_or n.queue i d) (k.real.queue i d within) (k.ranged i d within) (same i d within) where
    same : All (FitsIn plan.limit) n.queue
    same = subst (λ (p : NodePlan). All (FitsIn p.limit) n.queue) k.real.plan_is k.fits
