-- The dials that are queued stay in order.
use Rattle.std.proofs.Common.{◌≡◌, ◌≤◌, ℕ, zero, suc, ◌+◌, ◌-◌, ◌*◌, List, [], ◌∷◌, ◌++◌, length, drop, refl, sym, ap, ◌∙◌, arith}
use Rattle.grasp_cbor.proofs.Facts.Numbers.{none_plus}
use Rattle.grasp_types.specs.declared.reply.Reply.{Reply}
use Rattle.grasp_types.specs.declared.reply.Reply.TheVariants as reply
use Rattle.grasp_types.specs.declared.traffic.Input.{Input}
use Rattle.grasp_types.specs.declared.traffic.Input.TheVariants as input
use Rattle.grasp_model_node.specs.Node.{NodeState, first_node}
use Rattle.grasp_model_node.specs.Queue.{Queued, datagram, send, dial}
use Rattle.grasp_laws_node.specs.Relays.{DrainQueues}
use Rattle.grasp_model_node.specs.Step.{Coming, NodeStep}
use Rattle.grasp_laws_node.specs.Dials.{dialled_in, evens_from}
use Rattle.grasp_laws_node.specs.Order.{dials_queued, QueueInOrder, QueuesAreInOrder}
use Rattle.grasp_laws_node.proofs.DialMoves.{Dials, dialled_append}
use Rattle.grasp_laws_node.proofs.DialNodes.{step_dials}
use Rattle.grasp_laws_node.proofs.Drains.{drains_dial_nothing}

-- ---- numbers

plus_none : (d : ℕ) → d + 0 ≡ d
plus_none d = omega arith

suc_plus : (c k : ℕ) → suc (c + k) ≡ suc c + k
suc_plus c k = omega arith

step_on : (d c : ℕ) → d + suc c ≡ (d + 1) + c
step_on d c = omega arith

no_more : (d l s c : ℕ) → l ≡ c → d ≡ s + c → l ≤ d
no_more d l s c e f = omega arith

started : (d l s c : ℕ) → l ≡ c → d ≡ s + c → s ≡ d - l
started d l s c e f = omega arith

summed : (d l : ℕ) → l ≤ d → d ≡ (d - l) + l
summed d l h = omega arith

both : (a d k s c : ℕ) → a ≡ d + k → d ≡ s + c → a ≡ s + (c + k)
both a d k s c e f = omega arith

evens_length : (c s : ℕ) → length (evens_from s c) ≡ c
evens_length zero s = refl
evens_length (suc c) s = ap suc (evens_length c (s + 1))

pub evens_append : (c s k : ℕ) → evens_from s c ++ evens_from (s + c) k ≡ evens_from s (c + k)
evens_append zero s k = ap (λ d. evens_from d k) (plus_none s) ∙ ap (evens_from s) (none_plus k)
evens_append (suc c) s k = ap (λ q. (2 * s) ∷ q) (ap (λ d. evens_from (s + 1) c ++ evens_from d k) (step_on s c) ∙ evens_append c (s + 1) k) ∙ ap (evens_from s) (suc_plus c k)

-- ---- the last streams before this count

pub record Ends (d : ℕ) (qs : List Queued) : Type 0 where
  pub start : ℕ
  pub count : ℕ
  pub sum : d ≡ start + count
  pub same : dialled_in qs ≡ evens_from start count

from_order : (n : NodeState) → QueueInOrder n → Ends n.streams.dialled n.queue
from_order n o = record { start = n.streams.dialled - dials_queued n; count = dials_queued n; sum = summed n.streams.dialled (dials_queued n) o.no_more; same = o.in_order }

to_order : (n : NodeState) → Ends n.streams.dialled n.queue → QueueInOrder n
to_order n e =
    let g : dials_queued n ≡ e.count = ap length e.same ∙ evens_length e.count e.start in record {
      no_more = no_more n.streams.dialled (dials_queued n) e.start e.count g e.sum;
      in_order = e.same
          ∙ (ap (λ s. evens_from s e.count) (started n.streams.dialled (dials_queued n) e.start e.count g e.sum)
          ∙ ap (λ c. evens_from (n.streams.dialled - dials_queued n) c) (sym g));
    }

-- without the first dial of them
less_one : (d stream : ℕ) (qs : List Queued) (start count : ℕ) → d ≡ start + count → stream ∷ dialled_in qs ≡ evens_from start count → Ends d qs
less_one d stream qs start zero e f = absurd (cc)
less_one d stream qs start (suc count) e f = record { start = start + 1; count = count; sum = e ∙ step_on start count; same = ap (λ xs. drop 1 xs) f }

without_first : (d : ℕ) (q : Queued) (qs : List Queued) → Ends d (q ∷ qs) → Ends d qs
without_first d (datagram link to m) qs e = record { start = e.start; count = e.count; sum = e.sum; same = e.same }
without_first d (dial stream to) qs e = less_one d stream qs e.start e.count e.sum e.same
without_first d (send stream m) qs e = record { start = e.start; count = e.count; sum = e.sum; same = e.same }

drop_ends : (m : ℕ) (d : ℕ) (qs : List Queued) → Ends d qs → Ends d (drop m qs)
drop_ends zero d qs e = e
drop_ends (suc m) d [] e = e
drop_ends (suc m) d (q ∷ qs) e = drop_ends m d qs (without_first d q qs e)

-- ---- a step

put : (n after : NodeState) (qs : List Queued) → after.streams.dialled ≡ n.streams.dialled → after.queue ≡ qs → Ends n.streams.dialled qs → Ends after.streams.dialled after.queue
put n after qs d q e = record { start = e.start; count = e.count; sum = d ∙ e.sum; same = ap dialled_in q ∙ e.same }

drained : (n after : NodeState) (max : ℕ) (r : Reply) → Ends n.streams.dialled n.queue → (after.streams.dialled ≡ n.streams.dialled) × DrainQueues n max r after → Ends after.streams.dialled after.queue
drained n after max (reply.Outputs outputs) e q = put n after (drop max n.queue) q.0 q.1 (drop_ends max n.streams.dialled n.queue e)
drained n after max _ e q = put n after n.queue q.0 q.1 e

queued : (n after : NodeState) → Ends n.streams.dialled n.queue → Dials n after → Ends after.streams.dialled after.queue
queued n after e k = record {
  start = e.start;
  count = e.count + k.count;
  sum = both after.streams.dialled n.streams.dialled k.count e.start e.count k.counted e.sum;
  same = ap dialled_in k.queued
      ∙ (dialled_append n.queue k.more
      ∙ (ap (λ q. q ++ dialled_in k.more) e.same
      ∙ (ap (λ q. evens_from e.start e.count ++ q) (k.dials ∙ ap (λ d. evens_from d k.count) e.sum)
      ∙ evens_append e.count e.start k.count)));
}

stepped : (n after : NodeState) (now : ℕ) (i : Input) (x : Coming) (r : Reply) → Ends n.streams.dialled n.queue → NodeStep n now i x r after → Ends after.streams.dialled after.queue
stepped n after now (input.Drain max) x r e s = drained n after max r e (drains_dial_nothing n after now max x r s)
stepped n after now (input.Api asa call) x r e s = queued n after e (step_dials n after now (input.Api asa call) x r tt s)
stepped n after now (input.Datagram link from bytes) x r e s = queued n after e (step_dials n after now (input.Datagram link from bytes) x r tt s)
stepped n after now (input.Opened stream from) x r e s = queued n after e (step_dials n after now (input.Opened stream from) x r tt s)
stepped n after now (input.Bytes stream bytes) x r e s = queued n after e (step_dials n after now (input.Bytes stream bytes) x r tt s)
stepped n after now (input.Closed stream) x r e s = queued n after e (step_dials n after now (input.Closed stream) x r tt s)

pub queues_in_order : QueuesAreInOrder
queues_in_order = (
  λ plan. to_order (first_node plan) (record { start = 0; count = 0; sum = refl; same = refl }),
  λ n after now i x r o s. to_order after (stepped n after now i x r (from_order n o) s),
)
