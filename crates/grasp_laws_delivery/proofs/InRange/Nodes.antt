-- Each step leaves a node with messages in range, where what an agent calls is in range.
use Rattle.std.proofs.Common.{ℕ, zero, suc, List, Option, Some, None, sym, subst}
use Rattle.std.proofs.lemmas.List.Elements.{All-drop}
use Rattle.grasp_discovery.specs.Discoveries as discovery
use Rattle.grasp_flood.specs.Floods as flood
use Rattle.grasp_session.specs.Sessions.{expire_reply, after_expire}
use Rattle.grasp_types.specs.declared.address.Address.{Address}
use Rattle.grasp_types.specs.declared.call.Call.{Call}
use Rattle.grasp_types.specs.declared.message.Message.{Message}
use Rattle.grasp_types.specs.declared.reply.Reply.{Reply}
use Rattle.grasp_types.specs.declared.reply.Reply.TheVariants as reply
use Rattle.grasp_types.specs.declared.traffic.Input.{Input}
use Rattle.grasp_types.specs.declared.traffic.Input.TheVariants as input
use Rattle.grasp_model_node.specs.Begin.{expire_on, expired, discoveries_expired, floods_expired, begin}
use Rattle.grasp_model_node.specs.Datagrams.{Carries}
use Rattle.grasp_model_node.specs.Draining.{after_drain}
use Rattle.grasp_model_node.specs.Moves.{with_reading, with_sessions, open_record}
use Rattle.grasp_model_node.specs.Node.{NodeState}
use Rattle.grasp_model_node.specs.Opening.{is_ignored, after_opened}
use Rattle.grasp_model_node.specs.Step.{Coming, IsComing, Calls, Acts, NodeStep}
use Rattle.grasp_model_node.specs.declared.plan.NodePlan.{NodePlan}
use Rattle.grasp_model_network.specs.Ranges.{IsCall}
use Rattle.grasp_laws_delivery.proofs.Fine.Cache.{expiry_kept}
use Rattle.grasp_laws_delivery.proofs.Fine.Sessions.{expire_fine}
use Rattle.grasp_laws_delivery.proofs.InRange.Bytes.{bytes_real, starving_real, closed_real}
use Rattle.grasp_laws_delivery.proofs.InRange.Calls.{answered_real}
use Rattle.grasp_laws_delivery.proofs.InRange.Datagrams.{IsCarried, datagram_real}
use Rattle.grasp_laws_delivery.proofs.InRange.Moves.{IsInRange, IsRealPlan, CanSend, either, reading_real, sessions_real, discoveries_real, floods_real, closing_real, open_real}

-- ---- the beginning of a step

expire_on_real : (plan : NodePlan) (n : NodeState) (o : Option ℕ) → IsInRange plan n → IsInRange plan (expire_on n o)
expire_on_real plan n None k = k
expire_on_real plan n (Some stream) k =
    let z = after_expire n.sessions n.reading in closing_real plan (with_sessions n z) stream (sessions_real plan n z (expire_fine n.sessions n.reading k.sessions) k)

expired_real : (plan : NodePlan) (count : ℕ) (n : NodeState) → IsInRange plan n → IsInRange plan (expired count n)
unfolding expired
expired_real plan zero n k = k
expired_real plan (suc count) n k = expire_on_real plan (expired count n) (expire_reply (expired count n).sessions (expired count n).reading) (expired_real plan count n k)

pub begin_real : (plan : NodePlan) (n : NodeState) (now : ℕ) → IsInRange plan n → IsInRange plan (begin n now)
unfolding begin
begin_real plan n now k = floods_on (discoveries_expired (expired 64 (with_reading n now))) (discoveries_on (expired 64 (with_reading n now)) (expired_real plan 64 (with_reading n now) (reading_real plan n now k))) where
  discoveries_on : (m : NodeState) → IsInRange plan m → IsInRange plan (discoveries_expired m)
  discoveries_on m f = discoveries_real plan m (discovery.after_expiry m.discoveries m.reading) (expiry_kept m.discoveries m.reading f.cached) f

  floods_on : (m : NodeState) → IsInRange plan m → IsInRange plan (floods_expired m)
  floods_on m f = floods_real plan m (flood.after_expiry m.floods m.reading) f

-- ---- a stream that a peer opens, and a drain

opening_real : (plan : NodePlan) (n : NodeState) (stream : ℕ) (from : Address) (r : Reply) → IsInRange plan n → IsInRange plan (after_opened n stream from r)
opening_real plan n stream from reply.Taken k = either plan (is_ignored n stream) n (open_record n stream from) k (open_real plan n stream from k)
opening_real plan n stream from _ k = k

drain_real : (plan : NodePlan) (n : NodeState) (max : ℕ) → IsInRange plan n → IsInRange plan (after_drain n max)
unfolding after_drain
drain_real plan n max k =
    record { plan_is = k.plan_is; registrations = k.registrations; sessions = k.sessions; cached = k.cached; queue = All-drop (CanSend plan.limit) max n.queue k.queue }

-- ---- a step

calls_real : (plan : NodePlan) (n after : NodeState) (asa : ℕ) (call : Call) (r : Reply) → IsRealPlan plan → IsCall call → IsInRange plan n → Calls n asa call r after → IsInRange plan after
calls_real plan n after asa call (reply.Api answer) ok is k c = subst (IsInRange plan) (sym c.1) (answered_real plan n asa call answer ok.least is c.0 k)
calls_real plan n after asa call (reply.Refused refused) ok is k c = subst (IsInRange plan) (sym c.1) k
calls_real plan n after asa call _ ok is k c = absurd c

-- a call that comes is in range
abbrev pub IsGoodInput : Input → Type 0
IsGoodInput (input.Api asa call) = IsCall call
IsGoodInput _ = Unit {0}

pub carried_is : (limit : ℕ) (bytes : List ℕ) (o : Option Message) → Carries limit bytes o → IsCarried o
carried_is limit bytes None c = tt
carried_is limit bytes (Some m) c = c.is_message

acts_real : (plan : NodePlan) (n after : NodeState) (i : Input) (x : Coming) (r : Reply) → IsRealPlan plan → IsGoodInput i → IsInRange plan n → IsComing n i x → Acts n i x r after → IsInRange plan after
acts_real plan n after (input.Api asa call) x r ok is k c a = calls_real plan n after asa call r ok is k a
acts_real plan n after (input.Datagram link from bytes) x reply.Taken ok is k c a = subst (IsInRange plan) (sym a) (datagram_real plan n link from x.carried ok (carried_is n.plan.limit bytes x.carried c) k)
acts_real plan n after (input.Datagram link from bytes) x reply.OutOfMemory ok is k c a = subst (IsInRange plan) (sym a) k
acts_real plan n after (input.Opened stream from) x r ok is k c a = subst (IsInRange plan) (sym a.1) (opening_real plan n stream from r k)
acts_real plan n after (input.Bytes stream bytes) x reply.Taken ok is k c a = subst (IsInRange plan) (sym a) (bytes_real plan n stream bytes x.added c k)
acts_real plan n after (input.Bytes stream bytes) x reply.OutOfMemory ok is k c a = starving_real plan n stream bytes x.added after c a k
acts_real plan n after (input.Closed stream) x r ok is k c a = subst (IsInRange plan) (sym a.1) (closed_real plan n stream k)
acts_real plan n after (input.Drain max) x (reply.Outputs outputs) ok is k c a = subst (IsInRange plan) (sym a.1) (drain_real plan n max k)
acts_real plan n after (input.Drain max) x reply.OutOfMemory ok is k c a = subst (IsInRange plan) (sym a.1) k
acts_real plan n after _ x r ok is k c a = absurd a

pub step_real : (plan : NodePlan) (n after : NodeState) (now : ℕ) (i : Input) (x : Coming) (r : Reply) → IsRealPlan plan → IsGoodInput i → IsInRange plan n → NodeStep n now i x r after → IsInRange plan after
step_real plan n after now i x r ok is k s = acts_real plan (begin n now) after i x r ok is (begin_real plan n now k) s.is_coming s.acts
