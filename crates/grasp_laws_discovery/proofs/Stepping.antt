-- Each step of a node that brings neither a datagram nor bytes leaves it so.
use Rattle.std.proofs.Common.{◌≡◌, refl, sym, ◌∙◌, subst, ℕ, List, [], ◌∷◌, drop}
use Rattle.grasp_model_node.specs.Bytes.{broken, after_closed}
use Rattle.grasp_model_node.specs.Draining.{after_drain}
use Rattle.grasp_model_node.specs.Moves.{with_sessions, open_record}
use Rattle.grasp_model_node.specs.Node.{NodeState}
use Rattle.grasp_model_node.specs.Opening.{is_ignored, after_opened}
use Rattle.grasp_model_node.specs.Queue.{Queued}
use Rattle.grasp_model_node.specs.Step.{Coming, Calls, Drains, Acts}
use Rattle.grasp_model_node.specs.Streams.{has_record}
use Rattle.grasp_model_node.specs.declared.plan.NodePlan.{NodePlan}
use Rattle.grasp_discovery.specs.Discoveries.{Discoveries}
use Rattle.grasp_session.specs.Sessions.{after_mark}
use Rattle.grasp_session.specs.Transcript.{Closed}
use Rattle.grasp_types.specs.declared.address.Address.{Address}
use Rattle.grasp_types.specs.declared.call.Call.{Call}
use Rattle.grasp_types.specs.declared.reply.Reply.{Reply}
use Rattle.grasp_types.specs.declared.reply.Reply.TheVariants as reply
use Rattle.grasp_types.specs.declared.traffic.Input.{Input}
use Rattle.grasp_types.specs.declared.traffic.Input.TheVariants as input
use Rattle.grasp_laws_discovery.proofs.Calling.{KeepsSearches, call_keeps}
use Rattle.grasp_laws_discovery.proofs.Keeping.{Silently, Keeps, either_keeps, sessions_keeps, open_keeps, drop_keeps}

-- an input that brings nothing from other nodes, and takes nothing from the queue
abbrev pub IsPlain : Input → Type 0
IsPlain (input.Drain most) = most ≡ 0
IsPlain (input.Datagram link from bytes) = ⊥
IsPlain (input.Bytes stream bytes) = ⊥
IsPlain _ = Unit {0}

drop_none : (qs : List Queued) → drop 0 qs ≡ qs
drop_none [] = refl
drop_none (q ∷ qs) = refl

module _ (old : List Queued) (Q : Queued → Type 0) (P : NodePlan → Discoveries → Type 0) (silent : Silently Q) (searches : KeepsSearches P) where
  opened_keeps : (n : NodeState) (stream : ℕ) (from : Address) (r : Reply) → Keeps old Q P n → Keeps old Q P (after_opened n stream from r)
  opened_keeps n stream from reply.Taken k = either_keeps old Q P (is_ignored n stream) n (open_record n stream from) k (open_keeps old Q P n stream from k)
  opened_keeps n stream from _ k = k

  closed_keeps : (n : NodeState) (stream : ℕ) → Keeps old Q P n → Keeps old Q P (after_closed n stream)
  unfolding after_closed
  closed_keeps n stream k =
      either_keeps old Q P (has_record n.streams stream) (broken n stream) n
      (drop_keeps old Q P (with_sessions n (after_mark n.sessions stream Closed)) stream (sessions_keeps old Q P n (after_mark n.sessions stream Closed) k)) k

  drain_keeps : (n : NodeState) → Keeps old Q P n → Keeps old Q P (after_drain n 0)
  unfolding after_drain
  drain_keeps n k = record { has = k.has; more = k.more; queue = drop_none n.queue ∙ k.queue; each = k.each }

  calls_keeps : (n after : NodeState) (asa : ℕ) (call : Call) (r : Reply) → Keeps old Q P n → Calls n asa call r after → Keeps old Q P after
  calls_keeps n after asa call (reply.Api a) k c = subst (Keeps old Q P) (sym c.1) (call_keeps old Q P silent searches n asa call a k)
  calls_keeps n after asa call (reply.Refused refused) k c = subst (Keeps old Q P) (sym c.1) k
  calls_keeps n after asa call _ k c = absurd c

  drains_keeps : (n after : NodeState) (r : Reply) → Keeps old Q P n → Drains n 0 r after → Keeps old Q P after
  drains_keeps n after (reply.Outputs outputs) k d = subst (Keeps old Q P) (sym d.1) (drain_keeps n k)
  drains_keeps n after reply.OutOfMemory k d = subst (Keeps old Q P) (sym d.1) k
  drains_keeps n after _ k d = absurd d

  pub plain_keeps : (n after : NodeState) (i : Input) (x : Coming) (r : Reply) → IsPlain i → Keeps old Q P n → Acts n i x r after → Keeps old Q P after
  plain_keeps n after (input.Api asa call) x r is k a = calls_keeps n after asa call r k a
  plain_keeps n after (input.Opened stream from) x r is k a = subst (Keeps old Q P) (sym a.1) (opened_keeps n stream from r k)
  plain_keeps n after (input.Closed stream) x r is k a = subst (Keeps old Q P) (sym a.1) (closed_keeps n stream k)
  plain_keeps n after (input.Drain most) x r is k a = drains_keeps n after r k (subst (λ j. Drains n j r after) is a)
  plain_keeps n after (input.Datagram link from bytes) x r is k a = absurd is
  plain_keeps n after (input.Bytes stream bytes) x r is k a = absurd is
