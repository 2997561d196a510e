-- Each step leaves the parts of a node as they hold together.
use Rattle.std.proofs.Common.{◌≡◌, ℕ, zero, suc, ◌%◌, ◌-◌, Bool, true, false, cond, ◌==◌, List, [], ◌∷◌, length, drop, Option, Some, None, is_some, refl, sym, subst, All}
use Rattle.std.specs.List.{fold}
use Rattle.std.proofs.lemmas.Bool.{true≢false, or_parts, eqb-false}
use Rattle.std.proofs.lemmas.List.Elements.{All-nil, All-take}
use Rattle.grasp_laws_session.proofs.Fresh.{none_fresh}
use Rattle.grasp_laws_session.proofs.Runs.{none_live}
use Rattle.grasp_session.specs.Runs.{Expires}
use Rattle.grasp_session.specs.Sessions.{expire_reply, after_expire, state_reply}
use Rattle.grasp_types.specs.declared.address.Address.{Address}
use Rattle.grasp_types.specs.declared.call.Call.{Call}
use Rattle.grasp_types.specs.declared.reply.Reply.{Reply}
use Rattle.grasp_types.specs.declared.reply.Reply.TheVariants as reply
use Rattle.grasp_types.specs.declared.traffic.Input.{Input}
use Rattle.grasp_types.specs.declared.traffic.Input.TheVariants as input
use Rattle.grasp_model_node.specs.Begin.{expire_on, expired, begin}
use Rattle.grasp_model_node.specs.Draining.{closes_behind, closes, after_drain}
use Rattle.grasp_model_node.specs.Moves.{with_reading, with_sessions, open_record}
use Rattle.grasp_model_node.specs.Node.{NodeState, first_node}
use Rattle.grasp_model_node.specs.Opening.{is_live, is_ignored, after_opened}
use Rattle.grasp_model_node.specs.Queue.{Queued}
use Rattle.grasp_model_node.specs.BoundedNodes.{IsBoundedNode}
use Rattle.grasp_model_node.specs.Step.{Coming, IsComing, Calls, Acts, NodeStep}
use Rattle.grasp_model_node.specs.Streams.{StreamsState, has_record, past_of, with_opened, without, closing_numbers}
use Rattle.grasp_laws_node.specs.Consistent.{IsConsistent, TiesAreKept}
use Rattle.grasp_model_node.specs.declared.plan.NodePlan.{NodePlan}
use Rattle.grasp_laws_node.proofs.Bounded.Moves.{streams_of, reading_kept}
use Rattle.grasp_laws_node.proofs.Bounded.Nodes.{expired_kept, begin_kept}
use Rattle.grasp_laws_node.proofs.OthersAlone.{others_self}
use Rattle.grasp_laws_node.proofs.Consistent.Bytes.{bytes_held, starving_held, closed_held}
use Rattle.grasp_laws_node.proofs.Consistent.Calls.{answered_held}
use Rattle.grasp_laws_node.proofs.Consistent.Datagrams.{datagram_holds}
use Rattle.grasp_laws_node.proofs.Consistent.Moves.{IsHeld, held_of, tied_of, reading_held, discoveries_held, floods_held, call_shut, closing_held}
use Rattle.grasp_laws_node.proofs.Consistent.Streams.{others_past_opened, fold_past, closing_pasts}
use Rattle.grasp_laws_node.proofs.Consistent.Table.{but_one, moved, tied_empty, tied_alike, order, expire_shuts, none_lies}

-- ---- a node begins so

first_held : (plan : NodePlan) → IsHeld (first_node plan)
first_held plan = record {
  ties = record {
    opens = λ place x at g. absurd (none_live 64 place x at);
    dialled = λ stream past even e. absurd (cc);
    ended = λ place x at g. absurd (none_live 64 place x at);
  };
  heard = λ place x at own. absurd (none_live 64 place x at);
  fresh = none_fresh;
}

-- ---- the beginning of a step

expire_on_held : (n : NodeState) (o : Option ℕ) → expire_reply n.sessions n.reading ≡ o → IsBoundedNode n → IsHeld n → IsHeld (expire_on n o)
expire_on_held n None e k h = h
expire_on_held n (Some stream) e k h =
    closing_held (with_sessions n (after_expire n.sessions n.reading)) stream
    (call_shut n (Expires n.reading) stream k h tt tt (expire_shuts n.sessions n.reading stream (order n.sessions k.sessions) e))

expired_held : (count : ℕ) (n : NodeState) → IsBoundedNode n → IsHeld n → IsHeld (expired count n)
unfolding expired
expired_held zero n k h = h
expired_held (suc count) n k h =
    expire_on_held (expired count n) (expire_reply (expired count n).sessions (expired count n).reading) refl (expired_kept count n k) (expired_held count n k h)

begin_held : (n : NodeState) (now : ℕ) → IsBoundedNode n → IsHeld n → IsHeld (begin n now)
unfolding begin
begin_held n now k h = floods_held _ _ (discoveries_held _ _ (expired_held 64 (with_reading n now) (reading_kept n now k) (reading_held n now h)))

-- ---- a stream that a peer opens

none_there : (o : Option (ℕ × Bool)) → is_some o ≡ false → o ≡ None
none_there None e = refl
none_there (Some state) e = absurd (true≢false e)

opened_held : (n : NodeState) (stream : ℕ) (from : Address) → IsHeld n → is_ignored n stream ≡ false → IsHeld (open_record n stream from)
unfolding open_record
opened_held n stream from h new =
    let a = or_parts ((stream % 2) == 0) (is_live n stream) new in
    let b = or_parts (has_record n.streams stream) (is_some (state_reply n.sessions stream)) a.1 in
    let t : StreamsState = with_opened n.streams stream from in record {
      ties = tied_empty stream n.sessions t
          (moved stream n.sessions n.sessions n.streams t (but_one stream n.sessions n.streams h.ties) (others_self stream n.sessions) (others_past_opened n.streams stream from))
          (none_lies n.sessions stream (none_there (state_reply n.sessions stream) b.1)) (eqb-false (stream % 2) 0 a.0);
      heard = h.heard;
      fresh = h.fresh;
    }

opening_held : (n : NodeState) (stream : ℕ) (from : Address) (r : Reply) → IsHeld n → IsHeld (after_opened n stream from r)
opening_held n stream from reply.Taken h = by_test (is_ignored n stream) refl where
  by_test : (b : Bool) → is_ignored n stream ≡ b → IsHeld (cond b n (open_record n stream from))
  by_test true e = h
  by_test false e = opened_held n stream from h e
opening_held n stream from _ h = h

-- ---- a drain

closed_pasts : (n : NodeState) (max : ℕ) → IsBoundedNode n → All (λ stream. past_of n.streams stream ≡ None) (closes n max)
closed_pasts n max k = by_rest (drop max n.queue) where
  by_rest : (qs : List Queued) → All (λ stream. past_of n.streams stream ≡ None) (closes_behind n max qs)
  by_rest [] = All-take (λ stream. past_of n.streams stream ≡ None) (max - length n.queue) (closing_numbers n.streams) (closing_pasts n.streams k.apart)
  by_rest (q ∷ qs) = All-nil (λ stream. past_of n.streams stream ≡ None)

drain_held : (n : NodeState) (max : ℕ) → IsBoundedNode n → IsHeld n → IsHeld (after_drain n max)
unfolding after_drain
drain_held n max k h = record {
  ties = tied_alike n.sessions n.streams (fold without n.streams (closes n max)) h.ties (fold_past n.streams (closes n max) (streams_of n k) (closed_pasts n max k));
  heard = h.heard;
  fresh = h.fresh;
}

-- ---- a step

calls_held : (n after : NodeState) (asa : ℕ) (call : Call) (r : Reply) → IsBoundedNode n → IsHeld n → Calls n asa call r after → IsHeld after
calls_held n after asa call (reply.Api answer) k h c = subst IsHeld (sym c.1) (answered_held n asa call answer k h c.0)
calls_held n after asa call (reply.Refused refused) k h c = subst IsHeld (sym c.1) h
calls_held n after asa call _ k h c = absurd c

acts_held : (n after : NodeState) (i : Input) (x : Coming) (r : Reply) → IsBoundedNode n → IsHeld n → IsComing n i x → Acts n i x r after → IsHeld after
acts_held n after (input.Api asa call) x r k h c a = calls_held n after asa call r k h a
acts_held n after (input.Datagram link from bytes) x reply.Taken k h c a = subst IsHeld (sym a) (datagram_holds n link from x.carried (k, h)).1
acts_held n after (input.Datagram link from bytes) x reply.OutOfMemory k h c a = subst IsHeld (sym a) h
acts_held n after (input.Opened stream from) x r k h c a = subst IsHeld (sym a.1) (opening_held n stream from r h)
acts_held n after (input.Bytes stream bytes) x reply.Taken k h c a = subst IsHeld (sym a) (bytes_held n stream bytes x.added c k h)
acts_held n after (input.Bytes stream bytes) x reply.OutOfMemory k h c a = starving_held n stream bytes x.added after c a k h
acts_held n after (input.Closed stream) x r k h c a = subst IsHeld (sym a.1) (closed_held n stream k h)
acts_held n after (input.Drain max) x (reply.Outputs outputs) k h c a = subst IsHeld (sym a.1) (drain_held n max k h)
acts_held n after (input.Drain max) x reply.OutOfMemory k h c a = subst IsHeld (sym a.1) h
acts_held n after _ x r k h c a = absurd a

step_tied : (n after : NodeState) (now : ℕ) (i : Input) (x : Coming) (r : Reply) → IsBoundedNode n → IsConsistent n → NodeStep n now i x r after → IsConsistent after
step_tied n after now i x r k t s = tied_of after (acts_held (begin n now) after i x r (begin_kept n now k) (begin_held n now k (held_of n t)) s.is_coming s.acts)

pub ties_kept : TiesAreKept
ties_kept = (λ plan. tied_of (first_node plan) (first_held plan), λ n after now i x r k t s. step_tied n after now i x r k t s)
