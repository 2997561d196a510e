-- Each step makes a node queue messages for known streams alone.
use Rattle.std.proofs.Common.{◌≡◌, ℕ, [], length, drop, Some, None, IsSome, true, refl, sym, ap, ◌∙◌, subst}
use Rattle.std.specs.List.{Contains}
use Rattle.std.proofs.Math.Seq.{drop-append_seam}
use Rattle.grasp_session.specs.Made.{IsFresh}
use Rattle.grasp_session.specs.Transcript.{Transcript, is_going}
use Rattle.grasp_types.specs.declared.call.Call.{Call}
use Rattle.grasp_types.specs.declared.call.Call.TheVariants as call
use Rattle.grasp_types.specs.declared.reply.Reply.{Reply}
use Rattle.grasp_types.specs.declared.reply.Reply.TheVariants as reply
use Rattle.grasp_types.specs.declared.traffic.Input.{Input}
use Rattle.grasp_types.specs.declared.traffic.Input.TheVariants as input
use Rattle.grasp_wire.specs.Cutter.{Past}
use Rattle.grasp_wire.specs.Stream.{waiting}
use Rattle.grasp_laws_node.proofs.Beginning.{beginnings_end, drains_nothing}
use Rattle.grasp_model_node.specs.Begin.{begin}
use Rattle.grasp_model_node.specs.Draining.{closes, drained, after_drain}
use Rattle.grasp_model_node.specs.Node.{NodeState}
use Rattle.grasp_model_node.specs.BoundedNodes.{IsBoundedNode}
use Rattle.grasp_model_node.specs.Step.{Coming, NodeStep, Drains}
use Rattle.grasp_model_node.specs.Streams.{past_of}
use Rattle.grasp_laws_node.specs.Consistent.{IsConsistent, TiesAreKept}
use Rattle.grasp_laws_node.specs.Dials.{IsNoDrain, gained}
use Rattle.grasp_laws_node.specs.Sends.{IsKnown, Follows, RecordsKnown, OpensOne, SendsFollow, SendsAreKnown}
use Rattle.grasp_laws_node.proofs.Addressed.Moves.{Knows, Opens, known_streams, nothing_known, moves_known}
use Rattle.grasp_laws_node.proofs.Addressed.Streams.{StreamsKnown, open_known, all_without_known}
use Rattle.grasp_laws_node.proofs.Walk.Bytes.{each_anything}
use Rattle.grasp_laws_node.proofs.Walk.Calls.{turn_of_call}
use Rattle.grasp_laws_node.proofs.Walk.Declines.{SpeakOn}
use Rattle.grasp_laws_node.proofs.Walk.Moves.{begins}
use Rattle.grasp_laws_node.proofs.Walk.Steps.{begin_moves, turn_of, Tells, acts_moves}

-- ---- what an input does

-- each open stream is known
abbrev pub OpenKnown : (ℕ → Type 0) → NodeState → NodeState → Type 0
OpenKnown P base n = (stream : ℕ) (past : Past) → past_of n.streams stream ≡ Some past → IsKnown P base.streams.dialled stream

opens_call : (P : ℕ → Type 0) (asa : ℕ) (it : Call) → Opens P (turn_of_call asa it)
opens_call P asa (call.Discover name kind loops timeout) = tt
opens_call P asa (call.Flood name value ttl loops) = tt
opens_call P asa _ = tt

opens_turn : (P : ℕ → Type 0) (i : Input) → IsNoDrain i → OpensOne P i → Opens P (turn_of i)
opens_turn P (input.Api asa it) b o = opens_call P asa it
opens_turn P (input.Datagram link from bytes) b o = tt
opens_turn P (input.Opened stream from) b o = o
opens_turn P (input.Bytes stream bytes) b o = tt
opens_turn P (input.Closed stream) b o = tt
opens_turn P (input.Drain max) b o = absurd b

tells : (P : ℕ → Type 0) (base n after : NodeState) (i : Input) (x : Coming) (r : Reply) → SpeakOn (IsKnown P base.streams.dialled) n.sessions → OpenKnown P base n → Tells (known_streams P base) n i x r after
tells P base n after (input.Api asa it) x r s known = record { speak = s; say = λ saying is. tt; dials = λ more. tt }
tells P base n after (input.Datagram link from bytes) x r s known = tt
tells P base n after (input.Opened stream from) x r s known = λ taken. tt
tells P base n after (input.Bytes stream bytes) x r s known = λ past e adds. record { stream_so = known stream past e; messages = each_anything x.added.messages; past_so = λ waits. tt }
tells P base n after (input.Closed stream) x r s known = tt
tells P base n after (input.Drain max) x r s known = tt

-- ---- the beginning of a step is a step of its own

begin_tied : TiesAreKept → (n : NodeState) (now : ℕ) → IsBoundedNode n → IsConsistent n → IsConsistent (begin n now)
begin_tied ties n now k t =
    subst IsConsistent (drains_nothing (begin n now))
    (ties.1 n (after_drain (begin n now) 0) now (input.Drain 0) (record { added = record { messages = []; rest = []; kind = waiting }; carried = None }) (reply.Outputs (drained (begin n now) 0)) k t
    (record { is_coming = tt; acts = (refl, refl) }))

-- ---- a step

same_dialled : (n : NodeState) (now : ℕ) → (begin n now).streams.dialled ≡ n.streams.dialled
same_dialled n now = (beginnings_end n now).0.dialled

fresh_goes : (v : Transcript) → IsFresh v → is_going v ≡ true
fresh_goes v f = ap is_going f.fresh

module _ (P : ℕ → Type 0) where
  pub tied_speaks : (n : NodeState) → IsConsistent n → StreamsKnown P n.streams → SpeakOn (IsKnown P n.streams.dialled) n.sessions
  tied_speaks n t a = record {
    going = λ place x at g. open_known P n.streams x.stream a (t.sessions_open place x at g);
    untaken = λ place x at own. open_known P n.streams x.stream a (t.sessions_open place x at (fresh_goes x.view (t.fresh place x at own)));
  }

  streams_begin : (n : NodeState) (now : ℕ) → RecordsKnown P n → Knows P n (begin n now)
  streams_begin n now a = moves_known P n n begins n (begin n now) (begin_moves (known_streams P n) n n now) tt (nothing_known P n a)

  pub step_knows : (n after : NodeState) (now : ℕ) (i : Input) (x : Coming) (r : Reply) → IsNoDrain i → OpensOne P i → SpeakOn (IsKnown P n.streams.dialled) (begin n now).sessions → OpenKnown P n (begin n now)
      → RecordsKnown P n → NodeStep n now i x r after → Knows P n after
  step_knows n after now i x r none o s known a step =
      moves_known P n (begin n now) (turn_of i) (begin n now) after
      (acts_moves (known_streams P n) (begin n now) after i x r step.is_coming (tells P n (begin n now) after i x r s known) step.acts) (opens_turn P i none o) (streams_begin n now a)

module _ (ties : TiesAreKept) (P : ℕ → Type 0) where
  begin_speaks : (n : NodeState) (now : ℕ) → IsBoundedNode n → IsConsistent n → RecordsKnown P n → SpeakOn (IsKnown P n.streams.dialled) (begin n now).sessions
  begin_speaks n now k t a =
      subst (λ d. SpeakOn (IsKnown P d) (begin n now).sessions) (same_dialled n now) (tied_speaks P (begin n now) (begin_tied ties n now k t) (streams_begin P n now a).records)

  begin_open : (n : NodeState) (now : ℕ) → RecordsKnown P n → OpenKnown P n (begin n now)
  begin_open n now a stream past e =
      subst (λ d. IsKnown P d stream) (same_dialled n now) (open_known P (begin n now).streams stream (streams_begin P n now a).records (subst IsSome (sym e) refl))

  -- ---- a drain

  drain_known : (n : NodeState) (max : ℕ) → RecordsKnown P n → RecordsKnown P (after_drain n max)
  unfolding after_drain
  drain_known n max a = all_without_known P n.streams (closes n max) a

  drains_known : (n after : NodeState) (max : ℕ) (r : Reply) → RecordsKnown P n → Drains n max r after → RecordsKnown P after
  drains_known n after max (reply.Outputs outputs) a d = subst (RecordsKnown P) (sym d.1) (drain_known n max a)
  drains_known n after max reply.OutOfMemory a d = subst (RecordsKnown P) (sym d.1) a
  drains_known n after max _ a d = absurd d

  -- ---- all inputs

  knows_gained : (n after : NodeState) → (k : Knows P n after) → k.more ≡ gained n after
  knows_gained n after k = sym (ap (λ q. drop (length n.queue) q) k.queued ∙ drop-append_seam n.queue k.more)

  knows_follow : (n : NodeState) (i : Input) (after : NodeState) → Knows P n after → SendsFollow P n i after
  knows_follow n i after k = record {
    records = k.records;
    sends = λ none. subst (λ qs. Follows P n.streams.dialled qs after.streams.dialled) (knows_gained n after k) k.follows;
  }

  by_input : (n after : NodeState) (now : ℕ) (i : Input) (x : Coming) (r : Reply) → IsNoDrain i → IsBoundedNode n → IsConsistent n → RecordsKnown P n → OpensOne P i → NodeStep n now i x r after → SendsFollow P n i after
  by_input n after now i x r none k t a o s = knows_follow n i after (step_knows P n after now i x r none o (begin_speaks n now k t a) (begin_open n now a) a s)

  pub sends_follow : (n after : NodeState) (now : ℕ) (i : Input) (x : Coming) (r : Reply) → IsBoundedNode n → IsConsistent n → RecordsKnown P n → OpensOne P i → NodeStep n now i x r after → SendsFollow P n i after
  sends_follow n after now (input.Drain max) x r k t a o s = record { records = drains_known (begin n now) after max r (streams_begin P n now a).records s.acts; sends = λ none. absurd none }
  sends_follow n after now (input.Api asa call) x r k t a o s = by_input n after now (input.Api asa call) x r tt k t a o s
  sends_follow n after now (input.Datagram link from bytes) x r k t a o s = by_input n after now (input.Datagram link from bytes) x r tt k t a o s
  sends_follow n after now (input.Opened stream from) x r k t a o s = by_input n after now (input.Opened stream from) x r tt k t a o s
  sends_follow n after now (input.Bytes stream bytes) x r k t a o s = by_input n after now (input.Bytes stream bytes) x r tt k t a o s
  sends_follow n after now (input.Closed stream) x r k t a o s = by_input n after now (input.Closed stream) x r tt k t a o s

pub sends_known : TiesAreKept → SendsAreKnown
sends_known ties opened n after now i x r k t a o s = sends_follow ties (Contains opened) n after now i x r k t a o s
