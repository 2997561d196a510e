-- Something comes with every input at a node for which a core stands.
use Rattle.std.proofs.Common.{◌≡◌, refl, sym, ap, ◌∙◌, subst, ℕ, zero, suc, ◌<◌, ◌^◌, ◌==◌, Bool, true, false, cond, List, [], ◌∷◌, slice_get, slice_set, Option, Some, None}
use Rattle.std.proofs.lemmas.Option.{none-some, same_Some}
use Rattle.std.specs.List.{find}
use Rattle.grasp_cbor.specs.Bytes.{AllBytes}
use Rattle.grasp_laws_node.proofs.Beginning.{beginnings_end}
use Rattle.grasp_laws_node.proofs.Divided.Comes.{something_always_comes}
use Rattle.grasp_laws_node.proofs.Divided.Nodes.{fed_nodes_kept}
use Rattle.grasp_core.proofs.SomethingComes.{something_comes}
use Rattle.grasp_model_node.proofs.Facts.{first_record}
use Rattle.grasp_model_node.specs.Begin.{expire_on, expired, begin}
use Rattle.grasp_model_node.specs.Bytes.{Added, AddsOn}
use Rattle.grasp_model_node.specs.Datagrams.{Carries}
use Rattle.grasp_model_node.specs.Divided.{Comes}
use Rattle.grasp_model_node.specs.Moves.{with_reading, with_sessions, with_discoveries, with_floods, begin_closing}
use Rattle.grasp_model_node.specs.Node.{NodeState, first_node}
use Rattle.grasp_core.specs.Stands.{NodeStands}
use Rattle.grasp_model_node.specs.Streams.{StreamRecord, StreamsState, is_stream, place_of, at_place, past_in, past_of, put_past, set_past, closing}
use Rattle.grasp_core.specs.declared.node_core.NodeCore.{NodeCore}
use Rattle.grasp_model_node.specs.declared.plan.NodePlan.{NodePlan}
use Rattle.grasp_session.specs.Sessions.{expire_reply}
use Rattle.grasp_types.specs.declared.traffic.Input.TheVariants as input
use Rattle.grasp_wire.specs.Cutter.{Past}
use Rattle.grasp_simulator.specs.Comings.{SomethingComesToCores}
use Rattle.grasp_model_network.specs.Visits.{no_choice}

-- ---- a stream that is open after another was closed was open before

pub past_found : (other : ℕ) (xs : List StreamRecord) → past_in (at_place xs (place_of other xs)) ≡ past_in (find (is_stream other) xs)
past_found other xs = ap past_in (first_record other xs)

-- one record begins closing
abbrev shut : StreamRecord → StreamRecord
shut x = record x { past = None }

pub still_open : (other : ℕ) (past : Past) (xs : List StreamRecord) (i : ℕ) (x : StreamRecord) → slice_get xs i ≡ Some x
    → past_in (find (is_stream other) (slice_set xs i (shut x))) ≡ Some past → past_in (find (is_stream other) xs) ≡ Some past
still_open other past [] i x at e = absurd (none-some x at)
still_open other past (y ∷ ys) zero x at e = by_number (x.number == other) refl e where
  by_number : (b : Bool) → (x.number == other) ≡ b → past_in (cond b (Some (shut x)) (find (is_stream other) ys)) ≡ Some past → past_in (find (is_stream other) (y ∷ ys)) ≡ Some past
  by_number true is f = absurd (none-some past f)
  by_number false is f = rw (ap (is_stream other) (same_Some y x at) ∙ is) f
still_open other past (y ∷ ys) (suc i) x at e = by_number (is_stream other y) (still_open other past ys i x at) e where
  by_number : (b : Bool) → (past_in (find (is_stream other) (slice_set ys i (shut x))) ≡ Some past → past_in (find (is_stream other) ys) ≡ Some past)
      → past_in (cond b (Some y) (find (is_stream other) (slice_set ys i (shut x)))) ≡ Some past → past_in (cond b (Some y) (find (is_stream other) ys)) ≡ Some past
  by_number true below f = f
  by_number false below f = below f

pub closing_past : (s : StreamsState) (stream other : ℕ) (past : Past) → past_of (closing s stream) other ≡ Some past → past_of s other ≡ Some past
closing_past s stream other past e = past_found other s.records ∙ by_place (place_of stream s.records) (sym (past_found other (set_past None s.records (place_of stream s.records))) ∙ e) where
  by_record : (i : ℕ) (o : Option StreamRecord) → slice_get s.records i ≡ o → past_in (find (is_stream other) (put_past None s.records i o)) ≡ Some past
      → past_in (find (is_stream other) s.records) ≡ Some past
  by_record i None at f = f
  by_record i (Some x) at f = still_open other past s.records i x at f

  by_place : (o : Option ℕ) → past_in (find (is_stream other) (set_past None s.records o)) ≡ Some past → past_in (find (is_stream other) s.records) ≡ Some past
  by_place None f = f
  by_place (Some i) f = by_record i (slice_get s.records i) refl f

-- ---- the beginning of a step

pub expire_past : (n : NodeState) (o : Option ℕ) (other : ℕ) (past : Past) → past_of (expire_on n o).streams other ≡ Some past → past_of n.streams other ≡ Some past
unfolding begin_closing with_sessions
expire_past n None other past e = e
expire_past n (Some stream) other past e = closing_past n.streams stream other past e

pub expired_past : (k : ℕ) (n : NodeState) (other : ℕ) (past : Past) → past_of (expired k n).streams other ≡ Some past → past_of n.streams other ≡ Some past
unfolding expired
expired_past zero n other past e = e
expired_past (suc k) n other past e = expired_past k n other past (expire_past (expired k n) (expire_reply (expired k n).sessions (expired k n).reading) other past e)

pub begin_past : (n : NodeState) (now other : ℕ) (past : Past) → past_of (begin n now).streams other ≡ Some past → past_of n.streams other ≡ Some past
unfolding begin with_discoveries with_floods with_reading
begin_past n now other past e = expired_past 64 (with_reading n now) other past e

-- ---- what comes

-- the limit is the plan's, at the beginning of a step and before it
pub same_limit : (n : NodeState) (now : ℕ) → (begin n now).plan.limit ≡ n.plan.limit
same_limit n now = ap (λ (p : NodePlan). p.limit) (beginnings_end n now).0.plan

pub bytes_come : (core : NodeCore) (n : NodeState) (now stream : ℕ) (bytes : List ℕ) → n.plan.limit < 2 ^ 64 → NodeStands core n → AllBytes bytes → Comes n now (input.Bytes stream bytes)
bytes_come core n now stream bytes few stands all = by_past (past_of (begin n now).streams stream) refl where
  made : (a : Added) → AddsOn (begin n now).plan.limit bytes a (past_of (begin n now).streams stream) → Comes n now (input.Bytes stream bytes)
  made a adds = record { coming = record { added = a; carried = None }; is_coming = adds }

  by_past : (o : Option Past) → past_of (begin n now).streams stream ≡ o → Comes n now (input.Bytes stream bytes)
  by_past None e = made no_choice.coming.added (subst (AddsOn (begin n now).plan.limit bytes no_choice.coming.added) (sym e) tt)
  by_past (Some past) e =
      let a = something_comes core n stream bytes few stands all in
      made a.0
      (subst (AddsOn (begin n now).plan.limit bytes a.0) (begin_past n now stream past e ∙ sym e)
      (subst (λ (l : ℕ). AddsOn l bytes a.0 (past_of n.streams stream)) (sym (same_limit n now)) a.1))

-- what a datagram carries depends on the limit alone
pub datagram_comes : (n : NodeState) (now link from : ℕ) (bytes : List ℕ) → 0 < n.plan.limit → n.plan.limit < 2 ^ 64 → AllBytes bytes → Comes n now (input.Datagram link from bytes)
datagram_comes n now link from bytes some few all = carried (something_always_comes (first_node n.plan) now (input.Datagram link from bytes) (fed_nodes_kept.0 n.plan some) few all) where
  carried : Comes (first_node n.plan) now (input.Datagram link from bytes) → Comes n now (input.Datagram link from bytes)
  carried c = record {
    coming = c.coming;
    is_coming = subst (λ (l : ℕ). Carries l bytes c.coming.carried) (same_limit (first_node n.plan) now ∙ sym (same_limit n now)) c.is_coming;
  }

pub something_comes_to_cores : SomethingComesToCores
something_comes_to_cores core n now (input.Bytes stream bytes) some few stands all = bytes_come core n now stream bytes few stands all
something_comes_to_cores core n now (input.Datagram link from bytes) some few stands all = datagram_comes n now link from bytes some few all
something_comes_to_cores core n now _ some few stands all = record { coming = no_choice.coming; is_coming = tt }
