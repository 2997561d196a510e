-- What a piece adds to its stream.
use Rattle.std.proofs.Common.{◌≡◌, ℕ, ◌<◌, ◌^◌, List, [], ◌++◌, Option, Some, None, refl, sym, ◌∙◌, subst, append_assoc}
use Rattle.std.specs.Prelude.{IsSome, IsSomeAnd, MatchOption, slice_get}
use Rattle.std.specs.List.{AllZip}
use Rattle.std.proofs.lemmas.Slice.Zip.{AllZip-right}
use Rattle.grasp_cbor.proofs.HeadBytes.{AllBytes-append}
use Rattle.grasp_cbor.specs.Bytes.{AllBytes}
use Rattle.grasp_types.specs.declared.message.Message.{Message}
use Rattle.grasp_wire.proofs.Dividing.{given_come, grows}
use Rattle.grasp_wire.proofs.SomeDivision.{some_division}
use Rattle.grasp_wire.specs.Cutter.{Past}
use Rattle.grasp_wire.specs.Stream.{Divides, Splits, waiting}
use Rattle.grasp_wire.specs.declared.cutter.Cutter.{Cutter}
use Rattle.grasp_model_node.proofs.OneAddition.{agree}
use Rattle.grasp_core.specs.Adding.{SomethingComes, OneComes}
use Rattle.grasp_model_node.specs.Bytes.{Added, Adds, AddsOn}
use Rattle.grasp_model_node.specs.Node.{NodeState}
use Rattle.grasp_core.specs.Stands.{CutsAs, CutsOpen, NodeStands, StreamStands}
use Rattle.grasp_model_node.specs.Streams.{StreamRecord, at_place, past_in, past_of, place_of}
use Rattle.grasp_core.specs.declared.node_core.NodeCore.{NodeCore}
use Rattle.grasp_core.specs.declared.streams.Stream.{Stream}

-- an open stream has its cutter
open_at : (limit : ℕ) (held : List Stream) (xs : List StreamRecord) (place : Option ℕ) (past : Past) → AllZip (StreamStands limit) held xs → past_in (at_place xs place) ≡ Some past → (c : Cutter) × CutsOpen limit c past
open_at limit held xs place past h e = by_place place e where
  by_cutter : (o : Option Cutter) → CutsAs limit o (Some past) → (c : Cutter) × CutsOpen limit c past
  by_cutter None k = absurd k
  by_cutter (Some c) k = (c, k)

  by_stream : (o : Option Stream) (x : StreamRecord) → IsSomeAnd o (λ s. StreamStands limit s x) → x.past ≡ Some past → (c : Cutter) × CutsOpen limit c past
  by_stream None x k f = absurd k
  by_stream (Some s) x k f = by_cutter s.cutter (subst (CutsAs limit s.cutter) f k.cuts)

  by_record : (i : ℕ) (o : Option StreamRecord) → MatchOption o (Unit {0}) (λ x. IsSomeAnd (slice_get held i) (λ s. StreamStands limit s x)) → past_in o ≡ Some past → (c : Cutter) × CutsOpen limit c past
  by_record i None k f = absurd (cc)
  by_record i (Some x) k f = by_stream (slice_get held i) x k f

  by_place : (o : Option ℕ) → past_in (at_place xs o) ≡ Some past → (c : Cutter) × CutsOpen limit c past
  by_place None f = absurd (cc)
  by_place (Some i) f = by_record i (slice_get xs i) (AllZip-right (StreamStands limit) held xs h i) f

open_of : (core : NodeCore) (n : NodeState) (stream : ℕ) (past : Past) → NodeStands core n → past_of n.streams stream ≡ Some past → (c : Cutter) × CutsOpen n.plan.limit c past
open_of core n stream past h e =
    let c = open_at core.streams.limit core.streams.held.items n.streams.records (place_of stream n.streams.records) past h.streams.held e in
    (c.0, subst (λ (l : ℕ). CutsOpen l c.0 past) h.limit c.1)

adds_some : (limit : ℕ) (c : Cutter) (past : Past) (piece : List ℕ) → limit < 2 ^ 64 → CutsOpen limit c past → AllBytes piece → (a : Added) × Adds limit past piece a
adds_some limit c past piece few k bytes =
    let before = some_division past.fed limit few k.stands.bytes in
    let after = some_division (past.fed ++ piece) limit few (AllBytes-append past.fed piece k.stands.bytes bytes) in
    let given = given_come c past before.0 before.1 k.stands (subst (λ (l : ℕ). Splits past.fed l before.0 before.1) (sym k.limit_is) before.3.splits) in
    let grown = grows past.fed piece limit before.0 after.0 before.1 after.1 before.3.splits after.3.splits in
    let all : after.0 ≡ past.given ++ (given.0 ++ grown.0) = grown.1 ∙ (subst (λ (ms : List Message). ms ++ grown.0 ≡ past.given ++ (given.0 ++ grown.0)) (sym given.1) (append_assoc past.given given.0 grown.0)) in
    (record { messages = given.0 ++ grown.0; rest = after.1; kind = after.2 }, subst (λ (ms : List Message). Divides (past.fed ++ piece) limit ms after.1 after.2) all after.3)

pub something_comes : SomethingComes
something_comes core n stream piece few h bytes = by_past (past_of n.streams stream) refl where
  by_past : (o : Option Past) → past_of n.streams stream ≡ o → (a : Added) × AddsOn n.plan.limit piece a o
  by_past None e = (record { messages = []; rest = []; kind = waiting }, tt)
  by_past (Some past) e = let k = open_of core n stream past h e in adds_some n.plan.limit k.0 past piece few k.1 bytes

pub one_comes : OneComes
one_comes core n stream piece a b h bytes some x y = by_past (past_of n.streams stream) refl some x y where
  by_past : (o : Option Past) → past_of n.streams stream ≡ o → IsSome o → AddsOn n.plan.limit piece a o → AddsOn n.plan.limit piece b o → a ≡ b
  by_past None e s x y = absurd (cc)
  by_past (Some past) e s x y = let k = open_of core n stream past h e in agree n.plan.limit past piece a b k.1.stands.bytes bytes x y
