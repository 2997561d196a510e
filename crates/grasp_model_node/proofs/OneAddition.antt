-- What a piece adds to an open stream is one thing.
use Rattle.std.proofs.Common.{◌≡◌, ℕ, List, ◌++◌, Option, Some, None, sym, ap, ◌∙◌, subst}
use Rattle.std.specs.Prelude.{IsSome}
use Rattle.std.proofs.lemmas.List.{append_cancel_left}
use Rattle.grasp_cbor.proofs.HeadBytes.{AllBytes-append, AllBytes-back}
use Rattle.grasp_cbor.specs.Bytes.{AllBytes}
use Rattle.grasp_types.specs.declared.message.Message.{Message}
use Rattle.grasp_wire.proofs.Dividing.{one_division, one_kind}
use Rattle.grasp_wire.specs.Cutter.{Past}
use Rattle.grasp_wire.specs.Stream.{IsRest, RestKind}
use Rattle.grasp_model_node.specs.Added.{SameMessagesCome}
use Rattle.grasp_model_node.specs.Bytes.{Added, Adds, AddsOn}
use Rattle.grasp_model_node.specs.Streams.{past_of}

messages_agree : (limit : ℕ) (past : Past) (piece : List ℕ) (a b : Added) → Adds limit past piece a → Adds limit past piece b → (a.messages ≡ b.messages) × (a.rest ≡ b.rest)
messages_agree limit past piece a b x y =
    let same = one_division (past.fed ++ piece) limit (past.given ++ a.messages) (past.given ++ b.messages) a.rest b.rest x.splits y.splits in
    (append_cancel_left past.given a.messages b.messages same.0, same.1)

pub same_messages_come : SameMessagesCome
same_messages_come n stream piece a b some x y = by_past (past_of n.streams stream) some x y where
  by_past : (o : Option Past) → IsSome o → AddsOn n.plan.limit piece a o → AddsOn n.plan.limit piece b o → a.messages ≡ b.messages
  by_past None s x y = absurd (cc)
  by_past (Some past) s x y = (messages_agree n.plan.limit past piece a b x y).0

added_is : (a b : Added) → a.messages ≡ b.messages → a.rest ≡ b.rest → a.kind ≡ b.kind → a ≡ b
added_is a b e f g =
    ap (λ (ms : List Message). let t : Added = record a { messages = ms } in t) e
    ∙ (ap (λ (r : List ℕ). let t : Added = record a { messages = b.messages; rest = r } in t) f
    ∙ ap (λ (k : RestKind). let t : Added = record b { kind = k } in t) g)

pub agree : (limit : ℕ) (past : Past) (piece : List ℕ) (a b : Added) → AllBytes past.fed → AllBytes piece → Adds limit past piece a → Adds limit past piece b → a ≡ b
agree limit past piece a b fed bytes x y =
    let same = messages_agree limit past piece a b x y in
    let rest : AllBytes a.rest = AllBytes-back x.splits.front a.rest (subst AllBytes x.splits.parts (AllBytes-append past.fed piece fed bytes)) in
    added_is a b same.0 same.1 (one_kind a.rest limit a.kind b.kind rest x.kind_is (subst (λ (r : List ℕ). IsRest r limit b.kind) (sym same.1) y.kind_is))
