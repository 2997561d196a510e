-- What comes on a stream leaves what is so of a node.
use Rattle.std.proofs.Common.{◌≡◌, ◌≤◌, ℕ, List, [], ◌∷◌, ◌++◌, Option, Some, None, inl, inr, refl, subst, arith}
use Rattle.std.proofs.lemmas.Bool.{eqb-true}
use Rattle.std.proofs.lemmas.List.Quantifiers.{position-Some}
use Rattle.grasp_types.specs.Message.{IsMessage}
use Rattle.grasp_types.specs.declared.message.Message.{Message}
use Rattle.grasp_wire.specs.Cutter.{Past}
use Rattle.grasp_wire.specs.Wire.{AreWireForms}
use Rattle.grasp_model_node.specs.BoundedNodes.{IsBoundedNode, IsGiven}
use Rattle.grasp_model_node.specs.Bytes.{Added, Adds, hear_on, hear_all}
use Rattle.grasp_model_node.specs.Hear.{Heard}
use Rattle.grasp_model_node.specs.Moves.{begin_closing}
use Rattle.grasp_model_node.specs.Node.{NodeState}
use Rattle.grasp_model_node.specs.Streams.{StreamRecord, is_stream, place_of, at_place, past_in, past_of}
use Rattle.grasp_laws_node.proofs.Bounded.Hear.{Hears}
use Rattle.grasp_laws_node.proofs.Bounded.Moves.{closing_kept}
use Rattle.grasp_laws_node.proofs.Bounded.Walk.{move_kept}
use Rattle.grasp_laws_node.proofs.Walk.Bytes.{Each, each_before, each_behind, hear_all_moves}
use Rattle.grasp_laws_node.proofs.Walk.Moves.{Known, Turn, Moves, on_stream, kept, still}
use Rattle.grasp_laws_node.proofs.Walk.Parts.{dialled_rises}

-- ---- what a piece adds is messages

abbrev pub AreMessages : List Message → Type 0
AreMessages ms = Each IsMessage ms

forms_are : (ms : List Message) (bytes : List ℕ) (limit : ℕ) → AreWireForms ms bytes limit → AreMessages ms
forms_are [] bytes limit f = tt
forms_are (m ∷ ms) bytes limit f = (f.2.is_message, forms_are ms f.1 limit f.3)

pub are_before : (ms others : List Message) → AreMessages (ms ++ others) → AreMessages ms
are_before ms others a = each_before IsMessage ms others a

pub added_are : (limit : ℕ) (past : Past) (piece : List ℕ) (a : Added) → Adds limit past piece a → AreMessages a.messages
added_are limit past piece a d = each_behind IsMessage past.given a.messages (forms_are (past.given ++ a.messages) d.splits.front limit d.splits.forms)

-- ---- a stream that has a record has a number that is given

pub record_given : (n : NodeState) (stream : ℕ) (past : Past) → IsBoundedNode n → past_of n.streams stream ≡ Some past → IsGiven n.streams.dialled stream
record_given n stream past k e = by_place (place_of stream n.streams.records) refl e where
  none : StreamRecord
  none = record { number = 0; from = None; past = None }

  by_place : (o : Option ℕ) → place_of stream n.streams.records ≡ o → past_in (at_place n.streams.records o) ≡ Some past → IsGiven n.streams.dialled stream
  by_place None f g = absurd (cc)
  by_place (Some i) f g =
      let p = position-Some (is_stream stream) n.streams.records i none f in
      subst (IsGiven n.streams.dialled) (eqb-true _ stream p.1) (k.records_given i none p.0)

-- ---- moves, at streams whose numbers were given when so many were dialled

given_more : (d e stream : ℕ) → d ≤ e → IsGiven d stream → IsGiven e stream
given_more d e stream h (inl odd) = inl odd
given_more d e stream h (inr low) = inr (omega (arith, h, low))

-- what comes are messages, and their streams' numbers are given
abbrev pub given_by : ℕ → Known
given_by d = record { message = IsMessage; stream = IsGiven d; past = λ s p. Unit {0}; saying = λ s. Unit {0} }

abbrev pub Bound : ℕ → NodeState → Type 0
Bound d n = IsBoundedNode n × (d ≤ n.streams.dialled)

all_dialled : (d : ℕ) → d ≤ d
all_dialled d = omega arith

moves_kept : (d : ℕ) (base : NodeState) → IsBoundedNode base → (turn : Turn) (n after : NodeState) → Moves (given_by d) base turn n after → Bound d n → Bound d after
moves_kept d base node turn n after ms b =
    kept (Bound d)
    (λ n after x b. (move_kept (given_by d) base node (λ m i. i) turn n after x (λ stream g. given_more d n.streams.dialled stream b.1 g) b.0, dialled_rises (given_by d) base turn d n after x b.1))
    ms b

-- from the base itself
pub moves_from : (n : NodeState) (turn : Turn) (after : NodeState) → Moves (given_by n.streams.dialled) n turn n after → IsBoundedNode n → Bound n.streams.dialled after
moves_from n turn after ms k = moves_kept n.streams.dialled n k turn n after ms (k, all_dialled n.streams.dialled)

-- ---- messages

pub hear_all_kept : (stream : ℕ) (ms : List Message) (x : Heard) → AreMessages ms → Hears stream x.node → Hears stream (hear_all stream ms x).node
hear_all_kept stream ms x a k =
    let b = moves_from x.node (on_stream stream) (hear_all stream ms x).node (hear_all_moves (given_by x.node.streams.dialled) x.node x.node stream k.1 ms x a still) k.0 in
    (b.0, given_more x.node.streams.dialled (hear_all stream ms x).node.streams.dialled stream b.1 k.1)

pub hear_on_kept : (stream : ℕ) (x : Heard) (m : Message) → IsMessage m → Hears stream x.node → Hears stream (hear_on stream x m).node
unfolding hear_all
hear_on_kept stream x m i k = hear_all_kept stream (m ∷ []) x (i, tt) k

pub closing_heard : (stream : ℕ) (n : NodeState) → Hears stream n → Hears stream (begin_closing n stream)
unfolding begin_closing
closing_heard stream n k = (closing_kept n stream k.0, k.1)
