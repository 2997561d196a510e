-- How what comes on a stream and by a datagram is read: with the limit of the node's plan (RFC 8990, section 2.6).
use Rattle.std.specs.Prelude.{◌≡◌, ◌↔◌, ℕ, List, ◌++◌, Some}
use Rattle.grasp_model_node.specs.Begin.{begin}
use Rattle.grasp_model_node.specs.Node.{NodeState}
use Rattle.grasp_model_node.specs.Step.{Coming, NodeStep}
use Rattle.grasp_model_node.specs.Streams.{past_of}
use Rattle.grasp_types.specs.declared.message.Message.{Message}
use Rattle.grasp_types.specs.declared.reply.Reply.{Reply}
use Rattle.grasp_types.specs.declared.traffic.Input.TheVariants as input
use Rattle.grasp_wire.specs.Cutter.{Past}
use Rattle.grasp_wire.specs.Stream.{Divides}
use Rattle.grasp_wire.specs.Wire.{IsWireForm}

-- all that came on an open stream, with this piece, divides into the messages that were heard before, those that the piece adds, and a rest
abbrev pub PiecesAreDivided : Type 0
PiecesAreDivided = (n after : NodeState) (now stream : ℕ) (piece : List ℕ) (x : Coming) (r : Reply) (past : Past) → NodeStep n now (input.Bytes stream piece) x r after
    → past_of (begin n now).streams stream ≡ Some past
    → Divides (past.fed ++ piece) n.plan.limit (past.given ++ x.added.messages) x.added.rest x.added.kind

-- a datagram carries just the message that its bytes are
abbrev pub DatagramsAreRead : Type 0
DatagramsAreRead = (n after : NodeState) (now link from : ℕ) (bytes : List ℕ) (x : Coming) (r : Reply) → NodeStep n now (input.Datagram link from bytes) x r after
    → (m : Message) → x.carried ≡ Some m ↔ IsWireForm m bytes n.plan.limit

abbrev pub WhatComesIsRead : Type 0
WhatComesIsRead = PiecesAreDivided × DatagramsAreRead
