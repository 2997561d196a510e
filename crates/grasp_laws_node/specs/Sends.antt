-- For which streams a step queues messages: for those that a peer opened, and those that the node dialled before.
use Rattle.std.specs.Prelude.{◌≡◌, ◌<◌, ◌⊎◌, ℕ, ◌+◌, ◌*◌, ◌%◌, List, [], ◌∷◌, All, Contains}
use Rattle.grasp_types.specs.declared.reply.Reply.{Reply}
use Rattle.grasp_types.specs.declared.traffic.Input.{Input}
use Rattle.grasp_types.specs.declared.traffic.Input.TheVariants as input
use Rattle.grasp_model_node.specs.Node.{NodeState}
use Rattle.grasp_model_node.specs.Queue.{Queued, datagram, dial, send}
use Rattle.grasp_model_node.specs.BoundedNodes.{IsBoundedNode}
use Rattle.grasp_model_node.specs.Step.{Coming, NodeStep}
use Rattle.grasp_model_node.specs.Streams.{StreamRecord}
use Rattle.grasp_laws_node.specs.Consistent.{IsConsistent}
use Rattle.grasp_laws_node.specs.Dials.{IsNoDrain, gained}

-- a peer opened this stream, or the node has dialled it: it is even, and below the next one
abbrev pub IsKnown : (ℕ → Type 0) → ℕ → ℕ → Type 0
IsKnown IsOpened dialled stream = IsOpened stream ⊎ ((stream % 2 ≡ 0) × (stream < 2 * dialled))

-- behind so many dials, these outputs in order: each dial is that of the next stream, and each message is for a stream that is known
-- by then; and behind them so many streams are dialled
abbrev pub Follows : (ℕ → Type 0) → ℕ → List Queued → ℕ → Type 0
Follows IsOpened dialled [] last = last ≡ dialled
Follows IsOpened dialled (datagram link to m ∷ qs) last = Follows IsOpened dialled qs last
Follows IsOpened dialled (dial stream to ∷ qs) last = (stream ≡ 2 * dialled) × Follows IsOpened (dialled + 1) qs last
Follows IsOpened dialled (send stream m ∷ qs) last = IsKnown IsOpened dialled stream × Follows IsOpened dialled qs last

-- each record of the node is that of a stream that is known
abbrev pub RecordsKnown : (ℕ → Type 0) → NodeState → Type 0
RecordsKnown IsOpened n = All (λ (x : StreamRecord). IsKnown IsOpened n.streams.dialled x.number) n.streams.records

-- a stream that the input opens is among these
abbrev pub OpensOne : (ℕ → Type 0) → Input → Type 0
OpensOne IsOpened (input.Opened stream from) = IsOpened stream
OpensOne IsOpened (input.Drain max) = Unit {0}
OpensOne IsOpened (input.Api asa call) = Unit {0}
OpensOne IsOpened (input.Datagram link from bytes) = Unit {0}
OpensOne IsOpened (input.Bytes stream bytes) = Unit {0}
OpensOne IsOpened (input.Closed stream) = Unit {0}

-- what a step queues is for streams that are known, and so are the records after it
pub record SendsFollow (IsOpened : ℕ → Type 0) (n : NodeState) (i : Input) (after : NodeState) : Type 0 where
  pub records : RecordsKnown IsOpened after
  pub sends : IsNoDrain i → Follows IsOpened n.streams.dialled (gained n after) after.streams.dialled

-- whichever streams peers opened: each step of a node to which steps lead
abbrev pub SendsAreKnown : Type 0
SendsAreKnown = (opened : List ℕ) (n after : NodeState) (now : ℕ) (i : Input) (x : Coming) (r : Reply) → IsBoundedNode n → IsConsistent n → RecordsKnown (Contains opened) n
    → OpensOne (Contains opened) i → NodeStep n now i x r after → SendsFollow (Contains opened) n i after
