-- What is so of the open streams of a node, before each step and after it.
use Rattle.std.proofs.Common.{◌≡◌, ◌≢◌, ℕ, ◌<◌, Some, sym, subst}
use Rattle.std.proofs.lemmas.List.Elements.{All-weaker}
use Rattle.grasp_types.specs.declared.reply.Reply.{Reply}
use Rattle.grasp_types.specs.declared.reply.Reply.TheVariants as reply
use Rattle.grasp_types.specs.declared.traffic.Input.{Input}
use Rattle.grasp_types.specs.declared.traffic.Input.TheVariants as input
use Rattle.grasp_wire.specs.Cutter.{Past, no_past}
use Rattle.grasp_wire.specs.Stream.{waiting}
use Rattle.grasp_laws_node.proofs.Bounded.Nodes.{begin_kept}
use Rattle.grasp_model_node.specs.Begin.{begin}
use Rattle.grasp_model_node.specs.Bytes.{Adds, past_after}
use Rattle.grasp_model_node.specs.Node.{NodeState}
use Rattle.grasp_model_node.specs.BoundedNodes.{IsBoundedNode}
use Rattle.grasp_model_node.specs.Step.{Coming, IsComing, Acts, NodeStep}
use Rattle.grasp_model_node.specs.Streams.{past_of, next_stream}
use Rattle.grasp_laws_node.proofs.Records.Bytes.{bytes_holds, starving_holds, closed_holds}
use Rattle.grasp_laws_node.proofs.Records.Moves.{OpenHolds, Holds, by_past, holds_at, moves_hold}
use Rattle.grasp_laws_node.proofs.Walk.Moves.{begins}
use Rattle.grasp_laws_node.proofs.Walk.Steps.{begin_moves, turn_of, Tells, acts_moves}
use Rattle.grasp_laws_node.proofs.Records.Apart.{AreApart, But}

-- a stream that the step dials begins with it
abbrev pub Dials : (ℕ → Past → Type 0) → NodeState → NodeState → Type 0
Dials Q n after = n.streams.dialled < after.streams.dialled → Q (next_stream n.streams) no_past

pub begin_holds : (Q : ℕ → Past → Type 0) (n : NodeState) (now : ℕ) → Holds Q n → Holds Q (begin n now)
begin_holds Q n now k = moves_hold Q n begins n (begin n now) (begin_moves (by_past Q) n n now) k

-- ---- a step

-- What an input asks of what is so before and of what is to be so after: other streams keep it, a stream that is opened begins with it, one
-- that is closed needs nothing, and one on which a piece comes has it with the piece.
abbrev pub Turns : (ℕ → Past → Type 0) → (ℕ → Past → Type 0) → NodeState → Coming → Reply → Input → Type 0
Turns P Q n x r (input.Opened new from) = ((stream : ℕ) (past : Past) → P stream past → Q stream past) × (r ≡ reply.Taken → Q new no_past)
Turns P Q n x r (input.Closed closed) = (stream : ℕ) (past : Past) → stream ≢ closed → P stream past → Q stream past
Turns P Q n x r (input.Bytes on piece) =
    ((stream : ℕ) (past : Past) → stream ≢ on → P stream past → Q stream past)
    × ((past : Past) → P on past → Adds n.plan.limit past piece x.added → x.added.kind ≡ waiting → Q on (past_after past piece x.added))
Turns P Q n x r _ = (stream : ℕ) (past : Past) → P stream past → Q stream past

-- where Q follows from P, and P holds of all open records of the node, Q holds of all of them
pub weaker : (P Q : ℕ → Past → Type 0) (n : NodeState) → ((stream : ℕ) (past : Past) → P stream past → Q stream past) → Holds P n → Holds Q n
weaker P Q n turn k = record { each = All-weaker (OpenHolds P) (OpenHolds Q) (λ x o. record { holds = λ past e. turn x.number past (o.holds past e) }) n.streams.records k.each }

by_moves : (Q : ℕ → Past → Type 0) (n after : NodeState) (i : Input) (x : Coming) (r : Reply) → IsComing n i x → Tells (by_past Q) n i x r after → Acts n i x r after → Holds Q n → Holds Q after
by_moves Q n after i x r c s a k = moves_hold Q n (turn_of i) n after (acts_moves (by_past Q) n after i x r c s a) k

acts_hold : (P Q : ℕ → Past → Type 0) (n after : NodeState) (i : Input) (x : Coming) (r : Reply) → AreApart n.streams.records → Turns P Q n x r i → Dials Q n after → Holds P n → IsComing n i x
    → Acts n i x r after → Holds Q after
acts_hold P Q n after (input.Api asa call) x r s t w k c a =
    by_moves Q n after (input.Api asa call) x r c (record { speak = record { going = λ p y at g. tt; untaken = λ p y at o. tt }; say = λ saying is. tt; dials = w }) a (weaker P Q n t k)
acts_hold P Q n after (input.Datagram link from bytes) x r s t w k c a = by_moves Q n after (input.Datagram link from bytes) x r c tt a (weaker P Q n t k)
acts_hold P Q n after (input.Opened stream from) x r s t w k c a = by_moves Q n after (input.Opened stream from) x r c t.1 a (weaker P Q n t.0 k)
acts_hold P Q n after (input.Bytes stream bytes) x reply.Taken s t w k c a =
    subst (Holds Q) (sym a)
    (bytes_holds Q n stream bytes x.added c s (λ past e adds waits. t.1 past (holds_at P stream n.streams.records past k.each e) adds waits)
    (weaker P (But stream Q) n (λ other past p differs. t.0 other past differs p) k))
acts_hold P Q n after (input.Bytes stream bytes) x reply.OutOfMemory s t w k c a =
    starving_holds Q n stream bytes x.added after a s (weaker P (But stream Q) n (λ other past p differs. t.0 other past differs p) k)
acts_hold P Q n after (input.Bytes stream bytes) x _ s t w k c a = absurd a
acts_hold P Q n after (input.Closed stream) x r s t w k c a =
    subst (Holds Q) (sym a.1) (closed_holds Q n stream s (weaker P (But stream Q) n (λ other past p differs. t other past differs p) k))
acts_hold P Q n after (input.Drain max) x r s t w k c a = by_moves Q n after (input.Drain max) x r c tt a (weaker P Q n t k)

-- what is so of the open streams of a node before a step, and of those after it
pub step_holds : (P Q : ℕ → Past → Type 0) (n after : NodeState) (now : ℕ) (i : Input) (x : Coming) (r : Reply) → IsBoundedNode n → Turns P Q (begin n now) x r i → Dials Q (begin n now) after
    → Holds P n → NodeStep n now i x r after → Holds Q after
step_holds P Q n after now i x r node t w k s =
    acts_hold P Q (begin n now) after i x r (begin_kept n now node).apart t w (begin_holds P n now k) s.is_coming s.acts

-- each open stream has it
pub open_has : (Q : ℕ → Past → Type 0) (n : NodeState) (stream : ℕ) (past : Past) → Holds Q n → past_of n.streams stream ≡ Some past → Q stream past
open_has Q n stream past k e = holds_at Q stream n.streams.records past k.each e
