-- Each step leaves what waits on open streams.
use Rattle.std.proofs.Common.{◌≡◌, ◌<◌, ℕ, List, [], ◌++◌, Some, refl, sym, subst, All}
use Rattle.std.proofs.lemmas.List.Elements.{All-nil, All-weaker}
use Rattle.grasp_cbor.proofs.HeadBytes.{AllBytes-append}
use Rattle.grasp_cbor.specs.Bytes.{AllBytes}
use Rattle.grasp_types.specs.declared.reply.Reply.{Reply}
use Rattle.grasp_types.specs.declared.traffic.Input.{Input}
use Rattle.grasp_types.specs.declared.traffic.Input.TheVariants as input
use Rattle.grasp_wire.proofs.Joins.{divides_alone}
use Rattle.grasp_wire.proofs.ReadingOn.{nothing_waits}
use Rattle.grasp_wire.specs.Cutter.{Past, no_past}
use Rattle.grasp_wire.specs.Stream.{Divides, RestKind, waiting}
use Rattle.grasp_model_node.specs.Begin.{begin}
use Rattle.grasp_model_node.specs.BoundedNodes.{IsBoundedNode}
use Rattle.grasp_model_node.specs.Bytes.{Added, Adds, past_after}
use Rattle.grasp_model_node.specs.Divided.{Waits, WaitsOpen, IsDivided, HasBytes, FedNodesAreKept}
use Rattle.grasp_model_node.specs.Node.{NodeState, first_node}
use Rattle.grasp_model_node.specs.Step.{Coming, NodeStep}
use Rattle.grasp_model_node.specs.Streams.{past_of}
use Rattle.grasp_model_node.specs.declared.plan.NodePlan.{NodePlan}
use Rattle.grasp_laws_node.proofs.Beginning.{beginnings_end}
use Rattle.grasp_laws_node.proofs.PlansStay.{step_plan}
use Rattle.grasp_laws_node.proofs.Records.Moves.{OpenHolds, Holds}
use Rattle.grasp_laws_node.proofs.Records.Nodes.{Turns, begin_holds, step_holds, open_has}

-- ---- what is so of each open stream of a node

abbrev WaitsOn : ℕ → ℕ → Past → Type 0
WaitsOn limit stream past = Waits limit past

feeds : (n : NodeState) → IsDivided n → Holds (WaitsOn n.plan.limit) n
feeds n f = record { each = All-weaker (WaitsOpen n.plan.limit) (OpenHolds (WaitsOn n.plan.limit)) (λ x w. record { holds = w.waits }) n.streams.records f.each }

is_fed : (plan : NodePlan) (n : NodeState) → 0 < plan.limit → n.plan ≡ plan → Holds (WaitsOn plan.limit) n → IsDivided n
is_fed plan n some same k = record {
  some = subst (λ (p : NodePlan). 0 < p.limit) (sym same) some;
  each =
      subst (λ (p : NodePlan). All (WaitsOpen p.limit) n.streams.records) (sym same)
      (All-weaker (OpenHolds (WaitsOn plan.limit)) (WaitsOpen plan.limit) (λ x o. record { waits = o.holds }) n.streams.records k.each);
}

pub waits_at : (n : NodeState) (stream : ℕ) (past : Past) → IsDivided n → past_of n.streams stream ≡ Some past → Waits n.plan.limit past
waits_at n stream past f e = open_has (WaitsOn n.plan.limit) n stream past (feeds n f) e

-- ---- a node begins so

first_fed : (plan : NodePlan) → 0 < plan.limit → IsDivided (first_node plan)
first_fed plan some = record { some = some; each = All-nil (WaitsOpen plan.limit) }

pub begin_fed : (n : NodeState) (now : ℕ) → IsDivided n → IsDivided (begin n now)
begin_fed n now f = is_fed n.plan (begin n now) f.some (beginnings_end n now).0.plan (begin_holds (WaitsOn n.plan.limit) n now (feeds n f))

-- ---- a step

-- before the first byte of a stream
none_came : (limit : ℕ) → 0 < limit → Waits limit no_past
none_came limit some = record { bytes = tt; rest = []; divides = divides_alone limit [] waiting tt (nothing_waits limit some); no_fault = refl }

-- a stream that stays open waits
piece_waits : (limit : ℕ) (past : Past) (piece : List ℕ) (a : Added) → Waits limit past → AllBytes piece → Adds limit past piece a → a.kind ≡ waiting → Waits limit (past_after past piece a)
piece_waits limit past piece a w bytes d e = record {
  bytes = AllBytes-append past.fed piece w.bytes bytes;
  rest = a.rest;
  divides = subst (λ (kind : RestKind). Divides (past.fed ++ piece) limit (past.given ++ a.messages) a.rest kind) e d;
  no_fault = w.no_fault;
}

turns : (plan : NodePlan) (n : NodeState) (x : Coming) (r : Reply) (i : Input) → 0 < plan.limit → n.plan ≡ plan → HasBytes i → Turns (WaitsOn plan.limit) (WaitsOn plan.limit) n x r i
turns plan n x r (input.Opened new from) some same b = (λ stream past w. w, λ taken. none_came plan.limit some)
turns plan n x r (input.Closed closed) some same b = λ stream past differs w. w
turns plan n x r (input.Bytes on piece) some same b = (
  λ stream past differs w. w,
  λ past w adds waits. piece_waits plan.limit past piece x.added w b (subst (λ (p : NodePlan). Adds p.limit past piece x.added) same adds) waits,
)
turns plan n x r _ some same b = λ stream past w. w

step_fed : (n after : NodeState) (now : ℕ) (i : Input) (x : Coming) (r : Reply) → IsBoundedNode n → IsDivided n → HasBytes i → NodeStep n now i x r after → IsDivided after
step_fed n after now i x r node f b s =
    is_fed n.plan after f.some (step_plan n after now i x r s)
    (step_holds (WaitsOn n.plan.limit) (WaitsOn n.plan.limit) n after now i x r node (turns n.plan (begin n now) x r i f.some (beginnings_end n now).0.plan b)
    (λ less. none_came n.plan.limit f.some) (feeds n f) s)

pub fed_nodes_kept : FedNodesAreKept
fed_nodes_kept = (first_fed, step_fed)
