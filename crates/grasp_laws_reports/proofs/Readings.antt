-- No event lowers a node's reading.
use Rattle.std.proofs.Common.{◌≡◌, refl, sym, ◌∙◌, subst, arith, ℕ, ◌≤◌, Some, max}
use Rattle.std.proofs.lemmas.Option.{same_Some}
use Rattle.grasp_cbor.proofs.Facts.Numbers.{up}
use Rattle.grasp_laws_node.proofs.Beginning.{beginnings_end}
use Rattle.grasp_model_node.specs.Node.{NodeState}
use Rattle.grasp_model_node.specs.Step.{Coming, NodeStep}
use Rattle.grasp_types.specs.declared.reply.Reply.{Reply}
use Rattle.grasp_types.specs.declared.traffic.Input.{Input}
use Rattle.grasp_laws_network.proofs.EachNode.{event_each}
use Rattle.grasp_laws_network.specs.Nodes.{OfEachNode}
use Rattle.grasp_model_network.specs.World.{Seat, seat_at}
use Rattle.grasp_laws_reports.proofs.Onward.{begun_goes}
use Rattle.grasp_laws_reports.specs.Laws.{ReadingsNeverFall}

larger : (a b : ℕ) → a ≤ max a b
larger a b = omega arith

step_rises : (n after : NodeState) (now : ℕ) (i : Input) (x : Coming) (r : Reply) → NodeStep n now i x r after → n.reading ≤ after.reading
step_rises n after now i x r s =
    subst (λ k. n.reading ≤ k) (sym ((begun_goes n after now i x r s).reading ∙ (beginnings_end n now).0.reading)) (larger n.reading now)

-- the node of this number has at least this reading
abbrev IsRead : ℕ → ℕ → ℕ → NodeState → Type 0
IsRead node reading k n = k ≡ node → reading ≤ n.reading

pub readings_never_fall : ReadingsNeverFall
readings_never_fall s w e c occurs node before after here found =
    event_each (IsRead node before.core.reading) s w e c (λ k n m now i x r p step is. up before.core.reading n.reading m.reading (p is) (step_rises n m now i x r step))
    occurs read node after found refl
  where
    itself : (a : ℕ) → a ≤ a
    itself a = omega arith

    read : OfEachNode (IsRead node before.core.reading) w
    read k seat is same =
        subst (λ (x : Seat). before.core.reading ≤ x.core.reading) (same_Some before seat (sym here ∙ subst (λ j. seat_at w j ≡ Some seat) same is)) (itself before.core.reading)
