-- Parts of a node that moves leave as they are.
use Rattle.std.proofs.Common.{◌≡◌, ℕ, ◌+◌, ◌≤◌, refl, sym, subst, arith}
use Rattle.grasp_model_node.proofs.Facts.{same_dialled}
use Rattle.grasp_model_node.specs.Draining.{closes, after_drain}
use Rattle.grasp_model_node.specs.Node.{NodeState}
use Rattle.grasp_laws_node.proofs.Walk.Moves.{Known, Turn, Move, unfolded, reads, responds, replies, asks, drains_out}

-- no move changes the plan
pub plan_stays : (k : Known) (base : NodeState) (turn : Turn) (n after : NodeState) → Move k base n turn after → after.plan ≡ n.plan
unfolding unfolded
plan_stays k base turn n after (reads now) = refl
plan_stays k base turn n after _ = refl

-- ---- the streams that were dialled

no_fewer : (d : ℕ) → d ≤ d
no_fewer d = omega arith

one_more : (d : ℕ) → d ≤ d + 1
one_more d = omega arith

drain_dials_none : (n : NodeState) (max : ℕ) → n.streams.dialled ≤ (after_drain n max).streams.dialled
unfolding after_drain
drain_dials_none n max = subst (λ d. n.streams.dialled ≤ d) (sym (same_dialled n.streams (closes n max))) (no_fewer n.streams.dialled)

-- no move takes one away
rises : (k : Known) (base : NodeState) (turn : Turn) (n after : NodeState) → Move k base n turn after → n.streams.dialled ≤ after.streams.dialled
unfolding unfolded
rises k base turn n after (responds to m i so e) = one_more n.streams.dialled
rises k base turn n after (replies to m i e) = one_more n.streams.dialled
rises k base turn n after (asks kind timeout o peer is so e free room fit) = one_more n.streams.dialled
rises k base turn n after (drains_out max) = drain_dials_none n max
rises k base turn n after _ = no_fewer n.streams.dialled

rises_on : (a b c : ℕ) → a ≤ b → b ≤ c → a ≤ c
rises_on a b c h l = omega (arith, h, l)

pub dialled_rises : (k : Known) (base : NodeState) (turn : Turn) (d : ℕ) (n after : NodeState) → Move k base n turn after → d ≤ n.streams.dialled → d ≤ after.streams.dialled
dialled_rises k base turn d n after x h = rises_on d n.streams.dialled after.streams.dialled h (rises k base turn n after x)
