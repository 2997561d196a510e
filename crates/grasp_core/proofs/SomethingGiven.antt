-- Where a drain gives something.
use Rattle.std.proofs.Common.{◌≡◌, ℕ, suc, ◌-◌, ◌<◌, ◌≤◌, List, [], ◌∷◌, ◌++◌, length, map, take, drop, refl, ap, ◌∙◌, arith, length-append, length-take, length-drop}
use Rattle.std.proofs.lemmas.List.{length-map}
use Rattle.grasp_types.specs.declared.traffic.Output.{Output}
use Rattle.grasp_types.specs.declared.traffic.Output.TheVariants.{Close}
use Rattle.grasp_model_node.specs.Draining.{closes_behind, closes, drained}
use Rattle.grasp_model_node.specs.Node.{NodeState}
use Rattle.grasp_model_node.specs.Queue.{Queued, output_of}
use Rattle.grasp_core.specs.Stands.{QueueStands}
use Rattle.grasp_model_node.specs.Streams.{closing_numbers}
use Rattle.grasp_core.proofs.Queueing.{queued_first}

closes_behind_some : (n : NodeState) (max : ℕ) (qs : List Queued) → qs ≡ drop max n.queue → length n.queue < max → 1 ≤ length (closing_numbers n.streams) → 1 ≤ length (closes_behind n max qs)
closes_behind_some n max [] e more some = let t = length-take (max - length n.queue) (closing_numbers n.streams) in omega (arith, t, more, some)
closes_behind_some n max (q ∷ qs) e more some =
    let left : suc (length qs) ≡ length n.queue - max = ap (λ (l : List Queued). length l) e ∙ length-drop max n.queue in
    absurd (omega (arith, more, left))

-- with room behind the queued outputs, and a stream that is closing, a drain closes one
pub closes_some : (n : NodeState) (max : ℕ) → length n.queue < max → 1 ≤ length (closing_numbers n.streams) → 1 ≤ length (closes n max)
closes_some n max more some = closes_behind_some n max (drop max n.queue) refl more some

-- where a stream is closed, something is given
pub closing_given : (n : NodeState) (max : ℕ) → 1 ≤ length (closes n max) → 1 ≤ length (drained n max)
closing_given n max some =
    let a = length-append (map output_of (take max n.queue)) (map Close (closes n max)) in
    let c = length-map (closes n max) Close in
    omega (arith, a, c, some)

-- what the code gives is what the definition says
pub drained_is : (outputs : List Output) (numbers : List ℕ) (n : NodeState) (max : ℕ) → QueueStands outputs n.queue → numbers ≡ closes n max → take max outputs ++ map Close numbers ≡ drained n max
drained_is outputs numbers n max h e =
    ap (λ (first : List Output). first ++ map Close numbers) (queued_first outputs n.queue max h)
    ∙ ap (λ (l : List ℕ). map output_of (take max n.queue) ++ map Close l) e
