-- Each step leaves the queue of a node with nothing that doesn't fit, and so a drain gives nothing that doesn't.
use Rattle.std.proofs.Common.{◌≤◌, ℕ, List, [], ◌∷◌, map, take, All, refl, sym, ap, ◌∙◌, subst}
use Rattle.std.proofs.lemmas.List.Elements.{All-nil, All-cons, All-head, All-tail, All-append, All-take}
use Rattle.grasp_laws_node.proofs.Beginning.{beginnings_end}
use Rattle.grasp_laws_node.proofs.Walk.Moves.{anything}
use Rattle.grasp_laws_node.proofs.Walk.Steps.{turn_of, tells_anything, acts_moves}
use Rattle.grasp_laws_sending.proofs.Fitting.Moves.{IsFit, moves_fit}
use Rattle.grasp_laws_sending.specs.Fitting.{FitsIn, AllFit, QueuesFit, HasFewBytes, WhatIsGivenFits}
use Rattle.grasp_model_node.specs.Begin.{begin}
use Rattle.grasp_model_node.specs.Draining.{closes, drained}
use Rattle.grasp_model_node.specs.Node.{NodeState}
use Rattle.grasp_model_node.specs.Queue.{Queued, datagram, dial, send, output_of}
use Rattle.grasp_model_node.specs.Step.{Coming, IsComing, Acts, NodeStep}
use Rattle.grasp_model_node.specs.declared.plan.NodePlan.{NodePlan}
use Rattle.grasp_types.specs.declared.reply.Reply.{Reply}
use Rattle.grasp_types.specs.declared.traffic.Input.{Input}
use Rattle.grasp_types.specs.declared.traffic.Output.TheVariants.{Close}

-- ---- a step

begin_fit : (limit : ℕ) (n : NodeState) (now : ℕ) → IsFit limit n → IsFit limit (begin n now)
begin_fit limit n now k = let b = (beginnings_end n now).0 in record { limit_is = ap (λ (p : NodePlan). p.limit) b.plan ∙ k.limit_is; queue = subst (All (FitsIn limit)) (sym b.queue) k.queue }

acts_fit : (limit : ℕ) → 2048 ≤ limit → (n after : NodeState) (i : Input) (x : Coming) (r : Reply) → IsFit limit n → IsComing n i x → Acts n i x r after → IsFit limit after
acts_fit limit least n after i x r k c a = moves_fit limit least n (turn_of i) n after (acts_moves anything n after i x r c (tells_anything n i x r after) a) k

pub queues_fit : QueuesFit
queues_fit = (λ plan. All-nil (FitsIn plan.limit), step) where
  step : (n after : NodeState) (now : ℕ) (i : Input) (x : Coming) (r : Reply) → 2048 ≤ n.plan.limit → AllFit n → NodeStep n now i x r after → AllFit after
  step n after now i x r l all s =
      let k : IsFit n.plan.limit after = acts_fit n.plan.limit l (begin n now) after i x r (begin_fit n.plan.limit n now (record { limit_is = refl; queue = all })) s.is_coming s.acts in
      subst (λ limit. All (FitsIn limit) after.queue) (sym k.limit_is) k.queue

-- ---- what is given

out : (limit : ℕ) (q : Queued) → FitsIn limit q → HasFewBytes limit (output_of q)
out limit (datagram link to m) h = h
out limit (dial stream to) h = tt
out limit (send stream m) h = h

outs : (limit : ℕ) (qs : List Queued) → All (FitsIn limit) qs → All (HasFewBytes limit) (map output_of qs)
outs limit [] h = All-nil (HasFewBytes limit)
outs limit (q ∷ qs) h = All-cons (HasFewBytes limit) (output_of q) (map output_of qs) (out limit q (All-head (FitsIn limit) q qs h)) (outs limit qs (All-tail (FitsIn limit) q qs h))

closings : (limit : ℕ) (streams : List ℕ) → All (HasFewBytes limit) (map Close streams)
closings limit [] = All-nil (HasFewBytes limit)
closings limit (stream ∷ streams) = All-cons (HasFewBytes limit) (Close stream) (map Close streams) tt (closings limit streams)

given : (limit : ℕ) (n : NodeState) (max : ℕ) → IsFit limit n → All (HasFewBytes limit) (drained n max)
given limit n max k =
    All-append (HasFewBytes limit) (map output_of (take max n.queue)) (map Close (closes n max)) (outs limit (take max n.queue) (All-take (FitsIn limit) max n.queue k.queue)) (closings limit (closes n max))

pub what_is_given_fits : WhatIsGivenFits
what_is_given_fits n after now max x outputs all s =
    subst (All (HasFewBytes n.plan.limit)) (sym s.acts.0) (given n.plan.limit (begin n now) max (begin_fit n.plan.limit n now (record { limit_is = refl; queue = all })))
