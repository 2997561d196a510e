-- Each step dials the next streams alone.
use Rattle.std.proofs.Common.{◌≡◌, ◌≤◌, ℕ, ◌+◌, ◌-◌, ◌++◌, inl, length, drop, sym, ap, ◌∙◌, arith}
use Rattle.std.proofs.Math.Seq.{drop-append_seam}
use Rattle.grasp_types.specs.declared.reply.Reply.{Reply}
use Rattle.grasp_types.specs.declared.traffic.Input.{Input}
use Rattle.grasp_types.specs.declared.traffic.Input.TheVariants as input
use Rattle.grasp_model_node.specs.Node.{NodeState}
use Rattle.grasp_model_node.specs.Step.{Coming, NodeStep}
use Rattle.grasp_laws_node.specs.Dials.{IsNoDrain, gained, dialled_in, evens_from, DialsNext, DialsAreCounted}
use Rattle.grasp_laws_node.specs.Sends.{OpensOne}
use Rattle.grasp_laws_node.proofs.DialMoves.{Dials, knows_dials}
use Rattle.grasp_laws_node.proofs.Addressed.Nodes.{step_knows}

-- ---- where every number counts as that of a stream that was opened

abbrev Any : ℕ → Type 0
Any stream = Unit {0}

opens_any : (i : Input) → OpensOne Any i
opens_any (input.Drain max) = tt
opens_any _ = tt

pub step_dials : (n after : NodeState) (now : ℕ) (i : Input) (x : Coming) (r : Reply) → IsNoDrain i → NodeStep n now i x r after → Dials n after
step_dials n after now i x r none s =
    knows_dials Any n after
    (step_knows Any n after now i x r none (opens_any i) (record { going = λ place y at goes. inl tt; untaken = λ place y at own. inl tt }) (λ stream past e. inl tt) (λ k e h. inl tt) s)

-- ---- what was gained

no_fewer : (a b k : ℕ) → a ≡ b + k → b ≤ a
no_fewer a b k e = omega arith

difference : (a b k : ℕ) → a ≡ b + k → k ≡ a - b
difference a b k e = omega arith

pub gains : (n after : NodeState) → (k : Dials n after) → k.more ≡ gained n after
gains n after k = sym (ap (λ q. drop (length n.queue) q) k.queued ∙ drop-append_seam n.queue k.more)

next_streams : (n after : NodeState) → Dials n after → DialsNext n after
next_streams n after k = record {
  queued = k.queued ∙ ap (λ q. n.queue ++ q) (gains n after k);
  no_fewer = no_fewer after.streams.dialled n.streams.dialled k.count k.counted;
  dials = ap dialled_in (sym (gains n after k)) ∙ (k.dials ∙ ap (evens_from n.streams.dialled) (difference after.streams.dialled n.streams.dialled k.count k.counted));
}

pub dials_counted : DialsAreCounted
dials_counted n after now i x r none s = next_streams n after (step_dials n after now i x r none s)
