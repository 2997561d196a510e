-- What refuses an agent's call at a node, and that nothing else does.
use Rattle.std.proofs.Common.{◌≡◌, ◌⊎◌, inl, inr, ℕ, refl, sym, subst}
use Rattle.grasp_laws_node.proofs.Bounded.Nodes.{begin_kept}
use Rattle.grasp_laws_refusals.proofs.Calls.{Tells, each_tells}
use Rattle.grasp_laws_refusals.proofs.Least.{IsFirst}
use Rattle.grasp_laws_refusals.specs.Causes.{HasCause, TakesMemory}
use Rattle.grasp_laws_refusals.specs.Refusals.{HasNoCause, IsAnsweredSo, RefusalsHaveCauses}
use Rattle.grasp_model_node.specs.Begin.{begin}
use Rattle.grasp_model_node.specs.Node.{NodeState}
use Rattle.grasp_model_node.specs.Step.{MayCall, Calls}
use Rattle.grasp_types.specs.declared.call.Call.{Call}
use Rattle.grasp_types.specs.declared.call.Call.TheVariants as call
use Rattle.grasp_types.specs.declared.refusal.ApiRefused.{ApiRefused}
use Rattle.grasp_types.specs.declared.refusal.ApiRefused.TheVariants.{OutOfMemory}
use Rattle.grasp_types.specs.declared.reply.Reply.{Reply}
use Rattle.grasp_types.specs.declared.reply.Reply.TheVariants as reply

-- nothing is the cause that there was no memory
no_memory : (n : NodeState) (asa : ℕ) (it : Call) → ¬ HasCause n asa it OutOfMemory
no_memory n asa call.DeregisterAsa p = p
no_memory n asa _ p = p

refused : (n : NodeState) (asa : ℕ) (it : Call) (r : ApiRefused) → IsFirst (HasCause n asa it) r → IsAnsweredSo n asa it (reply.Refused r) n
refused n asa it OutOfMemory f = absurd (no_memory n asa it f.cause)
refused n asa it _ f = (record { cause = f.cause; least = f.least }, refl)

-- what a refused call was refused for
by_tests : (n : NodeState) (asa : ℕ) (it : Call) (r : ApiRefused) → IsFirst (HasCause n asa it) r ⊎ (HasNoCause n asa it × (r ≡ OutOfMemory) × TakesMemory n asa it)
    → IsAnsweredSo n asa it (reply.Refused r) n
by_tests n asa it r (inl f) = refused n asa it r f
by_tests n asa it r (inr p) = subst (λ (q : ApiRefused). IsAnsweredSo n asa it (reply.Refused q) n) (sym p.1) (p.0, p.2, refl)

answered_so : (n after : NodeState) (asa : ℕ) (it : Call) (r : Reply) → Tells (HasCause n asa it) (TakesMemory n asa it) (MayCall n asa it) → Calls n asa it r after → IsAnsweredSo n asa it r after
answered_so n after asa it (reply.Api a) t c = t.answered a c.0
answered_so n after asa it (reply.Refused r) t c = subst (IsAnsweredSo n asa it (reply.Refused r)) (sym c.1) (by_tests n asa it r (t.refused r c.0))
answered_so n after asa it _ t c = absurd c

pub refusals_have_causes : RefusalsHaveCauses
refusals_have_causes n after now asa it x r k s = answered_so (begin n now) after asa it r (each_tells (begin n now) asa it (begin_kept n now k)) s.acts
