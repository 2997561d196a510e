-- Where a core is after one more call, and after more.
use Rattle.std.proofs.Common.{subst, sym, refl, ℕ, ◌<◌, ◌^◌, [], ◌∷◌, ◌++◌, append_assoc}
use Rattle.std.proofs.lemmas.List.{append-nil}
use Rattle.grasp_types.specs.declared.reply.Reply.{Reply}
use Rattle.grasp_types.specs.declared.traffic.Input.{Input}
use Rattle.grasp_laws_node.proofs.Divided.Comes.{something_always_comes}
use Rattle.grasp_laws_node.proofs.Divided.Nodes.{fed_nodes_kept}
use Rattle.grasp_laws_node.proofs.Bounded.Nodes.{nodes_kept}
use Rattle.grasp_core.specs.Contract.{Meeting, Meets, Stepped}
use Rattle.grasp_model_node.specs.Divided.{HasBytes}
use Rattle.grasp_model_node.specs.Node.{NodeState}
use Rattle.grasp_core.specs.declared.node_core.NodeCore.{NodeCore}
use Rattle.grasp_model_node.specs.declared.plan.NodePlan.{NodePlan}
use Rattle.grasp_shared.specs.Adding.{Adds}
use Rattle.grasp_shared.specs.Calls.{GoesOn, answered}
use Rattle.grasp_shared.specs.History.{Entry, History, IsStep, IsLegalHistory, Reaches}
use Rattle.grasp_laws_node.proofs.PlansStay.{step_plan}

-- one more call
pub legal_more : (from n m : NodeState) (h : History) (e : Entry) → IsLegalHistory from h n → IsStep n e m → IsLegalHistory from (h ++ e ∷ []) m
legal_more from n m [] e l s = (m, subst (λ x. IsStep x e m) l s, refl)
legal_more from n m (x ∷ h) e l s = (l.0, l.1, legal_more l.0 n m h e l.2 s)

-- a step of the core is one more call of any caller
pub step_adds : (core after : NodeCore) (now : ℕ) (i : Input) (r : Reply) → ((x : Meeting) → Meets core now i x → Stepped after now i x r) → HasBytes i → (caller : ℕ) → Adds core (record { caller = caller; now = now; input = i; reply = r } ∷ []) after
step_adds core after now i r s b caller from h x =
    let c = something_always_comes x.to now i x.fed x.limit b in
    let m : Meeting = record { node = x.to; coming = c.coming } in
    let d = s m (record { stands = x.stands; comes = c.is_coming }) in
    record {
      to = d.after;
      legal = legal_more from x.to d.after h (record { caller = caller; now = now; input = i; reply = r }) x.legal (record { coming = c.coming; step = d.steps });
      stands = d.stands;
      node = nodes_kept.1 x.to d.after now i c.coming r x.node d.steps;
      fed = fed_nodes_kept.1 x.to d.after now i c.coming r x.node x.fed b d.steps;
      limit = subst (λ (p : NodePlan). p.limit < 2 ^ 64) (sym (step_plan x.to d.after now i c.coming r d.steps)) x.limit;
    }

pub step_goes : (core after : NodeCore) (now : ℕ) (i : Input) (r : Reply) → ((x : Meeting) → Meets core now i x → Stepped after now i x r) → HasBytes i → GoesOn core (answered now i r) after
step_goes core after now i r s b = record { goes = λ caller. step_adds core after now i r s b caller }

-- some calls, and then others
pub adds_on : (a b c : NodeCore) (h k : History) → Adds a h b → Adds b k c → Adds a (h ++ k) c
adds_on a b c h k p q from before x = subst (λ (l : History). Reaches from l c) (append_assoc before h k) (q from (before ++ h) (p from before x))

-- no calls
pub adds_nothing : (a : NodeCore) → Adds a [] a
adds_nothing a from before x = subst (λ (l : History). Reaches from l a) (sym (append-nil before)) x
