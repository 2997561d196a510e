-- What a call gives is what the input of that call does.
use Rattle.std.proofs.Common.{◌≡◌, ℕ, Ok, Err, refl}
use Rattle.grasp_types.specs.declared.call.Call.{Call}
use Rattle.grasp_types.specs.declared.call.Call.TheVariants as calls
use Rattle.grasp_types.specs.declared.refusal.ApiRefused.{ApiRefused}
use Rattle.grasp_types.specs.declared.reply.Reply.{Reply}
use Rattle.grasp_types.specs.declared.reply.Reply.TheVariants.{Api, Refused}
use Rattle.grasp_types.specs.declared.traffic.Input.{Input}
use Rattle.grasp_types.specs.declared.traffic.Input.TheVariants as input
use Rattle.grasp_model_node.specs.Begin.{begin}
use Rattle.grasp_core.specs.Contract.{Meeting, GivesCall, Acted, Stepped, at_beginning}
use Rattle.grasp_model_node.specs.Node.{NodeState}
use Rattle.grasp_model_node.specs.Step.{IsComing, after_call}
use Rattle.grasp_core.specs.declared.node_core.NodeCore.{NodeCore}

-- a refused call changes nothing
refused_stays : (n : NodeState) (asa : ℕ) (call : Call) (r : ApiRefused) → after_call n asa call (Err r) ≡ n
refused_stays n asa (calls.RegisterAsa name) r = refl
refused_stays n asa _ r = refl

pub call_acts : (core : NodeCore) (x : Meeting) (asa : ℕ) (call : Call) (r : Reply) → GivesCall core x.node asa call r → Acted core (input.Api asa call) x r
call_acts core x asa call (Api answer) g = record { after = after_call x.node asa call (Ok answer); acts = (g.0, refl); stands = g.1 }
call_acts core x asa call (Refused refused) g = record { after = after_call x.node asa call (Err refused); acts = (g.0, refused_stays x.node asa call refused); stands = g.1 }
call_acts core x asa call _ g = absurd g

-- what an input does after the beginning is a step
pub acted_steps : (core : NodeCore) (now : ℕ) (i : Input) (x : Meeting) (r : Reply) → IsComing (begin x.node now) i x.coming → Acted core i (at_beginning now x) r → Stepped core now i x r
acted_steps core now i x r comes a = record { after = a.after; steps = record { is_coming = comes; acts = a.acts }; stands = a.stands }
