-- The opening calls, one after the other.
use Rattle.std.proofs.Common.{◌≡◌, refl, ap, ◌∙◌, subst}
use Rattle.grasp_agent.specs.Calls.{next_call, agent_name, objective_name}
use Rattle.grasp_agent.specs.Replies.{after_reply}
use Rattle.grasp_agent.specs.States.{AgentState, first_agent}
use Rattle.grasp_agent.specs.declared.stage.Stage.TheVariants.{Declaring, Opening}
use Rattle.grasp_core.specs.declared.node_core.NodeCore.{NodeCore}
use Rattle.grasp_pool.specs.Holdings.{Holding}
use Rattle.grasp_shared.specs.Adding.{Adds}
use Rattle.grasp_shared.specs.Calls.{GoesOn, answered}
use Rattle.grasp_shared.proofs.Adding.{adds_on}
use Rattle.grasp_types.specs.declared.call.Call.TheVariants as call
use Rattle.grasp_types.specs.declared.reply.ApiAnswer.TheVariants as answer
use Rattle.grasp_types.specs.declared.reply.Reply.{Reply}
use Rattle.grasp_types.specs.declared.reply.Reply.TheVariants as reply
use Rattle.grasp_types.specs.declared.traffic.Input.{Input}
use Rattle.grasp_types.specs.declared.traffic.Input.TheVariants as input
use Rattle.grasp_node_main.specs.Openings.{openings, opened_agent}

-- the call that an agent makes next
abbrev input_of : AgentState → Input
input_of s = input.Api s.asa (next_call s)

-- the agent behind its first and its second opening call
abbrev pub declaring : Holding → AgentState
declaring pool = record (first_agent pool) { asa = 1; stage = Declaring }

abbrev pub listening : Holding → AgentState
listening pool = record (first_agent pool) { asa = 1; stage = Opening }

registers : (pool : Holding) → input_of (first_agent pool) ≡ input.Api 0 (call.RegisterAsa agent_name)
unfolding next_call
registers pool = refl

declares : (pool : Holding) → input_of (declaring pool) ≡ input.Api 1 (call.RegisterObjective objective_name 3)
unfolding next_call
declares pool = refl

listens : (pool : Holding) → input_of (listening pool) ≡ input.Api 1 (call.ListenNegotiate objective_name)
unfolding next_call
listens pool = refl

registered : (pool : Holding) → after_reply (first_agent pool) (reply.Api (answer.Asa 1)) ≡ declaring pool
unfolding after_reply
registered pool = refl

declared : (pool : Holding) → after_reply (declaring pool) (reply.Api answer.Done) ≡ listening pool
unfolding after_reply
declared pool = refl

listened : (pool : Holding) → after_reply (listening pool) (reply.Api answer.NotYet) ≡ opened_agent pool
unfolding after_reply
listened pool = refl

-- a reply that is known
pub goes_as : (k l : NodeCore) (i : Input) (r s : Reply) → GoesOn k (answered 0 i r) l → r ≡ s → GoesOn k (answered 0 i s) l
goes_as k l i r s g e = subst (λ x. GoesOn k (answered 0 i x) l) e g

pub after_as : (a b : AgentState) (r s : Reply) → b ≡ after_reply a r → r ≡ s → b ≡ after_reply a s
after_as a b r s h e = h ∙ ap (after_reply a) e

module _ (pool : Holding) (a b c d : AgentState) (is : a ≡ first_agent pool) (first : b ≡ after_reply a (reply.Api (answer.Asa 1))) (second : c ≡ after_reply b (reply.Api answer.Done)) (third : d ≡ after_reply c (reply.Api answer.NotYet)) where
  b_is : b ≡ declaring pool
  b_is = first ∙ ap (λ x. after_reply x (reply.Api (answer.Asa 1))) is ∙ registered pool

  c_is : c ≡ listening pool
  c_is = second ∙ ap (λ x. after_reply x (reply.Api answer.Done)) b_is ∙ declared pool

  -- the agent behind its opening calls
  pub agent_opened : d ≡ opened_agent pool
  agent_opened = third ∙ ap (λ x. after_reply x (reply.Api answer.NotYet)) c_is ∙ listened pool

  module _ (k l m n : NodeCore) (x : GoesOn k (answered 0 (input_of a) (reply.Api (answer.Asa 1))) l) (y : GoesOn l (answered 0 (input_of b) (reply.Api answer.Done)) m) (z : GoesOn m (answered 0 (input_of c) (reply.Api answer.NotYet)) n) where
    call_goes : (i j : Input) (r : Reply) (p q : NodeCore) → i ≡ j → GoesOn p (answered 0 i r) q → GoesOn p (answered 0 j r) q
    call_goes i j r p q e g = subst (λ v. GoesOn p (answered 0 v r) q) e g

    -- and the core
    pub core_opened : Adds k openings n
    core_opened =
        let one = call_goes (input_of a) (input.Api 0 (call.RegisterAsa agent_name)) (reply.Api (answer.Asa 1)) k l (ap input_of is ∙ registers pool) x in
        let two = call_goes (input_of b) (input.Api 1 (call.RegisterObjective objective_name 3)) (reply.Api answer.Done) l m (ap input_of b_is ∙ declares pool) y in
        let three = call_goes (input_of c) (input.Api 1 (call.ListenNegotiate objective_name)) (reply.Api answer.NotYet) m n (ap input_of c_is ∙ listens pool) z in
        adds_on k l n _ _ (one.goes 1) (adds_on l m n _ _ (two.goes 1) (three.goes 1))
