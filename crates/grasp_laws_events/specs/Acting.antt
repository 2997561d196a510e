-- The calls that an agent of PrefixManager makes, each written out, and that nobody answers an offer that gives a prefix back by another offer
-- (RFC 8992, sections 4.1 and 4.2). The texts and the values are this project's own.
use Rattle.std.specs.Prelude.{◌≡◌, ◌≤◌, ℕ, false, List, [], ◌∷◌, Some, codes}
use Rattle.std.specs.Int.{to_be_bytes, w128}
use Rattle.grasp_agent.specs.Calls.{next_call}
use Rattle.grasp_agent.specs.States.{AgentState}
use Rattle.grasp_agent.specs.declared.act.Act.TheVariants as act
use Rattle.grasp_agent.specs.declared.decision.Reason.{Reason}
use Rattle.grasp_agent.specs.declared.decision.Reason.TheVariants.{BadValue, NoLoops, NoPrefix, TooSmall, NotTaken}
use Rattle.grasp_agent.specs.declared.duty.Duty.TheVariants as duty
use Rattle.grasp_agent.specs.declared.stage.Stage.TheVariants.{Registering, Declaring, Opening, Serving}
use Rattle.grasp_cbor.specs.DataItem.{unsigned, byte_string, array_of}
use Rattle.grasp_laws_agent.specs.Moves.{IsNext}
use Rattle.grasp_model_node.specs.Begin.{begin}
use Rattle.grasp_model_node.specs.BoundedNodes.{IsBoundedNode}
use Rattle.grasp_model_node.specs.Node.{NodeState}
use Rattle.grasp_model_node.specs.Step.{Coming, NodeStep}
use Rattle.grasp_session.specs.Messages.{Near}
use Rattle.grasp_session.specs.Runs.{Reached, WasMade}
use Rattle.grasp_session.specs.Sessions.{SessionState, Sessions, session_at}
use Rattle.grasp_session.specs.Transcript.{is_mine, request_of}
use Rattle.grasp_types.specs.Prefix.{AddressBlock as Prefix}
use Rattle.grasp_types.specs.declared.call.Call.TheVariants as call
use Rattle.grasp_types.specs.declared.message.Verdict.TheVariants as verdict
use Rattle.grasp_types.specs.declared.objective.Objective.{Objective}
use Rattle.grasp_types.specs.declared.reply.ApiAnswer.TheVariants as answer
use Rattle.grasp_types.specs.declared.reply.Reply.TheVariants as reply
use Rattle.grasp_types.specs.declared.session.Handle.{Handle}
use Rattle.grasp_types.specs.declared.session.Progress.TheVariants as progress
use Rattle.grasp_types.specs.declared.traffic.Input.TheVariants as input

-- ---- acts

-- an agent that serves and is to decline a session for this reason ends it, and tells the peer this text
abbrev pub DeclinesAs : Reason → List ℕ → Type 0
DeclinesAs reason text = (s : AgentState) (h : Handle) → s.stage ≡ Serving → s.act ≡ Some (act.Decline h reason)
    → next_call s ≡ call.EndNegotiate h (verdict.Decline (Some text))

-- an agent that serves does its act first: it offers a prefix, asks again for a length, accepts, or declines
pub record ActsAreCalled : Type 0 where
  pub offers : (s : AgentState) (place : ℕ) (h : Handle) (p : Prefix) → s.stage ≡ Serving → s.act ≡ Some (act.Offer place h p)
      → next_call s ≡ call.NegotiateStep h (array_of (unsigned p.length ∷ byte_string (to_be_bytes w128 p.address) ∷ []))
  pub counters : (s : AgentState) (h : Handle) (n : ℕ) → s.stage ≡ Serving → s.act ≡ Some (act.Counter h n)
      → next_call s ≡ call.NegotiateStep h (array_of (unsigned n ∷ []))
  pub accepts : (s : AgentState) (h : Handle) (p : Prefix) → s.stage ≡ Serving → s.act ≡ Some (act.Accept h p)
      → next_call s ≡ call.EndNegotiate h verdict.Accept
  pub bad_value : DeclinesAs BadValue (codes "bad-value")
  pub no_loops : DeclinesAs NoLoops (codes "no-loops")
  pub no_prefix : DeclinesAs NoPrefix (codes "no-prefix")
  pub too_small : DeclinesAs TooSmall (codes "too-small")
  pub not_taken : DeclinesAs NotTaken (codes "not-taken")

-- ---- duties

-- the opening calls, and then the call of each duty: to listen, or to ask how a session stands
pub record DutiesAreCalled : Type 0 where
  pub registers : (s : AgentState) → s.stage ≡ Registering → next_call s ≡ call.RegisterAsa (codes "prefix agent")
  pub declares : (s : AgentState) → s.stage ≡ Declaring → next_call s ≡ call.RegisterObjective (codes "PrefixManager") 3
  pub begins : (s : AgentState) → s.stage ≡ Opening → next_call s ≡ call.ListenNegotiate (codes "PrefixManager")
  pub listens : (s : AgentState) → IsNext s duty.Listen → next_call s ≡ call.ListenNegotiate (codes "PrefixManager")
  pub wants : (s : AgentState) (h : Handle) → IsNext s (duty.Want h) → next_call s ≡ call.Poll h
  pub returns : (s : AgentState) (h : Handle) → IsNext s (duty.Return h) → next_call s ≡ call.Poll h
  pub gives : (s : AgentState) (place : ℕ) (h : Handle) → IsNext s (duty.Give place h) → next_call s ≡ call.Poll h

-- ---- one loop

-- one that asks for a negotiation with one loop, or with none, as a return is asked for, never has the turn in it: no offer can follow its own
pub record OneLoopHasNoTurn : Type 0 where
  pub views : (z : Sessions) (x : SessionState) → Reached z → WasMade z x → x.view.role ≡ Near → (request_of x.view).loops ≤ 1
      → is_mine x.view ≡ false
  -- so no poll of such a session tells of a turn
  pub polls : (n after : NodeState) (now asa : ℕ) (h : Handle) (c : Coming) (o : Objective) (x : SessionState) → IsBoundedNode n
      → NodeStep n now (input.Api asa (call.Poll h)) c (reply.Api (answer.Polled (progress.Turn o))) after
      → session_at (begin n now).sessions h ≡ Some x → x.view.role ≡ Near
      → 2 ≤ (request_of x.view).loops
