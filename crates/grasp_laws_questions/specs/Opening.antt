-- The opening calls of an agent that asks of doubts and answers such questions. Names and numbers are this project's own.
use Rattle.std.specs.Prelude.{◌≡◌, ℕ, [], Ok}
use Rattle.grasp_doubter.specs.Questions.{doubt_name, doubter_name}
use Rattle.grasp_laws_owned.specs.Serving.{Serves}
use Rattle.grasp_model_network.specs.Openings.{opened_seat}
use Rattle.grasp_model_node.specs.Begin.{begin}
use Rattle.grasp_model_node.specs.Node.{NodeState}
use Rattle.grasp_model_node.specs.Step.{Coming, NodeStep, after_call}
use Rattle.grasp_model_node.specs.Streams.{no_streams}
use Rattle.grasp_model_node.specs.declared.plan.NodePlan.{NodePlan}
use Rattle.grasp_pool.specs.Holdings.{Holding}
use Rattle.grasp_session.specs.Sessions.{no_sessions}
use Rattle.grasp_types.specs.declared.call.Call.{Call}
use Rattle.grasp_types.specs.declared.call.Call.TheVariants as call
use Rattle.grasp_types.specs.declared.reply.ApiAnswer.{ApiAnswer}
use Rattle.grasp_types.specs.declared.reply.ApiAnswer.TheVariants as answer
use Rattle.grasp_types.specs.declared.reply.Reply.TheVariants as reply
use Rattle.grasp_types.specs.declared.traffic.Input.TheVariants as input

-- the node once an agent has made this call, at the node's own reading, and was answered so
abbrev pub called : NodeState → ℕ → Call → ApiAnswer → NodeState
called n asa c a = after_call (begin n n.reading) asa c (Ok a)

-- the call comes out so, as a step
abbrev pub IsAnsweredSo : Coming → NodeState → ℕ → Call → ApiAnswer → Type 0
IsAnsweredSo x n asa c a = NodeStep n n.reading (input.Api asa c) x (reply.Api a) (called n asa c a)

-- agent 2 is registered at the node; then it has its objective; and then it listens
abbrev pub registered : NodeState → NodeState
registered n = called n 0 (call.RegisterAsa doubter_name) (answer.Asa 2)

abbrev pub declared : NodeState → NodeState
declared n = called (registered n) 2 (call.RegisterObjective doubt_name 2) answer.Done

abbrev pub listening : NodeState → NodeState
listening n = called (declared n) 2 (call.ListenNegotiate doubt_name) answer.NotYet

-- a node at the beginning of a life, whose agent of prefixes has made its opening calls
abbrev pub opened : NodePlan → Holding → NodeState
opened plan h = (opened_seat plan h).core

-- each of the three calls comes of a step. Then agent 2 serves its objective alone, and nothing else has happened
pub record QuestionsOpen (plan : NodePlan) (h : Holding) (x : Coming) : Type 0 where
  pub registers : IsAnsweredSo x (opened plan h) 0 (call.RegisterAsa doubter_name) (answer.Asa 2)
  pub declares : IsAnsweredSo x (registered (opened plan h)) 2 (call.RegisterObjective doubt_name 2) answer.Done
  pub listens : IsAnsweredSo x (declared (opened plan h)) 2 (call.ListenNegotiate doubt_name) answer.NotYet
  pub serves : Serves 2 doubt_name 2 (listening (opened plan h))
  pub sessions : (listening (opened plan h)).sessions ≡ no_sessions
  pub streams : (listening (opened plan h)).streams ≡ no_streams
  pub queue : (listening (opened plan h)).queue ≡ []
  pub reading : (listening (opened plan h)).reading ≡ 0
  pub plan_is : (listening (opened plan h)).plan ≡ plan

abbrev pub QuestionsBegin : Type 0
QuestionsBegin = (plan : NodePlan) (h : Holding) (x : Coming) → QuestionsOpen plan h x
