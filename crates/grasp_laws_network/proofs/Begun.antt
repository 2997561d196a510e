-- What a life begins with: a node in which nothing has happened but that its agent has registered, and an agent that has this pool and serves.
use Rattle.std.proofs.Common.{◌≡◌, refl, ap, [], Contains, None}
use Rattle.grasp_agent.specs.Calls.{next_call, agent_name, objective_name}
use Rattle.grasp_agent.specs.Reopening.{retired, MayReopen}
use Rattle.grasp_agent.specs.Replies.{after_reply}
use Rattle.grasp_agent.specs.States.{AgentState}
use Rattle.grasp_agent.specs.declared.stage.Stage.TheVariants.{Serving}
use Rattle.grasp_model_node.specs.Begin.{begin, expired}
use Rattle.grasp_model_node.specs.Moves.{with_reading, with_registrations, with_sessions, with_discoveries, with_floods, begin_closing}
use Rattle.grasp_model_node.specs.Node.{NodeState, first_node}
use Rattle.grasp_model_node.specs.Streams.{no_streams}
use Rattle.grasp_model_node.specs.declared.plan.NodePlan.{NodePlan}
use Rattle.grasp_pool.proofs.Opening.{image_opens}
use Rattle.grasp_pool.specs.Answers.{IsReopened}
use Rattle.grasp_pool.specs.Functions.{pool_of_image}
use Rattle.grasp_pool.specs.Holdings.{Holding, IsListed}
use Rattle.grasp_pool.specs.declared.image.PoolImage.{PoolImage}
use Rattle.grasp_session.specs.Sessions.{no_sessions}
use Rattle.grasp_types.specs.Prefix.{AddressBlock as Prefix}
use Rattle.grasp_model_network.specs.Openings.{answered_seat, opened_seat}

-- an agent that has this pool, and has made its opening calls
abbrev pub serving_agent : Holding → AgentState
serving_agent h = record { pool = h; asa = 1; stage = Serving; want = None; back = None; giving = []; act = None; cursor = 0; last = None }

pub begun_agent : (plan : NodePlan) (h : Holding) → (opened_seat plan h).agent ≡ serving_agent h
unfolding answered_seat opened_seat next_call agent_name objective_name after_reply
begun_agent plan h = refl

-- its node has nothing but the registrations
pub begun_core : (plan : NodePlan) (h : Holding) → (opened_seat plan h).core ≡ record (first_node plan) { registrations = (opened_seat plan h).core.registrations }
unfolding answered_seat opened_seat next_call agent_name objective_name after_reply begin expired with_reading with_registrations with_sessions with_discoveries with_floods begin_closing
begun_core plan h = refl

module _ (plan : NodePlan) (h : Holding) where
  pub begun_plan : (opened_seat plan h).core.plan ≡ plan
  begun_plan = ap (λ (n : NodeState). n.plan) (begun_core plan h)

  pub begun_reading : (opened_seat plan h).core.reading ≡ 0
  begun_reading = ap (λ (n : NodeState). n.reading) (begun_core plan h)

  pub begun_sessions : (opened_seat plan h).core.sessions ≡ no_sessions
  begun_sessions = ap (λ (n : NodeState). n.sessions) (begun_core plan h)

  pub begun_discoveries : (opened_seat plan h).core.discoveries ≡ (first_node plan).discoveries
  begun_discoveries = ap (λ (n : NodeState). n.discoveries) (begun_core plan h)

  pub begun_floods : (opened_seat plan h).core.floods ≡ (first_node plan).floods
  begun_floods = ap (λ (n : NodeState). n.floods) (begun_core plan h)

  pub begun_streams : (opened_seat plan h).core.streams ≡ no_streams
  begun_streams = ap (λ (n : NodeState). n.streams) (begun_core plan h)

  pub begun_queue : (opened_seat plan h).core.queue ≡ []
  begun_queue = ap (λ (n : NodeState). n.queue) (begun_core plan h)

  pub begun_drawn : (opened_seat plan h).core.drawn ≡ 0
  begun_drawn = ap (λ (n : NodeState). n.drawn) (begun_core plan h)

  pub begun_pool : (opened_seat plan h).agent.pool ≡ h
  begun_pool = ap (λ (a : AgentState). a.pool) (begun_agent plan h)

  pub begun_act : (opened_seat plan h).agent.act ≡ None
  begun_act = ap (λ (a : AgentState). a.act) (begun_agent plan h)

  pub begun_want : (opened_seat plan h).agent.want ≡ None
  begun_want = ap (λ (a : AgentState). a.want) (begun_agent plan h)

  pub begun_back : (opened_seat plan h).agent.back ≡ None
  begun_back = ap (λ (a : AgentState). a.back) (begun_agent plan h)

  pub begun_giving : (opened_seat plan h).agent.giving ≡ []
  begun_giving = ap (λ (a : AgentState). a.giving) (begun_agent plan h)

-- ---- the pool of an image

-- it has what the image has
pub reopened : (a : AgentState) (image : PoolImage) → MayReopen a image → IsReopened image (pool_of_image image)
reopened a image m = image_opens image m.few m.disjoint

-- what the life before had reserved or in doubt at its end is in doubt
pub reopened_doubts : (a : AgentState) (image : PoolImage) (p : Prefix) → MayReopen a image → IsListed (retired a).pool p → Contains (pool_of_image image).doubtful p
reopened_doubts a image p m l = ((reopened a image m).doubtful p).1 (m.doubtful p l)
