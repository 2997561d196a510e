-- What the agent of prefixes offers stands at the end of its life, and where a prefix in doubt is settled.
use Rattle.std.proofs.Common.{refl, ℕ, []}
use Rattle.grasp_agent.proofs.Keeping.{act_stands}
use Rattle.grasp_agent.specs.Kept.{IsKept}
use Rattle.grasp_agent.specs.Reopening.{retired}
use Rattle.grasp_agent.specs.States.{AgentState}
use Rattle.grasp_laws_agent.proofs.Retiring.{retires_so}
use Rattle.grasp_model_node.specs.Node.{NodeState}
use Rattle.grasp_pool.specs.Holdings.{Holding}
use Rattle.grasp_session.specs.Made.{IsBuilt}
use Rattle.grasp_session.specs.Says.{IsAt}
use Rattle.grasp_session.specs.Sessions.{SessionState}
use Rattle.grasp_types.specs.declared.refusal.ApiRefused.TheVariants.{NoSession}
use Rattle.grasp_laws_agents.proofs.Back.{unsent}
use Rattle.grasp_laws_agents.proofs.Dropping.{dropped}
use Rattle.grasp_laws_agents.proofs.Standing.{gives_again}
use Rattle.grasp_laws_agents.specs.Giving.{Gives}

-- it doesn't speak of the pool
pub gives_with : (n : NodeState) (a : AgentState) (h : Holding) → Gives n a → Gives n (record a { pool = h })
gives_with n a h k = gives_again n n a (record a { pool = h }) refl refl refl refl refl k

-- at the end of its life the agent has dropped its act and its return as where they are refused, and holds nothing
pub gives_retired : (n : NodeState) (a : AgentState) → ((q : ℕ) (x : SessionState) → IsAt n.sessions q x → IsBuilt x.view) → IsKept a → Gives n a → Gives n (retired a)
gives_retired n a built kept k =
    retires_so (Gives n) (λ b t c kept is e g. (dropped n b t c built g is (act_stands b c is kept) e).gives)
    (λ b t r kept none is unsent_yet e g. (unsent n b t NoSession g none r is unsent_yet (e NoSession)).gives)
    (λ b none g. gives_with n b (record b.pool { free = [] }) g) a kept k
