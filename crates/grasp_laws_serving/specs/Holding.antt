-- What nodes that served in one network hold at their ends.
use Rattle.std.specs.Prelude.{◌≡◌, ◌≢◌, ℕ, Bool, true, List, ◌∷◌, Some}
use Rattle.grasp_crew.specs.Steward.{StewardState}
use Rattle.grasp_crew.specs.declared.servant.Servant.{Servant}
use Rattle.grasp_crew.specs.declared.servant.Servant.TheVariants.{Steward}
use Rattle.grasp_desk.specs.declared.desk.DeskPlan.{DeskPlan}
use Rattle.grasp_io.specs.declared.links.LinkPlan.{LinkPlan}
use Rattle.grasp_laws_members.specs.Courses.{Moment, acts_at}
use Rattle.grasp_laws_serving.specs.Acts.{AreActsOf, IsFitPlan, LinksGiveNoCall}
use Rattle.grasp_laws_serving.specs.Courses.{IsServedCourse}
use Rattle.grasp_laws_serving.specs.Laws.{AreServices}
use Rattle.grasp_laws_serving.specs.Lives.{life_happens, life_of, to_its_end}
use Rattle.grasp_model_network.specs.GoodSetting.{IsGoodSetting}
use Rattle.grasp_model_network.specs.Runs.{first_world}
use Rattle.grasp_model_network.specs.Setting.{Member, Setting, numbered}
use Rattle.grasp_pool.specs.Holdings.{IsFree}
use Rattle.grasp_service.specs.Rounds.{Outside, rounds_after}
use Rattle.grasp_service.specs.Served.{Serves, opened_state}
use Rattle.grasp_service.specs.declared.plan.ServicePlan.{ServicePlan}

-- the node of this member has served till a visitor stopped it, and all that happened at it happened in this course; its agent of prefixes, whose lists
-- it shows to the last, is this
pub record ServedTo (s : Setting) (ms : List Moment) (node : ℕ) (steward : StewardState) : Type 0 where
  pub member : Member
  pub found : numbered s.members node ≡ Some member
  pub plan : ServicePlan
  pub plan_is : plan.node ≡ member.plan
  pub roots_are : plan.roots ≡ member.roots
  pub fit : IsFitPlan plan
  pub joining : LinkPlan
  pub doors : DeskPlan
  pub before : Outside
  pub after : Outside
  pub serves : Serves plan joining doors before after
  pub links : LinksGiveNoCall (life_of plan joining doors before after (to_its_end serves))
  pub happened : AreActsOf (life_happens plan (life_of plan joining doors before after (to_its_end serves))) (acts_at node ms)
  pub others : List Servant
  pub crew : (rounds_after (opened_state plan serves.replies) serves.rounds).house.crew ≡ Steward steward ∷ others

-- no address is held by two nodes that have served to their ends in one network
abbrev pub ServingNodesHoldApart : Type 0
ServingNodesHoldApart = (serves : ℕ → Bool) (s : Setting) (ms : List Moment) → IsGoodSetting s → AreServices serves s ms → IsServedCourse serves s (first_world s) ms
    → (j k : ℕ) (a b : StewardState) → serves j ≡ true → serves k ≡ true → j ≢ k → ServedTo s ms j a → ServedTo s ms k b
    → (address : ℕ) → IsFree a.agent.pool address → ¬ IsFree b.agent.pool address
