-- A life of a node that served, whatever pool it began with: what happened in it, and what its store was asked.
use Rattle.std.specs.List.{AllByRecursion}
use Rattle.std.specs.Prelude.{◌≡◌, ◌++◌, List, []}
use Rattle.grasp_agent.specs.States.{first_agent}
use Rattle.grasp_desk.specs.declared.desk.DeskPlan.{DeskPlan}
use Rattle.grasp_disk.specs.Calls.{DiskLog, bytes_of}
use Rattle.grasp_io.specs.declared.links.LinkPlan.{LinkPlan}
use Rattle.grasp_laws_lives.specs.Courses.{LaterLife, Lives}
use Rattle.grasp_laws_lives.specs.Stores.{AreKeptFrom, asked_in}
use Rattle.grasp_laws_members.specs.Acts.{Act, AreActs}
use Rattle.grasp_laws_serving.specs.Acts.{AreActsOf, HadMemory, IsHeraldInRange, LinksGiveNoCall}
use Rattle.grasp_laws_serving.specs.Lives.{Happening, HasServed, life_happens, life_of}
use Rattle.grasp_model_network.specs.Openings.{opened_seat}
use Rattle.grasp_model_network.specs.Setting.{Member}
use Rattle.grasp_model_node.specs.declared.plan.NodePlan.{NodePlan}
use Rattle.grasp_pool.specs.Functions.{pool_of, pool_of_image}
use Rattle.grasp_pool.specs.Holdings.{Holding}
use Rattle.grasp_service.specs.Plans.{agent_or}
use Rattle.grasp_service.specs.Rounds.{Outside}
use Rattle.grasp_service.specs.Served.{kept_life}
use Rattle.grasp_service.specs.declared.plan.ServicePlan.{ServicePlan}
use Rattle.grasp_store.specs.Current.{image_on}
use Rattle.grasp_store.specs.Images.{image_of}

-- ---- a life

-- a node of this plan begins with this pool, and its beacons announce what is in range. Its agent of prefixes is the one that was handed over, as that of
-- an open store, or one with the plan's roots
pub record BeginsWith (p : ServicePlan) (pool : Holding) : Type 0 where
  pub agent : agent_or p.roots p.agent ≡ first_agent pool
  pub heralds : AllByRecursion IsHeraldInRange p.heralds

-- acts that are what happened, and that could happen where they did, in a life of a node that began with this pool
pub record HasActsFrom (plan : NodePlan) (pool : Holding) (happened : List Happening) : Type 0 where
  pub acts : List Act
  pub are : AreActsOf happened acts
  pub may : AreActs (opened_seat plan pool).core (opened_seat plan pool).agent acts

-- whatever happened first at a node that served, as long as there was memory for each call, is acts in a life that begins with the node's pool
abbrev pub ServedLivesHaveActs : Type 0
ServedLivesHaveActs = (p : ServicePlan) (pool : Holding) (joining : LinkPlan) (doors : DeskPlan) (before after : Outside) (served : HasServed p joining doors before after)
    → BeginsWith p pool → LinksGiveNoCall (life_of p joining doors before after served)
    → (front rest : List Happening) → life_happens p (life_of p joining doors before after served) ≡ front ++ rest → HadMemory front → HasActsFrom p.node pool front

-- ---- its store

-- where the store has the image of the pool with which a node began, it was asked exactly what is asked around what happened in the node's life
abbrev pub StoresAreAsked : Type 0
StoresAreAsked = (p : ServicePlan) (pool : Holding) (joining : LinkPlan) (doors : DeskPlan) (before after : Outside) (served : HasServed p joining doors before after)
    → BeginsWith p pool → LinksGiveNoCall (life_of p joining doors before after served)
    → (acts : List Act) → AreActsOf (life_happens p (life_of p joining doors before after served)) acts
    → (log : DiskLog) → image_on [] (bytes_of log) ≡ image_of pool
    → kept_life p (life_of p joining doors before after served).replies (life_of p joining doors before after served).rounds log
    ≡ asked_in (opened_seat p.node pool).agent acts log

-- ---- the lives of a member

-- A node of this plan served, which began with this pool, and this happened at it first, so far as it had memory for each call; and each act could happen
-- where it did, from the beginning of the life on.
pub record IsServedLife (node : NodePlan) (pool : Holding) (acts : List Act) : Type 0 where
  pub plan : ServicePlan
  pub node_is : plan.node ≡ node
  pub begins : BeginsWith plan pool
  pub joining : LinkPlan
  pub doors : DeskPlan
  pub before : Outside
  pub after : Outside
  pub served : HasServed plan joining doors before after
  pub links : LinksGiveNoCall (life_of plan joining doors before after served)
  pub front : List Happening
  pub rest : List Happening
  pub whole : life_happens plan (life_of plan joining doors before after served) ≡ front ++ rest
  pub fed : HadMemory front
  pub are : AreActsOf front acts
  pub may : AreActs (opened_seat node pool).core (opened_seat node pool).agent acts

-- a life behind the first began with the pool of its image
abbrev pub IsServedLater : NodePlan → LaterLife → Type 0
IsServedLater node l = IsServedLife node (pool_of_image l.image) l.acts

-- a member's node served in each life: in the first it began with the member's roots, in each later one with what a crash may have left of its store in the
-- one before
pub record HaveServed (m : Member) (l : Lives) : Type 0 where
  pub first : IsServedLife m.plan (pool_of m.roots) l.acts
  pub later : AllByRecursion (IsServedLater m.plan) l.later
  pub kept : AreKeptFrom m l.acts l.later
