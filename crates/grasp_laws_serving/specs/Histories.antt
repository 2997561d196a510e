-- What happened at a node that served is its history, and acts of a member of a network.
use Rattle.std.specs.Prelude.{◌≡◌, ◌++◌, List}
use Rattle.grasp_desk.specs.declared.desk.DeskPlan.{DeskPlan}
use Rattle.grasp_io.specs.declared.links.LinkPlan.{LinkPlan}
use Rattle.grasp_laws_members.specs.Acts.{Act, AreActs}
use Rattle.grasp_laws_serving.specs.Acts.{AreActsOf, BeginsWithRoots, HadMemory, IsFitPlan, LinksGiveNoCall}
use Rattle.grasp_laws_serving.specs.Lives.{Happening, HasServed, calls_in, cut_short, life_happens, life_of, to_its_end}
use Rattle.grasp_model_network.specs.Openings.{first_seat}
use Rattle.grasp_model_network.specs.Setting.{Member}
use Rattle.grasp_node_main.specs.Openings.{openings}
use Rattle.grasp_service.specs.Rounds.{Outside}
use Rattle.grasp_service.specs.Served.{FallsShortServing, Serves, served_history, short_history}
use Rattle.grasp_service.specs.declared.plan.ServicePlan.{ServicePlan}

-- The history of a node that served, and began with its roots, is the opening calls of its agent of prefixes, before which nothing came, and then the
-- calls of what happened, all of them and in order; behind them come none, or those of a round that was cut short.
pub record HistoriesHappened : Type 0 where
  pub whole : (p : ServicePlan) (joining : LinkPlan) (doors : DeskPlan) (before after : Outside) (s : Serves p joining doors before after) → BeginsWithRoots p
      → served_history p s.replies s.rounds s.last ≡ openings ++ calls_in (life_happens p (life_of p joining doors before after (to_its_end s)))
  pub short : (p : ServicePlan) (joining : LinkPlan) (doors : DeskPlan) (before after : Outside) (f : FallsShortServing p joining doors before after) → BeginsWithRoots p
      → short_history p f.replies f.rounds f.turn f.rest ≡ openings ++ (calls_in (life_happens p (life_of p joining doors before after (cut_short f))) ++ f.rest)

-- acts of a member that are what happened, and that could happen where they did
pub record HasActs (m : Member) (happened : List Happening) : Type 0 where
  pub acts : List Act
  pub are : AreActsOf happened acts
  pub may : AreActs (first_seat m).core (first_seat m).agent acts

-- whatever happened first at a node that served, as long as there was memory for each call, is acts of a member of its plan and roots
abbrev pub ServicesHaveActs : Type 0
ServicesHaveActs = (p : ServicePlan) (joining : LinkPlan) (doors : DeskPlan) (before after : Outside) (served : HasServed p joining doors before after) (m : Member)
    → p.node ≡ m.plan → p.roots ≡ m.roots → IsFitPlan p → LinksGiveNoCall (life_of p joining doors before after served)
    → (front rest : List Happening) → life_happens p (life_of p joining doors before after served) ≡ front ++ rest → HadMemory front → HasActs m front
