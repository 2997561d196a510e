-- The course of a network some of whose members run, in one life after the other: what happens at them, that they begin anew, and whatever happens
-- elsewhere in it.
use Rattle.std.specs.Prelude.{◌≡◌, ◌==◌, ℕ, Bool, true, List, [], ◌∷◌, if◌then◌else◌, length, Some}
use Rattle.grasp_agent.specs.Reopening.{MayReopen}
use Rattle.grasp_agent.specs.States.{AgentState}
use Rattle.grasp_laws_members.specs.Acts.{Act, AreActs, agent_after, seat_after, took, wanted}
use Rattle.grasp_laws_members.specs.Courses.{MayBe, Moment, after_moment, at_node, elsewhere, of_want}
use Rattle.grasp_model_network.specs.Openings.{opened_seat}
use Rattle.grasp_model_network.specs.Plans.{IsNode}
use Rattle.grasp_model_network.specs.Restarting.{after_restart}
use Rattle.grasp_model_network.specs.Setting.{Member, Setting, numbered}
use Rattle.grasp_model_network.specs.World.{Seat, WorldState, present_life, seat_at}
use Rattle.grasp_model_node.specs.declared.plan.NodePlan.{NodePlan}
use Rattle.grasp_pool.specs.Functions.{pool_of_image}
use Rattle.grasp_pool.specs.declared.image.PoolImage.{PoolImage}

-- ---- moments

-- a moment of a course, at which each member that runs goes on in its life; or a member that runs begins anew, by this image of a pool
pub data LifeMoment : Type 0 where
  within : Moment → LifeMoment
  anew : ℕ → PoolImage → LifeMoment

-- the network after it: to begin anew is a restart of the network, in which the streams of the life that ends are closed
abbrev pub after_life_moment : Setting → WorldState → LifeMoment → WorldState
after_life_moment s w (within m) = after_moment s w m
after_life_moment s w (anew node image) = after_restart s w node image

abbrev pub lives_after : Setting → WorldState → List LifeMoment → WorldState
lives_after s w [] = w
lives_after s w (m ∷ ms) = lives_after s (after_life_moment s w m) ms

-- the network before the first moment, and after each
abbrev pub networks_lived : Setting → WorldState → List LifeMoment → List WorldState
networks_lived s w [] = w ∷ []
networks_lived s w (m ∷ ms) = w ∷ networks_lived s (after_life_moment s w m) ms

-- ---- which moments may come

-- within lives those of a course; and a member that runs may begin anew at any time, by which image is its own to say
abbrev pub MayBeLived : (ℕ → Bool) → Setting → WorldState → LifeMoment → Type 0
MayBeLived runs s w (within m) = MayBe runs s w m
MayBeLived runs s w (anew node image) = runs node ≡ true

-- one after the other
abbrev pub IsLivedCourse : (ℕ → Bool) → Setting → WorldState → List LifeMoment → Type 0
IsLivedCourse runs s w [] = Unit {0}
IsLivedCourse runs s w (m ∷ ms) = MayBeLived runs s w m × IsLivedCourse runs s (after_life_moment s w m) ms

-- ---- the lives of a member

-- a life behind the first: the image of a pool by which it began, and what happened in it
pub record LaterLife : Type 0 where
  pub image : PoolImage
  pub acts : List Act

-- what happened in the life that a member is in, and the lives behind it, in order
pub record Lives : Type 0 where
  pub acts : List Act
  pub later : List LaterLife

abbrev pub no_lives : Lives
no_lives = record { acts = []; later = [] }

-- this happened first, where it did at all
abbrev pub lived : Bool → Act → Lives → Lives
lived b x l = if b then record { acts = x ∷ l.acts; later = l.later } else l

-- nothing happened before the member began anew by this image, where it did at all
abbrev pub begun : Bool → PoolImage → Lives → Lives
begun b image l = if b then record { acts = []; later = record { image = image; acts = l.acts } ∷ l.later } else l

abbrev pub lived_in : ℕ → Moment → Lives → Lives
lived_in node (at_node k x e) l = lived (k == node) (took x) l
lived_in node (of_want k length longest peer number) l = lived (k == node) (wanted length longest peer) l
lived_in node (elsewhere t) l = l

-- the lives of this member in a course
abbrev pub lives_at : ℕ → List LifeMoment → Lives
lives_at node [] = no_lives
lives_at node (within m ∷ ms) = lived_in node m (lives_at node ms)
lives_at node (anew k image ∷ ms) = begun (k == node) image (lives_at node ms)

-- ---- what may happen in them

-- a life of a node of this plan, as it begins: the agent has the pool of this image
abbrev pub seat_anew : NodePlan → PoolImage → Seat
seat_anew plan image = opened_seat plan (pool_of_image image)

-- each of these lives begins by an image by which the agent of the one before may be opened anew, as it is then; and what happens in it may happen there
abbrev pub AreLater : NodePlan → AgentState → List LaterLife → Type 0
AreLater plan a [] = Unit {0}
AreLater plan a (l ∷ ls) =
    MayReopen a l.image × AreActs (seat_anew plan l.image).core (seat_anew plan l.image).agent l.acts
    × AreLater plan (agent_after (seat_anew plan l.image).agent l.acts) ls

-- so it is of all lives, the first of which goes on from here
abbrev pub AreLives : NodePlan → Seat → Lives → Type 0
AreLives plan seat l = AreActs seat.core seat.agent l.acts × AreLater plan (agent_after seat.agent l.acts) l.later

-- the node and its agent after these lives
abbrev pub seat_later : NodePlan → Seat → List LaterLife → Seat
seat_later plan seat [] = seat
seat_later plan seat (l ∷ ls) = seat_later plan (seat_after (seat_anew plan l.image) l.acts) ls

abbrev pub seat_lived : NodePlan → Seat → Lives → Seat
seat_lived plan seat l = seat_later plan (seat_after seat l.acts) l.later

-- the members that run are members, and what happens in the lives of each may happen there, as its node and its agent stand in the network
pub record AreLiving (runs : ℕ → Bool) (s : Setting) (w : WorldState) (ms : List LifeMoment) : Type 0 where
  pub members : (node : ℕ) → runs node ≡ true → IsNode (length s.members) node
  pub lives : (node : ℕ) (m : Member) (seat : Seat) → runs node ≡ true → numbered s.members node ≡ Some m → seat_at w (present_life w node) ≡ Some seat
      → AreLives m.plan seat (lives_at node ms)
