-- What happened at a node that served, as acts of a member of a network.
use Rattle.std.specs.List.{AllByRecursion}
use Rattle.std.specs.Prelude.{◌≡◌, ◌++◌, ◌<◌, ◌^◌, false, List, [], ◌∷◌}
use Rattle.std.specs.Str.{IsUtf8}
use Rattle.grasp_desk.specs.declared.desk.DeskPlan.{DeskPlan}
use Rattle.grasp_io.specs.declared.links.LinkPlan.{LinkPlan}
use Rattle.grasp_laws_members.specs.Acts.{Act, AreActs, took, wanted}
use Rattle.grasp_laws_running.specs.Acts.{IsEntry}
use Rattle.grasp_laws_serving.specs.Lives.{Happening, HasServed, Life, called, life_happens, life_of, told}
use Rattle.grasp_model_network.specs.Openings.{first_seat}
use Rattle.grasp_model_network.specs.Setting.{Member}
use Rattle.grasp_model_network.specs.Visits.{is_starved}
use Rattle.grasp_node_main.specs.Turns.{turn_calls}
use Rattle.grasp_service.specs.Plans.{crew_of, crew_with}
use Rattle.grasp_service.specs.Rounds.{Outside}
use Rattle.grasp_service.specs.declared.plan.HeraldPlan.{HeraldPlan}
use Rattle.grasp_service.specs.declared.plan.ServicePlan.{ServicePlan}
use Rattle.grasp_shared.specs.History.{History}
use Rattle.grasp_types.specs.Objective.{IsValue}
use Rattle.grasp_types.specs.declared.traffic.Input.{Input}
use Rattle.grasp_types.specs.declared.traffic.Input.TheVariants as input

-- the acts are what happened, all of it and in order: what the node took is the call that it answered, and what its agent was given is the want that it
-- was told
abbrev pub AreActsOf : List Happening → List Act → Type 0
AreActsOf [] [] = Unit {0}
AreActsOf [] (x ∷ xs) = ⊥
AreActsOf (h ∷ hs) [] = ⊥
AreActsOf (called e ∷ hs) (took t ∷ xs) = IsEntry e t × AreActsOf hs xs
AreActsOf (called e ∷ hs) (wanted length longest peer ∷ xs) = ⊥
AreActsOf (told w ∷ hs) (took t ∷ xs) = ⊥
AreActsOf (told w ∷ hs) (wanted length longest peer ∷ xs) = (length ≡ w.length) × (longest ≡ w.longest) × (peer ≡ w.peer) × AreActsOf hs xs

-- there was memory for a call
abbrev pub IsFed : Happening → Type 0
IsFed (called e) = is_starved e.reply ≡ false
IsFed (told w) = Unit {0}

-- there was memory for each call
abbrev pub HadMemory : List Happening → Type 0
HadMemory hs = AllByRecursion IsFed hs

-- ---- what the world outside gives a node that serves

-- what a beacon announces is within the ranges of its types
pub record IsHeraldInRange (b : HeraldPlan) : Type 0 where
  pub name : IsUtf8 b.name
  pub value : IsValue b.value
  pub ttl : b.ttl < 2 ^ 32
  pub loops : b.loops < 2 ^ 8

-- a node of this plan begins with its roots, and with nothing that was kept
abbrev pub BeginsWithRoots : ServicePlan → Type 0
BeginsWithRoots p = crew_of p ≡ crew_with p.roots p.wants p.pace p.heralds p.readers

-- it does, and its beacons announce what is in range
pub record IsFitPlan (p : ServicePlan) : Type 0 where
  pub begins : BeginsWithRoots p
  pub heralds : AllByRecursion IsHeraldInRange p.heralds

-- no call of an agent
abbrev pub IsNoCall : Input → Type 0
IsNoCall (input.Api asa call) = ⊥
IsNoCall _ = Unit {0}

abbrev pub AreNoCalls : History → Type 0
AreNoCalls es = AllByRecursion (λ e. IsNoCall e.input) es

-- the links gave the node no call of an agent
pub record LinksGiveNoCall (l : Life) : Type 0 where
  pub rounds : AllByRecursion (λ r. AreNoCalls (turn_calls r.turn)) l.rounds
  pub ends : AreNoCalls l.ends

-- ---- a node that served

-- A node of this member's plan and roots served, and this happened at it first, so far as it had memory for each call; and each act could happen
-- where it did, from the member's first seat on.
pub record IsServiceOf (m : Member) (acts : List Act) : Type 0 where
  pub plan : ServicePlan
  pub node : plan.node ≡ m.plan
  pub roots : plan.roots ≡ m.roots
  pub fit : IsFitPlan plan
  pub joining : LinkPlan
  pub doors : DeskPlan
  pub before : Outside
  pub after : Outside
  pub served : HasServed plan joining doors before after
  pub links : LinksGiveNoCall (life_of plan joining doors before after served)
  pub front : List Happening
  pub rest : List Happening
  pub whole : life_happens plan (life_of plan joining doors before after served) ≡ front ++ rest
  pub fed : HadMemory front
  pub are : AreActsOf front acts
  pub may : AreActs (first_seat m).core (first_seat m).agent acts
