-- Nodes that serve in one life after the other are members of one network, which keeps the promise.
use Rattle.std.proofs.Common.{◌≡◌, ℕ, ◌<◌, ◌^◌, ◌==◌, Bool, true, false, List, [], ◌∷◌, length, Some}
use Rattle.std.specs.List.{AllByRecursion}
use Rattle.grasp_laws_lives.specs.Courses.{IsLivedCourse, LaterLife, LifeMoment, Lives, after_life_moment, anew, begun, lived_in, lives_at, within}
use Rattle.grasp_laws_lives.specs.Courses as lives
use Rattle.grasp_laws_lives.specs.Laws.{AllHaveLived, KeptLivesAreSafe}
use Rattle.grasp_laws_lives.specs.Stores.{HaveLived, MayBeLife}
use Rattle.grasp_laws_members.specs.Acts.{Act, took, wanted}
use Rattle.grasp_laws_members.specs.Courses.{MayBe, Moment, acts_at, at_node, elsewhere, joined_at, of_want}
use Rattle.grasp_laws_served_lives.proofs.Stores.{crew_begins}
use Rattle.grasp_laws_served_lives.specs.Laws.{AllHaveServed, IsServedLivedCourse, ServedLivesAreSafe}
use Rattle.grasp_laws_served_lives.specs.Lives.{HaveServed, IsServedLater, IsServedLife}
use Rattle.grasp_laws_serving.proofs.Courses.{AreFit, IsFitAct, acts_fit, served_course}
use Rattle.grasp_laws_serving.proofs.Lives.{front_fit, lived}
use Rattle.grasp_laws_serving.specs.Courses.{MayCome}
use Rattle.grasp_laws_serving.specs.Lives.{life_of}
use Rattle.grasp_model_network.specs.Runs.{first_world}
use Rattle.grasp_model_network.specs.Setting.{Member, Setting}
use Rattle.grasp_model_network.specs.World.{WorldState}
use Rattle.grasp_model_node.specs.declared.plan.NodePlan.{NodePlan}
use Rattle.grasp_node_main.specs.Networks.{NodesOpenAsSeats}
use Rattle.grasp_pool.specs.Functions.{pool_of, pool_of_image}
use Rattle.grasp_pool.specs.Holdings.{Holding}
use Rattle.grasp_pool.specs.declared.image.PoolImage.{PoolImage}

-- ---- what happens in lives is fit

-- in each of them
pub record AreLivesFit (l : Lives) : Type 0 where
  pub acts : AreFit l.acts
  pub later : AllByRecursion (λ (x : LaterLife). AreFit x.acts) l.later

life_fit : (seated : NodesOpenAsSeats) (node : NodePlan) (pool : Holding) (acts : List Act) → IsServedLife node pool acts → AreFit acts
life_fit seated node pool acts i =
    acts_fit i.front acts i.are
    (front_fit seated i.plan pool (life_of i.plan i.joining i.doors i.before i.after i.served) (lived i.plan i.joining i.doors i.before i.after i.served)
    (crew_begins i.plan pool i.begins) i.begins.heralds i.links i.front i.rest i.whole i.fed)

later_fit : (seated : NodesOpenAsSeats) (node : NodePlan) (ls : List LaterLife) → AllByRecursion (IsServedLater node) ls → AllByRecursion (λ (x : LaterLife). AreFit x.acts) ls
later_fit seated node [] all = tt
later_fit seated node (l ∷ ls) all = (life_fit seated node (pool_of_image l.image) l.acts all.0, later_fit seated node ls all.1)

lives_fit : (seated : NodesOpenAsSeats) (m : Member) (l : Lives) → HaveServed m l → AreLivesFit l
lives_fit seated m l h = record { acts = life_fit seated m.plan (pool_of m.roots) l.acts h.first; later = later_fit seated m.plan l.later h.later }

-- ---- a course

first_by : (b : Bool) (a : Act) (l : Lives) → AreLivesFit (lives.lived b a l) → AreFit (joined_at b a [])
first_by true a l fit = (fit.acts.0, tt)
first_by false a l fit = tt

rest_by : (b : Bool) (a : Act) (l : Lives) → AreLivesFit (lives.lived b a l) → AreLivesFit l
rest_by true a l fit = record { acts = fit.acts.1; later = fit.later }
rest_by false a l fit = fit

moment_fit : (node : ℕ) (m : Moment) (l : Lives) → AreLivesFit (lived_in node m l) → AreFit (acts_at node (m ∷ []))
moment_fit node (at_node k x e) l fit = first_by (k == node) (took x) l fit
moment_fit node (of_want k short longest peer number) l fit = first_by (k == node) (wanted short longest peer) l fit
moment_fit node (elsewhere t) l fit = tt

then_fit : (node : ℕ) (m : Moment) (l : Lives) → AreLivesFit (lived_in node m l) → AreLivesFit l
then_fit node (at_node k x e) l fit = rest_by (k == node) (took x) l fit
then_fit node (of_want k short longest peer number) l fit = rest_by (k == node) (wanted short longest peer) l fit
then_fit node (elsewhere t) l fit = fit

begun_fit : (b : Bool) (image : PoolImage) (l : Lives) → AreLivesFit (begun b image l) → AreLivesFit l
begun_fit true image l fit = record { acts = fit.later.0; later = fit.later.1 }
begun_fit false image l fit = fit

abbrev AllFit : (ℕ → Bool) → List LifeMoment → Type 0
AllFit serves ms = (node : ℕ) → serves node ≡ true → AreLivesFit (lives_at node ms)

may_be : (serves : ℕ → Bool) (s : Setting) (w : WorldState) (m : Moment) (ms : List LifeMoment) → AllFit serves (within m ∷ ms) → MayCome serves s w m → MayBe serves s w m
may_be serves s w m ms fit may = (served_course serves s (m ∷ []) w (λ node is. moment_fit node m (lives_at node ms) (fit node is)) (may, tt)).0

pub lived_course : (serves : ℕ → Bool) (s : Setting) (ms : List LifeMoment) (w : WorldState) → AllFit serves ms → IsServedLivedCourse serves s w ms → IsLivedCourse serves s w ms
lived_course serves s [] w fit course = tt
lived_course serves s (within m ∷ ms) w fit course =
    (may_be serves s w m ms fit course.0, lived_course serves s ms (after_life_moment s w (within m)) (λ node is. then_fit node m (lives_at node ms) (fit node is)) course.1)
lived_course serves s (anew k image ∷ ms) w fit course =
    (course.0, lived_course serves s ms (after_life_moment s w (anew k image)) (λ node is. begun_fit (k == node) image (lives_at node ms) (fit node is)) course.1)

-- ---- the network

later_may : (node : NodePlan) (ls : List LaterLife) → AllByRecursion (IsServedLater node) ls → AllByRecursion (MayBeLife node) ls
later_may node [] all = tt
later_may node (l ∷ ls) all = (all.0.may, later_may node ls all.1)

have_lived : (m : Member) (l : Lives) → HaveServed m l → HaveLived m l
have_lived m l h = record { first = h.first.may; later = later_may m.plan l.later h.later; kept = h.kept }

module _ (seated : NodesOpenAsSeats) (serves : ℕ → Bool) (s : Setting) (ms : List LifeMoment) (are : AllHaveServed serves s ms) where
  all_lived : AllHaveLived serves s ms
  all_lived node is = let a = are node is in (a.0, a.1, have_lived a.0 (lives_at node ms) a.2)

  course_is : IsServedLivedCourse serves s (first_world s) ms → IsLivedCourse serves s (first_world s) ms
  course_is course = lived_course serves s ms (first_world s) (λ node is. let a = are node is in lives_fit seated a.0 (lives_at node ms) a.2) course

pub served_lives_are_safe : NodesOpenAsSeats → KeptLivesAreSafe → ServedLivesAreSafe
served_lives_are_safe seated safe = record {
  safe = λ serves s ms good few are course. safe.safe serves s ms good few (all_lived seated serves s ms are) (course_is seated serves s ms are course);
  seats = λ serves s ms good few are course. safe.seats serves s ms good few (all_lived seated serves s ms are) (course_is seated serves s ms are course);
}
