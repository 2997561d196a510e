-- A course of members that serve: as what they call and want is fit, the world outside alone decides whether it may come.
use Rattle.std.proofs.Common.{◌≡◌, refl, sym, ◌∙◌, subst, ℕ, ◌==◌, Bool, true, false, List, [], ◌∷◌}
use Rattle.std.proofs.lemmas.Bool.{eq-eqb}
use Rattle.std.specs.List.{AllByRecursion}
use Rattle.grasp_laws_members.specs.Acts.{Act, took, wanted}
use Rattle.grasp_laws_members.specs.Courses.{IsCourse, MayBe, Moment, acts_at, after_moment, at_node, elsewhere, joined_at, of_want}
use Rattle.grasp_laws_members.specs.Giving.{Gives}
use Rattle.grasp_laws_serving.proofs.Agents.{IsFit, IsFitInput}
use Rattle.grasp_laws_serving.specs.Acts.{AreActsOf}
use Rattle.grasp_laws_serving.specs.Courses.{Comes, IsServedCourse, MayCome}
use Rattle.grasp_laws_serving.specs.Lives.{Happening, called, told}
use Rattle.grasp_model_network.specs.Events.{AreLengths}
use Rattle.grasp_model_network.specs.Setting.{Setting}
use Rattle.grasp_model_network.specs.World.{WorldState}
use Rattle.grasp_model_network.specs.declared.event.Event.{Event}
use Rattle.grasp_types.specs.declared.call.Call.{Call}
use Rattle.grasp_types.specs.declared.traffic.Input.{Input}
use Rattle.grasp_types.specs.declared.traffic.Input.TheVariants as input

-- ---- acts

-- an act is fit: another agent's call isn't one of agent 1, and a want asks for a prefix
abbrev pub IsFitAct : Act → Type 0
IsFitAct (took t) = t.own ≡ false → IsFitInput t.input
IsFitAct (wanted length longest peer) = AreLengths length longest

abbrev pub AreFit : List Act → Type 0
AreFit xs = AllByRecursion IsFitAct xs

pub acts_fit : (hs : List Happening) (xs : List Act) → AreActsOf hs xs → AllByRecursion IsFit hs → AreFit xs
acts_fit [] [] are fit = tt
acts_fit [] (x ∷ xs) are fit = absurd are
acts_fit (called e ∷ hs) [] are fit = absurd are
acts_fit (told w ∷ hs) [] are fit = absurd are
acts_fit (called e ∷ hs) (took t ∷ xs) are fit = ((λ not. subst IsFitInput (sym are.0.input) (fit.0 (sym are.0.own ∙ not))), acts_fit hs xs are.1 fit.1)
acts_fit (called e ∷ hs) (wanted l m p ∷ xs) are fit = absurd are
acts_fit (told w ∷ hs) (took t ∷ xs) are fit = absurd are
acts_fit (told w ∷ hs) (wanted l m p ∷ xs) are fit = (
  subst (λ (n : ℕ). AreLengths n m) (sym are.0) (subst (λ (n : ℕ). AreLengths w.length n) (sym are.1) fit.0),
  acts_fit hs xs are.3 fit.1,
)

-- ---- moments

call_comes : (s : Setting) (w : WorldState) (node : ℕ) (own : Bool) (asa : ℕ) (c : Call) (e : Event) → Comes s w node own (input.Api asa c) e → (own ≡ false → IsFitInput (input.Api asa c))
    → Gives s w node own (input.Api asa c) e
call_comes s w node true asa c e comes fit = comes
call_comes s w node false asa c e comes fit = (comes, (fit refl).0, (fit refl).1)

comes_given : (s : Setting) (w : WorldState) (node : ℕ) (own : Bool) (i : Input) (e : Event) → Comes s w node own i e → (own ≡ false → IsFitInput i) → Gives s w node own i e
comes_given s w node own (input.Api asa c) e comes fit = call_comes s w node own asa c e comes fit
comes_given s w node own (input.Datagram link from bytes) e comes fit = comes
comes_given s w node own (input.Opened stream from) e comes fit = comes
comes_given s w node own (input.Bytes stream bytes) e comes fit = comes
comes_given s w node own (input.Closed stream) e comes fit = comes
comes_given s w node own (input.Drain max) e comes fit = comes

call_given : (s : Setting) (w : WorldState) (node : ℕ) (own : Bool) (asa : ℕ) (c : Call) (e : Event) → Gives s w node own (input.Api asa c) e → Comes s w node own (input.Api asa c) e
call_given s w node true asa c e given = given
call_given s w node false asa c e given = given.0

pub given_comes : (s : Setting) (w : WorldState) (node : ℕ) (own : Bool) (i : Input) (e : Event) → Gives s w node own i e → Comes s w node own i e
given_comes s w node own (input.Api asa c) e given = call_given s w node own asa c e given
given_comes s w node own (input.Datagram link from bytes) e given = given
given_comes s w node own (input.Opened stream from) e given = given
given_comes s w node own (input.Bytes stream bytes) e given = given
given_comes s w node own (input.Closed stream) e given = given
given_comes s w node own (input.Drain max) e given = given

-- ---- a course

-- what happens at each member that serves is fit
abbrev pub AllFit : (ℕ → Bool) → List Moment → Type 0
AllFit serves ms = (node : ℕ) → serves node ≡ true → AreFit (acts_at node ms)

first_fit : (node : ℕ) (a : Act) (xs : List Act) → AreFit (joined_at (node == node) a xs) → IsFitAct a
first_fit node a xs fit = (subst (λ (b : Bool). AreFit (joined_at b a xs)) (eq-eqb node node refl) fit).0

rest_fit : (b : Bool) (a : Act) (xs : List Act) → AreFit (joined_at b a xs) → AreFit xs
rest_fit true a xs fit = fit.1
rest_fit false a xs fit = fit

moment_fit : (serves : ℕ → Bool) (m : Moment) (ms : List Moment) → AllFit serves (m ∷ ms) → AllFit serves ms
moment_fit serves (at_node k x e) ms fit node is = rest_fit (k == node) (took x) (acts_at node ms) (fit node is)
moment_fit serves (of_want k length longest peer number) ms fit node is = rest_fit (k == node) (wanted length longest peer) (acts_at node ms) (fit node is)
moment_fit serves (elsewhere t) ms fit node is = fit node is

may_be : (serves : ℕ → Bool) (s : Setting) (w : WorldState) (m : Moment) (ms : List Moment) → AllFit serves (m ∷ ms) → MayCome serves s w m → MayBe serves s w m
may_be serves s w (at_node k x e) ms fit may = (may.0, comes_given s w k x.own x.input e may.1 (first_fit k (took x) (acts_at k ms) (fit k may.0)), may.2)
may_be serves s w (of_want k length longest peer number) ms fit may = (may.0, may.1, first_fit k (wanted length longest peer) (acts_at k ms) (fit k may.0))
may_be serves s w (elsewhere t) ms fit may = may

pub served_course : (serves : ℕ → Bool) (s : Setting) (ms : List Moment) (w : WorldState) → AllFit serves ms → IsServedCourse serves s w ms → IsCourse serves s w ms
served_course serves s [] w fit course = tt
served_course serves s (m ∷ ms) w fit course =
    (may_be serves s w m ms fit course.0, served_course serves s ms (after_moment s w m) (moment_fit serves m ms fit) course.1)
