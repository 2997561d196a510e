-- The lives of a member in a course, moment by moment: what happens first, and how much there is of them.
use Rattle.std.proofs.Common.{◌≡◌, refl, arith, ℕ, suc, ◌+◌, ◌≤◌, ◌==◌, Bool, true, false, List, [], ◌∷◌, length}
use Rattle.std.specs.List.{AllByRecursion}
use Rattle.grasp_laws_lives.specs.Courses.{AreLives, IsLivedCourse, LaterLife, LifeMoment, Lives, after_life_moment, anew, begun, lived, lived_in, lives_at, seat_lived, within}
use Rattle.grasp_laws_members.specs.Acts.{Act, AreActs, seat_after, took, wanted}
use Rattle.grasp_laws_members.specs.Courses.{MayBe, Moment, acts_at, at_node, elsewhere, joined_at, of_want}
use Rattle.grasp_model_network.specs.Events.{AreLengths}
use Rattle.grasp_model_network.specs.Setting.{Setting}
use Rattle.grasp_model_network.specs.World.{Seat, WorldState}
use Rattle.grasp_model_node.specs.declared.plan.NodePlan.{NodePlan}
use Rattle.grasp_pool.specs.declared.image.PoolImage.{PoolImage}

-- ---- what happens first

-- what of a moment happens at the member
abbrev pub first_acts : ℕ → Moment → List Act
first_acts node m = acts_at node (m ∷ [])

module _ (plan : NodePlan) (seat : Seat) where
  first_by : (b : Bool) (a : Act) (l : Lives) → AreLives plan seat (lived b a l) → AreActs seat.core seat.agent (joined_at b a [])
  first_by true (took x) l are = (are.0.0, tt)
  first_by true (wanted short longest peer) l are = tt
  first_by false a l are = tt

  pub acts_first : (node : ℕ) (m : Moment) (l : Lives) → AreLives plan seat (lived_in node m l) → AreActs seat.core seat.agent (first_acts node m)
  acts_first node (at_node k x e) l are = first_by (k == node) (took x) l are
  acts_first node (of_want k short longest peer number) l are = first_by (k == node) (wanted short longest peer) l are
  acts_first node (elsewhere t) l are = tt

  rest_by : (b : Bool) (a : Act) (l : Lives) → AreLives plan seat (lived b a l) → AreLives plan (seat_after seat (joined_at b a [])) l
  rest_by true (took x) l are = (are.0.1, are.1)
  rest_by true (wanted short longest peer) l are = are
  rest_by false a l are = are

  pub lives_then : (node : ℕ) (m : Moment) (l : Lives) → AreLives plan seat (lived_in node m l) → AreLives plan (seat_after seat (first_acts node m)) l
  lives_then node (at_node k x e) l are = rest_by (k == node) (took x) l are
  lives_then node (of_want k short longest peer number) l are = rest_by (k == node) (wanted short longest peer) l are
  lives_then node (elsewhere t) l are = are

  last_by : (b : Bool) (a : Act) (l : Lives) → seat_lived plan (seat_after seat (joined_at b a [])) l ≡ seat_lived plan seat (lived b a l)
  last_by true (took x) l = refl
  last_by true (wanted short longest peer) l = refl
  last_by false a l = refl

  pub last_then : (node : ℕ) (m : Moment) (l : Lives) → seat_lived plan (seat_after seat (first_acts node m)) l ≡ seat_lived plan seat (lived_in node m l)
  last_then node (at_node k x e) l = last_by (k == node) (took x) l
  last_then node (of_want k short longest peer number) l = last_by (k == node) (wanted short longest peer) l
  last_then node (elsewhere t) l = refl

-- ---- how much there is of them

abbrev pub later_size : List LaterLife → ℕ
later_size [] = 0
later_size (l ∷ ls) = 1 + (length l.acts + later_size ls)

abbrev pub size_of : Lives → ℕ
size_of l = length l.acts + later_size l.later

lived_size : (b : Bool) (a : Act) (l : Lives) (n : ℕ) → size_of l ≤ n → size_of (lived b a l) ≤ suc n
lived_size true a l n le = omega (arith, le)
lived_size false a l n le = omega (arith, le)

begun_size : (b : Bool) (image : PoolImage) (l : Lives) (n : ℕ) → size_of l ≤ n → size_of (begun b image l) ≤ suc n
begun_size true image l n le = omega (arith, le)
begun_size false image l n le = omega (arith, le)

more : (m n : ℕ) → m ≤ n → m ≤ suc n
more m n le = omega (arith, le)

moment_size : (node : ℕ) (m : Moment) (l : Lives) (n : ℕ) → size_of l ≤ n → size_of (lived_in node m l) ≤ suc n
moment_size node (at_node k x e) l n le = lived_size (k == node) (took x) l n le
moment_size node (of_want k short longest peer number) l n le = lived_size (k == node) (wanted short longest peer) l n le
moment_size node (elsewhere t) l n le = more (size_of l) n le

-- no more than the course has moments
pub lives_size : (node : ℕ) (ms : List LifeMoment) → size_of (lives_at node ms) ≤ length ms
lives_size node [] = omega arith
lives_size node (within m ∷ ms) = moment_size node m (lives_at node ms) (length ms) (lives_size node ms)
lives_size node (anew k image ∷ ms) = begun_size (k == node) image (lives_at node ms) (length ms) (lives_size node ms)

-- ---- what is wanted in them

-- a want asks for a prefix
abbrev pub HasLengths : Act → Type 0
HasLengths (took x) = Unit {0}
HasLengths (wanted short longest peer) = AreLengths short longest

abbrev pub HaveLengths : List Act → Type 0
HaveLengths xs = AllByRecursion HasLengths xs

-- in each life
pub record AllLengths (l : Lives) : Type 0 where
  pub acts : HaveLengths l.acts
  pub later : AllByRecursion (λ (x : LaterLife). HaveLengths x.acts) l.later

lived_lengths : (b : Bool) (a : Act) (l : Lives) → HasLengths a → AllLengths l → AllLengths (lived b a l)
lived_lengths true a l h all = record { acts = (h, all.acts); later = all.later }
lived_lengths false a l h all = all

begun_lengths : (b : Bool) (image : PoolImage) (l : Lives) → AllLengths l → AllLengths (begun b image l)
begun_lengths true image l all = record { acts = tt; later = (all.acts, all.later) }
begun_lengths false image l all = all

moment_lengths : (runs : ℕ → Bool) (s : Setting) (w : WorldState) (node : ℕ) (m : Moment) (l : Lives) → MayBe runs s w m → AllLengths l → AllLengths (lived_in node m l)
moment_lengths runs s w node (at_node k x e) l may all = lived_lengths (k == node) (took x) l tt all
moment_lengths runs s w node (of_want k short longest peer number) l may all = lived_lengths (k == node) (wanted short longest peer) l may.2 all
moment_lengths runs s w node (elsewhere t) l may all = all

pub lives_lengths : (runs : ℕ → Bool) (s : Setting) (node : ℕ) (ms : List LifeMoment) (w : WorldState) → IsLivedCourse runs s w ms → AllLengths (lives_at node ms)
lives_lengths runs s node [] w course = record { acts = tt; later = tt }
lives_lengths runs s node (within m ∷ ms) w course =
    moment_lengths runs s w node m (lives_at node ms) course.0 (lives_lengths runs s node ms (after_life_moment s w (within m)) course.1)
lives_lengths runs s node (anew k image ∷ ms) w course =
    begun_lengths (k == node) image (lives_at node ms) (lives_lengths runs s node ms (after_life_moment s w (anew k image)) course.1)
