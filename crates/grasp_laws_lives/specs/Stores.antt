-- What the disk of a node is asked in a life, what a crash may leave of it, and lives that begin with that.
use Rattle.std.specs.List.{AllByRecursion}
use Rattle.std.specs.Prelude.{◌≡◌, ◌<◌, ◌^◌, ◌++◌, ℕ, true, List, [], ◌∷◌, if◌then◌else◌}
use Rattle.grasp_agent.specs.Replies.{after_reply}
use Rattle.grasp_agent.specs.States.{AgentState}
use Rattle.grasp_disk.specs.Calls.{DiskCall, DiskLog, DiskState, after_calls, bytes_of, state_of}
use Rattle.grasp_disk.specs.Crashes.{MayBecome}
use Rattle.grasp_disk.specs.Memory.{log_from}
use Rattle.grasp_laws_lives.specs.Courses.{LaterLife, Lives, seat_anew}
use Rattle.grasp_laws_members.specs.Acts.{Act, AreActs, Taken, agent_after, agent_taking, agent_wanting, took, wanted}
use Rattle.grasp_model_network.specs.Openings.{first_seat}
use Rattle.grasp_model_network.specs.Setting.{Member}
use Rattle.grasp_model_node.specs.declared.plan.NodePlan.{NodePlan}
use Rattle.grasp_pool.specs.Answers.{IsOpened}
use Rattle.grasp_pool.specs.Functions.{pool_of, pool_of_image}
use Rattle.grasp_pool.specs.declared.roots.RootPrefix.{RootPrefix}
use Rattle.grasp_shelf.specs.Shelves.{kept_before, kept_behind}
use Rattle.grasp_store.specs.Current.{Holds, current_in, image_on, number_of}
use Rattle.grasp_store.specs.Images.{image_of}
use Rattle.grasp_store.specs.Saving.{before_calls, behind_calls}

-- ---- what a disk is asked in a life

-- the disk once it was asked around this: before a call of the agent of prefixes and behind it, and around nothing else
abbrev pub asked_around : AgentState → Act → DiskLog → DiskLog
asked_around a (took x) log = if x.own then kept_behind (after_reply a x.choice.reply) (kept_before a log) else log
asked_around a (wanted length longest peer) log = log

-- and around all of this
abbrev pub asked_in : AgentState → List Act → DiskLog → DiskLog
asked_in a [] log = log
asked_in a (took x ∷ xs) log = asked_in (agent_taking a x) xs (asked_around a (took x) log)
asked_in a (wanted length longest peer ∷ xs) log = asked_in (agent_wanting a length longest peer) xs log

-- ---- what a crash leaves

-- a crash while a disk that stands so is asked this, the newest call first, may leave this content: before these calls, inside each and behind it
pub record MayLeave (s : DiskState) (calls : List DiskCall) (content : List ℕ) : Type 0 where
  pub later : List DiskCall
  pub made : List DiskCall
  pub all : calls ≡ later ++ made
  pub becomes : MayBecome (after_calls made s) content

-- This happened in a life whose agent began so, with a disk of this log; and then a crash left this content of the disk. Either the agent's next call
-- wasn't made, while the disk may have been asked ahead of it; or its last call was made, and the disk was asked behind it.
pub data IsLeft (a : AgentState) (log : DiskLog) (acts : List Act) (content : List ℕ) : Type 0 where
  ahead : MayLeave (state_of (asked_in a acts log)) (before_calls (bytes_of (asked_in a acts log)) (agent_after a acts)) content → IsLeft a log acts content
  behind : (earlier : List Act) (x : Taken) → acts ≡ earlier ++ took x ∷ [] → x.own ≡ true
      → MayLeave (state_of (kept_before (agent_after a earlier) (asked_in a earlier log)))
      (behind_calls [] (bytes_of (kept_before (agent_after a earlier) (asked_in a earlier log))) (after_reply (agent_after a earlier) x.choice.reply)) content
      → IsLeft a log acts content

-- ---- lives whose pool is kept

-- each of these lives begins by the image on its disk, which has what a crash may have left of the disk in the life before. In that life the agent began
-- so, its disk had these bytes, all of them synced, and this happened
abbrev pub AreKept : NodePlan → AgentState → List ℕ → List Act → List LaterLife → Type 0
AreKept plan a bytes acts [] = Unit {0}
AreKept plan a bytes acts (l ∷ ls) =
    (content : List ℕ) × IsLeft a (log_from bytes) acts content × (l.image ≡ image_on [] content) × AreKept plan (seat_anew plan l.image).agent content l.acts ls

-- the disk can be opened and has the image of the roots, under a number that leaves room for many saves
pub record IsFirstDisk (roots : List RootPrefix) (bytes : List ℕ) : Type 0 where
  pub holds : Holds [] bytes (image_of (pool_of roots))
  pub number : number_of (current_in bytes) < 2 ^ 62

-- a member that begins anew had a disk from its first life on; of one that doesn't nothing is asked
abbrev pub AreKeptFrom : Member → List Act → List LaterLife → Type 0
AreKeptFrom m acts [] = Unit {0}
AreKeptFrom m acts (l ∷ ls) = (bytes : List ℕ) × IsFirstDisk m.roots bytes × AreKept m.plan (first_seat m).agent bytes acts (l ∷ ls)

-- what happened in the life may happen in one that a node of this plan begins by its image
abbrev pub MayBeLife : NodePlan → LaterLife → Type 0
MayBeLife plan l = AreActs (seat_anew plan l.image).core (seat_anew plan l.image).agent l.acts

-- a member's first life began with its roots, each later one with what a crash may have left of the one before, and what happened in each may happen there
pub record HaveLived (m : Member) (l : Lives) : Type 0 where
  pub first : AreActs (first_seat m).core (first_seat m).agent l.acts
  pub later : AllByRecursion (MayBeLife m.plan) l.later
  pub kept : AreKeptFrom m l.acts l.later

-- ---- how they begin and end

-- the pool that is opened by the image on a first disk is that of the roots
abbrev pub FirstDisksOpenRoots : Type 0
FirstDisksOpenRoots = (roots : List RootPrefix) (bytes : List ℕ) → IsOpened roots (pool_of roots) → IsFirstDisk roots bytes → pool_of_image (image_on [] bytes) ≡ pool_of roots

-- whatever happened in a life, a crash may leave what a read of its disk gives then: so a life can end anywhere
abbrev pub LivesCanEnd : Type 0
LivesCanEnd = (a : AgentState) (log : DiskLog) (acts : List Act) → IsLeft a log acts (bytes_of (asked_in a acts log))

-- and so may each content that a crash leaves while the disk is asked, after however many of its calls: ahead of a call of the agent that isn't made, and
-- behind its last one
pub record LivesEndAnywhere : Type 0 where
  pub ahead_of : (a : AgentState) (log : DiskLog) (acts : List Act) (later made : List DiskCall) (content : List ℕ)
      → before_calls (bytes_of (asked_in a acts log)) (agent_after a acts) ≡ later ++ made
      → MayBecome (after_calls made (state_of (asked_in a acts log))) content → IsLeft a log acts content
  pub behind_last : (a : AgentState) (log : DiskLog) (earlier : List Act) (x : Taken) (later made : List DiskCall) (content : List ℕ) → x.own ≡ true
      → behind_calls [] (bytes_of (kept_before (agent_after a earlier) (asked_in a earlier log))) (after_reply (agent_after a earlier) x.choice.reply)
      ≡ later ++ made
      → MayBecome (after_calls made (state_of (kept_before (agent_after a earlier) (asked_in a earlier log)))) content
      → IsLeft a log (earlier ++ took x ∷ []) content

-- whatever the roots are, some disk has their image: so a first life can begin with one
abbrev pub FirstDisksAreThere : Type 0
FirstDisksAreThere = (roots : List RootPrefix) → IsOpened roots (pool_of roots) → (bytes : List ℕ) × IsFirstDisk roots bytes
