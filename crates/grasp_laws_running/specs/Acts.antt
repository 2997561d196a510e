-- What happened at a node that ran, by its history and the wants of its agent of prefixes.
use Rattle.std.specs.List.{AllByRecursion}
use Rattle.std.specs.Prelude.{◌≡◌, ◌==◌, ◌++◌, ℕ, false, Contains, Option, List, [], ◌∷◌}
use Rattle.grasp_laws_members.specs.Acts.{Act, AreActs, Taken, took, wanted}
use Rattle.grasp_model_network.specs.Visits.{is_starved}
use Rattle.grasp_model_node.specs.Node.{NodeState}
use Rattle.grasp_node_main.specs.Openings.{opened_agent}
use Rattle.grasp_node_main.specs.Runs.{Ran}
use Rattle.grasp_node_main.specs.Tells.{Told}
use Rattle.grasp_node_main.specs.declared.plan.DaemonPlan.{DaemonPlan}
use Rattle.grasp_node_main.specs.declared.want_plan.WantPlan.{WantPlan}
use Rattle.grasp_node_main.specs.declared.worker.Worker.{Worker}
use Rattle.grasp_model_network.specs.Setting.{Member}
use Rattle.grasp_pool.specs.Functions.{pool_of}
use Rattle.grasp_shared.specs.History.{Entry, History}
use Rattle.grasp_types.specs.declared.address.Locator.{Locator}

-- ---- entries of a history

-- what the node took is this entry; its agent of prefixes is caller 1
pub record IsEntry (e : Entry) (t : Taken) : Type 0 where
  pub own : t.own ≡ (e.caller == 1)
  pub now : t.now ≡ e.now
  pub input : t.input ≡ e.input
  pub reply : t.choice.reply ≡ e.reply

-- this is a want of the plan
pub record IsPlanned (wants : List WantPlan) (length longest : ℕ) (peer : Locator) : Type 0 where
  pub want : WantPlan
  pub planned : Contains wants want
  pub length_is : want.length ≡ length
  pub longest_is : want.longest ≡ longest
  pub peer_is : want.peer ≡ peer

-- what the node took are these entries, all of them and in order; and what its agent was given are wants of the plan
abbrev pub AreEntries : List WantPlan → History → List Act → Type 0
AreEntries wants [] [] = Unit {0}
AreEntries wants (e ∷ es) [] = ⊥
AreEntries wants [] (took t ∷ xs) = ⊥
AreEntries wants (e ∷ es) (took t ∷ xs) = IsEntry e t × AreEntries wants es xs
AreEntries wants [] (wanted length longest peer ∷ xs) = IsPlanned wants length longest peer × AreEntries wants [] xs
AreEntries wants (e ∷ es) (wanted length longest peer ∷ xs) = IsPlanned wants length longest peer × AreEntries wants (e ∷ es) xs

-- there was memory for each call
abbrev pub HadMemory : History → Type 0
HadMemory es = AllByRecursion (λ e. is_starved e.reply ≡ false) es

-- ---- a node that ran

-- What happened first at a node that ran so, and whose agent began with this pool: the entries are the first of its history, and each could
-- happen where it did.
pub record BeginsRun (plan : DaemonPlan) (opened : NodeState) (history : History) (acts : List Act) : Type 0 where
  pub front : History
  pub rest : History
  pub whole : history ≡ front ++ rest
  pub entries : AreEntries plan.wants front acts
  pub may : AreActs opened (opened_agent (pool_of plan.roots)) acts

-- a node of this member's plan and roots ran, and this happened at it first
pub record IsRunOf (m : Member) (acts : List Act) : Type 0 where
  pub plan : DaemonPlan
  pub node : plan.node ≡ m.plan
  pub roots : plan.roots ≡ m.roots
  pub old : Told
  pub new : Told
  pub workers : Option (List Worker)
  pub ran : Ran plan old new workers
  pub begins : BeginsRun plan ran.opened ran.history acts
