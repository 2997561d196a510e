-- Which plans a world is opened with. The limits are this project's own.
use Rattle.std.specs.Prelude.{◌≢◌, ◌≤◌, ℕ, All, AllPairs, List, length}
use Rattle.grasp_pool.specs.Roots.{block_of}
use Rattle.grasp_pool.specs.Spans.{IsValid, Apart}
use Rattle.grasp_model_network.specs.Setting.{lines_of}
use Rattle.grasp_model_network.specs.declared.plan.RootAt.{RootAt}
use Rattle.grasp_model_network.specs.declared.plan.WorldPlan.{WorldPlan}

-- the number is that of a node: at least 1, and at most the count of the nodes
pub record IsNode (nodes node : ℕ) : Type 0 where
  pub least : 1 ≤ node
  pub most : node ≤ nodes

-- a root is a prefix, at one of the nodes
pub record IsGoodRoot (nodes : ℕ) (r : RootAt) : Type 0 where
  pub node : IsNode nodes r.node
  pub valid : IsValid (block_of r.root)

-- two roots have no address in common, at one node or at two
abbrev pub AreApart : RootAt → RootAt → Type 0
AreApart a b = Apart (block_of a.root) (block_of b.root)

-- a link has 2 to 17 different nodes
pub record IsGoodLink (nodes : ℕ) (line : List ℕ) : Type 0 where
  pub least : 2 ≤ length line
  pub most : length line ≤ 17
  pub members : All (IsNode nodes) line
  pub different : AllPairs (λ a b. a ≢ b) line

-- 1 to 64 nodes, messages of at most 2048 to 8192 bytes, at most 1024 good roots that are apart, good links, and each node on at most 16 of them
pub record IsGoodPlan (p : WorldPlan) : Type 0 where
  pub least_nodes : 1 ≤ p.nodes
  pub most_nodes : p.nodes ≤ 64
  pub least_limit : 2048 ≤ p.limit
  pub most_limit : p.limit ≤ 8192
  pub few_roots : length p.roots ≤ 1024
  pub roots : All (IsGoodRoot p.nodes) p.roots
  pub apart : AllPairs AreApart p.roots
  pub links : All (IsGoodLink p.nodes) p.links
  pub few_links : (node : ℕ) → IsNode p.nodes node → length (lines_of node p.links) ≤ 16
