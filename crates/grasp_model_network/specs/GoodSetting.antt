-- When the members of a network and its links fit together.
use Rattle.std.specs.Prelude.{◌≡◌, ◌≢◌, ◌≤◌, ◌%◌, ℕ, false, All, AllPairs, List, Some, length}
use Rattle.std.specs.List.{AllZip}
use Rattle.grasp_cbor.specs.Bytes.{AllBytes}
use Rattle.grasp_model_node.specs.Plan.{is_bad_plan}
use Rattle.grasp_pool.specs.Answers.{IsOpened}
use Rattle.grasp_pool.specs.Functions.{pool_of}
use Rattle.grasp_pool.specs.Roots.{block_of}
use Rattle.grasp_pool.specs.Spans.{Apart}
use Rattle.grasp_pool.specs.declared.roots.RootPrefix.{RootPrefix}
use Rattle.grasp_types.specs.Address.{IsAddress, IsLocator}
use Rattle.grasp_types.specs.declared.links.Neighbour.{Neighbour}
use Rattle.grasp_model_network.specs.Plans.{IsNode}
use Rattle.grasp_model_network.specs.Setting.{Member, Setting, numbered, lines_of, others_on}

-- ---- members

-- a member's node can be opened, with this limit and a seed of 32 bytes, its address and its locator are within their
-- ranges, and its roots open a pool
pub record IsGoodMember (limit : ℕ) (m : Member) : Type 0 where
  pub opens : is_bad_plan m.plan ≡ false
  pub limit_is : m.plan.limit ≡ limit
  pub seed : length m.plan.seed ≡ 32
  pub seed_bytes : AllBytes m.plan.seed
  pub address : IsAddress m.plan.address
  pub locator : IsLocator m.plan.locator
  pub pool : IsOpened m.roots (pool_of m.roots)

-- no root of the one has an address in common with a root of the other
abbrev pub RootsAreApart : List RootPrefix → List RootPrefix → Type 0
RootsAreApart xs ys = All (λ x. All (λ y. Apart (block_of x) (block_of y)) ys) xs

-- two members differ in their addresses and in where they listen, and their roots are apart
pub record AreDifferent (a b : Member) : Type 0 where
  pub addresses : a.plan.address ≢ b.plan.address
  pub locators : a.plan.locator ≢ b.plan.locator
  pub roots : RootsAreApart a.roots b.roots

-- ---- links

-- a link has different members
pub record IsLine (count : ℕ) (line : List ℕ) : Type 0 where
  pub members : All (IsNode count) line
  pub different : AllPairs (λ a b. a ≢ b) line

-- a neighbour in a plan is the member of this number
pub record IsNeighbour (s : Setting) (x : Neighbour) (n : ℕ) : Type 0 where
  pub member : Member
  pub found : numbered s.members n ≡ Some member
  pub address : x.address ≡ member.plan.address
  pub locator : x.locator ≡ member.plan.locator

-- the neighbours on a link of a node's plan are the others on the link, in its order
abbrev pub IsLinkAlong : Setting → ℕ → List Neighbour → List ℕ → Type 0
IsLinkAlong s node link line = AllZip (IsNeighbour s) link (others_on node line)

-- the links of a node's plan are those that the node is on, in order
abbrev pub IsLinked : Setting → ℕ → Member → Type 0
IsLinked s node m = AllZip (IsLinkAlong s node) m.plan.links (lines_of node s.lines)

-- ---- all of it

-- Good members with one limit on messages, of which no two have an address, a locator or an address of a root in common, and
-- whose plans have the links of the network; and streams arrive with odd numbers, and at no node do two with the same
pub record IsGoodSetting (s : Setting) : Type 0 where
  pub limit : ℕ
  pub least_limit : 2048 ≤ limit
  pub most_limit : limit ≤ 65535
  pub members : All (IsGoodMember limit) s.members
  pub different : AllPairs AreDifferent s.members
  pub lines : All (IsLine (length s.members)) s.lines
  pub linked : (node : ℕ) (m : Member) → numbered s.members node ≡ Some m → IsLinked s node m
  pub arrivals_odd : (node k : ℕ) → 1 ≤ k → s.arrives_as node k % 2 ≡ 1
  pub arrivals_apart : (node j k : ℕ) → 1 ≤ j → 1 ≤ k → s.arrives_as node j ≡ s.arrives_as node k → j ≡ k
