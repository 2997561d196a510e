-- Inside: what the parts of the test of a plan say.
use Rattle.std.specs.Prelude.{◌≢◌, ◌<◌, ◌≤◌, ℕ, All, AllPairs, List, length, slice_index_or}
use Rattle.grasp_pool.specs.Roots.{block_of}
use Rattle.grasp_pool.specs.Spans.{IsValid}
use Rattle.grasp_model_network.specs.Plans.{IsNode, IsGoodRoot, AreApart, IsGoodLink}
use Rattle.grasp_model_network.specs.Setting.{lines_of}
use Rattle.grasp_model_network.specs.declared.plan.RootAt.{RootAt}
use Rattle.grasp_model_network.specs.declared.plan.WorldPlan.{WorldPlan}

-- the numbers are in range
pub record IsInRange (p : WorldPlan) : Type 0 where
  pub least_nodes : 1 ≤ p.nodes
  pub most_nodes : p.nodes ≤ 64
  pub least_limit : 2048 ≤ p.limit
  pub most_limit : p.limit ≤ 8192
  pub few_roots : length p.roots ≤ 1024

-- ---- roots

-- the roots are prefixes
abbrev pub AreValid : List RootAt → Type 0
AreValid roots = All (λ r. IsValid (block_of r.root)) roots

-- the root at this place is apart from those before it
abbrev pub IsApartBelow : List RootAt → ℕ → Type 0
IsApartBelow roots place = (k : ℕ) (d : RootAt) → k < place → AreApart (slice_index_or roots k d) (slice_index_or roots place d)

-- each of the first so many roots is apart from those before it
abbrev pub AreApartBelow : List RootAt → ℕ → Type 0
AreApartBelow roots n = (j : ℕ) → j < n → IsApartBelow roots j

pub record HasGoodRoots (p : WorldPlan) : Type 0 where
  pub roots : All (IsGoodRoot p.nodes) p.roots
  pub apart : AllPairs AreApart p.roots

-- ---- links

-- the number at this place differs from those before it
abbrev pub IsNewBelow : List ℕ → ℕ → Type 0
IsNewBelow line place = (k : ℕ) (d : ℕ) → k < place → slice_index_or line k d ≢ slice_index_or line place d

-- each of the first so many numbers differs from those before it
abbrev pub AreNewBelow : List ℕ → ℕ → Type 0
AreNewBelow line n = (j : ℕ) → j < n → IsNewBelow line j

-- no node is on more than 16 links
abbrev pub AreFew : ℕ → List (List ℕ) → Type 0
AreFew nodes lines = (node : ℕ) → IsNode nodes node → length (lines_of node lines) ≤ 16

pub record HasGoodLinks (p : WorldPlan) : Type 0 where
  pub links : All (IsGoodLink p.nodes) p.links
  pub few_links : AreFew p.nodes p.links
