-- The words of a header's lines. The layout is this project's own.
use Rattle.std.specs.Prelude.{◌≡◌, ℕ, ◌<◌, ◌≤◌, ◌++◌, true, All, List, [], ◌∷◌, length, map, Option, Some, None, codes, decimal}
use Rattle.grasp_pool.specs.Roots.{block_of}
use Rattle.grasp_text.specs.Line.{prefix_word}
use Rattle.grasp_model_network.specs.Plans.{IsNode, IsGoodRoot, AreApart, IsGoodLink}
use Rattle.grasp_model_network.specs.Setting.{is_on, lines_of}
use Rattle.grasp_model_network.specs.declared.plan.RootAt.{RootAt}
use Rattle.grasp_model_network.specs.declared.plan.WorldPlan.{WorldPlan}
use Rattle.grasp_script.specs.declared.header.HeaderLine.{HeaderLine}
use Rattle.grasp_script.specs.declared.header.HeaderLine.TheVariants.{Root, Link}

-- Inside: 1 to 64 nodes
pub record IsNodeCount (nodes : ℕ) : Type 0 where
  pub least : 1 ≤ nodes
  pub most : nodes ≤ 64

-- Inside: messages of at most 2048 to 8192 bytes
pub record IsLimit (limit : ℕ) : Type 0 where
  pub least : 2048 ≤ limit
  pub most : limit ≤ 8192

-- the line that tells how many nodes there are
abbrev pub nodes_words : ℕ → List (List ℕ)
nodes_words nodes = codes "nodes" ∷ decimal nodes ∷ []

-- the line that tells the most bytes of a message
abbrev pub limit_words : ℕ → List (List ℕ)
limit_words limit = codes "size" ∷ decimal limit ∷ []

-- the line that ends the header
abbrev pub start_words : List (List ℕ)
start_words = codes "start" ∷ []

-- a root, behind the line's first word
abbrev pub root_words : RootAt → List (List ℕ)
root_words r = decimal r.node ∷ prefix_word (block_of r.root) ∷ []

-- the line that tells a root or a link
abbrev pub header_line_words : HeaderLine → List (List ℕ)
header_line_words (Root r) = codes "root" ∷ root_words r
header_line_words (Link members) = codes "link" ∷ map decimal members

-- the line that tells the most bytes of a message, where there is one
abbrev pub size_words : Option ℕ → List (List (List ℕ))
size_words None = []
size_words (Some limit) = limit_words limit ∷ []

-- the lines of a header: how many nodes there are, the most bytes of a message, roots and links, and `start`
abbrev pub header_words : ℕ → Option ℕ → List HeaderLine → List (List (List ℕ))
header_words nodes size told = nodes_words nodes ∷ (size_words size ++ (map header_line_words told ++ start_words ∷ []))

-- the most bytes of a message, 2048 where no line tells them
abbrev pub limit_of : Option ℕ → ℕ
limit_of None = 2048
limit_of (Some limit) = limit

-- the roots that the lines tell, in order
abbrev pub roots_told : List HeaderLine → List RootAt
roots_told [] = []
roots_told (Root r ∷ told) = r ∷ roots_told told
roots_told (Link members ∷ told) = roots_told told

-- the links that the lines tell, in order
abbrev pub links_told : List HeaderLine → List (List ℕ)
links_told [] = []
links_told (Root r ∷ told) = links_told told
links_told (Link members ∷ told) = members ∷ links_told told

-- the plan that a header tells
abbrev pub plan_told : ℕ → Option ℕ → List HeaderLine → WorldPlan
plan_told nodes size told = record { nodes = nodes; limit = limit_of size; roots = roots_told told; links = links_told told }

-- Inside: the plan with what one more line tells
abbrev pub plan_with : WorldPlan → HeaderLine → WorldPlan
plan_with p (Root r) = record { nodes = p.nodes; limit = p.limit; roots = p.roots ++ r ∷ []; links = p.links }
plan_with p (Link members) = record { nodes = p.nodes; limit = p.limit; roots = p.roots; links = p.links ++ members ∷ [] }

-- Inside: the root fits into the plan: it is good, there are fewer than may be, and it has no address in common with them
pub record RootFits (p : WorldPlan) (r : RootAt) : Type 0 where
  pub good : IsGoodRoot p.nodes r
  pub few : length p.roots < 1024
  pub apart : All (λ q. AreApart q r) p.roots

-- Inside: the link fits into the plan: it is good, and each of its nodes can be on one more
pub record LinkFits (p : WorldPlan) (members : List ℕ) : Type 0 where
  pub good : IsGoodLink p.nodes members
  pub room : (node : ℕ) → IsNode p.nodes node → is_on node members ≡ true → length (lines_of node p.links) < 16
