-- What a network is made of: its members and how they are linked. Scripts are one instance.
use Rattle.std.specs.Prelude.{ℕ, zero, suc, ◌+◌, ◌-◌, ◌*◌, ◌^◌, ◌==◌, not, Bool, List, [], ◌∷◌, ◌++◌, Option, None, Some, length, map, filter, position, replicate, slice_get, take, if◌then◌else◌}
use Rattle.std.specs.List.{list_any}
use Rattle.grasp_model_node.specs.declared.plan.NodePlan.{NodePlan}
use Rattle.grasp_pool.specs.declared.roots.RootPrefix.{RootPrefix}
use Rattle.grasp_types.specs.Same.{same_locator}
use Rattle.grasp_types.specs.declared.address.Address.{Address}
use Rattle.grasp_types.specs.declared.address.Address.TheVariants as address
use Rattle.grasp_types.specs.declared.address.Locator.{Locator}
use Rattle.grasp_types.specs.declared.address.Locator.TheVariants as locator
use Rattle.grasp_types.specs.declared.address.Proto.TheVariants.{Tcp}
use Rattle.grasp_types.specs.declared.links.Neighbour.{Neighbour}
use Rattle.grasp_model_network.specs.declared.plan.RootAt.{RootAt}
use Rattle.grasp_model_network.specs.declared.plan.WorldPlan.{WorldPlan}

-- ---- lists whose parts are numbered from 1

-- the part with this number
abbrev pub numbered : {A : Type 0} → List A → ℕ → Option A
numbered xs n = if n == 0 then None else slice_get xs (n - 1)

-- so many numbers from this one on
unfoldable pub numbers_from : ℕ → ℕ → List ℕ
numbers_from n zero = []
numbers_from n (suc k) = n ∷ numbers_from (n + 1) k

-- ---- members

-- what a node is opened with, and the prefixes that its agent holds from the beginning
pub record Member : Type 0 where
  pub plan : NodePlan
  pub roots : List RootPrefix

-- the members, numbered from 1; the members on each link; the locators that a want can name as its peer, numbered from 1; and, by the
-- number of a stream among all dials that were sent, the number that it has where it arrives, which may depend on the node there, and
-- the address that this node is told, which may depend on that of the node that dialled
pub record Setting : Type 0 where
  pub members : List Member
  pub lines : List (List ℕ)
  pub peers : List Locator
  pub arrives_as : ℕ → ℕ → ℕ
  pub arrives_from : ℕ → Address → Address

abbrev pub is_at : Locator → Member → Bool
is_at to m = same_locator to m.plan.locator

abbrev pub counted_from_1 : Option ℕ → Option ℕ
counted_from_1 None = None
counted_from_1 (Some i) = Some (i + 1)

-- the number of the member that listens at this locator
abbrev pub member_at : Setting → Locator → Option ℕ
member_at s to = counted_from_1 (position (is_at to) s.members)

-- ---- links

-- the node is on the link
abbrev pub is_on : ℕ → List ℕ → Bool
is_on node line = list_any (λ n. n == node) line

-- the other nodes on a link, in its order
abbrev pub others_on : ℕ → List ℕ → List ℕ
others_on node line = filter (λ n. not (n == node)) line

-- the links that a node is on, in order: they are its links 0, 1 and so on
abbrev pub lines_of : ℕ → List (List ℕ) → List (List ℕ)
lines_of node lines = filter (is_on node) lines

-- the number of the line, from 0, that is the node's link of this number
unfoldable pub line_from : ℕ → ℕ → List (List ℕ) → ℕ → Option ℕ
line_from place node [] link = None
line_from place node (line ∷ lines) link =
    if is_on node line then (if link == 0 then Some place else line_from (place + 1) node lines (link - 1)) else line_from (place + 1) node lines link

abbrev pub line_of : ℕ → List (List ℕ) → ℕ → Option ℕ
line_of node lines link = line_from 0 node lines link

-- the number that the line of this place has among the node's links
abbrev pub link_of : ℕ → List (List ℕ) → ℕ → ℕ
link_of node lines place = length (lines_of node (take place lines))

-- ---- the setting of a script: node k has the address fd00::k, listens there on port 7017 by TCP, and draws its numbers
-- from the seed of 31 zero bytes and k. Addresses, port and seed are this project's own

abbrev pub script_number : ℕ → ℕ
script_number k = 253 * 2 ^ 120 + k

abbrev pub script_address : ℕ → Address
script_address k = address.V6 (script_number k)

abbrev pub script_locator : ℕ → Locator
script_locator k = locator.V6 (script_number k) Tcp 7017

abbrev pub script_seed : ℕ → List ℕ
script_seed k = replicate 31 0 ++ k ∷ []

abbrev pub script_neighbour : ℕ → Neighbour
script_neighbour k = record { address = script_address k; locator = script_locator k }

-- a node's links are those that it is on, in order, and its neighbours there are the others on it, in order
abbrev pub script_links : ℕ → List (List ℕ) → List (List Neighbour)
script_links k lines = map (λ line. map script_neighbour (others_on k line)) (lines_of k lines)

abbrev pub script_node : WorldPlan → ℕ → NodePlan
script_node p k = record { address = script_address k; locator = script_locator k; links = script_links k p.links; seed = script_seed k; limit = p.limit }

-- the roots of a node, in order
abbrev pub script_roots : List RootAt → ℕ → List RootPrefix
script_roots roots k = map (λ r. r.root) (filter (λ r. r.node == k) roots)

abbrev pub script_member : WorldPlan → ℕ → Member
script_member p k = record { plan = script_node p k; roots = script_roots p.roots k }

-- the K-th stream that is dialled arrives with the number 2K - 1, wherever it does
abbrev pub script_arrival : ℕ → ℕ → ℕ
script_arrival node k = 2 * k - 1

-- a stream arrives with the address of the node that dialled
abbrev pub script_opener : ℕ → Address → Address
script_opener k dialling = dialling

-- a want names a node, and asks at its locator
unfoldable pub script_setting : WorldPlan → Setting
script_setting p = record {
  members = map (script_member p) (numbers_from 1 p.nodes);
  lines = p.links;
  peers = map script_locator (numbers_from 1 p.nodes);
  arrives_as = script_arrival;
  arrives_from = script_opener;
}
