-- The nodes of a good plan of a script can be opened.
use Rattle.std.proofs.Common.{◌≡◌, refl, arith, ℕ, zero, suc, ◌+◌, ◌≤◌, ◌==◌, Bool, true, false, not, ◌||◌, List, [], ◌∷◌, length, map, All}
use Rattle.std.proofs.lemmas.Bool.{false≢true, le-ltb as not_above}
use Rattle.std.specs.List.{list_any}
use Rattle.grasp_cbor.proofs.Facts.Lists.{length_filter, length_map}
use Rattle.grasp_model_node.specs.Plan.{is_bad_link}
use Rattle.grasp_types.specs.Address.{is_dialable}
use Rattle.grasp_laws_network.specs.Laws.{ScriptNodesOpen}
use Rattle.grasp_model_network.specs.Plans.{IsGoodLink}
use Rattle.grasp_model_network.specs.Setting.{is_on, others_on, lines_of, script_neighbour, script_links}

-- neighbours listen where they can be dialled
pub dialled : (ns : List ℕ) → list_any (λ x. not (is_dialable x.locator)) (map script_neighbour ns) ≡ false
dialled [] = refl
dialled (n ∷ ns) = dialled ns

-- a node that is on a link isn't among the others on it
pub others_fewer : (k : ℕ) (line : List ℕ) → is_on k line ≡ true → length (others_on k line) + 1 ≤ length line
others_fewer k [] on = absurd (false≢true on)
others_fewer k (n ∷ ns) on = by_first (n == k) refl on (others_fewer k ns) where
  by_first : (b : Bool) → (n == k) ≡ b → (b || is_on k ns) ≡ true → (is_on k ns ≡ true → length (others_on k ns) + 1 ≤ length ns)
      → length (others_on k (n ∷ ns)) + 1 ≤ length (n ∷ ns)
  by_first true is o below = rw is (let h : length (others_on k ns) ≤ length ns = length_filter (λ m. not (m == k)) ns in omega arith)
  by_first false is o below = rw is (let h : length (others_on k ns) + 1 ≤ length ns = below o in omega arith)

pub good_link : (nodes k : ℕ) (line : List ℕ) → IsGoodLink nodes line → is_on k line ≡ true → is_bad_link (map script_neighbour (others_on k line)) ≡ false
good_link nodes k line good on = rw (not_above 16 (length (map script_neighbour (others_on k line))) few) (dialled (others_on k line)) where
  few : length (map script_neighbour (others_on k line)) ≤ 16
  few = let a : length (map script_neighbour (others_on k line)) ≡ length (others_on k line) = length_map script_neighbour (others_on k line) in
      let b : length (others_on k line) + 1 ≤ length line = others_fewer k line on in
      let c : length line ≤ 17 = good.most in omega arith

pub good_links : (nodes k : ℕ) (lines : List (List ℕ)) → All (IsGoodLink nodes) lines → list_any is_bad_link (script_links k lines) ≡ false
good_links nodes k [] good = refl
good_links nodes k (line ∷ lines) good = by_on (is_on k line) refl (good_links nodes k lines (λ i d h. good (suc i) d (omega (arith, h)))) where
  by_on : (b : Bool) → is_on k line ≡ b → list_any is_bad_link (script_links k lines) ≡ false → list_any is_bad_link (script_links k (line ∷ lines)) ≡ false
  by_on true on below = rw on (rw (good_link nodes k line (good zero line (omega arith)) on) below)
  by_on false on below = rw on below

pub script_nodes_open : ScriptNodesOpen
script_nodes_open p k good node =
    rw (not_above 16 (length (script_links k p.links)) (let h : length (script_links k p.links) ≡ length (lines_of k p.links) = length_map (λ line. map script_neighbour (others_on k line)) (lines_of k p.links) in let m : length (lines_of k p.links) ≤ 16 = good.few_links k node in omega arith))
    (rw (good_links p.nodes k p.links good.links)
    (rw (not_above p.limit 2048 good.least_limit) (not_above 65535 p.limit (let h : p.limit ≤ 8192 = good.most_limit in omega arith))))
