-- A good plan of a script has a good setting.
use Rattle.std.proofs.Common.{◌^◌, ◌≡◌, refl, sym, ap, ◌∙◌, subst, arith, tests, ℕ, zero, suc, ◌+◌, ◌-◌, ◌*◌, ◌%◌, ◌≤◌, ◌<◌, ◌==◌, Bool, true, false, not, List, [], ◌∷◌, ◌++◌, length, map, filter, replicate, slice_get, slice_index_or, All, AllPairs, Some}
use Rattle.std.proofs.lemmas.Bool.{eqb-true}
use Rattle.std.proofs.lemmas.List.{length-map, get_or_default}
use Rattle.std.proofs.lemmas.List.Elements.{All-nil, All-cons, All-head, All-tail, All-map, All-filter}
use Rattle.std.proofs.lemmas.List.Kept.{AllPairs-filter, AllPairs-cons}
use Rattle.std.proofs.lemmas.Option.{same_Some}
use Rattle.std.specs.List.{AllZip}
use Rattle.grasp_cbor.proofs.Facts.Lists.{length_filter}
use Rattle.grasp_cbor.specs.Bytes.{AllBytes}
use Rattle.grasp_pool.proofs.Opening.{roots_open}
use Rattle.grasp_pool.specs.Answers.{IsOpened}
use Rattle.grasp_pool.specs.Functions.{pool_of}
use Rattle.grasp_pool.specs.Roots.{block_of}
use Rattle.grasp_pool.specs.Spans.{Apart, IsValid}
use Rattle.grasp_pool.specs.declared.roots.RootPrefix.{RootPrefix}
use Rattle.grasp_types.specs.declared.address.Address.{Address}
use Rattle.grasp_types.specs.declared.address.Address.TheVariants as address
use Rattle.grasp_types.specs.declared.address.Locator.{Locator}
use Rattle.grasp_types.specs.declared.address.Locator.TheVariants as locator
use Rattle.grasp_laws_network.proofs.Here.{numbered_within}
use Rattle.grasp_laws_network.proofs.Opened.{script_nodes_open}
use Rattle.grasp_model_network.proofs.Facts.{first_reached}
use Rattle.grasp_model_network.specs.GoodSetting.{IsGoodMember, RootsAreApart, AreDifferent, IsLine, IsNeighbour, IsLinkAlong, IsLinked}
use Rattle.grasp_laws_network.specs.Laws.{ScriptsAreGood}
use Rattle.grasp_model_network.specs.Plans.{IsNode, AreApart, IsGoodLink, IsGoodPlan}
use Rattle.grasp_model_network.specs.Runs.{IsReached, world_of}
use Rattle.grasp_model_network.specs.Setting.{Member, numbered, numbers_from, is_on, others_on, lines_of, script_number, script_neighbour, script_roots, script_member, script_setting}
use Rattle.grasp_model_network.specs.declared.plan.RootAt.{RootAt}
use Rattle.grasp_model_network.specs.declared.plan.WorldPlan.{WorldPlan}

-- ---- numbers in order

pub count_numbers : (a n : ℕ) → length (numbers_from a n) ≡ n
unfolding numbers_from
count_numbers a zero = refl
count_numbers a (suc n) = let h : length (numbers_from (a + 1) n) ≡ n = count_numbers (a + 1) n in omega arith

pub all_numbers : (P : ℕ → Type 0) (a n : ℕ) → ((k : ℕ) → a ≤ k → k < a + n → P k) → All P (numbers_from a n)
unfolding numbers_from
all_numbers P a zero each k d h = absurd (omega (arith, h))
all_numbers P a (suc n) each zero d h = each a (omega arith) (omega arith)
all_numbers P a (suc n) each (suc k) d h = all_numbers P (a + 1) n (λ j l m. each j (omega (arith, l)) (omega (arith, m))) k d (omega (arith, h))

-- each is below those behind it
pub rising_numbers : (R : ℕ → ℕ → Type 0) (a n : ℕ) → ((j k : ℕ) → a ≤ j → j < k → k < a + n → R j k) → AllPairs R (numbers_from a n)
unfolding numbers_from
rising_numbers R a zero each = λ i j d l h. absurd (omega (arith, h))
rising_numbers R a (suc n) each =
    AllPairs-cons R a (numbers_from (a + 1) n)
    (all_numbers (R a) (a + 1) n (λ k l m. each a k (omega arith) (omega (arith, l)) (omega (arith, m))))
    (rising_numbers R (a + 1) n (λ j k l m h. each j k (omega (arith, l)) m (omega (arith, h))))

pub number_at : (a n i : ℕ) → i < n → slice_get (numbers_from a n) i ≡ Some (a + i)
unfolding numbers_from
number_at a zero i h = absurd (omega (arith, h))
number_at a (suc n) zero h = ap (λ k. Some k) (omega arith)
number_at a (suc n) (suc i) h = number_at (a + 1) n i (omega (arith, h)) ∙ ap (λ k. Some k) (omega arith)

pub at_number : {A : Type 0} (f : ℕ → A) (a n i : ℕ) → i < n → slice_get (map f (numbers_from a n)) i ≡ Some (f (a + i))
unfolding numbers_from
at_number f a zero i h = absurd (omega (arith, h))
at_number f a (suc n) zero h = ap (λ k. Some (f k)) (omega arith)
at_number f a (suc n) (suc i) h = at_number f (a + 1) n i (omega (arith, h)) ∙ ap (λ k. Some (f k)) (omega arith)

pub map_pairs : {A B : Type 0} (R : B → B → Type 0) (f : A → B) (xs : List A) → AllPairs (λ x y. R (f x) (f y)) xs → AllPairs R (map f xs)
map_pairs R f [] h = λ i j d l m. absurd (omega (arith, m))
map_pairs R f (x ∷ xs) h =
    AllPairs-cons R (f x) (map f xs)
    (All-map (R (f x)) f xs (λ k d l. h zero (suc k) d (omega arith) (omega arith)))
    (map_pairs R f xs (λ i j d l m. h (suc i) (suc j) d (omega arith) (omega arith)))

-- ---- the number of a member

abbrev members_of : WorldPlan → List Member
members_of p = map (script_member p) (numbers_from 1 p.nodes)

pub member_count : (p : WorldPlan) → length (members_of p) ≡ p.nodes
member_count p = length-map (numbers_from 1 p.nodes) (script_member p) ∙ count_numbers 1 p.nodes

pub one_more : (n : ℕ) → 1 ≤ n → 1 + (n - 1) ≡ n
one_more n h = omega arith

pub not_zero : (n : ℕ) → 1 ≤ n → (n == 0) ≡ false
not_zero n h = grind (arith, tests)

-- the members are numbered from 1, in order
pub numbered_member : (p : WorldPlan) (n : ℕ) → IsNode p.nodes n → numbered (members_of p) n ≡ Some (script_member p n)
numbered_member p n node =
    rw (not_zero n node.least)
    (at_number (script_member p) 1 p.nodes (n - 1) (let a : 1 ≤ n = node.least in let b : n ≤ p.nodes = node.most in omega arith)
    ∙ ap (λ k. Some (script_member p k)) (one_more n node.least))

-- ---- addresses and locators

abbrev address_number : Address → ℕ
address_number (address.V4 n) = n
address_number (address.V6 n) = n

abbrev locator_number : Locator → ℕ
locator_number (locator.V6 n proto port) = n
locator_number _ = 0

pub less_differ : (a b : ℕ) → a < b → script_number a ≡ script_number b → ⊥
less_differ a b l e = omega (arith, l, e)

-- ---- seeds

pub seed_bytes : (n k : ℕ) → k < 256 → AllBytes (replicate n 0 ++ k ∷ [])
seed_bytes zero k h = (h, tt)
seed_bytes (suc n) k h = (omega arith, seed_bytes n k h)

pub seed_length : (n k : ℕ) → length (replicate n 0 ++ k ∷ []) ≡ n + 1
seed_length zero k = refl
seed_length (suc n) k = let h : length (replicate n 0 ++ k ∷ []) ≡ n + 1 = seed_length n k in omega arith

-- ---- roots

abbrev is_root_of : ℕ → RootAt → Bool
is_root_of k r = r.node == k

abbrev root_in : RootAt → RootPrefix
root_in r = r.root

abbrev ApartRoots : RootPrefix → RootPrefix → Type 0
ApartRoots a b = Apart (block_of a) (block_of b)

pub other_way : (a b : RootPrefix) → ApartRoots a b → ApartRoots b a
other_way a b h x i j = h x j i

-- what is so of all roots is so of a node's
pub roots_all : (P : RootPrefix → Type 0) (roots : List RootAt) (k : ℕ) → All (λ r. P (root_in r)) roots → All P (script_roots roots k)
roots_all P roots k h = All-map P root_in (filter (is_root_of k) roots) (All-filter (is_root_of k) (λ r. P (root_in r)) roots h)

pub roots_pairs : (roots : List RootAt) (k : ℕ) → AllPairs AreApart roots → AllPairs ApartRoots (script_roots roots k)
roots_pairs roots k h = map_pairs ApartRoots root_in (filter (is_root_of k) roots) (AllPairs-filter AreApart (is_root_of k) roots h)

-- the roots of two nodes are apart
pub roots_apart : (roots : List RootAt) (j k : ℕ) → (j ≡ k → ⊥) → AllPairs AreApart roots → RootsAreApart (script_roots roots j) (script_roots roots k)
roots_apart [] j k other h = All-nil (λ x. All (ApartRoots x) [])
roots_apart (r ∷ roots) j k other h =
    by_nodes (roots_apart roots j k other (λ a b d l m. h (suc a) (suc b) d (omega arith) (omega arith))) (r.node == j) refl (r.node == k) refl
  where
    first : All (λ q. ApartRoots r.root (root_in q)) roots
    first i d l = h zero (suc i) d (omega arith) (omega arith)

    by_nodes : RootsAreApart (script_roots roots j) (script_roots roots k) → (a : Bool) → (r.node == j) ≡ a → (b : Bool) → (r.node == k) ≡ b
        → RootsAreApart (script_roots (r ∷ roots) j) (script_roots (r ∷ roots) k)
    by_nodes below true at_j true at_k = absurd (other (sym (eqb-true r.node j at_j) ∙ eqb-true r.node k at_k))
    by_nodes below true at_j false at_k =
        rw at_j (rw at_k (All-cons (λ x. All (ApartRoots x) (script_roots roots k)) r.root (script_roots roots j) (roots_all (ApartRoots r.root) roots k first) below))
    by_nodes below false at_j true at_k =
        rw at_j (rw at_k (λ i d l. All-cons (ApartRoots (slice_index_or (script_roots roots j) i d)) r.root (script_roots roots k)
        (other_way r.root (slice_index_or (script_roots roots j) i d) (roots_all (ApartRoots r.root) roots j first i d l))
        (below i d l)))
    by_nodes below false at_j false at_k = rw at_j (rw at_k below)

-- a node's roots open a pool
pub script_pool_opens : (p : WorldPlan) (k : ℕ) → IsGoodPlan p → IsOpened (script_roots p.roots k) (pool_of (script_roots p.roots k))
script_pool_opens p k good = roots_open (script_roots p.roots k) few valid apart where
  few : length (script_roots p.roots k) ≤ 1024
  few =
      let a : length (script_roots p.roots k) ≡ length (filter (is_root_of k) p.roots) = length-map (filter (is_root_of k) p.roots) root_in in
      let b : length (filter (is_root_of k) p.roots) ≤ length p.roots = length_filter (is_root_of k) p.roots in
      let c : length p.roots ≤ 1024 = good.few_roots in omega arith

  valid : (i : ℕ) (d : RootPrefix) → i < length (script_roots p.roots k) → i < length (script_roots p.roots k) → IsValid (block_of (slice_index_or (script_roots p.roots k) i d))
  valid i d l m = roots_all (λ r. IsValid (block_of r)) p.roots k (λ j e n. (good.roots j e n).valid) i d m

  apart : (j : ℕ) (d : RootPrefix) → j < length (script_roots p.roots k) → j < length (script_roots p.roots k)
      → (i : ℕ) (e : RootPrefix) → i < j → i < length (script_roots p.roots k) → Apart (block_of (slice_index_or (script_roots p.roots k) i e)) (block_of (slice_index_or (script_roots p.roots k) j d))
  apart j d l m i e n o = at_default (get_or_default (script_roots p.roots k) i d e o) (roots_pairs p.roots k good.apart i j d n m) where
    at_default : slice_index_or (script_roots p.roots k) i d ≡ slice_index_or (script_roots p.roots k) i e
        → ApartRoots (slice_index_or (script_roots p.roots k) i d) (slice_index_or (script_roots p.roots k) j d)
        → ApartRoots (slice_index_or (script_roots p.roots k) i e) (slice_index_or (script_roots p.roots k) j d)
    at_default same h = subst (λ x. ApartRoots x (slice_index_or (script_roots p.roots k) j d)) same h

-- ---- members

-- the number of a script's address has 128 bits
pub script_number_fits : (k : ℕ) → k < 256 → script_number k < 2 ^ 128
script_number_fits k h = omega arith

pub script_member_good : (p : WorldPlan) (k : ℕ) → IsGoodPlan p → IsNode p.nodes k → IsGoodMember p.limit (script_member p k)
script_member_good p k good node = record {
  opens = script_nodes_open p k good node;
  limit_is = refl;
  seed = seed_length 31 k;
  seed_bytes = seed_bytes 31 k (let a : k ≤ p.nodes = node.most in let b : p.nodes ≤ 64 = good.most_nodes in omega arith);
  address = script_number_fits k (let a : k ≤ p.nodes = node.most in let b : p.nodes ≤ 64 = good.most_nodes in omega arith);
  locator = (script_number_fits k (let a : k ≤ p.nodes = node.most in let b : p.nodes ≤ 64 = good.most_nodes in omega arith), omega arith);
  pool = script_pool_opens p k good;
}

pub script_members_differ : (p : WorldPlan) (j k : ℕ) → IsGoodPlan p → j < k → AreDifferent (script_member p j) (script_member p k)
script_members_differ p j k good less = record {
  addresses = λ e. less_differ j k less (ap address_number e);
  locators = λ e. less_differ j k less (ap locator_number e);
  roots = roots_apart p.roots j k (λ e. omega (arith, e, less)) good.apart;
}

-- ---- links

pub good_line : (nodes : ℕ) (line : List ℕ) → IsGoodLink nodes line → IsLine nodes line
good_line nodes line good = record { members = good.members; different = good.different }

pub script_neighbour_good : (p : WorldPlan) (n : ℕ) → IsNode p.nodes n → IsNeighbour (script_setting p) (script_neighbour n) n
unfolding script_setting
script_neighbour_good p n node = record { member = script_member p n; found = numbered_member p n node; address = refl; locator = refl }

pub zip_map : {A B : Type 0} (R : B → A → Type 0) (f : A → B) (xs : List A) → All (λ x. R (f x) x) xs → AllZip R (map f xs) xs
zip_map R f [] h = tt
zip_map R f (x ∷ xs) h = (All-head (λ y. R (f y) y) x xs h, zip_map R f xs (All-tail (λ y. R (f y) y) x xs h))

pub script_link_good : (p : WorldPlan) (k : ℕ) (line : List ℕ) → IsGoodLink p.nodes line → IsLinkAlong (script_setting p) k (map script_neighbour (others_on k line)) line
script_link_good p k line good =
    zip_map (IsNeighbour (script_setting p)) script_neighbour (others_on k line)
    (All-filter (λ n. not (n == k)) (λ n. IsNeighbour (script_setting p) (script_neighbour n) n) line (λ i d l. script_neighbour_good p (slice_index_or line i d) (good.members i d l)))

pub script_linked : (p : WorldPlan) (k : ℕ) (m : Member) → IsGoodPlan p → script_member p k ≡ m → IsLinked (script_setting p) k m
unfolding script_setting
script_linked p k m good same =
    subst (IsLinked (script_setting p) k) same
    (zip_map (IsLinkAlong (script_setting p) k) (λ line. map script_neighbour (others_on k line)) (lines_of k p.links)
    (All-filter (is_on k) (λ line. IsLinkAlong (script_setting p) k (map script_neighbour (others_on k line)) line) p.links
    (λ i d l. script_link_good p k (slice_index_or p.links i d) (good.links i d l))))

-- a member's number is one of the plan's
pub member_node : (p : WorldPlan) (k : ℕ) (m : Member) → numbered (members_of p) k ≡ Some m → IsNode p.nodes k
member_node p k m found = subst (λ n. IsNode n k) (member_count p) (numbered_within (members_of p) k m found)

-- ---- streams

pub odd_arrivals : (k : ℕ) → 1 ≤ k → (2 * k - 1) % 2 ≡ 1
odd_arrivals k least = grind (arith, tests)

pub apart_arrivals : (j k : ℕ) → 1 ≤ j → 1 ≤ k → 2 * j - 1 ≡ 2 * k - 1 → j ≡ k
apart_arrivals j k a b e = omega arith

pub scripts_are_good : ScriptsAreGood
unfolding script_setting
scripts_are_good p good = record {
  limit = p.limit;
  least_limit = good.least_limit;
  most_limit = let a : p.limit ≤ 8192 = good.most_limit in omega arith;
  members = All-map (IsGoodMember p.limit) (script_member p) (numbers_from 1 p.nodes)
      (all_numbers (λ k. IsGoodMember p.limit (script_member p k)) 1 p.nodes (λ k l m. script_member_good p k good (record { least = l; most = omega arith })));
  different = map_pairs AreDifferent (script_member p) (numbers_from 1 p.nodes)
      (rising_numbers (λ j k. AreDifferent (script_member p j) (script_member p k)) 1 p.nodes (λ j k l m h. script_members_differ p j k good m));
  lines = λ i d l. subst (λ n. IsLine n (slice_index_or p.links i d)) (sym (member_count p)) (good_line p.nodes (slice_index_or p.links i d) (good.links i d l));
  linked = λ k m found. script_linked p k m good (same_Some (script_member p k) m (sym (numbered_member p k (member_node p k m found)) ∙ found));
  arrivals_odd = λ node k least. odd_arrivals k least;
  arrivals_apart = λ node j k a b e. apart_arrivals j k a b e;
}

-- the first network of a good plan is reached
pub plan_reached : (p : WorldPlan) → IsGoodPlan p → IsReached (script_setting p) (world_of p)
plan_reached p good = first_reached (script_setting p) (scripts_are_good p good)
