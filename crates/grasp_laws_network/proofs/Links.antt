-- The link of some number of a node is that node's link of this number.
use Rattle.std.proofs.Common.{rules, ◌≡◌, refl, ap, subst, arith, ℕ, suc, ◌+◌, ◌-◌, ◌==◌, Bool, true, false, cond, List, [], ◌∷◌, length, take, filter, Some, unwrap_or}
use Rattle.grasp_laws_network.specs.Laws.{LinksAreFound}
use Rattle.grasp_model_network.specs.Setting.{is_on, line_from, link_of}

-- of the lines before that at this place, counted from the first, the node is on as many as the number of the link
pub record Found (node first link place : ℕ) (lines : List (List ℕ)) : Type 0 where
  pub before : ℕ
  pub place_is : place ≡ first + before
  pub link_is : link_of node lines before ≡ link

-- one line more stands before it, which the node is on or not
pub later : (node first link place : ℕ) (line : List ℕ) (lines : List (List ℕ)) (b : Bool) → is_on node line ≡ b
    → Found node (first + 1) link place lines → Found node first (cond b (link + 1) link) place (line ∷ lines)
later node first link place line lines true is f = record {
  before = suc f.before;
  place_is = let p : place ≡ (first + 1) + f.before = f.place_is in omega arith;
  link_is = rw is (let l : length (filter (is_on node) (take f.before lines)) ≡ link = f.link_is in omega arith);
}
later node first link place line lines false is f = record {
  before = suc f.before;
  place_is = let p : place ≡ (first + 1) + f.before = f.place_is in omega arith;
  link_is = rw is f.link_is;
}

-- a number above 0, less by one and more by one
pub less_and_more : (n : ℕ) → (n == 0) ≡ false → (n - 1) + 1 ≡ n
less_and_more n e = grind (arith, rules)

pub found : (node link place first : ℕ) (lines : List (List ℕ)) → line_from first node lines link ≡ Some place → Found node first link place lines
unfolding line_from
found node link place first [] e = search rules
found node link place first (line ∷ lines) e = by_on (is_on node line) refl (λ k d. found node k place (first + 1) lines d) e where
  by_link : (z : Bool) → (link == 0) ≡ z → is_on node line ≡ true → ((k : ℕ) → line_from (first + 1) node lines k ≡ Some place → Found node (first + 1) k place lines) → cond z (Some first) (line_from (first + 1) node lines (link - 1)) ≡ Some place
      → Found node first link place (line ∷ lines)
  by_link true zero_is on below e = record {
    before = 0;
    place_is = let p : first ≡ place = ap (λ o. unwrap_or o 0) e in omega arith;
    link_is = let z : (link == 0) ≡ true = zero_is in search (rules, arith);
  }
  by_link false zero_is on below e =
      subst (λ k. Found node first k place (line ∷ lines)) (less_and_more link zero_is)
      (later node first (link - 1) place line lines true on (below (link - 1) e))

  by_on : (b : Bool) → is_on node line ≡ b
      → ((k : ℕ) → line_from (first + 1) node lines k ≡ Some place → Found node (first + 1) k place lines)
      → cond b (cond (link == 0) (Some first) (line_from (first + 1) node lines (link - 1))) (line_from (first + 1) node lines link) ≡ Some place
      → Found node first link place (line ∷ lines)
  by_on true on below e = by_link (link == 0) refl on below e
  by_on false on below e = later node first link place line lines false on (below link e)

pub links_are_found : LinksAreFound
links_are_found node link place lines e = at_place (found node link place 0 lines e) where
  at_place : Found node 0 link place lines → link_of node lines place ≡ link
  at_place f = let p : place ≡ 0 + f.before = f.place_is in let q : f.before ≡ place = omega arith in subst (λ k. link_of node lines k ≡ link) q f.link_is
