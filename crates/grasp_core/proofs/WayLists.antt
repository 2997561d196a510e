-- The ways to neighbours, one link and one neighbour after the other.
use Rattle.std.proofs.Common.{◌≡◌, ℕ, zero, suc, ◌+◌, ◌≤◌, ◌<◌, Bool, true, false, not, ◌||◌, List, [], ◌∷◌, ◌++◌, length, drop, get_or, refl, sym, ap, ◌∙◌, arith, add-one, append_assoc}
use Rattle.std.specs.Prelude.{nat_lt}
use Rattle.std.specs.List.{list_any}
use Rattle.std.proofs.lemmas.Bool.{ltb-false}
use Rattle.grasp_asa.proofs.Lists.{none_at}
use Rattle.grasp_types.specs.Address.{is_dialable}
use Rattle.grasp_types.specs.declared.links.Neighbour.{Neighbour}
use Rattle.grasp_model_node.specs.Plan.{is_bad_plan, is_bad_link}
use Rattle.grasp_model_node.specs.Queue.{ways_on, ways_from}
use Rattle.grasp_model_node.specs.declared.plan.NodePlan.{NodePlan}
use Rattle.grasp_model_node.specs.declared.way.Way.{Way}

-- ---- one more neighbour

first_on : (link k : ℕ) (ns : List Neighbour) (i : ℕ) → i < length ns → ways_on link k (drop i ns) ≡ record { link = link; to = k } ∷ ways_on link (k + 1) (drop (suc i) ns)
first_on link k [] i h = absurd (omega arith)
first_on link k (n ∷ ns) zero h = refl
first_on link k (n ∷ ns) (suc i) h = first_on link k ns i (omega arith)

pub more_on : (link to : ℕ) (ns : List Neighbour) (xs ys new : List Way) → to < length ns → new ≡ xs ++ record { link = link; to = to } ∷ [] → xs ++ ways_on link to (drop to ns) ≡ ys → new ++ ways_on link (to + 1) (drop (to + 1) ns) ≡ ys
more_on link to ns xs ys new h e inv =
    ap (λ (l : List Way). l ++ ways_on link (to + 1) (drop (to + 1) ns)) e
    ∙ append_assoc xs (record { link = link; to = to } ∷ []) (ways_on link (to + 1) (drop (to + 1) ns))
    ∙ ap (λ (l : List Way). xs ++ l) (ap (λ (k : ℕ). record { link = link; to = to } ∷ ways_on link (to + 1) (drop k ns)) (add-one to) ∙ sym (first_on link to ns to h))
    ∙ inv

-- ---- one more link

first_from : (k : ℕ) (links : List (List Neighbour)) (i : ℕ) (ns : List Neighbour) → i < length links → ns ≡ get_or links i ns → ways_from k (drop i links) ≡ ways_on k 0 ns ++ ways_from (k + 1) (drop (suc i) links)
first_from k [] i ns h e = absurd (omega arith)
first_from k (l ∷ links) zero ns h e = rw e refl
first_from k (l ∷ links) (suc i) ns h e = first_from k links i ns (omega arith) e

pub more_from : (link : ℕ) (links : List (List Neighbour)) (ns : List Neighbour) (xs ys new : List Way) → link < length links → ns ≡ get_or links link ns → new ≡ xs ++ ways_on link 0 ns → xs ++ ways_from link (drop link links) ≡ ys → new ++ ways_from (link + 1) (drop (link + 1) links) ≡ ys
more_from link links ns xs ys new h at e inv =
    ap (λ (l : List Way). l ++ ways_from (link + 1) (drop (link + 1) links)) e
    ∙ append_assoc xs (ways_on link 0 ns) (ways_from (link + 1) (drop (link + 1) links))
    ∙ ap (λ (l : List Way). xs ++ l) (ap (λ (k : ℕ). ways_on link 0 ns ++ ways_from (link + 1) (drop k links)) (add-one link) ∙ sym (first_from link links link ns h at))
    ∙ inv

-- ---- how many there are in a plan that isn't bad

left_false : (a b : Bool) → a || b ≡ false → a ≡ false
left_false true b h = h
left_false false b h = refl

right_false : (a b : Bool) → a || b ≡ false → b ≡ false
right_false true b h = absurd (cc)
right_false false b h = h

pub few_links : (plan : NodePlan) → is_bad_plan plan ≡ false → length plan.links ≤ 16
few_links plan h =
    let any = list_any is_bad_link plan.links in
    let a = left_false _ (nat_lt 65535 plan.limit) h in
    let b = left_false _ (nat_lt plan.limit 2048) a in
    let c = left_false _ (not (is_dialable plan.locator)) b in
    ltb-false 16 (length plan.links) (left_false (nat_lt 16 (length plan.links)) any c)

pub few_on : (plan : NodePlan) (i : ℕ) (ns : List Neighbour) → is_bad_plan plan ≡ false → i < length plan.links → ns ≡ get_or plan.links i ns → length ns ≤ 16
few_on plan i ns h within at =
    let any = list_any is_bad_link plan.links in
    let a = left_false _ (nat_lt 65535 plan.limit) h in
    let b = left_false _ (nat_lt plan.limit 2048) a in
    let c = left_false _ (not (is_dialable plan.locator)) b in
    let none : any ≡ false = right_false (nat_lt 16 (length plan.links)) any c in
    let good : is_bad_link ns ≡ false = ap is_bad_link at ∙ none_at is_bad_link plan.links i ns none within in
    ltb-false 16 (length ns) (left_false (nat_lt 16 (length ns)) (list_any (λ x. not (is_dialable x.locator)) ns) good)
