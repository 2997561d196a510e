-- No two numbers in use are one.
use Rattle.std.proofs.Common.{◌≡◌, ◌≢◌, ℕ, zero, suc, ◌+◌, ◌<◌, ◌≤◌, Bool, true, false, cond, ◌||◌, ◌==◌, if◌then◌else◌, List, [], ◌∷◌, ◌++◌, length, map, get_or, All, AllPairs, refl, sym, ◌∙◌, subst, arith, eqb-true, eq-eqb}
use Rattle.std.proofs.lemmas.Bool.{true≢false}
use Rattle.std.proofs.lemmas.List.Kept.{AllPairs-cons}
use Rattle.grasp_discovery.specs.declared.search.Search.{Search}
use Rattle.grasp_laws_session.proofs.Runs.{calls_in_order}
use Rattle.grasp_types.specs.declared.reply.Reply.{Reply}
use Rattle.grasp_types.specs.declared.traffic.Input.{Input}
use Rattle.grasp_model_node.specs.Begin.{begin}
use Rattle.grasp_model_node.specs.Draws.{next_session}
use Rattle.grasp_model_node.specs.Node.{NodeState}
use Rattle.grasp_laws_node.specs.Numbers.{requested_numbers, numbers_in_use, NumbersAreOwn}
use Rattle.grasp_model_node.specs.BoundedNodes.{IsBoundedNode}
use Rattle.grasp_model_node.specs.Step.{Coming, NodeStep}
use Rattle.grasp_laws_node.proofs.Numbers.Moves.{searches_weight, Lighter, Adds, begin_lighter, acts_add}
use Rattle.grasp_laws_node.proofs.Numbers.Used.{used_is, few_unused, in_use_few}
use Rattle.grasp_laws_node.proofs.Pigeons.{has}
use Rattle.grasp_laws_node.proofs.SessionWeights.{total, sessions_weight}

-- 1 for this number alone
abbrev mark : ℕ → ℕ → ℕ
mark k x = if x == k then 1 else 0

own_mark : (k : ℕ) → mark k k ≡ 1
own_mark k = rw (eq-eqb k k refl) refl

total_either : (f : ℕ → ℕ) (xs ys : List ℕ) → total f (xs ++ ys) ≡ total f xs + total f ys
total_either f [] ys = omega arith
total_either f (x ∷ xs) ys = let e = total_either f xs ys in omega (arith, e)

total_ones : (xs : List ℕ) → total (λ x. 1) xs ≡ length xs
total_ones [] = refl
total_ones (x ∷ xs) = let e = total_ones xs in omega (arith, e)

-- one that isn't in a list is counted nowhere
absent : (k : ℕ) (xs : List ℕ) → has k xs ≡ false → total (mark k) xs ≡ 0
absent k [] e = refl
absent k (x ∷ xs) e = by_test (x == k) e (absent k xs) where
  by_test : (b : Bool) → b || has k xs ≡ false → (has k xs ≡ false → total (mark k) xs ≡ 0) → cond b 1 0 + total (mark k) xs ≡ 0
  by_test true g f = absurd (true≢false g)
  by_test false g f = let h = f g in omega (arith, h)

none_of : (k : ℕ) (xs : List ℕ) → All (λ x. k ≢ x) xs → total (mark k) xs ≡ 0
none_of k [] a = refl
none_of k (x ∷ xs) a = by_test (x == k) refl (none_of k xs (λ j d h. a (suc j) d (omega (arith, h)))) where
  by_test : (b : Bool) → (x == k) ≡ b → total (mark k) xs ≡ 0 → cond b 1 0 + total (mark k) xs ≡ 0
  by_test true g e = absurd (a 0 k (omega arith) (sym (eqb-true x k g)))
  by_test false g e = omega (arith, e)

-- all differ exactly where each is counted once
counted_once : (xs : List ℕ) → AllPairs (λ a b. a ≢ b) xs → (k : ℕ) → total (mark k) xs ≤ 1
counted_once [] own k = omega arith
counted_once (x ∷ xs) own k = by_test (x == k) refl (counted_once xs (λ i j d h w. own (suc i) (suc j) d (omega (arith, h)) (omega (arith, w))) k) where
  by_test : (b : Bool) → (x == k) ≡ b → total (mark k) xs ≤ 1 → cond b 1 0 + total (mark k) xs ≤ 1
  by_test true g e =
      let none = none_of x xs (λ j d w. own 0 (suc j) d (omega arith) (omega (arith, w))) in
      let same : total (mark k) xs ≡ 0 = subst (λ y. total (mark y) xs ≡ 0) (eqb-true x k g) none in
      omega (arith, same)
  by_test false g e = omega (arith, e)

counts : (f : ℕ → ℕ) (xs : List ℕ) (j d : ℕ) → j < length xs → f (get_or xs j d) ≤ total f xs
counts f [] j d h = absurd (omega (arith, h))
counts f (x ∷ xs) zero d h = omega arith
counts f (x ∷ xs) (suc j) d h = let e = counts f xs j d (omega (arith, h)) in omega (arith, e)

own_once : (xs : List ℕ) → ((k : ℕ) → total (mark k) xs ≤ 1) → AllPairs (λ a b. a ≢ b) xs
own_once [] once = λ i j d h w. absurd (omega (arith, w))
own_once (x ∷ xs) once = AllPairs-cons (λ (a b : ℕ). a ≢ b) x xs differs (own_once xs (λ k. let e = once k in omega (arith, e))) where
  differs : All (λ y. x ≢ y) xs
  differs j d w q =
      let e = once x in
      let g = counts (mark x) xs j d w in
      let o = own_mark x in
      let p : mark x (get_or xs j d) ≡ 1 = subst (λ y. mark x y ≡ 1) q (own_mark x) in
      omega (arith, e, g, o, p)

-- the numbers in use weigh what the sessions and the searches do
in_use_weight : (f : ℕ → ℕ) (n : NodeState) → total f (numbers_in_use n) ≡ sessions_weight f n.sessions + searches_weight f n.discoveries
in_use_weight f n = total_either f (requested_numbers n.sessions.places) (map (λ (search : Search). search.session) n.discoveries.searches)

lighter_total : (f : ℕ → ℕ) (n a : NodeState) → Lighter n a → total f (numbers_in_use a) ≤ total f (numbers_in_use n)
lighter_total f n a l =
    let g = in_use_weight f n in
    let h = in_use_weight f a in
    let s = l.sessions f in
    let t = l.searches f in
    omega (arith, g, h, s, t)

adds_total : (f : ℕ → ℕ) (x : ℕ) (n a : NodeState) → Adds x n a → total f (numbers_in_use a) ≤ total f (numbers_in_use n) + f x
adds_total f x n a l =
    let g = in_use_weight f n in
    let h = in_use_weight f a in
    let s = l f in
    omega (arith, g, h, s)

-- one more is counted once where it wasn't counted before
once_more : (k x : ℕ) (xs ys : List ℕ) → ((f : ℕ → ℕ) → total f ys ≤ total f xs + f x) → total (mark k) xs ≤ 1 → total (mark x) xs ≡ 0 → total (mark k) ys ≤ 1
once_more k x xs ys more once new = by_test (x == k) refl (more (mark k)) where
  by_test : (b : Bool) → (x == k) ≡ b → total (mark k) ys ≤ total (mark k) xs + cond b 1 0 → total (mark k) ys ≤ 1
  by_test true g m = let same : total (mark k) xs ≡ 0 = subst (λ y. total (mark y) xs ≡ 0) (eqb-true x k g) new in omega (arith, m, same)
  by_test false g m = omega (arith, m, once)

few_begun : (n : NodeState) (now : ℕ) → IsBoundedNode n → length (numbers_in_use (begin n now)) ≤ 128
few_begun n now i =
    let long = (calls_in_order n.sessions i.sessions).long in
    let few = in_use_few n (omega (arith, long)) i.discoveries.few_searches in
    let a = total_ones (numbers_in_use n) in
    let b = total_ones (numbers_in_use (begin n now)) in
    let l = lighter_total (λ x. 1) n (begin n now) (begin_lighter n now) in
    omega (arith, few, a, b, l)

step_own : (n after : NodeState) (now : ℕ) (i : Input) (x : Coming) (r : Reply) → IsBoundedNode n → AllPairs (λ a b. a ≢ b) (numbers_in_use n) → NodeStep n now i x r after → AllPairs (λ a b. a ≢ b) (numbers_in_use after)
step_own n after now i x r node own step =
    let b = begin n now in
    let new = sym (used_is b (next_session b)) ∙ (few_unused b (few_begun n now node)).0 in
    own_once (numbers_in_use after) (λ k.
    let once = counted_once (numbers_in_use n) own k in
    let l = lighter_total (mark k) n b (begin_lighter n now) in
    once_more k (next_session b) (numbers_in_use b) (numbers_in_use after)
    (λ f. adds_total f (next_session b) b after (acts_add b i x r after step.is_coming step.acts))
    (omega (arith, once, l))
    (absent (next_session b) (numbers_in_use b) new))

pub numbers_own : NumbersAreOwn
numbers_own = ((λ plan i j d h w. absurd (omega (arith, w))), step_own)
