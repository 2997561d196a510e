-- The ways of datagrams, in the code and in the network.
use Rattle.std.proofs.Common.{◌≡◌, ◌<◌, ◌≤◌, refl, sym, ap, ◌∙◌, subst, arith, tests, ℕ, zero, suc, ◌+◌, ◌-◌, ◌==◌, cond, Bool, true, false, not, List, [], ◌∷◌, length, filter, take, drop, get_or, Option, Some, None, unwrap_or, slice_get, All}
use Rattle.std.specs.List.{position}
use Rattle.std.proofs.lemmas.List.Elements.{All-head, All-tail}
use Rattle.std.proofs.lemmas.List.Quantifiers.{position-Some}
use Rattle.std.proofs.lemmas.Option.{none-some, get_or_from_slice_get, slice_get_within, same_Some}
use Rattle.grasp_cbor.proofs.Facts.Lists.{length_filter}
use Rattle.grasp_laws_network.proofs.GoodPlans.{not_zero}
use Rattle.grasp_model_network.specs.Plans.{IsNode, IsGoodLink}
use Rattle.grasp_model_network.specs.Routes.{place_among}
use Rattle.grasp_model_network.specs.Setting.{is_on, others_on, lines_of, line_from, line_of, link_of}
use Rattle.grasp_simulator.specs.Sends.{made_way, AreGoodLinks, IsWay}

-- ---- the line

pub at_drop : {A : Type 0} (xs : List A) (i : ℕ) (x : A) → i < length xs → x ≡ get_or xs i x → drop i xs ≡ x ∷ drop (i + 1) xs
at_drop [] i x within is = absurd (omega (arith, within))
at_drop (y ∷ ys) zero x within is = ap (λ z. z ∷ ys) (sym is)
at_drop (y ∷ ys) (suc i) x within is = let e : suc (i + 1) ≡ suc i + 1 = omega arith in at_drop ys i x (omega (arith, within)) is ∙ ap (λ (n : ℕ). x ∷ drop n (y ∷ ys)) e

is_zero : (n : ℕ) → n ≡ 0 → (n == 0) ≡ true
is_zero n h = grind (arith, tests)

-- the line is the one that is looked for
pub line_here : (links : List (List ℕ)) (node i left : ℕ) (line : List ℕ) → i < length links → line ≡ get_or links i line → is_on node line ≡ true → left ≡ 0 → line_from i node (drop i links) left ≡ Some i
unfolding line_from
line_here links node i left line within is on none = rw (at_drop links i line within is) (rw on (rw (is_zero left none) refl))

-- the node is on the line, but the line that is looked for comes later
pub line_passed : (links : List (List ℕ)) (node i left : ℕ) (line : List ℕ) → i < length links → line ≡ get_or links i line → is_on node line ≡ true → 1 ≤ left → line_from i node (drop i links) left ≡ line_from (i + 1) node (drop (i + 1) links) (left - 1)
unfolding line_from
line_passed links node i left line within is on some = rw (at_drop links i line within is) (rw on (rw (not_zero left some) refl))

-- the node isn't on the line, so the line that is looked for comes later
pub line_off : (links : List (List ℕ)) (node i left : ℕ) (line : List ℕ) → i < length links → line ≡ get_or links i line → is_on node line ≡ false → line_from i node (drop i links) left ≡ line_from (i + 1) node (drop (i + 1) links) left
unfolding line_from
line_off links node i left line within is on = rw (at_drop links i line within is) (rw on refl)

pub drop_all : {A : Type 0} (xs : List A) (i : ℕ) → length xs ≤ i → drop i xs ≡ []
drop_all [] zero h = refl
drop_all [] (suc i) h = refl
drop_all (x ∷ xs) zero h = absurd (omega (arith, h))
drop_all (x ∷ xs) (suc i) h = drop_all xs i (omega (arith, h))

-- no line is left, so none is found
pub line_none : (links : List (List ℕ)) (node i left : ℕ) → length links ≤ i → line_from i node (drop i links) left ≡ None
unfolding line_from
line_none links node i left all = rw (drop_all links i all) refl

-- ---- how large the numbers are

take_filter : (p : List ℕ → Bool) (xs : List (List ℕ)) (i : ℕ) → length (filter p (take i xs)) ≤ length (filter p xs)
take_filter p xs zero = omega arith
take_filter p [] (suc i) = omega arith
take_filter p (x ∷ xs) (suc i) = by_test (p x) refl (take_filter p xs i) where
  by_test : (b : Bool) → p x ≡ b → length (filter p (take i xs)) ≤ length (filter p xs) → length (filter p (take (suc i) (x ∷ xs))) ≤ length (filter p (x ∷ xs))
  by_test true is below = rw is (omega (arith, below))
  by_test false is below = rw is below

filter_all : (P : ℕ → Type 0) (p : ℕ → Bool) (xs : List ℕ) (i x : ℕ) → slice_get (filter p xs) i ≡ Some x → All P xs → P x
filter_all P p [] i x got all = absurd (none-some x got)
filter_all P p (y ∷ ys) i x got all = by_test (p y) refl got (λ j e. filter_all P p ys j x e (All-tail P y ys all)) where
  by_place : (j : ℕ) → slice_get (y ∷ filter p ys) j ≡ Some x → ((k : ℕ) → slice_get (filter p ys) k ≡ Some x → P x) → P x
  by_place zero e below = subst P (same_Some y x e) (All-head P y ys all)
  by_place (suc j) e below = below j e

  by_test : (b : Bool) → p y ≡ b → slice_get (cond b (y ∷ filter p ys) (filter p ys)) i ≡ Some x → ((k : ℕ) → slice_get (filter p ys) k ≡ Some x → P x) → P x
  by_test true is e below = by_place i e below
  by_test false is e below = below i e

place_few : (node : ℕ) (others : List ℕ) → place_among node others ≤ length others
place_few node others = by_place (position (λ n. n == node) others) refl where
  by_place : (o : Option ℕ) → position (λ n. n == node) others ≡ o → unwrap_or o 0 ≤ length others
  by_place None is = omega arith
  by_place (Some i) is = let h : i < length others = (position-Some (λ n. n == node) others i 0 is).0 in omega (arith, h)

-- a line of good links is one
pub good_line : (nodes : ℕ) (lines : List (List ℕ)) (place : ℕ) (line : List ℕ) → AreGoodLinks nodes lines → slice_get lines place ≡ Some line → IsGoodLink nodes line
good_line nodes lines place line good got = subst (IsGoodLink nodes) (get_or_from_slice_get lines place line line got) (good.links place line (slice_get_within lines place line got))

-- the others on a good line are nodes
pub other_node : (nodes : ℕ) (line : List ℕ) (node to receiver : ℕ) → IsGoodLink nodes line → slice_get (others_on node line) to ≡ Some receiver → IsNode nodes receiver
other_node nodes line node to receiver link there = filter_all (IsNode nodes) (λ n. not (n == node)) line to receiver there link.members

-- the numbers of a way fit
pub few_links : (nodes : ℕ) (lines : List (List ℕ)) (node to place receiver : ℕ) (line : List ℕ) → AreGoodLinks nodes lines → slice_get lines place ≡ Some line → slice_get (others_on node line) to ≡ Some receiver
    → (link_of receiver lines place ≤ 255) × (place_among node (others_on receiver line) ≤ 255)
few_links nodes lines node to place receiver line good got there =
    let link : IsGoodLink nodes line = good_line nodes lines place line good got in
    let is_node : IsNode nodes receiver = other_node nodes line node to receiver link there in
    let all : length (lines_of receiver lines) ≤ 16 = good.few receiver is_node in
    let some : length (lines_of receiver (take place lines)) ≤ length (lines_of receiver lines) = take_filter (is_on receiver) lines place in
    let others : length (others_on receiver line) ≤ length line = length_filter (λ n. not (n == receiver)) line in
    let most : length line ≤ 17 = link.most in
    let at : place_among node (others_on receiver line) ≤ length (others_on receiver line) = place_few node (others_on receiver line) in
    (omega (arith, all, some), omega (arith, at, others, most))

-- ---- the way

pub way_is : (lines : List (List ℕ)) (node link to place receiver : ℕ) (line : List ℕ) (l f : Option ℕ) → line_of node lines link ≡ Some place → slice_get lines place ≡ Some line → slice_get (others_on node line) to ≡ Some receiver
    → (link_of receiver lines place ≤ 255 → l ≡ Some (link_of receiver lines place)) → (place_among node (others_on receiver line) ≤ 255 → f ≡ Some (place_among node (others_on receiver line)))
    → IsWay lines node link to (made_way receiver l f)
way_is lines node link to place receiver line l f found got there link_is from_is nodes good =
    let few = few_links nodes lines node to place receiver line good got there in
    rw (link_is few.0) (rw (from_is few.1) (rw found (rw got (rw there refl))))
