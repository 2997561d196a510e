-- An answer goes back along the way on which a datagram came.
use Rattle.std.proofs.Common.{◌≡◌, ◌≢◌, refl, sym, ap, ◌∙◌, subst, arith, tests, ℕ, zero, suc, ◌+◌, ◌-◌, ◌<◌, ◌==◌, nat_lt, Bool, true, false, not, cond, ◌||◌, List, [], ◌∷◌, length, filter, slice_get, AllPairs, Option, Some, None}
use Rattle.std.proofs.lemmas.Bool.{false≢true, eqb-true}
use Rattle.std.proofs.lemmas.List.Kept.{AllPairs-filter}
use Rattle.std.proofs.lemmas.Option.{none-some, slice_get_within, get_or_from_slice_get, same_Some as some_same}
use Rattle.std.specs.List.{list_any, prefix_len}
use Rattle.grasp_laws_network.proofs.Links.{links_are_found}
use Rattle.grasp_laws_network.specs.Laws.{RoutesReturn}
use Rattle.grasp_model_network.specs.Routes.{Route, place_among, route_to, route_along, route_on, route_of}
use Rattle.grasp_model_network.specs.Setting.{is_on, others_on, line_from, line_of, link_of}

-- ---- numbers that are equal by test

pub is_itself : (n : ℕ) → (n == n) ≡ true
is_itself n = grind (arith, tests)

pub not_equal : (a b : ℕ) → a ≢ b → (a == b) ≡ false
not_equal a b e = by_test (a == b) refl where
  by_test : (z : Bool) → (a == b) ≡ z → (a == b) ≡ false
  by_test true is = absurd (e (eqb-true a b is))
  by_test false is = is

-- ---- the others on a line

-- what stands among the others on a line is on the line, and isn't the node itself
pub record IsOther (k n : ℕ) (line : List ℕ) : Type 0 where
  pub on : is_on n line ≡ true
  pub other : n ≢ k

pub on_more : (n x : ℕ) (line : List ℕ) → is_on n line ≡ true → is_on n (x ∷ line) ≡ true
on_more n x line on = by_first (x == n) where
  by_first : (z : Bool) → (z || is_on n line) ≡ true
  by_first true = refl
  by_first false = on

pub is_other : (k n i : ℕ) (line : List ℕ) → slice_get (others_on k line) i ≡ Some n → IsOther k n line
is_other k n i [] e = absurd (none-some n e)
is_other k n i (x ∷ line) e = by_self (x == k) refl i e (λ j d. is_other k n j line d) where
  more : IsOther k n line → IsOther k n (x ∷ line)
  more o = record { on = on_more n x line o.on; other = o.other }

  here : (x == k) ≡ false → x ≡ n → IsOther k n (x ∷ line)
  here is same = record {
    on = rw (sym same) (rw (is_itself x) refl);
    other = λ e. false≢true (sym is ∙ (rw (same ∙ e) (is_itself k)));
  }

  by_self : (z : Bool) → (x == k) ≡ z → (i : ℕ) → slice_get (filter (λ m. not (m == k)) (x ∷ line)) i ≡ Some n → ((j : ℕ) → slice_get (others_on k line) j ≡ Some n → IsOther k n line) → IsOther k n (x ∷ line)
  by_self true is i e below = more (below i (subst (λ z. slice_get (cond (not z) (x ∷ others_on k line) (others_on k line)) i ≡ Some n) is e))
  by_self false is zero e below = here is (some_same x n (subst (λ z. slice_get (cond (not z) (x ∷ others_on k line) (others_on k line)) 0 ≡ Some n) is e))
  by_self false is (suc i) e below = more (below i (subst (λ z. slice_get (cond (not z) (x ∷ others_on k line) (others_on k line)) (suc i) ≡ Some n) is e))

-- what is on the line and isn't the node itself stands among the others
pub among_others : (k n : ℕ) (line : List ℕ) → n ≢ k → is_on n line ≡ true → list_any (λ m. m == n) (others_on k line) ≡ true
among_others k n [] other on = absurd (false≢true on)
among_others k n (x ∷ line) other on = by_first (λ o. among_others k n line other o) (x == n) refl (x == k) refl on where
  by_first : (is_on n line ≡ true → list_any (λ m. m == n) (others_on k line) ≡ true) → (a : Bool) → (x == n) ≡ a → (b : Bool) → (x == k) ≡ b → (a || is_on n line) ≡ true → list_any (λ m. m == n) (others_on k (x ∷ line)) ≡ true
  by_first below true at_n true at_k o = absurd (other (sym (eqb-true x n at_n) ∙ eqb-true x k at_k))
  by_first below true at_n false at_k o = rw at_k (rw at_n refl)
  by_first below false at_n true at_k o = rw at_k (below o)
  by_first below false at_n false at_k o = rw at_k (rw at_n (below o))

-- ---- places

abbrev place_in : ℕ → List ℕ → ℕ
place_in n xs = prefix_len (λ x. not (x == n)) xs

-- where it is found
pub record IsFoundAt (n : ℕ) (xs : List ℕ) : Type 0 where
  pub within : place_in n xs < length xs
  pub stands : slice_get xs (place_in n xs) ≡ Some n

pub found_at : (n : ℕ) (xs : List ℕ) → list_any (λ x. x == n) xs ≡ true → IsFoundAt n xs
found_at n [] h = absurd (false≢true h)
found_at n (x ∷ xs) h = by_first (λ o. found_at n xs o) (x == n) refl h where
  by_first : (list_any (λ y. y == n) xs ≡ true → IsFoundAt n xs) → (z : Bool) → (x == n) ≡ z → (z || list_any (λ y. y == n) xs) ≡ true → IsFoundAt n (x ∷ xs)
  by_first below true is o = record { within = rw is (omega arith); stands = rw is (ap (λ y. Some y) (eqb-true x n is)) }
  by_first below false is o = later (below o) where
    one_more : (k : ℕ) → suc k ≡ 1 + k
    one_more k = omega arith

    later : IsFoundAt n xs → IsFoundAt n (x ∷ xs)
    later f = record {
      within = rw is (let w : place_in n xs < length xs = f.within in omega arith);
      stands = rw is (subst (λ k. slice_get (x ∷ xs) k ≡ Some n) (one_more (place_in n xs)) f.stands);
    }

pub place_is : (n : ℕ) (xs : List ℕ) → place_in n xs < length xs → place_among n xs ≡ place_in n xs
place_is n xs within = rw (below (place_in n xs) (length xs) within) refl where
  below : (a b : ℕ) → a < b → nat_lt a b ≡ true
  below a b l = grind (arith, tests)

-- in a list of different numbers it is found where it stands
pub stands_first : (n : ℕ) (xs : List ℕ) (i : ℕ) → slice_get xs i ≡ Some n → AllPairs (λ a b. a ≢ b) xs → place_in n xs ≡ i
stands_first n [] i e h = absurd (none-some n e)
stands_first n (x ∷ xs) zero e h = rw (some_same x n e) (rw (is_itself n) refl)
stands_first n (x ∷ xs) (suc i) e h = rw apart (let k : place_in n xs ≡ i = stands_first n xs i e (λ a b d l m. h (suc a) (suc b) d (omega arith) (omega arith)) in omega arith) where
  apart : (x == n) ≡ false
  apart = not_equal x n (λ same. h zero (suc i) n (omega arith) (let w : i < length xs = slice_get_within xs i n e in omega arith) (same ∙ sym (get_or_from_slice_get xs i n n e)))

-- ---- lines

pub next : (a i : ℕ) → (a + 1) + i ≡ a + suc i
next a i = omega arith

pub not_none : (k : ℕ) → (suc k == 0) ≡ false
not_none k = grind (arith, tests)

pub less_one : (k : ℕ) → suc k - 1 ≡ k
less_one k = omega arith

-- the line of this place, where the node is on it, is its link of that number
pub line_again : (node first i : ℕ) (line : List ℕ) (lines : List (List ℕ)) → slice_get lines i ≡ Some line → is_on node line ≡ true
    → line_from first node lines (link_of node lines i) ≡ Some (first + i)
unfolding line_from
line_again node first i line [] e on = absurd (none-some line e)
line_again node first zero line (l ∷ lines) e on = rw (subst (λ z. is_on node z ≡ true) (sym (some_same l line e)) on) (ap (λ k. Some k) (omega arith))
line_again node first (suc i) line (l ∷ lines) e on =
    by_on (line_again node (first + 1) i line lines e on ∙ ap (λ (k : ℕ). Some k) (next first i)) (is_on node l) refl
  where
    by_on : line_from (first + 1) node lines (link_of node lines i) ≡ Some (first + suc i) → (z : Bool) → is_on node l ≡ z
        → cond (is_on node l) (cond (link_of node (l ∷ lines) (suc i) == 0) (Some first) (line_from (first + 1) node lines (link_of node (l ∷ lines) (suc i) - 1)))
        (line_from (first + 1) node lines (link_of node (l ∷ lines) (suc i))) ≡ Some (first + suc i)
    by_on later true is = rw is (rw (not_none (link_of node lines i)) (rw (less_one (link_of node lines i)) later))
    by_on later false is = rw is later

-- a line that is found has the node on it
pub record FoundOn (node first place : ℕ) (lines : List (List ℕ)) : Type 0 where
  pub before : ℕ
  pub place_is : place ≡ first + before
  pub on : (line : List ℕ) → slice_get lines before ≡ Some line → is_on node line ≡ true

pub later_line : (node first place : ℕ) (l : List ℕ) (lines : List (List ℕ)) → FoundOn node (first + 1) place lines → FoundOn node first place (l ∷ lines)
later_line node first place l lines f = record { before = suc f.before; place_is = let p : place ≡ (first + 1) + f.before = f.place_is in omega arith; on = f.on }

pub first_line : (node first place : ℕ) (l : List ℕ) (lines : List (List ℕ)) → is_on node l ≡ true → Some first ≡ Some place → FoundOn node first place (l ∷ lines)
first_line node first place l lines on e = record {
  before = 0;
  place_is = let p : first ≡ place = some_same first place e in omega arith;
  on = λ line at. subst (λ z. is_on node z ≡ true) (some_same l line at) on;
}

pub found_line : (node link place first : ℕ) (lines : List (List ℕ)) → line_from first node lines link ≡ Some place → FoundOn node first place lines
unfolding line_from
found_line node link place first [] e = absurd (none-some place e)
found_line node link place first (l ∷ lines) e = by_on (is_on node l) refl (λ k d. found_line node k place (first + 1) lines d) e where
  by_link : (z : Bool) → is_on node l ≡ true → ((k : ℕ) → line_from (first + 1) node lines k ≡ Some place → FoundOn node (first + 1) place lines)
      → cond z (Some first) (line_from (first + 1) node lines (link - 1)) ≡ Some place → FoundOn node first place (l ∷ lines)
  by_link true on below e = first_line node first place l lines on e
  by_link false on below e = later_line node first place l lines (below (link - 1) e)

  by_on : (b : Bool) → is_on node l ≡ b → ((k : ℕ) → line_from (first + 1) node lines k ≡ Some place → FoundOn node (first + 1) place lines)
      → cond b (cond (link == 0) (Some first) (line_from (first + 1) node lines (link - 1))) (line_from (first + 1) node lines link) ≡ Some place → FoundOn node first place (l ∷ lines)
  by_on true on below e = by_link (link == 0) on below e
  by_on false on below e = later_line node first place l lines (below link e)

pub line_has : (node link place : ℕ) (lines : List (List ℕ)) (line : List ℕ) → line_of node lines link ≡ Some place → slice_get lines place ≡ Some line → is_on node line ≡ true
line_has node link place lines line e at = at_before (found_line node link place 0 lines e) where
  at_before : FoundOn node 0 place lines → is_on node line ≡ true
  at_before f = f.on line (subst (λ k. slice_get lines k ≡ Some line) (let p : place ≡ 0 + f.before = f.place_is in omega arith) at)

-- ---- the way back

pub sum_is : (k : ℕ) → 0 + k ≡ k
sum_is k = omega arith

-- a datagram that goes along this line, from the node that has the line as its link of this number
pub back_along : (lines : List (List ℕ)) (sender link to place receiver : ℕ) (line : List ℕ) → AllPairs (λ a b. a ≢ b) line → line_of sender lines link ≡ Some place
    → slice_get lines place ≡ Some line → slice_get (others_on sender line) to ≡ Some receiver
    → route_on receiver lines (place_among sender (others_on receiver line)) (line_of receiver lines (link_of receiver lines place))
    ≡ Some (record { receiver = sender; link = link; from = to })
back_along lines sender link to place receiver line different found at neighbour = there (is_other sender receiver to line neighbour) where
  from_is : place_among receiver (others_on sender line) ≡ to
  from_is =
      let stands : place_in receiver (others_on sender line) ≡ to =
      stands_first receiver (others_on sender line) to neighbour (AllPairs-filter (λ a b. a ≢ b) (λ m. not (m == sender)) line different) in
      place_is receiver (others_on sender line) (let w : to < length (others_on sender line) = slice_get_within (others_on sender line) to receiver neighbour in omega arith) ∙ stands

  there : IsOther sender receiver line → route_on receiver lines (place_among sender (others_on receiver line)) (line_of receiver lines (link_of receiver lines place))
      ≡ Some (record { receiver = sender; link = link; from = to })
  there o = back (found_at sender (others_on receiver line) (among_others receiver sender line (λ e. o.other (sym e)) (line_has sender link place lines line found at))) where
    sent_to : IsFoundAt sender (others_on receiver line) → slice_get (others_on receiver line) (place_among sender (others_on receiver line)) ≡ Some sender
    sent_to f = subst (λ k. slice_get (others_on receiver line) k ≡ Some sender) (sym (place_is sender (others_on receiver line) f.within)) f.stands

    whole : route_to receiver lines place line (Some sender) ≡ Some (record { receiver = sender; link = link; from = to })
    whole = ap (λ k. Some (record { receiver = sender; link = k; from = place_among receiver (others_on sender line) })) (links_are_found sender link place lines found)
        ∙ ap (λ k. Some (record { receiver = sender; link = link; from = k })) from_is

    back : IsFoundAt sender (others_on receiver line) → route_on receiver lines (place_among sender (others_on receiver line)) (line_of receiver lines (link_of receiver lines place))
        ≡ Some (record { receiver = sender; link = link; from = to })
    back f =
        ap (route_on receiver lines (place_among sender (others_on receiver line))) (line_again receiver 0 place line lines at o.on ∙ ap (λ k. Some k) (sum_is place))
        ∙ (ap (route_along receiver lines (place_among sender (others_on receiver line)) place) at
        ∙ (ap (route_to receiver lines place line) (sent_to f) ∙ whole))

pub routes_return : RoutesReturn
unfolding route_of
routes_return s sender link to r good is = by_place (line_of sender s.lines link) refl is where
  goal : Route → Type 0
  goal x = route_on x.receiver s.lines x.from (line_of x.receiver s.lines x.link) ≡ Some (record { receiver = sender; link = link; from = to })

  different : (place : ℕ) (line : List ℕ) → slice_get s.lines place ≡ Some line → AllPairs (λ a b. a ≢ b) line
  different place line at =
      subst (AllPairs (λ a b. a ≢ b)) (get_or_from_slice_get s.lines place line line at) (good place line (slice_get_within s.lines place line at)).different

  by_receiver : (place : ℕ) (line : List ℕ) (o : Option ℕ) → line_of sender s.lines link ≡ Some place → slice_get s.lines place ≡ Some line → slice_get (others_on sender line) to ≡ o
      → route_to sender s.lines place line o ≡ Some r → goal r
  by_receiver place line None found at e is = absurd (none-some r is)
  by_receiver place line (Some receiver) found at e is =
      subst goal (some_same (record { receiver = receiver; link = link_of receiver s.lines place; from = place_among sender (others_on receiver line) }) r is)
      (back_along s.lines sender link to place receiver line (different place line at) found at e)

  by_line : (place : ℕ) (o : Option (List ℕ)) → line_of sender s.lines link ≡ Some place → slice_get s.lines place ≡ o → route_along sender s.lines to place o ≡ Some r → goal r
  by_line place None found at is = absurd (none-some r is)
  by_line place (Some line) found at is = by_receiver place line (slice_get (others_on sender line) to) found at refl is

  by_place : (o : Option ℕ) → line_of sender s.lines link ≡ o → route_on sender s.lines to o ≡ Some r → goal r
  by_place None found is = absurd (none-some r is)
  by_place (Some place) found is = by_line place (slice_get s.lines place) found refl is
