-- All untaken sessions of an objective are among its declines.
use Rattle.std.proofs.Common.{◌≡◌, ℕ, zero, suc, ◌<◌, ◌≤◌, Bool, true, false, cond, ◌&&◌, ◌==◌, nat_lt, bytes_eq, List, [], ◌∷◌, length, ◌⊎◌, inl, inr, Option, None, Some, slice_index_or, refl, sym, ap, ◌∙◌, subst, arith}
use Rattle.std.proofs.lemmas.Bool.{false≢true, true≢false, and_parts, and_from, eqb-true, eq-eqb, ltb-true, ltb-false, lt-ltb}
use Rattle.grasp_laws_session.proofs.Runs.{some_state}
use Rattle.grasp_laws_session.proofs.Streams.{is_least, none_is_left}
use Rattle.grasp_session.specs.Runs.{AreInOrder}
use Rattle.grasp_session.specs.Says.{IsAt, IsLeast}
use Rattle.grasp_session.specs.Sessions.{SessionState, Sessions, untaken_above_reply}
use Rattle.grasp_session.specs.Transcript.{request_of}
use Rattle.grasp_types.specs.declared.session.Handle.{Handle}
use Rattle.grasp_model_node.specs.Declines.{decline_of, next_decline, declines_above, declines_of}
use Rattle.grasp_model_node.specs.RegistryCalls.{declines_for}
use Rattle.grasp_laws_node.proofs.Consistent.Declines.{IsMeant, AreMeant, IsListed, handle_state, meant_both}
use Rattle.grasp_laws_node.proofs.Consistent.Table.{one_on}

-- ---- how many pass

abbrev Test : Type 0
Test = Option SessionState → Bool

passing : Test → List (Option SessionState) → ℕ
passing p [] = 0
passing p (x ∷ xs) = cond (p x) (suc (passing p xs)) (passing p xs)

passing_few : (p : Test) (xs : List (Option SessionState)) → passing p xs ≤ length xs
unfolding passing
passing_few p [] = omega arith
passing_few p (x ∷ xs) = by_test (p x) (passing_few p xs) where
  by_test : (b : Bool) → passing p xs ≤ length xs → cond b (suc (passing p xs)) (passing p xs) ≤ suc (length xs)
  by_test true h = omega (arith, h)
  by_test false h = omega (arith, h)

passing_some : (p : Test) (xs : List (Option SessionState)) (i : ℕ) (x : SessionState) → slice_index_or xs i None ≡ Some x → p (Some x) ≡ true → 1 ≤ passing p xs
unfolding passing
passing_some p [] i x e h = absurd (cc)
passing_some p (y ∷ xs) zero x e h = let first : p y ≡ true = ap p e ∙ h in rw first (omega arith)
passing_some p (y ∷ xs) (suc i) x e h = by_test (p y) (passing_some p xs i x e h) where
  by_test : (b : Bool) → 1 ≤ passing p xs → 1 ≤ cond b (suc (passing p xs)) (passing p xs)
  by_test true k = omega arith
  by_test false k = k

both_tests : (b c : Bool) (m k : ℕ) → (b ≡ true → c ≡ true) → m ≤ k → cond b (suc m) m ≤ cond c (suc k) k
both_tests true true m k f h = omega (arith, h)
both_tests true false m k f h = absurd (false≢true (f refl))
both_tests false true m k f h = omega (arith, h)
both_tests false false m k f h = h

passing_fewer : (p q : Test) (xs : List (Option SessionState)) → ((o : Option SessionState) → p o ≡ true → q o ≡ true) → passing p xs ≤ passing q xs
unfolding passing
passing_fewer p q [] f = omega arith
passing_fewer p q (y ∷ xs) f = both_tests (p y) (q y) (passing p xs) (passing q xs) (f y) (passing_fewer p q xs f)

later_tests : (b c : Bool) (m k : ℕ) → (b ≡ true → c ≡ true) → suc m ≤ k → suc (cond b (suc m) m) ≤ cond c (suc k) k
later_tests true true m k f h = omega (arith, h)
later_tests true false m k f h = absurd (false≢true (f refl))
later_tests false true m k f h = omega (arith, h)
later_tests false false m k f h = h

passing_less : (p q : Test) (xs : List (Option SessionState)) (i : ℕ) (x : SessionState) → ((o : Option SessionState) → p o ≡ true → q o ≡ true) → slice_index_or xs i None ≡ Some x → p (Some x) ≡ false → q (Some x) ≡ true
    → suc (passing p xs) ≤ passing q xs
unfolding passing
passing_less p q [] i x f e g h = absurd (cc)
passing_less p q (y ∷ xs) zero x f e g h =
    let fails : p y ≡ false = ap p e ∙ g in
    let passes : q y ≡ true = ap q e ∙ h in
    let rest = passing_fewer p q xs f in
    rw (fails, passes) (omega (arith, rest))
passing_less p q (y ∷ xs) (suc i) x f e g h = later_tests (p y) (q y) (passing p xs) (passing q xs) (f y) (passing_less p q xs i x f e g h)

-- ---- the untaken sessions above a number

abbrev above_test : List ℕ → ℕ → SessionState → Bool
above_test name above x = nat_lt above x.number && (x.owner == 0) && bytes_eq (request_of x.view).name name

abbrev at_test : List ℕ → ℕ → Test
at_test name above None = false
at_test name above (Some x) = above_test name above x

record PassesAbove (name : List ℕ) (above : ℕ) (x : SessionState) : Type 0 where
  pub up : above < x.number
  pub owned : (x.owner == 0) ≡ true
  pub named : bytes_eq (request_of x.view).name name ≡ true

passes_above : (name : List ℕ) (above : ℕ) (x : SessionState) → above_test name above x ≡ true → PassesAbove name above x
passes_above name above x e =
    let p = and_parts (nat_lt above x.number && (x.owner == 0)) (bytes_eq (request_of x.view).name name) e in
    let q = and_parts (nat_lt above x.number) (x.owner == 0) p.0 in record { up = ltb-true above x.number q.0; owned = q.1; named = p.1 }

above_passes : (name : List ℕ) (above : ℕ) (x : SessionState) → PassesAbove name above x → above_test name above x ≡ true
above_passes name above x p =
    and_from (nat_lt above x.number && (x.owner == 0)) (bytes_eq (request_of x.view).name name)
    (and_from (nat_lt above x.number) (x.owner == 0) (lt-ltb above x.number p.up) p.owned) p.named

higher : (name : List ℕ) (low high : ℕ) → low < high → (o : Option SessionState) → at_test name high o ≡ true → at_test name low o ≡ true
higher name low high h None e = absurd (false≢true e)
higher name low high h (Some x) e =
    let p = passes_above name high x e in
    let a = p.up in above_passes name low x (record { up = omega (arith, h, a); owned = p.owned; named = p.named })

not_itself : (name : List ℕ) (x : SessionState) → above_test name x.number x ≡ false
not_itself name x = by_test (above_test name x.number x) refl where
  by_test : (b : Bool) → above_test name x.number x ≡ b → b ≡ false
  by_test true e = let p = passes_above name x.number x e in let a = p.up in absurd (omega (arith, a))
  by_test false e = refl

lists_above : (z : Sessions) → AreInOrder z → (name : List ℕ) (k above : ℕ) → passing (at_test name above) z.places ≤ k → (place : ℕ) (x : SessionState) → IsAt z place x → above_test name above x ≡ true
    → IsListed x.stream (declines_above z name k above)
unfolding declines_above
lists_above z o name zero above few place x at e = let some = passing_some (at_test name above) z.places place x at e in absurd (omega (arith, few, some))
lists_above z o name (suc k) above few place x at e = by_handle (untaken_above_reply z name above) refl (λ number less up. lists_above z o name k number less place x at up) where
  by_least : (h : Handle) → IsLeast z (above_test name above) h
      → ((number : ℕ) → passing (at_test name number) z.places ≤ k → above_test name number x ≡ true → IsListed x.stream (declines_above z name k number))
      → IsListed x.stream (next_decline z (λ number. declines_above z name k number) (Some h))
  by_least h l rest = rw l.at (by_number (nat_lt h.number x.number) refl) where
    y : SessionState
    y = l.state

    same : y.number ≡ h.number
    same = (handle_state z h y l.at).1

    by_number : (b : Bool) → nat_lt h.number x.number ≡ b → (y.stream ≡ x.stream) ⊎ IsListed x.stream (declines_above z name k h.number)
    by_number true up =
        let p = passes_above name above x e in
        let q = passes_above name above y l.passes in
        let low : above < h.number = subst (λ n. above < n) same q.up in
        let less = passing_less (at_test name h.number) (at_test name above) z.places h.place y (higher name above h.number low) l.place (subst (λ n. above_test name n y ≡ false) same (not_itself name y)) l.passes in
        inr (rest h.number (omega (arith, less, few)) (above_passes name h.number x (record { up = ltb-true h.number x.number up; owned = p.owned; named = p.named })))
    by_number false up =
        let high : x.number ≤ h.number = ltb-false h.number x.number up in
        let low : h.number ≤ x.number = l.least place x at e in
        let one : place ≡ h.place = o.apart place h.place x y at l.place (omega (arith, same, high, low)) in
        inl (ap (λ (w : SessionState). w.stream) (some_state y x (sym l.place ∙ subst (λ q. IsAt z q x) one at)))

  by_handle : (h : Option Handle) → untaken_above_reply z name above ≡ h
      → ((number : ℕ) → passing (at_test name number) z.places ≤ k → above_test name number x ≡ true → IsListed x.stream (declines_above z name k number))
      → IsListed x.stream (next_decline z (λ number. declines_above z name k number) h)
  by_handle None f rest = absurd (true≢false (sym e ∙ none_is_left z (above_test name above) place x f at))
  by_handle (Some h) f rest = by_least h (is_least z (above_test name above) h f) rest

-- as numbers are above 0, all of them
pub lists_all : (z : Sessions) → AreInOrder z → (name : List ℕ) (place : ℕ) (x : SessionState) → IsAt z place x → x.owner ≡ 0 → bytes_eq (request_of x.view).name name ≡ true → IsListed x.stream (declines_of z name)
lists_all z o name place x at own named =
    let few = passing_few (at_test name 0) z.places in
    let long = o.long in
    let numbered = (o.numbered x (inl (place, at))).0 in
    lists_above z o name 64 0 (omega (arith, few, long)) place x at
    (above_passes name 0 x (record { up = omega (arith, numbered); owned = eq-eqb x.owner 0 own; named = named }))

-- ---- each decline is that of the session on its stream

decline_meant : (z : Sessions) → AreInOrder z → (name : List ℕ) (above : ℕ) (h : Handle) (l : IsLeast z (above_test name above) h) → IsMeant z (decline_of h l.state)
decline_meant z o name above h l = record {
  on = λ place x at e. (o.streams place h.place x y at l.place e, ap (λ (w : SessionState). w.number) (one_on z o place h.place x y at l.place e) ∙ same);
  at = λ place x at e g. here x (some_state y x (sym l.place ∙ subst (λ q. IsAt z q x) e at));
} where
  y : SessionState
  y = l.state

  same : y.number ≡ h.number
  same = (handle_state z h y l.at).1

  here : (x : SessionState) → y ≡ x → (x.stream ≡ y.stream) × (x.owner ≡ 0)
  here x e = (ap (λ (w : SessionState). w.stream) (sym e), ap (λ (w : SessionState). w.owner) (sym e) ∙ eqb-true y.owner 0 (passes_above name above y l.passes).owned)

meant_above : (z : Sessions) → AreInOrder z → (name : List ℕ) (k above : ℕ) → AreMeant z (declines_above z name k above)
unfolding declines_above
meant_above z o name zero above = tt
meant_above z o name (suc k) above = by_handle (untaken_above_reply z name above) refl (λ number. meant_above z o name k number) where
  by_handle : (h : Option Handle) → untaken_above_reply z name above ≡ h → ((number : ℕ) → AreMeant z (declines_above z name k number)) → AreMeant z (next_decline z (λ number. declines_above z name k number) h)
  by_handle None f rest = tt
  by_handle (Some h) f rest = let l = is_least z (above_test name above) h f in rw l.at (decline_meant z o name above h l, rest h.number)

pub meant_of : (z : Sessions) → AreInOrder z → (name : List ℕ) → AreMeant z (declines_of z name)
meant_of z o name = meant_above z o name 64 0

pub meant_for : (z : Sessions) → AreInOrder z → (names : List (List ℕ)) → AreMeant z (declines_for z names)
meant_for z o [] = tt
meant_for z o (name ∷ names) = meant_both z (declines_of z name) (declines_for z names) (meant_of z o name) (meant_for z o names)
