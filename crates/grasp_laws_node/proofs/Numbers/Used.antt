-- Which numbers are in use, and how many.
use Rattle.std.proofs.Common.{◌≡◌, ℕ, suc, ◌+◌, ◌<◌, ◌≤◌, ◌%◌, ◌^◌, Bool, true, false, cond, ◌&&◌, ◌||◌, ◌==◌, List, [], ◌∷◌, ◌++◌, length, map, Option, Some, None, is_some, refl, sym, ap, ◌∙◌, arith}
use Rattle.std.specs.List.{list_any}
use Rattle.std.proofs.lemmas.Bool.{false≢true, true≢false}
use Rattle.grasp_discovery.specs.Discoveries as discovery
use Rattle.grasp_discovery.specs.declared.search.Search.{Search}
use Rattle.grasp_session.specs.Messages.{Side, Near, Far, is_side}
use Rattle.grasp_session.specs.Sessions.{SessionState, older, oldest_from}
use Rattle.grasp_session.specs.Transcript.{session_of}
use Rattle.grasp_laws_session.proofs.Runs.{calls_in_order}
use Rattle.grasp_types.specs.declared.session.Handle.{Handle}
use Rattle.grasp_model_node.proofs.Facts.{word_below}
use Rattle.grasp_model_node.specs.Draws.{is_used, next_session, next_word}
use Rattle.grasp_model_node.specs.Node.{NodeState}
use Rattle.grasp_laws_node.specs.Numbers.{requested_numbers, numbers_in_use, DrawnIsUnused}
use Rattle.grasp_laws_node.proofs.Pigeons.{has, has_either, pigeons}

either_side : (a : Side) → is_side a Near ≡ is_side Near a
either_side Near = refl
either_side Far = refl

-- one more session is looked at, where none was found, and where one was
none_more : (number session : ℕ) (numbers : List ℕ) (p : Handle) (a b : Bool) → a ≡ b → false ≡ has number numbers
    → is_some (cond ((a && (session == number)) && true) (Some p) None) ≡ has number (cond b (session ∷ numbers) numbers)
none_more number session numbers p true true q e = by_test (session == number) where
  by_test : (s : Bool) → is_some (cond (s && true) (Some p) None) ≡ s || has number numbers
  by_test true = refl
  by_test false = e
none_more number session numbers p true false q e = absurd (true≢false q)
none_more number session numbers p false true q e = absurd (false≢true q)
none_more number session numbers p false false q e = e

some_more : (number session : ℕ) (numbers : List ℕ) (p h : Handle) (a b t : Bool) → true ≡ has number numbers → is_some (cond t (Some p) (Some h)) ≡ has number (cond b (session ∷ numbers) numbers)
some_more number session numbers p h a b t e = by_either t ∙ by_near b where
  by_either : (t : Bool) → is_some (cond t (Some p) (Some h)) ≡ true
  by_either true = refl
  by_either false = refl

  by_test : (s : Bool) → true ≡ s || has number numbers
  by_test true = refl
  by_test false = e

  by_near : (b : Bool) → true ≡ has number (cond b (session ∷ numbers) numbers)
  by_near true = by_test (session == number)
  by_near false = e

more_used : (number place : ℕ) (x : SessionState) (rest : Option Handle) (numbers : List ℕ) → is_some rest ≡ has number numbers
    → is_some (older (λ (x : SessionState). x.number) (λ (x : SessionState). is_side x.view.role Near && (session_of x.view == number)) place (Some x) rest)
    ≡ has number (cond (is_side Near x.view.role) (session_of x.view ∷ numbers) numbers)
more_used number place x None numbers e = none_more number (session_of x.view) numbers _ (is_side x.view.role Near) (is_side Near x.view.role) (either_side x.view.role) e
more_used number place x (Some h) numbers e = some_more number (session_of x.view) numbers _ h true (is_side Near x.view.role) _ e

-- a look-up of the number among the sessions finds one exactly where it is in the list
sessions_used : (number place : ℕ) (places : List (Option SessionState))
    → is_some (oldest_from (λ (x : SessionState). x.number) (λ (x : SessionState). is_side x.view.role Near && (session_of x.view == number)) place places) ≡ has number (requested_numbers places)
sessions_used number place [] = refl
sessions_used number place (None ∷ places) = sessions_used number (place + 1) places
sessions_used number place (Some x ∷ places) = more_used number place x _ (requested_numbers places) (sessions_used number (place + 1) places)

searches_used : (number : ℕ) (searches : List Search) → list_any (discovery.is_numbered number) searches ≡ has number (map (λ (search : Search). search.session) searches)
searches_used number [] = refl
searches_used number (search ∷ searches) = ap (λ b. (search.session == number) || b) (searches_used number searches)

pub used_is : (n : NodeState) (number : ℕ) → is_used n number ≡ has number (numbers_in_use n)
used_is n number =
    ap (λ b. b || discovery.is_used n.discoveries number) (sessions_used number 0 n.sessions.places)
    ∙ (ap (λ b. has number (requested_numbers n.sessions.places) || b) (searches_used number n.discoveries.searches)
    ∙ sym (has_either number (requested_numbers n.sessions.places) (map (λ (search : Search). search.session) n.discoveries.searches)))

length_either : (xs ys : List ℕ) → length (xs ++ ys) ≡ length xs + length ys
length_either [] ys = omega arith
length_either (x ∷ xs) ys = let e = length_either xs ys in omega (arith, e)

length_map : (searches : List Search) → length (map (λ (search : Search). search.session) searches) ≡ length searches
length_map [] = refl
length_map (search ∷ searches) = ap suc (length_map searches)

requested_few : (places : List (Option SessionState)) → length (requested_numbers places) ≤ length places
requested_few [] = omega arith
requested_few (None ∷ places) = let e = requested_few places in omega (arith, e)
requested_few (Some x ∷ places) = by_role (is_side Near x.view.role) (requested_few places) where
  by_role : (b : Bool) → length (requested_numbers places) ≤ length places → length (cond b (session_of x.view ∷ requested_numbers places) (requested_numbers places)) ≤ suc (length places)
  by_role true e = omega (arith, e)
  by_role false e = omega (arith, e)

-- what is drawn isn't used where at most 128 numbers are
pub few_unused : (n : NodeState) → length (numbers_in_use n) ≤ 128 → (is_used n (next_session n) ≡ false) × (next_session n < 2 ^ 32)
few_unused n few =
    pigeons (is_used n) 128 (numbers_in_use n) (next_word n) (word_below n) (omega arith) few
    (λ j h u. sym (used_is n ((next_word n + j) % 2 ^ 32)) ∙ u)

pub in_use_few : (n : NodeState) → length n.sessions.places ≤ 64 → length n.discoveries.searches ≤ 64 → length (numbers_in_use n) ≤ 128
in_use_few n a b =
    let e = length_either (requested_numbers n.sessions.places) (map (λ (search : Search). search.session) n.discoveries.searches) in
    let f = length_map n.discoveries.searches in
    let g = requested_few n.sessions.places in
    omega (arith, a, b, e, f, g)

pub drawn_unused : DrawnIsUnused
drawn_unused n i =
    let long = (calls_in_order n.sessions i.sessions).long in
    few_unused n (in_use_few n (omega (arith, long)) i.discoveries.few_searches)
