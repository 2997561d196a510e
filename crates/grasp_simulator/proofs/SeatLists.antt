-- Seats of the code and of a network, place by place.
use Rattle.std.proofs.Common.{◌≡◌, ◌+◌, ◌-◌, ◌≤◌, ℕ, zero, suc, refl, sym, ap, ◌∙◌, subst, arith, ◌==◌, false, add-one, List, [], ◌∷◌, ◌++◌, Some, length, map, option_map, slice_get}
use Rattle.std.proofs.lemmas.List.{map-append}
use Rattle.std.proofs.lemmas.Option.{slice_get-map}
use Rattle.grasp_cbor.proofs.Facts.Lists.{length_map}
use Rattle.grasp_model_network.specs.Openings.{first_seat}
use Rattle.grasp_simulator.specs.Seats.{SeatStands, FirstStands, AreFirstFrom, AreFirst}
use Rattle.grasp_model_network.specs.Setting.{numbered, numbers_from, script_locator, script_member, script_setting}
use Rattle.grasp_laws_network.proofs.GoodPlans.{not_zero as is_positive, count_numbers, number_at}
use Rattle.grasp_model_network.specs.World.{Seat}
use Rattle.grasp_model_network.specs.declared.plan.WorldPlan.{WorldPlan}
use Rattle.grasp_simulator.specs.declared.seat.Seat.{Seat as SeatCode}

-- one more, at the end
pub seats_push : (n : ℕ) (codes : List SeatCode) (seats : List Seat) (code : SeatCode) (s : Seat) → AreFirstFrom n codes seats → FirstStands (n + length codes) code s → AreFirstFrom n (codes ++ code ∷ []) (seats ++ s ∷ [])
seats_push n [] [] code s h one = (subst (λ (k : ℕ). FirstStands k code s) (omega arith) one, tt)
seats_push n [] (b ∷ bs) code s h one = absurd h
seats_push n (a ∷ l) [] code s h one = absurd h
seats_push n (a ∷ l) (b ∷ bs) code s h one = let e : n + suc (length l) ≡ (n + 1) + length l = omega arith in (h.0, seats_push (n + 1) l bs code s h.1 (subst (λ (k : ℕ). FirstStands k code s) e one))

-- as many of the code as of the network
pub seats_length : (n : ℕ) (codes : List SeatCode) (seats : List Seat) → AreFirstFrom n codes seats → length codes ≡ length seats
seats_length n [] [] h = refl
seats_length n [] (b ∷ bs) h = absurd h
seats_length n (a ∷ l) [] h = absurd h
seats_length n (a ∷ l) (b ∷ bs) h = ap suc (seats_length (n + 1) l bs h.1)

-- the one at a place
pub record StandsAt (n : ℕ) (code : SeatCode) (seats : List Seat) (i : ℕ) : Type 0 where
  pub seat : Seat
  pub got : slice_get seats i ≡ Some seat
  pub stands : FirstStands (n + i) code seat

pub seats_at : (n : ℕ) (codes : List SeatCode) (seats : List Seat) → AreFirstFrom n codes seats → (i : ℕ) (code : SeatCode) → slice_get codes i ≡ Some code → StandsAt n code seats i
seats_at n [] seats h i code got = absurd (cc)
seats_at n (a ∷ l) [] h i code got = absurd h
seats_at n (a ∷ l) (b ∷ bs) h zero code got =
    let same : a ≡ code = cc in
    let e : n ≡ n + 0 = omega arith in
    record { seat = b; got = refl; stands = subst (λ (k : ℕ). FirstStands k code b) e (subst (λ (c : SeatCode). FirstStands n c b) same h.0) }
seats_at n (a ∷ l) (b ∷ bs) h (suc i) code got =
    let below : StandsAt (n + 1) code bs i = seats_at (n + 1) l bs h.1 i code got in
    let e : (n + 1) + i ≡ n + suc i = omega arith in
    record { seat = below.seat; got = below.got; stands = subst (λ (k : ℕ). FirstStands k code below.seat) e below.stands }

-- ---- numbers

-- of the numbers from 1 on each stands at its own place
pub number_of : (n k : ℕ) → 1 ≤ k → k ≤ n → numbered (numbers_from 1 n) k ≡ Some k
number_of n k least most =
    let not_zero : (k == 0) ≡ false = is_positive k least in
    let same : 1 + (k - 1) ≡ k = omega arith in
    rw not_zero (number_at 1 n (k - 1) (omega arith) ∙ ap Some same)

-- what is made of each number from 1 on, by its number
pub numbered_from_1 : {A : Type 0} (f : ℕ → A) (n k : ℕ) → 1 ≤ k → k ≤ n → numbered (map f (numbers_from 1 n)) k ≡ Some (f k)
numbered_from_1 f n k least most =
    let not_zero : (k == 0) ≡ false = is_positive k least in
    let same : 1 + (k - 1) ≡ k = omega arith in
    rw not_zero (slice_get-map f (numbers_from 1 n) (k - 1) ∙ ap (option_map f) (number_at 1 n (k - 1) (omega arith) ∙ ap Some same))

-- one number more
pub numbers_more : (n k : ℕ) → numbers_from n (suc k) ≡ numbers_from n k ++ (n + k) ∷ []
unfolding numbers_from
numbers_more n zero = ap (λ (m : ℕ). m ∷ []) (omega arith)
numbers_more n (suc k) =
    let e : (n + 1) + k ≡ n + suc k = omega arith in
    ap (λ (ns : List ℕ). n ∷ ns) (numbers_more (n + 1) k ∙ ap (λ (m : ℕ). numbers_from (n + 1) k ++ m ∷ []) e)

-- a script has as many peers as nodes
pub peers_count : (p : WorldPlan) → length (script_setting p).peers ≡ p.nodes
unfolding script_setting
peers_count p = length_map script_locator (numbers_from 1 p.nodes) ∙ count_numbers 1 p.nodes

-- the first seats of so many nodes
abbrev pub first_seats : WorldPlan → ℕ → List Seat
first_seats p n = map first_seat (map (script_member p) (numbers_from 1 n))

first_more : (p : WorldPlan) (n : ℕ) → first_seats p (n + 1) ≡ first_seats p n ++ first_seat (script_member p (n + 1)) ∷ []
first_more p n =
    let ns : List ℕ = numbers_from 1 n in
    let e : 1 + n ≡ n + 1 = omega arith in
    ap (λ (m : ℕ). first_seats p m) (add-one n)
    ∙ ap (λ (l : List ℕ). map first_seat (map (script_member p) l)) (numbers_more 1 n ∙ ap (λ (m : ℕ). ns ++ m ∷ []) e)
    ∙ ap (map first_seat) (map-append (script_member p) ns ((n + 1) ∷ []))
    ∙ map-append first_seat (map (script_member p) ns) (script_member p (n + 1) ∷ [])

pub seats_more : (p : WorldPlan) (n : ℕ) (codes : List SeatCode) (code : SeatCode) → AreFirst codes (first_seats p n) → code.life ≡ n + 1 → SeatStands code (first_seat (script_member p (n + 1)))
    → AreFirst (codes ++ code ∷ []) (first_seats p (n + 1))
seats_more p n codes code h life one =
    let count : length codes ≡ n = seats_length 1 codes (first_seats p n) h ∙ (length_map first_seat (map (script_member p) (numbers_from 1 n)) ∙ (length_map (script_member p) (numbers_from 1 n) ∙ count_numbers 1 n)) in
    subst (AreFirst (codes ++ code ∷ [])) (sym (first_more p n))
    (seats_push 1 codes (first_seats p n) code (first_seat (script_member p (n + 1))) h (record { life = life ∙ omega (arith, count); stands = one }))
