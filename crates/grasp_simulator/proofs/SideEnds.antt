-- The side of a stream that an event reaches, in the code and in the network.
use Rattle.std.proofs.Common.{◌≡◌, ◌≤◌, refl, sym, ap, ◌∙◌, subst, arith, ℕ, ◌+◌, ◌-◌, ◌*◌, ◌^◌, Bool, true, false, cond, List, [], ◌∷◌, length, Option, Some, None, is_some}
use Rattle.std.proofs.lemmas.List.Sums.{sum_by-cons}
use Rattle.grasp_session.specs.Messages.{Near, Far, other}
use Rattle.grasp_laws_network.proofs.Here.{numbered_within}
use Rattle.grasp_model_network.specs.StreamChanges.{Reached, reached_at, reached_in, side_named}
use Rattle.grasp_model_network.specs.World.{end_of}
use Rattle.grasp_model_network.specs.Plans.{IsNode}
use Rattle.grasp_model_network.specs.Setting.{numbered}
use Rattle.grasp_model_network.specs.Streams.{StreamEnd, StreamState, is_reached, is_same_end, is_at_end, is_number, has_end, end_at, side_at, next_bytes, count_at_end, stream_numbered}
use Rattle.grasp_laws_delivery.proofs.Ends.{end_itself}
use Rattle.grasp_laws_delivery.specs.Ready.{IsSent, AreSent}
use Rattle.grasp_simulator.specs.StreamParts.{is_living, far_number, far_side_at, side_end, side_of, piece_at}
use Rattle.grasp_simulator.specs.StreamsStand.{Queueing, arrival_of, far_end, StreamStands, numbers, TableStands, IsTalk}
use Rattle.grasp_simulator.specs.declared.stream.LifeEnd.{LifeEnd}
use Rattle.grasp_simulator.specs.declared.stream.Standing.{Standing}
use Rattle.grasp_simulator.specs.declared.stream.Standing.TheVariants as standing
use Rattle.grasp_simulator.specs.declared.stream.Stream.{Stream}
use Rattle.grasp_simulator.specs.declared.stream.LifeEnd.{LifeEnd}
use Rattle.grasp_simulator.proofs.StreamMakes.{found_counts}
use Rattle.grasp_simulator.proofs.StreamMoves.{piece_is}
use Rattle.grasp_simulator.proofs.StreamPlaces.{true_false}
use Rattle.grasp_simulator.proofs.StreamTalks.{talk_at}

-- the side that is reached has this end, and what comes to it next are these pieces
pub record IsEnd (co : Option Stream) (far : Bool) (e : LifeEnd) (x : Reached) : Type 0 where
  pub at : x.at ≡ end_of e.life e.number
  pub has : has_end x.at x.talk ≡ true
  pub pieces : (count : ℕ) → piece_at co far count ≡ next_bytes x.talk (other (side_named far)) count

abbrev pub IsSide : Option Stream → Bool → Option LifeEnd → Option Reached → Type 0
IsSide co far None None = Unit {0}
IsSide co far None (Some x) = ⊥
IsSide co far (Some e) None = ⊥
IsSide co far (Some e) (Some x) = IsEnd co far e x

living : (x : Standing) → is_reached (arrival_of x) ≡ is_living x
living standing.NotYet = refl
living _ = refl

near_has : (t : StreamState) → has_end t.near t ≡ true
near_has t = ap (λ b. is_some (cond b (Some Near) (cond (is_at_end t.near t.far) (Some Far) None))) (end_itself t.near)

far_has : (t : StreamState) (e : StreamEnd) → t.far ≡ Some e → has_end e t ≡ true
far_has t e is = by_near (is_same_end e t.near) where
  at : is_at_end e t.far ≡ true
  at = ap (is_at_end e) is ∙ end_itself e

  by_near : (b : Bool) → is_some (cond b (Some Near) (cond (is_at_end e t.far) (Some Far) None)) ≡ true
  by_near true = refl
  by_near false = ap (λ b. is_some (cond b (Some Far) None)) at

pub number_is : (k : ℕ) → 1 ≤ k → k ≤ 2 ^ 62 → far_number k ≡ 2 * k - 1
number_is k least most = omega (arith, least, most)

module _ (code : Stream) (k : ℕ) (t : StreamState) (s : StreamStands code k t) (least : 1 ≤ k) (most : k ≤ 2 ^ 62) where
  near_by : (b : Bool) → IsSide (Some code) false (cond b (Some (record { life = code.near; number = code.number })) None) (reached_at t b (Some t.near))
  near_by true = record { at = s.near; has = near_has t; pieces = λ count. piece_is code.from_far t.from_far count s.from_far }
  near_by false = tt

  far_some : (o : Option ℕ) → t.far ≡ far_end o k → IsSide (Some code) true (far_side_at o k) (reached_at t true (far_end o k))
  far_some None is = tt
  far_some (Some node) is = record {
    at = ap (end_of node) (sym (number_is k least most));
    has = far_has t (end_of node (2 * k - 1)) is;
    pieces = λ count. piece_is code.from_near t.from_near count s.from_near;
  }

  far_by : (b : Bool) → IsSide (Some code) true (cond b (far_side_at code.far k) None) (reached_at t b t.far)
  far_by true = subst (λ o. IsSide (Some code) true (far_side_at code.far k) (reached_at t true o)) (sym s.far) (far_some code.far s.far)
  far_by false = tt

  pub end_is_side : (far : Bool) → IsSide (Some code) far (side_end code k far) (reached_at t (is_reached (side_at t (side_named far))) (end_at t (side_named far)))
  end_is_side true = subst (λ b. IsSide (Some code) true (side_end code k true) (reached_at t b t.far)) (sym (living code.far_side) ∙ ap is_reached s.far_side) (far_by (is_living code.far_side))
  end_is_side false = subst (λ b. IsSide (Some code) false (side_end code k false) (reached_at t b (Some t.near))) (sym (living code.near_side) ∙ ap is_reached s.near_side) (near_by (is_living code.near_side))

module _ (streams : List Stream) (index : List (LifeEnd × ℕ)) (begins : Queueing) (ts : List StreamState) (dials : ℕ) (s : TableStands streams index begins ts dials) where
  within : (k : ℕ) (code : Stream) → numbered streams k ≡ Some code → (1 ≤ k) × (k ≤ 2 ^ 62)
  within k code is =
      let h : IsNode (length streams) k = numbered_within streams k code is in
      let least : 1 ≤ k = h.least in
      let most : k ≤ length streams = h.most in
      let count : dials ≡ length streams = s.dialled in
      let few : dials ≤ 2 ^ 62 = s.few in
      (least, omega (arith, most, count, few))

  side_by : (k : ℕ) (far : Bool) (co : Option Stream) (to : Option StreamState) → numbered streams k ≡ co → IsTalk k co to → IsSide co far (side_of co k far) (reached_in (side_named far) to)
  side_by k far None None is talk = tt
  side_by k far None (Some t) is talk = absurd talk
  side_by k far (Some code) None is talk = absurd talk
  side_by k far (Some code) (Some t) is talk = let w = within k code is in end_is_side code k t talk w.0 w.1 far

  -- the side that an event reaches is the one that the code finds
  pub side_is : (k : ℕ) (far : Bool) → IsSide (numbered streams k) far (side_of (numbered streams k) k far) (reached_in (side_named far) (stream_numbered ts k))
  side_is k far = side_by k far (numbered streams k) (stream_numbered ts k) refl (talk_at streams index begins ts dials s k)

-- ---- one stream has the end

none_sent : (e : StreamEnd) (ts : List StreamState) → count_at_end ts e ≡ 0 → AreSent ts e
none_sent e [] none = tt
none_sent e (t ∷ ts) none = by_has (has_end e t) refl (none_sent e ts) where
  one : StreamState → ℕ
  one x = cond (has_end e x) 1 0

  all : count_at_end (t ∷ ts) e ≡ one t + count_at_end ts e
  all = sum_by-cons one t ts

  by_has : (b : Bool) → has_end e t ≡ b → (count_at_end ts e ≡ 0 → AreSent ts e) → AreSent (t ∷ ts) e
  by_has true is below = absurd (let first : one t ≡ 1 = ap (λ b. cond b 1 0) is in omega (arith, none, all, first))
  by_has false is below =
      let first : one t ≡ 0 = ap (λ b. cond b 1 0) is in
      (λ has. absurd (true_false (has_end e t) has is), below (omega (arith, none, all, first)))

-- where one stream at most has the end, and the one of this number has it, each that has it was dialled
pub alone_sent : (e : StreamEnd) (k : ℕ) (ts : List StreamState) (t : StreamState) → count_at_end ts e ≤ 1 → stream_numbered ts k ≡ Some t → has_end e t ≡ true → AreSent ts e
alone_sent e k [] t few found has = tt
alone_sent e k (x ∷ xs) t few found has = by_number (is_number k x.number) refl found (alone_sent e k xs t) where
  one : StreamState → ℕ
  one y = cond (has_end e y) 1 0

  all : count_at_end (x ∷ xs) e ≡ one x + count_at_end xs e
  all = sum_by-cons one x xs

  sent_is : (n : Option ℕ) → is_number k n ≡ true → IsSent n
  sent_is None h = absurd (cc)
  sent_is (Some j) h = tt

  by_number : (b : Bool) → is_number k x.number ≡ b → cond b (Some x) (stream_numbered xs k) ≡ Some t → (count_at_end xs e ≤ 1 → stream_numbered xs k ≡ Some t → has_end e t ≡ true → AreSent xs e) → AreSent (x ∷ xs) e
  by_number true is got below =
      let same : x ≡ t = cc in
      let first : one x ≡ 1 = ap (λ b. cond b 1 0) (ap (has_end e) same ∙ has) in
      (λ h. sent_is x.number is, none_sent e xs (omega (arith, few, all, first)))
  by_number false is got below =
      let some : 1 ≤ count_at_end xs e = found_counts (numbers k) (has_end e) xs t got has in
      let first : one x ≡ 0 = omega (arith, few, all, some) in
      (λ h. absurd (let is_one : one x ≡ 1 = ap (λ b. cond b 1 0) h in omega (arith, is_one, first)), below (omega (arith, few, all)) got has)
