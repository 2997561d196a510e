-- What each change of the streams leaves of what came on an open one.
use Rattle.std.proofs.Common.{◌≡◌, ◌≢◌, refl, sym, ap, ◌∙◌, subst, arith, ℕ, ◌+◌, ◌<◌, ◌≤◌, nat_le, true, false, ◌⊎◌, inl, inr, List, [], ◌∷◌, ◌++◌, length, take, drop, Some, slice_get}
use Rattle.std.proofs.lemmas.Bool.{true≢false}
use Rattle.std.proofs.lemmas.Bool.Decides.{leb_tells}
use Rattle.std.proofs.lemmas.List.{take-append-le, take_all, length-take-le}
use Rattle.std.proofs.Math.Seq.{take-length}
use Rattle.grasp_laws_session.proofs.Follows.{other_other}
use Rattle.grasp_model_node.specs.Bytes.{Added, Adds, past_after}
use Rattle.grasp_session.specs.Messages.{Side, Near, Far, other}
use Rattle.grasp_types.specs.declared.address.Locator.{Locator}
use Rattle.grasp_types.specs.declared.message.Message.{Message}
use Rattle.grasp_wire.specs.Cutter.{Past, Waits, no_past}
use Rattle.grasp_wire.specs.Laws.{encoded}
use Rattle.grasp_model_network.specs.Streams.{StreamEnd, StreamState, Arrival, Direction, told_closed, is_waiting, fresh_stream, end_at, side_at, sent_by, next_bytes, with_direction, with_side, with_said, with_sent, with_ended, with_delivered, with_number, with_far, at_end, change_at_end}
use Rattle.grasp_laws_delivery.proofs.Fronts.{take_more}
use Rattle.grasp_laws_delivery.proofs.Said.Talks.{said_ends, said_sends, direction_ends, direction_is, direction_beside}
use Rattle.grasp_laws_delivery.proofs.Sane.{IsSane, encoded_append}
use Rattle.grasp_laws_delivery.proofs.Sides.{IsDistinct, sides_tell, one_side, at_end_has, place_kept, place_changed, closed_ends, closed_sends, closed_there}
use Rattle.grasp_laws_delivery.specs.Records.{HasCome}

-- a stream with this end, on which this came at the end's side, and is divided so
pub record IsHeard (ts : List StreamState) (e : StreamEnd) (limit : ℕ) (past : Past) : Type 0 where
  pub place : ℕ
  pub talk : StreamState
  pub side : Side
  pub stands : slice_get ts place ≡ Some talk
  pub ends : end_at talk side ≡ Some e
  pub come : HasCome talk side past
  pub waits : Waits limit past

-- the side has its end still, and the same came there
pub record StillComes (e : StreamEnd) (side : Side) (past : Past) (u : StreamState) : Type 0 where
  pub ends : end_at u side ≡ Some e
  pub come : HasCome u side past

as_it_is : (e : StreamEnd) (side : Side) (past : Past) (t : StreamState) → end_at t side ≡ Some e → HasCome t side past → StillComes e side past t
as_it_is e side past t at c = record { ends = at; come = c }

-- ---- lists

pub heard_pushed : (ts : List StreamState) (t : StreamState) (e : StreamEnd) (limit : ℕ) (past : Past) → IsHeard ts e limit past → IsHeard (ts ++ t ∷ []) e limit past
heard_pushed ts t e limit past h =
    record { place = h.place; talk = h.talk; side = h.side; stands = place_kept ts (t ∷ []) h.place h.talk h.stands; ends = h.ends; come = h.come; waits = h.waits }

pub heard_changed : (ts : List StreamState) (by : StreamEnd) (f : StreamState → Side → StreamState) (e : StreamEnd) (limit : ℕ) (past : Past)
    → ((place : ℕ) (t : StreamState) (side : Side) → slice_get ts place ≡ Some t → end_at t side ≡ Some e → HasCome t side past → StillComes e side past (at_end by f t)) → IsHeard ts e limit past
    → IsHeard (change_at_end ts by f) e limit past
heard_changed ts by f e limit past turn h = from (turn h.place h.talk h.side h.stands h.ends h.come) where
  from : StillComes e h.side past (at_end by f h.talk) → IsHeard (change_at_end ts by f) e limit past
  from c = record { place = h.place; talk = at_end by f h.talk; side = h.side; stands = place_changed ts by f h.place h.talk h.stands; ends = c.ends; come = c.come; waits = h.waits }

-- ---- what a step makes

same_come : (t u : StreamState) (side : Side) (past : Past) → sent_by u (other side) ≡ sent_by t (other side) → side_at u side ≡ side_at t side → HasCome t side past → HasCome u side past
same_come t u side past sent at c = record {
  fed = c.fed ∙ ap (λ (d : Direction). take d.delivered (encoded d.sent)) (sym sent);
  fault = c.fault;
  there = ap is_waiting at ∙ c.there;
}

said_sides : (t : StreamState) (side by : Side) (m : Message) → side_at (with_said m t by) side ≡ side_at t side
said_sides t Near by m = refl
said_sides t Far by m = refl

pub said_comes : (by e : StreamEnd) (m : Message) (t : StreamState) (side : Side) (past : Past) → end_at t side ≡ Some e → HasCome t side past → StillComes e side past (at_end by (with_said m) t)
said_comes by e m t side past at c = at_end_has (StillComes e side past) by (with_said m) t (λ none. as_it_is e side past t at c)
    (λ x x_at.
    record { ends = said_ends t side x m ∙ at; come = same_come t (with_said m t x) side past (said_sends t (other side) x m) (said_sides t side x m) c })

-- nothing came on a stream that is dialled
pub dialled_heard : (ts : List StreamState) (e : StreamEnd) (to : Locator) (limit place : ℕ) → slice_get (ts ++ fresh_stream e to ∷ []) place ≡ Some (fresh_stream e to) → Waits limit no_past
    → IsHeard (ts ++ fresh_stream e to ∷ []) e limit no_past
dialled_heard ts e to limit place stands w =
    record { place = place; talk = fresh_stream e to; side = Near; stands = stands; ends = refl; come = record { fed = refl; fault = refl; there = refl }; waits = w }

-- ---- what a drain sends

pub direction_sides : (t : StreamState) (side by : Side) (d : Direction) → side_at (with_direction t by d) side ≡ side_at t side
direction_sides t Near Near d = refl
direction_sides t Near Far d = refl
direction_sides t Far Near d = refl
direction_sides t Far Far d = refl

-- the first bytes are the same where more is sent
first_same : (d : ℕ) (ms more : List Message) → d ≤ length (encoded ms) → take d (encoded (ms ++ more)) ≡ take d (encoded ms)
first_same d ms more h = ap (take d) (encoded_append ms more) ∙ take-append-le d (encoded ms) (encoded more) h

within : (t : StreamState) (side : Side) → IsSane t → (sent_by t side).delivered ≤ length (encoded (sent_by t side).sent)
within t Near k = k.near_within
within t Far k = k.far_within

-- a direction of which as much was delivered, and whose first bytes are the same
direction_comes : (e : StreamEnd) (t : StreamState) (side by : Side) (d : Direction) (past : Past) → d.delivered ≡ (sent_by t by).delivered
    → take d.delivered (encoded d.sent) ≡ take (sent_by t by).delivered (encoded (sent_by t by).sent) → end_at t side ≡ Some e → HasCome t side past → StillComes e side past (with_direction t by d)
direction_comes e t side by d past same first at c = record {
  ends = direction_ends t side by d ∙ at;
  come = record { fed = c.fed ∙ by_side (sides_tell (other side) by); fault = c.fault; there = ap is_waiting (direction_sides t side by d) ∙ c.there };
} where
  by_side : ((other side) ≡ by) ⊎ ((other side) ≢ by)
      → take (sent_by t (other side)).delivered (encoded (sent_by t (other side)).sent)
      ≡ take (sent_by (with_direction t by d) (other side)).delivered (encoded (sent_by (with_direction t by d) (other side)).sent)
  by_side (inl is) = subst
      (λ (x : Side).
      take (sent_by t x).delivered (encoded (sent_by t x).sent) ≡ take (sent_by (with_direction t by d) x).delivered (encoded (sent_by (with_direction t by d) x).sent))
      (sym is) (sym (ap (λ (f : Direction). take f.delivered (encoded f.sent)) (direction_is t by d) ∙ first))
  by_side (inr n) = ap (λ (f : Direction). take f.delivered (encoded f.sent)) (sym (direction_beside t (other side) by d n))

pub sent_comes : (by e : StreamEnd) (m : Message) (t : StreamState) (side : Side) (past : Past) → IsSane t → end_at t side ≡ Some e → HasCome t side past → StillComes e side past (at_end by (with_sent m) t)
sent_comes by e m t side past sane at c = at_end_has (StillComes e side past) by (with_sent m) t (λ none. as_it_is e side past t at c)
    (λ x x_at.
    direction_comes e t side x (record (sent_by t x) { sent = (sent_by t x).sent ++ m ∷ [] }) past refl (first_same (sent_by t x).delivered (sent_by t x).sent (m ∷ []) (within t x sane)) at c)

pub ended_comes : (by e : StreamEnd) (t : StreamState) (side : Side) (past : Past) → end_at t side ≡ Some e → HasCome t side past → StillComes e side past (at_end by with_ended t)
ended_comes by e t side past at c = at_end_has (StillComes e side past) by with_ended t (λ none. as_it_is e side past t at c)
    (λ x x_at. direction_comes e t side x (record (sent_by t x) { ended = true }) past refl refl at c)

number_comes : (e : StreamEnd) (t : StreamState) (side : Side) (n : ℕ) (past : Past) → end_at t side ≡ Some e → HasCome t side past → StillComes e side past (record t { number = Some n })
number_comes e t Near n past at c = record { ends = at; come = record { fed = c.fed; fault = c.fault; there = c.there } }
number_comes e t Far n past at c = record { ends = at; come = record { fed = c.fed; fault = c.fault; there = c.there } }

pub numbered_comes : (by e : StreamEnd) (n : ℕ) (t : StreamState) (side : Side) (past : Past) → end_at t side ≡ Some e → HasCome t side past → StillComes e side past (at_end by (with_number n) t)
numbered_comes by e n t side past at c =
    at_end_has (StillComes e side past) by (with_number n) t (λ none. as_it_is e side past t at c) (λ x x_at. number_comes e t side n past at c)

-- ---- what comes at one end

pub others_differ : (a b : Side) → a ≢ b → other a ≢ other b
others_differ a b n e = n (sym (other_other a) ∙ (ap other e ∙ other_other b))

-- what comes at one end is nothing for another
pub delivered_elsewhere : (by e : StreamEnd) (count : ℕ) (t : StreamState) (side : Side) (past : Past) → e ≢ by → end_at t side ≡ Some e → HasCome t side past
    → StillComes e side past (at_end by (with_delivered count) t)
delivered_elsewhere by e count t side past n at c = at_end_has (StillComes e side past) by (with_delivered count) t (λ none. as_it_is e side past t at c) some where
  some : (x : Side) → end_at t x ≡ Some by → StillComes e side past (with_delivered count t x)
  some x x_at = record {
    ends = direction_ends t side (other x) more ∙ at;
    come = same_come t (with_delivered count t x) side past (direction_beside t (other side) (other x) more (others_differ side x apart)) (direction_sides t side (other x) more) c;
  } where
    more : Direction
    more = record (sent_by t (other x)) { delivered = (sent_by t (other x)).delivered + length (next_bytes t (other x) count) }

    apart : side ≢ x
    apart same = n (some_end e by (sym at ∙ (ap (end_at t) same ∙ x_at))) where
      some_end : (a b : StreamEnd) → Some a ≡ Some b → a ≡ b
      some_end a b f = cc

-- as many bytes as there are
take_counted : (n : ℕ) (xs : List ℕ) → take (length (take n xs)) xs ≡ take n xs
take_counted n xs = by_length (leb_tells n (length xs)) where
  by_length : ((nat_le n (length xs) ≡ true) × (n ≤ length xs)) ⊎ ((nat_le n (length xs) ≡ false) × (length xs < n)) → take (length (take n xs)) xs ≡ take n xs
  by_length (inl t) = ap (λ k. take k xs) (length-take-le n xs t.1)
  by_length (inr t) =
      let fewer = t.1 in
      let all : take n xs ≡ xs = take_all n xs (omega (arith, fewer)) in
      ap (λ ys. take (length ys) xs) all ∙ (take-length xs ∙ sym all)

-- a piece that comes at the end
pub delivered_comes : (e : StreamEnd) (count limit : ℕ) (t : StreamState) (side : Side) (past : Past) (a : Added) → IsDistinct t → end_at t side ≡ Some e → HasCome t side past
    → Adds limit past (next_bytes t (other side) count) a → StillComes e side (past_after past (next_bytes t (other side) count) a) (at_end e (with_delivered count) t)
delivered_comes e count limit t side past a d at c adds =
    at_end_has (StillComes e side after) e (with_delivered count) t (λ none. absurd (none side at)) (λ x x_at. subst (λ (y : Side). StillComes e side after (with_delivered count t y)) (one_side t e side x d at x_at) own) where
      after : Past
      after = past_after past (next_bytes t (other side) count) a

      more : Direction
      more = record (sent_by t (other side)) { delivered = (sent_by t (other side)).delivered + length (next_bytes t (other side) count) }

      bytes : List ℕ
      bytes = encoded (sent_by t (other side)).sent

      fed : past.fed ++ next_bytes t (other side) count ≡ take more.delivered bytes
      fed =
          ap (λ b. b ++ next_bytes t (other side) count) c.fed
          ∙ (ap (λ b. take (sent_by t (other side)).delivered bytes ++ b) (sym (take_counted count (drop (sent_by t (other side)).delivered bytes)))
          ∙ take_more (sent_by t (other side)).delivered (length (next_bytes t (other side) count)) bytes)

      own : StillComes e side after (with_delivered count t side)
      own = record {
        ends = direction_ends t side (other side) more ∙ at;
        come = record {
          fed = fed ∙ ap (λ (f : Direction). take f.delivered (encoded f.sent)) (sym (direction_is t (other side) more));
          fault = c.fault;
          there = ap is_waiting (direction_sides t side (other side) more) ∙ c.there;
        };
      }

-- ---- a cut, a restart and an opening

-- what came at a side stays so where a side is told that the stream is closed
pub closed_comes : (e : StreamEnd) (t : StreamState) (side x : Side) (past : Past) → end_at t side ≡ Some e → HasCome t side past → StillComes e side past (with_side told_closed t x)
closed_comes e t side x past at c = record {
  ends = closed_ends t x side ∙ at;
  come = record { fed = c.fed ∙ ap (λ (d : Direction). take d.delivered (encoded d.sent)) (sym (closed_sends t x (other side))); fault = c.fault; there = closed_there side t x c.there };
}

pub told_comes : (by e : StreamEnd) (t : StreamState) (side : Side) (past : Past) → end_at t side ≡ Some e → HasCome t side past → StillComes e side past (at_end by (with_side told_closed) t)
told_comes by e t side past at c =
    at_end_has (StillComes e side past) by (with_side told_closed) t (λ none. as_it_is e side past t at c) (λ x x_at. closed_comes e t side x past at c)

-- a stream that is opened now has a far side that waits
pub opened_comes : (far e : StreamEnd) (a : Arrival) (t : StreamState) (side x : Side) (past : Past) → is_waiting t.far_side ≡ true → end_at t side ≡ Some e → HasCome t side past → StillComes e side past (with_far far a t x)
opened_comes far e a t Near x past waits at c = record { ends = at; come = record { fed = c.fed; fault = c.fault; there = c.there } }
opened_comes far e a t Far x past waits at c = absurd (true≢false (sym waits ∙ c.there))
