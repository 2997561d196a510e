-- What each change leaves so of a stream: a side that isn't there said nothing, and no more is delivered than was sent.
use Rattle.std.proofs.Common.{◌≡◌, refl, sym, ap, ◌∙◌, arith, ℕ, ◌+◌, ◌≤◌, true, false, List, [], ◌∷◌, ◌++◌, length, take, drop, None, Some}
use Rattle.std.proofs.lemmas.Bool.{true≢false}
use Rattle.std.proofs.lemmas.List.{length-append, length-drop, length-take}
use Rattle.std.proofs.lemmas.List.Concat.{flat_map-append}
use Rattle.std.proofs.lemmas.Option.{none-some}
use Rattle.grasp_cbor.specs.Shortest.{shortest}
use Rattle.grasp_session.specs.Messages.{Side, Near, Far}
use Rattle.grasp_types.specs.Message.{item_of}
use Rattle.grasp_types.specs.declared.address.Locator.{Locator}
use Rattle.grasp_types.specs.declared.message.Message.{Message}
use Rattle.grasp_wire.specs.Laws.{encoded}
use Rattle.grasp_model_network.specs.Streams.{StreamEnd, StreamState, Arrival, told_closed, is_waiting, fresh_stream, end_at, with_side, with_said, with_sent, with_ended, with_delivered, with_number, with_far, at_end}
use Rattle.grasp_laws_delivery.proofs.Sides.{at_end_has}
use Rattle.grasp_laws_delivery.specs.Saying.{said_by}

pub record IsSane (t : StreamState) : Type 0 where
  pub said : t.far ≡ None → said_by t Far ≡ []
  pub sent : t.far ≡ None → t.from_far.sent ≡ []
  pub came : t.far ≡ None → t.from_near.delivered ≡ 0
  pub near_within : t.from_near.delivered ≤ length (encoded t.from_near.sent)
  pub far_within : t.from_far.delivered ≤ length (encoded t.from_far.sent)
  pub waiting : is_waiting t.far_side ≡ true → t.far ≡ None

-- ---- bytes

pub encoded_append : (xs ys : List Message) → encoded (xs ++ ys) ≡ encoded xs ++ encoded ys
encoded_append xs ys = flat_map-append (λ m. shortest (item_of m)) xs ys

longer : (d : ℕ) (xs ys : List Message) → d ≤ length (encoded xs) → d ≤ length (encoded (xs ++ ys))
longer d xs ys h =
    let e = ap length (encoded_append xs ys) ∙ length-append (encoded xs) (encoded ys) in
    omega (arith, h, e)

not_past : (d count : ℕ) (bytes : List ℕ) → d ≤ length bytes → d + length (take count (drop d bytes)) ≤ length bytes
not_past d count bytes h =
    let a = length-take count (drop d bytes) in
    let b = length-drop d bytes in
    omega (arith, a, b, h)

-- ---- each change

no_far : {A : Type 0} (t : StreamState) (e : StreamEnd) → t.far ≡ Some e → t.far ≡ None → A
no_far t e at none = absurd (none-some e (sym none ∙ at))

pub said_sane : (e : StreamEnd) (m : Message) (t : StreamState) → IsSane t → IsSane (at_end e (with_said m) t)
said_sane e m t k = at_end_has IsSane e (with_said m) t (λ none. k) some where
  some : (side : Side) → end_at t side ≡ Some e → IsSane (with_said m t side)
  some Near at = record { said = k.said; sent = k.sent; came = k.came; near_within = k.near_within; far_within = k.far_within; waiting = k.waiting }
  some Far at = record { said = no_far t e at; sent = k.sent; came = k.came; near_within = k.near_within; far_within = k.far_within; waiting = k.waiting }

pub sent_sane : (e : StreamEnd) (m : Message) (t : StreamState) → IsSane t → IsSane (at_end e (with_sent m) t)
sent_sane e m t k = at_end_has IsSane e (with_sent m) t (λ none. k) some where
  some : (side : Side) → end_at t side ≡ Some e → IsSane (with_sent m t side)
  some Near at = record {
    said = k.said;
    sent = k.sent;
    came = k.came;
    near_within = longer t.from_near.delivered t.from_near.sent (m ∷ []) k.near_within;
    far_within = k.far_within;
    waiting = k.waiting;
  }
  some Far at = record {
    said = k.said;
    sent = no_far t e at;
    came = k.came;
    near_within = k.near_within;
    far_within = longer t.from_far.delivered t.from_far.sent (m ∷ []) k.far_within;
    waiting = k.waiting;
  }

pub ended_sane : (e : StreamEnd) (t : StreamState) → IsSane t → IsSane (at_end e with_ended t)
ended_sane e t k = at_end_has IsSane e with_ended t (λ none. k) some where
  some : (side : Side) → end_at t side ≡ Some e → IsSane (with_ended t side)
  some Near at = record { said = k.said; sent = k.sent; came = k.came; near_within = k.near_within; far_within = k.far_within; waiting = k.waiting }
  some Far at = record { said = k.said; sent = k.sent; came = k.came; near_within = k.near_within; far_within = k.far_within; waiting = k.waiting }

pub numbered_sane : (e : StreamEnd) (n : ℕ) (t : StreamState) → IsSane t → IsSane (at_end e (with_number n) t)
numbered_sane e n t k = at_end_has IsSane e (with_number n) t (λ none. k) some where
  some : (side : Side) → end_at t side ≡ Some e → IsSane (with_number n t side)
  some side at = record { said = k.said; sent = k.sent; came = k.came; near_within = k.near_within; far_within = k.far_within; waiting = k.waiting }

pub delivered_sane : (e : StreamEnd) (count : ℕ) (t : StreamState) → IsSane t → IsSane (at_end e (with_delivered count) t)
delivered_sane e count t k = at_end_has IsSane e (with_delivered count) t (λ none. k) some where
  some : (side : Side) → end_at t side ≡ Some e → IsSane (with_delivered count t side)
  some Near at = record {
    said = k.said;
    sent = k.sent;
    came = k.came;
    near_within = k.near_within;
    far_within = not_past t.from_far.delivered count (encoded t.from_far.sent) k.far_within;
    waiting = k.waiting;
  }
  some Far at = record {
    said = k.said;
    sent = k.sent;
    came = no_far t e at;
    near_within = not_past t.from_near.delivered count (encoded t.from_near.sent) k.near_within;
    far_within = k.far_within;
    waiting = k.waiting;
  }

pub shut_sane : (t : StreamState) (side : Side) → IsSane t → IsSane (with_side told_closed t side)
shut_sane t Near k = record { said = k.said; sent = k.sent; came = k.came; near_within = k.near_within; far_within = k.far_within; waiting = k.waiting }
shut_sane t Far k = record { said = k.said; sent = k.sent; came = k.came; near_within = k.near_within; far_within = k.far_within; waiting = λ h. absurd (true≢false (sym h)) }

pub told_sane : (e : StreamEnd) (t : StreamState) → IsSane t → IsSane (at_end e (with_side told_closed) t)
told_sane e t k = at_end_has IsSane e (with_side told_closed) t (λ none. k) (λ side at. shut_sane t side k)

pub opened_sane : (e far : StreamEnd) (a : Arrival) (t : StreamState) → is_waiting a ≡ false → IsSane t → IsSane (at_end e (with_far far a) t)
opened_sane e far a t gone k = at_end_has IsSane e (with_far far a) t (λ none. k) some where
  none : {A : Type 0} → Some far ≡ None → A
  none f = absurd (none-some far (sym f))

  some : (side : Side) → end_at t side ≡ Some e → IsSane (with_far far a t side)
  some side at = record {
    said = none;
    sent = none;
    came = none;
    near_within = k.near_within;
    far_within = k.far_within;
    waiting = λ h. absurd (true≢false (sym h ∙ gone));
  }

pub dialled_sane : (e : StreamEnd) (to : Locator) → IsSane (fresh_stream e to)
dialled_sane e to = record { said = λ none. refl; sent = λ none. refl; came = λ none. refl; near_within = omega arith; far_within = omega arith; waiting = λ h. refl }
