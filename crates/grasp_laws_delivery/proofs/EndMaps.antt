-- What changes of the streams at one end do to their ends and numbers.
use Rattle.std.proofs.Common.{◌≡◌, refl, sym, ap, ◌∙◌, ℕ, cond, is_some, List, [], ◌∷◌, ◌++◌, map, Option, Some, None}
use Rattle.std.specs.List.{count_by}
use Rattle.grasp_session.specs.Messages.{Side, Near, Far}
use Rattle.grasp_types.specs.declared.message.Message.{Message}
use Rattle.grasp_model_network.specs.Streams.{StreamEnd, Arrival, StreamState, side_of_end, count_at_end, changed_by, at_end, change_at_end, with_side, with_said, with_sent, with_ended, with_delivered, with_number, with_far}
use Rattle.grasp_laws_delivery.specs.Heads.{Head, head_of, heads, has_head_end, has_number}
use Rattle.grasp_laws_delivery.specs.Ready.{count_numbered}
use Rattle.grasp_laws_delivery.proofs.Counts.{count_map}

-- ---- ends of a stream are those of its head

pub count_heads : (e : StreamEnd) (ts : List StreamState) → count_at_end ts e ≡ count_by (has_head_end e) (heads ts)
count_heads e ts = sym (count_map (has_head_end e) head_of ts)

pub count_numbers : (k : ℕ) (ts : List StreamState) → count_numbered ts k ≡ count_by (has_number k) (heads ts)
count_numbers k ts = sym (count_map (has_number k) head_of ts)

-- ---- changes by a side

-- the change leaves the stream's ends, its number and the locator that was dialled
abbrev pub KeepsHead : (StreamState → Side → StreamState) → Type 0
KeepsHead f = (t : StreamState) (side : Side) → head_of (f t side) ≡ head_of t

pub said_keeps : (m : Message) → KeepsHead (with_said m)
said_keeps m t side = refl

pub sent_keeps : (m : Message) → KeepsHead (with_sent m)
sent_keeps m t Near = refl
sent_keeps m t Far = refl

pub ended_keeps : KeepsHead with_ended
ended_keeps t Near = refl
ended_keeps t Far = refl

pub delivered_keeps : (count : ℕ) → KeepsHead (with_delivered count)
delivered_keeps count t Near = refl
delivered_keeps count t Far = refl

pub side_keeps : (a : Arrival) → KeepsHead (with_side a)
side_keeps a t Near = refl
side_keeps a t Far = refl

changed_keeps : (f : StreamState → Side → StreamState) → KeepsHead f → (t : StreamState) (o : Option Side) → head_of (changed_by f t o) ≡ head_of t
changed_keeps f keeps t None = refl
changed_keeps f keeps t (Some side) = keeps t side

pub both : (h k : Head) (hs ks : List Head) → h ≡ k → hs ≡ ks → h ∷ hs ≡ k ∷ ks
both h k hs ks e f = ap (λ x. x ∷ hs) e ∙ ap (λ xs. k ∷ xs) f

pub change_keeps : (f : StreamState → Side → StreamState) → KeepsHead f → (e : StreamEnd) (ts : List StreamState) → heads (change_at_end ts e f) ≡ heads ts
change_keeps f keeps e [] = refl
change_keeps f keeps e (t ∷ ts) =
    both (head_of (at_end e f t)) (head_of t) (heads (change_at_end ts e f)) (heads ts) (changed_keeps f keeps t (side_of_end e t)) (change_keeps f keeps e ts)

pub heads_append : (ts us : List StreamState) → heads (ts ++ us) ≡ heads ts ++ heads us
heads_append [] us = refl
heads_append (t ∷ ts) us = ap (λ xs. head_of t ∷ xs) (heads_append ts us)

-- ---- a number, and a far end

-- where the stream has this end, it gets this number
abbrev pub numbered_head : StreamEnd → ℕ → Head → Head
numbered_head e k h = cond (has_head_end e h) (record h { number = Some k }) h

-- where the stream has this end, it is opened at this one
abbrev pub opened_head : StreamEnd → StreamEnd → Head → Head
opened_head e far h = cond (has_head_end e h) (record h { far = Some far }) h

number_changed : (k : ℕ) (t : StreamState) (o : Option Side) → head_of (changed_by (with_number k) t o) ≡ cond (is_some o) (record (head_of t) { number = Some k }) (head_of t)
number_changed k t None = refl
number_changed k t (Some side) = refl

far_changed : (far : StreamEnd) (a : Arrival) (t : StreamState) (o : Option Side) → head_of (changed_by (with_far far a) t o) ≡ cond (is_some o) (record (head_of t) { far = Some far }) (head_of t)
far_changed far a t None = refl
far_changed far a t (Some side) = refl

pub change_numbers : (e : StreamEnd) (k : ℕ) (ts : List StreamState) → heads (change_at_end ts e (with_number k)) ≡ map (numbered_head e k) (heads ts)
change_numbers e k [] = refl
change_numbers e k (t ∷ ts) =
    both (head_of (at_end e (with_number k) t)) (numbered_head e k (head_of t)) (heads (change_at_end ts e (with_number k))) (map (numbered_head e k) (heads ts))
    (number_changed k t (side_of_end e t)) (change_numbers e k ts)

pub change_opens : (e far : StreamEnd) (a : Arrival) (ts : List StreamState) → heads (change_at_end ts e (with_far far a)) ≡ map (opened_head e far) (heads ts)
change_opens e far a [] = refl
change_opens e far a (t ∷ ts) =
    both (head_of (at_end e (with_far far a) t)) (opened_head e far (head_of t)) (heads (change_at_end ts e (with_far far a))) (map (opened_head e far) (heads ts))
    (far_changed far a t (side_of_end e t)) (change_opens e far a ts)
