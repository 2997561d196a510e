-- The code's table of streams after a node has begun anew.
use Rattle.std.proofs.Common.{◌≡◌, refl, sym, ap, ◌∙◌, subst, arith, ℕ, ◌+◌, ◌-◌, ◌%◌, ◌==◌, ◌&&◌, ◌||◌, Bool, true, false, cond, List, [], ◌∷◌, map, Option, Some, None, option_map, slice_get}
use Rattle.std.specs.List.{count_by}
use Rattle.std.proofs.lemmas.List.Sums.{sum_by-cons}
use Rattle.std.proofs.lemmas.Option.{slice_get-map}
use Rattle.grasp_cbor.proofs.Facts.Lists.{length_map}
use Rattle.grasp_laws_delivery.specs.Ready.{Every}
use Rattle.grasp_model_network.specs.Restarting.{is_of_life, waits_for, told_if, told_at}
use Rattle.grasp_model_network.specs.Setting.{Setting, member_at}
use Rattle.grasp_model_network.specs.Streams.{Arrival, Direction, StreamEnd, StreamState, is_number, is_waiting, told_closed, with_side}
use Rattle.grasp_session.specs.Messages.{Side, Near, Far}
use Rattle.grasp_types.specs.declared.address.Locator.{Locator}
use Rattle.grasp_simulator.specs.Listening.{listener_from}
use Rattle.grasp_simulator.specs.StreamParts.{closed_if, ended_at, goes_to, is_unopened}
use Rattle.grasp_simulator.specs.StreamsStand.{Queueing, HasSides, SentStands, StreamStands, IsQueued, HeldAs, TalkStands, IsNearOf, TableStands, arrival_of, dial_at, far_end, numbers}
use Rattle.grasp_simulator.specs.declared.stream.LifeEnd.{LifeEnd}
use Rattle.grasp_simulator.specs.declared.stream.Standing.{Standing}
use Rattle.grasp_simulator.specs.declared.stream.Standing.TheVariants as standing
use Rattle.grasp_simulator.specs.declared.stream.Stream.{Stream}

-- ---- what stays

keeps_if : {A : Type 0} (f : StreamState → A) → ((t : StreamState) (side : Side) → f (with_side told_closed t side) ≡ f t) → (b : Bool) (side : Side) (t : StreamState) → f (told_if b side t) ≡ f t
keeps_if f keeps true side t = keeps t side
keeps_if f keeps false side t = refl

near_if : (b : Bool) (t : StreamState) → (told_if b Near t).near_side ≡ cond b told_closed t.near_side
near_if true t = refl
near_if false t = refl

far_if : (b : Bool) (t : StreamState) → (told_if b Far t).far_side ≡ cond b told_closed t.far_side
far_if true t = refl
far_if false t = refl

near_of_far : (b : Bool) (t : StreamState) → (told_if b Far t).near_side ≡ t.near_side
near_of_far true t = refl
near_of_far false t = refl

far_of_near : (b : Bool) (t : StreamState) → (told_if b Near t).far_side ≡ t.far_side
far_of_near true t = refl
far_of_near false t = refl

same_near : (t : StreamState) (side : Side) → (with_side told_closed t side).near ≡ t.near
same_near t Near = refl
same_near t Far = refl

same_to : (t : StreamState) (side : Side) → (with_side told_closed t side).to ≡ t.to
same_to t Near = refl
same_to t Far = refl

same_number : (t : StreamState) (side : Side) → (with_side told_closed t side).number ≡ t.number
same_number t Near = refl
same_number t Far = refl

same_far : (t : StreamState) (side : Side) → (with_side told_closed t side).far ≡ t.far
same_far t Near = refl
same_far t Far = refl

same_from_near : (t : StreamState) (side : Side) → (with_side told_closed t side).from_near ≡ t.from_near
same_from_near t Near = refl
same_from_near t Far = refl

same_from_far : (t : StreamState) (side : Side) → (with_side told_closed t side).from_far ≡ t.from_far
same_from_far t Near = refl
same_from_far t Far = refl

-- ---- one stream

closed_is : (b : Bool) (a : Standing) (x : Arrival) → arrival_of a ≡ x → arrival_of (closed_if b a) ≡ cond b told_closed x
closed_is true a x is = refl
closed_is false a x is = is

unopened_is : (a : Standing) → is_unopened a ≡ is_waiting (arrival_of a)
unopened_is standing.NotYet = refl
unopened_is standing.Lives = refl
unopened_is standing.TurnedAway = refl
unopened_is standing.ToldClosed = refl

life_far : (life k : ℕ) (o : Option ℕ) → is_number life o ≡ is_of_life life (far_end o k)
life_far life k None = refl
life_far life k (Some l) = refl

module _ (s : Setting) (life node nodes : ℕ) (listens : (to : Locator) → listener_from 1 nodes to ≡ member_at s to) where
  abbrev pub told : StreamState → StreamState
  told = told_at s node life

  abbrev pub ended : Stream → Stream
  ended = ended_at life node nodes

  abbrev near_is : StreamState → Bool
  near_is t = t.near.node == life

  abbrev far_is : StreamState → Bool
  far_is t = is_of_life life t.far || waits_for s node t

  -- what a turn that tells the sides keeps
  stays : {A : Type 0} (f : StreamState → A) → ((t : StreamState) (side : Side) → f (with_side told_closed t side) ≡ f t) → (t : StreamState) → f (told t) ≡ f t
  stays f keeps t = keeps_if f keeps (far_is t) Far (told_if (near_is t) Near t) ∙ keeps_if f keeps (near_is t) Near t

  pub told_near : (t : StreamState) → (told t).near ≡ t.near
  told_near t = stays (λ (x : StreamState). x.near) same_near t

  pub told_number : (t : StreamState) → (told t).number ≡ t.number
  told_number t = stays (λ (x : StreamState). x.number) same_number t

  told_to : (t : StreamState) → (told t).to ≡ t.to
  told_to t = stays (λ (x : StreamState). x.to) same_to t

  told_far : (t : StreamState) → (told t).far ≡ t.far
  told_far t = stays (λ (x : StreamState). x.far) same_far t

  told_from_near : (t : StreamState) → (told t).from_near ≡ t.from_near
  told_from_near t = stays (λ (x : StreamState). x.from_near) same_from_near t

  told_from_far : (t : StreamState) → (told t).from_far ≡ t.from_far
  told_from_far t = stays (λ (x : StreamState). x.from_far) same_from_far t

  pub told_near_side : (t : StreamState) → (told t).near_side ≡ cond (near_is t) told_closed t.near_side
  told_near_side t = near_of_far (far_is t) (told_if (near_is t) Near t) ∙ near_if (near_is t) t

  pub told_far_side : (t : StreamState) → (told t).far_side ≡ cond (far_is t) told_closed t.far_side
  told_far_side t = far_if (far_is t) (told_if (near_is t) Near t) ∙ ap (λ (a : Arrival). cond (far_is t) told_closed a) (far_of_near (near_is t) t)

  far_told : (code : Stream) (k : ℕ) (t : StreamState) → StreamStands code k t → (is_number life code.far || goes_to node nodes code) ≡ far_is t
  far_told code k t h =
      let of_life : is_number life code.far ≡ is_of_life life t.far = life_far life k code.far ∙ ap (is_of_life life) (sym h.far) in
      let waits : is_unopened code.far_side ≡ is_waiting t.far_side = unopened_is code.far_side ∙ ap is_waiting h.far_side in
      let there : is_number node (listener_from 1 nodes code.to) ≡ is_number node (member_at s t.to) = ap (is_number node) (listens code.to ∙ ap (member_at s) h.to) in
      ap (λ b. b || (is_unopened code.far_side && is_number node (listener_from 1 nodes code.to))) of_life
      ∙ (ap (λ b. is_of_life life t.far || (b && is_number node (listener_from 1 nodes code.to))) waits ∙ ap (λ b. is_of_life life t.far || (is_waiting t.far_side && b)) there)

  held_told : (code : Stream) (k : ℕ) (t : StreamState) → StreamStands code k t → StreamStands (ended code) k (told t)
  held_told code k t h = record {
    near = told_near t ∙ h.near;
    even = ap (λ (e : StreamEnd). e.number % 2) (told_near t) ∙ h.even;
    to = h.to ∙ sym (told_to t);
    far = told_far t ∙ h.far;
    near_side =
        closed_is (code.near == life) code.near_side t.near_side h.near_side
        ∙ (ap (λ (e : StreamEnd). cond (e.node == life) told_closed t.near_side) (sym h.near) ∙ sym (told_near_side t));
    far_side =
        closed_is (is_number life code.far || goes_to node nodes code) code.far_side t.far_side h.far_side
        ∙ (ap (λ b. cond b told_closed t.far_side) (far_told code k t h) ∙ sym (told_far_side t));
    from_near = subst (SentStands code.from_near) (sym (told_from_near t)) h.from_near;
    from_far = subst (SentStands code.from_far) (sym (told_from_far t)) h.from_far;
  }

  held_as : (k : ℕ) (t : StreamState) (o : Option Stream) → HeldAs o k t → HeldAs (option_map ended o) k (told t)
  held_as k t None h = h
  held_as k t (Some code) h = held_told code k t h

  near_as : (e : StreamEnd) (o : Option Stream) → IsNearOf e o → IsNearOf e (option_map ended o)
  near_as e None h = h
  near_as e (Some code) h = h

  -- ---- the table

  module _ (streams : List Stream) (index : List (LifeEnd × ℕ)) (before after : Queueing) where
    -- the sides of a stream whose dial is queued are as it begins then
    abbrev pub SidesThen : StreamState → Type 0
    SidesThen t = IsQueued index before t → HasSides (after t.near t.to) (told t).near_side (told t).far_side

    queued_told : (t : StreamState) → SidesThen t → IsQueued index before t → IsQueued index after (told t)
    queued_told t sides h = record {
      unknown = ap (dial_at index) (told_near t) ∙ h.unknown;
      even = ap (λ (e : StreamEnd). e.number % 2) (told_near t) ∙ h.even;
      sides = subst (λ (e : StreamEnd). HasSides (after e (told t).to) (told t).near_side (told t).far_side) (sym (told_near t))
          (subst (λ (to : Locator). HasSides (after t.near to) (told t).near_side (told t).far_side) (sym (told_to t)) (sides h));
      far = told_far t ∙ h.far;
      near_sent = ap (λ (d : Direction). d.sent) (told_from_near t) ∙ h.near_sent;
      near_delivered = ap (λ (d : Direction). d.delivered) (told_from_near t) ∙ h.near_delivered;
      far_sent = ap (λ (d : Direction). d.sent) (told_from_far t) ∙ h.far_sent;
      far_delivered = ap (λ (d : Direction). d.delivered) (told_from_far t) ∙ h.far_delivered;
    }

    talk_told : (t : StreamState) (o : Option ℕ) → SidesThen t → TalkStands streams index before t o → TalkStands (map ended streams) index after (told t) o
    talk_told t None sides h = queued_told t sides h
    talk_told t (Some k) sides h = record {
      least = h.least;
      known = ap (dial_at index) (told_near t) ∙ h.known;
      held = subst (λ (o : Option Stream). HeldAs o k (told t)) (sym (slice_get-map ended streams (k - 1))) (held_as k t (slice_get streams (k - 1)) h.held);
    }

    each_told : (ts : List StreamState) → Every SidesThen ts → Every (λ t. TalkStands streams index before t t.number) ts → Every (λ t. TalkStands (map ended streams) index after t t.number) (map told ts)
    each_told [] sides h = tt
    each_told (t ∷ ts) sides h =
        (subst (TalkStands (map ended streams) index after (told t)) (sym (told_number t)) (talk_told t t.number sides.0 h.0), each_told ts sides.1 h.1)

    count_told : (k : ℕ) (ts : List StreamState) → count_by (numbers k) (map told ts) ≡ count_by (numbers k) ts
    count_told k [] = refl
    count_told k (t ∷ ts) =
        let one : StreamState → ℕ = λ x. cond (numbers k x) 1 0 in
        let first : one (told t) ≡ one t = ap (λ (o : Option ℕ). cond (is_number k o) 1 0) (told_number t) in
        let rest : count_by (numbers k) (map told ts) ≡ count_by (numbers k) ts = count_told k ts in
        let now : count_by (numbers k) (told t ∷ map told ts) ≡ one (told t) + count_by (numbers k) (map told ts) = sum_by-cons one (told t) (map told ts) in
        let old : count_by (numbers k) (t ∷ ts) ≡ one t + count_by (numbers k) ts = sum_by-cons one t ts in
        omega (arith, first, rest, now, old)

    pub table_told : (ts : List StreamState) (dials : ℕ) → Every SidesThen ts → TableStands streams index before ts dials → TableStands (map ended streams) index after (map told ts) dials
    table_told ts dials sides h = record {
      dialled = h.dialled ∙ sym (length_map ended streams);
      each = each_told ts sides h.each;
      once = λ k least most. count_told k ts ∙ h.once k least most;
      few = h.few;
      found = λ e k is.
          let f = h.found e k is in
          (f.0, f.1, subst (IsNearOf e) (sym (slice_get-map ended streams (k - 1))) (near_as e (slice_get streams (k - 1)) f.2));
    }
