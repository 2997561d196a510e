-- What a restart and a settling do, by what they are as records.
use Rattle.std.proofs.Common.{◌≡◌, ◌≢◌, ◌⊎◌, ◌↔◌, inl, inr, refl, sym, ap, ◌∙◌, subst, arith, ℕ, ◌+◌, ◌≤◌, ◌||◌, Bool, true, false, length, slice_get, Contains, Option, Some, None}
use Rattle.std.proofs.lemmas.Bool.{and_parts, eqb-true, cases_eq, false≢true}
use Rattle.std.proofs.lemmas.List.{length-map}
use Rattle.std.proofs.lemmas.Option.{same_Some}
use Rattle.grasp_agent.specs.Reopening.{retired}
use Rattle.grasp_agent.specs.Replies.{after_settling}
use Rattle.grasp_pool.specs.Holdings.{IsListed}
use Rattle.grasp_pool.specs.declared.image.PoolImage.{PoolImage}
use Rattle.grasp_session.specs.Messages.{Side, Near, Far}
use Rattle.grasp_types.specs.Prefix.{AddressBlock as Prefix}
use Rattle.grasp_laws_network.proofs.LivesKept.{lives_are_kept, restart_present}
use Rattle.grasp_laws_network.proofs.Restarted.{Restarting, restarting_is, begun_seat, retired_seat, IsToldAt, is_told, own_told, waiting_told, waited, told_or_kept}
use Rattle.grasp_laws_network.proofs.Settled.{Settling, settling_is}
use Rattle.grasp_laws_network.specs.Lives.{LivesStand}
use Rattle.grasp_laws_network.specs.TurnsDo.{HasEndIn, WaitsForMember, StreamAfter, RestartDoes, RestartsBeginAnew, SettlingDoes, SettlingsFree}
use Rattle.grasp_model_network.proofs.Facts.{number_is}
use Rattle.grasp_model_network.specs.Plans.{IsNode}
use Rattle.grasp_model_network.specs.Restarting.{is_of_life, waits_for, told_at}
use Rattle.grasp_model_network.specs.Setting.{Member, Setting, numbered, member_at}
use Rattle.grasp_model_network.specs.Streams.{StreamEnd, StreamState, told_closed, is_number, is_waiting, side_at}
use Rattle.grasp_model_network.specs.World.{Offered, Seat, WorldState, present_life, seat_at}

-- ---- the sides of a stream that a restart tells

end_of_life : (life : ℕ) (o : Option StreamEnd) → is_of_life life o ≡ true → (e : StreamEnd) × (o ≡ Some e) × (e.node ≡ life)
end_of_life life None is = absurd (false≢true is)
end_of_life life (Some e) is = (e, refl, eqb-true e.node life is)

-- one of two tests that make a third true
either : (a b : Bool) → (a || b) ≡ true → (a ≡ true) ⊎ (b ≡ true)
either true b is = inl refl
either false b is = inr is

module _ (s : Setting) (node life : ℕ) (t : StreamState) where
  -- a side that is told has its end in the life, or waits for the member
  told_why : (side : Side) → is_told s node life t side ≡ true → HasEndIn life t side ⊎ WaitsForMember s node t side
  told_why Near is = inl (record { end = t.near; is = refl; node = eqb-true t.near.node life is })
  told_why Far is = elim (either (is_of_life life t.far) (waits_for s node t) is) [
    | inl own ↦ let f = end_of_life life t.far own in inl (record { end = f.0; is = f.1; node = f.2 })
    | inr waits ↦ let a = and_parts (is_waiting t.far_side) (is_number node (member_at s t.to)) waits in inr (a.0, number_is node (member_at s t.to) a.1)
  ]

stream_after : (s : Setting) (node life : ℕ) (t u : StreamState) → IsToldAt s node life t u → StreamAfter s node life t u
stream_after s node life t u i = record {
  near = i.same.near;
  to = i.same.to;
  number = i.same.number;
  far = i.same.far;
  from_near = i.same.from_near;
  from_far = i.same.from_far;
  said = i.same.said;
  ended = λ side o. own_told s node life t u i side o.end o.is o.node;
  waited = waits;
  others = others;
}
  where
    waits : (side : Side) → WaitsForMember s node t side → side_at u side ≡ told_closed
    waits Near w = absurd w
    waits Far w = waiting_told s node life t u i w.0 w.1

    others : (side : Side) → ¬ HasEndIn life t side → ¬ WaitsForMember s node t side → side_at u side ≡ side_at t side
    others side apart still = elim (told_or_kept s node life t u i side) [
      | inl told ↦ elim (told_why s node life t side told.0) [ inl o ↦ absurd (apart o) | inr w ↦ absurd (still w) ]
      | inr kept ↦ kept.1
    ]

-- ---- a restart

module _ (s : Setting) (w : WorldState) (node : ℕ) (image : PoolImage) (x : WorldState) (r : Restarting s w node image x) (h : LivesStand s w) where
  new_is : present_life x node ≡ length w.seats + 1
  new_is = restart_present s w node image x r h

  begun_so : (m : Member) → numbered s.members node ≡ Some m → seat_at x (present_life x node) ≡ Some (begun_seat m image)
  begun_so m found = ap (seat_at x) new_is ∙ (r.begun ∙ ap (λ y. Some (begun_seat y image)) (same_Some r.member m (sym r.found ∙ found)))

  -- the seat that is there is that of the life that ends
  same_seat : (seat : Seat) → seat_at w (present_life w node) ≡ Some seat → r.seat ≡ seat
  same_seat seat here = same_Some r.seat seat (sym r.here ∙ here)

  ended_so : (seat : Seat) → seat_at w (present_life w node) ≡ Some seat → seat_at x (present_life w node) ≡ Some (retired_seat seat)
  ended_so seat here = r.left ∙ ap (λ y. Some (retired_seat y)) (same_seat seat here)

  others_so : (life : ℕ) → life ≢ present_life w node → IsNode (length w.seats) life → seat_at x life ≡ seat_at w life
  others_so life apart is = r.others life apart (λ next. let most : life ≤ length w.seats = is.most in let same : life ≡ length w.seats + 1 = next in absurd (omega (arith, same)))

  streams_so : (place : ℕ) (t : StreamState) → slice_get w.streams place ≡ Some t
      → (u : StreamState) × (slice_get x.streams place ≡ Some u) × StreamAfter s node (present_life w node) t u
  streams_so place t stands = let f = r.told place t stands in (f.0, f.1, stream_after s node (present_life w node) t f.0 f.2)

  unwaited_so : (place : ℕ) (u : StreamState) → slice_get x.streams place ≡ Some u → is_waiting u.far_side ≡ true → ¬ (member_at s u.to ≡ Some node)
  unwaited_so place u stands waits to =
      let f = r.were_told place u stands
      in (waited s node (present_life w node) f.0 u f.2 waits).1 (ap (member_at s) (sym f.2.same.to) ∙ to)

  offers_were : (o : Offered) → Contains x.offers o ↔ (Contains w.offers o × (o.node ≡ present_life w node → IsListed (retired r.seat.agent).pool o.prefix))
  offers_were o = (r.were_offered o, λ f. by_life f (cases_eq o.node (present_life w node)))
    where
      by_life : Contains w.offers o × (o.node ≡ present_life w node → IsListed (retired r.seat.agent).pool o.prefix)
          → (o.node ≡ present_life w node) ⊎ (o.node ≡ present_life w node → ⊥) → Contains x.offers o
      by_life f (inl own) = r.stays_offered o f.0 (f.1 own)
      by_life f (inr apart) = r.others_offered o f.0 apart

  offers_so : (seat : Seat) → seat_at w (present_life w node) ≡ Some seat → (o : Offered)
      → Contains x.offers o ↔ (Contains w.offers o × (o.node ≡ present_life w node → IsListed (retired seat.agent).pool o.prefix))
  offers_so seat here o =
      subst (λ (y : Seat). Contains x.offers o ↔ (Contains w.offers o × (o.node ≡ present_life w node → IsListed (retired y.agent).pool o.prefix))) (same_seat seat here) (offers_were o)

  restart_does : RestartDoes s w node image x
  restart_does = record {
    lives = r.lives;
    count = r.count;
    new = new_is;
    begun = begun_so;
    ended = ended_so;
    others = others_so;
    stream_count = ap length r.streams ∙ length-map w.streams (told_at s node (present_life w node));
    streams = streams_so;
    unwaited = unwaited_so;
    offers = offers_so;
    settled = r.settled;
    sent = record {
      datagrams = r.datagrams;
      dials = r.dials;
      byte_count = r.byte_count;
      flood_calls = r.flood_calls;
      floods_read = r.floods_read;
      searches = r.searches;
      answers = r.answers;
      handles = r.handles;
    };
  }

pub restarts_begin_anew : RestartsBeginAnew
restarts_begin_anew s w node image r may = restart_does s w node image _ (restarting_is s w node image may) (lives_are_kept s w r)

-- ---- a settling

module _ (w : WorldState) (node : ℕ) (p : Prefix) (x : WorldState) (t : Settling w node p x) where
  own_so : (seat : Seat) → seat_at w (present_life w node) ≡ Some seat → seat_at x (present_life w node) ≡ Some (record seat { agent = after_settling seat.agent p })
  own_so seat here = t.own ∙ ap (λ (y : Seat). Some (record y { agent = after_settling y.agent p })) (same_Some t.seat seat (sym t.here ∙ here))

  left_so : (o : Offered) → Contains x.offers o ↔ (Contains w.offers o × (¬ ((o.node ≡ t.offer.node) × (o.prefix ≡ p))))
  left_so o = (
    λ has. let f = t.were o has in (f.0, λ same. f.1 (sym same.0, t.is.prefix ∙ sym same.1)),
    λ f. t.stay o f.0 (λ same. f.1 (sym same.0, sym same.1 ∙ t.is.prefix)),
  )

  settling_does : SettlingDoes w node p x
  settling_does = record {
    own = own_so;
    others = t.others;
    lives = t.lives;
    offer = t.offer;
    found = t.is;
    offers = left_so;
    settled = t.settled;
    streams = t.streams;
    sent = record {
      datagrams = t.datagrams;
      dials = t.dials;
      byte_count = t.byte_count;
      flood_calls = t.flood_calls;
      floods_read = t.floods_read;
      searches = t.searches;
      answers = t.answers;
      handles = t.handles;
    };
  }

pub settlings_free : SettlingsFree
settlings_free w node p d = settling_does w node p _ (settling_is w node p d)
