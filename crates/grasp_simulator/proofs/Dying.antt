-- Which prefixes may be settled, as the code tells it.
use Rattle.std.proofs.Common.{◌≡◌, ◌≢◌, ◌↔◌, refl, sym, ap, ◌∙◌, subst, arith, ℕ, ◌+◌, ◌-◌, ◌*◌, ◌/◌, ◌%◌, ◌≤◌, ◌==◌, Bool, true, false, cond, not, inr, length, slice_get, slice_index_or, Contains, Option, None, Some}
use Rattle.std.proofs.lemmas.Bool.{true≢false, false≢true}
use Rattle.std.proofs.lemmas.Option.{none-some, same_Some}
use Rattle.std.specs.Prelude.{IsTrue}
use Rattle.grasp_agent.specs.Kept.{IsKept}
use Rattle.grasp_agent.specs.States.{AgentState}
use Rattle.grasp_laws_delivery.proofs.Worlds.{reached_in_order}
use Rattle.grasp_laws_delivery.specs.Ready.{HasGoodEnds, HasGoodFar, HasGoodNumber}
use Rattle.grasp_laws_negotiation.proofs.Steps.{every_at}
use Rattle.grasp_laws_node.proofs.Consistent.Table.{LiesOn, none_lies, state_lies}
use Rattle.grasp_laws_prefixes.proofs.Asking.{asking_on, is_asking}
use Rattle.grasp_laws_prefixes.proofs.DeadFound.{dead_are_found}
use Rattle.grasp_laws_prefixes.proofs.EntryOffers.{unsent_reserved}
use Rattle.grasp_laws_prefixes.proofs.Standing.{IsGoingOn}
use Rattle.grasp_laws_prefixes.specs.Grounds.{Grounds}
use Rattle.grasp_laws_prefixes.specs.Known.{HasInDoubt}
use Rattle.grasp_laws_session.proofs.Runs.{calls_in_order}
use Rattle.grasp_model_network.specs.Accepting.{has_accepted, offering_side, taking_side}
use Rattle.grasp_model_network.specs.Setting.{Setting, numbered}
use Rattle.grasp_model_network.specs.Settling.{IsAsking, IsDead, NeverAccepts}
use Rattle.grasp_laws_network.proofs.Appended.{get_numbered}
use Rattle.grasp_laws_network.proofs.Settled.{offer_is}
use Rattle.grasp_laws_network.specs.TurnsDo.{IsOfferBy}
use Rattle.grasp_model_network.specs.Streams.{StreamEnd, StreamState, end_at}
use Rattle.grasp_model_network.specs.World.{Offered, Seat, WorldState, end_of, is_present, member_of, present_life, seat_at}
use Rattle.grasp_session.specs.Messages.{Side, Near, Far, other}
use Rattle.grasp_session.specs.Runs.{AreInOrder}
use Rattle.grasp_session.specs.Sessions.{SessionState, Sessions, state_reply}
use Rattle.grasp_session.specs.Transcript.{is_going}
use Rattle.grasp_types.specs.Prefix.{AddressBlock as Prefix}
use Rattle.grasp_simulator.specs.Asking.{asker_at, asker_of, near_of}
use Rattle.grasp_simulator.specs.Lending.{AnswersFor, TellsDead}
use Rattle.grasp_simulator.specs.Remembering.{IsListedBy, IsNoted, WasOffered, is_among, last_note}
use Rattle.grasp_simulator.specs.Marking.{begins_as}
use Rattle.grasp_simulator.specs.Seats.{SeatStands, is_asked}
use Rattle.grasp_simulator.specs.StreamsStand.{HeldAs, TalkStands}
use Rattle.grasp_simulator.specs.WorldStands.{GoesOn, WorldGoes, owner_in}
use Rattle.grasp_simulator.specs.declared.notes.OfferNote.{OfferNote}
use Rattle.grasp_simulator.specs.declared.seat.Seat.{Seat as SeatCode}
use Rattle.grasp_simulator.specs.declared.stream.LifeEnd.{LifeEnd}
use Rattle.grasp_simulator.specs.declared.stream.Stream.{Stream}
use Rattle.grasp_simulator.specs.declared.world.World.{World}
use Rattle.grasp_simulator.proofs.ArrivesGo.{arrives_as}
use Rattle.grasp_simulator.proofs.ImageParts.{never}
use Rattle.grasp_simulator.proofs.Presence.{OwnSeat, Owned, own_at, own_seat, owned_life, owner_present, owner_some, unowned}

-- ---- who may still act on a stream

-- a live session on the stream goes on exactly where the table tells so
going_lies : (z : Sessions) (stream : ℕ) (o : Option (ℕ × Bool)) → state_reply z stream ≡ o → is_asked o ≡ true → IsGoingOn z stream
going_lies z stream None is asked = absurd (false≢true asked)
going_lies z stream (Some state) is asked =
    let x : LiesOn z stream state.1 = state_lies z stream state is in
    record { place = x.place; session = x.session; at = x.at; on = x.on; going = not_not (is_going x.session.view) (ap not x.ends ∙ asked) } where
      not_not : (b : Bool) → not (not b) ≡ true → b ≡ true
      not_not true e = refl
      not_not false e = absurd (false≢true e)

lies_going : (z : Sessions) → AreInOrder z → (stream : ℕ) → IsGoingOn z stream → (o : Option (ℕ × Bool)) → state_reply z stream ≡ o → is_asked o ≡ true
lies_going z order stream g None is = absurd (none_lies z stream is g.place g.session g.at g.on)
lies_going z order stream g (Some state) is =
    let x : LiesOn z stream state.1 = state_lies z stream state is in
    let place : x.place ≡ g.place = order.streams x.place g.place x.session g.session x.at g.at (x.on ∙ sym g.on) in
    let same : x.session ≡ g.session = same_Some x.session g.session (sym x.at ∙ (ap (λ k. slice_index_or z.places k None) place ∙ g.at)) in
    ap not (sym x.ends) ∙ (ap (λ (y : SessionState). not (not (is_going y.view))) same ∙ ap (λ b. not (not b)) g.going)

module _ (l : Grounds) (code : World) (s : Setting) (w : WorldState) (goes : WorldGoes code s w) (t : StreamState) (life number : ℕ) (near : t.near ≡ end_of life number) where
  near_life : t.near.node ≡ life
  near_life = ap (λ (e : StreamEnd). e.node) near

  near_number : t.near.number ≡ number
  near_number = ap (λ (e : StreamEnd). e.number) near

  pub unowned_asks : owner_in (length code.seats.items) (numbered code.lives life) ≡ None → IsAsking w t → ⊥
  unowned_asks none a = none-some a.seat (sym (unowned code s w life goes none) ∙ (ap (λ n. seat_at w n) (sym near_life) ∙ a.here))

  module _ (node i : ℕ) (own : SeatCode) (owned : owner_in (length code.seats.items) (numbered code.lives life) ≡ Some node) (place : i ≡ node - 1) (got : own ≡ slice_index_or code.seats.items i own) where
    there : Owned w life node
    there = owned_life code s w life node goes (owner_some (length code.seats.items) (numbered code.lives life) node owned).0

    mine : OwnSeat w node own
    mine = own_seat code s w node i own goes.keeps (owner_some (length code.seats.items) (numbered code.lives life) node owned).1 place got

    pub other_asks : (own.life ≡ life → ⊥) → IsAsking w t → ⊥
    other_asks apart a = apart (mine.life ∙ sym (owner_present w life node there.member (subst (λ n. is_present w n ≡ true) near_life a.present)))

    pub own_asks : own.life ≡ life → (b : Bool) → ((z : Seat) → SeatStands own z → b ≡ is_asked (state_reply z.core.sessions number)) → IsTrue b ↔ IsAsking w t
    own_asks same b told = (forth, back) where
      life_is : life ≡ present_life w node
      life_is = sym same ∙ mine.life

      here : seat_at w t.near.node ≡ Some mine.seat
      here = ap (λ n. seat_at w n) (near_life ∙ life_is) ∙ mine.here

      order : AreInOrder mine.seat.core.sessions
      order = calls_in_order mine.seat.core.sessions ((reached_in_order l.ties s w goes.reached).sound (present_life w node) mine.seat mine.here).0.sessions

      forth : IsTrue b → IsAsking w t
      forth e =
          is_asking w t (ap (λ n. is_present w n) (near_life ∙ life_is) ∙ mine.present) mine.seat here
          (subst (λ n. IsGoingOn mine.seat.core.sessions n) (sym near_number) (going_lies mine.seat.core.sessions number (state_reply mine.seat.core.sessions number) refl (sym (told mine.seat mine.stands) ∙ e)))

      back : IsAsking w t → IsTrue b
      back a =
          let seat_is : a.seat ≡ mine.seat = same_Some a.seat mine.seat (sym a.here ∙ here) in
          told mine.seat mine.stands
          ∙ lies_going mine.seat.core.sessions order number
          (subst (λ n. IsGoingOn mine.seat.core.sessions n) near_number (subst (λ (z : Seat). IsGoingOn z.core.sessions t.near.number) seat_is (asking_on w t a)))
          (state_reply mine.seat.core.sessions number) refl

-- ---- who asked for a prefix

far_number : (n k : ℕ) → 1 ≤ k → n ≡ 2 * k - 1 → (n % 2 ≡ 1) × (n / 2 + 1 ≡ k)
far_number n k least is = (omega (arith, least, is), omega (arith, least, is))

odd_test : (n : ℕ) → n % 2 ≡ 1 → (n % 2 == 0) ≡ false
odd_test n odd = ap (λ m. m == 0) odd

module _ (code : World) (s : Setting) (w : WorldState) (h : GoesOn code s w) (l : Grounds) where
  ends_of : (place : ℕ) (t : StreamState) → slice_get w.streams place ≡ Some t → HasGoodEnds s (length w.seats) w.dials t.near t.number t.far
  ends_of place t stands = every_at (λ (u : StreamState). HasGoodEnds s (length w.seats) w.dials u.near u.number u.far) w.streams place t (l.ready.ends s w h.goes.reached) stands

  -- of a stream with this far end the code tells the near one
  asker_by : (t : StreamState) (k : Option ℕ) (e : StreamEnd) → HasGoodNumber w.dials k → HasGoodFar s (length w.seats) k (Some e) → TalkStands code.streams.list.items code.streams.near.entries (begins_as w.lives code.marks code.plan.nodes) t k
      → (a : LifeEnd) × ((asker_at code.streams.list.items (Some e.number) ≡ Some a) × (t.near ≡ end_of a.life a.number))
  asker_by t None e dialled good stands = absurd good
  asker_by t (Some k) e dialled good stands = from (slice_get code.streams.list.items (k - 1)) refl stands.held where
    number : (e.number % 2 ≡ 1) × (e.number / 2 + 1 ≡ k)
    number = far_number e.number k dialled.0 (good.1 ∙ arrives_as code s w e.node k h.goes.keeps)

    from : (o : Option Stream) → slice_get code.streams.list.items (k - 1) ≡ o → HeldAs o k t → (a : LifeEnd) × ((asker_at code.streams.list.items (Some e.number) ≡ Some a) × (t.near ≡ end_of a.life a.number))
    from None got held = absurd held
    from (Some c) got held = (record { life = c.near; number = c.number }, (tells, held.near)) where
      at_number : numbered code.streams.list.items k ≡ Some c
      at_number = get_numbered code.streams.list.items k (Some c) dialled.0 got

      tells : asker_at code.streams.list.items (Some e.number) ≡ Some (record { life = c.near; number = c.number })
      tells = ap (λ b. cond b None (near_of (numbered code.streams.list.items (e.number / 2 + 1)))) (odd_test e.number number.0)
          ∙ (ap (λ n. near_of (numbered code.streams.list.items n)) number.1 ∙ ap near_of at_number)

  asker_is : (place : ℕ) (t : StreamState) → slice_get w.streams place ≡ Some t → (e : StreamEnd) → t.far ≡ Some e
      → (a : LifeEnd) × ((asker_at code.streams.list.items (Some e.number) ≡ Some a) × (t.near ≡ end_of a.life a.number))
  asker_is place t stands e far =
      let good = ends_of place t stands in
      asker_by t t.number e good.dialled (subst (λ o. HasGoodFar s (length w.seats) t.number o) far good.opened) (every_at (λ (u : StreamState). TalkStands code.streams.list.items code.streams.near.entries (begins_as w.lives code.marks code.plan.nodes) u u.number) w.streams place t h.goes.keeps.streams.each stands)

  -- ---- where a prefix may be settled

  pub record Asked (node : ℕ) (p : Prefix) (a : LifeEnd) : Type 0 where
    pub offer : Offered
    pub listed : Contains w.offers offer
    pub member : member_of w offer.node ≡ node
    pub prefix : offer.prefix ≡ p
    pub place : ℕ
    pub on : offer.talk ≡ Some place
    pub talk : StreamState
    pub stands : slice_get w.streams place ≡ Some talk
    pub side : offering_side talk ≡ Far
    pub near : talk.near ≡ end_of a.life a.number

  side_far : (t : StreamState) → taking_side t ≡ Near → offering_side t ≡ Far
  side_far t is = by_side (offering_side t) is where
    by_side : (i : Side) → other i ≡ Near → i ≡ Far
    by_side Near e = absurd (cc)
    by_side Far e = refl

  abbrev asker : ℕ → Prefix → Option LifeEnd
  asker node p = asker_of code.streams.list.items (last_note node p code.notes.offers.items None)

  -- the near end of its stream is told
  pub dead_asks : (node : ℕ) (p : Prefix) → (d : IsDead w node p) → (a : LifeEnd) × ((asker node p ≡ Some a) × (d.talk.near ≡ end_of a.life a.number))
  dead_asks node p d = from (h.remembers.offers.noted d.offer d.place is.listed d.on) where
    is : IsOfferBy w node p d.offer
    is = offer_is w node p d.offer d.found

    from : IsNoted code.notes.offers.items w d.offer d.place → (a : LifeEnd) × ((asker node p ≡ Some a) × (d.talk.near ≡ end_of a.life a.number))
    from n =
        let same : n.tells.talk ≡ d.talk = same_Some n.tells.talk d.talk (sym n.tells.stands ∙ d.stands) in
        let far : d.talk.far ≡ Some (end_of d.offer.node n.tells.number)
        = ap (λ i. end_at d.talk i) (sym (side_far d.talk d.never.takes)) ∙ (ap (λ (t : StreamState). end_at t (offering_side t)) (sym same) ∙ n.tells.end_is) in
        let x = asker_is d.place d.talk d.stands (end_of d.offer.node n.tells.number) far in (
          x.0,
          (
            ap (asker_of code.streams.list.items)
                (ap (λ m. last_note m p code.notes.offers.items None) (sym is.member) ∙ (ap (λ q. last_note (member_of w d.offer.node) q code.notes.offers.items None) (sym is.prefix) ∙ n.last))
                ∙ (ap (asker_at code.streams.list.items) n.tells.stream_is ∙ x.1.0),
            x.1.1,
          ),
        )

  -- and where one is told, and the prefix is in doubt, it was offered on a stream that was dialled there
  pub asks_so : (node : ℕ) (p : Prefix) (a : LifeEnd) (seat : Seat) → member_of w (present_life w node) ≡ node → seat_at w (present_life w node) ≡ Some seat → Contains seat.agent.pool.doubtful p → asker node p ≡ Some a → Asked node p a
  asks_so node p a seat own here doubt is = by_note (last_note node p code.notes.offers.items None) refl is where
    kept : IsKept seat.agent
    kept = l.kept s w h.goes.reached (present_life w node) seat here

    was : WasOffered seat.agent p
    was = (inr doubt, λ e. kept.pool.once p (unsent_reserved seat.agent p kept e) doubt)

    by_side : (t : StreamState) (i : Side) → offering_side t ≡ i → (place : ℕ) → slice_get w.streams place ≡ Some t → (e : StreamEnd) → end_at t i ≡ Some e → (e.number % 2 == 0) ≡ false → (offering_side t ≡ Far) × (t.far ≡ Some e)
    by_side t Far at place stands e end odd = (at, end)
    by_side t Near at place stands e end odd =
        absurd (true≢false (sym (ap (λ m. m == 0) (ap (λ (x : StreamEnd). x.number % 2) (sym (same_Some t.near e end)) ∙ (ends_of place t stands).even)) ∙ odd))

    odd_of : (n : ℕ) → asker_at code.streams.list.items (Some n) ≡ Some a → (n % 2 == 0) ≡ false
    odd_of n e = by_test (n % 2 == 0) e where
      by_test : (b : Bool) → cond b None (near_of (numbered code.streams.list.items (n / 2 + 1))) ≡ Some a → b ≡ false
      by_test true f = absurd (none-some a f)
      by_test false f = refl

    with_note : (note : OfferNote) → last_note node p code.notes.offers.items None ≡ Some note → asker_at code.streams.list.items note.stream ≡ Some a → Asked node p a
    with_note note last told = from i (h.remembers.offers.noted i.offer i.place i.listed i.on) where
      i : IsListedBy w node p
      i = h.remembers.offers.listed node seat p note own here was last

      from : (i : IsListedBy w node p) → IsNoted code.notes.offers.items w i.offer i.place → Asked node p a
      from i n =
          let same : n.note ≡ note
          = same_Some n.note note
          (sym n.last ∙ (ap (λ m. last_note m i.offer.prefix code.notes.offers.items None) i.member ∙ (ap (λ q. last_note node q code.notes.offers.items None) i.prefix ∙ last))) in
          let stream : note.stream ≡ Some n.tells.number = ap (λ (z : OfferNote). z.stream) (sym same) ∙ n.tells.stream_is in
          let at : asker_at code.streams.list.items (Some n.tells.number) ≡ Some a = ap (asker_at code.streams.list.items) (sym stream) ∙ told in
          let side = by_side n.tells.talk (offering_side n.tells.talk) refl i.place n.tells.stands (end_of i.offer.node n.tells.number) n.tells.end_is (odd_of n.tells.number at) in
          let x = asker_is i.place n.tells.talk n.tells.stands (end_of i.offer.node n.tells.number) side.1 in
          record {
            offer = i.offer;
            listed = i.listed;
            member = i.member;
            prefix = i.prefix;
            place = i.place;
            on = i.on;
            talk = n.tells.talk;
            stands = n.tells.stands;
            side = side.0;
            near = x.1.1 ∙ ap (λ (z : LifeEnd). end_of z.life z.number) (same_Some x.0 a (sym x.1.0 ∙ at));
          }

    by_note : (o : Option OfferNote) → last_note node p code.notes.offers.items None ≡ o → asker_of code.streams.list.items o ≡ Some a → Asked node p a
    by_note None last told = absurd (none-some a told)
    by_note (Some note) last told = with_note note last told

  -- ---- whether it may

  pub accepted_dead : (node : ℕ) (p : Prefix) (a : LifeEnd) → asker node p ≡ Some a → is_among (end_of a.life a.number) code.notes.accepted ≡ true → IsDead w node p → ⊥
  accepted_dead node p a is accepted d =
      let x = dead_asks node p d in
      let near : d.talk.near ≡ end_of a.life a.number = x.1.1 ∙ ap (λ (z : LifeEnd). end_of z.life z.number) (same_Some x.0 a (sym x.1.0 ∙ is)) in
      true≢false
      (sym (h.remembers.accepted.near d.place d.talk d.stands ∙ (ap (λ e. is_among e code.notes.accepted) near ∙ accepted))
      ∙ (ap (λ i. has_accepted i d.talk.said) (sym d.never.takes) ∙ d.never.unaccepted))

  pub asking_dead : (node : ℕ) (p : Prefix) (a : LifeEnd) → asker node p ≡ Some a → ((t : StreamState) → t.near ≡ end_of a.life a.number → IsAsking w t) → IsDead w node p → ⊥
  asking_dead node p a is asks d =
      let x = dead_asks node p d in
      d.never.over (asks d.talk (x.1.1 ∙ ap (λ (z : LifeEnd). end_of z.life z.number) (same_Some x.0 a (sym x.1.0 ∙ is))))

  pub dead_so : (node : ℕ) (p : Prefix) (a : LifeEnd) (seat : Seat) → member_of w (present_life w node) ≡ node → seat_at w (present_life w node) ≡ Some seat → Contains seat.agent.pool.doubtful p → asker node p ≡ Some a
      → is_among (end_of a.life a.number) code.notes.accepted ≡ false → ((t : StreamState) → t.near ≡ end_of a.life a.number → IsAsking w t → ⊥) → IsDead w node p
  dead_so node p a seat own here doubt is unaccepted over = from (asks_so node p a seat own here doubt is) where
    from : Asked node p a → IsDead w node p
    from x =
        subst (λ m. IsDead w m p) x.member
        (subst (λ q. IsDead w (member_of w x.offer.node) q) x.prefix
        (dead_are_found l s w h.goes.reached x.offer x.listed x.place x.talk x.on x.stands
        (subst (λ q. HasInDoubt w (present_life w (member_of w x.offer.node)) q) (sym x.prefix)
        (subst (λ m. HasInDoubt w (present_life w m) p) (sym x.member) (record { seat = seat; here = here; doubtful = doubt }))) never)) where
          takes : taking_side x.talk ≡ Near
          takes = ap other x.side

          never : NeverAccepts w x.talk
          never = record {
            takes = takes;
            unaccepted = ap (λ i. has_accepted i x.talk.said) takes ∙ (h.remembers.accepted.near x.place x.talk x.stands ∙ (ap (λ e. is_among e code.notes.accepted) x.near ∙ unaccepted));
            over = λ asks. over x.talk x.near asks;
          }

-- ---- what the code tells

module _ (code : World) (node : ℕ) (p : Prefix) (own : SeatCode) (got : Some own ≡ slice_get code.seats.items (node - 1)) where
  -- the seat that the code keeps is the node's
  own_of : (s : Setting) (w : WorldState) → AnswersFor code node s w → OwnSeat w node own
  own_of s w h = own_at code s w node (node - 1) own h.stands.stands.goes.keeps h.is_node.least refl (sym got)

  -- the agent of a dead prefix has it in doubt
  doubt_of : (s : Setting) (w : WorldState) → AnswersFor code node s w → IsDead w node p → Contains own.agent.pool.doubtful p
  doubt_of s w h d =
      let mine : OwnSeat w node own = own_of s w h in
      subst (λ (a : AgentState). Contains a.pool.doubtful p) (sym mine.stands.agent) (subst (λ (z : Seat). Contains z.agent.pool.doubtful p) (same_Some d.seat mine.seat (sym d.here ∙ mine.here)) d.doubtful)

  pub undoubted : (Contains own.agent.pool.doubtful p → ⊥) → TellsDead code node p false
  undoubted none s w h = never (λ d. none (doubt_of s w h d))

  module _ (l : Grounds) where
    pub unasked : asker_of code.streams.list.items (last_note node p code.notes.offers.items None) ≡ None → TellsDead code node p false
    unasked none s w h = never (λ d. let x = dead_asks code s w h.stands.stands l node p d in none-some x.0 (sym none ∙ x.1.0))

    pub accepted_tells : (a : LifeEnd) → asker_of code.streams.list.items (last_note node p code.notes.offers.items None) ≡ Some a → is_among (end_of a.life a.number) code.notes.accepted ≡ true → TellsDead code node p false
    accepted_tells a is accepted s w h = never (λ d. accepted_dead code s w h.stands.stands l node p a is accepted d)

    pub dead_tells : (a : LifeEnd) (asking : Bool) → Contains own.agent.pool.doubtful p → asker_of code.streams.list.items (last_note node p code.notes.offers.items None) ≡ Some a
        → is_among (end_of a.life a.number) code.notes.accepted ≡ false
        → ((s : Setting) (w : WorldState) (t : StreamState) → WorldGoes code s w → t.near ≡ end_of a.life a.number → IsTrue asking ↔ IsAsking w t) → TellsDead code node p (not asking)
    dead_tells a asking doubt is unaccepted asks s w h = by_test asking (λ t near. asks s w t h.stands.stands.goes near) where
      mine : OwnSeat w node own
      mine = own_of s w h

      by_test : (b : Bool) → ((t : StreamState) → t.near ≡ end_of a.life a.number → IsTrue b ↔ IsAsking w t) → IsTrue (not b) ↔ IsDead w node p
      by_test true so = never (λ d. asking_dead code s w h.stands.stands l node p a is (λ t near. (so t near).0 refl) d)
      by_test false so = (
        λ t.
            dead_so code s w h.stands.stands l node p a mine.seat mine.member mine.here
            (subst (λ (z : AgentState). Contains z.pool.doubtful p) mine.stands.agent doubt) is unaccepted (λ u near asking_is. false≢true ((so u near).1 asking_is)),
        λ d. refl,
      )
