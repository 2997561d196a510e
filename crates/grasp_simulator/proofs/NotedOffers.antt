-- What the code remembers of offers stands for a network still, whatever happens.
use Rattle.std.proofs.Common.{◌≡◌, ◌≢◌, refl, sym, ap, ◌∙◌, subst, arith, ℕ, ◌+◌, ◌≤◌, ◌<◌, ◌==◌, ◌||◌, Bool, true, false, cond, inl, inr, ◌⊎◌, List, [], ◌∷◌, ◌++◌, filter, length, slice_get, slice_index_or, take, Contains, Option, None, Some, option_map, option_to_list, not}
use Rattle.std.proofs.lemmas.Bool.{true≢false, and_parts, and_from, eqb-true, eq-eqb, ne_eqb, or_right, cases_eq}
use Rattle.std.proofs.lemmas.Option.{none-some, same_Some, slice_get_read}
use Rattle.grasp_agent.proofs.Keeping.{act_stands}
use Rattle.grasp_agent.specs.Kept.{IsKept}
use Rattle.grasp_agent.specs.Reopening.{retired}
use Rattle.grasp_agent.specs.Replies as agent
use Rattle.grasp_agent.specs.Replies.{AgentEvent, after_event, after_return, after_settling, return_reply, want_reply}
use Rattle.grasp_agent.specs.States.{AgentState, unsent_of, back_session}
use Rattle.grasp_agent.specs.declared.act.Act.TheVariants as act
use Rattle.grasp_agent.specs.declared.back.Return.{Return}
use Rattle.grasp_cbor.proofs.Places.{take_got}
use Rattle.grasp_laws_agent.proofs.LawMoves.{moves_are_made}
use Rattle.grasp_laws_agent.proofs.LawStays.{nothing_else_moves}
use Rattle.grasp_laws_agent.proofs.Retiring.{agents_retire}
use Rattle.grasp_laws_agents.specs.Giving.{IsOwnSession, OffersIn, in_entry, in_return}
use Rattle.grasp_laws_agents.specs.OfferLaws.{WasOffered as OfferedBefore, was_there, just_decided, just_requested}
use Rattle.grasp_laws_agents.specs.Owning.{IsOwned}
use Rattle.grasp_laws_negotiation.specs.Negotiations.{IsNegotiation}
use Rattle.grasp_laws_network.proofs.Here.{numbered_within}
use Rattle.grasp_laws_network.proofs.Lists.{numbered_there}
use Rattle.grasp_laws_network.proofs.Lives.{same_member, same_present, same_is_present, is_present_life, others_present}
use Rattle.grasp_laws_network.proofs.LivesKept.{life_member, offer_life, restart_members}
use Rattle.grasp_laws_network.proofs.Offers.{same_prefix, prefix_itself, listed_so, so_listed, kept_other, kept_listed}
use Rattle.grasp_laws_network.proofs.Others.{put_elsewhere}
use Rattle.grasp_laws_network.proofs.Restarted.{Restarting}
use Rattle.grasp_laws_network.proofs.Settled.{Settling}
use Rattle.grasp_laws_network.proofs.Staying.{told_here, want_alone}
use Rattle.grasp_laws_network.proofs.Telling.{one_agent, one_least}
use Rattle.grasp_laws_network.specs.Lives.{LivesStand}
use Rattle.grasp_laws_network.specs.Telling.{IsNoReply, Tells}
use Rattle.grasp_laws_node.proofs.Consistent.Declines.{handle_state}
use Rattle.grasp_laws_prefixes.proofs.AgentPools.{UnsentNow, waits, is_back, is_requested, unsent_now}
use Rattle.grasp_laws_prefixes.proofs.AgentSteps.{AgentStep}
use Rattle.grasp_laws_prefixes.proofs.Asked.{request_stays, placed_one}
use Rattle.grasp_laws_prefixes.proofs.Asking.{near_far}
use Rattle.grasp_laws_prefixes.proofs.EntryOffers.{not_requested, return_of, offering_session, unsent_reserved}
use Rattle.grasp_laws_prefixes.proofs.Listed.{still_listed}
use Rattle.grasp_laws_prefixes.proofs.Listing.{offer_of, no_offer_of, put_from, put_keeps, Begins, decides, hands, begins, is_just, is_handed}
use Rattle.grasp_laws_prefixes.proofs.AgentOffers.{IsListedNow, was_listed, is_new, listed_now}
use Rattle.grasp_laws_prefixes.proofs.Networks.{told_happens}
use Rattle.grasp_laws_prefixes.proofs.Offering.{offering_in}
use Rattle.grasp_laws_prefixes.proofs.OneNode.{each_node}
use Rattle.grasp_laws_prefixes.proofs.OwnSessions.{handle_made}
use Rattle.grasp_laws_prefixes.proofs.OwnSteps.{IsCall}
use Rattle.grasp_laws_prefixes.proofs.Places.{same_stay}
use Rattle.grasp_laws_prefixes.proofs.Returned.{Takes, told_by}
use Rattle.grasp_laws_prefixes.proofs.Safe.{stand}
use Rattle.grasp_laws_prefixes.proofs.Standing.{AllStay, IsOfferedOn, IsPlaced, NothingHappens, SeatGoesOn, Stays, WorldGoesOn}
use Rattle.grasp_laws_prefixes.proofs.Talking.{GivesAt, IsGiver, gives_at}
use Rattle.grasp_laws_prefixes.specs.Apart.{offer_on}
use Rattle.grasp_laws_prefixes.specs.Grounds.{Grounds}
use Rattle.grasp_laws_prefixes.specs.Known.{HasInDoubt}
use Rattle.grasp_model_network.specs.Accepting.{is_return, offering_by, offering_side}
use Rattle.grasp_model_network.specs.Offers.{JustOffered, is_kept, is_listed, is_offer_of, is_same_prefix, just_offered}
use Rattle.grasp_model_network.specs.Plans.{IsNode}
use Rattle.grasp_model_network.specs.Runs.{IsReached}
use Rattle.grasp_model_network.specs.Sending.{seat_with}
use Rattle.grasp_model_network.specs.Setting.{Setting}
use Rattle.grasp_model_network.specs.Streams.{StreamState, end_at}
use Rattle.grasp_model_network.specs.World.{Offered, Seat, WorldState, end_of, member_of, present_life, seat_at}
use Rattle.grasp_model_network.specs.declared.event.Event.{Event}
use Rattle.grasp_pool.proofs.Addresses.{first_in}
use Rattle.grasp_pool.proofs.Maximal.{cases_prefix}
use Rattle.grasp_pool.proofs.Meanings.{settle_means}
use Rattle.grasp_pool.specs.Holdings.{Holding, IsFree, IsListed, Settles}
use Rattle.grasp_pool.specs.declared.image.PoolImage.{PoolImage}
use Rattle.grasp_session.specs.Conversation.{begun, requested, strip}
use Rattle.grasp_session.specs.Messages.{Side, Near, Far}
use Rattle.grasp_session.specs.Sessions.{SessionState, stream_of}
use Rattle.grasp_types.specs.Prefix.{AddressBlock as Prefix}
use Rattle.grasp_types.specs.declared.objective.Objective.{Objective}
use Rattle.grasp_types.specs.declared.session.Handle.{Handle}
use Rattle.grasp_simulator.specs.Remembering.{IsListedBy, IsNoted, OffersStand, TellsStream, WasOffered, is_note_of, last_note, note_of}
use Rattle.grasp_simulator.specs.Restarts.{stays_noted}
use Rattle.grasp_simulator.specs.declared.notes.OfferNote.{OfferNote}
use Rattle.grasp_simulator.proofs.Left.{back_offers}

-- ---- the last note

last_pushed : (node : ℕ) (p : Prefix) (ns : List OfferNote) (n : OfferNote) (f : Option OfferNote) → last_note node p (ns ++ n ∷ []) f ≡ cond (is_note_of node p n) (Some n) (last_note node p ns f)
unfolding last_note
last_pushed node p [] n f = refl
last_pushed node p (m ∷ ns) n f = last_pushed node p ns n (cond (is_note_of node p m) (Some m) f)

-- the last one of one note more
pub last_more : (node : ℕ) (p : Prefix) (ns : List OfferNote) (i : ℕ) (n : OfferNote) (found next : Option OfferNote) → i < length ns → n ≡ slice_index_or ns i n → found ≡ last_note node p (take i ns) None → next ≡ cond (is_note_of node p n) (Some n) found
    → next ≡ last_note node p (take (i + 1) ns) None
last_more node p ns i n found next within is before now =
    now
    ∙ (ap (λ f. cond (is_note_of node p n) (Some n) f) before
    ∙ (sym (last_pushed node p (take i ns) n None) ∙ ap (λ m. last_note node p m None) (sym (take_got ns i n (slice_get_read ns (length ns) i n refl within is)))))

note_is : (node : ℕ) (p : Prefix) (n : OfferNote) → is_note_of node p n ≡ true → (n.node ≡ node) × (p ≡ n.prefix)
note_is node p n is = let a = and_parts (n.node == node) (is_same_prefix p n.prefix) is in (eqb-true n.node node a.0, same_prefix p n.prefix a.1)

is_note : (node : ℕ) (p : Prefix) (n : OfferNote) → n.node ≡ node → p ≡ n.prefix → is_note_of node p n ≡ true
is_note node p n e f = and_from (n.node == node) (is_same_prefix p n.prefix) (eq-eqb n.node node e) (prefix_itself p n.prefix f)

no_note : (node : ℕ) (p : Prefix) (n : OfferNote) → (n.node ≡ node → p ≡ n.prefix → ⊥) → is_note_of node p n ≡ false
no_note node p n none = by_test (is_note_of node p n) refl where
  by_test : (b : Bool) → is_note_of node p n ≡ b → b ≡ false
  by_test true is = let a = note_is node p n is in absurd (none a.0 a.1)
  by_test false is = refl

-- the notes with perhaps one more
abbrev with_note : List OfferNote → Option OfferNote → List OfferNote
with_note ns o = ns ++ option_to_list o

none_more : (ns : List OfferNote) → ns ++ [] ≡ ns
none_more [] = refl
none_more (n ∷ ns) = ap (λ (l : List OfferNote). n ∷ l) (none_more ns)

last_other : (node : ℕ) (p : Prefix) (ns : List OfferNote) (o : Option OfferNote) → ((n : OfferNote) → o ≡ Some n → n.node ≡ node → p ≡ n.prefix → ⊥) → last_note node p (with_note ns o) None ≡ last_note node p ns None
last_other node p ns None none = ap (λ (l : List OfferNote). last_note node p l None) (none_more ns)
last_other node p ns (Some n) none = last_pushed node p ns n None ∙ ap (λ b. cond b (Some n) (last_note node p ns None)) (no_note node p n (none n refl))

last_this : (node : ℕ) (p : Prefix) (ns : List OfferNote) (n : OfferNote) → n.node ≡ node → p ≡ n.prefix → last_note node p (ns ++ n ∷ []) None ≡ Some n
last_this node p ns n e f = last_pushed node p ns n None ∙ ap (λ b. cond b (Some n) (last_note node p ns None)) (is_note node p n e f)

-- where each note of the prefix stays, the last one is the same
last_kept : (keep : OfferNote → Bool) (node : ℕ) (p : Prefix) (ns : List OfferNote) (f : Option OfferNote) → ((n : OfferNote) → is_note_of node p n ≡ true → keep n ≡ true) → last_note node p (filter keep ns) f ≡ last_note node p ns f
unfolding last_note
last_kept keep node p [] f keeps = refl
last_kept keep node p (n ∷ ns) f keeps = by_test (keep n) (is_note_of node p n) refl refl (λ g. last_kept keep node p ns g keeps) where
  by_test : (kept of : Bool) → keep n ≡ kept → is_note_of node p n ≡ of → ((g : Option OfferNote) → last_note node p (filter keep ns) g ≡ last_note node p ns g)
      → last_note node p (cond kept (n ∷ filter keep ns) (filter keep ns)) f ≡ last_note node p ns (cond of (Some n) f)
  by_test true of e g rest = rest (cond (is_note_of node p n) (Some n) f) ∙ ap (λ b. last_note node p ns (cond b (Some n) f)) g
  by_test false true e g rest = absurd (true≢false (sym (keeps n g) ∙ e))
  by_test false false e g rest = rest f

-- the last note is one of the prefix
last_is : (keep : OfferNote → Bool) (node : ℕ) (p : Prefix) (ns : List OfferNote) (f : Option OfferNote) (note : OfferNote) → last_note node p (filter keep ns) f ≡ Some note → (f ≡ Some note) ⊎ ((is_note_of node p note ≡ true) × (keep note ≡ true))
unfolding last_note
last_is keep node p [] f note is = inl is
last_is keep node p (n ∷ ns) f note is = by_test (keep n) refl is (λ g h. last_is keep node p ns g note h) where
  by_rest : (of : Bool) → is_note_of node p n ≡ of → keep n ≡ true → (cond of (Some n) f ≡ Some note) ⊎ ((is_note_of node p note ≡ true) × (keep note ≡ true)) → (f ≡ Some note) ⊎ ((is_note_of node p note ≡ true) × (keep note ≡ true))
  by_rest true g e (inl h) = inr (subst (λ m. (is_note_of node p m ≡ true) × (keep m ≡ true)) (same_Some n note h) (g, e))
  by_rest false g e (inl h) = inl h
  by_rest of g e (inr h) = inr h

  by_test : (kept : Bool) → keep n ≡ kept → last_note node p (cond kept (n ∷ filter keep ns) (filter keep ns)) f ≡ Some note
      → ((g : Option OfferNote) → last_note node p (filter keep ns) g ≡ Some note → (g ≡ Some note) ⊎ ((is_note_of node p note ≡ true) × (keep note ≡ true))) → (f ≡ Some note) ⊎ ((is_note_of node p note ≡ true) × (keep note ≡ true))
  by_test true e h rest = by_rest (is_note_of node p n) refl e (rest (cond (is_note_of node p n) (Some n) f) h)
  by_test false e h rest = rest f h

-- ---- what a note tells

-- a note tells the stream of an offer still
tells_on : (l : Grounds) (s : Setting) (w : WorldState) → IsReached s w → (y : WorldState) → IsReached s y ⊎ NothingHappens w y → AllStay w.streams y.streams → (o : Offered) → Contains w.offers o → (place : ℕ) → o.talk ≡ Some place
    → (note : OfferNote) → TellsStream w note o place → TellsStream y note o place
tells_on l s w r y said stay o listed place on note t = by_placed ((stand l s w r).known.placed o listed) where
  u : Stays y.streams place t.talk
  u = stay place t.talk t.stands

  by_placed : IsPlaced w.streams o ⊎ (o.talk ≡ None) → TellsStream y note o place
  by_placed (inr none) = absurd (none-some place (sym none ∙ on))
  by_placed (inl at) =
      let one : at.talk ≡ t.talk = placed_one w.streams o at place t.talk on t.stands in
      let same : requested u.after.said ≡ requested t.talk.said
      = request_stays l s w r place t.talk t.stands (subst IsNegotiation one at.negotiation) (ap (λ (x : StreamState). begun (strip x.said)) (sym one) ∙ at.asked) y said u in
      let side : offering_side u.after ≡ offering_side t.talk = ap (λ (x : Objective). offering_by (is_return x.value)) same in
      record {
        life = t.life;
        talk = u.after;
        stands = u.stands;
        number = t.number;
        stream_is = t.stream_is;
        end_is = ap (λ i. end_at u.after i) side ∙ u.ends (offering_side t.talk) (end_of o.node t.number) t.end_is;
      }

-- ---- where no agent did anything

pub quiet_noted : (l : Grounds) (s : Setting) (w y : WorldState) → IsReached s w → WorldGoesOn w y → IsReached s y ⊎ NothingHappens w y → (notes : List OfferNote) → OffersStand notes w → OffersStand notes y
quiet_noted l s w y r g said notes k = record {
  noted = λ o place listed on. noted o place (subst (λ (os : List Offered). Contains os o) g.offers listed) on;
  listed = λ node seat p note own here was last. listed node seat p note own here was last (g.seats (present_life y node) seat here);
} where
  noted : (o : Offered) (place : ℕ) → Contains w.offers o → o.talk ≡ Some place → IsNoted notes y o place
  noted o place listed on =
      let n : IsNoted notes w o place = k.noted o place listed on in
      record { note = n.note; last = ap (λ m. last_note m o.prefix notes None) (same_member w y o.node g.lives) ∙ n.last; tells = tells_on l s w r y said g.streams o listed place on n.note n.tells }

  listed : (node : ℕ) (seat : Seat) (p : Prefix) (note : OfferNote) → member_of y (present_life y node) ≡ node → seat_at y (present_life y node) ≡ Some seat → WasOffered seat.agent p → last_note node p notes None ≡ Some note
      → (old : Seat) × (seat_at w (present_life y node) ≡ Some old) × SeatGoesOn old seat → IsListedBy y node p
  listed node seat p note own here was last b =
      let present : present_life y node ≡ present_life w node = same_present w y node g.lives in
      let i : IsListedBy w node p
      = k.listed node b.0 p note (ap (λ n. member_of w n) (sym present) ∙ (sym (same_member w y (present_life y node) g.lives) ∙ own)) (ap (λ n. seat_at w n) (sym present) ∙ b.1)
      (subst (λ (h : Holding). IsListed h p) b.2.pool was.0, λ e. was.1 (ap unsent_of b.2.back ∙ e)) last in
      record { offer = i.offer; listed = subst (λ (os : List Offered). Contains os i.offer) (sym g.offers) i.listed; member = same_member w y i.offer.node g.lives ∙ i.member; prefix = i.prefix; place = i.place; on = i.on }

-- ---- where an agent takes a return

-- an agent that has a return keeps it, whatever it is told
told_back : (a : AgentState) (what : AgentEvent) (v : Return) → IsNoReply what → a.back ≡ Some v → (after_event a what).back ≡ Some v
told_back a (agent.wanted n longest peer) v other is = ap (λ (b : AgentState). b.back) (want_alone a n longest peer (want_reply a)) ∙ is
told_back a (agent.returned p peer) v other is = ap (λ o. (after_return (record a { back = o }) p peer (return_reply (record a { back = o }) p)).back) is
told_back a (agent.replied z) v other is = absurd other

back_stays : (s : Setting) (w y : WorldState) (e : Event) → Tells s w e y → (v : Return) (n : ℕ) (seat z : Seat) → seat_at w n ≡ Some seat → seat_at y n ≡ Some z → seat.agent.back ≡ Some v → z.agent.back ≡ Some v
back_stays s w y e t v n seat z here there is = each_node w y t.telling.node told_seat now others (λ m x. (u : Seat) → seat_at w m ≡ Some u → u.agent.back ≡ Some v → x.agent.back ≡ Some v)
    (λ u at was. told_back t.seat.agent t.telling.what v t.no_reply (ap (λ (x : Seat). x.agent.back) (same_Some t.seat u (sym t.here ∙ at)) ∙ was))
    (λ m x apart at u found was. ap (λ (x : Seat). x.agent.back) (same_Some x u (sym at ∙ found)) ∙ was) n z there seat here is where
      told_seat : Seat
      told_seat = seat_with t.seat.core (after_event t.seat.agent t.telling.what)

      now : seat_at y t.telling.node ≡ Some told_seat
      now = ap (λ (x : WorldState). seat_at x t.telling.node) t.after ∙ told_here w t.telling t.seat t.seat t.here t.here

      others : (k : ℕ) → (k ≡ t.telling.node → ⊥) → seat_at y k ≡ seat_at w k
      others k apart = ap (λ (x : WorldState). seat_at x k) t.after ∙ put_elsewhere w.seats t.telling.node k told_seat (one_least w y (one_agent s w e y t)) apart

pub taken_noted : (l : Grounds) (s : Setting) (w y : WorldState) (e : Event) → IsReached s w → Tells s w e y → Takes w y → NothingHappens w y → AllStay w.streams y.streams → (notes : List OfferNote) → OffersStand notes w → OffersStand notes y
taken_noted l s w y e r t g happens stay notes k = record {
  noted = λ o place listed on. noted o place on (put_from w.offers g.node g.prefix None o (subst (λ (os : List Offered). Contains os o) g.offers listed));
  listed = listed;
} where
  noted : (o : Offered) (place : ℕ) → o.talk ≡ Some place → (Contains w.offers o × (is_offer_of g.node g.prefix o ≡ false)) ⊎ (o ≡ record { node = g.node; prefix = g.prefix; talk = None }) → IsNoted notes y o place
  noted o place on (inl h) =
      let n : IsNoted notes w o place = k.noted o place h.0 on in
      record { note = n.note; last = ap (λ m. last_note m o.prefix notes None) (same_member w y o.node g.lives) ∙ n.last; tells = tells_on l s w r y (inr happens) stay o h.0 place on n.note n.tells }
  noted o place on (inr e) = absurd (none-some place (sym (ap (λ (x : Offered). x.talk) e) ∙ on))

  -- what was offered before, of a life that was there, is listed still
  still : (node : ℕ) (old : Seat) (p : Prefix) (note : OfferNote) → member_of y (present_life y node) ≡ node → seat_at w (present_life y node) ≡ Some old → WasOffered old.agent p → (present_life y node ≡ g.node → p ≡ g.prefix → ⊥)
      → last_note node p notes None ≡ Some note → IsListedBy y node p
  still node old p note own here was apart last =
      let present : present_life y node ≡ present_life w node = same_present w y node g.lives in
      let i : IsListedBy w node p
      = k.listed node old p note (ap (λ n. member_of w n) (sym present) ∙ (sym (same_member w y (present_life y node) g.lives) ∙ own)) (ap (λ n. seat_at w n) (sym present) ∙ here) was last in
      let other : i.offer.node ≡ g.node → i.offer.prefix ≡ g.prefix → ⊥
      = λ e f. apart (present ∙ (sym (ap (λ m. present_life w m) (sym (ap (λ n. member_of w n) e) ∙ i.member)) ∙ sym (is_present_life w g.node g.present))) (sym i.prefix ∙ f) in
      record {
        offer = i.offer;
        listed = subst (λ (os : List Offered). Contains os i.offer) (sym g.offers) (put_keeps w.offers g.node g.prefix None i.offer i.listed (no_offer_of g.node g.prefix i.offer other));
        member = same_member w y i.offer.node g.lives ∙ i.member;
        prefix = i.prefix;
        place = i.place;
        on = i.on;
      }

  listed : (node : ℕ) (seat : Seat) (p : Prefix) (note : OfferNote) → member_of y (present_life y node) ≡ node → seat_at y (present_life y node) ≡ Some seat → WasOffered seat.agent p → last_note node p notes None ≡ Some note → IsListedBy y node p
  listed node seat p note own here was last = by_life (cases_eq (present_life y node) g.node) where
    by_life : (present_life y node ≡ g.node) ⊎ (present_life y node ≡ g.node → ⊥) → IsListedBy y node p
    by_life (inr apart) = still node seat p note own (sym (g.others (present_life y node) apart) ∙ here) was (λ e f. apart e) last
    by_life (inl same) = still node g.seat p note own (ap (λ n. seat_at w n) same ∙ g.here) (list is_listed_now, not_unsent) (λ e f. differs f) last where
      agent_is : seat.agent ≡ g.agent
      agent_is = ap (λ (x : Seat). x.agent) (same_Some seat (seat_with g.seat.core g.agent) (sym here ∙ (ap (λ n. seat_at y n) same ∙ g.there)))

      is_listed_now : IsListed g.agent.pool p
      is_listed_now = subst (λ (x : AgentState). IsListed x.pool p) agent_is was.0

      differs : p ≡ g.prefix → ⊥
      differs e = was.1 (ap (λ (x : AgentState). unsent_of x.back) agent_is ∙ (g.unsent ∙ ap (λ q. Some q) (sym e)))

      by_reserved : Contains g.seat.agent.pool.reserved p ⊎ (p ≡ g.prefix) → IsListed g.seat.agent.pool p
      by_reserved (inl h) = inl h
      by_reserved (inr e) = absurd (differs e)

      list : IsListed g.agent.pool p → IsListed g.seat.agent.pool p
      list (inl h) = by_reserved ((g.reserves.reserved p).0 h)
      list (inr h) = inr (subst (λ (ps : List Prefix). Contains ps p) g.reserves.doubtful h)

      by_back : (o : Option Return) → g.seat.agent.back ≡ o → unsent_of o ≡ Some p → ⊥
      by_back None is f = none-some p f
      by_back (Some v) is f =
          was.1 (ap (λ (x : AgentState). unsent_of x.back) agent_is ∙ (ap unsent_of (back_stays s w y e t v g.node g.seat (seat_with g.seat.core g.agent) g.here g.there is) ∙ f))

      not_unsent : unsent_of g.seat.agent.back ≢ Some p
      not_unsent f = by_back g.seat.agent.back refl f

-- where an agent is told something
pub told_noted : (l : Grounds) (s : Setting) (w y : WorldState) (e : Event) → IsReached s w → Tells s w e y → (notes : List OfferNote) → OffersStand notes w → OffersStand notes y
told_noted l s w y e r t notes k = by_case (told_by l s w r e y t) where
  happens : NothingHappens w y
  happens = told_happens s w y e t

  by_case : WorldGoesOn w y ⊎ Takes w y → OffersStand notes y
  by_case (inl g) = quiet_noted l s w y r g (inr happens) notes k
  by_case (inr g) = taken_noted l s w y e r t g happens (same_stay w.streams y.streams g.streams) notes k

-- ---- an agent's own step

module _ (l : Grounds) (s : Setting) (w y : WorldState) (r : IsReached s w) (q : IsReached s y) (a : AgentStep w y) (c : IsCall w y a) (node : ℕ) (own : member_of w a.visit.node ≡ node) (notes : List OfferNote)
    (k : OffersStand notes w) where
  abbrev new_seat : Seat
  new_seat = seat_with a.core a.agent

  abbrev just : Option JustOffered
  just = just_offered a.visit.seat.agent a.agent

  abbrev note_for : JustOffered → OfferNote
  note_for j = note_of node a.visit.node a.core j

  abbrev next : List OfferNote
  next = notes ++ option_to_list (option_map note_for just)

  was_kept : IsKept a.visit.seat.agent
  was_kept = l.kept s w r a.visit.node a.visit.seat a.here

  kept_now : IsKept a.agent
  kept_now = l.kept s y q a.visit.node new_seat a.there

  own_now : member_of y a.visit.node ≡ node
  own_now = same_member w y a.visit.node a.lives ∙ own

  -- ---- what was just offered

  handed_is : (h : Handle) (p : Prefix) (z : Return) → unsent_of a.visit.seat.agent.back ≡ Some p → a.agent.back ≡ Some z → z.session ≡ Some h → z.prefix ≡ p
  handed_is h p z unsent is on = by_case (a.moves.offered Near h z.prefix (in_return refl z is on refl)) where
    by_case : OfferedBefore a.visit.seat.core a.visit.seat.agent a.agent Near h z.prefix → z.prefix ≡ p
    by_case (was_there (in_entry far place g at of offer)) = absurd (near_far far)
    by_case (was_there (in_return near u at of e)) = absurd (not_requested a.visit.seat.agent.back u h p unsent at of)
    by_case (just_decided far place none act session mine unaccepted free) = absurd (near_far far)
    by_case (just_requested near before session) = same_Some z.prefix p (sym before ∙ unsent)

  just_in : (j : JustOffered) → just ≡ Some j → (side : Side) × OffersIn a.agent side j.handle j.prefix
  just_in j is = by_case (begins a.visit.seat.agent a.agent j is) where
    by_case : Begins a.visit.seat.agent a.agent j → (side : Side) × OffersIn a.agent side j.handle j.prefix
    by_case (decides none place now) =
        (Far, in_entry refl place (record { handle = j.handle; offer = Some j.prefix; first = false }) (act_stands a.agent (act.Offer place j.handle j.prefix) now kept_now) refl refl)
    by_case (hands unsent session) =
        let z = return_of a.agent.back j.handle session in
        (Near, in_return refl z.0 z.1 z.2 (handed_is j.handle j.prefix z.0 unsent z.1 z.2))

  -- its stream, and its session there
  record IsBegun (j : JustOffered) : Type 0 where
    pub place : ℕ
    pub listed : Contains y.offers (offer_on a.visit.node j.prefix place)
    pub talk : StreamState
    pub stands : slice_get y.streams place ≡ Some talk
    pub number : ℕ
    pub stream_is : (note_for j).stream ≡ Some number
    pub end_is : end_at talk (offering_side talk) ≡ Some (end_of a.visit.node number)

  begun_on : (j : JustOffered) → just ≡ Some j → IsBegun j
  begun_on j is = from (offering_session a.core a.agent i.0 j.handle j.prefix (l.give s y q a.visit.node new_seat a.there) i.1) where
    i : (side : Side) × OffersIn a.agent side j.handle j.prefix
    i = just_in j is

    from : (x : SessionState) × IsOwnSession a.core.sessions j.handle i.0 x → IsBegun j
    from x =
        let o : IsOfferedOn y a.visit.node i.0 x.0.stream j.prefix
        = (stand l s y q).known.offered a.visit.node new_seat a.there (same_is_present w y a.visit.node a.lives ∙ a.present) i.0 j.handle j.prefix i.1 x.0 x.1 in
        let owned : IsOwned x.0 = l.owned s y q a.visit.node new_seat a.there j.handle.place x.0 (handle_state a.core.sessions j.handle x.0 x.1.at).0 in
        let giver : IsGiver y a.visit.node new_seat i.0 o.place x.0
        = record {
          made = handle_made a.core.sessions j.handle x.0 x.1.at;
          owner = x.1.owner;
          role = x.1.role;
          kind = (owned.own x.1.owner).0;
          name = (owned.own x.1.owner).1;
          offering = offering_in l s y q a.visit.node new_seat a.there i.0 j.handle j.prefix i.1 x.0 x.1;
          at = o.at;
        } in
        let g : GivesAt y o.place i.0 x.0 = gives_at l s y q a.visit.node new_seat a.there i.0 o.place x.0 giver in
        record {
          place = o.place;
          listed = o.listed;
          talk = g.talk;
          stands = g.stands;
          number = x.0.stream;
          stream_is = ap (λ (z : Option SessionState). stream_of z) x.1.at;
          end_is = ap (λ side. end_at g.talk side) g.offering ∙ (ap (λ (t : StreamState). end_at t i.0) (same_Some g.talk o.at.talk (sym g.stands ∙ o.at.stands)) ∙ o.at.end_is);
        }

  -- a note of what was just offered
  is_just_note : (n : OfferNote) → option_map note_for just ≡ Some n → (j : JustOffered) × ((just ≡ Some j) × (note_for j ≡ n))
  is_just_note n e = by_option just refl e where
    by_option : (o : Option JustOffered) → just ≡ o → option_map note_for o ≡ Some n → (j : JustOffered) × ((just ≡ Some j) × (note_for j ≡ n))
    by_option None is f = absurd (none-some n f)
    by_option (Some j) is f = (j, (is, same_Some (note_for j) n f))

  -- what is listed of its member and its prefix is this
  only_begun : (j : JustOffered) → (is : just ≡ Some j) → (o : Offered) → Contains y.offers o → member_of y o.node ≡ node → o.prefix ≡ j.prefix → o ≡ offer_on a.visit.node j.prefix (begun_on j is).place
  only_begun j is o listed member prefix =
      let b : IsBegun j = begun_on j is in
      (stand l s y q).known.once o (offer_on a.visit.node j.prefix b.place) listed b.listed (member ∙ sym own_now) prefix

  -- ---- what is listed is noted

  noted_now : (o : Offered) (place : ℕ) → Contains y.offers o → o.talk ≡ Some place → IsNoted next y o place
  noted_now o place listed on = by_case (listed_now l s w y r q a (stand l s w r) o listed) where
    by_case : IsListedNow l s w y r q a (stand l s w r) o → IsNoted next y o place
    by_case (was_listed h kept apart) =
        let n : IsNoted notes w o place = k.noted o place h on in
        record {
          note = n.note;
          last = last_other (member_of y o.node) o.prefix notes (option_map note_for just) other ∙ (ap (λ m. last_note m o.prefix notes None) (same_member w y o.node a.lives) ∙ n.last);
          tells = tells_on l s w r y (inl q) a.streams o h place on n.note n.tells;
        }
      where
        other : (n : OfferNote) → option_map note_for just ≡ Some n → n.node ≡ member_of y o.node → o.prefix ≡ n.prefix → ⊥
        other n e member prefix =
            let j = is_just_note n e in
            let same : o ≡ offer_on a.visit.node j.0.prefix (begun_on j.0 j.1.0).place
            = only_begun j.0 j.1.0 o listed (sym member ∙ ap (λ (z : OfferNote). z.node) (sym j.1.1)) (prefix ∙ ap (λ (z : OfferNote). z.prefix) (sym j.1.1)) in
            true≢false (sym (offer_of a.visit.node j.0.prefix o (ap (λ (z : Offered). z.node) same) (ap (λ (z : Offered). z.prefix) same)) ∙ apart j.0 j.1.0)
    by_case (is_new j is e) =
        let b : IsBegun j = begun_on j is in
        let same : o ≡ offer_on a.visit.node j.prefix b.place = only_begun j is o listed (ap (λ (z : Offered). member_of y z.node) e ∙ own_now) (ap (λ (z : Offered). z.prefix) e) in
        let at : b.place ≡ place = same_Some b.place place (sym (ap (λ (z : Offered). z.talk) same) ∙ on) in
        record {
          note = note_for j;
          last = ap (λ (z : Option JustOffered). last_note (member_of y o.node) o.prefix (notes ++ option_to_list (option_map note_for z)) None) is
              ∙ last_this (member_of y o.node) o.prefix notes (note_for j) (sym (ap (λ (z : Offered). member_of y z.node) e ∙ own_now)) (ap (λ (z : Offered). z.prefix) e);
          tells = record {
            life = ap (λ (z : Offered). z.node) (sym e);
            talk = b.talk;
            stands = ap (λ n. slice_get y.streams n) (sym at) ∙ b.stands;
            number = b.number;
            stream_is = b.stream_is;
            end_is = b.end_is ∙ ap (λ (z : Offered). Some (end_of z.node b.number)) (sym e);
          };
        }

  -- ---- what is offered or in doubt, and noted, is listed

  -- of the node's own
  own_before : (p : Prefix) → ((j : JustOffered) → just ≡ Some j → ¬ (j.prefix ≡ p)) → WasOffered a.agent p → WasOffered a.visit.seat.agent p
  own_before p differs was = (by_list was.0, not_unsent) where
    by_reserved : Contains a.visit.seat.agent.pool.reserved p ⊎ ((place : ℕ) × ((h : Handle) × (a.visit.seat.agent.act ≡ None) × (a.agent.act ≡ Some (act.Offer place h p)))) → IsListed a.visit.seat.agent.pool p
    by_reserved (inl h) = inl h
    by_reserved (inr d) = absurd (differs (record { prefix = p; handle = d.1.0 }) (is_just a.visit.seat.agent a.agent d.0 d.1.0 p d.1.1 d.1.2) refl)

    by_doubtful : Contains a.visit.seat.agent.pool.doubtful p ⊎ Contains a.visit.seat.agent.pool.reserved p → IsListed a.visit.seat.agent.pool p
    by_doubtful (inl h) = inr h
    by_doubtful (inr h) = inl h

    by_list : IsListed a.agent.pool p → IsListed a.visit.seat.agent.pool p
    by_list (inl h) = by_reserved (a.moves.reserved p h)
    by_list (inr h) = by_doubtful (a.moves.doubtful p h)

    not_requested_now : (h : Handle) → OffersIn a.agent Near h p → unsent_of a.visit.seat.agent.back ≡ Some p → ⊥
    not_requested_now h (in_entry far place g at on offer) unsent = near_far far
    not_requested_now h (in_return near v is on same) unsent =
        differs (record { prefix = p; handle = h }) (is_handed a.visit.seat.agent a.agent h p unsent (ap back_session is ∙ on) (a.alone p unsent)) refl

    by_now : UnsentNow moves_are_made nothing_else_moves a.visit.seat.agent c.reply was_kept p → unsent_of a.visit.seat.agent.back ≡ Some p → ⊥
    by_now (waits still) unsent = was.1 (ap (λ (z : AgentState). unsent_of z.back) c.agent_is ∙ still)
    by_now (is_back free) unsent =
        kept_now.pool.held p p.address was.0 (first_in p) (subst (λ (z : AgentState). IsFree z.pool p.address) (sym c.agent_is) (free p.address (first_in p)))
    by_now (is_requested h returns told offers) unsent = not_requested_now h (subst (λ (z : AgentState). OffersIn z Near h p) (sym c.agent_is) offers) unsent

    not_unsent : unsent_of a.visit.seat.agent.back ≢ Some p
    not_unsent unsent = by_now (unsent_now moves_are_made nothing_else_moves a.visit.seat.agent c.reply was_kept p unsent) unsent

  -- what was listed and isn't of a prefix that was just offered
  listed_still : (n : ℕ) (p : Prefix) → (i : IsListedBy w n p) → is_kept a.visit.node a.agent.pool i.offer ≡ true → ((j : JustOffered) → just ≡ Some j → is_offer_of a.visit.node j.prefix i.offer ≡ false) → IsListedBy y n p
  listed_still n p i kept apart = record {
    offer = i.offer;
    listed = still_listed w y a i.offer i.listed kept apart;
    member = same_member w y i.offer.node a.lives ∙ i.member;
    prefix = i.prefix;
    place = i.place;
    on = i.on;
  }

  own_listed : (p : Prefix) (note : OfferNote) → WasOffered a.agent p → last_note node p next None ≡ Some note → IsListedBy y node p
  own_listed p note was last = by_just just refl where
    here_is : present_life w node ≡ a.visit.node
    here_is = ap (λ m. present_life w m) (sym own) ∙ sym (is_present_life w a.visit.node a.present)

    old : ((j : JustOffered) → just ≡ Some j → ¬ (j.prefix ≡ p)) → IsListedBy y node p
    old differs = from (k.listed node a.visit.seat p note (ap (λ n. member_of w n) here_is ∙ own) (ap (λ n. seat_at w n) here_is ∙ a.here) (own_before p differs was) before) where
      before : last_note node p notes None ≡ Some note
      before = sym (last_other node p notes (option_map note_for just) (λ n e member prefix. let j = is_just_note n e in differs j.0 j.1.0 (ap (λ (z : OfferNote). z.prefix) j.1.1 ∙ sym prefix))) ∙ last

      from : IsListedBy w node p → IsListedBy y node p
      from i =
          listed_still node p i (by_kept (cases_eq i.offer.node a.visit.node))
          (λ j is. no_offer_of a.visit.node j.prefix i.offer (λ e f. differs j is (sym f ∙ i.prefix))) where
            by_kept : (i.offer.node ≡ a.visit.node) ⊎ (i.offer.node ≡ a.visit.node → ⊥) → is_kept a.visit.node a.agent.pool i.offer ≡ true
            by_kept (inl e) = kept_listed a.visit.node a.agent.pool i.offer (subst (λ z. IsListed a.agent.pool z) (sym i.prefix) was.0)
            by_kept (inr apart) = kept_other a.visit.node a.agent.pool i.offer apart

    new : (j : JustOffered) → just ≡ Some j → j.prefix ≡ p → IsListedBy y node p
    new j is e =
        let b : IsBegun j = begun_on j is in
        record { offer = offer_on a.visit.node j.prefix b.place; listed = b.listed; member = own_now; prefix = e; place = b.place; on = refl }

    by_just : (o : Option JustOffered) → just ≡ o → IsListedBy y node p
    by_just None none = old (λ j is e. none-some j (sym none ∙ is))
    by_just (Some j) is = by_prefix (cases_prefix j.prefix p) where
      by_prefix : (j.prefix ≡ p) ⊎ (¬ (j.prefix ≡ p)) → IsListedBy y node p
      by_prefix (inl e) = new j is e
      by_prefix (inr differs) = old (λ i f e. differs (ap (λ (z : JustOffered). z.prefix) (same_Some j i (sym is ∙ f)) ∙ e))

  listed_at : (n : ℕ) (seat : Seat) (p : Prefix) (note : OfferNote) → member_of y (present_life y n) ≡ n → seat_at y (present_life y n) ≡ Some seat → WasOffered seat.agent p → last_note n p next None ≡ Some note → IsListedBy y n p
  listed_at n seat p note mine here was last = by_node (cases_eq (present_life y n) a.visit.node) where
    member : member_of w (present_life y n) ≡ n
    member = sym (same_member w y (present_life y n) a.lives) ∙ mine

    same_life : present_life y n ≡ present_life w n
    same_life = same_present w y n a.lives

    by_node : (present_life y n ≡ a.visit.node) ⊎ (present_life y n ≡ a.visit.node → ⊥) → IsListedBy y n p
    by_node (inl same) =
        let node_is : node ≡ n = sym own ∙ (ap (λ m. member_of w m) (sym same) ∙ member) in
        let seat_is : seat ≡ new_seat = same_Some seat new_seat (sym here ∙ (ap (λ m. seat_at y m) same ∙ a.there)) in
        subst (λ m. IsListedBy y m p) node_is (own_listed p note (subst (λ (x : Seat). WasOffered x.agent p) seat_is was) (subst (λ m. last_note m p next None ≡ Some note) (sym node_is) last))
    by_node (inr apart) = from (k.listed n seat p note (ap (λ m. member_of w m) (sym same_life) ∙ member) (ap (λ m. seat_at w m) (sym same_life) ∙ (sym (a.others (present_life y n) apart) ∙ here)) was before) where
      other_node : n ≢ node
      other_node e = apart (same_life ∙ (ap (λ m. present_life w m) (e ∙ sym own) ∙ sym (is_present_life w a.visit.node a.present)))

      before : last_note n p notes None ≡ Some note
      before =
          sym (last_other n p notes (option_map note_for just) (λ z e at prefix. let j = is_just_note z e in other_node (sym at ∙ ap (λ (x : OfferNote). x.node) (sym j.1.1)))) ∙ last

      from : IsListedBy w n p → IsListedBy y n p
      from i = listed_still n p i (kept_other a.visit.node a.agent.pool i.offer elsewhere) (λ j is. no_offer_of a.visit.node j.prefix i.offer (λ e f. elsewhere e)) where
        elsewhere : i.offer.node ≢ a.visit.node
        elsewhere e = other_node (sym i.member ∙ (ap (λ m. member_of w m) e ∙ own))

  pub step_noted : OffersStand next y
  step_noted = record { noted = noted_now; listed = listed_at }

-- ---- a settling

pub settled_noted : (l : Grounds) (s : Setting) (w x : WorldState) → IsReached s w → (node : ℕ) (p : Prefix) → Settling w node p x → (notes : List OfferNote) → OffersStand notes w → OffersStand notes x
settled_noted l s w x r node p t notes k = record { noted = noted; listed = listed } where
  tells : (o : Offered) (place : ℕ) (note : OfferNote) → TellsStream w note o place → TellsStream x note o place
  tells o place note n = record {
    life = n.life;
    talk = n.talk;
    stands = ap (λ (ts : List StreamState). slice_get ts place) t.streams ∙ n.stands;
    number = n.number;
    stream_is = n.stream_is;
    end_is = n.end_is;
  }

  noted : (o : Offered) (place : ℕ) → Contains x.offers o → o.talk ≡ Some place → IsNoted notes x o place
  noted o place listed on =
      let n : IsNoted notes w o place = k.noted o place (t.were o listed).0 on in
      record { note = n.note; last = ap (λ m. last_note m o.prefix notes None) (same_member w x o.node t.lives) ∙ n.last; tells = tells o place n.note n.tells }

  listed : (n : ℕ) (seat : Seat) (q : Prefix) (note : OfferNote) → member_of x (present_life x n) ≡ n → seat_at x (present_life x n) ≡ Some seat → WasOffered seat.agent q → last_note n q notes None ≡ Some note → IsListedBy x n q
  listed n seat q note mine here was last = by_node (cases_eq (present_life x n) (present_life w node)) where
    same_life : present_life x n ≡ present_life w n
    same_life = same_present w x n t.lives

    member : member_of w (present_life w n) ≡ n
    member = ap (λ m. member_of w m) (sym same_life) ∙ (sym (same_member w x (present_life x n) t.lives) ∙ mine)

    still : (old : Seat) → seat_at w (present_life w n) ≡ Some old → WasOffered old.agent q → (n ≡ node → q ≡ p → ⊥) → IsListedBy x n q
    still old at before differs = from (k.listed n old q note member at before last) where
      from : IsListedBy w n q → IsListedBy x n q
      from i = record {
        offer = i.offer;
        listed = t.stay i.offer i.listed (λ same. differs (sym i.member ∙ (ap (λ m. member_of w m) (sym same.0) ∙ t.is.member)) (sym i.prefix ∙ (sym same.1 ∙ t.is.prefix)));
        member = same_member w x i.offer.node t.lives ∙ i.member;
        prefix = i.prefix;
        place = i.place;
        on = i.on;
      }

    by_node : (present_life x n ≡ present_life w node) ⊎ (present_life x n ≡ present_life w node → ⊥) → IsListedBy x n q
    by_node (inr apart) =
        still seat (ap (λ m. seat_at w m) (sym same_life) ∙ (sym (t.others (present_life x n) apart) ∙ here)) was
        (λ e f. apart (same_life ∙ ap (λ m. present_life w m) e))
    by_node (inl same) = still t.seat (ap (λ m. seat_at w m) (sym same_life ∙ same) ∙ t.here) (list is_listed_now, λ e. was.1 (ap (λ (z : AgentState). unsent_of z.back) agent_is ∙ e)) (λ e. differs) where
      agent_is : seat.agent ≡ after_settling t.seat.agent p
      agent_is = ap (λ (z : Seat). z.agent) (same_Some seat (seat_with t.seat.core (after_settling t.seat.agent p)) (sym here ∙ (ap (λ m. seat_at x m) same ∙ t.own)))

      pool : Settles t.seat.agent.pool (after_settling t.seat.agent p).pool p
      pool = settle_means t.seat.agent.pool p (l.kept s w r (present_life w node) t.seat t.here).pool t.doubtful

      is_listed_now : IsListed (after_settling t.seat.agent p).pool q
      is_listed_now = subst (λ (z : AgentState). IsListed z.pool q) agent_is was.0

      list : IsListed (after_settling t.seat.agent p).pool q → IsListed t.seat.agent.pool q
      list (inl h) = inl (subst (λ (ps : List Prefix). Contains ps q) pool.reserved h)
      list (inr h) = inr ((pool.doubtful q).0 h).0

      by_list : IsListed (after_settling t.seat.agent p).pool q → q ≡ p → ⊥
      by_list (inl h) e =
          (l.kept s w r (present_life w node) t.seat t.here).pool.once p (subst (λ z. Contains t.seat.agent.pool.reserved z) e (subst (λ (ps : List Prefix). Contains ps q) pool.reserved h)) t.doubtful
      by_list (inr h) e = ((pool.doubtful q).0 h).1 e

      differs : q ≡ p → ⊥
      differs e = by_list is_listed_now e

-- ---- a restart

module _ (l : Grounds) (s : Setting) (w x : WorldState) (r : IsReached s w) (q : IsReached s x) (node : ℕ) (image : PoolImage) (t : Restarting s w node image x) (notes : List OfferNote) (k : OffersStand notes w) where
  abbrev left : Holding
  left = (retired t.seat.agent).pool

  abbrev stays : OfferNote → Bool
  stays = stays_noted node left

  lives : LivesStand s w
  lives = l.lives s w r

  own : member_of w (present_life w node) ≡ node
  own = lives.own node (numbered_within s.members node t.member t.found)

  stays_left : (m : OfferNote) → IsListed left m.prefix → stays m ≡ true
  stays_left m h = or_right (not (m.node == node)) (is_listed left m.prefix) (so_listed left m.prefix h)

  stays_other : (m : OfferNote) → (m.node ≡ node → ⊥) → stays m ≡ true
  stays_other m apart = ap (λ b. not b || is_listed left m.prefix) (ne_eqb m.node node apart)

  -- the notes of a prefix that is left, and those of other nodes, stay
  keeps_left : (n : ℕ) (p : Prefix) → (n ≡ node → IsListed left p) → (z : OfferNote) → is_note_of n p z ≡ true → stays z ≡ true
  keeps_left n p is_left z is = by_node (cases_eq z.node node) where
    a : (z.node ≡ n) × (p ≡ z.prefix)
    a = note_is n p z is

    by_node : (z.node ≡ node) ⊎ (z.node ≡ node → ⊥) → stays z ≡ true
    by_node (inl e) = stays_left z (subst (λ u. IsListed left u) a.1 (is_left (sym a.0 ∙ e)))
    by_node (inr apart) = stays_other z apart

  member_still : (o : Offered) → Contains w.offers o → member_of x o.node ≡ member_of w o.node
  member_still o listed = let at = numbered_there w.seats o.node (offer_life s w o r listed) in restart_members s w node image x t lives o.node at.0 at.1

  -- of a life of the node, what is listed still is left
  left_of : (o : Offered) → Contains x.offers o → member_of w o.node ≡ node → IsListed left o.prefix
  left_of o listed mine = by_life (cases_eq o.node (present_life w node)) where
    by_life : (o.node ≡ present_life w node) ⊎ (o.node ≡ present_life w node → ⊥) → IsListed left o.prefix
    by_life (inl e) = (t.were_offered o listed).1 e
    by_life (inr apart) =
        let d : HasInDoubt w (present_life w (member_of w o.node)) o.prefix
        = (stand l s w r).known.carried o (t.were_offered o listed).0 (ne_eqb (present_life w (member_of w o.node)) o.node (λ e. apart (sym e ∙ ap (λ m. present_life w m) mine))) in
        let same : d.seat ≡ t.seat = same_Some d.seat t.seat (sym d.here ∙ (ap (λ m. seat_at w (present_life w m)) mine ∙ t.here)) in
        inr (subst (λ (ps : List Prefix). Contains ps o.prefix) (sym (agents_retire t.seat.agent).doubtful) (subst (λ (z : Seat). Contains z.agent.pool.doubtful o.prefix) same d.doubtful))

  told_end : (u v : StreamState) (side : Side) → u.near ≡ v.near → u.far ≡ v.far → end_at u side ≡ end_at v side
  told_end u v Near near far = ap (λ e. Some e) near
  told_end u v Far near far = far

  tells : (o : Offered) (place : ℕ) (note : OfferNote) → TellsStream w note o place → TellsStream x note o place
  tells o place note n =
      let u = t.told place n.talk n.stands in
      let said : u.0.said ≡ n.talk.said = u.2.same.said in
      record {
        life = n.life;
        talk = u.0;
        stands = u.1;
        number = n.number;
        stream_is = n.stream_is;
        end_is = ap (λ c. end_at u.0 (offering_by (is_return (requested c).value))) said ∙ (told_end u.0 n.talk (offering_side n.talk) u.2.same.near u.2.same.far ∙ n.end_is);
      }

  noted : (o : Offered) (place : ℕ) → Contains x.offers o → o.talk ≡ Some place → IsNoted (filter stays notes) x o place
  noted o place listed on =
      let was : Contains w.offers o = (t.were_offered o listed).0 in
      let n : IsNoted notes w o place = k.noted o place was on in
      record {
        note = n.note;
        last = ap (λ m. last_note m o.prefix (filter stays notes) None) (member_still o was)
            ∙ (last_kept stays (member_of w o.node) o.prefix notes None (keeps_left (member_of w o.node) o.prefix (λ mine. left_of o listed mine)) ∙ n.last);
        tells = tells o place n.note n.tells;
      }

  -- what was offered and is left was so before
  left_before : (p : Prefix) → IsListed left p → WasOffered t.seat.agent p
  left_before p h = (list h, not_unsent h) where
    kept : IsKept t.seat.agent
    kept = l.kept s w r (present_life w node) t.seat t.here

    list : IsListed left p → IsListed t.seat.agent.pool p
    list (inl i) = inl (((agents_retire t.seat.agent).reserved kept p).0 i).0
    list (inr i) = inr (subst (λ (ps : List Prefix). Contains ps p) (agents_retire t.seat.agent).doubtful i)

    not_unsent : IsListed left p → unsent_of t.seat.agent.back ≢ Some p
    not_unsent (inl i) e = (((agents_retire t.seat.agent).reserved kept p).0 i).1 (back_offers t.seat.agent t.seat.agent.back p refl e)
    not_unsent (inr i) e = kept.pool.once p (unsent_reserved t.seat.agent p kept e) (subst (λ (ps : List Prefix). Contains ps p) (agents_retire t.seat.agent).doubtful i)

  listed : (n : ℕ) (seat : Seat) (p : Prefix) (note : OfferNote) → member_of x (present_life x n) ≡ n → seat_at x (present_life x n) ≡ Some seat → WasOffered seat.agent p → last_note n p (filter stays notes) None ≡ Some note
      → IsListedBy x n p
  listed n seat p note mine here was last = by_node (cases_eq n node) where
    found : (is_note_of n p note ≡ true) × (stays note ≡ true)
    found = by_last (last_is stays n p notes None note last) where
      by_last : (None ≡ Some note) ⊎ ((is_note_of n p note ≡ true) × (stays note ≡ true)) → (is_note_of n p note ≡ true) × (stays note ≡ true)
      by_last (inl e) = absurd (none-some note e)
      by_last (inr f) = f

    listed_still : (i : IsListedBy w n p) → Contains x.offers i.offer → IsListedBy x n p
    listed_still i still = record { offer = i.offer; listed = still; member = member_still i.offer i.listed ∙ i.member; prefix = i.prefix; place = i.place; on = i.on }

    by_node : (n ≡ node) ⊎ (n ≡ node → ⊥) → IsListedBy x n p
    by_node (inl e) = from (k.listed n t.seat p note (ap (λ m. member_of w (present_life w m)) e ∙ (own ∙ sym e)) (ap (λ m. seat_at w (present_life w m)) e ∙ t.here) (left_before p is_left) before) where
      at : (note.node ≡ n) × (p ≡ note.prefix)
      at = note_is n p note found.0

      is_left : IsListed left p
      is_left = listed_so left p (ap (λ z. is_listed left z) at.1 ∙ (sym (ap (λ b. not b || is_listed left note.prefix) (eq-eqb note.node node (at.0 ∙ e))) ∙ found.1))

      before : last_note n p notes None ≡ Some note
      before = sym (last_kept stays n p notes None (keeps_left n p (λ same. is_left))) ∙ last

      from : IsListedBy w n p → IsListedBy x n p
      from i = listed_still i (t.stays_offered i.offer i.listed (subst (λ z. IsListed left z) (sym i.prefix) is_left))
    by_node (inr apart) = from (k.listed n seat p note member (sym (t.others (present_life w n) not_left not_new) ∙ (ap (λ m. seat_at x m) (sym life) ∙ here)) was before) where
      life : present_life x n ≡ present_life w n
      life = others_present w x node t.lives n apart

      before : last_note n p notes None ≡ Some note
      before = sym (last_kept stays n p notes None (keeps_left n p (λ same. absurd (apart same)))) ∙ last

      is_node : IsNode (length s.members) n
      is_node =
          (l.lives s x q).members (present_life x n) n
          (life_member s x (present_life x n) (l.lives s x q) (numbered_within x.seats (present_life x n) seat here) ∙ ap (λ m. Some m) mine)

      member : member_of w (present_life w n) ≡ n
      member = lives.own n is_node

      not_left : present_life w n ≢ present_life w node
      not_left e = apart (sym member ∙ (ap (λ m. member_of w m) e ∙ own))

      not_new : present_life w n ≢ length w.seats + 1
      not_new e = let most : present_life w n ≤ length w.seats = (lives.present n is_node).most in omega arith

      from : IsListedBy w n p → IsListedBy x n p
      from i = listed_still i (t.others_offered i.offer i.listed (λ e. apart (sym i.member ∙ (ap (λ m. member_of w m) e ∙ own))))

  pub restarted_noted : OffersStand (filter stays notes) x
  restarted_noted = record { noted = noted; listed = listed }
