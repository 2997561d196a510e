-- To whom prefixes were offered stays as a doubter keeps it, where its node's agent of prefixes makes a call.
use Rattle.std.proofs.Common.{◌≡◌, ◌≢◌, ◌⊎◌, inl, inr, refl, sym, ap, ◌∙◌, subst, ℕ, Bool, true, false, List, filter, Contains, IfSome, Option, None, Some, is_some, find, slice_get}
use Rattle.std.proofs.lemmas.Bool.{eq-eqb, eqb-true}
use Rattle.std.proofs.lemmas.Option.{none-some, same_Some}
use Rattle.grasp_agent.proofs.Reading.{prefix_again}
use Rattle.grasp_agent.specs.Calls.{next_call}
use Rattle.grasp_agent.specs.Kept.{ActStands, IsKept}
use Rattle.grasp_agent.specs.Replies.{after_reply}
use Rattle.grasp_agent.specs.States.{AgentState, offered_by}
use Rattle.grasp_agent.specs.Values.{prefix_value, returned_in}
use Rattle.grasp_agent.specs.declared.act.Act.{Act}
use Rattle.grasp_agent.specs.declared.act.Act.TheVariants as act
use Rattle.grasp_agent.specs.declared.giving.Giving.{Giving}
use Rattle.grasp_doubter.specs.Seeing.{after_saw, opener_address, opener_of}
use Rattle.grasp_doubter.specs.States.{DoubterState, is_session}
use Rattle.grasp_doubter.specs.declared.seen.Opener.{Opener}
use Rattle.grasp_doubter.specs.declared.seen.Sent.{Sent}
use Rattle.grasp_pool.specs.Holdings.{IsListed}
use Rattle.grasp_session.specs.Laws.{IsView}
use Rattle.grasp_session.specs.Messages.{Far, Near, other}
use Rattle.grasp_session.specs.Runs.{Reached, WasMade}
use Rattle.grasp_session.specs.Says.{IsAt}
use Rattle.grasp_session.specs.Sessions.{SessionState, Sessions}
use Rattle.grasp_session.specs.Transcript.{request_of}
use Rattle.grasp_types.specs.Prefix.{AddressBlock as Prefix, IsPrefix}
use Rattle.grasp_types.specs.declared.address.Address.{Address}
use Rattle.grasp_types.specs.declared.objective.Objective.{Objective}
use Rattle.grasp_types.specs.declared.reply.ApiAnswer.TheVariants as answer
use Rattle.grasp_types.specs.declared.reply.Reply.TheVariants as reply
use Rattle.grasp_types.specs.declared.session.Handle.{Handle}
use Rattle.grasp_model_network.specs.Accepting.{is_return, offering_by, taking_side}
use Rattle.grasp_model_network.specs.EventSteps.{after_agent}
use Rattle.grasp_model_network.specs.Notes.{noted}
use Rattle.grasp_model_network.specs.Offers.{JustOffered, is_kept, is_offer_of, just_offered, offers_after}
use Rattle.grasp_model_network.specs.Runs.{IsReached}
use Rattle.grasp_model_network.specs.Sending.{seat_with}
use Rattle.grasp_model_network.specs.Setting.{Setting, numbered}
use Rattle.grasp_model_network.specs.Streams.{StreamState}
use Rattle.grasp_model_network.specs.Visits.{Choice}
use Rattle.grasp_model_network.specs.World.{Offered, Seat, WorldState, end_of, is_present, present_life, seat_at}
use Rattle.grasp_model_doubts.specs.World.{with_doubter}
use Rattle.grasp_laws_agents.specs.Giving.{EntryStands, OfferStands, OffersIn, is_offering}
use Rattle.grasp_laws_network.proofs.Here.{numbered_within}
use Rattle.grasp_laws_network.proofs.Lists.{filter_has, found_is}
use Rattle.grasp_laws_network.proofs.Offers.{kept_listed, kept_other}
use Rattle.grasp_laws_node.proofs.Meaning.Acts.{number_at}
use Rattle.grasp_laws_agents.proofs.Places.{one_there}
use Rattle.grasp_laws_prefixes.proofs.Asked.{request_stays}
use Rattle.grasp_laws_prefixes.proofs.EntryOffers.{offers_reserved}
use Rattle.grasp_laws_prefixes.proofs.Listing.{Begins, begins, decides, hands, no_offer_of, stays_listed}
use Rattle.grasp_laws_prefixes.proofs.OwnSessions.{IsTalkOf, own_talk, own_view}
use Rattle.grasp_laws_prefixes.proofs.Places.{same_place}
use Rattle.grasp_laws_prefixes.proofs.Speech.{same_requested}
use Rattle.grasp_laws_prefixes.proofs.Standing.{AllStay, NothingHappens, Stays}
use Rattle.grasp_laws_prefixes.specs.Apart.{offer_on}
use Rattle.grasp_laws_prefixes.specs.Known.{IsListedFor, OffersStand}
use Rattle.grasp_laws_questions.specs.Agreeing.{IsAsked}
use Rattle.grasp_laws_session.proofs.Runs.{calls_in_order}
use Rattle.grasp_session.proofs.Tables.{state_slot}
use Rattle.grasp_laws_doubts.proofs.Both.{agent_put, put_both}
use Rattle.grasp_laws_doubts.proofs.Calling.{served_here, sound_here}
use Rattle.grasp_laws_doubts.proofs.Opening.{PlansLast, dialled_on, near_stays}
use Rattle.grasp_laws_doubts.proofs.Parts.{agent_visit_of}
use Rattle.grasp_laws_doubts.proofs.Pending.{next_act, pending_over, step_decided}
use Rattle.grasp_laws_doubts.proofs.Sent.{IsStepOf, WasSent, kept, made, saw_sent}
use Rattle.grasp_laws_doubts.specs.Grounds.{Grounds}
use Rattle.grasp_laws_doubts.specs.Opening.{IsDialledBy, IsOpenedBy, OpenersStand}
use Rattle.grasp_laws_doubts.specs.Sending.{IsOfferedTo, SentStand, SentStands}

-- ---- an offer that stays listed

module _ (l : Grounds) (s : Setting) (w y : WorldState) (r : IsReached s w) (said : IsReached s y ⊎ NothingHappens w y) (plans : PlansLast w y) (stay : AllStay w.streams y.streams) (node : ℕ) (x : Sent) where
  pub offered_on : (b : IsOfferedTo w node x) → Contains y.offers (offer_on node x.prefix b.place) → IsOfferedTo y node x
  offered_on b listed =
      let asked : IsAsked b.talk = l.listed s w r (offer_on node x.prefix b.place) b.place b.talk b.listed refl b.stands in
      let u : Stays y.streams b.place b.talk = stay b.place b.talk b.stands in
      record {
        place = b.place;
        talk = u.after;
        stands = u.stands;
        listed = listed;
        stream = b.stream;
        far = u.ends Far (end_of node b.stream) b.far;
        takes = ap (λ (o : Objective). other (offering_by (is_return o.value))) (request_stays l.prefixes s w r b.place b.talk b.stands asked.negotiation asked.asked y said u) ∙ b.takes;
        by = dialled_on w y plans b.talk u.after x.address (near_stays y.streams b.place b.talk u) b.by;
      }

-- ---- one session of a number

-- two sessions that were made with one number, of which one is live, are the same
pub one_number : (z : Sessions) → Reached z → (p : ℕ) (x y : SessionState) → IsAt z p x → WasMade z y → x.number ≡ y.number → x ≡ y
one_number z r p x y at (inl live) e = let o = calls_in_order z r in one_there z p x y at (subst (λ q. IsAt z q y) (sym (o.apart p live.0 x y at live.1 e)) live.1)
one_number z r p x y at (inr gone) e = let o = calls_in_order z r in absurd (o.unused p x y at gone e)

-- who opened a session is among the openers
opener_is : (os : List Opener) (h : Handle) (a : Address) → opener_of os h ≡ Some a → (o : Opener) × Contains os o × (o.handle.number ≡ h.number) × (o.address ≡ a)
opener_is os h a e = by_found (find (λ (o : Opener). is_session o.handle h) os) refl e where
  by_found : (f : Option Opener) → find (λ (o : Opener). is_session o.handle h) os ≡ f → opener_address f ≡ Some a → (o : Opener) × Contains os o × (o.handle.number ≡ h.number) × (o.address ≡ a)
  by_found None is g = absurd (none-some a g)
  by_found (Some o) is g =
      let f = found_is (λ (o : Opener). is_session o.handle h) os o is in
      (o, f.0, eqb-true o.handle.number h.number f.1, same_Some o.address a g)

-- ---- a call of an agent of prefixes

module _ (l : Grounds) (s : Setting) (w : WorldState) (ds : List DoubterState) (node : ℕ) (seat : Seat) (d : DoubterState) (c : Choice) (r : IsReached s w) (present : present_life w node ≡ node)
    (is_here : is_present w node ≡ true) (here : seat_at w node ≡ Some seat) (is : numbered ds node ≡ Some d) (q : IsReached s (after_agent w (agent_visit_of w node seat) c))
    (plans : PlansLast w (after_agent w (agent_visit_of w node seat) c)) (stay : AllStay w.streams (after_agent w (agent_visit_of w node seat) c).streams)
    (openers : OpenersStand w ds) (all : SentStand w ds) where
  abbrev y : WorldState
  y = after_agent w (agent_visit_of w node seat) c

  abbrev a : AgentState
  a = seat.agent

  abbrev b : AgentState
  b = after_reply a c.reply

  abbrev f : DoubterState
  f = after_saw d b.pool (next_call a) c.reply

  keeps : IsKept a
  keeps = l.prefixes.kept s w r node seat here

  known : OffersStand w
  known = l.offers s w r

  -- a prefix that is to be offered is reserved, and stands in its entry
  offers_act : (place : ℕ) (h : Handle) (p : Prefix) → a.act ≡ Some (act.Offer place h p) → slice_get a.giving place ≡ Some (record { handle = h; offer = Some p; first = false })
  offers_act place h p e = subst (λ o. IfSome o (λ k. ActStands a k)) e keeps.act

  offers_in : (place : ℕ) (h : Handle) (p : Prefix) → a.act ≡ Some (act.Offer place h p) → OffersIn a Far h p
  offers_in place h p e = OffersIn.in_entry refl place (record { handle = h; offer = Some p; first = false }) (offers_act place h p e) refl refl

  is_reserved : (place : ℕ) (h : Handle) (p : Prefix) → a.act ≡ Some (act.Offer place h p) → Contains a.pool.reserved p
  is_reserved place h p e = offers_reserved a Far h p keeps (offers_in place h p e)

  -- ---- what is listed

  y_offers : y.offers ≡ offers_after y.streams w (agent_visit_of w node seat) c.after b
  unfolding after_agent noted
  y_offers = refl

  -- an offer of a prefix that the node has reserved or in doubt then, and isn't about to offer, stays listed
  still_listed : (x : Prefix) (place : ℕ) → IsListed b.pool x → (offered_by b.act ≡ Some x → ⊥) → Contains w.offers (offer_on node x place) → Contains y.offers (offer_on node x place)
  unfolding offers_after
  still_listed x place aside free listed =
      subst (λ os. Contains os (offer_on node x place)) (sym y_offers)
      (stays_listed y.streams (agent_visit_of w node seat) c.after (just_offered a b) (filter (is_kept (present_life w node) b.pool) w.offers) (offer_on node x place)
      (filter_has (is_kept (present_life w node) b.pool) w.offers (offer_on node x place) listed (kept_listed (present_life w node) b.pool (offer_on node x place) aside)) not_just) where
        by_begins : (j : JustOffered) → x ≡ j.prefix → Begins a b j → ⊥
        by_begins j same (decides none at e) = free (ap offered_by e ∙ ap (λ p. Some p) (sym same))
        by_begins j same (hands unsent session) =
            let o = known.once (record { node = node; prefix = j.prefix; talk = None }) (offer_on node x place) (known.unsent node seat here j.prefix unsent) listed refl (sym same) in
            none-some place (ap (λ (k : Offered). k.talk) o)

        not_just : (j : JustOffered) → just_offered a b ≡ Some j → is_offer_of (present_life w node) j.prefix (offer_on node x place) ≡ false
        not_just j e = no_offer_of (present_life w node) j.prefix (offer_on node x place) (λ n p. by_begins j p (begins a b j e))

  -- and so does one of another node
  others_listed : (n : ℕ) (x : Prefix) (place : ℕ) → n ≢ node → Contains w.offers (offer_on n x place) → Contains y.offers (offer_on n x place)
  unfolding offers_after
  others_listed n x place apart listed =
      subst (λ os. Contains os (offer_on n x place)) (sym y_offers)
      (stays_listed y.streams (agent_visit_of w node seat) c.after (just_offered a b) (filter (is_kept (present_life w node) b.pool) w.offers) (offer_on n x place)
      (filter_has (is_kept (present_life w node) b.pool) w.offers (offer_on n x place) listed (kept_other (present_life w node) b.pool (offer_on n x place) (λ e. apart (e ∙ present))))
      (λ j e. no_offer_of (present_life w node) j.prefix (offer_on n x place) (λ k p. apart (k ∙ present))))

  -- ---- an offer that is made just now

  module _ (place : ℕ) (h : Handle) (x : Sent) (acts : a.act ≡ Some (act.Offer place h x.prefix)) (opens : opener_of d.openers h ≡ Some x.address) where
    entry : EntryStands seat.core.sessions a place (record { handle = h; offer = Some x.prefix; first = false })
    entry = (l.prefixes.give s w r node seat here).entries place (record { handle = h; offer = Some x.prefix; first = false }) (offers_act place h x.prefix acts)

    listed_for : IsListedFor w node Far entry.session.stream x.prefix
    listed_for = known.offered node seat here is_here Far h x.prefix (offers_in place h x.prefix acts) entry.session entry.own

    t : IsTalkOf w node entry.session Far
    t = own_talk l.prefixes s w r node seat here h Far entry.session entry.own

    same_talk : t.talk ≡ listed_for.talk
    same_talk =
        same_Some t.talk listed_for.talk
        (sym t.stands
        ∙ (ap (λ k. slice_get w.streams k)
        (same_place l.prefixes.ready s w r (end_of node entry.session.stream) t.place listed_for.place t.talk listed_for.talk Far Far t.stands t.ends listed_for.stands listed_for.ends)
        ∙ listed_for.stands))

    not_returned : returned_in (request_of entry.session.view).value ≡ None
    not_returned =
        (subst (λ o. OfferStands o (Some x.prefix) entry.session.view) (ap (λ o. is_offering o place) acts ∙ eq-eqb place place refl) entry.offer).1

    view : IsView Far t.talk.said entry.session.view
    view = own_view l.prefixes s w r node entry.session Far t

    takes : taking_side listed_for.talk ≡ Near
    takes =
        ap (λ (u : StreamState). taking_side u) (sym same_talk)
        ∙ (ap (λ (o : Objective). other (offering_by (is_return o.value))) (sym (same_requested t.talk.said) ∙ sym view.same_request)
        ∙ ap (λ k. other (offering_by (is_some k))) not_returned)

    by : IsDialledBy w listed_for.talk x.address
    by = from (opener_is d.openers h x.address opens) where
      from : (o : Opener) × Contains d.openers o × (o.handle.number ≡ h.number) × (o.address ≡ x.address) → IsDialledBy w listed_for.talk x.address
      from o = from_opener (openers node seat here d is o.0 o.1) where
        from_opener : IsOpenedBy w node seat.core.sessions o.0 → IsDialledBy w listed_for.talk x.address
        from_opener k =
            let same : entry.session ≡ k.session =
            one_number seat.core.sessions (sound_here l s w r node seat here c).sessions h.place entry.session k.session (state_slot seat.core.sessions h entry.session entry.own.at) k.made
            (number_at seat.core.sessions h entry.session entry.own.at ∙ (sym o.2 ∙ sym k.number)) in
            let talk : k.talk ≡ listed_for.talk =
            same_Some k.talk listed_for.talk
            (sym k.stands
            ∙ (ap (λ i. slice_get w.streams i)
            (same_place l.prefixes.ready s w r (end_of node entry.session.stream) k.place listed_for.place k.talk listed_for.talk Far Far k.stands
            (k.far ∙ ap (λ (z : SessionState). Some (end_of node z.stream)) (sym same)) listed_for.stands listed_for.ends)
            ∙ listed_for.stands)) in
            subst (λ u. IsDialledBy w u x.address) talk (subst (λ e. IsDialledBy w k.talk e) o.3 k.by)

    just_offered_to : IsOfferedTo w node x
    just_offered_to =
        record { place = listed_for.place; talk = listed_for.talk; stands = listed_for.stands; listed = listed_for.listed; stream = entry.session.stream; far = listed_for.ends; takes = takes; by = by }

  -- ---- what the doubter keeps then

  valid : (place : ℕ) (h : Handle) (p : Prefix) → a.act ≡ Some (act.Offer place h p) → IsPrefix p.address p.length
  valid place h p e = keeps.pool.valid p (inl (is_reserved place h p e))

  own : (x : Sent) → Contains f.offered x → SentStands y node (seat_with c.after b) x
  own x has = from (saw_sent d b.pool (next_call a) c.reply x has) where
    from : IsListed b.pool x.prefix × WasSent d (next_call a) c.reply x → SentStands y node (seat_with c.after b) x
    from k = record { aside = k.0; offered = λ free. now free k.1 } where
      goes_on : (offered_by b.act ≡ Some x.prefix → ⊥) → IsOfferedTo w node x → IsOfferedTo y node x
      goes_on free o = offered_on l s w y r (inl q) plans stay node x o (still_listed x.prefix o.place k.0 free o.listed)

      -- where it was about to be offered, it is so still, or it was offered, or it is free again
      was_pending : (place : ℕ) (h : Handle) → a.act ≡ Some (act.Offer place h x.prefix) → (offered_by b.act ≡ Some x.prefix → ⊥) → ((h : Handle) → IsStepOf (next_call a) c.reply h x.prefix → ⊥) → ⊥
      was_pending place h e free no_step =
          by_case (pending_over a c.reply place h x.prefix (served_here l s w r node seat here c).stage keeps.pool (is_reserved place h x.prefix e) e) where
            step : c.reply ≡ reply.Api answer.Done → IsStepOf (next_call a) c.reply h x.prefix
            step done = record {
              value = prefix_value x.prefix;
              call_is = next_act a (act.Offer place h x.prefix) (served_here l s w r node seat here c).stage e;
              done = done;
              offers = prefix_again x.prefix (valid place h x.prefix e);
            }

            by_case : (offered_by b.act ≡ Some x.prefix) ⊎ ((c.reply ≡ reply.Api answer.Done) ⊎ (IsListed b.pool x.prefix → ⊥)) → ⊥
            by_case (inl i) = free i
            by_case (inr (inl done)) = no_step h (step done)
            by_case (inr (inr gone)) = gone k.0

      by_act : (o : Option Act) → a.act ≡ o → (offered_by b.act ≡ Some x.prefix → ⊥) → ((h : Handle) → IsStepOf (next_call a) c.reply h x.prefix → ⊥) → offered_by a.act ≡ Some x.prefix → ⊥
      by_act None e free no_step g = none-some x.prefix (sym (ap offered_by e) ∙ g)
      by_act (Some (act.Offer place h p)) e free no_step g =
          was_pending place h (e ∙ ap (λ z. Some (act.Offer place h z)) (same_Some p x.prefix (sym (ap offered_by e) ∙ g))) free no_step
      by_act (Some _) e free no_step g = none-some x.prefix (sym (ap offered_by e) ∙ g)

      now : (offered_by b.act ≡ Some x.prefix → ⊥) → WasSent d (next_call a) c.reply x → IsOfferedTo y node x
      now free (kept before no_step) = goes_on free ((all node seat here d is x before).offered (by_act a.act refl free no_step))
      now free (made h step opens) =
          let e = step_decided a (served_here l s w r node seat here c).stage h step.value x.prefix step.offers valid step.call_is in goes_on free (just_offered_to e.0 h x e.1 opens)

  others : (n : ℕ) (z : Seat) → n ≢ node → seat_at w n ≡ Some z → (e : DoubterState) → numbered ds n ≡ Some e → (x : Sent) → Contains e.offered x → SentStands y n z x
  others n z apart at e it x has =
      let k = all n z at e it x has in
      record { aside = k.aside; offered = λ free. let o = k.offered free in offered_on l s w y r (inl q) plans stay n x o (others_listed n x.prefix o.place apart o.listed) }

  pub agent_sent : SentStand y (with_doubter ds node f)
  agent_sent = put_both (λ n z e. (x : Sent) → Contains e.offered x → SentStands y n z x) w y ds node (seat_with c.after b) f (numbered_within w.seats node seat here).least (agent_put w node seat c present) own others
