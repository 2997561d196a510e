-- Each offer that is in doubt was the last one of a session that is over, on the stream for which it is listed.
use Rattle.std.proofs.Common.{◌≡◌, ◌≢◌, ◌⊎◌, inl, inr, refl, sym, ap, ◌∙◌, subst, arith, ℕ, ◌+◌, ◌≤◌, true, false, List, [], Contains, Some, None, length, slice_get}
use Rattle.std.proofs.lemmas.Bool.{cases_eq, true≢false}
use Rattle.std.proofs.lemmas.Option.{none-some, same_Some}
use Rattle.grasp_agent.specs.Kept.{IsKept}
use Rattle.grasp_agent.specs.Laws.{IsToBeOffered, by_act}
use Rattle.grasp_agent.specs.Replies.{after_reply, after_settling}
use Rattle.grasp_agent.specs.Reopening.{retired}
use Rattle.grasp_agent.specs.States.{AgentState}
use Rattle.grasp_agent.specs.declared.act.Act.TheVariants as act
use Rattle.grasp_laws_agent.proofs.Retiring.{agents_retire}
use Rattle.grasp_laws_agents.proofs.GoingOn.{heard_alike, nothing_heard}
use Rattle.grasp_laws_agents.specs.Giving.{HasOffered}
use Rattle.grasp_laws_agents.specs.GoingOn.{OnlyHears}
use Rattle.grasp_laws_listed.proofs.Doubting.{still_offered, HasEnded, has_ended, idle}
use Rattle.grasp_laws_listed.proofs.Reserved as reserving
use Rattle.grasp_laws_listed.specs.Doubts.{IsDoubted, IsOver, WasOffered, DoubtedWereOffered}
use Rattle.grasp_laws_listed.specs.Reserved.{IsAboutToOffer, IsOfferedOn, IsUnsent, ReservedStand}
use Rattle.grasp_laws_network.proofs.EachNode.{nodes_are_sound}
use Rattle.grasp_laws_network.proofs.Lives.{same_is_present}
use Rattle.grasp_laws_network.proofs.LivesKept.{offer_life, restart_ends, restart_still_ended, restart_still_present}
use Rattle.grasp_laws_network.proofs.Restarted.{IsRestarted, Restarting, begun_seat, retired_seat, same_end}
use Rattle.grasp_laws_network.proofs.Settled.{Settling}
use Rattle.grasp_laws_network.specs.Telling.{Tells}
use Rattle.grasp_laws_prefixes.proofs.AgentOffers.{IsListedNow, was_listed, is_new, listed_now, is_kept_now, just_reserved}
use Rattle.grasp_laws_prefixes.proofs.AgentSteps.{AgentStep}
use Rattle.grasp_laws_prefixes.proofs.Listing.{none_in, put_from}
use Rattle.grasp_laws_prefixes.proofs.Listings.{offers_are_known}
use Rattle.grasp_laws_prefixes.proofs.Networks.{is_kept}
use Rattle.grasp_laws_prefixes.proofs.OwnSteps.{IsCall}
use Rattle.grasp_laws_prefixes.proofs.Places.{same_stay}
use Rattle.grasp_laws_prefixes.proofs.RestartKeeps as restarts
use Rattle.grasp_laws_prefixes.proofs.Returned.{Takes, told_by}
use Rattle.grasp_laws_prefixes.proofs.Safe.{stand}
use Rattle.grasp_laws_prefixes.proofs.SettleKeeps as settles
use Rattle.grasp_laws_prefixes.proofs.Standing.{AllStay, SeatGoesOn, Stays, WorldGoesOn}
use Rattle.grasp_laws_prefixes.specs.Grounds.{Grounds}
use Rattle.grasp_laws_reports.proofs.Onward.{step_grows}
use Rattle.grasp_model_network.specs.EventSteps.{agent_input}
use Rattle.grasp_model_network.specs.GoodSetting.{IsGoodSetting}
use Rattle.grasp_model_network.specs.Offers.{is_offer_of}
use Rattle.grasp_model_network.specs.Runs.{IsReached, first_world}
use Rattle.grasp_model_network.specs.Sending.{seat_with}
use Rattle.grasp_model_network.specs.Setting.{Setting}
use Rattle.grasp_model_network.specs.Streams.{end_at}
use Rattle.grasp_model_network.specs.World.{Offered, Seat, WorldState, end_of, is_present, present_life, seat_at}
use Rattle.grasp_model_network.specs.declared.event.Event.{Event}
use Rattle.grasp_model_node.specs.Begin.{begin}
use Rattle.grasp_model_node.specs.Node.{NodeState}
use Rattle.grasp_model_node.specs.Step.{Calls}
use Rattle.grasp_agent.specs.Calls.{next_call}
use Rattle.grasp_pool.specs.Holdings.{Holding, IsListed}
use Rattle.grasp_pool.specs.declared.image.PoolImage.{PoolImage}
use Rattle.grasp_session.proofs.Tables.{state_slot}
use Rattle.grasp_session.specs.Says.{IsAt}
use Rattle.grasp_session.specs.Sessions.{SessionState}
use Rattle.grasp_types.specs.Prefix.{AddressBlock as Prefix}

-- what is kept: each offer that is in doubt, or of a life that has ended, was made so
abbrev Were : WorldState → Type 0
Were w = (seat : Seat) (o : Offered) (place : ℕ) → IsDoubted w seat o place → WasOffered w seat o place

-- the session has become this one, in which its end has said nothing since, and the stream is where it was
carry : (w y : WorldState) (seat new : Seat) (o : Offered) (place : ℕ) (k : WasOffered w seat o place) (z : SessionState) → z.owner ≡ k.session.owner → z.stream ≡ k.session.stream
    → OnlyHears k.session.view z.view → IsOver y o.node new.core.sessions z → Stays y.streams place k.talk → WasOffered y new o place
carry w y seat new o place k z owner stream heard over stays = record {
  session = z;
  owner = owner ∙ k.owner;
  over = over;
  talk = stays.after;
  stands = stays.stands;
  ends = stays.ends z.view.role (end_of o.node z.stream)
      (ap (end_at k.talk) (heard_alike k.session.view z.view heard).role ∙ (k.ends ∙ ap (λ (n : ℕ). Some (end_of o.node n)) (sym stream)));
  last = still_offered k.session.view z.view o.prefix heard k.last;
}

-- the same session
carry_same : (w y : WorldState) (seat new : Seat) (o : Offered) (place : ℕ) (k : WasOffered w seat o place) → IsOver y o.node new.core.sessions k.session → Stays y.streams place k.talk → WasOffered y new o place
carry_same w y seat new o place k over stays = carry w y seat new o place k k.session refl refl (nothing_heard k.session.view) over stays

-- the life of this number had these sessions, and all these doubts
record WasThere (w : WorldState) (life : ℕ) (seat : Seat) : Type 0 where
  before : Seat
  here : seat_at w life ≡ Some before
  core : seat.core ≡ before.core
  doubts : (q : Prefix) → Contains seat.agent.pool.doubtful q → Contains before.agent.pool.doubtful q

module _ (l : Grounds) (s : Setting) where
  reserved : (w : WorldState) → IsReached s w → ReservedStand w
  reserved w r = reserving.reserved_are_offered l.kept l.give nodes_are_sound.sound (offers_are_known l) s w r

  first_were : (good : IsGoodSetting s) → Were (first_world s)
  unfolding first_world
  first_were good seat o place d = absurd (none_in o d.listed)

  -- ---- where the agent does nothing

  quiet : (w y : WorldState) → IsReached s w → WorldGoesOn w y → Were w → Were y
  quiet w y r g were new o place d = from (g.seats o.node new d.here) where
    past_same : is_present y o.node ≡ is_present w o.node
    past_same = same_is_present w y o.node g.lives

    from : (seat : Seat) × (seat_at w o.node ≡ Some seat) × SeatGoesOn seat new → WasOffered y new o place
    from b = by_over k.over where
      before : Contains new.agent.pool.doubtful o.prefix ⊎ (is_present y o.node ≡ false) → Contains b.0.agent.pool.doubtful o.prefix ⊎ (is_present w o.node ≡ false)
      before (inl has) = inl (subst (λ (h : Holding). Contains h.doubtful o.prefix) b.2.pool has)
      before (inr past) = inr (sym past_same ∙ past)

      k : WasOffered w b.0 o place
      k = were b.0 o place (record { listed = subst (λ (os : List Offered). Contains os o) g.offers d.listed; on = d.on; here = b.1; doubt = before d.doubt })

      by_over : IsOver w o.node b.0.core.sessions k.session → WasOffered y new o place
      by_over (inl gone) = carry_same w y b.0 new o place k (inl (b.2.sessions.gone k.session gone)) (g.streams place k.talk k.stands)
      by_over (inr past) =
          let st = b.2.sessions.stay past.1.0 k.session past.1.1 k.owner in
          carry w y b.0 new o place k st.0 st.2.owner st.2.stream st.2.view (inr (past_same ∙ past.0, (past.1.0, st.1))) (g.streams place k.talk k.stands)

  -- ---- an agent's own step

  module _ (w y : WorldState) (r : IsReached s w) (q : IsReached s y) (a : AgentStep w y) (c : IsCall w y a) (were : Were w) where
    stays_present : is_present y a.visit.node ≡ true
    stays_present = same_is_present w y a.visit.node a.lives ∙ a.present

    -- an offer of another life was listed
    listed_there : (o : Offered) → o.node ≢ a.visit.node → Contains y.offers o → Contains w.offers o
    listed_there o apart listed = by_case (listed_now l s w y r q a (stand l s w r) o listed) where
      by_case : IsListedNow l s w y r q a (stand l s w r) o → Contains w.offers o
      by_case (was_listed old kept none) = old
      by_case (is_new j is e) = absurd (apart (ap (λ (z : Offered). z.node) e))

    other : (seat : Seat) (o : Offered) (place : ℕ) → IsDoubted y seat o place → o.node ≢ a.visit.node → WasOffered y seat o place
    other seat o place d apart = by_over k.over where
      past_same : is_present y o.node ≡ is_present w o.node
      past_same = same_is_present w y o.node a.lives

      before : Contains seat.agent.pool.doubtful o.prefix ⊎ (is_present y o.node ≡ false) → Contains seat.agent.pool.doubtful o.prefix ⊎ (is_present w o.node ≡ false)
      before (inl has) = inl has
      before (inr past) = inr (sym past_same ∙ past)

      k : WasOffered w seat o place
      k = were seat o place (record { listed = listed_there o apart d.listed; on = d.on; here = sym (a.others o.node apart) ∙ d.here; doubt = before d.doubt })

      by_over : IsOver w o.node seat.core.sessions k.session → WasOffered y seat o place
      by_over (inl gone) = carry_same w y seat seat o place k (inl gone) (a.streams place k.talk k.stands)
      by_over (inr past) = carry_same w y seat seat o place k (inr (past_same ∙ past.0, past.1)) (a.streams place k.talk k.stands)

    -- the agent's own, of which the call is one
    module _ (o : Offered) (place : ℕ) (on : o.talk ≡ Some place) (own : o.node ≡ a.visit.node) (doubtful : Contains a.agent.pool.doubtful o.prefix) (listed : Contains w.offers o) where
      here : seat_at w o.node ≡ Some a.visit.seat
      here = ap (seat_at w) own ∙ a.here

      present : is_present w o.node ≡ true
      present = ap (is_present w) own ∙ a.present

      kept : IsKept a.visit.seat.agent
      kept = l.kept s w r a.visit.node a.visit.seat a.here

      -- in doubt before
      was_doubtful : Contains a.visit.seat.agent.pool.doubtful o.prefix → WasOffered y (seat_with a.core a.agent) o place
      was_doubtful was = by_over k.over where
        k : WasOffered w a.visit.seat o place
        k = were a.visit.seat o place (record { listed = listed; on = on; here = here; doubt = inl was })

        by_over : IsOver w o.node a.visit.seat.core.sessions k.session → WasOffered y (seat_with a.core a.agent) o place
        by_over (inl gone) =
            carry_same w y a.visit.seat (seat_with a.core a.agent) o place k
            (inl ((step_grows a.visit.seat.core a.core c.now (agent_input a.visit.seat.agent) c.coming c.reply c.steps).gone k.session gone)) (a.streams place k.talk k.stands)
        by_over (inr past) = absurd (true≢false (sym present ∙ past.0))

      -- reserved before
      was_reserved : Contains a.visit.seat.agent.pool.reserved o.prefix → WasOffered y (seat_with a.core a.agent) o place
      was_reserved was = by_case ((reserved w r).each a.visit.seat o (record { listed = listed; here = here; present = present; reserved = was })) where
        calls : Calls (begin a.visit.seat.core c.now) 1 (next_call a.visit.seat.agent) c.reply a.core
        calls = subst (λ (n : ℕ). Calls (begin a.visit.seat.core c.now) n (next_call a.visit.seat.agent) c.reply a.core) (l.serve s w r a.visit.node a.visit.seat a.here).number c.steps.acts

        now_doubtful : Contains (after_reply a.visit.seat.agent c.reply).pool.doubtful o.prefix
        now_doubtful = subst (λ (b : AgentState). Contains b.pool.doubtful o.prefix) c.agent_is doubtful

        by_case : IsOfferedOn w a.visit.seat o ⊎ IsUnsent a.visit.seat o → WasOffered y (seat_with a.core a.agent) o place
        by_case (inr unsent) = absurd (none-some place (sym unsent.none ∙ on))
        by_case (inl f) = from (has_ended l.means a.visit.seat.core (begin a.visit.seat.core c.now) a.core a.visit.seat.agent c.reply o.prefix kept (l.goes_on.begins a.visit.seat.core c.now) calls was now_doubtful f.side f.handle f.session f.offers f.own) where
          offered : HasOffered f.session.view o.prefix ⊎ IsAboutToOffer a.visit.seat.agent f.handle o.prefix → HasOffered f.session.view o.prefix
          offered (inl h) = h
          offered (inr about) =
              absurd (none-some (act.Offer about.0 f.handle o.prefix) (sym (idle l.means a.visit.seat.core (begin a.visit.seat.core c.now) a.core a.visit.seat.agent c.reply o.prefix kept (l.goes_on.begins a.visit.seat.core c.now) calls was now_doubtful) ∙ about.1))

          at_place : slice_get w.streams place ≡ Some f.talk
          at_place = ap (slice_get w.streams) (same_Some place f.place (sym on ∙ f.is)) ∙ f.stands

          stays : Stays y.streams place f.talk
          stays = a.streams place f.talk at_place

          from : HasEnded a.visit.seat.core a.core f.session → WasOffered y (seat_with a.core a.agent) o place
          from e = record {
            session = e.session;
            owner = e.heard.owner ∙ f.own.owner;
            over = inl e.gone;
            talk = stays.after;
            stands = stays.stands;
            ends = stays.ends e.session.view.role (end_of o.node e.session.stream)
                (ap (end_at f.talk) ((heard_alike f.session.view e.session.view e.heard.view).role ∙ f.own.role) ∙ (f.ends ∙ ap (λ (n : ℕ). Some (end_of o.node n)) (sym e.heard.stream)));
            last = still_offered f.session.view e.session.view o.prefix e.heard.view (offered f.last);
          }

      mine : WasOffered y (seat_with a.core a.agent) o place
      mine = by_case (a.moves.doubtful o.prefix doubtful) where
        by_case : Contains a.visit.seat.agent.pool.doubtful o.prefix ⊎ Contains a.visit.seat.agent.pool.reserved o.prefix → WasOffered y (seat_with a.core a.agent) o place
        by_case (inl was) = was_doubtful was
        by_case (inr was) = was_reserved was

    agent_were : Were y
    agent_were seat o place d = by_node (cases_eq o.node a.visit.node) where
      by_node : (o.node ≡ a.visit.node) ⊎ (o.node ≡ a.visit.node → ⊥) → WasOffered y seat o place
      by_node (inr apart) = other seat o place d apart
      by_node (inl own) = subst (λ (z : Seat). WasOffered y z o place) seat_is (by_doubt (subst (λ (z : Seat). Contains z.agent.pool.doubtful o.prefix ⊎ (is_present y o.node ≡ false)) (sym seat_is) d.doubt)) where
        seat_is : seat_with a.core a.agent ≡ seat
        seat_is = same_Some (seat_with a.core a.agent) seat (sym a.there ∙ (ap (seat_at y) (sym own) ∙ d.here))

        by_list : Contains a.agent.pool.doubtful o.prefix → IsListedNow l s w y r q a (stand l s w r) o → WasOffered y (seat_with a.core a.agent) o place
        by_list has (was_listed old still none) = mine o place d.on own has old
        by_list has (is_new j is e) =
            absurd ((is_kept_now l s w y r q a (stand l s w r)).pool.once o.prefix
            (subst (Contains a.agent.pool.reserved) (sym (ap (λ (z : Offered). z.prefix) e)) (just_reserved l s w y r q a (stand l s w r) j is)) has)

        by_doubt : Contains a.agent.pool.doubtful o.prefix ⊎ (is_present y o.node ≡ false) → WasOffered y (seat_with a.core a.agent) o place
        by_doubt (inl has) = by_list has (listed_now l s w y r q a (stand l s w r) o d.listed)
        by_doubt (inr past) = absurd (true≢false (sym stays_present ∙ (ap (is_present y) (sym own) ∙ past)))

  -- ---- a return that the agent takes

  taken : (w x : WorldState) → IsReached s w → Takes w x → Were w → Were x
  taken w x r t were seat o place d = by_list (put_from w.offers t.node t.prefix None o (subst (λ (os : List Offered). Contains os o) t.offers d.listed)) where
    past_same : is_present x o.node ≡ is_present w o.node
    past_same = same_is_present w x o.node t.lives

    was_there : WasThere w o.node seat
    was_there = by_node (cases_eq o.node t.node) where
      by_node : (o.node ≡ t.node) ⊎ (o.node ≡ t.node → ⊥) → WasThere w o.node seat
      by_node (inr apart) = record { before = seat; here = sym (t.others o.node apart) ∙ d.here; core = refl; doubts = λ z has. has }
      by_node (inl own) =
          let is : seat_with t.seat.core t.agent ≡ seat = same_Some (seat_with t.seat.core t.agent) seat (sym t.there ∙ (ap (seat_at x) (sym own) ∙ d.here)) in
          record {
            before = t.seat;
            here = ap (seat_at w) own ∙ t.here;
            core = ap (λ (z : Seat). z.core) (sym is);
            doubts = λ z has. subst (λ (ps : List Prefix). Contains ps z) (ap (λ (y : Seat). y.agent.pool.doubtful) (sym is) ∙ t.reserves.doubtful) has;
          }

    before : Contains seat.agent.pool.doubtful o.prefix ⊎ (is_present x o.node ≡ false) → Contains was_there.before.agent.pool.doubtful o.prefix ⊎ (is_present w o.node ≡ false)
    before (inl has) = inl (was_there.doubts o.prefix has)
    before (inr past) = inr (sym past_same ∙ past)

    stays : AllStay w.streams x.streams
    stays = same_stay w.streams x.streams t.streams

    listed_before : Contains w.offers o → WasOffered x seat o place
    listed_before old = by_over k.over where
      k : WasOffered w was_there.before o place
      k = were was_there.before o place (record { listed = old; on = d.on; here = was_there.here; doubt = before d.doubt })

      by_over : IsOver w o.node was_there.before.core.sessions k.session → WasOffered x seat o place
      by_over (inl gone) = carry_same w x was_there.before seat o place k (inl (subst (λ (z : NodeState). Contains z.sessions.gone k.session) (sym was_there.core) gone)) (stays place k.talk k.stands)
      by_over (inr past) =
          carry_same w x was_there.before seat o place k (inr (past_same ∙ past.0, (past.1.0, subst (λ (z : NodeState). IsAt z.sessions past.1.0 k.session) (sym was_there.core) past.1.1))) (stays place k.talk k.stands)

    by_list : (Contains w.offers o × (is_offer_of t.node t.prefix o ≡ false)) ⊎ (o ≡ record { node = t.node; prefix = t.prefix; talk = None }) → WasOffered x seat o place
    by_list (inl old) = listed_before old.0
    by_list (inr e) = absurd (none-some place (sym (ap (λ (z : Offered). z.talk) e) ∙ d.on))

  told : (w x : WorldState) (e : Event) → IsReached s w → Tells s w e x → Were w → Were x
  told w x e r t were = by_case (told_by l s w r e x t) where
    by_case : WorldGoesOn w x ⊎ Takes w x → Were x
    by_case (inl g) = quiet w x r g were
    by_case (inr takes) = taken w x r takes were

  -- ---- a settling

  settle : (w x : WorldState) (node : ℕ) (p : Prefix) → IsReached s w → Settling w node p x → Were w → Were x
  settle w x node p r t were seat o place d = by_over k.over where
    past_same : is_present x o.node ≡ is_present w o.node
    past_same = settles.same_presence l s w x node p r t o.node

    was_there : WasThere w o.node seat
    was_there = by_node (cases_eq o.node (present_life w node)) where
      by_node : (o.node ≡ present_life w node) ⊎ (o.node ≡ present_life w node → ⊥) → WasThere w o.node seat
      by_node (inr apart) = record { before = seat; here = sym (t.others o.node apart) ∙ d.here; core = refl; doubts = λ z has. has }
      by_node (inl own) =
          let is = same_Some (seat_with t.seat.core (after_settling t.seat.agent p)) seat (sym t.own ∙ (ap (seat_at x) (sym own) ∙ d.here)) in
          record {
            before = t.seat;
            here = ap (seat_at w) own ∙ t.here;
            core = ap (λ (z : Seat). z.core) (sym is);
            doubts = λ z has. (((settles.settles l s w x node p r t).doubtful z).0 (subst (λ (y : Seat). Contains y.agent.pool.doubtful z) (sym is) has)).0;
          }

    before : Contains seat.agent.pool.doubtful o.prefix ⊎ (is_present x o.node ≡ false) → Contains was_there.before.agent.pool.doubtful o.prefix ⊎ (is_present w o.node ≡ false)
    before (inl has) = inl (was_there.doubts o.prefix has)
    before (inr past) = inr (sym past_same ∙ past)

    k : WasOffered w was_there.before o place
    k = were was_there.before o place (record { listed = (t.were o d.listed).0; on = d.on; here = was_there.here; doubt = before d.doubt })

    stays : Stays x.streams place k.talk
    stays = same_stay w.streams x.streams t.streams place k.talk k.stands

    by_over : IsOver w o.node was_there.before.core.sessions k.session → WasOffered x seat o place
    by_over (inl gone) = carry_same w x was_there.before seat o place k (inl (subst (λ (z : NodeState). Contains z.sessions.gone k.session) (sym was_there.core) gone)) stays
    by_over (inr past) =
        carry_same w x was_there.before seat o place k (inr (past_same ∙ past.0, (past.1.0, subst (λ (z : NodeState). IsAt z.sessions past.1.0 k.session) (sym was_there.core) past.1.1))) stays

  -- ---- a restart

  module _ (w x : WorldState) (node : ℕ) (image : PoolImage) (r : IsReached s w) (t : Restarting s w node image x) (were : Were w) (o : Offered) (place : ℕ) (on : o.talk ≡ Some place) (listed : Contains x.offers o) where
    abbrev life : ℕ
    life = present_life w node

    was : Contains w.offers o
    was = (t.were_offered o listed).0

    stays : AllStay w.streams x.streams
    stays at u stands = let v = t.told at u stands in record { after = v.0; stands = v.1; ends = λ side e is. same_end s node life u v.0 v.2 side ∙ is; newer = []; said = v.2.same.said }

    -- the life that ends
    ending : o.node ≡ life → WasOffered x (retired_seat t.seat) o place
    ending own = by_listed ((t.were_offered o listed).1 own) where
      here : seat_at w o.node ≡ Some t.seat
      here = ap (seat_at w) own ∙ t.here

      present : is_present w o.node ≡ true
      present = ap (is_present w) own ∙ restarts.life_present l s w x node image r t

      past : is_present x o.node ≡ false
      past = ap (is_present x) own ∙ restart_ends s w node image x t (l.lives s w r)

      doubted : Contains t.seat.agent.pool.doubtful o.prefix → WasOffered x (retired_seat t.seat) o place
      doubted has = by_over k.over where
        k : WasOffered w t.seat o place
        k = were t.seat o place (record { listed = was; on = on; here = here; doubt = inl has })

        by_over : IsOver w o.node t.seat.core.sessions k.session → WasOffered x (retired_seat t.seat) o place
        by_over (inl gone) = carry_same w x t.seat (retired_seat t.seat) o place k (inl gone) (stays place k.talk k.stands)
        by_over (inr gone) = absurd (true≢false (sym present ∙ gone.0))

      set_aside : Contains t.seat.agent.pool.reserved o.prefix → ¬ IsToBeOffered t.seat.agent o.prefix → WasOffered x (retired_seat t.seat) o place
      set_aside has not = by_case ((reserved w r).each t.seat o (record { listed = was; here = here; present = present; reserved = has })) where
        by_case : IsOfferedOn w t.seat o ⊎ IsUnsent t.seat o → WasOffered x (retired_seat t.seat) o place
        by_case (inr unsent) = absurd (none-some place (sym unsent.none ∙ on))
        by_case (inl f) = record {
          session = f.session;
          owner = f.own.owner;
          over = inr (past, (f.handle.place, state_slot t.seat.core.sessions f.handle f.session f.own.at));
          talk = there.after;
          stands = there.stands;
          ends = there.ends f.session.view.role (end_of o.node f.session.stream) (ap (end_at f.talk) f.own.role ∙ f.ends);
          last = offered f.last;
        } where
          there : Stays x.streams place f.talk
          there = stays place f.talk (ap (slice_get w.streams) (same_Some place f.place (sym on ∙ f.is)) ∙ f.stands)

          offered : HasOffered f.session.view o.prefix ⊎ IsAboutToOffer t.seat.agent f.handle o.prefix → HasOffered f.session.view o.prefix
          offered (inl h) = h
          offered (inr about) = absurd (not (by_act about.0 f.handle about.1))

      by_listed : IsListed (retired t.seat.agent).pool o.prefix → WasOffered x (retired_seat t.seat) o place
      by_listed (inr has) = doubted (subst (λ (ps : List Prefix). Contains ps o.prefix) (agents_retire t.seat.agent).doubtful has)
      by_listed (inl has) =
          let both = ((agents_retire t.seat.agent).reserved (restarts.was_kept l s w x node image r t) o.prefix).0 has in set_aside both.0 both.1

    -- each other life
    going : (seat : Seat) → o.node ≢ life → seat_at w o.node ≡ Some seat → Contains seat.agent.pool.doubtful o.prefix ⊎ (is_present x o.node ≡ false) → WasOffered x seat o place
    going seat apart here doubt = by_over k.over where
      before : Contains seat.agent.pool.doubtful o.prefix ⊎ (is_present x o.node ≡ false) → Contains seat.agent.pool.doubtful o.prefix ⊎ (is_present w o.node ≡ false)
      before (inl has) = inl has
      before (inr past) = inr (sym (restart_still_present s w node image x t (l.lives s w r) o.node seat here apart) ∙ past)

      k : WasOffered w seat o place
      k = were seat o place (record { listed = was; on = on; here = here; doubt = before doubt })

      by_over : IsOver w o.node seat.core.sessions k.session → WasOffered x seat o place
      by_over (inl gone) = carry_same w x seat seat o place k (inl gone) (stays place k.talk k.stands)
      by_over (inr past) = carry_same w x seat seat o place k (inr (restart_still_ended s w node image x t (l.lives s w r) o.node seat here past.0, past.1)) (stays place k.talk k.stands)

    restart_were : (seat : Seat) → seat_at x o.node ≡ Some seat → Contains seat.agent.pool.doubtful o.prefix ⊎ (is_present x o.node ≡ false) → WasOffered x seat o place
    restart_were seat there doubt = by_case (t.each o.node seat there) where
      by_case : IsRestarted w life (retired_seat t.seat) (begun_seat t.member image) o.node seat → WasOffered x seat o place
      by_case (IsRestarted.ended life_is seat_is) = subst (λ (z : Seat). WasOffered x z o place) seat_is (ending life_is)
      by_case (IsRestarted.goes_on apart here) = going seat apart here doubt
      by_case (IsRestarted.begins life_is seat_is) = absurd (let within : o.node ≤ length w.seats = (offer_life s w o r was).most in let is : o.node ≡ length w.seats + 1 = life_is in omega arith)

  -- ---- all of it

  all_were : (w : WorldState) → IsReached s w → Were w
  all_were w r = is_kept l s Were (record {
    quiet = λ x y p g said f. quiet x y p g f;
    agent = λ x y p q a c f. agent_were x y p q a c f;
    told = λ x y e p t f. told x y e p t f;
    settles = λ x y node p q t f. settle x y node p q t f;
    restarts = λ x y node image q t f seat o place d. restart_were x y node image q t f o place d.on d.listed seat d.here d.doubt;
  }) (first_were r.good) w r

pub doubted_were_offered : Grounds → DoubtedWereOffered
doubted_were_offered l s w r = all_were l s w r
