-- To whom prefixes were offered stays as a doubter keeps it, in each part of an event but the call of an agent of prefixes.
use Rattle.std.proofs.Common.{◌≡◌, ◌≢◌, ◌⊎◌, inl, inr, refl, sym, ap, ◌∙◌, subst, ℕ, ◌≤◌, List, Contains, Option, None, Some, Result, Ok, Err}
use Rattle.std.proofs.lemmas.Bool.{cases_eq}
use Rattle.std.proofs.lemmas.Option.{same_Some}
use Rattle.grasp_agent.specs.Replies as agent
use Rattle.grasp_agent.specs.Replies.{AgentEvent, after_settling}
use Rattle.grasp_agent.specs.States.{AgentState, offered_by}
use Rattle.grasp_agent.specs.declared.back.ReturnFault.{ReturnFault}
use Rattle.grasp_agent.specs.declared.want.WantFault.{WantFault}
use Rattle.grasp_doubter.specs.Asking.{after_ask}
use Rattle.grasp_doubter.specs.Calls as doubter
use Rattle.grasp_doubter.specs.Replies.{after_take}
use Rattle.grasp_doubter.specs.States.{DoubterState}
use Rattle.grasp_doubter.specs.declared.asking.AskFault.{AskFault}
use Rattle.grasp_doubter.specs.declared.seen.Sent.{Sent}
use Rattle.grasp_pool.proofs.Addresses.{first_in}
use Rattle.grasp_pool.specs.Holdings.{Holding, IsListed}
use Rattle.grasp_types.specs.Prefix.{AddressBlock as Prefix}
use Rattle.grasp_types.specs.declared.address.Locator.{Locator}
use Rattle.grasp_model_network.specs.EventSteps.{after_agent_call}
use Rattle.grasp_model_network.specs.Offers.{is_offer_of}
use Rattle.grasp_model_network.specs.Runs.{IsReached}
use Rattle.grasp_model_network.specs.Sending.{seat_with}
use Rattle.grasp_model_network.specs.Setting.{Setting, numbered}
use Rattle.grasp_model_network.specs.Settling.{IsDead, after_settle}
use Rattle.grasp_model_network.specs.Visits.{Choice}
use Rattle.grasp_model_network.specs.World.{Offered, Seat, WorldState, member_of, present_life, seat_at}
use Rattle.grasp_model_network.specs.declared.event.Event.{Event}
use Rattle.grasp_model_doubts.specs.World.{with_doubter}
use Rattle.grasp_laws_delivery.proofs.AfterSteps.{put_or}
use Rattle.grasp_laws_network.proofs.Here.{numbered_within}
use Rattle.grasp_laws_network.proofs.Settled.{IsSameOffer, Settling, settling_is}
use Rattle.grasp_laws_network.proofs.Telling.{one_agent, one_least}
use Rattle.grasp_laws_network.specs.Telling.{IsNoReply, OneAgent, Tells}
use Rattle.grasp_laws_prefixes.proofs.Listing.{no_offer_of, put_keeps}
use Rattle.grasp_laws_prefixes.proofs.Places.{same_stay}
use Rattle.grasp_laws_prefixes.proofs.Returned.{Takes, told_by}
use Rattle.grasp_laws_prefixes.proofs.SettleKeeps.{settles}
use Rattle.grasp_laws_prefixes.proofs.Standing.{AllStay, WorldGoesOn}
use Rattle.grasp_laws_prefixes.specs.Apart.{offer_on}
use Rattle.grasp_laws_doubts.proofs.Both.{call_put, put_both, put_doubter}
use Rattle.grasp_laws_doubts.proofs.Cores.{SameCores, cores_plans, settled_cores, told_cores}
use Rattle.grasp_laws_doubts.proofs.Forgetting.{Forgets, take_forgets}
use Rattle.grasp_laws_doubts.proofs.Offering.{offered_on}
use Rattle.grasp_laws_doubts.proofs.Opening.{PlansLast}
use Rattle.grasp_laws_doubts.proofs.Parts.{doubter_visit_of}
use Rattle.grasp_laws_doubts.proofs.Quiet.{IsQuiet}
use Rattle.grasp_laws_doubts.proofs.Taking.{HasSeen, ask_seen, take_seen}
use Rattle.grasp_laws_doubts.specs.Grounds.{Grounds}
use Rattle.grasp_laws_doubts.specs.Sending.{IsOfferedTo, SentStand, SentStands}

-- ---- where agents and offers are the same

module _ (l : Grounds) (s : Setting) (w y : WorldState) (ds : List DoubterState) (r : IsReached s w) (q : IsReached s y) (plans : PlansLast w y) (goes : WorldGoesOn w y) (all : SentStand w ds) where
  still_offered : (node : ℕ) (x : Sent) → IsOfferedTo w node x → IsOfferedTo y node x
  still_offered node x o = offered_on l s w y r (inl q) plans goes.streams node x o (subst (λ (os : List Offered). Contains os (offer_on node x.prefix o.place)) (sym goes.offers) o.listed)

  -- no agent of prefixes did anything
  pub quiet_sent : IsQuiet w y → SentStand y ds
  quiet_sent k node new there d is x has = record {
    aside = subst (λ (b : AgentState). IsListed b.pool x.prefix) (sym same) e.aside;
    offered = λ free. still_offered node x (e.offered (λ g. free (ap (λ (b : AgentState). offered_by b.act) same ∙ g)));
  } where
    seat : Seat
    seat = (k.seats node new there).0

    same : new.agent ≡ seat.agent
    same = (k.seats node new there).2.agent

    e : SentStands w node seat x
    e = all node seat (k.seats node new there).1 d is x has

  -- a doubter has called
  pub call_sent : (node : ℕ) (seat : Seat) (d : DoubterState) (c : Choice) → present_life w node ≡ node → seat_at w node ≡ Some seat → numbered ds node ≡ Some d
      → y ≡ after_agent_call w (doubter_visit_of w node seat d) 2 (doubter.next_call d) c → SentStand y (with_doubter ds node (after_take d seat.agent c.reply).after)
  call_sent node seat d c present here is after =
      put_both (λ n z e. (x : Sent) → Contains e.offered x → SentStands y n z x) w y ds node (seat_with c.after seat.agent) (after_take d seat.agent c.reply).after (numbered_within w.seats node seat here).least
      (ap (λ (z : WorldState). z.seats) after ∙ call_put w node seat d c present)
      (λ x has. let k = all node seat here d is x ((take_seen d seat.agent c.reply).sent x has) in record { aside = k.aside; offered = λ free. still_offered node x (k.offered free) })
      (λ n z apart at e it x has. let k = all n z at e it x has in record { aside = k.aside; offered = λ free. still_offered n x (k.offered free) })

-- a question is to be asked
pub ask_sent : (w : WorldState) (ds : List DoubterState) (node : ℕ) (d : DoubterState) (p : Prefix) (peer : Locator) (z : Result (Unit {0}) AskFault) → 1 ≤ node → numbered ds node ≡ Some d → SentStand w ds
    → SentStand w (with_doubter ds node (after_ask d p peer z))
ask_sent w ds node d p peer z least is all =
    put_doubter (λ n seat e. (x : Sent) → Contains e.offered x → SentStands w n seat x) w ds node (after_ask d p peer z) least
    (λ seat here x has. all node seat here d is x ((ask_seen d p peer z).sent x has)) all

-- ---- where an agent of prefixes is told something

event_act : (a : AgentState) (what : AgentEvent) → IsNoReply what → (agent.after_event a what).act ≡ a.act
event_act a (agent.wanted n longest peer) other = by_reply (agent.want_reply a) where
  by_reply : (z : Result (Unit {0}) WantFault) → (agent.after_want a n longest peer z).act ≡ a.act
  by_reply (Ok done) = refl
  by_reply (Err fault) = refl
event_act a (agent.returned p peer) other = by_reply (agent.return_reply a p) where
  by_reply : (z : Result (Unit {0}) ReturnFault) → (agent.after_return a p peer z).act ≡ a.act
  by_reply (Ok done) = refl
  by_reply (Err fault) = refl
event_act a (agent.replied r) other = absurd other

-- each agent has the act that it had
pub told_acts : (s : Setting) (w x : WorldState) (e : Event) → Tells s w e x → (node : ℕ) (new : Seat) → seat_at x node ≡ Some new
    → (seat : Seat) × (seat_at w node ≡ Some seat) × (new.agent.act ≡ seat.agent.act)
told_acts s w x e t node new there =
    by_case (put_or w.seats o.node (seat_with o.seat.core o.agent) node new (one_least w x o) (subst (λ xs. numbered xs node ≡ Some new) (ap (λ (z : WorldState). z.seats) o.after) there)) where
      o : OneAgent w x
      o = one_agent s w e x t

      by_case : ((node ≡ o.node) × (seat_with o.seat.core o.agent ≡ new)) ⊎ ((node ≢ o.node) × (numbered w.seats node ≡ Some new))
          → (seat : Seat) × (seat_at w node ≡ Some seat) × (new.agent.act ≡ seat.agent.act)
      by_case (inl k) = (o.seat, ap (λ n. seat_at w n) k.0 ∙ o.here, ap (λ (z : Seat). z.agent.act) (sym k.1) ∙ event_act t.seat.agent t.telling.what t.no_reply)
      by_case (inr k) = (new, k.1, refl)

module _ (l : Grounds) (s : Setting) (w x : WorldState) (ds : List DoubterState) (e : Event) (r : IsReached s w) (q : IsReached s x) (t : Tells s w e x) (all : SentStand w ds)
    (node : ℕ) (new : Seat) (there : seat_at x node ≡ Some new) (d : DoubterState) (is : numbered ds node ≡ Some d) (y : Sent) (has : Contains d.offered y) where
  acts : (seat : Seat) × (seat_at w node ≡ Some seat) × (new.agent.act ≡ seat.agent.act)
  acts = told_acts s w x e t node new there

  abbrev seat : Seat
  seat = acts.0

  here : seat_at w node ≡ Some seat
  here = acts.1

  was : SentStands w node seat y
  was = all node seat here d is y has

  told_on : (IsListed new.agent.pool y.prefix) → ((place : ℕ) → Contains w.offers (offer_on node y.prefix place) → Contains x.offers (offer_on node y.prefix place)) → SentStands x node new y
  told_on aside listed = record {
    aside = aside;
    offered = λ free.
        let o = was.offered (λ g. free (ap offered_by acts.2 ∙ g)) in
        offered_on l s w x r (inl q) (cores_plans w x (told_cores s w x e t)) (same_stay w.streams x.streams (told_cores s w x e t).streams) node y o (listed o.place o.listed);
  }

  goes_told : WorldGoesOn w x → SentStands x node new y
  goes_told g =
      let f = g.seats node new there in
      told_on
      (subst (λ (h : Holding). IsListed h y.prefix) (sym (f.2.pool ∙ ap (λ (z : Seat). z.agent.pool) (same_Some f.0 seat (sym f.1 ∙ here)))) was.aside)
      (λ place listed. subst (λ (os : List Offered). Contains os (offer_on node y.prefix place)) (sym g.offers) listed)

  taken_told : Takes w x → SentStands x node new y
  taken_told u = told_on aside listed where
    -- what is returned wasn't reserved or in doubt
    unlisted : IsListed u.seat.agent.pool u.prefix → ⊥
    unlisted h = (l.prefixes.kept s w r u.node u.seat u.here).pool.held u.prefix u.prefix.address h (first_in u.prefix) (u.reserves.was u.prefix.address (first_in u.prefix))

    seat_is : node ≡ u.node → seat ≡ u.seat
    seat_is same = same_Some seat u.seat (sym here ∙ (ap (λ n. seat_at w n) same ∙ u.here))

    in_pool : IsListed u.seat.agent.pool y.prefix → IsListed u.agent.pool y.prefix
    in_pool (inl reserved) = inl ((u.reserves.reserved y.prefix).1 (inl reserved))
    in_pool (inr doubtful) = inr (subst (λ ps. Contains ps y.prefix) (sym u.reserves.doubtful) doubtful)

    aside : IsListed new.agent.pool y.prefix
    aside = by_node (cases_eq node u.node) where
      by_node : (node ≡ u.node) ⊎ (node ≡ u.node → ⊥) → IsListed new.agent.pool y.prefix
      by_node (inl same) =
          subst (λ (z : Seat). IsListed z.agent.pool y.prefix) (same_Some (seat_with u.seat.core u.agent) new (sym u.there ∙ (ap (λ n. seat_at x n) (sym same) ∙ there)))
          (in_pool (subst (λ (z : Seat). IsListed z.agent.pool y.prefix) (seat_is same) was.aside))
      by_node (inr apart) = subst (λ (z : Seat). IsListed z.agent.pool y.prefix) (same_Some seat new (sym here ∙ (sym (u.others node apart) ∙ there))) was.aside

    listed : (place : ℕ) → Contains w.offers (offer_on node y.prefix place) → Contains x.offers (offer_on node y.prefix place)
    listed place h =
        subst (λ (os : List Offered). Contains os (offer_on node y.prefix place)) (sym u.offers)
        (put_keeps w.offers u.node u.prefix None (offer_on node y.prefix place) h
        (no_offer_of u.node u.prefix (offer_on node y.prefix place)
        (λ same p. unlisted (subst (λ n. IsListed u.seat.agent.pool n) p (subst (λ (z : Seat). IsListed z.agent.pool y.prefix) (seat_is same) was.aside)))))

  told_sent_at : SentStands x node new y
  told_sent_at = by_case (told_by l.prefixes s w r e x t) where
    by_case : WorldGoesOn w x ⊎ Takes w x → SentStands x node new y
    by_case (inl g) = goes_told g
    by_case (inr u) = taken_told u

pub told_sent : (l : Grounds) (s : Setting) (w x : WorldState) (ds : List DoubterState) (e : Event) → IsReached s w → IsReached s x → Tells s w e x → SentStand w ds → SentStand x ds
told_sent l s w x ds e r q t all node new there d is y has = told_sent_at l s w x ds e r q t all node new there d is y has

-- ---- where a prefix is settled

module _ (l : Grounds) (s : Setting) (w : WorldState) (ds : List DoubterState) (node : ℕ) (p : Prefix) (f : DoubterState) (r : IsReached s w) (q : IsReached s (after_settle w node p)) (dead : IsDead w node p)
    (present : present_life w node ≡ node) (members : (n : ℕ) (seat : Seat) → seat_at w n ≡ Some seat → member_of w n ≡ n) (is : numbered ds node ≡ Some f) (forgets : Forgets p f) (all : SentStand w ds) where
  abbrev y : WorldState
  y = after_settle w node p

  t : Settling w node p y
  t = settling_is w node p dead

  plans : PlansLast w y
  plans = cores_plans w y (settled_cores w node p dead)

  stay : AllStay w.streams y.streams
  stay = same_stay w.streams y.streams t.streams

  still_listed : (n : ℕ) (x : Sent) (place : ℕ) → (n ≡ node → x.prefix ≡ p → ⊥) → (seat : Seat) → seat_at w n ≡ Some seat → Contains w.offers (offer_on n x.prefix place) → Contains y.offers (offer_on n x.prefix place)
  still_listed n x place other seat here listed =
      t.stay (offer_on n x.prefix place) listed (λ same. other (sym (members n seat here) ∙ (ap (λ m. member_of w m) (sym same.0) ∙ t.is.member)) (sym same.1 ∙ t.is.prefix))

  on : (n : ℕ) (x : Sent) → (n ≡ node → x.prefix ≡ p → ⊥) → (seat : Seat) → seat_at w n ≡ Some seat → IsOfferedTo w n x → IsOfferedTo y n x
  on n x other seat here o = offered_on l s w y r (inl q) plans stay n x o (still_listed n x o.place other seat here o.listed)

  -- what stays reserved or in doubt
  in_pool : (x : Sent) → (x.prefix ≡ p → ⊥) → IsListed t.seat.agent.pool x.prefix → IsListed (after_settling t.seat.agent p).pool x.prefix
  in_pool x other (inl reserved) = inl (subst (λ ps. Contains ps x.prefix) (sym (settles l.prefixes s w y node p r t).reserved) reserved)
  in_pool x other (inr doubtful) = inr (((settles l.prefixes s w y node p r t).doubtful x.prefix).1 (doubtful, other))

  own_here : seat_at w node ≡ Some t.seat
  own_here = ap (λ n. seat_at w n) (sym present) ∙ t.here

  own : (new : Seat) → seat_at y node ≡ Some new → (x : Sent) → Contains f.offered x → SentStands y node new x
  own new there x has =
      let other : x.prefix ≡ p → ⊥ = forgets.gone x has in
      let k = all node t.seat own_here f is x has in
      subst (λ (z : Seat). SentStands y node z x) (same_Some (seat_with t.seat.core (after_settling t.seat.agent p)) new (sym t.own ∙ (ap (λ n. seat_at y n) present ∙ there)))
      (own_new x other k)
    where
      own_new : (x : Sent) → (x.prefix ≡ p → ⊥) → SentStands w node t.seat x → SentStands y node (seat_with t.seat.core (after_settling t.seat.agent p)) x
      own_new x other k = record { aside = in_pool x other k.aside; offered = λ free. on node x (λ same. other) t.seat own_here (k.offered free) }

  pub settle_sent : SentStand y ds
  settle_sent n new there d it x has = by_node (cases_eq n node) where
    by_node : (n ≡ node) ⊎ (n ≡ node → ⊥) → SentStands y n new x
    by_node (inl same) =
        subst (λ k. SentStands y k new x) (sym same)
        (own new (ap (λ k. seat_at y k) (sym same) ∙ there) x (subst (λ (z : DoubterState). Contains z.offered x) (same_Some d f (sym it ∙ (ap (λ k. numbered ds k) same ∙ is))) has))
    by_node (inr apart) =
        let here : seat_at w n ≡ Some new = sym (t.others n (λ e. apart (e ∙ present))) ∙ there in
        let k = all n new here d it x has in
        record { aside = k.aside; offered = λ free. on n x (λ same. absurd (apart same)) new here (k.offered free) }
