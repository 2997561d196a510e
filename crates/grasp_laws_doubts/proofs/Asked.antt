-- What a doubter asks for stays in doubt, and known as offered, in each part of an event.
use Rattle.std.proofs.Common.{◌≡◌, ◌≢◌, ◌⊎◌, inl, inr, refl, sym, ap, ◌∙◌, subst, ℕ, ◌≤◌, Bool, true, false, cond, List, Contains, Option, None, Some, Result, Ok, Err, find}
use Rattle.std.proofs.lemmas.Bool.{cases_eq}
use Rattle.std.proofs.lemmas.List.Folds.{Any-from_list_any}
use Rattle.std.proofs.lemmas.Option.{none-some, same_Some}
use Rattle.std.specs.List.{list_any}
use Rattle.grasp_agent.specs.Calls.{next_call}
use Rattle.grasp_agent.specs.Kept.{IsKept}
use Rattle.grasp_agent.specs.Replies.{after_reply, after_settling}
use Rattle.grasp_agent.specs.States.{AgentState, offered_by}
use Rattle.grasp_agent.specs.declared.act.Act.TheVariants as act
use Rattle.grasp_doubter.specs.Asking.{after_ask, ask_reply, asking_of, fault_of_sent, is_doubtful}
use Rattle.grasp_doubter.specs.Calls as doubter
use Rattle.grasp_doubter.specs.Replies.{after_take}
use Rattle.grasp_doubter.specs.Seeing.{after_saw, sent_address, sent_to}
use Rattle.grasp_doubter.specs.States.{DoubterState, is_prefix}
use Rattle.grasp_doubter.specs.declared.asking.Ask.{Ask}
use Rattle.grasp_doubter.specs.declared.asking.AskFault.{AskFault}
use Rattle.grasp_doubter.specs.declared.asking.AskFault.TheVariants as fault
use Rattle.grasp_doubter.specs.declared.seen.Sent.{Sent}
use Rattle.grasp_pool.specs.Holdings.{Holding}
use Rattle.grasp_types.specs.Prefix.{AddressBlock as Prefix, IsPrefix}
use Rattle.grasp_types.specs.declared.address.Address.{Address}
use Rattle.grasp_types.specs.declared.address.Locator.{Locator}
use Rattle.grasp_types.specs.declared.session.Handle.{Handle}
use Rattle.grasp_model_node.specs.Step.{NodeStep}
use Rattle.grasp_model_network.specs.EventSteps.{after_agent, after_agent_call, agent_input}
use Rattle.grasp_model_network.specs.Runs.{IsReached}
use Rattle.grasp_model_network.specs.Sending.{seat_with}
use Rattle.grasp_model_network.specs.Setting.{Setting, numbered}
use Rattle.grasp_model_network.specs.Settling.{IsDead, after_settle}
use Rattle.grasp_model_network.specs.Visits.{Choice}
use Rattle.grasp_model_network.specs.World.{Seat, WorldState, present_life, seat_at}
use Rattle.grasp_model_network.specs.declared.event.Event.{Event}
use Rattle.grasp_model_doubts.specs.World.{with_doubter}
use Rattle.grasp_laws_agents.specs.OfferLaws.{AgentMoves}
use Rattle.grasp_laws_network.proofs.Here.{numbered_within}
use Rattle.grasp_laws_network.proofs.Lists.{found_is}
use Rattle.grasp_laws_network.proofs.Offers.{same_prefix}
use Rattle.grasp_laws_network.proofs.Settled.{Settling, settling_is}
use Rattle.grasp_laws_network.specs.Telling.{Tells}
use Rattle.grasp_laws_prefixes.proofs.Returned.{Takes, told_by}
use Rattle.grasp_laws_prefixes.proofs.Standing.{WorldGoesOn}
use Rattle.grasp_laws_doubts.proofs.Asking.{AskedFor, AskedStand}
use Rattle.grasp_laws_doubts.proofs.Both.{agent_put, call_put, put_both, put_doubter}
use Rattle.grasp_laws_doubts.proofs.Calling.{served_here}
use Rattle.grasp_laws_doubts.proofs.Decisions.{not_pending, pending_reserved}
use Rattle.grasp_laws_doubts.proofs.Forgetting.{Forgets, take_keeps}
use Rattle.grasp_laws_doubts.proofs.Parts.{agent_visit_of, doubter_visit_of}
use Rattle.grasp_laws_doubts.proofs.Pending.{step_decided}
use Rattle.grasp_laws_doubts.proofs.Quiet.{IsQuiet}
use Rattle.grasp_laws_doubts.proofs.Resting.{saw_rest, saw_stays}
use Rattle.grasp_laws_doubts.proofs.Sent.{IsStepOf}
use Rattle.grasp_laws_doubts.proofs.Taken.{WasAsk, asked, began, take_ask}
use Rattle.grasp_laws_doubts.specs.Grounds.{Grounds}

-- ---- no agent did anything

pub quiet_asked : (w y : WorldState) (ds : List DoubterState) → IsQuiet w y → AskedStand w ds → AskedStand y ds
quiet_asked w y ds k all node new there d is j ask =
    let f = k.seats node new there in
    let e = all node f.0 f.1 d is j ask in
    record { doubtful = subst (λ (b : AgentState). Contains b.pool.doubtful j.prefix) (sym f.2.agent) e.doubtful; sent = e.sent }

-- ---- a call of an agent of prefixes

module _ (l : Grounds) (s : Setting) (w : WorldState) (ds : List DoubterState) (node : ℕ) (seat : Seat) (d : DoubterState) (c : Choice) (r : IsReached s w) (present : present_life w node ≡ node)
    (here : seat_at w node ≡ Some seat) (is : numbered ds node ≡ Some d) (step : NodeStep seat.core seat.core.reading (agent_input seat.agent) c.coming c.reply c.after) (all : AskedStand w ds) where
  abbrev a : AgentState
  a = seat.agent

  abbrev b : AgentState
  b = after_reply a c.reply

  abbrev f : DoubterState
  f = after_saw d b.pool (next_call a) c.reply

  keeps : IsKept a
  keeps = l.prefixes.kept s w r node seat here

  moves : AgentMoves seat.core c.after a b
  moves = l.prefixes.move s w r node seat here seat.core.reading c.coming c.reply c.after step

  -- a prefix that is to be offered is one
  valid : (place : ℕ) (h : Handle) (p : Prefix) → a.act ≡ Some (act.Offer place h p) → IsPrefix p.address p.length
  valid place h p e = keeps.pool.valid p (inl (pending_reserved a keeps place h p e))

  own : (k : Ask) → f.ask ≡ Some k → AskedFor (seat_with c.after b) f k
  own k ask = record { doubtful = still; sent = saw_stays d (record { prefix = k.prefix; address = k.address }) e.sent b.pool (next_call a) c.reply (inr still) no_step } where
    e : AskedFor seat d k
    e = all node seat here d is k (sym (saw_rest d b.pool (next_call a) c.reply).ask ∙ ask)

    still : Contains b.pool.doubtful k.prefix
    still = moves.keeps_doubts k.prefix e.doubtful

    no_step : (h : Handle) → IsStepOf (next_call a) c.reply h k.prefix → ⊥
    no_step h x =
        let o = step_decided a (served_here l s w r node seat here c).stage h x.value k.prefix x.offers valid x.call_is in
        not_pending a k.prefix keeps e.doubtful (ap offered_by o.1)

  pub agent_asked : AskedStand (after_agent w (agent_visit_of w node seat) c) (with_doubter ds node f)
  agent_asked =
      put_both (λ n z x. (k : Ask) → x.ask ≡ Some k → AskedFor z x k) w (after_agent w (agent_visit_of w node seat) c) ds node (seat_with c.after b) f
      (numbered_within w.seats node seat here).least (agent_put w node seat c present) own (λ n z apart at x it. all n z at x it)

-- ---- a call of a doubter

module _ (w : WorldState) (ds : List DoubterState) (node : ℕ) (seat : Seat) (d : DoubterState) (c : Choice) (present : present_life w node ≡ node) (here : seat_at w node ≡ Some seat)
    (is : numbered ds node ≡ Some d) (all : AskedStand w ds) where
  abbrev taker : DoubterState
  taker = (after_take d seat.agent c.reply).after

  call_own : (k : Ask) → taker.ask ≡ Some k → AskedFor (seat_with c.after seat.agent) taker k
  call_own k ask = by_case (take_ask d seat.agent c.reply k ask) where
    by_case : WasAsk d seat.agent c.reply k → AskedFor (seat_with c.after seat.agent) taker k
    by_case (asked was) =
        let e = all node seat here d is k was in
        record { doubtful = e.doubtful; sent = take_keeps d seat.agent c.reply k ask (record { prefix = k.prefix; address = k.address }) e.sent }
    by_case (began b h none was un told same) =
        let e = all node seat here d is b was in
        subst (λ (z : Ask). AskedFor (seat_with c.after seat.agent) taker z) (sym same)
        (record { doubtful = e.doubtful; sent = take_keeps d seat.agent c.reply k ask (record { prefix = b.prefix; address = b.address }) e.sent })

  pub call_asked : AskedStand (after_agent_call w (doubter_visit_of w node seat d) 2 (doubter.next_call d) c) (with_doubter ds node taker)
  call_asked =
      put_both (λ n z x. (k : Ask) → x.ask ≡ Some k → AskedFor z x k) w (after_agent_call w (doubter_visit_of w node seat d) 2 (doubter.next_call d) c) ds node (seat_with c.after seat.agent) taker
      (numbered_within w.seats node seat here).least (call_put w node seat d c present) call_own (λ n z apart at x it. all n z at x it)

-- ---- an agent of prefixes is told something

told_doubts : (l : Grounds) (s : Setting) (w x : WorldState) (e : Event) → IsReached s w → Tells s w e x → (node : ℕ) (new : Seat) → seat_at x node ≡ Some new
    → (seat : Seat) × (seat_at w node ≡ Some seat) × (new.agent.pool.doubtful ≡ seat.agent.pool.doubtful)
told_doubts l s w x e r t node new there = by_case (told_by l.prefixes s w r e x t) where
  by_case : WorldGoesOn w x ⊎ Takes w x → (seat : Seat) × (seat_at w node ≡ Some seat) × (new.agent.pool.doubtful ≡ seat.agent.pool.doubtful)
  by_case (inl g) = let f = g.seats node new there in (f.0, f.1, ap (λ (h : Holding). h.doubtful) f.2.pool)
  by_case (inr u) = by_node (cases_eq node u.node) where
    by_node : (node ≡ u.node) ⊎ (node ≡ u.node → ⊥) → (seat : Seat) × (seat_at w node ≡ Some seat) × (new.agent.pool.doubtful ≡ seat.agent.pool.doubtful)
    by_node (inl same) = (
      u.seat,
      ap (λ n. seat_at w n) same ∙ u.here,
      ap (λ (z : Seat). z.agent.pool.doubtful) (same_Some new (seat_with u.seat.core u.agent) (sym there ∙ (ap (λ n. seat_at x n) same ∙ u.there))) ∙ u.reserves.doubtful,
    )
    by_node (inr apart) = (new, sym (u.others node apart) ∙ there, refl)

pub told_asked : (l : Grounds) (s : Setting) (w x : WorldState) (ds : List DoubterState) (e : Event) → IsReached s w → Tells s w e x → AskedStand w ds → AskedStand x ds
told_asked l s w x ds e r t all node new there d is j ask =
    let f = told_doubts l s w x e r t node new there in
    let k = all node f.0 f.1 d is j ask in
    record { doubtful = subst (λ (ps : List Prefix). Contains ps j.prefix) (sym f.2) k.doubtful; sent = k.sent }

-- ---- a prefix is settled

pub settle_asked : (w : WorldState) (ds : List DoubterState) (node : ℕ) (p : Prefix) (f : DoubterState) → IsDead w node p → present_life w node ≡ node → numbered ds node ≡ Some f → Forgets p f → AskedStand w ds
    → AskedStand (after_settle w node p) ds
settle_asked w ds node p f dead present is forgets all n new there d it j ask = by_node (cases_eq n node) where
  t : Settling w node p (after_settle w node p)
  t = settling_is w node p dead

  by_node : (n ≡ node) ⊎ (n ≡ node → ⊥) → AskedFor new d j
  by_node (inl same) = absurd (none-some j (sym forgets.ask ∙ (ap (λ (z : DoubterState). z.ask) (same_Some f d (sym is ∙ (ap (λ k. numbered ds k) (sym same) ∙ it))) ∙ ask)))
  by_node (inr apart) = all n new (sym (t.others n (λ e. apart (e ∙ present))) ∙ there) d it j ask

-- ---- a question is to be asked

doubt_in : (ps : List Prefix) (p : Prefix) → list_any (is_prefix p) ps ≡ true → Contains ps p
doubt_in ps p e =
    let f = Any-from_list_any (is_prefix p) ps e in
    subst (λ q. Contains ps q) (sym (same_prefix p f.1 f.4)) (f.0, f.2, f.3)

-- a question that is taken is of a prefix in doubt
ask_doubtful : (d : DoubterState) (h : Holding) (p : Prefix) (done : Unit {0}) → ask_reply d h p ≡ Ok done → Contains h.doubtful p
ask_doubtful d h p done e = by_ask d.ask e where
  by_test : (b : Bool) → is_doubtful h p ≡ b → cond b (fault_of_sent (sent_to d.offered p)) (Err fault.NotDoubtful) ≡ Ok done → Contains h.doubtful p
  by_test true is f = doubt_in h.doubtful p is
  by_test false is f = absurd (cc)

  by_ask : (o : Option Ask) → ask_reply (record d { ask = o }) h p ≡ Ok done → Contains h.doubtful p
  by_ask None f = by_test (is_doubtful h p) refl f
  by_ask (Some k) f = absurd (cc)

-- whom it is asked, the prefix was offered to
sent_in : (ss : List Sent) (p : Prefix) (a : Address) → sent_to ss p ≡ Some a → Contains ss (record { prefix = p; address = a })
sent_in ss p a e = by_found (find (λ (s : Sent). is_prefix s.prefix p) ss) refl e where
  by_found : (o : Option Sent) → find (λ (s : Sent). is_prefix s.prefix p) ss ≡ o → sent_address o ≡ Some a → Contains ss (record { prefix = p; address = a })
  by_found None is f = absurd (none-some a f)
  by_found (Some x) is f =
      let k = found_is (λ (s : Sent). is_prefix s.prefix p) ss x is in
      subst (λ y. Contains ss y) (entry x (same_prefix x.prefix p k.1) (same_Some x.address a f)) k.0 where
        entry : (x : Sent) → x.prefix ≡ p → x.address ≡ a → x ≡ record { prefix = p; address = a }
        entry x e f = ap (λ q. sent_with q x.address) e ∙ ap (λ b. sent_with p b) f where
          sent_with : Prefix → Address → Sent
          sent_with q b = record { prefix = q; address = b }

pub ask_asked : (w : WorldState) (ds : List DoubterState) (node : ℕ) (d : DoubterState) (p : Prefix) (peer : Locator) (seat : Seat) → 1 ≤ node → numbered ds node ≡ Some d → seat_at w node ≡ Some seat → AskedStand w ds
    → AskedStand w (with_doubter ds node (after_ask d p peer (ask_reply d seat.agent.pool p)))
ask_asked w ds node d p peer seat least is here all =
    put_doubter (λ n z e. (k : Ask) → e.ask ≡ Some k → AskedFor z e k) w ds node (after_ask d p peer (ask_reply d seat.agent.pool p)) least
    (λ z at. by_reply (ask_reply d seat.agent.pool p) refl z (same_Some seat z (sym here ∙ at))) all where
      by_sent : Contains seat.agent.pool.doubtful p → (z : Seat) → seat ≡ z → (o : Option Address) → sent_to d.offered p ≡ o → (k : Ask) → (asking_of d p peer o).ask ≡ Some k → AskedFor z (asking_of d p peer o) k
      by_sent doubtful z same None to k e = subst (λ (y : Seat). AskedFor y d k) same (all node seat here d is k e)
      by_sent doubtful z same (Some a) to k e =
          subst (λ (j : Ask). AskedFor z (asking_of d p peer (Some a)) j) (same_Some (record { prefix = p; address = a; peer = peer; session = None }) k e)
          (record { doubtful = subst (λ (y : Seat). Contains y.agent.pool.doubtful p) same doubtful; sent = sent_in d.offered p a to })

      by_reply : (o : Result (Unit {0}) AskFault) → ask_reply d seat.agent.pool p ≡ o → (z : Seat) → seat ≡ z → (k : Ask) → (after_ask d p peer o).ask ≡ Some k → AskedFor z (after_ask d p peer o) k
      by_reply (Err x) told z same k e = subst (λ (y : Seat). AskedFor y d k) same (all node seat here d is k e)
      by_reply (Ok done) told z same k e = by_sent (ask_doubtful d seat.agent.pool p done told) z same (sent_to d.offered p) refl k e
