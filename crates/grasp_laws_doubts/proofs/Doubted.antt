-- How the doubters of a network stand is kept by every event, and each prefix that one settles is dead; so a network of doubters is one that turns lead to.
use Rattle.std.proofs.Common.{◌≡◌, ◌≢◌, ◌⊎◌, inl, inr, refl, sym, ap, ◌∙◌, subst, arith, ℕ, ◌-◌, ◌≤◌, Bool, true, false, List, [], ◌∷◌, length, Contains, Option, None, Some, slice_set}
use Rattle.std.proofs.lemmas.List.{length-set}
use Rattle.std.proofs.lemmas.Option.{same_Some}
use Rattle.grasp_agent.specs.Calls.{next_call}
use Rattle.grasp_agent.specs.Replies.{after_reply}
use Rattle.grasp_agent.specs.States.{AgentState}
use Rattle.grasp_doubter.specs.Asking.{after_ask, ask_reply}
use Rattle.grasp_doubter.specs.Calls as doubter
use Rattle.grasp_doubter.specs.Questions.{doubt_name}
use Rattle.grasp_doubter.specs.Replies.{Taken, after_take}
use Rattle.grasp_doubter.specs.Seeing.{after_saw}
use Rattle.grasp_doubter.specs.States.{DoubterState}
use Rattle.grasp_types.specs.Address.{IsAddress}
use Rattle.grasp_types.specs.Prefix.{AddressBlock as Prefix}
use Rattle.grasp_types.specs.declared.address.Locator.{Locator}
use Rattle.grasp_types.specs.declared.traffic.Input.TheVariants as input
use Rattle.grasp_model_node.specs.BoundedNodes.{IsBoundedNode}
use Rattle.grasp_model_node.specs.Node.{NodeState}
use Rattle.grasp_model_node.specs.Step.{NodeStep}
use Rattle.grasp_model_node.specs.declared.plan.NodePlan.{NodePlan}
use Rattle.grasp_model_network.specs.EventSteps.{after_agent, after_agent_call, agent_input}
use Rattle.grasp_model_network.specs.Events.{Occurs, after_event, after_visit, drained_behind, visit_of}
use Rattle.grasp_model_network.specs.Plans.{IsNode}
use Rattle.grasp_model_network.specs.Runs.{IsReached, first_world}
use Rattle.grasp_model_network.specs.Sending as network
use Rattle.grasp_model_network.specs.Sending.{event_drain, seat_with}
use Rattle.grasp_model_network.specs.Setting.{Setting, numbered}
use Rattle.grasp_model_network.specs.Settling.{IsDead, after_settle}
use Rattle.grasp_model_network.specs.Visits.{Choice, Visit}
use Rattle.grasp_model_network.specs.World.{Offered, Seat, WorldState, is_present, member_of, present_life, seat_at}
use Rattle.grasp_model_network.specs.declared.event.Event.{Event}
use Rattle.grasp_model_network.specs.declared.event.Event.TheVariants as event
use Rattle.grasp_model_doubts.specs.Answered.{WasAnswered}
use Rattle.grasp_model_doubts.specs.Events.{CallOccurs, DoubtOccurs, doubt_event}
use Rattle.grasp_model_doubts.specs.Runs.{IsToldOpeners}
use Rattle.grasp_model_doubts.specs.Steps.{after_doubter_call, doubter_event, taken_at, taken_beside}
use Rattle.grasp_model_doubts.specs.World.{DoubtState, with_doubter}
use Rattle.grasp_model_doubts.specs.declared.event.DoubtEvent.{DoubtEvent}
use Rattle.grasp_model_doubts.specs.declared.event.DoubtEvent.TheVariants as doubt
use Rattle.grasp_laws_delivery.proofs.Holding.{held_reached}
use Rattle.grasp_laws_delivery.proofs.Worlds.{reached_in_order}
use Rattle.grasp_laws_network.proofs.Going.{reached_more, settled_reached}
use Rattle.grasp_laws_network.proofs.Here.{numbered_within, present_least}
use Rattle.grasp_laws_network.proofs.Lists.{numbered_put}
use Rattle.grasp_laws_network.proofs.Lives.{first_count, first_member, first_present, same_member, same_present}
use Rattle.grasp_laws_network.proofs.LivesKept.{lives_are_kept}
use Rattle.grasp_laws_network.proofs.Settled.{Settling, settling_is}
use Rattle.grasp_laws_network.proofs.SameLives.{event_lives}
use Rattle.grasp_laws_network.proofs.Staying.{put_here}
use Rattle.grasp_laws_network.proofs.Telling.{one_agent}
use Rattle.grasp_laws_network.specs.Telling.{OneAgent, Tells}
use Rattle.grasp_laws_node.proofs.PlansStay.{step_plan}
use Rattle.grasp_laws_owned.specs.Laws.{OwnersKeep}
use Rattle.grasp_laws_prefixes.proofs.AgentSteps.{AgentStep}
use Rattle.grasp_laws_prefixes.proofs.OwnSteps.{IsCall, own_step}
use Rattle.grasp_laws_prefixes.proofs.QuietSteps.{others_go_on}
use Rattle.grasp_laws_prefixes.proofs.Standing.{AllStay, WorldGoesOn}
use Rattle.grasp_laws_doubts.proofs.Accepting as accepting
use Rattle.grasp_laws_doubts.proofs.Asked.{agent_asked, ask_asked, call_asked, quiet_asked, settle_asked, told_asked}
use Rattle.grasp_laws_doubts.proofs.Asking.{AskedStand, AsksStand}
use Rattle.grasp_laws_doubts.proofs.Both.{agent_put, call_put, put_both, put_doubter}
use Rattle.grasp_laws_doubts.proofs.Called.{call_asks}
use Rattle.grasp_laws_doubts.proofs.Calling.{IsCalled, doubter_called, doubter_serves}
use Rattle.grasp_laws_doubts.proofs.Cores.{SameCores, cores_plans, put_plans, settled_cores, told_cores}
use Rattle.grasp_laws_doubts.proofs.Dead.{settled_answered, settled_dead}
use Rattle.grasp_laws_doubts.proofs.Decisions.{PlansStand}
use Rattle.grasp_laws_doubts.proofs.Forgetting.{Forgets, take_forgets}
use Rattle.grasp_laws_doubts.proofs.Offered.{ask_sent, call_sent, quiet_sent, settle_sent, told_sent}
use Rattle.grasp_laws_doubts.proofs.Offering.{agent_sent}
use Rattle.grasp_laws_doubts.proofs.Openers.{agent_openers, agent_plans, cores_openers, doubter_openers}
use Rattle.grasp_laws_doubts.proofs.Opening.{PlansLast, going_openers, quiet_plans}
use Rattle.grasp_laws_doubts.proofs.Parts.{DoubtPartsKeep, after_is, agent_visit_of, behind_agent, doubter_visit_of, step_of}
use Rattle.grasp_laws_doubts.proofs.Questions.{agent_asks, agent_serves_on, ask_asks, cores_stay, quiet_asks, settle_asks, stay_serves, told_asks}
use Rattle.grasp_laws_doubts.proofs.Quiet.{IsQuiet, drain_quiet, quiet_serves, step_quiet}
use Rattle.grasp_laws_doubts.proofs.Resting.{saw_rest}
use Rattle.grasp_laws_doubts.proofs.Taking.{ask_seen, take_seen}
use Rattle.grasp_laws_doubts.specs.Grounds.{Grounds}
use Rattle.grasp_laws_doubts.specs.Opening.{OpenersStand}
use Rattle.grasp_laws_doubts.specs.Remembering.{AcceptedStand}
use Rattle.grasp_laws_doubts.specs.Sending.{SentStand}
use Rattle.grasp_laws_doubts.specs.Standing.{OfEachDoubter, ServeStand, ServesDoubts}

-- ---- how they stand

-- each doubter has the address of its node
abbrev pub AddressesStand : WorldState → List DoubterState → Type 0
AddressesStand w ds = OfEachDoubter (λ node seat d. d.address ≡ seat.core.plan.address) w ds

-- each member has one life and a doubter; and all that is kept of them
pub record DoubtersStand (s : Setting) (w : WorldState) (ds : List DoubterState) : Type 0 where
  pub lives : w.lives ≡ (first_world s).lives
  pub count : length ds ≡ length s.members
  pub addresses : AddressesStand w ds
  pub plans : PlansStand w
  pub serve : ServeStand w
  pub accepted : AcceptedStand w ds
  pub openers : OpenersStand w ds
  pub sent : SentStand w ds
  pub asked : AskedStand w ds
  pub asks : AsksStand w ds

-- ---- plans

-- each node was there
abbrev WereThere : WorldState → WorldState → Type 0
WereThere w y = (node : ℕ) (new : Seat) → seat_at y node ≡ Some new → (seat : Seat) × (seat_at w node ≡ Some seat)

plans_stand : (w y : WorldState) → PlansLast w y → WereThere w y → PlansStand w → PlansStand y
plans_stand w y plans were k = record { ranges = ranges; apart = apart } where
  before : (node : ℕ) (new : Seat) → seat_at y node ≡ Some new → (seat : Seat) × (seat_at w node ≡ Some seat) × (new.core.plan.address ≡ seat.core.plan.address)
  before node new there =
      let f = were node new there in
      let g = plans node f.0 f.1 in
      (f.0, f.1, ap (λ (z : Seat). z.core.plan.address) (same_Some new g.0 (sym there ∙ g.1)) ∙ ap (λ (p : NodePlan). p.address) g.2)

  ranges : (node : ℕ) (new : Seat) → seat_at y node ≡ Some new → IsAddress new.core.plan.address
  ranges node new there = let f = before node new there in subst IsAddress (sym f.2) (k.ranges node f.0 f.1)

  apart : (n m : ℕ) (x z : Seat) → seat_at y n ≡ Some x → seat_at y m ≡ Some z → x.core.plan.address ≡ z.core.plan.address → n ≡ m
  apart n m x z at_n at_m e =
      let f = before n x at_n in
      let g = before m z at_m in
      k.apart n m f.0 g.0 f.1 g.1 (sym f.2 ∙ (e ∙ g.2))

addresses_last : (w y : WorldState) (ds : List DoubterState) → PlansLast w y → WereThere w y → AddressesStand w ds → AddressesStand y ds
addresses_last w y ds plans were all node new there d is =
    let f = were node new there in
    let g = plans node f.0 f.1 in
    all node f.0 f.1 d is ∙ sym (ap (λ (z : Seat). z.core.plan.address) (same_Some new g.0 (sym there ∙ g.1)) ∙ ap (λ (p : NodePlan). p.address) g.2)

address_put : (w : WorldState) (ds : List DoubterState) (node : ℕ) (d f : DoubterState) → 1 ≤ node → numbered ds node ≡ Some d → f.address ≡ d.address → AddressesStand w ds → AddressesStand w (with_doubter ds node f)
address_put w ds node d f least is same all = put_doubter (λ n seat e. e.address ≡ seat.core.plan.address) w ds node f least (λ seat here. same ∙ all node seat here d is) all

put_there : (w y : WorldState) (node : ℕ) (seat new : Seat) → 1 ≤ node → seat_at w node ≡ Some seat → y.seats ≡ slice_set w.seats (node - 1) new → WereThere w y
put_there w y node seat new least here seats n z there = by_node (numbered_put w.seats node n new z least (subst (λ xs. numbered xs n ≡ Some z) seats there)) where
  by_node : ((n ≡ node) × (new ≡ z)) ⊎ ((n ≢ node) × (numbered w.seats n ≡ Some z)) → (x : Seat) × (seat_at w n ≡ Some x)
  by_node (inl k) = (seat, ap (λ m. seat_at w m) k.0 ∙ here)
  by_node (inr k) = (z, k.1)

module _ (l : Grounds) (s : Setting) (told_so : IsToldOpeners s) where
  -- ---- numbers

  module _ (w : WorldState) (ds : List DoubterState) (k : DoubtersStand s w ds) where
    pub member_present : (node : ℕ) → IsNode (length s.members) node → present_life w node ≡ node
    member_present node is = same_present (first_world s) w node k.lives ∙ first_present s node is

    member_own : (node : ℕ) → IsNode (length s.members) node → member_of w node ≡ node
    member_own node is = same_member (first_world s) w node k.lives ∙ first_member s node is

    pub doubter_member : (node : ℕ) (d : DoubterState) → numbered ds node ≡ Some d → IsNode (length s.members) node
    doubter_member node d is = subst (λ m. IsNode m node) k.count (numbered_within ds node d is)

    seat_member : IsReached s w → (node : ℕ) (seat : Seat) → seat_at w node ≡ Some seat → IsNode (length s.members) node
    seat_member r node seat here =
        subst (λ m. IsNode m node) (sym (lives_are_kept s w r).count ∙ (ap (λ ls. length ls) k.lives ∙ first_count s)) (numbered_within w.seats node seat here)

  -- ---- no agent did anything

  quiet_stand : (w y : WorldState) (ds : List DoubterState) → IsReached s w → IsReached s y → IsQuiet w y → DoubtersStand s w ds → DoubtersStand s y ds
  quiet_stand w y ds r q quiet k = record {
    lives = quiet.goes.lives ∙ k.lives;
    count = k.count;
    addresses = addresses_last w y ds plans were k.addresses;
    plans = plans_stand w y plans were k.plans;
    serve = quiet_serves w y quiet;
    accepted = accepting.quiet_accepted w y ds quiet.goes k.accepted;
    openers = going_openers w y ds quiet.goes plans k.openers;
    sent = quiet_sent l s w y ds r q plans quiet.goes k.sent quiet;
    asked = quiet_asked w y ds quiet k.asked;
    asks = quiet_asks l s w y ds r q quiet k.asked k.asks;
  } where
    plans : PlansLast w y
    plans = quiet_plans w y quiet

    were : WereThere w y
    were node new there = let f = quiet.seats node new there in (f.0, f.1)

  -- ---- a call of an agent of prefixes

  agent_stand : (w : WorldState) (ds : List DoubterState) (node : ℕ) (hold : Bool) (c : Choice) (seat : Seat) (d : DoubterState) → IsReached s w → DoubtersStand s w ds → Occurs s w (event.Agent node hold) c
      → visit_of s w (event.Agent node hold) ≡ Some (agent_visit_of w node seat) → seat_at w (present_life w node) ≡ Some seat → numbered ds node ≡ Some d
      → NodeStep seat.core seat.core.reading (agent_input seat.agent) c.coming c.reply c.after → IsReached s (after_agent w (agent_visit_of w node seat) c)
      → DoubtersStand s (after_agent w (agent_visit_of w node seat) c) (with_doubter ds node (after_saw d (after_reply seat.agent c.reply).pool (next_call seat.agent) c.reply))
  agent_stand w ds node hold c seat d r k o visit_is at is step q = record {
    lives = a.lives ∙ k.lives;
    count = length-set ds (node - 1) f ∙ k.count;
    addresses =
        put_both (λ n z e. e.address ≡ z.core.plan.address) w y ds node new f least (agent_put w node seat c present)
        ((saw_rest d (after_reply seat.agent c.reply).pool (next_call seat.agent) c.reply).address ∙ (k.addresses node seat here d is ∙ sym (ap (λ (p : NodePlan). p.address) plan))) (λ n z apart there e it. k.addresses n z there e it);
    plans = plans_stand w y plans (put_there w y node seat new least here (agent_put w node seat c present)) k.plans;
    serve = agent_serves_on l s w ds node hold seat d c r o visit_is present here is step q k.serve;
    accepted = accepting.agent_accepted l s w ds node seat d c r present here is step k.accepted;
    openers = agent_openers l s told_so w ds node seat d c r present here is step q a.streams k.openers;
    sent = agent_sent l s w ds node seat d c r present is_here here is q plans a.streams k.openers k.sent;
    asked = agent_asked l s w ds node seat d c r present here is step k.asked;
    asks = agent_asks l s w ds node hold seat d c r o visit_is present here is step q k.serve k.asked k.asks;
  } where
    y : WorldState
    y = after_agent w (agent_visit_of w node seat) c

    f : DoubterState
    f = after_saw d (after_reply seat.agent c.reply).pool (next_call seat.agent) c.reply

    new : Seat
    new = seat_with c.after (after_reply seat.agent c.reply)

    present : present_life w node ≡ node
    present = member_present w ds k node (doubter_member w ds k node d is)

    here : seat_at w node ≡ Some seat
    here = ap (λ m. seat_at w m) (sym present) ∙ at

    least : 1 ≤ node
    least = (numbered_within ds node d is).least

    a : AgentStep w y
    a = (own_step l.prefixes s w node hold c (agent_visit_of w node seat) r o visit_is).0

    is_here : is_present w node ≡ true
    is_here = ap (λ m. is_present w m) (sym present) ∙ l.prefixes.present s w (event.Agent node hold) (agent_visit_of w node seat) r o.fit visit_is

    plan : c.after.plan ≡ seat.core.plan
    plan = step_plan seat.core c.after seat.core.reading (agent_input seat.agent) c.coming c.reply step

    plans : PlansLast w y
    plans = agent_plans l s told_so w ds node seat d c r present here is step q a.streams k.openers

  -- ---- a call of a doubter

  module _ (w : WorldState) (ds : List DoubterState) (node : ℕ) (c : Choice) (seat : Seat) (d : DoubterState) (r : IsReached s w) (k : DoubtersStand s w ds) (o : Occurs s w (doubter_event d node) c)
      (visit_is : visit_of s w (doubter_event d node) ≡ Some (doubter_visit_of w node seat d)) (at : seat_at w (present_life w node) ≡ Some seat) (is : numbered ds node ≡ Some d)
      (step : NodeStep seat.core seat.core.reading (input.Api 2 (doubter.next_call d)) c.coming c.reply c.after) (q : IsReached s (after_agent_call w (doubter_visit_of w node seat d) 2 (doubter.next_call d) c)) where
    abbrev y : WorldState
    y = after_agent_call w (doubter_visit_of w node seat d) 2 (doubter.next_call d) c

    abbrev f : DoubterState
    f = (after_take d seat.agent c.reply).after

    abbrev new : Seat
    new = seat_with c.after seat.agent

    present : present_life w node ≡ node
    present = member_present w ds k node (doubter_member w ds k node d is)

    here : seat_at w node ≡ Some seat
    here = ap (λ m. seat_at w m) (sym present) ∙ at

    least : 1 ≤ node
    least = (numbered_within ds node d is).least

    goes : WorldGoesOn w y
    goes = others_go_on l.prefixes s w (doubter_event d node) c (doubter_visit_of w node seat d) r o visit_is tt

    plan : c.after.plan ≡ seat.core.plan
    plan = step_plan seat.core c.after seat.core.reading (input.Api 2 (doubter.next_call d)) c.coming c.reply step

    plans : PlansLast w y
    plans = put_plans w y node seat new least here (call_put w node seat d c present) plan

    were : WereThere w y
    were = put_there w y node seat new least here (call_put w node seat d c present)

    different : PlansStand y
    different = plans_stand w y plans were k.plans

    sound : IsBoundedNode seat.core
    sound = ((reached_in_order l.prefixes.ties s w r).sound node seat here).0

    owners : OwnersKeep 2 doubt_name 2 seat.core c.after
    owners = l.owners 2 doubt_name 2 seat.core c.after seat.core.reading (doubter.next_call d) c.coming c.reply (omega arith) sound (k.serve node seat here).serves (doubter_serves d) step

    serves_now : ServeStand y
    serves_now n z there = by_node (numbered_put w.seats node n new z least (subst (λ xs. numbered xs n ≡ Some z) (call_put w node seat d c present) there)) where
      by_node : ((n ≡ node) × (new ≡ z)) ⊎ ((n ≢ node) × (numbered w.seats n ≡ Some z)) → ServesDoubts z.core
      by_node (inl j) = subst (λ (m : Seat). ServesDoubts m.core) j.1 (record { serves = owners.serves; owned = owners.owned (k.serve node seat here).owned })
      by_node (inr j) = k.serve n z j.1

    address : d.address ≡ c.after.plan.address
    address = k.addresses node seat here d is ∙ sym (ap (λ (p : NodePlan). p.address) plan)

    there : seat_at y node ≡ Some new
    there = ap (λ xs. numbered xs node) (call_put w node seat d c present) ∙ put_here w.seats node seat new here

    accepted_now : AcceptedStand y ds
    accepted_now = accepting.quiet_accepted w y ds goes k.accepted

    called : IsCalled 2 doubt_name seat.core c.after (doubter.next_call d) c.reply
    called = doubter_called l s w r node seat here c d step

    call_stand : DoubtersStand s y (with_doubter ds node f)
    call_stand = record {
      lives = goes.lives ∙ k.lives;
      count = length-set ds (node - 1) f ∙ k.count;
      addresses = address_put y ds node d f least is (take_seen d seat.agent c.reply).address (addresses_last w y ds plans were k.addresses);
      plans = different;
      serve = serves_now;
      accepted = accepting.doubter_accepted y ds node d f least is (take_seen d seat.agent c.reply) accepted_now;
      openers = doubter_openers y ds node d f is (take_seen d seat.agent c.reply) (going_openers w y ds goes plans k.openers);
      sent = call_sent l s w y ds r q plans goes k.sent node seat d c present here is refl;
      asked = call_asked w ds node seat d c present here is k.asked;
      asks =
          call_asks l s w y ds r q plans goes different k.serve serves_now k.sent k.asked node seat c here d is (call_put w node seat d c present) address (accepted_now node new there d is) called k.asks;
    }

    -- the network once what is queued was sent
    abbrev z : WorldState
    z = network.drained s y (present_life w node) event_drain

    quiet : IsQuiet y z
    quiet = drain_quiet l s y q serves_now (present_life w node) event_drain (present_least w node)

    member : member_of z node ≡ node
    member = same_member w z node (quiet.goes.lives ∙ goes.lives) ∙ member_own w ds k node (doubter_member w ds k node d is)

    -- what it settles is dead then
    pub call_dead : (p : Prefix) → (after_take d seat.agent c.reply).settled ≡ Some p → IsReached s z → IsDead z node p
    call_dead p settled reached =
        settled_dead l s w y ds r q plans goes different k.serve serves_now k.sent k.asked node seat c here d is (call_put w node seat d c present) address (accepted_now node new there d is) called k.asks p settled z reached quiet
        (same_present w z node (quiet.goes.lives ∙ goes.lives) ∙ present) member

    -- and was answered for
    pub call_answered : (p : Prefix) → (after_take d seat.agent c.reply).settled ≡ Some p → IsReached s z → (o : Offered) → Contains z.offers o → member_of z o.node ≡ node → o.prefix ≡ p → WasAnswered z o
    call_answered p settled reached =
        settled_answered l s w y ds r q plans goes different k.serve serves_now k.sent k.asked node seat c here d is (call_put w node seat d c present) address (accepted_now node new there d is) called k.asks p settled z reached quiet
        member

  -- ---- an agent of prefixes is told something

  told_stand : (w x : WorldState) (ds : List DoubterState) (e : Event) → IsReached s w → IsReached s x → Tells s w e x → DoubtersStand s w ds → DoubtersStand s x ds
  told_stand w x ds e r q t k = record {
    lives = ap (λ (z : WorldState). z.lives) one.after ∙ k.lives;
    count = k.count;
    addresses = addresses_last w x ds (cores_plans w x cores) were k.addresses;
    plans = plans_stand w x (cores_plans w x cores) were k.plans;
    serve = stay_serves w x (cores_stay w x k.serve cores);
    accepted = accepting.same_cores_accepted w x ds cores.back k.accepted;
    openers = cores_openers w x ds cores k.openers;
    sent = told_sent l s w x ds e r q t k.sent;
    asked = told_asked l s w x ds e r t k.asked;
    asks = told_asks l s w x ds e r q t k.serve k.asked k.asks;
  } where
    cores : SameCores w x
    cores = told_cores s w x e t

    one : OneAgent w x
    one = one_agent s w e x t

    were : WereThere w x
    were node new there = let f = cores.back node new there in (f.0, f.1)

  -- ---- a prefix is settled

  settle_stand : (w : WorldState) (ds : List DoubterState) (node : ℕ) (p : Prefix) (f : DoubterState) → IsReached s w → IsDead w node p → numbered ds node ≡ Some f → Forgets p f → DoubtersStand s w ds
      → DoubtersStand s (after_settle w node p) ds
  settle_stand w ds node p f r dead is forgets k = record {
    lives = t.lives ∙ k.lives;
    count = k.count;
    addresses = addresses_last w y ds (cores_plans w y cores) were k.addresses;
    plans = plans_stand w y (cores_plans w y cores) were k.plans;
    serve = stay_serves w y (cores_stay w y k.serve cores);
    accepted = accepting.same_cores_accepted w y ds cores.back k.accepted;
    openers = cores_openers w y ds cores k.openers;
    sent = settle_sent l s w ds node p f r q dead present (λ n seat here. member_own w ds k n (seat_member w ds k r n seat here)) is forgets k.sent;
    asked = settle_asked w ds node p f dead present is forgets k.asked;
    asks = settle_asks l s w ds node p r q dead k.serve k.asked k.asks;
  } where
    y : WorldState
    y = after_settle w node p

    q : IsReached s (after_settle w node p)
    q = settled_reached s w node p r dead

    t : Settling w node p (after_settle w node p)
    t = settling_is w node p dead

    cores : SameCores w (after_settle w node p)
    cores = settled_cores w node p dead

    present : present_life w node ≡ node
    present = member_present w ds k node (doubter_member w ds k node f is)

    were : WereThere w (after_settle w node p)
    were n new there = let g = cores.back n new there in (g.0, g.1)

  -- ---- a question is to be asked

  ask_stand : (w : WorldState) (ds : List DoubterState) (node : ℕ) (p : Prefix) (peer : Locator) (d : DoubterState) (seat : Seat) → DoubtersStand s w ds → numbered ds node ≡ Some d
      → seat_at w (present_life w node) ≡ Some seat → DoubtersStand s w (with_doubter ds node (after_ask d p peer (ask_reply d seat.agent.pool p)))
  ask_stand w ds node p peer d seat k is at = record {
    lives = k.lives;
    count = length-set ds (node - 1) f ∙ k.count;
    addresses = address_put w ds node d f least is (ask_seen d p peer (ask_reply d seat.agent.pool p)).address k.addresses;
    plans = k.plans;
    serve = k.serve;
    accepted = accepting.doubter_accepted w ds node d f least is (ask_seen d p peer (ask_reply d seat.agent.pool p)) k.accepted;
    openers = doubter_openers w ds node d f is (ask_seen d p peer (ask_reply d seat.agent.pool p)) k.openers;
    sent = ask_sent w ds node d p peer (ask_reply d seat.agent.pool p) least is k.sent;
    asked = ask_asked w ds node d p peer seat least is here k.asked;
    asks = ask_asks w ds node d p peer (ask_reply d seat.agent.pool p) least is k.asks;
  } where
    f : DoubterState
    f = after_ask d p peer (ask_reply d seat.agent.pool p)

    least : 1 ≤ node
    least = (numbered_within ds node d is).least

    here : seat_at w node ≡ Some seat
    here = ap (λ m. seat_at w m) (sym (member_present w ds k node (doubter_member w ds k node d is))) ∙ at

  -- ---- every part of an event

  pub parts_keep : DoubtPartsKeep s IsDead (DoubtersStand s)
  parts_keep = record {
    steps = λ w ds e c v r k o plain is others q. quiet_stand w (after_visit s w e v c) ds r q (step_quiet l s w r k.serve e c v o plain is others) k;
    agents = λ w ds node hold c seat d r k o visit_is at is step q. agent_stand w ds node hold c seat d r k o visit_is at is step q;
    calls = λ w ds node c seat d r k o visit_is at is step q. call_stand w ds node c seat d r k o visit_is at is step q;
    told = λ w x ds e r q t k. told_stand w x ds e r q t k;
    drains = λ w ds node max r q k least. quiet_stand w (network.drained s w node max) ds r q (drain_quiet l s w r k.serve node max least) k;
    settles = λ w ds node p d f reply seat r dead is at settled f_is k.
        settle_stand w ds node p f r dead is (subst (λ (z : DoubterState). Forgets p z) (sym f_is) (take_forgets d seat.agent reply p settled)) k;
    asks = λ w ds node p peer d seat r k is at. ask_stand w ds node p peer d seat k is at;
  }
