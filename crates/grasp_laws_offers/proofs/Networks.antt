-- Each live session of an agent of prefixes is a duty of the agent, in every network that turns lead to.
use Rattle.std.proofs.Common.{◌≡◌, ◌≢◌, ◌==◌, ◌⊎◌, true, false, slice_set, refl, sym, ap, ◌∙◌, subst, arith, ℕ, List, [], Contains, inl, inr, slice_get, Option, None, Some, Ok, Err, Result}
use Rattle.std.proofs.lemmas.Option.{none-some, same_Some}
use Rattle.grasp_laws_agent.proofs.LawKept.{kept_event, kept_reply}
use Rattle.grasp_laws_agent.proofs.Retiring.{agents_retire, settling_keeps}
use Rattle.grasp_agent.specs.Calls.{next_call, agent_name, objective_name}
use Rattle.grasp_agent.specs.Replies as agent
use Rattle.grasp_agent.specs.Replies.{AgentEvent, after_reply, want_reply, after_want, return_reply, after_return, after_event}
use Rattle.grasp_agent.specs.States.{AgentState, back_session, want_session}
use Rattle.grasp_agent.specs.declared.back.Return.{Return}
use Rattle.grasp_agent.specs.declared.back.ReturnFault.{ReturnFault}
use Rattle.grasp_agent.specs.declared.giving.Giving.{Giving}
use Rattle.grasp_agent.specs.declared.want.WantFault.{WantFault}
use Rattle.grasp_laws_node.proofs.Bounded.Nodes.{nodes_kept, begin_kept}
use Rattle.grasp_model_node.specs.Begin.{begin, expired}
use Rattle.grasp_model_node.specs.Moves.{with_reading, with_registrations, with_sessions, with_discoveries, with_floods, begin_closing}
use Rattle.grasp_model_node.specs.Node.{NodeState}
use Rattle.grasp_model_node.specs.BoundedNodes.{IsBoundedNode}
use Rattle.grasp_model_node.specs.Step.{Coming, NodeStep, Calls}
use Rattle.grasp_model_node.specs.declared.plan.NodePlan.{NodePlan}
use Rattle.grasp_laws_node.specs.Consistent.{IsConsistent, TiesAreKept}
use Rattle.grasp_laws_network.proofs.EachNode.{first_is}
use Rattle.grasp_model_network.specs.EventSteps.{agent_input}
use Rattle.grasp_model_network.specs.Openings.{answered_seat, opened_seat}
use Rattle.grasp_model_network.specs.World.{Seat}
use Rattle.grasp_pool.specs.Functions.{after_settle}
use Rattle.grasp_pool.specs.Holdings.{Holding}
use Rattle.grasp_laws_session.proofs.Made.{views_built}
use Rattle.grasp_laws_session.proofs.Runs.{none_live}
use Rattle.grasp_session.proofs.Tables.{state_slot}
use Rattle.grasp_session.specs.Messages.{Side}
use Rattle.grasp_session.specs.Runs.{WasMade}
use Rattle.grasp_session.specs.Sessions.{SessionState, Sessions, no_sessions, session_at}
use Rattle.grasp_types.specs.Prefix.{AddressBlock as Prefix}
use Rattle.grasp_types.specs.declared.address.Locator.{Locator}
use Rattle.grasp_types.specs.declared.reply.Reply.{Reply}
use Rattle.grasp_types.specs.declared.session.Handle.{Handle}
use Rattle.grasp_laws_network.specs.Telling.{IsNoReply}
use Rattle.grasp_laws_agents.proofs.EachSeat.{Keeps, reached_seats}
use Rattle.grasp_laws_agents.proofs.Owning.{others_same}
use Rattle.grasp_laws_agents.proofs.Reserving.{opened_kept}
use Rattle.grasp_laws_agents.proofs.Retiring.{gives_with, gives_retired}
use Rattle.grasp_laws_agents.proofs.Serving.{serving_kept, opened_serves}
use Rattle.grasp_laws_agents.specs.GoingOn.{OwnGoOn}
use Rattle.grasp_laws_agents.proofs.Calling.{called}
use Rattle.grasp_laws_agents.proofs.Going.{gives_on}
use Rattle.grasp_laws_agents.proofs.Standing.{same_has}
use Rattle.grasp_laws_agents.specs.Calls.{CallsMean}
use Rattle.grasp_laws_agents.specs.Giving.{IsOffersSession, of_entry, of_return, Gives}
use Rattle.std.proofs.lemmas.Bool.Decides.{eqb_tells}
use Rattle.grasp_agent.specs.Replies.{offering, without_offer, after_dropping, after_unsent}
use Rattle.grasp_agent.specs.Reopening.{retired, without_act, without_return}
use Rattle.grasp_agent.specs.States.{unsent_of}
use Rattle.grasp_agent.specs.declared.act.Act.{Act}
use Rattle.grasp_agent.specs.declared.act.Act.TheVariants as act
use Rattle.grasp_agent.specs.declared.want.Want.{Want}
use Rattle.grasp_laws_node.proofs.Meaning.Acts.{number_at}
use Rattle.grasp_laws_offers.proofs.Entries.{set_same, set_elsewhere}
use Rattle.grasp_session.proofs.Facts.{at_handle}
use Rattle.grasp_laws_agents.proofs.Agents.{IsGiving, begin_tied}
use Rattle.grasp_laws_offers.proofs.Attending.{attended}
use Rattle.grasp_laws_offers.specs.Duties.{IsEntrys, IsDuty, OwnAreDuties, OwnSessionsAreDuties}

-- ---- what is so of a node and its agent

pub record IsAttending (n : NodeState) (a : AgentState) : Type 0 where
  pub giving : IsGiving n a
  pub duties : OwnAreDuties n a

-- ---- a new want, and a new return

wants_given : (n : NodeState) (a : AgentState) (wanted longest : ℕ) (peer : Locator) (r : Result (Unit {0}) WantFault) → Gives n a → Gives n (after_want a wanted longest peer r)
wants_given n a wanted longest peer (Ok done) k = record {
  want = λ h e. none h e;
  entries = λ place g at. let s = k.entries place g at in record { session = s.session; own = s.own; offer = s.offer; accept = s.accept };
  back = k.back;
  apart = k.apart;
  kinds = k.kinds;
  live = λ h side x p own pending. same_has a (after_want a wanted longest peer (Ok done)) refl refl h side (k.live h side x p own pending);
} where
  none : {A : Type 0} (h : Handle) → None ≡ Some h → A
  none h e = absurd (cc)
wants_given n a wanted longest peer (Err refused) k = k

-- a return that isn't requested yet has no session
returns_given : (n : NodeState) (a : AgentState) (o : Option Return) (p : Prefix) (peer : Locator) → Gives n (record a { back = o }) → Gives n (after_return (record a { back = o }) p peer (return_reply (record a { back = o }) p))
returns_given n a (Some v) p peer k = k
returns_given n a None p peer k = by_reply (return_reply (record a { back = None }) p) where
  by_reply : (r : Result (Unit {0}) ReturnFault) → Gives n (after_return (record a { back = None }) p peer r)
  by_reply (Err refused) = k
  by_reply (Ok done) = record {
    want = λ h e. let s = k.want h e in record { session = s.session; own = s.own; accept = s.accept; asks = s.asks };
    entries = λ place g at. let s = k.entries place g at in record { session = s.session; own = s.own; offer = s.offer; accept = s.accept };
    back = λ v h is f. absurd (none-some h (ap back_session is ∙ f));
    apart = k.apart;
    kinds = k.kinds;
    live = λ h side x q own pending. by_session h side (k.live h side x q own pending);
  } where
    by_session : (h : Handle) (side : Side) → IsOffersSession (record a { back = None }) side h → IsOffersSession (after_return (record a { back = None }) p peer (Ok done)) side h
    by_session h side (of_entry far place g at same) = of_entry far place g at same
    by_session h side (of_return near v is f) = absurd (none-some v is)

told_given : (n : NodeState) (a : AgentState) (e : AgentEvent) → IsNoReply e → Gives n a → Gives n (after_event a e)
told_given n a (agent.wanted wanted longest peer) other k = wants_given n a wanted longest peer (want_reply a) k
told_given n a (agent.returned p peer) other k = returns_given n a a.back p peer k
told_given n a (agent.replied r) other k = absurd other

-- ---- the beginning of a life

record IsEmptySeat (s : Seat) : Type 0 where
  sessions : s.core.sessions ≡ no_sessions
  want : s.agent.want ≡ None
  back : s.agent.back ≡ None
  giving : s.agent.giving ≡ []

opened_empty : (plan : NodePlan) (h : Holding) → IsEmptySeat (opened_seat plan h)
unfolding answered_seat opened_seat next_call agent_name objective_name after_reply begin expired with_reading with_registrations with_sessions with_discoveries with_floods begin_closing
opened_empty plan h = record { sessions = refl; want = refl; back = refl; giving = refl }

empty_gives : (n : NodeState) (a : AgentState) → n.sessions ≡ no_sessions → a.want ≡ None → a.back ≡ None → a.giving ≡ [] → Gives n a
empty_gives n a z w b g = record {
  want = λ h e. no_want h (sym (ap want_session w) ∙ e);
  entries = λ place f at. nothing f (sym (ap (λ (l : List Giving). slice_get l place) g) ∙ at);
  back = λ r h is f. absurd (none-some r (sym b ∙ is));
  apart = λ i j f h at there same. nothing f (sym (ap (λ (l : List Giving). slice_get l i) g) ∙ at);
  kinds = λ x made owner. none_made x (subst (λ (y : Sessions). WasMade y x) z made);
  live = λ h side x p own pending. absurd (none_live 64 h.place x (state_slot no_sessions h x (subst (λ (y : Sessions). session_at y h ≡ Some x) z own.at)));
} where
  no_want : {A : Type 0} (h : Handle) → None ≡ Some h → A
  no_want h e = absurd (cc)

  nothing : {A : Type 0} (f : Giving) → None ≡ Some f → A
  nothing f e = absurd (cc)

  nobody : {A : Type 0} (x : SessionState) → Contains {X = SessionState} [] x → A
  nobody x (i, below, is) = absurd (omega (arith, below))

  none_made : {A : Type 0} (x : SessionState) → WasMade no_sessions x → A
  none_made x (inl i) = absurd (none_live 64 i.0 x i.1)
  none_made x (inr c) = nobody x c

opened_gives : (plan : NodePlan) (h : Holding) → Gives (opened_seat plan h).core (opened_seat plan h).agent
opened_gives plan h = let e = opened_empty plan h in empty_gives (opened_seat plan h).core (opened_seat plan h).agent e.sessions e.want e.back e.giving

opened_tied : TiesAreKept → (plan : NodePlan) (h : Holding) → IsConsistent (opened_seat plan h).core
opened_tied ties plan h =
    (first_is (λ k n. IsBoundedNode n × IsConsistent n) 1 plan h (λ k n after now i x r p step. (nodes_kept.1 n after now i x r p.0 step, ties.1 n after now i x r p.0 p.1 step))
    (nodes_kept.0 plan, ties.0 plan)).1

-- ---- duties that stay

-- a want or a return that isn't requested yet takes no duty away
wants_attended : (n : NodeState) (a : AgentState) (o : Option Want) (wanted longest : ℕ) (peer : Locator) → OwnAreDuties n (record a { want = o }) → OwnAreDuties n (after_want (record a { want = o }) wanted longest peer (want_reply (record a { want = o })))
wants_attended n a (Some w) wanted longest peer d = d
wants_attended n a None wanted longest peer d = by_reply (want_reply (record a { want = None })) where
  none : {A : Type 0} (h : Handle) → None ≡ Some h → A
  none h e = absurd (cc)

  by_duty : (h : Handle) → IsDuty (record a { want = None }) h → IsDuty (after_want (record a { want = None }) wanted longest peer (Ok tt)) h
  by_duty h (inl e) = none h e
  by_duty h (inr (inl e)) = inr (inl e)
  by_duty h (inr (inr i)) = inr (inr (record { place = i.place; entry = i.entry; at = i.at; handle = i.handle }))

  by_reply : (r : Result (Unit {0}) WantFault) → OwnAreDuties n (after_want (record a { want = None }) wanted longest peer r)
  by_reply (Err refused) = d
  by_reply (Ok done) = λ h x at own. by_duty h (d h x at own)

returns_attended : (n : NodeState) (a : AgentState) (o : Option Return) (p : Prefix) (peer : Locator) → OwnAreDuties n (record a { back = o }) → OwnAreDuties n (after_return (record a { back = o }) p peer (return_reply (record a { back = o }) p))
returns_attended n a (Some v) p peer d = d
returns_attended n a None p peer d = by_reply (return_reply (record a { back = None }) p) where
  none : {A : Type 0} (h : Handle) → None ≡ Some h → A
  none h e = absurd (cc)

  by_duty : (h : Handle) → IsDuty (record a { back = None }) h → IsDuty (after_return (record a { back = None }) p peer (Ok tt)) h
  by_duty h (inl e) = inl e
  by_duty h (inr (inl e)) = none h e
  by_duty h (inr (inr i)) = inr (inr (record { place = i.place; entry = i.entry; at = i.at; handle = i.handle }))

  by_reply : (r : Result (Unit {0}) ReturnFault) → OwnAreDuties n (after_return (record a { back = None }) p peer r)
  by_reply (Err refused) = d
  by_reply (Ok done) = λ h x at own. by_duty h (d h x at own)

told_attended : (n : NodeState) (a : AgentState) (e : AgentEvent) → IsNoReply e → OwnAreDuties n a → OwnAreDuties n (after_event a e)
told_attended n a (agent.wanted wanted longest peer) other d = wants_attended n a a.want wanted longest peer d
told_attended n a (agent.returned p peer) other d = returns_attended n a a.back p peer d
told_attended n a (agent.replied r) other d = absurd other

-- a duty is one where the sessions of the want and of the return and those of the entries are the same
pub record SameDuties (a b : AgentState) : Type 0 where
  pub want : want_session b.want ≡ want_session a.want
  pub back : back_session b.back ≡ back_session a.back
  pub entries : (h : Handle) → IsEntrys a h → IsEntrys b h

duties_by : (n : NodeState) (a b : AgentState) → SameDuties a b → OwnAreDuties n a → OwnAreDuties n b
duties_by n a b same d h x at own = by (d h x at own) where
  by : IsDuty a h → IsDuty b h
  by (inl e) = inl (same.want ∙ e)
  by (inr (inl e)) = inr (inl (same.back ∙ e))
  by (inr (inr i)) = inr (inr (same.entries h i))

both_same : (a b c : AgentState) → SameDuties a b → SameDuties b c → SameDuties a c
both_same a b c p q = record { want = q.want ∙ p.want; back = q.back ∙ p.back; entries = λ h i. q.entries h (p.entries h i) }

own_same : (a : AgentState) → SameDuties a a
own_same a = record { want = refl; back = refl; entries = λ h i. i }

-- ---- the end of a life

entry_still : (a b : AgentState) (h : Handle) → b.giving ≡ a.giving → IsEntrys a h → IsEntrys b h
entry_still a b h e i = record { place = i.place; entry = i.entry; at = ap (λ (l : List Giving). slice_get l i.place) e ∙ i.at; handle = i.handle }

-- the entry at a place offers nothing any more
unoffered : (giving : List Giving) (place i : ℕ) (g : Giving) → slice_get giving i ≡ Some g → (k : Giving) × (slice_get (without_offer giving place) i ≡ Some k) × (k.handle ≡ g.handle)
unoffered giving place i g e = by (slice_get giving place) refl where
  set : (o : Giving) → slice_get giving place ≡ Some o → (((i == place) ≡ true) × (i ≡ place)) ⊎ (((i == place) ≡ false) × (i ≢ place)) → (k : Giving) × (slice_get (slice_set giving place (offering o None)) i ≡ Some k) × (k.handle ≡ g.handle)
  set o f (inl c) =
      let it : o ≡ g = same_Some o g (sym f ∙ (ap (slice_get giving) (sym c.1) ∙ e)) in
      (offering o None, ap (slice_get (slice_set giving place (offering o None))) c.1 ∙ set_same giving place o (offering o None) f, ap (λ (x : Giving). x.handle) it)
  set o f (inr c) = (g, set_elsewhere giving place i g (offering o None) c.1 e, refl)

  by : (o : Option Giving) → slice_get giving place ≡ o → (k : Giving) × (slice_get (without_offer giving place) i ≡ Some k) × (k.handle ≡ g.handle)
  by None f = (g, rw f e, refl)
  by (Some o) f = rw f (set o f (eqb_tells i place))

dropping_same : (a : AgentState) (c : Act) → SameDuties a (after_dropping a c)
dropping_same a (act.Offer place h p) = record {
  want = refl;
  back = refl;
  entries = λ l i. let u = unoffered a.giving place i.place i.entry i.at in record { place = i.place; entry = u.0; at = u.1; handle = u.2 ∙ i.handle };
}
dropping_same a (act.Counter h n) = record { want = refl; back = refl; entries = λ l i. entry_still a (after_dropping a (act.Counter h n)) l refl i }
dropping_same a (act.Accept h p) = record { want = refl; back = refl; entries = λ l i. entry_still a (after_dropping a (act.Accept h p)) l refl i }
dropping_same a (act.Decline h reason) = record { want = refl; back = refl; entries = λ l i. entry_still a (after_dropping a (act.Decline h reason)) l refl i }

act_same : (a : AgentState) (o : Option Act) → SameDuties a (without_act a o)
act_same a None = own_same a
act_same a (Some c) = dropping_same a c

-- a return that wasn't requested has no session
unsent_same : (a : AgentState) (o : Option Return) (p : Prefix) → a.back ≡ o → unsent_of o ≡ Some p → SameDuties a (after_unsent a o)
unsent_same a None p e f = absurd (none-some p f)
unsent_same a (Some v) p e f = by_session v.session refl where
  by_session : (s : Option Handle) → v.session ≡ s → SameDuties a (after_unsent a (Some v))
  by_session None g = record { want = refl; back = sym (ap back_session e ∙ g); entries = λ l i. entry_still a (after_unsent a (Some v)) l refl i }
  by_session (Some h) g = absurd (none-some p (sym (ap (λ (s : Option Handle). unsent_of (Some (record v { session = s }))) g) ∙ f))

return_same : (a b : AgentState) (o : Option Prefix) → b.back ≡ a.back → unsent_of a.back ≡ o → SameDuties b (without_return b o)
return_same a b None e f = own_same b
return_same a b (Some p) e f = unsent_same b b.back p refl (ap unsent_of e ∙ f)

without_act_back : (a : AgentState) (o : Option Act) → (without_act a o).back ≡ a.back
without_act_back a None = refl
without_act_back a (Some (act.Offer place h p)) = refl
without_act_back a (Some (act.Counter h n)) = refl
without_act_back a (Some (act.Accept h p)) = refl
without_act_back a (Some (act.Decline h reason)) = refl

retired_same : (a : AgentState) → SameDuties a (retired a)
retired_same a =
    let b = without_act a a.act in
    let c = without_return b (unsent_of a.back) in
    both_same a b (retired a) (act_same a a.act)
    (both_same b c (retired a) (return_same a b (unsent_of a.back) (without_act_back a a.act) refl)
    (record { want = refl; back = refl; entries = λ l i. entry_still c (retired a) l refl i }))

-- ---- the beginning of a life, and other inputs

opened_attended : (plan : NodePlan) (h : Holding) → OwnAreDuties (opened_seat plan h).core (opened_seat plan h).agent
opened_attended plan h l x at own =
    let e = opened_empty plan h in
    absurd (none_live 64 l.place x (state_slot no_sessions l x (subst (λ (y : Sessions). session_at y l ≡ Some x) e.sessions at)))

others_attended : (n after : NodeState) (a : AgentState) → OwnGoOn n.sessions after.sessions → OwnAreDuties n a → OwnAreDuties after a
others_attended n after a g d h y at own =
    let x = g.were h.place y (state_slot after.sessions h y at) own in
    d h x.0 (at_handle n.sessions h x.0 x.1 (sym x.2.number ∙ number_at after.sessions h y at)) (sym x.2.owner ∙ own)

-- a settling changes the pool alone
settled_duty : (a : AgentState) (p : Prefix) (h : Handle) → IsDuty a h → IsDuty (agent.after_settling a p) h
settled_duty a p h (inl e) = inl e
settled_duty a p h (inr (inl e)) = inr (inl e)
settled_duty a p h (inr (inr i)) = inr (inr (record { place = i.place; entry = i.entry; at = i.at; handle = i.handle }))

-- ---- a step

module _ (ties : TiesAreKept) (means : CallsMean) (begins : (n : NodeState) (now : ℕ) → OwnGoOn n.sessions (begin n now).sessions) where
  own_attends : (n after : NodeState) (a : AgentState) (now : ℕ) (x : Coming) (r : Reply) → IsAttending n a → NodeStep n now (agent_input a) x r after → IsAttending after (after_reply a r)
  own_attends n after a now x r k step =
      let g = k.giving in
      let b = begin n now in
      let sound = begin_kept n now g.served.sound in
      let gives = gives_on n b a (begins n now) g.gives in
      let calls = subst (λ asa. Calls b asa (next_call a) r after) g.served.number step.acts in
      record {
        giving = record {
          served = serving_kept.own n after a now x r g.served step;
          tied = ties.1 n after now (agent_input a) x r g.served.sound g.tied step;
          kept = kept_reply a r g.kept;
          gives = (called means b after a sound (begin_tied ties n now x g.served.sound g.tied).fresh g.kept g.served.stage gives r calls).gives;
        };
        duties = attended means b after a sound g.kept g.served.stage gives (others_attended n b a (begins n now) k.duties) r calls;
      }

  attending_kept : Keeps IsAttending
  attending_kept = record {
    others = λ n after a now i x r k o step. record {
      giving = record {
        served = serving_kept.others n after a now i x r k.giving.served o step;
        tied = ties.1 n after now i x r k.giving.served.sound k.giving.tied step;
        kept = k.giving.kept;
        gives = gives_on n after a (others_same n after a now i x r k.giving.served o step).goes_on k.giving.gives;
      };
      duties = others_attended n after a (others_same n after a now i x r k.giving.served o step).goes_on k.duties;
    };
    own = own_attends;
    told = λ n a e possible other k. record {
      giving = record {
        served = serving_kept.told n a e possible other k.giving.served;
        tied = k.giving.tied;
        kept = kept_event a e possible k.giving.kept;
        gives = told_given n a e other k.giving.gives;
      };
      duties = told_attended n a e other k.duties;
    };
    settles = λ n a p has k. record {
      giving = record {
        served = serving_kept.settles n a p has k.giving.served;
        tied = k.giving.tied;
        kept = settling_keeps a p k.giving.kept has;
        gives = gives_with n a (after_settle a.pool p) k.giving.gives;
      };
      duties = λ h x at own. settled_duty a p h (k.duties h x at own);
    };
    retires = λ n a k. record {
      giving = record {
        served = serving_kept.retires n a k.giving.served;
        tied = k.giving.tied;
        kept = (agents_retire a).kept k.giving.kept;
        gives = gives_retired n a (λ q x at. views_built n.sessions x k.giving.served.sound.sessions (inl (q, at))) k.giving.kept k.giving.gives;
      };
      duties = duties_by n a (retired a) (retired_same a) k.duties;
    };
    opens = λ plan h pool none. record {
      giving = record {
        served = opened_serves plan h;
        tied = opened_tied ties plan h;
        kept = opened_kept plan h pool none;
        gives = opened_gives plan h;
      };
      duties = opened_attended plan h;
    };
  }

  -- ---- networks

  pub own_sessions_are_duties : OwnSessionsAreDuties
  own_sessions_are_duties s w r node seat here = (reached_seats IsAttending attending_kept s w r node seat here).duties
