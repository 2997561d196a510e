-- A session that an agent of prefixes has requested, and whose request gives nothing back, is that of its want.
use Rattle.std.proofs.Common.{◌≡◌, inl, inr, refl, sym, ap, ◌∙◌, subst, Option, None, Some}
use Rattle.std.proofs.lemmas.Option.{none-some, same_Some}
use Rattle.grasp_agent.specs.States.{AgentState, back_session, want_session}
use Rattle.grasp_agent.specs.Values.{returned_in}
use Rattle.grasp_agent.specs.declared.back.Return.{Return}
use Rattle.grasp_laws_agents.proofs.Sides.{none_offered, own_kind}
use Rattle.grasp_laws_agents.specs.Giving.{EntryStands, Gives, HasOffered, IsOwnSession, ReturnStands}
use Rattle.grasp_laws_agents.specs.OfferLaws.{AgentsGive}
use Rattle.grasp_laws_offers.specs.Duties.{IsDuty, IsEntrys, OwnAreDuties, OwnSessionsAreDuties}
use Rattle.grasp_laws_questions.specs.Wanting.{RequestedSessionsAreWants}
use Rattle.grasp_model_node.specs.Node.{NodeState}
use Rattle.grasp_session.specs.Messages.{Near, Far}
use Rattle.grasp_session.specs.Sessions.{SessionState, session_at}
use Rattle.grasp_session.specs.Transcript.{request_of}
use Rattle.grasp_types.specs.declared.session.Handle.{Handle}

not_far : {A : Type 0} → Near ≡ Far → A
not_far e = absurd (cc)

module _ (n : NodeState) (a : AgentState) (k : Gives n a) (d : OwnAreDuties n a) (h : Handle) (x : SessionState) (own : IsOwnSession n.sessions h Near x) (asks : returned_in (request_of x.view).value ≡ None) where
  -- that of its return offers something
  by_return : (o : Option Return) → a.back ≡ o → back_session o ≡ Some h → want_session a.want ≡ Some h
  by_return None is e = absurd (none-some h e)
  by_return (Some r) is e =
      let s : ReturnStands n.sessions h r.prefix = k.back r h is e in
      let same : s.session ≡ x = same_Some s.session x (sym s.own.at ∙ own.at) in
      absurd (none_offered x.view r.prefix own.role (own_kind n a h Near x k own) asks (subst (λ (u : SessionState). HasOffered u.view r.prefix) same s.offer))

  -- in those in which it gives it listens
  by_entry : IsEntrys a h → want_session a.want ≡ Some h
  by_entry i =
      let s : EntryStands n.sessions a i.place i.entry = k.entries i.place i.entry i.at in
      let same : s.session ≡ x = same_Some s.session x (sym s.own.at ∙ (ap (session_at n.sessions) i.handle ∙ own.at)) in
      not_far (sym own.role ∙ (ap (λ (u : SessionState). u.view.role) (sym same) ∙ s.own.role))

  by_duty : IsDuty a h → want_session a.want ≡ Some h
  by_duty (inl e) = e
  by_duty (inr (inl e)) = by_return a.back refl e
  by_duty (inr (inr i)) = by_entry i

  is_wants : want_session a.want ≡ Some h
  is_wants = by_duty (d h x own.at own.owner)

pub requested_sessions_are_wants : AgentsGive → OwnSessionsAreDuties → RequestedSessionsAreWants
requested_sessions_are_wants give duties s w r node seat here h x own asks = is_wants seat.core seat.agent (give s w r node seat here) (duties s w r node seat here) h x own asks
