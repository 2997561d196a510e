-- How the prefix that an agent offers in a session stands there.
use Rattle.std.proofs.Common.{◌≡◌, refl, sym, ap, ◌∙◌, subst, ℕ, Bool, true, false, Option, Some, None, is_some}
use Rattle.std.proofs.lemmas.Bool.{true≢false}
use Rattle.std.proofs.lemmas.Option.{none-some, same_Some}
use Rattle.grasp_agent.specs.States.{AgentState}
use Rattle.grasp_agent.specs.Values.{returned_in}
use Rattle.grasp_agent.specs.declared.act.Act.{Act}
use Rattle.grasp_model_node.specs.Node.{NodeState}
use Rattle.grasp_session.specs.Messages.{Side, Far}
use Rattle.grasp_session.specs.Sessions.{SessionState, session_at}
use Rattle.grasp_session.specs.Transcript.{Transcript, request_of}
use Rattle.grasp_types.specs.Prefix.{AddressBlock as Prefix}
use Rattle.grasp_types.specs.declared.session.Handle.{Handle}
use Rattle.grasp_model_network.specs.Accepting.{offering_by}
use Rattle.grasp_model_network.specs.Runs.{IsReached}
use Rattle.grasp_model_network.specs.Setting.{Setting}
use Rattle.grasp_model_network.specs.World.{Seat, WorldState, seat_at}
use Rattle.grasp_laws_agents.proofs.Sides.{sides}
use Rattle.grasp_laws_agents.specs.Giving.{HasOffered, IsOffering, IsDeciding, IsOwnSession, OffersIn, in_entry, in_return, OfferStands, EntryStands, ReturnStands, Gives, is_offering}
use Rattle.grasp_laws_prefixes.proofs.OwnSessions.{handle_made, one_session}
use Rattle.grasp_laws_prefixes.specs.Grounds.{Grounds}

-- the agent, which was asked for a prefix, has decided to offer this one and has the turn; or it is this end's last offer
pub data StandsOffered (a : AgentState) (side : Side) (v : Transcript) (p : Prefix) : Type 0 where
  is_coming : side ≡ Far → (a.act ≡ None → ⊥) → IsDeciding v → returned_in (request_of v).value ≡ None → StandsOffered a side v p
  is_said : HasOffered v p → StandsOffered a side v p

pub stands_offered : (n : NodeState) (a : AgentState) → Gives n a → (side : Side) (h : Handle) (p : Prefix) → OffersIn a side h p → (x : SessionState) → IsOwnSession n.sessions h side x → StandsOffered a side x.view p
stands_offered n a g side h p (in_entry far place e at same offer) x own = by_entry (g.entries place e at) where
  by_offer : (d : Bool) (o : Option Prefix) → is_offering a.act place ≡ d → o ≡ Some p → OfferStands d o x.view → StandsOffered a side x.view p
  by_offer true o d is t = is_coming far (λ idle. true≢false (sym d ∙ ap (λ (u : Option Act). is_offering u place) idle)) t.0 t.1
  by_offer false None d is t = absurd (none-some p is)
  by_offer false (Some z) d is t = is_said (subst (HasOffered x.view) (same_Some z p is) t)

  by_entry : EntryStands n.sessions a place e → StandsOffered a side x.view p
  by_entry t =
      let one : t.session ≡ x = one_session n.sessions h t.session x (ap (λ k. session_at n.sessions k) (sym same) ∙ t.own.at) own.at in
      by_offer (is_offering a.act place) e.offer refl offer (subst (λ (z : SessionState). OfferStands (is_offering a.act place) e.offer z.view) one t.offer)
stands_offered n a g side h p (in_return near r is on same) x own = is_said (by_return (g.back r h is on)) where
  by_return : ReturnStands n.sessions h r.prefix → HasOffered x.view p
  by_return t =
      subst (HasOffered x.view) same (subst (λ (z : SessionState). HasOffered z.view r.prefix) (one_session n.sessions h t.session x t.own.at own.at) t.offer)

-- so this end is the one that offers
pub offering_in : (l : Grounds) (s : Setting) (w : WorldState) → IsReached s w → (node : ℕ) (seat : Seat) → seat_at w node ≡ Some seat → (side : Side) (h : Handle) (p : Prefix) → OffersIn seat.agent side h p
    → (x : SessionState) → IsOwnSession seat.core.sessions h side x → IsOffering x.view
offering_in l s w r node seat here side h p offers x own = by_stands (stands_offered seat.core seat.agent (l.give s w r node seat here) side h p offers x own) where
  by_stands : StandsOffered seat.agent side x.view p → IsOffering x.view
  by_stands (is_coming far busy deciding asked) = ap (λ (o : Option Prefix). offering_by (is_some o)) asked ∙ sym (own.role ∙ far)
  by_stands (is_said offered) = sides seat.core seat.agent (l.give s w r node seat here) x p (handle_made seat.core.sessions h x own.at) own.owner offered
