-- In every network that turns lead to each negotiation is a talk, and how its sides stand is what is looked up at their nodes.
use Rattle.std.proofs.Common.{◌≡◌, ℕ, ◌==◌, ◌&&◌, ◌||◌, Bool, true, false, cond, List, [], ◌∷◌, ◌++◌, inl, inr, Option, Some, None, slice_get, refl, sym, ap, ◌∙◌, subst}
use Rattle.std.specs.Prelude.{find, filter_map, flat_map, option_map, option_to_list}
use Rattle.grasp_model_node.specs.Node.{NodeState}
use Rattle.grasp_types.specs.declared.message.Message.{Message}
use Rattle.grasp_types.specs.declared.message.Message.TheVariants.{End}
use Rattle.grasp_types.specs.declared.message.Verdict.TheVariants.{Decline}
use Rattle.grasp_laws_node_stories.specs.StreamMoves.{view_on}
use Rattle.grasp_laws_session.proofs.Ends.{unseen}
use Rattle.grasp_session.specs.Conversation.{Said, spoken}
use Rattle.grasp_session.specs.Laws.{IsSilent}
use Rattle.grasp_session.specs.Messages.{Side, Near, Far, is_side, is_end}
use Rattle.grasp_session.specs.Sessions.{SessionState}
use Rattle.grasp_session.specs.Talk.{Absent, Refused, Talk, party, Reached}
use Rattle.grasp_laws_network.proofs.Going.{reached_more}
use Rattle.grasp_model_network.specs.Events.{after_event}
use Rattle.grasp_model_network.specs.Runs.{IsReached}
use Rattle.grasp_model_network.specs.Setting.{Setting}
use Rattle.grasp_model_network.specs.Streams.{StreamEnd, StreamState, end_at}
use Rattle.grasp_laws_network.specs.Views.{all_sessions, session_on, session_in, session_of_end, has_ended, stage_by, stage_at, view_in}
use Rattle.grasp_model_network.specs.World.{Seat, WorldState, seat_at}
use Rattle.grasp_laws_negotiation.proofs.Networks.{network_stands, event_goes}
use Rattle.grasp_laws_negotiation.proofs.Standing.{view_seat, EndStands, SideStands, Stands}
use Rattle.grasp_laws_negotiation.specs.Grounds.{Grounds}
use Rattle.grasp_laws_negotiation.proofs.TalkSteps.{Fits, cons_nil}
use Rattle.grasp_laws_negotiation.specs.GoingOn.{NegotiationsGoOn}
use Rattle.grasp_laws_negotiation.specs.Negotiations.{IsTalk, NegotiationsAreTalks}

-- ---- the session on a stream

same_list : (xs : List (Option SessionState)) → flat_map option_to_list xs ≡ filter_map (λ x. x) xs
same_list [] = refl
same_list (None ∷ xs) = same_list xs
same_list (Some x ∷ xs) = ap (λ (l : List SessionState). x ∷ l) (same_list xs)

same_views : (o : Option SessionState) → view_in o ≡ option_map (λ x. x.view) o
same_views None = refl
same_views (Some x) = refl

session_view : (n : NodeState) (stream : ℕ) → view_in (session_on stream n) ≡ view_on n stream
session_view n stream =
    same_views (find (λ x. x.stream == stream) (all_sessions n.sessions))
    ∙ ap (λ (l : List SessionState). option_map (λ (x : SessionState). x.view) (find (λ x. x.stream == stream) (l ++ n.sessions.gone))) (same_list n.sessions.places)

seat_view : (e : StreamEnd) (o : Option Seat) → view_in (session_in e o) ≡ view_seat e.number o
seat_view e None = refl
seat_view e (Some seat) = session_view seat.core e.number

-- ---- how a side without a session stands

said_none : (side : Side) (said : List Said) → spoken side said ≡ [] → has_ended side said ≡ false
said_none side [] e = refl
said_none side (x ∷ c) e = by_side (is_side side x.side) (said_none side c) e where
  by_side : (b : Bool) → (spoken side c ≡ [] → has_ended side c ≡ false) → cond b (x.message ∷ spoken side c) (spoken side c) ≡ [] → ((b && is_end x.message) || has_ended side c) ≡ false
  by_side true rest f = absurd (cons_nil x.message (spoken side c) f)
  by_side false rest f = rest f

said_end : (side : Side) (said : List Said) (m : Message) → is_end m ≡ true → spoken side said ≡ m ∷ [] → has_ended side said ≡ true
said_end side [] m is e = absurd (cons_nil m [] (sym e))
said_end side (x ∷ c) m is e = by_side (is_side side x.side) (said_end side c m is) e where
  heads : (a b : Message) (k l : List Message) → a ∷ k ≡ b ∷ l → a ≡ b
  heads a b k l f = cc

  by_side : (b : Bool) → (spoken side c ≡ m ∷ [] → has_ended side c ≡ true) → cond b (x.message ∷ spoken side c) (spoken side c) ≡ m ∷ [] → ((b && is_end x.message) || has_ended side c) ≡ true
  by_side true rest f = ap (λ b. b || has_ended side c) (ap is_end (heads x.message m (spoken side c) [] f) ∙ is)
  by_side false rest f = rest f

stands_so : (k : Talk) → Reached k → (t : StreamState) → k.said ≡ t.said → (side : Side) (o : Option SessionState) → Fits (view_in o) (party k side).stage → (party k side).stage ≡ stage_by t side o
stands_so k r t said side (Some x) fits = fits
stands_so k r t said side None (inl absent) =
    let silent : spoken side k.said ≡ [] = subst (λ s. IsSilent side k.said s) absent (unseen k r side) in
    absent ∙ sym (ap (λ b. cond b Refused Absent) (ap (λ (c : List Said). has_ended side c) (sym said) ∙ said_none side k.said silent))
stands_so k r t said side None (inr refused) =
    let d = subst (λ s. IsSilent side k.said s) refused (unseen k r side) in
    refused ∙ sym (ap (λ b. cond b Refused Absent) (ap (λ (c : List Said). has_ended side c) (sym said) ∙ said_end side k.said (End d.0 (Decline d.1)) refl d.2))

-- ---- each negotiation

module _ (l : Grounds) (s : Setting) (w : WorldState) (r : IsReached s w) (place : ℕ) (t : StreamState) (is : slice_get w.streams place ≡ Some t) where
  end_so : (k : Talk) → Reached k → k.said ≡ t.said → (side : Side) (e : StreamEnd) → end_at t side ≡ Some e → EndStands w e (party k side) → (party k side).stage ≡ stage_at w t side
  end_so k q said side e at stands =
      stands_so k q t said side (session_of_end w (Some e))
      (subst (λ v. Fits v (party k side).stage) (sym (seat_view e (seat_at w e.node))) stands.fits)
      ∙ ap (λ o. stage_by t side (session_of_end w o)) (sym at)

  far_so : (k : Talk) → Reached k → k.said ≡ t.said → (o : Option StreamEnd) → t.far ≡ o → SideStands w o k.far → k.far.stage ≡ stage_at w t Far
  far_so k q said None at stands = stands_so k q t said Far None (inl stands.0) ∙ ap (λ o. stage_by t Far (session_of_end w o)) (sym at)
  far_so k q said (Some e) at stands = end_so k q said Far e at stands

  pub talk_is : Stands w t → IsTalk w t
  talk_is k = record {
    talk = k.talk;
    reached = k.reached;
    said = k.said_is;
    stages = stage;
  } where
    stage : (side : Side) → (party k.talk side).stage ≡ stage_at w t side
    stage Near = end_so k.talk k.reached k.said_is Near t.near refl k.near
    stage Far = far_so k.talk k.reached k.said_is t.far refl k.far

pub all_talks : Grounds → NegotiationsAreTalks
all_talks l s w r place t is negotiation = talk_is l s w r place t is ((network_stands l s w r).streams place t is negotiation)

-- ---- each event

pub all_go_on : Grounds → NegotiationsGoOn
unfolding talk_is
all_go_on l s w e c r o place t u was there negotiation =
    let k : Stands w t = (network_stands l s w r).streams place t was negotiation in
    let q = reached_more s w e c r o in
    let g = event_goes l s w e c r o place t u was there k in
    record { before = talk_is l s w r place t was k; after = talk_is l s (after_event s w e c) q place u there g.stands; moves = g.moves; ran = g.ran }
