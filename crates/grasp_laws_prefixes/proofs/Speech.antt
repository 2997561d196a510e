-- What a conversation tells of acceptances, and of the last offer of a side.
use Rattle.std.proofs.Common.{◌≡◌, refl, sym, ap, ◌∙◌, subst, Bool, true, false, cond, ◌&&◌, ◌||◌, List, [], ◌∷◌, ◌++◌, Some}
use Rattle.std.proofs.lemmas.Bool.{true≢false, false≢true, and_right}
use Rattle.grasp_laws_session.proofs.Follows.{other_other, not_begun, follows_open}
use Rattle.grasp_laws_session.proofs.Offers.{accepted_ended}
use Rattle.grasp_laws_session.proofs.Views.{is_side-other}
use Rattle.grasp_session.specs.Conversation.{Said, says, strip, turn, ended, requested, accepted_by, has_offered, answered, newest_offer_by, spoken, MayFollow, IsLegal, IsLegalConversation}
use Rattle.grasp_session.specs.Laws.{IsView, Accepting}
use Rattle.grasp_session.specs.Messages.{Side, Near, Far, other, is_side, is_acceptance, is_invalid}
use Rattle.grasp_session.specs.Transcript.{Transcript, known, my_offer, peer_offer}
use Rattle.grasp_types.specs.Prefix.{AddressBlock as Prefix}
use Rattle.grasp_types.specs.declared.message.Message.{Message}
use Rattle.grasp_types.specs.declared.message.Message.TheVariants.{ReqNeg, ReqSyn, Negotiate, Wait, End, Invalid}
use Rattle.grasp_types.specs.declared.objective.Objective.{Objective}
use Rattle.grasp_model_network.specs.Accepting.{has_accepted}
use Rattle.grasp_laws_agents.proofs.GoingOn.{trails_offered}
use Rattle.grasp_laws_agents.specs.Giving.{IsOpenOffer, IsDeciding, offered_by}

-- ---- acceptances

-- an invalid message is no acceptance
invalid_accepts : (m : Message) → is_invalid m ≡ true → is_acceptance m ≡ false
invalid_accepts (Invalid n d) e = refl
invalid_accepts _ e = absurd (false≢true e)

stripped_accepted : (side : Side) (c : List Said) → has_accepted side c ≡ has_accepted side (strip c)
stripped_accepted side [] = refl
stripped_accepted side (x ∷ c) = by_test (is_invalid x.message) refl (stripped_accepted side c) where
  by_test : (b : Bool) → is_invalid x.message ≡ b → has_accepted side c ≡ has_accepted side (strip c) → has_accepted side (x ∷ c) ≡ has_accepted side (cond b (strip c) (x ∷ strip c))
  by_test true is rest = ap (λ b. b || has_accepted side c) (and_right (is_side side x.side) (is_acceptance x.message) (invalid_accepts x.message is)) ∙ rest
  by_test false is rest = ap (λ b. (is_side side x.side && is_acceptance x.message) || b) rest

-- where no end stands, none is an acceptance
pub open_unaccepted : (side : Side) (c : List Said) → ended c ≡ false → accepted_by side c ≡ false
open_unaccepted side c e = by_test (accepted_by side c) refl where
  by_test : (b : Bool) → accepted_by side c ≡ b → b ≡ false
  by_test true is = absurd (true≢false (sym (accepted_ended side c is) ∙ e))
  by_test false is = refl

-- an acceptance is the newest message
newest_accepts : (side : Side) (c : List Said) → IsLegal c → accepted_by side c ≡ false → has_accepted side c ≡ false
newest_accepts side [] l e = refl
newest_accepts side (x ∷ c) l e =
    ap (λ b. b || has_accepted side c) e ∙ newest_accepts side c l.1 (open_unaccepted side c (follows_open c x.side x.message l.0))

pub never_accepted : (side : Side) (said : List Said) → IsLegalConversation said → accepted_by side (strip said) ≡ false → has_accepted side said ≡ false
never_accepted side said l e = stripped_accepted side said ∙ newest_accepts side (strip said) l.legal e

-- what a side has said has its acceptance
pub said_acceptance : (side : Side) (c : List Said) (m : Message) (rest : List Message) → is_acceptance m ≡ true → spoken side c ≡ m ∷ rest → has_accepted side c ≡ true
said_acceptance side [] m rest is e = absurd (cc)
said_acceptance side (x ∷ c) m rest is e = by_side (is_side side x.side) (said_acceptance side c m rest is) e where
  heads : (a b : Message) (k l : List Message) → a ∷ k ≡ b ∷ l → a ≡ b
  heads a b k l f = cc

  by_side : (b : Bool) → (spoken side c ≡ m ∷ rest → has_accepted side c ≡ true) → cond b (x.message ∷ spoken side c) (spoken side c) ≡ m ∷ rest → ((b && is_acceptance x.message) || has_accepted side c) ≡ true
  by_side true again f = ap (λ b. b || has_accepted side c) (ap is_acceptance (heads x.message m (spoken side c) rest f) ∙ is)
  by_side false again f = again f

-- what was accepted before is accepted still
pub accepted_before : (side : Side) (newer c : List Said) → has_accepted side (newer ++ c) ≡ false → has_accepted side c ≡ false
accepted_before side [] c e = e
accepted_before side (x ∷ newer) c e = accepted_before side newer c (rest (is_side side x.side && is_acceptance x.message) e) where
  rest : (b : Bool) → (b || has_accepted side (newer ++ c)) ≡ false → has_accepted side (newer ++ c) ≡ false
  rest true f = absurd (true≢false f)
  rest false f = f

-- ---- whose turn it is

-- where the turn is a side's own, its last offer was answered
answered_step : (side s : Side) (m : Message) (c : List Said) → MayFollow c (says s m) → turn (says s m ∷ c) ≡ side → has_offered side (says s m ∷ c) ≡ true
    → (turn c ≡ side → has_offered side c ≡ true → answered side c ≡ true) → answered side (says s m ∷ c) ≡ true
answered_step side s (ReqNeg n o) c f t h again =
    let far : has_offered Far (says s (ReqNeg n o) ∷ c) ≡ true = subst (λ k. has_offered k (says s (ReqNeg n o) ∷ c) ≡ true) (sym t) h in
    let near : has_offered Far (says Near (ReqNeg n o) ∷ c) ≡ true = subst (λ k. has_offered Far (says k (ReqNeg n o) ∷ c) ≡ true) f.1 far in
    absurd (false≢true (subst (λ (k : List Said). has_offered Far (says Near (ReqNeg n o) ∷ k) ≡ true) (not_begun c f.0) near))
answered_step side s (Negotiate n o) c f t h again =
    let theirs : is_side side s ≡ false = is_side-other side s (f.0.in_turn ∙ (sym (other_other (turn c)) ∙ ap other t)) in
    rw theirs refl
answered_step side s (Wait n k) c f t h again = either (is_side side s) h (again t) where
  either : (b : Bool) → ((b && false) || has_offered side c) ≡ true → (has_offered side c ≡ true → answered side c ≡ true) → cond b (answered side c) (answered side c) ≡ true
  either true g rest = rest g
  either false g rest = rest g
answered_step side s (End n d) c f t h again = either (is_side side s) h (again t) where
  either : (b : Bool) → ((b && false) || has_offered side c) ≡ true → (has_offered side c ≡ true → answered side c ≡ true) → cond b (answered side c) true ≡ true
  either true g rest = rest g
  either false g rest = refl
answered_step side s (Invalid n d) c f t h again = absurd f
answered_step side s m c f t h again = absurd f

pub turn_answered : (side : Side) (c : List Said) → IsLegal c → turn c ≡ side → has_offered side c ≡ true → answered side c ≡ true
turn_answered side [] l t h = absurd (false≢true h)
turn_answered side (x ∷ c) l t h = answered_step side x.side x.message c l.0 t h (turn_answered side c l.1)

-- an end that has the turn has no open offer
pub deciding_closed : (v : Transcript) (p : Prefix) → IsLegal (known v) → IsDeciding v → ¬ IsOpenOffer v p
deciding_closed v p l d o = true≢false (sym (turn_answered v.role (known v) l d.mine o.offered.made) ∙ o.unanswered)

-- ---- what trails

-- an end that may accept leaves the other end's offer open
pub accepting_open : (side : Side) (said : List Said) (v u : Transcript) (p : Prefix) → v.role ≡ side → IsView (other side) said u → Accepting side said v u → offered_by (other side) (peer_offer v).value ≡ Some p → IsOpenOffer u p
accepting_open side said v u p own theirs a o = record {
  offered = record {
    made = subst (λ k. has_offered k (known u) ≡ true) (sym theirs.role) (trails_offered (other side) (known u) (strip said) theirs.trails ∙ a.made);
    offer = ap (λ k. offered_by k (my_offer u).value) theirs.role ∙ (ap (λ (x : Objective). offered_by (other side) x.value) same ∙ o);
  };
  unanswered = subst (λ k. answered k (known u) ≡ false) (sym theirs.role) a.no_answer;
} where
  same : my_offer u ≡ peer_offer v
  same = ap (λ k. newest_offer_by k (known u)) theirs.role ∙ (sym a.same_offer ∙ ap (λ k. newest_offer_by (other k) (known v)) (sym own))

-- ---- the request

-- invalid messages request nothing
pub same_requested : (c : List Said) → requested (strip c) ≡ requested c
same_requested [] = refl
same_requested (x ∷ c) = by_message x.side x.message (same_requested c) where
  by_message : (s : Side) (m : Message) → requested (strip c) ≡ requested c → requested (strip (says s m ∷ c)) ≡ requested (says s m ∷ c)
  by_message s (ReqNeg n o) rest = refl
  by_message s (ReqSyn n o) rest = refl
  by_message s _ rest = rest
