-- A listener that has made no step has the turn, and knows no offer of the other end but the request.
use Rattle.std.proofs.Common.{◌≡◌, ℕ, true, false, cond, List, ◌∷◌, refl, ap}
use Rattle.std.proofs.lemmas.Bool.{true≢false, false≢true}
use Rattle.grasp_types.specs.declared.message.Message.{Message}
use Rattle.grasp_types.specs.declared.message.Message.TheVariants.{ReqNeg, ReqSyn, Negotiate}
use Rattle.grasp_types.specs.declared.objective.Objective.{Objective}
use Rattle.grasp_types.specs.declared.session.Kind.{Kind}
use Rattle.grasp_types.specs.declared.session.Kind.TheVariants.{Negotiation, Synchronization}
use Rattle.grasp_session.specs.Conversation.{Said, says, turn, has_offered, newest_offer_by, requested}
use Rattle.grasp_session.specs.Messages.{Side, Near, Far, other, is_side, is_invalid, is_last}
use Rattle.grasp_session.specs.Transcript.{known, opening, message_of}
use Rattle.grasp_laws_session.specs.Unstepped.{UnsteppedHearNone}
use Rattle.grasp_laws_session.proofs.Fresh.{my_turn_keeps}
use Rattle.grasp_laws_session.proofs.InWords.{by_built}

abbrev HearsNone : Side → List Said → Type 0
HearsNone role c = role ≡ Far → has_offered Far c ≡ false → (turn c ≡ Far) × (newest_offer_by (other role) c ≡ requested c)

opens : (kind : Kind) (role : Side) (timeout now session : ℕ) (o : Objective) → HearsNone role (known (opening kind role timeout now session o))
opens kind Near timeout now session o far none = absurd (cc)
opens Negotiation Far timeout now session o far none = (refl, refl)
opens Synchronization Far timeout now session o far none = (refl, refl)

speaks : (role : Side) (m : Message) (c : List Said) → HearsNone role c → HearsNone role (cond (is_invalid m) c (says role m ∷ c))
speaks Near m c h far none = absurd (cc)
speaks Far (ReqNeg n o) c h far none = absurd (true≢false none)
speaks Far (ReqSyn n o) c h far none = absurd (true≢false none)
speaks Far (Negotiate n o) c h far none = absurd (true≢false none)
speaks Far m c h far none = h far none

-- in its own turn an end keeps no step
hears : (role : Side) (m : Message) (c : List Said) → (is_side role (turn c) ≡ true → is_last m ≡ true) → HearsNone role c
    → HearsNone role (cond (is_invalid m) c (says (other role) m ∷ c))
hears Near m c last h far none = absurd (cc)
hears Far (ReqNeg n o) c last h far none = (refl, refl)
hears Far (ReqSyn n o) c last h far none = (refl, refl)
hears Far (Negotiate n o) c last h far none = absurd (false≢true (last (ap (is_side Far) (h far none).0)))
hears Far m c last h far none = h far none

pub unstepped_hear_none : UnsteppedHearNone
unstepped_hear_none v b far none =
    let h = by_built (λ v. HearsNone v.role (known v))
    (record {
      opens = opens;
      says = λ v now s. speaks v.role (message_of v s) (known v);
      hears = λ v now m e. hears v.role m (known v) (λ mine. my_turn_keeps v m mine e);
      marks = λ v mark h. h;
    }) v b far none in
    record { its_turn = h.0; offer = h.1 }
