-- All messages of a talk have its request's number.
use Rattle.std.proofs.Common.{◌≡◌, ℕ, true, false, List, [], ◌∷◌, refl, sym, ◌∙◌, subst}
use Rattle.grasp_session.specs.Messages.{Side}
use Rattle.grasp_types.specs.declared.message.Message.{Message}
use Rattle.grasp_types.specs.declared.message.Message.TheVariants.{ReqNeg, Negotiate, Wait, End, Invalid}
use Rattle.grasp_session.specs.Conversation.{Said, says, strip, begun, number, IsLegal, gave_up, HasNumber, HaveNumber}
use Rattle.grasp_laws_session.proofs.Follows.{not_begun}
use Rattle.grasp_laws_session.proofs.Sound.{IsNumbered}

-- an invalid message comes after the request, and has its number
abbrev pub AtInvalid : List Said → Message → Type 0
AtInvalid c (Invalid n d) = (begun (strip c) ≡ true) × (n ≡ number (strip c))
AtInvalid c _ = Unit {0}

-- a message with the number of what was said before
more_numbered : (side : Side) (m : Message) (said : List Said) → IsNumbered said → gave_up side said ≡ false → begun (strip said) ≡ true → HasNumber (number (strip said)) m
    → begun (strip (says side m ∷ said)) ≡ true → number (strip (says side m ∷ said)) ≡ number (strip said) → IsNumbered (says side m ∷ said)
more_numbered side m said i c b h k e = record { last = (c, i.last); opened = sym k; numbered = subst (λ (n : ℕ). HaveNumber n (says side m ∷ said)) (sym e) (h, i.numbered) }

first_numbered : (side : Side) (m : Message) (said : List Said) → said ≡ [] → HasNumber (number (strip (says side m ∷ []))) m → begun (strip (says side m ∷ [])) ≡ true → IsNumbered (says side m ∷ said)
first_numbered side m said e h b = subst (λ (c : List Said). IsNumbered (says side m ∷ c)) (sym e) (record { last = (refl, tt); opened = sym b; numbered = (h, tt) })

pub said_numbered : (side : Side) (m : Message) (said : List Said) → IsNumbered said → gave_up side said ≡ false → IsLegal (strip (says side m ∷ said)) → AtInvalid said m → IsNumbered (says side m ∷ said)
said_numbered side (ReqNeg n o) said i c l a = first_numbered side (ReqNeg n o) said (not_begun said (i.opened ∙ l.0.0)) refl refl
said_numbered side (Negotiate n o) said i c l a = more_numbered side (Negotiate n o) said i c l.0.0.has_begun l.0.0.same_number refl refl
said_numbered side (Wait n t) said i c l a = more_numbered side (Wait n t) said i c l.0.0.has_begun l.0.0.same_number refl refl
said_numbered side (End n v) said i c l a = more_numbered side (End n v) said i c l.0.has_begun l.0.same_number refl refl
said_numbered side (Invalid n d) said i c l a = more_numbered side (Invalid n d) said i c a.0 a.1 a.0 refl
said_numbered side m said i c l a = absurd l.0
