-- The request of what trails is that of the conversation.
use Rattle.std.proofs.Common.{◌≡◌, true, List, [], ◌∷◌, inl, inr, refl, sym, ap, ◌∙◌}
use Rattle.std.proofs.lemmas.Bool.{true≢false}
use Rattle.grasp_session.specs.Messages.{Side}
use Rattle.grasp_types.specs.declared.message.Message.{Message}
use Rattle.grasp_types.specs.declared.message.Message.TheVariants.{ReqNeg, Negotiate, Wait, End, Invalid}
use Rattle.grasp_session.specs.Conversation.{Said, says, begun, number, requested, MayFollow, IsLegal, Trails}

pub trails_begun : (side : Side) (v c : List Said) → Trails side v c → begun v ≡ true → begun c ≡ true
trails_begun side v [] t b = sym (ap begun t) ∙ b
trails_begun side v (x ∷ c) t b = refl

pub request_on : (s : Side) (m : Message) (c : List Said) → MayFollow c (says s m) → begun c ≡ true → (number (says s m ∷ c) ≡ number c) × (requested (says s m ∷ c) ≡ requested c)
request_on s (ReqNeg n o) c f b = absurd (true≢false (sym b ∙ f.0))
request_on s (Negotiate n o) c f b = (refl, refl)
request_on s (Wait n t) c f b = (refl, refl)
request_on s (End n v) c f b = (refl, refl)
request_on s (Invalid n d) c f b = (refl, refl)
request_on s m c f b = absurd f

pub trails_request : (side : Side) (v c : List Said) → IsLegal c → Trails side v c → begun v ≡ true → (number v ≡ number c) × (requested v ≡ requested c)
trails_request side v [] l t b = (ap number t, ap requested t)
trails_request side v (x ∷ c) l (inl e) b = (ap number e, ap requested e)
trails_request side v (x ∷ c) l (inr t) b =
    let h = trails_request side v c l.1 t.1 b in
    let k = request_on x.side x.message c l.0 (trails_begun side v c t.1 b) in
    (h.0 ∙ sym k.0, h.1 ∙ sym k.1)
