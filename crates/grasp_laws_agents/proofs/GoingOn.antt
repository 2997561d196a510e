-- What a session in which this end has said nothing since has in common with what it was.
use Rattle.std.proofs.Common.{◌≡◌, refl, sym, ap, ◌∙◌, subst, ℕ, nat_lt, Bool, true, false, cond, not, ◌&&◌, ◌||◌, is_none, ◌⊎◌, inl, inr, List, [], ◌∷◌, ◌++◌, bytes_eq}
use Rattle.std.proofs.lemmas.Bool.{true≢false, and_parts}
use Rattle.grasp_cbor.proofs.Facts.Bools.{and_false}
use Rattle.grasp_laws_session.proofs.Offers.{trails_offer, trails_unanswered}
use Rattle.grasp_laws_session.proofs.Runs.{gets_kept, suffers_mark}
use Rattle.grasp_laws_session.proofs.Trailing.{trails_same}
use Rattle.grasp_laws_session.proofs.Views.{is_side-other, same_side}
use Rattle.grasp_session.proofs.Facts.{kept_test, not_awaited}
use Rattle.grasp_session.specs.Conversation.{Said, says, turn, has_offered, newest_offer_by, answered, Trails}
use Rattle.grasp_session.specs.Messages.{Side, other, is_side, is_invalid, is_offer}
use Rattle.grasp_session.specs.Transcript.{Mark, Faulty, Transcript, Deed, Does, Gets, Suffers, known, session_of, request_of, my_offer, is_mine, is_going, waits_of, is_awaited, is_good_step, is_negotiation, may_end, receive, receive_going, with_kept, with_mark, after_heard, after_deed, after_deeds}
use Rattle.grasp_session.specs.declared.answer.Received.{Received}
use Rattle.grasp_session.specs.declared.answer.Received.TheVariants.{Kept, Ignored, Bad}
use Rattle.grasp_types.specs.declared.message.Message.{Message}
use Rattle.grasp_types.specs.declared.message.Message.TheVariants.{ReqNeg, Negotiate, Wait, End, Synch, Invalid}
use Rattle.grasp_laws_agents.specs.GoingOn.{IsHeard, AreHeard, OnlyHears}

-- ---- what was heard, one thing after the other

heard_both : (ds es : List Deed) → AreHeard ds → AreHeard es → AreHeard (ds ++ es)
heard_both [] es a b = b
heard_both (d ∷ ds) es a b = (a.0, heard_both ds es a.1 b)

deeds_both : (v : Transcript) (ds es : List Deed) → after_deeds v (ds ++ es) ≡ after_deeds (after_deeds v ds) es
deeds_both v [] es = refl
deeds_both v (d ∷ ds) es = deeds_both (after_deed v d) ds es

pub nothing_heard : (v : Transcript) → OnlyHears v v
nothing_heard v = record { deeds = []; heard = tt; after = refl }

pub hears_then : (u v w : Transcript) → OnlyHears u v → OnlyHears v w → OnlyHears u w
hears_then u v w a b = record {
  deeds = a.deeds ++ b.deeds;
  heard = heard_both a.deeds b.deeds a.heard b.heard;
  after = b.after ∙ (ap (λ x. after_deeds x b.deeds) a.after ∙ sym (deeds_both u a.deeds b.deeds));
}

pub kept_heard : (v : Transcript) (now : ℕ) (m : Message) → receive v m ≡ Kept → OnlyHears v (with_kept v now m)
kept_heard v now m e = record { deeds = Gets now m ∷ []; heard = (tt, tt); after = sym (gets_kept v now m e) }

pub mark_heard : (v : Transcript) (mark : Mark) → is_going v ≡ true → OnlyHears v (with_mark v mark)
mark_heard v mark e = record { deeds = Suffers mark ∷ []; heard = (tt, tt); after = sym (suffers_mark v mark e) }

-- ---- what is so of each of them is so of all

-- P is reflexive and transitive, and relates a transcript that goes on to the same with a message kept, and to the same with a mark
pub record IsHearing (P : Transcript → Transcript → Type 0) : Type 0 where
  pub same : (v : Transcript) → P v v
  pub both : (u v w : Transcript) → P u v → P v w → P u w
  pub keeps : (v : Transcript) (now : ℕ) (m : Message) → is_going v ≡ true → receive_going v m ≡ Kept → P v (with_kept v now m)
  pub marks : (v : Transcript) (mark : Mark) → is_going v ≡ true → P v (with_mark v mark)

module _ (P : Transcript → Transcript → Type 0) (is : IsHearing P) where
  heard_by : (v : Transcript) (now : ℕ) (m : Message) (going : Bool) (r : Received) → is_going v ≡ going → receive_going v m ≡ r → P v (after_heard v now m (cond going r Ignored))
  heard_by v now m true Kept e f = is.keeps v now m e f
  heard_by v now m true Ignored e f = is.same v
  heard_by v now m true Bad e f = is.marks v Faulty e
  heard_by v now m false r e f = is.same v

  marked_by : (v : Transcript) (mark : Mark) (going : Bool) → is_going v ≡ going → P v (cond going (with_mark v mark) v)
  marked_by v mark true e = is.marks v mark e
  marked_by v mark false e = is.same v

  one_heard : (v : Transcript) (d : Deed) → IsHeard d → P v (after_deed v d)
  one_heard v (Does now saying) h = absurd h
  one_heard v (Gets now m) h = heard_by v now m (is_going v) (receive_going v m) refl refl
  one_heard v (Suffers mark) h = marked_by v mark (is_going v) refl

  all_heard : (v : Transcript) (ds : List Deed) → AreHeard ds → P v (after_deeds v ds)
  all_heard v [] h = is.same v
  all_heard v (d ∷ ds) h = is.both v (after_deed v d) (after_deeds (after_deed v d) ds) (one_heard v d h.0) (all_heard (after_deed v d) ds h.1)

  pub hearing : (v w : Transcript) → OnlyHears v w → P v w
  hearing v w o = subst (P v) (sym o.after) (all_heard v o.deeds o.heard)

-- ---- the same request, kind and role

pub record Alike (v w : Transcript) : Type 0 where
  pub role : w.role ≡ v.role
  pub kind : w.kind ≡ v.kind
  pub session : session_of w ≡ session_of v
  pub request : request_of w ≡ request_of v

pub kept_alike : (v : Transcript) (now : ℕ) (m : Message) → receive_going v m ≡ Kept → Alike v (with_kept v now m)
kept_alike v now (ReqNeg n o) e = absurd (cc)
kept_alike v now (Negotiate n o) e = record { role = refl; kind = refl; session = refl; request = refl }
kept_alike v now (Wait n t) e = record { role = refl; kind = refl; session = refl; request = refl }
kept_alike v now (End n d) e = record { role = refl; kind = refl; session = refl; request = refl }
kept_alike v now (Synch n o) e = record { role = refl; kind = refl; session = refl; request = refl }
kept_alike v now (Invalid n d) e = record { role = refl; kind = refl; session = refl; request = refl }
kept_alike v now m e = absurd (cc)

alike_hearing : IsHearing Alike
alike_hearing = record {
  same = λ v. record { role = refl; kind = refl; session = refl; request = refl };
  both = λ u v w a b. record { role = b.role ∙ a.role; kind = b.kind ∙ a.kind; session = b.session ∙ a.session; request = b.request ∙ a.request };
  keeps = λ v now m e f. kept_alike v now m f;
  marks = λ v mark e. record { role = refl; kind = refl; session = refl; request = refl };
}

pub heard_alike : (v w : Transcript) → OnlyHears v w → Alike v w
heard_alike v w o = hearing Alike alike_hearing v w o

-- ---- what is known before is an earlier part, and what came since is all of the peer

trails_on : (side : Side) (a b c : List Said) → Trails side a b → Trails side b c → Trails side a c
trails_on side a b [] s t = subst (Trails side a) t s
trails_on side a b (x ∷ c) s (inl e) = subst (Trails side a) e s
trails_on side a b (x ∷ c) s (inr t) = inr (t.0, trails_on side a b c s t.1)

pub kept_trails : (v : Transcript) (now : ℕ) (m : Message) → Trails v.role (known v) (known (with_kept v now m))
kept_trails v now m = by_test (is_invalid m) where
  by_test : (b : Bool) → Trails v.role (known v) (cond b (known v) (says (other v.role) m ∷ known v))
  by_test true = trails_same v.role (known v)
  by_test false = inr (refl, trails_same v.role (known v))

abbrev pub IsTrailing : Transcript → Transcript → Type 0
IsTrailing v w = (w.role ≡ v.role) × Trails v.role (known v) (known w)

trailing_hearing : IsHearing IsTrailing
trailing_hearing = record {
  same = λ v. (refl, trails_same v.role (known v));
  both = λ u v w a b. (b.0 ∙ a.0, trails_on u.role (known u) (known v) (known w) a.1 (subst (λ s. Trails s (known v) (known w)) a.0 b.1));
  keeps = λ v now m e f. (refl, kept_trails v now m);
  marks = λ v mark e. (refl, trails_same v.role (known v));
}

pub heard_trails : (v w : Transcript) → OnlyHears v w → Trails v.role (known v) (known w)
heard_trails v w o = (hearing IsTrailing trailing_hearing v w o).1

-- whether a side has offered is the same in a conversation and in an earlier part of it to which only the other side has added
pub trails_offered : (side : Side) (v c : List Said) → Trails side v c → has_offered side v ≡ has_offered side c
trails_offered side v [] t = ap (has_offered side) t
trails_offered side v (x ∷ c) (inl e) = ap (has_offered side) e
trails_offered side v (x ∷ c) (inr t) = trails_offered side v c t.1 ∙ sym (ap (λ b. (b && is_offer x.message) || has_offered side c) (is_side-other side x.side t.0))

pub heard_offered : (v w : Transcript) → OnlyHears v w → has_offered v.role (known w) ≡ has_offered v.role (known v)
heard_offered v w o = sym (trails_offered v.role (known v) (known w) (heard_trails v w o))

pub heard_offer : (v w : Transcript) → OnlyHears v w → my_offer w ≡ my_offer v
heard_offer v w o = ap (λ s. newest_offer_by s (known w)) (heard_alike v w o).role ∙ sym (trails_offer v.role (known v) (known w) (heard_trails v w o))

pub heard_unanswered : (v w : Transcript) → OnlyHears v w → answered v.role (known w) ≡ false → answered v.role (known v) ≡ false
heard_unanswered v w o e = trails_unanswered v.role (known v) (known w) (heard_trails v w o) e

-- ---- a session in which the peer has nothing to say

-- the session has an outcome, or the turn is this end's
abbrev pub IsQuiet : Transcript → Type 0
IsQuiet v = (is_going v ≡ false) ⊎ (is_mine v ≡ true)

abbrev StaysQuiet : Transcript → Transcript → Type 0
StaysQuiet v w = IsQuiet v → (known w ≡ known v) × IsQuiet w

-- of what may come then only an M_INVALID is kept
kept_quiet : (v : Transcript) (now : ℕ) (m : Message) → receive_going v m ≡ Kept → is_mine v ≡ true → (known (with_kept v now m) ≡ known v) × IsQuiet (with_kept v now m)
kept_quiet v now (ReqNeg n o) e f = absurd (cc)
kept_quiet v now (Negotiate n o) e f =
    absurd
    (not_awaited v n f
    (and_parts (is_awaited v n) (is_good_step v o) (and_parts (is_negotiation v.kind) (is_awaited v n && is_good_step v o) (kept_test (is_negotiation v.kind && (is_awaited v n && is_good_step v o)) e)).1).0)
kept_quiet v now (Wait n t) e f = absurd (not_awaited v n f (and_parts (is_awaited v n) (nat_lt (waits_of v) 4) (kept_test (is_awaited v n && nat_lt (waits_of v) 4) e)).0)
kept_quiet v now (End n d) e f = absurd (not_awaited v n f (and_parts (may_end v.kind d) (is_awaited v n) (kept_test (may_end v.kind d && is_awaited v n) e)).1)
kept_quiet v now (Synch n o) e f =
    absurd
    (not_awaited v n f
    (and_parts (is_awaited v n) (bytes_eq o.name (request_of v).name)
    (and_parts (not (is_negotiation v.kind)) (is_awaited v n && bytes_eq o.name (request_of v).name)
    (kept_test (not (is_negotiation v.kind) && (is_awaited v n && bytes_eq o.name (request_of v).name)) e)).1).0)
kept_quiet v now (Invalid n d) e f = (refl, inl (and_false (is_none v.mark)))
kept_quiet v now m e f = absurd (cc)

keeps_quiet : (v : Transcript) (now : ℕ) (m : Message) → is_going v ≡ true → receive_going v m ≡ Kept → StaysQuiet v (with_kept v now m)
keeps_quiet v now m e f (inl g) = absurd (true≢false (sym e ∙ g))
keeps_quiet v now m e f (inr g) = kept_quiet v now m f g

quiet_hearing : IsHearing StaysQuiet
quiet_hearing = record {
  same = λ v q. (refl, q);
  both = λ u v w a b q. let p = a q in let r = b p.1 in (r.0 ∙ p.0, r.1);
  keeps = keeps_quiet;
  marks = λ v mark e q. (refl, inl refl);
}

-- nothing that counts comes to it then
pub heard_quiet : (v w : Transcript) → OnlyHears v w → IsQuiet v → known w ≡ known v
heard_quiet v w o q = (hearing StaysQuiet quiet_hearing v w o q).0

-- where the turn was this end's, nothing that counts has come
pub heard_turn : (v w : Transcript) → OnlyHears v w → turn (known v) ≡ v.role → known w ≡ known v
heard_turn v w o e = heard_quiet v w o (inr (ap (is_side v.role) e ∙ same_side v.role))
