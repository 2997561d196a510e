-- The message of an act, by what the table tells of its session before it is said.
use Rattle.std.proofs.Common.{◌≡◌, ℕ, Bool, true, false, cond, Option, Some, None, refl, sym, ap, ◌∙◌}
use Rattle.grasp_types.specs.declared.objective.Objective.{Objective}
use Rattle.grasp_types.specs.declared.session.Handle.{Handle}
use Rattle.grasp_session.specs.declared.table.Table.{Table}
use Rattle.grasp_session.specs.Transcript.{session_of, request_of, last_offer, is_going}
use Rattle.grasp_session.specs.Keeps.{Keeps}
use Rattle.grasp_session.specs.Sessions.{SessionState, Sessions, session_at, going_at, last_reply}
use Rattle.grasp_session.specs.Stands.{Stands, StandsAt, kept_at}
use Rattle.grasp_session.specs.declared.session.Session.{Session}
use Rattle.grasp_session.specs.Acts.{ActsAreMade, MessagesAreMade}
use Rattle.grasp_session.proofs.Tables.{stands_at}

-- a live session is one that a session is kept of
pub record IsKept (x : SessionState) : Type 0 where
  pub session : Session
  pub keeps : Keeps session x

pub kept_of : (t : Table) (z : Sessions) (h : Handle) (x : SessionState) → Stands t z → session_at z h ≡ Some x → IsKept x
kept_of t z h x st e = by_kept (kept_at t.places h) (session_at z h) (stands_at t z h st) e where
  by_kept : (o : Option Session) (p : Option SessionState) → StandsAt o p → p ≡ Some x → IsKept x
  by_kept None None k f = absurd (cc)
  by_kept None (Some y) k f = absurd k
  by_kept (Some s) None k f = absurd k
  by_kept (Some s) (Some y) k f = let same : y ≡ x = cc in record { session = s; keeps = subst_keeps s y same k } where
    subst_keeps : (s : Session) (y : SessionState) → y ≡ x → Keeps s y → Keeps s x
    subst_keeps s y same k = Rattle.std.proofs.Common.subst (Keeps s) same k

-- a session without an outcome
pub record Going (z : Sessions) (h : Handle) : Type 0 where
  pub state : SessionState
  pub at : session_at z h ≡ Some state
  pub going : going_at z h ≡ Some state

abbrev if_going : Option SessionState → Option SessionState
if_going None = None
if_going (Some x) = cond (is_going x.view) (Some x) None

pub going_of : (z : Sessions) (h : Handle) (x : SessionState) → going_at z h ≡ Some x → session_at z h ≡ Some x
going_of z h x e = by_state (session_at z h) refl e where
  by_state : (o : Option SessionState) → session_at z h ≡ o → if_going o ≡ Some x → session_at z h ≡ Some x
  by_state None f g = absurd (cc)
  by_state (Some y) f g = by_test (is_going y.view) g where
    by_test : (b : Bool) → cond b (Some y) None ≡ Some x → session_at z h ≡ Some x
    by_test true i = f ∙ i
    by_test false i = absurd (cc)

abbrev number_in : Option SessionState → Option ℕ
number_in None = None
number_in (Some x) = Some (session_of x.view)

abbrev offer_in : Option SessionState → Option Objective
offer_in None = None
offer_in (Some x) = Some (last_offer x.view)

pub messages_made : MessagesAreMade
messages_made t z h session st e = by_going (going_at z h) refl e where
  made : (x : SessionState) → going_at z h ≡ Some x → session_of x.view ≡ session → ActsAreMade z h session
  made x g n =
      let at : session_at z h ≡ Some x = going_of z h x g in
      let k = kept_of t z h x st at in record {
        step = λ last value f. let same : last_offer x.view ≡ last = some_offer last x g f in rw (at, n, sym k.keeps.named, sym k.keeps.flagged, same) refl;
        wait = λ millis. rw (at, n) refl;
        end = λ verdict. rw (at, n) refl;
        invalid = λ detail. rw (at, n) refl;
      } where
        some_offer : (last : Objective) (x : SessionState) → going_at z h ≡ Some x → last_reply z h ≡ Some last → last_offer x.view ≡ last
        some_offer last x g f = let p : Some (last_offer x.view) ≡ Some last = ap offer_in (sym g) ∙ f in cc

  by_going : (o : Option SessionState) → going_at z h ≡ o → number_in o ≡ Some session → ActsAreMade z h session
  by_going None g f = absurd (cc)
  by_going (Some x) g f = made x g (cc)

-- a last offer has the request's name and flags
pub offers_named : (t : Table) (z : Sessions) (h : Handle) (o : Objective) (x : SessionState) → Stands t z → last_reply z h ≡ Some o → session_at z h ≡ Some x
    → (o.name ≡ (request_of x.view).name) × (o.flags ≡ (request_of x.view).flags)
offers_named t z h o x st e at = by_going (going_at z h) refl e where
  by_going : (p : Option SessionState) → going_at z h ≡ p → offer_in p ≡ Some o → (o.name ≡ (request_of x.view).name) × (o.flags ≡ (request_of x.view).flags)
  by_going None g f = absurd (cc)
  by_going (Some y) g f =
      let twice : Some y ≡ Some x = sym (going_of z h y g) ∙ at in
      let same : y ≡ x = cc in
      let offer : last_offer y.view ≡ o = cc in
      let k = kept_of t z h x st at in
      let mine : last_offer x.view ≡ o = ap (λ (w : SessionState). last_offer w.view) (sym same) ∙ offer in
      (ap (λ (p : Objective). p.name) (sym mine) ∙ k.keeps.named, ap (λ (p : Objective). p.flags) (sym mine) ∙ k.keeps.flagged)
