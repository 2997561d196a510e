-- The weight of the requested sessions, where each session number has one: no call of a table but a requester's `start`
-- makes it larger.
use Rattle.std.proofs.Common.{◌≡◌, ℕ, zero, suc, ◌+◌, ◌≤◌, Bool, true, false, cond, if◌then◌else◌, List, [], ◌∷◌, Option, Some, None, Result, Ok, Err, slice_index_or, slice_set, refl, ap, ap₂, arith}
use Rattle.std.proofs.lemmas.Bool.{cond_both}
use Rattle.grasp_session.specs.Messages.{Side, Near, is_side}
use Rattle.grasp_session.specs.Sessions.{SessionState, Sessions, with_transcript, with_owner, begun_state, session_at, on_stream, is_leaving, with_place, left, changed, after_start, after_say, receive_reply, after_receive, leave_at, after_poll, mark_at, after_mark, due, after_expire, after_adopt, after_remove}
use Rattle.grasp_session.specs.Transcript.{Mark, Expired, Transcript, opening, session_of, is_going, Saying, SayStep, having_said, receive, with_kept, with_mark}
use Rattle.grasp_session.specs.declared.answer.Received.TheVariants.{Kept}
use Rattle.grasp_session.specs.declared.answer.SessionRefused.{SessionRefused}
use Rattle.grasp_session.specs.declared.begin.Begin.{Begin}
use Rattle.grasp_session.proofs.Facts.{bad_is_not}
use Rattle.grasp_session.proofs.Tables.{state_slot}
use Rattle.grasp_types.specs.declared.message.Message.{Message}
use Rattle.grasp_types.specs.declared.message.Message.TheVariants.{ReqNeg, ReqSyn}
use Rattle.grasp_types.specs.declared.objective.Objective.{Objective}
use Rattle.grasp_types.specs.declared.session.Handle.{Handle}
use Rattle.grasp_types.specs.declared.session.Kind.{Kind}
use Rattle.grasp_types.specs.declared.session.Kind.TheVariants.{Negotiation, Synchronization}
use Rattle.grasp_types.specs.declared.session.Progress.{Progress}
use Rattle.grasp_types.specs.declared.session.Progress.TheVariants as progress
use Rattle.grasp_laws_node.specs.Numbers.{requested_numbers}

-- the sum of what these numbers weigh
abbrev pub total : (ℕ → ℕ) → List ℕ → ℕ
total f [] = 0
total f (x ∷ xs) = f x + total f xs

-- what a place weighs, and what the requested sessions do
abbrev pub weight_at : (ℕ → ℕ) → Option SessionState → ℕ
weight_at f None = 0
weight_at f (Some x) = if is_side Near x.view.role then f (session_of x.view) else 0

abbrev pub sessions_weight : (ℕ → ℕ) → Sessions → ℕ
sessions_weight f z = total f (requested_numbers z.places)

-- whatever a number weighs, these sessions weigh no more than those
abbrev pub Lightens : Sessions → Sessions → Type 0
Lightens z t = (f : ℕ → ℕ) → sessions_weight f t ≤ sessions_weight f z

place_weight : (f : ℕ → ℕ) (o : Option SessionState) (places : List (Option SessionState)) → total f (requested_numbers (o ∷ places)) ≡ weight_at f o + total f (requested_numbers places)
place_weight f None places = omega arith
place_weight f (Some x) places = by_role (is_side Near x.view.role) where
  by_role : (b : Bool) → total f (cond b (session_of x.view ∷ requested_numbers places) (requested_numbers places)) ≡ cond b (f (session_of x.view)) 0 + total f (requested_numbers places)
  by_role true = refl
  by_role false = omega arith

-- another session takes a place
pub set_weight : (f : ℕ → ℕ) (places : List (Option SessionState)) (p : ℕ) (o : Option SessionState)
    → total f (requested_numbers (slice_set places p o)) + weight_at f (slice_index_or places p None) ≤ total f (requested_numbers places) + weight_at f o
set_weight f [] p o = omega arith
set_weight f (x ∷ places) zero o = let e = place_weight f x places in let g = place_weight f o places in omega (arith, e, g)
set_weight f (x ∷ places) (suc p) o =
    let e = place_weight f x places in
    let g = place_weight f x (slice_set places p o) in
    let h = set_weight f places p o in
    omega (arith, e, g, h)

-- the session at a place becomes one that weighs no more
put_light : (z : Sessions) (h : Handle) (x : SessionState) (o : Option SessionState) → session_at z h ≡ Some x → ((f : ℕ → ℕ) → weight_at f o ≤ weight_at f (Some x))
    → (f : ℕ → ℕ) → total f (requested_numbers (slice_set z.places h.place o)) ≤ sessions_weight f z
put_light z h x o e w f =
    let s = set_weight f z.places h.place o in
    let g : weight_at f (slice_index_or z.places h.place None) ≡ weight_at f (Some x) = ap (weight_at f) (state_slot z h x e) in
    let v = w f in
    omega (arith, s, g, v)

left_light : (z : Sessions) (h : Handle) (x y : SessionState) → session_at z h ≡ Some x → Lightens z (left z h y)
left_light z h x y e = put_light z h x None e (λ f. omega arith)

same_weight : (x y : SessionState) → y.view.role ≡ x.view.role → session_of y.view ≡ session_of x.view → (f : ℕ → ℕ) → weight_at f (Some y) ≤ weight_at f (Some x)
same_weight x y r s f = let e : weight_at f (Some y) ≡ weight_at f (Some x) = ap₂ (λ (side : Side) (n : ℕ). cond (is_side Near side) (f n) 0) r s in omega (arith, e)

changed_light : (z : Sessions) (h : Handle) (x y : SessionState) → session_at z h ≡ Some x → y.view.role ≡ x.view.role → session_of y.view ≡ session_of x.view → Lightens z (changed z h y)
changed_light z h x y e r s =
    cond_both (is_leaving y) (left z h y) (with_place z h.place (Some y)) (Lightens z)
    (λ _. left_light z h x y e)
    (λ _. put_light z h x (Some y) e (same_weight x y r s))

-- ---- what is said, heard or marked leaves the session number

said_session : (v : Transcript) (now : ℕ) (saying : Saying) → session_of (having_said v now saying) ≡ session_of v
said_session v now (SayStep value) = refl
said_session v now _ = refl

kept_session : (v : Transcript) (now : ℕ) (m : Message) → receive v m ≡ Kept → session_of (with_kept v now m) ≡ session_of v
kept_session v now (ReqNeg n o) e = absurd (bad_is_not (is_going v) e)
kept_session v now (ReqSyn n o) e = absurd (bad_is_not (is_going v) e)
kept_session v now _ e = refl

-- ---- the calls

pub same_light : (z : Sessions) → Lightens z z
same_light z f = omega arith

pub say_light : (z : Sessions) (now : ℕ) (h : Handle) (saying : Saying) → Lightens z (after_say z now h saying)
say_light z now h saying = by_state (session_at z h) refl where
  by_state : (o : Option SessionState) → session_at z h ≡ o → Lightens z (after_say z now h saying)
  by_state None e = rw e (same_light z)
  by_state (Some x) e = rw e (changed_light z h x (with_transcript x (having_said x.view now saying)) e refl (said_session x.view now saying))

pub receive_light : (z : Sessions) (now stream : ℕ) (m : Message) → receive_reply z stream m ≡ Kept → Lightens z (after_receive z now stream m Kept)
receive_light z now stream m k = by_handle (on_stream z stream) refl where
  by_state : (h : Handle) → on_stream z stream ≡ Some h → (o : Option SessionState) → session_at z h ≡ o → Lightens z (after_receive z now stream m Kept)
  by_state h g None e = rw (g, e) (same_light z)
  by_state h g (Some x) e = rw (g, e) (changed_light z h x (with_transcript x (with_kept x.view now m)) e refl (kept_session x.view now m (rw (g, e) at k)))

  by_handle : (o : Option Handle) → on_stream z stream ≡ o → Lightens z (after_receive z now stream m Kept)
  by_handle None g = rw g (same_light z)
  by_handle (Some h) g = by_state h g (session_at z h) refl

pub mark_at_light : (z : Sessions) (mark : Mark) (o : Option Handle) → Lightens z (mark_at z mark o)
mark_at_light z mark None = same_light z
mark_at_light z mark (Some h) = by_state (session_at z h) refl where
  by_state : (o : Option SessionState) → session_at z h ≡ o → Lightens z (mark_at z mark (Some h))
  by_state None e = rw e (same_light z)
  by_state (Some x) e =
      rw e (cond_both (is_going x.view) (changed z h (with_transcript x (with_mark x.view mark))) z (Lightens z)
      (λ _. changed_light z h x (with_transcript x (with_mark x.view mark)) e refl refl)
      (λ _. same_light z))

pub mark_light : (z : Sessions) (stream : ℕ) (mark : Mark) → Lightens z (after_mark z stream mark)
mark_light z stream mark = mark_at_light z mark (on_stream z stream)

pub expire_light : (z : Sessions) (now : ℕ) → Lightens z (after_expire z now)
expire_light z now = mark_at_light z (Expired now) (due z now)

pub adopt_light : (z : Sessions) (owner : ℕ) (h : Handle) → Lightens z (after_adopt z owner h)
adopt_light z owner h = by_state (session_at z h) refl where
  by_state : (o : Option SessionState) → session_at z h ≡ o → Lightens z (after_adopt z owner h)
  by_state None e = rw e (same_light z)
  by_state (Some x) e = rw e (put_light z h x (Some (with_owner x owner)) e (same_weight x (with_owner x owner) refl refl))

pub remove_light : (z : Sessions) (h : Handle) → Lightens z (after_remove z h)
remove_light z h = by_state (session_at z h) refl where
  by_state : (o : Option SessionState) → session_at z h ≡ o → Lightens z (leave_at z h o)
  by_state None e = same_light z
  by_state (Some x) e = left_light z h x x e

pub poll_light : (z : Sessions) (h : Handle) (r : Result Progress SessionRefused) → Lightens z (after_poll z h r)
poll_light z h (Ok (progress.Ended outcome)) = remove_light z h
poll_light z h _ = same_light z

-- a listener's session weighs nothing
pub listener_light : (z : Sessions) (now : ℕ) (begin : Begin) (h : Handle) → begin.requester ≡ false → Lightens z (after_start z now begin (Ok h))
listener_light z now begin h r f =
    let s = set_weight f z.places h.place (Some (begun_state now h.number begin)) in
    let w : weight_at f (Some (begun_state now h.number begin)) ≡ 0 = rw r in
    omega (arith, s, w)

-- a requester's session weighs what its number does
opening_session : (kind : Kind) (role : Side) (timeout now session : ℕ) (o : Objective) → session_of (opening kind role timeout now session o) ≡ session
opening_session Negotiation role timeout now session o = refl
opening_session Synchronization role timeout now session o = refl

pub start_weight : (z : Sessions) (now : ℕ) (begin : Begin) (r : Result Handle SessionRefused) → begin.requester ≡ true
    → (f : ℕ → ℕ) → sessions_weight f (after_start z now begin r) ≤ sessions_weight f z + f begin.session
start_weight z now begin (Ok h) r f =
    let s = set_weight f z.places h.place (Some (begun_state now h.number begin)) in
    let w : weight_at f (Some (begun_state now h.number begin)) ≡ f begin.session = rw r (ap f (opening_session begin.kind Near begin.timeout now begin.session begin.objective)) in
    omega (arith, s, w)
start_weight z now begin (Err refused) r f = omega arith
