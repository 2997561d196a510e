-- What a settling and a restart leave: what is looked up at the lives of nodes, and the streams.
use Rattle.std.proofs.Common.{◌≡◌, ◌≢◌, refl, sym, ap, ◌∙◌, subst, ℕ, ◌+◌, ◌==◌, Bool, true, false, length, find, Option, Some, None, inr}
use Rattle.std.proofs.lemmas.Bool.{eqb-true, eqb-false}
use Rattle.std.proofs.lemmas.Option.{none-some, same_Some}
use Rattle.std.specs.Prelude.{option_map}
use Rattle.grasp_laws_network.proofs.Appended.{not_next}
use Rattle.grasp_laws_network.proofs.Begun.{begun_sessions, begun_streams}
use Rattle.grasp_laws_network.proofs.Others.{put_elsewhere}
use Rattle.grasp_laws_network.proofs.Restarted.{IsSameStream, Restarting, retired_seat, begun_seat, restarting_is}
use Rattle.grasp_laws_network.proofs.Settled.{Settling, settling_is}
use Rattle.grasp_laws_network.proofs.Staying.{put_here}
use Rattle.grasp_laws_network.proofs.Telling.{one_least}
use Rattle.grasp_laws_network.specs.Telling.{OneAgent}
use Rattle.grasp_laws_network.specs.Views.{all_sessions, session_in, session_of_end, view_in}
use Rattle.grasp_laws_node_stories.specs.Stories.{IsClear}
use Rattle.grasp_laws_node_stories.specs.StreamMoves.{view_on}
use Rattle.grasp_model_network.specs.Openings.{opened_seat}
use Rattle.grasp_model_network.specs.Restarting.{after_restart}
use Rattle.grasp_model_network.specs.Sending.{seat_with}
use Rattle.grasp_model_network.specs.Setting.{Setting}
use Rattle.grasp_model_network.specs.Settling.{after_settle}
use Rattle.grasp_model_network.specs.Streams.{StreamEnd, StreamState, end_at}
use Rattle.grasp_model_network.specs.World.{Seat, WorldState, present_life, seat_at, with_seat}
use Rattle.grasp_model_node.specs.Streams.{past_of}
use Rattle.grasp_model_node.specs.declared.plan.NodePlan.{NodePlan}
use Rattle.grasp_pool.specs.Functions.{pool_of_image}
use Rattle.grasp_pool.specs.Holdings.{Holding}
use Rattle.grasp_pool.specs.declared.image.PoolImage.{PoolImage}
use Rattle.grasp_session.specs.Made.{on_stream_made}
use Rattle.grasp_session.specs.Messages.{Side}
use Rattle.grasp_session.specs.Sessions.{SessionState, Sessions}
use Rattle.grasp_types.specs.Prefix.{AddressBlock as Prefix}
use Rattle.grasp_laws_negotiation.proofs.Harmless.{IsLike, like_end, Was, Harmless, same_talks}
use Rattle.grasp_laws_negotiation.specs.GoingOn.{IsLeft, StreamsAreLeft, TurnsLeaveNegotiations}

-- ---- a life that begins has no session and no open stream

module _ (plan : NodePlan) (h : Holding) where
  pub begun_unseen : (stream : ℕ) → view_on (opened_seat plan h).core stream ≡ None
  begun_unseen stream = ap (λ (z : Sessions). option_map (λ (x : SessionState). x.view) (on_stream_made z stream)) (begun_sessions plan h)

  pub begun_closed : (stream : ℕ) → past_of (opened_seat plan h).core.streams stream ≡ None
  begun_closed stream = ap (λ z. past_of z stream) (begun_streams plan h)

  pub begun_clear : (stream : ℕ) → IsClear (opened_seat plan h).core stream
  begun_clear stream = record { opens = λ past e. absurd (none-some past (sym (begun_closed stream) ∙ e)); unborn = inr (begun_unseen stream) }

  begun_none : (e : StreamEnd) → session_in e (Some (opened_seat plan h)) ≡ None
  begun_none e = ap (λ (z : Sessions). find (λ x. x.stream == e.number) (all_sessions z)) (begun_sessions plan h)

-- ---- another agent

-- what is looked up at a life, and is the same with another agent, is so in both networks
pub one_looked : {A : Type 0} (f : Option Seat → A) (w x : WorldState) (o : OneAgent w x) → f (Some (seat_with o.seat.core o.agent)) ≡ f (Some o.seat) → (n : ℕ) → f (seat_at x n) ≡ f (seat_at w n)
one_looked f w x o same n = ap (λ (y : WorldState). f (seat_at y n)) o.after ∙ by_node (n == o.node) refl where
  by_node : (b : Bool) → (n == o.node) ≡ b → f (seat_at (with_seat w o.node (seat_with o.seat.core o.agent)) n) ≡ f (seat_at w n)
  by_node true is =
      subst (λ k. f (seat_at (with_seat w o.node (seat_with o.seat.core o.agent)) k) ≡ f (seat_at w k)) (sym (eqb-true n o.node is))
      (ap f (put_here w.seats o.node o.seat (seat_with o.seat.core o.agent) o.here) ∙ (same ∙ sym (ap f o.here)))
  by_node false is = ap f (put_elsewhere w.seats o.node n (seat_with o.seat.core o.agent) (one_least w x o) (eqb-false n o.node is))

pub one_session : (w x : WorldState) → OneAgent w x → (e : Option StreamEnd) → session_of_end x e ≡ session_of_end w e
one_session w x o None = refl
one_session w x o (Some e) = one_looked (session_in e) w x o refl e.node

-- ---- a restart

-- no life has the next number
none_next : (w : WorldState) → seat_at w (length w.seats + 1) ≡ None
none_next w = by_seat (seat_at w (length w.seats + 1)) refl where
  by_seat : (o : Option Seat) → seat_at w (length w.seats + 1) ≡ o → o ≡ None
  by_seat None is = refl
  by_seat (Some seat) is = absurd (not_next w.seats (length w.seats + 1) seat is refl)

module _ (s : Setting) (w : WorldState) (node : ℕ) (image : PoolImage) (x : WorldState) (r : Restarting s w node image x) where
  -- what is looked up at a life, is the same once it has ended, and is nothing at one that begins, is so in both networks
  pub restart_looked : {A : Type 0} (f : Option Seat → A) → f (Some (retired_seat r.seat)) ≡ f (Some r.seat) → f (Some (begun_seat r.member image)) ≡ f None → (n : ℕ) → f (seat_at x n) ≡ f (seat_at w n)
  restart_looked f left begun n = by_ended (n == present_life w node) refl where
    by_begun : n ≢ present_life w node → (b : Bool) → (n == length w.seats + 1) ≡ b → f (seat_at x n) ≡ f (seat_at w n)
    by_begun apart true is = subst (λ k. f (seat_at x k) ≡ f (seat_at w k)) (sym (eqb-true n (length w.seats + 1) is)) (ap f r.begun ∙ (begun ∙ sym (ap f (none_next w))))
    by_begun apart false is = ap f (r.others n apart (eqb-false n (length w.seats + 1) is))

    by_ended : (b : Bool) → (n == present_life w node) ≡ b → f (seat_at x n) ≡ f (seat_at w n)
    by_ended true is = subst (λ k. f (seat_at x k) ≡ f (seat_at w k)) (sym (eqb-true n (present_life w node) is)) (ap f r.left ∙ (left ∙ sym (ap f r.here)))
    by_ended false is = by_begun (eqb-false n (present_life w node) is) (n == length w.seats + 1) refl

  pub restart_session : (e : Option StreamEnd) → session_of_end x e ≡ session_of_end w e
  restart_session None = refl
  restart_session (Some e) = restart_looked (session_in e) refl (begun_none r.member.plan (pool_of_image image) e) e.node

  like_same : (t u : StreamState) → IsSameStream t u → IsLike t u
  like_same t u i = record { near = i.near; far = i.far; said = i.said }

  -- each stream is at its place, like it was
  pub restart_harmless : Harmless w.streams x.streams
  restart_harmless = record {
    back = λ place u is. let m = r.were_told place u is in record { before = m.0; stands = m.1; like = like_same m.0 u m.2.same };
    forth = λ place t is. let m = r.told place t is in record { after = m.0; stands = m.1; like = like_same t m.0 m.2.same };
  }

-- ---- what the sides of streams saw

-- a stream with the same ends, on which the same was said, where each session is looked up as it was
like_left : (w x : WorldState) → ((e : Option StreamEnd) → session_of_end x e ≡ session_of_end w e) → (t u : StreamState) → IsLike t u → IsLeft w x t u
like_left w x same t u like = record {
  said = like.said;
  saw = λ side v. (λ saw. same_view side ∙ saw, λ saw. sym (same_view side) ∙ saw);
} where
  same_view : (side : Side) → view_in (session_of_end x (end_at u side)) ≡ view_in (session_of_end w (end_at t side))
  same_view side = ap view_in (ap (session_of_end x) (like_end t u like side) ∙ same (end_at t side))

left_by : (w x : WorldState) → ((e : Option StreamEnd) → session_of_end x e ≡ session_of_end w e) → Harmless w.streams x.streams → StreamsAreLeft w x
left_by w x same harmless place t u was there = by_before (harmless.back place u there) where
  by_before : Was w.streams place u → IsLeft w x t u
  by_before m = like_left w x same t u (subst (λ y. IsLike y u) (same_Some m.before t (sym m.stands ∙ was)) m.like)

pub one_leaves : (w x : WorldState) → OneAgent w x → StreamsAreLeft w x
one_leaves w x o = left_by w x (one_session w x o) (subst (λ (y : WorldState). Harmless w.streams y.streams) (sym o.after) (same_talks w.streams))

pub settle_leaves : (w : WorldState) (node : ℕ) (p : Prefix) (x : WorldState) → Settling w node p x → StreamsAreLeft w x
settle_leaves w node p x t = one_leaves w x t.one

pub restart_leaves : (s : Setting) (w : WorldState) (node : ℕ) (image : PoolImage) (x : WorldState) → Restarting s w node image x → StreamsAreLeft w x
restart_leaves s w node image x r = left_by w x (restart_session s w node image x r) (restart_harmless s w node image x r)

pub turns_leave_negotiations : TurnsLeaveNegotiations
turns_leave_negotiations = record {
  settles = λ w node p dead. settle_leaves w node p (after_settle w node p) (settling_is w node p dead);
  restarts = λ s w node image may. restart_leaves s w node image (after_restart s w node image) (restarting_is s w node image may);
}
