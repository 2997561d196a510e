-- What each step of a network keeps, and each other turn, is so of every network that turns lead to.
use Rattle.std.proofs.Common.{◌≡◌, refl, sym, ap, ◌∙◌, ℕ, ◌-◌, ◌≤◌, inl, inr, ◌⊎◌, All, List, [], ◌∷◌, slice_get, slice_set, take, Option, Some, None}
use Rattle.std.proofs.lemmas.List.Elements.{All-nil, All-cons}
use Rattle.grasp_agent.specs.Replies.{after_event as after_told}
use Rattle.grasp_model_node.specs.Begin.{begin}
use Rattle.grasp_model_node.specs.BoundedNodes.{IsBoundedNode}
use Rattle.grasp_model_node.specs.Draining.{closes, after_drain}
use Rattle.grasp_model_node.specs.Node.{NodeState}
use Rattle.grasp_laws_network.proofs.Going.{reached_more}
use Rattle.grasp_laws_network.proofs.Ended.{put_life}
use Rattle.grasp_laws_network.proofs.Lives.{same_is_present}
use Rattle.grasp_laws_network.proofs.Restarted.{Restarting}
use Rattle.grasp_laws_network.proofs.SameLives.{drained_lives}
use Rattle.grasp_laws_network.proofs.Sent.{sending_keeps_nodes}
use Rattle.grasp_laws_network.proofs.Settled.{Settling}
use Rattle.grasp_laws_network.proofs.Telling.{one_agent, one_least}
use Rattle.grasp_laws_network.specs.Telling.{Tells}
use Rattle.grasp_pool.specs.declared.image.PoolImage.{PoolImage}
use Rattle.grasp_types.specs.Prefix.{AddressBlock as Prefix}
use Rattle.grasp_model_network.proofs.Facts.{first_reached}
use Rattle.grasp_model_network.specs.EventSteps.{after_agent}
use Rattle.grasp_model_network.specs.Events.{Occurs, visit_of, after_visit, after_event}
use Rattle.grasp_model_network.specs.GoodSetting.{IsGoodSetting}
use Rattle.grasp_model_network.specs.Runs.{Happening, IsRun, IsReached, first_world, worlds_from}
use Rattle.grasp_model_network.specs.Sending as network
use Rattle.grasp_model_network.specs.Sending.{seat_with, drained_from, drained_at}
use Rattle.grasp_model_network.specs.Setting.{Setting}
use Rattle.grasp_model_network.specs.Streams.{StreamState}
use Rattle.grasp_model_network.specs.Visits.{Visit, Choice}
use Rattle.grasp_model_network.specs.World.{Seat, WorldState, seat_at, with_seat}
use Rattle.grasp_model_network.specs.declared.event.Event.{Event}
use Rattle.grasp_model_network.specs.declared.event.Event.TheVariants as event
use Rattle.grasp_laws_delivery.proofs.Holding.{IsStep, parts_keep}
use Rattle.grasp_laws_delivery.proofs.Worlds.{reached_in_order}
use Rattle.grasp_laws_prefixes.proofs.AgentSteps.{AgentStep}
use Rattle.grasp_laws_prefixes.proofs.Asking.{begun_going}
use Rattle.grasp_laws_prefixes.proofs.OwnSteps.{IsCall, own_step}
use Rattle.grasp_laws_prefixes.proofs.QuietSteps.{others_go_on, drains_go_on}
use Rattle.grasp_laws_prefixes.proofs.Standing.{IsGoingOn, NothingSaid, NothingHappens, WorldGoesOn}
use Rattle.grasp_laws_prefixes.specs.Grounds.{Grounds}
use Rattle.grasp_laws_negotiation.proofs.Harmless.{handed_harmless}

-- ---- where nothing is said

pub same_said : (w y : WorldState) → y.streams ≡ w.streams → NothingSaid w y
same_said w y e place t stands = (t, (ap (λ (ts : List StreamState). slice_get ts place) e ∙ stands, refl))

drain_says : (s : Setting) (w : WorldState) (node max : ℕ) (o : Option Seat) → NothingSaid w (drained_at s w node max o)
drain_says s w node max None = same_said w w refl
drain_says s w node max (Some seat) = from (begin seat.core seat.core.reading) where
  from : (m : NodeState) → NothingSaid w (drained_from s w node seat m max)
  from m place t stands =
      let put = with_seat w node (seat_with (after_drain m max) seat.agent) in
      let h = (handed_harmless s put node (take max m.queue) (closes m max)).forth place t stands in
      (h.after, (h.stands, h.like.said))

drained_says : (s : Setting) (w : WorldState) (node max : ℕ) → NothingSaid w (network.drained s w node max)
unfolding network.drained
drained_says s w node max = drain_says s w node max (seat_at w node)

-- ---- where nothing happens

-- what goes on in a life went on there before
abbrev pub WentOn : WorldState → ℕ → Seat → Type 0
WentOn w life new = (stream : ℕ) → IsGoingOn new.core.sessions stream → (seat : Seat) × (seat_at w life ≡ Some seat) × IsGoingOn seat.core.sessions stream

-- where one node's sessions go on as they did
one_went : (w y : WorldState) (node : ℕ) (seat new : Seat) → 1 ≤ node → seat_at w node ≡ Some seat → y.seats ≡ slice_set w.seats (node - 1) new
    → ((stream : ℕ) → IsGoingOn new.core.sessions stream → IsGoingOn seat.core.sessions stream) → (life : ℕ) (z : Seat) → seat_at y life ≡ Some z → WentOn w life z
one_went w y node seat new least here seats goes =
    put_life (WentOn w) w y node new least seats (λ stream g. (seat, here, goes stream g)) (λ life z found stream g. (z, found, g))

drain_went : (s : Setting) (w : WorldState) (node max : ℕ) (o : Option Seat) → 1 ≤ node → seat_at w node ≡ o → ((seat : Seat) → seat_at w node ≡ Some seat → IsBoundedNode seat.core)
    → (life : ℕ) (z : Seat) → seat_at (drained_at s w node max o) life ≡ Some z → WentOn w life z
unfolding after_drain
drain_went s w node max None least here sound = λ life z found stream g. (z, found, g)
drain_went s w node max (Some seat) least here sound = from (begin seat.core seat.core.reading) (begun_going seat.core seat.core.reading (sound seat here)) where
  from : (m : NodeState) → ((stream : ℕ) → IsGoingOn m.sessions stream → IsGoingOn seat.core.sessions stream)
      → (life : ℕ) (z : Seat) → seat_at (drained_from s w node seat m max) life ≡ Some z → WentOn w life z
  from m goes =
      one_went w (drained_from s w node seat m max) node seat (seat_with (after_drain m max) seat.agent) least here
      (sending_keeps_nodes s (with_seat w node (seat_with (after_drain m max) seat.agent)) node (take max m.queue) (closes m max)) goes

drained_went : (s : Setting) (w : WorldState) (node max : ℕ) → 1 ≤ node → ((seat : Seat) → seat_at w node ≡ Some seat → IsBoundedNode seat.core)
    → (life : ℕ) (z : Seat) → seat_at (network.drained s w node max) life ≡ Some z → WentOn w life z
unfolding network.drained
drained_went s w node max least sound = drain_went s w node max (seat_at w node) least refl sound

-- in a drain
drain_happens : (s : Setting) (w : WorldState) (node max : ℕ) → 1 ≤ node → ((seat : Seat) → seat_at w node ≡ Some seat → IsBoundedNode seat.core) → NothingHappens w (network.drained s w node max)
drain_happens s w node max least sound = record {
  said = drained_says s w node max;
  going = drained_went s w node max least sound;
  present = λ life seat here is. sym (same_is_present w (network.drained s w node max) life (drained_lives s w node max)) ∙ is;
}

-- and where an agent is told something
pub told_happens : (s : Setting) (w x : WorldState) (e : Event) → Tells s w e x → NothingHappens w x
told_happens s w x e t = record {
  said = same_said w x (ap (λ (z : WorldState). z.streams) t.after);
  going = one_went w x t.telling.node t.seat (seat_with t.seat.core (after_told t.seat.agent t.telling.what)) (one_least w x (one_agent s w e x t)) t.here
      (ap (λ (z : WorldState). z.seats) t.after) (λ stream g. g);
  present = λ life seat here is. sym (same_is_present w x life (ap (λ (z : WorldState). z.lives) t.after)) ∙ is;
}

-- ---- each step

-- what is kept where no agent did anything, by an agent's own step, where an agent is told something, and by each other turn
pub record StepsKeep (s : Setting) (P : WorldState → Type 0) : Type 0 where
  pub quiet : (w y : WorldState) → IsReached s w → WorldGoesOn w y → IsReached s y ⊎ NothingHappens w y → P w → P y
  pub agent : (w y : WorldState) → IsReached s w → IsReached s y → (a : AgentStep w y) → IsCall w y a → P w → P y
  pub told : (w x : WorldState) (e : Event) → IsReached s w → Tells s w e x → P w → P x
  pub settles : (w x : WorldState) (node : ℕ) (p : Prefix) → IsReached s w → Settling w node p x → P w → P x
  pub restarts : (w x : WorldState) (node : ℕ) (image : PoolImage) → IsReached s w → Restarting s w node image x → P w → P x

module _ (l : Grounds) (s : Setting) (P : WorldState → Type 0) (k : StepsKeep s P) where
  -- a step that isn't an agent's own
  others : (w : WorldState) (e : Event) (c : Choice) (v : Visit) → IsReached s w → visit_of s w e ≡ Some v → IsReached s (after_visit s w e v c) → WorldGoesOn w (after_visit s w e v c) → P w
      → P (after_visit s w e v c)
  others w e c v r is q g p = k.quiet w (after_visit s w e v c) r g (inl q) p

  own : (w y : WorldState) → IsReached s w → IsReached s y → (a : AgentStep w y) × IsCall w y a → P w → P y
  own w y r q a p = k.agent w y r q a.0 a.1 p

  steps : (w : WorldState) (e : Event) (c : Choice) (v : Visit) → IsReached s w → P w → Occurs s w e c → visit_of s w e ≡ Some v → IsStep e → IsReached s (after_visit s w e v c) → P (after_visit s w e v c)
  steps w (event.Clock node millis) c v r p o is step q = others w (event.Clock node millis) c v r is q (others_go_on l s w (event.Clock node millis) c v r o is tt) p
  steps w (event.Want node length longest peer) c v r p o is step q = absurd step
  steps w (event.Return node prefix peer) c v r p o is step q = absurd step
  steps w (event.Agent node hold) c v r p o is step q = own w (after_agent w v c) r q (own_step l s w node hold c v r o is) p
  steps w (event.Api node asa call hold) c v r p o is step q = others w (event.Api node asa call hold) c v r is q (others_go_on l s w (event.Api node asa call hold) c v r o is tt) p
  steps w (event.Datagram index hold) c v r p o is step q = others w (event.Datagram index hold) c v r is q (others_go_on l s w (event.Datagram index hold) c v r o is tt) p
  steps w (event.Arrive stream hold) c v r p o is step q = others w (event.Arrive stream hold) c v r is q (others_go_on l s w (event.Arrive stream hold) c v r o is tt) p
  steps w (event.Bytes stream far count hold) c v r p o is step q =
      others w (event.Bytes stream far count hold) c v r is q (others_go_on l s w (event.Bytes stream far count hold) c v r o is tt) p
  steps w (event.Cut stream far hold) c v r p o is step q = others w (event.Cut stream far hold) c v r is q (others_go_on l s w (event.Cut stream far hold) c v r o is tt) p
  steps w (event.Drain node max) c v r p o is step q = absurd step

  pub is_kept : P (first_world s) → (w : WorldState) → IsReached s w → P w
  is_kept first w r = parts_keep s P (record {
    steps = λ x e c v u p o is step q. steps x e c v u p o is step q;
    told = k.told;
    drains = λ x node max u p least. k.quiet x (network.drained s x node max) u (drains_go_on l s x node max u least)
        (inr (drain_happens s x node max least (λ seat here. ((reached_in_order l.ties s x u).sound node seat here).0))) p;
    settles = k.settles;
    restarts = k.restarts;
  }) first w r

-- P holds of each network of a run, where it holds of each network that turns lead to and of which Q holds, as it does of the first one and
-- after each event
module _ (s : Setting) (P Q : WorldState → Type 0) (each : (w : WorldState) → IsReached s w → Q w → P w) (stays : (w : WorldState) (e : Event) (c : Choice) → Q w → Q (after_event s w e c)) where
  run_from : (hs : List Happening) (w : WorldState) → IsReached s w → Q w → IsRun s w hs → All P (worlds_from s w hs)
  unfolding IsRun worlds_from
  run_from [] w r so run = All-cons P w [] (each w r so) (All-nil P)
  run_from (h ∷ hs) w r so run =
      let x = after_event s w h.event h.choice in
      All-cons P w (worlds_from s x hs) (each w r so) (run_from hs x (reached_more s w h.event h.choice r run.0) (stays w h.event h.choice so) run.1)

  pub in_run_where : (hs : List Happening) → IsGoodSetting s → Q (first_world s) → IsRun s (first_world s) hs → All P (worlds_from s (first_world s) hs)
  in_run_where hs good so run = run_from hs (first_world s) (first_reached s good) so run

pub in_run : (s : Setting) (P : WorldState → Type 0) → ((w : WorldState) → IsReached s w → P w) → (hs : List Happening) → IsGoodSetting s → IsRun s (first_world s) hs → All P (worlds_from s (first_world s) hs)
in_run s P each hs good run = in_run_where s P (λ w. Unit {0}) (λ w r so. each w r) (λ w e c so. tt) hs good tt run
