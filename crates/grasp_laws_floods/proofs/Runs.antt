-- In every network that turns lead to each flood was begun by a call.
use Rattle.std.proofs.Common.{◌≡◌, sym, ◌∙◌, subst, arith, ℕ, ◌+◌, ◌-◌, List, [], ◌∷◌, ◌++◌, length, slice_set, All, Some}
use Rattle.std.specs.Prelude.{Contains}
use Rattle.std.proofs.lemmas.List.{length-append, length-set}
use Rattle.std.proofs.lemmas.List.Elements.{All-cons, All-contains_itself, All-nil, All-push}
use Rattle.grasp_laws_node.proofs.Remembered.{relays_once}
use Rattle.grasp_model_node.specs.Begin.{begin}
use Rattle.grasp_laws_node.specs.Relays.{Queues}
use Rattle.grasp_laws_network.proofs.Appended.{numbered_last}
use Rattle.grasp_laws_network.proofs.EachNode.{begun_each}
use Rattle.grasp_laws_network.proofs.Reached.{reached_keeps}
use Rattle.grasp_laws_network.proofs.Staying.{one_same, seats_stay_each, first_seats}
use Rattle.grasp_laws_network.proofs.Turning.{settle_one, restart_by}
use Rattle.grasp_laws_network.specs.Lives.{TurnsKeep}
use Rattle.grasp_laws_network.specs.Telling.{OneAgent}
use Rattle.grasp_model_network.specs.Events.{Occurs, after_event}
use Rattle.grasp_model_network.specs.GoodSetting.{IsGoodSetting}
use Rattle.grasp_model_network.specs.Openings.{opened_seat}
use Rattle.grasp_model_network.specs.Restarting.{restarted}
use Rattle.grasp_model_network.specs.Runs.{Happening, IsRun, IsReached, first_world, worlds_from}
use Rattle.grasp_model_network.specs.Setting.{Member, Setting, numbered}
use Rattle.grasp_model_network.specs.Visits.{Visit, Choice, MayCome, VisitStep}
use Rattle.grasp_model_network.specs.World.{Seat, WorldState, present_life, seat_at}
use Rattle.grasp_model_network.specs.declared.event.Event.{Event}
use Rattle.grasp_pool.specs.Functions.{pool_of_image}
use Rattle.grasp_pool.specs.declared.image.PoolImage.{PoolImage}
use Rattle.grasp_laws_floods.proofs.Begun.{opened_made, first_world_made}
use Rattle.grasp_laws_floods.proofs.Happened.{Goes, event_goes, one_goes}
use Rattle.grasp_laws_floods.proofs.Lives.{more_lives, numbered_contains}
use Rattle.grasp_laws_floods.proofs.Nodes.{NodeMade}
use Rattle.grasp_laws_floods.proofs.Ranges.{good_members}
use Rattle.grasp_laws_floods.proofs.Told.{AreSound, reads_called, floods_real, floods_on_the_way}
use Rattle.grasp_laws_floods.proofs.Worlds.{WorldMade, world_more}
use Rattle.grasp_laws_floods.specs.Laws.{OfEachWorld, ReadFloodsAreReal, OtherFloodsAreReal, ReadsComeLater, RelaysAreOnceHere}
use Rattle.grasp_laws_floods.specs.Real.{FloodsAreReal, ReadsWereCalled, FloodsOnTheWay}

-- ---- each turn

pub first_sound : (s : Setting) → AreSound s s.members (first_world s)
first_sound s = record { count = first_seats s; are = All-contains_itself s.members; made = first_world_made s }

pub event_sound : (s : Setting) (ms : List Member) (w : WorldState) (e : Event) (c : Choice) → IsGoodSetting s → Occurs s w e c → AreSound s ms w → AreSound s ms (after_event s w e c)
event_sound s ms w e c good occurs k = record {
  count = seats_stay_each s w e c ∙ k.count;
  are = k.are;
  made = (event_goes s ms w e c (good_members s ms good k.are) occurs k.made).made;
}

pub one_sound : (s : Setting) (ms : List Member) (w x : WorldState) → OneAgent w x → AreSound s ms w → AreSound s ms x
one_sound s ms w x o k = record { count = one_same w x o ∙ k.count; are = k.are; made = (one_goes ms w x o k.made).made }

-- one more life, in place of none
one_longer : (seats : List Seat) (ms : List Member) (place : ℕ) (ended begun : Seat) (m : Member) → length seats ≡ length ms
    → length (slice_set seats place ended ++ begun ∷ []) ≡ length (ms ++ m ∷ [])
one_longer seats ms place ended begun m count =
    let a : length (slice_set seats place ended ++ begun ∷ []) ≡ length (slice_set seats place ended) + 1 = length-append (slice_set seats place ended) (begun ∷ []) in
    let b : length (slice_set seats place ended) ≡ length seats = length-set seats place ended in
    let c : length (ms ++ m ∷ []) ≡ length ms + 1 = length-append ms (m ∷ []) in
    let d : length seats ≡ length ms = count in
    omega arith

-- a member that begins anew begins with nothing of a flood
pub begun_sound : (s : Setting) (ms : List Member) (w : WorldState) (node : ℕ) (image : PoolImage) (seat : Seat) (m : Member) → seat_at w (present_life w node) ≡ Some seat
    → numbered s.members node ≡ Some m → AreSound s ms w → AreSound s (ms ++ m ∷ []) (restarted s w node (present_life w node) image seat m)
begun_sound s ms w node image seat m here found k = so (world_more ms ns w.flood_calls w.flood_calls (more_lives ms m w.flood_calls) w k.made) where
  ns : List Member
  ns = ms ++ m ∷ []

  new : NodeMade ns w.flood_calls (length w.seats + 1) (opened_seat m.plan (pool_of_image image)).core
  new = opened_made ns w.flood_calls (length w.seats + 1) m (pool_of_image image) (subst (λ n. numbered ns (n + 1) ≡ Some m) (sym k.count) (numbered_last ms m))

  so : WorldMade ns w.flood_calls w → AreSound s ns (restarted s w node (present_life w node) image seat m)
  so more = record {
    count = one_longer w.seats ms (present_life w node - 1) _ _ m k.count;
    are = All-push (λ l. Contains s.members l) ms m k.are (numbered_contains s.members node m found);
    made = record { nodes = begun_each (NodeMade ns w.flood_calls) s w node (present_life w node) image seat m here new more.nodes; sent = more.sent; read = more.read };
  }

-- ---- every network

-- its lives are members', and all floods in it were made
pub record IsSound (s : Setting) (w : WorldState) : Type 0 where
  pub lives : List Member
  pub sound : AreSound s lives w

turns_sound : (s : Setting) → IsGoodSetting s → TurnsKeep s (IsSound s)
turns_sound s good = record {
  events = λ w e c o k. record { lives = k.lives; sound = event_sound s k.lives w e c good o k.sound };
  settles = λ w node p dead k. settle_one w node p (IsSound s) k (λ x o. record { lives = k.lives; sound = one_sound s k.lives w x o k.sound });
  restarts = λ w node image may k. restart_by s w node image (IsSound s) k
      (λ seat m here found. record { lives = k.lives ++ m ∷ []; sound = begun_sound s k.lives w node image seat m here found k.sound });
}

reached_sound : (s : Setting) (w : WorldState) → IsReached s w → IsSound s w
reached_sound s w r = reached_keeps s (IsSound s) (record { lives = s.members; sound = first_sound s }) (turns_sound s r.good) w r

each_sound : (P : WorldState → Type 0) (s : Setting) (ms : List Member) → ((w : WorldState) → AreSound s ms w → P w) → IsGoodSetting s → (hs : List Happening) (w : WorldState) → IsRun s w hs
    → AreSound s ms w → All P (worlds_from s w hs)
unfolding IsRun worlds_from
each_sound P s ms so good [] w run k = All-cons P w [] (so w k) (All-nil P)
each_sound P s ms so good (h ∷ hs) w run k =
    All-cons P w (worlds_from s (after_event s w h.event h.choice) hs) (so w k)
    (each_sound P s ms so good hs (after_event s w h.event h.choice) run.1 (event_sound s ms w h.event h.choice good run.0 k))

of_each_world : (P : WorldState → Type 0) → ((s : Setting) (ms : List Member) (w : WorldState) → AreSound s ms w → P w) → OfEachWorld P
of_each_world P so = record {
  reached = λ s w r. of_lives s w (reached_sound s w r);
  worlds = λ s hs good run. each_sound P s s.members (so s s.members) good hs (first_world s) run (first_sound s);
} where
  of_lives : (s : Setting) (w : WorldState) → IsSound s w → P w
  of_lives s w k = so s k.lives w k.sound

-- ---- the laws

pub read_floods_are_real : ReadFloodsAreReal
read_floods_are_real = of_each_world FloodsAreReal floods_real

pub other_floods_are_real : OtherFloodsAreReal
other_floods_are_real = of_each_world FloodsOnTheWay floods_on_the_way

event_reads : (s : Setting) (ms : List Member) (w x : WorldState) → AreSound s ms w → Goes ms w x → ReadsWereCalled w x
event_reads s ms w x k g = record { more = g.reads.more; read = g.reads.read; called = reads_called s ms w g.reads.more k g.reads.made }

pub reads_come_later : ReadsComeLater
reads_come_later s w e c r occurs = later (reached_sound s w r) where
  later : IsSound s w → ReadsWereCalled w (after_event s w e c)
  later k = event_reads s k.lives w (after_event s w e c) k.sound (event_goes s k.lives w e c (good_members s k.lives r.good k.sound.are) occurs k.sound.made)

step_queues : (v : Visit) (c : Choice) → VisitStep v c → Queues (begin v.seat.core v.now) v.input c.coming c.reply c.after
step_queues v c step = relays_once v.seat.core c.after v.now v.input c.coming c.reply step.steps

pub relays_are_once_here : RelaysAreOnceHere
relays_are_once_here s w e c v reached occurs is = step_queues v c (subst (λ o. MayCome o c) is occurs.comes)
