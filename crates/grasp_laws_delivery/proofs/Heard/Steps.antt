-- What each step and each drain leaves of what came on an open stream.
use Rattle.std.proofs.Common.{◌≡◌, ◌≢◌, refl, sym, ap, ◌∙◌, subst, ℕ, suc, ◌+◌, Bool, true, false, List, [], ◌∷◌, ◌++◌, fold, map, take, slice_get, Option, None, Some}
use Rattle.std.proofs.lemmas.Option.{none-some, same_Some}
use Rattle.grasp_cbor.proofs.Facts.Lists.{same_first}
use Rattle.grasp_model_node.specs.Bytes.{Added, Adds, past_after}
use Rattle.grasp_model_node.specs.Queue.{Queued, datagram, dial, send}
use Rattle.grasp_laws_node.specs.Dials.{dialled_in}
use Rattle.grasp_session.specs.Messages.{Side, Near, Far, other}
use Rattle.grasp_types.specs.declared.message.Message.{Message}
use Rattle.grasp_types.specs.declared.reply.Reply.{Reply}
use Rattle.grasp_types.specs.declared.reply.Reply.TheVariants as reply
use Rattle.grasp_wire.specs.Cutter.{Past, Waits, no_past}
use Rattle.grasp_wire.specs.Laws.{encoded}
use Rattle.grasp_wire.specs.Stream.{Divides, RestKind, waiting}
use Rattle.grasp_laws_network.proofs.Lists.{slice_map}
use Rattle.grasp_model_network.specs.StreamChanges.{arrival_by, arrived, told, Reached, reached_at, reached_in, reached_side, delivered}
use Rattle.grasp_model_network.specs.Restarting.{told_at}
use Rattle.grasp_model_network.specs.Routes.{Route, route_of}
use Rattle.grasp_model_network.specs.Sending.{having_made, posted, having_sent, having_closed}
use Rattle.grasp_model_network.specs.Setting.{Setting}
use Rattle.grasp_model_network.specs.Streams.{StreamEnd, StreamState, Arrival, not_yet, lives, turned_away, told_closed, is_reached, is_waiting, fresh_stream, end_at, side_at, next_bytes, with_side, with_said, with_sent, with_ended, with_number, with_delivered, with_far, at_end, stream_numbered}
use Rattle.grasp_model_network.specs.Visits.{Visit}
use Rattle.grasp_model_network.specs.World.{WorldState, end_of, member_of}
use Rattle.grasp_laws_delivery.proofs.AfterSteps.{posted_each}
use Rattle.grasp_laws_delivery.proofs.Heard.Talks.{IsHeard, StillComes, heard_pushed, heard_changed, said_comes, dialled_heard, sent_comes, ended_comes, numbered_comes, delivered_elsewhere, delivered_comes, closed_comes, told_comes, opened_comes}
use Rattle.grasp_laws_delivery.proofs.OnePlace.{Placed, numbered_place}
use Rattle.grasp_laws_delivery.proofs.Sane.{IsSane, sent_sane, numbered_sane}
use Rattle.grasp_laws_delivery.proofs.SaneNetworks.{AreSane}
use Rattle.grasp_laws_delivery.proofs.Sides.{IsDistinct, one_side, at_end_has, each_changed, place_changed}
use Rattle.grasp_laws_delivery.proofs.Turned.{told_by}
use Rattle.grasp_laws_delivery.specs.Records.{HasCome}
use Rattle.grasp_laws_delivery.specs.Saying.{OfEachStream}

-- ---- what a step makes

pub made_heard : (by : ℕ) (e : StreamEnd) (limit : ℕ) (past : Past) (qs : List Queued) (ts : List StreamState) → IsHeard ts e limit past
    → IsHeard (fold (having_made by) ts qs) e limit past
made_heard by e limit past [] ts h = h
made_heard by e limit past (datagram link to m ∷ qs) ts h = made_heard by e limit past qs ts h
made_heard by e limit past (dial stream to ∷ qs) ts h =
    made_heard by e limit past qs (having_made by ts (dial stream to)) (heard_pushed ts (fresh_stream (end_of by stream) to) e limit past h)
made_heard by e limit past (send stream m ∷ qs) ts h =
    made_heard by e limit past qs (having_made by ts (send stream m))
    (heard_changed ts (end_of by stream) (with_said m) e limit past (λ place t side found at c. said_comes (end_of by stream) e m t side past at c) h)

last_placed : (ts : List StreamState) (t : StreamState) → Placed (ts ++ t ∷ []) t
last_placed [] t = record { place = 0; stands = refl }
last_placed (x ∷ xs) t = behind (last_placed xs t) where
  behind : Placed (xs ++ t ∷ []) t → Placed (x ∷ (xs ++ t ∷ [])) t
  behind p = record { place = suc p.place; stands = p.stands }

-- nothing came yet on a stream whose dial is queued
pub dial_heard : (by limit stream : ℕ) (more : List ℕ) (qs : List Queued) (ts : List StreamState) → dialled_in qs ≡ stream ∷ more → Waits limit no_past
    → IsHeard (fold (having_made by) ts qs) (end_of by stream) limit no_past
dial_heard by limit stream more [] ts e w = absurd (cc)
dial_heard by limit stream more (datagram link to m ∷ qs) ts e w = dial_heard by limit stream more qs ts e w
dial_heard by limit stream more (send other m ∷ qs) ts e w = dial_heard by limit stream more qs (having_made by ts (send other m)) e w
dial_heard by limit stream more (dial other to ∷ qs) ts e w =
    subst (λ n. IsHeard (fold (having_made by) ts (dial other to ∷ qs)) (end_of by n) limit no_past) (same_first other stream (dialled_in qs) more e)
    (made_heard by (end_of by other) limit no_past qs (having_made by ts (dial other to)) (new (last_placed ts (fresh_stream (end_of by other) to)))) where
      new : Placed (ts ++ fresh_stream (end_of by other) to ∷ []) (fresh_stream (end_of by other) to) → IsHeard (ts ++ fresh_stream (end_of by other) to ∷ []) (end_of by other) limit no_past
      new p = dialled_heard ts (end_of by other) to limit p.place p.stands w

-- ---- what a drain sends

posted_heard : (w : WorldState) (m : Message) (route : Option Route) (e : StreamEnd) (limit : ℕ) (past : Past) → IsHeard w.streams e limit past → IsHeard (posted w m route).streams e limit past
posted_heard w m None e limit past h = h
posted_heard w m (Some route) e limit past h = h

pub all_sent_heard : (s : Setting) (by : ℕ) (e : StreamEnd) (limit : ℕ) (past : Past) (qs : List Queued) (w : WorldState) → AreSane w.streams → IsHeard w.streams e limit past
    → IsHeard (fold (having_sent s by) w qs).streams e limit past
all_sent_heard s by e limit past [] w sane h = h
all_sent_heard s by e limit past (datagram link to m ∷ qs) w sane h =
    all_sent_heard s by e limit past qs (having_sent s by w (datagram link to m)) (posted_each IsSane w m (route_of s (member_of w by) link to) sane)
    (posted_heard w m (route_of s (member_of w by) link to) e limit past h)
all_sent_heard s by e limit past (dial stream to ∷ qs) w sane h =
    all_sent_heard s by e limit past qs (having_sent s by w (dial stream to))
    (each_changed IsSane IsSane w.streams (end_of by stream) (with_number (w.dials + 1)) (numbered_sane (end_of by stream) (w.dials + 1)) sane)
    (heard_changed w.streams (end_of by stream) (with_number (w.dials + 1)) e limit past
    (λ place t side found at c. numbered_comes (end_of by stream) e (w.dials + 1) t side past at c) h)
all_sent_heard s by e limit past (send stream m ∷ qs) w sane h =
    all_sent_heard s by e limit past qs (having_sent s by w (send stream m))
    (each_changed IsSane IsSane w.streams (end_of by stream) (with_sent m) (sent_sane (end_of by stream) m) sane)
    (heard_changed w.streams (end_of by stream) (with_sent m) e limit past
    (λ place t side found at c. sent_comes (end_of by stream) e m t side past (sane place t found) at c) h)

pub all_closed_heard : (by : ℕ) (e : StreamEnd) (limit : ℕ) (past : Past) (streams : List ℕ) (w : WorldState) → IsHeard w.streams e limit past
    → IsHeard (fold (having_closed by) w streams).streams e limit past
all_closed_heard by e limit past [] w h = h
all_closed_heard by e limit past (stream ∷ streams) w h =
    all_closed_heard by e limit past streams (having_closed by w stream)
    (heard_changed w.streams (end_of by stream) with_ended e limit past (λ place t side found at c. ended_comes (end_of by stream) e t side past at c) h)

-- ---- the side that a piece or a cut reaches

pub record IsReachedSide (w : WorldState) (k : ℕ) (side : Side) (x : Reached) : Type 0 where
  pub found : stream_numbered w.streams k ≡ Some x.talk
  pub ends : end_at x.talk side ≡ Some x.at
  pub alive : side_at x.talk side ≡ lives

is_alive : (a : Arrival) → is_reached a ≡ true → a ≡ lives
is_alive not_yet is = absurd (cc)
is_alive lives is = refl
is_alive turned_away is = absurd (cc)
is_alive told_closed is = absurd (cc)

pub reached_is : (w : WorldState) (k : ℕ) (side : Side) (x : Reached) → reached_side w k side ≡ Some x → IsReachedSide w k side x
unfolding reached_side
reached_is w k side x is = by_talk (stream_numbered w.streams k) refl is where
  by_side : (t : StreamState) → stream_numbered w.streams k ≡ Some t → (b : Bool) (o : Option StreamEnd) → is_reached (side_at t side) ≡ b → end_at t side ≡ o → reached_at t b o ≡ Some x → IsReachedSide w k side x
  by_side t found true None there at e = absurd (none-some x e)
  by_side t found false None there at e = absurd (none-some x e)
  by_side t found false (Some end) there at e = absurd (none-some x e)
  by_side t found true (Some end) there at e =
      subst (λ (y : Reached). IsReachedSide w k side y) (same_Some (record { talk = t; at = end }) x e) (record { found = found; ends = at; alive = is_alive (side_at t side) there })

  by_talk : (o : Option StreamState) → stream_numbered w.streams k ≡ o → reached_in side o ≡ Some x → IsReachedSide w k side x
  by_talk None found e = absurd (none-some x e)
  by_talk (Some t) found e = by_side t found (is_reached (side_at t side)) (end_at t side) refl refl e

-- two streams of the network with one end are the same
abbrev pub AreOne : List StreamState → Type 0
AreOne ts = (e : StreamEnd) (i j : ℕ) (x y : StreamState) → slice_get ts i ≡ Some x → slice_get ts j ≡ Some y → (p q : Side) → end_at x p ≡ Some e → end_at y q ≡ Some e → x ≡ y

-- ---- a piece

pub delivered_heard : (w : WorldState) (x : Reached) (count : ℕ) (e : StreamEnd) (limit : ℕ) (past : Past) → e ≢ x.at → IsHeard w.streams e limit past → IsHeard (delivered w count (Some x)).streams e limit past
delivered_heard w x count e limit past n h =
    heard_changed w.streams x.at (with_delivered count) e limit past (λ place t side found at c. delivered_elsewhere x.at e count t side past n at c) h

-- what came at the side that is reached
pub come_at : (w : WorldState) (k : ℕ) (side : Side) (x : Reached) (limit : ℕ) (past : Past) → AreOne w.streams → OfEachStream IsDistinct w.streams → IsReachedSide w k side x
    → IsHeard w.streams x.at limit past → HasCome x.talk side past
come_at w k side x limit past one distinct reached h =
    subst (λ (y : Side). HasCome x.talk y past) (one_side x.talk x.at h.side side (distinct here.place x.talk here.stands) (ap (λ (t : StreamState). end_at t h.side) (sym same) ∙ h.ends) reached.ends)
    (subst (λ (t : StreamState). HasCome t h.side past) same h.come) where
      here : Placed w.streams x.talk
      here = numbered_place k w.streams x.talk reached.found

      same : h.talk ≡ x.talk
      same = one x.at h.place here.place h.talk x.talk h.stands here.stands h.side side h.ends reached.ends

pub piece_heard : (w : WorldState) (k : ℕ) (side : Side) (x : Reached) (count limit : ℕ) (past : Past) (a : Added) → AreOne w.streams → OfEachStream IsDistinct w.streams → IsReachedSide w k side x
    → IsHeard w.streams x.at limit past → Adds limit past (next_bytes x.talk (other side) count) a → a.kind ≡ waiting
    → IsHeard (delivered w count (Some x)).streams x.at limit (past_after past (next_bytes x.talk (other side) count) a)
piece_heard w k side x count limit past a one distinct reached h adds waits = from own where
  here : Placed w.streams x.talk
  here = numbered_place k w.streams x.talk reached.found

  after : Past
  after = past_after past (next_bytes x.talk (other side) count) a

  own : StillComes x.at side after (at_end x.at (with_delivered count) x.talk)
  own = delivered_comes x.at count limit x.talk side past a (distinct here.place x.talk here.stands) reached.ends (come_at w k side x limit past one distinct reached h) adds

  from : StillComes x.at side after (at_end x.at (with_delivered count) x.talk) → IsHeard (delivered w count (Some x)).streams x.at limit after
  from c = record {
    place = here.place;
    talk = at_end x.at (with_delivered count) x.talk;
    side = side;
    stands = place_changed w.streams x.at (with_delivered count) here.place x.talk here.stands;
    ends = c.ends;
    come = c.come;
    waits = record { rest = a.rest; divides = subst (λ (kind : RestKind). Divides after.fed limit after.given a.rest kind) waits adds };
  }

-- ---- a cut

pub told_heard : (w : WorldState) (x : Reached) (e : StreamEnd) (limit : ℕ) (past : Past) → IsHeard w.streams e limit past → IsHeard (told w (Some x)).streams e limit past
told_heard w x e limit past h = heard_changed w.streams x.at (with_side told_closed) e limit past (λ place t side found at c. told_comes x.at e t side past at c) h

-- ---- a restart

pub restarted_heard : (s : Setting) (node life : ℕ) (ts : List StreamState) (e : StreamEnd) (limit : ℕ) (past : Past) → IsHeard ts e limit past → IsHeard (map (told_at s node life) ts) e limit past
restarted_heard s node life ts e limit past h =
    from (told_by (StillComes e h.side past) (λ u x k. closed_comes e u h.side x past k.ends k.come) s node life h.talk (record { ends = h.ends; come = h.come })) where
      from : StillComes e h.side past (told_at s node life h.talk) → IsHeard (map (told_at s node life) ts) e limit past
      from c = record {
        place = h.place;
        talk = told_at s node life h.talk;
        side = h.side;
        stands = slice_map (told_at s node life) ts h.place h.talk h.stands;
        ends = c.ends;
        come = c.come;
        waits = h.waits;
      }

-- ---- an opening

pub arrived_heard : (w : WorldState) (v : Visit) (number : ℕ) (r : Reply) (t : StreamState) (e : StreamEnd) (limit : ℕ) (past : Past) → Placed w.streams t → is_waiting t.far_side ≡ true → AreOne w.streams
    → IsHeard w.streams e limit past → IsHeard (arrived w v number r (Some t)).streams e limit past
arrived_heard w v number r t e limit past here waits one h = heard_changed w.streams t.near (with_far far (arrival_by r)) e limit past turn h where
  far : StreamEnd
  far = end_of v.node number

  turn : (place : ℕ) (u : StreamState) (side : Side) → slice_get w.streams place ≡ Some u → end_at u side ≡ Some e → HasCome u side past → StillComes e side past (at_end t.near (with_far far (arrival_by r)) u)
  turn place u side found at c = at_end_has (StillComes e side past) t.near (with_far far (arrival_by r)) u (λ none. record { ends = at; come = c })
      (λ x x_at.
      opened_comes far e (arrival_by r) u side x past
      (subst (λ (y : StreamState). is_waiting y.far_side ≡ true) (one t.near here.place place t u here.stands found Near x refl x_at) waits) at c)

-- nothing came yet on a stream that is opened
pub opened_heard : (w : WorldState) (v : Visit) (number : ℕ) (r : Reply) (t : StreamState) (limit : ℕ) → Placed w.streams t → is_waiting t.far_side ≡ true → IsSane t → r ≡ reply.Taken → Waits limit no_past
    → IsHeard (arrived w v number r (Some t)).streams (end_of v.node number) limit no_past
opened_heard w v number r t limit here waits sane taken w0 = from (at_end_has (StillComes far Far no_past) t.near (with_far far (arrival_by r)) t (λ none. absurd (none Near refl)) opened) where
  far : StreamEnd
  far = end_of v.node number

  nothing : [] ≡ take t.from_near.delivered (encoded t.from_near.sent)
  nothing = sym (ap (λ d. take d (encoded t.from_near.sent)) (sane.came (sane.waiting waits)))

  opened : (x : Side) → end_at t x ≡ Some t.near → StillComes far Far no_past (with_far far (arrival_by r) t x)
  opened x at = record { ends = refl; come = record { fed = nothing; fault = refl; there = ap (λ (q : Reply). is_waiting (arrival_by q)) taken } }

  from : StillComes far Far no_past (at_end t.near (with_far far (arrival_by r)) t) → IsHeard (arrived w v number r (Some t)).streams far limit no_past
  from c = record {
    place = here.place;
    talk = at_end t.near (with_far far (arrival_by r)) t;
    side = Far;
    stands = place_changed w.streams t.near (with_far far (arrival_by r)) here.place t here.stands;
    ends = c.ends;
    come = c.come;
    waits = w0;
  }
