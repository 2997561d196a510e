-- What is offered: prefixes that are the same or listed, no event settles an offer, and each offer is of a life that is there.
use Rattle.std.proofs.Common.{◌≡◌, ◌≢◌, ◌⊎◌, inl, inr, refl, sym, ap, ◌∙◌, subst, ℕ, ◌==◌, ◌||◌, not, Bool, true, false, List, [], ◌∷◌, length, filter, fold, take, All, Contains, Option, Some, None, Result, Ok, Err}
use Rattle.std.proofs.lemmas.Bool.{and_parts, and_from, or_cases, or_left, or_right, eq-eqb, eqb-true, ne_eqb}
use Rattle.std.proofs.lemmas.List.Elements.{All-filter, All-push}
use Rattle.std.proofs.lemmas.List.Folds.{Any-from_list_any, list_any_at}
use Rattle.std.specs.List.{list_any}
use Rattle.grasp_agent.specs.Replies.{AgentEvent, wanted, returned, replied, return_reply, after_reply}
use Rattle.grasp_agent.specs.States.{AgentState}
use Rattle.grasp_agent.specs.declared.back.ReturnFault.{ReturnFault}
use Rattle.grasp_model_node.specs.Begin.{begin}
use Rattle.grasp_model_node.specs.Draining.{closes, after_drain}
use Rattle.grasp_model_node.specs.Node.{NodeState}
use Rattle.grasp_model_node.specs.Queue.{Queued, datagram, dial, send}
use Rattle.grasp_pool.specs.Holdings.{Holding, IsListed}
use Rattle.grasp_types.specs.Prefix.{AddressBlock as Prefix}
use Rattle.grasp_types.specs.declared.address.Locator.{Locator}
use Rattle.grasp_types.specs.declared.message.Message.{Message}
use Rattle.grasp_types.specs.declared.reply.Reply.{Reply}
use Rattle.grasp_laws_network.proofs.Here.{numbered_within, visits_are_here}
use Rattle.grasp_model_network.specs.EventSteps.{after_agent_call, after_agent, after_arrival, after_clock, after_cut, after_delivery, after_piece}
use Rattle.grasp_model_network.specs.Events.{visit_of, after_visit, after_none, after_by, after_event, drains, drained_behind}
use Rattle.grasp_model_network.specs.Notes.{noted}
use Rattle.grasp_model_network.specs.Offers.{JustOffered, is_same_prefix, is_listed, is_kept, is_offer_of, put_offer, talk_of_handle, just_offered, with_offer, offers_after}
use Rattle.grasp_model_network.specs.Plans.{IsNode}
use Rattle.grasp_model_network.specs.Routes.{Route, route_of}
use Rattle.grasp_model_network.specs.Sending.{seat_with, stepped, posted, having_sent, having_closed, handed_over, drained, drained_at, drained_from, event_drain}
use Rattle.grasp_model_network.specs.Setting.{Setting, numbered}
use Rattle.grasp_model_network.specs.StreamChanges.{arrived, told, Reached, reached_side, side_named, delivered}
use Rattle.grasp_model_network.specs.Streams.{StreamState, stream_numbered}
use Rattle.grasp_model_network.specs.Telling.{Telling, telling_of, want_told, return_told, with_return, offers_told, after_telling, after_told}
use Rattle.grasp_model_network.specs.Visits.{Visit, Choice}
use Rattle.grasp_model_network.specs.World.{Offered, Seat, WorldState, present_life, member_of, seat_at, with_seat}
use Rattle.grasp_model_network.specs.declared.event.Event.{Event}
use Rattle.grasp_model_network.specs.declared.event.Event.TheVariants as event

-- ---- which prefixes are the same, and which are listed

pub same_prefix : (p q : Prefix) → is_same_prefix p q ≡ true → p ≡ q
same_prefix p q e =
    let a = and_parts (p.address == q.address) (p.length == q.length) e in
    ap (λ n. prefix_with n p.length) (eqb-true p.address q.address a.0) ∙ ap (λ n. prefix_with q.address n) (eqb-true p.length q.length a.1)
  where
    prefix_with : ℕ → ℕ → Prefix
    prefix_with address length = record { address = address; length = length }

pub prefix_itself : (p q : Prefix) → p ≡ q → is_same_prefix p q ≡ true
prefix_itself p q e =
    and_from (p.address == q.address) (p.length == q.length) (eq-eqb p.address q.address (ap (λ (x : Prefix). x.address) e)) (eq-eqb p.length q.length (ap (λ (x : Prefix). x.length) e))

in_list : (ps : List Prefix) (p : Prefix) → list_any (is_same_prefix p) ps ≡ true → Contains ps p
in_list ps p e =
    let f = Any-from_list_any (is_same_prefix p) ps e in
    subst (λ q. Contains ps q) (sym (same_prefix p f.1 f.4)) (f.0, f.2, f.3)

list_has : (ps : List Prefix) (p : Prefix) → Contains ps p → list_any (is_same_prefix p) ps ≡ true
list_has ps p h = list_any_at (is_same_prefix p) ps h.0 p h.1 (ap (is_same_prefix p) h.2 ∙ prefix_itself p p refl)

pub listed_so : (h : Holding) (p : Prefix) → is_listed h p ≡ true → IsListed h p
listed_so h p e = by_case (or_cases (list_any (is_same_prefix p) h.reserved) (list_any (is_same_prefix p) h.doubtful) e) where
  by_case : (list_any (is_same_prefix p) h.reserved ≡ true) ⊎ (list_any (is_same_prefix p) h.doubtful ≡ true) → IsListed h p
  by_case (inl r) = inl (in_list h.reserved p r)
  by_case (inr d) = inr (in_list h.doubtful p d)

pub so_listed : (h : Holding) (p : Prefix) → IsListed h p → is_listed h p ≡ true
so_listed h p (inl r) = or_left (list_any (is_same_prefix p) h.reserved) (list_any (is_same_prefix p) h.doubtful) (list_has h.reserved p r)
so_listed h p (inr d) = or_right (list_any (is_same_prefix p) h.reserved) (list_any (is_same_prefix p) h.doubtful) (list_has h.doubtful p d)

-- an offer of another life is kept, and so is one that this life has listed; of no other is it so
pub kept_other : (life : ℕ) (h : Holding) (o : Offered) → o.node ≢ life → is_kept life h o ≡ true
kept_other life h o apart = ap (λ b. not b || is_listed h o.prefix) (ne_eqb o.node life apart)

pub kept_listed : (life : ℕ) (h : Holding) (o : Offered) → IsListed h o.prefix → is_kept life h o ≡ true
kept_listed life h o l = or_right (not (o.node == life)) (is_listed h o.prefix) (so_listed h o.prefix l)

pub kept_own : (life : ℕ) (h : Holding) (o : Offered) → is_kept life h o ≡ true → o.node ≡ life → IsListed h o.prefix
kept_own life h o e own = listed_so h o.prefix (sym (ap (λ b. not b || is_listed h o.prefix) (eq-eqb o.node life own)) ∙ e)

-- ---- what is sent offers nothing and settles nothing
pub record KeepsOffers (w x : WorldState) : Type 0 where
  pub offers : x.offers ≡ w.offers
  pub settled : x.settled ≡ w.settled

pub offers_still : (w : WorldState) → KeepsOffers w w
offers_still w = record { offers = refl; settled = refl }

pub offers_then : (w x y : WorldState) → KeepsOffers w x → KeepsOffers x y → KeepsOffers w y
offers_then w x y a b = record { offers = b.offers ∙ a.offers; settled = b.settled ∙ a.settled }

posted_offers : (w : WorldState) (m : Message) (route : Option Route) → KeepsOffers w (posted w m route)
posted_offers w m None = offers_still w
posted_offers w m (Some route) = record { offers = refl; settled = refl }

sent_offers : (s : Setting) (node : ℕ) (w : WorldState) (q : Queued) → KeepsOffers w (having_sent s node w q)
sent_offers s node w (datagram link to m) = posted_offers w m (route_of s (member_of w node) link to)
sent_offers s node w (dial stream to) = record { offers = refl; settled = refl }
sent_offers s node w (send stream m) = record { offers = refl; settled = refl }

all_sent_offers : (s : Setting) (node : ℕ) (qs : List Queued) (w : WorldState) → KeepsOffers w (fold (having_sent s node) w qs)
all_sent_offers s node [] w = offers_still w
all_sent_offers s node (q ∷ qs) w =
    offers_then w (having_sent s node w q) (fold (having_sent s node) (having_sent s node w q) qs) (sent_offers s node w q)
    (all_sent_offers s node qs (having_sent s node w q))

all_closed_offers : (node : ℕ) (streams : List ℕ) (w : WorldState) → KeepsOffers w (fold (having_closed node) w streams)
all_closed_offers node [] w = offers_still w
all_closed_offers node (stream ∷ streams) w =
    offers_then w (having_closed node w stream) (fold (having_closed node) (having_closed node w stream) streams)
    (record { offers = refl; settled = refl }) (all_closed_offers node streams (having_closed node w stream))

pub handed_offers : (s : Setting) (w : WorldState) (node : ℕ) (qs : List Queued) (streams : List ℕ) → KeepsOffers w (handed_over s w node qs streams)
unfolding handed_over
handed_offers s w node qs streams =
    offers_then w (fold (having_sent s node) w qs) (fold (having_closed node) (fold (having_sent s node) w qs) streams)
    (all_sent_offers s node qs w) (all_closed_offers node streams (fold (having_sent s node) w qs))

drained_by_offers : (s : Setting) (w : WorldState) (node max : ℕ) (o : Option Seat) → KeepsOffers w (drained_at s w node max o)
drained_by_offers s w node max None = offers_still w
drained_by_offers s w node max (Some seat) = from (begin seat.core seat.core.reading) where
  put : NodeState → WorldState
  put m = with_seat w node (seat_with (after_drain m max) seat.agent)

  from : (m : NodeState) → KeepsOffers w (drained_from s w node seat m max)
  from m =
      offers_then w (put m) (drained_from s w node seat m max) (record { offers = refl; settled = refl })
      (handed_offers s (put m) node (take max m.queue) (closes m max))

pub drained_offers : (s : Setting) (w : WorldState) (node max : ℕ) → KeepsOffers w (drained s w node max)
unfolding drained
drained_offers s w node max = drained_by_offers s w node max (seat_at w node)

pub arrived_offers : (w : WorldState) (v : Visit) (number : ℕ) (r : Reply) (o : Option StreamState) → KeepsOffers w (arrived w v number r o)
arrived_offers w v number r None = offers_still w
arrived_offers w v number r (Some t) = record { offers = refl; settled = refl }

pub delivered_offers : (w : WorldState) (count : ℕ) (o : Option Reached) → KeepsOffers w (delivered w count o)
delivered_offers w count None = offers_still w
delivered_offers w count (Some x) = record { offers = refl; settled = refl }

pub told_offers : (w : WorldState) (o : Option Reached) → KeepsOffers w (told w o)
told_offers w None = offers_still w
told_offers w (Some x) = record { offers = refl; settled = refl }

pub behind_offers : (b : Bool) (s : Setting) (w : WorldState) (node : ℕ) → KeepsOffers w (drained_behind b s w node)
behind_offers true s w node = drained_offers s w node event_drain
behind_offers false s w node = offers_still w

-- ---- no event settles an offer

visit_settled : (s : Setting) (w : WorldState) (e : Event) (v : Visit) (c : Choice) → (after_visit s w e v c).settled ≡ w.settled
unfolding after_clock after_agent after_agent_call after_delivery after_arrival after_piece after_cut noted stepped
visit_settled s w (event.Clock node millis) v c = refl
visit_settled s w (event.Want node length longest peer) v c = refl
visit_settled s w (event.Return node prefix peer) v c = refl
visit_settled s w (event.Agent node hold) v c = refl
visit_settled s w (event.Api node asa call hold) v c = refl
visit_settled s w (event.Datagram index hold) v c = refl
visit_settled s w (event.Arrive stream hold) v c = (arrived_offers w v (s.arrives_as v.node stream) c.reply (stream_numbered w.streams stream)).settled
visit_settled s w (event.Bytes stream far count hold) v c = (delivered_offers w count (reached_side w stream (side_named far))).settled
visit_settled s w (event.Cut stream far hold) v c = (told_offers w (reached_side w stream (side_named far))).settled
visit_settled s w (event.Drain node max) v c = (drained_offers s w v.node max).settled

none_settled : (s : Setting) (w : WorldState) (e : Event) → (after_none s w e).settled ≡ w.settled
none_settled s w e = by_telling (telling_of s w e) where
  by_seat : (t : Telling) (o : Option Seat) → (after_telling w t o).settled ≡ w.settled
  by_seat t None = refl
  by_seat t (Some seat) = refl

  by_telling : (o : Option Telling) → (after_told w o).settled ≡ w.settled
  by_telling None = refl
  by_telling (Some t) = by_seat t (seat_at w t.node)

by_settled : (s : Setting) (w : WorldState) (e : Event) (c : Choice) (o : Option Visit) → (after_by s w e c o).settled ≡ w.settled
by_settled s w e c None = none_settled s w e
by_settled s w e c (Some v) = (behind_offers (drains e) s (after_visit s w e v c) v.node).settled ∙ visit_settled s w e v c

pub event_settled : (s : Setting) (w : WorldState) (e : Event) (c : Choice) → (after_event s w e c).settled ≡ w.settled
unfolding after_event
event_settled s w e c = by_settled s w e c (visit_of s w e)

-- ---- each offer is of a life that is there

-- each offer is of one of so many lives
abbrev pub AreOfLives : ℕ → List Offered → Type 0
AreOfLives count os = All (λ o. IsNode count o.node) os

pub put_of_lives : (count : ℕ) (os : List Offered) (node : ℕ) (p : Prefix) (talk : Option ℕ) → IsNode count node → AreOfLives count os → AreOfLives count (put_offer os node p talk)
put_of_lives count os node p talk h all =
    All-push (λ o. IsNode count o.node) (filter (λ o. not (is_offer_of node p o)) os) (record { node = node; prefix = p; talk = talk })
    (All-filter (λ o. not (is_offer_of node p o)) (λ o. IsNode count o.node) os all) h

with_of_lives : (count : ℕ) (os : List Offered) (ts : List StreamState) (v : Visit) (n : NodeState) (just : Option JustOffered) → IsNode count v.node → AreOfLives count os
    → AreOfLives count (with_offer os ts v n just)
with_of_lives count os ts v n None h all = all
with_of_lives count os ts v n (Some j) h all = put_of_lives count os v.node j.prefix (talk_of_handle ts v n j.handle) h all

after_of_lives : (count : ℕ) (ts : List StreamState) (w : WorldState) (v : Visit) (n : NodeState) (a : AgentState) → IsNode count v.node → AreOfLives count w.offers
    → AreOfLives count (offers_after ts w v n a)
unfolding offers_after
after_of_lives count ts w v n a h all =
    with_of_lives count (filter (is_kept v.node a.pool) w.offers) ts v n (just_offered v.seat.agent a) h
    (All-filter (is_kept v.node a.pool) (λ o. IsNode count o.node) w.offers all)

return_of_lives : (count : ℕ) (os : List Offered) (node : ℕ) (p : Prefix) (r : Result (Unit {0}) ReturnFault) → IsNode count node → AreOfLives count os → AreOfLives count (with_return os node p r)
return_of_lives count os node p (Ok done) h all = put_of_lives count os node p None h all
return_of_lives count os node p (Err fault) h all = all

told_of_lives : (count : ℕ) (os : List Offered) (node : ℕ) (a : AgentState) (what : AgentEvent) → IsNode count node → AreOfLives count os → AreOfLives count (offers_told os node a what)
told_of_lives count os node a (wanted length longest peer) h all = all
told_of_lives count os node a (returned p peer) h all = return_of_lives count os node p (return_reply a p) h all
told_of_lives count os node a (replied r) h all = all

module _ (s : Setting) (w : WorldState) (count : ℕ) (all : AreOfLives count w.offers) where
  kept_of_lives : (x : WorldState) → x.offers ≡ w.offers → AreOfLives count x.offers
  kept_of_lives x e = subst (λ os. AreOfLives count os) (sym e) all

  visit_of_lives : (e : Event) (v : Visit) (c : Choice) → IsNode count v.node → AreOfLives count (after_visit s w e v c).offers
  unfolding after_clock after_agent after_agent_call after_delivery after_arrival after_piece after_cut noted stepped
  visit_of_lives (event.Clock node millis) v c h = all
  visit_of_lives (event.Want node length longest peer) v c h = all
  visit_of_lives (event.Return node prefix peer) v c h = all
  visit_of_lives (event.Agent node hold) v c h =
      after_of_lives count (stepped w v c.after (after_reply v.seat.agent c.reply)).streams w v c.after (after_reply v.seat.agent c.reply) h all
  visit_of_lives (event.Api node asa call hold) v c h = all
  visit_of_lives (event.Datagram index hold) v c h = all
  visit_of_lives (event.Arrive stream hold) v c h =
      kept_of_lives (arrived w v (s.arrives_as v.node stream) c.reply (stream_numbered w.streams stream))
      (arrived_offers w v (s.arrives_as v.node stream) c.reply (stream_numbered w.streams stream)).offers
  visit_of_lives (event.Bytes stream far size hold) v c h =
      kept_of_lives (delivered w size (reached_side w stream (side_named far))) (delivered_offers w size (reached_side w stream (side_named far))).offers
  visit_of_lives (event.Cut stream far hold) v c h =
      kept_of_lives (told w (reached_side w stream (side_named far))) (told_offers w (reached_side w stream (side_named far))).offers
  visit_of_lives (event.Drain node max) v c h = kept_of_lives (drained s w v.node max) (drained_offers s w v.node max).offers

  telling_of_lives : (life : ℕ) (what : AgentEvent) (o : Option Seat) → seat_at w life ≡ o → length w.seats ≡ count
      → AreOfLives count (after_telling w (record { node = life; what = what }) o).offers
  telling_of_lives life what None here same = all
  telling_of_lives life what (Some seat) here same =
      told_of_lives count w.offers life seat.agent what (subst (λ n. IsNode n life) same (numbered_within w.seats life seat here)) all

  want_of_lives : (life short longest : ℕ) (peer : Option Locator) → length w.seats ≡ count → AreOfLives count (after_told w (want_told life short longest peer)).offers
  want_of_lives life short longest None same = all
  want_of_lives life short longest (Some peer) same = telling_of_lives life (wanted short longest peer) (seat_at w life) refl same

  back_of_lives : (life : ℕ) (p : Prefix) (peer : Option Locator) → length w.seats ≡ count → AreOfLives count (after_told w (return_told life p peer)).offers
  back_of_lives life p None same = all
  back_of_lives life p (Some peer) same = telling_of_lives life (returned p peer) (seat_at w life) refl same

  none_of_lives : (e : Event) → length w.seats ≡ count → AreOfLives count (after_none s w e).offers
  none_of_lives (event.Want node short longest peer) same = want_of_lives (present_life w node) short longest (numbered s.peers peer) same
  none_of_lives (event.Return node prefix peer) same = back_of_lives (present_life w node) prefix (numbered s.peers peer) same
  none_of_lives _ same = all

  by_of_lives : (e : Event) (c : Choice) (o : Option Visit) → visit_of s w e ≡ o → length w.seats ≡ count → AreOfLives count (after_by s w e c o).offers
  by_of_lives e c None is same = none_of_lives e same
  by_of_lives e c (Some v) is same =
      subst (λ os. AreOfLives count os) (sym (behind_offers (drains e) s (after_visit s w e v c) v.node).offers)
      (visit_of_lives e v c (subst (λ n. IsNode n v.node) same (visits_are_here s w e v is).member))

-- an event offers nothing but at lives that are there
pub event_of_lives : (s : Setting) (w : WorldState) (e : Event) (c : Choice) → AreOfLives (length w.seats) w.offers → AreOfLives (length w.seats) (after_event s w e c).offers
unfolding after_event
event_of_lives s w e c all = by_of_lives s w (length w.seats) all e c (visit_of s w e) refl refl
