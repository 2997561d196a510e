-- In every network that turns lead to, where no two searches were begun under one session number at one address, all that nodes queue, cache and
-- say is real.
use Rattle.std.proofs.Common.{◌≡◌, refl, sym, subst, arith, ℕ, ◌<◌, ◌≤◌, ◌-◌, ◌==◌, Bool, true, false, cond, List, [], ◌∷◌, ◌++◌, length, length-append, map, slice_get, Option, None, Some, All}
use Rattle.std.specs.Prelude.{AllPairs, slice_index_or}
use Rattle.std.proofs.lemmas.List.{get_or_append_left}
use Rattle.std.proofs.lemmas.List.Elements.{All-nil, All-cons, All-drop, All-head, All-tail, All-take}
use Rattle.std.proofs.lemmas.Option.{none-some}
use Rattle.grasp_model_node.specs.Begin.{begin}
use Rattle.grasp_model_node.specs.Node.{NodeState}
use Rattle.grasp_model_node.specs.Step.{Acts}
use Rattle.grasp_model_node.specs.Streams.{past_of}
use Rattle.grasp_pool.specs.Functions.{pool_of, pool_of_image}
use Rattle.grasp_pool.specs.declared.image.PoolImage.{PoolImage}
use Rattle.grasp_session.specs.Messages.{other}
use Rattle.grasp_types.specs.declared.message.Message.{Message}
use Rattle.grasp_types.specs.declared.traffic.Input.TheVariants as input
use Rattle.grasp_wire.specs.Cutter.{Past}
use Rattle.grasp_laws_network.proofs.EachNode.{IsMade, is_made, one_each}
use Rattle.grasp_laws_network.proofs.Growing.{visit_grows, drained_grows, one_grows}
use Rattle.grasp_laws_network.proofs.Restarted.{Restarting, restart_seats}
use Rattle.grasp_laws_network.proofs.Telling.{one_agent}
use Rattle.grasp_laws_network.specs.Telling.{OneAgent}
use Rattle.grasp_laws_network.proofs.Here.{visits_are_here}
use Rattle.grasp_model_network.proofs.Facts.{numbered_all}
use Rattle.grasp_model_network.specs.EventSteps.{agent_visit, agent_seat, agent_input, after_delivery}
use Rattle.grasp_model_network.specs.Events.{visit_of, after_visit}
use Rattle.grasp_laws_network.specs.Keeping.{WorldGrows}
use Rattle.grasp_model_network.specs.Notes.{SearchesDiffer}
use Rattle.grasp_model_network.specs.StreamChanges.{Reached, reached_side, side_named}
use Rattle.grasp_model_network.specs.Runs.{IsReached, first_world}
use Rattle.grasp_model_network.specs.Openings.{first_seat}
use Rattle.grasp_model_network.specs.Sending as network
use Rattle.grasp_model_network.specs.Sending.{drained_at, drained_from}
use Rattle.grasp_model_network.specs.Setting.{Setting}
use Rattle.grasp_model_network.specs.Streams.{next_bytes, sent_by}
use Rattle.grasp_model_network.specs.Visits.{Visit, Choice, MayCome, VisitStep}
use Rattle.grasp_model_network.specs.World.{Seat, SearchCall, SentDatagram, WorldState, present_life, seat_at}
use Rattle.grasp_model_network.specs.declared.event.Event.{Event}
use Rattle.grasp_model_network.specs.declared.event.Event.TheVariants as event
use Rattle.grasp_laws_delivery.proofs.AfterSteps.{seats_stepped, each_seat, each_drained}
use Rattle.grasp_laws_delivery.proofs.Heard.Steps.{reached_is}
use Rattle.grasp_laws_delivery.proofs.Holding.{IsStep, PartsKeep, parts_keep}
use Rattle.grasp_laws_delivery.proofs.Came.Inputs.{IsReaching, seat_visit, at_visit, clock_visit_is, opening_is, piece_is, cut_is}
use Rattle.grasp_laws_delivery.proofs.OnePlace.{Placed, numbered_place}
use Rattle.grasp_laws_delivery.specs.Pieces.{IsCutInFront, WhatWasSaidIsGiven}
use Rattle.grasp_laws_floods.proofs.Members.{has_member}
use Rattle.grasp_laws_floods.proofs.Settled.{AreApart}
use Rattle.grasp_laws_floods.specs.Laws.{DiscoveriesAreReal}
use Rattle.grasp_laws_floods.specs.Sought.{IsMessageSought, DiscoveriesAreSought, SearchIsTold}
use Rattle.grasp_laws_delivery.specs.Divided.{DatagramsAreMessages}
use Rattle.grasp_laws_discovery.proofs.Asking.{begun_asks}
use Rattle.grasp_laws_discovery.proofs.Hearing.{ArePieces}
use Rattle.grasp_laws_discovery.proofs.Longer.{restarting_grows}
use Rattle.grasp_laws_discovery.proofs.Noting.{Brings, brings_it, carried_real}
use Rattle.grasp_laws_discovery.proofs.Real.{NodeReal, node_longer, begin_real, drain_real, plain_real, datagram_real, bytes_real, opened_real}
use Rattle.grasp_laws_discovery.proofs.Stepping.{IsPlain}
use Rattle.grasp_laws_discovery.proofs.Telling.{TalksReal, sent_real, talks_longer, step_talks, told_talks, drained_talks}
use Rattle.grasp_laws_discovery.specs.Locators.{IsMessageReal, IsQueuedReal}

-- ---- what is so

pub record WorldReal (s : Setting) (w : WorldState) : Type 0 where
  pub nodes : (node : ℕ) (seat : Seat) → seat_at w node ≡ Some seat → NodeReal s w seat.core
  pub streams : TalksReal s w w.streams

abbrev pub IsReal : Setting → WorldState → Type 0
IsReal s w = SearchesDiffer w → WorldReal s w

-- ---- searches only grow

still_less : (j : ℕ) (xs more : List SearchCall) → j < length xs → j < length (xs ++ more)
still_less j xs more h = omega (arith, h, length-append xs more)

less_before : (i j n : ℕ) → i < j → j < n → i < n
less_before i j n h k = omega (arith, h, k)

pairs_before : (R : SearchCall → SearchCall → Type 0) (xs more : List SearchCall) → AllPairs R (xs ++ more) → AllPairs R xs
pairs_before R xs more all i j d less within =
    subst (λ (x : SearchCall). R (slice_index_or xs i d) x) (get_or_append_left xs more d j within)
    (subst (λ (x : SearchCall). R x (slice_index_or (xs ++ more) j d)) (get_or_append_left xs more d i (less_before i j (length xs) less within))
    (all i j d less (still_less j xs more within)))

pub differed : (w x : WorldState) → WorldGrows w x → SearchesDiffer x → SearchesDiffer w
differed w x g differ = pairs_before AreApart w.searches g.searches.0 (subst (AllPairs AreApart) g.searches.1 differ)

-- ---- what comes

-- a call, an opening, a closing and the passing of time
agent_plain : (node : ℕ) (v : Visit) (o : Option Seat) → agent_seat node o ≡ Some v → IsPlain v.input
agent_plain node v None is = absurd (none-some v is)
agent_plain node v (Some seat) is = subst IsPlain (sym (seat_visit node (agent_input seat.agent) v (Some seat) is).input_is) tt

-- the messages in the middle
middle : (P : Message → Type 0) (before ms after : List Message) → All P ((before ++ ms) ++ after) → All P ms
middle P [] [] after all = All-nil P
middle P [] (m ∷ ms) after all = All-cons P m ms (All-head P m (ms ++ after) all) (middle P [] ms after (All-tail P m (ms ++ after) all))
middle P (b ∷ before) ms after all = middle P before ms after (All-tail P b ((before ++ ms) ++ after) all)

-- ---- a step

plain_step : (s : Setting) (x : WorldState) (v : Visit) (c : Choice) → IsPlain v.input → VisitStep v c → NodeReal s x v.seat.core → NodeReal s x c.after
plain_step s x v c is step k = plain_real s x (begin v.seat.core v.now) c.after v.input c.coming c.reply is (begin_real s x v.seat.core v.now k) step.steps.acts

module _ (given : WhatWasSaidIsGiven) (real : DiscoveriesAreReal) (told : SearchIsTold) (messages : DatagramsAreMessages) (s : Setting) where
  -- the messages of a piece were sent
  pieces_real : (w : WorldState) → IsReached s w → (stream count : ℕ) (far hold : Bool) (v : Visit) (c : Choice) (x : Reached) → reached_side w stream (side_named far) ≡ Some x
      → visit_of s w (event.Bytes stream far count hold) ≡ Some v → VisitStep v c → TalksReal s w w.streams → ArePieces (IsMessageReal s w) c.coming.added (past_of (begin v.seat.core v.now).streams x.at.number)
  pieces_real w r stream count far hold v c x found is step talks = by_past (past_of (begin v.seat.core v.now).streams x.at.number) refl where
    sent : All (IsMessageReal s w) (sent_by x.talk (other (side_named far))).sent
    sent = at_place (numbered_place stream w.streams x.talk (reached_is w stream (side_named far) x found).found) where
      at_place : Placed w.streams x.talk → All (IsMessageReal s w) (sent_by x.talk (other (side_named far))).sent
      at_place p = sent_real s w x.talk (talks p.place x.talk p.stands) (other (side_named far))

    by_past : (o : Option Past) → past_of (begin v.seat.core v.now).streams x.at.number ≡ o → ArePieces (IsMessageReal s w) c.coming.added o
    by_past None e = tt
    by_past (Some past) e = from (given.added s w r stream count far hold x v c found is step past e) where
      from : IsCutInFront (sent_by x.talk (other (side_named far))).sent (past.given ++ c.coming.added.messages) c.coming.added.kind → All (IsMessageReal s w) c.coming.added.messages
      from cut = middle (IsMessageReal s w) past.given c.coming.added.messages cut.given_first.0 (subst (All (IsMessageReal s w)) cut.given_first.1 sent)

  bytes_step : (w : WorldState) → IsReached s w → SearchesDiffer w → (stream count : ℕ) (far hold : Bool) (v : Visit) (c : Choice) → visit_of s w (event.Bytes stream far count hold) ≡ Some v → VisitStep v c
      → WorldReal s w → NodeReal s w c.after
  bytes_step w r differ stream count far hold v c is step k = at_side (piece_is w stream (side_named far) count v is) where
    here : seat_at w v.node ≡ Some v.seat
    here = (visits_are_here s w (event.Bytes stream far count hold) v is).stands

    at_side : IsReaching w stream (side_named far) v (λ x. input.Bytes x.at.number (next_bytes x.talk (other (side_named far)) count)) → NodeReal s w c.after
    at_side x =
        bytes_real s w (begin v.seat.core v.now) c.after x.reached.at.number (next_bytes x.reached.talk (other (side_named far)) count) c.coming c.reply step.fed
        (pieces_real w r stream count far hold v c x.reached x.found is step k.streams) (begun_asks real told s w r differ v.node v.seat v.now here)
        (begin_real s w v.seat.core v.now (k.nodes v.node v.seat here))
        (subst (λ i. Acts (begin v.seat.core v.now) i c.coming c.reply c.after) x.is.input_is step.steps.acts)

  datagram_step : (w : WorldState) → IsReached s w → (index : ℕ) (hold : Bool) (v : Visit) (c : Choice) → visit_of s w (event.Datagram index hold) ≡ Some v → VisitStep v c
      → NodeReal s (after_delivery w v index c) v.seat.core → WorldGrows w (after_delivery w v index c) → NodeReal s (after_delivery w v index c) c.after
  datagram_step w r index hold v c is step k g = from (brings_it messages s w r index hold v c is step) (real.reached s w r) where
    from : Brings w index v c → DiscoveriesAreSought w → NodeReal s (after_delivery w v index c) c.after
    from b sought =
        datagram_real s (after_delivery w v index c) (begin v.seat.core v.now) c.after b.sent.route.link b.sent.route.from c.coming c.reply step.fed
        (carried_real s w v c index b.sent sought.sought c.coming.carried (has_member s w r v.node v.seat (visits_are_here s w (event.Datagram index hold) v is).stands) g b.found
        (numbered_all (λ (x : SentDatagram). IsMessageSought w sought.sought x.message) w.datagrams index b.sent sought.sent b.found) b.carried)
        (begin_real s (after_delivery w v index c) v.seat.core v.now k)
        (subst (λ i. Acts (begin v.seat.core v.now) i c.coming c.reply c.after) b.input_is step.steps.acts)

  -- the node of the step
  node_after : (w : WorldState) (e : Event) (c : Choice) (v : Visit) → IsReached s w → SearchesDiffer w → WorldReal s w → visit_of s w e ≡ Some v → IsStep e → VisitStep v c → WorldGrows w (after_visit s w e v c)
      → NodeReal s (after_visit s w e v c) v.seat.core → NodeReal s (after_visit s w e v c) c.after
  unfolding agent_visit
  node_after w (event.Clock node millis) c v r differ k is step may g own =
      plain_step s (after_visit s w (event.Clock node millis) v c) v c (subst IsPlain (sym (clock_visit_is (present_life w node) millis v (seat_at w (present_life w node)) is).input_is) refl) may own
  node_after w (event.Want node length longest peer) c v r differ k is step may g own = absurd step
  node_after w (event.Return node prefix peer) c v r differ k is step may g own = absurd step
  node_after w (event.Agent node hold) c v r differ k is step may g own = plain_step s (after_visit s w (event.Agent node hold) v c) v c (agent_plain (present_life w node) v (seat_at w (present_life w node)) is) may own
  node_after w (event.Api node asa call hold) c v r differ k is step may g own =
      plain_step s (after_visit s w (event.Api node asa call hold) v c) v c (subst IsPlain (sym (at_visit w (present_life w node) (input.Api asa call) v is).input_is) tt) may own
  node_after w (event.Datagram index hold) c v r differ k is step may g own = datagram_step w r index hold v c is may own g
  node_after w (event.Arrive stream hold) c v r differ k is step may g own =
      plain_step s (after_visit s w (event.Arrive stream hold) v c) v c (subst IsPlain (sym (opening_is s w stream v is).is.input_is) tt) may own
  node_after w (event.Bytes stream far count hold) c v r differ k is step may g own =
      node_longer s w (after_visit s w (event.Bytes stream far count hold) v c) g c.after (bytes_step w r differ stream count far hold v c is may k)
  node_after w (event.Cut stream far hold) c v r differ k is step may g own =
      plain_step s (after_visit s w (event.Cut stream far hold) v c) v c (subst IsPlain (sym (cut_is w stream (side_named far) v is).is.input_is) tt) may own
  node_after w (event.Drain node most) c v r differ k is step may g own = absurd step

  stepped_real : (w : WorldState) (e : Event) (c : Choice) (v : Visit) → IsReached s w → SearchesDiffer w → WorldReal s w → visit_of s w e ≡ Some v → IsStep e → VisitStep v c → WorldReal s (after_visit s w e v c)
  stepped_real w e c v r differ k is step may = from (visit_grows s w e v c) where
    x : WorldState
    x = after_visit s w e v c

    from : WorldGrows w x → WorldReal s x
    from g = with_node (node_after w e c v r differ k is step may g (node_longer s w x g v.seat.core (k.nodes v.node v.seat (visits_are_here s w e v is).stands))) where
      with_node : NodeReal s x c.after → WorldReal s x
      with_node own = record {
        nodes = each_seat (λ node seat. NodeReal s x seat.core) w x v c (visits_are_here s w e v is).member.least (seats_stepped s w e v c step) (λ agent which there. own)
            (λ node seat differs there. node_longer s w x g seat.core (k.nodes node seat there));
        streams = step_talks s x w e v c step (All-drop (IsQueuedReal s x) (length v.seat.core.queue) c.after.queue own.queue) (talks_longer s w x g w.streams k.streams);
      }

  -- ---- a drain

  drained_real : (w : WorldState) (node most : ℕ) (o : Option Seat) → seat_at w node ≡ o → 1 ≤ node → WorldReal s w → WorldGrows w (drained_at s w node most o) → WorldReal s (drained_at s w node most o)
  drained_real w node most None here least k g = k
  drained_real w node most (Some seat) here least k g = from (begin seat.core seat.core.reading) g (begin_real s w seat.core seat.core.reading (k.nodes node seat here)) where
    from : (m : NodeState) → WorldGrows w (drained_from s w node seat m most) → NodeReal s w m → WorldReal s (drained_from s w node seat m most)
    from m h own = with_node (node_longer s w (drained_from s w node seat m most) h m own) where
      x : WorldState
      x = drained_from s w node seat m most

      with_node : NodeReal s x m → WorldReal s x
      with_node n = record {
        nodes = each_drained (λ j other. NodeReal s x other.core) s w node seat m most least (drain_real s x m most n) (λ j other differs there. node_longer s w x h other.core (k.nodes j other there));
        streams = drained_talks s x w node seat m most (All-take (IsQueuedReal s x) most m.queue n.queue) (talks_longer s w x h w.streams k.streams);
      }

  -- ---- another agent

  one_real : (w x : WorldState) → OneAgent w x → WorldReal s w → WorldReal s x
  one_real w x o k = record {
    nodes = one_each (λ node n. NodeReal s x n) w x o (λ node seat there. node_longer s w x (one_grows w x o) seat.core (k.nodes node seat there));
    streams = talks_longer s w x (one_grows w x o) x.streams (subst (λ (y : WorldState). TalksReal s w y.streams) (sym o.after) k.streams);
  }

  -- ---- another life

  begun_real : (w x : WorldState) (node : ℕ) (image : PoolImage) → Restarting s w node image x → WorldGrows w x → WorldReal s w → WorldReal s x
  begun_real w x node image t g k = record {
    nodes = restart_seats (λ life seat. NodeReal s x seat.core) s w node image x t (longer (present_life w node) t.seat t.here) (opened_real s x t.member.plan (pool_of_image image)) longer;
    streams = subst (TalksReal s x) (sym t.streams) (told_talks s x node (present_life w node) w.streams (talks_longer s w x g w.streams k.streams));
  } where
    longer : (life : ℕ) (seat : Seat) → seat_at w life ≡ Some seat → NodeReal s x seat.core
    longer life seat there = node_longer s w x g seat.core (k.nodes life seat there)

  -- ---- every turn

  parts : PartsKeep s (IsReal s)
  unfolding network.drained
  parts = record {
    steps = λ w e c v r p o is step reached differ.
        let before = differed w (after_visit s w e v c) (visit_grows s w e v c) differ in
        stepped_real w e c v r before (p before) is step (subst (λ (x : Option Visit). MayCome x c) is o.comes);
    told = λ w x e r t p differ. let o = one_agent s w e x t in one_real w x o (p (differed w x (one_grows w x o) differ));
    drains = λ w node most r p least differ.
        drained_real w node most (seat_at w node) refl least (p (differed w (network.drained s w node most) (drained_grows s w node most) differ)) (drained_grows s w node most);
    settles = λ w x node q r t p differ. one_real w x t.one (p (differed w x (one_grows w x t.one) differ));
    restarts = λ w x node image r t p differ. let g = restarting_grows s w x node image t in begun_real w x node image t g (p (differed w x g differ));
  }

  first_nodes : (node : ℕ) (seat : Seat) → seat_at (first_world s) node ≡ Some seat → NodeReal s (first_world s) seat.core
  unfolding first_world
  first_nodes node seat found = by_zero (node == 0) found where
    by_zero : (b : Bool) → cond b None (slice_get (map first_seat s.members) (node - 1)) ≡ Some seat → NodeReal s (first_world s) seat.core
    by_zero true f = absurd (none-some seat f)
    by_zero false f = at_member (is_made first_seat s.members (node - 1) seat f) where
      at_member : IsMade first_seat s.members (node - 1) seat → NodeReal s (first_world s) seat.core
      at_member m = subst (λ (x : Seat). NodeReal s (first_world s) x.core) m.made (opened_real s (first_world s) m.of.plan (pool_of m.of.roots))

  first_real_world : IsReal s (first_world s)
  unfolding first_world
  first_real_world differ = record { nodes = first_nodes; streams = λ place t found. absurd (none-some t found) }

  pub worlds_real : (w : WorldState) → IsReached s w → SearchesDiffer w → WorldReal s w
  worlds_real w r = parts_keep s (IsReal s) parts first_real_world w r
