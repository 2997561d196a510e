-- Each turn keeps how the streams of a network stand as talks, so in every network that turns lead to its negotiations are talks.
use Rattle.std.proofs.Common.{◌≡◌, ◌≤◌, ◌%◌, ℕ, zero, suc, ◌==◌, Bool, true, false, cond, List, [], ◌∷◌, ◌++◌, inl, Option, Some, None, length, slice_get, refl, sym, ap, ◌∙◌, subst, arith}
use Rattle.std.proofs.lemmas.Bool.{eqb-true, false≢true}
use Rattle.std.proofs.lemmas.List.{append-nil}
use Rattle.std.proofs.lemmas.Option.{none-some}
use Rattle.grasp_model_node.specs.Begin.{begin}
use Rattle.grasp_model_node.specs.BoundedNodes.{IsGiven}
use Rattle.grasp_model_node.specs.Step.{Coming}
use Rattle.grasp_model_node.specs.Streams.{past_of}
use Rattle.grasp_types.specs.declared.message.Message.{Message}
use Rattle.grasp_types.specs.declared.traffic.Input.{Input}
use Rattle.grasp_types.specs.declared.traffic.Input.TheVariants as input
use Rattle.grasp_wire.specs.Cutter.{Past}
use Rattle.grasp_wire.specs.Stream.{RestKind, waiting}
use Rattle.grasp_laws_node_stories.specs.Stories.{came_by, fault_by, is_bad_rest, OpensIt}
use Rattle.grasp_session.specs.Messages.{Side, Near, other}
use Rattle.grasp_laws_network.proofs.Growing.{visit_grows}
use Rattle.grasp_laws_network.proofs.Here.{visits_are_here}
use Rattle.grasp_laws_network.proofs.Telling.{one_agent, none_one}
use Rattle.grasp_laws_network.proofs.Queues.{queues_grow}
use Rattle.grasp_model_network.specs.StreamChanges.{arrived, arrival_by, reached_side, side_named}
use Rattle.grasp_model_network.specs.Events.{Occurs, visit_of, after_visit, after_by, after_event, drains, drained_behind}
use Rattle.grasp_laws_network.specs.Keeping.{IsLonger, StreamsGrow}
use Rattle.grasp_model_network.specs.Runs.{IsReached}
use Rattle.grasp_model_network.specs.Sending.{event_drain}
use Rattle.grasp_model_network.specs.Setting.{Setting}
use Rattle.grasp_model_network.specs.Streams.{StreamEnd, StreamState, end_at, sent_by, is_number, next_bytes}
use Rattle.grasp_model_network.specs.Visits.{Visit, Choice, MayCome, VisitStep}
use Rattle.grasp_model_network.specs.World.{WorldState, present_life, seat_at, end_of}
use Rattle.grasp_model_network.specs.declared.event.Event.{Event}
use Rattle.grasp_model_network.specs.declared.event.Event.TheVariants as event
use Rattle.grasp_laws_delivery.proofs.AfterSteps.{streams_before, streams_stepped, seats_stepped}
use Rattle.grasp_laws_delivery.proofs.FromReady.{distinct, new_end, numbered_has}
use Rattle.grasp_laws_delivery.proofs.Heard.Steps.{reached_is}
use Rattle.grasp_laws_delivery.proofs.Holding.{IsStep, held_reached, parts_keep}
use Rattle.grasp_laws_delivery.proofs.Came.Inputs.{IsOpening, opening_is, IsReaching, piece_is, cut_is, IsQuiet, agent_quiet, call_quiet, datagram_quiet, clock_quiet, takes_nothing}
use Rattle.grasp_laws_delivery.proofs.OnePlace.{Placed, numbered_place, one_talk, has_it}
use Rattle.grasp_laws_delivery.proofs.Sides.{one_side}
use Rattle.grasp_laws_delivery.specs.Pieces.{IsCutInFront}
use Rattle.grasp_laws_delivery.specs.Ready.{HasGoodEnds, HasGoodNumber, FarWaits}
use Rattle.grasp_laws_negotiation.proofs.Drained.{drained_stands, one_stands, restart_stands, first_stands, same_goes, drained_goes, one_goes}
use Rattle.grasp_laws_negotiation.proofs.Events.{Premade, harmless_premade, opened_premade, step_is}
use Rattle.grasp_laws_negotiation.proofs.Harmless.{same_talks, delivered_harmless, told_harmless}
use Rattle.grasp_laws_negotiation.proofs.NodeMoves.{NodeMove, move_stands, move_goes}
use Rattle.grasp_laws_negotiation.proofs.Standing.{Stands, GoesTo, NoStream, NetworkStands}
use Rattle.grasp_laws_negotiation.proofs.TalkRuns.{ran_then}
use Rattle.grasp_laws_negotiation.proofs.Steps.{BringsNothing, AddsInOrder, nothing_added, given_before, every_at}
use Rattle.grasp_laws_negotiation.specs.Grounds.{Grounds}

-- ---- inputs that bring nothing

quiet_brings : (i : Input) → IsQuiet i → (x : Coming) (stream : ℕ) → (came_by i x stream ≡ []) × (fault_by i x stream ≡ false)
quiet_brings (input.Opened s from) q x stream = absurd q
quiet_brings (input.Bytes s bytes) q x stream = absurd q
quiet_brings (input.Closed s) q x stream = absurd q
quiet_brings _ q x stream = (refl, refl)

quiet_opens : (i : Input) → IsQuiet i → (stream : ℕ) → OpensIt i stream → ⊥
quiet_opens (input.Opened s from) q stream o = absurd q
quiet_opens (input.Bytes s bytes) q stream o = absurd q
quiet_opens (input.Closed s) q stream o = absurd q
quiet_opens _ q stream o = o

least_number : (k dials : ℕ) (o : Option ℕ) → is_number k o ≡ true → HasGoodNumber dials o → 1 ≤ k
least_number k dials None is g = absurd (false≢true is)
least_number k dials (Some n) is g =
    let same : n ≡ k = eqb-true n k is in
    let least : 1 ≤ n = g.0 in
    omega (arith, same, least)

module _ (l : Grounds) (s : Setting) (w : WorldState) (r : IsReached s w) (k : NetworkStands w) (e : Event) (c : Choice) (v : Visit) (o : Occurs s w e c) (is : visit_of s w e ≡ Some v) (stepping : IsStep e)
    (q : IsReached s (after_visit s w e v c)) where
  step : VisitStep v c
  step = subst (λ (x : Option Visit). MayCome x c) is o.comes

  here : seat_at w v.node ≡ Some v.seat
  here = (visits_are_here s w e v is).stands

  least : 1 ≤ v.node
  least = (visits_are_here s w e v is).member.least

  after_step : Premade w.streams (streams_before s w e v c) v.node v.input → AddsInOrder l s w r v.node v.seat v.now v.input c.coming
      → ((stream : ℕ) → OpensIt v.input stream → NoStream w.streams (end_of v.node stream)) → ((stream : ℕ) → OpensIt v.input stream → IsGiven v.seat.core.streams.dialled stream)
      → NodeMove w (after_visit s w e v c)
  after_step pre adds opened odd =
      let p = seats_stepped s w e v c stepping in
      step_is l s w (after_visit s w e v c) r q k v c p.agent (streams_before s w e v c) least here p.seats (streams_stepped s w e v c stepping) pre step
      (queues_grow v c (takes_nothing s w e v is stepping) step) adds opened odd

  -- nothing comes, and nothing is opened
  pub after_nothing : Premade w.streams (streams_before s w e v c) v.node v.input → BringsNothing l s w r v.input → ((stream : ℕ) → OpensIt v.input stream → ⊥) → NodeMove w (after_visit s w e v c)
  after_nothing pre none unopened =
      after_step pre (nothing_added l s w r k v.node v.seat here c.after v.now v.input c.coming c.reply step.steps none) (λ stream x. absurd (unopened stream x)) (λ stream x. absurd (unopened stream x))

  pub after_quiet : Premade w.streams (streams_before s w e v c) v.node v.input → IsQuiet v.input → NodeMove w (after_visit s w e v c)
  after_quiet pre quiet = after_nothing pre (quiet_brings v.input quiet) (quiet_opens v.input quiet)

  -- a closing
  pub after_closing : Premade w.streams (streams_before s w e v c) v.node v.input → (stream : ℕ) → v.input ≡ input.Closed stream → NodeMove w (after_visit s w e v c)
  after_closing pre stream closes =
      after_nothing pre (subst (λ i. BringsNothing l s w r i) (sym closes) (λ x n. (refl, refl))) (λ n x. subst (λ i. OpensIt i n) closes x)

  -- a stream that is opened
  pub after_opening : (number : ℕ) → Premade w.streams (streams_before s w e v c) v.node v.input → (i : Input) → v.input ≡ i → BringsNothing l s w r i → ((stream : ℕ) → OpensIt i stream → number ≡ stream)
      → NoStream w.streams (end_of v.node number) → number % 2 ≡ 1 → NodeMove w (after_visit s w e v c)
  after_opening number pre i same none opens free odd =
      after_step pre (nothing_added l s w r k v.node v.seat here c.after v.now v.input c.coming c.reply step.steps (subst (λ z. BringsNothing l s w r z) (sym same) none))
      (λ stream x. subst (λ n. NoStream w.streams (end_of v.node n)) (opens stream (subst (λ z. OpensIt z stream) same x)) free)
      (λ stream x. subst (λ n. IsGiven v.seat.core.streams.dialled n) (opens stream (subst (λ z. OpensIt z stream) same x)) (inl odd))

  -- a piece
  pub after_bytes : Premade w.streams (streams_before s w e v c) v.node v.input → (at : StreamEnd) (piece : List ℕ) (place : ℕ) (t : StreamState) (side : Side) → slice_get w.streams place ≡ Some t
      → end_at t side ≡ Some at → v.node ≡ at.node → v.input ≡ input.Bytes at.number piece
      → ((past : Past) → past_of (begin v.seat.core v.now).streams at.number ≡ Some past → IsCutInFront (sent_by t (other side)).sent (past.given ++ c.coming.added.messages) c.coming.added.kind)
      → NodeMove w (after_visit s w e v c)
  after_bytes pre at piece place t side stands ends node_is same cut =
      after_step pre (subst (λ i. AddsInOrder l s w r v.node v.seat v.now i c.coming) (sym same) adds) (λ stream x. absurd (subst (λ i. OpensIt i stream) same x)) (λ stream x. absurd (subst (λ i. OpensIt i stream) same x)) where
        end_is : at ≡ end_of v.node at.number
        end_is = ap (λ n. end_of n at.number) (sym node_is)

        -- on the stream itself
        own_adds : (p : ℕ) (u : StreamState) → slice_get w.streams p ≡ Some u → (j : Side) → end_at u j ≡ Some (end_of v.node at.number) → (past : Past)
            → past_of (begin v.seat.core v.now).streams at.number ≡ Some past → IsCutInFront (sent_by u (other j)).sent (past.given ++ c.coming.added.messages) c.coming.added.kind
        own_adds p u found j has past is_open =
            let mine : end_at u j ≡ Some at = has ∙ ap (λ x. Some x) (sym end_is) in
            let one : u ≡ t = one_talk at w.streams p place u t (l.ready.apart s w r at) found (has_it u at j mine) stands (has_it t at side ends) in
            let sides : j ≡ side = one_side t at j side (distinct l.ready s w r place t stands) (ap (λ (x : StreamState). end_at x j) (sym one) ∙ mine) ends in
            subst (λ (x : StreamState). IsCutInFront (sent_by x (other j)).sent (past.given ++ c.coming.added.messages) c.coming.added.kind) (sym one)
            (subst (λ (x : Side). IsCutInFront (sent_by t (other x)).sent (past.given ++ c.coming.added.messages) c.coming.added.kind) (sym sides) (cut past is_open))

        no_fault : (kind : RestKind) → kind ≡ waiting → is_bad_rest kind ≡ false
        no_fault kind waits = ap is_bad_rest waits

        adds : AddsInOrder l s w r v.node v.seat v.now (input.Bytes at.number piece) c.coming
        adds p u found j stream has past is_open = by_stream (at.number == stream) refl where
          by_stream : (b : Bool) → (at.number == stream) ≡ b
              → IsLonger (past.given ++ cond b c.coming.added.messages []) (sent_by u (other j)).sent × (cond b (is_bad_rest c.coming.added.kind) false ≡ false)
          by_stream true e =
              let n : at.number ≡ stream = eqb-true at.number stream e in
              let x = own_adds p u found j (has ∙ ap (λ z. Some (end_of v.node z)) (sym n)) past (ap (λ z. past_of (begin v.seat.core v.now).streams z) n ∙ is_open) in
              (x.given_first, no_fault c.coming.added.kind x.waits)
          by_stream false e = (
            subst (λ (m : List Message). IsLonger m (sent_by u (other j)).sent) (sym (append-nil past.given))
                (given_before l s w r k v.node v.seat here c.after v.now v.input c.coming c.reply step.steps p u found j stream has past is_open),
            refl,
          )

-- ---- each event

module _ (l : Grounds) (s : Setting) where
  same_pre : (w : WorldState) (v : Visit) → Premade w.streams w.streams v.node v.input
  same_pre w v = harmless_premade w.streams w.streams v.node v.input (same_talks w.streams)

  arrives : (w : WorldState) (n : ℕ) (hold : Bool) (c : Choice) (v : Visit) → IsReached s w → NetworkStands w → Occurs s w (event.Arrive n hold) c → visit_of s w (event.Arrive n hold) ≡ Some v
      → IsReached s (after_visit s w (event.Arrive n hold) v c) → NodeMove w (after_visit s w (event.Arrive n hold) v c)
  arrives w n hold c v r k o is q = by_opening (opening_is s w n v is) where
    by_opening : IsOpening s w n v → NodeMove w (after_visit s w (event.Arrive n hold) v c)
    by_opening p =
        let number = s.arrives_as v.node n in
        let at : Placed w.streams p.talk = numbered_place n w.streams p.talk p.found in
        let i : Input = input.Opened number (s.arrives_from n p.near.core.plan.address) in
        after_opening l s w r k (event.Arrive n hold) c v o is tt q number
        (subst (λ (z : Option StreamState). Premade w.streams (arrived w v number c.reply z).streams v.node v.input) (sym p.found)
        (opened_premade w.streams v.node v.input p.talk.near number (arrival_by c.reply) (subst (λ z. OpensIt z number) (sym p.is.input_is) refl)
        (λ place t stands side has. unopened place t stands side p has at)))
        i p.is.input_is (λ x stream. (refl, refl)) (λ stream x. x) (new_end l.ready s w r n v is) (odd p at) where
          unopened : (place : ℕ) (t : StreamState) → slice_get w.streams place ≡ Some t → (side : Side) → (p : IsOpening s w n v) → end_at t side ≡ Some p.talk.near → Placed w.streams p.talk → t.far ≡ None
          unopened place t stands side p has at =
              let one : t ≡ p.talk = one_talk p.talk.near w.streams place at.place t p.talk (l.ready.apart s w r p.talk.near) stands (has_it t p.talk.near side has) at.stands (has_it p.talk p.talk.near Near refl) in
              ap (λ (x : StreamState). x.far) one ∙ every_at FarWaits w.streams at.place p.talk (l.ready.waits s w r) at.stands p.waiting

          odd : (p : IsOpening s w n v) → Placed w.streams p.talk → s.arrives_as v.node n % 2 ≡ 1
          odd p at =
              let g = every_at (λ t. HasGoodEnds s (length w.seats) w.dials t.near t.number t.far) w.streams at.place p.talk (l.ready.ends s w r) at.stands in
              r.good.arrivals_odd v.node n (least_number n w.dials p.talk.number (numbered_has n w.streams p.talk p.found) g.dialled)

  pieces : (w : WorldState) (n : ℕ) (far : Bool) (count : ℕ) (hold : Bool) (c : Choice) (v : Visit) → IsReached s w → NetworkStands w → Occurs s w (event.Bytes n far count hold) c
      → visit_of s w (event.Bytes n far count hold) ≡ Some v → IsReached s (after_visit s w (event.Bytes n far count hold) v c) → NodeMove w (after_visit s w (event.Bytes n far count hold) v c)
  pieces w n far count hold c v r k o is q = by_piece (piece_is w n (side_named far) count v is) where
    by_piece : IsReaching w n (side_named far) v (λ x. input.Bytes x.at.number (next_bytes x.talk (other (side_named far)) count)) → NodeMove w (after_visit s w (event.Bytes n far count hold) v c)
    by_piece p =
        let side_is = reached_is w n (side_named far) p.reached p.found in
        let at : Placed w.streams p.reached.talk = numbered_place n w.streams p.reached.talk side_is.found in
        after_bytes l s w r k (event.Bytes n far count hold) c v o is tt q
        (harmless_premade w.streams (streams_before s w (event.Bytes n far count hold) v c) v.node v.input (delivered_harmless w count (reached_side w n (side_named far))))
        p.reached.at (next_bytes p.reached.talk (other (side_named far)) count) at.place p.reached.talk (side_named far) at.stands side_is.ends p.is.node_is p.is.input_is
        (λ past is_open. l.given.added s w r n count far hold p.reached v c p.found is (subst (λ (x : Option Visit). MayCome x c) is o.comes) past is_open)

  cuts : (w : WorldState) (n : ℕ) (far hold : Bool) (c : Choice) (v : Visit) → IsReached s w → NetworkStands w → Occurs s w (event.Cut n far hold) c → visit_of s w (event.Cut n far hold) ≡ Some v
      → IsReached s (after_visit s w (event.Cut n far hold) v c) → NodeMove w (after_visit s w (event.Cut n far hold) v c)
  cuts w n far hold c v r k o is q = by_cut (cut_is w n (side_named far) v is) where
    by_cut : IsReaching w n (side_named far) v (λ x. input.Closed x.at.number) → NodeMove w (after_visit s w (event.Cut n far hold) v c)
    by_cut p =
        after_closing l s w r k (event.Cut n far hold) c v o is tt q
        (harmless_premade w.streams (streams_before s w (event.Cut n far hold) v c) v.node v.input (told_harmless w (reached_side w n (side_named far)))) p.reached.at.number p.is.input_is

  -- what the step of an event does is a step of one node
  pub steps : (w : WorldState) (e : Event) (c : Choice) (v : Visit) → IsReached s w → NetworkStands w → Occurs s w e c → visit_of s w e ≡ Some v → IsStep e → IsReached s (after_visit s w e v c)
      → NodeMove w (after_visit s w e v c)
  steps w (event.Clock node millis) c v r k o is stepping q = after_quiet l s w r k (event.Clock node millis) c v o is stepping q (same_pre w v) (clock_quiet s w node millis v is)
  steps w (event.Want node length longest peer) c v r k o is stepping q = absurd stepping
  steps w (event.Return node prefix peer) c v r k o is stepping q = absurd stepping
  steps w (event.Agent node hold) c v r k o is stepping q = after_quiet l s w r k (event.Agent node hold) c v o is stepping q (same_pre w v) (agent_quiet s w node hold v is)
  steps w (event.Api node asa call hold) c v r k o is stepping q =
      after_quiet l s w r k (event.Api node asa call hold) c v o is stepping q (same_pre w v) (call_quiet s w (event.Api node asa call hold) v (present_life w node) (input.Api asa call) is tt)
  steps w (event.Datagram index hold) c v r k o is stepping q = after_quiet l s w r k (event.Datagram index hold) c v o is stepping q (same_pre w v) (datagram_quiet s w index hold v is)
  steps w (event.Arrive stream hold) c v r k o is stepping q = arrives w stream hold c v r k o is q
  steps w (event.Bytes stream far count hold) c v r k o is stepping q = pieces w stream far count hold c v r k o is q
  steps w (event.Cut stream far hold) c v r k o is stepping q = cuts w stream far hold c v r k o is q
  steps w (event.Drain node max) c v r k o is stepping q = absurd stepping

  pub network_stands : (w : WorldState) → IsReached s w → NetworkStands w
  network_stands w r = parts_keep s NetworkStands (record {
    steps = λ w e c v r k o is stepping q. move_stands w (after_visit s w e v c) (steps w e c v r k o is stepping q) k;
    told = λ w x e r t k. one_stands w x (one_agent s w e x t) k;
    drains = λ w node max r k least. drained_stands l s w node max r k least;
    settles = λ w x node p r t k. one_stands w x t.one k;
    restarts = λ w x node image r t k. restart_stands s w node image x t k;
  }) (first_stands s) w r

  -- ---- a stream goes on

  part_goes : (w : WorldState) (e : Event) (c : Choice) (v : Visit) → IsReached s w → NetworkStands w → Occurs s w e c → visit_of s w e ≡ Some v → IsReached s (after_visit s w e v c) → 1 ≤ v.node
      → (place : ℕ) (t u : StreamState) → slice_get w.streams place ≡ Some t → slice_get (after_visit s w e v c).streams place ≡ Some u → (m : Stands w t) → GoesTo (after_visit s w e v c) u m.talk
  part_goes w (event.Clock node millis) c v r k o is q low place t u was there m =
      let e = event.Clock node millis in move_goes w (after_visit s w e v c) (steps w e c v r k o is tt q) k place t u was there m
  part_goes w (event.Want node length longest peer) c v r k o is q low place t u was there m = absurd (none-some v is)
  part_goes w (event.Return node prefix peer) c v r k o is q low place t u was there m = absurd (none-some v is)
  part_goes w (event.Agent node hold) c v r k o is q low place t u was there m =
      let e = event.Agent node hold in move_goes w (after_visit s w e v c) (steps w e c v r k o is tt q) k place t u was there m
  part_goes w (event.Api node asa call hold) c v r k o is q low place t u was there m =
      let e = event.Api node asa call hold in move_goes w (after_visit s w e v c) (steps w e c v r k o is tt q) k place t u was there m
  part_goes w (event.Datagram index hold) c v r k o is q low place t u was there m =
      let e = event.Datagram index hold in move_goes w (after_visit s w e v c) (steps w e c v r k o is tt q) k place t u was there m
  part_goes w (event.Arrive stream hold) c v r k o is q low place t u was there m =
      let e = event.Arrive stream hold in move_goes w (after_visit s w e v c) (steps w e c v r k o is tt q) k place t u was there m
  part_goes w (event.Bytes stream far count hold) c v r k o is q low place t u was there m =
      let e = event.Bytes stream far count hold in move_goes w (after_visit s w e v c) (steps w e c v r k o is tt q) k place t u was there m
  part_goes w (event.Cut stream far hold) c v r k o is q low place t u was there m =
      let e = event.Cut stream far hold in move_goes w (after_visit s w e v c) (steps w e c v r k o is tt q) k place t u was there m
  part_goes w (event.Drain node max) c v r k o is q low place t u was there m = drained_goes l s w v.node max r k low place t u was there m

  behind_goes : (b : Bool) (w : WorldState) (node : ℕ) → IsReached s w → NetworkStands w → 1 ≤ node → (place : ℕ) (t u : StreamState) → slice_get w.streams place ≡ Some t
      → slice_get (drained_behind b s w node).streams place ≡ Some u → (m : Stands w t) → GoesTo (drained_behind b s w node) u m.talk
  behind_goes true w node r k low place t u was there m = drained_goes l s w node event_drain r k low place t u was there m
  behind_goes false w node r k low place t u was there m = same_goes w place t u was there m

  -- what grows has each place
  grown_place : (ts us : List StreamState) → StreamsGrow ts us → (place : ℕ) (t : StreamState) → slice_get ts place ≡ Some t → (u : StreamState) × (slice_get us place ≡ Some u)
  grown_place [] us g place t is = absurd (none-some t is)
  grown_place (x ∷ ts) [] g place t is = absurd g
  grown_place (x ∷ ts) (y ∷ us) g zero t is = (y, refl)
  grown_place (x ∷ ts) (y ∷ us) g (suc place) t is = grown_place ts us g.1 place t is

  pub event_goes : (w : WorldState) (e : Event) (c : Choice) → IsReached s w → Occurs s w e c → (place : ℕ) (t u : StreamState) → slice_get w.streams place ≡ Some t
      → slice_get (after_event s w e c).streams place ≡ Some u → (m : Stands w t) → GoesTo (after_event s w e c) u m.talk
  unfolding after_event
  event_goes w e c r o place t u was there m = by_visit (visit_of s w e) refl there where
    k : NetworkStands w
    k = network_stands w r

    by_visit : (x : Option Visit) → visit_of s w e ≡ x → slice_get (after_by s w e c x).streams place ≡ Some u → GoesTo (after_by s w e c x) u m.talk
    by_visit None is found =
        none_one s w e (λ x. slice_get x.streams place ≡ Some u → GoesTo x u m.talk) (λ there. same_goes w place t u was there m) (λ x a there. one_goes w x a place t u was there m) found
    by_visit (Some v) is found =
        let low = (visits_are_here s w e v is).member.least in
        let q = held_reached s w e c v r o is in
        let between = grown_place w.streams (after_visit s w e v c).streams (visit_grows s w e v c).streams place t was in
        let first = part_goes w e c v r k o is q low place t between.0 was between.1 m in
        let last = behind_goes (drains e) (after_visit s w e v c) v.node q (network_stands (after_visit s w e v c) q) low place between.0 u between.1 found first.stands in
        record {
          stands = last.stands;
          moves = first.moves ++ last.moves;
          ran = ran_then m.talk first.stands.talk last.stands.talk first.moves last.moves first.ran last.ran;
        }
