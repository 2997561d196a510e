-- The record line of a clock, and of a drain.
use Rattle.std.proofs.Common.{◌≡◌, refl, sym, ap, ◌∙◌, subst, arith, tests, max, ℕ, zero, suc, ◌-◌, ◌≤◌, ◌==◌, ◌++◌, Bool, true, false, cond, nat_lt, List, [], ◌∷◌, length, map, drop, take, slice_get, slice_set, Option, None, Some}
use Rattle.std.proofs.lemmas.Option.{none-some, same_Some}
use Rattle.grasp_laws_members.proofs.Clock.{begins_same, clocks_begin_steps}
use Rattle.grasp_laws_network.proofs.Agreeing.{drain_step}
use Rattle.grasp_laws_network.proofs.EachNode.{nodes_are_sound}
use Rattle.grasp_laws_network.proofs.Lives.{same_present}
use Rattle.grasp_laws_network.proofs.SameLives.{event_lives}
use Rattle.grasp_laws_network.proofs.Staying.{put_here}
use Rattle.grasp_laws_network.specs.Lives.{LivesStand}
use Rattle.grasp_laws_node.proofs.Beginning.{beginnings_end, drain_of_nothing}
use Rattle.grasp_model_node.specs.Begin.{begin, discoveries_expired, expired, floods_expired}
use Rattle.grasp_model_node.specs.Moves.{with_reading}
use Rattle.grasp_model_node.specs.Draining as core
use Rattle.grasp_model_node.specs.Node.{NodeState}
use Rattle.grasp_model_node.specs.Queue.{Queued, output_of}
use Rattle.grasp_model_node.specs.Step.{Acts}
use Rattle.grasp_model_node.specs.Streams.{closing_numbers}
use Rattle.grasp_types.specs.declared.reply.Reply.TheVariants as reply
use Rattle.grasp_types.specs.declared.traffic.Input.{Input}
use Rattle.grasp_types.specs.declared.traffic.Input.TheVariants as input
use Rattle.grasp_types.specs.declared.traffic.Output.{Output}
use Rattle.grasp_types.specs.declared.traffic.Output.TheVariants.{Close}
use Rattle.grasp_model_network.specs.EventSteps.{clock_seat}
use Rattle.grasp_model_network.specs.Events.{Occurs, after_event, visit_of}
use Rattle.grasp_model_network.specs.Runs.{IsReached, IsRun, world_after}
use Rattle.grasp_model_network.specs.Sending.{drained, drained_at, handed_over, seat_with}
use Rattle.grasp_model_network.specs.Setting.{Setting, numbered}
use Rattle.grasp_model_network.specs.Visits.{Choice, Visit, VisitStep, visit_seat}
use Rattle.grasp_model_network.specs.World.{Seat, WorldState, is_too_much, member_of, present_life, seat_at, with_seat}
use Rattle.grasp_model_network.specs.declared.event.Event.{Event}
use Rattle.grasp_model_network.specs.declared.event.Event.TheVariants as event
use Rattle.grasp_record.specs.Laws.{EachRecordHasOneLine}
use Rattle.grasp_record.specs.Records.{IsRecord, record_line}
use Rattle.grasp_record.specs.declared.line.RecordLine.{RecordLine}
use Rattle.grasp_model_audit.specs.Lines.{LineHolds, last_answered}
use Rattle.grasp_model_audit.specs.Naming.{event_named, reading_of}
use Rattle.grasp_model_audit.specs.Recording.{answer_by, step_line, took_by}
use Rattle.grasp_laws_audit.proofs.Calls.{own_node}
use Rattle.grasp_laws_audit.proofs.Holding.{came, drain_after, drain_answered, drain_choice, drain_fits, drain_line, drain_occurs, fits_holds, one_holds}
use Rattle.grasp_laws_audit.proofs.Present.{IsPresent, drained_reads, drained_seat, now_is, reading_at, reading_then, same_twice}
use Rattle.grasp_laws_audit.proofs.ReadBack.{is_read}
use Rattle.grasp_laws_audit.proofs.Steps.{step_of}
use Rattle.grasp_laws_audit.specs.ReadBack.{read_back}
use Rattle.grasp_laws_audit.specs.Recorded.{HoldAs}

-- ---- a drain of nothing

take_none : {A : Type 0} (xs : List A) → take 0 xs ≡ []
take_none [] = refl
take_none (x ∷ xs) = refl

closes_queue : (n : NodeState) (queue : List Queued) → n.queue ≡ queue → core.closes_behind n 0 (drop 0 queue) ≡ []
closes_queue n [] is = ap (λ (q : List Queued). take (0 - length q) (closing_numbers n.streams)) is ∙ take_none (closing_numbers n.streams)
closes_queue n (q ∷ qs) is = refl

closes_none : (n : NodeState) → core.closes n 0 ≡ []
closes_none n = closes_queue n n.queue refl

-- it gives nothing
gives_none : (n : NodeState) → core.drained n 0 ≡ []
gives_none n = (λ i. map output_of (take_none n.queue i) ++ map Close (closes_none n i))

-- and begins the node's step
drains_none : (s : Setting) (w : WorldState) (life : ℕ) (seat : Seat) → seat_at w life ≡ Some seat → drained s w life 0 ≡ with_seat w life (seat_with (begin seat.core seat.core.reading) seat.agent)
unfolding drained handed_over
drains_none s w life seat here =
    ap (drained_at s w life 0) here
    ∙ (λ i. handed_over s (with_seat w life (seat_with (core.after_drain (begin seat.core seat.core.reading) 0) seat.agent)) life (take_none (begin seat.core seat.core.reading).queue i) (closes_none (begin seat.core seat.core.reading) i))
    ∙ ap (λ (m : NodeState). with_seat w life (seat_with m seat.agent)) (drain_of_nothing seat.core seat.core.reading)

-- a step begins alike at two readings that are not above the node's, or that are one
begins_at : (m : NodeState) (a b : ℕ) → max m.reading a ≡ max m.reading b → begin m a ≡ begin m b
unfolding begin with_reading
begins_at m a b e = ap (λ (r : ℕ). floods_expired (discoveries_expired (expired 64 (record m { reading = r })))) e

set_same : (xs : List Seat) (i : ℕ) (x : Seat) → slice_get xs i ≡ Some x → slice_set xs i x ≡ xs
set_same [] i x e = refl
set_same (y ∷ ys) zero x e = ap (λ (z : Seat). z ∷ ys) (sym (same_Some y x e))
set_same (y ∷ ys) (suc i) x e = ap (λ (zs : List Seat). y ∷ zs) (set_same ys i x e)

at_life : (xs : List Seat) (n : ℕ) (x : Seat) → numbered xs n ≡ Some x → slice_get xs (n - 1) ≡ Some x
at_life xs n x e = by_zero (n == 0) refl where
  by_zero : (b : Bool) → (n == 0) ≡ b → slice_get xs (n - 1) ≡ Some x
  by_zero true is = absurd (none-some x (subst (λ z. cond z None (slice_get xs (n - 1)) ≡ Some x) is e))
  by_zero false is = subst (λ z. cond z None (slice_get xs (n - 1)) ≡ Some x) is e

-- a network in which the node's step has begun is as it was
begun_already : (s : Setting) (w : WorldState) (life : ℕ) (seat : Seat) → seat_at w life ≡ Some seat → begin seat.core seat.core.reading ≡ seat.core → drained s w life 0 ≡ w
begun_already s w life seat here begun =
    drains_none s w life seat here
    ∙ ap (λ (m : NodeState). with_seat w life (seat_with m seat.agent)) begun
    ∙ ap (λ (seats : List Seat). record w { seats = seats }) (set_same w.seats (life - 1) seat (at_life w.seats life seat here))

-- ---- a drain's line

drain_reply : (max : ℕ) (v : Visit) (c : Choice) → v.input ≡ input.Drain max → VisitStep v c → c.reply ≡ reply.Outputs (core.drained (begin v.seat.core v.now) max)
drain_reply max v c is step =
    (drain_step (begin v.seat.core v.now) max c.reply c.after step.fed (subst (λ (j : Input). Acts (begin v.seat.core v.now) j c.coming c.reply c.after) is step.steps.acts)).reply

module _ (nodes : ℕ) (few : nodes ≤ 255) (each : EachRecordHasOneLine) (s : Setting) (w : WorldState) (r : IsReached s w) (stand : LivesStand s w) (v : Visit) (c : Choice) (p : IsPresent s w v) where
  abbrev m : ℕ
  m = member_of w v.node

  pub drains_hold : (node most : ℕ) → let e = event.Drain node most in visit_of s w e ≡ Some v → Occurs s w e c → IsRecord nodes (read_back (step_line m (reading_of (after_event s w e c) m) e v c))
      → HoldAs nodes s w (step_line m (reading_of (after_event s w e c) m) e v c ∷ []) (after_event s w e c)
  unfolding world_after
  drains_hold node most is o ranges =
      subst (λ (y : RecordLine). HoldAs nodes s w (y ∷ []) (after_event s w e c)) (sym same)
      (one_holds nodes s w (after_event s w e c) line (came (event.Drain m most) (drain_choice v.seat most) ∷ [])
      (fits_holds nodes few each s w line (event.Drain m most) (drain_choice v.seat most)
      (drain_fits s w m v.node most v.seat p.life p.here.stands nodes now (subst (λ (y : RecordLine). IsRecord nodes (read_back y)) same ranges) reads p.is_node (subst (λ (x : WorldState). is_too_much x ≡ false) left o.enough)))
      (drain_after s w m v.node most v.seat p.life p.here.stands (drain_choice v.seat most) ∙ sym left))
    where
      e : Event
      e = event.Drain node most

      now : ℕ
      now = reading_of (after_event s w e c) m

      line : RecordLine
      line = drain_line m now most v.seat

      came_in : (life : ℕ) (a : Option Seat) → visit_seat life (input.Drain most) a ≡ Some v → (v.node ≡ life) × (v.input ≡ input.Drain most)
      came_in life None h = absurd (none-some v h)
      came_in life (Some seat) h =
          let z = same_Some (record { node = life; seat = seat; now = seat.core.reading; input = input.Drain most }) v h in
          (ap (λ (x : Visit). x.node) (sym z), ap (λ (x : Visit). x.input) (sym z))

      life : (v.node ≡ present_life w node) × (v.input ≡ input.Drain most)
      life = came_in (present_life w node) (seat_at w (present_life w node)) is

      own : present_life w node ≡ v.node
      own = sym life.0

      left : after_event s w e c ≡ drained s w v.node most
      left = drain_after s w node v.node most v.seat own p.here.stands c

      reads : now ≡ v.seat.core.reading
      reads =
          reading_then s w (after_event s w e c) v (seat_with (core.after_drain (begin v.seat.core v.seat.core.reading) most) v.seat.agent) p (event_lives s w e c)
          (ap (λ (x : WorldState). seat_at x v.node) left ∙ drained_seat s w v.node most v.seat p.here.stands)
          ∙ drained_reads v.seat.core most

      gave : c.reply ≡ reply.Outputs (core.drained (begin v.seat.core v.seat.core.reading) most)
      gave =
          drain_reply most v c life.1 (step_of s w e v c is o)
          ∙ ap (λ (n : ℕ). reply.Outputs (core.drained (begin v.seat.core n) most)) (now_is s w e v tt is)

      same : step_line m now e v c ≡ line
      same = (λ i. record { node = m; now = now; input = took_by e (life.1 i); answer = answer_by (gave i) })

  -- ---- a clock's line

  pub clocks_hold : (node millis : ℕ) → let e = event.Clock node millis in visit_of s w e ≡ Some v → Occurs s w e c → IsRecord nodes (read_back (step_line m (reading_of (after_event s w e c) m) e v c))
      → HoldAs nodes s w (step_line m (reading_of (after_event s w e c) m) e v c ∷ []) (after_event s w e c)
  unfolding world_after IsRun last_answered event_named
  clocks_hold node millis is o ranges = by_test (nat_lt v.seat.core.reading millis) refl where
    e : Event
    e = event.Clock node millis

    x : WorldState
    x = after_event s w e c

    now : ℕ
    now = reading_of x m

    came_in : (life : ℕ) (a : Option Seat) → clock_seat life millis a ≡ Some v → (v.node ≡ life) × (v.now ≡ millis) × (v.input ≡ input.Drain 0)
    came_in life None h = absurd (none-some v h)
    came_in life (Some seat) h =
        let z = same_Some (record { node = life; seat = seat; now = millis; input = input.Drain 0 }) v h in
        (ap (λ (y : Visit). y.node) (sym z), ap (λ (y : Visit). y.now) (sym z), ap (λ (y : Visit). y.input) (sym z))

    life : (v.node ≡ present_life w node) × (v.now ≡ millis) × (v.input ≡ input.Drain 0)
    life = came_in (present_life w node) (seat_at w (present_life w node)) is

    own : m ≡ node
    own = own_node s w v node stand o.fit life.0

    begun : Seat
    begun = seat_with (begin v.seat.core millis) v.seat.agent

    -- the network after the clock
    left : x ≡ with_seat w v.node begun
    left =
        clocks_begin_steps s w node millis c v.seat (ap (λ k. seat_at w k) (sym life.0) ∙ p.here.stands) o
        ∙ ap (λ (k : ℕ). with_seat w k begun) (sym life.0)

    here : seat_at x v.node ≡ Some begun
    here = ap (λ (y : WorldState). seat_at y v.node) left ∙ put_here w.seats v.node v.seat begun p.here.stands

    reads : now ≡ max v.seat.core.reading millis
    reads = reading_then s w x v begun p (event_lives s w e c) here ∙ (beginnings_end v.seat.core millis).0.reading

    gave : c.reply ≡ reply.Outputs []
    gave = drain_reply 0 v c life.2 (step_of s w e v c is o) ∙ ap (λ (outputs : List Output). reply.Outputs outputs) (gives_none (begin v.seat.core v.now))

    -- the line is that of a drain of nothing, whatever stands there
    same : (seat : Seat) → step_line m now e v c ≡ drain_line m now 0 seat
    same seat = (λ i. record { node = m; now = now; input = took_by e (life.2 i); answer = answer_by ((gave ∙ ap (λ (outputs : List Output). reply.Outputs outputs) (sym (gives_none (begin seat.core seat.core.reading)))) i) })

    later : (a b : ℕ) → nat_lt a b ≡ true → max a b ≡ b
    later a b t = grind (arith, tests)

    sooner : (a b : ℕ) → nat_lt a b ≡ false → max a b ≡ a
    sooner a b t = grind (arith, tests)

    at_least : (a b : ℕ) → nat_lt a b ≡ true → a ≤ b
    at_least a b t = grind (arith, tests)

    -- where the clock shows no later reading, it is a drain of nothing alone
    unmoved : nat_lt v.seat.core.reading millis ≡ false → HoldAs nodes s w (step_line m now e v c ∷ []) x
    unmoved test =
        subst (λ (y : RecordLine). HoldAs nodes s w (y ∷ []) x) (sym (same v.seat))
        (one_holds nodes s w x (drain_line m now 0 v.seat) (came (event.Drain m 0) (drain_choice v.seat 0) ∷ [])
        (fits_holds nodes few each s w (drain_line m now 0 v.seat) (event.Drain m 0) (drain_choice v.seat 0)
        (drain_fits s w m v.node 0 v.seat p.life p.here.stands nodes now (subst (λ (y : RecordLine). IsRecord nodes (read_back y)) (same v.seat) ranges) (reads ∙ sooner v.seat.core.reading millis test) p.is_node
        (subst (λ (y : WorldState). is_too_much y ≡ false) (sym alike) o.enough)))
        (drain_after s w m v.node 0 v.seat p.life p.here.stands (drain_choice v.seat 0) ∙ alike))
      where
        alike : drained s w v.node 0 ≡ x
        alike =
            drains_none s w v.node v.seat p.here.stands
            ∙ ap (λ (n : NodeState). with_seat w v.node (seat_with n v.seat.agent))
            (begins_at v.seat.core v.seat.core.reading millis (same_twice v.seat.core.reading ∙ sym (sooner v.seat.core.reading millis test)))
            ∙ sym left

    -- else the clock comes first, and the drain changes nothing
    moved : nat_lt v.seat.core.reading millis ≡ true → HoldAs nodes s w (step_line m now e v c ∷ []) x
    moved test =
        subst (λ (y : RecordLine). HoldAs nodes s w (y ∷ []) x) (sym (same begun))
        (one_holds nodes s w x line (came (event.Clock m now) c ∷ came (event.Drain m 0) (drain_choice begun 0) ∷ []) holds
        (ap (λ (y : WorldState). after_event s y (event.Drain m 0) (drain_choice begun 0)) (sym first) ∙ drain_after s x m v.node 0 begun here_life here (drain_choice begun 0) ∙ still))
      where
        line : RecordLine
        line = drain_line m now 0 begun

        shows : now ≡ millis
        shows = reads ∙ later v.seat.core.reading millis test

        clock_same : event.Clock m now ≡ e
        clock_same = (λ i. event.Clock (own i) (shows i))

        first : x ≡ after_event s w (event.Clock m now) c
        first = ap (λ (f : Event). after_event s w f c) (sym clock_same)

        here_life : present_life x m ≡ v.node
        here_life = same_present w x m (event_lives s w e c) ∙ p.life

        still : drained s x v.node 0 ≡ x
        still = begun_already s x v.node begun here (begins_same v.seat.core millis (nodes_are_sound.sound s w r v.node v.seat p.here.stands))

        drains : Occurs s x (event.Drain m 0) (drain_choice begun 0)
        drains = drain_occurs s x m v.node 0 begun here_life here p.is_node (subst (λ (y : WorldState). is_too_much y ≡ false) (sym still) o.enough)

        before : reading_of w m ≡ v.seat.core.reading
        before = reading_at s w v p

        is_later : nat_lt (reading_of w m) now ≡ true
        is_later = (λ i. nat_lt (before i) (shows i)) ∙ test

        holds : LineHolds nodes s w (record_line line) (read_back line) (came (event.Clock m now) c ∷ came (event.Drain m 0) (drain_choice begun 0) ∷ [])
        holds = record {
          event = event.Drain m 0;
          asks = record {
            names = record {
              means = record {
                is_line = is_read each nodes few line (subst (λ (y : RecordLine). IsRecord nodes (read_back y)) (same begun) ranges);
                in_time = at_least (reading_of w m) now is_later;
              };
              named = refl;
            };
            of_agent = tt;
          };
          comes = record {
            events = ap (λ (b : Bool). cond b (event.Clock m now ∷ []) [] ++ event.Drain m 0 ∷ []) (sym is_later);
            run = (subst (λ (f : Event). Occurs s w f c) (sym clock_same) o, (subst (λ (y : WorldState). Occurs s y (event.Drain m 0) (drain_choice begun 0)) first drains, tt));
          };
          answer = ap (λ (y : WorldState). last_answered s y (came (event.Drain m 0) (drain_choice begun 0) ∷ [])) (sym first) ∙ drain_answered s x m v.node 0 begun here_life here (drain_choice begun 0);
        }

    by_test : (b : Bool) → nat_lt v.seat.core.reading millis ≡ b → HoldAs nodes s w (step_line m now e v c ∷ []) x
    by_test true test = moved test
    by_test false test = unmoved test
