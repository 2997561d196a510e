-- A node begins anew: the network that the code keeps then.
use Rattle.std.proofs.Common.{◌≡◌, ◌≢◌, ◌⊎◌, inl, inr, ◌≤◌, ◌<◌, refl, sym, ap, ◌∙◌, subst, arith, ℕ, zero, suc, ◌+◌, ◌*◌, ◌-◌, ◌/◌, ◌%◌, ◌==◌, ◌&&◌, ◌||◌, Bool, true, false, cond, List, [], ◌∷◌, ◌++◌, length, map, filter, Option, Some, None, slice_get, slice_set, slice_index_or, nat_lt, min, is_some, All}
use Rattle.std.specs.List.{count_by, list_any}
use Rattle.std.specs.Vec.{with_item}
use Rattle.std.proofs.lemmas.Bool.{cases_eq, eqb-true, true≢false, ne_eqb, and_parts}
use Rattle.std.proofs.lemmas.List.{length-set, length-append}
use Rattle.std.proofs.lemmas.List.Sums.{sum_by-cons}
use Rattle.std.proofs.lemmas.List.Folds.{list_any-append}
use Rattle.std.proofs.lemmas.Option.{none-some, same_Some}
use Rattle.grasp_simulator.proofs.Remembered.{restart_remembers}
use Rattle.grasp_laws_prefixes.specs.Grounds.{Grounds}
use Rattle.grasp_agent.specs.States.{AgentState}
use Rattle.grasp_agent.specs.Reopening.{retired}
use Rattle.grasp_laws_delivery.proofs.Ends.{same_ends}
use Rattle.grasp_laws_delivery.specs.Ready.{Every, HasGoodEnds, StreamsAreReady}
use Rattle.grasp_laws_network.proofs.Lists.{numbered_there, slice_map}
use Rattle.grasp_laws_network.proofs.Lives.{is_present_life, present_is}
use Rattle.grasp_laws_network.proofs.LivesKept.{lives_are_kept, restart_present, restart_member, restart_members, restart_still_present, restart_was_present}
use Rattle.grasp_laws_network.proofs.Going.{restarted_reached}
use Rattle.grasp_laws_network.proofs.Others.{set_elsewhere}
use Rattle.grasp_laws_network.proofs.Restarted.{Restarting, restarting_is, begun_seat}
use Rattle.grasp_laws_network.proofs.Staying.{set_here}
use Rattle.grasp_laws_network.specs.Lives.{LivesStand}
use Rattle.grasp_model_network.specs.Openings.{opened_seat}
use Rattle.grasp_model_network.specs.Plans.{IsNode}
use Rattle.grasp_model_network.specs.Restarting.{MayRestart, after_restart, is_of_life, told_at, waits_for}
use Rattle.grasp_model_network.specs.Setting.{Member, Setting, member_at, numbered, script_member, script_node, script_setting}
use Rattle.grasp_model_network.specs.Streams.{Arrival, StreamEnd, StreamState, count_at_end, has_end, is_at_end, is_number, is_same_end, is_waiting, lives, told_closed}
use Rattle.grasp_model_network.specs.World.{GivenHandle, Seat, SentDatagram, WorldState, end_of, is_present, member_of, present_life, seat_at}
use Rattle.grasp_model_network.specs.declared.plan.WorldPlan.{WorldPlan}
use Rattle.grasp_model_node.specs.declared.plan.NodePlan.{NodePlan}
use Rattle.grasp_session.specs.Messages.{Side, Near, Far}
use Rattle.grasp_pool.specs.Functions.{pool_of_image}
use Rattle.grasp_pool.specs.declared.image.PoolImage.{PoolImage}
use Rattle.grasp_types.specs.declared.address.Locator.{Locator}
use Rattle.grasp_simulator.specs.Listening.{listener_from}
use Rattle.grasp_simulator.specs.Marking.{begins_as, is_below, is_marked, matches, MarksStand, WasDialled}
use Rattle.grasp_simulator.specs.PlacesStand.{PlacesStand}
use Rattle.grasp_simulator.specs.Restarts.{AreMarked, stays_noted}
use Rattle.grasp_simulator.specs.Seats.{IsPresent, SeatStands, SeatsStand}
use Rattle.grasp_simulator.specs.StreamParts.{ended_at}
use Rattle.grasp_simulator.specs.StreamsStand.{HasSides, Queueing, StreamsStand, TableStands, TalkStands, first_arrival}
use Rattle.grasp_simulator.specs.WorldStands.{GoesOn, GoesToNode, WorldKeeps, most_count, parcel_of}
use Rattle.grasp_simulator.specs.declared.marks.Mark.{Mark}
use Rattle.grasp_simulator.specs.declared.notes.Notes.{Notes}
use Rattle.grasp_simulator.specs.declared.seat.Seat.{Seat as SeatCode}
use Rattle.grasp_simulator.specs.declared.stream.LifeEnd.{LifeEnd}
use Rattle.grasp_simulator.specs.declared.stream.Stream.{Stream}
use Rattle.grasp_simulator.specs.declared.streams.Streams.{Streams}
use Rattle.grasp_simulator.specs.declared.world.World.{World}
use Rattle.grasp_simulator.proofs.Listeners.{listener_is}
use Rattle.grasp_simulator.proofs.Presence.{At, at_is, OwnSeat, own_at, got_own, life_owner}
use Rattle.grasp_simulator.proofs.StreamPlaces.{Held, held_of, far_is_odd}
use Rattle.grasp_simulator.proofs.RestartMarks.{MarkFound, mark_found, added_marked, true_below}
use Rattle.grasp_simulator.proofs.RestartStreams.{table_told, told_near, told_near_side, told_far_side, SidesThen}
use Rattle.grasp_simulator.proofs.SeatLists.{numbered_from_1}

-- ---- where a stream is

-- the stream of an end that is counted
record Counted (e : StreamEnd) (ts : List StreamState) : Type 0 where
  place : ℕ
  talk : StreamState
  stands : slice_get ts place ≡ Some talk
  has : has_end e talk ≡ true

counted_at : (e : StreamEnd) (ts : List StreamState) → count_at_end ts e ≡ 1 → Counted e ts
counted_at e [] is = absurd (omega (arith, is))
counted_at e (t ∷ ts) is = by_first (has_end e t) refl (counted_at e ts) where
  by_first : (b : Bool) → has_end e t ≡ b → (count_at_end ts e ≡ 1 → Counted e ts) → Counted e (t ∷ ts)
  by_first true has rest = record { place = 0; talk = t; stands = refl; has = has }
  by_first false has rest =
      let one : StreamState → ℕ = λ x. cond (has_end e x) 1 0 in
      let all : count_by (has_end e) (t ∷ ts) ≡ one t + count_by (has_end e) ts = sum_by-cons one t ts in
      let none : one t ≡ 0 = ap (λ b. cond b 1 0) has in
      let c : Counted e ts = rest (omega (arith, all, none, is)) in
      record { place = suc c.place; talk = c.talk; stands = c.stands; has = c.has }

every_at : {X : Type 0} (P : X → Type 0) (xs : List X) (i : ℕ) (x : X) → Every P xs → slice_get xs i ≡ Some x → P x
every_at P [] i x all got = absurd (none-some x got)
every_at P (y ∷ ys) zero x all got = subst P (same_Some y x got) all.0
every_at P (y ∷ ys) (suc i) x all got = every_at P ys i x all.1 got

every_by : {X : Type 0} (P : X → Type 0) (xs : List X) → ((i : ℕ) (x : X) → slice_get xs i ≡ Some x → P x) → Every P xs
every_by P [] all = tt
every_by P (y ∷ ys) all = (all 0 y refl, every_by P ys (λ i x got. all (suc i) x got))

planned : (p : WorldPlan) (node : ℕ) → 1 ≤ node → node ≤ p.nodes → numbered (script_setting p).members node ≡ Some (script_member p node)
unfolding script_setting
planned p node least most = numbered_from_1 (script_member p) p.nodes node least most

-- how a far side stands once the node has begun anew
far_then : (b g : Bool) (a : Arrival) → a ≡ first_arrival b → cond (is_waiting a && g) told_closed a ≡ first_arrival (b || g)
far_then b g a e = ap (λ (y : Arrival). cond (is_waiting y && g) told_closed y) e ∙ by_both b g where
  by_both : (b g : Bool) → cond (is_waiting (first_arrival b) && g) told_closed (first_arrival b) ≡ first_arrival (b || g)
  by_both true g = refl
  by_both false true = refl
  by_both false false = refl

-- an end of a stream with an even number is its near one
near_end : (streams : List Stream) (entries : List (LifeEnd × ℕ)) (begins : Queueing) (t : StreamState) (o : Option ℕ) (e : StreamEnd) → TalkStands streams entries begins t o → e.number % 2 ≡ 0 → has_end e t ≡ true → t.near ≡ e
near_end streams entries begins t o e talk even has = by_near (is_same_end e t.near) refl where
  no_far : (q : Option ℕ) → TalkStands streams entries begins t q → is_at_end e t.far ≡ false
  no_far None h = ap (is_at_end e) h.far
  no_far (Some k) h =
      let held : Held streams k t = held_of streams entries begins k t h in
      ap (is_at_end e) held.stands.far ∙ far_is_odd e.node e.number k held.code.far h.least even

  by_near : (b : Bool) → is_same_end e t.near ≡ b → t.near ≡ e
  by_near true same = sym (same_ends e t.near same)
  by_near false other =
      absurd (true≢false (sym has ∙ (ap (λ b. is_some (cond b (Some Near) (cond (is_at_end e t.far) (Some Far) None))) other ∙ ap (λ b. is_some (cond {A = Option Side} b (Some Far) None)) (no_far o talk))))

either : (a b : Bool) → (a || b) ≡ true → (a ≡ true) ⊎ (b ≡ true)
either true b is = inl refl
either false b is = inr is

-- a node's seat is the same, wherever it is read
pub seat_read : (code : World) (node i j : ℕ) (a b : SeatCode) → IsNode (length code.seats.items) node → i ≡ node - 1 → a ≡ slice_index_or code.seats.items i a → j ≡ node - 1 → b ≡ slice_index_or code.seats.items j b → a ≡ b
seat_read code node i j a b is at_i got_a at_j got_b = same_Some a b (sym (got_own code node i a is at_i got_a) ∙ (ap (λ n. slice_get code.seats.items n) (at_i ∙ sym at_j) ∙ got_own code node j b is at_j got_b))

-- ---- the code's network then

module _ (l : Grounds) (law : StreamsAreReady) (old : World) (node i : ℕ) (own next : SeatCode) (image : PoolImage) (streams : Streams) (marks : List Mark) (notes : Notes) (taken : List ℕ) (is_node : IsNode (length old.seats.items) node)
    (place : i ≡ node - 1) (got : own ≡ slice_index_or old.seats.items i own) (lives_are : taken ≡ old.lives ++ node ∷ []) (life_is : next.life ≡ length taken)
    (opened : SeatStands next (opened_seat (script_node old.plan node) (pool_of_image image))) (marked : AreMarked old.seats.items node old.marks marks)
    (told : streams.list.items ≡ map (ended_at own.life node old.plan.nodes) old.streams.list.items) (index : streams.near ≡ old.streams.near) (offers : notes.offers.items ≡ filter (stays_noted node (retired own.agent).pool) old.notes.offers.items) (accepted : notes.accepted ≡ old.notes.accepted) where
  abbrev new : World
  new = record old { seats = with_item old.seats i next; lives = taken; streams = streams; marks = marks; notes = notes }

  module _ (s : Setting) (w : WorldState) (h : GoesOn old s w) (may : MayRestart s w node image) where
    abbrev x : WorldState
    x = after_restart s w node image

    abbrev keeps : WorldKeeps old s w
    keeps = h.goes.keeps

    r : Restarting s w node image x
    r = restarting_is s w node image may

    stand : LivesStand s w
    stand = lives_are_kept s w h.goes.reached

    at_own : slice_get old.seats.items i ≡ Some own
    at_own = got_own old node i own is_node place got

    mine : OwnSeat w node own
    mine = own_at old s w node i own keeps is_node.least place at_own

    next_of : node ≡ i + 1
    next_of = let least : 1 ≤ node = is_node.least in omega (arith, least, place)

    -- ---- the seats

    count_lives : length (w.lives ++ node ∷ []) ≡ length w.seats + 1
    count_lives = length-append w.lives (node ∷ []) ∙ ap (λ (n : ℕ). n + 1) stand.count

    member_is_planned : r.member ≡ script_member old.plan node
    member_is_planned =
        same_Some r.member (script_member old.plan node)
        (sym r.found ∙ (ap (λ (q : Setting). numbered q.members node) keeps.setting ∙ planned old.plan node is_node.least (subst (λ (n : ℕ). node ≤ n) keeps.count is_node.most)))

    plan_is : r.member.plan ≡ script_node old.plan node
    plan_is = ap (λ (m : Member). m.plan) member_is_planned

    begun : IsPresent next x.seats x.lives node
    begun = record {
      life = life_is ∙ (ap (λ (l : List ℕ). length l) (lives_are ∙ ap (λ (l : List ℕ). l ++ node ∷ []) keeps.lives) ∙ (count_lives ∙ sym (restart_present s w node image x r stand)));
      own = ap (λ (n : ℕ). member_of x n) (restart_present s w node image x r stand) ∙ restart_member s w node image x r stand;
      seat = begun_seat r.member image;
      here = ap (λ (n : ℕ). seat_at x n) (restart_present s w node image x r stand) ∙ r.begun;
      stands = subst (λ (p : NodePlan). SeatStands next (opened_seat p (pool_of_image image))) (sym plan_is) opened;
    }

    others : (j : ℕ) (code : SeatCode) → j ≢ i → slice_get old.seats.items j ≡ Some code → IsPresent code x.seats x.lives (j + 1)
    others j code other at =
        let p : IsPresent code w.seats w.lives (j + 1) = keeps.seats j code at in
        let life : ℕ = present_life w (j + 1) in
        let apart : life ≢ present_life w node = λ same. (let e : j + 1 ≡ node = sym p.own ∙ (ap (λ (n : ℕ). member_of w n) same ∙ mine.member) in other (omega (arith, e, next_of))) in
        let member : member_of x life ≡ j + 1 = restart_members s w node image x r stand life p.seat p.here ∙ p.own in
        let still : is_present x life ≡ true = restart_still_present s w node image x r stand life p.seat p.here apart ∙ present_is w (j + 1) p.own in
        let same : life ≡ present_life x (j + 1) = is_present_life x life still ∙ ap (λ (n : ℕ). present_life x n) member in
        record {
          life = p.life ∙ same;
          own = ap (λ (n : ℕ). member_of x n) (sym same) ∙ member;
          seat = p.seat;
          here = ap (λ (n : ℕ). seat_at x n) (sym same) ∙ r.stays life p.seat apart p.here;
          stands = p.stands;
        }

    seats_then : SeatsStand (slice_set old.seats.items i next) x.seats x.lives
    seats_then j code at = by_place (cases_eq j i) where
      by_place : (j ≡ i) ⊎ (j ≡ i → ⊥) → IsPresent code x.seats x.lives (j + 1)
      by_place (inl same) =
          let is : next ≡ code = same_Some next code (sym (set_here old.seats.items i own next at_own) ∙ (ap (slice_get (slice_set old.seats.items i next)) (sym same) ∙ at)) in
          subst (λ (n : ℕ). IsPresent code x.seats x.lives n) (next_of ∙ ap (λ (n : ℕ). n + 1) (sym same)) (subst (λ (c : SeatCode). IsPresent c x.seats x.lives node) is begun)
      by_place (inr other) = others j code other (sym (set_elsewhere old.seats.items i j next other) ∙ at)

    -- ---- the streams

    listens : (to : Locator) → listener_from 1 old.plan.nodes to ≡ member_at s to
    listens to = listener_is old.plan to ∙ ap (λ (q : Setting). member_at q to) (sym keeps.setting)

    -- the code's seat of a life that is present
    record Owner (life : ℕ) : Type 0 where
      at : ℕ
      code : SeatCode
      there : slice_get old.seats.items at ≡ Some code
      is : code.life ≡ life
      seat : Seat
      here : seat_at w life ≡ Some seat
      stands : SeatStands code seat

    owner : (life : ℕ) → IsNode (length w.seats) life → is_present w life ≡ true → Owner life
    owner life within present =
        let there = numbered_there w.seats life within in
        let known = life_owner old s w life there.0 h.goes there.1 in
        let m : ℕ = member_of w life in
        let least : 1 ≤ m = known.1.least in
        let most : m ≤ length old.seats.items = known.1.most in
        let found : At old.seats.items (m - 1) = at_is old.seats.items (m - 1) (omega (arith, least, most)) in
        let seat : OwnSeat w m found.it = own_at old s w m (m - 1) found.it keeps least refl found.got in
        let same : life ≡ present_life w m = is_present_life w life present in
        record {
          at = m - 1;
          code = found.it;
          there = found.got;
          is = seat.life ∙ sym same;
          seat = seat.seat;
          here = ap (λ (n : ℕ). seat_at w n) same ∙ seat.here;
          stands = seat.stands;
        }

    sides : (t : StreamState) → HasGoodEnds s (length w.seats) w.dials t.near t.number t.far → ((n : ℕ) (seat : Seat) → seat_at w n ≡ Some seat → t.near.node ≡ n → t.near.number < 2 * seat.core.streams.dialled)
        → SidesThen s own.life node old.plan.nodes listens old.streams.list.items old.streams.near.entries (begins_as w.lives old.marks old.plan.nodes) (begins_as x.lives marks old.plan.nodes) t
    sides t ends below queued = by_here (is_present x t.near.node) refl where
      nodes : ℕ
      nodes = old.plan.nodes

      by_here : (b : Bool) → is_present x t.near.node ≡ b
          → HasSides (cond b (Some (is_marked marks nodes t.near t.to)) None) (told_at s node own.life t).near_side (told_at s node own.life t).far_side
      by_here false gone = tt
      by_here true present = (near_side, far_side) where
        there : (y : Seat) × (seat_at w t.near.node ≡ Some y)
        there = numbered_there w.seats t.near.node ends.member

        was : (is_present w t.near.node ≡ true) × (member_of w t.near.node ≢ node)
        was = restart_was_present s w node image x r stand t.near.node there.0 there.1 present

        before : HasSides (Some (is_marked old.marks nodes t.near t.to)) t.near_side t.far_side
        before = subst (λ b. HasSides (cond b (Some (is_marked old.marks nodes t.near t.to)) None) t.near_side t.far_side) was.0 queued.sides

        apart : (t.near.node == own.life) ≡ false
        apart = ne_eqb t.near.node own.life (λ same. was.1 (ap (λ (n : ℕ). member_of w n) (same ∙ mine.life) ∙ mine.member))

        near_side : (told_at s node own.life t).near_side ≡ lives
        near_side = told_near_side s own.life node nodes listens t ∙ (ap (λ b. cond b told_closed t.near_side) apart ∙ before.0)

        o : Owner t.near.node
        o = owner t.near.node ends.member was.0

        new_marks : is_marked marked.added nodes t.near t.to ≡ is_number node (member_at s t.to)
        new_marks =
            (let less : t.near.number < 2 * o.seat.core.streams.dialled = below t.near.node o.seat o.here refl in
            added_marked node nodes old.seats.items marked.added t.near t.to o.at o.code o.seat.core marked.each o.there o.is o.stands.core (omega (arith, less)))
            ∙ ap (is_number node) (listens t.to)

        all_marks : is_marked marks nodes t.near t.to ≡ (is_marked old.marks nodes t.near t.to || is_number node (member_at s t.to))
        all_marks =
            ap (λ (ms : List Mark). is_marked ms nodes t.near t.to) marked.are
            ∙ (list_any-append (matches t.near nodes t.to) old.marks marked.added ∙ ap (λ b. is_marked old.marks nodes t.near t.to || b) new_marks)

        far_side : (told_at s node own.life t).far_side ≡ first_arrival (is_marked marks nodes t.near t.to)
        far_side =
            told_far_side s own.life node nodes listens t
            ∙ (ap (λ (e : Option StreamEnd). cond (is_of_life own.life e || waits_for s node t) told_closed t.far_side) queued.far
            ∙ (far_then (is_marked old.marks nodes t.near t.to) (is_number node (member_at s t.to)) t.far_side before.1 ∙ ap first_arrival (sym all_marks)))

    each_sides : Every (SidesThen s own.life node old.plan.nodes listens old.streams.list.items old.streams.near.entries (begins_as w.lives old.marks old.plan.nodes) (begins_as x.lives marks old.plan.nodes)) w.streams
    each_sides =
        every_by _ w.streams
        (λ k t at. sides t (every_at _ w.streams k t (law.ends s w h.goes.reached) at) (λ n seat here. every_at _ w.streams k t (law.next s w h.goes.reached n seat here) at))

    streams_are : map (told_at s node own.life) w.streams ≡ x.streams
    streams_are = ap (λ (n : ℕ). map (told_at s node n) w.streams) mine.life ∙ sym r.streams

    streams_then : StreamsStand streams (begins_as x.lives marks old.plan.nodes) x.streams x.dials
    streams_then =
        subst (λ (n : ℕ). TableStands streams.list.items streams.near.entries (begins_as x.lives marks old.plan.nodes) x.streams n) (sym r.dials)
        (subst (λ (ts : List StreamState). TableStands streams.list.items streams.near.entries (begins_as x.lives marks old.plan.nodes) ts w.dials) streams_are
        (subst (λ (l : List Stream). TableStands l streams.near.entries (begins_as x.lives marks old.plan.nodes) (map (told_at s node own.life) w.streams) w.dials) (sym told)
        (subst (λ (es : List (LifeEnd × ℕ)). TableStands (map (ended_at own.life node old.plan.nodes) old.streams.list.items) es (begins_as x.lives marks old.plan.nodes) (map (told_at s node own.life) w.streams) w.dials) (ap (λ m. m.entries) (sym index))
        (table_told s own.life node old.plan.nodes listens old.streams.list.items old.streams.near.entries (begins_as w.lives old.marks old.plan.nodes) (begins_as x.lives marks old.plan.nodes) w.streams w.dials each_sides keeps.streams))))

    -- ---- the marks

    dialled_still : (e : StreamEnd) → WasDialled w.streams e → WasDialled x.streams e
    dialled_still e d =
        subst (λ (ts : List StreamState). WasDialled ts e) streams_are
        (record {
          place = d.place;
          talk = told_at s node own.life d.talk;
          stands = slice_map (told_at s node own.life) w.streams d.place d.talk d.stands;
          near = told_near s own.life node old.plan.nodes listens d.talk ∙ d.near;
        })

    newly : (e : StreamEnd) → e.number % 2 ≡ 0 → list_any (is_below e) marked.added ≡ true → WasDialled w.streams e
    newly e even below =
        let f : MarkFound node old.seats.items (is_below e) = mark_found node old.seats.items marked.added (is_below e) marked.each below in
        let seat : OwnSeat w (f.place + 1) f.code = own_at old s w (f.place + 1) f.place f.code keeps (omega arith) (omega arith) f.got in
        let a = and_parts (f.mark.life == e.node) (nat_lt (e.number / 2) f.mark.dialled) f.says in
        let life : e.node ≡ present_life w (f.place + 1) = sym (eqb-true f.mark.life e.node a.0) ∙ (f.is.life ∙ seat.life) in
        let less : e.number / 2 < seat.seat.core.streams.dialled = subst (λ (n : ℕ). e.number / 2 < n) (f.is.dialled seat.seat.core seat.stands.core) (true_below (e.number / 2) f.mark.dialled a.1) in
        let twice : 2 * (e.number / 2) ≡ e.number = omega (arith, even) in
        let end : end_of (present_life w (f.place + 1)) (2 * (e.number / 2)) ≡ e = ap (λ (n : ℕ). end_of n (2 * (e.number / 2))) (sym life) ∙ ap (λ (n : ℕ). end_of e.node n) twice in
        let one : count_at_end w.streams e ≡ 1 = ap (λ (q : StreamEnd). count_at_end w.streams q) (sym end) ∙ law.nears s w h.goes.reached (present_life w (f.place + 1)) seat.seat seat.here (e.number / 2) less in
        let c : Counted e w.streams = counted_at e w.streams one in
        record {
          place = c.place;
          talk = c.talk;
          stands = c.stands;
          near = near_end old.streams.list.items old.streams.near.entries (begins_as w.lives old.marks old.plan.nodes) c.talk c.talk.number e (every_at _ w.streams c.place c.talk keeps.streams.each c.stands) even c.has;
        }

    marks_then : MarksStand marks x.streams
    marks_then e even below = dialled_still e (by_part (either (list_any (is_below e) old.marks) (list_any (is_below e) marked.added) parts)) where
      parts : (list_any (is_below e) old.marks || list_any (is_below e) marked.added) ≡ true
      parts = sym (list_any-append (is_below e) old.marks marked.added) ∙ (ap (list_any (is_below e)) (sym marked.are) ∙ below)

      by_part : (list_any (is_below e) old.marks ≡ true) ⊎ (list_any (is_below e) marked.added ≡ true) → WasDialled w.streams e
      by_part (inl f) = keeps.marks e even f
      by_part (inr f) = newly e even f

    -- ---- all of it

    keeps_then : WorldKeeps new s x
    keeps_then = record {
      good = keeps.good;
      setting = keeps.setting;
      count = length-set old.seats.items i next ∙ keeps.count;
      seats = seats_then;
      lives = lives_are ∙ (ap (λ (l : List ℕ). l ++ node ∷ []) keeps.lives ∙ sym r.lives);
      streams = streams_then;
      marks = marks_then;
      parcels = keeps.parcels ∙ ap (map parcel_of) (sym r.datagrams);
      receivers = subst (λ (l : List SentDatagram). All (GoesToNode old.plan.nodes) l) (sym r.datagrams) keeps.receivers;
      places = subst (λ (l : List GivenHandle). PlacesStand old.places l) (sym r.handles) keeps.places;
      sent = keeps.sent ∙ ap (λ (n : ℕ). min n most_count) (sym r.byte_count);
      goes = keeps.goes;
    }

    pub restarts : GoesOn new s x
    restarts = record {
      goes = record { reached = restarted_reached s w node image h.goes.reached may; keeps = keeps_then };
      remembers = restart_remembers l s w node image h.goes.reached may mine.seat mine.here old.notes notes
          (offers ∙ ap (λ (a : AgentState). filter (stays_noted node (retired a).pool) old.notes.offers.items) mine.stands.agent) accepted h.remembers;
    }
