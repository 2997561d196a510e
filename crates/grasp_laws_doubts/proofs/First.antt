-- The first network of doubters: turns lead to it, and its doubters, which have seen nothing, stand with it.
use Rattle.std.proofs.Common.{◌≡◌, ◌≢◌, ◌⊎◌, inl, inr, refl, sym, ap, ◌∙◌, subst, arith, ℕ, zero, suc, ◌+◌, ◌-◌, ◌<◌, ◌≤◌, nat_lt, ◌&&◌, Bool, true, false, List, [], ◌∷◌, ◌++◌, length, map, fold, Contains, Option, None, Some, Ok, option_map, slice_get, slice_set}
use Rattle.std.proofs.lemmas.Bool.{and_parts, cases_eq, ltb-true}
use Rattle.std.proofs.lemmas.List.{length-map}
use Rattle.std.proofs.lemmas.Option.{none-some, same_Some}
use Rattle.std.proofs.lemmas.Str.{IsUtf8-from_ascii}
use Rattle.std.proofs.lemmas.Str.Ascii.{IsAscii-nil}
use Rattle.std.specs.Prelude.{slice_index}
use Rattle.std.specs.Str.{IsAscii, IsUtf8}
use Rattle.grasp_doubter.specs.Questions.{doubt_name, doubter_name}
use Rattle.grasp_doubter.specs.States.{DoubterState, first_doubter}
use Rattle.grasp_doubter.specs.declared.asking.Ask.{Ask}
use Rattle.grasp_pool.specs.Functions.{pool_of}
use Rattle.grasp_session.specs.Runs.{WasMade}
use Rattle.grasp_session.specs.Sessions.{SessionState, Sessions, no_sessions}
use Rattle.grasp_types.specs.declared.address.Address.{Address}
use Rattle.grasp_types.specs.declared.call.Call.{Call}
use Rattle.grasp_types.specs.declared.call.Call.TheVariants as call
use Rattle.grasp_types.specs.declared.reply.ApiAnswer.{ApiAnswer}
use Rattle.grasp_types.specs.declared.reply.ApiAnswer.TheVariants as answer
use Rattle.grasp_types.specs.declared.reply.Reply.TheVariants as reply
use Rattle.grasp_types.specs.declared.traffic.Input.TheVariants as input
use Rattle.grasp_model_node.specs.Begin.{begin}
use Rattle.grasp_model_node.specs.Node.{NodeState}
use Rattle.grasp_model_node.specs.Step.{NodeStep, after_call}
use Rattle.grasp_model_node.specs.declared.plan.NodePlan.{NodePlan}
use Rattle.grasp_model_network.proofs.Facts.{first_reached}
use Rattle.grasp_model_network.specs.EventSteps.{after_agent_call}
use Rattle.grasp_model_network.specs.Events.{Occurs, after_event, visit_of}
use Rattle.grasp_model_network.specs.GoodSetting.{IsGoodSetting}
use Rattle.grasp_model_network.specs.Notes.{noted}
use Rattle.grasp_model_network.specs.Openings.{first_seat, opened_seat}
use Rattle.grasp_model_network.specs.Plans.{IsNode}
use Rattle.grasp_model_network.specs.Ranges.{IsCall}
use Rattle.grasp_model_network.specs.Runs.{IsReached, first_world}
use Rattle.grasp_model_network.specs.Sending.{seat_with, stepped}
use Rattle.grasp_model_network.specs.Setting.{Member, Setting, numbered, numbers_from}
use Rattle.grasp_model_network.specs.Visits.{Choice, MayCome, Visit, VisitStep, no_choice, visit_seat}
use Rattle.grasp_model_network.specs.World.{Seat, WorldState, is_too_much, member_of, most_bytes, present_life, seat_at}
use Rattle.grasp_model_network.specs.declared.event.Event.{Event}
use Rattle.grasp_model_network.specs.declared.event.Event.TheVariants as event
use Rattle.grasp_model_doubts.specs.Openings.{OpeningCall, after_opening, after_opening_call, first_doubts, having_called, opening_calls, opening_choice, opening_event}
use Rattle.grasp_model_doubts.specs.World.{present_seat}
use Rattle.grasp_laws_delivery.proofs.InRange.Networks.{real_plan}
use Rattle.grasp_laws_floods.specs.Sought.{AddressesTellNodes}
use Rattle.grasp_laws_network.proofs.Appended.{get_numbered, numbered_get}
use Rattle.grasp_laws_network.proofs.EachNode.{IsMade, is_made}
use Rattle.grasp_laws_network.proofs.Going.{reached_more}
use Rattle.grasp_laws_network.proofs.Here.{numbered_within}
use Rattle.grasp_laws_network.proofs.Lists.{numbered_put, numbered_there}
use Rattle.grasp_laws_network.proofs.Lives.{first_count, first_member, first_present, same_member, same_present}
use Rattle.grasp_laws_network.proofs.LivesKept.{lives_are_kept}
use Rattle.grasp_laws_network.proofs.Others.{put_elsewhere}
use Rattle.grasp_laws_network.proofs.SameLives.{event_lives}
use Rattle.grasp_laws_network.proofs.Staying.{put_here}
use Rattle.grasp_laws_owned.specs.Owned.{AreOwnedBy}
use Rattle.grasp_laws_prefixes.proofs.FirstPrefixes.{IsFirst, is_first}
use Rattle.grasp_laws_prefixes.proofs.Listing.{none_in}
use Rattle.grasp_laws_questions.specs.Opening.{IsAnsweredSo, QuestionsBegin, QuestionsOpen, called, declared, listening, opened, registered}
use Rattle.grasp_laws_session.proofs.Runs.{none_live}
use Rattle.grasp_laws_doubts.proofs.Doubted.{DoubtersStand}
use Rattle.grasp_laws_doubts.proofs.Parts.{after_is}
use Rattle.grasp_laws_doubts.specs.Standing.{ServeStand, ServesDoubts}

-- ---- one call

abbrev all_small : List ℕ → Bool
all_small [] = true
all_small (b ∷ bs) = nat_lt b 128 && all_small bs

small_ascii : (bs : List ℕ) → all_small bs ≡ true → IsAscii bs
small_ascii [] e i = IsAscii-nil i
small_ascii (b ∷ bs) e i = by_place i (and_parts (nat_lt b 128) (all_small bs) e) (small_ascii bs) where
  by_place : (j : ℕ) → (nat_lt b 128 ≡ true) × (all_small bs ≡ true) → (all_small bs ≡ true → IsAscii bs) → slice_index (b ∷ bs) j < 128
  by_place zero t rest = ltb-true b 128 t.0
  by_place (suc j) t rest = rest t.1 j

doubt_utf8 : IsUtf8 doubt_name
unfolding doubt_name
doubt_utf8 = IsUtf8-from_ascii doubt_name (small_ascii doubt_name refl)

-- the network once the member of this number has made a call, which was answered so
pub record HasCalled (s : Setting) (w y : WorldState) (node : ℕ) (seat : Seat) (o : OpeningCall) : Type 0 where
  pub reached : IsReached s y
  pub lives : y.lives ≡ (first_world s).lives
  pub bytes : y.byte_count ≡ 0
  pub settled : y.settled ≡ w.settled
  pub seats : y.seats ≡ slice_set w.seats (node - 1) (seat_with (called seat.core o.asa o.call o.answer) seat.agent)

module _ (s : Setting) (w : WorldState) (r : IsReached s w) (lives : w.lives ≡ (first_world s).lives) (bytes : w.byte_count ≡ 0) (node : ℕ) (is : IsNode (length s.members) node) (seat : Seat) (here : seat_at w node ≡ Some seat)
    (o : OpeningCall) (other : o.asa ≢ 1) (fits : IsCall o.call) (step : NodeStep seat.core seat.core.reading (input.Api o.asa o.call) no_choice.coming (reply.Api o.answer) (called seat.core o.asa o.call o.answer)) where
  abbrev e : Event
  e = opening_event node o

  abbrev c : Choice
  c = opening_choice seat o

  present : present_life w node ≡ node
  present = same_present (first_world s) w node lives ∙ first_present s node is

  at : seat_at w (present_life w node) ≡ Some seat
  at = ap (λ m. seat_at w m) present ∙ here

  abbrev v : Visit
  v = record { node = present_life w node; seat = seat; now = seat.core.reading; input = input.Api o.asa o.call }

  visit_is : visit_of s w e ≡ Some v
  visit_is = ap (λ x. visit_seat (present_life w node) (input.Api o.asa o.call) x) at

  abbrev y : WorldState
  y = after_agent_call w v o.asa o.call c

  after : after_event s w e c ≡ y
  after = after_is s w e c v visit_is

  y_bytes : y.byte_count ≡ w.byte_count
  unfolding after_agent_call noted stepped
  y_bytes = refl

  y_settled : y.settled ≡ w.settled
  unfolding after_agent_call noted stepped
  y_settled = refl

  y_seats : y.seats ≡ slice_set w.seats (present_life w node - 1) (seat_with c.after seat.agent)
  unfolding after_agent_call noted stepped
  y_seats = refl

  enough : is_too_much (after_event s w e c) ≡ false
  enough = ap (λ (z : WorldState). is_too_much z) after ∙ ap (λ n. nat_lt most_bytes n) (y_bytes ∙ bytes)

  occurs : Occurs s w e c
  occurs = record { fit = (is, other, fits); comes = subst (λ x. MayCome x c) (sym visit_is) (record { steps = step; fed = refl }); enough = enough }

  has_called : HasCalled s w (after_event s w e c) node seat o
  has_called = record {
    reached = reached_more s w e c r occurs;
    lives = event_lives s w e c ∙ lives;
    bytes = ap (λ (z : WorldState). z.byte_count) after ∙ (y_bytes ∙ bytes);
    settled = ap (λ (z : WorldState). z.settled) after ∙ y_settled;
    seats = ap (λ (z : WorldState). z.seats) after ∙ (y_seats ∙ ap (λ m. slice_set w.seats (m - 1) (seat_with c.after seat.agent)) present);
  }

  pub opening_called : HasCalled s w (after_opening_call s node w o) node seat o
  unfolding after_opening_call
  opening_called = subst (λ x. HasCalled s w (having_called s node w o x) node seat o) (sym at) has_called

-- ---- the calls of one member after the other

-- the doubters of the members below this number have made their calls
pub record OpensBelow (s : Setting) (k : ℕ) (w : WorldState) : Type 0 where
  pub reached : IsReached s w
  pub lives : w.lives ≡ (first_world s).lives
  pub bytes : w.byte_count ≡ 0
  pub settled : w.settled ≡ []
  pub seats : (node : ℕ) (seat : Seat) → seat_at w node ≡ Some seat → (m : Member) × (numbered s.members node ≡ Some m) × (node < k → seat ≡ seat_with (listening (first_seat m).core) (first_seat m).agent)
      × (k ≤ node → seat ≡ first_seat m)

module _ (questions : QuestionsBegin) (s : Setting) (good : IsGoodSetting s) where
  first_opens : OpensBelow s 1 (first_world s)
  unfolding first_world
  first_opens = record { reached = first_reached s good; lives = refl; bytes = refl; settled = refl; seats = seats } where
    seats : (node : ℕ) (seat : Seat) → seat_at (first_world s) node ≡ Some seat → (m : Member) × (numbered s.members node ≡ Some m) × (node < 1 → seat ≡ seat_with (listening (first_seat m).core) (first_seat m).agent)
        × (1 ≤ node → seat ≡ first_seat m)
    seats node seat here =
        let f : IsFirst s node seat = is_first s node seat here in
        (f.member, get_numbered s.members node (Some f.member) f.least f.stands, (λ less. absurd (let least = f.least in omega (arith, least, less))), (λ least. f.made))

  module _ (k : ℕ) (w : WorldState) (b : OpensBelow s k w) (is : IsNode (length s.members) k) where
    count : length w.seats ≡ length s.members
    count = sym (lives_are_kept s w b.reached).count ∙ (ap (λ ls. length ls) b.lives ∙ first_count s)

    here : (seat : Seat) × (seat_at w k ≡ Some seat)
    here = numbered_there w.seats k (subst (λ n. IsNode n k) (sym count) is)

    member : (m : Member) × (numbered s.members k ≡ Some m) × (k < k → here.0 ≡ seat_with (listening (first_seat m).core) (first_seat m).agent) × (k ≤ k → here.0 ≡ first_seat m)
    member = b.seats k here.0 here.1

    abbrev m : Member
    m = member.0

    made : here.0 ≡ first_seat m
    made = member.3 (omega arith)

    opens : QuestionsOpen m.plan (pool_of m.roots) no_choice.coming
    opens = questions m.plan (pool_of m.roots) no_choice.coming

    first : seat_at w k ≡ Some (first_seat m)
    first = here.1 ∙ ap (λ z. Some z) made

    abbrev call_1 : OpeningCall
    call_1 = record { asa = 0; call = call.RegisterAsa doubter_name; answer = answer.Asa 2 }

    abbrev call_2 : OpeningCall
    call_2 = record { asa = 2; call = call.RegisterObjective doubt_name 2; answer = answer.Done }

    abbrev call_3 : OpeningCall
    call_3 = record { asa = 2; call = call.ListenNegotiate doubt_name; answer = answer.NotYet }

    abbrev w_1 : WorldState
    w_1 = after_opening_call s k w call_1

    abbrev seat_1 : Seat
    seat_1 = seat_with (registered (first_seat m).core) (first_seat m).agent

    h_1 : HasCalled s w w_1 k (first_seat m) call_1
    h_1 = opening_called s w b.reached b.lives b.bytes k is (first_seat m) first call_1 (λ f. absurd (omega (arith, f))) tt opens.registers

    at_1 : seat_at w_1 k ≡ Some seat_1
    at_1 = ap (λ xs. numbered xs k) h_1.seats ∙ put_here w.seats k (first_seat m) seat_1 first

    abbrev w_2 : WorldState
    w_2 = after_opening_call s k w_1 call_2

    abbrev seat_2 : Seat
    seat_2 = seat_with (declared (first_seat m).core) (first_seat m).agent

    h_2 : HasCalled s w_1 w_2 k seat_1 call_2
    h_2 = opening_called s w_1 h_1.reached h_1.lives h_1.bytes k is seat_1 at_1 call_2 (λ f. absurd (omega (arith, f))) (doubt_utf8, omega arith) opens.declares

    at_2 : seat_at w_2 k ≡ Some seat_2
    at_2 = ap (λ xs. numbered xs k) h_2.seats ∙ put_here w_1.seats k seat_1 seat_2 at_1

    abbrev w_3 : WorldState
    w_3 = after_opening_call s k w_2 call_3

    abbrev seat_3 : Seat
    seat_3 = seat_with (listening (first_seat m).core) (first_seat m).agent

    h_3 : HasCalled s w_2 w_3 k seat_2 call_3
    h_3 = opening_called s w_2 h_2.reached h_2.lives h_2.bytes k is seat_2 at_2 call_3 (λ f. absurd (omega (arith, f))) tt opens.listens

    at_3 : seat_at w_3 k ≡ Some seat_3
    at_3 = ap (λ xs. numbered xs k) h_3.seats ∙ put_here w_2.seats k seat_2 seat_3 at_2

    elsewhere : (n : ℕ) → n ≢ k → seat_at w_3 n ≡ seat_at w n
    elsewhere n apart =
        ap (λ xs. numbered xs n) h_3.seats
        ∙ (put_elsewhere w_2.seats k n seat_3 is.least apart
        ∙ (ap (λ xs. numbered xs n) h_2.seats
        ∙ (put_elsewhere w_1.seats k n seat_2 is.least apart ∙ (ap (λ xs. numbered xs n) h_1.seats ∙ put_elsewhere w.seats k n seat_1 is.least apart))))

    next_opens : OpensBelow s (k + 1) (after_opening s w k)
    unfolding after_opening
    next_opens = record { reached = h_3.reached; lives = h_3.lives; bytes = h_3.bytes; settled = h_3.settled ∙ (h_2.settled ∙ (h_1.settled ∙ b.settled)); seats = seats } where
      seats : (node : ℕ) (seat : Seat) → seat_at w_3 node ≡ Some seat → (j : Member) × (numbered s.members node ≡ Some j) × (node < k + 1 → seat ≡ seat_with (listening (first_seat j).core) (first_seat j).agent)
          × (k + 1 ≤ node → seat ≡ first_seat j)
      seats node seat found = by_node (cases_eq node k) where
        by_node : (node ≡ k) ⊎ (node ≡ k → ⊥) → (j : Member) × (numbered s.members node ≡ Some j) × (node < k + 1 → seat ≡ seat_with (listening (first_seat j).core) (first_seat j).agent)
            × (k + 1 ≤ node → seat ≡ first_seat j)
        by_node (inl same) = (
          m,
          ap (λ n. numbered s.members n) same ∙ member.1,
          λ less. same_Some seat seat_3 (sym found ∙ (ap (λ n. seat_at w_3 n) same ∙ at_3)),
          λ more. absurd (omega (arith, same, more)),
        )
        by_node (inr apart) =
            let f = b.seats node seat (sym (elsewhere node apart) ∙ found) in
            (f.0, f.1, (λ less. f.2 (below node k less apart)), (λ more. f.3 (above node k more))) where
              below : (n i : ℕ) → n < i + 1 → (n ≡ i → ⊥) → n < i
              below n i less differs = omega arith

              above : (n i : ℕ) → i + 1 ≤ n → i ≤ n
              above n i more = omega arith

  all_open : (k n : ℕ) (w : WorldState) → 1 ≤ k → k + n ≡ length s.members + 1 → OpensBelow s k w → OpensBelow s (length s.members + 1) (fold (after_opening s) w (numbers_from k n))
  unfolding numbers_from
  all_open k zero w least sum b = subst (λ j. OpensBelow s j w) (let e = sum in omega (arith, e)) b
  all_open k (suc n) w least sum b =
      all_open (k + 1) n (after_opening s w k) (omega arith) (omega (arith, sum)) (next_opens k w b (record { least = least; most = let e = sum in omega (arith, e) }))

  -- ---- the first network

  last : OpensBelow s (length s.members + 1) (first_doubts s).world
  unfolding first_doubts
  last = all_open 1 (length s.members) (first_world s) (omega arith) (omega arith) first_opens

  -- nothing was settled
  pub first_settled : (first_doubts s).world.settled ≡ []
  first_settled = last.settled

  open_at : (node : ℕ) (seat : Seat) → seat_at (first_doubts s).world node ≡ Some seat → (m : Member) × (numbered s.members node ≡ Some m) × (seat ≡ seat_with (listening (first_seat m).core) (first_seat m).agent)
  open_at node seat here =
      let f = last.seats node seat here in
      let within = numbered_within s.members node f.0 f.1 in
      (f.0, f.1, f.2 (let most : node ≤ length s.members = within.most in omega (arith, most)))

  none_made : {A : Type 0} (x : SessionState) → WasMade no_sessions x → A
  none_made x (inl i) = absurd (none_live 64 i.0 x i.1)
  none_made x (inr c) = absurd (none_in x c)

  sessions_none : (node : ℕ) (seat : Seat) → seat_at (first_doubts s).world node ≡ Some seat → seat.core.sessions ≡ no_sessions
  sessions_none node seat here =
      let f = open_at node seat here in ap (λ (z : Seat). z.core.sessions) f.2 ∙ (questions f.0.plan (pool_of f.0.roots) no_choice.coming).sessions

  serve : ServeStand (first_doubts s).world
  serve node seat here =
      let f = open_at node seat here in
      subst (λ (z : Seat). ServesDoubts z.core) (sym f.2)
      (record {
        serves = (questions f.0.plan (pool_of f.0.roots) no_choice.coming).serves;
        owned = λ x made. none_made x (subst (λ z. WasMade z x) (questions f.0.plan (pool_of f.0.roots) no_choice.coming).sessions made);
      })

  doubter_at : (node : ℕ) (d : DoubterState) → numbered (first_doubts s).doubters node ≡ Some d → (m : Member) × (numbered s.members node ≡ Some m) × (d ≡ first_doubter m.plan.address)
  unfolding first_doubts
  doubter_at node d is =
      let made : IsMade (λ (m : Member). first_doubter m.plan.address) s.members (node - 1) d = is_made (λ (m : Member). first_doubter m.plan.address) s.members (node - 1) d (numbered_get (map (λ (m : Member). first_doubter m.plan.address) s.members) node d is) in
      (made.of, get_numbered s.members node (Some made.of) (numbered_within (map (λ (m : Member). first_doubter m.plan.address) s.members) node d is).least made.stands, sym made.made)

  doubter_count : length (first_doubts s).doubters ≡ length s.members
  unfolding first_doubts
  doubter_count = length-map s.members (λ (m : Member). first_doubter m.plan.address)

  module _ (tells : AddressesTellNodes) where
    own_member : (node : ℕ) (seat : Seat) → seat_at (first_doubts s).world node ≡ Some seat → member_of (first_doubts s).world node ≡ node
    own_member node seat here =
        let f = open_at node seat here in same_member (first_world s) (first_doubts s).world node last.lives ∙ first_member s node (numbered_within s.members node f.0 f.1)

    empty : {A : Type 0} (node : ℕ) (d : DoubterState) → numbered (first_doubts s).doubters node ≡ Some d → {x : A} → (xs : DoubterState → List A) → ((a : Address) → xs (first_doubter a) ≡ []) → Contains (xs d) x → ⊥
    empty node d is {x} xs none has =
        let f = doubter_at node d is in none_in x (subst (λ l. Contains l x) (ap xs f.2 ∙ none f.0.plan.address) has)

    pub first_stands : IsReached s (first_doubts s).world × DoubtersStand s (first_doubts s).world (first_doubts s).doubters
    first_stands = (
      last.reached,
      record {
        lives = last.lives;
        count = doubter_count;
        addresses = λ node seat here d is.
            let f = open_at node seat here in
            let g = doubter_at node d is in
            ap (λ (z : DoubterState). z.address) g.2
            ∙ (ap (λ (m : Member). m.plan.address) (same_Some g.0 f.0 (sym g.1 ∙ f.1))
            ∙ sym (ap (λ (z : Seat). z.core.plan.address) f.2 ∙ ap (λ (p : NodePlan). p.address) (questions f.0.plan (pool_of f.0.roots) no_choice.coming).plan_is));
        plans = record {
          ranges = λ node seat here. (real_plan s (first_doubts s).world last.reached node seat here).address;
          apart = λ n m x z at_n at_m same. sym (own_member n x at_n) ∙ (tells s (first_doubts s).world last.reached n m x z at_n at_m same ∙ own_member m z at_m);
        };
        serve = serve;
        accepted = λ node seat here d is x o p gone own out offer. none_made x (inr (subst (λ (z : Sessions). Contains z.gone x) (sessions_none node seat here) gone));
        openers = λ node seat here d is o has. absurd (empty node d is (λ e. e.openers) (λ a. refl) has);
        sent = λ node seat here d is o has. absurd (empty node d is (λ e. e.offered) (λ a. refl) has);
        asked = λ node seat here d is k ask. absurd (none_asked node d is k ask);
        asks = λ node seat here d is k h ask session. absurd (none_asked node d is k ask);
      },
    ) where
      none_asked : (node : ℕ) (d : DoubterState) → numbered (first_doubts s).doubters node ≡ Some d → (k : Ask) → d.ask ≡ Some k → ⊥
      none_asked node d is k ask = let f = doubter_at node d is in none-some k (sym (ap (λ (z : DoubterState). z.ask) f.2) ∙ ask)
