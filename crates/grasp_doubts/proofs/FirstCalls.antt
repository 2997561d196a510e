-- The opening calls of doubters, made one node after the other.
use Rattle.std.proofs.Common.{◌≡◌, ◌≢◌, refl, sym, ap, ◌∙◌, subst, arith, ℕ, zero, suc, ◌+◌, ◌≤◌, nat_lt, false, List, [], ◌∷◌, length, fold, Some}
use Rattle.std.proofs.lemmas.List.Sums.{fold-append}
use Rattle.grasp_doubter.specs.Questions.{doubt_name, doubter_name}
use Rattle.grasp_pool.specs.Functions.{pool_of}
use Rattle.grasp_types.specs.declared.call.Call.TheVariants as call
use Rattle.grasp_types.specs.declared.reply.ApiAnswer.TheVariants as answer
use Rattle.grasp_types.specs.declared.reply.Reply.TheVariants as reply
use Rattle.grasp_types.specs.declared.traffic.Input.TheVariants as input
use Rattle.grasp_model_node.specs.Step.{NodeStep}
use Rattle.grasp_model_network.proofs.Facts.{first_reached}
use Rattle.grasp_model_network.specs.EventSteps.{after_agent_call}
use Rattle.grasp_model_network.specs.Events.{Occurs, after_event, visit_of}
use Rattle.grasp_model_network.specs.GoodSetting.{IsGoodSetting}
use Rattle.grasp_model_network.specs.Notes.{noted}
use Rattle.grasp_model_network.specs.Openings.{first_seat}
use Rattle.grasp_model_network.specs.Plans.{IsNode}
use Rattle.grasp_model_network.specs.Ranges.{IsCall}
use Rattle.grasp_model_network.specs.Runs.{IsReached, first_world}
use Rattle.grasp_model_network.specs.Sending.{seat_with, stepped}
use Rattle.grasp_model_network.specs.Setting.{Member, Setting, numbered, numbers_from}
use Rattle.grasp_model_network.specs.Visits.{Choice, MayCome, Visit, no_choice, visit_seat}
use Rattle.grasp_model_network.specs.World.{Seat, WorldState, is_too_much, most_bytes, present_life, seat_at}
use Rattle.grasp_model_network.specs.declared.event.Event.{Event}
use Rattle.grasp_model_doubts.specs.Openings.{OpeningCall, after_opening, after_opening_call, opening_choice, opening_event}
use Rattle.grasp_model_doubts.specs.World.{present_seat}
use Rattle.grasp_laws_network.proofs.Lists.{numbered_there}
use Rattle.grasp_laws_network.proofs.Lives.{first_count, first_present, same_present}
use Rattle.grasp_laws_network.proofs.LivesKept.{lives_are_kept}
use Rattle.grasp_laws_network.proofs.Others.{put_elsewhere}
use Rattle.grasp_laws_network.proofs.Staying.{put_here}
use Rattle.grasp_laws_prefixes.proofs.FirstPrefixes.{IsFirst, is_first}
use Rattle.grasp_laws_questions.specs.Opening.{QuestionsBegin, QuestionsOpen, called, declared, registered}
use Rattle.grasp_laws_doubts.proofs.First.{HasCalled, opening_called}
use Rattle.grasp_laws_doubts.proofs.Parts.{after_is}
use Rattle.grasp_simulator.proofs.SeatLists.{numbers_more}
use Rattle.grasp_doubts.specs.Opening.{opened_to}
use Rattle.grasp_doubts.proofs.Texts.{doubt_utf8}

-- ---- one call

-- the member stands so, and the call comes out at it
pub record ComesOut (s : Setting) (w : WorldState) (node : ℕ) (seat : Seat) (o : OpeningCall) : Type 0 where
  pub reached : IsReached s w
  pub here : present_seat w node ≡ Some seat
  pub occurs : Occurs s w (opening_event node o) (opening_choice seat o)

module _ (s : Setting) (w : WorldState) (r : IsReached s w) (lives : w.lives ≡ (first_world s).lives) (bytes : w.byte_count ≡ 0) (node : ℕ) (is : IsNode (length s.members) node) (seat : Seat) (here : seat_at w node ≡ Some seat)
    (o : OpeningCall) (other : o.asa ≢ 1) (fits : IsCall o.call) (step : NodeStep seat.core seat.core.reading (input.Api o.asa o.call) no_choice.coming (reply.Api o.answer) (called seat.core o.asa o.call o.answer)) where
  abbrev e : Event
  e = opening_event node o

  abbrev c : Choice
  c = opening_choice seat o

  present : present_life w node ≡ node
  present = same_present (first_world s) w node lives ∙ first_present s node is

  at : seat_at w (present_life w node) ≡ Some seat
  at = ap (λ m. seat_at w m) present ∙ here

  abbrev v : Visit
  v = record { node = present_life w node; seat = seat; now = seat.core.reading; input = input.Api o.asa o.call }

  visit_is : visit_of s w e ≡ Some v
  visit_is = ap (λ x. visit_seat (present_life w node) (input.Api o.asa o.call) x) at

  abbrev y : WorldState
  y = after_agent_call w v o.asa o.call c

  after : after_event s w e c ≡ y
  after = after_is s w e c v visit_is

  y_bytes : y.byte_count ≡ w.byte_count
  unfolding after_agent_call noted stepped
  y_bytes = refl

  enough : is_too_much (after_event s w e c) ≡ false
  enough = ap (λ (z : WorldState). is_too_much z) after ∙ ap (λ n. nat_lt most_bytes n) (y_bytes ∙ bytes)

  pub comes_out : ComesOut s w node seat o
  comes_out = record { reached = r; here = at; occurs = record { fit = (is, other, fits); comes = subst (λ x. MayCome x c) (sym visit_is) (record { steps = step; fed = refl }); enough = enough } }

-- ---- the calls of one member after the other

abbrev pub call_1 : OpeningCall
call_1 = record { asa = 0; call = call.RegisterAsa doubter_name; answer = answer.Asa 2 }

abbrev pub call_2 : OpeningCall
call_2 = record { asa = 2; call = call.RegisterObjective doubt_name 2; answer = answer.Done }

abbrev pub call_3 : OpeningCall
call_3 = record { asa = 2; call = call.ListenNegotiate doubt_name; answer = answer.NotYet }

-- members from this number on stand as in the first network
pub record IsOpenedBelow (s : Setting) (k : ℕ) (w : WorldState) : Type 0 where
  reached : IsReached s w
  lives : w.lives ≡ (first_world s).lives
  bytes : w.byte_count ≡ 0
  rest : (node : ℕ) → k ≤ node → seat_at w node ≡ seat_at (first_world s) node

-- the three calls of the member come out one after the other
pub record AllComeOut (s : Setting) (w : WorldState) (node : ℕ) : Type 0 where
  pub seat : Seat
  pub first : ComesOut s w node seat call_1
  pub seat_then : Seat
  pub second : ComesOut s (after_opening_call s node w call_1) node seat_then call_2
  pub seat_last : Seat
  pub third : ComesOut s (after_opening_call s node (after_opening_call s node w call_1) call_2) node seat_last call_3

-- ---- so many members

pub opened_more : (s : Setting) (n : ℕ) → opened_to s (suc n) ≡ after_opening s (opened_to s n) (n + 1)
opened_more s n =
    ap (λ (ks : List ℕ). fold (after_opening s) (first_world s) ks) (numbers_more 1 n)
    ∙ fold-append (after_opening s) (first_world s) (numbers_from 1 n) ((1 + n) ∷ [])
    ∙ ap (λ (k : ℕ). after_opening s (opened_to s n) k) (let e : 1 + n ≡ n + 1 = omega arith in e)

module _ (questions : QuestionsBegin) (s : Setting) where
  module _ (k : ℕ) (w : WorldState) (b : IsOpenedBelow s k w) (is : IsNode (length s.members) k) where
    count : length w.seats ≡ length s.members
    count = sym (lives_are_kept s w b.reached).count ∙ (ap (λ ls. length ls) b.lives ∙ first_count s)

    here : (seat : Seat) × (seat_at w k ≡ Some seat)
    here = numbered_there w.seats k (subst (λ n. IsNode n k) (sym count) is)

    is_its : IsFirst s k here.0
    is_its = is_first s k here.0 (sym (b.rest k (omega arith)) ∙ here.1)

    abbrev m : Member
    m = is_its.member

    opens : QuestionsOpen m.plan (pool_of m.roots) no_choice.coming
    opens = questions m.plan (pool_of m.roots) no_choice.coming

    abbrev seat_0 : Seat
    seat_0 = first_seat m

    at_0 : seat_at w k ≡ Some seat_0
    at_0 = here.1 ∙ ap (λ z. Some z) is_its.made

    abbrev w_1 : WorldState
    w_1 = after_opening_call s k w call_1

    abbrev seat_1 : Seat
    seat_1 = seat_with (registered (first_seat m).core) (first_seat m).agent

    h_1 : HasCalled s w w_1 k seat_0 call_1
    h_1 = opening_called s w b.reached b.lives b.bytes k is seat_0 at_0 call_1 (λ f. absurd (omega (arith, f))) tt opens.registers

    at_1 : seat_at w_1 k ≡ Some seat_1
    at_1 = ap (λ xs. numbered xs k) h_1.seats ∙ put_here w.seats k seat_0 seat_1 at_0

    abbrev w_2 : WorldState
    w_2 = after_opening_call s k w_1 call_2

    abbrev seat_2 : Seat
    seat_2 = seat_with (declared (first_seat m).core) (first_seat m).agent

    h_2 : HasCalled s w_1 w_2 k seat_1 call_2
    h_2 = opening_called s w_1 h_1.reached h_1.lives h_1.bytes k is seat_1 at_1 call_2 (λ f. absurd (omega (arith, f))) (doubt_utf8, omega arith) opens.declares

    at_2 : seat_at w_2 k ≡ Some seat_2
    at_2 = ap (λ xs. numbered xs k) h_2.seats ∙ put_here w_1.seats k seat_1 seat_2 at_1

    abbrev w_3 : WorldState
    w_3 = after_opening_call s k w_2 call_3

    h_3 : HasCalled s w_2 w_3 k seat_2 call_3
    h_3 = opening_called s w_2 h_2.reached h_2.lives h_2.bytes k is seat_2 at_2 call_3 (λ f. absurd (omega (arith, f))) tt opens.listens

    pub all_come_out : AllComeOut s w k
    all_come_out = record {
      seat = seat_0;
      first = comes_out s w b.reached b.lives b.bytes k is seat_0 at_0 call_1 (λ f. absurd (omega (arith, f))) tt opens.registers;
      seat_then = seat_1;
      second = comes_out s w_1 h_1.reached h_1.lives h_1.bytes k is seat_1 at_1 call_2 (λ f. absurd (omega (arith, f))) (doubt_utf8, omega arith) opens.declares;
      seat_last = seat_2;
      third = comes_out s w_2 h_2.reached h_2.lives h_2.bytes k is seat_2 at_2 call_3 (λ f. absurd (omega (arith, f))) tt opens.listens;
    }

    elsewhere : (n : ℕ) → n ≢ k → seat_at w_3 n ≡ seat_at w n
    elsewhere n apart =
        ap (λ xs. numbered xs n) h_3.seats
        ∙ (put_elsewhere w_2.seats k n _ is.least apart
        ∙ (ap (λ xs. numbered xs n) h_2.seats
        ∙ (put_elsewhere w_1.seats k n seat_2 is.least apart ∙ (ap (λ xs. numbered xs n) h_1.seats ∙ put_elsewhere w.seats k n seat_1 is.least apart))))

    pub opened_below : IsOpenedBelow s (k + 1) (after_opening s w k)
    unfolding after_opening
    opened_below = record { reached = h_3.reached; lives = h_3.lives; bytes = h_3.bytes; rest = λ node more. elsewhere node (λ same. absurd (omega (arith, same, more))) ∙ b.rest node (omega (arith, more)) }

  first_below : IsGoodSetting s → IsOpenedBelow s 1 (first_world s)
  unfolding first_world
  first_below good = record { reached = first_reached s good; lives = refl; bytes = refl; rest = λ node more. refl }

  below : (n : ℕ) → IsGoodSetting s → n ≤ length s.members → IsOpenedBelow s (n + 1) (opened_to s n)
  unfolding numbers_from
  below zero good few = first_below good
  below (suc n) good few =
      let next : n + 1 ≡ suc n = omega arith in
      subst (λ (z : WorldState). IsOpenedBelow s (suc n + 1) z) (sym (opened_more s n))
      (subst (λ (j : ℕ). IsOpenedBelow s (j + 1) (after_opening s (opened_to s n) (n + 1))) next
      (opened_below (n + 1) (opened_to s n) (below n good (omega (arith, few))) (record { least = omega arith; most = omega (arith, few) })))

  -- the calls of the next member come out
  pub next_come_out : (n : ℕ) → IsGoodSetting s → n + 1 ≤ length s.members → AllComeOut s (opened_to s n) (n + 1)
  next_come_out n good there = all_come_out (n + 1) (opened_to s n) (below n good (omega (arith, there))) (record { least = omega arith; most = there })
