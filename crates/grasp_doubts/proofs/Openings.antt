-- Doubters that are opened, and the network once they have made their opening calls.
use Rattle.std.proofs.Common.{◌≡◌, refl, sym, ◌∙◌, ap, subst, arith, ℕ, suc, ◌+◌, ◌≤◌, true, List, [], ◌∷◌, ◌++◌, length, map, None, Result, Ok, Err, OnOk}
use Rattle.std.proofs.lemmas.List.{length-map, map-append}
use Rattle.grasp_cbor.specs.declared.memory.OutOfMemory.{OutOfMemory}
use Rattle.grasp_doubter.specs.States.{DoubterState, first_doubter}
use Rattle.grasp_doubter.specs.Questions.{doubt_name, doubter_name}
use Rattle.grasp_types.specs.declared.address.Address.{Address}
use Rattle.grasp_types.specs.declared.call.Call.{Call}
use Rattle.grasp_types.specs.declared.call.Call.TheVariants as call
use Rattle.grasp_types.specs.declared.reply.ApiAnswer.TheVariants as answer
use Rattle.grasp_laws_network.proofs.GoodPlans.{count_numbers, scripts_are_good}
use Rattle.grasp_laws_questions.specs.Opening.{QuestionsBegin}
use Rattle.grasp_laws_reports.proofs.SameRuns.{runs_agree}
use Rattle.grasp_model_network.specs.Events.{after_event}
use Rattle.grasp_model_network.specs.Plans.{IsGoodPlan}
use Rattle.grasp_model_network.specs.Setting.{Member, Setting, numbers_from, script_address, script_member, script_setting}
use Rattle.grasp_model_network.specs.World.{Seat, WorldState}
use Rattle.grasp_model_network.specs.declared.event.Event.TheVariants as event
use Rattle.grasp_model_network.specs.declared.plan.WorldPlan.{WorldPlan}
use Rattle.grasp_model_network.specs.declared.report.Report.{Report}
use Rattle.grasp_model_doubts.specs.Openings.{OpeningCall, after_opening, after_opening_call, first_doubts, having_called, opening_choice, opening_event}
use Rattle.grasp_model_script_doubts.proofs.Safely.{first_led}
use Rattle.grasp_simulator.proofs.Presence.{script_members}
use Rattle.grasp_simulator.proofs.SeatLists.{numbers_more}
use Rattle.grasp_simulator.specs.Contract.{Reported}
use Rattle.grasp_simulator.specs.WorldStands.{WorldStands}
use Rattle.grasp_simulator.specs.WorldSteps.{IsAsked, Stepped}
use Rattle.grasp_simulator.specs.declared.world.World.{World}
use Rattle.grasp_doubts.specs.Contract.{doubt_network_of}
use Rattle.grasp_doubts.specs.Nodes.{network_at}
use Rattle.grasp_doubts.specs.Opening.{AreOpened, AreOpenedTo, CanCall, CanOpen, HasNetwork, MakesOpeningCall, MayCall, OpensCalls, OpensNext, call_with, doubters_to, opened_to}
use Rattle.grasp_doubts.specs.Stands.{DoubtWorldStands}
use Rattle.grasp_doubts.specs.declared.doubt_world.DoubtWorld.{DoubtWorld}
use Rattle.grasp_doubts.proofs.Lending.{is_asked, meets}
use Rattle.grasp_doubts.proofs.FirstCalls.{AllComeOut, call_1, call_2, call_3, next_come_out, opened_more}

-- ---- one call

opening_is : (s : Setting) (w : WorldState) (node : ℕ) (seat : Seat) (o : OpeningCall) (world : World) → MayCall world s w node seat o
    → after_opening_call s node w o ≡ after_event s w (opening_event node o) (opening_choice seat o)
unfolding after_opening_call
opening_is s w node seat o world m = ap (λ x. having_called s node w o x) m.here

module _ (before : World) (node asa : ℕ) (call : Call) where
  pub opening_asked : CanCall before node asa call → IsAsked before (event.Api node asa call true)
  opening_asked can = is_asked before can.setting can.network (event.Api node asa call true) can.may.stands can.may.occurs.fit

  pub makes_opening : (after : World) (told : Report) → Stepped before after (event.Api node asa call true) (Ok told) → MakesOpeningCall before after node asa call
  makes_opening after told steps s w seat answer m =
      let o : OpeningCall = call_with asa call answer in
      let a : Reported (WorldStands after) s w (opening_event node o) told = steps (network_at s w) (meets before s w (opening_event node o) m.stands m.occurs.fit) in
      subst (λ (x : WorldState). WorldStands after (network_at s x))
      ((runs_agree.events s w (opening_event node o) a.choice (opening_choice seat o) m.reached a.occurs m.occurs).after ∙ sym (opening_is s w node seat o before m)) a.stands

-- ---- the calls of one node

module _ (questions : QuestionsBegin) (world : World) (node : ℕ) where
  module _ (p : WorldPlan) (count : ℕ) (n : OpensNext world p count node) where
    abbrev s : Setting
    s = script_setting p

    abbrev w_0 : WorldState
    w_0 = opened_to s count

    come_out : AllComeOut s w_0 node
    come_out =
        subst (λ (k : ℕ). AllComeOut s w_0 k) (sym n.next)
        (next_come_out questions s count (scripts_are_good p n.good) (let m = script_members p in let t = n.there in let e = n.next in omega (arith, m, t, e)))

    abbrev w_1 : WorldState
    w_1 = after_opening_call s node w_0 call_1

    abbrev w_2 : WorldState
    w_2 = after_opening_call s node w_1 call_2

    abbrev w_3 : WorldState
    w_3 = after_opening_call s node w_2 call_3

    may_1 : MayCall world s w_0 node come_out.seat call_1
    may_1 = record { reached = come_out.first.reached; stands = n.stands; here = come_out.first.here; occurs = come_out.first.occurs }

    may_2 : (mid : World) → WorldStands mid (network_at s w_1) → MayCall mid s w_1 node come_out.seat_then call_2
    may_2 mid stands = record { reached = come_out.second.reached; stands = stands; here = come_out.second.here; occurs = come_out.second.occurs }

    may_3 : (mid : World) → WorldStands mid (network_at s w_2) → MayCall mid s w_2 node come_out.seat_last call_3
    may_3 mid stands = record { reached = come_out.third.reached; stands = stands; here = come_out.third.here; occurs = come_out.third.occurs }

    -- the network is that in which one more member has made its calls
    last : w_3 ≡ opened_to s node
    unfolding after_opening
    last =
        ap (λ (k : ℕ). after_opening s w_0 k) n.next
        ∙ sym (opened_more s count)
        ∙ ap (λ (k : ℕ). opened_to s k) (let e = n.next in let f : suc count ≡ node = omega (arith, e) in f)

    module _ (mid : World) (one : MakesOpeningCall world mid node 0 (call.RegisterAsa doubter_name)) where
      stands_1 : WorldStands mid (network_at s w_1)
      stands_1 = one s w_0 come_out.seat (answer.Asa 2) may_1

      module _ (next : World) (two : MakesOpeningCall mid next node 2 (call.RegisterObjective doubt_name 2)) where
        stands_2 : WorldStands next (network_at s w_2)
        stands_2 = two s w_1 come_out.seat_then answer.Done (may_2 mid stands_1)

        stands_3 : (after : World) → MakesOpeningCall next after node 2 (call.ListenNegotiate doubt_name) → WorldStands after (network_at s (opened_to s node))
        stands_3 after three = subst (λ (w : WorldState). WorldStands after (network_at s w)) last (three s w_2 come_out.seat_last answer.NotYet (may_3 next stands_2))

  module _ (name : List ℕ) (named : name ≡ doubter_name) where
    pub can_register : CanOpen world node → CanCall world node 0 (call.RegisterAsa name)
    can_register can =
        subst (λ (t : List ℕ). CanCall world node 0 (call.RegisterAsa t)) (sym named)
        (record { setting = script_setting can.plan; network = opened_to (script_setting can.plan) can.count; seat = _; answer = answer.Asa 2; may = may_1 can.plan can.count can.opens })

    module _ (mid : World) (makes : MakesOpeningCall world mid node 0 (call.RegisterAsa name)) where
      one : MakesOpeningCall world mid node 0 (call.RegisterAsa doubter_name)
      one = subst (λ (t : List ℕ). MakesOpeningCall world mid node 0 (call.RegisterAsa t)) named makes

      module _ (objective : List ℕ) (declares : objective ≡ doubt_name) where
        pub can_declare : CanOpen world node → CanCall mid node 2 (call.RegisterObjective objective 2)
        can_declare can =
            subst (λ (t : List ℕ). CanCall mid node 2 (call.RegisterObjective t 2)) (sym declares)
            (record { setting = script_setting can.plan; network = _; seat = _; answer = answer.Done; may = may_2 can.plan can.count can.opens mid (stands_1 can.plan can.count can.opens mid one) })

        module _ (next : World) (declared : MakesOpeningCall mid next node 2 (call.RegisterObjective objective 2)) where
          two : MakesOpeningCall mid next node 2 (call.RegisterObjective doubt_name 2)
          two = subst (λ (t : List ℕ). MakesOpeningCall mid next node 2 (call.RegisterObjective t 2)) declares declared

          module _ (heard : List ℕ) (listens : heard ≡ doubt_name) where
            pub can_listen : CanOpen world node → CanCall next node 2 (call.ListenNegotiate heard)
            can_listen can =
                subst (λ (t : List ℕ). CanCall next node 2 (call.ListenNegotiate t)) (sym listens)
                (record { setting = script_setting can.plan; network = _; seat = _; answer = answer.NotYet; may = may_3 can.plan can.count can.opens next (stands_2 can.plan can.count can.opens mid one next two) })

            pub opens_calls : (after : World) → MakesOpeningCall next after node 2 (call.ListenNegotiate heard) → OpensCalls world after node
            opens_calls after three p count n =
                stands_3 p count n mid one next two after (subst (λ (t : List ℕ). MakesOpeningCall next after node 2 (call.ListenNegotiate t)) listens three)

pub on_ok : {A B : Type 0} (r : Result (Unit {0}) OutOfMemory) → (A → B) → OnOk r A → OnOk r B
on_ok (Ok done) f a = f a
on_ok (Err why) f a = tt

-- ---- the nodes, one after the other

pub none_opened : (p : WorldPlan) (world : World) (doubters : List DoubterState) → doubters ≡ [] → HasNetwork p world → AreOpenedTo p 0 world doubters
unfolding numbers_from
none_opened p world doubters none stands = record { stands = stands; doubters_are = none }

pub opens_next : (p : WorldPlan) (count : ℕ) (world : World) (doubters : List DoubterState) → IsGoodPlan p → AreOpenedTo p count world doubters → count + 1 ≤ p.nodes → OpensNext world p count (count + 1)
opens_next p count world doubters good opened there = record { good = good; stands = opened.stands; next = refl; there = there }

pub can_open : (p : WorldPlan) (count : ℕ) (world : World) (doubters : List DoubterState) → IsGoodPlan p → AreOpenedTo p count world doubters → count + 1 ≤ p.nodes → CanOpen world (count + 1)
can_open p count world doubters good opened there = record { plan = p; count = count; opens = opens_next p count world doubters good opened there }

doubters_more : (count : ℕ) → doubters_to (count + 1) ≡ doubters_to count ++ first_doubter (script_address (count + 1)) ∷ []
doubters_more count =
    let e : count + 1 ≡ suc count = omega arith in
    let f : 1 + count ≡ count + 1 = omega arith in
    ap (λ (k : ℕ). doubters_to k) e
    ∙ ap (λ (ks : List ℕ). map (λ (k : ℕ). first_doubter (script_address k)) ks) (numbers_more 1 count)
    ∙ map-append (λ (k : ℕ). first_doubter (script_address k)) (numbers_from 1 count) ((1 + count) ∷ [])
    ∙ ap (λ (k : ℕ). doubters_to count ++ first_doubter (script_address k) ∷ []) f

pub one_opened : (p : WorldPlan) (count : ℕ) (world after : World) (doubters pushed : List DoubterState) (d : DoubterState) (a : Address) → IsGoodPlan p → AreOpenedTo p count world doubters → count + 1 ≤ p.nodes
    → OpensCalls world after (count + 1) → d ≡ first_doubter a → a ≡ script_address (count + 1) → pushed ≡ doubters ++ d ∷ [] → AreOpenedTo p (count + 1) after pushed
one_opened p count world after doubters pushed d a good opened there opens made named is = record {
  stands = opens p count (opens_next p count world doubters good opened there);
  doubters_are = is
      ∙ ap (λ (l : List DoubterState). l ++ d ∷ []) opened.doubters_are
      ∙ ap (λ (e : DoubterState). doubters_to count ++ e ∷ []) (made ∙ ap (λ (b : Address). first_doubter b) named)
      ∙ sym (doubters_more count);
}

pub all_opened : (p : WorldPlan) (count : ℕ) (world : World) (doubters : List DoubterState) → AreOpenedTo p count world doubters → count ≡ p.nodes → AreOpened p world doubters
all_opened p count world doubters opened all = subst (λ (n : ℕ). AreOpenedTo p n world doubters) all opened

-- ---- the first network

members_made : (p : WorldPlan) (ks : List ℕ) → map (λ (m : Member). first_doubter m.plan.address) (map (script_member p) ks) ≡ map (λ (k : ℕ). first_doubter (script_address k)) ks
members_made p [] = refl
members_made p (k ∷ ks) = ap (λ (l : List DoubterState). first_doubter (script_address k) ∷ l) (members_made p ks)

first_doubters : (p : WorldPlan) → (first_doubts (script_setting p)).doubters ≡ doubters_to p.nodes
unfolding first_doubts script_setting
first_doubters p = members_made p (numbers_from 1 p.nodes)

first_network : (p : WorldPlan) → (first_doubts (script_setting p)).world ≡ opened_to (script_setting p) p.nodes
unfolding first_doubts
first_network p = ap (λ (n : ℕ). opened_to (script_setting p) n) (script_members p)

doubter_count : (n : ℕ) → length (doubters_to n) ≡ n
doubter_count n = length-map (numbers_from 1 n) (λ (k : ℕ). first_doubter (script_address k)) ∙ count_numbers 1 n

pub opens : (code : DoubtWorld) (p : WorldPlan) → code.stopped ≡ None → IsGoodPlan p → AreOpened p code.world code.doubters.items → DoubtWorldStands code (doubt_network_of p)
opens code p going good opened = record {
  stands = (
    record {
      doubted = first_led p good;
      world = subst (λ (w : WorldState). WorldStands code.world (network_at (script_setting p) w)) (sym (first_network p)) opened.stands;
      count = ap (λ (l : List DoubterState). length l) opened.doubters_are ∙ doubter_count p.nodes ∙ sym (script_members p);
      doubters = opened.doubters_are ∙ sym (first_doubters p);
    },
    going,
  );
}

-- the network that was opened is that of the plan
pub network_copied : (p copy : WorldPlan) (world : World) → copy ≡ p → HasNetwork copy world → HasNetwork p world
network_copied p copy world is stands = subst (λ (q : WorldPlan). HasNetwork q world) is stands
