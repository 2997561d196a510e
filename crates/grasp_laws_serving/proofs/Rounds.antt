-- Rounds, one after the other: what happens in them is fit for a network, and happens to the agent of prefixes.
use Rattle.std.proofs.Common.{◌≡◌, refl, ap, ◌∙◌, arith, ℕ, ◌+◌, ◌≤◌, ◌==◌, ◌++◌, List, [], ◌∷◌, length}
use Rattle.std.specs.List.{AllByRecursion}
use Rattle.grasp_agent.specs.States.{AgentState}
use Rattle.grasp_crew.specs.Seats.{stays}
use Rattle.grasp_crew.specs.Nudges.{Nudge, again, still, wanted}
use Rattle.grasp_crew.specs.Servants.{nudge_of}
use Rattle.grasp_crew.specs.declared.servant.Servant.{Servant}
use Rattle.grasp_desk.specs.Desk.{IsNext}
use Rattle.grasp_desk.specs.declared.desk.Visiting.{Visiting}
use Rattle.grasp_desk.specs.declared.desk.Visiting.TheVariants as desk
use Rattle.grasp_laws_serving.proofs.Agents.{Done, Gives, IsCrew, IsFitInput, IsOtherEntry, Part, deeds_done, part_append, part_none, part_others, woken_is}
use Rattle.grasp_laws_serving.proofs.Happenings.{all_append, all_first, all_last, calls_append, calls_called}
use Rattle.grasp_laws_serving.proofs.Numbers.{GivesOthers}
use Rattle.grasp_laws_serving.proofs.Orders.{crew_after}
use Rattle.grasp_laws_serving.proofs.Seats.{AllGive, AreSeats, Heard, IsNumbered, staying, tend_heard, visits_heard}
use Rattle.grasp_laws_serving.specs.Acts.{AreNoCalls, IsNoCall}
use Rattle.grasp_laws_serving.specs.Lives.{Happening, all_called, calls_in, deed_happens, round_happens, rounds_happen, want_told}
use Rattle.grasp_node_main.specs.Turns.{Asking, Turn, asking_calls, got, loop_call, no_memory, nothing, turn_calls}
use Rattle.grasp_service.specs.Deeds.{Deed, after_deed, deed_calls}
use Rattle.grasp_service.specs.Exchanges.{has_come}
use Rattle.grasp_service.specs.Rounds.{AreRounds, IsRound, Outside, Round, TellsRounds, agent_calls, all_round_calls, crew_in, house_acted, round_after, round_calls, rounds_after, seats_asked, stirs, visitor_calls}
use Rattle.grasp_service.specs.States.{ServiceState}
use Rattle.grasp_service_visits.specs.Desks.{DeskTold, VisitsAll}
use Rattle.grasp_service_visits.specs.Each.{each_adds, each_after}
use Rattle.grasp_service_visits.specs.Tending.{tend_calls, tended}
use Rattle.grasp_service_visits.specs.Visits.{Visited, all_visit_calls, visitings}
use Rattle.grasp_shared.specs.History.{Entry, History}
use Rattle.grasp_types.specs.declared.traffic.Input.{Input}
use Rattle.grasp_types.specs.declared.traffic.Input.TheVariants as input

-- ---- the loop's calls

no_call_fit : (i : Input) → IsNoCall i → IsFitInput i
no_call_fit (input.Api asa c) h = absurd h
no_call_fit _ h = tt

abbrev pub AreLoops : History → Type 0
AreLoops es = AllByRecursion (λ (e : Entry). e.caller ≡ 0) es

loop_other : (e : Entry) → e.caller ≡ 0 → IsNoCall e.input → IsOtherEntry e
loop_other e root none = record { beside = ap (λ (n : ℕ). n == 1) root; fit = no_call_fit e.input none }

pub loops_others : (es : History) → AreLoops es → AreNoCalls es → AllByRecursion IsOtherEntry es
loops_others [] root none = tt
loops_others (e ∷ es) root none = (loop_other e root.0 none.0, loops_others es root.1 none.1)

asking_loops : (now : ℕ) (x : Asking) → AreLoops (asking_calls now x)
asking_loops now (got i r) = (refl, tt)
asking_loops now nothing = tt
asking_loops now no_memory = tt

pub turn_loops : (t : Turn) → AreLoops (turn_calls t)
turn_loops t = all_append (λ (e : Entry). e.caller ≡ 0) (asking_calls t.now t.asking) (loop_call t.now (input.Drain 64) t.drained ∷ []) (asking_loops t.now t.asking) (refl, tt)

-- ---- visitors are numbered from 1

pub numbered_visits : (vs : List Visited) (old new : DeskTold) → VisitsAll old (visitings vs) new → AllByRecursion (λ (v : Visited). IsNumbered v.visiting) vs
numbered_visits [] old new came = tt
numbered_visits (v ∷ vs) old new came = (by_visiting v.visiting came.1.next, numbered_visits vs came.0 new came.2) where
  above : (visitor n : ℕ) → visitor ≡ n + 1 → 1 ≤ visitor
  above visitor n e = omega (arith, e)

  by_visiting : (x : Visiting) → IsNext old.came came.0.came x → IsNumbered x
  by_visiting (desk.Came visitor guest) e = above visitor old.came e.0
  by_visiting _ e = tt

-- ---- a round

-- the agent of prefixes of a node is this one, and its seats are in order
pub record Stands (a : AgentState) (s : ServiceState) : Type 0 where
  pub crew : IsCrew a s.house.crew
  pub seats : AreSeats s.seats

some_agent : (a : AgentState) (crew : List Servant) → IsCrew a crew → 1 ≤ length crew
some_agent a [] h = absurd h
some_agent a (m ∷ crew) h = omega arith

-- this is fit, and behind it the node stands so
pub record Went (a : AgentState) (hs : List Happening) (s : ServiceState) : Type 0 where
  pub agent : AgentState
  pub part : Part a hs agent
  pub stands : Stands agent s

pub calls_give : (es : History) → AllByRecursion Gives (all_called es) → AllGive es
calls_give [] give = tt
calls_give (e ∷ es) give = (give.0, calls_give es give.1)

module _ (a : AgentState) (s : ServiceState) (r : Round) (stands : Stands a s) (is : IsRound s r) (numbers : AllByRecursion (λ (v : Visited). IsNumbered v.visiting) r.visits)
    (none : AreNoCalls (turn_calls r.turn)) (give : AllByRecursion Gives (round_happens s r)) where
  abbrev turned : List Happening
  turned = all_called (turn_calls r.turn)

  abbrev acted : List Happening
  acted = each_adds (deed_happens r.turn.now) 1 (crew_in s r.turn) r.deeds

  abbrev agents : ℕ
  agents = length s.house.crew

  abbrev visiting : History
  visiting = all_visit_calls agents r.turn.now s.seats r.visits

  abbrev tending : History
  tending = each_adds (λ place. tend_calls agents r.turn.now) 0 (seats_asked s r) r.replies

  give_agents : AllByRecursion Gives acted
  give_agents = all_first Gives acted (all_called (visitor_calls s r)) (all_last Gives turned (acted ++ all_called (visitor_calls s r)) give)

  give_visitors : AllGive (visiting ++ tending)
  give_visitors = calls_give (visiting ++ tending) (all_last Gives acted (all_called (visitor_calls s r)) (all_last Gives turned (acted ++ all_called (visitor_calls s r)) give))

  some : 1 ≤ agents
  some = some_agent a s.house.crew stands.crew

  done : Done a acted (each_after (after_deed r.turn.now) (crew_in s r.turn) r.deeds)
  done = deeds_done (crew_in s r.turn) r.deeds r.turn.now a (woken_is a (stirs s r.turn.now (has_come r.turn.asking)) s.house.crew stands.crew) give_agents

  heard : Heard visiting (seats_asked s r)
  heard = visits_heard r.visits agents r.turn.now s.seats some numbers is.mean (all_first (λ (e : Entry). GivesOthers e.reply) visiting tending give_visitors) stands.seats

  tended_all : Heard tending (each_after (tended r.turn.now) (seats_asked s r) r.replies)
  tended_all = tend_heard (seats_asked s r) r.replies agents r.turn.now 0 some (all_last (λ (e : Entry). GivesOthers e.reply) visiting tending give_visitors) heard.are

  pub visitors_others : AllByRecursion IsOtherEntry (visitor_calls s r)
  visitors_others = all_append IsOtherEntry visiting tending heard.others tended_all.others

  pub round_went : Went a (round_happens s r) (round_after s r)
  round_went = record {
    agent = done.agent;
    part =
        part_append turned a a done.agent (acted ++ all_called (visitor_calls s r)) (part_others (turn_calls r.turn) a (loops_others (turn_calls r.turn) (turn_loops r.turn) none))
        (part_append acted a done.agent done.agent (all_called (visitor_calls s r)) done.part
        (part_others (visitor_calls s r) done.agent visitors_others));
    stands = record {
      crew = crew_after r.visits done.agent r.turn.now s.seats (house_acted s r) is.mean done.crew_is;
      seats = staying stays (each_after (tended r.turn.now) (seats_asked s r) r.replies) tended_all.are;
    };
  }

-- ---- rounds

pub rounds_went : (rs : List Round) (a : AgentState) (s : ServiceState) (old new : Outside) → Stands a s → AreRounds s rs → TellsRounds old s rs new
    → AllByRecursion (λ (r : Round). AreNoCalls (turn_calls r.turn)) rs → AllByRecursion Gives (rounds_happen s rs) → Went a (rounds_happen s rs) (rounds_after s rs)
rounds_went [] a s old new stands are tells none give = record { agent = a; part = part_none a; stands = stands }
rounds_went (r ∷ rs) a s old new stands are tells none give =
    let first : List Happening = round_happens s r in
    let rest : List Happening = rounds_happen (round_after s r) rs in
    let f : Went a first (round_after s r) =
    round_went a s r stands are.0 (numbered_visits r.visits old.desk tells.1.desk.came.middle tells.1.desk.came.came) none.0 (all_first Gives first rest give) in
    let g : Went f.agent rest (rounds_after (round_after s r) rs) =
    rounds_went rs f.agent (round_after s r) tells.0 new f.stands are.1 tells.2 none.1 (all_last Gives first rest give) in
    record { agent = g.agent; part = part_append first a f.agent g.agent rest f.part g.part; stands = g.stands }

-- ---- the calls of what happened

deed_calls_are : (now caller : ℕ) (m : Servant) (d : Deed) → calls_in (deed_happens now caller m d) ≡ deed_calls now caller m d
deed_calls_are now caller m d = calls_append (want_told (nudge_of now m)) (all_called (deed_calls now caller m d)) ∙ (ap (λ (h : History). h ++ calls_in (all_called (deed_calls now caller m d))) (no_calls (nudge_of now m)) ∙ calls_called (deed_calls now caller m d)) where
  no_calls : (n : Nudge) → calls_in (want_told n) ≡ []
  no_calls still = refl
  no_calls (wanted place w) = refl
  no_calls again = refl

deeds_calls_are : (crew : List Servant) (deeds : List Deed) (now caller : ℕ) → calls_in (each_adds (deed_happens now) caller crew deeds) ≡ each_adds (deed_calls now) caller crew deeds
deeds_calls_are [] deeds now caller = refl
deeds_calls_are (m ∷ crew) [] now caller = refl
deeds_calls_are (m ∷ crew) (d ∷ deeds) now caller =
    calls_append (deed_happens now caller m d) (each_adds (deed_happens now) (caller + 1) crew deeds)
    ∙ (ap (λ (h : History). h ++ calls_in (each_adds (deed_happens now) (caller + 1) crew deeds)) (deed_calls_are now caller m d)
    ∙ ap (λ (h : History). deed_calls now caller m d ++ h) (deeds_calls_are crew deeds now (caller + 1)))

round_calls_are : (s : ServiceState) (r : Round) → calls_in (round_happens s r) ≡ round_calls s r
round_calls_are s r =
    let acted : List Happening = each_adds (deed_happens r.turn.now) 1 (crew_in s r.turn) r.deeds in
    let visitors : List Happening = all_called (visitor_calls s r) in
    calls_append (all_called (turn_calls r.turn)) (acted ++ visitors)
    ∙ (ap (λ (h : History). h ++ calls_in (acted ++ visitors)) (calls_called (turn_calls r.turn))
    ∙ ap (λ (h : History). turn_calls r.turn ++ h)
    (calls_append acted visitors
    ∙ (ap (λ (h : History). h ++ calls_in visitors) (deeds_calls_are (crew_in s r.turn) r.deeds r.turn.now 1)
    ∙ ap (λ (h : History). agent_calls s r ++ h) (calls_called (visitor_calls s r)))))

pub rounds_calls_are : (rs : List Round) (s : ServiceState) → calls_in (rounds_happen s rs) ≡ all_round_calls s rs
rounds_calls_are [] s = refl
rounds_calls_are (r ∷ rs) s =
    calls_append (round_happens s r) (rounds_happen (round_after s r) rs)
    ∙ (ap (λ (h : History). h ++ calls_in (rounds_happen (round_after s r) rs)) (round_calls_are s r)
    ∙ ap (λ (h : History). round_calls s r ++ h) (rounds_calls_are rs (round_after s r)))
