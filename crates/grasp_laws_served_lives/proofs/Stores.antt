-- The store of a node that served was asked exactly what is asked around the acts of its life.
use Rattle.std.proofs.Common.{◌≡◌, refl, sym, ap, ◌∙◌, ℕ, ◌==◌, ◌++◌, List, [], ◌∷◌}
use Rattle.std.specs.List.{AllByRecursion}
use Rattle.grasp_agent.specs.States.{AgentState}
use Rattle.grasp_desk.specs.declared.desk.DeskPlan.{DeskPlan}
use Rattle.grasp_disk.specs.Calls.{DiskLog, bytes_of}
use Rattle.grasp_io.specs.declared.links.LinkPlan.{LinkPlan}
use Rattle.grasp_laws_lives.specs.Stores.{asked_in}
use Rattle.grasp_laws_members.specs.Acts.{Act}
use Rattle.grasp_laws_served_lives.proofs.Asking.{asked_acts, asked_append, asked_by, asked_quiet, beside_quiet, deeds_asked, loops_beside, loops_quiet, opening_asks}
use Rattle.grasp_laws_served_lives.specs.Lives.{BeginsWith, ServedLivesHaveActs, StoresAreAsked}
use Rattle.grasp_laws_serving.proofs.Agents.{Gives, IsOtherEntry, others_beside, woken_is}
use Rattle.grasp_laws_serving.proofs.Happenings.{IsBeside, agent_in, all_first, all_last, goes_beside}
use Rattle.grasp_laws_serving.proofs.Lives.{Lived, behind, front_made, front_may, give_rounds, lived, opened_crew}
use Rattle.grasp_laws_serving.proofs.Openings.{crew_at}
use Rattle.grasp_laws_serving.proofs.Rounds.{Stands, Went, numbered_visits, round_went, turn_loops, visitors_others}
use Rattle.grasp_laws_serving.specs.Acts.{AreActsOf, AreNoCalls, LinksGiveNoCall}
use Rattle.grasp_laws_serving.specs.Lives.{Happening, HasServed, Life, all_called, deed_happens, life_happens, life_of, other_openings, round_happens, rounds_happen}
use Rattle.grasp_model_network.specs.Openings.{opened_seat}
use Rattle.grasp_model_network.specs.World.{Seat}
use Rattle.grasp_node_main.specs.Networks.{NodesOpenAsSeats}
use Rattle.grasp_node_main.specs.Openings.{opened_agent}
use Rattle.grasp_node_main.specs.Turns.{turn_calls}
use Rattle.grasp_pool.specs.Holdings.{Holding}
use Rattle.grasp_service.specs.Deeds.{Deed}
use Rattle.grasp_service.specs.Exchanges.{has_come}
use Rattle.grasp_service.specs.Keeping.{kept_opening}
use Rattle.grasp_service.specs.Plans.{crew_from, crew_of}
use Rattle.grasp_service.specs.Rounds.{AreRounds, IsRound, Outside, Round, TellsRounds, crew_in, kept_round, kept_rounds, round_after, stirs, visitor_calls}
use Rattle.grasp_service.specs.Served.{kept_life, opened_state}
use Rattle.grasp_service.specs.States.{ServiceState}
use Rattle.grasp_service.specs.declared.plan.ServicePlan.{ServicePlan}
use Rattle.grasp_service_visits.specs.Each.{each_adds}
use Rattle.grasp_service_visits.specs.Visits.{Visited}
use Rattle.grasp_laws_serving.proofs.Seats.{IsNumbered}
use Rattle.grasp_store.specs.Current.{image_on}
use Rattle.grasp_store.specs.Images.{image_of}

-- ---- rounds

module _ (a : AgentState) (s : ServiceState) (r : Round) (stands : Stands a s) (is : IsRound s r) (numbers : AllByRecursion (λ (v : Visited). IsNumbered v.visiting) r.visits)
    (none : AreNoCalls (turn_calls r.turn)) (give : AllByRecursion Gives (round_happens s r)) where
  abbrev turned : List Happening
  turned = all_called (turn_calls r.turn)

  abbrev acted : List Happening
  acted = each_adds (deed_happens r.turn.now) 1 (crew_in s r.turn) r.deeds

  abbrev visited : List Happening
  visited = all_called (visitor_calls s r)

  -- the loop's calls leave the agent
  turned_agent : agent_in a turned ≡ a
  turned_agent = (goes_beside (turn_calls r.turn) a (loops_beside (turn_calls r.turn) (turn_loops r.turn))).ends

  round_asked : (log : DiskLog) → asked_by a (round_happens s r) log ≡ kept_round s r log
  round_asked log =
      asked_append turned (acted ++ visited) a log
      ∙ (ap (λ (x : DiskLog). asked_by (agent_in a turned) (acted ++ visited) x) (asked_quiet turned a log (loops_quiet (turn_calls r.turn) (turn_loops r.turn)))
      ∙ (ap (λ (x : AgentState). asked_by x (acted ++ visited) log) turned_agent
      ∙ (asked_append acted visited a log
      ∙ (asked_quiet visited (agent_in a acted) (asked_by a acted log) (beside_quiet (visitor_calls s r) (others_beside (visitor_calls s r) (visitors_others a s r stands is numbers none give)))
      ∙ deeds_asked (crew_in s r.turn) r.deeds r.turn.now a log (woken_is a (stirs s r.turn.now (has_come r.turn.asking)) s.house.crew stands.crew)))))

rounds_asked : (rs : List Round) (a : AgentState) (s : ServiceState) (old new : Outside) → Stands a s → AreRounds s rs → TellsRounds old s rs new
    → AllByRecursion (λ (r : Round). AreNoCalls (turn_calls r.turn)) rs → AllByRecursion Gives (rounds_happen s rs) → (log : DiskLog) → asked_by a (rounds_happen s rs) log ≡ kept_rounds s rs log
rounds_asked [] a s old new stands are tells none give log = refl
rounds_asked (r ∷ rs) a s old new stands are tells none give log =
    let first : List Happening = round_happens s r in
    let rest : List Happening = rounds_happen (round_after s r) rs in
    let numbers = numbered_visits r.visits old.desk tells.1.desk.came.middle tells.1.desk.came.came in
    let f : Went a first (round_after s r) = round_went a s r stands are.0 numbers none.0 (all_first Gives first rest give) in
    asked_append first rest a log
    ∙ (ap (λ (x : DiskLog). asked_by (agent_in a first) rest x) (round_asked a s r stands are.0 numbers none.0 (all_first Gives first rest give) log)
    ∙ (ap (λ (x : AgentState). asked_by x rest (kept_round s r log)) f.part.goes.ends
    ∙ rounds_asked rs f.agent (round_after s r) tells.0 new f.stands are.1 tells.2 none.1 (all_last Gives first rest give) (kept_round s r log)))

-- ---- a life

pub crew_begins : (p : ServicePlan) (pool : Holding) → BeginsWith p pool → crew_of p ≡ crew_at p pool
crew_begins p pool b = ap (λ (a : AgentState). crew_from a p.wants p.pace p.heralds p.readers) b.agent

module _ (seated : NodesOpenAsSeats) (p : ServicePlan) (pool : Holding) (l : Life) (h : Lived p l) (b : BeginsWith p pool) (links : LinksGiveNoCall l) where
  abbrev a : AgentState
  a = opened_agent pool

  abbrev state : ServiceState
  state = opened_state p l.replies

  abbrev first : List Happening
  first = all_called (other_openings p l.replies)

  abbrev rounds : List Happening
  rounds = rounds_happen state l.rounds

  abbrev ends : List Happening
  ends = all_called l.ends

  others : AllByRecursion IsBeside (other_openings p l.replies)
  others = others_beside (other_openings p l.replies) (opened_crew seated p pool l h (crew_begins p pool b) b.heralds links).others

  begins_as : (opened_seat p.node pool).agent ≡ opened_agent pool
  begins_as =
      ap (λ (y : Seat). y.agent)
      (seated p.node pool (behind seated p pool l h (crew_begins p pool b) b.heralds links).node (behind seated p pool l h (crew_begins p pool b) b.heralds links).opening)

  happened_asked : (log : DiskLog) → asked_by a (life_happens p l) log ≡ kept_rounds state l.rounds log
  happened_asked log =
      asked_append first (rounds ++ ends) a log
      ∙ (ap (λ (x : DiskLog). asked_by (agent_in a first) (rounds ++ ends) x) (asked_quiet first a log (beside_quiet (other_openings p l.replies) others))
      ∙ (ap (λ (x : AgentState). asked_by x (rounds ++ ends) log) (goes_beside (other_openings p l.replies) a others).ends
      ∙ (asked_append rounds ends a log
      ∙ (asked_quiet ends (agent_in a rounds) (asked_by a rounds log) (loops_quiet l.ends h.loops)
      ∙ rounds_asked l.rounds a state h.ready h.middle (record { crew = (opened_crew seated p pool l h (crew_begins p pool b) b.heralds links).crew; seats = tt }) h.are h.tells links.rounds
      (give_rounds seated p pool l h (crew_begins p pool b) b.heralds links) log))))

  pub life_asked : (acts : List Act) → AreActsOf (life_happens p l) acts → (log : DiskLog) → image_on [] (bytes_of log) ≡ image_of pool
      → kept_life p l.replies l.rounds log ≡ asked_in (opened_seat p.node pool).agent acts log
  life_asked acts are log has =
      ap (λ (x : DiskLog). kept_rounds state l.rounds x) (opening_asks state.house.crew a log (opened_crew seated p pool l h (crew_begins p pool b) b.heralds links).crew has)
      ∙ (sym (happened_asked log)
      ∙ (sym (asked_acts (life_happens p l) acts a log are) ∙ ap (λ (x : AgentState). asked_in x acts log) (sym begins_as)))

pub stores_are_asked : NodesOpenAsSeats → StoresAreAsked
stores_are_asked seated p pool joining doors before after served b links acts are log has =
    life_asked seated p pool (life_of p joining doors before after served) (lived p joining doors before after served) b links acts are log has

pub served_lives_have_acts : NodesOpenAsSeats → ServedLivesHaveActs
served_lives_have_acts seated p pool joining doors before after served b links front rest is fed =
    let l : Life = life_of p joining doors before after served in
    let h : Lived p l = lived p joining doors before after served in
    record {
      acts = (front_made seated p pool l h (crew_begins p pool b) b.heralds links front rest is fed).acts;
      are = (front_made seated p pool l h (crew_begins p pool b) b.heralds links front rest is fed).are;
      may = front_may seated p pool l h (crew_begins p pool b) b.heralds links front rest is fed;
    }
