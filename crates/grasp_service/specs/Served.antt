-- A node that serves, from its opening to its end.
use Rattle.std.specs.Prelude.{◌≡◌, ◌⊎◌, ◌≤◌, ℕ, true, List, [], ◌∷◌, ◌++◌, length, IsTrue}
use Rattle.grasp_core.specs.declared.node_core.NodeCore.{NodeCore}
use Rattle.grasp_desk.specs.declared.desk.DeskPlan.{DeskPlan}
use Rattle.grasp_disk.specs.Calls.{DiskLog}
use Rattle.grasp_io.specs.Told.{Stays, Grows}
use Rattle.grasp_io.specs.declared.links.LinkPlan.{LinkPlan}
use Rattle.grasp_model_node.specs.Node.{NodeState, first_node}
use Rattle.grasp_node_main.specs.Program.{NothingPassed}
use Rattle.grasp_node_main.specs.Tells.{LinksTold, Told, TellsTurn, HandsOnly}
use Rattle.grasp_node_main.specs.Turns.{Turn, turn_calls, loop_call, outputs_in}
use Rattle.grasp_shared.specs.Adding.{Adds}
use Rattle.grasp_shared.specs.History.{History, IsLegalHistory, Reaches}
use Rattle.grasp_shelf.specs.Shelves.{ShelfState, KeptOn}
use Rattle.grasp_types.specs.declared.reply.Reply.{Reply}
use Rattle.grasp_types.specs.declared.traffic.Input.TheVariants as input
use Rattle.grasp_service_visits.specs.Desks.{DeskTold}
use Rattle.grasp_service_visits.specs.Each.{each_after, each_adds, Each}
use Rattle.grasp_service.specs.Cuts.{IsCut, IsCutAsking}
use Rattle.grasp_service.specs.Keeping.{kept_opening, opening_of}
use Rattle.grasp_service.specs.Openings.{IsOpening, opening_calls, opened}
use Rattle.grasp_service.specs.Plans.{crew_of}
use Rattle.grasp_service.specs.Rounds.{crew_in}
use Rattle.grasp_service.specs.Rounds.{Round, Outside, Went, CutShort, AreRounds, TellsRounds, rounds_after, all_round_calls, kept_rounds}
use Rattle.grasp_service.specs.States.{ServiceState, state_of, first_state, with_crew}
use Rattle.grasp_service.specs.declared.cut.Cut.{Cut}
use Rattle.grasp_service.specs.declared.plan.ServicePlan.{ServicePlan}
use Rattle.grasp_service.specs.declared.service.Service.{Service}
use Rattle.grasp_service.specs.declared.service_end.ServiceEnd.{ServiceEnd}
use Rattle.grasp_service.specs.declared.service_end.ServiceEnd.TheVariants as ends

-- ---- the opening

-- the opening calls of a plan's agents, which these replies answered
pub record IsOpened (p : ServicePlan) (replies : List (List Reply)) : Type 0 where
  pub count : length replies ≡ length (crew_of p)
  pub each : Each IsOpening (crew_of p) replies

-- these are the first entries of the node's history
abbrev pub all_opening_calls : ServicePlan → List (List Reply) → History
all_opening_calls p replies = each_adds opening_calls 1 (crew_of p) replies

-- the node behind them
abbrev pub opened_state : ServicePlan → List (List Reply) → ServiceState
opened_state p replies = with_crew (first_state p) (each_after opened (crew_of p) replies)

-- the node of a plan was opened, and its agents made their opening calls
pub record BeganPlan (p : ServicePlan) (s : Service) : Type 0 where
  pub replies : List (List Reply)
  pub opened : IsOpened p replies
  pub reached : Reaches (first_node p.node) (all_opening_calls p replies) s.core
  pub state : state_of s ≡ opened_state p replies

-- ---- rounds

-- rounds were made, in the last of which a visitor stopped the node
pub record Stopped {B : Type 0} (stands : B → DiskLog → Type 0) (faults : B → ℕ) (old : Service) (a : ShelfState B) (before : Outside) (new : Service)
    (b : ShelfState B) (after : Outside) : Type 0 where
  pub went : Went stands faults old a before new b after
  pub stopping : new.house.stopping ≡ true

-- rounds were made, and then one was cut short for this cause
pub record WentShort {B : Type 0} (stands : B → DiskLog → Type 0) (faults : B → ℕ) (old : Service) (a : ShelfState B) (before : Outside) (why : Cut)
    (new : Service) (b : ShelfState B) (after : Told) : Type 0 where
  pub service : Service
  pub shelf : ShelfState B
  pub outside : Outside
  pub went : Went stands faults old a before service shelf outside
  pub cut : CutShort service outside.links new after
  pub is : IsCut stands faults cut.turn.now (crew_in (state_of service) cut.turn) shelf why b

-- rounds were made until a visitor stopped the node, and then the last drain
pub record ServedOn {B : Type 0} (stands : B → DiskLog → Type 0) (faults : B → ℕ) (old : Service) (a : ShelfState B) (before : Outside) (b : ShelfState B)
    (after : Outside) : Type 0 where
  pub rounds : List Round
  pub last : Reply
  pub core : NodeCore
  pub middle : Outside
  pub are : AreRounds (state_of old) rounds
  pub adds : Adds old.core (all_round_calls (state_of old) rounds ++ loop_call (rounds_after (state_of old) rounds).reading (input.Drain 320) last ∷ []) core
  pub stopped : (rounds_after (state_of old) rounds).house.stopping ≡ true
  pub tells : TellsRounds before (state_of old) rounds middle
  pub readings : after.links.readings ≡ middle.links.readings
  pub hands : HandsOnly middle.links.links (outputs_in last) after.links.links
  pub desk : after.desk ≡ middle.desk
  pub kept : KeptOn stands faults a (kept_rounds (state_of old) rounds) b

-- rounds were made, and then one was cut short, where the node wanted memory or its store has a fault: its turn was made, and the history went on;
-- of the desk nothing is said then
pub record FallsShort (old : Service) (before : Outside) (after : Outside) : Type 0 where
  pub rounds : List Round
  pub wait : ℕ
  pub turn : Turn
  pub rest : History
  pub core : NodeCore
  pub middle : Outside
  pub are : AreRounds (state_of old) rounds
  pub adds : Adds old.core (all_round_calls (state_of old) rounds ++ (turn_calls turn ++ rest)) core
  pub tells : TellsRounds before (state_of old) rounds middle
  pub tells_turn : TellsTurn wait middle.links turn after.links

-- so it did for this cause, once the store was asked around all calls of the whole rounds
pub record StopsOn {B : Type 0} (stands : B → DiskLog → Type 0) (faults : B → ℕ) (old : Service) (a : ShelfState B) (before : Outside) (why : Cut)
    (b : ShelfState B) (after : Outside) : Type 0 where
  pub falls : FallsShort old before after
  pub shelf : ShelfState B
  pub kept : KeptOn stands faults a (kept_rounds (state_of old) falls.rounds) shelf
  pub is : IsCut stands faults falls.turn.now (crew_in (rounds_after (state_of old) falls.rounds) falls.turn) shelf why b

-- ---- from the opening to the end

-- the links were opened with this plan, and nothing passed
pub record OpensLinks (p : LinkPlan) (old new : LinksTold) : Type 0 where
  pub is_open : IsTrue new.is_open
  pub plans : Grows old.plans new.plans p
  pub passed : NothingPassed old new

-- the desk was opened with this plan, and nothing passed
pub record OpensDesk (p : DeskPlan) (old new : DeskTold) : Type 0 where
  pub is_open : IsTrue new.is_open
  pub plans : Grows old.plans new.plans p
  pub asks : new.asks ≡ old.asks
  pub given : Stays old.given new.given
  pub told : Stays old.told new.told
  pub came : new.came ≡ old.came

-- the desk wasn't asked, nobody came, and nothing was told; whether it was opened isn't said
pub record NobodyCame (old new : DeskTold) : Type 0 where
  pub asks : new.asks ≡ old.asks
  pub given : Stays old.given new.given
  pub told : Stays old.told new.told
  pub came : new.came ≡ old.came
  pub faults : old.faults ≤ new.faults

-- no round was made: nothing passed over the links, the clock wasn't read, and nobody came
pub record NoRound (old new : Outside) : Type 0 where
  pub links : NothingPassed old.links.links new.links.links
  pub readings : new.links.readings ≡ old.links.readings
  pub desk : NobodyCame old.desk new.desk

-- links or desk couldn't be opened
abbrev pub IsOfDoors : ServiceEnd → Type 0
IsOfDoors ends.LinkFault = Unit {0}
IsOfDoors ends.DeskFault = Unit {0}
IsOfDoors ends.Stopped = ⊥
IsOfDoors ends.OutOfMemory = ⊥
IsOfDoors (ends.StoreFault fault) = ⊥

-- links and desk were opened, and the clock wasn't read
pub record OpensDoors (joining : LinkPlan) (doors : DeskPlan) (old new : Outside) : Type 0 where
  pub links : OpensLinks joining old.links.links new.links.links
  pub readings : new.links.readings ≡ old.links.readings
  pub desk : OpensDesk doors old.desk new.desk

-- Inside: they were opened, and then the node served
pub record ServesOpen {B : Type 0} (stands : B → DiskLog → Type 0) (faults : B → ℕ) (s : Service) (joining : LinkPlan) (doors : DeskPlan) (a : ShelfState B)
    (before : Outside) (b : ShelfState B) (after : Outside) : Type 0 where
  pub ready : Outside
  pub opens : OpensDoors joining doors before ready
  pub served : ServedOn stands faults s a ready b after

-- Inside: they were opened, and then the node fell short
pub record FallsShortOpen (s : Service) (joining : LinkPlan) (doors : DeskPlan) (before after : Outside) : Type 0 where
  pub ready : Outside
  pub opens : OpensDoors joining doors before ready
  pub falls : FallsShort s ready after

-- Inside: they were opened, and then the node stopped for this cause
pub record StopsOpen {B : Type 0} (stands : B → DiskLog → Type 0) (faults : B → ℕ) (s : Service) (joining : LinkPlan) (doors : DeskPlan) (a : ShelfState B)
    (before : Outside) (why : Cut) (b : ShelfState B) (after : Outside) : Type 0 where
  pub ready : Outside
  pub opens : OpensDoors joining doors before ready
  pub stops : StopsOn stands faults s a ready why b after

-- the whole history of a node that serves: the opening calls, then the rounds' calls, then the last drain
abbrev pub served_history : ServicePlan → List (List Reply) → List Round → Reply → History
served_history p replies rounds last =
    all_opening_calls p replies
    ++ (all_round_calls (opened_state p replies) rounds ++ loop_call (rounds_after (opened_state p replies) rounds).reading (input.Drain 320) last ∷ [])

-- the node of a plan served from its opening until a visitor stopped it
pub record Serves (p : ServicePlan) (joining : LinkPlan) (doors : DeskPlan) (before after : Outside) : Type 0 where
  pub replies : List (List Reply)
  pub rounds : List Round
  pub last : Reply
  pub to : NodeState
  pub opened : IsOpened p replies
  pub are : AreRounds (opened_state p replies) rounds
  pub stopped : (rounds_after (opened_state p replies) rounds).house.stopping ≡ true
  pub legal : IsLegalHistory (first_node p.node) (served_history p replies rounds last) to
  pub ready : Outside
  pub middle : Outside
  pub opens : OpensDoors joining doors before ready
  pub tells : TellsRounds ready (opened_state p replies) rounds middle
  pub readings : after.links.readings ≡ middle.links.readings
  pub hands : HandsOnly middle.links.links (outputs_in last) after.links.links
  pub desk : after.desk ≡ middle.desk

-- the history of one of which a round was cut short: the opening calls, the rounds' calls, those of the last turn, and some more
abbrev pub short_history : ServicePlan → List (List Reply) → List Round → Turn → History → History
short_history p replies rounds turn rest = all_opening_calls p replies ++ (all_round_calls (opened_state p replies) rounds ++ (turn_calls turn ++ rest))

-- the node of a plan served from its opening until a round was cut short; of the desk nothing is said behind the rounds before that one
pub record FallsShortServing (p : ServicePlan) (joining : LinkPlan) (doors : DeskPlan) (before after : Outside) : Type 0 where
  pub replies : List (List Reply)
  pub rounds : List Round
  pub wait : ℕ
  pub turn : Turn
  pub rest : History
  pub to : NodeState
  pub opened : IsOpened p replies
  pub are : AreRounds (opened_state p replies) rounds
  pub legal : IsLegalHistory (first_node p.node) (short_history p replies rounds turn rest) to
  pub ready : Outside
  pub middle : Outside
  pub opens : OpensDoors joining doors before ready
  pub tells : TellsRounds ready (opened_state p replies) rounds middle
  pub tells_turn : TellsTurn wait middle.links turn after.links

-- memory was wanted: before the opening calls were made, and then nothing was touched, or in a round
abbrev pub ServesShort : ServicePlan → LinkPlan → DeskPlan → Outside → Outside → Type 0
ServesShort p joining doors before after = (after ≡ before) ⊎ FallsShortServing p joining doors before after

-- Inside: the store was asked behind the opening calls, links and desk were opened, and then the node served
pub record ServesBegun {B : Type 0} (stands : B → DiskLog → Type 0) (faults : B → ℕ) (s : Service) (joining : LinkPlan) (doors : DeskPlan)
    (a : ShelfState B) (before : Outside) (b : ShelfState B) (after : Outside) : Type 0 where
  pub shelf : ShelfState B
  pub begun : KeptOn stands faults a (kept_opening s.house.crew.items) shelf
  pub serves : ServesOpen stands faults s joining doors shelf before b after

-- Inside: so it was, but the node stopped for this cause
pub record StopsLater {B : Type 0} (stands : B → DiskLog → Type 0) (faults : B → ℕ) (s : Service) (joining : LinkPlan) (doors : DeskPlan) (a : ShelfState B)
    (before : Outside) (why : Cut) (b : ShelfState B) (after : Outside) : Type 0 where
  pub shelf : ShelfState B
  pub begun : KeptOn stands faults a (kept_opening s.house.crew.items) shelf
  pub stops : StopsOpen stands faults s joining doors shelf before why b after

-- Inside: this cause came behind the opening calls, and nothing else was touched; or it came later
abbrev pub StopsBegun : {B : Type 0} → (B → DiskLog → Type 0) → (B → ℕ) → Service → LinkPlan → DeskPlan → ShelfState B → Outside → Cut → ShelfState B
    → Outside → Type 0
StopsBegun stands faults s joining doors a before why b after =
    ((after ≡ before) × IsCutAsking stands faults a (opening_of s.house.crew.items) why b) ⊎ StopsLater stands faults s joining doors a before why b after

-- ---- what is kept

-- the disk behind the opening calls and the rounds of a plan's node
abbrev pub kept_life : ServicePlan → List (List Reply) → List Round → DiskLog → DiskLog
kept_life p replies rounds log = kept_rounds (opened_state p replies) rounds (kept_opening (opened_state p replies).house.crew log)

-- the node of a plan served, and its store was asked exactly so: behind the opening calls, and around each later call of the agent of prefixes
pub record ServesKept {B : Type 0} (stands : B → DiskLog → Type 0) (faults : B → ℕ) (p : ServicePlan) (joining : LinkPlan) (doors : DeskPlan)
    (a : ShelfState B) (before : Outside) (b : ShelfState B) (after : Outside) : Type 0 where
  pub serves : Serves p joining doors before after
  pub kept : KeptOn stands faults a (kept_life p serves.replies serves.rounds) b

-- the node of a plan served until a round was cut short for this cause. Before that round the store was asked around all calls of the agent of prefixes, and in
-- it what these calls queued is sent, and nothing that came later: so all that was sent was kept before
pub record StopsServing {B : Type 0} (stands : B → DiskLog → Type 0) (faults : B → ℕ) (p : ServicePlan) (joining : LinkPlan) (doors : DeskPlan)
    (a : ShelfState B) (before : Outside) (why : Cut) (b : ShelfState B) (after : Outside) : Type 0 where
  pub falls : FallsShortServing p joining doors before after
  pub shelf : ShelfState B
  pub kept : KeptOn stands faults a (kept_life p falls.replies falls.rounds) shelf
  pub is : IsCut stands faults falls.turn.now (crew_in (rounds_after (opened_state p falls.replies) falls.rounds) falls.turn) shelf why b

-- the agents of a plan made their opening calls, and then this cause came: nothing else was touched
pub record StopsAtOnce {B : Type 0} (stands : B → DiskLog → Type 0) (faults : B → ℕ) (p : ServicePlan) (a : ShelfState B) (before : Outside) (why : Cut)
    (b : ShelfState B) (after : Outside) : Type 0 where
  pub replies : List (List Reply)
  pub opened : IsOpened p replies
  pub untouched : after ≡ before
  pub is : IsCutAsking stands faults a (opening_of (opened_state p replies).house.crew) why b

-- this cause came behind the opening calls, and then nothing else was touched, or in a round
abbrev pub StopsShort : {B : Type 0} → (B → DiskLog → Type 0) → (B → ℕ) → ServicePlan → LinkPlan → DeskPlan → ShelfState B → Outside → Cut → ShelfState B
    → Outside → Type 0
StopsShort stands faults p joining doors a before why b after =
    StopsAtOnce stands faults p a before why b after ⊎ StopsServing stands faults p joining doors a before why b after
