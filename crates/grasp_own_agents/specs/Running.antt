-- A node that runs with its agents: the opening calls, then turns, then a last drain.
use Rattle.std.specs.Prelude.{◌≡◌, ℕ, IsTrue, List, [], ◌∷◌, ◌++◌, length, Option}
use Rattle.std.specs.List.{AllByRecursion}
use Rattle.grasp_agent.specs.declared.agent.Agent.{Ghosts}
use Rattle.grasp_core.specs.declared.node_core.NodeCore.{NodeCore}
use Rattle.grasp_io.specs.Told.{Grows}
use Rattle.grasp_io.specs.declared.links.Asked.{Asked}
use Rattle.grasp_io.specs.declared.links.LinkPlan.{LinkPlan}
use Rattle.grasp_node_main.specs.Program.{NothingPassed}
use Rattle.grasp_node_main.specs.Tells.{LinksTold, Told, TellsTurn, HandsOnly, asked_in}
use Rattle.grasp_node_main.specs.Turns.{Asking, got, Turn, turn_calls, asking_calls, loop_call, closed_again, closings, outputs_in}
use Rattle.grasp_own_agents.specs.Acting.{all_agent_calls, all_after}
use Rattle.grasp_shared.specs.Adding.{Adds}
use Rattle.grasp_shared.specs.Calls.{GoesOn, answered}
use Rattle.grasp_shared.specs.History.{History}
use Rattle.grasp_types.specs.declared.reply.Reply.{Reply}
use Rattle.grasp_types.specs.declared.traffic.Input.{Input}
use Rattle.grasp_types.specs.declared.traffic.Input.TheVariants as input

-- ---- the links

-- the links were opened with this plan, and nothing passed
pub record OpensLinks (p : LinkPlan) (old new : LinksTold) : Type 0 where
  pub is_open : IsTrue new.is_open
  pub plans : Grows old.plans new.plans p
  pub passed : NothingPassed old new

-- Inside: an input went to the node
pub record GivesIn (old : NodeCore) (now : ℕ) (i : Input) (away : Option ℕ) (new : NodeCore) : Type 0 where
  pub reply : Reply
  pub went : GoesOn old (answered now i reply) new
  pub away_is : closings away ≡ closed_again (got i reply)

-- Inside: what came of asking the links went to the node
pub record TakesIn (old : NodeCore) (now : ℕ) (asked : Asked) (away : Option ℕ) (new : NodeCore) : Type 0 where
  pub asking : Asking
  pub asked_is : asked ≡ asked_in asking
  pub adds : Adds old (asking_calls now asking) new
  pub away_is : closings away ≡ closed_again asking

-- Inside: a turn was exchanged with the links, at this reading
pub record Exchanged (wait : ℕ) (old : NodeCore) (before : Told) (now : ℕ) (new : NodeCore) (after : Told) : Type 0 where
  pub turn : Turn
  pub reading : now ≡ turn.now
  pub adds : Adds old (turn_calls turn) new
  pub tells : TellsTurn wait before turn after

-- Inside: the node was drained once more, at this reading
pub record Drained (now : ℕ) (old : NodeCore) (before : LinksTold) (new : NodeCore) (after : LinksTold) : Type 0 where
  pub reply : Reply
  pub went : GoesOn old (answered now (input.Drain 320) reply) new
  pub hands : HandsOnly before (outputs_in reply) after

-- ---- the agents, from round to round

-- a turn, and the replies to the agents' calls behind it
pub record Round : Type 0 where
  pub turn : Turn
  pub replies : List Reply

-- the reading of the newest turn, or 0 where there is none
abbrev pub reading_of : List Round → ℕ
reading_of [] = 0
reading_of (r ∷ earlier) = r.turn.now

-- turn by turn, of which the newest stands first: what the links and the clock tell
abbrev pub TellsRounds : ℕ → Told → List Round → Told → Type 0
TellsRounds wait old [] new = new ≡ old
TellsRounds wait old (r ∷ earlier) new = (middle : Told) × TellsRounds wait old earlier middle × TellsTurn wait middle r.turn new

module _ {A : Type 0} (agent : Ghosts A) where
  -- the agents behind rounds of calls that were answered so; the newest stands first
  abbrev pub after_openings : List A → List (List Reply) → List A
  after_openings agents [] = agents
  after_openings agents (replies ∷ earlier) = all_after agent (after_openings agents earlier) replies

  -- their calls, in the order in which they were made
  abbrev pub opening_calls : List A → List (List Reply) → History
  opening_calls agents [] = []
  opening_calls agents (replies ∷ earlier) = opening_calls agents earlier ++ all_agent_calls agent (after_openings agents earlier) replies

  -- the agents behind turns, of which the newest stands first
  abbrev pub after_rounds : List A → List Round → List A
  after_rounds agents [] = agents
  after_rounds agents (r ∷ earlier) = all_after agent (after_rounds agents earlier) r.replies

  -- the calls of turns: in each the loop's, and then the agents'
  abbrev pub round_calls : List A → List Round → History
  round_calls agents [] = []
  round_calls agents (r ∷ earlier) = round_calls agents earlier ++ (turn_calls r.turn ++ all_agent_calls agent (after_rounds agents earlier) r.replies)

  -- each agent made so many opening calls
  pub record Opened (count : ℕ) (old : NodeCore) (agents : List A) (new : NodeCore) (others : List A) : Type 0 where
    pub replies : List (List Reply)
    pub count_is : length replies ≡ count
    pub each : AllByRecursion (λ rs. length rs ≡ length agents) replies
    pub adds : Adds old (opening_calls agents replies) new
    pub after : others ≡ after_openings agents replies

  -- so many turns were made, the last at this reading
  pub record Went (count wait : ℕ) (old : NodeCore) (agents : List A) (before : Told) (now : ℕ) (new : NodeCore) (others : List A) (after : Told) : Type 0 where
    pub rounds : List Round
    pub count_is : length rounds ≡ count
    pub each : AllByRecursion (λ r. length r.replies ≡ length agents) rounds
    pub adds : Adds old (round_calls agents rounds) new
    pub after_is : others ≡ after_rounds agents rounds
    pub reading : now ≡ reading_of rounds
    pub tells : TellsRounds wait before rounds after

  -- Inside: the links were opened, so many turns were made, and the node was drained once more
  pub record RanOpen (count wait : ℕ) (p : LinkPlan) (old : NodeCore) (agents : List A) (before : Told) (new : NodeCore) (others : List A) (after : Told) : Type 0 where
    pub rounds : List Round
    pub last : Reply
    pub ready : Told
    pub middle : Told
    pub count_is : length rounds ≡ count
    pub each : AllByRecursion (λ r. length r.replies ≡ length agents) rounds
    pub adds : Adds old (round_calls agents rounds ++ loop_call (reading_of rounds) (input.Drain 320) last ∷ []) new
    pub after_is : others ≡ after_rounds agents rounds
    pub unread : ready.readings ≡ before.readings
    pub opens : OpensLinks p before.links ready.links
    pub tells : TellsRounds wait ready rounds middle
    pub readings : after.readings ≡ middle.readings
    pub hands : HandsOnly middle.links (outputs_in last) after.links

  -- each agent made so many opening calls; then the links were opened, so many turns were made, and the node was drained once more. The history is
  -- the opening calls, the turns' calls, and the last drain.
  pub record Ran (opening count wait : ℕ) (p : LinkPlan) (old : NodeCore) (agents : List A) (before : Told) (new : NodeCore) (others : List A) (after : Told) : Type 0 where
    pub replies : List (List Reply)
    pub rounds : List Round
    pub last : Reply
    pub ready : Told
    pub middle : Told
    pub opening_is : length replies ≡ opening
    pub count_is : length rounds ≡ count
    pub each_opening : AllByRecursion (λ rs. length rs ≡ length agents) replies
    pub each : AllByRecursion (λ r. length r.replies ≡ length agents) rounds
    pub adds : Adds old (opening_calls agents replies ++ (round_calls (after_openings agents replies) rounds ++ loop_call (reading_of rounds) (input.Drain 320) last ∷ [])) new
    pub after_is : others ≡ after_rounds (after_openings agents replies) rounds
    pub unread : ready.readings ≡ before.readings
    pub opens : OpensLinks p before.links ready.links
    pub tells : TellsRounds wait ready rounds middle
    pub readings : after.readings ≡ middle.readings
    pub hands : HandsOnly middle.links (outputs_in last) after.links
