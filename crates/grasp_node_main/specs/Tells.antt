-- What the links and the clock of a node tell of its turns, where they tell it.
use Rattle.std.specs.Prelude.{◌≡◌, ◌≤◌, ◌⊎◌, ℕ, Bool, List, [], ◌∷◌, Option}
use Rattle.grasp_io.specs.Counted.{StaysAt, CountsOne}
use Rattle.grasp_io.specs.Faults.{Rose}
use Rattle.grasp_io.specs.Told.{Stays, Grows}
use Rattle.grasp_io.specs.Links.{Waits, Gives, IsNext}
use Rattle.grasp_io.specs.declared.links.Asked.{Asked}
use Rattle.grasp_io.specs.declared.links.Asked.TheVariants as asked
use Rattle.grasp_io.specs.declared.links.LinkPlan.{LinkPlan}
use Rattle.grasp_io.specs.declared.links.Links.{Ghosts}
use Rattle.grasp_types.specs.declared.reply.Reply.{Reply}
use Rattle.grasp_types.specs.declared.traffic.Input.{Input}
use Rattle.grasp_types.specs.declared.traffic.Output.{Output}
use Rattle.grasp_node_main.specs.Turns.{Asking, got, nothing, no_memory, Turn, turn_outputs, outputs_in}

-- what links tell: whether they are open, the plans that they were opened with, how often they were asked, the waits of the asks, the inputs given and the outputs handed over so far, how many streams peers have opened, and how often they failed
pub record LinksTold : Type 0 where
  pub is_open : Bool
  pub plans : Option (List LinkPlan)
  pub asks : Option ℕ
  pub waits : Option (List ℕ)
  pub given : Option (List Input)
  pub handed : Option (List Output)
  pub opened : ℕ
  pub faults : ℕ

-- what the links report, and the readings that the clock gave so far
pub record Told : Type 0 where
  pub readings : Option (List ℕ)
  pub links : LinksTold

-- what these links tell
abbrev pub links_told : {L : Type 0} → Ghosts L → L → LinksTold
links_told ghosts l = record {
  is_open = ghosts.is_open l;
  plans = ghosts.plans l;
  asks = ghosts.asks l;
  waits = ghosts.waits l;
  given = ghosts.given l;
  handed = ghosts.handed l;
  opened = ghosts.opened l;
  faults = ghosts.faults l;
}

abbrev pub told : Option (List ℕ) → LinksTold → Told
told readings links = record { readings = readings; links = links }

-- an output was handed over and is told; or it was lost, and the count of faults rose
abbrev pub HandsOver : Option (List Output) → ℕ → Output → Option (List Output) → ℕ → Type 0
HandsOver old before output new now = (Grows old new output × (before ≤ now)) ⊎ (Stays old new × Rose before now)

-- the links were handed these outputs, one after the other, and nothing else
abbrev pub HandsAll : Option (List Output) → ℕ → List Output → Option (List Output) → ℕ → Type 0
HandsAll old before [] new now = Stays old new × (before ≤ now)
HandsAll old before (output ∷ outputs) new now = (middle : Option (List Output)) × (count : ℕ) × HandsOver old before output middle count × HandsAll middle count outputs new now

-- the links' own word for what asking them came to
abbrev pub asked_in : Asking → Asked
asked_in (got i r) = asked.Got i
asked_in nothing = asked.Nothing
asked_in no_memory = asked.OutOfMemory

-- the links were asked once, with this wait, and that came of it: no call and no drain, and a stream that a peer opened has the next odd
-- number; nothing was opened or handed over
pub record AsksOnce (wait : ℕ) (old : LinksTold) (came : Asked) (new : LinksTold) : Type 0 where
  pub is_open : new.is_open ≡ old.is_open
  pub plans : Stays old.plans new.plans
  pub asks : CountsOne old.asks new.asks
  pub waits : Waits old.waits new.waits came wait
  pub given : Gives old.given new.given came
  pub handed : Stays old.handed new.handed
  pub next : IsNext old.opened new.opened came
  pub faults : old.faults ≤ new.faults

-- the links were handed these outputs, and nothing was opened or asked
pub record HandsOnly (old : LinksTold) (outputs : List Output) (new : LinksTold) : Type 0 where
  pub is_open : new.is_open ≡ old.is_open
  pub plans : Stays old.plans new.plans
  pub asks : StaysAt old.asks new.asks
  pub waits : Stays old.waits new.waits
  pub given : Stays old.given new.given
  pub handed : HandsAll old.handed old.faults outputs new.handed new.faults
  pub opened : new.opened ≡ old.opened

-- in a turn the clock was read once, then the links were asked once, and then the turn's outputs were handed over
pub record TellsTurn (wait : ℕ) (old : Told) (t : Turn) (new : Told) : Type 0 where
  pub readings : Grows old.readings new.readings t.now
  pub asked : LinksTold
  pub asks : AsksOnce wait old.links (asked_in t.asking) asked
  pub hands : HandsOnly asked (turn_outputs t) new.links

-- turn by turn
abbrev pub TellsTurns : ℕ → Told → List Turn → Told → Type 0
TellsTurns wait old [] new = new ≡ old
TellsTurns wait old (t ∷ ts) new = (middle : Told) × TellsTurn wait old t middle × TellsTurns wait middle ts new

-- the turns, and after the last one the outputs of the last drain
pub record TellsRun (wait : ℕ) (old : Told) (ts : List Turn) (last : Reply) (new : Told) : Type 0 where
  pub middle : Told
  pub turns : TellsTurns wait old ts middle
  pub readings : new.readings ≡ middle.readings
  pub hands : HandsOnly middle.links (outputs_in last) new.links
