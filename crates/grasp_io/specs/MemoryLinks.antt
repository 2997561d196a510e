-- Links in memory, as contracts see them. Asks are numbered from 1, and so are sends.
use Rattle.std.specs.Prelude.{◌≡◌, ℕ, ◌+◌, ◌*◌, ◌^◌, ◌==◌, ◌&&◌, nat_lt, nat_le, if◌then◌else◌, Bool, false, true, List, map, take, Option, None, Some, slice_get, ⊤}
use Rattle.grasp_types.specs.declared.traffic.Input.{Input}
use Rattle.grasp_types.specs.declared.traffic.Input.TheVariants.{Api, Datagram, Opened, Bytes, Closed, Drain}
use Rattle.grasp_types.specs.declared.traffic.Output.{Output}
use Rattle.grasp_io.specs.declared.links.LinkPlan.{LinkPlan}
use Rattle.grasp_io.specs.declared.links.Asked.{Asked}
use Rattle.grasp_io.specs.declared.links.Asked.TheVariants.{Got, Nothing, OutOfMemory}
use Rattle.grasp_io.specs.declared.memory_links.Arrival.{Arrival}
use Rattle.grasp_io.specs.Memory.{one_more, next_fails}

-- what comes and how much of it was given, the numbers of the asks that give nothing and of the sends that fail, whether opening fails, with which plans they were opened, what the asks and sends told, how many of them there were, and how many openings and faults
pub record LinksState : Type 0 where
  pub arrivals : List Arrival
  pub next : ℕ
  pub quiet : List ℕ
  pub failing : List ℕ
  pub refuses : Bool
  pub plans : List LinkPlan
  pub waits : List ℕ
  pub handed : List Output
  pub asks : ℕ
  pub sends : ℕ
  pub opened : ℕ
  pub faults : ℕ

-- the inputs of these arrivals
abbrev pub inputs_of : List Arrival → List Input
inputs_of arrivals = map (λ a. a.input) arrivals

-- the inputs given so far
abbrev pub given_of : LinksState → List Input
given_of links = inputs_of (take links.next links.arrivals)

-- links can give it after so many openings: it is no call and no drain, and an opening has the next odd number
abbrev pub can_come : ℕ → Input → Bool
can_come opened (Api asa call) = false
can_come opened (Datagram link from bytes) = true
can_come opened (Opened stream from) = nat_lt opened (2 ^ 62) && stream == 2 * opened + 1
can_come opened (Bytes stream bytes) = true
can_come opened (Closed stream) = true
can_come opened (Drain max) = false

-- what an arrival gives to the ask of this number
abbrev pub given_at : ℕ → ℕ → Option Arrival → Option Input
given_at number opened None = None
given_at number opened (Some arrival) = if nat_le arrival.ask number && can_come opened arrival.input then Some arrival.input else None

-- what the next ask is to give
abbrev pub comes : LinksState → Option Input
comes links = if next_fails links.quiet links.asks then None else given_at (one_more links.asks) links.opened (slice_get links.arrivals links.next)

-- the answer to an ask that is to give this, but for want of memory
abbrev pub IsAsked : Option Input → Asked → Type 0
IsAsked wanted OutOfMemory = ⊤
IsAsked None Nothing = ⊤
IsAsked (Some input) Nothing = ⊥
IsAsked None (Got given) = ⊥
IsAsked (Some input) (Got given) = given ≡ input
