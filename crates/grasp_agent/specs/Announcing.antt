-- Agents that announce a value, and agents that read one. Their names and the order of their calls are this project's own.
use Rattle.std.specs.Prelude.{◌≡◌, ℕ, Bool, true, false, if◌then◌else◌, List, [], ◌++◌, Option, Some, None, codes, decimal}
use Rattle.grasp_cbor.specs.DataItem.{DataItem}
use Rattle.grasp_types.specs.declared.call.Call.{Call}
use Rattle.grasp_types.specs.declared.call.Call.TheVariants as call
use Rattle.grasp_types.specs.declared.flood.FloodRead.{FloodRead}
use Rattle.grasp_types.specs.declared.reply.ApiAnswer.{ApiAnswer}
use Rattle.grasp_types.specs.declared.reply.ApiAnswer.TheVariants as answer
use Rattle.grasp_types.specs.declared.reply.Reply.{Reply}
use Rattle.grasp_agent.specs.Replies.{answer_in, asa_in, is_done}
use Rattle.grasp_agent.specs.declared.beacon.Step.{Step}
use Rattle.grasp_agent.specs.declared.beacon.Step.TheVariants.{Registering, Declaring, Offering, Flooding, Repeating}

-- ---- beacons

-- the number of its name, its objective and value, the lifetime and the loop count of its flood, its number at its node (0 before
-- it is registered), and the call that is next
pub record BeaconState : Type 0 where
  pub number : ℕ
  pub name : List ℕ
  pub value : DataItem
  pub ttl : ℕ
  pub loops : ℕ
  pub asa : ℕ
  pub step : Step

abbrev pub first_beacon : ℕ → List ℕ → DataItem → ℕ → ℕ → BeaconState
first_beacon number name value ttl loops = record { number = number; name = name; value = value; ttl = ttl; loops = loops; asa = 0; step = Registering }

-- the name under which it registers
unfoldable pub beacon_name : ℕ → List ℕ
beacon_name number = codes "beacon " ++ decimal number

-- a beacon registers itself and its objective, offers its value, floods it once, and offers it again and again
unfoldable pub beacon_call : BeaconState → Call
beacon_call b = by_step b.step where
  by_step : Step → Call
  by_step Registering = call.RegisterAsa (beacon_name b.number)
  by_step Declaring = call.RegisterObjective b.name 5
  by_step Offering = call.ListenSynchronize b.name b.value
  by_step Flooding = call.Flood b.name b.value b.ttl b.loops
  by_step Repeating = call.ListenSynchronize b.name b.value

abbrev pub registered_beacon : BeaconState → Option ℕ → BeaconState
registered_beacon b None = b
registered_beacon b (Some n) = record b { asa = n; step = Declaring }

-- a call that isn't done is made again
unfoldable pub after_beacon : BeaconState → Reply → BeaconState
after_beacon b r = by_step b.step where
  by_step : Step → BeaconState
  by_step Registering = registered_beacon b (asa_in (answer_in r))
  by_step Declaring = if is_done (answer_in r) then record b { step = Offering } else b
  by_step Offering = if is_done (answer_in r) then record b { step = Flooding } else b
  by_step Flooding = if is_done (answer_in r) then record b { step = Repeating } else b
  by_step Repeating = b

-- one that has flooded its value floods it again
unfoldable pub flooding_again : BeaconState → BeaconState
flooding_again b = by_step b.step where
  by_step : Step → BeaconState
  by_step Repeating = record b { step = Flooding }
  by_step _ = b

-- ---- readers

-- the number of its name, the objective that it reads, its number at its node (0 before it is registered), whether it is registered,
-- and what floods told last
pub record ReaderState : Type 0 where
  pub number : ℕ
  pub name : List ℕ
  pub asa : ℕ
  pub registered : Bool
  pub reads : List FloodRead

abbrev pub first_reader : ℕ → List ℕ → ReaderState
first_reader number name = record { number = number; name = name; asa = 0; registered = false; reads = [] }

-- the name under which it registers
unfoldable pub reader_name : ℕ → List ℕ
reader_name number = codes "reader " ++ decimal number

-- a reader registers itself, and reads what floods reported of its objective again and again
unfoldable pub reader_call : ReaderState → Call
reader_call r = if r.registered then call.GetFlood r.name else call.RegisterAsa (reader_name r.number)

abbrev pub registered_reader : ReaderState → Option ℕ → ReaderState
registered_reader s None = s
registered_reader s (Some n) = record s { asa = n; registered = true }

-- what floods told
abbrev pub reads_in : Option ApiAnswer → Option (List FloodRead)
reads_in None = None
reads_in (Some a) = by_answer a where
  by_answer : ApiAnswer → Option (List FloodRead)
  by_answer (answer.Floods reads) = Some reads
  by_answer _ = None

abbrev pub keeping : ReaderState → Option (List FloodRead) → ReaderState
keeping s None = s
keeping s (Some reads) = record s { reads = reads }

-- a reply that is only looked at moves the registration on
unfoldable pub after_reader : ReaderState → Reply → ReaderState
after_reader s r = if s.registered then s else registered_reader s (asa_in (answer_in r))

-- one that is handed over is kept, too
unfoldable pub after_keep : ReaderState → Reply → ReaderState
after_keep s r = if s.registered then keeping s (reads_in (answer_in r)) else registered_reader s (asa_in (answer_in r))

-- whether a reply is looked at or handed over, the reader's next call and its number are the same
abbrev pub ReadersAgree : Type 0
ReadersAgree = (s : ReaderState) (r : Reply) → (reader_call (after_keep s r) ≡ reader_call (after_reader s r)) × ((after_keep s r).asa ≡ (after_reader s r).asa)
