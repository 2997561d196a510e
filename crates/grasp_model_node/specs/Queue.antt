-- What a node has queued, and what goes out for it.
use Rattle.std.specs.Prelude.{ℕ, ◌+◌, ◌==◌, Bool, not, nat_le, List, [], ◌∷◌, ◌++◌, length, map, filter}
use Rattle.grasp_cbor.specs.Shortest.{shortest}
use Rattle.grasp_types.specs.Message.{item_of}
use Rattle.grasp_types.specs.declared.address.Locator.{Locator}
use Rattle.grasp_types.specs.declared.links.Neighbour.{Neighbour}
use Rattle.grasp_types.specs.declared.message.Message.{Message}
use Rattle.grasp_types.specs.declared.traffic.Output.{Output}
use Rattle.grasp_types.specs.declared.traffic.Output.TheVariants as output
use Rattle.grasp_model_node.specs.declared.way.Way.{Way}

-- a message for a neighbour on a link, a stream to be opened, or a message for a stream
pub data Queued : Type 0 where
  datagram : (link : ℕ) (to : ℕ) (message : Message) → Queued
  dial : (stream : ℕ) (to : Locator) → Queued
  send : (stream : ℕ) (message : Message) → Queued

-- the bytes of a message that is sent: its shortest encoding
abbrev pub encoding : Message → List ℕ
encoding m = shortest (item_of m)

-- what goes out for what is queued
abbrev pub output_of : Queued → Output
output_of (datagram link to m) = output.Datagram link to (encoding m)
output_of (dial stream to) = output.Dial stream to
output_of (send stream m) = output.Send stream (encoding m)

-- a message fits where its encoding has at most so many bytes
abbrev pub fits : ℕ → Message → Bool
fits limit m = nat_le (length (encoding m)) limit

-- how many outputs are queued at most
abbrev pub most_queued : ℕ
most_queued = 256

-- the queue has room for so many more outputs
abbrev pub has_room : List Queued → ℕ → Bool
has_room queue count = nat_le (length queue + count) most_queued

-- the ways to the neighbours of one link, of which the first has this number
abbrev pub ways_on : ℕ → ℕ → List Neighbour → List Way
ways_on link to [] = []
ways_on link to (neighbour ∷ neighbours) = record { link = link; to = to } ∷ ways_on link (to + 1) neighbours

-- the ways to the neighbours of all links in order, of which the first has this number
abbrev pub ways_from : ℕ → List (List Neighbour) → List Way
ways_from link [] = []
ways_from link (neighbours ∷ links) = ways_on link 0 neighbours ++ ways_from (link + 1) links

-- the ways to every neighbour of every link, in order
abbrev pub all_ways : List (List Neighbour) → List Way
all_ways links = ways_from 0 links

-- the ways to every neighbour of every other link, in order
abbrev pub other_ways : ℕ → List (List Neighbour) → List Way
other_ways link links = filter (λ way. not (way.link == link)) (all_ways links)

-- a datagram with the message along each way
abbrev pub along : Message → List Way → List Queued
along m ways = map (λ way. datagram way.link way.to m) ways
