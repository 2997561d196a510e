-- What it is that a search began a discovery, and that it stays so along the discovery's way.
use Rattle.std.proofs.Common.{◌≡◌, ℕ, List, ◌++◌, Option}
use Rattle.std.specs.Prelude.{Contains}
use Rattle.std.proofs.lemmas.List.Elements.{Contains-append_left}
use Rattle.grasp_model_node.specs.Datagrams.{lowered}
use Rattle.grasp_model_node.specs.FloodCalls.{wanted_flags}
use Rattle.grasp_model_node.specs.Queue.{Queued}
use Rattle.grasp_discovery.specs.Topic.{topic_of, kind_of}
use Rattle.grasp_discovery.specs.declared.memory.Memory.{Memory}
use Rattle.grasp_discovery.specs.declared.search.Search.{Search}
use Rattle.grasp_discovery.specs.declared.topic.Topic.{Topic}
use Rattle.grasp_types.specs.declared.address.Address.{Address}
use Rattle.grasp_types.specs.declared.message.Message.{Message}
use Rattle.grasp_types.specs.declared.message.Message.TheVariants.{Discovery}
use Rattle.grasp_types.specs.declared.objective.Objective.{Objective}
use Rattle.grasp_types.specs.declared.origin.Origin.{Origin}
use Rattle.grasp_laws_floods.proofs.Queueing.{OptionIs, QueuedIs, queued_weaker}
use Rattle.grasp_laws_floods.specs.Sought.{Sought, IsKeptSearch}

-- one of these searches began it, and told its initiator's address
pub record Looks (xs : List Sought) (session : ℕ) (initiator : Address) (topic : Topic) : Type 0 where
  pub it : Sought
  pub among : Contains xs it
  pub told : initiator ≡ it.search.address
  pub session_is : session ≡ it.search.session
  pub topic_is : topic ≡ it.topic

pub record DiscoveryLooks (xs : List Sought) (session : ℕ) (initiator : Address) (o : Objective) : Type 0 where
  pub search : Looks xs session initiator (topic_of o.name (kind_of o.flags))
  pub flags : o.flags ≡ wanted_flags (kind_of o.flags)

abbrev pub MessageLooks : List Sought → Message → Type 0
MessageLooks xs (Discovery session initiator o) = DiscoveryLooks xs session initiator o
MessageLooks xs _ = Unit {0}

abbrev pub OptionLooks : List Sought → Option Message → Type 0
OptionLooks xs m = OptionIs (MessageLooks xs) m

abbrev pub QueuedLooks : List Sought → Queued → Type 0
QueuedLooks xs q = QueuedIs (MessageLooks xs) q

abbrev pub MemoryLooks : List Sought → Origin × Memory → Type 0
MemoryLooks xs memory = Looks xs memory.0.session memory.0.initiator memory.1.topic

-- one of these searches is kept
pub record SearchLooks (xs : List Sought) (node : ℕ) (search : Search) : Type 0 where
  pub it : Sought
  pub among : Contains xs it
  pub is : IsKeptSearch node search it

-- ---- more searches

pub looks_more : (xs more : List Sought) (session : ℕ) (initiator : Address) (topic : Topic) → Looks xs session initiator topic → Looks (xs ++ more) session initiator topic
looks_more xs more session initiator topic k = record {
  it = k.it;
  among = Contains-append_left xs more k.it k.among;
  told = k.told;
  session_is = k.session_is;
  topic_is = k.topic_is;
}

pub message_looks_more : (xs more : List Sought) (m : Message) → MessageLooks xs m → MessageLooks (xs ++ more) m
message_looks_more xs more (Discovery session initiator o) k =
    record { search = looks_more xs more session initiator (topic_of o.name (kind_of o.flags)) k.search; flags = k.flags }
message_looks_more xs more _ k = tt

pub queued_looks_more : (xs more : List Sought) (q : Queued) → QueuedLooks xs q → QueuedLooks (xs ++ more) q
queued_looks_more xs more = queued_weaker (MessageLooks xs) (MessageLooks (xs ++ more)) (message_looks_more xs more)

pub search_looks_more : (xs more : List Sought) (node : ℕ) (search : Search) → SearchLooks xs node search → SearchLooks (xs ++ more) node search
search_looks_more xs more node search k = record { it = k.it; among = Contains-append_left xs more k.it k.among; is = k.is }

-- one that is sent on looks for the same
pub lowered_looks : (xs : List Sought) (session : ℕ) (initiator : Address) (o : Objective) → DiscoveryLooks xs session initiator o → DiscoveryLooks xs session initiator (lowered o)
lowered_looks xs session initiator o k = record { search = k.search; flags = k.flags }
