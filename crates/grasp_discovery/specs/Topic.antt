-- What is looked for, and when two look for the same.
use Rattle.std.specs.Prelude.{ℕ, Bool, if◌then◌else◌, List}
use Rattle.grasp_types.specs.declared.session.Kind.{Kind}
use Rattle.grasp_types.specs.declared.session.Kind.TheVariants.{Negotiation, Synchronization}
use Rattle.grasp_types.specs.Objective.{has_neg}
use Rattle.grasp_discovery.specs.declared.topic.Topic.{Topic}
use Rattle.grasp_discovery.specs.contracts.topic.TopicPartialEq.TheImpl.{ghosts}

-- what `==` answers at two topics: name and use are one
abbrev pub same_topic : Topic → Topic → Bool
same_topic = ghosts.eq

-- the topic of this name and this use
abbrev pub topic_of : List ℕ → Kind → Topic
topic_of text wanted = record { name = text; kind = wanted }

-- a discovery looks for negotiation where F_NEG is set, and else for synchronization
abbrev pub kind_of : ℕ → Kind
kind_of flags = if has_neg flags then Negotiation else Synchronization
