-- The calls on searches and floods (RFC 8991, sections 2.3.4 and 2.3.6): what they answer, and the node after them.
use Rattle.std.specs.Prelude.{ℕ, Bool, true, false, List, [], ◌∷◌, length, None, Some, Result}
use Rattle.grasp_cbor.specs.DataItem.{DataItem}
use Rattle.grasp_discovery.specs.Discoveries.{find_answer, after_find, with_search, search_from}
use Rattle.grasp_discovery.specs.Topic.{topic_of}
use Rattle.grasp_discovery.specs.declared.answers.Find.{Find}
use Rattle.grasp_discovery.specs.declared.answers.Find.TheVariants as find
use Rattle.grasp_flood.specs.Flood.{key_of}
use Rattle.grasp_flood.specs.Floods.{reads_of, after_drop}
use Rattle.grasp_types.specs.declared.address.Address.{Address}
use Rattle.grasp_types.specs.declared.flood.FloodPart.{FloodPart}
use Rattle.grasp_types.specs.declared.message.Message.{Message}
use Rattle.grasp_types.specs.declared.message.Message.TheVariants.{Discovery, Flood}
use Rattle.grasp_types.specs.declared.objective.Objective.{Objective}
use Rattle.grasp_types.specs.declared.refusal.ApiRefused.{ApiRefused}
use Rattle.grasp_types.specs.declared.reply.ApiAnswer.{ApiAnswer}
use Rattle.grasp_types.specs.declared.reply.ApiAnswer.TheVariants.{Searching, Found, Nothing, NotYet, Floods}
use Rattle.grasp_types.specs.declared.session.Kind.{Kind}
use Rattle.grasp_types.specs.declared.session.Kind.TheVariants.{Negotiation, Synchronization}
use Rattle.grasp_model_node.specs.Answered.{if_answered, IsDone, Is}
use Rattle.grasp_model_node.specs.Draws.{next_session}
use Rattle.grasp_model_node.specs.Moves.{with_discoveries, with_floods, with_draw, queue_up}
use Rattle.grasp_model_node.specs.Node.{NodeState}
use Rattle.grasp_model_node.specs.Queue.{all_ways, along}
use Rattle.grasp_model_node.specs.Refusals.{Sending, MayAnswer, nothing_sent}
use Rattle.grasp_model_node.specs.SessionCalls.{flags_or}
use Rattle.grasp_model_node.specs.Tests.{agent_tests, discover_tests, synchronization_tests, expire_flood_tests, sending, owned_flags}

-- a message to every neighbour of every link
abbrev pub to_all : NodeState → Message → NodeState
to_all n m = queue_up n (along m (all_ways n.plan.links))

-- how many neighbours there are
abbrev pub count_all : NodeState → ℕ
count_all n = length (all_ways n.plan.links)

-- ---- discover: the cached locators; else how the caller's search stands; else a search begins

-- the flags of what is looked for: F_DISC, and F_NEG or F_SYNCH
abbrev pub wanted_flags : Kind → ℕ
wanted_flags Negotiation = 3
wanted_flags Synchronization = 5

abbrev pub looked_for : List ℕ → Kind → ℕ → Objective
looked_for name kind loops = record { name = name; flags = wanted_flags kind; loops = loops; value = None }

abbrev pub discovery_message : NodeState → List ℕ → Kind → ℕ → Message
discovery_message n name kind loops = Discovery (next_session n) n.plan.address (looked_for name kind loops)

abbrev pub find_of : NodeState → ℕ → List ℕ → Kind → Find
find_of n asa name kind = find_answer n.discoveries asa (topic_of name kind)

-- a search is to begin
abbrev pub is_fresh : Find → Bool
is_fresh find.Fresh = true
is_fresh _ = false

abbrev pub found_as : Find → ApiAnswer
found_as (find.Found locators) = Found locators
found_as find.NotYet = NotYet
found_as find.Nothing = Nothing
found_as find.Fresh = Searching

-- what a search that begins is to send
abbrev pub searching : NodeState → Find → List ℕ → Kind → ℕ → Sending
searching n find.Fresh name kind loops = sending n (discovery_message n name kind loops) (count_all n)
searching n _ name kind loops = nothing_sent

abbrev pub MayDiscover : NodeState → ℕ → List ℕ → Kind → ℕ → Result ApiAnswer ApiRefused → Type 0
MayDiscover n asa name kind loops =
    MayAnswer (discover_tests n asa (is_fresh (find_of n asa name kind))) (searching n (find_of n asa name kind) name kind loops)
    (Unit {0}) (Is (found_as (find_of n asa name kind)))

-- a search begins: it is over at the reading plus the timeout
abbrev pub begun : NodeState → ℕ → List ℕ → Kind → ℕ → ℕ → NodeState
begun n asa name kind loops timeout =
    to_all
    (with_draw (with_discoveries n (with_search n.discoveries (search_from n.reading asa (topic_of name kind) (next_session n) timeout))))
    (discovery_message n name kind loops)

abbrev pub looked : NodeState → ℕ → List ℕ → Kind → ℕ → ℕ → Find → NodeState
looked n asa name kind loops timeout find.Fresh = begun n asa name kind loops timeout
looked n asa name kind loops timeout answer = with_discoveries n (after_find n.discoveries asa (topic_of name kind) answer)

abbrev pub after_discovering : NodeState → ℕ → List ℕ → Kind → ℕ → ℕ → Result ApiAnswer ApiRefused → NodeState
after_discovering n asa name kind loops timeout = if_answered n (looked n asa name kind loops timeout (find_of n asa name kind))

-- ---- flood: the objective with its registered flags and no locator, to every neighbour of every link

abbrev pub flooded : NodeState → ℕ → List ℕ → DataItem → ℕ → FloodPart
flooded n asa name value loops = record {
  objective = record { name = name; flags = flags_or (owned_flags n asa name); loops = loops; value = Some value };
  locator = None;
}

abbrev pub flood_message : NodeState → ℕ → List ℕ → DataItem → ℕ → ℕ → Message
flood_message n asa name value ttl loops = Flood (next_session n) n.plan.address ttl (flooded n asa name value loops ∷ [])

abbrev pub MayFlood : NodeState → ℕ → List ℕ → DataItem → ℕ → ℕ → Result ApiAnswer ApiRefused → Type 0
MayFlood n asa name value ttl loops =
    MayAnswer (synchronization_tests n asa name) (sending n (flood_message n asa name value ttl loops) (count_all n)) (Unit {0}) IsDone

abbrev pub after_flooding : NodeState → ℕ → List ℕ → DataItem → ℕ → ℕ → Result ApiAnswer ApiRefused → NodeState
after_flooding n asa name value ttl loops = if_answered n (to_all (with_draw n) (flood_message n asa name value ttl loops))

-- ---- get_flood and expire_flood

abbrev pub MayGet : NodeState → ℕ → List ℕ → Result ApiAnswer ApiRefused → Type 0
MayGet n asa name = MayAnswer (agent_tests n asa) nothing_sent (Unit {0}) (Is (Floods (reads_of n.floods name)))

abbrev pub MayExpire : NodeState → ℕ → List ℕ → Address → Result ApiAnswer ApiRefused → Type 0
MayExpire n asa name initiator = MayAnswer (expire_flood_tests n asa name initiator) nothing_sent ⊥ IsDone

abbrev pub after_expiring : NodeState → List ℕ → Address → Result ApiAnswer ApiRefused → NodeState
after_expiring n name initiator = if_answered n (with_floods n (after_drop n.floods (key_of name initiator)))
