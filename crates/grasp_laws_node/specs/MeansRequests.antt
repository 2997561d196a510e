-- What each answer of a request means, in plain facts (RFC 8991, sections 2.3.5 and 2.3.6).
use Rattle.std.specs.Prelude.{◌≡◌, ◌<◌, ◌+◌, ◌*◌, ◌^◌, ◌++◌, ℕ, Bool, true, false, List, [], ◌∷◌, length, None, Some, Ok, slice_set}
use Rattle.grasp_asa.specs.Registrations.{is_registered}
use Rattle.grasp_cbor.specs.DataItem.{DataItem}
use Rattle.grasp_session.specs.Messages.{Near}
use Rattle.grasp_session.specs.Says.{Starts}
use Rattle.grasp_session.specs.Transcript.{opening}
use Rattle.grasp_types.specs.Address.{is_dialable}
use Rattle.grasp_types.specs.Objective.{has_synch, has_dry, dry_flags}
use Rattle.grasp_types.specs.declared.address.Locator.{Locator}
use Rattle.grasp_types.specs.declared.message.Message.{Message}
use Rattle.grasp_types.specs.declared.message.Message.TheVariants.{ReqNeg, ReqSyn}
use Rattle.grasp_types.specs.declared.objective.Objective.{Objective}
use Rattle.grasp_types.specs.declared.reply.ApiAnswer.{ApiAnswer}
use Rattle.grasp_types.specs.declared.reply.ApiAnswer.TheVariants as answer
use Rattle.grasp_types.specs.declared.session.Handle.{Handle}
use Rattle.grasp_types.specs.declared.session.Kind.{Kind}
use Rattle.grasp_types.specs.declared.session.Kind.TheVariants.{Negotiation, Synchronization}
use Rattle.grasp_wire.specs.Cutter.{no_past}
use Rattle.grasp_model_node.specs.Draws.{next_session}
use Rattle.grasp_laws_node.specs.Means.{Fits, Negotiates}
use Rattle.grasp_model_node.specs.Node.{NodeState}
use Rattle.grasp_model_node.specs.Queue.{send, dial}
use Rattle.grasp_model_node.specs.SessionCalls.{MayRequest, after_request, MaySynchronize, after_synchronizing}
use Rattle.grasp_model_node.specs.BoundedNodes.{IsBoundedNode}
use Rattle.grasp_model_node.specs.Tests.{owned_flags}

-- ---- requests

-- the peer can be dialled, there is room for a stream and for what is queued, and the request fits
pub record Dials (n : NodeState) (peer : Locator) (m : Message) : Type 0 where
  pub dialable : is_dialable peer ≡ true
  pub few_records : length n.streams.records < 64
  pub few_dialled : n.streams.dialled < 2 ^ 62
  pub fits : Fits n m 2

-- A session of this agent has begun at this handle, at the reading and with the timeout; its stream, of twice the number of
-- those that were dialled, is dialled and open; its request is queued behind the dialling, behind all others; and one more
-- word is drawn. Nothing else has changed
abbrev pub having_asked : NodeState → ℕ → Kind → ℕ → Objective → Locator → Handle → Message → NodeState
having_asked n asa kind timeout o peer h m = record n {
  sessions = record {
    made = n.sessions.made + 1;
    places = slice_set n.sessions.places h.place
        (Some (record { number = n.sessions.made + 1; owner = asa; stream = 2 * n.streams.dialled; view = opening kind Near timeout n.reading (next_session n) o }));
    gone = n.sessions.gone;
  };
  streams = record {
    records = n.streams.records ++ record { number = 2 * n.streams.dialled; from = None; past = Some no_past } ∷ [];
    dialled = n.streams.dialled + 1;
  };
  queue = n.queue ++ dial (2 * n.streams.dialled) peer ∷ send (2 * n.streams.dialled) m ∷ [];
  drawn = n.drawn + 1;
}

-- what is asked for: the registered flags, with F_NEG_DRY exactly where it is dry, and the value
abbrev pub negotiable : List ℕ → ℕ → DataItem → ℕ → Bool → Objective
negotiable name flags value loops dry = record { name = name; flags = dry_flags flags dry; loops = loops; value = Some value }

pub record RequestFacts (n : NodeState) (asa : ℕ) (name : List ℕ) (value : DataItem) (loops timeout : ℕ) (dry : Bool) (peer : Locator) (a : ApiAnswer) (after : NodeState) : Type 0 where
  pub negotiates : Negotiates n asa name
  pub may_dry : dry ≡ true → has_dry negotiates.flags ≡ true
  -- the least empty place and the next number
  pub handle : Handle
  pub starts : Starts n.sessions handle
  pub told : a ≡ answer.Started handle
  pub dials : Dials n peer (ReqNeg (next_session n) (negotiable name negotiates.flags value loops dry))
  pub leads : after ≡ having_asked n asa Negotiation timeout (negotiable name negotiates.flags value loops dry) peer handle
      (ReqNeg (next_session n) (negotiable name negotiates.flags value loops dry))

abbrev pub RequestMeans : Type 0
RequestMeans = (n : NodeState) (asa : ℕ) (name : List ℕ) (value : DataItem) (loops timeout : ℕ) (dry : Bool) (peer : Locator) (a : ApiAnswer)
    → IsBoundedNode n → MayRequest n asa name value loops dry peer (Ok a)
    → RequestFacts n asa name value loops timeout dry peer a (after_request n asa name value loops timeout dry peer (Ok a))

-- the agent has registered the objective, for synchronization
pub record Synchronizes (n : NodeState) (asa : ℕ) (name : List ℕ) : Type 0 where
  pub registered : is_registered n.registrations asa ≡ true
  pub flags : ℕ
  pub own : owned_flags n asa name ≡ Some flags
  pub has : has_synch flags ≡ true

-- what is asked for: the registered flags without F_NEG_DRY, and no value
abbrev pub synchronizable : List ℕ → ℕ → ℕ → Objective
synchronizable name flags loops = record { name = name; flags = dry_flags flags false; loops = loops; value = None }

pub record SynchronizeFacts (n : NodeState) (asa : ℕ) (name : List ℕ) (loops timeout : ℕ) (peer : Locator) (a : ApiAnswer) (after : NodeState) : Type 0 where
  pub synchronizes : Synchronizes n asa name
  -- the least empty place and the next number
  pub handle : Handle
  pub starts : Starts n.sessions handle
  pub told : a ≡ answer.Started handle
  pub dials : Dials n peer (ReqSyn (next_session n) (synchronizable name synchronizes.flags loops))
  pub leads : after ≡ having_asked n asa Synchronization timeout (synchronizable name synchronizes.flags loops) peer handle
      (ReqSyn (next_session n) (synchronizable name synchronizes.flags loops))

abbrev pub SynchronizeMeans : Type 0
SynchronizeMeans = (n : NodeState) (asa : ℕ) (name : List ℕ) (loops timeout : ℕ) (peer : Locator) (a : ApiAnswer)
    → IsBoundedNode n → MaySynchronize n asa name loops peer (Ok a)
    → SynchronizeFacts n asa name loops timeout peer a (after_synchronizing n asa name loops timeout peer (Ok a))
