-- What a node says to a peer of its own accord: an answer on a stream, or a message on a stream that it dials for it.
use Rattle.std.specs.Prelude.{◌≡◌, ◌<◌, ◌+◌, ◌*◌, ◌^◌, ◌++◌, ℕ, false, List, [], ◌∷◌, length, None}
use Rattle.grasp_laws_node.specs.Means.{Fits}
use Rattle.grasp_model_node.specs.Hear.{Heard}
use Rattle.grasp_model_node.specs.Node.{NodeState}
use Rattle.grasp_model_node.specs.Queue.{Queued, dial, send}
use Rattle.grasp_types.specs.declared.address.Locator.{Locator}
use Rattle.grasp_types.specs.declared.message.Message.{Message}

-- the message is queued for the stream, behind all others, where it has no more bytes than the limit and there is room for it, and is lost elsewhere
pub record IsAnswered (n : NodeState) (stream : ℕ) (m : Message) (queue : List Queued) : Type 0 where
  pub said : Fits n m 1 → queue ≡ n.queue ++ send stream m ∷ []
  pub lost : ¬ Fits n m 1 → queue ≡ n.queue

-- the message is the answer, the stream begins closing, and nothing else has changed
pub record EndsWith (n : NodeState) (stream : ℕ) (m : Message) (heard : Heard) : Type 0 where
  pub answer : IsAnswered n stream m heard.node.queue
  pub rest : heard.node ≡ record n { queue = heard.node.queue }
  pub shut : heard.is_open ≡ false

-- one more stream can be dialled: fewer than 64 have a record, and fewer than 2 ^ 62 were dialled
pub record CanDial (n : NodeState) : Type 0 where
  pub records : length n.streams.records < 64
  pub numbers : n.streams.dialled < 2 ^ 62

-- the next stream is dialled for this message alone, and is closing from the start; the dial and the message are queued behind all others
abbrev pub having_dialled : NodeState → Locator → Message → NodeState
having_dialled n to m = record n {
  streams = record { records = n.streams.records ++ record { number = 2 * n.streams.dialled; from = None; past = None } ∷ []; dialled = n.streams.dialled + 1 };
  queue = n.queue ++ dial (2 * n.streams.dialled) to ∷ send (2 * n.streams.dialled) m ∷ [];
}

-- a stream is dialled for the message where one can be, the message fits and there is room for both outputs; elsewhere it is lost
pub record IsDialled (n : NodeState) (to : Locator) (m : Message) (after : NodeState) : Type 0 where
  pub said : Fits n m 2 → CanDial n → after ≡ having_dialled n to m
  pub lost : ¬ (Fits n m 2 × CanDial n) → after ≡ n
