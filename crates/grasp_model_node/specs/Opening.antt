-- A stream that a peer opens.
use Rattle.std.specs.Prelude.{◌≡◌, ℕ, ◌%◌, ◌==◌, Bool, false, ◌||◌, is_some, if◌then◌else◌}
use Rattle.grasp_session.specs.Sessions.{state_reply}
use Rattle.grasp_types.specs.declared.address.Address.{Address}
use Rattle.grasp_types.specs.declared.reply.Reply.{Reply}
use Rattle.grasp_types.specs.declared.reply.Reply.TheVariants.{Taken, Turned, OutOfMemory}
use Rattle.grasp_model_node.specs.Moves.{open_record}
use Rattle.grasp_model_node.specs.Node.{NodeState}
use Rattle.grasp_model_node.specs.Streams.{has_record, is_full}

-- a record or a live session has the number
abbrev pub is_live : NodeState → ℕ → Bool
is_live n stream = has_record n.streams stream || is_some (state_reply n.sessions stream)

-- an even or live number is ignored
abbrev pub is_ignored : NodeState → ℕ → Bool
is_ignored n stream = ((stream % 2) == 0) || is_live n stream

-- one more stream than there may be is turned away
abbrev pub opened_reply : NodeState → ℕ → Reply
opened_reply n stream = if is_ignored n stream then Taken else if is_full n.streams then Turned else Taken

-- memory is wanted for a new record alone
pub record WantsRecord (n : NodeState) (stream : ℕ) : Type 0 where
  pub new : is_ignored n stream ≡ false
  pub room : is_full n.streams ≡ false

abbrev pub MayOpen : NodeState → ℕ → Reply → Type 0
MayOpen n stream OutOfMemory = WantsRecord n stream
MayOpen n stream reply = reply ≡ opened_reply n stream

abbrev pub after_opened : NodeState → ℕ → Address → Reply → NodeState
after_opened n stream from Taken = if is_ignored n stream then n else open_record n stream from
after_opened n stream from _ = n
