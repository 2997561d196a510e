-- The step of a node that an event makes, and what is free in it.
use Rattle.std.specs.Prelude.{◌≡◌, ℕ, Bool, true, false, [], Option, None, Some}
use Rattle.grasp_model_node.specs.Node.{NodeState, first_node}
use Rattle.grasp_model_node.specs.Step.{Coming, NodeStep}
use Rattle.grasp_types.specs.declared.address.Address.TheVariants as address
use Rattle.grasp_types.specs.declared.address.Locator.TheVariants as locator
use Rattle.grasp_types.specs.declared.address.Proto.TheVariants.{Tcp}
use Rattle.grasp_types.specs.declared.refusal.ApiRefused.{ApiRefused}
use Rattle.grasp_types.specs.declared.refusal.ApiRefused.TheVariants as refusal
use Rattle.grasp_types.specs.declared.reply.Reply.{Reply}
use Rattle.grasp_types.specs.declared.reply.Reply.TheVariants as reply
use Rattle.grasp_types.specs.declared.traffic.Input.{Input}
use Rattle.grasp_wire.specs.Stream.{waiting}
use Rattle.grasp_model_network.specs.World.{Seat, WorldState, seat_at}

-- at which node, which stands so, at which reading, and with which input
pub record Visit : Type 0 where
  pub node : ℕ
  pub seat : Seat
  pub now : ℕ
  pub input : Input

abbrev pub visit_seat : ℕ → Input → Option Seat → Option Visit
visit_seat node i None = None
visit_seat node i (Some seat) = Some (record { node = node; seat = seat; now = seat.core.reading; input = i })

-- an input at a node, at the node's own reading
abbrev pub visit : WorldState → ℕ → Input → Option Visit
visit w node i = visit_seat node i (seat_at w node)

-- what comes with the input, the reply, and the node after the step
pub record Choice : Type 0 where
  pub coming : Coming
  pub reply : Reply
  pub after : NodeState

abbrev pub is_starved_call : ApiRefused → Bool
is_starved_call refusal.OutOfMemory = true
is_starved_call _ = false

-- memory was wanted, which stops the network
abbrev pub is_starved : Reply → Bool
is_starved (reply.Refused refused) = is_starved_call refused
is_starved reply.OutOfMemory = true
is_starved _ = false

-- the step of the node may come out so, and there was memory for it
pub record VisitStep (v : Visit) (c : Choice) : Type 0 where
  pub steps : NodeStep v.seat.core v.now v.input c.coming c.reply c.after
  pub fed : is_starved c.reply ≡ false

-- a choice that tells nothing, for an event that makes no step
unfoldable pub no_choice : Choice
no_choice = record {
  coming = record { added = record { messages = []; rest = []; kind = waiting }; carried = None };
  reply = reply.Taken;
  after = first_node (record { address = address.V6 0; locator = locator.V6 0 Tcp 0; links = []; seed = []; limit = 0 });
}

-- where the event makes no step, nothing is free
abbrev pub MayCome : Option Visit → Choice → Type 0
MayCome None c = Unit {0}
MayCome (Some v) c = VisitStep v c
