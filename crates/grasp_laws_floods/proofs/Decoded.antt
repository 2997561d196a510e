-- A datagram carries the message that was sent.
use Rattle.std.proofs.Common.{◌≡◌, subst, ℕ, ◌<◌, ◌^◌, List, Option, Some, None}
use Rattle.grasp_model_node.specs.Datagrams.{Carries}
use Rattle.grasp_model_node.specs.Queue.{encoding}
use Rattle.grasp_model_network.specs.Setting.{Member}
use Rattle.grasp_model_network.specs.World.{FloodCall}
use Rattle.grasp_types.specs.Message.{IsMessage}
use Rattle.grasp_types.specs.declared.message.Message.{Message}
use Rattle.grasp_wire.proofs.Dividing.{one_message}
use Rattle.grasp_wire.proofs.ShortestForm.{shortest_form}
use Rattle.grasp_wire.specs.Wire.{IsWireForm}
use Rattle.grasp_laws_floods.proofs.Heard.{OptionMade}
use Rattle.grasp_laws_floods.proofs.Made.{MessageMade}

-- the encoding of a message is decoded to it
pub decoded : (limit : ℕ) (m other : Message) → limit < 2 ^ 64 → IsMessage m → IsWireForm other (encoding m) limit → m ≡ other
decoded limit m other small is form = one_message m other (encoding m) limit (shortest_form m limit small is form.fits) form

pub carried_made : (ms : List Member) (calls : List FloodCall) (limit : ℕ) (m : Message) (o : Option Message) → limit < 2 ^ 64 → MessageMade ms calls m → Carries limit (encoding m) o → OptionMade ms calls o
carried_made ms calls limit m None small k c = tt
carried_made ms calls limit m (Some other) small k c = subst (MessageMade ms calls) (decoded limit m other small k.is_message c) k
