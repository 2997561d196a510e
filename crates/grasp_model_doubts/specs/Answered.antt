-- That the node to which a prefix was offered has said that it never accepted it.
use Rattle.std.specs.Prelude.{◌≡◌, ◌<◌, ℕ, true, Some, reverse, slice_get}
use Rattle.grasp_doubter.specs.Questions.{doubt_name, question_value}
use Rattle.grasp_session.specs.Conversation.{requested, spoken}
use Rattle.grasp_session.specs.Laws.{IsOpened}
use Rattle.grasp_session.specs.Messages.{Near, Far}
use Rattle.grasp_types.specs.Prefix.{AddressBlock as Prefix}
use Rattle.grasp_types.specs.declared.address.Address.{Address}
use Rattle.grasp_types.specs.declared.objective.Objective.{Objective}
use Rattle.grasp_model_network.specs.Accepting.{has_accepted}
use Rattle.grasp_model_network.specs.Streams.{StreamEnd, StreamState}
use Rattle.grasp_model_network.specs.World.{Offered, Seat, WorldState, seat_at}

-- the question that asks the node of this address of this prefix: no step may follow it
abbrev pub question : Address → Prefix → Objective
question a p = record { name = doubt_name; flags = 2; loops = 1; value = Some (question_value a p) }

-- the side that dialled begins with a request for negotiation, and this is the question
pub record IsQuestion (a : Address) (p : Prefix) (t : StreamState) : Type 0 where
  pub opens : IsOpened (reverse (spoken Near t.said))
  pub asks : requested t.said ≡ question a p

-- the offer was for a stream, and the node that dialled that stream was asked by the node that offered, on a stream that was dialled later: the
-- question has its address and the prefix, and it has said an acceptance of the question
pub record WasAnswered (w : WorldState) (o : Offered) : Type 0 where
  pub place : ℕ
  pub talk : StreamState
  pub on : o.talk ≡ Some place
  pub stands : slice_get w.streams place ≡ Some talk
  pub requester : Seat
  pub dialled : seat_at w talk.near.node ≡ Some requester
  pub question_place : ℕ
  pub asking : StreamState
  pub asked : slice_get w.streams question_place ≡ Some asking
  pub later : place < question_place
  pub asker : asking.near.node ≡ o.node
  pub is : IsQuestion requester.core.plan.address o.prefix asking
  pub far : StreamEnd
  pub opened : asking.far ≡ Some far
  pub answerer : far.node ≡ talk.near.node
  pub accepted : has_accepted Far asking.said ≡ true
