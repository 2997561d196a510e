-- Messages, calls, inputs, outputs and replies may cross threads.
use denote.RattleType.{RattleType}
use denote.Param.Send.{IsSend, sendable, view_send}
use denote.Param.SendFields.{variants_send, declared_send}
use Rattle.std.proofs.Crossing.{crosses, Vec-send}
use Rattle.std.specs.contracts.option.Option as Option
use Rattle.grasp_cbor.proofs.Crosses.{Item-send}
use Rattle.grasp_types.specs.contracts.address.Locator as Locator
use Rattle.grasp_types.specs.contracts.call.Call as Call
use Rattle.grasp_types.specs.contracts.flood.FloodPart as FloodPart
use Rattle.grasp_types.specs.contracts.flood.FloodRead as FloodRead
use Rattle.grasp_types.specs.contracts.links.Neighbour as Neighbour
use Rattle.grasp_types.specs.contracts.list.List as List
use Rattle.grasp_types.specs.contracts.list.List.TheInside as ListInside
use Rattle.grasp_types.specs.contracts.message.Answer as Answer
use Rattle.grasp_types.specs.contracts.message.Message as Message
use Rattle.grasp_types.specs.contracts.non_empty.NonEmpty as NonEmpty
use Rattle.grasp_types.specs.contracts.non_empty.NonEmpty.TheInside as NonEmptyInside
use Rattle.grasp_types.specs.contracts.objective.Objective as Objective
use Rattle.grasp_types.specs.contracts.reply.ApiAnswer as ApiAnswer
use Rattle.grasp_types.specs.contracts.reply.Reply as Reply
use Rattle.grasp_types.specs.contracts.session.Outcome as Outcome
use Rattle.grasp_types.specs.contracts.session.Progress as Progress
use Rattle.grasp_types.specs.contracts.traffic.Input as Input
use Rattle.grasp_types.specs.contracts.traffic.Output as Output
use Rattle.grasp_types.specs.contracts.value.Value as Value
use Rattle.grasp_types.specs.contracts.value.Value.TheInside as ValueInside

pub List-send : (R : RattleType) → IsSend R → IsSend (List.the_row R)
List-send R s = view_send _ _ _ _ _ (declared_send (ListInside.the_type R) (Vec-send _ s, tt))

pub NonEmpty-send : (R : RattleType) → IsSend R → IsSend (NonEmpty.the_row R)
NonEmpty-send R s = view_send _ _ _ _ _ (declared_send (NonEmptyInside.the_type R) (Vec-send _ s, tt))

pub Option-send : (R : RattleType) → IsSend R → IsSend (Option.the_row R)
Option-send R s = variants_send (Option.enum R) (search (s, sendable, crosses) depth 60 fits 5000)

pub Value-send : IsSend Value.the_row
Value-send = let i : IsSend ValueInside.the_row = declared_send ValueInside.the_type (Item-send, tt) in view_send _ _ _ _ _ i

pub Locator-send : IsSend Locator.the_row
Locator-send = variants_send Locator.enum (search (Option-send, sendable, crosses) depth 60 fits 30000)

pub Objective-send : IsSend Objective.the_row
Objective-send = declared_send Objective.the_type (search (Value-send, Option-send, sendable, crosses) depth 60 fits 5000)

pub FloodPart-send : IsSend FloodPart.the_row
FloodPart-send = declared_send FloodPart.the_type (search (Objective-send, Locator-send, Option-send, sendable, crosses) depth 60 fits 5000)

pub Answer-send : IsSend Answer.the_row
Answer-send = variants_send Answer.enum (search (NonEmpty-send, Locator-send, sendable, crosses) depth 60 fits 30000)

pub Message-send : IsSend Message.the_row
Message-send = variants_send Message.enum (search (Value-send, Objective-send, Answer-send, FloodPart-send, NonEmpty-send, Option-send, sendable, crosses) depth 60 fits 30000)

pub FloodRead-send : IsSend FloodRead.the_row
FloodRead-send = declared_send FloodRead.the_type (search (Objective-send, Locator-send, Option-send, sendable, crosses) depth 60 fits 5000)

pub Neighbour-send : IsSend Neighbour.the_row
Neighbour-send = declared_send Neighbour.the_type (search (Locator-send, sendable, crosses) depth 60 fits 5000)

pub Outcome-send : IsSend Outcome.the_row
Outcome-send = variants_send Outcome.enum (search (Objective-send, Option-send, sendable, crosses) depth 60 fits 30000)

pub Progress-send : IsSend Progress.the_row
Progress-send = variants_send Progress.enum (search (Objective-send, Outcome-send, sendable, crosses) depth 60 fits 30000)

pub ApiAnswer-send : IsSend ApiAnswer.the_row
ApiAnswer-send = variants_send ApiAnswer.enum (search (Objective-send, Progress-send, Locator-send, FloodRead-send, List-send, NonEmpty-send, sendable, crosses) depth 60 fits 30000)

pub Output-send : IsSend Output.the_row
Output-send = variants_send Output.enum (search (Locator-send, sendable, crosses) depth 60 fits 30000)

pub Reply-send : IsSend Reply.the_row
Reply-send = variants_send Reply.enum (search (ApiAnswer-send, Output-send, List-send, sendable, crosses) depth 60 fits 30000)

pub Call-send : IsSend Call.the_row
Call-send = variants_send Call.enum (search (Value-send, Locator-send, Option-send, sendable, crosses) depth 60 fits 30000)

pub Input-send : IsSend Input.the_row
Input-send = variants_send Input.enum (search (Call-send, sendable, crosses) depth 60 fits 30000)
