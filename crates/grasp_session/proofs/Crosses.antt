-- A table may cross threads.
use denote.Param.Send.{IsSend, sendable}
use denote.Param.SendFields.{variants_send, declared_send}
use Rattle.std.proofs.Crossing.{crosses}
use Rattle.grasp_types.proofs.Crosses.{Objective-send, Option-send}
use Rattle.grasp_session.specs.contracts.session.Ending as Ending
use Rattle.grasp_session.specs.contracts.session.Session as Session
use Rattle.grasp_session.specs.contracts.places.Places as Places
use Rattle.grasp_session.specs.contracts.table.Table as Table

Ending-send : IsSend Ending.the_row
Ending-send = variants_send Ending.enum (search (Objective-send, Option-send, sendable, crosses) depth 60 fits 30000)

Session-send : IsSend Session.the_row
Session-send = declared_send Session.the_type (search (Objective-send, Ending-send, Option-send, sendable, crosses) depth 60 fits 30000)

Places-send : IsSend Places.the_row
Places-send = search (Session-send, sendable, crosses) depth 60 fits 30000

pub Table-send : IsSend Table.the_row
Table-send = declared_send Table.the_type (search (Places-send, sendable, crosses) depth 60 fits 30000)
