use Rattle.grasp_audit.proofs.NamedLines.{names_agent, names_bytes, names_call, names_closed, names_datagram, names_drain, names_opened, names_return, names_want}
use Rattle.grasp_audit.proofs.events.name_event.Goals as goal

pub returns-in_ok-placed_call-in-Api : goal.returns-in_ok-placed_call-in-Api
returns-in_ok-placed_call-in-Api c = names_call c.args.world.now c.args.line.now c.in-Api.asa _ c.in_ok-placed_call-in-Api.field-0 c.requires c.in-Api.is c.in_ok-placed_call-in-Api.ensures

pub returns-in-Agent : goal.returns-in-Agent
returns-in-Agent c = names_agent c.args.world.now c.args.line.now _ c.in-Agent.is

pub returns-in-Want : goal.returns-in-Want
returns-in-Want c = names_want c.args.world.now c.args.line.now _ _ _ c.in-Want.is

pub returns-in-Return : goal.returns-in-Return
returns-in-Return c = names_return c.args.world.now c.args.line.now _ _ c.in-Return.is

pub returns-in-Datagram : goal.returns-in-Datagram
returns-in-Datagram c = names_datagram c.args.world.now c.args.line.now _ _ _ c.delivery.result c.in-Datagram.is c.delivery.ensures

pub returns-in-Opened : goal.returns-in-Opened
returns-in-Opened c = names_opened c.args.world.now c.args.line.now _ _ c.arrival.result c.in-Opened.is c.arrival.ensures

pub returns-in-Bytes : goal.returns-in-Bytes
returns-in-Bytes c = names_bytes c.args.world.now c.args.line.now _ _ c.piece.result c.in-Bytes.is c.piece.ensures

pub returns-in-Closed : goal.returns-in-Closed
returns-in-Closed c = names_closed c.args.world.now c.args.line.now _ c.closing.result c.in-Closed.is c.closing.ensures

pub returns-in-Drain : goal.returns-in-Drain
returns-in-Drain c = names_drain c.args.world.now c.args.line.now _ c.in-Drain.is
