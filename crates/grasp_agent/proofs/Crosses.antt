-- Agents may cross threads.
use denote.Param.Send.{IsSend, sendable, view_send}
use denote.Param.SendFields.{declared_send}
use Rattle.std.proofs.Crossing.{crosses}
use Rattle.grasp_types.proofs.Crosses.{List-send, FloodRead-send, Value-send}
use Rattle.grasp_agent.specs.contracts.beacon.Beacon as Beacon
use Rattle.grasp_agent.specs.contracts.beacon.Beacon.TheInside as BeaconInside
use Rattle.grasp_agent.specs.contracts.prefix_agent.PrefixAgent as PrefixAgent
use Rattle.grasp_agent.proofs.prefix_agent.PrefixAgent.TheSendSync as prefix_agent
use Rattle.grasp_agent.specs.contracts.reader.Reader as Reader
use Rattle.grasp_agent.specs.contracts.reader.Reader.TheInside as ReaderInside

pub Beacon-send : IsSend Beacon.the_row
Beacon-send = view_send _ _ _ _ _ (declared_send BeaconInside.the_type (search (Value-send, sendable, crosses) depth 60 fits 30000))

pub Reader-send : IsSend Reader.the_row
Reader-send = view_send _ _ _ _ _ (declared_send ReaderInside.the_type (search (List-send, FloodRead-send, sendable, crosses) depth 60 fits 30000))

pub PrefixAgent-send : IsSend PrefixAgent.the_row
PrefixAgent-send = prefix_agent.the_send
