use Rattle.std.proofs.Common.{◌≡◌}
use Rattle.grasp_session.specs.Transcript.{SayStep, message_of}
use Rattle.grasp_session.specs.Keeps.{Keeps}
use Rattle.grasp_session.specs.Sessions.{SessionState, Sessions, say_reply}
use Rattle.grasp_session.specs.Stands.{Stands}
use Rattle.grasp_session.proofs.Calls.{if_ok_map, message_is}
use Rattle.grasp_session.proofs.table.Table.step_message.Goals as goal

pub returns : goal.returns
returns c =
    if_ok_map (λ m. (x : SessionState) → Keeps c.in-Some.session.now x → m ≡ message_of x.view (SayStep c.args.value.now)) (λ m. (z : Sessions) → Stands c.args.self.now z → m ≡ say_reply z c.args.handle (SayStep c.args.value.now)) c.step_message.result
    (λ m f z st. message_is c.args.self.now z c.args.handle (SayStep c.args.value.now) c.in-Some.session.now m c.in-Some.ensures f st) c.step_message.ensures
