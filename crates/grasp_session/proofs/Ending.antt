-- A session that this end ends.
use Rattle.std.proofs.Common.{rules, ◌≡◌, ℕ, Some, None}
use Rattle.grasp_types.specs.Reading.{reading_after}
use Rattle.grasp_types.specs.declared.message.Verdict.{Verdict}
use Rattle.grasp_types.specs.declared.message.Verdict.TheVariants.{Accept, Decline}
use Rattle.grasp_session.specs.declared.answer.Act.TheVariants as act
use Rattle.grasp_session.specs.declared.session.Ending.{Ending}
use Rattle.grasp_session.specs.declared.session.Session.{Session}
use Rattle.grasp_session.specs.Transcript.{SayEnd, having_said}
use Rattle.grasp_session.specs.Sessions.{SessionState, with_transcript}
use Rattle.grasp_session.specs.Keeps.{Keeps, refusal_in, ending_of}

pub end_keeps : (s r : Session) (x : SessionState) (now : ℕ) (verdict : Verdict) (ending : Ending)
    → r ≡ record s { ending = Some ending; deadline = reading_after now s.timeout } → refusal_in s act.End ≡ None → ending ≡ ending_of verdict → Keeps s x
    → Keeps r (with_transcript x (having_said x.view now (SayEnd verdict)))
end_keeps s r x now Accept ending e g f k = search rules
end_keeps s r x now (Decline reason) ending e g f k = search rules
