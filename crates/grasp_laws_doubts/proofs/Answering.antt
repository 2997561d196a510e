-- What the call of a doubter makes of the questions in a network: where a node decides to accept one, it accepts the prefix never.
use Rattle.std.proofs.Common.{◌≡◌, ◌≢◌, ◌⊎◌, inl, inr, refl, sym, ap, ◌∙◌, subst, arith, ℕ, ◌*◌, ◌<◌, ◌≤◌, ◌||◌, Bool, true, false, cond, List, Contains, Option, None, Some, slice_get}
use Rattle.std.proofs.lemmas.Bool.{cases_eq, true≢false}
use Rattle.std.proofs.lemmas.Option.{none-some, same_Some}
use Rattle.grasp_agent.specs.Replies.{is_again}
use Rattle.grasp_agent.specs.States.{AgentState}
use Rattle.grasp_doubter.specs.Calls as doubter
use Rattle.grasp_doubter.specs.Questions.{doubt_name, question_in, question_value}
use Rattle.grasp_doubter.specs.Replies.{after_take, decides, may_say_never}
use Rattle.grasp_doubter.specs.States.{DoubterState, duty_of}
use Rattle.grasp_doubter.specs.declared.asking.Ask.{Ask}
use Rattle.grasp_doubter.specs.declared.duty.DoubtAct.{DoubtAct}
use Rattle.grasp_doubter.specs.declared.duty.DoubtDuty.{DoubtDuty}
use Rattle.grasp_doubter.specs.declared.duty.DoubtDuty.TheVariants as duty
use Rattle.grasp_doubter.specs.declared.question.Question.{Question}
use Rattle.grasp_session.specs.Messages.{Far, is_acceptance}
use Rattle.grasp_session.specs.Transcript.{Saying, SayEnd, Transcript, message_of}
use Rattle.grasp_types.specs.declared.call.Call.{Call}
use Rattle.grasp_types.specs.declared.call.Call.TheVariants as call
use Rattle.grasp_types.specs.declared.message.Verdict.{Verdict}
use Rattle.grasp_types.specs.declared.session.Handle.{Handle}
use Rattle.grasp_laws_doubts.proofs.Changing.{SaysBy}

-- ---- an acceptance is that of the answer

accepting_verdict : (v : Transcript) (b : Bool) → is_acceptance (message_of v (SayEnd (doubter.verdict_of b))) ≡ true → b ≡ true
accepting_verdict v true e = refl
accepting_verdict v false e = absurd (true≢false (sym e))

duty_says : (u : DoubtDuty) (h : Handle) (s : Saying) → SaysBy (doubter.duty_call u) h s → ⊥
duty_says duty.Listen h s by = by
duty_says (duty.Ask k) h s by = by
duty_says (duty.Answer place k) h s by = by

asking_says : (k : Option Ask) (u : DoubtDuty) (h : Handle) (s : Saying) → SaysBy (doubter.asking_call k u) h s → ⊥
asking_says None u h s by = duty_says u h s by
asking_says (Some k) u h s by = by_session k.session by where
  by_session : (o : Option Handle) → SaysBy (doubter.asking_call (Some (record k { session = o })) u) h s → ⊥
  by_session None by = by
  by_session (Some x) by = duty_says u h s by

-- what a doubter says is its answer
pub record IsAnswerOf (d : DoubterState) (h : Handle) (s : Saying) : Type 0 where
  pub act : DoubtAct
  pub is : d.act ≡ Some act
  pub handle : act.handle ≡ h
  pub says : s ≡ SayEnd (doubter.verdict_of act.accepts)

pub answers : (d : DoubterState) (h : Handle) (s : Saying) → SaysBy (doubter.next_call d) h s → IsAnswerOf d h s
unfolding doubter.next_call
answers d h s by = by_act d.act refl by where
  by_act : (o : Option DoubtAct) → d.act ≡ o → SaysBy (doubter.serving_call o d.ask (duty_of d)) h s → IsAnswerOf d h s
  by_act None is by = absurd (asking_says d.ask (duty_of d) h s by)
  by_act (Some a) is by = record { act = a; is = is; handle = by.0; says = by.1 }

-- an answer that accepts is one that was decided to
pub answer_accepts : (d : DoubterState) (h : Handle) (s : Saying) (v : Transcript) → (a : IsAnswerOf d h s) → is_acceptance (message_of v s) ≡ true → a.act.accepts ≡ true
answer_accepts d h s v a e = accepting_verdict v a.act.accepts (subst (λ z. is_acceptance (message_of v z) ≡ true) a.says e)

-- ---- a decision

-- a question is decided to be accepted only where it is one, and the doubter may say that its node never accepted the prefix
pub decides_so : (d : DoubterState) (a : AgentState) (q : Option Question) → decides d a q ≡ true → (x : Question) × (q ≡ Some x) × (may_say_never d a x ≡ true)
decides_so d a None e = absurd (true≢false (sym e))
decides_so d a (Some q) e = (q, refl, e)
