-- The calls of an agent of PrefixManager, written out.
use Rattle.std.proofs.Common.{◌≡◌, refl, ap, ◌∙◌, true, false, Option, Some, None}
use Rattle.grasp_agent.specs.Calls.{agent_name, objective_name, duty_call, returning_call, asking_call, next_call}
use Rattle.grasp_agent.specs.States.{AgentState, is_asking, is_returning, duty_of}
use Rattle.grasp_agent.specs.declared.back.Return.{Return}
use Rattle.grasp_agent.specs.declared.duty.Duty.{Duty}
use Rattle.grasp_agent.specs.declared.want.Want.{Want}
use Rattle.grasp_laws_agent.specs.Moves.{IsNext}
use Rattle.grasp_types.specs.declared.session.Handle.{Handle}
use Rattle.grasp_laws_events.specs.Acting.{ActsAreCalled, DutiesAreCalled}

-- ---- acts

pub acts_are_called : ActsAreCalled
unfolding next_call
acts_are_called = record {
  offers = λ s place h p serves is. rw (serves, is) refl;
  counters = λ s h n serves is. rw (serves, is) refl;
  accepts = λ s h p serves is. rw (serves, is) refl;
  bad_value = λ s h serves is. rw (serves, is) refl;
  no_loops = λ s h serves is. rw (serves, is) refl;
  no_prefix = λ s h serves is. rw (serves, is) refl;
  too_small = λ s h serves is. rw (serves, is) refl;
  not_taken = λ s h serves is. rw (serves, is) refl;
}

-- ---- duties

-- where nothing is to be requested the duty is called
returning_duty : (o : Option Return) (d : Duty) → is_returning o ≡ false → returning_call o d ≡ duty_call d
returning_duty None d sent = refl
returning_duty (Some r) d sent = by r.session refl where
  by : (o : Option Handle) → r.session ≡ o → returning_call (Some r) d ≡ duty_call d
  by None e = absurd (let f : is_returning (Some r) ≡ true = rw e refl in cc)
  by (Some h) e = rw e refl

asking_duty : (o : Option Want) (back : Option Return) (d : Duty) → is_asking o ≡ false → is_returning back ≡ false → asking_call o back d ≡ duty_call d
asking_duty None back d asked sent = returning_duty back d sent
asking_duty (Some w) back d asked sent = by w.session refl where
  by : (o : Option Handle) → w.session ≡ o → asking_call (Some w) back d ≡ duty_call d
  by None e = absurd (let f : is_asking (Some w) ≡ true = rw e refl in cc)
  by (Some h) e = rw e (returning_duty back d sent)

duty_is_called : (s : AgentState) (d : Duty) → IsNext s d → next_call s ≡ duty_call d
unfolding next_call
duty_is_called s d n = rw (n.serves, n.idle) (asking_duty s.want s.back (duty_of s) n.asked n.sent ∙ ap duty_call n.duty)

pub duties_are_called : DutiesAreCalled
unfolding next_call agent_name objective_name
duties_are_called = record {
  registers = λ s is. rw is refl;
  declares = λ s is. rw is refl;
  begins = λ s is. rw is refl;
  listens = λ s n. duty_is_called s _ n;
  wants = λ s h n. duty_is_called s _ n;
  returns = λ s h n. duty_is_called s _ n;
  gives = λ s place h n. duty_is_called s _ n;
}
