-- The next call of an agent of PrefixManager is an opening call, its act, the request of its want, that of its return, or a duty.
use Rattle.std.proofs.Common.{◌≡◌, refl, ap, ◌∙◌, subst, ℕ, ◌-◌, ◌==◌, Bool, true, false, cond, slice_get, Option, Some, None}
use Rattle.grasp_types.specs.declared.session.Handle.{Handle}
use Rattle.grasp_agent.specs.Calls.{duty_call, returning_call, asking_call, serving_call, opening_call, next_call}
use Rattle.grasp_agent.specs.States.{AgentState, is_open, is_asking, is_returning, want_session, back_session, giving_duty, back_duty, want_duty, duty_of}
use Rattle.grasp_agent.specs.declared.act.Act.{Act}
use Rattle.grasp_agent.specs.declared.back.Return.{Return}
use Rattle.grasp_agent.specs.declared.duty.Duty.{Duty}
use Rattle.grasp_agent.specs.declared.duty.Duty.TheVariants as duty
use Rattle.grasp_agent.specs.declared.giving.Giving.{Giving}
use Rattle.grasp_agent.specs.declared.want.Want.{Want}
use Rattle.grasp_laws_agent.specs.Next.{IsDuty, NextIs, opens, acts, requests, hands_back, does, NextCallsAre}

module _ (s : AgentState) where
  of_giving : (place : ℕ) (o : Option Giving) → slice_get s.giving place ≡ o → IsDuty s (giving_duty s.giving place)
  of_giving place None e = rw e tt
  of_giving place (Some g) e = rw e (g, e, refl)

  choice_duty : (b : Bool) (d e : Duty) → IsDuty s d → IsDuty s e → IsDuty s (cond b d e)
  choice_duty true d e h k = h
  choice_duty false d e h k = k

  of_back : (o : Option Handle) → back_session s.back ≡ o → (place : ℕ) → IsDuty s (back_duty o s.giving place)
  of_back None e place = of_giving place (slice_get s.giving place) refl
  of_back (Some h) e place =
      choice_duty (place == 0) (duty.Return h) (giving_duty s.giving (place - 1)) e (of_giving (place - 1) (slice_get s.giving (place - 1)) refl)

  of_want : (o : Option Handle) → want_session s.want ≡ o → (place : ℕ) → IsDuty s (want_duty o (back_session s.back) s.giving place)
  of_want None e place = of_back (back_session s.back) refl place
  of_want (Some h) e place =
      choice_duty (place == 0) (duty.Want h) (back_duty (back_session s.back) s.giving (place - 1)) e (of_back (back_session s.back) refl (place - 1))

  of_cursor : IsDuty s (duty_of s)
  of_cursor =
      choice_duty (s.cursor == 0) duty.Listen (want_duty (want_session s.want) (back_session s.back) s.giving (s.cursor - 1)) tt
      (of_want (want_session s.want) refl (s.cursor - 1))

  -- the duty that is next is one of the agent's
  pub its_duty : (d : Duty) → duty_of s ≡ d → IsDuty s d
  its_duty d e = subst (IsDuty s) e of_cursor

  module _ (serves : is_open s.stage ≡ true) where
    does_duty : s.act ≡ None → is_asking s.want ≡ false → is_returning s.back ≡ false → NextIs s (duty_call (duty_of s))
    does_duty idle asked sent =
        does (duty_of s) (record { serves = serves; idle = idle; asked = asked; sent = sent; duty = refl }) of_cursor

    of_returning : s.act ≡ None → is_asking s.want ≡ false → (o : Option Return) → s.back ≡ o → NextIs s (returning_call o (duty_of s))
    of_returning idle asked None e = does_duty idle asked (ap is_returning e)
    of_returning idle asked (Some r) e = by r.session refl where
      by : (o : Option Handle) → r.session ≡ o → NextIs s (returning_call (Some r) (duty_of s))
      by None f = rw f (hands_back r (record { serves = serves; idle = idle; asked = asked; returns = ap is_returning e ∙ rw f refl }) e f)
      by (Some h) f = rw f (does_duty idle asked (ap is_returning e ∙ rw f refl))

    of_asking : s.act ≡ None → (o : Option Want) → s.want ≡ o → NextIs s (asking_call o s.back (duty_of s))
    of_asking idle None e = of_returning idle (ap is_asking e) s.back refl
    of_asking idle (Some w) e = by w.session refl where
      by : (o : Option Handle) → w.session ≡ o → NextIs s (asking_call (Some w) s.back (duty_of s))
      by None f = rw f (requests w (record { serves = serves; idle = idle; asks = ap is_asking e ∙ rw f refl }) e f)
      by (Some h) f = rw f (of_returning idle (ap is_asking e ∙ rw f refl) s.back refl)

    of_act : (o : Option Act) → s.act ≡ o → NextIs s (serving_call o s.want s.back (duty_of s))
    of_act None e = of_asking e s.want refl
    of_act (Some a) e = acts a serves e

pub next_calls_are : NextCallsAre
unfolding next_call
next_calls_are s = by (is_open s.stage) refl where
  by : (b : Bool) → is_open s.stage ≡ b → NextIs s (cond b (serving_call s.act s.want s.back (duty_of s)) (opening_call s.stage))
  by true e = of_act s e s.act refl
  by false e = opens e
