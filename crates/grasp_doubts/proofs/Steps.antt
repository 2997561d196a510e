-- One step of a network of doubters, whatever it comes to.
use Rattle.std.proofs.Common.{◌≡◌, sym, ◌∙◌, ap, subst, None, Some, Ok, Err}
use Rattle.std.proofs.lemmas.Option.{none-some, same_Some}
use Rattle.grasp_model_network.specs.Setting.{Setting}
use Rattle.grasp_model_network.specs.declared.event.Event.{Event}
use Rattle.grasp_model_network.specs.declared.report.Report.{Report}
use Rattle.grasp_model_network.specs.declared.report.WorldStop.{WorldStop}
use Rattle.grasp_model_doubts.specs.declared.event.DoubtEvent.{DoubtEvent}
use Rattle.grasp_model_doubts.specs.declared.event.DoubtEvent.TheVariants as doubt
use Rattle.grasp_model_doubts.specs.declared.report.DoubtReport.{DoubtReport}
use Rattle.grasp_model_doubts.specs.declared.report.DoubtReport.TheVariants as report
use Rattle.grasp_doubts.specs.Contract.{DoubtAnswers, DoubtStanding, IsDoubtFitFor, going, stopped}
use Rattle.grasp_doubts.specs.Stands.{CanHappen, DoubtCanRun, DoubtHasRun, DoubtRuns, DoubtWorldStands, DoubtWorldStepped, Happens, HasHappened, IsDoubtAsked}
use Rattle.grasp_doubts.specs.declared.doubt_world.DoubtWorld.{DoubtWorld}

-- ---- an event that is neither a doubter's call nor a question

pub plain_can : (code : DoubtWorld) (e : Event) (f : DoubtEvent) → f ≡ doubt.Plain e → DoubtCanRun code f → CanHappen code e
plain_can code e f is can = subst (λ (x : DoubtEvent). DoubtCanRun code x) is can

module _ (old new : DoubtWorld) (e : Event) (f : DoubtEvent) (is : f ≡ doubt.Plain e) where
  pub plain_runs : (told : Report) → Happens old new e (Ok told) → DoubtRuns old new f (Ok (report.Plain told))
  plain_runs told happens = subst (λ (x : DoubtEvent). DoubtRuns old new x (Ok (report.Plain told))) (sym is) so where
    so : DoubtRuns old new (doubt.Plain e) (Ok (report.Plain told))
    so s x fits = let h : HasHappened new s x e told = happens s x fits in record { choice = h.choice; occurs = h.occurs; report_is = ap report.Plain h.report_is; goes = h.goes }

  pub plain_halts : (why : WorldStop) → Happens old new e (Err why) → DoubtRuns old new f (Err why)
  plain_halts why happens = subst (λ (x : DoubtEvent). DoubtRuns old new x (Err why)) (sym is) happens

-- ---- a step

module _ (code : DoubtWorld) (e : DoubtEvent) where
  module _ (none : code.stopped ≡ None) where
    can_at : (s : Setting) (at : DoubtStanding) → DoubtWorldStands code (record { setting = s; standing = at }) → IsDoubtFitFor s at e → DoubtCanRun code e
    can_at s (going x) h fit = record { setting = s; state = x; fits = record { goes = h.stands.0; fit = fit } }
    can_at s (stopped why) h fit = absurd (none-some why (sym none ∙ h.stands))

    pub can_run : IsDoubtAsked code e → DoubtCanRun code e
    can_run asked = can_at asked.network.setting asked.network.standing asked.meets.stands asked.meets.fit

    module _ (new : DoubtWorld) where
      answers_at : (told : DoubtReport) → DoubtRuns code new e (Ok told) → new.stopped ≡ None → (s : Setting) (at : DoubtStanding) → DoubtWorldStands code (record { setting = s; standing = at }) → IsDoubtFitFor s at e
          → DoubtAnswers (DoubtWorldStands new) s at e (Ok told)
      answers_at told runs goes_on s (going x) h fit =
          let r : DoubtHasRun new s x e told = runs s x (record { goes = h.stands.0; fit = fit })
          in record { choice = r.choice; occurs = r.occurs; report_is = r.report_is; stands = record { stands = (r.goes, goes_on) } }
      answers_at told runs goes_on s (stopped why) h fit = absurd (none-some why (sym none ∙ h.stands))

      -- the event is reported
      pub answers : (told : DoubtReport) → DoubtRuns code new e (Ok told) → new.stopped ≡ None → DoubtWorldStepped code new e (Ok told)
      answers told runs goes_on x met = answers_at told runs goes_on x.setting x.standing met.stands met.fit

      halts_at : (last : DoubtWorld) (why : WorldStop) → DoubtRuns code new e (Err why) → last.stopped ≡ Some why → (s : Setting) (at : DoubtStanding) → DoubtWorldStands code (record { setting = s; standing = at })
          → IsDoubtFitFor s at e → DoubtAnswers (DoubtWorldStands last) s at e (Err why)
      halts_at last why runs is s (going x) h fit = record { may_stop = runs s x (record { goes = h.stands.0; fit = fit }); stands = record { stands = is } }
      halts_at last why runs is s (stopped old) h fit = absurd (none-some old (sym none ∙ h.stands))

      -- it stops the network
      pub halts : (last : DoubtWorld) (why : WorldStop) → DoubtRuns code new e (Err why) → last.stopped ≡ Some why → DoubtWorldStepped code last e (Err why)
      halts last why runs is x met = halts_at last why runs is x.setting x.standing met.stands met.fit

  still_at : (why : WorldStop) → code.stopped ≡ Some why → (s : Setting) (at : DoubtStanding) → DoubtWorldStands code (record { setting = s; standing = at })
      → DoubtAnswers (DoubtWorldStands code) s at e (Err why)
  still_at why is s (going x) h = absurd (none-some why (sym h.stands.1 ∙ is))
  still_at why is s (stopped old) h = record { same = same_Some why old (sym is ∙ h.stands); stands = record { stands = h.stands } }

  -- it was stopped
  pub stays_stopped : (why : WorldStop) → code.stopped ≡ Some why → DoubtWorldStepped code code e (Err why)
  stays_stopped why is x met = still_at why is x.setting x.standing met.stands
