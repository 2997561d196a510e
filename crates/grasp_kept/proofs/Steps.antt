-- One step of a network whose nodes crash, whatever it comes to.
use Rattle.std.proofs.Common.{◌≡◌, sym, ◌∙◌, ap, subst, arith, ℕ, ◌+◌, ◌*◌, ◌<◌, ◌^◌, None, Some, Ok, Err}
use Rattle.std.proofs.lemmas.Option.{none-some, same_Some}
use Rattle.grasp_disk.specs.declared.left.Left.{Left}
use Rattle.grasp_pool.specs.declared.image.PoolImage.{PoolImage}
use Rattle.grasp_model_network.specs.Setting.{Setting}
use Rattle.grasp_model_network.specs.declared.event.Event.{Event}
use Rattle.grasp_model_network.specs.declared.report.Report.{Report}
use Rattle.grasp_model_network.specs.declared.report.WorldStop.{WorldStop}
use Rattle.grasp_model_kept.specs.Runs.{IsKeptFit, kept_event}
use Rattle.grasp_model_kept.specs.World.{KeptState}
use Rattle.grasp_model_kept.specs.declared.event.KeptEvent.{KeptEvent}
use Rattle.grasp_model_kept.specs.declared.event.KeptEvent.TheVariants as kept
use Rattle.grasp_model_kept.specs.declared.report.KeptReport.{KeptReport}
use Rattle.grasp_model_kept.specs.declared.report.KeptReport.TheVariants as report
use Rattle.grasp_kept.specs.Contract.{IsKeptFitFor, KeptAnswers, KeptStanding, going, stopped}
use Rattle.grasp_kept.specs.Stands.{CanCrash, CanHappen, CrashFits, Crashes, Happens, HasCrashed, HasHappened, IsKeptAsked, KeptCanRun, KeptFits, KeptGoes, KeptHasRun, KeptRuns, KeptWorldStands, KeptWorldStepped}
use Rattle.grasp_kept.specs.declared.kept_world.KeptWorld.{KeptWorld}

-- ---- an event, by its kind

pub plain_can : (code : KeptWorld) (e : Event) (f : KeptEvent) → f ≡ kept.Plain e → KeptCanRun code f → CanHappen code e
plain_can code e f is can = subst (λ (x : KeptEvent). KeptCanRun code x) is can

crash_fits : (code : KeptWorld) (s : Setting) (k : KeptState) (most node calls : ℕ) (left : Left) → KeptFits code s k most (kept.Crash node calls left) → CrashFits code s k most node
crash_fits code s k most node calls left f = record { goes = f.goes; below = f.below; member = f.fit }

pub crash_can : (code : KeptWorld) (node calls : ℕ) (left : Left) (f : KeptEvent) → f ≡ kept.Crash node calls left → KeptCanRun code f → CanCrash code node
crash_can code node calls left f is can = from (subst (λ (x : KeptEvent). KeptCanRun code x) is can) where
  from : KeptCanRun code (kept.Crash node calls left) → CanCrash code node
  from c = record { setting = c.setting; state = c.state; most = c.most; fits = crash_fits code c.setting c.state c.most node calls left c.fits }

module _ (old new : KeptWorld) where
  pub plain_runs : (e : Event) (f : KeptEvent) → f ≡ kept.Plain e → (told : Report) → Happens old new e (Ok told) → KeptRuns old new f (Ok (report.Plain told))
  plain_runs e f is told happens = subst (λ (x : KeptEvent). KeptRuns old new x (Ok (report.Plain told))) (sym is) so where
    so : KeptRuns old new (kept.Plain e) (Ok (report.Plain told))
    so s k most fits = let h : HasHappened new s k most e told = happens s k most fits in record { choice = h.choice; occurs = h.occurs; report_is = ap report.Plain h.report_is; goes = h.goes }

  pub plain_halts : (e : Event) (f : KeptEvent) → f ≡ kept.Plain e → (why : WorldStop) → Happens old new e (Err why) → KeptRuns old new f (Err why)
  plain_halts e f is why happens = subst (λ (x : KeptEvent). KeptRuns old new x (Err why)) (sym is) happens

  pub crash_runs : (node calls : ℕ) (left : Left) (f : KeptEvent) → f ≡ kept.Crash node calls left → (image : PoolImage) → Crashes old new node calls left (Ok image) → KeptRuns old new f (Ok (report.Restarted image))
  crash_runs node calls left f is image crashes = subst (λ (x : KeptEvent). KeptRuns old new x (Ok (report.Restarted image))) (sym is) so where
    so : KeptRuns old new (kept.Crash node calls left) (Ok (report.Restarted image))
    so s k most fits =
        let h : HasCrashed new s k most node calls left image = crashes s k most (crash_fits old s k most node calls left fits)
        in record { choice = h.choice; occurs = h.occurs; report_is = ap report.Restarted h.image_is; goes = h.goes }

  pub crash_halts : (node calls : ℕ) (left : Left) (f : KeptEvent) → f ≡ kept.Crash node calls left → (why : WorldStop) → Crashes old new node calls left (Err why) → KeptRuns old new f (Err why)
  crash_halts node calls left f is why crashes = subst (λ (x : KeptEvent). KeptRuns old new x (Err why)) (sym is) so where
    so : KeptRuns old new (kept.Crash node calls left) (Err why)
    so s k most fits = crashes s k most (crash_fits old s k most node calls left fits)

-- ---- a step

module _ (code : KeptWorld) (e : KeptEvent) where
  abbrev counted : KeptWorld
  counted = record code { steps = code.steps + 1 }

  counts : (s : Setting) (k : KeptState) (most : ℕ) → KeptGoes code s k most → KeptGoes counted s k most
  counts s k most goes = record { good = goes.good; setting = goes.setting; world = goes.world; keepers = goes.keepers; kept = goes.kept }

  module _ (none : code.stopped ≡ None) (few : code.steps < 2 ^ 32) where
    fits : (s : Setting) (k : KeptState) → KeptGoes code s k (2 * code.steps) → IsKeptFit s k e → KeptFits counted s k (2 * code.steps) e
    fits s k goes fit = record { goes = counts s k (2 * code.steps) goes; below = omega (arith, few); fit = fit }

    can_at : (s : Setting) (at : KeptStanding) → KeptWorldStands code (record { setting = s; standing = at }) → IsKeptFitFor s at e → KeptCanRun counted e
    can_at s (going k) h fit = record { setting = s; state = k; most = 2 * code.steps; fits = fits s k h.stands.0 fit }
    can_at s (stopped why) h fit = absurd (none-some why (sym none ∙ h.stands))

    pub can_run : IsKeptAsked code e → KeptCanRun (record code { steps = code.steps + 1 }) e
    can_run asked = can_at asked.network.setting asked.network.standing asked.meets.stands asked.meets.fit

    module _ (new : KeptWorld) where
      answers_at : (told : KeptReport) → KeptRuns counted new e (Ok told) → new.steps ≡ code.steps + 1 → new.stopped ≡ None → (s : Setting) (at : KeptStanding)
          → KeptWorldStands code (record { setting = s; standing = at }) → IsKeptFitFor s at e → KeptAnswers (KeptWorldStands new) s at e (Ok told)
      answers_at told runs steps_are goes_on s (going k) h fit =
          let r : KeptHasRun new s k (2 * code.steps) e told = runs s k (2 * code.steps) (fits s k h.stands.0 fit)
          in let more : 2 * code.steps + 2 ≡ 2 * new.steps = omega (arith, steps_are)
          in record {
            choice = r.choice;
            occurs = r.occurs;
            report_is = r.report_is;
            stands = record { stands = (subst (λ (n : ℕ). KeptGoes new s (kept_event s k e r.choice) n) more r.goes, goes_on) };
          }
      answers_at told runs steps_are goes_on s (stopped why) h fit = absurd (none-some why (sym none ∙ h.stands))

      -- the event is reported
      pub answers : (told : KeptReport) → KeptRuns (record code { steps = code.steps + 1 }) new e (Ok told) → new.steps ≡ code.steps + 1 → new.stopped ≡ None → KeptWorldStepped code new e (Ok told)
      answers told runs steps_are goes_on x met = answers_at told runs steps_are goes_on x.setting x.standing met.stands met.fit

      halts_at : (last : KeptWorld) (why : WorldStop) → KeptRuns counted new e (Err why) → last.stopped ≡ Some why → (s : Setting) (at : KeptStanding)
          → KeptWorldStands code (record { setting = s; standing = at }) → IsKeptFitFor s at e → KeptAnswers (KeptWorldStands last) s at e (Err why)
      halts_at last why runs is s (going k) h fit = record { may_stop = runs s k (2 * code.steps) (fits s k h.stands.0 fit); stands = record { stands = is } }
      halts_at last why runs is s (stopped old) h fit = absurd (none-some old (sym none ∙ h.stands))

      -- it stops the network
      pub halts : (last : KeptWorld) (why : WorldStop) → KeptRuns (record code { steps = code.steps + 1 }) new e (Err why) → last.stopped ≡ Some why → KeptWorldStepped code last e (Err why)
      halts last why runs is x met = halts_at last why runs is x.setting x.standing met.stands met.fit

  still_at : (last : KeptWorld) (why : WorldStop) → code.stopped ≡ Some why → last.stopped ≡ Some why → (s : Setting) (at : KeptStanding)
      → KeptWorldStands code (record { setting = s; standing = at }) → KeptAnswers (KeptWorldStands last) s at e (Err why)
  still_at last why is stays s (going k) h = absurd (none-some why (sym h.stands.1 ∙ is))
  still_at last why is stays s (stopped old) h = record { same = same_Some why old (sym is ∙ h.stands); stands = record { stands = stays ∙ (sym is ∙ h.stands) } }

  -- it was stopped
  pub stays_stopped : (last : KeptWorld) (why : WorldStop) → code.stopped ≡ Some why → last.stopped ≡ Some why → KeptWorldStepped code last e (Err why)
  stays_stopped last why is stays x met = still_at last why is stays x.setting x.standing met.stands
