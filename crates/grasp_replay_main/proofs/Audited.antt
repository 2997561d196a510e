-- What an audit makes of an input.
use Rattle.std.proofs.Common.{◌≡◌, ◌≢◌, ◌⊎◌, inl, inr, ℕ, List, [], Option, None, Some, IfOk, IfErr, IsErrOf, append-nil, refl, sym, ap, ◌∙◌}
use Rattle.std.specs.Io.KnownBytes.{Appends}
use Rattle.grasp_laws_audit.specs.Laws.{AuditsAgree}
use Rattle.grasp_model_audit.specs.Audits.{IsAudited}
use Rattle.grasp_model_audit.specs.Verdicts.{IsFault}
use Rattle.grasp_model_audit.specs.declared.verdict.Audit.{Audit}
use Rattle.grasp_model_audit.specs.declared.verdict.AuditFault.{AuditFault}
use Rattle.grasp_model_audit.specs.declared.verdict.AuditFault.TheVariants as cause
use Rattle.grasp_model_network.specs.declared.plan.WorldPlan.{WorldPlan}
use Rattle.grasp_replay_main.specs.Audit.{Accepts, IsTooMuch, refused, safe_line}
use Rattle.grasp_replay_main.specs.Task.{AuditMakes, IsDone, IsOfInput, IsUnfinished}
use Rattle.grasp_replay_main.specs.Written.{Writes}
use Rattle.grasp_replay_main.specs.declared.exit.Finding.TheVariants as finding
use Rattle.grasp_replay_main.specs.declared.exit.Status.{Status}
use Rattle.grasp_replay_main.specs.declared.exit.Status.TheVariants as status
use Rattle.grasp_replay_main.specs.declared.task.Task.TheVariants as task
use Rattle.grasp_replay_main.specs.declared.unfinished.Unfinished.TheVariants as unfinished

-- ---- how an audit ends

-- how the program ends by a fault of the record
ended_by : AuditFault → Status
ended_by (cause.BadRecord line) = status.Finding (finding.BadRecord line)
ended_by (cause.NotSent line) = status.Finding (finding.NotSent line)
ended_by (cause.NotAgent line) = status.Finding (finding.NotAgent line)
ended_by (cause.NotStep line) = status.Finding (finding.NotStep line)
ended_by cause.TooMuch = status.TooLarge
ended_by cause.OutOfMemory = status.OutOfMemory

-- the record has a fault that isn't want of memory, by which the program ends, and nothing is written
record Fails (input output : List ℕ) (s : Status) : Type 0 where
  pub why : AuditFault
  pub wanted : why ≢ cause.OutOfMemory
  pub holds : IsFault input why
  pub is : s ≡ ended_by why
  pub nothing : output ≡ []

-- it is accepted, or it fails
abbrev EndsAudit : List ℕ → List ℕ → Status → Type 0
EndsAudit input output s = ((s ≡ status.Ok) × Accepts input output) ⊎ Fails input output s

audit_end : (input output : List ℕ) (s : Status) → AuditMakes input output s → EndsAudit input output s
unfolding ended_by
audit_end input output status.Ok x = inl (refl, x)
audit_end input output (status.Finding (finding.BadRecord line)) x =
    inr (record { why = cause.BadRecord line; wanted = λ e. absurd (cc e); holds = x.1; is = refl; nothing = x.0 })
audit_end input output (status.Finding (finding.NotSent line)) x =
    inr (record { why = cause.NotSent line; wanted = λ e. absurd (cc e); holds = x.1; is = refl; nothing = x.0 })
audit_end input output (status.Finding (finding.NotAgent line)) x =
    inr (record { why = cause.NotAgent line; wanted = λ e. absurd (cc e); holds = x.1; is = refl; nothing = x.0 })
audit_end input output (status.Finding (finding.NotStep line)) x =
    inr (record { why = cause.NotStep line; wanted = λ e. absurd (cc e); holds = x.1; is = refl; nothing = x.0 })
audit_end input output (status.Finding _) x = absurd x.1
audit_end input output status.TooLarge x = inr (record { why = cause.TooMuch; wanted = λ e. absurd (cc e); holds = x.1; is = refl; nothing = x.0 })
audit_end input output _ x = absurd x

-- ---- one verdict

same_line : (a b : Audit) → a.nodes ≡ b.nodes → a.lines ≡ b.lines → safe_line a ≡ safe_line b
same_line a b nodes lines = λ i. safe_line (record { nodes = nodes i; lines = lines i })

-- the plans of two audits of a text are the same
one_plan : AuditsAgree → (input : List ℕ) (x y : IsAudited input) → x.plan ≡ y.plan
one_plan agree input x y = (agree.audits input x.plan y.plan x.lines y.lines x.audits y.audits).plans

accepts_one : AuditsAgree → (input a b : List ℕ) → Accepts input a → Accepts input b → a ≡ b
accepts_one agree input a b x y =
    let nodes = x.is_audit.nodes ∙ ap (λ (p : WorldPlan). p.nodes) (one_plan agree input x.is_audit.audited y.is_audit.audited) ∙ sym y.is_audit.nodes in
    x.told ∙ same_line x.audit y.audit nodes (x.is_audit.lines ∙ sym y.is_audit.lines) ∙ sym y.told

-- what is accepted doesn't fail
accepts_or_fails : AuditsAgree → (input : List ℕ) → IsAudited input → (output : List ℕ) (s : Status) → Fails input output s → ⊥
accepts_or_fails agree input x output s f = f.wanted (agree.either input f.why x f.holds)

fails_one : AuditsAgree → (input a b : List ℕ) (s t : Status) → Fails input a s → Fails input b t → (a ≡ b) × (s ≡ t)
fails_one agree input a b s t x y =
    (x.nothing ∙ sym y.nothing, x.is ∙ ap ended_by (agree.faults input x.why y.why x.holds y.holds x.wanted y.wanted) ∙ sym y.is)

ends_one : AuditsAgree → (input a b : List ℕ) (s t : Status) → EndsAudit input a s → EndsAudit input b t → (a ≡ b) × (s ≡ t)
ends_one agree input a b s t (inl x) (inl y) = (accepts_one agree input a b x.1 y.1, x.0 ∙ sym y.0)
ends_one agree input a b s t (inl x) (inr y) = absurd (accepts_or_fails agree input x.1.is_audit.audited b t y)
ends_one agree input a b s t (inr x) (inl y) = absurd (accepts_or_fails agree input y.1.is_audit.audited a s x)
ends_one agree input a b s t (inr x) (inr y) = fails_one agree input a b s t x y

pub audit_one : AuditsAgree → (input a b : List ℕ) (s t : Status) → AuditMakes input a s → AuditMakes input b t → (a ≡ b) × (s ≡ t)
audit_one agree input a b s t x y = ends_one agree input a b s t (audit_end input a s x) (audit_end input b t y)

ends_well : AuditsAgree → (input output : List ℕ) (s : Status) → IsAudited input → EndsAudit input output s → s ≡ status.Ok
ends_well agree input output s whole (inl x) = x.0
ends_well agree input output s whole (inr f) = absurd (accepts_or_fails agree input whole output s f)

-- the record of a run is accepted
pub audit_well : AuditsAgree → (input output : List ℕ) (s : Status) → IsAudited input → AuditMakes input output s → s ≡ status.Ok
audit_well agree input output s whole x = ends_well agree input output s whole (audit_end input output s x)

pub never_too_much : AuditsAgree → (input : List ℕ) → IsAudited input → ¬ IsTooMuch input
never_too_much agree input whole x = absurd (cc (agree.either input cause.TooMuch whole x))

-- ---- what is written

appends_nothing : (before : Option (List ℕ)) → Appends before before []
appends_nothing None = tt
appends_nothing (Some bytes) = sym (append-nil bytes)

module _ (input : List ℕ) (before : Option (List ℕ)) where
  -- nothing is
  told_none : (s : Status) → AuditMakes input [] s → Writes (AuditMakes input) before before s
  told_none s x = record { output = []; makes = x; written = appends_nothing before }

  pub refused_done : (f : AuditFault) → IsFault input f → IfOk (refused f) (λ ended. Writes (AuditMakes input) before before ended)
  refused_done (cause.BadRecord line) h = told_none (status.Finding (finding.BadRecord line)) (refl, h)
  refused_done (cause.NotSent line) h = told_none (status.Finding (finding.NotSent line)) (refl, h)
  refused_done (cause.NotAgent line) h = told_none (status.Finding (finding.NotAgent line)) (refl, h)
  refused_done (cause.NotStep line) h = told_none (status.Finding (finding.NotStep line)) (refl, h)
  refused_done cause.TooMuch h = tt
  refused_done cause.OutOfMemory h = tt

  pub refused_stopped : (f : AuditFault) → IsFault input f → IsErrOf (refused f) unfinished.TooMuch → Writes (AuditMakes input) before before status.TooLarge
  refused_stopped (cause.BadRecord line) h e = absurd (cc e)
  refused_stopped (cause.NotSent line) h e = absurd (cc e)
  refused_stopped (cause.NotAgent line) h e = absurd (cc e)
  refused_stopped (cause.NotStep line) h e = absurd (cc e)
  refused_stopped cause.TooMuch h e = told_none status.TooLarge (refl, h)
  refused_stopped cause.OutOfMemory h e = absurd (cc e)

pub refused_whole : (input : List ℕ) (f : AuditFault) → (IsAudited input → f ≡ cause.OutOfMemory)
    → IfOk (refused f) (λ ended. IsAudited input → ended ≡ status.Ok)
refused_whole input (cause.BadRecord line) only = λ whole. absurd (cc (only whole))
refused_whole input (cause.NotSent line) only = λ whole. absurd (cc (only whole))
refused_whole input (cause.NotAgent line) only = λ whole. absurd (cc (only whole))
refused_whole input (cause.NotStep line) only = λ whole. absurd (cc (only whole))
refused_whole input cause.TooMuch only = tt
refused_whole input cause.OutOfMemory only = tt

pub refused_ended : (f : AuditFault) → IfOk (refused f) IsDone
refused_ended (cause.BadRecord line) = tt
refused_ended (cause.NotSent line) = tt
refused_ended (cause.NotAgent line) = tt
refused_ended (cause.NotStep line) = tt
refused_ended cause.TooMuch = tt
refused_ended cause.OutOfMemory = tt

pub refused_of_input : (f : AuditFault) → IfOk (refused f) IsOfInput
refused_of_input (cause.BadRecord line) = tt
refused_of_input (cause.NotSent line) = tt
refused_of_input (cause.NotAgent line) = tt
refused_of_input (cause.NotStep line) = tt
refused_of_input cause.TooMuch = tt
refused_of_input cause.OutOfMemory = tt

pub refused_unfinished : (input : List ℕ) (f : AuditFault) → IsFault input f → IfErr (refused f) (λ u. IsUnfinished task.Audit input u)
refused_unfinished input (cause.BadRecord line) h = tt
refused_unfinished input (cause.NotSent line) h = tt
refused_unfinished input (cause.NotAgent line) h = tt
refused_unfinished input (cause.NotStep line) h = tt
refused_unfinished input cause.TooMuch h = (h, λ x. x)
refused_unfinished input cause.OutOfMemory h = tt

-- no write failed
pub refused_unfailed : (f : AuditFault) → ¬ IsErrOf (refused f) unfinished.WriteFault
refused_unfailed (cause.BadRecord line) e = absurd (cc e)
refused_unfailed (cause.NotSent line) e = absurd (cc e)
refused_unfailed (cause.NotAgent line) e = absurd (cc e)
refused_unfailed (cause.NotStep line) e = absurd (cc e)
refused_unfailed cause.TooMuch e = absurd (cc e)
refused_unfailed cause.OutOfMemory e = absurd (cc e)
