-- What an audit says of a text.
use Rattle.std.proofs.Common.{◌≡◌, refl, ap, ◌∙◌, arith, inl, inr, ℕ, ◌+◌, List, [], ◌∷◌, ◌++◌, ◌-◌, length, take, drop, length-append, length-drop, Result, Ok, Err, IfOk, IfErr}
use Rattle.std.proofs.lemmas.List.{take_all}
use Rattle.grasp_laws_audit.specs.Laws.{AuditedRunsAreSafe, AuditsAgree}
use Rattle.grasp_model_audit.specs.Audits.{FailsAt, IsAudited}
use Rattle.grasp_model_audit.specs.Faults.{Cause, bad_record, not_agent, not_sent, not_step, too_much}
use Rattle.grasp_model_audit.specs.Lines.{AuditedLine, texts_of}
use Rattle.grasp_model_audit.specs.Verdicts.{IsAudit, IsFault}
use Rattle.grasp_model_audit.specs.declared.verdict.Audit.{Audit}
use Rattle.grasp_model_audit.specs.declared.verdict.AuditFault.{AuditFault}
use Rattle.grasp_model_audit.specs.declared.verdict.AuditFault.TheVariants as fault
use Rattle.grasp_model_network.specs.Runs.{world_of}
use Rattle.grasp_model_network.specs.Setting.{script_setting}
use Rattle.grasp_model_network.specs.declared.plan.WorldPlan.{WorldPlan}
use Rattle.grasp_script.specs.Scripts.{text_lines}
use Rattle.grasp_audit.specs.Headers.{HasHeader, ReadsPlan}
use Rattle.grasp_audit.specs.Rest.{AllHeld, AuditsRest, OneFails, TellsVerdict}
use Rattle.grasp_audit.specs.declared.headers.HeaderEnd.{HeaderEnd}

texts_count : (ys : List AuditedLine) → length (texts_of ys) ≡ length ys
texts_count [] = refl
texts_count (y ∷ ys) = let rest = texts_count ys in omega (arith, rest)

module _ (text rest : List ℕ) (plan : WorldPlan) (number : ℕ) (h : HasHeader text rest plan number) where
  -- all lines hold
  holds_so : AuditedRunsAreSafe → (last : ℕ) → AllHeld plan.nodes (script_setting plan) (world_of plan) rest number last → IsAudit text (record { nodes = plan.nodes; lines = last })
  holds_so safe last held =
      let place : last ≡ number + length held.lines = held.place in
      let header : number ≡ length h.header = h.place in
      let parts : text_lines text ≡ h.header ++ texts_of held.lines = h.parts ∙ ap (λ (ls : List (List ℕ)). h.header ++ ls) held.parts in
      record {
        audited = record {
          plan = plan;
          lines = held.lines;
          audits = record { header = h.header; is_header = h.is_header; parts = parts; hold = held.hold; safe = safe.safe plan held.lines h.is_header.good held.hold };
        };
        nodes = refl;
        lines = omega (arith, place, header, ap length parts, length-append h.header (texts_of held.lines), texts_count held.lines);
      }

  -- one fails
  fails_so : (cause : Cause) (last : ℕ) → OneFails plan.nodes (script_setting plan) (world_of plan) rest number cause last → FailsAt text cause last
  fails_so cause last f =
      let place : last ≡ number + length f.before + 1 = f.place in
      let header : number ≡ length h.header = h.place in
      record {
        plan = plan;
        header = h.header;
        before = f.before;
        line = f.line;
        rest = f.others;
        is_header = h.is_header;
        parts = h.parts ∙ ap (λ (ls : List (List ℕ)). h.header ++ ls) f.parts;
        hold = f.hold;
        fault = f.fault;
        place = omega (arith, place, header);
      }

  pub lines_verdict : AuditedRunsAreSafe → (last : ℕ) → AuditsRest plan rest number (Ok last) → TellsVerdict text (Ok (record { nodes = plan.nodes; lines = last }))
  lines_verdict safe last held = holds_so safe last held

  pub lines_fault : (f : AuditFault) → AuditsRest plan rest number (Err f) → TellsVerdict text (Err f)
  lines_fault (fault.BadRecord last) f = inr (fails_so bad_record last f)
  lines_fault (fault.NotSent last) f = fails_so not_sent last f
  lines_fault (fault.NotAgent last) f = fails_so not_agent last f
  lines_fault fault.TooMuch f = (f.0, fails_so too_much f.0 f.1)
  lines_fault (fault.NotStep last) f = fails_so not_step last f
  lines_fault fault.OutOfMemory f = tt

-- no header stands there
pub header_fault : (text : List ℕ) (end : HeaderEnd) (f : AuditFault) → ReadsPlan text end (Err f) → TellsVerdict text (Err f)
header_fault text end (fault.BadRecord line) h = inl h
header_fault text end fault.OutOfMemory h = tt
header_fault text end (fault.NotSent line) h = absurd h
header_fault text end (fault.NotAgent line) h = absurd h
header_fault text end fault.TooMuch h = absurd h
header_fault text end (fault.NotStep line) h = absurd h

-- what the code cuts off behind a header
pub behind_is : (text : List ℕ) (n : ℕ) → take (length text - n) (drop n text) ≡ drop n text
behind_is text n = take_all (length text - n) (drop n text) (omega (arith, length-drop n text))

-- ---- the clauses

pub verdict_ok : (text : List ℕ) (r : Result Audit AuditFault) → TellsVerdict text r → IfOk r (λ a. IsAudit text a)
verdict_ok text (Ok a) h = h
verdict_ok text (Err f) h = tt

pub verdict_fault : (text : List ℕ) (r : Result Audit AuditFault) → TellsVerdict text r → IfErr r (λ f. IsFault text f)
verdict_fault text (Ok a) h = tt
verdict_fault text (Err f) h = h

pub verdict_only : AuditsAgree → (text : List ℕ) (r : Result Audit AuditFault) → TellsVerdict text r → IsAudited text → IfErr r (λ f. f ≡ fault.OutOfMemory)
verdict_only agree text (Ok a) h is = tt
verdict_only agree text (Err f) h is = agree.either text f is h
