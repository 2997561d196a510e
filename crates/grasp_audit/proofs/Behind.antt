-- The lines behind a header, one after the other.
use Rattle.std.proofs.Common.{◌≡◌, refl, sym, ap, ◌∙◌, subst, arith, ℕ, ◌+◌, List, [], ◌∷◌, ◌++◌, length, append_assoc, length-append, Ok, Err}
use Rattle.std.proofs.lemmas.List.{append-nil}
use Rattle.grasp_model_audit.specs.Faults.{Cause, LineFault, bad_record, not_agent, not_sent, not_step, too_much}
use Rattle.grasp_model_audit.specs.Lines.{AllHold, AuditedLine, LineHolds, after_lines, texts_of}
use Rattle.grasp_model_network.specs.Runs.{world_after, world_of}
use Rattle.grasp_model_network.specs.Setting.{Setting, script_setting}
use Rattle.grasp_model_network.specs.World.{WorldState}
use Rattle.grasp_model_network.specs.declared.plan.WorldPlan.{WorldPlan}
use Rattle.grasp_script.specs.Scripts.{text_lines}
use Rattle.grasp_simulator.specs.Lending.{StandsFor}
use Rattle.grasp_simulator.specs.declared.world.World.{World}
use Rattle.grasp_audit.specs.LineFaults.{fault_at}
use Rattle.grasp_audit.specs.Lines.{AuditsLine, HasHeld}
use Rattle.grasp_audit.specs.Rest.{AuditsBefore, AuditsLines, HeldBefore, OneFails}
use Rattle.grasp_audit.specs.Standing.{GoesOn, IsAt}
use Rattle.grasp_audit.specs.declared.fault.LineFault.{LineFault as Fault}
use Rattle.grasp_audit.specs.declared.fault.LineFault.TheVariants as fault
use Rattle.grasp_audit.proofs.Seats.{plan_members}

no_lines : text_lines [] ≡ []
unfolding text_lines
no_lines = refl

-- ---- one line more

texts_more : (ys : List AuditedLine) (y : AuditedLine) → texts_of (ys ++ y ∷ []) ≡ texts_of ys ++ y.text ∷ []
texts_more [] y = refl
texts_more (z ∷ ys) y = ap (λ (ts : List (List ℕ)). z.text ∷ ts) (texts_more ys y)

module _ (nodes : ℕ) (s : Setting) where
  hold_more : (ys : List AuditedLine) (w : WorldState) (y : AuditedLine) → AllHold nodes s w ys → LineHolds nodes s (after_lines s w ys) y.text y.meant y.happened → AllHold nodes s w (ys ++ y ∷ [])
  unfolding AllHold after_lines
  hold_more [] w y h k = (k, tt)
  hold_more (z ∷ ys) w y h k = (h.0, hold_more ys (world_after s w z.happened) y h.1 k)

  after_more : (ys : List AuditedLine) (w : WorldState) (y : AuditedLine) → after_lines s w (ys ++ y ∷ []) ≡ world_after s (after_lines s w ys) y.happened
  unfolding after_lines
  after_more [] w y = refl
  after_more (z ∷ ys) w y = after_more ys (world_after s w z.happened) y

-- ---- on the way

pub begins : (code : World) (nodes : ℕ) (text : List ℕ) (number : ℕ) → AuditsBefore code code nodes text text number number
unfolding AllHold after_lines
begins code nodes text number = λ s w at. record { lines = []; parts = refl; hold = tt; is_at = at; place = omega arith }

module _ (before code : World) (nodes : ℕ) (text rest : List ℕ) (number last : ℕ) (so : AuditsBefore before code nodes text rest number last) where
  pub goes_so : GoesOn before nodes → GoesOn code nodes
  goes_so h =
      let held : HeldBefore code nodes h.setting h.network text rest number last = so h.setting h.network h.is_at in
      record { setting = h.setting; network = after_lines h.setting h.network held.lines; is_at = held.is_at }

  -- no line is left
  pub all_held : rest ≡ [] → AuditsLines before nodes text number (Ok last)
  all_held over = λ s w at.
      let h : HeldBefore code nodes s w text rest number last = so s w at in
      record {
        lines = h.lines;
        parts = h.parts ∙ ap (λ (ls : List (List ℕ)). texts_of h.lines ++ ls) (ap text_lines over ∙ no_lines) ∙ append-nil (texts_of h.lines);
        hold = h.hold;
        place = h.place;
      }

  module _ (line behind : List ℕ) (first : text_lines rest ≡ line ∷ text_lines behind) where
    -- one more holds
    pub one_holds : (after : World) → AuditsLine code after nodes line (Ok tt) → AuditsBefore before after nodes text behind number (last + 1)
    one_holds after audits = λ s w at.
        let h : HeldBefore code nodes s w text rest number last = so s w at in
        let held : HasHeld after nodes s (after_lines s w h.lines) line = audits s (after_lines s w h.lines) h.is_at in
        let y : AuditedLine = record { text = line; meant = held.meant; happened = held.happened } in
        let place : last ≡ number + length h.lines = h.place in
        record {
          lines = h.lines ++ y ∷ [];
          parts = h.parts ∙ ap (λ (ls : List (List ℕ)). texts_of h.lines ++ ls) first ∙ sym (append_assoc (texts_of h.lines) (line ∷ []) (text_lines behind))
              ∙ ap (λ (ls : List (List ℕ)). ls ++ text_lines behind) (sym (texts_more h.lines y));
          hold = hold_more nodes s h.lines w y h.hold held.holds;
          is_at = record { stands = subst (λ (v : WorldState). StandsFor after s v) (sym (after_more nodes s h.lines w y)) held.is_at.stands; count = at.count };
          place = omega (arith, place, length-append h.lines (y ∷ []));
        }

    -- one fails
    fails_so : (s : Setting) (w : WorldState) (h : HeldBefore code nodes s w text rest number last) (cause : Cause) → LineFault nodes s (after_lines s w h.lines) line cause → OneFails nodes s w text number cause (last + 1)
    fails_so s w h cause failed =
        let place : last ≡ number + length h.lines = h.place in
        record {
          before = h.lines;
          line = line;
          others = text_lines behind;
          parts = h.parts ∙ ap (λ (ls : List (List ℕ)). texts_of h.lines ++ ls) first;
          hold = h.hold;
          fault = failed;
          place = omega (arith, place);
        }

    pub one_fails : (after : World) (f : Fault) → AuditsLine code after nodes line (Err f) → AuditsLines before nodes text number (Err (fault_at f (last + 1)))
    one_fails after fault.BadRecord audits = λ s w at. let h = so s w at in fails_so s w h bad_record (audits s (after_lines s w h.lines) h.is_at)
    one_fails after fault.NotSent audits = λ s w at. let h = so s w at in fails_so s w h not_sent (audits s (after_lines s w h.lines) h.is_at)
    one_fails after fault.NotAgent audits = λ s w at. let h = so s w at in fails_so s w h not_agent (audits s (after_lines s w h.lines) h.is_at)
    one_fails after fault.TooMuch audits = λ s w at. let h = so s w at in (last + 1, fails_so s w h too_much (audits s (after_lines s w h.lines) h.is_at))
    one_fails after fault.NotStep audits = λ s w at. let h = so s w at in fails_so s w h not_step (audits s (after_lines s w h.lines) h.is_at)
    one_fails after fault.OutOfMemory audits = λ s w at. tt

-- ---- from the first network of a plan on

pub opened_at : (code : World) (plan : WorldPlan) → StandsFor code (script_setting plan) (world_of plan) → IsAt code plan.nodes (script_setting plan) (world_of plan)
opened_at code plan stands = record { stands = stands; count = plan_members plan }

pub opened_goes : (code : World) (plan : WorldPlan) → StandsFor code (script_setting plan) (world_of plan) → GoesOn code plan.nodes
opened_goes code plan stands = record { setting = script_setting plan; network = world_of plan; is_at = opened_at code plan stands }
