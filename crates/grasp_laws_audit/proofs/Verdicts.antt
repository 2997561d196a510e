-- A text has one verdict.
use Rattle.std.proofs.Common.{◌≡◌, ◌≢◌, refl, sym, ap, ◌∙◌, subst, ℕ, ◌+◌, ◌≤◌, List, [], ◌∷◌, ◌++◌, length, ◌⊎◌, inl, inr, arith}
use Rattle.std.proofs.lemmas.List.{map-append}
use Rattle.grasp_laws_network.proofs.GoodPlans.{plan_reached}
use Rattle.grasp_model_network.specs.Runs.{Happening, IsReached, events_of, world_after, world_of}
use Rattle.grasp_model_network.specs.Setting.{Setting, script_setting}
use Rattle.grasp_model_network.specs.World.{WorldState}
use Rattle.grasp_model_network.specs.declared.plan.WorldPlan.{WorldPlan}
use Rattle.grasp_laws_reports.proofs.SameRuns.{runs_agree}
use Rattle.grasp_script.proofs.ScriptLaws.{one_bad_line, same_header}
use Rattle.grasp_script.specs.Scripts.{IsHeader}
use Rattle.grasp_record.specs.Laws.{RecordLinesMeanOneThing}
use Rattle.grasp_model_audit.specs.Audits.{AllHoldOf, Audits, FailsAt, IsBadHeader, network_of}
use Rattle.grasp_model_audit.specs.Faults.{Cause, LineFault, bad_record, not_agent, not_sent, not_step, too_much}
use Rattle.grasp_model_audit.specs.Lines.{AllHold, AuditedLine, LineHolds, after_lines, run_of, texts_of}
use Rattle.grasp_model_audit.specs.Verdicts.{IsFault}
use Rattle.grasp_model_audit.specs.declared.verdict.AuditFault.{AuditFault}
use Rattle.grasp_model_audit.specs.declared.verdict.AuditFault.TheVariants as fault
use Rattle.grasp_laws_audit.proofs.OneLine.{SameLine, holds_once, holds_or_fails, one_cause}
use Rattle.grasp_laws_audit.proofs.Runs.{lines_run, run_reached}
use Rattle.grasp_laws_audit.specs.Laws.{AreSameAudits, AuditsAgree, meanings_of}

-- ---- lists of lines

abbrev Lines : Type 0
Lines = List (List ℕ)

same_head : (x y : List ℕ) (xs ys : Lines) → x ∷ xs ≡ y ∷ ys → x ≡ y
same_head x y xs ys e = cc

same_tail : (x y : List ℕ) (xs ys : Lines) → x ∷ xs ≡ y ∷ ys → xs ≡ ys
same_tail x y xs ys e = cc

no_line : (x : List ℕ) (xs : Lines) → x ∷ xs ≡ [] → ⊥
no_line x xs e = absurd (cc)

-- ---- lines that hold or fail, one after the other

-- what two audits of the same lines have in common
pub record SameLines (ys zs : List AuditedLine) : Type 0 where
  pub meanings : meanings_of ys ≡ meanings_of zs
  pub events : events_of (run_of ys) ≡ events_of (run_of zs)

-- two that fail at the same line by the same cause
pub record SameFault (c d : Cause) (us vs : List AuditedLine) : Type 0 where
  pub cause : c ≡ d
  pub place : length us ≡ length vs

module _ (nodes : ℕ) (few : nodes ≤ 255) (one : RecordLinesMeanOneThing) (s : Setting) where
  -- two lines of one text that hold
  first_same : (y z : AuditedLine) (w : WorldState) → IsReached s w → y.text ≡ z.text → LineHolds nodes s w y.text y.meant y.happened → LineHolds nodes s w z.text z.meant z.happened
      → SameLine s w y.meant z.meant y.happened z.happened
  first_same y z w r text a b =
      holds_once nodes few one s w y.text r y.meant z.meant y.happened z.happened a (subst (λ (t : List ℕ). LineHolds nodes s w t z.meant z.happened) (sym text) b)

  first_reached : (y : AuditedLine) (w : WorldState) → IsReached s w → LineHolds nodes s w y.text y.meant y.happened → IsReached s (world_after s w y.happened)
  first_reached y w r h = run_reached s y.happened w r h.comes.run

  same_lines : (ys zs : List AuditedLine) (w : WorldState) → IsReached s w → AllHold nodes s w ys → AllHold nodes s w zs → texts_of ys ≡ texts_of zs → SameLines ys zs
  unfolding AllHold run_of
  same_lines [] [] w r a b e = record { meanings = refl; events = refl }
  same_lines [] (z ∷ zs) w r a b e = absurd (no_line z.text (texts_of zs) (sym e))
  same_lines (y ∷ ys) [] w r a b e = absurd (no_line y.text (texts_of ys) e)
  same_lines (y ∷ ys) (z ∷ zs) w r a b e =
      let first = first_same y z w r (same_head y.text z.text (texts_of ys) (texts_of zs) e) a.0 b.0 in
      let rest = same_lines ys zs (world_after s w y.happened) (first_reached y w r a.0) a.1 (subst (λ (x : WorldState). AllHold nodes s x zs) (sym first.run.last) b.1) (same_tail y.text z.text (texts_of ys) (texts_of zs) e) in
      record {
        meanings = (λ i. first.meant i ∷ rest.meanings i);
        events = map-append (λ (h : Happening). h.event) y.happened (run_of ys) ∙ (λ i. first.events i ++ rest.events i) ∙ sym (map-append (λ (h : Happening). h.event) z.happened (run_of zs));
      }

  hold_or_fail : (ys bs : List AuditedLine) (line : List ℕ) (rest : Lines) (cause : Cause) (w : WorldState) → IsReached s w → AllHold nodes s w ys → AllHold nodes s w bs
      → LineFault nodes s (after_lines s w bs) line cause → texts_of ys ≡ texts_of bs ++ line ∷ rest → ⊥
  unfolding AllHold after_lines
  hold_or_fail [] [] line rest cause w r a b f e = no_line line rest (sym e)
  hold_or_fail [] (z ∷ bs) line rest cause w r a b f e = no_line z.text (texts_of bs ++ line ∷ rest) (sym e)
  hold_or_fail (y ∷ ys) [] line rest cause w r a b f e =
      holds_or_fails nodes few one s w line r y.meant y.happened (subst (λ (t : List ℕ). LineHolds nodes s w t y.meant y.happened) (same_head y.text line (texts_of ys) rest e) a.0) cause f
  hold_or_fail (y ∷ ys) (z ∷ bs) line rest cause w r a b f e =
      let first = first_same y z w r (same_head y.text z.text (texts_of ys) (texts_of bs ++ line ∷ rest) e) a.0 b.0 in
      hold_or_fail ys bs line rest cause (world_after s w z.happened) (first_reached z w r b.0) (subst (λ (x : WorldState). AllHold nodes s x ys) first.run.last a.1) b.1 f
      (same_tail y.text z.text (texts_of ys) (texts_of bs ++ line ∷ rest) e)

  same_fault : (us vs : List AuditedLine) (l m : List ℕ) (rest more : Lines) (c d : Cause) (w : WorldState) → IsReached s w → AllHold nodes s w us → AllHold nodes s w vs
      → LineFault nodes s (after_lines s w us) l c → LineFault nodes s (after_lines s w vs) m d → texts_of us ++ l ∷ rest ≡ texts_of vs ++ m ∷ more → SameFault c d us vs
  unfolding AllHold after_lines
  same_fault [] [] l m rest more c d w r a b f g e = record {
    cause = one_cause nodes few one s w l r c d f (subst (λ (t : List ℕ). LineFault nodes s w t d) (sym (same_head l m rest more e)) g);
    place = refl;
  }
  same_fault [] (z ∷ vs) l m rest more c d w r a b f g e =
      absurd (holds_or_fails nodes few one s w l r z.meant z.happened (subst (λ (t : List ℕ). LineHolds nodes s w t z.meant z.happened) (sym (same_head l z.text rest (texts_of vs ++ m ∷ more) e)) b.0) c f)
  same_fault (y ∷ us) [] l m rest more c d w r a b f g e =
      absurd (holds_or_fails nodes few one s w m r y.meant y.happened (subst (λ (t : List ℕ). LineHolds nodes s w t y.meant y.happened) (same_head y.text m (texts_of us ++ l ∷ rest) more e) a.0) d g)
  same_fault (y ∷ us) (z ∷ vs) l m rest more c d w r a b f g e =
      let first = first_same y z w r (same_head y.text z.text (texts_of us ++ l ∷ rest) (texts_of vs ++ m ∷ more) e) a.0 b.0 in
      let x : WorldState = world_after s w y.happened in
      let back = sym first.run.last in
      let next = same_fault us vs l m rest more c d x (first_reached y w r a.0) a.1 (subst (λ (v : WorldState). AllHold nodes s v vs) back b.1) f
      (subst (λ (v : WorldState). LineFault nodes s (after_lines s v vs) m d) back g) (same_tail y.text z.text (texts_of us ++ l ∷ rest) (texts_of vs ++ m ∷ more) e) in
      let same_length = next.place in
      record { cause = next.cause; place = omega (arith, same_length) }

-- ---- texts

few_nodes : (header : Lines) (plan : WorldPlan) → IsHeader header plan → plan.nodes ≤ 255
few_nodes header plan h = let most = h.good.most_nodes in omega arith

header_reached : (header : Lines) (plan : WorldPlan) → IsHeader header plan → IsReached (script_setting plan) (world_of plan)
header_reached header plan h = plan_reached plan h.good

-- the fault of a line
abbrev fault_of : Cause → ℕ → AuditFault
fault_of bad_record n = fault.BadRecord n
fault_of not_sent n = fault.NotSent n
fault_of not_agent n = fault.NotAgent n
fault_of too_much n = fault.TooMuch
fault_of not_step n = fault.NotStep n

-- the fault is that of a line behind the header
record Failing (text : List ℕ) (f : AuditFault) : Type 0 where
  cause : Cause
  number : ℕ
  at : FailsAt text cause number
  is : f ≡ fault_of cause number

-- it is that of a line of the header
record Headless (text : List ℕ) (f : AuditFault) : Type 0 where
  number : ℕ
  at : IsBadHeader text number
  is : f ≡ fault.BadRecord number

module _ (one : RecordLinesMeanOneThing) (text : List ℕ) where
  same_audits : (p q : WorldPlan) (ys zs : List AuditedLine) → Audits text p ys → Audits text q zs → AreSameAudits p q ys zs
  same_audits p q ys zs a b =
      let h = same_header a.header b.header p q a.is_header b.is_header (texts_of ys) (texts_of zs) (sym a.parts ∙ b.parts) in
      let s = script_setting p in
      let r = header_reached a.header p a.is_header in
      let holds : AllHoldOf p zs = subst (λ (x : WorldPlan). AllHoldOf x zs) (sym h.plans) b.hold in
      let same = same_lines p.nodes (few_nodes a.header p a.is_header) one s ys zs (world_of p) r a.hold holds h.parts.rest in
      record {
        plans = h.plans;
        lines = record {
          meanings = same.meanings;
          runs = runs_agree.onward s (world_of p) (run_of ys) (run_of zs) r (lines_run p.nodes s ys (world_of p) a.hold) (lines_run p.nodes s zs (world_of p) holds) same.events;
        };
      }

  never_both : (p : WorldPlan) (ys : List AuditedLine) (cause : Cause) (number : ℕ) → Audits text p ys → FailsAt text cause number → ⊥
  never_both p ys cause number a f =
      let h = same_header a.header f.header p f.plan a.is_header f.is_header (texts_of ys) (texts_of f.before ++ f.line ∷ f.rest) (sym a.parts ∙ f.parts) in
      hold_or_fail p.nodes (few_nodes a.header p a.is_header) one (script_setting p) ys f.before f.line f.rest cause (world_of p) (header_reached a.header p a.is_header) a.hold
      (subst (λ (x : WorldPlan). AllHoldOf x f.before) (sym h.plans) f.hold)
      (subst (λ (x : WorldPlan). LineFault x.nodes (script_setting x) (network_of x f.before) f.line cause) (sym h.plans) f.fault) h.parts.rest

  -- ---- faults

  kind_of : (f : AuditFault) → IsFault text f → f ≢ fault.OutOfMemory → Headless text f ⊎ Failing text f
  kind_of (fault.BadRecord n) (inl h) wanted = inl (record { number = n; at = h; is = refl })
  kind_of (fault.BadRecord n) (inr h) wanted = inr (record { cause = bad_record; number = n; at = h; is = refl })
  kind_of (fault.NotSent n) h wanted = inr (record { cause = not_sent; number = n; at = h; is = refl })
  kind_of (fault.NotAgent n) h wanted = inr (record { cause = not_agent; number = n; at = h; is = refl })
  kind_of fault.TooMuch h wanted = inr (record { cause = too_much; number = h.0; at = h.1; is = refl })
  kind_of (fault.NotStep n) h wanted = inr (record { cause = not_step; number = n; at = h; is = refl })
  kind_of fault.OutOfMemory h wanted = absurd (wanted refl)

  one_failing : (a b : AuditFault) → Failing text a → Failing text b → a ≡ b
  one_failing a b x y =
      let f = x.at in
      let g = y.at in
      let h = same_header f.header g.header f.plan g.plan f.is_header g.is_header (texts_of f.before ++ f.line ∷ f.rest) (texts_of g.before ++ g.line ∷ g.rest) (sym f.parts ∙ g.parts) in
      let same = same_fault f.plan.nodes (few_nodes f.header f.plan f.is_header) one (script_setting f.plan) f.before g.before f.line g.line f.rest g.rest x.cause y.cause (world_of f.plan)
      (header_reached f.header f.plan f.is_header) f.hold (subst (λ (z : WorldPlan). AllHoldOf z g.before) (sym h.plans) g.hold) f.fault
      (subst (λ (z : WorldPlan). LineFault z.nodes (script_setting z) (network_of z g.before) g.line y.cause) (sym h.plans) g.fault) h.parts.rest in
      let place : x.number ≡ y.number = f.place ∙ (λ i. length (h.parts.front i) + same.place i + 1) ∙ sym g.place in
      x.is ∙ (λ i. fault_of (same.cause i) (place i)) ∙ sym y.is

  one_fault : (a b : AuditFault) → Headless text a ⊎ Failing text a → Headless text b ⊎ Failing text b → a ≡ b
  one_fault a b (inl x) (inl y) = x.is ∙ ap (λ (n : ℕ). fault.BadRecord n) (one_bad_line text x.number y.number x.at.place y.at.place) ∙ sym y.is
  one_fault a b (inl x) (inr y) = absurd (x.at.none y.at.plan y.at.header (texts_of y.at.before ++ y.at.line ∷ y.at.rest) y.at.is_header y.at.parts)
  one_fault a b (inr x) (inl y) = absurd (y.at.none x.at.plan x.at.header (texts_of x.at.before ++ x.at.line ∷ x.at.rest) x.at.is_header x.at.parts)
  one_fault a b (inr x) (inr y) = one_failing a b x y

  no_fault : (p : WorldPlan) (ys : List AuditedLine) (a : AuditFault) → Audits text p ys → IsFault text a → a ≡ fault.OutOfMemory
  no_fault p ys (fault.BadRecord n) h (inl f) = absurd (f.none p h.header (texts_of ys) h.is_header h.parts)
  no_fault p ys (fault.BadRecord n) h (inr f) = absurd (never_both p ys bad_record n h f)
  no_fault p ys (fault.NotSent n) h f = absurd (never_both p ys not_sent n h f)
  no_fault p ys (fault.NotAgent n) h f = absurd (never_both p ys not_agent n h f)
  no_fault p ys fault.TooMuch h f = absurd (never_both p ys too_much f.0 h f.1)
  no_fault p ys (fault.NotStep n) h f = absurd (never_both p ys not_step n h f)
  no_fault p ys fault.OutOfMemory h f = refl

pub audits_agree : RecordLinesMeanOneThing → AuditsAgree
audits_agree one = record {
  audits = λ text p q ys zs a b. same_audits one text p q ys zs a b;
  faults = λ text a b f g wanted wanted_too. one_fault one text a b (kind_of one text a f wanted) (kind_of one text b g wanted_too);
  either = λ text a h f. no_fault one text h.plan h.lines a h.audits f;
}
