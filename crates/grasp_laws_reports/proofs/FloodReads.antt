-- A report that tells floods is that of a call that read them.
use Rattle.std.proofs.Common.{◌≡◌, refl, sym, ap, ◌∙◌, subst, arith, ℕ, zero, suc, ◌+◌, ◌%◌, ◌/◌, ◌<◌, ◌≤◌, ◌==◌, Bool, true, false, cond, lt-ltb, List, [], ◌∷◌, ◌++◌, Option, Some, None, Err}
use Rattle.std.specs.Fmt.{digit_glyph, digits, digits_onto}
use Rattle.std.specs.Prelude.{codes, decimal}
use Rattle.std.proofs.lemmas.Option.{same_Some}
use Rattle.grasp_agent.specs.declared.back.ReturnFault.TheVariants as back
use Rattle.grasp_agent.specs.declared.want.WantFault.TheVariants.{Full}
use Rattle.grasp_model_node.specs.Begin.{begin}
use Rattle.grasp_model_node.specs.Step.{Acts}
use Rattle.grasp_types.specs.declared.flood.FloodRead.{FloodRead}
use Rattle.grasp_types.specs.declared.reply.ApiAnswer.{ApiAnswer}
use Rattle.grasp_types.specs.declared.reply.ApiAnswer.TheVariants as answer
use Rattle.grasp_types.specs.declared.reply.Reply.{Reply}
use Rattle.grasp_types.specs.declared.reply.Reply.TheVariants as reply
use Rattle.grasp_types.specs.declared.session.Progress.TheVariants as progress
use Rattle.grasp_model_network.specs.Events.{Occurs, after_event, visit_of}
use Rattle.grasp_model_network.specs.Reports.{report_by, report_of, report_visit}
use Rattle.grasp_model_network.specs.Setting.{Setting}
use Rattle.grasp_model_network.specs.Visits.{Choice, MayCome, Visit, VisitStep}
use Rattle.grasp_model_network.specs.World.{WorldState}
use Rattle.grasp_model_network.specs.declared.event.Event.{Event}
use Rattle.grasp_model_network.specs.declared.event.Event.TheVariants as event
use Rattle.grasp_model_network.specs.declared.report.Report.{Report}
use Rattle.grasp_model_network.specs.declared.report.Report.TheVariants as report
use Rattle.grasp_laws_network.proofs.Noted.{no_call}
use Rattle.grasp_laws_network.specs.Noted.{Grows, ReadsFloods, RepliesAreNoted, grown, kept}
use Rattle.grasp_script.specs.Answers.{all_flood_read_words, answer_words, reply_words}
use Rattle.grasp_script.specs.Reports.{report_words}
use Rattle.grasp_laws_reports.proofs.Agreements.{first}
use Rattle.grasp_laws_reports.proofs.OnlyPolls.{calls_only, none_told, visit_told}
use Rattle.grasp_laws_reports.specs.Floods.{FloodsReportsTell, NotesReads}
use Rattle.grasp_laws_reports.specs.Outcomes.{reply_in}

-- ---- words that begin with `floods`

-- the second letter of the first word
second : List (List ℕ) → ℕ
second ((one ∷ letter ∷ word) ∷ words) = letter
second _ = 0

-- the word begins with no letter
abbrev IsLow : List ℕ → Type 0
IsLow word = first (word ∷ []) ≤ 57

either_low : (b : Bool) (xs ys : List ℕ) → IsLow xs → IsLow ys → IsLow (cond b xs ys)
either_low true xs ys x y = x
either_low false xs ys x y = y

glyph_low : (d : ℕ) (acc : List ℕ) → d < 10 → IsLow (digit_glyph false d ∷ acc)
unfolding first
glyph_low d acc low = subst (λ b. cond b (48 + d) (87 + d) ≤ 57) (sym (lt-ltb d 10 low)) (omega arith)

digits_low : (k n : ℕ) (acc : List ℕ) → IsLow acc → IsLow (digits_onto k 10 false n acc)
digits_low zero n acc low = low
digits_low (suc k) n acc low =
    let glyph = glyph_low (n % 10) acc (omega arith) in
    either_low (n / 10 == 0) (digit_glyph false (n % 10) ∷ acc) (digits_onto k 10 false (n / 10) (digit_glyph false (n % 10) ∷ acc)) glyph (digits_low k (n / 10) (digit_glyph false (n % 10) ∷ acc) glyph)

number_low : (n : ℕ) → IsLow (decimal n)
unfolding first digits
number_low n = digits_low 64 n [] (omega arith)

-- the answer whose words these are
floods_answer : (a : ApiAnswer) (words : List (List ℕ)) → answer_words a ≡ codes "floods" ∷ words → (reads : List FloodRead) × (a ≡ answer.Floods reads) × (words ≡ all_flood_read_words reads)
unfolding second
floods_answer (answer.Floods reads) words e = (reads, refl, (let z : words ≡ all_flood_read_words reads = cc in z))
floods_answer (answer.Polled progress.NotYet) words e = absurd (omega (arith, ap second e))
floods_answer _ words e = absurd (omega (arith, ap second e))

floods_reply : (r : Reply) (words : List (List ℕ)) → reply_words r ≡ codes "floods" ∷ words → (reads : List FloodRead) × (r ≡ reply.Api (answer.Floods reads)) × (words ≡ all_flood_read_words reads)
unfolding second
floods_reply (reply.Api a) words e = let h = floods_answer a words e in (h.0, (λ i. reply.Api (h.1 i)), h.2)
floods_reply _ words e = absurd (omega (arith, ap second e))

floods_report : (r : Report) (words : List (List ℕ)) → report_words r ≡ codes "floods" ∷ words
    → (reads : List FloodRead) × (reply_in r ≡ Some (reply.Api (answer.Floods reads))) × (words ≡ all_flood_read_words reads)
unfolding first second
floods_report (report.Reply r) words e = let h = floods_reply r words e in (h.0, (λ i. Some (h.1 i)), h.2)
floods_report (report.Agent call r) words e = let h = floods_reply r words e in (h.0, (λ i. Some (h.1 i)), h.2)
floods_report (report.Reading millis) words e = absurd (omega (arith, number_low millis, ap first e))
floods_report (report.Want (Err Full)) words e = absurd (omega (arith, ap second e))
floods_report (report.Return (Err back.Full)) words e = absurd (omega (arith, ap second e))
floods_report _ words e = absurd (omega (arith, ap second e))

-- ---- what is read is noted

reads_of : Reply → List FloodRead
reads_of (reply.Api (answer.Floods reads)) = reads
reads_of _ = []

module _ (s : Setting) (w : WorldState) (e : Event) (c : Choice) where
  by_visit : Occurs s w e c → (reads : List FloodRead) (z : Option Visit) → visit_of s w e ≡ z → reply_in (report_by w e c z) ≡ Some (reply.Api (answer.Floods reads)) → ReadsFloods s w e c reads
  by_visit occurs reads None is told = absurd (none_told w e (reply.Api (answer.Floods reads)) told)
  by_visit occurs reads (Some v) is told =
      let tells = same_Some c.reply (reply.Api (answer.Floods reads)) (visit_told e v c (reply.Api (answer.Floods reads)) told) in
      let came : VisitStep v c = subst (λ z. MayCome z c) is occurs.comes in
      let acts = subst (λ (q : Reply). Acts (begin v.seat.core v.now) v.input c.coming q c.after) tells came.steps.acts in
      let k = calls_only (begin v.seat.core v.now) c.after v.input c.coming (answer.Floods reads) acts in
      record { visit = v; asa = k.asa; made = k.made; told = record { visits = is; calls = k.is; answers = tells } }

  noted_so : (reads : List FloodRead) → ReadsFloods s w e c reads → (after : List FloodRead) → Grows (ReadsFloods s w e c) w.floods_read after → after ≡ w.floods_read ++ reads
  unfolding reads_of
  noted_so reads told after (grown more t is) = is ∙ ap (λ r. w.floods_read ++ reads_of r) (sym t.told.answers ∙ told.told.answers)
  noted_so reads told after (kept none is) = absurd (none reads told)

reported_so : (s : Setting) (w : WorldState) (e : Event) (c : Choice) (reads : List FloodRead) (t : ReadsFloods s w e c reads) → report_words (report_visit e t.visit c) ≡ codes "floods" ∷ all_flood_read_words reads
reported_so s w (event.Agent node hold) c reads t = ap reply_words t.told.answers
reported_so s w (event.Api node asa made hold) c reads t = ap reply_words t.told.answers
reported_so s w e c reads t = absurd (no_call s w e c tt t.visit t.asa t.made (answer.Floods reads) t.told)

reported : (s : Setting) (w : WorldState) (e : Event) (c : Choice) (reads : List FloodRead) → ReadsFloods s w e c reads → report_words (report_of s w e c) ≡ codes "floods" ∷ all_flood_read_words reads
unfolding report_of
reported s w e c reads t = ap (λ z. report_words (report_by w e c z)) t.told.visits ∙ reported_so s w e c reads t

module _ (noted : RepliesAreNoted) where
  told_so : (s : Setting) (w : WorldState) (e : Event) (c : Choice) → Occurs s w e c → (words : List (List ℕ)) → report_words (report_of s w e c) ≡ codes "floods" ∷ words → NotesReads s w e c words
  unfolding report_of
  told_so s w e c occurs words is =
      let h = floods_report (report_of s w e c) words is in
      let told = by_visit s w e c occurs h.0 (visit_of s w e) refl h.1 in
      record { reads = h.0; told = told; have_words = h.2; noted = noted_so s w e c h.0 told (after_event s w e c).floods_read (noted.each s w e c).floods_read }

  others_so : (s : Setting) (w : WorldState) (e : Event) (c : Choice) → ((words : List (List ℕ)) → ¬ (report_words (report_of s w e c) ≡ codes "floods" ∷ words))
      → (after : List FloodRead) → Grows (ReadsFloods s w e c) w.floods_read after → after ≡ w.floods_read
  others_so s w e c none after (grown more t is) = absurd (none (all_flood_read_words more) (reported s w e c more t))
  others_so s w e c none after (kept silent is) = is

  pub floods_reports_tell : FloodsReportsTell
  floods_reports_tell = record {
    reports = told_so;
    reads = reported;
    others = λ s w e c none. others_so s w e c none (after_event s w e c).floods_read (noted.each s w e c).floods_read;
  }
