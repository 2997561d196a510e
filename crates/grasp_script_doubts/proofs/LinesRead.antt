-- The lines behind a header, one after another.
use Rattle.std.proofs.Common.{◌≡◌, ℕ, ◌+◌, List, [], ◌∷◌, ◌++◌, length, refl, sym, ap, subst, ◌∙◌, append_assoc, arith, length-append}
use Rattle.std.specs.List.{AllByRecursion}
use Rattle.std.proofs.lemmas.List.{append-nil}
use Rattle.grasp_text.proofs.Pushed.{each_more}
use Rattle.grasp_model_network.specs.declared.plan.WorldPlan.{WorldPlan}
use Rattle.grasp_script.specs.Reads.{HeaderRead}
use Rattle.grasp_script.specs.Scripts.{text_lines, IsHeader}
use Rattle.grasp_script.proofs.ScriptLaws.{Lines, same_header}
use Rattle.grasp_script_doubts.specs.Lines.{IsDoubtLine, IsNoDoubtLine}
use Rattle.grasp_script_doubts.specs.Scripts.{IsDoubtScript, IsItsDoubtLine, IsUnfitDoubtLine, doubt_texts}
use Rattle.grasp_script_doubts.specs.declared.line.DoubtLine.{DoubtLine}

-- the header of a text and these lines behind it were read, so many lines in all, and the rest is left
pub record LinesRead (text : List ℕ) (rest : Lines) (plan : WorldPlan) (lines : List DoubtLine) (number : ℕ) : Type 0 where
  pub header : Lines
  pub is_header : IsHeader header plan
  pub parts : text_lines text ≡ (header ++ doubt_texts lines) ++ rest
  pub meant : AllByRecursion (IsItsDoubtLine plan.nodes) lines
  pub place : number ≡ length (header ++ doubt_texts lines)

pub header_read : (text rest : List ℕ) (plan : WorldPlan) (number : ℕ) (lines : List DoubtLine) → lines ≡ [] → HeaderRead text rest plan number → LinesRead text (text_lines rest) plan lines number
header_read text rest plan number lines none h = subst (λ (xs : List DoubtLine). LinesRead text (text_lines rest) plan xs number) (sym none) (record {
  header = h.header;
  is_header = h.is_header;
  parts = h.parts ∙ ap (λ (t : Lines). t ++ text_lines rest) (sym (append-nil h.header));
  meant = tt;
  place = h.place ∙ ap length (sym (append-nil h.header));
})

texts_more : (lines : List DoubtLine) (x : DoubtLine) → doubt_texts (lines ++ x ∷ []) ≡ doubt_texts lines ++ x.text ∷ []
texts_more [] x = refl
texts_more (l ∷ lines) x = ap (λ (t : Lines). l.text ∷ t) (texts_more lines x)

pub lines_more : (text : List ℕ) (rest : Lines) (plan : WorldPlan) (lines : List DoubtLine) (number : ℕ) (x : DoubtLine) (behind : Lines) → LinesRead text rest plan lines number → rest ≡ x.text ∷ behind
    → IsItsDoubtLine plan.nodes x → LinesRead text behind plan (lines ++ x ∷ []) (number + 1)
lines_more text rest plan lines number x behind h f is =
    let whole : h.header ++ doubt_texts (lines ++ x ∷ []) ≡ (h.header ++ doubt_texts lines) ++ x.text ∷ [] =
    ap (λ (t : Lines). h.header ++ t) (texts_more lines x) ∙ sym (append_assoc h.header (doubt_texts lines) (x.text ∷ [])) in
    record {
      header = h.header;
      is_header = h.is_header;
      parts = h.parts ∙ ap (λ (t : Lines). (h.header ++ doubt_texts lines) ++ t) f ∙ sym (append_assoc (h.header ++ doubt_texts lines) (x.text ∷ []) behind) ∙ ap (λ (t : Lines). t ++ behind) (sym whole);
      meant = each_more (IsItsDoubtLine plan.nodes) lines x h.meant is;
      place = omega (arith, h.place, ap length whole, length-append (h.header ++ doubt_texts lines) (x.text ∷ []));
    }

pub lines_read : (text : List ℕ) (rest : Lines) (plan : WorldPlan) (lines : List DoubtLine) (number : ℕ) → LinesRead text rest plan lines number → rest ≡ [] → IsDoubtScript text plan lines
lines_read text rest plan lines number h e = record {
  header = h.header;
  is_header = h.is_header;
  meant = h.meant;
  parts = h.parts ∙ ap (λ (t : Lines). (h.header ++ doubt_texts lines) ++ t) e ∙ append-nil (h.header ++ doubt_texts lines);
}

-- what the line behind these means, in a longer script
record NextLine (nodes : ℕ) (text : List ℕ) : Type 0 where
  found : DoubtLine
  same : found.text ≡ text
  meant : IsItsDoubtLine nodes found

next_line : (nodes : ℕ) (lines longer : List DoubtLine) (text : List ℕ) (more : Lines) → AllByRecursion (IsItsDoubtLine nodes) longer → doubt_texts longer ≡ doubt_texts lines ++ text ∷ more → NextLine nodes text
next_line nodes [] [] text more q e = absurd cc
next_line nodes [] (y ∷ longer) text more q e = let first : y.text ≡ text = cc in record { found = y; same = first; meant = q.0 }
next_line nodes (x ∷ lines) [] text more q e = absurd cc
next_line nodes (x ∷ lines) (y ∷ longer) text more q e =
    let others : doubt_texts longer ≡ doubt_texts lines ++ text ∷ more = cc in
    next_line nodes lines longer text more q.1 others

-- a line that means nothing
pub line_unfit : (text : List ℕ) (rest : Lines) (plan : WorldPlan) (lines : List DoubtLine) (number : ℕ) (line : List ℕ) (behind : Lines) → LinesRead text rest plan lines number → rest ≡ line ∷ behind
    → IsNoDoubtLine plan.nodes line → IsUnfitDoubtLine text (number + 1)
line_unfit text rest plan lines number line behind h f bad = record {
  front = h.header ++ doubt_texts lines;
  line = line;
  rest = behind;
  parts = h.parts ∙ ap (λ (t : Lines). (h.header ++ doubt_texts lines) ++ t) f;
  before = record { plan = plan; header = h.header; lines = lines; more = []; is_header = h.is_header; meant = h.meant; parts = sym (append-nil (h.header ++ doubt_texts lines)) };
  none = λ b.
      let whole : b.header ++ doubt_texts b.lines ≡ h.header ++ (doubt_texts lines ++ line ∷ b.more) =
      b.parts ∙ append_assoc (h.header ++ doubt_texts lines) (line ∷ []) b.more ∙ append_assoc h.header (doubt_texts lines) (line ∷ b.more) in
      let s = same_header b.header h.header b.plan plan b.is_header h.is_header (doubt_texts b.lines) (doubt_texts lines ++ line ∷ b.more) whole in
      let n = next_line b.plan.nodes lines b.lines line b.more b.meant s.parts.rest in
      bad n.found.act (subst (λ (t : List ℕ). IsDoubtLine plan.nodes t n.found.act) n.same (subst (λ (p : WorldPlan). IsItsDoubtLine p.nodes n.found) s.plans n.meant));
  place = ap (λ (n : ℕ). n + 1) h.place;
}
