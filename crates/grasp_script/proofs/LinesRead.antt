-- The lines behind a header, one after another.
use Rattle.std.proofs.Common.{◌≡◌, ℕ, ◌+◌, List, [], ◌∷◌, ◌++◌, length, refl, sym, ap, subst, ◌∙◌, append_assoc, arith, length-append}
use Rattle.std.specs.List.{AllByRecursion}
use Rattle.std.proofs.lemmas.List.{append-nil}
use Rattle.grasp_text.proofs.Pushed.{each_more}
use Rattle.grasp_model_network.specs.declared.plan.WorldPlan.{WorldPlan}
use Rattle.grasp_script.specs.Acts.{IsLine, IsNoLine}
use Rattle.grasp_script.specs.Scripts.{text_lines, texts, IsHeader, IsItsLine, IsScript, IsUnfitLine}
use Rattle.grasp_script.specs.declared.line.Line.{Line}
use Rattle.grasp_script.specs.declared.line.LineAct.{LineAct}
use Rattle.grasp_script.proofs.ScriptLaws.{Lines, same_header}

-- the header of a text and these lines behind it were read, so many lines in all, and the rest is left
pub record LinesRead (text : List ℕ) (rest : Lines) (plan : WorldPlan) (lines : List Line) (number : ℕ) : Type 0 where
  pub header : Lines
  pub is_header : IsHeader header plan
  pub parts : text_lines text ≡ (header ++ texts lines) ++ rest
  pub meant : AllByRecursion (IsItsLine plan.nodes) lines
  pub place : number ≡ length (header ++ texts lines)

texts_more : (lines : List Line) (x : Line) → texts (lines ++ x ∷ []) ≡ texts lines ++ x.text ∷ []
texts_more [] x = refl
texts_more (l ∷ lines) x = ap (λ (t : Lines). l.text ∷ t) (texts_more lines x)

pub lines_more : (text : List ℕ) (rest : Lines) (plan : WorldPlan) (lines : List Line) (number : ℕ) (x : Line) (behind : Lines) → LinesRead text rest plan lines number → rest ≡ x.text ∷ behind → IsItsLine plan.nodes x → LinesRead text behind plan (lines ++ x ∷ []) (number + 1)
lines_more text rest plan lines number x behind h f is =
    let whole : h.header ++ texts (lines ++ x ∷ []) ≡ (h.header ++ texts lines) ++ x.text ∷ [] = ap (λ (t : Lines). h.header ++ t) (texts_more lines x) ∙ sym (append_assoc h.header (texts lines) (x.text ∷ [])) in
    record {
      header = h.header;
      is_header = h.is_header;
      parts = h.parts ∙ ap (λ (t : Lines). (h.header ++ texts lines) ++ t) f ∙ sym (append_assoc (h.header ++ texts lines) (x.text ∷ []) behind) ∙ ap (λ (t : Lines). t ++ behind) (sym whole);
      meant = each_more (IsItsLine plan.nodes) lines x h.meant is;
      place = omega (arith, h.place, ap length whole, length-append (h.header ++ texts lines) (x.text ∷ []));
    }

pub lines_read : (text : List ℕ) (rest : Lines) (plan : WorldPlan) (lines : List Line) (number : ℕ) → LinesRead text rest plan lines number → rest ≡ [] → IsScript text plan lines
lines_read text rest plan lines number h e = record {
  header = h.header;
  is_header = h.is_header;
  meant = h.meant;
  parts = h.parts ∙ ap (λ (t : Lines). (h.header ++ texts lines) ++ t) e ∙ append-nil (h.header ++ texts lines);
}

-- what the line behind these means, in a longer script
next_act : (nodes : ℕ) (lines longer : List Line) (line : List ℕ) (more : Lines) → AllByRecursion (IsItsLine nodes) longer → texts longer ≡ texts lines ++ line ∷ more → (a : LineAct) × IsLine nodes line a
next_act nodes [] [] line more q e = absurd cc
next_act nodes [] (y ∷ longer) line more q e =
    let text : y.text ≡ line = cc in
    (y.act, subst (λ (t : List ℕ). IsLine nodes t y.act) text q.0)
next_act nodes (x ∷ lines) [] line more q e = absurd cc
next_act nodes (x ∷ lines) (y ∷ longer) line more q e =
    let others : texts longer ≡ texts lines ++ line ∷ more = cc in
    next_act nodes lines longer line more q.1 others

-- a line that means nothing
pub line_unfit : (text : List ℕ) (rest : Lines) (plan : WorldPlan) (lines : List Line) (number : ℕ) (line : List ℕ) (behind : Lines) → LinesRead text rest plan lines number → rest ≡ line ∷ behind → IsNoLine plan.nodes line → IsUnfitLine text (number + 1)
line_unfit text rest plan lines number line behind h f bad = record {
  front = h.header ++ texts lines;
  line = line;
  rest = behind;
  parts = h.parts ∙ ap (λ (t : Lines). (h.header ++ texts lines) ++ t) f;
  before = record { plan = plan; header = h.header; lines = lines; more = []; is_header = h.is_header; meant = h.meant; parts = sym (append-nil (h.header ++ texts lines)) };
  none = λ b.
      let whole : b.header ++ texts b.lines ≡ h.header ++ (texts lines ++ line ∷ b.more) = b.parts ∙ append_assoc (h.header ++ texts lines) (line ∷ []) b.more ∙ append_assoc h.header (texts lines) (line ∷ b.more) in
      let s = same_header b.header h.header b.plan plan b.is_header h.is_header (texts b.lines) (texts lines ++ line ∷ b.more) whole in
      let n = next_act b.plan.nodes lines b.lines line b.more b.meant s.parts.rest in
      bad n.0 (subst (λ (p : WorldPlan). IsLine p.nodes line n.0) s.plans n.1);
  place = ap (λ (n : ℕ). n + 1) h.place;
}
