-- A text is at most one script of a network whose nodes crash.
use Rattle.std.proofs.Common.{◌≡◌, ℕ, ◌≤◌, List, [], ◌∷◌, ◌++◌, refl, sym, ap, subst, ◌∙◌, append_assoc, arith}
use Rattle.std.specs.List.{AllByRecursion}
use Rattle.std.proofs.lemmas.List.{append-nil}
use Rattle.grasp_model_network.specs.declared.plan.WorldPlan.{WorldPlan}
use Rattle.grasp_script.specs.Scripts.{BeginsScript, IsHeader, IsItsLine, text_lines, texts}
use Rattle.grasp_script.specs.declared.line.Line.{Line}
use Rattle.grasp_script.proofs.ScriptLaws.{Lines, same_header}
use Rattle.grasp_script_kept.specs.Laws.{TextsHaveOneKeptScript}
use Rattle.grasp_script_kept.specs.Lines.{IsKeptLine, kept_text}
use Rattle.grasp_script_kept.specs.Scripts.{BeginsKeptScript, IsKeptScript, IsNoKeptScript, IsUnfitKeptLine, kept_texts}
use Rattle.grasp_script_kept.specs.declared.line.KeptLine.{KeptLine}
use Rattle.grasp_script_kept.specs.declared.line.KeptLine.TheVariants as line
use Rattle.grasp_script_kept.proofs.CrashLines.{kept_one}

-- ---- one script

module _ (nodes : ℕ) (few : nodes ≤ 255) where
  one_each : (a b : List KeptLine) → AllByRecursion (IsKeptLine nodes) a → AllByRecursion (IsKeptLine nodes) b → kept_texts a ≡ kept_texts b → a ≡ b
  one_each [] [] p q e = refl
  one_each [] (y ∷ b) p q e = absurd cc
  one_each (x ∷ a) [] p q e = absurd cc
  one_each (x ∷ a) (y ∷ b) p q e =
      let text : kept_text x ≡ kept_text y = cc in
      let others : kept_texts a ≡ kept_texts b = cc in
      let same : x ≡ y = kept_one nodes few x y text p.0 q.0 in
      (λ i. same i ∷ one_each a b p.1 q.1 others i)

few_nodes : (lines : Lines) (plan : WorldPlan) → IsHeader lines plan → plan.nodes ≤ 255
few_nodes lines plan h = let most = h.good.most_nodes in omega arith

pub one_script : TextsHaveOneKeptScript
one_script text p q a b s t =
    let h = same_header s.header t.header p q s.is_header t.is_header (kept_texts a) (kept_texts b) (sym s.parts ∙ t.parts) in
    (h.plans, one_each p.nodes (few_nodes s.header p s.is_header) a b s.meant (subst (λ (x : WorldPlan). AllByRecursion (IsKeptLine x.nodes) b) (sym h.plans) t.meant) h.parts.rest)

-- ---- beginnings

begins_before : (a b : Lines) → BeginsKeptScript (a ++ b) → BeginsKeptScript a
begins_before a b h = record { plan = h.plan; header = h.header; lines = h.lines; more = b ++ h.more; is_header = h.is_header; meant = h.meant; parts = h.parts ∙ append_assoc a b h.more }

script_begins : (text : List ℕ) (plan : WorldPlan) (lines : List KeptLine) → IsKeptScript text plan lines → BeginsKeptScript (text_lines text)
script_begins text plan lines s = record { plan = plan; header = s.header; lines = lines; more = []; is_header = s.is_header; meant = s.meant; parts = sym s.parts ∙ sym (append-nil (text_lines text)) }

pub unfit_no_script : (text : List ℕ) (n : ℕ) → IsUnfitKeptLine text n → IsNoKeptScript text
unfit_no_script text n u plan lines s =
    u.none (begins_before (u.front ++ u.line ∷ []) u.rest (subst BeginsKeptScript (u.parts ∙ sym (append_assoc u.front (u.line ∷ []) u.rest)) (script_begins text plan lines s)))

-- ---- any script is one of these

pub plain_lines : List Line → List KeptLine
plain_lines [] = []
plain_lines (x ∷ xs) = line.Plain x ∷ plain_lines xs

plain_texts : (xs : List Line) → kept_texts (plain_lines xs) ≡ texts xs
unfolding plain_lines
plain_texts [] = refl
plain_texts (x ∷ xs) = ap (λ (t : Lines). x.text ∷ t) (plain_texts xs)

plain_meant : (nodes : ℕ) (xs : List Line) → AllByRecursion (IsItsLine nodes) xs → AllByRecursion (IsKeptLine nodes) (plain_lines xs)
unfolding plain_lines
plain_meant nodes [] h = tt
plain_meant nodes (x ∷ xs) h = (h.0, plain_meant nodes xs h.1)

pub begins_plain : (front : Lines) → BeginsScript front → BeginsKeptScript front
begins_plain front b = record {
  plan = b.plan;
  header = b.header;
  lines = plain_lines b.lines;
  more = b.more;
  is_header = b.is_header;
  meant = plain_meant b.plan.nodes b.lines b.meant;
  parts = ap (λ (t : Lines). b.header ++ t) (plain_texts b.lines) ∙ b.parts;
}
