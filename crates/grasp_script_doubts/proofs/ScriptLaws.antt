-- A text is at most one script of a network of doubters, and what begins no header begins none.
use Rattle.std.proofs.Common.{◌≡◌, inl, inr, ℕ, ◌≤◌, List, [], ◌∷◌, ◌++◌, refl, sym, ap, subst, ◌∙◌, append_assoc, arith, Err}
use Rattle.std.specs.List.{AllByRecursion}
use Rattle.std.proofs.lemmas.List.{append-nil}
use Rattle.grasp_model_network.specs.declared.plan.WorldPlan.{WorldPlan}
use Rattle.grasp_script.specs.Scripts.{IfBadScript, IsHeader, text_lines}
use Rattle.grasp_script.specs.declared.fault.ScriptFault.{ScriptFault}
use Rattle.grasp_script.specs.declared.fault.ScriptFault.TheVariants.{BadScript, OutOfMemory}
use Rattle.grasp_script.proofs.ScriptLaws.{Lines, same_header}
use Rattle.grasp_script_parts.specs.Heads.{BeginsHead, HasNoHead, IsBadHead}
use Rattle.grasp_script_parts.proofs.Heads.{splits}
use Rattle.grasp_script_doubts.specs.Laws.{TextsHaveOneDoubtScript}
use Rattle.grasp_script_doubts.specs.Lines.{IsDoubtLine}
use Rattle.grasp_script_doubts.specs.Scripts.{BeginsDoubtScript, IsBadDoubtLine, IsDoubtScript, IsItsDoubtLine, IsNoDoubtScript, IsUnfitDoubtLine, doubt_texts}
use Rattle.grasp_script_doubts.specs.declared.line.DoubtLine.{DoubtLine}
use Rattle.grasp_script_doubts.proofs.DoubtLines.{doubt_one}

-- ---- one script

module _ (nodes : ℕ) (few : nodes ≤ 255) where
  one_each : (a b : List DoubtLine) → AllByRecursion (IsItsDoubtLine nodes) a → AllByRecursion (IsItsDoubtLine nodes) b → doubt_texts a ≡ doubt_texts b → a ≡ b
  one_each [] [] p q e = refl
  one_each [] (y ∷ b) p q e = absurd cc
  one_each (x ∷ a) [] p q e = absurd cc
  one_each (x ∷ a) (y ∷ b) p q e =
      let text : x.text ≡ y.text = cc in
      let others : doubt_texts a ≡ doubt_texts b = cc in
      let meant : x.act ≡ y.act = doubt_one nodes few x.text x.act y.act p.0 (subst (λ (t : List ℕ). IsDoubtLine nodes t y.act) (sym text) q.0) in
      let same : x ≡ y = (λ i. record { text = text i; act = meant i }) in
      (λ i. same i ∷ one_each a b p.1 q.1 others i)

few_nodes : (lines : Lines) (plan : WorldPlan) → IsHeader lines plan → plan.nodes ≤ 255
few_nodes lines plan h = let most = h.good.most_nodes in omega arith

pub one_script : TextsHaveOneDoubtScript
one_script text p q a b s t =
    let h = same_header s.header t.header p q s.is_header t.is_header (doubt_texts a) (doubt_texts b) (sym s.parts ∙ t.parts) in
    (h.plans, one_each p.nodes (few_nodes s.header p s.is_header) a b s.meant (subst (λ (x : WorldPlan). AllByRecursion (IsItsDoubtLine x.nodes) b) (sym h.plans) t.meant) h.parts.rest)

-- ---- beginnings

begins_before : (a b : Lines) → BeginsDoubtScript (a ++ b) → BeginsDoubtScript a
begins_before a b h = record { plan = h.plan; header = h.header; lines = h.lines; more = b ++ h.more; is_header = h.is_header; meant = h.meant; parts = h.parts ∙ append_assoc a b h.more }

script_begins : (text : List ℕ) (plan : WorldPlan) (lines : List DoubtLine) → IsDoubtScript text plan lines → BeginsDoubtScript (text_lines text)
script_begins text plan lines s = record { plan = plan; header = s.header; lines = lines; more = []; is_header = s.is_header; meant = s.meant; parts = sym s.parts ∙ sym (append-nil (text_lines text)) }

pub unfit_no_script : (text : List ℕ) (n : ℕ) → IsUnfitDoubtLine text n → IsNoDoubtScript text
unfit_no_script text n u plan lines s =
    u.none (begins_before (u.front ++ u.line ∷ []) u.rest (subst BeginsDoubtScript (u.parts ∙ sym (append_assoc u.front (u.line ∷ []) u.rest)) (script_begins text plan lines s)))

-- ---- a text that begins with no header

pub no_script : (text : List ℕ) → HasNoHead text → IsNoDoubtScript text
no_script text none plan lines s = none plan s.header (doubt_texts lines) s.is_header s.parts

-- what begins a header begins a script
begins_script : (front : Lines) → BeginsHead front → BeginsDoubtScript front
begins_script front b = record { plan = b.plan; header = b.header; lines = []; more = b.more; is_header = b.is_header; meant = tt; parts = append-nil b.header ∙ b.parts }

-- where a text has no header, those of its lines that begin no header begin no script
module _ (text : List ℕ) (none : HasNoHead text) (front rest : Lines) (whole : text_lines text ≡ front ++ rest) (unfit : ¬ BeginsHead front) where
  begins_none : ¬ BeginsDoubtScript front
  begins_none b = elim (splits b.header front (doubt_texts b.lines) b.more b.parts) [
    | inl s ↦ none b.plan b.header (s.more ++ rest) b.is_header (whole ∙ ap (λ (t : Lines). t ++ rest) s.parts ∙ append_assoc b.header s.more rest)
    | inr s ↦ unfit (record { plan = b.plan; header = b.header; more = s.more; is_header = b.is_header; parts = s.parts })
  ]

bad_line : (text : List ℕ) (n : ℕ) → IsBadHead text n → IsBadDoubtLine text n
bad_line text n h = elim h.bad [
  | inl u ↦ inl (record {
    front = u.front;
    line = u.line;
    rest = u.rest;
    parts = u.parts;
    before = begins_script u.front u.before;
    none = begins_none text h.none (u.front ++ u.line ∷ []) u.rest (u.parts ∙ sym (append_assoc u.front (u.line ∷ []) u.rest)) u.none;
    place = u.place;
  })
  | inr m ↦ inr (record { before = begins_script (text_lines text) m.before; none = no_script text h.none; place = m.place })
]

-- what is told of a text that begins with no header
pub told_none : (X Y : Type 0) (text : List ℕ) (f : ScriptFault) → IfBadScript {X = X} (Err f) (λ n. IsBadHead text n) → IfBadScript {X = Y} (Err f) (λ n. IsNoDoubtScript text)
told_none X Y text (BadScript n) h = no_script text h.none
told_none X Y text OutOfMemory h = tt

pub told_bad : (X Y : Type 0) (text : List ℕ) (f : ScriptFault) → IfBadScript {X = X} (Err f) (λ n. IsBadHead text n) → IfBadScript {X = Y} (Err f) (λ n. IsBadDoubtLine text n)
told_bad X Y text (BadScript n) h = bad_line text n h
told_bad X Y text OutOfMemory h = tt
