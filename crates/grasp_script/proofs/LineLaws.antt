-- A line means one thing at most, and is read as that.
use Rattle.std.proofs.Common.{◌≡◌, ℕ, ◌≤◌, List, [], Option, Some, None, Result, Ok, Err, sym, ap, subst, ◌∙◌}
use Rattle.std.specs.Prelude.{IfOk, IfSome, IfNone}
use Rattle.std.specs.Str.{IsUtf8}
use Rattle.grasp_text.specs.Words.{words_of}
use Rattle.grasp_text.proofs.Lawful.{ok_is}
use Rattle.grasp_script.specs.Acts.{IsLine, IsNoLine}
use Rattle.grasp_script.specs.Grammar.{act_at}
use Rattle.grasp_script.specs.Laws.{LinesMeanOneThing}
use Rattle.grasp_script.specs.declared.line.Line.{Line}
use Rattle.grasp_script.specs.declared.line.LineAct.{LineAct}
use Rattle.grasp_script.proofs.ActLaws.{act_only, act_found}

line_found : (nodes : ℕ) → nodes ≤ 255 → (line : List ℕ) (a : LineAct) → IsLine nodes line a → act_at nodes (words_of line) ≡ Ok (a, [])
line_found nodes few line a is = ap (act_at nodes) is.spelled ∙ act_found nodes few a is.ranges

pub line_only : (nodes : ℕ) → nodes ≤ 255 → (line : List ℕ) (a : LineAct) (left : List (List ℕ)) → act_at nodes (words_of line) ≡ Ok (a, left) → IsUtf8 line → IsLine nodes line a
line_only nodes few line a left e utf8 = let m = act_only nodes few (words_of line) (a, left) e in record { ranges = m.ranges; text = utf8; spelled = m.spelled }

pub line_none : (nodes : ℕ) → nodes ≤ 255 → (line : List ℕ) (n : ℕ) → act_at nodes (words_of line) ≡ Err n → IsNoLine nodes line
line_none nodes few line n bad a is = let z = sym bad ∙ line_found nodes few line a is in cc

pub no_text : (nodes : ℕ) (line : List ℕ) → ¬ IsUtf8 line → IsNoLine nodes line
no_text nodes line none a is = none is.text

-- a line means one thing at most
pub line_one : (nodes : ℕ) → nodes ≤ 255 → (line : List ℕ) (a b : LineAct) → IsLine nodes line a → IsLine nodes line b → a ≡ b
line_one nodes few line a b p q = ap (λ (x : LineAct × List (List ℕ)). x.0) (ok_is (a, []) (b, []) (sym (line_found nodes few line a p) ∙ line_found nodes few line b q))

pub lines_mean_one_thing : LinesMeanOneThing
lines_mean_one_thing nodes line a b few p q = line_one nodes few line a b p q

-- ---- what is told of a line with its text

pub told_meant : {E : Type 0} (r : Result (Option Line) E) (nodes : ℕ) → nodes ≤ 255 → (line : List ℕ) (a : LineAct) (left : List (List ℕ)) → act_at nodes (words_of line) ≡ Ok (a, left) → IfOk r (λ o. IfSome o (λ x. x.act ≡ a)) → IfOk r (λ o. IfSome o (λ x. IsUtf8 line)) → IfOk r (λ o. IfSome o (λ x. IsLine nodes line x.act))
told_meant (Ok (Some x)) nodes few line a left e same utf8 = subst (λ (b : LineAct). IsLine nodes line b) (sym same) (line_only nodes few line a left e utf8)
told_meant (Ok None) nodes few line a left e same utf8 = tt
told_meant (Err y) nodes few line a left e same utf8 = tt

pub told_none : {E : Type 0} (r : Result (Option Line) E) (nodes : ℕ) (line : List ℕ) → IfOk r (λ o. IfNone o (¬ IsUtf8 line)) → IfOk r (λ o. IfNone o (IsNoLine nodes line))
told_none (Ok (Some x)) nodes line h = tt
told_none (Ok None) nodes line h = no_text nodes line h
told_none (Err y) nodes line h = tt
