-- The text that is drawn from a number is a script.
use Rattle.std.proofs.Common.{◌≡◌, sym, subst, ℕ, List}
use Rattle.grasp_script_draws.specs.Generator.{script_of}
use Rattle.grasp_laws_draws.specs.Generated.{DrawnTextsAreScripts, IsDrawnScript}
use Rattle.grasp_script.specs.Scripts.{IsScript, IsNoScript}
use Rattle.grasp_script.specs.declared.script.Script.{Script}

pub no_bad_line : DrawnTextsAreScripts → (number : ℕ) (text : List ℕ) → text ≡ script_of number → IsNoScript text → ⊥
no_bad_line drawn number text same none =
    let d : IsDrawnScript number = drawn number in
    none d.plan d.lines (subst (λ (t : List ℕ). IsScript t d.plan d.lines) (sym same) d.script)

pub read_drawn : (number : ℕ) (text : List ℕ) (script : Script) → text ≡ script_of number → IsScript text script.plan script.lines → IsScript (script_of number) script.plan script.lines
read_drawn number text script same read = subst (λ (t : List ℕ). IsScript t script.plan script.lines) same read
