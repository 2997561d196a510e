-- Laws on scripts of networks whose nodes crash.
use Rattle.std.specs.Prelude.{◌≡◌, ℕ, ◌≤◌, List}
use Rattle.grasp_model_network.specs.declared.plan.WorldPlan.{WorldPlan}
use Rattle.grasp_script_kept.specs.Lines.{IsKeptLine, kept_text}
use Rattle.grasp_script_kept.specs.Scripts.{IsKeptScript}
use Rattle.grasp_script_kept.specs.declared.line.KeptLine.{KeptLine}

-- a line means one thing at most
abbrev pub KeptLinesMeanOneThing : Type 0
KeptLinesMeanOneThing = (nodes : ℕ) (x y : KeptLine) → nodes ≤ 255 → kept_text x ≡ kept_text y → IsKeptLine nodes x → IsKeptLine nodes y → x ≡ y

-- a text is at most one script
abbrev pub TextsHaveOneKeptScript : Type 0
TextsHaveOneKeptScript = (text : List ℕ) (p q : WorldPlan) (a b : List KeptLine) → IsKeptScript text p a → IsKeptScript text q b → (p ≡ q) × (a ≡ b)
