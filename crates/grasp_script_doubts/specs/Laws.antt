-- Laws on scripts of networks of doubters.
use Rattle.std.specs.Prelude.{◌≡◌, ℕ, ◌≤◌, List}
use Rattle.grasp_model_network.specs.declared.plan.WorldPlan.{WorldPlan}
use Rattle.grasp_script_doubts.specs.Lines.{IsDoubtLine}
use Rattle.grasp_script_doubts.specs.Scripts.{IsDoubtScript}
use Rattle.grasp_script_doubts.specs.declared.line.DoubtLine.{DoubtLine}
use Rattle.grasp_script_doubts.specs.declared.line.DoubtLineAct.{DoubtLineAct}

-- a line means one thing at most
abbrev pub DoubtLinesMeanOneThing : Type 0
DoubtLinesMeanOneThing = (nodes : ℕ) (line : List ℕ) (a b : DoubtLineAct) → nodes ≤ 255 → IsDoubtLine nodes line a → IsDoubtLine nodes line b → a ≡ b

-- a text is at most one script
abbrev pub TextsHaveOneDoubtScript : Type 0
TextsHaveOneDoubtScript = (text : List ℕ) (p q : WorldPlan) (a b : List DoubtLine) → IsDoubtScript text p a → IsDoubtScript text q b → (p ≡ q) × (a ≡ b)
