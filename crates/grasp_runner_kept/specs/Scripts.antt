-- What the code promises of a whole script of a network whose nodes crash.
use Rattle.std.specs.Prelude.{ℕ, List}
use Rattle.grasp_script_kept.specs.Scripts.{IsKeptScript}
use Rattle.grasp_script_kept.specs.declared.script.KeptScript.{KeptScript}

-- the script is that of some text
abbrev pub IsKeptRead : KeptScript → Type 0
IsKeptRead script = (text : List ℕ) × IsKeptScript text script.plan script.lines
