-- What the code promises of a whole script of a network of doubters.
use Rattle.std.specs.Prelude.{ℕ, List}
use Rattle.grasp_script_doubts.specs.Scripts.{IsDoubtScript}
use Rattle.grasp_script_doubts.specs.declared.script.DoubtScript.{DoubtScript}

-- the script is that of some text
abbrev pub IsDoubtRead : DoubtScript → Type 0
IsDoubtRead script = (text : List ℕ) × IsDoubtScript text script.plan script.lines
