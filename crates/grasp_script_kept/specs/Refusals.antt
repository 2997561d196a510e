-- Inside: why a text is refused.
use Rattle.std.specs.Prelude.{ℕ, List}
use Rattle.grasp_script.specs.declared.fault.ScriptFault.{ScriptFault}
use Rattle.grasp_script.specs.declared.fault.ScriptFault.TheVariants.{BadScript, OutOfMemory}
use Rattle.grasp_script_kept.specs.Scripts.{IsBadKeptLine, IsNoKeptScript}

abbrev pub IsRefused : List ℕ → ScriptFault → Type 0
IsRefused text (BadScript n) = IsNoKeptScript text × IsBadKeptLine text n
IsRefused text OutOfMemory = Unit {0}
