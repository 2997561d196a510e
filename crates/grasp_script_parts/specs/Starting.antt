-- Inside: whether a header may have ended, and why a text is refused.
use Rattle.std.specs.Prelude.{ℕ, Bool, List, codes}
use Rattle.std.specs.List.{list_any}
use Rattle.std.specs.Str.{bytes_eq}
use Rattle.grasp_script.specs.declared.fault.ScriptFault.{ScriptFault}
use Rattle.grasp_script.specs.declared.fault.ScriptFault.TheVariants.{BadScript, OutOfMemory}
use Rattle.grasp_script_parts.specs.Heads.{IsBadHead}

-- the line is that with which a header ends
abbrev pub is_start : List ℕ → Bool
is_start line = bytes_eq line (codes "start")

-- one of these lines is
unfoldable pub has_start : List (List ℕ) → Bool
has_start lines = list_any is_start lines

abbrev pub IsHeadRefused : List ℕ → ScriptFault → Type 0
IsHeadRefused text (BadScript n) = IsBadHead text n
IsHeadRefused text OutOfMemory = Unit {0}
