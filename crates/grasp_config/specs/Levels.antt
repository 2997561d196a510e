-- The words for how much a node logs. They are this project's own.
use Rattle.std.specs.Prelude.{ℕ, if◌then◌else◌, List, Option, Some, None, codes}
use Rattle.std.specs.Str.{bytes_eq}
use Rattle.grasp_config.specs.declared.level.LogLevel.{LogLevel}
use Rattle.grasp_config.specs.declared.level.LogLevel.TheVariants.{Quiet, Events, Traffic}

abbrev pub level_word : LogLevel → List ℕ
level_word Quiet = codes "quiet"
level_word Events = codes "events"
level_word Traffic = codes "traffic"

-- the level that has this word
unfoldable pub level_of : List ℕ → Option LogLevel
level_of word = if bytes_eq word (codes "quiet") then Some Quiet else (if bytes_eq word (codes "events") then Some Events else (if bytes_eq word (codes "traffic") then Some Traffic else None))
