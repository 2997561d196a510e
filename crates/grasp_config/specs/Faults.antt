-- Why a text is no configuration.
use Rattle.std.specs.Prelude.{ℕ, List, Result, Ok, Err, codes}
use Rattle.grasp_config.specs.declared.fault.ConfigKey.{ConfigKey}
use Rattle.grasp_config.specs.declared.fault.ConfigKey.TheVariants.{Address, Listen, Turns, Wait, Size, Roots, Link, Want, Beacon, Reader, Unknown, Toml}
use Rattle.grasp_config.specs.declared.fault.ConfigFault.{ConfigFault}
use Rattle.grasp_config.specs.declared.fault.ConfigFault.TheVariants.{BadConfig, OutOfMemory}

-- the printed word of a key
abbrev pub key_word : ConfigKey → List ℕ
key_word Address = codes "address"
key_word Listen = codes "listen"
key_word Turns = codes "turns"
key_word Wait = codes "wait"
key_word Size = codes "size"
key_word Roots = codes "roots"
key_word Link = codes "link"
key_word Want = codes "want"
key_word Beacon = codes "beacon"
key_word Reader = codes "reader"
key_word Unknown = codes "unknown"
key_word Toml = codes "toml"

-- a configuration was refused, for a key of which P says so
abbrev pub IfBadConfig : {A : Type 0} → Result A ConfigFault → (ConfigKey → Type 0) → Type 0
IfBadConfig (Ok a) P = Unit {0}
IfBadConfig (Err (BadConfig key)) P = P key
IfBadConfig (Err OutOfMemory) P = Unit {0}
