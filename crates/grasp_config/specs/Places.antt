-- What the bad places of a text tell.
use Rattle.std.specs.Prelude.{◌≡◌, ℕ, List, [], ◌∷◌}
use Rattle.grasp_config.specs.Config.{HasConfig, IsBadText}
use Rattle.grasp_config.specs.Serve.{HasServe, IsBadServe}
use Rattle.grasp_config.specs.declared.config.NodeConfig.{NodeConfig}
use Rattle.grasp_config.specs.declared.fault.ConfigKey.{ConfigKey}
use Rattle.grasp_config.specs.declared.place.BadPlace.{BadPlace}
use Rattle.grasp_config.specs.declared.serve.ServeConfig.{ServeConfig}
use Rattle.grasp_config.specs.declared.serve_fault.ServeKey.{ServeKey}
use Rattle.grasp_config.specs.declared.serve_fault.ServeKey.TheVariants.{Node}

-- the text is the configuration of a node that serves where there is no bad place, and else the first one is of its first
-- bad key
abbrev pub TellsServe : List ℕ → List BadPlace → Type 0
TellsServe text [] = (config : ServeConfig) × HasServe text config
TellsServe text (first ∷ others) = IsBadServe text first.key

-- the same of the configuration of a node
abbrev pub TellsNode : List ℕ → List BadPlace → Type 0
TellsNode text [] = (config : NodeConfig) × HasConfig text config
TellsNode text (first ∷ others) = (key : ConfigKey) × (first.key ≡ Node key) × IsBadText text key

-- Inside: there are bad places, and the first one is of this key
abbrev pub IsLedBy : ServeKey → List BadPlace → Type 0
IsLedBy key [] = ⊥
IsLedBy key (first ∷ others) = first.key ≡ key
