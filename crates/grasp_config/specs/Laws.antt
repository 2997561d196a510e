-- Laws on configurations.
use Rattle.std.specs.Prelude.{◌≡◌, ℕ, ◌+◌, ◌≤◌, ◌⊎◌, List, length}
use Rattle.std.specs.List.{AllByRecursion}
use Rattle.toml.specs.Data.{Members}
use Rattle.grasp_types.specs.declared.links.Neighbour.{Neighbour}
use Rattle.grasp_config.specs.declared.config.WantConfig.{WantConfig}
use Rattle.grasp_text.specs.Readers.{IsWordReader}
use Rattle.grasp_config.specs.Words.{IsEndpoint, endpoint_word, endpoint_of, IsRoot, root_word, root_of}
use Rattle.grasp_config.specs.Config.{HasConfig, IsBadText, IsConfigOf}
use Rattle.grasp_config.specs.declared.config.NodeConfig.{NodeConfig}
use Rattle.grasp_config.specs.declared.fault.ConfigKey.{ConfigKey}

-- a text has at most one configuration
abbrev pub TextsHaveOneConfig : Type 0
TextsHaveOneConfig = (text : List ℕ) (a b : NodeConfig) → HasConfig text a → HasConfig text b → a ≡ b

-- a text has at most one first bad key
abbrev pub TextsHaveOneBadKey : Type 0
TextsHaveOneBadKey = (text : List ℕ) (a b : ConfigKey) → IsBadText text a → IsBadText text b → a ≡ b

-- a text that has a configuration has no first bad key
abbrev pub ConfigsHaveNoBadKey : Type 0
ConfigsHaveNoBadKey = (text : List ℕ) (config : NodeConfig) (key : ConfigKey) → HasConfig text config → ¬ IsBadText text key

-- a text has a configuration or a first bad key
abbrev pub TextsAreConfigsOrBad : Type 0
TextsAreConfigsOrBad = (text : List ℕ) → ((config : NodeConfig) × HasConfig text config) ⊎ ((key : ConfigKey) × IsBadText text key)

-- the word of an endpoint, and no other, is read as it, and likewise of a root
abbrev pub EndpointsAreRead : Type 0
EndpointsAreRead = IsWordReader IsEndpoint endpoint_word endpoint_of

abbrev pub RootsAreRead : Type 0
RootsAreRead = IsWordReader IsRoot root_word root_of

-- the numbers of a want are in order, and a stream can be opened to its peer
pub record IsWant (want : WantConfig) : Type 0 where
  pub least : 1 ≤ want.length
  pub order : want.length ≤ want.longest
  pub most : want.longest ≤ 128
  pub peer : IsEndpoint want.peer

-- a stream can be opened to a neighbour
abbrev pub IsNeighbour : Neighbour → Type 0
IsNeighbour neighbour = IsEndpoint neighbour.locator

abbrev pub IsLink : List Neighbour → Type 0
IsLink neighbours = (length neighbours ≤ 16) × AllByRecursion IsNeighbour neighbours

-- each part of a configuration is within its limits
pub record IsInRange (config : NodeConfig) : Type 0 where
  pub listen : IsEndpoint config.listen
  pub some_turns : 1 ≤ config.turns
  pub most_turns : config.turns ≤ 1000000
  pub wait : config.wait ≤ 1000
  pub least_size : 2048 ≤ config.size
  pub most_size : config.size ≤ 65535
  pub few_links : length config.links ≤ 16
  pub links : AllByRecursion IsLink config.links
  pub wants : AllByRecursion IsWant config.wants
  pub few_agents : length config.beacons + length config.readers ≤ 7

abbrev pub ConfigsAreInRange : Type 0
ConfigsAreInRange = (table : Members) (config : NodeConfig) → IsConfigOf table config → IsInRange config
