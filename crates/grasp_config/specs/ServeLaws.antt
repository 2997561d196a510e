-- Laws on configurations of nodes that serve.
use Rattle.std.specs.Prelude.{◌≡◌, ℕ, ◌<◌, ◌≤◌, ◌⊎◌, true, List, length, IfSome}
use Rattle.std.specs.List.{AllByRecursion}
use Rattle.toml.specs.Data.{Members}
use Rattle.grasp_types.specs.Address.{IsAddress}
use Rattle.grasp_config.specs.Laws.{IsInRange}
use Rattle.grasp_config.specs.Serve.{HasServe, IsBadServe, IsServeOf}
use Rattle.grasp_config.specs.ServeKeys.{bits_of, is_reachable}
use Rattle.grasp_config.specs.Words.{IsEndpoint}
use Rattle.grasp_config.specs.declared.serve.AllowedRange.{AllowedRange}
use Rattle.grasp_config.specs.declared.serve.ServeConfig.{ServeConfig}
use Rattle.grasp_config.specs.declared.serve.ServeTable.{ServeTable}
use Rattle.grasp_config.specs.declared.serve_fault.ServeKey.{ServeKey}

-- a text has at most one configuration of a node that serves
abbrev pub TextsHaveOneServe : Type 0
TextsHaveOneServe = (text : List ℕ) (a b : ServeConfig) → HasServe text a → HasServe text b → a ≡ b

-- a text that has one has no first bad key
abbrev pub ServesHaveNoBadKey : Type 0
ServesHaveNoBadKey = (text : List ℕ) (config : ServeConfig) (key : ServeKey) → HasServe text config → ¬ IsBadServe text key

-- a text is a configuration of a node that serves, or has a first bad key
abbrev pub TextsServeOrBad : Type 0
TextsServeOrBad = (text : List ℕ) → ((config : ServeConfig) × HasServe text config) ⊎ ((key : ServeKey) × IsBadServe text key)

-- a text of so many bytes
abbrev pub HasSize : ℕ → List ℕ → Type 0
HasSize most text = (1 ≤ length text) × (length text ≤ most)

-- the bits of a range are no more than those of its address
abbrev pub IsRange : AllowedRange → Type 0
IsRange range = IsAddress range.address × (range.length ≤ bits_of range.address)

abbrev pub IsBetween : ℕ → ℕ → ℕ → Type 0
IsBetween least most n = (least ≤ n) × (n ≤ most)

-- each part of the table `serve` is within its limits
pub record IsServeInRange (serve : ServeTable) : Type 0 where
  pub control : HasSize 107 serve.control
  pub guests : IfSome serve.guests (HasSize 107)
  pub mode : serve.mode < 512
  pub store : IfSome serve.store (HasSize 4095)
  pub locator : IsEndpoint serve.locator
  pub reachable : is_reachable serve.locator ≡ true
  pub allow : AllByRecursion IsRange serve.allow
  pub streams : IsBetween 1 64 serve.streams
  pub silence : IsBetween 1000 3600000 serve.silence
  pub retry : IsBetween 100 3600000 serve.retry
  pub retry_most : IsBetween serve.retry 86400000 serve.retry_most
  pub every : IfSome serve.every (IsBetween 1000 86400000)
  pub tick : IsBetween 100 1000 serve.tick
  pub visitors : IsBetween 1 64 serve.visitors
  pub name : IfSome serve.name (HasSize 32)

-- each part of a configuration of a node that serves is within its limits
abbrev pub ServesAreInRange : Type 0
ServesAreInRange = (whole : Members) (config : ServeConfig) → IsServeOf whole config → IsInRange config.node × IsServeInRange config.serve
