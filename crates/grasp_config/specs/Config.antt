-- The configuration that a text has, and the first key of it that is bad.
use Rattle.std.specs.Prelude.{◌≡◌, ℕ, ◌≤◌, ◌⊎◌, true, false, List, [], ◌∷◌, length, Option, Some, None}
use Rattle.std.specs.Str.{IsUtf8}
use Rattle.toml.specs.Data.{Members}
use Rattle.toml.specs.Parse.{parse_document}
use Rattle.grasp_pool.specs.Roots.{AllValid, AllApart}
use Rattle.grasp_pool.specs.declared.roots.RootPrefix.{RootPrefix}
use Rattle.grasp_config.specs.Keys.{address_in, listen_in, turns_in, wait_in, size_in, roots_in, links_in, wants_in, beacons_in, readers_in, is_known}
use Rattle.grasp_config.specs.declared.config.NodeConfig.{NodeConfig}
use Rattle.grasp_config.specs.declared.fault.ConfigKey.{ConfigKey}
use Rattle.grasp_config.specs.declared.fault.ConfigKey.TheVariants.{Address, Listen, Turns, Wait, Size, Roots, Link, Want, Beacon, Reader, Unknown, Toml}

-- a pool opens with these roots: there are at most 1,024, each is a prefix, and no two overlap
pub record AreRoots (roots : List RootPrefix) : Type 0 where
  pub few : length roots ≤ 1024
  pub valid : AllValid roots (length roots)
  pub apart : AllApart roots (length roots)

-- the table is this configuration: each key is read as its part, and no other key stands there
pub record IsConfigOf (table : Members) (config : NodeConfig) : Type 0 where
  pub address : address_in table ≡ Some config.address
  pub listen : listen_in table ≡ Some config.listen
  pub turns : turns_in table ≡ Some config.turns
  pub wait : wait_in table ≡ Some config.wait
  pub size : size_in table ≡ Some config.size
  pub roots : roots_in table ≡ Some config.roots
  pub opens : AreRoots config.roots
  pub links : links_in table ≡ Some config.links
  pub wants : wants_in table ≡ Some config.wants
  pub beacons : beacons_in table ≡ Some config.beacons
  pub readers : readers_in table ≡ Some config.readers
  pub known : is_known table ≡ true

-- no roots are read, or a pool doesn't open with them
abbrev pub AreBadRoots : Option (List RootPrefix) → Type 0
AreBadRoots None = Unit {0}
AreBadRoots (Some roots) = ¬ AreRoots roots

-- this key of the table is bad
abbrev pub IsBadKey : Members → ConfigKey → Type 0
IsBadKey table Address = address_in table ≡ None
IsBadKey table Listen = listen_in table ≡ None
IsBadKey table Turns = turns_in table ≡ None
IsBadKey table Wait = wait_in table ≡ None
IsBadKey table Size = size_in table ≡ None
IsBadKey table Roots = AreBadRoots (roots_in table)
IsBadKey table Link = links_in table ≡ None
IsBadKey table Want = wants_in table ≡ None
IsBadKey table Beacon = beacons_in table ≡ None
IsBadKey table Reader = readers_in table ≡ None
IsBadKey table Unknown = is_known table ≡ false
IsBadKey table Toml = ⊥

-- the keys in the order in which they are looked at
abbrev pub key_order : List ConfigKey
key_order = Address ∷ Listen ∷ Turns ∷ Wait ∷ Size ∷ Roots ∷ Link ∷ Want ∷ Beacon ∷ Reader ∷ Unknown ∷ []

-- the first of these keys that is bad
abbrev pub FirstBadOf : Members → List ConfigKey → ConfigKey → Type 0
FirstBadOf table [] key = ⊥
FirstBadOf table (first ∷ others) key = (IsBadKey table first × (key ≡ first)) ⊎ ((¬ IsBadKey table first) × FirstBadOf table others key)

abbrev pub IsFirstBad : Members → ConfigKey → Type 0
IsFirstBad table key = FirstBadOf table key_order key

-- the text is UTF-8, and TOML for this table
pub record IsTomlOf (text : List ℕ) (table : Members) : Type 0 where
  pub utf8 : IsUtf8 text
  pub parsed : parse_document text ≡ Some table

-- the text has this configuration
pub record HasConfig (text : List ℕ) (config : NodeConfig) : Type 0 where
  pub table : Members
  pub toml : IsTomlOf text table
  pub is : IsConfigOf table config

-- the text is TOML for a table, of which this is the first bad key
pub record HasFirstBad (text : List ℕ) (key : ConfigKey) : Type 0 where
  pub table : Members
  pub toml : IsTomlOf text table
  pub first : IsFirstBad table key

-- the first key of the text that is bad: `toml` where it is TOML for no table, and else the table's
abbrev pub IsBadText : List ℕ → ConfigKey → Type 0
IsBadText text Toml = (table : Members) → ¬ IsTomlOf text table
IsBadText text key = HasFirstBad text key
