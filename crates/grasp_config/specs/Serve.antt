-- The configuration of a node that serves, which a text has, and the first key of it that is bad.
use Rattle.std.specs.Prelude.{◌≡◌, ℕ, ◌⊎◌, true, false, List, [], ◌∷◌, Some, None, is_none}
use Rattle.toml.specs.Data.{Members}
use Rattle.grasp_types.specs.declared.address.Locator.{Locator}
use Rattle.grasp_config.specs.Config.{IsConfigOf, IsFirstBad, IsTomlOf}
use Rattle.grasp_config.specs.Floodable.{are_floodable}
use Rattle.grasp_config.specs.NodePart.{node_part, serve_part}
use Rattle.grasp_config.specs.ServeKeys.{control_in, guests_in, mode_in, store_in, forget_in, locator_in, allow_in, streams_in, silence_in, retry_in, retry_most_in, every_in, tick_in, visitors_in, log_in, name_in, is_serve_known}
use Rattle.grasp_config.specs.declared.config.NodeConfig.{NodeConfig}
use Rattle.grasp_config.specs.declared.fault.ConfigKey.TheVariants as node_key
use Rattle.grasp_config.specs.declared.serve.ServeConfig.{ServeConfig}
use Rattle.grasp_config.specs.declared.serve.ServeTable.{ServeTable}
use Rattle.grasp_config.specs.declared.serve_fault.ServeKey.{ServeKey}
use Rattle.grasp_config.specs.declared.serve_fault.ServeKey.TheVariants.{Node, Floods, Serve, Control, Guests, Mode, Store, Forget, Locator as LocatorKey, Allow, Streams, Silence, Retry, RetryMost, Every, Tick, Visitors, Log, Name, Unknown}

-- the table `serve` of a node that listens here is this one: each key is read as its part, and no other key stands there
pub record IsServeTable (listen : Locator) (table : Members) (serve : ServeTable) : Type 0 where
  pub control : control_in table ≡ Some serve.control
  pub guests : guests_in table ≡ Some serve.guests
  pub mode : mode_in table ≡ Some serve.mode
  pub store : store_in table ≡ Some serve.store
  pub forget : forget_in table ≡ Some (is_none serve.store)
  pub locator : locator_in listen table ≡ Some serve.locator
  pub allow : allow_in table ≡ Some serve.allow
  pub streams : streams_in table ≡ Some serve.streams
  pub silence : silence_in table ≡ Some serve.silence
  pub retry : retry_in table ≡ Some serve.retry
  pub retry_most : retry_most_in table ≡ Some serve.retry_most
  pub every : every_in table ≡ Some serve.every
  pub tick : tick_in table ≡ Some serve.tick
  pub visitors : visitors_in table ≡ Some serve.visitors
  pub log : log_in table ≡ Some serve.log
  pub name : name_in table ≡ Some serve.name
  pub known : is_serve_known table ≡ true

-- the table is this configuration of a node that serves
pub record IsServeOf (whole : Members) (config : ServeConfig) : Type 0 where
  pub node : IsConfigOf (node_part whole) config.node
  pub floodable : are_floodable config.node.address config.node.size config.node.beacons ≡ true
  pub table : Members
  pub there : serve_part whole ≡ Some table
  pub is : IsServeTable config.node.listen table config.serve

-- this key of the table `serve` is bad
abbrev pub IsBadServeKey : Locator → Members → ServeKey → Type 0
IsBadServeKey listen table Control = control_in table ≡ None
IsBadServeKey listen table Guests = guests_in table ≡ None
IsBadServeKey listen table Mode = mode_in table ≡ None
IsBadServeKey listen table Store = store_in table ≡ None
IsBadServeKey listen table Forget = forget_in table ≡ None
IsBadServeKey listen table LocatorKey = locator_in listen table ≡ None
IsBadServeKey listen table Allow = allow_in table ≡ None
IsBadServeKey listen table Streams = streams_in table ≡ None
IsBadServeKey listen table Silence = silence_in table ≡ None
IsBadServeKey listen table Retry = retry_in table ≡ None
IsBadServeKey listen table RetryMost = retry_most_in table ≡ None
IsBadServeKey listen table Every = every_in table ≡ None
IsBadServeKey listen table Tick = tick_in table ≡ None
IsBadServeKey listen table Visitors = visitors_in table ≡ None
IsBadServeKey listen table Log = log_in table ≡ None
IsBadServeKey listen table Name = name_in table ≡ None
IsBadServeKey listen table Unknown = is_serve_known table ≡ false
IsBadServeKey listen table (Node key) = ⊥
IsBadServeKey listen table Floods = ⊥
IsBadServeKey listen table Serve = ⊥

-- the keys of the table `serve` in the order in which they are looked at
abbrev pub serve_order : List ServeKey
serve_order = Control ∷ Guests ∷ Mode ∷ Store ∷ Forget ∷ LocatorKey ∷ Allow ∷ Streams ∷ Silence ∷ Retry ∷ RetryMost ∷ Every ∷ Tick ∷ Visitors ∷ Log ∷ Name ∷ Unknown ∷ []

-- the first of these keys that is bad
abbrev pub FirstOf : {K : Type 0} → (K → Type 0) → List K → K → Type 0
FirstOf IsBad [] key = ⊥
FirstOf IsBad (first ∷ others) key = (IsBad first × (key ≡ first)) ⊎ ((¬ IsBad first) × FirstOf IsBad others key)

-- the node's own part is this configuration, and its beacons can be flooded
pub record HasFloods (whole : Members) (node : NodeConfig) : Type 0 where
  pub is : IsConfigOf (node_part whole) node
  pub floodable : are_floodable node.address node.size node.beacons ≡ true

-- its beacons can't be flooded
pub record HasNoRoom (whole : Members) : Type 0 where
  pub node : NodeConfig
  pub is : IsConfigOf (node_part whole) node
  pub bad : are_floodable node.address node.size node.beacons ≡ false

-- there is no table `serve`
pub record HasNoTable (whole : Members) : Type 0 where
  pub node : NodeConfig
  pub floods : HasFloods whole node
  pub none : serve_part whole ≡ None

-- there is a table `serve`, of which this is the first bad key
pub record HasBadTable (whole : Members) (key : ServeKey) : Type 0 where
  pub node : NodeConfig
  pub floods : HasFloods whole node
  pub table : Members
  pub there : serve_part whole ≡ Some table
  pub first : FirstOf (IsBadServeKey node.listen table) serve_order key

-- the first bad key of the table: one of the node's own part; else that its beacons can't be flooded; else that there is no
-- table `serve`; else one of that table
abbrev pub IsFirstBadServe : Members → ServeKey → Type 0
IsFirstBadServe whole (Node key) = IsFirstBad (node_part whole) key
IsFirstBadServe whole Floods = HasNoRoom whole
IsFirstBadServe whole Serve = HasNoTable whole
IsFirstBadServe whole key = HasBadTable whole key

-- the text has this configuration of a node that serves
pub record HasServe (text : List ℕ) (config : ServeConfig) : Type 0 where
  pub table : Members
  pub toml : IsTomlOf text table
  pub is : IsServeOf table config

-- the text is TOML for a table, of which this is the first bad key
pub record HasFirstBadServe (text : List ℕ) (key : ServeKey) : Type 0 where
  pub table : Members
  pub toml : IsTomlOf text table
  pub first : IsFirstBadServe table key

-- the first key of the text that is bad: `toml` where it is TOML for no table, and else the table's
abbrev pub IsBadServe : List ℕ → ServeKey → Type 0
IsBadServe text (Node node_key.Toml) = (table : Members) → ¬ IsTomlOf text table
IsBadServe text key = HasFirstBadServe text key
