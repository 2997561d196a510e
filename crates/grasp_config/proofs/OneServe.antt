-- A text has one configuration of a node that serves, or one first bad key, and not both.
use Rattle.std.proofs.Common.{◌≡◌, ℕ, ◌⊎◌, inl, inr, true, false, List, Some, None, Result, Ok, Err, refl, sym, subst, ◌∙◌}
use Rattle.std.proofs.lemmas.Option.{same_Some}
use Rattle.grasp_cbor.proofs.Facts.Options.{same_some}
use Rattle.toml.specs.Data.{Members}
use Rattle.grasp_types.specs.declared.address.Locator.{Locator}
use Rattle.grasp_config.specs.Config.{IsTomlOf, key_order}
use Rattle.grasp_config.specs.Floodable.{are_floodable}
use Rattle.grasp_config.specs.NodePart.{node_part, serve_part}
use Rattle.grasp_config.specs.Serve.{IsServeTable, IsServeOf, IsBadServeKey, serve_order, FirstOf, HasFloods, IsFirstBadServe, HasServe, HasFirstBadServe, IsBadServe}
use Rattle.grasp_config.specs.ServeFaults.{IfBadServe}
use Rattle.grasp_config.specs.declared.config.NodeConfig.{NodeConfig}
use Rattle.grasp_config.specs.declared.fault.ConfigKey.TheVariants as node_key
use Rattle.grasp_config.specs.declared.serve.ServeConfig.{ServeConfig}
use Rattle.grasp_config.specs.declared.serve.ServeTable.{ServeTable}
use Rattle.grasp_config.specs.declared.serve_fault.ServeKey.{ServeKey}
use Rattle.grasp_config.specs.declared.serve_fault.ServeKey.TheVariants.{Node, Floods, Serve, Control, Guests, Mode, Store, Forget, Locator as LocatorKey, Allow, Streams, Silence, Retry, RetryMost, Every, Tick, Visitors, Log, Name, Unknown}
use Rattle.grasp_config.specs.declared.serve_fault.ServeFault.{ServeFault}
use Rattle.grasp_config.specs.declared.serve_fault.ServeFault.TheVariants.{BadServe, OutOfMemory}
use Rattle.grasp_config.proofs.FirstBad.{is_read}
use Rattle.grasp_config.proofs.FirstOf.{no_first_of}
use Rattle.grasp_config.proofs.OneConfig.{one_config_of, no_first, first_is_bad, same_table}

-- a table is one table `serve`
one_table : (listen : Locator) (table : Members) (a b : ServeTable) → IsServeTable listen table a → IsServeTable listen table b → a ≡ b
one_table listen table a b x y = λ i. record {
  control = same_some _ a.control b.control x.control y.control i;
  guests = same_some _ a.guests b.guests x.guests y.guests i;
  mode = same_some _ a.mode b.mode x.mode y.mode i;
  store = same_some _ a.store b.store x.store y.store i;
  locator = same_some _ a.locator b.locator x.locator y.locator i;
  allow = same_some _ a.allow b.allow x.allow y.allow i;
  streams = same_some _ a.streams b.streams x.streams y.streams i;
  silence = same_some _ a.silence b.silence x.silence y.silence i;
  retry = same_some _ a.retry b.retry x.retry y.retry i;
  retry_most = same_some _ a.retry_most b.retry_most x.retry_most y.retry_most i;
  every = same_some _ a.every b.every x.every y.every i;
  tick = same_some _ a.tick b.tick x.tick y.tick i;
  visitors = same_some _ a.visitors b.visitors x.visitors y.visitors i;
  log = same_some _ a.log b.log x.log y.log i;
  name = same_some _ a.name b.name x.name y.name i;
}

-- a table is one configuration of a node that serves
one_serve_of : (whole : Members) (a b : ServeConfig) → IsServeOf whole a → IsServeOf whole b → a ≡ b
one_serve_of whole a b x y =
    let n : a.node ≡ b.node = one_config_of (node_part whole) a.node b.node x.node y.node in
    let t : x.table ≡ y.table = same_Some x.table y.table (sym x.there ∙ y.there) in
    let here : IsServeTable b.node.listen y.table a.serve =
    subst (λ (m : Members). IsServeTable b.node.listen m a.serve) t (subst (λ (c : NodeConfig). IsServeTable c.listen x.table a.serve) n x.is) in
    let s : a.serve ≡ b.serve = one_table b.node.listen y.table a.serve b.serve here y.is in
    λ i. record { node = n i; serve = s i }

pub one_serve : (text : List ℕ) (a b : ServeConfig) → HasServe text a → HasServe text b → a ≡ b
one_serve text a b x y = one_serve_of y.table a b (subst (λ t. IsServeOf t a) (same_table text x.table y.table x.toml y.toml) x.is) y.is

-- no key of a table `serve` is bad
pub serve_key_is_good : (listen : Locator) (table : Members) (serve : ServeTable) (key : ServeKey) → IsServeTable listen table serve → ¬ IsBadServeKey listen table key
serve_key_is_good listen table serve Control is = is_read _ serve.control is.control
serve_key_is_good listen table serve Guests is = is_read _ serve.guests is.guests
serve_key_is_good listen table serve Mode is = is_read _ serve.mode is.mode
serve_key_is_good listen table serve Store is = is_read _ serve.store is.store
serve_key_is_good listen table serve Forget is = is_read _ _ is.forget
serve_key_is_good listen table serve LocatorKey is = is_read _ serve.locator is.locator
serve_key_is_good listen table serve Allow is = is_read _ serve.allow is.allow
serve_key_is_good listen table serve Streams is = is_read _ serve.streams is.streams
serve_key_is_good listen table serve Silence is = is_read _ serve.silence is.silence
serve_key_is_good listen table serve Retry is = is_read _ serve.retry is.retry
serve_key_is_good listen table serve RetryMost is = is_read _ serve.retry_most is.retry_most
serve_key_is_good listen table serve Every is = is_read _ serve.every is.every
serve_key_is_good listen table serve Tick is = is_read _ serve.tick is.tick
serve_key_is_good listen table serve Visitors is = is_read _ serve.visitors is.visitors
serve_key_is_good listen table serve Log is = is_read _ serve.log is.log
serve_key_is_good listen table serve Name is = is_read _ serve.name is.name
serve_key_is_good listen table serve Unknown is = λ bad. let e : true ≡ false = sym is.known ∙ bad in cc
serve_key_is_good listen table serve (Node key) is = λ bad. bad
serve_key_is_good listen table serve Floods is = λ bad. bad
serve_key_is_good listen table serve Serve is = λ bad. bad

no_bad_table : (whole : Members) (config : ServeConfig) (key : ServeKey) (node : NodeConfig) (table : Members) → IsServeOf whole config → HasFloods whole node → serve_part whole ≡ Some table
    → ¬ FirstOf (IsBadServeKey node.listen table) serve_order key
no_bad_table whole config key node table is has there =
    let n : config.node ≡ node = one_config_of (node_part whole) config.node node is.node has.is in
    let t : is.table ≡ table = same_Some is.table table (sym is.there ∙ there) in
    let here : IsServeTable node.listen table config.serve =
    subst (λ (m : Members). IsServeTable node.listen m config.serve) t (subst (λ (c : NodeConfig). IsServeTable c.listen is.table config.serve) n is.is) in
    no_first_of (IsBadServeKey node.listen table) serve_order key (λ k. serve_key_is_good node.listen table config.serve k here)

abbrev floods : NodeConfig → Type 0
floods node = are_floodable node.address node.size node.beacons ≡ true

-- a table that is a configuration has no first bad key
pub no_bad_serve : (whole : Members) (config : ServeConfig) (key : ServeKey) → IsServeOf whole config → ¬ IsFirstBadServe whole key
no_bad_serve whole config (Node key) is = no_first (node_part whole) config.node key_order key is.node
no_bad_serve whole config Floods is = λ bad.
    let good : floods bad.node = subst floods (one_config_of (node_part whole) config.node bad.node is.node bad.is) is.floodable in
    let e : true ≡ false = sym good ∙ bad.bad in cc
no_bad_serve whole config Serve is = λ bad. let e : Some is.table ≡ None = sym is.there ∙ bad.none in cc
no_bad_serve whole config key is = λ bad. no_bad_table whole config key bad.node bad.table is bad.floods bad.there bad.first

-- the first bad key of the text's table is that of the text
pub bad_serve_text : (text : List ℕ) (table : Members) (key : ServeKey) → IsTomlOf text table → IsFirstBadServe table key → IsBadServe text key
bad_serve_text text table (Node node_key.Toml) toml first = absurd (first_is_bad (node_part table) key_order node_key.Toml first)
bad_serve_text text table _ toml first = record { table = table; toml = toml; first = first }

-- what is said of the table, said of the text
pub has_first_serve : (text : List ℕ) (table : Members) (result : Result ServeConfig ServeFault) → IsTomlOf text table → IfBadServe result (IsFirstBadServe table) → IfBadServe result (IsBadServe text)
has_first_serve text table (Ok config) toml is = tt
has_first_serve text table (Err (BadServe key)) toml is = bad_serve_text text table key toml is
has_first_serve text table (Err OutOfMemory) toml is = tt

-- either the text is TOML for no table, or the key is the first bad one of its table
bad_serve_cases : (text : List ℕ) (key : ServeKey) → IsBadServe text key → ((key ≡ Node node_key.Toml) × ((table : Members) → ¬ IsTomlOf text table)) ⊎ HasFirstBadServe text key
bad_serve_cases text (Node node_key.Toml) bad = inl (refl, bad)
bad_serve_cases text _ bad = inr bad

no_bad_by : (text : List ℕ) (config : ServeConfig) (key : ServeKey) → HasServe text config
    → ((key ≡ Node node_key.Toml) × ((table : Members) → ¬ IsTomlOf text table)) ⊎ HasFirstBadServe text key → ⊥
no_bad_by text config key has (inl x) = x.1 has.table has.toml
no_bad_by text config key has (inr x) =
    no_bad_serve has.table config key has.is (subst (λ t. IsFirstBadServe t key) (same_table text x.table has.table x.toml has.toml) x.first)

pub no_bad_serve_key : (text : List ℕ) (config : ServeConfig) (key : ServeKey) → HasServe text config → ¬ IsBadServe text key
no_bad_serve_key text config key has bad = no_bad_by text config key has (bad_serve_cases text key bad)

-- where the text has a first bad key, it has no configuration
pub none_serve : (text : List ℕ) (result : Result ServeConfig ServeFault) → IfBadServe result (IsBadServe text) → IfBadServe result (λ _. (config : ServeConfig) → ¬ HasServe text config)
none_serve text (Ok config) bad = tt
none_serve text (Err (BadServe key)) bad = λ config has. no_bad_serve_key text config key has bad
none_serve text (Err OutOfMemory) bad = tt
