-- A text has one configuration, or one first bad key, and not both.
use Rattle.std.proofs.Common.{◌≡◌, ℕ, ◌⊎◌, inl, inr, true, false, List, [], ◌∷◌, Result, Ok, Err, refl, sym, subst, ◌∙◌}
use Rattle.std.proofs.lemmas.Option.{same_Some}
use Rattle.grasp_cbor.proofs.Facts.Options.{same_some}
use Rattle.toml.specs.Data.{Members}
use Rattle.grasp_config.specs.Config.{IsConfigOf, IsBadKey, FirstBadOf, IsFirstBad, key_order, IsTomlOf, HasConfig, HasFirstBad, IsBadText}
use Rattle.grasp_config.specs.Faults.{IfBadConfig}
use Rattle.grasp_config.specs.Keys.{roots_in}
use Rattle.grasp_config.specs.declared.config.NodeConfig.{NodeConfig}
use Rattle.grasp_config.specs.declared.fault.ConfigKey.{ConfigKey}
use Rattle.grasp_config.specs.declared.fault.ConfigKey.TheVariants.{Address, Listen, Turns, Wait, Size, Roots, Link, Want, Beacon, Reader, Unknown, Toml}
use Rattle.grasp_config.specs.declared.fault.ConfigFault.{ConfigFault}
use Rattle.grasp_config.specs.declared.fault.ConfigFault.TheVariants.{BadConfig, OutOfMemory}
use Rattle.grasp_config.proofs.FirstBad.{is_read, good_roots, one_first}

-- a table is one configuration
pub one_config_of : (table : Members) (a b : NodeConfig) → IsConfigOf table a → IsConfigOf table b → a ≡ b
one_config_of table a b x y = λ i. record {
  address = same_some _ a.address b.address x.address y.address i;
  listen = same_some _ a.listen b.listen x.listen y.listen i;
  turns = same_some _ a.turns b.turns x.turns y.turns i;
  wait = same_some _ a.wait b.wait x.wait y.wait i;
  size = same_some _ a.size b.size x.size y.size i;
  roots = same_some _ a.roots b.roots x.roots y.roots i;
  links = same_some _ a.links b.links x.links y.links i;
  wants = same_some _ a.wants b.wants x.wants y.wants i;
  beacons = same_some _ a.beacons b.beacons x.beacons y.beacons i;
  readers = same_some _ a.readers b.readers x.readers y.readers i;
}

-- a text is TOML for one table
pub same_table : (text : List ℕ) (s t : Members) → IsTomlOf text s → IsTomlOf text t → s ≡ t
same_table text s t x y = same_Some s t (sym x.parsed ∙ y.parsed)

pub one_config : (text : List ℕ) (a b : NodeConfig) → HasConfig text a → HasConfig text b → a ≡ b
one_config text a b x y = one_config_of y.table a b (subst (λ t. IsConfigOf t a) (same_table text x.table y.table x.toml y.toml) x.is) y.is

-- no key of a configuration is bad
pub key_is_good : (table : Members) (config : NodeConfig) (key : ConfigKey) → IsConfigOf table config → ¬ IsBadKey table key
key_is_good table config Address is = is_read _ config.address is.address
key_is_good table config Listen is = is_read _ config.listen is.listen
key_is_good table config Turns is = is_read _ config.turns is.turns
key_is_good table config Wait is = is_read _ config.wait is.wait
key_is_good table config Size is = is_read _ config.size is.size
key_is_good table config Roots is = good_roots (roots_in table) config.roots is.roots is.opens
key_is_good table config Link is = is_read _ config.links is.links
key_is_good table config Want is = is_read _ config.wants is.wants
key_is_good table config Beacon is = is_read _ config.beacons is.beacons
key_is_good table config Reader is = is_read _ config.readers is.readers
key_is_good table config Unknown is = λ bad. let e : true ≡ false = sym is.known ∙ bad in cc
key_is_good table config Toml is = λ bad. bad

pub no_first : (table : Members) (config : NodeConfig) (keys : List ConfigKey) (key : ConfigKey) → IsConfigOf table config → ¬ FirstBadOf table keys key
no_first table config [] key is = λ bad. bad
no_first table config (first ∷ others) key is = λ bad. elim bad [
  | inl here ↦ key_is_good table config first is here.0
  | inr more ↦ no_first table config others key is more.1
]

-- the first bad key is bad
pub first_is_bad : (table : Members) (keys : List ConfigKey) (key : ConfigKey) → FirstBadOf table keys key → IsBadKey table key
first_is_bad table [] key bad = absurd bad
first_is_bad table (first ∷ others) key (inl bad) = subst (IsBadKey table) (sym bad.1) bad.0
first_is_bad table (first ∷ others) key (inr more) = first_is_bad table others key more.1

-- the first bad key of the text's table is that of the text
pub bad_text : (text : List ℕ) (table : Members) (key : ConfigKey) → IsTomlOf text table → IsFirstBad table key → IsBadText text key
bad_text text table Toml toml first = absurd (first_is_bad table key_order Toml first)
bad_text text table _ toml first = record { table = table; toml = toml; first = first }

-- either the text is TOML for no table, or the key is the first bad one of its table
bad_cases : (text : List ℕ) (key : ConfigKey) → IsBadText text key → ((key ≡ Toml) × ((table : Members) → ¬ IsTomlOf text table)) ⊎ HasFirstBad text key
bad_cases text Toml bad = inl (refl, bad)
bad_cases text _ bad = inr bad

same_first : (text : List ℕ) (a b : ConfigKey) → HasFirstBad text a → HasFirstBad text b → a ≡ b
same_first text a b x y = one_first y.table key_order a b (subst (λ t. IsFirstBad t a) (same_table text x.table y.table x.toml y.toml) x.first) y.first

one_bad_by : (text : List ℕ) (a b : ConfigKey) → ((a ≡ Toml) × ((table : Members) → ¬ IsTomlOf text table)) ⊎ HasFirstBad text a → ((b ≡ Toml) × ((table : Members) → ¬ IsTomlOf text table)) ⊎ HasFirstBad text b → a ≡ b
one_bad_by text a b (inl x) (inl y) = x.0 ∙ sym y.0
one_bad_by text a b (inl x) (inr y) = absurd (x.1 y.table y.toml)
one_bad_by text a b (inr x) (inl y) = absurd (y.1 x.table x.toml)
one_bad_by text a b (inr x) (inr y) = same_first text a b x y

pub one_bad_key : (text : List ℕ) (a b : ConfigKey) → IsBadText text a → IsBadText text b → a ≡ b
one_bad_key text a b x y = one_bad_by text a b (bad_cases text a x) (bad_cases text b y)

no_bad_by : (text : List ℕ) (config : NodeConfig) (key : ConfigKey) → HasConfig text config → ((key ≡ Toml) × ((table : Members) → ¬ IsTomlOf text table)) ⊎ HasFirstBad text key → ⊥
no_bad_by text config key has (inl x) = x.1 has.table has.toml
no_bad_by text config key has (inr x) = no_first has.table config key_order key has.is (subst (λ t. IsFirstBad t key) (same_table text x.table has.table x.toml has.toml) x.first)

pub no_bad_key : (text : List ℕ) (config : NodeConfig) (key : ConfigKey) → HasConfig text config → ¬ IsBadText text key
no_bad_key text config key has bad = no_bad_by text config key has (bad_cases text key bad)

-- what is said of the table, said of the text
pub has_first : (text : List ℕ) (table : Members) (result : Result NodeConfig ConfigFault) → IsTomlOf text table → IfBadConfig result (IsFirstBad table) → IfBadConfig result (IsBadText text)
has_first text table (Ok config) toml is = tt
has_first text table (Err (BadConfig key)) toml is = bad_text text table key toml is
has_first text table (Err OutOfMemory) toml is = tt
