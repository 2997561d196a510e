-- Each text has a configuration, or a first bad key.
use Rattle.std.proofs.Common.{◌≡◌, ℕ, ◌⊎◌, inl, inr, Bool, true, false, List, [], ◌∷◌, Option, Some, None, refl, sym, ◌∙◌}
use Rattle.std.specs.Str.{IsUtf8, is_utf8}
use Rattle.std.proofs.lemmas.Str.{IsUtf8-from_is_utf8, is_utf8-from_IsUtf8}
use Rattle.toml.specs.Data.{Members}
use Rattle.toml.specs.Parse.{parse_document}
use Rattle.grasp_pool.specs.declared.roots.RootPrefix.{RootPrefix}
use Rattle.grasp_config.specs.Config.{AreRoots, AreBadRoots, IsConfigOf, IsBadKey, FirstBadOf, IsFirstBad, key_order, IsTomlOf, HasConfig, IsBadText}
use Rattle.grasp_config.specs.Keys.{address_in, listen_in, turns_in, wait_in, size_in, roots_in, links_in, wants_in, beacons_in, readers_in, is_known}
use Rattle.grasp_config.specs.declared.config.NodeConfig.{NodeConfig}
use Rattle.grasp_config.specs.declared.fault.ConfigKey.{ConfigKey}
use Rattle.grasp_config.specs.declared.fault.ConfigKey.TheVariants.{Address, Listen, Turns, Wait, Size, Roots, Link, Want, Beacon, Reader, Unknown, Toml}
use Rattle.grasp_config.proofs.FirstBad.{AreGood}
use Rattle.grasp_config.proofs.OneConfig.{bad_text}
use Rattle.grasp_config.proofs.RootsDecided.{Decided, roots_decided}

pub none_decided : {A : Type 0} (found : Option A) → Decided (found ≡ None)
none_decided None = inl refl
none_decided (Some a) = inr (λ e. cc)

pub false_decided : (b : Bool) → Decided (b ≡ false)
false_decided false = inl refl
false_decided true = inr (λ e. cc)

bad_roots_decided : (found : Option (List RootPrefix)) → Decided (AreBadRoots found)
bad_roots_decided None = inl tt
bad_roots_decided (Some roots) = elim (roots_decided roots) [
  | inl good ↦ inr (λ bad. bad good)
  | inr bad ↦ inl bad
]

key_decided : (table : Members) (key : ConfigKey) → Decided (IsBadKey table key)
key_decided table Address = none_decided (address_in table)
key_decided table Listen = none_decided (listen_in table)
key_decided table Turns = none_decided (turns_in table)
key_decided table Wait = none_decided (wait_in table)
key_decided table Size = none_decided (size_in table)
key_decided table Roots = bad_roots_decided (roots_in table)
key_decided table Link = none_decided (links_in table)
key_decided table Want = none_decided (wants_in table)
key_decided table Beacon = none_decided (beacons_in table)
key_decided table Reader = none_decided (readers_in table)
key_decided table Unknown = false_decided (is_known table)
key_decided table Toml = inr (λ bad. bad)

-- one of the keys is bad, and one of these the first, or all are good
first_or_good : (table : Members) (keys : List ConfigKey) → ((key : ConfigKey) × FirstBadOf table keys key) ⊎ AreGood table keys
first_or_good table [] = inr tt
first_or_good table (key ∷ keys) = elim (key_decided table key) [
  | inl bad ↦ inl (key, inl (bad, refl))
  | inr good ↦ elim (first_or_good table keys) [
    | inl first ↦ inl (first.0, inr (good, first.1))
    | inr all ↦ inr (good, all)
  ]
]

pub found_one : {A : Type 0} (found : Option A) → ¬ (found ≡ None) → (a : A) × (found ≡ Some a)
found_one None some = absurd (some refl)
found_one (Some a) some = (a, refl)

found_roots : (found : Option (List RootPrefix)) → ¬ AreBadRoots found → (roots : List RootPrefix) × ((found ≡ Some roots) × AreRoots roots)
found_roots None good = absurd (good tt)
found_roots (Some roots) good = elim (roots_decided roots) [
  | inl are ↦ (roots, (refl, are))
  | inr bad ↦ absurd (good bad)
]

pub is_true : (b : Bool) → ¬ (b ≡ false) → b ≡ true
is_true true h = refl
is_true false h = absurd (h refl)

-- a table whose keys are good is a configuration
good_config : (table : Members) → AreGood table key_order → (config : NodeConfig) × IsConfigOf table config
good_config table (address, (listen, (turns, (wait, (size, (roots, (links, (wants, (beacons, (readers, (known, end))))))))))) =
    let a = found_one (address_in table) address in
    let l = found_one (listen_in table) listen in
    let t = found_one (turns_in table) turns in
    let w = found_one (wait_in table) wait in
    let s = found_one (size_in table) size in
    let r = found_roots (roots_in table) roots in
    let n = found_one (links_in table) links in
    let p = found_one (wants_in table) wants in
    let b = found_one (beacons_in table) beacons in
    let d = found_one (readers_in table) readers in (
      record { address = a.0; listen = l.0; turns = t.0; wait = w.0; size = s.0; roots = r.0; links = n.0; wants = p.0; beacons = b.0; readers = d.0 },
      record { address = a.1; listen = l.1; turns = t.1; wait = w.1; size = s.1; roots = r.1.0; opens = r.1.1; links = n.1; wants = p.1; beacons = b.1; readers = d.1; known = is_true (is_known table) known },
    )

pub config_or_first : (table : Members) → ((config : NodeConfig) × IsConfigOf table config) ⊎ ((key : ConfigKey) × IsFirstBad table key)
config_or_first table = elim (first_or_good table key_order) [
  | inl first ↦ inr first
  | inr good ↦ inl (good_config table good)
]

pub utf8_decided : (text : List ℕ) (b : Bool) → is_utf8 text ≡ b → Decided (IsUtf8 text)
utf8_decided text true is = inl (IsUtf8-from_is_utf8 text is)
utf8_decided text false is = inr (λ utf8. let e : true ≡ false = sym (is_utf8-from_IsUtf8 text utf8) ∙ is in cc)

by_parts : (text : List ℕ) (parsed : Option Members) → Decided (IsUtf8 text) → parse_document text ≡ parsed → ((config : NodeConfig) × HasConfig text config) ⊎ ((key : ConfigKey) × IsBadText text key)
by_parts text parsed (inr other) is = inr (Toml, λ table toml. other toml.utf8)
by_parts text None (inl utf8) is = inr (Toml, λ table toml. let e : None ≡ Some table = sym is ∙ toml.parsed in cc)
by_parts text (Some table) (inl utf8) is =
    let toml : IsTomlOf text table = record { utf8 = utf8; parsed = is } in
    elim (config_or_first table) [
      | inl found ↦ inl (found.0, record { table = table; toml = toml; is = found.1 })
      | inr first ↦ inr (first.0, bad_text text table first.0 toml first.1)
    ]

pub config_or_bad : (text : List ℕ) → ((config : NodeConfig) × HasConfig text config) ⊎ ((key : ConfigKey) × IsBadText text key)
config_or_bad text = by_parts text (parse_document text) (utf8_decided text (is_utf8 text) refl) refl
