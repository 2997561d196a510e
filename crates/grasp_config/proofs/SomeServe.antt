-- Each text has a configuration of a node that serves, or a first bad key.
use Rattle.std.proofs.Common.{◌≡◌, ℕ, ◌⊎◌, inl, inr, Bool, true, false, List, [], ◌∷◌, Option, Some, None, is_none, refl, sym, ap, ◌∙◌}
use Rattle.std.proofs.lemmas.Option.{same_Some}
use Rattle.toml.specs.Data.{Data, Members, as_bool, get_member}
use Rattle.toml.specs.Parse.{parse_document}
use Rattle.grasp_types.specs.declared.address.Locator.{Locator}
use Rattle.std.specs.Prelude.{codes}
use Rattle.std.specs.Str.{IsUtf8, is_utf8}
use Rattle.grasp_config.specs.Config.{IsConfigOf, IsTomlOf}
use Rattle.grasp_config.specs.Floodable.{are_floodable}
use Rattle.grasp_config.specs.NodePart.{node_part, serve_part}
use Rattle.grasp_config.specs.Serve.{IsServeTable, IsServeOf, IsBadServeKey, serve_order, FirstOf, HasFloods, IsFirstBadServe, HasServe, IsBadServe}
use Rattle.grasp_config.specs.ServeKeys.{if_there, text_in, or_false, is_said, needed, alone, control_in, guests_in, mode_in, store_in, forget_in, locator_in, allow_in, streams_in, silence_in, retry_in, retry_most_in, every_in, tick_in, visitors_in, log_in, name_in, is_serve_known}
use Rattle.grasp_config.specs.Table.{◌>>=◌, or_absent}
use Rattle.grasp_config.specs.declared.config.NodeConfig.{NodeConfig}
use Rattle.grasp_config.specs.declared.fault.ConfigKey.TheVariants as node_key
use Rattle.grasp_config.specs.declared.serve.ServeConfig.{ServeConfig}
use Rattle.grasp_config.specs.declared.serve.ServeTable.{ServeTable}
use Rattle.grasp_config.specs.declared.serve_fault.ServeKey.{ServeKey}
use Rattle.grasp_config.specs.declared.serve_fault.ServeKey.TheVariants.{Node, Floods, Serve, Control, Guests, Mode, Store, Forget, Locator as LocatorKey, Allow, Streams, Silence, Retry, RetryMost, Every, Tick, Visitors, Log, Name, Unknown}
use Rattle.grasp_config.proofs.FirstOf.{NoneOf}
use Rattle.grasp_config.proofs.OneServe.{bad_serve_text}
use Rattle.grasp_config.proofs.Ranges.{read_of}
use Rattle.grasp_config.proofs.RootsDecided.{Decided}
use Rattle.grasp_config.proofs.ServeTold.{bad_table}
use Rattle.grasp_config.proofs.SomeConfig.{none_decided, false_decided, found_one, is_true, config_or_first, utf8_decided}

key_decided : (listen : Locator) (table : Members) (key : ServeKey) → Decided (IsBadServeKey listen table key)
key_decided listen table Control = none_decided (control_in table)
key_decided listen table Guests = none_decided (guests_in table)
key_decided listen table Mode = none_decided (mode_in table)
key_decided listen table Store = none_decided (store_in table)
key_decided listen table Forget = none_decided (forget_in table)
key_decided listen table LocatorKey = none_decided (locator_in listen table)
key_decided listen table Allow = none_decided (allow_in table)
key_decided listen table Streams = none_decided (streams_in table)
key_decided listen table Silence = none_decided (silence_in table)
key_decided listen table Retry = none_decided (retry_in table)
key_decided listen table RetryMost = none_decided (retry_most_in table)
key_decided listen table Every = none_decided (every_in table)
key_decided listen table Tick = none_decided (tick_in table)
key_decided listen table Visitors = none_decided (visitors_in table)
key_decided listen table Log = none_decided (log_in table)
key_decided listen table Name = none_decided (name_in table)
key_decided listen table Unknown = false_decided (is_serve_known table)
key_decided listen table (Node key) = inr (λ bad. bad)
key_decided listen table Floods = inr (λ bad. bad)
key_decided listen table Serve = inr (λ bad. bad)

-- one of the keys is bad, and one of these the first, or none is
first_or_none : {K : Type 0} (IsBad : K → Type 0) → ((k : K) → Decided (IsBad k)) → (keys : List K) → ((key : K) × FirstOf IsBad keys key) ⊎ NoneOf IsBad keys
first_or_none IsBad decide [] = inr tt
first_or_none IsBad decide (key ∷ keys) = elim (decide key) [
  | inl bad ↦ inl (key, inl (bad, refl))
  | inr good ↦ elim (first_or_none IsBad decide keys) [
    | inl first ↦ inl (first.0, inr (good, first.1))
    | inr all ↦ inr (good, all)
  ]
]

-- the pool is to be forgotten exactly where there is no store
forgets_by : (found : Option Bool) (store : Option (List ℕ)) (forgets : Bool) → needed (or_false found) (Some None) ≡ Some store → (found >>= alone None) ≡ Some forgets → forgets ≡ is_none store
forgets_by None store forgets is said = absurd (let e : None ≡ Some store = is in cc)
forgets_by (Some true) store forgets is said = sym (same_Some true forgets said) ∙ ap is_none (same_Some None store is)
forgets_by (Some false) store forgets is said = absurd (let e : None ≡ Some store = is in cc)

keeps_by : (found : Option Data) (value : Data) (path : Option (List ℕ)) (store : Option (List ℕ)) (forgets b : Bool) → needed (is_said found) (path >>= λ a. Some (Some a)) ≡ Some store
    → alone (Some value) b ≡ Some forgets → forgets ≡ is_none store
keeps_by found value None store forgets b is said = absurd (let e : None ≡ Some store = is in cc)
keeps_by found value (Some path) store forgets true is said = absurd (let e : None ≡ Some forgets = said in cc)
keeps_by found value (Some path) store forgets false is said = sym (same_Some false forgets said) ∙ ap is_none (same_Some (Some path) store is)

forgets_of : (forget store : Option Data) (path : Option (List ℕ)) (forgets : Bool) → needed (is_said forget) (if_there (text_in 4095) store) ≡ Some path
    → (or_absent false as_bool forget >>= alone store) ≡ Some forgets → forgets ≡ is_none path
forgets_of None None path forgets is said = absurd (let e : None ≡ Some path = is in cc)
forgets_of (Some value) None path forgets is said = forgets_by (as_bool value) path forgets is said
forgets_of None (Some value) path forgets is said = keeps_by None value (text_in 4095 value) path forgets false is said
forgets_of (Some said) (Some value) path forgets is is_said =
    let r = read_of (as_bool said) (alone (Some value)) forgets is_said in
    keeps_by (Some said) value (text_in 4095 value) path forgets r.first is r.gives

-- a table whose keys are good is a table `serve`
good_table : (listen : Locator) (table : Members) → NoneOf (IsBadServeKey listen table) serve_order → (serve : ServeTable) × IsServeTable listen table serve
good_table listen table (control, (guests, (mode, (store, (forget, (locator, (allow, (streams, (silence, (retry, (most, (every, (tick, (visitors, (log, (name, (known, end))))))))))))))))) =
    let c = found_one (control_in table) control in
    let g = found_one (guests_in table) guests in
    let m = found_one (mode_in table) mode in
    let s = found_one (store_in table) store in
    let f = found_one (forget_in table) forget in
    let l = found_one (locator_in listen table) locator in
    let a = found_one (allow_in table) allow in
    let n = found_one (streams_in table) streams in
    let q = found_one (silence_in table) silence in
    let r = found_one (retry_in table) retry in
    let p = found_one (retry_most_in table) most in
    let e = found_one (every_in table) every in
    let t = found_one (tick_in table) tick in
    let v = found_one (visitors_in table) visitors in
    let o = found_one (log_in table) log in
    let w = found_one (name_in table) name in
    let forgets : f.0 ≡ is_none s.0 = forgets_of (get_member (codes "forget") table) (get_member (codes "store") table) s.0 f.0 s.1 f.1 in (
      record { control = c.0; guests = g.0; mode = m.0; store = s.0; locator = l.0; allow = a.0; streams = n.0; silence = q.0; retry = r.0; retry_most = p.0; every = e.0; tick = t.0; visitors = v.0; log = o.0; name = w.0 },
      record { control = c.1; guests = g.1; mode = m.1; store = s.1; forget = f.1 ∙ ap Some forgets; locator = l.1; allow = a.1; streams = n.1; silence = q.1; retry = r.1; retry_most = p.1; every = e.1; tick = t.1; visitors = v.1; log = o.1; name = w.1; known = is_true (is_serve_known table) known },
    )

abbrev pub ServeOrFirst : Members → Type 0
ServeOrFirst whole = ((config : ServeConfig) × IsServeOf whole config) ⊎ ((key : ServeKey) × IsFirstBadServe whole key)

by_table : (whole : Members) (node : NodeConfig) (found : Option Members) → HasFloods whole node → serve_part whole ≡ found → ServeOrFirst whole
by_table whole node None floods none = inr (Serve, record { node = node; floods = floods; none = none })
by_table whole node (Some table) floods there =
    elim (first_or_none (IsBadServeKey node.listen table) (key_decided node.listen table) serve_order) [
      | inl first ↦ inr (first.0, bad_table whole first.0 (record { node = node; floods = floods; table = table; there = there; first = first.1 }))
      | inr good ↦
          let serve = good_table node.listen table good in
          inl (record { node = node; serve = serve.0 }, record { node = floods.is; floodable = floods.floodable; table = table; there = there; is = serve.1 })
    ]

by_floods : (whole : Members) (node : NodeConfig) (b : Bool) → IsConfigOf (node_part whole) node → are_floodable node.address node.size node.beacons ≡ b → ServeOrFirst whole
by_floods whole node false is bad = inr (Floods, record { node = node; is = is; bad = bad })
by_floods whole node true is good = by_table whole node (serve_part whole) (record { is = is; floodable = good }) refl

serve_or_first : (whole : Members) → ServeOrFirst whole
serve_or_first whole = elim (config_or_first (node_part whole)) [
  | inl found ↦ by_floods whole found.0 (are_floodable found.0.address found.0.size found.0.beacons) found.1 refl
  | inr first ↦ inr (Node first.0, first.1)
]

by_parts : (text : List ℕ) (parsed : Option Members) → Decided (IsUtf8 text) → parse_document text ≡ parsed → ((config : ServeConfig) × HasServe text config) ⊎ ((key : ServeKey) × IsBadServe text key)
by_parts text parsed (inr other) is = inr (Node node_key.Toml, λ table toml. other toml.utf8)
by_parts text None (inl utf8) is = inr (Node node_key.Toml, λ table toml. let e : None ≡ Some table = sym is ∙ toml.parsed in cc)
by_parts text (Some table) (inl utf8) is =
    let toml : IsTomlOf text table = record { utf8 = utf8; parsed = is } in
    elim (serve_or_first table) [
      | inl found ↦ inl (found.0, record { table = table; toml = toml; is = found.1 })
      | inr first ↦ inr (first.0, bad_serve_text text table first.0 toml first.1)
    ]

pub serve_or_bad : (text : List ℕ) → ((config : ServeConfig) × HasServe text config) ⊎ ((key : ServeKey) × IsBadServe text key)
serve_or_bad text = by_parts text (parse_document text) (utf8_decided text (is_utf8 text) refl) refl
