-- Inside: the groups in which the keys of the table `serve` are read.
use Rattle.std.specs.Prelude.{◌≡◌, ℕ, List, [], ◌∷◌, Option, Some, is_none}
use Rattle.toml.specs.Data.{Members}
use Rattle.grasp_types.specs.declared.address.Locator.{Locator}
use Rattle.grasp_config.specs.ServeKeys.{control_in, guests_in, mode_in, store_in, forget_in, locator_in, allow_in, streams_in, silence_in, retry_in, retry_most_in, every_in, tick_in, visitors_in, log_in, name_in}
use Rattle.grasp_config.specs.declared.serve_fault.ServeKey.{ServeKey}
use Rattle.grasp_config.specs.declared.serve_fault.ServeKey.TheVariants.{Control, Guests, Mode, Store, Forget, Locator as LocatorKey, Allow, Streams as StreamsKey, Silence, Retry, RetryMost, Every, Tick, Visitors, Log, Name}
use Rattle.grasp_config.specs.declared.serve_groups.Doors.{Doors}
use Rattle.grasp_config.specs.declared.serve_groups.Streams.{Streams}
use Rattle.grasp_config.specs.declared.serve_groups.Paces.{Paces}
use Rattle.grasp_config.specs.declared.serve_groups.Shown.{Shown}

abbrev pub door_keys : List ServeKey
door_keys = Control ∷ Guests ∷ Mode ∷ []

pub record AreDoors (table : Members) (doors : Doors) : Type 0 where
  pub control : control_in table ≡ Some doors.control
  pub guests : guests_in table ≡ Some doors.guests
  pub mode : mode_in table ≡ Some doors.mode

abbrev pub store_keys : List ServeKey
store_keys = Store ∷ Forget ∷ []

pub record IsStore (table : Members) (path : Option (List ℕ)) : Type 0 where
  pub store : store_in table ≡ Some path
  pub forget : forget_in table ≡ Some (is_none path)

abbrev pub stream_keys : List ServeKey
stream_keys = LocatorKey ∷ Allow ∷ StreamsKey ∷ Silence ∷ []

pub record AreStreams (listen : Locator) (table : Members) (part : Streams) : Type 0 where
  pub locator : locator_in listen table ≡ Some part.locator
  pub allow : allow_in table ≡ Some part.allow
  pub streams : streams_in table ≡ Some part.streams
  pub silence : silence_in table ≡ Some part.silence

abbrev pub pace_keys : List ServeKey
pace_keys = Retry ∷ RetryMost ∷ Every ∷ Tick ∷ []

pub record ArePaces (table : Members) (paces : Paces) : Type 0 where
  pub retry : retry_in table ≡ Some paces.retry
  pub retry_most : retry_most_in table ≡ Some paces.retry_most
  pub every : every_in table ≡ Some paces.every
  pub tick : tick_in table ≡ Some paces.tick

abbrev pub shown_keys : List ServeKey
shown_keys = Visitors ∷ Log ∷ Name ∷ []

pub record AreShown (table : Members) (shown : Shown) : Type 0 where
  pub visitors : visitors_in table ≡ Some shown.visitors
  pub log : log_in table ≡ Some shown.log
  pub name : name_in table ≡ Some shown.name
