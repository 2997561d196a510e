-- The keys of a group that was read are good.
use Rattle.std.proofs.Common.{◌≡◌, ℕ, List, ◌++◌, Option, Result, Err, sym, subst}
use Rattle.toml.specs.Data.{Members}
use Rattle.grasp_types.specs.declared.address.Locator.{Locator}
use Rattle.grasp_config.specs.Serve.{IsBadServeKey, FirstOf}
use Rattle.grasp_config.specs.ServeFaults.{IfBadServe}
use Rattle.grasp_config.specs.ServeGroups.{door_keys, AreDoors, store_keys, IsStore, stream_keys, AreStreams, pace_keys, ArePaces, shown_keys, AreShown}
use Rattle.grasp_config.specs.declared.serve.ServeTable.{ServeTable}
use Rattle.grasp_config.specs.declared.serve_fault.ServeKey.{ServeKey}
use Rattle.grasp_config.specs.declared.serve_fault.ServeFault.{ServeFault}
use Rattle.grasp_config.specs.declared.serve_groups.Doors.{Doors}
use Rattle.grasp_config.specs.declared.serve_groups.Streams.{Streams}
use Rattle.grasp_config.specs.declared.serve_groups.Paces.{Paces}
use Rattle.grasp_config.specs.declared.serve_groups.Shown.{Shown}
use Rattle.grasp_config.proofs.FirstBad.{is_read}
use Rattle.grasp_config.proofs.FirstOf.{NoneOf, none_of_both, told_between}

pub doors_good : (listen : Locator) (table : Members) (doors : Doors) → AreDoors table doors → NoneOf (IsBadServeKey listen table) door_keys
doors_good listen table doors are = (is_read _ _ are.control, (is_read _ _ are.guests, (is_read _ _ are.mode, tt)))

pub store_good : (listen : Locator) (table : Members) (store : Option (List ℕ)) → IsStore table store → NoneOf (IsBadServeKey listen table) store_keys
store_good listen table store is = (is_read _ _ is.store, (is_read _ _ is.forget, tt))

pub streams_good : (listen : Locator) (table : Members) (streams : Streams) → AreStreams listen table streams → NoneOf (IsBadServeKey listen table) stream_keys
streams_good listen table streams are = (is_read _ _ are.locator, (is_read _ _ are.allow, (is_read _ _ are.streams, (is_read _ _ are.silence, tt))))

pub paces_good : (listen : Locator) (table : Members) (paces : Paces) → ArePaces table paces → NoneOf (IsBadServeKey listen table) pace_keys
paces_good listen table paces are = (is_read _ _ are.retry, (is_read _ _ are.retry_most, (is_read _ _ are.every, (is_read _ _ are.tick, tt))))

pub shown_good : (listen : Locator) (table : Members) (shown : Shown) → AreShown table shown → NoneOf (IsBadServeKey listen table) shown_keys
shown_good listen table shown are = (is_read _ _ are.visitors, (is_read _ _ are.log, (is_read _ _ are.name, tt)))

-- what is said of the table `serve`, where a group of it isn't read
pub told_serve : (A : Type 0) (IsBad : ServeKey → Type 0) (before keys others : List ServeKey) (e : ServeFault) (result : Result ServeTable ServeFault) → result ≡ Err e → NoneOf IsBad before
    → IfBadServe {A = A} (Err e) (FirstOf IsBad keys) → IfBadServe result (FirstOf IsBad (before ++ (keys ++ others)))
told_serve A IsBad before keys others e result is good bad =
    subst (λ (r : Result ServeTable ServeFault). IfBadServe r (FirstOf IsBad (before ++ (keys ++ others)))) (sym is) (told_between A ServeTable IsBad before keys others e good bad)

-- the groups that were read before another one are good
pub doors_and_store : (listen : Locator) (table : Members) (doors : Doors) (store : Option (List ℕ)) → AreDoors table doors → IsStore table store → NoneOf (IsBadServeKey listen table) (door_keys ++ store_keys)
doors_and_store listen table doors store a b = none_of_both (IsBadServeKey listen table) door_keys store_keys (doors_good listen table doors a) (store_good listen table store b)

pub up_to_streams : (listen : Locator) (table : Members) (doors : Doors) (store : Option (List ℕ)) (streams : Streams) → AreDoors table doors → IsStore table store → AreStreams listen table streams
    → NoneOf (IsBadServeKey listen table) ((door_keys ++ store_keys) ++ stream_keys)
up_to_streams listen table doors store streams a b d =
    none_of_both (IsBadServeKey listen table) (door_keys ++ store_keys) stream_keys (doors_and_store listen table doors store a b) (streams_good listen table streams d)

pub up_to_paces : (listen : Locator) (table : Members) (doors : Doors) (store : Option (List ℕ)) (streams : Streams) (paces : Paces) → AreDoors table doors → IsStore table store → AreStreams listen table streams → ArePaces table paces
    → NoneOf (IsBadServeKey listen table) (((door_keys ++ store_keys) ++ stream_keys) ++ pace_keys)
up_to_paces listen table doors store streams paces a b d e =
    none_of_both (IsBadServeKey listen table) ((door_keys ++ store_keys) ++ stream_keys) pace_keys (up_to_streams listen table doors store streams a b d) (paces_good listen table paces e)

pub up_to_shown : (listen : Locator) (table : Members) (doors : Doors) (store : Option (List ℕ)) (streams : Streams) (paces : Paces) (shown : Shown) → AreDoors table doors → IsStore table store → AreStreams listen table streams
    → ArePaces table paces → AreShown table shown → NoneOf (IsBadServeKey listen table) ((((door_keys ++ store_keys) ++ stream_keys) ++ pace_keys) ++ shown_keys)
up_to_shown listen table doors store streams paces shown a b d e f =
    none_of_both (IsBadServeKey listen table) (((door_keys ++ store_keys) ++ stream_keys) ++ pace_keys) shown_keys (up_to_paces listen table doors store streams paces a b d e) (shown_good listen table shown f)
