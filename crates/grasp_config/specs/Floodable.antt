-- Which beacons a node that serves can flood.
use Rattle.std.specs.Prelude.{ℕ, ◌&&◌, Bool, true, not, nat_le, List, [], ◌∷◌, length, Some, None, codes}
use Rattle.std.specs.List.{list_any}
use Rattle.std.specs.Str.{bytes_eq}
use Rattle.grasp_cbor.specs.Shortest.{shortest}
use Rattle.grasp_types.specs.Message.{item_of}
use Rattle.grasp_types.specs.declared.address.Address.{Address}
use Rattle.grasp_types.specs.declared.flood.FloodPart.{FloodPart}
use Rattle.grasp_types.specs.declared.message.Message.TheVariants.{Flood}
use Rattle.grasp_config.specs.declared.config.BeaconConfig.{BeaconConfig}

-- what a beacon floods: its objective, which can be discovered and synchronized, and no locator
abbrev pub flooded : BeaconConfig → FloodPart
flooded beacon = record {
  objective = record { name = beacon.name; flags = 5; loops = beacon.loops; value = Some beacon.value };
  locator = None;
}

-- a message has room for the flood, with the number of a session that takes the most bytes (RFC 8990, section 2.8.11)
abbrev pub has_room : Address → ℕ → BeaconConfig → Bool
has_room address size beacon = nat_le (length (shortest (item_of (Flood 4294967295 address beacon.ttl (flooded beacon ∷ []))))) size

abbrev pub is_beacon_of : List ℕ → BeaconConfig → Bool
is_beacon_of name beacon = bytes_eq name beacon.name

-- the name is neither that of the prefix agent's objective nor that of one of these
abbrev pub is_free : List ℕ → List BeaconConfig → Bool
is_free name others = not (bytes_eq name (codes "PrefixManager")) && not (list_any (is_beacon_of name) others)

-- each beacon has a name of its own, and room for its flood in a message
unfoldable pub are_floodable : Address → ℕ → List BeaconConfig → Bool
are_floodable address size [] = true
are_floodable address size (beacon ∷ others) = (is_free beacon.name others && has_room address size beacon) && are_floodable address size others
