-- Inside: what the fields of a node's discoveries mean, and the room that they keep.
use Rattle.std.specs.Prelude.{◌≤◌}
use Rattle.std.specs.Vec.{vec_capacity}
use Rattle.grasp_discovery.specs.declared.discovery.Discovery.TheInside.{Inside}
use Rattle.grasp_discovery.specs.Discoveries.{Discoveries, IsDiscoveries}

-- the searches, the entries and the memories, each in order
abbrev pub discoveries_of : Inside → Discoveries
discoveries_of a = record { searches = a.searches.items; entries = a.entries.entries; memories = a.memories.entries }

-- what always holds holds, and there is room for all searches
pub record HasRoom (a : Inside) : Type 0 where
  pub all : IsDiscoveries (discoveries_of a)
  pub searches : 64 ≤ vec_capacity a.searches
