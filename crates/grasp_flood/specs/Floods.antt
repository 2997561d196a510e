-- What floods told a node, and which floods it remembers.
--
-- The way of a flood is that of RFC 8990, sections 2.5.6.2 and 2.8.11. This project's own: the numbers 128, 256 and
-- 120000 ms, that a lifetime of 0 never ends, and that a remembered flood renews what it told.
use Rattle.std.specs.Prelude.{◌≡◌, ℕ, ◌≤◌, Bool, true, false, ◌==◌, nat_lt, if◌then◌else◌, not, max, List, [], ◌∷◌, ◌++◌, length, map, filter, fold, Option, Some, None, bytes_eq}
use Rattle.std.specs.Bool.{⊤}
use Rattle.std.specs.List.{list_any}
use Rattle.grasp_types.specs.declared.flood.FloodPart.{FloodPart}
use Rattle.grasp_types.specs.declared.flood.FloodRead.{FloodRead}
use Rattle.grasp_types.specs.declared.origin.Origin.{Origin}
use Rattle.grasp_types.specs.Origin.{origin_of}
use Rattle.grasp_types.specs.Same.{same_origin}
use Rattle.grasp_types.specs.Reading.{reading_after}
use Rattle.grasp_flood.specs.declared.heard.Heard.{Heard}
use Rattle.grasp_flood.specs.declared.heard.Heard.TheVariants.{Known, NoPlace, New}
use Rattle.grasp_flood.specs.declared.keys.FloodKey.{FloodKey}
use Rattle.grasp_flood.specs.declared.kept.FloodKept.{FloodKept}
use Rattle.grasp_flood.specs.Flood.{same_key, key_of}

-- what is kept under each name and initiator, in the order in which these were first kept; and the remembered
-- floods, in order, each with the reading at which its memory ends
pub record Floods : Type 0 where
  pub entries : List (FloodKey × FloodKept)
  pub memories : List (Origin × ℕ)

-- nothing is kept, and no flood remembered
abbrev pub no_floods : Floods
no_floods = record { entries = []; memories = [] }

-- when what has this lifetime ends; with a lifetime of 0 it never does
abbrev pub end_of : ℕ → ℕ → Option ℕ
end_of now ttl = if ttl == 0 then None else Some (reading_after now ttl)

-- the later of two ends; never is the latest
abbrev pub later_end : Option ℕ → Option ℕ → Option ℕ
later_end None b = None
later_end (Some a) None = None
later_end (Some a) (Some b) = Some (max a b)

-- the end comes after this time, or never
abbrev pub is_after : ℕ → Option ℕ → Bool
is_after now None = true
is_after now (Some last) = nat_lt now last

-- what is kept of a part of a flood, and its key
abbrev pub entry_of : Origin → Option ℕ → FloodPart → FloodKey × FloodKept
entry_of flood last part = (
  key_of part.objective.name flood.initiator,
  record {
    session = flood.session;
    flags = part.objective.flags;
    loops = part.objective.loops;
    value = part.objective.value;
    locator = part.locator;
    end = last;
  },
)

-- something is kept under this key
abbrev pub has_key : FloodKey → List (FloodKey × FloodKept) → Bool
has_key key entries = list_any (λ entry. same_key key entry.0) entries

-- a new entry takes the place of the entry under its key, and comes last where there is none
abbrev pub put : FloodKey × FloodKept → List (FloodKey × FloodKept) → List (FloodKey × FloodKept)
put new [] = new ∷ []
put new (old ∷ rest) = if same_key new.0 old.0 then (old.0, new.1) ∷ rest else old ∷ put new rest

-- a new entry is kept where one is kept under its key, and else exactly where there are fewer than 128 entries
abbrev pub after_keep : List (FloodKey × FloodKept) → FloodKey × FloodKept → List (FloodKey × FloodKept)
after_keep entries new =
    if has_key new.0 entries then put new entries
    else if nat_lt (length entries) 128 then put new entries
    else entries

-- this flood made the entry
abbrev pub is_made_by : Origin → FloodKey × FloodKept → Bool
is_made_by flood entry = same_origin flood (origin_of entry.1.session entry.0.initiator)

-- an entry that this flood made ends at the later of its end and a new one
abbrev pub after_renewal : Origin → Option ℕ → FloodKey × FloodKept → FloodKey × FloodKept
after_renewal flood last entry =
    if is_made_by flood entry then (entry.0, record entry.1 { end = later_end entry.1.end last }) else entry

-- the flood is remembered
abbrev pub remembers : Floods → Origin → Bool
remembers floods flood = list_any (λ memory. same_origin flood memory.0) floods.memories

-- what a flood is to the node: known where it is remembered, and else new where fewer than 256 floods are
abbrev pub heard_reply : Floods → Origin → Heard
heard_reply floods flood =
    if remembers floods flood then Known
    else if nat_lt (length floods.memories) 256 then New
    else NoPlace

-- a known flood renews its entries and no memory; one without a place changes nothing; a new one is remembered for
-- 120000 ms, and its parts are kept in their order
abbrev pub after_heard : Floods → ℕ → Origin → ℕ → List FloodPart → Heard → Floods
after_heard floods now flood ttl parts Known = record floods { entries = map (after_renewal flood (end_of now ttl)) floods.entries }
after_heard floods now flood ttl parts NoPlace = floods
after_heard floods now flood ttl parts New = record {
  entries = fold after_keep floods.entries (map (entry_of flood (end_of now ttl)) parts);
  memories = floods.memories ++ (flood, reading_after now 120000) ∷ [];
}

-- what an entry tells whoever asks
abbrev pub read_of : FloodKey × FloodKept → FloodRead
read_of entry = record {
  initiator = entry.0.initiator;
  objective = record { name = entry.0.name; flags = entry.1.flags; loops = entry.1.loops; value = entry.1.value };
  locator = entry.1.locator;
}

-- the entry has this name
abbrev pub is_named : List ℕ → FloodKey × FloodKept → Bool
is_named name entry = bytes_eq entry.0.name name

-- the entries of this name, in order
abbrev pub reads_of : Floods → List ℕ → List FloodRead
reads_of floods name = map read_of (filter (is_named name) floods.entries)

-- without what is kept under this key
abbrev pub after_drop : Floods → FloodKey → Floods
after_drop floods key = record floods { entries = filter (λ entry. not (same_key key entry.0)) floods.entries }

-- what has ended by this reading is gone, and the rest keeps its order
abbrev pub after_expiry : Floods → ℕ → Floods
after_expiry floods now = record {
  entries = filter (λ entry. is_after now entry.1.end) floods.entries;
  memories = filter (λ memory. nat_lt now memory.1) floods.memories;
}

-- no two of them are the same
abbrev pub AllDiffer : {X : Type 0} → (X → X → Bool) → List X → Type 0
AllDiffer same [] = ⊤
AllDiffer same (x ∷ xs) = (list_any (same x) xs ≡ false) × AllDiffer same xs

-- at most 128 entries under keys that differ, and at most 256 memories of floods that differ
pub record IsFloods (floods : Floods) : Type 0 where
  pub few_entries : length floods.entries ≤ 128
  pub own_keys : AllDiffer (λ a b. same_key a.0 b.0) floods.entries
  pub few_memories : length floods.memories ≤ 256
  pub own_floods : AllDiffer (λ a b. same_origin a.0 b.0) floods.memories
