-- Laws of what floods leave.
use Rattle.std.specs.Prelude.{◌≡◌, ℕ, ◌<◌, ◌≤◌, ◌⊎◌, Bool, if◌then◌else◌, List, [], ◌∷◌, length, Option, Some, None, All, Any, Contains, IfSome}
use Rattle.grasp_types.specs.declared.flood.FloodPart.{FloodPart}
use Rattle.grasp_types.specs.declared.origin.Origin.{Origin}
use Rattle.grasp_types.specs.Reading.{reading_after}
use Rattle.grasp_flood.specs.declared.heard.Heard.TheVariants.{Known, New}
use Rattle.grasp_flood.specs.declared.keys.FloodKey.{FloodKey}
use Rattle.grasp_flood.specs.declared.kept.FloodKept.{FloodKept}
use Rattle.grasp_flood.specs.Flood.{same_key, key_of}
use Rattle.grasp_flood.specs.Floods.{Floods, no_floods, end_of, later_end, entry_of, read_of, reads_of, heard_reply, after_heard, after_drop, after_expiry, IsFloods}

-- a second expiry at the same reading drops nothing
abbrev pub ExpiryTwiceIsOnce : Type 0
ExpiryTwiceIsOnce = (floods : Floods) (now : ℕ) → after_expiry (after_expiry floods now) now ≡ after_expiry floods now

-- after an expiry each entry ends later or never, and each memory later
abbrev pub NothingEndedStays : Type 0
NothingEndedStays = (floods : Floods) (now : ℕ)
    → All (λ entry. IfSome entry.1.end (λ last. now < last)) (after_expiry floods now).entries
    × All (λ memory. now < memory.1) (after_expiry floods now).memories

-- the cache begins sound, and each call leaves it so
abbrev pub FloodsAreKept : Type 0
FloodsAreKept = IsFloods no_floods × ((floods : Floods) → IsFloods floods →
    ((now : ℕ) (flood : Origin) (ttl : ℕ) (parts : List FloodPart) → IsFloods (after_heard floods now flood ttl parts (heard_reply floods flood)))
    × ((key : FloodKey) → IsFloods (after_drop floods key))
    × ((now : ℕ) → IsFloods (after_expiry floods now)))

-- the first list is the second with some of its elements left out, in the same order
abbrev pub IsPartOf : {X : Type 0} → List X → List X → Type 0
IsPartOf part [] = part ≡ []
IsPartOf part (x ∷ xs) = IsPartOf part xs ⊎ ((rest : List _) × (part ≡ x ∷ rest) × IsPartOf rest xs)

-- an expiry drops only what has ended: whatever ends later, or never, stays, in the same order
abbrev pub OnlyTheEndedGo : Type 0
OnlyTheEndedGo = (floods : Floods) (now : ℕ)
    → IsPartOf (after_expiry floods now).entries floods.entries
    × All (λ entry. IfSome entry.1.end (λ last. now < last) → Contains (after_expiry floods now).entries entry) floods.entries
    × IsPartOf (after_expiry floods now).memories floods.memories
    × All (λ memory. now < memory.1 → Contains (after_expiry floods now).memories memory) floods.memories

-- what is kept under this key
abbrev pub kept_under : FloodKey → List (FloodKey × FloodKept) → Option FloodKept
kept_under key [] = None
kept_under key (entry ∷ rest) = if same_key key entry.0 then Some entry.1 else kept_under key rest

-- the first, or where it is none the second
abbrev pub or_else : {X : Type 0} → Option X → Option X → Option X
or_else (Some x) other = Some x
or_else None other = other

-- the last of these parts of a flood that is told under this key
abbrev pub last_told : Origin → FloodKey → List FloodPart → Option FloodPart
last_told flood key [] = None
last_told flood key (part ∷ rest) =
    or_else (last_told flood key rest) (if same_key key (key_of part.objective.name flood.initiator) then Some part else None)

-- after a flood whose last part under this key is told here: that part is kept, unless nothing was kept under the key and
-- there is no place; and where no part is told under it, what was kept is kept
abbrev pub IsLastKept : Origin → Option ℕ → FloodKey → List (FloodKey × FloodKept) → List (FloodKey × FloodKept) → Option FloodPart → Type 0
IsLastKept flood last key before after (Some part) =
    (kept_under key after ≡ Some (entry_of flood last part).1)
    ⊎ ((kept_under key after ≡ None) × (kept_under key before ≡ None) × (128 ≤ length after))
IsLastKept flood last key before after None = kept_under key after ≡ kept_under key before

-- after each new flood, its last part under a key is kept where there is a place; without such a part, what was kept under the key stays
abbrev pub LastPartIsKept : Type 0
LastPartIsKept = (floods : Floods) (now : ℕ) (flood : Origin) (ttl : ℕ) (parts : List FloodPart) (key : FloodKey)
    → IsLastKept flood (end_of now ttl) key floods.entries (after_heard floods now flood ttl parts New).entries (last_told flood key parts)

-- the entry is this one, perhaps with a later end
abbrev pub IsOld : FloodKey × FloodKept → FloodKey × FloodKept → Type 0
IsOld old entry = (entry.0 ≡ old.0) × (entry.1 ≡ record old.1 { end = entry.1.end }) × (later_end old.1.end entry.1.end ≡ entry.1.end)

-- after a flood each entry is one that was there, perhaps with a later end, or a part of this flood
abbrev pub EntriesAreTold : Type 0
EntriesAreTold = (floods : Floods) (now : ℕ) (flood : Origin) (ttl : ℕ) (parts : List FloodPart)
    → All (λ entry. Any (λ old. IsOld old entry) floods.entries ⊎ Any (λ part. entry ≡ entry_of flood (end_of now ttl) part) parts)
    (after_heard floods now flood ttl parts (heard_reply floods flood)).entries

-- whoever asks for a name is told entries of that name
abbrev pub ReadsAreEntries : Type 0
ReadsAreEntries = (floods : Floods) (name : List ℕ)
    → All (λ read. Any (λ entry. (entry.0.name ≡ name) × (read ≡ read_of entry)) floods.entries) (reads_of floods name)

-- a flood that is remembered stays so through each call until its memory ends, and is known for so long
pub record IsRemembered (floods : Floods) (memory : Origin × ℕ) : Type 0 where
  pub known : heard_reply floods memory.0 ≡ Known
  pub heard : (now : ℕ) (flood : Origin) (ttl : ℕ) (parts : List FloodPart)
      → Contains (after_heard floods now flood ttl parts (heard_reply floods flood)).memories memory
  pub drop : (key : FloodKey) → Contains (after_drop floods key).memories memory
  pub expire : (now : ℕ) → now < memory.1 → Contains (after_expiry floods now).memories memory

-- a new flood is remembered for 120000 ms
abbrev pub NewIsRemembered : Type 0
NewIsRemembered = (floods : Floods) (now : ℕ) (flood : Origin) (ttl : ℕ) (parts : List FloodPart)
    → Contains (after_heard floods now flood ttl parts New).memories (flood, reading_after now 120000)

-- so each new flood is remembered, and whatever is remembered stays so
abbrev pub RememberedStays : Type 0
RememberedStays = NewIsRemembered × ((floods : Floods) (memory : Origin × ℕ) → Contains floods.memories memory → IsRemembered floods memory)
