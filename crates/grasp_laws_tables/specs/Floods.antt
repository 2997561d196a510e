-- What a node answers to a flood, and what is left of what floods told (RFC 8990, section 2.5.6.2).
use Rattle.std.specs.Prelude.{◌≡◌, ◌≢◌, ℕ, ◌<◌, ◌≤◌, ◌⊎◌, List, length, Option, Some, None, All, Any, Contains}
use Rattle.std.specs.Bool.{⊤}
use Rattle.std.specs.List.{AllZip}
use Rattle.grasp_types.specs.declared.flood.FloodPart.{FloodPart}
use Rattle.grasp_types.specs.declared.origin.Origin.{Origin}
use Rattle.grasp_types.specs.Origin.{origin_of}
use Rattle.grasp_types.specs.Reading.{reading_after}
use Rattle.grasp_flood.specs.declared.heard.Heard.{Heard}
use Rattle.grasp_flood.specs.declared.heard.Heard.TheVariants.{Known, NoPlace, New}
use Rattle.grasp_flood.specs.declared.keys.FloodKey.{FloodKey}
use Rattle.grasp_flood.specs.declared.kept.FloodKept.{FloodKept}
use Rattle.grasp_flood.specs.Floods.{Floods, end_of, later_end, heard_reply, after_heard, after_drop}
use Rattle.grasp_laws_tables.specs.Dropping.{HasDropped}

-- the flood is not remembered
abbrev pub IsUnknown : Floods → Origin → Type 0
IsUnknown floods flood = All (λ memory. memory.0 ≢ flood) floods.memories

-- what each answer says of the flood; of the three one alone holds
abbrev pub IsHeardAs : Floods → Origin → Heard → Type 0
IsHeardAs floods flood Known = Any (λ memory. memory.0 ≡ flood) floods.memories
IsHeardAs floods flood New = IsUnknown floods flood × (length floods.memories < 256)
IsHeardAs floods flood NoPlace = IsUnknown floods flood × (256 ≤ length floods.memories)

-- the answer to each flood is the one that holds of it
abbrev pub FloodsAreKnown : Type 0
FloodsAreKnown = (floods : Floods) (flood : Origin) → IsHeardAs floods flood (heard_reply floods flood)

-- this flood made the entry: its session number and its initiator are the flood's
abbrev pub IsMadeBy : Origin → FloodKey × FloodKept → Type 0
IsMadeBy flood entry = flood ≡ origin_of entry.1.session entry.0.initiator

-- an entry after a known flood: one that the flood made ends at the later of its end and the new one, and is else as it was;
-- any other is as it was
pub record IsRenewed (flood : Origin) (last : Option ℕ) (old new : FloodKey × FloodKept) : Type 0 where
  pub made : IsMadeBy flood old → new ≡ (old.0, record old.1 { end = later_end old.1.end last })
  pub other : ¬ IsMadeBy flood old → new ≡ old

-- a known flood renews each of its entries, in their order, and remembers and forgets nothing
pub record RenewsItsOwn (floods : Floods) (now : ℕ) (flood : Origin) (ttl : ℕ) (parts : List FloodPart) : Type 0 where
  pub entries : AllZip (IsRenewed flood (end_of now ttl)) floods.entries (after_heard floods now flood ttl parts Known).entries
  pub memories : (after_heard floods now flood ttl parts Known).memories ≡ floods.memories

-- what is remembered after a new flood was remembered before, or is this flood, for 120000 ms
abbrev pub RemembersIt : Floods → ℕ → Origin → ℕ → List FloodPart → Type 0
RemembersIt floods now flood ttl parts =
    All (λ memory. Contains floods.memories memory ⊎ (memory ≡ (flood, reading_after now 120000))) (after_heard floods now flood ttl parts New).memories

-- each known flood renews its own entries, each new one adds at most itself to what is remembered, and one without a place changes nothing
abbrev pub KnownFloodsRenew : Type 0
KnownFloodsRenew = (floods : Floods) (now : ℕ) (flood : Origin) (ttl : ℕ) (parts : List FloodPart)
    → RenewsItsOwn floods now flood ttl parts × RemembersIt floods now flood ttl parts × (after_heard floods now flood ttl parts NoPlace ≡ floods)

-- without a key: what is kept under it has gone, and nothing else
pub record DropsTheKey (floods : Floods) (key : FloodKey) : Type 0 where
  pub entries : HasDropped (λ entry. entry.0 ≡ key) floods.entries (after_drop floods key).entries
  pub memories : (after_drop floods key).memories ≡ floods.memories

-- dropping a key removes what is kept under it, and nothing else
abbrev pub DropsTakeOne : Type 0
DropsTakeOne = (floods : Floods) (key : FloodKey) → DropsTheKey floods key

-- the first end is no earlier than the second; never is the latest
abbrev pub IsNoEarlier : Option ℕ → Option ℕ → Type 0
IsNoEarlier None b = ⊤
IsNoEarlier (Some a) None = ⊥
IsNoEarlier (Some a) (Some b) = b ≤ a

-- the later of two ends is one of them, and no earlier than either
pub record IsLater (a b : Option ℕ) : Type 0 where
  pub one : (later_end a b ≡ a) ⊎ (later_end a b ≡ b)
  pub first : IsNoEarlier (later_end a b) a
  pub second : IsNoEarlier (later_end a b) b

-- when what floods tell ends
pub record FloodEndsAreLater : Type 0 where
  pub never : (now : ℕ) → end_of now 0 ≡ None
  pub after : (now ttl : ℕ) → 0 < ttl → end_of now ttl ≡ Some (reading_after now ttl)
  pub later : (a b : Option ℕ) → IsLater a b
