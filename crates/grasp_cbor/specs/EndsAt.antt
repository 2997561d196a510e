-- Inside: where the item ends that begins some bytes.
use Rattle.std.specs.Prelude.{ℕ, ◌≤◌, List, length, take, Option, Some, None, Result, Ok, Err}
use Rattle.grasp_cbor.specs.declared.walker.WalkFault.{WalkFault}
use Rattle.grasp_cbor.specs.declared.walker.WalkFault.TheVariants.{Bad, TooLong}
use Rattle.grasp_cbor.specs.CanGoOn.{IsItem}
use Rattle.grasp_cbor.specs.Ending.{IsPartial, IsTooLong, IsFaulty}

-- the item ends after so many bytes, or there is none, for the reason given
abbrev pub EndsAt : List ℕ → ℕ → Result (Option ℕ) WalkFault → Type 0
EndsAt s limit (Ok (Some n)) = (n ≤ length s) × (n ≤ limit) × IsItem 16 (take n s)
EndsAt s limit (Ok None) = IsPartial s limit
EndsAt s limit (Err (Bad name at)) = IsFaulty s limit name at
EndsAt s limit (Err TooLong) = IsTooLong s limit
