-- Readings of a clock, and the numbers and printed names of refusals.
use Rattle.std.specs.Prelude.{◌≡◌, ℕ, ◌+◌, ◌-◌, ◌^◌, ◌<◌, ◌≤◌}
use Rattle.grasp_types.specs.declared.refusal.ApiRefused.{ApiRefused}
use Rattle.grasp_types.specs.Reading.{reading_after}
use Rattle.grasp_types.specs.Refusal.{refusal_number, refusal_name}

-- the reading after so many milliseconds is the sum where a u64 holds it, and else the greatest u64
pub record ReadingsAreSums : Type 0 where
  pub sum : (now millis : ℕ) → now + millis < 2 ^ 64 → reading_after now millis ≡ now + millis
  pub greatest : (now millis : ℕ) → 2 ^ 64 ≤ now + millis → reading_after now millis ≡ 2 ^ 64 - 1

-- two refusals of one number are one, and so are two of one name; the numbers are 1 to 21
pub record RefusalsDiffer : Type 0 where
  pub number : (x y : ApiRefused) → refusal_number x ≡ refusal_number y → x ≡ y
  pub name : (x y : ApiRefused) → refusal_name x ≡ refusal_name y → x ≡ y
  pub range : (x : ApiRefused) → (1 ≤ refusal_number x) × (refusal_number x ≤ 21)
