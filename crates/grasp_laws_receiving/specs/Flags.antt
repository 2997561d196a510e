-- Which bit of an objective's flags is which (RFC 8990, section 2.10.2): F_DISC is bit 0, F_NEG bit 1, F_SYNCH bit 2 and F_NEG_DRY bit 3.
use Rattle.std.specs.Prelude.{◌≡◌, ◌+◌, ℕ, Bool, if◌then◌else◌}
use Rattle.grasp_types.specs.Objective.{has_disc, has_neg, has_synch, has_dry, has_kind, dry_flags}
use Rattle.grasp_types.specs.declared.session.Kind.TheVariants.{Negotiation, Synchronization}

-- the flags of which these are set. Each number up to 15 is such a sum
abbrev pub flags_of : Bool → Bool → Bool → Bool → ℕ
flags_of disc neg synch dry = (if disc then 1 else 0) + (if neg then 2 else 0) + (if synch then 4 else 0) + (if dry then 8 else 0)

-- each test is of its own bit; and what is asked for dry or not has each other flag as it was
pub record HasItsBits (flags : ℕ) (d n s r : Bool) : Type 0 where
  pub disc : has_disc flags ≡ d
  pub neg : has_neg flags ≡ n
  pub synch : has_synch flags ≡ s
  pub dry : has_dry flags ≡ r
  pub negotiates : has_kind flags Negotiation ≡ n
  pub synchronizes : has_kind flags Synchronization ≡ s
  pub asked : (b : Bool) → dry_flags flags b ≡ flags_of d n s b

abbrev pub FlagsAreBits : Type 0
FlagsAreBits = (disc neg synch dry : Bool) → HasItsBits (flags_of disc neg synch dry) disc neg synch dry
