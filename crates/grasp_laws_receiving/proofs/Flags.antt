-- Which bit of an objective's flags is which.
use Rattle.std.proofs.Common.{◌≡◌, Bool, true, false, refl}
use Rattle.grasp_types.specs.Objective.{dry_flags}
use Rattle.grasp_laws_receiving.specs.Flags.{flags_of, FlagsAreBits}

-- what is asked for
asked : (disc neg synch dry b : Bool) → dry_flags (flags_of disc neg synch dry) b ≡ flags_of disc neg synch b
asked false false false false false = refl
asked false false false false true = refl
asked false false false true false = refl
asked false false false true true = refl
asked false false true false false = refl
asked false false true false true = refl
asked false false true true false = refl
asked false false true true true = refl
asked false true false false false = refl
asked false true false false true = refl
asked false true false true false = refl
asked false true false true true = refl
asked false true true false false = refl
asked false true true false true = refl
asked false true true true false = refl
asked false true true true true = refl
asked true false false false false = refl
asked true false false false true = refl
asked true false false true false = refl
asked true false false true true = refl
asked true false true false false = refl
asked true false true false true = refl
asked true false true true false = refl
asked true false true true true = refl
asked true true false false false = refl
asked true true false false true = refl
asked true true false true false = refl
asked true true false true true = refl
asked true true true false false = refl
asked true true true false true = refl
asked true true true true false = refl
asked true true true true true = refl

pub flags_are_bits : FlagsAreBits
flags_are_bits false false false false = record { disc = refl; neg = refl; synch = refl; dry = refl; negotiates = refl; synchronizes = refl; asked = asked false false false false }
flags_are_bits false false false true = record { disc = refl; neg = refl; synch = refl; dry = refl; negotiates = refl; synchronizes = refl; asked = asked false false false true }
flags_are_bits false false true false = record { disc = refl; neg = refl; synch = refl; dry = refl; negotiates = refl; synchronizes = refl; asked = asked false false true false }
flags_are_bits false false true true = record { disc = refl; neg = refl; synch = refl; dry = refl; negotiates = refl; synchronizes = refl; asked = asked false false true true }
flags_are_bits false true false false = record { disc = refl; neg = refl; synch = refl; dry = refl; negotiates = refl; synchronizes = refl; asked = asked false true false false }
flags_are_bits false true false true = record { disc = refl; neg = refl; synch = refl; dry = refl; negotiates = refl; synchronizes = refl; asked = asked false true false true }
flags_are_bits false true true false = record { disc = refl; neg = refl; synch = refl; dry = refl; negotiates = refl; synchronizes = refl; asked = asked false true true false }
flags_are_bits false true true true = record { disc = refl; neg = refl; synch = refl; dry = refl; negotiates = refl; synchronizes = refl; asked = asked false true true true }
flags_are_bits true false false false = record { disc = refl; neg = refl; synch = refl; dry = refl; negotiates = refl; synchronizes = refl; asked = asked true false false false }
flags_are_bits true false false true = record { disc = refl; neg = refl; synch = refl; dry = refl; negotiates = refl; synchronizes = refl; asked = asked true false false true }
flags_are_bits true false true false = record { disc = refl; neg = refl; synch = refl; dry = refl; negotiates = refl; synchronizes = refl; asked = asked true false true false }
flags_are_bits true false true true = record { disc = refl; neg = refl; synch = refl; dry = refl; negotiates = refl; synchronizes = refl; asked = asked true false true true }
flags_are_bits true true false false = record { disc = refl; neg = refl; synch = refl; dry = refl; negotiates = refl; synchronizes = refl; asked = asked true true false false }
flags_are_bits true true false true = record { disc = refl; neg = refl; synch = refl; dry = refl; negotiates = refl; synchronizes = refl; asked = asked true true false true }
flags_are_bits true true true false = record { disc = refl; neg = refl; synch = refl; dry = refl; negotiates = refl; synchronizes = refl; asked = asked true true true false }
flags_are_bits true true true true = record { disc = refl; neg = refl; synch = refl; dry = refl; negotiates = refl; synchronizes = refl; asked = asked true true true true }
