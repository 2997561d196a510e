-- Inside: what the parts of reading a configuration answer.
use Rattle.std.specs.Prelude.{◌≡◌, Option, Some, None, Result, Ok, Err}
use Rattle.grasp_pool.specs.declared.fault.PoolFault.{PoolFault}
use Rattle.grasp_pool.specs.declared.fault.PoolFault.TheVariants as pool_faults
use Rattle.grasp_config.specs.declared.fault.ConfigKey.{ConfigKey}
use Rattle.grasp_config.specs.declared.fault.ConfigKey.TheVariants.{Roots}
use Rattle.grasp_config.specs.declared.fault.ConfigFault.{ConfigFault}
use Rattle.grasp_config.specs.declared.fault.ConfigFault.TheVariants.{BadConfig, OutOfMemory}

-- what is read of a key was answered, or that it is bad, unless memory ran out
abbrev pub KeyRead : {A : Type 0} → ConfigKey → Option A → Result A ConfigFault → Type 0
KeyRead key found (Ok a) = found ≡ Some a
KeyRead key found (Err (BadConfig k)) = (k ≡ key) × (found ≡ None)
KeyRead key found (Err OutOfMemory) = Unit {0}

-- the fault where a pool doesn't open
abbrev pub fault_of : PoolFault → ConfigFault
fault_of pool_faults.OutOfMemory = OutOfMemory
fault_of fault = BadConfig Roots
