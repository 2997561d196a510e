-- Inside: what an opening finds.
use Rattle.std.specs.Prelude.{◌≡◌, ℕ, Bool, true, false, List}
use Rattle.grasp_disk.specs.Calls.{DiskLog, after_made, bytes_of}
use Rattle.grasp_pool.specs.Answers.{IsRootFault}
use Rattle.grasp_pool.specs.Functions.{pool_of_image}
use Rattle.grasp_pool.specs.declared.fault.PoolFault.TheVariants as pool_fault
use Rattle.grasp_pool.specs.declared.image.PoolImage.{PoolImage}
use Rattle.grasp_pool.specs.declared.roots.RootPrefix.{RootPrefix}
use Rattle.grasp_agent.specs.States.{AgentState, first_agent}
use Rattle.grasp_store.specs.Current.{image_on}
use Rattle.grasp_store.specs.Looking.{IsPosition}
use Rattle.grasp_store.specs.Saving.{open_calls}
use Rattle.grasp_store.specs.Slots.{slot_in}
use Rattle.grasp_store.specs.declared.fault.OpenFault.{OpenFault}
use Rattle.grasp_store.specs.declared.fault.OpenFault.TheVariants as open_fault
use Rattle.grasp_store.specs.declared.looking.Position.{Position}
use Rattle.grasp_store.specs.declared.place.Place.{Place}
use Rattle.grasp_store.specs.declared.place.Place.TheVariants.{First, Second}

-- the bytes of the slot at a place, of two slots
abbrev pub slot_at : Place → List ℕ → List ℕ → List ℕ
slot_at First first second = first
slot_at Second first second = second

-- an image, and an agent whose pool is that of the image
pub record IsFrom (image : PoolImage) (held : PoolImage) (agent : AgentState) : Type 0 where
  pub holds : held ≡ image
  pub is : agent ≡ first_agent (pool_of_image image)

-- why the roots open no agent, or there is no memory
abbrev pub IsRootless : List RootPrefix → OpenFault → Type 0
IsRootless roots open_fault.DiskFault = ⊥
IsRootless roots (open_fault.BadImage slot) = ⊥
IsRootless roots (open_fault.Roots fault) = (¬ (fault ≡ pool_fault.OutOfMemory)) × IsRootFault roots fault
IsRootless roots open_fault.OutOfMemory = IsRootFault roots pool_fault.OutOfMemory

-- the same, where a slot is current or none is
abbrev pub MayRefuse : List RootPrefix → Bool → OpenFault → Type 0
MayRefuse roots true fault = fault ≡ open_fault.OutOfMemory
MayRefuse roots false fault = IsRootless roots fault

-- the disk was read: which slot is current, and its image
pub record IsBegun (Stands : DiskLog → Type 0) (roots : List RootPrefix) (log : DiskLog) (position : Position)
    (image : PoolImage) (agent : AgentState) : Type 0 where
  pub stands : Stands (after_made log open_calls)
  pub finds : IsPosition (slot_in (bytes_of log) First) (slot_in (bytes_of log) Second) position
  pub from : IsFrom (image_on roots (bytes_of log)) image agent
