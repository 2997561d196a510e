-- A network whose nodes keep their pools on disks.
use Rattle.std.specs.Prelude.{ℕ, ◌-◌, List, [], map, slice_set, unwrap_or}
use Rattle.grasp_disk.specs.Calls.{disk_size}
use Rattle.grasp_disk.specs.Memory.{zeros}
use Rattle.grasp_model_network.specs.Runs.{first_world}
use Rattle.grasp_model_network.specs.Setting.{Setting, numbered}
use Rattle.grasp_model_network.specs.World.{WorldState}

-- the network, and what stands on the disk of each member; between events all of it is synced
pub record KeptState : Type 0 where
  pub world : WorldState
  pub disks : List (List ℕ)

-- the bytes on the disk of this member
abbrev pub disk_of : List (List ℕ) → ℕ → List ℕ
disk_of disks node = unwrap_or (numbered disks node) []

-- the disks with these bytes on that of this member
abbrev pub with_disk : List (List ℕ) → ℕ → List ℕ → List (List ℕ)
with_disk disks node bytes = slice_set disks (node - 1) bytes

-- the first network, with a disk for each member on which nothing was written
unfoldable pub first_kept : Setting → KeptState
first_kept s = record { world = first_world s; disks = map (λ m. zeros disk_size) s.members }
