-- What stands on the disks of a network whose nodes crash.
use Rattle.std.specs.Prelude.{◌≡◌, ℕ, ◌≤◌, List, length, Some}
use Rattle.grasp_pool.specs.Holdings.{Holding}
use Rattle.grasp_pool.specs.declared.roots.RootPrefix.{RootPrefix}
use Rattle.grasp_store.specs.Current.{Holds, current_in, number_of}
use Rattle.grasp_store.specs.Images.{image_of}
use Rattle.grasp_model_network.specs.Plans.{IsNode}
use Rattle.grasp_model_network.specs.Setting.{Setting}
use Rattle.grasp_model_network.specs.World.{Seat}
use Rattle.grasp_model_kept.specs.Disks.{present_seat, roots_of}
use Rattle.grasp_model_kept.specs.World.{KeptState, disk_of}

-- the disk can be opened, and has the image of this pool: it is current, or none is and the pool is that of the roots. The number is at most so great
pub record DiskStands (roots : List RootPrefix) (bytes : List ℕ) (pool : Holding) (most : ℕ) : Type 0 where
  pub holds : Holds roots bytes (image_of pool)
  pub number : number_of (current_in bytes) ≤ most

-- each member has a disk, which has the image of the pool of its present life
pub record DisksStand (s : Setting) (k : KeptState) (most : ℕ) : Type 0 where
  pub count : length k.disks ≡ length s.members
  pub each : (node : ℕ) (seat : Seat) → IsNode (length s.members) node → present_seat k.world node ≡ Some seat
      → DiskStands (roots_of s node) (disk_of k.disks node) seat.agent.pool most
