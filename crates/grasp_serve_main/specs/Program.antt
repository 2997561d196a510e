-- The program's one call: its words, what it reads, and what it makes of that.
use Rattle.std.specs.Prelude.{◌≡◌, ◌≢◌, ◌≤◌, ◌<◌, ◌⊎◌, ℕ, Bool, true, false, List, [], ◌∷◌, length, Option, None, Some, is_some, codes, bytes_eq}
use Rattle.grasp_agent.specs.States.{AgentState}
use Rattle.grasp_config.specs.Serve.{HasServe, IsBadServe}
use Rattle.grasp_config.specs.declared.serve.ServeConfig.{ServeConfig}
use Rattle.grasp_config.specs.declared.serve_fault.ServeKey.{ServeKey}
use Rattle.grasp_disk.specs.Calls.{DiskLog, bytes_of, disk_size}
use Rattle.grasp_io.specs.Faults.{Rose}
use Rattle.grasp_node_main.specs.Plans.{link_plan_of}
use Rattle.grasp_node_main.specs.Program.{IsInput, config_limit}
use Rattle.grasp_service.specs.Rounds.{Outside}
use Rattle.grasp_service.specs.Served.{Serves, FallsShortServing, ServesKept, StopsShort}
use Rattle.grasp_service.specs.declared.cut.Cut.TheVariants as cut
use Rattle.grasp_service.specs.declared.plan.ServicePlan.{ServicePlan}
use Rattle.grasp_shelf.specs.Opening.{OpensShelf, IsShelfFault, IsOfCalls, IsUnused, LeavesClosed}
use Rattle.grasp_shelf.specs.Shelves.{ShelfState, IsClosed, faults_of, store_of}
use Rattle.grasp_shelf.specs.declared.fault.ShelfFault.{ShelfFault}
use Rattle.grasp_shelf.specs.declared.fault.ShelfFault.TheVariants as shelf_fault
use Rattle.grasp_store.specs.declared.fault.KeepFault.{KeepFault}
use Rattle.grasp_store.specs.declared.fault.KeepFault.TheVariants as keep_fault
use Rattle.grasp_serve_main.specs.Plans.{desk_plan_of, IsServicePlanOf}
use Rattle.grasp_serve_main.specs.declared.status.Status.{Status}
use Rattle.grasp_serve_main.specs.declared.status.Status.TheVariants.{Stopped, Usage, BadServe, ReadFault, OutOfMemory, TooLarge, LinkFault, NoStore}
use Rattle.grasp_serve_main.specs.declared.status.Status.TheVariants.{StoreFault, DeskFault}

-- the number that the program exits with
abbrev pub number_of : Status → ℕ
number_of Stopped = 0
number_of Usage = 2
number_of (BadServe key) = 3
number_of ReadFault = 4
number_of OutOfMemory = 6
number_of TooLarge = 7
number_of LinkFault = 8
number_of NoStore = 9
number_of (StoreFault fault) = 9
number_of DeskFault = 10

-- the words are `serve` and one more
abbrev pub is_serve : List (List ℕ) → Bool
is_serve [] = false
is_serve (word ∷ []) = false
is_serve (word ∷ file ∷ []) = bytes_eq word (codes "serve")
is_serve (word ∷ file ∷ other ∷ words) = false

-- ---- what was read

-- some input has P; where it is known what was left to read, it is this one
pub record SomeInput (left : Option (List ℕ)) (P : List ℕ → Type 0) : Type 0 where
  pub input : List ℕ
  pub told : IsInput left input
  pub holds : P input

-- it has at most so many bytes as a configuration may have
abbrev pub IsSmall : List ℕ → Type 0
IsSmall input = length input ≤ config_limit

-- it has more
abbrev pub IsLarge : List ℕ → Type 0
IsLarge input = config_limit < length input

-- it isn't too large, and this is the first of its keys that is bad
pub record IsBadWithin (key : ServeKey) (input : List ℕ) : Type 0 where
  pub small : IsSmall input
  pub bad : IsBadServe input key

-- ---- how far the program came

-- to the end of its input
abbrev pub IsAfterInput : Status → Type 0
IsAfterInput Stopped = Unit {0}
IsAfterInput (BadServe key) = Unit {0}
IsAfterInput LinkFault = Unit {0}
IsAfterInput NoStore = Unit {0}
IsAfterInput (StoreFault fault) = Unit {0}
IsAfterInput DeskFault = Unit {0}
IsAfterInput Usage = ⊥
IsAfterInput ReadFault = ⊥
IsAfterInput OutOfMemory = ⊥
IsAfterInput TooLarge = ⊥

-- to links or a desk that couldn't be opened
abbrev pub IsOfDoors : Status → Type 0
IsOfDoors LinkFault = Unit {0}
IsOfDoors DeskFault = Unit {0}
IsOfDoors Stopped = ⊥
IsOfDoors Usage = ⊥
IsOfDoors (BadServe key) = ⊥
IsOfDoors ReadFault = ⊥
IsOfDoors OutOfMemory = ⊥
IsOfDoors TooLarge = ⊥
IsOfDoors NoStore = ⊥
IsOfDoors (StoreFault fault) = ⊥

-- not to the links
abbrev pub IsBeforeLinks : Status → Type 0
IsBeforeLinks Usage = Unit {0}
IsBeforeLinks ReadFault = Unit {0}
IsBeforeLinks TooLarge = Unit {0}
IsBeforeLinks (BadServe key) = Unit {0}
IsBeforeLinks NoStore = Unit {0}
IsBeforeLinks Stopped = ⊥
IsBeforeLinks OutOfMemory = ⊥
IsBeforeLinks LinkFault = ⊥
IsBeforeLinks (StoreFault fault) = ⊥
IsBeforeLinks DeskFault = ⊥

-- not to the store
abbrev pub IsBeforeStore : Status → Type 0
IsBeforeStore Usage = Unit {0}
IsBeforeStore ReadFault = Unit {0}
IsBeforeStore TooLarge = Unit {0}
IsBeforeStore (BadServe key) = Unit {0}
IsBeforeStore NoStore = ⊥
IsBeforeStore (StoreFault fault) = ⊥
IsBeforeStore Stopped = ⊥
IsBeforeStore OutOfMemory = ⊥
IsBeforeStore LinkFault = ⊥
IsBeforeStore DeskFault = ⊥

-- Inside: it ended so once a configuration was read
abbrev pub IsOfConfig : Status → Type 0
IsOfConfig Stopped = Unit {0}
IsOfConfig OutOfMemory = Unit {0}
IsOfConfig LinkFault = Unit {0}
IsOfConfig DeskFault = Unit {0}
IsOfConfig NoStore = Unit {0}
IsOfConfig (StoreFault fault) = Unit {0}
IsOfConfig Usage = ⊥
IsOfConfig ReadFault = ⊥
IsOfConfig TooLarge = ⊥
IsOfConfig (BadServe key) = ⊥

-- Inside: it ended so once the node was opened
abbrev pub IsOfService : Status → Type 0
IsOfService Stopped = Unit {0}
IsOfService OutOfMemory = Unit {0}
IsOfService LinkFault = Unit {0}
IsOfService DeskFault = Unit {0}
IsOfService NoStore = ⊥
IsOfService (StoreFault fault) = Unit {0}
IsOfService Usage = ⊥
IsOfService ReadFault = ⊥
IsOfService TooLarge = ⊥
IsOfService (BadServe key) = ⊥

-- ---- what it did

-- the node of the configuration served until a visitor stopped it
pub record ServesConfig (config : ServeConfig) (seed : List ℕ) (before after : Outside) : Type 0 where
  pub plan : ServicePlan
  pub planned : IsServicePlanOf config seed plan
  pub serves : Serves plan (link_plan_of config.node) (desk_plan_of config.serve) before after

-- the input has a configuration, whose node did so
pub record ServesInput (left : Option (List ℕ)) (seed : List ℕ) (before after : Outside) : Type 0 where
  pub input : List ℕ
  pub told : IsInput left input
  pub small : IsSmall input
  pub config : ServeConfig
  pub has : HasServe input config
  pub serves : ServesConfig config seed before after

-- memory was wanted: before anything was touched, or the node of the configuration served, and wanted it in a round
pub record FallsShortConfig (config : ServeConfig) (seed : List ℕ) (before after : Outside) : Type 0 where
  pub plan : ServicePlan
  pub planned : IsServicePlanOf config seed plan
  pub falls : FallsShortServing plan (link_plan_of config.node) (desk_plan_of config.serve) before after

abbrev pub ShortConfig : ServeConfig → List ℕ → Outside → Outside → Type 0
ShortConfig config seed before after = (after ≡ before) ⊎ FallsShortConfig config seed before after

-- the input has a configuration, whose node did so
pub record FallsShortInput (left : Option (List ℕ)) (seed : List ℕ) (before after : Outside) : Type 0 where
  pub input : List ℕ
  pub told : IsInput left input
  pub small : IsSmall input
  pub config : ServeConfig
  pub has : HasServe input config
  pub falls : FallsShortConfig config seed before after

abbrev pub ShortInput : Option (List ℕ) → List ℕ → Outside → Outside → Type 0
ShortInput left seed before after = (after ≡ before) ⊎ FallsShortInput left seed before after

-- the text isn't too large, and has a configuration that names a store
pub record NamesStore (text : List ℕ) : Type 0 where
  pub small : IsSmall text
  pub config : ServeConfig
  pub has : HasServe text config
  pub names : is_some config.serve.store ≡ true

-- ---- its store

-- the shelf's store was opened, and the agent's pool is that of the image which was saved there last
abbrev pub OpensAgent : {B : Type 0} → (B → DiskLog → Type 0) → ShelfState B → ShelfState B → Option AgentState → Type 0
OpensAgent stands old new None = ⊥
OpensAgent stands old new (Some agent) =
    (log : DiskLog) → IsClosed stands old log → length (bytes_of log) ≡ disk_size → OpensShelf stands new agent log

-- so it is where the configuration names a store; else the node begins with its roots, and nothing is opened
abbrev pub BeginsFrom : {B : Type 0} → (B → DiskLog → Type 0) → Option (List ℕ) → ShelfState B → ShelfState B → Option AgentState → Type 0
BeginsFrom stands None old new agent = (agent ≡ None) × (new ≡ old)
BeginsFrom stands (Some path) old new agent = OpensAgent stands old new agent

-- the node of the configuration served until a visitor stopped it: it began with what its store had, which was asked around each call of its agent
pub record KeepsConfig {B : Type 0} (stands : B → DiskLog → Type 0) (faults : B → ℕ) (config : ServeConfig) (seed : List ℕ) (a : ShelfState B)
    (before : Outside) (b : ShelfState B) (after : Outside) : Type 0 where
  pub plan : ServicePlan
  pub planned : IsServicePlanOf config seed plan
  pub shelf : ShelfState B
  pub begins : BeginsFrom stands config.serve.store a shelf plan.agent
  pub serves : ServesKept stands faults plan (link_plan_of config.node) (desk_plan_of config.serve) shelf before b after

-- the input has a configuration, whose node did so
pub record KeepsInput {B : Type 0} (stands : B → DiskLog → Type 0) (faults : B → ℕ) (left : Option (List ℕ)) (seed : List ℕ) (a : ShelfState B)
    (before : Outside) (b : ShelfState B) (after : Outside) : Type 0 where
  pub input : List ℕ
  pub told : IsInput left input
  pub small : IsSmall input
  pub config : ServeConfig
  pub has : HasServe input config
  pub keeps : KeepsConfig stands faults config seed a before b after

-- the node of the configuration served until its store had this fault: it began with what its store had, and all that was sent was kept before
pub record StopsConfig {B : Type 0} (stands : B → DiskLog → Type 0) (faults : B → ℕ) (config : ServeConfig) (seed : List ℕ) (a : ShelfState B)
    (before : Outside) (fault : KeepFault) (b : ShelfState B) (after : Outside) : Type 0 where
  pub plan : ServicePlan
  pub planned : IsServicePlanOf config seed plan
  pub shelf : ShelfState B
  pub begins : BeginsFrom stands config.serve.store a shelf plan.agent
  pub never_falls : faults_of faults a ≤ faults_of faults shelf
  pub stops : StopsShort stands faults plan (link_plan_of config.node) (desk_plan_of config.serve) shelf before (cut.Store fault) b after

-- the input has a configuration, whose node did so
pub record StopsInput {B : Type 0} (stands : B → DiskLog → Type 0) (faults : B → ℕ) (left : Option (List ℕ)) (seed : List ℕ) (a : ShelfState B)
    (before : Outside) (fault : KeepFault) (b : ShelfState B) (after : Outside) : Type 0 where
  pub input : List ℕ
  pub told : IsInput left input
  pub small : IsSmall input
  pub config : ServeConfig
  pub has : HasServe input config
  pub stops : StopsConfig stands faults config seed a before fault b after

-- the store wasn't opened, for this cause
pub record RefusesStore {B : Type 0} (stands : B → DiskLog → Type 0) (faults : B → ℕ) (old new : ShelfState B) : Type 0 where
  pub fault : ShelfFault
  pub why : new.fault ≡ Some fault
  pub of_store : fault ≢ shelf_fault.OutOfMemory
  pub is : (log : DiskLog) → IsClosed stands old log → length (bytes_of log) ≡ disk_size → IsShelfFault (bytes_of log) fault
  pub leaves : (log : DiskLog) → IsClosed stands old log → length (bytes_of log) ≡ disk_size → LeavesClosed (IsClosed stands new) log fault
  pub calls : IsOfCalls fault → IsUnused old → Rose (faults_of faults old) (faults_of faults new)
  pub there : is_some (store_of new) ≡ is_some (store_of old)

-- why its store has a fault: something failed at it, or the number of saves is spent. An unused store that tells what stands on it isn't stopped by an
-- earlier fault
abbrev pub IsKeptFault : {B : Type 0} → (B → DiskLog → Type 0) → (B → ℕ) → ShelfState B → ShelfState B → KeepFault → Type 0
IsKeptFault stands faults old new keep_fault.DiskFault = Rose (faults_of faults old) (faults_of faults new)
IsKeptFault stands faults old new keep_fault.Spent = Unit {0}
IsKeptFault stands faults old new keep_fault.Stopped = IsUnused old → (log : DiskLog) → IsClosed stands old log → ¬ (length (bytes_of log) ≡ disk_size)
