-- What the program did, from what its parts did.
use Rattle.std.proofs.Common.{◌≡◌, ◌≢◌, ◌≤◌, ◌<◌, ◌∙◌, inl, inr, refl, sym, ap, subst, arith, true, false, ℕ, zero, suc, List, [], ◌∷◌, length, Option, None, Some, IfSome, is_some}
use Rattle.std.proofs.lemmas.Option.{none-some}
use Rattle.grasp_agent.specs.States.{AgentState}
use Rattle.grasp_config.specs.Laws.{IsInRange}
use Rattle.grasp_config.specs.Serve.{HasServe, IsBadServe}
use Rattle.grasp_config.specs.ServeLaws.{ServesAreInRange}
use Rattle.grasp_config.specs.declared.serve.ServeConfig.{ServeConfig}
use Rattle.grasp_config.specs.declared.serve_fault.ServeKey.{ServeKey}
use Rattle.grasp_desk.specs.declared.desk.DeskPlan.{DeskPlan}
use Rattle.grasp_disk.specs.Calls.{DiskLog, bytes_of, disk_size}
use Rattle.grasp_io.proofs.Facts.{rose_before}
use Rattle.grasp_io.specs.Faults.{Rose}
use Rattle.grasp_io.specs.declared.links.LinkPlan.{LinkPlan}
use Rattle.grasp_node_main.specs.Plans.{link_plan_of}
use Rattle.grasp_node_main.specs.Program.{IsInput, config_limit}
use Rattle.grasp_service.proofs.Faults.{stops_rose, stops_stopped}
use Rattle.grasp_service.specs.Rounds.{Outside}
use Rattle.grasp_service.specs.Served.{ServesKept, ServesShort, StopsShort}
use Rattle.grasp_store.specs.Keeping.{KeeperState}
use Rattle.grasp_service.specs.declared.cut.Cut.TheVariants as cut
use Rattle.grasp_service.specs.declared.plan.ServicePlan.{ServicePlan}
use Rattle.grasp_serve_main.specs.Plans.{desk_plan_of, IsServicePlanOf}
use Rattle.grasp_shelf.specs.Opening.{OpensSaved, OpensShelf, IsShelfFault, IsOfCalls, IsUnused, LeavesClosed}
use Rattle.grasp_shelf.specs.Shelves.{ShelfState, IsClosed, faults_of, has_stopped, is_stopped, store_of}
use Rattle.grasp_shelf.specs.declared.fault.ShelfFault.{ShelfFault}
use Rattle.grasp_shelf.specs.declared.fault.ShelfFault.TheVariants as shelf_fault
use Rattle.grasp_store.specs.declared.fault.KeepFault.{KeepFault}
use Rattle.grasp_store.specs.declared.fault.KeepFault.TheVariants as keep_fault
use Rattle.grasp_serve_main.specs.Program.{ServesInput, ShortConfig, ShortInput, NamesStore, BeginsFrom, KeepsConfig, KeepsInput, StopsConfig}
use Rattle.grasp_serve_main.specs.Program.{StopsInput, RefusesStore, IsKeptFault, OpensAgent, SomeInput, IsSmall, IsLarge, IsBadWithin}

-- ---- the node of a configuration

pub keeps_config : {B : Type 0} (stands : B → DiskLog → Type 0) (faults : B → ℕ) (c : ServeConfig) (seed : List ℕ) (p : ServicePlan)
    (agent : Option AgentState) (joining : LinkPlan) (doors : DeskPlan) (a m b : ShelfState B) (x y : Outside)
    → joining ≡ link_plan_of c.node → doors ≡ desk_plan_of c.serve → BeginsFrom stands c.serve.store a m agent → IsServicePlanOf c seed p
    → p.agent ≡ agent → ServesKept stands faults p joining doors m x b y
    → KeepsConfig stands faults c seed a x b y
keeps_config stands faults c seed p agent joining doors a m b x y l d begins planned is serves = record {
  plan = p;
  planned = planned;
  shelf = m;
  begins = subst (λ k. BeginsFrom stands c.serve.store a m k) (sym is) begins;
  serves = subst (λ k. ServesKept stands faults p (link_plan_of c.node) k m x b y) d
      (subst (λ k. ServesKept stands faults p k doors m x b y) l serves);
}

-- where the pool is forgotten there is no agent
pub forgets_agent : {B : Type 0} (stands : B → DiskLog → Type 0) (store : Option (List ℕ)) (a m : ShelfState B) (agent : Option AgentState)
    → BeginsFrom stands store a m agent → store ≡ None → agent ≡ None
forgets_agent stands None a m agent begins none = begins.0
forgets_agent stands (Some path) a m agent begins none = absurd (none-some path (sym none))

pub stops_config : {B : Type 0} (stands : B → DiskLog → Type 0) (faults : B → ℕ) (c : ServeConfig) (seed : List ℕ) (p : ServicePlan)
    (agent : Option AgentState) (joining : LinkPlan) (doors : DeskPlan) (a m b : ShelfState B) (x y : Outside)
    (fault : KeepFault) → joining ≡ link_plan_of c.node → doors ≡ desk_plan_of c.serve → BeginsFrom stands c.serve.store a m agent
    → faults_of faults a ≤ faults_of faults m → IsServicePlanOf c seed p → p.agent ≡ agent
    → StopsShort stands faults p joining doors m x (cut.Store fault) b y → StopsConfig stands faults c seed a x fault b y
stops_config stands faults c seed p agent joining doors a m b x y fault l d begins rises planned is stops = record {
  plan = p;
  planned = planned;
  shelf = m;
  begins = subst (λ k. BeginsFrom stands c.serve.store a m k) (sym is) begins;
  never_falls = rises;
  stops = subst (λ k. StopsShort stands faults p (link_plan_of c.node) k m x (cut.Store fault) b y) d
      (subst (λ k. StopsShort stands faults p k doors m x (cut.Store fault) b y) l stops);
}

pub short_config : (c : ServeConfig) (seed : List ℕ) (p : ServicePlan) (joining : LinkPlan) (doors : DeskPlan) (x y : Outside)
    → joining ≡ link_plan_of c.node → doors ≡ desk_plan_of c.serve
    → IsServicePlanOf c seed p → ServesShort p joining doors x y → ShortConfig c seed x y
short_config c seed p joining doors x y l d planned short =
    by_end (subst (λ k. ServesShort p (link_plan_of c.node) k x y) d (subst (λ k. ServesShort p k doors x y) l short)) where
      by_end : ServesShort p (link_plan_of c.node) (desk_plan_of c.serve) x y → ShortConfig c seed x y
      by_end (inl same) = inl same
      by_end (inr falls) = inr (record { plan = p; planned = planned; falls = falls })

pub config_untouched : (c : ServeConfig) (seed : List ℕ) (x : Outside) → ShortConfig c seed x x
config_untouched c seed x = inl refl

pub ruleset configuring = (keeps_config, stops_config, short_config, config_untouched, forgets_agent)

-- ---- the node of an input

-- a text's configuration is within its limits
pub in_range : (text : List ℕ) (config : ServeConfig) → ServesAreInRange → HasServe text config → IsInRange config.node
in_range text config law has = (law has.table config has.is).0

pub keeps_input : {B : Type 0} (stands : B → DiskLog → Type 0) (faults : B → ℕ) (left : Option (List ℕ)) (seed : List ℕ) (a b : ShelfState B)
    (x y : Outside) (input : List ℕ) (config : ServeConfig) → IsInput left input → IsSmall input
    → HasServe input config → KeepsConfig stands faults config seed a x b y → KeepsInput stands faults left seed a x b y
keeps_input stands faults left seed a b x y input config is small has keeps =
    record { input = input; told = is; small = small; config = config; has = has; keeps = keeps }

-- so the node served
pub serves_input : {B : Type 0} (stands : B → DiskLog → Type 0) (faults : B → ℕ) (left : Option (List ℕ)) (seed : List ℕ) (a b : ShelfState B)
    (x y : Outside) → KeepsInput stands faults left seed a x b y → ServesInput left seed x y
serves_input stands faults left seed a b x y k = record {
  input = k.input;
  told = k.told;
  small = k.small;
  config = k.config;
  has = k.has;
  serves = record { plan = k.keeps.plan; planned = k.keeps.planned; serves = k.keeps.serves.serves };
}

pub stops_input : {B : Type 0} (stands : B → DiskLog → Type 0) (faults : B → ℕ) (left : Option (List ℕ)) (seed : List ℕ) (a b : ShelfState B)
    (x y : Outside) (fault : KeepFault) (input : List ℕ) (config : ServeConfig)
    → IsInput left input → IsSmall input → HasServe input config → StopsConfig stands faults config seed a x fault b y
    → StopsInput stands faults left seed a x fault b y
stops_input stands faults left seed a b x y fault input config is small has stops = record {
  input = input;
  told = is;
  small = small;
  config = config;
  has = has;
  stops = stops;
}

-- ---- why its store has a fault

-- an unused shelf has no keeper that has stopped, also once its store was opened
open_going : {B : Type 0} (stands : B → DiskLog → Type 0) (keeper : Option (KeeperState B)) (agent : AgentState) (log : DiskLog)
    → OpensSaved stands keeper agent log → has_stopped keeper ≡ false
open_going stands None agent log opens = absurd opens
open_going stands (Some k) agent log opens = opens.0.keeps.going

agent_going : {B : Type 0} (stands : B → DiskLog → Type 0) (a m : ShelfState B) (agent : Option AgentState) (log : DiskLog) → OpensAgent stands a m agent
    → IsClosed stands a log → length (bytes_of log) ≡ disk_size → is_stopped m ≡ false
agent_going stands a m None log opens closed size = absurd opens
agent_going stands a m (Some agent) log opens closed size = open_going stands m.keeper agent log (opens log closed size)

begun_going : {B : Type 0} (stands : B → DiskLog → Type 0) (path : Option (List ℕ)) (a m : ShelfState B) (agent : Option AgentState) (log : DiskLog)
    → BeginsFrom stands path a m agent → IsUnused a → IsClosed stands a log → length (bytes_of log) ≡ disk_size → is_stopped m ≡ false
begun_going stands None a m agent log begins unused closed size = ap is_stopped begins.1 ∙ ap has_stopped unused.closed
begun_going stands (Some path) a m agent log begins unused closed size = agent_going stands a m agent log begins closed size

true_is_false : true ≡ false → ⊥
true_is_false e = cc

stops_for : {B : Type 0} (stands : B → DiskLog → Type 0) (faults : B → ℕ) (c : ServeConfig) (seed : List ℕ) (a b : ShelfState B) (x y : Outside)
    (fault : KeepFault) → StopsConfig stands faults c seed a x fault b y → IsKeptFault stands faults a b fault
stops_for stands faults c seed a b x y keep_fault.DiskFault s =
    rose_before (faults_of faults a) (faults_of faults s.shelf) (faults_of faults b) s.never_falls
    (stops_rose stands faults s.plan (link_plan_of c.node) (desk_plan_of c.serve) s.shelf b x y s.stops)
stops_for stands faults c seed a b x y keep_fault.Spent s = tt
stops_for stands faults c seed a b x y keep_fault.Stopped s = λ unused log closed size.
    true_is_false (sym (stops_stopped stands faults s.plan (link_plan_of c.node) (desk_plan_of c.serve) s.shelf b x y s.stops)
    ∙ begun_going stands c.serve.store a s.shelf s.plan.agent log s.begins unused closed size)

pub fault_told : {B : Type 0} (stands : B → DiskLog → Type 0) (faults : B → ℕ) (left : Option (List ℕ)) (seed : List ℕ) (a b : ShelfState B)
    (x y : Outside) (fault : KeepFault) → StopsInput stands faults left seed a x fault b y
    → IsKeptFault stands faults a b fault
fault_told stands faults left seed a b x y fault s = stops_for stands faults s.config seed a b x y fault s.stops

pub ruleset keeping = (serves_input, fault_told)

pub short_input : (left : Option (List ℕ)) (seed : List ℕ) (x y : Outside) (input : List ℕ) (config : ServeConfig) → IsInput left input → IsSmall input
    → HasServe input config → ShortConfig config seed x y → ShortInput left seed x y
short_input left seed x y input config is small has (inl same) = inl same
short_input left seed x y input config is small has (inr falls) =
    inr (record { input = input; told = is; small = small; config = config; has = has; falls = falls })

pub input_untouched : (left : Option (List ℕ)) (seed : List ℕ) (x : Outside) → ShortInput left seed x x
input_untouched left seed x = inl refl

pub small_input : (left : Option (List ℕ)) (bytes : List ℕ) → IsInput left bytes → IsSmall bytes → SomeInput left IsSmall
small_input left bytes is small = record { input = bytes; told = is; holds = small }

pub bad_input : (left : Option (List ℕ)) (bytes : List ℕ) (key : ServeKey) → IsInput left bytes → IsSmall bytes → IsBadServe bytes key
    → SomeInput left (IsBadWithin key)
bad_input left bytes key is small bad = record { input = bytes; told = is; holds = record { small = small; bad = bad } }

pub store_named : (left : Option (List ℕ)) (bytes : List ℕ) (config : ServeConfig) → IsInput left bytes → IsSmall bytes → HasServe bytes config
    → is_some config.serve.store ≡ true → SomeInput left NamesStore
store_named left bytes config is small has names =
    record { input = bytes; told = is; holds = record { small = small; config = config; has = has; names = names } }

-- there is an input with more bytes than so many
some_longer : (n : ℕ) → SomeInput None (λ i. n < length i)
some_longer zero = record { input = 0 ∷ []; told = tt; holds = omega arith }
some_longer (suc n) = let shorter = some_longer n in record { input = 0 ∷ shorter.input; told = tt; holds = omega (arith, shorter.holds) }

-- what was left is too large where it is told and has too many bytes
pub read_too_far : (left : Option (List ℕ)) → IfSome left (λ all. config_limit < length all) → SomeInput left IsLarge
read_too_far None more = let longer = some_longer config_limit in record { input = longer.input; told = tt; holds = longer.holds }
read_too_far (Some all) more = record { input = all; told = refl; holds = more }

pub ruleset reading = (in_range, keeps_input, stops_input, short_input, input_untouched, small_input, bad_input, store_named)

-- ---- the opening of its store

pub begins_agent : {B : Type 0} (stands : B → DiskLog → Type 0) (path : Option (List ℕ)) (name : List ℕ) (a m : ShelfState B) (agent : AgentState)
    → path ≡ Some name
    → ((log : DiskLog) → IsClosed stands a log → length (bytes_of log) ≡ disk_size → OpensShelf stands m agent log)
    → BeginsFrom stands path a m (Some agent)
begins_agent stands path name a m agent is opens = subst (λ p. BeginsFrom stands p a m (Some agent)) (sym is) opens

pub begins_forgetting : {B : Type 0} (stands : B → DiskLog → Type 0) (path : Option (List ℕ)) (a : ShelfState B) → path ≡ None
    → BeginsFrom stands path a a None
begins_forgetting stands path a is = subst (λ p. BeginsFrom stands p a a None) (sym is) (refl, refl)

pub refuses : {B : Type 0} (stands : B → DiskLog → Type 0) (faults : B → ℕ) (a m : ShelfState B) (fault : ShelfFault) →
    ((log : DiskLog) → IsClosed stands a log → length (bytes_of log) ≡ disk_size → IsShelfFault (bytes_of log) fault)
    → ((log : DiskLog) → IsClosed stands a log → length (bytes_of log) ≡ disk_size → LeavesClosed (IsClosed stands m) log fault)
    → (IsOfCalls fault → IsUnused a → Rose (faults_of faults a) (faults_of faults m)) → is_some (store_of m) ≡ is_some (store_of a) → m.fault ≡ Some fault
    → fault ≢ shelf_fault.OutOfMemory → RefusesStore stands faults a m
refuses stands faults a m fault is leaves calls there why not =
    record { fault = fault; why = why; of_store = not; is = is; leaves = leaves; calls = calls; there = there }

pub ruleset opening = (begins_agent, begins_forgetting, refuses)
