-- Keepers of disks on which nothing was written, and the first network.
use Rattle.std.proofs.Common.{◌≡◌, inl, inr, refl, sym, ◌∙◌, ap, subst, arith, ℕ, ◌+◌, ◌*◌, List, [], ◌∷◌, ◌++◌, length, Some, None, length-append}
use Rattle.std.specs.List.{All}
use Rattle.std.proofs.lemmas.List.Elements.{All-pop}
use Rattle.grasp_disk.specs.Calls.{disk_size}
use Rattle.grasp_disk.specs.Memory.{MemDiskState, zeros}
use Rattle.grasp_pool.specs.declared.roots.RootPrefix.{RootPrefix}
use Rattle.grasp_store.specs.Current.{IsSound}
use Rattle.grasp_laws_network.proofs.Appended.{appended}
use Rattle.grasp_laws_network.proofs.GoodPlans.{scripts_are_good}
use Rattle.grasp_laws_network.proofs.Here.{numbered_within}
use Rattle.grasp_model_network.specs.Plans.{IsGoodPlan, IsNode}
use Rattle.grasp_model_network.specs.Runs.{world_of}
use Rattle.grasp_model_network.specs.Setting.{script_roots, script_setting}
use Rattle.grasp_model_network.specs.declared.plan.WorldPlan.{WorldPlan}
use Rattle.grasp_model_kept.specs.World.{disk_of, first_kept}
use Rattle.grasp_laws_kept.specs.Laws.{KeptStands}
use Rattle.grasp_laws_kept.proofs.First.{disk_there, first_stands, zeros_stand}
use Rattle.grasp_simulator.specs.WorldStands.{WorldStands}
use Rattle.grasp_simulator.proofs.NodeRoots.{no_fault}
use Rattle.grasp_simulator.proofs.Presence.{script_members}
use Rattle.grasp_kept.specs.Contract.{kept_network_of}
use Rattle.grasp_kept.specs.Disks.{AreEmpty, AreOpened, AreOpenedTo, IsEmptyDisk}
use Rattle.grasp_kept.specs.Keepers.{DiskKeeper, KeepsDisk}
use Rattle.grasp_kept.specs.Nodes.{network_at}
use Rattle.grasp_kept.specs.Opening.{CanOpen, KeepsOpened, RootsOpen}
use Rattle.grasp_kept.specs.Stands.{KeepersStand, KeptWorldStands}
use Rattle.grasp_kept.specs.declared.kept_world.KeptWorld.{KeptWorld}
use Rattle.grasp_kept.proofs.Worlds.{roots_are}

pub zeros_sound : IsSound (zeros disk_size)
zeros_sound = (zeros_stand disk_size refl []).holds.sound

-- ---- keepers, one after the other

pub none_opened : (p : WorldPlan) → AreOpenedTo p 0 []
none_opened p = record { count = refl; each = λ node keeper found. let is : IsNode 0 node = numbered_within [] node keeper found in absurd (omega (arith, is.least, is.most)) }

pub one_more : (p : WorldPlan) (n : ℕ) (keepers : List DiskKeeper) (keeper : DiskKeeper) → AreOpenedTo p n keepers → KeepsDisk (script_roots p.roots (n + 1)) keeper (zeros disk_size)
    → AreOpenedTo p (n + 1) (keepers ++ keeper ∷ [])
one_more p n keepers keeper stand keeps = record {
  count = omega (arith, length-append keepers (keeper ∷ []), stand.count);
  each = λ node k found. elim (appended keepers keeper node k found) [
    | inl old ↦ stand.each node k old
    | inr last ↦ at_last node k (last.0 ∙ ap (λ (m : ℕ). m + 1) stand.count) last.1
  ];
} where
  at_last : (node : ℕ) (k : DiskKeeper) → node ≡ n + 1 → keeper ≡ k → KeepsDisk (script_roots p.roots node) k (zeros disk_size)
  at_last node k at is =
      subst (λ (m : ℕ). KeepsDisk (script_roots p.roots m) k (zeros disk_size)) (sym at) (subst (λ (j : DiskKeeper). KeepsDisk (script_roots p.roots (n + 1)) j (zeros disk_size)) is keeps)

-- the disks are there, and no keeper is
pub disks_open : (p : WorldPlan) (keepers : List DiskKeeper) (disks items : List MemDiskState) → keepers ≡ [] → AreEmpty p.nodes disks → items ≡ disks
    → AreOpenedTo p 0 keepers × All IsEmptyDisk items × (length items + 0 ≡ p.nodes)
disks_open p keepers disks items none empty is = (
  subst (λ (l : List DiskKeeper). AreOpenedTo p 0 l) (sym none) (none_opened p),
  subst (λ (l : List MemDiskState). All IsEmptyDisk l) (sym is) empty.each,
  omega (arith, ap (λ (l : List MemDiskState). length l) is, empty.count),
)

-- a disk on which nothing was written can be opened
pub can_open_empty : (disk : MemDiskState) → IsEmptyDisk disk → CanOpen disk
can_open_empty disk empty = record { bytes = zeros disk_size; stands = empty; sound = zeros_sound }

-- one disk more is opened
pub keepers_more : (p : WorldPlan) (n : ℕ) (keepers after : List DiskKeeper) (keeper : DiskKeeper) (disks rest : List MemDiskState) (disk : MemDiskState)
    → AreOpenedTo p n keepers × All IsEmptyDisk disks × (length disks + n ≡ p.nodes) → disks ≡ rest ++ disk ∷ [] → after ≡ keepers ++ keeper ∷ [] → KeepsOpened (script_roots p.roots (n + 1)) disk keeper
    → AreOpenedTo p (n + 1) after × All IsEmptyDisk rest × (length rest + (n + 1) ≡ p.nodes)
keepers_more p n keepers after keeper disks rest disk inv popped pushed opened =
    let both : All IsEmptyDisk rest × IsEmptyDisk disk = All-pop IsEmptyDisk disks rest (Some disk) popped inv.1 in (
      subst (λ (l : List DiskKeeper). AreOpenedTo p (n + 1) l) (sym pushed) (one_more p n keepers keeper inv.0 (opened (zeros disk_size) both.1 zeros_sound)),
      both.0,
      omega (arith, inv.2, ap (λ (l : List MemDiskState). length l) popped, length-append rest (disk ∷ [])),
    )

-- the roots of a node open a pool
pub roots_given : (p : WorldPlan) (n : ℕ) (roots : List RootPrefix) → IsGoodPlan p → roots ≡ script_roots p.roots n → RootsOpen roots
roots_given p n roots good is = subst (λ (r : List RootPrefix). RootsOpen r) (sym is) (no_fault p n good)

-- a disk that was taken is empty
pub taken_empty : (disks rest : List MemDiskState) (disk : MemDiskState) → All IsEmptyDisk disks → disks ≡ rest ++ disk ∷ [] → IsEmptyDisk disk
taken_empty disks rest disk all popped = (All-pop IsEmptyDisk disks rest (Some disk) popped all).1

-- ---- the first network

pub first_keepers : (p : WorldPlan) (keepers : List DiskKeeper) → AreOpened p keepers → KeepersStand (script_setting p) (first_kept (script_setting p)).disks keepers
unfolding first_kept
first_keepers p keepers opened = record {
  count = opened.count ∙ sym (script_members p);
  each = λ node keeper found.
      let is : IsNode (length (script_setting p).members) node = subst (λ (n : ℕ). IsNode n node) (opened.count ∙ sym (script_members p)) (numbered_within keepers node keeper found)
      in subst (λ (r : List RootPrefix). KeepsDisk r keeper (disk_of (first_kept (script_setting p)).disks node)) (sym (roots_are p node is))
      (subst (λ (b : List ℕ). KeepsDisk (script_roots p.roots node) keeper b) (sym (disk_there (script_setting p) node is)) (opened.each node keeper found));
}

pub opens : (code : KeptWorld) (p : WorldPlan) → code.plan ≡ p → code.steps ≡ 0 → code.stopped ≡ None → IsGoodPlan p → AreOpened p code.keepers.items
    → WorldStands code.world (network_at (script_setting p) (world_of p)) → KeptWorldStands code (kept_network_of p)
unfolding first_kept
opens code p is none going good opened stands = record {
  stands = (
    record {
      good = subst (λ (q : WorldPlan). IsGoodPlan q) (sym is) good;
      setting = ap script_setting (sym is);
      world = stands;
      keepers = first_keepers p code.keepers.items opened;
      kept = subst (λ (n : ℕ). KeptStands (script_setting p) n (first_kept (script_setting p))) (let e : 0 ≡ 2 * code.steps = omega (arith, none) in e) (first_stands (script_setting p) (scripts_are_good p good));
    },
    going,
  );
}
