-- Networks whose nodes keep their pools on disks: what the code keeps of them through an event.
use Rattle.std.proofs.Common.{◌≡◌, refl, sym, ◌∙◌, ap, subst, arith, ℕ, ◌+◌, ◌-◌, ◌<◌, ◌≤◌, ◌^◌, List, length, slice_get, slice_index_or, slice_set, Bool, Some, Ok, Err, Result, length-set}
use Rattle.std.specs.List.{insert, remove}
use Rattle.grasp_disk.specs.declared.left.Left.{Left}
use Rattle.grasp_types.specs.Prefix.{AddressBlock}
use Rattle.grasp_pool.specs.declared.image.PoolImage.{PoolImage}
use Rattle.grasp_pool.specs.declared.roots.RootPrefix.{RootPrefix}
use Rattle.grasp_laws_network.proofs.GoodPlans.{numbered_member}
use Rattle.grasp_model_network.specs.Events.{IsFit, after_event}
use Rattle.grasp_model_network.specs.Plans.{IsGoodPlan, IsNode}
use Rattle.grasp_model_network.specs.Setting.{Setting, script_roots, script_setting}
use Rattle.grasp_model_network.specs.Visits.{Choice}
use Rattle.grasp_model_network.specs.World.{WorldState}
use Rattle.grasp_model_network.specs.declared.event.Event.{Event}
use Rattle.grasp_model_network.specs.declared.event.Event.TheVariants as event
use Rattle.grasp_model_network.specs.declared.plan.WorldPlan.{WorldPlan}
use Rattle.grasp_model_network.specs.declared.report.Report.{Report}
use Rattle.grasp_model_network.specs.declared.report.WorldStop.{WorldStop}
use Rattle.grasp_model_network.specs.declared.report.WorldStop.TheVariants as stop
use Rattle.grasp_model_kept.specs.Crashing.{bytes_left, is_cut, world_crashed}
use Rattle.grasp_model_kept.specs.Disks.{disks_after, member_roots, roots_of}
use Rattle.grasp_model_kept.specs.Runs.{KeptMayStop, KeptOccurs, kept_event}
use Rattle.grasp_model_kept.specs.World.{KeptState, with_disk}
use Rattle.grasp_model_kept.specs.declared.event.KeptEvent.{KeptEvent}
use Rattle.grasp_model_kept.specs.declared.event.KeptEvent.TheVariants as kept
use Rattle.grasp_laws_kept.proofs.Crashes.{Crashed, crashed}
use Rattle.grasp_laws_kept.proofs.Runs.{steps}
use Rattle.grasp_simulator.specs.Contract.{Reported}
use Rattle.grasp_simulator.specs.WorldStands.{WorldStands}
use Rattle.grasp_simulator.specs.WorldSteps.{IsAsked, Stepped}
use Rattle.grasp_simulator.specs.declared.world.World.{World}
use Rattle.grasp_simulator.proofs.NodeRoots.{no_fault}
use Rattle.grasp_simulator.proofs.Presence.{at_index, script_members}
use Rattle.grasp_kept.specs.Beginning.{Begins, BeginsAnew, CanBegin, HasBegun}
use Rattle.grasp_kept.specs.Crashes.{CallCut, CallsUntil}
use Rattle.grasp_kept.specs.Keepers.{DiskKeeper, KeepsDisk}
use Rattle.grasp_kept.specs.Nodes.{CallMade, CanTell, HasKeeper, MakesCall, NodeGoes, Tells, TellingDone, network_at}
use Rattle.grasp_kept.specs.Opening.{RootsOpen}
use Rattle.grasp_kept.specs.Stands.{CanCrash, CanHappen, CrashFits, Crashes, Happens, KeepersStand, KeptGoes}
use Rattle.grasp_kept.specs.declared.kept_world.KeptWorld.{KeptWorld}
use Rattle.grasp_kept.proofs.Calls.{is_asked, meets}
use Rattle.grasp_kept.proofs.Putting.{keeper_here, put_back, put_keeper, put_there, put_twice, within}

-- ---- the roots of a member

pub roots_are : (p : WorldPlan) (node : ℕ) → IsNode (length (script_setting p).members) node → roots_of (script_setting p) node ≡ script_roots p.roots node
unfolding script_setting
roots_are p node is = ap member_roots (numbered_member p node (subst (λ (n : ℕ). IsNode n node) (script_members p) is))

-- ---- a node of the code

module _ (code : KeptWorld) (s : Setting) (k : KeptState) (most : ℕ) (goes : KeptGoes code s k most) (below : most + 2 < 2 ^ 64 - 1) (node : ℕ) (member : IsNode (length s.members) node) where
  pub place : node - 1 < length code.keepers.items
  place = within s k.disks code.keepers.items goes.keepers node member

  pub node_goes : (keeper : DiskKeeper) → slice_get code.keepers.items (node - 1) ≡ Some keeper → NodeGoes code.world keeper s k node most
  node_goes keeper got = record { stands = goes.world; kept = goes.kept; below = below; member = member; keeps = keeper_here s k.disks code.keepers.items goes.keepers node member keeper got }

  pub roots_open : (roots : List RootPrefix) → roots ≡ script_roots code.plan.roots node → RootsOpen roots
  roots_open roots is = subst (λ (r : List RootPrefix). RootsOpen r) (sym is) (no_fault code.plan node goes.good)

-- ---- what is asked for

-- an event that names a node
pub named : (code : KeptWorld) (e f : Event) → e ≡ f → CanHappen code e → (node : ℕ) → ((s : Setting) (w : WorldState) → IsFit s w f → IsNode (length s.members) node) → CanCrash code node
named code e f is can node names = from (subst (λ (x : Event). CanHappen code x) is can) where
  from : CanHappen code f → CanCrash code node
  from c = record { setting = c.setting; state = c.state; most = c.most; fits = record { goes = c.fits.goes; below = c.fits.below; member = names c.setting c.state.world c.fits.fit } }

module _ (code : KeptWorld) (node : ℕ) (can : CanCrash code node) where
  pub least_node : 1 ≤ node
  least_node = can.fits.member.least

  pub has_place : (i : ℕ) → i ≡ node - 1 → i < length code.keepers.items
  has_place i is = omega (arith, is, place code can.setting can.state can.most can.fits.goes can.fits.below node can.fits.member)

  -- the keeper that stands there
  pub got : (i : ℕ) → i ≡ node - 1 → (keeper : DiskKeeper) → keeper ≡ slice_index_or code.keepers.items i keeper → slice_get code.keepers.items (node - 1) ≡ Some keeper
  got i is keeper read = subst (λ (n : ℕ). slice_get code.keepers.items n ≡ Some keeper) is (at_index code.keepers.items i keeper (has_place i is) read)

  pub has_keeper : (keeper : DiskKeeper) → slice_get code.keepers.items (node - 1) ≡ Some keeper → HasKeeper code.world keeper node
  has_keeper keeper found =
      record { setting = can.setting; state = can.state; most = can.most; goes = node_goes code can.setting can.state can.most can.fits.goes can.fits.below node can.fits.member keeper found }

-- a node's agent that may be told of an event
pub can_tell : (code : KeptWorld) (e f : Event) → e ≡ f → CanHappen code e → (node : ℕ) → ((s : Setting) (w : WorldState) → IsFit s w f → IsNode (length s.members) node) → (keeper : DiskKeeper)
    → slice_get code.keepers.items (node - 1) ≡ Some keeper → CanTell code.world keeper node f
can_tell code e f is can node names keeper found = from (subst (λ (x : Event). CanHappen code x) is can) where
  from : CanHappen code f → CanTell code.world keeper node f
  from c = record {
    has = record {
      setting = c.setting;
      state = c.state;
      most = c.most;
      goes = node_goes code c.setting c.state c.most c.fits.goes c.fits.below node (names c.setting c.state.world c.fits.fit) keeper found;
    };
    fit = c.fits.fit;
  }

-- at an event that is neither a call nor a want nor a return no disk is asked
pub quiet_disks : (e : Event) → ((node : ℕ) (hold : Bool) → e ≡ event.Agent node hold → ⊥) → ((node length longest peer : ℕ) → e ≡ event.Want node length longest peer → ⊥)
    → ((node : ℕ) (prefix : AddressBlock) (peer : ℕ) → e ≡ event.Return node prefix peer → ⊥) → (s : Setting) (k : KeptState) (x : WorldState) → disks_after s k e x ≡ k.disks
quiet_disks (event.Agent node hold) call want back s k x = absurd (call node hold refl)
quiet_disks (event.Want node length longest peer) call want back s k x = absurd (want node length longest peer refl)
quiet_disks (event.Return node prefix peer) call want back s k x = absurd (back node prefix peer refl)
quiet_disks _ call want back s k x = refl

-- another event may be asked for
pub quiet_asked : (code : KeptWorld) (e : Event) → CanHappen code e → IsAsked code.world e
quiet_asked code e can = is_asked code.world can.setting can.state.world e can.fits.goes.world can.fits.fit

-- a member's keeper is put, and the code keeps the network after an event
module _ (old new : KeptWorld) (s : Setting) (k : KeptState) (most : ℕ) (goes : KeptGoes old s k most) (below : most + 2 < 2 ^ 64 - 1) (node : ℕ) (member : IsNode (length s.members) node)
    (same_plan : new.plan ≡ old.plan) (keeper : DiskKeeper) (put : new.keepers.items ≡ slice_set old.keepers.items (node - 1) keeper) where
  pub put_goes : (e : KeptEvent) (c : Choice) → KeptOccurs s k e c → WorldStands new.world (network_at s (kept_event s k e c).world) → (bytes : List ℕ) → (kept_event s k e c).disks ≡ with_disk k.disks node bytes
      → KeepsDisk (roots_of s node) keeper bytes → KeptGoes new s (kept_event s k e c) (most + 2)
  put_goes e c o stands bytes disks_are keeps = record {
    good = subst (λ (p : WorldPlan). IsGoodPlan p) (sym same_plan) goes.good;
    setting = goes.setting ∙ ap script_setting (sym same_plan);
    world = stands;
    keepers = subst (λ (d : List (List ℕ)). KeepersStand s d new.keepers.items) (sym disks_are)
        (subst (λ (l : List DiskKeeper). KeepersStand s (with_disk k.disks node bytes) l) (sym put)
        (put_keeper s k.disks old.keepers.items goes.keepers node member goes.kept.disks.count keeper bytes keeps));
    kept = (steps s k most goes.kept below e c o).then_stands;
  }

-- ---- an event that is no crash

module _ (old new : KeptWorld) (same_plan : new.plan ≡ old.plan) (node : ℕ) (keeper next : DiskKeeper) (got : slice_get old.keepers.items (node - 1) ≡ Some keeper)
    (put : new.keepers.items ≡ slice_set old.keepers.items (node - 1) next) where
  -- a call of an agent
  pub call_happens : (hold : Bool) (result : Result Report WorldStop) → MakesCall old.world new.world keeper next node hold result → Happens old new (event.Agent node hold) result
  unfolding kept_event
  call_happens hold (Ok told) makes s k most f =
      let m : CallMade new.world next s k node hold told = makes s k most (node_goes old s k most f.goes f.below node f.fit keeper got) in
      record {
        choice = m.choice;
        occurs = m.occurs;
        report_is = m.report_is;
        goes = put_goes old new s k most f.goes f.below node f.fit same_plan next put (kept.Plain (event.Agent node hold)) m.choice m.occurs m.stands _ refl m.keeps;
      }
  call_happens hold (Err why) makes s k most f = makes s k most (node_goes old s k most f.goes f.below node f.fit keeper got)

  -- a want
  pub want_happens : (length longest peer : ℕ) (result : Result Report WorldStop) → Tells old.world new.world keeper next node (event.Want node length longest peer) result
      → Happens old new (event.Want node length longest peer) result
  unfolding kept_event
  want_happens length longest peer (Ok told) tells s k most f =
      let e : Event = event.Want node length longest peer in
      let m : TellingDone new.world next s k node e told = tells s k most (node_goes old s k most f.goes f.below node f.fit.0 keeper got) f.fit in
      record {
        choice = m.choice;
        occurs = m.occurs;
        report_is = m.report_is;
        goes = put_goes old new s k most f.goes f.below node f.fit.0 same_plan next put (kept.Plain e) m.choice m.occurs m.stands _ refl m.keeps;
      }
  want_happens length longest peer (Err why) tells s k most f = tells s k most (node_goes old s k most f.goes f.below node f.fit.0 keeper got) f.fit

  -- a return
  pub return_happens : (prefix : AddressBlock) (peer : ℕ) (result : Result Report WorldStop) → Tells old.world new.world keeper next node (event.Return node prefix peer) result
      → Happens old new (event.Return node prefix peer) result
  unfolding kept_event
  return_happens prefix peer (Ok told) tells s k most f =
      let e : Event = event.Return node prefix peer in
      let m : TellingDone new.world next s k node e told = tells s k most (node_goes old s k most f.goes f.below node f.fit.0 keeper got) f.fit in
      record {
        choice = m.choice;
        occurs = m.occurs;
        report_is = m.report_is;
        goes = put_goes old new s k most f.goes f.below node f.fit.0 same_plan next put (kept.Plain e) m.choice m.occurs m.stands _ refl m.keeps;
      }
  return_happens prefix peer (Err why) tells s k most f = tells s k most (node_goes old s k most f.goes f.below node f.fit.0 keeper got) f.fit

-- another event
module _ (old new : KeptWorld) (e : Event) (quiet : (s : Setting) (k : KeptState) (x : WorldState) → disks_after s k e x ≡ k.disks) (same_plan : new.plan ≡ old.plan) (same_keepers : new.keepers ≡ old.keepers) where
  pub quiet_happens : (result : Result Report WorldStop) → Stepped old.world new.world e result → Happens old new e result
  unfolding kept_event
  quiet_happens (Ok told) stepped s k most f =
      let a : Reported (WorldStands new.world) s k.world e told = stepped (network_at s k.world) (meets old.world s k.world e f.goes.world f.fit) in
      record {
        choice = a.choice;
        occurs = a.occurs;
        report_is = a.report_is;
        goes = record {
          good = subst (λ (p : WorldPlan). IsGoodPlan p) (sym same_plan) f.goes.good;
          setting = f.goes.setting ∙ ap script_setting (sym same_plan);
          world = a.stands;
          keepers = subst (λ (d : List (List ℕ)). KeepersStand s d new.keepers.items) (sym (quiet s k (after_event s k.world e a.choice)))
              (subst (λ v. KeepersStand s k.disks v.items) (sym same_keepers) f.goes.keepers);
          kept = (steps s k most f.goes.kept f.below (kept.Plain e) a.choice a.occurs).then_stands;
        };
      }
  quiet_happens (Err why) stepped s k most f = (stepped (network_at s k.world) (meets old.world s k.world e f.goes.world f.fit)).may_stop

-- ---- a crash

module _ (old : KeptWorld) (mid : World) (node calls : ℕ) (left : Left) (keeper cut : DiskKeeper) (got : slice_get old.keepers.items (node - 1) ≡ Some keeper)
    (done : Unit {0}) (until : CallsUntil old.world mid keeper cut node calls (Ok done)) (roots : List RootPrefix) (roots_is : roots ≡ script_roots old.plan.roots node) where
  module _ (s : Setting) (k : KeptState) (most : ℕ) (f : CrashFits old s k most node) where
    call_was : CallCut mid cut s k node calls
    call_was = until s k most (node_goes old s k most f.goes f.below node f.member keeper got)

    abbrev content : List ℕ
    content = bytes_left s k node calls left call_was.choice

    crash_was : Crashed s k most f.goes.kept f.below node f.member calls left call_was.choice (is_cut k node calls)
    crash_was = crashed s k most f.goes.kept f.below node f.member calls left call_was.choice (is_cut k node calls) call_was.comes

    own_roots : roots ≡ roots_of s node
    own_roots =
        roots_is
        ∙ sym (roots_are old.plan node (subst (λ (t : Setting). IsNode (length t.members) node) f.goes.setting f.member))
        ∙ ap (λ (t : Setting). roots_of t node) (sym f.goes.setting)

    begins : Begins mid cut s (world_crashed s k node calls call_was.choice) node left roots content
    begins =
        subst (λ (r : List RootPrefix). Begins mid cut s (world_crashed s k node calls call_was.choice) node left r content) (sym own_roots)
        (record { stands = call_was.stands; leaves = call_was.leaves left; sound = crash_was.sound; may = crash_was.may })

  pub can_begin : CanCrash old node → CanBegin mid cut node left roots
  can_begin can = record {
    setting = can.setting;
    network = world_crashed can.setting can.state node calls (call_was can.setting can.state can.most can.fits).choice;
    content = content can.setting can.state can.most can.fits;
    begins = begins can.setting can.state can.most can.fits;
  }

  pub crash_ends : (new : KeptWorld) (next : DiskKeeper) (image : PoolImage) → new.plan ≡ old.plan → new.keepers.items ≡ slice_set old.keepers.items (node - 1) next
      → BeginsAnew mid new.world cut node left roots (Ok (next, image)) → Crashes old new node calls left (Ok image)
  unfolding kept_event
  crash_ends new next image same_plan put begun s k most f =
      let c : CallCut mid cut s k node calls = call_was s k most f in
      let h : HasBegun new.world s (world_crashed s k node calls c.choice) node (roots_of s node) (bytes_left s k node calls left c.choice) next image =
      subst (λ (r : List RootPrefix). HasBegun new.world s (world_crashed s k node calls c.choice) node r (bytes_left s k node calls left c.choice) next image) (own_roots s k most f)
      (begun s (world_crashed s k node calls c.choice) (content s k most f) (begins s k most f)) in
      record {
        choice = c.choice;
        occurs = (f.member, c.comes);
        image_is = h.image_is;
        goes = put_goes old new s k most f.goes f.below node f.member same_plan next put (kept.Crash node calls left) c.choice (f.member, c.comes) h.stands _ refl h.keeps;
      }

  -- the node doesn't begin anew
  pub crash_fails : (after : World) (new : KeptWorld) (why : WorldStop) → BeginsAnew mid after cut node left roots (Err why) → Crashes old new node calls left (Err why)
  crash_fails after new why begun s k most f =
      subst (λ (y : WorldStop). KeptMayStop s k (kept.Crash node calls left) y) (sym (begun s (world_crashed s k node calls (call_was s k most f).choice) (content s k most f) (begins s k most f))) tt

-- the keeper is taken out, and another is put in its place
module _ (old : KeptWorld) (node calls : ℕ) (left : Left) (can : CanCrash old node) (i : ℕ) (at : i ≡ node - 1) (keeper : DiskKeeper) (read : keeper ≡ slice_index_or old.keepers.items i keeper)
    (mid : World) (kept : DiskKeeper) (done : Unit {0}) (until : CallsUntil old.world mid keeper kept node calls (Ok done)) (removed : DiskKeeper)
    (taken : removed ≡ slice_index_or (slice_set old.keepers.items i kept) i removed) (roots : List RootPrefix) (roots_is : roots ≡ script_roots old.plan.roots node) where
  removed_is : removed ≡ kept
  removed_is = taken ∙ put_there old.keepers.items i kept removed (has_place old node can i at)

  found : slice_get old.keepers.items (node - 1) ≡ Some keeper
  found = got old node can i at keeper read

  pub removed_begins : CanBegin mid removed node left roots
  removed_begins = subst (λ (k : DiskKeeper). CanBegin mid k node left roots) (sym removed_is) (can_begin old mid node calls left keeper kept found done until roots roots_is can)

  pub removed_ends : (new : KeptWorld) (next : DiskKeeper) (image : PoolImage) → new.plan ≡ old.plan → new.keepers.items ≡ insert (remove (slice_set old.keepers.items i kept) i) i next
      → BeginsAnew mid new.world removed node left roots (Ok (next, image)) → Crashes old new node calls left (Ok image)
  removed_ends new next image same_plan put begun =
      crash_ends old mid node calls left keeper kept found done until roots roots_is new next image same_plan
      (put
      ∙ put_back (slice_set old.keepers.items i kept) i next (subst (λ (n : ℕ). i < n) (sym (length-set old.keepers.items i kept)) (has_place old node can i at))
      ∙ put_twice old.keepers.items i kept next
      ∙ ap (λ (n : ℕ). slice_set old.keepers.items n next) at)
      (subst (λ (k : DiskKeeper). BeginsAnew mid new.world k node left roots (Ok (next, image))) removed_is begun)

  pub removed_fails : (after : World) (new : KeptWorld) (why : WorldStop) → BeginsAnew mid after removed node left roots (Err why) → Crashes old new node calls left (Err why)
  removed_fails after new why begun =
      crash_fails old mid node calls left keeper kept found done until roots roots_is after new why (subst (λ (k : DiskKeeper). BeginsAnew mid after k node left roots (Err why)) removed_is begun)

-- why the call stops the network
pub call_halts : (old new : KeptWorld) (mid : World) (node calls : ℕ) (left : Left) (keeper cut : DiskKeeper) → slice_get old.keepers.items (node - 1) ≡ Some keeper → (why : WorldStop)
    → CallsUntil old.world mid keeper cut node calls (Err why) → Crashes old new node calls left (Err why)
call_halts old new mid node calls left keeper cut got stop.TooMuch until s k most f = until s k most (node_goes old s k most f.goes f.below node f.member keeper got)
call_halts old new mid node calls left keeper cut got stop.OutOfMemory until s k most f = tt
