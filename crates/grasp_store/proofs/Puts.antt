-- Bytes that are written and synced.
use Rattle.std.proofs.Common.{◌≡◌, ℕ, ◌+◌, ◌≤◌, true, List, length, sym, ap, subst}
use Rattle.grasp_disk.specs.Calls.{DiskState, wrote, synced, after_call}
use Rattle.grasp_disk.specs.Crashes.{Leaves, AtEachMoment, IsSettled, DifferIn}
use Rattle.grasp_disk.proofs.Bytes.{overlaid_differ}
use Rattle.grasp_disk.proofs.Leaving.{settled_leaves, synced_leaves, write_leaves}
use Rattle.grasp_store.specs.Saving.{put_calls}

-- a content that is the same differs nowhere
same_differ : (at count : ℕ) (bytes content : List ℕ) → content ≡ bytes → DifferIn at count bytes content
same_differ at count bytes content is = record { size = ap length is; rest = λ i d outside. ap (λ (l : List ℕ). Rattle.std.proofs.Common.get_or l i d) is }

-- a crash at any moment of them leaves the same bytes but at their place
pub put_moments : (s : DiskState) → IsSettled s → (at : ℕ) (new : List ℕ) → at + length new ≤ length s.bytes → AtEachMoment s (put_calls at new) (DifferIn at (length new) s.bytes)
unfolding AtEachMoment
put_moments s settled at new fits =
    ((λ content may. same_differ at (length new) s.bytes content (settled_leaves s settled content may), write_leaves s at new true fits settled), behind)
  where
    behind : Leaves (after_call (synced true) (after_call (wrote at new true) s)) (DifferIn at (length new) s.bytes)
    behind content may =
        subst (λ (l : List ℕ). DifferIn at (length new) s.bytes l) (sym (synced_leaves (after_call (wrote at new true) s) content may)) (overlaid_differ s.bytes at new fits)
