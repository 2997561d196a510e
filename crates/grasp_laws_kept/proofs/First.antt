-- The first state: nothing was written on the disks, and each pool is that of its member's roots.
use Rattle.std.proofs.Common.{◌≡◌, ℕ, zero, suc, ◌+◌, ◌-◌, List, [], length, Option, None, Some, refl, sym, ◌∙◌, ap, subst, arith}
use Rattle.std.specs.Prelude.{map, slice_index_or, unwrap_or}
use Rattle.std.proofs.lemmas.List.{length-map, length-replicate}
use Rattle.std.proofs.lemmas.Option.{none-some}
use Rattle.grasp_disk.specs.Calls.{disk_size, piece}
use Rattle.grasp_disk.specs.Memory.{zeros}
use Rattle.grasp_disk.proofs.Bytes.{at_piece}
use Rattle.grasp_pool.specs.Functions.{pool_of}
use Rattle.grasp_pool.specs.Holdings.{Holding}
use Rattle.grasp_pool.specs.declared.roots.RootPrefix.{RootPrefix}
use Rattle.grasp_store.specs.Current.{IsCurrent, IsSound, current_in, current_place, image_or, newer, number_of, saved_at}
use Rattle.grasp_store.specs.Slots.{Saved, gate_of, slot_in, slot_of, slot_size}
use Rattle.grasp_store.specs.declared.place.Place.{Place}
use Rattle.grasp_store.specs.declared.place.Place.TheVariants.{First, Second}
use Rattle.grasp_laws_network.proofs.Appended.{get_numbered, numbered_get}
use Rattle.grasp_laws_network.proofs.Lists.{numbered_there, slice_map}
use Rattle.grasp_laws_network.proofs.Lives.{first_present}
use Rattle.grasp_laws_prefixes.proofs.FirstPrefixes.{IsFirst, is_first}
use Rattle.grasp_model_network.proofs.Facts.{first_reached}
use Rattle.grasp_model_network.specs.GoodSetting.{IsGoodSetting}
use Rattle.grasp_model_network.specs.Plans.{IsNode}
use Rattle.grasp_model_network.specs.Runs.{first_world}
use Rattle.grasp_model_network.specs.Setting.{Member, Setting, numbered}
use Rattle.grasp_model_network.specs.World.{Seat, seat_at}
use Rattle.grasp_model_kept.specs.Disks.{member_roots, roots_of}
use Rattle.grasp_model_kept.specs.World.{disk_of, first_kept}
use Rattle.grasp_laws_kept.specs.Disks.{DiskStands}
use Rattle.grasp_laws_kept.specs.Laws.{KeptStands}

-- ---- a disk on which nothing was written

zero_at : (n i : ℕ) → slice_index_or (zeros n) i 0 ≡ 0
unfolding zeros
zero_at zero i = refl
zero_at (suc n) zero = refl
zero_at (suc n) (suc i) = zero_at n i

gate_zero : (n : ℕ) (place : Place) → slice_index_or (piece (zeros n) (gate_of place) slot_size) 0 0 ≡ 0
gate_zero n place = at_piece (zeros n) (gate_of place) slot_size 0 0 (omega arith) ∙ zero_at n (gate_of place + 0)

slot_closed : (slot : List ℕ) → slice_index_or slot 0 0 ≡ 0 → slot_of slot ≡ None
unfolding slot_of
slot_closed slot is = rw is refl

none_there : (n : ℕ) (place : Place) → slot_in (zeros n) place ≡ None
none_there n place = slot_closed (piece (zeros n) (gate_of place) slot_size) (gate_zero n place)

place_none : (n : ℕ) → current_place (zeros n) ≡ None
place_none n = ap (λ (o : Option Saved). newer o (slot_in (zeros n) Second)) (none_there n First) ∙ ap (λ (o : Option Saved). newer None o) (none_there n Second)

current_none : (n : ℕ) → current_in (zeros n) ≡ None
unfolding current_in
current_none n = ap (λ (o : Option Place). saved_at (zeros n) o) (place_none n)

zeros_sound : (n : ℕ) → n ≡ disk_size → IsSound (zeros n)
unfolding zeros
zeros_sound n is = record {
  size = length-replicate n 0 ∙ is;
  good = λ place x has. absurd (none-some x (sym (none_there n place) ∙ has));
  one = subst (λ (o : Option Saved). IsCurrent (zeros n) o) (sym (current_none n)) (none_there n First, none_there n Second);
}

pub zeros_stand : (n : ℕ) → n ≡ disk_size → (roots : List RootPrefix) → DiskStands roots (zeros n) (pool_of roots) 0
zeros_stand n is roots = record {
  holds = record { sound = zeros_sound n is; has = ap (image_or roots) (current_none n) };
  number = omega (arith, ap number_of (current_none n));
}

-- ---- the first state

pub member_of_roots : (s : Setting) (node : ℕ) (seat : Seat) → IsFirst s node seat → pool_of (roots_of s node) ≡ seat.agent.pool
member_of_roots s node seat f = ap (λ (o : Option Member). pool_of (member_roots o)) (get_numbered s.members node (Some f.member) f.least f.stands) ∙ sym f.pool

pub disk_there : (s : Setting) (node : ℕ) → IsNode (length s.members) node → disk_of (map (λ (m : Member). zeros disk_size) s.members) node ≡ zeros disk_size
disk_there s node is = at_member (numbered_there s.members node is) where
  at_member : (m : Member) × (numbered s.members node ≡ Some m) → disk_of (map (λ (m : Member). zeros disk_size) s.members) node ≡ zeros disk_size
  at_member f =
      ap (λ (o : Option (List ℕ)). unwrap_or o [])
      (get_numbered (map (λ (m : Member). zeros disk_size) s.members) node (Some (zeros disk_size)) is.least
      (slice_map (λ (m : Member). zeros disk_size) s.members (node - 1) f.0 (numbered_get s.members node f.0 f.1)))

pub first_stands : (s : Setting) → IsGoodSetting s → KeptStands s 0 (first_kept s)
unfolding first_kept
first_stands s good = record {
  reached = first_reached s good;
  disks = record {
    count = length-map s.members (λ (m : Member). zeros disk_size);
    each = λ node seat is here.
        let f : IsFirst s node seat = is_first s node seat (subst (λ (n : ℕ). seat_at (first_world s) n ≡ Some seat) (first_present s node is) here)
        in subst (λ (b : List ℕ). DiskStands (roots_of s node) b seat.agent.pool 0) (sym (disk_there s node is))
        (subst (λ (h : Holding). DiskStands (roots_of s node) (zeros disk_size) h 0) (member_of_roots s node seat f) (zeros_stand disk_size refl (roots_of s node)));
  };
}
