-- What may begin has room.
use Rattle.std.proofs.Common.{◌≡◌, ℕ, ◌+◌, ◌<◌, ◌≤◌, List, length, Option, Some, None, ◌⊎◌, inl, inr, sym, subst, arith}
use Rattle.grasp_cbor.specs.Encodes.{string_major}
use Rattle.grasp_cbor.specs.Major.{major_number, major_of}
use Rattle.grasp_cbor.specs.declared.heads.StringKind.{StringKind}
use Rattle.grasp_cbor.specs.declared.heads.Major.{Major}
use Rattle.grasp_cbor.specs.declared.heads.Major.TheVariants.{Array, Map, Tag}
use Rattle.grasp_cbor.specs.declared.walker.Level.{Level}
use Rattle.grasp_cbor.specs.Front.{can_break}
use Rattle.grasp_cbor.specs.Step.{first_name}
use Rattle.grasp_cbor.specs.Room.{levels_of}
use Rattle.grasp_cbor.proofs.Majors.{major_number-major_of}
use Rattle.grasp_cbor.proofs.Moves.{is_clear, chunk_clear, string_below}

has_levels : (major : Major) (d : ℕ) → (3 < major_number major → major_number major < 7 → d < 16) → d ≤ 16 → d + levels_of major ≤ 16
has_levels Array d h l = let k : d < 16 = h (omega arith) (omega arith) in omega arith
has_levels Map d h l = let k : d < 16 = h (omega arith) (omega arith) in omega arith
has_levels Tag d h l = let k : d < 16 = h (omega arith) (omega arith) in omega arith
has_levels _ d h l = omega arith

no_level : (kind : StringKind) (k d : ℕ) → (k ≡ string_major kind) ⊎ (k ≡ 7) → 3 < k → k < 7 → d < 16
no_level kind k d (inl e) p q = absurd (let l = string_below kind in omega arith)
no_level kind k d (inr e) p q = absurd (omega arith)

chunk_or_break : (kind : StringKind) (k info : ℕ) → ((k ≡ string_major kind) × (info < 28)) ⊎ ((k ≡ 7) × (info ≡ 31)) → (k ≡ string_major kind) ⊎ (k ≡ 7)
chunk_or_break kind k info (inl h) = inl h.0
chunk_or_break kind k info (inr h) = inr h.0

has_room : (levels : List Level) (string : Option StringKind) (k info : ℕ) → k < 8 → info < 32 → first_name levels string k info ≡ None → 3 < k → k < 7 → length levels < 16
has_room levels None k info l i e = (is_clear (length levels) (can_break levels) k info l i e).room
has_room levels (Some kind) k info l i e = no_level kind k (length levels) (chunk_or_break kind k info (chunk_clear kind k info e))

pub begins_with_room : (levels : List Level) (string : Option StringKind) (d k info : ℕ) → length levels ≡ d → k < 8 → info < 32 → d ≤ 16 → first_name levels string k info ≡ None → d + levels_of (major_of k) ≤ 16
begins_with_room levels string d k info q l i h e =
    has_levels (major_of k) d (subst (λ x. 3 < x → x < 7 → d < 16) (sym (major_number-major_of k l)) (λ a b. let r = has_room levels string k info l i e a b in omega arith)) h
