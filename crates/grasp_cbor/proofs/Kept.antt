-- A reader that is fed byte by byte answers as one of all the bytes.
use Rattle.std.proofs.Common.{◌≡◌, ℕ, List, [], ◌∷◌, ◌++◌, length, Option, Some, None, Ok, Err, sym, subst, arith}
use Rattle.std.proofs.lemmas.List.{length-append, length_push, take_all, take-append-le}
use Rattle.grasp_cbor.specs.declared.walker.FaultName.{FaultName}
use Rattle.grasp_cbor.specs.declared.walker.FaultName.TheVariants as name
use Rattle.grasp_cbor.specs.declared.walker.WalkFault.TheVariants as walk_fault
use Rattle.grasp_cbor.specs.declared.walker.Taken.TheVariants.{More}
use Rattle.grasp_cbor.specs.declared.walker.Walk.{Walk}
use Rattle.grasp_cbor.specs.declared.read.ItemFault.{ItemFault}
use Rattle.grasp_cbor.specs.declared.read.ItemFault.TheVariants.{Malformed, NotText, TooDeep, TooLong, OutOfMemory}
use Rattle.grasp_cbor.specs.CanGoOn.{CanGoOnWithin}
use Rattle.grasp_cbor.specs.Ending.{IsTooLong, IsFaulty, IsPartial}
use Rattle.grasp_cbor.specs.ItemReader.{EndsWith, Keeps, bytes_with}
use Rattle.grasp_cbor.specs.Walking.{Took, Answers, limit_of, count_of}
use Rattle.grasp_cbor.proofs.Ending.{fault_stays}

faulty_stays : (s t : List ℕ) (limit : ℕ) (name : FaultName) (at : ℕ) → IsFaulty s limit name at → IsFaulty (s ++ t) limit name at
faulty_stays s t limit name at f = record { below = f.below; fault = fault_stays s t at name f.fault }

long_stays : (s t : List ℕ) (limit : ℕ) → IsTooLong s limit → IsTooLong (s ++ t) limit
long_stays s t limit h =
    let l = h.long in
    record { long = omega (arith, length-append s t); can_go_on = subst (λ x. CanGoOnWithin 16 x) (sym (take-append-le limit s t l)) h.can_go_on }

-- a fault stays, whatever follows
pub ends_stays : (s t : List ℕ) (limit : ℕ) (f : ItemFault) → EndsWith s limit f → EndsWith (s ++ t) limit f
ends_stays s t limit (Malformed at) h = faulty_stays s t limit name.Malformed at h
ends_stays s t limit (NotText at) h = faulty_stays s t limit name.NotText at h
ends_stays s t limit (TooDeep at) h = faulty_stays s t limit name.TooDeep at h
ends_stays s t limit TooLong h = long_stays s t limit h
ends_stays s t limit OutOfMemory h = h

pub taken_more : (old new : Walk) (s : List ℕ) (byte : ℕ) → new.limit ≡ old.limit → Answers old new s byte (Ok More) → IsPartial (s ++ byte ∷ []) (limit_of old)
taken_more old new s byte e h =
    let k = h.1 in
    let a = k.taken in
    let b = k.below in
    record { short = omega arith; can_go_on = h.0 }

pub taken_long : (old new : Walk) (s : List ℕ) (byte : ℕ) → Answers old new s byte (Err walk_fault.TooLong) → IsTooLong (s ++ byte ∷ []) (limit_of old)
taken_long old new s byte h =
    let k = h.1 in
    let len = length_push s byte in
    record { long = omega arith; can_go_on = subst (λ x. CanGoOnWithin 16 x) (sym (take_all old.limit (s ++ byte ∷ []) (omega arith))) h.0 }

-- after a fault nothing else is answered
pub kept_fault : (f : Option ItemFault) (fault : ItemFault) (walk : Walk) (s : List ℕ) → f ≡ Some fault → Keeps f walk s → EndsWith s (limit_of walk) fault × (count_of walk ≡ length s)
kept_fault f fault walk s e h = subst (λ x. Keeps x walk s) e h

-- as many bytes as are allowed
pub record IsCutShort (f : Option ItemFault) (old new : Walk) (s : List ℕ) (byte : ℕ) : Type 0 where
  pub long : IsTooLong (bytes_with f s byte) (limit_of old)
  pub count : count_of new ≡ length (bytes_with f s byte)

pub cut_short : (f : Option ItemFault) (old new : Walk) (s : List ℕ) (byte : ℕ) → f ≡ None → Keeps f old s → (Took old s → Answers old new s byte (Err walk_fault.TooLong)) → IsCutShort f old new s byte
cut_short None old new s byte e k h =
    let a = h k in
    record { long = taken_long old new s byte a; count = (let n = a.2 in omega (arith, length_push s byte)) }
cut_short (Some fault) old new s byte e k h = absurd cc
