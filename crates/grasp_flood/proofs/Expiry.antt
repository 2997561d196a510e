-- What an expiry leaves.
use Rattle.std.proofs.Common.{◌≡◌, ℕ, ◌<◌, true, nat_lt, Option, Some, None, IfSome, All, ltb-true}
use Rattle.std.proofs.lemmas.List.Elements.{filter_passes}
use Rattle.grasp_cbor.proofs.Facts.Lists.{filter_twice}
use Rattle.grasp_flood.specs.Floods.{Floods, is_after, after_expiry}

pub expiry_twice : (floods : Floods) (now : ℕ) → after_expiry (after_expiry floods now) now ≡ after_expiry floods now
expiry_twice floods now = λ i. record {
  entries = filter_twice (λ entry. is_after now entry.1.end) floods.entries i;
  memories = filter_twice (λ memory. nat_lt now memory.1) floods.memories i;
}

pub is_after_means : (now : ℕ) (last : Option ℕ) → is_after now last ≡ true → IfSome last (λ n. now < n)
is_after_means now None e = tt
is_after_means now (Some last) e = ltb-true now last e

pub nothing_ended : (floods : Floods) (now : ℕ)
    → All (λ entry. IfSome entry.1.end (λ last. now < last)) (after_expiry floods now).entries
    × All (λ memory. now < memory.1) (after_expiry floods now).memories
nothing_ended floods now = (
  λ k d h. is_after_means now _ (filter_passes (λ entry. is_after now entry.1.end) floods.entries k d h),
  λ k d h. ltb-true now _ (filter_passes (λ memory. nat_lt now memory.1) floods.memories k d h),
)
