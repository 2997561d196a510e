use Rattle.std.proofs.Common.{rules, ◌≡◌, ◌+◌, ◌<◌, ◌^◌}
use Rattle.grasp_types.specs.Prefix.{IsPrefix}
use Rattle.grasp_pool.specs.Spans.{size}
use Rattle.grasp_pool.specs.Canonical.{lower}
use Rattle.grasp_pool.proofs.Dyadic.{lower_valid, upper_valid}
use Rattle.grasp_pool.proofs.Buddies.{of_three, lower_from, half_from}
use Rattle.grasp_simulator.proofs.images.halves_of.Goals as goal

pub prefix_at-lower-requires : goal.prefix_at-lower-requires
prefix_at-lower-requires c =
    let w = c.args.whole
    in of_three (λ h a l. IsPrefix a (l + 1)) 0 w.address w.length 0 _ _ (λ i. 0) c.address-address.ensures.value c.length-length.ensures.value
    (lower_valid w c.requires.short c.requires.valid)

is_half : (c : goal.After-size_of-half) → c.size_of-half.result ≡ size (lower c.args.whole)
is_half c =
    let w = c.args.whole
    in half_from w c.prefix_at-lower.result c.size_of-half.result c.size_of-half.ensures.value
    (lower_from w c.prefix_at-lower.result c.address-address.result c.length-length.result c.prefix_at-lower.ensures c.address-address.ensures.value c.length-length.ensures.value)

pub prefix_at-upper-requires : goal.prefix_at-upper-requires
prefix_at-upper-requires c =
    let w = c.args.whole
    in of_three (λ h a l. IsPrefix (a + h) (l + 1)) (size (lower w)) w.address w.length _ _ _ (is_half c) c.address-address.ensures.value c.length-length.ensures.value
    (upper_valid w c.requires.short c.requires.valid)

pub overflow_add-address : goal.overflow_add-address
overflow_add-address c =
    let b : c.address-address.result + c.size_of-half.result < 2 ^ 128 = (prefix_at-upper-requires c).within
    in search rules
