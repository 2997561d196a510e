use Rattle.std.proofs.Common.{◌-◌, ◌^◌, sym, subst, bit_and, bit_xor}
use Rattle.grasp_types.specs.Prefix.{IsPrefix}
use Rattle.grasp_pool.specs.Spans.{size}
use Rattle.grasp_pool.proofs.Buddies.{are_halves, buddy_valid, of_three, parent_bits, buddy_bits, parent_made, buddy_made}
use Rattle.grasp_pool.proofs.halves.halves_of.Goals as goal

pub prefix_at-parent-requires : goal.prefix_at-parent-requires
prefix_at-parent-requires c =
    let p = c.args.prefix
    in let v = c.size_of-half.ensures.valid
    in of_three (λ h a l. IsPrefix (bit_and a (2 ^ 128 - 1 - h)) (l - 1)) (size p) p.address p.length _ _ _
    c.size_of-half.ensures.value c.address-address.ensures.value c.length-length.ensures.value
    (subst (λ n. IsPrefix n (p.length - 1)) (sym (parent_bits p v c.requires)) (are_halves p v c.requires).valid)

pub prefix_at-buddy-requires : goal.prefix_at-buddy-requires
prefix_at-buddy-requires c =
    let p = c.args.prefix
    in let v = c.size_of-half.ensures.valid
    in of_three (λ h a l. IsPrefix (bit_xor a h) l) (size p) p.address p.length _ _ _
    c.size_of-half.ensures.value c.address-address.ensures.value c.length-length.ensures.value
    (subst (λ n. IsPrefix n p.length) (sym (buddy_bits p v)) (buddy_valid p v c.requires))

pub returns-clause-parent : goal.returns-clause-parent
returns-clause-parent c = parent_made c.args.prefix c.prefix_at-parent.result c.size_of-half.result c.address-address.result c.length-length.result c.size_of-half.ensures.valid c.requires
    c.size_of-half.ensures.value c.address-address.ensures.value c.length-length.ensures.value c.prefix_at-parent.ensures

pub returns-clause-buddy : goal.returns-clause-buddy
returns-clause-buddy c = buddy_made c.args.prefix c.prefix_at-buddy.result c.size_of-half.result c.address-address.result c.length-length.result c.size_of-half.ensures.valid
    c.size_of-half.ensures.value c.address-address.ensures.value c.length-length.ensures.value c.prefix_at-buddy.ensures
