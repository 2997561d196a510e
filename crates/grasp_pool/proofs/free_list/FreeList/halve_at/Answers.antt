use Rattle.std.proofs.Common.{◌≡◌, Contains, subst, sym}
use Rattle.grasp_types.specs.Prefix.{AddressBlock as Prefix}
use Rattle.grasp_pool.specs.Canonical.{lower, upper}
use Rattle.grasp_pool.proofs.Splitting.{AreParts, lower_parts, upper_parts, half_new}
use Rattle.grasp_pool.proofs.free_list.FreeList.halve_at.Goals as goal

pub insert-requires-clause-is_new : goal.insert-requires-clause-is_new
insert-requires-clause-is_new c =
    let w = c.args.whole
    in let parts : AreParts w (lower w) (upper w) = lower_parts w c.requires.valid c.requires.short
    in subst (λ (p : Prefix). (q : Prefix) → Contains c.args.self.now q → ¬ (q.address ≡ p.address)) (sym c.parts_of-parts.ensures.upper)
    (half_new c.args.self.now w (lower w) (upper w) parts.halves parts.other c.requires.apart)

pub insert-requires-else-address-clause-is_new : goal.insert-requires-else-address-clause-is_new
insert-requires-else-address-clause-is_new c =
    let w = c.args.whole
    in let parts : AreParts w (upper w) (lower w) = upper_parts w c.requires.valid c.requires.short
    in subst (λ (p : Prefix). (q : Prefix) → Contains c.args.self.now q → ¬ (q.address ≡ p.address)) (sym c.parts_of-parts.ensures.lower)
    (half_new c.args.self.now w (upper w) (lower w) parts.halves parts.other c.requires.apart)
