-- Two values are equal exactly where they are one.
use Rattle.std.specs.Bool.{Decides}
use Rattle.std.proofs.Common.{◌≡◌, true, sym, ap, ◌∙◌, rules}
use Rattle.grasp_types.specs.declared.address.Address.{Address}
use Rattle.grasp_types.specs.declared.address.Locator.{Locator}
use Rattle.grasp_types.specs.declared.origin.Origin.{Origin}
use Rattle.grasp_types.specs.Same.{same_address, same_locator, same_origin}

same_address_means : (a b : Address) → same_address a b ≡ true → a ≡ b
same_address_means a b e = search rules

same_address_itself : (a : Address) → same_address a a ≡ true
same_address_itself a = search rules

pub same_address_decides : (a b : Address) → Decides (same_address a b) (a ≡ b)
same_address_decides a b = (same_address_means a b, λ e. ap (λ x. same_address a x) (sym e) ∙ same_address_itself a)

same_locator_means : (a b : Locator) → same_locator a b ≡ true → a ≡ b
same_locator_means a b e = search rules

same_locator_itself : (a : Locator) → same_locator a a ≡ true
same_locator_itself a = search rules

pub same_locator_decides : (a b : Locator) → Decides (same_locator a b) (a ≡ b)
same_locator_decides a b = (same_locator_means a b, λ e. ap (λ x. same_locator a x) (sym e) ∙ same_locator_itself a)

same_origin_means : (a b : Origin) → same_origin a b ≡ true → a ≡ b
same_origin_means a b e = search rules

same_origin_itself : (a : Origin) → same_origin a a ≡ true
same_origin_itself a = search rules

pub same_origin_decides : (a b : Origin) → Decides (same_origin a b) (a ≡ b)
same_origin_decides a b = (same_origin_means a b, λ e. ap (λ x. same_origin a x) (sym e) ∙ same_origin_itself a)
