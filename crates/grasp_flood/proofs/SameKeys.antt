-- Two keys are equal exactly where they are one value.
use Rattle.std.specs.Bool.{Decides}
use Rattle.std.proofs.Common.{◌≡◌, true, sym, ap, ◌∙◌, rules}
use Rattle.grasp_flood.specs.declared.keys.FloodKey.{FloodKey}
use Rattle.grasp_flood.specs.Flood.{same_key}

same_key_means : (a b : FloodKey) → same_key a b ≡ true → a ≡ b
same_key_means a b e = search rules

same_key_itself : (a : FloodKey) → same_key a a ≡ true
same_key_itself a = search rules

pub same_key_decides : (a b : FloodKey) → Decides (same_key a b) (a ≡ b)
same_key_decides a b = (same_key_means a b, λ e. ap (λ x. same_key a x) (sym e) ∙ same_key_itself a)
