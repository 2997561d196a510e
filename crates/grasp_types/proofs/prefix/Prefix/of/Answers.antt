use Rattle.std.proofs.Common.{rules, ◌≡◌, ℕ, ◌-◌, ◌%◌, ◌∙◌, ap, subst}
use Rattle.std.proofs.lemmas.Nat.{pow_pos}
use Rattle.grasp_types.specs.Prefix.{size_of}
use Rattle.grasp_types.proofs.Multiples.{multiple_of_mod, mod_of_multiple}
use Rattle.grasp_types.proofs.prefix.Prefix.of.Goals as goal

pub returns-then-address-address_count-ne0-clause-none : goal.returns-then-address-address_count-ne0-clause-none
returns-then-address-address_count-ne0-clause-none c v =
    c.if-address-address_count-ne0.true (ap (λ (n : ℕ). c.args.address % n) c.address_count.ensures ∙ mod_of_multiple (size_of c.args.length) c.args.address (pow_pos (128 - c.args.length)) v.aligned)

pub invariant_of-result : goal.invariant_of-result
invariant_of-result c =
    let e : c.args.address % size_of c.args.length ≡ 0 = subst (λ (n : ℕ). c.args.address % n ≡ 0) c.address_count.ensures c.if-address-address_count-ne0.false
    in record { least = search rules; most = search rules; within = search rules; aligned = multiple_of_mod (size_of c.args.length) c.args.address e }

pub returns-clause-valid : goal.returns-clause-valid
returns-clause-valid c = invariant_of-result c
