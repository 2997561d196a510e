use Rattle.std.proofs.Common.{◌≡◌, ◌<◌, ◌≤◌, ◌-◌, ◌∙◌, ℕ, List, length, Option, Some, None, sym, ap, subst}
use Rattle.grasp_types.specs.Prefix.{AddressBlock as Prefix, IsPrefix}
use Rattle.grasp_pool.specs.Parts.{first_part}
use Rattle.grasp_pool.specs.Functions.{wide, head_part, rest_of, split_at}
use Rattle.grasp_pool.proofs.Equal.{wide_none, wide_some}
use Rattle.grasp_pool.proofs.Splitting.{CanSplit, part_is}
use Rattle.grasp_pool.proofs.TakingAt.{can_split, part_around}
use Rattle.grasp_pool.proofs.free_list.FreeList.carve.Goals as goal

pub prefix_at-part-requires : goal.prefix_at-part-requires
prefix_at-part-requires c =
    let w = c.remove-whole.result
    in let short : w.length ≤ c.args.length = subst (λ (q : Prefix). q.length ≤ c.args.length) (sym c.remove-whole.ensures.value) (c.in-Some.ensures.1 w)
    in let part = part_around c.args.self.now w c.args.length c.requires.tidy (c.in-Some.i, c.in-Some.ensures.0, sym c.remove-whole.ensures.value) short c.requires.most
    in subst (λ (a : ℕ). IsPrefix a c.args.length) (sym c.address.ensures.value) part.0

can : (c : goal.After-split_to-arg-1) → CanSplit c.remove-whole.new.self c.remove-whole.result c.prefix_at-part.result
can c =
    let w = c.remove-whole.result
    in let short : w.length ≤ c.args.length = subst (λ (q : Prefix). q.length ≤ c.args.length) (sym c.remove-whole.ensures.value) (c.in-Some.ensures.1 w)
    in let part = part_around c.args.self.now w c.args.length c.requires.tidy (c.in-Some.i, c.in-Some.ensures.0, sym c.remove-whole.ensures.value) short c.requires.most
    in subst (λ (q : Prefix). CanSplit c.remove-whole.new.self w q) (sym (part_is w c.prefix_at-part.result c.address.result c.args.length c.prefix_at-part.ensures c.address.ensures.value))
    (can_split c.args.self.now c.remove-whole.new.self (first_part w c.args.length) w c.requires.tidy c.requires.room part.0 part.1 c.remove-whole.ensures.is)

pub split_to-requires-clause-tidy : goal.split_to-requires-clause-tidy
split_to-requires-clause-tidy c = (can c).tidy

pub split_to-requires-clause-room : goal.split_to-requires-clause-room
split_to-requires-clause-room c = (can c).room

pub split_to-requires-clause-apart : goal.split_to-requires-clause-apart
split_to-requires-clause-apart c = (can c).apart

none_found : (c : goal.In_default) → wide c.args.self.now c.args.length ≡ None
none_found c = wide_none c.args.self.now c.args.length c.in_default.ensures

pub returns-in_default-clause-reply : goal.returns-in_default-clause-reply
returns-in_default-clause-reply c = ap (λ (o : Option Prefix). head_part o c.args.length) (sym (none_found c))

pub returns-in_default-clause-after : goal.returns-in_default-clause-after
returns-in_default-clause-after c = ap (λ (o : Option Prefix). rest_of c.args.self.now c.args.length o) (sym (none_found c))

found : (c : goal.After-split_to) → wide c.args.self.now c.args.length ≡ Some c.remove-whole.result
found c =
    let p = c.remove-whole.result
    in let within : c.in-Some.i < length c.args.self.now = c.in-Some.ensures.0
    in wide_some c.args.self.now c.args.length c.in-Some.i p within c.in-Some.ensures.2 (c.in-Some.ensures.1 p) ∙ ap (λ (x : Prefix). Some x) (sym c.remove-whole.ensures.value)

is_part : (c : goal.After-split_to) → c.prefix_at-part.result ≡ first_part c.remove-whole.result c.args.length
is_part c = part_is c.remove-whole.result c.prefix_at-part.result c.address.result c.args.length c.prefix_at-part.ensures c.address.ensures.value

pub returns-clause-reply : goal.returns-clause-reply
returns-clause-reply c = ap (λ (x : Prefix). Some x) (is_part c) ∙ ap (λ (o : Option Prefix). head_part o c.args.length) (sym (found c))

pub returns-clause-after : goal.returns-clause-after
returns-clause-after c =
    let w = c.remove-whole.result
    in c.split_to.ensures ∙ ap (λ (q : Prefix). split_at (q.length - w.length) w q.address c.remove-whole.new.self) (is_part c)
    ∙ ap (λ (l : List Prefix). split_at (c.args.length - w.length) w w.address l) c.remove-whole.ensures.is
    ∙ ap (λ (o : Option Prefix). rest_of c.args.self.now c.args.length o) (sym (found c))
