use Rattle.std.proofs.Common.{◌∙◌, ap, ℕ, List}
use Rattle.std.specs.List.{insert, position_or_len}
use Rattle.std.specs.Prelude.{nat_le}
use Rattle.grasp_core.proofs.StreamNumbers.{number_put}
use Rattle.grasp_core.proofs.streams.put_number.Goals as goal

pub returns : goal.returns
returns c =
    c.in_ok-insert.ensures.items
    ∙ ap (λ (k : ℕ). insert c.args.numbers.now.items k c.args.number) (c.place_in-place.ensures.is ∙ ap (λ (xs : List ℕ). position_or_len (λ n. nat_le c.args.number n) xs) c.deref.ensures.value)
    ∙ number_put c.args.number c.args.numbers.now.items
