use Rattle.std.proofs.Common.{refl}
use Rattle.grasp_quick.proofs.PackedWords.{value_packs, no_value_packs}
use Rattle.grasp_quick.proofs.packed.words.pack_optional_value.Goals as goal

pub returns-in-Some-clause-value : goal.returns-in-Some-clause-value
returns-in-Some-clause-value c =
    value_packs c.args.line.now c.in-Some.digits.now c.in_ok-rest.rest.now c.args.bytes.now c.pack_value.new.bytes c.in-Some.ensures
    c.in_ok-rest.ensures

pub returns-clause-value : goal.returns-clause-value
returns-clause-value c = no_value_packs c.args.line.now c.in_ok-rest-2.rest.now c.args.bytes.now _ c.in_ok-rest-2.ensures refl
