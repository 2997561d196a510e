use Rattle.grasp_quick.proofs.Spelled.{found_is}
use Rattle.grasp_quick.proofs.PackedLines.{known_locator_packs, no_locator_packs}
use Rattle.grasp_quick.proofs.packed.locators.pack_locator_or_none.Goals as goal

pub returns-in-Some : goal.returns-in-Some
returns-in-Some c =
    no_locator_packs c.args.line.now c.in-Some.rest.now c.args.bytes.now c.put_head.new.self c.in-Some.ensures c.in_ok-put_head.ensures

pub returns : goal.returns
returns c =
    found_is _ _ c.pack_locator.result c.pack_locator.ensures
    (λ rest h. known_locator_packs c.args.line.now rest.now c.args.bytes.now c.pack_locator.new.bytes h)
