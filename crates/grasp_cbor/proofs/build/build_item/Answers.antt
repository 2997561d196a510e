use Rattle.std.proofs.Common.{ap, sym, ◌∙◌, arith}
use Rattle.grasp_cbor.specs.Item.{data_item_of}
use Rattle.grasp_cbor.specs.Build.{item_at}
use Rattle.grasp_cbor.proofs.Whole.{is_found}
use Rattle.grasp_cbor.proofs.Again.{item_again}
use Rattle.grasp_cbor.proofs.build.build_item.Goals as goal

pub returns-clause-found : goal.returns-clause-found
returns-clause-found c = is_found (λ x. data_item_of x.0) (λ x. x.1.now) c.args.depth c.args.bytes.now c.read_whole.result (λ i. omega (arith, c.type_inv.bytes i)) c.read_whole.ensures

pub returns-clause-only : goal.returns-clause-only
returns-clause-only c = λ t s rest p h e. rw (sym (ap (item_at c.args.depth) e ∙ item_again t c.args.depth s rest p h)) c.read_whole.ensures
