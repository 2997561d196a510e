use Rattle.std.proofs.Common.{arith}
use Rattle.grasp_cbor.specs.declared.heads.StringKind.TheVariants as kinds
use Rattle.grasp_cbor.proofs.Leading.{string_some, string_fine, string_none}
use Rattle.grasp_cbor.proofs.front.read_text_string.Goals as goal

pub returns-clause-some : goal.returns-clause-some
returns-clause-some c = string_some kinds.Text (λ x. x.0.now) (λ x. x.1.now) c.args.bytes.now c.find_text_string.result (λ i. omega (arith, c.type_inv.bytes i)) c.find_text_string.ensures

pub returns-clause-utf8 : goal.returns-clause-utf8
returns-clause-utf8 c = string_fine kinds.Text (λ x. x.0.now) (λ x. x.1.now) c.args.bytes.now c.find_text_string.result (λ i. omega (arith, c.type_inv.bytes i)) c.find_text_string.ensures

pub returns-clause-none : goal.returns-clause-none
returns-clause-none c = string_none kinds.Text (λ x. x.0.now) (λ x. x.1.now) c.args.bytes.now c.find_text_string.result c.find_text_string.ensures
