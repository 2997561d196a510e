use Rattle.std.proofs.Common.{rules, ◌≡◌, ℕ, List, Option, Vec, Global, ap, subst, ◌∙◌}
use Rattle.std.specs.Prelude.{IfSome, IfNone}
use Rattle.grasp_cbor.specs.Bytes.{AllBytes}
use Rattle.grasp_text.specs.Line.{bytes_word}
use Rattle.grasp_text.proofs.NumberWords.{some}
use Rattle.grasp_record.proofs.OctetWords.{octets_spelled, octets_none}
use Rattle.grasp_record.proofs.inputs.octets.Goals as goal

pub returns-in-Some : goal.returns-in-Some
returns-in-Some c =
    let spelled = subst (λ (o : Option (Vec ℕ Global)). IfSome o (λ v. c.args.word.now ≡ bytes_word v.items)) c.in-Some.is c.in_ok-bytes.ensures.found in
    let same : c.deref.result.now ≡ c.in-Some.bytes.items = search rules in
    ap some c.from_vec.ensures ∙ octets_spelled c.args.word.now c.in-Some.bytes.items (subst AllBytes same c.are_bytes.ensures) spelled

pub returns-in-None : goal.returns-in-None
returns-in-None c = octets_none c.args.word.now (subst (λ (o : Option (Vec ℕ Global)). IfNone o ((b : List ℕ) → AllBytes b → ¬ (c.args.word.now ≡ bytes_word b))) c.in-None.is c.in_ok-bytes.ensures.none)
