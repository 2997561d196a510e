use Rattle.grasp_quick.proofs.Spelled.{found_is}
use Rattle.grasp_quick.proofs.PackedWords.{text_packs}
use Rattle.grasp_quick.proofs.packed.words.pack_text.Goals as goal

pub returns : goal.returns
returns c = found_is _ _ c.pack_escaped.result c.pack_escaped.ensures (λ rest h.
    text_packs c.args.line.now c.in_ok-escaped.escaped.now rest.now c.args.bytes.now c.pack_escaped.new.bytes c.in_ok-escaped.ensures h)
