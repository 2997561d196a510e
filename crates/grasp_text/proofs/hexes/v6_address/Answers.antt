use Rattle.std.proofs.Common.{◌≡◌, ◌^◌, length, sym, ap, ◌∙◌, arith}
use Rattle.std.specs.Int.{w128, byte_len}
use Rattle.grasp_text.specs.Reading.{v6_of}
use Rattle.grasp_text.proofs.HexWords.{wide128, hex_of_bytes, hex_no_bytes, hex_other_length}
use Rattle.grasp_text.proofs.NumberWords.{some}
use Rattle.grasp_text.proofs.hexes.v6_address.Goals as goal
use Rattle.grasp_text.proofs.hexes.v6_address.Goals.{else-word-eq32-via-then-word-eq32+else-read_digits, else-word-eq32-via-else-word-eq32}

pub returns-then-read_digits : goal.returns-then-read_digits
unfolding v6_of
returns-then-read_digits c =
    let long : length c.read_digits.new.out ≡ byte_len w128 = omega arith in
    ap some c.from_be_bytes.ensures
    ∙ sym (hex_of_bytes w128 c.args.word.now c.read_digits.new.out long c.read_digits.ensures.fits (c.read_digits.ensures.found c.if-read_digits.true))

pub returns-else-word-eq32 : goal.returns-else-word-eq32
unfolding v6_of
returns-else-word-eq32 c = elim c.else-word-eq32.branch [
  | else-word-eq32-via-then-word-eq32+else-read_digits w ↦ sym (hex_no_bytes w128 (2 ^ 128) wide128 c.args.word.now (w.read_digits.ensures.none w.if-read_digits.false))
  | else-word-eq32-via-else-word-eq32 w ↦ sym (hex_other_length w128 (2 ^ 128) wide128 c.args.word.now (λ e. omega (arith, e, w.if-word-eq32.false)))
]
