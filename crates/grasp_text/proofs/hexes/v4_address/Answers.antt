use Rattle.std.proofs.Common.{◌≡◌, ◌^◌, length, sym, ap, ◌∙◌, arith}
use Rattle.std.specs.Int.{w32, byte_len}
use Rattle.grasp_text.specs.Reading.{v4_of}
use Rattle.grasp_text.proofs.HexWords.{wide32, hex_of_bytes, hex_no_bytes, hex_other_length}
use Rattle.grasp_text.proofs.NumberWords.{some}
use Rattle.grasp_text.proofs.hexes.v4_address.Goals as goal
use Rattle.grasp_text.proofs.hexes.v4_address.Goals.{else-word-eq8-via-then-word-eq8+else-read_digits, else-word-eq8-via-else-word-eq8}

pub returns-then-read_digits : goal.returns-then-read_digits
unfolding v4_of
returns-then-read_digits c =
    let long : length c.read_digits.new.out ≡ byte_len w32 = omega arith in
    ap some c.from_be_bytes.ensures
    ∙ sym (hex_of_bytes w32 c.args.word.now c.read_digits.new.out long c.read_digits.ensures.fits (c.read_digits.ensures.found c.if-read_digits.true))

pub returns-else-word-eq8 : goal.returns-else-word-eq8
unfolding v4_of
returns-else-word-eq8 c = elim c.else-word-eq8.branch [
  | else-word-eq8-via-then-word-eq8+else-read_digits w ↦ sym (hex_no_bytes w32 (2 ^ 32) wide32 c.args.word.now (w.read_digits.ensures.none w.if-read_digits.false))
  | else-word-eq8-via-else-word-eq8 w ↦ sym (hex_other_length w32 (2 ^ 32) wide32 c.args.word.now (λ e. omega (arith, e, w.if-word-eq8.false)))
]
