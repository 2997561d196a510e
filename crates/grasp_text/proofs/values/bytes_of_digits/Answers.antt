use Rattle.std.proofs.Common.{◌≡◌, length, drop, sym, ap, ◌∙◌, arith}
use Rattle.std.proofs.lemmas.List.{take_at}
use Rattle.grasp_text.proofs.NumberWords.{some}
use Rattle.grasp_text.proofs.ValueWords.{bytes_of_spelled, bytes_of_none}
use Rattle.grasp_text.proofs.values.bytes_of_digits.Goals as goal

pub returns-then-read_digits : goal.returns-then-read_digits
returns-then-read_digits c =
    let read = c.read_digits.new.out in
    let long : length read ≡ c.resize.new.self.len = omega arith in
    ap some (take_at read (drop (length read) c.resize.new.self.items) c.resize.new.self.len long)
    ∙ sym (bytes_of_spelled c.args.digits.now read c.read_digits.ensures.fits (c.read_digits.ensures.found c.if-read_digits.true))

pub returns-else-read_digits : goal.returns-else-read_digits
returns-else-read_digits c = sym (bytes_of_none c.args.digits.now (c.read_digits.ensures.none c.if-read_digits.false))
