use Rattle.std.proofs.Common.{rules, ℕ, ◌<◌, List, arith}
use Rattle.std.specs.Prelude.{decimal}
use Rattle.grasp_text.proofs.Fronts.{number_front}
use Rattle.grasp_quick.proofs.PackedWords.{front_split, last_part}
use Rattle.grasp_quick.proofs.packed.front.front_number.Goals as goal

pub returns : goal.returns
returns c =
    let s : List ℕ = c.args.line.now in
    let read = c.front_digits-number in
    let some : 0 < read.result.1 = omega arith in
    let word = number_front s read.result.1 read.result.0 read.ensures.inside some read.ensures.digits read.ensures.value (omega arith) (search rules)
    in
    let split = front_split s (decimal read.result.0) read.result.1 word in
    let last = last_part s read.result.1 in
    cc
