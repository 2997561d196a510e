use Rattle.std.proofs.Common.{◌-◌, ◌+◌, List, ℕ, length, drop, take, sym, subst, arith, length-drop}
use Rattle.std.proofs.lemmas.List.{take_all}
use Rattle.grasp_text.specs.Words.{words_of}
use Rattle.grasp_record.specs.Dividing.{IsDivided}
use Rattle.grasp_record.proofs.Divided.{divided_here, undivided, if_none}
use Rattle.grasp_record.proofs.records.divided.Goals as goal

pub returns-in_err-at-clause-none : goal.returns-in_err-at-clause-none
returns-in_err-at-clause-none c = if_none c.from_residual.result (undivided c.args.line.now c.in_err-at.ensures)

pub returns-clause-some : goal.returns-clause-some
returns-clause-some c =
    let line : List ℕ = c.args.line.now in
    let at : ℕ = c.in_ok-at.at in
    let whole = take_all (length line - (at + 3)) (drop (at + 3) line) (omega (arith, length-drop (at + 3) line)) in
    subst (λ (t : List ℕ). IsDivided (words_of line) (words_of (take at line)) (words_of t)) (sym whole) (divided_here line at c.in_ok-at.ensures)
