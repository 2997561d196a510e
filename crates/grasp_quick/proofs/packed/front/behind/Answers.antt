use Rattle.std.proofs.Common.{ℕ, List, ◌≡◌, ◌++◌, length, take, sym, ap, ◌∙◌, arith}
use Rattle.std.proofs.lemmas.List.{take_more_same, take_all}
use Rattle.grasp_quick.proofs.PackedWords.{front_split}
use Rattle.grasp_quick.proofs.packed.front.behind.Goals as goal

pub loop-i-preserved : goal.loop-i-preserved
loop-i-preserved c =
    take_more_same c.split_at.result.0.now c.args.word.now c.loop-i.i 0 (omega arith) c.loop-i-test.true c.loop-i.invariant c.if-front-i.false

pub returns : goal.returns
returns c =
    let front : List ℕ = c.split_at.result.0.now in
    let word : List ℕ = c.args.word.now in
    let all : take c.loop-i.i front ≡ front = take_all c.loop-i.i front (omega arith) in
    let same : front ≡ word = sym all ∙ c.loop-i.invariant ∙ take_all c.loop-i.i word c.loop-i-test.false in
    front_split c.args.line.now word (length word) (sym c.split_at.ensures.front ∙ same)
    ∙ ap (λ (x : List ℕ). word ++ x) (sym c.split_at.ensures.back)
