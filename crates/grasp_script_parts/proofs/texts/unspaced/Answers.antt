use Rattle.std.proofs.Common.{◌≡◌, ◌≢◌, ◌∷◌, List, ℕ, Some, None, arith}
use Rattle.std.proofs.lemmas.Str.Pattern.{strip_prefix_char}
use Rattle.grasp_script_parts.proofs.Blanks.{told_behind, told_whole}
use Rattle.grasp_script_parts.proofs.texts.unspaced.Goals as goal

pub returns-in-Some : goal.returns-in-Some
returns-in-Some c =
    let first : c.args.text.now ≡ 32 ∷ c.in-Some.rest.now = strip_prefix_char 32 c.args.text.now (Some c.in-Some.rest) c.in-Some.ensures.cases (omega arith) in
    λ words is. told_behind c.of.result c.args.text.now c.in-Some.rest.now words c.of.ensures first is

pub returns-in-None : goal.returns-in-None
returns-in-None c =
    let none : (rest : List ℕ) → c.args.text.now ≢ 32 ∷ rest = strip_prefix_char 32 c.args.text.now None c.in-None.ensures.cases (omega arith) in
    λ words is. told_whole c.of-in-None.result c.args.text.now words c.of-in-None.ensures none is
