use Rattle.std.proofs.Common.{rules, ◌++◌, ◌∷◌, [], List, ℕ, sym, ap, ◌∙◌}
use Rattle.grasp_types.specs.declared.flood.FloodPart.{FloodPart}
use Rattle.grasp_text.specs.Grammar.{flood_parts_at, parts_at}
use Rattle.grasp_text.specs.Reading.{Parsed, ◌>>=◌}
use Rattle.grasp_text.proofs.ListLaws.{parts_over, parts_next, part_shorter}
use Rattle.grasp_text.proofs.lists.read_flood_parts.Goals as goal

pub returns-in_err-next : goal.returns-in_err-next
returns-in_err-next c =
    let t = parts_next c.loop-alloc.parts c.loop-alloc.words (flood_parts_at c.args.words.now) (search rules) c.loop-alloc.invariant in
    rw t (search rules)

pub loop-alloc-smaller : goal.loop-alloc-smaller
loop-alloc-smaller c = part_shorter c.loop-alloc.words c.in_ok-next.next c.read_flood_part-in-loop-alloc.new.words c.in_ok-next.ensures

pub loop-alloc-preserved : goal.loop-alloc-preserved
loop-alloc-preserved c =
    let before : List FloodPart = c.loop-alloc.parts in
    let left : List (List ℕ) = c.read_flood_part-in-loop-alloc.new.words in
    let t = parts_next before c.loop-alloc.words (flood_parts_at c.args.words.now) (search rules) c.loop-alloc.invariant in
    ap (λ (x : List FloodPart). parts_at x left) c.in_ok-push.ensures.ok
    ∙ sym (t ∙ ap (λ (r : Parsed FloodPart). r >>= λ next. parts_at (before ++ next.0 ∷ []) next.1) c.in_ok-next.ensures)

pub returns : goal.returns
returns c = parts_over c.loop-alloc.parts c.loop-alloc.words (flood_parts_at c.args.words.now) (search rules) c.loop-alloc.invariant
