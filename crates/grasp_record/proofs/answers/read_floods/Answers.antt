use Rattle.std.proofs.Common.{rules, [], List, ℕ, sym, ap, ◌∙◌}
use Rattle.grasp_types.specs.declared.flood.FloodRead.{FloodRead}
use Rattle.grasp_script.specs.Answers.{flood_read_words}
use Rattle.grasp_record.specs.Answers.{IsFloodRead}
use Rattle.grasp_record.specs.Grammar.{each_at, flood_read_at}
use Rattle.grasp_record.proofs.AnswerLaws.{flood_reads_exact, flood_read_long}
use Rattle.grasp_text.specs.Reading.{Parsed}
use Rattle.grasp_record.proofs.Each.{goes_on, each_shorter, each_over, each_next}
use Rattle.grasp_record.proofs.answers.read_floods.Goals as goal

pub returns-in_err-next : goal.returns-in_err-next
returns-in_err-next c =
    let t = each_next IsFloodRead flood_read_words flood_read_at flood_reads_exact flood_read_long (λ r. r) c.loop-alloc.reads c.loop-alloc.words (each_at flood_read_at [] c.args.words.now) (search rules) c.loop-alloc.invariant in
    rw t (search rules)

pub loop-alloc-smaller : goal.loop-alloc-smaller
loop-alloc-smaller c = each_shorter IsFloodRead flood_read_words flood_read_at flood_reads_exact flood_read_long c.loop-alloc.words c.in_ok-next.next c.read_flood_read.new.words c.in_ok-next.ensures

pub loop-alloc-preserved : goal.loop-alloc-preserved
loop-alloc-preserved c =
    let before : List FloodRead = c.loop-alloc.reads in
    let left : List (List ℕ) = c.read_flood_read.new.words in
    let t = each_next IsFloodRead flood_read_words flood_read_at flood_reads_exact flood_read_long (λ r. r) before c.loop-alloc.words (each_at flood_read_at [] c.args.words.now) (search rules) c.loop-alloc.invariant in
    ap (λ (x : List FloodRead). each_at flood_read_at x left) c.in_ok-push.ensures.ok
    ∙ sym (t ∙ ap (λ (r : Parsed FloodRead). goes_on (each_at flood_read_at) before r) c.in_ok-next.ensures)

pub returns : goal.returns
returns c = each_over IsFloodRead flood_read_words flood_read_at flood_reads_exact flood_read_long (λ r. r) c.loop-alloc.reads c.loop-alloc.words (each_at flood_read_at [] c.args.words.now) (search rules) c.loop-alloc.invariant
