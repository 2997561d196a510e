use Rattle.std.proofs.Common.{◌∙◌, ◌++◌, refl, ap, length, string_bytes}
use Rattle.std.specs.Prelude.{codes}
use Rattle.std.proofs.lemmas.Option.{slice_get_read}
use Rattle.grasp_node_main.specs.Lines.{line_text, want_words}
use Rattle.grasp_node_main.proofs.Lining.{want_pushed}
use Rattle.grasp_node_main.proofs.lines.push_wants.Goals as goal

pub loop-place-preserved : goal.loop-place-preserved
loop-place-preserved c =
    let wants = c.args.wants.now in
    let i = c.loop-place.place in
    let want = c.index-wants-place.result in
    let ended = c.end_at.ensures in
    want_pushed wants c.args.ends.now i want (string_bytes c.args.out.now) (string_bytes c.loop-place.out) (string_bytes c.push_want_line.new.out)
    (slice_get_read wants (length wants) i want refl c.loop-place-test.true c.index-wants-place.is) c.loop-place.invariant (c.in_ok-push_want_line.ensures ∙ ap (λ e. string_bytes c.loop-place.out ++ line_text (codes "want") (want_words want e)) ended)
