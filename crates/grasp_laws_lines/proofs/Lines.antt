-- What a line of a script with crashes or with doubters can mean has one line.
use Rattle.std.proofs.Common.{ℕ, ◌≤◌, [], ◌∷◌, refl, sym, ap, ◌∙◌}
use Rattle.std.specs.Prelude.{codes, decimal}
use Rattle.grasp_disk.specs.declared.left.Left.{Left}
use Rattle.grasp_disk.specs.declared.left.Left.TheVariants.{Old, New, Torn}
use Rattle.grasp_text.specs.Line.{prefix_word}
use Rattle.grasp_text.specs.Words.{joined}
use Rattle.grasp_text.proofs.Splitting.{joined_again}
use Rattle.grasp_script.proofs.ActLines.{Begun, each_has_one, node, whole_line}
use Rattle.grasp_script.proofs.WholeWords.{IsWord, number, prefix, spelled}
use Rattle.grasp_script_doubts.specs.Lines.{IsDoubtAct, IsDoubtLine, doubt_words}
use Rattle.grasp_script_doubts.specs.declared.line.DoubtLineAct.{DoubtLineAct}
use Rattle.grasp_script_doubts.specs.declared.line.DoubtLineAct.TheVariants as act
use Rattle.grasp_script_kept.specs.Lines.{crash_words, left_word}
use Rattle.grasp_laws_lines.specs.Lines.{doubt_line, EachCrashHasOneLine, EachDoubtActHasOneLine}

left_is : (left : Left) → IsWord (left_word left)
left_is Old = spelled (codes "old") refl refl
left_is New = spelled (codes "new") refl refl
left_is Torn = spelled (codes "torn") refl refl

pub each_crash_has_one_line : EachCrashHasOneLine
each_crash_has_one_line nodes n calls left few is fit =
    let begun : Begun (crash_words n calls left) = record { first = codes "crash"; rest = decimal n ∷ decimal calls ∷ left_word left ∷ []; parts = refl } in
    let w = whole_line (crash_words n calls left) begun (spelled (codes "crash") refl refl, (node nodes few n is, (number calls fit, (left_is left, tt)))) in
    (record { is_node = is; calls_fit = fit; is_text = w.1; spelled = w.0 }, λ text means. sym (joined_again text) ∙ ap joined means.spelled)

has_line : (nodes : ℕ) → nodes ≤ 255 → (a : DoubtLineAct) → IsDoubtAct nodes a → IsDoubtLine nodes (doubt_line a) a
has_line nodes few (act.Plain a) h = let l = (each_has_one nodes a few h.0).0 in record { ranges = h; text = l.text; spelled = l.spelled }
has_line nodes few (act.Doubter n) h =
    let begun : Begun (doubt_words (act.Doubter n)) = record { first = codes "doubter"; rest = decimal n ∷ []; parts = refl } in
    let w = whole_line (doubt_words (act.Doubter n)) begun (spelled (codes "doubter") refl refl, (node nodes few n h, tt)) in
    record { ranges = h; text = w.1; spelled = w.0 }
has_line nodes few (act.Ask n p peer) h =
    let begun : Begun (doubt_words (act.Ask n p peer)) = record { first = codes "ask"; rest = decimal n ∷ prefix_word p ∷ decimal peer ∷ []; parts = refl } in
    let w = whole_line (doubt_words (act.Ask n p peer)) begun (spelled (codes "ask") refl refl, (node nodes few n h.0, (prefix p h.1, (node nodes few peer h.2, tt)))) in
    record { ranges = h; text = w.1; spelled = w.0 }

pub each_doubt_act_has_one_line : EachDoubtActHasOneLine
each_doubt_act_has_one_line nodes a few h = (has_line nodes few a h, λ line means. sym (joined_again line) ∙ ap joined means.spelled)
