-- A record's line means one thing at most, and is read as that.
use Rattle.std.proofs.Common.{◌≡◌, ℕ, ◌≤◌, List, [], ◌∷◌, ◌++◌, Ok, Err, refl, sym, ap, subst, ◌∙◌}
use Rattle.std.specs.Prelude.{codes}
use Rattle.std.specs.Str.{IsUtf8}
use Rattle.grasp_text.specs.Words.{words_of, joined}
use Rattle.grasp_text.proofs.Lawful.{ok_is}
use Rattle.grasp_text.proofs.Splitting.{joined_again}
use Rattle.grasp_script.proofs.ActLines.{whole_line}
use Rattle.grasp_record.specs.Answers.{told_words}
use Rattle.grasp_record.specs.Dividing.{IsDivided}
use Rattle.grasp_record.specs.Grammar.{record_at}
use Rattle.grasp_record.specs.Laws.{RecordLinesMeanOneThing, EachRecordHasOneLine}
use Rattle.grasp_record.specs.Records.{record_words, record_line, IsRecord, IsRecordLine, IsNoRecordLine}
use Rattle.grasp_record.specs.declared.line.RecordLine.{RecordLine}
use Rattle.grasp_record.proofs.Divided.{one_division}
use Rattle.grasp_record.proofs.InputLaws.{asked_words}
use Rattle.grasp_record.proofs.RecordLaws.{asked_of, record_only, record_found}
use Rattle.grasp_record.proofs.RecordWords.{record_whole, told_some}
use Rattle.grasp_record.proofs.Signs.{number, signless}

pub each_has_one : EachRecordHasOneLine
each_has_one nodes x few h =
    let w = whole_line (record_words x) (record { first = _; rest = _; parts = refl }) (record_whole nodes few x h) in
    (record { ranges = h; text = w.1; spelled = w.0 }, λ line is. sym (joined_again line) ∙ ap joined is.spelled)

-- a record's words are divided before its answer
divided : (nodes : ℕ) → nodes ≤ 255 → (x : RecordLine) → IsRecord nodes x → IsDivided (record_words x) (asked_words (asked_of x)) (told_words x.answer)
divided nodes few x h = record { parts = refl; before = refl; behind = told_some x.answer; first = (number x.now h.now, signless nodes few x.input h.input) }

-- the line is divided so
abbrev Divided : List ℕ → List (List ℕ) → List (List ℕ) → Type 0
Divided line front back = IsDivided (words_of line) front back

line_divided : (nodes : ℕ) → nodes ≤ 255 → (line : List ℕ) (x : RecordLine) → IsRecordLine nodes line x → Divided line (asked_words (asked_of x)) (told_words x.answer)
line_divided nodes few line x is = subst (λ (ws : List (List ℕ)). IsDivided ws (asked_words (asked_of x)) (told_words x.answer)) (sym is.spelled) (divided nodes few x is.ranges)

pub line_found : (nodes : ℕ) → nodes ≤ 255 → (line : List ℕ) (front back : List (List ℕ)) (x : RecordLine) → Divided line front back → IsRecordLine nodes line x → record_at nodes front back ≡ Ok (x, [])
line_found nodes few line front back x d is =
    let same = one_division (words_of line) front back (asked_words (asked_of x)) (told_words x.answer) d (line_divided nodes few line x is) in
    ap (λ (ws : List (List ℕ)). record_at nodes ws back) same.0 ∙ ap (record_at nodes (asked_words (asked_of x))) same.1 ∙ record_found nodes few x is.ranges

pub line_only : (nodes : ℕ) → nodes ≤ 255 → (line : List ℕ) (front back : List (List ℕ)) (x : RecordLine) (left : List (List ℕ)) → Divided line front back → record_at nodes front back ≡ Ok (x, left) → IsRecordLine nodes line x
line_only nodes few line front back x left d e =
    let m = record_only nodes few front back (x, left) e in
    let words : words_of line ≡ record_words x = d.parts ∙ ap (λ (ws : List (List ℕ)). ws ++ codes "=" ∷ back) m.before ∙ ap (λ (ws : List (List ℕ)). asked_words (asked_of x) ++ codes "=" ∷ ws) m.behind in
    let one = each_has_one nodes x few m.ranges in
    let same : line ≡ record_line x = sym (joined_again line) ∙ ap joined words in
    record { ranges = m.ranges; text = subst IsUtf8 (sym same) one.0.text; spelled = words }

pub line_none : (nodes : ℕ) → nodes ≤ 255 → (line : List ℕ) (front back : List (List ℕ)) (n : ℕ) → Divided line front back → record_at nodes front back ≡ Err n → IsNoRecordLine nodes line
line_none nodes few line front back n d bad x is = let z = sym bad ∙ line_found nodes few line front back x d is in cc

pub line_undivided : (nodes : ℕ) → nodes ≤ 255 → (line : List ℕ) → ((front back : List (List ℕ)) → ¬ Divided line front back) → IsNoRecordLine nodes line
line_undivided nodes few line none x is = none (asked_words (asked_of x)) (told_words x.answer) (line_divided nodes few line x is)

pub lines_mean_one_thing : RecordLinesMeanOneThing
lines_mean_one_thing nodes line x y few p q =
    let d = line_divided nodes few line x p in
    let front = asked_words (asked_of x) in
    let back = told_words x.answer in
    ap (λ (z : RecordLine × List (List ℕ)). z.0) (ok_is (x, []) (y, []) (sym (line_found nodes few line front back x d p) ∙ line_found nodes few line front back y d q))
