-- What is asked and answered.
use Rattle.std.proofs.Common.{◌≡◌, ◌≢◌, ◌==◌, ◌<◌, ◌+◌, ℕ, List, [], ◌∷◌, ◌++◌, All, Bool, true, false, map, take, length, get_or, Option, None, Some, refl, sym, ap, ◌∙◌, subst, append-nil, inr, Result, Ok, Err, OnOk, IfSome, unwrap_or, codes}
use Rattle.std.proofs.KnownBytes.{Appends-nil, Consumes-trans, Appends-trans}
use Rattle.std.proofs.lemmas.List.Elements.{All-nil, All-cons, All-append}
use Rattle.std.specs.Io.KnownBytes.{Consumes, Appends}
use Rattle.grasp_client.specs.Lines.{IsLine, AreLinesOf, text_of, RunsOut, Copies, GotLine, GotRest}
use Rattle.std.proofs.lemmas.List.{take_more, map-append}
use Rattle.grasp_client.specs.declared.task.Question.{Question}
use Rattle.grasp_client.specs.declared.task.Question.TheVariants.{Version}
use Rattle.grasp_client.specs.declared.task.Task.{Task}
use Rattle.grasp_client.specs.declared.task.Task.TheVariants as task
use Rattle.grasp_client.specs.Asking.{status_lines, question_words, Asks, Awaits, is_answer_to, no_question, one_more, Heard, TurnOf, Dialogue, CopiesAll, Follows, Talks, Conversed}
use Rattle.grasp_client.proofs.Copying.{text_of-append, text_of-one, copies_none, copies_more, runs_out_behind}

-- no line yet that answers
pub no_answer_yet : (asked : List ℕ) → All (λ line. is_answer_to asked line ≡ false) []
no_answer_yet asked = All-nil (λ line. is_answer_to asked line ≡ false)

-- one more line that doesn't answer
pub no_answer_more : (asked line : List ℕ) (told : List (List ℕ)) → All (λ line. is_answer_to asked line ≡ false) told → is_answer_to asked line ≡ false
    → All (λ line. is_answer_to asked line ≡ false) (told ++ line ∷ [])
no_answer_more asked line told before this =
    let P : List ℕ → Type 0 = λ l. is_answer_to asked l ≡ false in
    All-append P told (line ∷ []) before (All-cons P line [] this (All-nil P))

-- the line is answered behind lines that don't answer it
pub heard : (asked line : List ℕ) (a b c x y z : Option (List ℕ)) (told : List (List ℕ)) → Copies a b x y told → All (λ line. is_answer_to asked line ≡ false) told
    → Copies b c y z (line ∷ []) → is_answer_to asked line ≡ true → Heard asked a c x z
heard asked line a b c x y z told first others last answers = record {
  told = told ++ line ∷ [];
  copies = copies_more a b c x y z told (line ∷ []) first last;
  answered = record { before = told; answer = line; told_is = refl; others = others; answers = answers };
}

-- nothing was asked yet
pub no_dialogue : (s a x : Option (List ℕ)) → Dialogue [] s s a a x x
no_dialogue s a x = record { told = []; sent = Appends-nil s; copies = copies_none a x; answered = no_question }

-- one more line was asked and answered
pub dialogue_more : (asked : List (List ℕ)) (line : List ℕ) (s t u a b c x y z : Option (List ℕ)) → Dialogue asked s t a b x y → TurnOf line t u b c y z
    → Dialogue (asked ++ line ∷ []) s u a c x z
dialogue_more asked line s t u a b c x y z first next =
    let same = ap (λ l. text_of asked ++ l) (sym (text_of-one line)) ∙ sym (text_of-append asked (line ∷ [])) in
    record {
      told = first.told ++ next.heard.told;
      sent = subst (Appends s u) same (Appends-trans s t u _ _ first.sent next.sent);
      copies = copies_more a b c x y z first.told next.heard.told first.copies next.heard.copies;
      answered = one_more first.answered next.heard.answered;
    }

-- one more question was asked and answered
pub questions_more : (questions : List Question) (i : ℕ) (words : List ℕ) (s t u a b c x y z : Option (List ℕ)) → i < length questions
    → words ≡ question_words (get_or questions i Version) → Dialogue (map question_words (take i questions)) s t a b x y → TurnOf words t u b c y z
    → Dialogue (map question_words (take (i + 1) questions)) s u a c x z
questions_more questions i words s t u a b c x y z lt is first next =
    let before = map question_words (take i questions) in
    let this : map question_words (take (i + 1) questions) ≡ before ++ words ∷ [] =
    ap (map question_words) (take_more questions i Version lt) ∙ map-append question_words (take i questions) (get_or questions i Version ∷ [])
    ∙ ap (λ w. before ++ w ∷ []) (sym is) in
    subst (λ asked. Dialogue asked s u a c x z) (sym this) (dialogue_more before words s t u a b c x y z first next)

-- all is copied, of which nothing was left but a rest
pub copies_all : (a b c x y : Option (List ℕ)) (more : List (List ℕ)) (rest : List ℕ) → Copies a b x y more → GotRest b c rest → CopiesAll a c x y
copies_all a b c x y more rest copied got = record {
  more = more;
  rest = rest;
  taken = Consumes-trans a b c _ _ copied.taken got.taken;
  put = copied.put;
  are_lines = (copied.are_lines, got.is_line);
  runs_out = runs_out_behind a b c _ copied.taken got.runs_out;
}

-- what is so of what was heard is so of the same line
pub answer_is : (asked seen line : List ℕ) (r b : Bool) → seen ≡ line → r ≡ is_answer_to asked seen → r ≡ b → is_answer_to asked line ≡ b
answer_is asked seen line r b same is was = ap (is_answer_to asked) (sym same) ∙ sym is ∙ was

-- ---- the lines of an input

-- one more line was taken
pub taken_more : (a b c : Option (List ℕ)) (lines : List (List ℕ)) (line : List ℕ) → Consumes a b (text_of lines) → GotLine b c line
    → Consumes a c (text_of (lines ++ line ∷ []))
taken_more a b c lines line first got =
    let same = ap (λ l. text_of lines ++ l) (sym (text_of-one line)) ∙ sym (text_of-append lines (line ∷ [])) in
    subst (Consumes a c) same (Consumes-trans a b c _ _ first got.taken)

pub lines_more : (lines : List (List ℕ)) (line : List ℕ) → All IsLine lines → IsLine line → All IsLine (lines ++ line ∷ [])
lines_more lines line first this = All-append IsLine lines (line ∷ []) first (All-cons IsLine line [] this (All-nil IsLine))

some_is : (y : List ℕ) → Some y ≡ Some [] → y ≡ []
some_is y e = ap (λ o. unwrap_or o y) e

-- what was taken up to the end is all
taken_all : (a c : Option (List ℕ)) (bytes : List ℕ) → Consumes a c bytes → RunsOut a c → IfSome a (λ all. all ≡ bytes)
taken_all None c bytes taken end = tt
taken_all (Some x) None bytes taken end = absurd taken
taken_all (Some x) (Some y) bytes taken end = taken ∙ ap (λ l. bytes ++ l) (some_is y end) ∙ append-nil bytes

of_some : (a : Option (List ℕ)) (P Q : List ℕ → Type 0) → ((x : List ℕ) → P x → Q x) → IfSome a P → IfSome a Q
of_some None P Q f p = tt
of_some (Some x) P Q f p = f x p

-- a rest of a length that isn't 0 is not empty
pub rest_is_some : (seen rest : List ℕ) (n : ℕ) (r : Bool) → seen ≡ rest → length seen ≡ n → r ≡ (n == 0) → r ≡ false → rest ≢ []
rest_is_some seen rest n r same len is isnt = λ empty.
    let zero : n ≡ 0 = sym len ∙ ap length (same ∙ empty) in
    let clash : true ≡ false = ap (λ m. m == 0) (sym zero) ∙ sym is ∙ isnt in
    cc

-- the lines that were taken, and a rest behind them
pub lines_with_rest : (a b c : Option (List ℕ)) (lines : List (List ℕ)) (rest : List ℕ) → Consumes a b (text_of lines) → All IsLine lines → GotRest b c rest
    → rest ≢ [] → IfSome a (λ text. AreLinesOf text (lines ++ rest ∷ []))
lines_with_rest a b c lines rest taken are got some =
    of_some a (λ all. all ≡ text_of lines ++ rest) (λ text. AreLinesOf text (lines ++ rest ∷ []))
    (λ text e. (lines_more lines rest are got.is_line, inr (lines, rest, some, refl, e)))
    (taken_all a c _ (Consumes-trans a b c _ _ taken got.taken) (runs_out_behind a b c _ taken got.runs_out))

-- ---- whole conversations

pub on_ok : {A E : Type 0} (r : Result A E) (P Q : Type 0) → (P → Q) → OnOk r P → OnOk r Q
on_ok (Ok a) P Q f p = f p
on_ok (Err e) P Q f p = tt

-- a line that has no end was asked last
pub talks_last : (input i0 i1 s t u a b c x y z : Option (List ℕ)) (asked : List (List ℕ)) (rest : List ℕ) → Consumes input i0 (text_of asked)
    → All IsLine asked → GotRest i0 i1 rest → rest ≢ [] → Dialogue asked s t a b x y → TurnOf rest t u b c y z → Talks input s u a c x z
talks_last input i0 i1 s t u a b c x y z asked rest taken are got some dialogue turn = record {
  asked = asked ++ rest ∷ [];
  are_lines = lines_with_rest input i0 i1 asked rest taken are got some;
  dialogue = dialogue_more asked rest s t u a b c x y z dialogue turn;
}

-- the lines were asked, and nothing is waited for
conversed_by : (of : Task) (input s t a b x y : Option (List ℕ)) (asked : List (List ℕ)) → Asks of input asked → Awaits of a b [] [] → Dialogue asked s t a b x y
    → Conversed of input s t a b x y
conversed_by of input s t a b x y asked asks awaits it = record {
  asked = asked;
  told = it.told;
  more = [];
  rest = [];
  asks = asks;
  sent = it.sent;
  answered = it.answered;
  taken = subst (Consumes a b) (sym (append-nil (text_of it.told))) it.copies.taken;
  put = subst (Appends x y) (sym (append-nil (text_of it.told))) it.copies.put;
  are_lines = (it.copies.are_lines, All-nil IsLine, All-nil _);
  awaits = awaits;
}

pub asked_status : (of : Task) (input s t a b x y : Option (List ℕ)) → of ≡ task.Status → Dialogue status_lines s t a b x y → Conversed of input s t a b x y
asked_status of input s t a b x y is it =
    subst (λ k. Conversed k input s t a b x y) (sym is) (conversed_by task.Status input s t a b x y status_lines refl (refl, refl) it)

pub talked : (of : Task) (input s t a b x y : Option (List ℕ)) → of ≡ task.Talk → Talks input s t a b x y → Conversed of input s t a b x y
talked of input s t a b x y is it =
    subst (λ k. Conversed k input s t a b x y) (sym is) (conversed_by task.Talk input s t a b x y it.asked it.are_lines (refl, refl) it.dialogue)

-- the line was asked, and all that followed was heard
conversed_to_the_end : (of : Task) (input s t a c x z : Option (List ℕ)) (line : List ℕ) → Asks of input (line ∷ [])
    → ((more : List (List ℕ)) (rest : List ℕ) → RunsOut a c → Awaits of a c more rest) → Follows line s t a c x z → Conversed of input s t a c x z
conversed_to_the_end of input s t a c x z line asks awaits it =
    let heard_it = it.turn.heard in
    let all = it.all in
    record {
      asked = line ∷ [];
      told = heard_it.told;
      more = all.more;
      rest = all.rest;
      asks = asks;
      sent = subst (Appends s t) (sym (text_of-one line)) it.turn.sent;
      answered = one_more no_question heard_it.answered;
      taken = Consumes-trans a it.left_between c _ _ heard_it.copies.taken all.taken;
      put = Appends-trans x it.put_between z _ _ heard_it.copies.put all.put;
      are_lines = (heard_it.copies.are_lines, all.are_lines.0, all.are_lines.1);
      awaits = awaits all.more all.rest (runs_out_behind a it.left_between c _ heard_it.copies.taken all.runs_out);
    }

pub heard_events : (of : Task) (input s t a c x z : Option (List ℕ)) → of ≡ task.Events → Follows (codes "events") s t a c x z
    → Conversed of input s t a c x z
heard_events of input s t a c x z is it =
    subst (λ k. Conversed k input s t a c x z) (sym is) (conversed_to_the_end task.Events input s t a c x z (codes "events") refl (λ more rest out. out) it)

pub heard_the_stop : (of : Task) (input s t a c x z : Option (List ℕ)) → of ≡ task.Stop → Follows (codes "stop") s t a c x z
    → Conversed of input s t a c x z
heard_the_stop of input s t a c x z is it =
    subst (λ k. Conversed k input s t a c x z) (sym is) (conversed_to_the_end task.Stop input s t a c x z (codes "stop") refl (λ more rest out. out) it)
