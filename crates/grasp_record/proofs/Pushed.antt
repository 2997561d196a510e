-- Words behind words.
use Rattle.std.proofs.Common.{◌≡◌, ℕ, ◌+◌, List, [], ◌∷◌, ◌++◌, take, Some, Result, Ok, Err, refl, sym, ap, ◌∙◌, append_assoc}
use Rattle.std.specs.Prelude.{OnOk}
use Rattle.std.proofs.lemmas.List.{append-nil}
use Rattle.std.specs.List.{slice_get}
use Rattle.grasp_cbor.proofs.Places.{take_got}
use Rattle.grasp_types.specs.declared.traffic.Output.{Output}
use Rattle.grasp_text.specs.Words.{spaced, joined}
use Rattle.grasp_text.proofs.Pushed.{one_pushed, some_pushed, joined_spaced, extends_words, extends_later}
use Rattle.grasp_record.specs.Answers.{output_words, all_output_words}

pub ruleset pushes = (one_pushed, some_pushed, extends_words, extends_later)

-- ---- one more output

all_outputs-append : (xs ys : List Output) → all_output_words (xs ++ ys) ≡ all_output_words xs ++ all_output_words ys
all_outputs-append [] ys = refl
all_outputs-append (x ∷ xs) ys = ap (λ (t : List (List ℕ)). output_words x ++ t) (all_outputs-append xs ys) ∙ sym (append_assoc (output_words x) (all_output_words xs) (all_output_words ys))

pub outputs_step : (xs : List Output) (i : ℕ) (x : Output) (old out new : List ℕ) → slice_get xs i ≡ Some x → out ≡ old ++ spaced (all_output_words (take i xs)) → new ≡ out ++ spaced (output_words x) → new ≡ old ++ spaced (all_output_words (take (i + 1) xs))
outputs_step xs i x old out new e p q =
    some_pushed old out new (all_output_words (take i xs)) (output_words x) p q
    ∙ ap (λ (t : List (List ℕ)). old ++ spaced t) (sym (ap all_output_words (take_got xs i x e) ∙ all_outputs-append (take i xs) (x ∷ []) ∙ ap (λ (t : List (List ℕ)). all_output_words (take i xs) ++ t) (append-nil (output_words x))))

-- ---- a whole line

-- the node's number and the words behind it are the line
pub record_appended : {A E : Type 0} (r : Result A E) (w : List ℕ) (ws : List (List ℕ)) (old middle new : List ℕ) → middle ≡ old ++ w → OnOk r (new ≡ middle ++ spaced ws) → OnOk r (new ≡ old ++ joined (w ∷ ws))
record_appended (Ok x) w ws old middle new a b = b ∙ ap (λ (t : List ℕ). t ++ spaced ws) a ∙ append_assoc old w (spaced ws) ∙ ap (λ (t : List ℕ). old ++ t) (sym (joined_spaced w ws))
record_appended (Err e) w ws old middle new a b = tt
