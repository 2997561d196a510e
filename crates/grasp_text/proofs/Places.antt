-- A line goes wrong at one place.
use Rattle.std.proofs.Common.{◌≡◌, ℕ, ◌-◌, ◌⊎◌, inl, inr, List, [], ◌∷◌, ◌++◌, length, Ok, Err, refl, sym, ap, subst, ◌∙◌, append_assoc}
use Rattle.grasp_types.specs.declared.message.Message.{Message}
use Rattle.grasp_text.specs.Grammar.{message_at}
use Rattle.grasp_text.specs.Laws.{HasMessage, GoesWrong, LinesAreMessagesOrBad}
use Rattle.grasp_text.specs.Line.{CanBegin}
use Rattle.grasp_text.specs.Place.{IsPlace, IsUnfit}
use Rattle.grasp_text.specs.Reading.{Parsed}
use Rattle.grasp_text.specs.Words.{words_of, joined}
use Rattle.grasp_text.proofs.Lines.{line_only, line_none, line_place}

begins_less : (a b : List (List ℕ)) → CanBegin (a ++ b) → CanBegin a
begins_less a b c = record { message = c.message; more = b ++ c.more; whole = c.whole; words = c.words ∙ append_assoc a b c.more }

-- of two parts of one list one begins the other
pub record Longer (a b : List (List ℕ)) (w : List ℕ) : Type 0 where
  pub more : List (List ℕ)
  pub is : b ≡ (a ++ w ∷ []) ++ more

shorter : (a b : List (List ℕ)) (v w : List ℕ) (r s : List (List ℕ)) → a ++ v ∷ r ≡ b ++ w ∷ s → (a ≡ b) ⊎ (Longer a b v ⊎ Longer b a w)
shorter [] [] v w r s e = inl refl
shorter [] (y ∷ b) v w r s e = inr (inl (record { more = b; is = cc e }))
shorter (x ∷ a) [] v w r s e = inr (inr (record { more = a; is = cc e }))
shorter (x ∷ a) (y ∷ b) v w r s e =
    let head : x ≡ y = cc e in
    elim (shorter a b v w r s (cc e)) [
      | inl same ↦ inl (ap (λ z. z ∷ a) head ∙ ap (λ z. y ∷ z) same)
      | inr longer ↦ elim longer [
        | inl l ↦ inr (inl (record { more = l.more; is = ap (λ z. y ∷ z) l.is ∙ ap (λ z. z ∷ ((a ++ v ∷ []) ++ l.more)) (sym head) }))
        | inr l ↦ inr (inr (record { more = l.more; is = ap (λ z. x ∷ z) l.is ∙ ap (λ z. z ∷ ((b ++ w ∷ []) ++ l.more)) head }))
      ]
    ]

too_far : (a b : List (List ℕ)) (v : List ℕ) → Longer a b v → CanBegin b → ¬ CanBegin (a ++ v ∷ []) → ⊥
too_far a b v l begins none = none (begins_less (a ++ v ∷ []) l.more (subst CanBegin l.is begins))

unfit_one : (words front other : List (List ℕ)) (v w : List ℕ) (r s : List (List ℕ)) → IsUnfit words front v r → IsUnfit words other w s → front ≡ other
unfit_one words front other v w r s x y =
    elim (shorter front other v w r s (sym x.parts ∙ y.parts)) [
      | inl same ↦ same
      | inr longer ↦ elim longer [
        | inl l ↦ absurd (too_far front other v l y.before x.none)
        | inr l ↦ absurd (too_far other front w l x.before y.none)
      ]
    ]

rest_behind : (front : List (List ℕ)) (w : List ℕ) (rest words : List (List ℕ)) → words ≡ front ++ w ∷ rest → CanBegin words → CanBegin (front ++ w ∷ [])
rest_behind front w rest words e begins = begins_less (front ++ w ∷ []) rest (subst CanBegin (e ∙ sym (append_assoc front (w ∷ []) rest)) begins)

pub place_one : (line : List ℕ) (a b : ℕ) → IsPlace line a → IsPlace line b → a ≡ b
place_one line a b (inl x) (inl y) = x.place ∙ ap (λ front. length (joined (front ++ [] ∷ []))) (unfit_one (words_of line) x.front y.front x.word y.word x.rest y.rest x.unfit y.unfit) ∙ sym y.place
place_one line a b (inl x) (inr y) = absurd (x.unfit.none (rest_behind x.front x.word x.rest (words_of line) x.unfit.parts y.before))
place_one line a b (inr x) (inl y) = absurd (y.unfit.none (rest_behind y.front y.word y.rest (words_of line) y.unfit.parts x.before))
place_one line a b (inr x) (inr y) = x.place ∙ sym y.place

by_reading : (line : List ℕ) (r : Parsed Message) → message_at (words_of line) ≡ r → HasMessage line ⊎ GoesWrong line
by_reading line (Ok x) e = inl (record { message = x.0; is_line = line_only line x.0 x.1 e })
by_reading line (Err n) e =
    let place = line_place line n e in
    inr (record { at = length line - n; none = line_none line n e; place = place; only = λ other is. place_one line other (length line - n) is place })

pub line_or_bad : LinesAreMessagesOrBad
line_or_bad line = by_reading line (message_at (words_of line)) refl
