-- Words behind words, and behind the beginning of an event's line.
use Rattle.std.proofs.Common.{◌≡◌, ℕ, List, [], ◌∷◌, ◌++◌, Result, Ok, Err, sym, ap, ◌∙◌, append_assoc}
use Rattle.std.specs.Prelude.{OnOk, codes, decimal}
use Rattle.std.proofs.lemmas.List.{append-nil}
use Rattle.grasp_text.specs.Words.{spaced}
use Rattle.grasp_text.proofs.Pushed.{one_pushed, some_pushed, extends_words, extends_later, spaced_append}
use Rattle.grasp_control.specs.Events.{event_line}

pub ruleset pushes = (one_pushed, some_pushed, extends_words, extends_later)

-- some words, and then more where there is memory
pub some_later : {A E : Type 0} (r : Result A E) (old middle new : List ℕ) (ws vs : List (List ℕ)) → middle ≡ old ++ spaced ws → OnOk r (new ≡ middle ++ spaced vs)
    → OnOk r (new ≡ old ++ spaced (ws ++ vs))
some_later (Ok a) old middle new ws vs p q = some_pushed old middle new ws vs p q
some_later (Err e) old middle new ws vs p q = tt

-- no words were appended
pub no_words : (old : List ℕ) → old ≡ old ++ spaced []
no_words old = sym (append-nil old)

-- the beginning of an event's line, and then its words
pub event_pushed : (old middle new : List ℕ) (now : ℕ) (ws : List (List ℕ)) → middle ≡ old ++ event_line now [] → new ≡ middle ++ spaced ws → new ≡ old ++ event_line now ws
event_pushed old middle new now ws p q =
    q ∙ ap (λ t. t ++ spaced ws) p ∙ append_assoc old (event_line now []) (spaced ws)
    ∙ ap (λ t. old ++ (event ++ t)) (sym (spaced_append (decimal now ∷ []) ws))
  where
    event : List ℕ
    event = codes "event"

pub ruleset begun = (event_pushed, extends_words, extends_later)
