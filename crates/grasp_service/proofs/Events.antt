-- The lines of events.
use Rattle.std.proofs.Common.{◌≡◌, ℕ, ◌+◌, suc, arith, List, [], ◌∷◌, ◌++◌, take, slice_get, Some, sym, ap, ◌∙◌, append_assoc}
use Rattle.std.proofs.lemmas.List.{append-nil}
use Rattle.grasp_crew.specs.Seats.{SeatState}
use Rattle.grasp_desk.specs.declared.desk.Told.{Told}
use Rattle.grasp_node_main.proofs.Lining.{front_more}
use Rattle.grasp_service.specs.States.{heard_event, event_told, events_told}

-- one more in front
front : {A : Type 0} (xs : List A) (i : ℕ) (x : A) → slice_get xs i ≡ Some x → take (i + 1) xs ≡ take i xs ++ x ∷ []
front xs i x at = let next : i + 1 ≡ suc i = omega arith in ap (λ k. take k xs) next ∙ front_more xs i x at

events_both : (seats : List SeatState) (xs : List (List ℕ)) (x : List ℕ) → events_told seats (xs ++ x ∷ []) ≡ events_told seats xs ++ event_told seats x
events_both seats [] x = append-nil (event_told seats x)
events_both seats (y ∷ xs) x = ap (λ l. event_told seats y ++ l) (events_both seats xs x) ∙ sym (append_assoc (event_told seats y) (events_told seats xs) (event_told seats x))

-- one event more
pub events_more : (seats : List SeatState) (events : List (List ℕ)) (i : ℕ) (x : List ℕ) (a b c : List Told) → slice_get events i ≡ Some x → b ≡ a ++ events_told seats (take i events)
    → c ≡ b ++ event_told seats x → c ≡ a ++ events_told seats (take (i + 1) events)
events_more seats events i x a b c at p q =
    q ∙ ap (λ l. l ++ event_told seats x) p ∙ append_assoc a (events_told seats (take i events)) (event_told seats x)
    ∙ ap (λ l. a ++ l) (sym (events_both seats (take i events) x) ∙ ap (λ l. events_told seats l) (sym (front events i x at)))

line_both : (ss : List SeatState) (s : SeatState) (line : List ℕ) → event_told (ss ++ s ∷ []) line ≡ event_told ss line ++ heard_event s line
line_both [] s line = append-nil (heard_event s line)
line_both (t ∷ ss) s line = ap (λ l. heard_event t line ++ l) (line_both ss s line) ∙ sym (append_assoc (heard_event t line) (event_told ss line) (heard_event s line))

-- one seat more
pub line_more : (seats : List SeatState) (line : List ℕ) (i : ℕ) (s : SeatState) (a b c : List Told) → slice_get seats i ≡ Some s → b ≡ a ++ event_told (take i seats) line
    → c ≡ b ++ heard_event s line → c ≡ a ++ event_told (take (i + 1) seats) line
line_more seats line i s a b c at p q =
    q ∙ ap (λ l. l ++ heard_event s line) p ∙ append_assoc a (event_told (take i seats) line) (heard_event s line)
    ∙ ap (λ l. a ++ l) (sym (line_both (take i seats) s line) ∙ ap (λ ss. event_told ss line) (sym (front seats i s at)))

-- a seat that hears of no events
pub unheard : (a : List Told) → a ≡ a ++ []
unheard a = sym (append-nil a)
