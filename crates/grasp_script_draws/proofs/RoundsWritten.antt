-- A script as far as its rounds are written.
use Rattle.std.proofs.Common.{◌≡◌, ℕ, ◌+◌, suc, add-one, List, [], ◌++◌, Result, Ok, Err, IfOk, refl, sym, ap, ◌∙◌, append_assoc, append-nil}
use Rattle.grasp_script_draws.specs.Generator.{Draws, lines_text, round_lines, draws_from, number_behind, rounds, drawn_after}
use Rattle.grasp_script_draws.proofs.LinesWritten.{lines_pushed}

rounds_grown : (i x : ℕ) → rounds (suc i) x ≡ rounds i x ++ round_lines (i + 1) (draws_from (number_behind i x))
unfolding rounds
rounds_grown i x = refl

numbers_grown : (i x : ℕ) → number_behind (suc i) x ≡ drawn_after 4 (number_behind i x)
unfolding number_behind
numbers_grown i x = refl

pub none_written : (old new : List ℕ) (h : List (List ℕ)) (x : ℕ) → old ≡ [] → new ≡ old ++ lines_text h → new ≡ lines_text (h ++ rounds 0 x)
unfolding rounds
none_written old new h x e p = p ∙ ap (λ (o : List ℕ). o ++ lines_text h) e ∙ ap lines_text (sym (append-nil h))

-- one round more
pub round_written : (i x last : ℕ) (out new : List ℕ) (h : List (List ℕ)) (d : Draws) → out ≡ lines_text (h ++ rounds i x) → last ≡ number_behind i x → d ≡ draws_from last
    → new ≡ out ++ lines_text (round_lines (i + 1) d) → new ≡ lines_text (h ++ rounds (i + 1) x)
round_written i x last out new h d e n draws p =
    lines_pushed [] out new (h ++ rounds i x) (round_lines (i + 1) d) e p
    ∙ ap lines_text (append_assoc h (rounds i x) (round_lines (i + 1) d) ∙ ap (λ (t : List (List ℕ)). h ++ t) same)
  where
    same : rounds i x ++ round_lines (i + 1) d ≡ rounds (i + 1) x
    same = ap (λ (z : Draws). rounds i x ++ round_lines (i + 1) z) (draws ∙ ap draws_from n) ∙ sym (rounds_grown i x) ∙ ap (λ (k : ℕ). rounds k x) (sym (add-one i))

-- four draws lead from the number behind the rounds so far to the number behind one round more
pub numbers_drawn : (i x last new : ℕ) → last ≡ number_behind i x → new ≡ drawn_after 4 last → new ≡ number_behind (i + 1) x
numbers_drawn i x last new n p = p ∙ ap (drawn_after 4) n ∙ sym (numbers_grown i x) ∙ ap (λ (k : ℕ). number_behind k x) (sym (add-one i))

pub all_written : {E : Type 0} (r : Result (List ℕ) E) (a b : List ℕ) → IfOk r (λ t. t ≡ a) → a ≡ b → IfOk r (λ t. t ≡ b)
all_written (Ok t) a b h e = h ∙ e
all_written (Err x) a b h e = tt
