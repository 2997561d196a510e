-- Rounds, one after the other.
use Rattle.std.proofs.Common.{◌≡◌, ℕ, List, [], ◌∷◌, ◌++◌, refl, sym, ap, ◌∙◌, subst, append_assoc, Bool}
use Rattle.std.proofs.lemmas.List.{append-nil}
use Rattle.grasp_disk.specs.Calls.{DiskLog}
use Rattle.grasp_shared.proofs.Adding.{adds_on, adds_nothing}
use Rattle.grasp_shared.specs.Adding.{Adds}
use Rattle.grasp_shelf.proofs.Keeping.{kept_none, kept_then}
use Rattle.grasp_shelf.specs.Shelves.{ShelfState, KeptOn}
use Rattle.grasp_service.proofs.Kept.{kept_same}
use Rattle.grasp_service.specs.Rounds.{Round, IsRound, Outside, TellsRound, TellsRounds, WentOn, Went, AreRounds, round_after, rounds_after}
use Rattle.grasp_service.specs.Rounds.{round_calls, all_round_calls, kept_round, kept_rounds}
use Rattle.grasp_service.specs.States.{ServiceState, state_of}
use Rattle.grasp_service.specs.declared.service.Service.{Service}

after_more : (s : ServiceState) (rs : List Round) (r : Round) → rounds_after s (rs ++ r ∷ []) ≡ round_after (rounds_after s rs) r
after_more s [] r = refl
after_more s (x ∷ rs) r = after_more (round_after s x) rs r

calls_more : (s : ServiceState) (rs : List Round) (r : Round) → all_round_calls s (rs ++ r ∷ []) ≡ all_round_calls s rs ++ round_calls (rounds_after s rs) r
calls_more s [] r = append-nil (round_calls s r)
calls_more s (x ∷ rs) r =
    ap (λ h. round_calls s x ++ h) (calls_more (round_after s x) rs r)
    ∙ sym (append_assoc (round_calls s x) (all_round_calls (round_after s x) rs) (round_calls (rounds_after (round_after s x) rs) r))

are_more : (s : ServiceState) (rs : List Round) (r : Round) → AreRounds s rs → IsRound (rounds_after s rs) r → AreRounds s (rs ++ r ∷ [])
are_more s [] r p q = (q, tt)
are_more s (x ∷ rs) r p q = (p.0, are_more (round_after s x) rs r p.1 q)

tells_more : (a b c : Outside) (s : ServiceState) (rs : List Round) (r : Round) → TellsRounds a s rs b → TellsRound b (rounds_after s rs) r c → TellsRounds a s (rs ++ r ∷ []) c
tells_more a b c s [] r p q = (c, subst (λ x. TellsRound x s r c) p q, refl)
tells_more a b c s (x ∷ rs) r p q = (p.0, p.1, tells_more p.0 b c (round_after s x) rs r p.2 q)

kept_more : (s : ServiceState) (rs : List Round) (r : Round) (log : DiskLog) → kept_rounds s (rs ++ r ∷ []) log ≡ kept_round (rounds_after s rs) r
    (kept_rounds s rs log)
kept_more s [] r log = refl
kept_more s (x ∷ rs) r log = kept_more (round_after s x) rs r (kept_round s x log)

module _ {B : Type 0} (stands : B → DiskLog → Type 0) (faults : B → ℕ) where
  -- no round yet
  pub went_none : (a : Service) (s : ShelfState B) (x : Outside) → Went stands faults a s x a s x
  went_none a s x = record { rounds = []; are = tt; adds = adds_nothing a.core; state = refl; tells = refl; kept = kept_none stands faults s }

  -- one round more
  pub went_more : (a b c : Service) (s t u : ShelfState B) (x y z : Outside) (stops : Bool) → Went stands faults a s x b t y
      → WentOn stands faults b t y stops c u z → Went stands faults a s x c u z
  went_more a b c s t u x y z stops p q = record {
    rounds = p.rounds ++ q.round ∷ [];
    are = are_more (state_of a) p.rounds q.round p.are (subst (λ k. IsRound k q.round) p.state q.is);
    adds =
        subst (λ h. Adds a.core h c.core) (sym (calls_more (state_of a) p.rounds q.round))
        (adds_on a.core b.core c.core _ _ p.adds (subst (λ k. Adds b.core (round_calls k q.round) c.core) p.state q.adds));
    state = q.state ∙ ap (λ k. round_after k q.round) p.state ∙ sym (after_more (state_of a) p.rounds q.round);
    tells = tells_more x y z (state_of a) p.rounds q.round p.tells (subst (λ k. TellsRound y k q.round z) p.state q.tells);
    kept = kept_same stands faults s u (λ log. kept_round (rounds_after (state_of a) p.rounds) q.round (kept_rounds (state_of a) p.rounds log))
        (kept_rounds (state_of a) (p.rounds ++ q.round ∷ []))
        (λ log. sym (kept_more (state_of a) p.rounds q.round log))
        (kept_then stands faults s t u (kept_rounds (state_of a) p.rounds) (kept_round (rounds_after (state_of a) p.rounds) q.round) p.kept
        (subst (λ k. KeptOn stands faults t (kept_round k q.round) u) p.state q.kept));
  }
