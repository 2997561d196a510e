-- Each address of a root is in hand, in every network that turns lead to and in which no node has begun anew.
use Rattle.std.proofs.Common.{◌≡◌, sym, ap, ◌∙◌, subst, arith, ℕ, ◌+◌, ◌≤◌, inl, List, length}
use Rattle.grasp_laws_network.proofs.Staying.{first_seats, one_same, seats_stay_each}
use Rattle.grasp_laws_network.proofs.Telling.{one_agent}
use Rattle.grasp_model_network.specs.Runs.{IsReached, first_world}
use Rattle.grasp_model_network.specs.Setting.{Setting}
use Rattle.grasp_model_network.specs.World.{WorldState}
use Rattle.grasp_laws_prefixes.proofs.Networks.{is_kept, in_run_where}
use Rattle.grasp_laws_prefixes.specs.Grounds.{Grounds}
use Rattle.grasp_laws_prefixes.proofs.BegunCalls.{is_begun}
use Rattle.grasp_laws_prefixes.proofs.FirstHeld.{root_held}
use Rattle.grasp_laws_prefixes.proofs.Keeping.{IsKeptIn, kept_in_hand, quiet_kept}
use Rattle.grasp_laws_prefixes.proofs.OwnKept.{agent_kept}
use Rattle.grasp_laws_prefixes.proofs.SettleKept.{settle_kept}
use Rattle.grasp_laws_prefixes.proofs.ToldKept.{told_kept}
use Rattle.grasp_laws_prefixes.specs.Hands.{IsRoot, AllAreInHand, NothingIsLost}

-- there are no fewer lives than members; and where there are no more, each address of a root is in hand
record AreKept (s : Setting) (w : WorldState) : Type 0 where
  lives : length s.members ≤ length w.seats
  kept : length w.seats ≡ length s.members → (a : ℕ) → IsRoot s a → IsKeptIn w a

-- what keeps the number of lives and what is in hand
still_kept : (s : Setting) (w y : WorldState) → length y.seats ≡ length w.seats → ((a : ℕ) → IsKeptIn w a → IsKeptIn y a) → AreKept s w → AreKept s y
still_kept s w y count goes k = record {
  lives = subst (λ n. length s.members ≤ n) (sym count) k.lives;
  kept = λ e a root. goes a (k.kept (sym count ∙ e) a root);
}

-- a restart adds a life
more_lives : (s : Setting) (w y : WorldState) → length y.seats ≡ length w.seats + 1 → AreKept s w → AreKept s y
more_lives s w y count k = record { lives = above (length s.members) (length w.seats) (length y.seats) k.lives count; kept = λ e. absurd (not_same (length s.members) (length w.seats) (length y.seats) k.lives count e) } where
  above : (m n k : ℕ) → m ≤ n → k ≡ n + 1 → m ≤ k
  above m n k h e = omega (arith, h, e)

  not_same : (m n k : ℕ) → m ≤ n → k ≡ n + 1 → k ≡ m → ⊥
  not_same m n k h e f = omega (arith, h, e, f)

no_less : (m n : ℕ) → n ≡ m → m ≤ n
no_less m n e = omega (arith, e)

module _ (l : Grounds) (s : Setting) where
  -- turns that leave whose each life is leave their number
  same_count : (w y : WorldState) → IsReached s w → IsReached s y → y.lives ≡ w.lives → length y.seats ≡ length w.seats
  same_count w y r q e = sym (l.lives s y q).count ∙ (ap (λ (ns : List ℕ). length ns) e ∙ (l.lives s w r).count)

  all_kept : (w : WorldState) → IsReached s w → AreKept s w
  all_kept w r = is_kept l s (AreKept s) (record {
    quiet = λ x y p g said k. still_kept s x y g.count (quiet_kept l s x y p g said) k;
    agent = λ x y p q a c k. still_kept s x y (same_count x y p q a.lives) (agent_kept l s x y p q a c (is_begun l s x y p a c)) k;
    told = λ x y e p t k. still_kept s x y (one_same x y (one_agent s x e y t)) (told_kept l s x y e p t) k;
    settles = λ x y node p u t k. still_kept s x y t.count (settle_kept l s x y node p u t) k;
    restarts = λ x y node image u t k. more_lives s x y t.count k;
  }) (record { lives = no_less (length s.members) (length (first_world s).seats) (first_seats s); kept = λ e a root. inl (root.0, root_held s r.good root.0 a root.1) }) w r

  all_in_hand : (w : WorldState) → IsReached s w → length w.seats ≡ length s.members → AllAreInHand s w
  all_in_hand w r count a root = kept_in_hand l s w r a ((all_kept w r).kept count a root)

-- no event begins a life
pub nothing_is_lost : Grounds → NothingIsLost
nothing_is_lost l = record {
  reached = all_in_hand l;
  run = λ s hs good run. in_run_where s (AllAreInHand s) (λ w. length w.seats ≡ length s.members) (λ w r count. all_in_hand l s w r count) (λ w e c count. seats_stay_each s w e c ∙ count) hs good (first_seats s) run;
}
