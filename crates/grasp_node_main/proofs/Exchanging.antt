-- The parts of a turn.
use Rattle.std.proofs.Common.{◌≤◌, refl, sym, ap, ◌∙◌, subst, arith, ℕ, ◌+◌, List, [], ◌∷◌, ◌++◌, Option}
use Rattle.grasp_cbor.proofs.Facts.Lists.{length_push}
use Rattle.grasp_io.specs.Told.{Grows}
use Rattle.grasp_shared.specs.Handles.{IsRootOf}
use Rattle.grasp_shared.specs.declared.shared.Root.{Root}
use Rattle.grasp_shared.specs.declared.shared.Shared.{Shared}
use Rattle.grasp_node_main.specs.Roots.{RootMade}
use Rattle.grasp_node_main.specs.Steps.{TakesIn, DrainsOut, Exchanges, Looped}
use Rattle.grasp_node_main.specs.Tells.{LinksTold, Told, told, HandsOnly}
use Rattle.grasp_node_main.specs.Turns.{closings, asking_calls, loop_call, outputs_in, closed_again, turn_calls, all_turn_calls}
use Rattle.grasp_types.specs.declared.traffic.Input.TheVariants as input
use Rattle.grasp_node_main.proofs.Histories.{turns_more, last_more, rising_more}
use Rattle.grasp_node_main.proofs.RootMaking.{made_on, made_nothing}
use Rattle.grasp_node_main.proofs.Told.{hands_on, tells_more}

-- what the links gave, a drain, and a closing
pub exchanged : (shared : Shared) (wait now : ℕ) (a b c : Root) (readings later : Option (List ℕ)) (x y z w : LinksTold) (away : Option ℕ) → Grows readings later now
    → TakesIn shared now wait a x away b y → DrainsOut shared now 64 b y c z → HandsOnly z (closings away) w → Exchanges shared wait a (told readings x) now c (told later w)
exchanged shared wait now a b c readings later x y z w away g t d k = record {
  turn = record { now = now; asking = t.asking; drained = d.drained };
  now_is = refl;
  made = made_on shared a b c (asking_calls now t.asking) (loop_call now (input.Drain 64) d.drained ∷ []) t.made d.made;
  tells = record {
    readings = g;
    asked = y;
    asks = t.asks;
    hands = hands_on y z w (outputs_in d.drained) (closed_again t.asking) d.hands (subst (λ os. HandsOnly z os w) t.away_is k);
  };
}

-- no turn yet
pub looped_none : (shared : Shared) (wait : ℕ) (root : Root) (now : Told) → IsRootOf shared root → Looped shared wait 0 root now 0 root now
looped_none shared wait root now own = record { turns = []; count_is = refl; now_is = refl; made = made_nothing shared root own; tells = refl; rising = tt }

-- one more turn
pub looped_more : (shared : Shared) (wait count before now : ℕ) (a b c : Root) (x y z : Told) → before ≤ now → Looped shared wait count a x before b y → Exchanges shared wait b y now c z → Looped shared wait (count + 1) a x now c z
looped_more shared wait count before now a b c x y z later l e = record {
  turns = l.turns ++ e.turn ∷ [];
  count_is = length_push l.turns e.turn ∙ ap (λ n. n + 1) l.count_is;
  now_is = sym e.now_is ∙ sym (last_more 0 l.turns e.turn);
  made = subst (λ h. RootMade shared a h c) (sym (turns_more l.turns e.turn)) (made_on shared a b c (all_turn_calls l.turns) (turn_calls e.turn) l.made e.made);
  tells = tells_more wait x y z l.turns e.turn l.tells e.tells;
  rising = rising_more 0 l.turns e.turn l.rising (omega (arith, later, l.now_is, e.now_is));
}
