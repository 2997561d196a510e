-- Networks that turns lead to, and one turn more.
use Rattle.std.proofs.Common.{◌≡◌, refl, sym, ap, ◌∙◌, subst, ℕ, false, List, [], ◌∷◌, ◌++◌}
use Rattle.grasp_model_network.proofs.Facts.{first_reached}
use Rattle.grasp_model_network.specs.Events.{Occurs, after_event}
use Rattle.grasp_model_network.specs.GoodSetting.{IsGoodSetting}
use Rattle.grasp_model_network.specs.Restarting.{MayRestart, after_restart}
use Rattle.grasp_model_network.specs.Runs.{Happening, IsRun, IsReached, first_world, world_after}
use Rattle.grasp_model_network.specs.Setting.{Setting}
use Rattle.grasp_model_network.specs.Settling.{IsDead, after_settle}
use Rattle.grasp_model_network.specs.Turns.{IsTurn, after_turn, TakenTurn, AreTurns, world_turned}
use Rattle.grasp_model_network.specs.Visits.{Choice, no_choice}
use Rattle.grasp_model_network.specs.World.{WorldState, is_too_much}
use Rattle.grasp_model_network.specs.declared.event.Event.{Event}
use Rattle.grasp_model_network.specs.declared.turn.Turn.{Turn}
use Rattle.grasp_model_network.specs.declared.turn.Turn.TheVariants as turn
use Rattle.grasp_pool.specs.declared.image.PoolImage.{PoolImage}
use Rattle.grasp_types.specs.Prefix.{AddressBlock as Prefix}
use Rattle.grasp_laws_network.proofs.Reached.{run_keeps, reached_keeps}
use Rattle.grasp_laws_network.proofs.Turning.{settle_by, restart_by}

-- ---- one turn more

after_more : (s : Setting) (ts : List TakenTurn) (w : WorldState) (t : TakenTurn) → world_turned s w (ts ++ t ∷ []) ≡ after_turn s (world_turned s w ts) t.turn t.choice
unfolding world_turned
after_more s [] w t = refl
after_more s (x ∷ xs) w t = after_more s xs (after_turn s w x.turn x.choice) t

turns_more : (s : Setting) (ts : List TakenTurn) (w : WorldState) (t : TakenTurn) → AreTurns s w ts → IsTurn s (world_turned s w ts) t.turn t.choice → AreTurns s w (ts ++ t ∷ [])
unfolding AreTurns world_turned
turns_more s [] w t run is = (is, tt)
turns_more s (x ∷ xs) w t run is = (run.0, turns_more s xs (after_turn s w x.turn x.choice) t run.1 is)

pub turned_reached : (s : Setting) (w : WorldState) (t : Turn) (c : Choice) → IsReached s w → IsTurn s w t c → IsReached s (after_turn s w t c)
turned_reached s w t c r is =
    let taken : TakenTurn = record { turn = t; choice = c } in
    record {
      good = r.good;
      turns = r.turns ++ taken ∷ [];
      run = turns_more s r.turns (first_world s) taken r.run (subst (λ (x : WorldState). IsTurn s x t c) r.last is);
      last = ap (λ (x : WorldState). after_turn s x t c) r.last ∙ sym (after_more s r.turns (first_world s) taken);
    }

pub reached_more : (s : Setting) (w : WorldState) (e : Event) (c : Choice) → IsReached s w → Occurs s w e c → IsReached s (after_event s w e c)
reached_more s w e c r o = turned_reached s w (turn.Event e) c r o

pub settled_reached : (s : Setting) (w : WorldState) (node : ℕ) (p : Prefix) → IsReached s w → IsDead w node p → IsReached s (after_settle w node p)
settled_reached s w node p r dead = turned_reached s w (turn.Settle node p) no_choice r dead

pub restarted_reached : (s : Setting) (w : WorldState) (node : ℕ) (image : PoolImage) → IsReached s w → MayRestart s w node image → IsReached s (after_restart s w node image)
restarted_reached s w node image r may = turned_reached s w (turn.Restart node image) no_choice r may

-- ---- what each turn keeps of a network that turns lead to

pub record ReachedTurnsKeep (s : Setting) (P : WorldState → Type 0) : Type 0 where
  pub events : (w : WorldState) (e : Event) (c : Choice) → IsReached s w → Occurs s w e c → P w → P (after_event s w e c)
  pub settles : (w : WorldState) (node : ℕ) (p : Prefix) → IsReached s w → IsDead w node p → P w → P (after_settle w node p)
  pub restarts : (w : WorldState) (node : ℕ) (image : PoolImage) → IsReached s w → MayRestart s w node image → P w → P (after_restart s w node image)

-- is so of each of them
pub reached_holds : (s : Setting) (P : WorldState → Type 0) → P (first_world s) → ReachedTurnsKeep s P → (w : WorldState) → IsReached s w → P w
reached_holds s P first keep w r = (reached_keeps s (λ x. IsReached s x × P x) (first_reached s r.good, first) (record {
  events = λ x e c o h. (reached_more s x e c h.0 o, keep.events x e c h.0 o h.1);
  settles = λ x node p dead h. (settled_reached s x node p h.0 dead, keep.settles x node p h.0 dead h.1);
  restarts = λ x node image may h. (restarted_reached s x node image h.0 may, keep.restarts x node image h.0 may h.1);
}) w r).1

-- ---- a run of events from the first network on

pub run_reached : (s : Setting) (hs : List Happening) → IsGoodSetting s → IsRun s (first_world s) hs → IsReached s (world_after s (first_world s) hs)
run_reached s hs good run = run_keeps s (IsReached s) (λ x e c o r. reached_more s x e c r o) hs (first_world s) run (first_reached s good)

-- ---- how much was sent

-- no more was sent than may be
pub not_too_much : (s : Setting) (w : WorldState) → IsReached s w → is_too_much w ≡ false
unfolding first_world
not_too_much s w r = reached_keeps s (λ x. is_too_much x ≡ false) refl (record {
  events = λ x e c o before. o.enough;
  settles = λ x node p dead before. settle_by x node p (λ y. is_too_much y ≡ false) before (λ seat o here found. before);
  restarts = λ x node image may before. restart_by s x node image (λ y. is_too_much y ≡ false) before (λ seat m here found. before);
}) w r
