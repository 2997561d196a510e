-- No event begins a life or settles anything, and what was settled stays so.
use Rattle.std.proofs.Common.{◌≡◌, refl, sym, ◌∙◌, List, [], ◌∷◌, append-nil}
use Rattle.grasp_model_network.specs.Events.{after_event}
use Rattle.grasp_model_network.specs.Runs.{Happening, world_after}
use Rattle.grasp_model_network.specs.Setting.{Setting}
use Rattle.grasp_model_network.specs.World.{WorldState}
use Rattle.grasp_model_network.specs.declared.turn.Turn.TheVariants as turn
use Rattle.grasp_laws_network.proofs.Growing.{as_long, longer_by}
use Rattle.grasp_laws_network.proofs.Offers.{event_settled}
use Rattle.grasp_laws_network.proofs.SameLives.{event_lives, run_lives}
use Rattle.grasp_laws_network.proofs.Turning.{settle_by, restart_by}
use Rattle.grasp_laws_network.specs.Keeping.{IsLonger}
use Rattle.grasp_laws_network.specs.Lives.{EventsKeepLives, SettledStay}

run_settled : (s : Setting) (hs : List Happening) (w : WorldState) → (world_after s w hs).settled ≡ w.settled
unfolding world_after
run_settled s [] w = refl
run_settled s (h ∷ hs) w = run_settled s hs (after_event s w h.event h.choice) ∙ event_settled s w h.event h.choice

pub events_keep_lives : EventsKeepLives
events_keep_lives = record { lives = event_lives; settled = event_settled; run_lives = λ s w hs. run_lives s hs w; run_settled = λ s w hs. run_settled s hs w }

pub settled_stay : SettledStay
settled_stay s w (turn.Event e) c = ([], event_settled s w e c ∙ sym (append-nil w.settled))
settled_stay s w (turn.Settle node p) c =
    settle_by w node p (λ x. IsLonger w.settled x.settled) (as_long w.settled) (λ seat o here found. longer_by w.settled (o ∷ []))
settled_stay s w (turn.Restart node image) c =
    restart_by s w node image (λ x. IsLonger w.settled x.settled) (as_long w.settled) (λ seat m here found. as_long w.settled)
