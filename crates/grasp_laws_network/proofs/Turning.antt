-- A settling and a restart by their cases: each leaves the network as it was where something isn't there.
use Rattle.std.proofs.Common.{◌≡◌, refl, ℕ, Option, Some, None}
use Rattle.grasp_agent.specs.Replies.{after_settling}
use Rattle.grasp_model_network.specs.Restarting.{restarted, restarted_by, after_restart}
use Rattle.grasp_model_network.specs.Setting.{Member, Setting, numbered}
use Rattle.grasp_model_network.specs.Settling.{offer_by, settled_by, after_settle}
use Rattle.grasp_model_network.specs.World.{Offered, Seat, WorldState, present_life, seat_at}
use Rattle.grasp_pool.specs.declared.image.PoolImage.{PoolImage}
use Rattle.grasp_types.specs.Prefix.{AddressBlock as Prefix}
use Rattle.grasp_laws_network.specs.Telling.{OneAgent}

-- ---- a settling

-- what holds of the same network, and of that in which the offer was settled, holds after a settling
pub settle_by : (w : WorldState) (node : ℕ) (p : Prefix) (P : WorldState → Type 0) → P w
    → ((seat : Seat) (o : Offered) → seat_at w (present_life w node) ≡ Some seat → offer_by w node p ≡ Some o → P (settled_by w (present_life w node) p (Some seat) (Some o)))
    → P (after_settle w node p)
unfolding after_settle
settle_by w node p P same settled = by_both (seat_at w (present_life w node)) (offer_by w node p) refl refl where
  by_both : (a : Option Seat) (b : Option Offered) → seat_at w (present_life w node) ≡ a → offer_by w node p ≡ b → P (settled_by w (present_life w node) p a b)
  by_both (Some seat) (Some o) here found = settled seat o here found
  by_both (Some seat) None here found = same
  by_both None (Some o) here found = same
  by_both None None here found = same

abbrev settled_one : (w : WorldState) (life : ℕ) (p : Prefix) (seat : Seat) (o : Offered) → seat_at w life ≡ Some seat → OneAgent w (settled_by w life p (Some seat) (Some o))
settled_one w life p seat o here = record {
  node = life;
  seat = seat;
  here = here;
  agent = after_settling seat.agent p;
  offers = (settled_by w life p (Some seat) (Some o)).offers;
  settled = (settled_by w life p (Some seat) (Some o)).settled;
  after = refl;
}

-- a settling changes one agent, if any
pub settle_one : (w : WorldState) (node : ℕ) (p : Prefix) (P : WorldState → Type 0) → P w → ((x : WorldState) → OneAgent w x → P x) → P (after_settle w node p)
settle_one w node p P same one =
    settle_by w node p P same (λ seat o here found. one (settled_by w (present_life w node) p (Some seat) (Some o)) (settled_one w (present_life w node) p seat o here))

-- ---- a restart

-- what holds of the same network, and of that in which the member has begun anew, holds after a restart
pub restart_by : (s : Setting) (w : WorldState) (node : ℕ) (image : PoolImage) (P : WorldState → Type 0) → P w
    → ((seat : Seat) (m : Member) → seat_at w (present_life w node) ≡ Some seat → numbered s.members node ≡ Some m → P (restarted s w node (present_life w node) image seat m))
    → P (after_restart s w node image)
unfolding after_restart
restart_by s w node image P same begun = by_both (seat_at w (present_life w node)) (numbered s.members node) refl refl where
  by_both : (a : Option Seat) (b : Option Member) → seat_at w (present_life w node) ≡ a → numbered s.members node ≡ b → P (restarted_by s w node image a b)
  by_both (Some seat) (Some m) here found = begun seat m here found
  by_both (Some seat) None here found = same
  by_both None (Some m) here found = same
  by_both None None here found = same
