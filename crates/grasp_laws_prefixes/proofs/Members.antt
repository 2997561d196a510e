-- The offers of a member's lives: what one that has ended offered, the present one has in doubt.
use Rattle.std.proofs.Common.{◌≡◌, ◌≢◌, sym, ap, ◌∙◌, subst, ℕ, true, false, Contains, Some}
use Rattle.std.proofs.lemmas.Bool.{ne_eqb}
use Rattle.std.proofs.lemmas.Option.{same_Some}
use Rattle.grasp_pool.specs.Holdings.{IsListed}
use Rattle.grasp_laws_network.proofs.Lives.{is_present_life}
use Rattle.grasp_model_network.specs.World.{Seat, Offered, WorldState, seat_at, member_of, present_life, is_present}
use Rattle.grasp_laws_prefixes.proofs.Standing.{OffersAreKnown}

-- where a life is present, another one of its member has ended
pub other_ended : (w : WorldState) (n m : ℕ) → is_present w n ≡ true → member_of w m ≡ member_of w n → m ≢ n → is_present w m ≡ false
other_ended w n m is same apart =
    ne_eqb (present_life w (member_of w m)) m (λ e. apart (sym e ∙ (ap (λ k. present_life w k) same ∙ sym (is_present_life w n is))))

-- and that member's present life is this one
pub present_there : (w : WorldState) (n m : ℕ) → is_present w n ≡ true → member_of w m ≡ member_of w n → present_life w (member_of w m) ≡ n
present_there w n m is same = ap (λ k. present_life w k) same ∙ sym (is_present_life w n is)

module _ (w : WorldState) (k : OffersAreKnown w) (n : ℕ) (seat : Seat) (here : seat_at w n ≡ Some seat) (o : Offered) (listed : Contains w.offers o) where
  -- what another life of its member offered, a present life has in doubt
  pub former_doubt : is_present w n ≡ true → member_of w o.node ≡ member_of w n → o.node ≢ n → Contains seat.agent.pool.doubtful o.prefix
  former_doubt is same apart =
      let d = k.carried o listed (other_ended w n o.node is same apart) in
      subst (λ (z : Seat). Contains z.agent.pool.doubtful o.prefix) (same_Some d.seat seat (sym d.here ∙ (ap (λ m. seat_at w m) (present_there w n o.node is same) ∙ here))) d.doubtful

  -- what it offered itself it has reserved or in doubt
  pub own_listed : o.node ≡ n → IsListed seat.agent.pool o.prefix
  own_listed same =
      let c = k.kept o listed in
      subst (λ (z : Seat). IsListed z.agent.pool o.prefix) (same_Some c.seat seat (sym c.here ∙ (ap (λ m. seat_at w m) same ∙ here))) c.listed
