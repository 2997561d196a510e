-- A return changes the return and the pool of one agent, and the offers, and nothing else.
use Rattle.std.proofs.Common.{◌≡◌, refl, ap, ◌∙◌, ℕ, ◌≤◌, true, Option, Some, None, Result, Ok, Err}
use Rattle.grasp_agent.specs.Replies.{returned, return_reply, after_return, new_return}
use Rattle.grasp_agent.specs.States.{AgentState}
use Rattle.grasp_agent.specs.declared.back.Return.{Return}
use Rattle.grasp_agent.specs.declared.back.ReturnFault.{ReturnFault}
use Rattle.grasp_pool.specs.Functions.{after_take_at}
use Rattle.grasp_pool.specs.Holdings.{Holding}
use Rattle.grasp_types.specs.Prefix.{AddressBlock as Prefix}
use Rattle.grasp_types.specs.declared.address.Locator.{Locator}
use Rattle.grasp_laws_network.proofs.Here.{present_least}
use Rattle.grasp_laws_network.proofs.Others.{put_same}
use Rattle.grasp_laws_network.proofs.Staying.{told_here}
use Rattle.grasp_model_network.specs.Events.{after_event}
use Rattle.grasp_laws_network.specs.Keeping.{ReturnChanges, ReturnsChangeReturns}
use Rattle.grasp_model_network.specs.Sending.{seat_with}
use Rattle.grasp_model_network.specs.Setting.{numbered}
use Rattle.grasp_model_network.specs.Telling.{return_told, after_telling, after_told}
use Rattle.grasp_model_network.specs.World.{Seat, WorldState, present_life, seat_at}

abbrev pool_after : AgentState → Prefix → Result (Unit {0}) ReturnFault → Holding
pool_after a p (Ok done) = after_take_at a.pool p true
pool_after a p (Err fault) = a.pool

abbrev back_after : AgentState → Prefix → Locator → Result (Unit {0}) ReturnFault → Option Return
back_after a p peer (Ok done) = Some (new_return p peer)
back_after a p peer (Err fault) = a.back

return_alone : (a : AgentState) (p : Prefix) (peer : Locator) (r : Result (Unit {0}) ReturnFault)
    → after_return a p peer r ≡ record a { pool = pool_after a p r; back = back_after a p peer r }
return_alone a p peer (Ok done) = refl
return_alone a p peer (Err fault) = refl

nothing_changes : (w : WorldState) (node : ℕ) → ReturnChanges w w node
nothing_changes w node = record { others = λ n apart. refl; own = λ seat e. (seat.agent.pool, (seat.agent.back, e)); rest = refl }

return_changes : (w : WorldState) (node : ℕ) (seat : Seat) (p : Prefix) (peer : Locator) → 1 ≤ node → seat_at w node ≡ Some seat
    → ReturnChanges w (after_telling w (record { node = node; what = returned p peer }) (Some seat)) node
return_changes w node seat p peer least here = record {
  others = (put_same node w (after_telling w (record { node = node; what = returned p peer }) (Some seat)) put least refl).others;
  own = λ old e. (
    pool_after old.agent p (return_reply old.agent p),
    (
      back_after old.agent p peer (return_reply old.agent p),
      told_here w (record { node = node; what = returned p peer }) seat old here e
          ∙ ap (λ a. Some (seat_with old.core a)) (return_alone old.agent p peer (return_reply old.agent p)),
    ),
  );
  rest = refl;
}
  where
    put : Seat
    put = seat_with seat.core (after_return seat.agent p peer (return_reply seat.agent p))

pub returns_change_returns : ReturnsChangeReturns
unfolding after_event
returns_change_returns s w node peer p c = by_peer (numbered s.peers peer) where
  life : ℕ
  life = present_life w node

  by_seat : (to : Locator) (o : Option Seat) → seat_at w life ≡ o → ReturnChanges w (after_telling w (record { node = life; what = returned p to }) o) life
  by_seat to None here = nothing_changes w life
  by_seat to (Some seat) here = return_changes w life seat p to (present_least w node) here

  by_peer : (o : Option Locator) → ReturnChanges w (after_told w (return_told life p o)) life
  by_peer None = nothing_changes w life
  by_peer (Some to) = by_seat to (seat_at w life) refl
