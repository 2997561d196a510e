use Rattle.std.proofs.Common.{rules, ◌≡◌, ◌∙◌, sym, None, Some}
use Rattle.grasp_simulator.proofs.LentStreams.{number_told}
use Rattle.grasp_simulator.proofs.streams.Streams.number_of.Goals as goal

-- no stream has the end
pub returns-in_err-place : goal.returns-in_err-place
returns-in_err-place c =
    let self = c.args.self.now in
    let none : c.from_residual.result ≡ None = search rules in
    λ begins ts dials s. none ∙ number_told self.list.items self.near.entries begins ts dials s c.args.life c.args.number None (sym c.place_of.ensures.place ∙ c.in_err-place.was) tt

-- one has
pub returns : goal.returns
returns c =
    let self = c.args.self.now in
    λ begins ts dials s.
    number_told self.list.items self.near.entries begins ts dials s c.args.life c.args.number (Some (c.in_ok-place.place, c.in_ok-place.far)) (sym c.place_of.ensures.place ∙ c.in_ok-place.was) c.in_ok-place.ensures.within
