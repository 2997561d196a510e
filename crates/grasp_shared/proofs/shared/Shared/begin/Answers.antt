use Rattle.std.proofs.Common.{rules, ◌≡◌, ◌-◌, ◌%◌, refl, ap, ◌∙◌, arith}
use Rattle.grasp_shared.specs.Calls.{LedTo}
use Rattle.grasp_shared.specs.Plays.{Sat}
use Rattle.grasp_shared.proofs.Keeps.{looks, wins}
use Rattle.grasp_shared.proofs.Turns.{began}
use Rattle.grasp_shared.proofs.shared.Shared.begin.Goals as goal

pub load-seen-requires : goal.load-seen-requires
load-seen-requires c = (c.requires.own, omega (arith, c.args.self.now.sized.0), looks LedTo _ _ _ _)

pub compare_exchange-found-requires : goal.compare_exchange-found-requires
compare_exchange-found-requires c = let e = c.load-seen.ensures.2.0 in (
  c.load-seen.ensures.0 ∙ c.requires.own,
  omega (arith, c.args.self.now.sized.0),
  wins LedTo _ _ _ _ _ _ (ap (λ (m : Sat). m.0.live) e ∙ c.requires.idle.1) (ap (λ (m : Sat). m.0.turn) e ∙ c.requires.idle.2) (omega arith) refl (search rules),
)

pub returns-clause-begun : goal.returns-clause-begun
returns-clause-begun c =
    let hit : c.compare_exchange-found.result ≡ c.load-seen.result - c.load-seen.result % 2 = search rules in
    began c.args.seat.now.me c.load-seen.new.seat.me c.compare_exchange-found.new.seat.me c.load-seen.ensures.2.0 c.requires.idle.0 (c.compare_exchange-found.ensures.2.0 hit)
