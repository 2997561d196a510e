use Rattle.std.proofs.Common.{◌≡◌, refl, subst, arith, List, ℕ}
use Rattle.grasp_config.specs.Config.{HasConfig}
use Rattle.grasp_node_main.specs.Program.{IsSmall}
use Rattle.grasp_node_main.specs.Tells.{LinksTold, links_told}
use Rattle.grasp_node_main.proofs.MainRuns.{in_range, read_too_far, stops_at_config}
use Rattle.grasp_node_main.proofs.program.run_input.Goals as goal

pub run_config-requires-after_bounds : goal.run_config-requires-after_bounds
run_config-requires-after_bounds g c κs within = in_range c.deref.result.now c.in-Ok-read_config.config c.configs_are_in_range.ensures c.in-Ok-read_config.ensures.found

pub returns-in-Err-TooLarge-clause-too_large : goal.returns-in-Err-TooLarge-clause-too_large
returns-in-Err-TooLarge-clause-too_large g c = λ e. read_too_far _ ((rw c.in-Err-TooLarge.field-0-is at c.in-Err-TooLarge.ensures.too_large) refl)

pub returns-in-Ok-read_config-clause-memory : goal.returns-in-Ok-read_config-clause-memory
returns-in-Ok-read_config-clause-memory g c =
    let tell : _ → LinksTold = λ links. links_told g.L.Links links in
    let bytes = c.in-Ok.input.items in
    let config = c.in-Ok-read_config.config in
    let here : c.deref.result.now ≡ bytes = c.deref.ensures.value in
    let has : HasConfig bytes config = subst (λ (text : List ℕ). HasConfig text config) here c.in-Ok-read_config.ensures.found in
    let small : IsSmall bytes = omega (arith, c.in-Ok.ensures.within, c.in-Ok.input.ok.0) in
    λ starved. stops_at_config (c.run_config.new.links ≡ c.args.links.now) (c.run_config.new.clock ≡ c.args.clock.now) (g.S.Source.left c.args.source.now) c.args.seed
    (g.C.Clock.readings c.args.clock.now) (g.C.Clock.readings c.run_config.new.clock) (tell c.args.links.now) (tell c.run_config.new.links) bytes config
    c.in-Ok.ensures.content small has (c.run_config.ensures.memory starved)
