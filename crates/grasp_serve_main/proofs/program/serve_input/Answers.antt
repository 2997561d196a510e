use Rattle.std.proofs.Common.{◌≡◌, refl, subst, arith, List, ℕ}
use Rattle.grasp_config.specs.Serve.{HasServe}
use Rattle.grasp_serve_main.specs.Program.{IsSmall}
use Rattle.grasp_serve_main.proofs.Serving.{read_too_far, stops_input}
use Rattle.grasp_serve_main.proofs.program.serve_input.Goals as goal

pub returns-in-Err-TooLarge-clause-too_large : goal.returns-in-Err-TooLarge-clause-too_large
returns-in-Err-TooLarge-clause-too_large g c = λ e. read_too_far _ ((rw c.in-Err-TooLarge.field-0-is at c.in-Err-TooLarge.ensures.too_large) refl)

pub returns-in-Ok-read_serve-clause-stops : goal.returns-in-Ok-read_serve-clause-stops
returns-in-Ok-read_serve-clause-stops g c =
    let bytes = c.in-Ok.input.items in
    let config = c.in-Ok-read_serve.config in
    let here : c.deref.result.now ≡ bytes = c.deref.ensures.value in
    let has : HasServe bytes config = subst (λ (text : List ℕ). HasServe text config) here c.in-Ok-read_serve.ensures.found in
    let small : IsSmall bytes = omega (arith, c.in-Ok.ensures.within, c.in-Ok.input.ok.0) in
    λ fault e. stops_input g.B.Disk.stands g.B.Disk.faults (g.S.Source.left c.args.source.now) c.args.seed c.args.shelf.now c.serve_config.new.shelf _ _
    fault bytes config c.in-Ok.ensures.content small has (c.serve_config.ensures.stops fault e)
