use Rattle.std.proofs.Common.{◌≡◌, ◌≤◌, ◌∙◌, sym, ap, arith, ℕ, ◌+◌, true, false, drop}
use Rattle.grasp_model_network.specs.Setting.{is_on, line_from}
use Rattle.grasp_simulator.proofs.WayLines.{line_here, line_passed, line_off, line_none}
use Rattle.grasp_simulator.proofs.ways.line_at.Goals.{then-is_on+else-left-eq0, else-is_on}
use Rattle.grasp_simulator.proofs.ways.line_at.Goals as goal

pub returns-then-left-eq0 : goal.returns-then-left-eq0
returns-then-left-eq0 c =
    let on : is_on c.args.node c.index-links-i.result ≡ true = ap (is_on c.args.node) (sym c.slice.ensures) ∙ (sym c.is_on.ensures ∙ c.if-is_on.true) in
    sym (c.loop-i.invariant ∙ line_here c.args.links.now c.args.node c.loop-i.i c.loop-i.left c.index-links-i.result c.loop-i-test.true c.index-links-i.is on c.if-left-eq0.true)

pub loop-i-preserved : goal.loop-i-preserved
loop-i-preserved c =
    elim c.if-is_on.branch [
      | then-is_on+else-left-eq0 w ↦
          let on : is_on c.args.node c.index-links-i.result ≡ true = ap (is_on c.args.node) (sym c.slice.ensures) ∙ (sym c.is_on.ensures ∙ w.if-is_on.true) in
          let some : 1 ≤ c.loop-i.left = omega (arith, w.if-left-eq0.false) in
          c.loop-i.invariant ∙ (line_passed c.args.links.now c.args.node c.loop-i.i c.loop-i.left c.index-links-i.result c.loop-i-test.true c.index-links-i.is on some ∙ ap (λ (n : ℕ). line_from (c.loop-i.i + 1) c.args.node (drop (c.loop-i.i + 1) c.args.links.now) n) (sym w.left-is))
      | else-is_on w ↦
          let on : is_on c.args.node c.index-links-i.result ≡ false = ap (is_on c.args.node) (sym c.slice.ensures) ∙ (sym c.is_on.ensures ∙ w.if-is_on.false) in
          c.loop-i.invariant ∙ (line_off c.args.links.now c.args.node c.loop-i.i c.loop-i.left c.index-links-i.result c.loop-i-test.true c.index-links-i.is on ∙ ap (λ (n : ℕ). line_from (c.loop-i.i + 1) c.args.node (drop (c.loop-i.i + 1) c.args.links.now) n) (sym w.left-is))
    ]

pub returns : goal.returns
returns c = sym (c.loop-i.invariant ∙ line_none c.args.links.now c.args.node c.loop-i.i c.loop-i.left c.loop-i-test.false)
