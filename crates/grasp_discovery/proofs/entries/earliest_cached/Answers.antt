use Rattle.std.proofs.Common.{◌≤◌, All, sym}
use Rattle.grasp_discovery.proofs.Earliest.{more_from, cached_before}
use Rattle.grasp_discovery.proofs.entries.earliest_cached.Goals as goal

pub loop-i-preserved : goal.loop-i-preserved
loop-i-preserved c =
    more_from (λ e. All (λ one. c.loop-i.least ≤ one.end) e.1) (λ e. All (λ one. c.earliest-least.result ≤ one.end) e.1) c.args.entries.now.entries c.loop-i.i
    (c.in-Some._topic.now, c.in-Some.cached.now) (sym c.in-Some.ensures.entry)
    (λ e h. cached_before c.earliest-least.result c.loop-i.least e.1 c.earliest-least.ensures.reading h) c.earliest-least.ensures.each c.loop-i.invariant
