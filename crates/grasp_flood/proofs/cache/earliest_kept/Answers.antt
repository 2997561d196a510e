use Rattle.std.proofs.Common.{◌≤◌, IfSome, sym}
use Rattle.grasp_flood.proofs.Earliest.{more_from, ends_before}
use Rattle.grasp_flood.proofs.cache.earliest_kept.Goals as goal

pub loop-i-preserved : goal.loop-i-preserved
loop-i-preserved c =
    more_from (λ e. IfSome e.1.end (λ last. c.loop-i.least ≤ last)) (λ e. IfSome e.1.end (λ last. c.earlier-least.result ≤ last)) c.args.entries.now.entries c.loop-i.i
    (c.in-Some._key.now, c.in-Some.kept.now) (sym c.in-Some.ensures.entry)
    (λ e h. ends_before c.earlier-least.result c.loop-i.least e.1.end c.earlier-least.ensures.reading h) c.earlier-least.ensures.end c.loop-i.invariant
