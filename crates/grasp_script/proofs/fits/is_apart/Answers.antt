use Rattle.std.proofs.Common.{rules, arith, ◌≡◌, ◌≤◌, true, false, length, Some, refl, sym, ◌∙◌}
use Rattle.std.specs.List.{slice_get}
use Rattle.grasp_pool.specs.Roots.{block_of}
use Rattle.grasp_pool.specs.Spans.{Apart}
use Rattle.grasp_script.proofs.Members.{all_next, all_taken, all_at}
use Rattle.grasp_script.proofs.fits.is_apart.Goals as goal

pub returns-then-not-are_apart : goal.returns-then-not-are_apart
returns-then-not-are_apart c =
    let at : slice_get c.args.roots.now c.loop-i.i ≡ Some c.in-Some.other.now = sym c.in-Some.ensures in
    let no : c.are_apart.result ≡ false = search rules in
    (λ z. absurd (let y = z in cc), λ all. absurd (let z : true ≡ false = sym (c.are_apart.ensures.1 (all_at (λ r. Apart (block_of r.root) (block_of c.args.root)) c.args.roots.now c.loop-i.i c.in-Some.other.now at all)) ∙ no in cc))

pub loop-i-preserved : goal.loop-i-preserved
loop-i-preserved c =
    let at : slice_get c.args.roots.now c.loop-i.i ≡ Some c.in-Some.other.now = sym c.in-Some.ensures in
    let yes : c.are_apart.result ≡ true = search rules in
    all_next (λ r. Apart (block_of r.root) (block_of c.args.root)) c.args.roots.now c.loop-i.i c.in-Some.other.now at c.loop-i.invariant (c.are_apart.ensures.0 yes)

pub returns : goal.returns
returns c =
    let over : length c.args.roots.now ≤ c.loop-i.i = omega arith in
    (λ _. all_taken (λ r. Apart (block_of r.root) (block_of c.args.root)) c.args.roots.now c.loop-i.i over c.loop-i.invariant, λ _. refl)
