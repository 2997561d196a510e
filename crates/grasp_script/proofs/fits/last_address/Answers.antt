use Rattle.std.proofs.Common.{rules, arith, ◌≡◌, ◌+◌, ◌-◌, ◌<◌, ◌^◌}
use Rattle.grasp_pool.specs.Roots.{block_of}
use Rattle.grasp_pool.specs.Spans.{size}
use Rattle.grasp_pool.proofs.Dyadic.{ends_within, size_pos}
use Rattle.grasp_script.proofs.fits.last_address.Goals as goal

pub overflow_add-result : goal.overflow_add-result
overflow_add-result c =
    let w = ends_within (block_of c.args.root) c.requires in
    let pos = size_pos (block_of c.args.root) in
    let e : c.size_of-size.result ≡ size (block_of c.args.root) = c.size_of-size.ensures in
    let b : c.args.root.address + (c.size_of-size.result - 1) < 2 ^ 128 = omega arith in
    search rules

pub returns : goal.returns
returns c =
    let pos = size_pos (block_of c.args.root) in
    let e : c.size_of-size.result ≡ size (block_of c.args.root) = c.size_of-size.ensures in
    omega arith
