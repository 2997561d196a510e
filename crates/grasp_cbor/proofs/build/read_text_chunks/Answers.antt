use Rattle.std.proofs.Common.{arith}
use Rattle.std.proofs.lemmas.Result.{err_from_is_err_and}
use Rattle.grasp_cbor.specs.Build.{open_with, chunk_at}
use Rattle.grasp_cbor.specs.declared.heads.StringKind.TheVariants.{Text}
use Rattle.grasp_cbor.proofs.Loop.{before_all, open_goes_on, open_fails, open_ends}
use Rattle.grasp_cbor.proofs.Shrinks.{chunk_shrinks}
use Rattle.grasp_cbor.proofs.build.read_text_chunks.Goals as goal

pub loop-after-init : goal.loop-after-init
loop-after-init c = (before_all c.new-chars.result (open_with (chunk_at Text) c.args.bytes.now) c.new-chars.ensures, λ i. omega (arith, c.type_inv.bytes i))

pub returns-in-Some : goal.returns-in-Some
returns-in-Some c =
    open_ends (chunk_at Text) (chunk_shrinks Text) c.loop-after.chars c.loop-after.rest.now c.in-Some.after.now (open_with (chunk_at Text) c.args.bytes.now)
    c.in-Some.ensures c.loop-after.invariant.0

pub returns-in_err-chunk : goal.returns-in_err-chunk
returns-in_err-chunk c =
    let p = err_from_is_err_and c.from_residual.result c.from_residual.ensures.1 in
    rw (p.1, p.2) (open_fails (chunk_at Text) (chunk_shrinks Text) c.in_err-chunk.field-0.0 c.loop-after.chars c.loop-after.rest.now
    (open_with (chunk_at Text) c.args.bytes.now) c.in_default.ensures c.in_err-chunk.ensures c.loop-after.invariant.0)

pub loop-after-preserved : goal.loop-after-preserved
loop-after-preserved c =
    let i = c.loop-after.invariant in
    let on = open_goes_on (chunk_at Text) (chunk_shrinks Text) c.loop-after.chars c.loop-after.rest.now c.in_ok-chunk.chunk.now c.in_ok-chunk.after.now
    (open_with (chunk_at Text) c.args.bytes.now) i.1 c.in_default.ensures c.in_ok-chunk.ensures i.0 in
    (rw c.in_ok-append.ensures.ok on, (chunk_shrinks Text c.loop-after.rest.now (c.in_ok-chunk.chunk.now, c.in_ok-chunk.after.now) i.1 c.in_ok-chunk.ensures).0)

pub loop-after-smaller : goal.loop-after-smaller
loop-after-smaller c = (chunk_shrinks Text c.loop-after.rest.now (c.in_ok-chunk.chunk.now, c.in_ok-chunk.after.now) c.loop-after.invariant.1
    c.in_ok-chunk.ensures).1
