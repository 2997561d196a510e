use Rattle.std.proofs.Common.{◌≡◌, ℕ, List, ◌+◌, ◌-◌, subst, arith}
use Rattle.grasp_cbor.specs.Minimal.{LeadsHead, LeadShortest}
use Rattle.grasp_cbor.proofs.Minimals.{number_leads, octets_lead, text_leads, none_lead, one_more_leads, array_leads, map_leads, tag_leads, found_is, rest_fits}
use Rattle.grasp_cbor.proofs.Takes.{bytes_takes, text_takes}
use Rattle.grasp_cbor.proofs.short.+pass.Goals as goal

pub behind_many-loop-left-preserved : goal.behind_many-loop-left-preserved
behind_many-loop-left-preserved t c = λ end more.
    let left : c.loop-left.left - 1 + 1 ≡ c.loop-left.left = omega (arith, c.loop-left-test.true) in
    let all = one_more_leads (c.loop-left.left - 1) c.args.depth c.loop-left.rest.now c.in_ok-rest.rest.now end c.in_ok-rest.ensures more in
    c.loop-left.invariant end (subst (λ n. LeadShortest n c.args.depth c.loop-left.rest.now end) left all)

pub behind_many-returns : goal.behind_many-returns
behind_many-returns t c =
    let none : 0 ≡ c.loop-left.left = omega (arith, c.loop-left-test.false) in
    c.loop-left.invariant c.loop-left.rest.now (subst (λ n. LeadShortest n c.args.depth c.loop-left.rest.now c.loop-left.rest.now) none (none_lead c.args.depth c.loop-left.rest.now))

pub behind_nested-returns-then-major-eq4 : goal.behind_nested-returns-then-major-eq4
behind_nested-returns-then-major-eq4 t c =
    let e : c.in_ok-inner.inner + 1 ≡ c.args.depth = omega (arith, c.in_ok-inner.ensures.0, c.in_ok-inner.ensures.1) in
    found_is _ _ c.behind_many.result c.behind_many.ensures (λ rest all s h.
    array_leads c.args.n c.args.depth c.in_ok-inner.inner s c.args.bytes.now rest.now e (subst (λ m. LeadsHead m c.args.n s c.args.bytes.now) c.if-major-eq4.true h) all)

pub behind_nested-returns-else-n-bytes : goal.behind_nested-returns-else-n-bytes
behind_nested-returns-else-n-bytes t c =
    let e : c.in_ok-inner.inner + 1 ≡ c.args.depth = omega (arith, c.in_ok-inner.ensures.0, c.in_ok-inner.ensures.1) in
    found_is _ _ c.behind_many-then-major-eq5.result c.behind_many-then-major-eq5.ensures (λ rest all s h.
    map_leads c.args.n c.args.depth c.in_ok-inner.inner s c.args.bytes.now rest.now e (subst (λ m. LeadsHead m c.args.n s c.args.bytes.now) c.if-major-eq5.true h) all)

pub behind_nested-returns-else-major-eq5 : goal.behind_nested-returns-else-major-eq5
behind_nested-returns-else-major-eq5 t c =
    let e : c.in_ok-inner.inner + 1 ≡ c.args.depth = omega (arith, c.in_ok-inner.ensures.0, c.in_ok-inner.ensures.1) in
    let six : c.args.major ≡ 6 = omega (arith, c.requires.least, c.requires.most, c.if-major-eq4.false, c.if-major-eq5.false) in
    found_is _ _ c.behind_one.result c.behind_one.ensures (λ rest one s h.
    tag_leads c.args.n c.args.depth c.in_ok-inner.inner s c.args.bytes.now rest.now e (subst (λ m. LeadsHead m c.args.n s c.args.bytes.now) six h) one)

pub behind_one-returns-then-major-lt2 : goal.behind_one-returns-then-major-lt2
behind_one-returns-then-major-lt2 t c = number_leads c.args.depth _ c.in_ok-n.n c.args.bytes.now c.in_ok-n.rest.now c.if-major-lt2.true c.in_ok-n.ensures

pub behind_one-returns-in-Ok-read_bytes : goal.behind_one-returns-in-Ok-read_bytes
behind_one-returns-in-Ok-read_bytes t c =
    let h : LeadsHead 2 c.in_ok-n.n c.args.bytes.now c.in_ok-n.rest.now = subst (λ m. LeadsHead m c.in_ok-n.n c.args.bytes.now c.in_ok-n.rest.now) c.if-major-eq2.true c.in_ok-n.ensures in
    let fits = rest_fits 2 c.in_ok-n.n c.args.bytes.now c.in_ok-n.rest.now (λ i. omega (arith, c.type_inv.bytes i)) h in
    let x : List ℕ × List ℕ = (c.in-Ok-read_bytes.field-0-0.now, c.in-Ok-read_bytes.rest.now) in
    let b = bytes_takes c.in_ok-n.n c.in_ok-n.rest.now x fits c.in-Ok-read_bytes.ensures in
    octets_lead c.args.depth c.in_ok-n.n c.args.bytes.now c.in_ok-n.rest.now x.0 x.1 fits b.1 h b.0

pub behind_one-returns-in-Ok-read_text : goal.behind_one-returns-in-Ok-read_text
behind_one-returns-in-Ok-read_text t c =
    let h : LeadsHead 3 c.in_ok-n.n c.args.bytes.now c.in_ok-n.rest.now = subst (λ m. LeadsHead m c.in_ok-n.n c.args.bytes.now c.in_ok-n.rest.now) c.if-major-eq3.true c.in_ok-n.ensures in
    let fits = rest_fits 3 c.in_ok-n.n c.args.bytes.now c.in_ok-n.rest.now (λ i. omega (arith, c.type_inv.bytes i)) h in
    let x : List ℕ × List ℕ = (c.in-Ok-read_text.field-0-0.now, c.in-Ok-read_text.rest.now) in
    let b = text_takes c.in_ok-n.n c.in_ok-n.rest.now x fits c.in-Ok-read_text.ensures in
    text_leads c.args.depth c.in_ok-n.n c.args.bytes.now c.in_ok-n.rest.now x.0 x.1 b.1 h b.0 b.2
