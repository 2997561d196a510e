use Rattle.std.proofs.Common.{◌∷◌, sym, subst, arith}
use Rattle.grasp_cbor.specs.DataItem.{unsigned, text_string}
use Rattle.grasp_types.specs.Objective.{optional}
use Rattle.grasp_cbor.specs.Leading.{Leads}
use Rattle.grasp_wire.proofs.Straight.{array_leads}
use Rattle.grasp_wire.proofs.direct.objective.read_objective.Goals as goal

pub returns-clause-leads : goal.returns-clause-leads
returns-clause-leads c =
    array_leads (text_string c.in_ok-name.name ∷ unsigned c.in_ok-flags.flags ∷ unsigned c.in_ok-loops.loops ∷ optional c.in_ok-value.value) c.in_ok-count.count c.args.bytes.now c.in_ok-count.rest.now c.in_ok-value.rest.now
    (omega (arith, c.in_ok-value.ensures.counts)) c.in_ok-count.ensures.some
    (c.in_ok-name.rest.now, c.in_ok-name.ensures.leads, (c.in_ok-bits.rest.now, subst (λ n. Leads (unsigned n) c.in_ok-name.rest.now c.in_ok-bits.rest.now) (sym c.in_ok-flags.ensures.some) c.in_ok-bits.ensures.leads, (c.in_ok-loops.rest.now, c.in_ok-loops.ensures.leads, c.in_ok-value.ensures.leads)))
