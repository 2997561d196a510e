use Rattle.std.proofs.Common.{◌∙◌, sym, subst}
use Rattle.grasp_io.specs.declared.links.Asked.TheVariants.{Got}
use Rattle.grasp_io.specs.MemoryLinks.{LinksState, comes, IsAsked}
use Rattle.grasp_io.proofs.Arrivals.{arrival_comes}
use Rattle.grasp_io.proofs.memory_links.MemLinksLinks.ask.Goals as goal

pub returns-clause-answer : goal.returns-clause-answer
returns-clause-answer c =
    let s = c.self.inside in
    let found = c.in-Some.ensures.lookup in
    let links : LinksState = record {
      arrivals = s.arrivals.now;
      next = s.next;
      quiet = s.quiet.now;
      failing = s.failing.now;
      refuses = s.refuses;
      plans = s.plans.items;
      waits = s.waits.items;
      handed = s.handed.items;
      asks = s.asks;
      sends = s.sends;
      opened = s.opened;
      faults = s.faults;
    } in
    subst (λ l. IsAsked (comes l) (Got c.in-Ok.input)) c.self.view_is
    (arrival_comes links c.in-Some.arrival.now c.in-Ok.input c.saturating_add-self-inside.result c.saturating_add-self-inside.ensures
    (sym c.contains.ensures.value ∙ c.if-contains.false) found.3.0 found.1 c.if-self-arrival.false c.in-Some-openings_after.ensures.can c.in-Ok.ensures)
