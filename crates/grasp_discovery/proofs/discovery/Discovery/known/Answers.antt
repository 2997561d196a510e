use Rattle.std.proofs.Common.{Some, None, IsSome, Option, option_map, refl, sym, ap, ◌∙◌}
use Rattle.grasp_cbor.proofs.Facts.Options.{on_err}
use Rattle.grasp_discovery.specs.Discoveries.{least_left, live}
use Rattle.grasp_discovery.specs.Topic.{topic_of}
use Rattle.grasp_discovery.proofs.Cache.{under_found}
use Rattle.grasp_discovery.proofs.discovery.Discovery.known.Goals as goal

pub returns-in_default-clause-known : goal.returns-in_default-clause-known
returns-in_default-clause-known c =
    rw (← c.self.view_is, under_found (topic_of c.args.name.now c.args.kind) c.self.inside.entries.entries None c.in_default.ensures)

pub returns-in-Some-2-clause-known : goal.returns-in-Some-2-clause-known
returns-in-Some-2-clause-known c =
    rw (← c.self.view_is, under_found (topic_of c.args.name.now c.args.kind) c.self.inside.entries.entries (Some c.in-Some.cached.now) c.in-Some.ensures, c.least_left.ensures.least)
    (ap (option_map (λ locators. (locators, least_left c.args.now (live c.args.now c.in-Some.cached.now)))) (sym c.in-Some-2.is ∙ c.in_ok-locators.ensures.ok))

pub returns-in-None-clause-known : goal.returns-in-None-clause-known
returns-in-None-clause-known c =
    rw (← c.self.view_is, under_found (topic_of c.args.name.now c.args.kind) c.self.inside.entries.entries (Some c.in-Some.cached.now) c.in-Some.ensures)
    (ap (option_map (λ locators. (locators, least_left c.args.now (live c.args.now c.in-Some.cached.now)))) (sym c.in-None.is ∙ c.in_ok-locators.ensures.ok))

some_through : {X Y : Type 0} (f : X → Y) (o : Option X) → IsSome o → IsSome (option_map f o)
some_through f None none = none
some_through f (Some x) some = refl

pub returns-in_err-locators-clause-wanted : goal.returns-in_err-locators-clause-wanted
returns-in_err-locators-clause-wanted c =
    rw (← c.self.view_is, under_found (topic_of c.args.name.now c.args.kind) c.self.inside.entries.entries (Some c.in-Some.cached.now) c.in-Some.ensures)
    (on_err c.from_residual.result (some_through (λ locators. (locators, least_left c.args.now (live c.args.now c.in-Some.cached.now))) _ c.in_err-locators.ensures.wanted))
