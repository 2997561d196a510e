use Rattle.std.proofs.Common.{Some, None}
use Rattle.grasp_cbor.proofs.Facts.Options.{on_err}
use Rattle.grasp_discovery.specs.Topic.{topic_of}
use Rattle.grasp_discovery.proofs.Cache.{under_found, topic_found}
use Rattle.grasp_discovery.proofs.entries.locators_of.Goals as goal

pub returns-in-Some-clause-ok : goal.returns-in-Some-clause-ok
returns-in-Some-clause-ok c = rw (under_found (topic_of c.args.name.now c.args.kind) c.args.entries.now.entries (Some c.in-Some.cached.now) c.in-Some.ensures) c.locators.ensures

pub returns-in-Some-clause-wanted : goal.returns-in-Some-clause-wanted
returns-in-Some-clause-wanted c = on_err c.locators.result (topic_found (topic_of c.args.name.now c.args.kind) c.args.entries.now.entries (Some c.in-Some.cached.now) c.in-Some.ensures)

pub returns-in-None-clause-ok : goal.returns-in-None-clause-ok
returns-in-None-clause-ok c = rw (under_found (topic_of c.args.name.now c.args.kind) c.args.entries.now.entries None c.in-None.ensures)
