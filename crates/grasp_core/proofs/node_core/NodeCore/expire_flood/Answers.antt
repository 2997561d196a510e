use Rattle.std.proofs.Common.{◌≡◌, false, inl, refl, sym, ◌∙◌}
use Rattle.grasp_flood.specs.Flood.{key_of}
use Rattle.grasp_flood.specs.Floods.{has_key}
use Rattle.grasp_core.proofs.Asking.{forgets_none}
use Rattle.grasp_core.proofs.Finding.{drops_nothing}
use Rattle.grasp_core.proofs.node_core.NodeCore.expire_flood.Goals as goal

pub returns : goal.returns
returns c = λ n h.
    let none : has_key (key_of c.args.name c.args.initiator) c.args.self.now.floods.entries ≡ false = sym c.if-drop_one.ensures.there in
    let there = rw h.floods at none in (
      inl (forgets_none n c.args.asa c.args.name c.args.initiator (c.in_ok-known.ensures.reply n h) (rw there refl)),
      record {
        plan = h.plan;
        ways = h.ways;
        limit = h.limit;
        reading = h.reading;
        registrations = h.registrations;
        sessions = h.sessions;
        discoveries = h.discoveries;
        floods = c.drop_one.ensures.after ∙ (drops_nothing c.args.self.now.floods (key_of c.args.name c.args.initiator) none ∙ h.floods);
        streams = h.streams;
        queue = h.queue;
        draws = h.draws;
      },
    )
