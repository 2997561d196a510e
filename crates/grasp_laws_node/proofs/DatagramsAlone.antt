-- What a datagram leaves as it is.
use Rattle.std.proofs.Common.{◌≡◌, List, [], ◌∷◌, ◌++◌, None, refl, sym, ap, ◌∙◌}
use Rattle.std.proofs.lemmas.List.{append-nil, append_assoc}
use Rattle.grasp_model_node.specs.Begin.{begin}
use Rattle.grasp_model_node.specs.Node.{NodeState}
use Rattle.grasp_model_node.specs.Queue.{Queued, along}
use Rattle.grasp_laws_node.specs.Alone.{OnlyQueues, LeavesAgents, DatagramsLeaveAgents}
use Rattle.grasp_laws_node.proofs.OtherRecords.{next_record, kept_with_more}
use Rattle.grasp_laws_node.proofs.Walk.Moves.{Move, anything, datagrams, next_dial, kept, unfolded, relays, replies}
use Rattle.grasp_laws_node.proofs.Walk.Steps.{tells_anything, acts_moves}
use Rattle.grasp_types.specs.declared.traffic.Input.TheVariants as input

leaves_self : (n : NodeState) → LeavesAgents n n
leaves_self n = record {
  plan = refl;
  reading = refl;
  registrations = refl;
  sessions = refl;
  searches = refl;
  entries = refl;
  drawn = refl;
  records = λ other y e. e;
  queue = record { more = []; queue = sym (append-nil n.queue) };
}

queues : (from n after : NodeState) (outputs : List Queued) → after.queue ≡ n.queue ++ outputs → OnlyQueues from n → OnlyQueues from after
queues from n after outputs e a = record { more = a.more ++ outputs; queue = e ∙ (ap (λ q. q ++ outputs) a.queue ∙ append_assoc from.queue a.more outputs) }

move_leaves : (from base n after : NodeState) → Move anything base n datagrams after → LeavesAgents from n → LeavesAgents from after
unfolding unfolded
move_leaves from base n after (relays m ways e) a = record {
  plan = a.plan;
  reading = a.reading;
  registrations = a.registrations;
  sessions = a.sessions;
  searches = a.searches;
  entries = a.entries;
  drawn = a.drawn;
  records = a.records;
  queue = queues from n _ (along m ways) refl a.queue;
}
move_leaves from base n after (replies to m i e) a = record {
  plan = a.plan;
  reading = a.reading;
  registrations = a.registrations;
  sessions = a.sessions;
  searches = a.searches;
  entries = a.entries;
  drawn = a.drawn;
  records = λ other y f. kept_with_more other n.streams.records (next_record n.streams None ∷ []) y (a.records other y f);
  queue = queues from n _ (next_dial n to m) refl a.queue;
}
move_leaves from base n after _ a = record {
  plan = a.plan;
  reading = a.reading;
  registrations = a.registrations;
  sessions = a.sessions;
  searches = a.searches;
  entries = a.entries;
  drawn = a.drawn;
  records = a.records;
  queue = record { more = a.queue.more; queue = a.queue.queue };
}

pub datagrams_leave : DatagramsLeaveAgents
datagrams_leave n after now link from bytes x r step =
    let b = begin n now in
    let i = input.Datagram link from bytes in
    kept (LeavesAgents b) (λ m next y a. move_leaves b b m next y a) (acts_moves anything b after i x r step.is_coming (tells_anything b i x r after) step.acts) (leaves_self b)
