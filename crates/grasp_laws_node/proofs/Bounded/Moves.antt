-- What is so of every node, and that each move leaves it so.
use Rattle.std.proofs.Common.{◌≡◌, ℕ, suc, ◌+◌, ◌^◌, true, false, not, ◌&&◌, nat_le, List, [], ◌∷◌, length, Option, Some, None, refl, sym, ap, ◌∙◌, subst, arith}
use Rattle.std.proofs.lemmas.Bool.{leb-true, leb-false, or_parts, and_parts, not-true}
use Rattle.std.proofs.lemmas.List.{length-append}
use Rattle.grasp_asa.specs.Registrations.{Registrations, IsRegistry}
use Rattle.grasp_discovery.specs.Discoveries.{Discoveries, IsDiscoveries}
use Rattle.grasp_flood.specs.Floods.{Floods, IsFloods}
use Rattle.grasp_session.specs.Runs.{TableCall, MayCall, after_call}
use Rattle.grasp_laws_session.proofs.Runs.{calls_go_on}
use Rattle.grasp_types.specs.declared.address.Locator.{Locator}
use Rattle.grasp_types.specs.declared.message.Message.{Message}
use Rattle.grasp_wire.specs.Cutter.{Past}
use Rattle.grasp_model_node.specs.Moves.{with_reading, with_registrations, with_sessions, with_discoveries, with_floods, with_draw, begin_closing, keep_past, drop_record, dial_record, queue_up, may_queue}
use Rattle.grasp_model_node.specs.Node.{NodeState}
use Rattle.grasp_model_node.specs.Queue.{Queued, has_room, along, fits}
use Rattle.grasp_model_node.specs.BoundedNodes.{IsBoundedNode, IsGiven}
use Rattle.grasp_model_node.specs.Streams.{StreamsState, is_full, is_dialled_out, with_dialled}
use Rattle.grasp_model_node.specs.declared.way.Way.{Way}
use Rattle.grasp_laws_node.proofs.Bounded.Streams.{AreStreams, more_given, past_kept, without_kept, dialled_kept}
use Rattle.grasp_laws_node.proofs.Bounded.Table.{Comes, call_on}
use Rattle.grasp_laws_node.proofs.Walk.Moves.{next_dial}

pub streams_of : (n : NodeState) → IsBoundedNode n → AreStreams n.streams
streams_of n k = record { few = k.few_records; apart = k.apart; dialled = k.few_dialled; given = k.records_given }

pub streams_kept : (n : NodeState) (s : StreamsState) → IsBoundedNode n → s.dialled ≡ n.streams.dialled → AreStreams s → IsBoundedNode (record n { streams = s })
streams_kept n s k e a = record {
  registrations = k.registrations;
  sessions = k.sessions;
  discoveries = k.discoveries;
  floods = k.floods;
  few_records = a.few;
  apart = a.apart;
  few_dialled = a.dialled;
  records_given = a.given;
  sessions_given = λ place x at. subst (λ d. IsGiven d x.stream) (sym e) (k.sessions_given place x at);
  few_queued = k.few_queued;
}

pub reading_kept : (n : NodeState) (now : ℕ) → IsBoundedNode n → IsBoundedNode (with_reading n now)
unfolding with_reading
reading_kept n now k = record {
  registrations = k.registrations;
  sessions = k.sessions;
  discoveries = k.discoveries;
  floods = k.floods;
  few_records = k.few_records;
  apart = k.apart;
  few_dialled = k.few_dialled;
  records_given = k.records_given;
  sessions_given = k.sessions_given;
  few_queued = k.few_queued;
}

pub draw_kept : (n : NodeState) → IsBoundedNode n → IsBoundedNode (with_draw n)
unfolding with_draw
draw_kept n k = record {
  registrations = k.registrations;
  sessions = k.sessions;
  discoveries = k.discoveries;
  floods = k.floods;
  few_records = k.few_records;
  apart = k.apart;
  few_dialled = k.few_dialled;
  records_given = k.records_given;
  sessions_given = k.sessions_given;
  few_queued = k.few_queued;
}

pub registrations_kept : (n : NodeState) (r : Registrations) → IsBoundedNode n → IsRegistry r → IsBoundedNode (with_registrations n r)
unfolding with_registrations
registrations_kept n r k i = record {
  registrations = i;
  sessions = k.sessions;
  discoveries = k.discoveries;
  floods = k.floods;
  few_records = k.few_records;
  apart = k.apart;
  few_dialled = k.few_dialled;
  records_given = k.records_given;
  sessions_given = k.sessions_given;
  few_queued = k.few_queued;
}

pub discoveries_kept : (n : NodeState) (d : Discoveries) → IsBoundedNode n → IsDiscoveries d → IsBoundedNode (with_discoveries n d)
unfolding with_discoveries
discoveries_kept n d k i = record {
  registrations = k.registrations;
  sessions = k.sessions;
  discoveries = i;
  floods = k.floods;
  few_records = k.few_records;
  apart = k.apart;
  few_dialled = k.few_dialled;
  records_given = k.records_given;
  sessions_given = k.sessions_given;
  few_queued = k.few_queued;
}

pub floods_kept : (n : NodeState) (f : Floods) → IsBoundedNode n → IsFloods f → IsBoundedNode (with_floods n f)
unfolding with_floods
floods_kept n f k i = record {
  registrations = k.registrations;
  sessions = k.sessions;
  discoveries = k.discoveries;
  floods = i;
  few_records = k.few_records;
  apart = k.apart;
  few_dialled = k.few_dialled;
  records_given = k.records_given;
  sessions_given = k.sessions_given;
  few_queued = k.few_queued;
}

-- a call of the table
pub call_kept : (n : NodeState) (c : TableCall) → IsBoundedNode n → MayCall n.sessions c → Comes (IsGiven n.streams.dialled) c → IsBoundedNode (with_sessions n (after_call n.sessions c))
unfolding with_sessions
call_kept n c k m g = record {
  registrations = k.registrations;
  sessions = calls_go_on n.sessions c k.sessions m;
  discoveries = k.discoveries;
  floods = k.floods;
  few_records = k.few_records;
  apart = k.apart;
  few_dialled = k.few_dialled;
  records_given = k.records_given;
  sessions_given = call_on (IsGiven n.streams.dialled) n.sessions c m g k.sessions_given;
  few_queued = k.few_queued;
}

-- the streams
pub closing_kept : (n : NodeState) (stream : ℕ) → IsBoundedNode n → IsBoundedNode (begin_closing n stream)
unfolding begin_closing
closing_kept n stream k = streams_kept n (begin_closing n stream).streams k refl (past_kept n.streams stream None (streams_of n k))

pub keep_past_kept : (n : NodeState) (stream : ℕ) (past : Past) → IsBoundedNode n → IsBoundedNode (keep_past n stream past)
unfolding keep_past
keep_past_kept n stream past k = streams_kept n (keep_past n stream past).streams k refl (past_kept n.streams stream (Some past) (streams_of n k))

pub drop_kept : (n : NodeState) (stream : ℕ) → IsBoundedNode n → IsBoundedNode (drop_record n stream)
unfolding drop_record
drop_kept n stream k = streams_kept n (drop_record n stream).streams k refl (without_kept n.streams stream (streams_of n k))

pub dial_kept : (n : NodeState) (past : Option Past) → IsBoundedNode n → is_dialled_out n.streams ≡ false → IsBoundedNode (dial_record n past)
unfolding dial_record
dial_kept n past k e = record {
  registrations = k.registrations;
  sessions = k.sessions;
  discoveries = k.discoveries;
  floods = k.floods;
  few_records = a.few;
  apart = a.apart;
  few_dialled = a.dialled;
  records_given = a.given;
  sessions_given = λ place x at. more_given n.streams.dialled x.stream (k.sessions_given place x at);
  few_queued = k.few_queued;
} where
  parts : (is_full n.streams ≡ false) × (nat_le (2 ^ 62) n.streams.dialled ≡ false)
  parts = or_parts (is_full n.streams) (nat_le (2 ^ 62) n.streams.dialled) e

  a : AreStreams (with_dialled n.streams past)
  a = dialled_kept n.streams past (streams_of n k) (leb-false 64 (length n.streams.records) parts.0) (leb-false (2 ^ 62) n.streams.dialled parts.1)

-- the queue
pub queue_kept : (n : NodeState) (outputs : List Queued) → IsBoundedNode n → has_room n.queue (length outputs) ≡ true → IsBoundedNode (queue_up n outputs)
unfolding queue_up
queue_kept n outputs k e = record {
  registrations = k.registrations;
  sessions = k.sessions;
  discoveries = k.discoveries;
  floods = k.floods;
  few_records = k.few_records;
  apart = k.apart;
  few_dialled = k.few_dialled;
  records_given = k.records_given;
  sessions_given = k.sessions_given;
  few_queued = let l = length-append n.queue outputs in let h = leb-true (length n.queue + length outputs) 256 e in omega (arith, l, h);
}

length_along : (m : Message) (ways : List Way) → length (along m ways) ≡ length ways
length_along m [] = refl
length_along m (way ∷ ways) = ap (λ (k : ℕ). suc k) (length_along m ways)

pub along_kept : (n : NodeState) (m : Message) (ways : List Way) → IsBoundedNode n → has_room n.queue (length ways) ≡ true → IsBoundedNode (queue_up n (along m ways))
along_kept n m ways k e = queue_kept n (along m ways) k (ap (has_room n.queue) (length_along m ways) ∙ e)

-- the next stream is dialled, and a message is queued behind the dialling
pub next_kept : (n : NodeState) (to : Locator) (m : Message) → IsBoundedNode n → may_queue n m 2 && not (is_dialled_out n.streams) ≡ true → IsBoundedNode (dial_record (queue_up n (next_dial n to m)) None)
unfolding queue_up
next_kept n to m k e =
    let p = and_parts (may_queue n m 2) (not (is_dialled_out n.streams)) e in
    dial_kept (queue_up n (next_dial n to m)) None (queue_kept n (next_dial n to m) k (and_parts (fits n.plan.limit m) (has_room n.queue 2) p.0).1) (not-true (is_dialled_out n.streams) p.1)
