-- How the parts of a node hold together, and that its moves leave them so.
use Rattle.std.proofs.Common.{ℕ, List, None, refl}
use Rattle.grasp_asa.specs.Registrations.{Registrations}
use Rattle.grasp_discovery.specs.Discoveries.{Discoveries}
use Rattle.grasp_flood.specs.Floods.{Floods}
use Rattle.grasp_laws_session.proofs.Fresh.{fresh_stay}
use Rattle.grasp_laws_session.proofs.Runs.{calls_go_on}
use Rattle.grasp_session.specs.Made.{AreFresh, EndsUntaken}
use Rattle.grasp_session.specs.Runs.{TableCall, EndsBy, MayCall, after_call}
use Rattle.grasp_session.specs.Sessions.{after_mark}
use Rattle.grasp_session.specs.Transcript.{Mark}
use Rattle.grasp_model_node.specs.Moves.{with_reading, with_registrations, with_sessions, with_discoveries, with_floods, with_draw, begin_closing, drop_record, dial_record, queue_up}
use Rattle.grasp_model_node.specs.Node.{NodeState}
use Rattle.grasp_model_node.specs.Queue.{Queued}
use Rattle.grasp_model_node.specs.BoundedNodes.{IsBoundedNode}
use Rattle.grasp_model_node.specs.Streams.{with_dialled}
use Rattle.grasp_laws_node.specs.Consistent.{GoesOn, IsConsistent}
use Rattle.grasp_laws_node.proofs.Bounded.Moves.{streams_of, call_kept}
use Rattle.grasp_laws_node.proofs.OthersAlone.{others_self}
use Rattle.grasp_laws_node.proofs.Consistent.Streams.{AreApart, closing_none, without_none, others_past_set, others_past_without, dialled_past}
use Rattle.grasp_laws_node.proofs.Consistent.Table.{Goes, AreTied, TiedBut, Shut, Shuts, AreHeard, but_one, moved, tied_shut, tied_alike, order, shut_heard, mark_shuts}

-- the parts hold together
pub record IsHeld (n : NodeState) : Type 0 where
  pub ties : AreTied n.sessions n.streams
  pub heard : AreHeard n.registrations n.sessions
  pub fresh : AreFresh n.sessions

pub held_of : (n : NodeState) → IsConsistent n → IsHeld n
held_of n t = record {
  ties = record { opens = t.sessions_open; dialled = λ stream past even e. goes stream (t.dialled_go_on stream past even e); ended = t.ended_close };
  heard = t.untaken;
  fresh = t.fresh;
} where
  goes : (stream : ℕ) → GoesOn n stream → Goes n.sessions stream
  goes stream g = record { place = g.place; session = g.session; at = g.at; on = g.on; going = g.going }

pub tied_of : (n : NodeState) → IsHeld n → IsConsistent n
tied_of n h = record {
  sessions_open = h.ties.opens;
  dialled_go_on = λ stream past even e. goes stream (h.ties.dialled stream past even e);
  ended_close = h.ties.ended;
  untaken = h.heard;
  fresh = h.fresh;
} where
  goes : (stream : ℕ) → Goes n.sessions stream → GoesOn n stream
  goes stream g = record { place = g.place; session = g.session; at = g.at; on = g.on; going = g.going }

-- the node's lists stay within their limits, and its parts hold together
abbrev pub Holds : NodeState → Type 0
Holds n = IsBoundedNode n × IsHeld n

-- ---- moves of other parts

pub reading_held : (n : NodeState) (now : ℕ) → IsHeld n → IsHeld (with_reading n now)
unfolding with_reading
reading_held n now h = record { ties = h.ties; heard = h.heard; fresh = h.fresh }

pub draw_held : (n : NodeState) → IsHeld n → IsHeld (with_draw n)
unfolding with_draw
draw_held n h = record { ties = h.ties; heard = h.heard; fresh = h.fresh }

pub discoveries_held : (n : NodeState) (d : Discoveries) → IsHeld n → IsHeld (with_discoveries n d)
unfolding with_discoveries
discoveries_held n d h = record { ties = h.ties; heard = h.heard; fresh = h.fresh }

pub floods_held : (n : NodeState) (f : Floods) → IsHeld n → IsHeld (with_floods n f)
unfolding with_floods
floods_held n f h = record { ties = h.ties; heard = h.heard; fresh = h.fresh }

pub queue_held : (n : NodeState) (outputs : List Queued) → IsHeld n → IsHeld (queue_up n outputs)
unfolding queue_up
queue_held n outputs h = record { ties = h.ties; heard = h.heard; fresh = h.fresh }

-- what is listened for changes
pub registrations_held : (n : NodeState) (r : Registrations) → IsHeld n → AreHeard r n.sessions → IsHeld (with_registrations n r)
unfolding with_registrations
registrations_held n r h heard = record { ties = h.ties; heard = heard; fresh = h.fresh }

-- a stream is dialled that is closing from the start
dial_held : (n : NodeState) → IsBoundedNode n → IsHeld n → IsHeld (dial_record n None)
unfolding dial_record
dial_held n k h = record { ties = tied_alike n.sessions n.streams (with_dialled n.streams None) h.ties (dialled_past n.streams (streams_of n k)); heard = h.heard; fresh = h.fresh }

pub dial_queued : (n : NodeState) (outputs : List Queued) → IsBoundedNode n → IsHeld n → IsHeld (dial_record (queue_up n outputs) None)
unfolding dial_record queue_up
dial_queued n outputs k h = let d = dial_held n k h in record { ties = d.ties; heard = d.heard; fresh = d.fresh }

-- ---- no session on a stream goes on any more, and the stream is still to begin closing

pub record IsShut (stream : ℕ) (n : NodeState) : Type 0 where
  pub but : TiedBut stream n.sessions n.streams
  pub shut : Shut stream n.sessions
  pub heard : AreHeard n.registrations n.sessions
  pub fresh : AreFresh n.sessions

pub call_shut : (n : NodeState) (c : TableCall) (stream : ℕ) → IsBoundedNode n → IsHeld n → MayCall n.sessions c → EndsUntaken c → Shuts stream n.sessions (after_call n.sessions c)
    → IsShut stream (with_sessions n (after_call n.sessions c))
unfolding with_sessions
call_shut n c stream k h m u s = record {
  but = moved stream n.sessions (after_call n.sessions c) n.streams n.streams (but_one stream n.sessions n.streams h.ties) s.others (λ other d. refl);
  shut = s.shut;
  heard = shut_heard n.registrations stream n.sessions (after_call n.sessions c) (order (after_call n.sessions c) (calls_go_on n.sessions c k.sessions m)) h.heard s;
  fresh = fresh_stay n.sessions c h.fresh m u;
}

pub queue_shut : (n : NodeState) (stream : ℕ) (outputs : List Queued) → IsShut stream n → IsShut stream (queue_up n outputs)
unfolding queue_up
queue_shut n stream outputs s = record { but = s.but; shut = s.shut; heard = s.heard; fresh = s.fresh }

-- the node's parts hold together once the stream begins closing
pub closing_held : (n : NodeState) (stream : ℕ) → IsShut stream n → IsHeld (begin_closing n stream)
unfolding begin_closing
closing_held n stream s = record {
  ties = tied_shut stream n.sessions (begin_closing n stream).streams
      (moved stream n.sessions n.sessions n.streams (begin_closing n stream).streams s.but (others_self stream n.sessions) (others_past_set n.streams stream None)) s.shut (closing_none n.streams stream);
  heard = s.heard;
  fresh = s.fresh;
}

-- the node's parts hold together once the stream's record is dropped
pub drop_held : (n : NodeState) (stream : ℕ) → AreApart n.streams.records → IsShut stream n → IsHeld (drop_record n stream)
unfolding drop_record
drop_held n stream a s = record {
  ties = tied_shut stream n.sessions (drop_record n stream).streams
      (moved stream n.sessions n.sessions n.streams (drop_record n stream).streams s.but (others_self stream n.sessions) (others_past_without n.streams stream)) s.shut (without_none n.streams stream a);
  heard = s.heard;
  fresh = s.fresh;
}

-- a session is told of its stream's end, and the record goes
pub ended_held : (n : NodeState) (stream : ℕ) (mark : Mark) → IsBoundedNode n → IsHeld n → IsHeld (drop_record (with_sessions n (after_mark n.sessions stream mark)) stream)
ended_held n stream mark k h =
    drop_held (with_sessions n (after_mark n.sessions stream mark)) stream (call_kept n (EndsBy stream mark) k tt tt).apart
    (call_shut n (EndsBy stream mark) stream k h tt tt (mark_shuts n.sessions stream mark (order n.sessions k.sessions)))
