-- Inside: how a message is read from an item (RFC 8990, section 2.8).
use Rattle.std.specs.Prelude.{◌==◌, ℕ, Option, Some, None, List, length, if◌then◌else◌}
use Rattle.std.specs.List.{slice_range}
use Rattle.grasp_cbor.specs.DataItem.{DataItem}
use Rattle.grasp_types.specs.declared.message.Message.{Message}
use Rattle.grasp_types.specs.declared.message.Message.TheVariants.{Noop, Discovery, Response, ReqNeg, ReqSyn, Negotiate, End, Wait, Synch, Flood, Invalid}
use Rattle.grasp_types.specs.declared.objective.Objective.{Objective}
use Rattle.grasp_wire.specs.Reading.{◌>>=◌, at_place, number_in, parts_in, last_at, one_or_more}
use Rattle.grasp_wire.specs.ReadParts.{narrow_in, address_in, objective_in, verdict_in, value_in, answer_between, answer_end, flood_part_in}

-- the session and the objective of a message that has nothing else
unfoldable pub told_of : List DataItem → Option (ℕ × Objective)
told_of parts = if length parts == 3 then (at_place narrow_in parts 1 >>= λ session. at_place objective_in parts 2 >>= λ objective. Some (session, objective)) else None

-- M_REQ_NEG (RFC 8990, section 2.8.6)
unfoldable pub req_neg_of : List DataItem → Option Message
req_neg_of parts = told_of parts >>= λ told. Some (ReqNeg told.0 told.1)

-- M_REQ_SYN (RFC 8990, section 2.8.6)
unfoldable pub req_syn_of : List DataItem → Option Message
req_syn_of parts = told_of parts >>= λ told. Some (ReqSyn told.0 told.1)

-- M_NEGOTIATE (RFC 8990, section 2.8.7)
unfoldable pub negotiate_of : List DataItem → Option Message
negotiate_of parts = told_of parts >>= λ told. Some (Negotiate told.0 told.1)

-- M_SYNCH (RFC 8990, section 2.8.10)
unfoldable pub synch_of : List DataItem → Option Message
synch_of parts = told_of parts >>= λ told. Some (Synch told.0 told.1)

-- M_NOOP (RFC 8990, section 2.8.13)
unfoldable pub noop_of : List DataItem → Option Message
noop_of parts = if length parts == 1 then Some Noop else None

-- M_DISCOVERY (RFC 8990, section 2.8.4)
unfoldable pub discovery_of : List DataItem → Option Message
discovery_of parts = if length parts == 4 then (at_place narrow_in parts 1 >>= λ session. at_place address_in parts 2 >>= λ initiator. at_place objective_in parts 3 >>= λ objective.
    Some (Discovery session initiator objective)) else None

-- M_RESPONSE (RFC 8990, section 2.8.5): an answer, and perhaps an objective last
unfoldable pub response_of : List DataItem → Option Message
response_of parts = at_place narrow_in parts 1 >>= λ session. at_place address_in parts 2 >>= λ initiator. at_place narrow_in parts 3 >>= λ ttl.
    answer_between parts 4 (answer_end parts) >>= λ answer. last_at objective_in parts (answer_end parts) >>= λ objective.
    Some (Response session initiator ttl answer objective)

-- M_END (RFC 8990, section 2.8.8)
unfoldable pub end_of : List DataItem → Option Message
end_of parts = if length parts == 3 then (at_place narrow_in parts 1 >>= λ session. at_place verdict_in parts 2 >>= λ verdict. Some (End session verdict)) else None

-- M_WAIT (RFC 8990, section 2.8.9)
unfoldable pub wait_of : List DataItem → Option Message
wait_of parts = if length parts == 3 then (at_place narrow_in parts 1 >>= λ session. at_place narrow_in parts 2 >>= λ millis. Some (Wait session millis)) else None

-- M_FLOOD (RFC 8990, section 2.8.11)
unfoldable pub flood_of : List DataItem → Option Message
flood_of parts = at_place narrow_in parts 1 >>= λ session. at_place address_in parts 2 >>= λ initiator. at_place narrow_in parts 3 >>= λ ttl.
    one_or_more flood_part_in (slice_range parts 4 (length parts)) >>= λ told. Some (Flood session initiator ttl told)

-- M_INVALID (RFC 8990, section 2.8.12)
unfoldable pub invalid_of : List DataItem → Option Message
invalid_of parts = at_place narrow_in parts 1 >>= λ session. last_at value_in parts 2 >>= λ detail. Some (Invalid session detail)

-- the message of this kind whose array has these parts
unfoldable pub message_of_kind : ℕ → List DataItem → Option Message
message_of_kind kind parts =
    if kind == 0 then noop_of parts
    else if kind == 1 then discovery_of parts
    else if kind == 2 then response_of parts
    else if kind == 3 then req_neg_of parts
    else if kind == 4 then req_syn_of parts
    else if kind == 5 then negotiate_of parts
    else if kind == 6 then end_of parts
    else if kind == 7 then wait_of parts
    else if kind == 8 then synch_of parts
    else if kind == 9 then flood_of parts
    else if kind == 99 then invalid_of parts
    else None

-- the message whose array has these parts
unfoldable pub message_of : List DataItem → Option Message
message_of parts = at_place number_in parts 0 >>= λ kind. message_of_kind kind parts

-- the message that the item is
unfoldable pub message_in : DataItem → Option Message
message_in t = parts_in t >>= message_of
