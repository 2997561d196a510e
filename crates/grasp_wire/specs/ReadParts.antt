-- Inside: how the parts of messages are read from items (RFC 8990, sections 2.9 and 2.10).
use Rattle.std.specs.Prelude.{◌==◌, ◌+◌, ◌-◌, ◌^◌, ℕ, Option, Some, None, List, length, nat_le, if◌then◌else◌}
use Rattle.std.specs.Int.{from_be_bytes, w32, w128}
use Rattle.std.specs.List.{slice_range}
use Rattle.grasp_cbor.specs.DataItem.{DataItem, byte_string, depth_of}
use Rattle.grasp_types.specs.declared.address.Address.{Address}
use Rattle.grasp_types.specs.declared.address.Address.TheVariants as address
use Rattle.grasp_types.specs.declared.address.Locator.{Locator}
use Rattle.grasp_types.specs.declared.address.Locator.TheVariants.{V6, V4, Fqdn, Uri}
use Rattle.grasp_types.specs.declared.address.Proto.{Proto}
use Rattle.grasp_types.specs.declared.address.Proto.TheVariants.{Tcp, Udp}
use Rattle.grasp_types.specs.declared.flood.FloodPart.{FloodPart}
use Rattle.grasp_types.specs.declared.message.Answer.{Answer}
use Rattle.grasp_types.specs.declared.message.Answer.TheVariants.{Locators, Divert}
use Rattle.grasp_types.specs.declared.message.Verdict.{Verdict}
use Rattle.grasp_types.specs.declared.message.Verdict.TheVariants.{Accept, Decline}
use Rattle.grasp_types.specs.declared.objective.Objective.{Objective}
use Rattle.grasp_wire.specs.Reading.{◌>>=◌, at_place, number_in, below, text_in, parts_in, kind_in, has_text_first, test_at, or_null, last_at, one_or_more}

-- the number of 8 bits
unfoldable pub loops_in : DataItem → Option ℕ
loops_in t = number_in t >>= below (2 ^ 8)

-- the number of 16 bits
unfoldable pub port_in : DataItem → Option ℕ
port_in t = number_in t >>= below (2 ^ 16)

-- the number of 32 bits
unfoldable pub narrow_in : DataItem → Option ℕ
narrow_in t = number_in t >>= below (2 ^ 32)

-- the flags, of 4 bits (RFC 8990, section 2.10.2)
unfoldable pub flags_in : DataItem → Option ℕ
flags_in t = number_in t >>= below 16

-- the number of an IPv4 address of these bytes
abbrev pub ipv4_of : List ℕ → Option ℕ
ipv4_of bs = if length bs == 4 then Some (from_be_bytes w32 bs) else None

-- the number of an IPv6 address of these bytes
abbrev pub ipv6_of : List ℕ → Option ℕ
ipv6_of bs = if length bs == 16 then Some (from_be_bytes w128 bs) else None

-- the address of these bytes
abbrev pub address_of : List ℕ → Option Address
address_of bs =
    if length bs == 4 then Some (address.V4 (from_be_bytes w32 bs))
    else if length bs == 16 then Some (address.V6 (from_be_bytes w128 bs))
    else None

-- the bytes that the item is
abbrev pub bytes_in : DataItem → Option (List ℕ)
bytes_in (byte_string bs) = Some bs
bytes_in _ = None

-- the number of an IPv4 address
unfoldable pub ipv4_in : DataItem → Option ℕ
ipv4_in t = bytes_in t >>= ipv4_of

-- the number of an IPv6 address
unfoldable pub ipv6_in : DataItem → Option ℕ
ipv6_in t = bytes_in t >>= ipv6_of

-- the address
unfoldable pub address_in : DataItem → Option Address
address_in t = bytes_in t >>= address_of

-- the protocol of this number (RFC 8990, section 2.9.5)
abbrev pub proto_of : ℕ → Option Proto
proto_of n = if n == 6 then Some Tcp else if n == 17 then Some Udp else None

-- the protocol
unfoldable pub proto_in : DataItem → Option Proto
proto_in t = number_in t >>= proto_of

-- the IPv6 locator of these parts, of which the first is the kind
unfoldable pub v6_of : List DataItem → Option Locator
v6_of parts = at_place ipv6_in parts 1 >>= λ n. at_place proto_in parts 2 >>= λ proto. at_place port_in parts 3 >>= λ port. Some (V6 n proto port)

-- the IPv4 locator of these parts
unfoldable pub v4_of : List DataItem → Option Locator
v4_of parts = at_place ipv4_in parts 1 >>= λ n. at_place proto_in parts 2 >>= λ proto. at_place port_in parts 3 >>= λ port. Some (V4 n proto port)

-- the locator of these parts that has a domain name
unfoldable pub fqdn_of : List DataItem → Option Locator
fqdn_of parts = at_place text_in parts 1 >>= λ name. at_place proto_in parts 2 >>= λ proto. at_place port_in parts 3 >>= λ port. Some (Fqdn name proto port)

-- the URI locator of these parts
unfoldable pub uri_of : List DataItem → Option Locator
uri_of parts = at_place text_in parts 1 >>= λ text. at_place (or_null proto_in) parts 2 >>= λ proto. at_place (or_null port_in) parts 3 >>= λ port. Some (Uri text proto port)

-- the locator of this kind
unfoldable pub locator_of_kind : ℕ → List DataItem → Option Locator
locator_of_kind kind parts =
    if kind == 103 then v6_of parts
    else if kind == 104 then v4_of parts
    else if kind == 105 then fqdn_of parts
    else if kind == 106 then uri_of parts
    else None

-- the locator whose array has these parts
unfoldable pub locator_of : List DataItem → Option Locator
locator_of parts = if length parts == 4 then (at_place number_in parts 0 >>= λ kind. locator_of_kind kind parts) else None

-- the locator that the item is
unfoldable pub locator_in : DataItem → Option Locator
locator_in t = parts_in t >>= locator_of

-- the value that the item is: it nests at most 13 deep
unfoldable pub value_in : DataItem → Option DataItem
value_in t = if nat_le (depth_of t) 13 then Some t else None

-- the objective whose array has these parts
unfoldable pub objective_of : List DataItem → Option Objective
objective_of parts = at_place text_in parts 0 >>= λ name. at_place flags_in parts 1 >>= λ flags. at_place loops_in parts 2 >>= λ loops.
    last_at value_in parts 3 >>= λ value. Some (record { name = name; flags = flags; loops = loops; value = value })

-- the objective that the item is
unfoldable pub objective_in : DataItem → Option Objective
objective_in t = parts_in t >>= objective_of

-- the verdict whose array has these parts
unfoldable pub verdict_of : List DataItem → Option Verdict
verdict_of parts = at_place number_in parts 0 >>= λ kind.
    if kind == 101 then (if length parts == 1 then Some Accept else None)
    else if kind == 102 then (last_at text_in parts 1 >>= λ reason. Some (Decline reason))
    else None

-- the verdict that the item is
unfoldable pub verdict_in : DataItem → Option Verdict
verdict_in t = parts_in t >>= verdict_of

-- the locators that a divert holds
unfoldable pub divert_in : DataItem → Option (List Locator)
divert_in t = parts_in t >>= λ parts. one_or_more locator_in (slice_range parts 1 (length parts))

-- the answer that a divert alone is
unfoldable pub divert_answer : List DataItem → ℕ → Option Answer
divert_answer parts place = at_place divert_in parts place >>= λ locators. Some (Divert locators)

-- the answer that the locators at these places are
unfoldable pub locators_answer : List DataItem → ℕ → ℕ → Option Answer
locators_answer parts from to = one_or_more locator_in (slice_range parts from to) >>= λ locators. Some (Locators locators)

-- the answer at these places, which is told by the number that its first part begins with
unfoldable pub answer_between : List DataItem → ℕ → ℕ → Option Answer
answer_between parts from to = at_place kind_in parts from >>= λ kind.
    if kind == 100 then (if to == from + 1 then divert_answer parts from else None)
    else locators_answer parts from to

-- where a response's answer ends: before an objective, where one is last
unfoldable pub answer_end : List DataItem → ℕ
answer_end parts = if test_at has_text_first parts (length parts - 1) then length parts - 1 else length parts

-- the locator whose array has these parts, or none where it has no parts
unfoldable pub locator_or_empty_of : List DataItem → Option (Option Locator)
locator_or_empty_of parts = if length parts == 0 then Some None else (locator_of parts >>= λ locator. Some (Some locator))

-- the locator that the item is, or none where it is the empty array
unfoldable pub locator_or_empty_in : DataItem → Option (Option Locator)
locator_or_empty_in t = parts_in t >>= locator_or_empty_of

-- the part of a flood whose array has these parts
unfoldable pub flood_part_of : List DataItem → Option FloodPart
flood_part_of parts = if length parts == 2 then (at_place objective_in parts 0 >>= λ objective. at_place locator_or_empty_in parts 1 >>= λ locator.
    Some (record { objective = objective; locator = locator })) else None

-- the part of a flood that the item is
unfoldable pub flood_part_in : DataItem → Option FloodPart
flood_part_in t = parts_in t >>= flood_part_of
