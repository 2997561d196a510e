-- The data item of a message that is short enough has its numbers in range.
use Rattle.std.proofs.Common.{ℕ, suc, ◌+◌, ◌^◌, ◌<◌, ◌≤◌, Bool, true, false, cond, List, [], ◌∷◌, ◌++◌, All, map, Option, Some, None, IfSome, option_map, length, length-append, arith, rules}
use Rattle.std.specs.Prelude.{nat_lt}
use Rattle.std.specs.Str.{IsUtf8}
use Rattle.grasp_cbor.specs.DataItem.{DataItem, unsigned, negative, byte_string, text_string, array, mapping, tagged, simple_value, array_of, data_items, item_count}
use Rattle.grasp_cbor.specs.Encodable.{IsEncodable, AreEncodable}
use Rattle.grasp_cbor.specs.Head.{HeadSize, direct, sized_head, shortest_size, shortest_head}
use Rattle.grasp_cbor.specs.Shortest.{shortest}
use Rattle.grasp_cbor.proofs.Counts.{item_count-data_items}
use Rattle.grasp_cbor.proofs.Facts.Numbers.{all_bytes}
use Rattle.grasp_cbor.proofs.Shortest.{Encodes-shortest}
use Rattle.grasp_types.specs.declared.address.Address.{Address}
use Rattle.grasp_types.specs.declared.address.Address.TheVariants as address
use Rattle.grasp_types.specs.declared.address.Locator.{Locator}
use Rattle.grasp_types.specs.declared.address.Locator.TheVariants.{V6, V4, Fqdn, Uri}
use Rattle.grasp_types.specs.declared.address.Proto.{Proto}
use Rattle.grasp_types.specs.declared.address.Proto.TheVariants.{Tcp, Udp}
use Rattle.grasp_types.specs.declared.flood.FloodPart.{FloodPart}
use Rattle.grasp_types.specs.declared.message.Answer.{Answer}
use Rattle.grasp_types.specs.declared.message.Answer.TheVariants.{Locators, Divert}
use Rattle.grasp_types.specs.declared.message.Message.{Message}
use Rattle.grasp_types.specs.declared.message.Message.TheVariants.{Noop, Discovery, Response, ReqNeg, ReqSyn, Negotiate, End, Wait, Synch, Flood, Invalid}
use Rattle.grasp_types.specs.declared.message.Verdict.{Verdict}
use Rattle.grasp_types.specs.declared.message.Verdict.TheVariants.{Accept, Decline}
use Rattle.grasp_types.specs.declared.objective.Objective.{Objective}
use Rattle.grasp_types.specs.Address.{address_item, proto_item, proto_or_null, port_or_null, locator_item, IsLocator}
use Rattle.grasp_types.specs.Objective.{optional, objective_item, IsValue, IsObjective}
use Rattle.grasp_types.specs.Message.{verdict_item, answer_items, locator_or_empty, flood_part_item, item_of, IsVerdict, IsAnswer, IsFloodPart, IsMessage}
use Rattle.grasp_types.proofs.Depths.{message_depth}
use Rattle.grasp_wire.specs.Parts.{shortest_parts}
use Rattle.grasp_wire.specs.Wire.{IsWireForm}

-- the item's numbers are in range if its shortest encoding has fewer than 2 ^ 64 bytes
abbrev pub IsFine : DataItem → Type 0
IsFine t = length (shortest t) < 2 ^ 64 → IsEncodable t

-- each of them is so
abbrev AreFine : List DataItem → Type 0
AreFine [] = Unit {0}
AreFine (t ∷ ts) = IsFine t × AreFine ts

-- ---- each item has a byte

sized_some : (size : HeadSize) (major n : ℕ) → 1 ≤ length (sized_head size major n)
sized_some direct major n = omega arith
sized_some _ major n = omega arith

head_some : (major n : ℕ) → 1 ≤ length (shortest_head major n)
unfolding shortest_head
head_some major n = sized_some (shortest_size n) major n

front_some : (s t : List ℕ) → 1 ≤ length s → 1 ≤ length (s ++ t)
front_some s t h = omega (arith, length-append s t)

simple_some : (b : Bool) (n : ℕ) → 1 ≤ length (cond b ((224 + n) ∷ []) (248 ∷ n ∷ []))
simple_some true n = omega arith
simple_some false n = omega arith

item_some : (t : DataItem) → 1 ≤ length (shortest t)
item_some (unsigned n) = head_some 0 n
item_some (negative n) = head_some 1 n
item_some (byte_string bs) = front_some _ _ (head_some 2 _)
item_some (text_string bs) = front_some _ _ (head_some 3 _)
item_some (array ts) = front_some _ _ (head_some 4 _)
item_some (mapping es) = front_some _ _ (head_some 5 _)
item_some (tagged n t) = front_some _ _ (head_some 6 _)
item_some (simple_value n) = simple_some (nat_lt n 24) n
item_some _ = omega arith

parts_some : (ts : List DataItem) → length ts ≤ length (shortest_parts ts)
parts_some [] = omega arith
parts_some (t ∷ ts) = omega (arith, item_some t, parts_some ts, length-append (shortest t) (shortest_parts ts))

-- ---- lists of items

each_fine : (ts : List DataItem) → AreFine ts → length (shortest_parts ts) < 2 ^ 64 → AreEncodable (data_items ts)
each_fine [] f h = tt
each_fine (t ∷ ts) f h = let both = length-append (shortest t) (shortest_parts ts) in (f.0 (omega (arith, h, both)), each_fine ts f.1 (omega (arith, h, both)))

array_fine : (ts : List DataItem) → AreFine ts → IsFine (array_of ts)
array_fine ts f h =
    let both = length-append (shortest_head 4 (item_count (data_items ts))) (shortest_parts ts) in
    (omega (arith, h, both, parts_some ts, item_count-data_items ts), each_fine ts f (omega (arith, h, both)))

joined_fine : (ts us : List DataItem) → AreFine ts → AreFine us → AreFine (ts ++ us)
joined_fine [] us f g = g
joined_fine (t ∷ ts) us f g = (f.0, joined_fine ts us f.1 g)

mapped_fine : {X : Type 0} (item : X → DataItem) (P : X → Type 0) → ((x : X) → P x → IsFine (item x)) → (xs : List X) → All P xs → AreFine (map item xs)
mapped_fine item P fine [] all = tt
mapped_fine item P fine (x ∷ xs) all = (fine x (all 0 x (omega arith)), mapped_fine item P fine xs (λ k d lt. all (suc k) d (omega arith)))

optional_fine : (t : Option DataItem) → IfSome t IsFine → AreFine (optional t)
optional_fine None f = tt
optional_fine (Some t) f = (f, tt)

-- ---- the parts of messages

number_fine : (n : ℕ) → n < 2 ^ 64 → IsFine (unsigned n)
number_fine n h short = h

text_fine : (bs : List ℕ) → IsUtf8 bs → IsFine (text_string bs)
text_fine bs u short = (omega (arith, short, length-append (shortest_head 3 (length bs)) bs), u)

address_fine : (a : Address) → IsFine (address_item a)
address_fine (address.V4 n) short = (omega arith, all_bytes 4 n)
address_fine (address.V6 n) short = (omega arith, all_bytes 16 n)

proto_fine : (p : Proto) → IsFine (proto_item p)
proto_fine Tcp = number_fine 6 (omega arith)
proto_fine Udp = number_fine 17 (omega arith)

some_proto_fine : (p : Option Proto) → IsFine (proto_or_null p)
some_proto_fine None = λ short. (search rules, omega arith)
some_proto_fine (Some p) = proto_fine p

some_port_fine : (p : Option ℕ) → IfSome p (λ n. n < 2 ^ 16) → IsFine (port_or_null p)
some_port_fine None h = λ short. (search rules, omega arith)
some_port_fine (Some n) h = number_fine n (omega (arith, h))

locator_fine : (l : Locator) → IsLocator l → IsFine (locator_item l)
locator_fine (V6 n proto port) h =
    array_fine (unsigned 103 ∷ address_item (address.V6 n) ∷ proto_item proto ∷ unsigned port ∷ [])
    (number_fine 103 (omega arith), (address_fine (address.V6 n), (proto_fine proto, (number_fine port (omega (arith, h.1)), tt))))
locator_fine (V4 n proto port) h =
    array_fine (unsigned 104 ∷ address_item (address.V4 n) ∷ proto_item proto ∷ unsigned port ∷ [])
    (number_fine 104 (omega arith), (address_fine (address.V4 n), (proto_fine proto, (number_fine port (omega (arith, h.1)), tt))))
locator_fine (Fqdn name proto port) h =
    array_fine (unsigned 105 ∷ text_string name ∷ proto_item proto ∷ unsigned port ∷ [])
    (number_fine 105 (omega arith), (text_fine name h.0, (proto_fine proto, (number_fine port (omega (arith, h.1)), tt))))
locator_fine (Uri text proto port) h =
    array_fine (unsigned 106 ∷ text_string text ∷ proto_or_null proto ∷ port_or_null port ∷ [])
    (number_fine 106 (omega arith), (text_fine text h.0, (some_proto_fine proto, (some_port_fine port h.1, tt))))

some_locator_fine : (l : Option Locator) → IfSome l IsLocator → IsFine (locator_or_empty l)
some_locator_fine None h = array_fine [] tt
some_locator_fine (Some l) h = locator_fine l h

value_fine : (t : Option DataItem) → IfSome t IsValue → IfSome t IsFine
value_fine None h = tt
value_fine (Some t) h = λ short. h.encodable

objective_fine : (o : Objective) → IsObjective o → IsFine (objective_item o)
objective_fine o h =
    array_fine (text_string o.name ∷ unsigned o.flags ∷ unsigned o.loops ∷ optional o.value)
    (text_fine o.name h.name, (number_fine o.flags (omega (arith, h.flags)), (number_fine o.loops (omega (arith, h.loops)), optional_fine o.value (value_fine o.value h.value))))

some_objective_fine : (o : Option Objective) → IfSome o IsObjective → IfSome (option_map objective_item o) IsFine
some_objective_fine None h = tt
some_objective_fine (Some o) h = objective_fine o h

some_text_fine : (o : Option (List ℕ)) → IfSome o IsUtf8 → IfSome (option_map text_string o) IsFine
some_text_fine None h = tt
some_text_fine (Some bs) h = text_fine bs h

verdict_fine : (v : Verdict) → IsVerdict v → IsFine (verdict_item v)
verdict_fine Accept h = array_fine (unsigned 101 ∷ []) (number_fine 101 (omega arith), tt)
verdict_fine (Decline reason) h = array_fine (unsigned 102 ∷ optional (option_map text_string reason)) (number_fine 102 (omega arith), optional_fine (option_map text_string reason) (some_text_fine reason h))

answer_fine : (a : Answer) → IsAnswer a → AreFine (answer_items a)
answer_fine (Locators ls) h = mapped_fine locator_item IsLocator locator_fine ls h.each
answer_fine (Divert ls) h = (array_fine (unsigned 100 ∷ map locator_item ls) (number_fine 100 (omega arith), mapped_fine locator_item IsLocator locator_fine ls h.each), tt)

part_fine : (p : FloodPart) → IsFloodPart p → IsFine (flood_part_item p)
part_fine p h = array_fine (objective_item p.objective ∷ locator_or_empty p.locator ∷ []) (objective_fine p.objective h.objective, (some_locator_fine p.locator h.locator, tt))

about_fine : (number session : ℕ) (o : Objective) → number < 100 → session < 2 ^ 32 → IsObjective o → IsFine (array_of (unsigned number ∷ unsigned session ∷ objective_item o ∷ []))
about_fine number session o n s h = array_fine (unsigned number ∷ unsigned session ∷ objective_item o ∷ []) (number_fine number (omega arith), (number_fine session (omega arith), (objective_fine o h, tt)))

pub message_fine : (m : Message) → IsMessage m → IsFine (item_of m)
message_fine Noop h = array_fine (unsigned 0 ∷ []) (number_fine 0 (omega arith), tt)
message_fine (Discovery session initiator objective) h =
    array_fine (unsigned 1 ∷ unsigned session ∷ address_item initiator ∷ objective_item objective ∷ [])
    (number_fine 1 (omega arith), (number_fine session (omega (arith, h.0)), (address_fine initiator, (objective_fine objective h.2, tt))))
message_fine (Response session initiator ttl answer objective) h =
    array_fine (unsigned 2 ∷ unsigned session ∷ address_item initiator ∷ unsigned ttl ∷ (answer_items answer ++ optional (option_map objective_item objective)))
    (number_fine 2 (omega arith), (number_fine session (omega (arith, h.0)), (address_fine initiator, (number_fine ttl (omega (arith, h.2)), joined_fine (answer_items answer) (optional (option_map objective_item objective)) (answer_fine answer h.3) (optional_fine (option_map objective_item objective) (some_objective_fine objective h.4))))))
message_fine (ReqNeg session objective) h = about_fine 3 session objective (omega arith) h.0 h.1
message_fine (ReqSyn session objective) h = about_fine 4 session objective (omega arith) h.0 h.1
message_fine (Negotiate session objective) h = about_fine 5 session objective (omega arith) h.0 h.1
message_fine (End session verdict) h = array_fine (unsigned 6 ∷ unsigned session ∷ verdict_item verdict ∷ []) (number_fine 6 (omega arith), (number_fine session (omega (arith, h.0)), (verdict_fine verdict h.1, tt)))
message_fine (Wait session millis) h = array_fine (unsigned 7 ∷ unsigned session ∷ unsigned millis ∷ []) (number_fine 7 (omega arith), (number_fine session (omega (arith, h.0)), (number_fine millis (omega (arith, h.1)), tt)))
message_fine (Synch session objective) h = about_fine 8 session objective (omega arith) h.0 h.1
message_fine (Flood session initiator ttl parts) h =
    array_fine (unsigned 9 ∷ unsigned session ∷ address_item initiator ∷ unsigned ttl ∷ map flood_part_item parts)
    (number_fine 9 (omega arith), (number_fine session (omega (arith, h.0)), (address_fine initiator, (number_fine ttl (omega (arith, h.2)), mapped_fine flood_part_item IsFloodPart part_fine parts h.3.each))))
message_fine (Invalid session detail) h =
    array_fine (unsigned 99 ∷ unsigned session ∷ optional detail)
    (number_fine 99 (omega arith), (number_fine session (omega (arith, h.0)), optional_fine detail (value_fine detail h.1)))

pub shortest_is_form : (m : Message) (limit : ℕ) → limit < 2 ^ 64 → IsMessage m → length (shortest (item_of m)) ≤ limit → IsWireForm m (shortest (item_of m)) limit
shortest_is_form m limit below is short = record {
  is_message = is;
  encodes = Encodes-shortest (item_of m) (message_fine m is (omega (arith, below, short))) (message_depth m is);
  fits = short;
}
