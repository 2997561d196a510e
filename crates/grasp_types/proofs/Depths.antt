-- How deep the data items of messages and of their parts nest.
use Rattle.std.proofs.Common.{◌≡◌, ℕ, suc, ◌≤◌, List, [], ◌∷◌, ◌++◌, map, All, Option, Some, None, option_map, IfSome, refl, arith}
use Rattle.grasp_cbor.specs.DataItem.{DataItem, data_items, depth_of, items_depth}
use Rattle.grasp_types.specs.declared.address.Locator.{Locator}
use Rattle.grasp_types.specs.declared.address.Locator.TheVariants.{V6, V4, Fqdn, Uri}
use Rattle.grasp_types.specs.declared.address.Proto.{Proto}
use Rattle.grasp_types.specs.declared.address.Proto.TheVariants.{Tcp, Udp}
use Rattle.grasp_types.specs.declared.flood.FloodPart.{FloodPart}
use Rattle.grasp_types.specs.declared.message.Answer.{Answer}
use Rattle.grasp_types.specs.declared.message.Answer.TheVariants.{Locators, Divert}
use Rattle.grasp_types.specs.declared.message.Message.{Message}
use Rattle.grasp_types.specs.declared.message.Message.TheVariants.{Noop, Discovery, Response, ReqNeg, ReqSyn, Negotiate, End, Wait, Synch, Flood, Invalid}
use Rattle.grasp_types.specs.declared.message.Verdict.{Verdict}
use Rattle.grasp_types.specs.declared.message.Verdict.TheVariants.{Accept, Decline}
use Rattle.grasp_types.specs.declared.objective.Objective.{Objective}
use Rattle.grasp_types.specs.Address.{proto_item, proto_or_null, port_or_null, locator_item}
use Rattle.grasp_types.specs.Objective.{optional, objective_item, IsValue, IsObjective}
use Rattle.grasp_types.specs.Message.{verdict_item, answer_items, locator_or_empty, flood_part_item, item_of, IsMessage, IsFloodPart}

proto_depth : (p : Proto) → depth_of (proto_item p) ≡ 0
proto_depth Tcp = refl
proto_depth Udp = refl

some_proto_depth : (p : Option Proto) → depth_of (proto_or_null p) ≡ 0
some_proto_depth None = refl
some_proto_depth (Some p) = proto_depth p

some_port_depth : (p : Option ℕ) → depth_of (port_or_null p) ≡ 0
some_port_depth None = refl
some_port_depth (Some n) = refl

locator_depth : (l : Locator) → depth_of (locator_item l) ≤ 1
locator_depth (V6 n proto port) = omega (arith, proto_depth proto)
locator_depth (V4 n proto port) = omega (arith, proto_depth proto)
locator_depth (Fqdn name proto port) = omega (arith, proto_depth proto)
locator_depth (Uri text proto port) = omega (arith, some_proto_depth proto, some_port_depth port)

locators_depth : (ls : List Locator) → items_depth (data_items (map locator_item ls)) ≤ 1
locators_depth [] = omega arith
locators_depth (l ∷ ls) = omega (arith, locator_depth l, locators_depth ls)

optional_depth : (n : ℕ) (t : Option DataItem) → IfSome t (λ x. depth_of x ≤ n) → items_depth (data_items (optional t)) ≤ n
optional_depth n None h = omega arith
optional_depth n (Some t) h = omega (arith, h)

value_depth : (t : Option DataItem) → IfSome t IsValue → items_depth (data_items (optional t)) ≤ 13
value_depth None h = omega arith
value_depth (Some t) h = omega (arith, h.within)

objective_depth : (o : Objective) → IsObjective o → depth_of (objective_item o) ≤ 14
objective_depth o h = omega (arith, value_depth o.value h.value)

some_objective_depth : (o : Option Objective) → IfSome o IsObjective → IfSome (option_map objective_item o) (λ x. depth_of x ≤ 14)
some_objective_depth None h = h
some_objective_depth (Some o) h = objective_depth o h

verdict_depth : (v : Verdict) → depth_of (verdict_item v) ≤ 1
verdict_depth Accept = omega arith
verdict_depth (Decline None) = omega arith
verdict_depth (Decline (Some reason)) = omega arith

joined_depth : (n : ℕ) (xs ys : List DataItem) → items_depth (data_items xs) ≤ n → items_depth (data_items ys) ≤ n → items_depth (data_items (xs ++ ys)) ≤ n
joined_depth n [] ys h k = k
joined_depth n (x ∷ xs) ys h k = omega (arith, h, joined_depth n xs ys (omega (arith, h)) k)

answer_depth : (a : Answer) → items_depth (data_items (answer_items a)) ≤ 14
answer_depth (Locators ls) = omega (arith, locators_depth ls)
answer_depth (Divert ls) = omega (arith, locators_depth ls)

some_locator_depth : (l : Option Locator) → depth_of (locator_or_empty l) ≤ 1
some_locator_depth None = omega arith
some_locator_depth (Some l) = locator_depth l

parts_depth : (ps : List FloodPart) → All IsFloodPart ps → items_depth (data_items (map flood_part_item ps)) ≤ 15
parts_depth [] h = omega arith
parts_depth (p ∷ ps) h =
    let part : IsFloodPart p = h 0 p (omega arith)
    in omega (arith, objective_depth p.objective part.objective, some_locator_depth p.locator, parts_depth ps (λ k d lt. h (suc k) d (omega arith)))

pub message_depth : (m : Message) → IsMessage m → depth_of (item_of m) ≤ 16
message_depth Noop h = omega arith
message_depth (Discovery session initiator objective) h = omega (arith, objective_depth objective h.2)
message_depth (Response session initiator ttl answer objective) h =
    omega (arith, joined_depth 14 (answer_items answer) (optional (option_map objective_item objective)) (answer_depth answer) (optional_depth 14 (option_map objective_item objective) (some_objective_depth objective h.4)))
message_depth (ReqNeg session objective) h = omega (arith, objective_depth objective h.1)
message_depth (ReqSyn session objective) h = omega (arith, objective_depth objective h.1)
message_depth (Negotiate session objective) h = omega (arith, objective_depth objective h.1)
message_depth (End session verdict) h = omega (arith, verdict_depth verdict)
message_depth (Wait session millis) h = omega arith
message_depth (Synch session objective) h = omega (arith, objective_depth objective h.1)
message_depth (Flood session initiator ttl parts) h = omega (arith, parts_depth parts h.3.each)
message_depth (Invalid session detail) h = omega (arith, value_depth detail h.1)
