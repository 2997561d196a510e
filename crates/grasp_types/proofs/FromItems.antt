-- A message comes back from its data item, so no two messages have the same one.
use Rattle.std.proofs.Common.{◌≡◌, ℕ, Bool, true, false, if◌then◌else◌, ◌==◌, List, [], ◌∷◌, ◌++◌, length, map, All, Option, Some, None, option_map, IfSome, refl, sym, ◌∙◌, ap, arith}
use Rattle.grasp_cbor.proofs.Facts.Lists.{all_first, all_rest}
use Rattle.grasp_cbor.specs.DataItem.{DataItem, DataItems, unsigned, byte_string, text_string, simple_value, array, no_items, item_and, data_items}
use Rattle.grasp_types.specs.declared.address.Address.{Address}
use Rattle.grasp_types.specs.declared.address.Address.TheVariants as address
use Rattle.grasp_types.specs.declared.address.Locator.{Locator}
use Rattle.grasp_types.specs.declared.address.Locator.TheVariants.{V6, V4, Fqdn, Uri}
use Rattle.grasp_types.specs.declared.address.Proto.{Proto}
use Rattle.grasp_types.specs.declared.address.Proto.TheVariants.{Tcp, Udp}
use Rattle.grasp_types.specs.declared.flood.FloodPart.{FloodPart}
use Rattle.grasp_types.specs.declared.message.Answer.{Answer}
use Rattle.grasp_types.specs.declared.message.Answer.TheVariants.{Locators, Divert}
use Rattle.grasp_types.specs.declared.message.Message.{Message}
use Rattle.grasp_types.specs.declared.message.Message.TheVariants.{Noop, Discovery, Response, ReqNeg, ReqSyn, Negotiate, End, Wait, Synch, Flood, Invalid}
use Rattle.grasp_types.specs.declared.message.Verdict.{Verdict}
use Rattle.grasp_types.specs.declared.message.Verdict.TheVariants.{Accept, Decline}
use Rattle.grasp_types.specs.declared.objective.Objective.{Objective}
use Rattle.grasp_types.specs.Address.{address_item, proto_item, proto_or_null, port_or_null, locator_item, IsAddress, IsLocator}
use Rattle.grasp_types.specs.Objective.{optional, objective_item}
use Rattle.grasp_types.specs.Message.{verdict_item, answer_items, locator_or_empty, flood_part_item, item_of, IsMessage, IsAnswer, IsFloodPart}
use Rattle.grasp_types.proofs.BigEndian.{joined, joined-to_be_bytes_4, joined-to_be_bytes_16}

abbrev listed : DataItems → List DataItem
listed no_items = []
listed (item_and t ts) = t ∷ listed ts

listed-data_items : (ts : List DataItem) → listed (data_items ts) ≡ ts
listed-data_items [] = refl
listed-data_items (t ∷ ts) = ap (λ us. t ∷ us) (listed-data_items ts)

abbrev parts : DataItem → List DataItem
parts (array ts) = listed ts
parts _ = []

abbrev number_in : DataItem → ℕ
number_in (unsigned n) = n
number_in _ = 0

abbrev bytes_in : DataItem → List ℕ
bytes_in (byte_string bs) = bs
bytes_in (text_string bs) = bs
bytes_in _ = []

abbrev is_text : DataItem → Bool
is_text (text_string bs) = true
is_text _ = false

abbrev is_null : DataItem → Bool
is_null (simple_value n) = true
is_null _ = false

abbrev first : List DataItem → DataItem
first [] = simple_value 22
first (t ∷ ts) = t

abbrev rest : List DataItem → List DataItem
rest [] = []
rest (t ∷ ts) = ts

abbrev kind_in : DataItem → ℕ
kind_in t = number_in (first (parts t))

abbrev some_in : List DataItem → Option DataItem
some_in [] = None
some_in (t ∷ ts) = Some t

some_in-optional : (v : Option DataItem) → some_in (listed (data_items (optional v))) ≡ v
some_in-optional None = refl
some_in-optional (Some t) = refl

-- addresses and locators

abbrev address_in : DataItem → Address
address_in t = if length (bytes_in t) == 4 then address.V4 (joined 0 (bytes_in t)) else address.V6 (joined 0 (bytes_in t))

address_in-item : (a : Address) → IsAddress a → address_in (address_item a) ≡ a
address_in-item (address.V4 n) fits = ap address.V4 (joined-to_be_bytes_4 n fits)
address_in-item (address.V6 n) fits = ap address.V6 (joined-to_be_bytes_16 n fits)

abbrev proto_in : DataItem → Proto
proto_in t = if number_in t == 6 then Tcp else Udp

proto_in-item : (p : Proto) → proto_in (proto_item p) ≡ p
proto_in-item Tcp = refl
proto_in-item Udp = refl

abbrev some_proto_in : DataItem → Option Proto
some_proto_in t = if is_null t then None else Some (proto_in t)

some_proto_in-item : (p : Option Proto) → some_proto_in (proto_or_null p) ≡ p
some_proto_in-item None = refl
some_proto_in-item (Some Tcp) = refl
some_proto_in-item (Some Udp) = refl

abbrev some_port_in : DataItem → Option ℕ
some_port_in t = if is_null t then None else Some (number_in t)

some_port_in-item : (p : Option ℕ) → some_port_in (port_or_null p) ≡ p
some_port_in-item None = refl
some_port_in-item (Some n) = refl

abbrev locator_of : ℕ → DataItem → DataItem → DataItem → Locator
locator_of k a b c =
    if k == 103 then V6 (joined 0 (bytes_in a)) (proto_in b) (number_in c)
    else if k == 104 then V4 (joined 0 (bytes_in a)) (proto_in b) (number_in c)
    else if k == 105 then Fqdn (bytes_in a) (proto_in b) (number_in c)
    else Uri (bytes_in a) (some_proto_in b) (some_port_in c)

abbrev locator_in : DataItem → Locator
locator_in t = locator_of (kind_in t) (first (rest (parts t))) (first (rest (rest (parts t)))) (first (rest (rest (rest (parts t)))))

locator_in-item : (l : Locator) → IsLocator l → locator_in (locator_item l) ≡ l
locator_in-item (V6 n proto port) fits = λ i. V6 (joined-to_be_bytes_16 n fits.0 i) (proto_in-item proto i) port
locator_in-item (V4 n proto port) fits = λ i. V4 (joined-to_be_bytes_4 n fits.0 i) (proto_in-item proto i) port
locator_in-item (Fqdn name proto port) fits = λ i. Fqdn name (proto_in-item proto i) port
locator_in-item (Uri text proto port) fits = λ i. Uri text (some_proto_in-item proto i) (some_port_in-item port i)

-- objectives

abbrev objective_in : DataItem → Objective
objective_in t = record {
  name = bytes_in (first (parts t));
  flags = number_in (first (rest (parts t)));
  loops = number_in (first (rest (rest (parts t))));
  value = some_in (rest (rest (rest (parts t))));
}

objective_in-item : (o : Objective) → objective_in (objective_item o) ≡ o
objective_in-item o = λ i. record { name = o.name; flags = o.flags; loops = o.loops; value = some_in-optional o.value i }

abbrev is_objective : DataItem → Bool
is_objective t = is_text (first (parts t))

-- verdicts

abbrev verdict_in : DataItem → Verdict
verdict_in t = if kind_in t == 101 then Accept else Decline (option_map bytes_in (some_in (rest (parts t))))

verdict_in-item : (v : Verdict) → verdict_in (verdict_item v) ≡ v
verdict_in-item Accept = refl
verdict_in-item (Decline None) = refl
verdict_in-item (Decline (Some reason)) = refl

-- answers, and the objective after them

abbrev locators_in : List DataItem → List Locator
locators_in [] = []
locators_in (t ∷ ts) = if is_objective t then [] else locator_in t ∷ locators_in ts

abbrev told_in : List DataItem → Option Objective
told_in [] = None
told_in (t ∷ ts) = if is_objective t then Some (objective_in t) else told_in ts

told_in-optional : (o : Option Objective) → told_in (optional (option_map objective_item o)) ≡ o
told_in-optional None = refl
told_in-optional (Some o) = ap Some (objective_in-item o)

no_locators : (o : Option Objective) → locators_in (optional (option_map objective_item o)) ≡ []
no_locators None = refl
no_locators (Some o) = refl

is_no_objective : (l : Locator) → is_objective (locator_item l) ≡ false
is_no_objective (V6 n proto port) = refl
is_no_objective _ = refl

is_no_divert : (l : Locator) → (kind_in (locator_item l) == 100) ≡ false
is_no_divert (V6 n proto port) = refl
is_no_divert _ = refl

locators_in-locators : (ls : List Locator) (o : Option Objective) → All IsLocator ls → locators_in (map locator_item ls ++ optional (option_map objective_item o)) ≡ ls
locators_in-locators [] o h = no_locators o
locators_in-locators (l ∷ ls) o h =
    ap (λ b. if b then [] else locator_in (locator_item l) ∷ locators_in (map locator_item ls ++ optional (option_map objective_item o))) (is_no_objective l)
    ∙ (λ i. locator_in-item l (all_first IsLocator l ls h) i ∷ locators_in-locators ls o (all_rest IsLocator l ls h) i)

told_in-locators : (ls : List Locator) (o : Option Objective) → told_in (map locator_item ls ++ optional (option_map objective_item o)) ≡ o
told_in-locators [] o = told_in-optional o
told_in-locators (l ∷ ls) o =
    ap (λ b. if b then Some (objective_in (locator_item l)) else told_in (map locator_item ls ++ optional (option_map objective_item o))) (is_no_objective l)
    ∙ told_in-locators ls o

map-locator_in : (ls : List Locator) → All IsLocator ls → map locator_in (map locator_item ls) ≡ ls
map-locator_in [] h = refl
map-locator_in (l ∷ ls) h = λ i. locator_in-item l (all_first IsLocator l ls h) i ∷ map-locator_in ls (all_rest IsLocator l ls h) i

abbrev answer_in : List DataItem → Answer
answer_in ts = if kind_in (first ts) == 100 then Divert (map locator_in (rest (parts (first ts)))) else Locators (locators_in ts)

answer_in-items : (a : Answer) (o : Option Objective) → IsAnswer a → answer_in (answer_items a ++ optional (option_map objective_item o)) ≡ a
answer_in-items (Locators []) o h = absurd (omega (arith, h.some))
answer_in-items (Locators (l ∷ ls)) o h =
    ap (λ b. if b then Divert (map locator_in (rest (parts (locator_item l)))) else Locators (locators_in (map locator_item (l ∷ ls) ++ optional (option_map objective_item o)))) (is_no_divert l)
    ∙ ap Locators (locators_in-locators (l ∷ ls) o h.each)
answer_in-items (Divert ls) o h = ap (λ ts. Divert (map locator_in ts)) (listed-data_items (map locator_item ls)) ∙ ap Divert (map-locator_in ls h.each)

told_in-items : (a : Answer) (o : Option Objective) → told_in (answer_items a ++ optional (option_map objective_item o)) ≡ o
told_in-items (Locators ls) o = told_in-locators ls o
told_in-items (Divert ls) o = told_in-optional o

-- floods

abbrev some_locator_in : DataItem → Option Locator
some_locator_in t = if is_null (first (parts t)) then None else Some (locator_in t)

some_locator_in-item : (l : Option Locator) → IfSome l IsLocator → some_locator_in (locator_or_empty l) ≡ l
some_locator_in-item None h = refl
some_locator_in-item (Some (V6 n proto port)) h = ap Some (locator_in-item (V6 n proto port) h)
some_locator_in-item (Some (V4 n proto port)) h = ap Some (locator_in-item (V4 n proto port) h)
some_locator_in-item (Some (Fqdn name proto port)) h = ap Some (locator_in-item (Fqdn name proto port) h)
some_locator_in-item (Some (Uri text proto port)) h = ap Some (locator_in-item (Uri text proto port) h)

abbrev flood_part_in : DataItem → FloodPart
flood_part_in t = record { objective = objective_in (first (parts t)); locator = some_locator_in (first (rest (parts t))) }

flood_part_in-item : (p : FloodPart) → IsFloodPart p → flood_part_in (flood_part_item p) ≡ p
flood_part_in-item p h = λ i. record { objective = objective_in-item p.objective i; locator = some_locator_in-item p.locator h.locator i }

map-flood_part_in : (ps : List FloodPart) → All IsFloodPart ps → map flood_part_in (map flood_part_item ps) ≡ ps
map-flood_part_in [] h = refl
map-flood_part_in (p ∷ ps) h = λ i. flood_part_in-item p (all_first IsFloodPart p ps h) i ∷ map-flood_part_in ps (all_rest IsFloodPart p ps h) i

-- messages

abbrev message_of : ℕ → ℕ → List DataItem → Message
message_of k session ts =
    if k == 0 then Noop
    else if k == 1 then Discovery session (address_in (first ts)) (objective_in (first (rest ts)))
    else if k == 2 then Response session (address_in (first ts)) (number_in (first (rest ts))) (answer_in (rest (rest ts))) (told_in (rest (rest ts)))
    else if k == 3 then ReqNeg session (objective_in (first ts))
    else if k == 4 then ReqSyn session (objective_in (first ts))
    else if k == 5 then Negotiate session (objective_in (first ts))
    else if k == 6 then End session (verdict_in (first ts))
    else if k == 7 then Wait session (number_in (first ts))
    else if k == 8 then Synch session (objective_in (first ts))
    else if k == 9 then Flood session (address_in (first ts)) (number_in (first (rest ts))) (map flood_part_in (rest (rest ts)))
    else Invalid session (some_in ts)

abbrev message_in : DataItem → Message
message_in t = message_of (kind_in t) (number_in (first (rest (parts t)))) (rest (rest (parts t)))

pub message_in-item_of : (m : Message) → IsMessage m → message_in (item_of m) ≡ m
message_in-item_of Noop h = refl
message_in-item_of (Discovery session initiator objective) h = λ i. Discovery session (address_in-item initiator h.1 i) (objective_in-item objective i)
message_in-item_of (Response session initiator ttl answer objective) h =
    ap (λ ts. Response session (address_in (address_item initiator)) ttl (answer_in ts) (told_in ts)) (listed-data_items (answer_items answer ++ optional (option_map objective_item objective)))
    ∙ (λ i. Response session (address_in-item initiator h.1 i) ttl (answer_in-items answer objective h.3 i) (told_in-items answer objective i))
message_in-item_of (ReqNeg session objective) h = ap (ReqNeg session) (objective_in-item objective)
message_in-item_of (ReqSyn session objective) h = ap (ReqSyn session) (objective_in-item objective)
message_in-item_of (Negotiate session objective) h = ap (Negotiate session) (objective_in-item objective)
message_in-item_of (End session verdict) h = ap (End session) (verdict_in-item verdict)
message_in-item_of (Wait session millis) h = refl
message_in-item_of (Synch session objective) h = ap (Synch session) (objective_in-item objective)
message_in-item_of (Flood session initiator ttl parts) h =
    ap (λ ts. Flood session (address_in (address_item initiator)) ttl (map flood_part_in ts)) (listed-data_items (map flood_part_item parts))
    ∙ (λ i. Flood session (address_in-item initiator h.1 i) ttl (map-flood_part_in parts h.3.each i))
message_in-item_of (Invalid session detail) h = ap (Invalid session) (some_in-optional detail)

pub no_two_messages : (x y : Message) → IsMessage x → IsMessage y → item_of x ≡ item_of y → x ≡ y
no_two_messages x y h k e = sym (message_in-item_of x h) ∙ ap message_in e ∙ message_in-item_of y k
