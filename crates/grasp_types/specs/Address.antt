-- Addresses and locators as data items, and their ranges.
use Rattle.std.specs.Prelude.{ℕ, Bool, true, false, ◌<◌, ◌^◌, List, [], ◌∷◌, Option, Some, None, IfSome}
use Rattle.std.specs.Int.{to_be_bytes, w32, w128}
use Rattle.std.specs.Str.{IsUtf8}
use Rattle.grasp_cbor.specs.DataItem.{DataItem, unsigned, byte_string, text_string, simple_value, array_of}
use Rattle.grasp_types.specs.declared.address.Address.{Address}
use Rattle.grasp_types.specs.declared.address.Address.TheVariants as address
use Rattle.grasp_types.specs.declared.address.Locator.{Locator}
use Rattle.grasp_types.specs.declared.address.Locator.TheVariants.{V6, V4, Fqdn, Uri}
use Rattle.grasp_types.specs.declared.address.Proto.{Proto}
use Rattle.grasp_types.specs.declared.address.Proto.TheVariants.{Tcp, Udp}

-- the 4 or 16 bytes of an address, the most significant first
abbrev pub address_bytes : Address → List ℕ
address_bytes (address.V4 n) = to_be_bytes w32 n
address_bytes (address.V6 n) = to_be_bytes w128 n

-- an address is the byte string of its bytes (RFC 8990, section 4)
abbrev pub address_item : Address → DataItem
address_item a = byte_string (address_bytes a)

-- a transport protocol is its number (RFC 8990, section 2.9.5)
abbrev pub proto_item : Proto → DataItem
proto_item Tcp = unsigned 6
proto_item Udp = unsigned 17

-- null stands for a part that isn't there
abbrev pub proto_or_null : Option Proto → DataItem
proto_or_null None = simple_value 22
proto_or_null (Some proto) = proto_item proto

abbrev pub port_or_null : Option ℕ → DataItem
port_or_null None = simple_value 22
port_or_null (Some port) = unsigned port

-- a locator option
abbrev pub locator_item : Locator → DataItem
-- O_IPv6_LOCATOR (RFC 8990, section 2.9.5.1)
locator_item (V6 n proto port) = array_of (unsigned 103 ∷ byte_string (to_be_bytes w128 n) ∷ proto_item proto ∷ unsigned port ∷ [])
-- O_IPv4_LOCATOR (RFC 8990, section 2.9.5.2)
locator_item (V4 n proto port) = array_of (unsigned 104 ∷ byte_string (to_be_bytes w32 n) ∷ proto_item proto ∷ unsigned port ∷ [])
-- O_FQDN_LOCATOR (RFC 8990, section 2.9.5.3)
locator_item (Fqdn name proto port) = array_of (unsigned 105 ∷ text_string name ∷ proto_item proto ∷ unsigned port ∷ [])
-- O_URI_LOCATOR (RFC 8990, section 2.9.5.4)
locator_item (Uri text proto port) = array_of (unsigned 106 ∷ text_string text ∷ proto_or_null proto ∷ port_or_null port ∷ [])

-- the number is within its type's range
abbrev pub IsAddress : Address → Type 0
IsAddress (address.V4 n) = n < 2 ^ 32
IsAddress (address.V6 n) = n < 2 ^ 128

-- the numbers are within their types' ranges, and a text is UTF-8
abbrev pub IsLocator : Locator → Type 0
IsLocator (V6 n proto port) = (n < 2 ^ 128) × (port < 2 ^ 16)
IsLocator (V4 n proto port) = (n < 2 ^ 32) × (port < 2 ^ 16)
IsLocator (Fqdn name proto port) = IsUtf8 name × (port < 2 ^ 16)
IsLocator (Uri text proto port) = IsUtf8 text × IfSome port (λ p. p < 2 ^ 16)

-- the transport protocol is TCP
abbrev pub is_tcp : Proto → Bool
is_tcp Tcp = true
is_tcp Udp = false

-- the locator is an IPv6 or IPv4 address with TCP, to which a stream can be opened
abbrev pub is_dialable : Locator → Bool
is_dialable (V6 n proto port) = is_tcp proto
is_dialable (V4 n proto port) = is_tcp proto
is_dialable (Fqdn name proto port) = false
is_dialable (Uri text proto port) = false
