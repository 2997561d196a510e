-- The words of a configuration: where a node listens, and the prefixes that it begins with. The layout is this project's
-- own.
use Rattle.std.specs.Prelude.{◌≡◌, ℕ, ◌<◌, ◌^◌, ◌==◌, nat_lt, true, if◌then◌else◌, List, [], ◌∷◌, ◌++◌, length, Option, Some, None, decimal}
use Rattle.std.specs.List.{position_or_len, before_first, after_first}
use Rattle.grasp_pool.specs.declared.roots.RootPrefix.{RootPrefix}
use Rattle.grasp_text.specs.Line.{v4_word, v6_word}
use Rattle.grasp_text.specs.Reading.{address_of, number_of}
use Rattle.grasp_types.specs.Address.{is_dialable, IsLocator}
use Rattle.grasp_types.specs.declared.address.Address.{Address}
use Rattle.grasp_types.specs.declared.address.Address.TheVariants as address
use Rattle.grasp_types.specs.declared.address.Locator.{Locator}
use Rattle.grasp_types.specs.declared.address.Locator.TheVariants.{V6, V4, Fqdn, Uri}
use Rattle.grasp_types.specs.declared.address.Proto.TheVariants.{Tcp}
use Rattle.grasp_config.specs.Table.{◌>>=◌}

-- what stands before the first such byte, and what stands behind it, where there is one
abbrev pub parted : ℕ → List ℕ → Option (List ℕ × List ℕ)
parted byte text = if nat_lt (position_or_len (λ b. b == byte) text) (length text) then Some (before_first (λ b. b == byte) text, after_first (λ b. b == byte) text) else None

-- a port of an address, with TCP
abbrev pub endpoint_at : Address → ℕ → Locator
endpoint_at (address.V4 n) port = V4 n Tcp port
endpoint_at (address.V6 n) port = V6 n Tcp port

-- `ADDRESS:PORT`
unfoldable pub endpoint_of : List ℕ → Option Locator
endpoint_of word = do
  parts ← parted 58 word
  address ← address_of parts.0
  port ← number_of 65535 parts.1
  Some (endpoint_at address port)

-- the number of an IPv6 address
abbrev pub v6_number : Address → Option ℕ
v6_number (address.V4 n) = None
v6_number (address.V6 n) = Some n

-- `ADDRESS/LENGTH`, with an IPv6 address
unfoldable pub root_of : List ℕ → Option RootPrefix
root_of word = do
  parts ← parted 47 word
  address ← address_of parts.0 >>= v6_number
  length ← number_of 255 parts.1
  Some (record { address = address; length = length })

-- the word of a place where streams are taken, an IPv4 or IPv6 locator with TCP
abbrev pub endpoint_word : Locator → List ℕ
endpoint_word (V6 n proto port) = v6_word n ++ 58 ∷ decimal port
endpoint_word (V4 n proto port) = v4_word n ++ 58 ∷ decimal port
endpoint_word (Fqdn name proto port) = []
endpoint_word (Uri text proto port) = []

abbrev pub IsEndpoint : Locator → Type 0
IsEndpoint locator = (is_dialable locator ≡ true) × IsLocator locator

-- the word of a root, whose numbers are within their types' ranges
abbrev pub root_word : RootPrefix → List ℕ
root_word root = v6_word root.address ++ 47 ∷ decimal root.length

abbrev pub IsRoot : RootPrefix → Type 0
IsRoot root = (root.address < 2 ^ 128) × (root.length < 2 ^ 8)
