-- The keys of the table `serve`: what each is read as, or none where it is bad.
use Rattle.std.specs.Prelude.{ℕ, ◌+◌, ◌*◌, ◌-◌, ◌/◌, ◌==◌, ◌&&◌, max, nat_le, if◌then◌else◌, Bool, true, false, not, List, [], ◌∷◌, length, Option, Some, None, codes}
use Rattle.std.specs.List.{list_all}
use Rattle.toml.specs.Data.{Data, Members, as_str, as_bool, get_member}
use Rattle.grasp_text.specs.Reading.{address_of, number_of}
use Rattle.grasp_types.specs.declared.address.Address.{Address}
use Rattle.grasp_types.specs.declared.address.Address.TheVariants as address
use Rattle.grasp_types.specs.declared.address.Locator.{Locator}
use Rattle.grasp_types.specs.declared.address.Locator.TheVariants.{V6, V4, Fqdn, Uri}
use Rattle.grasp_config.specs.Levels.{level_of}
use Rattle.grasp_config.specs.Parts.{keys_of}
use Rattle.grasp_config.specs.Table.{◌>>=◌, number_in, or_absent, list_of, has_only}
use Rattle.grasp_config.specs.Words.{parted, endpoint_of}
use Rattle.grasp_config.specs.declared.level.LogLevel.{LogLevel}
use Rattle.grasp_config.specs.declared.level.LogLevel.TheVariants.{Events}
use Rattle.grasp_config.specs.declared.serve.AllowedRange.{AllowedRange}
use Rattle.grasp_config.specs.declared.table.Part.TheVariants.{Serve}

-- what is read of a value, where there is one
abbrev pub if_there : {A : Type 0} → (Data → Option A) → Option Data → Option (Option A)
if_there read None = Some None
if_there read (Some value) = read value >>= λ a. Some (Some a)

-- a text of 1 to so many bytes
abbrev pub sized : ℕ → List ℕ → Option (List ℕ)
sized most text = if nat_le 1 (length text) && nat_le (length text) most then Some text else None

abbrev pub text_in : ℕ → Data → Option (List ℕ)
text_in most value = as_str value >>= sized most

-- the path of the socket at which the node is controlled
abbrev pub control_in : Members → Option (List ℕ)
control_in table = get_member (codes "control") table >>= text_in 107

-- the path of the socket for guests, where there is one
abbrev pub guests_in : Members → Option (Option (List ℕ))
guests_in table = if_there (text_in 107) (get_member (codes "guests") table)

-- the mode of both sockets: three octal digits, 600 where they are absent
abbrev pub is_octal : ℕ → Bool
is_octal digit = nat_le 48 digit && nat_le digit 55

unfoldable pub mode_of : List ℕ → Option ℕ
mode_of (a ∷ b ∷ c ∷ []) = if (is_octal a && is_octal b) && is_octal c then Some (64 * (a - 48) + 8 * (b - 48) + (c - 48)) else None
mode_of _ = None

abbrev pub mode_value : Data → Option ℕ
mode_value value = as_str value >>= mode_of

abbrev pub mode_in : Members → Option ℕ
mode_in table = or_absent 384 mode_value (get_member (codes "mode") table)

-- the value is `true`
abbrev pub or_false : Option Bool → Bool
or_false None = false
or_false (Some b) = b

abbrev pub is_said : Option Data → Bool
is_said found = or_false (found >>= as_bool)

-- the path of the store, which may be absent where the pool is to be forgotten
abbrev pub needed : {A : Type 0} → Bool → Option (Option A) → Option (Option A)
needed forgets None = None
needed forgets (Some None) = if forgets then Some None else None
needed forgets (Some (Some path)) = Some (Some path)

abbrev pub store_in : Members → Option (Option (List ℕ))
store_in table = needed (is_said (get_member (codes "forget") table)) (if_there (text_in 4095) (get_member (codes "store") table))

-- whether the pool is to be forgotten, which it isn't beside a store
abbrev pub alone : Option Data → Bool → Option Bool
alone None forgets = Some forgets
alone (Some store) true = None
alone (Some store) false = Some false

abbrev pub forget_in : Members → Option Bool
forget_in table = or_absent false as_bool (get_member (codes "forget") table) >>= alone (get_member (codes "store") table)

-- the locator that others are told: with an address that isn't all zeros, and a port that isn't 0
abbrev pub is_reachable : Locator → Bool
is_reachable (V6 n proto port) = not (n == 0) && not (port == 0)
is_reachable (V4 n proto port) = not (n == 0) && not (port == 0)
is_reachable (Fqdn name proto port) = false
is_reachable (Uri text proto port) = false

abbrev pub reachable : Locator → Option Locator
reachable locator = if is_reachable locator then Some locator else None

abbrev pub endpoint_value : Data → Option Locator
endpoint_value value = as_str value >>= endpoint_of

abbrev pub locator_in : Locator → Members → Option Locator
locator_in listen table = or_absent listen endpoint_value (get_member (codes "locator") table) >>= reachable

-- how many bits an address has
abbrev pub bits_of : Address → ℕ
bits_of (address.V4 n) = 32
bits_of (address.V6 n) = 128

-- `ADDRESS`, or `ADDRESS/LENGTH`
abbrev pub one_address : List ℕ → Option AllowedRange
one_address word = address_of word >>= λ address. Some (record { address = address; length = bits_of address })

unfoldable pub parted_range : List ℕ × List ℕ → Option AllowedRange
parted_range parts = do
  address ← address_of parts.0
  length ← number_of (bits_of address) parts.1
  Some (record { address = address; length = length })

abbrev pub range_by : List ℕ → Option (List ℕ × List ℕ) → Option AllowedRange
range_by word None = one_address word
range_by word (Some parts) = parted_range parts

unfoldable pub allowed_of : List ℕ → Option AllowedRange
allowed_of word = range_by word (parted 47 word)

abbrev pub allowed_value : Data → Option AllowedRange
allowed_value value = as_str value >>= allowed_of

-- who may open streams: one range or more, and everybody where they are absent
abbrev pub some_of : {A : Type 0} → List A → Option (List A)
some_of [] = None
some_of (first ∷ others) = Some (first ∷ others)

abbrev pub ranges_of : Data → Option (List AllowedRange)
ranges_of value = list_of allowed_value value >>= some_of

abbrev pub allow_in : Members → Option (List AllowedRange)
allow_in table = or_absent [] ranges_of (get_member (codes "allow") table)

-- how many streams of one address may be open
abbrev pub streams_in : Members → Option ℕ
streams_in table = or_absent 16 (number_in 1 64) (get_member (codes "streams") table)

-- the milliseconds for which a stream may give nothing
abbrev pub silence_in : Members → Option ℕ
silence_in table = or_absent 60000 (number_in 1000 3600000) (get_member (codes "silence") table)

-- the milliseconds until a want is tried again, and the most of them
abbrev pub retry_in : Members → Option ℕ
retry_in table = or_absent 1000 (number_in 100 3600000) (get_member (codes "retry") table)

abbrev pub least_of : Option ℕ → ℕ
least_of None = 100
least_of (Some retry) = retry

abbrev pub retry_most_in : Members → Option ℕ
retry_most_in table = or_absent (max (least_of (retry_in table)) 60000) (number_in (least_of (retry_in table)) 86400000) (get_member (codes "retry_most") table)

-- the milliseconds between two floods of a beacon, where they are the same for all
abbrev pub every_in : Members → Option (Option ℕ)
every_in table = if_there (number_in 1000 86400000) (get_member (codes "every") table)

-- else they are half of the value's lifetime, at least 1000, and 60000 where it never ends
abbrev pub pause_of : Option ℕ → ℕ → ℕ
pause_of (Some every) ttl = every
pause_of None ttl = if ttl == 0 then 60000 else max 1000 (ttl / 2)

-- the milliseconds from tick to tick
abbrev pub tick_in : Members → Option ℕ
tick_in table = or_absent 1000 (number_in 100 1000) (get_member (codes "tick") table)

-- how many visitors there may be at once
abbrev pub visitors_in : Members → Option ℕ
visitors_in table = or_absent 16 (number_in 1 64) (get_member (codes "visitors") table)

-- how much is logged
abbrev pub level_value : Data → Option LogLevel
level_value value = as_str value >>= level_of

abbrev pub log_in : Members → Option LogLevel
log_in table = or_absent Events level_value (get_member (codes "log") table)

-- the name that stands in the log, where there is one: 1 to 32 printable characters of ASCII
abbrev pub is_printable : ℕ → Bool
is_printable byte = nat_le 32 byte && nat_le byte 126

abbrev pub printable : List ℕ → Option (List ℕ)
printable text = if list_all is_printable text then Some text else None

abbrev pub name_value : Data → Option (List ℕ)
name_value value = text_in 32 value >>= printable

abbrev pub name_in : Members → Option (Option (List ℕ))
name_in table = if_there name_value (get_member (codes "name") table)

-- the table has no other keys than these
abbrev pub is_serve_known : Members → Bool
is_serve_known table = has_only (keys_of Serve) table
