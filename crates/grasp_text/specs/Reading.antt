-- Reading words from left to right, as functions: a value and the words after it, or how many bytes the line has from
-- the word on that doesn't fit. Public calls cite `Reads`, `word_at`, `end_at`, `exactly`, `maybe_of`, and `number_of`,
-- `text_of`, `value_of` and `address_of`, which the laws of Laws.antt determine, and those of crates above what isn't
-- marked as inside.
use Rattle.std.specs.Prelude.{◌≡◌, ℕ, ◌+◌, ◌-◌, ◌*◌, ◌/◌, ◌%◌, ◌==◌, Bool, true, not, nat_le, nat_lt, ◌&&◌, if◌then◌else◌, List, [], ◌∷◌, length, take, drop, Option, Some, None, Result, Ok, Err, codes, decimal, slice_index}
use Rattle.std.specs.List.{AllByRecursion}
use Rattle.std.specs.Int.{Width, w32, w128, from_be_bytes}
use Rattle.std.specs.Str.{is_utf8, bytes_eq}
use Rattle.std.specs.Str.Parse.{digits_value}
use Rattle.hex.specs.Hex.{decode_of, decode_sized, encode_lower, lower_digits}
use Rattle.hex.specs.declared.error.FromHexError.{FromHexError}
use Rattle.grasp_cbor.specs.Build.{item_at}
use Rattle.grasp_cbor.specs.DataItem.{DataItem}
use Rattle.grasp_cbor.specs.Shortest.{shortest}
use Rattle.grasp_types.specs.declared.address.Address.{Address}
use Rattle.grasp_types.specs.declared.address.Address.TheVariants as address
use Rattle.grasp_types.specs.declared.address.Proto.{Proto}
use Rattle.grasp_types.specs.declared.address.Proto.TheVariants.{Tcp, Udp}
use Rattle.grasp_text.specs.Words.{joined}
use Rattle.grasp_text.specs.declared.fault.WordFault.{WordFault}
use Rattle.grasp_text.specs.declared.fault.WordFault.TheVariants as faults

-- a value and the words after it, or how many bytes are left from the word on that doesn't fit
abbrev pub Parsed : Type 0 → Type 0
Parsed A = Result (A × List (List ℕ)) ℕ

infixl 10 ◌>>=◌
abbrev pub ◌>>=◌ : {A B : Type 0} → Result A ℕ → (A → Result B ℕ) → Result B ℕ
(Ok x) >>= f = f x
(Err e) >>= f = Err e

-- what a method returned and left, seen by view, is what reading gives, unless memory ran out
abbrev pub Fails : {Y : Type 0} → WordFault → Result Y ℕ → Type 0
Fails (faults.Unfit n) read = read ≡ Err n
Fails faults.OutOfMemory read = Unit {0}

abbrev pub Reads : {X Y : Type 0} → (X → Y) → Result X WordFault → List (List ℕ) → Parsed Y → Type 0
Reads view (Ok x) left read = read ≡ Ok (view x, left)
Reads view (Err e) left read = Fails e read

-- the value of a word, or this many bytes left
abbrev pub or_unfit : {A : Type 0} → List (List ℕ) → ℕ → Option A → Parsed A
or_unfit left n None = Err n
or_unfit left n (Some a) = Ok (a, left)

-- the next word, read by itself
abbrev pub word_at : {A : Type 0} → (List ℕ → Option A) → List (List ℕ) → Parsed A
word_at read [] = Err 0
word_at read (word ∷ words) = or_unfit words (length (joined (word ∷ words))) (read word)

-- a number up to most
unfoldable pub number_of : ℕ → List ℕ → Option ℕ
number_of most word = if bytes_eq (decimal (digits_value 10 word)) word && nat_le (digits_value 10 word) most then Some (digits_value 10 word) else None

abbrev pub decoded : Result (List ℕ) FromHexError → List ℕ → Option (List ℕ)
decoded (Ok bytes) word = if bytes_eq (encode_lower bytes) word then Some bytes else None
decoded (Err e) word = None

-- the bytes of lower-case hexadecimal digits
unfoldable pub bytes_of : List ℕ → Option (List ℕ)
bytes_of word = decoded (decode_of word) word

-- the number of the bytes that were decoded, where the digits are lower-case
abbrev pub number_of_hex : Width → List ℕ → Result (List ℕ) FromHexError → Option ℕ
number_of_hex w word (Ok bytes) = if bytes_eq (encode_lower bytes) word then Some (from_be_bytes w bytes) else None
number_of_hex w word (Err e) = None

unfoldable pub v4_of : List ℕ → Option ℕ
v4_of word = number_of_hex w32 word (decode_sized word 4)

unfoldable pub v6_of : List ℕ → Option ℕ
v6_of word = number_of_hex w128 word (decode_sized word 16)

abbrev pub either_address : Option ℕ → Option ℕ → Option Address
either_address (Some n) other = Some (address.V4 n)
either_address None (Some n) = Some (address.V6 n)
either_address None None = None

unfoldable pub address_of : List ℕ → Option Address
address_of word = either_address (v4_of word) (v6_of word)

-- a byte that stands for itself in a text's word
abbrev pub is_plain : ℕ → Bool
is_plain b = (nat_le 33 b && nat_le b 126) && not (b == 37)

-- Inside: each of the bytes stands for itself
abbrev pub ArePlain : List ℕ → Type 0
ArePlain bytes = AllByRecursion (λ b. is_plain b ≡ true) bytes

-- the value of a lower-case hexadecimal digit
abbrev pub digit_of : ℕ → Option ℕ
digit_of c = if nat_le 48 c && nat_le c 57 then Some (c - 48) else (if nat_le 97 c && nat_le c 102 then Some (c - 87) else None)

-- Inside: these two are the lower-case hexadecimal digits of the byte
abbrev pub AreDigitsOf : ℕ → ℕ → ℕ → Type 0
AreDigitsOf high low byte = (high ≡ slice_index lower_digits (byte / 16)) × (low ≡ slice_index lower_digits (byte % 16))

abbrev pub escaped_byte : Option ℕ → Option ℕ → Option ℕ
escaped_byte None low = None
escaped_byte (Some high) None = None
escaped_byte (Some high) (Some low) = if is_plain (high * 16 + low) then None else Some (high * 16 + low)

-- the byte of the two digits behind a percent sign, if it doesn't stand for itself
unfoldable pub byte_of : ℕ → ℕ → Option ℕ
byte_of high low = escaped_byte (digit_of high) (digit_of low)

-- a byte before the others
abbrev pub onto : Option ℕ → Option (List ℕ) → Option (List ℕ)
onto None others = None
onto (Some b) None = None
onto (Some b) (Some bytes) = Some (b ∷ bytes)

-- Inside: the byte of the first two digits, and what stands behind them
abbrev pub paired : Option ℕ → List ℕ → Option (ℕ × List ℕ)
paired None rest = None
paired (Some b) rest = Some (b, rest)

-- Inside: the byte of two digits, and what stands behind them
abbrev pub behind_percent : List ℕ → Option (ℕ × List ℕ)
behind_percent [] = None
behind_percent (high ∷ []) = None
behind_percent (high ∷ low ∷ rest) = paired (byte_of high low) rest

-- Inside: the first byte of those that are so escaped, and what stands behind it
unfoldable pub first_unescaped : List ℕ → Option (ℕ × List ℕ)
first_unescaped [] = None
first_unescaped (b ∷ rest) = if is_plain b then Some (b, rest) else (if b == 37 then behind_percent rest else None)

-- the bytes that are so escaped
unfoldable pub unescaped : List ℕ → Option (List ℕ)
unescaped [] = Some []
unescaped (b ∷ []) = if is_plain b then Some (b ∷ []) else None
unescaped (b ∷ c ∷ []) = if is_plain b then onto (Some b) (unescaped (c ∷ [])) else None
unescaped (b ∷ c ∷ d ∷ rest) = if is_plain b then onto (Some b) (unescaped (c ∷ d ∷ rest)) else (if b == 37 then onto (byte_of c d) (unescaped rest) else None)

abbrev pub as_text : Option (List ℕ) → Option (List ℕ)
as_text None = None
as_text (Some bytes) = if is_utf8 bytes then Some bytes else None

-- what stands behind this first byte
abbrev pub behind_byte : ℕ → List ℕ → Option (List ℕ)
behind_byte first [] = None
behind_byte first (b ∷ rest) = if b == first then Some rest else None

abbrev pub text_behind : Option (List ℕ) → Option (List ℕ)
text_behind None = None
text_behind (Some rest) = as_text (unescaped rest)

-- the text of a word
unfoldable pub text_of : List ℕ → Option (List ℕ)
text_of word = text_behind (behind_byte 39 word)

-- the item of all the bytes, where they are its shortest encoding
abbrev pub whole_value : List ℕ → DataItem → List ℕ → Option DataItem
whole_value bytes item [] = if bytes_eq (shortest item) bytes then Some item else None
whole_value bytes item (b ∷ rest) = None

abbrev pub as_value : List ℕ → Option (DataItem × List ℕ) → Option DataItem
as_value bytes None = None
as_value bytes (Some found) = whole_value bytes found.0 found.1

abbrev pub item_of_bytes : Option (List ℕ) → Option DataItem
item_of_bytes None = None
item_of_bytes (Some bytes) = as_value bytes (item_at 13 bytes)

abbrev pub value_behind : Option (List ℕ) → Option DataItem
value_behind None = None
value_behind (Some rest) = item_of_bytes (bytes_of rest)

-- the value of a word
unfoldable pub value_of : List ℕ → Option DataItem
value_of word = value_behind (behind_byte 120 word)

abbrev pub some_of : {A : Type 0} → Option A → Option (Option A)
some_of None = None
some_of (Some a) = Some (Some a)

-- the word for what is absent, or another
abbrev pub absent_or : {A : Type 0} → List ℕ → (List ℕ → Option A) → List ℕ → Option (Option A)
absent_or absent read word = if bytes_eq word absent then Some None else some_of (read word)

-- `-`, or another word
abbrev pub maybe_of : {A : Type 0} → (List ℕ → Option A) → List ℕ → Option (Option A)
maybe_of read word = absent_or (codes "-") read word

-- the word itself
abbrev pub exactly : List ℕ → List ℕ → Option (Unit {0})
exactly expected word = if bytes_eq word expected then Some tt else None

unfoldable pub proto_of : List ℕ → Option Proto
proto_of word = if bytes_eq word (codes "tcp") then Some Tcp else (if bytes_eq word (codes "udp") then Some Udp else None)

-- what is made of a value, where there is one
abbrev pub then_some : {A B : Type 0} → Option A → (A → Option B) → Option B
then_some None f = None
then_some (Some a) f = f a

-- Inside: the address and the length that a prefix's word tells
unfoldable pub block_of : List ℕ → Option (ℕ × ℕ)
block_of word = if nat_lt (length word) 32 then None else then_some (v6_of (take 32 word)) (λ a. then_some (behind_byte 47 (drop 32 word)) (λ rest. then_some (number_of 255 rest) (λ n. Some (a, n))))

-- nothing more
abbrev pub end_at : {A : Type 0} → A → List (List ℕ) → Parsed A
end_at a [] = Ok (a, [])
end_at a (word ∷ words) = Err (length (joined (word ∷ words)))

-- this value where the words are over
abbrev pub or_end : {A : Type 0} → A → (List (List ℕ) → Parsed A) → List (List ℕ) → Parsed A
or_end a read [] = Ok (a, [])
or_end a read (word ∷ words) = read (word ∷ words)

-- Inside: by what the next word is
abbrev pub branch : {A : Type 0} → (List ℕ → Bool) → (List (List ℕ) → Parsed A) → (List (List ℕ) → Parsed A) → List (List ℕ) → Parsed A
branch test one other [] = Err 0
branch test one other (word ∷ words) = if test word then one (word ∷ words) else other (word ∷ words)
