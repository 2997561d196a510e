-- Making an item of bytes from left to right, as a function: the item and the bytes after it, or none. It stands between the
-- code and its meaning, `IsBuilt`.
use Rattle.std.specs.Prelude.{◌≡◌, ℕ, zero, suc, ◌/◌, ◌%◌, ◌++◌, List, [], ◌∷◌, length, take, drop, Option, Some, None, Result, Ok, Err, nat_lt, ◌==◌, if◌then◌else◌}
use Rattle.std.specs.Int.{Width, w16, w32, w64, byte_len, from_be_bytes}
use Rattle.std.specs.Str.{is_utf8}
use Rattle.grasp_cbor.specs.DataItem.{DataItem, unsigned, negative, byte_string, text_string, array, mapping, tagged, simple_value, half_float, single_float, double_float, data_items, data_pairs}
use Rattle.grasp_cbor.specs.declared.heads.Argument.{Argument}
use Rattle.grasp_cbor.specs.declared.heads.Argument.TheVariants.{Direct, One, Two, Four, Eight}
use Rattle.grasp_cbor.specs.declared.heads.Head.{Head}
use Rattle.grasp_cbor.specs.declared.heads.Major.{Major}
use Rattle.grasp_cbor.specs.declared.heads.Major.TheVariants.{Unsigned, Negative, ByteString, TextString, Array, Map, Tag, Simple}
use Rattle.grasp_cbor.specs.declared.heads.Open.{Open}
use Rattle.grasp_cbor.specs.declared.heads.Open.TheVariants as form
use Rattle.grasp_cbor.specs.declared.heads.StringKind.{StringKind}
use Rattle.grasp_cbor.specs.declared.heads.StringKind.TheVariants as kinds
use Rattle.grasp_cbor.specs.declared.build.Parts.{Parts}
use Rattle.grasp_cbor.specs.declared.build.Parts.TheVariants as parts
use Rattle.grasp_cbor.specs.Major.{major_of, major_number}
use Rattle.grasp_cbor.specs.Encodes.{string_major}
use Rattle.grasp_cbor.specs.declared.heads.BuildError.{BuildError}
use Rattle.grasp_cbor.specs.declared.heads.BuildError.TheVariants.{NotItem, Memory}

infixl 10 ◌>>=◌
abbrev pub ◌>>=◌ : {A B : Type 0} → Option A → (A → Option B) → Option B
(Some x) >>= f = f x
None >>= f = None

-- a value and the bytes after it
abbrev pub Found : Type 0 → Type 0
Found X = Option (X × List ℕ)

-- Inside: nothing was found, unless memory ran out
abbrev pub Fails : {Y : Type 0} → BuildError → Option Y → Type 0
Fails Memory found = Unit {0}
Fails NotItem found = found ≡ None

-- Inside: what a function returned, seen by view, is what was found, unless memory ran out
abbrev pub Gives : {X Y : Type 0} → (X → Y) → Result X BuildError → Option Y → Type 0
Gives view (Ok x) found = found ≡ Some (view x)
Gives view (Err e) found = Fails e found

abbrev pub byte_at : List ℕ → Found ℕ
byte_at [] = None
byte_at (b ∷ rest) = Some (b, rest)

abbrev pub number_at : Width → List ℕ → Found ℕ
number_at w s = if nat_lt (length s) (byte_len w) then None else Some (from_be_bytes w (take (byte_len w) s), drop (byte_len w) s)

abbrev pub value_of : Argument → ℕ
value_of (Direct n) = n
value_of (One n) = n
value_of (Two n) = n
value_of (Four n) = n
value_of (Eight n) = n

abbrev pub sized : (ℕ → Argument) → Found ℕ → Found Argument
sized form found = found >>= λ n. Some (form n.0, n.1)

-- the argument of a head whose initial byte has these low five bits
unfoldable pub argument_at : ℕ → List ℕ → Found Argument
argument_at info rest =
    if nat_lt info 24 then Some (Direct info, rest) else (if info == 24 then sized One (byte_at rest) else (if info == 25 then sized Two (number_at w16 rest) else (if info == 26 then sized Four (number_at w32 rest) else (if info == 27 then sized Eight (number_at w64 rest) else None))))

-- Inside: its value
abbrev pub value_at : ℕ → List ℕ → Found ℕ
value_at info rest = argument_at info rest >>= λ a. Some (value_of a.0, a.1)

unfoldable pub head_at : List ℕ → Found Head
head_at s = do
  first ← byte_at s
  a ← argument_at (first.0 % 32) first.1
  Some (record { major = major_of (first.0 / 32); argument = a.0 }, a.1)

-- Inside: the argument of a head of this major type, and what follows
unfoldable pub argument_in : ℕ → List ℕ → Found ℕ
argument_in major [] = None
argument_in major (b ∷ rest) = if b / 32 == major then value_at (b % 32) rest else None

-- what this initial byte opens whose length is indefinite
unfoldable pub opened_by : ℕ → Option Open
opened_by b = if b == 95 then Some (form.String kinds.Bytes) else (if b == 127 then Some (form.String kinds.Text) else
    (if b == 159 then Some form.Items else (if b == 191 then Some form.Pairs else None)))

-- what of indefinite length the bytes open, and what follows
abbrev pub open_at : List ℕ → Found Open
open_at [] = None
open_at (b ∷ rest) = opened_by b >>= λ o. Some (o, rest)

-- what follows the break that the bytes begin with
abbrev pub break_at : List ℕ → Option (List ℕ)
break_at [] = None
break_at (b ∷ rest) = if b == 255 then Some rest else None

unfoldable pub bytes_at : ℕ → List ℕ → Found (List ℕ)
bytes_at n rest = if nat_lt (length rest) n then None else Some (take n rest, drop n rest)

unfoldable pub text_at : ℕ → List ℕ → Found (List ℕ)
text_at n rest = do
  found ← bytes_at n rest
  if is_utf8 found.0 then Some found else None

-- the content of a string of this kind
abbrev pub content_at : StringKind → ℕ → List ℕ → Found (List ℕ)
content_at kinds.Bytes n rest = bytes_at n rest
content_at kinds.Text n rest = text_at n rest

-- a string of this kind that has a length of its own
unfoldable pub chunk_at : StringKind → List ℕ → Found (List ℕ)
chunk_at kind s = head_at s >>= λ h. if major_number h.0.major == string_major kind then content_at kind (value_of h.0.argument) h.1 else None

-- Inside: the content of a string of this kind that has a length of its own, and what follows
abbrev pub string_in : StringKind → List ℕ → Found (List ℕ)
string_in kind s = argument_in (string_major kind) s >>= λ a. content_at kind a.0 a.1

abbrev pub string_of : StringKind → List ℕ → DataItem
string_of kinds.Bytes bs = byte_string bs
string_of kinds.Text bs = text_string bs

abbrev pub simple_at : ℕ → Option DataItem
simple_at n = if nat_lt n 24 then Some (simple_value n) else (if nat_lt n 32 then None else Some (simple_value n))

-- a simple value or a float
abbrev pub plain_of : Argument → Option DataItem
plain_of (Direct n) = simple_at n
plain_of (One n) = if nat_lt n 32 then None else simple_at n
plain_of (Two n) = Some (half_float n)
plain_of (Four n) = Some (single_float n)
plain_of (Eight n) = Some (double_float n)

-- what is found, behind what was found before
abbrev pub with_front : {X : Type 0} → List X → Found (List X) → Found (List X)
with_front front found = found >>= λ x. Some (front ++ x.0, x.1)

-- so many of them, one after another
unfoldable pub many_with : {X : Type 0} → (List ℕ → Found X) → ℕ → List ℕ → Found (List X)
many_with one zero rest = Some ([], rest)
many_with one (suc n) rest = one rest >>= λ x. many_with one n x.1 >>= λ xs. Some (x.0 ∷ xs.0, xs.1)

-- the end behind a break, or else more
abbrev pub or_end : {X : Type 0} → Option (List ℕ) → Found (List X) → Found (List X)
or_end (Some rest) more = Some ([], rest)
or_end None more = more

-- so many of them at most, one after another up to a break, joined
unfoldable pub until_break : {X : Type 0} → (List ℕ → Found (List X)) → ℕ → List ℕ → Found (List X)
until_break one zero s = None
until_break one (suc n) s = or_end (break_at s) (one s >>= λ x. until_break one n x.1 >>= λ xs. Some (x.0 ++ xs.0, xs.1))

-- each of which takes a byte at least
abbrev pub open_with : {X : Type 0} → (List ℕ → Found (List X)) → List ℕ → Found (List X)
open_with one s = until_break one (length s) s

-- what one finds, as a list
abbrev pub alone : {X : Type 0} → (List ℕ → Found X) → List ℕ → Found (List X)
alone one s = one s >>= λ x. Some (x.0 ∷ [], x.1)

unfoldable pub pair_with : (List ℕ → Found DataItem) → List ℕ → Found (DataItem × DataItem)
pair_with part rest = do
  k ← part rest
  v ← part k.1
  Some ((k.0, v.0), v.1)

-- what an array, a map or a tag holds
unfoldable pub nested_with : (List ℕ → Found DataItem) → Parts → List ℕ → Found DataItem
nested_with part (parts.Items n) rest = many_with part n rest >>= λ ts. Some (array (data_items ts.0), ts.1)
nested_with part (parts.Pairs n) rest = many_with (pair_with part) n rest >>= λ es. Some (mapping (data_pairs es.0), es.1)
nested_with part (parts.Tagged n) rest = part rest >>= λ t. Some (tagged n t.0, t.1)
nested_with part parts.OpenItems rest = open_with (alone part) rest >>= λ ts. Some (array (data_items ts.0), ts.1)
nested_with part parts.OpenPairs rest = open_with (alone (pair_with part)) rest >>= λ es. Some (mapping (data_pairs es.0), es.1)

-- what the head of an item leads to, where nested reads what has parts
unfoldable pub content_with : (Parts → List ℕ → Found DataItem) → Major → Argument → List ℕ → Found DataItem
content_with nested Unsigned a rest = Some (unsigned (value_of a), rest)
content_with nested Negative a rest = Some (negative (value_of a), rest)
content_with nested ByteString a rest = bytes_at (value_of a) rest >>= λ b. Some (byte_string b.0, b.1)
content_with nested TextString a rest = text_at (value_of a) rest >>= λ b. Some (text_string b.0, b.1)
content_with nested Array a rest = nested (parts.Items (value_of a)) rest
content_with nested Map a rest = nested (parts.Pairs (value_of a)) rest
content_with nested Tag a rest = nested (parts.Tagged (value_of a)) rest
content_with nested Simple a rest = plain_of a >>= λ t. Some (t, rest)

-- what an opened item leads to, where nested reads what has parts
unfoldable pub opened_with : (Parts → List ℕ → Found DataItem) → Open → List ℕ → Found DataItem
opened_with nested (form.String kind) rest = open_with (chunk_at kind) rest >>= λ b. Some (string_of kind b.0, b.1)
opened_with nested form.Items rest = nested parts.OpenItems rest
opened_with nested form.Pairs rest = nested parts.OpenPairs rest

-- what was opened, or else an item with a head
abbrev pub begun_with : (Parts → List ℕ → Found DataItem) → Found Open → List ℕ → Found DataItem
begun_with nested (Some o) s = opened_with nested o.0 o.1
begun_with nested None s = head_at s >>= λ h. content_with nested h.0.major h.0.argument h.1

unfoldable pub item_with : (Parts → List ℕ → Found DataItem) → List ℕ → Found DataItem
item_with nested s = begun_with nested (open_at s) s

-- what has parts, where the item may be so deep
unfoldable pub nested_in : ℕ → Parts → List ℕ → Found DataItem
nested_in zero p rest = None
nested_in (suc depth) p rest = nested_with (λ s. item_with (nested_in depth) s) p rest

-- an item that is so deep at most
unfoldable pub item_at : ℕ → List ℕ → Found DataItem
item_at depth s = item_with (nested_in depth) s

-- Inside: this item, and this rest
abbrev pub found_as : DataItem → List ℕ → Found DataItem
found_as t rest = Some (t, rest)
