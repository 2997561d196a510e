-- Inside: what is read from an item, or from a place of an array, where it is there. That these read exactly the items of
-- messages is what `message_of_item` ensures, by the layout of messages alone.
use Rattle.std.specs.Prelude.{◌==◌, ◌+◌, ℕ, Bool, true, false, Option, Some, None, List, [], ◌∷◌, length, slice_get, nat_lt, if◌then◌else◌}
use Rattle.grasp_cbor.specs.DataItem.{DataItem, unsigned, text_string, array, simple_value, items_in}

-- go on with what is there
infixl 10 ◌>>=◌
abbrev pub ◌>>=◌ : {A B : Type 0} → Option A → (A → Option B) → Option B
None >>= f = None
(Some x) >>= f = f x

-- what is read from the item at this place
abbrev pub at_place : {X : Type 0} → (DataItem → Option X) → List DataItem → ℕ → Option X
at_place read parts place = slice_get parts place >>= read

-- the number that the item is
abbrev pub number_in : DataItem → Option ℕ
number_in (unsigned n) = Some n
number_in _ = None

-- the number, where it is below the bound
abbrev pub below : ℕ → ℕ → Option ℕ
below bound n = if nat_lt n bound then Some n else None

-- the text that the item is
abbrev pub text_in : DataItem → Option (List ℕ)
text_in (text_string bs) = Some bs
text_in _ = None

-- the parts of the array that the item is
abbrev pub parts_in : DataItem → Option (List DataItem)
parts_in (array ts) = Some (items_in ts)
parts_in _ = None

-- the number that the array begins with
unfoldable pub kind_in : DataItem → Option ℕ
kind_in t = parts_in t >>= λ parts. at_place number_in parts 0

-- something is there
abbrev pub is_there : {X : Type 0} → Option X → Bool
is_there None = false
is_there (Some x) = true

-- the array begins with a text
unfoldable pub has_text_first : DataItem → Bool
has_text_first t = is_there (parts_in t >>= λ parts. at_place text_in parts 0)

-- the optional item is there and passes the test
abbrev pub passes : (DataItem → Bool) → Option DataItem → Bool
passes test None = false
passes test (Some t) = test t

-- the item at this place is there, and passes the test
abbrev pub test_at : (DataItem → Bool) → List DataItem → ℕ → Bool
test_at test parts place = passes test (slice_get parts place)

-- the item is null (RFC 8949, section 3.3)
abbrev pub is_null : DataItem → Bool
is_null (simple_value n) = n == 22
is_null _ = false

-- what is read from the item, or nothing where it is null
abbrev pub or_null : {X : Type 0} → (DataItem → Option X) → DataItem → Option (Option X)
or_null read t = if is_null t then Some None else (read t >>= λ x. Some (Some x))

-- what is read from a last item at this place, or nothing where the array ends before it
abbrev pub last_at : {X : Type 0} → (DataItem → Option X) → List DataItem → ℕ → Option (Option X)
last_at read parts place =
    if length parts == place then Some None
    else if length parts == place + 1 then (at_place read parts place >>= λ x. Some (Some x))
    else None

-- what is read from each of the items
abbrev pub each : {X : Type 0} → (DataItem → Option X) → List DataItem → Option (List X)
each read [] = Some []
each read (t ∷ ts) = read t >>= λ x. each read ts >>= λ xs. Some (x ∷ xs)

-- what is read from each of the items, of which there are one or more
abbrev pub one_or_more : {X : Type 0} → (DataItem → Option X) → List DataItem → Option (List X)
one_or_more read [] = None
one_or_more read (t ∷ ts) = each read (t ∷ ts)
