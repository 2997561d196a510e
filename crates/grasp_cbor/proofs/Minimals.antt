-- What leads bytes in its shortest encoding.
use Rattle.std.proofs.Common.{◌≡◌, ℕ, zero, suc, ◌+◌, ◌*◌, ◌<◌, ◌≤◌, List, [], ◌∷◌, ◌++◌, length, Option, Some, None, refl, sym, ap, subst, ◌∙◌, append_assoc, length-append, inl, inr, arith}
use Rattle.std.specs.Prelude.{IfSome}
use Rattle.std.specs.Str.{IsUtf8}
use Rattle.std.proofs.lemmas.Bool.{lt-ltb, le-ltb}
use Rattle.grasp_cbor.specs.Build.{argument_in, head_at, value_of}
use Rattle.grasp_cbor.specs.DataItem.{DataItems, DataPairs, unsigned, negative, byte_string, text_string, array, mapping, tagged, simple_value, half_float, single_float, double_float, no_items, item_and, no_pairs, pair_and, item_count, pair_count, items_depth, pairs_depth}
use Rattle.grasp_cbor.specs.Bytes.{AllBytes}
use Rattle.grasp_cbor.specs.Encodable.{AreEncodable, ArePairsEncodable}
use Rattle.grasp_cbor.specs.Head.{HeadSize, direct, one_byte, two_bytes, four_bytes, eight_bytes, sized_head, shortest_size, shortest_head, simple_head, argument_limit, IsHead}
use Rattle.grasp_cbor.specs.Length.{head_length}
use Rattle.grasp_cbor.specs.Major.{major_number}
use Rattle.grasp_cbor.specs.Minimal.{LeadsHead, LeadsShortest, LeadShortest}
use Rattle.grasp_cbor.specs.declared.heads.Argument.{Argument}
use Rattle.grasp_cbor.specs.declared.heads.Argument.TheVariants.{Direct, One, Two, Four, Eight}
use Rattle.grasp_cbor.specs.declared.heads.Major.{Major}
use Rattle.grasp_cbor.specs.declared.heads.Major.TheVariants.{Simple}
use Rattle.grasp_cbor.specs.Shortest.{shortest, shortest_items, shortest_pairs}
use Rattle.grasp_cbor.proofs.Leading.{head_leads}
use Rattle.grasp_cbor.proofs.Lengths.{length-shortest_head}
use Rattle.grasp_cbor.proofs.Takes.{IsBytes, IsBytes-rest, Takes, size_in, head_takes}
use Rattle.grasp_cbor.proofs.Encoded.{head_below}
use Rattle.grasp_cbor.proofs.HeadBytes.{AllBytes-front}

-- ---- heads

-- heads of one length are the same
same_head : (a b : HeadSize) (major n : ℕ) → length (sized_head a major n) ≡ length (sized_head b major n) → sized_head a major n ≡ sized_head b major n
same_head direct direct major n h = refl
same_head direct one_byte major n h = absurd (let l : 1 ≡ 2 = h in omega (arith, l))
same_head direct two_bytes major n h = absurd (let l : 1 ≡ 3 = h in omega (arith, l))
same_head direct four_bytes major n h = absurd (let l : 1 ≡ 5 = h in omega (arith, l))
same_head direct eight_bytes major n h = absurd (let l : 1 ≡ 9 = h in omega (arith, l))
same_head one_byte direct major n h = absurd (let l : 2 ≡ 1 = h in omega (arith, l))
same_head one_byte one_byte major n h = refl
same_head one_byte two_bytes major n h = absurd (let l : 2 ≡ 3 = h in omega (arith, l))
same_head one_byte four_bytes major n h = absurd (let l : 2 ≡ 5 = h in omega (arith, l))
same_head one_byte eight_bytes major n h = absurd (let l : 2 ≡ 9 = h in omega (arith, l))
same_head two_bytes direct major n h = absurd (let l : 3 ≡ 1 = h in omega (arith, l))
same_head two_bytes one_byte major n h = absurd (let l : 3 ≡ 2 = h in omega (arith, l))
same_head two_bytes two_bytes major n h = refl
same_head two_bytes four_bytes major n h = absurd (let l : 3 ≡ 5 = h in omega (arith, l))
same_head two_bytes eight_bytes major n h = absurd (let l : 3 ≡ 9 = h in omega (arith, l))
same_head four_bytes direct major n h = absurd (let l : 5 ≡ 1 = h in omega (arith, l))
same_head four_bytes one_byte major n h = absurd (let l : 5 ≡ 2 = h in omega (arith, l))
same_head four_bytes two_bytes major n h = absurd (let l : 5 ≡ 3 = h in omega (arith, l))
same_head four_bytes four_bytes major n h = refl
same_head four_bytes eight_bytes major n h = absurd (let l : 5 ≡ 9 = h in omega (arith, l))
same_head eight_bytes direct major n h = absurd (let l : 9 ≡ 1 = h in omega (arith, l))
same_head eight_bytes one_byte major n h = absurd (let l : 9 ≡ 2 = h in omega (arith, l))
same_head eight_bytes two_bytes major n h = absurd (let l : 9 ≡ 3 = h in omega (arith, l))
same_head eight_bytes four_bytes major n h = absurd (let l : 9 ≡ 5 = h in omega (arith, l))
same_head eight_bytes eight_bytes major n h = refl

least_head : (major n : ℕ) (head : List ℕ) → IsHead major n head → length head ≡ length (shortest_head major n) → head ≡ shortest_head major n
unfolding shortest_head
least_head major n head h l = h.2 ∙ same_head h.0 (shortest_size n) major n (sym (ap length h.2) ∙ l)

-- a head with no more bytes than the shortest has
pub head_is_least : (major n : ℕ) (s rest : List ℕ) → IsBytes s → argument_in major s ≡ Some (n, rest) → length s ≡ length rest + head_length n → LeadsHead major n s rest
head_is_least major n s rest fits e l =
    let led = head_leads major s (n, rest) fits e in
    let all = ap length led.taken.parts in
    let long : length led.head ≡ head_length n = omega (arith, l, all, length-append led.head rest) in
    let same : led.head ≡ shortest_head major n = least_head major n led.head led.opens (long ∙ sym (length-shortest_head major n)) in
    record { fits = head_below major n led.head led.opens; parts = led.taken.parts ∙ ap (λ h. h ++ rest) same }

pub head_no_longer : (major n : ℕ) (s rest : List ℕ) → IsBytes s → argument_in major s ≡ Some (n, rest) → length rest ≤ length s
head_no_longer major n s rest fits e =
    let led = head_leads major s (n, rest) fits e in
    let all = ap length led.taken.parts in
    omega (arith, all, length-append led.head rest)

-- ---- items

behind_head : (s head middle front rest : List ℕ) → s ≡ head ++ middle → middle ≡ front ++ rest → s ≡ (head ++ front) ++ rest
behind_head s head middle front rest p q = p ∙ ap (λ t. head ++ t) q ∙ sym (append_assoc head front rest)

pub number_leads : (d major n : ℕ) (s rest : List ℕ) → major < 2 → LeadsHead major n s rest → LeadsShortest d s rest
number_leads d zero n s rest m h = record { item = unsigned n; shallow = omega arith; encodable = h.fits; parts = h.parts }
number_leads d (suc zero) n s rest m h = record { item = negative n; shallow = omega arith; encodable = h.fits; parts = h.parts }
number_leads d (suc (suc k)) n s rest m h = absurd (omega (arith, m))

back_fits : (front rest : List ℕ) → IsBytes (front ++ rest) → IsBytes rest
back_fits [] rest h = h
back_fits (b ∷ front) rest h = back_fits front rest (IsBytes-rest b (front ++ rest) h)

pub rest_fits : (major n : ℕ) (s rest : List ℕ) → IsBytes s → LeadsHead major n s rest → IsBytes rest
rest_fits major n s rest fits h = back_fits (shortest_head major n) rest (subst IsBytes h.parts fits)

all_bytes : (s : List ℕ) → IsBytes s → AllBytes s
all_bytes [] h = tt
all_bytes (b ∷ s) h = (h 0, all_bytes s (IsBytes-rest b s h))

pub octets_lead : (d n : ℕ) (s middle content rest : List ℕ) → IsBytes middle → length content ≡ n → LeadsHead 2 n s middle → Takes middle content rest → LeadsShortest d s rest
octets_lead d n s middle content rest fits l h t = record {
  item = byte_string content;
  shallow = omega arith;
  encodable = (rw l h.fits, AllBytes-front content rest (subst AllBytes t.parts (all_bytes middle fits)));
  parts = behind_head s (shortest_head 2 (length content)) middle content rest (rw l h.parts) t.parts;
}

pub text_leads : (d n : ℕ) (s middle content rest : List ℕ) → length content ≡ n → LeadsHead 3 n s middle → Takes middle content rest → IsUtf8 content → LeadsShortest d s rest
text_leads d n s middle content rest l h t u = record {
  item = text_string content;
  shallow = omega arith;
  encodable = (rw l h.fits, u);
  parts = behind_head s (shortest_head 3 (length content)) middle content rest (rw l h.parts) t.parts;
}

-- ---- simple values and floats

direct_plain : (n : ℕ) → n < 24 → sized_head direct 7 n ≡ simple_head n
direct_plain n lt = rw (lt-ltb n 24 lt) refl

byte_plain : (n : ℕ) → 32 ≤ n → sized_head one_byte 7 n ≡ simple_head n
byte_plain n le = rw (le-ltb n 24 (omega arith)) refl

-- the argument is that of a simple value or a float
abbrev IsPlain : Argument → Type 0
IsPlain (Direct n) = Unit {0}
IsPlain (One n) = 32 ≤ n
IsPlain (Two n) = Unit {0}
IsPlain (Four n) = Unit {0}
IsPlain (Eight n) = Unit {0}

plain_leads : (d : ℕ) (a : Argument) (s rest : List ℕ) → value_of a < argument_limit (size_in a) → s ≡ sized_head (size_in a) 7 (value_of a) ++ rest → IsPlain a → LeadsShortest d s rest
plain_leads d (Direct n) s rest lt p h = record { item = simple_value n; shallow = omega arith; encodable = (inl lt, omega arith); parts = p ∙ ap (λ t. t ++ rest) (direct_plain n lt) }
plain_leads d (One n) s rest lt p h = record { item = simple_value n; shallow = omega arith; encodable = (inr h, lt); parts = p ∙ ap (λ t. t ++ rest) (byte_plain n h) }
plain_leads d (Two n) s rest lt p h = record { item = half_float n; shallow = omega arith; encodable = lt; parts = p }
plain_leads d (Four n) s rest lt p h = record { item = single_float n; shallow = omega arith; encodable = lt; parts = p }
plain_leads d (Eight n) s rest lt p h = record { item = double_float n; shallow = omega arith; encodable = lt; parts = p }

pub plain_head_leads : (d : ℕ) (s rest : List ℕ) (major : Major) (a : Argument) → IsBytes s → head_at s ≡ Some (record { major = major; argument = a }, rest) → major ≡ Simple → IsPlain a → LeadsShortest d s rest
plain_head_leads d s rest major a fits e m h =
    let t = head_takes s (record { major = major; argument = a }, rest) fits e in
    plain_leads d a s rest t.fits (t.taken.parts ∙ ap (λ k. sized_head (size_in a) (major_number k) (value_of a) ++ rest) m) h

-- ---- what holds others

pub none_lead : (d : ℕ) (s : List ℕ) → LeadShortest 0 d s s
none_lead d s = record { items = no_items; counted = refl; shallow = omega arith; encodable = tt; parts = refl }

pub one_more_leads : (n d : ℕ) (s middle rest : List ℕ) → LeadsShortest d s middle → LeadShortest n d middle rest → LeadShortest (n + 1) d s rest
one_more_leads n d s middle rest h more = record {
  items = item_and h.item more.items;
  counted = omega (arith, more.counted);
  shallow = omega (arith, h.shallow, more.shallow);
  encodable = (h.encodable, more.encodable);
  parts = behind_head s (shortest h.item) middle (shortest_items more.items) rest h.parts more.parts;
}

pub array_leads : (n d inner : ℕ) (s middle rest : List ℕ) → inner + 1 ≡ d → LeadsHead 4 n s middle → LeadShortest n inner middle rest → LeadsShortest d s rest
array_leads n d inner s middle rest e h all = record {
  item = array all.items;
  shallow = omega (arith, all.shallow, e);
  encodable = (rw all.counted h.fits, all.encodable);
  parts = behind_head s (shortest_head 4 (item_count all.items)) middle (shortest_items all.items) rest (rw all.counted h.parts) all.parts;
}

pub tag_leads : (n d inner : ℕ) (s middle rest : List ℕ) → inner + 1 ≡ d → LeadsHead 6 n s middle → LeadsShortest inner middle rest → LeadsShortest d s rest
tag_leads n d inner s middle rest e h one = record {
  item = tagged n one.item;
  shallow = omega (arith, one.shallow, e);
  encodable = (h.fits, one.encodable);
  parts = behind_head s (shortest_head 6 n) middle (shortest one.item) rest h.parts one.parts;
}

-- what is found is so too
pub found_is : {A : Type 0} (P Q : A → Type 0) (o : Option A) → IfSome o P → ((x : A) → P x → Q x) → IfSome o Q
found_is P Q (Some x) h f = f x h
found_is P Q None h f = tt

-- twice as many items are pairs
record ArePairs (n d : ℕ) (ts : DataItems) : Type 0 where
  pairs : DataPairs
  counted : pair_count pairs ≡ n
  shallow : pairs_depth pairs ≤ d
  encodable : ArePairsEncodable pairs
  same : shortest_pairs pairs ≡ shortest_items ts

paired : (n d : ℕ) (ts : DataItems) → item_count ts ≡ 2 * n → items_depth ts ≤ d → AreEncodable ts → ArePairs n d ts
paired n d no_items c le h = record { pairs = no_pairs; counted = omega (arith, c); shallow = omega arith; encodable = tt; same = refl }
paired n d (item_and k no_items) c le h = absurd (omega (arith, c))
paired zero d (item_and k (item_and v ts)) c le h = absurd (omega (arith, c))
paired (suc n) d (item_and k (item_and v ts)) c le h =
    let more = paired n d ts (omega (arith, c)) (omega (arith, le)) h.1.1 in
    record {
      pairs = pair_and k v more.pairs;
      counted = omega (arith, more.counted);
      shallow = omega (arith, le, more.shallow);
      encodable = (h.0, h.1.0, more.encodable);
      same = append_assoc (shortest k) (shortest v) (shortest_pairs more.pairs) ∙ ap (λ t. shortest k ++ (shortest v ++ t)) more.same;
    }

pub map_leads : (n d inner : ℕ) (s middle rest : List ℕ) → inner + 1 ≡ d → LeadsHead 5 n s middle → LeadShortest (2 * n) inner middle rest → LeadsShortest d s rest
map_leads n d inner s middle rest e h all =
    let p = paired n inner all.items all.counted all.shallow all.encodable in
    record {
      item = mapping p.pairs;
      shallow = omega (arith, p.shallow, e);
      encodable = (rw p.counted h.fits, p.encodable);
      parts = behind_head s (shortest_head 5 (pair_count p.pairs)) middle (shortest_pairs p.pairs) rest (rw p.counted h.parts) (all.parts ∙ ap (λ t. t ++ rest) (sym p.same));
    }
