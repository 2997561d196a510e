-- The words of endpoints and of roots.
use Rattle.std.proofs.Common.{◌≡◌, ℕ, suc, ◌+◌, ◌/◌, ◌%◌, ◌==◌, ◌<◌, ◌≤◌, ◌^◌, Bool, true, false, not, cond, nat_lt, List, [], ◌∷◌, ◌++◌, length, get_or, take, drop, Option, Some, None, refl, sym, ap, subst, ◌∙◌, append_assoc, arith}
use Rattle.std.specs.Int.{to_be_bytes, w32, w128}
use Rattle.std.specs.List.{position_or_len, before_first, after_first}
use Rattle.std.specs.Prelude.{decimal, slice_index}
use Rattle.std.proofs.lemmas.Bool.{lt-ltb, ltb-true, eqb-true, eq-eqb}
use Rattle.std.proofs.lemmas.List.{take_at, drop_at, length-append}
use Rattle.std.proofs.lemmas.List.Sums.{split_at_first, passes_at_first}
use Rattle.std.proofs.lemmas.Option.{same_Some}
use Rattle.hex.specs.Hex.{IsBytes, encode_with, lower_digits}
use Rattle.grasp_types.specs.Address.{IsAddress}
use Rattle.grasp_types.specs.declared.address.Address.{Address}
use Rattle.grasp_types.specs.declared.address.Address.TheVariants as address
use Rattle.grasp_types.specs.declared.address.Locator.{Locator}
use Rattle.grasp_types.specs.declared.address.Locator.TheVariants.{V6, V4}
use Rattle.grasp_types.specs.declared.address.Proto.TheVariants.{Tcp}
use Rattle.grasp_pool.specs.declared.roots.RootPrefix.{RootPrefix}
use Rattle.grasp_text.specs.Line.{v4_word, v6_word, address_word}
use Rattle.grasp_text.specs.Reading.{address_of, number_of}
use Rattle.grasp_text.proofs.HexWords.{wide32, wide128}
use Rattle.grasp_text.proofs.Readers.{numbers_read, addresses_read}
use Rattle.grasp_config.specs.Laws.{EndpointsAreRead, RootsAreRead}
use Rattle.grasp_config.specs.Table.{◌>>=◌}
use Rattle.grasp_config.specs.Words.{parted, endpoint_at, endpoint_of, endpoint_word, IsEndpoint, v6_number, root_of, root_word, IsRoot}

-- ---- parting at a byte

abbrev cut : ℕ → List ℕ → Option (List ℕ × List ℕ)
cut n text = cond (nat_lt n (length text)) (Some (take n text, drop (n + 1) text)) None

behind_cut : (byte : ℕ) (front back : List ℕ) → drop (length front + 1) (front ++ byte ∷ back) ≡ back
behind_cut byte front back =
    ap (drop (length front + 1)) (sym (append_assoc front (byte ∷ []) back)) ∙ drop_at (front ++ byte ∷ []) back (length front + 1) (length-append front (byte ∷ []))

-- where the byte is first behind the front, the text is parted there
parted_where : (byte : ℕ) (front back : List ℕ) → position_or_len (λ b. b == byte) (front ++ byte ∷ back) ≡ length front → parted byte (front ++ byte ∷ back) ≡ Some (front, back)
parted_where byte front back at =
    let within : length front < length (front ++ byte ∷ back) = omega (arith, length-append front (byte ∷ back)) in
    ap (λ (n : ℕ). cut n (front ++ byte ∷ back)) at
    ∙ ap (λ (b : Bool). cond b (Some (take (length front) (front ++ byte ∷ back), drop (length front + 1) (front ++ byte ∷ back))) None) (lt-ltb (length front) (length (front ++ byte ∷ back)) within)
    ∙ (λ i. Some (take_at front (byte ∷ back) (length front) refl i, behind_cut byte front back i))

parted_at : (byte : ℕ) (text : List ℕ) (x : List ℕ × List ℕ) (b : Bool) → nat_lt (position_or_len (λ b. b == byte) text) (length text) ≡ b
    → cond b (Some (before_first (λ b. b == byte) text, after_first (λ b. b == byte) text)) None ≡ Some x → text ≡ x.0 ++ byte ∷ x.1
parted_at byte text x false within is = absurd (let e : None ≡ Some x = is in cc)
parted_at byte text x true within is =
    let p : ℕ → Bool = λ b. b == byte in
    let lt : position_or_len p text < length text = ltb-true _ _ within in
    let at : get_or text (position_or_len p text) 0 ≡ byte = eqb-true _ _ (passes_at_first p text 0 lt) in
    let parts = split_at_first p text 0 lt in
    subst (λ (y : List ℕ × List ℕ). text ≡ y.0 ++ byte ∷ y.1) (same_Some (before_first p text, after_first p text) x is)
    (parts ∙ ap (λ (c : ℕ). before_first p text ++ c ∷ after_first p text) at)

parted_only : (byte : ℕ) (text : List ℕ) (x : List ℕ × List ℕ) → parted byte text ≡ Some x → text ≡ x.0 ++ byte ∷ x.1
parted_only byte text x is = parted_at byte text x (nat_lt (position_or_len (λ b. b == byte) text) (length text)) refl is

-- ---- no colon and no slash is a hexadecimal digit

no_colon : (i : ℕ) → i < 16 → (slice_index lower_digits i == 58) ≡ false
no_colon (suc (suc (suc (suc (suc (suc (suc (suc (suc (suc (suc (suc (suc (suc (suc (suc i)))))))))))))))) lt = absurd (omega arith)
no_colon _ lt = refl

no_slash : (i : ℕ) → i < 16 → (slice_index lower_digits i == 47) ≡ false
no_slash (suc (suc (suc (suc (suc (suc (suc (suc (suc (suc (suc (suc (suc (suc (suc (suc i)))))))))))))))) lt = absurd (omega arith)
no_slash _ lt = refl

-- the byte is first behind hexadecimal digits
behind_digits : (byte : ℕ) → ((i : ℕ) → i < 16 → (slice_index lower_digits i == byte) ≡ false) → (bytes : List ℕ) → IsBytes bytes → (back : List ℕ)
    → position_or_len (λ b. b == byte) (encode_with lower_digits bytes ++ byte ∷ back) ≡ length (encode_with lower_digits bytes)
unfolding encode_with
behind_digits byte other [] are back = rw (eq-eqb byte byte refl) refl
behind_digits byte other (b ∷ bytes) are back =
    let small : b < 256 = are 0 in
    let high = other (b / 16) (omega arith) in
    let low = other (b % 16) (omega arith) in
    let more = behind_digits byte other bytes (λ i. are (suc i)) back in
    ap (λ (t : Bool). cond (not t) (1 + cond (not (slice_index lower_digits (b % 16) == byte)) (1 + position_or_len (λ b. b == byte) (encode_with lower_digits bytes ++ byte ∷ back)) 0) 0) high
    ∙ ap (λ (t : Bool). 1 + cond (not t) (1 + position_or_len (λ b. b == byte) (encode_with lower_digits bytes ++ byte ∷ back)) 0) low
    ∙ ap (λ (n : ℕ). 1 + (1 + n)) more
    ∙ omega arith

behind_address : (byte : ℕ) → ((i : ℕ) → i < 16 → (slice_index lower_digits i == byte) ≡ false) → (a : Address) (back : List ℕ) → parted byte (address_word a ++ byte ∷ back) ≡ Some (address_word a, back)
behind_address byte other (address.V4 n) back = parted_where byte (v4_word n) back (behind_digits byte other (to_be_bytes w32 n) (wide32.small n) back)
behind_address byte other (address.V6 n) back = parted_where byte (v6_word n) back (behind_digits byte other (to_be_bytes w128 n) (wide128.small n) back)

-- ---- endpoints

endpoint_found_at : (a : Address) (port : ℕ) → IsAddress a → port ≤ 65535 → endpoint_of (address_word a ++ 58 ∷ decimal port) ≡ Some (endpoint_at a port)
unfolding endpoint_of
endpoint_found_at a port is within =
    ap (λ (o : Option (List ℕ × List ℕ)). o >>= λ parts. address_of parts.0 >>= λ address. number_of 65535 parts.1 >>= λ port. Some (endpoint_at address port)) (behind_address 58 no_colon a (decimal port))
    ∙ ap (λ (o : Option Address). o >>= λ address. number_of 65535 (decimal port) >>= λ port. Some (endpoint_at address port)) (addresses_read.found a is)
    ∙ ap (λ (o : Option ℕ). o >>= λ port. Some (endpoint_at a port)) ((numbers_read 65535 (omega arith)).found port within)

endpoint_found : (locator : Locator) → IsEndpoint locator → endpoint_of (endpoint_word locator) ≡ Some locator
endpoint_found (V6 n Tcp port) is = let small : port < 2 ^ 16 = is.1.1 in endpoint_found_at (address.V6 n) port is.1.0 (omega arith)
endpoint_found (V4 n Tcp port) is = let small : port < 2 ^ 16 = is.1.1 in endpoint_found_at (address.V4 n) port is.1.0 (omega arith)
endpoint_found _ is = absurd (let e : false ≡ true = is.0 in cc)

made_endpoint : (a : Address) (port : ℕ) (word : List ℕ) → IsAddress a → port ≤ 65535 → word ≡ address_word a ++ 58 ∷ decimal port → (word ≡ endpoint_word (endpoint_at a port)) × IsEndpoint (endpoint_at a port)
made_endpoint (address.V4 n) port word is within e = (e, (refl, (is, omega arith)))
made_endpoint (address.V6 n) port word is within e = (e, (refl, (is, omega arith)))

endpoint_only_at : (word : List ℕ) (locator : Locator) (x : List ℕ × List ℕ) (a : Option Address) (n : Option ℕ) → word ≡ x.0 ++ 58 ∷ x.1 → address_of x.0 ≡ a → number_of 65535 x.1 ≡ n
    → (a >>= λ address. n >>= λ port. Some (endpoint_at address port)) ≡ Some locator → (word ≡ endpoint_word locator) × IsEndpoint locator
endpoint_only_at word locator x None n e f g is = absurd (let z : None ≡ Some locator = is in cc)
endpoint_only_at word locator x (Some a) None e f g is = absurd (let z : None ≡ Some locator = is in cc)
endpoint_only_at word locator x (Some a) (Some port) e f g is =
    let front = addresses_read.only x.0 a f in
    let back = (numbers_read 65535 (omega arith)).only x.1 port g in
    let whole : word ≡ address_word a ++ 58 ∷ decimal port = e ∙ ap (λ (y : List ℕ). y ++ 58 ∷ x.1) front.0 ∙ ap (λ (y : List ℕ). address_word a ++ 58 ∷ y) back.0 in
    subst (λ (l : Locator). (word ≡ endpoint_word l) × IsEndpoint l) (same_Some (endpoint_at a port) locator is) (made_endpoint a port word front.1 back.1 whole)

endpoint_only_by : (word : List ℕ) (locator : Locator) (p : Option (List ℕ × List ℕ)) → parted 58 word ≡ p
    → (p >>= λ parts. address_of parts.0 >>= λ address. number_of 65535 parts.1 >>= λ port. Some (endpoint_at address port)) ≡ Some locator → (word ≡ endpoint_word locator) × IsEndpoint locator
endpoint_only_by word locator None e is = absurd (let z : None ≡ Some locator = is in cc)
endpoint_only_by word locator (Some x) e is = endpoint_only_at word locator x (address_of x.0) (number_of 65535 x.1) (parted_only 58 word x e) refl refl is

endpoint_only : (word : List ℕ) (locator : Locator) → endpoint_of word ≡ Some locator → (word ≡ endpoint_word locator) × IsEndpoint locator
unfolding endpoint_of
endpoint_only word locator is = endpoint_only_by word locator (parted 58 word) refl is

pub endpoints_read : EndpointsAreRead
endpoints_read = record { found = endpoint_found; only = endpoint_only }

-- ---- roots

root_found : (root : RootPrefix) → IsRoot root → root_of (root_word root) ≡ Some root
unfolding root_of
root_found root is =
    let small : root.length < 2 ^ 8 = is.1 in
    ap (λ (o : Option (List ℕ × List ℕ)). o >>= λ parts. address_of parts.0 >>= v6_number >>= λ address. number_of 255 parts.1 >>= λ length. root_with address length) (behind_address 47 no_slash (address.V6 root.address) (decimal root.length))
    ∙ ap (λ (o : Option Address). o >>= v6_number >>= λ address. number_of 255 (decimal root.length) >>= λ length. root_with address length) (addresses_read.found (address.V6 root.address) is.0)
    ∙ ap (λ (o : Option ℕ). o >>= λ length. root_with root.address length) ((numbers_read 255 (omega arith)).found root.length (omega arith))
  where
    root_with : ℕ → ℕ → Option RootPrefix
    root_with address length = Some (record { address = address; length = length })

root_only_at : (word : List ℕ) (root : RootPrefix) (x : List ℕ × List ℕ) (a : Option Address) (n : Option ℕ) → word ≡ x.0 ++ 47 ∷ x.1 → address_of x.0 ≡ a → number_of 255 x.1 ≡ n
    → (a >>= v6_number >>= λ address. n >>= λ length. Some (record { address = address; length = length })) ≡ Some root → (word ≡ root_word root) × IsRoot root
root_only_at word root x (Some (address.V6 a)) (Some n) e f g is =
    let front = addresses_read.only x.0 (address.V6 a) f in
    let back = (numbers_read 255 (omega arith)).only x.1 n g in
    let most : n ≤ 255 = back.1 in
    let whole : word ≡ v6_word a ++ 47 ∷ decimal n = e ∙ ap (λ (y : List ℕ). y ++ 47 ∷ x.1) front.0 ∙ ap (λ (y : List ℕ). v6_word a ++ 47 ∷ y) back.0 in
    subst (λ (r : RootPrefix). (word ≡ root_word r) × IsRoot r) (same_Some (record { address = a; length = n }) root is) (whole, (front.1, omega arith))
root_only_at word root x _ _ e f g is = absurd (let z : None ≡ Some root = is in cc)

root_only_by : (word : List ℕ) (root : RootPrefix) (p : Option (List ℕ × List ℕ)) → parted 47 word ≡ p
    → (p >>= λ parts. address_of parts.0 >>= v6_number >>= λ address. number_of 255 parts.1 >>= λ length. Some (record { address = address; length = length })) ≡ Some root → (word ≡ root_word root) × IsRoot root
root_only_by word root None e is = absurd (let z : None ≡ Some root = is in cc)
root_only_by word root (Some x) e is = root_only_at word root x (address_of x.0) (number_of 255 x.1) (parted_only 47 word x e) refl refl is

root_only : (word : List ℕ) (root : RootPrefix) → root_of word ≡ Some root → (word ≡ root_word root) × IsRoot root
unfolding root_of
root_only word root is = root_only_by word root (parted 47 word) refl is

pub roots_read : RootsAreRead
roots_read = record { found = root_found; only = root_only }
