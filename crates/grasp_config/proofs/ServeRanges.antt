-- The parts of a table `serve` are within their limits.
use Rattle.std.proofs.Common.{◌≡◌, ℕ, ◌+◌, ◌*◌, ◌-◌, ◌<◌, ◌≤◌, ◌^◌, Bool, true, false, ◌&&◌, cond, max, nat_le, List, [], ◌∷◌, length, Option, Some, None, IfSome, refl, subst, arith}
use Rattle.std.specs.List.{AllByRecursion, list_all}
use Rattle.std.specs.Prelude.{codes}
use Rattle.std.proofs.lemmas.Bool.{and_parts, leb-true}
use Rattle.std.proofs.lemmas.Option.{same_Some}
use Rattle.toml.specs.Data.{Data, Members, as_str, get_member}
use Rattle.grasp_text.specs.Reading.{address_of, number_of}
use Rattle.grasp_text.proofs.Readers.{numbers_read, addresses_read}
use Rattle.grasp_types.specs.declared.address.Address.{Address}
use Rattle.grasp_types.specs.declared.address.Address.TheVariants as address
use Rattle.grasp_types.specs.declared.address.Locator.{Locator}
use Rattle.grasp_config.specs.Laws.{IsInRange}
use Rattle.grasp_config.specs.Serve.{IsServeTable}
use Rattle.grasp_config.specs.ServeKeys.{if_there, sized, text_in, is_octal, mode_of, mode_value, needed, is_reachable, reachable, endpoint_value, bits_of, one_address, parted_range, range_by, allowed_of, allowed_value, some_of, ranges_of, least_of, retry_in, retry_most_in, printable, is_printable, name_value}
use Rattle.grasp_config.specs.ServeLaws.{HasSize, IsRange, IsBetween, IsServeInRange, ServesAreInRange}
use Rattle.grasp_config.specs.Table.{◌>>=◌, number_in, or_absent, list_of}
use Rattle.grasp_config.specs.Words.{parted, endpoint_of, IsEndpoint}
use Rattle.grasp_config.specs.declared.serve.AllowedRange.{AllowedRange}
use Rattle.grasp_config.specs.declared.serve.ServeTable.{ServeTable}
use Rattle.grasp_config.proofs.EndpointWords.{endpoints_read}
use Rattle.grasp_config.proofs.Ranges.{read_of, number_range, absent_range, list_is, configs_in_range}

-- texts
sized_by : (most : ℕ) (text kept : List ℕ) (b : Bool) → (nat_le 1 (length text) && nat_le (length text) most) ≡ b → cond b (Some text) None ≡ Some kept → HasSize most kept
sized_by most text kept false within is = absurd (let e : None ≡ Some kept = is in cc)
sized_by most text kept true within is =
    let parts = and_parts (nat_le 1 (length text)) (nat_le (length text) most) within in
    subst (HasSize most) (same_Some text kept is) (leb-true 1 (length text) parts.0, leb-true (length text) most parts.1)

text_is : (most : ℕ) (value : Data) (text : List ℕ) → text_in most value ≡ Some text → HasSize most text
text_is most value text is =
    let r = read_of (as_str value) (sized most) text is in
    sized_by most r.first text (nat_le 1 (length r.first) && nat_le (length r.first) most) refl r.gives

-- what is read of a value, where there is one
there_is : {A : Type 0} (P : A → Type 0) (read : Data → Option A) → ((value : Data) (a : A) → read value ≡ Some a → P a) → (found : Option Data) (o : Option A) → if_there read found ≡ Some o → IfSome o P
there_is P read all None o is = subst (λ (x : Option _). IfSome x P) (same_Some None o is) tt
there_is {A = A} P read all (Some value) o is =
    let r = read_of (read value) (λ a. Some (Some a)) o is in
    subst (λ (x : Option A). IfSome x P) (same_Some (Some r.first) o r.gives) (all value r.first r.was)

-- the mode
octal_least : (digit : ℕ) → is_octal digit ≡ true → digit ≤ 55
octal_least digit is = leb-true digit 55 (and_parts (nat_le 48 digit) (nat_le digit 55) is).1

mode_by : (a b c m : ℕ) (octal : Bool) → ((is_octal a && is_octal b) && is_octal c) ≡ octal → cond octal (Some (64 * (a - 48) + 8 * (b - 48) + (c - 48))) None ≡ Some m → m < 512
mode_by a b c m false are is = absurd (let e : None ≡ Some m = is in cc)
mode_by a b c m true are is =
    let parts = and_parts (is_octal a && is_octal b) (is_octal c) are in
    let front = and_parts (is_octal a) (is_octal b) parts.0 in
    let x : a ≤ 55 = octal_least a front.0 in
    let y : b ≤ 55 = octal_least b front.1 in
    let z : c ≤ 55 = octal_least c parts.1 in
    subst (λ (n : ℕ). n < 512) (same_Some (64 * (a - 48) + 8 * (b - 48) + (c - 48)) m is) (omega arith)

mode_is : (word : List ℕ) (m : ℕ) → mode_of word ≡ Some m → m < 512
unfolding mode_of
mode_is [] m is = absurd (let e : None ≡ Some m = is in cc)
mode_is (a ∷ []) m is = absurd (let e : None ≡ Some m = is in cc)
mode_is (a ∷ b ∷ []) m is = absurd (let e : None ≡ Some m = is in cc)
mode_is (a ∷ b ∷ c ∷ []) m is = mode_by a b c m ((is_octal a && is_octal b) && is_octal c) refl is
mode_is (a ∷ b ∷ c ∷ d ∷ rest) m is = absurd (let e : None ≡ Some m = is in cc)

mode_at : (found : Option Data) (m : ℕ) → or_absent 384 mode_value found ≡ Some m → m < 512
mode_at None m is = subst (λ (n : ℕ). n < 512) (same_Some 384 m is) (omega arith)
mode_at (Some value) m is = let r = read_of (as_str value) mode_of m is in mode_is r.first m r.gives

-- the path of the store
needed_is : (P : List ℕ → Type 0) (forgets : Bool) (found : Option (Option (List ℕ))) (store : Option (List ℕ)) → ((o : Option (List ℕ)) → found ≡ Some o → IfSome o P) → needed forgets found ≡ Some store → IfSome store P
needed_is P forgets None store all is = absurd (let e : None ≡ Some store = is in cc)
needed_is P true (Some None) store all is = subst (λ (o : Option (List ℕ)). IfSome o P) (same_Some None store is) tt
needed_is P false (Some None) store all is = absurd (let e : None ≡ Some store = is in cc)
needed_is P forgets (Some (Some path)) store all is = subst (λ (o : Option (List ℕ)). IfSome o P) (same_Some (Some path) store is) (all (Some path) refl)

-- the locator
reachable_by : (locator kept : Locator) (b : Bool) → is_reachable locator ≡ b → cond b (Some locator) None ≡ Some kept → (locator ≡ kept) × (is_reachable kept ≡ true)
reachable_by locator kept false can is = absurd (let e : None ≡ Some kept = is in cc)
reachable_by locator kept true can is = let same = same_Some locator kept is in (same, subst (λ (l : Locator). is_reachable l ≡ true) same can)

endpoint_or : (listen locator : Locator) (found : Option Data) → IsEndpoint listen → or_absent listen endpoint_value found ≡ Some locator → IsEndpoint locator
endpoint_or listen locator None here is = subst IsEndpoint (same_Some listen locator is) here
endpoint_or listen locator (Some value) here is = let r = read_of (as_str value) endpoint_of locator is in (endpoints_read.only r.first locator r.gives).1

locator_is : (listen locator : Locator) (found : Option Data) → IsEndpoint listen → (or_absent listen endpoint_value found >>= reachable) ≡ Some locator → IsEndpoint locator × (is_reachable locator ≡ true)
locator_is listen locator found here is =
    let r = read_of (or_absent listen endpoint_value found) reachable locator is in
    let k = reachable_by r.first locator (is_reachable r.first) refl r.gives in
    (subst IsEndpoint k.0 (endpoint_or listen r.first found here r.was), k.1)

-- ranges
bits_few : (a : Address) → bits_of a < 2 ^ 64
bits_few (address.V4 n) = omega arith
bits_few (address.V6 n) = omega arith

one_is : (word : List ℕ) (range : AllowedRange) → one_address word ≡ Some range → IsRange range
one_is word range is =
    let r = read_of (address_of word) (λ address. Some (record { address = address; length = bits_of address })) range is in
    subst IsRange (same_Some (record { address = r.first; length = bits_of r.first }) range r.gives) ((addresses_read.only word r.first r.was).1, omega arith)

parted_is : (parts : List ℕ × List ℕ) (range : AllowedRange) → parted_range parts ≡ Some range → IsRange range
unfolding parted_range
parted_is parts range is =
    let a = read_of (address_of parts.0) _ range is in
    let n = read_of (number_of (bits_of a.first) parts.1) _ range a.gives in
    subst IsRange (same_Some (record { address = a.first; length = n.first }) range n.gives)
    ((addresses_read.only parts.0 a.first a.was).1, ((numbers_read (bits_of a.first) (bits_few a.first)).only parts.1 n.first n.was).1)

range_is : (word : List ℕ) (parts : Option (List ℕ × List ℕ)) (range : AllowedRange) → range_by word parts ≡ Some range → IsRange range
range_is word None range is = one_is word range is
range_is word (Some parts) range is = parted_is parts range is

allowed_is : (value : Data) (range : AllowedRange) → allowed_value value ≡ Some range → IsRange range
unfolding allowed_of
allowed_is value range is = let r = read_of (as_str value) allowed_of range is in range_is r.first (parted 47 r.first) range r.gives

some_is : (P : AllowedRange → Type 0) (list kept : List AllowedRange) → AllByRecursion P list → some_of list ≡ Some kept → AllByRecursion P kept
some_is P [] kept all is = absurd (let e : None ≡ Some kept = is in cc)
some_is P (first ∷ others) kept all is = subst (AllByRecursion P) (same_Some (first ∷ others) kept is) all

allow_is : (found : Option Data) (list : List AllowedRange) → or_absent [] ranges_of found ≡ Some list → AllByRecursion IsRange list
allow_is None list is = subst (AllByRecursion IsRange) (same_Some [] list is) tt
allow_is (Some value) list is =
    let r = read_of (list_of allowed_value value) some_of list is in
    some_is IsRange r.first list (list_is IsRange allowed_value allowed_is value r.first r.was) r.gives

-- pauses
retry_most_is : (least : ℕ) (found : Option Data) (n : ℕ) → least ≤ 3600000 → or_absent (max least 60000) (number_in least 86400000) found ≡ Some n → IsBetween least 86400000 n
retry_most_is least found n few is = absent_range (max least 60000) least 86400000 found n (omega arith) (omega arith) is

least_is : (table : Members) (retry n : ℕ) → retry_in table ≡ Some retry → retry ≤ 3600000 → retry_most_in table ≡ Some n → IsBetween retry 86400000 n
least_is table retry n first few is =
    retry_most_is retry (get_member (codes "retry_most") table) n few
    (subst (λ (o : Option ℕ). or_absent (max (least_of o) 60000) (number_in (least_of o) 86400000) (get_member (codes "retry_most") table) ≡ Some n) first is)

-- names
printable_by : (text kept : List ℕ) (b : Bool) → list_all is_printable text ≡ b → cond b (Some text) None ≡ Some kept → text ≡ kept
printable_by text kept false are is = absurd (let e : None ≡ Some kept = is in cc)
printable_by text kept true are is = same_Some text kept is

name_is : (value : Data) (name : List ℕ) → name_value value ≡ Some name → HasSize 32 name
name_is value name is =
    let r = read_of (text_in 32 value) printable name is in
    subst (HasSize 32) (printable_by r.first name (list_all is_printable r.first) refl r.gives) (text_is 32 value r.first r.was)

-- the path of the socket at which the node is controlled
control_is : (found : Option Data) (path : List ℕ) → (found >>= text_in 107) ≡ Some path → HasSize 107 path
control_is found path is = let r = read_of found (text_in 107) path is in text_is 107 r.first path r.gives

table_in_range : (listen : Locator) (table : Members) (serve : ServeTable) → IsEndpoint listen → IsServeTable listen table serve → IsServeInRange serve
table_in_range listen table serve here is =
    let locator = locator_is listen serve.locator (get_member (codes "locator") table) here is.locator in
    let retry : IsBetween 100 3600000 serve.retry = absent_range 1000 100 3600000 (get_member (codes "retry") table) serve.retry (omega arith) (omega arith) is.retry in
    record {
      control = control_is (get_member (codes "control") table) serve.control is.control;
      guests = there_is (HasSize 107) (text_in 107) (text_is 107) (get_member (codes "guests") table) serve.guests is.guests;
      mode = mode_at (get_member (codes "mode") table) serve.mode is.mode;
      store = needed_is (HasSize 4095) _ _ serve.store (there_is (HasSize 4095) (text_in 4095) (text_is 4095) (get_member (codes "store") table)) is.store;
      locator = locator.0;
      reachable = locator.1;
      allow = allow_is (get_member (codes "allow") table) serve.allow is.allow;
      streams = absent_range 16 1 64 (get_member (codes "streams") table) serve.streams (omega arith) (omega arith) is.streams;
      silence = absent_range 60000 1000 3600000 (get_member (codes "silence") table) serve.silence (omega arith) (omega arith) is.silence;
      retry = retry;
      retry_most = least_is table serve.retry serve.retry_most is.retry retry.1 is.retry_most;
      every = there_is (IsBetween 1000 86400000) (number_in 1000 86400000) (number_range 1000 86400000) (get_member (codes "every") table) serve.every is.every;
      tick = absent_range 1000 100 1000 (get_member (codes "tick") table) serve.tick (omega arith) (omega arith) is.tick;
      visitors = absent_range 16 1 64 (get_member (codes "visitors") table) serve.visitors (omega arith) (omega arith) is.visitors;
      name = there_is (HasSize 32) name_value name_is (get_member (codes "name") table) serve.name is.name;
    }

pub serves_in_range : ServesAreInRange
serves_in_range whole config is =
    let node : IsInRange config.node = configs_in_range _ config.node is.node in
    (node, table_in_range config.node.listen is.table config.serve node.listen is.is)
