-- The parts of a configuration are within their limits.
use Rattle.std.proofs.Common.{◌≡◌, ℕ, ℤ, pos, negsuc, ◌+◌, ◌≤◌, Bool, true, false, ◌&&◌, cond, nat_le, nat_lt, List, [], ◌∷◌, length, Option, Some, None, refl, sym, ap, subst, ◌∙◌, arith}
use Rattle.std.specs.List.{AllByRecursion}
use Rattle.std.specs.Prelude.{codes}
use Rattle.std.proofs.lemmas.Bool.{and_parts, leb-true, ltb-false}
use Rattle.std.proofs.lemmas.Option.{same_Some}
use Rattle.toml.specs.Data.{Data, Items, no_items, item, Members, as_integer, as_array, get_member}
use Rattle.grasp_types.specs.declared.address.Locator.{Locator}
use Rattle.grasp_types.specs.declared.links.Neighbour.{Neighbour as Peer}
use Rattle.grasp_text.specs.Reading.{address_of}
use Rattle.grasp_config.specs.Keys.{neighbour_of, neighbours_of, link_of, links_of, want_of, few_with, reader_of, readers_in, beacons_in}
use Rattle.grasp_config.specs.Laws.{IsWant, IsNeighbour, IsLink, ConfigsAreInRange}
use Rattle.grasp_config.specs.Parts.{keys_of}
use Rattle.grasp_config.specs.Table.{◌>>=◌, whole_in, number_in, text_at, number_at, or_absent, onto, each, list_of, at_most, table_of}
use Rattle.grasp_config.specs.Words.{endpoint_of, IsEndpoint}
use Rattle.grasp_config.specs.declared.config.BeaconConfig.{BeaconConfig}
use Rattle.grasp_config.specs.declared.config.WantConfig.{WantConfig}
use Rattle.grasp_config.specs.declared.table.Part.TheVariants.{Link, Neighbour, Want}
use Rattle.grasp_config.proofs.EndpointWords.{endpoints_read}

-- what was read of something was read of what was found
pub record ReadOf {A B : Type 0} (found : Option A) (read : A → Option B) (b : B) : Type 0 where
  pub first : A
  pub was : found ≡ Some first
  pub gives : read first ≡ Some b

pub read_of : {A B : Type 0} (found : Option A) (read : A → Option B) (b : B) → (found >>= read) ≡ Some b → ReadOf found read b
read_of None read b is = absurd (let e : None ≡ Some b = is in cc)
read_of (Some a) read b is = record { first = a; was = refl; gives = is }

-- numbers
number_by : (least most m n : ℕ) (b : Bool) → (nat_le least m && nat_le m most) ≡ b → cond b (Some m) None ≡ Some n → (least ≤ n) × (n ≤ most)
number_by least most m n false within is = absurd (let e : None ≡ Some n = is in cc)
number_by least most m n true within is =
    let parts = and_parts (nat_le least m) (nat_le m most) within in
    subst (λ (x : ℕ). (least ≤ x) × (x ≤ most)) (same_Some m n is) (leb-true least m parts.0, leb-true m most parts.1)

whole_range : (least most : ℕ) (z : ℤ) (n : ℕ) → whole_in least most z ≡ Some n → (least ≤ n) × (n ≤ most)
whole_range least most (pos m) n is = number_by least most m n (nat_le least m && nat_le m most) refl is
whole_range least most (negsuc m) n is = absurd (let e : None ≡ Some n = is in cc)

pub number_range : (least most : ℕ) (value : Data) (n : ℕ) → number_in least most value ≡ Some n → (least ≤ n) × (n ≤ most)
number_range least most value n is = let r = read_of (as_integer value) (whole_in least most) n is in whole_range least most r.first n r.gives

at_range : (least most : ℕ) (key : List ℕ) (table : Members) (n : ℕ) → number_at least most key table ≡ Some n → (least ≤ n) × (n ≤ most)
at_range least most key table n is = let r = read_of (get_member key table) (number_in least most) n is in number_range least most r.first n r.gives

pub absent_range : (absent least most : ℕ) (found : Option Data) (n : ℕ) → least ≤ absent → absent ≤ most → or_absent absent (number_in least most) found ≡ Some n → (least ≤ n) × (n ≤ most)
absent_range absent least most None n low high is = subst (λ (x : ℕ). (least ≤ x) × (x ≤ most)) (same_Some absent n is) (low, high)
absent_range absent least most (Some value) n low high is = number_range least most value n is

endpoint_in : (key : List ℕ) (table : Members) (locator : Locator) → (text_at key table >>= endpoint_of) ≡ Some locator → IsEndpoint locator
endpoint_in key table locator is = let r = read_of (text_at key table) endpoint_of locator is in (endpoints_read.only r.first locator r.gives).1

-- lists
each_is : {A : Type 0} (P : A → Type 0) (read : Data → Option A) → ((value : Data) (a : A) → read value ≡ Some a → P a) → (items : Items) (list : List A) → each read items ≡ Some list → AllByRecursion P list
unfolding each
each_is P read all no_items list is = subst (AllByRecursion P) (same_Some [] list is) tt
each_is P read all (item value items) list is =
    let r = read_of (read value) (λ first. onto first (each read items)) list is in
    let s = read_of (each read items) (λ rest. Some (r.first ∷ rest)) list r.gives in
    subst (AllByRecursion P) (same_Some (r.first ∷ s.first) list s.gives) (all value r.first r.was, each_is P read all items s.first s.was)

pub list_is : {A : Type 0} (P : A → Type 0) (read : Data → Option A) → ((value : Data) (a : A) → read value ≡ Some a → P a) → (value : Data) (list : List A) → list_of read value ≡ Some list → AllByRecursion P list
list_is P read all value list is = let r = read_of (as_array value) (each read) list is in each_is P read all r.first list r.gives

absent_is : {A : Type 0} (P : A → Type 0) (read : Data → Option A) → ((value : Data) (a : A) → read value ≡ Some a → P a) → (found : Option Data) (list : List A) → or_absent [] (list_of read) found ≡ Some list → AllByRecursion P list
absent_is P read all None list is = subst (AllByRecursion P) (same_Some [] list is) tt
absent_is P read all (Some value) list is = list_is P read all value list is

most_by : {A : Type 0} (most : ℕ) (list kept : List A) (b : Bool) → nat_le (length list) most ≡ b → cond b (Some list) None ≡ Some kept → (list ≡ kept) × (length kept ≤ most)
most_by most list kept false few is = absurd (let e : None ≡ Some kept = is in cc)
most_by most list kept true few is = let same = same_Some list kept is in (same, subst (λ l. length l ≤ most) same (leb-true (length list) most few))

few_of : {A : Type 0} (P : A → Type 0) (read : Data → Option A) → ((value : Data) (a : A) → read value ≡ Some a → P a) → (most : ℕ) (value : Data) (list : List A) → (list_of read value >>= at_most most) ≡ Some list → (length list ≤ most) × AllByRecursion P list
few_of P read all most value list is =
    let r = read_of (list_of read value) (at_most most) list is in
    let m = most_by most r.first list (nat_le (length r.first) most) refl r.gives in
    (m.1, subst (AllByRecursion P) m.0 (list_is P read all value r.first r.was))

-- links
neighbour_is : (value : Data) (neighbour : Peer) → neighbour_of value ≡ Some neighbour → IsNeighbour neighbour
unfolding neighbour_of
neighbour_is value neighbour is =
    let t = read_of (table_of (keys_of Neighbour) value) _ neighbour is in
    let a = read_of (text_at (codes "address") t.first >>= address_of) _ neighbour t.gives in
    let l = read_of (text_at (codes "at") t.first >>= endpoint_of) _ neighbour a.gives in
    subst IsNeighbour (same_Some (record { address = a.first; locator = l.first }) neighbour l.gives) (endpoint_in (codes "at") t.first l.first l.was)

link_is : (value : Data) (link : List Peer) → link_of value ≡ Some link → IsLink link
unfolding link_of
link_is value link is =
    let t = read_of (table_of (keys_of Link) value) _ link is in
    let n = read_of (get_member (codes "neighbour") t.first) neighbours_of link t.gives in
    few_of IsNeighbour neighbour_of neighbour_is 16 n.first link n.gives

links_are : (found : Option Data) (links : List (List Peer)) → or_absent [] links_of found ≡ Some links → (length links ≤ 16) × AllByRecursion IsLink links
links_are None links is = subst (λ (l : List (List Peer)). (length l ≤ 16) × AllByRecursion IsLink l) (same_Some [] links is) (omega arith, tt)
links_are (Some value) links is = few_of IsLink link_of link_is 16 value links is

-- wants
want_is : (value : Data) (want : WantConfig) → want_of value ≡ Some want → IsWant want
unfolding want_of
want_is value want is =
    let t = read_of (table_of (keys_of Want) value) _ want is in
    let a = read_of (number_at 1 128 (codes "length") t.first) _ want t.gives in
    let b = read_of (number_at a.first 128 (codes "longest") t.first) _ want a.gives in
    let p = read_of (text_at (codes "peer") t.first >>= endpoint_of) _ want b.gives in
    let one = at_range 1 128 (codes "length") t.first a.first a.was in
    let two = at_range a.first 128 (codes "longest") t.first b.first b.was in
    subst IsWant (same_Some (record { length = a.first; longest = b.first; peer = p.first }) want p.gives)
    (record { least = one.0; order = two.0; most = two.1; peer = endpoint_in (codes "peer") t.first p.first p.was })

-- beacons and readers
few_by : (beacons : List BeaconConfig) (list readers : List (List ℕ)) (b : Bool) → nat_lt 7 (length beacons + length list) ≡ b → cond b None (Some list) ≡ Some readers → length beacons + length readers ≤ 7
few_by beacons list readers true many is = absurd (let e : None ≡ Some readers = is in cc)
few_by beacons list readers false few is = subst (λ (l : List (List ℕ)). length beacons + length l ≤ 7) (same_Some list readers is) (ltb-false 7 (length beacons + length list) few)

few_agents : (table : Members) (beacons : List BeaconConfig) (readers : List (List ℕ)) → beacons_in table ≡ Some beacons → readers_in table ≡ Some readers → length beacons + length readers ≤ 7
few_agents table beacons readers some is =
    let r = read_of (or_absent [] (list_of reader_of) (get_member (codes "reader") table)) (few_with (beacons_in table)) readers is in
    few_by beacons r.first readers (nat_lt 7 (length beacons + length r.first)) refl (sym (ap (λ (o : Option (List BeaconConfig)). few_with o r.first) some) ∙ r.gives)

pub configs_in_range : ConfigsAreInRange
configs_in_range table config is =
    let turns = at_range 1 1000000 (codes "turns") table config.turns is.turns in
    let wait = absent_range 10 0 1000 (get_member (codes "wait") table) config.wait (omega arith) (omega arith) is.wait in
    let size = absent_range 2048 2048 65535 (get_member (codes "size") table) config.size (omega arith) (omega arith) is.size in
    let links = links_are (get_member (codes "link") table) config.links is.links in
    record {
      listen = endpoint_in (codes "listen") table config.listen is.listen;
      some_turns = turns.0;
      most_turns = turns.1;
      wait = wait.1;
      least_size = size.0;
      most_size = size.1;
      few_links = links.0;
      links = links.1;
      wants = absent_is IsWant want_of want_is (get_member (codes "want") table) config.wants is.wants;
      few_agents = few_agents table config.beacons config.readers is.beacons is.readers;
    }
