-- How the logic stores a data item: as a tree of numbers, from which the item comes back.
use Rattle.std.proofs.Common.{◌≡◌, ℕ, List, [], ◌∷◌, refl, ap, if◌then◌else◌, ◌==◌}
use Rattle.std.specs.Coded.{Coded, code_by, coded_list, coded×}
use base.Stored.{Gv, gnil, gnum, gcons}
use denote.Struct.Codes.{itself}
use Rattle.grasp_cbor.specs.DataItem.{DataItem, DataItems, DataPairs, unsigned, negative, byte_string, text_string, array, mapping, tagged, simple_value, half_float, single_float, double_float, no_items, item_and, no_pairs, pair_and}

abbrev pub number : Gv → ℕ
number gnil = 0
number (gnum n) = n
number (gcons a b) = 0

abbrev pub numbers_to : List ℕ → Gv
numbers_to [] = gnil
numbers_to (n ∷ ns) = gcons (gnum n) (numbers_to ns)

abbrev pub numbers_from : Gv → List ℕ
numbers_from gnil = []
numbers_from (gnum n) = []
numbers_from (gcons a b) = number a ∷ numbers_from b

pub numbers_back : (ns : List ℕ) → numbers_from (numbers_to ns) ≡ ns
numbers_back [] = refl
numbers_back (n ∷ ns) = ap (λ xs. n ∷ xs) (numbers_back ns)

abbrev mutual
  pub item_to : DataItem → Gv
  item_to (unsigned n) = gcons (gnum 0) (gnum n)
  item_to (negative n) = gcons (gnum 1) (gnum n)
  item_to (byte_string bs) = gcons (gnum 2) (numbers_to bs)
  item_to (text_string bs) = gcons (gnum 3) (numbers_to bs)
  item_to (array ts) = gcons (gnum 4) (items_to ts)
  item_to (mapping es) = gcons (gnum 5) (pairs_to es)
  item_to (tagged n t) = gcons (gnum 6) (gcons (gnum n) (item_to t))
  item_to (simple_value n) = gcons (gnum 7) (gnum n)
  item_to (half_float n) = gcons (gnum 8) (gnum n)
  item_to (single_float n) = gcons (gnum 9) (gnum n)
  item_to (double_float n) = gcons (gnum 10) (gnum n)

  pub items_to : DataItems → Gv
  items_to no_items = gnil
  items_to (item_and t ts) = gcons (item_to t) (items_to ts)

  pub pairs_to : DataPairs → Gv
  pairs_to no_pairs = gnil
  pairs_to (pair_and k v es) = gcons (gcons (item_to k) (item_to v)) (pairs_to es)

abbrev pub plain : ℕ → ℕ → DataItem
plain k n = if k == 0 then unsigned n else (if k == 1 then negative n else (if k == 7 then simple_value n else (if k == 8 then half_float n else (if k == 9 then single_float n else double_float n))))

abbrev mutual
  pub item_from : Gv → DataItem
  item_from gnil = unsigned 0
  item_from (gnum n) = unsigned 0
  item_from (gcons k b) = if number k == 2 then byte_string (numbers_from b) else (if number k == 3 then text_string (numbers_from b) else (if number k == 4 then array (items_from b) else (if number k == 5 then mapping (pairs_from b) else (if number k == 6 then tag_from b else plain (number k) (number b)))))

  pub tag_from : Gv → DataItem
  tag_from gnil = unsigned 0
  tag_from (gnum n) = unsigned 0
  tag_from (gcons n b) = tagged (number n) (item_from b)

  pub items_from : Gv → DataItems
  items_from gnil = no_items
  items_from (gnum n) = no_items
  items_from (gcons a b) = item_and (item_from a) (items_from b)

  pub pairs_from : Gv → DataPairs
  pairs_from gnil = no_pairs
  pairs_from (gnum n) = no_pairs
  pairs_from (gcons a b) = pair_from a (pairs_from b)

  pub pair_from : Gv → DataPairs → DataPairs
  pair_from gnil es = es
  pair_from (gnum n) es = es
  pair_from (gcons k v) es = pair_and (item_from k) (item_from v) es

mutual
  pub item_back : (t : DataItem) → item_from (item_to t) ≡ t
  item_back (unsigned n) = refl
  item_back (negative n) = refl
  item_back (byte_string bs) = ap byte_string (numbers_back bs)
  item_back (text_string bs) = ap text_string (numbers_back bs)
  item_back (array ts) = ap array (items_back ts)
  item_back (mapping es) = ap mapping (pairs_back es)
  item_back (tagged n t) = ap (tagged n) (item_back t)
  item_back (simple_value n) = refl
  item_back (half_float n) = refl
  item_back (single_float n) = refl
  item_back (double_float n) = refl

  pub items_back : (ts : DataItems) → items_from (items_to ts) ≡ ts
  items_back no_items = refl
  items_back (item_and t ts) = λ i. item_and (item_back t i) (items_back ts i)

  pub pairs_back : (es : DataPairs) → pairs_from (pairs_to es) ≡ es
  pairs_back no_pairs = refl
  pairs_back (pair_and k v es) = λ i. pair_and (item_back k i) (item_back v i) (pairs_back es i)

abbrev pub coded_item : Coded DataItem
coded_item = code_by Gv itself item_to item_from item_back

abbrev pub coded_items : Coded (List DataItem)
coded_items = coded_list coded_item

abbrev pub coded_pairs : Coded (List (DataItem × DataItem))
coded_pairs = coded_list (coded× coded_item coded_item)
