-- Which data items have an encoding: the ranges of their numbers (RFC 8949, section 3).
use Rattle.std.specs.Prelude.{◌^◌, ◌<◌, length}
use Rattle.std.specs.Str.{IsUtf8}
use Rattle.grasp_cbor.specs.Bytes.{AllBytes}
use Rattle.grasp_cbor.specs.Simple.{IsSimple}
use Rattle.grasp_cbor.specs.DataItem.{DataItem, DataItems, DataPairs, unsigned, negative, byte_string, text_string, array, mapping, tagged, simple_value, half_float, single_float, double_float, no_items, item_and, no_pairs, pair_and, item_count, pair_count}

abbrev mutual
  -- numbers, lengths, counts and tag numbers are below 2 ^ 64, a float's bits fit its width, a byte string
  -- is bytes, a text is UTF-8, and a simple value is one
  pub IsEncodable : DataItem → Type 0
  IsEncodable (unsigned n) = n < 2 ^ 64
  IsEncodable (negative n) = n < 2 ^ 64
  IsEncodable (byte_string bs) = (length bs < 2 ^ 64) × AllBytes bs
  IsEncodable (text_string bs) = (length bs < 2 ^ 64) × IsUtf8 bs
  IsEncodable (array ts) = (item_count ts < 2 ^ 64) × AreEncodable ts
  IsEncodable (mapping es) = (pair_count es < 2 ^ 64) × ArePairsEncodable es
  IsEncodable (tagged n t) = (n < 2 ^ 64) × IsEncodable t
  IsEncodable (simple_value n) = IsSimple n × (n < 2 ^ 8)
  IsEncodable (half_float n) = n < 2 ^ 16
  IsEncodable (single_float n) = n < 2 ^ 32
  IsEncodable (double_float n) = n < 2 ^ 64

  pub AreEncodable : DataItems → Type 0
  AreEncodable no_items = Unit {0}
  AreEncodable (item_and t ts) = IsEncodable t × AreEncodable ts

  pub ArePairsEncodable : DataPairs → Type 0
  ArePairsEncodable no_pairs = Unit {0}
  ArePairsEncodable (pair_and k v es) = IsEncodable k × IsEncodable v × ArePairsEncodable es
