-- The entries of a slot, by their places.
use Rattle.std.proofs.Common.{◌≡◌, ◌↔◌, inl, inr, Bool, IsTrue, ℕ, zero, suc, ◌+◌, ◌*◌, ◌<◌, ◌≤◌, List, ◌∷◌, ◌++◌, length, slice_index_or, take, drop, refl, sym, ◌∙◌, ap, subst, arith, drop-drop}
use Rattle.std.specs.Int.{w128, from_be_bytes}
use Rattle.std.proofs.lemmas.Bool.{cases_eq}
use Rattle.std.proofs.lemmas.List.{get_or-drop}
use Rattle.grasp_types.specs.Prefix.{AddressBlock as Prefix, Overlap}
use Rattle.grasp_pool.specs.Listings.{AreDisjoint, all_of}
use Rattle.grasp_pool.specs.Spans.{Apart, IsValid}
use Rattle.grasp_pool.specs.declared.image.PoolImage.{PoolImage}
use Rattle.grasp_store.specs.Images.{IsGoodImage}
use Rattle.grasp_store.specs.Reading.{EntriesApart, EntriesDisjoint, EntriesValid, entry_from, entry_in}
use Rattle.grasp_store.specs.Slots.{prefixes_in, saved_in, free_count, doubtful_count}

abbrev image_with : List Prefix → List Prefix → PoolImage
image_with free doubtful = record { free = free; doubtful = doubtful }

-- ---- prefixes that stand in bytes

entry_behind : (bytes : List ℕ) (n at : ℕ) → entry_from (drop n bytes) at ≡ entry_from bytes (n + at)
entry_behind bytes n at =
    ap (λ (l : List ℕ). with_parts (take 16 l) (slice_index_or (drop n bytes) at 0)) (drop-drop (at + 1) n bytes ∙ ap (λ (k : ℕ). drop k bytes) (one_more n at))
    ∙ ap (with_parts (take 16 (drop (n + at + 1) bytes))) (get_or-drop n bytes at 0)
  where
    with_parts : List ℕ → ℕ → Prefix
    with_parts address n = record { address = from_be_bytes w128 address; length = n }

    one_more : (m k : ℕ) → m + (k + 1) ≡ m + k + 1
    one_more m k = omega arith

pub length-prefixes : (n : ℕ) (bytes : List ℕ) → length (prefixes_in n bytes) ≡ n
unfolding prefixes_in
length-prefixes zero bytes = refl
length-prefixes (suc n) bytes = ap suc (length-prefixes n (drop 17 bytes))

prefix_at : (n i : ℕ) (bytes : List ℕ) (d : Prefix) → i < n → slice_index_or (prefixes_in n bytes) i d ≡ entry_from bytes (17 * i)
unfolding prefixes_in
prefix_at zero i bytes d lt = absurd (omega (arith, lt))
prefix_at (suc n) zero bytes d lt = refl
prefix_at (suc n) (suc i) bytes d lt = prefix_at n i (drop 17 bytes) d (omega (arith, lt)) ∙ entry_behind bytes 17 (17 * i) ∙ ap (entry_from bytes) (next i)
  where
    next : (k : ℕ) → 17 + 17 * k ≡ 17 * suc k
    next k = omega arith

-- so many from an entry on
pub entry_at : (bytes : List ℕ) (from count i : ℕ) (d : Prefix) → i < count → slice_index_or (prefixes_in count (drop (12 + 17 * from) bytes)) i d ≡ entry_in bytes (from + i)
unfolding entry_in
entry_at bytes from count i d lt = prefix_at count i (drop (12 + 17 * from) bytes) d lt ∙ entry_behind bytes (12 + 17 * from) (17 * i) ∙ ap (entry_from bytes) (there from i)
  where
    there : (m k : ℕ) → 12 + 17 * m + 17 * k ≡ 12 + 17 * (m + k)
    there m k = omega arith

-- some, and then more
pub prefixes_more : (m n : ℕ) (bytes : List ℕ) → prefixes_in m bytes ++ prefixes_in n (drop (17 * m) bytes) ≡ prefixes_in (m + n) bytes
unfolding prefixes_in
prefixes_more zero n bytes = ap (λ (k : ℕ). prefixes_in k bytes) (sym (none_more n))
  where
    none_more : (k : ℕ) → 0 + k ≡ k
    none_more k = omega arith
prefixes_more (suc m) n bytes =
    ap (λ (ps : List Prefix). entry_from bytes 0 ∷ ps)
    (ap (λ (l : List ℕ). prefixes_in m (drop 17 bytes) ++ prefixes_in n l) (ap (λ (k : ℕ). drop k bytes) (next m) ∙ sym (drop-drop (17 * m) 17 bytes)) ∙ prefixes_more m n (drop 17 bytes))
    ∙ ap (λ (k : ℕ). prefixes_in k bytes) (one_more m n)
  where
    next : (k : ℕ) → 17 * suc k ≡ 17 + 17 * k
    next k = omega arith

    one_more : (k l : ℕ) → suc (k + l) ≡ suc k + l
    one_more k l = omega arith

-- ---- an image

module _ (bytes : List ℕ) where
  abbrev all : ℕ
  all = free_count bytes + doubtful_count bytes

  all_is : all_of (saved_in bytes).image ≡ prefixes_in all (drop 12 bytes)
  unfolding saved_in
  all_is = ap (λ (l : List ℕ). prefixes_in (free_count bytes) (drop 12 bytes) ++ prefixes_in (doubtful_count bytes) l) (sym (drop-drop (17 * free_count bytes) 12 bytes)) ∙ prefixes_more (free_count bytes) (doubtful_count bytes) (drop 12 bytes)

  first_at : (count i : ℕ) (d : Prefix) → i < count → slice_index_or (prefixes_in count (drop 12 bytes)) i d ≡ entry_in bytes i
  first_at count i d lt = entry_at bytes 0 count i d lt ∙ ap (entry_in bytes) (none_more i)
    where
      none_more : (k : ℕ) → 0 + k ≡ k
      none_more k = omega arith

  entries_disjoint : (count : ℕ) → AreDisjoint (prefixes_in count (drop 12 bytes)) → EntriesDisjoint bytes count
  entries_disjoint count disjoint = record {
    valid = λ k lt. subst IsValid (first_at count k none lt) (disjoint.valid k none (within k lt) (within k lt));
    apart = λ k lt j less.
        subst (λ (p : Prefix). Apart p (entry_in bytes k)) (first_at count j none (omega (arith, lt, less)))
        (subst (Apart (slice_index_or (prefixes_in count (drop 12 bytes)) j none)) (first_at count k none lt) (disjoint.apart k none (within k lt) (within k lt) j none less (within j (omega (arith, lt, less)))));
  }
    where
      none : Prefix
      none = record { address = 0; length = 0 }

      within : (k : ℕ) → k < count → k < length (prefixes_in count (drop 12 bytes))
      within k lt = omega (arith, lt, length-prefixes count (drop 12 bytes))

  disjoint_entries : (count : ℕ) → EntriesDisjoint bytes count → AreDisjoint (prefixes_in count (drop 12 bytes))
  disjoint_entries count disjoint = record {
    valid = λ k d lt within. subst IsValid (sym (first_at count k d (below k within))) (disjoint.valid k (below k within));
    apart = λ k d lt within j e less before.
        subst (λ (p : Prefix). Apart p (slice_index_or (prefixes_in count (drop 12 bytes)) k d)) (sym (first_at count j e (below j before)))
        (subst (Apart (entry_in bytes j)) (sym (first_at count k d (below k within))) (disjoint.apart k (below k within) j less));
  }
    where
      below : (k : ℕ) → k < length (prefixes_in count (drop 12 bytes)) → k < count
      below k lt = omega (arith, lt, length-prefixes count (drop 12 bytes))

  counts : (length (saved_in bytes).image.free ≡ free_count bytes) × (length (saved_in bytes).image.doubtful ≡ doubtful_count bytes)
  unfolding saved_in
  counts = (length-prefixes (free_count bytes) (drop 12 bytes), length-prefixes (doubtful_count bytes) (drop (12 + 17 * free_count bytes) bytes))

  -- a pool can have it exactly where there are few entries, which are disjoint
  pub good_from : free_count bytes + doubtful_count bytes ≤ 4096 → EntriesDisjoint bytes (free_count bytes + doubtful_count bytes) → IsGoodImage (saved_in bytes).image
  good_from few disjoint = record { few = omega (arith, few, counts.0, counts.1); disjoint = subst AreDisjoint (sym all_is) (disjoint_entries all disjoint) }

  pub few_of_good : IsGoodImage (saved_in bytes).image → free_count bytes + doubtful_count bytes ≤ 4096
  few_of_good good = omega (arith, good.few, counts.0, counts.1)

  pub disjoint_of_good : IsGoodImage (saved_in bytes).image → EntriesDisjoint bytes (free_count bytes + doubtful_count bytes)
  disjoint_of_good good = entries_disjoint all (subst AreDisjoint all_is good.disjoint)

-- ---- the loops

-- one entry more is apart
pub apart_more : (bytes : List ℕ) (p q : Prefix) (i : ℕ) → q ≡ entry_in bytes i → ¬ Overlap q p → EntriesApart bytes p i → EntriesApart bytes p (i + 1)
apart_more bytes p q i is miss before k lt = elim (cases_eq k i) [
  | inl same ↦ λ a here there. miss (a, (subst (λ (r : Prefix). Rattle.grasp_types.specs.Prefix.span_of r a) (sym (is ∙ ap (entry_in bytes) (sym same))) here, there))
  | inr other ↦ before k (grind arith)
]

-- one that overlaps isn't
pub met_at : (bytes : List ℕ) (p q : Prefix) (i count : ℕ) → q ≡ entry_in bytes i → i < count → Overlap q p → ¬ EntriesApart bytes p count
met_at bytes p q i count is lt meets apart = subst (λ (r : Prefix). Apart r p) (sym is) (apart i lt) meets.0 meets.1.0 meets.1.1

-- one entry more is a prefix, and apart from those before it
pub disjoint_one_more : (bytes : List ℕ) (i : ℕ) (p : Prefix) → p ≡ entry_in bytes i → IsValid (entry_in bytes i) → EntriesApart bytes p i → EntriesDisjoint bytes i → EntriesDisjoint bytes (i + 1)
disjoint_one_more bytes i p is valid apart before = record {
  valid = λ k lt. elim (cases_eq k i) [
    | inl same ↦ subst (λ (n : ℕ). IsValid (entry_in bytes n)) (sym same) valid
    | inr other ↦ before.valid k (grind arith)
  ];
  apart = λ k lt. elim (cases_eq k i) [
    | inl same ↦ subst (λ (n : ℕ). EntriesApart bytes (entry_in bytes n) n) (sym same) (subst (λ (q : Prefix). EntriesApart bytes q i) is apart)
    | inr other ↦ before.apart k (grind arith)
  ];
}

-- each of the first entries that are prefixes is one
pub valid_first : (bytes : List ℕ) (count i : ℕ) → EntriesValid bytes 0 count → i < count → IsValid (entry_in bytes i)
valid_first bytes count i valid lt = subst (λ (k : ℕ). IsValid (entry_in bytes k)) (none_more i) (valid i lt)
  where
    none_more : (k : ℕ) → 0 + k ≡ k
    none_more k = omega arith

-- ---- the test of an image

module _ (bytes : List ℕ) (n : ℕ) (is : n ≡ free_count bytes + doubtful_count bytes) where
  pub good_where_few : n ≤ 4096 → (b : Bool) → IsTrue b ↔ EntriesDisjoint bytes n → IsTrue b ↔ IsGoodImage (saved_in bytes).image
  good_where_few few b test = (
    λ t. good_from bytes (omega (arith, few, is)) (subst (EntriesDisjoint bytes) is (test.0 t)),
    λ good. test.1 (subst (EntriesDisjoint bytes) (sym is) (disjoint_of_good bytes good)),
  )

  pub good_never : 4096 < n → ¬ IsGoodImage (saved_in bytes).image
  good_never many good = omega (arith, many, is, few_of_good bytes good)

-- ---- an image that is read

pub first_valid : (bytes : List ℕ) (f : ℕ) → f ≡ free_count bytes → IsGoodImage (saved_in bytes).image → EntriesValid bytes 0 f
first_valid bytes f is good k lt = (disjoint_of_good bytes good).valid (0 + k) (omega (arith, lt, is))

pub later_valid : (bytes : List ℕ) (f d : ℕ) → f ≡ free_count bytes → d ≡ doubtful_count bytes → IsGoodImage (saved_in bytes).image → EntriesValid bytes f d
later_valid bytes f d is is' good k lt = (disjoint_of_good bytes good).valid (f + k) (omega (arith, lt, is, is'))

pub image_from : (bytes : List ℕ) (f d : ℕ) (free doubtful : List Prefix) → f ≡ free_count bytes → d ≡ doubtful_count bytes → free ≡ prefixes_in f (drop (12 + 17 * 0) bytes)
    → doubtful ≡ prefixes_in d (drop (12 + 17 * f) bytes) → image_with free doubtful ≡ (saved_in bytes).image
unfolding saved_in
image_from bytes f d free doubtful is is' reads reads' =
    ap (λ (ps : List Prefix). image_with ps doubtful) (reads ∙ ap (λ (n : ℕ). prefixes_in n (drop 12 bytes)) is)
    ∙ ap (image_with (prefixes_in (free_count bytes) (drop 12 bytes))) (reads' ∙ ap (λ (n : ℕ). prefixes_in n (drop (12 + 17 * f) bytes)) is' ∙ ap (λ (n : ℕ). prefixes_in (doubtful_count bytes) (drop (12 + 17 * n) bytes)) is)
