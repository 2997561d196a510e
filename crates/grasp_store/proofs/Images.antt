-- The images of pools.
use Rattle.std.proofs.Common.{◌≡◌, ◌↔◌, ◌⊎◌, inl, inr, ℕ, ◌+◌, ◌<◌, ◌≤◌, true, List, [], ◌∷◌, length, slice_get, slice_index_or, drop, Contains, None, sym, ◌∙◌, ap, subst, arith}
use Rattle.std.proofs.lemmas.List.{drop_more}
use Rattle.std.proofs.lemmas.Option.{none-some, slice_get_cases}
use Rattle.grasp_types.specs.Prefix.{AddressBlock as Prefix, span_of}
use Rattle.grasp_pool.specs.Canonical.{IsRising}
use Rattle.grasp_pool.specs.Functions.{add, each, can_gain}
use Rattle.grasp_pool.specs.Holdings.{Holding, IsNew}
use Rattle.grasp_pool.specs.Listings.{AreDisjoint}
use Rattle.grasp_pool.specs.Pools.{IsPool, room_of}
use Rattle.grasp_pool.specs.Spans.{Apart, IsValid}
use Rattle.grasp_pool.proofs.Addresses.{first_in}
use Rattle.grasp_pool.proofs.Disjoint.{rising_disjoint, both_disjoint}
use Rattle.grasp_pool.proofs.Equal.{add_members, add_rising}
use Rattle.grasp_pool.proofs.Gaining.{can_gain_tells}
use Rattle.grasp_pool.proofs.Growing.{add_length}
use Rattle.grasp_pool.proofs.Unique.{none_in, rising_head, rising_tail, cons_cases, cons_first, cons_more}
use Rattle.grasp_store.specs.Images.{IsGoodImage, image_of, with_doubt}

-- ---- prefixes put into a rising list, one after the other

-- these may be put there: both lists rise, and no prefix of one begins where one of the other does
pub record IsAddable (rs ds : List Prefix) : Type 0 where
  pub left : IsRising rs
  pub right : IsRising ds
  pub differ : (p q : Prefix) → Contains rs p → Contains ds q → ¬ (p.address ≡ q.address)

module _ (r : Prefix) (rs ds : List Prefix) (addable : IsAddable (r ∷ rs) ds) where
  -- the first one is new
  pub first_new : (q : Prefix) → Contains ds q → ¬ (q.address ≡ r.address)
  first_new q has same = addable.differ r q (cons_first r rs) has (sym same)

  -- and behind it so may the others
  pub others_addable : IsAddable rs (add r ds)
  others_addable = record {
    left = rising_tail r rs addable.left;
    right = add_rising r ds addable.right first_new;
    differ = λ p q has there same. elim ((add_members r ds q).0 there) [
      | inl old ↦ addable.differ p q (cons_more r p rs has) old same
      | inr is ↦ above p has (same ∙ ap (λ (x : Prefix). x.address) is)
    ];
  }
    where
      above : (p : Prefix) → Contains rs p → ¬ (p.address ≡ r.address)
      above p has same = omega (arith, same, rising_head r rs addable.left p has)

-- what comes of it
pub record IsJoined (rs ds all : List Prefix) : Type 0 where
  pub rising : IsRising all
  pub members : (q : Prefix) → Contains all q ↔ (Contains rs q ⊎ Contains ds q)
  pub size : length all ≡ length rs + length ds

pub joined : (rs ds : List Prefix) → IsAddable rs ds → IsJoined rs ds (each add rs ds)
unfolding each
joined [] ds addable = record { rising = addable.right; members = λ q. (λ has. inr has, λ s. elim s [ inl has ↦ absurd (none_in q has) | inr has ↦ has ]); size = omega arith }
joined (r ∷ rs) ds addable =
    let next : IsJoined rs (add r ds) (each add rs (add r ds)) = joined rs (add r ds) (others_addable r rs ds addable)
    in record {
      rising = next.rising;
      members = λ q. (
        λ has. elim ((next.members q).0 has) [
          | inl there ↦ inl (cons_more r q rs there)
          | inr there ↦ elim ((add_members r ds q).0 there) [ inl old ↦ inr old | inr is ↦ inl (subst (Contains (r ∷ rs)) (sym is) (cons_first r rs)) ]
        ],
        λ s. elim s [
          | inl has ↦ elim (cons_cases r q rs has) [
            | inl there ↦ (next.members q).1 (inl there)
            | inr is ↦ (next.members q).1 (inr ((add_members r ds q).1 (inr (sym is))))
          ]
          | inr has ↦ (next.members q).1 (inr ((add_members r ds q).1 (inl has)))
        ],
      );
      size = omega (arith, next.size, add_length r ds);
    }

-- ---- the lists of a pool

module _ (h : Holding) (pool : IsPool h) where
  pub reserved_addable : IsAddable h.reserved h.doubtful
  reserved_addable = record {
    left = pool.reserved;
    right = pool.doubtful;
    differ = λ p q has other same.
        pool.apart p q (λ is. pool.once q (subst (Contains h.reserved) is has) other) (inl has) (inr other) p.address (first_in p) (subst (λ (n : ℕ). span_of q n) (sym same) (first_in q));
  }

  pub listed_joined : IsJoined h.reserved h.doubtful (each add h.reserved h.doubtful)
  listed_joined = joined h.reserved h.doubtful reserved_addable

  free_disjoint : AreDisjoint h.free
  free_disjoint = rising_disjoint h.free pool.free.rising pool.free.clean.valid (λ p q ne has other. pool.free.clean.apart p q has other ne)

  listed_disjoint : AreDisjoint (each add h.reserved h.doubtful)
  listed_disjoint =
      rising_disjoint (each add h.reserved h.doubtful) listed_joined.rising (λ p has. pool.valid p ((listed_joined.members p).0 has))
      (λ p q ne has other. pool.apart p q ne ((listed_joined.members p).0 has) ((listed_joined.members q).0 other))

  free_apart : (p q : Prefix) → Contains h.free p → Contains (each add h.reserved h.doubtful) q → Apart p q
  free_apart p q has other a here there = pool.held q a ((listed_joined.members q).0 other) there (p, has, here)

  -- a pool can have its image
  pub image_good : IsGoodImage (image_of h)
  image_good = record { few = omega (arith, pool.few, listed_joined.size); disjoint = both_disjoint h.free (each add h.reserved h.doubtful) free_disjoint listed_disjoint free_apart }

  -- ---- with a prefix in doubt besides

  module _ (p : Prefix) (valid : IsValid p) (gains : can_gain h p ≡ true) where
    new_here : IsNew h p
    new_here = ((can_gain_tells h p).0 gains).0

    room_here : 0 < room_of h
    room_here = ((can_gain_tells h p).0 gains).1

    pub doubt_new : (q : Prefix) → Contains (each add h.reserved h.doubtful) q → ¬ (q.address ≡ p.address)
    doubt_new q has same = new_here.listed q ((listed_joined.members q).0 has) q.address (subst (λ (n : ℕ). span_of p n) (sym same) (first_in p)) (first_in q)

    pub doubt_room : length (each add h.reserved h.doubtful) < 4096
    doubt_room = omega (arith, room_here, pool.few, listed_joined.size)

    pub doubt_rising : IsRising (add p (each add h.reserved h.doubtful))
    doubt_rising = add_rising p (each add h.reserved h.doubtful) listed_joined.rising doubt_new

    doubts_disjoint : AreDisjoint (add p (each add h.reserved h.doubtful))
    doubts_disjoint = rising_disjoint (add p (each add h.reserved h.doubtful)) doubt_rising all_valid all_apart
      where
        all_valid : (q : Prefix) → Contains (add p (each add h.reserved h.doubtful)) q → IsValid q
        all_valid q has = elim ((add_members p (each add h.reserved h.doubtful) q).0 has) [
          | inl old ↦ pool.valid q ((listed_joined.members q).0 old)
          | inr is ↦ subst IsValid (sym is) valid
        ]

        all_apart : (q r : Prefix) → ¬ (q ≡ r) → Contains (add p (each add h.reserved h.doubtful)) q → Contains (add p (each add h.reserved h.doubtful)) r → Apart q r
        all_apart q r ne has other = elim ((add_members p (each add h.reserved h.doubtful) q).0 has) [
          | inl old ↦ elim ((add_members p (each add h.reserved h.doubtful) r).0 other) [
            | inl too ↦ pool.apart q r ne ((listed_joined.members q).0 old) ((listed_joined.members r).0 too)
            | inr is ↦ λ a here there. new_here.listed q ((listed_joined.members q).0 old) a (subst (λ (x : Prefix). span_of x a) is there) here
          ]
          | inr is ↦ elim ((add_members p (each add h.reserved h.doubtful) r).0 other) [
            | inl too ↦ λ a here there. new_here.listed r ((listed_joined.members r).0 too) a (subst (λ (x : Prefix). span_of x a) is here) there
            | inr same ↦ absurd (ne (is ∙ sym same))
          ]
        ]

    -- a pool can have its image with a prefix in doubt that it could gain
    pub doubt_good : IsGoodImage (with_doubt p (image_of h))
    doubt_good = record {
      few = omega (arith, room_here, pool.few, listed_joined.size, add_length p (each add h.reserved h.doubtful));
      disjoint = both_disjoint h.free (add p (each add h.reserved h.doubtful)) free_disjoint doubts_disjoint apart;
    }
      where
        apart : (q r : Prefix) → Contains h.free q → Contains (add p (each add h.reserved h.doubtful)) r → Apart q r
        apart q r has other = elim ((add_members p (each add h.reserved h.doubtful) r).0 other) [
          | inl old ↦ free_apart q r has old
          | inr is ↦ λ a here there. new_here.free a (subst (λ (x : Prefix). span_of x a) is there) (q, has, here)
        ]

-- ---- the loop

-- there is no prefix at a place past the end
pub past_none : (ps : List Prefix) (i : ℕ) → slice_get ps i ≡ None → length ps ≤ i
past_none ps i none = elim (slice_get_cases ps i).1 [ inl there ↦ absurd (none-some there.0 (sym none ∙ there.2)) | inr past ↦ past.0 ]

-- the next one is new, and behind it the others may be put there
pub next_new : (rs ds : List Prefix) (i : ℕ) (p : Prefix) → i < length rs → p ≡ slice_index_or rs i p → IsAddable (drop i rs) ds → (q : Prefix) → Contains ds q → ¬ (q.address ≡ p.address)
next_new rs ds i p lt is addable = first_new p (drop (i + 1) rs) ds (subst (λ (l : List Prefix). IsAddable l ds) (drop_more rs i p lt ∙ ap (λ (x : Prefix). x ∷ drop (i + 1) rs) (sym is)) addable)

pub next_addable : (rs ds : List Prefix) (i : ℕ) (p : Prefix) → i < length rs → p ≡ slice_index_or rs i p → IsAddable (drop i rs) ds → IsAddable (drop (i + 1) rs) (add p ds)
next_addable rs ds i p lt is addable = others_addable p (drop (i + 1) rs) ds (subst (λ (l : List Prefix). IsAddable l ds) (drop_more rs i p lt ∙ ap (λ (x : Prefix). x ∷ drop (i + 1) rs) (sym is)) addable)
