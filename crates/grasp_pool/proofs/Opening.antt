-- From prefixes in order to a pool.
use Rattle.std.proofs.Common.{ℕ, ◌+◌, ◌<◌, ◌≤◌, ◌⊎◌, ◌↔◌, inl, inr, List, [], ◌++◌, length, map, slice_index_or, Contains, sym, ◌∙◌, ap, subst, arith, Option, Some, None, MatchOption, is_some, IfSome, false, Bool, not, ◌≡◌, drop, suc, zero, refl}
use Rattle.std.proofs.lemmas.Bool.{cases_lt, cases_eq}
use Rattle.std.proofs.lemmas.List.{append-nil, get_or_default, get_or_append_left, get_or-append-add, get_or-map, length-append, length-map, drop_all}
use Rattle.std.proofs.Math.Seq.{drop-cons}
use Rattle.std.proofs.lemmas.List.Elements.{Contains-get_or}
use Rattle.grasp_types.specs.Prefix.{AddressBlock as Prefix, span_of, Overlap}
use Rattle.grasp_pool.specs.Spans.{Apart, IsValid, Covers}
use Rattle.grasp_pool.specs.Holdings.{IsListed}
use Rattle.grasp_pool.specs.Canonical.{IsRising, IsTidy}
use Rattle.grasp_pool.specs.Parts.{ApartFrom}
use Rattle.grasp_pool.specs.Pools.{IsPool}
use Rattle.grasp_pool.specs.Listings.{all_of, ApartBelow, AreDisjoint, DisjointBelow, IsClashIn}
use Rattle.grasp_pool.specs.declared.image.PoolImage.{PoolImage}
use Rattle.grasp_pool.specs.declared.roots.Clash.{Clash}
use Rattle.grasp_pool.specs.declared.roots.RootPrefix.{RootPrefix}
use Rattle.grasp_pool.specs.Roots.{block_of, AllValid, AllApart, RootsApart, IsRootAddress, IsHit, IsClash}
use Rattle.grasp_pool.specs.Answers.{IsOpened, IsReopened}
use Rattle.grasp_pool.specs.Functions.{add, join, each, pool_of, pool_of_image}
use Rattle.grasp_pool.proofs.Addresses.{first_in}
use Rattle.grasp_pool.proofs.Equal.{add_members, add_rising}
use Rattle.grasp_pool.proofs.Growing.{IsMerged, merged, add_length}
use Rattle.grasp_pool.proofs.Meeting.{more_apart}
use Rattle.grasp_pool.proofs.Unique.{none_in}

-- ---- what the loops find

-- one more is apart from those before it
pub disjoint_more : (ps : List Prefix) (n : ℕ) (p : Prefix) → DisjointBelow ps n → n < length ps → p ≡ slice_index_or ps n p → IsValid p → ApartBelow ps p n → DisjointBelow ps (n + 1)
disjoint_more ps n p before h is v apart = record {
  valid = λ k d lt within. elim (cases_eq k n) [
    | inl e ↦ subst IsValid (here k d e within) v
    | inr ne ↦ before.valid k d (grind arith) within
  ];
  apart = λ k d lt within. elim (cases_eq k n) [
    | inl e ↦ subst (λ q. ApartBelow ps q k) (here k d e within) (subst (ApartBelow ps p) (sym e) apart)
    | inr ne ↦ before.apart k d (grind arith) within
  ];
}
  where
    here : (k : ℕ) (d : Prefix) → k ≡ n → k < length ps → p ≡ slice_index_or ps k d
    here k d e within = is ∙ ap (λ j. slice_index_or ps j p) (sym e) ∙ get_or_default ps k p d within

pub miss_at : (ps : List Prefix) (p q : Prefix) (i : ℕ) → ApartBelow ps p i → i < length ps → q ≡ slice_index_or ps i q → ¬ Overlap q p → ApartBelow ps p (i + 1)
miss_at ps p q i below h is miss = more_apart ps p i q below h (λ m. miss (subst (λ r. Overlap r p) (sym is) m))

pub apart_up_to : (ps : List Prefix) (p : Prefix) (i n : ℕ) → n ≤ i → ApartBelow ps p i → ApartBelow ps p n
apart_up_to ps p i n le before k d lt within = before k d (omega arith) within

-- ---- lists of disjoint prefixes

module _ (ps : List Prefix) (disjoint : AreDisjoint ps) where
  pub member_valid : (q : Prefix) → Contains ps q → IsValid q
  member_valid q h = subst IsValid h.2 (disjoint.valid h.0 q h.1 h.1)

  before : (p q : Prefix) (h : Contains ps p) (k : Contains ps q) → h.0 < k.0 → Apart p q
  before p q h k lt = subst (λ x. Apart x q) h.2 (subst (Apart (slice_index_or ps h.0 p)) k.2 (disjoint.apart k.0 q k.1 k.1 h.0 p lt h.1))

  pub members_apart : (p q : Prefix) → Contains ps p → Contains ps q → ¬ (p ≡ q) → Apart p q
  members_apart p q h k ne = elim (cases_lt h.0 k.0) [
    | inl lt ↦ before p q h k lt
    | inr le ↦ elim (cases_eq k.0 h.0) [
      | inl e ↦ absurd (ne (sym h.2 ∙ ap (λ j. slice_index_or ps j p) (sym e) ∙ get_or_default ps k.0 p q k.1 ∙ k.2))
      | inr other ↦ λ a i j. before q p k h (grind arith) a j i
    ]
  ]

module _ (xs ys : List Prefix) (disjoint : AreDisjoint (xs ++ ys)) where
  both : length (xs ++ ys) ≡ length xs + length ys
  both = length-append xs ys

  pub disjoint_left : AreDisjoint xs
  disjoint_left = record {
    valid = λ k d lt within. subst IsValid (get_or_append_left xs ys d k within) (disjoint.valid k d (omega (arith, both)) (omega (arith, both)));
    apart = λ k d lt within j e lt' within'. subst (λ x. Apart x (slice_index_or xs k d)) (get_or_append_left xs ys e j within')
        (subst (Apart (slice_index_or (xs ++ ys) j e)) (get_or_append_left xs ys d k within) (disjoint.apart k d (omega (arith, both)) (omega (arith, both)) j e lt' (omega (arith, both))));
  }

  pub disjoint_right : AreDisjoint ys
  disjoint_right = record {
    valid = λ k d lt within. subst IsValid (get_or-append-add xs ys k d) (disjoint.valid (length xs + k) d (omega (arith, both)) (omega (arith, both)));
    apart = λ k d lt within j e lt' within'. subst (λ x. Apart x (slice_index_or ys k d)) (get_or-append-add xs ys j e)
        (subst (Apart (slice_index_or (xs ++ ys) (length xs + j) e)) (get_or-append-add xs ys k d)
        (disjoint.apart (length xs + k) d (omega (arith, both)) (omega (arith, both)) (length xs + j) e (omega arith) (omega (arith, both))));
  }

  pub sides_apart : (p q : Prefix) → Contains xs p → Contains ys q → Apart p q
  sides_apart p q h k =
      let i : h.0 < length xs = h.1
      in let j : k.0 < length ys = k.1
      in subst (λ x. Apart x q) (get_or_append_left xs ys p h.0 h.1 ∙ h.2)
      (subst (Apart (slice_index_or (xs ++ ys) h.0 p)) (get_or-append-add xs ys k.0 q ∙ k.2)
      (disjoint.apart (length xs + k.0) q (omega (arith, both)) (omega (arith, both)) h.0 p (omega arith) (omega (arith, both))))

-- ---- prefixes put into a list, one after the other

-- q is one of the first n
abbrev pub AmongFirst : List Prefix → ℕ → Prefix → Type 0
AmongFirst ps n q = (k : ℕ) × (k < n) × (k < length ps) × ((d : Prefix) → slice_index_or ps k d ≡ q)

among_more : (ps : List Prefix) (n : ℕ) (p : Prefix) → n < length ps → p ≡ slice_index_or ps n p → (q : Prefix) → AmongFirst ps (n + 1) q ↔ (AmongFirst ps n q ⊎ (q ≡ p))
among_more ps n p h is q = (
  λ m. elim (cases_eq m.0 n) [
    | inl e ↦ inr (sym (m.3 p) ∙ ap (λ j. slice_index_or ps j p) e ∙ sym is)
    | inr ne ↦ let lt : m.0 < n + 1 = m.1 in inl (m.0, grind arith, m.2, m.3)
  ],
  λ s. elim s [
    | inl m ↦ let lt : m.0 < n = m.1 in (m.0, omega arith, m.2, m.3)
    | inr e ↦ (n, omega arith, h, λ d. get_or_default ps n d p h ∙ sym is ∙ sym e)
  ],
)

among_all : (ps : List Prefix) (q : Prefix) → AmongFirst ps (length ps) q ↔ Contains ps q
among_all ps q = (λ m. (m.0, m.2, m.3 q), λ h. (h.0, h.1, h.1, λ d. get_or_default ps h.0 d q h.1 ∙ h.2))

among_apart : (ps : List Prefix) (n : ℕ) (p : Prefix) → AreDisjoint ps → n < length ps → p ≡ slice_index_or ps n p → (q : Prefix) → AmongFirst ps n q → Apart q p
among_apart ps n p disjoint h is q m = subst (λ x. Apart x p) (m.3 q) (subst (Apart (slice_index_or ps m.0 q)) (sym is) (disjoint.apart n p h h m.0 q m.1 m.2))

pub each_next : (put : Prefix → List Prefix → List Prefix) (ps : List Prefix) (i : ℕ) (p : Prefix) (list : List Prefix) → i < length ps → p ≡ slice_index_or ps i p
    → each put (drop (i + 1) ps) (put p list) ≡ each put (drop i ps) list
unfolding each
each_next put ps i p list h is =
    let one : i + 1 ≡ suc i = omega arith
    in ap (λ j. each put (drop j ps) (put p list)) one ∙ ap (λ q. each put (drop (suc i) ps) (put q list)) is ∙ ap (λ rs. each put rs list) (sym (drop-cons ps i p h))

pub each_done : (put : Prefix → List Prefix → List Prefix) (ps : List Prefix) (i : ℕ) (list : List Prefix) → length ps ≤ i → each put (drop i ps) list ≡ list
unfolding each
each_done put ps i list le = ap (λ rs. each put rs list) (drop_all i ps le)

-- what each step keeps holds of all
module _ (put : Prefix → List Prefix → List Prefix) (P : ℕ → List Prefix → Type 0) (ps : List Prefix)
    (step : (i : ℕ) (p : Prefix) (list : List Prefix) → i < length ps → p ≡ slice_index_or ps i p → P i list → P (i + 1) (put p list)) where
  each_from : (n i : ℕ) (list : List Prefix) → i + n ≡ length ps → P i list → P (length ps) (each put (drop i ps) list)
  each_from zero i list many holds =
      let e : i ≡ length ps = omega arith
      in subst (P (length ps)) (sym (each_done put ps i list (omega arith))) (subst (λ k. P k list) e holds)
  each_from (suc n) i list many holds =
      let h : i < length ps = omega arith
      in let z : Prefix = record { address = 0; length = 0 }
      in let p : Prefix = slice_index_or ps i z
      in let is : p ≡ slice_index_or ps i p = get_or_default ps i z p h
      in subst (P (length ps)) (each_next put ps i p list h is) (each_from n (i + 1) (put p list) (omega arith) (step i p list h is holds))

  each_all : P 0 [] → P (length ps) (each put ps [])
  each_all holds = each_from (length ps) 0 [] (omega arith) holds

pub tidy_empty : IsTidy []
tidy_empty = record {
  clean = record {
    valid = λ p h. absurd (none_in p h);
    apart = λ p q h. absurd (none_in p h);
    unmerged = λ r v s h. absurd (none_in _ h);
  };
  rising = λ i j d lt within. absurd (omega arith);
}

-- the free list of the first n prefixes
pub record IsUpTo (ps : List Prefix) (n : ℕ) (list : List Prefix) : Type 0 where
  pub tidy : IsTidy list
  pub covers : (a : ℕ) → Covers list a ↔ ((q : Prefix) × AmongFirst ps n q × span_of q a)
  pub few : length list ≤ n

pub up_none : (ps : List Prefix) → IsUpTo ps 0 []
up_none ps = record { tidy = tidy_empty; covers = λ a. (λ c. absurd (none_in c.0 c.1), λ b. let lt : b.1.0 < 0 = b.1.1 in absurd (omega arith)); few = omega arith }

module _ (ps : List Prefix) (disjoint : AreDisjoint ps) (i : ℕ) (p : Prefix) (list : List Prefix) (h : i < length ps) (is : p ≡ slice_index_or ps i p) where
  -- the next one is a prefix, and apart from the free list of those before it
  pub next_valid : IsValid p
  next_valid = subst IsValid (sym is) (disjoint.valid i p h h)

  pub next_apart : IsUpTo ps i list → ApartFrom list p
  next_apart up q k a x y = let c = (up.covers a).0 (q, k, x) in among_apart ps i p disjoint h is c.0 c.1 a c.2 y

  pub up_more : IsUpTo ps i list → IsUpTo ps (i + 1) (join p list)
  up_more up =
      let few : length list ≤ i = up.few
      in let m : IsMerged list p (join p list) = merged p.length p list (omega arith) up.tidy next_valid (next_apart up)
      in let fewer : length (join p list) ≤ length list + 1 = m.few
      in record {
        tidy = m.tidy;
        covers = λ a. (
          λ c. elim ((m.covers a).0 c) [
            | inl o ↦ let b = (up.covers a).0 o in (b.0, (among_more ps i p h is b.0).1 (inl b.1), b.2)
            | inr x ↦ (p, (among_more ps i p h is p).1 (inr refl), x)
          ],
          λ b. elim ((among_more ps i p h is b.0).0 b.1) [
            | inl o ↦ (m.covers a).1 (inl ((up.covers a).1 (b.0, o, b.2)))
            | inr e ↦ (m.covers a).1 (inr (subst (λ r. span_of r a) e b.2))
          ],
        );
        few = omega arith;
      }

-- the rising list of the first n prefixes
pub record IsPut (ps : List Prefix) (n : ℕ) (list : List Prefix) : Type 0 where
  pub rising : IsRising list
  pub members : (q : Prefix) → Contains list q ↔ AmongFirst ps n q
  pub many : length list ≡ n

pub put_none : (ps : List Prefix) → IsPut ps 0 []
put_none ps = record { rising = λ i j d lt within. absurd (omega arith); members = λ q. (λ h. absurd (none_in q h), λ m. let lt : m.0 < 0 = m.1 in absurd (omega arith)); many = refl }

module _ (ps : List Prefix) (disjoint : AreDisjoint ps) (i : ℕ) (p : Prefix) (list : List Prefix) (h : i < length ps) (is : p ≡ slice_index_or ps i p) (so : IsPut ps i list) where
  pub put_new : (q : Prefix) → Contains list q → ¬ (q.address ≡ p.address)
  put_new q k e = among_apart ps i p disjoint h is q ((so.members q).0 k) q.address (first_in q) (subst (span_of p) (sym e) (first_in p))

  pub put_more : IsPut ps (i + 1) (add p list)
  put_more = record {
    rising = add_rising p list so.rising put_new;
    members = λ q. (
      λ k. elim ((add_members p list q).0 k) [
        | inl k' ↦ (among_more ps i p h is q).1 (inl ((so.members q).0 k'))
        | inr e ↦ (among_more ps i p h is q).1 (inr e)
      ],
      λ m. elim ((among_more ps i p h is q).0 m) [
        | inl m' ↦ (add_members p list q).1 (inl ((so.members q).1 m'))
        | inr e ↦ (add_members p list q).1 (inr e)
      ],
    );
    many = add_length p list ∙ ap (λ n. n + 1) so.many;
  }

module _ (ps : List Prefix) (disjoint : AreDisjoint ps) where
  joined_up : IsUpTo ps (length ps) (each join ps [])
  joined_up = each_all join (IsUpTo ps) ps (λ i p list h is up. up_more ps disjoint i p list h is up) (up_none ps)

  joined_covers : (a : ℕ) → Covers (each join ps []) a ↔ Covers ps a
  joined_covers a = (
    λ c. let b = (joined_up.covers a).0 c in (b.0, (among_all ps b.0).0 b.1, b.2),
    λ c. (joined_up.covers a).1 (c.0, (among_all ps c.0).1 c.1, c.2),
  )

  put_up : IsPut ps (length ps) (each add ps [])
  put_up = each_all add (IsPut ps) ps (λ i p list h is so. put_more ps disjoint i p list h is so) (put_none ps)

  put_members : (q : Prefix) → Contains (each add ps []) q ↔ Contains ps q
  put_members q = (λ h. (among_all ps q).0 ((put_up.members q).0 h), λ h. (put_up.members q).1 ((among_all ps q).1 h))

-- disjoint prefixes make a pool
disjoint_pool : (fs ds : List Prefix) → AreDisjoint (fs ++ ds) → length fs + length ds ≤ 4096 → IsPool (record { free = each join fs []; reserved = []; doubtful = each add ds [] })
disjoint_pool fs ds disjoint few =
    let left = disjoint_left fs ds disjoint
    in let right = disjoint_right fs ds disjoint
    in let up : IsUpTo fs (length fs) (each join fs []) = joined_up fs left
    in let so : IsPut ds (length ds) (each add ds []) = put_up ds right
    in let short : length (each join fs []) ≤ length fs = up.few
    in let many : length (each add ds []) ≡ length ds = so.many
    in let listed : (q : Prefix) → IsListed (record { free = each join fs []; reserved = []; doubtful = each add ds [] }) q → Contains ds q
    = λ q l. elim l [ inl h ↦ absurd (none_in q h) | inr h ↦ (put_members ds right q).0 h ]
    in record {
      free = up.tidy;
      reserved = λ i j d lt within. absurd (omega arith);
      doubtful = so.rising;
      valid = λ q l. member_valid ds right q (listed q l);
      held = λ q a l i f. let c = (joined_covers fs left a).0 f in sides_apart fs ds disjoint c.0 q c.1 (listed q l) a c.2 i;
      apart = λ p q ne l m. members_apart ds right p q (listed p l) (listed q m) ne;
      once = λ q h. absurd (none_in q h);
      few = omega arith;
    }

-- ---- images

pub image_opens : (image : PoolImage) → length image.free + length image.doubtful ≤ 4096 → AreDisjoint (all_of image) → IsReopened image (pool_of_image image)
image_opens image few disjoint = record {
  few = few;
  disjoint = disjoint;
  free = joined_covers image.free (disjoint_left image.free image.doubtful disjoint);
  reserved = refl;
  doubtful = put_members image.doubtful (disjoint_right image.free image.doubtful disjoint);
}

pub reopened_pool : (image : PoolImage) → IsReopened image (pool_of_image image) → IsPool (pool_of_image image)
reopened_pool image opened = disjoint_pool image.free image.doubtful opened.disjoint opened.few

-- ---- roots

abbrev pub no_root : RootPrefix
no_root = record { address = 0; length = 0 }

pub valid_more : (roots : List RootPrefix) (i : ℕ) (z : RootPrefix) → AllValid roots i → i < length roots → IsValid (block_of (slice_index_or roots i z)) → AllValid roots (i + 1)
valid_more roots i z before h v k d lt within = elim (cases_eq k i) [
  | inl e ↦ subst (λ r. IsValid (block_of r)) (ap (λ j. slice_index_or roots j z) (sym e) ∙ get_or_default roots k z d within) v
  | inr ne ↦ before k d (grind arith) within
]

pub all_valid : (roots : List RootPrefix) (i : ℕ) → length roots ≤ i → AllValid roots i → AllValid roots (length roots)
all_valid roots i le before k d lt within = before k d (omega arith) within

-- what holds where there is a value
pub if_some : (o : Option Prefix) (V : Type 0) (b : Bool) → IfSome o (λ _. V) → is_some o ≡ not b → b ≡ false → V
if_some (Some p) V b h e f = h
if_some None V b h e f = absurd (cc)

module _ (roots : List RootPrefix) where
  as_many : length (map block_of roots) ≡ length roots
  as_many = length-map roots block_of

  block_at : (k : ℕ) (d : RootPrefix) (e : Prefix) → k < length roots → slice_index_or (map block_of roots) k e ≡ block_of (slice_index_or roots k d)
  block_at k d e within = get_or-map block_of roots k d e within

  roots_apart : (p : Prefix) (n : ℕ) → ApartBelow (map block_of roots) p n → RootsApart roots p n
  roots_apart p n below k d lt within = subst (λ q. Apart q p) (block_at k d p within) (below k p lt (omega (arith, as_many)))

  blocks_apart : (p : Prefix) (n : ℕ) → RootsApart roots p n → ApartBelow (map block_of roots) p n
  blocks_apart p n below k d lt within = subst (λ q. Apart q p) (sym (block_at k no_root d (omega (arith, as_many)))) (below k no_root lt (omega (arith, as_many)))

  all_apart : (n : ℕ) → DisjointBelow (map block_of roots) n → AllApart roots n
  all_apart n below j d lt within =
      let e : slice_index_or (map block_of roots) j (block_of d) ≡ block_of (slice_index_or roots j d) = block_at j d (block_of d) within
      in subst (λ q. RootsApart roots q j) e (roots_apart (slice_index_or (map block_of roots) j (block_of d)) j (below.apart j (block_of d) lt (omega (arith, as_many))))

  pub roots_disjoint : AllValid roots (length roots) → AllApart roots (length roots) → AreDisjoint (map block_of roots)
  roots_disjoint valid apart = record {
    valid = λ k d lt within. let h : k < length roots = omega (arith, as_many) in subst IsValid (sym (block_at k no_root d h)) (valid k no_root h h);
    apart = λ k d lt within.
        let h : k < length roots = omega (arith, as_many)
        in subst (λ q. ApartBelow (map block_of roots) q k) (sym (block_at k no_root d h)) (blocks_apart (block_of (slice_index_or roots k no_root)) k (apart k no_root h h));
  }

  root_clash : (c : Clash) → IsClashIn (map block_of roots) c → IsClash roots c
  root_clash c clash =
      let within : c.second < length roots = let w : c.second < length (map block_of roots) = clash.within in omega (arith, as_many)
      in record {
        within = within;
        before = all_apart c.second clash.before;
        hit = λ d.
            let e : slice_index_or (map block_of roots) c.second (block_of d) ≡ block_of (slice_index_or roots c.second d) = block_at c.second d (block_of d) within
            in let hit = clash.hit (block_of d)
            in let lt : c.first < c.second = hit.within
            in subst (λ q. IsHit roots q c.second c.first) e (record {
              within = hit.within;
              meets = λ f. subst (λ q. Overlap q (slice_index_or (map block_of roots) c.second (block_of d))) (block_at c.first f (block_of f) (omega arith)) (hit.meets (block_of f));
              before = roots_apart (slice_index_or (map block_of roots) c.second (block_of d)) c.first hit.before;
            });
      }

  pub clash_of : (o : Option Clash) → MatchOption o (AreDisjoint (map block_of roots)) (λ c. IsClashIn (map block_of roots) c) → MatchOption o (AllApart roots (length roots)) (λ c. IsClash roots c)
  clash_of None disjoint = subst (AllApart roots) as_many (all_apart (length (map block_of roots)) disjoint)
  clash_of (Some c) clash = root_clash c clash

  root_addresses : (a : ℕ) → Covers (map block_of roots) a ↔ IsRootAddress roots a
  root_addresses a = (
    λ c.
        let w : c.1.0 < length (map block_of roots) = c.1.1
        in let h : c.1.0 < length roots = omega (arith, as_many)
        in let e : slice_index_or (map block_of roots) c.1.0 c.0 ≡ block_of (slice_index_or roots c.1.0 no_root) = block_at c.1.0 no_root c.0 h
        in (slice_index_or roots c.1.0 no_root, Contains-get_or roots c.1.0 no_root h, subst (λ q. span_of q a) (sym c.1.2 ∙ e) c.2),
    λ c.
        let h : c.1.0 < length roots = c.1.1
        in let e : slice_index_or (map block_of roots) c.1.0 (block_of c.0) ≡ block_of (slice_index_or roots c.1.0 c.0) = block_at c.1.0 c.0 (block_of c.0) h
        in (block_of c.0, (c.1.0, omega (arith, as_many), e ∙ ap block_of c.1.2), c.2),
  )

-- good roots make a pool
pub roots_open : (roots : List RootPrefix) → length roots ≤ 1024 → AllValid roots (length roots) → AllApart roots (length roots) → IsOpened roots (pool_of roots)
roots_open roots few valid apart =
    let covers = joined_covers (map block_of roots) (roots_disjoint roots valid apart)
    in record {
      few = few;
      valid = valid;
      apart = apart;
      free = λ a. (λ c. (root_addresses roots a).0 ((covers a).0 c), λ c. (covers a).1 ((root_addresses roots a).1 c));
      reserved = refl;
      doubtful = refl;
    }

pub opened_pool : (roots : List RootPrefix) → IsOpened roots (pool_of roots) → IsPool (pool_of roots)
unfolding each
opened_pool roots opened =
    let few : length roots ≤ 1024 = opened.few
    in let many : length (map block_of roots) ≡ length roots = length-map roots block_of
    in disjoint_pool (map block_of roots) [] (subst AreDisjoint (sym (append-nil (map block_of roots))) (roots_disjoint roots opened.valid opened.apart)) (omega arith)
