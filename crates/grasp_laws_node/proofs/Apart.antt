-- The ways to neighbours differ, and are those to each neighbour of each link.
use Rattle.std.proofs.Common.{◌≡◌, ◌≢◌, ℕ, zero, suc, ◌+◌, ◌-◌, ◌<◌, ◌≤◌, not, ◌==◌, ◌⊎◌, inl, inr, List, [], ◌∷◌, ◌++◌, length, All, Some, refl, ap, ◌∙◌, subst, arith}
use Rattle.std.specs.Prelude.{AllPairs, Contains, slice_get}
use Rattle.std.proofs.lemmas.List.Elements.{All-nil, All-cons, All-weaker, All-append, Contains-append_left, Contains-append_right, Contains-append_cases}
use Rattle.std.proofs.lemmas.List.Kept.{AllPairs-cons, AllPairs-filter}
use Rattle.grasp_types.specs.declared.links.Neighbour.{Neighbour}
use Rattle.grasp_model_node.specs.Queue.{ways_on, ways_from, all_ways}
use Rattle.grasp_laws_node.specs.Relays.{IsWay, WaysAreDistinct, WaysAreAll}
use Rattle.grasp_model_node.specs.declared.way.Way.{Way}

abbrev Differ : Way → Way → Type 0
Differ a b = a ≢ b

-- the ways of one link have its number, and numbers from this one on
on_it : (link to : ℕ) (ns : List Neighbour) → All (λ (way : Way). (way.link ≡ link) × (to ≤ way.to)) (ways_on link to ns)
on_it link to [] = All-nil (λ (way : Way). (way.link ≡ link) × (to ≤ way.to))
on_it link to (n ∷ ns) =
    All-cons (λ (way : Way). (way.link ≡ link) × (to ≤ way.to)) (record { link = link; to = to }) (ways_on link (to + 1) ns) (refl, omega arith)
    (All-weaker (λ (way : Way). (way.link ≡ link) × (to + 1 ≤ way.to)) (λ (way : Way). (way.link ≡ link) × (to ≤ way.to)) (λ (way : Way) h. (h.0, omega (arith, h.1))) (ways_on link (to + 1) ns) (on_it link (to + 1) ns))

later : (link to : ℕ) (way : Way) → (way.link ≡ link) × (to + 1 ≤ way.to) → record { link = link; to = to } ≢ way
later link to way h e = let f : to ≡ way.to = ap (λ (w : Way). w.to) e in omega (arith, f, h.1)

apart_on : (link to : ℕ) (ns : List Neighbour) → AllPairs Differ (ways_on link to ns)
apart_on link to [] = λ i j d lt within. absurd (omega arith)
apart_on link to (n ∷ ns) =
    AllPairs-cons Differ (record { link = link; to = to }) (ways_on link (to + 1) ns)
    (All-weaker (λ (way : Way). (way.link ≡ link) × (to + 1 ≤ way.to)) (Differ (record { link = link; to = to })) (λ (way : Way) h. later link to way h) (ways_on link (to + 1) ns) (on_it link (to + 1) ns))
    (apart_on link (to + 1) ns)

from_it : (link : ℕ) (links : List (List Neighbour)) → All (λ (way : Way). link ≤ way.link) (ways_from link links)
from_it link [] = All-nil (λ (way : Way). link ≤ way.link)
from_it link (ns ∷ links) =
    All-append (λ (way : Way). link ≤ way.link) (ways_on link 0 ns) (ways_from (link + 1) links)
    (All-weaker (λ (way : Way). (way.link ≡ link) × (0 ≤ way.to)) (λ (way : Way). link ≤ way.link) (λ (way : Way) h. let e = h.0 in omega (arith, e)) (ways_on link 0 ns) (on_it link 0 ns))
    (All-weaker (λ (way : Way). link + 1 ≤ way.link) (λ (way : Way). link ≤ way.link) (λ (way : Way) h. omega (arith, h)) (ways_from (link + 1) links) (from_it (link + 1) links))

-- two lists whose elements differ, and each of one from each of the other
joined : (xs ys : List Way) → AllPairs Differ xs → AllPairs Differ ys → All (λ x. All (Differ x) ys) xs → AllPairs Differ (xs ++ ys)
joined [] ys p q cross = q
joined (x ∷ xs) ys p q cross =
    AllPairs-cons Differ x (xs ++ ys) (All-append (Differ x) xs ys (λ j d h. p 0 (suc j) d (omega arith) (omega arith)) (cross 0 x (omega arith)))
    (joined xs ys (λ i j d lt h. p (suc i) (suc j) d (omega arith) (omega arith)) q (λ i d h. cross (suc i) d (omega arith)))

elsewhere : (link : ℕ) (x way : Way) → (x.link ≡ link) × (0 ≤ x.to) → link + 1 ≤ way.link → x ≢ way
elsewhere link x way h k e = let f : x.link ≡ way.link = ap (λ (w : Way). w.link) e in let g = h.0 in omega (arith, f, g, k)

apart_from : (link : ℕ) (links : List (List Neighbour)) → AllPairs Differ (ways_from link links)
apart_from link [] = λ i j d lt within. absurd (omega arith)
apart_from link (ns ∷ links) =
    joined (ways_on link 0 ns) (ways_from (link + 1) links) (apart_on link 0 ns) (apart_from (link + 1) links)
    (All-weaker (λ (way : Way). (way.link ≡ link) × (0 ≤ way.to)) (λ x. All (Differ x) (ways_from (link + 1) links))
    (λ (x : Way) h. All-weaker (λ (way : Way). link + 1 ≤ way.link) (Differ x) (λ (way : Way) k. elsewhere link x way h k) (ways_from (link + 1) links) (from_it (link + 1) links))
    (ways_on link 0 ns) (on_it link 0 ns))

pub ways_distinct : WaysAreDistinct
ways_distinct links = (
  apart_from 0 links,
  λ link. AllPairs-filter Differ (λ (way : Way). not (way.link == link)) (all_ways links) (apart_from 0 links),
)

-- ---- all of them

below : (link to : ℕ) (ns : List Neighbour) → All (λ (way : Way). way.to < to + length ns) (ways_on link to ns)
below link to [] = All-nil (λ (way : Way). way.to < to + 0)
below link to (n ∷ ns) =
    All-cons (λ (way : Way). way.to < to + suc (length ns)) (record { link = link; to = to }) (ways_on link (to + 1) ns) (omega arith)
    (All-weaker (λ (way : Way). way.to < (to + 1) + length ns) (λ (way : Way). way.to < to + suc (length ns)) (λ (way : Way) h. omega (arith, h)) (ways_on link (to + 1) ns) (below link (to + 1) ns))

of_it : (P : Way → Type 0) (ways : List Way) (way : Way) → All P ways → Contains ways way → P way
of_it P ways way all h = subst P h.2 (all h.0 way h.1)

abbrev IsFrom : ℕ → List (List Neighbour) → Way → Type 0
IsFrom link links way = (ns : List Neighbour) × (link ≤ way.link) × (slice_get links (way.link - link) ≡ Some ns) × (way.to < length ns)

each_from : (link : ℕ) (links : List (List Neighbour)) (way : Way) → Contains (ways_from link links) way → IsFrom link links way
each_from link [] way h = let lt = h.1 in absurd (omega (arith, lt))
each_from link (ns ∷ links) way h = by (Contains-append_cases (ways_on link 0 ns) (ways_from (link + 1) links) way h) (λ k. each_from (link + 1) links way k) where
  here : (way.link ≡ link) × (0 ≤ way.to) → way.to < 0 + length ns → IsFrom link (ns ∷ links) way
  here e lt =
      let f = e.0 in
      let z : way.link - link ≡ 0 = omega (arith, f) in (ns, omega (arith, f), ap (slice_get (ns ∷ links)) z, omega (arith, lt))

  there : IsFrom (link + 1) links way → IsFrom link (ns ∷ links) way
  there r =
      let le = r.1 in
      let z : way.link - link ≡ suc (way.link - (link + 1)) = omega (arith, le) in (r.0, omega (arith, le), ap (slice_get (ns ∷ links)) z ∙ r.2, r.3)

  by : Contains (ways_on link 0 ns) way ⊎ Contains (ways_from (link + 1) links) way → (Contains (ways_from (link + 1) links) way → IsFrom (link + 1) links way) → IsFrom link (ns ∷ links) way
  by (inl k) f =
      here (of_it (λ (way : Way). (way.link ≡ link) × (0 ≤ way.to)) (ways_on link 0 ns) way (on_it link 0 ns) k)
      (of_it (λ (way : Way). way.to < 0 + length ns) (ways_on link 0 ns) way (below link 0 ns) k)
  by (inr k) f = there (f k)

has_on : (link to j : ℕ) (ns : List Neighbour) → j < length ns → Contains (ways_on link to ns) (record { link = link; to = to + j })
has_on link to j [] h = absurd (omega arith)
has_on link to zero (n ∷ ns) h = let e : to ≡ to + zero = omega arith in (0, omega arith, ap (λ (t : ℕ). record { link = link; to = t }) e)
has_on link to (suc j) (n ∷ ns) h =
    let r = has_on link (to + 1) j ns (omega arith) in
    let e : (to + 1) + j ≡ to + suc j = omega arith in
    Contains-append_right (record { link = link; to = to } ∷ []) (ways_on link (to + 1) ns) (record { link = link; to = to + suc j })
    (subst (λ (t : ℕ). Contains (ways_on link (to + 1) ns) (record { link = link; to = t })) e r)

has_from : (link i j : ℕ) (links : List (List Neighbour)) (ns : List Neighbour) → slice_get links i ≡ Some ns → j < length ns → Contains (ways_from link links) (record { link = link + i; to = j })
has_from link i j [] ns e h = absurd (cc)
has_from link zero j (ms ∷ links) ns e h =
    let same : ms ≡ ns = cc in
    let lt : j < length ms = omega (arith, h, ap (λ (l : List Neighbour). length l) same) in
    let f : link ≡ link + zero = omega arith in
    let g : 0 + j ≡ j = omega arith in
    Contains-append_left (ways_on link 0 ms) (ways_from (link + 1) links) (record { link = link + zero; to = j })
    (subst (λ (l : ℕ). Contains (ways_on link 0 ms) (record { link = l; to = j })) f
    (subst (λ (t : ℕ). Contains (ways_on link 0 ms) (record { link = link; to = t })) g (has_on link 0 j ms lt)))
has_from link (suc i) j (ms ∷ links) ns e h =
    let f : (link + 1) + i ≡ link + suc i = omega arith in
    Contains-append_right (ways_on link 0 ms) (ways_from (link + 1) links) (record { link = link + suc i; to = j })
    (subst (λ (l : ℕ). Contains (ways_from (link + 1) links) (record { link = l; to = j })) f (has_from (link + 1) i j links ns e h))

pub ways_all : WaysAreAll
ways_all links way = (λ h. by (each_from 0 links way h), back) where
  by : IsFrom 0 links way → IsWay links way
  by r = let z : way.link ≡ way.link - 0 = omega arith in record { neighbours = r.0; is_link = ap (slice_get links) z ∙ r.2; has_neighbour = r.3 }

  back : IsWay links way → Contains (all_ways links) way
  back w =
      let z : 0 + way.link ≡ way.link = omega arith in
      subst (λ (l : ℕ). Contains (all_ways links) (record { link = l; to = way.to })) z (has_from 0 way.link way.to links w.neighbours w.is_link w.has_neighbour)
