-- What is written behind a gate is read back.
use Rattle.std.proofs.Common.{◌≡◌, ℕ, suc, ◌+◌, ◌*◌, ◌<◌, ◌^◌, List, [], ◌∷◌, ◌++◌, length, slice_index_or, take, drop, refl, sym, ◌∙◌, ap, arith, append_assoc, length-append, drop-drop}
use Rattle.std.proofs.lemmas.List.{take_at, drop_at, drop_more}
use Rattle.std.specs.List.{AllByRecursion}
use Rattle.std.specs.Int.{w16, w64, w128, to_be_bytes, from_be_bytes}
use Rattle.std.proofs.lemmas.Nat.{from_be_bytes-to_be_bytes_2, from_be_bytes-to_be_bytes_8}
use Rattle.grasp_types.specs.Prefix.{AddressBlock as Prefix}
use Rattle.grasp_pool.specs.declared.image.PoolImage.{PoolImage}
use Rattle.grasp_store.specs.Slots.{Saved, Fits, prefix_bytes, all_prefix_bytes, body_of, prefixes_in, saved_in, number_at, free_count, doubtful_count}

back_16 : (n : ℕ) → n < 2 ^ 128 → from_be_bytes w128 (to_be_bytes w128 n) ≡ n
back_16 n h = omega arith

abbrev Small : Prefix → Type 0
Small p = (p.length < 2 ^ 8) × (p.address < 2 ^ 128)

drop_bytes : (p : Prefix) (rest : List ℕ) → drop 17 (prefix_bytes p ++ rest) ≡ rest
drop_bytes p rest = drop_at (prefix_bytes p) rest 17 refl

pub length-all_prefix_bytes : (ps : List Prefix) → length (all_prefix_bytes ps) ≡ 17 * length ps
unfolding all_prefix_bytes
length-all_prefix_bytes [] = refl
length-all_prefix_bytes (p ∷ ps) = omega (arith, length-append (prefix_bytes p) (all_prefix_bytes ps), length-all_prefix_bytes ps)

address_back : (p : Prefix) (rest : List ℕ) → p.address < 2 ^ 128 → from_be_bytes w128 (take 16 (drop 1 (prefix_bytes p ++ rest))) ≡ p.address
address_back p rest small = ap (from_be_bytes w128) (take_at (to_be_bytes w128 p.address) rest 16 refl) ∙ back_16 p.address small

abbrev made : ℕ → ℕ → Prefix
made a n = record { address = a; length = n }

pub prefixes_back : (ps : List Prefix) (rest : List ℕ) → AllByRecursion Small ps → prefixes_in (length ps) (all_prefix_bytes ps ++ rest) ≡ ps
unfolding prefixes_in all_prefix_bytes
prefixes_back [] rest small = refl
prefixes_back (p ∷ ps) rest small =
    ap (λ (l : List ℕ). prefixes_in (suc (length ps)) l) (append_assoc (prefix_bytes p) (all_prefix_bytes ps) rest)
    ∙ ap (λ (a : ℕ). made a p.length ∷ prefixes_in (length ps) (drop 17 (prefix_bytes p ++ (all_prefix_bytes ps ++ rest)))) (address_back p (all_prefix_bytes ps ++ rest) small.0.1)
    ∙ ap (λ (l : List ℕ). p ∷ prefixes_in (length ps) l) (drop_bytes p (all_prefix_bytes ps ++ rest))
    ∙ ap (λ (qs : List Prefix). p ∷ qs) (prefixes_back ps rest small.1)

all_front : (P : Prefix → Type 0) (ps qs : List Prefix) → AllByRecursion P (ps ++ qs) → AllByRecursion P ps
all_front P [] qs all = tt
all_front P (p ∷ ps) qs all = (all.0, all_front P ps qs all.1)

all_back : (P : Prefix → Type 0) (ps qs : List Prefix) → AllByRecursion P (ps ++ qs) → AllByRecursion P qs
all_back P [] qs all = all
all_back P (p ∷ ps) qs all = all_back P ps qs all.1

module _ (x : Saved) (fits : Fits x) (rest : List ℕ) where
  abbrev bytes : List ℕ
  bytes = body_of x ++ rest

  number_back : number_at (body_of x ++ rest) ≡ x.number
  unfolding body_of
  number_back = from_be_bytes-to_be_bytes_8 x.number fits.number

  free_back : free_count (body_of x ++ rest) ≡ length x.image.free
  unfolding body_of
  free_back = from_be_bytes-to_be_bytes_2 (length x.image.free) fits.free

  doubtful_back : doubtful_count (body_of x ++ rest) ≡ length x.image.doubtful
  unfolding body_of
  doubtful_back = from_be_bytes-to_be_bytes_2 (length x.image.doubtful) fits.doubtful

  prefixes_stand : drop 12 (body_of x ++ rest) ≡ all_prefix_bytes x.image.free ++ (all_prefix_bytes x.image.doubtful ++ rest)
  unfolding body_of
  prefixes_stand = append_assoc (all_prefix_bytes x.image.free) (all_prefix_bytes x.image.doubtful) rest

  doubtful_stand : drop (12 + 17 * length x.image.free) (body_of x ++ rest) ≡ all_prefix_bytes x.image.doubtful ++ rest
  doubtful_stand =
      sym (drop-drop (17 * length x.image.free) 12 (body_of x ++ rest))
      ∙ ap (λ (l : List ℕ). drop (17 * length x.image.free) l) prefixes_stand
      ∙ drop_at (all_prefix_bytes x.image.free) (all_prefix_bytes x.image.doubtful ++ rest) (17 * length x.image.free) (length-all_prefix_bytes x.image.free)

  abbrev read : ℕ → List Prefix → List Prefix → Saved
  read n free doubtful = record { number = n; image = record { free = free; doubtful = doubtful } }

  -- what was written is read back, whatever stands behind it
  pub body_back : saved_in (body_of x ++ rest) ≡ x
  unfolding saved_in
  body_back =
      ap (λ (n : ℕ). read n (prefixes_in (free_count bytes) (drop 12 bytes)) (prefixes_in (doubtful_count bytes) (drop (12 + 17 * free_count bytes) bytes))) number_back
      ∙ ap (λ (n : ℕ). read x.number (prefixes_in n (drop 12 bytes)) (prefixes_in (doubtful_count bytes) (drop (12 + 17 * n) bytes))) free_back
      ∙ ap (λ (n : ℕ). read x.number (prefixes_in (length x.image.free) (drop 12 bytes)) (prefixes_in n (drop (12 + 17 * length x.image.free) bytes))) doubtful_back
      ∙ ap (λ (l : List ℕ). read x.number (prefixes_in (length x.image.free) l) (prefixes_in (length x.image.doubtful) (drop (12 + 17 * length x.image.free) bytes))) prefixes_stand
      ∙ ap (λ (l : List ℕ). read x.number (prefixes_in (length x.image.free) (all_prefix_bytes x.image.free ++ (all_prefix_bytes x.image.doubtful ++ rest))) (prefixes_in (length x.image.doubtful) l)) doubtful_stand
      ∙ ap (λ (ps : List Prefix). read x.number ps (prefixes_in (length x.image.doubtful) (all_prefix_bytes x.image.doubtful ++ rest)))
      (prefixes_back x.image.free (all_prefix_bytes x.image.doubtful ++ rest) (all_front Small x.image.free x.image.doubtful fits.prefixes))
      ∙ ap (λ (ps : List Prefix). read x.number x.image.free ps) (prefixes_back x.image.doubtful rest (all_back Small x.image.free x.image.doubtful fits.prefixes))

-- ---- bytes that are written, one prefix behind the other

pub prefix_next : (ps : List Prefix) (i : ℕ) (p : Prefix) → i < length ps → p ≡ slice_index_or ps i p → (p.length ∷ to_be_bytes w128 p.address) ++ all_prefix_bytes (drop (i + 1) ps) ≡ all_prefix_bytes (drop i ps)
unfolding all_prefix_bytes
prefix_next ps i p lt is =
    ap (λ (q : Prefix). prefix_bytes q ++ all_prefix_bytes (drop (i + 1) ps)) is ∙ sym (ap all_prefix_bytes (drop_more ps i p lt))

pub no_prefixes : (ps : List Prefix) → ps ≡ [] → all_prefix_bytes ps ≡ []
unfolding all_prefix_bytes
no_prefixes ps none = ap all_prefix_bytes none

-- the parts of a body, one behind the other
pub body_is : (n : ℕ) (image : PoolImage) (b0 b1 b2 b3 b4 b5 : List ℕ) → b0 ≡ [] → b1 ≡ b0 ++ to_be_bytes w64 n → b2 ≡ b1 ++ to_be_bytes w16 (length image.free) → b3 ≡ b2 ++ to_be_bytes w16 (length image.doubtful)
    → b4 ≡ b3 ++ all_prefix_bytes image.free → b5 ≡ b4 ++ all_prefix_bytes image.doubtful → b5 ≡ body_of (record { number = n; image = image })
unfolding body_of
body_is n image b0 b1 b2 b3 b4 b5 e0 e1 e2 e3 e4 e5 =
    e5 ∙ ap (λ (l : List ℕ). l ++ all_prefix_bytes image.doubtful) (e4 ∙ ap (λ (l : List ℕ). l ++ all_prefix_bytes image.free)
    (e3 ∙ ap (λ (l : List ℕ). l ++ to_be_bytes w16 (length image.doubtful)) (e2 ∙ ap (λ (l : List ℕ). l ++ to_be_bytes w16 (length image.free)) (e1 ∙ ap (λ (l : List ℕ). l ++ to_be_bytes w64 n) e0))))

pub head_long : (n f d : ℕ) (free : List Prefix) (b0 b1 b2 b3 b4 : List ℕ) → b0 ≡ [] → b1 ≡ b0 ++ to_be_bytes w64 n → b2 ≡ b1 ++ to_be_bytes w16 f → b3 ≡ b2 ++ to_be_bytes w16 d → b4 ≡ b3 ++ all_prefix_bytes free
    → length b4 ≡ 12 + 17 * length free
head_long n f d free b0 b1 b2 b3 b4 e0 e1 e2 e3 e4 =
    omega (
      arith,
      ap length e0,
      ap length e1,
      ap length e2,
      ap length e3,
      ap length e4,
      length-append b0 (to_be_bytes w64 n),
      length-append b1 (to_be_bytes w16 f),
      length-append b2 (to_be_bytes w16 d),
      length-append b3 (all_prefix_bytes free),
      length-all_prefix_bytes free,
    )
