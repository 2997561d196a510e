-- What is packed one after another.
use Rattle.std.proofs.Common.{◌≡◌, ℕ, suc, ◌+◌, List, [], ◌∷◌, ◌++◌, length, length-append, take, drop, refl, sym, ap, ◌∙◌, append_assoc}
use Rattle.std.proofs.Common.{append-nil, arith}
use Rattle.std.proofs.lemmas.List.{take_at, drop_at}
use Rattle.grasp_cbor.specs.DataItem.{DataItem, unsigned, array_of, data_items, item_count}
use Rattle.grasp_cbor.specs.Head.{shortest_head}
use Rattle.grasp_cbor.specs.Shortest.{shortest, shortest_items}
use Rattle.grasp_cbor.proofs.Counts.{item_count-data_items}
use Rattle.grasp_text.specs.Words.{spaced}
use Rattle.grasp_text.proofs.Pushed.{spaced_append}
use Rattle.grasp_quick.specs.Packed.{Packs}

-- a word, and what stands behind it
pub word_read : (word line after rest : List ℕ) (words : List (List ℕ)) → line ≡ 32 ∷ (word ++ after) → after ≡ spaced words ++ rest
    → line ≡ spaced (word ∷ words) ++ rest
word_read word line after rest words p q =
    p ∙ ap (λ (x : List ℕ). 32 ∷ (word ++ x)) q ∙ ap (λ (x : List ℕ). 32 ∷ x) (sym (append_assoc word (spaced words) rest))

-- a word alone
pub alone_read : (word line rest : List ℕ) → line ≡ 32 ∷ (word ++ rest) → line ≡ spaced (word ∷ []) ++ rest
alone_read word line rest p = word_read word line rest rest [] p refl

-- an item alone
pub alone_packed : (item : DataItem) (old new : List ℕ) → new ≡ old ++ shortest item → new ≡ old ++ shortest_items (data_items (item ∷ []))
alone_packed item old new p = p ∙ ap (λ (x : List ℕ). old ++ x) (sym (append-nil (shortest item)))

pub packed_alone : (item : DataItem) (old new : List ℕ) → new ≡ old ++ shortest_items (data_items (item ∷ [])) → new ≡ old ++ shortest item
packed_alone item old new p = p ∙ ap (λ (x : List ℕ). old ++ x) (append-nil (shortest item))

pub words_append : (ws vs : List (List ℕ)) (line middle rest : List ℕ) → line ≡ spaced ws ++ middle → middle ≡ spaced vs ++ rest
    → line ≡ spaced (ws ++ vs) ++ rest
words_append ws vs line middle rest p q =
    p ∙ ap (λ (x : List ℕ). spaced ws ++ x) q ∙ sym (append_assoc (spaced ws) (spaced vs) rest)
    ∙ ap (λ (x : List ℕ). x ++ rest) (sym (spaced_append ws vs))

pub shortest_append : (ts us : List DataItem)
    → shortest_items (data_items (ts ++ us)) ≡ shortest_items (data_items ts) ++ shortest_items (data_items us)
shortest_append [] us = refl
shortest_append (t ∷ ts) us =
    ap (λ (x : List ℕ). shortest t ++ x) (shortest_append ts us)
    ∙ sym (append_assoc (shortest t) (shortest_items (data_items ts)) (shortest_items (data_items us)))

pub items_append : (ts us : List DataItem) (old between new : List ℕ) → between ≡ old ++ shortest_items (data_items ts)
    → new ≡ between ++ shortest_items (data_items us) → new ≡ old ++ shortest_items (data_items (ts ++ us))
items_append ts us old between new p q =
    let s = shortest_items (data_items ts) in
    let t = shortest_items (data_items us) in
    q ∙ ap (λ (x : List ℕ). x ++ t) p ∙ append_assoc old s t ∙ ap (λ (x : List ℕ). old ++ x) (sym (shortest_append ts us))

-- one, and then another
abbrev pub both : {X Y : Type 0} (items : X → List DataItem) (is : X → Type 0) (words : X → List (List ℕ)) (others : Y → List DataItem) (are : Y
    → Type 0) (more : Y → List (List ℕ)) (line middle rest old between new : List ℕ)
    → Packs items is words line middle old between → Packs others are more middle rest between new
    → Packs {X = X × Y} (λ p. items p.0 ++ others p.1) (λ p. is p.0 × are p.1) (λ p. words p.0 ++ more p.1) line rest old new
both items is words others are more line middle rest old between new h k = record {
  value = (h.value, k.value);
  is_one = (h.is_one, k.is_one);
  read = words_append (words h.value) (more k.value) line middle rest h.read k.read;
  packed = items_append (items h.value) (others k.value) old between new h.packed k.packed;
}

-- behind the head of an array
pub array_packed : (ts : List DataItem) (count : ℕ) (old opened new : List ℕ) → count ≡ length ts → opened ≡ old ++ shortest_head 4 count
    → new ≡ opened ++ shortest_items (data_items ts)
    → new ≡ old ++ shortest_items (data_items (array_of ts ∷ []))
array_packed ts count old opened new e p q =
    let s = shortest_items (data_items ts) in
    let n : item_count (data_items ts) ≡ count = item_count-data_items ts ∙ sym e in
    alone_packed (array_of ts) old new (q ∙ ap (λ (x : List ℕ). x ++ s) p ∙ append_assoc old (shortest_head 4 count) s
    ∙ ap (λ (n : ℕ). old ++ (shortest_head 4 n ++ s)) (sym n))

-- behind a number
pub number_packed : (kind : ℕ) (ts : List DataItem) (old middle new : List ℕ) → middle ≡ old ++ shortest_head 0 kind
    → new ≡ middle ++ shortest_items (data_items ts)
    → new ≡ old ++ shortest_items (data_items (unsigned kind ∷ ts))
number_packed kind ts old middle new p q = items_append (unsigned kind ∷ []) ts old middle new (alone_packed (unsigned kind) old middle p) q

-- an array of a number of a kind and more
pub kind_packed : (count kind : ℕ) (ts : List DataItem) (old opened middle new : List ℕ) → count ≡ suc (length ts)
    → opened ≡ old ++ shortest_head 4 count → middle ≡ opened ++ shortest_head 0 kind
    → new ≡ middle ++ shortest_items (data_items ts) → new ≡ old ++ shortest_items (data_items (array_of (unsigned kind ∷ ts) ∷ []))
kind_packed count kind ts old opened middle new e p q r =
    array_packed (unsigned kind ∷ ts) count old opened new e p (number_packed kind ts opened middle new q r)

-- the head of an array that was put late in place of a byte
pub late_packed : (ts : List DataItem) (count at : ℕ) (byte : ℕ) (old opened middle new : List ℕ) → count ≡ length ts → at ≡ length old
    → opened ≡ old ++ byte ∷ [] → middle ≡ opened ++ shortest_items (data_items ts)
    → new ≡ take at middle ++ (shortest_head 4 count ++ drop (at + 1) middle) → new ≡ old ++ shortest_items (data_items (array_of ts ∷ []))
late_packed ts count at byte old opened middle new e place p q r =
    let s = shortest_items (data_items ts) in
    let parts : middle ≡ old ++ byte ∷ s = q ∙ ap (λ (x : List ℕ). x ++ s) p ∙ append_assoc old (byte ∷ []) s in
    let front : take at middle ≡ old = ap (take at) parts ∙ take_at old (byte ∷ s) at (sym place) in
    let apart : middle ≡ (old ++ byte ∷ []) ++ s = q ∙ ap (λ (x : List ℕ). x ++ s) p in
    let behind : drop (at + 1) middle ≡ s = ap (drop (at + 1)) apart
    ∙ drop_at (old ++ byte ∷ []) s (at + 1) (omega (arith, place, length-append old (byte ∷ []))) in
    array_packed ts count old (old ++ shortest_head 4 count) new e refl
    (r ∙ (λ i. front i ++ (shortest_head 4 count ++ behind i)) ∙ sym (append_assoc old (shortest_head 4 count) s))
