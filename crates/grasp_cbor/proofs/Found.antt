-- What is made is an item that the bytes encode.
use Rattle.std.proofs.Common.{◌≡◌, ℕ, zero, suc, ◌^◌, ◌<◌, ◌≤◌, max, false, ltb, List, [], ◌∷◌, ◌++◌, length, Option, Some, None, refl, sym, ap, subst, ◌∙◌, append-nil, append_assoc, ◌⊎◌, inl, inr, arith}
use Rattle.std.proofs.lemmas.Bool.{ltb-false, lt-ltb, le-ltb}
use Rattle.std.specs.Int.{w16, w32, w64, to_be_bytes}
use Rattle.grasp_cbor.specs.DataItem as item
use Rattle.grasp_cbor.specs.DataItem.{DataItem, data_items, data_pairs, item_count, pair_count, depth_of, items_depth, pairs_depth}
use Rattle.grasp_cbor.specs.Head.{argument_limit, sized_head, IsHead, simple_head}
use Rattle.grasp_cbor.specs.Encodes.{IsDefiniteString, IsString, AreChunks, IsEncoding, AreEncodings, ArePairEncodings}
use Rattle.grasp_cbor.specs.Bytes.{joined}
use Rattle.grasp_cbor.specs.declared.heads.Open.{Open}
use Rattle.grasp_cbor.specs.declared.heads.Open.TheVariants as form
use Rattle.grasp_cbor.specs.declared.heads.StringKind.{StringKind}
use Rattle.grasp_cbor.specs.declared.heads.StringKind.TheVariants as kinds
use Rattle.grasp_cbor.specs.declared.build.Parts.{Parts}
use Rattle.grasp_cbor.specs.declared.build.Parts.TheVariants as parts
use Rattle.grasp_cbor.specs.Major.{major_number}
use Rattle.grasp_cbor.specs.declared.heads.Argument.{Argument}
use Rattle.grasp_cbor.specs.declared.heads.Argument.TheVariants.{Direct, One, Two, Four, Eight}
use Rattle.grasp_cbor.specs.declared.heads.Major.{Major}
use Rattle.grasp_cbor.specs.declared.heads.Major.TheVariants.{Unsigned, Negative, ByteString, TextString, Array, Map, Tag, Simple}
use Rattle.grasp_cbor.specs.Build.{◌>>=◌, Found, value_of, head_at, bytes_at, text_at, chunk_at, string_of, open_at, break_at, until_break, open_with, alone, simple_at, plain_of, many_with, pair_with, nested_with, content_with, opened_with, begun_with, item_with, nested_in, item_at}
use Rattle.grasp_cbor.specs.Built.{IsBuilt}
use Rattle.grasp_cbor.proofs.Takes.{IsBytes, bind_ok, chosen, ok_is, Takes, Takes-then, size_in, head_takes, bytes_takes, text_takes, initial, open_takes, ended_or, chunk_takes}

-- an item that was taken from the front, of this depth at most
pub record IsTaken (d : ℕ) (s : List ℕ) (x : DataItem × List ℕ) : Type 0 where
  pub front : List ℕ
  pub encoding : IsEncoding x.0 front
  pub taken : Takes s front x.1
  pub depth : depth_of x.0 ≤ d

pub record AreTaken (d n : ℕ) (s : List ℕ) (x : List DataItem × List ℕ) : Type 0 where
  pub front : List ℕ
  pub encoding : AreEncodings (data_items x.0) front
  pub taken : Takes s front x.1
  pub count : item_count (data_items x.0) ≡ n
  pub depth : items_depth (data_items x.0) ≤ d

pub record ArePairs (d n : ℕ) (s : List ℕ) (x : List (DataItem × DataItem) × List ℕ) : Type 0 where
  pub front : List ℕ
  pub encoding : ArePairEncodings (data_pairs x.0) front
  pub taken : Takes s front x.1
  pub count : pair_count (data_pairs x.0) ≡ n
  pub depth : pairs_depth (data_pairs x.0) ≤ d

-- a pair whose parts are so deep at most
pub record IsPair (d : ℕ) (s : List ℕ) (y : (DataItem × DataItem) × List ℕ) : Type 0 where
  pub key : List ℕ
  pub value : List ℕ
  pub key_encoding : IsEncoding y.0.0 key
  pub value_encoding : IsEncoding y.0.1 value
  pub taken : Takes s (key ++ value) y.1
  pub depth : max (depth_of y.0.0) (depth_of y.0.1) ≤ d

-- what a head leads to
abbrev Content : ℕ → Major → Argument → List ℕ → DataItem × List ℕ → Type 0
Content d major a s x = (front : List ℕ) × IsEncoding x.0 (sized_head (size_in a) (major_number major) (value_of a) ++ front) × Takes s front x.1 × (depth_of x.0 ≤ d)

abbrev done : {A : Type 0} → A → Option A
done x = Some x

-- a part that was taken is so deep at most
abbrev PartsTaken : (List ℕ → Found DataItem) → ℕ → Type 0
PartsTaken part d = (s : List ℕ) (x : DataItem × List ℕ) → IsBytes s → part s ≡ Some x → IsTaken d s x

module _ (part : List ℕ → Found DataItem) (d : ℕ) (each : PartsTaken part d) where
  many_taken : (n : ℕ) (s : List ℕ) (x : List DataItem × List ℕ) → IsBytes s → many_with part n s ≡ Some x → AreTaken d n s x
  unfolding many_with
  many_taken zero s x fits e = subst (λ y. AreTaken d 0 s y) (ok_is ([], s) x e) (record { front = []; encoding = refl; taken = record { parts = refl; rest_fits = fits }; count = refl; depth = omega arith })
  many_taken (suc n) s x fits e =
      let a = bind_ok (part s) (λ y. many_with part n y.1 >>= λ ys. Some (y.0 ∷ ys.0, ys.1)) x e in
      let b = bind_ok (many_with part n a.0.1) (λ ys. Some (a.0.0 ∷ ys.0, ys.1)) x a.2 in
      let f = each s a.0 fits a.1 in
      let others = many_taken n a.0.1 b.0 f.taken.rest_fits b.1 in
      let made : List DataItem × List ℕ = (a.0.0 ∷ b.0.0, b.0.1) in
      subst (λ y. AreTaken d (suc n) s y) (ok_is made x b.2) (record {
        front = f.front ++ others.front;
        encoding = (f.front, others.front, f.encoding, others.encoding, refl);
        taken = Takes-then s f.front a.0.1 others.front b.0.1 f.taken others.taken;
        count = omega (arith, others.count);
        depth = omega (arith, f.depth, others.depth);
      })

  pair_taken : (s : List ℕ) (y : (DataItem × DataItem) × List ℕ) → IsBytes s → pair_with part s ≡ Some y → IsPair d s y
  unfolding pair_with
  pair_taken s y fits e =
      let k = bind_ok (part s) (λ k. part k.1 >>= λ v. Some ((k.0, v.0), v.1)) y e in
      let v = bind_ok (part k.0.1) (λ v. Some ((k.0.0, v.0), v.1)) y k.2 in
      let made : (DataItem × DataItem) × List ℕ = ((k.0.0, v.0.0), v.0.1) in
      let kt = each s k.0 fits k.1 in
      let vt = each k.0.1 v.0 kt.taken.rest_fits v.1 in
      subst (λ z. IsPair d s z) (ok_is made y v.2) (record {
        key = kt.front;
        value = vt.front;
        key_encoding = kt.encoding;
        value_encoding = vt.encoding;
        taken = Takes-then s kt.front k.0.1 vt.front v.0.1 kt.taken vt.taken;
        depth = omega (arith, kt.depth, vt.depth);
      })

  pairs_taken : (n : ℕ) (s : List ℕ) (x : List (DataItem × DataItem) × List ℕ) → IsBytes s → many_with (pair_with part) n s ≡ Some x → ArePairs d n s x
  unfolding many_with
  pairs_taken zero s x fits e = subst (λ y. ArePairs d 0 s y) (ok_is ([], s) x e) (record { front = []; encoding = refl; taken = record { parts = refl; rest_fits = fits }; count = refl; depth = omega arith })
  pairs_taken (suc n) s x fits e =
      let a = bind_ok (pair_with part s) (λ y. many_with (pair_with part) n y.1 >>= λ ys. Some (y.0 ∷ ys.0, ys.1)) x e in
      let b = bind_ok (many_with (pair_with part) n a.0.1) (λ ys. Some (a.0.0 ∷ ys.0, ys.1)) x a.2 in
      let f = pair_taken s a.0 fits a.1 in
      let others = pairs_taken n a.0.1 b.0 f.taken.rest_fits b.1 in
      let made : List (DataItem × DataItem) × List ℕ = (a.0.0 ∷ b.0.0, b.0.1) in
      subst (λ y. ArePairs d (suc n) s y) (ok_is made x b.2) (record {
        front = (f.key ++ f.value) ++ others.front;
        encoding = (f.key, f.value, others.front, f.key_encoding, f.value_encoding, others.encoding, refl);
        taken = Takes-then s (f.key ++ f.value) a.0.1 others.front b.0.1 f.taken others.taken;
        count = omega (arith, others.count);
        depth = omega (arith, f.depth, others.depth);
      })

-- ---- up to a break

pub record Joins {X : Type 0} (P : List X → List ℕ → Type 0) (s : List ℕ) (x : List X × List ℕ) : Type 0 where
  pub body : List ℕ
  pub holds : P x.0 body
  pub taken : Takes s (body ++ 255 ∷ []) x.1

pub record HasFront {X : Type 0} (P : X → List ℕ → Type 0) (s : List ℕ) (x : X × List ℕ) : Type 0 where
  pub front : List ℕ
  pub holds : P x.0 front
  pub taken : Takes s front x.1

module _ {X : Type 0} (one : List ℕ → Found (List X)) (P Q : List X → List ℕ → Type 0)
    (each : (s : List ℕ) (x : List X × List ℕ) → IsBytes s → one s ≡ Some x → HasFront Q s x) (none : P [] [])
    (more : (x xs : List X) (front body : List ℕ) → Q x front → P xs body → P (x ++ xs) (front ++ body)) where
  joins : (n : ℕ) (s : List ℕ) (x : List X × List ℕ) → IsBytes s → until_break one n s ≡ Some x → Joins P s x
  unfolding until_break
  joins zero s x fits e = absurd cc
  joins (suc n) s x fits e =
      elim (ended_or (break_at s) s (one s >>= λ y. until_break one n y.1 >>= λ ys. Some (y.0 ++ ys.0, ys.1)) x fits refl e) [
        | inl b ↦ record { body = []; holds = subst (λ y. P y []) (sym b.empty) none; taken = b.taken }
        | inr m ↦
            let a = bind_ok (one s) (λ y. until_break one n y.1 >>= λ ys. Some (y.0 ++ ys.0, ys.1)) x m in
            let b = bind_ok (until_break one n a.0.1) (λ ys. Some (a.0.0 ++ ys.0, ys.1)) x a.2 in
            let f = each s a.0 fits a.1 in
            let others = joins n a.0.1 b.0 f.taken.rest_fits b.1 in
            let made : List X × List ℕ = (a.0.0 ++ b.0.0, b.0.1) in
            let taken : Takes s (f.front ++ (others.body ++ 255 ∷ [])) b.0.1 = Takes-then s f.front a.0.1 (others.body ++ 255 ∷ []) b.0.1 f.taken
            others.taken in
            subst (λ y. Joins P s y) (ok_is made x b.2) (record {
              body = f.front ++ others.body;
              holds = more a.0.0 b.0.0 f.front others.body f.holds others.holds;
              taken = subst (λ y. Takes s y b.0.1) (sym (append_assoc f.front others.body (255 ∷ []))) taken;
            })
      ]

-- one of them, as a list
alone_front : {X : Type 0} (one : List ℕ → Found X) (Q : List X → List ℕ → Type 0)
    → ((s : List ℕ) (x : X × List ℕ) → IsBytes s → one s ≡ Some x → HasFront (λ y front. Q (y ∷ []) front) s x) → (s : List ℕ) (x : List X × List ℕ)
    → IsBytes s → alone one s ≡ Some x → HasFront Q s x
alone_front one Q each s x fits e =
    let a = bind_ok (one s) (λ y. Some (y.0 ∷ [], y.1)) x e in
    let f = each s a.0 fits a.1 in
    subst (λ y. HasFront Q s y) (ok_is (a.0.0 ∷ [], a.0.1) x a.2) (record { front = f.front; holds = f.holds; taken = f.taken })

-- the chunks of a string, joined
abbrev JoinChunks : StringKind → List ℕ → List ℕ → Type 0
JoinChunks kind content body = (cs : List (List ℕ)) × AreChunks kind cs body × (content ≡ joined cs)

chunk_fronts : (kind : StringKind) (s : List ℕ) (x : List ℕ × List ℕ) → IsBytes s → chunk_at kind s ≡ Some x
    → HasFront (λ content front. IsDefiniteString kind content front) s x
chunk_fronts kind s x fits e = let t = chunk_takes kind s x fits e in record { front = t.front; holds = t.string; taken = t.taken }

chunk_more : (kind : StringKind) (x xs front body : List ℕ) → IsDefiniteString kind x front → JoinChunks kind xs body
    → JoinChunks kind (x ++ xs) (front ++ body)
chunk_more kind x xs front body h k = (x ∷ k.0, (front, body, h, k.1, refl), ap (λ y. x ++ y) k.2)

-- some items, each so deep at most, one after another
abbrev Items : ℕ → List DataItem → List ℕ → Type 0
Items d ts body = AreEncodings (data_items ts) body × (items_depth (data_items ts) ≤ d)

AreEncodings-append : (d : ℕ) (x xs : List DataItem) (front body : List ℕ) → Items d x front → Items d xs body → Items d (x ++ xs) (front ++ body)
AreEncodings-append d [] xs front body h k = subst (λ y. Items d xs (y ++ body)) (sym h.0) k
AreEncodings-append d (t ∷ x) xs front body h k =
    let e = h.0 in
    let deep = h.1 in
    let rest = AreEncodings-append d x xs e.1 body (e.3, omega arith) k in
    let l = rest.1 in
    ((e.0, e.1 ++ body, e.2, rest.0, ap (λ y. y ++ body) e.4 ∙ append_assoc e.0 e.1 body), omega arith)

abbrev Pairs : ℕ → List (DataItem × DataItem) → List ℕ → Type 0
Pairs d es body = ArePairEncodings (data_pairs es) body × (pairs_depth (data_pairs es) ≤ d)

ArePairEncodings-append : (d : ℕ) (x xs : List (DataItem × DataItem)) (front body : List ℕ) → Pairs d x front → Pairs d xs body
    → Pairs d (x ++ xs) (front ++ body)
ArePairEncodings-append d [] xs front body h k = subst (λ y. Pairs d xs (y ++ body)) (sym h.0) k
ArePairEncodings-append d (t ∷ x) xs front body h k =
    let e = h.0 in
    let deep = h.1 in
    let rest = ArePairEncodings-append d x xs e.2 body (e.5, omega arith) k in
    let l = rest.1 in
    ((e.0, e.1, e.2 ++ body, e.3, e.4, rest.0, ap (λ y. y ++ body) e.6 ∙ append_assoc (e.0 ++ e.1) e.2 body), omega arith)

module _ (part : List ℕ → Found DataItem) (d : ℕ) (each : PartsTaken part d) where
  item_fronts : (s : List ℕ) (x : DataItem × List ℕ) → IsBytes s → part s ≡ Some x → HasFront (λ t front. Items d (t ∷ []) front) s x
  item_fronts s x fits e =
      let t = each s x fits e in
      record { front = t.front; holds = ((t.front, [], t.encoding, refl, sym (append-nil t.front)), (let deep = t.depth in omega arith)); taken = t.taken }

  pair_fronts : (s : List ℕ) (x : (DataItem × DataItem) × List ℕ) → IsBytes s → pair_with part s ≡ Some x → HasFront (λ t front. Pairs d (t ∷ []) front) s x
  pair_fronts s x fits e =
      let t = pair_taken part d each s x fits e in
      record {
        front = t.key ++ t.value;
        holds = (
          (t.key, t.value, [], t.key_encoding, t.value_encoding, refl, sym (append-nil (t.key ++ t.value))),
          (let deep = t.depth in omega arith),
        );
        taken = t.taken;
      }

  items_joined : (s : List ℕ) (x : List DataItem × List ℕ) → IsBytes s → open_with (alone part) s ≡ Some x → Joins (Items d) s x
  items_joined s x fits e = joins (alone part) (Items d) (Items d) (alone_front part (Items d) item_fronts) (refl, omega arith) (AreEncodings-append d)
      (length s) s x fits e

  pairs_joined : (s : List ℕ) (x : List (DataItem × DataItem) × List ℕ) → IsBytes s → open_with (alone (pair_with part)) s ≡ Some x → Joins (Pairs d) s x
  pairs_joined s x fits e = joins (alone (pair_with part)) (Pairs d) (Pairs d) (alone_front (pair_with part) (Pairs d) pair_fronts) (refl, omega arith)
      (ArePairEncodings-append d) (length s) s x fits e

chunks_joined : (kind : StringKind) (s : List ℕ) (x : List ℕ × List ℕ) → IsBytes s → open_with (chunk_at kind) s ≡ Some x → Joins (JoinChunks kind) s x
chunks_joined kind s x fits e = joins (chunk_at kind) (JoinChunks kind) (IsDefiniteString kind) (chunk_fronts kind) ([], refl, refl) (chunk_more kind)
    (length s) s x fits e

-- ---- what a head leads to

-- a head of this argument
headed : (major m : ℕ) (a : Argument) → value_of a < argument_limit (size_in a) → m ≡ value_of a → IsHead major m (sized_head (size_in a) major (value_of a))
headed major m a lt e = subst (λ k. IsHead major k (sized_head (size_in a) major (value_of a))) (sym e) (size_in a, lt, refl)

bare_headed : (major : ℕ) (a : Argument) → value_of a < argument_limit (size_in a) → IsHead major (value_of a) (sized_head (size_in a) major (value_of a) ++ [])
bare_headed major a lt = (size_in a, lt, append-nil (sized_head (size_in a) major (value_of a)))

none_taken : (s : List ℕ) → IsBytes s → Takes s [] s
none_taken s fits = record { parts = refl; rest_fits = fits }

module _ (d : ℕ) (a : Argument) (s : List ℕ) (x : DataItem × List ℕ) (fits : IsBytes s) (lt : value_of a < argument_limit (size_in a)) where
  unsigned_content : done (item.unsigned (value_of a), s) ≡ Some x → Content d Unsigned a s x
  unsigned_content e = subst (λ y. Content d Unsigned a s y) (ok_is (item.unsigned (value_of a), s) x e) ([], bare_headed 0 a lt, none_taken s fits, omega arith)

  negative_content : done (item.negative (value_of a), s) ≡ Some x → Content d Negative a s x
  negative_content e = subst (λ y. Content d Negative a s y) (ok_is (item.negative (value_of a), s) x e) ([], bare_headed 1 a lt, none_taken s fits, omega arith)

  bytes_content : (bytes_at (value_of a) s >>= λ b. Some (item.byte_string b.0, b.1)) ≡ Some x → Content d ByteString a s x
  bytes_content e =
      let b = bind_ok (bytes_at (value_of a) s) (λ b. Some (item.byte_string b.0, b.1)) x e in
      let t = bytes_takes (value_of a) s b.0 fits b.1 in
      subst (λ y. Content d ByteString a s y) (ok_is (item.byte_string b.0.0, b.0.1) x b.2) (
        b.0.0,
        inl (record { head = sized_head (size_in a) 2 (value_of a); opens = headed 2 (length b.0.0) a lt t.1; fine = tt; form = refl }),
        t.0,
        omega arith,
      )

  text_content : (text_at (value_of a) s >>= λ b. Some (item.text_string b.0, b.1)) ≡ Some x → Content d TextString a s x
  text_content e =
      let b = bind_ok (text_at (value_of a) s) (λ b. Some (item.text_string b.0, b.1)) x e in
      let t = text_takes (value_of a) s b.0 fits b.1 in
      subst (λ y. Content d TextString a s y) (ok_is (item.text_string b.0.0, b.0.1) x b.2) (
        b.0.0,
        inl (record { head = sized_head (size_in a) 3 (value_of a); opens = headed 3 (length b.0.0) a lt t.1; fine = t.2; form = refl }),
        t.0,
        omega arith,
      )

  simple_content : (n : ℕ) (t : DataItem) → n < 2 ^ 8 → (n < 24) ⊎ (32 ≤ n) → sized_head (size_in a) 7 (value_of a) ≡ simple_head n → simple_at n ≡ Some t → IsEncoding t (sized_head (size_in a) 7 (value_of a)) × (depth_of t ≤ d)
  simple_content n t l (inl h) q e = subst (λ y. IsEncoding y (sized_head (size_in a) 7 (value_of a)) × (depth_of y ≤ d)) (ok_is (item.simple_value n) t (rw (lt-ltb n 24 h) at e)) ((inl h, l, q), omega arith)
  simple_content n t l (inr h) q e =
      let e24 : ltb n 24 ≡ false = le-ltb n 24 (omega arith) in
      let e32 : ltb n 32 ≡ false = le-ltb n 32 h in
      subst (λ y. IsEncoding y (sized_head (size_in a) 7 (value_of a)) × (depth_of y ≤ d)) (ok_is (item.simple_value n) t (rw (e24, e32) at e)) ((inr h, l, q), omega arith)

plain_content : (d : ℕ) (a : Argument) (s : List ℕ) (t : DataItem) → IsBytes s → value_of a < argument_limit (size_in a) → plain_of a ≡ Some t → IsEncoding t (sized_head (size_in a) 7 (value_of a)) × (depth_of t ≤ d)
plain_content d (Direct n) s t fits lt e = simple_content d (Direct n) s (t, s) fits lt n t (omega arith) (inl lt) (rw (lt-ltb n 24 lt) refl) e
plain_content d (One n) s t fits lt e =
    elim (chosen (ltb n 32) _ _ _ e) [
      | inl a ↦ absurd (let wrong = a.1 in cc)
      | inr a ↦
          let le : 32 ≤ n = ltb-false n 32 a.0 in
          let e24 : ltb n 24 ≡ false = le-ltb n 24 (omega arith) in
          simple_content d (One n) s (t, s) fits lt n t lt (inr le) (rw e24 refl) a.1
    ]
plain_content d (Two n) s t fits lt e = subst (λ y. IsEncoding y (249 ∷ to_be_bytes w16 n) × (depth_of y ≤ d)) (ok_is (item.half_float n) t e) ((lt, refl), omega arith)
plain_content d (Four n) s t fits lt e = subst (λ y. IsEncoding y (250 ∷ to_be_bytes w32 n) × (depth_of y ≤ d)) (ok_is (item.single_float n) t e) ((lt, refl), omega arith)
plain_content d (Eight n) s t fits lt e = subst (λ y. IsEncoding y (251 ∷ to_be_bytes w64 n) × (depth_of y ≤ d)) (ok_is (item.double_float n) t e) ((lt, refl), omega arith)

last_content : (d : ℕ) (a : Argument) (s : List ℕ) (x : DataItem × List ℕ) → IsBytes s → value_of a < argument_limit (size_in a) → (plain_of a >>= λ t. Some (t, s)) ≡ Some x → Content d Simple a s x
last_content d a s x fits lt e =
    let b = bind_ok (plain_of a) (λ t. Some (t, s)) x e in
    let p = plain_content d a s b.0 fits lt b.1 in
    subst (λ y. Content d Simple a s y) (ok_is (b.0, s) x b.2) ([], subst (IsEncoding b.0) (sym (append-nil (sized_head (size_in a) 7 (value_of a)))) p.0, none_taken s fits, p.1)

-- what an opened item leads to
abbrev OpenContent : ℕ → Open → List ℕ → DataItem × List ℕ → Type 0
OpenContent d o s x = (body : List ℕ) × IsEncoding x.0 (initial o ∷ (body ++ 255 ∷ [])) × Takes s (body ++ 255 ∷ []) x.1 × (depth_of x.0 ≤ d)

-- what has parts, and how deep it is
abbrev NestedTaken : (Parts → List ℕ → Found DataItem) → ℕ → Major → (ℕ → Parts) → Type 0
NestedTaken nested d major held = (a : Argument) (s : List ℕ) (x : DataItem × List ℕ) → IsBytes s → value_of a < argument_limit (size_in a)
    → nested (held (value_of a)) s ≡ Some x → Content d major a s x

abbrev NestedOpen : (Parts → List ℕ → Found DataItem) → ℕ → Open → Parts → Type 0
NestedOpen nested d o held = (s : List ℕ) (x : DataItem × List ℕ) → IsBytes s → nested held s ≡ Some x → OpenContent d o s x

-- an item that a kind of string makes
string_encoding : (kind : StringKind) (d : ℕ) (bs s : List ℕ) → IsString kind bs s → IsEncoding (string_of kind bs) s × (depth_of (string_of kind bs) ≤ d)
string_encoding kinds.Bytes d bs s h = (h, omega arith)
string_encoding kinds.Text d bs s h = (h, omega arith)

string_content : (d : ℕ) (kind : StringKind) (s : List ℕ) (x : DataItem × List ℕ) → IsBytes s
    → (open_with (chunk_at kind) s >>= λ b. Some (string_of kind b.0, b.1)) ≡ Some x → OpenContent d (form.String kind) s x
string_content d kind s x fits e =
    let b = bind_ok (open_with (chunk_at kind) s) (λ b. Some (string_of kind b.0, b.1)) x e in
    let t = chunks_joined kind s b.0 fits b.1 in
    let h = t.holds in
    let i = string_encoding kind d b.0.0 (initial (form.String kind) ∷ (t.body ++ 255 ∷ []))
    (inr (record { chunks = h.0; body = t.body; each = h.1; joins = h.2; form = refl })) in
    subst (λ y. OpenContent d (form.String kind) s y) (ok_is (string_of kind b.0.0, b.0.1) x b.2) (t.body, i.0, t.taken, i.1)

module _ (part : List ℕ → Found DataItem) (d : ℕ) (each : PartsTaken part d) where
  array_content : NestedTaken (nested_with part) (suc d) Array parts.Items
  unfolding nested_with
  array_content a s x fits lt e =
      let b = bind_ok (many_with part (value_of a) s) (λ ts. Some (item.array (data_items ts.0), ts.1)) x e in
      let t = many_taken part d each (value_of a) s b.0 fits b.1 in
      let deep = t.depth in
      subst (λ y. Content (suc d) Array a s y) (ok_is (item.array (data_items b.0.0), b.0.1) x b.2) (
        t.front,
        inl (sized_head (size_in a) 4 (value_of a), t.front, headed 4 (item_count (data_items b.0.0)) a lt t.count, t.encoding, refl),
        t.taken,
        omega arith,
      )

  mapping_content : NestedTaken (nested_with part) (suc d) Map parts.Pairs
  unfolding nested_with
  mapping_content a s x fits lt e =
      let b = bind_ok (many_with (pair_with part) (value_of a) s) (λ es. Some (item.mapping (data_pairs es.0), es.1)) x e in
      let t = pairs_taken part d each (value_of a) s b.0 fits b.1 in
      let deep = t.depth in
      subst (λ y. Content (suc d) Map a s y) (ok_is (item.mapping (data_pairs b.0.0), b.0.1) x b.2) (
        t.front,
        inl (sized_head (size_in a) 5 (value_of a), t.front, headed 5 (pair_count (data_pairs b.0.0)) a lt t.count, t.encoding, refl),
        t.taken,
        omega arith,
      )

  tag_content : NestedTaken (nested_with part) (suc d) Tag parts.Tagged
  unfolding nested_with
  tag_content a s x fits lt e =
      let b = bind_ok (part s) (λ t. Some (item.tagged (value_of a) t.0, t.1)) x e in
      let f = each s b.0 fits b.1 in
      let deep = f.depth in
      subst (λ y. Content (suc d) Tag a s y) (ok_is (item.tagged (value_of a) b.0.0, b.0.1) x b.2) (f.front, (sized_head (size_in a) 6 (value_of a), f.front, headed 6 (value_of a) a lt refl, f.encoding, refl), f.taken, omega arith)

  open_array_content : NestedOpen (nested_with part) (suc d) form.Items parts.OpenItems
  unfolding nested_with
  open_array_content s x fits e =
      let b = bind_ok (open_with (alone part) s) (λ ts. Some (item.array (data_items ts.0), ts.1)) x e in
      let t = items_joined part d each s b.0 fits b.1 in
      let deep = t.holds.1 in
      subst (λ y. OpenContent (suc d) form.Items s y) (ok_is (item.array (data_items b.0.0), b.0.1) x b.2)
      (t.body, inr (t.body, t.holds.0, refl), t.taken, omega arith)

  open_mapping_content : NestedOpen (nested_with part) (suc d) form.Pairs parts.OpenPairs
  unfolding nested_with
  open_mapping_content s x fits e =
      let b = bind_ok (open_with (alone (pair_with part)) s) (λ es. Some (item.mapping (data_pairs es.0), es.1)) x e in
      let t = pairs_joined part d each s b.0 fits b.1 in
      let deep = t.holds.1 in
      subst (λ y. OpenContent (suc d) form.Pairs s y) (ok_is (item.mapping (data_pairs b.0.0), b.0.1) x b.2)
      (t.body, inr (t.body, t.holds.0, refl), t.taken, omega arith)

-- each of the kinds of parts
record AllTaken (nested : Parts → List ℕ → Found DataItem) (d : ℕ) : Type 0 where
  arrays : NestedTaken nested d Array parts.Items
  maps : NestedTaken nested d Map parts.Pairs
  tags : NestedTaken nested d Tag parts.Tagged
  open_arrays : NestedOpen nested d form.Items parts.OpenItems
  open_maps : NestedOpen nested d form.Pairs parts.OpenPairs

module _ (nested : Parts → List ℕ → Found DataItem) (d : ℕ) (all : AllTaken nested d) where
  content_taken : (major : Major) (a : Argument) (s : List ℕ) (x : DataItem × List ℕ) → IsBytes s → value_of a < argument_limit (size_in a) → content_with nested major a s ≡ Some x → Content d major a s x
  unfolding content_with
  content_taken Unsigned a s x fits lt e = unsigned_content d a s x fits lt e
  content_taken Negative a s x fits lt e = negative_content d a s x fits lt e
  content_taken ByteString a s x fits lt e = bytes_content d a s x fits lt e
  content_taken TextString a s x fits lt e = text_content d a s x fits lt e
  content_taken Array a s x fits lt e = all.arrays a s x fits lt e
  content_taken Map a s x fits lt e = all.maps a s x fits lt e
  content_taken Tag a s x fits lt e = all.tags a s x fits lt e
  content_taken Simple a s x fits lt e = last_content d a s x fits lt e

  opened_taken : (o : Open) (s : List ℕ) (x : DataItem × List ℕ) → IsBytes s → opened_with nested o s ≡ Some x → OpenContent d o s x
  unfolding opened_with
  opened_taken (form.String kind) s x fits e = string_content d kind s x fits e
  opened_taken form.Items s x fits e = all.open_arrays s x fits e
  opened_taken form.Pairs s x fits e = all.open_maps s x fits e

  begun_taken : (o : Found Open) (s : List ℕ) (x : DataItem × List ℕ) → IsBytes s → open_at s ≡ o → begun_with nested o s ≡ Some x → IsTaken d s x
  begun_taken None s x fits q e =
      let h = bind_ok (head_at s) (λ h. content_with nested h.0.major h.0.argument h.1) x e in
      let t = head_takes s h.0 fits h.1 in
      let c = content_taken h.0.0.major h.0.0.argument h.0.1 x t.taken.rest_fits t.fits h.2 in
      let head = sized_head (size_in h.0.0.argument) (major_number h.0.0.major) (value_of h.0.0.argument) in
      record { front = head ++ c.0; encoding = c.1; taken = Takes-then s head h.0.1 c.0 x.1 t.taken c.2; depth = c.3 }
  begun_taken (Some o) s x fits q e =
      let p = open_takes s o fits q in
      let c = opened_taken o.0 o.1 x p.rest_fits e in
      let first : Takes s (initial o.0 ∷ []) o.1 = record { parts = p.parts; rest_fits = p.rest_fits } in
      record {
        front = initial o.0 ∷ (c.0 ++ 255 ∷ []);
        encoding = c.1;
        taken = Takes-then s (initial o.0 ∷ []) o.1 (c.0 ++ 255 ∷ []) x.1 first c.2;
        depth
            = c.3;
      }

  item_taken : (s : List ℕ) (x : DataItem × List ℕ) → IsBytes s → item_with nested s ≡ Some x → IsTaken d s x
  unfolding item_with
  item_taken s x fits e = begun_taken (open_at s) s x fits refl e

none_nested : (major : Major) (held : ℕ → Parts) → NestedTaken (nested_in 0) 0 major held
unfolding nested_in
none_nested major held a s x fits lt e = absurd cc

none_open : (o : Open) (held : Parts) → NestedOpen (nested_in 0) 0 o held
unfolding nested_in
none_open o held s x fits e = absurd cc

parts_taken : (d : ℕ) → PartsTaken (λ s. item_with (nested_in d) s) d
unfolding nested_in
parts_taken zero s x fits e =
    item_taken (nested_in 0) 0 (record {
      arrays = none_nested Array parts.Items;
      maps = none_nested Map parts.Pairs;
      tags = none_nested Tag parts.Tagged;
      open_arrays = none_open form.Items parts.OpenItems;
      open_maps = none_open form.Pairs parts.OpenPairs;
    }) s x fits e
parts_taken (suc d) s x fits e =
    let part : List ℕ → Found DataItem = λ s. item_with (nested_in d) s in
    item_taken (nested_with part) (suc d) (record {
      arrays = array_content part d (parts_taken d);
      maps = mapping_content part d (parts_taken d);
      tags
          = tag_content part d (parts_taken d);
      open_arrays = open_array_content part d (parts_taken d);
      open_maps = open_mapping_content part d
          (parts_taken d);
    }) s x fits e

pub item_found : (d : ℕ) (s : List ℕ) (x : DataItem × List ℕ) → IsBytes s → item_at d s ≡ Some x → IsBuilt d s x.0 x.1
unfolding item_at
item_found d s x fits e =
    let t = parts_taken d s x fits e in
    record { front = t.front; encoding = t.encoding; parts = t.taken.parts; within = t.depth }
