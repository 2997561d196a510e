-- Prefixes as words.
use Rattle.std.proofs.Common.{◌≡◌, ℕ, ◌≤◌, Bool, false, cond, ltb, List, [], ◌∷◌, ◌++◌, length, take, drop, Option, Some, None, refl, sym, ap, subst, ◌∙◌, append_assoc, arith}
use Rattle.std.specs.Prelude.{decimal, IfSome, IfNone}
use Rattle.std.proofs.lemmas.Bool.{le-ltb}
use Rattle.std.proofs.lemmas.List.{append-nil, take_at, drop_at, take-append-drop, length-append}
use Rattle.grasp_types.specs.Prefix.{AddressBlock, IsPrefix}
use Rattle.grasp_text.specs.Line.{v6_word, prefix_word}
use Rattle.grasp_text.specs.Reading.{behind_byte, block_of, then_some, number_of, v6_of}
use Rattle.grasp_text.proofs.HexWords.{v6_exact}
use Rattle.grasp_text.proofs.Leaves.{behind_only}
use Rattle.grasp_text.proofs.NumberWords.{number_only, number_found, some, some_is}
use Rattle.grasp_text.proofs.SpelledWords.{v6_long}

-- what stands in the word of a prefix
pub record PrefixParts (address len : ℕ) (word : List ℕ) : Type 0 where
  pub long : 32 ≤ length word
  pub digits : v6_of (take 32 word) ≡ Some address
  pub slash : behind_byte 47 (drop 32 word) ≡ Some (decimal len)
  pub number : number_of 255 (decimal len) ≡ Some len

pub prefix_parts : (address len : ℕ) (word : List ℕ) → IsPrefix address len → word ≡ prefix_word (record { address = address; length = len }) → PrefixParts address len word
prefix_parts address len word is e =
    let small : len ≤ 128 = is.most in
    let front : take 32 word ≡ v6_word address = ap (take 32) e ∙ take_at (v6_word address) (47 ∷ decimal len) 32 (v6_long address) in
    let back : drop 32 word ≡ 47 ∷ decimal len = ap (drop 32) e ∙ drop_at (v6_word address) (47 ∷ decimal len) 32 (v6_long address) in
    record {
      long = omega (arith, ap length e, length-append (v6_word address) (47 ∷ decimal len), v6_long address);
      digits = v6_exact.found address (take 32 word) (record { within = is.within; digits = front });
      slash = ap (behind_byte 47) back;
      number = number_found 255 len (decimal len) (omega arith) (omega arith) refl;
    }

pub block_found : (p : AddressBlock) (word : List ℕ) → IsPrefix p.address p.length → word ≡ prefix_word p → block_of word ≡ Some (p.address, p.length)
unfolding block_of
block_found p word is e =
    let h = prefix_parts p.address p.length word is e in
    rw (le-ltb (length word) 32 h.long, h.digits, h.slash, h.number) refl

block_only_at : (word : List ℕ) (short : Bool) (a : Option ℕ) (r : Option (List ℕ)) (x : ℕ × ℕ) → v6_of (take 32 word) ≡ a → behind_byte 47 (drop 32 word) ≡ r → cond short None (then_some a (λ a. then_some r (λ rest. then_some (number_of 255 rest) (λ n. some (a, n))))) ≡ Some x → word ≡ prefix_word (record { address = x.0; length = x.1 })
block_only_at word false (Some a) (Some rest) x d s e = by_number (number_of 255 rest) refl e
  where
    by_number : (n : Option ℕ) → number_of 255 rest ≡ n → then_some n (λ n. some (a, n)) ≡ Some x → word ≡ prefix_word (record { address = x.0; length = x.1 })
    by_number None n f = absurd (let z : None ≡ some x = f in cc)
    by_number (Some len) n f =
        let front = v6_exact.only (take 32 word) a d in
        let back : drop 32 word ≡ 47 ∷ rest = behind_only 47 (drop 32 word) rest s in
        let digits = number_only 255 rest len n in
        let made : word ≡ prefix_word (record { address = a; length = len }) = sym (take-append-drop 32 word) ∙ ap (λ (y : List ℕ). y ++ drop 32 word) front.digits ∙ ap (λ (y : List ℕ). v6_word a ++ y) (back ∙ ap (λ (y : List ℕ). 47 ∷ y) digits.digits) in
        subst (λ (y : ℕ × ℕ). word ≡ prefix_word (record { address = y.0; length = y.1 })) (some_is (a, len) x f) made
block_only_at word _ _ _ x d s e = absurd (let z : None ≡ some x = e in cc)

pub block_only : (word : List ℕ) (x : ℕ × ℕ) → block_of word ≡ Some x → word ≡ prefix_word (record { address = x.0; length = x.1 })
unfolding block_of
block_only word x e = block_only_at word (ltb (length word) 32) (v6_of (take 32 word)) (behind_byte 47 (drop 32 word)) x refl refl e

-- where there is no block, or its numbers are no prefix, no prefix has the word
pub none_by_word : (word : List ℕ) → block_of word ≡ None → (p : AddressBlock) → IsPrefix p.address p.length → ¬ (word ≡ prefix_word p)
none_by_word word n p is e = let z = sym n ∙ block_found p word is e in cc

pub none_by_range : (word : List ℕ) (address len : ℕ) → block_of word ≡ Some (address, len) → ¬ (IsPrefix address len) → (p : AddressBlock) → IsPrefix p.address p.length → ¬ (word ≡ prefix_word p)
none_by_range word address len b out p is e =
    let same : (address, len) ≡ (p.address, p.length) = some_is (address, len) (p.address, p.length) (sym b ∙ block_found p word is e) in
    out (subst (λ (y : ℕ × ℕ). IsPrefix y.0 y.1) (sym same) is)

-- an address, a slash and a number behind a text
pub prefix_pushed : (old a b new : List ℕ) (address len : ℕ) → a ≡ old ++ 32 ∷ (v6_word address ++ []) → b ≡ a ++ 47 ∷ [] → new ≡ b ++ decimal len → new ≡ old ++ 32 ∷ ((v6_word address ++ 47 ∷ decimal len) ++ [])
prefix_pushed old a b new address len p q r =
    r ∙ ap (λ (x : List ℕ). x ++ decimal len) q ∙ append_assoc a (47 ∷ []) (decimal len) ∙ ap (λ (x : List ℕ). x ++ 47 ∷ decimal len) p ∙ append_assoc old (32 ∷ (v6_word address ++ [])) (47 ∷ decimal len)
    ∙ ap (λ (x : List ℕ). old ++ 32 ∷ (x ++ 47 ∷ decimal len)) (append-nil (v6_word address)) ∙ ap (λ (x : List ℕ). old ++ 32 ∷ x) (sym (append-nil (v6_word address ++ 47 ∷ decimal len)))

-- what `Prefix::of` answers then
pub prefix_found : (word : List ℕ) (address len : ℕ) (o : Option AddressBlock) → block_of word ≡ Some (address, len) → IfSome o (λ p. p ≡ record { address = address; length = len }) → IfSome o (λ p. word ≡ prefix_word p)
prefix_found word address len None b h = tt
prefix_found word address len (Some p) b h = block_only word (address, len) b ∙ ap prefix_word (sym h)

pub prefix_none : (word : List ℕ) (address len : ℕ) (o : Option AddressBlock) → block_of word ≡ Some (address, len) → IfNone o (¬ IsPrefix address len) → IfNone o ((p : AddressBlock) → IsPrefix p.address p.length → ¬ (word ≡ prefix_word p))
prefix_none word address len None b out = none_by_range word address len b out
prefix_none word address len (Some p) b out = tt
