-- What leads bytes is found, and what is found leads them.
use Rattle.std.proofs.Common.{◌≡◌, ℕ, ◌+◌, ◌*◌, ◌/◌, ◌%◌, ◌<◌, ◌≤◌, Bool, true, false, cond, eqb, List, [], ◌∷◌, ◌++◌, length, Option, Some, None, refl, sym, ap, subst, ◌∙◌, append_assoc, arith}
use Rattle.std.specs.Prelude.{option_map, IfSome, IfNone}
use Rattle.std.specs.Int.{w16, w32, w64, to_be_bytes}
use Rattle.std.proofs.lemmas.Bool.{lt-ltb, eqb-true, eq-eqb}
use Rattle.std.proofs.lemmas.Nat.{from_be_bytes-to_be_bytes_2, from_be_bytes-to_be_bytes_4, from_be_bytes-to_be_bytes_8}
use Rattle.grasp_cbor.specs.Head.{HeadSize, direct, one_byte, two_bytes, four_bytes, eight_bytes, argument_limit, sized_head, IsHead}
use Rattle.grasp_cbor.specs.Build.{◌>>=◌, value_of, argument_at, argument_in, content_at, string_in}
use Rattle.grasp_cbor.specs.Encodes.{IsContent, string_major}
use Rattle.grasp_cbor.specs.DataItem.{DataItem, unsigned, depth_of}
use Rattle.grasp_cbor.specs.Built.{IsBuilt}
use Rattle.grasp_cbor.specs.Leading.{Leads, LeadsArray, LeadsString}
use Rattle.grasp_cbor.specs.declared.heads.StringKind.{StringKind}
use Rattle.grasp_cbor.specs.declared.heads.Argument.TheVariants.{Direct}
use Rattle.grasp_cbor.proofs.HeadsRead.{number_again}
use Rattle.grasp_cbor.proofs.Takes.{IsBytes, IsBytes-rest, bind_ok, ok_is, Takes, Takes-then, size_in, low_of, tail_of, sized_head_is, argument_takes, content_takes}
use Rattle.grasp_cbor.proofs.Again.{content_again}

-- a test that did not fail, and what came of it
test_ok : {A : Type 0} (b : Bool) (x : Option A) (y : A) → cond b x None ≡ Some y → (b ≡ true) × (x ≡ Some y)
test_ok true x y e = (refl, e)
test_ok false x y e = absurd cc

-- a head of this major type, and what follows
pub record IsLed (major n : ℕ) (s rest : List ℕ) : Type 0 where
  pub head : List ℕ
  pub opens : IsHead major n head
  pub taken : Takes s head rest

-- an argument that stands in the initial byte
pub direct_argument : (i : ℕ) (rest : List ℕ) → i < 24 → argument_at i rest ≡ Some (Direct i, rest)
unfolding argument_at
direct_argument i rest lt = rw (lt-ltb i 24 lt) refl

-- ---- what is found

pub head_leads : (major : ℕ) (s : List ℕ) (x : ℕ × List ℕ) → IsBytes s → argument_in major s ≡ Some x → IsLed major x.0 s x.1
unfolding argument_in
head_leads major [] x fits e = absurd cc
head_leads major (b ∷ s) x fits e =
    let g = test_ok (eqb (b / 32) major) (argument_at (b % 32) s >>= λ a. Some (value_of a.0, a.1)) x e in
    let a = bind_ok (argument_at (b % 32) s) (λ a. Some (value_of a.0, a.1)) x g.1 in
    let t = argument_takes (b % 32) s a.0 (IsBytes-rest b s fits) a.1 in
    let low : b % 32 ≡ low_of a.0.0 = t.low in
    let high : b / 32 ≡ major = eqb-true (b / 32) major g.0 in
    let first : 32 * major + low_of a.0.0 ≡ b = omega arith in
    let head : List ℕ = sized_head (size_in a.0.0) major (value_of a.0.0) in
    let whole : b ∷ s ≡ head ++ a.0.1 =
    ap (λ (y : List ℕ). b ∷ y) t.taken.parts ∙ ap (λ (y : ℕ). y ∷ (tail_of a.0.0 ++ a.0.1)) (sym first)
    ∙ ap (λ (y : List ℕ). y ++ a.0.1) (sym (sized_head_is major a.0.0)) in
    subst (λ (y : ℕ × List ℕ). IsLed major y.0 (b ∷ s) y.1) (ok_is (value_of a.0.0, a.0.1) x a.2) (record {
      head = head;
      opens = (size_in a.0.0, t.fits, refl);
      taken = record { parts = whole; rest_fits = t.taken.rest_fits };
    })

pub string_leads : (kind : StringKind) (s : List ℕ) (x : List ℕ × List ℕ) → IsBytes s → string_in kind s ≡ Some x → LeadsString kind x.0 s x.1
string_leads kind s x fits e =
    let a = bind_ok (argument_in (string_major kind) s) (λ a. content_at kind a.0 a.1) x e in
    let h = head_leads (string_major kind) s a.0 fits a.1 in
    let c = content_takes kind a.0.0 a.0.1 x h.taken.rest_fits a.2 in
    record {
      front = h.head ++ x.0;
      string = record { head = h.head; opens = subst (λ n. IsHead (string_major kind) n h.head) (sym c.1) h.opens; fine = c.2; form = refl };
      parts = (Takes-then s h.head a.0.1 x.0 x.1 h.taken c.0).parts;
    }

-- ---- what leads is found

initial_byte : (major i : ℕ) (rest : List ℕ) → i < 32
    → argument_in major ((32 * major + i) ∷ rest) ≡ (argument_at i rest >>= λ a. Some (value_of a.0, a.1))
unfolding argument_in
initial_byte major i rest lt =
    let high : (32 * major + i) / 32 ≡ major = omega arith in
    let low : (32 * major + i) % 32 ≡ i = omega arith in
    rw (high, low, eq-eqb major major refl) refl

sized_again : (size : HeadSize) (major n : ℕ) (rest : List ℕ) → n < argument_limit size → argument_in major (sized_head size major n ++ rest) ≡ Some (n, rest)
unfolding argument_at
sized_again direct major n rest lt = initial_byte major n rest (omega arith) ∙ rw (lt-ltb n 24 lt) refl
sized_again one_byte major n rest lt = initial_byte major 24 (n ∷ rest) (omega arith)
sized_again two_bytes major n rest lt = initial_byte major 25 (to_be_bytes w16 n ++ rest) (omega arith) ∙ rw (number_again w16 n rest refl (from_be_bytes-to_be_bytes_2 n lt)) refl
sized_again four_bytes major n rest lt = initial_byte major 26 (to_be_bytes w32 n ++ rest) (omega arith) ∙ rw (number_again w32 n rest refl (from_be_bytes-to_be_bytes_4 n lt)) refl
sized_again eight_bytes major n rest lt = initial_byte major 27 (to_be_bytes w64 n ++ rest) (omega arith) ∙ rw (number_again w64 n rest refl (from_be_bytes-to_be_bytes_8 n lt)) refl

pub head_again : (major n : ℕ) (s head rest : List ℕ) → IsHead major n head → s ≡ head ++ rest → argument_in major s ≡ Some (n, rest)
head_again major n s head rest h e = ap (argument_in major) (e ∙ ap (λ x. x ++ rest) h.2) ∙ sized_again h.0 major n rest h.1

pub string_again : (kind : StringKind) (content s rest : List ℕ) → LeadsString kind content s rest → string_in kind s ≡ Some (content, rest)
string_again kind content s rest l =
    let h = l.string in
    let form : s ≡ h.head ++ (content ++ rest) = l.parts ∙ ap (λ x. x ++ rest) h.form ∙ append_assoc h.head content rest in
    rw (head_again (string_major kind) (length content) s h.head (content ++ rest) h.opens form) (content_again kind content rest h.fine)

-- ---- what the readers answer

abbrev absent : (A : Type 0) → Option A
absent A = None

no_some : {A : Type 0} (x : A) → absent A ≡ Some x → ⊥
no_some x e = cc

module _ {X : Type 0} (n : X → ℕ) (rest : X → List ℕ) (s : List ℕ) where
  pub unsigned_some : (r : Option X) → IsBytes s → option_map (λ x. (n x, rest x)) r ≡ argument_in 0 s → IfSome r (λ x. Leads (unsigned (n x)) s (rest x))
  unsigned_some (Some x) fits e = let l = head_leads 0 s (n x, rest x) fits (sym e) in record { front = l.head; encoding = l.opens; parts = l.taken.parts }
  unsigned_some None fits e = tt

  pub unsigned_none : (r : Option X) → option_map (λ x. (n x, rest x)) r ≡ argument_in 0 s → IfNone r ((m : ℕ) (t : List ℕ) → ¬ Leads (unsigned m) s t)
  unsigned_none (Some x) e = tt
  unsigned_none None e = λ m t l. no_some (m, t) (e ∙ head_again 0 m s l.front t l.encoding l.parts)

  pub array_some : (r : Option X) → IsBytes s → option_map (λ x. (n x, rest x)) r ≡ argument_in 4 s → IfSome r (λ x. LeadsArray (n x) s (rest x))
  array_some (Some x) fits e = let l = head_leads 4 s (n x, rest x) fits (sym e) in record { head = l.head; opens = l.opens; parts = l.taken.parts }
  array_some None fits e = tt

  pub array_none : (r : Option X) → option_map (λ x. (n x, rest x)) r ≡ argument_in 4 s → IfNone r ((m : ℕ) (t : List ℕ) → ¬ LeadsArray m s t)
  array_none (Some x) e = tt
  array_none None e = λ m t l. no_some (m, t) (e ∙ head_again 4 m s l.head t l.opens l.parts)

module _ {X : Type 0} (kind : StringKind) (content rest : X → List ℕ) (s : List ℕ) where
  pub string_some : (r : Option X) → IsBytes s → option_map (λ x. (content x, rest x)) r ≡ string_in kind s → IfSome r (λ x. LeadsString kind (content x) s (rest x))
  string_some (Some x) fits e = string_leads kind s (content x, rest x) fits (sym e)
  string_some None fits e = tt

  pub string_fine : (r : Option X) → IsBytes s → option_map (λ x. (content x, rest x)) r ≡ string_in kind s → IfSome r (λ x. IsContent kind (content x))
  string_fine (Some x) fits e = (string_leads kind s (content x, rest x) fits (sym e)).string.fine
  string_fine None fits e = tt

  pub string_none : (r : Option X) → option_map (λ x. (content x, rest x)) r ≡ string_in kind s → IfNone r ((c t : List ℕ) → ¬ LeadsString kind c s t)
  string_none (Some x) e = tt
  string_none None e = λ c t l. no_some (c, t) (e ∙ string_again kind c s t l)

-- ---- items

pub built_leads : (d : ℕ) (item : DataItem) (s rest : List ℕ) → IsBuilt d s item rest → Leads item s rest × (depth_of item ≤ d)
built_leads d item s rest b = (record { front = b.front; encoding = b.encoding; parts = b.parts }, b.within)
