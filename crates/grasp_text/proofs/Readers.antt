-- What is read is what is written.
use Rattle.std.proofs.Common.{◌≡◌, ℕ, suc, ◌<◌, ◌≤◌, ◌^◌, List, [], ◌∷◌, ◌++◌, length, Option, Some, None, Result, Ok, Err, refl, sym, ap, subst, ◌∙◌, append_assoc, arith}
use Rattle.std.specs.Prelude.{IfSome, IfNone, IfOk, decimal, option_map}
use Rattle.std.specs.Str.{IsUtf8}
use Rattle.std.proofs.lemmas.List.{append-nil}
use Rattle.hex.specs.Hex.{encode_lower}
use Rattle.grasp_cbor.specs.Bytes.{AllBytes}
use Rattle.grasp_cbor.specs.DataItem.{DataItem}
use Rattle.grasp_cbor.proofs.HeadBytes.{AllBytes-at}
use Rattle.grasp_types.specs.Address.{IsAddress, IsLocator}
use Rattle.grasp_types.specs.Objective.{IsObjective, IsValue}
use Rattle.grasp_types.specs.declared.address.Address.{Address}
use Rattle.grasp_types.specs.declared.address.Locator.{Locator}
use Rattle.grasp_types.specs.declared.objective.Objective.{Objective}
use Rattle.grasp_text.specs.Grammar.{objective_at, locator_at, optional_locator_at}
use Rattle.grasp_text.specs.Laws.{NumbersAreTaken, TextsAreTaken, ValuesAreTaken, OptionalValuesAreTaken, AddressesAreTaken, NumbersAreRead, TextsAreRead, ValuesAreRead, AddressesAreRead, ObjectivesAreRead, LocatorsAreRead, OptionalLocatorsAreRead}
use Rattle.grasp_text.specs.Line.{address_word, text_word, value_word, or_dash, bytes_word, objective_words, locator_words, locator_or_none}
use Rattle.grasp_text.specs.Readers.{IsWordReader, Begins, StopsAt, IsReader}
use Rattle.grasp_text.specs.Reading.{Parsed, or_unfit, word_at, maybe_of, number_of, text_of, value_of, address_of, bytes_of, behind_byte}
use Rattle.grasp_text.specs.Words.{joined}
use Rattle.grasp_text.proofs.Lawful.{Exact, Lawful, Stops, Anything, ok_is}
use Rattle.grasp_text.proofs.Leaves.{IsText, text_exact, behind_only}
use Rattle.grasp_text.proofs.NumberWords.{IsNumber, number_exact, some}
use Rattle.grasp_text.proofs.PartLaws.{IsMaybeValue, maybe_value_exact, told_value, value_told, ObjectiveWords, objective_lawful, LocatorWords, locator_lawful, OptionalLocatorWords, optional_lawful}
use Rattle.grasp_text.proofs.SpelledWords.{IsAddressWord, address_exact}
use Rattle.grasp_text.proofs.ValueWords.{IsValueWord, value_exact, bytes_only, bytes_again}

-- ---- one word

module _ {A : Type 0} (IsOne : A → Type 0) (spell : A → List ℕ) (Is : A → List ℕ → Type 0) (read : List ℕ → Option A) (E : Exact Is read) (to : (a : A) (w : List ℕ) → IsOne a → w ≡ spell a → Is a w) (from : (a : A) (w : List ℕ) → Is a w → (w ≡ spell a) × IsOne a) where
  pub word_reader : IsWordReader IsOne spell read
  word_reader = record {
    found = λ a one. E.found a (spell a) (to a (spell a) one refl);
    only = λ w a e. from a w (E.only w a e);
  }

  -- what is told where a function answers so
  pub is_spelled : (w : List ℕ) (o : Option A) → o ≡ read w → IfSome o (λ a. w ≡ spell a)
  is_spelled w None e = tt
  is_spelled w (Some a) e = (from a w (E.only w a (sym e))).0

  pub is_valid : (w : List ℕ) (o : Option A) → o ≡ read w → IfSome o IsOne
  is_valid w None e = tt
  is_valid w (Some a) e = (from a w (E.only w a (sym e))).1

  pub is_denied : (w : List ℕ) (o : Option A) → o ≡ read w → IfNone o ((a : A) → IsOne a → ¬ (w ≡ spell a))
  is_denied w (Some a) e = tt
  is_denied w None e = λ a one is. let z : None ≡ some a = e ∙ E.found a w (to a w one is) in cc

  -- what the answer of a reader says of the word, where the reader may run out of memory
  pub spelled_ok : {F : Type 0} (w : List ℕ) (r : Result (Option A) F) → IfOk r (λ o. o ≡ read w) → IfOk r (λ o. IfSome o (λ a. w ≡ spell a))
  spelled_ok w (Err x) h = tt
  spelled_ok w (Ok o) h = is_spelled w o h

  pub valid_ok : {F : Type 0} (w : List ℕ) (r : Result (Option A) F) → IfOk r (λ o. o ≡ read w) → IfOk r (λ o. IfSome o IsOne)
  valid_ok w (Err x) h = tt
  valid_ok w (Ok o) h = is_valid w o h

  pub none_ok : {F : Type 0} (w : List ℕ) (r : Result (Option A) F) → IfOk r (λ o. o ≡ read w) → IfOk r (λ o. IfNone o ((a : A) → IsOne a → ¬ (w ≡ spell a)))
  none_ok w (Err x) h = tt
  none_ok w (Ok o) h = is_denied w o h

-- ---- one word in front of others

module _ {A : Type 0} (IsOne : A → Type 0) (spell : A → List ℕ) (Is : A → List ℕ → Type 0) (read : List ℕ → Option A) (E : Exact Is read) (to : (a : A) (w : List ℕ) → IsOne a → w ≡ spell a → Is a w) (from : (a : A) (w : List ℕ) → Is a w → (w ≡ spell a) × IsOne a) where
  abbrev alone : A → List (List ℕ)
  alone a = spell a ∷ []

  word_found : (a : A) (rest : List (List ℕ)) → IsOne a → word_at read (alone a ++ rest) ≡ Ok (a, rest)
  word_found a rest one = ap (or_unfit rest (length (joined (spell a ∷ rest)))) (E.found a (spell a) (to a (spell a) one refl))

  word_only_at : (w : List ℕ) (ws : List (List ℕ)) (o : Option A) (a : A) (rest : List (List ℕ)) → read w ≡ o → or_unfit ws (length (joined (w ∷ ws))) o ≡ Ok (a, rest) → (w ∷ ws ≡ alone a ++ rest) × IsOne a
  word_only_at w ws None a rest r e = absurd (let z = e in cc)
  word_only_at w ws (Some b) a rest r e =
      let pair : (b, ws) ≡ (a, rest) = ok_is (b, ws) (a, rest) e in
      let is = from b w (E.only w b r) in
      let one : b ≡ a = ap (λ (y : A × List (List ℕ)). y.0) pair in
      let first : w ≡ spell a = is.0 ∙ ap spell one in
      let others : ws ≡ rest = ap (λ (y : A × List (List ℕ)). y.1) pair in
      (λ i. first i ∷ others i, subst IsOne one is.1)

  word_only : (ws : List (List ℕ)) (a : A) (rest : List (List ℕ)) → word_at read ws ≡ Ok (a, rest) → (ws ≡ alone a ++ rest) × IsOne a
  word_only [] a rest e = absurd (let z = e in cc)
  word_only (w ∷ ws) a rest e = word_only_at w ws (read w) a rest refl e

  -- no word begins some value's
  word_begun : Begins IsOne alone []
  word_begun = record { value = E.value; more = alone E.value; whole = (from E.value E.word E.some).1; words = refl }

  word_stuck : (w : List ℕ) (ws : List (List ℕ)) → read w ≡ None → (x : List ℕ) (others : List (List ℕ)) → w ∷ ws ≡ x ∷ others → ¬ (Begins IsOne alone ([] ++ x ∷ []))
  word_stuck w ws r x others is b =
      let words : spell b.value ∷ [] ≡ x ∷ b.more = b.words in
      let same : w ≡ spell b.value = cc in
      let z : None ≡ some b.value = sym r ∙ ap read same ∙ E.found b.value (spell b.value) (to b.value (spell b.value) b.whole refl) in
      cc

  word_stops_at : (w : List ℕ) (ws : List (List ℕ)) (o : Option A) (n : ℕ) → read w ≡ o → or_unfit ws (length (joined (w ∷ ws))) o ≡ Err n → StopsAt IsOne alone (w ∷ ws) n
  word_stops_at w ws (Some a) n r e = absurd (let z = e in cc)
  word_stops_at w ws None n r e = record { front = []; rest = w ∷ ws; parts = refl; left = cc; before = word_begun; none = word_stuck w ws r }

  word_stops : (ws : List (List ℕ)) (n : ℕ) → word_at read ws ≡ Err n → StopsAt IsOne alone ws n
  word_stops [] n e = record { front = []; rest = []; parts = refl; left = cc; before = word_begun; none = λ x others is. absurd cc }
  word_stops (w ∷ ws) n e = word_stops_at w ws (read w) n refl e

  pub taken : IsReader IsOne (λ a. spell a ∷ []) (word_at read)
  taken = record { found = word_found; only = word_only; unfit = word_stops }

-- ---- numbers, texts, values, addresses

number_to : (most n : ℕ) (w : List ℕ) → n ≤ most → w ≡ decimal n → IsNumber most n w
number_to most n w le e = record { within = le; digits = e }

number_from : (most n : ℕ) (w : List ℕ) → IsNumber most n w → (w ≡ decimal n) × (n ≤ most)
number_from most n w is = (is.digits, is.within)

pub numbers_read : NumbersAreRead
numbers_read most small = word_reader (λ n. n ≤ most) decimal (IsNumber most) (number_of most) (number_exact most small) (number_to most) (number_from most)

pub numbers_taken : NumbersAreTaken
numbers_taken most small = taken (λ n. n ≤ most) decimal (IsNumber most) (number_of most) (number_exact most small) (number_to most) (number_from most)

pub number_spelled : (most : ℕ) (w : List ℕ) (o : Option ℕ) → most < 2 ^ 64 → o ≡ number_of most w → IfSome o (λ n. w ≡ decimal n)
number_spelled most w o small e = is_spelled (λ n. n ≤ most) decimal (IsNumber most) (number_of most) (number_exact most small) (number_to most) (number_from most) w o e

pub number_denied : (most : ℕ) (w : List ℕ) (o : Option ℕ) → most < 2 ^ 64 → o ≡ number_of most w → IfNone o ((n : ℕ) → n ≤ most → ¬ (w ≡ decimal n))
number_denied most w o small e = is_denied (λ n. n ≤ most) decimal (IsNumber most) (number_of most) (number_exact most small) (number_to most) (number_from most) w o e

text_to : (t w : List ℕ) → IsUtf8 t → w ≡ text_word t → IsText t w
text_to t w u e = record { utf8 = u; spelled = e }

text_from : (t w : List ℕ) → IsText t w → (w ≡ text_word t) × IsUtf8 t
text_from t w is = (is.spelled, is.utf8)

pub texts_read : TextsAreRead
texts_read = word_reader IsUtf8 text_word IsText text_of text_exact text_to text_from

pub texts_taken : TextsAreTaken
texts_taken = taken IsUtf8 text_word IsText text_of text_exact text_to text_from

pub text_spelled : {F : Type 0} (w : List ℕ) (r : Result (Option (List ℕ)) F) → IfOk r (λ o. o ≡ text_of w) → IfOk r (λ o. IfSome o (λ t. w ≡ text_word t))
text_spelled w r h = spelled_ok IsUtf8 text_word IsText text_of text_exact text_to text_from w r h

pub text_valid : {F : Type 0} (w : List ℕ) (r : Result (Option (List ℕ)) F) → IfOk r (λ o. o ≡ text_of w) → IfOk r (λ o. IfSome o IsUtf8)
text_valid w r h = valid_ok IsUtf8 text_word IsText text_of text_exact text_to text_from w r h

pub text_denied : {F : Type 0} (w : List ℕ) (r : Result (Option (List ℕ)) F) → IfOk r (λ o. o ≡ text_of w) → IfOk r (λ o. IfNone o ((t : List ℕ) → IsUtf8 t → ¬ (w ≡ text_word t)))
text_denied w r h = none_ok IsUtf8 text_word IsText text_of text_exact text_to text_from w r h

value_to : (v : DataItem) (w : List ℕ) → IsValue v → w ≡ value_word v → IsValueWord v w
value_to v w is e = record { value = is; spelled = e }

value_from : (v : DataItem) (w : List ℕ) → IsValueWord v w → (w ≡ value_word v) × IsValue v
value_from v w is = (is.spelled, is.value)

pub values_read : ValuesAreRead
values_read = word_reader IsValue value_word IsValueWord value_of value_exact value_to value_from

pub values_taken : ValuesAreTaken
values_taken = taken IsValue value_word IsValueWord value_of value_exact value_to value_from

pub maybe_to : (v : Option DataItem) (w : List ℕ) → IfSome v IsValue → w ≡ or_dash value_word v → IsMaybeValue v w
maybe_to v w h e = value_told v w (record { ranges = h; spelled = e })

pub maybe_from : (v : Option DataItem) (w : List ℕ) → IsMaybeValue v w → (w ≡ or_dash value_word v) × IfSome v IsValue
maybe_from v w is = let t = told_value v w is in (t.spelled, t.ranges)

pub optional_values_taken : OptionalValuesAreTaken
optional_values_taken = taken (λ v. IfSome v IsValue) (or_dash value_word) IsMaybeValue (maybe_of value_of) maybe_value_exact maybe_to maybe_from

pub value_spelled : {F : Type 0} (w : List ℕ) (r : Result (Option DataItem) F) → IfOk r (λ o. o ≡ value_of w) → IfOk r (λ o. IfSome o (λ v. w ≡ value_word v))
value_spelled w r h = spelled_ok IsValue value_word IsValueWord value_of value_exact value_to value_from w r h

pub value_valid : {F : Type 0} (w : List ℕ) (r : Result (Option DataItem) F) → IfOk r (λ o. o ≡ value_of w) → IfOk r (λ o. IfSome o IsValue)
value_valid w r h = valid_ok IsValue value_word IsValueWord value_of value_exact value_to value_from w r h

pub value_denied : {F : Type 0} (w : List ℕ) (r : Result (Option DataItem) F) → IfOk r (λ o. o ≡ value_of w) → IfOk r (λ o. IfNone o ((v : DataItem) → IsValue v → ¬ (w ≡ value_word v)))
value_denied w r h = none_ok IsValue value_word IsValueWord value_of value_exact value_to value_from w r h

address_to : (a : Address) (w : List ℕ) → IsAddress a → w ≡ address_word a → IsAddressWord a w
address_to a w is e = record { within = is; spelled = e }

address_from : (a : Address) (w : List ℕ) → IsAddressWord a w → (w ≡ address_word a) × IsAddress a
address_from a w is = (is.spelled, is.within)

pub addresses_read : AddressesAreRead
addresses_read = word_reader IsAddress address_word IsAddressWord address_of address_exact address_to address_from

pub addresses_taken : AddressesAreTaken
addresses_taken = taken IsAddress address_word IsAddressWord address_of address_exact address_to address_from

pub address_spelled : (w : List ℕ) (o : Option Address) → o ≡ address_of w → IfSome o (λ a. w ≡ address_word a)
address_spelled w o e = is_spelled IsAddress address_word IsAddressWord address_of address_exact address_to address_from w o e

pub address_valid : (w : List ℕ) (o : Option Address) → o ≡ address_of w → IfSome o IsAddress
address_valid w o e = is_valid IsAddress address_word IsAddressWord address_of address_exact address_to address_from w o e

pub address_denied : (w : List ℕ) (o : Option Address) → o ≡ address_of w → IfNone o ((a : Address) → IsAddress a → ¬ (w ≡ address_word a))
address_denied w o e = is_denied IsAddress address_word IsAddressWord address_of address_exact address_to address_from w o e

-- ---- raw bytes

module _ {V F : Type 0} (word digits : List ℕ) (behind : behind_byte 120 word ≡ Some digits) where
  pub bytes_spelled : (r : Result (Option V) F) (view : V → List ℕ) → IfOk r (λ o. option_map view o ≡ bytes_of digits) → IfOk r (λ o. IfSome o (λ v. word ≡ bytes_word (view v)))
  bytes_spelled (Err x) view h = tt
  bytes_spelled (Ok None) view h = tt
  bytes_spelled (Ok (Some v)) view h = let d = bytes_only digits (view v) (sym h) in behind_only 120 word digits behind ∙ ap (λ (x : List ℕ). 120 ∷ x) d.spelled

  pub bytes_denied : (r : Result (Option V) F) (view : V → List ℕ) → IfOk r (λ o. option_map view o ≡ bytes_of digits) → IfOk r (λ o. IfNone o ((bytes : List ℕ) → AllBytes bytes → ¬ (word ≡ bytes_word bytes)))
  bytes_denied (Err x) view h = tt
  bytes_denied (Ok (Some v)) view h = tt
  bytes_denied (Ok None) view h = λ bytes fits e.
      let same : some digits ≡ some (encode_lower bytes) = sym behind ∙ ap (behind_byte 120) e in
      let is : digits ≡ encode_lower bytes = cc in
      let z : None ≡ some bytes = h ∙ ap bytes_of is ∙ bytes_again bytes (AllBytes-at bytes fits) in
      cc

-- a word that doesn't begin with the byte 120 (x) is the word of no bytes
pub no_bytes : (word : List ℕ) → behind_byte 120 word ≡ None → (bytes : List ℕ) → AllBytes bytes → ¬ (word ≡ bytes_word bytes)
no_bytes word n bytes fits e = let z : None ≡ some (encode_lower bytes) = sym n ∙ ap (behind_byte 120) e in cc

-- ---- some words

module _ {A : Type 0} (IsOne : A → Type 0) (spell : A → List (List ℕ)) (L : A → List (List ℕ) → Type 0) (read : List (List ℕ) → Parsed A) (lawful : (k : ℕ) → Lawful k Anything L read) (to : (a : A) → IsOne a → L a (spell a)) (from : (a : A) (ws : List (List ℕ)) → L a ws → (ws ≡ spell a) × IsOne a) where
  read_found : (a : A) (rest : List (List ℕ)) → IsOne a → read (spell a ++ rest) ≡ Ok (a, rest)
  read_found a rest one = (lawful (suc (length (spell a ++ rest)))).found a (spell a) rest (to a one) tt (omega arith)

  read_only : (ws : List (List ℕ)) (a : A) (rest : List (List ℕ)) → read ws ≡ Ok (a, rest) → (ws ≡ spell a ++ rest) × IsOne a
  read_only ws a rest e =
      let h = (lawful (suc (length ws))).only ws a rest (omega arith) e in
      let l = from a h.1 h.2 in
      (h.3 ∙ ap (λ (x : List (List ℕ)). x ++ rest) l.0, l.1)

  begun : (ws : List (List ℕ)) (n : ℕ) (s : Stops L read ws n) → Begins IsOne spell s.front
  begun ws n s = let l = from s.value (s.front ++ s.more) s.begun in record { value = s.value; more = s.more; whole = l.1; words = sym l.0 }

  stuck : (ws : List (List ℕ)) (n : ℕ) (s : Stops L read ws n) (x : List ℕ) (others : List (List ℕ)) → s.rest ≡ x ∷ others → ¬ (Begins IsOne spell (s.front ++ x ∷ []))
  stuck ws n s x others e b =
      let whole : spell b.value ++ [] ≡ s.front ++ x ∷ b.more = append-nil (spell b.value) ∙ b.words ∙ append_assoc s.front (x ∷ []) b.more in
      let bad = s.again x others b.more e in
      let good = read_found b.value [] b.whole in
      let z = sym good ∙ ap read whole ∙ bad in
      cc

  read_stops : (ws : List (List ℕ)) (n : ℕ) → read ws ≡ Err n → StopsAt IsOne spell ws n
  read_stops ws n e =
      let s = (lawful (suc (length ws))).stops ws n (omega arith) e in
      record { front = s.front; rest = s.rest; parts = s.parts; left = s.left; before = begun ws n s; none = λ x others is. stuck ws n s x others is }

  pub reader : IsReader IsOne spell read
  reader = record { found = read_found; only = read_only; unfit = read_stops }

-- ---- objectives and locators

objective_to : (o : Objective) → IsObjective o → ObjectiveWords o (objective_words o)
objective_to o h = record { ranges = h; spelled = refl }

objective_from : (o : Objective) (ws : List (List ℕ)) → ObjectiveWords o ws → (ws ≡ objective_words o) × IsObjective o
objective_from o ws w = (w.spelled, w.ranges)

pub objectives_read : ObjectivesAreRead
objectives_read = reader IsObjective objective_words ObjectiveWords objective_at objective_lawful objective_to objective_from

locator_to : (l : Locator) → IsLocator l → LocatorWords l (locator_words l)
locator_to l h = record { ranges = h; spelled = refl }

locator_from : (l : Locator) (ws : List (List ℕ)) → LocatorWords l ws → (ws ≡ locator_words l) × IsLocator l
locator_from l ws w = (w.spelled, w.ranges)

pub locators_read : LocatorsAreRead
locators_read = reader IsLocator locator_words LocatorWords locator_at locator_lawful locator_to locator_from

optional_to : (l : Option Locator) → IfSome l IsLocator → OptionalLocatorWords l (locator_or_none l)
optional_to l h = record { ranges = h; spelled = refl }

optional_from : (l : Option Locator) (ws : List (List ℕ)) → OptionalLocatorWords l ws → (ws ≡ locator_or_none l) × IfSome l IsLocator
optional_from l ws w = (w.spelled, w.ranges)

pub optional_locators_read : OptionalLocatorsAreRead
optional_locators_read = reader (λ l. IfSome l IsLocator) locator_or_none OptionalLocatorWords optional_locator_at optional_lawful optional_to optional_from
