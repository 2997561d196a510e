-- Raw bytes are read where their word is, and nowhere else.
use Rattle.std.proofs.Common.{◌≡◌, ℕ, List, ◌∷◌, Option, Some, None, refl, sym, ap, ◌∙◌}
use Rattle.grasp_cbor.specs.Bytes.{AllBytes}
use Rattle.grasp_cbor.proofs.HeadBytes.{AllBytes-at, AllBytes-from}
use Rattle.grasp_text.specs.Line.{bytes_word}
use Rattle.grasp_text.specs.Readers.{IsWordReader}
use Rattle.grasp_text.specs.Reading.{bytes_of, behind_byte, then_some}
use Rattle.grasp_text.proofs.Leaves.{behind_only}
use Rattle.grasp_text.proofs.NumberWords.{some, is_none}
use Rattle.grasp_text.proofs.ValueWords.{bytes_only, bytes_again}
use Rattle.grasp_record.specs.Grammar.{octets_of}

octets_found : (bytes : List ℕ) → AllBytes bytes → octets_of (bytes_word bytes) ≡ Some bytes
unfolding octets_of
octets_found bytes fits = bytes_again bytes (AllBytes-at bytes fits)

octets_at : (word bytes : List ℕ) (o : Option (List ℕ)) → behind_byte 120 word ≡ o → then_some o bytes_of ≡ Some bytes → (word ≡ bytes_word bytes) × AllBytes bytes
octets_at word bytes None b e = absurd (let z : None ≡ some bytes = e in cc)
octets_at word bytes (Some digits) b e =
    let d = bytes_only digits bytes e in
    (behind_only 120 word digits b ∙ ap (λ (x : List ℕ). 120 ∷ x) d.spelled, AllBytes-from bytes d.fits)

octets_only : (word bytes : List ℕ) → octets_of word ≡ Some bytes → (word ≡ bytes_word bytes) × AllBytes bytes
unfolding octets_of
octets_only word bytes e = octets_at word bytes (behind_byte 120 word) refl e

pub read_octets : IsWordReader AllBytes bytes_word octets_of
read_octets = record { found = octets_found; only = octets_only }

-- the bytes of a word that is theirs
pub octets_spelled : (word bytes : List ℕ) → AllBytes bytes → word ≡ bytes_word bytes → some bytes ≡ octets_of word
octets_spelled word bytes fits e = sym (ap octets_of e ∙ octets_found bytes fits)

-- a word of no bytes
pub octets_none : (word : List ℕ) → ((bytes : List ℕ) → AllBytes bytes → ¬ (word ≡ bytes_word bytes)) → None ≡ octets_of word
octets_none word h = sym (is_none (octets_of word) (λ bytes e. let d = octets_only word bytes e in h bytes d.1 d.0))
