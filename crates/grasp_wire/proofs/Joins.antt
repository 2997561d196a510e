-- Wire forms, one after the other.
use Rattle.std.proofs.Common.{◌≡◌, ◌<◌, ℕ, List, [], ◌∷◌, ◌++◌, take, append-nil, append_assoc, subst, length, sym, refl, ◌∙◌, ap, arith}
use Rattle.std.proofs.lemmas.List.{length-append, append_cancel_left, take_at}
use Rattle.grasp_cbor.specs.Bytes.{AllBytes}
use Rattle.grasp_cbor.specs.DataItem.{DataItem, unsigned}
use Rattle.grasp_cbor.specs.Encodes.{Encodes}
use Rattle.grasp_cbor.specs.Head.{direct}
use Rattle.grasp_cbor.proofs.Whole.{one_encodes}
use Rattle.grasp_types.proofs.FromItems.{no_two_messages}
use Rattle.grasp_types.specs.Message.{item_of}
use Rattle.grasp_types.specs.declared.message.Message.{Message}
use Rattle.grasp_wire.specs.Wire.{IsWireForm, AreWireForms}
use Rattle.grasp_wire.specs.Stream.{BeginsNoMessage, Divides, RestKind, IsRest}
use Rattle.grasp_wire.proofs.Rests.{no_message}

-- an encoding has bytes: that of 0 would follow no bytes
pub no_bytes : (t : DataItem) (s : List ℕ) → Encodes t s → 0 < length s
no_bytes t [] p =
    let zero : Encodes (unsigned 0) (0 ∷ []) = record { encoding = (direct, omega arith, refl); within = omega arith } in
    let same = one_encodes t (unsigned 0) [] (0 ∷ []) (0 ∷ []) [] p zero refl in
    absurd (cc same.1)
no_bytes t (b ∷ s) p = omega arith

-- two wire forms at the front of one text are one
pub record AreOne (a b : Message) (s t more other : List ℕ) : Type 0 where
  pub message : a ≡ b
  pub form : s ≡ t
  pub rest : more ≡ other

pub one_form : (a b : Message) (s t more other : List ℕ) (limit : ℕ) → IsWireForm a s limit → IsWireForm b t limit → s ++ more ≡ t ++ other → AreOne a b s t more other
one_form a b s t more other limit f g e =
    let same = one_encodes (item_of a) (item_of b) s t more other f.encodes g.encodes e in
    record {
      message = no_two_messages a b f.is_message g.is_message same.0;
      form = same.1;
      rest = append_cancel_left t more other (ap (λ x. x ++ more) (sym same.1) ∙ e);
    }

-- one more
pub joined_more : (limit : ℕ) (ms : List Message) (m : Message) (s front : List ℕ) → AreWireForms ms s limit → IsWireForm m front limit → AreWireForms (ms ++ m ∷ []) (s ++ front) limit
joined_more limit [] m s front joined form = (front, [], form, refl, ap (λ x. x ++ front) joined ∙ sym (append-nil front))
joined_more limit (n ∷ ms) m s front j form = (j.0, j.1 ++ front, j.2, joined_more limit ms m j.1 front j.3 form, ap (λ x. x ++ front) j.4 ∙ append_assoc j.0 j.1 front)

-- bytes that begin with a wire form begin with a message
pub begins : (m : Message) (front rest s : List ℕ) (limit : ℕ) → IsWireForm m front limit → s ≡ front ++ rest → BeginsNoMessage s limit → ⊥
begins m front rest s limit form e none =
    let at : take (length front) s ≡ front = ap (take (length front)) e ∙ take_at front rest (length front) refl in
    none m (length front) (omega (arith, ap length e, length-append front rest)) (subst (λ x. IsWireForm m x limit) (sym at) form)

-- two joins at the front of one text, where the first rest begins with no message: the second is a beginning of the first
pub record IsJoin (ms bs : List Message) (rest : List ℕ) (other : List ℕ) (limit : ℕ) : Type 0 where
  pub more : List Message
  pub middle : List ℕ
  pub all : bs ≡ ms ++ more
  pub forms : AreWireForms more middle limit
  pub parts : rest ≡ middle ++ other

-- where the text behind the second begins with no message, the first come first in the second
pub joined_first : (ms bs : List Message) (s t rest other : List ℕ) (limit : ℕ) → AreWireForms ms s limit → AreWireForms bs t limit → s ++ rest ≡ t ++ other → BeginsNoMessage other limit → IsJoin ms bs rest other limit
joined_first [] bs s t rest other limit f g e none =
    record { more = bs; middle = t; all = refl; forms = g; parts = ap (λ x. x ++ rest) (sym f) ∙ e }
joined_first (m ∷ ms) [] s t rest other limit f g e none =
    absurd (begins m f.0 (f.1 ++ rest) other limit f.2 (sym (ap (λ x. x ++ other) g) ∙ sym e ∙ ap (λ x. x ++ rest) f.4 ∙ append_assoc f.0 f.1 rest) none)
joined_first (m ∷ ms) (b ∷ bs) s t rest other limit f g e none =
    let parts : f.0 ++ (f.1 ++ rest) ≡ g.0 ++ (g.1 ++ other) = sym (append_assoc f.0 f.1 rest) ∙ ap (λ x. x ++ rest) (sym f.4) ∙ e ∙ ap (λ x. x ++ other) g.4 ∙ append_assoc g.0 g.1 other in
    let same = one_form m b f.0 g.0 (f.1 ++ rest) (g.1 ++ other) limit f.2 g.2 parts in
    let next = joined_first ms bs f.1 g.1 rest other limit f.3 g.3 same.rest none in
    record {
      more = next.more;
      middle = next.middle;
      all = λ i. (sym same.message i) ∷ next.all i;
      forms = next.forms;
      parts = next.parts;
    }

-- one more at the front
pub divides_more : (limit : ℕ) (m : Message) (form s : List ℕ) (ms : List Message) (rest : List ℕ) (kind : RestKind) → IsWireForm m form limit → Divides s limit ms rest kind → Divides (form ++ s) limit (m ∷ ms) rest kind
divides_more limit m form s ms rest kind f d =
    let p = d.splits in
    record {
      splits = record {
        front = form ++ p.front;
        forms = (form, p.front, f, p.forms, refl);
        parts = ap (λ x. form ++ x) p.parts ∙ sym (append_assoc form p.front rest);
        no_more = p.no_more;
      };
      kind_is = d.kind_is;
    }

-- a rest alone
pub divides_alone : (limit : ℕ) (s : List ℕ) (kind : RestKind) → AllBytes s → IsRest s limit kind → Divides s limit [] s kind
divides_alone limit s kind bytes h = record { splits = record { front = []; forms = refl; parts = refl; no_more = no_message s limit kind bytes h }; kind_is = h }
