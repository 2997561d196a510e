-- What stays when more bytes come.
use Rattle.std.proofs.Common.{◌≡◌, ◌≢◌, ℕ, ◌+◌, List, ◌++◌, length, append_assoc, Bool, true, false, Option, Some, None, Result, Ok, Err, refl, sym, ap, subst, ◌∙◌, arith}
use Rattle.std.proofs.lemmas.List.{length-append}
use Rattle.std.specs.Prelude.{OnOk, is_some}
use Rattle.grasp_cbor.specs.Bytes.{AllBytes}
use Rattle.grasp_cbor.specs.declared.walker.FaultName.TheVariants as name
use Rattle.grasp_cbor.specs.declared.read.ItemFault.TheVariants.{Malformed, NotText, TooDeep, TooLong}
use Rattle.grasp_cbor.proofs.HeadBytes.{AllBytes-back, AllBytes-append}
use Rattle.grasp_cbor.proofs.Kept.{ends_stays}
use Rattle.grasp_types.specs.declared.message.Message.{Message}
use Rattle.grasp_wire.specs.declared.fault.CutFault.{CutFault}
use Rattle.grasp_wire.specs.declared.cutter.Cutter.{Cutter}
use Rattle.grasp_wire.specs.Wire.{AreWireForms}
use Rattle.grasp_wire.specs.Stream.{RestKind, IsRest, Divides, waiting, too_long, not_message, faulty}
use Rattle.grasp_wire.specs.Cutter.{Past, HasFault, after_feed}
use Rattle.grasp_wire.specs.Stands.{Stands, KeepsRest, KeepsUp, IsSame, cut_limit, fed_count, rest_of}
use Rattle.grasp_wire.proofs.Facts.{waits_for_more}
use Rattle.grasp_wire.proofs.ReadingOn.{whole_stays}
use Rattle.grasp_wire.proofs.Rests.{no_message}

-- the kind of a rest stays
rest_stays : (rest more : List ℕ) (limit : ℕ) (kind : RestKind) → kind ≢ waiting → IsRest rest limit kind → IsRest (rest ++ more) limit kind
rest_stays rest more limit waiting other h = absurd (other refl)
rest_stays rest more limit too_long other h = ends_stays rest more limit TooLong h
rest_stays rest more limit not_message other h = record { item = h.item; used = h.used; whole = whole_stays rest more limit h.used h.item h.whole; no_message = h.no_message }
rest_stays rest more limit (faulty name.Malformed at) other h = ends_stays rest more limit (Malformed at) h
rest_stays rest more limit (faulty name.NotText at) other h = ends_stays rest more limit (NotText at) h
rest_stays rest more limit (faulty name.TooDeep at) other h = ends_stays rest more limit (TooDeep at) h

-- the division of a stream whose rest isn't waiting stays, with the new bytes behind the rest
pub division_stays : (stream more : List ℕ) (limit : ℕ) (messages : List Message) (rest : List ℕ) (kind : RestKind) → AllBytes (stream ++ more) → Divides stream limit messages rest kind
    → kind ≢ waiting → Divides (stream ++ more) limit messages (rest ++ more) kind
division_stays stream more limit messages rest kind bytes d other =
    let s = d.splits in
    let parts : stream ++ more ≡ s.front ++ (rest ++ more) = ap (λ x. x ++ more) s.parts ∙ append_assoc s.front rest more in
    let h : IsRest (rest ++ more) limit kind = rest_stays rest more limit kind other d.kind_is in
    record {
      splits = record { front = s.front; forms = s.forms; parts = parts; no_more = no_message (rest ++ more) limit kind (AllBytes-back s.front (rest ++ more) (subst AllBytes parts bytes)) h };
      kind_is = h;
    }

pub fault_stays : (limit : ℕ) (past : Past) (piece : List ℕ) (fault : CutFault) → AllBytes (past.fed ++ piece) → HasFault limit past fault → HasFault limit (after_feed past piece) fault
fault_stays limit past piece fault bytes h = record {
  front = h.front;
  rest = h.rest ++ piece;
  kind = h.kind;
  parts = ap (λ x. x ++ piece) h.parts ∙ append_assoc h.front h.rest piece;
  divides = division_stays past.fed piece limit past.given h.rest h.kind bytes h.divides (waits_for_more (length h.front) h.kind fault h.fault_is);
  fault_is = h.fault_is;
}

kept_fault : (c new : Cutter) (past : Past) (piece : List ℕ) (f : Option CutFault) (fault : CutFault) → f ≡ Some fault → AllBytes (past.fed ++ piece) → cut_limit new ≡ cut_limit c → KeepsUp f c past → KeepsUp f new (after_feed past piece)
kept_fault c new past piece f fault e bytes limit h =
    let k : HasFault (cut_limit c) past fault = subst (λ x. KeepsUp x c past) e h in
    let n : HasFault (cut_limit new) (after_feed past piece) fault = subst (λ l. HasFault l (after_feed past piece) fault) (sym limit) (fault_stays (cut_limit c) past piece fault bytes k) in
    subst (λ x. KeepsUp x new (after_feed past piece)) (sym e) n

-- after a fault the bytes are counted
pub stands_counted : (c new : Cutter) (past : Past) (piece : List ℕ) (fault : CutFault) → Stands c past → c.fault ≡ Some fault → AllBytes piece
    → fed_count new ≡ fed_count c + length piece → cut_limit new ≡ cut_limit c → new.fault ≡ c.fault → Stands new (after_feed past piece)
stands_counted c new past piece fault s is bytes count limit same =
    let all : AllBytes (past.fed ++ piece) = AllBytes-append past.fed piece s.bytes bytes in
    record {
      bytes = all;
      count = let n = s.count in omega (arith, length-append past.fed piece);
      fault = s.fault ∙ sym same;
      keeps = kept_fault c new past piece past.fault fault (s.fault ∙ is) all limit s.keeps;
    }

-- before one they are kept too
pub stands_fed : (c d new : Cutter) (past : Past) (piece : List ℕ) → Stands c past → c.fault ≡ None → AllBytes piece → IsSame c d
    → rest_of new ≡ rest_of d ++ piece → fed_count new ≡ fed_count d + length piece → cut_limit new ≡ cut_limit d → new.fault ≡ None → Stands new (after_feed past piece)
stands_fed c d new past piece s none bytes same rest count limit is =
    let e : past.fault ≡ None = s.fault ∙ none in
    let k : KeepsRest c past = subst (λ f. KeepsUp f c past) e s.keeps in
    let kept : KeepsRest new (after_feed past piece) = record {
      front = k.front;
      forms = subst (λ n. AreWireForms past.given k.front n) (sym (limit ∙ same.limit)) k.forms;
      parts = ap (λ x. x ++ piece) k.parts ∙ append_assoc k.front (rest_of c) piece ∙ ap (λ x. k.front ++ (x ++ piece)) (sym same.rest) ∙ ap (λ x. k.front ++ x) (sym rest);
    } in
    record {
      bytes = AllBytes-append past.fed piece s.bytes bytes;
      count = let n = s.count in let m = same.count in omega (arith, length-append past.fed piece);
      fault = e ∙ sym is;
      keeps = subst (λ f. KeepsUp f new (after_feed past piece)) (sym e) kept;
    }

pub both_ok : {T E A B C : Type 0} (r : Result T E) → OnOk r A → OnOk r B → (A → B → C) → OnOk r C
both_ok (Ok x) a b f = f a b
both_ok (Err e) a b f = tt

pub some_in : (f : Option CutFault) (b : Bool) → b ≡ is_some f → b ≡ true → (fault : CutFault) × (f ≡ Some fault)
some_in (Some fault) b e t = (fault, refl)
some_in None b e t = absurd (let q : false ≡ true = sym e ∙ t in cc)

pub none_in : (f : Option CutFault) (b : Bool) → b ≡ is_some f → b ≡ false → f ≡ None
none_in (Some fault) b e t = absurd (let q : true ≡ false = sym e ∙ t in cc)
none_in None b e t = refl
