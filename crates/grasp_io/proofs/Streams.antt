-- What several reads or writes do together to the known bytes.
use Rattle.std.proofs.Common.{◌≡◌, ◌≤◌, ◌+◌, ◌-◌, ℕ, List, [], ◌++◌, length, take, drop, Option, None, Some, refl, sym, ap, ◌∙◌, subst, arith, append-nil, append_assoc, take-append-drop, length-append}
use Rattle.std.proofs.Math.Seq.{take-append-add}
use Rattle.std.proofs.lemmas.List.{take_rest}
use Rattle.std.specs.Io.KnownBytes.{Appends, Consumes}
use Rattle.std.proofs.lemmas.Grind.{common_steps}
use Rattle.grasp_io.specs.Known.{IsEndOf, AppendsFront, Passes}

take_front : (done rest : List ℕ) (n : ℕ) → n ≡ length done → take n (done ++ rest) ≡ done
take_front done rest n e = grind (arith, common_steps)

take_past : (done rest : List ℕ) (n k : ℕ) → n ≡ length done + k → take n (done ++ rest) ≡ done ++ take k rest
take_past done rest n k e = ap (λ m. take m (done ++ rest)) e ∙ take-append-add done rest k

drop_front : (done rest : List ℕ) (n : ℕ) → n ≡ length done → drop n (done ++ rest) ≡ rest
drop_front done rest n e = grind (arith, common_steps)

-- a front of the rest goes behind what is done
pub goes_on : (all done rest : List ℕ) (n : ℕ) → all ≡ done ++ rest → all ≡ (done ++ take n rest) ++ take (length rest - n) (drop n rest)
goes_on all done rest n e =
    e ∙ ap (λ l. done ++ l) (sym (take-append-drop n rest)) ∙ sym (append_assoc done (take n rest) (drop n rest)) ∙ ap (λ l. (done ++ take n rest) ++ l) (sym (take_rest rest n))

-- after these bytes, a front of more
pub appends_then_front : (a b c : Option (List ℕ)) (bytes more : List ℕ) → Appends a b bytes → AppendsFront b c more → AppendsFront a c (bytes ++ more)
appends_then_front None b c bytes more p q = tt
appends_then_front (Some x) None c bytes more p q = absurd p
appends_then_front (Some x) (Some y) None bytes more p q = absurd q
appends_then_front (Some x) (Some y) (Some z) bytes more p q =
    let k = length z - length y in
    let longer : length y ≤ length z = omega (arith, ap length q, length-append y (take k more)) in
    let n : length z - length x ≡ length bytes + k = omega (arith, longer, ap length p, length-append x bytes) in
    q ∙ ap (λ l. l ++ take k more) p ∙ append_assoc x bytes (take k more) ∙ ap (λ l. x ++ l) (sym (take_past bytes more _ k n))

-- what was consumed leaves an end
pub Consumes-end : (a b : Option (List ℕ)) (bytes : List ℕ) → Consumes a b bytes → IsEndOf a b
Consumes-end None b bytes p = tt
Consumes-end (Some x) None bytes p = absurd p
Consumes-end (Some x) (Some y) bytes p =
    let n : length x - length y ≡ length bytes = omega (arith, ap length p, length-append bytes y) in
    sym (drop_front bytes y _ n) ∙ ap (drop (length x - length y)) (sym p)

-- ---- a buffer in front of a sink

front_is : (x y front held bytes : List ℕ) → y ≡ x ++ front → bytes ≡ front ++ held → y ≡ x ++ take (length y - length x) bytes
front_is x y front held bytes p q =
    let n : length y - length x ≡ length front = omega (arith, ap length p, length-append x front) in
    p ∙ ap (λ l. x ++ l) (sym (take_front front held _ n) ∙ ap (take (length y - length x)) (sym q))

rest_is : (x y front held bytes : List ℕ) → y ≡ x ++ front → bytes ≡ front ++ held → held ≡ drop (length y - length x) bytes
rest_is x y front held bytes p q =
    let n : length y - length x ≡ length front = omega (arith, ap length p, length-append x front) in
    sym (drop_front front held _ n) ∙ ap (drop (length y - length x)) (sym q)

-- nothing is written yet, and what is held is all
pub passes_held : (a : Option (List ℕ)) (held : List ℕ) → Passes a a held held
passes_held None held = tt
passes_held (Some x) held = (front_is x x [] held held (sym (append-nil x)) refl, rest_is x x [] held held (sym (append-nil x)) refl)

-- all is written, and nothing is held
pub passes_all : (a b : Option (List ℕ)) (bytes : List ℕ) → Appends a b bytes → Passes a b [] bytes
passes_all None b bytes p = tt
passes_all (Some x) None bytes p = absurd p
passes_all (Some x) (Some y) bytes p = (front_is x y bytes [] bytes p (sym (append-nil bytes)), rest_is x y bytes [] bytes p (sym (append-nil bytes)))

-- where the buffer holds nothing, all of these bytes and no others were written
pub passes_nothing_held : (a b : Option (List ℕ)) (held bytes : List ℕ) → held ≡ [] → Passes a b held bytes → Appends a b bytes
passes_nothing_held None b held bytes none p = tt
passes_nothing_held (Some x) None held bytes none p = absurd p
passes_nothing_held (Some x) (Some y) held bytes none p =
    let k = length y - length x in
    let whole : take k bytes ≡ bytes = sym (append-nil (take k bytes)) ∙ ap (λ l. take k bytes ++ l) (sym none ∙ p.1) ∙ take-append-drop k bytes in
    p.0 ∙ ap (λ l. x ++ l) whole

-- of these bytes the held ones, and then more, pass on
pub passes_more : (a b c : Option (List ℕ)) (held bytes later more : List ℕ) → Passes a b held bytes → Passes b c later (held ++ more) → Passes a c later (bytes ++ more)
passes_more None b c held bytes later more p q = tt
passes_more (Some x) None c held bytes later more p q = absurd p
passes_more (Some x) (Some y) None held bytes later more p q = absurd q
passes_more (Some x) (Some y) (Some z) held bytes later more p q =
    let k = length y - length x in
    let m = length z - length y in
    let first = take k bytes in
    let second = take m (held ++ more) in
    let grown : z ≡ x ++ (first ++ second) = q.0 ∙ ap (λ l. l ++ second) p.0 ∙ append_assoc x first second in
    let split : bytes ++ more ≡ (first ++ second) ++ later =
    ap (λ l. l ++ more) (sym (take-append-drop k bytes) ∙ ap (λ l. first ++ l) (sym p.1)) ∙ append_assoc first held more
    ∙ ap (λ l. first ++ l) (sym (take-append-drop m (held ++ more)) ∙ ap (λ l. second ++ l) (sym q.1)) ∙ sym (append_assoc first second later) in
    (front_is x z (first ++ second) later (bytes ++ more) grown split, rest_is x z (first ++ second) later (bytes ++ more) grown split)

-- a front of the held bytes and more is a front of all
pub passes_then_front : (a b c : Option (List ℕ)) (held bytes more : List ℕ) → Passes a b held bytes → AppendsFront b c (held ++ more) → AppendsFront a c (bytes ++ more)
passes_then_front None b c held bytes more p q = tt
passes_then_front (Some x) None c held bytes more p q = absurd p
passes_then_front (Some x) (Some y) None held bytes more p q = absurd q
passes_then_front (Some x) (Some y) (Some z) held bytes more p q =
    (passes_more (Some x) (Some y) (Some z) held bytes (drop (length z - length y) (held ++ more)) more p (q, refl)).0

-- a front of the held bytes is a front of all
pub passes_then_held : (a b c : Option (List ℕ)) (held bytes : List ℕ) → Passes a b held bytes → AppendsFront b c held → AppendsFront a c bytes
passes_then_held a b c held bytes p q =
    subst (AppendsFront a c) (append-nil bytes) (passes_then_front a b c held bytes [] p (subst (AppendsFront b c) (sym (append-nil held)) q))

-- the held bytes are written, and so all are
pub passes_then_all : (a b c : Option (List ℕ)) (held bytes : List ℕ) → Passes a b held bytes → Appends b c held → Appends a c bytes
passes_then_all a b c held bytes p q =
    passes_nothing_held a c [] bytes refl
    (subst (Passes a c []) (append-nil bytes) (passes_more a b c held bytes [] [] p (subst (Passes b c []) (sym (append-nil held)) (passes_all b c held q))))

-- a front is a front of more
pub front_of_more : (a b : Option (List ℕ)) (bytes more : List ℕ) → AppendsFront a b bytes → AppendsFront a b (bytes ++ more)
front_of_more None b bytes more p = tt
front_of_more (Some x) None bytes more p = absurd p
front_of_more (Some x) (Some y) bytes more p =
    let k = length y - length x in
    let split : bytes ++ more ≡ take k bytes ++ (drop k bytes ++ more) =
    ap (λ l. l ++ more) (sym (take-append-drop k bytes)) ∙ append_assoc (take k bytes) (drop k bytes) more in
    front_is x y (take k bytes) (drop k bytes ++ more) (bytes ++ more) p split
