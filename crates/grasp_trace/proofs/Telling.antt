-- Lines that are told, or left out.
use Rattle.std.proofs.Common.{◌≡◌, ◌-◌, ◌⊎◌, inl, inr, ℕ, List, ◌++◌, length, take, Option, None, Some, Result, Ok, Err, OnErr, IfOk, refl, sym, ap, subst, ◌∙◌, append-nil, arith, rules}
use Rattle.std.proofs.KnownBytes.{Keeps-refl}
use Rattle.std.specs.Io.KnownBytes.{Appends, Keeps}
use Rattle.grasp_cbor.specs.Bytes.{AllBytes}
use Rattle.grasp_io.proofs.Facts.{rose_before}
use Rattle.grasp_io.specs.Known.{AppendsFront}
use Rattle.grasp_wire.proofs.OneAnswers.{some_answer}
use Rattle.grasp_trace.specs.Lines.{IsDatagramLine, datagram_line, most_bytes}
use Rattle.grasp_trace.specs.Sheet.{Sheet, NeverFalls, HasGap, Tells, IsLeftOut, IsQuiet, TellsOne}

-- what is kept grows by nothing
pub keeps_front : (a b : Option (List ℕ)) (line : List ℕ) → Keeps a b → AppendsFront a b line
keeps_front None b line k = tt
keeps_front (Some x) None line k = absurd k
keeps_front (Some x) (Some y) line k =
    let none : length y - length x ≡ 0 = omega (arith, ap length k) in
    k ∙ sym (append-nil x) ∙ ap (λ n. x ++ take n line) (sym none)

-- a line that is left out is told in part at most
pub left_out_tells : (line : List ℕ) (old new : Sheet) → IsLeftOut old new → Tells line old new
left_out_tells line old new l = record { front = keeps_front old.written new.written line l.kept; whole = inr (inr l.counted); never_falls = l.never_falls }

-- a line that is told or left out, where there is one to be told
pub told_one : {A E : Type 0} (P : List ℕ → Type 0) (bytes : A → List ℕ) (r : Result A E) (old new : Sheet) → IfOk r (λ t. P (bytes t)) → IfOk r (λ t. Tells (bytes t) old new)
    → OnErr r (IsLeftOut old new) → (line : List ℕ) → P line → TellsOne P old new
told_one P bytes (Ok t) old new p q l line is = record { line = bytes t; is = p; tells = q }
told_one P bytes (Err e) old new p q l line is = record { line = line; is = is; tells = left_out_tells line old new l }

-- a known line that is written or left out
pub told_known : {A E : Type 0} (known : List ℕ) (bytes : A → List ℕ) (r : Result A E) (old new : Sheet) → IfOk r (λ t. bytes t ≡ known) → IfOk r (λ t. Tells (bytes t) old new)
    → OnErr r (IsLeftOut old new) → TellsOne (λ line. line ≡ known) old new
told_known known bytes r old new p q l = told_one (λ line. line ≡ known) bytes r old new p q l known refl

-- each datagram has a line
pub some_line : (what : List ℕ) (link neighbour : ℕ) (bytes : List ℕ) → AllBytes bytes → (line : List ℕ) × IsDatagramLine what link neighbour bytes line
some_line what link neighbour bytes all =
    let a = some_answer bytes most_bytes (omega arith) all in
    (datagram_line what link neighbour (length bytes) a.0, record { decoded = a.0; answers = a.1; sure = a.2; line_is = refl })

pub told_datagram : {A E : Type 0} (what : List ℕ) (link neighbour : ℕ) (sent : List ℕ) (bytes : A → List ℕ) (r : Result A E) (old new : Sheet) → AllBytes sent
    → IfOk r (λ t. IsDatagramLine what link neighbour sent (bytes t)) → IfOk r (λ t. Tells (bytes t) old new)
    → OnErr r (IsLeftOut old new) → TellsOne (IsDatagramLine what link neighbour sent) old new
told_datagram what link neighbour sent bytes r old new all p q l =
    let s = some_line what link neighbour sent all in
    told_one (IsDatagramLine what link neighbour sent) bytes r old new p q l s.0 s.1

-- nothing changed
pub is_quiet : (s : Sheet) → IsQuiet s s
is_quiet s = record { kept = Keeps-refl s.written; never_falls = record { faults = search rules; left_out = search rules } }

-- a line that is known was told
pub known_told : (known : List ℕ) (old new : Sheet) → TellsOne (λ line. line ≡ known) old new → Tells known old new
known_told known old new t = subst (λ line. Tells line old new) t.is t.tells

-- ---- a line behind nothing

keeps_then_front : (a b c : Option (List ℕ)) (line : List ℕ) → Keeps a b → AppendsFront b c line → AppendsFront a c line
keeps_then_front None b c line p q = tt
keeps_then_front (Some x) None c line p q = absurd p
keeps_then_front (Some x) (Some y) c line p q = subst (λ z. AppendsFront (Some z) c line) p q

quiet_appends : (a b c : Option (List ℕ)) (line : List ℕ) → Keeps a b → Appends b c line → Appends a c line
quiet_appends None b c line k p = tt
quiet_appends (Some x) None c line k p = absurd k
quiet_appends (Some x) (Some y) c line k p = subst (λ z. Appends (Some z) c line) k p

quiet_whole : (line : List ℕ) (a b c : Sheet) → IsQuiet a b → Appends b.written c.written line ⊎ HasGap b c → Appends a.written c.written line ⊎ HasGap a c
quiet_whole line a b c q (inl p) = inl (quiet_appends a.written b.written c.written line q.kept p)
quiet_whole line a b c q (inr (inl r)) = inr (inl (rose_before a.faults b.faults c.faults q.never_falls.faults r))
quiet_whole line a b c q (inr (inr r)) = inr (inr (rose_before a.left_out b.left_out c.left_out q.never_falls.left_out r))

pub falls_on : (a b c : Sheet) → NeverFalls a b → NeverFalls b c → NeverFalls a c
falls_on a b c p q = record { faults = omega (arith, p.faults, q.faults); left_out = omega (arith, p.left_out, q.left_out) }

pub quiet_tells : (line : List ℕ) (a b c : Sheet) → IsQuiet a b → Tells line b c → Tells line a c
quiet_tells line a b c q t = record {
  front = keeps_then_front a.written b.written c.written line q.kept t.front;
  whole = quiet_whole line a b c q t.whole;
  never_falls = falls_on a b c q.never_falls t.never_falls;
}

pub quiet_then_one : (P : List ℕ → Type 0) (a b c : Sheet) → IsQuiet a b → TellsOne P b c → TellsOne P a c
quiet_then_one P a b c q t = record { line = t.line; is = t.is; tells = quiet_tells t.line a b c q t.tells }
